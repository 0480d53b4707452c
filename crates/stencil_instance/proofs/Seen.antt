-- Atoms that a desk has seen, each with its text.
use Rattle.std.proofs.Common.{◌≡◌, ℕ, zero, suc, ◌+◌, ◌<◌, List, [], ◌∷◌, ◌++◌, length, take, slice_index_or, refl, sym, ◌∙◌, ap₂, subst, arith}
use Rattle.std.proofs.lemmas.List.{take_more}
use Rattle.atom_table.specs.declared.atoms.Atom.{Atom}
use Rattle.atom_table.specs.DeskView.{DeskView}
use Rattle.atom_table.specs.Views.{SeesText, SeesAtom, StillSees, OneAtomEach}
use Rattle.atom_table.specs.Words.{Has}
use Rattle.atom_table.proofs.Probes.{sees_still}
use Rattle.stencil_data.specs.MergedView.{MergedView}
use Rattle.stencil_instance.specs.Instances.{InstanceView, AreSeen, IsInstanceBy}

-- atoms that were found so far, of as many texts, and what the desk had seen when it began
pub record SeenSoFar (start now : DeskView) (atoms : List Atom) (texts : List (List ℕ)) : Type 0 where
  pub table : now.table ≡ start.table
  pub still : StillSees start now
  pub seen : AreSeen now atoms texts

pub seen_none : (start now : DeskView) → now ≡ start → SeenSoFar start now [] []
seen_none start now e = record {
  table = λ i. (e i).table;
  still = λ x h. subst (λ (desk : DeskView). Has desk.seen x) (sym e) h;
  seen = tt;
}

-- what was seen stays seen
pub seen_still : (was now : DeskView) (atoms : List Atom) (texts : List (List ℕ)) → now.table ≡ was.table → StillSees was now → AreSeen was atoms texts → AreSeen now atoms texts
seen_still was now [] [] table still h = h
seen_still was now [] (text ∷ texts) table still h = absurd h
seen_still was now (atom ∷ atoms) [] table still h = absurd h
seen_still was now (atom ∷ atoms) (text ∷ texts) table still h = (sees_still was now atom text table still h.0, seen_still was now atoms texts table still h.1)

-- one atom more, with its text
pub seen_snoc : (desk : DeskView) (atoms : List Atom) (texts : List (List ℕ)) (atom : Atom) (text : List ℕ) → AreSeen desk atoms texts → SeesText desk atom text → AreSeen desk (atoms ++ atom ∷ []) (texts ++ text ∷ [])
seen_snoc desk [] [] atom text h sees = (sees, tt)
seen_snoc desk [] (t ∷ texts) atom text h sees = absurd h
seen_snoc desk (a ∷ atoms) [] atom text h sees = absurd h
seen_snoc desk (a ∷ atoms) (t ∷ texts) atom text h sees = (h.0, seen_snoc desk atoms texts atom text h.1 sees)

-- the desk has seen each of them
pub seen_at : (desk : DeskView) (atoms : List Atom) (texts : List (List ℕ)) (k : ℕ) (other : Atom) → AreSeen desk atoms texts → k < length atoms → SeesAtom desk (slice_index_or atoms k other)
seen_at desk [] [] k other h less = absurd (omega arith)
seen_at desk [] (t ∷ texts) k other h less = absurd h
seen_at desk (a ∷ atoms) [] k other h less = absurd h
seen_at desk (a ∷ atoms) (t ∷ texts) zero other h less = (h.0.0, h.0.1)
seen_at desk (a ∷ atoms) (t ∷ texts) (suc k) other h less = seen_at desk atoms texts k other h.1 (omega arith)

-- atoms have one text each
pub one_reading : (desk : DeskView) → OneAtomEach desk → (atoms : List Atom) (texts others : List (List ℕ)) → AreSeen desk atoms texts → AreSeen desk atoms others → texts ≡ others
one_reading desk one [] [] [] h k = refl
one_reading desk one [] [] (u ∷ others) h k = absurd k
one_reading desk one [] (t ∷ texts) others h k = absurd h
one_reading desk one (a ∷ atoms) [] others h k = absurd h
one_reading desk one (a ∷ atoms) (t ∷ texts) [] h k = absurd k
one_reading desk one (a ∷ atoms) (t ∷ texts) (u ∷ others) h k = ap₂ (λ (x : List ℕ) (xs : List (List ℕ)). x ∷ xs) ((one a a t u h.0 k.0).0 refl) (one_reading desk one atoms texts others h.1 k.1)

-- ---- one text after another

-- the atom of the next text is found
pub found_next : (start was now : DeskView) (atoms more : List Atom) (texts : List (List ℕ)) (place : ℕ) (atom : Atom) (text : List ℕ) → place < length texts → text ≡ slice_index_or texts place [] → more ≡ atoms ++ atom ∷ [] → now.table ≡ was.table → StillSees was now → SeesText now atom text → SeenSoFar start was atoms (take place texts) → SeenSoFar start now more (take (place + 1) texts)
found_next start was now atoms more texts place atom text less is e table still sees so_far = record {
  table = table ∙ so_far.table;
  still = λ x h. still x (so_far.still x h);
  seen = let here : SeesText now atom (slice_index_or texts place []) = subst (SeesText now atom) is sees in
      let all = seen_snoc now atoms (take place texts) atom (slice_index_or texts place []) (seen_still was now atoms (take place texts) table still so_far.seen) here in
      subst (λ (l : List Atom). AreSeen now l (take (place + 1) texts)) (sym e) (subst (AreSeen now (atoms ++ atom ∷ [])) (sym (take_more texts place [] less)) all);
}

-- the text of the next atom is read
pub read_next : (start was now : DeskView) (atoms : List Atom) (texts more : List (List ℕ)) (place : ℕ) (other : Atom) (text : List ℕ) → place < length atoms → more ≡ texts ++ text ∷ [] → now.table ≡ was.table → StillSees was now → SeesText was (slice_index_or atoms place other) text → SeenSoFar start was (take place atoms) texts → SeenSoFar start now (take (place + 1) atoms) more
read_next start was now atoms texts more place other text less e table still sees so_far =
    let atom : Atom = slice_index_or atoms place other in
    record {
      table = table ∙ so_far.table;
      still = λ x h. still x (so_far.still x h);
      seen = let all = seen_snoc now (take place atoms) texts atom text (seen_still was now (take place atoms) texts table still so_far.seen) (sees_still was now atom text table still sees) in
          subst (AreSeen now (take (place + 1) atoms)) (sym e) (subst (λ (l : List Atom). AreSeen now l (texts ++ text ∷ [])) (sym (take_more atoms place other less)) all);
    }

-- ---- the way back

-- what is put together of an instance and the texts of its atoms is the stencil of which it is one
pub had_back : (was now : DeskView) (instance : InstanceView) (texts : List (List ℕ)) (given : MergedView) → now.table ≡ was.table → StillSees was now → OneAtomEach now → AreSeen now instance.atoms texts → IsInstanceBy was instance given → record { texts = texts; top = instance.top; records = instance.records; entries = instance.entries } ≡ given
had_back was now instance texts given table still one seen h =
    let same : texts ≡ given.texts = one_reading now one instance.atoms texts given.texts seen (seen_still was now instance.atoms given.texts table still h.atoms) in
    λ i. record { texts = same i; top = h.top i; records = h.records i; entries = h.entries i }
