-- What a desk knows while it searches for a text, and what it has at the end.
use Rattle.std.proofs.Common.{◌≡◌, ℕ, zero, suc, ◌+◌, ◌-◌, ◌<◌, ◌≤◌, ◌≢◌, List, [], ◌∷◌, length, slice_get, slice_index_or, Some, refl, sym, ◌∙◌, ap, subst, inl, inr, arith}
use Rattle.std.proofs.lemmas.Bool.{cases_order}
use Rattle.std.proofs.lemmas.Option.{slice_get-get_or, get_or_from_slice_get}
use Rattle.atom_table.specs.declared.atoms.Atom.{Atom}
use Rattle.atom_table.specs.ListView.{ListView}
use Rattle.atom_table.specs.DeskView.{TableName, DeskView}
use Rattle.atom_table.specs.Views.{SeesText, StillSees, OneAtomEach}
use Rattle.atom_table.specs.Words.{named, home_of, Has, Coherent, Passed, gained}
use Rattle.atom_table.proofs.Pigeons.{pigeons}

-- a search that has come to this place
pub record Probing (start now : DeskView) (list : ListView) (text : List ℕ) (place : ℕ) : Type 0 where
  pub table : now.table ≡ start.table
  pub still : StillSees start now
  pub passed : Passed now.seen list text place

-- a look keeps what was seen, and so does a place more
pub still_gained : (place word : ℕ) (was now : List (ℕ × ℕ)) → now ≡ gained place word was → (x : ℕ × ℕ) → Has was x → Has now x
still_gained place zero was now e x h = subst (λ l. Has l x) (sym e) h
still_gained place (suc word) was now e x h = subst (λ l. Has l x) (sym e) (inr h)

pub still_more : (y : ℕ × ℕ) (was now : List (ℕ × ℕ)) → now ≡ y ∷ was → (x : ℕ × ℕ) → Has was x → Has now x
still_more y was now e x h = subst (λ l. Has l x) (sym e) (inr h)

pub has_first : (y : ℕ × ℕ) (was now : List (ℕ × ℕ)) → now ≡ y ∷ was → Has now y
has_first y was now e = subst (λ l. Has l y) (sym e) (inl refl)

-- nothing was passed before the search began
pub passed_none : (seen : List (ℕ × ℕ)) (list : ListView) (text : List ℕ) (place : ℕ) → place ≡ home_of list text → Passed seen list text place
passed_none seen list text place e q from before = absurd (omega arith)

-- one place more, with another text
pub passed_more : (was now : List (ℕ × ℕ)) (list : ListView) (text : List ℕ) (place word : ℕ) → now ≡ (place, word) ∷ was → named list word ≢ text → Passed was list text place → Passed now list text (place + 1)
passed_more was now list text place word e ne passed q from before = elim (cases_order q place) [
  | inl same ↦ (word, subst (λ p. Has now (p, word)) (sym same) (has_first (place, word) was now e), ne)
  | inr apart ↦ elim apart [
    | inl less ↦ (let h = passed q from less in (h.0, still_more (place, word) was now e (q, h.0) h.1, h.2))
    | inr more ↦ absurd (omega arith)
  ]
]

-- no search passes as many places as there are texts and one
pub crowded : (list : ListView) (text : List ℕ) (seen : List (ℕ × ℕ)) (place : ℕ) → Coherent list seen → home_of list text + length list.texts + 1 ≤ place → Passed seen list text place → ⊥
crowded list text seen place coherent far passed =
    let home : ℕ = home_of list text in
    let P : ℕ → ℕ → Type 0 = λ j w. Has seen (home + j, w + 1) in
    pigeons (length list.texts) P
    (λ j h.
    let one = passed (home + j) (omega arith) (omega arith) in
    let r = coherent.range (home + j, one.0) one.1 in
    let low : 0 < one.0 = r.1 in
    let high : one.0 ≤ length list.texts = r.2 in
    let back : one.0 ≡ one.0 - 1 + 1 = omega arith in
    (one.0 - 1, omega arith, subst (λ w. Has seen (home + j, w)) back one.1))
    (λ i j w hi hj a b. let same : home + i ≡ home + j = (coherent.one_each (home + i, w + 1) (home + j, w + 1) a b).1 refl in omega arith)

-- the text that a number's word names
named_number : (list : ListView) (number : ℕ) (text : List ℕ) → slice_get list.texts number ≡ Some text → named list (number + 1) ≡ text
named_number list number text e = let back : number + 1 - 1 ≡ number = omega arith in ap (λ n. slice_index_or list.texts n []) back ∙ get_or_from_slice_get list.texts number text [] e

-- a word that was seen and names this text
pub sees_text : (desk : DeskView) (atom : Atom) (word : ℕ) (text : List ℕ) → Coherent desk.table.list desk.seen → Has desk.seen (atom.place, word) → named desk.table.list word ≡ text → SeesText desk atom text
sees_text desk atom word text coherent has is =
    let r = coherent.range (atom.place, word) has in
    let low : 0 < word = r.1 in
    let high : word ≤ length desk.table.list.texts = r.2 in
    let back : word ≡ word - 1 + 1 = omega arith in
    (word - 1, subst (λ w. Has desk.seen (atom.place, w)) back has, slice_get-get_or desk.table.list.texts (word - 1) [] (omega arith) ∙ ap Some is)

-- what is coherent has one atom for each text
pub one_atom : (desk : DeskView) → Coherent desk.table.list desk.seen → OneAtomEach desk
one_atom desk coherent a b s t sees other =
    let both = coherent.one_each (a.place, sees.0 + 1) (b.place, other.0 + 1) sees.1 other.1 in
    let one = named_number desk.table.list sees.0 s sees.2 in
    let two = named_number desk.table.list other.0 t other.2 in (
      (λ e. sym one ∙ both.0 (ap (λ (atom : Atom). atom.place) e) ∙ two),
      (λ e. let places : a.place ≡ b.place = both.1 (one ∙ e ∙ sym two) in λ i. record { place = places i }),
    )

-- what a desk has seen, a desk that has seen as much has seen too
pub sees_still : (was now : DeskView) (atom : Atom) (text : List ℕ) → now.table ≡ was.table → StillSees was now → SeesText was atom text → SeesText now atom text
sees_still was now atom text table still sees =
    (sees.0, still (atom.place, sees.0 + 1) sees.1, subst (λ (t : TableName). slice_get t.list.texts sees.0 ≡ Some text) (sym table) sees.2)
