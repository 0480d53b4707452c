-- Texts that are interned one after another, and their atoms.
use Rattle.std.proofs.Common.{◌≡◌, ℕ, zero, suc, ◌+◌, ◌-◌, ◌^◌, ◌<◌, ◌≤◌, ◌⊎◌, inl, inr, List, [], ◌∷◌, ◌++◌, length, take, drop, get_or, Option, Some, refl, sym, ◌∙◌, ap, ap₂, subst, append_assoc, append-nil, arith, length-append, take-append-drop}
use Rattle.std.specs.Prelude.{slice_get}
use Rattle.std.proofs.lemmas.List.{get_or_past, get_or_append_left, get_or_read, length-take-le, map-append, take_all, take_more}
use Rattle.std.proofs.lemmas.Option.{get_or_from_slice_get, slice_get-get_or, slice_get_read, slice_get_within}
use Rattle.parser_atoms.specs.Places.{AreWithoutEquals, StandsIn, Interns}
use Rattle.parser_atoms.proofs.Interning.{slice_get-append_old, slice_get-append_last, slice_get-append_cases}
use Rattle.stencil_merge.specs.Atoms.{no_text, atom_by, known_count, known_places, with_known, AreAtoms, TakesIn}
use Rattle.stencil_merge.proofs.Listing.{AreEqualTexts}
use Rattle.stencil_merge.proofs.Moves.{Moves}

-- ---- atoms of texts

-- texts that are put after change no atom
pub are_atoms_grow : (texts other more : List (List ℕ)) (atoms : List ℕ) → AreAtoms texts other atoms → AreAtoms texts (other ++ more) atoms
are_atoms_grow [] other more [] h = refl
are_atoms_grow [] other more (a ∷ atoms) h = absurd (cc)
are_atoms_grow (t ∷ texts) other more [] h = absurd (cc)
are_atoms_grow (t ∷ texts) other more (a ∷ atoms) h =
    let here : slice_get other a ≡ Some t = cc in
    let rest : AreAtoms texts other atoms = cc in
    ap₂ (λ (x : Option (List ℕ)) (xs : List (Option (List ℕ))). x ∷ xs) (slice_get-append_old other more a t here) (are_atoms_grow texts other more atoms rest)

are_atoms_push : (texts other : List (List ℕ)) (atoms : List ℕ) (text : List ℕ) (atom : ℕ) → AreAtoms texts other atoms → slice_get other atom ≡ Some text → AreAtoms (texts ++ text ∷ []) other (atoms ++ atom ∷ [])
are_atoms_push texts other atoms text atom h here =
    map-append (slice_get other) atoms (atom ∷ [])
    ∙ (ap₂ (λ (xs ys : List (Option (List ℕ))). xs ++ ys) h (ap (λ (x : Option (List ℕ)). x ∷ []) here) ∙ sym (map-append (λ (t : List ℕ). Some t) texts (text ∷ [])))

-- what is no text's atom becomes none's either, and so each atom is changed for one of an equal text
pub equal_texts : (texts other : List (List ℕ)) (atoms : List ℕ) → AreAtoms texts other atoms → length other < 2 ^ 32 → AreEqualTexts texts other atoms
equal_texts [] other [] h few a = get_or_past other no_text [] (omega (arith, few))
equal_texts [] other (n ∷ atoms) h few a = absurd (cc)
equal_texts (t ∷ texts) other [] h few a = absurd (cc)
equal_texts (t ∷ texts) other (n ∷ atoms) h few zero = let here : slice_get other n ≡ Some t = cc in get_or_from_slice_get other n t [] here
equal_texts (t ∷ texts) other (n ∷ atoms) h few (suc a) = let rest : AreAtoms texts other atoms = cc in equal_texts texts other atoms rest few a

atoms_within : (texts other : List (List ℕ)) (atoms : List ℕ) → AreAtoms texts other atoms → (a : ℕ) → a < length texts → atom_by atoms a < length other
atoms_within [] other atoms h a lt = absurd (omega arith)
atoms_within (t ∷ texts) other [] h a lt = absurd (cc)
atoms_within (t ∷ texts) other (n ∷ atoms) h zero lt = let here : slice_get other n ≡ Some t = cc in slice_get_within other n t here
atoms_within (t ∷ texts) other (n ∷ atoms) h (suc a) lt = let rest : AreAtoms texts other atoms = cc in atoms_within texts other atoms rest a (omega (arith, lt))

pub moves_by : (texts other : List (List ℕ)) (atoms : List ℕ) → AreAtoms texts other atoms → length other < 2 ^ 32 → Moves texts other (atom_by atoms)
moves_by texts other atoms h few = record { within = atoms_within texts other atoms h; same = λ a lt. equal_texts texts other atoms h few a }

-- atoms stay as they are where texts are put after
pub moves_more : (texts more : List (List ℕ)) → Moves texts (texts ++ more) (λ a. a)
moves_more texts more = record { within = λ a lt. omega (arith, lt, length-append texts more); same = λ a lt. get_or_append_left texts more [] a lt }

-- ---- one text more

stands_more : (texts : List (List ℕ)) (text other : List ℕ) → StandsIn texts other → StandsIn (texts ++ text ∷ []) other
stands_more texts text other s = (s.0, slice_get-append_old texts (text ∷ []) s.0 other s.1)

stands_last : (texts : List (List ℕ)) (text other : List ℕ) → text ≡ other → StandsIn (texts ++ text ∷ []) other
stands_last texts text other e = subst (StandsIn (texts ++ text ∷ [])) e (length texts, slice_get-append_last texts text)

among_more : (before texts : List (List ℕ)) (text other : List ℕ) → StandsIn before other ⊎ StandsIn texts other → StandsIn before other ⊎ StandsIn (texts ++ text ∷ []) other
among_more before texts text other (inl s) = inl s
among_more before texts text other (inr s) = inr (stands_more texts text other s)

takes_same : (before texts now new : List (List ℕ)) (text : List ℕ) → new ≡ now → TakesIn before texts now → AreWithoutEquals new → TakesIn before (texts ++ text ∷ []) new
takes_same before texts now new text same t apart = record {
  more = t.more;
  is = same ∙ t.is;
  among = λ other s. among_more before texts text other (t.among other (subst (λ (l : List (List ℕ)). StandsIn l other) same s));
  apart = apart;
}

takes_last : (before texts now new : List (List ℕ)) (text : List ℕ) → new ≡ now ++ text ∷ [] → TakesIn before texts now → AreWithoutEquals new → TakesIn before (texts ++ text ∷ []) new
takes_last before texts now new text longer t apart = record {
  more = t.more ++ text ∷ [];
  is = longer ∙ (ap (λ (l : List (List ℕ)). l ++ text ∷ []) t.is ∙ append_assoc before t.more (text ∷ []));
  among = λ other s. by other (subst (λ (l : List (List ℕ)). StandsIn l other) longer s);
  apart = apart;
}
  where
    by : (other : List ℕ) → StandsIn (now ++ text ∷ []) other → StandsIn before other ⊎ StandsIn (texts ++ text ∷ []) other
    by other s = elim (slice_get-append_cases now text s.0 other s.1) [
      | inl old ↦ among_more before texts text other (t.among other (s.0, old))
      | inr last ↦ inr (stands_last texts text other last.1)
    ]

-- ---- the loop

-- these texts were interned, with these atoms
pub record Interned (before texts now : List (List ℕ)) (atoms : List ℕ) : Type 0 where
  pub numbers : AreAtoms texts now atoms
  pub taken : TakesIn before texts now
  pub few : length now ≤ length before + length texts

pub takes_none : (before : List (List ℕ)) → AreWithoutEquals before → TakesIn before [] before
takes_none before apart = record { more = []; is = sym (append-nil before); among = λ text s. inl s; apart = apart }

pub interned_none : (before : List (List ℕ)) → AreWithoutEquals before → Interned before [] before []
interned_none before apart = record { numbers = refl; taken = takes_none before apart; few = omega arith }

pub interned_more : (before texts now new : List (List ℕ)) (atoms : List ℕ) (text : List ℕ) (atom : ℕ) → Interned before texts now atoms → Interns now new text atom → AreWithoutEquals new → Interned before (texts ++ text ∷ []) new (atoms ++ atom ∷ [])
interned_more before texts now new atoms text atom i (inl there) apart = record {
  numbers = are_atoms_push texts new atoms text atom (subst (λ (l : List (List ℕ)). AreAtoms texts l atoms) (sym there.1) i.numbers) (ap (λ (l : List (List ℕ)). slice_get l atom) there.1 ∙ there.0);
  taken = takes_same before texts now new text there.1 i.taken apart;
  few = omega (arith, i.few, ap length there.1, length-append texts (text ∷ []));
}
interned_more before texts now new atoms text atom i (inr put) apart = record {
  numbers = are_atoms_push texts new atoms text atom (subst (λ (l : List (List ℕ)). AreAtoms texts l atoms) (sym put.2) (are_atoms_grow texts now (text ∷ []) atoms i.numbers))
      (ap (λ (l : List (List ℕ)). slice_get l atom) put.2 ∙ (ap (slice_get (now ++ text ∷ [])) put.1 ∙ slice_get-append_last now text));
  taken = takes_last before texts now new text put.2 i.taken apart;
  few = omega (arith, i.few, ap length put.2, length-append texts (text ∷ []), length-append now (text ∷ []));
}

-- fewer texts than are to be interned
pub takes_among : (before texts rest now : List (List ℕ)) → TakesIn before texts now → TakesIn before (texts ++ rest) now
takes_among before texts rest now t = record { more = t.more; is = t.is; among = λ text s. wider text (t.among text s); apart = t.apart }
  where
    wider : (text : List ℕ) → StandsIn before text ⊎ StandsIn texts text → StandsIn before text ⊎ StandsIn (texts ++ rest) text
    wider text (inl s) = inl s
    wider text (inr s) = inr (s.0, slice_get-append_old texts rest s.0 text s.1)

-- ---- how far the loop has come in the list

pub interned_next : (before all now new : List (List ℕ)) (atoms atoms_new : List ℕ) (i : ℕ) (text units : List ℕ) (atom : ℕ) → i < length all → text ≡ get_or all i text → units ≡ text → Interned before (take i all) now atoms
    → Interns now new units atom → AreWithoutEquals new → atoms_new ≡ atoms ++ atom ∷ [] → Interned before (take (i + 1) all) new atoms_new
interned_next before all now new atoms atoms_new i text units atom lt item units_is so_far interns apart longer =
    subst (Interned before (take (i + 1) all) new) (sym longer)
    (subst (λ (ts : List (List ℕ)). Interned before ts new (atoms ++ atom ∷ [])) (ap (λ (t : List ℕ). take i all ++ t ∷ []) (units_is ∙ get_or_read all i text lt item []) ∙ sym (take_more all i [] lt))
    (interned_more before (take i all) now new atoms units atom so_far interns apart))

pub interned_all : (before all now : List (List ℕ)) (atoms : List ℕ) (i : ℕ) → length all ≤ i → Interned before (take i all) now atoms → Interned before all now atoms
interned_all before all now atoms i end so_far = subst (λ (ts : List (List ℕ)). Interned before ts now atoms) (take_all i all end) so_far

pub taken_so_far : (before all now : List (List ℕ)) (atoms : List ℕ) (i : ℕ) → Interned before (take i all) now atoms → TakesIn before all now
taken_so_far before all now atoms i so_far = subst (λ (ts : List (List ℕ)). TakesIn before ts now) (take-append-drop i all) (takes_among before (take i all) (drop i all) now so_far.taken)

pub few_so_far : (before all now : List (List ℕ)) (atoms : List ℕ) (i : ℕ) → Interned before (take i all) now atoms → length now ≤ length before + length all
few_so_far before all now atoms i so_far = omega (arith, so_far.few, length-append (take i all) (drop i all), ap length (take-append-drop i all))

-- there is room for one more
pub room_for_one : (before all now : List (List ℕ)) (atoms : List ℕ) (i : ℕ) → i < length all → length before + length all < 2 ^ 32 - 1 → Interned before (take i all) now atoms → length now < 2 ^ 32 - 1
room_for_one before all now atoms i lt few so_far = omega (arith, few, few_so_far before all now atoms i so_far)

-- no texts have no equals
pub none_apart : AreWithoutEquals []
none_apart text i j one two = absurd (cc)

-- ---- texts without equals, which keep their places

pub own_places_next : (all : List (List ℕ)) (atoms atoms_new : List ℕ) (i : ℕ) → i < length all → atoms_new ≡ atoms ++ i ∷ [] → AreAtoms (take i all) all atoms → AreAtoms (take (i + 1) all) all atoms_new
own_places_next all atoms atoms_new i lt longer so_far =
    subst (AreAtoms (take (i + 1) all) all) (sym longer)
    (subst (λ (ts : List (List ℕ)). AreAtoms ts all (atoms ++ i ∷ [])) (sym (take_more all i [] lt)) (are_atoms_push (take i all) all atoms (get_or all i []) i so_far (slice_get-get_or all i [] lt)))

-- interned in their order, they stand as before
pub in_order_next : (all now new : List (List ℕ)) (i : ℕ) (text units : List ℕ) (atom : ℕ) → AreWithoutEquals all → i < length all → text ≡ get_or all i text → units ≡ text → now ≡ take i all → Interns now new units atom → new ≡ take (i + 1) all
in_order_next all now new i text units atom apart lt item units_is so_far (inl there) = absurd (omega (arith, within, at_i, short))
  where
    stood : slice_get (take i all) atom ≡ Some units
    stood = subst (λ (ts : List (List ℕ)). slice_get ts atom ≡ Some units) so_far there.0

    within : atom < length (take i all)
    within = slice_get_within (take i all) atom units stood

    short : length (take i all) ≡ i
    short = length-take-le i all (omega (arith, lt))

    stands : slice_get all atom ≡ Some units
    stands = subst (λ (ts : List (List ℕ)). slice_get ts atom ≡ Some units) (take-append-drop i all) (slice_get-append_old (take i all) (drop i all) atom units stood)

    here : slice_get all i ≡ Some units
    here = slice_get_read all (length all) i text refl lt item ∙ ap (λ (t : List ℕ). Some t) (sym units_is)

    at_i : atom ≡ i
    at_i = apart units atom i stands here
in_order_next all now new i text units atom apart lt item units_is so_far (inr put) =
    put.2 ∙ (ap₂ (λ (ts : List (List ℕ)) (t : List ℕ). ts ++ t ∷ []) so_far (units_is ∙ get_or_read all i text lt item []) ∙ sym (take_more all i [] lt))

-- ---- the known words, and texts behind them

-- the known words keep their places
pub known_stand : (texts more : List (List ℕ)) → known_count ≤ length texts → AreAtoms (take known_count texts) (texts ++ more) known_places
known_stand [] more h = absurd (omega (arith, h))
known_stand (a ∷ []) more h = absurd (omega (arith, h))
known_stand (a ∷ b ∷ []) more h = absurd (omega (arith, h))
known_stand (a ∷ b ∷ c ∷ []) more h = absurd (omega (arith, h))
known_stand (a ∷ b ∷ c ∷ d ∷ []) more h = absurd (omega (arith, h))
known_stand (a ∷ b ∷ c ∷ d ∷ e ∷ []) more h = absurd (omega (arith, h))
known_stand (a ∷ b ∷ c ∷ d ∷ e ∷ f ∷ []) more h = absurd (omega (arith, h))
known_stand (a ∷ b ∷ c ∷ d ∷ e ∷ f ∷ g ∷ texts) more h = refl

are_atoms_both : (some texts other : List (List ℕ)) (places atoms : List ℕ) → AreAtoms some other places → AreAtoms texts other atoms → AreAtoms (some ++ texts) other (places ++ atoms)
are_atoms_both some texts other places atoms h k =
    map-append (slice_get other) places atoms
    ∙ (ap₂ (λ (xs ys : List (Option (List ℕ))). xs ++ ys) h k ∙ sym (map-append (λ (t : List ℕ). Some t) some texts))

-- the atoms of a list that begins with the known words
pub known_and_behind : (before behind now : List (List ℕ)) (own atoms : List ℕ) → known_count ≤ length before → TakesIn before behind now → AreAtoms behind now own → atoms ≡ known_places ++ own → AreAtoms (with_known before behind) now atoms
known_and_behind before behind now own atoms many taken are all =
    subst (AreAtoms (with_known before behind) now) (sym all)
    (are_atoms_both (take known_count before) behind now known_places own (subst (λ (ts : List (List ℕ)). AreAtoms (take known_count before) ts known_places) (sym taken.is) (known_stand before taken.more many)) are)

-- what was taken in are texts of that list
pub takes_behind : (before behind now : List (List ℕ)) → TakesIn before behind now → TakesIn before (with_known before behind) now
takes_behind before behind now t = record { more = t.more; is = t.is; among = λ text s. wider text (t.among text s); apart = t.apart }
  where
    stands_behind : (some : List (List ℕ)) (text : List ℕ) → StandsIn behind text → StandsIn (some ++ behind) text
    stands_behind [] text s = s
    stands_behind (x ∷ some) text s = let r = stands_behind some text s in (suc r.0, r.1)

    wider : (text : List ℕ) → StandsIn before text ⊎ StandsIn behind text → StandsIn before text ⊎ StandsIn (with_known before behind) text
    wider text (inl s) = inl s
    wider text (inr s) = inr (stands_behind (take known_count before) text s)

pub few_behind : (before behind : List (List ℕ)) → length behind ≤ length (with_known before behind)
few_behind before behind = omega (arith, length-append (take known_count before) behind)
