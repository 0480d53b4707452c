-- Which of many names a shelf is turned to, where it tells what it holds.
use Rattle.std.proofs.Common.{◌≡◌, ℕ, ◌+◌, ◌<◌, ◌≤◌, nat_le, Bool, true, false, if◌then◌else◌, List, [], ◌∷◌, ◌++◌, Option, Some, None, Vec, length, refl, ap, sym, ◌∙◌, subst, append_assoc, append-nil, inl, inr, map, take, drop, get_or, String, Ok, Err}
use Rattle.std.specs.String.{string_bytes}
use Rattle.std.specs.declared.alloc.Global.{Global}
use Rattle.std.proofs.lemmas.Bool.{le-leb, lt-leb}
use Rattle.std.proofs.lemmas.List.{take_all}
use Rattle.session_outside.specs.declared.shelf.ShelfRefusal.{ShelfRefusal}
use Rattle.session_outside.specs.Shelf.{TurnsToFront, TurnsToNext, TurnsAtMost, opened}
use Rattle.session_outside.specs.Loops.{AreWholeBehind, opened_within}
use Rattle.session_outside.proofs.ManyLemmas.{AreRead, IsOneLong, LeftTells, Names, Reading, front-refused, names_split, opened-all, refused_at}

module _ (most : ℕ) (held : List ℕ → List ℕ) where
  opened_yes : (before : ℕ) (name : List ℕ) (names : List (List ℕ)) → before + length (held name) ≤ most → opened_within most held before (name ∷ names) ≡ name ∷ opened_within most held (before + length (held name)) names
  opened_yes before name names few =
      ap (λ (b : Bool). name ∷ (if b then opened_within most held (before + length (held name)) names else [])) (le-leb (before + length (held name)) most few)

  opened_no : (before : ℕ) (name : List ℕ) (names : List (List ℕ)) → most < before + length (held name) → opened_within most held before (name ∷ names) ≡ name ∷ []
  opened_no before name names many =
      ap (λ (b : Bool). name ∷ (if b then opened_within most held (before + length (held name)) names else [])) (lt-leb (before + length (held name)) most many)

  -- the files that were opened, by what was read, are those that are to be by what the names hold
  pub opened_are : (before : ℕ) (names : List (List ℕ)) (reads : List (Option (Vec ℕ Global))) → AreWholeBehind most held before names reads → opened names reads ≡ opened_within most held before names
  opened_are before [] reads whole = refl
  opened_are before (n ∷ ns) [] whole = absurd whole
  opened_are before (n ∷ ns) (None ∷ rs) whole = sym (opened_no before n ns whole.0)
  opened_are before (n ∷ ns) (Some b ∷ rs) whole =
      ap (λ (l : List (List ℕ)). n ∷ l) (opened_are (before + length (held n)) ns rs whole.1) ∙ sym (opened_yes before n ns whole.0.1)

  -- after files that were all read the next is to be opened
  opened_next : (before : ℕ) (done : List (List ℕ)) (name : List ℕ) (rest : List (List ℕ)) (reads : List (Option (Vec ℕ Global))) → AreRead done reads → AreWholeBehind most held before done reads
      → (later : List (List ℕ)) × (opened_within most held before (done ++ name ∷ rest) ≡ done ++ name ∷ later)
  opened_next before [] name rest reads all whole = ((if nat_le (before + length (held name)) most then opened_within most held (before + length (held name)) rest else []), refl)
  opened_next before (d ∷ ds) name rest [] all whole = absurd all
  opened_next before (d ∷ ds) name rest (None ∷ rs) all whole = absurd all
  opened_next before (d ∷ ds) name rest (Some b ∷ rs) all whole =
      let h = opened_next (before + length (held d)) ds name rest rs all whole.1 in
      (h.0, opened_yes before d (ds ++ name ∷ rest) whole.0.1 ∙ ap (λ (l : List (List ℕ)). d ∷ l) h.1)

  -- after a file of which none was read no other is to be opened
  opened_stops : (before : ℕ) (done rest : List (List ℕ)) (reads : List (Option (Vec ℕ Global))) → IsOneLong done reads → AreWholeBehind most held before done reads → opened_within most held before (done ++ rest) ≡ opened done reads
  opened_stops before [] rest reads long whole = absurd long
  opened_stops before (d ∷ ds) rest [] long whole = absurd long
  opened_stops before (d ∷ ds) rest (None ∷ rs) long whole = opened_no before d (ds ++ rest) whole.0
  opened_stops before (d ∷ ds) rest (Some b ∷ rs) long whole =
      opened_yes before d (ds ++ rest) whole.0.1 ∙ ap (λ (l : List (List ℕ)). d ∷ l) (opened_stops (before + length (held d)) ds rest rs long whole.1)

  -- the shelf was turned to the next name or to none, where bytes of it may be read, and else to none
  abbrev AtMostNext : Option ℕ → List (List ℕ) → List (List ℕ) → List ℕ → Type 0
  AtMostNext None before now name = now ≡ before
  AtMostNext (Some left) before now name = TurnsAtMost before now name

  -- so it was turned to some of those to be opened
  front_within : (names_then names_before names_now : List (List ℕ)) (done rest : List (List ℕ)) (name : List ℕ) (left : Option ℕ) (reads : List (Option (Vec ℕ Global))) → LeftTells left done reads → AreWholeBehind most held 0 done reads → names_before ≡ names_then ++ opened done reads
      → AtMostNext left names_before names_now name → TurnsToFront names_then names_now (opened_within most held 0 (done ++ name ∷ rest))
  front_within names_then names_before names_now done rest name None reads tells whole before turned =
      (opened done reads, [], opened_stops 0 done (name ∷ rest) reads tells whole ∙ sym (append-nil (opened done reads)), turned ∙ before)
  front_within names_then names_before names_now done rest name (Some left) reads tells whole before turned =
      let h = opened_next 0 done name rest reads tells whole in
      subst (λ (names : List (List ℕ)). TurnsToFront names_then names_now names) (sym h.1)
      (front-refused names_then names_before names_now done h.0 name (before ∙ ap (λ (ns : List (List ℕ)). names_then ++ ns) (opened-all done reads tells)) turned)

  at_most_read : (left : Option ℕ) (before now : List (List ℕ)) (name : List ℕ) (read : Option (Vec ℕ Global)) → TurnsToNext {T = Option (Vec ℕ Global)} left before now name (Ok read) → AtMostNext left before now name
  at_most_read None before now name read turned = turned
  at_most_read (Some left) before now name read turned = inr turned

  at_most_refused : (left : Option ℕ) (before now : List (List ℕ)) (name : List ℕ) (why : ShelfRefusal) → TurnsToNext {T = Option (Vec ℕ Global)} left before now name (Err why) → AtMostNext left before now name
  at_most_refused None before now name why turned = turned
  at_most_refused (Some left) before now name why turned = refused_at (Option (Vec ℕ Global)) before now name why turned

  -- ---- names as texts

  front_texts : (names_then names_before names_now : List (List ℕ)) (xs : Names) (k : ℕ) (x : String Global) (name : List ℕ) (left : Option ℕ) (reads : List (Option (Vec ℕ Global))) → k < length xs → x ≡ get_or xs k x → name ≡ string_bytes x
      → LeftTells left (map string_bytes (take k xs)) reads → AreWholeBehind most held 0 (map string_bytes (take k xs)) reads → names_before ≡ names_then ++ opened (map string_bytes (take k xs)) reads
      → AtMostNext left names_before names_now name → TurnsToFront names_then names_now (opened_within most held 0 (map string_bytes xs))
  front_texts names_then names_before names_now xs k x name left reads lt is named tells whole before turned =
      subst (λ (all : List (List ℕ)). TurnsToFront names_then names_now (opened_within most held 0 all)) (sym (names_split xs k x lt is))
      (front_within names_then names_before names_now (map string_bytes (take k xs)) (map string_bytes (drop (k + 1) xs)) (string_bytes x) left reads tells whole before
      (subst (λ (n : List ℕ). AtMostNext left names_before names_now n) named turned))

-- what was read is what the names hold
whole_of : (most : ℕ) (shelf : Option (List ℕ → List ℕ)) (held : List ℕ → List ℕ) (done : List (List ℕ)) (left : Option ℕ) (reads : List (Option (Vec ℕ Global))) → shelf ≡ Some held → Reading shelf most done left reads → AreWholeBehind most held 0 done reads
whole_of most shelf held done left reads tells reading = (subst (λ (s : Option (List ℕ → List ℕ)). Reading s most done left reads) tells reading).1

-- some of those to be opened were turned to, where what was read of the next had no room
pub opened_pushed : (most : ℕ) (shelf : Option (List ℕ → List ℕ)) (held : List ℕ → List ℕ) (names_then names_before names_now : List (List ℕ)) (xs : Names) (k : ℕ) (x : String Global) (name : List ℕ) (left : Option ℕ) (reads : List (Option (Vec ℕ Global))) (read : Option (Vec ℕ Global)) → k < length xs → x ≡ get_or xs k x → name ≡ string_bytes x → shelf ≡ Some held
    → LeftTells left (map string_bytes (take k xs)) reads → Reading shelf most (map string_bytes (take k xs)) left reads → names_before ≡ names_then ++ opened (map string_bytes (take k xs)) reads → TurnsToNext {T = Option (Vec ℕ Global)} left names_before names_now name (Ok read)
    → TurnsToFront names_then names_now (opened_within most held 0 (map string_bytes xs))
opened_pushed most shelf held names_then names_before names_now xs k x name left reads read lt is named shelf_tells tells reading before turned =
    front_texts most held names_then names_before names_now xs k x name left reads lt is named tells (whole_of most shelf held (map string_bytes (take k xs)) left reads shelf_tells reading) before (at_most_read most held left names_before names_now name read turned)

-- some of those to be opened were turned to, where the next could not be read
pub opened_refused : (most : ℕ) (shelf : Option (List ℕ → List ℕ)) (held : List ℕ → List ℕ) (names_then names_before names_now : List (List ℕ)) (xs : Names) (k : ℕ) (x : String Global) (name : List ℕ) (left : Option ℕ) (reads : List (Option (Vec ℕ Global))) (why : ShelfRefusal) → k < length xs → x ≡ get_or xs k x → name ≡ string_bytes x → shelf ≡ Some held
    → LeftTells left (map string_bytes (take k xs)) reads → Reading shelf most (map string_bytes (take k xs)) left reads → names_before ≡ names_then ++ opened (map string_bytes (take k xs)) reads → TurnsToNext {T = Option (Vec ℕ Global)} left names_before names_now name (Err why)
    → TurnsToFront names_then names_now (opened_within most held 0 (map string_bytes xs))
opened_refused most shelf held names_then names_before names_now xs k x name left reads why lt is named shelf_tells tells reading before turned =
    front_texts most held names_then names_before names_now xs k x name left reads lt is named tells (whole_of most shelf held (map string_bytes (take k xs)) left reads shelf_tells reading) before (at_most_refused most held left names_before names_now name why turned)

-- all of those to be opened were turned to, where no refusal came
pub opened_all : (most : ℕ) (shelf : Option (List ℕ → List ℕ)) (held : List ℕ → List ℕ) (names_then names_now : List (List ℕ)) (xs : Names) (k : ℕ) (left : Option ℕ) (reads : List (Option (Vec ℕ Global))) → length xs ≤ k → shelf ≡ Some held
    → Reading shelf most (map string_bytes (take k xs)) left reads → names_now ≡ names_then ++ opened (map string_bytes (take k xs)) reads → names_now ≡ names_then ++ opened_within most held 0 (map string_bytes xs)
opened_all most shelf held names_then names_now xs k left reads ends shelf_tells reading turned =
    turned ∙ ap (λ (ns : List (List ℕ)). names_then ++ ns) (opened_are most held 0 (map string_bytes (take k xs)) reads (whole_of most shelf held (map string_bytes (take k xs)) left reads shelf_tells reading))
    ∙ ap (λ (ys : Names). names_then ++ opened_within most held 0 (map string_bytes ys)) (take_all k xs ends)
