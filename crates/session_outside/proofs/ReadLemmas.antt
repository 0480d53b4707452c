-- The loop that reads a file to its end.
use Rattle.std.proofs.Common.{◌≡◌, ℕ, ◌<◌, ◌≤◌, Bool, true, false, List, [], ◌++◌, Option, Some, None, length, take, drop, refl, ap, sym, ◌∙◌, append_assoc, append-nil, arith, length-append}
use Rattle.std.proofs.lemmas.List.{take-append-drop}
use Rattle.session_outside.specs.Shelf.{TakesFront}
use Rattle.session_outside.specs.Loops.{HasRead}

-- where the shelf tells, these bytes and what is left now are what was left then
abbrev pub Joins : Option (List ℕ) → Option (List ℕ) → List ℕ → Type 0
Joins None now bytes = now ≡ None
Joins (Some left) now bytes = (later : List ℕ) × (now ≡ Some later) × (left ≡ bytes ++ later)

-- a shelf in the middle of a file, and the bytes that were read of it
pub record IsReading (faults_then faults_now : ℕ) (names_then names_now : List (List ℕ)) (held_then held_now : Option (List ℕ → List ℕ)) (open_now : Bool) (left_then left_now : Option (List ℕ)) (bytes : List ℕ) (most : ℕ) : Type 0 where
  pub counted : faults_now ≡ faults_then
  pub names : names_now ≡ names_then
  pub same : held_now ≡ held_then
  pub opened : open_now ≡ true
  pub few : length bytes ≤ most
  pub joined : Joins left_then left_now bytes

-- nothing is read yet
pub Joins-start : (left : Option (List ℕ)) → Joins left left []
Joins-start None = refl
Joins-start (Some left) = (left, refl, refl)

-- one more piece is read
pub Joins-more : (left_then before now : Option (List ℕ)) (count : ℕ) (buffer bytes : List ℕ) → Joins left_then before bytes → TakesFront before now count buffer → Joins left_then now (bytes ++ take count buffer)
Joins-more None None now count buffer bytes joined taken = taken
Joins-more None (Some before) now count buffer bytes joined taken = absurd (cc)
Joins-more (Some left) None now count buffer bytes joined taken = let is = joined.1 in absurd (cc)
Joins-more (Some left) (Some before) now count buffer bytes joined taken =
    (drop count before, taken.0, joined.2 ∙ ap (λ later. bytes ++ later) (later_is joined.0 joined.1) ∙ sym (append_assoc bytes (take count buffer) (drop count before)))
  where
    later_is : (later : List ℕ) → Some before ≡ Some later → later ≡ take count buffer ++ drop count before
    later_is later is =
        let same : later ≡ before = cc in
        same ∙ sym (take-append-drop count before) ∙ ap (λ front. front ++ drop count before) (sym taken.1)

-- the end is reached
pub HasRead-end : (left_then before now : Option (List ℕ)) (buffer bytes : List ℕ) (most : ℕ) → Joins left_then before bytes → TakesFront before now 0 buffer → length bytes ≤ most → HasRead left_then most true bytes
HasRead-end None before now buffer bytes most joined taken few = tt
HasRead-end (Some left) None now buffer bytes most joined taken few = let is = joined.1 in absurd (cc)
HasRead-end (Some left) (Some before) now buffer bytes most joined taken few = (sym whole, omega (arith, ap length whole))
  where
    none_left : (later : List ℕ) → Some before ≡ Some later → later ≡ []
    none_left later is = let none : before ≡ [] = taken.2 refl in cc

    whole : left ≡ bytes
    whole = joined.2 ∙ ap (λ later. bytes ++ later) (none_left joined.0 joined.1) ∙ append-nil bytes

-- there are more bytes than asked for
pub HasRead-over : (left_then now : Option (List ℕ)) (bytes : List ℕ) (most : ℕ) → Joins left_then now bytes → most < length bytes → HasRead left_then most false bytes
HasRead-over None now bytes most joined many = tt
HasRead-over (Some left) now bytes most joined many = omega (arith, ap length joined.2, length-append bytes joined.0)
