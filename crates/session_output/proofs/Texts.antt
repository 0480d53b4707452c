-- Texts that are written one after another.
use Rattle.std.proofs.Common.{◌≡◌, ℕ, zero, suc, ◌+◌, ◌≤◌, List, [], ◌∷◌, ◌++◌, length, take, Option, Some, None, refl, ap, sym, subst, ◌∙◌, append_assoc, append-nil, arith}
use Rattle.std.specs.Prelude.{Err, Ok, Result, flat_map, slice_get}
use Rattle.session_outside.specs.declared.sink.SinkRefusal.{SinkRefusal}
use Rattle.session_outside.specs.Sink.{Gains, GainsAllOrFront, GainsFront}
use Rattle.session_outside.proofs.WriteLemmas.{Gains-more, Gains-none}

-- the first texts, and one more
pub flat_next : {X : Type 0} (f : X → List ℕ) (xs : List X) (place next : ℕ) (x : X) → next ≡ place + 1 → slice_get xs place ≡ Some x → flat_map f (take next xs) ≡ flat_map f (take place xs) ++ f x
flat_next f xs place zero x is at = absurd (omega (arith, is))
flat_next f [] place (suc next) x is at = absurd (cc)
flat_next {X} f (y ∷ xs) zero (suc zero) x is at =
    let same : y ≡ x = cc in
    append-nil (f y) ∙ ap f same
flat_next f (y ∷ xs) zero (suc (suc next)) x is at = absurd (omega (arith, is))
flat_next f (y ∷ xs) (suc place) (suc next) x is at =
    ap (λ (l : List ℕ). f y ++ l) (flat_next f xs place next x (omega (arith, is)) at) ∙ sym (append_assoc (f y) (flat_map f (take place xs)) (f x))

-- all of them
pub flat_all : {X : Type 0} (f : X → List ℕ) (xs : List X) (place : ℕ) → length xs ≤ place → flat_map f (take place xs) ≡ flat_map f xs
flat_all f [] zero long = refl
flat_all f [] (suc place) long = refl
flat_all f (y ∷ xs) zero long = absurd (omega (arith, long))
flat_all f (y ∷ xs) (suc place) long = ap (λ (l : List ℕ). f y ++ l) (flat_all f xs place (omega (arith, long)))

-- the first texts, one more, and those behind it
flat_split : {X : Type 0} (f : X → List ℕ) (xs : List X) (place : ℕ) (x : X) → slice_get xs place ≡ Some x → (rest : List ℕ) × (flat_map f xs ≡ flat_map f (take place xs) ++ (f x ++ rest))
flat_split f [] place x at = absurd (cc)
flat_split f (y ∷ xs) zero x at = let same : y ≡ x = cc in (flat_map f xs, ap (λ z. f z ++ flat_map f xs) same)
flat_split f (y ∷ xs) (suc place) x at =
    let h = flat_split f xs place x at in
    (h.0, ap (λ (l : List ℕ). f y ++ l) h.1 ∙ sym (append_assoc (f y) (flat_map f (take place xs)) (f x ++ h.0)))

-- ---- what a sink has taken

-- some bytes, and then a front of others
pub front_behind : (then before now : Option (List ℕ)) (first bytes : List ℕ) → Gains then before first → GainsFront before now bytes → GainsFront then now (first ++ bytes)
front_behind None None now first bytes gained front = front
front_behind None (Some before) now first bytes gained front = absurd (cc)
front_behind (Some then) None now first bytes gained front = absurd (cc)
front_behind (Some then) (Some before) now first bytes gained front =
    let same : before ≡ then ++ first = cc in (
      first ++ front.0,
      front.1,
      ap (λ (l : List ℕ). first ++ l) front.2 ∙ sym (append_assoc first front.0 front.1),
      front.3 ∙ ap (λ (l : List ℕ). Some (l ++ front.0)) same ∙ ap Some (append_assoc then first front.0),
    )

-- some bytes, and then all of others or a front of them
pub gains_behind : {T : Type 0} (then before now : Option (List ℕ)) (first bytes : List ℕ) (r : Result T SinkRefusal) → Gains then before first → GainsAllOrFront before now bytes r → GainsAllOrFront then now (first ++ bytes) r
gains_behind then before now first bytes (Ok value) gained more = Gains-more then before now first bytes gained more
gains_behind then before now first bytes (Err refusal) gained front = front_behind then before now first bytes gained front

-- a front of some bytes is one of more
pub front_longer : (before now : Option (List ℕ)) (bytes more : List ℕ) → GainsFront before now bytes → GainsFront before now (bytes ++ more)
front_longer None now bytes more front = front
front_longer (Some before) now bytes more front = (front.0, front.1 ++ more, ap (λ (l : List ℕ). l ++ more) front.2 ∙ append_assoc front.0 front.1 more, front.3)

-- nothing is a front
pub front_none : (taken : Option (List ℕ)) (bytes : List ℕ) → GainsFront taken taken bytes
front_none None bytes = refl
front_none (Some taken) bytes = ([], bytes, refl, ap Some (sym (append-nil taken)))

-- In the middle of the texts: those before a place are taken, and the sink has not failed.
pub record AreWritten {X : Type 0} (f : X → List ℕ) (xs : List X) (place : ℕ) (faults_then faults_now : ℕ) (taken_then taken_now : Option (List ℕ)) : Type 0 where
  pub counted : faults_now ≡ faults_then
  pub gained : Gains taken_then taken_now (flat_map f (take place xs))

pub written_none : {X : Type 0} (f : X → List ℕ) (xs : List X) (faults : ℕ) (taken : Option (List ℕ)) → AreWritten f xs 0 faults faults taken taken
written_none f xs faults taken = record { counted = refl; gained = Gains-none taken }

pub written_more : {X : Type 0} (f : X → List ℕ) (xs : List X) (place next : ℕ) (x : X) (faults_then faults_before faults_now : ℕ) (taken_then taken_before taken_now : Option (List ℕ)) → next ≡ place + 1 → slice_get xs place ≡ Some x
    → faults_now ≡ faults_before → Gains taken_before taken_now (f x) → AreWritten f xs place faults_then faults_before taken_then taken_before → AreWritten f xs next faults_then faults_now taken_then taken_now
written_more f xs place next x faults_then faults_before faults_now taken_then taken_before taken_now is at same gained w = record {
  counted = same ∙ w.counted;
  gained = subst (λ (l : List ℕ). Gains taken_then taken_now l) (sym (flat_next f xs place next x is at)) (Gains-more taken_then taken_before taken_now (flat_map f (take place xs)) (f x) w.gained gained);
}

pub written_all : {X : Type 0} (f : X → List ℕ) (xs : List X) (place : ℕ) (faults_then faults_now : ℕ) (taken_then taken_now : Option (List ℕ)) → length xs ≤ place → AreWritten f xs place faults_then faults_now taken_then taken_now → Gains taken_then taken_now (flat_map f xs)
written_all f xs place faults_then faults_now taken_then taken_now long w = subst (λ (l : List ℕ). Gains taken_then taken_now l) (flat_all f xs place long) w.gained

pub written_front : {X : Type 0} (f : X → List ℕ) (xs : List X) (place : ℕ) (x : X) (faults_then faults_before : ℕ) (taken_then taken_before taken_now : Option (List ℕ)) → slice_get xs place ≡ Some x → GainsFront taken_before taken_now (f x)
    → AreWritten f xs place faults_then faults_before taken_then taken_before → GainsFront taken_then taken_now (flat_map f xs)
written_front f xs place x faults_then faults_before taken_then taken_before taken_now at front w =
    let h = flat_split f xs place x at in
    subst (λ (l : List ℕ). GainsFront taken_then taken_now l) (sym h.1)
    (front_behind taken_then taken_before taken_now (flat_map f (take place xs)) (f x ++ h.0) w.gained (front_longer taken_before taken_now (f x) h.0 front))
