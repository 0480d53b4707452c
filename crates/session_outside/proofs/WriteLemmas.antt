-- The loop that writes bytes whole.
use Rattle.std.proofs.Common.{◌≡◌, ℕ, ◌+◌, ◌≤◌, List, [], ◌++◌, Option, Some, None, length, take, drop, refl, ap, sym, ◌∙◌, append_assoc, append-nil, arith, length-drop, take-add, subst}
use Rattle.std.proofs.lemmas.List.{take-append-drop}
use Rattle.session_outside.specs.Sink.{Gains, GainsFront}

-- a sink that has taken the first bytes
pub record IsWriting (faults_then faults_now : ℕ) (taken_then taken_now : Option (List ℕ)) (bytes : List ℕ) (done : ℕ) : Type 0 where
  pub counted : faults_now ≡ faults_then
  pub within : done ≤ length bytes
  pub gained : Gains taken_then taken_now (take done bytes)

-- nothing is taken yet
pub Gains-none : (taken : Option (List ℕ)) → Gains taken taken []
Gains-none None = refl
Gains-none (Some taken) = ap Some (sym (append-nil taken))

-- one more piece is taken
pub Gains-more : (then before now : Option (List ℕ)) (front piece : List ℕ) → Gains then before front → Gains before now piece → Gains then now (front ++ piece)
Gains-more None None now front piece first next = next
Gains-more None (Some before) now front piece first next = absurd (cc)
Gains-more (Some then) None now front piece first next = absurd (cc)
Gains-more (Some then) (Some before) now front piece first next =
    let same : before ≡ then ++ front = cc in
    next ∙ ap (λ taken. Some (taken ++ piece)) same ∙ ap Some (append_assoc then front piece)

-- the next bytes are taken
pub Gains-take : (then before now : Option (List ℕ)) (bytes : List ℕ) (done count : ℕ) → Gains then before (take done bytes) → Gains before now (take count (drop done bytes)) → Gains then now (take (done + count) bytes)
Gains-take then before now bytes done count first next = rw take-add (Gains-more then before now (take done bytes) (take count (drop done bytes)) first next)

-- the first bytes are a front
pub GainsFront-take : (then now : Option (List ℕ)) (bytes : List ℕ) (done : ℕ) → Gains then now (take done bytes) → GainsFront then now bytes
GainsFront-take None now bytes done gained = gained
GainsFront-take (Some then) now bytes done gained = (take done bytes, drop done bytes, sym (take-append-drop done bytes), gained)

-- the loop goes on after a piece that was taken
pub IsWriting-more : (faults_then faults_before faults_now : ℕ) (taken_then taken_before taken_now : Option (List ℕ)) (bytes piece : List ℕ) (done count : ℕ) → IsWriting faults_then faults_before taken_then taken_before bytes done → piece ≡ drop done bytes → faults_now ≡ faults_before → count ≤ length piece → Gains taken_before taken_now (take count piece) → IsWriting faults_then faults_now taken_then taken_now bytes (done + count)
IsWriting-more faults_then faults_before faults_now taken_then taken_before taken_now bytes piece done count writing is_rest counted few gained = record {
  counted = counted ∙ writing.counted;
  within = omega (arith, ap length is_rest, length-drop done bytes, writing.within);
  gained = Gains-take taken_then taken_before taken_now bytes done count writing.gained (subst (λ (rest : List ℕ). Gains taken_before taken_now (take count rest)) is_rest gained);
}

-- a refused call takes nothing more
pub GainsFront-refused : (faults_then faults_before : ℕ) (taken_then taken_before taken_now : Option (List ℕ)) (bytes : List ℕ) (done : ℕ) → IsWriting faults_then faults_before taken_then taken_before bytes done → taken_now ≡ taken_before → GainsFront taken_then taken_now bytes
GainsFront-refused faults_then faults_before taken_then taken_before taken_now bytes done writing same =
    GainsFront-take taken_then taken_now bytes done (subst (λ (taken : Option (List ℕ)). Gains taken_then taken (take done bytes)) (sym same) writing.gained)
