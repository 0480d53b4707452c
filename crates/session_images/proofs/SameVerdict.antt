-- What is verified of code is verified of code that is the same but for the numbers of texts, and it is one thing.
use Rattle.std.proofs.Common.{◌≡◌, ℕ, ◌≤◌, List, refl, ap, subst, arith}
use Rattle.stencil_data.specs.declared.stencils.TryNote.{TryNote}
use Rattle.stencil_data.specs.Views.{FunctionView}
use Rattle.bytecode_buf.specs.Machine.{State}
use Rattle.bytecode_buf.specs.Verdicts.{Soundness, Sound, Unsound, IsSound, IsVerified}
use Rattle.code_check.proofs.Arrivals.{table_has}
use Rattle.session_images.specs.Agree.{CodesAgree, PartsAgree}
use Rattle.session_images.proofs.SameSteps.{codes_back, same_table, same_least}

pub same_verdict : (code other : List ℕ) (notes : List TryNote) (s : Soundness) → CodesAgree code other → IsVerified code notes s → IsVerified other notes s
same_verdict code other notes (Sound depth) h v = record { table = v.table; least = same_least code other notes v.table h v.least; greatest = v.greatest }
same_verdict code other notes Unsound h v = λ t. v (t.0, same_table other code notes t.0 (codes_back code other h) t.1)

pub parts_verdict : (part other : FunctionView) (s : Soundness) → PartsAgree part other → IsVerified part.code part.notes s → IsVerified other.code other.notes s
parts_verdict part other s h v = subst (λ (notes : List TryNote). IsVerified other.code notes s) h.notes (same_verdict part.code other.code part.notes s h.codes v)

-- ---- one verdict

no_deeper : (code : List ℕ) (notes : List TryNote) (d e : ℕ) → IsSound code notes d → IsSound code notes e → d ≤ e
no_deeper code notes d e v w =
    let s : State = record { at = v.greatest.at; depth = d } in
    w.greatest.most v.greatest.at d (table_has code notes w.table w.least.is s (v.least.reached s v.greatest.is))

-- what is verified of code is one thing
pub verified_once : (code : List ℕ) (notes : List TryNote) (s t : Soundness) → IsVerified code notes s → IsVerified code notes t → s ≡ t
verified_once code notes (Sound d) (Sound e) v w =
    let up : d ≤ e = no_deeper code notes d e v w in
    let down : e ≤ d = no_deeper code notes e d w v in
    let same : d ≡ e = omega arith in ap (λ (n : ℕ). Sound n) same
verified_once code notes (Sound d) Unsound v w = absurd (w (v.table, v.least.is))
verified_once code notes Unsound (Sound e) v w = absurd (v (w.table, w.least.is))
verified_once code notes Unsound Unsound v w = refl
