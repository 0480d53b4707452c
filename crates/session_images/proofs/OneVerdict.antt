-- The verdicts on the code of an image are one list.
use Rattle.std.proofs.Common.{◌≡◌, ℕ, ◌+◌, Bool, List, [], ◌∷◌, ◌++◌, sym, ◌∙◌, ap₂}
use Rattle.std.specs.Prelude.{◌||◌}
use Rattle.stencil_data.specs.declared.stencils.Entry.{Entry}
use Rattle.stencil_data.specs.declared.stencils.Entry.TheVariants as entry
use Rattle.stencil_data.specs.Views.{FunctionView}
use Rattle.bytecode_buf.specs.Verdicts.{Soundness}
use Rattle.session_images.specs.Agree.{PartsAgree, EntriesAgree}
use Rattle.session_image_specs.specs.Images.{verified_line, is_unsound, IsVerifiedBefore, AreVerified, AreVerifiedLines}
use Rattle.session_images.proofs.SameVerdict.{parts_verdict, verified_once}
use Rattle.session_images.proofs.ImageCodes.{image_codes_agree}

lines_once : (number : ℕ) (f g : FunctionView) (out other : List ℕ) (u v : Bool) (Rest Behind : List ℕ → Bool → Type 0) → PartsAgree f g
    → ((l m : List ℕ) (a b : Bool) → Rest l a → Behind m b → (l ≡ m) × (a ≡ b)) → IsVerifiedBefore number f.code f.notes out u Rest → IsVerifiedBefore number g.code g.notes other v Behind → (out ≡ other) × (u ≡ v)
lines_once number f g out other u v Rest Behind agree once h k =
    let same : h.0 ≡ k.0 = verified_once g.code g.notes h.0 k.0 (parts_verdict f g h.0 agree h.3) k.3 in
    let later = once h.1 k.1 h.2 k.2 h.6 k.6 in (
      h.4 ∙ (ap₂ (λ (s : Soundness) (l : List ℕ). verified_line number s ++ l) same later.0 ∙ sym k.4),
      h.5 ∙ (ap₂ (λ (s : Soundness) (b : Bool). is_unsound s || b) same later.1 ∙ sym k.5),
    )

entries_once : (number : ℕ) (es os : List Entry) (out other : List ℕ) (u v : Bool) → EntriesAgree es os → AreVerified number es out u → AreVerified number os other v → (out ≡ other) × (u ≡ v)
entries_once number [] [] out other u v agree h k = (h.0 ∙ sym k.0, h.1 ∙ sym k.1)
entries_once number [] (o ∷ os) out other u v agree h k = absurd agree
entries_once number (e ∷ es) [] out other u v agree h k = absurd agree
entries_once number (entry.Lazy ∷ es) (entry.Lazy ∷ os) out other u v agree h k = entries_once (number + 1) es os out other u v agree h k
entries_once number (entry.Lazy ∷ es) (entry.Compiled g ∷ os) out other u v agree h k = absurd agree
entries_once number (entry.Compiled f ∷ es) (entry.Lazy ∷ os) out other u v agree h k = absurd agree
entries_once number (entry.Compiled f ∷ es) (entry.Compiled g ∷ os) out other u v agree h k =
    lines_once number f g out other u v (λ l a. AreVerified (number + 1) es l a) (λ m b. AreVerified (number + 1) os m b) agree.0
    (λ l m a b x y. entries_once (number + 1) es os l m a b agree.1 x y) h k

-- bytes have one list of verdicts
pub one_image_one_verdict : (bytes out other : List ℕ) (u v : Bool) → AreVerifiedLines bytes out u → AreVerifiedLines bytes other v → (out ≡ other) × (u ≡ v)
one_image_one_verdict bytes out other u v h k =
    let agree = image_codes_agree h.stencil k.stencil bytes h.is k.is in
    lines_once 0 h.stencil.top k.stencil.top out other u v (λ l a. AreVerified 1 h.stencil.entries l a) (λ m b. AreVerified 1 k.stencil.entries m b) agree.top
    (λ l m a b x y. entries_once 1 h.stencil.entries k.stencil.entries l m a b agree.entries x y) h.lines k.lines
