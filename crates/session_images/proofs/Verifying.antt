-- Lines of functions that are verified, one after another.
use Rattle.std.proofs.Common.{◌≡◌, ℕ, zero, suc, ◌+◌, ◌<◌, ◌≤◌, Bool, true, false, List, [], ◌∷◌, ◌++◌, length, take, get_or, refl, ap, sym, ◌∙◌, subst, append_assoc, append-nil, arith}
use Rattle.std.specs.Prelude.{◌||◌}
use Rattle.std.proofs.Math.Bool.{or_assoc}
use Rattle.std.proofs.lemmas.List.{take_all, take_more}
use Rattle.std.proofs.lemmas.List.{length-take-le}
use Rattle.stencil_data.specs.declared.stencils.Entry.{Entry}
use Rattle.stencil_data.specs.declared.stencils.Entry.TheVariants as entry
use Rattle.stencil_data.specs.MergedView.{MergedView}
use Rattle.stencil_data.specs.Views.{FunctionView}
use Rattle.stencil_xdr_specs.specs.Image.{IsImageOf}
use Rattle.bytecode_buf.specs.Verdicts.{Soundness}
use Rattle.session_image_specs.specs.Images.{AreVerified, AreVerifiedLines, is_unsound, verified_line}
use Rattle.session_images.specs.Appended.{AppendsVerdict}

-- the lines of these functions, whose numbers begin here, are appended
abbrev pub AppendsLines : ℕ → List Entry → List ℕ → List ℕ → Bool → Type 0
AppendsLines number entries old new unsound = (lines : List ℕ) × AreVerified number entries lines unsound × (new ≡ old ++ lines)

-- ---- one function

pub appends_none : (number : ℕ) (e : Entry) (old new : List ℕ) (unsound : Bool) → e ≡ entry.Lazy → new ≡ old → unsound ≡ false → AppendsLines number (e ∷ []) old new unsound
appends_none number e old new unsound lazy same fine = ([], subst (λ (x : Entry). AreVerified number (x ∷ []) [] unsound) (sym lazy) (refl, fine), same ∙ sym (append-nil old))

pub appends_one : (number : ℕ) (e : Entry) (f : FunctionView) (old new : List ℕ) (unsound : Bool) → e ≡ entry.Compiled f → AppendsVerdict number f.code f.notes old new unsound → AppendsLines number (e ∷ []) old new unsound
appends_one number e f old new unsound compiled a = (
  verified_line number a.verdict,
  subst (λ (x : Entry). AreVerified number (x ∷ []) (verified_line number a.verdict) unsound) (sym compiled)
      (a.verdict, [], false, a.is, sym (append-nil (verified_line number a.verdict)), a.said ∙ sym (or_false (is_unsound a.verdict)), (refl, refl)),
  a.appended,
)
  where
    or_false : (b : Bool) → (b || false) ≡ b
    or_false true = refl
    or_false false = refl

-- ---- one more

joined : (n : ℕ) (xs ys : List Entry) (out more : List ℕ) (u v : Bool) → AreVerified n xs out u → AreVerified (n + length xs) ys more v → AreVerified n (xs ++ ys) (out ++ more) (u || v)
joined n [] ys out more u v h k =
    subst (λ (b : Bool). AreVerified n ys (out ++ more) (b || v)) (sym h.1)
    (subst (λ (l : List ℕ). AreVerified n ys (l ++ more) v) (sym h.0) (subst (λ (m : ℕ). AreVerified m ys more v) (omega arith) k))
joined n (entry.Lazy ∷ xs) ys out more u v h k = joined (n + 1) xs ys out more u v h (subst (λ (m : ℕ). AreVerified m ys more v) (omega arith) k)
joined n (entry.Compiled f ∷ xs) ys out more u v (s, later, later_u, is, printed, said, rest) k = (
  s,
  later ++ more,
  later_u || v,
  is,
  ap (λ (l : List ℕ). l ++ more) printed ∙ append_assoc (verified_line n s) later more,
  ap (λ (b : Bool). b || v) said ∙ or_assoc (is_unsound s) later_u v,
  joined (n + 1) xs ys later more later_u v rest (subst (λ (m : ℕ). AreVerified m ys more v) (omega arith) k),
)

pub lines_start : (entries : List Entry) (out : List ℕ) → AppendsLines 1 (take 0 entries) out out false
lines_start entries out = ([], (refl, refl), sym (append-nil out))

pub or_first : (u one next : Bool) → u ≡ true → next ≡ u → next ≡ (u || one)
or_first true one next is same = same
or_first false one next is same = absurd (cc)

pub or_second : (u one next : Bool) → u ≡ false → next ≡ one → next ≡ (u || one)
or_second true one next is same = absurd (cc)
or_second false one next is same = same

pub lines_more : (entries : List Entry) (index number : ℕ) (d : Entry) (old out new : List ℕ) (u one next : Bool) → index < length entries → number ≡ index + 1 → AppendsLines 1 (take index entries) old out u
    → AppendsLines number (get_or entries index d ∷ []) out new one → next ≡ (u || one) → AppendsLines 1 (take (index + 1) entries) old new next
lines_more entries index number d old out new u one next within is h k same = (
  h.0 ++ k.0,
  subst (λ (b : Bool). AreVerified 1 (take (index + 1) entries) (h.0 ++ k.0) b) (sym same)
      (subst (λ (es : List Entry). AreVerified 1 es (h.0 ++ k.0) (u || one)) (sym (take_more entries index d within))
      (joined 1 (take index entries) (get_or entries index d ∷ []) h.0 k.0 u one h.1 (subst (λ (m : ℕ). AreVerified m (get_or entries index d ∷ []) k.0 one) at k.1))),
  k.2 ∙ ap (λ (l : List ℕ). l ++ k.0) h.2 ∙ append_assoc old h.0 k.0,
)
  where
    at : number ≡ 1 + length (take index entries)
    at = let long = length-take-le index entries (omega (arith, within)) in omega (arith, long, is)

pub lines_end : (entries : List Entry) (index : ℕ) (old new : List ℕ) (u : Bool) → length entries ≤ index → AppendsLines 1 (take index entries) old new u → AppendsLines 1 entries old new u
lines_end entries index old new u past h = subst (λ (es : List Entry). AppendsLines 1 es old new u) (take_all index entries past) h

-- ---- all scripts of an image

pub all_lines : (stencil : MergedView) (bytes old mid new : List ℕ) (top inner u : Bool) → IsImageOf stencil bytes → AppendsVerdict 0 stencil.top.code stencil.top.notes old mid top → AppendsLines 1 stencil.entries mid new inner → u ≡ (top || inner)
    → (lines : List ℕ) × AreVerifiedLines bytes lines u × (new ≡ old ++ lines)
all_lines stencil bytes old mid new top inner u is a l same = (
  verified_line 0 a.verdict ++ l.0,
  record {
    stencil = stencil;
    is = is;
    lines = (a.verdict, l.0, inner, a.is, refl, same ∙ ap (λ (b : Bool). b || inner) a.said, l.1);
  },
  l.2 ∙ ap (λ (x : List ℕ). x ++ l.0) a.appended ∙ append_assoc old (verified_line 0 a.verdict) l.0,
)
