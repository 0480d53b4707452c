use Rattle.std.proofs.Common.{◌≡◌, ℕ, ◌<◌, ◌+◌, ◌++◌, ◌∷◌, [], Bool, List, length, map, take, drop, get_or, suc, cond, not, ◌||◌, bytes_eq, ap, sym, ◌∙◌, arith, drop-cons}
use Rattle.stencil_data.specs.StandsFor.{text_at}
use Rattle.scope_analysis.specs.DeclaredNames.{Text, first_ones, first_ones_after}
use Rattle.scope_analysis.proofs.NameTexts.{first_turn, has_more, kept_more, kept_same}
use Rattle.scope_analysis.proofs.texts.first_ones.Goals as goal
use Rattle.scope_analysis.proofs.texts.first_ones.Goals.{then-branch+in_ok-push, else-branch}

pub loop-atom-init : goal.loop-atom-init
loop-atom-init c =
    let f : ℕ → Text = text_at c.args.texts.now in (
      c.in_ok-seen.ensures.place c.args.texts.now,
      (c.in_ok-seen.ensures.has c.args.texts.now, ap (λ (xs : List ℕ). map f xs ++ first_ones (map f c.args.atoms.now)) c.new-kept.ensures.items),
    )

pub loop-atom-preserved : goal.loop-atom-preserved
loop-atom-preserved c =
    let f : ℕ → Text = text_at c.args.texts.now in
    let k : ℕ = c.loop-atom.atom-index in
    let x : ℕ = get_or c.args.atoms.now k 0 in
    let l : k < length c.args.atoms.now = omega arith in
    let one : k + 1 ≡ suc k = omega arith in
    let split : map f (drop k c.args.atoms.now) ≡ f x ∷ map f (drop (k + 1) c.args.atoms.now) =
    ap (map f) (drop-cons c.args.atoms.now k 0 l) ∙ ap (λ (n : ℕ). f x ∷ map f (drop n c.args.atoms.now)) (sym one) in
    let kept : map f c.if-branch.kept.items ≡ map f c.loop-atom.kept.items ++ cond c.in_ok-insert.field-0 (f x ∷ []) [] =
    elim c.if-branch.branch [
      | then-branch+in_ok-push w ↦ kept_more f c.loop-atom.kept.items c.if-branch.kept.items x c.in_ok-insert.field-0 w.if-branch.true (ap (λ v. v.items) w.kept-is ∙ w.in_ok-push.ensures.items)
      | else-branch w ↦ kept_same f c.loop-atom.kept.items c.if-branch.kept.items x c.in_ok-insert.field-0 w.if-branch.false (ap (λ v. v.items) w.kept-is)
    ] in (
      c.in_ok-insert.ensures.place,
      (
        (λ q. c.in_ok-insert.ensures.has q ∙ (ap (λ (b : Bool). bytes_eq (f x) q || b) (c.loop-atom.invariant.1.0 q) ∙ sym (has_more f c.args.atoms.now k q l))),
        first_turn (map f (take k c.args.atoms.now)) (map f (take (k + 1) c.args.atoms.now)) (map f c.loop-atom.kept.items) (map f c.if-branch.kept.items) (f x) (map f (drop (k + 1) c.args.atoms.now)) c.in_ok-insert.field-0
            (c.in_ok-insert.ensures.added ∙ ap not (c.loop-atom.invariant.1.0 (f x)))
            (λ q. has_more f c.args.atoms.now k q l) kept
            ∙ (ap (λ (ts : List Text). map f c.loop-atom.kept.items ++ first_ones_after (map f (take k c.args.atoms.now)) ts) (sym split) ∙ c.loop-atom.invariant.1.1),
      ),
    )
