use Rattle.std.proofs.Common.{List, ℕ, ◌++◌, codes, ap, sym, ◌∙◌, append_assoc}
use Rattle.std.specs.Fmt.{decimal}
use Rattle.code_check.specs.declared.verdict.Verdict.{Verdict}
use Rattle.code_check.specs.Verdicts.{soundness}
use Rattle.session_image_specs.specs.Images.{soundness_text}
use Rattle.session_images.proofs.verdicts.append_soundness.Goals as goal

pub returns-in_ok-append_decimal-in-Sound : goal.returns-in_ok-append_decimal-in-Sound
returns-in_ok-append_decimal-in-Sound c =
    c.in_ok-append_decimal-in-Sound.ensures
    ∙ ap (λ (l : List ℕ). l ++ decimal c.in-Sound.depth) c.in_ok-extend_from_slice-in-Sound.ensures.items
    ∙ append_assoc c.args.out.now.items (codes "sound depth ") (decimal c.in-Sound.depth)
    ∙ ap (λ (v : Verdict). c.args.out.now.items ++ soundness_text (soundness v)) (sym c.in-Sound.is)
