use Rattle.std.proofs.Common.{ℕ, ◌<◌, ◌||◌, Bool, List, map, get_or, length, bytes_eq, ap, sym, ◌∙◌, arith}
use Rattle.std.proofs.lemmas.List.{take_all}
use Rattle.stencil_data.specs.StandsFor.{text_at}
use Rattle.scope_analysis.specs.DeclaredNames.{Text, has_text}
use Rattle.scope_analysis.proofs.NameTexts.{has_more}
use Rattle.scope_analysis.proofs.texts.text_set.Goals as goal

pub loop-atom-init : goal.loop-atom-init
loop-atom-init c = (c.in_ok-some.ensures.place c.args.texts.now, c.in_ok-some.ensures.has c.args.texts.now)

pub returns-clause-has : goal.returns-clause-has
returns-clause-has c = λ q. c.loop-atom.invariant.1 q ∙ ap (λ (xs : List ℕ). has_text (map (text_at c.args.texts.now) xs) q) (take_all c.loop-atom.atom-index c.args.atoms.now c.loop-atom-test.false)

pub loop-atom-preserved : goal.loop-atom-preserved
loop-atom-preserved c =
    let f : ℕ → Text = text_at c.args.texts.now in
    let k : ℕ = c.loop-atom.atom-index in
    let l : k < length c.args.atoms.now = omega arith in (
      c.in_ok-insert.ensures.place,
      (λ q. c.in_ok-insert.ensures.has q ∙ (ap (λ (b : Bool). bytes_eq (f (get_or c.args.atoms.now k 0)) q || b) (c.loop-atom.invariant.1 q) ∙ sym (has_more f c.args.atoms.now k q l))),
    )
