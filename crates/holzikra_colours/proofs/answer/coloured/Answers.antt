use Rattle.std.proofs.Common.{◌≡◌, false, sym, ◌∙◌, rules}
use Rattle.holzikra_colours.specs.Colours.{has_escape}
use Rattle.holzikra_colours.proofs.ColourLemmas.{without-all}
use Rattle.holzikra_colours.proofs.answer.coloured.Goals as goal

pub returns-clause-same : goal.returns-clause-same
returns-clause-same c =
    let none : has_escape c.args.text.now ≡ false = search rules in
    c.in_ok-out.ensures none ∙ sym (without-all c.args.text.now none)
