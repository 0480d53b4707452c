use Rattle.std.proofs.Common.{◌∙◌, refl, ap}
use Rattle.stencil_data.specs.Views.{InitialView}
use Rattle.compile_wanted.specs.Numbers.{to_show}
use Rattle.compile_shown.proofs.Flags.{flags_seen}
use Rattle.compile_shown.proofs.flags_of.Goals as goal

pub returns : goal.returns
returns c =
    flags_seen (to_show c.args.wanted) c.requires.0 c.args.initial.now c.requires.1 c.in_ok-ends.ends.items c.deref-2.result.now c.deref.result.now c.in_ok-flags.flags.items c.in_ok-flags.flags.items
    (c.deref.ensures.value ∙ ap (λ (p : InitialView). p.records) c.parts.view_is) c.in_ok-ends.ensures c.deref-2.ensures.value c.in_ok-flags.ensures refl
