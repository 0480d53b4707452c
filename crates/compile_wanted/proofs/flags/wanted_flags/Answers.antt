use Rattle.std.proofs.Common.{◌∙◌, ap, sym}
use Rattle.compile_wanted.specs.declared.flags.Wanted.{Wanted}
use Rattle.compile_wanted.specs.Flags.{wanted_flags}
use Rattle.compile_wanted.specs.Numbers.{to_show}
use Rattle.compile_wanted.proofs.ShownFlags.{all_wanted}
use Rattle.compile_wanted.proofs.flags.wanted_flags.Goals as goal

pub returns-in_ok-vec-in-All : goal.returns-in_ok-vec-in-All
returns-in_ok-vec-in-All c =
    c.in_ok-vec-in-All.ensures.items_if_clones_equal (λ y is. is) ∙ (all_wanted 1 c.args.count ∙ ap (λ (w : Wanted). wanted_flags (to_show w) c.args.count) (sym c.in-All.is))
