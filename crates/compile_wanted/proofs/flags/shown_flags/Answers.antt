use Rattle.std.proofs.Common.{◌∙◌, length, ap}
use Rattle.compile_wanted.specs.Numbers.{to_show}
use Rattle.compile_wanted.proofs.ShownFlags.{flags_length}
use Rattle.compile_wanted.proofs.flags.shown_flags.Goals as goal

pub show_around-requires : goal.show_around-requires
show_around-requires c = ap length c.deref_mut.ensures.value ∙ (ap length c.in_ok-flags.ensures ∙ flags_length (to_show c.args.wanted) (length c.args.ends.now))
