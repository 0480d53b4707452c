use Rattle.std.proofs.Common.{◌∙◌, ap, sym, Some, option_map}
use Rattle.parse_handlers.specs.Kept.{kept_args}
use Rattle.parse_handlers.proofs.parts.maybe_args.Goals as goal

pub returns-in-Some : goal.returns-in-Some
returns-in-Some c = λ i. ap Some (c.args-in-Some.ensures i) ∙ ap (option_map (kept_args i)) (sym c.in-Some.is)
