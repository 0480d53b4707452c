use Rattle.std.specs.Fmt.{decimal}
use Rattle.std.specs.Prelude.{codes}
use Rattle.compile_session.proofs.TrialLemmas.{appended_four}
use Rattle.compile_session.proofs.generated.append_counts.Goals as goal

pub returns : goal.returns
returns c =
    appended_four c.args.out.now.items (decimal c.args.functions) (codes " functions, ") (decimal c.args.instructions) (codes " instructions\n") c.append_decimal.new.out.items c.extend_from_slice.new.self.items c.append_wide.new.out.items c.extend_from_slice-2.new.self.items
    c.in_ok-append_decimal.ensures c.in_ok-extend_from_slice.ensures.items c.in_ok-append_wide.ensures c.in_ok-extend_from_slice-2.ensures.items
