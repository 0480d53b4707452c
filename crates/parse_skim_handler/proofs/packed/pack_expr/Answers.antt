use Rattle.std.proofs.Common.{ap}
use Rattle.parse_skim_handler.specs.declared.nodes.WholeExpr.{WholeExpr}
use Rattle.parse_skim_handler.specs.declared.packed.Whole.{Whole}
use Rattle.parse_skim_handler.proofs.packed.pack_expr.Goals as goal

pub returns : goal.returns
returns c =
    let of : Whole → WholeExpr = λ w. record { told = w.told; errors = record { first = w.errors.first; start = c.args.expr.errors.start; shape = c.args.expr.errors.shape } } in
    ap of c.in_ok-kept.ensures
