use Rattle.std.proofs.Common.{ap}
use Rattle.parse_skim_handler.specs.declared.nodes.WholeProp.{WholeProp}
use Rattle.parse_skim_handler.specs.declared.packed.Whole.{Whole}
use Rattle.parse_skim_handler.proofs.packed.pack_prop.Goals as goal

pub returns : goal.returns
returns c =
    let of : Whole → WholeProp = λ w. record { told = w.told; errors = record { first = w.errors.first; proto = c.args.prop.errors.proto } } in
    ap of c.in_ok-kept.ensures
