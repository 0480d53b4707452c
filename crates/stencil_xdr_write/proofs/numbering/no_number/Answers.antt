use Rattle.std.proofs.Common.{arith}
use Rattle.std.proofs.lemmas.Grind.{get_or_default_zero}
use Rattle.stencil_xdr_write.proofs.numbering.no_number.Goals as goal

pub returns-clause-fit : goal.returns-clause-fit
returns-clause-fit c = λ k d more. omega (arith, c.type_inv.units k, get_or_default_zero c.args.units.now k d more)
