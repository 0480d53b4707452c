use Rattle.emit_functions.proofs.ParamRows.{param_row}
use Rattle.emit_functions.proofs.params.param.Goals as goal

pub returns : goal.returns
returns c = param_row c.args.param.now c.in_ok-default_value.ensures c.in_ok-rest_argument.ensures
