use Rattle.early_script_errors.proofs.Checks.{early}
use Rattle.early_script_errors.proofs.checking.first_early_error.Goals as goal

pub returns : goal.returns
returns c = λ texts items of told. early c.in_ok-track.track c.in_ok-early.early c.in_ok-early.ensures texts items (c.in_ok-track.ensures texts items of told)
