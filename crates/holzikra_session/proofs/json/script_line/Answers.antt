-- The line is that of the members that were put in.
use Rattle.std.proofs.Common.{string_bytes, subst}
use Rattle.serde_json.specs.Data.{Members, object}
use Rattle.holzikra_json.specs.Lines.{IsLine}
use Rattle.holzikra_session.proofs.json.script_line.Goals as goal

pub returns : goal.returns
returns c = subst (λ (ms : Members). IsLine (object ms) (string_bytes c.in_ok-line.line)) c.in_ok-members.ensures c.in_ok-line.ensures
