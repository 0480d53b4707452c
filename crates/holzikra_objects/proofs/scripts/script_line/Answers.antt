use Rattle.std.proofs.Common.{string_bytes}
use Rattle.serde_json.specs.Data.{object}
use Rattle.holzikra_json.specs.Lines.{members_of}
use Rattle.holzikra_objects.specs.Objects.{shown}
use Rattle.holzikra_objects.proofs.Fine.{script_line_is}
use Rattle.holzikra_objects.proofs.scripts.script_line.Goals as goal

pub returns : goal.returns
returns c =
    script_line_is (shown c.args.listing c.args.merged.now.texts c.args.notes.now) c.args.name.now c.args.bytes c.args.merged.now (object (members_of c.in_ok-members.members)) (string_bytes c.in_ok-line.line) c.in_ok-members.ensures c.in_ok-line.ensures
