use Rattle.std.proofs.Common.{◌≤◌, ◌+◌, min, length, map, rules}
use Rattle.serde_json.specs.View.{view}
use Rattle.holzikra_objects.specs.Objects.{shown}
use Rattle.holzikra_objects.proofs.ScriptSteps.{all_there}
use Rattle.holzikra_objects.proofs.scripts.script_values.Goals as goal

pub returns : goal.returns
returns c =
    let done : min (length c.args.merged.now.records) (length c.args.merged.now.entries) ≤ c.loop-index.index = search rules in
    all_there (shown c.args.listing c.args.merged.now.texts c.args.notes.now) c.args.merged.now.texts (c.loop-index.index + 1) c.loop-index.index c.args.merged.now.records c.args.merged.now.entries (map view c.loop-index.values.items) _ done c.loop-index.invariant
