use Rattle.std.proofs.Common.{◌≡◌, ◌+◌, length, map, rules}
use Rattle.std.specs.Prelude.{sum}
use Rattle.bytecode_buf.specs.Layout.{instructions}
use Rattle.script_image.specs.Listed.{entry_size}
use Rattle.script_image.proofs.Stands.{all_counted}
use Rattle.script_image.proofs.counts.instructions.Goals as goal

pub returns : goal.returns
returns c =
    let count : c.count_instructions.result + c.entries_instructions.result ≡ length (instructions c.args.merged.now.top.code) + sum (map entry_size c.args.merged.now.entries) = search rules in
    all_counted c.args.merged.now _ count
