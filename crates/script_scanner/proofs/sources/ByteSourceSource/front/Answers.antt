use Rattle.std.proofs.Common.{sym, ap, ◌∙◌, arith}
use Rattle.script_scanner.specs.Bytes.{byte_points}
use Rattle.script_scanner.proofs.ByteLemmas.{count_is, bytes_front}
use Rattle.script_scanner.proofs.sources.ByteSourceSource.front.Goals as goal

pub bytes_before-requires : goal.bytes_before-requires
bytes_before-requires c = omega (arith, c.requires, count_is c.args.self.start c.args.self.bytes.now)

pub returns : goal.returns
returns c = ap (byte_points c.args.self.start) c.bytes_before.ensures.value ∙ sym (bytes_front c.args.self.start c.args.self.bytes.now c.args.count)
