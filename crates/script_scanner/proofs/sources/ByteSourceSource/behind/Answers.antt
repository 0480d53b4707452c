use Rattle.std.proofs.Common.{◌+◌, sym, ap, ◌∙◌, arith}
use Rattle.script_scanner.specs.Bytes.{byte_points}
use Rattle.script_scanner.proofs.ByteLemmas.{count_is, bytes_behind}
use Rattle.script_scanner.proofs.sources.ByteSourceSource.behind.Goals as goal

pub bytes_behind-requires : goal.bytes_behind-requires
bytes_behind-requires c = omega (arith, c.requires, count_is c.args.self.start c.args.self.bytes.now)

pub returns : goal.returns
returns c = ap (byte_points (c.args.self.start + c.args.at)) c.bytes_behind.ensures.value ∙ sym (bytes_behind c.args.self.start c.args.self.bytes.now c.args.at)
