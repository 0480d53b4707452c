use Rattle.std.proofs.Common.{refl}
use Rattle.script_scanner.proofs.ByteLemmas.{read_byte}
use Rattle.script_scanner.proofs.sources.ByteSourceSource.point_at.Goals as goal

pub returns : goal.returns
returns c = read_byte c.args.self.start c.args.self.bytes.now c.args.at _ _ _ c.requires c.from.ensures refl refl
