use Rattle.std.proofs.Common.{◌≡◌, take}
use Rattle.parser_atoms.specs.Digest.{digest_of}
use Rattle.scope_analysis.proofs.digests.digest.Given as goal

abbrev pub invariant-loop-unit : goal.invariant-loop-unit
invariant-loop-unit l = l.digest ≡ digest_of (take l.unit-index l.units)
