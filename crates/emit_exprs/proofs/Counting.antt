-- Instructions whose operand is a count.
use Rattle.std.proofs.Common.{◌≡◌, ℕ, ◌<◌, ◌≤◌, List, ap}
use Rattle.bytecode_buf.specs.Pieces.{Code}
use Rattle.emit_exprs.specs.declared.site.Site.{Site}
use Rattle.emit_exprs.specs.Sites.{EmitsAt}
use Rattle.emit_exprs.specs.TreeCode.{Written}

-- a count that was held to a bound
pub counted_code : (s : Site) (old new : List ℕ) (count most limit held : ℕ) (code : ℕ → Code) → (count ≤ most → held ≡ count) → (count < limit → count ≤ most) → EmitsAt s old new (code held) → Written s old new (λ bodies. count < limit) (λ bodies. code count)
counted_code s old new count most limit held code same within emits = record { written = code held; emits = emits; is = λ bodies fits. ap code (same (within fits)) }
