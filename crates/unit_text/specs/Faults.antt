-- When `decode` refuses.
use Rattle.std.specs.Prelude.{◌≡◌, ℕ, List, ⊤}
use Rattle.std.specs.Str.{IsUtf8}
use Rattle.std.specs.Str.Lossy.{utf8_valid_len}
use Rattle.unit_text.specs.declared.DecodeFault.{DecodeFault}
use Rattle.unit_text.specs.declared.DecodeFault.TheVariants.{BadUtf8, NoMemory}

-- Bad UTF-8 is told only of bytes that are none, at the length of their longest front that is UTF-8.
abbrev pub IsFaultOf : List ℕ → DecodeFault → Type 0
IsFaultOf bytes (BadUtf8 offset) = ¬ (IsUtf8 bytes) × (offset ≡ utf8_valid_len bytes)
IsFaultOf bytes NoMemory = ⊤
