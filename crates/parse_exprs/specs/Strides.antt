-- Going over tokens and past brackets.
use Rattle.std.specs.Prelude.{ℕ, suc, Option, Some, None, nat_lt, if◌then◌else◌}

-- from a token to its partner, where that stands after it, or else to the next one
abbrev pub stride : Option ℕ → ℕ → ℕ
stride None at = suc at
stride (Some partner) at = if nat_lt at partner then partner else suc at
