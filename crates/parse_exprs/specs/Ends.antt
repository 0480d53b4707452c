-- Where tokens end.
use Rattle.std.specs.Prelude.{ℕ, zero, suc, List, length, nat_le, if◌then◌else◌, slice_index_or, false}
use Rattle.script_grammar.specs.declared.token.Token.{Token}
use Rattle.script_grammar.specs.declared.token.Kind.TheVariants as kind

abbrev pub no_token : Token
no_token = record { kind = kind.End; value = 0; start = 0; end = 0; after_line = false }

-- the end of the token of this number, counted from 1, and 0 of none
abbrev pub end_of : List Token → ℕ → ℕ
end_of ts zero = 0
end_of ts (suc k) = (slice_index_or ts k no_token).end

-- the end of the token before this one, or of the last where there are fewer
abbrev pub end_before : List Token → ℕ → ℕ
end_before ts at = end_of ts (if nat_le at (length ts) then at else length ts)
