-- The digest of a text: Fowler, Noll and Vo's function 1a of 64 bits, over units instead of bytes.
use Rattle.std.specs.Prelude.{ℕ, ◌*◌, ◌%◌, ◌^◌, List, fold, bit_xor}

-- The digest after one unit more.
abbrev pub digest_step : ℕ → ℕ → ℕ
digest_step digest unit = (bit_xor digest unit * 1099511628211) % 2 ^ 64

-- The digest of a text.
abbrev pub digest_of : List ℕ → ℕ
digest_of text = fold digest_step 14695981039346656037 text
