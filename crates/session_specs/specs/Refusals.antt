-- Why a file is refused, and the line that says so: this project's own choice.
use Rattle.std.specs.Prelude.{ℕ, List, ◌++◌, codes}
use Rattle.std.specs.Fmt.{decimal}

pub data Refusal : Type 0 where
  -- the files of the command up to this one have more bytes than they may have together
  TooLong : Refusal
  -- the bytes are not UTF-8, from this offset on
  BadUtf8 : ℕ → Refusal
  -- no script goes on with the token at this offset
  Unexpected : ℕ → Refusal
  -- the token at this offset is too deep
  TooDeep : ℕ → Refusal
  -- an early error at an offset, and its rule
  Early : (offset rule : ℕ) → Refusal
  -- the file has no function of this number
  NoFunction : ℕ → Refusal
  -- the bytes are the image of no stencil
  NoImage : Refusal

-- a file's name and a place in it
abbrev pub at_offset : List ℕ → ℕ → List ℕ
at_offset name offset = name ++ codes ":" ++ decimal offset

abbrev pub refusal_line : List ℕ → Refusal → List ℕ
refusal_line name TooLong = name ++ codes ": too long\n"
refusal_line name (BadUtf8 offset) = at_offset name offset ++ codes ": not UTF-8\n"
refusal_line name (Unexpected offset) = at_offset name offset ++ codes ": unexpected\n"
refusal_line name (TooDeep offset) = at_offset name offset ++ codes ": too deep\n"
refusal_line name (Early offset rule) = at_offset name offset ++ codes ": early error " ++ decimal rule ++ codes "\n"
refusal_line name (NoFunction number) = name ++ codes ": no function " ++ decimal number ++ codes "\n"
refusal_line name NoImage = name ++ codes ": no image\n"
