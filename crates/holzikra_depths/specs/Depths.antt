-- How deep the stacks of a script's code get. This project's own choice.
use Rattle.std.specs.Prelude.{◌≡◌, ℕ, Option, Some, None}
use Rattle.stencil_data.specs.declared.stencils.Entry.{Entry}
use Rattle.stencil_data.specs.declared.stencils.Entry.TheVariants as entry
use Rattle.stencil_data.specs.Views.{FunctionView}
use Rattle.bytecode_buf.specs.Verdicts.{IsVerified, Sound, Unsound}

-- what is said of the code of a part: how deep its stack gets where it is sound, and nothing where it is not
abbrev pub IsDepth : FunctionView → Option ℕ → Type 0
IsDepth part (Some depth) = IsVerified part.code part.notes (Sound depth)
IsDepth part None = IsVerified part.code part.notes Unsound

-- the same of an entry, of which nothing is said where it is not compiled
abbrev pub IsEntryDepth : Entry → Option ℕ → Type 0
IsEntryDepth entry.Lazy depth = depth ≡ None
IsEntryDepth (entry.Compiled part) depth = IsDepth part depth
