-- What was found of the directives at the head of a body.
use Rattle.std.specs.Prelude.{◌≡◌}
use Rattle.script_grammar.specs.Tree.{Stmts}
use Rattle.parse_track.specs.EarlyErrors.{error_of}
use Rattle.parse_track.specs.Notes.{first_note, strict_errors}
use Rattle.parse_function_list.specs.declared.list.FoundBody.{FoundBody}

-- the offset is that of the first error that these statements have as the body of a function with an initializer or a rest
-- parameter (rule 14)
abbrev pub HasStrict : FoundBody → Stmts → Type 0
HasStrict b items = error_of 14 b.strict ≡ first_note (strict_errors items)
