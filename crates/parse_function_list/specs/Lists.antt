-- What is listed from the nodes of a script and of the bodies in it, whichever script these are of. This project's own choice.
use Rattle.std.specs.Prelude.{◌≡◌, List, Option, false}
use Rattle.script_grammar.specs.Braced.{braced_all}
use Rattle.script_grammar.specs.Interpretation.{Interpretation}
use Rattle.script_grammar.specs.Pieces.{whole}
use Rattle.script_grammar.specs.Proper.{ProperStmts}
use Rattle.script_grammar.specs.Shows.{ShowAll}
use Rattle.script_grammar.specs.Tree.{Stmts}
use Rattle.parse_handlers.specs.declared.found.SyntaxBody.{SyntaxBody}
use Rattle.parse_handlers.specs.FoundOf.{HoldsBody}
use Rattle.parse_track.specs.declared.region.Early.{Early}
use Rattle.parse_track.specs.Notes.{first_note}
use Rattle.early_apart_laws.specs.Late.{late_stmts}
use Rattle.scope_analysis.specs.Functions.{inner_script}
use Rattle.parse_function_list.specs.declared.list.FoundBody.{FoundBody}
use Rattle.parse_function_list.specs.declared.list.ListedFunction.{ListedFunction}
use Rattle.parse_function_list.specs.Placed.{ArePlaced}
use Rattle.parse_function_list.specs.Strict.{HasStrict}

-- they are the functions of the script
abbrev pub ListsFunctions : SyntaxBody → List FoundBody → List ListedFunction → Type 0
ListsFunctions top bodies functions =
    (i : Interpretation) (items : Stmts) → ProperStmts whole false items → HoldsBody i top items
    → ShowAll (λ b. HoldsBody i b.found) bodies (braced_all items) → ArePlaced i functions (inner_script items)

-- it is the first early error of a directive `use strict` in the body of a function with an initializer or a rest parameter
abbrev pub FindsLateError : SyntaxBody → List FoundBody → Option Early → Type 0
FindsLateError top bodies late =
    (i : Interpretation) (items : Stmts) → ProperStmts whole false items → HoldsBody i top items
    → ShowAll (λ b. HoldsBody i b.found) bodies (braced_all items) → ShowAll HasStrict bodies (braced_all items)
    → late ≡ first_note (late_stmts items)
