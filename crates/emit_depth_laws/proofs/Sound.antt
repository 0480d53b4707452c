-- The bytes of every function, and of every script, that is proper and has no early error have a depth table: the verifier accepts
-- them.
use Rattle.std.proofs.Common.{◌≡◌, ℕ, false, ◌^◌, ◌<◌, List, [], length, Option, None}
use Rattle.script_grammar.specs.Pieces.{whole}
use Rattle.script_grammar.specs.Proper.{ProperStmts, ProperFunction}
use Rattle.script_grammar.specs.Tree.{Function, Stmts}
use Rattle.stencil_data.specs.declared.functions.FuncKind.{FuncKind}
use Rattle.stencil_data.specs.LinkView.{LinkView}
use Rattle.scope_analysis.specs.DeclaredNames.{Text}
use Rattle.parse_track.specs.EarlyErrors.{nothing_around}
use Rattle.parse_track.specs.Notes.{notes_function, early_error}
use Rattle.parse_track.specs.Told.{nothing}
use Rattle.parse_track.specs.Tells.{tells_function}
use Rattle.bytecode_buf.specs.Command.{Command, ShowsCommands}
use Rattle.bytecode_buf.specs.Machine.{HasDepthTable}
use Rattle.emit_stmts.specs.Functions.{function_script, top_script}
use Rattle.bytecode_flow_laws.proofs.Tables.{AllAlike}
use Rattle.emit_depth_laws.proofs.Jumping.{function_targets, script_targets}
use Rattle.emit_depth_laws.proofs.Passing.{IsClean}
use Rattle.emit_depth_laws.proofs.RunningFunctions.{function_table, script_table}

-- bytes that stand for the code of a script that is proper and has no early error, or for commands that run alike
pub script_has_table : (items : Stmts) (end : ℕ) (texts : List (List ℕ)) (bytes : List ℕ) (commands : List Command) → ProperStmts whole false items → early_error items ≡ None → AllAlike (top_script items end).part.code commands → ShowsCommands texts bytes commands → length bytes < 2 ^ 64 → HasDepthTable bytes (top_script items end).part.notes
script_has_table items end texts bytes commands proper clean alike shows short = script_table items end texts bytes commands (script_targets items proper clean) alike shows short

-- bytes that stand for the code of a function, of whatever kind and name and under whatever chain, that is proper, has no early
-- error of the rules that look at no region, and no wrong jump
pub function_has_table : (kind : FuncKind) (name : Option Text) (f : Function) (outer : List LinkView) (texts : List (List ℕ)) (bytes : List ℕ) (commands : List Command) → ProperFunction whole f → notes_function f ≡ [] → IsClean nothing_around (tells_function f nothing) → AllAlike (function_script kind name f outer).part.code commands → ShowsCommands texts bytes commands → length bytes < 2 ^ 64
    → HasDepthTable bytes (function_script kind name f outer).part.notes
function_has_table kind name f outer texts bytes commands proper clean jumps alike shows short = function_table kind name f outer texts bytes commands (function_targets f nothing_around nothing proper clean jumps) alike shows short
