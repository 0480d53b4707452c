-- That the code of what stands at the top of a function's body was appended.
use Rattle.std.specs.Prelude.{ℕ, ◌+◌, List, [], Option, Some, None, map}
use Rattle.script_grammar.specs.declared.tree.Func.{Func}
use Rattle.script_grammar.specs.declared.tree.Stmt.{Stmt}
use Rattle.script_grammar.specs.Interpretation.{Interpretation}
use Rattle.script_grammar.specs.Tree.{Stmts}
use Rattle.script_grammar.specs.TreeLists.{stmts_of}
use Rattle.script_grammar.specs.TreeOf.{func_of, stmt_of}
use Rattle.scope_analysis.specs.DeclaredNames.{function_name, top_lexical_names}
use Rattle.scope_analysis.specs.Scopes.{scope_count, count_stmts}
use Rattle.bytecode_buf.specs.Appends.{Emitted}
use Rattle.bytecode_buf.specs.Pieces.{Code}
use Rattle.emit_exprs.specs.declared.site.Site.{Site}
use Rattle.emit_exprs.specs.Exprs.{Scene}
use Rattle.emit_exprs.specs.Sites.{scene_of}
use Rattle.emit_exprs.specs.TreeCode.{at_site}
use Rattle.emit_exprs.specs.TreeCode as expr
use Rattle.emit_stmts.specs.Frames.{Frame, kept_values}
use Rattle.emit_stmts.specs.Functions.{top_function, top_functions}
use Rattle.emit_stmts.specs.PartCode.{stmts_in}
use Rattle.emit_stmts.specs.Positions.{Position, setting}
use Rattle.emit_stmts.specs.StmtCode.{Written}
use Rattle.emit_stmts.specs.StmtFits.{HasRoom, room_in, StmtsFit}
use Rattle.emit_stmts.specs.Stmts.{Setting, assigning_function, in_scope, stmts_code}

-- ---- functions

-- the code of a function that is declared, if there is one
abbrev pub assigned_by : Scene → Interpretation → Option Func → Code
assigned_by scene i None = []
assigned_by scene i (Some f) = assigning_function scene (func_of i f) (function_name (func_of i f))

pub record TopFunctionEmits (s : Site) (old new : List ℕ) (stmt : Stmt) : Type 0 where
  pub made : expr.Written s old new (λ bodies. Unit {0}) (λ bodies. top_function (scene_of s) (stmt_of (at_site s bodies) stmt))

pub record TopFunctionsEmit (s : Site) (old new : List ℕ) (items : List Stmt) : Type 0 where
  pub made : expr.Written s old new (λ bodies. Unit {0}) (λ bodies. top_functions (scene_of s) (stmts_of (map (stmt_of (at_site s bodies)) items)))

-- ---- the scope of the lexical names, and what is in it

abbrev pub TopFits : ℕ → ℕ → Stmts → Type 0
TopFits room kept items = HasRoom (top_lexical_names items) room × StmtsFit (room_in (top_lexical_names items) room) kept items

abbrev pub top_count : Stmts → ℕ
top_count items = scope_count (top_lexical_names items) + count_stmts items

abbrev pub top_code : Setting → Stmts → ℕ → List Frame → Code
top_code the items number frames = in_scope the (top_lexical_names items) (λ scene. top_functions scene items) (stmts_code the items) number frames

pub record TopWritten (p : Position) (old new : Emitted) (number next : ℕ) (ss : List Stmt) : Type 0 where
  pub code : Written p old new number next (λ w. TopFits p.room (kept_values p.frames) (stmts_in p w ss))
      (λ w. top_count (stmts_in p w ss)) (λ w n. top_code (setting p w) (stmts_in p w ss) n p.frames)
