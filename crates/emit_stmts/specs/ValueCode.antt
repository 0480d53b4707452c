-- That the code of what stands in statements was appended: values, names that are bound, functions that are declared.
use Rattle.std.specs.Prelude.{ℕ, List, [], Option, Some, None, map, option_map}
use Rattle.script_grammar.specs.declared.token.Decl.{Decl}
use Rattle.script_grammar.specs.declared.tree.Bind.{Bind}
use Rattle.script_grammar.specs.declared.tree.Clause.{Clause}
use Rattle.script_grammar.specs.declared.tree.Each.{Each}
use Rattle.script_grammar.specs.declared.tree.Expr.{Expr}
use Rattle.script_grammar.specs.declared.tree.Func.{Func}
use Rattle.script_grammar.specs.declared.tree.Ident.{Ident}
use Rattle.script_grammar.specs.declared.tree.Init.{Init}
use Rattle.script_grammar.specs.declared.tree.Stmt.{Stmt}
use Rattle.script_grammar.specs.Interpretation.{Interpretation}
use Rattle.script_grammar.specs.Tree.{Named, MaybeExpr, Function}
use Rattle.script_grammar.specs.TreeLists.{maybe_expr_of, binds_of, stmts_of, clauses_of}
use Rattle.script_grammar.specs.TreeOf.{expr_of, bind_of, each_of, func_of, init_of, stmt_of, clause_of}
use Rattle.scope_analysis.specs.DeclaredNames.{function_name}
use Rattle.bytecode_buf.specs.Pieces.{Code}
use Rattle.emit_exprs.specs.declared.site.Site.{Site}
use Rattle.emit_exprs.specs.Exprs.{Scene, target_of}
use Rattle.emit_exprs.specs.Fitting.{ExprFits, MaybeExprFits}
use Rattle.emit_exprs.specs.Sites.{scene_of, text_in}
use Rattle.emit_exprs.specs.TreeCode.{at_site, Written}
use Rattle.emit_stmts.specs.StmtFits.{BindsFit, InitFits, EachFits}
use Rattle.emit_stmts.specs.Stmts.{var_code, lexical_code, bind_code, binds_code, init_code, store_target, store_each, declaring}
use Rattle.emit_stmts.specs.Stmts.{declared_in, block_functions, clause_functions}

abbrev pub named_in : Site → Ident → Named
named_in s name = record { text = text_in s name.atom; at = name.at }

abbrev pub var_of : Named → Scene → MaybeExpr → Code
var_of name scene value = var_code scene name value

abbrev pub lexical_of : Named → Scene → MaybeExpr → Code
lexical_of name scene value = lexical_code scene name value

abbrev pub bind_of_decl : Decl → Named → Scene → MaybeExpr → Code
bind_of_decl kind name scene value = bind_code scene kind name value

-- this code of a value that may be left out
pub record ValueEmits (s : Site) (old new : List ℕ) (value : Option Expr) (code : Scene → MaybeExpr → Code) : Type 0 where
  pub made : Written s old new (λ bodies. MaybeExprFits (maybe_expr_of (option_map (expr_of (at_site s bodies)) value)))
      (λ bodies. code (scene_of s) (maybe_expr_of (option_map (expr_of (at_site s bodies)) value)))

pub record BindsEmit (s : Site) (old new : List ℕ) (kind : Decl) (binds : List Bind) : Type 0 where
  pub made : Written s old new (λ bodies. BindsFit (binds_of (map (bind_of (at_site s bodies)) binds)))
      (λ bodies. binds_code (scene_of s) kind (binds_of (map (bind_of (at_site s bodies)) binds)))

pub record InitEmits (s : Site) (old new : List ℕ) (i : Init) : Type 0 where
  pub made : Written s old new (λ bodies. InitFits (init_of (at_site s bodies) i)) (λ bodies. init_code (scene_of s) (init_of (at_site s bodies) i))

-- a key into this expression, and into what the head of a for-in names
pub record TargetEmits (s : Site) (old new : List ℕ) (e : Expr) : Type 0 where
  pub made : Written s old new (λ bodies. ExprFits (expr_of (at_site s bodies) e))
      (λ bodies. store_target (scene_of s) (expr_of (at_site s bodies) e) (target_of (expr_of (at_site s bodies) e)))

pub record EachEmits (s : Site) (old new : List ℕ) (each : Each) : Type 0 where
  pub made : Written s old new (λ bodies. EachFits (each_of (at_site s bodies) each))
      (λ bodies. store_each (scene_of s) (each_of (at_site s bodies) each))

-- this code of a function and its name
pub record FunctionEmits (s : Site) (old new : List ℕ) (f : Func) (code : Scene → Function → Option Named → Code) : Type 0 where
  pub made : Written s old new (λ bodies. Unit {0})
      (λ bodies. code (scene_of s) (func_of (at_site s bodies) f) (function_name (func_of (at_site s bodies) f)))

-- the code of a function that is declared, if there is one
abbrev pub declared_by : Scene → Interpretation → Option Func → Code
declared_by scene i None = []
declared_by scene i (Some f) = declaring scene (func_of i f) (function_name (func_of i f))

pub record StmtFunctionEmits (s : Site) (old new : List ℕ) (stmt : Stmt) : Type 0 where
  pub made : Written s old new (λ bodies. Unit {0}) (λ bodies. declared_in (scene_of s) (stmt_of (at_site s bodies) stmt))

pub record BlockFunctionsEmit (s : Site) (old new : List ℕ) (items : List Stmt) : Type 0 where
  pub made : Written s old new (λ bodies. Unit {0}) (λ bodies. block_functions (scene_of s) (stmts_of (map (stmt_of (at_site s bodies)) items)))

pub record ClauseFunctionsEmit (s : Site) (old new : List ℕ) (clauses : List Clause) : Type 0 where
  pub made : Written s old new (λ bodies. Unit {0})
      (λ bodies. clause_functions (scene_of s) (clauses_of (map (clause_of (at_site s bodies)) clauses)))
