-- The law of the handler: which trees its nodes stand for.
use Rattle.std.specs.Prelude.{◌≡◌, ℕ}
use Rattle.script_grammar.specs.Interpretation.{Interpretation}
use Rattle.script_grammar.specs.Tree.{Expr, Prop, Stmt, Stmts, no_stmts}
use Rattle.parse_track.specs.EarlyErrors.{error_of}
use Rattle.parse_track.specs.Notes.{first_note, notes_expr, notes_prop, notes_stmt, notes_stmts, proto_of, start_of, strict_errors}
use Rattle.parse_early_handler.specs.declared.nodes.ExprErrors.{ExprErrors}
use Rattle.parse_early_handler.specs.declared.nodes.PropErrors.{PropErrors}
use Rattle.parse_early_handler.specs.declared.nodes.StmtErrors.{StmtErrors}
use Rattle.parse_early_handler.specs.declared.nodes.BodyErrors.{BodyErrors}
use Rattle.parse_early_handler.specs.Known.{KnowsWords, known_atoms}
use Rattle.parse_early_handler.specs.Shapes.{shape_of}
use Rattle.parse_early_handler.specs.Directives.{directive_of}

-- Deferred bodies have no statements.
abbrev pub HasEmptyBodies : Interpretation → Type 0
HasEmptyBodies i = (start : ℕ) → i.bodies start ≡ no_stmts

-- what a node has of an expression
pub record IsOfExpr (n : ExprErrors) (t : Expr) : Type 0 where
  pub first : n.first ≡ first_note (notes_expr t)
  pub start : n.start ≡ start_of t
  pub shape : n.shape ≡ shape_of t

-- of a property
pub record IsOfProp (n : PropErrors) (p : Prop) : Type 0 where
  pub first : n.first ≡ first_note (notes_prop p)
  pub proto : n.proto ≡ proto_of p

-- of a statement
pub record IsOfStmt (n : StmtErrors) (s : Stmt) : Type 0 where
  pub first : n.first ≡ first_note (notes_stmt s)
  pub directive : n.directive ≡ directive_of s

-- of a body: its first early error, and the first error of rule 14 where it is the body of a function whose parameters are
-- more than names
pub record IsOfBody (n : BodyErrors) (ss : Stmts) : Type 0 where
  pub first : n.first ≡ first_note (notes_stmts ss)
  pub strict : error_of 14 n.strict ≡ first_note (strict_errors ss)

-- The law: what the nodes have where deferred bodies are empty and the known words have their atoms.
pub record HasErrorsExpr (i : Interpretation) (n : ExprErrors) (t : Expr) : Type 0 where
  pub holds : HasEmptyBodies i → KnowsWords i known_atoms → IsOfExpr n t

pub record HasErrorsProp (i : Interpretation) (n : PropErrors) (p : Prop) : Type 0 where
  pub holds : HasEmptyBodies i → KnowsWords i known_atoms → IsOfProp n p

pub record HasErrorsStmt (i : Interpretation) (n : StmtErrors) (s : Stmt) : Type 0 where
  pub holds : HasEmptyBodies i → KnowsWords i known_atoms → IsOfStmt n s

pub record HasErrorsBody (i : Interpretation) (n : BodyErrors) (ss : Stmts) : Type 0 where
  pub holds : HasEmptyBodies i → KnowsWords i known_atoms → IsOfBody n ss
