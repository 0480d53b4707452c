-- The law of the handler: which trees its nodes stand for.
use Rattle.std.specs.Prelude.{◌≡◌, Bool}
use Rattle.script_grammar.specs.Interpretation.{Interpretation}
use Rattle.script_grammar.specs.Tree.{Expr, Prop, Stmt, Stmts}
use Rattle.parse_track.specs.Tells.{labels_on}
use Rattle.parse_handlers.specs.FoundOf.{HoldsBody}
use Rattle.parse_early_handler.specs.HasErrors.{HasErrorsExpr, HasErrorsProp, HasErrorsStmt, HasErrorsBody}
use Rattle.parse_track_pieces.specs.Says.{SaysBody}
use Rattle.parse_skim_handler.specs.declared.nodes.SkimBody.{SkimBody}
use Rattle.parse_skim_handler.specs.declared.nodes.SkimExpr.{SkimExpr}
use Rattle.parse_skim_handler.specs.declared.nodes.SkimProp.{SkimProp}
use Rattle.parse_skim_handler.specs.declared.nodes.SkimStmt.{SkimStmt}
use Rattle.parse_skim_handler.specs.Kept.{expr_means, prop_means, stmt_means}
use Rattle.parse_skim_handler.specs.Packed.{expr_errors, prop_errors, stmt_errors, whole_stmt}
use Rattle.parse_skim_handler.specs.Means.{Stands, expr_owed, prop_owed, stmt_owed}

pub record SkimsExpr (i : Interpretation) (n : SkimExpr) (t : Expr) : Type 0 where
  pub stands : Stands i (expr_means i n) (expr_owed t)
  pub errors : HasErrorsExpr i (expr_errors n) t

pub record SkimsProp (i : Interpretation) (n : SkimProp) (t : Prop) : Type 0 where
  pub stands : Stands i (prop_means i n) (prop_owed t)
  pub errors : HasErrorsProp i (prop_errors n) t

-- a statement, wherever it stands
pub record SkimsStmt (i : Interpretation) (n : SkimStmt) (s : Stmt) : Type 0 where
  pub stands : (top : Bool) → Stands i (stmt_means i top n) (stmt_owed top s)
  pub labels : (whole_stmt n).labels_on ≡ labels_on s
  pub errors : HasErrorsStmt i (stmt_errors n) s

-- a body, whose statements stand at its top
pub record SkimsBody (i : Interpretation) (n : SkimBody) (ss : Stmts) : Type 0 where
  pub told : SaysBody i n.told ss
  pub found : HoldsBody i n.found ss
  pub errors : HasErrorsBody i n.errors ss
