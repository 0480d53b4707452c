-- The nodes that methods make have what the law says.
use Rattle.std.proofs.Common.{◌≡◌, ◌∙◌, ℕ, Option, None, ap}
use Rattle.script_grammar.specs.Interpretation.{Interpretation}
use Rattle.script_grammar.specs.Tree as model
use Rattle.parse_track.specs.declared.region.Early.{Early}
use Rattle.parse_track.specs.Notes.{notes_expr, notes_prop, notes_stmt, proto_of, start_of}
use Rattle.parse_early_handler.specs.declared.shape.Shape.TheVariants as shape
use Rattle.parse_early_handler.specs.declared.directive.Directive.TheVariants as kind
use Rattle.parse_early_handler.specs.declared.nodes.ExprErrors.{ExprErrors}
use Rattle.parse_early_handler.specs.declared.nodes.PropErrors.{PropErrors}
use Rattle.parse_early_handler.specs.declared.nodes.StmtErrors.{StmtErrors}
use Rattle.parse_early_handler.specs.Directives.{directive_of}
use Rattle.parse_early_handler.specs.HasErrors.{HasEmptyBodies, HasErrorsExpr, HasErrorsProp, HasErrorsStmt}
use Rattle.parse_early_handler.specs.Known.{KnowsWords, known_atoms}
use Rattle.parse_early_handler.specs.Shapes.{shape_of}
use Rattle.parse_early_handler.proofs.Parting.{IsFirst}

module _ (i : Interpretation) where
  -- an expression whose form no rule looks at
  pub other-made : (n : ExprErrors) (t : model.Expr) (first : Option Early) (start : ℕ) → n ≡ record { first = first; start = start; shape = shape.Other } → shape.Other ≡ shape_of t
      → (HasEmptyBodies i → KnowsWords i known_atoms → IsFirst first (notes_expr t) × (start ≡ start_of t)) → HasErrorsExpr i n t
  other-made n t first start is s h = record {
    holds = λ e k.
        let u = h e k in
        record { first = ap (λ (x : ExprErrors). x.first) is ∙ u.0.is; start = ap (λ (x : ExprErrors). x.start) is ∙ u.1; shape = ap (λ (x : ExprErrors). x.shape) is ∙ s };
  }

  -- a property that does not set the prototype
  pub prop-made : (n : PropErrors) (p : model.Prop) (first : Option Early) → n ≡ record { first = first; proto = None } → None ≡ proto_of p
      → (HasEmptyBodies i → KnowsWords i known_atoms → IsFirst first (notes_prop p)) → HasErrorsProp i n p
  prop-made n p first is o h = record {
    holds = λ e k. record { first = ap (λ (x : PropErrors). x.first) is ∙ (h e k).is; proto = ap (λ (x : PropErrors). x.proto) is ∙ o };
  }

  -- a statement that is no directive
  pub plain-made : (n : StmtErrors) (s : model.Stmt) (first : Option Early) → n ≡ record { first = first; directive = kind.No } → kind.No ≡ directive_of s
      → (HasEmptyBodies i → KnowsWords i known_atoms → IsFirst first (notes_stmt s)) → HasErrorsStmt i n s
  plain-made n s first is o h = record {
    holds = λ e k. record { first = ap (λ (x : StmtErrors). x.first) is ∙ (h e k).is; directive = ap (λ (x : StmtErrors). x.directive) is ∙ o };
  }
