-- What rules ask of an expression is read off its form.
use Rattle.std.proofs.Common.{◌≡◌, ◌∙◌, ℕ, Bool, true, false, ◌&&◌, cond, not, nat_eq, Option, ◌++◌, refl, sym, ap}
use Rattle.script_grammar.specs.declared.token.word.TheConstants as word
use Rattle.script_grammar.specs.Tree as tree
use Rattle.script_grammar.specs.Tree.{Expr}
use Rattle.parse_track.specs.declared.region.Early.{Early}
use Rattle.parse_track.specs.Notes.{delete_error, ends_in_property, error_if, first_note, is_name, is_target, notes_expr, start_of, target_error}
use Rattle.parse_early_handler.specs.declared.shape.Shape.{Shape}
use Rattle.parse_early_handler.specs.declared.shape.Shape.TheVariants as shape
use Rattle.parse_early_handler.specs.declared.directive.Directive.TheVariants as kind
use Rattle.parse_early_handler.specs.declared.nodes.ExprErrors.{ExprErrors}
use Rattle.parse_early_handler.specs.Directives.{string_directive}
use Rattle.parse_early_handler.specs.Firsts.{target_first}
use Rattle.parse_early_handler.specs.HasErrors.{IsOfExpr}
use Rattle.parse_early_handler.specs.Shapes.{chain_shape, in_parentheses, is_name_shape, is_target_shape, shape_of}
use Rattle.parse_early_handler.proofs.Parting.{IsFirst, then-first}

target_in_parentheses : (s : Shape) → is_target_shape s ≡ is_target_shape (in_parentheses s)
target_in_parentheses (shape.Name reserved) = refl
target_in_parentheses (shape.NameInParentheses reserved) = refl
target_in_parentheses shape.Property = refl
target_in_parentheses (shape.Str strict) = refl
target_in_parentheses shape.Other = refl

name_in_parentheses : (s : Shape) → is_name_shape s ≡ is_name_shape (in_parentheses s)
name_in_parentheses (shape.Name reserved) = refl
name_in_parentheses (shape.NameInParentheses reserved) = refl
name_in_parentheses shape.Property = refl
name_in_parentheses (shape.Str strict) = refl
name_in_parentheses shape.Other = refl

target_chain : (b : Bool) → b ≡ is_target_shape (chain_shape b)
target_chain true = refl
target_chain false = refl

name_chain : (b : Bool) → false ≡ is_name_shape (chain_shape b)
name_chain true = refl
name_chain false = refl

pub is_target-shape : (t : Expr) → is_target t ≡ is_target_shape (shape_of t)
is_target-shape (tree.Paren at value) = is_target-shape value ∙ target_in_parentheses (shape_of value)
is_target-shape (tree.Chain head tails) = target_chain (ends_in_property tails)
is_target-shape _ = refl

pub is_name-shape : (t : Expr) → is_name t ≡ is_name_shape (shape_of t)
is_name-shape (tree.Paren at value) = is_name-shape value ∙ name_in_parentheses (shape_of value)
is_name-shape (tree.Chain head tails) = name_chain (ends_in_property tails)
is_name-shape _ = refl

-- no expression in parentheses and no chain is a directive
pub directive_in_parentheses : (s : Shape) (start : ℕ) → string_directive (in_parentheses s) start ≡ kind.No
directive_in_parentheses (shape.Name reserved) start = refl
directive_in_parentheses (shape.NameInParentheses reserved) start = refl
directive_in_parentheses shape.Property start = refl
directive_in_parentheses (shape.Str strict) start = refl
directive_in_parentheses shape.Other start = refl

pub directive_chain : (b : Bool) (start : ℕ) → string_directive (chain_shape b) start ≡ kind.No
directive_chain true start = refl
directive_chain false start = refl

-- an expression that is assigned to
pub target-first : (n : ExprErrors) (t : Expr) → IsOfExpr n t → IsFirst (target_first n) (target_error t ++ notes_expr t)
target-first n t h =
    let wrong : IsFirst (first_note (error_if (not (is_target_shape n.shape)) 8 n.start)) (target_error t) = record {
      is =
          ap (λ (s : Shape). first_note (error_if (not (is_target_shape s)) 8 n.start)) h.shape
          ∙ (ap (λ (b : Bool). first_note (error_if (not b) 8 n.start)) (sym (is_target-shape t))
          ∙ ap (λ (at : ℕ). first_note (error_if (not (is_target t)) 8 at)) h.start);
    } in
    then-first wrong (record { is = h.first })

-- an expression that is deleted, or is the operand of another operator
pub delete-first : (at op : ℕ) (is_word : Bool) (n : ExprErrors) (t : Expr) (error : Option Early) → IsOfExpr n t
    → error ≡ first_note (error_if (is_word && (nat_eq op word.DELETE && is_name_shape n.shape)) 10 at) → IsFirst error (delete_error at op is_word t)
delete-first at op is_word n t error h e = record {
  is =
      e ∙ (ap (λ (s : Shape). first_note (error_if (is_word && (nat_eq op word.DELETE && is_name_shape s)) 10 at)) h.shape
      ∙ ap (λ (b : Bool). first_note (error_if (is_word && (nat_eq op word.DELETE && b)) 10 at)) (sym (is_name-shape t)));
}

-- where an update expression starts
pub update-start : (at op start : ℕ) (prefix : Bool) (n : ExprErrors) (t : Expr) → IsOfExpr n t → start ≡ cond prefix at n.start → start ≡ start_of (tree.Update at op prefix t)
update-start at op start true n t h e = e
update-start at op start false n t h e = e ∙ h.start
