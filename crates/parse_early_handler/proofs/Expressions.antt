-- Parts of expressions.
use Rattle.std.proofs.Common.{◌≡◌, ◌∙◌, ℕ, zero, suc, ◌-◌, Option, Some, None, option_map, List, [], ◌∷◌, ◌++◌, map, length, slice_get, refl, sym, ap, arith}
use Rattle.script_grammar.specs.declared.node.NodeArgs.{NodeArgs}
use Rattle.script_grammar.specs.declared.node.NodeOperand.{NodeOperand}
use Rattle.script_grammar.specs.declared.node.NodeTemplatePart.{NodeTemplatePart}
use Rattle.script_grammar.specs.declared.node.NodeTail.{NodeTail}
use Rattle.script_grammar.specs.declared.node.NodeTail.TheVariants as tails
use Rattle.script_grammar.specs.Interpretation.{Interpretation}
use Rattle.script_grammar.specs.Tree as model
use Rattle.script_grammar.specs.TreeLists as part
use Rattle.script_grammar.specs.TreeLists.{exprs_of, maybe_expr_of, items_of, maybe_args_of, operands_of, parts_of, tails_of}
use Rattle.script_grammar.specs.Shows.{ShowAll, ShowMaybe, MaybeOf, ShowArgs, ShowOperand, ShowPart, ShowTail}
use Rattle.parse_track.specs.EarlyErrors.{error_of}
use Rattle.parse_track.specs.Notes.{args_error, ends_in_property, limit, notes_args, notes_expr, notes_exprs, notes_items, notes_maybe, notes_operands, notes_parts, notes_tail, notes_tails, start_of}
use Rattle.parse_early_handler.specs.declared.nodes.ExprErrors.{ExprErrors}
use Rattle.parse_early_handler.specs.Firsts.{args_first, end_in_property, expr_first, first_of, is_property, many_args, maybe_first, maybe_property, start_of_first, tail_first}
use Rattle.parse_early_handler.specs.HasErrors.{HasEmptyBodies, HasErrorsExpr}
use Rattle.parse_early_handler.specs.Known.{KnowsWords, known_atoms}
use Rattle.parse_early_handler.proofs.Parting.{IsFirst, none-first, then-first, first-as, all-first, maybe-first}

-- an option of an expression inside a part that `made` makes of it
pub inside : {E X : Type 0} (R : E → model.Expr → Type 0) (made : Option model.Expr → X) (n : Option E) (x : X) → MaybeOf R n (λ v. x ≡ made v)
    → (v : Option model.Expr) × ((x ≡ made v) × ShowMaybe R n v)
inside R made None x h = (None, (h, tt))
inside R made (Some n) x h = (Some h.0, (h.2, h.1))

skip : (a b : model.Tail) (rest : model.Tails) → ends_in_property (model.more_tails b rest) ≡ ends_in_property (model.more_tails a (model.more_tails b rest))
skip (model.Dot text) b rest = refl
skip (model.Index key) b rest = refl
skip (model.Call items comma) b rest = refl

module _ {E : Type 0} (i : Interpretation) (R : E → model.Expr → Type 0) where
  one_tail : (n : NodeTail E) (t : model.Tail) → ShowTail i R n t → is_property n ≡ ends_in_property (model.more_tails t model.no_tails)
  one_tail (tails.Dot atom) t h = ap (λ (x : model.Tail). ends_in_property (model.more_tails x model.no_tails)) (sym h)
  one_tail (tails.Index e) t h = ap (λ (x : model.Tail). ends_in_property (model.more_tails x model.no_tails)) (sym h.2)
  one_tail (tails.Call n) t h = ap (λ (x : model.Tail). ends_in_property (model.more_tails x model.no_tails)) (sym h.2)

  -- the last part of a chain
  pub last-property : (ns : List (NodeTail E)) (ts : List model.Tail) → ShowAll (ShowTail i R) ns ts → end_in_property ns ≡ ends_in_property (tails_of ts)
  last-property [] [] h = refl
  last-property [] (t ∷ ts) h = absurd h
  last-property (n ∷ ns) [] h = absurd h
  last-property (n ∷ []) (t ∷ []) h = one_tail n t h.0
  last-property (n ∷ []) (t ∷ (u ∷ ts)) h = absurd h.1
  last-property (n ∷ (m ∷ ns)) (t ∷ []) h = absurd h.1
  last-property (n ∷ (m ∷ ns)) (t ∷ (u ∷ ts)) h =
      let place : length (n ∷ (m ∷ ns)) - 1 ≡ suc (length (m ∷ ns) - 1) = omega arith in
      ap (λ (k : ℕ). maybe_property (slice_get (n ∷ (m ∷ ns)) k)) place ∙ (last-property (m ∷ ns) (u ∷ ts) h.1 ∙ skip t u (tails_of ts))

module _ (i : Interpretation) (e : HasEmptyBodies i) (k : KnowsWords i known_atoms) where
  pub expr-first : (n : ExprErrors) (t : model.Expr) → HasErrorsExpr i n t → IsFirst n.first (notes_expr t)
  expr-first n t h = record { is = (h.holds e k).first }

  pub exprs-first : (ns : List ExprErrors) (ts : List model.Expr) → ShowAll (HasErrorsExpr i) ns ts → IsFirst (first_of (map expr_first ns)) (notes_exprs (exprs_of ts))
  exprs-first = all-first (HasErrorsExpr i) expr_first notes_expr (λ ts. notes_exprs (exprs_of ts)) none-first (λ x xs g h. h) expr-first

  pub maybe_expr-first : (n : Option ExprErrors) (t : Option model.Expr) → ShowMaybe (HasErrorsExpr i) n t → IsFirst (maybe_first expr_first n) (notes_maybe (maybe_expr_of t))
  maybe_expr-first = maybe-first (HasErrorsExpr i) expr_first notes_expr (λ t. notes_maybe (maybe_expr_of t)) none-first (λ x g h. h) expr-first

  pub items-first : (ns : List (Option ExprErrors)) (ts : List (Option model.Expr)) → ShowAll (ShowMaybe (HasErrorsExpr i)) ns ts
      → IsFirst (first_of (map (maybe_first expr_first) ns)) (notes_items (items_of ts))
  items-first = all-first (ShowMaybe (HasErrorsExpr i)) (maybe_first expr_first) (λ t. notes_maybe (maybe_expr_of t)) (λ ts. notes_items (items_of ts)) none-first (λ x xs g h. h) maybe_expr-first

  pub operands-first : (ns : List (NodeOperand ExprErrors)) (os : List part.Operand) → ShowAll (ShowOperand (HasErrorsExpr i)) ns os
      → IsFirst (first_of (map (λ n. n.value.first) ns)) (notes_operands (operands_of os))
  operands-first = all-first (ShowOperand (HasErrorsExpr i)) (λ n. n.value.first) (λ o. notes_expr o.value) (λ os. notes_operands (operands_of os)) none-first (λ x xs g h. h)
      (λ n o h. first-as (λ (x : part.Operand). notes_expr x.value) h.2 (expr-first n.value h.0 h.1))

  pub parts-first : (ns : List (NodeTemplatePart ExprErrors)) (ps : List part.Part) → ShowAll (ShowPart i (HasErrorsExpr i)) ns ps
      → IsFirst (first_of (map (λ n. n.value.first) ns)) (notes_parts (parts_of ps))
  parts-first = all-first (ShowPart i (HasErrorsExpr i)) (λ n. n.value.first) (λ p. notes_expr p.value) (λ ps. notes_parts (parts_of ps)) none-first (λ x xs g h. h)
      (λ n p h. first-as (λ (x : part.Part). notes_expr x.value) h.2 (expr-first n.value h.0 h.1))

  -- the argument at a place
  many-args : (m : ℕ) (ns : List ExprErrors) (ts : List model.Expr) → ShowAll (HasErrorsExpr i) ns ts
      → IsFirst (error_of 13 (option_map (λ (n : ExprErrors). n.start) (slice_get ns m))) (args_error m (exprs_of ts))
  many-args m [] [] h = none-first
  many-args m [] (t ∷ ts) h = absurd h
  many-args m (n ∷ ns) [] h = absurd h
  many-args zero (n ∷ ns) (t ∷ ts) h = record { is = ap (λ (at : ℕ). error_of 13 (Some at)) (h.0.holds e k).start }
  many-args (suc m) (n ∷ ns) (t ∷ ts) h = many-args m ns ts h.1

  pub items_args : (ns : List ExprErrors) (ts : List model.Expr) → ShowAll (HasErrorsExpr i) ns ts → IsFirst (many_args ns) (args_error limit (exprs_of ts))
  items_args ns ts h = many-args limit ns ts h

  args-first : (n : NodeArgs ExprErrors) (a : part.Args) → ShowArgs (HasErrorsExpr i) n a
      → IsFirst (args_first n) (args_error limit (exprs_of a.items) ++ notes_exprs (exprs_of a.items))
  args-first n a h =
      first-as (λ (x : part.Args). args_error limit (exprs_of x.items) ++ notes_exprs (exprs_of x.items)) h.2
      (then-first (items_args n.items.items h.0 h.1) (exprs-first n.items.items h.0 h.1))

  pub maybe_args-first : (n : Option (NodeArgs ExprErrors)) (a : Option part.Args) → ShowMaybe (ShowArgs (HasErrorsExpr i)) n a
      → IsFirst (maybe_first args_first n) (notes_args (maybe_args_of a))
  maybe_args-first = maybe-first (ShowArgs (HasErrorsExpr i)) args_first (λ a. args_error limit (exprs_of a.items) ++ notes_exprs (exprs_of a.items)) (λ a. notes_args (maybe_args_of a)) none-first (λ x g h. h) args-first

  tail-first : (n : NodeTail ExprErrors) (t : model.Tail) → ShowTail i (HasErrorsExpr i) n t → IsFirst (tail_first n) (notes_tail t)
  tail-first (tails.Dot atom) t h = first-as notes_tail h none-first
  tail-first (tails.Index e) t h = first-as notes_tail h.2 (expr-first e h.0 h.1)
  tail-first (tails.Call n) t h = first-as notes_tail h.2 (then-first (items_args n.items.items h.0 h.1) (exprs-first n.items.items h.0 h.1))

  pub tails-first : (ns : List (NodeTail ExprErrors)) (ts : List model.Tail) → ShowAll (ShowTail i (HasErrorsExpr i)) ns ts → IsFirst (first_of (map tail_first ns)) (notes_tails (tails_of ts))
  tails-first = all-first (ShowTail i (HasErrorsExpr i)) tail_first notes_tail (λ ts. notes_tails (tails_of ts)) none-first (λ x xs g h. h) tail-first

  -- where the items of a comma expression start
  pub comma-start : (ns : List ExprErrors) (ts : List model.Expr) → ShowAll (HasErrorsExpr i) ns ts → start_of_first ns ≡ start_of (model.Comma (exprs_of ts))
  comma-start [] [] h = refl
  comma-start [] (t ∷ ts) h = absurd h
  comma-start (n ∷ ns) [] h = absurd h
  comma-start (n ∷ ns) (t ∷ ts) h = (h.0.holds e k).start
