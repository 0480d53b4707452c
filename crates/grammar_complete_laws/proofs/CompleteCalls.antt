-- Completeness of an AssignmentExpression, and of all calls that count for the depth: over the calls one deeper, and where
-- no room for depth is left.
use Rattle.std.proofs.Common.{◌≡◌, ℕ, suc, ◌≤◌, List, [], ◌∷◌, ◌++◌, refl, ap, ◌∙◌, subst, arith, Bool, true, false, ◌⊎◌, inl, inr}
use Rattle.script_grammar.specs.declared.token.Kind.TheVariants as kind
use Rattle.script_grammar.specs.declared.token.FuncForm.TheVariants as form
use Rattle.script_grammar.specs.declared.token.mark.TheConstants as mark
use Rattle.script_grammar.specs.Lexeme.{Lexeme}
use Rattle.script_grammar.specs.Kinds.{is_mark, is_arrow_form}
use Rattle.script_grammar.specs.Tree.{Named, Expr, MaybeExpr, no_expr, some_expr, Function, function}
use Rattle.script_grammar.specs.Tree as tree
use Rattle.script_grammar.specs.TreeLists.{Param, maybe_expr_of}
use Rattle.script_grammar.specs.Pieces.{mark_piece, name_piece}
use Rattle.script_grammar.specs.Endings.{ending}
use Rattle.script_grammar.specs.Print.{print}
use Rattle.script_grammar.specs.Proper.{rank, free_of_in, InIf, assign_rank}
use Rattle.grammar_parser_specs.specs.Parser.{head_of, bad, step, when}
use Rattle.grammar_parser_specs.specs.Exprs as parser
use Rattle.grammar_parser_specs.specs.Exprs.{Env, Calls, AnAssign, APrefix, ANew, AParam, ARest, BodyParser, name_of, param, is_arrow_head, no_calls, call_case, begins_call, begins_assign}
use Rattle.grammar_parser_specs.specs.Follow.{continues_assign}
use Rattle.grammar_parser_laws.proofs.Tests.{false_true}
use Rattle.grammar_parser_laws.proofs.Stands.{lexemes}
use Rattle.grammar_parser_laws.proofs.Complete.{bare, deep_at}
use Rattle.grammar_parser_laws.proofs.SoundParts.{print_param}
use Rattle.grammar_complete_laws.proofs.Completes.{Completes, Any, c_at}
use Rattle.grammar_complete_laws.proofs.CompleteStmts.{name_complete}
use Rattle.grammar_complete_laws.proofs.CompleteBinds.{option_of}
use Rattle.grammar_complete_laws.proofs.CompleteParts.{CompleteEnv, CompleteCalls, ParamFollow, UnaryStops, NewFollow, IsPrefixed, IsNew}
use Rattle.grammar_complete_laws.proofs.CompletePrims.{prim_complete}
use Rattle.grammar_complete_laws.proofs.CompleteUnary.{new_complete}
use Rattle.grammar_complete_laws.proofs.CompletePrefix.{unary_complete, unary_prefix, update_prefix, prefixed_opens}
use Rattle.grammar_complete_laws.proofs.CompletePlain.{IsArrow, plain_complete}
use Rattle.grammar_complete_laws.proofs.CompleteFunctions.{param_complete}
use Rattle.grammar_complete_laws.proofs.CompleteArrows.{same_param}
use Rattle.grammar_complete_laws.proofs.CompleteHeads.{arrow_complete}
use Rattle.grammar_complete_laws.proofs.ArrowFronts.{arrow_found, lone_follows, no_head}
use Rattle.grammar_complete_laws.proofs.DeepFronts.{expr_deep, unary_deep, update_deep, new_deep, c_no_room}
use Rattle.grammar_complete_laws.proofs.ExprFronts.{expr_opens}
use Rattle.grammar_parser_laws.proofs.ProperIn.{Mode, Proper, ProperMaybe}

-- an expression is an arrow or none

func_arrow : (at : ℕ) (f : Function) → IsArrow (tree.Func at f) ⊎ (IsArrow (tree.Func at f) → ⊥)
func_arrow at (function g start end name ps comma bare body) = by (is_arrow_form g)
  where
    by : (b : Bool) → (b ≡ true) ⊎ (b ≡ true → ⊥)
    by true = inl refl
    by false = inr false_true

arrow_or : (e : Expr) → IsArrow e ⊎ (IsArrow e → ⊥)
arrow_or (tree.Func at f) = func_arrow at f
arrow_or (tree.This at) = inr (λ k. k)
arrow_or (tree.Name n) = inr (λ k. k)
arrow_or (tree.Null at) = inr (λ k. k)
arrow_or (tree.True at) = inr (λ k. k)
arrow_or (tree.False at) = inr (λ k. k)
arrow_or (tree.Number at value) = inr (λ k. k)
arrow_or (tree.Str at end x) = inr (λ k. k)
arrow_or (tree.Template at first parts) = inr (λ k. k)
arrow_or (tree.Array at is comma) = inr (λ k. k)
arrow_or (tree.Object at ps comma) = inr (λ k. k)
arrow_or (tree.Paren at inner) = inr (λ k. k)
arrow_or (tree.Chain head tails) = inr (λ k. k)
arrow_or (tree.New at callee args) = inr (λ k. k)
arrow_or (tree.Unary at op of of_word) = inr (λ k. k)
arrow_or (tree.Update at op prefix of) = inr (λ k. k)
arrow_or (tree.Binary first rest) = inr (λ k. k)
arrow_or (tree.Cond test a b) = inr (λ k. k)
arrow_or (tree.Assign op target value) = inr (λ k. k)
arrow_or (tree.Comma es) = inr (λ k. k)

module _ (limit : ℕ) (m : Mode) (d : ℕ) (low : d ≤ limit) (v : Env) (c : CompleteEnv limit m d v) where
  abbrev Follow : Bool → Expr → Lexeme → Type 0
  Follow w e t = continues_assign w (ending e) t ≡ false

  arrow_case : (w : Bool) (ts : List Lexeme) → is_arrow_head ts ≡ true → parser.assign_of v w ts ≡ parser.arrow_of v w ts
  unfolding parser.assign_of
  arrow_case w ts h = ap (λ b. when b (parser.arrow_of v w) (parser.plain_of v w) ts) h

  plain_case : (w : Bool) (ts : List Lexeme) → is_arrow_head ts ≡ false → parser.assign_of v w ts ≡ parser.plain_of v w ts
  unfolding parser.assign_of
  plain_case w ts h = ap (λ b. when b (parser.arrow_of v w) (parser.plain_of v w) ts) h

  plain_assign : (w : Bool) (e : Expr) → rank e ≤ assign_rank → (IsArrow e → ⊥) → Proper m e → InIf w (free_of_in e) → Completes limit (print m.look d e) (Follow w e) (parser.assign_of v w) e
  plain_assign w e r n h i = record {
    at = λ u rest q g. record {
      by = ap bare (plain_case w (lexemes u ++ rest) ((no_head m d e r h n).at u rest q (lone_follows w e (head_of rest) g)))
          ∙ ((plain_complete limit m d low v (λ heads x s k. unary_complete limit m d low v c (prim_complete limit m d low v c) heads x s k) c w e r n h i).at u rest q g).by;
    };
  }

  arrow_assign : (w : Bool) (e : Expr) → IsArrow e → Proper m e → InIf w (free_of_in e) → Completes limit (print m.look d e) (Follow w e) (parser.assign_of v w) e
  arrow_assign w (tree.Func at (function form.Arrow start end name ps comma alone body)) k h i = record {
    at = λ u rest q g. record {
      by = ap bare (arrow_case w (lexemes u ++ rest) (arrow_found m d at start end name ps comma alone body h u rest q))
          ∙ ((arrow_complete limit m d low v c w at start end name ps comma alone body h i).at u rest q g).by;
    };
  }
  arrow_assign w (tree.Func at (function form.Function start end name ps comma bare body)) k h i = absurd (false_true k)
  arrow_assign w (tree.Func at (function form.Script start end name ps comma bare body)) k h i = absurd (false_true k)
  arrow_assign w (tree.Func at (function form.Method start end name ps comma bare body)) k h i = absurd (false_true k)
  arrow_assign w (tree.Func at (function form.Getter start end name ps comma bare body)) k h i = absurd (false_true k)
  arrow_assign w (tree.Func at (function form.Setter start end name ps comma bare body)) k h i = absurd (false_true k)
  arrow_assign w (tree.This at) k h i = absurd k
  arrow_assign w (tree.Name n) k h i = absurd k
  arrow_assign w (tree.Null at) k h i = absurd k
  arrow_assign w (tree.True at) k h i = absurd k
  arrow_assign w (tree.False at) k h i = absurd k
  arrow_assign w (tree.Number at value) k h i = absurd k
  arrow_assign w (tree.Str at end x) k h i = absurd k
  arrow_assign w (tree.Template at first parts) k h i = absurd k
  arrow_assign w (tree.Array at is comma) k h i = absurd k
  arrow_assign w (tree.Object at ps comma) k h i = absurd k
  arrow_assign w (tree.Paren at inner) k h i = absurd k
  arrow_assign w (tree.Chain head tails) k h i = absurd k
  arrow_assign w (tree.New at callee args) k h i = absurd k
  arrow_assign w (tree.Unary at op of of_word) k h i = absurd k
  arrow_assign w (tree.Update at op prefix of) k h i = absurd k
  arrow_assign w (tree.Binary first rest) k h i = absurd k
  arrow_assign w (tree.Cond test a b) k h i = absurd k
  arrow_assign w (tree.Assign op target value) k h i = absurd k
  arrow_assign w (tree.Comma es) k h i = absurd k

  -- an AssignmentExpression
  pub assign_complete : (w : Bool) (e : Expr) → rank e ≤ assign_rank → Proper m e → InIf w (free_of_in e) → Completes limit (print m.look d e) (Follow w e) (parser.assign_of v w) e
  assign_complete w e r h i = by (arrow_or e)
    where
      by : IsArrow e ⊎ (IsArrow e → ⊥) → Completes limit (print m.look d e) (Follow w e) (parser.assign_of v w) e
      by (inl k) = arrow_assign w e k h i
      by (inr n) = plain_assign w e r n h i

  -- a parameter's rest mark and name

  rest_here : (t : Lexeme) (ts : List Lexeme) → t.kind ≡ kind.Mark mark.ELLIPSIS → parser.arrow_rest (t ∷ ts) ≡ name_of ts
  unfolding parser.arrow_rest
  rest_here t ts e = ap (λ k. when (is_mark mark.ELLIPSIS k) (step name_of) bad (t ∷ ts)) e

  rest_complete : (n : Named) → Completes limit (mark_piece mark.ELLIPSIS d ∷ name_piece n d ∷ []) Any parser.arrow_rest n
  rest_complete n = c_at limit (λ t. name_of) low (λ t ts s. rest_here t ts s.kind) (λ t s. name_complete limit m d low n)

  -- a parameter in an arrow's parentheses

  arrow_param_complete : (n : Named) (o : MaybeExpr) → ProperMaybe m o → Completes limit (print_param m.look d (param n (option_of o))) (ParamFollow o) (parser.arrow_param v) (param n (option_of o))
  unfolding parser.arrow_param
  arrow_param_complete n no_expr h = param_complete limit m d low v c n no_expr h
  arrow_param_complete n (some_expr e) h = param_complete limit m d low v c n (some_expr e) h

  param_as : (p : Param) → p.rest ≡ false → ProperMaybe m (maybe_expr_of p.value) → Completes limit (print_param m.look d p) (ParamFollow (maybe_expr_of p.value)) (parser.arrow_param v) p
  param_as p e h = subst (λ x. Completes limit (print_param m.look d x) (ParamFollow (maybe_expr_of p.value)) (parser.arrow_param v) x) (same_param p e) (arrow_param_complete p.name (maybe_expr_of p.value) h)

-- All calls over those one deeper.
module _ (limit : ℕ) (m : Mode) (d : ℕ) (low : suc d ≤ limit) (v : Env) (c : CompleteEnv limit m (suc d) v) where
  prefix_as : (e : Expr) → IsPrefixed e → Proper m e → Completes limit (print m.look d e) (UnaryStops (ending e)) (parser.prefix_of v) e
  prefix_as (tree.Unary at op of of_word) k h = unary_prefix limit m (suc d) low v c (prim_complete limit m (suc d) low v c) at op of of_word h
  prefix_as (tree.Update at op true of) k h = update_prefix limit m (suc d) low v c (prim_complete limit m (suc d) low v c) at op of h
  prefix_as (tree.Update at op false of) k h = absurd k
  prefix_as (tree.This at) k h = absurd k
  prefix_as (tree.Name n) k h = absurd k
  prefix_as (tree.Null at) k h = absurd k
  prefix_as (tree.True at) k h = absurd k
  prefix_as (tree.False at) k h = absurd k
  prefix_as (tree.Number at value) k h = absurd k
  prefix_as (tree.Str at end x) k h = absurd k
  prefix_as (tree.Template at first parts) k h = absurd k
  prefix_as (tree.Array at is comma) k h = absurd k
  prefix_as (tree.Object at ps comma) k h = absurd k
  prefix_as (tree.Func at f) k h = absurd k
  prefix_as (tree.Paren at inner) k h = absurd k
  prefix_as (tree.Chain head tails) k h = absurd k
  prefix_as (tree.New at callee args) k h = absurd k
  prefix_as (tree.Binary first rest) k h = absurd k
  prefix_as (tree.Cond test a b) k h = absurd k
  prefix_as (tree.Assign op target value) k h = absurd k
  prefix_as (tree.Comma es) k h = absurd k

  new_as : (e : Expr) → IsNew e → Proper m e → Completes limit (print m.look d e) (NewFollow e) (parser.new_of v) e
  new_as (tree.New at callee args) k h = new_complete limit m (suc d) low v c (prim_complete limit m (suc d) low v c) at callee args h
  new_as (tree.This at) k h = absurd k
  new_as (tree.Name n) k h = absurd k
  new_as (tree.Null at) k h = absurd k
  new_as (tree.True at) k h = absurd k
  new_as (tree.False at) k h = absurd k
  new_as (tree.Number at value) k h = absurd k
  new_as (tree.Str at end x) k h = absurd k
  new_as (tree.Template at first parts) k h = absurd k
  new_as (tree.Array at is comma) k h = absurd k
  new_as (tree.Object at ps comma) k h = absurd k
  new_as (tree.Func at f) k h = absurd k
  new_as (tree.Paren at inner) k h = absurd k
  new_as (tree.Chain head tails) k h = absurd k
  new_as (tree.Unary at op of of_word) k h = absurd k
  new_as (tree.Update at op prefix of) k h = absurd k
  new_as (tree.Binary first rest) k h = absurd k
  new_as (tree.Cond test a b) k h = absurd k
  new_as (tree.Assign op target value) k h = absurd k
  new_as (tree.Comma es) k h = absurd k

  pub case_complete : CompleteCalls limit m d (call_case v)
  case_complete = record {
    assign = λ w e r h i. assign_complete limit m (suc d) low v c w e r h i;
    prefix = λ e k h. prefix_as e k h;
    new = λ e k h. new_as e k h;
    param = λ p e h. param_as limit m (suc d) low v c p e h;
    rest = λ n. rest_complete limit m (suc d) low v c n;
  }

-- No room is left.
module _ (limit : ℕ) (m : Mode) where
  no_prefix : (e : Expr) → IsPrefixed e → Proper m e → Completes limit (print m.look limit e) (UnaryStops (ending e)) (no_calls APrefix) e
  no_prefix (tree.Unary at op of of_word) k h = c_no_room limit (begins_call APrefix) (print m.look limit (tree.Unary at op of of_word)) (tree.Unary at op of of_word) (prefixed_opens m limit (tree.Unary at op of of_word) tt h) (unary_deep limit m limit at op of of_word (omega arith))
  no_prefix (tree.Update at op true of) k h = c_no_room limit (begins_call APrefix) (print m.look limit (tree.Update at op true of)) (tree.Update at op true of) (prefixed_opens m limit (tree.Update at op true of) tt h) (update_deep limit m limit at op of (omega arith))
  no_prefix (tree.Update at op false of) k h = absurd k
  no_prefix (tree.This at) k h = absurd k
  no_prefix (tree.Name n) k h = absurd k
  no_prefix (tree.Null at) k h = absurd k
  no_prefix (tree.True at) k h = absurd k
  no_prefix (tree.False at) k h = absurd k
  no_prefix (tree.Number at value) k h = absurd k
  no_prefix (tree.Str at end x) k h = absurd k
  no_prefix (tree.Template at first parts) k h = absurd k
  no_prefix (tree.Array at is comma) k h = absurd k
  no_prefix (tree.Object at ps comma) k h = absurd k
  no_prefix (tree.Func at f) k h = absurd k
  no_prefix (tree.Paren at inner) k h = absurd k
  no_prefix (tree.Chain head tails) k h = absurd k
  no_prefix (tree.New at callee args) k h = absurd k
  no_prefix (tree.Binary first rest) k h = absurd k
  no_prefix (tree.Cond test a b) k h = absurd k
  no_prefix (tree.Assign op target value) k h = absurd k
  no_prefix (tree.Comma es) k h = absurd k

  no_new : (e : Expr) → IsNew e → Proper m e → Completes limit (print m.look limit e) (NewFollow e) (no_calls ANew) e
  no_new (tree.New at callee args) k h = c_no_room limit (begins_call ANew) (print m.look limit (tree.New at callee args)) (tree.New at callee args) refl (new_deep limit m limit at callee args (omega arith))
  no_new (tree.This at) k h = absurd k
  no_new (tree.Name n) k h = absurd k
  no_new (tree.Null at) k h = absurd k
  no_new (tree.True at) k h = absurd k
  no_new (tree.False at) k h = absurd k
  no_new (tree.Number at value) k h = absurd k
  no_new (tree.Str at end x) k h = absurd k
  no_new (tree.Template at first parts) k h = absurd k
  no_new (tree.Array at is comma) k h = absurd k
  no_new (tree.Object at ps comma) k h = absurd k
  no_new (tree.Func at f) k h = absurd k
  no_new (tree.Paren at inner) k h = absurd k
  no_new (tree.Chain head tails) k h = absurd k
  no_new (tree.Unary at op of of_word) k h = absurd k
  no_new (tree.Update at op prefix of) k h = absurd k
  no_new (tree.Binary first rest) k h = absurd k
  no_new (tree.Cond test a b) k h = absurd k
  no_new (tree.Assign op target value) k h = absurd k
  no_new (tree.Comma es) k h = absurd k

  no_param : (p : Param) → p.rest ≡ false → Completes limit (print_param m.look (suc limit) p) (ParamFollow (maybe_expr_of p.value)) (no_calls AParam) p
  no_param p e = subst (λ x. Completes limit (print_param m.look (suc limit) x) (ParamFollow (maybe_expr_of p.value)) (no_calls AParam) x) (same_param p e) (c_no_room limit (begins_call AParam) (print_param m.look (suc limit) (param p.name (option_of (maybe_expr_of p.value)))) (param p.name (option_of (maybe_expr_of p.value))) refl (deep_at limit _ _ (omega arith)))

  pub no_calls_complete : CompleteCalls limit m limit no_calls
  no_calls_complete = record {
    assign = λ w e r h i. c_no_room limit (begins_call (AnAssign w)) (print m.look (suc limit) e) e (expr_opens m (suc limit) e h) (expr_deep limit m (suc limit) e (omega arith) h);
    prefix = λ e k h. no_prefix e k h;
    new = λ e k h. no_new e k h;
    param = λ p e h. no_param p e;
    rest = λ n. c_no_room limit (begins_call ARest) (mark_piece mark.ELLIPSIS (suc limit) ∷ name_piece n (suc limit) ∷ []) n refl (deep_at limit _ _ (omega arith));
  }
