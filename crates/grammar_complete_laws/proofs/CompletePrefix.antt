-- Completeness of unary operators: at their lexemes they are read.
use Rattle.std.proofs.Common.{◌≡◌, ℕ, ◌≤◌, List, [], ◌∷◌, ◌++◌, refl, sym, ap, ◌∙◌, subst, arith, Bool, true, false, not, ◌||◌, if◌then◌else◌}
use Rattle.script_grammar.specs.declared.token.Kind.{Kind}
use Rattle.script_grammar.specs.declared.token.Kind.TheVariants as kind
use Rattle.script_grammar.specs.declared.token.FuncForm.TheVariants as form
use Rattle.script_grammar.specs.Lexeme.{Lexeme}
use Rattle.script_grammar.specs.Kinds.{is_word, is_prefix, is_prefix_op, is_update, op_kind, is_arrow_form}
use Rattle.script_grammar.specs.Tree.{Expr, MaybeArgs, no_args, some_args, Tail, Tails, no_tails, more_tails, Function, function, Parts, no_parts, more_parts, Exprs}
use Rattle.script_grammar.specs.Tree as tree
use Rattle.script_grammar.specs.Pieces.{Postfix, Operand, Piece, from}
use Rattle.script_grammar.specs.Endings.{ending}
use Rattle.script_grammar.specs.Print.{print, print_tails, first_kind}
use Rattle.script_grammar.specs.Proper.{rank, are_member_tails, left_rank, unary_rank, new_rank, function_rank}
use Rattle.grammar_parser_specs.specs.Parser.{head_of, ret, bad, bind, step, when}
use Rattle.grammar_parser_specs.specs.Exprs as parser
use Rattle.grammar_parser_specs.specs.Exprs.{Env, ANew, APrefix, expect, chain_case, is_chain_head, again}
use Rattle.grammar_parser_laws.proofs.Tests.{not_true, false_true}
use Rattle.grammar_parser_laws.proofs.Stands.{lexemes}
use Rattle.grammar_parser_laws.proofs.Complete.{bare}
use Rattle.grammar_complete_laws.proofs.Completes.{Completes, c_made, c_at, c_front, c_weaken}
use Rattle.grammar_complete_laws.proofs.CompleteStmts.{c_value}
use Rattle.grammar_complete_laws.proofs.ExprFronts.{Opens, opens_append, opens_first, opens_some}
use Rattle.grammar_complete_laws.proofs.CompleteParts.{CompleteEnv, UnaryStops, IsPrefixed}
use Rattle.script_grammar.specs.Pieces.{placed, glued_mark}
use Rattle.grammar_parser_specs.specs.Exprs.{begins_assign, mark_of, is_word_kind}
use Rattle.grammar_complete_laws.proofs.ExprFronts.{update_is}
use Rattle.grammar_complete_laws.proofs.CompleteChains.{PrimComplete}
use Rattle.grammar_complete_laws.proofs.ExprFronts.{opens_from}
use Rattle.grammar_complete_laws.proofs.CompleteUnary.{plain_update, postfix_complete, prefix_first, operand_first}
use Rattle.grammar_parser_laws.proofs.ProperIn.{Mode, Proper}

abbrev pub no_op : Kind → Bool
no_op k = not (is_prefix k || is_update k)

template_op : (ps : Parts) → no_op (first_kind ps) ≡ true
template_op no_parts = refl
template_op (more_parts e w ps) = refl

func_op : (m : Mode) (d at : ℕ) (f : Function) → rank (tree.Func at f) ≤ left_rank → Proper m (tree.Func at f) → Opens no_op (print m.look d (tree.Func at f)) × (ending (tree.Func at f) ≡ Operand)
func_op m d at (function form.Function start end name ps comma bare body) r h = (refl, refl)
func_op m d at (function form.Arrow start end name ps comma bare body) r h = absurd (omega (arith, r))
func_op m d at (function form.Script start end name ps comma bare body) r h = absurd h.0
func_op m d at (function form.Method start end name ps comma bare body) r h = absurd h.0
func_op m d at (function form.Getter start end name ps comma bare body) r h = absurd h.0
func_op m d at (function form.Setter start end name ps comma bare body) r h = absurd h.0

-- a left-hand side begins with no unary operator, and ends as an operand
pub left_first : (m : Mode) (d : ℕ) (e : Expr) → rank e ≤ left_rank → Proper m e → Opens no_op (print m.look d e) × (ending e ≡ Operand)
left_first m d (tree.This at) r h = (refl, refl)
left_first m d (tree.Name name) r h = (refl, refl)
left_first m d (tree.Null at) r h = (refl, refl)
left_first m d (tree.True at) r h = (refl, refl)
left_first m d (tree.False at) r h = (refl, refl)
left_first m d (tree.Number at value) r h = (refl, refl)
left_first m d (tree.Str at end w) r h = (refl, refl)
left_first m d (tree.Template at first parts) r h = (template_op parts, refl)
left_first m d (tree.Array at is comma) r h = (refl, refl)
left_first m d (tree.Object at ps comma) r h = (refl, refl)
left_first m d (tree.Func at f) r h = func_op m d at f r h
left_first m d (tree.Paren at inner) r h = (refl, refl)
left_first m d (tree.Chain head tails) r h = (opens_append no_op (print m.look d head) (print_tails m.look d tails) (left_first m d head (omega (arith, h.0)) h.1).0, refl)
left_first m d (tree.New at callee args) r h = (refl, refl)
left_first m d (tree.Unary at op of is_word) r h = absurd (omega (arith, r))
left_first m d (tree.Update at op prefix of) r h = absurd (omega (arith, r))
left_first m d (tree.Binary first rest) r h = absurd (omega (arith, r))
left_first m d (tree.Cond test then_value else_value) r h = absurd (omega (arith, r))
left_first m d (tree.Assign op target value) r h = absurd (omega (arith, r))
left_first m d (tree.Comma es) r h = absurd (omega (arith, r))

data UnaryOf (e : Expr) : Type 0 where
  prefixed : IsPrefixed e → UnaryOf e
  postfixed : (at op : ℕ) (of : Expr) → e ≡ tree.Update at op false of → UnaryOf e
  left : rank e ≤ left_rank → UnaryOf e

if_unary : (b : Bool) → (if b then 20 else 0) ≤ 6 → (if b then 20 else 0) ≤ 4
if_unary true h = absurd (omega (arith, h))
if_unary false h = omega arith

func_unary : (f : Function) → function_rank f ≤ 6 → function_rank f ≤ 4
func_unary (function g start end name ps comma bare body) h = if_unary (is_arrow_form g) h

chain_left : (b : Bool) → (if b then 2 else 4) ≤ 4
chain_left true = omega arith
chain_left false = omega arith

new_left : (a : MaybeArgs) → new_rank a ≤ 4
new_left no_args = omega arith
new_left (some_args es comma) = omega arith

unary_kind : (e : Expr) → rank e ≤ unary_rank → UnaryOf e
unary_kind (tree.Unary at op of is_word) r = prefixed tt
unary_kind (tree.Update at op true of) r = prefixed tt
unary_kind (tree.Update at op false of) r = postfixed at op of refl
unary_kind (tree.This at) r = left (omega arith)
unary_kind (tree.Name name) r = left (omega arith)
unary_kind (tree.Null at) r = left (omega arith)
unary_kind (tree.True at) r = left (omega arith)
unary_kind (tree.False at) r = left (omega arith)
unary_kind (tree.Number at value) r = left (omega arith)
unary_kind (tree.Str at end w) r = left (omega arith)
unary_kind (tree.Template at first parts) r = left (omega arith)
unary_kind (tree.Array at is comma) r = left (omega arith)
unary_kind (tree.Object at ps comma) r = left (omega arith)
unary_kind (tree.Func at f) r = left (func_unary f r)
unary_kind (tree.Paren at inner) r = left (omega arith)
unary_kind (tree.Chain head tails) r = left (chain_left (are_member_tails tails))
unary_kind (tree.New at callee args) r = left (new_left args)
unary_kind (tree.Binary first rest) r = absurd (omega (arith, r))
unary_kind (tree.Cond test then_value else_value) r = absurd (omega (arith, r))
unary_kind (tree.Assign op target value) r = absurd (omega (arith, r))
unary_kind (tree.Comma es) r = absurd (omega (arith, r))

prefix_kind : (op : ℕ) (w : Bool) → is_prefix_op op w ≡ true → is_prefix (op_kind op w) ≡ true
prefix_kind op true h = h
prefix_kind op false h = h

either_left : (a b : Bool) → a ≡ true → (a || b) ≡ true
either_left true b h = refl
either_left false b h = absurd (false_true h)

either_right : (a b : Bool) → b ≡ true → (a || b) ≡ true
either_right true b h = refl
either_right false b h = h

abbrev pub has_op : Kind → Bool
has_op k = is_prefix k || is_update k

pub prefixed_opens : (m : Mode) (d : ℕ) (e : Expr) → IsPrefixed e → Proper m e → Opens has_op (print m.look d e)
prefixed_opens m d (tree.Unary at op of is_word) k h = either_left (is_prefix (op_kind op is_word)) (is_update (op_kind op is_word)) (prefix_kind op is_word h.0)
prefixed_opens m d (tree.Update at op true of) k h = either_right (is_prefix (kind.Mark op)) (is_update (kind.Mark op)) h.0
prefixed_opens m d (tree.Update at op false of) k h = absurd k
prefixed_opens m d (tree.This at) k h = absurd k
prefixed_opens m d (tree.Name name) k h = absurd k
prefixed_opens m d (tree.Null at) k h = absurd k
prefixed_opens m d (tree.True at) k h = absurd k
prefixed_opens m d (tree.False at) k h = absurd k
prefixed_opens m d (tree.Number at value) k h = absurd k
prefixed_opens m d (tree.Str at end w) k h = absurd k
prefixed_opens m d (tree.Template at first parts) k h = absurd k
prefixed_opens m d (tree.Array at is comma) k h = absurd k
prefixed_opens m d (tree.Object at ps comma) k h = absurd k
prefixed_opens m d (tree.Func at f) k h = absurd k
prefixed_opens m d (tree.Paren at inner) k h = absurd k
prefixed_opens m d (tree.Chain head tails) k h = absurd k
prefixed_opens m d (tree.New at callee args) k h = absurd k
prefixed_opens m d (tree.Binary first rest) k h = absurd k
prefixed_opens m d (tree.Cond test then_value else_value) k h = absurd k
prefixed_opens m d (tree.Assign op target value) k h = absurd k
prefixed_opens m d (tree.Comma es) k h = absurd k

module _ (limit : ℕ) (m : Mode) (d : ℕ) (low : d ≤ limit) (v : Env) (c : CompleteEnv limit m d v) (prim : PrimComplete limit m d v) where
  operand_front : (heads : Bool) (ps : List Piece) (F : Lexeme → Type 0) (a : Expr) → Opens no_op ps → Completes limit ps F (parser.update_of v heads) a → Completes limit ps F (parser.unary_of v heads) a
  operand_front heads ps F a o k = c_front limit (parser.update_of v heads) (λ x w rest q g. operand_first limit m d low v c prim heads x.lexeme (lexemes w ++ rest) (not_true (is_prefix x.lexeme.kind || is_update x.lexeme.kind) (opens_first no_op ps x w (head_of rest) o q))) (λ w n q. opens_some no_op ps w n o q) k

  -- a UnaryExpression
  pub unary_complete : (heads : Bool) (e : Expr) → rank e ≤ unary_rank → Proper m e → Completes limit (print m.look d e) (UnaryStops (ending e)) (parser.unary_of v heads) e
  unary_complete heads e r h = by (unary_kind e r)
    where
      by : UnaryOf e → Completes limit (print m.look d e) (UnaryStops (ending e)) (parser.unary_of v heads) e
      by (prefixed k) = c_front limit (v.sub APrefix) (λ x w rest q g. prefix_first limit m d low v c prim heads x.lexeme (lexemes w ++ rest) (opens_first has_op (print m.look d e) x w (head_of rest) (prefixed_opens m d e k h) q)) (λ w n q. opens_some has_op (print m.look d e) w n (prefixed_opens m d e k h) q) (c.calls.prefix e k h)
      by (left z) = let f = left_first m d e z h in operand_front heads (print m.look d e) (UnaryStops (ending e)) e f.0 (c_weaken limit (λ t g. record { tail = g.tail f.1; update = g.update f.1 }) (plain_update limit m d low v c prim heads e z h))
      by (postfixed at op of q) = subst (λ y. Completes limit (print m.look d y) (UnaryStops (ending y)) (parser.unary_of v heads) y) (sym q) (postfix_by (subst (Proper m) q h))
        where
          postfix_by : Proper m (tree.Update at op false of) → Completes limit (from at (print m.look d of) ++ glued_mark op d ∷ []) (UnaryStops Postfix) (parser.unary_of v heads) (tree.Update at op false of)
          postfix_by k = operand_front heads (from at (print m.look d of) ++ glued_mark op d ∷ []) (UnaryStops Postfix) (tree.Update at op false of) (opens_append no_op (from at (print m.look d of)) (glued_mark op d ∷ []) (opens_from no_op at (print m.look d of) (left_first m d of k.1 k.2).0)) (c_weaken limit (λ t g. tt) (postfix_complete limit m d low v c prim heads at op of k.0 k.1 k.2))

  -- a prefix operator and its operand

  unary_here : (t : Lexeme) (ts : List Lexeme) → is_prefix t.kind ≡ true → parser.prefix_of v (t ∷ ts) ≡ bind (parser.unary_of v false) (λ e. ret (tree.Unary t.start (mark_of t.kind) e (is_word_kind t.kind))) ts
  unfolding parser.prefix_of
  unary_here t ts h = ap (λ x. when x (step (bind (parser.unary_of v false) (λ e. ret (tree.Unary t.start (mark_of t.kind) e (is_word_kind t.kind))))) (when (is_update t.kind) (step (bind (parser.unary_of v false) (λ e. ret (tree.Update t.start (mark_of t.kind) true e)))) bad) (t ∷ ts)) h

  update_here : (t : Lexeme) (ts : List Lexeme) → is_prefix t.kind ≡ false → is_update t.kind ≡ true → parser.prefix_of v (t ∷ ts) ≡ bind (parser.unary_of v false) (λ e. ret (tree.Update t.start (mark_of t.kind) true e)) ts
  unfolding parser.prefix_of
  update_here t ts h k = ap (λ x. when x (step (bind (parser.unary_of v false) (λ e. ret (tree.Unary t.start (mark_of t.kind) e (is_word_kind t.kind))))) (when (is_update t.kind) (step (bind (parser.unary_of v false) (λ e. ret (tree.Update t.start (mark_of t.kind) true e)))) bad) (t ∷ ts)) h
      ∙ ap (λ x. when x (step (bind (parser.unary_of v false) (λ e. ret (tree.Update t.start (mark_of t.kind) true e)))) bad (t ∷ ts)) k

  op_mark : (op : ℕ) (w : Bool) → mark_of (op_kind op w) ≡ op
  op_mark op true = refl
  op_mark op false = refl

  op_word : (op : ℕ) (w : Bool) → is_word_kind (op_kind op w) ≡ w
  op_word op true = refl
  op_word op false = refl

  pub unary_prefix : (at op : ℕ) (of : Expr) (w : Bool) → Proper m (tree.Unary at op of w) → Completes limit (placed (op_kind op w) at d ∷ print m.look d of) (UnaryStops (ending of)) (parser.prefix_of v) (tree.Unary at op of w)
  unary_prefix at op of w h = c_at limit (λ t. bind (parser.unary_of v false) (λ e. ret (tree.Unary t.start (mark_of t.kind) e (is_word_kind t.kind)))) low (λ t ts s. unary_here t ts (ap is_prefix s.kind ∙ prefix_kind op w h.0))
      (λ t s. c_value (ap (λ x. tree.Unary x (mark_of t.kind) of (is_word_kind t.kind)) s.starts.0 ∙ ap (λ x. tree.Unary at x of (is_word_kind t.kind)) (ap mark_of s.kind ∙ op_mark op w) ∙ ap (λ x. tree.Unary at op of x) (ap is_word_kind s.kind ∙ op_word op w)) (c_made limit (λ e. tree.Unary t.start (mark_of t.kind) e (is_word_kind t.kind)) (unary_complete false of h.1 h.2)))

  pub update_prefix : (at op : ℕ) (of : Expr) → Proper m (tree.Update at op true of) → Completes limit (placed (kind.Mark op) at d ∷ print m.look d of) (UnaryStops (ending of)) (parser.prefix_of v) (tree.Update at op true of)
  update_prefix at op of h = c_at limit (λ t. bind (parser.unary_of v false) (λ e. ret (tree.Update t.start (mark_of t.kind) true e))) low (λ t ts s. update_here t ts (ap is_prefix s.kind ∙ update_is (λ x. is_prefix (kind.Mark x) ≡ false) refl refl op h.0) (ap is_update s.kind ∙ h.0))
      (λ t s. c_value (ap (λ x. tree.Update x (mark_of t.kind) true of) s.starts.0 ∙ ap (λ x. tree.Update at x true of) (ap mark_of s.kind)) (c_made limit (λ e. tree.Update t.start (mark_of t.kind) true e) (unary_complete false of h.1 h.2)))
