-- Completeness of `new`, left-hand sides, updates and unary operators: at their lexemes they are read.
use Rattle.std.proofs.Common.{◌≡◌, ℕ, ◌≤◌, List, [], ◌∷◌, ◌++◌, refl, sym, ap, ◌∙◌, subst, arith, append_assoc, append-nil, Bool, true, false, not, ◌&&◌, ◌||◌, Option, Some, None, if◌then◌else◌, ◌⊎◌, inl, inr}
use Rattle.std.proofs.lemmas.Bool.{le-leb}
use Rattle.script_grammar.specs.declared.token.Kind.TheVariants as kind
use Rattle.script_grammar.specs.declared.token.mark.TheConstants as mark
use Rattle.script_grammar.specs.declared.token.word.TheConstants as word
use Rattle.script_grammar.specs.Lexeme.{Lexeme}
use Rattle.script_grammar.specs.Kinds.{is_mark, is_word, is_prefix, is_update, is_update_op, is_arrow_form}
use Rattle.script_grammar.specs.Tree.{Expr, MaybeArgs, no_args, some_args, Tail, Tails, no_tails, more_tails, Function, function, Parts, no_parts, more_parts, Exprs}
use Rattle.script_grammar.specs.Tree as tree
use Rattle.script_grammar.specs.TreeLists.{Args, maybe_args_of}
use Rattle.script_grammar.specs.Pieces.{Piece, At, from}
use Rattle.script_grammar.specs.Print.{print, print_tails, print_args}
use Rattle.script_grammar.specs.Proper.{rank, are_member_tails, left_rank, callee_rank, function_rank}
use Rattle.grammar_parser_specs.specs.Parser.{Read, Parser, head_of, ret, bind, step, when, loop}
use Rattle.grammar_parser_specs.specs.Exprs as parser
use Rattle.grammar_parser_specs.specs.Exprs.{Env, ANew, APrefix, expect, chain_case, is_chain_head, again}
use Rattle.grammar_parser_laws.proofs.Tests.{false_true, true_false}
use Rattle.grammar_parser_laws.proofs.Stands.{Marked, lexemes, Stands}
use Rattle.grammar_parser_laws.proofs.Complete.{Parses, bare}
use Rattle.grammar_complete_laws.proofs.Completes.{Completes, Leads, Any, of_kind, at_kind, lead_none, lead_at, lead_any, lead_map, c_ret, c_bind, c_made, c_at, c_look, c_weaken, c_pieces}
use Rattle.grammar_complete_laws.proofs.CompleteStmts.{c_value}
use Rattle.grammar_complete_laws.proofs.ExprFronts.{Opens, opens_append, opens_some}
use Rattle.grammar_complete_laws.proofs.CompleteParts.{CompleteEnv, TailStops, NewFollow, args_complete, list_of, of_list}
use Rattle.script_grammar.specs.Pieces.{placed, glued_mark, Gap, Pass}
use Rattle.grammar_parser_specs.specs.Exprs.{begins_assign, mark_of, is_word_kind}
use Rattle.grammar_complete_laws.proofs.ExprFronts.{expr_opens, update_is}
use Rattle.grammar_complete_laws.proofs.CompleteChains.{MemberStops, PrimComplete, tails_list, prim_head, new_head, tails_complete, members_complete, chain_as}
use Rattle.grammar_parser_laws.proofs.ProperIn.{Mode, Proper, ProperArgs, ProperTails}

-- what may begin a chain: a primary, or a `new` with arguments

abbrev IsNewArgs : Expr → Type 0
IsNewArgs (tree.New at callee (some_args es comma)) = Unit {0}
IsNewArgs _ = ⊥

if_low : (b : Bool) → (if b then 20 else 0) ≤ 4 → (if b then 20 else 0) ≤ 0
if_low true h = absurd (omega (arith, h))
if_low false h = omega arith

func_zero : (f : Function) → function_rank f ≤ 4 → function_rank f ≤ 0
func_zero (function g start end name ps comma bare body) h = if_low (is_arrow_form g) h

if_chain : (b : Bool) → (if b then 2 else 4) ≤ 1 → ⊥
if_chain true h = omega (arith, h)
if_chain false h = omega (arith, h)

head_kind : (e : Expr) → rank e ≤ 1 → (rank e ≤ 0) ⊎ IsNewArgs e
head_kind (tree.This at) r = inl (omega arith)
head_kind (tree.Name name) r = inl (omega arith)
head_kind (tree.Null at) r = inl (omega arith)
head_kind (tree.True at) r = inl (omega arith)
head_kind (tree.False at) r = inl (omega arith)
head_kind (tree.Number at value) r = inl (omega arith)
head_kind (tree.Str at end w) r = inl (omega arith)
head_kind (tree.Template at first parts) r = inl (omega arith)
head_kind (tree.Array at is comma) r = inl (omega arith)
head_kind (tree.Object at ps comma) r = inl (omega arith)
head_kind (tree.Func at f) r = inl (func_zero f (omega (arith, r)))
head_kind (tree.Paren at inner) r = inl (omega arith)
head_kind (tree.Chain head tails) r = absurd (if_chain (are_member_tails tails) r)
head_kind (tree.New at callee (some_args es comma)) r = inr tt
head_kind (tree.New at callee no_args) r = absurd (omega (arith, r))
head_kind (tree.Unary at op of is_word) r = absurd (omega (arith, r))
head_kind (tree.Update at op prefix of) r = absurd (omega (arith, r))
head_kind (tree.Binary first rest) r = absurd (omega (arith, r))
head_kind (tree.Cond test then_value else_value) r = absurd (omega (arith, r))
head_kind (tree.Assign op target value) r = absurd (omega (arith, r))
head_kind (tree.Comma es) r = absurd (omega (arith, r))

-- a LeftHandSideExpression is a chain, a `new` without arguments, or what may begin a chain
data Left (e : Expr) : Type 0 where
  chain : (h : Expr) (ts : Tails) → e ≡ tree.Chain h ts → Left e
  bare_new : (at : ℕ) (callee : Expr) → e ≡ tree.New at callee no_args → Left e
  simple : rank e ≤ 1 → Left e

left_kind : (e : Expr) → rank e ≤ left_rank → Left e
left_kind (tree.Chain h ts) r = chain h ts refl
left_kind (tree.New at callee no_args) r = bare_new at callee refl
left_kind (tree.New at callee (some_args es comma)) r = simple (omega arith)
left_kind (tree.This at) r = simple (omega arith)
left_kind (tree.Name name) r = simple (omega arith)
left_kind (tree.Null at) r = simple (omega arith)
left_kind (tree.True at) r = simple (omega arith)
left_kind (tree.False at) r = simple (omega arith)
left_kind (tree.Number at value) r = simple (omega arith)
left_kind (tree.Str at end w) r = simple (omega arith)
left_kind (tree.Template at first parts) r = simple (omega arith)
left_kind (tree.Array at is comma) r = simple (omega arith)
left_kind (tree.Object at ps comma) r = simple (omega arith)
left_kind (tree.Func at f) r = let z : function_rank f ≤ 0 = func_zero f r in simple (omega (arith, z))
left_kind (tree.Paren at inner) r = simple (omega arith)
left_kind (tree.Unary at op of is_word) r = absurd (omega (arith, r))
left_kind (tree.Update at op prefix of) r = absurd (omega (arith, r))
left_kind (tree.Binary first rest) r = absurd (omega (arith, r))
left_kind (tree.Cond test then_value else_value) r = absurd (omega (arith, r))
left_kind (tree.Assign op target value) r = absurd (omega (arith, r))
left_kind (tree.Comma es) r = absurd (omega (arith, r))

member_if : (b : Bool) → (if b then 2 else 4) ≤ 2 → b ≡ true
member_if true h = refl
member_if false h = absurd (omega (arith, h))

module _ (limit : ℕ) (m : Mode) (d : ℕ) (low : d ≤ limit) (v : Env) (c : CompleteEnv limit m d v) (prim : PrimComplete limit m d v) where
  new_args_head : (heads : Bool) (e : Expr) → IsNewArgs e → Proper m e → Completes limit (print m.look d e) Any (parser.new_or_prim v heads) e
  new_args_head heads (tree.New at callee (some_args es comma)) k h = c_weaken limit (λ t g. tt) (new_head limit m d low v c prim heads at callee (some_args es comma) h)
  new_args_head heads (tree.New at callee no_args) k h = absurd k
  new_args_head heads (tree.This at) k h = absurd k
  new_args_head heads (tree.Name name) k h = absurd k
  new_args_head heads (tree.Null at) k h = absurd k
  new_args_head heads (tree.True at) k h = absurd k
  new_args_head heads (tree.False at) k h = absurd k
  new_args_head heads (tree.Number at value) k h = absurd k
  new_args_head heads (tree.Str at end w) k h = absurd k
  new_args_head heads (tree.Template at first parts) k h = absurd k
  new_args_head heads (tree.Array at is comma) k h = absurd k
  new_args_head heads (tree.Object at ps comma) k h = absurd k
  new_args_head heads (tree.Func at f) k h = absurd k
  new_args_head heads (tree.Paren at inner) k h = absurd k
  new_args_head heads (tree.Chain head tails) k h = absurd k
  new_args_head heads (tree.Unary at op of is_word) k h = absurd k
  new_args_head heads (tree.Update at op prefix of) k h = absurd k
  new_args_head heads (tree.Binary first rest) k h = absurd k
  new_args_head heads (tree.Cond test then_value else_value) k h = absurd k
  new_args_head heads (tree.Assign op target value) k h = absurd k
  new_args_head heads (tree.Comma es) k h = absurd k

  -- what may begin a chain
  head_complete : (heads : Bool) (e : Expr) → rank e ≤ 1 → Proper m e → Completes limit (print m.look d e) Any (parser.new_or_prim v heads) e
  head_complete heads e r h = by (head_kind e r)
    where
      by : (rank e ≤ 0) ⊎ IsNewArgs e → Completes limit (print m.look d e) Any (parser.new_or_prim v heads) e
      by (inl z) = prim_head limit m d low v c prim heads e z h
      by (inr k) = new_args_head heads e k h

  when_true : {A : Type 0} {F : Lexeme → Type 0} (b : Bool) (f g : Parser A) (ps : List Piece) (a : A) → b ≡ true → Completes limit ps F f a → Completes limit ps F (when b f g) a
  when_true true f g ps a e k = k
  when_true false f g ps a e k = absurd (false_true e)

  when_false : {A : Type 0} {F : Lexeme → Type 0} (b : Bool) (f g : Parser A) (ps : List Piece) (a : A) → b ≡ false → Completes limit ps F g a → Completes limit ps F (when b f g) a
  when_false true f g ps a e k = absurd (true_false e)
  when_false false f g ps a e k = k

  chain_tails : (h : Expr) (ts : Tails) (a : Expr) → rank h ≤ 1 → chain_case h (tails_list ts) ≡ a → ProperTails m ts → Completes limit (print_tails m.look d ts) TailStops (parser.chain_of (parser.tail_turn v) h) a
  chain_tails h ts a r e p = when_true (is_chain_head h) (bind (loop (parser.tail_turn v)) (λ n. ret (chain_case h n.items))) (ret h) (print_tails m.look d ts) a (le-leb (rank h) 1 r) (c_value e (c_made limit (λ n. chain_case h n.items) (tails_complete limit m d low v c ts p)))

  -- a LeftHandSideExpression
  pub left_complete : (heads : Bool) (e : Expr) → rank e ≤ left_rank → Proper m e → Completes limit (print m.look d e) TailStops (parser.left_of v heads) e
  unfolding parser.left_of
  left_complete heads e r h = by (left_kind e r)
    where
      by : Left e → Completes limit (print m.look d e) TailStops (bind (parser.new_or_prim v heads) (parser.chain_of (parser.tail_turn v))) e
      by (simple z) = c_pieces limit (append-nil (print m.look d e)) (c_bind limit (parser.chain_of (parser.tail_turn v)) (head_complete heads e z h) lead_any (chain_tails e no_tails e z refl tt))
      by (chain x ts q) = subst (λ y. Completes limit (print m.look d y) TailStops (bind (parser.new_or_prim v heads) (parser.chain_of (parser.tail_turn v))) y) (sym q) (chain_by x ts (subst (Proper m) q h))
        where
          chain_by : (x : Expr) (ts : Tails) → Proper m (tree.Chain x ts) → Completes limit (print m.look d x ++ print_tails m.look d ts) TailStops (bind (parser.new_or_prim v heads) (parser.chain_of (parser.tail_turn v))) (tree.Chain x ts)
          chain_by x ts k = c_bind limit (parser.chain_of (parser.tail_turn v)) (head_complete heads x k.0 k.1) lead_any (chain_tails x ts (tree.Chain x ts) k.0 (chain_as limit m d low v c x ts k.2) k.3)
      by (bare_new at callee q) = subst (λ y. Completes limit (print m.look d y) TailStops (bind (parser.new_or_prim v heads) (parser.chain_of (parser.tail_turn v))) y) (sym q) (c_pieces limit (append-nil (print m.look d (tree.New at callee no_args))) (c_bind limit (parser.chain_of (parser.tail_turn v)) (new_head limit m d low v c prim heads at callee no_args (subst (Proper m) q h)) lead_none (c_ret limit (tree.New at callee no_args))))

  -- `new`, from its word on

  args_here : (t : Lexeme) (ts : List Lexeme) → t.kind ≡ kind.Mark mark.OPEN_PAREN → parser.new_args v (t ∷ ts) ≡ bind (parser.args_of v) (λ a. ret (Some a)) ts
  unfolding parser.new_args
  args_here t ts e = at_kind (λ u. parser.new_args v (u ∷ ts) ≡ bind (parser.args_of v) (λ a. ret (Some a)) ts) (kind.Mark mark.OPEN_PAREN) t e refl

  no_args_here : (rest : List Lexeme) → is_mark mark.OPEN_PAREN (head_of rest).kind ≡ false → bare (parser.new_args v rest) ≡ Read None [] rest
  unfolding parser.new_args
  no_args_here rest h = ap (λ x. bare (when x (step (bind (parser.args_of v) (λ a. ret (Some a)))) (ret None) rest)) h

  abbrev args_option : MaybeArgs → Option Args
  args_option no_args = None
  args_option (some_args es comma) = Some (record { items = list_of es; comma = comma })

  of_args : (a : MaybeArgs) → maybe_args_of (args_option a) ≡ a
  of_args no_args = refl
  of_args (some_args es comma) = ap (λ x. some_args x comma) (of_list es)

  new_args_complete : (at : ℕ) (callee : Expr) (a : MaybeArgs) → ProperArgs m a → Completes limit (print_args m.look d a) (NewFollow (tree.New at callee a)) (parser.new_args v) (args_option a)
  new_args_complete at callee no_args h = c_look limit (λ rest g. no_args_here rest g.paren)
  new_args_complete at callee (some_args es comma) h = c_at limit (λ t. bind (parser.args_of v) (λ x. ret (Some x))) low (λ t ts s. args_here t ts s.kind) (λ t s. c_made limit Some (args_complete limit m d low v c es comma h.1 h.0))

  args_leads : (at : ℕ) (callee : Expr) (a : MaybeArgs) → Leads (print_args m.look d a) (NewFollow (tree.New at callee a)) MemberStops
  args_leads at callee no_args = lead_map (λ t g. record { dot = g.dot; bracket = g.bracket }) lead_none
  args_leads at callee (some_args es comma) = lead_at (λ t s. record { dot = ap (is_mark mark.DOT) s.kind; bracket = ap (is_mark mark.OPEN_BRACKET) s.kind })

  -- after what may begin a chain
  from_complete : (at : ℕ) (h : Expr) (ts : Tails) (callee : Expr) (a : MaybeArgs) → rank h ≤ 1 → ProperTails m ts → are_member_tails ts ≡ true → chain_case h (tails_list ts) ≡ callee → ProperArgs m a → Completes limit (print_tails m.look d ts ++ print_args m.look d a) (NewFollow (tree.New at callee a)) (parser.new_from v at h) (tree.New at callee a)
  unfolding parser.new_from
  from_complete at h ts callee a r p k e q = when_true (is_chain_head h) (bind (loop (parser.member_turn v)) (λ n. bind (parser.new_args v) (λ x. ret (tree.New at (chain_case h n.items) (maybe_args_of x))))) (ret (tree.New at h (maybe_args_of None))) (print_tails m.look d ts ++ print_args m.look d a) (tree.New at callee a) (le-leb (rank h) 1 r)
      (c_value (ap (λ x. tree.New at x (maybe_args_of (args_option a))) e ∙ ap (tree.New at callee) (of_args a))
      (c_bind limit (λ n. bind (parser.new_args v) (λ x. ret (tree.New at (chain_case h n.items) (maybe_args_of x)))) (members_complete limit m d low v c ts p k) (args_leads at callee a) (c_made limit (λ x. tree.New at (chain_case h (tails_list ts)) (maybe_args_of x)) (new_args_complete at callee a q))))

  callee_low : (a : MaybeArgs) (n : ℕ) → n ≤ callee_rank a → n ≤ left_rank
  callee_low no_args n h = omega (arith, h)
  callee_low (some_args es comma) n h = omega (arith, h)

  chain_low : (a : MaybeArgs) (b : Bool) → (if b then 2 else 4) ≤ callee_rank a → b ≡ true
  chain_low a true h = refl
  chain_low no_args false h = absurd (omega (arith, h))
  chain_low (some_args es comma) false h = absurd (omega (arith, h))

  bare_callee : (at at2 : ℕ) (callee : Expr) (a : MaybeArgs) → rank (tree.New at2 callee no_args) ≤ callee_rank a → Completes limit (print_args m.look d a) (NewFollow (tree.New at (tree.New at2 callee no_args) a)) (parser.new_from v at (tree.New at2 callee no_args)) (tree.New at (tree.New at2 callee no_args) a)
  unfolding parser.new_from
  bare_callee at at2 callee (some_args es comma) r = absurd (omega (arith, r))
  bare_callee at at2 callee no_args r = c_ret limit (tree.New at (tree.New at2 callee no_args) no_args)

  bare_leads : (at at2 : ℕ) (callee : Expr) (a : MaybeArgs) → rank (tree.New at2 callee no_args) ≤ callee_rank a → Leads (print_args m.look d a) (NewFollow (tree.New at (tree.New at2 callee no_args) a)) TailStops
  bare_leads at at2 callee (some_args es comma) r = absurd (omega (arith, r))
  bare_leads at at2 callee no_args r = lead_none

  behind_new : (at : ℕ) (callee : Expr) (a : MaybeArgs) → Proper m (tree.New at callee a) → Left callee → Completes limit (print m.look d callee ++ print_args m.look d a) (NewFollow (tree.New at callee a)) (bind (parser.new_or_prim v false) (parser.new_from v at)) (tree.New at callee a)
  behind_new at callee a h (simple z) = c_bind limit (parser.new_from v at) (head_complete false callee z h.1) lead_any (from_complete at callee no_tails callee a z tt refl refl h.2)
  behind_new at callee a h (chain x ts q) = subst (λ y. Completes limit (print m.look d y ++ print_args m.look d a) (NewFollow (tree.New at y a)) (bind (parser.new_or_prim v false) (parser.new_from v at)) (tree.New at y a)) (sym q) (by (subst (λ y. Proper m (tree.New at y a)) q h))
    where
      by : Proper m (tree.New at (tree.Chain x ts) a) → Completes limit ((print m.look d x ++ print_tails m.look d ts) ++ print_args m.look d a) (NewFollow (tree.New at (tree.Chain x ts) a)) (bind (parser.new_or_prim v false) (parser.new_from v at)) (tree.New at (tree.Chain x ts) a)
      by k = c_pieces limit (sym (append_assoc (print m.look d x) (print_tails m.look d ts) (print_args m.look d a))) (c_bind limit (parser.new_from v at) (head_complete false x k.1.0 k.1.1) lead_any (from_complete at x ts (tree.Chain x ts) a k.1.0 k.1.3 (chain_low a (are_member_tails ts) k.0) (chain_as limit m d low v c x ts k.1.2) k.2))
  behind_new at callee a h (bare_new at2 callee2 q) = subst (λ y. Completes limit (print m.look d y ++ print_args m.look d a) (NewFollow (tree.New at y a)) (bind (parser.new_or_prim v false) (parser.new_from v at)) (tree.New at y a)) (sym q) (by (subst (λ y. Proper m (tree.New at y a)) q h))
    where
      by : Proper m (tree.New at (tree.New at2 callee2 no_args) a) → Completes limit (print m.look d (tree.New at2 callee2 no_args) ++ print_args m.look d a) (NewFollow (tree.New at (tree.New at2 callee2 no_args) a)) (bind (parser.new_or_prim v false) (parser.new_from v at)) (tree.New at (tree.New at2 callee2 no_args) a)
      by k = c_bind limit (parser.new_from v at) (new_head limit m d low v c prim false at2 callee2 no_args k.1) (bare_leads at at2 callee2 a k.0) (bare_callee at at2 callee2 a k.0)

  new_here : (t : Lexeme) (ts : List Lexeme) → t.kind ≡ kind.Word word.NEW → parser.new_of v (t ∷ ts) ≡ bind (parser.new_or_prim v false) (parser.new_from v t.start) ts
  unfolding parser.new_of
  new_here t ts e = at_kind (λ u. parser.new_of v (u ∷ ts) ≡ bind (parser.new_or_prim v false) (parser.new_from v u.start) ts) (kind.Word word.NEW) t e refl

  pub new_complete : (at : ℕ) (callee : Expr) (a : MaybeArgs) → Proper m (tree.New at callee a) → Completes limit (placed (kind.Word word.NEW) at d ∷ (print m.look d callee ++ print_args m.look d a)) (NewFollow (tree.New at callee a)) (parser.new_of v) (tree.New at callee a)
  new_complete at callee a h = c_at limit (λ t. bind (parser.new_or_prim v false) (parser.new_from v t.start)) low (λ t ts s. new_here t ts s.kind) (λ t s. subst (λ x. Completes limit (print m.look d callee ++ print_args m.look d a) (NewFollow (tree.New at callee a)) (bind (parser.new_or_prim v false) (parser.new_from v x)) (tree.New at callee a)) (sym s.starts.0) (behind_new at callee a h (left_kind callee (callee_low a (rank callee) h.0))))

  -- updates

  postfix_none : (at : ℕ) (e : Expr) (rest : List Lexeme) → (is_update (head_of rest).kind && not (head_of rest).after_line) ≡ false → bare (parser.postfix_of at e rest) ≡ Read e [] rest
  unfolding parser.postfix_of
  postfix_none at e rest h = ap (λ x. bare (when x (step (ret (tree.Update at (mark_of (head_of rest).kind) false e))) (ret e) rest)) h

  update_mark : (op : ℕ) → is_update_op op ≡ true → is_update (kind.Mark op) ≡ true
  update_mark op h = h

  postfix_here : (at op : ℕ) (e : Expr) (t : Lexeme) (ts : List Lexeme) → is_update_op op ≡ true → t.kind ≡ kind.Mark op → t.after_line ≡ false → parser.postfix_of at e (t ∷ ts) ≡ Read (tree.Update at op false e) [] ts
  unfolding parser.postfix_of
  postfix_here at op e t ts h k l = at_kind (λ u. u.after_line ≡ false → parser.postfix_of at e (u ∷ ts) ≡ Read (tree.Update at op false e) [] ts) (kind.Mark op) t k
      (λ z. ap (λ x. when (x && not t.after_line) (step (ret (tree.Update at op false e))) (ret e) (of_kind (kind.Mark op) t ∷ ts)) h ∙ ap (λ x. when (not x) (step (ret (tree.Update at op false e))) (ret e) (of_kind (kind.Mark op) t ∷ ts)) z) l

  pub record UpdateStops (t : Lexeme) : Type 0 where
    pub tail : TailStops t
    pub update : (is_update t.kind && not t.after_line) ≡ false

  left_update : (heads : Bool) (at : ℕ) (e : Expr) → rank e ≤ left_rank → Proper m e → Completes limit (print m.look d e) UpdateStops (bind (parser.left_of v heads) (parser.postfix_of at)) e
  left_update heads at e r h = c_pieces limit (append-nil (print m.look d e)) (c_bind limit (parser.postfix_of at) (left_complete heads e r h) (lead_map (λ t g. g.tail) lead_none) (c_look limit (λ rest g. postfix_none at e rest g.update)))

  -- an operand without an operator after it
  pub plain_update : (heads : Bool) (e : Expr) → rank e ≤ left_rank → Proper m e → Completes limit (print m.look d e) UpdateStops (parser.update_of v heads) e
  unfolding parser.update_of
  plain_update heads e r h = record { at = λ w rest q g. record { by = ((left_update heads (head_of (lexemes w ++ rest)).start e r h).at w rest q g).by } }

  from_stands : (n : ℕ) (ps qs : List Piece) (w : List Marked) (t : Lexeme) → Stands (from n ps ++ qs) w t → Stands (ps ++ qs) w t
  from_stands n [] qs w t h = h
  from_stands n (At s ∷ ps) qs [] t h = absurd h
  from_stands n (At s ∷ ps) qs (x ∷ w) t h = (record { kind = h.0.kind; content = h.0.content; starts = h.0.starts.1; ends = h.0.ends; line = h.0.line }, h.1, h.2)
  from_stands n (Gap e ∷ ps) qs w t h = h
  from_stands n (Pass ∷ ps) qs w t h = h

  from_start : (n : ℕ) (ps qs : List Piece) (x : Marked) (w : List Marked) (t : Lexeme) → Opens begins_assign ps → Stands (from n ps ++ qs) (x ∷ w) t → x.lexeme.start ≡ n
  from_start n [] qs x w t o h = absurd o
  from_start n (At s ∷ ps) qs x w t o h = h.0.starts.0
  from_start n (Gap e ∷ ps) qs x w t o h = absurd o
  from_start n (Pass ∷ ps) qs x w t o h = absurd o

  mark_stops : (op : ℕ) → is_update_op op ≡ true → (t : Lexeme) → t.kind ≡ kind.Mark op → TailStops t
  mark_stops op h t k = record {
    dot = ap (is_mark mark.DOT) k ∙ update_is (λ x. is_mark mark.DOT (kind.Mark x) ≡ false) refl refl op h;
    bracket = ap (is_mark mark.OPEN_BRACKET) k ∙ update_is (λ x. is_mark mark.OPEN_BRACKET (kind.Mark x) ≡ false) refl refl op h;
    paren = ap (is_mark mark.OPEN_PAREN) k ∙ update_is (λ x. is_mark mark.OPEN_PAREN (kind.Mark x) ≡ false) refl refl op h;
  }

  postfix_at : (heads : Bool) (at op : ℕ) (e : Expr) → is_update_op op ≡ true → rank e ≤ left_rank → Proper m e → Completes limit (print m.look d e ++ glued_mark op d ∷ []) Any (bind (parser.left_of v heads) (parser.postfix_of at)) (tree.Update at op false e)
  postfix_at heads at op e k r h = c_bind limit (parser.postfix_of at) (left_complete heads e r h) (lead_at (λ t s. mark_stops op k t s.kind)) (c_at limit (λ t. ret (tree.Update at op false e)) low (λ t ts s. postfix_here at op e t ts k s.kind (s.line refl)) (λ t s. c_ret limit (tree.Update at op false e)))

  pub postfix_complete : (heads : Bool) (at op : ℕ) (e : Expr) → is_update_op op ≡ true → rank e ≤ left_rank → Proper m e → Completes limit (from at (print m.look d e) ++ glued_mark op d ∷ []) Any (parser.update_of v heads) (tree.Update at op false e)
  unfolding parser.update_of
  postfix_complete heads at op e k r h = record { at = λ w rest q g. by w rest q g }
    where
      by : (w : List Marked) (rest : List Lexeme) → Stands (from at (print m.look d e) ++ glued_mark op d ∷ []) w (head_of rest) → Any (head_of rest) → Parses limit (parser.update_of v heads) w rest (tree.Update at op false e)
      by [] rest q g = absurd (omega (arith, opens_some begins_assign (print m.look d e ++ glued_mark op d ∷ []) [] (head_of rest) (opens_append begins_assign (print m.look d e) (glued_mark op d ∷ []) (expr_opens m d e h)) (from_stands at (print m.look d e) (glued_mark op d ∷ []) [] (head_of rest) q)))
      by (x ∷ w) rest q g = record { by = ap (λ n. bare (bind (parser.left_of v heads) (parser.postfix_of n) (lexemes (x ∷ w) ++ rest))) (from_start at (print m.look d e) (glued_mark op d ∷ []) x w (head_of rest) (expr_opens m d e h) q) ∙ ((postfix_at heads at op e k r h).at (x ∷ w) rest (from_stands at (print m.look d e) (glued_mark op d ∷ []) (x ∷ w) (head_of rest) q) g).by }

  -- unary operators

  pub prefix_first : (heads : Bool) (t : Lexeme) (ts : List Lexeme) → (is_prefix t.kind || is_update t.kind) ≡ true → parser.unary_of v heads (t ∷ ts) ≡ v.sub APrefix (t ∷ ts)
  unfolding parser.unary_of
  prefix_first heads t ts h = ap (λ x. when x (v.sub APrefix) (parser.update_of v heads) (t ∷ ts)) h

  pub operand_first : (heads : Bool) (t : Lexeme) (ts : List Lexeme) → (is_prefix t.kind || is_update t.kind) ≡ false → parser.unary_of v heads (t ∷ ts) ≡ parser.update_of v heads (t ∷ ts)
  unfolding parser.unary_of
  operand_first heads t ts h = ap (λ x. when x (v.sub APrefix) (parser.update_of v heads) (t ∷ ts)) h
