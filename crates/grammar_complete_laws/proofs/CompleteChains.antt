-- Completeness of members, calls, `new`, prefix and postfix operators: at their lexemes they are read.
use Rattle.std.proofs.Common.{◌≡◌, ℕ, suc, ◌≤◌, ◌<◌, List, [], ◌∷◌, ◌++◌, length, refl, ap, ◌∙◌, arith, append_assoc, Bool, true, false, not, ◌||◌, if◌then◌else◌}
use Rattle.script_grammar.specs.declared.token.Kind.{Kind}
use Rattle.script_grammar.specs.declared.token.Kind.TheVariants as kind
use Rattle.script_grammar.specs.declared.token.mark.TheConstants as mark
use Rattle.script_grammar.specs.declared.token.word.TheConstants as word
use Rattle.script_grammar.specs.declared.token.FuncForm.TheVariants as form
use Rattle.script_grammar.specs.Lexeme.{Lexeme}
use Rattle.script_grammar.specs.Kinds.{is_mark, is_word, is_any_word}
use Rattle.script_grammar.specs.Tree.{Expr, MaybeArgs, no_args, some_args, Tail, Tails, no_tails, more_tails, Function, function, Parts, no_parts, more_parts, Exprs}
use Rattle.script_grammar.specs.Tree as tree
use Rattle.script_grammar.specs.TreeLists.{exprs_of, tails_of}
use Rattle.script_grammar.specs.Pieces.{comma_piece, mark_piece, any_word}
use Rattle.script_grammar.specs.Endings.{ending}
use Rattle.script_grammar.specs.Print.{print, print_list, print_tails, print_tail, first_kind}
use Rattle.script_grammar.specs.Proper.{rank, HasTails, is_member_tail, are_member_tails, new_rank}
use Rattle.grammar_parser_specs.specs.Parser.{Read, Parser, head_of, ret, bad, bind, step, when, Turn, Again, Stop, loop}
use Rattle.grammar_parser_specs.specs.Exprs as parser
use Rattle.grammar_parser_specs.specs.Exprs.{Env, ANew, APrefix, expect, chain_case, is_chain_head, again}
use Rattle.grammar_parser_specs.specs.Follow.{continues_expr, continues_assign}
use Rattle.grammar_parser_laws.proofs.Tests.{not_true, false_true, true_false, and_left, and_right}
use Rattle.grammar_parser_laws.proofs.Stands.{Marked, lexemes, Stands}
use Rattle.grammar_parser_laws.proofs.Complete.{bare, AllK, flat}
use Rattle.grammar_complete_laws.proofs.Completes.{Completes, Any, at_kind, lead_at, lead_any, c_ret, c_bind, c_made, c_at, c_front, c_look, c_pieces, c_mark}
use Rattle.grammar_complete_laws.proofs.CompleteLoops.{c_loop, LastLeads}
use Rattle.grammar_complete_laws.proofs.CompleteStmts.{c_value}
use Rattle.grammar_complete_laws.proofs.ExprFronts.{Opens, opens_first, opens_some}
use Rattle.grammar_complete_laws.proofs.CompleteParts.{CompleteEnv, TailStops, NewFollow, expr_complete, args_complete, of_list}
use Rattle.grammar_complete_laws.proofs.CompleteItems.{stop_bracket}
use Rattle.grammar_parser_laws.proofs.ProperIn.{Mode, Proper, ProperTail, ProperTails}

abbrev pub tails_list : Tails → List Tail
tails_list no_tails = []
tails_list (more_tails t ts) = t ∷ tails_list ts

tails_as : (ts : Tails) → tails_of (tails_list ts) ≡ ts
tails_as no_tails = refl
tails_as (more_tails t ts) = ap (more_tails t) (tails_as ts)

-- what goes on with no members
pub record MemberStops (t : Lexeme) : Type 0 where
  pub dot : is_mark mark.DOT t.kind ≡ false
  pub bracket : is_mark mark.OPEN_BRACKET t.kind ≡ false

-- primaries begin with no `new`
abbrev no_new : Kind → Bool
no_new k = not (is_word word.NEW k)

-- a primary, for which parentheses and the like are given
abbrev pub PrimComplete : (limit : ℕ) → Mode → ℕ → Env → Type 0
PrimComplete limit m d v = (heads : Bool) (e : Expr) → rank e ≤ 0 → Proper m e → Completes limit (print m.look d e) Any (parser.prim_of v heads) e

template_first : (ps : Parts) → no_new (first_kind ps) ≡ true
template_first no_parts = refl
template_first (more_parts e w ps) = refl

func_first : (m : Mode) (d at : ℕ) (f : Function) → rank (tree.Func at f) ≤ 0 → Proper m (tree.Func at f) → Opens no_new (print m.look d (tree.Func at f))
func_first m d at (function form.Function start end name ps comma bare body) r h = refl
func_first m d at (function form.Arrow start end name ps comma bare body) r h = absurd (omega (arith, r))
func_first m d at (function form.Script start end name ps comma bare body) r h = absurd h.0
func_first m d at (function form.Method start end name ps comma bare body) r h = absurd h.0
func_first m d at (function form.Getter start end name ps comma bare body) r h = absurd h.0
func_first m d at (function form.Setter start end name ps comma bare body) r h = absurd h.0

not_low : (b : Bool) (x y : ℕ) → 0 < x → 0 < y → (if b then x else y) ≤ 0 → ⊥
not_low true x y h k l = omega (arith, h, l)
not_low false x y h k l = omega (arith, k, l)

new_not_low : (a : MaybeArgs) → new_rank a ≤ 0 → ⊥
new_not_low no_args l = omega (arith, l)
new_not_low (some_args es comma) l = omega (arith, l)

prim_first : (m : Mode) (d : ℕ) (e : Expr) → rank e ≤ 0 → Proper m e → Opens no_new (print m.look d e)
prim_first m d (tree.This at) r h = refl
prim_first m d (tree.Name name) r h = refl
prim_first m d (tree.Null at) r h = refl
prim_first m d (tree.True at) r h = refl
prim_first m d (tree.False at) r h = refl
prim_first m d (tree.Number at value) r h = refl
prim_first m d (tree.Str at end w) r h = refl
prim_first m d (tree.Template at first parts) r h = template_first parts
prim_first m d (tree.Array at is comma) r h = refl
prim_first m d (tree.Object at ps comma) r h = refl
prim_first m d (tree.Func at f) r h = func_first m d at f r h
prim_first m d (tree.Paren at inner) r h = refl
prim_first m d (tree.Chain head tails) r h = absurd (not_low (are_member_tails tails) 2 4 (omega arith) (omega arith) r)
prim_first m d (tree.New at callee args) r h = absurd (new_not_low args r)
prim_first m d (tree.Unary at op of is_word) r h = absurd (omega (arith, r))
prim_first m d (tree.Update at op prefix of) r h = absurd (omega (arith, r))
prim_first m d (tree.Binary first rest) r h = absurd (omega (arith, r))
prim_first m d (tree.Cond test then_value else_value) r h = absurd (omega (arith, r))
prim_first m d (tree.Assign op target value) r h = absurd (omega (arith, r))
prim_first m d (tree.Comma es) r h = absurd (omega (arith, r))

module _ (limit : ℕ) (m : Mode) (d : ℕ) (low : d ≤ limit) (v : Env) (c : CompleteEnv limit m d v) where
  -- tails

  dot_here : (t : Lexeme) (ts : List Lexeme) → is_any_word t.kind ≡ true → parser.dot_of (t ∷ ts) ≡ Read (tree.Dot t.text) [] ts
  unfolding parser.dot_of
  dot_here t ts h = ap (λ x. when x (step (ret (tree.Dot t.text))) bad (t ∷ ts)) h

  dot_complete : {F : Lexeme → Type 0} (w : List ℕ) → Completes limit (any_word [] w d ∷ []) F parser.dot_of (tree.Dot w)
  dot_complete w = c_at limit (λ t. ret (tree.Dot t.text)) low (λ t ts s. dot_here t ts s.kind) (λ t s. c_value (ap tree.Dot s.content) (c_ret limit (tree.Dot t.text)))

  index_complete : {F : Lexeme → Type 0} (e : Expr) → Proper m e → Completes limit (print m.look (suc d) e ++ mark_piece mark.CLOSE_BRACKET d ∷ []) F (parser.index_of v) (tree.Index e)
  unfolding parser.index_of
  index_complete e h = c_bind limit (λ x. bind (expect mark.CLOSE_BRACKET) (λ _. ret (tree.Index x))) (expr_complete limit m d low v c true e h refl) (lead_at (λ t s. at_close e t s.kind)) (c_made limit (λ _. tree.Index e) (c_mark limit mark.CLOSE_BRACKET d low refl))
    where
      at_close : (e : Expr) (t : Lexeme) → t.kind ≡ kind.Mark mark.CLOSE_BRACKET → continues_expr true (ending e) t ≡ false
      at_close e t k = ap (λ j. is_mark mark.COMMA j || parser_stop e t) k ∙ stop_bracket limit m d low v c true e t k
        where
          parser_stop : Expr → Lexeme → Bool
          parser_stop e t = continues_assign true (ending e) t

  call_complete : {F : Lexeme → Type 0} (es : Exprs) (comma : Bool) → ProperTail m (tree.Call es comma) → Completes limit (print_list m.look d es ++ (comma_piece comma d ++ mark_piece mark.CLOSE_PAREN d ∷ [])) F (parser.call_of v) (tree.Call es comma)
  unfolding parser.call_of
  call_complete es comma h = c_value (ap (λ x. tree.Call x comma) (of_list es)) (c_made limit (λ a. tree.Call (exprs_of a.items) a.comma) (args_complete limit m d low v c es comma h.1 h.0))

  -- the turns

  member_dot : (f : Parser (Turn Tail (Unit {0}))) (t : Lexeme) (ts : List Lexeme) → t.kind ≡ kind.Mark mark.DOT → parser.member_or v t f (t ∷ ts) ≡ bind parser.dot_of again ts
  member_dot f t ts e = at_kind (λ u. parser.member_or v u f (u ∷ ts) ≡ bind parser.dot_of again ts) (kind.Mark mark.DOT) t e refl

  member_bracket : (f : Parser (Turn Tail (Unit {0}))) (t : Lexeme) (ts : List Lexeme) → t.kind ≡ kind.Mark mark.OPEN_BRACKET → parser.member_or v t f (t ∷ ts) ≡ bind (parser.index_of v) again ts
  member_bracket f t ts e = at_kind (λ u. parser.member_or v u f (u ∷ ts) ≡ bind (parser.index_of v) again ts) (kind.Mark mark.OPEN_BRACKET) t e refl

  tail_paren : (t : Lexeme) (ts : List Lexeme) → t.kind ≡ kind.Mark mark.OPEN_PAREN → parser.tail_turn v (t ∷ ts) ≡ bind (parser.call_of v) again ts
  unfolding parser.tail_turn
  tail_paren t ts e = at_kind (λ u. parser.tail_turn v (u ∷ ts) ≡ bind (parser.call_of v) again ts) (kind.Mark mark.OPEN_PAREN) t e refl

  tail_dot : (t : Lexeme) (ts : List Lexeme) → t.kind ≡ kind.Mark mark.DOT → parser.tail_turn v (t ∷ ts) ≡ bind parser.dot_of again ts
  unfolding parser.tail_turn
  tail_dot t ts e = member_dot (when (is_mark mark.OPEN_PAREN t.kind) (step (bind (parser.call_of v) again)) (ret (Stop tt))) t ts e

  tail_bracket : (t : Lexeme) (ts : List Lexeme) → t.kind ≡ kind.Mark mark.OPEN_BRACKET → parser.tail_turn v (t ∷ ts) ≡ bind (parser.index_of v) again ts
  unfolding parser.tail_turn
  tail_bracket t ts e = member_bracket (when (is_mark mark.OPEN_PAREN t.kind) (step (bind (parser.call_of v) again)) (ret (Stop tt))) t ts e

  turn_dot : (t : Lexeme) (ts : List Lexeme) → t.kind ≡ kind.Mark mark.DOT → parser.member_turn v (t ∷ ts) ≡ bind parser.dot_of again ts
  unfolding parser.member_turn
  turn_dot t ts e = member_dot (ret (Stop tt)) t ts e

  turn_bracket : (t : Lexeme) (ts : List Lexeme) → t.kind ≡ kind.Mark mark.OPEN_BRACKET → parser.member_turn v (t ∷ ts) ≡ bind (parser.index_of v) again ts
  unfolding parser.member_turn
  turn_bracket t ts e = member_bracket (ret (Stop tt)) t ts e

  stops_by : (x y : Bool) (f g h : Parser (Turn Tail (Unit {0}))) (rest : List Lexeme) → x ≡ false → y ≡ false → when x f (when y g h) rest ≡ h rest
  stops_by true y f g h rest a b = absurd (true_false a)
  stops_by false true f g h rest a b = absurd (true_false b)
  stops_by false false f g h rest a b = refl

  member_stop : (rest : List Lexeme) → MemberStops (head_of rest) → bare (parser.member_turn v rest) ≡ Read (Stop tt) [] rest
  unfolding parser.member_turn
  member_stop rest g = ap bare (stops_by (is_mark mark.DOT (head_of rest).kind) (is_mark mark.OPEN_BRACKET (head_of rest).kind) (step (bind parser.dot_of again)) (step (bind (parser.index_of v) again)) (ret (Stop tt)) rest g.dot g.bracket)

  tail_stop : (rest : List Lexeme) → TailStops (head_of rest) → bare (parser.tail_turn v rest) ≡ Read (Stop tt) [] rest
  unfolding parser.tail_turn
  tail_stop rest g = ap bare (stops_by (is_mark mark.DOT (head_of rest).kind) (is_mark mark.OPEN_BRACKET (head_of rest).kind) (step (bind parser.dot_of again)) (step (bind (parser.index_of v) again)) (when (is_mark mark.OPEN_PAREN (head_of rest).kind) (step (bind (parser.call_of v) again)) (ret (Stop tt))) rest g.dot g.bracket
      ∙ ap (λ x. when x (step (bind (parser.call_of v) again)) (ret (Stop tt)) rest) g.paren)

  tail_each : (t : Tail) → ProperTail m t → Completes limit (print_tail m.look d t) Any (parser.tail_turn v) (Again t)
  tail_each (tree.Dot w) h = c_at limit (λ t. bind parser.dot_of again) low (λ t ts s. tail_dot t ts s.kind) (λ t s. c_made limit Again (dot_complete w))
  tail_each (tree.Index e) h = c_at limit (λ t. bind (parser.index_of v) again) low (λ t ts s. tail_bracket t ts s.kind) (λ t s. c_made limit Again (index_complete e h))
  tail_each (tree.Call es comma) h = c_at limit (λ t. bind (parser.call_of v) again) low (λ t ts s. tail_paren t ts s.kind) (λ t s. c_made limit Again (call_complete es comma h))

  abbrev Member : Tail → Type 0
  Member t = ProperTail m t × (is_member_tail t ≡ true)

  member_each : (t : Tail) → Member t → Completes limit (print_tail m.look d t) Any (parser.member_turn v) (Again t)
  member_each (tree.Dot w) h = c_at limit (λ t. bind parser.dot_of again) low (λ t ts s. turn_dot t ts s.kind) (λ t s. c_made limit Again (dot_complete w))
  member_each (tree.Index e) h = c_at limit (λ t. bind (parser.index_of v) again) low (λ t ts s. turn_bracket t ts s.kind) (λ t s. c_made limit Again (index_complete e h.0))
  member_each (tree.Call es comma) h = absurd (false_true h.1)

  tail_some : (t : Tail) (w : List Marked) (n : Lexeme) → Stands (print_tail m.look d t) w n → 0 < length (lexemes w)
  tail_some (tree.Dot x) [] n h = absurd h
  tail_some (tree.Index e) [] n h = absurd h
  tail_some (tree.Call es comma) [] n h = absurd h
  tail_some t (x ∷ w) n h = omega arith

  flat_tails : (ts : Tails) → flat (λ t. print_tail m.look d t) (tails_list ts) ++ [] ≡ print_tails m.look d ts
  flat_tails no_tails = refl
  flat_tails (more_tails t ts) = append_assoc (print_tail m.look d t) (flat (λ t. print_tail m.look d t) (tails_list ts)) [] ∙ ap (λ x. print_tail m.look d t ++ x) (flat_tails ts)

  all_tails : (ts : Tails) → ProperTails m ts → AllK (ProperTail m) (tails_list ts)
  all_tails no_tails h = tt
  all_tails (more_tails t ts) h = (h.0, all_tails ts h.1)

  all_members : (ts : Tails) → ProperTails m ts → are_member_tails ts ≡ true → AllK Member (tails_list ts)
  all_members no_tails h k = tt
  all_members (more_tails t ts) h k = ((h.0, and_left (is_member_tail t) (are_member_tails ts) k), all_members ts h.1 (and_right (is_member_tail t) (are_member_tails ts) k))

  tails_last : (xs : List Tail) → LastLeads limit (ProperTail m) (λ t. print_tail m.look d t) (λ t. Any) [] TailStops tt (parser.tail_turn v) tail_each (λ t k. tail_some t) (λ x y kx ky w n h. tt) (c_look limit tail_stop) xs
  tails_last [] = tt
  tails_last (x ∷ []) = lead_any
  tails_last (x ∷ y ∷ xs) = tails_last (y ∷ xs)

  members_last : (xs : List Tail) → LastLeads limit Member (λ t. print_tail m.look d t) (λ t. Any) [] MemberStops tt (parser.member_turn v) member_each (λ t k. tail_some t) (λ x y kx ky w n h. tt) (c_look limit member_stop) xs
  members_last [] = tt
  members_last (x ∷ []) = lead_any
  members_last (x ∷ y ∷ xs) = members_last (y ∷ xs)

  pub tails_complete : (ts : Tails) → ProperTails m ts → Completes limit (print_tails m.look d ts) TailStops (loop (parser.tail_turn v)) (record { items = tails_list ts; last = tt })
  tails_complete ts h = c_pieces limit (flat_tails ts) (c_loop limit (ProperTail m) (λ t. print_tail m.look d t) (λ t. Any) [] TailStops tt (parser.tail_turn v) tail_each (λ t k. tail_some t) (λ x y kx ky w n h. tt) (c_look limit tail_stop) (tails_list ts) (all_tails ts h) (tails_last (tails_list ts)))

  pub members_complete : (ts : Tails) → ProperTails m ts → are_member_tails ts ≡ true → Completes limit (print_tails m.look d ts) MemberStops (loop (parser.member_turn v)) (record { items = tails_list ts; last = tt })
  members_complete ts h k = c_pieces limit (flat_tails ts) (c_loop limit Member (λ t. print_tail m.look d t) (λ t. Any) [] MemberStops tt (parser.member_turn v) member_each (λ t k. tail_some t) (λ x y kx ky w n h. tt) (c_look limit member_stop) (tails_list ts) (all_members ts h k) (members_last (tails_list ts)))

  pub chain_as : (e : Expr) (ts : Tails) → HasTails ts → chain_case e (tails_list ts) ≡ tree.Chain e ts
  chain_as e no_tails h = absurd h
  chain_as e (more_tails t ts) h = ap (λ x. tree.Chain e (more_tails t x)) (tails_as ts)

  -- the head of a chain, or what stands alone

  module _ (prim : PrimComplete limit m d v) where
    new_first : (heads : Bool) (t : Lexeme) (ts : List Lexeme) → t.kind ≡ kind.Word word.NEW → parser.new_or_prim v heads (t ∷ ts) ≡ v.sub ANew (t ∷ ts)
    unfolding parser.new_or_prim
    new_first heads t ts e = at_kind (λ u. parser.new_or_prim v heads (u ∷ ts) ≡ v.sub ANew (u ∷ ts)) (kind.Word word.NEW) t e refl

    prim_here : (heads : Bool) (t : Lexeme) (ts : List Lexeme) → is_word word.NEW t.kind ≡ false → parser.new_or_prim v heads (t ∷ ts) ≡ parser.prim_of v heads (t ∷ ts)
    unfolding parser.new_or_prim
    prim_here heads t ts h = ap (λ x. when x (v.sub ANew) (parser.prim_of v heads) (t ∷ ts)) h

    pub prim_head : (heads : Bool) (e : Expr) → rank e ≤ 0 → Proper m e → Completes limit (print m.look d e) Any (parser.new_or_prim v heads) e
    prim_head heads e r h = c_front limit (parser.prim_of v heads) (λ x w rest q g. prim_here heads x.lexeme (lexemes w ++ rest) (not_true_of (opens_first no_new (print m.look d e) x w (head_of rest) (prim_first m d e r h) q))) (λ w n q. opens_some no_new (print m.look d e) w n (prim_first m d e r h) q) (prim heads e r h)
      where
        not_true_of : {b : Bool} → not b ≡ true → b ≡ false
        not_true_of {b = b} k = not_true b k

    pub new_head : (heads : Bool) (at : ℕ) (callee : Expr) (args : MaybeArgs) → Proper m (tree.New at callee args) → Completes limit (print m.look d (tree.New at callee args)) (NewFollow (tree.New at callee args)) (parser.new_or_prim v heads) (tree.New at callee args)
    new_head heads at callee args h = c_front limit (v.sub ANew) (λ x w rest q g. new_first heads x.lexeme (lexemes w ++ rest) q.0.kind) new_some (c.calls.new (tree.New at callee args) tt h)
      where
        new_some : (w : List Marked) (n : Lexeme) → Stands (print m.look d (tree.New at callee args)) w n → 0 < length (lexemes w)
        new_some [] n k = absurd k
        new_some (x ∷ w) n k = omega arith
