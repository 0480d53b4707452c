-- What completeness of the parts of expressions stands on: the calls that count for the depth, and braced bodies. Lists of
-- expressions and arguments.
use Rattle.std.proofs.Common.{◌≡◌, ℕ, suc, ◌≤◌, ◌<◌, List, [], ◌∷◌, ◌++◌, length, refl, sym, ap, ◌∙◌, arith, append_assoc, append-nil, Bool, true, false, not, ◌&&◌, ◌||◌, if◌then◌else◌, ◌⊎◌, inl, inr}
use Rattle.script_grammar.specs.declared.token.Kind.TheVariants as kind
use Rattle.script_grammar.specs.declared.token.mark.TheConstants as mark
use Rattle.script_grammar.specs.declared.token.FuncForm.{FuncForm}
use Rattle.script_grammar.specs.Lexeme.{Lexeme}
use Rattle.script_grammar.specs.Kinds.{is_mark, is_word, is_update, is_arrow_form}
use Rattle.script_grammar.specs.Tree.{Named, Expr, Exprs, no_exprs, more_exprs, MaybeExpr, no_expr, some_expr, MaybeArgs, Stmts, Body, Function, function}
use Rattle.script_grammar.specs.Tree as tree
use Rattle.script_grammar.specs.TreeLists.{Param, exprs_of, maybe_expr_of}
use Rattle.script_grammar.specs.Pieces.{Piece, Ending, Operand, mark_piece, name_piece, comma_piece}
use Rattle.script_grammar.specs.Endings.{ending, last_ending}
use Rattle.script_grammar.specs.Print.{print, print_list, print_more, print_body}
use Rattle.script_grammar.specs.Proper.{rank, function_rank, new_rank, are_member_tails, HasExprs, free_of_in, all_free, InIf, assign_rank}
use Rattle.grammar_parser_specs.specs.Parser.{Read, head_of, ret, bind, step, when, Turn, Again, Stop, loop, stopped, begun, led}
use Rattle.grammar_parser_specs.specs.Exprs as parser
use Rattle.grammar_parser_specs.specs.Exprs.{Env, Calls, AnAssign, APrefix, ANew, AParam, ARest, BodyParser, BodyRead, expect, begins_assign}
use Rattle.grammar_parser_specs.specs.Follow.{continues_assign, continues_expr}
use Rattle.grammar_parser_laws.proofs.Friendly.{first_of}
use Rattle.grammar_parser_laws.proofs.Tests.{and_left, and_right, neither_left}
use Rattle.grammar_parser_laws.proofs.Stands.{Marked, lexemes, Stands}
use Rattle.grammar_parser_laws.proofs.Complete.{bare, AllK, flat}
use Rattle.grammar_parser_laws.proofs.SoundParts.{print_param}
use Rattle.grammar_complete_laws.proofs.Completes.{Completes, Leads, Any, at_kind, lead_none, lead_at, lead_map, c_bind, c_made, c_at, c_front, c_look, c_pieces, c_mark}
use Rattle.grammar_complete_laws.proofs.CompleteLoops.{c_loop, LastLeads}
use Rattle.grammar_complete_laws.proofs.CompleteStmts.{c_value}
use Rattle.grammar_complete_laws.proofs.CompleteBinds.{not_mark}
use Rattle.grammar_complete_laws.proofs.Stops.{stop_close, stop_comma, stop_assign}
use Rattle.grammar_complete_laws.proofs.ExprFronts.{opens_append, opens_first, opens_some, expr_opens}
use Rattle.grammar_parser_laws.proofs.ProperIn.{Mode, Proper, ProperBody, ProperExprs, ProperMaybe}

-- what goes on with no chain of members and calls, and is no `++` or `--` on its line
pub record TailStops (t : Lexeme) : Type 0 where
  pub dot : is_mark mark.DOT t.kind ≡ false
  pub bracket : is_mark mark.OPEN_BRACKET t.kind ≡ false
  pub paren : is_mark mark.OPEN_PAREN t.kind ≡ false

-- what goes on with no UnaryExpression of this ending
pub record UnaryStops (e : Ending) (t : Lexeme) : Type 0 where
  pub tail : e ≡ Operand → TailStops t
  pub update : e ≡ Operand → (is_update t.kind && not t.after_line) ≡ false

-- an expression that begins with a prefix operator
abbrev pub IsPrefixed : Expr → Type 0
IsPrefixed (tree.Unary at op of is_word) = Unit {0}
IsPrefixed (tree.Update at op true of) = Unit {0}
IsPrefixed _ = ⊥

abbrev pub IsNew : Expr → Type 0
IsNew (tree.New at callee args) = Unit {0}
IsNew _ = ⊥

-- what may follow a `new`: with arguments anything, without them nothing that goes on with a chain
abbrev pub NewFollow : Expr → Lexeme → Type 0
NewFollow (tree.New at callee (tree.some_args es comma)) t = Unit {0}
NewFollow _ t = TailStops t

-- what may follow a parameter
abbrev pub ParamFollow : MaybeExpr → Lexeme → Type 0
ParamFollow no_expr t = is_mark mark.ASSIGN t.kind ≡ false
ParamFollow (some_expr e) t = continues_assign true (ending e) t ≡ false

pub record CompleteCalls (limit : ℕ) (m : Mode) (d : ℕ) (sub : Calls) : Type 0 where
  pub assign : (w : Bool) (e : Expr) → rank e ≤ assign_rank → Proper m e → InIf w (free_of_in e) → Completes limit (print m.look (suc d) e) (λ t. continues_assign w (ending e) t ≡ false) (sub (AnAssign w)) e
  pub prefix : (e : Expr) → IsPrefixed e → Proper m e → Completes limit (print m.look d e) (UnaryStops (ending e)) (sub APrefix) e
  pub new : (e : Expr) → IsNew e → Proper m e → Completes limit (print m.look d e) (NewFollow e) (sub ANew) e
  pub param : (p : Param) → p.rest ≡ false → ProperMaybe m (maybe_expr_of p.value) → Completes limit (print_param m.look (suc d) p) (ParamFollow (maybe_expr_of p.value)) (sub AParam) p
  pub rest : (n : Named) → Completes limit (mark_piece mark.ELLIPSIS (suc d) ∷ name_piece n (suc d) ∷ []) Any (sub ARest) n

pub record CompleteBody (limit : ℕ) (m : Mode) (d : ℕ) (body : BodyParser) : Type 0 where
  pub braced : (f : FuncForm) (start end : ℕ) (simple : Bool) (items : Stmts) → ProperBody m f start (tree.BracedBody items) → Completes limit (print_body m.look d end (tree.BracedBody items)) Any (body f start simple) (record { body = tree.BracedBody items; end = end })

pub record CompleteEnv (limit : ℕ) (m : Mode) (d : ℕ) (v : Env) : Type 0 where
  pub calls : CompleteCalls limit m d v.sub
  pub body : CompleteBody limit m d v.body

-- an expression with commas at the top, or one that binds as an AssignmentExpression

abbrev pub IsComma : Expr → Type 0
IsComma (tree.Comma es) = Unit {0}
IsComma _ = ⊥

le_if : (b : Bool) (x y n : ℕ) → x ≤ n → y ≤ n → (if b then x else y) ≤ n
le_if true x y n h k = h
le_if false x y n h k = k

func_low : (f : Function) → function_rank f ≤ 20
func_low (function g start end name ps comma bare body) = le_if (is_arrow_form g) 20 0 20 (omega arith) (omega arith)

new_low : (a : MaybeArgs) → new_rank a ≤ 20
new_low tree.no_args = omega arith
new_low (tree.some_args es comma) = omega arith

pub rank_low : (m : Mode) (e : Expr) → Proper m e → IsComma e ⊎ (rank e ≤ 20)
rank_low m (tree.This at) h = inr (omega arith)
rank_low m (tree.Name name) h = inr (omega arith)
rank_low m (tree.Null at) h = inr (omega arith)
rank_low m (tree.True at) h = inr (omega arith)
rank_low m (tree.False at) h = inr (omega arith)
rank_low m (tree.Number at value) h = inr (omega arith)
rank_low m (tree.Str at end w) h = inr (omega arith)
rank_low m (tree.Template at first parts) h = inr (omega arith)
rank_low m (tree.Array at is comma) h = inr (omega arith)
rank_low m (tree.Object at ps comma) h = inr (omega arith)
rank_low m (tree.Func at f) h = inr (func_low f)
rank_low m (tree.Paren at inner) h = inr (omega arith)
rank_low m (tree.Chain head tails) h = inr (le_if (are_member_tails tails) 2 4 20 (omega arith) (omega arith))
rank_low m (tree.New at callee args) h = inr (new_low args)
rank_low m (tree.Unary at op of is_word) h = inr (omega arith)
rank_low m (tree.Update at op prefix of) h = inr (omega arith)
rank_low m (tree.Binary first rest) h = inr (omega (arith, h.1))
rank_low m (tree.Cond test then_value else_value) h = inr (omega arith)
rank_low m (tree.Assign op target value) h = inr (omega arith)
rank_low m (tree.Comma es) h = inl tt

-- lists

abbrev pub list_of : Exprs → List Expr
list_of no_exprs = []
list_of (more_exprs e es) = e ∷ list_of es

pub of_list : (es : Exprs) → exprs_of (list_of es) ≡ es
of_list no_exprs = refl
of_list (more_exprs e es) = ap (more_exprs e) (of_list es)

pub in_left : (w a b : Bool) → (w || (a && b)) ≡ true → (w || a) ≡ true
in_left true a b h = refl
in_left false a b h = and_left a b h

pub in_right : (w a b : Bool) → (w || (a && b)) ≡ true → (w || b) ≡ true
in_right true a b h = refl
in_right false a b h = and_right a b h

module _ (limit : ℕ) (m : Mode) (d : ℕ) (low : d ≤ limit) (v : Env) (c : CompleteEnv limit m d v) where
  expr_some : (e : Expr) → Proper m e → (w : List Marked) (n : Lexeme) → Stands (print m.look (suc d) e) w n → 0 < length (lexemes w)
  expr_some e h w n k = opens_some begins_assign (print m.look (suc d) e) w n (expr_opens m (suc d) e h) k

  -- expressions after commas

  comma_here : (w : Bool) (t : Lexeme) (ts : List Lexeme) → t.kind ≡ kind.Mark mark.COMMA → parser.more_turn v w (t ∷ ts) ≡ bind (v.sub (AnAssign w)) (λ e. ret (Again e)) ts
  unfolding parser.more_turn
  comma_here w t ts e = at_kind (λ u. parser.more_turn v w (u ∷ ts) ≡ bind (v.sub (AnAssign w)) (λ e. ret (Again e)) ts) (kind.Mark mark.COMMA) t e refl

  no_comma : (w : Bool) (rest : List Lexeme) → is_mark mark.COMMA (head_of rest).kind ≡ false → bare (parser.more_turn v w rest) ≡ Read (Stop tt) [] rest
  unfolding parser.more_turn
  no_comma w rest h = ap (λ x. bare (when x (step (bind (v.sub (AnAssign w)) (λ e. ret (Again e)))) (ret (Stop tt)) rest)) h

  abbrev Item : Bool → Expr → Type 0
  Item w e = (rank e ≤ assign_rank) × Proper m e × InIf w (free_of_in e)

  abbrev item_pieces : Expr → List Piece
  item_pieces e = mark_piece mark.COMMA d ∷ print m.look (suc d) e

  abbrev ItemFollow : Bool → Expr → Lexeme → Type 0
  ItemFollow w e t = continues_assign w (ending e) t ≡ false

  item_complete : (w : Bool) (e : Expr) → Item w e → Completes limit (item_pieces e) (ItemFollow w e) (parser.more_turn v w) (Again e)
  item_complete w e k = c_at limit (λ t. bind (v.sub (AnAssign w)) (λ e. ret (Again e))) low (λ t ts s. comma_here w t ts s.kind) (λ t s. c_made limit Again (c.calls.assign w e k.0 k.1 k.2))

  item_some : (w : Bool) (e : Expr) → Item w e → (u : List Marked) (n : Lexeme) → Stands (item_pieces e) u n → 0 < length (lexemes u)
  item_some w e k [] n h = absurd h
  item_some w e k (x ∷ u) n h = omega arith

  item_link : (w : Bool) (e f : Expr) → Item w e → Item w f → (u : List Marked) (n : Lexeme) → Stands (item_pieces f) u n → ItemFollow w e (first_of (lexemes u) n)
  item_link w e f ke kf [] n h = absurd h
  item_link w e f ke kf (x ∷ u) n h = stop_comma w (ending e) x.lexeme h.0.kind

  flat_items : (es : Exprs) → flat item_pieces (list_of es) ++ [] ≡ print_more m.look d es
  flat_items no_exprs = refl
  flat_items (more_exprs e es) = append_assoc (item_pieces e) (flat item_pieces (list_of es)) [] ∙ ap (λ x. item_pieces e ++ x) (flat_items es)

  all_items : (w : Bool) (es : Exprs) → ProperExprs m es → InIf w (all_free es) → AllK (Item w) (list_of es)
  all_items w no_exprs h i = tt
  all_items w (more_exprs e es) h i = ((h.0, h.1, in_left w (free_of_in e) (all_free es) i), all_items w es h.2 (in_right w (free_of_in e) (all_free es) i))

  -- what may follow a list whose last ends so
  abbrev pub ListEnd : Bool → Ending → Lexeme → Type 0
  ListEnd w e t = continues_expr w e t ≡ false

  last_lead : (w : Bool) (e : Expr) (es : Exprs) → LastLeads limit (Item w) item_pieces (ItemFollow w) [] (ListEnd w (last_ending (ending e) es)) tt (parser.more_turn v w) (item_complete w) (item_some w) (item_link w) (c_look limit (λ rest g. no_comma w rest (neither_left (is_mark mark.COMMA (head_of rest).kind) (continues_assign w (last_ending (ending e) es) (head_of rest)) g))) (list_of es)
  last_lead w e no_exprs = tt
  last_lead w e (more_exprs f no_exprs) = lead_map (λ t g. stop_assign w (ending f) t g) lead_none
  last_lead w e (more_exprs f (more_exprs g es)) = last_lead w f (more_exprs g es)

  pub more_complete : (w : Bool) (e : Expr) (es : Exprs) → ProperExprs m es → InIf w (all_free es) → Completes limit (print_more m.look d es) (ListEnd w (last_ending (ending e) es)) (loop (parser.more_turn v w)) (record { items = list_of es; last = tt })
  more_complete w e es h i = c_pieces limit (flat_items es) (c_loop limit (Item w) item_pieces (ItemFollow w) [] (ListEnd w (last_ending (ending e) es)) tt (parser.more_turn v w) (item_complete w) (item_some w) (item_link w) (c_look limit (λ rest g. no_comma w rest (neither_left (is_mark mark.COMMA (head_of rest).kind) (continues_assign w (last_ending (ending e) es) (head_of rest)) g))) (list_of es) (all_items w es h i) (last_lead w e es))

  pub more_leads : (w : Bool) (e : Expr) (es : Exprs) → Leads (print_more m.look d es) (ListEnd w (last_ending (ending e) es)) (λ t. continues_assign w (ending e) t ≡ false)
  more_leads w e no_exprs = lead_map (λ t g. stop_assign w (ending e) t g) lead_none
  more_leads w e (more_exprs f es) = lead_at (λ t s. stop_comma w (ending e) t s.kind)

  one_complete : (w : Bool) (e : Expr) → rank e ≤ assign_rank → Proper m e → InIf w (free_of_in e) → Completes limit (print m.look (suc d) e) (ListEnd w (ending e)) (parser.expr_of v w) e
  unfolding parser.expr_of
  one_complete w e r h i = c_pieces limit (append-nil (print m.look (suc d) e)) (c_bind limit (λ x. bind (loop (parser.more_turn v w)) (λ n. ret (parser.comma_case x n.items))) (c.calls.assign w e r h i) (more_leads w e no_exprs) (c_made limit (λ n. parser.comma_case e n.items) (more_complete w e no_exprs tt (none_free w))))
    where
      none_free : (w : Bool) → (w || true) ≡ true
      none_free true = refl
      none_free false = refl

  comma_complete : (w : Bool) (e f : Expr) (es : Exprs) → ProperExprs m (more_exprs e (more_exprs f es)) → InIf w (all_free (more_exprs e (more_exprs f es))) → Completes limit (print_list m.look d (more_exprs e (more_exprs f es))) (ListEnd w (last_ending (ending e) (more_exprs f es))) (parser.expr_of v w) (tree.Comma (more_exprs e (more_exprs f es)))
  unfolding parser.expr_of
  comma_complete w e f es h i = c_value (ap (λ x. tree.Comma (more_exprs e (more_exprs f x))) (of_list es)) (c_bind limit (λ x. bind (loop (parser.more_turn v w)) (λ n. ret (parser.comma_case x n.items))) (c.calls.assign w e h.0 h.1 (in_left w (free_of_in e) (all_free (more_exprs f es)) i)) (more_leads w e (more_exprs f es)) (c_made limit (λ n. parser.comma_case e n.items) (more_complete w e (more_exprs f es) h.2 (in_right w (free_of_in e) (all_free (more_exprs f es)) i))))

  by_rank : (w : Bool) (e : Expr) → Proper m e → InIf w (free_of_in e) → IsComma e ⊎ (rank e ≤ 20) → Completes limit (print m.look (suc d) e) (ListEnd w (ending e)) (parser.expr_of v w) e
  by_rank w e h i (inr r) = one_complete w e r h i
  by_rank w (tree.Comma no_exprs) h i (inl k) = absurd h.0
  by_rank w (tree.Comma (more_exprs e no_exprs)) h i (inl k) = absurd h.0
  by_rank w (tree.Comma (more_exprs e (more_exprs f es))) h i (inl k) = comma_complete w e f es h.1 i
  by_rank w (tree.This at) h i (inl k) = absurd k
  by_rank w (tree.Name name) h i (inl k) = absurd k
  by_rank w (tree.Null at) h i (inl k) = absurd k
  by_rank w (tree.True at) h i (inl k) = absurd k
  by_rank w (tree.False at) h i (inl k) = absurd k
  by_rank w (tree.Number at value) h i (inl k) = absurd k
  by_rank w (tree.Str at end x) h i (inl k) = absurd k
  by_rank w (tree.Template at first parts) h i (inl k) = absurd k
  by_rank w (tree.Array at is comma) h i (inl k) = absurd k
  by_rank w (tree.Object at ps comma) h i (inl k) = absurd k
  by_rank w (tree.Func at f) h i (inl k) = absurd k
  by_rank w (tree.Paren at inner) h i (inl k) = absurd k
  by_rank w (tree.Chain head tails) h i (inl k) = absurd k
  by_rank w (tree.New at callee args) h i (inl k) = absurd k
  by_rank w (tree.Unary at op of is_word) h i (inl k) = absurd k
  by_rank w (tree.Update at op prefix of) h i (inl k) = absurd k
  by_rank w (tree.Binary first rest) h i (inl k) = absurd k
  by_rank w (tree.Cond test then_value else_value) h i (inl k) = absurd k
  by_rank w (tree.Assign op target value) h i (inl k) = absurd k

  -- an Expression
  pub expr_complete : (w : Bool) (e : Expr) → Proper m e → InIf w (free_of_in e) → Completes limit (print m.look (suc d) e) (ListEnd w (ending e)) (parser.expr_of v w) e
  expr_complete w e h i = by_rank w e h i (rank_low m e h)

  -- arguments, after the opening parenthesis

  abbrev ArgsFollow : Expr → Lexeme → Type 0
  ArgsFollow e t = continues_assign true (ending e) t ≡ false

  arg_pieces : Expr → List Piece
  arg_pieces e = mark_piece mark.COMMA d ∷ print m.look (suc d) e

  args_comma : (t : Lexeme) (ts : List Lexeme) → t.kind ≡ kind.Mark mark.COMMA → parser.args_turn v (t ∷ ts) ≡ parser.args_next v ts
  unfolding parser.args_turn
  args_comma t ts e = at_kind (λ u. parser.args_turn v (u ∷ ts) ≡ parser.args_next v ts) (kind.Mark mark.COMMA) t e refl

  next_item : (t : Lexeme) (ts : List Lexeme) → is_mark mark.CLOSE_PAREN t.kind ≡ false → parser.args_next v (t ∷ ts) ≡ bind (v.sub (AnAssign true)) (λ e. ret {A = Turn Expr Bool} (Again e)) (t ∷ ts)
  unfolding parser.args_next
  next_item t ts h = ap (λ x. when x (ret (Stop true)) (bind (v.sub (AnAssign true)) (λ e. ret (Again e))) (t ∷ ts)) h

  next_stops : (rest : List Lexeme) → (head_of rest).kind ≡ kind.Mark mark.CLOSE_PAREN → bare (parser.args_next v rest) ≡ Read (Stop true) [] rest
  unfolding parser.args_next
  next_stops rest h = ap (λ k. bare (when (is_mark mark.CLOSE_PAREN k) (ret (Stop true)) (bind (v.sub (AnAssign true)) (λ e. ret (Again e))) rest)) h

  args_stops : (rest : List Lexeme) → (head_of rest).kind ≡ kind.Mark mark.CLOSE_PAREN → bare (parser.args_turn v rest) ≡ Read (Stop false) [] rest
  unfolding parser.args_turn
  args_stops rest h = ap (λ k. bare (when (is_mark mark.COMMA k) (step (parser.args_next v)) (ret (Stop false)) rest)) h

  abbrev Arg : Expr → Type 0
  Arg e = (rank e ≤ assign_rank) × Proper m e

  true_in : (x : Bool) → InIf true x
  true_in x = refl

  not_close : (e : Expr) → Proper m e → (x : Marked) (w : List Marked) (n : Lexeme) → Stands (print m.look (suc d) e) (x ∷ w) n → is_mark mark.CLOSE_PAREN x.lexeme.kind ≡ false
  not_close e h x w n k = not_mark mark.CLOSE_PAREN refl x.lexeme.kind (opens_first begins_assign (print m.look (suc d) e) x w n (expr_opens m (suc d) e h) k)

  arg_complete : (e : Expr) → Arg e → Completes limit (mark_piece mark.COMMA d ∷ print m.look (suc d) e) (ArgsFollow e) (parser.args_turn v) (Again e)
  arg_complete e k = c_at limit (λ t. parser.args_next v) low (λ t ts s. args_comma t ts s.kind) (λ t s. c_front limit (bind (v.sub (AnAssign true)) (λ x. ret {A = Turn Expr Bool} (Again x))) (λ x w rest q g. next_item x.lexeme (lexemes w ++ rest) (not_close e k.1 x w (head_of rest) q)) (expr_some e k.1) (c_made limit Again (c.calls.assign true e k.0 k.1 (true_in (free_of_in e)))))

  arg_some : (e : Expr) → Arg e → (u : List Marked) (n : Lexeme) → Stands (mark_piece mark.COMMA d ∷ print m.look (suc d) e) u n → 0 < length (lexemes u)
  arg_some e k [] n h = absurd h
  arg_some e k (x ∷ u) n h = omega arith

  arg_link : (e f : Expr) → Arg e → Arg f → (u : List Marked) (n : Lexeme) → Stands (mark_piece mark.COMMA d ∷ print m.look (suc d) f) u n → ArgsFollow e (first_of (lexemes u) n)
  arg_link e f ke kf [] n h = absurd h
  arg_link e f ke kf (x ∷ u) n h = stop_comma true (ending e) x.lexeme h.0.kind

  abbrev Closes : Lexeme → Type 0
  Closes t = t.kind ≡ kind.Mark mark.CLOSE_PAREN

  args_stop : (comma : Bool) → Completes limit (comma_piece comma d) Closes (parser.args_turn v) (Stop comma)
  args_stop true = c_at limit (λ t. parser.args_next v) low (λ t ts s. args_comma t ts s.kind) (λ t s. c_look limit next_stops)
  args_stop false = c_look limit args_stops

  comma_leads : (comma : Bool) (e : Expr) → Leads (comma_piece comma d) Closes (ArgsFollow e)
  comma_leads true e = lead_at (λ t s. stop_comma true (ending e) t s.kind)
  comma_leads false e = lead_map (λ t h. stop_assign true (ending e) t (stop_close true (ending e) t h)) lead_none

  all_args : (es : Exprs) → ProperExprs m es → AllK Arg (list_of es)
  all_args no_exprs h = tt
  all_args (more_exprs e es) h = ((h.0, h.1), all_args es h.2)

  args_last : (comma : Bool) (es : List Expr) → LastLeads limit Arg (λ e. mark_piece mark.COMMA d ∷ print m.look (suc d) e) ArgsFollow (comma_piece comma d) Closes comma (parser.args_turn v) arg_complete arg_some arg_link (args_stop comma) es
  args_last comma [] = tt
  args_last comma (e ∷ []) = comma_leads comma e
  args_last comma (e ∷ f ∷ es) = args_last comma (f ∷ es)

  flat_args : (es : Exprs) (comma : Bool) → flat (λ e. mark_piece mark.COMMA d ∷ print m.look (suc d) e) (list_of es) ++ comma_piece comma d ≡ print_more m.look d es ++ comma_piece comma d
  flat_args no_exprs comma = refl
  flat_args (more_exprs e es) comma = append_assoc (mark_piece mark.COMMA d ∷ print m.look (suc d) e) (flat (λ e. mark_piece mark.COMMA d ∷ print m.look (suc d) e) (list_of es)) (comma_piece comma d) ∙ ap (λ x. (mark_piece mark.COMMA d ∷ print m.look (suc d) e) ++ x) (flat_args es comma) ∙ sym (append_assoc (mark_piece mark.COMMA d ∷ print m.look (suc d) e) (print_more m.look d es) (comma_piece comma d))

  args_loop : (es : Exprs) (comma : Bool) → ProperExprs m es → Completes limit (print_more m.look d es ++ comma_piece comma d) Closes (loop (parser.args_turn v)) (record { items = list_of es; last = comma })
  args_loop es comma h = c_pieces limit (flat_args es comma) (c_loop limit Arg (λ e. mark_piece mark.COMMA d ∷ print m.look (suc d) e) ArgsFollow (comma_piece comma d) Closes comma (parser.args_turn v) arg_complete arg_some arg_link (args_stop comma) (list_of es) (all_args es h) (args_last comma (list_of es)))

  more_close : (rest : List Lexeme) → Closes (head_of rest) → bare (parser.more_args v rest) ≡ Read (stopped false) [] rest
  unfolding parser.more_args
  more_close rest h = ap (λ k. bare (when (is_mark mark.CLOSE_PAREN k) (ret (stopped false)) (bind (v.sub (AnAssign true)) (led (parser.args_turn v))) rest)) h

  more_first : (t : Lexeme) (ts : List Lexeme) → is_mark mark.CLOSE_PAREN t.kind ≡ false → parser.more_args v (t ∷ ts) ≡ bind (v.sub (AnAssign true)) (led (parser.args_turn v)) (t ∷ ts)
  unfolding parser.more_args
  more_first t ts h = ap (λ x. when x (ret (stopped false)) (bind (v.sub (AnAssign true)) (led (parser.args_turn v))) (t ∷ ts)) h

  args_lead : (e : Expr) (es : Exprs) (comma : Bool) → Leads (print_more m.look d es ++ comma_piece comma d) Closes (ArgsFollow e)
  args_lead e no_exprs comma = comma_leads comma e
  args_lead e (more_exprs f es) comma = lead_at (λ t s. stop_comma true (ending e) t s.kind)

  many_args : (es : Exprs) (comma : Bool) → ProperExprs m es → (comma ≡ true → HasExprs es) → Completes limit (print_list m.look d es ++ comma_piece comma d) Closes (parser.more_args v) (record { items = list_of es; last = comma })
  many_args no_exprs true h k = absurd (k refl)
  many_args no_exprs false h k = c_look limit more_close
  many_args (more_exprs e es) comma h k = c_pieces limit (sym (append_assoc (print m.look (suc d) e) (print_more m.look d es) (comma_piece comma d))) (c_front limit (bind (v.sub (AnAssign true)) (led (parser.args_turn v)))
      (λ x w rest q g. more_first x.lexeme (lexemes w ++ rest) (not_mark mark.CLOSE_PAREN refl x.lexeme.kind (opens_first begins_assign (print m.look (suc d) e ++ (print_more m.look d es ++ comma_piece comma d)) x w (head_of rest) (opens_append begins_assign (print m.look (suc d) e) (print_more m.look d es ++ comma_piece comma d) (expr_opens m (suc d) e h.1)) q)))
      (λ w n q. opens_some begins_assign (print m.look (suc d) e ++ (print_more m.look d es ++ comma_piece comma d)) w n (opens_append begins_assign (print m.look (suc d) e) (print_more m.look d es ++ comma_piece comma d) (expr_opens m (suc d) e h.1)) q)
      (c_bind limit (led (parser.args_turn v)) (c.calls.assign true e h.0 h.1 (true_in (free_of_in e))) (args_lead e es comma) (c_made limit (begun e) (args_loop es comma h.2))))

  pub args_complete : {F : Lexeme → Type 0} (es : Exprs) (comma : Bool) → ProperExprs m es → (comma ≡ true → HasExprs es) → Completes limit (print_list m.look d es ++ (comma_piece comma d ++ mark_piece mark.CLOSE_PAREN d ∷ [])) F (parser.args_of v) (record { items = list_of es; comma = comma })
  unfolding parser.args_of
  args_complete es comma h k = c_pieces limit (append_assoc (print_list m.look d es) (comma_piece comma d) (mark_piece mark.CLOSE_PAREN d ∷ [])) (c_bind limit (λ x. bind (expect mark.CLOSE_PAREN) (λ _. ret (record { items = x.items; comma = x.last }))) (many_args es comma h k) (lead_at (λ t s. s.kind)) (c_made limit (λ _. record { items = list_of es; comma = comma }) (c_mark limit mark.CLOSE_PAREN d low refl)))
