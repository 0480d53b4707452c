-- Completeness of bindings and of `for`: at their lexemes they are read.
use Rattle.std.proofs.Common.{◌≡◌, ℕ, suc, ◌≤◌, ◌<◌, List, [], ◌∷◌, ◌++◌, length, refl, sym, ap, ◌∙◌, subst, arith, append_assoc, Bool, true, false, not, ◌&&◌, ◌||◌, Option, Some, None, nat_le}
use Rattle.std.proofs.lemmas.Bool.{le-leb}
use Rattle.script_grammar.specs.declared.token.Kind.{Kind}
use Rattle.script_grammar.specs.declared.token.Kind.TheVariants as kind
use Rattle.script_grammar.specs.declared.token.mark.TheConstants as mark
use Rattle.script_grammar.specs.declared.token.word.TheConstants as word
use Rattle.script_grammar.specs.declared.token.FuncForm.TheVariants as form
use Rattle.script_grammar.specs.declared.token.Decl.{Decl}
use Rattle.script_grammar.specs.declared.token.Decl.TheVariants as decl
use Rattle.script_grammar.specs.Lexeme.{Lexeme}
use Rattle.script_grammar.specs.Kinds.{is_mark, is_word, decl_word}
use Rattle.script_grammar.specs.Tree.{Named, Expr, Stmt, Stmts, no_stmts, more_stmts, MaybeStmt, no_stmt, some_stmt, MaybeExpr, no_expr, some_expr, Binds, no_binds, more_binds, Function, function}
use Rattle.script_grammar.specs.Tree as tree
use Rattle.script_grammar.specs.TreeLists.{Bind, maybe_expr_of, binds_of}
use Rattle.script_grammar.specs.Pieces.{Piece, Ending, BareBinding, may_omit, mark_piece, word_piece, name_piece, semi_piece}
use Rattle.script_grammar.specs.Endings.{ending, binds_ending, bind_ending}
use Rattle.script_grammar.specs.Print.{print, print_stmt, print_maybe, print_binds, print_more_binds, print_initializer}
use Rattle.script_grammar.specs.Proper.{rank, HasBinds, is_statement, free_of_in, maybe_free, binds_free, InIf}
use Rattle.grammar_parser_specs.specs.Parser.{Read, head_of, ret, bind, step, when, Again, Stop, begun, led}
use Rattle.grammar_parser_specs.specs.Exprs.{Env, AnAssign, expect, expr_of, again, begins_assign}
use Rattle.grammar_parser_specs.specs.Stmts as parser
use Rattle.grammar_parser_specs.specs.Stmts.{Place, AnItem, AStmt, StmtCalls, Block, is_item, is_inside, bound, ends_items}
use Rattle.grammar_parser_specs.specs.Follow.{continues_assign, continues_expr}
use Rattle.grammar_parser_laws.proofs.Friendly.{first_of}
use Rattle.grammar_parser_laws.proofs.Tests.{false_true, true_false, and_left, and_right, not_true, neither_left, neither_right, mark_known, word_known, end_known}
use Rattle.grammar_parser_laws.proofs.Stands.{Marked, lexemes, Stands}
use Rattle.grammar_parser_laws.proofs.Complete.{bare, AllK, flat}
use Rattle.grammar_complete_laws.proofs.Completes.{Completes, Leads, of_kind, at_kind, lead_none, lead_at, lead_any, lead_map, c_bind, c_made, c_at, c_front, c_look, c_weaken, c_pieces, c_mark}
use Rattle.grammar_complete_laws.proofs.CompleteLoops.{c_loop, LastLeads}
use Rattle.grammar_complete_laws.proofs.Stops.{stop_close, stop_semi, stop_in, stop_comma, stop_assign, omit_stops, ends_expr}
use Rattle.grammar_complete_laws.proofs.ExprFronts.{Opens, opens_append, opens_first, opens_some, expr_opens}
use Rattle.script_grammar.specs.Tree.{Init, Each, ShortBody, BracedBody}
use Rattle.script_grammar.specs.Print.{print_init, print_each}
use Rattle.script_grammar.specs.Proper.{left_rank, function_free}
use Rattle.grammar_parser_specs.specs.Exprs.{begins_mark, begins_word}
use Rattle.std.proofs.Common.{inl, inr, ◌⊎◌}
use Rattle.grammar_parser_laws.proofs.Tests.{bool_cases}
use Rattle.grammar_complete_laws.proofs.Stops.{omit_cases}
use Rattle.grammar_complete_laws.proofs.CompleteLoops.{LastLeads}
use Rattle.grammar_complete_laws.proofs.CompleteStmts.{Follows, CompleteUses, CompleteBlock, c_value, follows_as, semi_complete, semi_leads, name_complete}
use Rattle.grammar_parser_laws.proofs.ProperIn.{Mode, Proper, ProperBinds, ProperMaybe, ProperOption, ProperStmt}

abbrev pub option_of : MaybeExpr → Option Expr
option_of no_expr = None
option_of (some_expr e) = Some e

of_option : (o : Option Expr) → option_of (maybe_expr_of o) ≡ o
of_option None = refl
of_option (Some e) = refl

abbrev pub binds_list : Binds → List Bind
binds_list no_binds = []
binds_list (more_binds n value bs) = bound n (option_of value) ∷ binds_list bs

pub of_maybe : (o : MaybeExpr) → maybe_expr_of (option_of o) ≡ o
of_maybe no_expr = refl
of_maybe (some_expr e) = refl

pub of_binds : (bs : Binds) → binds_of (binds_list bs) ≡ bs
of_binds no_binds = refl
of_binds (more_binds n value bs) = ap (λ x. more_binds n x (binds_of (binds_list bs))) (of_maybe value) ∙ ap (more_binds n value) (of_binds bs)

-- the initializer of the last binding
abbrev pub last_value : MaybeExpr → Binds → MaybeExpr
last_value o no_binds = o
last_value o (more_binds n value bs) = last_value value bs

last_ending : (o : MaybeExpr) (bs : Binds) → binds_ending (bind_ending o) bs ≡ bind_ending (last_value o bs)
last_ending o no_binds = refl
last_ending o (more_binds n value bs) = last_ending value bs

-- what may follow a binding with this initializer, and what may follow the last
abbrev pub BindFollow : Bool → MaybeExpr → Lexeme → Type 0
BindFollow w no_expr t = is_mark mark.ASSIGN t.kind ≡ false
BindFollow w (some_expr e) t = continues_assign w (ending e) t ≡ false

pub record BindsEnd (w : Bool) (o : MaybeExpr) (t : Lexeme) : Type 0 where
  pub comma : is_mark mark.COMMA t.kind ≡ false
  pub follow : BindFollow w o t

pub semi_ends : (w : Bool) (o : MaybeExpr) (t : Lexeme) → t.kind ≡ kind.Mark mark.SEMICOLON → BindsEnd w o t
semi_ends w o t e = record { comma = ap (is_mark mark.COMMA) e; follow = by o }
  where
    by : (o : MaybeExpr) → BindFollow w o t
    by no_expr = ap (is_mark mark.ASSIGN) e
    by (some_expr x) = stop_assign w (ending x) t (stop_semi w (ending x) t e)

bare_ends : (t : Lexeme) → may_omit BareBinding t ≡ true → BindsEnd true no_expr t
bare_ends t h = omit_cases BareBinding t h
    (λ k. let e = mark_known mark.CLOSE_BRACE t.kind k in record { comma = ap (is_mark mark.COMMA) e; follow = ap (is_mark mark.ASSIGN) e })
    (λ k. let e = end_known t.kind k in record { comma = ap (is_mark mark.COMMA) e; follow = ap (is_mark mark.ASSIGN) e })
    (λ k. absurd (false_true k))
    (λ l k. record { comma = neither_right (is_mark mark.ASSIGN t.kind) (is_mark mark.COMMA t.kind) k; follow = neither_left (is_mark mark.ASSIGN t.kind) (is_mark mark.COMMA t.kind) k })

gap_ends : (o : MaybeExpr) (t : Lexeme) → may_omit (bind_ending o) t ≡ true → BindsEnd true o t
gap_ends no_expr t h = bare_ends t h
gap_ends (some_expr e) t h =
    let s = omit_stops (ending e) (ends_expr e) t h in
    record { comma = neither_left (is_mark mark.COMMA t.kind) (continues_assign true (ending e) t) s; follow = stop_assign true (ending e) t s }

comma_follows : (w : Bool) (o : MaybeExpr) (t : Lexeme) → t.kind ≡ kind.Mark mark.COMMA → BindFollow w o t
comma_follows w no_expr t e = ap (is_mark mark.ASSIGN) e
comma_follows w (some_expr x) t e = stop_comma w (ending x) t e

module _ (limit : ℕ) (m : Mode) (d : ℕ) (low : d ≤ limit) (v : Env) (c : CompleteUses limit m d v) where
  value_here : (w : Bool) (t : Lexeme) (ts : List Lexeme) → t.kind ≡ kind.Mark mark.ASSIGN → parser.value_of v w (t ∷ ts) ≡ bind (v.sub (AnAssign w)) (λ e. ret (Some e)) ts
  unfolding parser.value_of
  value_here w t ts e = at_kind (λ u. parser.value_of v w (u ∷ ts) ≡ bind (v.sub (AnAssign w)) (λ e. ret (Some e)) ts) (kind.Mark mark.ASSIGN) t e refl

  no_value : (w : Bool) (rest : List Lexeme) → is_mark mark.ASSIGN (head_of rest).kind ≡ false → bare (parser.value_of v w rest) ≡ Read None [] rest
  unfolding parser.value_of
  no_value w rest h = ap (λ x. bare (when x (step (bind (v.sub (AnAssign w)) (λ e. ret (Some e)))) (ret None) rest)) h

  value_complete : (w : Bool) (o : MaybeExpr) → ProperMaybe m o → InIf w (maybe_free o) → Completes limit (print_initializer m.look d o) (BindFollow w o) (parser.value_of v w) (option_of o)
  value_complete w no_expr h i = c_look limit (no_value w)
  value_complete w (some_expr e) h i = c_at limit (λ t. bind (v.sub (AnAssign w)) (λ e. ret (Some e))) low (λ t ts s. value_here w t ts s.kind) (λ t s. c_made limit Some (c.assign w e h.0 h.1 i))

  bind_from_complete : (w : Bool) (n : Named) (o : MaybeExpr) → ProperMaybe m o → InIf w (maybe_free o) → Completes limit (print_initializer m.look d o) (BindFollow w o) (parser.bind_from v w n) (bound n (option_of o))
  unfolding parser.bind_from
  bind_from_complete w n o h i = c_made limit (bound n) (value_complete w o h i)

  abbrev Item : Bool → Bind → Type 0
  Item w x = ProperMaybe m (maybe_expr_of x.value) × InIf w (maybe_free (maybe_expr_of x.value))

  abbrev item_pieces : Bind → List Piece
  item_pieces x = mark_piece mark.COMMA d ∷ name_piece x.name d ∷ print_initializer m.look d (maybe_expr_of x.value)

  abbrev ItemFollow : Bool → Bind → Lexeme → Type 0
  ItemFollow w x t = BindFollow w (maybe_expr_of x.value) t

  bind_of_complete : (w : Bool) (x : Bind) → Item w x → Completes limit (name_piece x.name d ∷ print_initializer m.look d (maybe_expr_of x.value)) (ItemFollow w x) (parser.bind_of v w) x
  unfolding parser.bind_of
  bind_of_complete w x k = c_value (ap (bound x.name) (of_option x.value)) (c_bind limit (parser.bind_from v w) (name_complete limit m d low x.name) lead_any (bind_from_complete w x.name (maybe_expr_of x.value) k.0 k.1))

  comma_here : (w : Bool) (t : Lexeme) (ts : List Lexeme) → t.kind ≡ kind.Mark mark.COMMA → parser.bind_turn v w (t ∷ ts) ≡ bind (parser.bind_of v w) (again {A = Bind} {B = Unit {0}}) ts
  unfolding parser.bind_turn
  comma_here w t ts e = at_kind (λ u. parser.bind_turn v w (u ∷ ts) ≡ bind (parser.bind_of v w) (again {A = Bind} {B = Unit {0}}) ts) (kind.Mark mark.COMMA) t e refl

  no_comma : (w : Bool) (rest : List Lexeme) → is_mark mark.COMMA (head_of rest).kind ≡ false → bare (parser.bind_turn v w rest) ≡ Read (Stop tt) [] rest
  unfolding parser.bind_turn
  no_comma w rest h = ap (λ x. bare (when x (step (bind (parser.bind_of v w) again)) (ret (Stop tt)) rest)) h

  item_complete : (w : Bool) (x : Bind) → Item w x → Completes limit (item_pieces x) (ItemFollow w x) (parser.bind_turn v w) (Again x)
  item_complete w x k = c_at limit (λ t. bind (parser.bind_of v w) (again {A = Bind} {B = Unit {0}})) low (λ t ts s. comma_here w t ts s.kind) (λ t s. c_made limit Again (bind_of_complete w x k))

  item_some : (w : Bool) (x : Bind) → Item w x → (u : List Marked) (n : Lexeme) → Stands (item_pieces x) u n → 0 < length (lexemes u)
  item_some w x k [] n h = absurd h
  item_some w x k (y ∷ u) n h = omega arith

  item_link : (w : Bool) (x y : Bind) → Item w x → Item w y → (u : List Marked) (n : Lexeme) → Stands (item_pieces y) u n → ItemFollow w x (first_of (lexemes u) n)
  item_link w x y kx ky [] n h = absurd h
  item_link w x y kx ky (z ∷ u) n h = comma_follows w (maybe_expr_of x.value) z.lexeme h.0.kind

  flat_binds : (bs : Binds) → flat item_pieces (binds_list bs) ++ [] ≡ print_more_binds m.look d bs
  flat_binds no_binds = refl
  flat_binds (more_binds n no_expr bs) = ap (λ x. mark_piece mark.COMMA d ∷ name_piece n d ∷ x) (flat_binds bs)
  flat_binds (more_binds n (some_expr e) bs) = ap (λ x. mark_piece mark.COMMA d ∷ name_piece n d ∷ x) (append_assoc (mark_piece mark.ASSIGN d ∷ print m.look (suc d) e) (flat item_pieces (binds_list bs)) [] ∙ ap (λ x. (mark_piece mark.ASSIGN d ∷ print m.look (suc d) e) ++ x) (flat_binds bs))

  all_items : (w : Bool) (bs : Binds) → ProperBinds m bs → InIf w (binds_free bs) → AllK (Item w) (binds_list bs)
  all_items w no_binds h i = tt
  all_items w (more_binds n value bs) h i = ((subst (ProperMaybe m) (sym (of_maybe value)) h.0, subst (λ x. InIf w (maybe_free x)) (sym (of_maybe value)) (in_left w (maybe_free value) (binds_free bs) i)), all_items w bs h.1 (in_right w (maybe_free value) (binds_free bs) i))
    where
      in_left : (w a b : Bool) → (w || (a && b)) ≡ true → (w || a) ≡ true
      in_left true a b h = refl
      in_left false a b h = and_left a b h

      in_right : (w a b : Bool) → (w || (a && b)) ≡ true → (w || b) ≡ true
      in_right true a b h = refl
      in_right false a b h = and_right a b h

  last_lead : (w : Bool) (n : Named) (o : MaybeExpr) (bs : Binds) → LastLeads limit (Item w) item_pieces (ItemFollow w) [] (BindsEnd w (last_value o bs)) tt (parser.bind_turn v w) (item_complete w) (item_some w) (item_link w) (c_look limit (λ rest g. no_comma w rest g.comma)) (binds_list bs)
  last_lead w n o no_binds = tt
  last_lead w n o (more_binds n2 value no_binds) = lead_map (λ t g. subst (λ x. BindFollow w x t) (sym (of_maybe value)) g.follow) lead_none
  last_lead w n o (more_binds n2 value (more_binds n3 value3 bs)) = last_lead w n2 value (more_binds n3 value3 bs)

  more_leads : (w : Bool) (o : MaybeExpr) (bs : Binds) → Leads (print_more_binds m.look d bs) (BindsEnd w (last_value o bs)) (BindFollow w o)
  more_leads w o no_binds = lead_map (λ t g. g.follow) lead_none
  more_leads w o (more_binds n value bs) = lead_at (λ t s. comma_follows w o t s.kind)

  -- after the first name
  pub binds_complete : (w : Bool) (n : Named) (o : MaybeExpr) (bs : Binds) → ProperBinds m (more_binds n o bs) → InIf w (binds_free (more_binds n o bs)) → Completes limit (print_initializer m.look d o ++ print_more_binds m.look d bs) (BindsEnd w (last_value o bs)) (parser.binds_from v w n) (record { items = binds_list (more_binds n o bs); last = tt })
  unfolding parser.binds_from
  binds_complete w n o bs h i = c_bind limit (led (parser.bind_turn v w)) (bind_from_complete w n o h.0 (in_left w (maybe_free o) (binds_free bs) i)) (more_leads w o bs)
      (c_made limit (begun (bound n (option_of o))) (c_pieces limit (flat_binds bs) (c_loop limit (Item w) item_pieces (ItemFollow w) [] (BindsEnd w (last_value o bs)) tt (parser.bind_turn v w) (item_complete w) (item_some w) (item_link w) (c_look limit (λ rest g. no_comma w rest g.comma)) (binds_list bs) (all_items w bs h.1 (in_right w (maybe_free o) (binds_free bs) i)) (last_lead w n o bs))))
    where
      in_left : (w a b : Bool) → (w || (a && b)) ≡ true → (w || a) ≡ true
      in_left true a b h = refl
      in_left false a b h = and_left a b h

      in_right : (w a b : Bool) → (w || (a && b)) ≡ true → (w || b) ≡ true
      in_right true a b h = refl
      in_right false a b h = and_right a b h

  case_complete : {F : Lexeme → Type 0} (k : Decl) (xs : List Bind) (bs : Binds) (semi : Bool) → binds_of xs ≡ bs → Completes limit (semi_piece (binds_ending BareBinding bs) semi d) F (parser.binding_case k xs) (tree.Binding k bs semi)
  case_complete {F = F} k xs bs semi e = subst (λ x. Completes limit (semi_piece (binds_ending BareBinding x) semi d) F (parser.binding_case k xs) (tree.Binding k x semi)) e (c_made limit (tree.Binding k (binds_of xs)) (semi_complete limit m d low (binds_ending BareBinding (binds_of xs)) semi))

  true_if : (x : Bool) → InIf true x
  true_if x = refl

  -- after the word
  pub binding_complete : {F : Lexeme → Type 0} (k : Decl) (bs : Binds) (semi : Bool) → HasBinds bs → ProperBinds m bs → Completes limit (print_binds m.look d bs ++ semi_piece (binds_ending BareBinding bs) semi d) F (parser.binding_of v k) (tree.Binding k bs semi)
  unfolding parser.binding_of
  binding_complete k no_binds semi h p = absurd h
  binding_complete {F = F} k (more_binds n o bs) semi h p = c_bind limit (λ x. bind (parser.binds_from v true x) (λ y. parser.binding_case k y.items)) (name_complete limit m d low n) lead_any
      (c_bind limit (λ y. parser.binding_case k y.items) (binds_complete true n o bs p (true_if (binds_free (more_binds n o bs))))
      (subst (λ e. Leads (semi_piece e semi d) F (BindsEnd true (last_value o bs))) (sym (last_ending o bs)) (semi_leads limit m d low (bind_ending (last_value o bs)) semi (λ t e. semi_ends true (last_value o bs) t e) (λ t e. gap_ends (last_value o bs) t e)))
      (case_complete k (binds_list (more_binds n o bs)) (more_binds n o bs) semi (of_binds (more_binds n o bs))))

-- `for`

pub not_mark : (j : ℕ) → begins_mark j ≡ false → (k : Kind) → begins_assign k ≡ true → is_mark j k ≡ false
not_mark j h k o = by (bool_cases (is_mark j k))
  where
    by : (is_mark j k ≡ true) ⊎ (is_mark j k ≡ false) → is_mark j k ≡ false
    by (inl e) = absurd (true_false (sym o ∙ ap begins_assign (mark_known j k e) ∙ h))
    by (inr e) = e

pub not_word : (j : ℕ) → begins_word j ≡ false → (k : Kind) → begins_assign k ≡ true → is_word j k ≡ false
not_word j h k o = by (bool_cases (is_word j k))
  where
    by : (is_word j k ≡ true) ⊎ (is_word j k ≡ false) → is_word j k ≡ false
    by (inl e) = absurd (true_false (sym o ∙ ap begins_assign (word_known j k e) ∙ h))
    by (inr e) = e

-- a LeftHandSideExpression has no `in` outside brackets
left_function : (m : Mode) (at : ℕ) (f : Function) → Proper m (tree.Func at f) → rank (tree.Func at f) ≤ left_rank → function_free f ≡ true
left_function m at (function g start end name ps comma bare (BracedBody items)) h r = refl
left_function m at (function form.Arrow start end name ps comma bare (ShortBody value)) h r = absurd (omega (arith, r))
left_function m at (function form.Function start end name ps comma bare (ShortBody value)) h r = absurd (false_true h.1.4.0)
left_function m at (function form.Script start end name ps comma bare (ShortBody value)) h r = absurd h.0
left_function m at (function form.Method start end name ps comma bare (ShortBody value)) h r = absurd h.0
left_function m at (function form.Getter start end name ps comma bare (ShortBody value)) h r = absurd h.0
left_function m at (function form.Setter start end name ps comma bare (ShortBody value)) h r = absurd h.0

left_free : (m : Mode) (e : Expr) → Proper m e → rank e ≤ left_rank → free_of_in e ≡ true
left_free m (tree.This at) h r = refl
left_free m (tree.Name name) h r = refl
left_free m (tree.Null at) h r = refl
left_free m (tree.True at) h r = refl
left_free m (tree.False at) h r = refl
left_free m (tree.Number at value) h r = refl
left_free m (tree.Str at end w) h r = refl
left_free m (tree.Template at first parts) h r = refl
left_free m (tree.Array at is comma) h r = refl
left_free m (tree.Object at ps comma) h r = refl
left_free m (tree.Func at f) h r = left_function m at f h r
left_free m (tree.Paren at inner) h r = refl
left_free m (tree.Chain head tails) h r = refl
left_free m (tree.New at callee args) h r = refl
left_free m (tree.Unary at op of is_word) h r = absurd (omega (arith, r))
left_free m (tree.Update at op prefix of) h r = absurd (omega (arith, r))
left_free m (tree.Binary first rest) h r = absurd (omega (arith, r))
left_free m (tree.Cond test then_value else_value) h r = absurd (omega (arith, r))
left_free m (tree.Assign op target value) h r = absurd (omega (arith, r))
left_free m (tree.Comma es) h r = absurd (omega (arith, r))

module _ (limit : ℕ) (m : Mode) (d : ℕ) (low : d ≤ limit) (b : Block) (c : CompleteBlock limit m d b) (i : Bool) where
  body : (s : Stmt) → ProperStmt m i s → is_statement s ≡ true → Completes limit (print_stmt m.look (suc d) s) (Follows s) (b.stmt (AStmt i)) s
  body s h k = c.stmts.at (AStmt i) s h (λ _. k)

  -- an Expression or none, before this mark
  option_none : (j : ℕ) (rest : List Lexeme) → is_mark j (head_of rest).kind ≡ true → bare (parser.option_of b.exprs j rest) ≡ Read None [] rest
  unfolding parser.option_of
  option_none j rest h = ap (λ x. bare (when x (ret None) (bind (expr_of b.exprs true) (λ e. ret (Some e))) rest)) h

  option_some : (j : ℕ) (t : Lexeme) (ts : List Lexeme) → is_mark j t.kind ≡ false → parser.option_of b.exprs j (t ∷ ts) ≡ bind (expr_of b.exprs true) (λ e. ret (Some e)) (t ∷ ts)
  unfolding parser.option_of
  option_some j t ts h = ap (λ x. when x (ret None) (bind (expr_of b.exprs true) (λ e. ret (Some e))) (t ∷ ts)) h

  option_complete : (j : ℕ) → begins_mark j ≡ false → ((e : Ending) (t : Lexeme) → t.kind ≡ kind.Mark j → continues_expr true e t ≡ false) → is_mark j (kind.Mark j) ≡ true → (o : MaybeExpr) → ProperOption m o → Completes limit (print_maybe m.look (suc d) o) (λ t. t.kind ≡ kind.Mark j) (parser.option_of b.exprs j) (option_of o)
  option_complete j z stop same no_expr h = c_look limit (λ rest g. option_none j rest (ap (is_mark j) g ∙ same))
  option_complete j z stop same (some_expr e) h = c_weaken limit (λ t g. stop (ending e) t g) (c_front limit (bind (expr_of b.exprs true) (λ x. ret (Some x)))
      (λ x w rest k g. option_some j x.lexeme (lexemes w ++ rest) (not_mark j z x.lexeme.kind (opens_first begins_assign (print m.look (suc d) e) x w (head_of rest) (expr_opens m (suc d) e h) k)))
      (λ w n k. opens_some begins_assign (print m.look (suc d) e) w n (expr_opens m (suc d) e h) k)
      (c_made limit Some (c.uses.expr true e h refl)))

  for_value : (n : Init) (test update : MaybeExpr) (s : Stmt) → tree.For n (maybe_expr_of (option_of test)) (maybe_expr_of (option_of update)) s ≡ tree.For n test update s
  for_value n test update s = ap (λ x. tree.For n x (maybe_expr_of (option_of update)) s) (of_maybe test) ∙ ap (λ x. tree.For n test x s) (of_maybe update)

  -- after what begins the head
  rest_complete : (n : Init) (test update : MaybeExpr) (s : Stmt) → ProperStmt m i (tree.For n test update s) → Completes limit (mark_piece mark.SEMICOLON d ∷ (print_maybe m.look (suc d) test ++ (mark_piece mark.SEMICOLON d ∷ (print_maybe m.look (suc d) update ++ (mark_piece mark.CLOSE_PAREN d ∷ print_stmt m.look (suc d) s))))) (Follows (tree.For n test update s)) (parser.for_from b i n) (tree.For n test update s)
  unfolding parser.for_from
  rest_complete n test update s h = c_value (for_value n test update s)
      (c_bind limit (λ _. bind (parser.option_of b.exprs mark.SEMICOLON) (λ x. bind (expect mark.SEMICOLON) (λ _. bind (parser.option_of b.exprs mark.CLOSE_PAREN) (λ y. bind (expect mark.CLOSE_PAREN) (λ _. bind (b.stmt (AStmt i)) (λ z. ret (tree.For n (maybe_expr_of x) (maybe_expr_of y) z))))))) (c_mark limit mark.SEMICOLON d low refl) lead_any
      (c_bind limit (λ x. bind (expect mark.SEMICOLON) (λ _. bind (parser.option_of b.exprs mark.CLOSE_PAREN) (λ y. bind (expect mark.CLOSE_PAREN) (λ _. bind (b.stmt (AStmt i)) (λ z. ret (tree.For n (maybe_expr_of x) (maybe_expr_of y) z)))))) (option_complete mark.SEMICOLON refl (λ e t k. stop_semi true e t k) refl test h.1) (lead_at (λ t q. q.kind))
      (c_bind limit (λ _. bind (parser.option_of b.exprs mark.CLOSE_PAREN) (λ y. bind (expect mark.CLOSE_PAREN) (λ _. bind (b.stmt (AStmt i)) (λ z. ret (tree.For n (maybe_expr_of (option_of test)) (maybe_expr_of y) z))))) (c_mark limit mark.SEMICOLON d low refl) lead_any
      (c_bind limit (λ y. bind (expect mark.CLOSE_PAREN) (λ _. bind (b.stmt (AStmt i)) (λ z. ret (tree.For n (maybe_expr_of (option_of test)) (maybe_expr_of y) z)))) (option_complete mark.CLOSE_PAREN refl (λ e t k. stop_close true e t k) refl update h.2) (lead_at (λ t q. q.kind))
      (c_bind limit (λ _. bind (b.stmt (AStmt i)) (λ z. ret (tree.For n (maybe_expr_of (option_of test)) (maybe_expr_of (option_of update)) z))) (c_mark limit mark.CLOSE_PAREN d low refl) lead_any
      (c_made limit (tree.For n (maybe_expr_of (option_of test)) (maybe_expr_of (option_of update))) (c_weaken limit (λ t g. follows_as refl t g) (body s h.4 h.3))))))))

  -- a for-in after its `in`
  in_complete : (n : Each) (over : Expr) (s : Stmt) → ProperStmt m i (tree.ForIn n over s) → Completes limit (print m.look (suc d) over ++ (mark_piece mark.CLOSE_PAREN d ∷ print_stmt m.look (suc d) s)) (Follows (tree.ForIn n over s)) (parser.for_in_from b i n) (tree.ForIn n over s)
  unfolding parser.for_in_from
  in_complete n over s h = c_bind limit (λ e. bind (expect mark.CLOSE_PAREN) (λ _. bind (b.stmt (AStmt i)) (λ z. ret (tree.ForIn n e z)))) (c.uses.expr true over h.1 refl) (lead_at (λ t q. stop_close true (ending over) t q.kind))
      (c_bind limit (λ _. bind (b.stmt (AStmt i)) (λ z. ret (tree.ForIn n over z))) (c_mark limit mark.CLOSE_PAREN d low refl) lead_any
      (c_made limit (tree.ForIn n over) (c_weaken limit (λ t g. follows_as refl t g) (body s h.3 h.2))))

  -- after a declaration's word

  named_in : (k : Decl) (n : Named) (t : Lexeme) (ts : List Lexeme) → t.kind ≡ kind.Word word.IN → parser.for_named b i k n (t ∷ ts) ≡ parser.for_in_from b i (tree.BindEach k n) ts
  unfolding parser.for_named
  named_in k n t ts e = at_kind (λ u. parser.for_named b i k n (u ∷ ts) ≡ parser.for_in_from b i (tree.BindEach k n) ts) (kind.Word word.IN) t e refl

  named_binds : (k : Decl) (n : Named) (t : Lexeme) (ts : List Lexeme) → is_word word.IN t.kind ≡ false → parser.for_named b i k n (t ∷ ts) ≡ bind (parser.binds_from b.exprs false n) (λ x. parser.for_from b i (tree.BindsInit k (binds_of x.items))) (t ∷ ts)
  unfolding parser.for_named
  named_binds k n t ts h = ap (λ x. when x (step (parser.for_in_from b i (tree.BindEach k n))) (bind (parser.binds_from b.exprs false n) (λ x. parser.for_from b i (tree.BindsInit k (binds_of x.items)))) (t ∷ ts)) h

  abbrev no_in : Kind → Bool
  no_in k = not (is_word word.IN k)

  binds_open : (o : MaybeExpr) (bs : Binds) (rest : List Piece) → Opens no_in ((print_initializer m.look d o ++ print_more_binds m.look d bs) ++ (mark_piece mark.SEMICOLON d ∷ rest))
  binds_open (some_expr e) bs rest = refl
  binds_open no_expr no_binds rest = refl
  binds_open no_expr (more_binds n value bs) rest = refl

  decl_binds_complete : (k : Decl) (bs : Binds) (test update : MaybeExpr) (s : Stmt) → ProperStmt m i (tree.For (tree.BindsInit k bs) test update s) → Completes limit (print_binds m.look d bs ++ (mark_piece mark.SEMICOLON d ∷ (print_maybe m.look (suc d) test ++ (mark_piece mark.SEMICOLON d ∷ (print_maybe m.look (suc d) update ++ (mark_piece mark.CLOSE_PAREN d ∷ print_stmt m.look (suc d) s)))))) (Follows (tree.For (tree.BindsInit k bs) test update s)) (parser.for_decl b i k) (tree.For (tree.BindsInit k bs) test update s)
  unfolding parser.for_decl
  decl_binds_complete k no_binds test update s h = absurd h.0.0
  decl_binds_complete k (more_binds n o bs) test update s h =
      let tail : List Piece = print_maybe m.look (suc d) test ++ (mark_piece mark.SEMICOLON d ∷ (print_maybe m.look (suc d) update ++ (mark_piece mark.CLOSE_PAREN d ∷ print_stmt m.look (suc d) s))) in
      c_bind limit (parser.for_named b i k) (name_complete limit m d low n) lead_any
      (c_front limit (bind (parser.binds_from b.exprs false n) (λ x. parser.for_from b i (tree.BindsInit k (binds_of x.items))))
      (λ x w rest q g. named_binds k n x.lexeme (lexemes w ++ rest) (not_true (is_word word.IN x.lexeme.kind) (opens_first no_in ((print_initializer m.look d o ++ print_more_binds m.look d bs) ++ (mark_piece mark.SEMICOLON d ∷ tail)) x w (head_of rest) (binds_open o bs tail) q)))
      (λ w q k. opens_some no_in ((print_initializer m.look d o ++ print_more_binds m.look d bs) ++ (mark_piece mark.SEMICOLON d ∷ tail)) w q (binds_open o bs tail) k)
      (c_bind limit (λ x. parser.for_from b i (tree.BindsInit k (binds_of x.items))) (binds_complete limit m d low b.exprs c.uses false n o bs h.0.2 h.0.1) (lead_at (λ t q. semi_ends false (last_value o bs) t q.kind))
      (c_binds (of_binds (more_binds n o bs)) (rest_complete (tree.BindsInit k (more_binds n o bs)) test update s h))))
    where
      c_binds : {xs ys : Binds} {ps : List Piece} {F : Lexeme → Type 0} {a : Stmt} → xs ≡ ys → Completes limit ps F (parser.for_from b i (tree.BindsInit k ys)) a → Completes limit ps F (parser.for_from b i (tree.BindsInit k xs)) a
      c_binds {ps = ps} {F = F} {a = a} e q = subst (λ y. Completes limit ps F (parser.for_from b i (tree.BindsInit k y)) a) (sym e) q

  decl_in_complete : (k : Decl) (n : Named) (over : Expr) (s : Stmt) → ProperStmt m i (tree.ForIn (tree.BindEach k n) over s) → Completes limit (name_piece n d ∷ word_piece word.IN d ∷ (print m.look (suc d) over ++ (mark_piece mark.CLOSE_PAREN d ∷ print_stmt m.look (suc d) s))) (Follows (tree.ForIn (tree.BindEach k n) over s)) (parser.for_decl b i k) (tree.ForIn (tree.BindEach k n) over s)
  unfolding parser.for_decl
  decl_in_complete k n over s h = c_bind limit (parser.for_named b i k) (name_complete limit m d low n) lead_any
      (c_at limit (λ t. parser.for_in_from b i (tree.BindEach k n)) low (λ t ts q. named_in k n t ts q.kind) (λ t q. in_complete (tree.BindEach k n) over s h))

  -- after an Expression

  valued_in : (e : Expr) (t : Lexeme) (ts : List Lexeme) → nat_le (rank e) left_rank ≡ true → t.kind ≡ kind.Word word.IN → parser.for_valued b i e (t ∷ ts) ≡ parser.for_in_from b i (tree.TargetEach e) ts
  unfolding parser.for_valued
  valued_in e t ts r k = at_kind (λ u. parser.for_valued b i e (u ∷ ts) ≡ parser.for_in_from b i (tree.TargetEach e) ts) (kind.Word word.IN) t k (ap (λ x. when x (step (parser.for_in_from b i (tree.TargetEach e))) (parser.for_from b i (tree.ValueInit e)) (of_kind (kind.Word word.IN) t ∷ ts)) r)

  valued_semi : (e : Expr) (t : Lexeme) (ts : List Lexeme) → t.kind ≡ kind.Mark mark.SEMICOLON → parser.for_valued b i e (t ∷ ts) ≡ parser.for_from b i (tree.ValueInit e) (t ∷ ts)
  unfolding parser.for_valued
  valued_semi e t ts k = at_kind (λ u. parser.for_valued b i e (u ∷ ts) ≡ parser.for_from b i (tree.ValueInit e) (u ∷ ts)) (kind.Mark mark.SEMICOLON) t k refl

  -- the head

  head_empty : (t : Lexeme) (ts : List Lexeme) → t.kind ≡ kind.Mark mark.SEMICOLON → parser.for_head b i (t ∷ ts) ≡ parser.for_from b i tree.NoInit (t ∷ ts)
  unfolding parser.for_head
  head_empty t ts k = at_kind (λ u. parser.for_head b i (u ∷ ts) ≡ parser.for_from b i tree.NoInit (u ∷ ts)) (kind.Mark mark.SEMICOLON) t k refl

  head_decl : (k : Decl) (t : Lexeme) (ts : List Lexeme) → t.kind ≡ kind.Word (decl_word k) → parser.for_head b i (t ∷ ts) ≡ parser.for_decl b i k ts
  unfolding parser.for_head
  head_decl decl.Var t ts e = at_kind (λ u. parser.for_head b i (u ∷ ts) ≡ parser.for_decl b i decl.Var ts) (kind.Word word.VAR) t e refl
  head_decl decl.Let t ts e = at_kind (λ u. parser.for_head b i (u ∷ ts) ≡ parser.for_decl b i decl.Let ts) (kind.Word word.LET) t e refl
  head_decl decl.Const t ts e = at_kind (λ u. parser.for_head b i (u ∷ ts) ≡ parser.for_decl b i decl.Const ts) (kind.Word word.CONST) t e refl

  head_by : (s x y z : Bool) (t : Lexeme) (ts : List Lexeme) → s ≡ false → x ≡ false → y ≡ false → z ≡ false → when s (parser.for_from b i tree.NoInit) (when x (step (parser.for_decl b i decl.Var)) (when y (step (parser.for_decl b i decl.Let)) (when z (step (parser.for_decl b i decl.Const)) (bind (expr_of b.exprs false) (parser.for_valued b i))))) (t ∷ ts) ≡ bind (expr_of b.exprs false) (parser.for_valued b i) (t ∷ ts)
  head_by true x y z t ts e f g h = absurd (true_false e)
  head_by false true y z t ts e f g h = absurd (true_false f)
  head_by false false true z t ts e f g h = absurd (true_false g)
  head_by false false false true t ts e f g h = absurd (true_false h)
  head_by false false false false t ts e f g h = refl

  head_value : (t : Lexeme) (ts : List Lexeme) → begins_assign t.kind ≡ true → parser.for_head b i (t ∷ ts) ≡ bind (expr_of b.exprs false) (parser.for_valued b i) (t ∷ ts)
  unfolding parser.for_head
  head_value t ts h = head_by (is_mark mark.SEMICOLON t.kind) (is_word word.VAR t.kind) (is_word word.LET t.kind) (is_word word.CONST t.kind) t ts (not_mark mark.SEMICOLON refl t.kind h) (not_word word.VAR refl t.kind h) (not_word word.LET refl t.kind h) (not_word word.CONST refl t.kind h)

  semi_some : (ps : List Piece) (w : List Marked) (n : Lexeme) → Stands (mark_piece mark.SEMICOLON d ∷ ps) w n → 0 < length (lexemes w)
  semi_some ps [] n h = absurd h
  semi_some ps (x ∷ w) n h = omega arith

  -- an Expression first
  front_complete : {F : Lexeme → Type 0} (e : Expr) (qs : List Piece) (a : Stmt) → Proper m e → InIf false (free_of_in e) → Leads qs F (λ t. continues_expr false (ending e) t ≡ false) → Completes limit qs F (parser.for_valued b i e) a → Completes limit (print m.look (suc d) e ++ qs) F (parser.for_head b i) a
  front_complete e qs a h r l k = c_front limit (bind (expr_of b.exprs false) (parser.for_valued b i))
      (λ x w rest q g. head_value x.lexeme (lexemes w ++ rest) (opens_first begins_assign (print m.look (suc d) e ++ qs) x w (head_of rest) (opens_append begins_assign (print m.look (suc d) e) qs (expr_opens m (suc d) e h)) q))
      (λ w n q. opens_some begins_assign (print m.look (suc d) e ++ qs) w n (opens_append begins_assign (print m.look (suc d) e) qs (expr_opens m (suc d) e h)) q)
      (c_bind limit (parser.for_valued b i) (c.uses.expr false e h r) l k)

  head_complete : (n : Init) (test update : MaybeExpr) (s : Stmt) → ProperStmt m i (tree.For n test update s) → Completes limit (print_init m.look d n ++ (mark_piece mark.SEMICOLON d ∷ (print_maybe m.look (suc d) test ++ (mark_piece mark.SEMICOLON d ∷ (print_maybe m.look (suc d) update ++ (mark_piece mark.CLOSE_PAREN d ∷ print_stmt m.look (suc d) s)))))) (Follows (tree.For n test update s)) (parser.for_head b i) (tree.For n test update s)
  head_complete tree.NoInit test update s h = c_front limit (parser.for_from b i tree.NoInit) (λ x w rest q g. head_empty x.lexeme (lexemes w ++ rest) q.0.kind) (semi_some _) (rest_complete tree.NoInit test update s h)
  head_complete (tree.ValueInit e) test update s h = front_complete e _ (tree.For (tree.ValueInit e) test update s) h.0.1 h.0.0 (lead_at (λ t q. stop_semi false (ending e) t q.kind)) (c_front limit (parser.for_from b i (tree.ValueInit e)) (λ x w rest q g. valued_semi e x.lexeme (lexemes w ++ rest) q.0.kind) (semi_some _) (rest_complete (tree.ValueInit e) test update s h))
  head_complete (tree.BindsInit k bs) test update s h = c_at limit (λ t. parser.for_decl b i k) low (λ t ts q. head_decl k t ts q.kind) (λ t q. decl_binds_complete k bs test update s h)

  pub for_complete : (n : Init) (test update : MaybeExpr) (s : Stmt) → ProperStmt m i (tree.For n test update s) → Completes limit (mark_piece mark.OPEN_PAREN d ∷ (print_init m.look d n ++ (mark_piece mark.SEMICOLON d ∷ (print_maybe m.look (suc d) test ++ (mark_piece mark.SEMICOLON d ∷ (print_maybe m.look (suc d) update ++ (mark_piece mark.CLOSE_PAREN d ∷ print_stmt m.look (suc d) s))))))) (Follows (tree.For n test update s)) (parser.for_of b i) (tree.For n test update s)
  unfolding parser.for_of
  for_complete n test update s h = c_bind limit (λ _. parser.for_head b i) (c_mark limit mark.OPEN_PAREN d low refl) lead_any (head_complete n test update s h)

  each_complete : (n : Each) (over : Expr) (s : Stmt) → ProperStmt m i (tree.ForIn n over s) → Completes limit (print_each m.look d n ++ (word_piece word.IN d ∷ (print m.look (suc d) over ++ (mark_piece mark.CLOSE_PAREN d ∷ print_stmt m.look (suc d) s)))) (Follows (tree.ForIn n over s)) (parser.for_head b i) (tree.ForIn n over s)
  each_complete (tree.TargetEach e) over s h = front_complete e _ (tree.ForIn (tree.TargetEach e) over s) h.0.1 (left_free m e h.0.1 h.0.0) (lead_at (λ t q. stop_in (ending e) t q.kind)) (c_at limit (λ t. parser.for_in_from b i (tree.TargetEach e)) low (λ t ts q. valued_in e t ts (le-leb (rank e) left_rank h.0.0) q.kind) (λ t q. in_complete (tree.TargetEach e) over s h))
  each_complete (tree.BindEach k n) over s h = c_at limit (λ t. parser.for_decl b i k) low (λ t ts q. head_decl k t ts q.kind) (λ t q. decl_in_complete k n over s h)

  pub for_in_complete : (n : Each) (over : Expr) (s : Stmt) → ProperStmt m i (tree.ForIn n over s) → Completes limit (mark_piece mark.OPEN_PAREN d ∷ (print_each m.look d n ++ (word_piece word.IN d ∷ (print m.look (suc d) over ++ (mark_piece mark.CLOSE_PAREN d ∷ print_stmt m.look (suc d) s))))) (Follows (tree.ForIn n over s)) (parser.for_of b i) (tree.ForIn n over s)
  unfolding parser.for_of
  for_in_complete n over s h = c_bind limit (λ _. parser.for_head b i) (c_mark limit mark.OPEN_PAREN d low refl) lead_any (each_complete n over s h)
