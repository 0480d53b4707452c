-- Completeness of `switch` and `try`: at their lexemes they are read.
use Rattle.std.proofs.Common.{◌≡◌, ℕ, suc, ◌≤◌, ◌<◌, List, [], ◌∷◌, ◌++◌, length, refl, sym, ap, ◌∙◌, subst, arith, append_assoc, append-nil, Bool, true, Option, Some, None}
use Rattle.script_grammar.specs.declared.token.Kind.TheVariants as kind
use Rattle.script_grammar.specs.declared.token.mark.TheConstants as mark
use Rattle.script_grammar.specs.declared.token.word.TheConstants as word
use Rattle.script_grammar.specs.Lexeme.{Lexeme}
use Rattle.script_grammar.specs.Kinds.{is_mark, is_word}
use Rattle.script_grammar.specs.Tree.{Named, Expr, Stmt, Stmts, no_stmts, more_stmts, MaybeStmt, no_stmt, some_stmt, MaybeExpr, no_expr, some_expr, Binds, no_binds, more_binds, Function, function}
use Rattle.script_grammar.specs.Tree as tree
use Rattle.script_grammar.specs.TreeLists.{maybe_expr_of, stmts_of}
use Rattle.script_grammar.specs.Pieces.{Piece, mark_piece, word_piece, name_piece}
use Rattle.script_grammar.specs.Endings.{ending}
use Rattle.script_grammar.specs.Print.{print, print_stmts, print_catch_param}
use Rattle.grammar_parser_specs.specs.Parser.{Read, Parser, head_of, ret, bind, step, when, Turn, Again, Stop, loop}
use Rattle.grammar_parser_specs.specs.Exprs.{expect, again}
use Rattle.grammar_parser_specs.specs.Stmts as parser
use Rattle.grammar_parser_specs.specs.Stmts.{Place, AnItem, AStmt, StmtCalls, Block, is_item, is_inside, bound, ends_items}
use Rattle.grammar_parser_laws.proofs.Friendly.{first_of}
use Rattle.grammar_parser_laws.proofs.Stands.{Marked, lexemes, Stands}
use Rattle.grammar_parser_laws.proofs.Complete.{bare, AllK, flat}
use Rattle.grammar_complete_laws.proofs.Completes.{Completes, Leads, at_kind, lead_none, lead_at, lead_any, lead_map, c_ret, c_bind, c_made, c_at, c_look, c_pieces, c_mark, c_word}
use Rattle.grammar_complete_laws.proofs.CompleteLoops.{c_loop, LastLeads}
use Rattle.grammar_complete_laws.proofs.Stops.{stop_colon}
use Rattle.script_grammar.specs.Tree.{Clauses}
use Rattle.script_grammar.specs.Tree.{no_clauses, more_clauses}
use Rattle.script_grammar.specs.TreeLists.{Clause, clauses_of}
use Rattle.script_grammar.specs.Print.{print_clauses, print_test}
use Rattle.script_grammar.specs.Proper.{defaults}
use Rattle.grammar_complete_laws.proofs.CompleteLoops.{LastLeads}
use Rattle.grammar_complete_laws.proofs.CompleteStmts.{EndsList, CompleteBlock, c_value, name_complete, stmts_complete, braced_complete, list_of, of_list}
use Rattle.grammar_complete_laws.proofs.CompleteSimple.{parens_then}
use Rattle.grammar_parser_laws.proofs.ProperIn.{Mode, Proper, ProperClauses, ProperStmt, ProperStmts}

-- clauses up to a default, and those after it

abbrev one_case : Expr → Stmts → Clause
one_case e items = parser.clause (Some e) (list_of items)

-- all of these have a test
abbrev AllCases : Clauses → Type 0
AllCases no_clauses = Unit {0}
AllCases (more_clauses no_expr items cs) = ⊥
AllCases (more_clauses (some_expr e) items cs) = AllCases cs

abbrev cases_of : Clauses → List Clause
cases_of no_clauses = []
cases_of (more_clauses no_expr items cs) = parser.clause None (list_of items) ∷ cases_of cs
cases_of (more_clauses (some_expr e) items cs) = one_case e items ∷ cases_of cs

of_cases : (cs : Clauses) → clauses_of (cases_of cs) ≡ cs
of_cases no_clauses = refl
of_cases (more_clauses no_expr items cs) = ap (λ x. more_clauses no_expr x (clauses_of (cases_of cs))) (of_list items) ∙ ap (more_clauses no_expr items) (of_cases cs)
of_cases (more_clauses (some_expr e) items cs) = ap (λ x. more_clauses (some_expr e) x (clauses_of (cases_of cs))) (of_list items) ∙ ap (more_clauses (some_expr e) items) (of_cases cs)

no_defaults : (cs : Clauses) → defaults cs ≡ 0 → AllCases cs
no_defaults no_clauses h = tt
no_defaults (more_clauses no_expr items cs) h = absurd (omega (arith, h))
no_defaults (more_clauses (some_expr e) items cs) h = no_defaults cs h

module _ (limit : ℕ) (m : Mode) (d : ℕ) (low : d ≤ limit) (b : Block) (c : CompleteBlock limit m d b) (i : Bool) where
  abbrev clause_pieces : Clause → List Piece
  clause_pieces x = print_test m.look d (maybe_expr_of x.test) ++ (mark_piece mark.COLON d ∷ print_stmts m.look d (stmts_of x.items))

  abbrev IsCase : Clause → Type 0
  IsCase x = (e : Expr) × (ss : Stmts) × (x ≡ one_case e ss) × Proper m e × ProperStmts m i ss

  -- what may stand after a clause
  abbrev ClauseFollow : Clause → Lexeme → Type 0
  ClauseFollow x t = EndsList t

  case_complete : (e : Expr) (ss : Stmts) → Proper m e → ProperStmts m i ss → Completes limit (print m.look (suc d) e ++ (mark_piece mark.COLON d ∷ print_stmts m.look d ss)) EndsList (parser.case_of b i) (one_case e ss)
  unfolding parser.case_of
  case_complete e ss h k = c_bind limit (λ x. bind (expect mark.COLON) (λ _. bind (parser.stmts_from b.stmt i) (λ ys. ret (parser.clause (Some x) ys)))) (c.uses.expr true e h refl) (lead_at (λ t q. stop_colon true (ending e) t q.kind))
      (c_bind limit (λ _. bind (parser.stmts_from b.stmt i) (λ ys. ret (parser.clause (Some e) ys))) (c_mark limit mark.COLON d low refl) lead_any
      (c_made limit (parser.clause (Some e)) (stmts_complete limit m d low b.stmt c.stmts i ss k)))

  default_complete : (ss : Stmts) → ProperStmts m i ss → Completes limit (mark_piece mark.COLON d ∷ print_stmts m.look d ss) EndsList (parser.default_of b i) (parser.clause None (list_of ss))
  unfolding parser.default_of
  default_complete ss k = c_bind limit (λ _. bind (parser.stmts_from b.stmt i) (λ ys. ret (parser.clause None ys))) (c_mark limit mark.COLON d low refl) lead_any
      (c_made limit (parser.clause None) (stmts_complete limit m d low b.stmt c.stmts i ss k))

  case_here : (t : Lexeme) (ts : List Lexeme) → t.kind ≡ kind.Word word.CASE → parser.case_turn b i (t ∷ ts) ≡ bind (parser.case_of b i) (again {A = Clause} {B = Unit {0}}) ts
  unfolding parser.case_turn
  case_here t ts e = at_kind (λ u. parser.case_turn b i (u ∷ ts) ≡ bind (parser.case_of b i) (again {A = Clause} {B = Unit {0}}) ts) (kind.Word word.CASE) t e refl

  clause_here : (t : Lexeme) (ts : List Lexeme) → t.kind ≡ kind.Word word.CASE → parser.clause_turn b i (t ∷ ts) ≡ bind (parser.case_of b i) (again {A = Clause} {B = Option Clause}) ts
  unfolding parser.clause_turn
  clause_here t ts e = at_kind (λ u. parser.clause_turn b i (u ∷ ts) ≡ bind (parser.case_of b i) (again {A = Clause} {B = Option Clause}) ts) (kind.Word word.CASE) t e refl

  default_here : (t : Lexeme) (ts : List Lexeme) → t.kind ≡ kind.Word word.DEFAULT → parser.clause_turn b i (t ∷ ts) ≡ bind (parser.default_of b i) (λ x. ret {A = Turn Clause (Option Clause)} (Stop (Some x))) ts
  unfolding parser.clause_turn
  default_here t ts e = at_kind (λ u. parser.clause_turn b i (u ∷ ts) ≡ bind (parser.default_of b i) (λ x. ret {A = Turn Clause (Option Clause)} (Stop (Some x))) ts) (kind.Word word.DEFAULT) t e refl

  abbrev Closes : Lexeme → Type 0
  Closes t = t.kind ≡ kind.Mark mark.CLOSE_BRACE

  cases_end : (rest : List Lexeme) → Closes (head_of rest) → bare (parser.case_turn b i rest) ≡ Read (Stop tt) [] rest
  unfolding parser.case_turn
  cases_end rest h = ap (λ k. bare (when (is_word word.CASE k) (step (bind (parser.case_of b i) again)) (ret (Stop tt)) rest)) h

  clauses_end : (rest : List Lexeme) → Closes (head_of rest) → bare (parser.clause_turn b i rest) ≡ Read (Stop None) [] rest
  unfolding parser.clause_turn
  clauses_end rest h = ap (λ k. bare (when (is_word word.CASE k) (step (bind (parser.case_of b i) again)) (when (is_word word.DEFAULT k) (step (bind (parser.default_of b i) (λ x. ret (Stop (Some x))))) (ret (Stop None))) rest)) h

  closes_list : (t : Lexeme) → Closes t → EndsList t
  closes_list t e = at_kind EndsList (kind.Mark mark.CLOSE_BRACE) t e refl

  case_list : (t : Lexeme) → t.kind ≡ kind.Word word.CASE → EndsList t
  case_list t e = at_kind EndsList (kind.Word word.CASE) t e refl

  default_list : (t : Lexeme) → t.kind ≡ kind.Word word.DEFAULT → EndsList t
  default_list t e = at_kind EndsList (kind.Word word.DEFAULT) t e refl

  pieces_case : (e : Expr) (ss : Stmts) → clause_pieces (one_case e ss) ≡ word_piece word.CASE d ∷ (print m.look (suc d) e ++ (mark_piece mark.COLON d ∷ print_stmts m.look d ss))
  pieces_case e ss = ap (λ x. word_piece word.CASE d ∷ (print m.look (suc d) e ++ (mark_piece mark.COLON d ∷ print_stmts m.look d x))) (of_list ss)

  c_case : (x : Clause) → IsCase x → Completes limit (clause_pieces x) (ClauseFollow x) (parser.case_turn b i) (Again x)
  c_case x k = subst (λ y. Completes limit (clause_pieces y) EndsList (parser.case_turn b i) (Again y)) (sym k.2) (c_pieces limit (sym (pieces_case k.0 k.1)) (c_at limit (λ t. bind (parser.case_of b i) (again {A = Clause} {B = Unit {0}})) low (λ t ts q. case_here t ts q.kind) (λ t q. c_made limit Again (case_complete k.0 k.1 k.3 k.4))))

  c_clause : (x : Clause) → IsCase x → Completes limit (clause_pieces x) (ClauseFollow x) (parser.clause_turn b i) (Again x)
  c_clause x k = subst (λ y. Completes limit (clause_pieces y) EndsList (parser.clause_turn b i) (Again y)) (sym k.2) (c_pieces limit (sym (pieces_case k.0 k.1)) (c_at limit (λ t. bind (parser.case_of b i) (again {A = Clause} {B = Option Clause})) low (λ t ts q. clause_here t ts q.kind) (λ t q. c_made limit Again (case_complete k.0 k.1 k.3 k.4))))

  case_front : (e : Expr) (ss : Stmts) (w : List Marked) (n : Lexeme) → Stands (clause_pieces (one_case e ss)) w n → (0 < length (lexemes w)) × ((first_of (lexemes w) n).kind ≡ kind.Word word.CASE)
  case_front e ss [] n h = absurd h
  case_front e ss (x ∷ w) n h = (omega arith, h.0.kind)

  clause_some : (x : Clause) → IsCase x → (w : List Marked) (n : Lexeme) → Stands (clause_pieces x) w n → 0 < length (lexemes w)
  clause_some x k w n h = (case_front k.0 k.1 w n (subst (λ y. Stands (clause_pieces y) w n) k.2 h)).0

  clause_link : (x y : Clause) → IsCase x → IsCase y → (w : List Marked) (n : Lexeme) → Stands (clause_pieces y) w n → ClauseFollow x (first_of (lexemes w) n)
  clause_link x y kx k w n h = case_list (first_of (lexemes w) n) ((case_front k.0 k.1 w n (subst (λ z. Stands (clause_pieces z) w n) k.2 h)).1)

  last_lead : {B : Type 0} (qs : List Piece) (G : Lexeme → Type 0) (z : B) (turn : Parser (Turn Clause B)) (each : (x : Clause) → IsCase x → Completes limit (clause_pieces x) (ClauseFollow x) turn (Again x)) (stop : Completes limit qs G turn (Stop z)) → Leads qs G EndsList → (xs : List Clause) → LastLeads limit IsCase clause_pieces ClauseFollow qs G z turn each clause_some clause_link stop xs
  last_lead qs G z turn each stop l [] = tt
  last_lead qs G z turn each stop l (x ∷ []) = l
  last_lead qs G z turn each stop l (x ∷ y ∷ xs) = last_lead qs G z turn each stop l (y ∷ xs)

  all_cases : (cs : Clauses) → AllCases cs → ProperClauses m i cs → AllK IsCase (cases_of cs)
  all_cases no_clauses a h = tt
  all_cases (more_clauses no_expr items cs) a h = absurd a
  all_cases (more_clauses (some_expr e) items cs) a h = ((e, items, refl, h.0, h.1), all_cases cs a h.2)

  flat_cases : (cs : Clauses) (qs : List Piece) → AllCases cs → flat clause_pieces (cases_of cs) ++ qs ≡ print_clauses m.look d cs ++ qs
  flat_cases no_clauses qs a = refl
  flat_cases (more_clauses no_expr items cs) qs a = absurd a
  flat_cases (more_clauses (some_expr e) items cs) qs a =
      append_assoc (clause_pieces (one_case e items)) (flat clause_pieces (cases_of cs)) qs
      ∙ ap (λ x. clause_pieces (one_case e items) ++ x) (flat_cases cs qs a)
      ∙ ap (λ x. x ++ (print_clauses m.look d cs ++ qs)) (pieces_case e items)
      ∙ append_assoc (print_test m.look d (some_expr e)) (mark_piece mark.COLON d ∷ print_stmts m.look d items) (print_clauses m.look d cs ++ qs)
      ∙ ap (λ x. print_test m.look d (some_expr e) ++ (mark_piece mark.COLON d ∷ x)) (sym (append_assoc (print_stmts m.look d items) (print_clauses m.look d cs) qs))
      ∙ sym (append_assoc (print_test m.look d (some_expr e)) (mark_piece mark.COLON d ∷ (print_stmts m.look d items ++ print_clauses m.look d cs)) qs)

  -- cases after the default
  behind_complete : (cs : Clauses) → AllCases cs → ProperClauses m i cs → Completes limit (print_clauses m.look d cs ++ []) Closes (loop (parser.case_turn b i)) (record { items = cases_of cs; last = tt })
  behind_complete cs a h = c_pieces limit (flat_cases cs [] a) (c_loop limit IsCase clause_pieces ClauseFollow [] Closes tt (parser.case_turn b i) c_case clause_some clause_link (c_look limit cases_end) (cases_of cs) (all_cases cs a h) (last_lead [] Closes tt (parser.case_turn b i) c_case (c_look limit cases_end) (lead_map closes_list lead_none) (cases_of cs)))

  -- The clauses: cases, and where there is one the default and the cases after it.
  record Parts (cs : Clauses) : Type 0 where
    front : Clauses
    front_cases : AllCases front
    items : Stmts
    back : Clauses
    back_cases : AllCases back
    proper_front : ProperClauses m i front
    proper_items : ProperStmts m i items
    proper_back : ProperClauses m i back
    pieces : print_clauses m.look d cs ≡ print_clauses m.look d front ++ (word_piece word.DEFAULT d ∷ ((mark_piece mark.COLON d ∷ print_stmts m.look d items) ++ (print_clauses m.look d back ++ [])))
    list : cases_of cs ≡ cases_of front ++ parser.clause None (list_of items) ∷ cases_of back

  data Shape (cs : Clauses) : Type 0 where
    all : AllCases cs → Shape cs
    parts : Parts cs → Shape cs

  before : (e : Expr) (items : Stmts) (cs : Clauses) → Proper m e → ProperStmts m i items → Shape cs → Shape (more_clauses (some_expr e) items cs)
  before e items cs h k (all a) = all a
  before e items cs h k (parts q) = parts (record {
    front = more_clauses (some_expr e) items q.front;
    front_cases = q.front_cases;
    items = q.items;
    back = q.back;
    back_cases = q.back_cases;
    proper_front = (h, k, q.proper_front);
    proper_items = q.proper_items;
    proper_back = q.proper_back;
    pieces = ap (λ x. print_test m.look d (some_expr e) ++ (mark_piece mark.COLON d ∷ (print_stmts m.look d items ++ x))) q.pieces
        ∙ ap (λ x. print_test m.look d (some_expr e) ++ (mark_piece mark.COLON d ∷ x)) (sym (append_assoc (print_stmts m.look d items) (print_clauses m.look d q.front) _))
        ∙ sym (append_assoc (print_test m.look d (some_expr e)) (mark_piece mark.COLON d ∷ (print_stmts m.look d items ++ print_clauses m.look d q.front)) _);
    list = ap (λ x. one_case e items ∷ x) q.list;
  })

  shape_of : (cs : Clauses) → defaults cs ≤ 1 → ProperClauses m i cs → Shape cs
  shape_of no_clauses n h = all tt
  shape_of (more_clauses no_expr items cs) n h = parts (record {
    front = no_clauses;
    front_cases = tt;
    items = items;
    back = cs;
    back_cases = no_defaults cs (omega (arith, n));
    proper_front = tt;
    proper_items = h.1;
    proper_back = h.2;
    pieces = ap (λ x. word_piece word.DEFAULT d ∷ mark_piece mark.COLON d ∷ (print_stmts m.look d items ++ x)) (sym (append-nil (print_clauses m.look d cs)));
    list = refl;
  })
  shape_of (more_clauses (some_expr e) items cs) n h = before e items cs h.0 h.1 (shape_of cs n h.2)

  back_leads : (cs : Clauses) → AllCases cs → Leads (print_clauses m.look d cs ++ []) Closes EndsList
  back_leads no_clauses a = lead_map closes_list lead_none
  back_leads (more_clauses no_expr items cs) a = absurd a
  back_leads (more_clauses (some_expr e) items cs) a = lead_at (λ t q. case_list t q.kind)

  default_stop : (items : Stmts) → ProperStmts m i items → Completes limit (word_piece word.DEFAULT d ∷ mark_piece mark.COLON d ∷ print_stmts m.look d items) EndsList (parser.clause_turn b i) (Stop (Some (parser.clause None (list_of items))))
  default_stop items h = c_at limit (λ t. bind (parser.default_of b i) (λ x. ret (Stop (Some x)))) low (λ t ts q. default_here t ts q.kind) (λ t q. c_made limit (λ x. Stop (Some x)) (default_complete items h))

  by_shape : (cs : Clauses) → ProperClauses m i cs → Shape cs → Completes limit (print_clauses m.look d cs) Closes (parser.clauses_from b i) (cases_of cs)
  unfolding parser.clauses_from parser.more_clauses
  by_shape cs h (all a) = c_value (append-nil (cases_of cs)) (c_pieces limit (append-nil (print_clauses m.look d cs)) (c_bind limit (λ x. bind (parser.more_clauses b i x.last) (λ ys. ret (x.items ++ ys)))
      (c_pieces limit (flat_cases cs [] a ∙ append-nil (print_clauses m.look d cs)) (c_loop limit IsCase clause_pieces ClauseFollow [] Closes None (parser.clause_turn b i) c_clause clause_some clause_link (c_look limit clauses_end) (cases_of cs) (all_cases cs a h) (last_lead [] Closes None (parser.clause_turn b i) c_clause (c_look limit clauses_end) (lead_map closes_list lead_none) (cases_of cs))))
      lead_none
      (c_made limit (λ ys. cases_of cs ++ ys) (c_ret limit []))))
  by_shape cs h (parts q) =
      let x : Clause = parser.clause None (list_of q.items) in
      c_value (sym q.list) (c_pieces limit (append_assoc (print_clauses m.look d q.front) (word_piece word.DEFAULT d ∷ mark_piece mark.COLON d ∷ print_stmts m.look d q.items) (print_clauses m.look d q.back ++ []) ∙ sym q.pieces)
      (c_bind limit (λ y. bind (parser.more_clauses b i y.last) (λ ys. ret (y.items ++ ys)))
      (c_pieces limit (flat_cases q.front (word_piece word.DEFAULT d ∷ mark_piece mark.COLON d ∷ print_stmts m.look d q.items) q.front_cases) (c_loop limit IsCase clause_pieces ClauseFollow (word_piece word.DEFAULT d ∷ mark_piece mark.COLON d ∷ print_stmts m.look d q.items) EndsList (Some x) (parser.clause_turn b i) c_clause clause_some clause_link (default_stop q.items q.proper_items) (cases_of q.front) (all_cases q.front q.front_cases q.proper_front) (last_lead (word_piece word.DEFAULT d ∷ mark_piece mark.COLON d ∷ print_stmts m.look d q.items) EndsList (Some x) (parser.clause_turn b i) c_clause (default_stop q.items q.proper_items) (lead_at (λ t r. default_list t r.kind)) (cases_of q.front))))
      (back_leads q.back q.back_cases)
      (c_made limit (λ ys. cases_of q.front ++ ys) (c_made limit (λ y. x ∷ y.items) (behind_complete q.back q.back_cases q.proper_back)))))

  clauses_complete : (cs : Clauses) → defaults cs ≤ 1 → ProperClauses m i cs → Completes limit (print_clauses m.look d cs) Closes (parser.clauses_from b i) (cases_of cs)
  clauses_complete cs n h = by_shape cs h (shape_of cs n h)

  pub switch_complete : {F : Lexeme → Type 0} (e : Expr) (cs : Clauses) → ProperStmt m i (tree.Switch e cs) → Completes limit (mark_piece mark.OPEN_PAREN d ∷ (print m.look (suc d) e ++ (mark_piece mark.CLOSE_PAREN d ∷ mark_piece mark.OPEN_BRACE d ∷ (print_clauses m.look d cs ++ mark_piece mark.CLOSE_BRACE d ∷ [])))) F (parser.switch_of b i) (tree.Switch e cs)
  unfolding parser.switch_of
  switch_complete e cs h = parens_then limit m d low b c i e (mark_piece mark.OPEN_BRACE d ∷ (print_clauses m.look d cs ++ mark_piece mark.CLOSE_BRACE d ∷ [])) (λ x. bind (expect mark.OPEN_BRACE) (λ _. bind (parser.clauses_from b i) (λ ys. bind (expect mark.CLOSE_BRACE) (λ _. ret (tree.Switch x (clauses_of ys)))))) (tree.Switch e cs) h.0
      (c_bind limit (λ _. bind (parser.clauses_from b i) (λ ys. bind (expect mark.CLOSE_BRACE) (λ _. ret (tree.Switch e (clauses_of ys))))) (c_mark limit mark.OPEN_BRACE d low refl) lead_any
      (c_value (ap (tree.Switch e) (of_cases cs)) (c_bind limit (λ ys. bind (expect mark.CLOSE_BRACE) (λ _. ret (tree.Switch e (clauses_of ys)))) (clauses_complete cs h.1 h.2) (lead_at (λ t q. q.kind))
      (c_made limit (λ _. tree.Switch e (clauses_of (cases_of cs))) (c_mark limit mark.CLOSE_BRACE d low refl)))))

  -- `try`

  catch_here : (t : Lexeme) (ts : List Lexeme) → t.kind ≡ kind.Mark mark.OPEN_PAREN → parser.catch_param (t ∷ ts) ≡ bind parser.catch_name (λ n. ret (Some n)) ts
  unfolding parser.catch_param
  catch_here t ts e = at_kind (λ u. parser.catch_param (u ∷ ts) ≡ bind parser.catch_name (λ n. ret (Some n)) ts) (kind.Mark mark.OPEN_PAREN) t e refl

  no_catch : (rest : List Lexeme) → (head_of rest).kind ≡ kind.Mark mark.OPEN_BRACE → bare (parser.catch_param rest) ≡ Read None [] rest
  unfolding parser.catch_param
  no_catch rest h = ap (λ k. bare (when (is_mark mark.OPEN_PAREN k) (step (bind parser.catch_name (λ n. ret (Some n)))) (ret None) rest)) h

  catch_name_complete : {F : Lexeme → Type 0} (n : Named) → Completes limit (name_piece n d ∷ mark_piece mark.CLOSE_PAREN d ∷ []) F parser.catch_name n
  unfolding parser.catch_name
  catch_name_complete n = c_bind limit (λ x. bind (expect mark.CLOSE_PAREN) (λ _. ret x)) (name_complete limit m d low n) lead_any (c_made limit (λ _. n) (c_mark limit mark.CLOSE_PAREN d low refl))

  catch_complete : (o : Option Named) → Completes limit (print_catch_param o d) (λ t. t.kind ≡ kind.Mark mark.OPEN_BRACE) parser.catch_param o
  catch_complete None = c_look limit no_catch
  catch_complete (Some n) = c_at limit (λ t. bind parser.catch_name (λ x. ret (Some x))) low (λ t ts q. catch_here t ts q.kind) (λ t q. c_made limit Some (catch_name_complete n))

  pub try_complete : {F : Lexeme → Type 0} (ss : Stmts) (o : Option Named) (hs : Stmts) → ProperStmt m i (tree.Try ss o hs) → Completes limit (mark_piece mark.OPEN_BRACE d ∷ (print_stmts m.look d ss ++ (mark_piece mark.CLOSE_BRACE d ∷ word_piece word.CATCH d ∷ (print_catch_param o d ++ (mark_piece mark.OPEN_BRACE d ∷ (print_stmts m.look d hs ++ mark_piece mark.CLOSE_BRACE d ∷ [])))))) F (parser.try_of b i) (tree.Try ss o hs)
  unfolding parser.try_of
  try_complete ss o hs h = c_pieces limit (ap (λ x. mark_piece mark.OPEN_BRACE d ∷ x) (append_assoc (print_stmts m.look d ss) (mark_piece mark.CLOSE_BRACE d ∷ []) (word_piece word.CATCH d ∷ (print_catch_param o d ++ (mark_piece mark.OPEN_BRACE d ∷ (print_stmts m.look d hs ++ mark_piece mark.CLOSE_BRACE d ∷ []))))))
      (c_bind limit (λ x. bind (parser.expect_word word.CATCH) (λ _. bind parser.catch_param (λ y. bind (parser.braced_of b.stmt i) (λ z. ret (tree.Try x y z))))) (braced_complete limit m d low b.stmt c.stmts i ss h.0) lead_any
      (c_bind limit (λ _. bind parser.catch_param (λ y. bind (parser.braced_of b.stmt i) (λ z. ret (tree.Try ss y z)))) (c_word limit word.CATCH d low refl) lead_any
      (c_bind limit (λ y. bind (parser.braced_of b.stmt i) (λ z. ret (tree.Try ss y z))) (catch_complete o) (lead_at (λ t q. q.kind))
      (c_made limit (tree.Try ss o) (braced_complete limit m d low b.stmt c.stmts i hs h.1)))))
