-- `switch` and `try`: what is read fits its places, and faults can be mended.
use Rattle.std.proofs.Common.{◌≡◌, ℕ, suc, ◌≤◌, List, [], ◌∷◌, ◌++◌, refl, sym, ap, ◌∙◌, subst, arith, append_assoc, Bool, true, Option, Some, None}
use Rattle.script_grammar.specs.declared.token.Kind.TheVariants as kind
use Rattle.script_grammar.specs.declared.token.mark.TheConstants as mark
use Rattle.script_grammar.specs.declared.token.word.TheConstants as word
use Rattle.script_grammar.specs.Lexeme.{Lexeme}
use Rattle.script_grammar.specs.Kinds.{is_mark, is_word}
use Rattle.script_grammar.specs.Tree.{Named, Expr, Stmt, Stmts, MaybeStmt, Function}
use Rattle.script_grammar.specs.Tree as tree
use Rattle.script_grammar.specs.TreeLists.{maybe_expr_of, stmts_of}
use Rattle.script_grammar.specs.Pieces.{Bodies, Piece, mark_piece, name_piece}
use Rattle.script_grammar.specs.Print.{print_stmts, print_catch_param}
use Rattle.script_grammar.specs.Proper.{ProperOption, ProperStmts}
use Rattle.grammar_parser_specs.specs.Parser.{Turn, Again, Stop, Many, stopped, begun}
use Rattle.grammar_parser_specs.specs.Stmts as parser
use Rattle.grammar_parser_specs.specs.Stmts.{Place, AnItem, AStmt, StmtCalls, Block, is_item, is_inside}
use Rattle.grammar_parser_laws.proofs.Friendly.{AtFront, Inside, first_of}
use Rattle.grammar_parser_laws.proofs.Fitting.{FitsAll, all_none, all_append, all_mark, all_word, first_append}
use Rattle.grammar_parser_laws.proofs.Tests.{mark_known, word_known}
use Rattle.grammar_parser_laws.proofs.Sound.{Sound, SoundAt, Mended, Behind, Begun, BeginsAt, here, started, sound_bind, sound_ret, sound_bad, sound_at, sound_peek, sound_done, sound_some, sound_map, sound_inside, sound_loop, sound_made, sound_first, at_map, outcome_noted}
use Rattle.grammar_parser_laws.proofs.Sound as plain
use Rattle.grammar_sound_laws.proofs.SoundNext.{SoundNext, Past, past_bind, next_bind, next_made, next_ret, next_peek, at_ret, at_step, at_when, next_inside, next_loop, next_of}
use Rattle.grammar_parser_laws.proofs.SoundParts.{IsExpr, IsMark, expect_sound, name_sound}
use Rattle.grammar_sound_laws.proofs.SoundLists.{expr_sound}
use Rattle.grammar_sound_laws.proofs.StmtFitting.{FitsNext, none_next, all_next, then_all, then_next, close_all, same_pieces}
use Rattle.grammar_sound_laws.proofs.SoundStmtLists.{IsStmt, IsBlock, IsWord, expect_word_sound, stmts_sound, braced_sound}
use Rattle.script_grammar.specs.Tree.{Clauses, no_clauses, more_clauses}
use Rattle.script_grammar.specs.TreeLists.{Clause, clauses_of}
use Rattle.script_grammar.specs.Print.{print_clauses, print_test}
use Rattle.script_grammar.specs.Proper.{ProperClauses, defaults}
use Rattle.grammar_sound_laws.proofs.SoundStmts.{SoundBlock, IsParens, parens_sound, parens_then, around_then}
use Rattle.grammar_sound_laws.proofs.SoundStmtLists.{close_sound}

module _ (m : Bodies) (d : ℕ) (i : Bool) where
  -- one clause
  abbrev pub print_clause : Clause → List Piece
  print_clause c = print_test m d (maybe_expr_of c.test) ++ (mark_piece mark.COLON d ∷ print_stmts m d (stmts_of c.items))

  pub record IsClause (w : List Lexeme) (c : Clause) (n : Lexeme) : Type 0 where
    pub test : ProperOption m (maybe_expr_of c.test)
    pub items : ProperStmts m i (stmts_of c.items)
    pub fits : FitsNext (print_clause c) w n

  abbrev pub HasTest : Option Expr → Type 0
  HasTest None = ⊥
  HasTest (Some e) = Unit {0}

  abbrev pub NoTest : Option Expr → Type 0
  NoTest None = Unit {0}
  NoTest (Some e) = ⊥

  clause_print : (c : Clause) (cs : List Clause) → print_clauses m d (clauses_of (c ∷ cs)) ≡ print_clause c ++ print_clauses m d (clauses_of cs)
  clause_print c cs = sym (append_assoc (print_test m d (maybe_expr_of c.test)) (mark_piece mark.COLON d ∷ print_stmts m d (stmts_of c.items)) (print_clauses m d (clauses_of cs)))

  -- clauses, and how many of them are a default
  pub record AreClauses (k : ℕ) (w : List Lexeme) (cs : List Clause) (n : Lexeme) : Type 0 where
    pub proper : ProperClauses m i (clauses_of cs)
    pub count : defaults (clauses_of cs) ≡ k
    pub fits : FitsNext (print_clauses m d (clauses_of cs)) w n

  no_clauses_are : (n : Lexeme) → AreClauses 0 [] [] n
  no_clauses_are n = record { proper = tt; count = refl; fits = none_next }

  case_counts : (c : Clause) (cs : List Clause) (k : ℕ) → HasTest c.test → defaults (clauses_of cs) ≡ k → defaults (clauses_of (c ∷ cs)) ≡ k
  case_counts c cs k h e = of_test c.test h
    where
      of_test : (o : Option Expr) → HasTest o → defaults (more_clauses (maybe_expr_of o) (stmts_of c.items) (clauses_of cs)) ≡ k
      of_test None x = absurd x
      of_test (Some y) x = e

  default_counts : (c : Clause) (cs : List Clause) → NoTest c.test → defaults (clauses_of cs) ≡ 0 → defaults (clauses_of (c ∷ cs)) ≡ 1
  default_counts c cs h e = of_test c.test h
    where
      of_test : (o : Option Expr) → NoTest o → defaults (more_clauses (maybe_expr_of o) (stmts_of c.items) (clauses_of cs)) ≡ 1
      of_test None x = ap suc e
      of_test (Some y) x = absurd x

  case_before : (u v : List Lexeme) (c : Clause) (cs : List Clause) (k : ℕ) (n : Lexeme) → HasTest c.test → IsClause u c (first_of v n) → AreClauses k v cs n → AreClauses k (u ++ v) (c ∷ cs) n
  case_before u v c cs k n h q r = record { proper = (q.test, q.items, r.proper); count = case_counts c cs k h r.count; fits = same_pieces (sym (clause_print c cs)) (then_next u v q.fits r.fits) }

  default_before : (u v : List Lexeme) (c : Clause) (cs : List Clause) (n : Lexeme) → NoTest c.test → IsClause u c (first_of v n) → AreClauses 0 v cs n → AreClauses 1 (u ++ v) (c ∷ cs) n
  default_before u v c cs n h q r = record { proper = (q.test, q.items, r.proper); count = default_counts c cs h r.count; fits = same_pieces (sym (clause_print c cs)) (then_next u v q.fits r.fits) }

  -- Clauses in front of others.

  proper_both : (as_ bs : List Clause) → ProperClauses m i (clauses_of as_) → ProperClauses m i (clauses_of bs) → ProperClauses m i (clauses_of (as_ ++ bs))
  proper_both [] bs h k = k
  proper_both (a ∷ as_) bs h k = (h.0, h.1, proper_both as_ bs h.2 k)

  count_head : (a : Clause) (as_ : List Clause) (cs : Clauses) (k : ℕ) → (defaults (clauses_of as_) ≡ 0 → defaults cs ≡ k) → defaults (clauses_of (a ∷ as_)) ≡ 0 → defaults (more_clauses (maybe_expr_of a.test) (stmts_of a.items) cs) ≡ k
  count_head a as_ cs k f h = of_test a.test h
    where
      of_test : (o : Option Expr) → defaults (more_clauses (maybe_expr_of o) (stmts_of a.items) (clauses_of as_)) ≡ 0 → defaults (more_clauses (maybe_expr_of o) (stmts_of a.items) cs) ≡ k
      of_test None x = absurd (omega (arith, x))
      of_test (Some y) x = f x

  count_both : (as_ bs : List Clause) (k : ℕ) → defaults (clauses_of as_) ≡ 0 → defaults (clauses_of bs) ≡ k → defaults (clauses_of (as_ ++ bs)) ≡ k
  count_both [] bs k h e = e
  count_both (a ∷ as_) bs k h e = count_head a as_ (clauses_of (as_ ++ bs)) k (λ x. count_both as_ bs k x e) h

  print_both : (as_ bs : List Clause) → print_clauses m d (clauses_of (as_ ++ bs)) ≡ print_clauses m d (clauses_of as_) ++ print_clauses m d (clauses_of bs)
  print_both [] bs = refl
  print_both (a ∷ as_) bs = clause_print a (as_ ++ bs) ∙ ap (λ x. print_clause a ++ x) (print_both as_ bs) ∙ sym (append_assoc (print_clause a) (print_clauses m d (clauses_of as_)) (print_clauses m d (clauses_of bs))) ∙ ap (λ x. x ++ print_clauses m d (clauses_of bs)) (sym (clause_print a as_))

  clauses_before : (u v : List Lexeme) (as_ bs : List Clause) (k : ℕ) (n : Lexeme) → AreClauses 0 u as_ (first_of v n) → AreClauses k v bs n → AreClauses k (u ++ v) (as_ ++ bs) n
  clauses_before u v as_ bs k n q r = record { proper = proper_both as_ bs q.proper r.proper; count = count_both as_ bs k q.count r.count; fits = same_pieces (sym (print_both as_ bs)) (then_next u v q.fits r.fits) }

  -- at most one is a default
  pub data AtMostOne (w : List Lexeme) (cs : List Clause) (n : Lexeme) : Type 0 where
    none_is : AreClauses 0 w cs n → AtMostOne w cs n
    one_is : AreClauses 1 w cs n → AtMostOne w cs n

  abbrev CaseTurn : List Lexeme → Turn Clause (Unit {0}) → Lexeme → Type 0
  CaseTurn w (Again c) n = HasTest c.test × IsClause w c n
  CaseTurn w (Stop b) n = w ≡ []

  abbrev ManyCases : List Lexeme → Many Clause (Unit {0}) → Lexeme → Type 0
  ManyCases w x n = AreClauses 0 w x.items n

  abbrev ClauseTurn : List Lexeme → Turn Clause (Option Clause) → Lexeme → Type 0
  ClauseTurn w (Again c) n = HasTest c.test × IsClause w c n
  ClauseTurn w (Stop None) n = w ≡ []
  ClauseTurn w (Stop (Some c)) n = NoTest c.test × IsClause w c n

  -- clauses up to a default
  record Led (w : List Lexeme) (x : Many Clause (Option Clause)) (c : Clause) (n : Lexeme) : Type 0 where
    front : List Lexeme
    back : List Lexeme
    split : w ≡ front ++ back
    cases : AreClauses 0 front x.items (first_of back n)
    test : NoTest c.test
    default : IsClause back c n

  abbrev UpTo : Option Clause → List Lexeme → Many Clause (Option Clause) → Lexeme → Type 0
  UpTo None w x n = AreClauses 0 w x.items n
  UpTo (Some c) w x n = Led w x c n

  abbrev ManyClauses : List Lexeme → Many Clause (Option Clause) → Lexeme → Type 0
  ManyClauses w x n = UpTo x.last w x n

  led_stop : (w : List Lexeme) (o : Option Clause) (n : Lexeme) → ClauseTurn w (Stop o) n → UpTo o w (stopped o) n
  led_stop w None n q = subst (λ x. AreClauses 0 x [] n) (sym q) (no_clauses_are n)
  led_stop w (Some c) n q = record { front = []; back = w; split = refl; cases = no_clauses_are (first_of w n); test = q.0; default = q.1 }

  led_go : (w v : List Lexeme) (a : Clause) (x : Many Clause (Option Clause)) (o : Option Clause) (n : Lexeme) → ClauseTurn w (Again a) (first_of v n) → UpTo o v x n → UpTo o (w ++ v) (begun a x) n
  led_go w v a x None n q r = case_before w v a x.items 0 n q.0 q.1 r
  led_go w v a x (Some c) n q r = record {
    front = w ++ r.front;
    back = r.back;
    split = ap (λ y. w ++ y) r.split ∙ sym (append_assoc w r.front r.back);
    cases = case_before w r.front a x.items 0 (first_of r.back n) q.0 (subst (λ y. IsClause w a y) (ap (λ y. first_of y n) r.split ∙ first_append r.front r.back n) q.1) r.cases;
    test = r.test;
    default = r.default;
  }

  abbrev More : Option Clause → List Lexeme → List Clause → Lexeme → Type 0
  More None w cs n = (w ≡ []) × (cs ≡ [])
  More (Some c) w cs n = (rest : List Clause) × (cs ≡ c ∷ rest) × AreClauses 0 w rest n

  all_of : (w v : List Lexeme) (x : Many Clause (Option Clause)) (o : Option Clause) (cs : List Clause) (n : Lexeme) → More o v cs n → UpTo o w x (first_of v n) → AtMostOne (w ++ v) (x.items ++ cs) n
  all_of w v x None cs n h r = none_is (clauses_before w v x.items cs 0 n r (subst (λ y. AreClauses 0 v y n) (sym h.1) (subst (λ y. AreClauses 0 y [] n) (sym h.0) (no_clauses_are n))))
  all_of w v x (Some c) cs n h r = one_is (subst (λ y. AreClauses 1 (w ++ v) (x.items ++ y) n) (sym h.1) (subst (λ y. AreClauses 1 y (x.items ++ c ∷ h.0) n) (sym (append_assoc r.front r.back v) ∙ ap (λ y. y ++ v) (sym r.split))
      (clauses_before r.front (r.back ++ v) x.items (c ∷ h.0) 1 n (subst (λ y. AreClauses 0 r.front x.items y) (sym (first_append r.back v n)) r.cases) (default_before r.back v c h.0 n r.test r.default h.2))))

  module _ (b : Block) (s : SoundBlock m d b) where
    abbrev IsCase : List Lexeme → Clause → Lexeme → Type 0
    IsCase w c n = HasTest c.test × IsClause w c n

    abbrev IsDefault : List Lexeme → Clause → Lexeme → Type 0
    IsDefault w c n = NoTest c.test × IsClause w c n

    case_sound : (t : Lexeme) → t.kind ≡ kind.Word word.CASE → SoundNext Inside (Past (t ∷ []) IsCase) (parser.case_of b i)
    unfolding parser.case_of
    case_sound t k = past_bind {E = IsExpr m true (suc d) 21} (sound_inside (expr_sound m d b.exprs s.env true)) (λ u e q. past_bind {E = IsMark mark.COLON d} (expect_sound mark.COLON d) (λ v _ h. next_made (λ ss. parser.clause (Some e) ss) (next_inside (stmts_sound m d b.stmt s.stmts i)) (λ w ss n r. (tt, record { test = q.proper; items = r.proper; fits = then_all (all_word word.CASE d t k) (then_all q.fits (then_all h r.fits)) }))))

    default_sound : (t : Lexeme) → t.kind ≡ kind.Word word.DEFAULT → SoundNext Inside (Past (t ∷ []) IsDefault) (parser.default_of b i)
    unfolding parser.default_of
    default_sound t k = past_bind {E = IsMark mark.COLON d} (expect_sound mark.COLON d) (λ v _ h. next_made (λ ss. parser.clause None ss) (next_inside (stmts_sound m d b.stmt s.stmts i)) (λ w ss n r. (tt, record { test = tt; items = r.proper; fits = then_all (all_word word.DEFAULT d t k) (then_all h r.fits) })))

    case_turn_sound : SoundNext AtFront CaseTurn (parser.case_turn b i)
    unfolding parser.case_turn
    case_turn_sound = next_peek
        (λ t. at_when (is_word word.CASE t.kind)
        (λ e. at_step t (next_made Again (case_sound t (word_known word.CASE t.kind e)) (λ w c n q. q)))
        (λ _. at_ret {a = Stop tt} t refl (λ n f. refl)))
        (next_ret {a = Stop tt} (λ n. refl))

    clause_turn_sound : SoundNext AtFront ClauseTurn (parser.clause_turn b i)
    unfolding parser.clause_turn
    clause_turn_sound = next_peek
        (λ t. at_when (is_word word.CASE t.kind)
        (λ e. at_step t (next_made Again (case_sound t (word_known word.CASE t.kind e)) (λ w c n q. q)))
        (λ _. at_when (is_word word.DEFAULT t.kind)
        (λ e. at_step t (next_made (λ c. Stop (Some c)) (default_sound t (word_known word.DEFAULT t.kind e)) (λ w c n q. q)))
        (λ _. at_ret {a = Stop None} t refl (λ n f. refl))))
        (next_ret {a = Stop None} (λ n. refl))

    more_sound : (o : Option Clause) → SoundNext AtFront (More o) (parser.more_clauses b i o)
    unfolding parser.more_clauses
    more_sound None = next_ret {a = []} (λ n. (refl, refl))
    more_sound (Some c) = next_made (λ x. c ∷ x.items) (next_loop CaseTurn ManyCases (parser.case_turn b i) case_turn_sound
        (λ w u n q. subst (λ x. AreClauses 0 x [] n) (sym q) (no_clauses_are n))
        (λ w v a x n q r. case_before w v a x.items 0 n q.0 q.1 r)
        (record { end = []; of = stopped tt; starts = λ n f. f; is = λ n f. no_clauses_are n })) (λ w x n q. (x.items, refl, q))

    clauses_sound : SoundNext AtFront AtMostOne (parser.clauses_from b i)
    unfolding parser.clauses_from
    clauses_sound = next_bind (next_loop ClauseTurn ManyClauses (parser.clause_turn b i) clause_turn_sound
        (λ w o n q. led_stop w o n q)
        (λ w v a x n q r. led_go w v a x x.last n q r)
        (record { end = []; of = stopped None; starts = λ n f. f; is = λ n f. no_clauses_are n })) (λ w x. next_made (λ cs. x.items ++ cs) (more_sound x.last) (λ v cs n h r. all_of w v x x.last cs n h r))

    at_most_proper : (w : List Lexeme) (cs : List Clause) (n : Lexeme) → AtMostOne w cs n → ProperClauses m i (clauses_of cs)
    at_most_proper w cs n (none_is h) = h.proper
    at_most_proper w cs n (one_is h) = h.proper

    at_most_count : (w : List Lexeme) (cs : List Clause) (n : Lexeme) → AtMostOne w cs n → defaults (clauses_of cs) ≤ 1
    at_most_count w cs n (none_is h) = omega (arith, h.count)
    at_most_count w cs n (one_is h) = omega (arith, h.count)

    at_most_fits : (w : List Lexeme) (cs : List Clause) (n : Lexeme) → AtMostOne w cs n → FitsNext (print_clauses m d (clauses_of cs)) w n
    at_most_fits w cs n (none_is h) = h.fits
    at_most_fits w cs n (one_is h) = h.fits

    pub switch_sound : (p : Place) → is_inside p ≡ i → (t : Lexeme) → t.kind ≡ kind.Word word.SWITCH → SoundNext Inside (Past (t ∷ []) (IsStmt m d p)) (parser.switch_of b i)
    unfolding parser.switch_of
    switch_sound p pi t k =
        past_bind {E = IsParens m d} (parens_sound m d b.exprs s.env) (λ u e q.
        past_bind {E = IsMark mark.OPEN_BRACE d} (expect_sound mark.OPEN_BRACE d) (λ a _ qa.
        next_bind (next_inside clauses_sound) (λ w cs.
        next_made (λ _. tree.Switch e (clauses_of cs)) (close_sound m d b.stmt s.stmts) (λ v _ n h r. record {
          proper = (q.proper, at_most_count w cs (first_of v n) r, subst (λ x. ProperClauses m x (clauses_of cs)) (sym pi) (at_most_proper w cs (first_of v n) r));
          stands = λ _. refl;
          fits = then_all (all_word word.SWITCH d t k) (parens_then m d e q (all_next (all_append qa (close_all w v n (at_most_fits w cs (first_of v n) r) h)) n));
        }))))

-- `try`

module _ (m : Bodies) (d : ℕ) (b : Block) (s : SoundBlock m d b) (p : Place) where
  catch_name_sound : Sound Inside (λ u n. FitsAll (name_piece n d ∷ mark_piece mark.CLOSE_PAREN d ∷ []) u) parser.catch_name
  unfolding parser.catch_name
  catch_name_sound = sound_bind (name_sound d) (λ u n q. sound_made (λ _. n) (expect_sound mark.CLOSE_PAREN d) (λ v _ h. all_append q h))

  abbrev IsCatch : List Lexeme → Option Named → Type 0
  IsCatch u o = FitsAll (print_catch_param o d) u

  catch_sound : Sound Inside IsCatch parser.catch_param
  unfolding parser.catch_param
  catch_sound = sound_peek
      (λ t. plain.at_when (is_mark mark.OPEN_PAREN t.kind)
      (λ e. plain.at_step t (sound_made Some catch_name_sound (λ u n q. all_append (all_mark mark.OPEN_PAREN d t (mark_known mark.OPEN_PAREN t.kind e)) q)))
      (λ _. sound_at t (sound_ret {a = None} all_none)))
      (sound_ret {a = None} all_none)

  pub try_sound : (t : Lexeme) → t.kind ≡ kind.Word word.TRY → SoundNext Inside (Past (t ∷ []) (IsStmt m d p)) (parser.try_of b (is_inside p))
  unfolding parser.try_of
  try_sound t k =
      past_bind {E = IsBlock m d b.stmt s.stmts (is_inside p)} (braced_sound m d b.stmt s.stmts (is_inside p)) (λ u x q.
      past_bind {E = IsWord word.CATCH d} (expect_word_sound word.CATCH d) (λ a _ qa.
      past_bind {E = IsCatch} catch_sound (λ c o qc.
      next_made (λ y. tree.Try x o y) (next_of (braced_sound m d b.stmt s.stmts (is_inside p))) (λ w y n r. record {
        proper = (q.proper, r.proper);
        stands = λ _. refl;
        fits = then_all (all_word word.TRY d t k) (around_then (mark_piece mark.OPEN_BRACE d) (mark_piece mark.CLOSE_BRACE d) (print_stmts m d x) q.fits (then_all qa (then_all qc (all_next r.fits n))));
      }))))
