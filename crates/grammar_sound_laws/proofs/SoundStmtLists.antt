-- Semicolons, lists of statements and bindings: what is read fits its places, and faults can be mended.
use Rattle.std.proofs.Common.{◌≡◌, ℕ, suc, List, [], ◌∷◌, ◌++◌, refl, sym, ap, subst, append_assoc, Bool, true, false, ◌||◌, Option, Some, None}
use Rattle.script_grammar.specs.declared.token.Kind.TheVariants as kind
use Rattle.script_grammar.specs.declared.token.mark.TheConstants as mark
use Rattle.script_grammar.specs.Lexeme.{Lexeme}
use Rattle.script_grammar.specs.Kinds.{is_mark, is_word}
use Rattle.script_grammar.specs.Tree.{Named, Expr, Stmt, Stmts}
use Rattle.script_grammar.specs.TreeLists.{Bind, maybe_expr_of, binds_of, stmts_of}
use Rattle.script_grammar.specs.Pieces.{Bodies, Ending, may_omit, mark_piece, word_piece, name_piece, semi_piece}
use Rattle.script_grammar.specs.Print.{print_stmt, print_stmts, print_binds, print_more_binds, print_initializer}
use Rattle.script_grammar.specs.Proper.{ProperMaybe, ProperStmt, ProperStmts, ProperBinds, HasBinds, maybe_free, binds_free, is_statement, InIf}
use Rattle.grammar_parser_specs.specs.Parser.{Turn, Again, Stop, loop, Many, stopped, begun}
use Rattle.grammar_parser_specs.specs.Exprs.{Env, expect}
use Rattle.grammar_parser_specs.specs.Stmts as parser
use Rattle.grammar_parser_specs.specs.Stmts.{Place, AnItem, AStmt, StmtCalls, is_item, is_inside, bound}
use Rattle.grammar_parser_laws.proofs.Friendly.{AtFront, Inside, friendly_omits}
use Rattle.grammar_parser_laws.proofs.Fitting.{FitsAll, all_none, all_append, all_mark, all_word, lexeme_of_kind}
use Rattle.grammar_parser_laws.proofs.Tests.{mark_known, word_known}
use Rattle.grammar_parser_laws.proofs.Sound.{Sound, Mended, Behind, sound_bind, sound_ret, sound_bad, sound_at, sound_peek, sound_done, sound_some, sound_map, sound_inside, sound_loop, sound_made}
use Rattle.grammar_parser_laws.proofs.Sound as plain
use Rattle.grammar_sound_laws.proofs.SoundNext.{SoundNext, Follows, stands, friendly, next_look, NextAt, Past, Joined, Plain, past_bind, past_at, next_bind, next_made, next_ret, next_bad, next_peek, next_at, at_ret, at_step, at_when, next_inside, next_map, next_loop, plain_of, next_of}
use Rattle.grammar_sound_laws.proofs.SoundNext as next
use Rattle.grammar_parser_laws.proofs.SoundParts.{SoundEnv, in_both, IsMark, IsName, expect_sound, name_sound}
use Rattle.grammar_sound_laws.proofs.StmtFitting.{FitsNext, none_next, all_next, then_next, close_all}

-- a word that must stand here

abbrev pub IsWord : ℕ → ℕ → List Lexeme → Unit {0} → Type 0
IsWord i d u _ = FitsAll (word_piece i d ∷ []) u

pub word_some : (i d : ℕ) → Mended Inside (IsWord i d)
word_some i d = record { end = lexeme_of_kind (kind.Word i) ∷ []; of = tt; starts = tt; is = all_word i d (lexeme_of_kind (kind.Word i)) refl }

pub expect_word_sound : (i d : ℕ) → Sound Inside (IsWord i d) (parser.expect_word i)
unfolding parser.expect_word
expect_word_sound i d = sound_peek (λ t. plain.at_when (is_word i t.kind) (λ e. plain.at_step t (sound_ret {a = tt} (all_word i d t (word_known i t.kind e)))) (λ e. sound_at t (sound_bad (word_some i d)))) (sound_bad (word_some i d))

-- a semicolon

abbrev pub IsSemi : Ending → ℕ → List Lexeme → Bool → Lexeme → Type 0
IsSemi e d u b n = FitsNext (semi_piece e b d) u n

semi_some : (e : Ending) (d : ℕ) → next.Mended Inside (IsSemi e d)
semi_some e d = record { end = lexeme_of_kind (kind.Mark mark.SEMICOLON) ∷ []; of = true; starts = tt; is = λ n f. all_next (all_mark mark.SEMICOLON d (lexeme_of_kind (kind.Mark mark.SEMICOLON)) refl) n }

gap_here : (e : Ending) (d : ℕ) (t : Lexeme) → may_omit e t ≡ true → IsSemi e d [] false t
gap_here e d t h = record { is = (h, tt) }

gap_end : (e : Ending) (d : ℕ) (n : Lexeme) → Follows [] n → IsSemi e d [] false n
gap_end e d n (stands h) = gap_here e d n (ap (may_omit e) h)
gap_end e d n (friendly f) = gap_here e d n (friendly_omits e n f)

pub semi_sound : (e : Ending) (d : ℕ) → SoundNext Inside (IsSemi e d) (parser.semi_of e)
unfolding parser.semi_of
semi_sound e d = next_look
    (λ t. at_when (is_mark mark.SEMICOLON t.kind)
    (λ h. at_step t (next_ret {a = true} (λ n. all_next (all_mark mark.SEMICOLON d t (mark_known mark.SEMICOLON t.kind h)) n)))
    (λ _. at_when (may_omit e t)
    (λ h. at_ret {a = false} t (gap_here e d t h) (λ n f. gap_here e d n (friendly_omits e n f)))
    (λ _. next_at t (next_bad (semi_some e d)))))
    (record { front = []; split = refl; is = λ n f. gap_end e d n f })

module _ (m : Bodies) where
  -- a statement at its place
  pub record IsStmt (d : ℕ) (p : Place) (w : List Lexeme) (s : Stmt) (n : Lexeme) : Type 0 where
    pub proper : ProperStmt m (is_inside p) s
    pub stands : is_item p ≡ false → is_statement s ≡ true
    pub fits : FitsNext (print_stmt m d s) w n

  pub record SoundStmts (d : ℕ) (stmt : StmtCalls) : Type 0 where
    pub at : (p : Place) → SoundNext AtFront (IsStmt (suc d) p) (stmt p)

  -- statements of a list
  pub record AreStmts (d : ℕ) (inside : Bool) (w : List Lexeme) (ss : List Stmt) (n : Lexeme) : Type 0 where
    pub proper : ProperStmts m inside (stmts_of ss)
    pub fits : FitsNext (print_stmts m d (stmts_of ss)) w n

  abbrev pub StmtTurn : ℕ → Bool → List Lexeme → Turn Stmt (Unit {0}) → Lexeme → Type 0
  StmtTurn d inside w (Again s) n = IsStmt (suc d) (AnItem inside) w s n
  StmtTurn d inside w (Stop b) n = w ≡ []

  abbrev pub ManyStmts : ℕ → Bool → List Lexeme → Many Stmt (Unit {0}) → Lexeme → Type 0
  ManyStmts d inside w x n = AreStmts d inside w x.items n

  no_stmts_are : (d : ℕ) (inside : Bool) (n : Lexeme) → AreStmts d inside [] [] n
  no_stmts_are d inside n = record { proper = tt; fits = none_next }

  module _ (d : ℕ) (stmt : StmtCalls) (s : SoundStmts d stmt) where
    stmt_turn_sound : (inside : Bool) → SoundNext AtFront (StmtTurn d inside) (parser.stmt_turn stmt inside)
    unfolding parser.stmt_turn
    stmt_turn_sound inside = next_peek
        (λ t. at_when (parser.ends_items t.kind)
        (λ h. at_ret {a = Stop tt} t refl (λ n f. refl))
        (λ _. next_at t (next_made Again (s.at (AnItem inside)) (λ w a n q. q))))
        (next_ret {a = Stop tt} (λ n. refl))

    pub stmts_sound : (inside : Bool) → SoundNext AtFront (AreStmts d inside) (parser.stmts_from stmt inside)
    unfolding parser.stmts_from
    stmts_sound inside = next_made (λ x. x.items) (next_loop (StmtTurn d inside) (ManyStmts d inside) (parser.stmt_turn stmt inside) (stmt_turn_sound inside)
        (λ w b n q. subst (λ x. AreStmts d inside x [] n) (sym q) (no_stmts_are d inside n))
        (λ w v a x n q r. record { proper = (q.proper, r.proper); fits = then_next w v q.fits r.fits })
        (record { end = []; of = stopped tt; starts = λ n f. f; is = λ n f. no_stmts_are d inside n })) (λ w x n q. q)

    -- statements in braces
    pub record IsBlock (inside : Bool) (u : List Lexeme) (ss : Stmts) : Type 0 where
      pub proper : ProperStmts m inside ss
      pub fits : FitsAll (mark_piece mark.OPEN_BRACE d ∷ (print_stmts m d ss ++ mark_piece mark.CLOSE_BRACE d ∷ [])) u

    close_mended : next.Mended AtFront (Plain (IsMark mark.CLOSE_BRACE d))
    close_mended = record { end = lexeme_of_kind (kind.Mark mark.CLOSE_BRACE) ∷ []; of = tt; starts = λ n f. record { omits = refl }; is = λ n f. all_mark mark.CLOSE_BRACE d (lexeme_of_kind (kind.Mark mark.CLOSE_BRACE)) refl }

    pub close_sound : SoundNext AtFront (Plain (IsMark mark.CLOSE_BRACE d)) (expect mark.CLOSE_BRACE)
    unfolding expect
    close_sound = next_peek (λ t. at_when (is_mark mark.CLOSE_BRACE t.kind) (λ h. at_step t (next_ret {a = tt} (λ n. all_mark mark.CLOSE_BRACE d t (mark_known mark.CLOSE_BRACE t.kind h)))) (λ h. next_at t (next_bad close_mended))) (next_bad close_mended)

    -- after the first brace
    pub braced_from_sound : (inside : Bool) (u : List Lexeme) → IsMark mark.OPEN_BRACE d u tt → SoundNext Inside (Past u (Plain (IsBlock inside))) (parser.braced_from stmt inside)
    unfolding parser.braced_from
    braced_from_sound inside u q = next_bind (next_inside (stmts_sound inside)) (λ w ss. next_made (λ _. stmts_of ss) close_sound (λ v _ n h r. record { proper = r.proper; fits = all_append q (close_all w v n r.fits h) }))

    pub braced_sound : (inside : Bool) → Sound Inside (IsBlock inside) (parser.braced_of stmt inside)
    unfolding parser.braced_of
    braced_sound inside = plain_of (past_bind {E = IsMark mark.OPEN_BRACE d} (expect_sound mark.OPEN_BRACE d) (λ u _ q. braced_from_sound inside u q))

-- bindings

module _ (m : Bodies) (d : ℕ) where
  pub record IsValue (w : Bool) (u : List Lexeme) (o : Option Expr) : Type 0 where
    pub proper : ProperMaybe m (maybe_expr_of o)
    pub in_if : InIf w (maybe_free (maybe_expr_of o))
    pub fits : FitsAll (print_initializer m d (maybe_expr_of o)) u

  pub record IsBind (w : Bool) (u : List Lexeme) (x : Bind) : Type 0 where
    pub proper : ProperMaybe m (maybe_expr_of x.value)
    pub in_if : InIf w (maybe_free (maybe_expr_of x.value))
    pub fits : FitsAll (name_piece x.name d ∷ print_initializer m d (maybe_expr_of x.value)) u

  abbrev pub BindTurn : Bool → List Lexeme → Turn Bind (Unit {0}) → Type 0
  BindTurn w u (Again x) = ProperMaybe m (maybe_expr_of x.value) × InIf w (maybe_free (maybe_expr_of x.value)) × FitsAll (mark_piece mark.COMMA d ∷ name_piece x.name d ∷ print_initializer m d (maybe_expr_of x.value)) u
  BindTurn w u (Stop b) = u ≡ []

  pub record MoreBinds (w : Bool) (u : List Lexeme) (x : Many Bind (Unit {0})) : Type 0 where
    pub proper : ProperBinds m (binds_of x.items)
    pub in_if : InIf w (binds_free (binds_of x.items))
    pub fits : FitsAll (print_more_binds m d (binds_of x.items)) u

  pub record AreBinds (w : Bool) (u : List Lexeme) (x : Many Bind (Unit {0})) : Type 0 where
    pub has : HasBinds (binds_of x.items)
    pub proper : ProperBinds m (binds_of x.items)
    pub in_if : InIf w (binds_free (binds_of x.items))
    pub fits : FitsAll (print_binds m d (binds_of x.items)) u

  in_true : (w : Bool) → (w || true) ≡ true
  in_true true = refl
  in_true false = refl

  more_none : (w : Bool) → MoreBinds w [] (stopped tt)
  more_none w = record { proper = tt; in_if = in_true w; fits = all_none }

  binds_begun : (w : Bool) (u v : List Lexeme) (x : Bind) (y : Many Bind (Unit {0})) → IsBind w u x → MoreBinds w v y → AreBinds w (u ++ v) (begun x y)
  binds_begun w u v x y q r = record {
    has = tt;
    proper = (q.proper, r.proper);
    in_if = in_both w (maybe_free (maybe_expr_of x.value)) (binds_free (binds_of y.items)) q.in_if r.in_if;
    fits = all_append q.fits r.fits;
  }

  more_go : (w : Bool) (u v : List Lexeme) (x : Bind) (y : Many Bind (Unit {0})) → BindTurn w u (Again x) → MoreBinds w v y → MoreBinds w (u ++ v) (begun x y)
  more_go w u v x y q r = record {
    proper = (q.0, r.proper);
    in_if = in_both w (maybe_free (maybe_expr_of x.value)) (binds_free (binds_of y.items)) q.1 r.in_if;
    fits = all_append q.2 r.fits;
  }

  module _ (v : Env) (s : SoundEnv m d v) where
    value_sound : (w : Bool) → Sound Inside (IsValue w) (parser.value_of v w)
    unfolding parser.value_of
    value_sound w = sound_peek
        (λ t. plain.at_when (is_mark mark.ASSIGN t.kind)
        (λ h. plain.at_step t (sound_made Some (sound_inside (s.calls.assign w)) (λ u e q. record { proper = (q.rank_le, q.proper); in_if = q.in_if; fits = all_append (all_mark mark.ASSIGN d t (mark_known mark.ASSIGN t.kind h)) q.fits })))
        (λ _. sound_at t (sound_ret {a = None} (record { proper = tt; in_if = in_true w; fits = all_none }))))
        (sound_ret {a = None} (record { proper = tt; in_if = in_true w; fits = all_none }))

    -- after the name
    pub bind_from_sound : (w : Bool) (u : List Lexeme) (n : Named) → IsName d u n → Sound Inside (Behind u (IsBind w)) (parser.bind_from v w n)
    unfolding parser.bind_from
    bind_from_sound w u n h = sound_made (bound n) (value_sound w) (λ x o q. record { proper = q.proper; in_if = q.in_if; fits = all_append h q.fits })

    bind_sound : (w : Bool) → Sound Inside (IsBind w) (parser.bind_of v w)
    unfolding parser.bind_of
    bind_sound w = sound_bind (name_sound d) (λ u n q. bind_from_sound w u n q)

    bind_turn_sound : (w : Bool) → Sound Inside (BindTurn w) (parser.bind_turn v w)
    unfolding parser.bind_turn
    bind_turn_sound w = sound_peek
        (λ t. plain.at_when (is_mark mark.COMMA t.kind)
        (λ h. plain.at_step t (sound_made Again (bind_sound w) (λ u x q. (q.proper, q.in_if, all_append (all_mark mark.COMMA d t (mark_known mark.COMMA t.kind h)) q.fits))))
        (λ _. sound_at t (sound_ret {a = Stop tt} refl)))
        (sound_ret {a = Stop tt} refl)

    more_binds_sound : (w : Bool) → Sound Inside (MoreBinds w) (loop (parser.bind_turn v w))
    more_binds_sound w = sound_loop (BindTurn w) (MoreBinds w) (parser.bind_turn v w) (bind_turn_sound w)
        (λ u b q. subst (λ x. MoreBinds w x (stopped tt)) (sym q) (more_none w))
        (λ u x a y q r. more_go w u x a y q r)
        (record { end = []; of = stopped tt; starts = tt; is = more_none w })

    -- after the first name
    pub binds_from_sound : (w : Bool) (u : List Lexeme) (n : Named) → IsName d u n → Sound Inside (Behind u (AreBinds w)) (parser.binds_from v w n)
    unfolding parser.binds_from
    binds_from_sound w u n h = sound_bind (bind_from_sound w u n h) (λ x y q. sound_made (begun y) (more_binds_sound w) (λ z ys r. subst (λ o. AreBinds w o (begun y ys)) (append_assoc u x z) (binds_begun w (u ++ x) z y ys q r)))
