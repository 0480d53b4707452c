-- Statements that hold no list of clauses and no `for` head: what is read fits its places, and faults can be mended.
use Rattle.std.proofs.Common.{◌≡◌, ℕ, suc, List, [], ◌∷◌, ◌++◌, refl, ap, ◌∙◌, subst, append_assoc, Bool, true, false, ◌&&◌, ◌||◌, not, Option, Some, None}
use Rattle.script_grammar.specs.declared.token.Kind.{Kind}
use Rattle.script_grammar.specs.declared.token.Kind.TheVariants as kind
use Rattle.script_grammar.specs.declared.token.mark.TheConstants as mark
use Rattle.script_grammar.specs.declared.token.word.TheConstants as word
use Rattle.script_grammar.specs.Lexeme.{Lexeme}
use Rattle.script_grammar.specs.Kinds.{is_mark, is_word, is_name, is_end}
use Rattle.script_grammar.specs.Tree.{Named, Expr, Stmt, Stmts, MaybeStmt, Function}
use Rattle.script_grammar.specs.Tree as tree
use Rattle.script_grammar.specs.TreeLists.{maybe_expr_of, maybe_stmt_of}
use Rattle.script_grammar.specs.Pieces.{Bodies, Piece, Keyword, DoWhile, begins_with, mark_piece, glue}
use Rattle.script_grammar.specs.Endings.{ending, return_ending}
use Rattle.script_grammar.specs.Print.{print, print_else, print_label, print_maybe}
use Rattle.script_grammar.specs.Proper.{Proper, ProperOption, ProperElse, ElseIsNearest, takes_else}
use Rattle.grammar_parser_specs.specs.Parser.{Reply, Read, Bad, Deep}
use Rattle.grammar_parser_specs.specs.Exprs.{Env, expr_of, named}
use Rattle.grammar_parser_specs.specs.Stmts as parser
use Rattle.grammar_parser_specs.specs.Stmts.{Place, AnItem, AStmt, StmtCalls, Block, is_item, is_inside}
use Rattle.grammar_parser_laws.proofs.Friendly.{AtFront, Inside, Friendly}
use Rattle.grammar_parser_laws.proofs.Fitting.{FitsAll, all_none, all_append, all_mark, all_word, all_placed, fits_glued_name, lexeme_of_kind, zero_lexeme, zero_starts}
use Rattle.grammar_parser_laws.proofs.Tests.{false_true, and_left, and_right, not_true, neither_left, word_known, name_known}
use Rattle.grammar_parser_laws.proofs.Sound.{Sound, SoundAt, Mended, Behind, Begun, BeginsAt, here, started, sound_bind, sound_ret, sound_bad, sound_at, sound_peek, sound_done, sound_some, sound_map, sound_inside, sound_loop, sound_made, sound_first, at_map, outcome_noted}
use Rattle.grammar_parser_laws.proofs.Sound as plain
use Rattle.grammar_sound_laws.proofs.SoundNext.{SoundNext, NextAt, Past, Joined, Plain, past_bind, past_at, next_bind, next_made, next_ret, next_bad, next_peek, next_look, next_at, at_ret, at_step, at_when, next_when, next_inside, next_map, next_loop, plain_of, next_of}
use Rattle.grammar_sound_laws.proofs.SoundNext as next
use Rattle.grammar_parser_laws.proofs.SoundParts.{IsExpr, SoundEnv, IsName, expect_sound}
use Rattle.grammar_sound_laws.proofs.SoundLists.{expr_sound}
use Rattle.grammar_sound_laws.proofs.StmtFitting.{FitsNext, none_next, all_next, then_all, then_next, next_all, same_pieces, glue_all}
use Rattle.grammar_sound_laws.proofs.StmtNext.{front_bind}
use Rattle.grammar_parser_laws.proofs.Begins.{begins_not}
use Rattle.grammar_sound_laws.proofs.SoundStmtLists.{IsStmt, SoundStmts, IsWord, semi_sound, braced_from_sound}

-- after what stands between two lexemes
pub around_then : (x y : Piece) (ps : List Piece) {b : List Piece} {u v : List Lexeme} {n : Lexeme} → FitsAll (x ∷ (ps ++ y ∷ [])) u → FitsNext b v n → FitsNext (x ∷ (ps ++ (y ∷ b))) (u ++ v) n
around_then x y ps {b = b} h k = same_pieces (ap (λ z. x ∷ z) (append_assoc ps (y ∷ []) b)) (then_all h k)

pub around_all : (x y : Piece) (ps : List Piece) {b : List Piece} {u v : List Lexeme} → FitsAll (x ∷ (ps ++ y ∷ [])) u → FitsAll b v → FitsAll (x ∷ (ps ++ (y ∷ b))) (u ++ v)
around_all x y ps h k = next_all (λ n. around_then x y ps h (all_next k n))

pub record SoundBlock (m : Bodies) (d : ℕ) (b : Block) : Type 0 where
  pub env : SoundEnv m d b.exprs
  pub stmts : SoundStmts m d b.stmt
  pub label : (t : Lexeme) → is_name t.kind ≡ true → SoundAt AtFront (IsName (suc d)) t b.label

-- the shortest statement that a fault at the front is mended by: `0;`
pub zero_stmt : (m : Bodies) (d : ℕ) (p : Place) → next.Mended AtFront (IsStmt m d p)
zero_stmt m d p = record {
  end = zero_lexeme ∷ lexeme_of_kind (kind.Mark mark.SEMICOLON) ∷ [];
  of = tree.Value (tree.Number 0 0) true;
  starts = λ n f. zero_starts.friendly;
  is = λ n f. record { proper = (refl, refl, tt); stands = λ _. refl; fits = record { is = (record { kind = refl; content = refl; starts = (refl, tt); ends = tt; line = λ l. absurd (false_true l) }, (record { kind = refl; content = tt; starts = tt; ends = tt; line = λ l. absurd (false_true l) }, tt)) } };
}

-- an expression that begins with neither `{` nor `function`

pub begun_not : (m : Bodies) (d : ℕ) (f : Kind → Bool) (t : Lexeme) (w : List Lexeme) (e : Expr) → f t.kind ≡ false → f kind.Number ≡ false → FitsAll (print m d e) w → Begun t w → begins_with f (print m d e) ≡ false
begun_not m d f t [] e h z q (here x) = absurd x
begun_not m d f t (u ∷ w) e h z q (here x) = begins_not f _ u w q (ap (λ y. f y.kind) x ∙ h)
begun_not m d f t w e h z q (started u v s k) = begins_not f _ u v (subst (λ x. FitsAll (print m d e) x) s q) (ap f k.number ∙ z)

module _ (m : Bodies) (d : ℕ) where
  -- an Expression in parentheses
  pub record IsParens (u : List Lexeme) (e : Expr) : Type 0 where
    pub proper : Proper m e
    pub fits : FitsAll (mark_piece mark.OPEN_PAREN d ∷ (print m (suc d) e ++ mark_piece mark.CLOSE_PAREN d ∷ [])) u

  pub parens_sound : (v : Env) → SoundEnv m d v → Sound Inside IsParens (parser.parens_of v)
  unfolding parser.parens_of
  parens_sound v s = sound_bind (expect_sound mark.OPEN_PAREN d) (λ u _ q. sound_bind (sound_inside (expr_sound m d v s true)) (λ w e r. sound_made (λ _. e) (expect_sound mark.CLOSE_PAREN d) (λ x _ h. record { proper = r.proper; fits = all_append q (all_append r.fits h) })))

  pub parens_then : (e : Expr) {u : List Lexeme} {b : List Piece} {v : List Lexeme} {n : Lexeme} → IsParens u e → FitsNext b v n → FitsNext (mark_piece mark.OPEN_PAREN d ∷ (print m (suc d) e ++ (mark_piece mark.CLOSE_PAREN d ∷ b))) (u ++ v) n
  parens_then e q k = around_then (mark_piece mark.OPEN_PAREN d) (mark_piece mark.CLOSE_PAREN d) (print m (suc d) e) q.fits k

  -- an `else`

  pub record IsElse (i : Bool) (x : Stmt) (w : List Lexeme) (o : Option Stmt) (n : Lexeme) : Type 0 where
    pub proper : ProperElse m i (maybe_stmt_of o)
    pub nearest : ElseIsNearest x (maybe_stmt_of o)
    pub fits : FitsNext (print_else m d (maybe_stmt_of o)) w n

  no_else : (i : Bool) (x : Stmt) (n : Lexeme) → IsElse i x [] None n
  no_else i x n = record { proper = tt; nearest = tt; fits = none_next }

  -- a word at the front

  word_front : (i : ℕ) → Friendly (record { kind = kind.Word i; text = []; number = 0; role = zero_lexeme.role; start = 0; end = 0; after_line = true }) → next.Mended AtFront (Plain (IsWord i d))
  word_front i h = record {
    end = record { kind = kind.Word i; text = []; number = 0; role = zero_lexeme.role; start = 0; end = 0; after_line = true } ∷ [];
    of = tt;
    starts = λ n f. h;
    is = λ n f. all_word i d (record { kind = kind.Word i; text = []; number = 0; role = zero_lexeme.role; start = 0; end = 0; after_line = true }) refl;
  }

  word_next : (i : ℕ) → next.Mended AtFront (Plain (IsWord i d)) → SoundNext AtFront (Plain (IsWord i d)) (parser.expect_word i)
  unfolding parser.expect_word
  word_next i z = next_peek (λ t. at_when (is_word i t.kind) (λ h. at_step t (next_ret {a = tt} (λ n. all_word i d t (word_known i t.kind h)))) (λ h. next_at t (next_bad z))) (next_bad z)

  module _ (b : Block) (s : SoundBlock m d b) (p : Place) where
    else_sound : (x : Stmt) → takes_else x ≡ false → SoundNext AtFront (IsElse (is_inside p) x) (parser.else_of b (is_inside p))
    unfolding parser.else_of
    else_sound x h = next_peek
        (λ t. at_when (is_word word.ELSE t.kind)
        (λ e. at_step t (next_made Some (next_inside (s.stmts.at (AStmt (is_inside p)))) (λ w y n r. record { proper = (r.stands refl, r.proper); nearest = h; fits = then_all (all_word word.ELSE d t (word_known word.ELSE t.kind e)) r.fits })))
        (λ _. at_ret {a = None} t (no_else (is_inside p) x t) (λ n f. no_else (is_inside p) x n)))
        (next_ret {a = None} (λ n. no_else (is_inside p) x n))

    else_behind_sound : (x : Stmt) → SoundNext AtFront (IsElse (is_inside p) x) (parser.else_behind b (is_inside p) x)
    else_behind_sound x = next_when (takes_else x) (λ _. next_ret {a = None} (λ n. no_else (is_inside p) x n)) (λ h. else_sound x h)

    pub if_sound : (t : Lexeme) → t.kind ≡ kind.Word word.IF → SoundNext Inside (Past (t ∷ []) (IsStmt m d p)) (parser.if_of b (is_inside p))
    unfolding parser.if_of
    if_sound t k = past_bind {E = IsParens} (parens_sound b.exprs s.env) (λ u e q. next_bind (next_inside (s.stmts.at (AStmt (is_inside p)))) (λ w x. next_made (λ o. tree.If e x (maybe_stmt_of o)) (else_behind_sound x) (λ v o n h r. record {
      proper = (q.proper, r.stands refl, r.proper, h.nearest, h.proper);
      stands = λ _. refl;
      fits = then_all (all_word word.IF d t k) (parens_then e q (then_next w v r.fits h.fits));
    })))

    pub while_sound : (t : Lexeme) → t.kind ≡ kind.Word word.WHILE → SoundNext Inside (Past (t ∷ []) (IsStmt m d p)) (parser.while_of b (is_inside p))
    unfolding parser.while_of
    while_sound t k = past_bind {E = IsParens} (parens_sound b.exprs s.env) (λ u e q. next_made (tree.While e) (next_inside (s.stmts.at (AStmt (is_inside p)))) (λ w x n r. record {
      proper = (q.proper, r.stands refl, r.proper);
      stands = λ _. refl;
      fits = then_all (all_word word.WHILE d t k) (parens_then e q r.fits);
    }))

    no_word : (i : ℕ) (a : Unit {0}) → IsWord i d [] a → ⊥
    no_word i a h = h.before zero_lexeme

    pub do_sound : (t : Lexeme) → t.kind ≡ kind.Word word.DO → SoundNext Inside (Past (t ∷ []) (IsStmt m d p)) (parser.do_of b (is_inside p))
    unfolding parser.do_of
    do_sound t k = next_bind (next_inside (s.stmts.at (AStmt (is_inside p)))) (λ w x. front_bind (IsWord word.WHILE d) (Joined (IsStmt m (suc d) (AStmt (is_inside p))) w x (Past (t ∷ []) (IsStmt m d p))) (no_word word.WHILE) _ (λ a _ qa. past_bind {E = IsParens} (parens_sound b.exprs s.env) (λ u e q. next_made (λ y. tree.Do x e y) (semi_sound DoWhile d) (λ v y n h r. record {
      proper = (r.stands refl, r.proper, q.proper);
      stands = λ _. refl;
      fits = then_all (all_word word.DO d t k) (then_next w (a ++ (u ++ v)) r.fits (then_all qa (parens_then e q h)));
    }))) (parser.expect_word word.WHILE) (word_next word.WHILE (word_front word.WHILE (record { omits = refl }))))

    pub block_sound : (t : Lexeme) → t.kind ≡ kind.Mark mark.OPEN_BRACE → SoundNext Inside (Past (t ∷ []) (IsStmt m d p)) (parser.block_stmt b (is_inside p))
    unfolding parser.block_stmt
    block_sound t k = next_made tree.Block (braced_from_sound m d b.stmt s.stmts (is_inside p) (t ∷ []) (all_mark mark.OPEN_BRACE d t k)) (λ u x n q. record { proper = q.proper; stands = λ _. refl; fits = all_next q.fits n })

    pub debugger_sound : (t : Lexeme) → t.kind ≡ kind.Word word.DEBUGGER → SoundNext Inside (Past (t ∷ []) (IsStmt m d p)) parser.debugger_of
    unfolding parser.debugger_of
    debugger_sound t k = next_made tree.Debugger (semi_sound Keyword d) (λ u y n q. record { proper = tt; stands = λ _. refl; fits = then_all (all_word word.DEBUGGER d t k) q })

    -- jumps

    abbrev pub IsLabel : List Lexeme → Option Named → Type 0
    IsLabel u o = FitsAll (print_label o d) u

    label_sound : Sound Inside IsLabel parser.label_name
    unfolding parser.label_name
    label_sound = sound_peek
        (λ t. plain.at_when (is_name t.kind && not t.after_line)
        (λ h. plain.at_step t (sound_ret {a = Some (named t)} (record { before = λ n. fits_glued_name d t n (name_known t.kind (and_left (is_name t.kind) (not t.after_line) h)) (not_true t.after_line (and_right (is_name t.kind) (not t.after_line) h)) })))
        (λ _. sound_at t (sound_ret {a = None} all_none)))
        (sound_ret {a = None} all_none)

    pub continue_sound : (t : Lexeme) → t.kind ≡ kind.Word word.CONTINUE → SoundNext Inside (Past (t ∷ []) (IsStmt m d p)) (parser.continue_of t.start)
    unfolding parser.continue_of
    continue_sound t k = past_bind {E = IsLabel} label_sound (λ u l q. next_made (λ y. tree.Continue t.start l y) (semi_sound Keyword d) (λ v y n h. record { proper = tt; stands = λ _. refl; fits = then_all (all_placed (kind.Word word.CONTINUE) d t k) (then_all q h) }))

    pub break_sound : (t : Lexeme) → t.kind ≡ kind.Word word.BREAK → SoundNext Inside (Past (t ∷ []) (IsStmt m d p)) (parser.break_of t.start)
    unfolding parser.break_of
    break_sound t k = past_bind {E = IsLabel} label_sound (λ u l q. next_made (λ y. tree.Break t.start l y) (semi_sound Keyword d) (λ v y n h. record { proper = tt; stands = λ _. refl; fits = then_all (all_placed (kind.Word word.BREAK) d t k) (then_all q h) }))

    -- A value on the line of its word. Where a fault comes before it begins, the end is one that needs no line.

    abbrev Whole : List Lexeme → Expr → Type 0
    Whole u e = IsExpr m true (suc d) 21 u e

    pub record IsThrown (u : List Lexeme) (e : Expr) : Type 0 where
      pub proper : Proper m e
      pub fits : FitsAll (glue (print m (suc d) e)) u

    thrown : (t x : Lexeme) (w : List Lexeme) (e : Expr) → t.after_line ≡ false → x ≡ t → Whole (x ∷ w) e → IsThrown (x ∷ w) e
    thrown t x w e l h q = record { proper = q.proper; fits = glue_all (print m (suc d) e) x w (ap (λ y. y.after_line) h ∙ l) q.fits }

    plain_zero : IsThrown (lexeme_of_kind kind.Number ∷ []) (tree.Number 0 0)
    plain_zero = record { proper = tt; fits = record { before = λ n. (record { kind = refl; content = refl; starts = (refl, tt); ends = tt; line = λ _. refl }, tt) } }

    throw_read : (t : Lexeme) (ts w us : List Lexeme) (e : Expr) → t.after_line ≡ false → t ∷ ts ≡ w ++ us → plain.Reads AtFront w → Whole w e → IsThrown w e
    throw_read t ts [] us e l h r q = absurd r
    throw_read t ts (x ∷ w) us e l h r q = thrown t x w e l (cc) q

    throw_bad : (t : Lexeme) (ts w us v : List Lexeme) (e : Expr) → t.after_line ≡ false → t ∷ ts ≡ w ++ us → Whole (w ++ v) e → plain.Ended Inside IsThrown (t ∷ ts) us
    throw_bad t ts [] us v e l h q = record { front = []; split = h; end = lexeme_of_kind kind.Number ∷ []; of = tree.Number 0 0; starts = tt; is = plain_zero }
    throw_bad t ts (x ∷ w) us v e l h q = record { front = x ∷ w; split = h; end = v; of = e; starts = tt; is = thrown t x (w ++ v) e l (cc) q }

    throw_deep : (t : Lexeme) (ts w us : List Lexeme) (x : Lexeme) (bs v : List Lexeme) (e : Expr) → t.after_line ≡ false → t ∷ ts ≡ w ++ us → us ≡ x ∷ bs → Whole (w ++ x ∷ v) e → plain.Sunk IsThrown (t ∷ ts) us
    throw_deep t ts [] us x bs v e l h k q = record { front = []; split = h; token = x; behind = bs; first = k; end = v; of = e; is = thrown t x v e l (cc) q }
    throw_deep t ts (y ∷ w) us x bs v e l h k q = record { front = y ∷ w; split = h; token = x; behind = bs; first = k; end = v; of = e; is = thrown t y (w ++ x ∷ v) e l (cc) q }

    throw_outcome : (t : Lexeme) (ts : List Lexeme) (r : Reply Expr) → t.after_line ≡ false → plain.Outcome AtFront Whole Whole (t ∷ ts) r → plain.Outcome Inside IsThrown IsThrown (t ∷ ts) r
    throw_outcome t ts (Read e rs us) l o = record { front = o.front; split = o.split; some = tt; is = throw_read t ts o.front us e l o.split o.some o.is }
    throw_outcome t ts (Bad rs us) l o = throw_bad t ts o.front us o.end o.of l o.split o.is
    throw_outcome t ts (Deep rs us) l o = throw_deep t ts o.front us o.token o.behind o.end o.of l o.split o.first o.is

    thrown_at : (t : Lexeme) → t.after_line ≡ false → SoundAt Inside IsThrown t (expr_of b.exprs true)
    thrown_at t l = record { first = λ ts. throw_outcome t ts (expr_of b.exprs true (t ∷ ts)) l ((expr_sound m d b.exprs s.env true).at (t ∷ ts)) }

    thrown_some : Mended Inside IsThrown
    thrown_some = record { end = lexeme_of_kind kind.Number ∷ []; of = tree.Number 0 0; starts = tt; is = plain_zero }

    thrown_end : (r : Reply Expr) → plain.Outcome AtFront Whole Whole [] r → plain.Outcome Inside IsThrown IsThrown [] r
    thrown_end (Read e rs us) o = absurd (none o.front us o.some o.split)
      where
        none : (w us : List Lexeme) → plain.Reads AtFront w → [] ≡ w ++ us → ⊥
        none [] us h e = h
        none (x ∷ w) us h e = absurd (cc)
    thrown_end (Bad rs us) o = record { front = []; split = all_left o.front us o.split; end = lexeme_of_kind kind.Number ∷ []; of = tree.Number 0 0; starts = tt; is = plain_zero }
      where
        all_left : (w us : List Lexeme) → [] ≡ w ++ us → [] ≡ us
        all_left [] us e = e
        all_left (x ∷ w) us e = absurd (cc)
    thrown_end (Deep rs us) o = absurd (none o.front us o.token o.behind o.split o.first)
      where
        none : (w us : List Lexeme) (x : Lexeme) (bs : List Lexeme) → [] ≡ w ++ us → us ≡ x ∷ bs → ⊥
        none [] us x bs e h = absurd (cc)
        none (y ∷ w) us x bs e h = absurd (cc)

    thrown_sound : Sound Inside IsThrown (parser.thrown_of b.exprs)
    unfolding parser.thrown_of
    thrown_sound = plain.sound_look
        (λ t. plain.at_when t.after_line (λ _. sound_at t (sound_bad thrown_some)) (λ l. thrown_at t l))
        (thrown_end (expr_of b.exprs true []) ((expr_sound m d b.exprs s.env true).at []))

    pub throw_sound : (t : Lexeme) → t.kind ≡ kind.Word word.THROW → SoundNext Inside (Past (t ∷ []) (IsStmt m d p)) (parser.throw_of b.exprs)
    unfolding parser.throw_of
    throw_sound t k = past_bind {E = IsThrown} thrown_sound (λ u e q. next_made (tree.Throw e) (semi_sound (ending e) d) (λ v y n h. record { proper = q.proper; stands = λ _. refl; fits = then_all (all_word word.THROW d t k) (then_all q.fits h) }))

    pub record IsReturned (u : List Lexeme) (o : Option Expr) : Type 0 where
      pub proper : ProperOption m (maybe_expr_of o)
      pub fits : FitsAll (glue (print_maybe m (suc d) (maybe_expr_of o))) u

    returned_sound : Sound Inside IsReturned (parser.returned_of b.exprs)
    unfolding parser.returned_of
    returned_sound = sound_peek
        (λ t. plain.at_when (parser.ends_return t)
        (λ _. sound_at t (sound_ret {a = None} (record { proper = tt; fits = all_none })))
        (λ h. plain.at_bind {E = IsThrown} (thrown_at t (neither_line t h)) (λ u e q. sound_done IsReturned u (Some e) (record { proper = q.proper; fits = q.fits })) (λ u e q. plain.some_done IsReturned u (Some e) (record { proper = q.proper; fits = q.fits }))))
        (sound_ret {a = None} (record { proper = tt; fits = all_none }))
      where
        neither_line : (t : Lexeme) → parser.ends_return t ≡ false → t.after_line ≡ false
        neither_line t h = neither_left t.after_line (is_mark mark.SEMICOLON t.kind) (neither_left (t.after_line || is_mark mark.SEMICOLON t.kind) (is_mark mark.CLOSE_BRACE t.kind) (neither_left (t.after_line || is_mark mark.SEMICOLON t.kind || is_mark mark.CLOSE_BRACE t.kind) (is_end t.kind) h))

    pub return_sound : (t : Lexeme) → t.kind ≡ kind.Word word.RETURN → is_inside p ≡ true → SoundNext Inside (Past (t ∷ []) (IsStmt m d p)) (parser.return_of b.exprs)
    unfolding parser.return_of
    return_sound t k i = past_bind {E = IsReturned} returned_sound (λ u o q. next_made (tree.Return (maybe_expr_of o)) (semi_sound (return_ending (maybe_expr_of o)) d) (λ v y n h. record { proper = (i, q.proper); stands = λ _. refl; fits = then_all (all_word word.RETURN d t k) (then_all q.fits h) }))
