-- `for`: what is read fits its places, and faults can be mended.
use Rattle.std.proofs.Common.{◌≡◌, ℕ, suc, List, [], ◌∷◌, ◌++◌, refl, ap, append_assoc, true, false, ◌&&◌, Option, Some, None}
use Rattle.script_grammar.specs.declared.token.Kind.TheVariants as kind
use Rattle.script_grammar.specs.declared.token.mark.TheConstants as mark
use Rattle.script_grammar.specs.declared.token.word.TheConstants as word
use Rattle.script_grammar.specs.declared.token.Decl.{Decl}
use Rattle.script_grammar.specs.declared.token.Decl.TheVariants as decl
use Rattle.script_grammar.specs.Lexeme.{Lexeme}
use Rattle.script_grammar.specs.Kinds.{is_mark, is_word, decl_word}
use Rattle.script_grammar.specs.Tree.{Named, Expr, Stmt, Stmts, MaybeStmt, Function}
use Rattle.script_grammar.specs.Tree as tree
use Rattle.script_grammar.specs.TreeLists.{maybe_expr_of, binds_of}
use Rattle.script_grammar.specs.Pieces.{Bodies, mark_piece, word_piece}
use Rattle.script_grammar.specs.Print.{print_maybe}
use Rattle.script_grammar.specs.Proper.{rank, ProperOption}
use Rattle.grammar_parser_specs.specs.Parser.{bind}
use Rattle.grammar_parser_specs.specs.Exprs.{expr_of}
use Rattle.grammar_parser_specs.specs.Stmts as parser
use Rattle.grammar_parser_specs.specs.Stmts.{Place, AnItem, AStmt, StmtCalls, Block, is_item, is_inside}
use Rattle.grammar_parser_laws.proofs.Friendly.{Inside}
use Rattle.grammar_parser_laws.proofs.Fitting.{FitsAll, all_none, all_append, all_word}
use Rattle.grammar_parser_laws.proofs.Tests.{and_left, and_right, word_known}
use Rattle.grammar_parser_laws.proofs.Sound.{Sound, SoundAt, Mended, Behind, Begun, BeginsAt, here, started, sound_bind, sound_ret, sound_bad, sound_at, sound_peek, sound_done, sound_some, sound_map, sound_inside, sound_loop, sound_made, sound_first, at_map, outcome_noted}
use Rattle.grammar_parser_laws.proofs.Sound as plain
use Rattle.grammar_sound_laws.proofs.SoundNext.{SoundNext, Past, past_bind, next_made, next_peek, next_at, at_step, at_when, next_inside}
use Rattle.grammar_parser_laws.proofs.SoundParts.{IsExpr, IsMark, IsName, expect_sound, name_sound}
use Rattle.grammar_sound_laws.proofs.SoundLists.{expr_sound}
use Rattle.grammar_sound_laws.proofs.StmtFitting.{then_all, same_pieces}
use Rattle.grammar_sound_laws.proofs.StmtNext.{past_assoc}
use Rattle.grammar_sound_laws.proofs.SoundStmtLists.{IsStmt, AreBinds, binds_from_sound}
use Rattle.std.proofs.Common.{nat_le}
use Rattle.std.proofs.lemmas.Bool.{leb-true}
use Rattle.script_grammar.specs.Tree.{Init, Each}
use Rattle.script_grammar.specs.Print.{print_init, print_each}
use Rattle.script_grammar.specs.Proper.{ProperInit, ProperEach, left_rank}
use Rattle.grammar_sound_laws.proofs.SoundStmts.{SoundBlock}

module _ (m : Bodies) (d : ℕ) (b : Block) (s : SoundBlock m d b) (p : Place) where
  -- an Expression, or none
  pub record IsOption (u : List Lexeme) (o : Option Expr) : Type 0 where
    pub proper : ProperOption m (maybe_expr_of o)
    pub fits : FitsAll (print_maybe m (suc d) (maybe_expr_of o)) u

  option_sound : (i : ℕ) → Sound Inside IsOption (parser.option_of b.exprs i)
  unfolding parser.option_of
  option_sound i = sound_peek
      (λ t. plain.at_when (is_mark i t.kind)
      (λ _. sound_at t (sound_ret {a = None} (record { proper = tt; fits = all_none })))
      (λ _. sound_at t (sound_made Some (sound_inside (expr_sound m d b.exprs s.env true)) (λ u e q. record { proper = q.proper; fits = q.fits }))))
      (sound_made Some (sound_inside (expr_sound m d b.exprs s.env true)) (λ u e q. record { proper = q.proper; fits = q.fits }))

  abbrev Target : List Lexeme → Stmt → Lexeme → Type 0
  Target u x n = IsStmt m d p u x n

  -- after what begins the head
  for_from_sound : (u : List Lexeme) (i : Init) → ProperInit m i → FitsAll (word_piece word.FOR d ∷ mark_piece mark.OPEN_PAREN d ∷ print_init m d i) u → SoundNext Inside (Past u Target) (parser.for_from b (is_inside p) i)
  unfolding parser.for_from
  for_from_sound u i h k =
      past_bind {E = IsMark mark.SEMICOLON d} (expect_sound mark.SEMICOLON d) (λ u1 _ q1.
      past_bind {E = IsOption} (option_sound mark.SEMICOLON) (λ u2 x q2.
      past_bind {E = IsMark mark.SEMICOLON d} (expect_sound mark.SEMICOLON d) (λ u3 _ q3.
      past_bind {E = IsOption} (option_sound mark.CLOSE_PAREN) (λ u4 y q4.
      past_bind {E = IsMark mark.CLOSE_PAREN d} (expect_sound mark.CLOSE_PAREN d) (λ u5 _ q5.
      next_made (λ z. tree.For i (maybe_expr_of x) (maybe_expr_of y) z) (next_inside (s.stmts.at (AStmt (is_inside p)))) (λ w z n r. record {
        proper = (h, q2.proper, q4.proper, r.stands refl, r.proper);
        stands = λ _. refl;
        fits = then_all k (then_all q1 (then_all q2.fits (then_all q3 (then_all q4.fits (then_all q5 r.fits)))));
      }))))))

  -- a for-in after its `in`
  for_in_sound : (u : List Lexeme) (i : Each) → ProperEach m i → FitsAll (word_piece word.FOR d ∷ mark_piece mark.OPEN_PAREN d ∷ (print_each m d i ++ word_piece word.IN d ∷ [])) u → SoundNext Inside (Past u Target) (parser.for_in_from b (is_inside p) i)
  unfolding parser.for_in_from
  for_in_sound u i h k =
      past_bind {E = IsExpr m true (suc d) 21} (sound_inside (expr_sound m d b.exprs s.env true)) (λ u1 e q1.
      past_bind {E = IsMark mark.CLOSE_PAREN d} (expect_sound mark.CLOSE_PAREN d) (λ u2 _ q2.
      next_made (λ z. tree.ForIn i e z) (next_inside (s.stmts.at (AStmt (is_inside p)))) (λ w z n r. record {
        proper = (h, q1.proper, r.stands refl, r.proper);
        stands = λ _. refl;
        fits = same_pieces (ap (λ x. word_piece word.FOR d ∷ mark_piece mark.OPEN_PAREN d ∷ x) (append_assoc (print_each m d i) (word_piece word.IN d ∷ []) _)) (then_all k (then_all q1.fits (then_all q2 r.fits)));
      })))

  abbrev HeadOf : List Lexeme → Type 0
  HeadOf u = FitsAll (word_piece word.FOR d ∷ mark_piece mark.OPEN_PAREN d ∷ []) u

  -- after a declaration's word and a name
  for_named_sound : (u x : List Lexeme) (c : Decl) (n : Named) → FitsAll (word_piece word.FOR d ∷ mark_piece mark.OPEN_PAREN d ∷ word_piece (decl_word c) d ∷ []) u → IsName d x n → SoundNext Inside (Past x (Past u Target)) (parser.for_named b (is_inside p) c n)
  unfolding parser.for_named
  for_named_sound u x c n h k = next_peek
      (λ t. at_when (is_word word.IN t.kind)
      (λ e. at_step t (past_assoc (Past u Target) x (t ∷ []) (past_assoc Target u (x ++ t ∷ []) (for_in_sound (u ++ (x ++ t ∷ [])) (tree.BindEach c n) tt (all_append h (all_append k (all_word word.IN d t (word_known word.IN t.kind e))))))))
      (λ _. next_at t named_binds))
      named_binds
    where
      named_binds : SoundNext Inside (Past x (Past u Target)) (bind (parser.binds_from b.exprs false n) (λ y. parser.for_from b (is_inside p) (tree.BindsInit c (binds_of y.items))))
      named_binds = past_bind {E = Behind x (AreBinds m d false)} (binds_from_sound m d b.exprs s.env false x n k) (λ u1 y q. past_assoc (Past u Target) x u1 (past_assoc Target u (x ++ u1) (for_from_sound (u ++ (x ++ u1)) (tree.BindsInit c (binds_of y.items)) (q.has, q.in_if, q.proper) (all_append h q.fits))))

  for_decl_sound : (u : List Lexeme) (c : Decl) → FitsAll (word_piece word.FOR d ∷ mark_piece mark.OPEN_PAREN d ∷ word_piece (decl_word c) d ∷ []) u → SoundNext Inside (Past u Target) (parser.for_decl b (is_inside p) c)
  unfolding parser.for_decl
  for_decl_sound u c h = past_bind {E = IsName d} (name_sound d) (λ x n q. for_named_sound u x c n h q)

  -- after an Expression
  for_valued_sound : (u x : List Lexeme) (e : Expr) → HeadOf u → IsExpr m false (suc d) 21 x e → SoundNext Inside (Past x (Past u Target)) (parser.for_valued b (is_inside p) e)
  unfolding parser.for_valued
  for_valued_sound u x e h q = next_peek
      (λ t. at_when (is_word word.IN t.kind && nat_le (rank e) left_rank)
      (λ c. at_step t (past_assoc (Past u Target) x (t ∷ []) (past_assoc Target u (x ++ t ∷ []) (for_in_sound (u ++ (x ++ t ∷ [])) (tree.TargetEach e) (leb-true (rank e) left_rank (and_right (is_word word.IN t.kind) (nat_le (rank e) left_rank) c), q.proper) (all_append h (all_append q.fits (all_word word.IN d t (word_known word.IN t.kind (and_left (is_word word.IN t.kind) (nat_le (rank e) left_rank) c)))))))))
      (λ _. next_at t valued_init))
      valued_init
    where
      valued_init : SoundNext Inside (Past x (Past u Target)) (parser.for_from b (is_inside p) (tree.ValueInit e))
      valued_init = past_assoc Target u x (for_from_sound (u ++ x) (tree.ValueInit e) (q.in_if, q.proper) (all_append h q.fits))

  for_head_sound : (u : List Lexeme) → HeadOf u → SoundNext Inside (Past u Target) (parser.for_head b (is_inside p))
  unfolding parser.for_head
  for_head_sound u h = next_peek
      (λ t. at_when (is_mark mark.SEMICOLON t.kind)
      (λ _. next_at t (for_from_sound u tree.NoInit tt h))
      (λ _. at_when (is_word word.VAR t.kind) (λ e. at_step t (decl_at t decl.Var (word_known word.VAR t.kind e)))
      (λ _. at_when (is_word word.LET t.kind) (λ e. at_step t (decl_at t decl.Let (word_known word.LET t.kind e)))
      (λ _. at_when (is_word word.CONST t.kind) (λ e. at_step t (decl_at t decl.Const (word_known word.CONST t.kind e)))
      (λ _. next_at t head_value)))))
      head_value
    where
      decl_at : (t : Lexeme) (c : Decl) → t.kind ≡ kind.Word (decl_word c) → SoundNext Inside (Past (t ∷ []) (Past u Target)) (parser.for_decl b (is_inside p) c)
      decl_at t c e = past_assoc Target u (t ∷ []) (for_decl_sound (u ++ t ∷ []) c (all_append h (all_word (decl_word c) d t e)))

      head_value : SoundNext Inside (Past u Target) (bind (expr_of b.exprs false) (parser.for_valued b (is_inside p)))
      head_value = past_bind {E = IsExpr m false (suc d) 21} (sound_inside (expr_sound m d b.exprs s.env false)) (λ x e q. for_valued_sound u x e h q)

  pub for_sound : (t : Lexeme) → t.kind ≡ kind.Word word.FOR → SoundNext Inside (Past (t ∷ []) (IsStmt m d p)) (parser.for_of b (is_inside p))
  unfolding parser.for_of
  for_sound t k = past_bind {E = IsMark mark.OPEN_PAREN d} (expect_sound mark.OPEN_PAREN d) (λ u _ q. for_head_sound (t ∷ u) (all_append (all_word word.FOR d t k) q))
