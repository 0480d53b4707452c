-- Statements whole, and scripts: what is read fits its places, and faults can be mended.
use Rattle.std.proofs.Common.{◌≡◌, ℕ, suc, List, [], ◌∷◌, ◌++◌, refl, sym, ap, ◌∙◌, subst, append_assoc, Bool, true, false, ◌&&◌, ◌||◌, Some}
use Rattle.script_grammar.specs.declared.token.Kind.TheVariants as kind
use Rattle.script_grammar.specs.declared.token.mark.TheConstants as mark
use Rattle.script_grammar.specs.declared.token.word.TheConstants as word
use Rattle.script_grammar.specs.declared.token.FuncForm.TheVariants as form
use Rattle.script_grammar.specs.declared.token.Decl.{Decl}
use Rattle.script_grammar.specs.Lexeme.{Lexeme}
use Rattle.script_grammar.specs.Kinds.{is_mark, is_word, is_name, decl_word, is_var}
use Rattle.script_grammar.specs.Tree.{Named, Expr, Stmt, Stmts, MaybeStmt, Function}
use Rattle.script_grammar.specs.Tree as tree
use Rattle.script_grammar.specs.TreeLists.{binds_of}
use Rattle.script_grammar.specs.Pieces.{Bodies, whole, BareBinding}
use Rattle.script_grammar.specs.Endings.{ending, binds_ending}
use Rattle.grammar_parser_specs.specs.Parser.{Reply, Read, Bad, Deep, Parser, after, ret, bind}
use Rattle.grammar_parser_specs.specs.Exprs.{expr_of}
use Rattle.grammar_parser_specs.specs.Stmts as parser
use Rattle.grammar_parser_specs.specs.Stmts.{Place, AnItem, AStmt, StmtCalls, Block, is_item, is_inside}
use Rattle.grammar_parser_laws.proofs.Friendly.{AtFront, Inside}
use Rattle.grammar_parser_laws.proofs.Fitting.{all_append, all_mark, all_word, lexeme_of_kind, zero_lexeme}
use Rattle.grammar_parser_laws.proofs.Tests.{true_false, and_left, and_right, neither_left, neither_right, mark_known, word_known}
use Rattle.grammar_parser_laws.proofs.Sound.{Sound, SoundAt, Mended, Behind, Begun, BeginsAt, here, started, sound_bind, sound_ret, sound_bad, sound_at, sound_peek, sound_done, sound_some, sound_map, sound_inside, sound_loop, sound_made, sound_first, at_map, outcome_noted}
use Rattle.grammar_parser_laws.proofs.Sound as plain
use Rattle.grammar_sound_laws.proofs.SoundNext.{SoundNext, NextAt, Past, Joined, Plain, past_bind, past_at, next_bind, next_made, next_ret, next_bad, next_peek, next_look, next_at, at_ret, at_step, at_when, next_when, next_inside, next_map, next_loop, plain_of, next_of}
use Rattle.grammar_sound_laws.proofs.SoundNext as next
use Rattle.grammar_parser_laws.proofs.SoundParts.{IsExpr, IsMark, IsName, expect_sound, name_sound}
use Rattle.grammar_sound_laws.proofs.SoundLists.{expr_sound}
use Rattle.grammar_sound_laws.proofs.SoundFunctions.{IsFunctionOf, function_sound}
use Rattle.grammar_sound_laws.proofs.StmtFitting.{all_next, then_all, same_next}
use Rattle.grammar_parser_laws.proofs.Begins.{begins_same}
use Rattle.grammar_sound_laws.proofs.SoundStmtLists.{IsStmt, IsSemi, semi_sound, AreBinds, binds_from_sound}
use Rattle.script_grammar.specs.declared.token.Decl.TheVariants as decl
use Rattle.script_grammar.specs.Tree.{function}
use Rattle.grammar_sound_laws.proofs.SoundStmts.{SoundBlock, zero_stmt, begun_not, if_sound, while_sound, do_sound, block_sound, debugger_sound, continue_sound, break_sound, throw_sound, return_sound}
use Rattle.grammar_sound_laws.proofs.SoundLoops.{for_sound}
use Rattle.grammar_sound_laws.proofs.SoundSwitch.{switch_sound, try_sound}
use Rattle.grammar_sound_laws.proofs.SoundNext.{next_look_two}

module _ (m : Bodies) (d : ℕ) (b : Block) (s : SoundBlock m d b) (p : Place) where
  abbrev Target : List Lexeme → Stmt → Lexeme → Type 0
  Target u x n = IsStmt m d p u x n

  -- declarations

  pub binding_sound : (t : Lexeme) (c : Decl) → t.kind ≡ kind.Word (decl_word c) → (is_item p ≡ false → is_var c ≡ true) → SoundNext Inside (Past (t ∷ []) Target) (parser.binding_of b.exprs c)
  unfolding parser.binding_of
  binding_sound t c k h =
      past_bind {E = IsName d} (name_sound d) (λ u n q.
      past_bind {E = Behind u (AreBinds m d true)} (binds_from_sound m d b.exprs s.env true u n q) (λ v y r.
      next_made (λ z. tree.Binding c (binds_of y.items) z) (semi_sound (binds_ending BareBinding (binds_of y.items)) d) (λ w z n2 x. record {
        proper = (r.has, r.proper);
        stands = h;
        fits = same_next (ap (λ o. t ∷ o) (append_assoc u v w)) (then_all (all_word (decl_word c) d t k) (then_all r.fits x));
      })))

  is_declared : (t : Lexeme) (u w : List Lexeme) (n : Named) (f : Function) (x : Lexeme) → t.kind ≡ kind.Word word.FUNCTION → is_item p ≡ true → IsName d u n → IsFunctionOf m d b.exprs s.env form.Function (Some n) w f → Target (t ∷ (u ++ w)) (tree.Declared f) x
  is_declared t u w n (function g start end name ps comma bare body) x k h q r =
      subst (λ y. IsFunctionOf m d b.exprs s.env form.Function (Some n) w (function y start end name ps comma bare body) → Target (t ∷ (u ++ w)) (tree.Declared (function y start end name ps comma bare body)) x) (sym r.of.0)
      (λ r1. subst (λ y. IsFunctionOf m d b.exprs s.env form.Function (Some n) w (function form.Function start end y ps comma bare body) → Target (t ∷ (u ++ w)) (tree.Declared (function form.Function start end y ps comma bare body)) x) (sym r1.of.1)
      (λ r2. record { proper = (tt, r2.proper); stands = λ e. absurd (true_false (sym h ∙ e)); fits = all_next (all_append (all_word word.FUNCTION d t k) (all_append q r2.fits)) x }) r1) r

  pub declared_sound : (t : Lexeme) → t.kind ≡ kind.Word word.FUNCTION → is_item p ≡ true → SoundNext Inside (Past (t ∷ []) Target) (parser.declared_of b.exprs)
  unfolding parser.declared_of
  declared_sound t k h = past_bind {E = IsName d} (name_sound d) (λ u n q. next_made tree.Declared (next_of (function_sound m d b.exprs s.env form.Function (Some n) tt)) (λ w f x r. is_declared t u w n f x k h q r))

  -- expression statements

  abbrev pub Valued : Lexeme → List Lexeme → Expr → Type 0
  Valued t u e = IsExpr m true (suc d) 21 u e × Begun t u

  pub valued_is : (t : Lexeme) (u : List Lexeme) (e : Expr) → is_word word.FUNCTION t.kind ≡ false → is_mark mark.OPEN_BRACE t.kind ≡ false → Valued t u e → (v : List Lexeme) (y : Bool) (n : Lexeme) → IsSemi (ending e) d v y n → Target (u ++ v) (tree.Value e y) n
  valued_is t u e h k q v y n r = record {
    proper = (
      begins_same (is_mark mark.OPEN_BRACE) whole m 1 (suc d) e ∙ begun_not m (suc d) (is_mark mark.OPEN_BRACE) t u e k refl q.0.fits q.1,
      begins_same (is_word word.FUNCTION) whole m 1 (suc d) e ∙ begun_not m (suc d) (is_word word.FUNCTION) t u e h refl q.0.fits q.1,
      q.0.proper,
    );
    stands = λ _. refl;
    fits = then_all q.0.fits r;
  }

  value_at : (t : Lexeme) → is_word word.FUNCTION t.kind ≡ false → is_mark mark.OPEN_BRACE t.kind ≡ false → NextAt AtFront Target t (parser.value_stmt b.exprs)
  unfolding parser.value_stmt
  value_at t h k = past_at {E = Valued t} (at_map (λ u e q. (q.0, here q.1)) (λ u e q. q) (sound_first t (expr_sound m d b.exprs s.env true))) (λ u e q. next_made (tree.Value e) (semi_sound (ending e) d) (λ v y n r. valued_is t u e h k q v y n r))

  pub semicolon : Lexeme
  semicolon = lexeme_of_kind (kind.Mark mark.SEMICOLON)

  pub semi_written : (e : Expr) (n : Lexeme) → IsSemi (ending e) d (semicolon ∷ []) true n
  unfolding semicolon
  semi_written e n = all_next (all_mark mark.SEMICOLON d (lexeme_of_kind (kind.Mark mark.SEMICOLON)) refl) n

  end_read : (w us : List Lexeme) → plain.Reads AtFront w → [] ≡ w ++ us → ⊥
  end_read [] us h e = h
  end_read (x ∷ w) us h e = absurd (cc)

  end_bad : (w us v : List Lexeme) (e : Expr) → [] ≡ w ++ us → plain.Starts AtFront w v → IsExpr m true (suc d) 21 (w ++ v) e → next.Ended AtFront Target [] us
  end_bad [] us [] e h k q = absurd k
  end_bad [] us (x ∷ v) e h k q = record {
    front = [];
    split = h;
    end = (x ∷ v) ++ semicolon ∷ [];
    of = tree.Value e true;
    starts = λ n f. k.friendly;
    is = λ n f. valued_is zero_lexeme (x ∷ v) e refl refl (q, started x v refl k) (semicolon ∷ []) true n (semi_written e n);
  }
  end_bad (y ∷ w) us v e h k q = absurd (cc)

  end_deep : (w us : List Lexeme) (x : Lexeme) (bs : List Lexeme) → [] ≡ w ++ us → us ≡ x ∷ bs → ⊥
  end_deep [] us x bs e h = absurd (cc)
  end_deep (y ∷ w) us x bs e h = absurd (cc)

  end_value : (r : Reply Expr) (f : Expr → Parser Stmt) → plain.Outcome AtFront (IsExpr m true (suc d) 21) (IsExpr m true (suc d) 21) [] r → next.Outcome AtFront Target [] (after r f)
  end_value (Read e rs us) f o = absurd (end_read o.front us o.some o.split)
  end_value (Bad rs us) f o = end_bad o.front us o.end o.of o.split o.starts o.is
  end_value (Deep rs us) f o = absurd (end_deep o.front us o.token o.behind o.split o.first)

  value_end : next.Outcome AtFront Target [] (parser.value_stmt b.exprs [])
  unfolding parser.value_stmt
  value_end = end_value (expr_of b.exprs true []) (λ e. bind (parser.semi_of (ending e)) (λ y. ret (tree.Value e y))) ((expr_sound m d b.exprs s.env true).at [])

  -- labels

  label_at : (t : Lexeme) → is_name t.kind ≡ true → NextAt AtFront Target t (parser.labelled_of b (is_inside p))
  unfolding parser.labelled_of
  label_at t h = past_at {E = IsName (suc d)} (s.label t h) (λ u n q. past_bind {E = IsMark mark.COLON d} (expect_sound mark.COLON d) (λ v _ r. next_made (tree.Label n) (next_inside (s.stmts.at (AStmt (is_inside p)))) (λ w x o y. record {
    proper = (y.stands refl, y.proper);
    stands = λ _. refl;
    fits = then_all q (then_all r y.fits);
  })))

  -- all statements

  plain_sound : SoundNext AtFront Target (parser.plain_stmt b (is_inside p))
  unfolding parser.plain_stmt
  plain_sound = next_look_two
      (λ t u. at_when (parser.is_label t u)
      (λ h. label_at t (and_left (is_name t.kind) (is_mark mark.COLON u.kind) h))
      (λ _. at_when (is_word word.FUNCTION t.kind || is_mark mark.OPEN_BRACE t.kind)
      (λ _. next_at t (next_bad (zero_stmt m d p)))
      (λ h. value_at t (neither_left (is_word word.FUNCTION t.kind) (is_mark mark.OPEN_BRACE t.kind) h) (neither_right (is_word word.FUNCTION t.kind) (is_mark mark.OPEN_BRACE t.kind) h))))
      value_end

  jump_sound : SoundNext AtFront Target (parser.jump_stmt b p)
  unfolding parser.jump_stmt
  jump_sound = next_peek
      (λ t. at_when (is_word word.CONTINUE t.kind) (λ e. at_step t (continue_sound m d b s p t (word_known word.CONTINUE t.kind e)))
      (λ _. at_when (is_word word.BREAK t.kind) (λ e. at_step t (break_sound m d b s p t (word_known word.BREAK t.kind e)))
      (λ _. at_when (is_word word.RETURN t.kind && is_inside p) (λ e. at_step t (return_sound m d b s p t (word_known word.RETURN t.kind (and_left (is_word word.RETURN t.kind) (is_inside p) e)) (and_right (is_word word.RETURN t.kind) (is_inside p) e)))
      (λ _. at_when (is_word word.THROW t.kind) (λ e. at_step t (throw_sound m d b s p t (word_known word.THROW t.kind e)))
      (λ _. next_at t plain_sound)))))
      plain_sound

  nested_sound : SoundNext AtFront Target (parser.nested_stmt b p)
  unfolding parser.nested_stmt
  nested_sound = next_peek
      (λ t. at_when (is_word word.IF t.kind) (λ e. at_step t (if_sound m d b s p t (word_known word.IF t.kind e)))
      (λ _. at_when (is_word word.WHILE t.kind) (λ e. at_step t (while_sound m d b s p t (word_known word.WHILE t.kind e)))
      (λ _. at_when (is_word word.DO t.kind) (λ e. at_step t (do_sound m d b s p t (word_known word.DO t.kind e)))
      (λ _. at_when (is_word word.FOR t.kind) (λ e. at_step t (for_sound m d b s p t (word_known word.FOR t.kind e)))
      (λ _. at_when (is_word word.SWITCH t.kind) (λ e. at_step t (switch_sound m d (is_inside p) b s p refl t (word_known word.SWITCH t.kind e)))
      (λ _. at_when (is_word word.TRY t.kind) (λ e. at_step t (try_sound m d b s p t (word_known word.TRY t.kind e)))
      (λ _. next_at t jump_sound)))))))
      jump_sound

  not_item : (c : Decl) → is_item p ≡ true → is_item p ≡ false → is_var c ≡ true
  not_item c h e = absurd (true_false (sym h ∙ e))

  declaration_sound : SoundNext AtFront Target (parser.declaration_stmt b p)
  unfolding parser.declaration_stmt
  declaration_sound = next_peek
      (λ t. at_when (is_word word.VAR t.kind) (λ e. at_step t (binding_sound t decl.Var (word_known word.VAR t.kind e) (λ _. refl)))
      (λ _. at_when (is_word word.LET t.kind && is_item p) (λ e. at_step t (binding_sound t decl.Let (word_known word.LET t.kind (and_left (is_word word.LET t.kind) (is_item p) e)) (not_item decl.Let (and_right (is_word word.LET t.kind) (is_item p) e))))
      (λ _. at_when (is_word word.CONST t.kind && is_item p) (λ e. at_step t (binding_sound t decl.Const (word_known word.CONST t.kind (and_left (is_word word.CONST t.kind) (is_item p) e)) (not_item decl.Const (and_right (is_word word.CONST t.kind) (is_item p) e))))
      (λ _. at_when (is_word word.FUNCTION t.kind && is_item p) (λ e. at_step t (declared_sound t (word_known word.FUNCTION t.kind (and_left (is_word word.FUNCTION t.kind) (is_item p) e)) (and_right (is_word word.FUNCTION t.kind) (is_item p) e)))
      (λ _. next_at t nested_sound)))))
      nested_sound

  pub stmt_sound : SoundNext AtFront Target (parser.stmt_of b p)
  unfolding parser.stmt_of
  stmt_sound = next_peek
      (λ t. at_when (is_mark mark.OPEN_BRACE t.kind) (λ e. at_step t (block_sound m d b s p t (mark_known mark.OPEN_BRACE t.kind e)))
      (λ _. at_when (is_mark mark.SEMICOLON t.kind) (λ e. at_step t (next_ret {a = tree.Empty} (λ n. record { proper = tt; stands = λ _. refl; fits = all_next (all_mark mark.SEMICOLON d t (mark_known mark.SEMICOLON t.kind e)) n })))
      (λ _. at_when (is_word word.DEBUGGER t.kind) (λ e. at_step t (debugger_sound m d b s p t (word_known word.DEBUGGER t.kind e)))
      (λ _. next_at t declaration_sound))))
      declaration_sound
