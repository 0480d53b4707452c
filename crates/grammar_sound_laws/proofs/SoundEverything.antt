-- All calls of the parser of scripts, with whatever room for depth; scripts, bodies and functions alone: what is read is the
-- print of a proper tree, and faults can be mended.
use Rattle.std.proofs.Common.{◌≡◌, ℕ, zero, suc, List, [], ◌∷◌, ◌++◌, refl, sym, ◌∙◌, subst, arith, append-nil, Bool, true, false, ◌&&◌, ◌||◌, not}
use Rattle.script_grammar.specs.declared.token.Kind.TheVariants as kind
use Rattle.script_grammar.specs.declared.token.mark.TheConstants as mark
use Rattle.script_grammar.specs.declared.token.word.TheConstants as word
use Rattle.script_grammar.specs.declared.token.Decl.{Decl}
use Rattle.script_grammar.specs.Lexeme.{Lexeme}
use Rattle.script_grammar.specs.Kinds.{is_mark, is_word, is_name, is_end, decl_word, is_var}
use Rattle.script_grammar.specs.Tree.{Named, Expr, Stmt, Stmts, MaybeStmt, Function}
use Rattle.script_grammar.specs.Tree as tree
use Rattle.script_grammar.specs.TreeLists.{stmts_of}
use Rattle.script_grammar.specs.Pieces.{Bodies, whole, closing_mark}
use Rattle.script_grammar.specs.Print.{print_stmts}
use Rattle.script_grammar.specs.Proper.{ProperStmts}
use Rattle.grammar_parser_specs.specs.Parser.{Reply, Read, Bad, Deep, Parser, ret, bad, step}
use Rattle.grammar_parser_specs.specs.Exprs.{name_of, named}
use Rattle.grammar_parser_specs.specs.Stmts as parser
use Rattle.grammar_parser_specs.specs.Stmts.{Place, AnItem, AStmt, StmtCalls, Block, is_item, is_inside}
use Rattle.grammar_parser_laws.proofs.Friendly.{AtFront, Inside, first_of}
use Rattle.grammar_parser_laws.proofs.Fitting.{FitsAll, all_append, all_mark, all_name, lexeme_of_kind}
use Rattle.grammar_parser_laws.proofs.Tests.{true_false, and_left, and_right, not_true, mark_known, word_known, name_known}
use Rattle.grammar_parser_laws.proofs.Sound.{Sound, SoundAt, Mended, Behind, Begun, BeginsAt, here, started, sound_bind, sound_ret, sound_bad, sound_at, sound_peek, sound_done, sound_some, sound_map, sound_inside, sound_loop, sound_made, sound_first, at_map, outcome_noted}
use Rattle.grammar_parser_laws.proofs.Sound as plain
use Rattle.grammar_sound_laws.proofs.SoundNext.{SoundNext, NextAt, Past, Joined, Plain, past_bind, past_at, next_bind, next_made, next_ret, next_bad, next_peek, next_look, next_at, at_ret, at_step, at_when, next_when, next_inside, next_map, next_loop, plain_of, next_of}
use Rattle.grammar_sound_laws.proofs.SoundNext as next
use Rattle.grammar_parser_laws.proofs.SoundParts.{SoundEnv, SoundCalls, IsMark, IsName, expect_sound}
use Rattle.grammar_sound_laws.proofs.StmtFitting.{FitsNext, all_next, close_all}
use Rattle.grammar_sound_laws.proofs.SoundStmtLists.{IsStmt, SoundStmts, stmts_sound}
use Rattle.script_grammar.specs.declared.token.Decl.TheVariants as decl
use Rattle.script_grammar.specs.Tree.{function}
use Rattle.grammar_sound_laws.proofs.SoundStmts.{SoundBlock, zero_stmt, if_sound, while_sound, do_sound, block_sound, debugger_sound, continue_sound, break_sound, throw_sound, return_sound}
use Rattle.grammar_sound_laws.proofs.SoundLoops.{for_sound}
use Rattle.grammar_sound_laws.proofs.SoundSwitch.{switch_sound, try_sound}
use Rattle.script_grammar.specs.Tree.{Body}
use Rattle.script_grammar.specs.declared.token.FuncForm.{FuncForm}
use Rattle.grammar_parser_specs.specs.Parser.{no_room}
use Rattle.grammar_parser_specs.specs.Exprs.{BodyParser, BodyRead, begins_assign}
use Rattle.grammar_parser_specs.specs.Stmts.{All, env_of, block_of, all_case, begins_stmt, begins_plain, begins_declaration}
use Rattle.std.proofs.Common.{◌⊎◌, inl, inr}
use Rattle.grammar_parser_laws.proofs.Tests.{or_cases, bool_cases}
use Rattle.grammar_parser_laws.proofs.SoundParts.{looser}
use Rattle.script_grammar.specs.declared.token.Decl.TheVariants as decl
use Rattle.grammar_parser_specs.specs.Parser.{deep}
use Rattle.script_grammar.specs.Kinds.{is_end}
use Rattle.script_grammar.specs.Script.{IsStatements, IsScript, print_braced}
use Rattle.grammar_sound_laws.proofs.SoundScripts.{valued_is, semi_written, semicolon}
use Rattle.grammar_parser_laws.proofs.Fitting.{all_closing}
use Rattle.grammar_parser_laws.proofs.Sound.{LeadsAt}
use Rattle.grammar_sound_laws.proofs.SoundNext.{Follows, stands, friendly, next_no_room}
use Rattle.grammar_parser_laws.proofs.SoundParts.{SoundBody}
use Rattle.grammar_sound_laws.proofs.SoundCalls.{nothing, nothing_sound, assign_begun, no_calls_sound, case_sound}
use Rattle.grammar_sound_laws.proofs.SoundScripts.{binding_sound, declared_sound, stmt_sound}

-- a braced body whose own statements are read
pub record IsOwn (m : Bodies) (d : ℕ) (u : List Lexeme) (b : BodyRead) : Type 0 where
  pub items : Stmts
  pub is : b.body ≡ tree.BracedBody items
  pub proper : ProperStmts m true items
  pub fits : FitsAll (print_braced m d b.end items) u

module _ (m : Bodies) (d : ℕ) (stmt : StmtCalls) (s : SoundStmts m d stmt) where
  closing_some : next.Mended AtFront (Plain (λ u (e : ℕ). FitsAll (closing_mark mark.CLOSE_BRACE e d ∷ []) u))
  closing_some = record { end = lexeme_of_kind (kind.Mark mark.CLOSE_BRACE) ∷ []; of = 0; starts = λ n f. record { omits = refl }; is = λ n f. all_closing mark.CLOSE_BRACE d (lexeme_of_kind (kind.Mark mark.CLOSE_BRACE)) refl }

  abbrev Closed : List Stmt → List Lexeme → BodyRead → Lexeme → Type 0
  Closed ss u b n = (b.body ≡ tree.BracedBody (stmts_of ss)) × FitsAll (closing_mark mark.CLOSE_BRACE b.end d ∷ []) u

  closed_some : (ss : List Stmt) → next.Mended AtFront (Closed ss)
  closed_some ss = record { end = lexeme_of_kind (kind.Mark mark.CLOSE_BRACE) ∷ []; of = record { body = tree.BracedBody (stmts_of ss); end = 0 }; starts = λ n f. record { omits = refl }; is = λ n f. (refl, all_closing mark.CLOSE_BRACE d (lexeme_of_kind (kind.Mark mark.CLOSE_BRACE)) refl) }

  close_body_sound : (ss : List Stmt) → SoundNext AtFront (Closed ss) (parser.close_body ss)
  unfolding parser.close_body
  close_body_sound ss = next_peek (λ t. at_when (is_mark mark.CLOSE_BRACE t.kind) (λ h. at_step t (next_ret {a = record { body = tree.BracedBody (stmts_of ss); end = t.end }} (λ n. (refl, all_closing mark.CLOSE_BRACE d t (mark_known mark.CLOSE_BRACE t.kind h))))) (λ h. next_at t (next_bad (closed_some ss)))) (next_bad (closed_some ss))

  pub own_sound : (form : FuncForm) (start : ℕ) (simple : Bool) → Sound Inside (IsOwn m d) (parser.reading stmt form start simple)
  unfolding parser.reading
  own_sound form start simple = plain_of (past_bind {E = IsMark mark.OPEN_BRACE d} (expect_sound mark.OPEN_BRACE d) (λ u _ q. next_bind (next_inside (stmts_sound m d stmt s true)) (λ w ss. next_map (λ v b n h r. record {
    items = stmts_of ss;
    is = h.0;
    proper = r.proper;
    fits = all_append q (close_all w v n r.fits h.1);
  }) (close_body_sound ss))))

-- one that is read in place
pub reading_sound : (d : ℕ) (stmt : StmtCalls) → SoundStmts whole d stmt → SoundBody whole d (parser.reading stmt)
reading_sound d stmt s = record { braced = λ form start simple. sound_map (λ u b h. record { items = h.items; is = h.is; proper = h.proper; fits = h.fits }) (own_sound whole d stmt s form start simple) }

-- What begins a statement is completed by some end.

next_end : {A : Type 0} (R : List Lexeme → A → Lexeme → Type 0) (r : Reply A) → next.Outcome Inside R [] r → next.Mended Inside R
next_end R (Read a rs us) o = record { end = o.front; of = a; starts = tt; is = λ n f. o.is n (friendly f) }
next_end R (Bad rs us) o = record { end = o.front ++ o.end; of = o.of; starts = tt; is = o.is }
next_end R (Deep rs us) o = record { end = o.front ++ o.token ∷ o.end; of = o.of; starts = tt; is = o.is }

next_some : {A : Type 0} (R : List Lexeme → A → Lexeme → Type 0) (f : Parser A) → SoundNext Inside R f → next.Mended Inside R
next_some R f s = next_end R (f []) (s.at [])

name_at : (d : ℕ) (t : Lexeme) → is_name t.kind ≡ true → SoundAt AtFront (IsName d) t name_of
unfolding name_of
name_at d t h = record { first = (plain.at_when {p = AtFront} {R = IsName d} {S = IsName d} {t = t} {f = step (ret (named t))} {g = bad} (is_name t.kind) (λ e. plain.at_step t (sound_ret {a = named t} (all_name d t (name_known t.kind e)))) (λ e. absurd (true_false (sym h ∙ e)))).first }

no_name_at : (d : ℕ) (t : Lexeme) → is_name t.kind ≡ true → SoundAt AtFront (IsName d) t (no_room is_name)
no_name_at d t h = record { first = (plain.at_when {p = AtFront} {R = IsName d} {S = IsName d} {t = t} {f = deep} {g = bad} (is_name t.kind) (λ e. plain.at_deep t [] (named t) (all_name d t (name_known t.kind e))) (λ e. absurd (true_false (sym h ∙ e)))).first }

abbrev stub : BodyParser → Block
stub body = record { exprs = nothing body; stmt = λ p. bad; label = name_of }

stub_sound : (m : Bodies) (d : ℕ) (body : BodyParser) → SoundBody m d body → SoundBlock m d (stub body)
stub_sound m d body b = record {
  env = nothing_sound m d body b;
  stmts = record { at = λ p. next_bad (zero_stmt m (suc d) p) };
  label = name_at (suc d);
}

module _ (m : Bodies) (d : ℕ) (body : BodyParser) (b : (d : ℕ) → SoundBody m d body) (p : Place) (t : Lexeme) where
  Begun2 : Type 0
  Begun2 = next.Mended Inside (Past (t ∷ []) (IsStmt m d p))

  s : SoundBlock m d (stub body)
  s = stub_sound m d body (b d)

  by : {f : Parser Stmt} → SoundNext Inside (Past (t ∷ []) (IsStmt m d p)) f → Begun2
  unfolding Begun2
  by {f = f} h = next_some (Past (t ∷ []) (IsStmt m d p)) f h

  if_begun : t.kind ≡ kind.Word word.IF → Begun2
  if_begun k = by (if_sound m d (stub body) s p t k)

  while_begun : t.kind ≡ kind.Word word.WHILE → Begun2
  while_begun k = by (while_sound m d (stub body) s p t k)

  do_begun : t.kind ≡ kind.Word word.DO → Begun2
  do_begun k = by (do_sound m d (stub body) s p t k)

  for_begun : t.kind ≡ kind.Word word.FOR → Begun2
  for_begun k = by (for_sound m d (stub body) s p t k)

  switch_begun : t.kind ≡ kind.Word word.SWITCH → Begun2
  switch_begun k = by (switch_sound m d (is_inside p) (stub body) s p refl t k)

  try_begun : t.kind ≡ kind.Word word.TRY → Begun2
  try_begun k = by (try_sound m d (stub body) s p t k)

  block_begun : t.kind ≡ kind.Mark mark.OPEN_BRACE → Begun2
  block_begun k = by (block_sound m d (stub body) s p t k)

  debugger_begun : t.kind ≡ kind.Word word.DEBUGGER → Begun2
  debugger_begun k = by (debugger_sound m d (stub body) s p t k)

  continue_begun : t.kind ≡ kind.Word word.CONTINUE → Begun2
  continue_begun k = by (continue_sound m d (stub body) s p t k)

  break_begun : t.kind ≡ kind.Word word.BREAK → Begun2
  break_begun k = by (break_sound m d (stub body) s p t k)

  throw_begun : t.kind ≡ kind.Word word.THROW → Begun2
  throw_begun k = by (throw_sound m d (stub body) s p t k)

  return_begun : t.kind ≡ kind.Word word.RETURN → is_inside p ≡ true → Begun2
  return_begun k i = by (return_sound m d (stub body) s p t k i)

  binding_begun : (c : Decl) → t.kind ≡ kind.Word (decl_word c) → (is_item p ≡ false → is_var c ≡ true) → Begun2
  binding_begun c k i = by (binding_sound m d (stub body) s p t c k i)

  declared_begun : t.kind ≡ kind.Word word.FUNCTION → is_item p ≡ true → Begun2
  declared_begun k i = by (declared_sound m d (stub body) s p t k i)

  empty_begun : t.kind ≡ kind.Mark mark.SEMICOLON → Begun2
  unfolding Begun2
  empty_begun k = record { end = []; of = tree.Empty; starts = tt; is = λ n f. record { proper = tt; stands = λ _. refl; fits = all_next (all_mark mark.SEMICOLON d t k) n } }

  value_begun : begins_assign t.kind ≡ true → is_word word.FUNCTION t.kind ≡ false → is_mark mark.OPEN_BRACE t.kind ≡ false → Begun2
  unfolding Begun2
  value_begun h k j =
      let e = assign_begun m (suc d) body (b (suc d)) (b (suc (suc d))) true t t.kind refl h in
      record {
        end = e.end ++ semicolon m d (stub body) s p ∷ [];
        of = tree.Value e.of true;
        starts = tt;
        is = λ n f. valued_is m d (stub body) s p t (t ∷ e.end) e.of k j (looser (omega arith) (t ∷ e.end) e.of e.is, here refl) (semicolon m d (stub body) s p ∷ []) true n (semi_written m d (stub body) s p e.of n);
      }

  plain_begun : begins_plain t.kind ≡ true → Begun2
  plain_begun h =
      or_cases _ (is_word word.TRY t.kind) h
      (λ h. or_cases _ (is_word word.SWITCH t.kind) h
      (λ h. or_cases _ (is_word word.THROW t.kind) h
      (λ h. or_cases _ (is_word word.BREAK t.kind) h
      (λ h. or_cases _ (is_word word.CONTINUE t.kind) h
      (λ h. or_cases _ (is_word word.FOR t.kind) h
      (λ h. or_cases _ (is_word word.DO t.kind) h
      (λ h. or_cases _ (is_word word.WHILE t.kind) h
      (λ h. or_cases _ (is_word word.IF t.kind) h
      (λ h. or_cases (is_word word.VAR t.kind) (is_word word.DEBUGGER t.kind) h
      (λ h. binding_begun decl.Var (word_known word.VAR t.kind h) (λ _. refl))
      (λ h. debugger_begun (word_known word.DEBUGGER t.kind h)))
      (λ h. if_begun (word_known word.IF t.kind h)))
      (λ h. while_begun (word_known word.WHILE t.kind h)))
      (λ h. do_begun (word_known word.DO t.kind h)))
      (λ h. for_begun (word_known word.FOR t.kind h)))
      (λ h. continue_begun (word_known word.CONTINUE t.kind h)))
      (λ h. break_begun (word_known word.BREAK t.kind h)))
      (λ h. throw_begun (word_known word.THROW t.kind h)))
      (λ h. switch_begun (word_known word.SWITCH t.kind h)))
      (λ h. try_begun (word_known word.TRY t.kind h))

  not_item : (c : Decl) → is_item p ≡ true → is_item p ≡ false → is_var c ≡ true
  not_item c h e = absurd (true_false (sym h ∙ e))

  declaration_begun : is_item p ≡ true → begins_declaration t.kind ≡ true → Begun2
  declaration_begun i h =
      or_cases (is_word word.LET t.kind || is_word word.CONST t.kind) (is_word word.FUNCTION t.kind) h
      (λ h. or_cases (is_word word.LET t.kind) (is_word word.CONST t.kind) h
      (λ h. binding_begun decl.Let (word_known word.LET t.kind h) (not_item decl.Let i))
      (λ h. binding_begun decl.Const (word_known word.CONST t.kind h) (not_item decl.Const i)))
      (λ h. declared_begun (word_known word.FUNCTION t.kind h) i)

  expression_begun : (begins_assign t.kind && not (is_word word.FUNCTION t.kind)) ≡ true → Begun2
  expression_begun h = by_brace (bool_cases (is_mark mark.OPEN_BRACE t.kind))
    where
      by_brace : (is_mark mark.OPEN_BRACE t.kind ≡ true) ⊎ (is_mark mark.OPEN_BRACE t.kind ≡ false) → Begun2
      by_brace (inl e) = block_begun (mark_known mark.OPEN_BRACE t.kind e)
      by_brace (inr e) = value_begun (and_left (begins_assign t.kind) (not (is_word word.FUNCTION t.kind)) h) (not_true (is_word word.FUNCTION t.kind) (and_right (begins_assign t.kind) (not (is_word word.FUNCTION t.kind)) h)) e

  stmt_begun : begins_stmt p t.kind ≡ true → Begun2
  stmt_begun h =
      or_cases _ (is_inside p && is_word word.RETURN t.kind) h
      (λ h. or_cases _ (is_item p && begins_declaration t.kind) h
      (λ h. or_cases _ (begins_plain t.kind) h
      (λ h. or_cases (begins_assign t.kind && not (is_word word.FUNCTION t.kind)) (is_mark mark.SEMICOLON t.kind) h
      (λ h. expression_begun h)
      (λ h. empty_begun (mark_known mark.SEMICOLON t.kind h)))
      (λ h. plain_begun h))
      (λ h. declaration_begun (and_left (is_item p) (begins_declaration t.kind) h) (and_right (is_item p) (begins_declaration t.kind) h)))
      (λ h. return_begun (word_known word.RETURN t.kind (and_right (is_inside p) (is_word word.RETURN t.kind) h)) (and_left (is_inside p) (is_word word.RETURN t.kind) h))

no_end : (p : Place) → begins_stmt p kind.End ≡ false
no_end (AnItem true) = refl
no_end (AnItem false) = refl
no_end (AStmt true) = refl
no_end (AStmt false) = refl

begun_of : (m : Bodies) (d : ℕ) (body : BodyParser) → ((d : ℕ) → SoundBody m d body) → (p : Place) (t : Lexeme) → begins_stmt p t.kind ≡ true → next.Mended Inside (Past (t ∷ []) (IsStmt m d p))
unfolding Begun2
begun_of m d body b p t h = stmt_begun m d body b p t h

no_stmts_sound : (m : Bodies) (d : ℕ) (body : BodyParser) → ((d : ℕ) → SoundBody m d body) → SoundStmts m d parser.no_stmts
no_stmts_sound m d body b = record { at = λ p. next_no_room (begins_stmt p) (no_end p) (zero_stmt m (suc d) p) (λ t h. begun_of m (suc d) body b p t h) }

-- All calls.

pub record SoundAll (m : Bodies) (d : ℕ) (a : All) : Type 0 where
  pub exprs : SoundCalls m d a.exprs
  pub stmts : SoundStmts m d a.stmts
  pub label : (t : Lexeme) → is_name t.kind ≡ true → SoundAt AtFront (IsName (suc d)) t a.label

nothing_left_sound : (m : Bodies) (body : BodyParser) → ((d : ℕ) → SoundBody m d body) → (d : ℕ) → SoundAll m d parser.nothing_left
nothing_left_sound m body b d = record { exprs = no_calls_sound m body b d; stmts = no_stmts_sound m d body b; label = no_name_at (suc d) }

all_case_sound : (m : Bodies) (d : ℕ) (body : BodyParser) (a : All) → SoundBody m (suc d) body → SoundAll m (suc d) a → SoundAll m d (all_case body a)
all_case_sound m d body a b s =
    let v : SoundEnv m (suc d) (env_of body a) = record { calls = s.exprs; body = b } in
    let k : SoundBlock m (suc d) (block_of body a) = record { env = v; stmts = s.stmts; label = s.label } in
    record { exprs = case_sound m d (env_of body a) v; stmts = record { at = λ p. stmt_sound m (suc d) (block_of body a) k p }; label = name_at (suc d) }

-- Where bodies are read so that it is sound over sound statements, everything is sound. The last of the premises is about
-- a reader of bodies whose statements are none.
pub everything_sound : (m : Bodies) (body : ℕ → StmtCalls → BodyParser) → ((room d : ℕ) (stmt : StmtCalls) → SoundStmts m d stmt → SoundBody m d (body room stmt)) → (room d : ℕ) → SoundAll m d (parser.everything body room)
unfolding parser.everything
everything_sound m body b zero d = nothing_left_sound m (body zero (λ p. bad)) (λ e. b zero e (λ p. bad) (record { at = λ p. next_bad (zero_stmt m (suc e) p) })) d
everything_sound m body b (suc room) d =
    let s : SoundAll m (suc d) (parser.everything body room) = everything_sound m body b room (suc d) in
    all_case_sound m d (body room (parser.everything body room).stmts) (parser.everything body room) (b room (suc d) (parser.everything body room).stmts s.stmts) s

-- everything, bodies read in place
pub in_place_sound : (room d : ℕ) → SoundAll whole d (parser.everything parser.in_place room)
in_place_sound room d = everything_sound whole parser.in_place (λ room2 e stmt s. reading_sound e stmt s) room d

-- A script: its statements up to the End token.

pub end_sound : {A : Type 0} (a : A) → SoundNext AtFront (λ w x n. (w ≡ []) × (x ≡ a)) (parser.end_of a)
unfolding parser.end_of
end_sound a = next_peek
    (λ t. at_when (is_end t.kind)
    (λ _. at_ret {a = a} t (refl, refl) (λ n f. (refl, refl)))
    (λ _. next_at t (next_bad (record { end = []; of = a; starts = λ n f. f; is = λ n f. (refl, refl) }))))
    (next_ret {a = a} (λ n. (refl, refl)))

-- what a script reads are statements, in front of whatever may stand after them; where it faults, some lexemes complete
-- what was read before to such statements
pub script_sound : (m : Bodies) (d : ℕ) (stmt : StmtCalls) → SoundStmts m d stmt → SoundNext AtFront (λ w x n. IsStatements m d w n x) (parser.script_of stmt)
unfolding parser.script_of
script_sound m d stmt s = next_bind (stmts_sound m d stmt s false) (λ w ss. next_map (λ v x n h r. subst (λ y. IsStatements m d (w ++ v) n y) (sym h.1) (subst (λ y. IsStatements m d (w ++ y) n (stmts_of ss)) (sym h.0) (subst (λ y. IsStatements m d y n (stmts_of ss)) (sym (append-nil w)) (record { proper = r.proper; fits = (subst (λ y. FitsNext (print_stmts m d (stmts_of ss)) w (first_of y n)) h.0 r.fits).is })))) (end_sound (stmts_of ss)))

-- the parser of scripts, bodies read in place
pub read_script_sound : (room : ℕ) → SoundNext AtFront (λ w x n. IsScript w n x) (parser.read_script room)
read_script_sound room = script_sound whole 0 (parser.everything parser.in_place room).stmts (in_place_sound room 0).stmts
