-- The parser that reads bodies in place, and the one that passes them over and records them: the first fault of the first is
-- that of the first recorded body that has one, read in place, and else that of the second; where there is none, the second
-- reads the tree of the first with the bodies that it is given.
use Rattle.std.proofs.Common.{◌≡◌, ℕ, zero, suc, List, [], ◌∷◌, ◌++◌, refl, sym, ap, ◌∙◌, subst, Bool, true, false, ◌⊎◌, inl, inr}
use Rattle.script_grammar.specs.declared.token.FuncForm.{FuncForm}
use Rattle.script_grammar.specs.declared.token.mark.TheConstants as mark
use Rattle.script_grammar.specs.Lexeme.{Lexeme}
use Rattle.script_grammar.specs.Kinds.{is_mark, is_name}
use Rattle.script_grammar.specs.Tree.{Body, Stmts}
use Rattle.script_grammar.specs.Pieces.{whole, brace, BracedArrow, Fits}
use Rattle.script_grammar.specs.Print.{print_body, print_stmts}
use Rattle.script_grammar.specs.Endings.{body_ending}
use Rattle.grammar_parser_specs.specs.Parser.{Recorded, Reply, Read, Bad, Deep, Parser, head_of, put_before, after, ret, bad, bind, step, when, end_lexeme}
use Rattle.grammar_parser_specs.specs.Exprs.{Call, BodyParser, BodyRead, expect, pass_over, passed_body, passing, call_case, calls}
use Rattle.grammar_parser_specs.specs.Stmts as parser
use Rattle.grammar_parser_specs.specs.Stmts.{Place, StmtCalls, All, env_of, block_of, everything, in_place, reading, script_of, read_script, begins_stmt}
use Rattle.grammar_parser_laws.proofs.Friendly.{Inside}
use Rattle.grammar_parser_laws.proofs.Tests.{bool_cases}
use Rattle.grammar_parser_laws.proofs.Complete.{bare}
use Rattle.grammar_parser_laws.proofs.Sound.{Outcome, Took}
use Rattle.grammar_parser_laws.proofs.SoundParts.{IsBraced}
use Rattle.grammar_sound_laws.proofs.SoundEverything.{in_place_sound, reading_sound}
use Rattle.grammar_parser_laws.proofs.NestedTrees.{nested_stmts}
use Rattle.grammar_local_laws.proofs.Passing.{braced_pass, record_at, passed_reply, passing_here, passing_no}
use Rattle.grammar_local_laws.proofs.Agrees.{Verdict, fine, bad_at, deep_at, or_else, judged, records, MeetsAt, Meets, Agrees, agrees_no_room}
use Rattle.grammar_local_laws.proofs.Alike.{SameK, BodyK, StmtK}
use Rattle.grammar_parser_specs.specs.Filling.{fill_body}
use Rattle.grammar_local_laws.proofs.AgreesExprs.{CallK, AgreesEnv, name_agrees}
use Rattle.grammar_local_laws.proofs.AgreesCalls.{case_agrees, no_calls_agrees}
use Rattle.grammar_local_laws.proofs.AgreesStmts.{AgreesBlock, StmtsK, OwnK, stmt_agrees, reading_agrees, script_agrees}

-- how a recorded body is read in place: with the room that is left in it
abbrev pub body_in_place : Recorded → Reply BodyRead
body_in_place b = reading (everything in_place b.room).stmts b.form 0 b.simple b.from

-- all bodies are passed over
abbrev pub passed_over : (ℕ → Body) → ℕ → StmtCalls → BodyParser
passed_over bodies room stmt = passing bodies room

-- what agrees records nothing itself

abbrev pub Silent : {A : Type 0} → Reply A → Type 0
Silent r = r ≡ bare r

silent_at : {A B : Type 0} (K : A → B → Type 0) (v : Verdict) (r : Reply A) (s : Reply B) → MeetsAt body_in_place K v r s → Silent r
silent_at K fine r (Read b rs us) m = m.1 ∙ ap bare (sym m.1)
silent_at K fine r (Bad rs us) m = m ∙ ap bare (sym m)
silent_at K fine r (Deep rs us) m = m ∙ ap bare (sym m)
silent_at K (bad_at vs) r s m = m ∙ ap bare (sym m)
silent_at K (deep_at vs) r s m = m ∙ ap bare (sym m)

pub silent : {A B : Type 0} {K : A → B → Type 0} {e : Parser A} {l : Parser B} → Agrees body_in_place K e l → (ts : List Lexeme) → Silent (e ts)
silent {K = K} {e = e} {l = l} h ts = silent_at K (judged body_in_place (records (l ts))) (e ts) (l ts) (h.at ts)

-- a body

records_put : {A : Type 0} (b : Recorded) (s : Reply A) → records (put_before (b ∷ []) s) ≡ b ∷ records s
records_put b (Read a rs us) = refl
records_put b (Bad rs us) = refl
records_put b (Deep rs us) = refl

reading_no : (stmt : StmtCalls) (f : FuncForm) (start : ℕ) (simple : Bool) (ts : List Lexeme) → is_mark mark.OPEN_BRACE (head_of ts).kind ≡ false → reading stmt f start simple ts ≡ Bad [] ts
unfolding reading expect
reading_no stmt f start simple ts h = ap (λ b. after (when b (step (ret tt)) bad ts) (λ _. bind (parser.stmts_from stmt true) parser.close_body)) h

same_reading : (stmt : StmtCalls) (f g : FuncForm) (x y : ℕ) (p q : Bool) (ts : List Lexeme) → reading stmt f x p ts ≡ reading stmt g y q ts
unfolding reading
same_reading stmt f g x y p q ts = refl

module _ (bodies : ℕ → Body) (braced : (n : ℕ) → body_ending (bodies n) ≡ BracedArrow) where
  module _ (room : ℕ) (f : FuncForm) (start : ℕ) (simple : Bool) (simple2 : Bool) where
    abbrev own : Parser BodyRead
    own = reading (everything in_place room).stmts f start simple

    -- where a body was read in place, it is passed over
    passed_at : (t : Lexeme) (ts : List Lexeme) (x : BodyRead) (us : List Lexeme) → Took Inside (IsBraced whole 0 f) (t ∷ ts) x us → passed_reply bodies room f start simple2 ts ≡ Read (passed_body (bodies start) x.end) [] us
    passed_at t ts x us o = by o.front o.split (o.is.fits.before end_lexeme)
      where
        by : (front : List Lexeme) → (t ∷ ts) ≡ front ++ us → Fits (print_body whole 0 x.end (Rattle.script_grammar.specs.Tree.BracedBody o.is.items)) front end_lexeme → passed_reply bodies room f start simple2 ts ≡ Read (passed_body (bodies start) x.end) [] us
        by [] e h = absurd h
        by (y ∷ w) e h = ap (λ r. after r (λ end. ret (passed_body (bodies start) end))) (ap (pass_over (brace ∷ [])) (tail e) ∙ braced_pass 0 x.end (print_stmts whole 0 o.is.items) (nested_stmts whole 0 true o.is.items o.is.proper) y w end_lexeme us h)
          where
            tail : (t ∷ ts) ≡ y ∷ (w ++ us) → ts ≡ w ++ us
            tail e = cc

    by_reply : (t : Lexeme) (ts : List Lexeme) (b : Recorded) (r : Reply BodyRead) → Silent r → Outcome Inside (IsBraced whole 0 f) (IsBraced whole 0 f) (t ∷ ts) r → MeetsAt body_in_place (BodyK bodies start) (or_else r (judged body_in_place (records (passed_reply bodies room f start simple2 ts)))) r (put_before (b ∷ []) (passed_reply bodies room f start simple2 ts))
    by_reply t ts b (Bad rs us) q o = q
    by_reply t ts b (Deep rs us) q o = q
    by_reply t ts b (Read x rs us) q o = subst (λ s. MeetsAt body_in_place (BodyK bodies start) (judged body_in_place (records s)) (Read x rs us) (put_before (b ∷ []) s)) (sym (passed_at t ts x us o)) (x, q, record { endings = ap body_ending o.is.is ∙ sym (braced start); ends = refl; same = sym (ap (fill_body bodies start) o.is.is) })

    body_at : (s : (ts : List Lexeme) → Silent (own ts)) (ts : List Lexeme) → Meets body_in_place (BodyK bodies start) (own ts) (passing bodies room f start simple2 ts)
    body_at s [] = subst (λ z. Meets body_in_place (BodyK bodies start) (own []) z) (sym (passing_no bodies room f start simple2 [] refl)) (reading_no (everything in_place room).stmts f start simple [] refl)
    body_at s (t ∷ ts) = by (bool_cases (is_mark mark.OPEN_BRACE t.kind))
      where
        b : Recorded
        b = record_at bodies room f start simple2 (t ∷ ts)

        x : Reply BodyRead
        x = passed_reply bodies room f start simple2 ts

        verdict : judged body_in_place (records (put_before (record_at bodies room f start simple2 (t ∷ ts) ∷ []) (passed_reply bodies room f start simple2 ts))) ≡ or_else (own (t ∷ ts)) (judged body_in_place (records (passed_reply bodies room f start simple2 ts)))
        verdict = ap (judged body_in_place) (records_put (record_at bodies room f start simple2 (t ∷ ts)) (passed_reply bodies room f start simple2 ts)) ∙ ap (λ r. or_else r (judged body_in_place (records (passed_reply bodies room f start simple2 ts)))) (same_reading (everything in_place room).stmts f f 0 start simple2 simple (t ∷ ts))

        by : (is_mark mark.OPEN_BRACE t.kind ≡ true) ⊎ (is_mark mark.OPEN_BRACE t.kind ≡ false) → Meets body_in_place (BodyK bodies start) (own (t ∷ ts)) (passing bodies room f start simple2 (t ∷ ts))
        by (inl h) = subst (λ z. Meets body_in_place (BodyK bodies start) (own (t ∷ ts)) z) (sym (passing_here bodies room f start simple2 t ts h)) (subst (λ v. MeetsAt body_in_place (BodyK bodies start) v (own (t ∷ ts)) (put_before (record_at bodies room f start simple2 (t ∷ ts) ∷ []) (passed_reply bodies room f start simple2 ts))) (sym verdict) (by_reply t ts (record_at bodies room f start simple2 (t ∷ ts)) (own (t ∷ ts)) (s (t ∷ ts)) (((reading_sound 0 (everything in_place room).stmts (in_place_sound room 0).stmts).braced f start simple).at (t ∷ ts))))
        by (inr h) = subst (λ z. Meets body_in_place (BodyK bodies start) (own (t ∷ ts)) z) (sym (passing_no bodies room f start simple2 (t ∷ ts) h)) (reading_no (everything in_place room).stmts f start simple (t ∷ ts) h)

    pub body_agrees : ((ts : List Lexeme) → Silent (own ts)) → Agrees body_in_place (BodyK bodies start) own (passing bodies room f start simple2)
    body_agrees s = record { at = body_at s }

  -- all calls

  pub record AgreesAll (a l : All) : Type 0 where
    pub exprs : (c : Call) → Agrees body_in_place (CallK bodies c) (a.exprs c) (l.exprs c)
    pub stmts : (p : Place) → Agrees body_in_place (StmtK bodies) (a.stmts p) (l.stmts p)
    pub label : Agrees body_in_place SameK a.label l.label

  pub everything_agrees : (room : ℕ) → AgreesAll (everything in_place room) (everything (passed_over bodies) room)
  unfolding everything
  everything_agrees zero = record {
    exprs = no_calls_agrees bodies body_in_place;
    stmts = λ p. agrees_no_room body_in_place (begins_stmt p);
    label = agrees_no_room body_in_place is_name;
  }
  everything_agrees (suc room) =
      let a = everything_agrees room in
      let e : All = everything in_place room in
      let l : All = everything (passed_over bodies) room in
      let v : AgreesEnv bodies body_in_place (env_of (in_place room e.stmts) e) (env_of (passed_over bodies room l.stmts) l) = record {
        sub = a.exprs;
        body = λ f start simple simple2. body_agrees room f start simple simple2 (λ ts. silent (reading_agrees bodies body_in_place e.stmts l.stmts a.stmts f f start start simple simple2) ts);
      } in
      let k : AgreesBlock bodies body_in_place (block_of (in_place room e.stmts) e) (block_of (passed_over bodies room l.stmts) l) = record { exprs = v; stmt = a.stmts; label = a.label } in
      record {
        exprs = case_agrees bodies body_in_place (env_of (in_place room e.stmts) e) (env_of (passed_over bodies room l.stmts) l) v;
        stmts = λ p. stmt_agrees bodies body_in_place (block_of (in_place room e.stmts) e) (block_of (passed_over bodies room l.stmts) l) k p;
        label = name_agrees bodies body_in_place;
      }

  -- scripts
  pub scripts_agree : (room : ℕ) → Agrees body_in_place (StmtsK bodies) (read_script room) (script_of (everything (passed_over bodies) room).stmts)
  scripts_agree room = script_agrees bodies body_in_place (everything in_place room).stmts (everything (passed_over bodies) room).stmts (everything_agrees room).stmts

  -- a body whose own statements are read by both
  pub own_bodies_agree : (room : ℕ) (f : FuncForm) (start : ℕ) (simple : Bool) → Agrees body_in_place (OwnK bodies) (reading (everything in_place room).stmts f start simple) (reading (everything (passed_over bodies) room).stmts f start simple)
  own_bodies_agree room f start simple = reading_agrees bodies body_in_place (everything in_place room).stmts (everything (passed_over bodies) room).stmts (everything_agrees room).stmts f f start start simple simple

-- The calls for expressions are those that pass over by themselves.
pub calls_are : (bodies : ℕ → BodyParser) (room : ℕ) (c : Call) → (everything (λ r stmt. bodies r) room).exprs c ≡ calls bodies room c
unfolding everything calls
calls_are bodies zero c = refl
calls_are bodies (suc room) c = ap (λ s. call_case (record { sub = s; body = bodies room }) c) (all_calls (calls_are bodies room))
  where
    all_calls : ((c : Call) → (everything (λ r stmt. bodies r) room).exprs c ≡ calls bodies room c) → (everything (λ r stmt. bodies r) room).exprs ≡ calls bodies room
    all_calls h = λ i c. h c i
