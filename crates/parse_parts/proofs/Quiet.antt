-- The parser that passes bodies over, beside the same that does not record them: what the two read is alike, whatever is held
-- of the recorded bodies as long as those with less room than a bound are held to have no fault.
use Rattle.std.proofs.Common.{◌≡◌, ◌∙◌, ℕ, zero, suc, ◌<◌, ◌≤◌, List, [], ◌∷◌, refl, sym, ap, subst, arith, Bool, true, false, ◌⊎◌, inl, inr, Option, Some, None}
use Rattle.script_grammar.specs.declared.token.FuncForm.{FuncForm}
use Rattle.script_grammar.specs.declared.token.mark.TheConstants as mark
use Rattle.script_grammar.specs.Kinds.{is_mark}
use Rattle.script_grammar.specs.Lexeme.{Lexeme}
use Rattle.script_grammar.specs.Pieces.{Opener, brace, open_behind}
use Rattle.script_grammar.specs.Tree.{Body}
use Rattle.grammar_parser_specs.specs.Parser.{Recorded, Reply, Read, Bad, Deep, Parser, put_before, after, ret}
use Rattle.grammar_parser_specs.specs.Exprs.{Call, BodyParser, BodyRead, passing, pass_case, pass_over, passed_body, calls}
use Rattle.grammar_parser_specs.specs.Filling.{fill_body}
use Rattle.grammar_parser_laws.proofs.Tests.{bool_cases}
use Rattle.grammar_parser_laws.proofs.Complete.{bare, bare_noted}
use Rattle.grammar_local_laws.proofs.Passing.{record_at, passed_reply, passing_here, passing_no}
use Rattle.grammar_local_laws.proofs.PassingLaws.{AreBraced}
use Rattle.grammar_local_laws.proofs.Agrees.{Verdict, fine, or_else, judged, records, MeetsAt, Agrees}
use Rattle.grammar_local_laws.proofs.Alike.{BodyK}
use Rattle.grammar_local_laws.proofs.AgreesExprs.{CallK, AgreesEnv}
use Rattle.grammar_local_laws.proofs.AgreesCalls.{case_agrees, no_calls_agrees}

-- what was read, with its records
pub with_records : {A : Type 0} (a : A) (us : List Lexeme) (r : Reply A) → bare r ≡ Read a [] us → (rs : List Recorded) × (r ≡ Read a rs us)
with_records {A = A} a us (Read b rs vs) e = (rs, ap (λ x. Read x rs vs) (same_value e) ∙ ap (λ x. Read a rs x) (same_left e))
  where
    same_value : ◌≡◌ {A = Reply A} (Read b [] vs) (Read a [] us) → b ≡ a
    same_value e = cc

    same_left : ◌≡◌ {A = Reply A} (Read b [] vs) (Read a [] us) → vs ≡ us
    same_left e = cc
with_records a us (Bad rs vs) e = absurd (cc)
with_records a us (Deep rs vs) e = absurd (cc)

pub bare_twice : {A : Type 0} (r : Reply A) → bare r ≡ bare (bare r)
bare_twice (Read a rs us) = refl
bare_twice (Bad rs us) = refl
bare_twice (Deep rs us) = refl

-- nothing is recorded while a body is passed over
pub over_records : (ts : List Lexeme) (ps : List Opener) → records (pass_over ps ts) ≡ []
over_records [] ps = refl
over_records (t ∷ ts) ps = by (open_behind t.kind ps) (over_records ts)
  where
    by : (o : Option (List Opener)) → ((qs : List Opener) → records (pass_over qs ts) ≡ []) → records (pass_case o t ts (λ qs. pass_over qs ts)) ≡ []
    by None h = refl
    by (Some []) h = refl
    by (Some (q ∷ qs)) h = h (q ∷ qs)

passed_records : (b : Body) (r : Reply ℕ) → records r ≡ [] → records (after r (λ end. ret (passed_body b end))) ≡ []
passed_records b (Read end [] us) e = refl
passed_records b (Read end (q ∷ qs) us) e = absurd (cc)
passed_records b (Bad rs us) e = e
passed_records b (Deep rs us) e = e

records_put : {A : Type 0} (b : Recorded) (s : Reply A) → records (put_before (b ∷ []) s) ≡ b ∷ records s
records_put b (Read a rs us) = refl
records_put b (Bad rs us) = refl
records_put b (Deep rs us) = refl

module _ (bodies : ℕ → Body) (braced : AreBraced bodies) where
  -- bodies are passed over, and not recorded
  abbrev pub quiet : ℕ → BodyParser
  quiet room f start simple ts = bare (passing bodies room f start simple ts)

  passed_is : (start : ℕ) (r : Reply ℕ) (x : BodyRead) (rs : List Recorded) (us : List Lexeme) → after r (λ end. ret (passed_body (bodies start) end)) ≡ Read x rs us → x.body ≡ bodies start
  passed_is start (Read end qs vs) x rs us e = same (sym (bare_noted qs (Read (passed_body (bodies start) end) [] vs)) ∙ ap bare e)
    where
      same : ◌≡◌ {A = Reply BodyRead} (Read (passed_body (bodies start) end) [] vs) (Read x [] us) → x.body ≡ bodies start
      same k = ap (λ (y : BodyRead). y.body) (value k)
        where
          value : ◌≡◌ {A = Reply BodyRead} (Read (passed_body (bodies start) end) [] vs) (Read x [] us) → x ≡ passed_body (bodies start) end
          value k = cc
  passed_is start (Bad qs vs) x rs us e = absurd (cc)
  passed_is start (Deep qs vs) x rs us e = absurd (cc)

  module _ (room : ℕ) (f : FuncForm) (start : ℕ) (simple : Bool) where
    -- a body that is passed over is the one that is given
    body_is : (ts : List Lexeme) (x : BodyRead) (rs : List Recorded) (us : List Lexeme) → passing bodies room f start simple ts ≡ Read x rs us → x.body ≡ bodies start
    body_is [] x rs us e = absurd (never (sym (passing_no bodies room f start simple [] refl) ∙ e))
      where
        never : ◌≡◌ {A = Reply BodyRead} (Bad [] []) (Read x rs us) → ⊥
        never k = cc
    body_is (t ∷ ts) x rs us e = by (bool_cases (is_mark mark.OPEN_BRACE t.kind))
      where
        never : ◌≡◌ {A = Reply BodyRead} (Bad [] (t ∷ ts)) (Read x rs us) → ⊥
        never k = cc

        by : (is_mark mark.OPEN_BRACE t.kind ≡ true) ⊎ (is_mark mark.OPEN_BRACE t.kind ≡ false) → x.body ≡ bodies start
        by (inl h) =
            let k = sym (bare_noted (record_at bodies room f start simple (t ∷ ts) ∷ []) (passed_reply bodies room f start simple ts)) ∙ ap bare (sym (passing_here bodies room f start simple t ts h) ∙ e) in
            let r = with_records x us (passed_reply bodies room f start simple ts) k in
            passed_is start (pass_over (brace ∷ []) ts) x r.0 us r.1
        by (inr h) = absurd (never (sym (passing_no bodies room f start simple (t ∷ ts) h) ∙ e))

    body_alike : (ts : List Lexeme) (x : BodyRead) (rs : List Recorded) (us : List Lexeme) → passing bodies room f start simple ts ≡ Read x rs us → BodyK bodies start x x
    body_alike ts x rs us e = record { endings = refl; ends = refl; same = subst (λ y. y ≡ fill_body bodies start y) (sym (body_is ts x rs us e ∙ braced.are start)) (sym (braced.are start)) }

  -- whether the parameters are simple is only recorded
  same_bare : (room : ℕ) (f : FuncForm) (start : ℕ) (p q : Bool) (ts : List Lexeme) → bare (passing bodies room f start p ts) ≡ bare (passing bodies room f start q ts)
  same_bare room f start p q [] = ap bare (passing_no bodies room f start p [] refl ∙ sym (passing_no bodies room f start q [] refl))
  same_bare room f start p q (t ∷ ts) = by (bool_cases (is_mark mark.OPEN_BRACE t.kind))
    where
      by : (is_mark mark.OPEN_BRACE t.kind ≡ true) ⊎ (is_mark mark.OPEN_BRACE t.kind ≡ false) → bare (passing bodies room f start p (t ∷ ts)) ≡ bare (passing bodies room f start q (t ∷ ts))
      by (inl h) =
          ap bare (passing_here bodies room f start p t ts h) ∙ bare_noted (record_at bodies room f start p (t ∷ ts) ∷ []) (passed_reply bodies room f start p ts)
          ∙ sym (ap bare (passing_here bodies room f start q t ts h) ∙ bare_noted (record_at bodies room f start q (t ∷ ts) ∷ []) (passed_reply bodies room f start q ts))
      by (inr h) = ap bare (passing_no bodies room f start p (t ∷ ts) h ∙ sym (passing_no bodies room f start q (t ∷ ts) h))

  -- over a verdict by which no body with less room than a bound has a fault
  module _ {C : Type 0} (judge : Recorded → Reply C) (bound : ℕ) (clean : (b : Recorded) (v : Verdict) → b.room < bound → or_else (judge b) v ≡ v) where
    -- a reply and the same without its records agree, where what is read agrees with itself
    meets_bare : {A : Type 0} (K : A → A → Type 0) (r s : Reply A) → r ≡ bare s → ((a : A) (rs : List Recorded) (us : List Lexeme) → s ≡ Read a rs us → K a a) → MeetsAt judge K fine r s
    meets_bare K r (Read a rs us) e k = (a, e, k a rs us refl)
    meets_bare K r (Bad rs us) e k = e
    meets_bare K r (Deep rs us) e k = e

    agrees_bare : {A : Type 0} (K : A → A → Type 0) (f g : Parser A) → ((ts : List Lexeme) → judged judge (records (g ts)) ≡ fine) → ((ts : List Lexeme) → f ts ≡ bare (g ts)) → ((ts : List Lexeme) (a : A) (rs : List Recorded) (us : List Lexeme) → g ts ≡ Read a rs us → K a a) → Agrees judge K f g
    agrees_bare K f g c e k = record { at = λ ts. subst (λ v. MeetsAt judge K v (f ts) (g ts)) (sym (c ts)) (meets_bare K (f ts) (g ts) (e ts) (k ts)) }

    bare_records : {A : Type 0} (r : Reply A) → judged judge (records (bare r)) ≡ fine
    bare_records (Read a rs us) = refl
    bare_records (Bad rs us) = refl
    bare_records (Deep rs us) = refl

    module _ (room : ℕ) (low : room < bound) (f : FuncForm) (start : ℕ) (p q : Bool) where
      passing_records : (ts : List Lexeme) → judged judge (records (passing bodies room f start q ts)) ≡ fine
      passing_records [] = ap (λ (r : Reply BodyRead). judged judge (records r)) (passing_no bodies room f start q [] refl)
      passing_records (t ∷ ts) = by (bool_cases (is_mark mark.OPEN_BRACE t.kind))
        where
          by : (is_mark mark.OPEN_BRACE t.kind ≡ true) ⊎ (is_mark mark.OPEN_BRACE t.kind ≡ false) → judged judge (records (passing bodies room f start q (t ∷ ts))) ≡ fine
          by (inl h) =
              ap (λ (r : Reply BodyRead). judged judge (records r)) (passing_here bodies room f start q t ts h)
              ∙ ap (judged judge) (records_put (record_at bodies room f start q (t ∷ ts)) (passed_reply bodies room f start q ts) ∙ ap (λ rs. record_at bodies room f start q (t ∷ ts) ∷ rs) (passed_records (bodies start) (pass_over (brace ∷ []) ts) (over_records ts (brace ∷ []))))
              ∙ clean (record_at bodies room f start q (t ∷ ts)) fine low
          by (inr h) = ap (λ (r : Reply BodyRead). judged judge (records r)) (passing_no bodies room f start q (t ∷ ts) h)

      pub quiet_passing : Agrees judge (BodyK bodies start) (quiet room f start p) (passing bodies room f start q)
      quiet_passing = agrees_bare (BodyK bodies start) (quiet room f start p) (passing bodies room f start q) passing_records (same_bare room f start p q) (body_alike room f start q)

      pub quiet_quiet : Agrees judge (BodyK bodies start) (quiet room f start p) (quiet room f start q)
      quiet_quiet =
          agrees_bare (BodyK bodies start) (quiet room f start p) (quiet room f start q) (λ ts. bare_records (passing bodies room f start q ts)) (λ ts. same_bare room f start p q ts ∙ bare_twice (passing bodies room f start q ts))
          (λ ts x rs us e. let r = with_records x us (passing bodies room f start q ts) (bare_twice (passing bodies room f start q ts) ∙ ap bare e) in body_alike room f start q ts x r.0 us r.1)

    -- calls over these bodies

    module _ (second : ℕ → BodyParser) (h : (room : ℕ) → room < bound → (f : FuncForm) (start : ℕ) (p q : Bool) → Agrees judge (BodyK bodies start) (quiet room f start p) (second room f start q)) where
      pub calls_alike : (room : ℕ) → room ≤ bound → (c : Call) → Agrees judge (CallK bodies c) (calls quiet room c) (calls second room c)
      unfolding calls
      calls_alike zero l c = no_calls_agrees bodies judge c
      calls_alike (suc room) l c = case_agrees bodies judge (record { sub = calls quiet room; body = quiet room }) (record { sub = calls second room; body = second room }) (record { sub = calls_alike room (omega arith); body = h room (omega arith) }) c

      pub env_alike : (room : ℕ) → room < bound → AgreesEnv bodies judge (record { sub = calls quiet room; body = quiet room }) (record { sub = calls second room; body = second room })
      env_alike room l = record { sub = calls_alike room (omega (arith, l)); body = h room l }
