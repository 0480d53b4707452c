-- A function whose braced body was passed over and is read then, and the same function whose body is read where it stands.
use Rattle.std.proofs.Common.{◌≡◌, ◌∙◌, ℕ, ◌+◌, List, [], ◌∷◌, ◌++◌, refl, sym, ap, subst, Bool, true, false, ◌⊎◌, inl, inr, None}
use Rattle.script_grammar.specs.declared.token.FuncForm.{FuncForm}
use Rattle.script_grammar.specs.declared.token.mark.TheConstants as mark
use Rattle.script_grammar.specs.Kinds.{is_mark, is_end}
use Rattle.script_grammar.specs.Lexeme.{Lexeme}
use Rattle.script_grammar.specs.Pieces.{brace, passed, Fits}
use Rattle.script_grammar.specs.Print.{print_stmts}
use Rattle.script_grammar.specs.Script.{print_braced}
use Rattle.script_grammar.specs.Tree.{Body, Function, Stmts}
use Rattle.script_grammar.specs.Fault.{depth_limit}
use Rattle.grammar_parser_specs.specs.Parser.{Recorded, Reply, Read, Bad, Deep, Parser, head_of, noted, after, ret, bad, bind, step, when}
use Rattle.grammar_parser_specs.specs.Exprs.{Calls, BodyParser, BodyRead, Head, is_simple, expect, function_case, passing, pass_over, passed_body}
use Rattle.grammar_parser_specs.specs.Stmts as parser
use Rattle.grammar_parser_specs.specs.Stmts.{StmtCalls, everything, reading, alone_of, end_of}
use Rattle.grammar_parser_laws.proofs.Tests.{bool_cases}
use Rattle.grammar_parser_laws.proofs.Complete.{bare, bare_noted}
use Rattle.grammar_local_laws.proofs.LocalExprs.{after_noted}
use Rattle.grammar_parser_laws.proofs.NestedTrees.{nested_stmts}
use Rattle.grammar_local_laws.proofs.Passing.{braced_pass, record_at, passed_reply, passing_here, passing_no}
use Rattle.grammar_local_laws.proofs.PassingLaws.{AreBraced}
use Rattle.grammar_deferred_laws.proofs.PassedBodies.{passed_is_body}
use Rattle.grammar_deferred_laws.proofs.PassedFunctions.{pass_alone}
use Rattle.grammar_local_laws.proofs.Agrees.{records}
use Rattle.grammar_local_laws.proofs.AgreesScripts.{passed_over}
use Rattle.parse_parts.proofs.Quiet.{over_records}
use Rattle.parse_parts.proofs.Rooms.{NoneWith, none_last, no_body, none_with}
use Rattle.parse_parts.proofs.Spine.{Spine, apart, within, from_body, spine}

-- records

records_noted : {A : Type 0} (rs : List Recorded) (r : Reply A) → records (noted rs r) ≡ rs ++ records r
records_noted [] r = refl
records_noted (b ∷ rs) (Read a qs us) = refl
records_noted (b ∷ rs) (Bad qs us) = refl
records_noted (b ∷ rs) (Deep qs us) = refl

records_after : {A B : Type 0} (r : Reply A) (k : A → Parser B) → records r ≡ [] → ((a : A) (us : List Lexeme) → records (k a us) ≡ []) → records (after r k) ≡ []
records_after (Read a [] us) k e h = h a us
records_after (Read a (q ∷ qs) us) k e h = absurd (cc)
records_after (Bad rs us) k e h = e
records_after (Deep rs us) k e h = e

pub end_records : {A : Type 0} (a : A) (us : List Lexeme) → records (end_of a us) ≡ []
unfolding end_of
end_records a us = by (is_end (head_of us).kind)
  where
    by : (b : Bool) → records (when b (ret a) bad us) ≡ []
    by true = refl
    by false = refl

last_same : {A : Type 0} (u v : List A) (x y : A) → u ++ x ∷ [] ≡ v ++ y ∷ [] → x ≡ y
last_same {A = A} [] [] x y e = cc
last_same {A = A} [] (b ∷ v) x y e = absurd (never v (tail e))
  where
    tail : x ∷ [] ≡ b ∷ (v ++ y ∷ []) → [] ≡ v ++ y ∷ []
    tail e = cc

    never : (v : List A) → [] ≡ v ++ y ∷ [] → ⊥
    never [] k = absurd (cc)
    never (c ∷ v) k = absurd (cc)
last_same {A = A} (a ∷ u) [] x y e = absurd (never u (tail e))
  where
    tail : a ∷ (u ++ x ∷ []) ≡ y ∷ [] → u ++ x ∷ [] ≡ []
    tail e = cc

    never : (u : List A) → u ++ x ∷ [] ≡ [] → ⊥
    never [] k = absurd (cc)
    never (c ∷ u) k = absurd (cc)
last_same {A = A} (a ∷ u) (b ∷ v) x y e = last_same u v x y (tail e)
  where
    tail : a ∷ (u ++ x ∷ []) ≡ b ∷ (v ++ y ∷ []) → u ++ x ∷ [] ≡ v ++ y ∷ []
    tail e = cc

reading_no : (stmt : StmtCalls) (f : FuncForm) (start : ℕ) (simple : Bool) (ts : List Lexeme) → is_mark mark.OPEN_BRACE (head_of ts).kind ≡ false → reading stmt f start simple ts ≡ Bad [] ts
unfolding reading expect
reading_no stmt f start simple ts h = ap (λ b. after (when b (step (ret tt)) bad ts) (λ _. bind (parser.stmts_from stmt true) parser.close_body)) h

module _ (bodies : ℕ → Body) (braced : AreBraced bodies) (room : ℕ) (f : FuncForm) where
  abbrev sub : Calls
  sub = (everything (passed_over bodies) room).exprs

  -- its body is passed over
  abbrev pub passes : Parser Function
  passes = alone_of (record { sub = (everything (passed_over bodies) room).exprs; body = passing bodies room }) f

  abbrev own_record : Head → List Lexeme → Recorded
  own_record h us = record_at bodies room f h.start (is_simple h.params) us

  abbrev pub over : Head → List Lexeme → Reply Function
  over h us = from_body sub f (passing bodies room) h us

  abbrev pub whole : Head → List Lexeme → Reply Function
  whole h us = from_body sub f (reading (everything (passed_over bodies) room).stmts) h us

  abbrev with_own : List Lexeme → BodyParser → Reply Function
  with_own ts x = alone_of (record { sub = (everything (passed_over bodies) room).exprs; body = x }) f ts

  data Reached (ts : List Lexeme) : Type 0 where
    unread : passes ts ≡ pass_alone bodies braced room f ts → NoneWith room (records (passes ts)) → Reached ts
    reached : (h : Head) (rs : List Recorded) (t : Lexeme) (us : List Lexeme) → is_mark mark.OPEN_BRACE t.kind ≡ true → passes ts ≡ noted rs (over h (t ∷ us)) → pass_alone bodies braced room f ts ≡ noted rs (whole h (t ∷ us)) → Reached ts

  reach : (ts : List Lexeme) → Reached ts
  reach ts = by (spine sub f ts)
    where
      -- all replies are this one
      same : (r : Reply Function) → with_own ts (passing bodies room) ≡ r → with_own ts (reading (everything (passed_over bodies) room).stmts) ≡ r → with_own ts no_body ≡ r → Reached ts
      same r a b c = unread (a ∙ sym b) (subst (λ (s : Reply Function). NoneWith room (records s)) (c ∙ sym a) (none_with bodies braced room f ts))

      at : (h : Head) (rs : List Recorded) (us : List Lexeme) → ((x : BodyParser) → with_own ts x ≡ noted rs (from_body sub f x h us)) → (is_mark mark.OPEN_BRACE (head_of us).kind ≡ true) ⊎ (is_mark mark.OPEN_BRACE (head_of us).kind ≡ false) → Reached ts
      at h rs [] e (inl m) = absurd (cc)
      at h rs (t ∷ us) e (inl m) = reached h rs t us m (e (passing bodies room)) (e (reading (everything (passed_over bodies) room).stmts))
      at h rs us e (inr m) =
          let k : BodyRead → Parser Function = λ b. end_of (function_case f None h b) in
          same (noted rs (Bad [] us))
          (e (passing bodies room) ∙ ap (λ (r : Reply BodyRead). noted rs (after r k)) (passing_no bodies room f h.start (is_simple h.params) us m))
          (e (reading (everything (passed_over bodies) room).stmts) ∙ ap (λ (r : Reply BodyRead). noted rs (after r k)) (reading_no (everything (passed_over bodies) room).stmts f h.start (is_simple h.params) us m))
          (e no_body)

      by : Spine sub f (with_own ts) → Reached ts
      by (apart r e) = same r (e (passing bodies room)) (e (reading (everything (passed_over bodies) room).stmts)) (e no_body)
      by (within h rs us e) = at h rs us e (bool_cases (is_mark mark.OPEN_BRACE (head_of us).kind))

  -- the body that is passed over is recorded last

  over_is : (h : Head) (t : Lexeme) (us : List Lexeme) → is_mark mark.OPEN_BRACE t.kind ≡ true → over h (t ∷ us) ≡ noted (own_record h (t ∷ us) ∷ []) (after (passed_reply bodies room f h.start (is_simple h.params) us) (λ b. end_of (function_case f None h b)))
  over_is h t us m = ap (λ (r : Reply BodyRead). after r (λ b. end_of (function_case f None h b))) (passing_here bodies room f h.start (is_simple h.params) t us m) ∙ after_noted (own_record h (t ∷ us) ∷ []) (passed_reply bodies room f h.start (is_simple h.params) us) (λ b. end_of (function_case f None h b))

  recorded_last : (ts : List Lexeme) (h : Head) (rs : List Recorded) (t : Lexeme) (us : List Lexeme) → is_mark mark.OPEN_BRACE t.kind ≡ true → passes ts ≡ noted rs (over h (t ∷ us)) → records (passes ts) ≡ rs ++ own_record h (t ∷ us) ∷ []
  recorded_last ts h rs t us m e =
      ap records e ∙ records_noted rs (over h (t ∷ us))
      ∙ ap (λ x. rs ++ x)
      (ap records (over_is h t us m) ∙ records_noted (own_record h (t ∷ us) ∷ []) (after (passed_reply bodies room f h.start (is_simple h.params) us) (λ b. end_of (function_case f None h b)))
      ∙ ap (λ x. own_record h (t ∷ us) ∷ x) (records_after (passed_reply bodies room f h.start (is_simple h.params) us) (λ b. end_of (function_case f None h b)) (records_after (pass_over (brace ∷ []) us) (λ end. ret (passed_body (bodies h.start) end)) (over_records us (brace ∷ [])) (λ a vs. refl)) (λ a vs. end_records (function_case f None h a) vs)))

  -- Where the last body that was recorded is not the function's own, there is none to be read.
  pub none_own : (ts : List Lexeme) → ((rs : List Recorded) (b : Recorded) → records (passes ts) ≡ rs ++ b ∷ [] → b.room ≡ room → ⊥) → passes ts ≡ pass_alone bodies braced room f ts
  none_own ts n = by (reach ts)
    where
      by : Reached ts → passes ts ≡ pass_alone bodies braced room f ts
      by (unread e k) = e
      by (reached h rs t us m e k) = absurd (n rs (own_record h (t ∷ us)) (recorded_last ts h rs t us m e) refl)

  -- Where it is, the body stands there.
  pub record Stood (ts : List Lexeme) (b : Recorded) : Type 0 where
    pub head : Head
    pub before : List Recorded
    pub first : Lexeme
    pub behind : List Lexeme
    pub opens : is_mark mark.OPEN_BRACE first.kind ≡ true
    pub there : b.from ≡ first ∷ behind
    pub recorded_are : records (passes ts) ≡ before ++ b ∷ []
    pub passed_there : passes ts ≡ noted before (over head (first ∷ behind))
    pub read_there : pass_alone bodies braced room f ts ≡ noted before (whole head (first ∷ behind))

  pub own_stood : (ts : List Lexeme) (rs : List Recorded) (b : Recorded) → records (passes ts) ≡ rs ++ b ∷ [] → b.room ≡ room → Stood ts b
  own_stood ts rs b e q = by (reach ts)
    where
      by : Reached ts → Stood ts b
      by (unread k n) = absurd (none_last room rs b (subst (NoneWith room) e n) q)
      by (reached h qs t us m k l) = record {
        head = h;
        before = qs;
        first = t;
        behind = us;
        opens = m;
        there = sym (ap (λ (x : Recorded). x.from) (last_same qs rs (own_record h (t ∷ us)) b (sym (recorded_last ts h qs t us m k) ∙ e)));
        recorded_are = recorded_last ts h qs t us m k ∙ ap (λ x. qs ++ x ∷ []) (last_same qs rs (own_record h (t ∷ us)) b (sym (recorded_last ts h qs t us m k) ∙ e));
        passed_there = k;
        read_there = l;
      }

  -- the parser of the own body, which does not look at how its function begins
  abbrev pub own_body : Head → Parser BodyRead
  own_body h = reading (everything (passed_over bodies) room).stmts f h.start (is_simple h.params)

  -- a fault of the body is one of the function

  pub own_bad : (ts vs : List Lexeme) (b : Recorded) (s : Stood ts b) → bare (own_body s.head b.from) ≡ Bad [] vs → bare (pass_alone bodies braced room f ts) ≡ Bad [] vs
  own_bad ts vs b s e = ap bare s.read_there ∙ bare_noted s.before (whole s.head (s.first ∷ s.behind)) ∙ by (own_body s.head (s.first ∷ s.behind)) (ap (λ us. bare (own_body s.head us)) (sym s.there) ∙ e)
    where
      by : (r : Reply BodyRead) → bare r ≡ Bad [] vs → bare (after r (λ b. end_of (function_case f None s.head b))) ≡ Bad [] vs
      by (Read a rs us) e = absurd (cc)
      by (Bad rs us) e = ap (λ x. Bad [] x) (same e)
        where
          same : ◌≡◌ {A = Reply BodyRead} (Bad [] us) (Bad [] vs) → us ≡ vs
          same e = cc
      by (Deep rs us) e = absurd (cc)

  pub own_deep : (ts vs : List Lexeme) (b : Recorded) (s : Stood ts b) → bare (own_body s.head b.from) ≡ Deep [] vs → bare (pass_alone bodies braced room f ts) ≡ Deep [] vs
  own_deep ts vs b s e = ap bare s.read_there ∙ bare_noted s.before (whole s.head (s.first ∷ s.behind)) ∙ by (own_body s.head (s.first ∷ s.behind)) (ap (λ us. bare (own_body s.head us)) (sym s.there) ∙ e)
    where
      by : (r : Reply BodyRead) → bare r ≡ Deep [] vs → bare (after r (λ b. end_of (function_case f None s.head b))) ≡ Deep [] vs
      by (Read a rs us) e = absurd (cc)
      by (Bad rs us) e = absurd (cc)
      by (Deep rs us) e = ap (λ x. Deep [] x) (same e)
        where
          same : ◌≡◌ {A = Reply BodyRead} (Deep [] us) (Deep [] vs) → us ≡ vs
          same e = cc

  -- a body that is read is passed over up to the same place

  pub own_read : (d : ℕ) → room + d ≡ depth_limit → (ts vs : List Lexeme) (b : Recorded) (s : Stood ts b) (x : BodyRead) → bare (own_body s.head b.from) ≡ Read x [] vs
      → (bare (pass_alone bodies braced room f ts) ≡ bare (end_of (function_case f None s.head x) vs)) × (bare (passes ts) ≡ bare (end_of (function_case f None s.head (passed_body (bodies s.head.start) x.end)) vs))
  own_read d q ts vs b s x e = (
    ap bare s.read_there ∙ bare_noted s.before (whole s.head (s.first ∷ s.behind)) ∙ by (own_body s.head (s.first ∷ s.behind)) here,
    ap bare s.passed_there ∙ bare_noted s.before (over s.head (s.first ∷ s.behind)) ∙ ap bare (over_is s.head s.first s.behind s.opens) ∙ bare_noted (own_record s.head (s.first ∷ s.behind) ∷ []) _
        ∙ ap (λ (r : Reply ℕ). bare (after (after r (λ end. ret (passed_body (bodies s.head.start) end))) (λ y. end_of (function_case f None s.head y)))) goes,
  )
    where
      here : bare (own_body s.head (s.first ∷ s.behind)) ≡ Read x [] vs
      here = ap (λ us. bare (own_body s.head us)) (sym s.there) ∙ e

      by : (r : Reply BodyRead) → bare r ≡ Read x [] vs → bare (after r (λ y. end_of (function_case f None s.head y))) ≡ bare (end_of (function_case f None s.head x) vs)
      by (Read a rs us) h = bare_noted rs (end_of (function_case f None s.head a) us) ∙ ap (λ y. bare (end_of (function_case f None s.head y) us)) (same_value h) ∙ ap (λ y. bare (end_of (function_case f None s.head x) y)) (same_left h)
        where
          same_value : ◌≡◌ {A = Reply BodyRead} (Read a [] us) (Read x [] vs) → a ≡ x
          same_value h = cc

          same_left : ◌≡◌ {A = Reply BodyRead} (Read a [] us) (Read x [] vs) → us ≡ vs
          same_left h = cc
      by (Bad rs us) h = absurd (cc)
      by (Deep rs us) h = absurd (cc)

      goes : pass_over (brace ∷ []) s.behind ≡ Read x.end [] vs
      goes =
          let p = passed_is_body bodies braced room d q f s.head.start (is_simple s.head.params) (s.first ∷ s.behind) vs x here in
          over_front p.front p.split p.items (head_of vs) (nested_stmts passed d true p.items p.is.proper) p.is.fits
        where
          over_front : (front : List Lexeme) → s.first ∷ s.behind ≡ front ++ vs → (items : Stmts) (n : Lexeme) → Rattle.grammar_parser_laws.proofs.Nested.Nested (print_stmts passed d items) → Fits (print_braced passed d x.end items) front n → pass_over (brace ∷ []) s.behind ≡ Read x.end [] vs
          over_front [] e items n k h = absurd h
          over_front (t ∷ w) e items n k h = ap (pass_over (brace ∷ [])) (tail e) ∙ braced_pass d x.end (print_stmts passed d items) k t w n vs h
            where
              tail : s.first ∷ s.behind ≡ t ∷ (w ++ vs) → s.behind ≡ w ++ vs
              tail e = cc
