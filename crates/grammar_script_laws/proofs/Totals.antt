-- What a text comes to whose bodies are passed over and read later: the verdict on the bodies that are still to be read, or
-- else what is known of the text. Each body that is read puts those inside it in its place.
use Rattle.std.proofs.Common.{◌≡◌, ℕ, List, [], ◌∷◌, ◌++◌, refl, sym, ap, ◌∙◌, subst, Bool}
use Rattle.script_grammar.specs.declared.token.FuncForm.{FuncForm}
use Rattle.script_grammar.specs.Lexeme.{Lexeme}
use Rattle.script_grammar.specs.Tree.{Body}
use Rattle.script_grammar.specs.Pieces.{whole, BracedArrow}
use Rattle.script_grammar.specs.Endings.{body_ending}
use Rattle.script_grammar.specs.Fault.{depth_limit, Part, ScriptPart}
use Rattle.grammar_parser_specs.specs.Parser.{Recorded, Reply, Read, Bad, Deep, Parser}
use Rattle.grammar_parser_specs.specs.Exprs.{BodyRead}
use Rattle.grammar_parser_specs.specs.Stmts.{everything, in_place, reading, read_script, read_alone}
use Rattle.grammar_parser_laws.proofs.Complete.{bare}
use Rattle.grammar_script_laws.proofs.FirstFaults.{Decides}
use Rattle.grammar_script_laws.proofs.ScriptLaws.{Reads, script_decides}
use Rattle.grammar_local_laws.proofs.Agrees.{Verdict, fine, bad_at, deep_at, or_else, judged, records, MeetsAt, Agrees}
use Rattle.grammar_local_laws.proofs.AgreesStmts.{StmtsK, OwnK}
use Rattle.grammar_local_laws.proofs.AgreesScripts.{body_in_place, passed_over, scripts_agree, own_bodies_agree}
use Rattle.grammar_script_laws.proofs.AgreesAlone.{AloneK, functions_agree}
use Rattle.grammar_script_laws.proofs.PassedLaws.{verdict, pass_script}

-- the one verdict, or else the other
abbrev pub or_says : Verdict → Verdict → Verdict
or_says fine w = w
or_says (bad_at vs) w = bad_at vs
or_says (deep_at vs) w = deep_at vs

-- what a reply says by itself
abbrev pub own_says : {A : Type 0} → Reply A → Verdict
own_says r = or_else r fine

abbrev pub total : {A : Type 0} → Reply A → Verdict
total r = or_says (verdict r) (own_says r)

-- the verdict on bodies that are to be read
abbrev pub judged_bodies : List Recorded → Verdict
judged_bodies = judged body_in_place

or_assoc : (u v w : Verdict) → or_says (or_says u v) w ≡ or_says u (or_says v w)
or_assoc fine v w = refl
or_assoc (bad_at vs) v w = refl
or_assoc (deep_at vs) v w = refl

pub or_fine : (u : Verdict) → or_says u fine ≡ u
or_fine fine = refl
or_fine (bad_at vs) = refl
or_fine (deep_at vs) = refl

else_or : {A : Type 0} (r : Reply A) (v w : Verdict) → or_says (or_else r v) w ≡ or_else r (or_says v w)
else_or (Read a rs us) v w = refl
else_or (Bad rs us) v w = refl
else_or (Deep rs us) v w = refl

else_says : {A : Type 0} (r : Reply A) (w : Verdict) → or_else r w ≡ or_says (own_says r) w
else_says (Read a rs us) w = refl
else_says (Bad rs us) w = refl
else_says (Deep rs us) w = refl

pub judged_both : (rs qs : List Recorded) → judged_bodies (rs ++ qs) ≡ or_says (judged_bodies rs) (judged_bodies qs)
judged_both [] qs = refl
judged_both (b ∷ rs) qs = ap (or_else (body_in_place b)) (judged_both rs qs) ∙ sym (else_or (body_in_place b) (judged_bodies rs) (judged_bodies qs))

-- what is read in place is what the parser reads that passes over, with the bodies that it recorded
meets_total : {A B : Type 0} (K : A → B → Type 0) (v : Verdict) (r : Reply A) (s : Reply B) → MeetsAt body_in_place K v r s → own_says r ≡ or_says v (own_says s)
meets_total K fine r (Read b rs us) m = ap own_says m.1
meets_total K fine r (Bad rs us) m = ap own_says m
meets_total K fine r (Deep rs us) m = ap own_says m
meets_total K (bad_at vs) r s m = ap own_says m
meets_total K (deep_at vs) r s m = ap own_says m

-- A reply by what it says.

pub says_bad : {A : Type 0} (r : Reply A) (vs : List Lexeme) → own_says r ≡ bad_at vs → bare r ≡ Bad [] vs
says_bad (Read a rs us) vs e = absurd (cc)
says_bad (Bad rs us) vs e = ap (Bad []) (same e)
  where
    same : bad_at us ≡ bad_at vs → us ≡ vs
    same e = cc
says_bad (Deep rs us) vs e = absurd (cc)

pub says_deep : {A : Type 0} (r : Reply A) (vs : List Lexeme) → own_says r ≡ deep_at vs → bare r ≡ Deep [] vs
says_deep (Read a rs us) vs e = absurd (cc)
says_deep (Bad rs us) vs e = absurd (cc)
says_deep (Deep rs us) vs e = ap (Deep []) (same e)
  where
    same : deep_at us ≡ deep_at vs → us ≡ vs
    same e = cc

bare_says : {A : Type 0} (r : Reply A) → own_says (bare r) ≡ own_says r
bare_says (Read a rs us) = refl
bare_says (Bad rs us) = refl
bare_says (Deep rs us) = refl

pub total_fine : {A : Type 0} (r : Reply A) → total r ≡ fine → verdict r ≡ fine
total_fine r e = by (verdict r) e
  where
    by : (v : Verdict) → or_says v (own_says r) ≡ fine → v ≡ fine
    by fine e = refl
    by (bad_at vs) e = absurd (cc)
    by (deep_at vs) e = absurd (cc)

total_own : {A : Type 0} (r : Reply A) → total r ≡ fine → own_says r ≡ fine
total_own r e = by (verdict r) e
  where
    by : (v : Verdict) → or_says v (own_says r) ≡ fine → own_says r ≡ fine
    by fine e = e
    by (bad_at vs) e = absurd (cc)
    by (deep_at vs) e = absurd (cc)

-- A parser that reads bodies in place, and one that agrees with it but passes them over: what the one comes to is what the
-- other finds.
module _ {A B : Type 0} (K : A → B → Type 0) (e : Parser A) (l : Parser B) (a : Agrees body_in_place K e l) where
  pub says_total : (ts : List Lexeme) → own_says (e ts) ≡ total (l ts)
  says_total ts = meets_total K (verdict (l ts)) (e ts) (l ts) (a.at ts)

  pub in_place_bad : (ts vs : List Lexeme) → total (l ts) ≡ bad_at vs → bare (e ts) ≡ Bad [] vs
  in_place_bad ts vs h = says_bad (e ts) vs (says_total ts ∙ h)

  pub in_place_deep : (ts vs : List Lexeme) → total (l ts) ≡ deep_at vs → bare (e ts) ≡ Deep [] vs
  in_place_deep ts vs h = says_deep (e ts) vs (says_total ts ∙ h)

  -- both read
  pub record BothRead (ts : List Lexeme) : Type 0 where
    pub value : A
    pub given : B
    pub passed : List Recorded
    pub left : List Lexeme
    pub reads : e ts ≡ Read value [] left
    pub passes : l ts ≡ Read given passed left
    pub are : K value given

  pub both_read : (ts : List Lexeme) → total (l ts) ≡ fine → BothRead ts
  both_read ts h = by (l ts) refl (total_own (l ts) h) (subst (λ v. MeetsAt body_in_place K v (e ts) (l ts)) (total_fine (l ts) h) (a.at ts))
    where
      by : (s : Reply B) → l ts ≡ s → own_says s ≡ fine → MeetsAt body_in_place K fine (e ts) s → BothRead ts
      by (Read b rs us) k n m = record { value = m.0; given = b; passed = rs; left = us; reads = m.1; passes = k; are = m.2 }
      by (Bad rs us) k n m = absurd (cc)
      by (Deep rs us) k n m = absurd (cc)

  -- and the other way round
  pub total_says : (ts : List Lexeme) (r : Reply A) → bare (e ts) ≡ r → total (l ts) ≡ own_says r
  total_says ts r h = sym (says_total ts) ∙ sym (bare_says (e ts)) ∙ ap own_says h

module _ (bodies : ℕ → Body) (braced : (n : ℕ) → body_ending (bodies n) ≡ BracedArrow) where
  -- a body that was recorded, read with the bodies inside it passed over
  abbrev pub pass_body : Recorded → Reply BodyRead
  pass_body b = reading (everything (passed_over bodies) b.room).stmts b.form 0 b.simple b.from

  body_total : (b : Recorded) → own_says (body_in_place b) ≡ total (pass_body b)
  body_total b = meets_total (OwnK bodies) (verdict (pass_body b)) (body_in_place b) (pass_body b) ((own_bodies_agree bodies braced b.room b.form 0 b.simple).at b.from)

  first_total : (b : Recorded) (rest : List Recorded) → judged_bodies (b ∷ rest) ≡ or_says (judged_bodies (records (pass_body b))) (or_says (own_says (pass_body b)) (judged_bodies rest))
  first_total b rest = else_says (body_in_place b) (judged_bodies rest) ∙ ap (λ x. or_says x (judged_bodies rest)) (body_total b) ∙ or_assoc (verdict (pass_body b)) (own_says (pass_body b)) (judged_bodies rest)

  -- The next body is read: those inside it come next.
  pub next_read : (b : Recorded) (rest : List Recorded) (w : Verdict) → own_says (pass_body b) ≡ fine → or_says (judged_bodies (b ∷ rest)) w ≡ or_says (judged_bodies (records (pass_body b) ++ rest)) w
  next_read b rest w e = ap (λ x. or_says x w) (first_total b rest ∙ ap (λ x. or_says (judged_bodies (records (pass_body b))) (or_says x (judged_bodies rest))) e ∙ sym (judged_both (records (pass_body b)) rest))

  -- It has a fault of its own: what stands after it does not matter.
  faulty : (u v w x : Verdict) → (v ≡ fine → ⊥) → or_says (or_says u (or_says v w)) x ≡ or_says u v
  faulty fine fine w x n = absurd (n refl)
  faulty fine (bad_at vs) w x n = refl
  faulty fine (deep_at vs) w x n = refl
  faulty (bad_at us) v w x n = refl
  faulty (deep_at us) v w x n = refl

  pub next_faulty : (b : Recorded) (rest : List Recorded) (w : Verdict) → (own_says (pass_body b) ≡ fine → ⊥) → or_says (judged_bodies (b ∷ rest)) w ≡ or_says (judged_bodies (records (pass_body b))) (own_says (pass_body b))
  next_faulty b rest w n = ap (λ x. or_says x w) (first_total b rest) ∙ faulty (judged_bodies (records (pass_body b))) (own_says (pass_body b)) (judged_bodies rest) w n

  -- What each part comes to is what the parser finds that reads all bodies in place: a script,

  pub total_bad : (ts vs : List Lexeme) → total (pass_script bodies braced ts) ≡ bad_at vs → Reads ts ≡ Bad [] vs
  total_bad = in_place_bad (StmtsK bodies) (read_script depth_limit) (pass_script bodies braced) (scripts_agree bodies braced depth_limit)

  pub total_deep : (ts vs : List Lexeme) → total (pass_script bodies braced ts) ≡ deep_at vs → Reads ts ≡ Deep [] vs
  total_deep = in_place_deep (StmtsK bodies) (read_script depth_limit) (pass_script bodies braced) (scripts_agree bodies braced depth_limit)

  -- a body whose own statements are read,

  pub body_total_bad : (room : ℕ) (f : FuncForm) (start : ℕ) (simple : Bool) (ts vs : List Lexeme) → total (reading (everything (passed_over bodies) room).stmts f start simple ts) ≡ bad_at vs → bare (reading (everything in_place room).stmts f start simple ts) ≡ Bad [] vs
  body_total_bad room f start simple = in_place_bad (OwnK bodies) (reading (everything in_place room).stmts f start simple) (reading (everything (passed_over bodies) room).stmts f start simple) (own_bodies_agree bodies braced room f start simple)

  pub body_total_deep : (room : ℕ) (f : FuncForm) (start : ℕ) (simple : Bool) (ts vs : List Lexeme) → total (reading (everything (passed_over bodies) room).stmts f start simple ts) ≡ deep_at vs → bare (reading (everything in_place room).stmts f start simple ts) ≡ Deep [] vs
  body_total_deep room f start simple = in_place_deep (OwnK bodies) (reading (everything in_place room).stmts f start simple) (reading (everything (passed_over bodies) room).stmts f start simple) (own_bodies_agree bodies braced room f start simple)

  -- and a function alone

  pub function_total_bad : (room : ℕ) (f : FuncForm) (ts vs : List Lexeme) → total (read_alone (passed_over bodies) room f ts) ≡ bad_at vs → bare (read_alone in_place room f ts) ≡ Bad [] vs
  function_total_bad room f = in_place_bad (AloneK bodies) (read_alone in_place room f) (read_alone (passed_over bodies) room f) (functions_agree bodies braced room f)

  pub function_total_deep : (room : ℕ) (f : FuncForm) (ts vs : List Lexeme) → total (read_alone (passed_over bodies) room f ts) ≡ deep_at vs → bare (read_alone in_place room f ts) ≡ Deep [] vs
  function_total_deep room f = in_place_deep (AloneK bodies) (read_alone in_place room f) (read_alone (passed_over bodies) room f) (functions_agree bodies braced room f)

-- no token after the end is too deep

pub deep_some : {A : Type 0} (P : Part) (f : Parser A) → Decides P f → (ts : List Lexeme) → bare (f ts) ≡ Deep [] [] → ⊥
deep_some P f d ts e = let b = d.deep_begins ts [] e in none b.token b.behind b.first
  where
    none : (t : Lexeme) (us : List Lexeme) → [] ≡ t ∷ us → ⊥
    none t us e = cc

pub no_deep_end : (ts : List Lexeme) → Reads ts ≡ Deep [] [] → ⊥
no_deep_end = deep_some (ScriptPart whole 0) (read_script depth_limit) script_decides
