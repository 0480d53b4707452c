-- For any part: where one parser reads bodies in place and finds the first fault of the part, and the other agrees with it
-- but passes them over, the other's reply and the verdict on the bodies that it recorded say where the first fault is.
use Rattle.std.proofs.Common.{◌≡◌, ℕ, ◌-◌, List, [], length, ap, subst, Bool}
use Rattle.script_grammar.specs.declared.token.FuncForm.{FuncForm}
use Rattle.script_grammar.specs.Lexeme.{Lexeme}
use Rattle.script_grammar.specs.Tree.{Body}
use Rattle.script_grammar.specs.Pieces.{BracedArrow}
use Rattle.script_grammar.specs.Endings.{body_ending}
use Rattle.script_grammar.specs.Fault.{Part, Unexpected, TooDeep, FirstFault}
use Rattle.grammar_parser_specs.specs.Parser.{Recorded, Reply, Read, Bad, Deep, Parser}
use Rattle.grammar_parser_specs.specs.Exprs.{Call}
use Rattle.grammar_parser_specs.specs.Stmts.{everything, in_place, reading}
use Rattle.grammar_parser_laws.proofs.Complete.{bare}
use Rattle.grammar_script_laws.proofs.FirstFaults.{Whole, Decides, first_bad, first_deep}
use Rattle.grammar_local_laws.proofs.Agrees.{Verdict, fine, bad_at, deep_at, MeetsAt, Agrees}
use Rattle.grammar_local_laws.proofs.AgreesExprs.{CallK}
use Rattle.grammar_local_laws.proofs.AgreesStmts.{OwnK}
use Rattle.grammar_local_laws.proofs.AgreesScripts.{body_in_place, passed_over, everything_agrees, own_bodies_agree}
use Rattle.grammar_script_laws.proofs.PassedLaws.{verdict}

module _ {A B : Type 0} (P : Part) (K : A → B → Type 0) (e : Parser A) (l : Parser B) (d : Decides P e) (a : Agrees body_in_place K e l) where
  meets : (ts : List Lexeme) (v : Verdict) → verdict (l ts) ≡ v → MeetsAt body_in_place K v (e ts) (l ts)
  meets ts v h = subst (λ x. MeetsAt body_in_place K x (e ts) (l ts)) h (a.at ts)

  clean : (ts : List Lexeme) (s : Reply B) → verdict (l ts) ≡ fine → l ts ≡ s → MeetsAt body_in_place K fine (e ts) s
  clean ts s h k = subst (MeetsAt body_in_place K fine (e ts)) k (meets ts fine h)

  -- a recorded body has a fault

  pub inner_bad : (ts vs : List Lexeme) → verdict (l ts) ≡ bad_at vs → bare (e ts) ≡ Bad [] vs
  inner_bad ts vs h = ap bare (meets ts (bad_at vs) h)

  pub inner_deep : (ts vs : List Lexeme) → verdict (l ts) ≡ deep_at vs → bare (e ts) ≡ Deep [] vs
  inner_deep ts vs h = ap bare (meets ts (deep_at vs) h)

  pub inner_unexpected : (ts vs : List Lexeme) → Whole ts → verdict (l ts) ≡ bad_at vs → FirstFault P ts (length ts - length vs) Unexpected
  inner_unexpected ts vs t h = first_bad P e d ts vs t (inner_bad ts vs h)

  pub inner_too_deep : (ts vs : List Lexeme) → verdict (l ts) ≡ deep_at vs → FirstFault P ts (length ts - length vs) TooDeep
  inner_too_deep ts vs h = first_deep P e d ts vs (inner_deep ts vs h)

  -- no recorded body has one

  pub own_bad : (ts us : List Lexeme) (rs : List Recorded) → verdict (l ts) ≡ fine → l ts ≡ Bad rs us → bare (e ts) ≡ Bad [] us
  own_bad ts us rs h k = ap bare (clean ts (Bad rs us) h k)

  pub own_deep : (ts us : List Lexeme) (rs : List Recorded) → verdict (l ts) ≡ fine → l ts ≡ Deep rs us → bare (e ts) ≡ Deep [] us
  own_deep ts us rs h k = ap bare (clean ts (Deep rs us) h k)

  pub own_unexpected : (ts us : List Lexeme) (rs : List Recorded) → Whole ts → verdict (l ts) ≡ fine → l ts ≡ Bad rs us → FirstFault P ts (length ts - length us) Unexpected
  own_unexpected ts us rs t h k = first_bad P e d ts us t (own_bad ts us rs h k)

  pub own_too_deep : (ts us : List Lexeme) (rs : List Recorded) → verdict (l ts) ≡ fine → l ts ≡ Deep rs us → FirstFault P ts (length ts - length us) TooDeep
  own_too_deep ts us rs h k = first_deep P e d ts us (own_deep ts us rs h k)

  -- and both read
  pub both_read : (ts us : List Lexeme) (b : B) (rs : List Recorded) → verdict (l ts) ≡ fine → l ts ≡ Read b rs us → (x : A) × (e ts ≡ Read x [] us) × K x b
  both_read ts us b rs h k = clean ts (Read b rs us) h k

-- those of calls and of bodies agree, as those of scripts and functions do
module _ (bodies : ℕ → Body) (braced : (n : ℕ) → body_ending (bodies n) ≡ BracedArrow) (room : ℕ) where
  pub calls_agree : (c : Call) → Agrees body_in_place (CallK bodies c) ((everything in_place room).exprs c) ((everything (passed_over bodies) room).exprs c)
  calls_agree c = (everything_agrees bodies braced room).exprs c

  pub braced_agree : (f : FuncForm) (start : ℕ) (simple : Bool) → Agrees body_in_place (OwnK bodies) (reading (everything in_place room).stmts f start simple) (reading (everything (passed_over bodies) room).stmts f start simple)
  braced_agree f start simple = own_bodies_agree bodies braced room f start simple
