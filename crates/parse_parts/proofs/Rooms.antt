-- A function that is read alone with no body at all: what it records stands in its parameters, or in the value of an arrow, and
-- has less room for depth than the function's own body would have.
use Rattle.std.proofs.Common.{◌≡◌, ◌∙◌, ℕ, ◌<◌, List, [], ◌∷◌, ◌++◌, sym, ap, subst, arith, true, nat_eq, if◌then◌else◌}
use Rattle.std.proofs.lemmas.Bool.{ne_eqb, eq-eqb}
use Rattle.script_grammar.specs.declared.token.FuncForm.{FuncForm}
use Rattle.script_grammar.specs.Lexeme.{Lexeme}
use Rattle.script_grammar.specs.Tree.{Body, Function}
use Rattle.grammar_parser_specs.specs.Parser.{Recorded, Reply, Read, Bad, Deep}
use Rattle.grammar_parser_specs.specs.Exprs.{Env, Calls, BodyParser, passing, calls}
use Rattle.grammar_parser_specs.specs.Stmts.{everything, alone_of}
use Rattle.grammar_local_laws.proofs.PassingLaws.{AreBraced}
use Rattle.grammar_local_laws.proofs.Agrees.{Verdict, bad_at, deep_at, or_else, judged, records, MeetsAt, Agrees, agrees_bad}
use Rattle.grammar_script_laws.proofs.AgreesAlone.{AloneK, alone_agrees}
use Rattle.grammar_local_laws.proofs.AgreesScripts.{passed_over, calls_are}
use Rattle.parse_parts.proofs.Quiet.{quiet, quiet_passing, calls_alike}

-- no body of these has so much room
abbrev pub NoneWith : ℕ → List Recorded → Type 0
NoneWith room [] = Unit {0}
NoneWith room (b ∷ rs) = (b.room ≡ room → ⊥) × NoneWith room rs

pub none_last : (room : ℕ) (rs : List Recorded) (b : Recorded) → NoneWith room (rs ++ b ∷ []) → b.room ≡ room → ⊥
none_last room [] b h e = h.0 e
none_last room (c ∷ rs) b h e = none_last room rs b h.1 e

-- a body that cannot be read
abbrev pub no_body : BodyParser
no_body f start simple us = Bad [] us

module _ (bodies : ℕ → Body) (braced : AreBraced bodies) (room : ℕ) (f : FuncForm) where
  -- those with so much room are held to have this fault
  abbrev held : Reply (Unit {0}) → Recorded → Reply (Unit {0})
  held fault b = if nat_eq b.room room then fault else Read tt [] []

  abbrev held_bad : Recorded → Reply (Unit {0})
  held_bad = held (Bad [] [])

  abbrev held_deep : Recorded → Reply (Unit {0})
  held_deep = held (Deep [] [])

  clean : (fault : Reply (Unit {0})) (b : Recorded) (v : Verdict) → b.room < room → or_else (held fault b) v ≡ v
  clean fault b v l = ap (λ x. or_else (if x then fault else Read tt [] []) v) (ne_eqb b.room room (λ e. absurd (omega (arith, l, e))))

  abbrev quietly : Env
  quietly = record { sub = calls (quiet bodies braced) room; body = no_body }

  abbrev aloud : Env
  aloud = record { sub = calls (passing bodies) room; body = no_body }

  agrees : (fault : Reply (Unit {0})) → Agrees (held fault) (AloneK bodies) (alone_of quietly f) (alone_of aloud f)
  agrees fault =
      alone_agrees bodies (held fault) quietly aloud
      (calls_alike bodies braced (held fault) room (clean fault) (passing bodies) (quiet_passing bodies braced (held fault) room (clean fault)) room (omega arith))
      (λ g x y p q. agrees_bad (held fault)) no_body (λ g start p q. agrees_bad (held fault)) f

  -- both faults cannot be those of one parser
  not_both : (ts : List Lexeme) → judged held_bad (records (alone_of aloud f ts)) ≡ bad_at [] → judged held_deep (records (alone_of aloud f ts)) ≡ deep_at [] → ⊥
  not_both ts b d =
      never
      (sym (subst (λ v. MeetsAt held_bad (AloneK bodies) v (alone_of quietly f ts) (alone_of aloud f ts)) b ((agrees (Bad [] [])).at ts))
      ∙ subst (λ v. MeetsAt held_deep (AloneK bodies) v (alone_of quietly f ts) (alone_of aloud f ts)) d ((agrees (Deep [] [])).at ts))
    where
      never : ◌≡◌ {A = Reply Function} (Bad [] []) (Deep [] []) → ⊥
      never k = cc

  none_by : (rs : List Recorded) → (judged held_bad rs ≡ bad_at [] → judged held_deep rs ≡ deep_at [] → ⊥) → NoneWith room rs
  none_by [] h = tt
  none_by (b ∷ rs) h = (here, none_by rs (λ x y. h (skip (Bad [] []) (bad_at []) x) (skip (Deep [] []) (deep_at []) y)))
    where
      here : b.room ≡ room → ⊥
      here e =
          let k : nat_eq b.room room ≡ true = eq-eqb b.room room e in
          h (ap (λ x. or_else (if x then Bad [] [] else Read tt [] []) (judged held_bad rs)) k) (ap (λ x. or_else (if x then Deep [] [] else Read tt [] []) (judged held_deep rs)) k)

      skip : (fault : Reply (Unit {0})) (v : Verdict) → judged (held fault) rs ≡ v → judged (held fault) (b ∷ rs) ≡ v
      skip fault v e = ap (λ x. or_else (if x then fault else Read tt [] []) (judged (held fault) rs)) (ne_eqb b.room room here) ∙ e

  pub none_with : (ts : List Lexeme) → NoneWith room (records (alone_of (record { sub = (everything (passed_over bodies) room).exprs; body = no_body }) f ts))
  none_with ts = subst (λ (s : Calls). NoneWith room (records (alone_of (record { sub = s; body = no_body }) f ts))) (λ i c. sym (calls_are (passing bodies) room c) i) (none_by (records (alone_of aloud f ts)) (not_both ts))
