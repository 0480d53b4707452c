-- What the parser of expressions reads that passes bodies over has the bodies that it is given: with these filled in it is as
-- it was.
use Rattle.std.proofs.Common.{◌≡◌, ◌∙◌, ℕ, suc, ◌<◌, List, [], ◌∷◌, refl, sym, ap, subst, arith, Bool}
use Rattle.script_grammar.specs.Lexeme.{Lexeme}
use Rattle.script_grammar.specs.Tree.{Body, Expr}
use Rattle.grammar_parser_specs.specs.Parser.{Recorded, Reply, Read, Parser}
use Rattle.grammar_parser_specs.specs.Exprs.{Env, AnAssign, passing, calls, expr_of}
use Rattle.grammar_parser_specs.specs.Filling.{fill}
use Rattle.grammar_parser_laws.proofs.Complete.{bare}
use Rattle.grammar_local_laws.proofs.PassingLaws.{AreBraced}
use Rattle.grammar_deferred_laws.proofs.PassedParts.{pass_env, pass_assign, pass_expression}
use Rattle.grammar_local_laws.proofs.Agrees.{fine, judged, records, MeetsAt, Agrees}
use Rattle.grammar_local_laws.proofs.Alike.{ExprK}
use Rattle.grammar_local_laws.proofs.AgreesExprs.{AgreesEnv, expr_agrees}
use Rattle.grammar_local_laws.proofs.AgreesScripts.{calls_are}
use Rattle.parse_parts.proofs.Quiet.{quiet, quiet_passing, quiet_quiet, env_alike, with_records}

-- every recorded body is held to have no fault
abbrev no_fault : Recorded → Reply (Unit {0})
no_fault b = Read tt [] []

all_fine : (rs : List Recorded) → judged no_fault rs ≡ fine
all_fine [] = refl
all_fine (b ∷ rs) = all_fine rs

module _ (bodies : ℕ → Body) (braced : AreBraced bodies) where
  -- what was read is what was read quietly, which is as it was with the bodies filled in
  kept : (q l : Parser Expr) → Agrees no_fault (ExprK bodies) q l → Agrees no_fault (ExprK bodies) q q → (ts us : List Lexeme) (e : Expr) → bare (l ts) ≡ Read e [] us → fill bodies e ≡ e
  kept q l a b ts us e h = by (with_records e us (l ts) h)
    where
      fine_here : (p : Parser Expr) (x : Expr) (rs : List Recorded) → Agrees no_fault (ExprK bodies) q p → p ts ≡ Read x rs us → MeetsAt no_fault (ExprK bodies) fine (q ts) (Read x rs us)
      fine_here p x rs a k = subst (λ v. MeetsAt no_fault (ExprK bodies) v (q ts) (Read x rs us)) (all_fine rs) (subst (λ s. MeetsAt no_fault (ExprK bodies) (judged no_fault (records s)) (q ts) s) k (a.at ts))

      same_value : (x y : Expr) → ◌≡◌ {A = Reply Expr} (Read x [] us) (Read y [] us) → x ≡ y
      same_value x y k = cc

      by : (rs : List Recorded) × (l ts ≡ Read e rs us) → fill bodies e ≡ e
      by r =
          let m = fine_here l e r.0 a r.1 in
          let n = fine_here q m.0 [] b m.1 in
          let again : m.0 ≡ fill bodies m.0 = n.2.same ∙ ap (fill bodies) (same_value n.0 m.0 (sym n.1 ∙ m.1)) in
          ap (fill bodies) (m.2.same ∙ sym again) ∙ sym m.2.same

  module _ (room : ℕ) (w : Bool) (ts us : List Lexeme) (e : Expr) where
    low : room < suc room
    low = omega arith

    over : AgreesEnv bodies no_fault (record { sub = calls (quiet bodies braced) room; body = quiet bodies braced room }) (record { sub = calls (passing bodies) room; body = passing bodies room })
    over = env_alike bodies braced no_fault (suc room) (λ b v l. refl) (passing bodies) (quiet_passing bodies braced no_fault (suc room) (λ b v l. refl)) room low

    itself : AgreesEnv bodies no_fault (record { sub = calls (quiet bodies braced) room; body = quiet bodies braced room }) (record { sub = calls (quiet bodies braced) room; body = quiet bodies braced room })
    itself = env_alike bodies braced no_fault (suc room) (λ b v l. refl) (quiet bodies braced) (quiet_quiet bodies braced no_fault (suc room) (λ b v l. refl)) room low

    pub assign_kept : bare (pass_assign bodies braced room w ts) ≡ Read e [] us → fill bodies e ≡ e
    assign_kept h = kept (calls (quiet bodies braced) room (AnAssign w)) (calls (passing bodies) room (AnAssign w)) (over.sub (AnAssign w)) (itself.sub (AnAssign w)) ts us e (ap (λ (p : Parser Expr). bare (p ts)) (sym (calls_are (passing bodies) room (AnAssign w))) ∙ h)

    env_same : pass_env bodies braced room ≡ record { sub = calls (passing bodies) room; body = passing bodies room }
    env_same = ap (λ s. record { sub = s; body = passing bodies room }) (λ i c. calls_are (passing bodies) room c i)

    pub expression_kept : bare (pass_expression bodies braced room w ts) ≡ Read e [] us → fill bodies e ≡ e
    expression_kept h =
        let quietly : Env = record { sub = calls (quiet bodies braced) room; body = quiet bodies braced room } in
        let aloud : Env = record { sub = calls (passing bodies) room; body = passing bodies room } in
        kept (expr_of quietly w) (expr_of aloud w) (expr_agrees bodies no_fault quietly aloud over w) (expr_agrees bodies no_fault quietly quietly itself w) ts us e (ap (λ (v : Env). bare (expr_of v w ts)) (sym env_same) ∙ h)
