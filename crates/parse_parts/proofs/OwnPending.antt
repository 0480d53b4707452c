-- A function that is read alone: its own body is passed over last, and is taken from what was recorded when it is read; what is
-- recorded then are the bodies in the parameters, and after them those inside the own body.
use Rattle.std.proofs.Common.{◌≡◌, ◌∙◌, ℕ, suc, List, [], ◌∷◌, ◌++◌, length, append-nil, refl, sym, ap, subst, Bool, true, false, None}
use Rattle.script_grammar.specs.declared.token.FuncForm.{FuncForm}
use Rattle.script_grammar.specs.Fault.{depth_limit}
use Rattle.script_grammar.specs.Kinds.{is_end}
use Rattle.script_grammar.specs.Lexeme.{Lexeme}
use Rattle.script_grammar.specs.Tree.{Body}
use Rattle.grammar_parser_specs.specs.Parser.{Recorded, Reply, Read, Bad, Deep, head_of, after, ret, bad, when}
use Rattle.grammar_parser_specs.specs.Exprs.{BodyRead, function_case, is_simple, passed_body}
use Rattle.grammar_parser_specs.specs.Stmts.{end_of}
use Rattle.grammar_local_laws.proofs.Agrees.{records}
use Rattle.grammar_parser_laws.proofs.Complete.{bare}
use Rattle.grammar_parser_laws.proofs.Local.{left}
use Rattle.grammar_script_laws.proofs.Refuse.{left_bare}
use Rattle.grammar_local_laws.proofs.PassingLaws.{AreBraced}
use Rattle.grammar_deferred_laws.proofs.PassedFunctions.{pass_alone}
use Rattle.parse_pending_laws.proofs.Rises.{Falls, falls_append, records_noted}
use Rattle.parse_pending_laws.proofs.RisesAll.{own_rises, passed_alone_rises}
use Rattle.parse_parts.proofs.OwnBody.{passes, whole, own_body, end_records, Stood, own_read}

-- what is in front of the last
falls_front : (n : ℕ) (rs : List Recorded) (b : Recorded) (m : ℕ) → Falls n (rs ++ b ∷ []) m → Falls n rs (length b.from)
falls_front n [] b m h = h.0
falls_front n (c ∷ rs) b m h = (h.0, falls_front (length c.from) rs b m h.1)

end_left : {A : Type 0} (a : A) (us : List Lexeme) → left (end_of a us) ≡ us
unfolding end_of
end_left {A = A} a us = by (is_end (head_of us).kind)
  where
    by : (b : Bool) → left (when b (ret a) bad us) ≡ us
    by true = refl
    by false = refl

module _ (bodies : ℕ → Body) (braced : AreBraced bodies) (f : FuncForm) (ts : List Lexeme) (b : Recorded) (s : Stood bodies braced depth_limit f ts b) where
  -- all that was recorded when the own body was read, one after another
  pub own_falls : Falls (suc (length ts)) (s.before ++ records (own_body bodies braced depth_limit f s.head b.from)) (length (left (own_body bodies braced depth_limit f s.head b.from)))
  own_falls =
      let all = subst (λ rs. Falls (suc (length ts)) rs (length (left (passes bodies braced depth_limit f ts)))) s.recorded_are ((passed_alone_rises bodies depth_limit f).at ts) in
      falls_append (suc (length ts)) s.before (records (own_body bodies braced depth_limit f s.head b.from)) (length b.from) (length (left (own_body bodies braced depth_limit f s.head b.from)))
      (falls_front (suc (length ts)) s.before b (length (left (passes bodies braced depth_limit f ts))) all)
      ((own_rises bodies depth_limit f s.head.start (is_simple s.head.params)).at b.from)

  -- after the own body the function stands where it is passed over
  pub passes_left : (x : BodyRead) (vs : List Lexeme) → bare (own_body bodies braced depth_limit f s.head b.from) ≡ Read x [] vs → left (passes bodies braced depth_limit f ts) ≡ vs
  passes_left x vs e =
      sym (left_bare (passes bodies braced depth_limit f ts)) ∙ ap left (own_read bodies braced depth_limit f 0 refl ts vs b s x e).1
      ∙ left_bare (end_of (function_case f None s.head (passed_body (bodies s.head.start) x.end)) vs) ∙ end_left (function_case f None s.head (passed_body (bodies s.head.start) x.end)) vs

  -- and the function with its own body records what was recorded
  pub own_records : (x : BodyRead) (gs : List Recorded) (vs : List Lexeme) → own_body bodies braced depth_limit f s.head b.from ≡ Read x gs vs → records (pass_alone bodies braced depth_limit f ts) ≡ s.before ++ gs
  own_records x gs vs e =
      ap records s.read_there ∙ records_noted s.before (whole bodies braced depth_limit f s.head (s.first ∷ s.behind))
      ∙ ap (λ rs. s.before ++ rs)
      (ap (λ us. records (whole bodies braced depth_limit f s.head us)) (sym s.there) ∙ ap (λ (r : Reply BodyRead). records (after r (λ y. end_of (function_case f None s.head y)))) e
      ∙ records_noted gs (end_of (function_case f None s.head x) vs) ∙ ap (λ rs. gs ++ rs) (end_records (function_case f None s.head x) vs) ∙ append-nil gs)

-- what was read, with what it recorded
pub exactly : {A : Type 0} (r : Reply A) (a : A) (us : List Lexeme) → bare r ≡ Read a [] us → r ≡ Read a (records r) us
exactly {A = A} (Read c rs vs) a us e = ap (λ x. Read x rs vs) (same_value e) ∙ ap (Read a rs) (same_left e)
  where
    same_value : ◌≡◌ {A = Reply A} (Read c [] vs) (Read a [] us) → c ≡ a
    same_value e = cc

    same_left : ◌≡◌ {A = Reply A} (Read c [] vs) (Read a [] us) → vs ≡ us
    same_left e = cc
exactly (Bad rs vs) a us e = absurd (cc)
exactly (Deep rs vs) a us e = absurd (cc)
