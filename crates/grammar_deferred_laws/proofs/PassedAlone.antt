-- What the parser of a function alone answers that reads its own statements and passes over the bodies inside, with those that
-- it recorded: together they say where the first fault of the function is, or that it is one, and with which tree.
use Rattle.std.proofs.Common.{◌≡◌, ℕ, ◌+◌, ◌-◌, List, [], length, refl, sym, ap, ◌∙◌, subst, None}
use Rattle.script_grammar.specs.declared.token.FuncForm.{FuncForm}
use Rattle.script_grammar.specs.declared.token.FuncForm.TheVariants as form
use Rattle.script_grammar.specs.Lexeme.{Lexeme}
use Rattle.script_grammar.specs.Tree.{Body, Function}
use Rattle.script_grammar.specs.Pieces.{whole, BracedArrow}
use Rattle.script_grammar.specs.Endings.{body_ending}
use Rattle.script_grammar.specs.Fault.{depth_limit, FunctionPart, Unexpected, TooDeep, FirstFault}
use Rattle.grammar_parser_specs.specs.Parser.{Recorded, Reply, Read, Bad, Deep, Parser}
use Rattle.grammar_parser_specs.specs.Stmts.{in_place, read_alone}
use Rattle.grammar_parser_laws.proofs.Complete.{bare}
use Rattle.grammar_script_laws.proofs.FirstFaults.{Whole}
use Rattle.grammar_deferred_laws.proofs.AloneLaws.{FunctionReads, function_unexpected, function_too_deep, read_is_function}
use Rattle.grammar_local_laws.proofs.Agrees.{Verdict, fine, bad_at, deep_at, MeetsAt}
use Rattle.grammar_local_laws.proofs.AgreesScripts.{body_in_place, passed_over}
use Rattle.grammar_script_laws.proofs.AgreesAlone.{AloneK, fill_alone, functions_agree}
use Rattle.grammar_script_laws.proofs.PassedLaws.{verdict}

module _ (bodies : ℕ → Body) (braced : (n : ℕ) → body_ending (bodies n) ≡ BracedArrow) (room d : ℕ) (q : room + d ≡ depth_limit) (f : FuncForm) (n : f ≡ form.Script → ⊥) where
  -- the parser, with so much room for depth
  abbrev pub pass_function : Parser Function
  pass_function = read_alone (passed_over bodies) room f

  meets : (ts : List Lexeme) (v : Verdict) → verdict (pass_function ts) ≡ v → MeetsAt body_in_place (AloneK bodies) v (read_alone in_place room f ts) (pass_function ts)
  meets ts v e = subst (λ x. MeetsAt body_in_place (AloneK bodies) x (read_alone in_place room f ts) (pass_function ts)) e ((functions_agree bodies braced room f).at ts)

  -- A recorded body has a fault: the first that has one says where the first fault of the function is.

  pub inner_unexpected : (ts vs : List Lexeme) → Whole ts → verdict (pass_function ts) ≡ bad_at vs → FirstFault (FunctionPart whole f None d) ts (length ts - length vs) Unexpected
  inner_unexpected ts vs t e = function_unexpected room d q f n ts vs t (ap bare (meets ts (bad_at vs) e))

  pub inner_too_deep : (ts vs : List Lexeme) → verdict (pass_function ts) ≡ deep_at vs → FirstFault (FunctionPart whole f None d) ts (length ts - length vs) TooDeep
  inner_too_deep ts vs e = function_too_deep room d q f n ts vs (ap bare (meets ts (deep_at vs) e))

  -- No recorded body has a fault: the parser's own fault is the first of the function.

  pub alone_unexpected : (ts us : List Lexeme) (rs : List Recorded) → Whole ts → verdict (pass_function ts) ≡ fine → pass_function ts ≡ Bad rs us → FirstFault (FunctionPart whole f None d) ts (length ts - length us) Unexpected
  alone_unexpected ts us rs t e h = function_unexpected room d q f n ts us t (ap bare (subst (MeetsAt body_in_place (AloneK bodies) fine (read_alone in_place room f ts)) h (meets ts fine e)))

  pub alone_too_deep : (ts us : List Lexeme) (rs : List Recorded) → verdict (pass_function ts) ≡ fine → pass_function ts ≡ Deep rs us → FirstFault (FunctionPart whole f None d) ts (length ts - length us) TooDeep
  alone_too_deep ts us rs e h = function_too_deep room d q f n ts us (ap bare (subst (MeetsAt body_in_place (AloneK bodies) fine (read_alone in_place room f ts)) h (meets ts fine e)))

  -- And where it reads, there is a function, and what was read is its tree with the given bodies inside.

  pub record PassedFunction (ts us : List Lexeme) (x : Function) : Type 0 where
    pub tree : Function
    pub is : FunctionReads f d ts us tree
    pub same : x ≡ fill_alone bodies tree

  pub passed_is_function : (ts us : List Lexeme) (x : Function) (rs : List Recorded) → verdict (pass_function ts) ≡ fine → pass_function ts ≡ Read x rs us → PassedFunction ts us x
  passed_is_function ts us x rs e h =
      let m = subst (MeetsAt body_in_place (AloneK bodies) fine (read_alone in_place room f ts)) h (meets ts fine e) in
      record { tree = m.0; is = read_is_function room d q f n ts us m.0 (ap bare m.1); same = m.2.same }

  -- A function is read so, and none of its inner bodies has a fault.

  pub record PassesFunction (ts us : List Lexeme) (x : Function) : Type 0 where
    pub clean : verdict (pass_function ts) ≡ fine
    pub passed : List Recorded
    pub reads : pass_function ts ≡ Read (fill_alone bodies x) passed us

  read_as : (ts us : List Lexeme) (x : Function) (r : Reply Function) → bare r ≡ Read x [] us → (v : Verdict) (s : Reply Function) → verdict (pass_function ts) ≡ v → pass_function ts ≡ s → MeetsAt body_in_place (AloneK bodies) v r s → PassesFunction ts us x
  read_as ts us x r e (bad_at vs) s h k m = absurd (never (sym (ap bare m) ∙ e))
    where
      never : ◌≡◌ {A = Reply Function} (Bad [] vs) (Read x [] us) → ⊥
      never q = cc
  read_as ts us x r e (deep_at vs) s h k m = absurd (never (sym (ap bare m) ∙ e))
    where
      never : ◌≡◌ {A = Reply Function} (Deep [] vs) (Read x [] us) → ⊥
      never q = cc
  read_as ts us x r e fine (Bad rs vs) h k m = absurd (never (sym (ap bare m) ∙ e))
    where
      never : ◌≡◌ {A = Reply Function} (Bad [] vs) (Read x [] us) → ⊥
      never q = cc
  read_as ts us x r e fine (Deep rs vs) h k m = absurd (never (sym (ap bare m) ∙ e))
    where
      never : ◌≡◌ {A = Reply Function} (Deep [] vs) (Read x [] us) → ⊥
      never q = cc
  read_as ts us x r e fine (Read b rs vs) h k m = record { clean = h; passed = rs; reads = k ∙ ap (λ y. Read y rs vs) (m.2.same ∙ ap (fill_alone bodies) (same_value (sym (ap bare m.1) ∙ e))) ∙ ap (Read (fill_alone bodies x) rs) (same_left (sym (ap bare m.1) ∙ e)) }
    where
      same_value : ◌≡◌ {A = Reply Function} (Read m.0 [] vs) (Read x [] us) → m.0 ≡ x
      same_value q = cc

      same_left : ◌≡◌ {A = Reply Function} (Read m.0 [] vs) (Read x [] us) → vs ≡ us
      same_left q = cc

  pub function_is_passed : (ts us : List Lexeme) (x : Function) → bare (read_alone in_place room f ts) ≡ Read x [] us → PassesFunction ts us x
  function_is_passed ts us x e = read_as ts us x (read_alone in_place room f ts) e (verdict (pass_function ts)) (pass_function ts) refl refl ((functions_agree bodies braced room f).at ts)
