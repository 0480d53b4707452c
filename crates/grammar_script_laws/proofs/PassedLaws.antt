-- What the parser of scripts answers that passes bodies over, with the bodies that it recorded: together they say where the
-- first fault of a text is, or that it is a script, and with which tree.
use Rattle.std.proofs.Common.{◌≡◌, ℕ, ◌-◌, List, [], ◌∷◌, length, refl, sym, ap, ◌∙◌, subst}
use Rattle.script_grammar.specs.Lexeme.{Lexeme}
use Rattle.script_grammar.specs.Tree.{Body, Stmts}
use Rattle.script_grammar.specs.Pieces.{whole, BracedArrow}
use Rattle.script_grammar.specs.Endings.{body_ending}
use Rattle.script_grammar.specs.Fault.{depth_limit, ScriptPart, Unexpected, TooDeep, FirstFault}
use Rattle.grammar_parser_specs.specs.Parser.{Recorded, Reply, Read, Bad, Deep, Parser}
use Rattle.grammar_parser_specs.specs.Stmts.{everything, script_of, read_script}
use Rattle.grammar_parser_laws.proofs.Complete.{bare}
use Rattle.grammar_script_laws.proofs.ScriptLaws.{ScriptOf, script_unexpected_by, script_too_deep, read_is_script, script_read}
use Rattle.grammar_script_laws.proofs.Closed.{Closed, Ended, no_bad_end, read_text}
use Rattle.grammar_local_laws.proofs.Agrees.{Verdict, fine, bad_at, deep_at, judged, records, MeetsAt}
use Rattle.grammar_parser_specs.specs.Filling.{fill_stmts}
use Rattle.grammar_local_laws.proofs.AgreesStmts.{StmtsK}
use Rattle.grammar_local_laws.proofs.AgreesScripts.{body_in_place, passed_over, scripts_agree}

-- the verdict on the bodies that a reply recorded, each read in place
abbrev pub verdict : {A : Type 0} → Reply A → Verdict
verdict r = judged body_in_place (records r)

module _ (bodies : ℕ → Body) (braced : (n : ℕ) → body_ending (bodies n) ≡ BracedArrow) where
  -- the parser that passes bodies over, with all room for depth
  abbrev pub pass_script : Parser Stmts
  pass_script = script_of (everything (passed_over bodies) depth_limit).stmts

  meets : (ts : List Lexeme) (v : Verdict) → verdict (pass_script ts) ≡ v → MeetsAt body_in_place (StmtsK bodies) v (read_script depth_limit ts) (pass_script ts)
  meets ts v e = subst (λ x. MeetsAt body_in_place (StmtsK bodies) x (read_script depth_limit ts) (pass_script ts)) e ((scripts_agree bodies braced depth_limit).at ts)

  -- the parser that reads in place finds the fault of a recorded body, or else that of the other parser

  pub bad_in_place : (ts vs : List Lexeme) → verdict (pass_script ts) ≡ bad_at vs → bare (read_script depth_limit ts) ≡ Bad [] vs
  bad_in_place ts vs e = ap bare (meets ts (bad_at vs) e)

  pub deep_in_place : (ts vs : List Lexeme) → verdict (pass_script ts) ≡ deep_at vs → bare (read_script depth_limit ts) ≡ Deep [] vs
  deep_in_place ts vs e = ap bare (meets ts (deep_at vs) e)

  pub own_bad_in_place : (ts us : List Lexeme) (rs : List Recorded) → verdict (pass_script ts) ≡ fine → pass_script ts ≡ Bad rs us → bare (read_script depth_limit ts) ≡ Bad [] us
  own_bad_in_place ts us rs e h = ap bare (subst (MeetsAt body_in_place (StmtsK bodies) fine (read_script depth_limit ts)) h (meets ts fine e))

  pub own_deep_in_place : (ts us : List Lexeme) (rs : List Recorded) → verdict (pass_script ts) ≡ fine → pass_script ts ≡ Deep rs us → bare (read_script depth_limit ts) ≡ Deep [] us
  own_deep_in_place ts us rs e h = ap bare (subst (MeetsAt body_in_place (StmtsK bodies) fine (read_script depth_limit ts)) h (meets ts fine e))

  -- A recorded body has a fault: the first that has one says where the first fault of the text is.

  pub body_unexpected : (ts vs : List Lexeme) → Closed ts → verdict (pass_script ts) ≡ bad_at vs → FirstFault (ScriptPart whole 0) ts (length ts - length vs) Unexpected
  body_unexpected ts vs t e = script_unexpected_by ts vs (no_bad_end ts t) (bad_in_place ts vs e)

  pub body_too_deep : (ts vs : List Lexeme) → verdict (pass_script ts) ≡ deep_at vs → FirstFault (ScriptPart whole 0) ts (length ts - length vs) TooDeep
  body_too_deep ts vs e = script_too_deep ts vs (deep_in_place ts vs e)

  -- No recorded body has a fault: the parser's own fault is the first of the text.

  pub own_unexpected : (ts us : List Lexeme) (rs : List Recorded) → Closed ts → verdict (pass_script ts) ≡ fine → pass_script ts ≡ Bad rs us → FirstFault (ScriptPart whole 0) ts (length ts - length us) Unexpected
  own_unexpected ts us rs t e h = script_unexpected_by ts us (no_bad_end ts t) (own_bad_in_place ts us rs e h)

  pub own_too_deep : (ts us : List Lexeme) (rs : List Recorded) → verdict (pass_script ts) ≡ fine → pass_script ts ≡ Deep rs us → FirstFault (ScriptPart whole 0) ts (length ts - length us) TooDeep
  own_too_deep ts us rs e h = script_too_deep ts us (own_deep_in_place ts us rs e h)

  -- And where it reads, the text is a script, and what was read is its tree with the given bodies.

  pub record Passed (ts : List Lexeme) (items : Stmts) : Type 0 where
    pub tree : Stmts
    pub is : ScriptOf ts tree
    pub same : items ≡ fill_stmts bodies tree

  pub passed_is_script : (ts us : List Lexeme) (items : Stmts) (rs : List Recorded) → Ended ts → verdict (pass_script ts) ≡ fine → pass_script ts ≡ Read items rs us → Passed ts items
  passed_is_script ts us items rs t e h =
      let m = subst (MeetsAt body_in_place (StmtsK bodies) fine (read_script depth_limit ts)) h (meets ts fine e) in
      record { tree = m.0; is = read_is_script ts m.0 us (read_text ts m.0 us t (ap bare m.1)) (ap bare m.1); same = m.2 }

  -- A script is read so, and none of its bodies has a fault.

  pub record PassesOver (ts : List Lexeme) (items : Stmts) (us : List Lexeme) : Type 0 where
    pub clean : verdict (pass_script ts) ≡ fine
    pub passed : List Recorded
    pub reads : pass_script ts ≡ Read (fill_stmts bodies items) passed us

  read_as : (ts us : List Lexeme) (items : Stmts) (r : Reply Stmts) → bare r ≡ Read items [] us → (v : Verdict) (s : Reply Stmts) → verdict (pass_script ts) ≡ v → pass_script ts ≡ s → MeetsAt body_in_place (StmtsK bodies) v r s → PassesOver ts items us
  read_as ts us items r e (bad_at vs) s h k m = absurd (never (sym (ap bare m) ∙ e))
    where
      never : ◌≡◌ {A = Reply Stmts} (Bad [] vs) (Read items [] us) → ⊥
      never q = cc
  read_as ts us items r e (deep_at vs) s h k m = absurd (never (sym (ap bare m) ∙ e))
    where
      never : ◌≡◌ {A = Reply Stmts} (Deep [] vs) (Read items [] us) → ⊥
      never q = cc
  read_as ts us items r e fine (Bad rs vs) h k m = absurd (never (sym (ap bare m) ∙ e))
    where
      never : ◌≡◌ {A = Reply Stmts} (Bad [] vs) (Read items [] us) → ⊥
      never q = cc
  read_as ts us items r e fine (Deep rs vs) h k m = absurd (never (sym (ap bare m) ∙ e))
    where
      never : ◌≡◌ {A = Reply Stmts} (Deep [] vs) (Read items [] us) → ⊥
      never q = cc
  read_as ts us items r e fine (Read b rs vs) h k m = record { clean = h; passed = rs; reads = k ∙ ap (λ x. Read x rs vs) (m.2 ∙ ap (fill_stmts bodies) (same_value (sym (ap bare m.1) ∙ e))) ∙ ap (Read (fill_stmts bodies items) rs) (same_left (sym (ap bare m.1) ∙ e)) }
    where
      same_value : ◌≡◌ {A = Reply Stmts} (Read m.0 [] vs) (Read items [] us) → m.0 ≡ items
      same_value q = cc

      same_left : ◌≡◌ {A = Reply Stmts} (Read m.0 [] vs) (Read items [] us) → vs ≡ us
      same_left q = cc

  pub script_is_passed : (ts : List Lexeme) (items : Stmts) (s : ScriptOf ts items) → PassesOver ts items (s.last ∷ [])
  script_is_passed ts items s = read_as ts (s.last ∷ []) items (read_script depth_limit ts) (script_read ts items s) (verdict (pass_script ts)) (pass_script ts) refl refl ((scripts_agree bodies braced depth_limit).at ts)
