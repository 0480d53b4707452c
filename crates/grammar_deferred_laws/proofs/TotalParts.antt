-- What a part of a text comes to whose bodies are read later: where that is a fault, it is the first of the part, and else the
-- part is read, with the given bodies.
use Rattle.std.proofs.Common.{◌≡◌, ℕ, ◌+◌, ◌-◌, ◌∙◌, List, length, take, ap, Bool, None}
use Rattle.script_grammar.specs.declared.token.FuncForm.{FuncForm}
use Rattle.script_grammar.specs.declared.token.FuncForm.TheVariants as form
use Rattle.script_grammar.specs.Lexeme.{Lexeme}
use Rattle.script_grammar.specs.Tree.{Body, Stmts, Function}
use Rattle.script_grammar.specs.Pieces.{whole, BracedArrow}
use Rattle.script_grammar.specs.Endings.{body_ending}
use Rattle.script_grammar.specs.Fault.{depth_limit, Part, ScriptPart, FunctionPart, BodyPart, Unexpected, TooDeep, FirstFault}
use Rattle.grammar_parser_specs.specs.Parser.{Recorded, Read, Parser}
use Rattle.grammar_parser_specs.specs.Exprs.{BodyRead}
use Rattle.grammar_parser_specs.specs.Stmts.{everything, reading, read_script, read_alone}
use Rattle.grammar_parser_laws.proofs.Complete.{bare}
use Rattle.grammar_script_laws.proofs.FirstFaults.{Decides, first_deep}
use Rattle.grammar_script_laws.proofs.ScriptLaws.{script_decides}
use Rattle.grammar_deferred_laws.proofs.AloneLaws.{read_braced, read_function, body_decides, function_decides, BodyReads, read_is_body, FunctionReads, read_is_function}
use Rattle.grammar_script_laws.proofs.Closed.{Closed, Ended}
use Rattle.grammar_deferred_laws.proofs.ClosedParts.{Matches, balanced_matches, script_matches, body_balanced, function_balanced, first_bad_closed}
use Rattle.grammar_deferred_laws.proofs.CutTexts.{first_bad_cut, first_deep_cut}
use Rattle.grammar_local_laws.proofs.Agrees.{fine, bad_at, deep_at, Agrees}
use Rattle.grammar_local_laws.proofs.AgreesStmts.{StmtsK, OwnK}
use Rattle.grammar_local_laws.proofs.AgreesScripts.{body_in_place, passed_over, scripts_agree, own_bodies_agree}
use Rattle.grammar_script_laws.proofs.AgreesAlone.{AloneK, fill_alone, functions_agree}
use Rattle.grammar_script_laws.proofs.PassedLaws.{pass_script, Passed, passed_is_script}
use Rattle.grammar_script_laws.proofs.Totals.{total, total_fine, in_place_bad, in_place_deep, both_read}

-- any part
module _ {A B : Type 0} (P : Part) (K : A → B → Type 0) (e : Parser A) (l : Parser B) (d : Decides P e) (a : Agrees body_in_place K e l) where
  pub total_unexpected : Matches P → (ts vs : List Lexeme) → Closed ts → total (l ts) ≡ bad_at vs → FirstFault P ts (length ts - length vs) Unexpected
  total_unexpected o ts vs c h = first_bad_closed P e d o ts vs c (in_place_bad K e l a ts vs h)

  pub total_too_deep : (ts vs : List Lexeme) → total (l ts) ≡ deep_at vs → FirstFault P ts (length ts - length vs) TooDeep
  total_too_deep ts vs h = first_deep P e d ts vs (in_place_deep K e l a ts vs h)

  -- the same of all of a text whose first tokens are read

  pub total_bad_cut : Matches P → (n : ℕ) (ts vs : List Lexeme) → Closed (take n ts) → total (l (take n ts)) ≡ bad_at vs → FirstFault P ts (length (take n ts) - length vs) Unexpected
  total_bad_cut o n ts vs c h = first_bad_cut P e d n ts o vs c (in_place_bad K e l a (take n ts) vs h)

  pub total_deep_cut : (n : ℕ) (ts vs : List Lexeme) → total (l (take n ts)) ≡ deep_at vs → FirstFault P ts (length (take n ts) - length vs) TooDeep
  total_deep_cut n ts vs h = first_deep_cut P e d n ts vs (in_place_deep K e l a (take n ts) vs h)

module _ (bodies : ℕ → Body) (braced : (n : ℕ) → body_ending (bodies n) ≡ BracedArrow) where
  -- a script

  pub script_total_unexpected : (ts vs : List Lexeme) → Closed ts → total (pass_script bodies braced ts) ≡ bad_at vs → FirstFault (ScriptPart whole 0) ts (length ts - length vs) Unexpected
  script_total_unexpected = total_unexpected (ScriptPart whole 0) (StmtsK bodies) (read_script depth_limit) (pass_script bodies braced) script_decides (scripts_agree bodies braced depth_limit) (script_matches whole 0)

  pub script_total_too_deep : (ts vs : List Lexeme) → total (pass_script bodies braced ts) ≡ deep_at vs → FirstFault (ScriptPart whole 0) ts (length ts - length vs) TooDeep
  script_total_too_deep = total_too_deep (ScriptPart whole 0) (StmtsK bodies) (read_script depth_limit) (pass_script bodies braced) script_decides (scripts_agree bodies braced depth_limit)

  pub record ScriptGiven (ts : List Lexeme) : Type 0 where
    pub given : Stmts
    pub passed : List Recorded
    pub left : List Lexeme
    pub passes : pass_script bodies braced ts ≡ Read given passed left
    pub is : Passed bodies braced ts given

  pub script_total_reads : (ts : List Lexeme) → Ended ts → total (pass_script bodies braced ts) ≡ fine → ScriptGiven ts
  script_total_reads ts t h =
      let r = both_read (StmtsK bodies) (read_script depth_limit) (pass_script bodies braced) (scripts_agree bodies braced depth_limit) ts h in
      record { given = r.given; passed = r.passed; left = r.left; passes = r.passes; is = passed_is_script bodies braced ts r.left r.given r.passed t (total_fine (pass_script bodies braced ts) h) r.passes }

  module _ (room d : ℕ) (q : room + d ≡ depth_limit) where
    -- a body whose own statements are read

    abbrev pub body_over : FuncForm → ℕ → Bool → Parser BodyRead
    body_over f start simple = reading (everything (passed_over bodies) room).stmts f start simple

    pub body_total_unexpected : (f : FuncForm) (start : ℕ) (simple : Bool) (ts vs : List Lexeme) → Closed ts → total (body_over f start simple ts) ≡ bad_at vs → FirstFault (BodyPart whole d) ts (length ts - length vs) Unexpected
    body_total_unexpected f start simple = total_unexpected (BodyPart whole d) (OwnK bodies) (read_braced room f start simple) (body_over f start simple) (body_decides room d q f start simple) (own_bodies_agree bodies braced room f start simple) (balanced_matches (BodyPart whole d) (body_balanced whole d))

    pub body_total_too_deep : (f : FuncForm) (start : ℕ) (simple : Bool) (ts vs : List Lexeme) → total (body_over f start simple ts) ≡ deep_at vs → FirstFault (BodyPart whole d) ts (length ts - length vs) TooDeep
    body_total_too_deep f start simple = total_too_deep (BodyPart whole d) (OwnK bodies) (read_braced room f start simple) (body_over f start simple) (body_decides room d q f start simple) (own_bodies_agree bodies braced room f start simple)

    pub record BodyGiven (f : FuncForm) (start : ℕ) (simple : Bool) (ts : List Lexeme) : Type 0 where
      pub value : BodyRead
      pub given : BodyRead
      pub passed : List Recorded
      pub left : List Lexeme
      pub passes : body_over f start simple ts ≡ Read given passed left
      pub is : BodyReads d ts left value
      pub same : OwnK bodies value given

    pub body_total_reads : (f : FuncForm) (start : ℕ) (simple : Bool) (ts : List Lexeme) → total (body_over f start simple ts) ≡ fine → BodyGiven f start simple ts
    body_total_reads f start simple ts h =
        let r = both_read (OwnK bodies) (read_braced room f start simple) (body_over f start simple) (own_bodies_agree bodies braced room f start simple) ts h in
        record { value = r.value; given = r.given; passed = r.passed; left = r.left; passes = r.passes; is = read_is_body room d q f start simple ts r.left r.value (ap bare r.reads); same = r.are }

    -- a function alone

    abbrev pub function_over : FuncForm → Parser Function
    function_over f = read_alone (passed_over bodies) room f

    pub function_total_unexpected : (f : FuncForm) → (f ≡ form.Script → ⊥) → (ts vs : List Lexeme) → Closed ts → total (function_over f ts) ≡ bad_at vs → FirstFault (FunctionPart whole f None d) ts (length ts - length vs) Unexpected
    function_total_unexpected f n = total_unexpected (FunctionPart whole f None d) (AloneK bodies) (read_function room f) (function_over f) (function_decides room d q f n) (functions_agree bodies braced room f) (balanced_matches (FunctionPart whole f None d) (function_balanced whole f None d))

    pub function_total_too_deep : (f : FuncForm) → (f ≡ form.Script → ⊥) → (ts vs : List Lexeme) → total (function_over f ts) ≡ deep_at vs → FirstFault (FunctionPart whole f None d) ts (length ts - length vs) TooDeep
    function_total_too_deep f n = total_too_deep (FunctionPart whole f None d) (AloneK bodies) (read_function room f) (function_over f) (function_decides room d q f n) (functions_agree bodies braced room f)

    pub record FunctionGiven (f : FuncForm) (ts : List Lexeme) : Type 0 where
      pub tree : Function
      pub passed : List Recorded
      pub left : List Lexeme
      pub passes : function_over f ts ≡ Read (fill_alone bodies tree) passed left
      pub is : FunctionReads f d ts left tree

    pub function_total_reads : (f : FuncForm) → (f ≡ form.Script → ⊥) → (ts : List Lexeme) → total (function_over f ts) ≡ fine → FunctionGiven f ts
    function_total_reads f n ts h =
        let r = both_read (AloneK bodies) (read_function room f) (function_over f) (functions_agree bodies braced room f) ts h in
        record { tree = r.value; passed = r.passed; left = r.left; passes = r.passes ∙ ap (λ y. Read y r.passed r.left) r.are.same; is = read_is_function room d q f n ts r.left r.value (ap bare r.reads) }
