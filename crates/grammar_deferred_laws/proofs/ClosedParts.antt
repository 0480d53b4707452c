-- The first faults of the parts of a text up to the stop of its brackets. The brackets of each part match, so that none begins
-- with all of such a text, and no parser faults after its end.
use Rattle.std.proofs.Common.{◌≡◌, ℕ, suc, ◌+◌, ◌-◌, List, [], ◌∷◌, ◌++◌, length, refl, sym, ap, ◌∙◌, append-nil, Bool, false, Option, Some, None}
use Rattle.script_grammar.specs.declared.token.FuncForm.{FuncForm}
use Rattle.script_grammar.specs.declared.token.FuncForm.TheVariants as form
use Rattle.script_grammar.specs.Lexeme.{Lexeme}
use Rattle.script_grammar.specs.Tree.{Named, Body}
use Rattle.script_grammar.specs.Pieces.{Bodies, whole, passed, BracedArrow, Opener, open_behind, open_at_end, IsBalanced}
use Rattle.script_grammar.specs.Endings.{body_ending}
use Rattle.script_grammar.specs.Fault.{depth_limit, Part, ScriptPart, AssignPart, ExpressionPart, FunctionPart, BodyPart, Unexpected, FirstFault}
use Rattle.grammar_parser_specs.specs.Parser.{Recorded, Bad, Parser}
use Rattle.grammar_parser_laws.proofs.Complete.{bare}
use Rattle.grammar_script_laws.proofs.Bracketed.{AllInner}
use Rattle.grammar_script_laws.proofs.Partnered.{open_behind-last}
use Rattle.grammar_parser_laws.proofs.NestedTrees.{nested_expr, nested_stmts, nested_own, nested_function, nested_alone}
use Rattle.grammar_script_laws.proofs.FirstFaults.{Whole, Decides, first_bad_by}
use Rattle.grammar_script_laws.proofs.ScriptLaws.{inner_no_end}
use Rattle.grammar_script_laws.proofs.Closed.{Closed, Open, open_front, not_both, front_of}
use Rattle.grammar_deferred_laws.proofs.AloneLaws.{read_assign, read_expression, read_braced, read_function, assign_decides, expression_decides, body_decides, function_decides}
use Rattle.grammar_local_laws.proofs.Agrees.{fine, bad_at, Agrees}
use Rattle.grammar_local_laws.proofs.AgreesScripts.{body_in_place}
use Rattle.grammar_script_laws.proofs.AgreesAlone.{AloneK, functions_agree}
use Rattle.grammar_local_laws.proofs.PassingLaws.{AreBraced}
use Rattle.grammar_script_laws.proofs.PassedLaws.{verdict}
use Rattle.grammar_deferred_laws.proofs.PassedParts as over
use Rattle.grammar_deferred_laws.proofs.PassedBodies as over_bodies
use Rattle.grammar_deferred_laws.proofs.PassedFunctions as over_functions
use Rattle.grammar_deferred_laws.proofs.PassedHeads as over_heads
use Rattle.grammar_deferred_laws.proofs.PassedHeads.{HeadPart}
use Rattle.grammar_complete_laws.proofs.CompleteFunctions.{PlainForm}
use Rattle.grammar_deferred_laws.proofs.PassedAlone as alone
use Rattle.grammar_script_laws.proofs.Verdicts as verdicts

-- a text with what ends it is closed
pub whole_closed : (ts : List Lexeme) → Whole ts → Closed ts
whole_closed ts h = record { is = ap (open_at_end []) h.split ∙ behind h.inner [] }
  where
    behind : (u : List Lexeme) (os : List Opener) → open_at_end os (u ++ h.last ∷ []) ≡ None
    behind [] os = ap (λ o. elim o [ None ↦ None | Some x ↦ open_at_end x [] ]) (open_behind-last h.last.kind os h.ends)
    behind (t ∷ u) os = past (open_behind t.kind os) (behind u)
      where
        past : (o : Option (List Opener)) → ((x : List Opener) → open_at_end x (u ++ h.last ∷ []) ≡ None) → ◌≡◌ {A = Option (List Opener)} (elim o [ None ↦ None | Some x ↦ open_at_end x (u ++ h.last ∷ []) ]) None
        past None k = refl
        past (Some x) k = k x

-- the brackets of such a part match
pub record Balanced (P : Part) : Type 0 where
  pub at : (w : List Lexeme) (deep : List ℕ) → P w deep → IsBalanced w

-- those of what begins it, inside a text, are known
pub record Matches (P : Part) : Type 0 where
  pub at : (u v : List Lexeme) (deep : List ℕ) → P (u ++ v) deep → AllInner u → Open [] u

pub balanced_matches : (P : Part) → Balanced P → Matches P
balanced_matches P b = record { at = λ u v deep p i. open_front u v [] [] (b.at (u ++ v) deep p) }

pub assign_balanced : (m : Bodies) (w : Bool) (d : ℕ) → Balanced (AssignPart m w d)
assign_balanced m w d = record { at = λ u deep p. (nested_expr m (suc d) p.tree p.is.proper).at u p.next p.is.fits [] }

pub expression_balanced : (m : Bodies) (w : Bool) (d : ℕ) → Balanced (ExpressionPart m w d)
expression_balanced m w d = record { at = λ u deep p. (nested_expr m (suc d) p.tree p.is.proper).at u p.next p.is.fits [] }

pub body_balanced : (m : Bodies) (d : ℕ) → Balanced (BodyPart m d)
body_balanced m d = record { at = λ u deep p. (nested_own m d p.end p.items p.is.proper).at u p.next p.is.fits [] }

pub function_balanced : (m : Bodies) (f : FuncForm) (name : Option Named) (d : ℕ) → Balanced (FunctionPart m f name d)
function_balanced m f name d = record { at = λ u deep p. (nested_alone m d p.tree p.is.proper).at u p.next p.is.fits [] }

pub head_balanced : (m : Bodies) (f : FuncForm) (name : Option Named) (d : ℕ) → Balanced (HeadPart m f name d)
head_balanced m f name d = record { at = λ u deep p. (nested_function m d p.tree p.is.proper).at u p.next p.is.fits [] }

pub script_matches : (m : Bodies) (d : ℕ) → Matches (ScriptPart m d)
script_matches m d = record { at = λ u v deep p i. let f = front_of u v p.inner p.end p.split i (inner_no_end p.end.kind p.ends) in open_front u f.rest [] [] (ap (open_at_end []) (sym f.is) ∙ (nested_stmts m d false p.items p.is.proper).at p.inner p.end p.is.fits []) }

-- A part of such a text has something after it.
pub leaves_some : (P : Part) → Balanced P → (ts front us : List Lexeme) (deep : List ℕ) → Closed ts → ts ≡ front ++ us → P front deep → us ≡ [] → ⊥
leaves_some P b ts front us deep c e p n = not_both (open_at_end [] ts) [] c.is (ap (open_at_end []) (e ∙ ap (λ x. front ++ x) n ∙ append-nil front) ∙ b.at front deep p)

module _ {A : Type 0} (P : Part) (f : Parser A) (d : Decides P f) (o : Matches P) where
  pub closed_some : (ts : List Lexeme) → Closed ts → bare (f ts) ≡ Bad [] [] → ⊥
  closed_some ts c e =
      let b = d.bad_begins ts [] e in
      let q = o.at b.front b.end b.deep b.is b.inner in
      not_both (open_at_end [] ts) q.open_ones c.is (ap (open_at_end []) (b.split ∙ append-nil b.front) ∙ q.is)

  pub first_bad_closed : (ts us : List Lexeme) → Closed ts → bare (f ts) ≡ Bad [] us → FirstFault P ts (length ts - length us) Unexpected
  first_bad_closed ts us c e = first_bad_by P f d ts us (closed_some ts c) e

-- Parts whose bodies are read in place.

module _ (room d : ℕ) (q : room + d ≡ depth_limit) where
  pub assign_unexpected : (w : Bool) (ts us : List Lexeme) → Closed ts → bare (read_assign room w ts) ≡ Bad [] us → FirstFault (AssignPart whole w d) ts (length ts - length us) Unexpected
  assign_unexpected w = first_bad_closed (AssignPart whole w d) (read_assign room w) (assign_decides room d q w) (balanced_matches (AssignPart whole w d) (assign_balanced whole w d))

  pub expression_unexpected : (w : Bool) (ts us : List Lexeme) → Closed ts → bare (read_expression room w ts) ≡ Bad [] us → FirstFault (ExpressionPart whole w d) ts (length ts - length us) Unexpected
  expression_unexpected w = first_bad_closed (ExpressionPart whole w d) (read_expression room w) (expression_decides room d q w) (balanced_matches (ExpressionPart whole w d) (expression_balanced whole w d))

  pub body_unexpected : (f : FuncForm) (start : ℕ) (simple : Bool) (ts us : List Lexeme) → Closed ts → bare (read_braced room f start simple ts) ≡ Bad [] us → FirstFault (BodyPart whole d) ts (length ts - length us) Unexpected
  body_unexpected f start simple = first_bad_closed (BodyPart whole d) (read_braced room f start simple) (body_decides room d q f start simple) (balanced_matches (BodyPart whole d) (body_balanced whole d))

  pub function_unexpected : (f : FuncForm) → (f ≡ form.Script → ⊥) → (ts us : List Lexeme) → Closed ts → bare (read_function room f ts) ≡ Bad [] us → FirstFault (FunctionPart whole f None d) ts (length ts - length us) Unexpected
  function_unexpected f n = first_bad_closed (FunctionPart whole f None d) (read_function room f) (function_decides room d q f n) (balanced_matches (FunctionPart whole f None d) (function_balanced whole f None d))

-- Parts whose bodies are passed over.

module _ (bodies : ℕ → Body) (braced : AreBraced bodies) (room d : ℕ) (q : room + d ≡ depth_limit) where
  pub passed_statements_unexpected : (ts us : List Lexeme) → Closed ts → bare (over.pass_statements bodies braced room ts) ≡ Bad [] us → FirstFault (ScriptPart passed d) ts (length ts - length us) Unexpected
  passed_statements_unexpected = first_bad_closed (ScriptPart passed d) (over.pass_statements bodies braced room) (over.statements_decide bodies braced room d q) (script_matches passed d)

  pub passed_assign_unexpected : (w : Bool) (ts us : List Lexeme) → Closed ts → bare (over.pass_assign bodies braced room w ts) ≡ Bad [] us → FirstFault (AssignPart passed w d) ts (length ts - length us) Unexpected
  passed_assign_unexpected w = first_bad_closed (AssignPart passed w d) (over.pass_assign bodies braced room w) (over.assign_decides bodies braced room d q w) (balanced_matches (AssignPart passed w d) (assign_balanced passed w d))

  pub passed_expression_unexpected : (w : Bool) (ts us : List Lexeme) → Closed ts → bare (over.pass_expression bodies braced room w ts) ≡ Bad [] us → FirstFault (ExpressionPart passed w d) ts (length ts - length us) Unexpected
  passed_expression_unexpected w = first_bad_closed (ExpressionPart passed w d) (over.pass_expression bodies braced room w) (over.expression_decides bodies braced room d q w) (balanced_matches (ExpressionPart passed w d) (expression_balanced passed w d))

  pub passed_body_unexpected : (f : FuncForm) (start : ℕ) (simple : Bool) (ts us : List Lexeme) → Closed ts → bare (over_bodies.pass_braced bodies braced room f start simple ts) ≡ Bad [] us → FirstFault (BodyPart passed d) ts (length ts - length us) Unexpected
  passed_body_unexpected f start simple = first_bad_closed (BodyPart passed d) (over_bodies.pass_braced bodies braced room f start simple) (over_bodies.body_decides bodies braced room d q f start simple) (balanced_matches (BodyPart passed d) (body_balanced passed d))

  pub passed_head_unexpected : (f : FuncForm) (name : Option Named) (form_is : PlainForm f) (ts us : List Lexeme) → Closed ts → bare (over_heads.pass_head bodies braced room d f name form_is ts) ≡ Bad [] us → FirstFault (HeadPart passed f name d) ts (length ts - length us) Unexpected
  passed_head_unexpected f name i = first_bad_closed (HeadPart passed f name d) (over_heads.pass_head bodies braced room d f name i) (over_heads.head_decides bodies braced room d f name i q) (balanced_matches (HeadPart passed f name d) (head_balanced passed f name d))

  pub passed_function_unexpected : (f : FuncForm) → (f ≡ form.Script → ⊥) → (ts us : List Lexeme) → Closed ts → bare (over_functions.pass_alone bodies braced room f ts) ≡ Bad [] us → FirstFault (FunctionPart passed f None d) ts (length ts - length us) Unexpected
  passed_function_unexpected f n = first_bad_closed (FunctionPart passed f None d) (over_functions.pass_alone bodies braced room f) (over_functions.function_decides bodies braced room d q f n) (balanced_matches (FunctionPart passed f None d) (function_balanced passed f None d))

-- A parser that reads bodies in place, and one that agrees with it but passes them over.

module _ {A B : Type 0} (P : Part) (K : A → B → Type 0) (e : Parser A) (l : Parser B) (d : Decides P e) (a : Agrees body_in_place K e l) (o : Matches P) where
  -- a recorded body has a fault
  pub inner_unexpected : (ts vs : List Lexeme) → Closed ts → verdict (l ts) ≡ bad_at vs → FirstFault P ts (length ts - length vs) Unexpected
  inner_unexpected ts vs c h = first_bad_closed P e d o ts vs c (verdicts.inner_bad P K e l d a ts vs h)

  -- no recorded body has one
  pub own_unexpected : (ts us : List Lexeme) (rs : List Recorded) → Closed ts → verdict (l ts) ≡ fine → l ts ≡ Bad rs us → FirstFault P ts (length ts - length us) Unexpected
  own_unexpected ts us rs c h k = first_bad_closed P e d o ts us c (verdicts.own_bad P K e l d a ts us rs h k)

-- A function alone whose inner bodies are passed over.

module _ (bodies : ℕ → Body) (braced : (n : ℕ) → body_ending (bodies n) ≡ BracedArrow) (room d : ℕ) (q : room + d ≡ depth_limit) (f : FuncForm) (n : f ≡ form.Script → ⊥) where
  abbrev function_matches : Matches (FunctionPart whole f None d)
  function_matches = balanced_matches (FunctionPart whole f None d) (function_balanced whole f None d)

  pub function_inner_unexpected : (ts vs : List Lexeme) → Closed ts → verdict (alone.pass_function bodies braced room d q f n ts) ≡ bad_at vs → FirstFault (FunctionPart whole f None d) ts (length ts - length vs) Unexpected
  function_inner_unexpected = inner_unexpected (FunctionPart whole f None d) (AloneK bodies) (read_function room f) (alone.pass_function bodies braced room d q f n) (function_decides room d q f n) (functions_agree bodies braced room f) function_matches

  pub function_alone_unexpected : (ts us : List Lexeme) (rs : List Recorded) → Closed ts → verdict (alone.pass_function bodies braced room d q f n ts) ≡ fine → alone.pass_function bodies braced room d q f n ts ≡ Bad rs us → FirstFault (FunctionPart whole f None d) ts (length ts - length us) Unexpected
  function_alone_unexpected = own_unexpected (FunctionPart whole f None d) (AloneK bodies) (read_function room f) (alone.pass_function bodies braced room d q f n) (function_decides room d q f n) (functions_agree bodies braced room f) function_matches
