-- A part whose bodies were passed over, and each of the bodies read in place: the part is then read in place too, and its braced
-- bodies, in the order of the source, are those that were read.
use Rattle.std.proofs.Common.{◌≡◌, ◌∙◌, ℕ, ◌+◌, List, [], ◌∷◌, ◌++◌, refl, sym, ap, subst, Bool, false, Option}
use Rattle.script_grammar.specs.declared.token.FuncForm.{FuncForm}
use Rattle.script_grammar.specs.Lexeme.{Lexeme}
use Rattle.script_grammar.specs.Tree.{Named, Expr, Stmts, Body, Function}
use Rattle.script_grammar.specs.Tree as tree
use Rattle.script_grammar.specs.Pieces.{whole, depths}
use Rattle.script_grammar.specs.Script.{IsBody, print_braced}
use Rattle.script_grammar.specs.Shows.{ShowAll}
use Rattle.script_grammar.specs.Endings.{body_ending}
use Rattle.script_grammar.specs.Pieces.{BracedArrow}
use Rattle.script_grammar.specs.Braced.{in_expr, in_function}
use Rattle.script_grammar.specs.Fault.{depth_limit}
use Rattle.grammar_parser_specs.specs.Parser.{Recorded, Read, Parser, head_of}
use Rattle.grammar_parser_specs.specs.Exprs.{BodyRead, function_of}
use Rattle.grammar_parser_specs.specs.Stmts.{in_place, read_alone}
use Rattle.grammar_parser_laws.proofs.Complete.{bare}
use Rattle.grammar_local_laws.proofs.Agrees.{fine, or_else, judged, records}
use Rattle.grammar_local_laws.proofs.Alike.{ExprK, FunctionK}
use Rattle.grammar_local_laws.proofs.AgreesStmts.{OwnK}
use Rattle.grammar_script_laws.proofs.AgreesAlone.{AloneK}
use Rattle.grammar_local_laws.proofs.AgreesScripts.{body_in_place, passed_over, silent, own_bodies_agree}
use Rattle.grammar_script_laws.proofs.PartLaws.{NoneDeep}
use Rattle.grammar_local_laws.proofs.PassingLaws.{AreBraced}
use Rattle.grammar_deferred_laws.proofs.PassedBodies.{pass_braced}
use Rattle.grammar_deferred_laws.proofs.PassedParts.{pass_env, pass_assign, pass_expression}
use Rattle.grammar_deferred_laws.proofs.AloneLaws.{env_with, read_assign, read_expression, read_braced, body_is_read}
use Rattle.parse_pending_laws.proofs.Lists.{Bodies, as_is, in_records, in_read, ListsAt, Lists}
use Rattle.parse_pending_laws.proofs.ListsStmts.{in_inner}
use Rattle.parse_pending_laws.proofs.ListsScripts.{own_bodies_list, assign_list, expr_list, head_list}
use Rattle.parse_pending_laws.proofs.ListsAlone.{in_alone, functions_list}

-- a recorded body, read in place, has these statements
pub record ReadsTo (b : Recorded) (items : Stmts) : Type 0 where
  pub end : ℕ
  pub left : List Lexeme
  pub reads : body_in_place b ≡ Read (record { body = tree.BracedBody items; end = end }) [] left

-- one that is a braced body by the grammar
pub reads_to : (b : Recorded) (d : ℕ) → b.room + d ≡ depth_limit → (items : Stmts) (end : ℕ) (u rest : List Lexeme) → b.from ≡ u ++ rest → (s : IsBody whole d end u (head_of rest) items) → NoneDeep (depths (print_braced whole d end items) u (head_of rest) s.fits) → ReadsTo b items
reads_to b d q items end u rest e s h = record {
  end = end;
  left = rest;
  reads = silent (own_bodies_agree (λ _. tree.BracedBody tree.no_stmts) (λ _. refl) b.room b.form 0 b.simple) b.from ∙ ap (λ ts. bare (read_braced b.room b.form 0 b.simple ts)) e ∙ body_is_read b.room d q b.form 0 b.simple end u rest items s h;
}

-- none of these has a fault, and they are all
pub all_read : (rs : List Recorded) (bodies : List Stmts) → ShowAll ReadsTo rs bodies → (judged body_in_place rs ≡ fine) × (in_records false body_in_place rs [] ≡ bodies)
all_read [] [] h = (refl, refl)
all_read [] (items ∷ bodies) h = absurd h
all_read (b ∷ rs) [] h = absurd h
all_read (b ∷ rs) (items ∷ bodies) h =
    let k = all_read rs bodies h.1 in
    let r : ReadsTo b items = h.0 in
    (ap (λ x. or_else x (judged body_in_place rs)) r.reads ∙ k.0, ap (λ x. in_read false x (in_records false body_in_place rs [])) r.reads ∙ ap (λ x. items ∷ x) k.1)

module _ {A B : Type 0} (K : A → B → Type 0) (w : Bodies A) (e : Parser A) (l : Parser B) where
  -- what is read in place
  pub record InPlace (ts us : List Lexeme) (b : B) (bodies : List Stmts) : Type 0 where
    pub value : A
    pub reads : e ts ≡ Read value [] us
    pub are : K value b
    pub order : w value [] ≡ bodies

  in_place_too : Lists false body_in_place K as_is w e l → (ts us : List Lexeme) (b : B) (rs : List Recorded) (bodies : List Stmts) → l ts ≡ Read b rs us → ShowAll ReadsTo rs bodies → InPlace ts us b bodies
  in_place_too m ts us b rs bodies h r =
      let c = all_read rs bodies r in
      let n = subst (λ v. ListsAt false body_in_place K as_is w v (e ts) (Read b rs us)) c.0 (subst (λ s. ListsAt false body_in_place K as_is w (judged body_in_place (records s)) (e ts) s) h (m.at ts)) in
      record { value = n.0; reads = n.1; are = n.2; order = sym (n.3 []) ∙ c.1 }

module _ (bodies : ℕ → Body) (braced : AreBraced bodies) (room : ℕ) where
  ends : (n : ℕ) → body_ending (bodies n) ≡ BracedArrow
  ends n = ap body_ending (braced.are n)

  pub assign_in_place : (w : Bool) (ts us : List Lexeme) (given : Expr) (rs : List Recorded) (inner : List Stmts) → pass_assign bodies braced room w ts ≡ Read given rs us → ShowAll ReadsTo rs inner → InPlace (ExprK bodies) (in_expr false) (read_assign room w) (pass_assign bodies braced room w) ts us given inner
  assign_in_place w = in_place_too (ExprK bodies) (in_expr false) (read_assign room w) (pass_assign bodies braced room w) (assign_list false bodies ends room w)

  pub expression_in_place : (w : Bool) (ts us : List Lexeme) (given : Expr) (rs : List Recorded) (inner : List Stmts) → pass_expression bodies braced room w ts ≡ Read given rs us → ShowAll ReadsTo rs inner → InPlace (ExprK bodies) (in_expr false) (read_expression room w) (pass_expression bodies braced room w) ts us given inner
  expression_in_place w = in_place_too (ExprK bodies) (in_expr false) (read_expression room w) (pass_expression bodies braced room w) (expr_list false bodies ends room w)

  pub head_in_place : (f : FuncForm) (name : Option Named) (ts us : List Lexeme) (given : Function) (rs : List Recorded) (inner : List Stmts) → function_of (pass_env bodies braced room) f name ts ≡ Read given rs us → ShowAll ReadsTo rs inner → InPlace (FunctionK bodies) (in_function false) (function_of (env_with room) f name) (function_of (pass_env bodies braced room) f name) ts us given inner
  head_in_place f name = in_place_too (FunctionK bodies) (in_function false) (function_of (env_with room) f name) (function_of (pass_env bodies braced room) f name) (head_list false bodies ends room f name)

  pub body_in_its_place : (f : FuncForm) (start : ℕ) (simple : Bool) (ts us : List Lexeme) (given : BodyRead) (rs : List Recorded) (inner : List Stmts) → pass_braced bodies braced room f start simple ts ≡ Read given rs us → ShowAll ReadsTo rs inner → InPlace (OwnK bodies) (in_inner false) (read_braced room f start simple) (pass_braced bodies braced room f start simple) ts us given inner
  body_in_its_place f start simple = in_place_too (OwnK bodies) (in_inner false) (read_braced room f start simple) (pass_braced bodies braced room f start simple) (own_bodies_list false bodies ends room f start simple)

  pub function_in_place : (f : FuncForm) (ts us : List Lexeme) (given : Function) (rs : List Recorded) (inner : List Stmts) → read_alone (passed_over bodies) room f ts ≡ Read given rs us → ShowAll ReadsTo rs inner → InPlace (AloneK bodies) (in_alone false) (read_alone in_place room f) (read_alone (passed_over bodies) room f) ts us given inner
  function_in_place f = in_place_too (AloneK bodies) (in_alone false) (read_alone in_place room f) (read_alone (passed_over bodies) room f) (functions_list false bodies ends room f)
