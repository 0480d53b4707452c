-- What the parser of a function alone answers where its tokens are a function: the function.
use Rattle.std.proofs.Common.{◌≡◌, ◌∙◌, List, [], ◌∷◌, ◌++◌, refl, sym, ap, subst, None}
use Rattle.script_grammar.specs.declared.token.FuncForm.{FuncForm}
use Rattle.script_grammar.specs.declared.token.FuncForm.TheVariants as form
use Rattle.script_grammar.specs.declared.node.NodeFunc.{NodeFunc}
use Rattle.script_grammar.specs.Fault.{depth_limit}
use Rattle.script_grammar.specs.Interpretation.{Interpretation}
use Rattle.script_grammar.specs.Lexeme.{Lexeme}
use Rattle.script_grammar.specs.Pieces.{passed, depths}
use Rattle.script_grammar.specs.Script.{IsFunction, print_alone}
use Rattle.script_grammar.specs.Shows.{ShowFunc}
use Rattle.script_grammar.specs.Tree.{Expr, Stmts, Function}
use Rattle.script_grammar.specs.Tree as tree
use Rattle.grammar_parser_specs.specs.Parser.{Reply, Read, head_of}
use Rattle.grammar_parser_laws.proofs.Complete.{bare}
use Rattle.grammar_script_laws.proofs.PartLaws.{NoneDeep}
use Rattle.grammar_script_laws.proofs.ScriptLaws.{end_kind}
use Rattle.grammar_deferred_laws.proofs.AloneLaws.{function_is_read}
use Rattle.grammar_script_laws.proofs.AgreesAlone.{fill_alone}
use Rattle.grammar_deferred_laws.proofs.PassedAlone as inner
use Rattle.grammar_deferred_laws.proofs.PassedFunctions.{pass_alone, passed_is_function, function_is_passed}
use Rattle.parse_exprs.specs.Env.{body_at}
use Rattle.parse_parts.specs.Parts.{TakesAlone, NoFunction, fill_inside}
use Rattle.parse_parts.proofs.Takes.{given}
use Rattle.parse_function.specs.Alone.{AreFunction}

same_value : {A : Type 0} (a b : A) (us vs : List Lexeme) → ◌≡◌ {A = Reply A} (Read a [] us) (Read b [] vs) → a ≡ b
same_value a b us vs e = cc

-- what is inside a function's own body
pub inside_same : (i : Interpretation) (f : Function) → fill_alone (body_at i) f ≡ fill_inside (body_at i) f
inside_same i (tree.function g start end who ps comma bare (tree.BracedBody items)) = refl
inside_same i (tree.function g start end who ps comma bare (tree.ShortBody value)) = refl

module _ (i : Interpretation) (f : FuncForm) (n : f ≡ form.Script → ⊥) (ts : List Lexeme) (x : Function) (t : AreFunction ts f x) where
  -- the parser that passes bodies over reads it, with the bodies that are given
  reads : bare (pass_alone (body_at i) (given i) depth_limit f ts) ≡ Read (fill_alone (body_at i) x) [] (t.end ∷ [])
  reads =
      let read = function_is_read depth_limit 0 refl f t.inner (t.end ∷ []) x t.is t.shallow (end_kind t.end t.ends) in
      let passes = inner.function_is_passed (body_at i) (λ k. refl) depth_limit 0 refl f n (t.inner ++ t.end ∷ []) (t.end ∷ []) x read in
      ap (λ (us : List Lexeme). bare (pass_alone (body_at i) (given i) depth_limit f us)) t.split ∙ ap bare passes.reads

  -- so it is not missing
  pub is_no_fault : NoFunction f 0 ts → ⊥
  is_no_fault none =
      let p = passed_is_function (body_at i) (given i) depth_limit 0 refl f n ts (t.end ∷ []) (fill_alone (body_at i) x) reads in
      none.none (t.end ∷ [])
      (record {
        tokens = p.front;
        split = p.split;
        deep = depths (print_alone passed 0 (fill_alone (body_at i) x)) p.front t.end p.is.fits;
        part = record { next = t.end; tree = fill_alone (body_at i) x; is = p.is; deep_is = refl };
        shallow = p.shallow;
      }) refl t.ends

  -- and what is taken is the function
  record Stands (w : List Lexeme) (y : Function) (next : Lexeme) : Type 0 where
    is : IsFunction passed f None 0 w next y
    shallow : NoneDeep (depths (print_alone passed 0 y) w next is.fits)

  pub taken_is : {E B : Type 0} (shows : E → Expr → Type 0) (shows_body : B → Stmts → Type 0) (us : List Lexeme) (node : NodeFunc E B) → TakesAlone i shows shows_body f 0 ts us node → ShowFunc i shows shows_body node (fill_inside (body_at i) x)
  taken_is shows shows_body us node k =
      let y = k.taken.part.tree in
      let stands : Stands k.taken.tokens y (head_of us) =
      subst (Stands k.taken.tokens y) k.next (record { is = k.taken.part.is; shallow = subst NoneDeep k.taken.part.deep_is k.taken.shallow }) in
      let again = function_is_passed (body_at i) (given i) depth_limit 0 refl f k.taken.tokens us y stands.is stands.shallow (end_kind (head_of us) k.ends) in
      let same : fill_alone (body_at i) y ≡ fill_alone (body_at i) x =
      same_value (fill_alone (body_at i) y) (fill_alone (body_at i) x) us (t.end ∷ [])
      (sym again ∙ ap (λ (vs : List Lexeme). bare (pass_alone (body_at i) (given i) depth_limit f vs)) (sym k.taken.split) ∙ reads) in
      subst (ShowFunc i shows shows_body node) (sym (inside_same i y) ∙ same ∙ inside_same i x) k.shown
