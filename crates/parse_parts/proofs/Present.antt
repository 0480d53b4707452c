-- A part that stands in front of the tokens after it is read, where no token of it is too deep. So there is none where the
-- parser faults.
use Rattle.std.proofs.Common.{◌≡◌, ◌∙◌, ℕ, ◌+◌, List, [], ◌++◌, sym, ap, subst, Bool, Option, None}
use Rattle.script_grammar.specs.declared.token.FuncForm.{FuncForm}
use Rattle.script_grammar.specs.declared.token.Kind.TheVariants as kind
use Rattle.script_grammar.specs.Fault.{depth_limit}
use Rattle.script_grammar.specs.Interpretation.{Interpretation}
use Rattle.script_grammar.specs.Kinds.{is_end}
use Rattle.script_grammar.specs.Lexeme.{Lexeme}
use Rattle.script_grammar.specs.Pieces.{passed, depths}
use Rattle.script_grammar.specs.Print.{print_function}
use Rattle.script_grammar.specs.Script.{IsFunction, IsBody, print_braced, print_alone}
use Rattle.script_grammar.specs.Tree.{Named, Stmts, Function}
use Rattle.grammar_parser_specs.specs.Parser.{Read, Parser, head_of}
use Rattle.grammar_parser_specs.specs.Exprs.{BodyRead}
use Rattle.grammar_parser_laws.proofs.Complete.{bare}
use Rattle.grammar_complete_laws.proofs.CompleteFunctions.{PlainForm}
use Rattle.grammar_script_laws.proofs.PartLaws.{NoneDeep}
use Rattle.grammar_deferred_laws.proofs.PassedBodies.{pass_braced, body_is_passed}
use Rattle.grammar_deferred_laws.proofs.PassedFunctions.{pass_alone, function_is_passed}
use Rattle.grammar_deferred_laws.proofs.PassedHeads.{pass_head, head_is_passed}
use Rattle.parse_exprs.specs.Env.{body_at}
use Rattle.parse_parts.specs.Parts.{IsHead, NoHead, NoBody, NoFunction}
use Rattle.parse_parts.proofs.Takes.{given}

-- a parser reads nothing from these
abbrev pub ReadsNothing : {A : Type 0} → Parser A → List Lexeme → Type 0
ReadsNothing {A} f from = (a : A) (us : List Lexeme) → bare (f from) ≡ Read a [] us → ⊥

module _ (i : Interpretation) (room d : ℕ) (q : room + d ≡ depth_limit) (from : List Lexeme) where
  pub no_body : (f : FuncForm) (start : ℕ) (simple : Bool) → ReadsNothing (pass_braced (body_at i) (given i) room f start simple) from → NoBody d from
  no_body f start simple n = record { none = λ rest t e. let r = reads t.tokens rest t.part.end t.part.items t.part.next e t.part.is (subst NoneDeep t.part.deep_is t.shallow) in n r.0 rest (ap (λ x. bare (pass_braced (body_at i) (given i) room f start simple x)) t.split ∙ r.1) }
    where
      reads : (u rest : List Lexeme) (end : ℕ) (items : Stmts) (next : Lexeme) → next ≡ head_of rest → (is : IsBody passed d end u next items) → NoneDeep (depths (print_braced passed d end items) u next is.fits) → (a : BodyRead) × (bare (pass_braced (body_at i) (given i) room f start simple (u ++ rest)) ≡ Read a [] rest)
      reads u rest end items next e =
          subst (λ x. (is : IsBody passed d end u x items) → NoneDeep (depths (print_braced passed d end items) u x is.fits) → (a : BodyRead) × (bare (pass_braced (body_at i) (given i) room f start simple (u ++ rest)) ≡ Read a [] rest)) (sym e)
          (λ is h. (_, body_is_passed (body_at i) (given i) room d q f start simple end u rest items is h))

  pub no_head : (f : FuncForm) (name : Option Named) (plain : PlainForm f) → ReadsNothing (pass_head (body_at i) (given i) room d f name plain) from → NoHead f name d from
  no_head f name plain n = record { none = λ rest t e. let r = reads t.tokens rest t.part.tree t.part.next e t.part.is (subst NoneDeep t.part.deep_is t.shallow) in n r.0 rest (ap (λ x. bare (pass_head (body_at i) (given i) room d f name plain x)) t.split ∙ r.1) }
    where
      reads : (u rest : List Lexeme) (tree : Function) (next : Lexeme) → next ≡ head_of rest → (is : IsHead passed f name d u next tree) → NoneDeep (depths (print_function passed d tree) u next is.fits) → (a : Function) × (bare (pass_head (body_at i) (given i) room d f name plain (u ++ rest)) ≡ Read a [] rest)
      reads u rest tree next e =
          subst (λ x. (is : IsHead passed f name d u x tree) → NoneDeep (depths (print_function passed d tree) u x is.fits) → (a : Function) × (bare (pass_head (body_at i) (given i) room d f name plain (u ++ rest)) ≡ Read a [] rest)) (sym e)
          (λ is h. (_, head_is_passed (body_at i) (given i) room d f name plain q u rest tree (record { of = is.of; proper = is.proper; fits = is.fits }) h))

  pub no_function : (f : FuncForm) → ReadsNothing (pass_alone (body_at i) (given i) room f) from → NoFunction f d from
  no_function f n = record { none = λ rest t e k. let r = reads t.tokens rest t.part.tree t.part.next e k t.part.is (subst NoneDeep t.part.deep_is t.shallow) in n r.0 rest (ap (λ x. bare (pass_alone (body_at i) (given i) room f x)) t.split ∙ r.1) }
    where
      reads : (u rest : List Lexeme) (tree : Function) (next : Lexeme) → next ≡ head_of rest → (head_of rest).kind ≡ kind.End → (is : IsFunction passed f None d u next tree) → NoneDeep (depths (print_alone passed d tree) u next is.fits) → (a : Function) × (bare (pass_alone (body_at i) (given i) room f (u ++ rest)) ≡ Read a [] rest)
      reads u rest tree next e k =
          subst (λ x. (is : IsFunction passed f None d u x tree) → NoneDeep (depths (print_alone passed d tree) u x is.fits) → (a : Function) × (bare (pass_alone (body_at i) (given i) room f (u ++ rest)) ≡ Read a [] rest)) (sym e)
          (λ is h. (_, function_is_passed (body_at i) (given i) room d q f u rest tree is h (ap is_end k)))
