-- Where a function of a script stands in the script's file.
use Rattle.std.specs.Prelude.{◌≡◌, ℕ, List, map}
use Rattle.std.specs.Str.{IsUtf8}
use Rattle.script_grammar.specs.declared.token.FuncForm.{FuncForm}
use Rattle.script_grammar.specs.Tree.{Function, function, Body, Stmts}
use Rattle.stencil_data.specs.declared.functions.Extent.{Extent}
use Rattle.script_scanner.specs.Lexemes.{lexemes}
use Rattle.grammar_start_laws.specs.Own.{stmts_at}
use Rattle.grammar_start_laws.specs.Started.{started_stmts}
use Rattle.parse_bodies.specs.Whole.{IsText}
use Rattle.scope_analysis.specs.Functions.{Inner, function_form, inner_function}
use Rattle.grammar_alone_laws.specs.Alone.{start_of, end_of}
use Rattle.grammar_alone_laws.specs.Functions.{IsFunctionIn}

-- The file is UTF-8 and a script with these statements, and this function in it, at any depth, has this form and this extent.
pub record IsExtentOf (file : List ℕ) (extent : Extent) (form : FuncForm) (items : Stmts) (i : Inner) : Type 0 where
  pub utf8 : IsUtf8 file
  pub text : IsText (lexemes file) items
  pub inside : IsFunctionIn items i
  pub form_is : function_form i.func ≡ form
  pub starts : start_of i.func ≡ extent.start
  pub ends : end_of i.func ≡ extent.end

-- where the functions directly in this one stand, in the order of the source
abbrev pub extents_in : Inner → List Extent
extents_in i = map (λ (j : Inner). record { start = start_of j.func; end = end_of j.func }) (inner_function i.kind i.name i.func)

-- it is that of some function, and these are the extents of the functions directly in that one
pub record IsFunctionExtent (file : List ℕ) (extent : Extent) (form : FuncForm) (inside : List Extent) : Type 0 where
  pub items : Stmts
  pub inner : Inner
  pub is : IsExtentOf file extent form items inner
  pub inside_are : inside ≡ extents_in inner

-- the statements of the bodies of a script's functions, by where these start
abbrev pub own_statements : Stmts → ℕ → Stmts
own_statements items n = stmts_at (started_stmts items) n

abbrev pub body_in : Function → Body
body_in (function _ _ _ _ _ _ _ body) = body
