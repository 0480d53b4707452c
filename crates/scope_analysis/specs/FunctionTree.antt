-- A function that is read: its body stands for one, whatever stands for those that were passed over.
use Rattle.std.specs.Prelude.{◌≡◌, ℕ, Bool, if◌then◌else◌, List, [], ◌∷◌, ◌++◌, map, Some, length, ◌<◌, ◌^◌, true}
use Rattle.script_grammar.specs.declared.token.FuncForm.{FuncForm}
use Rattle.script_grammar.specs.declared.tree.Func.{Func, out-Func}
use Rattle.script_grammar.specs.Interpretation.{Interpretation}
use Rattle.script_grammar.specs.Kinds.{is_arrow_form}
use Rattle.script_grammar.specs.Tree.{Params, Body}
use Rattle.script_grammar.specs.TreeLists.{params_of}
use Rattle.script_grammar.specs.TreeOf.{body_of, param_of}
use Rattle.stencil_data.specs.declared.scopes.BindKind.TheVariants as bind
use Rattle.scope_analysis.specs.declared.functions.OwnUses.{OwnUses}
use Rattle.scope_analysis.specs.DeclaredNames.{Declaration, declaration, has_text}
use Rattle.scope_analysis.specs.Scopes.{function_uses}
use Rattle.scope_analysis.specs.Uses.{arguments_text, this_text}

abbrev pub params_in : Interpretation → Func → Params
params_in i f = params_of (map (param_of i) (out-Func f).params.items)

-- it has this body
abbrev pub HasBody : Interpretation → Func → Body → Type 0
HasBody i f body = body_of i (out-Func f).body ≡ Some body

-- these are the names that a function uses itself, those inside it left out
pub record UsesItself (own : OwnUses) (params : Params) (body : Body) : Type 0 where
  pub arguments : own.arguments ≡ has_text (function_uses params body).own arguments_text
  pub this : own.this ≡ has_text (function_uses params body).own this_text

-- the names under which functions find `this` and their arguments are among the texts
pub record KnowsNames (texts : List (List ℕ)) : Type 0 where
  pub few : length texts < 2 ^ 32
  pub arguments : has_text texts arguments_text ≡ true
  pub this : has_text texts this_text ≡ true

-- `arguments` and `this`, where they are bound
abbrev pub specials : FuncForm → Bool → Bool → List Declaration
specials form arguments this =
    if is_arrow_form form then [] else
    ((if arguments then declaration bind.Arguments arguments_text ∷ [] else []) ++ (if this then declaration bind.This this_text ∷ [] else []))
