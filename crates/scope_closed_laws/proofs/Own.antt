-- What is told, by function: the closed names that one function binds itself.
use Rattle.std.proofs.Common.{◌≡◌, ◌⊎◌, ℕ, ◌+◌, Bool, true, cond, bytes_eq, None, List, [], ◌∷◌, ◌++◌, map, length}
use Rattle.script_grammar.specs.Tree.{Function}
use Rattle.stencil_data.specs.declared.functions.FuncKind.{FuncKind}
use Rattle.stencil_data.specs.declared.functions.FuncKind.TheVariants as func
use Rattle.stencil_data.specs.Named.{NamedClosed}
use Rattle.parse_track.specs.declared.region.Declare.{Declare}
use Rattle.parse_track.specs.Told.{Region, Told, nothing, leaf, inner}
use Rattle.parse_track.specs.RegionNames.{is_lexical, is_param, is_lambda, directly}
use Rattle.parse_track.specs.EarlyErrors.{repeated, reserved}
use Rattle.parse_track.specs.ClosedNames.{scopes, names, begins, reaches, reached, bound_by, scope_count, at_of, kept}
use Rattle.parse_track.specs.Tells.{Text, known_texts, function_name, in_named, tells_function}
use Rattle.scope_closed_laws.specs.Handed.{placed_name}

abbrev pub scopes_in : Region Text → Told Text → List (List Text)
scopes_in k i = scopes bytes_eq known_texts k i

abbrev pub names_in : Region Text → Told Text → List Text
names_in k i = names bytes_eq known_texts k i

abbrev pub reaches_in : Bool → Bool → Text → Told Text → Bool
reaches_in named inside x t = reaches bytes_eq known_texts named inside x t

abbrev pub count_in : Bool → Told Text → ℕ
count_in named t = scope_count bytes_eq known_texts named t

-- of the names of a region those that are closed over, its first scope numbered so
abbrev pub picked_in : ℕ → Region Text → Told Text → List NamedClosed
picked_in scope k i = map placed_name (kept (reached bytes_eq known_texts k i (names_in k i)) (bound_by None scope (scopes_in k i)))

-- of what is told, without the functions in it
abbrev pub own : Bool → ℕ → Told Text → List NamedClosed
own named scope nothing = []
own named scope (leaf l t) = own named scope t
own named scope (inner k at i t) =
    cond (begins named k) [] (picked_in scope k i ++ own (is_lambda k) (scope + length (scopes_in k i)) i)
    ++ own named (scope + cond (begins named k) 0 (length (scopes_in k i) + count_in (is_lambda k) i)) t

-- where the functions in it start
abbrev pub starts : Bool → Told Text → List ℕ
starts named nothing = []
starts named (leaf l t) = starts named t
starts named (inner k at i t) = cond (begins named k) (at_of k at i ∷ []) [] ++ (starts (is_lambda k) i ++ starts named t)

-- the region of a function, with that of its name where it has one
abbrev pub told_of : FuncKind → Function → Told Text
told_of func.Expression f = in_named (function_name f) (tells_function f) nothing
told_of _ f = tells_function f nothing

-- a function that is told somewhere
abbrev pub Occurs : Told Text → Bool → Told Text → Type 0
Occurs f named nothing = ⊥
Occurs f named (leaf l t) = Occurs f named t
Occurs f named (inner k at i t) = ((begins named k ≡ true) × (inner k at i nothing ≡ f)) ⊎ (Occurs f (is_lambda k) i ⊎ Occurs f named t)

-- No name is declared twice where it would be bound twice: two lexical names of a region, two parameters, and the names
-- that functions bind without a word.
pub record Tidy (i : Told Text) : Type 0 where
  pub lexical : repeated bytes_eq [] (directly is_lexical i) ≡ []
  pub params : repeated bytes_eq [] (directly is_param i) ≡ []
  pub arguments : reserved bytes_eq known_texts (directly (λ (d : Declare). true) i) ≡ []
  pub this : reserved bytes_eq (record { eval = known_texts.this; arguments = known_texts.this; this = known_texts.this }) (directly (λ (d : Declare). true) i) ≡ []

abbrev pub Clean : Told Text → Type 0
Clean nothing = Unit {0}
Clean (leaf l t) = Clean t
Clean (inner k at i t) = Tidy i × Clean i × Clean t
