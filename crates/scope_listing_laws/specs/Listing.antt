-- Two lists of the functions directly in a part of a script: parse_handlers', and scope_analysis'.
use Rattle.std.specs.Prelude.{◌≡◌, ℕ, ◌+◌, Bool, true, Option, List, [], ◌∷◌, ◌++◌}
use Rattle.stencil_data.specs.declared.functions.FuncKind.{FuncKind}
use Rattle.script_grammar.specs.Braced as braced
use Rattle.script_grammar.specs.Pieces.{whole}
use Rattle.script_grammar.specs.Proper.{ProperFunction}
use Rattle.script_grammar.specs.Tree.{Function, function, Body, BracedBody, ShortBody, Stmts}
use Rattle.scope_analysis.specs.DeclaredNames.{Text, has_initializer}
use Rattle.scope_analysis.specs.Functions.{Inner, inner_expr, inner_params, inner_body, params_around}
use Rattle.scope_analysis.specs.Scopes.{scope_count, callee_names}
use Rattle.parse_handlers.specs.Inner as found
use Rattle.parse_handlers.specs.Inner.{no_inner, more_inner, is_braced, is_simple}

-- what parse_handlers lists of a function, but for those in it
pub record Outline : Type 0 where
  pub start : ℕ
  pub end : ℕ
  pub kind : FuncKind
  pub name : Option Text
  pub braced : Bool
  pub simple : Bool

abbrev pub outline_in : FuncKind → Option Text → Function → Outline
outline_in kind name (function form start end _ ps comma bare body) =
    record { start = start; end = end; kind = kind; name = name; braced = is_braced body; simple = is_simple ps }

abbrev pub outline_of : Inner → Outline
outline_of f = outline_in f.kind f.name f.func

-- the functions directly in a body that is an expression
abbrev pub inner_short : Body → List ℕ → List Inner
inner_short (BracedBody items) around = []
inner_short (ShortBody value) around = inner_expr value around

-- the functions directly in one of this kind and name, but for those in a body in braces
abbrev pub outside_body : FuncKind → Option Text → Function → List Inner
outside_body kind name (function form start end _ ps comma bare body) =
    inner_params ps (params_around kind name) ++ inner_short body (params_around kind name)

-- the functions directly in the body in braces of one of this kind and name
abbrev pub inside_body : FuncKind → Option Text → Function → List Inner
inside_body kind name (function form start end _ ps comma bare (BracedBody items)) =
    inner_body (has_initializer ps) (BracedBody items) (scope_count (callee_names kind name) + 1) (params_around kind name)
inside_body kind name (function form start end _ ps comma bare (ShortBody value)) = []

-- These are listed in both ways: one for one the same outline, and the same functions outside the bodies in braces. The
-- grammar has each of them.
abbrev pub Mirrors : found.Inner → List Inner → Type 0
Mirrors no_inner [] = Unit {0}
Mirrors no_inner (f ∷ fs) = ⊥
Mirrors (more_inner start end kind name braced simple inner rest) [] = ⊥
Mirrors (more_inner start end kind name braced simple inner rest) (f ∷ fs) =
    (outline_of f ≡ record { start = start; end = end; kind = kind; name = name; braced = braced; simple = simple })
    × ProperFunction whole f.func × Mirrors inner (outside_body f.kind f.name f.func) × Mirrors rest fs

-- the braced bodies of these functions and of those inside them, in the order of the source, and then these
abbrev pub bodies_before : List Inner → List Stmts → List Stmts
bodies_before [] rest = rest
bodies_before (f ∷ fs) rest = braced.in_function true f.func (bodies_before fs rest)

-- the body in braces of a function of this kind and name, then those of the functions inside it, and then these
abbrev pub own_before : FuncKind → Option Text → Function → List Stmts → List Stmts
own_before kind name (function form start end written ps comma bare (BracedBody items)) rest =
    items ∷ bodies_before (inside_body kind name (function form start end written ps comma bare (BracedBody items))) rest
own_before kind name (function form start end written ps comma bare (ShortBody value)) rest = rest
