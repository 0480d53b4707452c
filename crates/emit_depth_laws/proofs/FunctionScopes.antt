-- Which scopes of a function are those around its parameters and its body.
use Rattle.std.proofs.Common.{◌+◌, List, [], ◌∷◌, refl}
use Rattle.stencil_data.specs.declared.scopes.ScopeKind.{ScopeKind}
use Rattle.stencil_data.specs.declared.scopes.ScopeKind.TheVariants as scope
use Rattle.stencil_data.specs.Named.{NamedScope}
use Rattle.scope_analysis.specs.DeclaredNames.{Text, Declaration}
use Rattle.scope_analysis.specs.Scopes.{Within, scope_and, scope_around, scope_count, outermost}
use Rattle.emit_stmts.specs.Frames.{scope_at}
use Rattle.emit_depth_laws.proofs.LocalNames.{IsScopeOf}

-- the scope of these declarations, where there are some
abbrev pub IsThere : ScopeKind → List Declaration → NamedScope → Type 0
IsThere kind [] s = Unit {0}
IsThere kind (d ∷ ds) s = IsScopeOf kind (d ∷ ds) s

module _ (names : List Declaration) (a b c e : List Text) (content : Within → List NamedScope) where
  -- a function's scopes, by what is declared
  abbrev pub scopes_by : (callee vars lexical : List Declaration) → List NamedScope
  scopes_by callee vars lexical = scope_around scope.StrictNamedLambda callee a (scope_and scope.Function names b (scope_around scope.FunctionBodyVar vars c (scope_around scope.FunctionLexical lexical e content))) outermost

  pub own_at : (callee : List Declaration) (inside : Within → List NamedScope) → IsScopeOf scope.Function names (scope_at (scope_around scope.StrictNamedLambda callee a (scope_and scope.Function names b inside) outermost) (scope_count callee))
  own_at [] inside = record { parent = _; frame = _; inner = b; is = refl }
  own_at (x ∷ xs) inside = record { parent = _; frame = _; inner = b; is = refl }

  pub vars_at : (callee vars lexical : List Declaration) → IsThere scope.FunctionBodyVar vars (scope_at (scopes_by callee vars lexical) (scope_count callee + 1))
  vars_at callee [] lexical = tt
  vars_at [] (v ∷ vs) lexical = record { parent = _; frame = _; inner = c; is = refl }
  vars_at (x ∷ xs) (v ∷ vs) lexical = record { parent = _; frame = _; inner = c; is = refl }

  pub lexical_at : (callee vars lexical : List Declaration) → IsThere scope.FunctionLexical lexical (scope_at (scopes_by callee vars lexical) (scope_count callee + 1 + scope_count vars))
  lexical_at callee vars [] = tt
  lexical_at [] [] (l ∷ ls) = record { parent = _; frame = _; inner = e; is = refl }
  lexical_at [] (v ∷ vs) (l ∷ ls) = record { parent = _; frame = _; inner = e; is = refl }
  lexical_at (x ∷ xs) [] (l ∷ ls) = record { parent = _; frame = _; inner = e; is = refl }
  lexical_at (x ∷ xs) (v ∷ vs) (l ∷ ls) = record { parent = _; frame = _; inner = e; is = refl }
