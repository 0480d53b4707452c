-- The scopes that a function has of its own, by their kinds.
use Rattle.std.specs.Prelude.{Bool, true, false}
use Rattle.stencil_data.specs.declared.scopes.ScopeKind.{ScopeKind}
use Rattle.stencil_data.specs.declared.scopes.ScopeKind.TheVariants as scope

-- that of its name
abbrev pub is_of_name : ScopeKind → Bool
is_of_name scope.Global = false
is_of_name scope.Function = false
is_of_name scope.FunctionLexical = false
is_of_name scope.Lexical = false
is_of_name scope.SimpleCatch = false
is_of_name scope.StrictNamedLambda = true
is_of_name scope.FunctionBodyVar = false

-- that of its body's var names
abbrev pub is_of_vars : ScopeKind → Bool
is_of_vars scope.Global = false
is_of_vars scope.Function = false
is_of_vars scope.FunctionLexical = false
is_of_vars scope.Lexical = false
is_of_vars scope.SimpleCatch = false
is_of_vars scope.StrictNamedLambda = false
is_of_vars scope.FunctionBodyVar = true

-- that of the lexical names at the top of its body
abbrev pub is_of_top : ScopeKind → Bool
is_of_top scope.Global = false
is_of_top scope.Function = false
is_of_top scope.FunctionLexical = true
is_of_top scope.Lexical = false
is_of_top scope.SimpleCatch = false
is_of_top scope.StrictNamedLambda = false
is_of_top scope.FunctionBodyVar = false
