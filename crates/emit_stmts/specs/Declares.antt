-- Whether something is declared.
use Rattle.std.specs.Prelude.{Bool, true, false, List, [], ◌∷◌}
use Rattle.scope_analysis.specs.DeclaredNames.{Declaration}

abbrev pub declares : List Declaration → Bool
declares [] = false
declares (d ∷ ds) = true
