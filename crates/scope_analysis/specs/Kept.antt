-- What the names that the code finds in a kept tree stand for.
use Rattle.std.specs.Prelude.{ℕ, List, [], map}
use Rattle.script_grammar.specs.Interpretation.{Interpretation}
use Rattle.script_grammar.specs.Tree.{Stmt, Stmts, Declared}
use Rattle.stencil_data.specs.StandsFor.{text_at}
use Rattle.scope_analysis.specs.declared.names.DeclaredName.{DeclaredName}
use Rattle.scope_analysis.specs.DeclaredNames.{Text, Declaration, name_list, function_name}

abbrev pub declaration_of : List (List ℕ) → DeclaredName → Declaration
declaration_of texts d = record { text = text_at texts d.atom; kind = d.kind }

abbrev pub declarations_of : List (List ℕ) → List DeclaredName → List Declaration
declarations_of texts ds = map (declaration_of texts) ds

abbrev pub declarations_in : Interpretation → List DeclaredName → List Declaration
declarations_in i ds = declarations_of i.texts ds

-- these texts, and bodies of the functions that were passed over
abbrev pub under : List (List ℕ) → (ℕ → Stmts) → Interpretation
under texts bodies = record { texts = texts; bodies = bodies }

-- the name of a function declaration
abbrev pub declared_name : Stmt → List Text
declared_name (Declared f) = name_list (function_name f)
declared_name _ = []
