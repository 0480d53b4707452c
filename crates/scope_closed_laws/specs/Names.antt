-- What holds of each name that is declared in what is told.
use Rattle.script_grammar.specs.NameTokens.{IsNotThis}
use Rattle.parse_track.specs.Told.{Declared, Used, Jumped, Told, nothing, leaf, inner}
use Rattle.scope_analysis.specs.DeclaredNames.{Text}

abbrev pub OfEachDeclared : (Text → Type 0) → Told Text → Type 0
OfEachDeclared Holds nothing = Unit {0}
OfEachDeclared Holds (leaf (Declared how name) t) = Holds name.name × OfEachDeclared Holds t
OfEachDeclared Holds (leaf (Used name) t) = OfEachDeclared Holds t
OfEachDeclared Holds (leaf (Jumped word at label) t) = OfEachDeclared Holds t
OfEachDeclared Holds (inner k at i t) = OfEachDeclared Holds i × OfEachDeclared Holds t

-- no declared name is spelled so
abbrev pub DeclaresNoThis : Told Text → Type 0
DeclaresNoThis t = OfEachDeclared IsNotThis t
