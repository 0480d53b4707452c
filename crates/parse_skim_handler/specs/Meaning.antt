-- What a part of a script means to a first pass.
use Rattle.std.specs.Prelude.{ℕ, Option, Some, None, List, [], ◌∷◌}
use Rattle.script_grammar.specs.declared.tree.Ident.{Ident}
use Rattle.script_grammar.specs.Interpretation.{Interpretation}
use Rattle.parse_track.specs.declared.region.Declare.{Declare}
use Rattle.parse_track.specs.declared.region.Early.{Early}
use Rattle.parse_track.specs.EarlyErrors.{sooner}
use Rattle.parse_track.specs.Tells.{Text}
use Rattle.parse_track.specs.Told as told
use Rattle.parse_handlers.specs.Inner.{Inner}
use Rattle.parse_track_pieces.specs.Pieces.{Rest, says_name, says_region}

-- what it says in front of what is said after it, the functions in it in front of those after it, and its first early error of a
-- rule that looks at no region
pub record Meaning : Type 0 where
  pub says : Rest → Rest
  pub puts : Inner → Inner
  pub first : Option Early

abbrev pub nothing_meant : Meaning
nothing_meant = record { says = λ rest. rest; puts = λ inner. inner; first = None }

-- one part and then another
abbrev pub then_meant : Meaning → Meaning → Meaning
then_meant m n = record { says = λ rest. m.says (n.says rest); puts = λ inner. m.puts (n.puts inner); first = sooner m.first n.first }

abbrev pub all_meant : {A : Type 0} → (A → Meaning) → List A → Meaning
all_meant means [] = nothing_meant
all_meant means (a ∷ others) = then_meant (means a) (all_meant means others)

abbrev pub maybe_meant : {A : Type 0} → (A → Meaning) → Option A → Meaning
maybe_meant means None = nothing_meant
maybe_meant means (Some a) = means a

abbrev pub error_meant : Option Early → Meaning
error_meant first = record { says = λ rest. rest; puts = λ inner. inner; first = first }

abbrev pub said_meant : (Rest → Rest) → Meaning
said_meant says = record { says = says; puts = λ inner. inner; first = None }

abbrev pub name_meant : Interpretation → Declare → Ident → Meaning
name_meant i how name = said_meant (says_name i how name)

-- a part in a region of its own
abbrev pub region_meant : told.Region Text → (at : ℕ) → Meaning → Meaning
region_meant kind at m = record { says = says_region kind at m.says; puts = m.puts; first = m.first }
