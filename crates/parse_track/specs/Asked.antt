-- The declarations that a search of the code asks for.
use Rattle.std.specs.Prelude.{Bool, true, false, cond, Option, Some, None}
use Rattle.script_grammar.specs.declared.tree.Ident.{Ident}
use Rattle.parse_track.specs.declared.region.Declare.{Declare}
use Rattle.parse_track.specs.declared.names.Asked.{Asked}
use Rattle.parse_track.specs.declared.names.Asked.TheVariants as asked
use Rattle.parse_track.specs.declared.track.Item.{Item}
use Rattle.parse_track.specs.declared.track.Item.TheVariants as item
use Rattle.parse_track.specs.RegionNames.{is_lexical, is_var, is_param, is_catch_param}

abbrev pub asks : Asked → Declare → Bool
asks asked.Lexical how = is_lexical how
asks asked.Var how = is_var how
asks asked.Param how = is_param how
asks asked.Catch how = is_catch_param how
asks asked.All how = true

-- the name that an item declares so
abbrev pub asked_in : Asked → Item → Option Ident
asked_in a (item.Declared how name) = cond (asks a how) (Some name) None
asked_in a (item.Used _) = None
asked_in a (item.Jumped _ _) = None
asked_in a (item.JumpedTo _ _ _) = None
asked_in a (item.Inner _) = None

-- whether an item declares a name
abbrev pub is_declared : Item → Bool
is_declared (item.Declared _ _) = true
is_declared (item.Used _) = false
is_declared (item.Jumped _ _) = false
is_declared (item.JumpedTo _ _ _) = false
is_declared (item.Inner _) = false
