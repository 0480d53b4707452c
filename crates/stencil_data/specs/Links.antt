-- The links of a chain outside its innermost one.
use Rattle.std.specs.Prelude.{List, [], Option, Some, None}
use Rattle.std.specs.Arc.{arc_value}
use Rattle.std.specs.declared.sync.Arc.{Arc}
use Rattle.std.specs.declared.alloc.Global.{Global}
use Rattle.stencil_data.specs.LinkView.{LinkView}

abbrev pub outer_links : Option (Arc (List LinkView) Global) → List LinkView
outer_links None = []
outer_links (Some chain) = arc_value chain
