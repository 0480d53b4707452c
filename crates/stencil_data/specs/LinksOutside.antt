-- The links of the chain outside a link, of which there may be none.
use Rattle.std.specs.Prelude.{List, [], Option, Some, None}
use Rattle.std.specs.Borrow.{Bor}
use Rattle.stencil_data.specs.LinkView.{LinkView}

abbrev pub links_outside : Option (Bor (List LinkView)) → List LinkView
links_outside None = []
links_outside (Some outer) = outer.now
