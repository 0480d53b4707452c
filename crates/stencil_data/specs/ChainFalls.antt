-- What lies outside the innermost link of a chain is shorter than the chain.
use Rattle.std.specs.Prelude.{◌≤◌, ◌+◌, suc, length, List, Option, Some, None}
use Rattle.std.proofs.Common.{◌∙◌, lit≤, add-one}
use Rattle.std.proofs.Math.Nat.{le_of_eq, max-zero}
use Rattle.std.specs.declared.sync.Arc.{Arc}
use Rattle.std.specs.declared.alloc.Global.{Global}
use Rattle.std.specs.Arc.{arc_value}
use Rattle.stencil_data.specs.LinkView.{LinkView}
use Rattle.stencil_data.specs.Links.{outer_links}
use Rattle.stencil_data.specs.declared.chains.Chain.TheDeep.{deep-Chain}
use Rattle.stencil_data.specs.declared.chains.Chain.TheInside.{Inside}

pub shorter_outside : (first : Arc LinkView Global) (outer : Option (Arc (List LinkView) Global))
    → let chain : Inside = record { first = first; outer = outer } in deep-Chain chain ≤ suc (length (outer_links outer))
shorter_outside first None = lit≤ tt
shorter_outside first (Some chain) =
    le_of_eq (max-zero _ ∙ max-zero (length (arc_value chain) + 1) ∙ add-one (length (arc_value chain)))
