use Rattle.std.proofs.Common.{List, Option, Bor, subst, sym, ◌∙◌, ap}
use Rattle.stencil_data.specs.LinkView.{LinkView}
use Rattle.stencil_data.specs.Fits.{PlaceFits}
use Rattle.stencil_data.specs.LinksOutside.{links_outside}
use Rattle.stencil_data.specs.Resolve.{first_named, innermost_names}
use Rattle.scope_analysis.proofs.Walk.{walking_fits}
use Rattle.scope_analysis.proofs.resolving.resolve.Goals as goal

pub returns-in-Some-innermost_binding-clause-fits : goal.returns-in-Some-innermost_binding-clause-fits
returns-in-Some-innermost_binding-clause-fits c =
    subst PlaceFits (sym c.place_of.ensures)
    (walking_fits c.args.chain.now c.args.name.now (links_outside c.loop-rest.rest) c.loop-rest.hops c.split_innermost.result.0.now (links_outside c.split_innermost.result.1) c.in-Some-innermost_binding.binding.now
    (ap (λ (o : Option (Bor (List LinkView))). links_outside o) c.in-Some.is ∙ c.split_innermost.ensures.all)
    (c.in-Some-innermost_binding.ensures ∙ ap (λ (links : List LinkView). first_named c.args.name.now (innermost_names links)) c.split_innermost.ensures.all)
    c.loop-rest.invariant)
