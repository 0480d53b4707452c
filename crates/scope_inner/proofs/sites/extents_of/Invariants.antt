use Rattle.std.proofs.Common.{◌≡◌, ◌++◌, map, drop}
use Rattle.scope_inner.specs.Sites.{extent_at}
use Rattle.scope_inner.proofs.sites.extents_of.Given as goal

abbrev pub invariant-loop-site : goal.invariant-loop-site
invariant-loop-site l = l.extents.items ++ map extent_at (drop l.site-index l.sites) ≡ map extent_at l.sites
