use Rattle.std.proofs.Common.{◌++◌, List, map, append-nil, drop_of_length-le, sym, ◌∙◌, ap}
use Rattle.scope_inner.specs.declared.sites.FunctionSite.{FunctionSite}
use Rattle.scope_inner.specs.Sites.{extent_at}
use Rattle.scope_inner.proofs.Extents.{extents_are}
use Rattle.scope_inner.proofs.sites.extents_of.Goals as goal

pub returns-clause-inner : goal.returns-clause-inner
returns-clause-inner c = extents_are c.args.sites.now (sym (append-nil c.loop-site.extents.items) ∙ (sym (ap (λ (l : List FunctionSite). c.loop-site.extents.items ++ map extent_at l) (drop_of_length-le c.args.sites.now c.loop-site-test.false)) ∙ c.loop-site.invariant))
