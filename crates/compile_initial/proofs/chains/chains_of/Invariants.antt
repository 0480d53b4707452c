use Rattle.std.proofs.Common.{◌≡◌, map}
use Rattle.scope_inner.specs.declared.sites.FunctionSite.{FunctionSite}
use Rattle.compile_initial.proofs.chains.chains_of.Given as goal

abbrev pub invariant-loop-site : goal.invariant-loop-site
invariant-loop-site l = l.chains.items ≡ map (λ (s : FunctionSite). s.chain) l.yielded
