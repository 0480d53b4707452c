use Rattle.stencil.proofs.scripts.Lazy.+function.Given as goal

abbrev pub decreases-function : goal.decreases-function
decreases-function l = l.number
