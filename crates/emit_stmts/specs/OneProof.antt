-- That the slots of scopes fit has one proof at most.
use Rattle.std.specs.Prelude.{List, [], ◌∷◌}
use Rattle.std.specs.Coded.{×_prop, Unit-prop}
use Rattle.stencil_data.specs.Named.{NamedScope}
use Rattle.scope_analysis.specs.Walked.{ScopesFit}
use Rattle.emit_exprs.specs.OneProof.{NamesFit-prop}

pub ScopesFit-prop : (scopes : List NamedScope) → IsProp (ScopesFit scopes)
ScopesFit-prop [] = Unit-prop
ScopesFit-prop (s ∷ ss) = ×_prop (NamesFit-prop s.bindings) (ScopesFit-prop ss)
