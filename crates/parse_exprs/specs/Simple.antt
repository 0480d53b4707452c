-- Parameters that have neither an initializer nor a rest mark.
use Rattle.std.specs.Prelude.{Bool, is_none, not, ◌&&◌}
use Rattle.script_grammar.specs.declared.node.NodeParam.{NodeParam}

abbrev pub is_plain : {E : Type 0} → NodeParam E → Bool
is_plain p = is_none p.value && not p.rest
