-- The functions of a script, at any depth, each where it stands.
use Rattle.std.specs.Prelude.{Contains}
use Rattle.script_grammar.specs.Tree.{Stmts}
use Rattle.scope_analysis.specs.Functions.{Inner, inner_function, inner_script}

pub data IsFunctionIn (items : Stmts) : Inner → Type 0 where
  directly : (i : Inner) → Contains (inner_script items) i → IsFunctionIn items i
  -- directly in another one
  inside : (outer i : Inner) → IsFunctionIn items outer → Contains (inner_function outer.kind outer.name outer.func) i → IsFunctionIn items i
