-- The functions of a script, at all depths, each of the kind and name that it has where it stands.
use Rattle.std.specs.Prelude.{Contains}
use Rattle.script_grammar.specs.Tree.{Stmts}
use Rattle.scope_analysis.specs.Functions.{Inner, inner_script, inner_function}

pub data IsFunctionOf (items : Stmts) : Inner → Type 0 where
  directly : (f : Inner) → Contains (inner_script items) f → IsFunctionOf items f
  inside : (around f : Inner) → IsFunctionOf items around → Contains (inner_function around.kind around.name around.func) f → IsFunctionOf items f
