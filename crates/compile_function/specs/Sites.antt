-- Functions of a script, each where it stands.
use Rattle.script_grammar.specs.Tree.{Stmts}
use Rattle.scope_closed_laws.specs.Sites.{IsFunctionOf}
use Rattle.emit_limit_laws.specs.Limits.{FunctionStands}
use Rattle.compile_specs.specs.Eager.{Site}

-- a function of the script at any depth, which stands well under the chain that it gets
pub record IsFunctionAt (items : Stmts) (m : Site) : Type 0 where
  pub of : IsFunctionOf items m.inner
  pub stands : FunctionStands m.inner.func m.chain
