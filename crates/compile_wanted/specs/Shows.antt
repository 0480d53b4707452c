-- What a stencil shows of a script where these of its functions are wanted. This project's own choice.
use Rattle.std.specs.Prelude.{ℕ, List}
use Rattle.script_grammar.specs.Tree.{Stmts}
use Rattle.stencil_data.specs.MergedView.{MergedView}
use Rattle.stencil_data.specs.Named.{NamedMerged}
use Rattle.stencil_data.specs.StandsFor.{MergedStandsFor}
use Rattle.bytecode_buf.specs.Command.{Command, ShowsCommands}
use Rattle.compile_specs.specs.Shown.{Wanted, IsShown}

-- the stencil stands for what is shown of the script where these functions are wanted
pub record Shows (want : Wanted) (items : Stmts) (end : ℕ) (merged : MergedView) : Type 0 where
  pub named : NamedMerged (List Command)
  pub shown : IsShown want items end named
  pub stands : MergedStandsFor ShowsCommands merged named
