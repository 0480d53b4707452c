-- What the program shows of a text that it compiles: what a command of `stencilc` shows of a file with these bytes.
use Rattle.std.specs.Prelude.{ℕ, List, length}
use Rattle.script_grammar.specs.Tree.{Stmts}
use Rattle.stencil_data.specs.Named.{NamedMerged}
use Rattle.bytecode_buf.specs.Command.{Command}
use Rattle.compile_specs.specs.Shown.{IsShown}
use Rattle.session_words.specs.Asked.{Wanted}
use Rattle.session_specs.specs.Answer.{to_show}
use Rattle.session_specs.specs.Sources.{IsValid}

-- the text is a script without errors, and this is what is shown of it where these functions are wanted
pub record IsShownFor (want : Wanted) (text : List ℕ) (named : NamedMerged (List Command)) : Type 0 where
  pub items : Stmts
  pub count : ℕ
  pub valid : IsValid text items count
  pub shown : IsShown (to_show want) items (length text) named
