-- What is written of a stencil is written of what is shown of the text.
use Rattle.std.proofs.Common.{ℕ, List}
use Rattle.stencil_data.specs.MergedView.{MergedView}
use Rattle.stencil_data.specs.Named.{NamedMerged}
use Rattle.stencil_data.specs.StandsFor.{MergedStandsFor}
use Rattle.bytecode_buf.specs.Command.{Command, Listed}
use Rattle.script_image.specs.Listed.{ShowsListed}
use Rattle.script_image.specs.ScriptLines.{listed_merged}
use Rattle.script_image.proofs.Stands.{commands_as_listed}
use Rattle.session_words.specs.Asked.{Wanted}
use Rattle.holzikra_words.specs.declared.functions.FunctionWord.{FunctionWord}
use Rattle.holzikra_scripts.specs.declared.choice.Choice.{Choice}
use Rattle.holzikra_scripts.specs.declared.counts.Row.{Row}
use Rattle.holzikra_session.specs.Compiling.{AreCounts, AreCountsOf, IsScript, IsWritten}

pub written_of :
    (shows : Wanted → List ℕ → NamedMerged (List Command) → Type 0) (words : List FunctionWord) (text : List ℕ) (stencil : MergedView) (chosen : Choice) (Of : Choice → NamedMerged (List Listed) → List ℕ → Type 0) (out : List ℕ)
    → IsScript shows words text stencil chosen
    → ((named : NamedMerged (List Listed)) → MergedStandsFor ShowsListed stencil named → Of chosen named out)
    → IsWritten shows words text Of out
written_of shows words text stencil chosen Of out s f =
    record { named = s.named; chosen = chosen; choice = s.choice; is = s.is; written = f (listed_merged s.named) (commands_as_listed stencil s.named s.stands) }

pub counted_of :
    (shows : Wanted → List ℕ → NamedMerged (List Command) → Type 0) (words : List FunctionWord) (text : List ℕ) (stencil : MergedView) (chosen : Choice) (row : Row)
    → IsScript shows words text stencil chosen → AreCountsOf stencil text row → AreCounts shows words text row
counted_of shows words text stencil chosen row s f = record { stencil = stencil; chosen = chosen; is = s; counts = f }
