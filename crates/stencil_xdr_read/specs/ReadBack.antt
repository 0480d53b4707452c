-- What is read of an image: the one value that the image is of, with its texts in the order in which the image has them.
use Rattle.std.specs.Prelude.{◌≡◌, ◌↔◌, ℕ, List}
use Rattle.stencil_data.specs.MergedView.{MergedView}
use Rattle.stencil_data.specs.Named.{NamedMerged}
use Rattle.stencil_data.specs.StandsFor.{MergedStandsFor}
use Rattle.bytecode_buf.specs.Command.{Listed, listed}
use Rattle.stencil_xdr_specs.specs.Image.{items, named, firsts}

-- bytes stand for these instructions
abbrev pub ShowsList : List (List ℕ) → List ℕ → List Listed → Type 0
ShowsList texts code ls = listed texts code ≡ ls

-- two stencils stand for the same values, whatever numbers their texts have
abbrev pub StandAlike : MergedView → MergedView → Type 0
StandAlike m other = (value : NamedMerged (List Listed)) → (MergedStandsFor ShowsList m value ↔ MergedStandsFor ShowsList other value)

-- the texts are those that the items of the image name, each once, in the order in which they name them first
abbrev pub AreTextsInOrder : MergedView → Type 0
AreTextsInOrder m = m.texts ≡ firsts (named m.texts (items m))
