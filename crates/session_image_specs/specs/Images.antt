-- What a file is that is taken as an image, and what is written of it.
use Rattle.std.specs.Prelude.{◌≡◌, ℕ, ◌+◌, Bool, true, false, ◌||◌, List, [], ◌∷◌, ◌++◌, codes}
use Rattle.std.specs.Fmt.{decimal}
use Rattle.stencil_data.specs.declared.stencils.Entry.{Entry}
use Rattle.stencil_data.specs.declared.stencils.Entry.TheVariants as entry
use Rattle.stencil_data.specs.declared.stencils.TryNote.{TryNote}
use Rattle.stencil_data.specs.MergedView.{MergedView}
use Rattle.stencil_data.specs.Named.{NamedMerged}
use Rattle.stencil_data.specs.StandsFor.{MergedStandsFor}
use Rattle.bytecode_buf.specs.Command.{Command, Listed, ShowsCommands}
use Rattle.script_image.specs.Listed.{ShowsListed}
use Rattle.stencil_xdr_specs.specs.Image.{IsImageOf}
use Rattle.bytecode_buf.specs.Verdicts.{Soundness, Sound, Unsound, IsVerified}

-- the image of a script: the bytes of a stencil in range that stands for it
pub record IsImage (merged : NamedMerged (List Command)) (bytes : List ℕ) : Type 0 where
  pub stencil : MergedView
  pub stands : MergedStandsFor ShowsCommands stencil merged
  pub is : IsImageOf stencil bytes

-- the bytes are the image of a stencil that stands for these scripts
pub record IsImageFor (bytes : List ℕ) (merged : NamedMerged (List Listed)) : Type 0 where
  pub stencil : MergedView
  pub is : IsImageOf stencil bytes
  pub stands : MergedStandsFor ShowsListed stencil merged

abbrev pub IsNoImage : List ℕ → Type 0
IsNoImage bytes = (stencil : MergedView) → IsImageOf stencil bytes → ⊥

-- ---- the code of scripts, verified

abbrev pub soundness_text : Soundness → List ℕ
soundness_text (Sound depth) = codes "sound depth " ++ decimal depth
soundness_text Unsound = codes "unsound"

abbrev pub verified_line : ℕ → Soundness → List ℕ
verified_line number s = codes "script " ++ decimal number ++ codes " " ++ soundness_text s ++ codes "\n"

abbrev pub is_unsound : Soundness → Bool
is_unsound (Sound depth) = false
is_unsound Unsound = true

-- the line of one script, what is written after it, and whether any of them is unsound
abbrev pub IsVerifiedBefore : ℕ → List ℕ → List TryNote → List ℕ → Bool → (List ℕ → Bool → Type 0) → Type 0
IsVerifiedBefore number code notes out unsound Rest =
    (s : Soundness) × (later : List ℕ) × (later_unsound : Bool) × IsVerified code notes s
    × (out ≡ verified_line number s ++ later) × (unsound ≡ (is_unsound s || later_unsound)) × Rest later later_unsound

-- the lines of the compiled functions from a number on
abbrev pub AreVerified : ℕ → List Entry → List ℕ → Bool → Type 0
AreVerified number [] out unsound = (out ≡ []) × (unsound ≡ false)
AreVerified number (entry.Lazy ∷ rest) out unsound = AreVerified (number + 1) rest out unsound
AreVerified number (entry.Compiled f ∷ rest) out unsound = IsVerifiedBefore number f.code f.notes out unsound
    (λ later u. AreVerified (number + 1) rest later u)

-- the lines of all scripts of an image
pub record AreVerifiedLines (bytes : List ℕ) (out : List ℕ) (unsound : Bool) : Type 0 where
  pub stencil : MergedView
  pub is : IsImageOf stencil bytes
  pub lines : IsVerifiedBefore 0 stencil.top.code stencil.top.notes out unsound (λ later u. AreVerified 1 stencil.entries later u)
