-- What is answered of images.
use Rattle.std.specs.Prelude.{◌≡◌, ℕ, ◌⊎◌, List}
use Rattle.stencil_data.specs.MergedView.{MergedView}
use Rattle.stencil_data.specs.Named.{NamedMerged}
use Rattle.stencil_data.specs.StandsFor.{MergedStandsFor}
use Rattle.bytecode_buf.specs.Command.{Listed}
use Rattle.script_image.specs.Listed.{ShowsListed}
use Rattle.script_image.specs.ScriptLines as lines
use Rattle.stencil_xdr_specs.specs.Image.{IsImageOf}
use Rattle.session_image_specs.specs.Images.{IsNoImage}
use Rattle.session_words.specs.Asked as asked
use Rattle.stencil_xdr_laws.specs.Written.{IsWrittenOf}
use Rattle.stencil.specs.declared.answers.Refusal.{Refusal}
use Rattle.stencil.specs.declared.verifying.Soundness.{Soundness}
use Rattle.stencil.specs.Answers.{IsRefusedAs}
use Rattle.stencil.specs.Refusals.{refusal_of}
use Rattle.stencil.specs.Stencils.{IsStencilOf}
use Rattle.stencil.specs.Verified.{IsVerdictOf}
use Rattle.stencil_c.specs.declared.answers.StencilAnswer.{StencilAnswer}
use Rattle.stencil_c.specs.Answers.{plain, no_memory, refused, judged}
use Rattle.stencil_c.specs.Room.{IsHandedOut}

-- the image of the script that the text is, compiled whole, is handed out; or the room stays, and the text is refused, or memory is wanting
abbrev pub IsImageFor : List ℕ → List ℕ → List ℕ → StencilAnswer → Type 0
IsImageFor text before after out =
    ((out ≡ no_memory) × (after ≡ before))
    ⊎ (((why : Refusal) × IsRefusedAs asked.All text (refusal_of why) × (out ≡ refused why) × (after ≡ before))
    ⊎ ((stencil : MergedView) × IsStencilOf asked.All text stencil
    × ((bytes : List ℕ) × IsWrittenOf stencil bytes × IsHandedOut bytes before after out)))

-- the verdict on the code of the stencil that this is the image of; or it is no image, or memory is wanting
abbrev pub IsVerifiedFor : List ℕ → StencilAnswer → Type 0
IsVerifiedFor bytes out =
    (out ≡ no_memory)
    ⊎ ((IsNoImage bytes × (out ≡ plain 7))
    ⊎ ((stencil : MergedView) × IsImageOf stencil bytes × ((soundness : Soundness) × IsVerdictOf stencil soundness × (out ≡ judged soundness))))

-- the lines are those of the value that the stencil stands for
abbrev pub AreLinesOf : MergedView → List ℕ → Type 0
AreLinesOf stencil text = (named : NamedMerged (List Listed)) → MergedStandsFor ShowsListed stencil named → text ≡ lines.code_text named

-- the lines of the stencil that this is the image of are handed out; or the room stays, and it is no image, or memory is wanting
abbrev pub IsListedFor : List ℕ → List ℕ → List ℕ → StencilAnswer → Type 0
IsListedFor bytes before after out =
    ((out ≡ no_memory) × (after ≡ before))
    ⊎ ((IsNoImage bytes × (out ≡ plain 7) × (after ≡ before))
    ⊎ ((stencil : MergedView) × IsImageOf stencil bytes × ((text : List ℕ) × AreLinesOf stencil text × IsHandedOut text before after out)))
