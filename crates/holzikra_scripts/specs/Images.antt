-- What is listed of an image. The definitions of images are those of session_image_specs.
use Rattle.std.specs.Prelude.{◌≡◌, ℕ, List, ◌++◌, length, codes, Option, Some, None}
use Rattle.stencil_data.specs.MergedView.{MergedView}
use Rattle.stencil_data.specs.Named.{NamedMerged}
use Rattle.bytecode_buf.specs.Command.{Command, Listed}
use Rattle.script_image.specs.ScriptLines.{code_text, listed_merged}
use Rattle.script_image.specs.declared.script_lines.Listing.TheVariants as of
use Rattle.session_image_specs.specs.Images.{IsImage, IsImageFor, IsNoImage}
use Rattle.stencil_xdr_specs.specs.Image.{IsImageOf}
use Rattle.holzikra_words.specs.declared.load.LoadFormat.{LoadFormat}
use Rattle.holzikra_words.specs.declared.load.LoadFormat.TheVariants as load
use Rattle.holzikra_scripts.specs.Notes.{IsScriptLine}
use Rattle.holzikra_scripts.specs.Written.{HasNoted, IsJson, IsNoted, IsPlain}

-- what is found in bytes that are taken as an image: this of each value that they are the image of, and there is one; or nothing, where
-- they are no image
abbrev pub IsLoaded : {A : Type 0} → List ℕ → (NamedMerged (List Listed) → A → Type 0) → Option A → Type 0
IsLoaded bytes Is (Some value) =
    ((stencil : MergedView) × IsImageOf stencil bytes) × ((named : NamedMerged (List Listed)) → IsImageFor bytes named → Is named value)
IsLoaded bytes Is None = IsNoImage bytes

-- the listing of the code of these scripts, as `stencilc load` writes it; that with notes; or the line of its value in JSON, without a source text
abbrev pub IsImageCode : LoadFormat → (name image : List ℕ) → NamedMerged (List Listed) → List ℕ → Type 0
IsImageCode load.Plain name image named out = out ≡ codes "file " ++ name ++ codes "\n" ++ code_text named
IsImageCode load.Human name image named out = HasNoted (code_text named) out
IsImageCode load.Json name image named out = IsScriptLine of.Code name (length image) None named out

-- the same of what a stencil stands for
abbrev pub IsStencilCode : LoadFormat → (name image : List ℕ) → MergedView → List ℕ → Type 0
IsStencilCode load.Plain name image stencil out = IsPlain code_text name stencil out
IsStencilCode load.Human name image stencil out = IsNoted code_text stencil out
IsStencilCode load.Json name image stencil out = IsJson of.Code name (length image) None stencil out

-- what is found in bytes that were saved of a script: this of the script, and never nothing
abbrev pub IsLoadedBack : {A : Type 0} → List ℕ → (NamedMerged (List Listed) → A → Type 0) → Option A → Type 0
IsLoadedBack bytes Is (Some value) = (named : NamedMerged (List Command)) → IsImage named bytes → Is (listed_merged named) value
IsLoadedBack bytes Is None = (named : NamedMerged (List Command)) → IsImage named bytes → ⊥
