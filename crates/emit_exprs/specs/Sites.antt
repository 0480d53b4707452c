-- What a site of the code is in the model.
use Rattle.std.specs.Prelude.{ℕ, List, [], map, slice_index_or}
use Rattle.stencil_data.specs.declared.functions.Extent.{Extent}
use Rattle.bytecode_buf.specs.Pieces.{Code}
use Rattle.bytecode_buf.specs.Emits.{Emits}
use Rattle.emit_exprs.specs.declared.site.Site.{Site}
use Rattle.emit_exprs.specs.Exprs.{Scene}

abbrev pub scene_of : Site → Scene
scene_of s = record { chain = s.chain.now; starts = map (λ (e : Extent). e.start) s.inner.now }

abbrev pub text_in : Site → ℕ → List ℕ
text_in s atom = slice_index_or s.texts.now atom []

-- this code was appended, by the texts of the site
abbrev pub EmitsAt : Site → List ℕ → List ℕ → Code → Type 0
EmitsAt s old new code = Emits s.texts.now old new code
