use Rattle.std.proofs.Common.{◌≡◌, ℕ, List, Option, Some, None, ap, sym, ◌∙◌, slice_get, length}
use Rattle.std.proofs.lemmas.Bool.{false≢true}
use Rattle.stencil_xdr_write.specs.Named.{NumberingView}
use Rattle.stencil_xdr_write.specs.Numbers.{place_of}
use Rattle.stencil_xdr_write.proofs.Handing.{at_last}
use Rattle.stencil_xdr_write.proofs.Naming.{atom_known, atom_named}
use Rattle.stencil_xdr_write.proofs.numbering.NumberingSink.atom.Goals as goal

pub returns-then-unnamed : goal.returns-then-unnamed
returns-then-unnamed c =
    let none : slice_get c.args.self.now.table c.place_of-place.result ≡ Some None =
    sym (ap (λ (n : NumberingView). slice_get n.table c.place_of-place.result) c.self.view_is) ∙ (ap (λ (t : List (Option ℕ)). slice_get t c.place_of-place.result) (sym c.deref.ensures.value) ∙ c.is_unnamed-unnamed.ensures.0 c.if-unnamed.true) in
    at_last c.name.result c.name.ensures (λ h. atom_named c.args.self.now c.name.new.self c.place_of-place.result c.args.atom (c.place_of-place.ensures ∙ ap (λ (n : NumberingView). place_of (length n.texts) c.args.atom) c.self.view_is) none h)

pub returns-else-unnamed : goal.returns-else-unnamed
returns-else-unnamed c = atom_known c.args.self.now c.place_of-place.result c.args.atom (c.place_of-place.ensures ∙ ap (λ (n : NumberingView). place_of (length n.texts) c.args.atom) c.self.view_is) (λ e. false≢true (sym c.if-unnamed.false ∙ c.is_unnamed-unnamed.ensures.1
    (ap (λ (t : List (Option ℕ)). slice_get t c.place_of-place.result) c.deref.ensures.value ∙ (ap (λ (n : NumberingView). slice_get n.table c.place_of-place.result) c.self.view_is ∙ e))))
