use Rattle.std.proofs.Common.{◌≡◌, ℕ, List, [], Option, ap, ap₂, subst, ◌∙◌}
use Rattle.std.specs.Prelude.{All}
use Rattle.stencil_data.specs.MergedView.{MergedView}
use Rattle.stencil_xdr_specs.specs.Widths.{TextFits}
use Rattle.stencil_xdr_write.specs.Named.{IsNumbered}
use Rattle.stencil_xdr_write.specs.Numbers.{bytes_with}
use Rattle.stencil_xdr_write.proofs.Written.{if_ok_then, is_listed, is_image, is_script_image}
use Rattle.stencil_xdr_write.proofs.image.numbered_image.Goals as goal

pub returns-clause-listed : goal.returns-clause-listed
returns-clause-listed c =
    let same : c.deref.result.now ≡ c.args.merged.now.texts = c.deref.ensures.value ∙ ap (λ (m : MergedView). m.texts) c.merged.view_is in
    if_ok_then c.write_by.result c.write_by.ensures (λ bytes is.
    is_listed c.args.merged.now bytes.items c.in_ok-numbering.numbering c.hand_stencil.new.sink c.in_ok-hand_stencil.ensures.fit
    (subst (λ (texts : List (List ℕ)). IsNumbered texts [] c.in_ok-numbering.numbering) same c.in_ok-numbering.ensures.none) c.in_ok-hand_stencil.ensures.taken
    (is ∙ ap₂ (λ (texts : List (List ℕ)) (table : List (Option ℕ)). bytes_with texts table c.args.merged.now)
    (c.deref-2.ensures.value ∙ c.into_numbers-texts.ensures.texts) (c.deref-3.ensures.value ∙ c.into_numbers-texts.ensures.table)))

pub returns-clause-image : goal.returns-clause-image
returns-clause-image c =
    let same : c.deref.result.now ≡ c.args.merged.now.texts = c.deref.ensures.value ∙ ap (λ (m : MergedView). m.texts) c.merged.view_is in
    if_ok_then c.write_by.result (returns-clause-listed c) (λ bytes is range.
    is_image c.args.merged.now bytes.items range (subst (All TextFits) same c.in_ok-numbering.ensures.fit) c.in_ok-hand_stencil.ensures.fit is)

pub returns-clause-script : goal.returns-clause-script
returns-clause-script c =
    let same : c.deref.result.now ≡ c.args.merged.now.texts = c.deref.ensures.value ∙ ap (λ (m : MergedView). m.texts) c.merged.view_is in
    if_ok_then c.write_by.result (returns-clause-listed c) (λ bytes is.
    is_script_image c.args.merged.now bytes.items c.requires.few (subst (All TextFits) same c.in_ok-numbering.ensures.fit) c.in_ok-hand_stencil.ensures.fit is)
