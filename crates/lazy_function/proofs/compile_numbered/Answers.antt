use Rattle.std.proofs.Common.{◌≡◌, ◌∙◌, ◌-◌, ℕ, List, length, map, get_or, Some, refl, sym, ap, subst, arith}
use Rattle.std.specs.Prelude.{slice_get}
use Rattle.std.specs.List.{All}
use Rattle.std.proofs.lemmas.Option.{slice_get_read}
use Rattle.stencil_data.specs.declared.functions.Extent.{Extent}
use Rattle.stencil_data.specs.Views.{InitialView, RecordView}
use Rattle.lazy_compile.specs.Delazified.{all_texts}
use Rattle.lazy_compile.specs.Texts.{AreTextsOf}
use Rattle.compile_lazy_laws.specs.Inside.{IsNumberOf, extents_at}
use Rattle.compile_initial.specs.declared.InitialStencil.{InitialStencil}
use Rattle.lazy_function.specs.Numbered.{IsNumberIn}
use Rattle.lazy_function.proofs.Among.{own_among}
use Rattle.lazy_function.proofs.Numbered.{asked, compiled, numbers_inside}
use Rattle.lazy_function.proofs.compile_numbered.Goals as goal

-- the record of the function
record_at : (made : InitialStencil) (number : ℕ) (lazy : RecordView) → IsNumberIn made number → lazy ≡ get_or made.parts.records (number - 1) lazy → slice_get made.parts.records (number - 1) ≡ Some lazy
record_at made number lazy n is =
    let low = n.0 in
    let high = n.1 in
    slice_get_read made.parts.records (length made.parts.records) (number - 1) lazy refl (omega (arith, low, high)) is

pub extents_inside-requires : goal.extents_inside-requires
extents_inside-requires c =
    let made = c.args.initial.now in
    subst (λ (records : List RecordView). All (IsNumberOf records) c.index-lazy.result.now.inner) (sym (c.deref.ensures.value ∙ ap (λ (p : InitialView). p.records) c.parts.view_is))
    (numbers_inside c.args.bytes.now made c.requires.initial c.args.number c.index-lazy.result.now c.requires.number
    (record_at made c.args.number c.index-lazy.result.now c.requires.number (c.index-lazy.ensures ∙ ap (λ (p : InitialView). get_or p.records (c.args.number - 1) c.index-lazy.result.now) c.parts.view_is)))

pub delazify-requires : goal.delazify-requires
delazify-requires c =
    let made = c.args.initial.now in
    asked c.args.bytes.now made c.requires.initial c.args.number c.index-lazy.result.now c.args.chain.now c.deref-3.result.now c.deref-2.result.now c.requires.number c.requires.chain
    (c.deref-3.ensures.value ∙ ap (λ (p : InitialView). p.texts) c.parts.view_is)
    (ap (map (λ (e : Extent). Some e)) c.deref-2.ensures.value ∙ c.in_ok-inside.ensures ∙ ap (λ (records : List RecordView). extents_at records c.index-lazy.result.now.inner) (c.deref.ensures.value ∙ ap (λ (p : InitialView). p.records) c.parts.view_is))
    (record_at made c.args.number c.index-lazy.result.now c.requires.number (c.index-lazy.ensures ∙ ap (λ (p : InitialView). get_or p.records (c.args.number - 1) c.index-lazy.result.now) c.parts.view_is))

pub returns-clause-compiled : goal.returns-clause-compiled
returns-clause-compiled c =
    let made = c.args.initial.now in
    compiled c.args.bytes.now made c.requires.initial c.args.number c.index-lazy.result.now c.args.chain.now c.deref-3.result.now c.in_ok-made.made c.requires.chain
    (c.deref-3.ensures.value ∙ ap (λ (p : InitialView). p.texts) c.parts.view_is)
    (record_at made c.args.number c.index-lazy.result.now c.requires.number (c.index-lazy.ensures ∙ ap (λ (p : InitialView). get_or p.records (c.args.number - 1) c.index-lazy.result.now) c.parts.view_is)) c.in_ok-made.ensures.compiled

pub returns-clause-texts : goal.returns-clause-texts
returns-clause-texts c =
    own_among c.args.bytes.now c.args.initial.now.parts.texts (all_texts c.in_ok-made.made) c.requires.initial.texts
    (subst (λ (ts : List (List ℕ)). AreTextsOf c.args.bytes.now ts (all_texts c.in_ok-made.made)) (c.deref-3.ensures.value ∙ ap (λ (p : InitialView). p.texts) c.parts.view_is) c.in_ok-made.ensures.texts)
