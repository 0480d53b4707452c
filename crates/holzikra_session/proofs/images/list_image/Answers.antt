-- What was found in the bytes, in the arm for it.
use Rattle.std.proofs.Common.{◌∙◌, inl, inr, subst}
use Rattle.script_image.specs.ScriptLines.{listed_merged}
use Rattle.holzikra_scripts.specs.Images.{IsImageCode, IsLoaded, IsLoadedBack}
use Rattle.holzikra_session.proofs.ImageLemmas.{code_of_image, or_true}
use Rattle.holzikra_session.proofs.images.list_image.Goals as goal

pub returns-in-Some-clause-listed : goal.returns-in-Some-clause-listed
returns-in-Some-clause-listed c =
    let is = subst (λ found. IsLoaded c.args.image.now (λ named out. IsImageCode c.args.format c.args.name.now c.args.image.now named out.items) found) c.in-Some.is c.in_ok-found.ensures.listed in
    inl (record { is = is; refused = c.count_script.ensures.refused; failed = c.count_script.ensures.failed })

pub returns-in-Some-clause-saved : goal.returns-in-Some-clause-saved
returns-in-Some-clause-saved c = λ named has.
    let is = subst (λ found. IsLoadedBack c.args.image.now (λ named out. IsImageCode c.args.format c.args.name.now c.args.image.now named out.items) found) c.in-Some.is c.in_ok-found.ensures.saved in
    code_of_image c.args.format c.args.name.now c.args.image.now c.in-Some.lines.items (listed_merged named) (is named has)

pub returns-in_ok-line-in-None-clause-listed : goal.returns-in_ok-line-in-None-clause-listed
returns-in_ok-line-in-None-clause-listed c =
    let is = subst (λ found. IsLoaded c.args.image.now (λ named out. IsImageCode c.args.format c.args.name.now c.args.image.now named out.items) found) c.in-None.is c.in_ok-found.ensures.listed in
    inr (record { is = is; refused = c.count_image.ensures.refused ∙ or_true c.args.tally.now.refused; failed = c.count_image.ensures.failed })

pub returns-in_ok-line-in-None-clause-saved : goal.returns-in_ok-line-in-None-clause-saved
returns-in_ok-line-in-None-clause-saved c = λ named has.
    let none = subst (λ found. IsLoadedBack c.args.image.now (λ named out. IsImageCode c.args.format c.args.name.now c.args.image.now named out.items) found) c.in-None.is c.in_ok-found.ensures.saved in
    absurd (none named has)
