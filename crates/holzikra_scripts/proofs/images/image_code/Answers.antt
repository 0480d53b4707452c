-- What was saved of a script is one of the values that the bytes are the image of.
use Rattle.script_image.specs.ScriptLines.{listed_merged}
use Rattle.holzikra_scripts.proofs.ImageLemmas.{listed_of, image_as_listed}
use Rattle.holzikra_scripts.proofs.images.image_code.Goals as goal

pub returns-in_ok-lines-in-Ok-clause-saved : goal.returns-in_ok-lines-in-Ok-clause-saved
returns-in_ok-lines-in-Ok-clause-saved c = λ named has.
    let bytes = c.args.bytes.now in
    listed_of c.args.format c.args.name.now bytes c.in_ok-lines-in-Ok.lines.items c.in-Ok.stencil c.in-Ok.ensures.value c.in_ok-lines-in-Ok.ensures
    (listed_merged named) (image_as_listed bytes named has)
