use Rattle.std.proofs.Common.{List, Option, ap, subst, sym, ℕ, ◌++◌, ◌∙◌, ◌≡◌}
use Rattle.script_image.specs.Pieces.{from_script}
use Rattle.session_outside.specs.Sink.{GainsAllOrFront}
use Rattle.session_output.proofs.Texts.{gains_behind}
use Rattle.session_output.specs.Texts.{listed_text}
use Rattle.session_output.specs.declared.text.ListedScript.{ListedScript}
use Rattle.session_output.proofs.writing.write_text.Goals as goal

pub returns-in-Some-clause-took : goal.returns-in-Some-clause-took
returns-in-Some-clause-took g c =
    let listed = from_script c.in-Some.script.listing c.in-Some.script.stencil 0 in
    let whole : c.args.text.now ≡ c.deref.result.now ++ listed =
    sym c.text.view_is ∙ ap (λ (o : Option ListedScript). c.text.inside.head.items ++ listed_text o) c.in-Some.is ∙ ap (λ (head : List ℕ). head ++ listed) (sym c.deref.ensures.value) in
    subst (λ (text : List ℕ). GainsAllOrFront (g.K.Sink.taken c.args.sink.now) (g.K.Sink.taken c.write_listing.new.sink) text c.write_listing.result) (sym whole)
    (gains_behind (g.K.Sink.taken c.args.sink.now) (g.K.Sink.taken c.write_bytes.new.sink) (g.K.Sink.taken c.write_listing.new.sink) c.deref.result.now listed c.write_listing.result c.in-Ok.ensures.took c.write_listing.ensures.took)
