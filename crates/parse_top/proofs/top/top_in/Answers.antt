use Rattle.std.proofs.Common.{List, Ok, Err, ◌∙◌, ◌<◌, suc, length, take, sym, ap, subst}
use Rattle.script_grammar.specs.declared.token.Token.{Token}
use Rattle.script_grammar.specs.Interpretation.{Interpretation}
use Rattle.parse_script.specs.Reading.{under}
use Rattle.parse_script.specs.Tokens.{tokens_in}
use Rattle.parse_top.proofs.TopLaws.{top_of_all, top_on}
use Rattle.parse_top.proofs.top.top_in.Goals as goal

pub returns-in_err-top : goal.returns-in_err-top
returns-in_err-top g c = λ bodies.
    let file = c.args.file.now in
    let i : Interpretation = under file.texts.items bodies in
    let m = file.brackets in
    top_on g.H.Handler.shows_body i (tokens_in file) c.in_err-top.field-0.0 c.from_residual.result c.from_residual.ensures.1
    (top_of_all i file.tokens.items m c.new-source.result file.known.get file.known.set c.new-source.ensures.is (c.new-source.ensures.tokens ∙ ap (take (suc m.stop)) c.deref.ensures.value) c.new-source.ensures.atoms.0 c.new-source.ensures.atoms.1 g.H.Handler.shows_body (Err c.in_err-top.field-0.0) (c.in_err-top.ensures i))

pub returns : goal.returns
returns g c = λ bodies.
    let file = c.args.file.now in
    let i : Interpretation = under file.texts.items bodies in
    let m = file.brackets in
    top_of_all i file.tokens.items m c.new-source.result file.known.get file.known.set c.new-source.ensures.is (c.new-source.ensures.tokens ∙ ap (take (suc m.stop)) c.deref.ensures.value) c.new-source.ensures.atoms.0 c.new-source.ensures.atoms.1 g.H.Handler.shows_body (Ok c.in_ok-top.top) (c.in_ok-top.ensures i)
