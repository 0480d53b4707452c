use Rattle.std.proofs.Common.{List, ◌∙◌, ◌<◌, suc, length, take, sym, ap, subst}
use Rattle.script_grammar.specs.declared.token.Token.{Token}
use Rattle.script_grammar.specs.Interpretation.{Interpretation}
use Rattle.parse_script.specs.Reading.{under}
use Rattle.parse_script.specs.Tokens.{tokens_in}
use Rattle.parse_script.proofs.ReadLemmas.{read_shown, read_fault, read_on}
use Rattle.parse_script.proofs.reading.read_script.Goals as goal

pub returns-in_err-script : goal.returns-in_err-script
returns-in_err-script g c = λ bodies.
    let file = c.args.file.now in
    let i : Interpretation = under file.texts.items bodies in
    let m = file.brackets in
    read_on g.H.Handler.shows_body i (tokens_in file) c.in_err-script.field-0.0 c.from_residual.result c.from_residual.ensures.1
    (read_fault i file.tokens.items m c.new-source.result file.known.get file.known.set c.requires.last c.new-source.ensures.is (c.new-source.ensures.tokens ∙ ap (take (suc m.stop)) c.deref.ensures.value) c.new-source.ensures.atoms.0 c.new-source.ensures.atoms.1 g.H.Handler.shows_body c.in_err-script.field-0.0 (c.in_err-script.ensures i))

pub returns : goal.returns
returns g c = λ bodies.
    let file = c.args.file.now in
    let i : Interpretation = under file.texts.items bodies in
    let m = file.brackets in
    read_shown i file.tokens.items m c.new-source.result file.known.get file.known.set c.requires.last c.new-source.ensures.is (c.new-source.ensures.tokens ∙ ap (take (suc m.stop)) c.deref.ensures.value) c.new-source.ensures.atoms.0 c.new-source.ensures.atoms.1 g.H.Handler.shows_body c.in_ok-script.script (c.in_ok-script.ensures i)
