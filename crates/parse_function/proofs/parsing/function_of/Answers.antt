use Rattle.std.proofs.Common.{◌∙◌, map}
use Rattle.script_grammar.specs.Lexeme.{lexeme_of}
use Rattle.parse_function.proofs.Cut.{node_is, fault_is, fault_on}
use Rattle.parse_function.proofs.parsing.function_of.Goals as goal

pub returns-in_err-read : goal.returns-in_err-read
returns-in_err-read c = λ i.
    let known = c.args.known in
    let m = c.in_ok-brackets.brackets in
    let tokens = c.args.tokens.now in
    fault_on i (map (lexeme_of known.get known.set i.texts) tokens) c.args.form c.in_err-read.field-0.0 c.from_residual-in_err-read.result c.from_residual-in_err-read.ensures.1
    (fault_is i c.args.form c.requires.no_script tokens m c.new-source.result known.get known.set c.new-source.ensures.is c.new-source.ensures.tokens c.new-source.ensures.atoms.0 c.new-source.ensures.atoms.1 c.start-state.result.place.at c.alone.new.state.place.at c.in_err-read.field-0.0 c.start-state.ensures.at (c.in_err-read.ensures.answer i))

pub returns : goal.returns
returns c = λ i x t.
    let known = c.args.known in
    let m = c.in_ok-brackets.brackets in
    c.in_ok-func.ensures i ∙ node_is i c.args.form c.requires.no_script c.args.tokens.now m c.new-source.result known.get known.set c.new-source.ensures.is c.new-source.ensures.tokens c.new-source.ensures.atoms.0 c.new-source.ensures.atoms.1 c.start-state.result.place.at c.alone.new.state.place.at c.in_ok-read.read c.start-state.ensures.at (c.in_ok-read.ensures.answer i) x t
