use Rattle.std.proofs.Common.{◌∙◌, ap}
use Rattle.script_grammar.specs.declared.token.Token.{Token}
use Rattle.compile_first_pass.proofs.TokenStarts.{starts_none, starts_at}
use Rattle.compile_first_pass.proofs.pass.start_of.Goals as goal

pub returns-in-None : goal.returns-in-None
returns-in-None c = λ get set texts. starts_none get set texts c.args.tokens.now c.args.token c.in-None.ensures.lookup.3

pub returns-in-Some : goal.returns-in-Some
returns-in-Some c = λ get set texts.
    c.start.ensures ∙ ap (λ (t : Token). t.start) c.in-Some.ensures.lookup.1 ∙ starts_at get set texts c.args.tokens.now c.args.token c.in-Some.token.now c.in-Some.ensures.lookup.3.0
