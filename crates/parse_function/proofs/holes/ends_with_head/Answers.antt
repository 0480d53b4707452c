use Rattle.std.proofs.Common.{ap, eqb-true, subst, sym, ◌∙◌}
use Rattle.script_grammar.specs.Matching.{kinds_of}
use Rattle.script_grammar.specs.declared.token.Token.{Token}
use Rattle.parse_function.specs.Holes.{BeginsWithHead}
use Rattle.parse_function.specs.declared.holes.Beginning.{Beginning}
use Rattle.parse_function.proofs.HoleKinds.{ends_head}
use Rattle.parse_function.proofs.holes.ends_with_head.Goals as goal

pub returns-then-at-tokens : goal.returns-then-at-tokens
returns-then-at-tokens c = λ e.
    let ends = ap (λ (t : Token). t.end) (sym c.index-tokens-at.is) ∙ sym c.end.ensures ∙ eqb-true _ c.args.behind e in
    let begins = subst (λ (b : Beginning). BeginsWithHead (kinds_of c.args.tokens.now) b) c.in-Braced.is c.in_ok-at.ensures in
    ends_head c.args.tokens.now c.in-Braced.at c.args.behind c.index-tokens-at.result begins c.if-at-tokens.true ends
