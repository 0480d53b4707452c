use Rattle.std.proofs.Common.{List, subst, arith}
use Rattle.script_grammar.specs.declared.token.Token.{Token}
use Rattle.script_scanner.specs.Tokens.{tokens}
use Rattle.unit_text.specs.Points.{points}
use Rattle.parse_function.specs.Holes.{AreTokensOf, EndsWithHead}
use Rattle.parse_function.proofs.HoleHeads.{lexed_head}
use Rattle.parse_function.proofs.holes.hole_after.Goals as goal

pub returns-then-found : goal.returns-then-found
returns-then-found c =
    let inner = c.args.inner in
    let behind = c.args.behind in
    let made : AreTokensOf c.args.file.now inner.start behind c.in-Some.tokens.items = rw c.in-Some.is at c.in_ok-tokens.ensures.tokens in
    let ends : EndsWithHead c.in-Some.tokens.items behind = subst (λ (ts : List Token). EndsWithHead ts behind) c.deref.ensures.value (c.in_ok-found.ensures c.if-found.true) in
    let l = lexed_head made.texts c.in-Some.tokens.items (tokens (points c.args.file.now) inner.start behind) behind made.stand made.one ends in
    let not_first = c.if-inner-eq0.false in
    let low = c.if-behind-inner.false in
    let high = c.if-inner-behind.false in
    record {
      above = omega (arith, not_first);
      behind = omega (arith, low);
      within = high;
      utf8 = made.utf8;
      front = l.front;
      opener = l.opener;
      last = l.last;
      are = l.are;
      head = l.head;
      opens = l.opens;
      ends = l.ends;
      closes = omega (arith, low, high);
    }
