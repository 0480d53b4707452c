use Rattle.std.proofs.Common.{◌≡◌, sym, subst}
use Rattle.script_grammar.specs.Lexeme.{lexeme_of}
use Rattle.script_grammar.specs.declared.token.Token.{Token}
use Rattle.grammar_parser_specs.specs.Parser.{head_of}
use Rattle.parse_exprs.specs.Source.{HasAtom, front}
use Rattle.parse_exprs.proofs.Fronts.{head_at, head_end}
use Rattle.parse_exprs.proofs.source.Source.token.Goals as goal

pub returns-then-at-self-clause-lexeme : goal.returns-then-at-self-clause-lexeme
returns-then-at-self-clause-lexeme c = λ i.
    subst (λ (t : Token). lexeme_of c.args.self.now.get c.args.self.now.set i.texts t ≡ head_of (front c.args.self.now i c.args.at))
    (sym c.get.ensures) (head_at c.args.self.now i c.args.at _ c.if-at-self.true)

pub returns-then-at-self-clause-atom : goal.returns-then-at-self-clause-atom
returns-then-at-self-clause-atom c = subst HasAtom (sym c.get.ensures) (c.requires.atoms c.args.at _ c.if-at-self.true)

pub returns-else-at-self-clause-lexeme : goal.returns-else-at-self-clause-lexeme
returns-else-at-self-clause-lexeme c = λ i. head_end c.args.self.now i c.args.at c.if-at-self.false
