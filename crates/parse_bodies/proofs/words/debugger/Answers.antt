use Rattle.std.proofs.Common.{refl}
use Rattle.script_grammar.specs.Tree as tree
use Rattle.grammar_parser_specs.specs.Stmts.{debugger_of}
use Rattle.parse_exprs.proofs.Steps.{made}
use Rattle.parse_bodies.proofs.words.debugger.Goals as goal

pub returns : goal.returns
unfolding debugger_of
returns g c = λ i. (tree.Debugger c.in_ok-semi.semi, c.in_ok-node.ensures i, refl, made _ (c.in_ok-semi.ensures i))
