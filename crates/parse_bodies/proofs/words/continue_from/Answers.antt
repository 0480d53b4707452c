use Rattle.std.proofs.Common.{refl}
use Rattle.script_grammar.specs.Interpretation.{maybe_named}
use Rattle.script_grammar.specs.Tree as tree
use Rattle.grammar_parser_specs.specs.Stmts.{continue_of}
use Rattle.parse_exprs.proofs.Steps.{then, made}
use Rattle.parse_bodies.proofs.words.continue_from.Goals as goal

pub returns : goal.returns
unfolding continue_of
returns g c = λ i. (tree.Continue c.args.at (maybe_named i c.in_ok-label.label) c.in_ok-semi.semi, c.in_ok-node.ensures i, refl, then _ (c.in_ok-label.ensures i) (made _ (c.in_ok-semi.ensures i)))
