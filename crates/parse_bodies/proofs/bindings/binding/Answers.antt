use Rattle.std.proofs.Common.{refl}
use Rattle.script_grammar.specs.Tree as tree
use Rattle.script_grammar.specs.TreeLists.{binds_of}
use Rattle.grammar_parser_specs.specs.Stmts.{binding_of}
use Rattle.parse_exprs.proofs.Steps.{then, made}
use Rattle.parse_bodies.proofs.bindings.binding.Goals as goal

pub returns : goal.returns
unfolding binding_of
returns g c = λ i. let a = c.in_ok-binds.ensures i in let b = rw a.2 at (c.in_ok-semi.ensures i) in
    (tree.Binding c.args.decl (binds_of a.0) c.in_ok-semi.semi, c.in_ok-node.ensures i a.0 a.1, refl, then _ (c.in_ok-name.ensures i) (then _ a.3 (made _ b)))
