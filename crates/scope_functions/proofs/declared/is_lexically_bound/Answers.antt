use Rattle.std.proofs.Common.{map, sym, ◌∙◌}
use Rattle.script_grammar.specs.TreeLists.{binds_of}
use Rattle.script_grammar.specs.TreeOf.{bind_of}
use Rattle.stencil_data.specs.declared.scopes.BindKind.TheVariants as bind
use Rattle.scope_analysis.specs.DeclaredNames.{bound_names}
use Rattle.scope_analysis.specs.Kept.{under}
use Rattle.scope_functions.proofs.OwnUses.{has_declared}
use Rattle.scope_functions.proofs.declared.is_lexically_bound.Goals as goal

pub returns-in-Let : goal.returns-in-Let
returns-in-Let c = λ bodies.
    rw c.in-Let.is (c.is_bound.ensures bodies ∙ sym (has_declared bind.Let (bound_names (binds_of (map (bind_of (under c.args.wanted.now.texts.now bodies)) c.args.binds.now))) c.args.wanted.now.units.now))

pub returns-in-Const : goal.returns-in-Const
returns-in-Const c = λ bodies.
    rw c.in-Const.is (c.is_bound-in-Const.ensures bodies ∙ sym (has_declared bind.Const (bound_names (binds_of (map (bind_of (under c.args.wanted.now.texts.now bodies)) c.args.binds.now))) c.args.wanted.now.units.now))
