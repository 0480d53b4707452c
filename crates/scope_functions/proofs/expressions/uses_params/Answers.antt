use Rattle.std.proofs.Common.{◌||◌, List, map, option_map, refl, ap, ◌∙◌, arith}
use Rattle.script_grammar.specs.declared.tree.Param.{Param}
use Rattle.script_grammar.specs.TreeLists as part
use Rattle.script_grammar.specs.TreeLists.{maybe_expr_of, params_of}
use Rattle.script_grammar.specs.TreeOf.{expr_of, param_of}
use Rattle.script_grammar.proofs.PartEquations.{param_of-fields}
use Rattle.scope_analysis.specs.DeclaredNames.{has_text}
use Rattle.scope_analysis.specs.Kept.{under}
use Rattle.scope_analysis.specs.Uses.{uses_maybe, uses_params}
use Rattle.scope_functions.proofs.OwnUses.{has_either}
use Rattle.scope_functions.proofs.Turns.{turn_found, turn_on, turns_end}
use Rattle.scope_functions.proofs.expressions.uses_params.Goals as goal

pub returns-then-uses_maybe : goal.returns-then-uses_maybe
returns-then-uses_maybe c = λ bodies.
    turn_found (λ (ys : List Param). (uses_params (params_of (map (param_of (under c.args.wanted.now.texts.now bodies)) ys))).own) (λ (x : Param). (uses_maybe (maybe_expr_of (option_map (expr_of (under c.args.wanted.now.texts.now bodies)) x.value))).own) c.args.wanted.now.units.now (λ (x : Param) (xs : List Param). has_either (uses_maybe (maybe_expr_of (param_of (under c.args.wanted.now.texts.now bodies) x).value)).own (uses_params (params_of (map (param_of (under c.args.wanted.now.texts.now bodies)) xs))).own c.args.wanted.now.units.now ∙ ap (λ (p : part.Param). has_text (uses_maybe (maybe_expr_of p.value)).own c.args.wanted.now.units.now || has_text (uses_params (params_of (map (param_of (under c.args.wanted.now.texts.now bodies)) xs))).own c.args.wanted.now.units.now) (param_of-fields (under c.args.wanted.now.texts.now bodies) x)) c.args.params.now c.loop-param.param-index c.param-item.result c.uses_maybe.result (omega arith) c.param-item.is (c.uses_maybe.ensures bodies) (c.loop-param.invariant bodies) c.if-uses_maybe.true

pub loop-param-preserved : goal.loop-param-preserved
loop-param-preserved c = λ bodies.
    turn_on (λ (ys : List Param). (uses_params (params_of (map (param_of (under c.args.wanted.now.texts.now bodies)) ys))).own) (λ (x : Param). (uses_maybe (maybe_expr_of (option_map (expr_of (under c.args.wanted.now.texts.now bodies)) x.value))).own) c.args.wanted.now.units.now (λ (x : Param) (xs : List Param). has_either (uses_maybe (maybe_expr_of (param_of (under c.args.wanted.now.texts.now bodies) x).value)).own (uses_params (params_of (map (param_of (under c.args.wanted.now.texts.now bodies)) xs))).own c.args.wanted.now.units.now ∙ ap (λ (p : part.Param). has_text (uses_maybe (maybe_expr_of p.value)).own c.args.wanted.now.units.now || has_text (uses_params (params_of (map (param_of (under c.args.wanted.now.texts.now bodies)) xs))).own c.args.wanted.now.units.now) (param_of-fields (under c.args.wanted.now.texts.now bodies) x)) c.args.params.now c.loop-param.param-index c.param-item.result c.uses_maybe.result (omega arith) c.param-item.is (c.uses_maybe.ensures bodies) (c.loop-param.invariant bodies) c.if-uses_maybe.false

pub returns : goal.returns
returns c = λ bodies.
    turns_end (λ (ys : List Param). (uses_params (params_of (map (param_of (under c.args.wanted.now.texts.now bodies)) ys))).own) c.args.wanted.now.units.now refl c.args.params.now c.loop-param.param-index (omega arith) (c.loop-param.invariant bodies)
