use Rattle.std.proofs.Common.{◌||◌, List, map, option_map, refl, ap, ◌∙◌, arith}
use Rattle.script_grammar.specs.declared.tree.Bind.{Bind}
use Rattle.script_grammar.specs.TreeLists as part
use Rattle.script_grammar.specs.TreeLists.{maybe_expr_of, binds_of}
use Rattle.script_grammar.specs.TreeOf.{expr_of, bind_of}
use Rattle.script_grammar.proofs.PartEquations.{bind_of-fields}
use Rattle.scope_analysis.specs.DeclaredNames.{has_text}
use Rattle.scope_analysis.specs.Kept.{under}
use Rattle.scope_analysis.specs.Uses.{uses_maybe, uses_binds}
use Rattle.scope_functions.proofs.OwnUses.{has_either}
use Rattle.scope_functions.proofs.Turns.{turn_found, turn_on, turns_end}
use Rattle.scope_functions.proofs.expressions.uses_binds.Goals as goal

pub returns-then-uses_maybe : goal.returns-then-uses_maybe
returns-then-uses_maybe c = λ bodies.
    turn_found (λ (ys : List Bind). (uses_binds (binds_of (map (bind_of (under c.args.wanted.now.texts.now bodies)) ys))).own) (λ (x : Bind). (uses_maybe (maybe_expr_of (option_map (expr_of (under c.args.wanted.now.texts.now bodies)) x.value))).own) c.args.wanted.now.units.now (λ (x : Bind) (xs : List Bind). has_either (uses_maybe (maybe_expr_of (bind_of (under c.args.wanted.now.texts.now bodies) x).value)).own (uses_binds (binds_of (map (bind_of (under c.args.wanted.now.texts.now bodies)) xs))).own c.args.wanted.now.units.now ∙ ap (λ (p : part.Bind). has_text (uses_maybe (maybe_expr_of p.value)).own c.args.wanted.now.units.now || has_text (uses_binds (binds_of (map (bind_of (under c.args.wanted.now.texts.now bodies)) xs))).own c.args.wanted.now.units.now) (bind_of-fields (under c.args.wanted.now.texts.now bodies) x)) c.args.binds.now c.loop-bind.bind-index c.bind-item.result c.uses_maybe.result (omega arith) c.bind-item.is (c.uses_maybe.ensures bodies) (c.loop-bind.invariant bodies) c.if-uses_maybe.true

pub loop-bind-preserved : goal.loop-bind-preserved
loop-bind-preserved c = λ bodies.
    turn_on (λ (ys : List Bind). (uses_binds (binds_of (map (bind_of (under c.args.wanted.now.texts.now bodies)) ys))).own) (λ (x : Bind). (uses_maybe (maybe_expr_of (option_map (expr_of (under c.args.wanted.now.texts.now bodies)) x.value))).own) c.args.wanted.now.units.now (λ (x : Bind) (xs : List Bind). has_either (uses_maybe (maybe_expr_of (bind_of (under c.args.wanted.now.texts.now bodies) x).value)).own (uses_binds (binds_of (map (bind_of (under c.args.wanted.now.texts.now bodies)) xs))).own c.args.wanted.now.units.now ∙ ap (λ (p : part.Bind). has_text (uses_maybe (maybe_expr_of p.value)).own c.args.wanted.now.units.now || has_text (uses_binds (binds_of (map (bind_of (under c.args.wanted.now.texts.now bodies)) xs))).own c.args.wanted.now.units.now) (bind_of-fields (under c.args.wanted.now.texts.now bodies) x)) c.args.binds.now c.loop-bind.bind-index c.bind-item.result c.uses_maybe.result (omega arith) c.bind-item.is (c.uses_maybe.ensures bodies) (c.loop-bind.invariant bodies) c.if-uses_maybe.false

pub returns : goal.returns
returns c = λ bodies.
    turns_end (λ (ys : List Bind). (uses_binds (binds_of (map (bind_of (under c.args.wanted.now.texts.now bodies)) ys))).own) c.args.wanted.now.units.now refl c.args.binds.now c.loop-bind.bind-index (omega arith) (c.loop-bind.invariant bodies)
