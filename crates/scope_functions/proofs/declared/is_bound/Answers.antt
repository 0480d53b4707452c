use Rattle.std.proofs.Common.{bytes_eq, List, [], ◌∷◌, map, refl, sym, ap, ◌∙◌, arith}
use Rattle.script_grammar.specs.declared.tree.Bind.{Bind}
use Rattle.script_grammar.specs.TreeLists as part
use Rattle.script_grammar.specs.TreeLists.{binds_of, stmts_of, clauses_of}
use Rattle.script_grammar.specs.TreeOf.{bind_of}
use Rattle.script_grammar.proofs.PartEquations.{bind_of-fields}
use Rattle.scope_analysis.specs.DeclaredNames.{bound_names}
use Rattle.scope_analysis.specs.Kept.{under}
use Rattle.scope_functions.proofs.OwnUses.{has_either}
use Rattle.scope_functions.proofs.Turns.{turn_found, turn_on, turns_end, one_text}
use Rattle.scope_functions.proofs.declared.is_bound.Goals as goal

pub returns-then-is_atom : goal.returns-then-is_atom
returns-then-is_atom c = λ bodies.
    turn_found (λ (ys : List Bind). bound_names (binds_of (map (bind_of (under c.args.wanted.now.texts.now bodies)) ys))) (λ (x : Bind). (bind_of (under c.args.wanted.now.texts.now bodies) x).name.text ∷ []) c.args.wanted.now.units.now (λ (x : Bind) (xs : List Bind). has_either ((bind_of (under c.args.wanted.now.texts.now bodies) x).name.text ∷ []) (bound_names (binds_of (map (bind_of (under c.args.wanted.now.texts.now bodies)) xs))) c.args.wanted.now.units.now) c.args.binds.now c.loop-bind.bind-index c.bind-item.result c.is_atom.result (omega arith) c.bind-item.is (one_text (bind_of (under c.args.wanted.now.texts.now bodies) c.bind-item.result).name.text c.args.wanted.now.units.now c.is_atom.result (c.is_atom.ensures ∙ ap (λ (p : part.Bind). bytes_eq p.name.text c.args.wanted.now.units.now) (sym (bind_of-fields (under c.args.wanted.now.texts.now bodies) c.bind-item.result)))) (c.loop-bind.invariant bodies) c.if-is_atom.true

pub loop-bind-preserved : goal.loop-bind-preserved
loop-bind-preserved c = λ bodies.
    turn_on (λ (ys : List Bind). bound_names (binds_of (map (bind_of (under c.args.wanted.now.texts.now bodies)) ys))) (λ (x : Bind). (bind_of (under c.args.wanted.now.texts.now bodies) x).name.text ∷ []) c.args.wanted.now.units.now (λ (x : Bind) (xs : List Bind). has_either ((bind_of (under c.args.wanted.now.texts.now bodies) x).name.text ∷ []) (bound_names (binds_of (map (bind_of (under c.args.wanted.now.texts.now bodies)) xs))) c.args.wanted.now.units.now) c.args.binds.now c.loop-bind.bind-index c.bind-item.result c.is_atom.result (omega arith) c.bind-item.is (one_text (bind_of (under c.args.wanted.now.texts.now bodies) c.bind-item.result).name.text c.args.wanted.now.units.now c.is_atom.result (c.is_atom.ensures ∙ ap (λ (p : part.Bind). bytes_eq p.name.text c.args.wanted.now.units.now) (sym (bind_of-fields (under c.args.wanted.now.texts.now bodies) c.bind-item.result)))) (c.loop-bind.invariant bodies) c.if-is_atom.false

pub returns : goal.returns
returns c = λ bodies.
    turns_end (λ (ys : List Bind). bound_names (binds_of (map (bind_of (under c.args.wanted.now.texts.now bodies)) ys))) c.args.wanted.now.units.now refl c.args.binds.now c.loop-bind.bind-index (omega arith) (c.loop-bind.invariant bodies)
