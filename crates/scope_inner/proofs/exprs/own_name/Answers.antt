use Rattle.std.proofs.Common.{Option, option_map, sym, ◌∙◌, ap}
use Rattle.script_grammar.specs.declared.tree.Ident.{Ident}
use Rattle.script_grammar.specs.Interpretation.{maybe_named}
use Rattle.script_grammar.specs.Tree.{Named, Function}
use Rattle.scope_analysis.specs.DeclaredNames.{function_name}
use Rattle.script_grammar.proofs.PartEquations.{func_of-fields}
use Rattle.scope_inner.proofs.exprs.own_name.Goals as goal

pub returns-in-Some : goal.returns-in-Some
returns-in-Some c i = sym (ap (λ (f : Function). option_map (λ (n : Named). n.text) (function_name f)) (func_of-fields i c.args.func.now) ∙ ap (λ (o : Option Ident). option_map (λ (n : Named). n.text) (maybe_named i o)) c.in-Some.is)

pub returns-in-None : goal.returns-in-None
returns-in-None c i = sym (ap (λ (f : Function). option_map (λ (n : Named). n.text) (function_name f)) (func_of-fields i c.args.func.now) ∙ ap (λ (o : Option Ident). option_map (λ (n : Named). n.text) (maybe_named i o)) c.in-None.is)
