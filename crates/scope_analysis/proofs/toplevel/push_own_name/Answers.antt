use Rattle.std.proofs.Common.{◌++◌, List, Option, map, sym, ◌∙◌, ap}
use Rattle.script_grammar.specs.declared.tree.Ident.{Ident}
use Rattle.script_grammar.specs.Interpretation.{text_of, maybe_named}
use Rattle.script_grammar.specs.TreeOf.{func_of}
use Rattle.script_grammar.proofs.PartEquations.{func_of-fields}
use Rattle.scope_analysis.specs.DeclaredNames.{Text, function_name, name_list}
use Rattle.scope_analysis.proofs.Appending.{nothing_new, one_more}
use Rattle.scope_analysis.proofs.toplevel.push_own_name.Goals as goal

pub returns-in_ok-push-in-Some : goal.returns-in_ok-push-in-Some
returns-in_ok-push-in-Some c = λ i.
    one_more (text_of i) c.args.atoms.now.items c.push.new.self.items c.in-Some.name.atom c.in_ok-push-in-Some.ensures.items
    ∙ ap (λ (l : List Text). map (text_of i) c.args.atoms.now.items ++ l)
    (sym (ap (λ f. name_list (function_name f)) (func_of-fields i c.args.func.now) ∙ ap (λ (name : Option Ident). name_list (maybe_named i name)) c.in-Some.is))

pub returns-in-None : goal.returns-in-None
returns-in-None c = λ i.
    nothing_new (map (text_of i) c.args.atoms.now.items) (name_list (function_name (func_of i c.args.func.now)))
    (sym (ap (λ f. name_list (function_name f)) (func_of-fields i c.args.func.now) ∙ ap (λ (name : Option Ident). name_list (maybe_named i name)) c.in-None.is))
