use Rattle.std.proofs.Common.{◌++◌, List, Option, sym, ◌∙◌, ap}
use Rattle.stencil_data.specs.declared.scopes.BindKind.TheVariants as bind_kind
use Rattle.script_grammar.specs.declared.tree.Ident.{Ident}
use Rattle.script_grammar.specs.Interpretation.{maybe_named}
use Rattle.script_grammar.specs.TreeOf.{func_of}
use Rattle.script_grammar.proofs.PartEquations.{func_of-fields}
use Rattle.scope_analysis.specs.DeclaredNames.{Declaration, declarations, function_name, name_list}
use Rattle.scope_analysis.specs.Kept.{declaration_of, declarations_in}
use Rattle.scope_analysis.proofs.Appending.{nothing_new, one_more}
use Rattle.scope_analysis.proofs.names.push_function_name.Goals as goal

pub returns-in_ok-push-in-Some : goal.returns-in_ok-push-in-Some
returns-in_ok-push-in-Some c = λ i.
    one_more (declaration_of i.texts) c.args.names.now.items c.push.new.self.items (record { atom = c.in-Some.name.atom; kind = bind_kind.Function })
    c.in_ok-push-in-Some.ensures.items
    ∙ ap (λ (l : List Declaration). declarations_in i c.args.names.now.items ++ l)
    (sym (ap (λ f. declarations bind_kind.Function (name_list (function_name f))) (func_of-fields i c.args.func.now)
    ∙ ap (λ (name : Option Ident). declarations bind_kind.Function (name_list (maybe_named i name))) c.in-Some.is))

pub returns-in-None : goal.returns-in-None
returns-in-None c = λ i.
    nothing_new (declarations_in i c.args.names.now.items) (declarations bind_kind.Function (name_list (function_name (func_of i c.args.func.now))))
    (sym (ap (λ f. declarations bind_kind.Function (name_list (function_name f))) (func_of-fields i c.args.func.now)
    ∙ ap (λ (name : Option Ident). declarations bind_kind.Function (name_list (maybe_named i name))) c.in-None.is))
