use Rattle.std.proofs.Common.{◌++◌, map, sym, ◌∙◌, ap}
use Rattle.script_grammar.specs.declared.token.Decl.{Decl}
use Rattle.script_grammar.specs.Interpretation.{text_of, named}
use Rattle.script_grammar.specs.Tree.{BindEach}
use Rattle.scope_analysis.specs.DeclaredNames.{each_var_names}
use Rattle.scope_analysis.proofs.Appending.{nothing_new, one_more}
use Rattle.scope_analysis.proofs.names.push_each_bind.Goals as goal

pub returns-in_ok-push-in-Var : goal.returns-in_ok-push-in-Var
returns-in_ok-push-in-Var c = λ i.
    one_more (text_of i) c.args.atoms.now.items c.push.new.self.items c.args.name.atom c.in_ok-push-in-Var.ensures.items
    ∙ ap (λ (decl : Decl). map (text_of i) c.args.atoms.now.items ++ each_var_names (BindEach decl (named i c.args.name))) (sym c.in-Var.is)

pub returns-in-Let : goal.returns-in-Let
returns-in-Let c = λ i.
    nothing_new (map (text_of i) c.args.atoms.now.items) (each_var_names (BindEach c.args.decl (named i c.args.name)))
    (sym (ap (λ (decl : Decl). each_var_names (BindEach decl (named i c.args.name))) c.in-Let.is))

pub returns-in-Const : goal.returns-in-Const
returns-in-Const c = λ i.
    nothing_new (map (text_of i) c.args.atoms.now.items) (each_var_names (BindEach c.args.decl (named i c.args.name)))
    (sym (ap (λ (decl : Decl). each_var_names (BindEach decl (named i c.args.name))) c.in-Const.is))
