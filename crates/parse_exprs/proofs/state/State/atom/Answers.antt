use Rattle.parse_exprs.proofs.TokenTexts.{atom_text}
use Rattle.parse_exprs.specs.Source.{has_atom}
use Rattle.grammar_parser_specs.specs.Exprs.{atom_case}
use Rattle.script_grammar.specs.Interpretation.{text_of}
use Rattle.script_grammar.specs.Lexeme.{lexeme_of}
use Rattle.script_grammar.specs.TreeLists.{parts_of}
use Rattle.std.proofs.Common.{[], ◌∙◌, sym, ap, subst}
use Rattle.script_grammar.specs.Tree as model
use Rattle.parse_exprs.proofs.state.State.atom.Goals as goal

pub returns-in-Word-clause-makes : goal.returns-in-Word-clause-makes
returns-in-Word-clause-makes g c = λ i get set. rw c.in-Word.is (c.word_atom.ensures.makes i)

pub returns-in_ok-make_template-in-TemplateWhole-clause-makes : goal.returns-in_ok-make_template-in-TemplateWhole-clause-makes
returns-in_ok-make_template-in-TemplateWhole-clause-makes g c = λ i get set.
    let text = atom_text get set i c.args.token (ap has_atom c.in-TemplateWhole.is) in
    let made = c.in_ok-make_template-in-TemplateWhole.ensures i [] (rw c.new.ensures.items tt) in
    subst (λ k. g.H.Handler.shows_expr i c.in_ok-make_template-in-TemplateWhole.field-0 (atom_case k (lexeme_of get set i.texts c.args.token))) (sym c.in-TemplateWhole.is)
    (subst (λ x. g.H.Handler.shows_expr i c.in_ok-make_template-in-TemplateWhole.field-0 (model.Template c.args.token.start x (parts_of []))) (ap (text_of i) c.atom-in-TemplateWhole.ensures.value ∙ sym text) made)
