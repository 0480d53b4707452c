use Rattle.std.proofs.Common.{◌∙◌, sym, map, eq-eqb}
use Rattle.std.specs.Prelude.{Some}
use Rattle.std.proofs.lemmas.List.{nil_from_length}
use Rattle.script_grammar.specs.declared.token.Kind.TheVariants as kind
use Rattle.unit_text.specs.Points.{code_of}
use Rattle.script_scanner.specs.declared.parts.Ending.TheVariants.{Quote, Template}
use Rattle.script_scanner.specs.Marks.{mark_at}
use Rattle.script_scanner.specs.Numbers.{numeral_at}
use Rattle.script_scanner.specs.Parts.{body_of}
use Rattle.script_scanner.specs.Tokens.{name_piece, number_piece, string_piece, template_piece, mark_piece}
use Rattle.script_scanner.proofs.Lists.{not_equal, behind_first}
use Rattle.script_scanner.proofs.PieceLemmas.{finds_at, finds_none, token_is_name, token_is_number, token_is_string, token_is_template, token_goes_on, token_is_mark}
use Rattle.script_scanner.proofs.pieces.token_at.Goals as goal

pub returns-in-None-clause-value : goal.returns-in-None-clause-value
returns-in-None-clause-value g c = finds_none c.args.in_template (g.T.Source.points c.args.rest) c.args.units.now.items (nil_from_length (g.T.Source.points c.args.rest) c.in-None.ensures.cases)

pub returns-in_ok-found-in-Some-clause-value : goal.returns-in_ok-found-in-Some-clause-value
returns-in_ok-found-in-Some-clause-value g c =
    finds_at c.args.in_template (g.T.Source.points c.args.rest) (g.T.Source.points c.behind-others.result) c.in-Some.first (λ codes. Some (name_piece codes)) _ _ (behind_first (g.T.Source.points c.args.rest) _ (g.T.Source.points c.behind-others.result) c.in-Some.first c.in-Some.ensures.cases.0 c.behind-others.ensures)
    (token_is_name c.args.in_template c.in-Some.first.code (map code_of (g.T.Source.points c.behind-others.result)) (sym c.is_name_start.ensures ∙ c.if-is_name_start.true)) c.in_ok-found-in-Some.ensures.value

pub returns-then-is_digit-clause-value : goal.returns-then-is_digit-clause-value
returns-then-is_digit-clause-value g c =
    finds_at c.args.in_template (g.T.Source.points c.args.rest) (g.T.Source.points c.behind-others.result) c.in-Some.first (λ codes. number_piece (numeral_at codes) codes) _ _ (behind_first (g.T.Source.points c.args.rest) _ (g.T.Source.points c.behind-others.result) c.in-Some.first c.in-Some.ensures.cases.0 c.behind-others.ensures)
    (token_is_number c.args.in_template c.in-Some.first.code (map code_of (g.T.Source.points c.behind-others.result)) (sym c.is_name_start.ensures ∙ c.if-is_name_start.false) (sym c.is_digit.ensures.value ∙ c.if-is_digit.true)) (c.number_piece.ensures.value c.args.units.now.items)

pub returns-in_ok-found-in-Some-2-clause-value : goal.returns-in_ok-found-in-Some-2-clause-value
returns-in_ok-found-in-Some-2-clause-value g c =
    finds_at c.args.in_template (g.T.Source.points c.args.rest) (g.T.Source.points c.behind-others.result) c.in-Some.first (λ codes. string_piece (body_of (Quote c.in-Some.first.code) (map code_of (g.T.Source.points c.behind-others.result)))) _ _ (behind_first (g.T.Source.points c.args.rest) _ (g.T.Source.points c.behind-others.result) c.in-Some.first c.in-Some.ensures.cases.0 c.behind-others.ensures)
    (token_is_string c.args.in_template c.in-Some.first.code (map code_of (g.T.Source.points c.behind-others.result)) (sym c.is_name_start.ensures ∙ c.if-is_name_start.false) (sym c.is_digit.ensures.value ∙ c.if-is_digit.false) c.if-code.true) c.in_ok-found-in-Some-2.ensures.value

pub returns-in_ok-found-in-Some-3-clause-value : goal.returns-in_ok-found-in-Some-3-clause-value
returns-in_ok-found-in-Some-3-clause-value g c =
    finds_at c.args.in_template (g.T.Source.points c.args.rest) (g.T.Source.points c.behind-others.result) c.in-Some.first (λ codes. template_piece kind.TemplateWhole kind.TemplateHead (body_of Template (map code_of (g.T.Source.points c.behind-others.result)))) _ _ (behind_first (g.T.Source.points c.args.rest) _ (g.T.Source.points c.behind-others.result) c.in-Some.first c.in-Some.ensures.cases.0 c.behind-others.ensures)
    (token_is_template c.args.in_template c.in-Some.first.code (map code_of (g.T.Source.points c.behind-others.result)) (sym c.is_name_start.ensures ∙ c.if-is_name_start.false) (sym c.is_digit.ensures.value ∙ c.if-is_digit.false) c.if-code.false (eq-eqb c.in-Some.first.code 0x60 c.if-code-eq96.true)) c.in_ok-found-in-Some-3.ensures.value

pub returns-in_ok-found-in-Some-4-clause-value : goal.returns-in_ok-found-in-Some-4-clause-value
returns-in_ok-found-in-Some-4-clause-value g c =
    finds_at c.args.in_template (g.T.Source.points c.args.rest) (g.T.Source.points c.behind-others.result) c.in-Some.first (λ codes. template_piece kind.TemplateTail kind.TemplateMiddle (body_of Template (map code_of (g.T.Source.points c.behind-others.result)))) _ _ (behind_first (g.T.Source.points c.args.rest) _ (g.T.Source.points c.behind-others.result) c.in-Some.first c.in-Some.ensures.cases.0 c.behind-others.ensures)
    (token_goes_on c.args.in_template c.in-Some.first.code (map code_of (g.T.Source.points c.behind-others.result)) (sym c.is_name_start.ensures ∙ c.if-is_name_start.false) (sym c.is_digit.ensures.value ∙ c.if-is_digit.false) c.if-code.false (not_equal c.in-Some.first.code 0x60 c.if-code-eq96.false) c.if-code-in_template.true) c.in_ok-found-in-Some-4.ensures.value

pub returns-else-code-in_template-clause-value : goal.returns-else-code-in_template-clause-value
returns-else-code-in_template-clause-value g c =
    finds_at c.args.in_template (g.T.Source.points c.args.rest) (g.T.Source.points c.behind-others.result) c.in-Some.first (λ codes. mark_piece (mark_at codes)) _ _ (behind_first (g.T.Source.points c.args.rest) _ (g.T.Source.points c.behind-others.result) c.in-Some.first c.in-Some.ensures.cases.0 c.behind-others.ensures)
    (token_is_mark c.args.in_template c.in-Some.first.code (map code_of (g.T.Source.points c.behind-others.result)) (sym c.is_name_start.ensures ∙ c.if-is_name_start.false) (sym c.is_digit.ensures.value ∙ c.if-is_digit.false) c.if-code.false (not_equal c.in-Some.first.code 0x60 c.if-code-eq96.false) c.if-code-in_template.false) (c.mark_piece.ensures.value c.args.units.now.items)
