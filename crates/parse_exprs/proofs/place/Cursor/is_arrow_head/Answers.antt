use Rattle.std.proofs.Common.{◌∙◌, sym, ap, refl, true, ◌&&◌, [], ◌∷◌}
use Rattle.script_grammar.specs.Pieces.{paren}
use Rattle.grammar_parser_specs.specs.Parser.{head_of, rest_of}
use Rattle.grammar_parser_specs.specs.Exprs.{is_arrow, is_arrow_head, only_params}
use Rattle.parse_exprs.specs.Source.{front}
use Rattle.parse_exprs.proofs.Fronts.{front_next}
use Rattle.parse_exprs.proofs.Partners.{arrow_none, opens_before}
use Rattle.parse_exprs.proofs.place.Cursor.is_arrow_head.Goals as goal

pub returns-then-is_name : goal.returns-then-is_name
unfolding is_arrow_head
returns-then-is_name c = λ i. c.arrow_at.ensures i ∙ ap (λ ts. is_arrow (head_of ts)) (front_next c.args.source.now i c.args.self.now.at) ∙ rw (sym (c.is_name.ensures i) ∙ c.if-is_name.true) refl

pub returns-then-not-is_mark : goal.returns-then-not-is_mark
unfolding is_arrow_head
returns-then-not-is_mark c = λ i. rw (sym (c.is_name.ensures i) ∙ c.if-is_name.false, sym (c.is_mark.ensures i) ∙ c.if-not-is_mark.true) refl

pub returns-in-Some : goal.returns-in-Some
unfolding is_arrow_head
returns-in-Some c = λ i. c.opens_arrow.ensures i ∙ rw (sym (c.is_name.ensures i) ∙ c.if-is_name.false, sym (c.is_mark.ensures i) ∙ c.if-not-is_mark.false) refl

pub returns-in-None : goal.returns-in-None
unfolding is_arrow_head
returns-in-None c = λ i. ap (λ b. b && only_params true (paren ∷ []) (rest_of (front c.args.source.now i c.args.self.now.at))) (sym (arrow_none c.args.source.now c.requires i c.args.self.now.at (sym (c.is_mark.ensures i) ∙ c.if-not-is_mark.false) (sym c.partner.ensures ∙ c.in-None.is)))
    ∙ rw (sym (c.is_name.ensures i) ∙ c.if-is_name.false, sym (c.is_mark.ensures i) ∙ c.if-not-is_mark.false) refl

pub opens_arrow-requires-clause-before : goal.opens_arrow-requires-clause-before
opens_arrow-requires-clause-before c = opens_before c.args.source.now c.requires c.args.self.now.at c.in-Some.close (λ i. sym (c.is_mark.ensures i) ∙ c.if-not-is_mark.false) (sym c.partner.ensures ∙ c.in-Some.is)
