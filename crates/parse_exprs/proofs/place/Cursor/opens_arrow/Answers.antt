use Rattle.std.proofs.Common.{◌∙◌, sym, ap, true, ◌&&◌, [], ◌∷◌}
use Rattle.script_grammar.specs.Pieces.{paren}
use Rattle.grammar_parser_specs.specs.Parser.{head_of, rest_of}
use Rattle.grammar_parser_specs.specs.Exprs.{is_arrow, only_params}
use Rattle.parse_exprs.specs.Source.{front}
use Rattle.parse_exprs.proofs.Fronts.{front_next}
use Rattle.parse_exprs.proofs.Partners.{arrow_some}
use Rattle.parse_exprs.proofs.place.Cursor.opens_arrow.Goals as goal

pub returns-then-not-arrow_at : goal.returns-then-not-arrow_at
returns-then-not-arrow_at c = λ i.
    let s = c.args.source.now in
    let ts = rest_of (front s i c.args.self.now.at) in
    let same = c.arrow_at.ensures i ∙ ap (λ ts. is_arrow (head_of ts)) (front_next s i c.args.close) ∙ sym (arrow_some s c.requires.source i c.args.self.now.at c.args.close (c.requires.opens i) c.requires.partner) in
    ap (λ b. b && only_params true (paren ∷ []) ts) (sym c.if-not-arrow_at.true ∙ same)

pub returns : goal.returns
returns c = λ i.
    let s = c.args.source.now in
    let ts = rest_of (front s i c.args.self.now.at) in
    let same = c.arrow_at.ensures i ∙ ap (λ ts. is_arrow (head_of ts)) (front_next s i c.args.close) ∙ sym (arrow_some s c.requires.source i c.args.self.now.at c.args.close (c.requires.opens i) c.requires.partner) in
    c.only_params.ensures i ∙ ap (λ b. b && only_params true (paren ∷ []) ts) (sym c.if-not-arrow_at.false ∙ same)
