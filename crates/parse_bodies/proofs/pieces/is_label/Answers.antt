use Rattle.std.proofs.Common.{◌∙◌, ap, sym, ◌&&◌}
use Rattle.script_grammar.specs.declared.token.mark.TheConstants as mark
use Rattle.script_grammar.specs.Kinds.{is_mark}
use Rattle.grammar_parser_specs.specs.Parser.{head_of, rest_of}
use Rattle.parse_exprs.specs.Source.{front}
use Rattle.parse_exprs.proofs.Fronts.{front_next}
use Rattle.parse_bodies.proofs.pieces.is_label.Goals as goal

pub returns-then-is_name : goal.returns-then-is_name
returns-then-is_name c = λ i.
    let e = c.token-next.ensures.lexeme i ∙ ap head_of (front_next c.args.source.now i c.args.place.now.at) in
    c.is_mark.ensures ∙ ap (λ l. is_mark mark.COLON l.kind) e
    ∙ ap (λ b. b && is_mark mark.COLON (head_of (rest_of (front c.args.source.now i c.args.place.now.at))).kind) (sym c.if-is_name.true ∙ c.is_name.ensures i)
