use Rattle.std.proofs.Common.{◌∙◌, sym, ap, List, map}
use Rattle.unit_text.specs.Points.{code_of}
use Rattle.unit_text.specs.declared.Point.{Point}
use Rattle.script_scanner.specs.Numbers.{is_spoiled_by}
use Rattle.script_scanner.proofs.Lists.{map_drop}
use Rattle.script_scanner.proofs.PieceLemmas.{number_spoiled, number_found}
use Rattle.script_scanner.proofs.pieces.number_piece.Goals as goal

pub returns-then-is_spoiled_by-clause-value : goal.returns-then-is_spoiled_by-clause-value
returns-then-is_spoiled_by-clause-value g c = λ units.
    let n = c.numeral_at-numeral.result in
    number_spoiled n (map code_of (g.T.Source.points c.args.rest)) units c.numeral_at-numeral.ensures.value
    (sym (c.is_spoiled_by.ensures ∙ ap (λ (ps : List Point). is_spoiled_by n.is_decimal (map code_of ps)) c.behind.ensures ∙ ap (is_spoiled_by n.is_decimal) (map_drop code_of n.length (g.T.Source.points c.args.rest))) ∙ c.if-is_spoiled_by.true)

pub returns-in-Some-clause-value : goal.returns-in-Some-clause-value
returns-in-Some-clause-value g c = λ units.
    let n = c.numeral_at-numeral.result in
    number_found n (map code_of (g.T.Source.points c.args.rest)) c.in-Some.value units c.numeral_at-numeral.ensures.value
    (sym (c.is_spoiled_by.ensures ∙ ap (λ (ps : List Point). is_spoiled_by n.is_decimal (map code_of ps)) c.behind.ensures ∙ ap (is_spoiled_by n.is_decimal) (map_drop code_of n.length (g.T.Source.points c.args.rest))) ∙ c.if-is_spoiled_by.false)
    c.in-Some.is
