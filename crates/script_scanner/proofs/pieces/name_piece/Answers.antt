use Rattle.std.proofs.Common.{◌≡◌, ◌∙◌, ap, ℕ, List, map, take, ◌++◌}
use Rattle.std.specs.Prelude.{option_map}
use Rattle.unit_text.specs.Points.{code_of}
use Rattle.unit_text.specs.Units.{text_units}
use Rattle.unit_text.specs.declared.Point.{Point}
use Rattle.script_scanner.specs.Names.{name_length}
use Rattle.script_scanner.specs.Tokens.{name_kind}
use Rattle.script_scanner.specs.Words.{word_at, word_index}
use Rattle.script_scanner.proofs.Lists.{map_take}
use Rattle.script_scanner.proofs.pieces.name_piece.Goals as goal

pub returns-clause-value : goal.returns-clause-value
returns-clause-value g c =
    let codes = map code_of (g.T.Source.points c.args.rest) in
    let text : c.push_points.new.units.items ≡ text_units (take (name_length codes) codes) =
    c.in_ok-push_points.ensures
    ∙ ap (λ (us : List ℕ). us ++ text_units (map code_of (g.T.Source.points c.front.result))) c.clear.ensures.items
    ∙ ap (λ (ps : List Point). text_units (map code_of ps)) c.front.ensures
    ∙ ap text_units (map_take code_of c.args.count (g.T.Source.points c.args.rest))
    ∙ ap (λ (n : ℕ). text_units (take n codes)) c.requires.long in (
      c.kind_of_name.ensures ∙ ap name_kind c.word_at.ensures
          ∙ ap (λ (us : List ℕ). name_kind (option_map word_index (word_at us))) (c.as_slice.ensures.value ∙ text),
      c.requires.long,
      text,
    )
