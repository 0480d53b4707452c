use Rattle.std.proofs.Common.{◌∙◌, sym, ap}
use Rattle.std.specs.Prelude.{Some}
use Rattle.script_scanner.specs.Tokens.{name_kind}
use Rattle.script_scanner.proofs.KnownLemmas.{known_name_is}
use Rattle.script_scanner.proofs.known.known_name.Goals as goal

pub returns-clause-value : goal.returns-clause-value
returns-clause-value g c =
    known_name_is c.args.atoms.now (g.T.Source.points c.args.rest) (g.T.Source.points c.front.result) c.units-units.result.now c.in_ok-atom.atom
    c.args.name.length c.kind_of_name.result
    c.requires.begins
    c.requires.long
    c.requires.positive
    c.front.ensures
    (c.are_units.ensures c.if-not-are_units.false)
    (c.text.ensures ∙ ap Some (sym c.units-units.ensures))
    (c.kind_of_name.ensures ∙ ap name_kind c.word_at.ensures)
