use Rattle.std.proofs.Common.{◌∙◌, sym, ap, refl}
use Rattle.std.specs.Prelude.{Some}
use Rattle.script_scanner.proofs.KnownLemmas.{known_string_is}
use Rattle.script_scanner.proofs.known.known_string.Goals as goal

pub returns-clause-value : goal.returns-clause-value
returns-clause-value g c =
    known_string_is c.args.atoms.now (g.T.Source.points c.args.rest) (g.T.Source.points c.behind-others.result) (g.T.Source.points c.front.result) (g.T.Source.points c.behind.result)
    c.units-units.result.now c.args.quote c.in_ok-atom.atom c.plain_front-plain.result.length _
    c.requires.quoted
    c.behind-others.ensures
    c.plain_front-plain.ensures.value
    c.behind.ensures
    (sym c.begins_with.ensures.value ∙ c.if-not-begins_with.false)
    c.plain_front-plain.ensures.within
    c.front.ensures
    (c.are_units.ensures c.if-not-are_units.false)
    (c.text.ensures ∙ ap Some (sym c.units-units.ensures))
    refl
