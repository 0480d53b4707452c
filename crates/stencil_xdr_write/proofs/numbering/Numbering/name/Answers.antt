use Rattle.std.proofs.Common.{None, refl, ap, ◌∙◌, slice_get, arith}
use Rattle.std.proofs.lemmas.Option.{slice_get_within}
use Rattle.stencil_xdr_write.specs.Named.{NumberingView}
use Rattle.stencil_xdr_write.proofs.Naming.{room_left, room_more, names_by}
use Rattle.stencil_xdr_write.proofs.numbering.Numbering.name.Goals as goal

pub intern-requires : goal.intern-requires
intern-requires c = room_left c.self.inside.texts.now c.self.inside.atoms c.self.inside.table.items c.args.place c.self.invariant (ap (λ (n : NumberingView). slice_get n.table c.args.place) c.self.view_is ∙ c.requires)

pub index_mut-requires : goal.index_mut-requires
index_mut-requires c = omega (arith, slice_get_within c.self.inside.table.items c.args.place None (ap (λ (n : NumberingView). slice_get n.table c.args.place) c.self.view_is ∙ c.requires), c.self.inside.table.ok.0)

pub invariant_of-self-2 : goal.invariant_of-self-2
invariant_of-self-2 c =
    room_more c.self.inside.texts.now c.self.inside.atoms c.intern.new.self c.self.inside.table.items _ c.args.place c.in_ok-number.number c.text_at-units.result.now c.self.invariant
    (ap (λ (n : NumberingView). slice_get n.table c.args.place) c.self.view_is ∙ c.requires) c.in_ok-number.ensures.ok refl

pub returns : goal.returns
returns c =
    rw (← c.self.view_is) (names_by c.self.inside.texts.now c.self.inside.atoms c.intern.new.self c.self.inside.table.items c.args.place c.in_ok-number.number c.text_at-units.result.now
    c.text_at-units.ensures c.in_ok-number.ensures.ok)
