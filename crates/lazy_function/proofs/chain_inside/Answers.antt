use Rattle.std.proofs.Common.{◌∙◌, ◌<◌, length, get_or, sym, ap, subst, arith}
use Rattle.std.proofs.lemmas.Option.{get_or_from_slice_get, slice_get_within}
use Rattle.compile_initial.specs.declared.Nesting.{Nesting}
use Rattle.lazy_function.specs.Numbered.{around_in}
use Rattle.lazy_function.proofs.Numbered.{found_at, is_chain, place_inside}
use Rattle.lazy_function.proofs.chain_inside.Goals as goal

pub index-requires : goal.index-requires
index-requires c =
    let made = c.args.initial.now in
    let alone = c.args.made.now in
    let given = c.requires.made in
    let lt : c.around_of-around.result.place < length alone.chains.items =
    subst (λ (a : Nesting). a.place < length alone.chains.items) (sym c.around_of-around.ensures.is)
    (slice_get_within alone.chains.items (around_in made c.args.number).place (found_at given.0 made given.1 c.args.number c.requires.number).s.chain
    (place_inside given.0 made given.1 c.args.number c.requires.number alone c.requires.inside given.2)) in
    omega (arith, lt)

pub returns : goal.returns
returns c = λ bytes compiled.
    let made = c.args.initial.now in
    let alone = c.args.made.now in
    is_chain bytes made c.args.number c.requires.number c.index.result.now
    (λ is.
    c.index.ensures ∙ (ap (λ (a : Nesting). get_or alone.chains.items a.place c.index.result.now) c.around_of-around.ensures.is
    ∙ get_or_from_slice_get alone.chains.items (around_in made c.args.number).place (found_at bytes made is c.args.number c.requires.number).s.chain c.index.result.now
    (place_inside bytes made is c.args.number c.requires.number alone c.requires.inside compiled)))
