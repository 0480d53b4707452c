use Rattle.std.proofs.Common.{◌∙◌, ◌-◌, ◌<◌, length, sym, subst, arith}
use Rattle.compile_initial.specs.declared.Nesting.{Nesting}
use Rattle.lazy_function.proofs.Numbered.{any_default, as_many_around, found_at}
use Rattle.lazy_function.proofs.around_of.Goals as goal

pub index-requires : goal.index-requires
index-requires c =
    let count = as_many_around c.requires.initial.0 c.args.initial.now c.requires.initial.1 in
    let low = c.requires.number.0 in
    let high = c.requires.number.1 in
    omega (arith, count, low, high)

pub returns-clause-is : goal.returns-clause-is
returns-clause-is c =
    let made = c.args.initial.now in
    let count = as_many_around c.requires.initial.0 made c.requires.initial.1 in
    let low = c.requires.number.0 in
    let high = c.requires.number.1 in
    let lt : c.args.number - 1 < length made.around.items = omega (arith, count, low, high) in
    c.index.ensures ∙ any_default made.around.items (c.args.number - 1) c.index.result.now (record { number = 0; place = 0 }) lt

pub returns-clause-before : goal.returns-clause-before
returns-clause-before c =
    subst (λ (a : Nesting). a.number < c.args.number) (sym (returns-clause-is c)) (found_at c.requires.initial.0 c.args.initial.now c.requires.initial.1 c.args.number c.requires.number).around.before
