use Rattle.std.proofs.Common.{◌+◌, ◌/◌, get_or, arith}
use Rattle.holzikra_places.proofs.MarkLemmas.{before-small, mark-within, units-before}
use Rattle.holzikra_places.proofs.text_places.units_before.Goals as goal

pub bounds-marks-piece : goal.bounds-marks-piece
bounds-marks-piece c = mark-within c.args.text.now c.args.marks.now c.args.offset c.requires.marked c.requires.within

pub overflow_add-result : goal.overflow_add-result
overflow_add-result c =
    let is = units-before c.args.text.now c.args.marks.now c.args.offset c.units_between.result c.requires.marked c.requires.within c.units_between.ensures.is in
    let small = before-small c.args.text.now c.args.offset (get_or c.args.marks.now (c.args.offset / 1024) 0 + c.units_between.result) is in
    let short = c.requires.short in
    omega (arith, small, short)

pub returns-clause-is : goal.returns-clause-is
returns-clause-is c = units-before c.args.text.now c.args.marks.now c.args.offset c.units_between.result c.requires.marked c.requires.within c.units_between.ensures.is

pub returns-clause-small : goal.returns-clause-small
returns-clause-small c =
    before-small c.args.text.now c.args.offset (get_or c.args.marks.now (c.args.offset / 1024) 0 + c.units_between.result)
    (units-before c.args.text.now c.args.marks.now c.args.offset c.units_between.result c.requires.marked c.requires.within c.units_between.ensures.is)
