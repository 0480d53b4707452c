use Rattle.session_outside.proofs.ManyLemmas.{IsReadingAll-start, next_read, front_pushed, front_refused}
use Rattle.session_outside.proofs.OpenedLemmas.{opened_all, opened_pushed, opened_refused}
use Rattle.session_outside.proofs.reading.read_files.Goals as goal

pub loop-name-init : goal.loop-name-init
loop-name-init g c = IsReadingAll-start _ _ _ _ _ c.new-reads.ensures.items

pub returns-in-Err-clause-names : goal.returns-in-Err-clause-names
returns-in-Err-clause-names g c =
    front_pushed (g.L.Shelf.turned c.args.shelf.now) (g.L.Shelf.turned c.loop-name.shelf) (g.L.Shelf.turned c.read_next.new.shelf) c.args.names.now c.loop-name.name-index c.name-item.result c.as_str.result.now c.loop-name.left c.loop-name.reads.items c.in-Ok.read
    c.loop-name-test.true c.name-item.is c.as_str.ensures.value c.loop-name.invariant.tells c.loop-name.invariant.names c.in-Ok.ensures.names

pub returns-in-Err-Failed-clause-names : goal.returns-in-Err-Failed-clause-names
returns-in-Err-Failed-clause-names g c =
    front_refused (g.L.Shelf.turned c.args.shelf.now) (g.L.Shelf.turned c.loop-name.shelf) (g.L.Shelf.turned c.read_next.new.shelf) c.args.names.now c.loop-name.name-index c.name-item.result c.as_str.result.now c.loop-name.left c.loop-name.reads.items _
    c.loop-name-test.true c.name-item.is c.as_str.ensures.value c.loop-name.invariant.tells c.loop-name.invariant.names c.in-Err-Failed.ensures.names

pub returns-in-Err-NoMemory-clause-names : goal.returns-in-Err-NoMemory-clause-names
returns-in-Err-NoMemory-clause-names g c =
    front_refused (g.L.Shelf.turned c.args.shelf.now) (g.L.Shelf.turned c.loop-name.shelf) (g.L.Shelf.turned c.read_next.new.shelf) c.args.names.now c.loop-name.name-index c.name-item.result c.as_str.result.now c.loop-name.left c.loop-name.reads.items _
    c.loop-name-test.true c.name-item.is c.as_str.ensures.value c.loop-name.invariant.tells c.loop-name.invariant.names c.in-Err-NoMemory.ensures.names

pub loop-name-preserved : goal.loop-name-preserved
loop-name-preserved g c =
    next_read (g.L.Shelf.faults c.args.shelf.now) (g.L.Shelf.faults c.loop-name.shelf) (g.L.Shelf.faults c.read_next.new.shelf) (g.L.Shelf.turned c.args.shelf.now) (g.L.Shelf.turned c.loop-name.shelf) (g.L.Shelf.turned c.read_next.new.shelf) (g.L.Shelf.held c.args.shelf.now) (g.L.Shelf.held c.loop-name.shelf) (g.L.Shelf.held c.read_next.new.shelf) c.args.most c.args.names.now c.loop-name.name-index c.name-item.result c.as_str.result.now c.loop-name.left c.left_behind-left.result c.loop-name.reads.items c.push.new.self.items c.in-Ok.read
    c.loop-name-test.true c.name-item.is c.as_str.ensures.value c.loop-name.invariant c.in-Ok.ensures.count c.in-Ok.ensures.names c.in-Ok.ensures.same c.in-Ok.ensures.within c.left_behind-left.ensures.on c.in-Ok.ensures.read (c.left_behind-left.ensures.within c.args.most c.loop-name.invariant.few) (c.left_behind-left.ensures.left c.args.most) c.in-Ok-push.ensures.items

pub returns-in-Err-clause-opened : goal.returns-in-Err-clause-opened
returns-in-Err-clause-opened g c = λ held tells.
    opened_pushed c.args.most (g.L.Shelf.held c.args.shelf.now) held (g.L.Shelf.turned c.args.shelf.now) (g.L.Shelf.turned c.loop-name.shelf) (g.L.Shelf.turned c.read_next.new.shelf) c.args.names.now c.loop-name.name-index c.name-item.result c.as_str.result.now c.loop-name.left c.loop-name.reads.items c.in-Ok.read
    c.loop-name-test.true c.name-item.is c.as_str.ensures.value tells c.loop-name.invariant.tells c.loop-name.invariant.read c.loop-name.invariant.names c.in-Ok.ensures.names

pub returns-in-Err-Failed-clause-opened : goal.returns-in-Err-Failed-clause-opened
returns-in-Err-Failed-clause-opened g c = λ held tells.
    opened_refused c.args.most (g.L.Shelf.held c.args.shelf.now) held (g.L.Shelf.turned c.args.shelf.now) (g.L.Shelf.turned c.loop-name.shelf) (g.L.Shelf.turned c.read_next.new.shelf) c.args.names.now c.loop-name.name-index c.name-item.result c.as_str.result.now c.loop-name.left c.loop-name.reads.items _
    c.loop-name-test.true c.name-item.is c.as_str.ensures.value tells c.loop-name.invariant.tells c.loop-name.invariant.read c.loop-name.invariant.names c.in-Err-Failed.ensures.names

pub returns-in-Err-NoMemory-clause-opened : goal.returns-in-Err-NoMemory-clause-opened
returns-in-Err-NoMemory-clause-opened g c = λ held tells.
    opened_refused c.args.most (g.L.Shelf.held c.args.shelf.now) held (g.L.Shelf.turned c.args.shelf.now) (g.L.Shelf.turned c.loop-name.shelf) (g.L.Shelf.turned c.read_next.new.shelf) c.args.names.now c.loop-name.name-index c.name-item.result c.as_str.result.now c.loop-name.left c.loop-name.reads.items _
    c.loop-name-test.true c.name-item.is c.as_str.ensures.value tells c.loop-name.invariant.tells c.loop-name.invariant.read c.loop-name.invariant.names c.in-Err-NoMemory.ensures.names

pub returns-clause-opened : goal.returns-clause-opened
returns-clause-opened g c = λ held tells.
    opened_all c.args.most (g.L.Shelf.held c.args.shelf.now) held (g.L.Shelf.turned c.args.shelf.now) (g.L.Shelf.turned c.loop-name.shelf) c.args.names.now c.loop-name.name-index c.loop-name.left c.loop-name.reads.items
    c.loop-name-test.false tells c.loop-name.invariant.read c.loop-name.invariant.names
