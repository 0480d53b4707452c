use Rattle.std.proofs.Common.{arith}
use Rattle.track_atoms.proofs.Interning.{interned, still_interned, interned_small, none_small}
use Rattle.track_atoms.proofs.First.{first_known}
use Rattle.track_atoms.proofs.known_words.Goals as goal

pub returns-clause-fixed : goal.returns-clause-fixed
returns-clause-fixed c = first_known c.args.atoms.now c.intern.new.self c.intern-2.new.self c.intern-3.new.self c.intern-4.new.self c.intern-5.new.self c.intern-6.new.self c.intern-7.new.self _ c.requires
    c.in_ok-eval.ensures.ok c.in_ok-arguments.ensures.ok c.in_ok-this.ensures.ok c.in_ok-proto.ensures.ok c.in_ok-get.ensures.ok c.in_ok-set.ensures.ok c.in_ok-strict.ensures.ok

pub returns-clause-words : goal.returns-clause-words
returns-clause-words c = record {
  eval = still_interned c.intern-6.new.self c.intern-7.new.self _ _ c.in_ok-strict.strict c.in_ok-eval.eval c.in_ok-strict.ensures.ok (still_interned c.intern-5.new.self c.intern-6.new.self _ _ c.in_ok-set.set c.in_ok-eval.eval c.in_ok-set.ensures.ok (still_interned c.intern-4.new.self c.intern-5.new.self _ _ c.in_ok-get.get c.in_ok-eval.eval c.in_ok-get.ensures.ok (still_interned c.intern-3.new.self c.intern-4.new.self _ _ c.in_ok-proto.proto c.in_ok-eval.eval c.in_ok-proto.ensures.ok (still_interned c.intern-2.new.self c.intern-3.new.self _ _ c.in_ok-this.this c.in_ok-eval.eval c.in_ok-this.ensures.ok (still_interned c.intern.new.self c.intern-2.new.self _ _ c.in_ok-arguments.arguments c.in_ok-eval.eval c.in_ok-arguments.ensures.ok (interned c.args.atoms.now c.intern.new.self _ c.in_ok-eval.eval c.in_ok-eval.ensures.ok))))));
  arguments = still_interned c.intern-6.new.self c.intern-7.new.self _ _ c.in_ok-strict.strict c.in_ok-arguments.arguments c.in_ok-strict.ensures.ok (still_interned c.intern-5.new.self c.intern-6.new.self _ _ c.in_ok-set.set c.in_ok-arguments.arguments c.in_ok-set.ensures.ok (still_interned c.intern-4.new.self c.intern-5.new.self _ _ c.in_ok-get.get c.in_ok-arguments.arguments c.in_ok-get.ensures.ok (still_interned c.intern-3.new.self c.intern-4.new.self _ _ c.in_ok-proto.proto c.in_ok-arguments.arguments c.in_ok-proto.ensures.ok (still_interned c.intern-2.new.self c.intern-3.new.self _ _ c.in_ok-this.this c.in_ok-arguments.arguments c.in_ok-this.ensures.ok (interned c.intern.new.self c.intern-2.new.self _ c.in_ok-arguments.arguments c.in_ok-arguments.ensures.ok)))));
  this = still_interned c.intern-6.new.self c.intern-7.new.self _ _ c.in_ok-strict.strict c.in_ok-this.this c.in_ok-strict.ensures.ok (still_interned c.intern-5.new.self c.intern-6.new.self _ _ c.in_ok-set.set c.in_ok-this.this c.in_ok-set.ensures.ok (still_interned c.intern-4.new.self c.intern-5.new.self _ _ c.in_ok-get.get c.in_ok-this.this c.in_ok-get.ensures.ok (still_interned c.intern-3.new.self c.intern-4.new.self _ _ c.in_ok-proto.proto c.in_ok-this.this c.in_ok-proto.ensures.ok (interned c.intern-2.new.self c.intern-3.new.self _ c.in_ok-this.this c.in_ok-this.ensures.ok))));
  proto = still_interned c.intern-6.new.self c.intern-7.new.self _ _ c.in_ok-strict.strict c.in_ok-proto.proto c.in_ok-strict.ensures.ok (still_interned c.intern-5.new.self c.intern-6.new.self _ _ c.in_ok-set.set c.in_ok-proto.proto c.in_ok-set.ensures.ok (still_interned c.intern-4.new.self c.intern-5.new.self _ _ c.in_ok-get.get c.in_ok-proto.proto c.in_ok-get.ensures.ok (interned c.intern-3.new.self c.intern-4.new.self _ c.in_ok-proto.proto c.in_ok-proto.ensures.ok)));
  strict = interned c.intern-6.new.self c.intern-7.new.self _ c.in_ok-strict.strict c.in_ok-strict.ensures.ok;
  get = still_interned c.intern-6.new.self c.intern-7.new.self _ _ c.in_ok-strict.strict c.in_ok-get.get c.in_ok-strict.ensures.ok (still_interned c.intern-5.new.self c.intern-6.new.self _ _ c.in_ok-set.set c.in_ok-get.get c.in_ok-set.ensures.ok (interned c.intern-4.new.self c.intern-5.new.self _ c.in_ok-get.get c.in_ok-get.ensures.ok));
  set = still_interned c.intern-6.new.self c.intern-7.new.self _ _ c.in_ok-strict.strict c.in_ok-set.set c.in_ok-strict.ensures.ok (interned c.intern-5.new.self c.intern-6.new.self _ c.in_ok-set.set c.in_ok-set.ensures.ok);
}

pub returns-clause-small : goal.returns-clause-small
returns-clause-small c = interned_small c.intern-6.new.self c.intern-7.new.self _ c.in_ok-strict.strict c.in_ok-strict.ensures.ok (omega arith) (interned_small c.intern-5.new.self c.intern-6.new.self _ c.in_ok-set.set c.in_ok-set.ensures.ok (omega arith) (interned_small c.intern-4.new.self c.intern-5.new.self _ c.in_ok-get.get c.in_ok-get.ensures.ok (omega arith) (interned_small c.intern-3.new.self c.intern-4.new.self _ c.in_ok-proto.proto c.in_ok-proto.ensures.ok (omega arith) (interned_small c.intern-2.new.self c.intern-3.new.self _ c.in_ok-this.this c.in_ok-this.ensures.ok (omega arith) (interned_small c.intern.new.self c.intern-2.new.self _ c.in_ok-arguments.arguments c.in_ok-arguments.ensures.ok (omega arith) (interned_small c.args.atoms.now c.intern.new.self _ c.in_ok-eval.eval c.in_ok-eval.ensures.ok (omega arith) (none_small c.args.atoms.now c.requires)))))))
