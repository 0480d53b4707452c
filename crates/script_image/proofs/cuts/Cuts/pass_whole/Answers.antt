use Rattle.std.proofs.Common.{arith, subst, sym, ℕ}
use Rattle.script_image.specs.declared.pieces.Place.TheVariants as place
use Rattle.script_image.specs.Pieces.{Lead}
use Rattle.script_image.proofs.cuts.Cuts.pass_whole.Goals as goal

pub overflow_add-number : goal.overflow_add-number
overflow_add-number c = let there = c.requires.number in let few = c.requires.few in omega (arith, there, few)

pub returns : goal.returns
returns c =
    let from = c.in_ok-cut_before.ensures.from in
    let there = c.requires.number in
    record {
      lead = subst (λ (n : ℕ). Lead c.args.listing c.args.merged.now (place.Before 0) c.cut_before.new.self.pieces.items (place.Before n)) (sym from) c.in_ok-cut_before.ensures.lead;
      passed = omega (arith, from);
      there = omega (arith, there);
    }
