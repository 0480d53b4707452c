use Rattle.std.proofs.Common.{ℕ, List, Option, sym, subst}
use Rattle.std.specs.List.Sorted.{IsPermutation}
use Rattle.bytecode_buf.specs.Machine.{IsLeastTable}
use Rattle.bytecode_buf.specs.Verdicts.{IsGreatest}
use Rattle.code_check.specs.Survey.{depth_at}
use Rattle.code_check.proofs.Arrivals.{never_stuck}
use Rattle.code_check.proofs.SortedNotes.{least_sorted, no_table_sorted}
use Rattle.code_check.proofs.verifier.verify_code.Goals as goal

pub returns-in-Ok-clause-verdict : goal.returns-in-Ok-clause-verdict
returns-in-Ok-clause-verdict c =
    let same : IsPermutation c.args.notes.now c.deref.result.now = subst (IsPermutation c.args.notes.now) (sym c.deref.ensures.value) c.in_ok-sorted.ensures.same in
    record {
      table = depth_at c.in-Ok.depths.items;
      least = least_sorted c.args.code.now c.args.notes.now c.deref.result.now same (depth_at c.in-Ok.depths.items) c.in-Ok.ensures.ok;
      greatest = subst (λ (depths : List (Option ℕ)). IsGreatest (depth_at depths) c.greatest.result) c.deref-in-Ok.ensures.value c.greatest.ensures;
    }

pub returns-in-Ok-clause-free : goal.returns-in-Ok-clause-free
returns-in-Ok-clause-free c =
    let same : IsPermutation c.args.notes.now c.deref.result.now = subst (IsPermutation c.args.notes.now) (sym c.deref.ensures.value) c.in_ok-sorted.ensures.same in
    let least : IsLeastTable c.args.code.now c.args.notes.now (depth_at c.in-Ok.depths.items) = least_sorted c.args.code.now c.args.notes.now c.deref.result.now same (depth_at c.in-Ok.depths.items) c.in-Ok.ensures.ok in
    never_stuck c.args.code.now c.args.notes.now (depth_at c.in-Ok.depths.items) least.is

pub returns-in-Err-Unsound-clause-verdict : goal.returns-in-Err-Unsound-clause-verdict
returns-in-Err-Unsound-clause-verdict c =
    let same : IsPermutation c.args.notes.now c.deref.result.now = subst (IsPermutation c.args.notes.now) (sym c.deref.ensures.value) c.in_ok-sorted.ensures.same in
    no_table_sorted c.args.code.now c.args.notes.now c.deref.result.now same (rw c.in-Err-Unsound.field-0-is at c.in-Err-Unsound.ensures.err)
