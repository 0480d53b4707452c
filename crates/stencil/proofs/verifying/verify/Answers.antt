use Rattle.std.proofs.Common.{◌≡◌, ◌+◌, ◌≤◌, length, Some, refl, subst, arith}
use Rattle.std.specs.Prelude.{slice_get}
use Rattle.std.proofs.lemmas.Option.{slice_get_read}
use Rattle.stencil_data.specs.MergedView.{MergedView}
use Rattle.bytecode_buf.specs.Verdicts.{IsVerified}
use Rattle.code_check.specs.declared.verdict.Verdict.{Verdict}
use Rattle.code_check.specs.Verdicts.{soundness}
use Rattle.stencil.specs.Verified.{IsEntryVerdict, IsFineVerdict, IsFirstUnsound}
use Rattle.stencil.proofs.VerifiedLemmas.{AreSoundBelow, all_sound, entry_accepted, entry_sound, entry_unsound, sound_free, top_sound, top_unsound}
use Rattle.stencil.proofs.verifying.verify.Goals as goal

pub returns-in-Unsound-clause-verdict : goal.returns-in-Unsound-clause-verdict
returns-in-Unsound-clause-verdict c =
    let top = c.stencil.inside.top in
    let none = subst (λ (v : Verdict). IsVerified top.code top.notes (soundness v)) c.in-Unsound.is c.in_ok-depth.ensures.verdict in
    subst (λ (m : MergedView). IsFirstUnsound m 0) c.stencil.view_is (top_unsound _ none)

pub loop-place-init : goal.loop-place-init
loop-place-init c =
    let top = c.stencil.inside.top in
    let sound = subst (λ (v : Verdict). IsVerified top.code top.notes (soundness v)) c.in-Sound.is c.in_ok-depth.ensures.verdict in
    subst (λ (m : MergedView). AreSoundBelow m 1 c.in-Sound.depth) c.stencil.view_is (top_sound _ c.in-Sound.depth sound)

pub returns-in-Unsound-2-clause-verdict : goal.returns-in-Unsound-2-clause-verdict
returns-in-Unsound-2-clause-verdict c =
    let entries = c.stencil.inside.entries in
    let place = c.loop-place.place in
    let entry = c.index.result.now in
    let count : c.len-place-end.result ≡ length entries.items = (let e = c.len-place-end.ensures in let o = entries.ok.0 in omega (arith, e, o)) in
    let here = slice_get_read entries.items c.len-place-end.result place entry count c.loop-place-test.true c.index.ensures in
    let there = subst (λ (m : MergedView). slice_get m.entries place ≡ Some entry) c.stencil.view_is here in
    let none = subst (λ (v : Verdict). IsEntryVerdict entry v) c.in-Unsound-2.is c.in_ok-depth-2.ensures.verdict in
    entry_unsound c.args.stencil.now place (place + 1) c.loop-place.deepest entry refl there none c.loop-place.invariant

pub returns-in-Unsound-2-clause-accepted : goal.returns-in-Unsound-2-clause-accepted
returns-in-Unsound-2-clause-accepted c = λ accepted.
    let entries = c.stencil.inside.entries in
    let place = c.loop-place.place in
    let entry = c.index.result.now in
    let count : c.len-place-end.result ≡ length entries.items = (let e = c.len-place-end.ensures in let o = entries.ok.0 in omega (arith, e, o)) in
    let here = slice_get_read entries.items c.len-place-end.result place entry count c.loop-place-test.true c.index.ensures in
    let there = subst (λ (m : MergedView). slice_get m.entries place ≡ Some entry) c.stencil.view_is here in
    let fine = c.in_ok-depth-2.ensures.accepted (entry_accepted c.args.stencil.now place entry there accepted) in
    subst IsFineVerdict c.in-Unsound-2.is fine

pub loop-place-preserved : goal.loop-place-preserved
loop-place-preserved c =
    let entries = c.stencil.inside.entries in
    let place = c.loop-place.place in
    let entry = c.index.result.now in
    let count : c.len-place-end.result ≡ length entries.items = (let e = c.len-place-end.ensures in let o = entries.ok.0 in omega (arith, e, o)) in
    let here = slice_get_read entries.items c.len-place-end.result place entry count c.loop-place-test.true c.index.ensures in
    let there = subst (λ (m : MergedView). slice_get m.entries place ≡ Some entry) c.stencil.view_is here in
    let sound = subst (λ (v : Verdict). IsEntryVerdict entry v) c.in-Sound-2.is c.in_ok-depth-2.ensures.verdict in
    entry_sound c.args.stencil.now place (place + 1) c.loop-place.deepest c.in-Sound-2.depth c.max-deepest.result entry refl there sound c.max-deepest.ensures c.loop-place.invariant

pub returns-clause-verdict : goal.returns-clause-verdict
returns-clause-verdict c =
    let entries = c.stencil.inside.entries in
    let count : c.len-place-end.result ≡ length entries.items = (let e = c.len-place-end.ensures in let o = entries.ok.0 in omega (arith, e, o)) in
    let whole : length entries.items + 1 ≤ c.loop-place.place + 1 = (let past = c.loop-place-test.false in omega (arith, count, past)) in
    all_sound c.args.stencil.now (c.loop-place.place + 1) c.loop-place.deepest
    (subst (λ (m : MergedView). length m.entries + 1 ≤ c.loop-place.place + 1) c.stencil.view_is whole) c.loop-place.invariant

pub returns-clause-free : goal.returns-clause-free
returns-clause-free c = λ number part is. sound_free c.args.stencil.now c.loop-place.deepest number part (returns-clause-verdict c) is
