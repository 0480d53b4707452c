use Rattle.std.proofs.Common.{◌≡◌, ◌+◌, ◌≤◌, ◌∷◌, ℕ, List, Vec, Global, subst₂, drop, get_or, sym, ◌∙◌, ap, arith, length, drop_of_length-le}
use Rattle.bytecode_buf.specs.declared.waits.Wait.{Wait}
use Rattle.bytecode_buf.specs.declared.waits.Aim.TheVariants as aim
use Rattle.bytecode_buf.proofs.Bytes.{length-patched}
use Rattle.bytecode_buf.proofs.AppendLemmas.{Landing, landing_none, landing_room, landing_patched, landing_kept, landing_bytes, landing_waits, appends_landed, drop-next}
use Rattle.bytecode_buf.proofs.waits.land.Goals as goal
use Rattle.bytecode_buf.proofs.waits.land.Goals.{then-is, else-is+in_ok-push}

-- what an element past the end would be
abbrev nothing : Wait
nothing = record { at = 0; aim = aim.Otherwise }

pub loop-wait-init : goal.loop-wait-init
loop-wait-init c = landing_none _ _ _ _ c.requires

pub patch-requires-clause-whole : goal.patch-requires-clause-whole
patch-requires-clause-whole c = landing_room _ _ _ _ _ _ _ _ _ (drop-next _ c.loop-wait.wait-index _ c.loop-wait-test.true) c.loop-wait.invariant

pub patch-requires-clause-target : goal.patch-requires-clause-target
patch-requires-clause-target c = omega (arith, c.len-end.ensures, c.loop-wait.invariant.long)

pub loop-wait-preserved : goal.loop-wait-preserved
loop-wait-preserved c =
    let next : drop c.loop-wait.wait-index c.args.inner.now ≡ get_or c.args.inner.now c.loop-wait.wait-index nothing ∷ drop (c.loop-wait.wait-index + 1) c.args.inner.now = drop-next _ c.loop-wait.wait-index nothing c.loop-wait-test.true in
    elim c.if-is.branch [
      | then-is w ↦
          let room : (get_or c.args.inner.now c.loop-wait.wait-index nothing).at + 9 ≤ length c.loop-wait.out = landing_room _ _ _ _ _ _ _ _ _ next c.loop-wait.invariant in
          subst₂ (λ (o : List ℕ) (v : Vec Wait Global). Landing c.args.aim c.args.inner.now c.args.out.now c.args.waits.now.items (drop (c.loop-wait.wait-index + 1) c.args.inner.now) o v.items) (sym w.out-is) (sym w.waits-is)
          (landing_patched _ _ _ _ _ _ _ _ _ _ c.len-end.result next (sym c.is.ensures ∙ w.if-is.true) (ap length w.patch.ensures ∙ length-patched _ _ c.loop-wait.out room) c.len-end.ensures w.patch.ensures c.loop-wait.invariant)
      | else-is+in_ok-push w ↦
          subst₂ (λ (o : List ℕ) (v : Vec Wait Global). Landing c.args.aim c.args.inner.now c.args.out.now c.args.waits.now.items (drop (c.loop-wait.wait-index + 1) c.args.inner.now) o v.items) (sym w.out-is) (sym w.waits-is)
          (landing_kept _ _ _ _ _ _ _ _ _ _ next (sym c.is.ensures ∙ w.if-is.false) w.in_ok-push.ensures.items c.loop-wait.invariant)
    ]

pub returns-clause-bytes : goal.returns-clause-bytes
returns-clause-bytes c = landing_bytes _ _ _ _ _ _ _ (drop_of_length-le c.args.inner.now c.loop-wait-test.false) c.loop-wait.invariant

pub returns-clause-waits : goal.returns-clause-waits
returns-clause-waits c = landing_waits _ _ _ _ _ _ _ (drop_of_length-le c.args.inner.now c.loop-wait-test.false) c.loop-wait.invariant

pub returns-clause-lands : goal.returns-clause-lands
returns-clause-lands c texts start notes notes_now code x =
    appends_landed texts _ start _ _ _ _ _ notes notes_now code (omega (arith, c.len-end.ensures, c.len-end.type_inv))
    (landing_bytes _ _ _ _ _ _ _ (drop_of_length-le c.args.inner.now c.loop-wait-test.false) c.loop-wait.invariant)
    (landing_waits _ _ _ _ _ _ _ (drop_of_length-le c.args.inner.now c.loop-wait-test.false) c.loop-wait.invariant) x
