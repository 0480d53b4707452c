-- What leaves frames, one after the other.
use Rattle.std.proofs.Common.{◌≡◌, ℕ, suc, Bool, true, false, if◌then◌else◌, List, [], ◌∷◌, ◌++◌, length, refl, sym, ◌∙◌, ap, subst}
use Rattle.script_grammar.specs.Tree.{no_stmts}
use Rattle.bytecode_buf.specs.declared.opcode.Op.TheVariants as op
use Rattle.bytecode_buf.specs.declared.waits.Aim.{Aim}
use Rattle.bytecode_buf.specs.declared.waits.Wait.{Wait}
use Rattle.bytecode_buf.specs.Appends.{Appends}
use Rattle.bytecode_buf.specs.Emits.{emitted, Waits}
use Rattle.bytecode_buf.specs.Pieces.{Code, Waiting}
use Rattle.bytecode_buf.proofs.AppendLemmas.{appends_none, appends_both}
use Rattle.emit_exprs.specs.declared.site.Site.{Site}
use Rattle.emit_exprs.specs.Sites.{EmitsAt}
use Rattle.emit_exprs.specs.TreeCode.{Written}
use Rattle.emit_exprs.proofs.Writing.{written_of, Left, left_begin, left_step, left_end}
use Rattle.emit_stmts.specs.declared.frames.Frame.{Frame}
use Rattle.emit_stmts.specs.declared.leaving.Goal.{Goal}
use Rattle.emit_stmts.specs.declared.stmt_context.StmtContext.{StmtContext}
use Rattle.emit_stmts.specs.Frames.{exit, exits, is_meant, goal_aim, leaving}
use Rattle.emit_stmts.specs.Leaving.{Exits, Leaves, goal_in}
use Rattle.emit_stmts.specs.Positions.{position_of, frame_in, frames_in}

-- code that is the same whatever the bodies
emits_of : {s : Site} {old new : List ℕ} {code : Code} → Written s old new (λ b. Unit {0}) (λ b. code) → EmitsAt s old new code
emits_of {s} {old} {new} w = subst (λ (c : Code). EmitsAt s old new c) (w.is (λ start. no_stmts) tt) w.emits

-- ---- all of them

pub record ExitsLeft (s : StmtContext) (start now : List ℕ) (all left : List Frame) : Type 0 where
  pub loop : Left s.exprs start now (λ b. Unit {0}) (λ b. Unit {0}) (λ b. exits (position_of s).scopes (frames_in s.exprs.texts.now all)) (λ b. exits (position_of s).scopes (frames_in s.exprs.texts.now left))

pub exits_begin : (s : StmtContext) (now : List ℕ) (all : List Frame) → ExitsLeft s now now all all
exits_begin s now all = record { loop = left_begin s.exprs now _ _ }

pub exits_next : {s : StmtContext} {start now next : List ℕ} {all : List Frame} (left further : List Frame) (f : Frame) → left ≡ f ∷ further → EmitsAt s.exprs now next (exit (position_of s).scopes (frame_in s.exprs.texts.now f)) → ExitsLeft s start now all left → ExitsLeft s start next all further
exits_next {s} left further f is x l = record { loop = left_step (written_of x) (λ b t. tt) (λ b t. tt) (λ b t. ap (λ (fs : List Frame). exits (position_of s).scopes (frames_in s.exprs.texts.now fs)) is) l.loop }

pub exits_end : {s : StmtContext} {start now : List ℕ} {all : List Frame} (left : List Frame) → left ≡ [] → ExitsLeft s start now all left → Exits s start now all
exits_end {s} left none l = record { made = emits_of (left_end (λ b. ap (λ (fs : List Frame). exits (position_of s).scopes (frames_in s.exprs.texts.now fs)) none) l.loop) }

-- ---- up to a goal

pub length-frames : (texts : List (List ℕ)) (frames : List Frame) → length (frames_in texts frames) ≡ length frames
length-frames texts [] = refl
length-frames texts (f ∷ fs) = ap (λ (n : ℕ). suc n) (length-frames texts fs)

pub leaves_none : (s : StmtContext) (bytes : List ℕ) (waits : List Wait) (goal : Goal) (frames : List Frame) → frames ≡ [] → Leaves s bytes waits bytes waits goal frames
leaves_none s bytes waits goal frames none = record {
  appends = λ notes. subst (λ (fs : List Frame). Appends s.exprs.texts.now (emitted bytes waits notes) (emitted bytes waits notes) (leaving (position_of s).scopes (goal_in s.exprs.texts.now goal) (frames_in s.exprs.texts.now fs))) (sym none)
      (appends_none s.exprs.texts.now (emitted bytes waits notes));
}

-- the goal is the first frame
pub leaves_meant : {s : StmtContext} {bytes new : List ℕ} {waits waits_new : List Wait} {aim : Aim} (goal : Goal) (frames outer : List Frame) (f : Frame) → frames ≡ f ∷ outer
    → is_meant (goal_in s.exprs.texts.now goal) (frame_in s.exprs.texts.now f) (frames_in s.exprs.texts.now outer) ≡ true
    → aim ≡ goal_aim (goal_in s.exprs.texts.now goal) (length outer)
    → Waits op.Goto aim bytes waits new waits_new → Leaves s bytes waits new waits_new goal frames
leaves_meant {s} {bytes} {new} {waits} {waits_new} {aim} goal frames outer f is meant aim_is x = record {
  appends = λ notes. subst (λ (code : Code). Appends s.exprs.texts.now (emitted bytes waits notes) (emitted new waits_new notes) code) (sym same) (x s.exprs.texts.now notes);
}
  where
    same : leaving (position_of s).scopes (goal_in s.exprs.texts.now goal) (frames_in s.exprs.texts.now frames) ≡ Waiting op.Goto aim ∷ []
    same =
        ap (λ (fs : List Frame). leaving (position_of s).scopes (goal_in s.exprs.texts.now goal) (frames_in s.exprs.texts.now fs)) is
        ∙ (ap (λ (b : Bool). if b then Waiting op.Goto (goal_aim (goal_in s.exprs.texts.now goal) (length (frames_in s.exprs.texts.now outer))) ∷ [] else (exit (position_of s).scopes (frame_in s.exprs.texts.now f) ++ leaving (position_of s).scopes (goal_in s.exprs.texts.now goal) (frames_in s.exprs.texts.now outer))) meant
        ∙ (ap (λ (n : ℕ). Waiting op.Goto (goal_aim (goal_in s.exprs.texts.now goal) n) ∷ []) (length-frames s.exprs.texts.now outer) ∙ ap (λ (a : Aim). Waiting op.Goto a ∷ []) (sym aim_is)))

-- it is further out
pub leaves_on : {s : StmtContext} {bytes mid new : List ℕ} {waits waits_new : List Wait} (goal : Goal) (frames outer : List Frame) (f : Frame) → frames ≡ f ∷ outer
    → is_meant (goal_in s.exprs.texts.now goal) (frame_in s.exprs.texts.now f) (frames_in s.exprs.texts.now outer) ≡ false
    → EmitsAt s.exprs bytes mid (exit (position_of s).scopes (frame_in s.exprs.texts.now f)) → Leaves s mid waits new waits_new goal outer → Leaves s bytes waits new waits_new goal frames
leaves_on {s} {bytes} {new = new} {waits} {waits_new} goal frames outer f is other x y = record {
  appends = λ notes. subst (λ (code : Code). Appends s.exprs.texts.now (emitted bytes waits notes) (emitted new waits_new notes) code) (sym same) (appends_both (x.anywhere waits notes) (y.appends notes));
}
  where
    same : leaving (position_of s).scopes (goal_in s.exprs.texts.now goal) (frames_in s.exprs.texts.now frames) ≡ exit (position_of s).scopes (frame_in s.exprs.texts.now f) ++ leaving (position_of s).scopes (goal_in s.exprs.texts.now goal) (frames_in s.exprs.texts.now outer)
    same =
        ap (λ (fs : List Frame). leaving (position_of s).scopes (goal_in s.exprs.texts.now goal) (frames_in s.exprs.texts.now fs)) is
        ∙ ap (λ (b : Bool). if b then Waiting op.Goto (goal_aim (goal_in s.exprs.texts.now goal) (length (frames_in s.exprs.texts.now outer))) ∷ [] else (exit (position_of s).scopes (frame_in s.exprs.texts.now f) ++ leaving (position_of s).scopes (goal_in s.exprs.texts.now goal) (frames_in s.exprs.texts.now outer))) other
