-- Code that leaves the frames around it, and the exits that they give.
use Rattle.std.proofs.Common.{◌≡◌, ◌∙◌, ℕ, suc, ◌+◌, ◌<◌, Bool, true, false, IsTrue, nat_eq, if◌then◌else◌, List, [], ◌∷◌, ◌++◌, length, bytes_eq, Option, Some, None, refl, sym, ap, arith}
use Rattle.std.proofs.lemmas.Bool.Decides.{eqb_tells}
use Rattle.std.proofs.Common.{inl, inr}
use Rattle.stencil_data.specs.Named.{NamedScope}
use Rattle.bytecode_buf.specs.declared.opcode.Op.TheVariants as op
use Rattle.bytecode_buf.specs.declared.waits.Aim.TheVariants as aim
use Rattle.bytecode_buf.specs.Pieces.{Waiting}
use Rattle.emit_stmts.specs.Frames.{Frame, Loop, KeysLoop, Switching, Labelled, Entered, scope_at, has_env, kept_values, leave_scope, exit, exits, Goal, Out, Again, is_labelled, is_meant, goal_aim, leaving}
use Rattle.bytecode_flow_laws.specs.Depths.{Exits, with_exit, Runs}
use Rattle.bytecode_flow_laws.proofs.Joining.{runs_none, runs_both}
use Rattle.bytecode_flow_laws.proofs.Running.{runs_goto}
use Rattle.emit_depth_laws.specs.Targets.{has_goal}
use Rattle.emit_depth_laws.proofs.RunningPieces.{runs_from, runs_if, runs_just}

-- ---- the depths at which breaks and continues leave

-- the frames without the scopes
abbrev pub bare : List Frame → List Frame
bare [] = []
bare (Loop ∷ frames) = Loop ∷ bare frames
bare (KeysLoop ∷ frames) = KeysLoop ∷ bare frames
bare (Switching ∷ frames) = Switching ∷ bare frames
bare (Labelled name ∷ frames) = Labelled name ∷ bare frames
bare (Entered number ∷ frames) = bare frames

abbrev pub at_level : ℕ → ℕ → ℕ → Option ℕ → Option ℕ
at_level here level depth further = if nat_eq here level then Some depth else further

abbrev pub out_depth : List Frame → ℕ → Option ℕ
out_depth [] level = None
out_depth (Loop ∷ frames) level = at_level (length frames) level (kept_values frames) (out_depth frames level)
out_depth (KeysLoop ∷ frames) level = at_level (length frames) level (2 + kept_values frames) (out_depth frames level)
out_depth (Switching ∷ frames) level = at_level (length frames) level (kept_values frames) (out_depth frames level)
out_depth (Labelled name ∷ frames) level = at_level (length frames) level (kept_values frames) (out_depth frames level)
out_depth (Entered number ∷ frames) level = out_depth frames level

abbrev pub again_depth : List Frame → ℕ → Option ℕ
again_depth [] level = None
again_depth (Loop ∷ frames) level = at_level (length frames) level (kept_values frames) (again_depth frames level)
again_depth (KeysLoop ∷ frames) level = at_level (length frames) level (2 + kept_values frames) (again_depth frames level)
again_depth (Switching ∷ frames) level = again_depth frames level
again_depth (Labelled name ∷ frames) level = again_depth frames level
again_depth (Entered number ∷ frames) level = again_depth frames level

pub record HasExits (outs : Exits) (frames : List Frame) : Type 0 where
  pub out : (level depth : ℕ) → out_depth frames level ≡ Some depth → outs (aim.Break level) ≡ Some depth
  pub again : (level depth : ℕ) → again_depth frames level ≡ Some depth → outs (aim.Continue level) ≡ Some depth

pub no_frames : (outs : Exits) → HasExits outs []
no_frames outs = record { out = λ level depth h. absurd (cc); again = λ level depth h. absurd (cc) }

-- ---- one frame more

at_by : (b : Bool) (depth found x : ℕ) (further outside : Option ℕ) → depth ≡ found → (further ≡ Some x → outside ≡ Some x) → (if b then Some found else further) ≡ Some x → (if b then Some depth else outside) ≡ Some x
at_by true depth found x further outside same f h = ap (λ (n : ℕ). Some n) same ∙ h
at_by false depth found x further outside same f h = f h

pub loop_exits : (outs : Exits) (frames : List Frame) (d : ℕ) → d ≡ kept_values frames → HasExits outs frames → HasExits (with_exit (aim.Continue (length frames)) d (with_exit (aim.Break (length frames)) d outs)) (Loop ∷ frames)
loop_exits outs frames d same h = record {
  out = λ level x k. at_by (nat_eq (length frames) level) d (kept_values frames) x (out_depth frames level) (outs (aim.Break level)) same (h.out level x) k;
  again = λ level x k. at_by (nat_eq (length frames) level) d (kept_values frames) x (again_depth frames level) (outs (aim.Continue level)) same (h.again level x) k;
}

pub keys_exits : (outs : Exits) (frames : List Frame) (d : ℕ) → d ≡ 2 + kept_values frames → HasExits outs frames → HasExits (with_exit (aim.Continue (length frames)) d (with_exit (aim.Break (length frames)) d outs)) (KeysLoop ∷ frames)
keys_exits outs frames d same h = record {
  out = λ level x k. at_by (nat_eq (length frames) level) d (2 + kept_values frames) x (out_depth frames level) (outs (aim.Break level)) same (h.out level x) k;
  again = λ level x k. at_by (nat_eq (length frames) level) d (2 + kept_values frames) x (again_depth frames level) (outs (aim.Continue level)) same (h.again level x) k;
}

pub switch_exits : (outs : Exits) (frames : List Frame) (d : ℕ) → d ≡ kept_values frames → HasExits outs frames → HasExits (with_exit (aim.Break (length frames)) d outs) (Switching ∷ frames)
switch_exits outs frames d same h = record {
  out = λ level x k. at_by (nat_eq (length frames) level) d (kept_values frames) x (out_depth frames level) (outs (aim.Break level)) same (h.out level x) k;
  again = λ level x k. h.again level x k;
}

pub label_exits : (outs : Exits) (name : List ℕ) (frames : List Frame) (d : ℕ) → d ≡ kept_values frames → HasExits outs frames → HasExits (with_exit (aim.Break (length frames)) d outs) (Labelled name ∷ frames)
label_exits outs name frames d same h = record {
  out = λ level x k. at_by (nat_eq (length frames) level) d (kept_values frames) x (out_depth frames level) (outs (aim.Break level)) same (h.out level x) k;
  again = λ level x k. h.again level x k;
}

self_by : (b : Bool) (d : ℕ) (other : Option ℕ) → b ≡ true → (if b then Some d else other) ≡ Some d
self_by true d other h = refl
self_by false d other h = absurd (cc)

same_level : (l : ℕ) → nat_eq l l ≡ true
same_level l = elim (eqb_tells l l) [ inl same ↦ same.0 | inr other ↦ absurd (other.1 refl) ]

-- the exit is there
pub break_exit : (level d : ℕ) (outs : Exits) → with_exit (aim.Break level) d outs (aim.Break level) ≡ Some d
break_exit level d outs = self_by (nat_eq level level) d (outs (aim.Break level)) (same_level level)

-- ---- fewer frames

low_by : (b : Bool) (here level depth x : ℕ) (further : Option ℕ) → nat_eq here level ≡ b → (further ≡ Some x → level < here) → (if b then Some depth else further) ≡ Some x → level < suc here
low_by true here level depth x further is f h = elim (eqb_tells here level) [ inl same ↦ omega (arith, same.1) | inr other ↦ absurd (clash other.0) ]
  where
    clash : nat_eq here level ≡ false → ⊥
    clash e = cc
low_by false here level depth x further is f h = let k = f h in omega arith

out_low : (frames : List Frame) (level x : ℕ) → out_depth frames level ≡ Some x → level < length frames
out_low [] level x h = absurd (cc)
out_low (Loop ∷ frames) level x h = low_by (nat_eq (length frames) level) (length frames) level (kept_values frames) x (out_depth frames level) refl (out_low frames level x) h
out_low (KeysLoop ∷ frames) level x h = low_by (nat_eq (length frames) level) (length frames) level (2 + kept_values frames) x (out_depth frames level) refl (out_low frames level x) h
out_low (Switching ∷ frames) level x h = low_by (nat_eq (length frames) level) (length frames) level (kept_values frames) x (out_depth frames level) refl (out_low frames level x) h
out_low (Labelled name ∷ frames) level x h = low_by (nat_eq (length frames) level) (length frames) level (kept_values frames) x (out_depth frames level) refl (out_low frames level x) h
out_low (Entered number ∷ frames) level x h = let k = out_low frames level x h in omega arith

again_low : (frames : List Frame) (level x : ℕ) → again_depth frames level ≡ Some x → level < length frames
again_low [] level x h = absurd (cc)
again_low (Loop ∷ frames) level x h = low_by (nat_eq (length frames) level) (length frames) level (kept_values frames) x (again_depth frames level) refl (again_low frames level x) h
again_low (KeysLoop ∷ frames) level x h = low_by (nat_eq (length frames) level) (length frames) level (2 + kept_values frames) x (again_depth frames level) refl (again_low frames level x) h
again_low (Switching ∷ frames) level x h = let k = again_low frames level x h in omega arith
again_low (Labelled name ∷ frames) level x h = let k = again_low frames level x h in omega arith
again_low (Entered number ∷ frames) level x h = let k = again_low frames level x h in omega arith

not_here : (here level depth x : ℕ) (further : Option ℕ) → level < here → further ≡ Some x → at_level here level depth further ≡ Some x
not_here here level depth x further low h = elim (eqb_tells here level) [
  | inl same ↦ absurd (omega (arith, same.1))
  | inr other ↦ ap (λ (b : Bool). if b then Some depth else further) other.0 ∙ h
]

pub outer_exits : (outs : Exits) (frame : Frame) (frames : List Frame) → HasExits outs (frame ∷ frames) → HasExits outs frames
outer_exits outs Loop frames h = record {
  out = λ level x k. h.out level x (not_here (length frames) level (kept_values frames) x (out_depth frames level) (out_low frames level x k) k);
  again = λ level x k. h.again level x (not_here (length frames) level (kept_values frames) x (again_depth frames level) (again_low frames level x k) k);
}
outer_exits outs KeysLoop frames h = record {
  out = λ level x k. h.out level x (not_here (length frames) level (2 + kept_values frames) x (out_depth frames level) (out_low frames level x k) k);
  again = λ level x k. h.again level x (not_here (length frames) level (2 + kept_values frames) x (again_depth frames level) (again_low frames level x k) k);
}
outer_exits outs Switching frames h = record {
  out = λ level x k. h.out level x (not_here (length frames) level (kept_values frames) x (out_depth frames level) (out_low frames level x k) k);
  again = h.again;
}
outer_exits outs (Labelled name) frames h = record {
  out = λ level x k. h.out level x (not_here (length frames) level (kept_values frames) x (out_depth frames level) (out_low frames level x k) k);
  again = h.again;
}
outer_exits outs (Entered number) frames h = record { out = h.out; again = h.again }

-- ---- leaving

pub leave_runs : (outs : Exits) (scopes : List NamedScope) (number d : ℕ) → Runs outs (leave_scope scopes number) d d
leave_runs outs scopes number d = runs_if (has_env (scope_at scopes number)) (runs_just outs op.PopLexicalEnv d d refl) (runs_none outs d)

two_more : (n : ℕ) → suc (suc n) ≡ 2 + n
two_more n = omega arith

exit_runs : (outs : Exits) (scopes : List NamedScope) (frame : Frame) (frames : List Frame) → Runs outs (exit scopes frame) (kept_values (frame ∷ frames)) (kept_values frames)
exit_runs outs scopes Loop frames = runs_none outs (kept_values frames)
exit_runs outs scopes KeysLoop frames = runs_from (two_more (kept_values frames)) (runs_just outs op.EndIter (suc (suc (kept_values frames))) (kept_values frames) refl)
exit_runs outs scopes Switching frames = runs_none outs (kept_values frames)
exit_runs outs scopes (Labelled name) frames = runs_none outs (kept_values frames)
exit_runs outs scopes (Entered number) frames = leave_runs outs scopes number (kept_values frames)

pub exits_run : (outs : Exits) (scopes : List NamedScope) (frames : List Frame) → Runs outs (exits scopes frames) (kept_values frames) 0
exits_run outs scopes [] = runs_none outs 0
exits_run outs scopes (frame ∷ frames) = runs_both (exit_runs outs scopes frame frames) (exits_run outs scopes frames)

here_by : (here depth : ℕ) (further : Option ℕ) → at_level here here depth further ≡ Some depth
here_by here depth further = self_by (nat_eq here here) depth further (same_level here)

none_true : IsTrue false → ⊥
none_true h = absurd (cc)

-- the goal that is meant has its exit
meant_exit : (outs : Exits) (goal : Goal) (frame : Frame) (frames : List Frame) → HasExits outs (frame ∷ frames) → is_meant goal frame frames ≡ true → outs (goal_aim goal (length frames)) ≡ Some (kept_values (frame ∷ frames))
meant_exit outs (Out None) Loop frames h m = h.out (length frames) (kept_values frames) (here_by (length frames) (kept_values frames) (out_depth frames (length frames)))
meant_exit outs (Out None) KeysLoop frames h m = h.out (length frames) (2 + kept_values frames) (here_by (length frames) (2 + kept_values frames) (out_depth frames (length frames)))
meant_exit outs (Out None) Switching frames h m = h.out (length frames) (kept_values frames) (here_by (length frames) (kept_values frames) (out_depth frames (length frames)))
meant_exit outs (Out None) (Labelled name) frames h m = absurd (cc)
meant_exit outs (Out None) (Entered number) frames h m = absurd (cc)
meant_exit outs (Out (Some label)) Loop frames h m = absurd (cc)
meant_exit outs (Out (Some label)) KeysLoop frames h m = absurd (cc)
meant_exit outs (Out (Some label)) Switching frames h m = absurd (cc)
meant_exit outs (Out (Some label)) (Labelled name) frames h m = h.out (length frames) (kept_values frames) (here_by (length frames) (kept_values frames) (out_depth frames (length frames)))
meant_exit outs (Out (Some label)) (Entered number) frames h m = absurd (cc)
meant_exit outs (Again None) Loop frames h m = h.again (length frames) (kept_values frames) (here_by (length frames) (kept_values frames) (again_depth frames (length frames)))
meant_exit outs (Again None) KeysLoop frames h m = h.again (length frames) (2 + kept_values frames) (here_by (length frames) (2 + kept_values frames) (again_depth frames (length frames)))
meant_exit outs (Again None) Switching frames h m = absurd (cc)
meant_exit outs (Again None) (Labelled name) frames h m = absurd (cc)
meant_exit outs (Again None) (Entered number) frames h m = absurd (cc)
meant_exit outs (Again (Some label)) Loop frames h m = h.again (length frames) (kept_values frames) (here_by (length frames) (kept_values frames) (again_depth frames (length frames)))
meant_exit outs (Again (Some label)) KeysLoop frames h m = h.again (length frames) (2 + kept_values frames) (here_by (length frames) (2 + kept_values frames) (again_depth frames (length frames)))
meant_exit outs (Again (Some label)) Switching frames h m = absurd (cc)
meant_exit outs (Again (Some label)) (Labelled name) frames h m = absurd (cc)
meant_exit outs (Again (Some label)) (Entered number) frames h m = absurd (cc)

leaving_by : (outs : Exits) (scopes : List NamedScope) (goal : Goal) (frame : Frame) (frames : List Frame) (b : Bool) (e : ℕ) → HasExits outs (frame ∷ frames) → is_meant goal frame frames ≡ b → IsTrue (if b then true else has_goal goal frames) → (IsTrue (has_goal goal frames) → Runs outs (leaving scopes goal frames) (kept_values frames) e) → Runs outs (if b then Waiting op.Goto (goal_aim goal (length frames)) ∷ [] else (exit scopes frame ++ leaving scopes goal frames)) (kept_values (frame ∷ frames)) e
leaving_by outs scopes goal frame frames true e h m t deeper = runs_goto outs (goal_aim goal (length frames)) (kept_values (frame ∷ frames)) e (meant_exit outs goal frame frames h m)
leaving_by outs scopes goal frame frames false e h m t deeper = runs_both (exit_runs outs scopes frame frames) (deeper t)

-- a jump to a goal that is there: nothing runs after it
pub leaving_runs : (outs : Exits) (scopes : List NamedScope) (goal : Goal) (frames : List Frame) (e : ℕ) → HasExits outs frames → IsTrue (has_goal goal frames) → Runs outs (leaving scopes goal frames) (kept_values frames) e
leaving_runs outs scopes goal [] e h t = absurd (none_true t)
leaving_runs outs scopes goal (frame ∷ frames) e h t = leaving_by outs scopes goal frame frames (is_meant goal frame frames) e h refl t (λ k. leaving_runs outs scopes goal frames e (outer_exits outs frame frames h) k)

-- ---- goals do not look at scopes

labelled_bare : (name : List ℕ) (frames : List Frame) → is_labelled name (bare frames) ≡ is_labelled name frames
labelled_bare name [] = refl
labelled_bare name (Loop ∷ frames) = refl
labelled_bare name (KeysLoop ∷ frames) = refl
labelled_bare name (Switching ∷ frames) = refl
labelled_bare name (Labelled label ∷ frames) = ap (λ (b : Bool). if bytes_eq label name then true else b) (labelled_bare name frames)
labelled_bare name (Entered number ∷ frames) = labelled_bare name frames

meant_bare : (goal : Goal) (frame : Frame) (frames : List Frame) → is_meant goal frame (bare frames) ≡ is_meant goal frame frames
meant_bare (Out None) Loop frames = refl
meant_bare (Out None) KeysLoop frames = refl
meant_bare (Out None) Switching frames = refl
meant_bare (Out None) (Labelled name) frames = refl
meant_bare (Out None) (Entered number) frames = refl
meant_bare (Out (Some label)) Loop frames = refl
meant_bare (Out (Some label)) KeysLoop frames = refl
meant_bare (Out (Some label)) Switching frames = refl
meant_bare (Out (Some label)) (Labelled name) frames = refl
meant_bare (Out (Some label)) (Entered number) frames = refl
meant_bare (Again None) Loop frames = refl
meant_bare (Again None) KeysLoop frames = refl
meant_bare (Again None) Switching frames = refl
meant_bare (Again None) (Labelled name) frames = refl
meant_bare (Again None) (Entered number) frames = refl
meant_bare (Again (Some label)) Loop frames = labelled_bare label frames
meant_bare (Again (Some label)) KeysLoop frames = labelled_bare label frames
meant_bare (Again (Some label)) Switching frames = refl
meant_bare (Again (Some label)) (Labelled name) frames = refl
meant_bare (Again (Some label)) (Entered number) frames = refl

scope_meant : (goal : Goal) (number : ℕ) (frames : List Frame) → is_meant goal (Entered number) frames ≡ false
scope_meant (Out None) number frames = refl
scope_meant (Out (Some label)) number frames = refl
scope_meant (Again None) number frames = refl
scope_meant (Again (Some label)) number frames = refl

goal_more : (goal : Goal) (frame : Frame) (frames : List Frame) → has_goal goal (bare frames) ≡ has_goal goal frames → has_goal goal (frame ∷ bare frames) ≡ has_goal goal (frame ∷ frames)
goal_more goal frame frames h =
    ap (λ (b : Bool). if b then true else has_goal goal (bare frames)) (meant_bare goal frame frames) ∙ ap (λ (b : Bool). if is_meant goal frame frames then true else b) h

pub goal_bare : (goal : Goal) (frames : List Frame) → has_goal goal (bare frames) ≡ has_goal goal frames
goal_bare goal [] = refl
goal_bare goal (Loop ∷ frames) = goal_more goal Loop frames (goal_bare goal frames)
goal_bare goal (KeysLoop ∷ frames) = goal_more goal KeysLoop frames (goal_bare goal frames)
goal_bare goal (Switching ∷ frames) = goal_more goal Switching frames (goal_bare goal frames)
goal_bare goal (Labelled name ∷ frames) = goal_more goal (Labelled name) frames (goal_bare goal frames)
goal_bare goal (Entered number ∷ frames) = goal_bare goal frames ∙ sym (ap (λ (b : Bool). if b then true else has_goal goal frames) (scope_meant goal number frames))
