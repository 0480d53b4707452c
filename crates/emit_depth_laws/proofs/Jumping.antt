-- In statements that are proper and have no early error, each assignment goes to a place, and each break and continue has its
-- target.
use Rattle.std.proofs.Common.{◌≡◌, ◌∙◌, ◌⊎◌, ℕ, Bool, true, false, ◌||◌, cond, if◌then◌else◌, IsTrue, List, [], ◌∷◌, ◌++◌, bytes_eq, inl, inr, Option, Some, None, refl, sym, subst}
use Rattle.std.specs.Cmp.Lexicographic.{bytes_decides}
use Rattle.std.proofs.lemmas.List.Folds.{list_any-append}
use Rattle.script_grammar.specs.Pieces.{Bodies, whole}
use Rattle.script_grammar.specs.Proper.{ProperClauses, ProperStmts, ProperElse, ProperStmt, ProperBody, ProperFunction}
use Rattle.script_grammar.specs.Tree.{Named, Function, function, Body, BracedBody, ShortBody, Clauses, no_clauses, more_clauses, Stmt, Stmts, no_stmts, more_stmts, MaybeStmt, no_stmt, some_stmt, Block, Empty, Debugger, Binding, Value, If, Do, While, For, ForIn, Continue, Break, Return, Throw, Switch, Label, Try, Declared}
use Rattle.parse_track.specs.declared.region.Declare.TheVariants as how
use Rattle.parse_track.specs.declared.region.Early.{Early}
use Rattle.parse_track.specs.declared.region.Jump.TheVariants as word
use Rattle.parse_track.specs.EarlyErrors.{JumpContext, nothing_around, within, is_loop, has, wrong_jump, wrong_jumps, smaller, smallest, is_sooner, sooner, error_of, at_regions, twice_lexical, lexical_and_var, head_and_var, catch_and_lexical, param_and_lexical, twice_param, binds_reserved}
use Rattle.parse_track.specs.Notes.{const_errors, params_error, limit, body_errors, has_rest, notes_expr, notes_maybe, notes_function, notes_params, notes_body, notes_binds, notes_init, notes_each, notes_clauses, notes_stmt, notes_stmts, notes_maybe_stmt, first_note, early_error}
use Rattle.parse_track.specs.Told as told
use Rattle.parse_track.specs.Told.{Told, nothing, leaf, inner}
use Rattle.parse_track.specs.Tells.{Text, known_texts, spelled, spelled_label, has_initializer, function_region, body_region, function_name, labels_on, labelled_region, tells_expr, tells_maybe, tells_function, tells_params, tells_body, tells_init, tells_each, tells_clauses, tells_stmt, tells_stmts, tells_maybe_stmt, tells_script, declares_function, tells_name}
use Rattle.script_grammar.specs.Kinds.{is_arrow_form}
use Rattle.emit_stmts.specs.Frames.{Frame, Loop, KeysLoop, Switching, Labelled, Out, Again, is_labelled}
use Rattle.emit_stmts.specs.Stmts.{label_text}
use Rattle.emit_depth_laws.specs.Targets.{has_goal, StmtTargets, StmtsTarget, ElseTargets, ClausesTarget, BodyTargets, FunctionTargets}
use Rattle.emit_depth_laws.proofs.Assigns.{nil_left, nil_right, expr_assigns, option_assigns, binds_assign, init_assigns, each_assigns, params_assign}
use Rattle.emit_depth_laws.proofs.Passing.{IsClean, clean_inside, clean_behind, function_passes, expr_passes, maybe_passes, binds_pass, init_passes, each_passes, params_pass}

-- ---- what is around, and the frames

-- the statement is a loop, or is labelled and so on
abbrev IsLoopHere : Stmt → Type 0
IsLoopHere s = is_loop (labelled_region (labels_on s) (tells_stmt false s nothing)) ≡ true

-- the frames have all that is around; labels of a loop that is still to come are those of the statement
record Fits (a : JumpContext Text) (frames : List Frame) (s : Stmt) : Type 0 where
  leaves : a.leaves ≡ true → has_goal (Out None) frames ≡ true
  loop : a.loop ≡ true → has_goal (Again None) frames ≡ true
  labels : (l : Text) → has bytes_eq l a.labels ≡ true → has_goal (Out (Some l)) frames ≡ true
  loops : (l : Text) → has bytes_eq l a.loops ≡ true → (has_goal (Again (Some l)) frames ≡ true) ⊎ ((is_labelled l frames ≡ true) × IsLoopHere s)

-- no loop is still to come
record Settled (a : JumpContext Text) (frames : List Frame) : Type 0 where
  leaves : a.leaves ≡ true → has_goal (Out None) frames ≡ true
  loop : a.loop ≡ true → has_goal (Again None) frames ≡ true
  labels : (l : Text) → has bytes_eq l a.labels ≡ true → has_goal (Out (Some l)) frames ≡ true
  loops : (l : Text) → has bytes_eq l a.loops ≡ true → has_goal (Again (Some l)) frames ≡ true

fits_of : (a : JumpContext Text) (frames : List Frame) (s : Stmt) → Settled a frames → Fits a frames s
fits_of a frames s h = record { leaves = h.leaves; loop = h.loop; labels = h.labels; loops = λ l k. inl (h.loops l k) }

settled_of : (a : JumpContext Text) (frames : List Frame) (s : Stmt) → (IsLoopHere s → ⊥) → Fits a frames s → Settled a frames
settled_of a frames s none h = record { leaves = h.leaves; loop = h.loop; labels = h.labels; loops = λ l k. first l (h.loops l k) }
  where
    first : (l : Text) → (has_goal (Again (Some l)) frames ≡ true) ⊎ ((is_labelled l frames ≡ true) × IsLoopHere s) → has_goal (Again (Some l)) frames ≡ true
    first l (inl here) = here
    first l (inr later) = absurd (none later.1)

not_true : ◌≡◌ {A = Bool} false true → ⊥
not_true e = cc

either_if : (b x : Bool) → x ≡ true → (if b then true else x) ≡ true
either_if true x h = refl
either_if false x h = h

here_if : (b x : Bool) → b ≡ true → (if b then true else x) ≡ true
here_if true x h = refl
here_if false x h = absurd (cc)

-- inside a loop
loop_settled : (a : JumpContext Text) (frames : List Frame) (s : Stmt) → Fits a frames s → Settled (record a { loop = true; leaves = true }) (Loop ∷ frames)
loop_settled a frames s h = record { leaves = λ k. refl; loop = λ k. refl; labels = h.labels; loops = λ l k. inside l (h.loops l k) }
  where
    inside : (l : Text) → (has_goal (Again (Some l)) frames ≡ true) ⊎ ((is_labelled l frames ≡ true) × IsLoopHere s) → has_goal (Again (Some l)) (Loop ∷ frames) ≡ true
    inside l (inl here) = either_if (is_labelled l frames) (has_goal (Again (Some l)) frames) here
    inside l (inr later) = here_if (is_labelled l frames) (has_goal (Again (Some l)) frames) later.0

keys_settled : (a : JumpContext Text) (frames : List Frame) (s : Stmt) → Fits a frames s → Settled (record a { loop = true; leaves = true }) (KeysLoop ∷ frames)
keys_settled a frames s h = record { leaves = λ k. refl; loop = λ k. refl; labels = h.labels; loops = λ l k. inside l (h.loops l k) }
  where
    inside : (l : Text) → (has_goal (Again (Some l)) frames ≡ true) ⊎ ((is_labelled l frames ≡ true) × IsLoopHere s) → has_goal (Again (Some l)) (KeysLoop ∷ frames) ≡ true
    inside l (inl here) = either_if (is_labelled l frames) (has_goal (Again (Some l)) frames) here
    inside l (inr later) = here_if (is_labelled l frames) (has_goal (Again (Some l)) frames) later.0

switch_settled : (a : JumpContext Text) (frames : List Frame) → Settled a frames → Settled (record a { leaves = true }) (Switching ∷ frames)
switch_settled a frames h = record { leaves = λ k. refl; loop = h.loop; labels = h.labels; loops = h.loops }

-- after a label
equal_texts : (x y : Text) → bytes_eq x y ≡ true → bytes_eq y x ≡ true
equal_texts x y h = (bytes_decides y x).1 (sym ((bytes_decides x y).0 h))

or_cases : (b c : Bool) → (b || c) ≡ true → (b ≡ true) ⊎ (c ≡ true)
or_cases true c h = inl refl
or_cases false c h = inr h

or_false : (b : Bool) → (b || false) ≡ true → b ≡ true
or_false true h = refl
or_false false h = h

more_label : (l name : Text) (xs : List Text) → has bytes_eq l (xs ++ name ∷ []) ≡ true → (has bytes_eq l xs ≡ true) ⊎ (bytes_eq name l ≡ true)
more_label l name xs h = elim (or_cases (has bytes_eq l xs) (bytes_eq l name || false) (sym (list_any-append (bytes_eq l) xs (name ∷ [])) ∙ h)) [
  | inl old ↦ inl old
  | inr new ↦ inr (equal_texts l name (or_false (bytes_eq l name) new))
]

more_loop : (l name : Text) (xs : List Text) (b : Bool) → has bytes_eq l (xs ++ cond b (name ∷ []) []) ≡ true → (has bytes_eq l xs ≡ true) ⊎ ((bytes_eq name l ≡ true) × (b ≡ true))
more_loop l name xs true h = elim (more_label l name xs h) [ inl old ↦ inl old | inr new ↦ inr (new, refl) ]
more_loop l name xs false h = elim (or_cases (has bytes_eq l xs) false (sym (list_any-append (bytes_eq l) xs []) ∙ h)) [ inl old ↦ inl old | inr none ↦ absurd (not_true none) ]

abbrev behind_label : Named → Stmt → JumpContext Text → JumpContext Text
behind_label name body a = within (told.Label (spelled name)) (labelled_region (labels_on body) (tells_stmt false body nothing)) a

label_fits : (a : JumpContext Text) (frames : List Frame) (name : Named) (body : Stmt) → Fits a frames (Label name body) → Fits (behind_label name body a) (Labelled name.text ∷ frames) body
label_fits a frames name body h = record {
  leaves = h.leaves;
  loop = h.loop;
  labels = λ l k. elim (more_label l name.text a.labels k) [
    | inl old ↦ either_if (bytes_eq name.text l) (has_goal (Out (Some l)) frames) (h.labels l old)
    | inr new ↦ here_if (bytes_eq name.text l) (has_goal (Out (Some l)) frames) new
  ];
  loops = λ l k. elim (more_loop l name.text a.loops (is_loop (labelled_region (labels_on body) (tells_stmt false body nothing))) k) [
    | inl old ↦ older l (h.loops l old)
    | inr new ↦ inr (here_if (bytes_eq name.text l) (is_labelled l frames) new.0, new.1)
  ];
}
  where
    older : (l : Text) → (has_goal (Again (Some l)) frames ≡ true) ⊎ ((is_labelled l frames ≡ true) × IsLoopHere (Label name body)) → (has_goal (Again (Some l)) (Labelled name.text ∷ frames) ≡ true) ⊎ ((is_labelled l (Labelled name.text ∷ frames) ≡ true) × IsLoopHere body)
    older l (inl here) = inl here
    older l (inr later) = inr (either_if (bytes_eq name.text l) (is_labelled l frames) later.0, later.1)

pub region_clean : (a : JumpContext Text) (b : Bool) (t : Told Text) → IsClean a (labelled_region b t) → IsClean a t
region_clean a true t h = h
region_clean a false t h = clean_inside a told.Block 0 t nothing h

-- ---- jumps

wanted : (b : Bool) (at : ℕ) → cond b [] (at ∷ []) ≡ [] → b ≡ true
wanted true at h = refl
wanted false at h = absurd (cc)

break_there : (a : JumpContext Text) (frames : List Frame) (at : ℕ) (label : Option Named) → Settled a frames → wrong_jump bytes_eq a (told.Jumped word.Break at (spelled_label label)) ≡ [] → IsTrue (has_goal (Out (label_text label)) frames)
break_there a frames at None s h = s.leaves (wanted a.leaves at h)
break_there a frames at (Some name) s h = s.labels name.text (wanted (has bytes_eq name.text a.labels) name.at h)

continue_there : (a : JumpContext Text) (frames : List Frame) (at : ℕ) (label : Option Named) → Settled a frames → wrong_jump bytes_eq a (told.Jumped word.Continue at (spelled_label label)) ≡ [] → IsTrue (has_goal (Again (label_text label)) frames)
continue_there a frames at None s h = s.loop (wanted a.loop at h)
continue_there a frames at (Some name) s h = s.loops name.text (wanted (has bytes_eq name.text a.loops) name.at (nil_right (cond a.loop [] (at ∷ [])) (cond (has bytes_eq name.text a.loops) [] (name.at ∷ [])) h))

pub declares_pass : (a : JumpContext Text) (top : Bool) (name : Option Named) (t : Told Text) → IsClean a (declares_function top name t) → IsClean a t
declares_pass a top None t h = h
declares_pass a top (Some name) t h = h

-- ---- the equations

-- the statement has its targets, and nothing is wrong after it
record Good (a : JumpContext Text) (t : Told Text) (P : Type 0) : Type 0 where
  targets : P
  behind : IsClean a t

mutual
  stmt_good : (m : Bodies) (inside top : Bool) (s : Stmt) (a : JumpContext Text) (frames : List Frame) (t : Told Text) → ProperStmt m inside s → notes_stmt s ≡ [] → Fits a frames s → IsClean a (tells_stmt top s t) → Good a t (StmtTargets s frames)
  stmt_good m inside top (Block items) a frames t p n f h = record {
    targets = (stmts_good m inside false items a frames nothing p n (settled_of a frames (Block items) not_true f) (clean_inside a told.Block 0 (tells_stmts false items nothing) t h)).targets;
    behind = clean_behind a told.Block 0 (tells_stmts false items nothing) t h;
  }
  stmt_good m inside top Empty a frames t p n f h = record { targets = tt; behind = h }
  stmt_good m inside top (Debugger semi) a frames t p n f h = record { targets = tt; behind = h }
  stmt_good m inside top (Binding kind binds semi) a frames t p n f h = record { targets = binds_assign m binds p.1 (nil_right (const_errors kind binds) (notes_binds binds) n); behind = binds_pass a kind binds t h }
  stmt_good m inside top (Value value semi) a frames t p n f h = record { targets = expr_assigns m value p.2 n; behind = expr_passes a value t h }
  stmt_good m inside top (If test then_stmt else_stmt) a frames t p n f h =
      let more = nil_right (notes_expr test) (notes_stmt then_stmt ++ notes_maybe_stmt else_stmt) n in
      let s : Settled a frames = settled_of a frames (If test then_stmt else_stmt) not_true f in
      let first = stmt_good m inside false then_stmt a frames (tells_maybe_stmt else_stmt t) p.2 (nil_left (notes_stmt then_stmt) (notes_maybe_stmt else_stmt) more) (fits_of a frames then_stmt s) (expr_passes a test (tells_stmt false then_stmt (tells_maybe_stmt else_stmt t)) h) in
      let second = else_good m inside else_stmt a frames t p.4 (nil_right (notes_stmt then_stmt) (notes_maybe_stmt else_stmt) more) s first.behind in
      record { targets = (expr_assigns m test p.0 (nil_left (notes_expr test) (notes_stmt then_stmt ++ notes_maybe_stmt else_stmt) n), first.targets, second.targets); behind = second.behind }
  stmt_good m inside top (Do body test semi) a frames t p n f h =
      let in_loop : Told Text = tells_stmt false body (tells_expr test nothing) in
      let around : JumpContext Text = record a { loop = true; leaves = true } in
      record {
        targets = (
          (stmt_good m inside false body around (Loop ∷ frames) (tells_expr test nothing) p.1 (nil_left (notes_stmt body) (notes_expr test) n) (fits_of around (Loop ∷ frames) body (loop_settled a frames (Do body test semi) f)) (clean_inside a told.Loop 0 in_loop t h)).targets,
          expr_assigns m test p.2 (nil_right (notes_stmt body) (notes_expr test) n),
        );
        behind = clean_behind a told.Loop 0 in_loop t h;
      }
  stmt_good m inside top (While test body) a frames t p n f h =
      let in_loop : Told Text = tells_expr test (tells_stmt false body nothing) in
      let around : JumpContext Text = record a { loop = true; leaves = true } in
      record {
        targets = (
          expr_assigns m test p.0 (nil_left (notes_expr test) (notes_stmt body) n),
          (stmt_good m inside false body around (Loop ∷ frames) nothing p.2 (nil_right (notes_expr test) (notes_stmt body) n) (fits_of around (Loop ∷ frames) body (loop_settled a frames (While test body) f)) (expr_passes around test (tells_stmt false body nothing) (clean_inside a told.Loop 0 in_loop t h))).targets,
        );
        behind = clean_behind a told.Loop 0 in_loop t h;
      }
  stmt_good m inside top (For init test update body) a frames t p n f h =
      let told_body : Told Text = tells_stmt false body nothing in
      let in_head : Told Text = tells_init init (tells_maybe test (tells_maybe update told_body)) in
      let in_loop : Told Text = inner told.ForHead 0 in_head nothing in
      let around : JumpContext Text = record a { loop = true; leaves = true } in
      let head : IsClean around in_head = clean_inside around told.ForHead 0 in_head nothing (clean_inside a told.Loop 0 in_loop t h) in
      let n1 = nil_right (notes_init init) (notes_maybe test ++ (notes_maybe update ++ notes_stmt body)) n in
      let n2 = nil_right (notes_maybe test) (notes_maybe update ++ notes_stmt body) n1 in
      record {
        targets = (
          init_assigns m init p.0 (nil_left (notes_init init) (notes_maybe test ++ (notes_maybe update ++ notes_stmt body)) n),
          option_assigns m test p.1 (nil_left (notes_maybe test) (notes_maybe update ++ notes_stmt body) n1),
          option_assigns m update p.2 (nil_left (notes_maybe update) (notes_stmt body) n2),
          (stmt_good m inside false body around (Loop ∷ frames) nothing p.4 (nil_right (notes_maybe update) (notes_stmt body) n2) (fits_of around (Loop ∷ frames) body (loop_settled a frames (For init test update body) f)) (maybe_passes around update told_body (maybe_passes around test (tells_maybe update told_body) (init_passes around init (tells_maybe test (tells_maybe update told_body)) head)))).targets,
        );
        behind = clean_behind a told.Loop 0 in_loop t h;
      }
  stmt_good m inside top (ForIn each over body) a frames t p n f h =
      let told_body : Told Text = tells_stmt false body nothing in
      let in_head : Told Text = tells_each each (tells_expr over told_body) in
      let in_loop : Told Text = inner told.ForHead 0 in_head nothing in
      let around : JumpContext Text = record a { loop = true; leaves = true } in
      let head : IsClean around in_head = clean_inside around told.ForHead 0 in_head nothing (clean_inside a told.Loop 0 in_loop t h) in
      let n1 = nil_right (notes_each each) (notes_expr over ++ notes_stmt body) n in
      record {
        targets = (
          each_assigns m each p.0 (nil_left (notes_each each) (notes_expr over ++ notes_stmt body) n),
          expr_assigns m over p.1 (nil_left (notes_expr over) (notes_stmt body) n1),
          (stmt_good m inside false body around (KeysLoop ∷ frames) nothing p.3 (nil_right (notes_expr over) (notes_stmt body) n1) (fits_of around (KeysLoop ∷ frames) body (keys_settled a frames (ForIn each over body) f)) (expr_passes around over told_body (each_passes around each (tells_expr over told_body) head))).targets,
        );
        behind = clean_behind a told.Loop 0 in_loop t h;
      }
  stmt_good m inside top (Continue at label semi) a frames t p n f h = record {
    targets = continue_there a frames at label (settled_of a frames (Continue at label semi) not_true f) (nil_left (wrong_jump bytes_eq a (told.Jumped word.Continue at (spelled_label label))) (wrong_jumps bytes_eq a t) h);
    behind = nil_right (wrong_jump bytes_eq a (told.Jumped word.Continue at (spelled_label label))) (wrong_jumps bytes_eq a t) h;
  }
  stmt_good m inside top (Break at label semi) a frames t p n f h = record {
    targets = break_there a frames at label (settled_of a frames (Break at label semi) not_true f) (nil_left (wrong_jump bytes_eq a (told.Jumped word.Break at (spelled_label label))) (wrong_jumps bytes_eq a t) h);
    behind = nil_right (wrong_jump bytes_eq a (told.Jumped word.Break at (spelled_label label))) (wrong_jumps bytes_eq a t) h;
  }
  stmt_good m inside top (Return value semi) a frames t p n f h = record { targets = option_assigns m value p.1 n; behind = maybe_passes a value t h }
  stmt_good m inside top (Throw value semi) a frames t p n f h = record { targets = expr_assigns m value p n; behind = expr_passes a value t h }
  stmt_good m inside top (Switch of clauses) a frames t p n f h =
      let in_switch : Told Text = tells_clauses clauses nothing in
      let around : JumpContext Text = record a { leaves = true } in
      let region : IsClean a (inner told.Switch 0 in_switch t) = expr_passes a of (inner told.Switch 0 in_switch t) h in
      record {
        targets = (
          expr_assigns m of p.0 (nil_left (notes_expr of) (notes_clauses clauses) n),
          (clauses_good m inside clauses around (Switching ∷ frames) nothing p.2 (nil_right (notes_expr of) (notes_clauses clauses) n) (switch_settled a frames (settled_of a frames (Switch of clauses) not_true f)) (clean_inside a told.Switch 0 in_switch t region)).targets,
        );
        behind = clean_behind a told.Switch 0 in_switch t region;
      }
  stmt_good m inside top (Label name body) a frames t p n f h =
      let region : Told Text = labelled_region (labels_on body) (tells_stmt false body nothing) in
      record {
        targets = (stmt_good m inside false body (behind_label name body a) (Labelled name.text ∷ frames) nothing p.1 n (label_fits a frames name body f) (region_clean (behind_label name body a) (labels_on body) (tells_stmt false body nothing) (clean_inside a (told.Label (spelled name)) 0 region t h))).targets;
        behind = clean_behind a (told.Label (spelled name)) 0 region t h;
      }
  stmt_good m inside top (Try body None handler) a frames t p n f h =
      let s : Settled a frames = settled_of a frames (Try body None handler) not_true f in
      let second : Told Text = inner told.Block 0 (tells_stmts false handler nothing) t in
      let later : IsClean a second = clean_behind a told.Block 0 (tells_stmts false body nothing) second h in
      record {
        targets = (
          (stmts_good m inside false body a frames nothing p.0 (nil_left (notes_stmts body) (notes_stmts handler) n) s (clean_inside a told.Block 0 (tells_stmts false body nothing) second h)).targets,
          (stmts_good m inside false handler a frames nothing p.1 (nil_right (notes_stmts body) (notes_stmts handler) n) s (clean_inside a told.Block 0 (tells_stmts false handler nothing) t later)).targets,
        );
        behind = clean_behind a told.Block 0 (tells_stmts false handler nothing) t later;
      }
  stmt_good m inside top (Try body (Some name) handler) a frames t p n f h =
      let s : Settled a frames = settled_of a frames (Try body (Some name) handler) not_true f in
      let block : Told Text = inner told.Block 0 (tells_stmts false handler nothing) nothing in
      let in_catch : Told Text = tells_name how.Catch name block in
      let second : Told Text = inner told.Catch 0 in_catch t in
      let later : IsClean a second = clean_behind a told.Block 0 (tells_stmts false body nothing) second h in
      record {
        targets = (
          (stmts_good m inside false body a frames nothing p.0 (nil_left (notes_stmts body) (notes_stmts handler) n) s (clean_inside a told.Block 0 (tells_stmts false body nothing) second h)).targets,
          (stmts_good m inside false handler a frames nothing p.1 (nil_right (notes_stmts body) (notes_stmts handler) n) s (clean_inside a told.Block 0 (tells_stmts false handler nothing) nothing (clean_inside a told.Catch 0 in_catch t later))).targets,
        );
        behind = clean_behind a told.Catch 0 in_catch t later;
      }
  stmt_good m inside top (Declared g) a frames t p n f h = record { targets = tt; behind = function_passes a g t (declares_pass a top (function_name g) (tells_function g t) h) }

  stmts_good : (m : Bodies) (inside top : Bool) (ss : Stmts) (a : JumpContext Text) (frames : List Frame) (t : Told Text) → ProperStmts m inside ss → notes_stmts ss ≡ [] → Settled a frames → IsClean a (tells_stmts top ss t) → Good a t (StmtsTarget ss frames)
  stmts_good m inside top no_stmts a frames t p n s h = record { targets = tt; behind = h }
  stmts_good m inside top (more_stmts x rest) a frames t p n s h =
      let first = stmt_good m inside top x a frames (tells_stmts top rest t) p.0 (nil_left (notes_stmt x) (notes_stmts rest) n) (fits_of a frames x s) h in
      let more = stmts_good m inside top rest a frames t p.1 (nil_right (notes_stmt x) (notes_stmts rest) n) s first.behind in
      record { targets = (first.targets, more.targets); behind = more.behind }

  else_good : (m : Bodies) (inside : Bool) (x : MaybeStmt) (a : JumpContext Text) (frames : List Frame) (t : Told Text) → ProperElse m inside x → notes_maybe_stmt x ≡ [] → Settled a frames → IsClean a (tells_maybe_stmt x t) → Good a t (ElseTargets x frames)
  else_good m inside no_stmt a frames t p n s h = record { targets = tt; behind = h }
  else_good m inside (some_stmt x) a frames t p n s h = stmt_good m inside false x a frames t p.1 n (fits_of a frames x s) h

  clauses_good : (m : Bodies) (inside : Bool) (cs : Clauses) (a : JumpContext Text) (frames : List Frame) (t : Told Text) → ProperClauses m inside cs → notes_clauses cs ≡ [] → Settled a frames → IsClean a (tells_clauses cs t) → Good a t (ClausesTarget cs frames)
  clauses_good m inside no_clauses a frames t p n s h = record { targets = tt; behind = h }
  clauses_good m inside (more_clauses test items rest) a frames t p n s h =
      let n1 = nil_right (notes_maybe test) (notes_stmts items ++ notes_clauses rest) n in
      let first = stmts_good m inside false items a frames (tells_clauses rest t) p.1 (nil_left (notes_stmts items) (notes_clauses rest) n1) s (maybe_passes a test (tells_stmts false items (tells_clauses rest t)) h) in
      let more = clauses_good m inside rest a frames t p.2 (nil_right (notes_stmts items) (notes_clauses rest) n1) s first.behind in
      record { targets = (option_assigns m test p.0 (nil_left (notes_maybe test) (notes_stmts items ++ notes_clauses rest) n), first.targets, more.targets); behind = more.behind }

-- ---- functions and scripts

none_around : Settled nothing_around []
none_around = record { leaves = λ k. absurd (not_true k); loop = λ k. absurd (not_true k); labels = λ l k. absurd (not_true k); loops = λ l k. absurd (not_true k) }

-- a function has nothing around it
around_by : (arrow : Bool) (i : Told Text) (a : JumpContext Text) → within (cond arrow told.Arrow told.Function) i a ≡ nothing_around
around_by true i a = refl
around_by false i a = refl

pub body_clean : (a : JumpContext Text) (b : Bool) (t : Told Text) → IsClean a (body_region b t) → IsClean a t
body_clean a true t h = clean_inside a told.VarBody 0 t nothing h
body_clean a false t h = h

-- a function that is proper, that has no early error of the rules that look at no region, and that has no wrong jump
pub function_targets : (f : Function) (a : JumpContext Text) (t : Told Text) → ProperFunction whole f → notes_function f ≡ [] → IsClean a (tells_function f t) → FunctionTargets f
function_targets (function form start end name ps comma bare body) a t p n h = (params_assign whole ps p.3 (nil_left (notes_params ps) (body_errors (has_initializer ps || has_rest ps) body ++ notes_body body) n1), body_targets body p.4 n3 body_is_clean)
  where
    in_body : Told Text
    in_body = body_region (has_initializer ps) (tells_body body)

    in_function : Told Text
    in_function = tells_params ps in_body

    n1 : notes_params ps ++ (body_errors (has_initializer ps || has_rest ps) body ++ notes_body body) ≡ []
    n1 = nil_right (params_error limit ps) (notes_params ps ++ (body_errors (has_initializer ps || has_rest ps) body ++ notes_body body)) n

    n3 : notes_body body ≡ []
    n3 = nil_right (body_errors (has_initializer ps || has_rest ps) body) (notes_body body) (nil_right (notes_params ps) (body_errors (has_initializer ps || has_rest ps) body ++ notes_body body) n1)

    inside_clean : IsClean nothing_around in_function
    inside_clean = subst (λ (x : JumpContext Text). IsClean x in_function) (around_by (is_arrow_form form) in_function a) (clean_inside a (function_region form) start in_function t h)

    body_is_clean : IsClean nothing_around (tells_body body)
    body_is_clean = body_clean nothing_around (has_initializer ps) (tells_body body) (params_pass nothing_around ps in_body inside_clean)

    body_targets : (b : Body) → ProperBody whole form b → notes_body b ≡ [] → IsClean nothing_around (tells_body b) → BodyTargets b
    body_targets (ShortBody value) q k c = expr_assigns whole value q.3 k
    body_targets (BracedBody items) q k c = (stmts_good whole true true items nothing_around [] nothing q k none_around c).targets

-- ---- no early error

sooner_first : (x y : Option Early) → sooner x y ≡ None → x ≡ None
sooner_first None y h = refl
sooner_first (Some x) None h = absurd (cc)
sooner_first (Some x) (Some y) h = absurd (some_by (is_sooner y x) h)
  where
    some_by : (b : Bool) → ◌≡◌ {A = Option Early} (cond b (Some y) (Some x)) None → ⊥
    some_by true e = cc
    some_by false e = cc

sooner_second : (x y : Option Early) → sooner x y ≡ None → y ≡ None
sooner_second None y h = h
sooner_second (Some x) None h = refl
sooner_second (Some x) (Some y) h = absurd (some_by (is_sooner y x) h)
  where
    some_by : (b : Bool) → ◌≡◌ {A = Option Early} (cond b (Some y) (Some x)) None → ⊥
    some_by true e = cc
    some_by false e = cc

no_note : (es : List Early) → first_note es ≡ None → es ≡ []
no_note [] h = refl
no_note (e ∷ es) h = absurd (some_none e (sooner_first (Some e) (first_note es) h))
  where
    some_none : (x : Early) → ◌≡◌ {A = Option Early} (Some x) None → ⊥
    some_none x k = cc

no_smallest : (xs : List ℕ) → smallest xs ≡ None → xs ≡ []
no_smallest [] h = refl
no_smallest (x ∷ xs) h = absurd (some_by (smallest xs) h)
  where
    some_by : (y : Option ℕ) → smaller (Some x) y ≡ None → ⊥
    some_by None k = cc
    some_by (Some y) k = cc

no_offset : (rule : ℕ) (o : Option ℕ) → error_of rule o ≡ None → o ≡ None
no_offset rule None h = refl
no_offset rule (Some x) h = absurd (cc)

-- what follows for a script without an early error
pub no_notes : (items : Stmts) → early_error items ≡ None → notes_stmts items ≡ []
no_notes items h = no_note (notes_stmts items) (sooner_first (first_note (notes_stmts items)) _ h)

ninth : (n a b c d e f g z : Option Early) → sooner n (sooner a (sooner b (sooner c (sooner d (sooner e (sooner f (sooner g z))))))) ≡ None → z ≡ None
ninth n a b c d e f g z h =
    sooner_second g z (sooner_second f (sooner g z) (sooner_second e (sooner f (sooner g z)) (sooner_second d (sooner e (sooner f (sooner g z)))
    (sooner_second c (sooner d (sooner e (sooner f (sooner g z)))) (sooner_second b (sooner c (sooner d (sooner e (sooner f (sooner g z)))))
    (sooner_second a (sooner b (sooner c (sooner d (sooner e (sooner f (sooner g z)))))) (sooner_second n (sooner a (sooner b (sooner c (sooner d (sooner e (sooner f (sooner g z))))))) h)))))))

pub no_wrong_jump : (items : Stmts) → early_error items ≡ None → IsClean nothing_around (tells_script items)
no_wrong_jump items h =
    let t : Told Text = tells_script items in
    no_smallest (wrong_jumps bytes_eq nothing_around t) (no_offset 11 (smallest (wrong_jumps bytes_eq nothing_around t))
    (ninth (first_note (notes_stmts items)) (error_of 1 (smallest (at_regions (twice_lexical bytes_eq) t))) (error_of 2 (smallest (at_regions (lexical_and_var bytes_eq) t))) (error_of 3 (smallest (at_regions (head_and_var bytes_eq) t)))
    (error_of 4 (smallest (at_regions (catch_and_lexical bytes_eq) t))) (error_of 5 (smallest (at_regions (param_and_lexical bytes_eq) t))) (error_of 6 (smallest (at_regions (twice_param bytes_eq) t)))
    (error_of 9 (smallest (at_regions (binds_reserved bytes_eq known_texts) t))) (error_of 11 (smallest (wrong_jumps bytes_eq nothing_around t))) h))

-- a proper script without an early error
pub script_targets : (items : Stmts) → ProperStmts whole false items → early_error items ≡ None → StmtsTarget items []
script_targets items p h = (stmts_good whole false true items nothing_around [] nothing p (no_notes items h) none_around (clean_inside nothing_around told.Script 0 (tells_stmts true items nothing) nothing (no_wrong_jump items h))).targets
