-- Rows of `for` and for-in, with the scopes of their heads.
use Rattle.std.proofs.Common.{◌≡◌, ℕ, ◌+◌, ◌<◌, ◌^◌, Bool, true, false, ◌&&◌, nat_lt, List, ◌∷◌, ◌++◌, Option, Some, None, length, sym, ◌∙◌, ap, ap₂, subst, add-zero, zero-add}
use Rattle.script_grammar.specs.declared.tree.Each.{Each}
use Rattle.script_grammar.specs.declared.tree.Expr.{Expr}
use Rattle.script_grammar.specs.declared.tree.Init.{Init}
use Rattle.script_grammar.specs.declared.tree.Stmt.{Stmt}
use Rattle.script_grammar.specs.Tree as model
use Rattle.script_grammar.specs.TreeOf.{expr_of, each_of, init_of, stmt_of}
use Rattle.scope_analysis.specs.DeclaredNames.{Declaration, init_lexical_names, each_lexical_names}
use Rattle.scope_analysis.specs.Scopes.{count_stmt}
use Rattle.stencil_data.specs.declared.stencils.TryNote.{TryNote}
use Rattle.bytecode_buf.specs.declared.opcode.Op.TheVariants as op
use Rattle.bytecode_buf.specs.declared.waits.Wait.{Wait}
use Rattle.bytecode_buf.specs.Emits.{emitted}
use Rattle.bytecode_buf.specs.Pieces.{Code}
use Rattle.bytecode_buf.proofs.AppendLemmas.{emits_none}
use Rattle.emit_exprs.specs.Exprs.{Scene, expr_code}
use Rattle.emit_exprs.specs.Fitting.{ExprFits, MaybeExprFits}
use Rattle.emit_exprs.specs.Sites.{EmitsAt}
use Rattle.emit_exprs.specs.Whole.{just}
use Rattle.emit_exprs.proofs.Writing.{written_of}
use Rattle.emit_exprs.proofs.Writing as expr
use Rattle.emit_stmts.specs.declared.stmt_context.StmtContext.{StmtContext}
use Rattle.emit_stmts.specs.Declares.{declares}
use Rattle.emit_stmts.specs.Frames.{Frame, Loop, KeysLoop, Entered, kept_values, leave_scope}
use Rattle.emit_stmts.specs.HeadCode.{freshen_head}
use Rattle.emit_stmts.specs.PartCode.{ForWritten, ForInWritten, maybe_in, turns_code}
use Rattle.emit_stmts.specs.Positions.{Position, position_of, World, setting, within}
use Rattle.emit_stmts.specs.StmtCode.{Written, RowWritten}
use Rattle.emit_stmts.specs.StmtFits.{HasRoom, StmtFits, InitFits, EachFits}
use Rattle.emit_stmts.specs.Stmts.{scene_at, enter_scope, no_functions, freshen, init_code, stmt_code, for_code, for_in_code, test_code, update_code, store_each}
use Rattle.emit_stmts.specs.ValueCode.{InitEmits}
use Rattle.emit_stmts.proofs.Scoped.{declared_some, left_out, count_some, count_none, room_some, room_none, scoped_plain, unscoped, freshen_some, freshen_none, inner_position, nowhere, written_scope}
use Rattle.emit_stmts.proofs.Writing.{written_plain, written_both, written_by, scene_is}

-- ---- for

abbrev for_fits : Init → Option Expr → Option Expr → Stmt → Position → World → Type 0
for_fits init test update body q w = InitFits (init_of (within q w) init) × (MaybeExprFits (maybe_in q w test) × MaybeExprFits (maybe_in q w update) × StmtFits q.room (kept_values q.frames) (stmt_of (within q w) body))

-- what stands in the scope of the head, by the code of a new environment
abbrev for_part : Code → Init → Option Expr → Option Expr → Stmt → Position → World → ℕ → List Frame → Code
for_part fresh init test update body q w i frames =
    init_code (scene_at (setting q w) frames) (init_of (within q w) init) ++ fresh
    ++ for_code (length frames) (test_code (scene_at (setting q w) (Loop ∷ frames)) (length frames) (maybe_in q w test)) (stmt_code (setting q w) (stmt_of (within q w) body) i (Loop ∷ frames)) fresh (update_code (scene_at (setting q w) (Loop ∷ frames)) (maybe_in q w update))

abbrev body_count : Stmt → Position → World → ℕ
body_count body q w = count_stmt (stmt_of (within q w) body)

for_written : {a b c d : List ℕ} {ws ws_new : List Wait} {ns ns_new : List TryNote} {k l : ℕ} (s : StmtContext) (head : Option ℕ) (init : Init) (test update : Option Expr) (body : Stmt)
    → InitEmits s.exprs a b init → EmitsAt s.exprs b c (freshen_head (position_of s).scopes head) → ForWritten (position_of s) (emitted c ws ns) (emitted d ws_new ns_new) k l head test update body
    → Written (position_of s) (emitted a ws ns) (emitted d ws_new ns_new) k l (for_fits init test update body (position_of s)) (body_count body (position_of s)) (λ w i. for_part (freshen_head (position_of s).scopes head) init test update body (position_of s) w i (position_of s).frames)
for_written {ws = ws} {ns = ns} {k = k} s head init test update body x y z =
    written_by (λ w f. ((f.0, tt), f.1)) (λ w f. zero-add (body_count body (position_of s) w))
    (λ w stands f. ap₂ (λ (c : Scene) (i : ℕ). init_code c (init_of (within (position_of s) w) init) ++ freshen_head (position_of s).scopes head ++ turns_code (setting (position_of s) w) head (maybe_in (position_of s) w test) (maybe_in (position_of s) w update) (stmt_of (within (position_of s) w) body) i (position_of s).frames) (scene_is (position_of s) w stands) (add-zero k))
    (written_both (written_plain s ws ns k (expr.written_both x.made (written_of y))) z.code)

pub for_scoped : {a b c d e f : List ℕ} {ws ws_new : List Wait} {ns ns_in ns_new : List TryNote} {k j l number : ℕ} {flag : Bool} (s inside : StmtContext) (init : Init) (test update : Option Expr) (body : Stmt)
    → ((w : World) → flag ≡ declares (init_lexical_names (init_of (within (position_of s) w) init))) → (flag && nat_lt 0 (position_of s).room) ≡ true
    → position_of inside ≡ inner_position (position_of s) k → ((w : World) → EmitsAt s.exprs a b (enter_scope (setting (position_of s) w) k)) → (k + 1 < 2 ^ 64 → j ≡ k + 1) → ns_in ≡ ns
    → InitEmits inside.exprs b c init → number ≡ k → EmitsAt inside.exprs c d (freshen_head (position_of inside).scopes (Some number)) → ForWritten (position_of inside) (emitted d ws ns_in) (emitted e ws_new ns_new) j l (Some number) test update body
    → EmitsAt s.exprs e f (leave_scope (position_of s).scopes number)
    → RowWritten (position_of s) (emitted a ws ns) (emitted f ws_new ns_new) k l (λ w. model.For (init_of (within (position_of s) w) init) (maybe_in (position_of s) w test) (maybe_in (position_of s) w update) (stmt_of (within (position_of s) w) body))
for_scoped {k = k} {number = number} {flag = flag} s inside init test update body flag_is enters is into next same x number_is fresh y leave = record {
  code = written_by
      (λ w g. (g.1, (g.2, g.3, subst (λ (r : ℕ). StmtFits r (kept_values (position_of s).frames) (stmt_of (within (position_of s) w) body)) (room_some (names w) (position_of s).room (some w)) g.4)))
      (λ w g. ap (λ (n : ℕ). n + body_count body (position_of s) w) (sym (count_some (names w) (some w))))
      (λ w stands g.
      ap (λ (n : ℕ). enter_scope (setting (position_of s) w) k ++ for_part (freshen_head (position_of s).scopes (Some n)) init test update body (position_of s) w (k + 1) (Entered k ∷ (position_of s).frames) ++ leave_scope (position_of s).scopes k) number_is
      ∙ (ap (λ (fresh : Code). enter_scope (setting (position_of s) w) k ++ for_part fresh init test update body (position_of s) w (k + 1) (Entered k ∷ (position_of s).frames) ++ leave_scope (position_of s).scopes k) (sym (freshen_some (setting (position_of s) w) (names w) k (some w)))
      ∙ sym (scoped_plain (setting (position_of s) w) (names w) (for_part (freshen (setting (position_of s) w) (names w) k) init test update body (position_of s) w) k (position_of s).frames (some w))))
      (written_scope s inside (for_fits init test update body) (body_count body) (λ q w i. for_part (freshen_head q.scopes (Some number)) init test update body q w i q.frames) (enter_scope (setting (position_of s) nowhere) k) is (into nowhere) next same (for_written inside (Some number) init test update body x fresh y) number_is leave);
}
  where
    names : World → List Declaration
    names w = init_lexical_names (init_of (within (position_of s) w) init)

    some : (w : World) → declares (names w) ≡ true
    some w = sym (flag_is w) ∙ declared_some flag (position_of s).room enters

pub for_plain : {a b c : List ℕ} {ws ws_new : List Wait} {ns ns_new : List TryNote} {k l : ℕ} {flag : Bool} (s : StmtContext) (init : Init) (test update : Option Expr) (body : Stmt)
    → ((w : World) → flag ≡ declares (init_lexical_names (init_of (within (position_of s) w) init))) → (flag && nat_lt 0 (position_of s).room) ≡ false
    → InitEmits s.exprs a b init → ForWritten (position_of s) (emitted b ws ns) (emitted c ws_new ns_new) k l None test update body
    → RowWritten (position_of s) (emitted a ws ns) (emitted c ws_new ns_new) k l (λ w. model.For (init_of (within (position_of s) w) init) (maybe_in (position_of s) w test) (maybe_in (position_of s) w update) (stmt_of (within (position_of s) w) body))
for_plain {b = b} {k = k} {flag = flag} s init test update body flag_is none x y = record {
  code = written_by
      (λ w g. (g.1, (g.2, g.3, subst (λ (r : ℕ). StmtFits r (kept_values (position_of s).frames) (stmt_of (within (position_of s) w) body)) (room_none (names w) (position_of s).room (out w g.0)) g.4)))
      (λ w g. sym (zero-add (body_count body (position_of s) w)) ∙ ap (λ (n : ℕ). n + body_count body (position_of s) w) (sym (count_none (names w) (out w g.0))))
      (λ w stands g.
      ap (λ (fresh : Code). for_part fresh init test update body (position_of s) w k (position_of s).frames) (sym (freshen_none (setting (position_of s) w) (names w) k (out w g.0)))
      ∙ sym (unscoped (setting (position_of s) w) (names w) no_functions (for_part (freshen (setting (position_of s) w) (names w) k) init test update body (position_of s) w) k (position_of s).frames (out w g.0)))
      (for_written s None init test update body x (emits_none s.exprs.texts.now b) y);
}
  where
    names : World → List Declaration
    names w = init_lexical_names (init_of (within (position_of s) w) init)

    out : (w : World) → HasRoom (names w) (position_of s).room → declares (names w) ≡ false
    out w fits = left_out flag (names w) (position_of s).room (flag_is w) none fits

-- ---- for-in

abbrev for_in_part : Code → Each → Expr → Stmt → Position → World → ℕ → List Frame → Code
for_in_part fresh each over body q w i frames =
    expr_code (scene_at (setting q w) frames) (expr_of (within q w) over) ++ just op.Iter
    ++ for_in_code (length frames) fresh (store_each (scene_at (setting q w) (KeysLoop ∷ frames)) (each_of (within q w) each)) (stmt_code (setting q w) (stmt_of (within q w) body) i (KeysLoop ∷ frames))

abbrev for_in_fits : Each → Expr → Stmt → Position → World → Type 0
for_in_fits each over body q w = EachFits (each_of (within q w) each) × ExprFits (expr_of (within q w) over) × StmtFits q.room (2 + kept_values q.frames) (stmt_of (within q w) body)

pub for_in_scoped : {a b c d : List ℕ} {ws ws_new : List Wait} {ns ns_in ns_new : List TryNote} {k j l number : ℕ} {flag : Bool} (s inside : StmtContext) (each : Each) (over : Expr) (body : Stmt)
    → ((w : World) → flag ≡ declares (each_lexical_names (each_of (within (position_of s) w) each))) → (flag && nat_lt 0 (position_of s).room) ≡ true
    → position_of inside ≡ inner_position (position_of s) k → ((w : World) → EmitsAt s.exprs a b (enter_scope (setting (position_of s) w) k)) → (k + 1 < 2 ^ 64 → j ≡ k + 1) → ns_in ≡ ns
    → number ≡ k → ForInWritten (position_of inside) (emitted b ws ns_in) (emitted c ws_new ns_new) j l (Some number) each over body
    → EmitsAt s.exprs c d (leave_scope (position_of s).scopes number)
    → RowWritten (position_of s) (emitted a ws ns) (emitted d ws_new ns_new) k l (λ w. model.ForIn (each_of (within (position_of s) w) each) (expr_of (within (position_of s) w) over) (stmt_of (within (position_of s) w) body))
for_in_scoped {k = k} {number = number} {flag = flag} s inside each over body flag_is enters is into next same number_is y leave = record {
  code = written_by
      (λ w g. (g.1, g.2, subst (λ (r : ℕ). StmtFits r (2 + kept_values (position_of s).frames) (stmt_of (within (position_of s) w) body)) (room_some (names w) (position_of s).room (some w)) g.3))
      (λ w g. ap (λ (n : ℕ). n + body_count body (position_of s) w) (sym (count_some (names w) (some w))))
      (λ w stands g.
      ap (λ (n : ℕ). enter_scope (setting (position_of s) w) k ++ for_in_part (freshen_head (position_of s).scopes (Some n)) each over body (position_of s) w (k + 1) (Entered k ∷ (position_of s).frames) ++ leave_scope (position_of s).scopes k) number_is
      ∙ (ap (λ (fresh : Code). enter_scope (setting (position_of s) w) k ++ for_in_part fresh each over body (position_of s) w (k + 1) (Entered k ∷ (position_of s).frames) ++ leave_scope (position_of s).scopes k) (sym (freshen_some (setting (position_of s) w) (names w) k (some w)))
      ∙ sym (scoped_plain (setting (position_of s) w) (names w) (for_in_part (freshen (setting (position_of s) w) (names w) k) each over body (position_of s) w) k (position_of s).frames (some w))))
      (written_scope s inside (for_in_fits each over body) (body_count body) (λ q w i. for_in_part (freshen_head q.scopes (Some number)) each over body q w i q.frames) (enter_scope (setting (position_of s) nowhere) k) is (into nowhere) next same y.code number_is leave);
}
  where
    names : World → List Declaration
    names w = each_lexical_names (each_of (within (position_of s) w) each)

    some : (w : World) → declares (names w) ≡ true
    some w = sym (flag_is w) ∙ declared_some flag (position_of s).room enters

pub for_in_plain : {a b : List ℕ} {ws ws_new : List Wait} {ns ns_new : List TryNote} {k l : ℕ} {flag : Bool} (s : StmtContext) (each : Each) (over : Expr) (body : Stmt)
    → ((w : World) → flag ≡ declares (each_lexical_names (each_of (within (position_of s) w) each))) → (flag && nat_lt 0 (position_of s).room) ≡ false
    → ForInWritten (position_of s) (emitted a ws ns) (emitted b ws_new ns_new) k l None each over body
    → RowWritten (position_of s) (emitted a ws ns) (emitted b ws_new ns_new) k l (λ w. model.ForIn (each_of (within (position_of s) w) each) (expr_of (within (position_of s) w) over) (stmt_of (within (position_of s) w) body))
for_in_plain {k = k} {flag = flag} s each over body flag_is none y = record {
  code = written_by
      (λ w g. (g.1, g.2, subst (λ (r : ℕ). StmtFits r (2 + kept_values (position_of s).frames) (stmt_of (within (position_of s) w) body)) (room_none (names w) (position_of s).room (out w g.0)) g.3))
      (λ w g. sym (zero-add (body_count body (position_of s) w)) ∙ ap (λ (n : ℕ). n + body_count body (position_of s) w) (sym (count_none (names w) (out w g.0))))
      (λ w stands g.
      ap (λ (fresh : Code). for_in_part fresh each over body (position_of s) w k (position_of s).frames) (sym (freshen_none (setting (position_of s) w) (names w) k (out w g.0)))
      ∙ sym (unscoped (setting (position_of s) w) (names w) no_functions (for_in_part (freshen (setting (position_of s) w) (names w) k) each over body (position_of s) w) k (position_of s).frames (out w g.0)))
      y.code;
}
  where
    names : World → List Declaration
    names w = each_lexical_names (each_of (within (position_of s) w) each)

    out : (w : World) → HasRoom (names w) (position_of s).room → declares (names w) ≡ false
    out w fits = left_out flag (names w) (position_of s).room (flag_is w) none fits
