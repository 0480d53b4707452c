-- Rows of choices and of labelled statements.
use Rattle.std.proofs.Common.{◌≡◌, ℕ, ◌+◌, List, [], ◌∷◌, ◌++◌, length, refl, sym, ap, add-zero, zero-add}
use Rattle.script_grammar.specs.declared.tree.Expr.{Expr}
use Rattle.script_grammar.specs.declared.tree.Ident.{Ident}
use Rattle.script_grammar.specs.declared.tree.Stmt.{Stmt}
use Rattle.script_grammar.specs.Interpretation.{named}
use Rattle.script_grammar.specs.Tree as model
use Rattle.script_grammar.specs.TreeOf.{expr_of, stmt_of}
use Rattle.scope_analysis.specs.Scopes.{count_stmt}
use Rattle.stencil_data.specs.declared.stencils.TryNote.{TryNote}
use Rattle.bytecode_buf.specs.declared.opcode.Op.TheVariants as op
use Rattle.bytecode_buf.specs.declared.waits.Aim.TheVariants as aim
use Rattle.bytecode_buf.specs.declared.waits.Wait.{Wait}
use Rattle.bytecode_buf.specs.Emits.{emitted, Waits, LandsHere}
use Rattle.bytecode_buf.specs.Pieces.{Waiting, here}
use Rattle.emit_exprs.specs.declared.uses.Use.TheVariants.{Plainly}
use Rattle.emit_exprs.specs.Exprs.{Scene, expr_code}
use Rattle.emit_exprs.specs.Fitting.{ExprFits}
use Rattle.emit_exprs.specs.Sites.{text_in}
use Rattle.emit_exprs.specs.TreeCode.{ExprEmits}
use Rattle.emit_stmts.specs.declared.stmt_context.StmtContext.{StmtContext}
use Rattle.emit_stmts.specs.Frames.{Labelled, kept_values}
use Rattle.emit_stmts.specs.PartCode.{FirstWritten, first_code}
use Rattle.emit_stmts.specs.Positions.{position_of, framed, scene, setting, within}
use Rattle.emit_stmts.specs.StmtCode.{Written, RowWritten, StmtWritten}
use Rattle.emit_stmts.specs.StmtFits.{StmtFits}
use Rattle.emit_stmts.specs.Stmts.{stmt_code, then_code}
use Rattle.emit_stmts.proofs.Writing.{written_plain, written_wait, written_both, written_here, written_from_none, written_by, scene_is}
use Rattle.emit_stmts.proofs.LoopRows.{framed_row}

-- ---- if

-- a test, and what follows where it holds
pub then_turn : {a b c d : List ℕ} {w0 w1 w2 : List Wait} {ns ns_new : List TryNote} {k l : ℕ} (s : StmtContext) (test : Expr) (body : Stmt) → w0 ≡ [] → ExprEmits s.exprs a b Plainly test → Waits op.JumpIfFalse aim.Otherwise b w0 c w1 → StmtWritten (position_of s) (emitted c w1 ns) (emitted d w2 ns_new) k l body
    → Written (position_of s) (emitted a [] ns) (emitted d w2 ns_new) k l (λ w. ExprFits (expr_of (within (position_of s) w) test) × StmtFits (position_of s).room (kept_values (position_of s).frames) (stmt_of (within (position_of s) w) body)) (λ w. count_stmt (stmt_of (within (position_of s) w) body))
    (λ w i. expr_code (scene (position_of s)) (expr_of (within (position_of s) w) test) ++ (Waiting op.JumpIfFalse aim.Otherwise ∷ []) ++ stmt_code (setting (position_of s) w) (stmt_of (within (position_of s) w) body) i (position_of s).frames)
then_turn {w0 = w0} {ns = ns} {k = k} s test body none x jump y =
    written_by (λ w f. ((f.0, tt), f.1)) (λ w f. zero-add _)
    (λ w stands f. ap (λ (i : ℕ). expr_code (scene (position_of s)) (expr_of (within (position_of s) w) test) ++ (Waiting op.JumpIfFalse aim.Otherwise ∷ []) ++ stmt_code (setting (position_of s) w) (stmt_of (within (position_of s) w) body) i (position_of s).frames) (add-zero k))
    (written_from_none none (written_both (written_both (written_plain s w0 ns k x.row.code) (written_wait op.JumpIfFalse aim.Otherwise (position_of s) ns k refl jump)) y.row.code))

abbrev ThenTurn : StmtContext → List ℕ → List ℕ → List Wait → List TryNote → List TryNote → ℕ → ℕ → Expr → Stmt → Type 0
ThenTurn s a d ws ns ns_new k l test body =
    Written (position_of s) (emitted a [] ns) (emitted d ws ns_new) k l (λ w. ExprFits (expr_of (within (position_of s) w) test) × StmtFits (position_of s).room (kept_values (position_of s).frames) (stmt_of (within (position_of s) w) body)) (λ w. count_stmt (stmt_of (within (position_of s) w) body))
    (λ w i. expr_code (scene (position_of s)) (expr_of (within (position_of s) w) test) ++ (Waiting op.JumpIfFalse aim.Otherwise ∷ []) ++ stmt_code (setting (position_of s) w) (stmt_of (within (position_of s) w) body) i (position_of s).frames)

pub then_row : {a d e : List ℕ} {w2 ws ws_new : List Wait} {ns ns_new : List TryNote} {k l : ℕ} (s : StmtContext) (test : Expr) (body : Stmt) → ThenTurn s a d w2 ns ns_new k l test body → LandsHere aim.Otherwise d w2 ws e ws_new
    → RowWritten (position_of s) (emitted a ws ns) (emitted e ws_new ns_new) k l (λ w. model.If (expr_of (within (position_of s) w) test) (stmt_of (within (position_of s) w) body) model.no_stmt)
then_row {k = k} s test body u lands = record {
  code = written_by (λ w f. (f.0, f.1)) (λ w f. sym (add-zero _)) (λ w stands f. ap (λ (c : Scene). then_code (expr_code c (expr_of (within (position_of s) w) test)) (stmt_code (setting (position_of s) w) (stmt_of (within (position_of s) w) body) k (position_of s).frames)) (scene_is (position_of s) w stands))
      (written_here aim.Otherwise lands u);
}

-- and a jump over what follows where it does not
pub first_turn : {a d e : List ℕ} {w2 w3 : List Wait} {ns ns_new : List TryNote} {k l : ℕ} (s : StmtContext) (test : Expr) (body : Stmt) → ThenTurn s a d w2 ns ns_new k l test body → Waits op.Goto aim.After d w2 e w3
    → Written (position_of s) (emitted a [] ns) (emitted e w3 ns_new) k l (λ w. (ExprFits (expr_of (within (position_of s) w) test) × StmtFits (position_of s).room (kept_values (position_of s).frames) (stmt_of (within (position_of s) w) body)) × Unit {0}) (λ w. count_stmt (stmt_of (within (position_of s) w) body) + 0)
    (λ w i. expr_code (scene (position_of s)) (expr_of (within (position_of s) w) test) ++ (Waiting op.JumpIfFalse aim.Otherwise ∷ []) ++ stmt_code (setting (position_of s) w) (stmt_of (within (position_of s) w) body) i (position_of s).frames ++ (Waiting op.Goto aim.After ∷ []))
first_turn {ns_new = ns_new} {l = l} s test body u jump = written_both u (written_wait op.Goto aim.After (position_of s) ns_new l refl jump)

pub first_row : {a d e f : List ℕ} {w2 w3 ws ws_new : List Wait} {ns ns_new : List TryNote} {k l : ℕ} (s : StmtContext) (test : Expr) (body : Stmt) → ThenTurn s a d w2 ns ns_new k l test body → Waits op.Goto aim.After d w2 e w3 → LandsHere aim.Otherwise e w3 ws f ws_new
    → FirstWritten (position_of s) (emitted a ws ns) (emitted f ws_new ns_new) k l test body
first_row {k = k} s test body u jump lands = record {
  code = written_by (λ w f. (f, tt)) (λ w f. add-zero _) (λ w stands f. ap (λ (c : Scene). first_code (expr_code c (expr_of (within (position_of s) w) test)) (stmt_code (setting (position_of s) w) (stmt_of (within (position_of s) w) body) k (position_of s).frames)) (scene_is (position_of s) w stands))
      (written_here aim.Otherwise lands (first_turn s test body u jump));
}

pub choice_row : {a b c d : List ℕ} {e0 e1 e2 ws ws_new : List Wait} {ns ns1 ns2 : List TryNote} {k j l : ℕ} (s : StmtContext) (test : Expr) (first second : Stmt) → e0 ≡ [] → FirstWritten (position_of s) (emitted a e0 ns) (emitted b e1 ns1) k j test first → StmtWritten (position_of s) (emitted b e1 ns1) (emitted c e2 ns2) j l second → LandsHere aim.After c e2 ws d ws_new
    → RowWritten (position_of s) (emitted a ws ns) (emitted d ws_new ns2) k l (λ w. model.If (expr_of (within (position_of s) w) test) (stmt_of (within (position_of s) w) first) (model.some_stmt (stmt_of (within (position_of s) w) second)))
choice_row s test first second none x y lands = record {
  code = written_by (λ w f. ((f.0, f.1), f.2)) (λ w f. refl) (λ w stands f. refl) (written_here aim.After lands (written_from_none none (written_both x.code y.row.code)));
}

-- ---- labels

pub label_row : {a b c : List ℕ} {w0 w1 ws ws_new : List Wait} {ns ns_new : List TryNote} {k l level : ℕ} (s inside : StmtContext) (name : Ident) (body : Stmt) → position_of inside ≡ framed (Labelled (text_in s.exprs name.atom) ∷ (position_of s).frames) (position_of s) → level ≡ length (position_of s).frames
    → w0 ≡ [] → StmtWritten (position_of inside) (emitted a w0 ns) (emitted b w1 ns_new) k l body → LandsHere (aim.Break level) b w1 ws c ws_new
    → RowWritten (position_of s) (emitted a ws ns) (emitted c ws_new ns_new) k l (λ w. model.Label (named (within (position_of s) w) name) (stmt_of (within (position_of s) w) body))
label_row {k = k} {level = level} s inside name body is level_is none x lands = record {
  code = framed_row s inside (Labelled (text_in s.exprs name.atom)) (λ q w. StmtFits q.room (kept_values q.frames) (stmt_of (within q w) body)) (λ q w. count_stmt (stmt_of (within q w) body)) (λ q w i. here (aim.Break level) (stmt_code (setting q w) (stmt_of (within q w) body) i q.frames)) is (λ base. refl) (λ w f. f) (λ w. refl)
      (λ w stands. ap (λ (n : ℕ). here (aim.Break n) (stmt_code (setting (position_of s) w) (stmt_of (within (position_of s) w) body) k (Labelled (text_in s.exprs name.atom) ∷ (position_of s).frames))) level_is)
      (written_here (aim.Break level) lands (written_from_none none x.row.code));
}
