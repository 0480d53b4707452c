-- Rows of statements that no other statement stands in.
use Rattle.std.proofs.Common.{◌≡◌, ℕ, Bool, List, ◌++◌, Option, Some, None, map, refl, sym, ap, add-zero}
use Rattle.script_grammar.specs.declared.token.Decl.{Decl}
use Rattle.script_grammar.specs.declared.tree.Bind.{Bind}
use Rattle.script_grammar.specs.declared.tree.Expr.{Expr}
use Rattle.script_grammar.specs.declared.tree.Ident.{Ident}
use Rattle.script_grammar.specs.Interpretation.{Interpretation, maybe_named}
use Rattle.script_grammar.specs.Tree as model
use Rattle.script_grammar.specs.TreeLists.{binds_of}
use Rattle.script_grammar.specs.TreeOf.{expr_of, bind_of}
use Rattle.stencil_data.specs.declared.stencils.TryNote.{TryNote}
use Rattle.bytecode_buf.specs.declared.opcode.Op.TheVariants as op
use Rattle.bytecode_buf.specs.declared.waits.Wait.{Wait}
use Rattle.bytecode_buf.specs.Emits.{emitted}
use Rattle.emit_exprs.specs.declared.uses.Use.TheVariants.{Plainly}
use Rattle.emit_exprs.specs.Exprs.{Scene, expr_code}
use Rattle.emit_exprs.specs.Sites.{EmitsAt}
use Rattle.emit_exprs.specs.TreeCode.{ExprEmits}
use Rattle.emit_exprs.specs.Whole.{just}
use Rattle.emit_exprs.proofs.Writing.{written_of, written_both}
use Rattle.emit_stmts.specs.declared.leaving.Goal.TheVariants as goal
use Rattle.emit_stmts.specs.declared.stmt_context.StmtContext.{StmtContext}
use Rattle.emit_stmts.specs.Frames.{Out, Again, leaving}
use Rattle.emit_stmts.specs.Leaving.{Leaves, label_in}
use Rattle.emit_stmts.specs.Positions.{position_of, within}
use Rattle.emit_stmts.specs.StmtCode.{RowWritten}
use Rattle.emit_stmts.specs.Stmts.{binds_code, result_code, label_text}
use Rattle.emit_stmts.specs.ValueCode.{BindsEmit}
use Rattle.emit_stmts.proofs.Apart.{apart_leaving}
use Rattle.emit_stmts.proofs.Writing.{written_plain, row_of, scene_is}

pub value_row : {a b c : List ℕ} (s : StmtContext) (e : Expr) (ws : List Wait) (ns : List TryNote) (number : ℕ) (semi : Bool) → ExprEmits s.exprs a b Plainly e → EmitsAt s.exprs b c (result_code s.is_script) → RowWritten (position_of s) (emitted a ws ns) (emitted c ws ns) number number (λ w. model.Value (expr_of (within (position_of s) w) e) semi)
value_row s e ws ns number semi x y = row_of (λ w. model.Value (expr_of (within (position_of s) w) e) semi) (λ w f. (f, tt)) (λ w. refl)
    (λ w i stands. ap (λ (c : Scene). expr_code c (expr_of (within (position_of s) w) e) ++ result_code s.is_script) (scene_is (position_of s) w stands))
    (written_plain s ws ns number (written_both x.row.code (written_of y)))

pub throw_row : {a b c : List ℕ} (s : StmtContext) (e : Expr) (ws : List Wait) (ns : List TryNote) (number : ℕ) (semi : Bool) → ExprEmits s.exprs a b Plainly e → EmitsAt s.exprs b c (just op.Throw) → RowWritten (position_of s) (emitted a ws ns) (emitted c ws ns) number number (λ w. model.Throw (expr_of (within (position_of s) w) e) semi)
throw_row s e ws ns number semi x y = row_of (λ w. model.Throw (expr_of (within (position_of s) w) e) semi) (λ w f. (f, tt)) (λ w. refl)
    (λ w i stands. ap (λ (c : Scene). expr_code c (expr_of (within (position_of s) w) e) ++ just op.Throw) (scene_is (position_of s) w stands))
    (written_plain s ws ns number (written_both x.row.code (written_of y)))

pub debugger_row : {a b : List ℕ} (s : StmtContext) (ws : List Wait) (ns : List TryNote) (number : ℕ) (semi : Bool) → EmitsAt s.exprs a b (just op.Debugger) → RowWritten (position_of s) (emitted a ws ns) (emitted b ws ns) number number (λ w. model.Debugger semi)
debugger_row s ws ns number semi x = row_of (λ w. model.Debugger semi) (λ w f. tt) (λ w. refl) (λ w i stands. refl) (written_plain s ws ns number (written_of x))

pub binding_row : {a b : List ℕ} (s : StmtContext) (kind : Decl) (binds : List Bind) (ws : List Wait) (ns : List TryNote) (number : ℕ) (semi : Bool) → BindsEmit s.exprs a b kind binds → RowWritten (position_of s) (emitted a ws ns) (emitted b ws ns) number number (λ w. model.Binding kind (binds_of (map (bind_of (within (position_of s) w)) binds)) semi)
binding_row s kind binds ws ns number semi x = row_of (λ w. model.Binding kind (binds_of (map (bind_of (within (position_of s) w)) binds)) semi) (λ w f. f) (λ w. refl)
    (λ w i stands. ap (λ (c : Scene). binds_code c kind (binds_of (map (bind_of (within (position_of s) w)) binds))) (scene_is (position_of s) w stands))
    (written_plain s ws ns number x.made)

label_same : (i : Interpretation) (label : Option Ident) → label_in i.texts label ≡ label_text (maybe_named i label)
label_same i None = refl
label_same i (Some name) = refl

pub break_row : {a b : List ℕ} {ws ws_new : List Wait} (s : StmtContext) (label : Option Ident) (ns : List TryNote) (number at : ℕ) (semi : Bool) → Leaves s a ws b ws_new (goal.Out label) s.frames.now → RowWritten (position_of s) (emitted a ws ns) (emitted b ws_new ns) number number (λ w. model.Break at (maybe_named (within (position_of s) w) label) semi)
break_row s label ns number at semi x = record {
  code = record {
    written = leaving (position_of s).scopes (Out (label_in s.exprs.texts.now label)) (position_of s).frames;
    appends = x.appends ns;
    apart = apart_leaving (position_of s).scopes (Out (label_in s.exprs.texts.now label)) (position_of s).frames;
    counted = λ w f small. sym (add-zero number);
    is = λ w stands f small. ap (λ (l : Option (List ℕ)). leaving (position_of s).scopes (Out l) (position_of s).frames) (label_same (within (position_of s) w) label);
  };
}

pub continue_row : {a b : List ℕ} {ws ws_new : List Wait} (s : StmtContext) (label : Option Ident) (ns : List TryNote) (number at : ℕ) (semi : Bool) → Leaves s a ws b ws_new (goal.Again label) s.frames.now → RowWritten (position_of s) (emitted a ws ns) (emitted b ws_new ns) number number (λ w. model.Continue at (maybe_named (within (position_of s) w) label) semi)
continue_row s label ns number at semi x = record {
  code = record {
    written = leaving (position_of s).scopes (Again (label_in s.exprs.texts.now label)) (position_of s).frames;
    appends = x.appends ns;
    apart = apart_leaving (position_of s).scopes (Again (label_in s.exprs.texts.now label)) (position_of s).frames;
    counted = λ w f small. sym (add-zero number);
    is = λ w stands f small. ap (λ (l : Option (List ℕ)). leaving (position_of s).scopes (Again l) (position_of s).frames) (label_same (within (position_of s) w) label);
  };
}
