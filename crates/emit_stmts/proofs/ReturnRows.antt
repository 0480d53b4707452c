-- Rows of what leaves a function.
use Rattle.std.proofs.Common.{◌≡◌, ℕ, Bool, true, false, if◌then◌else◌, List, [], ◌∷◌, ◌++◌, Option, option_map, refl, sym, ◌∙◌, ap, append_assoc, true≢false}
use Rattle.script_grammar.specs.declared.tree.Expr.{Expr}
use Rattle.script_grammar.specs.Tree as model
use Rattle.script_grammar.specs.TreeLists.{maybe_expr_of}
use Rattle.script_grammar.specs.TreeOf.{expr_of}
use Rattle.stencil_data.specs.declared.stencils.TryNote.{TryNote}
use Rattle.stencil_data.specs.Named.{NamedScope}
use Rattle.bytecode_buf.specs.declared.opcode.Op.TheVariants as op
use Rattle.bytecode_buf.specs.declared.waits.Wait.{Wait}
use Rattle.bytecode_buf.specs.Emits.{Emits, emitted}
use Rattle.bytecode_buf.specs.Pieces.{Code}
use Rattle.bytecode_buf.proofs.AppendLemmas.{emits_both}
use Rattle.emit_exprs.specs.Exprs.{Scene}
use Rattle.emit_exprs.specs.Sites.{EmitsAt}
use Rattle.emit_exprs.specs.Whole.{just}
use Rattle.emit_exprs.proofs.Writing.{written_of, written_both}
use Rattle.emit_stmts.specs.declared.frames.Frame.{Frame}
use Rattle.emit_stmts.specs.declared.stmt_context.StmtContext.{StmtContext}
use Rattle.emit_stmts.specs.Frames.{exit, exits}
use Rattle.emit_stmts.specs.Leaving.{has_code}
use Rattle.emit_stmts.specs.Positions.{position_of, within, frame_in, frames_in}
use Rattle.emit_stmts.specs.StmtCode.{RowWritten}
use Rattle.emit_stmts.specs.Stmts.{return_code, value_or_undefined}
use Rattle.emit_stmts.specs.ValueCode.{ValueEmits}
use Rattle.emit_stmts.proofs.Writing.{written_plain, row_of, scene_is}

-- ---- whether there is an instruction

pub has_code-if : (b : Bool) → b ≡ has_code (if b then just op.PopLexicalEnv else [])
has_code-if true = refl
has_code-if false = refl

first_has : (xs ys : Code) → has_code xs ≡ true → has_code (xs ++ ys) ≡ true
first_has [] ys some = absurd (true≢false (sym some))
first_has (x ∷ xs) ys some = refl

later_has : (xs ys : Code) → has_code xs ≡ false → has_code (xs ++ ys) ≡ has_code ys
later_has [] ys none = refl
later_has (x ∷ xs) ys none = absurd (true≢false none)

-- what is so of the frames that are left is so of all
pub record ExitLooked (scopes : List NamedScope) (texts : List (List ℕ)) (all left : List Frame) : Type 0 where
  pub same : has_code (exits scopes (frames_in texts left)) ≡ has_code (exits scopes (frames_in texts all))

pub looked_begin : (scopes : List NamedScope) (texts : List (List ℕ)) (all : List Frame) → ExitLooked scopes texts all all
looked_begin scopes texts all = record { same = refl }

pub looked_next : {scopes : List NamedScope} {texts : List (List ℕ)} {all : List Frame} {some : Bool} (left further : List Frame) (f : Frame) → left ≡ f ∷ further → some ≡ has_code (exit scopes (frame_in texts f)) → some ≡ false → ExitLooked scopes texts all left → ExitLooked scopes texts all further
looked_next {scopes} {texts} left further f is some_is none l = record {
  same = sym (later_has (exit scopes (frame_in texts f)) (exits scopes (frames_in texts further)) (sym some_is ∙ none)) ∙ (sym (ap (λ (fs : List Frame). has_code (exits scopes (frames_in texts fs))) is) ∙ l.same);
}

pub looked_found : {scopes : List NamedScope} {texts : List (List ℕ)} {all : List Frame} {some : Bool} (left further : List Frame) (f : Frame) → left ≡ f ∷ further → some ≡ has_code (exit scopes (frame_in texts f)) → some ≡ true → ExitLooked scopes texts all left → true ≡ has_code (exits scopes (frames_in texts all))
looked_found {scopes} {texts} left further f is some_is found l = sym (first_has (exit scopes (frame_in texts f)) (exits scopes (frames_in texts further)) (sym some_is ∙ found)) ∙ (sym (ap (λ (fs : List Frame). has_code (exits scopes (frames_in texts fs))) is) ∙ l.same)

pub looked_none : {scopes : List NamedScope} {texts : List (List ℕ)} {all : List Frame} (left : List Frame) → left ≡ [] → ExitLooked scopes texts all left → false ≡ has_code (exits scopes (frames_in texts all))
looked_none {scopes} {texts} left none l = sym (ap (λ (fs : List Frame). has_code (exits scopes (frames_in texts fs))) none) ∙ l.same

-- ---- the value on top of the stack

pub returned_out : {texts : List (List ℕ)} {a b c d : List ℕ} (code : Code) → true ≡ has_code code → Emits texts a b (just op.SetRval) → Emits texts b c code → Emits texts c d (just op.RetRval) → Emits texts a d (return_code [] code)
returned_out [] some x y z = absurd (true≢false some)
returned_out (p ∷ ps) some x y z = emits_both (emits_both x y) z

pub returned_here : {texts : List (List ℕ)} {a b : List ℕ} (code : Code) → false ≡ has_code code → Emits texts a b (just op.Return) → Emits texts a b (return_code [] code)
returned_here [] none x = x
returned_here (p ∷ ps) none x = absurd (true≢false (sym none))

valued : (value code : Code) → value ++ return_code [] code ≡ return_code value code
valued value [] = refl
valued value (p ∷ ps) = sym (append_assoc value (just op.SetRval ++ (p ∷ ps)) (just op.RetRval)) ∙ ap (λ (c : Code). c ++ just op.RetRval) (sym (append_assoc value (just op.SetRval) (p ∷ ps)))

pub return_row : {a b c : List ℕ} (s : StmtContext) (value : Option Expr) (ws : List Wait) (ns : List TryNote) (number : ℕ) (semi : Bool) → ValueEmits s.exprs a b value value_or_undefined → EmitsAt s.exprs b c (return_code [] (exits (position_of s).scopes (position_of s).frames))
    → RowWritten (position_of s) (emitted a ws ns) (emitted c ws ns) number number (λ w. model.Return (maybe_expr_of (option_map (expr_of (within (position_of s) w)) value)) semi)
return_row s value ws ns number semi x y = row_of (λ w. model.Return (maybe_expr_of (option_map (expr_of (within (position_of s) w)) value)) semi) (λ w f. (f, tt)) (λ w. refl)
    (λ w i stands. ap (λ (c : Scene). value_or_undefined c (maybe_expr_of (option_map (expr_of (within (position_of s) w)) value)) ++ return_code [] (exits (position_of s).scopes (position_of s).frames)) (scene_is (position_of s) w stands)
    ∙ valued _ (exits (position_of s).scopes (position_of s).frames))
    (written_plain s ws ns number (written_both x.made (written_of y)))
