-- Heads of loops and of switches.
use Rattle.std.proofs.Common.{◌≡◌, ℕ, ◌+◌, List, [], ◌∷◌, ◌++◌, Option, Some, None, map, option_map, refl, sym, ◌∙◌, ap, subst, add-zero, append_assoc, append-nil}
use Rattle.script_grammar.specs.declared.tree.Clause.{Clause}
use Rattle.script_grammar.specs.declared.tree.Expr.{Expr}
use Rattle.script_grammar.specs.Interpretation.{Interpretation}
use Rattle.script_grammar.specs.Tree as model
use Rattle.script_grammar.specs.TreeLists as part
use Rattle.script_grammar.specs.TreeLists.{maybe_expr_of, stmts_of, clauses_of}
use Rattle.script_grammar.specs.TreeOf.{expr_of, stmt_of, clause_of}
use Rattle.script_grammar.proofs.PartEquations.{clause_of-fields}
use Rattle.stencil_data.specs.declared.stencils.TryNote.{TryNote}
use Rattle.bytecode_buf.specs.declared.opcode.Op.TheVariants as op
use Rattle.bytecode_buf.specs.declared.waits.Aim.TheVariants as aim
use Rattle.bytecode_buf.specs.declared.waits.Wait.{Wait}
use Rattle.bytecode_buf.specs.Emits.{Emits, Waits, emitted}
use Rattle.bytecode_buf.specs.Appends.{Emitted, Appends}
use Rattle.bytecode_buf.specs.Pieces.{Code, Waiting}
use Rattle.bytecode_buf.proofs.AppendLemmas.{appends_none, appends_both, emits_both}
use Rattle.emit_exprs.specs.declared.uses.Use.TheVariants.{Plainly}
use Rattle.emit_exprs.specs.Exprs.{code_of}
use Rattle.emit_exprs.specs.Fitting.{ExprFits, MaybeExprFits}
use Rattle.emit_exprs.specs.Sites.{EmitsAt, scene_of}
use Rattle.emit_exprs.specs.TreeCode.{Written, ExprEmits, at_site}
use Rattle.emit_exprs.specs.Whole.{just}
use Rattle.emit_exprs.proofs.Writing.{written_of}
use Rattle.emit_exprs.proofs.Writing as expr
use Rattle.emit_stmts.specs.declared.stmt_context.StmtContext.{StmtContext}
use Rattle.emit_stmts.specs.Frames.{kept_values}
use Rattle.emit_stmts.specs.HeadCode.{Tested, KeysTested, keys_code, Choosing, CaseWritten, CasesWritten}
use Rattle.emit_stmts.specs.PartCode.{clauses_in}
use Rattle.emit_stmts.specs.Positions.{Position, World, position_of, scene, within}
use Rattle.emit_stmts.specs.StmtFits.{ClausesFit}
use Rattle.emit_stmts.specs.Stmts.{case_code, cases_code, default_aim}
use Rattle.emit_stmts.proofs.Writing.{written_plain, written_wait, written_both, written_by, written_none}

-- ---- loops

pub tested_some : {a b c : List ℕ} {ws ws_new : List Wait} (s : StmtContext) (level : ℕ) (test : Option Expr) (e : Expr) → test ≡ Some e → ExprEmits s.exprs a b Plainly e → Waits op.JumpIfFalse (aim.Break level) b ws c ws_new → Tested s a ws c ws_new level test
tested_some {a} {c = c} {ws} {ws_new} s level test e is x jump = subst (λ (t : Option Expr). Tested s a ws c ws_new level t) (sym is) (record {
  made = λ ns number. written_by (λ w f. (f, tt)) (λ w f. refl) (λ w stands f. refl) (written_both (written_plain s ws ns number x.row.code) (written_wait op.JumpIfFalse (aim.Break level) (position_of s) ns number refl jump));
})

pub tested_none : (s : StmtContext) (now : List ℕ) (ws : List Wait) (level : ℕ) (test : Option Expr) → test ≡ None → Tested s now ws now ws level test
tested_none s now ws level test is = subst (λ (t : Option Expr). Tested s now ws now ws level t) (sym is) (record {
  made = λ ns number. written_by (λ w f. tt) (λ w f. refl) (λ w stands f. refl) (written_none (position_of s) (emitted now ws ns) number);
})

pub keys_tested : {a b c d e : List ℕ} {ws ws_new : List Wait} (level : ℕ) → ((texts : List (List ℕ)) → Emits texts a b (just op.LoopHead)) → ((texts : List (List ℕ)) → Emits texts b c (just op.MoreIter)) → ((texts : List (List ℕ)) → Emits texts c d (just op.IsNoIter)) → Waits op.JumpIfTrue (aim.Break level) d ws e ws_new → KeysTested a ws e ws_new level
keys_tested {ws = ws} level x y z jump = record {
  made = λ p ns number. record {
    written = keys_code level;
    appends = appends_both ((emits_both (emits_both (x p.texts) (y p.texts)) (z p.texts)).anywhere ws ns) (jump p.texts ns);
    apart = (refl, (refl, (refl, (refl, tt))));
    counted = λ w f small. sym (add-zero number);
    is = λ w stands f small. refl;
  };
}

-- ---- the tests of a switch

pub case_some : {a b c d e : List ℕ} {ws ws_new : List Wait} (s : StmtContext) (place : ℕ) (test : Option Expr) (value : Expr) → test ≡ Some value → EmitsAt s.exprs a b (just op.Dup) → ExprEmits s.exprs b c Plainly value → EmitsAt s.exprs c d (just op.StrictEq) → Waits op.Case (aim.Clause place) d ws e ws_new → CaseWritten s a ws e ws_new place test
case_some {a} {d = d} {e} {ws} {ws_new} s place test value is dup x equal jump = subst (λ (t : Option Expr). CaseWritten s a ws e ws_new place t) (sym is) (record {
  made = λ ns. record {
    written = u.written ++ (Waiting op.Case (aim.Clause place) ∷ []);
    appends = appends_both (u.emits.anywhere ws ns) (jump (position_of s).texts ns);
    is = λ w f. ap (λ (c : Code). c ++ (Waiting op.Case (aim.Clause place) ∷ [])) (u.is w.bodies ((tt, f), tt));
  };
})
  where
    u : Written s.exprs a d (λ bodies. (Unit {0} × ExprFits (expr_of (at_site s.exprs bodies) value)) × Unit {0}) (λ bodies. just op.Dup ++ code_of (scene_of s.exprs) Plainly (expr_of (at_site s.exprs bodies) value) ++ just op.StrictEq)
    u = expr.written_both (expr.written_both (written_of dup) x.row.code) (written_of equal)

pub case_none : (s : StmtContext) (now : List ℕ) (ws : List Wait) (place : ℕ) (test : Option Expr) → test ≡ None → CaseWritten s now ws now ws place test
case_none s now ws place test is = subst (λ (t : Option Expr). CaseWritten s now ws now ws place t) (sym is) (record {
  made = λ ns. record { written = []; appends = appends_none (position_of s).texts (emitted now ws ns); is = λ w f. refl };
})

-- a clause and the others
pub next_clause : (p : Position) (w : World) (left further : List Clause) (c : Clause) → left ≡ c ∷ further → clauses_in p w left ≡ model.more_clauses (maybe_expr_of (option_map (expr_of (within p w)) c.test)) (stmts_of (map (stmt_of (within p w)) c.items.items)) (clauses_in p w further)
next_clause p w left further c is = ap (clauses_in p w) is ∙ ap (λ (q : part.Clause). model.more_clauses (maybe_expr_of q.test) (stmts_of q.items) (clauses_in p w further)) (clause_of-fields (within p w) c)

abbrev pub fits_in : Position → List Clause → World → Type 0
fits_in p cs w = ClausesFit p.room (kept_values p.frames) (clauses_in p w cs)

-- the tests of some clauses were appended, and those of others are left
pub record ChoosingLeft (p : Position) (start now : Emitted) (all left : World → Type 0) (code rest : World → Code) : Type 0 where
  pub written : Code
  pub appends : Appends p.texts start now written
  pub fits : (w : World) → all w → left w
  pub is : (w : World) → all w → written ++ rest w ≡ code w

pub record CasesLeft (s : StmtContext) (bytes : List ℕ) (waits : List Wait) (bytes_now : List ℕ) (waits_now : List Wait) (place : ℕ) (all left : List Clause) : Type 0 where
  pub loop : (notes : List TryNote) → ChoosingLeft (position_of s) (emitted bytes waits notes) (emitted bytes_now waits_now notes) (fits_in (position_of s) all) (fits_in (position_of s) left)
      (λ w. cases_code (scene (position_of s)) 0 (clauses_in (position_of s) w all)) (λ w. cases_code (scene (position_of s)) place (clauses_in (position_of s) w left))

pub cases_begin : (s : StmtContext) (bytes : List ℕ) (waits : List Wait) (all : List Clause) → CasesLeft s bytes waits bytes waits 0 all all
cases_begin s bytes waits all = record { loop = λ notes. record { written = []; appends = appends_none (position_of s).texts (emitted bytes waits notes); fits = λ w f. f; is = λ w f. refl } }

pub cases_next : {s : StmtContext} {a b c : List ℕ} {ws0 ws ws_new : List Wait} {place : ℕ} {all : List Clause} (left further : List Clause) (x : Clause) → left ≡ x ∷ further → CaseWritten s b ws c ws_new place x.test → CasesLeft s a ws0 b ws place all left → CasesLeft s a ws0 c ws_new (place + 1) all further
cases_next {s} {a} {b} {c} {ws0} {ws} {ws_new} {place} {all} left further x is y l = record { loop = λ notes. next notes (y.made notes) (l.loop notes) }
  where
    p : Position
    p = position_of s

    rest : World → Code
    rest w = cases_code (scene p) (place + 1) (clauses_in p w further)

    same : (w : World) → clauses_in p w left ≡ model.more_clauses (maybe_expr_of (option_map (expr_of (within p w)) x.test)) (stmts_of (map (stmt_of (within p w)) x.items.items)) (clauses_in p w further)
    same w = next_clause p w left further x is

    next : (notes : List TryNote)
        → Choosing p (emitted b ws notes) (emitted c ws_new notes) (λ w. MaybeExprFits (maybe_expr_of (option_map (expr_of (within p w)) x.test))) (λ w. case_code (scene p) place (maybe_expr_of (option_map (expr_of (within p w)) x.test)))
        → ChoosingLeft p (emitted a ws0 notes) (emitted b ws notes) (fits_in p all) (fits_in p left) (λ w. cases_code (scene p) 0 (clauses_in p w all)) (λ w. cases_code (scene p) place (clauses_in p w left))
        → ChoosingLeft p (emitted a ws0 notes) (emitted c ws_new notes) (fits_in p all) (fits_in p further) (λ w. cases_code (scene p) 0 (clauses_in p w all)) rest
    next notes u v = record {
      written = v.written ++ u.written;
      appends = appends_both v.appends u.appends;
      fits = λ w f. (subst (ClausesFit p.room (kept_values p.frames)) (same w) (v.fits w f)).2;
      is = λ w f.
          append_assoc v.written u.written (rest w)
          ∙ (ap (λ (c : Code). v.written ++ (c ++ rest w)) (u.is w (subst (ClausesFit p.room (kept_values p.frames)) (same w) (v.fits w f)).0)
          ∙ (ap (λ (m : model.Clauses). v.written ++ cases_code (scene p) place m) (sym (same w)) ∙ v.is w f));
    }

pub cases_end : {s : StmtContext} {a b : List ℕ} {ws0 ws : List Wait} {place : ℕ} {all : List Clause} (left : List Clause) → left ≡ [] → CasesLeft s a ws0 b ws place all left → CasesWritten s a ws0 b ws all
cases_end {s} {a} {b} {ws0} {ws} {place} {all} left none l = record { made = λ notes. end notes (l.loop notes) }
  where
    p : Position
    p = position_of s

    end : (notes : List TryNote)
        → ChoosingLeft p (emitted a ws0 notes) (emitted b ws notes) (fits_in p all) (fits_in p left) (λ w. cases_code (scene p) 0 (clauses_in p w all)) (λ w. cases_code (scene p) place (clauses_in p w left))
        → Choosing p (emitted a ws0 notes) (emitted b ws notes) (fits_in p all) (λ w. cases_code (scene p) 0 (clauses_in p w all))
    end notes v = record {
      written = v.written;
      appends = v.appends;
      is = λ w f. sym (append-nil v.written) ∙ (ap (λ (cs : List Clause). v.written ++ cases_code (scene p) place (clauses_in p w cs)) (sym none) ∙ v.is w f);
    }

-- ---- where it goes when no test holds

pub record DefaultLooked (level place : ℕ) (all left : List Clause) : Type 0 where
  pub same : (i : Interpretation) → default_aim level place (clauses_of (map (clause_of i) left)) ≡ default_aim level 0 (clauses_of (map (clause_of i) all))

pub default_begin : (level : ℕ) (all : List Clause) → DefaultLooked level 0 all all
default_begin level all = record { same = λ i. refl }

split : (level place : ℕ) (i : Interpretation) (left further : List Clause) (c : Clause) → left ≡ c ∷ further → default_aim level place (clauses_of (map (clause_of i) left)) ≡ default_aim level place (model.more_clauses (maybe_expr_of (option_map (expr_of i) c.test)) (stmts_of (map (stmt_of i) c.items.items)) (clauses_of (map (clause_of i) further)))
split level place i left further c is = ap (λ (cs : List Clause). default_aim level place (clauses_of (map (clause_of i) cs))) is ∙ ap (λ (q : part.Clause). default_aim level place (model.more_clauses (maybe_expr_of q.test) (stmts_of q.items) (clauses_of (map (clause_of i) further)))) (clause_of-fields i c)

pub default_next : {level place : ℕ} {all : List Clause} (left further : List Clause) (c : Clause) (value : Expr) → left ≡ c ∷ further → c.test ≡ Some value → DefaultLooked level place all left → DefaultLooked level (place + 1) all further
default_next {level} {place} left further c value is some l = record {
  same = λ i. sym (split level place i left further c is ∙ ap (λ (t : Option Expr). default_aim level place (model.more_clauses (maybe_expr_of (option_map (expr_of i) t)) (stmts_of (map (stmt_of i) c.items.items)) (clauses_of (map (clause_of i) further)))) some) ∙ l.same i;
}

pub default_found : {level place : ℕ} {all : List Clause} (left further : List Clause) (c : Clause) → left ≡ c ∷ further → c.test ≡ None → DefaultLooked level place all left → (i : Interpretation) → aim.Clause place ≡ default_aim level 0 (clauses_of (map (clause_of i) all))
default_found {level} {place} left further c is none l i = sym (split level place i left further c is ∙ ap (λ (t : Option Expr). default_aim level place (model.more_clauses (maybe_expr_of (option_map (expr_of i) t)) (stmts_of (map (stmt_of i) c.items.items)) (clauses_of (map (clause_of i) further)))) none) ∙ l.same i

pub default_none : {level place : ℕ} {all : List Clause} (left : List Clause) → left ≡ [] → DefaultLooked level place all left → (i : Interpretation) → aim.Break level ≡ default_aim level 0 (clauses_of (map (clause_of i) all))
default_none {level} {place} left none l i = sym (ap (λ (cs : List Clause). default_aim level place (clauses_of (map (clause_of i) cs))) none) ∙ l.same i
