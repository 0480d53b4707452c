-- Rows of switches.
use Rattle.std.proofs.Common.{◌≡◌, ℕ, ◌+◌, ◌<◌, ◌^◌, Bool, true, false, ◌&&◌, nat_lt, List, [], ◌∷◌, ◌++◌, length, map, option_map, refl, sym, ◌∙◌, ap, ap₂, subst, add-zero, zero-add, append_assoc, arith}
use Rattle.script_grammar.specs.declared.tree.Clause.{Clause}
use Rattle.script_grammar.specs.declared.tree.Expr.{Expr}
use Rattle.script_grammar.specs.declared.tree.Stmt.{Stmt}
use Rattle.script_grammar.specs.Interpretation.{Interpretation}
use Rattle.script_grammar.specs.Tree as model
use Rattle.script_grammar.specs.TreeLists.{maybe_expr_of, clauses_of}
use Rattle.script_grammar.specs.TreeOf.{expr_of, clause_of}
use Rattle.scope_analysis.specs.DeclaredNames.{Declaration, clauses_lexical_names}
use Rattle.scope_analysis.specs.Scopes.{count_clauses}
use Rattle.stencil_data.specs.declared.stencils.TryNote.{TryNote}
use Rattle.bytecode_buf.specs.declared.opcode.Op.TheVariants as op
use Rattle.bytecode_buf.specs.declared.waits.Aim.{Aim}
use Rattle.bytecode_buf.specs.declared.waits.Aim.TheVariants as aim
use Rattle.bytecode_buf.specs.declared.waits.Wait.{Wait}
use Rattle.bytecode_buf.specs.Appends.{Appends, AllRoom}
use Rattle.bytecode_buf.specs.Emits.{emitted, Waits, LandsHere}
use Rattle.bytecode_buf.specs.Pieces.{Code, Waiting, here}
use Rattle.bytecode_buf.proofs.AppendLemmas.{appends_both, appends_room}
use Rattle.emit_exprs.specs.declared.uses.Use.TheVariants.{Plainly}
use Rattle.emit_exprs.specs.Exprs.{Scene, expr_code}
use Rattle.emit_exprs.specs.Sites.{EmitsAt}
use Rattle.emit_exprs.specs.TreeCode.{ExprEmits}
use Rattle.emit_stmts.specs.declared.stmt_context.StmtContext.{StmtContext}
use Rattle.emit_stmts.specs.Clauses.{NoClause}
use Rattle.emit_stmts.specs.Declares.{declares}
use Rattle.emit_stmts.specs.Frames.{Switching, kept_values, leave_scope}
use Rattle.emit_stmts.specs.HeadCode.{Choosing, CasesWritten}
use Rattle.emit_stmts.specs.PartCode.{ClausesWritten, clauses_in, stmts_in, switch_code}
use Rattle.emit_stmts.specs.Positions.{Position, position_of, framed, scene, World, setting, within, Stands}
use Rattle.emit_stmts.specs.StmtCode.{Written, RowWritten, StmtsWritten}
use Rattle.emit_stmts.specs.StmtFits.{HasRoom, ClausesFit}
use Rattle.emit_stmts.specs.Stmts.{enter_scope, scene_at, clause_functions, clauses_code, cases_code, default_aim}
use Rattle.emit_stmts.specs.ValueCode.{ClauseFunctionsEmit}
use Rattle.emit_stmts.proofs.Apart.{apart_code}
use Rattle.emit_stmts.proofs.HeadRows.{fits_in, next_clause}
use Rattle.emit_stmts.proofs.LoopRows.{framed_row}
use Rattle.emit_stmts.proofs.Scoped.{declared_some, left_out, count_some, count_none, room_some, room_none, scoped, unscoped, inner_position, nowhere, written_scope}
use Rattle.emit_stmts.proofs.Writing.{written_plain, written_both, written_here, written_by, scene_is}

-- ---- clauses, one after the other

-- n scopes stand in these clauses
abbrev clauses_count : Position → List Clause → World → ℕ
clauses_count p cs w = count_clauses (clauses_in p w cs)

-- the tests, and where it goes when none holds
abbrev before_code : Position → List Clause → ℕ → World → Code
before_code p cs level w = cases_code (scene p) 0 (clauses_in p w cs) ++ (Waiting op.Default (default_aim level 0 (clauses_in p w cs)) ∷ [])

pub record ClausesLeft (p : Position) (start : List ℕ) (notes : List TryNote) (bytes : List ℕ) (waits : List Wait) (notes_now : List TryNote) (number next place level : ℕ) (all left : List Clause) : Type 0 where
  pub written : Code
  pub appends : Appends p.texts (emitted start [] notes) (emitted bytes waits notes_now) written
  pub fits : (w : World) → fits_in p all w → fits_in p left w
  pub counted : (w : World) → fits_in p all w → number + clauses_count p all w < 2 ^ 64 → next + clauses_count p left w ≡ number + clauses_count p all w
  pub is : (w : World) → Stands p w → fits_in p all w → number + clauses_count p all w < 2 ^ 64
      → clauses_code (setting p w) place (clauses_in p w left) next p.frames written ≡ clauses_code (setting p w) 0 (clauses_in p w all) number p.frames (before_code p all level w)

pub clauses_begin : {a b c : List ℕ} {w0 w1 w2 : List Wait} {level : ℕ} {goal : Aim} (s : StmtContext) (notes : List TryNote) (number : ℕ) (all : List Clause) → w0 ≡ [] → CasesWritten s a w0 b w1 all → Waits op.Default goal b w1 c w2 → ((i : Interpretation) → goal ≡ default_aim level 0 (clauses_of (map (clause_of i) all))) → ClausesLeft (position_of s) a notes c w2 notes number number 0 level all all
clauses_begin {a} {b} {c} {w0} {w1} {w2} {level} {goal} s notes number all none x jump goal_is = record {
  written = y.written ++ (Waiting op.Default goal ∷ []);
  appends = subst (λ (l : List Wait). Appends (position_of s).texts (emitted a l notes) (emitted c w2 notes) (y.written ++ (Waiting op.Default goal ∷ []))) none (appends_both y.appends (jump (position_of s).texts notes));
  fits = λ w f. f;
  counted = λ w f small. refl;
  is = λ w stands f small. ap (clauses_code (setting (position_of s) w) 0 (clauses_in (position_of s) w all) number (position_of s).frames) (ap (λ (made : Code). made ++ (Waiting op.Default goal ∷ [])) (y.is w f) ∙ ap (λ (g : Aim). cases_code (scene (position_of s)) 0 (clauses_in (position_of s) w all) ++ (Waiting op.Default g ∷ [])) (goal_is (within (position_of s) w)));
}
  where
    y : Choosing (position_of s) (emitted a w0 notes) (emitted b w1 notes) (fits_in (position_of s) all) (λ w. cases_code (scene (position_of s)) 0 (clauses_in (position_of s) w all))
    y = x.made notes

pub clauses_room : {p : Position} {start bytes : List ℕ} {waits : List Wait} {notes notes_now : List TryNote} {number next place level : ℕ} {all left : List Clause} → ClausesLeft p start notes bytes waits notes_now number next place level all left → AllRoom (length bytes) waits
clauses_room l = appends_room refl l.appends

pub clauses_next : {p : Position} {start b c d : List ℕ} {w0 h0 h1 h2 : List Wait} {notes n1 n2 : List TryNote} {number next l place level : ℕ} {all : List Clause} (left further : List Clause) (x : Clause) (items : List Stmt) → left ≡ x ∷ further → items ≡ x.items.items
    → h0 ≡ [] → LandsHere (aim.Clause place) b w0 h0 c h1 → StmtsWritten p (emitted c h1 n1) (emitted d h2 n2) next l items
    → ClausesLeft p start notes b w0 n1 number next place level all left → ClausesLeft p start notes d h2 n2 number l (place + 1) level all further
clauses_next {p} {start} {b} {c} {d} {w0} {h0} {h1} {h2} {notes} {n1} {n2} {number} {next} {l} {place} {all = all} left further x items is items_is none lands y z = record {
  written = here (aim.Clause place) z.written ++ y.code.written;
  appends = appends_both (subst (λ (ws : List Wait). Appends p.texts (emitted start ws notes) (emitted c h1 n1) (here (aim.Clause place) z.written)) none (lands p.texts start notes n1 z.written z.appends)) y.code.appends;
  fits = λ w f. (parts w f).2;
  counted = λ w f small.
      let old = z.counted w f small in
      let both = ap count_clauses (same w) in
      let one = y.code.counted w (parts w f).1 (omega (arith, old, both)) in
      omega (arith, old, both, one);
  is = λ w stands f small.
      let old = z.counted w f small in
      let both = ap count_clauses (same w) in
      let one = y.code.counted w (parts w f).1 (omega (arith, old, both)) in
      ap₂ (λ (i : ℕ) (made : Code). clauses_code (setting p w) (place + 1) (clauses_in p w further) i p.frames (here (aim.Clause place) z.written ++ made)) one (y.code.is w stands (parts w f).1 (omega (arith, old, both)))
      ∙ (sym (ap (λ (m : model.Clauses). clauses_code (setting p w) place m next p.frames z.written) (same w)) ∙ z.is w stands f small);
}
  where
    same : (w : World) → clauses_in p w left ≡ model.more_clauses (maybe_expr_of (option_map (expr_of (within p w)) x.test)) (stmts_in p w items) (clauses_in p w further)
    same w = next_clause p w left further x is ∙ ap (λ (ss : List Stmt). model.more_clauses (maybe_expr_of (option_map (expr_of (within p w)) x.test)) (stmts_in p w ss) (clauses_in p w further)) (sym items_is)

    parts : (w : World) → fits_in p all w → ClausesFit p.room (kept_values p.frames) (model.more_clauses (maybe_expr_of (option_map (expr_of (within p w)) x.test)) (stmts_in p w items) (clauses_in p w further))
    parts w f = subst (ClausesFit p.room (kept_values p.frames)) (same w) (z.fits w f)

pub clauses_end : {p : Position} {start b : List ℕ} {w0 : List Wait} {notes n1 : List TryNote} {number next place level : ℕ} {all : List Clause} (left : List Clause) → left ≡ [] → NoClause w0 → ClausesLeft p start notes b w0 n1 number next place level all left
    → Written p (emitted start [] notes) (emitted b w0 n1) number next (fits_in p all) (clauses_count p all) (λ w i. clauses_code (setting p w) 0 (clauses_in p w all) i p.frames (before_code p all level w))
clauses_end {p} {next = next} {place} left none other z = record {
  written = z.written;
  appends = z.appends;
  apart = apart_code z.appends other;
  counted = λ w f small. omega (arith, z.counted w f small, ap (λ (cs : List Clause). clauses_count p cs w) none);
  is = λ w stands f small. sym (ap (λ (cs : List Clause). clauses_code (setting p w) place (clauses_in p w cs) next p.frames z.written) none) ∙ z.is w stands f small;
}

pub clauses_row : {a b c : List ℕ} {w0 ws ws_new : List Wait} {ns ns_new : List TryNote} {k l level : ℕ} (s inside : StmtContext) (all : List Clause) → position_of inside ≡ framed (Switching ∷ (position_of s).frames) (position_of s) → level ≡ length (position_of s).frames
    → Written (position_of inside) (emitted a [] ns) (emitted b w0 ns_new) k l (fits_in (position_of inside) all) (clauses_count (position_of inside) all) (λ w i. clauses_code (setting (position_of inside) w) 0 (clauses_in (position_of inside) w all) i (position_of inside).frames (before_code (position_of inside) all level w))
    → LandsHere (aim.Break level) b w0 ws c ws_new → ClausesWritten (position_of s) (emitted a ws ns) (emitted c ws_new ns_new) k l all
clauses_row {k = k} {level = level} s inside all is level_is u lands = record {
  code = framed_row s inside Switching (λ q w. fits_in q all w) (λ q w. clauses_count q all w) (λ q w i. here (aim.Break level) (clauses_code (setting q w) 0 (clauses_in q w all) i q.frames (before_code q all level w))) is (λ base. refl) (λ w f. f) (λ w. refl)
      (λ w stands. ap₂ (λ (c : Scene) (n : ℕ). here (aim.Break n) (clauses_code (setting (position_of s) w) 0 (clauses_in (position_of s) w all) k (Switching ∷ (position_of s).frames) (cases_code c 0 (clauses_in (position_of s) w all) ++ (Waiting op.Default (default_aim n 0 (clauses_in (position_of s) w all)) ∷ [])))) (scene_is (position_of s) w stands) level_is)
      (written_here (aim.Break level) lands u);
}

-- ---- the whole switch

abbrev switch_part : List Clause → Position → World → ℕ → Code
switch_part all q w i = clause_functions (scene_at (setting q w) q.frames) (clauses_in q w all) ++ switch_code (setting q w) (clauses_in q w all) i q.frames

switch_written : {a b c : List ℕ} {ws ws_new : List Wait} {ns ns_new : List TryNote} {k l : ℕ} (s : StmtContext) (all : List Clause) → ClauseFunctionsEmit s.exprs a b all → ClausesWritten (position_of s) (emitted b ws ns) (emitted c ws_new ns_new) k l all
    → Written (position_of s) (emitted a ws ns) (emitted c ws_new ns_new) k l (fits_in (position_of s) all) (clauses_count (position_of s) all) (switch_part all (position_of s))
switch_written {ws = ws} {ns = ns} {k = k} s all x y =
    written_by (λ w f. (tt, f)) (λ w f. zero-add _)
    (λ w stands f. ap₂ (λ (c : Scene) (i : ℕ). clause_functions c (clauses_in (position_of s) w all) ++ switch_code (setting (position_of s) w) (clauses_in (position_of s) w all) i (position_of s).frames) (scene_is (position_of s) w stands) (add-zero k))
    (written_both (written_plain s ws ns k x.made) y.code)

pub switch_scoped : {z a b c d e : List ℕ} {ws ws_new : List Wait} {ns ns_in ns_new : List TryNote} {k j l number : ℕ} {flag : Bool} (s inside : StmtContext) (of : Expr) (all : List Clause) → ExprEmits s.exprs z a Plainly of
    → ((w : World) → flag ≡ declares (clauses_lexical_names (clauses_in (position_of s) w all))) → (flag && nat_lt 0 (position_of s).room) ≡ true
    → position_of inside ≡ inner_position (position_of s) k → ((w : World) → EmitsAt s.exprs a b (enter_scope (setting (position_of s) w) k)) → (k + 1 < 2 ^ 64 → j ≡ k + 1) → ns_in ≡ ns
    → ClauseFunctionsEmit inside.exprs b c all → ClausesWritten (position_of inside) (emitted c ws ns_in) (emitted d ws_new ns_new) j l all
    → number ≡ k → EmitsAt s.exprs d e (leave_scope (position_of s).scopes number)
    → RowWritten (position_of s) (emitted z ws ns) (emitted e ws_new ns_new) k l (λ w. model.Switch (expr_of (within (position_of s) w) of) (clauses_in (position_of s) w all))
switch_scoped {ws = ws} {ns = ns} {k = k} {flag = flag} s inside of all v flag_is enters is into next same x y number_is leave = record {
  code = written_by (λ w g. (g.0, subst (λ (r : ℕ). ClausesFit r (kept_values (position_of s).frames) (clauses_in (position_of s) w all)) (room_some (names w) (position_of s).room (some w)) g.2))
      (λ w g. zero-add _ ∙ ap (λ (n : ℕ). n + clauses_count (position_of s) all w) (sym (count_some (names w) (some w))))
      (λ w stands g. ap₂ (λ (c : Scene) (n : ℕ). expr_code c (expr_of (within (position_of s) w) of) ++ (enter_scope (setting (position_of s) w) k ++ switch_part all (inner_position (position_of s) k) w (n + 1) ++ leave_scope (position_of s).scopes k)) (scene_is (position_of s) w stands) (add-zero k)
      ∙ (ap (λ (c : Code). expr_code (scene_at (setting (position_of s) w) (position_of s).frames) (expr_of (within (position_of s) w) of) ++ (c ++ leave_scope (position_of s).scopes k)) (sym (append_assoc (enter_scope (setting (position_of s) w) k) _ _))
      ∙ ap (λ (c : Code). expr_code (scene_at (setting (position_of s) w) (position_of s).frames) (expr_of (within (position_of s) w) of) ++ c)
      (sym (scoped (setting (position_of s) w) (names w) (λ c. clause_functions c (clauses_in (position_of s) w all)) (switch_code (setting (position_of s) w) (clauses_in (position_of s) w all)) k (position_of s).frames (some w)))))
      (written_both (written_plain s ws ns k v.row.code)
      (written_scope s inside (λ q. fits_in q all) (λ q. clauses_count q all) (switch_part all) (enter_scope (setting (position_of s) nowhere) k) is (into nowhere) next same (switch_written inside all x y) number_is leave));
}
  where
    names : World → List Declaration
    names w = clauses_lexical_names (clauses_in (position_of s) w all)

    some : (w : World) → declares (names w) ≡ true
    some w = sym (flag_is w) ∙ declared_some flag (position_of s).room enters

pub switch_plain : {z a b c : List ℕ} {ws ws_new : List Wait} {ns ns_new : List TryNote} {k l : ℕ} {flag : Bool} (s : StmtContext) (of : Expr) (all : List Clause) → ExprEmits s.exprs z a Plainly of
    → ((w : World) → flag ≡ declares (clauses_lexical_names (clauses_in (position_of s) w all))) → (flag && nat_lt 0 (position_of s).room) ≡ false
    → ClauseFunctionsEmit s.exprs a b all → ClausesWritten (position_of s) (emitted b ws ns) (emitted c ws_new ns_new) k l all
    → RowWritten (position_of s) (emitted z ws ns) (emitted c ws_new ns_new) k l (λ w. model.Switch (expr_of (within (position_of s) w) of) (clauses_in (position_of s) w all))
switch_plain {ws = ws} {ns = ns} {k = k} {flag = flag} s of all v flag_is none x y = record {
  code = written_by (λ w g. (g.0, subst (λ (r : ℕ). ClausesFit r (kept_values (position_of s).frames) (clauses_in (position_of s) w all)) (room_none (names w) (position_of s).room (out w g.1)) g.2))
      (λ w g. zero-add _ ∙ (sym (zero-add (clauses_count (position_of s) all w)) ∙ ap (λ (n : ℕ). n + clauses_count (position_of s) all w) (sym (count_none (names w) (out w g.1)))))
      (λ w stands g. ap₂ (λ (c : Scene) (n : ℕ). expr_code c (expr_of (within (position_of s) w) of) ++ switch_part all (position_of s) w n) (scene_is (position_of s) w stands) (add-zero k)
      ∙ ap (λ (c : Code). expr_code (scene_at (setting (position_of s) w) (position_of s).frames) (expr_of (within (position_of s) w) of) ++ c)
      (sym (unscoped (setting (position_of s) w) (names w) (λ c. clause_functions c (clauses_in (position_of s) w all)) (switch_code (setting (position_of s) w) (clauses_in (position_of s) w all)) k (position_of s).frames (out w g.1))))
      (written_both (written_plain s ws ns k v.row.code) (switch_written s all x y));
}
  where
    names : World → List Declaration
    names w = clauses_lexical_names (clauses_in (position_of s) w all)

    out : (w : World) → HasRoom (names w) (position_of s).room → declares (names w) ≡ false
    out w fits = left_out flag (names w) (position_of s).room (flag_is w) none fits
