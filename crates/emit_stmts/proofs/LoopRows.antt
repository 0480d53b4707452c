-- Rows of loops.
use Rattle.std.proofs.Common.{◌≡◌, ℕ, ◌+◌, ◌<◌, List, [], ◌∷◌, ◌++◌, Option, length, refl, sym, ◌∙◌, ap, ap₂, add-zero, zero-add, add_assoc, arith, length-append}
use Rattle.script_grammar.specs.declared.tree.Each.{Each}
use Rattle.script_grammar.specs.declared.tree.Expr.{Expr}
use Rattle.script_grammar.specs.declared.tree.Stmt.{Stmt}
use Rattle.script_grammar.specs.Tree as model
use Rattle.script_grammar.specs.TreeOf.{expr_of, each_of, stmt_of}
use Rattle.scope_analysis.specs.Scopes.{count_stmt}
use Rattle.stencil_data.specs.declared.stencils.TryNote.{TryNote}
use Rattle.bytecode_buf.specs.declared.opcode.Op.TheVariants as op
use Rattle.bytecode_buf.specs.declared.waits.Aim.{Aim}
use Rattle.bytecode_buf.specs.declared.waits.Aim.TheVariants as aim
use Rattle.bytecode_buf.specs.declared.waits.Wait.{Wait}
use Rattle.bytecode_buf.specs.Appends.{Appends, Emitted, laid_pieces}
use Rattle.bytecode_buf.specs.Emits.{emitted, Waits, LandsHere, TurnsBack}
use Rattle.bytecode_buf.specs.Command.{jump}
use Rattle.bytecode_buf.specs.Pieces.{Code, Waiting, here, turning, size, width_by, command_width, landed_by}
use Rattle.bytecode_buf.proofs.AppendLemmas.{length-laid_pieces, size-pieces, size_by-bytes}
use Rattle.emit_exprs.specs.declared.uses.Use.TheVariants.{Plainly}
use Rattle.emit_exprs.specs.Exprs.{Scene, expr_code}
use Rattle.emit_exprs.specs.Fitting.{ExprFits, MaybeExprFits}
use Rattle.emit_exprs.specs.Sites.{EmitsAt}
use Rattle.emit_exprs.specs.TreeCode.{ExprEmits}
use Rattle.emit_exprs.specs.Whole.{just}
use Rattle.emit_exprs.proofs.Writing.{written_of}
use Rattle.emit_exprs.proofs.Writing as expr
use Rattle.emit_stmts.specs.declared.stmt_context.StmtContext.{StmtContext}
use Rattle.emit_stmts.specs.Frames.{Frame, Loop, KeysLoop, kept_values, chain_of}
use Rattle.emit_stmts.specs.HeadCode.{freshen_head, keys_code, Tested, KeysTested}
use Rattle.emit_stmts.specs.PartCode.{ForWritten, ForInWritten, maybe_in}
use Rattle.emit_stmts.specs.Positions.{Position, position_of, framed, scene, World, setting, within, Stands}
use Rattle.emit_stmts.specs.StmtCode.{Written, RowWritten, StmtWritten}
use Rattle.emit_stmts.specs.StmtFits.{StmtFits, EachFits}
use Rattle.emit_stmts.specs.Stmts.{stmt_code, do_code, while_code, for_code, test_code, update_code, store_each}
use Rattle.emit_stmts.specs.ValueCode.{ValueEmits, EachEmits}
use Rattle.emit_stmts.proofs.Writing.{written_plain, written_wait, written_both, written_here, written_turn, written_from_none, written_framed, written_moved, written_by, scene_is}

-- ---- how long code is

size-append : (xs ys : Code) → size (xs ++ ys) ≡ size xs + size ys
size-append [] ys = sym (zero-add (size ys))
size-append (p ∷ ps) ys = ap (λ (n : ℕ). width_by command_width p + n) (size-append ps ys) ∙ sym (add_assoc (width_by command_width p) (size ps) (size ys))

appends_longer : {texts : List (List ℕ)} {old new : Emitted} {code : Code} → Appends texts old new code → length new.bytes ≡ length old.bytes + size code
appends_longer {texts} {old} x = omega (arith, ap length x.bytes, length-append old.bytes (laid_pieces x.pieces), length-laid_pieces x.pieces, size-pieces texts x.pieces, size_by-bytes x.pieces, ap size x.stands)

here_some : (aim : Aim) (code : Code) → 0 < size (here aim code)
here_some aim code = omega (arith, size-append (landed_by command_width jump aim code) (just op.JumpTarget))

-- there is code from the beginning of the turns on to where a `continue` goes
pub turn_some : {p : Position} {a e f : List ℕ} {w2 t0 t1 : List Wait} {ns ns_new : List TryNote} {k l : ℕ} {g : World → Type 0} {m : World → ℕ} {x : World → ℕ → Code} (level : ℕ) → Written p (emitted a [] ns) (emitted e w2 ns_new) k l g m x → LandsHere (aim.Continue level) e w2 t0 f t1 → length a < length f
turn_some {p} {a} {ns = ns} {ns_new} level u lands = omega (arith, appends_longer (lands p.texts a ns ns_new u.written u.appends), here_some (aim.Continue level) u.written)

pub tail_some : {p : Position} {old new : Emitted} {k l n : ℕ} {g : World → Type 0} {m : World → ℕ} {x : World → ℕ → Code} → n < length old.bytes → Written p old new k l g m x → n < length new.bytes
tail_some lt u = omega (arith, lt, appends_longer u.appends)

-- ---- what all loops have

-- up to where a `continue` goes
pub turn_landed : {p : Position} {a e f : List ℕ} {w2 t0 t1 : List Wait} {ns ns_new : List TryNote} {k l : ℕ} {g : World → Type 0} {m : World → ℕ} {x : World → ℕ → Code} (level : ℕ) → Written p (emitted a [] ns) (emitted e w2 ns_new) k l g m x → t0 ≡ [] → LandsHere (aim.Continue level) e w2 t0 f t1 → Written p (emitted a [] ns) (emitted f t1 ns_new) k l g m (λ w i. here (aim.Continue level) (x w i))
turn_landed level u none lands = written_from_none none (written_here (aim.Continue level) lands u)

-- a row of a statement with one more frame around its parts
pub framed_row : {a b : Emitted} {k l : ℕ} (s inside : StmtContext) (frame : Frame) (f : Position → World → Type 0) (n : Position → World → ℕ) (x : Position → World → ℕ → Code) {g : World → Type 0} {m : World → ℕ} {y : World → ℕ → Code}
    → position_of inside ≡ framed (frame ∷ (position_of s).frames) (position_of s)
    → ((base : List _) → chain_of (position_of s).scopes base (position_of s).frames ≡ chain_of (position_of s).scopes base (frame ∷ (position_of s).frames))
    → ((w : World) → g w → f (framed (frame ∷ (position_of s).frames) (position_of s)) w)
    → ((w : World) → n (framed (frame ∷ (position_of s).frames) (position_of s)) w ≡ m w)
    → ((w : World) → Stands (position_of s) w → x (framed (frame ∷ (position_of s).frames) (position_of s)) w k ≡ y w k)
    → Written (position_of inside) a b k l (f (position_of inside)) (n (position_of inside)) (x (position_of inside))
    → Written (position_of s) a b k l g m y
framed_row s inside frame f n x is same fit counts code u = written_by fit (λ w q. counts w) (λ w stands q. code w stands) (written_framed (frame ∷ (position_of s).frames) same (written_moved f n x is u))

abbrev body_fits : Stmt → Position → World → Type 0
body_fits body q w = StmtFits q.room (kept_values q.frames) (stmt_of (within q w) body)

abbrev body_count : Stmt → Position → World → ℕ
body_count body q w = count_stmt (stmt_of (within q w) body)

abbrev body_code : Stmt → Position → World → ℕ → Code
body_code body q w i = stmt_code (setting q w) (stmt_of (within q w) body) i q.frames

abbrev test_fits : Expr → Position → World → Type 0
test_fits test q w = ExprFits (expr_of (within q w) test)

abbrev value_code : Expr → Position → World → Code
value_code test q w = expr_code (scene q) (expr_of (within q w) test)

-- ---- while

pub while_turn : {a b c d e : List ℕ} {w0 w1 w2 : List Wait} {ns ns_new : List TryNote} {k l : ℕ} (inside : StmtContext) (test : Expr) (body : Stmt) (level : ℕ) → w0 ≡ []
    → EmitsAt inside.exprs a b (just op.LoopHead) → ExprEmits inside.exprs b c Plainly test → Waits op.JumpIfFalse (aim.Break level) c w0 d w1 → StmtWritten (position_of inside) (emitted d w1 ns) (emitted e w2 ns_new) k l body
    → Written (position_of inside) (emitted a [] ns) (emitted e w2 ns_new) k l (λ w. test_fits test (position_of inside) w × body_fits body (position_of inside) w) (body_count body (position_of inside))
    (λ w i. just op.LoopHead ++ value_code test (position_of inside) w ++ (Waiting op.JumpIfFalse (aim.Break level) ∷ []) ++ body_code body (position_of inside) w i)
while_turn {w0 = w0} {ns = ns} {k = k} inside test body level none head x jump y =
    written_by (λ w f. (((tt, f.0), tt), f.1)) (λ w f. zero-add (body_count body (position_of inside) w))
    (λ w stands f. ap (λ (i : ℕ). just op.LoopHead ++ value_code test (position_of inside) w ++ (Waiting op.JumpIfFalse (aim.Break level) ∷ []) ++ body_code body (position_of inside) w i) (add-zero k))
    (written_from_none none (written_both (written_both (written_plain inside w0 ns k (expr.written_both (written_of head) x.row.code)) (written_wait op.JumpIfFalse (aim.Break level) (position_of inside) ns k refl jump)) y.row.code))

pub while_row : {a f g h : List ℕ} {t1 ws ws_new : List Wait} {ns ns_new : List TryNote} {k l start : ℕ} (s inside : StmtContext) (test : Expr) (body : Stmt) (level : ℕ) → position_of inside ≡ framed (Loop ∷ (position_of s).frames) (position_of s) → level ≡ length (position_of s).frames → length a ≡ start
    → Written (position_of inside) (emitted a [] ns) (emitted f t1 ns_new) k l (λ w. test_fits test (position_of inside) w × body_fits body (position_of inside) w) (body_count body (position_of inside))
    (λ w i. here (aim.Continue level) (just op.LoopHead ++ value_code test (position_of inside) w ++ (Waiting op.JumpIfFalse (aim.Break level) ∷ []) ++ body_code body (position_of inside) w i))
    → TurnsBack op.Goto start f g → LandsHere (aim.Break level) g t1 ws h ws_new
    → RowWritten (position_of s) (emitted a ws ns) (emitted h ws_new ns_new) k l (λ w. model.While (expr_of (within (position_of s) w) test) (stmt_of (within (position_of s) w) body))
while_row {k = k} {start = start} s inside test body level is level_is place u turns ends = record {
  code = framed_row s inside Loop (λ q w. test_fits test q w × body_fits body q w) (body_count body) (λ q w i. while_code level (value_code test q w) (body_code body q w i)) is (λ base. refl) (λ w f. f) (λ w. refl)
      (λ w stands. ap₂ (λ (c : Scene) (n : ℕ). while_code n (expr_code c (expr_of (within (position_of s) w) test)) (stmt_code (setting (position_of s) w) (stmt_of (within (position_of s) w) body) k (Loop ∷ (position_of s).frames))) (scene_is (position_of s) w stands) level_is)
      (written_here (aim.Break level) ends (written_turn op.Goto start turns place u));
}

-- ---- do

pub do_turn : {a b e : List ℕ} {w0 w2 : List Wait} {ns ns_new : List TryNote} {k l : ℕ} (inside : StmtContext) (body : Stmt) → w0 ≡ [] → EmitsAt inside.exprs a b (just op.LoopHead) → StmtWritten (position_of inside) (emitted b w0 ns) (emitted e w2 ns_new) k l body
    → Written (position_of inside) (emitted a [] ns) (emitted e w2 ns_new) k l (body_fits body (position_of inside)) (body_count body (position_of inside)) (λ w i. just op.LoopHead ++ body_code body (position_of inside) w i)
do_turn {w0 = w0} {ns = ns} {k = k} inside body none head y =
    written_by (λ w f. (tt, f)) (λ w f. zero-add (body_count body (position_of inside) w)) (λ w stands f. ap (λ (i : ℕ). just op.LoopHead ++ body_code body (position_of inside) w i) (add-zero k))
    (written_from_none none (written_both (written_plain inside w0 ns k (written_of head)) y.row.code))

pub do_row : {a f g h i : List ℕ} {t1 ws ws_new : List Wait} {ns ns_new : List TryNote} {k l start : ℕ} (s inside : StmtContext) (test : Expr) (body : Stmt) (level : ℕ) (semi : _) → position_of inside ≡ framed (Loop ∷ (position_of s).frames) (position_of s) → level ≡ length (position_of s).frames → length a ≡ start
    → Written (position_of inside) (emitted a [] ns) (emitted f t1 ns_new) k l (body_fits body (position_of inside)) (body_count body (position_of inside)) (λ w i. here (aim.Continue level) (just op.LoopHead ++ body_code body (position_of inside) w i))
    → ExprEmits inside.exprs f g Plainly test → TurnsBack op.JumpIfTrue start g h → LandsHere (aim.Break level) h t1 ws i ws_new
    → RowWritten (position_of s) (emitted a ws ns) (emitted i ws_new ns_new) k l (λ w. model.Do (stmt_of (within (position_of s) w) body) (expr_of (within (position_of s) w) test) semi)
do_row {t1 = t1} {ns_new = ns_new} {k = k} {l} {start} s inside test body level semi is level_is place u x turns ends = record {
  code = framed_row s inside Loop (λ q w. body_fits body q w × test_fits test q w) (λ q w. body_count body q w + 0) (λ q w i. do_code level (body_code body q w i) (value_code test q w)) is (λ base. refl) (λ w f. f) (λ w. add-zero (body_count body (position_of s) w))
      (λ w stands. ap₂ (λ (c : Scene) (n : ℕ). do_code n (stmt_code (setting (position_of s) w) (stmt_of (within (position_of s) w) body) k (Loop ∷ (position_of s).frames)) (expr_code c (expr_of (within (position_of s) w) test))) (scene_is (position_of s) w stands) level_is)
      (written_here (aim.Break level) ends (written_turn op.JumpIfTrue start turns place (written_both u (written_plain inside t1 ns_new l x.row.code))));
}

-- ---- for

abbrev maybe_fits : Option Expr → Position → World → Type 0
maybe_fits e q w = MaybeExprFits (maybe_in q w e)

pub for_turn : {a b c e : List ℕ} {w0 w1 w2 : List Wait} {ns ns_new : List TryNote} {k l : ℕ} (inside : StmtContext) (test : Option Expr) (body : Stmt) (level : ℕ) → w0 ≡ [] → EmitsAt inside.exprs a b (just op.LoopHead) → Tested inside b w0 c w1 level test → StmtWritten (position_of inside) (emitted c w1 ns) (emitted e w2 ns_new) k l body
    → Written (position_of inside) (emitted a [] ns) (emitted e w2 ns_new) k l (λ w. maybe_fits test (position_of inside) w × body_fits body (position_of inside) w) (body_count body (position_of inside))
    (λ w i. just op.LoopHead ++ test_code (scene (position_of inside)) level (maybe_in (position_of inside) w test) ++ body_code body (position_of inside) w i)
for_turn {w0 = w0} {ns = ns} {k = k} inside test body level none head x y =
    written_by (λ w f. ((tt, f.0), f.1)) (λ w f. zero-add (body_count body (position_of inside) w))
    (λ w stands f. ap (λ (i : ℕ). just op.LoopHead ++ test_code (scene (position_of inside)) level (maybe_in (position_of inside) w test) ++ body_code body (position_of inside) w i) (add-zero k))
    (written_from_none none (written_both (written_both (written_plain inside w0 ns k (written_of head)) (x.made ns k)) y.row.code))

pub for_turns : {a f g h i j : List ℕ} {t1 ws ws_new : List Wait} {ns ns_new : List TryNote} {k l start : ℕ} (s inside : StmtContext) (head : Option ℕ) (test update : Option Expr) (body : Stmt) (level : ℕ) → position_of inside ≡ framed (Loop ∷ (position_of s).frames) (position_of s) → level ≡ length (position_of s).frames → length a ≡ start
    → Written (position_of inside) (emitted a [] ns) (emitted f t1 ns_new) k l (λ w. maybe_fits test (position_of inside) w × body_fits body (position_of inside) w) (body_count body (position_of inside))
    (λ w i. here (aim.Continue level) (just op.LoopHead ++ test_code (scene (position_of inside)) level (maybe_in (position_of inside) w test) ++ body_code body (position_of inside) w i))
    → EmitsAt inside.exprs f g (freshen_head (position_of inside).scopes head) → ValueEmits inside.exprs g h update update_code → TurnsBack op.Goto start h i → LandsHere (aim.Break level) i t1 ws j ws_new
    → ForWritten (position_of s) (emitted a ws ns) (emitted j ws_new ns_new) k l head test update body
for_turns {t1 = t1} {ns_new = ns_new} {k = k} {l} {start} s inside head test update body level is level_is place u fresh x turns ends = record {
  code = framed_row s inside Loop (λ q w. ((maybe_fits test q w × body_fits body q w) × Unit {0}) × maybe_fits update q w) (λ q w. body_count body q w + 0 + 0)
      (λ q w i. for_code level (test_code (scene q) level (maybe_in q w test)) (body_code body q w i) (freshen_head q.scopes head) (update_code (scene q) (maybe_in q w update))) is (λ base. refl) (λ w f. (((f.0, f.2), tt), f.1)) (λ w. add-zero _ ∙ add-zero (body_count body (position_of s) w))
      (λ w stands. ap₂ (λ (c : Scene) (n : ℕ). for_code n (test_code c n (maybe_in (position_of s) w test)) (stmt_code (setting (position_of s) w) (stmt_of (within (position_of s) w) body) k (Loop ∷ (position_of s).frames)) (freshen_head (position_of s).scopes head) (update_code c (maybe_in (position_of s) w update))) (scene_is (position_of s) w stands) level_is)
      (written_here (aim.Break level) ends (written_turn op.Goto start turns place (written_both (written_both u (written_plain inside t1 ns_new l (written_of fresh))) (written_plain inside t1 ns_new l x.made))));
}

-- ---- for-in

abbrev each_fits : Each → Position → World → Type 0
each_fits each q w = EachFits (each_of (within q w) each)

abbrev each_code : Each → Position → World → Code
each_code each q w = store_each (scene q) (each_of (within q w) each)

abbrev keys_body : ℕ → Option ℕ → Each → Stmt → Position → World → ℕ → Code
keys_body level head each body q w i = keys_code level ++ freshen_head q.scopes head ++ just op.Dup ++ each_code each q w ++ just op.Pop ++ body_code body q w i

pub keys_turn : {a b c d e f g : List ℕ} {w0 w1 w2 : List Wait} {ns ns_new : List TryNote} {k l : ℕ} (inside : StmtContext) (head : Option ℕ) (each : Each) (body : Stmt) (level : ℕ) → w0 ≡ []
    → KeysTested a w0 b w1 level → EmitsAt inside.exprs b c (freshen_head (position_of inside).scopes head) → EmitsAt inside.exprs c d (just op.Dup) → EachEmits inside.exprs d e each → EmitsAt inside.exprs e f (just op.Pop) → StmtWritten (position_of inside) (emitted f w1 ns) (emitted g w2 ns_new) k l body
    → Written (position_of inside) (emitted a [] ns) (emitted g w2 ns_new) k l (λ w. each_fits each (position_of inside) w × body_fits body (position_of inside) w) (body_count body (position_of inside)) (keys_body level head each body (position_of inside))
keys_turn {w0 = w0} {w1} {ns = ns} {k = k} inside head each body level none test fresh dup store pop y =
    written_by (λ w f. (((((tt, tt), tt), f.0), tt), f.1)) (λ w f. zero-add (body_count body (position_of inside) w))
    (λ w stands f. ap (λ (i : ℕ). keys_body level head each body (position_of inside) w i) (add-zero k))
    (written_from_none none
    (written_both
    (written_both (written_both (written_both (written_both (test.made (position_of inside) ns k) (written_plain inside w1 ns k (written_of fresh))) (written_plain inside w1 ns k (written_of dup))) (written_plain inside w1 ns k store.made)) (written_plain inside w1 ns k (written_of pop)))
    y.row.code))

pub keys_row : {y z a f g h i j : List ℕ} {t1 ws ws_new : List Wait} {ns ns_new : List TryNote} {k l start : ℕ} (s inside : StmtContext) (head : Option ℕ) (each : Each) (over : Expr) (body : Stmt) (level : ℕ) → position_of inside ≡ framed (KeysLoop ∷ (position_of s).frames) (position_of s) → level ≡ length (position_of s).frames → length a ≡ start
    → ExprEmits s.exprs y z Plainly over → EmitsAt s.exprs z a (just op.Iter)
    → Written (position_of inside) (emitted a [] ns) (emitted f t1 ns_new) k l (λ w. each_fits each (position_of inside) w × body_fits body (position_of inside) w) (body_count body (position_of inside)) (λ w i. here (aim.Continue level) (keys_body level head each body (position_of inside) w i))
    → EmitsAt inside.exprs f g (just op.Pop) → TurnsBack op.Goto start g h → LandsHere (aim.Break level) h t1 ws i ws_new → EmitsAt s.exprs i j (just op.EndIter)
    → ForInWritten (position_of s) (emitted y ws ns) (emitted j ws_new ns_new) k l head each over body
keys_row {a = a} {i = i} {t1 = t1} {ws} {ws_new} {ns} {ns_new} {k} {l} {start} s inside head each over body level is level_is place x iter u pop turns ends end = record {
  code = written_by (λ w f. ((f.1, tt), ((f.0, f.2), tt))) (λ w f. zero-add _ ∙ add-zero _)
      (λ w stands f. ap₂ (λ (c : Scene) (n : ℕ). expr_code c (expr_of (within (position_of s) w) over) ++ just op.Iter ++ (loop (position_of s) w n ++ just op.EndIter)) (scene_is (position_of s) w stands) (add-zero k))
      (written_both (written_plain s ws ns k (expr.written_both x.row.code (written_of iter))) (written_both turned (written_plain s ws_new ns_new l (written_of end))));
}
  where
    loop : Position → World → ℕ → Code
    loop p w n = here (aim.Break (length p.frames)) (turning op.Goto (here (aim.Continue (length p.frames)) (keys_code (length p.frames) ++ freshen_head p.scopes head ++ just op.Dup ++ store_each (record { chain = chain_of p.scopes w.base p.frames; starts = p.starts }) (each_of (within p w) each) ++ just op.Pop ++ stmt_code (setting p w) (stmt_of (within p w) body) n (KeysLoop ∷ p.frames)) ++ just op.Pop))

    turned : Written (position_of s) (emitted a ws ns) (emitted i ws_new ns_new) k l (λ w. each_fits each (position_of s) w × StmtFits (position_of s).room (2 + kept_values (position_of s).frames) (stmt_of (within (position_of s) w) body)) (λ w. body_count body (position_of s) w) (loop (position_of s))
    turned = framed_row s inside KeysLoop (λ q w. (each_fits each q w × body_fits body q w) × Unit {0}) (λ q w. body_count body q w + 0) (λ q w i. here (aim.Break level) (turning op.Goto (here (aim.Continue level) (keys_body level head each body q w i) ++ just op.Pop))) is (λ base. refl) (λ w f. (f, tt)) (λ w. add-zero (body_count body (position_of s) w))
        (λ w stands. ap₂ (λ (c : Scene) (n : ℕ). here (aim.Break n) (turning op.Goto (here (aim.Continue n) (keys_code n ++ freshen_head (position_of s).scopes head ++ just op.Dup ++ store_each c (each_of (within (position_of s) w) each) ++ just op.Pop ++ stmt_code (setting (position_of s) w) (stmt_of (within (position_of s) w) body) k (KeysLoop ∷ (position_of s).frames)) ++ just op.Pop))) (scene_is (position_of s) w stands) level_is)
        (written_here (aim.Break level) ends (written_turn op.Goto start turns place (written_both u (written_plain inside t1 ns_new l (written_of pop)))))
