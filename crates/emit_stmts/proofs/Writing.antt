-- Code that was appended, one after the other.
use Rattle.std.proofs.Common.{◌≡◌, ℕ, ◌+◌, ◌<◌, ◌^◌, false, List, [], ◌∷◌, ◌++◌, length, refl, sym, ◌∙◌, ap, ap₂, subst, add-zero, append_assoc, append-nil, arith}
use Rattle.script_grammar.specs.Tree.{Stmts}
use Rattle.script_grammar.specs.Tree as model
use Rattle.script_grammar.specs.declared.tree.Stmt.{Stmt}
use Rattle.script_grammar.specs.TreeOf.{stmt_of}
use Rattle.stencil_data.specs.declared.stencils.TryNote.{TryNote}
use Rattle.scope_analysis.specs.Scopes.{count_stmt, count_stmts}
use Rattle.bytecode_buf.specs.declared.opcode.Op.{Op}
use Rattle.bytecode_buf.specs.declared.waits.Aim.{Aim}
use Rattle.bytecode_buf.specs.declared.waits.Wait.{Wait}
use Rattle.bytecode_buf.specs.Appends.{Emitted, AllRoom, Appends}
use Rattle.bytecode_buf.specs.Emits.{emitted, Waits, LandsHere, TurnsBack}
use Rattle.bytecode_buf.specs.Pieces.{Code, Waiting, here, turning}
use Rattle.bytecode_buf.proofs.AppendLemmas.{appends_none, appends_both, appends_room}
use Rattle.emit_exprs.specs.TreeCode as expr
use Rattle.emit_stmts.specs.Apart.{is_clause, Apart}
use Rattle.emit_stmts.specs.declared.stmt_context.StmtContext.{StmtContext}
use Rattle.emit_stmts.specs.Frames.{Frame, chain_of, kept_values}
use Rattle.emit_stmts.specs.Positions.{Position, position_of, framed, scene, World, setting, within, Stands}
use Rattle.emit_stmts.specs.PartCode.{stmts_in}
use Rattle.emit_stmts.specs.StmtCode.{Written, RowWritten, StmtWritten, StmtsWritten}
use Rattle.emit_stmts.specs.StmtFits.{StmtFits, StmtsFit}
use Rattle.emit_stmts.proofs.Apart.{apart_append, apart_emits, apart_here, apart_turning}
use Rattle.emit_stmts.specs.Stmts.{stmt_code, stmts_code, scene_at}

pub written_none : (p : Position) (now : Emitted) (number : ℕ) → Written p now now number number (λ w. Unit {0}) (λ w. 0) (λ w n. [])
written_none p now number = record { written = []; appends = appends_none p.texts now; apart = tt; counted = λ w f small. sym (add-zero number); is = λ w stands f small. refl }

-- code of expressions, in which no scope stands
pub written_plain : {o n : List ℕ} {f : (ℕ → Stmts) → Type 0} {x : (ℕ → Stmts) → Code} (s : StmtContext) (ws : List Wait) (ns : List TryNote) (number : ℕ) → expr.Written s.exprs o n f x → Written (position_of s) (emitted o ws ns) (emitted n ws ns) number number (λ w. f w.bodies) (λ w. 0) (λ w k. x w.bodies)
written_plain s ws ns number e = record { written = e.written; appends = e.emits.anywhere ws ns; apart = apart_emits e.emits; counted = λ w f small. sym (add-zero number); is = λ w stands f small. e.is w.bodies f }

pub written_both : {p : Position} {a b c : Emitted} {k l j : ℕ} {f g : World → Type 0} {m n : World → ℕ} {x y : World → ℕ → Code} → Written p a b k l f m x → Written p b c l j g n y → Written p a c k j (λ w. f w × g w) (λ w. m w + n w) (λ w i. x w i ++ y w (i + m w))
written_both {k = k} {m = m} {n} {y = y} u v = record {
  written = u.written ++ v.written;
  appends = appends_both u.appends v.appends;
  apart = apart_append u.written v.written u.apart v.apart;
  counted = λ w f small.
      let first = u.counted w f.0 (omega arith) in
      let second = v.counted w f.1 (omega (arith, first)) in
      omega (arith, first, second);
  is = λ w stands f small.
      let first = u.counted w f.0 (omega arith) in
      ap₂ (λ (one : Code) (two : Code). one ++ two) (u.is w stands f.0 (omega arith)) (v.is w stands f.1 (omega (arith, first)) ∙ ap (λ (i : ℕ). y w i) first);
}

-- the same code by other words
pub written_as : {p : Position} {a b : Emitted} {k l : ℕ} {f g : World → Type 0} {m n : World → ℕ} {x y : World → ℕ → Code} → ((w : World) → g w → f w) → ((w : World) → m w ≡ n w) → ((w : World) (i : ℕ) → Stands p w → x w i ≡ y w i) → Written p a b k l f m x → Written p a b k l g n y
written_as {k = k} {m = m} {n} fit counts same u = record {
  written = u.written;
  appends = u.appends;
  apart = u.apart;
  counted = λ w f small. u.counted w (fit w f) (omega (arith, counts w)) ∙ ap (λ (c : ℕ). k + c) (counts w);
  is = λ w stands f small. u.is w stands (fit w f) (omega (arith, counts w)) ∙ same w k stands;
}

-- from a list of jumps that is empty
pub written_from_none : {p : Position} {bytes : List ℕ} {ws : List Wait} {ns : List TryNote} {new : Emitted} {k l : ℕ} {f : World → Type 0} {m : World → ℕ} {x : World → ℕ → Code} → ws ≡ [] → Written p (emitted bytes ws ns) new k l f m x → Written p (emitted bytes [] ns) new k l f m x
written_from_none {p} {bytes} {ws} {ns} {new} {k} {l} {f} {m} {x} none u = subst (λ (l' : List Wait). Written p (emitted bytes l' ns) new k l f m x) none u

-- a jump that waits for no clause of a switch
pub written_wait : {bytes new : List ℕ} {ws ws_new : List Wait} (op : Op) (aim : Aim) (p : Position) (ns : List TryNote) (number : ℕ) → is_clause aim ≡ false → Waits op aim bytes ws new ws_new → Written p (emitted bytes ws ns) (emitted new ws_new ns) number number (λ w. Unit {0}) (λ w. 0) (λ w i. Waiting op aim ∷ [])
written_wait op aim p ns number other waits = record { written = Waiting op aim ∷ []; appends = waits p.texts ns; apart = (other, tt); counted = λ w f small. sym (add-zero number); is = λ w stands f small. refl }

-- code whose jumps were landed after it
pub written_here : {p : Position} {start bytes new : List ℕ} {inner ws ws_new : List Wait} {ns ns_now : List TryNote} {k l : ℕ} {f : World → Type 0} {m : World → ℕ} {x : World → ℕ → Code} (aim : Aim) → LandsHere aim bytes inner ws new ws_new → Written p (emitted start [] ns) (emitted bytes inner ns_now) k l f m x → Written p (emitted start ws ns) (emitted new ws_new ns_now) k l f m (λ w i. here aim (x w i))
written_here {p} {start} {ns = ns} {ns_now} aim lands u = record {
  written = here aim u.written;
  appends = lands p.texts start ns ns_now u.written u.appends;
  apart = apart_here aim u.written u.apart;
  counted = u.counted;
  is = λ w stands f small. ap (here aim) (u.is w stands f small);
}

-- code with a jump back to its beginning
pub written_turn : {p : Position} {old : Emitted} {bytes new : List ℕ} {ws : List Wait} {ns : List TryNote} {k l : ℕ} {f : World → Type 0} {m : World → ℕ} {x : World → ℕ → Code} (op : Op) (start : ℕ) → TurnsBack op start bytes new → length old.bytes ≡ start → Written p old (emitted bytes ws ns) k l f m x → Written p old (emitted new ws ns) k l f m (λ w i. turning op (x w i))
written_turn {p} {old} {ws = ws} {ns} op start turns place u = record {
  written = turning op u.written;
  appends = turns p.texts old ws ns u.written place u.appends;
  apart = apart_turning op u.written u.apart;
  counted = u.counted;
  is = λ w stands f small. ap (turning op) (u.is w stands f small);
}

-- the jumps that wait lie inside the code
pub written_room : {p : Position} {start bytes : List ℕ} {inner : List Wait} {ns ns_now : List TryNote} {k l : ℕ} {f : World → Type 0} {m : World → ℕ} {x : World → ℕ → Code} → Written p (emitted start [] ns) (emitted bytes inner ns_now) k l f m x → AllRoom (length bytes) inner
written_room u = appends_room refl u.appends

-- what was written with one more frame around
pub written_framed : {p : Position} {a b : Emitted} {k l : ℕ} {f : World → Type 0} {m : World → ℕ} {x : World → ℕ → Code} (frames : List Frame) → ((base : List _) → chain_of p.scopes base p.frames ≡ chain_of p.scopes base frames) → Written (framed frames p) a b k l f m x → Written p a b k l f m x
written_framed frames same u = record {
  written = u.written;
  appends = u.appends;
  apart = u.apart;
  counted = u.counted;
  is = λ w stands f small. u.is w (record { chain = stands.chain ∙ same w.base }) f small;
}

-- the scene is that of the frames
pub scene_is : (p : Position) (w : World) → Stands p w → scene p ≡ scene_at (setting p w) p.frames
scene_is p w stands = ap (λ (c : List _). record { chain = c; starts = p.starts }) stands.chain

-- code of a statement of the model
pub row_of : {p : Position} {a b : Emitted} {k l : ℕ} {f : World → Type 0} {n : World → ℕ} {x : World → ℕ → Code} (m : World → model.Stmt) → ((w : World) → StmtFits p.room (kept_values p.frames) (m w) → f w) → ((w : World) → n w ≡ count_stmt (m w)) → ((w : World) (i : ℕ) → Stands p w → x w i ≡ stmt_code (setting p w) (m w) i p.frames) → Written p a b k l f n x → RowWritten p a b k l m
row_of m fit counts same u = record { code = written_as fit counts same u }

-- code of a statement, by the one of the model that it stands for
pub stmt_at : {p : Position} {a b : Emitted} {k l : ℕ} (s : Stmt) (m : World → model.Stmt) → ((w : World) → stmt_of (within p w) s ≡ m w) → RowWritten p a b k l m → StmtWritten p a b k l s
stmt_at {p} s m same u = record {
  row = record {
    code = written_as (λ w f. subst (λ (t : model.Stmt). StmtFits p.room (kept_values p.frames) t) (same w) f) (λ w. ap count_stmt (sym (same w)))
        (λ w i stands. ap (λ (t : model.Stmt). stmt_code (setting p w) t i p.frames) (sym (same w))) u.code;
  };
}

-- the same code by other words, where its counts fit, with its own number
pub written_by : {p : Position} {a b : Emitted} {k l : ℕ} {f g : World → Type 0} {m n : World → ℕ} {x y : World → ℕ → Code} → ((w : World) → g w → f w) → ((w : World) → g w → m w ≡ n w) → ((w : World) → Stands p w → g w → x w k ≡ y w k) → Written p a b k l f m x → Written p a b k l g n y
written_by {k = k} fit counts same u = record {
  written = u.written;
  appends = u.appends;
  apart = u.apart;
  counted = λ w f small. u.counted w (fit w f) (omega (arith, counts w f)) ∙ ap (λ (c : ℕ). k + c) (counts w f);
  is = λ w stands f small. u.is w stands (fit w f) (omega (arith, counts w f)) ∙ same w stands f;
}

-- at the same position by other words
pub written_moved : {p q : Position} {a b : Emitted} {k l : ℕ} (f : Position → World → Type 0) (m : Position → World → ℕ) (x : Position → World → ℕ → Code) → q ≡ p → Written q a b k l (f q) (m q) (x q) → Written p a b k l (f p) (m p) (x p)
written_moved {a = a} {b} {k} {l} f m x same u = subst (λ (r : Position). Written r a b k l (f r) (m r) (x r)) same u

-- ---- parts that are appended one after the other: what was appended, and what is left

pub record Left (p : Position) (start now : Emitted) (number next : ℕ) (all left : World → Type 0) (count rest_count : World → ℕ) (code rest : World → ℕ → Code) : Type 0 where
  pub written : Code
  pub appends : Appends p.texts start now written
  pub apart : Apart written
  pub fits : (w : World) → all w → left w
  pub counted : (w : World) → all w → number + count w < 2 ^ 64 → next + rest_count w ≡ number + count w
  pub is : (w : World) → Stands p w → all w → number + count w < 2 ^ 64 → written ++ rest w next ≡ code w number

pub left_begin : (p : Position) (now : Emitted) (number : ℕ) (all : World → Type 0) (count : World → ℕ) (code : World → ℕ → Code) → Left p now now number number all all count count code code
left_begin p now number all count code = record { written = []; appends = appends_none p.texts now; apart = tt; fits = λ w a. a; counted = λ w a small. refl; is = λ w stands a small. refl }

pub left_step : {p : Position} {start now new : Emitted} {number next l : ℕ} {all left further g : World → Type 0} {count rest_count later_count n : World → ℕ} {code rest later y : World → ℕ → Code}
    → Written p now new next l g n y
    → ((w : World) → left w → g w)
    → ((w : World) → left w → further w)
    → ((w : World) → left w → rest_count w ≡ n w + later_count w)
    → ((w : World) → Stands p w → left w → rest w next ≡ y w next ++ later w (next + n w))
    → Left p start now number next all left count rest_count code rest → Left p start new number l all further count later_count code later
left_step {number = number} {next} {l} {count = count} {rest_count} {later_count} {n} {later = later} {y} u here_fits on counts same x = record {
  written = x.written ++ u.written;
  appends = appends_both x.appends u.appends;
  apart = apart_append x.written u.written x.apart u.apart;
  fits = λ w a. on w (x.fits w a);
  counted = λ w a small.
      let old = x.counted w a small in
      let both = counts w (x.fits w a) in
      let one = u.counted w (here_fits w (x.fits w a)) (omega (arith, old, both)) in
      omega (arith, old, both, one);
  is = λ w stands a small.
      let old = x.counted w a small in
      let both = counts w (x.fits w a) in
      let one = u.counted w (here_fits w (x.fits w a)) (omega (arith, old, both)) in
      append_assoc x.written u.written (later w l)
      ∙ (ap (λ (c : Code). x.written ++ (c ++ later w l)) (u.is w stands (here_fits w (x.fits w a)) (omega (arith, old, both)))
      ∙ (ap (λ (i : ℕ). x.written ++ (y w next ++ later w i)) one
      ∙ (ap (λ (c : Code). x.written ++ c) (sym (same w stands (x.fits w a))) ∙ x.is w stands a small)));
}

pub left_end : {p : Position} {start now : Emitted} {number next : ℕ} {all left : World → Type 0} {count rest_count : World → ℕ} {code rest : World → ℕ → Code} → ((w : World) → rest_count w ≡ 0) → ((w : World) (i : ℕ) → rest w i ≡ []) → Left p start now number next all left count rest_count code rest → Written p start now number next all count code
left_end {next = next} no_more none x = record {
  written = x.written;
  appends = x.appends;
  apart = x.apart;
  counted = λ w a small. omega (arith, no_more w, x.counted w a small);
  is = λ w stands a small. sym (append-nil x.written) ∙ (ap (λ (c : Code). x.written ++ c) (sym (none w next)) ∙ x.is w stands a small);
}

-- ---- statements, one after the other

pub record StmtsLeft (p : Position) (start now : Emitted) (number next : ℕ) (all left : List Stmt) : Type 0 where
  pub loop : Left p start now number next (λ w. StmtsFit p.room (kept_values p.frames) (stmts_in p w all)) (λ w. StmtsFit p.room (kept_values p.frames) (stmts_in p w left)) (λ w. count_stmts (stmts_in p w all)) (λ w. count_stmts (stmts_in p w left))
      (λ w i. stmts_code (setting p w) (stmts_in p w all) i p.frames) (λ w i. stmts_code (setting p w) (stmts_in p w left) i p.frames)

pub stmts_begin : (p : Position) (now : Emitted) (number : ℕ) (all : List Stmt) → StmtsLeft p now now number number all all
stmts_begin p now number all = record { loop = left_begin p now number _ _ _ }

pub stmts_next : {p : Position} {start now new : Emitted} {number next l : ℕ} {all : List Stmt} (left further : List Stmt) (s : Stmt) → left ≡ s ∷ further → StmtWritten p now new next l s → StmtsLeft p start now number next all left → StmtsLeft p start new number l all further
stmts_next {p} {next = next} left further s is x y = record {
  loop = left_step x.row.code (λ w f. (subst (StmtsFit p.room (kept_values p.frames)) (same w) f).0) (λ w f. (subst (StmtsFit p.room (kept_values p.frames)) (same w) f).1) (λ w f. ap count_stmts (same w)) (λ w stands f. ap (λ (m : model.Stmts). stmts_code (setting p w) m next p.frames) (same w)) y.loop;
}
  where
    same : (w : World) → stmts_in p w left ≡ model.more_stmts (stmt_of (within p w) s) (stmts_in p w further)
    same w = ap (stmts_in p w) is

pub stmts_end : {p : Position} {start now : Emitted} {number next : ℕ} {all : List Stmt} (left : List Stmt) → left ≡ [] → StmtsLeft p start now number next all left → StmtsWritten p start now number next all
stmts_end {p} left none x = record { code = left_end (λ w. ap (λ (ss : List Stmt). count_stmts (stmts_in p w ss)) none) (λ w i. ap (λ (ss : List Stmt). stmts_code (setting p w) (stmts_in p w ss) i p.frames) none) x.loop }
