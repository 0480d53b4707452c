-- The clauses of a switch, whose jumps wait apart from the others.
use Rattle.std.proofs.Common.{◌≡◌, ℕ, ◌+◌, ◌<◌, ◌≤◌, true, List, [], ◌∷◌, ◌++◌, length, drop, map, Vec, Global, refl, sym, ◌∙◌, ap, subst, arith, append-nil, append_assoc}
use Rattle.script_grammar.specs.declared.tree.Clause.{Clause}
use Rattle.script_grammar.specs.declared.tree.Stmt.{Stmt}
use Rattle.script_grammar.specs.Interpretation.{Interpretation}
use Rattle.script_grammar.specs.TreeLists.{clauses_of}
use Rattle.script_grammar.specs.TreeOf.{clause_of}
use Rattle.stencil_data.specs.declared.stencils.TryNote.{TryNote}
use Rattle.bytecode_buf.specs.declared.opcode.Op.TheVariants as op
use Rattle.bytecode_buf.specs.declared.waits.Aim.{Aim}
use Rattle.bytecode_buf.specs.declared.waits.Wait.{Wait}
use Rattle.bytecode_buf.specs.Appends.{Appends, AllRoom, waits_of}
use Rattle.bytecode_buf.specs.Emits.{emitted, Waits}
use Rattle.bytecode_buf.specs.Pieces.{Code, Waiting}
use Rattle.emit_stmts.specs.declared.stmt_context.StmtContext.{StmtContext}
use Rattle.emit_stmts.specs.declared.switching.ClauseJumps.{ClauseJumps}
use Rattle.emit_stmts.specs.Apart.{is_clause, place_of}
use Rattle.emit_stmts.specs.Clauses.{NoClause, InOrder, Among, ClauseLanded, waiting}
use Rattle.emit_stmts.specs.HeadCode.{CasesWritten}
use Rattle.emit_stmts.specs.Positions.{Position, World, position_of}
use Rattle.emit_stmts.specs.StmtCode.{Written, StmtsWritten}
use Rattle.emit_stmts.specs.Stmts.{default_aim}
use Rattle.emit_stmts.proofs.Apart.{NoClause-append, waits_apart}
use Rattle.emit_stmts.proofs.Landing.{first_room, in_order_le, in_order_end, among_end}
use Rattle.emit_stmts.proofs.SwitchRows.{ClausesLeft, clauses_begin, clauses_next}

-- ---- after other jumps that wait

appends_behind : {texts : List (List ℕ)} {bytes bytes_new : List ℕ} {ws ws_new : List Wait} {ns ns_new : List TryNote} {code : Code} (before : List Wait) → Appends texts (emitted bytes ws ns) (emitted bytes_new ws_new ns_new) code → Appends texts (emitted bytes (before ++ ws) ns) (emitted bytes_new (before ++ ws_new) ns_new) code
appends_behind {bytes = bytes} {ws = ws} before x = record {
  pieces = x.pieces;
  fit = x.fit;
  bytes = x.bytes;
  waits = ap (λ (l : List Wait). before ++ l) x.waits ∙ sym (append_assoc before ws (waits_of (length bytes) x.pieces));
  notes = x.notes;
  stands = x.stands;
}

written_behind : {p : Position} {bytes bytes_new : List ℕ} {ws ws_new : List Wait} {ns ns_new : List TryNote} {number next : ℕ} {fits : World → Type 0} {count : World → ℕ} {code : World → ℕ → Code} (before : List Wait) → Written p (emitted bytes ws ns) (emitted bytes_new ws_new ns_new) number next fits count code → Written p (emitted bytes (before ++ ws) ns) (emitted bytes_new (before ++ ws_new) ns_new) number next fits count code
written_behind before u = record { written = u.written; appends = appends_behind before u.appends; apart = u.apart; counted = u.counted; is = u.is }

-- ---- one clause after the other

pub record SwitchLeft (p : Position) (start : List ℕ) (notes : List TryNote) (bytes : List ℕ) (jumps : ClauseJumps) (rest : List Wait) (notes_now : List TryNote) (number next place level : ℕ) (all further : List Clause) : Type 0 where
  pub code : ClausesLeft p start notes bytes (waiting jumps ++ rest) notes_now number next place level all further
  pub order : InOrder place (length all) (drop jumps.landed jumps.tests.items)
  pub among : Among place (length all) jumps.otherwise.items
  pub apart : NoClause rest

pub switch_begin : {a b c : List ℕ} {w0 o0 rest : List Wait} {level : ℕ} {goal : Aim} (s : StmtContext) (notes : List TryNote) (number : ℕ) (all : List Clause) (tests otherwise : Vec Wait Global) (at : ℕ)
    → w0 ≡ [] → CasesWritten s a w0 b tests.items all → (w0 ≡ [] → InOrder 0 (length all) tests.items)
    → o0 ≡ [] → Waits op.Default goal b o0 c otherwise.items → otherwise.items ≡ o0 ++ record { at = at; aim = goal } ∷ []
    → ((i : Interpretation) → goal ≡ default_aim level 0 (clauses_of (map (clause_of i) all))) → (is_clause goal ≡ true → place_of goal < length all)
    → rest ≡ [] → SwitchLeft (position_of s) a notes c (record { tests = tests; landed = 0; otherwise = otherwise }) rest notes number number 0 level all all
switch_begin {a} {b} {c} {w0} {o0} {rest} {level} {goal} s notes number all tests otherwise at none x order first jump is goal_is early empty = record {
  code = clauses_begin s notes number all none x behind goal_is;
  order = order none;
  among = subst (Among 0 (length all)) (sym (is ∙ ap (λ (l : List Wait). l ++ record { at = at; aim = goal } ∷ []) first)) ((λ c. (omega arith, early c)), tt);
  apart = subst NoClause (sym empty) tt;
}
  where
    old_is : tests.items ++ o0 ≡ tests.items
    old_is = ap (λ (l : List Wait). tests.items ++ l) first ∙ append-nil tests.items

    new_is : tests.items ++ otherwise.items ≡ (tests.items ++ otherwise.items) ++ rest
    new_is = sym (ap (λ (l : List Wait). (tests.items ++ otherwise.items) ++ l) empty ∙ append-nil (tests.items ++ otherwise.items))

    behind : Waits op.Default goal b tests.items c ((tests.items ++ otherwise.items) ++ rest)
    behind texts ns =
        subst (λ (l : List Wait). Appends texts (emitted b l ns) (emitted c ((tests.items ++ otherwise.items) ++ rest) ns) (Waiting op.Default goal ∷ [])) old_is
        (subst (λ (l : List Wait). Appends texts (emitted b (tests.items ++ o0) ns) (emitted c l ns) (Waiting op.Default goal ∷ [])) new_is
        (appends_behind tests.items (jump texts ns)))

pub switch_next : {p : Position} {start b c d : List ℕ} {jumps jumps_new : ClauseJumps} {rest rest_new : List Wait} {notes n1 n2 : List TryNote} {number next l place level : ℕ} {all : List Clause} (these further : List Clause) (x : Clause) (items : List Stmt) → these ≡ x ∷ further → items ≡ x.items.items
    → ((to : ℕ) → place < to → InOrder place to (drop jumps.landed jumps.tests.items) → ClauseLanded place to b jumps c jumps_new) → place < length all
    → StmtsWritten p (emitted c rest n1) (emitted d rest_new n2) next l items
    → SwitchLeft p start notes b jumps rest n1 number next place level all these → SwitchLeft p start notes d jumps_new rest_new n2 number l (place + 1) level all further
switch_next {p} {start} {b} {c} {d} {jumps} {jumps_new} {rest} {rest_new} {notes} {n1} {n2} {number} {next} {l} {place} {level} {all} these further x items is items_is land inside y z = record {
  code = clauses_next these further x items is items_is refl (landed.lands rest z.apart) behind z.code;
  order = landed.order;
  among = landed.among z.among;
  apart = waits_apart y.code.appends y.code.apart z.apart;
}
  where
    landed : ClauseLanded place (length all) b jumps c jumps_new
    landed = land (length all) inside z.order

    behind : StmtsWritten p (emitted c (waiting jumps_new ++ rest) n1) (emitted d (waiting jumps_new ++ rest_new) n2) next l items
    behind = record { code = written_behind (waiting jumps_new) y.code }

pub switch_room : {p : Position} {start bytes : List ℕ} {jumps : ClauseJumps} {rest : List Wait} {notes notes_now : List TryNote} {number next place level : ℕ} {all further : List Clause} → AllRoom (length bytes) (waiting jumps ++ rest) → SwitchLeft p start notes bytes jumps rest notes_now number next place level all further → AllRoom (length bytes) (waiting jumps)
switch_room {bytes = bytes} {jumps} {rest} room z = first_room (length bytes) (waiting jumps) rest room

-- ---- after the last clause

-- only the jump for where no test holds still waits beside what the clauses left
pub switch_last : {p : Position} {start bytes : List ℕ} {jumps : ClauseJumps} {rest : List Wait} {notes notes_now : List TryNote} {number next place level : ℕ} {all further : List Clause} → length all ≤ place → SwitchLeft p start notes bytes jumps rest notes_now number next place level all further → waiting jumps ++ rest ≡ jumps.otherwise.items ++ rest
switch_last {jumps = jumps} {rest} {place = place} {all = all} done z =
    let here : place ≤ length all = in_order_le place (length all) (drop jumps.landed jumps.tests.items) z.order in
    let at_end : place ≡ length all = omega (arith, here, done) in
    ap (λ (l : List Wait). (l ++ jumps.otherwise.items) ++ rest) (in_order_end (length all) (drop jumps.landed jumps.tests.items) (subst (λ (n : ℕ). InOrder n (length all) (drop jumps.landed jumps.tests.items)) at_end z.order))

pub switch_apart : {p : Position} {start bytes : List ℕ} {jumps : ClauseJumps} {rest : List Wait} {notes notes_now : List TryNote} {number next place level : ℕ} {all further : List Clause} → length all ≤ place → SwitchLeft p start notes bytes jumps rest notes_now number next place level all further → NoClause (jumps.otherwise.items ++ rest)
switch_apart {jumps = jumps} {rest} {place = place} {all = all} done z =
    let here : place ≤ length all = in_order_le place (length all) (drop jumps.landed jumps.tests.items) z.order in
    let at_end : place ≡ length all = omega (arith, here, done) in
    NoClause-append jumps.otherwise.items rest (among_end (length all) jumps.otherwise.items (subst (λ (n : ℕ). Among n (length all) jumps.otherwise.items) at_end z.among)) z.apart

pub switch_code_left : {p : Position} {start bytes : List ℕ} {jumps : ClauseJumps} {rest last : List Wait} {notes notes_now : List TryNote} {number next place level : ℕ} {all further : List Clause} → length all ≤ place → last ≡ jumps.otherwise.items ++ rest → SwitchLeft p start notes bytes jumps rest notes_now number next place level all further → ClausesLeft p start notes bytes last notes_now number next place level all further
switch_code_left {p} {start} {bytes} {jumps} {rest} {last} {notes} {notes_now} {number} {next} {place} {level} {all} {further} done is z =
    subst (λ (ws : List Wait). ClausesLeft p start notes bytes ws notes_now number next place level all further) (switch_last done z ∙ sym is) z.code
