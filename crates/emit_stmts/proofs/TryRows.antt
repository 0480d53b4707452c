-- Rows of try statements, and their notes.
use Rattle.std.proofs.Common.{◌≡◌, ℕ, zero, suc, ◌+◌, ◌*◌, ◌/◌, ◌<◌, ◌%◌, ◌^◌, true, false, ◌&&◌, nat_lt, List, [], ◌∷◌, ◌++◌, Option, Some, None, length, get_or, set, refl, sym, ◌∙◌, ap, ap₂, subst, arith, add-zero, zero-add, add_assoc, append_assoc, append-nil, length-append, true≢false}
use Rattle.std.proofs.lemmas.Bool.{lt-ltb}
use Rattle.std.proofs.Math.Nat.{mod-eq_of_lt, add-mul-mod_self_left, mod-add-div}
use Rattle.script_grammar.specs.declared.tree.Ident.{Ident}
use Rattle.script_grammar.specs.declared.tree.Stmt.{Stmt}
use Rattle.script_grammar.specs.Interpretation.{maybe_named}
use Rattle.script_grammar.specs.Tree as model
use Rattle.scope_analysis.specs.Scopes.{scope_count, catch_names}
use Rattle.stencil_data.specs.declared.stencils.TryNote.{TryNote}
use Rattle.bytecode_buf.specs.declared.opcode.Op.TheVariants as op
use Rattle.bytecode_buf.specs.declared.waits.Aim.TheVariants as aim
use Rattle.bytecode_buf.specs.declared.waits.Wait.{Wait}
use Rattle.bytecode_buf.specs.Appends.{Appends, numbered, numbered_width, laid_pieces, waits_of}
use Rattle.bytecode_buf.specs.Command.{plain}
use Rattle.bytecode_buf.specs.Emits.{emitted, Waits, LandsHere}
use Rattle.bytecode_buf.specs.Layout.{laid}
use Rattle.bytecode_buf.specs.Pieces.{Code, Trying, Waiting, here, size, size_by, notes_by}
use Rattle.bytecode_buf.proofs.AppendLemmas.{length-laid_pieces, size-pieces, size_by-bytes}
use Rattle.emit_exprs.specs.Exprs.{Scene}
use Rattle.emit_exprs.specs.Sites.{EmitsAt, scene_of, text_in}
use Rattle.emit_exprs.specs.Whole.{whole, just}
use Rattle.emit_exprs.proofs.Writing.{written_of}
use Rattle.emit_stmts.specs.declared.frames.Frame.{Frame}
use Rattle.emit_stmts.specs.declared.frames.Frame.TheVariants as frame
use Rattle.emit_stmts.specs.declared.stmt_context.StmtContext.{StmtContext}
use Rattle.emit_stmts.specs.Frames.{kept_values, leave_scope, scope_at}
use Rattle.emit_stmts.specs.PartCode.{BlockWritten, BlockFits, GuardedWritten, HandlerWritten, block_code, block_count, handler_code, stmts_in}
use Rattle.emit_stmts.specs.Positions.{Position, position_of, frame_in, frames_in, World, setting, within}
use Rattle.emit_stmts.specs.StmtCode.{Written, RowWritten}
use Rattle.emit_stmts.specs.Stmts.{scene_at, push_env, initializing, guarded}
use Rattle.emit_stmts.specs.Trying.{ended}
use Rattle.emit_stmts.proofs.Scoped.{inner_position, written_scope}
use Rattle.emit_stmts.proofs.Writing.{written_plain, written_wait, written_both, written_here, written_from_none, written_by, scene_is}

-- ---- notes

abbrev ended_note : ℕ → TryNote → TryNote
ended_note end n = record { start = n.start; end = end; depth = n.depth }

pub ended-set : (ns : List TryNote) (number end : ℕ) (n : TryNote) → number < length ns → n ≡ get_or ns number n → set ns number (ended_note end n) ≡ ended end number ns
ended-set [] number end n lt is = absurd (omega arith)
ended-set (m ∷ ms) zero end n lt is = ap (λ (x : TryNote). ended_note end x ∷ ms) is
ended-set (m ∷ ms) (suc k) end n lt is = ap (λ (l : List TryNote). m ∷ l) (ended-set ms k end n (omega arith) is)

ended-seam : (xs ys : List TryNote) (n : TryNote) (end : ℕ) → ended end (length xs) (xs ++ n ∷ ys) ≡ xs ++ ended_note end n ∷ ys
ended-seam [] ys n end = refl
ended-seam (x ∷ xs) ys n end = ap (λ (l : List TryNote). x ∷ l) (ended-seam xs ys n end)

-- ---- values that frames keep

modulo_more : (a b m : ℕ) → (a + b % m) % m ≡ (a + b) % m
modulo_more a b m = sym (add-mul-mod_self_left (a + b % m) m (b / m)) ∙ ap (λ (n : ℕ). n % m) (add_assoc a (b % m) (m * (b / m)) ∙ ap (λ (n : ℕ). a + n) (mod-add-div b m))

kept_more : (texts : List (List ℕ)) (f : Frame) (outer : List Frame) → kept_values (frame_in texts f ∷ []) + kept_values (frames_in texts outer) ≡ kept_values (frames_in texts (f ∷ outer))
kept_more texts frame.Loop outer = zero-add _
kept_more texts frame.KeysLoop outer = refl
kept_more texts frame.Switching outer = zero-add _
kept_more texts (frame.Labelled atom) outer = zero-add _
kept_more texts (frame.Entered number) outer = zero-add _

pub kept_modulo : (texts : List (List ℕ)) (f : Frame) (frames outer : List Frame) (one more : ℕ) → frames ≡ f ∷ outer → one ≡ kept_values (frame_in texts f ∷ []) → more ≡ kept_values (frames_in texts outer) % 2 ^ 32 → (one + more) % 2 ^ 32 ≡ kept_values (frames_in texts frames) % 2 ^ 32
kept_modulo texts f frames outer one more is one_is more_is =
    ap₂ (λ (a : ℕ) (b : ℕ). (a + b) % 2 ^ 32) one_is more_is
    ∙ (modulo_more (kept_values (frame_in texts f ∷ [])) (kept_values (frames_in texts outer)) (2 ^ 32)
    ∙ (ap (λ (n : ℕ). n % 2 ^ 32) (kept_more texts f outer) ∙ sym (ap (λ (fs : List Frame). kept_values (frames_in texts fs) % 2 ^ 32) is)))

-- the note of a Try after this code, while it is open
abbrev open_note : List ℕ → ℕ → TryNote
open_note bytes depth = record { start = length bytes; end = length bytes; depth = depth }

-- a Try, and what it guards
appends_guarded : {texts : List (List ℕ)} {a b c : List ℕ} {ws ws_new : List Wait} {n0 n1 : List TryNote} {code : Code} (depth : ℕ) → b ≡ a ++ laid (numbered op.Try 0) → Appends texts (emitted b ws (n0 ++ open_note b depth ∷ [])) (emitted c ws_new n1) code
    → Appends texts (emitted a ws n0) (emitted c ws_new (ended (length c) (length n0) n1)) (Trying (size code) depth ∷ code)
appends_guarded {texts} {a} {b} {c} {ws} {n0 = n0} {n1} {code} depth begun x = record {
  pieces = Trying (size_by numbered_width x.pieces) depth ∷ x.pieces;
  fit = (tt, x.fit);
  bytes = x.bytes ∙ (ap (λ (l : List ℕ). l ++ laid_pieces x.pieces) begun ∙ append_assoc a (laid (numbered op.Try 0)) (laid_pieces x.pieces));
  waits = x.waits ∙ ap (λ (n : ℕ). ws ++ waits_of n x.pieces) behind;
  notes = ap (ended (length c) (length n0)) (x.notes ∙ append_assoc n0 (open_note b depth ∷ []) (notes_by numbered_width (length b) x.pieces))
      ∙ (ended-seam n0 (notes_by numbered_width (length b) x.pieces) (open_note b depth) (length c)
      ∙ ap₂ (λ (m : ℕ) (n : ℕ). let note : TryNote = record { start = m; end = n; depth = depth } in n0 ++ note ∷ notes_by numbered_width m x.pieces) behind end);
  stands = ap₂ (λ (n : ℕ) (l : Code). Trying n depth ∷ l) (sym (size-pieces texts x.pieces) ∙ ap size x.stands) x.stands;
}
  where
    behind : length b ≡ length a + 1
    behind = ap length begun ∙ length-append a (laid (numbered op.Try 0))

    end : length c ≡ length a + 1 + size_by numbered_width x.pieces
    end = omega (arith, behind, ap length x.bytes, length-append b (laid_pieces x.pieces), length-laid_pieces x.pieces, size_by-bytes x.pieces)

abbrev blocks_fit : List Stmt → Position → World → Type 0
blocks_fit items p w = BlockFits p.room (kept_values p.frames) (stmts_in p w items)

-- the note is there
pub guarded_room : {p : Position} {b c : List ℕ} {ws w1 : List Wait} {n0_new n1 : List TryNote} {k l number : ℕ} {items : List Stmt} (n0 : List TryNote) (note : TryNote) → n0_new ≡ n0 ++ note ∷ [] → number ≡ length n0 → BlockWritten p (emitted b ws n0_new) (emitted c w1 n1) k l items → number < length n1
guarded_room {b = b} {n0_new = n0_new} n0 note notes_is number_is x = omega (arith, number_is, ap length notes_is, ap length x.code.appends.notes, length-append n0_new (notes_by numbered_width (length b) x.code.appends.pieces), length-append n0 (note ∷ []))

guarded_at : {p : Position} {a b c d : List ℕ} {ws w1 w2 : List Wait} {n0 n1 n2 : List TryNote} {k l : ℕ} (items : List Stmt) → b ≡ a ++ laid (numbered op.Try 0)
    → BlockWritten p (emitted b ws (n0 ++ open_note b (kept_values p.frames % 2 ^ 32) ∷ [])) (emitted c w1 n1) k l items → Waits op.Goto aim.After c w1 d w2 → n2 ≡ ended (length d) (length n0) n1
    → GuardedWritten p (emitted a ws n0) (emitted d w2 n2) k l items
guarded_at {p} {a} {b} {d = d} {ws} {w2 = w2} {n0} {n1} {n2} {k} {l} items begun x jump closed = record {
  code = record {
    written = Trying (size u.written) (kept_values p.frames % 2 ^ 32) ∷ u.written;
    appends = subst (λ (ns : List TryNote). Appends p.texts (emitted a ws n0) (emitted d w2 ns) (Trying (size u.written) (kept_values p.frames % 2 ^ 32) ∷ u.written)) (sym closed) (appends_guarded (kept_values p.frames % 2 ^ 32) begun u.appends);
    apart = (refl, u.apart);
    counted = λ w f small. u.counted w (f.1, tt) (subst (λ (n : ℕ). k + n < 2 ^ 64) (sym (add-zero (block_count (stmts_in p w items)))) small) ∙ ap (λ (n : ℕ). k + n) (add-zero (block_count (stmts_in p w items)));
    is = λ w stands f small. ap₂ (λ (n : ℕ) (c : Code). Trying (size c) n ∷ c) (mod-eq_of_lt f.0) (u.is w stands (f.1, tt) (subst (λ (n : ℕ). k + n < 2 ^ 64) (sym (add-zero (block_count (stmts_in p w items)))) small));
  };
}
  where
    u : Written p (emitted b ws (n0 ++ open_note b (kept_values p.frames % 2 ^ 32) ∷ [])) (emitted d w2 n1) k l (λ w. blocks_fit items p w × Unit {0}) (λ w. block_count (stmts_in p w items) + 0) (λ w i. block_code (setting p w) (stmts_in p w items) i p.frames ++ (Waiting op.Goto aim.After ∷ []))
    u = written_both x.code (written_wait op.Goto aim.After p n1 l refl jump)

-- the same by what the steps say
pub guarded_row : {p : Position} {a b c d d_new : List ℕ} {ws w1 w2 : List Wait} {n0 n0_new n1 n2 : List TryNote} {k k_new l l_new number : ℕ} (items : List Stmt) → b ≡ a ++ laid (numbered op.Try 0) → n0_new ≡ n0 ++ open_note b (kept_values p.frames % 2 ^ 32) ∷ [] → k_new ≡ k
    → BlockWritten p (emitted b ws n0_new) (emitted c w1 n1) k_new l items → Waits op.Goto aim.After c w1 d w2 → d_new ≡ d → n2 ≡ ended (length d) number n1 → number ≡ length n0 → l_new ≡ l
    → GuardedWritten p (emitted a ws n0) (emitted d_new w2 n2) k l_new items
guarded_row {p} {a} {b} {c} {d} {d_new} {ws} {w1} {w2} {n0} {n0_new} {n1} {n2} {k} {k_new} {l} {l_new} items begun notes_is k_is x jump d_is closed number_is l_is =
    subst (λ (n : ℕ). GuardedWritten p (emitted a ws n0) (emitted d_new w2 n2) k n items) (sym l_is)
    (subst (λ (bytes : List ℕ). GuardedWritten p (emitted a ws n0) (emitted bytes w2 n2) k l items) (sym d_is)
    (guarded_at items begun
    (subst (λ (n : ℕ). BlockWritten p (emitted b ws (n0 ++ open_note b (kept_values p.frames % 2 ^ 32) ∷ [])) (emitted c w1 n1) n l items) k_is (subst (λ (ns : List TryNote). BlockWritten p (emitted b ws ns) (emitted c w1 n1) k_new l items) notes_is x))
    jump (closed ∙ ap (λ (n : ℕ). ended (length d) n n1) number_is)))

-- ---- what is caught

pub handler_none : {a b c : List ℕ} {ws ws_new : List Wait} {ns ns_new : List TryNote} {k l : ℕ} (s : StmtContext) (param : Option Ident) (items : List Stmt) → param ≡ None → EmitsAt s.exprs a b (whole (plain op.Exception ∷ plain op.Pop ∷ [])) → BlockWritten (position_of s) (emitted b ws ns) (emitted c ws_new ns_new) k l items
    → HandlerWritten (position_of s) (emitted a ws ns) (emitted c ws_new ns_new) k l param items
handler_none {a} {c = c} {ws} {ws_new} {ns} {ns_new} {k} {l} s param items is x y = subst (λ (o : Option Ident). HandlerWritten (position_of s) (emitted a ws ns) (emitted c ws_new ns_new) k l o items) (sym is) (record {
  code = written_by (λ w f. (tt, f.1)) (λ w f. refl)
      (λ w stands f. sym (append-nil (whole (plain op.Exception ∷ plain op.Pop ∷ []) ++ block_code (setting (position_of s) w) (stmts_in (position_of s) w items) (k + 0) (position_of s).frames)))
      (written_both (written_plain s ws ns k (written_of x)) y.code);
})

abbrev caught_part : ℕ → List Stmt → Position → World → ℕ → Code
caught_part atom items q w i = just op.Exception ++ initializing (scene_at (setting q w) q.frames) (get_or q.texts atom []) ++ just op.Pop ++ block_code (setting q w) (stmts_in q w items) i q.frames

caught_written : {a b c : List ℕ} {ws ws_new : List Wait} {ns ns_new : List TryNote} {k l : ℕ} (s : StmtContext) (atom : ℕ) (items : List Stmt) → EmitsAt s.exprs a b (just op.Exception ++ initializing (scene_of s.exprs) (text_in s.exprs atom) ++ just op.Pop) → BlockWritten (position_of s) (emitted b ws ns) (emitted c ws_new ns_new) k l items
    → Written (position_of s) (emitted a ws ns) (emitted c ws_new ns_new) k l (blocks_fit items (position_of s)) (λ w. block_count (stmts_in (position_of s) w items)) (caught_part atom items (position_of s))
caught_written {ws = ws} {ns = ns} {k = k} s atom items x y =
    written_by (λ w f. (tt, f)) (λ w f. zero-add _)
    (λ w stands f. ap₂ (λ (c : Scene) (i : ℕ). just op.Exception ++ initializing c (text_in s.exprs atom) ++ just op.Pop ++ block_code (setting (position_of s) w) (stmts_in (position_of s) w items) i (position_of s).frames) (scene_is (position_of s) w stands) (add-zero k))
    (written_both (written_plain s ws ns k (written_of x)) y.code)

pub catch_row : {a b c d e : List ℕ} {ws ws_new : List Wait} {ns ns_in ns_new : List TryNote} {k j l number : ℕ} (s inside : StmtContext) (name : Ident) (items : List Stmt)
    → position_of inside ≡ inner_position (position_of s) k → EmitsAt s.exprs a b (push_env op.PushLexicalEnv (scope_at (position_of s).scopes k) k) → (k + 1 < 2 ^ 64 → j ≡ k + 1) → ns_in ≡ ns
    → EmitsAt inside.exprs b c (just op.Exception ++ initializing (scene_of inside.exprs) (text_in inside.exprs name.atom) ++ just op.Pop) → BlockWritten (position_of inside) (emitted c ws ns_in) (emitted d ws_new ns_new) j l items
    → number ≡ k → EmitsAt s.exprs d e (leave_scope (position_of s).scopes number)
    → HandlerWritten (position_of s) (emitted a ws ns) (emitted e ws_new ns_new) k l (Some name) items
catch_row {k = k} s inside name items is into next same x y number_is leave = record {
  code = written_by (λ w f. f.1) (λ w f. refl)
      (λ w stands f. ap (λ (c : Code). c ++ leave_scope (position_of s).scopes k) (sym (append_assoc (push_env op.PushLexicalEnv (scope_at (position_of s).scopes k) k) _ _)))
      (written_scope s inside (blocks_fit items) (λ q w. block_count (stmts_in q w items)) (caught_part name.atom items) (push_env op.PushLexicalEnv (scope_at (position_of s).scopes k) k) is into next same (caught_written inside name.atom items x y) number_is leave);
}

-- where there is no room for its scope
pub catch_out : {a b : List ℕ} {ws ws_new : List Wait} {ns ns_new : List TryNote} {k l : ℕ} (s : StmtContext) (name : Ident) (items : List Stmt) → (true && nat_lt 0 (position_of s).room) ≡ false → BlockWritten (position_of s) (emitted a ws ns) (emitted b ws_new ns_new) k l items → HandlerWritten (position_of s) (emitted a ws ns) (emitted b ws_new ns_new) k l (Some name) items
catch_out s name items none y = record {
  code = record { written = y.code.written; appends = y.code.appends; apart = y.code.apart; counted = λ w f small. absurd (no_room (position_of s).room none f.0); is = λ w stands f small. absurd (no_room (position_of s).room none f.0) };
}
  where
    no_room : (room : ℕ) → (true && nat_lt 0 room) ≡ false → 0 < room → ⊥
    no_room room none lt = true≢false (sym (lt-ltb 0 room lt) ∙ none)

-- ---- the whole statement

pub try_row : {a b c d e : List ℕ} {e0 e1 e2 ws ws_new : List Wait} {n0 n1 n2 : List TryNote} {k j l : ℕ} (s : StmtContext) (body : List Stmt) (param : Option Ident) (handler : List Stmt) → e0 ≡ [] → GuardedWritten (position_of s) (emitted a e0 n0) (emitted b e1 n1) k j body → EmitsAt s.exprs b c (just op.JumpTarget) → HandlerWritten (position_of s) (emitted c e1 n1) (emitted d e2 n2) j l param handler → LandsHere aim.After d e2 ws e ws_new
    → RowWritten (position_of s) (emitted a ws n0) (emitted e ws_new n2) k l (λ w. model.Try (stmts_in (position_of s) w body) (maybe_named (within (position_of s) w) param) (stmts_in (position_of s) w handler))
try_row {e1 = e1} {n1 = n1} {k = k} {j} s body param handler none x y z lands = record {
  code = written_by (λ w f. (((f.0, (f.1, f.2)), tt), (f.3, (f.4, f.5)))) (λ w f. ap (λ (n : ℕ). n + (scope_count (catch_names (maybe_named (within (position_of s) w) param)) + block_count (stmts_in (position_of s) w handler))) (add-zero (block_count (stmts_in (position_of s) w body))))
      (λ w stands f. ap (λ (n : ℕ). here aim.After (guarded (kept_values (position_of s).frames) (block_code (setting (position_of s) w) (stmts_in (position_of s) w body) k (position_of s).frames) ++ just op.JumpTarget ++ handler_code (setting (position_of s) w) (maybe_named (within (position_of s) w) param) (stmts_in (position_of s) w handler) (k + n) (position_of s).frames)) (add-zero (block_count (stmts_in (position_of s) w body))))
      (written_here aim.After lands (written_from_none none (written_both (written_both x.code (written_plain s e1 n1 j (written_of y))) z.code)));
}
