-- Code in which no jump waits for a clause of a switch.
use Rattle.std.proofs.Common.{◌≡◌, ℕ, ◌+◌, Bool, true, false, if◌then◌else◌, List, [], ◌∷◌, ◌++◌, length, map, refl, sym, subst}
use Rattle.stencil_data.specs.declared.stencils.TryNote.{TryNote}
use Rattle.stencil_data.specs.Named.{NamedScope}
use Rattle.bytecode_buf.specs.declared.opcode.Op.{Op}
use Rattle.bytecode_buf.specs.declared.opcode.Op.TheVariants as op
use Rattle.bytecode_buf.specs.declared.waits.Aim.{Aim}
use Rattle.bytecode_buf.specs.declared.waits.Wait.{Wait}
use Rattle.bytecode_buf.specs.Appends.{Appends, numbered_width, piece_instruction, piece_of, waits_of}
use Rattle.bytecode_buf.specs.Command.{Command, jump}
use Rattle.bytecode_buf.specs.Emits.{Emits, emitted}
use Rattle.bytecode_buf.specs.Layout.{Numbered}
use Rattle.bytecode_buf.specs.Pieces.{Piece, Whole, Waiting, Trying, Code, here, turning, landed_by, landing, width_by, size_by, command_width}
use Rattle.emit_stmts.specs.Apart.{is_clause, to_clause, Apart}
use Rattle.emit_stmts.specs.Clauses.{NoClause}
use Rattle.emit_stmts.specs.Frames.{Frame, Loop, KeysLoop, Switching, Labelled, Entered, Goal, Out, Again, scope_at, has_env, exit, is_meant, goal_aim, leaving}
use Rattle.emit_exprs.specs.Whole.{just}

pub apart_append : (xs ys : Code) → Apart xs → Apart ys → Apart (xs ++ ys)
apart_append [] ys x y = y
apart_append (p ∷ ps) ys x y = (x.0, apart_append ps ys x.1 y)

-- ---- jumps that landed

either_apart : (meant : Bool) (op : Op) (aim : Aim) (distance : ℕ) → is_clause aim ≡ false → to_clause (if meant then Whole (jump op distance) else Waiting op aim) ≡ false
either_apart true op aim distance x = refl
either_apart false op aim distance x = x

landing_apart : (aim : Aim) (distance : ℕ) (p : Piece Command) → to_clause p ≡ false → to_clause (landing jump aim distance p) ≡ false
landing_apart aim distance (Whole c) x = refl
landing_apart aim distance (Waiting op other) x = either_apart _ op other distance x
landing_apart aim distance (Trying size depth) x = refl

apart_landed : (aim : Aim) (code : Code) → Apart code → Apart (landed_by command_width jump aim code)
apart_landed aim [] x = tt
apart_landed aim (p ∷ ps) x = (landing_apart aim (width_by command_width p + size_by command_width ps) p x.0, apart_landed aim ps x.1)

pub apart_here : (aim : Aim) (code : Code) → Apart code → Apart (here aim code)
apart_here aim code x = apart_append (landed_by command_width jump aim code) (just op.JumpTarget) (apart_landed aim code x) (refl, tt)

pub apart_turning : (op : Op) (code : Code) → Apart code → Apart (turning op code)
apart_turning op code x = apart_append code _ x (refl, tt)

-- ---- by the jumps that wait

pub NoClause-append : (xs ys : List Wait) → NoClause xs → NoClause ys → NoClause (xs ++ ys)
NoClause-append [] ys x y = y
NoClause-append (w ∷ ws) ys x y = (x.0, NoClause-append ws ys x.1 y)

apart_pieces : (texts : List (List ℕ)) (at : ℕ) (ps : List (Piece Numbered)) → NoClause (waits_of at ps) → Apart (map (piece_of texts) ps)
apart_pieces texts at [] x = tt
apart_pieces texts at (Whole i ∷ ps) x = (refl, apart_pieces texts (at + numbered_width (piece_instruction (Whole i))) ps x)
apart_pieces texts at (Waiting op aim ∷ ps) x = (x.0, apart_pieces texts (at + numbered_width (piece_instruction (Waiting op aim))) ps x.1)
apart_pieces texts at (Trying size depth ∷ ps) x = (refl, apart_pieces texts (at + numbered_width (piece_instruction (Trying size depth))) ps x)

pieces_apart : (texts : List (List ℕ)) (at : ℕ) (ps : List (Piece Numbered)) → Apart (map (piece_of texts) ps) → NoClause (waits_of at ps)
pieces_apart texts at [] x = tt
pieces_apart texts at (Whole i ∷ ps) x = pieces_apart texts (at + numbered_width (piece_instruction (Whole i))) ps x.1
pieces_apart texts at (Waiting op aim ∷ ps) x = (x.0, pieces_apart texts (at + numbered_width (piece_instruction (Waiting op aim))) ps x.1)
pieces_apart texts at (Trying size depth ∷ ps) x = pieces_apart texts (at + numbered_width (piece_instruction (Trying size depth))) ps x.1

-- what was appended leaves no other jumps than those that wait
pub apart_code : {texts : List (List ℕ)} {a b : List ℕ} {ws : List Wait} {ns ns_new : List TryNote} {code : Code} → Appends texts (emitted a [] ns) (emitted b ws ns_new) code → NoClause ws → Apart code
apart_code {texts} {a} x none = subst Apart x.stands (apart_pieces texts (length a) x.pieces (subst NoClause x.waits none))

pub apart_emits : {texts : List (List ℕ)} {a b : List ℕ} {code : Code} → Emits texts a b code → Apart code
apart_emits x = apart_code (x.anywhere [] []) tt

-- the jumps that wait after what was appended
pub waits_apart : {texts : List (List ℕ)} {a b : List ℕ} {ws ws_new : List Wait} {ns ns_new : List TryNote} {code : Code} → Appends texts (emitted a ws ns) (emitted b ws_new ns_new) code → Apart code → NoClause ws → NoClause ws_new
waits_apart {texts} {a} {ws = ws} x apart none = subst NoClause (sym x.waits) (NoClause-append ws (waits_of (length a) x.pieces) none (pieces_apart texts (length a) x.pieces (subst Apart (sym x.stands) apart)))

-- ---- leaving

choice_apart : (b : Bool) (xs ys : Code) → Apart xs → Apart ys → Apart (if b then xs else ys)
choice_apart true xs ys x y = x
choice_apart false xs ys x y = y

exit_apart : (scopes : List NamedScope) (frame : Frame) → Apart (exit scopes frame)
exit_apart scopes Loop = tt
exit_apart scopes KeysLoop = (refl, tt)
exit_apart scopes Switching = tt
exit_apart scopes (Labelled name) = tt
exit_apart scopes (Entered number) = choice_apart (has_env (scope_at scopes number)) (just op.PopLexicalEnv) [] (refl, tt) tt

goal_apart : (goal : Goal) (level : ℕ) → is_clause (goal_aim goal level) ≡ false
goal_apart (Out label) level = refl
goal_apart (Again label) level = refl

pub apart_leaving : (scopes : List NamedScope) (goal : Goal) (frames : List Frame) → Apart (leaving scopes goal frames)
apart_leaving scopes goal [] = tt
apart_leaving scopes goal (frame ∷ frames) =
    choice_apart (is_meant goal frame frames) (Waiting op.Goto (goal_aim goal (length frames)) ∷ []) (exit scopes frame ++ leaving scopes goal frames) (goal_apart goal (length frames), tt)
    (apart_append (exit scopes frame) (leaving scopes goal frames) (exit_apart scopes frame) (apart_leaving scopes goal frames))
