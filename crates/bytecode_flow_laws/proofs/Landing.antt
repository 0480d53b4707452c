-- Jumps that land after code that runs, jumps back to its beginning, and code that is guarded.
use Rattle.std.proofs.Common.{◌≡◌, ◌∙◌, ℕ, suc, ◌+◌, ◌-◌, ◌^◌, Bool, true, false, if◌then◌else◌, List, [], ◌∷◌, ◌++◌, Option, Some, refl, sym, ap, subst, inl, inr, arith}
use Rattle.bytecode_buf.specs.declared.opcode.Op.{Op}
use Rattle.bytecode_buf.specs.declared.opcode.Op.TheVariants as op
use Rattle.bytecode_buf.specs.declared.waits.Aim.{Aim}
use Rattle.bytecode_buf.specs.Command.{Command, plain, jump}
use Rattle.bytecode_buf.specs.Machine.{flow_of, given_away_by}
use Rattle.bytecode_buf.specs.Pieces.{Piece, Whole, Waiting, Trying, Code, size, here, turning, landed_by, landing, same_aim, command_width, width_by}
use Rattle.bytecode_buf.specs.Width.{width_of}
use Rattle.bytecode_flow_laws.specs.Depths.{Leads, takes, gives, OpSteps, IsStart, total, widths, Lands, Exits, with_exit, Guards, PieceRuns, PiecesRun, Runs}
use Rattle.bytecode_flow_laws.proofs.Staying.{size-append, size-landed, width-landing}
use Rattle.bytecode_flow_laws.proofs.Starts.{start_first, start_last, start_left, start_right, size_total, widths-append, widths-landed}
use Rattle.bytecode_flow_laws.proofs.Joining.{steps_moved, joint, joint-before, joint-behind, pieces_moved, pieces_both, front_moves, back_moves, Both, both_run, runs_both}
use Rattle.bytecode_flow_laws.proofs.Running.{first_then, behind_width, runs_after}

some_is : (d e : ℕ) → ◌≡◌ {A = Option ℕ} (Some d) (Some e) → d ≡ e
some_is d e p = cc

-- ---- the exit becomes a place after the code

module _ (exits : Exits) (aim : Aim) (e : ℕ) (ws : List ℕ) (depth_at : ℕ → ℕ) (n : ℕ) (ends : depth_at n ≡ e) (end : IsStart ws n) where
  wait_landed : (b : Bool) (o : Op) (other : Aim) (at distance : ℕ) → at + distance ≡ n → OpSteps o 0 (depth_at at) (λ depth. depth_at (at + width_of o) ≡ depth) (λ depth. (if b then Some e else exits other) ≡ Some depth) → PieceRuns exits ws depth_at at (if b then Whole (jump o distance) else Waiting o other)
  wait_landed true o other at distance there h = steps_moved (flow_of o) (takes o 0) (gives o 0) (given_away_by o (gives o 0)) (depth_at at) (depth_at at) _ _ _ _ (λ d k. k) (λ d k. record { target = n; goes = inl there; start = end; is = ends ∙ some_is e d k }) refl h
  wait_landed false o other at distance there h = h

  piece_landed : (at distance : ℕ) (p : Piece Command) → at + distance ≡ n → PieceRuns (with_exit aim e exits) ws depth_at at p → PieceRuns exits ws depth_at at (landing jump aim distance p)
  piece_landed at distance (Whole c) there h = h
  piece_landed at distance (Waiting o other) there h = wait_landed (same_aim aim other) o other at distance there h
  piece_landed at distance (Trying guarded depth) there h = h

  pieces_landed : (at : ℕ) (ps : Code) → at + size ps ≡ n → PiecesRun (with_exit aim e exits) ws depth_at at ps → PiecesRun exits ws depth_at at (landed_by command_width jump aim ps)
  pieces_landed at [] there h = tt
  pieces_landed at (p ∷ ps) there h =
      let w : ℕ = width_by command_width p in
      let same : w ≡ width_by command_width (landing jump aim (w + size ps) p) = sym (width-landing aim (w + size ps) p) in
      (piece_landed at (w + size ps) p there h.0, subst (λ (k : ℕ). PiecesRun exits ws depth_at (at + k) (landed_by command_width jump aim ps)) same (pieces_landed (at + w) ps (omega arith) h.1))

pub runs_landed : (exits : Exits) (aim : Aim) {code : Code} {d e : ℕ} → Runs (with_exit aim e exits) code d e → Runs exits (landed_by command_width jump aim code) d e
runs_landed exits aim {code} {d} {e} r = record {
  depth_at = r.depth_at;
  begins = r.begins;
  ends = ap r.depth_at (size-landed aim code) ∙ r.ends;
  pieces = subst (λ (ws : List ℕ). PiecesRun exits ws r.depth_at 0 (landed_by command_width jump aim code)) (sym (widths-landed aim code))
      (pieces_landed exits aim e (widths code) r.depth_at (size code) r.ends (subst (IsStart (widths code)) (sym (size_total code)) (start_last (widths code))) 0 code (omega arith) r.pieces);
}

-- code after which jumps land
pub runs_here : (exits : Exits) (aim : Aim) {code : Code} {d e : ℕ} → Runs (with_exit aim e exits) code d e → Runs exits (here aim code) d e
runs_here exits aim {code} {d} {e} r = runs_both (runs_landed exits aim r) (runs_after exits (plain op.JumpTarget) e e refl)

-- ---- a jump back

turned : (exits : Exits) (o : Op) (code : Code) (d e f : ℕ) → Runs exits code d e → OpSteps o 0 e (λ depth. f ≡ depth) (λ depth. d ≡ depth) → Runs exits (turning o code) d f
turned exits o code d e f r h = record {
  depth_at = both;
  begins = joint-before (total (widths code)) r.depth_at (first_then e f) 0 same (omega arith) ∙ r.begins;
  ends = ap both (size-append code (Whole back ∷ []) ∙ ap (λ (n : ℕ). n + (width_of o + 0)) (size_total code)) ∙ joint-behind (total (widths code)) r.depth_at (first_then e f) (width_of o + 0) ∙ behind_width o e f (width_of o + 0) (omega arith);
  pieces = subst (λ (ws : List ℕ). PiecesRun exits ws both 0 (turning o code)) (sym (widths-append code (Whole back ∷ []))) (pieces_both exits ws both 0 code (Whole back ∷ []) front (last, tt));
}
  where
    back : Command
    back = jump o (2 ^ 64 - size code)

    ws : List ℕ
    ws = widths code ++ widths (Whole back ∷ [])

    both : ℕ → ℕ
    both = joint (total (widths code)) r.depth_at (first_then e f)

    same : r.depth_at (total (widths code)) ≡ e
    same = ap r.depth_at (sym (size_total code)) ∙ r.ends

    front : PiecesRun exits ws both 0 code
    front = let s = size_total code in pieces_moved 0 (widths code) r.depth_at ws both (front_moves (widths code) (widths (Whole back ∷ [])) r.depth_at (first_then e f) same) exits 0 0 code refl (omega arith) r.pieces

    place : (n : ℕ) → 0 + size code + n ≡ total (widths code) + n
    place n = let s = size_total code in omega arith

    behind_it : both (0 + size code) ≡ e
    behind_it = let s = size_total code in let z : 0 + size code ≡ total (widths code) + 0 = omega arith in ap both z ∙ joint-behind (total (widths code)) r.depth_at (first_then e f) 0

    beyond : both (0 + size code + width_of o) ≡ f
    beyond = ap both (place (width_of o)) ∙ joint-behind (total (widths code)) r.depth_at (first_then e f) (width_of o) ∙ behind_width o e f (width_of o) refl

    first : both 0 ≡ d
    first = joint-before (total (widths code)) r.depth_at (first_then e f) 0 same (omega arith) ∙ r.begins

    lands : (x : ℕ) → d ≡ x → Lands ws both (0 + size code) (2 ^ 64 - size code) x
    lands x k = record { target = 0; goes = inr (size code, refl, refl); start = start_first ws; is = first ∙ k }

    last : PieceRuns exits ws both (0 + size code) (Whole back)
    last = steps_moved (flow_of o) (takes o 0) (gives o 0) (given_away_by o (gives o 0)) e (both (0 + size code)) _ _ _ _ (λ x k. beyond ∙ k) (λ x k. lands x k) behind_it h

-- always
pub runs_turning : (exits : Exits) {code : Code} {d : ℕ} (f : ℕ) → Runs exits code d d → Runs exits (turning op.Goto code) d f
runs_turning exits {code} {d} f r = turned exits op.Goto code d d f r (record { depth = d; fit = refl; changes = record { rest = d; before_is = omega arith; after_is = omega arith } })

-- where a value is true
pub runs_turning_if : (exits : Exits) {code : Code} {d : ℕ} → Runs exits code d (suc d) → Runs exits (turning op.JumpIfTrue code) d d
runs_turning_if exits {code} {d} r = turned exits op.JumpIfTrue code d (suc d) d r (on, away)
  where
    on : Leads (λ depth. d ≡ depth) 1 0 (suc d)
    on = record { depth = d; fit = refl; changes = record { rest = d; before_is = omega arith; after_is = omega arith } }

    away : Leads (λ depth. d ≡ depth) 1 0 (suc d)
    away = record { depth = d; fit = refl; changes = record { rest = d; before_is = omega arith; after_is = omega arith } }

-- ---- code that is guarded

-- a throw in the first code goes to the second one, with the depth between them
pub runs_trying : {exits : Exits} {block rest : Code} {d x e : ℕ} → Runs exits block d x → Runs exits rest x e → Runs exits (Trying (size block) x ∷ (block ++ rest)) d e
runs_trying {exits} {block} {rest} {d} {x} {e} r s = record {
  depth_at = both;
  begins = refl;
  ends = joint-behind 1 (λ at. d) inner.runs.depth_at (size (block ++ rest)) ∙ inner.runs.ends;
  pieces = (guards, pieces_moved 1 (widths (block ++ rest)) inner.runs.depth_at (1 ∷ widths (block ++ rest)) both (back_moves (1 ∷ []) (widths (block ++ rest)) (λ at. d) inner.runs.depth_at) exits 0 1 (block ++ rest) refl (omega (arith, size_total (block ++ rest))) inner.runs.pieces);
}
  where
    inner : Both exits block rest d x e
    inner = both_run r s

    both : ℕ → ℕ
    both = joint 1 (λ at. d) inner.runs.depth_at

    begins_inner : both 1 ≡ both 0
    begins_inner = inner.runs.begins

    middle : IsStart (widths (block ++ rest)) (size block)
    middle = subst (λ (ws : List ℕ). IsStart ws (size block)) (sym (widths-append block rest)) (start_left (widths block) (widths rest) (size block) (subst (IsStart (widths block)) (sym (size_total block)) (start_last (widths block))))

    guards : Guards (1 ∷ widths (block ++ rest)) both 0 (size block) x
    guards = record {
      further = begins_inner;
      end = start_right (1 ∷ []) (widths (block ++ rest)) (size block) middle;
      is = joint-behind 1 (λ at. d) inner.runs.depth_at (size block) ∙ inner.middle;
    }
