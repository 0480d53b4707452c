-- Code that runs is put together to code that runs.
use Rattle.std.proofs.Common.{◌≡◌, ◌∙◌, ℕ, ◌+◌, ◌-◌, ◌≤◌, Bool, nat_le, if◌then◌else◌, List, [], ◌∷◌, ◌++◌, refl, sym, ap, subst, add_assoc, inl, inr, arith, le-leb}
use Rattle.std.proofs.lemmas.Bool.Decides.{leb_tells}
use Rattle.bytecode_buf.specs.Command.{Operand, Nothing, Distance, Command}
use Rattle.bytecode_buf.specs.Machine.{Flow, FallThrough, Jump, Branch, Terminates, flow_of, given_away_by}
use Rattle.bytecode_buf.specs.Pieces.{Piece, Whole, Waiting, Trying, Code, size, command_width, width_by}
use Rattle.bytecode_buf.specs.Width.{width_of}
use Rattle.bytecode_flow_laws.specs.Depths.{Leads, Steps, takes, gives, IsStart, total, widths, Goes, Lands, OperandLands, Exits, Guards, PieceRuns, PiecesRun, Runs}
use Rattle.bytecode_flow_laws.specs.Staying.{number_in}
use Rattle.bytecode_flow_laws.proofs.Staying.{size-append}
use Rattle.bytecode_flow_laws.proofs.Starts.{start_within, start_left, start_right, size_total, widths-append}

-- ---- other depths

leads_moved : (P Q : ℕ → Type 0) (t g b c : ℕ) → ((d : ℕ) → P d → Q d) → c ≡ b → Leads P t g b → Leads Q t g c
leads_moved P Q t g b c f e h = record { depth = h.depth; fit = f h.depth h.fit; changes = record { rest = h.changes.rest; before_is = e ∙ h.changes.before_is; after_is = h.changes.after_is } }

pub steps_moved : (flow : Flow) (t g a b c : ℕ) (N N' G G' : ℕ → Type 0) → ((d : ℕ) → N d → N' d) → ((d : ℕ) → G d → G' d) → c ≡ b → Steps flow t g a b N G → Steps flow t g a c N' G'
steps_moved FallThrough t g a b c N N' G G' n f e h = leads_moved N N' t g b c n e h
steps_moved Jump t g a b c N N' G G' n f e h = leads_moved G G' t a b c f e h
steps_moved Branch t g a b c N N' G G' n f e h = (leads_moved N N' t g b c n e h.0, leads_moved G G' t a b c f e h.1)
steps_moved Terminates t g a b c N N' G G' n f e h = omega arith

-- ---- among other pieces

-- the offsets and depths from an offset on
pub record Moves (b : ℕ) (ws : List ℕ) (from : ℕ → ℕ) (vs : List ℕ) (to : ℕ → ℕ) : Type 0 where
  pub start : (at : ℕ) → IsStart ws at → IsStart vs (b + at)
  pub depth : (at : ℕ) → at ≤ total ws → to (b + at) ≡ from at

module _ (b : ℕ) (ws : List ℕ) (from : ℕ → ℕ) (vs : List ℕ) (to : ℕ → ℕ) (m : Moves b ws from vs to) where
  goes_moved : (at at' distance target : ℕ) → at' ≡ b + at → Goes at distance target → Goes at' distance (b + target)
  goes_moved at at' distance target is (inl e) = inl (omega arith)
  goes_moved at at' distance target is (inr back) = let e = back.2 in inr (back.0, back.1, omega arith)

  lands_moved : (at at' distance depth : ℕ) → at' ≡ b + at → Lands ws from at distance depth → Lands vs to at' distance depth
  lands_moved at at' distance depth is h = record {
    target = b + h.target;
    goes = goes_moved at at' distance h.target is h.goes;
    start = m.start h.target h.start;
    is = m.depth h.target (start_within ws h.target h.start) ∙ h.is;
  }

  operand_moved : (at at' : ℕ) (o : Operand) (depth : ℕ) → at' ≡ b + at → OperandLands ws from at o depth → OperandLands vs to at' o depth
  operand_moved at at' (Distance d) depth is h = lands_moved at at' d depth is h
  operand_moved at at' Nothing depth is h = absurd h
  operand_moved at at' _ depth is h = absurd h

  place : (at at' : ℕ) → at' ≡ b + at → at ≤ total ws → to at' ≡ from at
  place at at' is room = ap to is ∙ m.depth at room

  next_place : (at at' w : ℕ) → at' ≡ b + at → at + w ≤ total ws → (d : ℕ) → from (at + w) ≡ d → to (at' + w) ≡ d
  next_place at at' w is room d h = let e : at' + w ≡ b + (at + w) = omega arith in place (at + w) (at' + w) e room ∙ h

  guards_moved : (at at' guarded depth : ℕ) → at' ≡ b + at → at + 1 ≤ total ws → Guards ws from at guarded depth → Guards vs to at' guarded depth
  guards_moved at at' guarded depth is room h =
      let e : at' + 1 ≡ b + (at + 1) = omega arith in
      let f : b + (at + 1 + guarded) ≡ at' + 1 + guarded = omega arith in
      record {
        further = place (at + 1) (at' + 1) e room ∙ (h.further ∙ sym (place at at' is (omega arith)));
        end = subst (IsStart vs) f (m.start (at + 1 + guarded) h.end);
        is = place (at + 1 + guarded) (at' + 1 + guarded) (sym f) (start_within ws (at + 1 + guarded) h.end) ∙ h.is;
      }

  piece_moved : (exits : Exits) (at at' : ℕ) (p : Piece Command) → at' ≡ b + at → at + width_by command_width p ≤ total ws → PieceRuns exits ws from at p → PieceRuns exits vs to at' p
  piece_moved exits at at' (Whole c) is room h = steps_moved (flow_of c.op) (takes c.op (number_in c.operand)) (gives c.op (number_in c.operand)) (given_away_by c.op (gives c.op (number_in c.operand))) (from at) (to at') _ _ _ _ (next_place at at' (width_of c.op) is room) (λ d k. operand_moved at at' c.operand d is k) (place at at' is (omega arith)) h
  piece_moved exits at at' (Waiting o aim) is room h = steps_moved (flow_of o) (takes o 0) (gives o 0) (given_away_by o (gives o 0)) (from at) (to at') _ _ _ _ (next_place at at' (width_of o) is room) (λ d k. k) (place at at' is (omega arith)) h
  piece_moved exits at at' (Trying guarded depth) is room h = guards_moved at at' guarded depth is room h

  pub pieces_moved : (exits : Exits) (at at' : ℕ) (ps : Code) → at' ≡ b + at → at + size ps ≤ total ws → PiecesRun exits ws from at ps → PiecesRun exits vs to at' ps
  pieces_moved exits at at' [] is room h = tt
  pieces_moved exits at at' (p ∷ ps) is room h =
      let w : ℕ = width_by command_width p in
      (piece_moved exits at at' p is (omega arith) h.0, pieces_moved exits (at + w) (at' + w) ps (omega arith) (omega arith) h.1)

-- ---- code after code

abbrev pub joint : ℕ → (ℕ → ℕ) → (ℕ → ℕ) → ℕ → ℕ
joint n first second at = if nat_le n at then second (at - n) else first at

pub joint-behind : (n : ℕ) (first second : ℕ → ℕ) (at : ℕ) → joint n first second (n + at) ≡ second at
joint-behind n first second at =
    let e : (n + at) - n ≡ at = omega arith in
    ap (λ (c : Bool). if c then second ((n + at) - n) else first (n + at)) (le-leb n (n + at) (omega arith)) ∙ ap second e

pub joint-before : (n : ℕ) (first second : ℕ → ℕ) (at : ℕ) → first n ≡ second 0 → at ≤ n → joint n first second at ≡ first at
joint-before n first second at same room = elim (leb_tells n at) [
  | inr less ↦ ap (λ (c : Bool). if c then second (at - n) else first at) less.0
  | inl more ↦
      let e : at ≡ n = omega (arith, more.1) in
      let z : n ≡ n + 0 = omega arith in
      ap (joint n first second) (e ∙ z) ∙ joint-behind n first second 0 ∙ sym same ∙ ap first (sym e)
]

pub front_moves : (ws vs : List ℕ) (first second : ℕ → ℕ) → first (total ws) ≡ second 0 → Moves 0 ws first (ws ++ vs) (joint (total ws) first second)
front_moves ws vs first second same = record {
  start = λ at h. let e : at ≡ 0 + at = omega arith in subst (IsStart (ws ++ vs)) e (start_left ws vs at h);
  depth = λ at room. let e : 0 + at ≡ at = omega arith in ap (joint (total ws) first second) e ∙ joint-before (total ws) first second at same room;
}

pub back_moves : (ws vs : List ℕ) (first second : ℕ → ℕ) → Moves (total ws) vs second (ws ++ vs) (joint (total ws) first second)
back_moves ws vs first second = record {
  start = λ at h. start_right ws vs at h;
  depth = λ at room. joint-behind (total ws) first second at;
}

pub pieces_both : (exits : Exits) (ws : List ℕ) (depth_at : ℕ → ℕ) (at : ℕ) (ps qs : Code) → PiecesRun exits ws depth_at at ps → PiecesRun exits ws depth_at (at + size ps) qs → PiecesRun exits ws depth_at at (ps ++ qs)
pieces_both exits ws depth_at at [] qs f g = let e : at + 0 ≡ at = omega arith in subst (λ (k : ℕ). PiecesRun exits ws depth_at k qs) e g
pieces_both exits ws depth_at at (p ∷ ps) qs f g =
    let w : ℕ = width_by command_width p in
    let e : at + (w + size ps) ≡ (at + w) + size ps = sym (add_assoc at w (size ps)) in
    (f.0, pieces_both exits ws depth_at (at + w) ps qs f.1 (subst (λ (k : ℕ). PiecesRun exits ws depth_at k qs) e g))

pub runs_none : (exits : Exits) (d : ℕ) → Runs exits [] d d
runs_none exits d = record { depth_at = λ at. d; begins = refl; ends = refl; pieces = tt }

-- the code of both, and the depth between them
pub record Both (exits : Exits) (a b : Code) (d e f : ℕ) : Type 0 where
  pub runs : Runs exits (a ++ b) d f
  pub middle : runs.depth_at (size a) ≡ e

pub both_run : {exits : Exits} {a b : Code} {d e f : ℕ} → Runs exits a d e → Runs exits b e f → Both exits a b d e f
both_run {exits} {a} {b} {d} {e} {f} x y = record {
  runs = record {
    depth_at = both;
    begins = joint-before (total (widths a)) x.depth_at y.depth_at 0 same (omega arith) ∙ x.begins;
    ends = ap both (size-append a b ∙ ap (λ (n : ℕ). n + size b) (size_total a)) ∙ joint-behind (total (widths a)) x.depth_at y.depth_at (size b) ∙ y.ends;
    pieces = subst (λ (ws : List ℕ). PiecesRun exits ws both 0 (a ++ b)) (sym (widths-append a b)) (pieces_both exits (widths a ++ widths b) both 0 a b front back);
  };
  middle = let s = size_total a in joint-before (total (widths a)) x.depth_at y.depth_at (size a) same (omega arith) ∙ x.ends;
}
  where
    both : ℕ → ℕ
    both = joint (total (widths a)) x.depth_at y.depth_at

    same : x.depth_at (total (widths a)) ≡ y.depth_at 0
    same = ap x.depth_at (sym (size_total a)) ∙ x.ends ∙ sym y.begins

    front : PiecesRun exits (widths a ++ widths b) both 0 a
    front = let s = size_total a in pieces_moved 0 (widths a) x.depth_at (widths a ++ widths b) both (front_moves (widths a) (widths b) x.depth_at y.depth_at same) exits 0 0 a refl (omega arith) x.pieces

    back : PiecesRun exits (widths a ++ widths b) both (0 + size a) b
    back = let s = size_total a in let r = size_total b in pieces_moved (total (widths a)) (widths b) y.depth_at (widths a ++ widths b) both (back_moves (widths a) (widths b) x.depth_at y.depth_at) exits 0 (0 + size a) b (omega arith) (omega arith) y.pieces

pub runs_both : {exits : Exits} {a b : Code} {d e f : ℕ} → Runs exits a d e → Runs exits b e f → Runs exits (a ++ b) d f
runs_both x y = (both_run x y).runs
