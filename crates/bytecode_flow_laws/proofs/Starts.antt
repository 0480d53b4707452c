-- Offsets at which instructions begin.
use Rattle.std.proofs.Common.{◌≡◌, ℕ, ◌+◌, ◌≤◌, List, [], ◌∷◌, ◌++◌, refl, sym, ap, ap₂, subst, add_assoc, inl, inr, arith}
use Rattle.bytecode_buf.specs.declared.waits.Aim.{Aim}
use Rattle.bytecode_buf.specs.Command.{jump}
use Rattle.bytecode_buf.specs.Pieces.{Code, landed_by, command_width, width_by, size}
use Rattle.bytecode_flow_laws.specs.Depths.{IsStart, total, widths}
use Rattle.bytecode_flow_laws.proofs.Staying.{width-landing}

pub start_within : (ws : List ℕ) (at : ℕ) → IsStart ws at → at ≤ total ws
start_within [] at h = omega arith
start_within (w ∷ ws) at (inl first) = omega arith
start_within (w ∷ ws) at (inr more) = let r = start_within ws more.0 more.2 in let e = more.1 in omega arith

pub start_first : (ws : List ℕ) → IsStart ws 0
start_first [] = refl
start_first (w ∷ ws) = inl refl

pub start_last : (ws : List ℕ) → IsStart ws (total ws)
start_last [] = refl
start_last (w ∷ ws) = inr (total ws, refl, start_last ws)

pub start_left : (ws vs : List ℕ) (at : ℕ) → IsStart ws at → IsStart (ws ++ vs) at
start_left [] vs at h = subst (IsStart vs) (sym h) (start_first vs)
start_left (w ∷ ws) vs at (inl first) = inl first
start_left (w ∷ ws) vs at (inr more) = inr (more.0, more.1, start_left ws vs more.0 more.2)

pub start_right : (ws vs : List ℕ) (at : ℕ) → IsStart vs at → IsStart (ws ++ vs) (total ws + at)
start_right [] vs at h = let e : at ≡ 0 + at = omega arith in subst (IsStart vs) e h
start_right (w ∷ ws) vs at h = inr (total ws + at, add_assoc w (total ws) at, start_right ws vs at h)

pub size_total : (code : Code) → size code ≡ total (widths code)
size_total [] = refl
size_total (p ∷ ps) = ap (λ (n : ℕ). width_by command_width p + n) (size_total ps)

pub widths-append : (a b : Code) → widths (a ++ b) ≡ widths a ++ widths b
widths-append [] b = refl
widths-append (p ∷ ps) b = ap (λ (l : List ℕ). width_by command_width p ∷ l) (widths-append ps b)

pub widths-landed : (aim : Aim) (code : Code) → widths (landed_by command_width jump aim code) ≡ widths code
widths-landed aim [] = refl
widths-landed aim (p ∷ ps) = ap₂ (λ (n : ℕ) (l : List ℕ). n ∷ l) (width-landing aim (width_by command_width p + size ps) p) (widths-landed aim ps)
