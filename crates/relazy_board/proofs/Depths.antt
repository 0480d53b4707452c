-- How deep functions stand, by the functions around them.
use Rattle.std.proofs.Common.{◌≡◌, ◌∙◌, ℕ, zero, suc, ◌≤◌, length, refl, sym, ap, arith}
use Rattle.compile_initial.specs.declared.InitialStencil.{InitialStencil}
use Rattle.lazy_function.specs.Numbered.{IsNumberIn, around_in}
use Rattle.relazy_board.specs.Depth.{depth_within, depth_of}
use Rattle.relazy_board.proofs.Upward.{Upward}

-- it does not matter how far one looks, if only far enough
same_within : (m n : ℕ) (initial : InitialStencil) (number : ℕ) → Upward initial → number ≤ length initial.parts.records → number ≤ m → number ≤ n
    → depth_within m initial number ≡ depth_within n initial number
same_within zero zero initial number up high l r = refl
same_within zero (suc n) initial zero up high l r = refl
same_within zero (suc n) initial (suc place) up high l r = absurd (omega (arith, l))
same_within (suc m) zero initial zero up high l r = refl
same_within (suc m) zero initial (suc place) up high l r = absurd (omega (arith, r))
same_within (suc m) (suc n) initial zero up high l r = refl
same_within (suc m) (suc n) initial (suc place) up high l r =
    let a = up (suc place) (omega arith, high) in
    ap suc (same_within m n initial (around_in initial (suc place)).number up (omega (arith, a, high)) (omega (arith, a, l)) (omega (arith, a, r)))

within_bound : (most : ℕ) (initial : InitialStencil) (number : ℕ) → depth_within most initial number ≤ most
within_bound zero initial number = omega arith
within_bound (suc most) initial zero = omega arith
within_bound (suc most) initial (suc place) =
    let h = within_bound most initial (around_in initial (suc place)).number in omega (arith, h)

-- a function's number is no smaller than its depth
pub depth_bound : (initial : InitialStencil) (number : ℕ) → depth_of initial number ≤ number
depth_bound initial number = within_bound number initial number

-- a function is one deeper than the one around it
one_deeper : (initial : InitialStencil) (number : ℕ) → Upward initial → IsNumberIn initial number → depth_of initial number ≡ suc (depth_of initial (around_in initial number).number)
one_deeper initial zero up is = absurd (let some = is.0 in omega (arith, some))
one_deeper initial (suc place) up is =
    let outer = (around_in initial (suc place)).number in
    let a = up (suc place) is in
    let high = is.1 in
    ap suc (same_within place outer initial outer up (omega (arith, a, high)) (omega (arith, a)) (omega arith))

-- the same, by the number of the one around it
pub deeper_by : (initial : InitialStencil) (number outer : ℕ) → Upward initial → IsNumberIn initial number → outer ≡ (around_in initial number).number
    → depth_of initial number ≡ suc (depth_of initial outer)
deeper_by initial number outer up in_range is = one_deeper initial number up in_range ∙ ap (λ (n : ℕ). suc (depth_of initial n)) (sym is)
