-- For how many functions that are shown a pass can lack something.
use Rattle.std.proofs.Common.{◌≡◌, ◌∙◌, ℕ, zero, suc, ◌+◌, ◌-◌, ◌≤◌, Bool, true, false, ◌&&◌, List, [], ◌∷◌, length, sym, ap, subst, arith}
use Rattle.std.specs.Prelude.{if◌then◌else◌, is_none, slice_index_or}
use Rattle.script_scanner.proofs.Lists.{and_left}
use Rattle.stencil_board.specs.Views.{PassView}
use Rattle.stencil_board.specs.Passes.{at_hand, count_to, lacking}
use Rattle.stencil_board.proofs.Counting.{count_fewer}
use Rattle.compile_shown.specs.Counting.{trues}
use Rattle.compile_shown.specs.Shown.{flagged}

-- the first number, and those behind it
count_first : (n : ℕ) (p : ℕ → Bool) → count_to (suc n) p ≡ (if p 1 then 1 else 0) + count_to n (λ k. p (suc k))
count_first zero p = omega arith
count_first (suc n) p = let rest = count_first n p in omega (arith, rest)

further : (b : Bool) (flags : List Bool) (k : ℕ) → 1 ≤ k → flagged (b ∷ flags) (suc k) ≡ flagged flags k
further b flags zero low = absurd (omega (arith, low))
further b flags (suc j) low =
    let one : suc (suc j) - 1 ≡ suc j = omega arith in
    let two : suc j - 1 ≡ j = omega arith in
    ap (λ (n : ℕ). slice_index_or (b ∷ flags) n false) one ∙ sym (ap (λ (n : ℕ). slice_index_or flags n false) two)

behind : (b : Bool) (flags : List Bool) → count_to (length flags) (λ k. flagged (b ∷ flags) (suc k)) ≤ count_to (length flags) (flagged flags)
behind b flags = count_fewer (length flags) (λ k. flagged (b ∷ flags) (suc k)) (flagged flags) (λ k low e. sym (further b flags k low) ∙ e)

count_flags : (flags : List Bool) → count_to (length flags) (flagged flags) ≤ trues flags
count_flags [] = omega arith
count_flags (true ∷ flags) =
    let first : count_to (suc (length flags)) (flagged (true ∷ flags)) ≡ 1 + count_to (length flags) (λ k. flagged (true ∷ flags) (suc k)) = count_first (length flags) (flagged (true ∷ flags)) in
    let rest = behind true flags in
    let most = count_flags flags in
    omega (arith, first, rest, most)
count_flags (false ∷ flags) =
    let first : count_to (suc (length flags)) (flagged (false ∷ flags)) ≡ 0 + count_to (length flags) (λ k. flagged (false ∷ flags) (suc k)) = count_first (length flags) (flagged (false ∷ flags)) in
    let rest = behind false flags in
    let most = count_flags flags in
    omega (arith, first, rest, most)

pub lacks_most : (flags : List Bool) (pass : PassView) → length pass.cells ≡ length flags → lacking (flagged flags) pass ≤ trues flags
lacks_most flags pass same =
    let fewer = count_fewer (length pass.cells) (λ k. flagged flags k && is_none (at_hand pass k)) (flagged flags) (λ k low e. and_left (flagged flags k) (is_none (at_hand pass k)) e) in
    let all : count_to (length pass.cells) (flagged flags) ≤ trues flags = subst (λ (n : ℕ). count_to n (flagged flags) ≤ trues flags) (sym same) (count_flags flags) in
    omega (arith, fewer, all)
