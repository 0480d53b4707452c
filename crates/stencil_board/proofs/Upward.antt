-- What is around a function among some is among them.
use Rattle.std.proofs.Common.{◌≡◌, ◌≢◌, ◌∙◌, ℕ, Bool, true, length, sym, ap, subst, arith}
use Rattle.compile_initial.specs.declared.Nesting.{Nesting}
use Rattle.lazy_function.specs.Numbered.{around_in}
use Rattle.stencil_board.specs.Views.{BoardView}
use Rattle.stencil_board.specs.Passes.{IsNumberOf, IsUpward}

pub around_shown : (board : BoardView) (shown : ℕ → Bool) (number : ℕ) (around : Nesting) → length board.cells ≡ length board.initial.parts.records → IsNumberOf board number → IsUpward board.initial shown → shown number ≡ true
    → around ≡ around_in board.initial number → around.number ≢ 0 → shown around.number ≡ true
around_shown board shown number around cells n upward is place some =
    let high = n.1 in
    let same : around.number ≡ (around_in board.initial number).number = ap (λ (a : Nesting). a.number) place in
    subst (λ (k : ℕ). shown k ≡ true) (sym same) (upward number (n.0, omega (arith, high, cells)) is (λ e. some (same ∙ e)))
