-- One more line.
use Rattle.std.proofs.Common.{◌≡◌, ℕ, suc, ◌+◌, ◌-◌, ◌<◌, List, ◌++◌, ap, sym, ◌∙◌, append_assoc, arith, subst}
use Rattle.std.specs.Fmt.{decimal}
use Rattle.session_trial.specs.Generated.{line_of, kind_of, next_state, lines_from}

next_line : (size index s : ℕ) (out new whole : List ℕ) → index < size → new ≡ out ++ line_of (kind_of (next_state s)) (decimal index) → out ++ lines_from (size - index) index s ≡ whole
    → new ++ lines_from (size - (index + 1)) (index + 1) (next_state s) ≡ whole
next_line size index s out new whole within made before =
    ap (λ (l : List ℕ). l ++ later) made
    ∙ append_assoc out line later
    ∙ ap (λ (k : ℕ). out ++ lines_from k index s) (sym left)
    ∙ before
  where
    line : List ℕ
    line = line_of (kind_of (next_state s)) (decimal index)

    later : List ℕ
    later = lines_from (size - (index + 1)) (index + 1) (next_state s)

    left : size - index ≡ suc (size - (index + 1))
    left = omega (arith, within)

-- where the next state was computed
pub one_more : (size index s t : ℕ) (out new whole : List ℕ) → index < size → t ≡ next_state s → new ≡ out ++ line_of (kind_of t) (decimal index) → out ++ lines_from (size - index) index s ≡ whole
    → new ++ lines_from (size - (index + 1)) (index + 1) t ≡ whole
one_more size index s t out new whole within is made before =
    subst (λ (u : ℕ). new ≡ out ++ line_of (kind_of u) (decimal index) → new ++ lines_from (size - (index + 1)) (index + 1) u ≡ whole) (sym is)
    (λ m. next_line size index s out new whole within m before) made
