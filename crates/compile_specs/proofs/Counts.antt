-- The functions of a script are n, and no other number.
use Rattle.std.proofs.Common.{◌≡◌, ℕ, ◌+◌, List, refl, ap, ◌∙◌}
use Rattle.script_grammar.specs.Tree.{Stmts}
use Rattle.scope_analysis.specs.Functions.{Inner, inner_function, inner_script}
use Rattle.compile_specs.specs.Counted.{Counts, no_functions, more_functions, HasFunctions}

counted_once : (fs : List Inner) (a b : ℕ) → Counts fs a → Counts fs b → a ≡ b
counted_once fs a b no_functions no_functions = refl
counted_once fs a b (more_functions f rest i x h k) (more_functions g left j y p q) =
    ap (λ (n : ℕ). 1 + n + x) (counted_once (inner_function f.kind f.name f.func) i j h p) ∙ ap (λ (n : ℕ). 1 + j + n) (counted_once rest x y k q)

pub one_count : (items : Stmts) (a b : ℕ) → HasFunctions items a → HasFunctions items b → a ≡ b
one_count items a b h k = counted_once (inner_script items) a b h k
