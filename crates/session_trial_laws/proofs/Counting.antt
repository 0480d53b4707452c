-- How many functions the generated statements have: each at most two.
use Rattle.std.proofs.Common.{List, [], arith, ℕ, ◌++◌, ◌+◌, ◌≤◌}
use Rattle.compile_specs.specs.Counted.{Counts, more_functions, no_functions}
use Rattle.scope_analysis.specs.Functions.{Inner, inner_stmt}
use Rattle.session_trial_laws.proofs.Trees.{counter_tree, function_tree, loop_tree, object_tree}

-- the functions of a list are n, and no more than this
abbrev pub HasCount : ℕ → List Inner → Type 0
HasCount most fs = (count : ℕ) × Counts fs count × (count ≤ most)

pub function_counts : (b m k t : ℕ) (n : List ℕ) (i next : ℕ) (around : List ℕ) (most : ℕ) (fs : List Inner) → HasCount most fs → HasCount (most + 2) (inner_stmt (function_tree b m k t n i) next around ++ fs)
function_counts b m k t n i next around most fs h = let few = h.2 in (1 + (0) + h.0, more_functions _ fs (0) h.0 no_functions h.1, omega (arith, few))

pub counter_counts : (b m k t : ℕ) (n : List ℕ) (i next : ℕ) (around : List ℕ) (most : ℕ) (fs : List Inner) → HasCount most fs → HasCount (most + 2) (inner_stmt (counter_tree b m k t n i) next around ++ fs)
counter_counts b m k t n i next around most fs h = let few = h.2 in (1 + (1 + 0 + 0) + h.0, more_functions _ fs (1 + 0 + 0) h.0 (more_functions _ [] 0 0 no_functions no_functions) h.1, omega (arith, few))

pub loop_counts : (b m k t : ℕ) (n : List ℕ) (i next : ℕ) (around : List ℕ) (most : ℕ) (fs : List Inner) → HasCount most fs → HasCount (most + 2) (inner_stmt (loop_tree b m k t n i) next around ++ fs)
loop_counts b m k t n i next around most fs h = let few = h.2 in (1 + (0) + h.0, more_functions _ fs (0) h.0 no_functions h.1, omega (arith, few))

pub object_counts : (b m k t : ℕ) (n : List ℕ) (i next : ℕ) (around : List ℕ) (most : ℕ) (fs : List Inner) → HasCount most fs → HasCount (most + 2) (inner_stmt (object_tree b m k t n i) next around ++ fs)
object_counts b m k t n i next around most fs h = let few = h.2 in (1 + (0) + h.0, more_functions _ fs (0) h.0 no_functions h.1, omega (arith, few))
