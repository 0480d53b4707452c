-- Where functions of a list stand: each gets its chain from one of a smaller number.
use Rattle.std.proofs.Common.{ℕ, suc, ◌+◌, ◌<◌, List, [], ◌∷◌, ◌++◌, length, map, subst, arith}
use Rattle.script_grammar.specs.Interpretation.{Interpretation}
use Rattle.script_grammar.specs.Shows.{ShowAll}
use Rattle.stencil_data.specs.LinkView.{LinkView}
use Rattle.scope_analysis.specs.Functions.{Inner}
use Rattle.compile_specs.specs.Eager.{Site}
use Rattle.parse_function_list.specs.declared.list.ListedFunction.{ListedFunction}
use Rattle.parse_function_list.specs.Placed.{Placed, AllPlaced, no_placed, more_placed, directly_in, placed_of}
use Rattle.compile_site_laws.specs.Around.{IsPlacedAt}
use Rattle.compile_initial.specs.Initial.{AllAround}
use Rattle.compile_initial.specs.Records.{around_at}
use Rattle.compile_initial.proofs.Inside.{IsInsideAt}

-- the functions around those of these numbers on have smaller numbers
abbrev pub AllAfter : ℕ → List Placed → Type 0
AllAfter number [] = Unit {0}
AllAfter number (p ∷ ps) = (p.around < number) × AllAfter (suc number) ps

after_both : (number : ℕ) (ps qs : List Placed) → AllAfter number ps → AllAfter (number + length ps) qs → AllAfter number (ps ++ qs)
after_both number [] qs h k = subst (λ (n : ℕ). AllAfter n qs) (omega arith) k
after_both number (p ∷ ps) qs h k = (h.0, after_both (suc number) ps qs h.1 (subst (λ (n : ℕ). AllAfter n qs) (omega arith) k))

pub all_after : (around place at : ℕ) (fs : List Inner) (ps : List Placed) → AllPlaced around place at fs ps → around < at → AllAfter at ps
all_after around place at fs ps (no_placed _ _ _) lt = tt
all_after around place at fs ps (more_placed _ _ _ f rest inside after h k) lt =
    (lt, after_both (suc at) inside after (all_after at 0 (suc at) (directly_in f) inside h (omega arith)) (all_after around (suc place) (suc at + length inside) rest after k (omega (arith, lt))))

pub all_around : (top : List (List LinkView)) (all : List Site) (i : Interpretation) (number : ℕ) (found : List ListedFunction) (some : List Site) → AllAfter number (map (placed_of i) found)
    → ShowAll (IsInsideAt all) (map (placed_of i) found) some → ShowAll (IsPlacedAt top all) (map (placed_of i) found) some → AllAround top all number (map around_at found) some
all_around top all i number [] [] h inside k = tt
all_around top all i number [] (s ∷ some) h inside k = absurd k
all_around top all i number (f ∷ found) [] h inside k = absurd k
all_around top all i number (f ∷ found) (s ∷ some) h inside k = (record { before = h.0; inside = inside.0; chain = k.0.chain }, all_around top all i (suc number) found some h.1 inside.1 k.1)
