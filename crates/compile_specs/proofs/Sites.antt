-- The functions of a script are one list.
use Rattle.std.proofs.Common.{◌≡◌, ℕ, List, [], ◌∷◌, ◌++◌, refl, ap, ◌∙◌}
use Rattle.script_grammar.specs.Tree.{Stmts}
use Rattle.compile_specs.specs.Eager.{Site, sites_in, top_sites, AllSites, no_sites, more_sites, AreFunctions}

-- with all that are in them
pub one_list : (ss a b : List Site) → AllSites ss a → AllSites ss b → a ≡ b
one_list ss a b no_sites no_sites = refl
one_list ss a b (more_sites s rest i x h k) (more_sites s' rest' j y p q) =
    ap (λ (l : List Site). s ∷ (l ++ x)) (one_list (sites_in s) i j h p) ∙ ap (λ (l : List Site). s ∷ (j ++ l)) (one_list rest x y k q)

pub one_functions : (items : Stmts) (end : ℕ) (a b : List Site) → AreFunctions items end a → AreFunctions items end b → a ≡ b
one_functions items end a b h k = one_list (top_sites items end) a b h k
