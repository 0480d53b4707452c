-- The functions directly in a part of a tree, by their places among those of their function.
use Rattle.std.proofs.Common.{ℕ, List, [], ◌∷◌, ◌++◌, count_by, nat_lt}
use Rattle.script_grammar.specs.Tree.{Function}
use Rattle.grammar_start_laws.specs.Own.{AllOf}
use Rattle.scope_analysis.specs.Functions.{Inner}
use Rattle.emit_stmts.specs.Functions.{start_of}

-- how many of these starts are below that of a function
abbrev pub place_of : List ℕ → Function → ℕ
place_of starts f = count_by (λ (s : ℕ). nat_lt s (start_of f)) starts

-- this holds of the places of these functions among those that start there
pub record Placed (Holds : ℕ → Type 0) (starts : List ℕ) (is : List Inner) : Type 0 where
  pub all : AllOf (λ (i : Inner). Holds (place_of starts i.func)) is

all_front : {X : Type 0} (P : X → Type 0) (xs ys : List X) → AllOf P (xs ++ ys) → AllOf P xs
all_front P [] ys h = tt
all_front P (x ∷ xs) ys h = (h.0, all_front P xs ys h.1)

all_back : {X : Type 0} (P : X → Type 0) (xs ys : List X) → AllOf P (xs ++ ys) → AllOf P ys
all_back P [] ys h = h
all_back P (x ∷ xs) ys h = all_back P xs ys h.1

pub front : {H : ℕ → Type 0} {starts : List ℕ} {xs : List Inner} (ys : List Inner) → Placed H starts (xs ++ ys) → Placed H starts xs
front {H} {starts} {xs} ys h = record { all = all_front (λ (i : Inner). H (place_of starts i.func)) xs ys h.all }

pub back : {H : ℕ → Type 0} {starts : List ℕ} {ys : List Inner} (xs : List Inner) → Placed H starts (xs ++ ys) → Placed H starts ys
back {H} {starts} {ys} xs h = record { all = all_back (λ (i : Inner). H (place_of starts i.func)) xs ys h.all }
