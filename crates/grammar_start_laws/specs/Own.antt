-- Where the bodies of a tree's functions are found by the offsets where the functions start.
use Rattle.std.specs.Prelude.{ℕ, List, [], ◌∷◌, ◌≡◌, ◌≤◌, suc, nat_eq, cond}
use Rattle.script_grammar.specs.Lexeme.{Lexeme}
use Rattle.script_grammar.specs.Tree.{Body, BracedBody, ShortBody, Stmts, no_stmts}
use Rattle.grammar_parser_specs.specs.Filling.{fill_stmts}
use Rattle.grammar_start_laws.specs.Started.{Started}

abbrev pub AllOf : {X : Type 0} → (X → Type 0) → List X → Type 0
AllOf P [] = Unit {0}
AllOf P (x ∷ xs) = P x × AllOf P xs

-- the function's body, where it has braces, is the one that is given for its start
abbrev pub HasOwn : (ℕ → Body) → Started → Type 0
HasOwn bodies f = elim f.body [ BracedBody items ↦ bodies f.start ≡ BracedBody items | ShortBody value ↦ Unit {0} ]

-- statements whose outermost functions have the bodies that are given for their starts
abbrev pub IsFilled : (ℕ → Body) → Stmts → Type 0
IsFilled bodies items = fill_stmts bodies items ≡ items

-- tokens whose starts rise, from this offset on
abbrev pub TokensRise : ℕ → List Lexeme → Type 0
TokensRise from [] = Unit {0}
TokensRise from (t ∷ ts) = (from ≤ t.start) × TokensRise (suc t.start) ts

-- functions whose starts rise, from this offset on
abbrev pub StartsRise : ℕ → List Started → Type 0
StartsRise from [] = Unit {0}
StartsRise from (f ∷ fs) = (from ≤ f.start) × StartsRise (suc f.start) fs

-- the statements of a body in braces; an expression has none
abbrev pub stmts_in : Body → Stmts
stmts_in (BracedBody items) = items
stmts_in (ShortBody value) = no_stmts

-- the statements of the first function that starts there, or none
abbrev pub stmts_at : List Started → ℕ → Stmts
stmts_at [] n = no_stmts
stmts_at (f ∷ fs) n = cond (nat_eq f.start n) (stmts_in f.body) (stmts_at fs n)
