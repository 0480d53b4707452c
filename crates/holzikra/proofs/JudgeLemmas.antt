-- A check wants no function, so none is missing.
use Rattle.std.proofs.Common.{◌≡◌, ℕ, ◌<◌, List, [], Contains, inl, inr, arith}
use Rattle.session_words.specs.Asked as asked
use Rattle.session_specs.specs.Refusals as line
use Rattle.stencil.specs.Answers.{IsRefusedAs}

none-in : (n : ℕ) → Contains {X = ℕ} [] n → ⊥
none-in n h = let lt : h.0 < 0 = h.1 in omega arith

pub never-missing : (text : List ℕ) (number : ℕ) → IsRefusedAs asked.All text (line.NoFunction number) → ⊥
never-missing text number why =
    elim why [
      | inl h ↦ let same : line.NoFunction number ≡ line.TooLong = h.1 in cc
      | inr h ↦ none-in number (h.1.least).is_one
    ]
