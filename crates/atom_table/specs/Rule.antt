-- The rule of the table, which every step keeps, and what the steps tell.
use Rattle.std.specs.Prelude.{◌≡◌, ◌≢◌, ℕ, ◌<◌, ◌≤◌, List, [], ◌∷◌, ◌++◌, length, slice_index}
use Rattle.atomic_table.specs.Table.{State, Me, Step}
use Rattle.atom_table.specs.ListView.{ListView}
use Rattle.atom_table.specs.declared.rule.Seen.{Seen}
use Rattle.atom_table.specs.Words.{named, home_of, places, Has, AllStand, Coherent, gained, settled}

abbrev pub Each : {A : Type 0} → (A → Type 0) → List A → Type 0
Each P [] = Unit {0}
Each P (x ∷ xs) = P x × Each P xs

-- Each word is 0 or one more than a text's number. Two words that are not 0 name unequal texts. On the
-- way from a text's home to its word no word is 0. What a desk has seen stands in the table
pub record Lawful (list : ListView) (words : List ℕ) (views : List Seen) : Type 0 where
  pub size : length words ≡ places list
  pub range : (p : ℕ) → slice_index words p ≤ length list.texts
  pub apart : (p q : ℕ) → slice_index words p ≢ 0 → slice_index words q ≢ 0
      → named list (slice_index words p) ≡ named list (slice_index words q) → p ≡ q
  pub after_home : (p : ℕ) → slice_index words p ≢ 0 → home_of list (named list (slice_index words p)) ≤ p
  pub path : (p q : ℕ) → slice_index words p ≢ 0 → home_of list (named list (slice_index words p)) ≤ q → q < p → slice_index words q ≢ 0
  pub views_stand : Each (λ (view : Seen). AllStand words view.words) views

abbrev pub seen : ListView → List (ℕ × ℕ) → Seen
seen list words = record { list = list; words = words }

module _ {S : Type 0} where
  abbrev pub holds : ListView → State S Seen → Type 0
  holds list s = Lawful list s.words s.views

  -- a look: what was found has been seen, if it is not 0; it is what had been seen there before
  abbrev pub looked : Step S → Me S Seen → ℕ → Me S Seen → Type 0
  looked st m found m' = (m'.1 ≡ m.1) × (m'.0.list ≡ m.0.list) × (m'.0.words ≡ gained st.word found m.0.words) × Coherent m.0.list m'.0.words
      × ((word : ℕ) → Has m.0.words (st.word, word) → found ≡ word)

  -- an exchange of 0: the word that stands there then has been seen
  abbrev pub claimed : Step S → Me S Seen → ℕ → Me S Seen → Type 0
  claimed st m found m' = (m'.1 ≡ m.1) × (m'.0.list ≡ m.0.list) × (m'.0.words ≡ (st.word, settled found st.second) ∷ m.0.words)
      × Coherent m.0.list m'.0.words

-- a desk that has seen what both had
abbrev pub together : Seen → Seen → Seen
together v w = seen v.list (v.words ++ w.words)

-- a desk that is no desk any more: it has seen nothing
abbrev pub spent : Seen
spent = seen (record { keys = record { key0 = 0; key1 = 0 }; texts = [] }) []
