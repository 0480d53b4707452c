-- The words of the table and what a desk has seen of them, as lists of numbers. A word is 0, or one more
-- than the number of a text. This project's own choice.
use Rattle.std.specs.Prelude.{◌≡◌, ◌≢◌, ℕ, zero, suc, ◌+◌, ◌-◌, ◌*◌, ◌%◌, ◌<◌, ◌≤◌, ◌⊎◌, ◌↔◌, List, [], ◌∷◌, length, fold, slice_index}
use Rattle.std.specs.Prelude.{slice_index_or}
use Rattle.std.specs.Hash as fed
use Rattle.std.specs.Hash.DefaultHasher as sip
use Rattle.std.specs.RandomState.{initial_hasher}
use Rattle.std.specs.declared.hash.RandomState.{RandomState}
use Rattle.atom_table.specs.ListView.{ListView}

-- the text that a word names
abbrev pub named : ListView → ℕ → List ℕ
named list word = slice_index_or list.texts (word - 1) []

-- the hash of a text by these keys: SipHash-1-3, as std's `RandomState` makes it
unfoldable pub hash_of : RandomState → List ℕ → ℕ
hash_of keys text = sip.finish (fold sip.write (initial_hasher keys) (fed.slice fed.u16 text))

-- Where the search for a text begins. There are twice as many homes as texts, and after the last home
-- as many places as texts, so that no search leaves the table
abbrev pub home_of : ListView → List ℕ → ℕ
home_of list text = hash_of list.keys text % (2 * length list.texts + 1)

abbrev pub places : ListView → ℕ
places list = 3 * length list.texts + 1

-- whether a place with its word stands in what was seen
abbrev pub Has : List (ℕ × ℕ) → ℕ × ℕ → Type 0
Has [] x = ⊥
Has (y ∷ seen) x = (y ≡ x) ⊎ Has seen x

-- the word is not 0, and stands in the table at its place
abbrev pub Stands : List ℕ → ℕ × ℕ → Type 0
Stands words x = (x.1 ≢ 0) × (slice_index words x.0 ≡ x.1)

abbrev pub AllStand : List ℕ → List (ℕ × ℕ) → Type 0
AllStand words seen = (x : ℕ × ℕ) → Has seen x → Stands words x

-- what was seen lies in the table and names numbers in range, and two places that were seen are one exactly where their texts
-- are equal
pub record Coherent (list : ListView) (seen : List (ℕ × ℕ)) : Type 0 where
  pub range : (x : ℕ × ℕ) → Has seen x → (x.0 < places list) × (0 < x.1) × (x.1 ≤ length list.texts)
  pub one_each : (x y : ℕ × ℕ) → Has seen x → Has seen y → (x.0 ≡ y.0) ↔ (named list x.1 ≡ named list y.1)

-- every place from the text's home to before this one was seen, with another text
abbrev pub Passed : List (ℕ × ℕ) → ListView → List ℕ → ℕ → Type 0
Passed seen list text place = (q : ℕ) → home_of list text ≤ q → q < place → (word : ℕ) × Has seen (q, word) × (named list word ≢ text)

-- what has been seen after a look at this place found this word
abbrev pub gained : ℕ → ℕ → List (ℕ × ℕ) → List (ℕ × ℕ)
gained place zero seen = seen
gained place (suc word) seen = (place, suc word) ∷ seen

-- the word that stands after an exchange of 0 for `new` found this one
abbrev pub settled : ℕ → ℕ → ℕ
settled zero new = new
settled (suc word) new = suc word
