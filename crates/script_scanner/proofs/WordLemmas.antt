-- A word is sought among those that begin with its first letter.
use Rattle.std.proofs.Common.{◌≡◌, ◌≢◌, ℕ, List, [], ◌∷◌, ◌+◌, ◌<◌, ◌≤◌, length, drop, get_or, Bool, true, false, refl, sym, ◌∙◌, ap, inl, inr, arith, eq-eqb}
use Rattle.std.specs.Prelude.{◌&&◌, None, option_map}
use Rattle.std.specs.Str.{bytes_eq}
use Rattle.std.specs.Cmp.Lexicographic.{bytes_decides}
use Rattle.std.proofs.lemmas.Bool.{cases_Bool, ne_eqb}
use Rattle.std.proofs.Math.ListN.{drop_of_length-le}
use Rattle.script_scanner.specs.Blanks.{first_is}
use Rattle.script_scanner.specs.Words.{Word, words, word_at, word_from, word_index}
use Rattle.script_scanner.proofs.Lists.{find_filter, read_at}

differ : (c : ℕ) (text : List ℕ) (word : List ℕ) → first_is c word ≡ false → bytes_eq (c ∷ text) word ≡ false
differ c text [] e = refl
differ c text (d ∷ word) e = ap (λ (b : Bool). b && bytes_eq text word) e

pub word_by_first : (c : ℕ) (text : List ℕ) → option_map word_index (word_at (c ∷ text)) ≡ option_map word_index (word_from c (c ∷ text))
unfolding word_at
word_by_first c text = ap (option_map word_index)
    (find_filter (λ (w : Word). bytes_eq (c ∷ text) w.text) (λ (w : Word). first_is c w.text) (λ (w : Word). true) words refl (λ w _ other. differ c text w.text other))

pub no_word_at_end : None ≡ option_map word_index (word_at [])
unfolding word_at
no_word_at_end = refl

-- texts of different lengths are not equal
pub other_length : (text word : List ℕ) → length text ≢ length word → bytes_eq text word ≡ false
other_length text word differs = elim (cases_Bool (bytes_eq text word)) as (λ _. bytes_eq text word ≡ false) [ inl y ↦ absurd (differs (ap length ((bytes_decides text word).0 y))) | inr n ↦ n ]

-- one letter more is the same
pub letter_more : (text word : List ℕ) (at t w : ℕ) → at < length text → at < length word → t ≡ get_or text at t → w ≡ get_or word at w → t ≡ w
    → bytes_eq text word ≡ bytes_eq (drop at text) (drop at word) → bytes_eq text word ≡ bytes_eq (drop (at + 1) text) (drop (at + 1) word)
letter_more text word at t w lt lt_word read read_word same before =
    before
    ∙ ap (λ (us : List ℕ). bytes_eq us (drop at word)) (read_at text at t lt read)
    ∙ ap (λ (ls : List ℕ). bytes_eq (t ∷ drop (at + 1) text) ls) (read_at word at w lt_word read_word)
    ∙ ap (λ (b : Bool). b && bytes_eq (drop (at + 1) text) (drop (at + 1) word)) (eq-eqb t w same)

-- a letter is another
pub letter_other : (text word : List ℕ) (at t w : ℕ) → at < length text → at < length word → t ≡ get_or text at t → w ≡ get_or word at w → t ≢ w
    → bytes_eq text word ≡ bytes_eq (drop at text) (drop at word) → false ≡ bytes_eq text word
letter_other text word at t w lt lt_word read read_word other before =
    sym (before
    ∙ ap (λ (us : List ℕ). bytes_eq us (drop at word)) (read_at text at t lt read)
    ∙ ap (λ (ls : List ℕ). bytes_eq (t ∷ drop (at + 1) text) ls) (read_at word at w lt_word read_word)
    ∙ ap (λ (b : Bool). b && bytes_eq (drop (at + 1) text) (drop (at + 1) word)) (ne_eqb t w other))

-- all letters are the same
pub letters_all : (text word : List ℕ) (at : ℕ) → length word ≤ at → length text ≡ length word → bytes_eq text word ≡ bytes_eq (drop at text) (drop at word) → true ≡ bytes_eq text word
letters_all text word at all same before =
    sym (before ∙ ap (λ (us : List ℕ). bytes_eq us (drop at word)) (drop_of_length-le text (omega (arith, all, same))) ∙ ap (λ (ls : List ℕ). bytes_eq [] ls) (drop_of_length-le word all))
