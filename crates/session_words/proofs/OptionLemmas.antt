-- Options, taken one by one.
use Rattle.std.proofs.Common.{◌≡◌, sym, ap, ◌∙◌, ℕ, true, List, ◌∷◌, Some, arith}
use Rattle.session_words.specs.Words.{Given, is_option, with_option, take_options}

pub goes_on : (g more : Given) (word value : List ℕ) (rest : List (List ℕ)) → is_option word ≡ true → with_option g word value ≡ Some more
    → take_options g (word ∷ value ∷ rest) ≡ take_options more rest
goes_on g more word value rest e f = grind arith

-- after an option and its value the other words are taken
pub option_taken : (g more first : Given) (word value : List ℕ) (words rest all : List (List ℕ)) → is_option word ≡ true → with_option g word value ≡ Some more
    → words ≡ word ∷ value ∷ rest → take_options g words ≡ take_options first all → take_options more rest ≡ take_options first all
option_taken g more first word value words rest all e f w t = sym (goes_on g more word value rest e f) ∙ (sym (ap (take_options g) w) ∙ t)
