-- Words that ask for the same but for the number of workers and the order in which files are begun.
use Rattle.std.specs.Prelude.{◌≡◌, ℕ, List, Some}
use Rattle.session_words.specs.Asked.{Asked, Files, Trial, Churn}
use Rattle.session_words.specs.Words.{asked_of}

abbrev pub IsAlike : Asked → Asked → Type 0
IsAlike (Files a) (Files b) = (a.command ≡ b.command) × (a.want ≡ b.want) × (a.files ≡ b.files)
IsAlike (Files a) (Trial number size workers) = ⊥
IsAlike (Files a) (Churn number size workers) = ⊥
IsAlike (Trial number size workers) (Files b) = ⊥
IsAlike (Trial number size workers) (Trial number' size' workers') = (number ≡ number') × (size ≡ size')
IsAlike (Trial number size workers) (Churn number' size' workers') = ⊥
IsAlike (Churn number size workers) (Files b) = ⊥
IsAlike (Churn number size workers) (Trial number' size' workers') = ⊥
IsAlike (Churn number size workers) (Churn number' size' workers') = (number ≡ number') × (size ≡ size')

-- these words and the others ask for the same, whatever the workers and the order are
pub record AskAlike (words others : List (List ℕ)) : Type 0 where
  pub asked : Asked
  pub asked_by_others : Asked
  pub form : asked_of words ≡ Some asked
  pub form_of_others : asked_of others ≡ Some asked_by_others
  pub alike : IsAlike asked asked_by_others
