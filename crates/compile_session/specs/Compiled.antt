-- How many functions workers compile for a command. This project's own choice.
use Rattle.std.specs.Prelude.{◌≡◌, ℕ, ◌*◌, ◌^◌, ◌≤◌, List, Some}
use Rattle.session_words.specs.Asked.{Asked, Files, Trial, Churn}
use Rattle.session_words.specs.Words.{asked_of}
use Rattle.session_specs.specs.Compiled.{CompilesAsked}

-- by how many workers it is done
abbrev pub workers_of : Asked → ℕ
workers_of (Files job) = job.workers
workers_of (Trial number size workers) = workers
workers_of (Churn number size workers) = workers

-- Where n functions are shown compiled, workers compiled no more than n each, and few in all.
pub record IsCompiledBy (workers shown compiled : ℕ) : Type 0 where
  pub most : compiled ≤ workers * shown
  pub few : compiled ≤ 2 ^ 40

-- So many workers are to do what the words ask for, and n functions are shown compiled in the answer to them.
pub record MayCompile (words : List (List ℕ)) (held : List ℕ → List ℕ) (workers shown : ℕ) : Type 0 where
  pub asked : Asked
  pub form : asked_of words ≡ Some asked
  pub by : workers ≡ workers_of asked
  pub compiled : CompilesAsked asked held shown
