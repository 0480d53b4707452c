-- What the words of a command ask for, with lists in place of `Vec`s: this project's own choice.
use Rattle.std.specs.Prelude.{ℕ, List, map, string_bytes}
use Rattle.session_words.specs.declared.options.Command.{Command}
use Rattle.session_words.specs.declared.options.FileJob.{FileJob}
use Rattle.session_words.specs.declared.options.Options.{Options}
use Rattle.session_words.specs.declared.options.Options.TheVariants as options
use Rattle.session_words.specs.declared.options.Order.{Order}
use Rattle.session_words.specs.declared.options.Want.{Want}
use Rattle.session_words.specs.declared.options.Want.TheVariants as want

-- which functions are wanted: all, none, or those of these numbers
pub data Wanted : Type 0 where
  All : Wanted
  Nothing : Wanted
  Numbers : List ℕ → Wanted

-- a command over files
pub record Job : Type 0 where
  pub command : Command
  pub want : Wanted
  pub workers : ℕ
  pub order : Order
  pub files : List (List ℕ)

pub data Asked : Type 0 where
  Files : Job → Asked
  Trial : (number size workers : ℕ) → Asked
  Churn : (number size workers : ℕ) → Asked

-- what the code's options say

abbrev pub wanted : Want → Wanted
wanted want.All = All
wanted want.Nothing = Nothing
wanted (want.Numbers numbers) = Numbers numbers.items

abbrev pub job : FileJob → Job
job j = record { command = j.command; want = wanted j.want; workers = j.workers; order = j.order; files = map string_bytes j.files.items }

abbrev pub asked : Options → Asked
asked (options.Files j) = Files (job j)
asked (options.Trial number size workers) = Trial number size workers
asked (options.Churn number size workers) = Churn number size workers
