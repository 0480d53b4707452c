-- What is asked of the files of a command, and in which order. This project's own choice.
use Rattle.std.specs.Prelude.{◌≡◌, ℕ, ◌-◌, List, [], ◌∷◌, ◌++◌, Option, Some, None, length, map, slice_get, IsPermutation}
use Rattle.std.specs.List.{range_with_len}
use Rattle.std.specs.List.Sorted.{IsNonDecreasing}
use Rattle.stencil_data.specs.Views.{RecordView}
use Rattle.compile_specs.specs.Shown.{Wanted, All, Numbers}
use Rattle.session_words.specs.declared.options.Order.{Order}
use Rattle.session_orders.specs.Orders.{AreInOrder}
use Rattle.session_requests.specs.Views.{WorkView}
use Rattle.session_requests.specs.Works.{work_at}
use Rattle.session_requests.specs.declared.requests.Request.{Request}

-- these are the numbers that are wanted of n functions, rising
abbrev pub AreWanted : Wanted → ℕ → List ℕ → Type 0
AreWanted All count numbers = numbers ≡ range_with_len 1 count
AreWanted (Numbers wanted) count numbers = IsPermutation wanted numbers × IsNonDecreasing numbers

abbrev pub length_by : Option RecordView → ℕ
length_by None = 0
length_by (Some lazy) = lazy.extent.end - lazy.extent.start

-- how many bytes the function of a number has
abbrev pub length_of : List RecordView → ℕ → ℕ
length_of records number = length_by (slice_get records (number - 1))

-- that the function of a number is asked of a file
abbrev pub request_of : ℕ → ℕ → Request
request_of file number = record { file = file; number = number }

-- Each function of this script that is wanted is asked for, as often as it is wanted, in this order.
pub record AreAsked (order : Order) (want : Wanted) (file : ℕ) (work : WorkView) (requests : List Request) : Type 0 where
  pub rising : List ℕ
  pub wanted : AreWanted want (length work.board.initial.parts.records) rising
  pub numbers : List ℕ
  pub in_order : AreInOrder order (length_of work.board.initial.parts.records) rising numbers
  pub are : requests ≡ map (request_of file) numbers

-- nothing is asked of a file that is no script
abbrev pub AreAskedOf : Order → Wanted → ℕ → Option WorkView → List Request → Type 0
AreAskedOf order want file None requests = requests ≡ []
AreAskedOf order want file (Some work) requests = AreAsked order want file work requests

-- the requests to one file come after others
abbrev pub GainsAsked : Order → Wanted → ℕ → Option WorkView → List Request → List Request → Type 0
GainsAsked order want file work old new = (own : List Request) × AreAskedOf order want file work own × (new ≡ old ++ own)

-- what is asked of files, file by file
abbrev pub AreAllAsked : Order → Wanted → List (Option WorkView) → List ℕ → List Request → Type 0
AreAllAsked order want works [] requests = requests ≡ []
AreAllAsked order want works (file ∷ files) requests =
    (own others : List Request) × AreAskedOf order want file (work_at works file) own
    × AreAllAsked order want works files others × (requests ≡ own ++ others)
