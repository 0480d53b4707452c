-- In which order the files of a command are begun: this project's own choice.
use Rattle.std.specs.Prelude.{ℕ, List, length, Option, Some, None, Vec, slice_get}
use Rattle.std.specs.declared.alloc.Global.{Global}
use Rattle.session_words.specs.declared.options.Order.{Order}
use Rattle.session_orders.specs.Orders.{AreInOrder}
use Rattle.session_requests.specs.Numbers.{rising}

abbrev pub size_by : Option (Option (Vec ℕ Global)) → ℕ
size_by None = 0
size_by (Some None) = 0
size_by (Some (Some bytes)) = length bytes.items

-- how many bytes were read of the file of a number
abbrev pub size_in : List (Option (Vec ℕ Global)) → ℕ → ℕ
size_in reads number = size_by (slice_get reads number)

-- the numbers of the first files stand in the order that the command asks for
abbrev pub AreBegunIn : Order → List (Option (Vec ℕ Global)) → ℕ → List ℕ → Type 0
AreBegunIn order reads count numbers = AreInOrder order (size_in reads) (rising count) numbers
