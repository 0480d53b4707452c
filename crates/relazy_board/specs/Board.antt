-- The slots of a board. This project's own choice.
use Rattle.std.specs.Prelude.{◌≡◌, ℕ, suc, List, Some, length, slice_get}
use Rattle.relazy_board.specs.declared.place.FunctionPlace.{FunctionPlace}

-- one for each function of the script of these bytes, in order of number, from 1
pub record AreSlotsOf (bytes : List ℕ) (count : ℕ) (slots : List FunctionPlace) : Type 0 where
  pub one_each : length slots ≡ count
  pub bytes_are : (at : ℕ) (place : FunctionPlace) → slice_get slots at ≡ Some place → place.bytes.now ≡ bytes
  pub numbers_are : (at : ℕ) (place : FunctionPlace) → slice_get slots at ≡ Some place → place.number ≡ suc at
