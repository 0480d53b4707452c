-- What is at hand in a slot. This project's own choice.
use Rattle.lazy_compile.specs.declared.Delazified.{Delazified}
use Rattle.lazy_function.specs.Numbered.{IsCompiledFunction}
use Rattle.relazy_board.specs.declared.place.FunctionPlace.{FunctionPlace}

-- this is what the function of the place is compiled to
unfoldable pub IsResultOf : FunctionPlace → Delazified → Type 0
IsResultOf place made = IsCompiledFunction place.bytes.now place.number made
