-- The number of each status, with which the program ends: this project's own choice.
use Rattle.std.specs.Prelude.{ℕ}
use Rattle.compile_session.specs.declared.status.Status.{Status}
use Rattle.compile_session.specs.declared.status.Status.TheVariants.{Done, Refused, BadWords, ReadFault, WriteFault, NoMemory}

abbrev pub number_of : Status → ℕ
number_of Done = 0
number_of Refused = 1
number_of BadWords = 2
number_of ReadFault = 3
number_of WriteFault = 4
number_of NoMemory = 5
