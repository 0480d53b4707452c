use Rattle.std.proofs.Common.{◌∷◌}
use Rattle.std.specs.Prelude.{[]}
use Rattle.test_threads.proofs.board.ask_picked.Given as goal

-- the one file is this
abbrev pub ghosts-ask_on : goal.ghosts-ask_on
ghosts-ask_on a = record { files = record { bytes = a.bytes.now; texts = a.initial.now.parts.texts } ∷ [] }
