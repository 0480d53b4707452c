use Rattle.std.proofs.Common.{[], ◌∷◌}
use Rattle.compile_shown.proofs.compile_shown.Given as goal

-- the one file is this
abbrev pub ghosts-compile_flagged : goal.ghosts-compile_flagged
ghosts-compile_flagged g a = record { files = record { bytes = a.bytes.now; texts = a.initial.now.parts.texts } ∷ [] }
