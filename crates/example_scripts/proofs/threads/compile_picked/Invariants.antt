use Rattle.std.proofs.Common.{◌∷◌}
use Rattle.std.specs.Prelude.{[]}
use Rattle.example_scripts.proofs.threads.compile_picked.Given as goal

-- the one file is this
abbrev pub ghosts-compile_shared : goal.ghosts-compile_shared
ghosts-compile_shared g a = record { files = record { bytes = a.text.now; texts = a.script.now.initial.parts.texts } ∷ [] }
