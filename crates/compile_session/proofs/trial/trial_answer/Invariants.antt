use Rattle.std.proofs.Common.{[], ◌∷◌}
use Rattle.compile_session.proofs.trial.trial_answer.Given as goal

-- the one file is the text, with the texts of its script
abbrev pub ghosts-compiled_whole : goal.ghosts-compiled_whole
ghosts-compiled_whole g a = record { files = record { bytes = a.bytes.now; texts = a.start.now.initial.parts.texts } ∷ [] }
