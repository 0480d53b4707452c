use Rattle.compile_session.specs.Showing.{picked_files}
use Rattle.compile_session.proofs.shown.shown_answers.Given as goal

-- the files are these, with the texts of their scripts
abbrev pub ghosts-answers_after : goal.ghosts-answers_after
ghosts-answers_after g a = record { files = picked_files a.reads.now a.starts.now }
