-- The texts of the answers for files, one after another.
use Rattle.std.proofs.Common.{List, Some, length, take, ℕ, ◌++◌, ◌+◌, ◌≡◌, ◌≤◌}
use Rattle.std.specs.Prelude.{slice_get}
use Rattle.compile_session.specs.Printed.{texts_in}
use Rattle.compile_session.specs.declared.answer.FileAnswer.{FileAnswer}
use Rattle.session_output.proofs.Texts.{flat_all, flat_next}

pub texts_next : (answers : List FileAnswer) (place next : ℕ) (answer : FileAnswer) → next ≡ place + 1 → slice_get answers place ≡ Some answer → texts_in (take next answers) ≡ texts_in (take place answers) ++ answer.text
texts_next answers place next answer is at = flat_next (λ (a : FileAnswer). a.text) answers place next answer is at

pub texts_all : (answers : List FileAnswer) (place : ℕ) → length answers ≤ place → texts_in (take place answers) ≡ texts_in answers
texts_all answers place long = flat_all (λ (a : FileAnswer). a.text) answers place long
