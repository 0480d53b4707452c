-- What is printed for files.
use Rattle.std.specs.Prelude.{ℕ, List, flat_map}
use Rattle.compile_session.specs.declared.answer.FileAnswer.{FileAnswer}

-- all texts of these answers, one after another
abbrev pub texts_in : List FileAnswer → List ℕ
texts_in answers = flat_map (λ (answer : FileAnswer). answer.text) answers
