use Rattle.std.proofs.Common.{◌≡◌, drop}
use Rattle.std.specs.Str.{bytes_eq}
use Rattle.script_scanner.proofs.words.is_text.Given as goal

-- the texts are equal where their rests are
abbrev pub invariant-loop-at : goal.invariant-loop-at
invariant-loop-at l = bytes_eq l.text l.word ≡ bytes_eq (drop l.at l.text) (drop l.at l.word)
