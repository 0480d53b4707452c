use Rattle.std.proofs.Common.{◌≡◌, length, map}
use Rattle.std.specs.Prelude.{string_bytes}
use Rattle.session_words.specs.Words.{all_file_names}
use Rattle.session_words.proofs.words.all_file_names.Given as goal

abbrev pub invariant-loop-name : goal.invariant-loop-name
invariant-loop-name l = all_file_names (map string_bytes l.names) ≡ all_file_names (map string_bytes l.fn.names)

abbrev pub decreases-loop-name : goal.decreases-loop-name
decreases-loop-name l = length l.names
