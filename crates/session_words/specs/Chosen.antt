-- What options that were read say, with lists in place of `Vec`s.
use Rattle.std.specs.Prelude.{option_map, map, string_bytes}
use Rattle.session_words.specs.declared.choices.Choices.{Choices}
use Rattle.session_words.specs.declared.words.Numbers.{Numbers}
use Rattle.session_words.specs.declared.words.Taken.{Taken}
use Rattle.session_words.specs.Asked.{wanted}
use Rattle.session_words.specs.Words.{Given, Generated}
use Rattle.session_words.specs.Words as form

abbrev pub given : Choices → Given
given c = record { want = option_map wanted c.want; workers = c.workers; order = c.order }

abbrev pub taken : Taken → form.Taken
taken t = record { given = given t.choices; names = map string_bytes t.names.now }

abbrev pub generated : Numbers → Generated
generated n = record { number = n.number; size = n.size; workers = n.workers }
