use Rattle.std.proofs.Common.{◌≡◌, ◌++◌, IsUtf8, string_bytes}
use Rattle.std.specs.Str.{chars}
use Rattle.std.specs.Str.Iter.{chars_rest}
use Rattle.holzikra_places.specs.Shown.{shown_all, shown_text}
use Rattle.holzikra_places.proofs.shown.push_shown_text.Given as goal

abbrev pub invariant-loop-c : goal.invariant-loop-c
invariant-loop-c l =
    IsUtf8 (chars_rest l.c-iterator)
    × (string_bytes l.into ++ shown_all (chars (chars_rest l.c-iterator)) ≡ string_bytes l.fn.into ++ shown_text l.fn.text)
