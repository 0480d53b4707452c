use Rattle.std.proofs.Common.{◌≡◌, ◌++◌, take}
use Rattle.holzikra_page.specs.Escape.{escaped}
use Rattle.holzikra_page.proofs.escape.append_bytes.Given as goal

abbrev pub invariant-loop-byte : goal.invariant-loop-byte
invariant-loop-byte l = l.out.items ≡ l.initial.out.items ++ escaped (take l.byte-index l.text)
