-- A text that is generated from a number and a size: n lines, each of one of four kinds. This project's own choice.
use Rattle.std.specs.Prelude.{ℕ, zero, suc, ◌+◌, ◌*◌, ◌/◌, ◌%◌, ◌^◌, List, [], ◌++◌, nat_eq, if◌then◌else◌, codes}
use Rattle.std.specs.Fmt.{decimal}

abbrev pub function_line : List ℕ → List ℕ
function_line n = codes "function f" ++ n ++ codes "(a, b) { return a + b * " ++ n ++ codes "; }\n"

abbrev pub counter_line : List ℕ → List ℕ
counter_line n = codes "var v" ++ n ++ codes " = function () { var c = " ++ n ++ codes "; return () => c++; };\n"

abbrev pub loop_line : List ℕ → List ℕ
loop_line n = codes "function g" ++ n ++ codes "(n) { for (let j = 0; j < n; j++) { if (j > " ++ n ++ codes ") break; } }\n"

abbrev pub object_line : List ℕ → List ℕ
object_line n = codes "var o" ++ n ++ codes " = { get x() { return this.y; }, y: " ++ n ++ codes " };\n"

-- the line of a kind, with its number
abbrev pub line_of : ℕ → List ℕ → List ℕ
line_of kind n =
    if nat_eq kind 0 then function_line n else
    if nat_eq kind 1 then counter_line n else
    if nat_eq kind 2 then loop_line n else object_line n

-- the next state of the sequence that the kinds come from
abbrev pub next_state : ℕ → ℕ
next_state s = (s * 1664525 + 1013904223) % 2 ^ 32

abbrev pub kind_of : ℕ → ℕ
kind_of s = s / 65536 % 4

-- n lines from number i on, after this state
abbrev pub lines_from : ℕ → ℕ → ℕ → List ℕ
lines_from zero i s = []
lines_from (suc more) i s = line_of (kind_of (next_state s)) (decimal i) ++ lines_from more (i + 1) (next_state s)

abbrev pub generated : ℕ → ℕ → List ℕ
generated number size = lines_from size 0 number
