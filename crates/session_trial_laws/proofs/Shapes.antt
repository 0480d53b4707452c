-- The four kinds of generated lines.
use Rattle.std.proofs.Common.{◌≡◌, ℕ, List, [], ◌∷◌, ◌++◌, codes, refl, arith, append_assoc}
use Rattle.unicode_ident.proofs.Computing.{unicode_ident}
use Rattle.script_scanner.specs.declared.braces.Brace.TheVariants.{Block}
use Rattle.session_trial.specs.Generated.{function_line, counter_line, loop_line, object_line}
use Rattle.session_trial_laws.proofs.Lines.{Shape, IsShape, line}
use Rattle.session_trial_laws.proofs.NamesAndNumbers.{is_letter_f, is_letter_g, is_letter_o, is_letter_v}
use Rattle.session_trial_laws.proofs.SpelledParts.{function_head_tokens, function_head_read, var_head_tokens, var_head_read, function_middle_tokens, function_middle_read, function_tail_tokens, function_tail_read, counter_middle_tokens, counter_middle_read, counter_tail_tokens, counter_tail_read, loop_middle_tokens, loop_middle_read, loop_tail_tokens, loop_tail_read, object_middle_tokens, object_middle_read, object_tail_tokens, object_tail_read}

regrouped : (a n b c : List ℕ) → a ++ n ++ b ++ n ++ c ≡ a ++ (n ++ (b ++ (n ++ c)))
regrouped a n b c = simp append_assoc

-- a function declaration
abbrev pub function_shape : Shape
function_shape = record {
  head = codes "function ";
  letter = 0x66;
  middle = codes "(a, b) { return a + b * ";
  tail = codes "; }\n";
  inside = Block ∷ [];
  head_steps = 2;
  middle_steps = 19;
  tail_steps = 4;
  head_tokens = function_head_tokens;
  middle_tokens = function_middle_tokens;
  tail_tokens = function_tail_tokens;
}

pub is_function_shape : IsShape function_shape
unfolding unicode_ident
is_function_shape = record {
  letter = is_letter_f;
  head_ascii = refl;
  middle_ascii = refl;
  tail_ascii = refl;
  middle_begins = record { first = 40; more = codes "a, b) { return a + b * "; split = refl };
  tail_begins = record { first = 59; more = codes " }\n"; split = refl };
  stops_name = λ rest. refl;
  stops_number = λ rest. record { digits = refl; clean = refl; decimal = refl };
  few = omega arith;
  head_read = function_head_read;
  middle_read = function_middle_read;
  tail_read = function_tail_read;
}

pub function_line_is : (n : List ℕ) → function_line n ≡ line function_shape n
function_line_is n = regrouped (codes "function f") n (codes "(a, b) { return a + b * ") (codes "; }\n")

-- a function expression with an arrow in it
abbrev pub counter_shape : Shape
counter_shape = record {
  head = codes "var ";
  letter = 0x76;
  middle = codes " = function () { var c = ";
  tail = codes "; return () => c++; };\n";
  inside = Block ∷ [];
  head_steps = 2;
  middle_steps = 16;
  tail_steps = 16;
  head_tokens = var_head_tokens;
  middle_tokens = counter_middle_tokens;
  tail_tokens = counter_tail_tokens;
}

pub is_counter_shape : IsShape counter_shape
unfolding unicode_ident
is_counter_shape = record {
  letter = is_letter_v;
  head_ascii = refl;
  middle_ascii = refl;
  tail_ascii = refl;
  middle_begins = record { first = 32; more = codes "= function () { var c = "; split = refl };
  tail_begins = record { first = 59; more = codes " return () => c++; };\n"; split = refl };
  stops_name = λ rest. refl;
  stops_number = λ rest. record { digits = refl; clean = refl; decimal = refl };
  few = omega arith;
  head_read = var_head_read;
  middle_read = counter_middle_read;
  tail_read = counter_tail_read;
}

pub counter_line_is : (n : List ℕ) → counter_line n ≡ line counter_shape n
counter_line_is n = regrouped (codes "var v") n (codes " = function () { var c = ") (codes "; return () => c++; };\n")

-- a loop in a function
abbrev pub loop_shape : Shape
loop_shape = record {
  head = codes "function ";
  letter = 0x67;
  middle = codes "(n) { for (let j = 0; j < n; j++) { if (j > ";
  tail = codes ") break; } }\n";
  inside = Block ∷ Block ∷ [];
  head_steps = 2;
  middle_steps = 38;
  tail_steps = 9;
  head_tokens = function_head_tokens;
  middle_tokens = loop_middle_tokens;
  tail_tokens = loop_tail_tokens;
}

pub is_loop_shape : IsShape loop_shape
unfolding unicode_ident
is_loop_shape = record {
  letter = is_letter_g;
  head_ascii = refl;
  middle_ascii = refl;
  tail_ascii = refl;
  middle_begins = record { first = 40; more = codes "n) { for (let j = 0; j < n; j++) { if (j > "; split = refl };
  tail_begins = record { first = 41; more = codes " break; } }\n"; split = refl };
  stops_name = λ rest. refl;
  stops_number = λ rest. record { digits = refl; clean = refl; decimal = refl };
  few = omega arith;
  head_read = function_head_read;
  middle_read = loop_middle_read;
  tail_read = loop_tail_read;
}

pub loop_line_is : (n : List ℕ) → loop_line n ≡ line loop_shape n
loop_line_is n = regrouped (codes "function g") n (codes "(n) { for (let j = 0; j < n; j++) { if (j > ") (codes ") break; } }\n")

-- an object with a getter
abbrev pub object_shape : Shape
object_shape = record {
  head = codes "var ";
  letter = 0x6F;
  middle = codes " = { get x() { return this.y; }, y: ";
  tail = codes " };\n";
  inside = Block ∷ [];
  head_steps = 2;
  middle_steps = 26;
  tail_steps = 4;
  head_tokens = var_head_tokens;
  middle_tokens = object_middle_tokens;
  tail_tokens = object_tail_tokens;
}

pub is_object_shape : IsShape object_shape
unfolding unicode_ident
is_object_shape = record {
  letter = is_letter_o;
  head_ascii = refl;
  middle_ascii = refl;
  tail_ascii = refl;
  middle_begins = record { first = 32; more = codes "= { get x() { return this.y; }, y: "; split = refl };
  tail_begins = record { first = 32; more = codes "};\n"; split = refl };
  stops_name = λ rest. refl;
  stops_number = λ rest. record { digits = refl; clean = refl; decimal = refl };
  few = omega arith;
  head_read = var_head_read;
  middle_read = object_middle_read;
  tail_read = object_tail_read;
}

pub object_line_is : (n : List ℕ) → object_line n ≡ line object_shape n
object_line_is n = regrouped (codes "var o") n (codes " = { get x() { return this.y; }, y: ") (codes " };\n")
