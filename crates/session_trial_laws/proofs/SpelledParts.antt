-- The parts of the generated lines that are spelled out, each with its tokens.
use Rattle.std.proofs.Common.{◌≡◌, ℕ, ◌+◌, List, [], ◌∷◌, ◌++◌, length, Bool, true, false, codes, refl}
use Rattle.unicode_ident.proofs.Computing.{unicode_ident}
use Rattle.script_grammar.specs.declared.token.Kind.TheVariants as kind
use Rattle.script_grammar.specs.declared.token.word.TheConstants as word
use Rattle.script_grammar.specs.declared.token.mark.TheConstants as mark
use Rattle.script_grammar.specs.Lexeme.{Lexeme}
use Rattle.unit_text.specs.Points.{points_from}
use Rattle.script_scanner.specs.declared.braces.Brace.TheVariants.{Block}
use Rattle.script_scanner.specs.Marks.{mark_at}
use Rattle.script_scanner.specs.Tokens.{Text, Number, Nothing, token_at}
use Rattle.script_scanner.specs.Words.{word_at}
use Rattle.session_trial_laws.proofs.Scanning.{more, scan, spelled, token_of}

-- Tokens by their places after the offset of the part.

abbrev mark_of : ℕ → ℕ → ℕ → Lexeme
mark_of i at k = token_of (kind.Mark i) Nothing (at + k) (at + (k + 1)) false

abbrev double_mark_of : ℕ → ℕ → ℕ → Lexeme
double_mark_of i at k = token_of (kind.Mark i) Nothing (at + k) (at + (k + 2)) false

abbrev word_of : ℕ → List ℕ → ℕ → ℕ → Lexeme
word_of i text at k = token_of (kind.Word i) (Text text) (at + k) (at + (k + length text)) false

abbrev name_of : List ℕ → ℕ → ℕ → Lexeme
name_of text at k = token_of kind.Name (Text text) (at + k) (at + (k + length text)) false

abbrev number_of : ℕ → ℕ → ℕ → Lexeme
number_of n at k = token_of kind.Number (Number n) (at + k) (at + (k + 1)) false

-- the word that begins a line
abbrev pub function_head_tokens : ℕ → Bool → List Lexeme
function_head_tokens at after = token_of (kind.Word word.FUNCTION) (Text (codes "function")) (at + 0) (at + 8) after ∷ []

pub function_head_read : (fuel to at : ℕ) (after : Bool) (rest : List ℕ)
    → scan (more 2 fuel) to [] after (points_from at (codes "function " ++ rest)) ≡ function_head_tokens at after ++ scan fuel to [] false (points_from (at + 9) rest)
unfolding token_at mark_at word_at unicode_ident
function_head_read fuel to at after rest = spelled fuel 2 to at [] [] after false (codes "function ") rest (function_head_tokens at after) refl (λ ps. refl)

abbrev pub var_head_tokens : ℕ → Bool → List Lexeme
var_head_tokens at after = token_of (kind.Word word.VAR) (Text (codes "var")) (at + 0) (at + 3) after ∷ []

pub var_head_read : (fuel to at : ℕ) (after : Bool) (rest : List ℕ)
    → scan (more 2 fuel) to [] after (points_from at (codes "var " ++ rest)) ≡ var_head_tokens at after ++ scan fuel to [] false (points_from (at + 4) rest)
unfolding token_at mark_at word_at unicode_ident
var_head_read fuel to at after rest = spelled fuel 2 to at [] [] after false (codes "var ") rest (var_head_tokens at after) refl (λ ps. refl)

abbrev pub function_middle_tokens : ℕ → List Lexeme
function_middle_tokens at =
    mark_of mark.OPEN_PAREN at 0 ∷
    name_of (codes "a") at 1 ∷
    mark_of mark.COMMA at 2 ∷
    name_of (codes "b") at 4 ∷
    mark_of mark.CLOSE_PAREN at 5 ∷
    mark_of mark.OPEN_BRACE at 7 ∷
    word_of word.RETURN (codes "return") at 9 ∷
    name_of (codes "a") at 16 ∷
    mark_of mark.PLUS at 18 ∷
    name_of (codes "b") at 20 ∷
    mark_of mark.TIMES at 22 ∷ []

pub function_middle_read : (fuel to at : ℕ) (rest : List ℕ)
    → scan (more 19 fuel) to [] false (points_from at (codes "(a, b) { return a + b * " ++ rest)) ≡ function_middle_tokens at ++ scan fuel to (Block ∷ []) false (points_from (at + 24) rest)
unfolding token_at mark_at word_at unicode_ident
function_middle_read fuel to at rest = spelled fuel 19 to at [] (Block ∷ []) false false (codes "(a, b) { return a + b * ") rest (function_middle_tokens at) refl (λ ps. refl)

abbrev pub function_tail_tokens : ℕ → List Lexeme
function_tail_tokens at =
    mark_of mark.SEMICOLON at 0 ∷
    mark_of mark.CLOSE_BRACE at 2 ∷ []

pub function_tail_read : (fuel to at : ℕ) (rest : List ℕ)
    → scan (more 4 fuel) to (Block ∷ []) false (points_from at (codes "; }\n" ++ rest)) ≡ function_tail_tokens at ++ scan fuel to [] true (points_from (at + 4) rest)
unfolding token_at mark_at word_at unicode_ident
function_tail_read fuel to at rest = spelled fuel 4 to at (Block ∷ []) [] false true (codes "; }\n") rest (function_tail_tokens at) refl (λ ps. refl)

abbrev pub counter_middle_tokens : ℕ → List Lexeme
counter_middle_tokens at =
    mark_of mark.ASSIGN at 1 ∷
    word_of word.FUNCTION (codes "function") at 3 ∷
    mark_of mark.OPEN_PAREN at 12 ∷
    mark_of mark.CLOSE_PAREN at 13 ∷
    mark_of mark.OPEN_BRACE at 15 ∷
    word_of word.VAR (codes "var") at 17 ∷
    name_of (codes "c") at 21 ∷
    mark_of mark.ASSIGN at 23 ∷ []

pub counter_middle_read : (fuel to at : ℕ) (rest : List ℕ)
    → scan (more 16 fuel) to [] false (points_from at (codes " = function () { var c = " ++ rest)) ≡ counter_middle_tokens at ++ scan fuel to (Block ∷ []) false (points_from (at + 25) rest)
unfolding token_at mark_at word_at unicode_ident
counter_middle_read fuel to at rest = spelled fuel 16 to at [] (Block ∷ []) false false (codes " = function () { var c = ") rest (counter_middle_tokens at) refl (λ ps. refl)

abbrev pub counter_tail_tokens : ℕ → List Lexeme
counter_tail_tokens at =
    mark_of mark.SEMICOLON at 0 ∷
    word_of word.RETURN (codes "return") at 2 ∷
    mark_of mark.OPEN_PAREN at 9 ∷
    mark_of mark.CLOSE_PAREN at 10 ∷
    double_mark_of mark.ARROW at 12 ∷
    name_of (codes "c") at 15 ∷
    double_mark_of mark.INCREMENT at 16 ∷
    mark_of mark.SEMICOLON at 18 ∷
    mark_of mark.CLOSE_BRACE at 20 ∷
    mark_of mark.SEMICOLON at 21 ∷ []

pub counter_tail_read : (fuel to at : ℕ) (rest : List ℕ)
    → scan (more 16 fuel) to (Block ∷ []) false (points_from at (codes "; return () => c++; };\n" ++ rest)) ≡ counter_tail_tokens at ++ scan fuel to [] true (points_from (at + 23) rest)
unfolding token_at mark_at word_at unicode_ident
counter_tail_read fuel to at rest = spelled fuel 16 to at (Block ∷ []) [] false true (codes "; return () => c++; };\n") rest (counter_tail_tokens at) refl (λ ps. refl)

abbrev pub loop_middle_tokens : ℕ → List Lexeme
loop_middle_tokens at =
    mark_of mark.OPEN_PAREN at 0 ∷
    name_of (codes "n") at 1 ∷
    mark_of mark.CLOSE_PAREN at 2 ∷
    mark_of mark.OPEN_BRACE at 4 ∷
    word_of word.FOR (codes "for") at 6 ∷
    mark_of mark.OPEN_PAREN at 10 ∷
    word_of word.LET (codes "let") at 11 ∷
    name_of (codes "j") at 15 ∷
    mark_of mark.ASSIGN at 17 ∷
    number_of 0 at 19 ∷
    mark_of mark.SEMICOLON at 20 ∷
    name_of (codes "j") at 22 ∷
    mark_of mark.LESS at 24 ∷
    name_of (codes "n") at 26 ∷
    mark_of mark.SEMICOLON at 27 ∷
    name_of (codes "j") at 29 ∷
    double_mark_of mark.INCREMENT at 30 ∷
    mark_of mark.CLOSE_PAREN at 32 ∷
    mark_of mark.OPEN_BRACE at 34 ∷
    word_of word.IF (codes "if") at 36 ∷
    mark_of mark.OPEN_PAREN at 39 ∷
    name_of (codes "j") at 40 ∷
    mark_of mark.GREATER at 42 ∷ []

pub loop_middle_read : (fuel to at : ℕ) (rest : List ℕ)
    → scan (more 38 fuel) to [] false (points_from at (codes "(n) { for (let j = 0; j < n; j++) { if (j > " ++ rest)) ≡ loop_middle_tokens at ++ scan fuel to (Block ∷ Block ∷ []) false (points_from (at + 44) rest)
unfolding token_at mark_at word_at unicode_ident
loop_middle_read fuel to at rest = spelled fuel 38 to at [] (Block ∷ Block ∷ []) false false (codes "(n) { for (let j = 0; j < n; j++) { if (j > ") rest (loop_middle_tokens at) refl (λ ps. refl)

abbrev pub loop_tail_tokens : ℕ → List Lexeme
loop_tail_tokens at =
    mark_of mark.CLOSE_PAREN at 0 ∷
    word_of word.BREAK (codes "break") at 2 ∷
    mark_of mark.SEMICOLON at 7 ∷
    mark_of mark.CLOSE_BRACE at 9 ∷
    mark_of mark.CLOSE_BRACE at 11 ∷ []

pub loop_tail_read : (fuel to at : ℕ) (rest : List ℕ)
    → scan (more 9 fuel) to (Block ∷ Block ∷ []) false (points_from at (codes ") break; } }\n" ++ rest)) ≡ loop_tail_tokens at ++ scan fuel to [] true (points_from (at + 13) rest)
unfolding token_at mark_at word_at unicode_ident
loop_tail_read fuel to at rest = spelled fuel 9 to at (Block ∷ Block ∷ []) [] false true (codes ") break; } }\n") rest (loop_tail_tokens at) refl (λ ps. refl)

abbrev pub object_middle_tokens : ℕ → List Lexeme
object_middle_tokens at =
    mark_of mark.ASSIGN at 1 ∷
    mark_of mark.OPEN_BRACE at 3 ∷
    name_of (codes "get") at 5 ∷
    name_of (codes "x") at 9 ∷
    mark_of mark.OPEN_PAREN at 10 ∷
    mark_of mark.CLOSE_PAREN at 11 ∷
    mark_of mark.OPEN_BRACE at 13 ∷
    word_of word.RETURN (codes "return") at 15 ∷
    word_of word.THIS (codes "this") at 22 ∷
    mark_of mark.DOT at 26 ∷
    name_of (codes "y") at 27 ∷
    mark_of mark.SEMICOLON at 28 ∷
    mark_of mark.CLOSE_BRACE at 30 ∷
    mark_of mark.COMMA at 31 ∷
    name_of (codes "y") at 33 ∷
    mark_of mark.COLON at 34 ∷ []

pub object_middle_read : (fuel to at : ℕ) (rest : List ℕ)
    → scan (more 26 fuel) to [] false (points_from at (codes " = { get x() { return this.y; }, y: " ++ rest)) ≡ object_middle_tokens at ++ scan fuel to (Block ∷ []) false (points_from (at + 36) rest)
unfolding token_at mark_at word_at unicode_ident
object_middle_read fuel to at rest = spelled fuel 26 to at [] (Block ∷ []) false false (codes " = { get x() { return this.y; }, y: ") rest (object_middle_tokens at) refl (λ ps. refl)

abbrev pub object_tail_tokens : ℕ → List Lexeme
object_tail_tokens at =
    mark_of mark.CLOSE_BRACE at 1 ∷
    mark_of mark.SEMICOLON at 2 ∷ []

pub object_tail_read : (fuel to at : ℕ) (rest : List ℕ)
    → scan (more 4 fuel) to (Block ∷ []) false (points_from at (codes " };\n" ++ rest)) ≡ object_tail_tokens at ++ scan fuel to [] true (points_from (at + 4) rest)
unfolding token_at mark_at word_at unicode_ident
object_tail_read fuel to at rest = spelled fuel 4 to at (Block ∷ []) [] false true (codes " };\n") rest (object_tail_tokens at) refl (λ ps. refl)
