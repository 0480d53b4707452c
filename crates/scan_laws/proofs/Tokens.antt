-- The tokens of a part of a text: no text of theirs has more units than the code points of the part.
use Rattle.std.proofs.Common.{◌≡◌, ℕ, zero, suc, ◌≤◌, List, [], ◌∷◌, map, length, drop, Bool, false, Option, Some, None, Contains, subst, sym, ap, ◌∙◌, arith}
use Rattle.std.specs.Prelude.{◌==◌, nat_le, nat_lt, ◌&&◌}
use Rattle.std.specs.List.{AllByRecursion}
use Rattle.std.proofs.lemmas.List.Elements.{All-from_recursion}
use Rattle.unit_text.specs.declared.Point.{Point}
use Rattle.unit_text.specs.Points.{code_of}
use Rattle.unit_text.specs.Units.{text_units}
use Rattle.script_scanner.specs.declared.blanks.Blank.{Blank}
use Rattle.script_scanner.specs.declared.braces.Brace.{Brace}
use Rattle.script_scanner.specs.Blanks.{blank_at, first_line_length}
use Rattle.script_scanner.specs.Braces.{in_substitution}
use Rattle.script_scanner.specs.Tokens.{Value, Text, Number, Nothing, Piece, Lexed, front_of, token_at, then_tokens, tokens_within, last_token, part, without_first_line, tokens}
use Rattle.script_scanner.proofs.Lists.{map_drop}
use Rattle.scan_laws.proofs.Units.{either, rest_short, passing_short}
use Rattle.scan_laws.proofs.Pieces.{ValueShort, PieceShort, token_short}

-- how many units the code points of points are
abbrev pub units_of : List Point → ℕ
units_of ps = length (text_units (map code_of ps))

-- each of the tokens has a text of n units at most, or none
abbrev pub LexedShort : ℕ → List Lexed → Type 0
LexedShort bound ts = AllByRecursion (λ t. ValueShort bound t.value) ts

piece_lower : (less more : ℕ) (o : Option Piece) → less ≤ more → PieceShort less o → PieceShort more o
piece_lower less more None le h = record { is = tt }
piece_lower less more (Some piece) le h = record { is = by piece.value h.is }
  where
    by : (v : Value) → ValueShort less v → ValueShort more v
    by (Text units) k = omega (arith, k, le)
    by (Number value) k = tt
    by Nothing k = tt

rest_units : (n : ℕ) (ps : List Point) → units_of (drop n ps) ≤ units_of ps
rest_units n ps = subst (λ (cs : List ℕ). length (text_units cs) ≤ length (text_units (map code_of ps))) (sym (map_drop code_of n ps)) (rest_short n (map code_of ps))

last_short : (bound to : ℕ) (after : Bool) (ps : List Point) → LexedShort bound (last_token to after ps ∷ [])
last_short bound to after [] = (tt, tt)
last_short bound to after (p ∷ ps) = (tt, tt)

step_short : (bound to : ℕ) (braces : List Brace) (after : Bool) (ps : List Point) (blank : Option Blank) (piece : Option Piece) (rest : List Brace → Bool → List Point → List Lexed) → PieceShort bound piece
    → ((n : ℕ) (o : List Brace) (a : Bool) → LexedShort bound (rest o a (drop n ps))) → LexedShort bound (then_tokens to braces after ps (front_of blank piece) rest)
step_short bound to braces after ps (Some blank) piece rest h k = k blank.length _ _
step_short bound to braces after ps None (Some piece) rest h k = (h.is, k piece.length _ _)
step_short bound to braces after ps None None rest h k = last_short bound to after ps

tokens_within_short : (fuel bound to : ℕ) (braces : List Brace) (after : Bool) (ps : List Point) → units_of ps ≤ bound → LexedShort bound (tokens_within fuel to braces after ps)
tokens_within_short zero bound to braces after ps le = tt
tokens_within_short (suc fuel) bound to braces after ps le =
    step_short bound to braces after ps (blank_at (map code_of ps)) (token_at (in_substitution braces) (map code_of ps)) (λ o a qs. tokens_within fuel to o a qs)
    (piece_lower (units_of ps) bound (token_at (in_substitution braces) (map code_of ps)) le (token_short (in_substitution braces) (map code_of ps)))
    (λ n o a. tokens_within_short fuel bound to o a (drop n ps) (let less : units_of (drop n ps) ≤ units_of ps = rest_units n ps in omega (arith, less, le)))

first_line_short : (bound from : ℕ) (ps : List Point) → units_of ps ≤ bound → units_of (without_first_line from ps) ≤ bound
first_line_short bound from ps le = either (λ (qs : List Point). units_of qs ≤ bound) (from == 0) (drop (first_line_length (map code_of ps)) ps) ps
    (let less : units_of (drop (first_line_length (map code_of ps)) ps) ≤ units_of ps = rest_units (first_line_length (map code_of ps)) ps in omega (arith, less, le)) le

-- the tokens between two offsets, by the points there
pub tokens_short : (bound : ℕ) (ps : List Point) (from to : ℕ) → units_of (part from to ps) ≤ bound → LexedShort bound (tokens ps from to)
tokens_short bound ps from to le =
    tokens_within_short (suc (length (without_first_line from (part from to ps)))) bound to [] false (without_first_line from (part from to ps)) (first_line_short bound from (part from to ps) le)

-- a part has no more units than the whole
pub part_units : (from to : ℕ) (ps : List Point) → units_of (part from to ps) ≤ units_of ps
part_units from to ps = passing_short (λ p. nat_le from p.start && nat_lt p.start to) ps

-- one of such tokens
pub among_short : (bound : ℕ) (ts : List Lexed) (t : Lexed) (units : List ℕ) → LexedShort bound ts → Contains ts t → t.value ≡ Text units → length units ≤ bound
among_short bound ts t units h c is = subst (ValueShort bound) (ap (λ (l : Lexed). l.value) c.2 ∙ is) (All-from_recursion (λ (l : Lexed). ValueShort bound l.value) ts h c.0 t c.1)

-- no text of a token has more units than the code points that were scanned
pub token_texts_within : (ps : List Point) (from to : ℕ) (t : Lexed) (units : List ℕ) → Contains (tokens ps from to) t → t.value ≡ Text units → length units ≤ length (text_units (map code_of (part from to ps)))
token_texts_within ps from to t units c is = among_short (units_of (part from to ps)) (tokens ps from to) t units (tokens_short (units_of (part from to ps)) ps from to (omega arith)) c is
