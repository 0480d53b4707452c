-- A name or a string whose text has an atom.
use Rattle.std.proofs.Common.{◌≡◌, ℕ, ◌+◌, ◌<◌, ◌≤◌, ◌^◌, zero, suc, List, [], ◌∷◌, ◌++◌, map, length, take, drop, get_or, Bool, true, false, cond, refl, sym, ◌∙◌, ap, subst, arith, inl, inr, eq-eqb}
use Rattle.std.specs.Prelude.{Option, Some, None, option_map, slice_get, not, ◌==◌, ◌||◌}
use Rattle.std.specs.List.{prefix_len}
use Rattle.std.proofs.Math.ListN.{drop_of_length-le}
use Rattle.std.proofs.lemmas.List.{length-map}
use Rattle.std.proofs.lemmas.Bool.{cases_Bool, eqb-true, false≢true, le-leb}
use Rattle.std.proofs.Math.Dec.{leb}
use Rattle.script_grammar.specs.declared.token.Kind.{Kind}
use Rattle.script_grammar.specs.declared.token.Kind.TheVariants as kind
use Rattle.unit_text.specs.declared.Point.{Point}
use Rattle.unit_text.specs.Points.{code_of}
use Rattle.unit_text.specs.Units.{code_units, text_units}
use Rattle.script_scanner.specs.declared.blanks.Blank.{Blank}
use Rattle.script_scanner.specs.declared.braces.Brace.{Brace}
use Rattle.script_scanner.specs.declared.escapes.Step.{Step}
use Rattle.script_scanner.specs.declared.escapes.Step.TheVariants.{Add, Close, Break}
use Rattle.script_scanner.specs.declared.known.KnownToken.{KnownToken}
use Rattle.script_scanner.specs.declared.parts.Ending.TheVariants as ending
use Rattle.script_scanner.specs.declared.pieces.FoundToken.{FoundToken}
use Rattle.script_scanner.specs.declared.scanning.Scanner.{Scanner}
use Rattle.script_scanner.specs.Advances.{Moves}
use Rattle.script_scanner.specs.Blanks.{blank_at, first_is}
use Rattle.script_scanner.specs.Braces.{in_substitution}
use Rattle.script_scanner.specs.Escapes.{escape_step}
use Rattle.script_scanner.specs.Fronts.{BeginsName, IsQuoted}
use Rattle.script_scanner.specs.Known.{IsKnown, TakesKnown, known_piece}
use Rattle.script_scanner.specs.Names.{name_length}
use Rattle.script_scanner.specs.Parts.{Body, behind, body_of, body_within, is_plain, string_step, then_body}
use Rattle.script_scanner.specs.Reads.{FindsPiece}
use Rattle.script_scanner.specs.Stands.{is_last}
use Rattle.script_scanner.specs.Tokens.{Lexed, Piece, Text, front_of, then_tokens, token_at, name_kind, name_piece, string_piece, place, braces_after}
use Rattle.script_scanner.specs.Words.{word_at, word_index}
use Rattle.script_scanner.proofs.KindLemmas.{piece_no_last}
use Rattle.script_scanner.proofs.Lists.{read_at, map_take, map_drop}
use Rattle.script_scanner.proofs.PieceLemmas.{token_is_name}
use Rattle.script_scanner.proofs.ScanLemmas.{gains_nothing, rest_some, some_after}

-- a code point below 10000 is its own unit
one_unit : (c : ℕ) → c < 2 ^ 16 → code_units c ≡ c ∷ []
one_unit c low = let few : leb c 0xFFFF ≡ true = le-leb c 0xFFFF (omega (arith, low)) in cc

-- one more unit that is the same
pub unit_more : (points : List Point) (units : List ℕ) (at : ℕ) (p : Point) (u : ℕ) → at < length units → drop at points ≡ p ∷ drop (at + 1) points → u ≡ get_or units at u
    → p.code ≡ u → u < 2 ^ 16 → (text_units (map code_of (drop at points)) ≡ drop at units → text_units (map code_of points) ≡ units)
    → text_units (map code_of (drop (at + 1) points)) ≡ drop (at + 1) units → text_units (map code_of points) ≡ units
unit_more points units at p u lt_units read read_unit same low before rest =
    before
    (ap (λ ps. text_units (map code_of ps)) read
    ∙ ap (λ us. us ++ text_units (map code_of (drop (at + 1) points))) (one_unit p.code (omega (arith, same, low)))
    ∙ ap (λ us. p.code ∷ us) rest
    ∙ ap (λ n. n ∷ drop (at + 1) units) same
    ∙ sym (read_at units at u lt_units read_unit))

pub units_all : (points : List Point) (units : List ℕ) (at : ℕ) → length units ≤ at → length points ≡ length units
    → (text_units (map code_of (drop at points)) ≡ drop at units → text_units (map code_of points) ≡ units) → text_units (map code_of points) ≡ units
units_all points units at all same before =
    before (ap (λ ps. text_units (map code_of ps)) (drop_of_length-le points (omega (arith, all, same))) ∙ sym (drop_of_length-le units all))

-- a name closes and opens nothing
braces_still : (braces : List Brace) (word : Option ℕ) → braces_after braces (name_kind word) ≡ braces
braces_still braces None = refl
braces_still braces (Some i) = refl

abbrev text_piece : Kind → List ℕ → ℕ → Piece
text_piece k text n = record { kind = k; value = Text text; length = n }

piece_is : (k l : Kind) (t u : List ℕ) (n m : ℕ) → k ≡ l → t ≡ u → n ≡ m → text_piece k t n ≡ text_piece l u m
piece_is k l t u n m e f g = ap (λ x. text_piece x t n) e ∙ ap (λ x. text_piece l x n) f ∙ ap (λ x. text_piece l u x) g

-- a name that was compared with the text at an atom
pub known_name_is : (texts : List (List ℕ)) (points name : List Point) (units : List ℕ) (atom n : ℕ) (k : Kind) → BeginsName (map code_of points)
    → n ≡ name_length (map code_of points) → 0 < n → name ≡ take n points → text_units (map code_of name) ≡ units → slice_get texts atom ≡ Some units
    → k ≡ name_kind (option_map word_index (word_at units)) → IsKnown texts (map code_of points) (record { kind = k; atom = atom; length = n })
known_name_is texts [] name units atom n k begins long some front same at is = absurd begins
known_name_is texts (first ∷ others) name units atom n k begins long some front same at is =
    let points = first ∷ others in
    let codes = map code_of points in
    let text : text_units (take (name_length codes) codes) ≡ units =
    sym (sym same ∙ ap (λ ps. text_units (map code_of ps)) front ∙ ap text_units (map_take code_of n points) ∙ ap (λ i. text_units (take i codes)) long) in
    record {
      text = units;
      token = λ in_template. token_is_name in_template first.code (map code_of others) begins
          ∙ ap Some (piece_is (name_kind (option_map word_index (word_at (text_units (take (name_length codes) codes))))) k (text_units (take (name_length codes) codes)) units (name_length codes) n
          (ap (λ us. name_kind (option_map word_index (word_at us))) text ∙ sym is) text (sym long));
      bare = λ braces. ap (braces_after braces) is ∙ braces_still braces (option_map word_index (word_at units));
      positive = some;
      stands = at;
    }

-- three tests that fail
all_fail : (a b c : Bool) (v w x y : Step) → cond a false (cond b false (not c)) ≡ true → cond a v (cond b w (cond c x y)) ≡ y
all_fail true b c v w x y e = absurd (false≢true e)
all_fail false true c v w x y e = absurd (false≢true e)
all_fail false false true v w x y e = absurd (false≢true e)
all_fail false false false v w x y e = refl

-- a code point that stands for itself
plain_step : (quote c : ℕ) (codes : List ℕ) → is_plain quote c ≡ true → string_step quote (c ∷ codes) ≡ Add c 1
plain_step quote c codes plain = all_fail (c == quote) (c == 0x5C) ((c == 0xA) || (c == 0xD)) _ _ _ _ plain

abbrev closed : List ℕ → ℕ → Body
closed units n = record { units = units; inner = n; closing = 1 }

-- code points that stand for themselves, and then the quote
plain_body : (quote n fuel : ℕ) (codes : List ℕ) → n ≡ prefix_len (λ c. is_plain quote c) codes → first_is quote (drop n codes) ≡ true → n < fuel
    → body_within (ending.Quote quote) fuel codes ≡ Some (closed (text_units (take n codes)) n)
plain_body quote n fuel [] is ends lt = absurd (false≢true (subst (λ (k : ℕ). first_is quote (drop k []) ≡ true) is ends))
plain_body quote n zero (c ∷ codes) is ends lt = absurd (omega (arith, lt))
plain_body quote n (suc fuel) (c ∷ codes) is ends lt =
    let m = prefix_len (λ d. is_plain quote d) codes in
    elim (cases_Bool (is_plain quote c)) as (λ _. body_within (ending.Quote quote) (suc fuel) (c ∷ codes) ≡ Some (closed (text_units (take n (c ∷ codes))) n)) [
      | inl y ↦ let one : 1 + m ≡ suc m = omega arith in
          let e : n ≡ suc m = is ∙ ap (λ (b : Bool). cond b (1 + m) 0) y ∙ one in
          ap (λ (s : Step). then_body s (λ k. body_within (ending.Quote quote) fuel (drop k (c ∷ codes)))) (plain_step quote c codes y)
          ∙ ap (option_map (behind (code_units c) 1)) (plain_body quote m fuel codes refl (subst (λ (k : ℕ). first_is quote (drop k (c ∷ codes)) ≡ true) e ends) (omega (arith, lt, e)))
          ∙ ap (λ (k : ℕ). Some (closed (code_units c ++ text_units (take m codes)) k)) one
          ∙ ap (λ (k : ℕ). Some (closed (text_units (take k (c ∷ codes))) k)) (sym e)
      | inr f ↦ let e : n ≡ 0 = is ∙ ap (λ (b : Bool). cond b (1 + m) 0) f in
          let here : quote ≡ c = eqb-true quote c (subst (λ (k : ℕ). first_is quote (drop k (c ∷ codes)) ≡ true) e ends) in
          ap (λ (b : Bool). then_body (cond b (Close 1) (cond (c == 0x5C) (escape_step codes) (cond ((c == 0xA) || (c == 0xD)) Break (Add c 1)))) (λ k. body_within (ending.Quote quote) fuel (drop k (c ∷ codes)))) (eq-eqb c quote (sym here))
          ∙ ap (λ (k : ℕ). Some (closed (text_units (take k (c ∷ codes))) k)) (sym e)
    ]

-- the string that they make
plain_string : (quote n : ℕ) (codes : List ℕ) → n ≡ prefix_len (λ c. is_plain quote c) codes → first_is quote (drop n codes) ≡ true → n ≤ length codes
    → string_piece (body_of (ending.Quote quote) codes) ≡ Some (text_piece kind.Str (text_units (take n codes)) (1 + n + 1))
unfolding body_of
plain_string quote n codes is ends le = ap string_piece (plain_body quote n (suc (length codes)) codes is ends (omega (arith, le)))

-- a string that was compared with the text at an atom
pub known_string_is : (texts : List (List ℕ)) (points others body rest : List Point) (units : List ℕ) (quote atom n taken : ℕ) → IsQuoted quote (map code_of points)
    → others ≡ drop 1 points → n ≡ prefix_len (λ c. is_plain quote c) (map code_of others) → rest ≡ drop n others → first_is quote (map code_of rest) ≡ true → n ≤ length others
    → body ≡ take n others → text_units (map code_of body) ≡ units → slice_get texts atom ≡ Some units → taken ≡ n + 2
    → IsKnown texts (map code_of points) (record { kind = kind.Str; atom = atom; length = taken })
known_string_is texts [] others body rest units quote atom n taken quoted after long left ends le front same at took = absurd quoted
known_string_is texts (first ∷ points) others body rest units quote atom n taken quoted after long left ends le front same at took =
    let codes = map code_of points in
    let text : text_units (take n codes) ≡ units =
    sym (sym same ∙ ap (λ ps. text_units (map code_of ps)) front ∙ ap (λ ps. text_units (map code_of (take n ps))) after ∙ ap text_units (map_take code_of n points)) in
    let length_is : n ≡ prefix_len (λ c. is_plain quote c) codes = long ∙ ap (λ ps. prefix_len (λ c. is_plain quote c) (map code_of ps)) after in
    let end : first_is quote (drop n codes) ≡ true = subst (λ (cs : List ℕ). first_is quote cs ≡ true) (ap (map code_of) left ∙ ap (λ ps. map code_of (drop n ps)) after ∙ map_drop code_of n points) ends in
    let within : n ≤ length codes = let e : length codes ≡ length points = length-map points code_of in let f : length others ≡ length points = ap length after in omega (arith, le, e, f) in
    record {
      text = units;
      token = λ in_template. quoted in_template ∙ plain_string quote n codes length_is end within
          ∙ ap Some (piece_is kind.Str kind.Str (text_units (take n codes)) units (1 + n + 1) taken refl text (omega (arith, took)));
      bare = λ braces. refl;
      positive = omega (arith, took);
      stands = at;
    }

-- a token that is taken with its atom
pub moves_known : (to : ℕ) (rest : List Point) (known : KnownToken) (before now : Scanner) (texts : List (List ℕ)) (taken : ℕ)
    → IsKnown texts (map code_of rest) known → TakesKnown to rest known before now → taken ≡ known.length → blank_at (map code_of rest) ≡ None
    → Moves to rest before.tokens.items now.tokens.items before.braces.items now.braces.items before.after_line now.after_line texts texts taken
moves_known to rest known before now texts taken is t took bare =
    let codes = map code_of rest in
    let found : token_at (in_substitution before.braces.items) codes ≡ Some (known_piece known is.text) = is.token (in_substitution before.braces.items) in
    let lexed : Lexed = record { kind = known.kind; value = Text is.text; start = place to rest; end = place to (drop known.length rest); after_line = before.after_line } in
    record {
      made = lexed ∷ [];
      fresh = t.token ∷ [];
      appended = t.appended;
      stand = (
        record {
          kind = t.kind;
          value = ap (λ (n : ℕ). slice_get texts n) t.value ∙ is.stands;
          start = t.start;
          end = t.end;
          after_line = t.after_line;
        },
        tt,
      );
      gains = gains_nothing texts texts (lexed ∷ []) refl;
      last = some_after taken (t.token ∷ []) (omega (arith, took, is.positive)) (ap is_last t.kind ∙ piece_no_last (in_substitution before.braces.items) codes (known_piece known is.text) found, tt);
      few = omega arith;
      steps = λ others.
          ap (λ (b : Option Blank). then_tokens to before.braces.items before.after_line rest (front_of b (token_at (in_substitution before.braces.items) codes)) others) bare
          ∙ ap (λ (p : Option Piece). then_tokens to before.braces.items before.after_line rest (front_of None p) others) found
          ∙ ap (λ (ls : List Lexed). lexed ∷ ls)
          (ap (λ (bs : List Brace). others bs false (drop known.length rest)) (is.bare before.braces.items ∙ sym t.braces)
          ∙ ap (λ (a : Bool). others now.braces.items a (drop known.length rest)) (sym t.line_before)
          ∙ ap (λ (n : ℕ). others now.braces.items now.after_line (drop n rest)) (sym took)
          ∙ rest_some taken (others now.braces.items now.after_line (drop taken rest)) (omega (arith, took, is.positive)));
    }

-- a name is the longest token at the front
pub name_found : (in_template : Bool) (codes : List ℕ) (found : FoundToken) (units : List ℕ) → BeginsName codes → FindsPiece (Some (name_piece codes)) (Some found) units
    → FindsPiece (token_at in_template codes) (Some found) units
name_found in_template [] found units begins finds = absurd begins
name_found in_template (c ∷ codes) found units begins finds =
    subst (λ (p : Option Piece). FindsPiece p (Some found) units) (sym (token_is_name in_template c codes begins)) finds
