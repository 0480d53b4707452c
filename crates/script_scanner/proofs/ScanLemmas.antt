-- How far a text is scanned.
use Rattle.std.proofs.Common.{◌≡◌, ℕ, ◌+◌, ◌-◌, ◌<◌, ◌≤◌, inl, inr, zero, suc, List, [], ◌∷◌, ◌++◌, map, length, drop, Bool, true, false, refl, sym, ◌∙◌, ap, subst, arith, append_assoc, length-append, length-drop}
use Rattle.std.specs.Prelude.{Option, Some, None, ◌||◌, not, slice_get, nat_eq}
use Rattle.std.specs.List.{AllByRecursion}
use Rattle.std.proofs.lemmas.Bool.{false≢true}
use Rattle.std.proofs.Math.Dec.{eqb-suc-zero}
use Rattle.std.proofs.lemmas.List.{append-nil}
use Rattle.script_grammar.specs.declared.token.Token.{Token}
use Rattle.script_grammar.specs.declared.token.Kind.{Kind}
use Rattle.unit_text.specs.declared.Point.{Point}
use Rattle.unit_text.specs.Points.{code_of}
use Rattle.script_scanner.specs.declared.blanks.Blank.{Blank}
use Rattle.script_scanner.specs.declared.braces.Brace.{Brace}
use Rattle.script_scanner.specs.declared.pieces.FoundToken.{FoundToken}
use Rattle.script_scanner.specs.declared.pieces.Content.{Content}
use Rattle.script_scanner.specs.declared.pieces.Content.TheVariants as content
use Rattle.script_scanner.specs.declared.scanning.Scanner.{Scanner}
use Rattle.script_scanner.proofs.KindLemmas.{piece_no_last}
use Rattle.script_scanner.proofs.Lists.{drop_drop}
use Rattle.script_scanner.specs.Advances.{TakesValue, TakesToken, EndsWith, LastAfter, rest_after, Moves}
use Rattle.script_scanner.specs.Blanks.{blank_at}
use Rattle.script_scanner.specs.Braces.{in_substitution}
use Rattle.script_scanner.specs.Reads.{FindsPiece, HoldsValue}
use Rattle.script_scanner.specs.Stands.{HasValue, StandsFor, StandFor, IsValueAmong, GainsOnly, Keeps, is_last, AreNoLast, HasOneLast}
use Rattle.script_scanner.specs.Tokens.{Lexed, Piece, Value, Text, Number, Nothing, front_of, front_at, then_tokens, tokens_within, token_at, last_token, place, braces_after}

module _ {X : Type 0} where
  -- what stands in a list stands there still when more is put after it
  get_old : (xs ys : List X) (i : ℕ) (x : X) → slice_get xs i ≡ Some x → slice_get (xs ++ ys) i ≡ Some x
  get_old [] ys i x h = cc
  get_old (a ∷ xs) ys zero x h = h
  get_old (a ∷ xs) ys (suc i) x h = get_old xs ys i x h

  get_last : (xs : List X) (x : X) → slice_get (xs ++ x ∷ []) (length xs) ≡ Some x
  get_last [] x = refl
  get_last (a ∷ xs) x = get_last xs x

-- tokens stand for the same when texts are put after
has_value_still : (texts more : List (List ℕ)) (v : Value) (n : ℕ) → HasValue texts v n → HasValue (texts ++ more) v n
has_value_still texts more (Text units) n h = get_old texts more n units h
has_value_still texts more (Number value) n h = h
has_value_still texts more Nothing n h = h

stands_still : (texts more : List (List ℕ)) (t : Token) (l : Lexed) → StandsFor texts t l → StandsFor (texts ++ more) t l
stands_still texts more t l h = record { kind = h.kind; value = has_value_still texts more l.value t.value h.value; start = h.start; end = h.end; after_line = h.after_line }

stand_still : (texts more : List (List ℕ)) (ts : List Token) (ls : List Lexed) → StandFor texts ts ls → StandFor (texts ++ more) ts ls
stand_still texts more [] [] h = tt
stand_still texts more [] (l ∷ ls) h = h
stand_still texts more (t ∷ ts) [] h = h
stand_still texts more (t ∷ ts) (l ∷ ls) h = (stands_still texts more t l h.0, stand_still texts more ts ls h.1)

stand_append : (texts : List (List ℕ)) (ts us : List Token) (ls ms : List Lexed) → StandFor texts ts ls → StandFor texts us ms → StandFor texts (ts ++ us) (ls ++ ms)
stand_append texts [] us [] ms h k = k
stand_append texts [] us (l ∷ ls) ms h k = absurd h
stand_append texts (t ∷ ts) us [] ms h k = absurd h
stand_append texts (t ∷ ts) us (l ∷ ls) ms h k = (h.0, stand_append texts ts us ls ms h.1 k)

-- texts that tokens gained
among_left : (ls ms : List Lexed) (text : List ℕ) → IsValueAmong ls text → IsValueAmong (ls ++ ms) text
among_left ls ms text (before, token, after, split, is) = (before, token, after ++ ms, ap (λ (xs : List Lexed). xs ++ ms) split ∙ append_assoc before (token ∷ after) ms, is)

among_right : (ls ms : List Lexed) (text : List ℕ) → IsValueAmong ms text → IsValueAmong (ls ++ ms) text
among_right ls ms text (before, token, after, split, is) = (ls ++ before, token, after, ap (λ (xs : List Lexed). ls ++ xs) split ∙ sym (append_assoc ls before (token ∷ after)), is)

all_left : (ls ms : List Lexed) (texts : List (List ℕ)) → AllByRecursion (IsValueAmong ls) texts → AllByRecursion (IsValueAmong (ls ++ ms)) texts
all_left ls ms [] h = tt
all_left ls ms (t ∷ ts) h = (among_left ls ms t h.0, all_left ls ms ts h.1)

all_both : (ls ms : List Lexed) (texts more : List (List ℕ)) → AllByRecursion (IsValueAmong ls) texts → AllByRecursion (IsValueAmong ms) more → AllByRecursion (IsValueAmong (ls ++ ms)) (texts ++ more)
all_both ls ms [] [] h k = tt
all_both ls ms [] (u ∷ us) h k = (among_right ls ms u k.0, all_both ls ms [] us tt k.1)
all_both ls ms (t ∷ ts) more h k = (among_left ls ms t h.0, all_both ls ms ts more h.1 k)

pub gains_nothing : (texts now : List (List ℕ)) (ls : List Lexed) → now ≡ texts → GainsOnly texts now ls
gains_nothing texts now ls same = record { gained = []; grown = same ∙ sym (append-nil texts); are_values = tt }

gains_both : (texts between now : List (List ℕ)) (ls ms : List Lexed) → GainsOnly texts between ls → GainsOnly between now ms → GainsOnly texts now (ls ++ ms)
gains_both texts between now ls ms g h = record {
  gained = g.gained ++ h.gained;
  grown = h.grown ∙ ap (λ (xs : List (List ℕ)). xs ++ h.gained) g.grown ∙ append_assoc texts g.gained h.gained;
  are_values = all_both ls ms g.gained h.gained g.are_values h.are_values;
}

-- the number of a token stands for its value
value_stands : (v : Value) (k : Content) (units : List ℕ) (texts now : List (List ℕ)) (n : ℕ) → HoldsValue v k units → TakesValue k units texts now n → HasValue now v n
value_stands (Text text) content.Units units texts now n holds (inl h) = ap (λ (ts : List (List ℕ)). slice_get ts n) h.1 ∙ h.0 ∙ ap Some holds
value_stands (Text text) content.Units units texts now n holds (inr h) = ap (λ (ts : List (List ℕ)). slice_get ts n) h.2 ∙ ap (λ (k : ℕ). slice_get (texts ++ units ∷ []) k) h.1 ∙ get_last texts units ∙ ap Some holds
value_stands (Text text) (content.Number m) units texts now n holds h = absurd holds
value_stands (Text text) content.Nothing units texts now n holds h = absurd holds
value_stands (Number value) content.Units units texts now n holds h = absurd holds
value_stands (Number value) (content.Number m) units texts now n holds h = h.0 ∙ holds
value_stands (Number value) content.Nothing units texts now n holds h = absurd holds
value_stands Nothing content.Units units texts now n holds h = absurd holds
value_stands Nothing (content.Number m) units texts now n holds h = absurd holds
value_stands Nothing content.Nothing units texts now n holds h = h.0

-- what it gains is its text
value_gains : (v : Value) (k : Content) (units : List ℕ) (texts now : List (List ℕ)) (n : ℕ) (l : Lexed) → HoldsValue v k units → TakesValue k units texts now n → l.value ≡ v → GainsOnly texts now (l ∷ [])
value_gains (Text text) content.Units units texts now n l holds (inl h) is = gains_nothing texts now (l ∷ []) h.1
value_gains (Text text) content.Units units texts now n l holds (inr h) is = record { gained = units ∷ []; grown = h.2; are_values = (([], l, [], refl, is ∙ ap Text (sym holds)), tt) }
value_gains (Text text) (content.Number m) units texts now n l holds h is = absurd holds
value_gains (Text text) content.Nothing units texts now n l holds h is = absurd holds
value_gains (Number value) content.Units units texts now n l holds h is = absurd holds
value_gains (Number value) (content.Number m) units texts now n l holds h is = gains_nothing texts now (l ∷ []) h.1
value_gains (Number value) content.Nothing units texts now n l holds h is = absurd holds
value_gains Nothing content.Units units texts now n l holds h is = absurd holds
value_gains Nothing (content.Number m) units texts now n l holds h is = absurd holds
value_gains Nothing content.Nothing units texts now n l holds h is = gains_nothing texts now (l ∷ []) h.1

one_at_most : (texts now : List (List ℕ)) → now ≡ texts → length now ≤ length texts + 1
one_at_most texts now same = let e : length now ≡ length texts = ap length same in omega (arith, e)

-- a token gains one text at most
value_few : (k : Content) (units : List ℕ) (texts now : List (List ℕ)) (n : ℕ) → TakesValue k units texts now n → length now ≤ length texts + 1
value_few content.Units units texts now n (inl h) = one_at_most texts now h.1
value_few content.Units units texts now n (inr h) = let e : length now ≡ length texts + 1 = ap length h.2 ∙ length-append texts (units ∷ []) in omega (arith, e)
value_few (content.Number m) units texts now n h = one_at_most texts now h.1
value_few content.Nothing units texts now n h = one_at_most texts now h.1

pub rest_some : (n : ℕ) (ls : List Lexed) → 0 < n → ls ≡ rest_after n ls
rest_some zero ls some = absurd (omega (arith, some))
rest_some (suc n) ls some = refl

-- the last token, and no other, is End or Bad
pub some_after : (n : ℕ) (ts : List Token) → 0 < n → AreNoLast ts → LastAfter n ts
some_after zero ts some h = absurd (omega (arith, some))
some_after (suc n) ts some h = h

no_last_after : (n : ℕ) (ts : List Token) → 0 < n → LastAfter n ts → AreNoLast ts
no_last_after zero ts some h = absurd (omega (arith, some))
no_last_after (suc n) ts some h = h

no_last_append : (ts us : List Token) → AreNoLast ts → AreNoLast us → AreNoLast (ts ++ us)
no_last_append [] us h k = k
no_last_append (t ∷ ts) us h k = (h.0, no_last_append ts us h.1 k)

after_append : (n : ℕ) (ts us : List Token) → AreNoLast ts → LastAfter n us → LastAfter n (ts ++ us)
after_append zero ts us h k = record {
  front = ts ++ k.front;
  last = k.last;
  split = ap (λ (xs : List Token). ts ++ xs) k.split ∙ sym (append_assoc ts k.front (k.last ∷ []));
  ends = k.ends;
  others = no_last_append ts k.front h k.others;
}
after_append (suc n) ts us h k = no_last_append ts us h k

last_is_last : (to : ℕ) (after : Bool) (rest : List Point) → is_last (last_token to after rest).kind ≡ true
last_is_last to after [] = refl
last_is_last to after (p ∷ rest) = refl

-- a blank
pub moves_blank : (to : ℕ) (rest : List Point) (tokens : List Token) (braces : List Brace) (after now : Bool) (texts : List (List ℕ)) (blank : Blank)
    → blank_at (map code_of rest) ≡ Some blank → 0 < blank.length → now ≡ after || blank.breaks → Moves to rest tokens tokens braces braces after now texts texts blank.length
moves_blank to rest tokens braces after now texts blank is some breaks = record {
  made = [];
  fresh = [];
  appended = sym (append-nil tokens);
  stand = tt;
  gains = gains_nothing texts texts [] refl;
  last = some_after blank.length [] some tt;
  few = omega arith;
  steps = λ others.
      ap (λ (o : Option Blank). then_tokens to braces after rest (front_of o (token_at (in_substitution braces) (map code_of rest))) others) is
      ∙ ap (λ (a : Bool). others braces a (drop blank.length rest)) (sym breaks)
      ∙ rest_some blank.length (others braces now (drop blank.length rest)) some;
}

moves_piece : (to : ℕ) (rest : List Point) (found : FoundToken) (before now : Scanner) (texts texts_now : List (List ℕ)) (taken : ℕ) (o : Option Piece)
    → TakesToken to rest found before now texts texts_now → taken ≡ found.length → 0 < found.length → blank_at (map code_of rest) ≡ None
    → token_at (in_substitution before.braces.items) (map code_of rest) ≡ o → FindsPiece o (Some found) before.units.items
    → Moves to rest before.tokens.items now.tokens.items before.braces.items now.braces.items before.after_line now.after_line texts texts_now taken
moves_piece to rest found before now texts texts_now taken None t took some bare is finds = absurd finds
moves_piece to rest found before now texts texts_now taken (Some piece) t took some bare is finds =
    let lexed : Lexed = record { kind = piece.kind; value = piece.value; start = place to rest; end = place to (drop piece.length rest); after_line = before.after_line } in
    record {
      made = lexed ∷ [];
      fresh = t.token ∷ [];
      appended = t.appended;
      stand = (
        record {
          kind = t.kind ∙ finds.0;
          value = value_stands piece.value found.content before.units.items texts texts_now t.token.value finds.2 t.value;
          start = t.start;
          end = t.end ∙ ap (λ (n : ℕ). place to (drop n rest)) finds.1;
          after_line = t.after_line;
        },
        tt,
      );
      gains = value_gains piece.value found.content before.units.items texts texts_now t.token.value lexed finds.2 t.value refl;
      last = some_after taken (t.token ∷ []) (omega (arith, took, some)) (ap is_last (t.kind ∙ finds.0) ∙ piece_no_last (in_substitution before.braces.items) (map code_of rest) piece is, tt);
      few = let one : length texts_now ≤ length texts + 1 = value_few found.content before.units.items texts texts_now t.token.value t.value in omega (arith, one, took, some);
      steps = λ others.
          ap (λ (b : Option Blank). then_tokens to before.braces.items before.after_line rest (front_of b (token_at (in_substitution before.braces.items) (map code_of rest))) others) bare
          ∙ ap (λ (p : Option Piece). then_tokens to before.braces.items before.after_line rest (front_of None p) others) is
          ∙ ap (λ (ls : List Lexed). lexed ∷ ls)
          (ap (λ (k : Kind). others (braces_after before.braces.items k) false (drop piece.length rest)) (sym finds.0)
          ∙ ap (λ (bs : List Brace). others bs false (drop piece.length rest)) (sym t.braces)
          ∙ ap (λ (a : Bool). others now.braces.items a (drop piece.length rest)) (sym t.line_before)
          ∙ ap (λ (n : ℕ). others now.braces.items now.after_line (drop n rest)) (sym (took ∙ finds.1))
          ∙ rest_some taken (others now.braces.items now.after_line (drop taken rest)) (omega (arith, took, some)));
    }

-- a token
pub moves_token : (to : ℕ) (rest : List Point) (found : FoundToken) (before now : Scanner) (texts texts_now : List (List ℕ)) (taken : ℕ)
    → TakesToken to rest found before now texts texts_now → taken ≡ found.length → 0 < found.length → blank_at (map code_of rest) ≡ None
    → FindsPiece (token_at (in_substitution before.braces.items) (map code_of rest)) (Some found) before.units.items
    → Moves to rest before.tokens.items now.tokens.items before.braces.items now.braces.items before.after_line now.after_line texts texts_now taken
moves_token to rest found before now texts texts_now taken t took some bare finds =
    moves_piece to rest found before now texts texts_now taken (token_at (in_substitution before.braces.items) (map code_of rest)) t took some bare refl finds

moves_none : (to : ℕ) (rest : List Point) (tokens now : List Token) (braces braces_now : List Brace) (after after_now : Bool) (texts : List (List ℕ)) (units : List ℕ) (o : Option Piece)
    → EndsWith (last_token to after rest) tokens now → blank_at (map code_of rest) ≡ None → token_at (in_substitution braces) (map code_of rest) ≡ o → FindsPiece o None units
    → Moves to rest tokens now braces braces_now after after_now texts texts 0
moves_none to rest tokens now braces braces_now after after_now texts units (Some piece) ends bare is finds = absurd finds
moves_none to rest tokens now braces braces_now after after_now texts units None ends bare is finds = record {
  made = last_token to after rest ∷ [];
  fresh = ends.token ∷ [];
  appended = ends.appended;
  stand = (ends.stands texts, tt);
  gains = gains_nothing texts texts (last_token to after rest ∷ []) refl;
  last = record { front = []; last = ends.token; split = refl; ends = ap is_last (ends.stands texts).kind ∙ last_is_last to after rest; others = tt };
  few = omega arith;
  steps = λ others.
      ap (λ (b : Option Blank). then_tokens to braces after rest (front_of b (token_at (in_substitution braces) (map code_of rest))) others) bare
      ∙ ap (λ (p : Option Piece). then_tokens to braces after rest (front_of None p) others) is;
}

-- the last token
pub moves_end : (to : ℕ) (rest : List Point) (tokens now : List Token) (braces braces_now : List Brace) (after after_now : Bool) (texts : List (List ℕ)) (units : List ℕ) (taken : ℕ)
    → EndsWith (last_token to after rest) tokens now → taken ≡ 0 → blank_at (map code_of rest) ≡ None → FindsPiece (token_at (in_substitution braces) (map code_of rest)) None units
    → Moves to rest tokens now braces braces_now after after_now texts texts taken
moves_end to rest tokens now braces braces_now after after_now texts units taken ends took bare finds =
    subst (λ (n : ℕ). Moves to rest tokens now braces braces_now after after_now texts texts n) (sym took)
    (moves_none to rest tokens now braces braces_now after after_now texts units (token_at (in_substitution braces) (map code_of rest)) ends bare refl finds)

-- what was found under the braces as the code sees them
pub finds_under : (in_template : Bool) (braces seen : List Brace) (codes units : List ℕ) (o p : Option FoundToken) → in_template ≡ in_substitution seen → seen ≡ braces → o ≡ p
    → FindsPiece (token_at in_template codes) o units → FindsPiece (token_at (in_substitution braces) codes) p units
finds_under in_template braces seen codes units o p told same is finds =
    subst (λ (b : Bool). FindsPiece (token_at b codes) p units) (told ∙ ap in_substitution same) (subst (λ (f : Option FoundToken). FindsPiece (token_at in_template codes) f units) is finds)

-- before a step: the tokens so far stand for the first ones, and the rest's follow
pub record IsScanning (to : ℕ) (text : List Point) (at : ℕ) (tokens : List Token) (braces : List Brace) (after : Bool) (texts now : List (List ℕ)) : Type 0 where
  pub within : at ≤ length text
  pub fuel : ℕ
  pub enough : length text < fuel + at
  pub made : List Lexed
  pub stand : StandFor now tokens made
  pub gains : GainsOnly texts now made
  pub no_last : AreNoLast tokens
  pub few : length now ≤ length texts + at
  pub so_far : tokens_within (suc (length text)) to [] false text ≡ made ++ tokens_within fuel to braces after (drop at text)

-- after a step, which took n code points, or none where the last token came
pub record IsStepped (to : ℕ) (text : List Point) (at taken : ℕ) (tokens : List Token) (braces : List Brace) (after : Bool) (texts now : List (List ℕ)) : Type 0 where
  pub within : at + taken ≤ length text
  pub fuel : ℕ
  pub enough : 0 < taken → length text < fuel + (at + taken)
  pub made : List Lexed
  pub stand : StandFor now tokens made
  pub gains : GainsOnly texts now made
  pub last : LastAfter taken tokens
  pub few : length now ≤ length texts + (at + taken)
  pub so_far : tokens_within (suc (length text)) to [] false text ≡ made ++ rest_after taken (tokens_within fuel to braces after (drop (at + taken) text))

scanning_first : (to : ℕ) (text : List Point) (tokens : List Token) (braces : List Brace) (after : Bool) (texts : List (List ℕ)) → tokens ≡ [] → braces ≡ [] → after ≡ false
    → IsScanning to text 0 tokens braces after texts texts
scanning_first to text tokens braces after texts no_tokens no_braces no_line = record {
  within = omega arith;
  fuel = suc (length text);
  enough = omega arith;
  made = [];
  stand = subst (λ (ts : List Token). StandFor texts ts []) (sym no_tokens) tt;
  gains = gains_nothing texts texts [] refl;
  no_last = subst AreNoLast (sym no_tokens) tt;
  few = omega arith;
  so_far = ap (λ (bs : List Brace). tokens_within (suc (length text)) to bs false text) (sym no_braces) ∙ ap (λ (a : Bool). tokens_within (suc (length text)) to braces a text) (sym no_line);
}

unroll : (fuel to : ℕ) (braces : List Brace) (after : Bool) (points : List Point) → 0 < fuel
    → tokens_within fuel to braces after points ≡ then_tokens to braces after points (front_at braces points) (λ o a ps. tokens_within (fuel - 1) to o a ps)
unroll zero to braces after points some = absurd (omega (arith, some))
unroll (suc fuel) to braces after points some =
    ap (λ (k : ℕ). then_tokens to braces after points (front_at braces points) (λ o a ps. tokens_within k to o a ps)) (let e : fuel ≡ suc fuel - 1 = omega arith in e)

stand_grown : (texts between now : List (List ℕ)) (ts us all : List Token) (ls ms : List Lexed) → all ≡ ts ++ us → StandFor between ts ls → StandFor now us ms → GainsOnly between now ms → StandFor now all (ls ++ ms)
stand_grown texts between now ts us all ls ms appended first more gains =
    let still : StandFor now ts ls = subst (λ (xs : List (List ℕ)). StandFor xs ts ls) (sym gains.grown) (stand_still between gains.gained ts ls first) in
    subst (λ (xs : List Token). StandFor now xs (ls ++ ms)) (sym appended) (stand_append now ts us ls ms still more)

stepped : (to : ℕ) (text : List Point) (at taken : ℕ) (tokens tokens_now : List Token) (braces braces_now : List Brace) (after after_now : Bool) (texts between now : List (List ℕ))
    → IsScanning to text at tokens braces after texts between → Moves to (drop at text) tokens tokens_now braces braces_now after after_now between now taken → taken ≤ length (drop at text)
    → IsStepped to text at taken tokens_now braces_now after_now texts now
stepped to text at taken tokens tokens_now braces braces_now after after_now texts between now s m le = record {
  within = let e : length (drop at text) ≡ length text - at = length-drop at text in omega (arith, e, le, s.within);
  fuel = s.fuel - 1;
  enough = λ some. omega (arith, some, s.enough);
  made = s.made ++ m.made;
  stand = stand_grown texts between now tokens m.fresh tokens_now s.made m.made m.appended s.stand m.stand m.gains;
  gains = gains_both texts between now s.made m.made s.gains m.gains;
  last = subst (LastAfter taken) (sym m.appended) (after_append taken tokens m.fresh s.no_last m.last);
  few = omega (arith, s.few, m.few);
  so_far = s.so_far
      ∙ ap (λ (ls : List Lexed). s.made ++ ls) (unroll s.fuel to braces after (drop at text) (omega (arith, s.enough, s.within)) ∙ m.steps (λ o a ps. tokens_within (s.fuel - 1) to o a ps))
      ∙ sym (append_assoc s.made m.made (rest_after taken (tokens_within (s.fuel - 1) to braces_now after_now (drop taken (drop at text)))))
      ∙ ap (λ (ps : List Point). (s.made ++ m.made) ++ rest_after taken (tokens_within (s.fuel - 1) to braces_now after_now ps)) (sym (drop_drop at taken text));
}

pub stepped_behind : (to : ℕ) (text rest : List Point) (at taken : ℕ) (tokens tokens_now : List Token) (braces braces_now : List Brace) (after after_now : Bool) (texts between now : List (List ℕ))
    → rest ≡ drop at text → IsScanning to text at tokens braces after texts between → Moves to rest tokens tokens_now braces braces_now after after_now between now taken → taken ≤ length rest
    → IsStepped to text at taken tokens_now braces_now after_now texts now
stepped_behind to text rest at taken tokens tokens_now braces braces_now after after_now texts between now is s m le =
    stepped to text at taken tokens tokens_now braces braces_now after after_now texts between now s
    (subst (λ (ps : List Point). Moves to ps tokens tokens_now braces braces_now after after_now between now taken) is m) (subst (λ (ps : List Point). taken ≤ length ps) is le)

pub resumed : (to : ℕ) (text : List Point) (at taken : ℕ) (tokens : List Token) (braces : List Brace) (after : Bool) (texts now : List (List ℕ))
    → IsStepped to text at taken tokens braces after texts now → 0 < taken → IsScanning to text (at + taken) tokens braces after texts now
resumed to text at taken tokens braces after texts now s some = record {
  within = s.within;
  fuel = s.fuel;
  enough = s.enough some;
  made = s.made;
  stand = s.stand;
  gains = s.gains;
  no_last = no_last_after taken tokens some s.last;
  few = s.few;
  so_far = s.so_far ∙ ap (λ (ls : List Lexed). s.made ++ ls) (sym (rest_some taken (tokens_within s.fuel to braces after (drop (at + taken) text)) some));
}

-- between steps: the rest's tokens follow while the scan goes on, and none after the last token
abbrev pub IsAt : Bool → ℕ → List Point → ℕ → List Token → List Brace → Bool → List (List ℕ) → List (List ℕ) → Type 0
IsAt true to text at tokens braces after texts now = IsScanning to text at tokens braces after texts now
IsAt false to text at tokens braces after texts now = IsStepped to text at 0 tokens braces after texts now

pub record IsRunning (goes_on : Bool) (to : ℕ) (text : List Point) (at : ℕ) (tokens : List Token) (braces : List Brace) (after : Bool) (texts now : List (List ℕ)) : Type 0 where
  pub within : at ≤ length text
  pub few : length now ≤ length texts + at
  pub gained : (made : List Lexed) × GainsOnly texts now made
  pub state : IsAt goes_on to text at tokens braces after texts now

pub running_first : (to : ℕ) (text : List Point) (tokens : List Token) (braces : List Brace) (after : Bool) (texts : List (List ℕ)) → tokens ≡ [] → braces ≡ [] → after ≡ false
    → IsRunning true to text 0 tokens braces after texts texts
running_first to text tokens braces after texts no_tokens no_braces no_line =
    let first : IsScanning to text 0 tokens braces after texts texts = scanning_first to text tokens braces after texts no_tokens no_braces no_line in
    record { within = first.within; few = first.few; gained = (first.made, first.gains); state = first }

running_on : (to : ℕ) (text : List Point) (at taken : ℕ) (tokens : List Token) (braces : List Brace) (after : Bool) (texts now : List (List ℕ)) (goes_on : Bool) → goes_on ≡ not (nat_eq taken 0)
    → IsStepped to text at taken tokens braces after texts now → IsAt goes_on to text (at + taken) tokens braces after texts now
running_on to text at zero tokens braces after texts now true e s = absurd (false≢true (sym e))
running_on to text at zero tokens braces after texts now false e s =
    subst (λ (n : ℕ). IsStepped to text n 0 tokens braces after texts now) (omega arith) s
running_on to text at (suc taken) tokens braces after texts now true e s = resumed to text at (suc taken) tokens braces after texts now s (omega arith)
running_on to text at (suc taken) tokens braces after texts now false e s = absurd (false≢true (e ∙ ap not (eqb-suc-zero taken)))

pub running_more : (to : ℕ) (text rest : List Point) (at taken : ℕ) (tokens tokens_now : List Token) (braces braces_now : List Brace) (after after_now : Bool) (texts between now : List (List ℕ)) (went_on goes_on : Bool)
    → rest ≡ drop at text → went_on ≡ true → IsRunning went_on to text at tokens braces after texts between → Moves to rest tokens tokens_now braces braces_now after after_now between now taken
    → taken ≤ length rest → goes_on ≡ not (nat_eq taken 0) → IsRunning goes_on to text (at + taken) tokens_now braces_now after_now texts now
running_more to text rest at taken tokens tokens_now braces braces_now after after_now texts between now went_on goes_on is went r m le on =
    record { within = s.within; few = s.few; gained = (s.made, s.gains); state = running_on to text at taken tokens_now braces_now after_now texts now goes_on on s }
  where
    s : IsStepped to text at taken tokens_now braces_now after_now texts now
    s = stepped_behind to text rest at taken tokens tokens_now braces braces_now after after_now texts between now is
        (subst (λ (b : Bool). IsAt b to text at tokens braces after texts between) went r.state) m le

-- all tokens
ended : (to : ℕ) (text : List Point) (at : ℕ) (tokens : List Token) (braces : List Brace) (after : Bool) (texts now : List (List ℕ)) (goes_on : Bool)
    → IsRunning goes_on to text at tokens braces after texts now → goes_on ≡ false → IsStepped to text at 0 tokens braces after texts now
ended to text at tokens braces after texts now goes_on r none = subst (λ (b : Bool). IsAt b to text at tokens braces after texts now) none r.state

all_made : (to : ℕ) (text : List Point) (at : ℕ) (tokens : List Token) (braces : List Brace) (after : Bool) (texts now : List (List ℕ))
    → (s : IsStepped to text at 0 tokens braces after texts now) → s.made ≡ tokens_within (suc (length text)) to [] false text
all_made to text at tokens braces after texts now s = sym (s.so_far ∙ append-nil s.made)

pub all_stand : (to : ℕ) (text : List Point) (at : ℕ) (tokens : List Token) (braces : List Brace) (after : Bool) (texts now : List (List ℕ)) (goes_on : Bool)
    → IsRunning goes_on to text at tokens braces after texts now → goes_on ≡ false → StandFor now tokens (tokens_within (suc (length text)) to [] false text)
all_stand to text at tokens braces after texts now goes_on r none =
    let s : IsStepped to text at 0 tokens braces after texts now = ended to text at tokens braces after texts now goes_on r none in
    subst (λ (ls : List Lexed). StandFor now tokens ls) (all_made to text at tokens braces after texts now s) s.stand

pub all_gained : (to : ℕ) (text : List Point) (at : ℕ) (tokens : List Token) (braces : List Brace) (after : Bool) (texts now : List (List ℕ)) (goes_on : Bool)
    → IsRunning goes_on to text at tokens braces after texts now → goes_on ≡ false → GainsOnly texts now (tokens_within (suc (length text)) to [] false text)
all_gained to text at tokens braces after texts now goes_on r none =
    let s : IsStepped to text at 0 tokens braces after texts now = ended to text at tokens braces after texts now goes_on r none in
    subst (λ (ls : List Lexed). GainsOnly texts now ls) (all_made to text at tokens braces after texts now s) s.gains

pub all_last : (to : ℕ) (text : List Point) (at : ℕ) (tokens : List Token) (braces : List Brace) (after : Bool) (texts now : List (List ℕ)) (goes_on : Bool)
    → IsRunning goes_on to text at tokens braces after texts now → goes_on ≡ false → HasOneLast tokens
all_last to text at tokens braces after texts now goes_on r none = (ended to text at tokens braces after texts now goes_on r none).last

-- what was kept by both
pub keeps_both : (texts between now : List (List ℕ)) (ls : List Lexed) → GainsOnly texts between ls → Keeps between now → Keeps texts now
keeps_both texts between now ls gains kept = (gains.gained ++ kept.0, kept.1 ∙ ap (λ (xs : List (List ℕ)). xs ++ kept.0) gains.grown ∙ append_assoc texts gains.gained kept.0)
