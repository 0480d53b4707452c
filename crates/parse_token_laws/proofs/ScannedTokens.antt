-- The tokens that the scanner answers for a text, or for a part of one, are those of the text, as a parser takes them.
use Rattle.std.proofs.Common.{◌≡◌, ℕ, zero, suc, ◌^◌, ◌<◌, ◌≤◌, List, [], ◌∷◌, ◌++◌, map, length, drop, filter, Bool, true, false, refl, sym, ◌∙◌, ap, subst, arith, slice_index_or, length-append, length-drop}
use Rattle.std.specs.Prelude.{Option, Some, None, ◌||◌, ◌&&◌, ◌==◌, slice_get, nat_eq, nat_le, nat_lt, if◌then◌else◌}
use Rattle.std.proofs.lemmas.Bool.{eqb-true, eq-eqb}
use Rattle.std.proofs.lemmas.Option.{get_or_from_slice_get}
use Rattle.unit_text.specs.declared.Point.{Point}
use Rattle.unit_text.specs.Points.{code_of}
use Rattle.script_grammar.specs.declared.token.Kind.{Kind}
use Rattle.script_grammar.specs.declared.token.Kind.TheVariants as kind
use Rattle.script_grammar.specs.declared.token.Token.{Token}
use Rattle.script_grammar.specs.Lexeme.{Lexeme, Role, get_role, set_role, no_role, get_text, set_text, same_text, role_of, role_of_text, role_at, text_of, number_of}
use Rattle.script_grammar.specs.Lexeme as token
use Rattle.parser_atoms.specs.Places.{AreWithoutEquals}
use Rattle.parse_exprs.specs.Source.{has_atom, HasAtom, ends_all, IsScanned}
use Rattle.script_scanner.specs.declared.braces.Brace.{Brace}
use Rattle.script_scanner.specs.declared.blanks.Blank.{Blank}
use Rattle.script_scanner.specs.Blanks.{blank_at, first_line_length}
use Rattle.script_scanner.specs.Braces.{in_substitution}
use Rattle.script_scanner.specs.Stands.{HasValue, StandsFor, StandFor, is_last, AreNoLast, HasOneLast}
use Rattle.script_scanner.specs.Tokens.{Value, Text, Number, Nothing, Piece, Lexed, Front, IsBlank, IsToken, IsNeither, front_of, front_at, token_at, then_tokens, tokens_within, tokens, last_token, part, without_first_line, braces_after}
use Rattle.script_scanner.proofs.KindLemmas.{IsText, IsNumber, IsNothing, Suits, PieceSuits, token_suits}
use Rattle.script_scanner.specs.Lexemes.{text_in, number_in, lexeme_of}

-- Each token has a value that suits its kind.

-- as Suits, and the last token has no value
abbrev pub Carries : Kind → Value → Type 0
Carries kind.Bad v = IsNothing v
Carries kind.End v = IsNothing v
Carries k v = Suits k v

abbrev pub AllCarry : List Lexed → Type 0
AllCarry [] = Unit {0}
AllCarry (t ∷ ts) = Carries t.kind t.value × AllCarry ts

abbrev pub FrontSuits : Front → Type 0
FrontSuits (IsBlank blank) = Unit {0}
FrontSuits (IsToken p) = Suits p.kind p.value
FrontSuits IsNeither = Unit {0}

suits_carries : (k : Kind) (v : Value) → Suits k v → Carries k v
suits_carries kind.Name v h = h
suits_carries kind.Number v h = h
suits_carries kind.Str v h = h
suits_carries kind.TemplateWhole v h = h
suits_carries kind.TemplateHead v h = h
suits_carries kind.TemplateMiddle v h = h
suits_carries kind.TemplateTail v h = h
suits_carries (kind.Word i) v h = h
suits_carries (kind.Mark i) v h = h
suits_carries kind.Bad v h = absurd h
suits_carries kind.End v h = absurd h

front_of_suits : (b : Option Blank) (p : Option Piece) → PieceSuits p → FrontSuits (front_of b p)
front_of_suits (Some blank) p h = tt
front_of_suits None (Some piece) h = h
front_of_suits None None h = tt

last_carries : (to : ℕ) (after : Bool) (rest : List Point) → Carries (last_token to after rest).kind (last_token to after rest).value
last_carries to after [] = tt
last_carries to after (p ∷ rest) = tt

then_carry : (to : ℕ) (braces : List Brace) (after : Bool) (rest : List Point) (f : Front) (others : List Brace → Bool → List Point → List Lexed)
    → FrontSuits f → ((o : List Brace) (a : Bool) (ps : List Point) → AllCarry (others o a ps)) → AllCarry (then_tokens to braces after rest f others)
then_carry to braces after rest (IsBlank blank) others h all = all braces (after || blank.breaks) (drop blank.length rest)
then_carry to braces after rest (IsToken p) others h all = (suits_carries p.kind p.value h, all (braces_after braces p.kind) false (drop p.length rest))
then_carry to braces after rest IsNeither others h all = (last_carries to after rest, tt)

all_carry : (fuel to : ℕ) (braces : List Brace) (after : Bool) (rest : List Point) → AllCarry (tokens_within fuel to braces after rest)
all_carry zero to braces after rest = tt
all_carry (suc fuel) to braces after rest =
    then_carry to braces after rest (front_at braces rest) (λ o a ps. tokens_within fuel to o a ps)
    (front_of_suits (blank_at (map code_of rest)) (token_at (in_substitution braces) (map code_of rest)) (token_suits (in_substitution braces) (map code_of rest)))
    (λ o a ps. all_carry fuel to o a ps)

-- The atoms of `get` and `set` tell the roles.

same_text-refl : (t : List ℕ) → same_text t t ≡ true
same_text-refl [] = refl
same_text-refl (a ∷ t) = ap (λ (b : Bool). if b then same_text t t else false) (eq-eqb a a refl) ∙ same_text-refl t

same_text-true : (s t : List ℕ) → same_text s t ≡ true → s ≡ t
same_text-true [] [] h = refl
same_text-true [] (b ∷ t) h = absurd (cc)
same_text-true (a ∷ s) [] h = absurd (cc)
same_text-true (a ∷ s) (b ∷ t) h = by (nat_eq a b) refl h (same_text-true s t)
  where
    by : (c : Bool) → nat_eq a b ≡ c → (if c then same_text s t else false) ≡ true → (same_text s t ≡ true → s ≡ t) → a ∷ s ≡ b ∷ t
    by true e k f = ap (λ (x : ℕ). x ∷ s) (eqb-true a b e) ∙ ap (λ (x : List ℕ). b ∷ x) (f k)
    by false e k f = absurd (cc)

same_index : (texts : List (List ℕ)) (n m : ℕ) (s t : List ℕ) → AreWithoutEquals texts → slice_get texts n ≡ Some s → slice_get texts m ≡ Some t → nat_eq n m ≡ same_text s t
same_index texts n m s t apart here there = by (nat_eq n m) (same_text s t) refl refl
  where
    some_same : (x y : List ℕ) → ◌≡◌ {A = Option (List ℕ)} (Some x) (Some y) → x ≡ y
    some_same x y e = cc

    by : (b c : Bool) → nat_eq n m ≡ b → same_text s t ≡ c → b ≡ c
    by true true e h = refl
    by false false e h = refl
    by true false e h =
        let same : s ≡ t = some_same s t (sym here ∙ ap (slice_get texts) (eqb-true n m e) ∙ there) in
        let k : same_text s t ≡ true = ap (same_text s) (sym same) ∙ same_text-refl s in
        sym k ∙ h
    by false true e h =
        let same = apart t n m (here ∙ ap Some (same_text-true s t h)) there in
        sym e ∙ eq-eqb n m same

-- A token of the code is the one that it stands for.

text_seen : (texts : List (List ℕ)) (v : Value) (n : ℕ) → IsText v → HasValue texts v n → slice_index_or texts n [] ≡ text_in v
text_seen texts (Text units) n h has = get_or_from_slice_get texts n units [] has
text_seen texts (Number value) n h has = absurd h
text_seen texts Nothing n h has = absurd h

number_in_text : (v : Value) → IsText v → 0 ≡ number_in v
number_in_text (Text units) h = refl
number_in_text (Number value) h = absurd h
number_in_text Nothing h = absurd h

nothing_text : (v : Value) → IsNothing v → [] ≡ text_in v
nothing_text (Text units) h = absurd h
nothing_text (Number value) h = absurd h
nothing_text Nothing h = refl

nothing_number : (v : Value) → IsNothing v → 0 ≡ number_in v
nothing_number (Text units) h = absurd h
nothing_number (Number value) h = absurd h
nothing_number Nothing h = refl

number_text : (v : Value) → IsNumber v → [] ≡ text_in v
number_text (Text units) h = absurd h
number_text (Number value) h = refl
number_text Nothing h = absurd h

number_seen : (texts : List (List ℕ)) (v : Value) (n : ℕ) → IsNumber v → HasValue texts v n → n ≡ number_in v
number_seen texts (Text units) n h has = absurd h
number_seen texts (Number value) n h has = has
number_seen texts Nothing n h has = absurd h

text_same : (texts : List (List ℕ)) (k : Kind) (v : Value) (n : ℕ) → Carries k v → HasValue texts v n → text_of texts k n ≡ text_in v
text_same texts kind.Name v n h has = text_seen texts v n h has
text_same texts kind.Number v n h has = number_text v h
text_same texts kind.Str v n h has = text_seen texts v n h has
text_same texts kind.TemplateWhole v n h has = text_seen texts v n h has
text_same texts kind.TemplateHead v n h has = text_seen texts v n h has
text_same texts kind.TemplateMiddle v n h has = text_seen texts v n h has
text_same texts kind.TemplateTail v n h has = text_seen texts v n h has
text_same texts (kind.Word i) v n h has = text_seen texts v n h has
text_same texts (kind.Mark i) v n h has = nothing_text v h
text_same texts kind.Bad v n h has = nothing_text v h
text_same texts kind.End v n h has = nothing_text v h

number_same : (texts : List (List ℕ)) (k : Kind) (v : Value) (n : ℕ) → Carries k v → HasValue texts v n → number_of k n ≡ number_in v
number_same texts kind.Name v n h has = number_in_text v h
number_same texts kind.Number v n h has = number_seen texts v n h has
number_same texts kind.Str v n h has = number_in_text v h
number_same texts kind.TemplateWhole v n h has = number_in_text v h
number_same texts kind.TemplateHead v n h has = number_in_text v h
number_same texts kind.TemplateMiddle v n h has = number_in_text v h
number_same texts kind.TemplateTail v n h has = number_in_text v h
number_same texts (kind.Word i) v n h has = number_in_text v h
number_same texts (kind.Mark i) v n h has = nothing_number v h
number_same texts kind.Bad v n h has = nothing_number v h
number_same texts kind.End v n h has = nothing_number v h

abbrev made : Kind → List ℕ → ℕ → Role → ℕ → ℕ → Bool → Lexeme
made k text number role start end after = record { kind = k; text = text; number = number; role = role; start = start; end = end; after_line = after }

-- the atoms of `get` and `set` among texts without equals
pub record KnowsWords (texts : List (List ℕ)) (get set : ℕ) : Type 0 where
  pub apart : AreWithoutEquals texts
  pub get_is : slice_get texts get ≡ Some get_text
  pub set_is : slice_get texts set ≡ Some set_text

module _ (texts : List (List ℕ)) (get set : ℕ) (knows : KnowsWords texts get set) where
  name_role : (v : Value) (n : ℕ) → IsText v → HasValue texts v n → role_at get set kind.Name n ≡ role_of_text (text_in v)
  name_role (Text units) n h has =
      ap (λ (b : Bool). if b then get_role else (if nat_eq n set then set_role else no_role)) (same_index texts n get units get_text knows.apart has knows.get_is)
      ∙ ap (λ (b : Bool). if same_text units get_text then get_role else (if b then set_role else no_role)) (same_index texts n set units set_text knows.apart has knows.set_is)
  name_role (Number value) n h has = absurd h
  name_role Nothing n h has = absurd h

  role_same : (k : Kind) (v : Value) (n : ℕ) → Carries k v → HasValue texts v n → role_at get set k n ≡ role_of k (text_in v)
  role_same kind.Name v n h has = name_role v n h has
  role_same _ v n h has = refl

  token_same : (t : Token) (l : Lexed) → Carries l.kind l.value → StandsFor texts t l → token.lexeme_of get set texts t ≡ lexeme_of l
  token_same t l carries stands =
      ap (λ (k : Kind). made k (text_of texts k t.value) (number_of k t.value) (role_at get set k t.value) t.start t.end t.after_line) stands.kind
      ∙ ap (λ (w : List ℕ). made l.kind w (number_of l.kind t.value) (role_at get set l.kind t.value) t.start t.end t.after_line) (text_same texts l.kind l.value t.value carries stands.value)
      ∙ ap (λ (n : ℕ). made l.kind (text_in l.value) n (role_at get set l.kind t.value) t.start t.end t.after_line) (number_same texts l.kind l.value t.value carries stands.value)
      ∙ ap (λ (r : Role). made l.kind (text_in l.value) (number_in l.value) r t.start t.end t.after_line) (role_same l.kind l.value t.value carries stands.value)
      ∙ ap (λ (n : ℕ). made l.kind (text_in l.value) (number_in l.value) (role_of l.kind (text_in l.value)) n t.end t.after_line) stands.start
      ∙ ap (λ (n : ℕ). made l.kind (text_in l.value) (number_in l.value) (role_of l.kind (text_in l.value)) l.start n t.after_line) stands.end
      ∙ ap (λ (b : Bool). made l.kind (text_in l.value) (number_in l.value) (role_of l.kind (text_in l.value)) l.start l.end b) stands.after_line

  tokens_same : (ts : List Token) (ls : List Lexed) → AllCarry ls → StandFor texts ts ls → map (token.lexeme_of get set texts) ts ≡ map lexeme_of ls
  tokens_same [] [] all stand = refl
  tokens_same [] (l ∷ ls) all stand = absurd stand
  tokens_same (t ∷ ts) [] all stand = absurd stand
  tokens_same (t ∷ ts) (l ∷ ls) all stand =
      ap (λ (x : Lexeme). x ∷ map (token.lexeme_of get set texts) ts) (token_same t l all.0 stand.0) ∙ ap (λ (xs : List Lexeme). lexeme_of l ∷ xs) (tokens_same ts ls all.1 stand.1)

-- The atoms fit four bytes.

get_within : (texts : List (List ℕ)) (i : ℕ) (text : List ℕ) → slice_get texts i ≡ Some text → i < length texts
get_within [] i text h = absurd (cc)
get_within (t ∷ texts) zero text h = omega arith
get_within (t ∷ texts) (suc i) text h = omega (arith, get_within texts i text h)

value_within : (texts : List (List ℕ)) (v : Value) (n : ℕ) → IsText v → HasValue texts v n → n < length texts
value_within texts (Text units) n h has = get_within texts n units has
value_within texts (Number value) n h has = absurd h
value_within texts Nothing n h has = absurd h

pub atom_within : (texts : List (List ℕ)) (k : Kind) (v : Value) (n : ℕ) → Carries k v → HasValue texts v n → has_atom k ≡ true → n < length texts
atom_within texts kind.Name v n h has some = value_within texts v n h has
atom_within texts kind.Number v n h has some = absurd (cc)
atom_within texts kind.Str v n h has some = value_within texts v n h has
atom_within texts kind.TemplateWhole v n h has some = value_within texts v n h has
atom_within texts kind.TemplateHead v n h has some = value_within texts v n h has
atom_within texts kind.TemplateMiddle v n h has some = value_within texts v n h has
atom_within texts kind.TemplateTail v n h has some = value_within texts v n h has
atom_within texts (kind.Word i) v n h has some = value_within texts v n h has
atom_within texts (kind.Mark i) v n h has some = absurd (cc)
atom_within texts kind.Bad v n h has some = absurd (cc)
atom_within texts kind.End v n h has some = absurd (cc)

atom_at : (texts : List (List ℕ)) (ts : List Token) (ls : List Lexed) → length texts < 2 ^ 32 → AllCarry ls → StandFor texts ts ls → (k : ℕ) (d : Token) → k < length ts → HasAtom (slice_index_or ts k d)
atom_at texts [] ls few all stand k d l = absurd (omega (arith, l))
atom_at texts (t ∷ ts) [] few all stand k d l = absurd stand
atom_at texts (t ∷ ts) (x ∷ ls) few all stand zero d l = λ some. let within = atom_within texts x.kind x.value t.value all.0 stand.0.value (ap has_atom (sym stand.0.kind) ∙ some) in omega (arith, few, within)
atom_at texts (t ∷ ts) (x ∷ ls) few all stand (suc k) d l = atom_at texts ts ls few all.1 stand.1 k d (omega (arith, l))

-- Only the last token ends all.

ends_last : (k : Kind) → ends_all k ≡ is_last k
ends_last kind.Bad = refl
ends_last kind.End = refl
ends_last _ = refl

inner_at : (front : List Token) (last : Token) → AreNoLast front → (k : ℕ) (d : Token) → suc k < length (front ++ last ∷ []) → ends_all (slice_index_or (front ++ last ∷ []) k d).kind ≡ false
inner_at [] last h k d l = absurd (omega (arith, l))
inner_at (t ∷ front) last h zero d l = ends_last t.kind ∙ h.0
inner_at (t ∷ front) last h (suc k) d l = inner_at front last h.1 k d (omega (arith, l))

last_at : (front : List Token) (last : Token) → is_last last.kind ≡ true → (k : ℕ) (d : Token) → suc k ≡ length (front ++ last ∷ []) → ends_all (slice_index_or (front ++ last ∷ []) k d).kind ≡ true
last_at [] last h zero d l = ends_last last.kind ∙ h
last_at [] last h (suc k) d l = absurd (omega (arith, l))
last_at (t ∷ front) last h zero d l = absurd (let z = length-append front (last ∷ []) in omega (arith, l, z))
last_at (t ∷ front) last h (suc k) d l = last_at front last h k d (omega (arith, l))

-- There are no more tokens than points, but for the last.

then_few : (to fuel : ℕ) (braces : List Brace) (after : Bool) (rest : List Point) (f : Front) (others : List Brace → Bool → List Point → List Lexed)
    → ((o : List Brace) (a : Bool) (ps : List Point) → length (others o a ps) ≤ fuel) → length (then_tokens to braces after rest f others) ≤ suc fuel
then_few to fuel braces after rest (IsBlank blank) others h = let z = h braces (after || blank.breaks) (drop blank.length rest) in omega (arith, z)
then_few to fuel braces after rest (IsToken p) others h = let z = h (braces_after braces p.kind) false (drop p.length rest) in omega (arith, z)
then_few to fuel braces after rest IsNeither others h = omega arith

few_within : (fuel to : ℕ) (braces : List Brace) (after : Bool) (rest : List Point) → length (tokens_within fuel to braces after rest) ≤ fuel
few_within zero to braces after rest = omega arith
few_within (suc fuel) to braces after rest = then_few to fuel braces after rest (front_at braces rest) (λ o a ps. tokens_within fuel to o a ps) (λ o a ps. few_within fuel to o a ps)

filter_few : (p : Point → Bool) (ps : List Point) → length (filter p ps) ≤ length ps
filter_few p [] = omega arith
filter_few p (x ∷ ps) = by (p x) (filter_few p ps)
  where
    by : (b : Bool) → length (filter p ps) ≤ length ps → length (if b then x ∷ filter p ps else filter p ps) ≤ suc (length ps)
    by true h = omega (arith, h)
    by false h = omega (arith, h)

first_line_few : (b : Bool) (n : ℕ) (ps : List Point) → length (if b then drop n ps else ps) ≤ length ps
first_line_few true n ps = let c = length-drop n ps in omega (arith, c)
first_line_few false n ps = omega arith

pub tokens_few : (ps : List Point) (from to : ℕ) → length (tokens ps from to) ≤ suc (length ps)
tokens_few ps from to =
    let text = without_first_line from (part from to ps) in
    let a = few_within (suc (length text)) to [] false text in
    let b = filter_few (λ (p : Point). nat_le from p.start && nat_lt p.start to) ps in
    let c = first_line_few (from == 0) (first_line_length (map code_of (part from to ps))) (part from to ps) in
    omega (arith, a, b, c)

as_many : (texts : List (List ℕ)) (ts : List Token) (ls : List Lexed) → StandFor texts ts ls → length ts ≡ length ls
as_many texts [] [] h = refl
as_many texts [] (l ∷ ls) h = absurd h
as_many texts (t ∷ ts) [] h = absurd h
as_many texts (t ∷ ts) (l ∷ ls) h = ap suc (as_many texts ts ls h.1)

pub tokens_carry : (ps : List Point) (from to : ℕ) → AllCarry (tokens ps from to)
tokens_carry ps from to = let text = without_first_line from (part from to ps) in all_carry (suc (length text)) to [] false text

-- The scanned tokens of a part.

pub scanned_lexemes : (ps : List Point) (from to : ℕ) (texts : List (List ℕ)) (ts : List Token) (get set : ℕ) → KnowsWords texts get set → StandFor texts ts (tokens ps from to) → map (token.lexeme_of get set texts) ts ≡ map lexeme_of (tokens ps from to)
scanned_lexemes ps from to texts ts get set knows stand = tokens_same texts get set knows ts (tokens ps from to) (tokens_carry ps from to) stand

pub are_scanned : (ps : List Point) (from to : ℕ) (texts : List (List ℕ)) (ts : List Token) → length texts < 2 ^ 32 → length ps ≤ 16777215 → StandFor texts ts (tokens ps from to) → HasOneLast ts → IsScanned ts
are_scanned ps from to texts ts few short stand one = record {
  few = let a = as_many texts ts (tokens ps from to) stand in let b = tokens_few ps from to in omega (arith, a, b, short);
  atoms = atom_at texts ts (tokens ps from to) few (tokens_carry ps from to) stand;
  inner = λ k d. subst (λ (xs : List Token). suc k < length xs → ends_all (slice_index_or xs k d).kind ≡ false) (sym one.split) (inner_at one.front one.last one.others k d);
  last = λ k d. subst (λ (xs : List Token). suc k ≡ length xs → ends_all (slice_index_or xs k d).kind ≡ true) (sym one.split) (last_at one.front one.last one.ends k d);
}
