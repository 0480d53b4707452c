-- A scan gains no more texts than there are tokens.
use Rattle.std.proofs.Common.{◌≡◌, ◌≢◌, ◌∙◌, ◌⊎◌, inl, inr, ℕ, zero, suc, ◌+◌, ◌^◌, ◌≤◌, ◌<◌, List, [], ◌∷◌, ◌++◌, length, length-append, refl, sym, ap, subst, arith}
use Rattle.std.specs.Prelude.{Option, Some, slice_get}
use Rattle.std.specs.List.{AllByRecursion}
use Rattle.parser_atoms.specs.Places.{AreWithoutEquals, StandsIn}
use Rattle.unit_text.specs.declared.Point.{Point}
use Rattle.script_scanner.specs.Stands.{IsValueAmong, GainsOnly}
use Rattle.script_scanner.specs.Tokens.{Value, Text, Lexed, tokens}
use Rattle.parse_token_laws.proofs.ScannedTokens.{tokens_few}

-- the text is the value of one of these tokens
abbrev pub HasText : List Lexed → List ℕ → Type 0
HasText [] text = ⊥
HasText (l ∷ ls) text = (l.value ≡ Text text) ⊎ HasText ls text

text_between : (before : List Lexed) (t : Lexed) (after : List Lexed) (text : List ℕ) → t.value ≡ Text text → HasText (before ++ t ∷ after) text
text_between [] t after text e = inl e
text_between (b ∷ before) t after text e = inr (text_between before t after text e)

pub has_text : (ls : List Lexed) (text : List ℕ) → IsValueAmong ls text → HasText ls text
has_text ls text is = subst (λ (xs : List Lexed). HasText xs text) (sym is.3) (text_between is.0 is.1 is.2 text is.4)

-- ---- the tokens without the first that has a text

others : (ls : List Lexed) (text : List ℕ) → HasText ls text → List Lexed
others [] text h = absurd h
others (l ∷ ls) text (inl e) = ls
others (l ∷ ls) text (inr h) = l ∷ others ls text h

one_less : (ls : List Lexed) (text : List ℕ) (h : HasText ls text) → suc (length (others ls text h)) ≡ length ls
unfolding others
one_less [] text h = absurd h
one_less (l ∷ ls) text (inl e) = refl
one_less (l ∷ ls) text (inr h) = ap suc (one_less ls text h)

same_text : (a b : List ℕ) → ◌≡◌ {A = Value} (Text a) (Text b) → a ≡ b
same_text a b e = cc

has_still : (ls : List Lexed) (text other : List ℕ) (h : HasText ls text) → HasText ls other → text ≢ other → HasText (others ls text h) other
unfolding others
has_still [] text other h k apart = absurd h
has_still (l ∷ ls) text other (inl e) (inl k) apart = absurd (apart (same_text text other (sym e ∙ k)))
has_still (l ∷ ls) text other (inl e) (inr k) apart = k
has_still (l ∷ ls) text other (inr h) (inl k) apart = inl k
has_still (l ∷ ls) text other (inr h) (inr k) apart = inr (has_still ls text other h k apart)

-- ---- texts without equals, each of which a token has

rest_apart : (text : List ℕ) (texts : List (List ℕ)) → AreWithoutEquals (text ∷ texts) → AreWithoutEquals texts
rest_apart text texts apart other i j e f = let same = apart other (suc i) (suc j) e f in omega (arith, same)

first_apart : (text other : List ℕ) (texts : List (List ℕ)) → AreWithoutEquals (text ∷ texts) → StandsIn texts other → text ≢ other
first_apart text other texts apart stands = λ e. let same = apart other 0 (suc stands.0) (ap Some e) stands.1 in absurd (omega (arith, same))

no_more_texts : (ls : List Lexed) (texts : List (List ℕ)) → AreWithoutEquals texts → ((text : List ℕ) → StandsIn texts text → HasText ls text) → length texts ≤ length ls
no_more_texts ls [] apart each = omega arith
no_more_texts ls (text ∷ texts) apart each =
    let here : HasText ls text = each text (0, refl) in
    let fewer : length texts ≤ length (others ls text here) =
    no_more_texts (others ls text here) texts (rest_apart text texts apart)
    (λ other stands. has_still ls text other here (each other (suc stands.0, stands.1)) (first_apart text other texts apart stands)) in
    let less = one_less ls text here in
    omega (arith, fewer, less)

-- ---- what a scan leaves

last_apart : (before texts : List (List ℕ)) → AreWithoutEquals (before ++ texts) → AreWithoutEquals texts
last_apart [] texts apart = apart
last_apart (b ∷ before) texts apart = last_apart before texts (rest_apart b (before ++ texts) apart)

some_same : (a b : List ℕ) → ◌≡◌ {A = Option (List ℕ)} (Some a) (Some b) → a ≡ b
some_same a b e = cc

gained_text : (ls : List Lexed) (texts : List (List ℕ)) → AllByRecursion (IsValueAmong ls) texts → (i : ℕ) (text : List ℕ) → slice_get texts i ≡ Some text → HasText ls text
gained_text ls [] all i text e = absurd (cc)
gained_text ls (t ∷ texts) all zero text e = subst (HasText ls) (some_same t text e) (has_text ls t all.0)
gained_text ls (t ∷ texts) all (suc i) text e = gained_text ls texts all.1 i text e

-- where a scan began with the known words alone
pub file_texts_few : (ps : List Point) (to : ℕ) (before after made : List (List ℕ)) → GainsOnly before after (tokens ps 0 to) → AreWithoutEquals after → length before ≤ 7 → length ps ≤ 16777215 → made ≡ after → length made < 2 ^ 31
file_texts_few ps to before after made gains apart words short same =
    let gained : length gains.gained ≤ length (tokens ps 0 to) =
    no_more_texts (tokens ps 0 to) gains.gained (last_apart before gains.gained (subst AreWithoutEquals gains.grown apart))
    (λ text stands. gained_text (tokens ps 0 to) gains.gained gains.are_values stands.0 text stands.1) in
    let long = ap length (same ∙ gains.grown) in
    let both = length-append before gains.gained in
    let few = tokens_few ps 0 to in
    omega (arith, gained, long, both, few, words, short)
