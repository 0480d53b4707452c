-- Texts of a function are among those of its script.
use Rattle.std.proofs.Common.{◌≡◌, ◌∙◌, ℕ, zero, suc, inl, inr, Bool, true, false, ◌&&◌, ◌||◌, List, [], ◌∷◌, Some, refl, sym, ap, ap₂, subst, bytes_eq}
use Rattle.std.specs.Prelude.{slice_get}
use Rattle.std.proofs.lemmas.Option.{none-some, same_Some}
use Rattle.std.proofs.lemmas.Slice.Eq.{bytes_eq-Decides}
use Rattle.parser_atoms.specs.Places.{StandsIn}
use Rattle.scope_analysis.specs.DeclaredNames.{has_text}
use Rattle.track_atoms.specs.Known.{HasWords, known_atoms, word_texts}
use Rattle.lazy_compile.specs.Texts.{IsTextOf, AreTextsOf}
use Rattle.compile_initial.specs.Initial.{HasTextsOf}
use Rattle.lazy_function.specs.Texts.{AreAmong, are_among}

-- ---- the script's own

word_in : (texts : List (List ℕ)) → HasWords texts known_atoms → (text : List ℕ) → StandsIn word_texts text → StandsIn texts text
word_in texts h text s = (s.0, by s.0 s.1)
  where
    by : (n : ℕ) → slice_get word_texts n ≡ Some text → slice_get texts n ≡ Some text
    by zero e = h.eval ∙ e
    by (suc zero) e = h.arguments ∙ e
    by (suc (suc zero)) e = h.this ∙ e
    by (suc (suc (suc zero))) e = h.proto ∙ e
    by (suc (suc (suc (suc zero)))) e = h.get ∙ e
    by (suc (suc (suc (suc (suc zero))))) e = h.set ∙ e
    by (suc (suc (suc (suc (suc (suc zero)))))) e = h.strict ∙ e
    by (suc (suc (suc (suc (suc (suc (suc n))))))) e = absurd (cc)

text_in : (bytes : List ℕ) (texts : List (List ℕ)) → HasTextsOf bytes texts → (text : List ℕ) → IsTextOf bytes texts text → StandsIn texts text
text_in bytes texts h text (inl v) = h.values text v
text_in bytes texts h text (inr (inl w)) = word_in texts h.words text w
text_in bytes texts h text (inr (inr s)) = s

pub own_among : (bytes : List ℕ) (texts own : List (List ℕ)) → HasTextsOf bytes texts → AreTextsOf bytes texts own → AreAmong texts own
own_among bytes texts own h of text s = text_in bytes texts h text (of text s)

-- ---- as a test

found_here : (t text : List ℕ) (texts : List (List ℕ)) → has_text (t ∷ texts) text ≡ true → (b : Bool) → bytes_eq t text ≡ b → ((i : ℕ) → slice_get texts i ≡ Some text → StandsIn (t ∷ texts) text) → (has_text texts text ≡ true → StandsIn texts text)
    → StandsIn (t ∷ texts) text
found_here t text texts h true e deeper more = (0, ap (λ (u : List ℕ). Some u) ((bytes_eq-Decides t text).0 e))
found_here t text texts h false e deeper more =
    let s = more (sym (ap (λ (b : Bool). b || has_text texts text) e) ∙ h) in
    deeper s.0 s.1

has_stands : (texts : List (List ℕ)) (text : List ℕ) → has_text texts text ≡ true → StandsIn texts text
has_stands [] text h = absurd (cc)
has_stands (t ∷ texts) text h = found_here t text texts h (bytes_eq t text) refl (λ i e. (suc i, e)) (has_stands texts text)

or_true : (b : Bool) → (b || true) ≡ true
or_true true = refl
or_true false = refl

stands_has : (texts : List (List ℕ)) (text : List ℕ) (i : ℕ) → slice_get texts i ≡ Some text → has_text texts text ≡ true
stands_has [] text i e = absurd (none-some text e)
stands_has (t ∷ texts) text zero e = ap (λ (b : Bool). b || has_text texts text) ((bytes_eq-Decides t text).1 (same_Some t text e))
stands_has (t ∷ texts) text (suc i) e = ap (λ (b : Bool). bytes_eq t text || b) (stands_has texts text i e) ∙ or_true (bytes_eq t text)

first_true : (a b : Bool) → (a && b) ≡ true → a ≡ true
first_true true b h = refl
first_true false b h = absurd (cc)

second_true : (a b : Bool) → (a && b) ≡ true → b ≡ true
second_true true b h = h
second_true false b h = absurd (cc)

pub among_by_test : (texts own : List (List ℕ)) → are_among texts own ≡ true → AreAmong texts own
among_by_test texts [] h text s = absurd (none-some text s.1)
among_by_test texts (t ∷ own) h text (zero, e) = subst (StandsIn texts) (same_Some t text e) (has_stands texts t (first_true (has_text texts t) (are_among texts own) h))
among_by_test texts (t ∷ own) h text (suc i, e) = among_by_test texts own (second_true (has_text texts t) (are_among texts own) h) text (i, e)

pub test_of_among : (texts own : List (List ℕ)) → AreAmong texts own → are_among texts own ≡ true
test_of_among texts [] h = refl
test_of_among texts (t ∷ own) h =
    let s = h t (0, refl) in
    ap₂ (λ (a b : Bool). a && b) (stands_has texts t s.0 s.1) (test_of_among texts own (λ text s. h text (suc s.0, s.1)))
