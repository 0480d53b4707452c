-- The texts of a file are the known words and texts of its tokens, so they are small.
use Rattle.std.proofs.Common.{◌≡◌, ℕ, zero, suc, ◌≤◌, List, [], ◌∷◌, length, Some, refl, sym, ◌∙◌, ap₂, subst, arith}
use Rattle.std.specs.Prelude.{slice_get}
use Rattle.unit_text.specs.declared.Point.{Point}
use Rattle.unit_text.specs.Points.{points}
use Rattle.script_scanner.specs.Stands.{GainsOnly}
use Rattle.script_scanner.specs.Tokens.{tokens}
use Rattle.scan_laws.proofs.Gained.{gained_small}
use Rattle.bytecode_buf.specs.InRange.{TextsSmall}
use Rattle.parse_track.specs.declared.region.WellKnownAtoms.{WellKnownAtoms}
use Rattle.track_atoms.specs.Known.{HasWords, known_atoms, word_texts}

-- no more texts than others, each of which stands at its own place
same_texts : (texts others : List (List ℕ)) → ((k : ℕ) (text : List ℕ) → slice_get others k ≡ Some text → slice_get texts k ≡ Some text) → length texts ≤ length others → texts ≡ others
same_texts [] [] h few = refl
same_texts [] (o ∷ others) h few = absurd (let e = h 0 o refl in cc)
same_texts (t ∷ texts) [] h few = absurd (omega (arith, few))
same_texts (t ∷ texts) (o ∷ others) h few =
    ap₂ (λ (x : List ℕ) (xs : List (List ℕ)). x ∷ xs) (let e : ◌≡◌ (Some t) (Some o) = h 0 o refl in cc) (same_texts texts others (λ k u e. h (suc k) u e) (omega (arith, few)))

word_at : (texts : List (List ℕ)) → HasWords texts known_atoms → (k : ℕ) (text : List ℕ) → slice_get word_texts k ≡ Some text → slice_get texts k ≡ Some text
word_at texts h zero text e = h.eval ∙ e
word_at texts h (suc zero) text e = h.arguments ∙ e
word_at texts h (suc (suc zero)) text e = h.this ∙ e
word_at texts h (suc (suc (suc zero))) text e = h.proto ∙ e
word_at texts h (suc (suc (suc (suc zero)))) text e = h.get ∙ e
word_at texts h (suc (suc (suc (suc (suc zero))))) text e = h.set ∙ e
word_at texts h (suc (suc (suc (suc (suc (suc zero)))))) text e = h.strict ∙ e
word_at texts h (suc (suc (suc (suc (suc (suc (suc k))))))) text e = absurd (cc)

-- seven texts at most, with all known words
words_only : (texts : List (List ℕ)) (known : WellKnownAtoms) → HasWords texts known → known ≡ known_atoms → length texts ≤ 7 → texts ≡ word_texts
words_only texts known h fixed few = same_texts texts word_texts (word_at texts (subst (HasWords texts) fixed h)) few

known_small : TextsSmall word_texts
known_small = (omega arith, (omega arith, (omega arith, (omega arith, (omega arith, (omega arith, (omega arith, tt)))))))

-- what a scan of a file leaves that began with the known words alone
pub file_texts_small : (bytes : List ℕ) (ps : List Point) (first after made : List (List ℕ)) (known : WellKnownAtoms) → ps ≡ points bytes → HasWords first known → known ≡ known_atoms → length first ≤ 7
    → GainsOnly first after (tokens ps 0 (length bytes)) → made ≡ after → length bytes ≤ 16777215 → TextsSmall made
file_texts_small bytes ps first after made known decoded words fixed few gains same short =
    let gained : GainsOnly first after (tokens (points bytes) 0 (length bytes)) = subst (λ (qs : List Point). GainsOnly first after (tokens qs 0 (length bytes))) decoded gains in
    let small : TextsSmall first = subst TextsSmall (sym (words_only first known words fixed few)) known_small in
    subst TextsSmall (sym same) (gained_small first after bytes gained small (omega (arith, short)))
