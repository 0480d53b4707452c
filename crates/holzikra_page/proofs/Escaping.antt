-- Texts as they stand in HTML are read as themselves, and have no byte that means anything else.
use Rattle.std.proofs.Common.{◌≡◌, ℕ, inl, inr, true, List, [], ◌∷◌, ◌++◌, refl, sym, ap, subst, ◌∙◌}
use Rattle.std.specs.List.{list_all}
use Rattle.std.proofs.lemmas.Bool.Decides.{eqb_tells}
use Rattle.std.proofs.lemmas.List.Folds.{list_all-append}
use Rattle.holzikra_page.specs.Escape.{escape_of, escaped, read_behind, unescaped, is_harmless, AppendsEscaped}

-- what holds of a byte and of what stands for it, in front of any rest
Stands : List ℕ → ℕ → Type 0
Stands rest byte = (read_behind 0 (escape_of byte ++ rest) ≡ byte ∷ read_behind 0 rest) × (list_all is_harmless (escape_of byte) ≡ true)

at : (rest : List ℕ) (byte n : ℕ) → byte ≡ n → Stands rest n → Stands rest byte
at rest byte n is = subst (Stands rest) (sym is)

stands : (rest : List ℕ) (byte : ℕ) → Stands rest byte
unfolding Stands
stands rest byte =
    elim (eqb_tells byte 38) [
      | inl w ↦ at rest byte 38 w.1 (refl, refl)
      | inr a ↦ elim (eqb_tells byte 60) [
        | inl w ↦ at rest byte 60 w.1 (refl, refl)
        | inr b ↦ elim (eqb_tells byte 62) [
          | inl w ↦ at rest byte 62 w.1 (refl, refl)
          | inr d ↦ elim (eqb_tells byte 34) [
            | inl w ↦ at rest byte 34 w.1 (refl, refl)
            | inr e ↦ elim (eqb_tells byte 39) [
              | inl w ↦ at rest byte 39 w.1 (refl, refl)
              | inr f ↦ (rw (a.0, b.0, d.0, e.0, f.0) (rw a.0 refl), rw (a.0, b.0, d.0, e.0, f.0) (rw (b.0, d.0, e.0, f.0) refl))
            ]
          ]
        ]
      ]
    ]

pub read-escaped : (text : List ℕ) → unescaped (escaped text) ≡ text
unfolding Stands
read-escaped [] = refl
read-escaped (byte ∷ text) = (stands (escaped text) byte).0 ∙ ap (λ (t : List ℕ). byte ∷ t) (read-escaped text)

pub harmless-escaped : (text : List ℕ) → list_all is_harmless (escaped text) ≡ true
unfolding Stands
harmless-escaped [] = refl
harmless-escaped (byte ∷ text) = list_all-append is_harmless (escape_of byte) (escaped text) ∙ rw ((stands [] byte).1, harmless-escaped text) refl

pub appends : {before after : List ℕ} (text : List ℕ) → after ≡ before ++ escaped text → AppendsEscaped before after text
appends text is = record { made = escaped text; adds = is; is = record { read = read-escaped text; harmless = harmless-escaped text } }
