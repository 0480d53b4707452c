-- The words by which a function finds `this` and its arguments are among the texts.
use Rattle.std.proofs.Common.{◌≡◌, ◌∙◌, ◌^◌, ◌<◌, ℕ, zero, suc, Bool, true, List, [], ◌∷◌, length, Some, refl, ap, codes}
use Rattle.std.specs.Prelude.{◌||◌, ◌&&◌, slice_get}
use Rattle.std.specs.Str.{bytes_eq}
use Rattle.std.proofs.Math.Bool.{or-true}
use Rattle.std.proofs.lemmas.Bool.{eq-eqb}
use Rattle.parse_track.specs.declared.region.WellKnownAtoms.{WellKnownAtoms}
use Rattle.scope_analysis.specs.DeclaredNames.{has_text}
use Rattle.scope_analysis.specs.FunctionTree.{KnowsNames}
use Rattle.track_atoms.specs.Known.{HasWords}

text_same : (x : List ℕ) → bytes_eq x x ≡ true
text_same [] = refl
text_same (c ∷ cs) = ap (λ (b : Bool). b && bytes_eq cs cs) (eq-eqb c c refl) ∙ text_same cs

pub has_at : (texts : List (List ℕ)) (k : ℕ) (text : List ℕ) → slice_get texts k ≡ Some text → has_text texts text ≡ true
has_at [] k text h = absurd (cc)
has_at (t ∷ ts) zero text h = ap (λ (x : List ℕ). bytes_eq x text || has_text ts text) (let e : t ≡ text = cc in e) ∙ ap (λ (b : Bool). b || has_text ts text) (text_same text)
has_at (t ∷ ts) (suc k) text h = ap (λ (b : Bool). bytes_eq t text || b) (has_at ts k text h) ∙ or-true (bytes_eq t text)

pub knows_names : (texts : List (List ℕ)) (known : WellKnownAtoms) → length texts < 2 ^ 32 → HasWords texts known → KnowsNames texts
knows_names texts known few h = record {
  few = few;
  arguments = has_at texts known.arguments (codes "arguments") h.arguments;
  this = has_at texts known.this (codes ".this") h.this;
}
