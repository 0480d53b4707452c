-- The known words by their atoms; where no two texts are equal, an atom that reads as one of them is its atom.
use Rattle.std.proofs.Common.{◌≡◌, ◌≢◌, ℕ, List, [], ap, sym, ◌∙◌}
use Rattle.std.specs.Prelude.{codes, slice_get, Some}
use Rattle.std.proofs.lemmas.Option.{get_or_from_slice_get}
use Rattle.script_grammar.specs.Interpretation.{Interpretation, text_of}
use Rattle.parse_track.specs.declared.region.WellKnownAtoms.{WellKnownAtoms}
use Rattle.parse_track.specs.Log.{known_names}
use Rattle.parse_track.specs.Tells.{known_texts}
use Rattle.track_renaming_laws.specs.Renaming.{renamed_known}
use Rattle.track_renaming_laws.specs.Texts.{AreWithoutEquals, text_at}
use Rattle.track_renaming_laws.proofs.Standing.{stands_nonempty}
use Rattle.early_script_errors.specs.Told.{Knows}

module _ (i : Interpretation) where
  pub reads : (atom : ℕ) (text : List ℕ) → slice_get i.texts atom ≡ Some text → text_of i atom ≡ text
  reads atom text h = get_or_from_slice_get i.texts atom text [] h

  pub only_atom : (atom : ℕ) (text : List ℕ) → AreWithoutEquals i.texts → text ≢ [] → slice_get i.texts atom ≡ Some text → (other : ℕ) → text_of i other ≡ text → other ≡ atom
  only_atom atom text once some h other is = once text other atom (stands_nonempty i.texts other (λ e. some (sym is ∙ e)) ∙ ap Some is) h

  pub knows_this : (known : WellKnownAtoms) → Knows i.texts known → text_of i known.this ≡ codes ".this"
  knows_this known h = reads known.this _ h.this

  pub knows_names : (known : WellKnownAtoms) → Knows i.texts known → renamed_known (text_at i.texts) (known_names known) ≡ known_texts
  knows_names known h =
      ap (λ (t : List ℕ). record { eval = t; arguments = text_at i.texts known.arguments; this = text_at i.texts known.this }) (reads known.eval _ h.eval)
      ∙ ap (λ (t : List ℕ). record { eval = codes "eval"; arguments = t; this = text_at i.texts known.this }) (reads known.arguments _ h.arguments)
      ∙ ap (λ (t : List ℕ). record { eval = codes "eval"; arguments = codes "arguments"; this = t }) (reads known.this _ h.this)
