-- What a track answers that was told a script is what the definitions say of the script's tree.
use Rattle.std.proofs.Common.{◌≡◌, ℕ, ◌∙◌, ap, sym, subst, refl, nat_eq, List, [], map, reverse}
use Rattle.std.proofs.lemmas.List.{reverse-reverse}
use Rattle.std.specs.Prelude.{codes, Option, None}
use Rattle.script_grammar.specs.Braced.{braced_all}
use Rattle.script_grammar.specs.Interpretation.{Interpretation, text_of}
use Rattle.script_grammar.specs.Shows.{ShowAll}
use Rattle.script_grammar.specs.Tree.{Stmts}
use Rattle.parse_track.specs.declared.region.Early.{Early}
use Rattle.parse_track.specs.declared.region.WellKnownAtoms.{WellKnownAtoms}
use Rattle.parse_track.specs.ClosedNames.{Bound, closed}
use Rattle.parse_track.specs.Counted.{function_count, counted}
use Rattle.parse_track.specs.EarlyErrors.{first_error}
use Rattle.parse_track.specs.Log.{Log, known_names, told_of}
use Rattle.parse_track.specs.Notes.{early_error, closed_names}
use Rattle.parse_track.specs.Tells.{tells_script}
use Rattle.track_renaming_laws.specs.Renaming.{renamed_bound}
use Rattle.track_renaming_laws.specs.Texts.{text_at, TellsOf}
use Rattle.track_renaming_laws.proofs.Scripts.{track-early_error, track-closed_names}
use Rattle.track_log_laws.specs.Spelled.{log_text, logged}
use Rattle.track_log_laws.proofs.Scripts.{script-tells, script-functions}
use Rattle.parse_track_pieces.specs.declared.piece.Piece.{Piece}
use Rattle.parse_track_pieces.specs.Says.{SaysBody}
use Rattle.parse_track_pieces.specs.Walks.{KnowsThis}
use Rattle.early_script_errors.specs.Told.{own, IsOf, IsTold, IsTrackOf}
use Rattle.early_script_errors.proofs.Words.{knows_this, knows_names}

-- a track with these known words that was told nothing
abbrev pub empty : WellKnownAtoms → Log
empty known = record { known = known; parts = []; present = None; noted = None }

module _ (track : Log) where
  -- what is answered of each script that the track was told
  abbrev pub Comes : (List (List ℕ) → Stmts → Type 0) → Type 0
  Comes Is = (texts : List (List ℕ)) (items : Stmts) → IsTrackOf texts track items → Is texts items

  pub tells : Comes (λ texts items. TellsOf texts (known_names track.known) (told_of track.parts) items)
  tells texts items h =
      script-tells (own texts items) (empty track.known) track items refl h.told h.of.tokens h.of.end refl h.of.once
      (knows_names (own texts items) track.known h.of.knows) h.of.script h.of.names

  pub early : (answer : Option Early) → answer ≡ first_error nat_eq (known_names track.known) track.noted (told_of track.parts) → Comes (λ texts items. answer ≡ early_error items)
  early answer by texts items h = by ∙ track-early_error texts track items (tells texts items h) h.noted

  pub functions : (answer : ℕ) → answer ≡ counted track.parts → Comes (λ texts items. answer ≡ function_count (tells_script items))
  functions answer by texts items h = by ∙ script-functions (own texts items) (empty track.known) track items refl h.told

  pub closed_over : (answer : List (Bound ℕ)) → answer ≡ closed nat_eq (known_names track.known) (told_of track.parts) → Comes (λ texts items. map (renamed_bound (text_at texts)) answer ≡ closed_names items)
  closed_over answer by texts items h = ap (map (renamed_bound (text_at texts))) by ∙ track-closed_names texts track items (tells texts items h)

-- A track that pieces told, and in which this first error is noted, is one that was told their script. The bodies at hand stand
-- in reverse, the next one last.
pub told_track : (texts : List (List ℕ)) (known : WellKnownAtoms) (items : Stmts) (top : Piece) (bodies hand : List Piece) (first : Option Early) (old new last : Log)
    → old ≡ empty known → new.known ≡ old.known → hand ≡ reverse bodies
    → ((i : Interpretation) (ss : Stmts) → KnowsThis i old → SaysBody i top ss → ShowAll (SaysBody i) (reverse hand) (braced_all ss) → logged (tells_script ss) (log_text i old) ≡ log_text i new)
    → last ≡ record new { noted = first }
    → IsOf texts known items → IsTold texts top bodies first items → IsTrackOf texts last items
told_track texts known items top bodies hand first old new last begun kept reversed tells noted of told =
    let i : Interpretation = own texts items in
    let same : old.known ≡ known = ap (λ (l : Log). l.known) begun in
    subst (λ (l : Log). IsTrackOf texts l items) (sym noted) (record {
      of = subst (λ (k : WellKnownAtoms). IsOf texts k items) (sym (kept ∙ same)) of;
      told =
          ap (λ (l : Log). logged (tells_script items) (log_text i l)) (sym begun)
          ∙ tells i items (subst (λ (k : WellKnownAtoms). text_of i k.this ≡ codes ".this") (sym same) (knows_this i known of.knows)) told.script
          (subst (λ (ps : List Piece). ShowAll (SaysBody i) ps (braced_all items)) (sym (ap reverse reversed ∙ reverse-reverse bodies)) told.braced);
      noted = told.noted;
    })
