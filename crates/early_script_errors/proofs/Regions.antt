-- A track has numbers for the regions of a script that tells few.
use Rattle.std.proofs.Common.{◌≡◌, ◌^◌, ◌<◌, ◌∙◌, List, reverse, refl, sym, ap, subst, arith}
use Rattle.std.proofs.lemmas.List.{reverse-reverse}
use Rattle.std.specs.Prelude.{Option}
use Rattle.script_grammar.specs.Braced.{braced_all}
use Rattle.script_grammar.specs.Shows.{ShowAll}
use Rattle.parse_track.specs.declared.region.Early.{Early}
use Rattle.parse_track.specs.declared.region.WellKnownAtoms.{WellKnownAtoms}
use Rattle.parse_track.specs.Counted.{region_count}
use Rattle.parse_track.specs.Log.{Log, told_of}
use Rattle.parse_track.specs.Told.{Told, nothing, leaf, inner}
use Rattle.parse_track.specs.Tells.{tells_script}
use Rattle.track_renaming_laws.specs.Alike.{AreToldAlike}
use Rattle.track_renaming_laws.specs.Texts.{StandsAt}
use Rattle.parse_track_pieces.specs.declared.piece.Piece.{Piece}
use Rattle.parse_track_pieces.specs.Says.{SaysBody}
use Rattle.parse_track_pieces.specs.Walks.{HasScriptNumbers}
use Rattle.early_script_errors.specs.Told.{own, AreOfFew, IsTrackOf, IsTrackOfFew}
use Rattle.early_script_errors.proofs.Checks.{empty, tells}
use Rattle.early_script_errors.proofs.Words.{knows_this}

-- what is told alike has as many regions
as_many : {A B : Type 0} (Means : A → B → Type 0) (t : Told A) (u : Told B) → AreToldAlike Means t u → region_count t ≡ region_count u
as_many Means nothing nothing h = refl
as_many Means nothing (leaf m u) h = absurd h
as_many Means nothing (inner j there i u) h = absurd h
as_many Means (leaf l t) nothing h = absurd h
as_many Means (leaf l t) (leaf m u) h = as_many Means t u h.1
as_many Means (leaf l t) (inner j there i u) h = absurd h
as_many Means (inner k at i t) nothing h = absurd h
as_many Means (inner k at i t) (leaf m u) h = absurd h
as_many Means (inner k at i t) (inner j there o u) h =
    let a = as_many Means i o h.1.0 in
    let b = as_many Means t u h.1.1 in
    omega (arith, a, b)

pub track_few : (track : Log) → IsTrackOfFew track → region_count (told_of track.parts) < 2 ^ 31
track_few track h =
    let e = as_many (StandsAt h.texts) (told_of track.parts) (tells_script h.items) (tells track h.texts h.items h.told).alike in
    let few = h.few in
    omega (arith, e, few)

-- the bodies at hand stand in reverse
pub script_few : (known : WellKnownAtoms) (top : Piece) (bodies hand : List Piece) (first : Option Early) (track : Log)
    → AreOfFew known top bodies first → track ≡ empty known → hand ≡ reverse bodies → HasScriptNumbers track hand top
script_few known top bodies hand first track h begun reversed = subst (λ (log : Log). HasScriptNumbers log hand top) (sym begun) (record {
  i = own h.texts h.items;
  items = h.items;
  knows = knows_this (own h.texts h.items) known h.of.knows;
  says = h.told.script;
  hand =
      subst (λ (ps : List Piece). ShowAll (SaysBody (own h.texts h.items)) ps (braced_all h.items))
      (sym (ap reverse reversed ∙ reverse-reverse bodies)) h.told.braced;
  few = let few = h.few in omega (arith, few);
})

pub told_few : (known : WellKnownAtoms) (top : Piece) (bodies : List Piece) (first : Option Early) (track : Log)
    (h : AreOfFew known top bodies first) → IsTrackOf h.texts track h.items → IsTrackOfFew track
told_few known top bodies first track h told = record { texts = h.texts; items = h.items; told = told; few = h.few }
