-- The pieces of a listing, and their texts one after another.
use Rattle.std.proofs.Common.{◌≡◌, ℕ, zero, suc, ◌+◌, ◌-◌, ◌<◌, ◌≤◌, List, [], ◌∷◌, ◌++◌, length, take, drop, get_or, drop-drop, length-drop, Option, Some, Vec, refl, ap, sym, subst, ◌∙◌, append_assoc, append-nil, arith}
use Rattle.std.specs.Prelude.{Err, Ok, Result, slice_get}
use Rattle.std.specs.declared.alloc.Global.{Global}
use Rattle.helper_tasks.specs.Jobs.{GivesEach}
use Rattle.script_image.proofs.Scripts.{none_left}
use Rattle.script_image.specs.declared.pieces.Piece.{Piece}
use Rattle.script_image.specs.declared.pieces.Place.{Place}
use Rattle.script_image.specs.declared.pieces.Place.TheVariants as place
use Rattle.script_image.specs.Pieces.{ArePieces, IsPiece, IsTextOf, Lead, from_script, script_count}
use Rattle.session_outside.specs.declared.sink.SinkRefusal.{SinkRefusal}
use Rattle.session_outside.specs.Sink.{Gains, GainsAllOrFront, GainsFront}
use Rattle.session_outside.proofs.WriteLemmas.{Gains-more, Gains-none}
use Rattle.session_output.proofs.Texts.{front_behind, front_longer}
use Rattle.session_output.specs.declared.text.ListedScript.{ListedScript}
use Rattle.session_output.specs.Texts.{AllArePieces, AreTextsOf, GainsBetween, IsTextAt, left_of, texts_in}

-- ---- pieces

pub all_pieces : (script : ListedScript) (from to : Place) (pieces : List Piece) → Lead script.listing script.stencil from pieces to → AllArePieces script pieces
all_pieces script from to [] lead = tt
all_pieces script from to (p ∷ pieces) lead = (lead.1, all_pieces script p.to to pieces lead.2)

-- the one of a number below their count
pub piece_at : (script : ListedScript) (pieces : List Piece) (number : ℕ) (other : Piece) → AllArePieces script pieces → number < length pieces → IsPiece script.listing script.stencil (get_or pieces number other).from (get_or pieces number other).to
piece_at script [] number other all there = absurd (omega (arith, there))
piece_at script (p ∷ pieces) zero other all there = all.0
piece_at script (p ∷ pieces) (suc number) other all there = piece_at script pieces number other all.1 (omega (arith, there))

-- they lead to some place between, and from there to the end
lead_split : (script : ListedScript) (n : ℕ) (from to : Place) (pieces : List Piece) → n ≤ length pieces → Lead script.listing script.stencil from pieces to
    → (mid : Place) × Lead script.listing script.stencil from (take n pieces) mid × Lead script.listing script.stencil mid (drop n pieces) to
lead_split script zero from to pieces few lead = (from, refl, lead)
lead_split script (suc n) from to [] few lead = absurd (omega (arith, few))
lead_split script (suc n) from to (p ∷ pieces) few lead =
    let h = lead_split script n p.to to pieces (omega (arith, few)) lead.2 in
    (h.0, (lead.0, lead.1, h.1), h.2)

-- ---- their texts

-- one after another they are what is listed between two places
pub texts_lead : (script : ListedScript) (from to : Place) (pieces : List Piece) (texts : List (Vec ℕ Global)) → Lead script.listing script.stencil from pieces to → AreTextsOf script pieces texts → texts_in texts ++ left_of script to ≡ left_of script from
texts_lead script from to [] [] lead are = ap (left_of script) (sym lead)
texts_lead script from to [] (t ∷ texts) lead are = absurd are
texts_lead script from to (p ∷ pieces) [] lead are = absurd are
texts_lead script from to (p ∷ pieces) (t ∷ texts) lead are =
    append_assoc t.items (texts_in texts) (left_of script to)
    ∙ ap (λ (l : List ℕ). t.items ++ l) (texts_lead script p.to to pieces texts lead.2 are.1)
    ∙ are.0
    ∙ ap (left_of script) (sym lead.0)

texts_from : (script : ListedScript) (pieces : List Piece) (texts : List (Vec ℕ Global)) → length texts ≡ length pieces
    → ((k : ℕ) (d : Vec ℕ Global) → k < length texts → (piece : Piece) → slice_get pieces k ≡ Some piece → IsTextOf script.listing script.stencil piece (get_or texts k d).items) → AreTextsOf script pieces texts
texts_from script [] [] long each = tt
texts_from script [] (t ∷ texts) long each = absurd (omega (arith, long))
texts_from script (p ∷ pieces) [] long each = absurd (omega (arith, long))
texts_from script (p ∷ pieces) (t ∷ texts) long each = (
  each 0 t (omega arith) p refl,
  texts_from script pieces texts (omega (arith, long)) (λ k d there piece at. each (suc k) d (omega (arith, there)) piece at),
)

-- what all tasks gave
pub are_texts : (script : ListedScript) (pieces : List Piece) (texts : List (Vec ℕ Global)) → length texts ≡ length pieces → GivesEach (λ (k : ℕ) (text : Vec ℕ Global). IsTextAt script pieces k text.items) texts → AreTextsOf script pieces texts
are_texts script pieces texts long each = texts_from script pieces texts long (λ k d there piece at. each k d there piece at)

-- ---- in the middle of a listing

-- The pieces before a number are written, and the sink has not failed.
pub record IsWritingFrom (script : ListedScript) (pieces : List Piece) (done : ℕ) (faults_then faults_now : ℕ) (taken_then taken_now : Option (List ℕ)) : Type 0 where
  pub counted : faults_now ≡ faults_then
  pub within : done ≤ length pieces
  pub text : List ℕ
  pub at : Place
  pub gained : Gains taken_then taken_now text
  pub left : text ++ left_of script at ≡ left_of script (place.Before 0)
  pub lead : Lead script.listing script.stencil at (drop done pieces) (place.Before (script_count script.stencil))

pub writing_start : (script : ListedScript) (pieces : List Piece) (faults : ℕ) (taken : Option (List ℕ)) → ArePieces script.listing script.stencil pieces → IsWritingFrom script pieces 0 faults faults taken taken
writing_start script pieces faults taken are = record {
  counted = refl;
  within = omega arith;
  text = [];
  at = place.Before 0;
  gained = Gains-none taken;
  left = refl;
  lead = are;
}

-- the pieces of a round, and those behind them
pub round_pieces : (script : ListedScript) (pieces round : List Piece) (done count : ℕ) (faults_then faults_now : ℕ) (taken_then taken_now : Option (List ℕ)) → round ≡ take count (drop done pieces) → count ≤ length pieces - done
    → (w : IsWritingFrom script pieces done faults_then faults_now taken_then taken_now)
    → (mid : Place) × Lead script.listing script.stencil w.at round mid × Lead script.listing script.stencil mid (drop (done + count) pieces) (place.Before (script_count script.stencil))
round_pieces script pieces round done count faults_then faults_now taken_then taken_now is few w =
    let behind = length-drop done pieces in
    let h = lead_split script count w.at (place.Before (script_count script.stencil)) (drop done pieces) (omega (arith, few, behind)) w.lead in (
      h.0,
      subst (λ (ps : List Piece). Lead script.listing script.stencil w.at ps h.0) (sym is) h.1,
      subst (λ (ps : List Piece). Lead script.listing script.stencil h.0 ps (place.Before (script_count script.stencil))) (drop-drop count done pieces) h.2,
    )

-- a round is written
writing_on : (script : ListedScript) (pieces : List Piece) (done next : ℕ) (faults_then faults_before faults_now : ℕ) (taken_then taken_before taken_now : Option (List ℕ)) (w : IsWritingFrom script pieces done faults_then faults_before taken_then taken_before)
    → next ≤ length pieces → faults_now ≡ faults_before → (mid : Place) → Lead script.listing script.stencil mid (drop next pieces) (place.Before (script_count script.stencil))
    → ((text : List ℕ) × (text ++ left_of script mid ≡ left_of script w.at) × Gains taken_before taken_now text) → IsWritingFrom script pieces next faults_then faults_now taken_then taken_now
writing_on script pieces done next faults_then faults_before faults_now taken_then taken_before taken_now w few same mid lead more = record {
  counted = same ∙ w.counted;
  within = few;
  text = w.text ++ more.0;
  at = mid;
  gained = Gains-more taken_then taken_before taken_now w.text more.0 w.gained more.2;
  left = append_assoc w.text more.0 (left_of script mid) ∙ ap (λ (l : List ℕ). w.text ++ l) more.1 ∙ w.left;
  lead = lead;
}

-- the sink refuses
pub writing_front : (script : ListedScript) (pieces : List Piece) (done : ℕ) (faults_then faults_before : ℕ) (taken_then taken_before taken_now : Option (List ℕ)) (w : IsWritingFrom script pieces done faults_then faults_before taken_then taken_before)
    → GainsFront taken_before taken_now (left_of script w.at) → GainsFront taken_then taken_now (from_script script.listing script.stencil 0)
writing_front script pieces done faults_then faults_before taken_then taken_before taken_now w front =
    subst (λ (l : List ℕ). GainsFront taken_then taken_now l) w.left (front_behind taken_then taken_before taken_now w.text (left_of script w.at) w.gained front)

pub writing_more : (script : ListedScript) (pieces round : List Piece) (done next : ℕ) (faults_then faults_before faults_now : ℕ) (taken_then taken_before taken_now : Option (List ℕ)) → round ≡ take (length round) (drop done pieces) → length round ≤ length pieces - done → next ≡ done + length round
    → faults_now ≡ faults_before → ((from to : Place) → Lead script.listing script.stencil from round to → (text : List ℕ) × (text ++ left_of script to ≡ left_of script from) × Gains taken_before taken_now text)
    → IsWritingFrom script pieces done faults_then faults_before taken_then taken_before → IsWritingFrom script pieces next faults_then faults_now taken_then taken_now
writing_more script pieces round done next faults_then faults_before faults_now taken_then taken_before taken_now are few is same took w =
    let r = round_pieces script pieces round done (length round) faults_then faults_before taken_then taken_before are few w in
    let within = w.within in
    writing_on script pieces done next faults_then faults_before faults_now taken_then taken_before taken_now w (omega (arith, is, few, within)) same r.0
    (subst (λ (n : ℕ). Lead script.listing script.stencil r.0 (drop n pieces) (place.Before (script_count script.stencil))) (sym is) r.2) (took w.at r.0 r.1)

-- a round is made, or its writing refused
pub round_front : (script : ListedScript) (pieces round : List Piece) (done : ℕ) (faults_then faults_before : ℕ) (taken_then taken_before taken_now : Option (List ℕ)) → round ≡ take (length round) (drop done pieces) → length round ≤ length pieces - done
    → ((from to : Place) → Lead script.listing script.stencil from round to → GainsFront taken_before taken_now (left_of script from))
    → IsWritingFrom script pieces done faults_then faults_before taken_then taken_before → GainsFront taken_then taken_now (from_script script.listing script.stencil 0)
round_front script pieces round done faults_then faults_before taken_then taken_before taken_now are few took w =
    let r = round_pieces script pieces round done (length round) faults_then faults_before taken_then taken_before are few w in
    writing_front script pieces done faults_then faults_before taken_then taken_before taken_now w (took w.at r.0 r.1)

-- the pieces of a round are pieces
pub round_all : (script : ListedScript) (pieces round : List Piece) (done : ℕ) (faults_then faults_before : ℕ) (taken_then taken_before : Option (List ℕ)) → round ≡ take (length round) (drop done pieces) → length round ≤ length pieces - done
    → IsWritingFrom script pieces done faults_then faults_before taken_then taken_before → AllArePieces script round
round_all script pieces round done faults_then faults_before taken_then taken_before are few w =
    let r = round_pieces script pieces round done (length round) faults_then faults_before taken_then taken_before are few w in
    all_pieces script w.at r.0 round r.1

drop_none : (pieces : List Piece) (n : ℕ) → length pieces ≤ n → drop n pieces ≡ []
drop_none [] zero long = refl
drop_none [] (suc n) long = refl
drop_none (p ∷ pieces) zero long = absurd (omega (arith, long))
drop_none (p ∷ pieces) (suc n) long = drop_none pieces n (omega (arith, long))

-- all pieces are written
pub writing_end : (script : ListedScript) (pieces : List Piece) (done : ℕ) (faults_then faults_now : ℕ) (taken_then taken_now : Option (List ℕ)) → length pieces ≤ done → IsWritingFrom script pieces done faults_then faults_now taken_then taken_now
    → Gains taken_then taken_now (from_script script.listing script.stencil 0)
writing_end script pieces done faults_then faults_now taken_then taken_now long w =
    let last : Lead script.listing script.stencil w.at [] (place.Before (script_count script.stencil)) = subst (λ (ps : List Piece). Lead script.listing script.stencil w.at ps (place.Before (script_count script.stencil))) (drop_none pieces done long) w.lead in
    let none : left_of script w.at ≡ [] = ap (left_of script) last ∙ none_left script.listing script.stencil in
    let whole : w.text ≡ from_script script.listing script.stencil 0 = sym (append-nil w.text) ∙ ap (λ (l : List ℕ). w.text ++ l) (sym none) ∙ w.left in
    subst (λ (l : List ℕ). Gains taken_then taken_now l) whole w.gained

-- what a sink has taken of the texts of pieces is what it has taken of the listing
pub between_written : {T : Type 0} (script : ListedScript) (from to : Place) (pieces : List Piece) (texts : List (Vec ℕ Global)) (before now : Option (List ℕ)) (r : Result T SinkRefusal) → Lead script.listing script.stencil from pieces to → AreTextsOf script pieces texts
    → GainsAllOrFront before now (texts_in texts) r → GainsBetween script from to before now r
between_written script from to pieces texts before now (Ok value) lead are gained = (texts_in texts, texts_lead script from to pieces texts lead are, gained)
between_written script from to pieces texts before now (Err refusal) lead are front =
    subst (λ (l : List ℕ). GainsFront before now l) (texts_lead script from to pieces texts lead are) (front_longer before now (texts_in texts) (left_of script to) front)
