-- The track has a number for each region that is entered on a walk.
use Rattle.std.proofs.Common.{◌≡◌, ℕ, ◌+◌, ◌-◌, ◌^◌, ◌<◌, ◌≤◌, suc, List, [], ◌∷◌, ◌++◌, length, take, drop, get_or, take-append-drop, drop-cons, reverse, subst, ap, sym, refl, ◌∙◌, arith, Option, Some, None}
use Rattle.std.specs.Prelude.{true, codes, option_to_list, MatchOption}
use Rattle.script_grammar.specs.Braced.{in_stmts}
use Rattle.script_grammar.specs.Interpretation.{Interpretation, text_of}
use Rattle.script_grammar.specs.Shows.{ShowAll}
use Rattle.script_grammar.specs.Tree.{Stmts}
use Rattle.parse_track.specs.declared.region.Region.{Region}
use Rattle.parse_track.specs.declared.region.Region.TheVariants as region
use Rattle.parse_track.specs.declared.region.WellKnownAtoms.{WellKnownAtoms}
use Rattle.parse_track.specs.Counted.{region_count}
use Rattle.parse_track.specs.Log.{Log, entered, region_of}
use Rattle.parse_track.specs.Told.{Told, nothing}
use Rattle.parse_track.specs.Tells.{Text}
use Rattle.track_log_laws.specs.Spelled.{region_text}
use Rattle.track_log_laws.proofs.Lengths.{length-logged}
use Rattle.parse_track_pieces.specs.declared.piece.Piece.{Piece}
use Rattle.std.specs.declared.vec.Vec.{Vec}
use Rattle.std.specs.declared.boxed.Box.{Box}
use Rattle.std.specs.declared.alloc.Global.{Global}
use Rattle.parse_track_pieces.specs.declared.piece.RegionHead.{RegionHead}
use Rattle.parse_track_pieces.specs.declared.piece.Piece.TheVariants as piece
use Rattle.parse_track_pieces.proofs.PieceEquations.{says-Inside, says-Many, says-Passed, says-Kept}
use Rattle.parse_track_pieces.specs.Pieces.{Rest, telling, says_region, says_passed, says_read, piece_says, pieces_say}
use Rattle.parse_track_pieces.specs.Says.{AreWanted, SaysBody}
use Rattle.parse_track_pieces.specs.Walks.{KnowsThis, AtHand, HasNumbers, HasScriptNumbers}
use Rattle.parse_track_pieces.proofs.Logs.{count_entered}
use Rattle.parse_track_pieces.proofs.Walking.{Turn, at_hand_push, none_left, knows_still}

-- the same of what says the same
pub numbers_as : {a : Log} {x : List Piece} {f g : Interpretation → Rest → Rest} → ((i : Interpretation) (rest : Rest) → f i rest ≡ g i rest) → HasNumbers a x f → HasNumbers a x g
numbers_as {a = a} e h = record {
  i = h.i;
  rest = h.rest;
  all = h.all;
  knows = h.knows;
  wanted = subst (λ (r : Rest). AreWanted r.bodies h.all) (e h.i h.rest) h.wanted;
  hand = h.hand;
  few = subst (λ (r : Rest). length a.parts + region_count r.told ≤ 2 ^ 31) (e h.i h.rest) h.few;
}

-- a region has a number, and those inside have theirs once it is entered
pub region_number : {a : Log} {x : List Piece} (kind : Region) (at : ℕ) (f : Interpretation → Rest → Rest)
    → HasNumbers a x (λ i. says_region (region_text i (region_of kind)) at (f i)) → length a.parts < 2 ^ 31
region_number kind at f h = let few = h.few in omega (arith, few)

knows_entered : (i : Interpretation) (a m : Log) (kind : Region) (at : ℕ) → m ≡ entered a kind at → KnowsThis i a → KnowsThis i m
knows_entered i a m kind at e k = ap (λ (log : Log). text_of i log.known.this) e ∙ k

length_entered : (a m : Log) (kind : Region) (at : ℕ) → m ≡ entered a kind at → length m.parts ≡ length a.parts + 1
length_entered a m kind at e = ap (λ (log : Log). length log.parts) e ∙ count_entered a kind at

pub inside_numbers : {a m : Log} {x : List Piece} {f : Interpretation → Rest → Rest} (kind : Region) (at : ℕ) → m ≡ entered a kind at
    → HasNumbers a x (λ i. says_region (region_text i (region_of kind)) at (f i)) → HasNumbers m x f
inside_numbers {a = a} {m = m} kind at e h = record {
  i = h.i;
  rest = telling h.rest nothing;
  all = h.all;
  knows = knows_entered h.i a m kind at e h.knows;
  wanted = h.wanted;
  hand = h.hand;
  few = let few = h.few in let one = length_entered a m kind at e in omega (arith, few, one);
}

pub script_number : {a : Log} {x : List Piece} {script : Piece} → HasScriptNumbers a x script → length a.parts < 2 ^ 31
script_number h = let few = h.few in omega (arith, few)

pub script_numbers : {a m : Log} {x : List Piece} {script : Piece} (at : ℕ) → m ≡ entered a region.Script at → HasScriptNumbers a x script → HasNumbers m x (λ i. piece_says i script)
script_numbers {a = a} {m = m} at e h =
    let rest : Rest = record { told = nothing; bodies = [] } in
    let says = h.says.holds rest [] refl in
    record {
      i = h.i;
      rest = rest;
      all = in_stmts true h.items [];
      knows = knows_entered h.i a m region.Script at e h.knows;
      wanted = says.1;
      hand = h.hand;
      few = let few = h.few in let one = length_entered a m region.Script at e in let same = ap (λ (t : Told Text). region_count t) says.0 in omega (arith, few, one, same);
    }

-- pieces one after the other
say_both : (i : Interpretation) (done more : List Piece) (rest : Rest) → pieces_say i (done ++ more) rest ≡ pieces_say i done (pieces_say i more rest)
say_both i [] more rest = refl
say_both i (piece ∷ done) more rest = ap (piece_says i piece) (say_both i done more rest)

-- the piece that comes after those that were yielded, and those behind it
pub split_at : (all done : List Piece) (piece : Piece) → done ≡ take (length done) all → length done < length all → piece ≡ get_or all (length done) piece
    → all ≡ done ++ piece ∷ drop (suc (length done)) all
split_at all done piece e lt at =
    sym (take-append-drop (length done) all)
    ∙ (ap (λ (xs : List Piece). xs ++ drop (length done) all) (sym e)
    ∙ ap (λ (xs : List Piece). done ++ xs) (drop-cons all (length done) piece lt ∙ ap (λ (p : Piece). p ∷ drop (suc (length done)) all) (sym at)))

pub next_numbers : {a b : Log} {x y : List Piece} (all done behind : List Piece) (piece : Piece) → all ≡ done ++ piece ∷ behind → Turn a b x y done
    → HasNumbers a x (λ i. pieces_say i all) → HasNumbers b y (λ i. piece_says i piece)
next_numbers {a = a} {b = b} {x = x} all done behind piece e turn h =
    let same : pieces_say h.i all h.rest ≡ pieces_say h.i done (pieces_say h.i (piece ∷ behind) h.rest) =
    ap (λ (ps : List Piece). pieces_say h.i ps h.rest) e ∙ say_both h.i done (piece ∷ behind) h.rest in
    let u = (turn.walks h.i).told h.knows (pieces_say h.i (piece ∷ behind) h.rest) h.all (subst (λ (r : Rest). AreWanted r.bodies h.all) same h.wanted) h.hand in
    let counts = length-logged h.i a b (pieces_say h.i done (pieces_say h.i (piece ∷ behind) h.rest)).told (pieces_say h.i (piece ∷ behind) h.rest).told u.3 in
    let same_count = ap (λ (r : Rest). region_count r.told) same in
    let few = h.few in
    record {
      i = h.i;
      rest = pieces_say h.i behind h.rest;
      all = u.0;
      knows = knows_still h.i a b turn.stays h.knows;
      wanted = u.1;
      hand = u.2;
      few = omega (arith, counts, same_count, few);
    }

-- the next body is taken, or passed over
pub passed_numbers : {a : Log} {before xs : List Piece} (v : Piece) → before ≡ xs ++ v ∷ [] → (start : ℕ) × HasNumbers a before (λ i. says_passed i start) → HasNumbers a xs (λ i. piece_says i v)
passed_numbers {a = a} {before = before} {xs = xs} v e p =
    let start = p.0 in
    let h = p.1 in
    let w = h.wanted in
    let shown = subst (λ (ss : List Stmts). ShowAll (SaysBody h.i) (v ∷ reverse xs) ss) w.1 (at_hand_push h.i before xs v h.all e h.hand) in
    let says = shown.0.holds h.rest w.0 w.2 in
    let few = h.few in
    let same = ap (λ (t : Told Text). region_count t) says.0 in
    record {
      i = h.i;
      rest = h.rest;
      all = in_stmts true (h.i.bodies start) w.0;
      knows = h.knows;
      wanted = says.1;
      hand = shown.1;
      few = omega (arith, few, same);
    }

read_numbers : {a : Log} {before xs : List Piece} {f : Interpretation → Rest → Rest} (v : Piece) → before ≡ xs ++ v ∷ [] → HasNumbers a before (λ i. says_read (f i)) → HasNumbers a xs f
read_numbers {before = before} {xs = xs} v e h =
    let w = h.wanted in
    let shown = subst (λ (ss : List Stmts). ShowAll (SaysBody h.i) (v ∷ reverse xs) ss) w.2 (at_hand_push h.i before xs v h.all e h.hand) in
    record { i = h.i; rest = h.rest; all = w.1; knows = h.knows; wanted = w.3; hand = shown.1; few = h.few }

unread_numbers : {a : Log} {before xs : List Piece} {f : Interpretation → Rest → Rest} → before ≡ [] → HasNumbers a before (λ i. says_read (f i)) → HasNumbers a xs f
unread_numbers {before = before} e h =
    absurd (subst (λ (ss : List Stmts). ShowAll (SaysBody h.i) [] ss) h.wanted.2 (subst (λ (ps : List Piece). AtHand h.i ps h.all) e h.hand))

pub popped_numbers : {a : Log} {f : Interpretation → Rest → Rest} (A : Type 0) (P : Piece → Type 0) (o : Option Piece) (before xs : List Piece) (n : ℕ) → before ≡ xs ++ option_to_list o → xs ≡ take (n - 1) before
    → MatchOption o ((n ≡ 0) × A) P → HasNumbers a before (λ i. says_read (f i)) → HasNumbers a xs f
popped_numbers A P None before xs n e r c h = unread_numbers (none_left before xs n e r c.0) h
popped_numbers A P (Some v) before xs n e r c h = read_numbers v e h

-- the same of the pieces that a piece holds

pub numbers_inside : {a m : Log} {x : List Piece} {whole : Piece} {region : Box (RegionHead × Vec Piece Global) Global} {parts : RegionHead × Vec Piece Global}
    → whole ≡ piece.Inside region → parts ≡ region.value → m ≡ entered a parts.0.kind parts.0.at → HasNumbers a x (λ i. piece_says i whole) → HasNumbers m x (λ i. pieces_say i parts.1.items)
numbers_inside {region = region} {parts = parts} is opened e h =
    inside_numbers parts.0.kind parts.0.at e
    (numbers_as
    (λ i rest. ap (λ p. piece_says i p rest) is
    ∙ says-Inside i region rest
    ∙ ap (λ (r : RegionHead × Vec Piece Global). says_region (region_text i (region_of r.0.kind)) r.0.at (pieces_say i r.1.items) rest) (sym opened)) h)

pub numbers_many : {a : Log} {x : List Piece} {whole : Piece} {pieces : Box (Vec Piece Global) Global} {parts : Vec Piece Global}
    → whole ≡ piece.Many pieces → parts ≡ pieces.value → HasNumbers a x (λ i. piece_says i whole) → HasNumbers a x (λ i. pieces_say i parts.items)
numbers_many {pieces = pieces} is opened h =
    numbers_as (λ i rest. ap (λ p. piece_says i p rest) is ∙ says-Many i pieces rest ∙ ap (λ (v : Vec Piece Global). pieces_say i v.items rest) (sym opened)) h

pub numbers_passed : {a : Log} {x : List Piece} {whole : Piece} {start : ℕ} → whole ≡ piece.Passed start → HasNumbers a x (λ i. piece_says i whole)
    → (start : ℕ) × HasNumbers a x (λ i. says_passed i start)
numbers_passed {start = start} is h = (start, numbers_as (λ i rest. ap (λ p. piece_says i p rest) is ∙ says-Passed i start rest) h)

pub numbers_kept : {a : Log} {x : List Piece} {whole : Piece} {pieces : Box (Vec Piece Global) Global} {parts : Vec Piece Global}
    → whole ≡ piece.Kept pieces → parts ≡ pieces.value → HasNumbers a x (λ i. piece_says i whole) → HasNumbers a x (λ i. says_read (pieces_say i parts.items))
numbers_kept {pieces = pieces} is opened h =
    numbers_as (λ i rest. ap (λ p. piece_says i p rest) is ∙ says-Kept i pieces rest ∙ ap (λ (v : Vec Piece Global). says_read (pieces_say i v.items) rest) (sym opened)) h
