use denote.Param.Weighed.{most, at_most}
use Rattle.std.proofs.Common.{◌∙◌, ◌≤◌, ap, arith, length, refl, rules, subst, sym}
use Rattle.std.proofs.lemmas.Grind.{common_steps}
use Rattle.std.proofs.lemmas.Iterator.Adapters.{YieldsList-from_vec}
use Rattle.std.proofs.lemmas.Iterator.Consumers.{YieldsList-end, YieldsList-so_far, YieldsList-turn}
use Rattle.std.specs.declared.vec.Vec.{Vec}
use Rattle.std.specs.declared.alloc.Global.{Global}
use Rattle.script_grammar.specs.Interpretation.{maybe_named}
use Rattle.parse_track.specs.Told as told
use Rattle.parse_track.specs.Log.{Log, label_of, name_of, region_of}
use Rattle.parse_track.specs.Tells.{tells_jump}
use Rattle.track_log_laws.specs.Spelled.{region_text}
use Rattle.parse_track_pieces.specs.declared.piece.Piece.{Piece, size-Piece, the_lemmas}
use Rattle.parse_track_pieces.specs.declared.piece.RegionHead.{RegionHead}
use Rattle.parse_track_pieces.specs.declared.piece.ToldJump.{ToldJump}
use Rattle.parse_track_pieces.specs.Pieces.{telling, piece_says, pieces_say, says_read, says_region}
use Rattle.parse_track_pieces.specs.Walks.{HasNumbers}
use Rattle.parse_track_pieces.specs.Weight.{weight}
use Rattle.parse_track_pieces.proofs.PieceEquations.{says-Declared, says-Used, says-This, says-Jumped, says-Inside, says-EmptyBlock, says-Many, says-Passed, says-Kept}
use Rattle.parse_track.specs.declared.region.Region.TheVariants as kind
use Rattle.parse_track_pieces.proofs.Appending.{map-same}
use Rattle.parse_track_pieces.proofs.Logs.{stays}
use Rattle.parse_track_pieces.proofs.Numbers.{numbers_inside, next_numbers, numbers_as, passed_numbers, popped_numbers, region_number, split_at}
use Rattle.parse_track_pieces.proofs.Walking.{label_text, leaf_stays_as, none_left, popped_lighter, region_stays_as, turn_begin, turn_end, turn_next, walk_as, walk_leaf, walk_none, walk_nothing, walk_passed, walk_popped, walk_region, walk_this, weight_push}
use Rattle.parse_track_pieces.proofs.walk.+telling.Goals as goal

pub tell_piece-returns-in_ok-declare-in-Declared-clause-tells : goal.tell_piece-returns-in_ok-declare-in-Declared-clause-tells
tell_piece-returns-in_ok-declare-in-Declared-clause-tells t c = λ i.
    walk_as i (λ rest. ap (λ p. piece_says i p rest) c.in-Declared.is ∙ says-Declared i c.in-Declared.how c.in-Declared.name rest)
    (walk_leaf i _ (told.Declared c.in-Declared.how (name_of c.in-Declared.name)) c.in_ok-declare-in-Declared.ensures)

pub tell_piece-returns-in_ok-declare-in-Declared-clause-stays : goal.tell_piece-returns-in_ok-declare-in-Declared-clause-stays
tell_piece-returns-in_ok-declare-in-Declared-clause-stays t c = leaf_stays_as (told.Declared c.in-Declared.how (name_of c.in-Declared.name)) c.in_ok-declare-in-Declared.ensures

pub tell_piece-returns-in_ok-used-in-Used-clause-tells : goal.tell_piece-returns-in_ok-used-in-Used-clause-tells
tell_piece-returns-in_ok-used-in-Used-clause-tells t c = λ i.
    walk_as i (λ rest. ap (λ p. piece_says i p rest) c.in-Used.is ∙ says-Used i c.in-Used.atom rest)
    (walk_leaf i _ (told.Used c.in-Used.atom) c.in_ok-used-in-Used.ensures)

pub tell_piece-returns-in_ok-used-in-Used-clause-stays : goal.tell_piece-returns-in_ok-used-in-Used-clause-stays
tell_piece-returns-in_ok-used-in-Used-clause-stays t c = leaf_stays_as (told.Used c.in-Used.atom) c.in_ok-used-in-Used.ensures

pub tell_piece-returns-in_ok-tell_this-in-This-clause-tells : goal.tell_piece-returns-in_ok-tell_this-in-This-clause-tells
tell_piece-returns-in_ok-tell_this-in-This-clause-tells t c = λ i.
    walk_as i (λ rest. ap (λ p. piece_says i p rest) c.in-This.is ∙ says-This i rest) (walk_this i _ c.in_ok-tell_this-in-This.ensures)

pub tell_piece-returns-in_ok-tell_this-in-This-clause-stays : goal.tell_piece-returns-in_ok-tell_this-in-This-clause-stays
tell_piece-returns-in_ok-tell_this-in-This-clause-stays t c = leaf_stays_as (told.Used c.args.track.now.known.this) c.in_ok-tell_this-in-This.ensures

pub tell_piece-returns-in_ok-tell_jump-in-Jumped-clause-tells : goal.tell_piece-returns-in_ok-tell_jump-in-Jumped-clause-tells
tell_piece-returns-in_ok-tell_jump-in-Jumped-clause-tells t c = λ i.
    let jump = c.into_inner.result in
    walk_as i
    (λ rest.
    ap (λ p. piece_says i p rest) c.in-Jumped.is
    ∙ says-Jumped i c.in-Jumped.jump rest
    ∙ ap (λ (j : ToldJump). telling rest (tells_jump j.word j.at (maybe_named i j.label) rest.told)) (sym c.into_inner.ensures)
    ∙ ap (λ l. telling rest (told.leaf (told.Jumped jump.word jump.at l) rest.told)) (sym (label_text i jump.label)))
    (walk_leaf i _ (told.Jumped jump.word jump.at (label_of jump.label)) c.in_ok-tell_jump-in-Jumped.ensures)

pub tell_piece-returns-in_ok-tell_jump-in-Jumped-clause-stays : goal.tell_piece-returns-in_ok-tell_jump-in-Jumped-clause-stays
tell_piece-returns-in_ok-tell_jump-in-Jumped-clause-stays t c =
    let jump = c.into_inner.result in
    leaf_stays_as (told.Jumped jump.word jump.at (label_of jump.label)) c.in_ok-tell_jump-in-Jumped.ensures

pub tell_piece-returns-in_ok-tell_pieces-in-Inside-clause-tells : goal.tell_piece-returns-in_ok-tell_pieces-in-Inside-clause-tells
tell_piece-returns-in_ok-tell_pieces-in-Inside-clause-tells t c = λ i.
    let region = c.into_inner-pieces.result in
    walk_as i
    (λ rest.
    ap (λ p. piece_says i p rest) c.in-Inside.is
    ∙ says-Inside i c.in-Inside.region rest
    ∙ ap (λ (r : RegionHead × Vec Piece Global). says_region (region_text i (region_of r.0.kind)) r.0.at (pieces_say i r.1.items) rest) (sym c.into_inner-pieces.ensures))
    (walk_region i region.0.kind region.0.at c.in_ok-enter-in-Inside.ensures.1 c.in_ok-tell_pieces-in-Inside.ensures.stays
    (c.in_ok-tell_pieces-in-Inside.ensures.tells i) c.leave.ensures)

pub tell_piece-returns-in_ok-tell_pieces-in-Inside-clause-stays : goal.tell_piece-returns-in_ok-tell_pieces-in-Inside-clause-stays
tell_piece-returns-in_ok-tell_pieces-in-Inside-clause-stays t c =
    let region = c.into_inner-pieces.result in
    region_stays_as region.0.kind region.0.at c.in_ok-enter-in-Inside.ensures.1 c.in_ok-tell_pieces-in-Inside.ensures.stays c.leave.ensures

pub tell_piece-returns-in_ok-tell_empty_block-in-EmptyBlock-clause-tells : goal.tell_piece-returns-in_ok-tell_empty_block-in-EmptyBlock-clause-tells
tell_piece-returns-in_ok-tell_empty_block-in-EmptyBlock-clause-tells t c = λ i.
    walk_as i (λ rest. ap (λ p. piece_says i p rest) c.in-EmptyBlock.is ∙ says-EmptyBlock i rest)
    (walk_region i kind.Block 0 refl (stays _) (walk_nothing i _ _) c.in_ok-tell_empty_block-in-EmptyBlock.ensures)

pub tell_piece-returns-in_ok-tell_empty_block-in-EmptyBlock-clause-stays : goal.tell_piece-returns-in_ok-tell_empty_block-in-EmptyBlock-clause-stays
tell_piece-returns-in_ok-tell_empty_block-in-EmptyBlock-clause-stays t c = region_stays_as kind.Block 0 refl (stays _) c.in_ok-tell_empty_block-in-EmptyBlock.ensures

pub tell_piece-returns-in_ok-tell_pieces-in-Many-clause-tells : goal.tell_piece-returns-in_ok-tell_pieces-in-Many-clause-tells
tell_piece-returns-in_ok-tell_pieces-in-Many-clause-tells t c = λ i.
    walk_as i
    (λ rest.
    ap (λ p. piece_says i p rest) c.in-Many.is
    ∙ says-Many i c.in-Many.pieces rest
    ∙ ap (λ (v : Vec Piece Global). pieces_say i v.items rest) (sym c.into_inner-in-Many.ensures))
    (c.in_ok-tell_pieces-in-Many.ensures.tells i)

pub tell_piece-returns-in_ok-tell_next-in-Passed-clause-tells : goal.tell_piece-returns-in_ok-tell_next-in-Passed-clause-tells
tell_piece-returns-in_ok-tell_next-in-Passed-clause-tells t c = λ i.
    walk_as i (λ rest. ap (λ p. piece_says i p rest) c.in-Passed.is ∙ says-Passed i _ rest) (c.in_ok-tell_next-in-Passed.ensures.tells i _)

pub tell_piece-returns-in_ok-tell_kept-in-Kept-clause-tells : goal.tell_piece-returns-in_ok-tell_kept-in-Kept-clause-tells
tell_piece-returns-in_ok-tell_kept-in-Kept-clause-tells t c = λ i.
    walk_as i (λ rest. ap (λ p. piece_says i p rest) c.in-Kept.is ∙ says-Kept i c.in-Kept.pieces rest ∙ ap (λ (v : Vec Piece Global). says_read (pieces_say i v.items) rest) (sym c.into_inner-in-Kept.ensures))
    (c.in_ok-tell_kept-in-Kept.ensures.tells i)

-- there is a number for each region that is entered

pub tell_piece-enter-requires : goal.tell_piece-enter-requires
tell_piece-enter-requires t c =
    let region = c.into_inner-pieces.result in
    region_number region.0.kind region.0.at (λ i. pieces_say i region.1.items)
    (numbers_as
    (λ i rest. ap (λ p. piece_says i p rest) c.in-Inside.is
    ∙ says-Inside i c.in-Inside.region rest
    ∙ ap (λ (r : RegionHead × Vec Piece Global). says_region (region_text i (region_of r.0.kind)) r.0.at (pieces_say i r.1.items) rest) (sym c.into_inner-pieces.ensures))
    c.requires.numbers)

pub tell_piece-tell_empty_block-requires-clause-number : goal.tell_piece-tell_empty_block-requires-clause-number
tell_piece-tell_empty_block-requires-clause-number t c =
    region_number kind.Block 0 (λ i inside. inside) (numbers_as (λ i rest. ap (λ p. piece_says i p rest) c.in-EmptyBlock.is ∙ says-EmptyBlock i rest) c.requires.numbers)

pub tell_piece-tell_pieces-requires : goal.tell_piece-tell_pieces-requires
tell_piece-tell_pieces-requires t c =
    (search (rules, the_lemmas), (search rules, numbers_inside c.in-Inside.is c.into_inner-pieces.ensures c.in_ok-enter-in-Inside.ensures.1 c.requires.numbers))

pub tell_pieces-tell_piece-requires : goal.tell_pieces-tell_piece-requires
tell_pieces-tell_piece-requires t c =
    let start = c.into_iter-piece-iterator.ensures.into_iter_gives in
    let road = YieldsList-from_vec c.args.pieces.items start.0 (start.1 ∙ c.args.pieces.ok.0) in
    let done = c.loop-piece.yielded in
    let so_far = YieldsList-so_far road done c.loop-piece.piece-iterator c.loop-piece.yielded_by in
    let turn = YieldsList-turn road done c.loop-piece.piece-iterator c.loop-piece.yielded_by c.next.result c.next.new.self c.in-Some.piece c.in-Some.is c.next.ensures.steps in
    let below : size-Piece c.in-Some.piece ≤ most size-Piece c.args.pieces.items =
    subst (λ (p : Piece). size-Piece p ≤ most size-Piece c.args.pieces.items) (sym turn.1) (at_most size-Piece c.args.pieces.items (length done) c.in-Some.piece turn.0) in
    let lighter = c.loop-piece.invariant.lighter in (
      omega (arith, below, lighter, c.decreases),
      (
        search rules,
        next_numbers c.args.pieces.items done _ c.in-Some.piece (split_at c.args.pieces.items done c.in-Some.piece (sym (map-same done) ∙ so_far) turn.0 turn.1) c.loop-piece.invariant
            (subst (λ (log : Log). HasNumbers log c.args.bodies.now.items (λ i. pieces_say i c.args.pieces.items)) (sym c.make_room.ensures) c.requires.numbers),
      ),
    )

pub tell_pieces-loop-piece-init : goal.tell_pieces-loop-piece-init
tell_pieces-loop-piece-init t c = turn_begin _ _

pub tell_pieces-loop-piece-preserved : goal.tell_pieces-loop-piece-preserved
tell_pieces-loop-piece-preserved t c =
    turn_next c.loop-piece.yielded c.in-Some.piece c.in_ok-tell_piece.ensures.stays c.in_ok-tell_piece.ensures.lighter c.in_ok-tell_piece.ensures.tells c.loop-piece.invariant

pub tell_pieces-returns-clause-tells : goal.tell_pieces-returns-clause-tells
tell_pieces-returns-clause-tells t c =
    let start = c.into_iter-piece-iterator.ensures.into_iter_gives in
    let seen = YieldsList-end (YieldsList-from_vec c.args.pieces.items start.0 (start.1 ∙ c.args.pieces.ok.0)) c.loop-piece.yielded c.loop-piece.piece-iterator c.loop-piece.yielded_by c.next.result c.next.new.self c.in-None.is c.next.ensures.steps in
    rw (← c.make_room.ensures) (turn_end (sym (map-same c.loop-piece.yielded) ∙ seen.0) c.loop-piece.invariant)

pub tell_next-returns-in_ok-tell_piece-in-Some-clause-lighter : goal.tell_next-returns-in_ok-tell_piece-in-Some-clause-lighter
tell_next-returns-in_ok-tell_piece-in-Some-clause-lighter t c =
    let e = ap weight c.in-Some.ensures.items ∙ weight_push _ c.in-Some.body in
    let l = c.in_ok-tell_piece-in-Some.ensures.lighter in
    omega (arith, e, l)

pub tell_next-returns-in_ok-tell_piece-in-Some-clause-tells : goal.tell_next-returns-in_ok-tell_piece-in-Some-clause-tells
tell_next-returns-in_ok-tell_piece-in-Some-clause-tells t c = λ i start. walk_passed i c.in-Some.body start c.in-Some.ensures.items (c.in_ok-tell_piece-in-Some.ensures.tells i)

pub tell_next-tell_piece-requires : goal.tell_next-tell_piece-requires
tell_next-tell_piece-requires t c =
    let e = ap weight c.in-Some.ensures.items ∙ weight_push _ c.in-Some.body in
    (omega (arith, e, c.decreases), (c.requires.present, passed_numbers c.in-Some.body c.in-Some.ensures.items c.requires.numbers))

pub tell_kept-returns-clause-lighter : goal.tell_kept-returns-clause-lighter
tell_kept-returns-clause-lighter t c =
    let e = popped_lighter c.pop.result _ _ c.pop.ensures.items in
    let l = c.in_ok-tell_pieces.ensures.lighter in
    omega (arith, e, l)

pub tell_kept-returns-clause-tells : goal.tell_kept-returns-clause-tells
tell_kept-returns-clause-tells t c = λ i. walk_popped i _ _ c.pop.result _ _ _ c.pop.ensures.items c.pop.ensures.rest c.pop.ensures.cases (c.in_ok-tell_pieces.ensures.tells i)

pub tell_kept-tell_pieces-requires : goal.tell_kept-tell_pieces-requires
tell_kept-tell_pieces-requires t c =
    let e = popped_lighter c.pop.result _ _ c.pop.ensures.items in
    (omega (arith, e, c.decreases), (c.requires.present, popped_numbers _ _ c.pop.result _ _ _ c.pop.ensures.items c.pop.ensures.rest c.pop.ensures.cases c.requires.numbers))

pub tell_next-returns-in-None-clause-tells : goal.tell_next-returns-in-None-clause-tells
tell_next-returns-in-None-clause-tells t c = λ i start. walk_none i start (none_left _ _ _ c.in-None.ensures.items c.in-None.ensures.rest c.in-None.ensures.cases.0)
