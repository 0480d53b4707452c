use Rattle.std.proofs.Common.{◌∙◌, arith, map, subst, sym}
use Rattle.std.specs.Str.{IsAscii}
use Rattle.parse_function.specs.Holes.{span_at}
use Rattle.parse_function.proofs.GluedPoints.{parts_apart}
use Rattle.parse_function.proofs.GluedTokens.{few, fits, fit, stand_all, one_last, gains}
use Rattle.parse_function.proofs.Without.{parts_within}
use Rattle.parse_function.proofs.scanning.tokens_without.Goals as goal

pub scan_ascii-requires-clause-fits : goal.scan_ascii-requires-clause-fits
scan_ascii-requires-clause-fits c =
    omega (arith, c.part_of-bytes.ensures.count, parts_within c.args.file.now c.args.extent.start c.args.extent.end (map span_at c.args.holes.now) c.requires.parts, c.requires.size)

pub scan-requires-clause-fits : goal.scan-requires-clause-fits
scan-requires-clause-fits c =
    omega (arith, parts_within c.args.file.now c.args.extent.start c.args.extent.end (map span_at c.args.holes.now) c.requires.parts, c.requires.size)

pub scan_ascii-requires-then-is_ascii-2-clause-fits : goal.scan_ascii-requires-then-is_ascii-2-clause-fits
scan_ascii-requires-then-is_ascii-2-clause-fits c =
    let short = few c.args.file.now c.args.extent.start c.args.extent.end (map span_at c.args.holes.now) c.requires.parts c.requires.size c.deref-then-is_ascii-2.result.now (c.deref-then-is_ascii-2.ensures.value ∙ c.in_ok-bytes.ensures) in
    let high = fits c.args.file.now c.args.extent.start c.args.extent.end (map span_at c.args.holes.now) c.requires.parts c.requires.size c.deref-then-is_ascii-2.result.now (c.deref-then-is_ascii-2.ensures.value ∙ c.in_ok-bytes.ensures) in
    omega (arith, short, high)

pub scan_ascii-requires-then-is_ascii-2-clause-few : goal.scan_ascii-requires-then-is_ascii-2-clause-few
scan_ascii-requires-then-is_ascii-2-clause-few c =
    let short = few c.args.file.now c.args.extent.start c.args.extent.end (map span_at c.args.holes.now) c.requires.parts c.requires.size c.deref-then-is_ascii-2.result.now (c.deref-then-is_ascii-2.ensures.value ∙ c.in_ok-bytes.ensures) in
    let room = c.requires.room in
    omega (arith, short, room)

pub move_tokens-requires-clause-apart : goal.move_tokens-requires-clause-apart
move_tokens-requires-clause-apart c = parts_apart c.args.file.now c.args.extent.start c.args.extent.end (map span_at c.args.holes.now) c.requires.size c.requires.parts

pub move_tokens-requires-clause-fits : goal.move_tokens-requires-clause-fits
move_tokens-requires-clause-fits c =
    fit c.args.file.now c.args.extent.start c.args.extent.end (map span_at c.args.holes.now) c.requires.parts c.requires.size c.deref-then-is_ascii-2.result.now (c.deref-then-is_ascii-2.ensures.value ∙ c.in_ok-bytes.ensures)
    (subst IsAscii (c.deref.ensures.value ∙ sym c.deref-then-is_ascii-2.ensures.value) c.if-is_ascii-2.ensures.cases)
    c.scan_ascii-then-is_ascii-2.new.atoms c.in_ok-tokens-2.tokens.items c.in_ok-tokens-2.ensures.tokens c.deref_mut.result.now c.deref_mut.ensures.value

pub returns-then-is_ascii-2-clause-tokens : goal.returns-then-is_ascii-2-clause-tokens
returns-then-is_ascii-2-clause-tokens c =
    stand_all c.args.file.now c.args.extent.start c.args.extent.end (map span_at c.args.holes.now) c.requires.parts c.requires.size c.deref-then-is_ascii-2.result.now (c.deref-then-is_ascii-2.ensures.value ∙ c.in_ok-bytes.ensures)
    (subst IsAscii (c.deref.ensures.value ∙ sym c.deref-then-is_ascii-2.ensures.value) c.if-is_ascii-2.ensures.cases)
    c.scan_ascii-then-is_ascii-2.new.atoms c.in_ok-tokens-2.tokens.items c.in_ok-tokens-2.ensures.tokens c.deref_mut.result.now c.move_tokens.new.tokens c.in_ok-tokens-2.tokens.len c.deref_mut.ensures.value (sym c.deref_mut.ensures.len) c.move_tokens.ensures

pub returns-then-is_ascii-2-clause-last : goal.returns-then-is_ascii-2-clause-last
returns-then-is_ascii-2-clause-last c =
    one_last c.args.file.now c.args.extent.start c.args.extent.end (map span_at c.args.holes.now) c.requires.parts c.requires.size c.deref-then-is_ascii-2.result.now (c.deref-then-is_ascii-2.ensures.value ∙ c.in_ok-bytes.ensures)
    (subst IsAscii (c.deref.ensures.value ∙ sym c.deref-then-is_ascii-2.ensures.value) c.if-is_ascii-2.ensures.cases)
    c.scan_ascii-then-is_ascii-2.new.atoms c.in_ok-tokens-2.tokens.items c.in_ok-tokens-2.ensures.tokens c.in_ok-tokens-2.ensures.last c.deref_mut.result.now c.move_tokens.new.tokens c.in_ok-tokens-2.tokens.len c.deref_mut.ensures.value (sym c.deref_mut.ensures.len) c.move_tokens.ensures

pub returns-then-is_ascii-2-clause-gains : goal.returns-then-is_ascii-2-clause-gains
returns-then-is_ascii-2-clause-gains c =
    gains c.args.file.now c.args.extent.start c.args.extent.end (map span_at c.args.holes.now) c.requires.parts c.requires.size c.deref-then-is_ascii-2.result.now (c.deref-then-is_ascii-2.ensures.value ∙ c.in_ok-bytes.ensures)
    (subst IsAscii (c.deref.ensures.value ∙ sym c.deref-then-is_ascii-2.ensures.value) c.if-is_ascii-2.ensures.cases)
    c.args.atoms.now c.scan_ascii-then-is_ascii-2.new.atoms c.in_ok-tokens-2.ensures.gains
