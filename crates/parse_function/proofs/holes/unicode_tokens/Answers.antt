use Rattle.std.proofs.Common.{◌∙◌, ℕ, ◌<◌, ◌^◌, ◌-◌, List, length, drop, ap, subst, arith}
use Rattle.std.proofs.lemmas.List.{length-take}
use Rattle.std.specs.Str.{chars}
use Rattle.scope_analysis.specs.Functions.{function_form}
use Rattle.script_scanner.specs.Stands.{StandFor}
use Rattle.script_scanner.specs.Tokens.{Lexed}
use Rattle.unit_text.specs.Points.{points_from}
use Rattle.parse_token_laws.proofs.ScannedTokens.{are_scanned}
use Rattle.parse_function.proofs.HoleTexts.{ends_within, front_slice, lie_in_order, few_points, same_tokens}
use Rattle.parse_function.proofs.holes.unicode_tokens.Goals as goal

pub part_of-bytes-requires-clause-within : goal.part_of-bytes-requires-clause-within
part_of-bytes-requires-clause-within c =
    let d = c.requires.function in
    let last = ends_within c.args.file.now c.args.inner (function_form d.inner.func) d.items d.inner d.is in
    let high = c.requires.within in
    omega (arith, last, high)

pub points_in-requires-clause-size : goal.points_in-requires-clause-size
points_in-requires-clause-size c =
    let d = c.requires.function in
    let last = ends_within c.args.file.now c.args.inner (function_form d.inner.func) d.items d.inner d.is in
    let high = c.requires.within in
    let low = c.requires.behind in
    let short = c.requires.size in
    let long = ap length c.part_of-bytes.ensures ∙ length-take (c.args.to - c.args.inner.start) (drop c.args.inner.start c.args.file.now) in
    omega (arith, last, high, low, short, long)

pub scan-requires-clause-in_order : goal.scan-requires-clause-in_order
scan-requires-clause-in_order c =
    let d = c.requires.function in
    let s = front_slice c.args.file.now c.args.inner (function_form d.inner.func) d.items d.inner d.is c.args.to c.requires.behind c.requires.within c.requires.utf8 in
    lie_in_order c.args.file.now d.is.utf8 c.args.inner.start c.args.to _ s c.deref.result.now (c.deref.ensures.value ∙ c.in_ok-points.ensures ∙ ap (λ (bs : List ℕ). points_from c.args.inner.start (chars bs)) c.part_of-bytes.ensures)

pub scan-requires-clause-fits : goal.scan-requires-clause-fits
scan-requires-clause-fits c =
    let d = c.requires.function in
    let last = ends_within c.args.file.now c.args.inner (function_form d.inner.func) d.items d.inner d.is in
    let high = c.requires.within in
    let short = c.requires.size in
    omega (arith, last, high, short)

pub scan-requires-clause-few : goal.scan-requires-clause-few
scan-requires-clause-few c =
    let d = c.requires.function in
    let s = front_slice c.args.file.now c.args.inner (function_form d.inner.func) d.items d.inner d.is c.args.to c.requires.behind c.requires.within c.requires.utf8 in
    let many = few_points c.args.file.now d.is.utf8 c.args.inner.start c.args.to _ s c.deref.result.now (c.deref.ensures.value ∙ c.in_ok-points.ensures ∙ ap (λ (bs : List ℕ). points_from c.args.inner.start (chars bs)) c.part_of-bytes.ensures) in
    let none = ap length c.new-atoms.ensures in
    let last = ends_within c.args.file.now c.args.inner (function_form d.inner.func) d.items d.inner d.is in
    let high = c.requires.within in
    let short = c.requires.size in
    omega (arith, many, none, last, high, short)

pub returns-clause-tokens : goal.returns-clause-tokens
returns-clause-tokens c =
    let d = c.requires.function in
    let part_utf8 = c.requires.utf8 in
    let s = front_slice c.args.file.now c.args.inner (function_form d.inner.func) d.items d.inner d.is c.args.to c.requires.behind c.requires.within part_utf8 in
    record {
      utf8 = part_utf8;
      texts = c.scan.new.atoms;
      stand = subst (λ (ls : List Lexed). StandFor c.scan.new.atoms c.in_ok-tokens.tokens.items ls)
          (same_tokens c.args.file.now d.is.utf8 c.args.inner.start c.args.to _ s c.deref.result.now (c.deref.ensures.value ∙ c.in_ok-points.ensures ∙ ap (λ (bs : List ℕ). points_from c.args.inner.start (chars bs)) c.part_of-bytes.ensures))
          c.in_ok-tokens.ensures.tokens;
      one = c.in_ok-tokens.ensures.last;
    }

pub returns-clause-few : goal.returns-clause-few
returns-clause-few c =
    let d = c.requires.function in
    let s = front_slice c.args.file.now c.args.inner (function_form d.inner.func) d.items d.inner d.is c.args.to c.requires.behind c.requires.within c.requires.utf8 in
    let many = few_points c.args.file.now d.is.utf8 c.args.inner.start c.args.to _ s c.deref.result.now (c.deref.ensures.value ∙ c.in_ok-points.ensures ∙ ap (λ (bs : List ℕ). points_from c.args.inner.start (chars bs)) c.part_of-bytes.ensures) in
    let last = ends_within c.args.file.now c.args.inner (function_form d.inner.func) d.items d.inner d.is in
    let high = c.requires.within in
    let short = c.requires.size in
    (are_scanned c.deref.result.now c.args.inner.start c.args.to c.scan.new.atoms c.in_ok-tokens.tokens.items (subst (λ (ts : List (List ℕ)). length ts < 2 ^ 32) c.atoms.view_is c.atoms.invariant.few) (omega (arith, many, last, high, short)) c.in_ok-tokens.ensures.tokens c.in_ok-tokens.ensures.last).few
