use Rattle.std.proofs.Common.{◌≡◌, ◌∙◌, ℕ, ◌+◌, ◌<◌, ◌^◌, ◌-◌, List, length, drop, take, ap, subst, sym, arith, length-drop}
use Rattle.std.proofs.lemmas.List.{length-take}
use Rattle.std.proofs.lemmas.Str.{IsUtf8-from_ascii}
use Rattle.std.specs.Str.{IsAscii, chars}
use Rattle.scope_analysis.specs.Functions.{function_form}
use Rattle.script_scanner.specs.Stands.{StandFor}
use Rattle.script_scanner.specs.Tokens.{Lexed, tokens}
use Rattle.unit_text.specs.Points.{points_from}
use Rattle.parse_token_laws.proofs.ScannedTokens.{are_scanned}
use Rattle.parse_function.proofs.HoleTexts.{ends_within, front_slice, few_points, same_tokens}
use Rattle.parse_function.proofs.holes.ascii_tokens.Goals as goal

pub part_of-bytes-requires-clause-within : goal.part_of-bytes-requires-clause-within
part_of-bytes-requires-clause-within c =
    let d = c.requires.function in
    let last = ends_within c.args.file.now c.args.inner (function_form d.inner.func) d.items d.inner d.is in
    let high = c.requires.within in
    omega (arith, last, high)

pub scan_ascii-requires-clause-ascii : goal.scan_ascii-requires-clause-ascii
scan_ascii-requires-clause-ascii c = subst IsAscii (sym c.part_of-bytes.ensures) c.requires.ascii

pub scan_ascii-requires-clause-fits : goal.scan_ascii-requires-clause-fits
scan_ascii-requires-clause-fits c =
    let d = c.requires.function in
    let last = ends_within c.args.file.now c.args.inner (function_form d.inner.func) d.items d.inner d.is in
    let high = c.requires.within in
    let low = c.requires.behind in
    let short = c.requires.size in
    let long = ap length c.part_of-bytes.ensures ∙ length-take (c.args.to - c.args.inner.start) (drop c.args.inner.start c.args.file.now) in
    omega (arith, last, high, low, short, long)

pub scan_ascii-requires-clause-few : goal.scan_ascii-requires-clause-few
scan_ascii-requires-clause-few c =
    let d = c.requires.function in
    let last = ends_within c.args.file.now c.args.inner (function_form d.inner.func) d.items d.inner d.is in
    let high = c.requires.within in
    let low = c.requires.behind in
    let short = c.requires.size in
    let none = ap length c.new-atoms.ensures in
    let long = ap length c.part_of-bytes.ensures ∙ length-take (c.args.to - c.args.inner.start) (drop c.args.inner.start c.args.file.now) in
    omega (arith, last, high, low, short, none, long)

pub returns-clause-tokens : goal.returns-clause-tokens
returns-clause-tokens c =
    let d = c.requires.function in
    let from = c.args.inner.start in
    let bytes = c.part_of-bytes.result.now in
    let utf8 = IsUtf8-from_ascii (take (c.args.to - from) (drop from c.args.file.now)) c.requires.ascii in
    let s = front_slice c.args.file.now c.args.inner (function_form d.inner.func) d.items d.inner d.is c.args.to c.requires.behind c.requires.within utf8 in
    let last = ends_within c.args.file.now c.args.inner (function_form d.inner.func) d.items d.inner d.is in
    let high = c.requires.within in
    let low = c.requires.behind in
    let long = ap length c.part_of-bytes.ensures ∙ length-take (c.args.to - from) (drop from c.args.file.now) in
    let rest = length-drop from c.args.file.now in
    let end : from + length bytes ≡ c.args.to = omega (arith, last, high, low, long, rest) in
    record {
      utf8 = utf8;
      texts = c.scan_ascii.new.atoms;
      stand = subst (λ (ls : List Lexed). StandFor c.scan_ascii.new.atoms c.in_ok-tokens.tokens.items ls)
          (ap (λ (n : ℕ). tokens (points_from from (chars bytes)) from n) end
          ∙ same_tokens c.args.file.now d.is.utf8 from c.args.to _ s (points_from from (chars bytes)) (ap (λ (bs : List ℕ). points_from from (chars bs)) c.part_of-bytes.ensures))
          c.in_ok-tokens.ensures.tokens;
      one = c.in_ok-tokens.ensures.last;
    }

pub returns-clause-few : goal.returns-clause-few
returns-clause-few c =
    let d = c.requires.function in
    let from = c.args.inner.start in
    let bytes = c.part_of-bytes.result.now in
    let utf8 = IsUtf8-from_ascii (take (c.args.to - from) (drop from c.args.file.now)) c.requires.ascii in
    let s = front_slice c.args.file.now c.args.inner (function_form d.inner.func) d.items d.inner d.is c.args.to c.requires.behind c.requires.within utf8 in
    let many = few_points c.args.file.now d.is.utf8 from c.args.to _ s (points_from from (chars bytes)) (ap (λ (bs : List ℕ). points_from from (chars bs)) c.part_of-bytes.ensures) in
    let last = ends_within c.args.file.now c.args.inner (function_form d.inner.func) d.items d.inner d.is in
    let high = c.requires.within in
    let short = c.requires.size in
    (are_scanned (points_from from (chars bytes)) from (from + length bytes) c.scan_ascii.new.atoms c.in_ok-tokens.tokens.items (subst (λ (ts : List (List ℕ)). length ts < 2 ^ 32) c.atoms.view_is c.atoms.invariant.few) (omega (arith, many, last, high, short)) c.in_ok-tokens.ensures.tokens c.in_ok-tokens.ensures.last).few
