use Rattle.std.proofs.Common.{◌≡◌, ℕ, suc, ◌-◌, List, [], false, length, ◌∙◌, ap, subst, arith, length-drop}
use Rattle.script_scanner.specs.Bytes.{byte_points}
use Rattle.script_scanner.specs.Stands.{StandFor, GainsOnly}
use Rattle.script_scanner.specs.Tokens.{Lexed, tokens_within}
use Rattle.script_scanner.proofs.ByteLemmas.{count_is, ascii_tokens}
use Rattle.script_scanner.proofs.scanning.scan_ascii.Goals as goal

pub scan_text-requires : goal.scan_text-requires
scan_text-requires c =
    let text = byte_points c.new-text.result.start c.new-text.result.bytes.now in
    let rest : length (byte_points c.behind-rest.result.start c.behind-rest.result.bytes.now) ≡ length text - c.passed_over.result =
    ap length c.behind-rest.ensures ∙ length-drop c.passed_over.result text in
    omega (arith, rest, count_is c.new-text.result.start c.new-text.result.bytes.now, ap length c.new-text.ensures.bytes, c.requires.few)

pub returns-clause-tokens : goal.returns-clause-tokens
returns-clause-tokens c =
    let rest = byte_points c.behind-rest.result.start c.behind-rest.result.bytes.now in
    subst (λ (made : List Lexed). StandFor c.scan_text.new.atoms c.in_ok-made.made.items made)
    (ap (λ (to : ℕ). tokens_within (suc (length rest)) to [] false rest) c.new.ensures
    ∙ ascii_tokens c.args.start c.new-text.result.start c.passed_over.result c.args.bytes.now c.new-text.result.bytes.now rest
    c.requires.ascii c.new-text.ensures.bytes c.new-text.ensures.start c.behind-rest.ensures c.passed_over.ensures.value)
    c.in_ok-made.ensures.stand

pub returns-clause-gains : goal.returns-clause-gains
returns-clause-gains c =
    let rest = byte_points c.behind-rest.result.start c.behind-rest.result.bytes.now in
    subst (λ (made : List Lexed). GainsOnly c.args.atoms.now c.scan_text.new.atoms made)
    (ap (λ (to : ℕ). tokens_within (suc (length rest)) to [] false rest) c.new.ensures
    ∙ ascii_tokens c.args.start c.new-text.result.start c.passed_over.result c.args.bytes.now c.new-text.result.bytes.now rest
    c.requires.ascii c.new-text.ensures.bytes c.new-text.ensures.start c.behind-rest.ensures c.passed_over.ensures.value)
    c.in_ok-made.ensures.gains
