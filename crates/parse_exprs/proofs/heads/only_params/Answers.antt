use Rattle.std.proofs.Common.{◌≡◌, ◌∙◌, sym, ap, subst, true, not, ◌||◌, arith}
use Rattle.script_grammar.specs.Kinds as test
use Rattle.script_grammar.specs.declared.token.mark.TheConstants as marks
use Rattle.grammar_parser_specs.specs.Parser.{head_of, rest_of}
use Rattle.grammar_parser_specs.specs.Exprs.{begins_param}
use Rattle.grammar_script_laws.proofs.Strides.{Striding}
use Rattle.grammar_parser_laws.proofs.Tests.{or_right}
use Rattle.parse_exprs.specs.Source.{front, lexemes}
use Rattle.parse_exprs.proofs.Partners.{striding_init, striding_stop, striding_next, striding_end}
use Rattle.parse_exprs.proofs.heads.only_params.Goals as goal
use Rattle.parse_exprs.proofs.heads.only_params.Goals.{else-starts-via-then-starts+else-not-begins_param, else-starts-via-else-starts}

pub loop-at-init : goal.loop-at-init
loop-at-init c = λ i. striding_init c.args.source.now c.requires.source i c.args.opening c.args.closing (c.requires.opens i) c.requires.partner

pub returns-then-not-begins_param : goal.returns-then-not-begins_param
returns-then-not-begins_param c = λ i.
    striding_stop c.args.source.now c.requires.source i c.args.opening c.args.closing (c.requires.opens i) c.requires.partner c.loop-at.at c.loop-at-test.true
    (subst (Striding (lexemes c.args.source.now i) c.args.opening c.args.closing c.loop-at.at) c.if-starts.true (c.loop-at.invariant i)) (sym (c.begins_param.ensures i) ∙ c.if-not-begins_param.true)

pub loop-at-preserved : goal.loop-at-preserved
loop-at-preserved c = λ i.
    let s = c.args.source.now in
    let ts = front s i c.loop-at.at in
    let fits : (not c.loop-at.starts || begins_param (head_of ts) (head_of (rest_of ts))) ≡ true = elim c.else-starts.branch [
      | else-starts-via-then-starts+else-not-begins_param w ↦ or_right (not c.loop-at.starts) (begins_param (head_of ts) (head_of (rest_of ts))) (sym (w.begins_param.ensures i) ∙ w.if-not-begins_param.false)
      | else-starts-via-else-starts w ↦ ap (λ b. not b || begins_param (head_of ts) (head_of (rest_of ts))) w.if-starts.false
    ] in
    let comma : c.is_mark-starts.result ≡ test.is_mark marks.COMMA (head_of ts).kind = c.is_mark-starts.ensures ∙ ap (test.is_mark marks.COMMA) (c.kind_at.ensures i) in
    subst (λ n. Striding (lexemes s i) c.args.opening c.args.closing n c.is_mark-starts.result) (sym c.stride-at.ensures)
    (subst (Striding (lexemes s i) c.args.opening c.args.closing _) (sym comma)
    (striding_next s c.requires.source i c.args.opening c.args.closing (c.requires.opens i) c.requires.partner c.loop-at.at c.loop-at.starts c.loop-at-test.true (c.loop-at.invariant i) fits))

pub returns : goal.returns
returns c = λ i. striding_end c.args.source.now c.requires.source i c.args.opening c.args.closing (c.requires.opens i) c.requires.partner c.loop-at.at c.loop-at.starts (omega (arith, c.loop-at-test.false)) (c.loop-at.invariant i)
