use Rattle.std.proofs.Common.{refl, subst, ◌∙◌}
use Rattle.compile_session.proofs.FileLemmas.{answers_checked, answers_refused, fine_is}
use Rattle.compile_session.specs.Answers.{IsSourceVerdict}
use Rattle.compile_session.specs.declared.source.SourceVerdict.{SourceVerdict}
use Rattle.session_words.specs.Asked as asked
use Rattle.session_words.specs.declared.options.Command.TheVariants as command
use Rattle.compile_session.proofs.printing.check_answer.Goals as goal

pub returns-in_ok-text-in-Fine-clause-is : goal.returns-in_ok-text-in-Fine-clause-is
returns-in_ok-text-in-Fine-clause-is c =
    let want = asked.wanted c.args.want.now in
    answers_checked command.Check want c.args.name.now c.args.bytes.now c.in-Fine.functions _ refl (fine_is want c.args.bytes.now c.in_ok-verdict.verdict c.in-Fine.functions c.in_ok-verdict.ensures c.in-Fine.is)
    (c.of_bytes.ensures ∙ c.in_ok-text-in-Fine.ensures) refl

pub returns-in_ok-answer-in-Refused-clause-is : goal.returns-in_ok-answer-in-Refused-clause-is
returns-in_ok-answer-in-Refused-clause-is c =
    let want = asked.wanted c.args.want.now in
    answers_refused command.Check want c.args.name.now c.args.bytes.now c.in-Refused.why c.in_ok-answer-in-Refused.answer refl
    (subst (λ (x : SourceVerdict). IsSourceVerdict want c.args.bytes.now x) c.in-Refused.is c.in_ok-verdict.ensures) c.in_ok-answer-in-Refused.ensures.text c.in_ok-answer-in-Refused.ensures.refused
