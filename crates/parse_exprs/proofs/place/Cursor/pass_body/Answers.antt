use Rattle.std.proofs.Common.{◌∙◌, sym, ap}
use Rattle.script_grammar.specs.Lexeme.{Lexeme}
use Rattle.grammar_parser_specs.specs.Parser.{Bad}
use Rattle.parse_exprs.specs.Answers.{records}
use Rattle.parse_exprs.specs.Source.{front}
use Rattle.parse_exprs.proofs.Steps.{read_at}
use Rattle.parse_exprs.proofs.PassedBody.{body_read, body_bad, body_none, records_more}
use Rattle.parse_exprs.proofs.Partners.{pass_some, pass_none}
use Rattle.parse_exprs.proofs.place.Cursor.pass_body.Goals as goal

pub returns-then-not-is_mark : goal.returns-then-not-is_mark
returns-then-not-is_mark c = λ i start. body_none i c.args.depth c.args.form start c.args.simple _ _ (sym (c.is_mark.ensures i) ∙ c.if-not-is_mark.true)

pub returns-in_default : goal.returns-in_default
returns-in_default c = λ i start.
    let mark = sym (c.is_mark.ensures i) ∙ c.if-not-is_mark.false in
    let read = body_bad i c.args.depth c.args.form start c.args.simple (records c.args.source.now i c.args.self.now) (front c.args.source.now i c.args.self.now.at) _ mark (pass_none c.args.source.now c.requires i c.args.self.now.at mark (sym c.partner.ensures ∙ c.in_default.is)) in
    rw c.stop.ensures (record { is = read.is ∙ ap (λ rs. Bad rs (front c.args.source.now i c.args.source.now.brackets.now.stop)) (sym (records_more c.args.source.now i c.args.self.now _ _ c.in_ok-push.ensures.items)) })

pub returns : goal.returns
returns c = λ i start.
    let mark = sym (c.is_mark.ensures i) ∙ c.if-not-is_mark.false in
    let read = body_read i c.args.depth c.args.form start c.args.simple (records c.args.source.now i c.args.self.now) (front c.args.source.now i c.args.self.now.at) _ _ mark (pass_some c.args.source.now c.requires i c.args.self.now.at c.in-Some.close mark (sym c.partner.ensures ∙ c.in-Some.is)) in
    let end = ap (λ (t : Lexeme). t.end) (c.token-end.ensures.lexeme i) in
    rw end (read_at read (c.step.ensures.records i ∙ records_more c.args.source.now i c.args.self.now _ _ c.in_ok-push.ensures.items) (c.step.ensures.at i))
