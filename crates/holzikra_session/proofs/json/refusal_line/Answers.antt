-- The line is that of what was told.
use Rattle.std.proofs.Common.{◌∙◌, ap, length, string_bytes, subst}
use Rattle.serde_json.specs.Data.{Data, Members, object}
use Rattle.holzikra_json.specs.Lines.{IsLine}
use Rattle.holzikra_session.specs.Answers.{refused_members}
use Rattle.holzikra_session.proofs.json.refusal_line.Goals as goal

pub returns : goal.returns
returns c = record {
  told = c.in_ok-told.told;
  is =
      subst (λ (ms : Members). IsLine (object ms) (string_bytes c.in_ok-line.line))
      (c.in_ok-members.ensures ∙ ap (λ (d : Data). refused_members c.args.refused.name.now (length c.args.refused.text.now) d) c.in_ok-why.ensures)
      c.in_ok-line.ensures;
}
