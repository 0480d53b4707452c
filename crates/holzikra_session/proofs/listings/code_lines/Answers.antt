-- The format is the one that the arm names.
use Rattle.std.proofs.Common.{Some, length, sym, subst}
use Rattle.holzikra_words.specs.declared.code.CodeFormat.{CodeFormat}
use Rattle.holzikra_session.specs.Compiling.{IsCode}
use Rattle.holzikra_session.proofs.listings.code_lines.Goals as goal

pub returns-in_ok-lines-in-Plain : goal.returns-in_ok-lines-in-Plain
returns-in_ok-lines-in-Plain c = λ named stands.
    subst (λ (f : CodeFormat). IsCode f c.args.name.now (length c.args.text.now) (Some c.args.text.now) c.args.chosen.now named c.in_ok-lines-in-Plain.lines.items) (sym c.in-Plain.is) (c.in_ok-lines-in-Plain.ensures named stands)
