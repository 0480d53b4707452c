-- What is written of the stencil is written of what the judge shows of the text.
use Rattle.std.proofs.Common.{List, Some, length, subst}
use Rattle.holzikra_words.specs.declared.functions.FunctionWord.{FunctionWord}
use Rattle.holzikra_session.specs.declared.verdict.Compiled.{Compiled}
use Rattle.holzikra_session.specs.Compiling.{IsCode, IsCompiledBy}
use Rattle.holzikra_session.proofs.CompiledLemmas.{written_of}
use Rattle.holzikra_session.proofs.listings.code_of.Goals as goal

pub returns-in_ok-lines-in-Script : goal.returns-in_ok-lines-in-Script
returns-in_ok-lines-in-Script g c =
    let words = c.args.options.now.functions.items in
    let text = c.args.text.now in
    let compiled = subst (λ (w : List FunctionWord). IsCompiledBy (g.J.Judge.judges c.args.judge.now) (g.J.Judge.shows c.args.judge.now) w text c.in_ok-compiled.compiled) c.deref.ensures.value c.in_ok-compiled.ensures in
    let script = subst (λ (x : Compiled). IsCompiledBy (g.J.Judge.judges c.args.judge.now) (g.J.Judge.shows c.args.judge.now) words text x) c.in-Script.is compiled in
    written_of (g.J.Judge.shows c.args.judge.now) words text c.in-Script.stencil c.in-Script.chosen (IsCode c.args.options.now.format c.args.name.now (length text) (Some text)) c.in_ok-lines-in-Script.lines.items script c.in_ok-lines-in-Script.ensures
