-- The functions that are wanted of the library are those that are chosen.
use Rattle.std.proofs.Common.{subst}
use Rattle.holzikra_scripts.specs.declared.choice.Chosen.{Chosen}
use Rattle.holzikra_scripts.specs.Written.{IsChosenBy}
use Rattle.holzikra.proofs.CompiledLemmas.{script_of}
use Rattle.holzikra.proofs.judge.compiled_script.Goals as goal

pub returns-in_ok-stencil-in-These : goal.returns-in_ok-stencil-in-These
returns-in_ok-stencil-in-These c =
    let words = c.args.words.now in
    let choice = subst (λ (x : Chosen). IsChosenBy words x) c.in-These.is c.in_ok-chosen.ensures in
    script_of words c.args.text.now c.in_ok-stencil-in-These.stencil c.in-These.choice _ _ c.wanted_of.ensures choice c.in_ok-stencil-in-These.ensures
