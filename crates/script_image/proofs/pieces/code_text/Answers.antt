use Rattle.std.proofs.Common.{ap, ◌∙◌, ◌++◌, List}
use Rattle.stencil_data.specs.Named.{NamedMerged}
use Rattle.bytecode_buf.specs.Command.{Listed}
use Rattle.script_image.specs.declared.script_lines.Listing.TheVariants as of
use Rattle.script_image.specs.ScriptLines.{code_text}
use Rattle.script_image.proofs.Scripts.{all_written}
use Rattle.script_image.proofs.Stands.{stencil_is}
use Rattle.script_image.proofs.pieces.code_text.Goals as goal

pub returns : goal.returns
returns c = λ named s.
    all_written of.Code c.args.merged.now c.count_of.result c.args.out.now.items c.append_scripts.new.out.items c.count_of.ensures c.in_ok-append_scripts.ensures
    ∙ ap (λ (m : NamedMerged (List Listed)). c.args.out.now.items ++ code_text m) (stencil_is c.args.merged.now named s)
