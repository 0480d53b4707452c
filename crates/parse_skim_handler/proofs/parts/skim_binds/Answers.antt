use Rattle.std.proofs.Common.{ap, sym, ◌∙◌}
use Rattle.parse_early_handler.specs.Firsts.{const_first}
use Rattle.parse_skim_handler.specs.Kept.{bind_means}
use Rattle.parse_skim_handler.specs.Meaning.{all_meant, error_meant}
use Rattle.parse_skim_handler.proofs.Meanings.{adds-as, adds-then, if_ok}
use Rattle.parse_skim_handler.proofs.parts.skim_binds.Goals as goal

pub returns : goal.returns
returns c =
    if_ok c.skim_all_binds.result c.skim_all_binds.ensures (λ made h i.
    let bare = c.const_errors-bare.ensures ∙ ap (const_first c.args.decl) c.deref.ensures.value in
    adds-then i (adds-as i error_meant (sym bare) (c.with_error-noted.ensures i)) (adds-as i (λ how. all_meant (bind_means i how) c.args.binds.items) (sym c.declared_as.ensures) (h i)))
