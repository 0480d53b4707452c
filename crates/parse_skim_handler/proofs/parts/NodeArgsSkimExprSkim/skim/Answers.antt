use Rattle.std.proofs.Common.{ap, map, sym, ◌∙◌}
use Rattle.parse_early_handler.specs.Firsts.{many_args}
use Rattle.parse_skim_handler.specs.Packed.{expr_errors}
use Rattle.parse_skim_handler.specs.Meaning.{error_meant}
use Rattle.parse_skim_handler.proofs.Meanings.{adds-as, adds-then, if_ok}
use Rattle.parse_skim_handler.proofs.parts.NodeArgsSkimExprSkim.skim.Goals as goal

pub returns : goal.returns
returns c =
    if_ok c.skim.result c.skim.ensures (λ made h i.
    let many = c.many_args-many.ensures ∙ ap (λ l. many_args (map expr_errors l)) c.deref.ensures.value in
    adds-then i (adds-as i error_meant (sym many) (c.with_error-noted.ensures i)) (h i))
