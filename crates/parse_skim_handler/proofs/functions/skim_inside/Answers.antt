use Rattle.std.proofs.Common.{ap, sym, ◌∙◌}
use Rattle.parse_early_handler.specs.Firsts.{are_more, many_params}
use Rattle.parse_track_pieces.specs.Parts.{have_initializer}
use Rattle.parse_skim_handler.specs.Kept.{own_means, param_means}
use Rattle.parse_skim_handler.specs.Meaning.{all_meant, error_meant, then_meant}
use Rattle.parse_skim_handler.proofs.Meanings.{adds-then, from, if_ok, means-as}
use Rattle.parse_skim_handler.proofs.functions.skim_inside.Goals as goal

pub returns : goal.returns
returns c =
    if_ok c.skim_own.result c.skim_own.ensures (λ made h i.
    let params = c.args.params.items in
    let listed = c.deref-listed.ensures.value in
    let body = c.args.body in
    let all = from i (c.of_error.ensures i) (adds-then i (c.in_ok-given.ensures i) (h i)) in
    means-as i (λ many. then_meant (error_meant many) (then_meant (all_meant (param_means i) params) (own_means i (have_initializer params) (are_more params) c.args.start body))) (sym (c.many_params-many.ensures ∙ ap many_params listed))
    (means-as i (λ own. then_meant (error_meant c.many_params-many.result) (then_meant (all_meant (param_means i) params) (own_means i own (are_more params) c.args.start body))) (sym (c.has_initializer-own.ensures ∙ ap have_initializer listed))
    (means-as i (λ more. then_meant (error_meant c.many_params-many.result) (then_meant (all_meant (param_means i) params) (own_means i c.has_initializer-own.result more c.args.start body))) (sym (c.are_more-more.ensures ∙ ap are_more listed)) all)))
