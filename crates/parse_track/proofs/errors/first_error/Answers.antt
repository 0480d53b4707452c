use Rattle.std.proofs.Common.{ℕ, true, false, nat_eq, map, ap, ◌∙◌}
use Rattle.parse_track.specs.Told.{Told}
use Rattle.parse_track.specs.EarlyErrors.{error_of, smallest, at_regions, nothing_around, twice_lexical, lexical_and_var, head_and_var, catch_and_lexical, param_and_lexical, twice_param, binds_reserved, wrong_jumps}
use Rattle.parse_track.specs.Log.{known_names, told_of}
use Rattle.parse_track.specs.Rows.{row_of}
use Rattle.parse_track.specs.Rules.{TwiceLexical, CatchAndLexical, ParamAndLexical, TwiceParam, BindsReserved}
use Rattle.parse_track.proofs.FirstClash.{first_lexical_and_var, first_head_and_var}
use Rattle.parse_track.proofs.Sooner.{in_turn, same_errors}
use Rattle.parse_track.proofs.errors.first_error.Goals as goal

pub returns : goal.returns
returns c =
    let told : Told ℕ = told_of (map row_of c.args.rows.now) in
    in_turn c.args.noted c.error_of-lexical.result c.error_of-clash.result c.error_of-head.result c.error_of-catch.result c.error_of-param.result c.error_of-params.result c.error_of-reserved.result c.error_of-jump.result
    c.sooner_early.result c.sooner_early-late.result c.sooner_early-2.result c.sooner_early-3.result c.sooner_early-middle.result c.sooner_early-4.result c.sooner_early-5.result c.sooner_early-first.result
    c.sooner_early.ensures c.sooner_early-late.ensures c.sooner_early-2.ensures c.sooner_early-3.ensures c.sooner_early-middle.ensures c.sooner_early-4.ensures c.sooner_early-5.ensures c.sooner_early-first.ensures
    ∙ same_errors c.args.noted c.error_of-lexical.result c.error_of-clash.result c.error_of-head.result c.error_of-catch.result c.error_of-param.result c.error_of-params.result c.error_of-reserved.result c.error_of-jump.result
    (error_of 1 (smallest (at_regions (twice_lexical nat_eq) told)))
    (error_of 2 (smallest (at_regions (lexical_and_var nat_eq) told)))
    (error_of 3 (smallest (at_regions (head_and_var nat_eq) told)))
    (error_of 4 (smallest (at_regions (catch_and_lexical nat_eq) told)))
    (error_of 5 (smallest (at_regions (param_and_lexical nat_eq) told)))
    (error_of 6 (smallest (at_regions (twice_param nat_eq) told)))
    (error_of 9 (smallest (at_regions (binds_reserved nat_eq (known_names c.args.known.now)) told)))
    (error_of 11 (smallest (wrong_jumps nat_eq nothing_around told)))
    (c.error_of-lexical.ensures ∙ ap (error_of 1) (c.in_ok-offsets.ensures TwiceLexical))
    (c.error_of-clash.ensures ∙ ap (error_of 2) (c.in_ok-clashes.ensures false ∙ first_lexical_and_var told))
    (c.error_of-head.ensures ∙ ap (error_of 3) (c.in_ok-clashes.ensures true ∙ first_head_and_var told))
    (c.error_of-catch.ensures ∙ ap (error_of 4) (c.in_ok-offsets.ensures CatchAndLexical))
    (c.error_of-param.ensures ∙ ap (error_of 5) (c.in_ok-offsets.ensures ParamAndLexical))
    (c.error_of-params.ensures ∙ ap (error_of 6) (c.in_ok-offsets.ensures TwiceParam))
    (c.error_of-reserved.ensures ∙ ap (error_of 9) (c.in_ok-offsets.ensures BindsReserved))
    (c.error_of-jump.ensures ∙ ap (error_of 11) c.in_ok-first_wrong_jump.ensures)
