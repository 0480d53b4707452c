use Rattle.std.proofs.Common.{ℕ, nat_eq, List, [], map, sym, ap, ◌∙◌}
use Rattle.parse_track.specs.Told.{Name}
use Rattle.parse_track.specs.EarlyErrors.{smallest, repeated}
use Rattle.parse_track.specs.Log.{name_of, known_names, region_of, told_region}
use Rattle.parse_track.specs.Rows.{row_of}
use Rattle.parse_track.specs.Rules.{RegionRule, rule_of}
use Rattle.parse_track.proofs.RegionOffsets.{none_declared}
use Rattle.parse_track.proofs.Seeking.{at_each}
use Rattle.parse_track.proofs.rules.offsets_at.Goals as goal

pub returns-then-not-declares_any : goal.returns-then-not-declares_any
returns-then-not-declares_any c = λ rule.
    c.offsets_without_names.ensures (told_region c.args.room (map row_of c.args.rows.now) c.args.region)
    (none_declared (map row_of c.args.rows.now) c.args.room c.args.region c.items_at.result.now c.items_at.ensures.items (sym c.declares_any.ensures ∙ c.if-not-declares_any.true)) rule

pub first_param-requires-clause-params : goal.first_param-requires-clause-params
first_param-requires-clause-params c = ap (map name_of) c.deref-3.ensures.value ∙ c.in_ok-params.ensures

pub returns : goal.returns
returns c =
    at_each
    (record {
      twice_lexical = c.in_ok-twice_lexical.twice_lexical;
      catch_and_lexical = c.in_ok-catch_and_lexical.catch_and_lexical;
      param_and_lexical = c.in_ok-param_and_lexical.param_and_lexical;
      twice_param = c.in_ok-twice_param.twice_param;
      binds_reserved = c.first_bound_reserved-binds_reserved.result;
    })
    (λ (r : RegionRule). smallest (rule_of r (known_names c.args.known.now) (region_of c.args.kind) (told_region c.args.room (map row_of c.args.rows.now) c.args.region)))
    (c.in_ok-twice_lexical.ensures ∙ ap (λ (ns : List (Name ℕ)). smallest (repeated nat_eq [] ns)) (ap (map name_of) c.deref.ensures.value ∙ c.in_ok-lexical.ensures))
    c.in_ok-catch_and_lexical.ensures
    c.in_ok-param_and_lexical.ensures
    (c.in_ok-twice_param.ensures ∙ ap (λ (ns : List (Name ℕ)). smallest (repeated nat_eq [] ns)) (ap (map name_of) c.deref-2.ensures.value ∙ c.in_ok-params.ensures))
    c.first_bound_reserved-binds_reserved.ensures
