use Rattle.std.proofs.Common.{◌∙◌}
use Rattle.parse_track.specs.EarlyErrors.{smallest}
use Rattle.parse_track.specs.Log.{region_of, known_names}
use Rattle.parse_track.specs.Rules.{RegionRule, rule_of, TwiceLexical, CatchAndLexical, ParamAndLexical, TwiceParam, BindsReserved}
use Rattle.parse_track.proofs.RegionOffsets.{offset_without_names}
use Rattle.parse_track.proofs.Seeking.{at_each}
use Rattle.parse_track.proofs.rules.offsets_without_names.Goals as goal

pub returns : goal.returns
returns c = λ told none rule.
    at_each (record c.none-offsets.result { binds_reserved = c.first_reserved_lambda-offsets.result }) (λ (r : RegionRule). smallest (rule_of r (known_names c.args.known.now) (region_of c.args.kind) told))
    (c.none-offsets.ensures TwiceLexical ∙ offset_without_names (known_names c.args.known.now) (region_of c.args.kind) c.first_reserved_lambda-offsets.result told c.first_reserved_lambda-offsets.ensures none TwiceLexical)
    (c.none-offsets.ensures CatchAndLexical ∙ offset_without_names (known_names c.args.known.now) (region_of c.args.kind) c.first_reserved_lambda-offsets.result told c.first_reserved_lambda-offsets.ensures none CatchAndLexical)
    (c.none-offsets.ensures ParamAndLexical ∙ offset_without_names (known_names c.args.known.now) (region_of c.args.kind) c.first_reserved_lambda-offsets.result told c.first_reserved_lambda-offsets.ensures none ParamAndLexical)
    (c.none-offsets.ensures TwiceParam ∙ offset_without_names (known_names c.args.known.now) (region_of c.args.kind) c.first_reserved_lambda-offsets.result told c.first_reserved_lambda-offsets.ensures none TwiceParam)
    (offset_without_names (known_names c.args.known.now) (region_of c.args.kind) c.first_reserved_lambda-offsets.result told c.first_reserved_lambda-offsets.ensures none BindsReserved)
    rule
