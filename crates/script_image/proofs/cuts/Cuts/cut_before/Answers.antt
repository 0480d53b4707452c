use Rattle.script_image.specs.declared.pieces.Place.TheVariants as place
use Rattle.script_image.proofs.Cutting.{lead_push}
use Rattle.script_image.proofs.cuts.Cuts.cut_before.Goals as goal

pub returns-clause-lead : goal.returns-clause-lead
returns-clause-lead c =
    lead_push c.args.listing c.args.merged.now (place.Before 0) (place.Before c.args.self.now.from) (place.Before c.args.number) c.args.self.now.pieces.items _ c.in_ok-push.ensures.items c.requires.lead
    (c.requires.passed, c.requires.there)
