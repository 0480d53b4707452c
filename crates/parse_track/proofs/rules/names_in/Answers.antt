use Rattle.std.proofs.Common.{ap, sym, ◌∙◌, map}
use Rattle.std.proofs.lemmas.Result.{IfOk-weaker}
use Rattle.parse_track.specs.Log.{name_of}
use Rattle.parse_track.proofs.Items.{directly_filtered}
use Rattle.parse_track.proofs.rules.names_in.Goals as goal

pub returns : goal.returns
returns c = IfOk-weaker c.direct_names.result _ _
    (λ names e. ap (map name_of) e ∙ sym (directly_filtered _ c.args.room c.args.region c.args.asked c.items_at.result.now c.items_at.ensures.items))
    c.direct_names.ensures
