use Rattle.std.proofs.Common.{ℕ, List, map, ◌++◌, ap, sym, ◌∙◌}
use Rattle.std.proofs.lemmas.List.{map-append}
use Rattle.std.proofs.lemmas.Result.{on_ok_weaker}
use Rattle.std.specs.List.{filter_map}
use Rattle.parse_track.specs.Asked.{asked_in}
use Rattle.parse_track.specs.Log.{name_of}
use Rattle.parse_track.specs.Told.{Name}
use Rattle.parse_track.proofs.Items.{directly_filtered}
use Rattle.parse_track.proofs.scopes.add_direct.Goals as goal

pub returns : goal.returns
returns c = on_ok_weaker c.add_declared.result
    (λ e. ap (map name_of) e
    ∙ (map-append name_of c.args.names.now.items (filter_map (asked_in c.args.asked) c.items_at.result.now)
    ∙ ap (λ (xs : List (Name ℕ)). map name_of c.args.names.now.items ++ xs) (sym (directly_filtered _ c.args.room c.args.region c.args.asked c.items_at.result.now c.items_at.ensures.items))))
    c.add_declared.ensures
