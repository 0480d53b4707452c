use Rattle.std.proofs.Common.{false}
use Rattle.script_grammar.specs.Interpretation.{named}
use Rattle.parse_track.specs.Tells as tell
use Rattle.parse_track.specs.Told as told
use Rattle.parse_skim_handler.specs.Kept.{function_means, named_means}
use Rattle.parse_skim_handler.proofs.Meanings.{adds-region, begun, if_ok, means-as}
use Rattle.parse_skim_handler.proofs.functions.named_function.Goals as goal

pub returns-in-None : goal.returns-in-None
returns-in-None c = if_ok c.skim_function.result c.skim_function.ensures (λ made h i. means-as i (λ name. named_means i name (function_means i false c.args.func)) c.in-None.is (begun i (c.nothing-begin.ensures i) (h i)))

pub returns-in_ok-inside-in-Some : goal.returns-in_ok-inside-in-Some
returns-in_ok-inside-in-Some c =
    if_ok c.region.result c.region.ensures (λ made h i.
    let inside = begun i (c.nothing-begin.ensures i) (c.in_ok-inside-in-Some.ensures i) in
    means-as i (λ name. named_means i name (function_means i false c.args.func)) c.in-Some.is (begun i (c.nothing-around.ensures i) (adds-region i (told.Lambda (tell.spelled (named i c.in-Some.name))) 0 inside (h i))))
