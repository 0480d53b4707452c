-- A script tells one region, and at most three more for each of its tokens; and what was told with atoms for names has as many.
use Rattle.std.proofs.Common.{◌+◌, ◌*◌, ◌≤◌, true, List, length, arith}
use Rattle.script_grammar.specs.Lexeme.{Lexeme}
use Rattle.script_grammar.specs.Pieces.{whole}
use Rattle.script_grammar.specs.Print.{print_stmts}
use Rattle.script_grammar.specs.Script.{IsScript}
use Rattle.script_grammar.specs.Tree.{Stmts}
use Rattle.parse_track.specs.Counted.{region_count}
use Rattle.parse_track.specs.Told.{nothing}
use Rattle.parse_track.specs.Tells.{tells_script}
use Rattle.track_count_laws.proofs.Slots.{slots_fit}
use Rattle.track_count_laws.proofs.Regions.{stmts_few}

pub script_regions : (tokens : List Lexeme) (next : Lexeme) (items : Stmts) → IsScript tokens next items → region_count (tells_script items) ≤ 1 + 3 * length tokens
script_regions tokens next items s =
    let e = (stmts_few true 0 items nothing).most in
    let f = slots_fit (print_stmts whole 0 items) tokens next s.fits in
    omega (arith, e, f)
