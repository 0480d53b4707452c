-- Deferred bodies, one after the other.
use Rattle.std.proofs.Common.{Option, List, map}
use Rattle.std.specs.List.{flat_map}
use Rattle.script_grammar.specs.Interpretation.{Interpretation}
use Rattle.script_grammar.specs.Shows.{ShowAll}
use Rattle.script_grammar.specs.Tree.{Stmts}
use Rattle.parse_track.specs.declared.region.Early.{Early}
use Rattle.parse_track.specs.Notes.{notes_stmts}
use Rattle.parse_early_handler.specs.declared.nodes.BodyErrors.{BodyErrors}
use Rattle.parse_early_handler.specs.Firsts.{first_of}
use Rattle.parse_early_handler.specs.HasErrors.{HasEmptyBodies, HasErrorsBody}
use Rattle.parse_early_handler.specs.Known.{KnowsWords, known_atoms}
use Rattle.parse_early_handler.proofs.Parting.{IsFirst, none-first, all-first}

abbrev pub own_first : BodyErrors → Option Early
own_first b = b.first

pub bodies-first : (i : Interpretation) → HasEmptyBodies i → KnowsWords i known_atoms → (ns : List BodyErrors) (bs : List Stmts) → ShowAll (HasErrorsBody i) ns bs
    → IsFirst (first_of (map own_first ns)) (flat_map notes_stmts bs)
bodies-first i e k = all-first (HasErrorsBody i) own_first notes_stmts (flat_map notes_stmts) none-first (λ x xs g h. h) (λ n b h. record { is = (h.holds e k).first })
