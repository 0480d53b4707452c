use Rattle.std.proofs.Common.{Some, cond, nat_eq, ap, ◌∙◌}
use Rattle.parse_track.specs.AtomTables.{entry}
use Rattle.parse_track.specs.LexicalNames.{lessened}
use Rattle.parse_track.specs.declared.clashing.LexicalOffsets.{LexicalOffsets}
use Rattle.parse_track.proofs.clashing.open_name.Goals as goal

pub returns : goal.returns
returns c = λ y.
    c.in_ok-set.ensures y
    ∙ ap (λ (o : LexicalOffsets). cond (nat_eq c.args.name.atom y) (Some (record { depth = c.args.depth; first = o })) (entry c.args.names.now.entries.items y))
    (c.with-first.ensures ∙ ap (lessened c.args.is_head c.args.name.at) c.first_of.ensures)
