-- How loosely expressions bind, as far as the parser asks.
use Rattle.std.specs.Prelude.{Bool, true, false, nat_le, if◌then◌else◌}
use Rattle.script_grammar.specs.Proper.{rank, left_rank, update_rank}
use Rattle.script_grammar.specs.Tree.{Expr}
use Rattle.parse_exprs.specs.declared.part.Rank.{Rank}
use Rattle.parse_exprs.specs.declared.part.Rank.TheVariants as ranks

abbrev pub rank_of : Expr → Rank
rank_of e =
    if nat_le (rank e) 1 then ranks.Head else
    if nat_le (rank e) left_rank then ranks.Left else
    if nat_le (rank e) update_rank then ranks.Update else ranks.Other

-- what may begin a chain, what may be assigned to, and what may be raised to a power

abbrev pub begins : Rank → Bool
begins ranks.Head = true
begins _ = false

abbrev pub assigns : Rank → Bool
assigns ranks.Head = true
assigns ranks.Left = true
assigns _ = false

abbrev pub raises : Rank → Bool
raises ranks.Other = false
raises _ = true
