-- The parser on lists of lexemes whose answers the code of statements gives.
use Rattle.std.specs.Prelude.{ℕ, ◌-◌}
use Rattle.script_grammar.specs.Fault.{depth_limit}
use Rattle.script_grammar.specs.Interpretation.{Interpretation}
use Rattle.script_grammar.specs.Tree.{Named}
use Rattle.grammar_parser_specs.specs.Parser.{Parser}
use Rattle.grammar_parser_specs.specs.Exprs.{BodyParser, passing}
use Rattle.grammar_parser_specs.specs.Stmts.{All, Block, StmtCalls, everything}
use Rattle.parse_exprs.specs.Env.{body_at, env_at}

-- braced bodies are passed over
abbrev pub bodies_at : Interpretation → ℕ → BodyParser
bodies_at i = passing (body_at i)

-- all calls inside n nodes that count for the depth
unfoldable pub all_at : Interpretation → ℕ → All
all_at i depth = everything (λ room stmt. bodies_at i room) (depth_limit - depth)

-- a statement that stands inside n nodes
unfoldable pub stmts_at : Interpretation → ℕ → StmtCalls
stmts_at i depth = (all_at i depth).stmts

-- a label's name there
unfoldable pub label_at : Interpretation → ℕ → Parser Named
label_at i depth = (all_at i depth).label

-- what the parts of a statement are read by
abbrev pub block_at : Interpretation → ℕ → Block
block_at i depth = record { exprs = env_at i depth; stmt = stmts_at i depth; label = label_at i depth }
