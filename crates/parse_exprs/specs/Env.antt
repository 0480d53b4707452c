-- The parser on lists of lexemes whose answers the code gives.
use Rattle.std.specs.Prelude.{ℕ, ◌-◌}
use Rattle.script_grammar.specs.Fault.{depth_limit}
use Rattle.script_grammar.specs.Interpretation.{Interpretation}
use Rattle.script_grammar.specs.Tree.{Body, BracedBody}
use Rattle.grammar_parser_specs.specs.Exprs.{Env, calls, passing}

-- a body that was passed over has the statements that the interpretation gives to its function, by its start
abbrev pub body_at : Interpretation → ℕ → Body
body_at i start = BracedBody (i.bodies start)

-- what is read inside n nodes that count for the depth, where braced bodies are passed over
unfoldable pub env_at : Interpretation → ℕ → Env
env_at i depth = record { sub = calls (passing (body_at i)) (depth_limit - depth); body = passing (body_at i) (depth_limit - depth) }
