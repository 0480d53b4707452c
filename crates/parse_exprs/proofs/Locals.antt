-- The parser that the code computes looks at nothing after the place where it stops.
use Rattle.std.proofs.Common.{ℕ, ◌-◌, refl}
use Rattle.script_grammar.specs.Fault.{depth_limit}
use Rattle.script_grammar.specs.Interpretation.{Interpretation}
use Rattle.script_grammar.specs.Pieces.{passed}
use Rattle.grammar_parser_specs.specs.Exprs.{passing}
use Rattle.grammar_local_laws.proofs.LocalCalls.{local_room}
use Rattle.grammar_local_laws.proofs.LocalExprs.{LocalEnv}
use Rattle.grammar_local_laws.proofs.PassingLaws.{AreBraced, passing_local, passing_sound}
use Rattle.parse_exprs.specs.Env.{env_at, body_at}

braced : (i : Interpretation) → AreBraced (body_at i)
braced i = record { items = i.bodies; are = λ n. refl }

pub env_local : (i : Interpretation) (depth : ℕ) → LocalEnv (env_at i depth)
unfolding env_at
env_local i depth = (local_room passed (passing (body_at i)) (λ room d. passing_sound (body_at i) (braced i) d room) (passing_local (body_at i)) (depth_limit - depth)).env
