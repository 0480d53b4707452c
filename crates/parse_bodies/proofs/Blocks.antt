-- One node deeper there is less room for depth.
use Rattle.std.proofs.Common.{◌≡◌, ◌∙◌, ℕ, zero, suc, ◌+◌, ◌-◌, ◌<◌, ◌≤◌, refl, ap, arith}
use Rattle.script_grammar.specs.Fault.{depth_limit}
use Rattle.script_grammar.specs.Interpretation.{Interpretation}
use Rattle.script_grammar.specs.Kinds.{is_name}
use Rattle.grammar_parser_specs.specs.Parser.{no_room}
use Rattle.grammar_parser_specs.specs.Exprs.{Calls, calls, call_case, name_of}
use Rattle.grammar_parser_specs.specs.Stmts.{All, Block, Place, everything, stmt_of, begins_stmt, block_of}
use Rattle.parse_exprs.specs.Env.{env_at}
use Rattle.parse_bodies.specs.Blocks.{bodies_at, all_at, stmts_at, label_at, block_at}

-- with so much room
room_all : Interpretation → ℕ → All
room_all i room = everything (λ r stmt. bodies_at i r) room

calls_same : (i : Interpretation) (room : ℕ) → (room_all i room).exprs ≡ calls (bodies_at i) room
unfolding room_all everything calls
calls_same i zero = refl
calls_same i (suc room) = ap (λ x. call_case (record { sub = x; body = bodies_at i room })) (calls_same i room)

deeper_room : (depth : ℕ) → depth < depth_limit → depth_limit - depth ≡ suc (depth_limit - (depth + 1))
deeper_room depth h = omega arith

no_deeper : (depth : ℕ) → depth_limit ≤ depth → depth_limit - depth ≡ 0
no_deeper depth h = omega arith

-- the block that stands in a statement with so much room
block_same : (i : Interpretation) (depth : ℕ) → block_of (bodies_at i (depth_limit - depth)) (room_all i (depth_limit - depth)) ≡ block_at i depth
unfolding room_all all_at stmts_at label_at env_at
block_same i depth = let b : Calls → Block = λ x. record { exprs = record { sub = x; body = bodies_at i (depth_limit - depth) }; stmt = stmts_at i depth; label = label_at i depth } in ap b (calls_same i (depth_limit - depth))

pub stmt_deeper : (i : Interpretation) (depth : ℕ) (p : Place) → depth < depth_limit → stmts_at i depth p ≡ stmt_of (block_at i (depth + 1)) p
unfolding room_all everything all_at stmts_at
stmt_deeper i depth p h = ap (λ r. (room_all i r).stmts p) (deeper_room depth h) ∙ ap (λ b. stmt_of b p) (block_same i (depth + 1))

pub stmt_no_room : (i : Interpretation) (depth : ℕ) (p : Place) → depth_limit ≤ depth → stmts_at i depth p ≡ no_room (begins_stmt p)
unfolding room_all everything all_at stmts_at
stmt_no_room i depth p h = ap (λ r. (room_all i r).stmts p) (no_deeper depth h)

pub label_deeper : (i : Interpretation) (depth : ℕ) → depth < depth_limit → label_at i depth ≡ name_of
unfolding room_all everything all_at label_at
label_deeper i depth h = ap (λ r. (room_all i r).label) (deeper_room depth h)

pub label_no_room : (i : Interpretation) (depth : ℕ) → depth_limit ≤ depth → label_at i depth ≡ no_room is_name
unfolding room_all everything all_at label_at
label_no_room i depth h = ap (λ r. (room_all i r).label) (no_deeper depth h)

-- an expression there
pub calls_deeper : (i : Interpretation) (depth : ℕ) → depth < depth_limit → (env_at i depth).sub ≡ call_case (env_at i (depth + 1))
unfolding env_at calls
calls_deeper i depth h = ap (λ r. calls (bodies_at i) r) (deeper_room depth h)

pub calls_no_room : (i : Interpretation) (depth : ℕ) → depth_limit ≤ depth → (env_at i depth).sub ≡ calls (bodies_at i) 0
unfolding env_at
calls_no_room i depth h = ap (λ r. calls (bodies_at i) r) (no_deeper depth h)
