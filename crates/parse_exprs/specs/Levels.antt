-- The levels of binary operators.
use Rattle.std.specs.Prelude.{ℕ, ◌-◌, Bool, nat_eq, nat_le, nat_lt, not, ◌&&◌, ◌||◌, if◌then◌else◌}
use Rattle.script_grammar.specs.declared.token.Kind.{Kind}
use Rattle.script_grammar.specs.declared.token.mark.TheConstants as mark
use Rattle.script_grammar.specs.declared.token.word.TheConstants as word
use Rattle.script_grammar.specs.Kinds.{between, is_word, kind_level, no_level}
use Rattle.script_grammar.specs.Tree.{Expr}
use Rattle.grammar_parser_specs.specs.Parser.{Parser, when}
use Rattle.grammar_parser_specs.specs.Exprs.{Env, level_of, short_circuit, bit_or_level, coalesce_level}

-- the level of a mark that binds no tighter than `==`
abbrev pub loose_level : ℕ → ℕ
loose_level i =
    if between mark.EQUAL mark.STRICT_NOT_EQUAL i then 5 else
    if nat_eq i mark.BIT_AND then 6 else
    if nat_eq i mark.BIT_XOR then 7 else
    if nat_eq i mark.BIT_OR then 8 else
    if nat_eq i mark.AND then 9 else
    if nat_eq i mark.OR then 10 else
    if nat_eq i mark.COALESCE then 11 else 12

-- the level of a token, where `in` may be no operator (ECMA-262 clause 13.10, the parameter In)
abbrev pub level_with : Bool → Kind → ℕ
level_with w k = if w || not (is_word word.IN k) then kind_level k else no_level

-- the level of the operands of an operator of this level: the one before it, and of `??` that of `|` (clause 13.13)
abbrev pub operand_level : ℕ → ℕ
operand_level n = if nat_eq n coalesce_level then bit_or_level else n - 1

-- an operator of the level `next` may take what was read up to the level `read` for its first operand, up to a last level
abbrev pub reads_on : ℕ → ℕ → ℕ → Bool
reads_on read next last = nat_lt 0 next && nat_le next last && nat_le read (operand_level next)

-- what reads up to a level; up to that of `??`, a ShortCircuitExpression
abbrev pub up_to : Env → Bool → ℕ → Bool → Parser Expr
up_to v w n heads = when (nat_eq n coalesce_level) (short_circuit v w heads) (level_of v w n heads)
