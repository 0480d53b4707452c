-- Operands of one token.
use Rattle.std.specs.Prelude.{ℕ, Bool, nat_eq, ◌||◌}
use Rattle.script_grammar.specs.declared.token.Kind.{Kind}
use Rattle.script_grammar.specs.declared.token.mark.TheConstants as mark
use Rattle.script_grammar.specs.Kinds.{is_mark, is_update, mark_with}

-- a token that may stand after an operand of one token in one UnaryExpression with it
abbrev pub extends_operand : Kind → Bool
extends_operand k = is_mark mark.DOT k || (is_mark mark.OPEN_BRACKET k || (is_mark mark.OPEN_PAREN k || is_update k))

-- a mark that ends each AssignmentExpression that ends with an operand before it
abbrev pub ends_assign_mark : ℕ → Bool
ends_assign_mark m =
    nat_eq m mark.COMMA || (nat_eq m mark.CLOSE_PAREN || (nat_eq m mark.SEMICOLON || (nat_eq m mark.CLOSE_BRACKET || (nat_eq m mark.CLOSE_BRACE || nat_eq m mark.COLON))))

abbrev pub ends_assign : Kind → Bool
ends_assign k = mark_with ends_assign_mark k
