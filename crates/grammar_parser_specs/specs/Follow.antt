-- Which lexemes end what was read: none of them goes on with an expression of this ending. This is this project's own
-- choice of words; the sets are those of the grammar (ECMA-262, 12th edition, clauses 13.2 to 13.16).
use Rattle.std.specs.Prelude.{Bool, false, not, ◌&&◌, ◌||◌}
use Rattle.script_grammar.specs.declared.token.Kind.{Kind}
use Rattle.script_grammar.specs.declared.token.mark.TheConstants as mark
use Rattle.script_grammar.specs.declared.token.word.TheConstants as word
use Rattle.script_grammar.specs.Lexeme.{Lexeme}
use Rattle.script_grammar.specs.Kinds.{is_mark, is_word, is_binary, is_update, is_assign_mark}
use Rattle.script_grammar.specs.Pieces.{Ending, BracedArrow, Postfix, Operand, BareBinding, Keyword, DoWhile}

-- a binary operator, where `in` is one or is left out
abbrev pub is_operator : Bool → Kind → Bool
is_operator with_in k = is_binary k && (with_in || not (is_word word.IN k))

-- goes on with an operand: a member, a call, an operator, `?`, an assignment, `++` or `--` on its line, or `=>` on its line
abbrev pub goes_on : Bool → Lexeme → Bool
goes_on with_in t =
    is_mark mark.DOT t.kind || is_mark mark.OPEN_BRACKET t.kind || is_mark mark.OPEN_PAREN t.kind
    || is_operator with_in t.kind || is_mark mark.QUESTION t.kind || is_assign_mark t.kind
    || (is_update t.kind && not t.after_line) || (is_mark mark.ARROW t.kind && not t.after_line)

-- goes on with an AssignmentExpression of this ending
abbrev pub continues_assign : Bool → Ending → Lexeme → Bool
continues_assign with_in BracedArrow t = false
continues_assign with_in Postfix t = is_operator with_in t.kind || is_mark mark.QUESTION t.kind
continues_assign with_in Operand t = goes_on with_in t
continues_assign with_in BareBinding t = false
continues_assign with_in Keyword t = false
continues_assign with_in DoWhile t = false

-- goes on with an Expression of this ending
abbrev pub continues_expr : Bool → Ending → Lexeme → Bool
continues_expr with_in e t = is_mark mark.COMMA t.kind || continues_assign with_in e t
