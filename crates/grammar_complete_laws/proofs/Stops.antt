-- Which lexemes go on with no expression, and what an unwritten semicolon says of the lexeme after it.
use Rattle.std.proofs.Common.{◌≡◌, refl, ap, Bool, true, false, not, ◌&&◌, ◌||◌, if◌then◌else◌}
use Rattle.script_grammar.specs.declared.token.Kind.TheVariants as kind
use Rattle.script_grammar.specs.declared.token.mark.TheConstants as mark
use Rattle.script_grammar.specs.declared.token.word.TheConstants as word
use Rattle.script_grammar.specs.Lexeme.{Lexeme}
use Rattle.script_grammar.specs.Kinds.{is_mark, is_word, is_end, is_whole, is_head, is_binary, is_update, is_assign_mark, is_arrow_form}
use Rattle.script_grammar.specs.Tree.{Expr, Exprs, no_exprs, more_exprs, Operands, no_operands, more_operands, Function, function, Body}
use Rattle.script_grammar.specs.Tree as tree
use Rattle.script_grammar.specs.Pieces.{Ending, BracedArrow, Postfix, Operand, BareBinding, Keyword, DoWhile, may_omit, continues, is_do_while}
use Rattle.script_grammar.specs.Endings.{ending, last_ending, operands_ending, function_ending, body_ending}
use Rattle.grammar_parser_specs.specs.Follow.{continues_assign, continues_expr}
use Rattle.grammar_parser_laws.proofs.Tests.{false_true, true_false, mark_known, end_known, or_cases, neither_right, not_true, and_left, and_right}
use Rattle.grammar_complete_laws.proofs.Completes.{of_kind, at_kind}

-- marks that go on with nothing

pub stop_close : (w : Bool) (e : Ending) (t : Lexeme) → t.kind ≡ kind.Mark mark.CLOSE_PAREN → continues_expr w e t ≡ false
stop_close w e t h = at_kind (λ u. continues_expr w e u ≡ false) (kind.Mark mark.CLOSE_PAREN) t h (by w e)
  where
    by : (w : Bool) (e : Ending) → continues_expr w e (of_kind (kind.Mark mark.CLOSE_PAREN) t) ≡ false
    by w BracedArrow = refl
    by w Postfix = refl
    by w Operand = refl
    by w BareBinding = refl
    by w Keyword = refl
    by w DoWhile = refl

pub stop_semi : (w : Bool) (e : Ending) (t : Lexeme) → t.kind ≡ kind.Mark mark.SEMICOLON → continues_expr w e t ≡ false
stop_semi w e t h = at_kind (λ u. continues_expr w e u ≡ false) (kind.Mark mark.SEMICOLON) t h (by w e)
  where
    by : (w : Bool) (e : Ending) → continues_expr w e (of_kind (kind.Mark mark.SEMICOLON) t) ≡ false
    by w BracedArrow = refl
    by w Postfix = refl
    by w Operand = refl
    by w BareBinding = refl
    by w Keyword = refl
    by w DoWhile = refl

pub stop_colon : (w : Bool) (e : Ending) (t : Lexeme) → t.kind ≡ kind.Mark mark.COLON → continues_expr w e t ≡ false
stop_colon w e t h = at_kind (λ u. continues_expr w e u ≡ false) (kind.Mark mark.COLON) t h (by w e)
  where
    by : (w : Bool) (e : Ending) → continues_expr w e (of_kind (kind.Mark mark.COLON) t) ≡ false
    by w BracedArrow = refl
    by w Postfix = refl
    by w Operand = refl
    by w BareBinding = refl
    by w Keyword = refl
    by w DoWhile = refl

pub stop_brace : (w : Bool) (e : Ending) (t : Lexeme) → t.kind ≡ kind.Mark mark.CLOSE_BRACE → continues_expr w e t ≡ false
stop_brace w e t h = at_kind (λ u. continues_expr w e u ≡ false) (kind.Mark mark.CLOSE_BRACE) t h (by w e)
  where
    by : (w : Bool) (e : Ending) → continues_expr w e (of_kind (kind.Mark mark.CLOSE_BRACE) t) ≡ false
    by w BracedArrow = refl
    by w Postfix = refl
    by w Operand = refl
    by w BareBinding = refl
    by w Keyword = refl
    by w DoWhile = refl

pub stop_end : (w : Bool) (e : Ending) (t : Lexeme) → t.kind ≡ kind.End → continues_expr w e t ≡ false
stop_end w e t h = at_kind (λ u. continues_expr w e u ≡ false) kind.End t h (by w e)
  where
    by : (w : Bool) (e : Ending) → continues_expr w e (of_kind kind.End t) ≡ false
    by w BracedArrow = refl
    by w Postfix = refl
    by w Operand = refl
    by w BareBinding = refl
    by w Keyword = refl
    by w DoWhile = refl

-- `in`, where it is left out
pub stop_in : (e : Ending) (t : Lexeme) → t.kind ≡ kind.Word word.IN → continues_expr false e t ≡ false
stop_in e t h = at_kind (λ u. continues_expr false e u ≡ false) (kind.Word word.IN) t h (by e)
  where
    by : (e : Ending) → continues_expr false e (of_kind (kind.Word word.IN) t) ≡ false
    by BracedArrow = refl
    by Postfix = refl
    by Operand = refl
    by BareBinding = refl
    by Keyword = refl
    by DoWhile = refl

-- a comma goes on with no AssignmentExpression
pub stop_comma : (w : Bool) (e : Ending) (t : Lexeme) → t.kind ≡ kind.Mark mark.COMMA → continues_assign w e t ≡ false
stop_comma w e t h = at_kind (λ u. continues_assign w e u ≡ false) (kind.Mark mark.COMMA) t h (by w e)
  where
    by : (w : Bool) (e : Ending) → continues_assign w e (of_kind (kind.Mark mark.COMMA) t) ≡ false
    by w BracedArrow = refl
    by w Postfix = refl
    by w Operand = refl
    by w BareBinding = refl
    by w Keyword = refl
    by w DoWhile = refl

pub stop_assign : (w : Bool) (e : Ending) (t : Lexeme) → continues_expr w e t ≡ false → continues_assign w e t ≡ false
stop_assign w e t h = neither_right (is_mark mark.COMMA t.kind) (continues_assign w e t) h

-- Before a semicolon that is not written. The tests over plain values.

none_true : (b w i : Bool) → b ≡ false → (b && (w || i)) ≡ false
none_true b w i h = ap (λ x. x && (w || i)) h

postfix_stops : (comma question binary i : Bool) → (comma || question || binary) ≡ false → (comma || ((binary && (true || i)) || question)) ≡ false
postfix_stops true question binary i h = absurd (true_false h)
postfix_stops false true binary i h = absurd (true_false h)
postfix_stops false false true i h = absurd (true_false h)
postfix_stops false false false i h = refl

operand_stops : (paren bracket dot comma question binary whole head assign update arrow i : Bool) → (paren || bracket || dot || (comma || question || binary) || whole || head || assign) ≡ false → (comma || (dot || bracket || paren || (binary && (true || i)) || question || assign || (update && false) || (arrow && false))) ≡ false
operand_stops true bracket dot comma question binary whole head assign update arrow i h = absurd (true_false h)
operand_stops false true dot comma question binary whole head assign update arrow i h = absurd (true_false h)
operand_stops false false true comma question binary whole head assign update arrow i h = absurd (true_false h)
operand_stops false false false true question binary whole head assign update arrow i h = absurd (true_false h)
operand_stops false false false false true binary whole head assign update arrow i h = absurd (true_false h)
operand_stops false false false false false true whole head assign update arrow i h = absurd (true_false h)
operand_stops false false false false false false true head assign update arrow i h = absurd (true_false h)
operand_stops false false false false false false false true assign update arrow i h = absurd (true_false h)
operand_stops false false false false false false false false true update arrow i h = absurd (true_false h)
operand_stops false false false false false false false false false true true i h = refl
operand_stops false false false false false false false false false true false i h = refl
operand_stops false false false false false false false false false false true i h = refl
operand_stops false false false false false false false false false false false i h = refl

-- the ending of an expression
abbrev pub EndsExpr : Ending → Type 0
EndsExpr BracedArrow = Unit {0}
EndsExpr Postfix = Unit {0}
EndsExpr Operand = Unit {0}
EndsExpr BareBinding = ⊥
EndsExpr Keyword = ⊥
EndsExpr DoWhile = ⊥

either_ends : (b : Bool) (e : Ending) → EndsExpr e → EndsExpr (if b then e else Operand)
either_ends true e h = h
either_ends false e h = tt

mutual
  pub ends_expr : (x : Expr) → EndsExpr (ending x)
  ends_expr (tree.Func at f) = ends_function f
  ends_expr (tree.Unary at op of is_word) = ends_expr of
  ends_expr (tree.Update at op true of) = ends_expr of
  ends_expr (tree.Update at op false of) = tt
  ends_expr (tree.Binary first rest) = ends_operands Operand tt rest
  ends_expr (tree.Cond test then_value else_value) = ends_expr else_value
  ends_expr (tree.Assign op target value) = ends_expr value
  ends_expr (tree.Comma items) = ends_last Operand tt items
  ends_expr (tree.This at) = tt
  ends_expr (tree.Name name) = tt
  ends_expr (tree.Null at) = tt
  ends_expr (tree.True at) = tt
  ends_expr (tree.False at) = tt
  ends_expr (tree.Number at value) = tt
  ends_expr (tree.Str at end w) = tt
  ends_expr (tree.Template at first parts) = tt
  ends_expr (tree.Array at is comma) = tt
  ends_expr (tree.Object at ps comma) = tt
  ends_expr (tree.Paren at inner) = tt
  ends_expr (tree.Chain head tails) = tt
  ends_expr (tree.New at callee args) = tt

  ends_last : (e : Ending) → EndsExpr e → (xs : Exprs) → EndsExpr (last_ending e xs)
  ends_last e h no_exprs = h
  ends_last e h (more_exprs x xs) = ends_last (ending x) (ends_expr x) xs

  ends_operands : (e : Ending) → EndsExpr e → (os : Operands) → EndsExpr (operands_ending e os)
  ends_operands e h no_operands = h
  ends_operands e h (more_operands op is_word value rest) = ends_operands (ending value) (ends_expr value) rest

  ends_function : (f : Function) → EndsExpr (function_ending f)
  ends_function (function form start end name ps comma bare body) = either_ends (is_arrow_form form) (body_ending body) (ends_body body)

  ends_body : (b : Body) → EndsExpr (body_ending b)
  ends_body (tree.BracedBody items) = tt
  ends_body (tree.ShortBody value) = ends_expr value

pub omit_cases : {C : Type 0} (e : Ending) (t : Lexeme) → may_omit e t ≡ true → (is_mark mark.CLOSE_BRACE t.kind ≡ true → C) → (is_end t.kind ≡ true → C) → (is_do_while e ≡ true → C) → (t.after_line ≡ true → continues e t.kind ≡ false → C) → C
omit_cases e t h brace ends loops line =
    or_cases (is_mark mark.CLOSE_BRACE t.kind || is_end t.kind || is_do_while e) (t.after_line && not (continues e t.kind)) (and_right (not (is_mark mark.SEMICOLON t.kind)) _ h)
    (λ k. or_cases (is_mark mark.CLOSE_BRACE t.kind || is_end t.kind) (is_do_while e) k
    (λ k. or_cases (is_mark mark.CLOSE_BRACE t.kind) (is_end t.kind) k brace ends)
    loops)
    (λ k. line (and_left t.after_line (not (continues e t.kind)) k) (not_true (continues e t.kind) (and_right t.after_line (not (continues e t.kind)) k)))

operand_line : (line paren bracket dot comma question binary whole head assign update arrow i : Bool) → line ≡ true → (paren || bracket || dot || (comma || question || binary) || whole || head || assign) ≡ false → (comma || (dot || bracket || paren || (binary && (true || i)) || question || assign || (update && not line) || (arrow && not line))) ≡ false
operand_line true paren bracket dot comma question binary whole head assign update arrow i l h = operand_stops paren bracket dot comma question binary whole head assign update arrow i h
operand_line false paren bracket dot comma question binary whole head assign update arrow i l h = absurd (false_true l)

arrow_line : (comma : Bool) → comma ≡ false → (comma || false) ≡ false
arrow_line true h = h
arrow_line false h = refl

-- what stands after a semicolon that is not written goes on with no expression of this ending
pub omit_stops : (e : Ending) → EndsExpr e → (t : Lexeme) → may_omit e t ≡ true → continues_expr true e t ≡ false
omit_stops BracedArrow h t k = omit_cases BracedArrow t k (λ x. stop_brace true BracedArrow t (mark_known mark.CLOSE_BRACE t.kind x)) (λ x. stop_end true BracedArrow t (end_known t.kind x)) (λ x. absurd (false_true x)) (λ l c. arrow_line (is_mark mark.COMMA t.kind) c)
omit_stops Postfix h t k = omit_cases Postfix t k (λ x. stop_brace true Postfix t (mark_known mark.CLOSE_BRACE t.kind x)) (λ x. stop_end true Postfix t (end_known t.kind x)) (λ x. absurd (false_true x)) (λ l c. postfix_stops (is_mark mark.COMMA t.kind) (is_mark mark.QUESTION t.kind) (is_binary t.kind) (not (is_word word.IN t.kind)) c)
omit_stops Operand h t k = omit_cases Operand t k (λ x. stop_brace true Operand t (mark_known mark.CLOSE_BRACE t.kind x)) (λ x. stop_end true Operand t (end_known t.kind x)) (λ x. absurd (false_true x))
    (λ l c. operand_line t.after_line (is_mark mark.OPEN_PAREN t.kind) (is_mark mark.OPEN_BRACKET t.kind) (is_mark mark.DOT t.kind) (is_mark mark.COMMA t.kind) (is_mark mark.QUESTION t.kind) (is_binary t.kind) (is_whole t.kind) (is_head t.kind) (is_assign_mark t.kind) (is_update t.kind) (is_mark mark.ARROW t.kind) (not (is_word word.IN t.kind)) l c)
omit_stops BareBinding h t k = absurd h
omit_stops Keyword h t k = absurd h
omit_stops DoWhile h t k = absurd h
