-- How an expression ends: its last part, found by going to the right operand of a comma, an assignment, a conditional, a
-- binary operator, a prefix operator, or to an arrow's expression body (this project's own table of continuing tokens).
use Rattle.std.specs.Prelude.{true, false, if◌then◌else◌}
use Rattle.script_grammar.specs.Tree.{Expr, Exprs, no_exprs, more_exprs, Operands, no_operands, more_operands, Function, function, Body}
use Rattle.script_grammar.specs.Tree.{BracedBody, ShortBody, MaybeExpr, no_expr, some_expr, Binds, no_binds, more_binds}
use Rattle.script_grammar.specs.Tree as tree
use Rattle.script_grammar.specs.Kinds.{is_arrow_form}
use Rattle.script_grammar.specs.Pieces.{Ending, BracedArrow, Postfix, Operand, BareBinding, Keyword}

abbrev mutual
  pub ending : Expr → Ending
  ending (tree.Func at f) = function_ending f
  ending (tree.Unary at op of is_word) = ending of
  ending (tree.Update at op true of) = ending of
  ending (tree.Update at op false of) = Postfix
  ending (tree.Binary first rest) = operands_ending Operand rest
  ending (tree.Cond test then_value else_value) = ending else_value
  ending (tree.Assign op target value) = ending value
  ending (tree.Comma items) = last_ending Operand items
  ending _ = Operand

  -- the ending of the last of these, or the one given if there is none
  pub last_ending : Ending → Exprs → Ending
  last_ending e no_exprs = e
  last_ending e (more_exprs t ts) = last_ending (ending t) ts

  pub operands_ending : Ending → Operands → Ending
  operands_ending e no_operands = e
  operands_ending e (more_operands op is_word value rest) = operands_ending (ending value) rest

  pub function_ending : Function → Ending
  function_ending (function form start end name _ comma bare body) = if is_arrow_form form then body_ending body else Operand

  pub body_ending : Body → Ending
  body_ending (BracedBody items) = BracedArrow
  body_ending (ShortBody value) = ending value

-- `return` with a value, or without
abbrev pub return_ending : MaybeExpr → Ending
return_ending no_expr = Keyword
return_ending (some_expr e) = ending e

-- a name with an initializer, or without
abbrev pub bind_ending : MaybeExpr → Ending
bind_ending no_expr = BareBinding
bind_ending (some_expr e) = ending e

-- the last of these bindings
abbrev pub binds_ending : Ending → Binds → Ending
binds_ending e no_binds = e
binds_ending e (more_binds name value rest) = binds_ending (bind_ending value) rest
