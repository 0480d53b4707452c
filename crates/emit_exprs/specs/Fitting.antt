-- Trees whose counts fit the operands of instructions: a call or a `new` has at most 65,535 arguments (more are an early
-- error of this project), and an array has fewer than 2^32 items (a text has fewer bytes). This project's own choice.
use Rattle.std.specs.Prelude.{◌^◌, ◌<◌}
use Rattle.script_grammar.specs.Tree.{Expr, This, Name, Null, True, False, Number, Str, Template, Array, Object, Func, Paren, Chain, New}
use Rattle.script_grammar.specs.Tree.{Unary, Update, Binary, Cond, Assign, Comma, Exprs, no_exprs, more_exprs, MaybeExpr, no_expr}
use Rattle.script_grammar.specs.Tree.{some_expr, MaybeArgs, no_args, some_args, Parts, no_parts, more_parts, Items, no_items, more_items}
use Rattle.script_grammar.specs.Tree.{Operands, no_operands, more_operands, Tail, Dot, Index, Call, Tails, no_tails, more_tails, Key}
use Rattle.script_grammar.specs.Tree.{WordKey, StrKey, NumberKey, ComputedKey, Prop, Short, Pair, Method, Get, Set, Props, no_props}
use Rattle.script_grammar.specs.Tree.{more_props}
use Rattle.emit_exprs.specs.Exprs.{args_size, items_size}

abbrev mutual
  pub ExprFits : Expr → Type 0
  ExprFits (This at) = Unit {0}
  ExprFits (Name name) = Unit {0}
  ExprFits (Null at) = Unit {0}
  ExprFits (True at) = Unit {0}
  ExprFits (False at) = Unit {0}
  ExprFits (Number at value) = Unit {0}
  ExprFits (Str at end text) = Unit {0}
  ExprFits (Template at first parts) = PartsFit parts
  ExprFits (Array at items comma) = (items_size items < 2 ^ 32) × ItemsFit items
  ExprFits (Object at props comma) = PropsFit props
  ExprFits (Func at f) = Unit {0}
  ExprFits (Paren at inner) = ExprFits inner
  ExprFits (Chain head tails) = ExprFits head × TailsFit tails
  ExprFits (New at callee args) = ExprFits callee × MaybeArgsFit args
  ExprFits (Unary at sign operand is_word) = ExprFits operand
  ExprFits (Update at sign prefix operand) = ExprFits operand
  ExprFits (Binary first rest) = ExprFits first × OperandsFit rest
  ExprFits (Cond test then_value else_value) = ExprFits test × ExprFits then_value × ExprFits else_value
  ExprFits (Assign sign target value) = ExprFits target × ExprFits value
  ExprFits (Comma items) = ExprsFit items

  pub ExprsFit : Exprs → Type 0
  ExprsFit no_exprs = Unit {0}
  ExprsFit (more_exprs e rest) = ExprFits e × ExprsFit rest

  pub MaybeExprFits : MaybeExpr → Type 0
  MaybeExprFits no_expr = Unit {0}
  MaybeExprFits (some_expr e) = ExprFits e

  pub MaybeArgsFit : MaybeArgs → Type 0
  MaybeArgsFit no_args = Unit {0}
  MaybeArgsFit (some_args items comma) = (args_size items < 2 ^ 16) × ExprsFit items

  pub PartsFit : Parts → Type 0
  PartsFit no_parts = Unit {0}
  PartsFit (more_parts value behind rest) = ExprFits value × PartsFit rest

  pub ItemsFit : Items → Type 0
  ItemsFit no_items = Unit {0}
  ItemsFit (more_items item rest) = MaybeExprFits item × ItemsFit rest

  pub OperandsFit : Operands → Type 0
  OperandsFit no_operands = Unit {0}
  OperandsFit (more_operands sign is_word value rest) = ExprFits value × OperandsFit rest

  pub TailsFit : Tails → Type 0
  TailsFit no_tails = Unit {0}
  TailsFit (more_tails t rest) = TailFits t × TailsFit rest

  pub TailFits : Tail → Type 0
  TailFits (Dot name) = Unit {0}
  TailFits (Index key) = ExprFits key
  TailFits (Call items comma) = (args_size items < 2 ^ 16) × ExprsFit items

  pub KeyFits : Key → Type 0
  KeyFits (WordKey name) = Unit {0}
  KeyFits (StrKey name) = Unit {0}
  KeyFits (NumberKey at number) = Unit {0}
  KeyFits (ComputedKey e) = ExprFits e

  pub PropFits : Prop → Type 0
  PropFits (Short name) = Unit {0}
  PropFits (Pair key value) = KeyFits key × ExprFits value
  PropFits (Method key f) = KeyFits key
  PropFits (Get key f) = KeyFits key
  PropFits (Set key f) = KeyFits key

  pub PropsFit : Props → Type 0
  PropsFit no_props = Unit {0}
  PropsFit (more_props p rest) = PropFits p × PropsFit rest
