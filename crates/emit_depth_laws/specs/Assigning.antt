-- Expressions in which each assignment, `++` and `--` goes to a name or a property (ECMA-262, 12th edition, clauses 13.4.1 and
-- 13.15.1), and no comma list is empty.
use Rattle.script_grammar.specs.Tree.{Expr, This, Name, Null, True, False, Number, Str, Template, Array, Object, Func, Paren, Chain, New, Unary}
use Rattle.script_grammar.specs.Tree.{Update, Binary, Cond, Assign, Comma, Exprs, no_exprs, more_exprs, MaybeExpr, no_expr, some_expr, MaybeArgs}
use Rattle.script_grammar.specs.Tree.{no_args, some_args, Parts, no_parts, more_parts, Items, no_items, more_items, Operands, no_operands}
use Rattle.script_grammar.specs.Tree.{more_operands, Tail, Dot, Index, Call, Tails, no_tails, more_tails, Key, WordKey, StrKey, NumberKey}
use Rattle.script_grammar.specs.Tree.{ComputedKey, Prop, Short, Pair, Method, Get, Set, Props, no_props, more_props}
use Rattle.emit_exprs.specs.Exprs.{Target, ToName, ToProp, ToElem, NoTarget, target_of}

abbrev pub IsPlace : Target → Type 0
IsPlace (ToName name) = Unit {0}
IsPlace (ToProp name) = Unit {0}
IsPlace ToElem = Unit {0}
IsPlace NoTarget = ⊥

abbrev pub HasItem : Exprs → Type 0
HasItem no_exprs = ⊥
HasItem (more_exprs e rest) = Unit {0}

-- functions in an expression are not looked into
abbrev mutual
  pub ExprAssigns : Expr → Type 0
  ExprAssigns (This at) = Unit {0}
  ExprAssigns (Name name) = Unit {0}
  ExprAssigns (Null at) = Unit {0}
  ExprAssigns (True at) = Unit {0}
  ExprAssigns (False at) = Unit {0}
  ExprAssigns (Number at value) = Unit {0}
  ExprAssigns (Str at end text) = Unit {0}
  ExprAssigns (Template at first parts) = PartsAssign parts
  ExprAssigns (Array at items comma) = ItemsAssign items
  ExprAssigns (Object at props comma) = PropsAssign props
  ExprAssigns (Func at f) = Unit {0}
  ExprAssigns (Paren at inner) = ExprAssigns inner
  ExprAssigns (Chain head tails) = ExprAssigns head × TailsAssign tails
  ExprAssigns (New at callee args) = ExprAssigns callee × MaybeArgsAssign args
  ExprAssigns (Unary at sign operand is_word) = ExprAssigns operand
  ExprAssigns (Update at sign prefix operand) = IsPlace (target_of operand) × ExprAssigns operand
  ExprAssigns (Binary first rest) = ExprAssigns first × OperandsAssign rest
  ExprAssigns (Cond test then_value else_value) = ExprAssigns test × ExprAssigns then_value × ExprAssigns else_value
  ExprAssigns (Assign sign target value) = IsPlace (target_of target) × ExprAssigns target × ExprAssigns value
  ExprAssigns (Comma items) = HasItem items × ExprsAssign items

  pub ExprsAssign : Exprs → Type 0
  ExprsAssign no_exprs = Unit {0}
  ExprsAssign (more_exprs e rest) = ExprAssigns e × ExprsAssign rest

  pub MaybeExprAssigns : MaybeExpr → Type 0
  MaybeExprAssigns no_expr = Unit {0}
  MaybeExprAssigns (some_expr e) = ExprAssigns e

  pub MaybeArgsAssign : MaybeArgs → Type 0
  MaybeArgsAssign no_args = Unit {0}
  MaybeArgsAssign (some_args items comma) = ExprsAssign items

  pub PartsAssign : Parts → Type 0
  PartsAssign no_parts = Unit {0}
  PartsAssign (more_parts value behind rest) = ExprAssigns value × PartsAssign rest

  pub ItemsAssign : Items → Type 0
  ItemsAssign no_items = Unit {0}
  ItemsAssign (more_items item rest) = MaybeExprAssigns item × ItemsAssign rest

  pub OperandsAssign : Operands → Type 0
  OperandsAssign no_operands = Unit {0}
  OperandsAssign (more_operands sign is_word value rest) = ExprAssigns value × OperandsAssign rest

  pub TailsAssign : Tails → Type 0
  TailsAssign no_tails = Unit {0}
  TailsAssign (more_tails t rest) = TailAssigns t × TailsAssign rest

  pub TailAssigns : Tail → Type 0
  TailAssigns (Dot name) = Unit {0}
  TailAssigns (Index key) = ExprAssigns key
  TailAssigns (Call items comma) = ExprsAssign items

  pub KeyAssigns : Key → Type 0
  KeyAssigns (WordKey name) = Unit {0}
  KeyAssigns (StrKey name) = Unit {0}
  KeyAssigns (NumberKey at number) = Unit {0}
  KeyAssigns (ComputedKey e) = ExprAssigns e

  pub PropAssigns : Prop → Type 0
  PropAssigns (Short name) = Unit {0}
  PropAssigns (Pair key value) = KeyAssigns key × ExprAssigns value
  PropAssigns (Method key f) = KeyAssigns key
  PropAssigns (Get key f) = KeyAssigns key
  PropAssigns (Set key f) = KeyAssigns key

  pub PropsAssign : Props → Type 0
  PropsAssign no_props = Unit {0}
  PropsAssign (more_props p rest) = PropAssigns p × PropsAssign rest
