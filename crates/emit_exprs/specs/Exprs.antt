-- The code of expressions: one equation for each of their forms. What an expression does is ECMA-262's, 12th edition,
-- clause 13; the instructions are this project's own choice. Parentheses are looked through everywhere.
use Rattle.std.specs.Prelude.{ℕ, ◌+◌, Bool, true, false, nat_eq, nat_lt, bytes_eq, codes, if◌then◌else◌, List, [], ◌∷◌, ◌++◌, count_by}
use Rattle.script_grammar.specs.declared.token.mark.TheConstants as mark
use Rattle.script_grammar.specs.declared.token.word.TheConstants as word
use Rattle.script_grammar.specs.Tree.{Expr, This, Name, Null, True, False, Number, Str, Template, Array, Object, Func, Paren, Chain, New}
use Rattle.script_grammar.specs.Tree.{Unary, Update, Binary, Cond, Assign, Comma, Exprs, no_exprs, more_exprs, MaybeExpr, no_expr}
use Rattle.script_grammar.specs.Tree.{some_expr, MaybeArgs, no_args, some_args, Parts, no_parts, more_parts, Items, no_items, more_items}
use Rattle.script_grammar.specs.Tree.{Operands, no_operands, more_operands, Tail, Dot, Index, Call, Tails, no_tails, more_tails, Key}
use Rattle.script_grammar.specs.Tree.{WordKey, StrKey, NumberKey, ComputedKey, Prop, Short, Pair, Method, Get, Set, Props, no_props}
use Rattle.script_grammar.specs.Tree.{more_props, Function, function}
use Rattle.stencil_data.specs.declared.scopes.Place.{Place}
use Rattle.stencil_data.specs.declared.scopes.Place.TheVariants as place
use Rattle.stencil_data.specs.LinkView.{LinkView}
use Rattle.stencil_data.specs.Resolve.{resolve}
use Rattle.scope_analysis.specs.Uses.{this_text}
use Rattle.bytecode_buf.specs.declared.opcode.Op.TheVariants as op
use Rattle.bytecode_buf.specs.declared.waits.Aim.TheVariants as aim
use Rattle.bytecode_buf.specs.Command.{Command, plain, counted, named}
use Rattle.bytecode_buf.specs.Pieces.{Waiting, Code, one, here}
use Rattle.emit_exprs.specs.declared.uses.Use.{Use}
use Rattle.emit_exprs.specs.declared.uses.Use.TheVariants.{Plainly, Called, Reached, Deleted}
use Rattle.emit_exprs.specs.declared.properties.Defines.{Defines}
use Rattle.emit_exprs.specs.declared.properties.Defines.TheVariants.{Value, Getter, Setter}
use Rattle.emit_exprs.specs.Names.{read, write, base}
use Rattle.emit_exprs.specs.Whole.{whole, just}
use Rattle.emit_operators.specs.Operators.{binary_op, assign_op, prefix_op, update_op, short_op, joining, number_form}
use Rattle.emit_operators.specs.declared.operators.Joining.{Joining}
use Rattle.emit_operators.specs.declared.operators.Joining.TheVariants.{FromLeft, FromRight, Shortcut}
use Rattle.emit_operators.specs.declared.operators.NumberForm.{NumberForm}
use Rattle.emit_operators.specs.declared.operators.NumberForm.TheVariants as form

-- where an expression stands: the scopes around it, and where the functions directly in its function start, by rising start
pub record Scene : Type 0 where
  pub chain : List LinkView
  pub starts : List ℕ

-- ---- pieces of code

abbrev pub reading : Scene → List ℕ → Code
reading scene name = whole (read name (resolve scene.chain name))

abbrev pub writing : Scene → List ℕ → Code
writing scene name = whole (write name (resolve scene.chain name))

abbrev pub basing : Scene → List ℕ → Code
basing scene name = whole (base name (resolve scene.chain name))

abbrev pub number_by : NumberForm → ℕ → Code
number_by form.Zero n = just op.Zero
number_by form.One n = just op.One
number_by form.Byte n = one (counted op.Int8 n)
number_by form.Short n = one (counted op.Uint16 n)
number_by form.Triple n = one (counted op.Uint24 n)
number_by form.Long n = one (counted op.Int32 n)
number_by form.Wide n = one (counted op.Double n)

abbrev pub number_code : ℕ → Code
number_code n = number_by (number_form n) n

-- `this` of the script, or of the function around
abbrev pub this_at : Place → List Command
this_at place.Global = plain op.GlobalThis ∷ []
this_at (place.Arg index) = read this_text (place.Arg index)
this_at (place.Frame slot kind) = read this_text (place.Frame slot kind)
this_at (place.Env hops slot kind) = read this_text (place.Env hops slot kind)
this_at place.Callee = read this_text place.Callee

abbrev pub this_code : Scene → Code
this_code scene = whole (this_at (resolve scene.chain this_text))

-- the place of a function among those directly in its function, by its start
abbrev pub lambda_at : Scene → ℕ → Code
lambda_at scene start = one (counted op.Lambda (count_by (λ s. nat_lt s start) scene.starts))

abbrev pub lambda_code : Scene → Function → Code
lambda_code scene (function _ start _ _ _ _ _ _) = lambda_at scene start

abbrev pub text_behind : List ℕ → Code
text_behind [] = []
text_behind (unit ∷ units) = whole (named op.String (unit ∷ units) ∷ plain op.Add ∷ [])

-- ---- what is done with a value, or with the place that it came from

-- after a value that is no property
abbrev pub used_value : Use → Code
used_value Plainly = []
used_value Called = just op.Undefined
used_value Reached = []
used_value Deleted = whole (plain op.Pop ∷ plain op.True ∷ [])

-- after an object, at one of its properties
abbrev pub used_dot : Use → List ℕ → Code
used_dot Plainly name = one (named op.GetProp name)
used_dot Called name = whole (plain op.Dup ∷ named op.GetProp name ∷ plain op.Swap ∷ [])
used_dot Reached name = []
used_dot Deleted name = one (named op.StrictDelProp name)

-- after an object, before the key of one of its properties and after it
abbrev pub before_index : Use → Code
before_index Plainly = []
before_index Called = just op.Dup
before_index Reached = []
before_index Deleted = []

abbrev pub behind_index : Use → Code
behind_index Plainly = just op.GetElem
behind_index Called = whole (plain op.GetElem ∷ plain op.Swap ∷ [])
behind_index Reached = []
behind_index Deleted = just op.StrictDelElem

-- a name: its place is reached by what stands below a write
abbrev pub used_name : Use → Scene → List ℕ → Code
used_name Plainly scene name = reading scene name
used_name Called scene name = reading scene name ++ just op.Undefined
used_name Reached scene name = basing scene name
used_name Deleted scene name = reading scene name ++ whole (plain op.Pop ∷ plain op.True ∷ [])

-- how a value is used that these tails follow: at the last one as the whole is, before a call as what is called
abbrev pub use_before : Use → Tails → Use
use_before wanted no_tails = wanted
use_before wanted (more_tails (Call items comma) rest) = Called
use_before wanted (more_tails (Dot name) rest) = Plainly
use_before wanted (more_tails (Index key) rest) = Plainly

-- ---- places that are written

pub data Target : Type 0 where
  ToName : List ℕ → Target
  ToProp : List ℕ → Target
  ToElem : Target
  NoTarget : Target

abbrev pub last_target : Tails → Target
last_target no_tails = NoTarget
last_target (more_tails (Dot name) no_tails) = ToProp name
last_target (more_tails (Index key) no_tails) = ToElem
last_target (more_tails (Call items comma) no_tails) = NoTarget
last_target (more_tails t (more_tails u rest)) = last_target (more_tails u rest)

abbrev pub target_of : Expr → Target
target_of (Name name) = ToName name.text
target_of (Paren at inner) = target_of inner
target_of (Chain head tails) = last_target tails
target_of _ = NoTarget

-- the value at a place that was reached, over what reached it
abbrev pub loading : Scene → Target → Code
loading scene (ToName name) = reading scene name
loading scene (ToProp name) = whole (plain op.Dup ∷ named op.GetProp name ∷ [])
loading scene ToElem = whole (plain op.ToPropertyKey ∷ plain op.Dup2 ∷ plain op.GetElem ∷ [])
loading scene NoTarget = []

-- a value into a place that was reached
abbrev pub storing : Scene → Target → Code
storing scene (ToName name) = writing scene name
storing scene (ToProp name) = one (named op.StrictSetProp name)
storing scene ToElem = just op.StrictSetElem
storing scene NoTarget = []

-- how many values reach the place
abbrev pub base_size : List Command → ℕ
base_size [] = 0
base_size (c ∷ cs) = 1

abbrev pub reach_size : Scene → Target → ℕ
reach_size scene (ToName name) = base_size (base name (resolve scene.chain name))
reach_size scene (ToProp name) = 1
reach_size scene ToElem = 2
reach_size scene NoTarget = 0

-- the old value is kept below what reached the place
abbrev pub keeping : ℕ → Code
keeping n = if nat_eq n 0 then [] else one (counted op.Unpick (n + 1))

-- `++` and `--` on a place that was reached
abbrev pub updating : Scene → Bool → ℕ → Target → Code
updating scene true sign target = loading scene target ++ whole (plain op.ToNumeric ∷ plain (update_op sign) ∷ []) ++ storing scene target
updating scene false sign target =
    loading scene target ++ whole (plain op.ToNumeric ∷ plain op.Dup ∷ []) ++ keeping (reach_size scene target) ++ just (update_op sign)
    ++ storing scene target ++ just op.Pop

-- `=` and assignments with an operator, on a place that was reached: before the value, and after it
abbrev pub before_value : Scene → ℕ → Target → Code
before_value scene sign target = if nat_eq sign mark.ASSIGN then [] else loading scene target

abbrev pub behind_value : Scene → ℕ → Target → Code
behind_value scene sign target = (if nat_eq sign mark.ASSIGN then [] else just (assign_op sign)) ++ storing scene target

abbrev pub is_name : Expr → Bool
is_name (Name name) = true
is_name (Paren at inner) = is_name inner
is_name _ = false

-- how the operand of a prefix operator is used, and what follows it
abbrev pub operand_use : Bool → ℕ → Use
operand_use is_word sign = if is_word then (if nat_eq sign word.DELETE then Deleted else Plainly) else Plainly

abbrev pub word_code : ℕ → Bool → Code
word_code sign of_name =
    if nat_eq sign word.DELETE then [] else (if nat_eq sign word.TYPEOF then just (if of_name then op.Typeof else op.TypeofExpr) else just op.Void)

abbrev pub prefix_code : Bool → ℕ → Bool → Code
prefix_code true sign of_name = word_code sign of_name
prefix_code false sign of_name = just (prefix_op false sign)

-- ---- lists

abbrev pub args_size : Exprs → ℕ
args_size no_exprs = 0
args_size (more_exprs e rest) = 1 + args_size rest

abbrev pub maybe_args_size : MaybeArgs → ℕ
maybe_args_size no_args = 0
maybe_args_size (some_args items comma) = args_size items

abbrev pub items_size : Items → ℕ
items_size no_items = 0
items_size (more_items item rest) = 1 + items_size rest

-- how a binary list is joined, by its first operator; there is always one
abbrev pub list_joining : Operands → Joining
list_joining no_operands = FromLeft
list_joining (more_operands sign is_word value rest) = joining is_word sign

-- the operators of a list of `**`, after all operands
abbrev pub powers : Operands → Code
powers no_operands = []
powers (more_operands sign is_word value rest) = just op.Pow ++ powers rest

abbrev pub joined : Joining → Operands → Code → Code
joined FromLeft rest code = code
joined FromRight rest code = code ++ powers rest
joined (Shortcut jump) rest code = here aim.After code

-- before an operand, and after it
abbrev pub before_operand : Joining → Code
before_operand FromLeft = []
before_operand FromRight = []
before_operand (Shortcut short) = Waiting (short_op short) aim.After ∷ just op.Pop

abbrev pub behind_operand : Joining → Bool → ℕ → Code
behind_operand FromLeft is_word sign = just (binary_op is_word sign)
behind_operand FromRight is_word sign = []
behind_operand (Shortcut jump) is_word sign = []

-- a comma between two
abbrev pub dropping : Exprs → Code
dropping no_exprs = []
dropping (more_exprs e rest) = just op.Pop

-- ---- properties

abbrev pub define_named : Defines → List ℕ → Code
define_named Value name = one (named op.InitProp name)
define_named Getter name = one (named op.InitPropGetter name)
define_named Setter name = one (named op.InitPropSetter name)

abbrev pub define_computed : Defines → Code
define_computed Value = just op.InitElem
define_computed Getter = just op.InitElemGetter
define_computed Setter = just op.InitElemSetter

-- the key, a value's code, and what defines the property; a computed key's own code is given
abbrev pub defining : Key → Code → Defines → Code → Code
defining (WordKey name) key how value = value ++ define_named how name.text
defining (StrKey name) key how value = value ++ define_named how name.text
defining (NumberKey at number) key how value = number_code number ++ value ++ define_computed how
defining (ComputedKey e) key how value = key ++ just op.ToPropertyKey ++ value ++ define_computed how

-- `__proto__: v` sets the prototype (ECMA-262, 12th edition, Annex B.3.1)
abbrev pub proto_text : List ℕ
proto_text = codes "__proto__"

abbrev pub is_proto : Key → Bool
is_proto (WordKey name) = bytes_eq name.text proto_text
is_proto (StrKey name) = bytes_eq name.text proto_text
is_proto (NumberKey at number) = false
is_proto (ComputedKey e) = false

abbrev pub pairing : Key → Code → Code → Code
pairing key computed value = if is_proto key then value ++ just op.MutateProto else defining key computed Value value

-- ---- the equations

abbrev mutual
  pub code_of : Scene → Use → Expr → Code
  code_of scene wanted (This at) = this_code scene ++ used_value wanted
  code_of scene wanted (Name name) = used_name wanted scene name.text
  code_of scene wanted (Null at) = just op.Null ++ used_value wanted
  code_of scene wanted (True at) = just op.True ++ used_value wanted
  code_of scene wanted (False at) = just op.False ++ used_value wanted
  code_of scene wanted (Number at value) = number_code value ++ used_value wanted
  code_of scene wanted (Str at end text) = one (named op.String text) ++ used_value wanted
  code_of scene wanted (Template at first parts) = one (named op.String first) ++ parts_code scene parts ++ used_value wanted
  code_of scene wanted (Array at items comma) = one (counted op.NewArray (items_size items)) ++ items_code scene 0 items ++ used_value wanted
  code_of scene wanted (Object at props comma) = just op.NewInit ++ props_code scene props ++ used_value wanted
  code_of scene wanted (Func at f) = lambda_code scene f ++ used_value wanted
  code_of scene wanted (Paren at inner) = code_of scene wanted inner
  code_of scene wanted (Chain head tails) = code_of scene (use_before wanted tails) head ++ tails_code scene wanted tails
  code_of scene wanted (New at callee args) =
      code_of scene Plainly callee ++ whole (plain op.Dup ∷ plain op.IsConstructing ∷ []) ++ maybe_args_code scene args
      ++ whole (counted op.Pick (maybe_args_size args + 1) ∷ counted op.New (maybe_args_size args) ∷ []) ++ used_value wanted
  code_of scene wanted (Unary at sign operand is_word) = code_of scene (operand_use is_word sign) operand
      ++ prefix_code is_word sign (is_name operand) ++ used_value wanted
  code_of scene wanted (Update at sign prefix operand) = code_of scene Reached operand ++ updating scene prefix sign (target_of operand)
      ++ used_value wanted
  code_of scene wanted (Binary first rest) =
      joined (list_joining rest) rest (code_of scene Plainly first ++ operands_code scene (list_joining rest) rest) ++ used_value wanted
  code_of scene wanted (Cond test then_value else_value) =
      here aim.After (here aim.Otherwise (code_of scene Plainly test
      ++ (Waiting op.JumpIfFalse aim.Otherwise ∷ code_of scene Plainly then_value) ++ (Waiting op.Goto aim.After ∷ []))
      ++ code_of scene Plainly else_value)
      ++ used_value wanted
  code_of scene wanted (Assign sign target value) = code_of scene Reached target ++ before_value scene sign (target_of target)
      ++ code_of scene Plainly value ++ behind_value scene sign (target_of target) ++ used_value wanted
  code_of scene wanted (Comma items) = comma_code scene items ++ used_value wanted

  -- arguments, one after the other
  pub exprs_code : Scene → Exprs → Code
  exprs_code scene no_exprs = []
  exprs_code scene (more_exprs e rest) = code_of scene Plainly e ++ exprs_code scene rest

  -- each but the last is dropped
  pub comma_code : Scene → Exprs → Code
  comma_code scene no_exprs = []
  comma_code scene (more_exprs e rest) = code_of scene Plainly e ++ dropping rest ++ comma_code scene rest

  pub maybe_args_code : Scene → MaybeArgs → Code
  maybe_args_code scene no_args = []
  maybe_args_code scene (some_args items comma) = exprs_code scene items

  pub parts_code : Scene → Parts → Code
  parts_code scene no_parts = []
  parts_code scene (more_parts value behind rest) =
      code_of scene Plainly value ++ whole (plain op.ToString ∷ plain op.Add ∷ []) ++ text_behind behind ++ parts_code scene rest

  -- the items of an array from an index on
  pub items_code : Scene → ℕ → Items → Code
  items_code scene index no_items = []
  items_code scene index (more_items item rest) = item_code scene item ++ one (counted op.InitElemArray index) ++ items_code scene (index + 1) rest

  pub item_code : Scene → MaybeExpr → Code
  item_code scene no_expr = just op.Hole
  item_code scene (some_expr e) = code_of scene Plainly e

  pub operands_code : Scene → Joining → Operands → Code
  operands_code scene how no_operands = []
  operands_code scene how (more_operands sign is_word value rest) =
      before_operand how ++ code_of scene Plainly value ++ behind_operand how is_word sign ++ operands_code scene how rest

  pub tails_code : Scene → Use → Tails → Code
  tails_code scene wanted no_tails = []
  tails_code scene wanted (more_tails t rest) = tail_code scene (use_before wanted rest) t ++ tails_code scene wanted rest

  pub tail_code : Scene → Use → Tail → Code
  tail_code scene wanted (Dot name) = used_dot wanted name
  tail_code scene wanted (Index key) = before_index wanted ++ code_of scene Plainly key ++ behind_index wanted
  tail_code scene wanted (Call items comma) = exprs_code scene items ++ one (counted op.Call (args_size items)) ++ used_value wanted

  pub key_code : Scene → Key → Code
  key_code scene (WordKey name) = []
  key_code scene (StrKey name) = []
  key_code scene (NumberKey at number) = []
  key_code scene (ComputedKey e) = code_of scene Plainly e

  pub prop_code : Scene → Prop → Code
  prop_code scene (Short name) = reading scene name.text ++ one (named op.InitProp name.text)
  prop_code scene (Pair key value) = pairing key (key_code scene key) (code_of scene Plainly value)
  prop_code scene (Method key f) = defining key (key_code scene key) Value (lambda_code scene f)
  prop_code scene (Get key f) = defining key (key_code scene key) Getter (lambda_code scene f)
  prop_code scene (Set key f) = defining key (key_code scene key) Setter (lambda_code scene f)

  pub props_code : Scene → Props → Code
  props_code scene no_props = []
  props_code scene (more_props p rest) = prop_code scene p ++ props_code scene rest

-- the code of an expression
abbrev pub expr_code : Scene → Expr → Code
expr_code scene e = code_of scene Plainly e

abbrev pub maybe_expr_code : Scene → MaybeExpr → Code
maybe_expr_code scene no_expr = []
maybe_expr_code scene (some_expr e) = expr_code scene e
