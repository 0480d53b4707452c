-- The jumps in the code of an expression stay within it.
use Rattle.std.proofs.Common.{ℕ, ◌+◌, Bool, true, false, nat_eq, if◌then◌else◌, List, [], ◌∷◌}
use Rattle.script_grammar.specs.declared.token.mark.TheConstants as mark
use Rattle.script_grammar.specs.declared.token.word.TheConstants as word
use Rattle.script_grammar.specs.Tree.{Expr, This, Name, Null, True, False, Number, Str, Template, Array, Object, Func, Paren, Chain, New, Unary, Update, Binary, Cond, Assign, Comma, Exprs, no_exprs, more_exprs, MaybeExpr, no_expr, some_expr, MaybeArgs, no_args, some_args, Parts, no_parts, more_parts, Items, no_items, more_items, Operands, no_operands, more_operands, Tail, Dot, Index, Call, Tails, no_tails, more_tails, Key, WordKey, StrKey, NumberKey, ComputedKey, Prop, Short, Pair, Method, Get, Set, Props, no_props, more_props, Function, function}
use Rattle.stencil_data.specs.declared.scopes.Place.{Place}
use Rattle.stencil_data.specs.declared.scopes.Place.TheVariants as place
use Rattle.stencil_data.specs.Resolve.{resolve}
use Rattle.scope_analysis.specs.Uses.{this_text}
use Rattle.bytecode_buf.specs.declared.opcode.Op.{Op}
use Rattle.bytecode_buf.specs.declared.opcode.Op.TheVariants as op
use Rattle.bytecode_buf.specs.declared.waits.Aim.TheVariants as aim
use Rattle.bytecode_buf.specs.Command.{Command, plain, counted, named}
use Rattle.bytecode_buf.specs.Pieces.{Code}
use Rattle.emit_exprs.specs.declared.names.Access.{Access}
use Rattle.emit_exprs.specs.declared.names.Access.TheVariants as access
use Rattle.emit_operators.specs.declared.operators.Joining.{Joining}
use Rattle.emit_operators.specs.declared.operators.Joining.TheVariants.{FromLeft, FromRight, Shortcut}
use Rattle.emit_operators.specs.declared.operators.NumberForm.{NumberForm}
use Rattle.emit_operators.specs.declared.operators.NumberForm.TheVariants as form
use Rattle.emit_exprs.specs.declared.uses.Use.{Use}
use Rattle.emit_exprs.specs.declared.uses.Use.TheVariants.{Plainly, Called, Reached, Deleted}
use Rattle.emit_exprs.specs.declared.properties.Defines.{Defines}
use Rattle.emit_exprs.specs.declared.properties.Defines.TheVariants.{Value, Getter, Setter}
use Rattle.emit_exprs.specs.Names.{checked, read, write_frame, write_env, write, base, init, access_of}
use Rattle.emit_operators.specs.Operators.{binary_op, assign_op, prefix_op, update_op, short_op, number_form}
use Rattle.emit_exprs.specs.Whole.{just}
use Rattle.emit_exprs.specs.Exprs.{Scene, reading, writing, basing, number_by, number_code, this_at, lambda_code, text_behind, used_value, used_dot, before_index, behind_index, used_name, use_before, Target, ToName, ToProp, ToElem, NoTarget, target_of, loading, storing, reach_size, keeping, updating, before_value, behind_value, is_name, operand_use, prefix_code, args_size, maybe_args_size, items_size, list_joining, powers, joined, before_operand, behind_operand, dropping, define_named, define_computed, defining, is_proto, pairing, code_of, exprs_code, comma_code, maybe_args_code, parts_code, items_code, item_code, operands_code, tails_code, tail_code, key_code, prop_code, props_code}
use Rattle.bytecode_flow_laws.proofs.Staying.{NoJump, NoJumps, stays_none, stays_both, stays_waiting, stays_command, stays_whole, stays_here}
use Rattle.bytecode_flow_laws.specs.Staying.{Stays}

-- ---- pieces

pub stays_just : (o : Op) → Stays (just o)
stays_just o = stays_command (plain o) tt

pub stays_if : (b : Bool) {x y : Code} → Stays x → Stays y → Stays (if b then x else y)
stays_if true f g = f
stays_if false f g = g

checked_no : (how : Access) (check : Command) → NoJump check.operand → NoJumps (checked how check)
checked_no access.Free check h = tt
checked_no access.Fixed check h = tt
checked_no access.Checked check h = (h, tt)
checked_no access.Constant check h = (h, tt)

pub read_no : (name : List ℕ) (p : Place) → NoJumps (read name p)
read_no name place.Global = (tt, tt)
read_no name (place.Arg index) = (tt, tt)
read_no name (place.Frame slot kind) = (tt, checked_no (access_of kind) (counted op.CheckLexical slot) tt)
read_no name (place.Env hops slot kind) = (tt, checked_no (access_of kind) _ tt)
read_no name place.Callee = (tt, tt)

write_frame_no : (name : List ℕ) (slot : ℕ) (how : Access) → NoJumps (write_frame name slot how)
write_frame_no name slot access.Free = (tt, tt)
write_frame_no name slot access.Fixed = (tt, tt)
write_frame_no name slot access.Checked = (tt, (tt, (tt, (tt, tt))))
write_frame_no name slot access.Constant = (tt, (tt, (tt, (tt, tt))))

write_env_no : (name : List ℕ) (hops slot : ℕ) (how : Access) → NoJumps (write_env name hops slot how)
write_env_no name hops slot access.Free = (tt, tt)
write_env_no name hops slot access.Fixed = (tt, tt)
write_env_no name hops slot access.Checked = (tt, (tt, (tt, (tt, tt))))
write_env_no name hops slot access.Constant = (tt, (tt, (tt, (tt, tt))))

pub write_no : (name : List ℕ) (p : Place) → NoJumps (write name p)
write_no name place.Global = (tt, tt)
write_no name (place.Arg index) = (tt, tt)
write_no name (place.Frame slot kind) = write_frame_no name slot (access_of kind)
write_no name (place.Env hops slot kind) = write_env_no name hops slot (access_of kind)
write_no name place.Callee = (tt, tt)

pub base_no : (name : List ℕ) (p : Place) → NoJumps (base name p)
base_no name place.Global = (tt, tt)
base_no name (place.Arg index) = tt
base_no name (place.Frame slot kind) = tt
base_no name (place.Env hops slot kind) = tt
base_no name place.Callee = tt

pub init_no : (name : List ℕ) (p : Place) → NoJumps (init name p)
init_no name place.Global = (tt, tt)
init_no name (place.Arg index) = (tt, tt)
init_no name (place.Frame slot kind) = (tt, tt)
init_no name (place.Env hops slot kind) = (tt, tt)
init_no name place.Callee = (tt, tt)

pub reading_stays : (scene : Scene) (name : List ℕ) → Stays (reading scene name)
reading_stays scene name = stays_whole (read name (resolve scene.chain name)) (read_no name (resolve scene.chain name))

pub writing_stays : (scene : Scene) (name : List ℕ) → Stays (writing scene name)
writing_stays scene name = stays_whole (write name (resolve scene.chain name)) (write_no name (resolve scene.chain name))

pub basing_stays : (scene : Scene) (name : List ℕ) → Stays (basing scene name)
basing_stays scene name = stays_whole (base name (resolve scene.chain name)) (base_no name (resolve scene.chain name))

number_by_stays : (f : NumberForm) (n : ℕ) → Stays (number_by f n)
number_by_stays form.Zero n = stays_just op.Zero
number_by_stays form.One n = stays_just op.One
number_by_stays form.Byte n = stays_command (counted op.Int8 n) tt
number_by_stays form.Short n = stays_command (counted op.Uint16 n) tt
number_by_stays form.Triple n = stays_command (counted op.Uint24 n) tt
number_by_stays form.Long n = stays_command (counted op.Int32 n) tt
number_by_stays form.Wide n = stays_command (counted op.Double n) tt

number_stays : (n : ℕ) → Stays (number_code n)
number_stays n = number_by_stays (number_form n) n

this_no : (p : Place) → NoJumps (this_at p)
this_no place.Global = (tt, tt)
this_no (place.Arg index) = read_no this_text (place.Arg index)
this_no (place.Frame slot kind) = read_no this_text (place.Frame slot kind)
this_no (place.Env hops slot kind) = read_no this_text (place.Env hops slot kind)
this_no place.Callee = read_no this_text place.Callee

pub lambda_stays : (scene : Scene) (f : Function) → Stays (lambda_code scene f)
lambda_stays scene (function form start end name ps comma bare body) = stays_command _ tt

text_stays : (units : List ℕ) → Stays (text_behind units)
text_stays [] = stays_none
text_stays (unit ∷ units) = stays_whole (named op.String (unit ∷ units) ∷ plain op.Add ∷ []) (tt, (tt, tt))

used_stays : (wanted : Use) → Stays (used_value wanted)
used_stays Plainly = stays_none
used_stays Called = stays_just op.Undefined
used_stays Reached = stays_none
used_stays Deleted = stays_whole (plain op.Pop ∷ plain op.True ∷ []) (tt, (tt, tt))

dot_stays : (wanted : Use) (name : List ℕ) → Stays (used_dot wanted name)
dot_stays Plainly name = stays_command (named op.GetProp name) tt
dot_stays Called name = stays_whole (plain op.Dup ∷ named op.GetProp name ∷ plain op.Swap ∷ []) (tt, (tt, (tt, tt)))
dot_stays Reached name = stays_none
dot_stays Deleted name = stays_command (named op.StrictDelProp name) tt

before_stays : (wanted : Use) → Stays (before_index wanted)
before_stays Plainly = stays_none
before_stays Called = stays_just op.Dup
before_stays Reached = stays_none
before_stays Deleted = stays_none

behind_stays : (wanted : Use) → Stays (behind_index wanted)
behind_stays Plainly = stays_just op.GetElem
behind_stays Called = stays_whole (plain op.GetElem ∷ plain op.Swap ∷ []) (tt, (tt, tt))
behind_stays Reached = stays_none
behind_stays Deleted = stays_just op.StrictDelElem

name_stays : (wanted : Use) (scene : Scene) (name : List ℕ) → Stays (used_name wanted scene name)
name_stays Plainly scene name = reading_stays scene name
name_stays Called scene name = stays_both (reading_stays scene name) (stays_just op.Undefined)
name_stays Reached scene name = basing_stays scene name
name_stays Deleted scene name = stays_both (reading_stays scene name) (stays_whole (plain op.Pop ∷ plain op.True ∷ []) (tt, (tt, tt)))

loading_stays : (scene : Scene) (t : Target) → Stays (loading scene t)
loading_stays scene (ToName name) = reading_stays scene name
loading_stays scene (ToProp name) = stays_whole (plain op.Dup ∷ named op.GetProp name ∷ []) (tt, (tt, tt))
loading_stays scene ToElem = stays_whole (plain op.ToPropertyKey ∷ plain op.Dup2 ∷ plain op.GetElem ∷ []) (tt, (tt, (tt, tt)))
loading_stays scene NoTarget = stays_none

storing_stays : (scene : Scene) (t : Target) → Stays (storing scene t)
storing_stays scene (ToName name) = writing_stays scene name
storing_stays scene (ToProp name) = stays_command (named op.StrictSetProp name) tt
storing_stays scene ToElem = stays_just op.StrictSetElem
storing_stays scene NoTarget = stays_none

keeping_stays : (n : ℕ) → Stays (keeping n)
keeping_stays n = stays_if (nat_eq n 0) stays_none (stays_command (counted op.Unpick (n + 1)) tt)

updating_stays : (scene : Scene) (prefix : Bool) (sign : ℕ) (t : Target) → Stays (updating scene prefix sign t)
updating_stays scene true sign t = stays_both (stays_both (loading_stays scene t) (stays_whole (plain op.ToNumeric ∷ plain (update_op sign) ∷ []) (tt, (tt, tt)))) (storing_stays scene t)
updating_stays scene false sign t =
    stays_both (stays_both (stays_both (stays_both (stays_both (loading_stays scene t) (stays_whole (plain op.ToNumeric ∷ plain op.Dup ∷ []) (tt, (tt, tt)))) (keeping_stays (reach_size scene t))) (stays_just (update_op sign))) (storing_stays scene t)) (stays_just op.Pop)

before_value_stays : (scene : Scene) (sign : ℕ) (t : Target) → Stays (before_value scene sign t)
before_value_stays scene sign t = stays_if (nat_eq sign mark.ASSIGN) stays_none (loading_stays scene t)

behind_value_stays : (scene : Scene) (sign : ℕ) (t : Target) → Stays (behind_value scene sign t)
behind_value_stays scene sign t = stays_both (stays_if (nat_eq sign mark.ASSIGN) stays_none (stays_just (assign_op sign))) (storing_stays scene t)

prefix_stays : (is_word : Bool) (sign : ℕ) (of_name : Bool) → Stays (prefix_code is_word sign of_name)
prefix_stays true sign of_name = stays_if (nat_eq sign word.DELETE) stays_none (stays_if (nat_eq sign word.TYPEOF) (stays_just (if of_name then op.Typeof else op.TypeofExpr)) (stays_just op.Void))
prefix_stays false sign of_name = stays_just (prefix_op false sign)

powers_stay : (rest : Operands) → Stays (powers rest)
powers_stay no_operands = stays_none
powers_stay (more_operands sign is_word value rest) = stays_both (stays_just op.Pow) (powers_stay rest)

joined_stays : (how : Joining) (rest : Operands) {code : Code} → Stays code → Stays (joined how rest code)
joined_stays FromLeft rest h = h
joined_stays FromRight rest h = stays_both h (powers_stay rest)
joined_stays (Shortcut short) rest h = stays_here aim.After h

before_operand_stays : (how : Joining) → Stays (before_operand how)
before_operand_stays FromLeft = stays_none
before_operand_stays FromRight = stays_none
before_operand_stays (Shortcut short) = stays_both (stays_waiting (short_op short) aim.After) (stays_just op.Pop)

behind_operand_stays : (how : Joining) (is_word : Bool) (sign : ℕ) → Stays (behind_operand how is_word sign)
behind_operand_stays FromLeft is_word sign = stays_just (binary_op is_word sign)
behind_operand_stays FromRight is_word sign = stays_none
behind_operand_stays (Shortcut short) is_word sign = stays_none

dropping_stays : (rest : Exprs) → Stays (dropping rest)
dropping_stays no_exprs = stays_none
dropping_stays (more_exprs e rest) = stays_just op.Pop

define_named_stays : (how : Defines) (name : List ℕ) → Stays (define_named how name)
define_named_stays Value name = stays_command (named op.InitProp name) tt
define_named_stays Getter name = stays_command (named op.InitPropGetter name) tt
define_named_stays Setter name = stays_command (named op.InitPropSetter name) tt

define_computed_stays : (how : Defines) → Stays (define_computed how)
define_computed_stays Value = stays_just op.InitElem
define_computed_stays Getter = stays_just op.InitElemGetter
define_computed_stays Setter = stays_just op.InitElemSetter

defining_stays : (key : Key) {computed : Code} (how : Defines) {value : Code} → Stays computed → Stays value → Stays (defining key computed how value)
defining_stays (WordKey name) how k v = stays_both v (define_named_stays how name.text)
defining_stays (StrKey name) how k v = stays_both v (define_named_stays how name.text)
defining_stays (NumberKey at number) how k v = stays_both (stays_both (number_stays number) v) (define_computed_stays how)
defining_stays (ComputedKey e) how k v = stays_both (stays_both (stays_both k (stays_just op.ToPropertyKey)) v) (define_computed_stays how)

pairing_stays : (key : Key) {computed value : Code} → Stays computed → Stays value → Stays (pairing key computed value)
pairing_stays key k v = stays_if (is_proto key) (stays_both v (stays_just op.MutateProto)) (defining_stays key Value k v)

-- ---- the equations

mutual
  pub code_stays : (scene : Scene) (wanted : Use) (e : Expr) → Stays (code_of scene wanted e)
  code_stays scene wanted (This at) = stays_both (stays_whole (this_at (resolve scene.chain this_text)) (this_no (resolve scene.chain this_text))) (used_stays wanted)
  code_stays scene wanted (Name name) = name_stays wanted scene name.text
  code_stays scene wanted (Null at) = stays_both (stays_just op.Null) (used_stays wanted)
  code_stays scene wanted (True at) = stays_both (stays_just op.True) (used_stays wanted)
  code_stays scene wanted (False at) = stays_both (stays_just op.False) (used_stays wanted)
  code_stays scene wanted (Number at value) = stays_both (number_stays value) (used_stays wanted)
  code_stays scene wanted (Str at end text) = stays_both (stays_command (named op.String text) tt) (used_stays wanted)
  code_stays scene wanted (Template at first parts) = stays_both (stays_both (stays_command (named op.String first) tt) (parts_stay scene parts)) (used_stays wanted)
  code_stays scene wanted (Array at items comma) = stays_both (stays_both (stays_command (counted op.NewArray (items_size items)) tt) (items_stay scene 0 items)) (used_stays wanted)
  code_stays scene wanted (Object at props comma) = stays_both (stays_both (stays_just op.NewInit) (props_stay scene props)) (used_stays wanted)
  code_stays scene wanted (Func at f) = stays_both (lambda_stays scene f) (used_stays wanted)
  code_stays scene wanted (Paren at inner) = code_stays scene wanted inner
  code_stays scene wanted (Chain head tails) = stays_both (code_stays scene (use_before wanted tails) head) (tails_stay scene wanted tails)
  code_stays scene wanted (New at callee args) =
      stays_both (stays_both (stays_both (stays_both (code_stays scene Plainly callee) (stays_whole (plain op.Dup ∷ plain op.IsConstructing ∷ []) (tt, (tt, tt)))) (maybe_args_stay scene args)) (stays_whole (counted op.Pick (maybe_args_size args + 1) ∷ counted op.New (maybe_args_size args) ∷ []) (tt, (tt, tt)))) (used_stays wanted)
  code_stays scene wanted (Unary at sign operand is_word) = stays_both (stays_both (code_stays scene (operand_use is_word sign) operand) (prefix_stays is_word sign (is_name operand))) (used_stays wanted)
  code_stays scene wanted (Update at sign prefix operand) = stays_both (stays_both (code_stays scene Reached operand) (updating_stays scene prefix sign (target_of operand))) (used_stays wanted)
  code_stays scene wanted (Binary first rest) = stays_both (joined_stays (list_joining rest) rest (stays_both (code_stays scene Plainly first) (operands_stay scene (list_joining rest) rest))) (used_stays wanted)
  code_stays scene wanted (Cond test then_value else_value) =
      stays_both (stays_here aim.After (stays_both (stays_here aim.Otherwise (stays_both (stays_both (code_stays scene Plainly test) (stays_both (stays_waiting op.JumpIfFalse aim.Otherwise) (code_stays scene Plainly then_value))) (stays_waiting op.Goto aim.After))) (code_stays scene Plainly else_value))) (used_stays wanted)
  code_stays scene wanted (Assign sign target value) =
      stays_both (stays_both (stays_both (stays_both (code_stays scene Reached target) (before_value_stays scene sign (target_of target))) (code_stays scene Plainly value)) (behind_value_stays scene sign (target_of target))) (used_stays wanted)
  code_stays scene wanted (Comma items) = stays_both (comma_stays scene items) (used_stays wanted)

  exprs_stay : (scene : Scene) (es : Exprs) → Stays (exprs_code scene es)
  exprs_stay scene no_exprs = stays_none
  exprs_stay scene (more_exprs e rest) = stays_both (code_stays scene Plainly e) (exprs_stay scene rest)

  comma_stays : (scene : Scene) (es : Exprs) → Stays (comma_code scene es)
  comma_stays scene no_exprs = stays_none
  comma_stays scene (more_exprs e rest) = stays_both (stays_both (code_stays scene Plainly e) (dropping_stays rest)) (comma_stays scene rest)

  maybe_args_stay : (scene : Scene) (args : MaybeArgs) → Stays (maybe_args_code scene args)
  maybe_args_stay scene no_args = stays_none
  maybe_args_stay scene (some_args items comma) = exprs_stay scene items

  parts_stay : (scene : Scene) (ps : Parts) → Stays (parts_code scene ps)
  parts_stay scene no_parts = stays_none
  parts_stay scene (more_parts value behind rest) = stays_both (stays_both (stays_both (code_stays scene Plainly value) (stays_whole (plain op.ToString ∷ plain op.Add ∷ []) (tt, (tt, tt)))) (text_stays behind)) (parts_stay scene rest)

  items_stay : (scene : Scene) (index : ℕ) (items : Items) → Stays (items_code scene index items)
  items_stay scene index no_items = stays_none
  items_stay scene index (more_items item rest) = stays_both (stays_both (item_stays scene item) (stays_command (counted op.InitElemArray index) tt)) (items_stay scene (index + 1) rest)

  item_stays : (scene : Scene) (item : MaybeExpr) → Stays (item_code scene item)
  item_stays scene no_expr = stays_just op.Hole
  item_stays scene (some_expr e) = code_stays scene Plainly e

  operands_stay : (scene : Scene) (how : Joining) (rest : Operands) → Stays (operands_code scene how rest)
  operands_stay scene how no_operands = stays_none
  operands_stay scene how (more_operands sign is_word value rest) =
      stays_both (stays_both (stays_both (before_operand_stays how) (code_stays scene Plainly value)) (behind_operand_stays how is_word sign)) (operands_stay scene how rest)

  tails_stay : (scene : Scene) (wanted : Use) (tails : Tails) → Stays (tails_code scene wanted tails)
  tails_stay scene wanted no_tails = stays_none
  tails_stay scene wanted (more_tails t rest) = stays_both (tail_stays scene (use_before wanted rest) t) (tails_stay scene wanted rest)

  tail_stays : (scene : Scene) (wanted : Use) (t : Tail) → Stays (tail_code scene wanted t)
  tail_stays scene wanted (Dot name) = dot_stays wanted name
  tail_stays scene wanted (Index key) = stays_both (stays_both (before_stays wanted) (code_stays scene Plainly key)) (behind_stays wanted)
  tail_stays scene wanted (Call items comma) = stays_both (stays_both (exprs_stay scene items) (stays_command (counted op.Call (args_size items)) tt)) (used_stays wanted)

  key_stays : (scene : Scene) (key : Key) → Stays (key_code scene key)
  key_stays scene (WordKey name) = stays_none
  key_stays scene (StrKey name) = stays_none
  key_stays scene (NumberKey at number) = stays_none
  key_stays scene (ComputedKey e) = code_stays scene Plainly e

  prop_stays : (scene : Scene) (p : Prop) → Stays (prop_code scene p)
  prop_stays scene (Short name) = stays_both (reading_stays scene name.text) (stays_command (named op.InitProp name.text) tt)
  prop_stays scene (Pair key value) = pairing_stays key (key_stays scene key) (code_stays scene Plainly value)
  prop_stays scene (Method key f) = defining_stays key Value (key_stays scene key) (lambda_stays scene f)
  prop_stays scene (Get key f) = defining_stays key Getter (key_stays scene key) (lambda_stays scene f)
  prop_stays scene (Set key f) = defining_stays key Setter (key_stays scene key) (lambda_stays scene f)

  props_stay : (scene : Scene) (ps : Props) → Stays (props_code scene ps)
  props_stay scene no_props = stays_none
  props_stay scene (more_props p rest) = stays_both (prop_stays scene p) (props_stay scene rest)
