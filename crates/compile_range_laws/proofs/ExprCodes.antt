-- The code of an expression makes no other functions than those that stand in it, and has no try notes.
use Rattle.std.proofs.Common.{◌≡◌, ℕ, ◌+◌, Bool, true, false, cond, nat_eq, nat_lt, count_by, List, [], ◌∷◌}
use Rattle.script_grammar.specs.declared.token.mark.TheConstants as mark
use Rattle.script_grammar.specs.declared.token.word.TheConstants as word
use Rattle.script_grammar.specs.Tree.{Expr, This, Name, Null, True, False, Number, Str, Template, Array, Object, Func, Paren, Chain, New, Unary, Update, Binary, Cond, Assign, Comma, Exprs, no_exprs, more_exprs, MaybeExpr, no_expr, some_expr, MaybeArgs, no_args, some_args, Parts, no_parts, more_parts, Items, no_items, more_items, Operands, no_operands, more_operands, Tail, Dot, Index, Call, Tails, no_tails, more_tails, Key, WordKey, StrKey, NumberKey, ComputedKey, Prop, Short, Pair, Method, Get, Set, Props, no_props, more_props, Function, function}
use Rattle.stencil_data.specs.declared.scopes.Place.{Place}
use Rattle.stencil_data.specs.declared.scopes.Place.TheVariants as place
use Rattle.stencil_data.specs.Resolve.{resolve}
use Rattle.scope_analysis.specs.Functions.{inner_expr, inner_exprs, inner_maybe, inner_args, inner_parts, inner_items, inner_operands, inner_tails, inner_tail, inner_key, inner_prop, inner_props}
use Rattle.scope_analysis.specs.Uses.{this_text}
use Rattle.bytecode_buf.specs.declared.opcode.Op.{Op}
use Rattle.bytecode_buf.specs.declared.opcode.Op.TheVariants as op
use Rattle.bytecode_buf.specs.declared.opcode.Shape.TheVariants as shape
use Rattle.bytecode_buf.specs.declared.waits.Aim.TheVariants as aim
use Rattle.bytecode_buf.specs.Command.{Command, Nothing, Distance, plain, counted, named, aliased}
use Rattle.bytecode_buf.specs.Pieces.{Code}
use Rattle.bytecode_buf.specs.Width.{shape_of}
use Rattle.emit_exprs.specs.declared.names.Access.{Access}
use Rattle.emit_exprs.specs.declared.names.Access.TheVariants as access
use Rattle.emit_operators.specs.declared.operators.Joining.{Joining}
use Rattle.emit_operators.specs.declared.operators.Joining.TheVariants.{FromLeft, FromRight, Shortcut}
use Rattle.emit_operators.specs.declared.operators.NumberForm.{NumberForm}
use Rattle.emit_operators.specs.declared.operators.NumberForm.TheVariants as form
use Rattle.emit_operators.specs.declared.operators.Short.{Short as Shortening}
use Rattle.emit_operators.specs.declared.operators.Short.TheVariants as short
use Rattle.emit_operators.specs.declared.operators.TheConstants.{WORD_OPS, BINARY_OPS, ASSIGN_OPS, PREFIX_OPS}
use Rattle.emit_exprs.specs.declared.properties.Defines.{Defines}
use Rattle.emit_exprs.specs.declared.properties.Defines.TheVariants.{Value, Getter, Setter}
use Rattle.emit_exprs.specs.declared.uses.Use.{Use}
use Rattle.emit_exprs.specs.declared.uses.Use.TheVariants.{Plainly, Called, Reached, Deleted}
use Rattle.emit_exprs.specs.Names.{access_of, checked, read, write, write_frame, write_env, base, init}
use Rattle.emit_operators.specs.Operators.{binary_op, assign_op, prefix_op, update_op, short_op, number_form}
use Rattle.emit_exprs.specs.Exprs.{Scene, reading, writing, basing, number_by, this_at, lambda_code, text_behind, used_value, used_dot, before_index, behind_index, used_name, use_before, Target, ToName, ToProp, ToElem, NoTarget, target_of, loading, storing, reach_size, keeping, updating, before_value, behind_value, is_name, operand_use, word_code, prefix_code, args_size, maybe_args_size, items_size, list_joining, powers, joined, before_operand, behind_operand, dropping, define_named, define_computed, defining, is_proto, pairing, code_of, exprs_code, comma_code, maybe_args_code, parts_code, items_code, item_code, operands_code, tails_code, tail_code, key_code, prop_code, props_code}
use Rattle.emit_exprs.specs.Whole.{just}
use Rattle.emit_operators.proofs.Plain.{plain_op, words_plain, prefixes_plain, assigns_plain, binaries_plain}
use Rattle.stencil_xdr_laws.specs.Sizes.{Makes}
use Rattle.compile_range_laws.proofs.CodeParts.{CodeSmall, Bare, AllBare, nothing, behind, commands, command, wait, either, at_here}
use Rattle.compile_range_laws.proofs.Places.{place_of, Placed, front, back}

-- ---- names

checked_made : (H : ℕ → Type 0) (how : Access) (c : Command) → Bare H c.op c.operand → AllBare H (checked how c)
checked_made H access.Free c h = tt
checked_made H access.Fixed c h = tt
checked_made H access.Checked c h = (h, tt)
checked_made H access.Constant c h = (h, tt)

pub read_made : (H : ℕ → Type 0) (name : List ℕ) (p : Place) → AllBare H (read name p)
read_made H name place.Global = (tt, tt)
read_made H name (place.Arg index) = (tt, tt)
read_made H name (place.Frame slot kind) = (tt, checked_made H (access_of kind) (counted op.CheckLexical slot) tt)
read_made H name (place.Env hops slot kind) = (tt, checked_made H (access_of kind) (aliased op.CheckAliasedLexical hops slot) tt)
read_made H name place.Callee = (tt, tt)

frame_made : (H : ℕ → Type 0) (name : List ℕ) (slot : ℕ) (how : Access) → AllBare H (write_frame name slot how)
frame_made H name slot access.Free = (tt, tt)
frame_made H name slot access.Fixed = (tt, tt)
frame_made H name slot access.Checked = (tt, (tt, (tt, (tt, tt))))
frame_made H name slot access.Constant = (tt, (tt, (tt, (tt, tt))))

env_made : (H : ℕ → Type 0) (name : List ℕ) (hops slot : ℕ) (how : Access) → AllBare H (write_env name hops slot how)
env_made H name hops slot access.Free = (tt, tt)
env_made H name hops slot access.Fixed = (tt, tt)
env_made H name hops slot access.Checked = (tt, (tt, (tt, (tt, tt))))
env_made H name hops slot access.Constant = (tt, (tt, (tt, (tt, tt))))

write_made : (H : ℕ → Type 0) (name : List ℕ) (p : Place) → AllBare H (write name p)
write_made H name place.Global = (tt, tt)
write_made H name (place.Arg index) = (tt, tt)
write_made H name (place.Frame slot kind) = frame_made H name slot (access_of kind)
write_made H name (place.Env hops slot kind) = env_made H name hops slot (access_of kind)
write_made H name place.Callee = (tt, tt)

pub base_made : (H : ℕ → Type 0) (name : List ℕ) (p : Place) → AllBare H (base name p)
base_made H name place.Global = (tt, tt)
base_made H name (place.Arg index) = tt
base_made H name (place.Frame slot kind) = tt
base_made H name (place.Env hops slot kind) = tt
base_made H name place.Callee = tt

pub init_made : (H : ℕ → Type 0) (name : List ℕ) (p : Place) → AllBare H (init name p)
init_made H name place.Global = (tt, tt)
init_made H name (place.Arg index) = (tt, tt)
init_made H name (place.Frame slot kind) = (tt, tt)
init_made H name (place.Env hops slot kind) = (tt, tt)
init_made H name place.Callee = (tt, tt)

this_made : (H : ℕ → Type 0) (p : Place) → AllBare H (this_at p)
this_made H place.Global = (tt, tt)
this_made H (place.Arg index) = read_made H this_text (place.Arg index)
this_made H (place.Frame slot kind) = read_made H this_text (place.Frame slot kind)
this_made H (place.Env hops slot kind) = read_made H this_text (place.Env hops slot kind)
this_made H place.Callee = read_made H this_text place.Callee

pub reads : (H : ℕ → Type 0) (scene : Scene) (name : List ℕ) → CodeSmall H 0 (reading scene name)
reads H scene name = commands (read name (resolve scene.chain name)) (read_made H name (resolve scene.chain name))

pub writes : (H : ℕ → Type 0) (scene : Scene) (name : List ℕ) → CodeSmall H 0 (writing scene name)
writes H scene name = commands (write name (resolve scene.chain name)) (write_made H name (resolve scene.chain name))

pub bases : (H : ℕ → Type 0) (scene : Scene) (name : List ℕ) → CodeSmall H 0 (basing scene name)
bases H scene name = commands (base name (resolve scene.chain name)) (base_made H name (resolve scene.chain name))

-- ---- operators

plain_made : (H : ℕ → Type 0) (o : Op) → shape_of o ≡ shape.Nothing → Bare H o Nothing
plain_made H op.Lambda e = absurd (cc)
plain_made H _ e = tt

operator : (H : ℕ → Type 0) (o : Op) → shape_of o ≡ shape.Nothing → CodeSmall H 0 (just o)
operator H o e = command (plain o) (plain_made H o e)

update_made : (H : ℕ → Type 0) (b : Bool) → Bare H (cond b op.Inc op.Dec) Nothing
update_made H true = tt
update_made H false = tt

typeof_made : (H : ℕ → Type 0) (b : Bool) → Bare H (cond b op.Typeof op.TypeofExpr) Nothing
typeof_made H true = tt
typeof_made H false = tt

short_made : (H : ℕ → Type 0) (s : Shortening) → Makes H (short_op s) (Distance 0)
short_made H short.And = tt
short_made H short.Or = tt
short_made H short.Coalesce = tt

binary : (H : ℕ → Type 0) (is_word : Bool) (sign : ℕ) → CodeSmall H 0 (just (binary_op is_word sign))
binary H true sign = operator H (binary_op true sign) (plain_op WORD_OPS op.Instanceof sign words_plain)
binary H false sign = operator H (binary_op false sign) (plain_op BINARY_OPS op.Pow sign binaries_plain)

words : (H : ℕ → Type 0) (sign : ℕ) (of_name : Bool) → CodeSmall H 0 (word_code sign of_name)
words H sign of_name = either (nat_eq sign word.DELETE) nothing (either (nat_eq sign word.TYPEOF) (command (plain (cond of_name op.Typeof op.TypeofExpr)) (typeof_made H of_name)) (command (plain op.Void) tt))

prefixed : (H : ℕ → Type 0) (is_word : Bool) (sign : ℕ) (of_name : Bool) → CodeSmall H 0 (prefix_code is_word sign of_name)
prefixed H true sign of_name = words H sign of_name
prefixed H false sign of_name = operator H (prefix_op false sign) (plain_op PREFIX_OPS op.BitNot sign prefixes_plain)

-- ---- values, and the places that they are written to

number_by_small : (H : ℕ → Type 0) (f : NumberForm) (n : ℕ) → CodeSmall H 0 (number_by f n)
number_by_small H form.Zero n = command (plain op.Zero) tt
number_by_small H form.One n = command (plain op.One) tt
number_by_small H form.Byte n = command (counted op.Int8 n) tt
number_by_small H form.Short n = command (counted op.Uint16 n) tt
number_by_small H form.Triple n = command (counted op.Uint24 n) tt
number_by_small H form.Long n = command (counted op.Int32 n) tt
number_by_small H form.Wide n = command (counted op.Double n) tt

pub lambdas : (H : ℕ → Type 0) (scene : Scene) (f : Function) → H (place_of scene.starts f) → CodeSmall H 0 (lambda_code scene f)
lambdas H scene (function how start end name ps comma bare body) h = command (counted op.Lambda (count_by (λ (s : ℕ). nat_lt s start) scene.starts)) h

texts : (H : ℕ → Type 0) (units : List ℕ) → CodeSmall H 0 (text_behind units)
texts H [] = nothing
texts H (unit ∷ units) = commands (named op.String (unit ∷ units) ∷ plain op.Add ∷ []) (tt, (tt, tt))

used : (H : ℕ → Type 0) (wanted : Use) → CodeSmall H 0 (used_value wanted)
used H Plainly = nothing
used H Called = command (plain op.Undefined) tt
used H Reached = nothing
used H Deleted = commands (plain op.Pop ∷ plain op.True ∷ []) (tt, (tt, tt))

dots : (H : ℕ → Type 0) (wanted : Use) (name : List ℕ) → CodeSmall H 0 (used_dot wanted name)
dots H Plainly name = command (named op.GetProp name) tt
dots H Called name = commands (plain op.Dup ∷ named op.GetProp name ∷ plain op.Swap ∷ []) (tt, (tt, (tt, tt)))
dots H Reached name = nothing
dots H Deleted name = command (named op.StrictDelProp name) tt

index_before : (H : ℕ → Type 0) (wanted : Use) → CodeSmall H 0 (before_index wanted)
index_before H Plainly = nothing
index_before H Called = command (plain op.Dup) tt
index_before H Reached = nothing
index_before H Deleted = nothing

index_behind : (H : ℕ → Type 0) (wanted : Use) → CodeSmall H 0 (behind_index wanted)
index_behind H Plainly = command (plain op.GetElem) tt
index_behind H Called = commands (plain op.GetElem ∷ plain op.Swap ∷ []) (tt, (tt, tt))
index_behind H Reached = nothing
index_behind H Deleted = command (plain op.StrictDelElem) tt

names : (H : ℕ → Type 0) (wanted : Use) (scene : Scene) (name : List ℕ) → CodeSmall H 0 (used_name wanted scene name)
names H Plainly scene name = reads H scene name
names H Called scene name = behind (reads H scene name) (command (plain op.Undefined) tt)
names H Reached scene name = bases H scene name
names H Deleted scene name = behind (reads H scene name) (commands (plain op.Pop ∷ plain op.True ∷ []) (tt, (tt, tt)))

loads : (H : ℕ → Type 0) (scene : Scene) (t : Target) → CodeSmall H 0 (loading scene t)
loads H scene (ToName name) = reads H scene name
loads H scene (ToProp name) = commands (plain op.Dup ∷ named op.GetProp name ∷ []) (tt, (tt, tt))
loads H scene ToElem = commands (plain op.ToPropertyKey ∷ plain op.Dup2 ∷ plain op.GetElem ∷ []) (tt, (tt, (tt, tt)))
loads H scene NoTarget = nothing

stores : (H : ℕ → Type 0) (scene : Scene) (t : Target) → CodeSmall H 0 (storing scene t)
stores H scene (ToName name) = writes H scene name
stores H scene (ToProp name) = command (named op.StrictSetProp name) tt
stores H scene ToElem = command (plain op.StrictSetElem) tt
stores H scene NoTarget = nothing

keeps : (H : ℕ → Type 0) (n : ℕ) → CodeSmall H 0 (keeping n)
keeps H n = either (nat_eq n 0) nothing (command (counted op.Unpick (n + 1)) tt)

updates : (H : ℕ → Type 0) (scene : Scene) (prefix : Bool) (sign : ℕ) (t : Target) → CodeSmall H 0 (updating scene prefix sign t)
updates H scene true sign t = behind (behind (loads H scene t) (commands (plain op.ToNumeric ∷ plain (update_op sign) ∷ []) (tt, (update_made H (nat_eq sign mark.INCREMENT), tt)))) (stores H scene t)
updates H scene false sign t =
    behind (behind (behind (behind (behind (loads H scene t) (commands (plain op.ToNumeric ∷ plain op.Dup ∷ []) (tt, (tt, tt)))) (keeps H (reach_size scene t))) (command (plain (update_op sign)) (update_made H (nat_eq sign mark.INCREMENT)))) (stores H scene t)) (command (plain op.Pop) tt)

value_before : (H : ℕ → Type 0) (scene : Scene) (sign : ℕ) (t : Target) → CodeSmall H 0 (before_value scene sign t)
value_before H scene sign t = either (nat_eq sign mark.ASSIGN) nothing (loads H scene t)

value_behind : (H : ℕ → Type 0) (scene : Scene) (sign : ℕ) (t : Target) → CodeSmall H 0 (behind_value scene sign t)
value_behind H scene sign t = behind (either (nat_eq sign mark.ASSIGN) nothing (operator H (assign_op sign) (plain_op ASSIGN_OPS op.Pow sign assigns_plain))) (stores H scene t)

-- ---- lists

pows : (H : ℕ → Type 0) (rest : Operands) → CodeSmall H 0 (powers rest)
pows H no_operands = nothing
pows H (more_operands sign is_word value rest) = behind (command (plain op.Pow) tt) (pows H rest)

joins : {H : ℕ → Type 0} {code : Code} (how : Joining) (rest : Operands) → CodeSmall H 0 code → CodeSmall H 0 (joined how rest code)
joins FromLeft rest h = h
joins {H} FromRight rest h = behind h (pows H rest)
joins (Shortcut jump) rest h = at_here aim.After h

operand_before : (H : ℕ → Type 0) (how : Joining) → CodeSmall H 0 (before_operand how)
operand_before H FromLeft = nothing
operand_before H FromRight = nothing
operand_before H (Shortcut s) = behind (wait (short_op s) aim.After (short_made H s)) (command (plain op.Pop) tt)

operand_behind : (H : ℕ → Type 0) (how : Joining) (is_word : Bool) (sign : ℕ) → CodeSmall H 0 (behind_operand how is_word sign)
operand_behind H FromLeft is_word sign = binary H is_word sign
operand_behind H FromRight is_word sign = nothing
operand_behind H (Shortcut s) is_word sign = nothing

drops : (H : ℕ → Type 0) (rest : Exprs) → CodeSmall H 0 (dropping rest)
drops H no_exprs = nothing
drops H (more_exprs e rest) = command (plain op.Pop) tt

-- ---- properties

defines_named : (H : ℕ → Type 0) (how : Defines) (name : List ℕ) → CodeSmall H 0 (define_named how name)
defines_named H Value name = command (named op.InitProp name) tt
defines_named H Getter name = command (named op.InitPropGetter name) tt
defines_named H Setter name = command (named op.InitPropSetter name) tt

defines_computed : (H : ℕ → Type 0) (how : Defines) → CodeSmall H 0 (define_computed how)
defines_computed H Value = command (plain op.InitElem) tt
defines_computed H Getter = command (plain op.InitElemGetter) tt
defines_computed H Setter = command (plain op.InitElemSetter) tt

defined : {H : ℕ → Type 0} {computed value : Code} (key : Key) (how : Defines) → CodeSmall H 0 computed → CodeSmall H 0 value → CodeSmall H 0 (defining key computed how value)
defined {H} (WordKey name) how h k = behind k (defines_named H how name.text)
defined {H} (StrKey name) how h k = behind k (defines_named H how name.text)
defined {H} (NumberKey at number) how h k = behind (behind (number_by_small H (number_form number) number) k) (defines_computed H how)
defined {H} (ComputedKey e) how h k = behind (behind (behind h (command (plain op.ToPropertyKey) tt)) k) (defines_computed H how)

paired : {H : ℕ → Type 0} {computed value : Code} (key : Key) → CodeSmall H 0 computed → CodeSmall H 0 value → CodeSmall H 0 (pairing key computed value)
paired key h k = either (is_proto key) (behind k (command (plain op.MutateProto) tt)) (defined key Value h k)

-- ---- expressions

mutual
  pub expr_small : (H : ℕ → Type 0) (scene : Scene) (wanted : Use) (e : Expr) (around : List ℕ) → Placed H scene.starts (inner_expr e around) → CodeSmall H 0 (code_of scene wanted e)
  expr_small H scene wanted (This at) around h = behind (commands (this_at (resolve scene.chain this_text)) (this_made H (resolve scene.chain this_text))) (used H wanted)
  expr_small H scene wanted (Name name) around h = names H wanted scene name.text
  expr_small H scene wanted (Null at) around h = behind (command (plain op.Null) tt) (used H wanted)
  expr_small H scene wanted (True at) around h = behind (command (plain op.True) tt) (used H wanted)
  expr_small H scene wanted (False at) around h = behind (command (plain op.False) tt) (used H wanted)
  expr_small H scene wanted (Number at value) around h = behind (number_by_small H (number_form value) value) (used H wanted)
  expr_small H scene wanted (Str at end text) around h = behind (command (named op.String text) tt) (used H wanted)
  expr_small H scene wanted (Template at first parts) around h = behind (behind (command (named op.String first) tt) (parts_small H scene parts around h)) (used H wanted)
  expr_small H scene wanted (Array at items comma) around h = behind (behind (command (counted op.NewArray (items_size items)) tt) (items_small H scene 0 items around h)) (used H wanted)
  expr_small H scene wanted (Object at props comma) around h = behind (behind (command (plain op.NewInit) tt) (props_small H scene props around h)) (used H wanted)
  expr_small H scene wanted (Func at f) around h = behind (lambdas H scene f h.all.0) (used H wanted)
  expr_small H scene wanted (Paren at inner) around h = expr_small H scene wanted inner around h
  expr_small H scene wanted (Chain head tails) around h = behind (expr_small H scene (use_before wanted tails) head around (front _ h)) (tails_small H scene wanted tails around (back _ h))
  expr_small H scene wanted (New at callee args) around h =
      behind (behind (behind (behind (expr_small H scene Plainly callee around (front _ h)) (commands (plain op.Dup ∷ plain op.IsConstructing ∷ []) (tt, (tt, tt)))) (args_small H scene args around (back _ h)))
      (commands (counted op.Pick (maybe_args_size args + 1) ∷ counted op.New (maybe_args_size args) ∷ []) (tt, (tt, tt)))) (used H wanted)
  expr_small H scene wanted (Unary at sign operand is_word) around h = behind (behind (expr_small H scene (operand_use is_word sign) operand around h) (prefixed H is_word sign (is_name operand))) (used H wanted)
  expr_small H scene wanted (Update at sign prefix operand) around h = behind (behind (expr_small H scene Reached operand around h) (updates H scene prefix sign (target_of operand))) (used H wanted)
  expr_small H scene wanted (Binary first rest) around h =
      behind (joins (list_joining rest) rest (behind (expr_small H scene Plainly first around (front _ h)) (operands_small H scene (list_joining rest) rest around (back _ h)))) (used H wanted)
  expr_small H scene wanted (Cond test then_value else_value) around h =
      behind (at_here aim.After (behind (at_here aim.Otherwise (behind (behind (expr_small H scene Plainly test around (front _ (front _ h)))
      (behind (wait op.JumpIfFalse aim.Otherwise tt) (expr_small H scene Plainly then_value around (back _ (front _ h))))) (wait op.Goto aim.After tt))) (expr_small H scene Plainly else_value around (back _ h)))) (used H wanted)
  expr_small H scene wanted (Assign sign target value) around h =
      behind (behind (behind (behind (expr_small H scene Reached target around (front _ h)) (value_before H scene sign (target_of target))) (expr_small H scene Plainly value around (back _ h))) (value_behind H scene sign (target_of target))) (used H wanted)
  expr_small H scene wanted (Comma items) around h = behind (comma_small H scene items around h) (used H wanted)

  exprs_small : (H : ℕ → Type 0) (scene : Scene) (es : Exprs) (around : List ℕ) → Placed H scene.starts (inner_exprs es around) → CodeSmall H 0 (exprs_code scene es)
  exprs_small H scene no_exprs around h = nothing
  exprs_small H scene (more_exprs e rest) around h = behind (expr_small H scene Plainly e around (front _ h)) (exprs_small H scene rest around (back _ h))

  comma_small : (H : ℕ → Type 0) (scene : Scene) (es : Exprs) (around : List ℕ) → Placed H scene.starts (inner_exprs es around) → CodeSmall H 0 (comma_code scene es)
  comma_small H scene no_exprs around h = nothing
  comma_small H scene (more_exprs e rest) around h = behind (behind (expr_small H scene Plainly e around (front _ h)) (drops H rest)) (comma_small H scene rest around (back _ h))

  args_small : (H : ℕ → Type 0) (scene : Scene) (args : MaybeArgs) (around : List ℕ) → Placed H scene.starts (inner_args args around) → CodeSmall H 0 (maybe_args_code scene args)
  args_small H scene no_args around h = nothing
  args_small H scene (some_args items comma) around h = exprs_small H scene items around h

  parts_small : (H : ℕ → Type 0) (scene : Scene) (parts : Parts) (around : List ℕ) → Placed H scene.starts (inner_parts parts around) → CodeSmall H 0 (parts_code scene parts)
  parts_small H scene no_parts around h = nothing
  parts_small H scene (more_parts value units rest) around h =
      behind (behind (behind (expr_small H scene Plainly value around (front _ h)) (commands (plain op.ToString ∷ plain op.Add ∷ []) (tt, (tt, tt)))) (texts H units)) (parts_small H scene rest around (back _ h))

  items_small : (H : ℕ → Type 0) (scene : Scene) (index : ℕ) (items : Items) (around : List ℕ) → Placed H scene.starts (inner_items items around) → CodeSmall H 0 (items_code scene index items)
  items_small H scene index no_items around h = nothing
  items_small H scene index (more_items item rest) around h = behind (behind (item_small H scene item around (front _ h)) (command (counted op.InitElemArray index) tt)) (items_small H scene (index + 1) rest around (back _ h))

  item_small : (H : ℕ → Type 0) (scene : Scene) (item : MaybeExpr) (around : List ℕ) → Placed H scene.starts (inner_maybe item around) → CodeSmall H 0 (item_code scene item)
  item_small H scene no_expr around h = command (plain op.Hole) tt
  item_small H scene (some_expr e) around h = expr_small H scene Plainly e around h

  operands_small : (H : ℕ → Type 0) (scene : Scene) (how : Joining) (rest : Operands) (around : List ℕ) → Placed H scene.starts (inner_operands rest around) → CodeSmall H 0 (operands_code scene how rest)
  operands_small H scene how no_operands around h = nothing
  operands_small H scene how (more_operands sign is_word value rest) around h =
      behind (behind (behind (operand_before H how) (expr_small H scene Plainly value around (front _ h))) (operand_behind H how is_word sign)) (operands_small H scene how rest around (back _ h))

  tails_small : (H : ℕ → Type 0) (scene : Scene) (wanted : Use) (tails : Tails) (around : List ℕ) → Placed H scene.starts (inner_tails tails around) → CodeSmall H 0 (tails_code scene wanted tails)
  tails_small H scene wanted no_tails around h = nothing
  tails_small H scene wanted (more_tails t rest) around h = behind (tail_small H scene (use_before wanted rest) t around (front _ h)) (tails_small H scene wanted rest around (back _ h))

  tail_small : (H : ℕ → Type 0) (scene : Scene) (wanted : Use) (t : Tail) (around : List ℕ) → Placed H scene.starts (inner_tail t around) → CodeSmall H 0 (tail_code scene wanted t)
  tail_small H scene wanted (Dot name) around h = dots H wanted name
  tail_small H scene wanted (Index key) around h = behind (behind (index_before H wanted) (expr_small H scene Plainly key around h)) (index_behind H wanted)
  tail_small H scene wanted (Call items comma) around h = behind (behind (exprs_small H scene items around h) (command (counted op.Call (args_size items)) tt)) (used H wanted)

  key_small : (H : ℕ → Type 0) (scene : Scene) (key : Key) (around : List ℕ) → Placed H scene.starts (inner_key key around) → CodeSmall H 0 (key_code scene key)
  key_small H scene (WordKey name) around h = nothing
  key_small H scene (StrKey name) around h = nothing
  key_small H scene (NumberKey at number) around h = nothing
  key_small H scene (ComputedKey e) around h = expr_small H scene Plainly e around h

  prop_small : (H : ℕ → Type 0) (scene : Scene) (p : Prop) (around : List ℕ) → Placed H scene.starts (inner_prop p around) → CodeSmall H 0 (prop_code scene p)
  prop_small H scene (Short name) around h = behind (reads H scene name.text) (command (named op.InitProp name.text) tt)
  prop_small H scene (Pair key value) around h = paired key (key_small H scene key around (front _ h)) (expr_small H scene Plainly value around (back _ h))
  prop_small H scene (Method key f) around h = defined key Value (key_small H scene key around (front _ h)) (lambdas H scene f (back (inner_key key around) h).all.0)
  prop_small H scene (Get key f) around h = defined key Getter (key_small H scene key around (front _ h)) (lambdas H scene f (back (inner_key key around) h).all.0)
  prop_small H scene (Set key f) around h = defined key Setter (key_small H scene key around (front _ h)) (lambdas H scene f (back (inner_key key around) h).all.0)

  props_small : (H : ℕ → Type 0) (scene : Scene) (props : Props) (around : List ℕ) → Placed H scene.starts (inner_props props around) → CodeSmall H 0 (props_code scene props)
  props_small H scene no_props around h = nothing
  props_small H scene (more_props p rest) around h = behind (prop_small H scene p around (front _ h)) (props_small H scene rest around (back _ h))
