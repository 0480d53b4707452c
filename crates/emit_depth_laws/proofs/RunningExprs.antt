-- The code of an expression fits depths of the stack: it leaves one value more, where each assignment goes to a place.
use Rattle.std.proofs.Common.{◌≡◌, ℕ, suc, ◌+◌, Bool, true, false, nat_eq, if◌then◌else◌, [], ◌∷◌, ◌++◌, Some, refl, ap, arith}
use Rattle.script_grammar.specs.declared.token.mark.TheConstants as mark
use Rattle.script_grammar.specs.Tree.{Expr, This, Name, Null, True, False, Number, Str, Template, Array, Object, Func, Paren, Chain, New, Unary, Update, Binary, Cond, Assign, Comma, Exprs, no_exprs, more_exprs, MaybeExpr, no_expr, some_expr, MaybeArgs, no_args, some_args, Parts, no_parts, more_parts, Items, no_items, more_items, Operands, no_operands, more_operands, Tail, Dot, Index, Call, Tails, no_tails, more_tails, Key, WordKey, StrKey, NumberKey, ComputedKey, Prop, Short, Pair, Method, Get, Set, Props, no_props, more_props}
use Rattle.bytecode_buf.specs.declared.opcode.Op.TheVariants as op
use Rattle.bytecode_buf.specs.declared.waits.Aim.TheVariants as aim
use Rattle.bytecode_buf.specs.Command.{plain, counted, named}
use Rattle.bytecode_buf.specs.Pieces.{Waiting, Code, here}
use Rattle.emit_operators.specs.declared.operators.Joining.{Joining}
use Rattle.emit_operators.specs.declared.operators.Joining.TheVariants.{FromLeft, FromRight, Shortcut}
use Rattle.emit_operators.specs.declared.operators.Short as operators
use Rattle.emit_operators.specs.declared.operators.Short.TheVariants as short
use Rattle.emit_exprs.specs.declared.uses.Use.{Use}
use Rattle.emit_exprs.specs.declared.uses.Use.TheVariants.{Plainly, Called, Reached, Deleted}
use Rattle.emit_exprs.specs.declared.properties.Defines.TheVariants.{Value, Getter, Setter}
use Rattle.emit_operators.specs.Operators.{binary_op, assign_op, short_op}
use Rattle.emit_exprs.specs.Whole.{just}
use Rattle.emit_exprs.specs.Exprs.{Scene, use_before, Target, target_of, last_target, reach_size, loading, storing, is_name, operand_use, args_size, maybe_args_size, items_size, list_joining, powers, joined, before_index, behind_index, code_of, exprs_code, comma_code, maybe_args_code, parts_code, items_code, item_code, operands_code, tails_code, key_code, prop_code, props_code}
use Rattle.bytecode_flow_laws.specs.Depths.{Exits, with_exit, Runs, raised}
use Rattle.bytecode_flow_laws.proofs.Joining.{runs_none, runs_both}
use Rattle.bytecode_flow_laws.proofs.Landing.{runs_here}
use Rattle.bytecode_flow_laws.proofs.Running.{raised_is, runs_after, runs_whole, runs_call, runs_new, runs_pick, runs_goto, runs_if_false, runs_and, runs_or, runs_coalesce}
use Rattle.emit_depth_laws.specs.Assigning.{IsPlace, HasItem, ExprAssigns, ExprsAssign, MaybeExprAssigns, MaybeArgsAssign, PartsAssign, ItemsAssign, OperandsAssign, TailsAssign, KeyAssigns, PropAssigns, PropsAssign}
use Rattle.emit_depth_laws.proofs.RunningPieces.{raised-suc, runs_to, runs_just, reading_runs, number_runs, this_runs, lambda_runs, text_runs, below_name, used_depth, used_runs, dot_runs, name_runs, loading_runs, storing_runs, updating_runs, binary_after, assign_after, prefix_runs, operand_depth, key_depth, defining_runs, pairing_runs}

-- ---- depths after an expression whose place is reached

-- after a part of a chain that is the last
abbrev pub tail_place : Tail → ℕ → ℕ
tail_place (Dot name) d = suc d
tail_place (Index key) d = suc (suc d)
tail_place (Call items comma) d = suc d

abbrev pub chain_place : ℕ → Tails → ℕ → ℕ
chain_place head no_tails d = head
chain_place head (more_tails t rest) d = chain_place (tail_place t d) rest d

abbrev pub place_depth : Scene → Expr → ℕ → ℕ
place_depth scene (Name name) d = raised (below_name scene name.text) d
place_depth scene (Paren at inner) d = place_depth scene inner d
place_depth scene (Chain head tails) d = chain_place (place_depth scene head d) tails d
place_depth scene _ d = suc d

chain_reached : (scene : Scene) (tails : Tails) (head d : ℕ) → IsPlace (last_target tails) → chain_place head tails d ≡ raised (reach_size scene (last_target tails)) d
chain_reached scene no_tails head d h = absurd h
chain_reached scene (more_tails (Dot name) no_tails) head d h = refl
chain_reached scene (more_tails (Index key) no_tails) head d h = refl
chain_reached scene (more_tails (Call items comma) no_tails) head d h = absurd h
chain_reached scene (more_tails (Dot name) (more_tails u rest)) head d h = chain_reached scene (more_tails u rest) (suc d) d h
chain_reached scene (more_tails (Index key) (more_tails u rest)) head d h = chain_reached scene (more_tails u rest) (suc (suc d)) d h
chain_reached scene (more_tails (Call items comma) (more_tails u rest)) head d h = chain_reached scene (more_tails u rest) (suc d) d h

-- as many values as reach the place
pub place_reached : (scene : Scene) (e : Expr) (d : ℕ) → IsPlace (target_of e) → place_depth scene e d ≡ raised (reach_size scene (target_of e)) d
place_reached scene (Name name) d h = refl
place_reached scene (Paren at inner) d h = place_reached scene inner d h
place_reached scene (Chain head tails) d h = chain_reached scene tails (place_depth scene head d) d h
place_reached scene (This at) d h = absurd h
place_reached scene _ d h = absurd h

-- ---- lists

raised-one : (n d : ℕ) → raised n (suc d) ≡ raised (1 + n) d
raised-one n d = let a = raised_is n (suc d) in let b = raised_is (1 + n) d in omega arith

abbrev pub operand_count : Operands → ℕ
operand_count no_operands = 0
operand_count (more_operands sign is_word value rest) = suc (operand_count rest)

powers_run : (exits : Exits) (rest : Operands) (d : ℕ) → Runs exits (powers rest) (suc (raised (operand_count rest) d)) (suc d)
powers_run exits no_operands d = runs_none exits (suc d)
powers_run exits (more_operands sign is_word value rest) d =
    runs_both (runs_just exits op.Pow (suc (suc (raised (operand_count rest) d))) (suc (raised (operand_count rest) d)) refl) (powers_run exits rest d)

short_runs : (exits : Exits) (s : operators.Short) (d : ℕ) → exits aim.After ≡ Some (suc d) → Runs exits (Waiting (short_op s) aim.After ∷ just op.Pop) (suc d) d
short_runs exits short.And d h = runs_both (runs_and exits aim.After d h) (runs_just exits op.Pop (suc d) d refl)
short_runs exits short.Or d h = runs_both (runs_or exits aim.After d h) (runs_just exits op.Pop (suc d) d refl)
short_runs exits short.Coalesce d h = runs_both (runs_coalesce exits aim.After d h) (runs_just exits op.Pop (suc d) d refl)

-- ---- assignments

-- the place, the old value where there is an operator, the new one, and the operator
assign_runs : (exits : Exits) (scene : Scene) (b : Bool) (sign : ℕ) (t : Target) {target value : Code} (d : ℕ) → IsPlace t → Runs exits target d (raised (reach_size scene t) d) → ((x : ℕ) → Runs exits value x (suc x)) → Runs exits (target ++ (if b then [] else loading scene t) ++ value ++ ((if b then [] else just (assign_op sign)) ++ storing scene t)) d (suc d)
assign_runs exits scene true sign t d h place value =
    let r : ℕ = raised (reach_size scene t) d in
    runs_both (runs_both (runs_both place (runs_none exits r)) (value r)) (runs_both (runs_none exits (suc r)) (storing_runs exits scene t d h))
assign_runs exits scene false sign t d h place value =
    let r : ℕ = raised (reach_size scene t) d in
    runs_both (runs_both (runs_both place (loading_runs exits scene t d h)) (value (suc r))) (runs_both (runs_just exits (assign_op sign) (suc (suc r)) (suc r) (assign_after sign r)) (storing_runs exits scene t d h))

cond_runs : (exits : Exits) {test first second : Code} (d : ℕ) → ((e : Exits) → Runs e test d (suc d)) → ((e : Exits) → Runs e first d (suc d)) → ((e : Exits) → Runs e second d (suc d)) → Runs exits (here aim.After (here aim.Otherwise (test ++ (Waiting op.JumpIfFalse aim.Otherwise ∷ first) ++ (Waiting op.Goto aim.After ∷ [])) ++ second)) d (suc d)
cond_runs exits {test} {first} {second} d t f s = runs_here exits aim.After (runs_both (runs_here outer aim.Otherwise (runs_both (runs_both (t inner) (runs_both (runs_if_false inner aim.Otherwise d refl) (f inner))) (runs_goto inner aim.After (suc d) d refl))) (s outer))
  where
    outer : Exits
    outer = with_exit aim.After (suc d) exits

    inner : Exits
    inner = with_exit aim.Otherwise d outer

index_runs : (exits : Exits) (wanted : Use) {key : Code} (d : ℕ) → ((x : ℕ) → Runs exits key x (suc x)) → Runs exits (before_index wanted ++ key ++ behind_index wanted) (suc d) (used_depth wanted (suc (suc d)) d)
index_runs exits Plainly d k = runs_both (k (suc d)) (runs_just exits op.GetElem (suc (suc d)) (suc d) refl)
index_runs exits Called d k =
    runs_both (runs_both (runs_just exits op.Dup (suc d) (suc (suc d)) refl) (k (suc (suc d)))) (runs_whole exits (plain op.GetElem ∷ plain op.Swap ∷ []) (suc (suc (suc d))) (suc (suc d)) refl)
index_runs exits Reached d k = runs_both (k (suc d)) (runs_none exits (suc (suc d)))
index_runs exits Deleted d k = runs_both (k (suc d)) (runs_just exits op.StrictDelElem (suc (suc d)) (suc d) refl)

-- where the operands of a list end, and what is wanted of the exits
abbrev pub operands_depth : Joining → Operands → ℕ → ℕ
operands_depth FromLeft rest d = suc d
operands_depth FromRight rest d = suc (raised (operand_count rest) d)
operands_depth (Shortcut s) rest d = suc d

abbrev pub HasExit : Joining → Exits → ℕ → Type 0
HasExit FromLeft exits d = Unit {0}
HasExit FromRight exits d = Unit {0}
HasExit (Shortcut s) exits d = exits aim.After ≡ Some (suc d)

binary_runs : (exits : Exits) (how : Joining) (rest : Operands) {first operands : Code} (d : ℕ) → ((e : Exits) → Runs e first d (suc d)) → ((e : Exits) → HasExit how e d → Runs e operands (suc d) (operands_depth how rest d)) → Runs exits (joined how rest (first ++ operands)) d (suc d)
binary_runs exits FromLeft rest d f r = runs_both (f exits) (r exits tt)
binary_runs exits FromRight rest d f r = runs_both (runs_both (f exits) (r exits tt)) (powers_run exits rest d)
binary_runs exits (Shortcut s) rest d f r = runs_here exits aim.After (runs_both (f (with_exit aim.After (suc d) exits)) (r (with_exit aim.After (suc d) exits) refl))

-- ---- the equations

mutual
  -- after an expression: one value, two where it is called, and where its place is reached those that reach it
  pub code_runs : (exits : Exits) (scene : Scene) (wanted : Use) (e : Expr) (d : ℕ) → ExprAssigns e → Runs exits (code_of scene wanted e) d (used_depth wanted (place_depth scene e d) d)
  code_runs exits scene wanted (This at) d h = runs_both (this_runs exits scene d) (used_runs exits wanted d)
  code_runs exits scene wanted (Name name) d h = name_runs exits wanted scene name.text d
  code_runs exits scene wanted (Null at) d h = runs_both (runs_just exits op.Null d (suc d) refl) (used_runs exits wanted d)
  code_runs exits scene wanted (True at) d h = runs_both (runs_just exits op.True d (suc d) refl) (used_runs exits wanted d)
  code_runs exits scene wanted (False at) d h = runs_both (runs_just exits op.False d (suc d) refl) (used_runs exits wanted d)
  code_runs exits scene wanted (Number at value) d h = runs_both (number_runs exits value d) (used_runs exits wanted d)
  code_runs exits scene wanted (Str at end text) d h = runs_both (runs_after exits (named op.String text) d (suc d) refl) (used_runs exits wanted d)
  code_runs exits scene wanted (Template at first parts) d h = runs_both (runs_both (runs_after exits (named op.String first) d (suc d) refl) (parts_run exits scene parts d h)) (used_runs exits wanted d)
  code_runs exits scene wanted (Array at items comma) d h = runs_both (runs_both (runs_after exits (counted op.NewArray (items_size items)) d (suc d) refl) (items_run exits scene 0 items d h)) (used_runs exits wanted d)
  code_runs exits scene wanted (Object at props comma) d h = runs_both (runs_both (runs_just exits op.NewInit d (suc d) refl) (props_run exits scene props d h)) (used_runs exits wanted d)
  code_runs exits scene wanted (Func at f) d h = runs_both (lambda_runs exits scene f d) (used_runs exits wanted d)
  code_runs exits scene wanted (Paren at inner) d h = code_runs exits scene wanted inner d h
  code_runs exits scene wanted (Chain head tails) d h = runs_both (code_runs exits scene (use_before wanted tails) head d h.0) (tails_run exits scene wanted tails (place_depth scene head d) d h.1)
  code_runs exits scene wanted (New at callee args) d h =
      let n : ℕ = maybe_args_size args in
      let r = raised_is n (suc (suc (suc d))) in
      runs_both (runs_both (runs_both (runs_both (code_runs exits scene Plainly callee d h.0)
      (runs_whole exits (plain op.Dup ∷ plain op.IsConstructing ∷ []) (suc d) (suc (suc (suc d))) refl))
      (maybe_args_run exits scene args (suc (suc (suc d))) h.1))
      (runs_both (runs_pick exits (n + 1) (raised n (suc (suc (suc d)))) (omega arith)) (runs_new exits n d)))
      (used_runs exits wanted d)
  code_runs exits scene wanted (Unary at sign operand is_word) d h =
      runs_both (runs_both (runs_to (operand_depth is_word sign (place_depth scene operand d) d) (code_runs exits scene (operand_use is_word sign) operand d h)) (prefix_runs exits is_word sign (is_name operand) d)) (used_runs exits wanted d)
  code_runs exits scene wanted (Update at sign prefix operand) d h =
      runs_both (runs_both (runs_to (place_reached scene operand d h.0) (code_runs exits scene Reached operand d h.1)) (updating_runs exits scene prefix sign (target_of operand) d h.0)) (used_runs exits wanted d)
  code_runs exits scene wanted (Binary first rest) d h = runs_both (binary_runs exits (list_joining rest) rest d (λ e. code_runs e scene Plainly first d h.0) (λ e k. operands_run e scene (list_joining rest) rest d k h.1)) (used_runs exits wanted d)
  code_runs exits scene wanted (Cond test then_value else_value) d h =
      runs_both (cond_runs exits d (λ e. code_runs e scene Plainly test d h.0) (λ e. code_runs e scene Plainly then_value d h.1) (λ e. code_runs e scene Plainly else_value d h.2)) (used_runs exits wanted d)
  code_runs exits scene wanted (Assign sign target value) d h =
      runs_both (assign_runs exits scene (nat_eq sign mark.ASSIGN) sign (target_of target) d h.0 (runs_to (place_reached scene target d h.0) (code_runs exits scene Reached target d h.1)) (λ x. code_runs exits scene Plainly value x h.2)) (used_runs exits wanted d)
  code_runs exits scene wanted (Comma items) d h = runs_both (comma_runs exits scene items d h.0 h.1) (used_runs exits wanted d)

  exprs_run : (exits : Exits) (scene : Scene) (es : Exprs) (d : ℕ) → ExprsAssign es → Runs exits (exprs_code scene es) d (raised (args_size es) d)
  exprs_run exits scene no_exprs d h = runs_none exits d
  exprs_run exits scene (more_exprs e rest) d h = runs_to (raised-one (args_size rest) d) (runs_both (code_runs exits scene Plainly e d h.0) (exprs_run exits scene rest (suc d) h.1))

  comma_runs : (exits : Exits) (scene : Scene) (es : Exprs) (d : ℕ) → HasItem es → ExprsAssign es → Runs exits (comma_code scene es) d (suc d)
  comma_runs exits scene no_exprs d some h = absurd some
  comma_runs exits scene (more_exprs e no_exprs) d some h = runs_both (runs_both (code_runs exits scene Plainly e d h.0) (runs_none exits (suc d))) (runs_none exits (suc d))
  comma_runs exits scene (more_exprs e (more_exprs f rest)) d some h =
      runs_both (runs_both (code_runs exits scene Plainly e d h.0) (runs_just exits op.Pop (suc d) d refl)) (comma_runs exits scene (more_exprs f rest) d tt h.1)

  maybe_args_run : (exits : Exits) (scene : Scene) (args : MaybeArgs) (d : ℕ) → MaybeArgsAssign args → Runs exits (maybe_args_code scene args) d (raised (maybe_args_size args) d)
  maybe_args_run exits scene no_args d h = runs_none exits d
  maybe_args_run exits scene (some_args items comma) d h = exprs_run exits scene items d h

  parts_run : (exits : Exits) (scene : Scene) (ps : Parts) (d : ℕ) → PartsAssign ps → Runs exits (parts_code scene ps) (suc d) (suc d)
  parts_run exits scene no_parts d h = runs_none exits (suc d)
  parts_run exits scene (more_parts value behind rest) d h =
      runs_both (runs_both (runs_both (code_runs exits scene Plainly value (suc d) h.0) (runs_whole exits (plain op.ToString ∷ plain op.Add ∷ []) (suc (suc d)) (suc d) refl)) (text_runs exits behind d)) (parts_run exits scene rest d h.1)

  items_run : (exits : Exits) (scene : Scene) (index : ℕ) (items : Items) (d : ℕ) → ItemsAssign items → Runs exits (items_code scene index items) (suc d) (suc d)
  items_run exits scene index no_items d h = runs_none exits (suc d)
  items_run exits scene index (more_items item rest) d h =
      runs_both (runs_both (item_runs exits scene item (suc d) h.0) (runs_after exits (counted op.InitElemArray index) (suc (suc d)) (suc d) refl)) (items_run exits scene (index + 1) rest d h.1)

  item_runs : (exits : Exits) (scene : Scene) (item : MaybeExpr) (d : ℕ) → MaybeExprAssigns item → Runs exits (item_code scene item) d (suc d)
  item_runs exits scene no_expr d h = runs_just exits op.Hole d (suc d) refl
  item_runs exits scene (some_expr e) d h = code_runs exits scene Plainly e d h

  operands_run : (exits : Exits) (scene : Scene) (how : Joining) (rest : Operands) (d : ℕ) → HasExit how exits d → OperandsAssign rest → Runs exits (operands_code scene how rest) (suc d) (operands_depth how rest d)
  operands_run exits scene FromLeft no_operands d e h = runs_none exits (suc d)
  operands_run exits scene FromRight no_operands d e h = runs_none exits (suc d)
  operands_run exits scene (Shortcut s) no_operands d e h = runs_none exits (suc d)
  operands_run exits scene FromLeft (more_operands sign is_word value rest) d e h =
      runs_both (runs_both (runs_both (runs_none exits (suc d)) (code_runs exits scene Plainly value (suc d) h.0)) (runs_just exits (binary_op is_word sign) (suc (suc d)) (suc d) (binary_after is_word sign d))) (operands_run exits scene FromLeft rest d tt h.1)
  operands_run exits scene FromRight (more_operands sign is_word value rest) d e h =
      runs_to (ap suc (raised-suc (operand_count rest) d)) (runs_both (runs_both (runs_both (runs_none exits (suc d)) (code_runs exits scene Plainly value (suc d) h.0)) (runs_none exits (suc (suc d)))) (operands_run exits scene FromRight rest (suc d) tt h.1))
  operands_run exits scene (Shortcut s) (more_operands sign is_word value rest) d e h =
      runs_both (runs_both (runs_both (short_runs exits s d e) (code_runs exits scene Plainly value d h.0)) (runs_none exits (suc d))) (operands_run exits scene (Shortcut s) rest d e h.1)

  tails_run : (exits : Exits) (scene : Scene) (wanted : Use) (tails : Tails) (head d : ℕ) → TailsAssign tails → Runs exits (tails_code scene wanted tails) (used_depth (use_before wanted tails) head d) (used_depth wanted (chain_place head tails d) d)
  tails_run exits scene wanted no_tails head d h = runs_none exits (used_depth wanted head d)
  tails_run exits scene wanted (more_tails (Dot name) rest) head d h = runs_both (dot_runs exits (use_before wanted rest) name d) (tails_run exits scene wanted rest (suc d) d h.1)
  tails_run exits scene wanted (more_tails (Index key) rest) head d h = runs_both (index_runs exits (use_before wanted rest) d (λ x. code_runs exits scene Plainly key x h.0)) (tails_run exits scene wanted rest (suc (suc d)) d h.1)
  tails_run exits scene wanted (more_tails (Call items comma) rest) head d h =
      runs_both (runs_both (runs_both (exprs_run exits scene items (suc (suc d)) h.0) (runs_call exits (args_size items) d)) (used_runs exits (use_before wanted rest) d)) (tails_run exits scene wanted rest (suc d) d h.1)

  key_runs : (exits : Exits) (scene : Scene) (key : Key) (d : ℕ) → KeyAssigns key → Runs exits (key_code scene key) d (key_depth key d)
  key_runs exits scene (WordKey name) d h = runs_none exits d
  key_runs exits scene (StrKey name) d h = runs_none exits d
  key_runs exits scene (NumberKey at number) d h = runs_none exits d
  key_runs exits scene (ComputedKey e) d h = code_runs exits scene Plainly e d h

  prop_runs : (exits : Exits) (scene : Scene) (p : Prop) (d : ℕ) → PropAssigns p → Runs exits (prop_code scene p) (suc d) (suc d)
  prop_runs exits scene (Short name) d h = runs_both (reading_runs exits scene name.text (suc d)) (runs_after exits (named op.InitProp name.text) (suc (suc d)) (suc d) refl)
  prop_runs exits scene (Pair key value) d h = pairing_runs exits key d (key_runs exits scene key (suc d) h.0) (λ x. code_runs exits scene Plainly value x h.1)
  prop_runs exits scene (Method key f) d h = defining_runs exits key Value d (key_runs exits scene key (suc d) h) (λ x. lambda_runs exits scene f x)
  prop_runs exits scene (Get key f) d h = defining_runs exits key Getter d (key_runs exits scene key (suc d) h) (λ x. lambda_runs exits scene f x)
  prop_runs exits scene (Set key f) d h = defining_runs exits key Setter d (key_runs exits scene key (suc d) h) (λ x. lambda_runs exits scene f x)

  props_run : (exits : Exits) (scene : Scene) (ps : Props) (d : ℕ) → PropsAssign ps → Runs exits (props_code scene ps) (suc d) (suc d)
  props_run exits scene no_props d h = runs_none exits (suc d)
  props_run exits scene (more_props p rest) d h = runs_both (prop_runs exits scene p d h.0) (props_run exits scene rest d h.1)
