-- The pieces of an expression's code fit depths of the stack.
use Rattle.std.proofs.Common.{◌≡◌, ℕ, zero, suc, ◌+◌, Bool, true, false, nat_eq, if◌then◌else◌, cond, find, List, [], ◌∷◌, Option, Some, refl, ap, subst, arith}
use Rattle.script_grammar.specs.declared.token.mark.TheConstants as mark
use Rattle.script_grammar.specs.declared.token.word.TheConstants as word
use Rattle.script_grammar.specs.Tree.{Function, function, Key, WordKey, StrKey, NumberKey, ComputedKey}
use Rattle.stencil_data.specs.declared.scopes.Place.{Place}
use Rattle.stencil_data.specs.declared.scopes.Place.TheVariants as place
use Rattle.stencil_data.specs.Resolve.{resolve}
use Rattle.scope_analysis.specs.Uses.{this_text}
use Rattle.bytecode_buf.specs.declared.opcode.Op.{Op}
use Rattle.bytecode_buf.specs.declared.opcode.Op.TheVariants as op
use Rattle.bytecode_buf.specs.Command.{Command, plain, counted, named, aliased}
use Rattle.bytecode_buf.specs.Pieces.{Code}
use Rattle.emit_exprs.specs.declared.names.Access.{Access}
use Rattle.emit_exprs.specs.declared.names.Access.TheVariants as access
use Rattle.emit_operators.specs.declared.operators.Meaning.{Meaning}
use Rattle.emit_operators.specs.declared.operators.NumberForm.{NumberForm}
use Rattle.emit_operators.specs.declared.operators.NumberForm.TheVariants as form
use Rattle.emit_operators.specs.declared.operators.TheConstants.{WORD_OPS, BINARY_OPS, ASSIGN_OPS, PREFIX_OPS}
use Rattle.emit_exprs.specs.declared.uses.Use.{Use}
use Rattle.emit_exprs.specs.declared.uses.Use.TheVariants.{Plainly, Called, Reached, Deleted}
use Rattle.emit_exprs.specs.declared.properties.Defines.{Defines}
use Rattle.emit_exprs.specs.declared.properties.Defines.TheVariants.{Value, Getter, Setter}
use Rattle.emit_exprs.specs.Names.{checked, read, write_frame, write_env, write, base, init, access_of}
use Rattle.emit_operators.specs.Operators.{op_or, op_of, binary_op, assign_op, prefix_op, update_op, number_form}
use Rattle.emit_exprs.specs.Whole.{whole, just}
use Rattle.emit_exprs.specs.Exprs.{Scene, reading, writing, basing, number_by, number_code, this_at, this_code, lambda_code, text_behind, used_value, used_dot, used_name, Target, ToName, ToProp, ToElem, NoTarget, base_size, loading, storing, reach_size, keeping, updating, operand_use, prefix_code, define_named, define_computed, defining, is_proto, pairing}
use Rattle.bytecode_flow_laws.specs.Depths.{Exits, Runs, raised, depth_after, all_after, depth_behind}
use Rattle.bytecode_flow_laws.proofs.Joining.{runs_none, runs_both}
use Rattle.bytecode_flow_laws.proofs.Running.{raised_is, runs_after, runs_whole, runs_unpick}
use Rattle.emit_depth_laws.specs.Assigning.{IsPlace}

-- ---- depths

pub raised-suc : (n d : ℕ) → raised n (suc d) ≡ suc (raised n d)
raised-suc zero d = refl
raised-suc (suc n) d = ap suc (raised-suc n d)

-- other numbers for the depths
pub runs_from : {exits : Exits} {code : Code} {d e f : ℕ} → d ≡ e → Runs exits code d f → Runs exits code e f
runs_from {exits} {code} {d} {e} {f} same r = subst (λ (x : ℕ). Runs exits code x f) same r

pub runs_to : {exits : Exits} {code : Code} {d e f : ℕ} → e ≡ f → Runs exits code d e → Runs exits code d f
runs_to {exits} {code} {d} {e} {f} same r = subst (λ (x : ℕ). Runs exits code d x) same r

pub runs_if : {exits : Exits} (b : Bool) {x y : Code} {d e : ℕ} → Runs exits x d e → Runs exits y d e → Runs exits (if b then x else y) d e
runs_if true f g = f
runs_if false f g = g

pub runs_just : (exits : Exits) (o : Op) (d e : ℕ) → depth_after o d ≡ Some e → Runs exits (just o) d e
runs_just exits o d e h = runs_after exits (plain o) d e h

-- ---- names

checked_after : (how : Access) (check : Command) (d : ℕ) → depth_after check.op (suc d) ≡ Some (suc d) → all_after (checked how check) (Some (suc d)) ≡ Some (suc d)
checked_after access.Free check d h = refl
checked_after access.Fixed check d h = refl
checked_after access.Checked check d h = h
checked_after access.Constant check d h = h

read_behind : (name : List ℕ) (p : Place) (d : ℕ) → depth_behind (read name p) d ≡ Some (suc d)
read_behind name place.Global d = refl
read_behind name (place.Arg index) d = refl
read_behind name (place.Frame slot kind) d = checked_after (access_of kind) (counted op.CheckLexical slot) d refl
read_behind name (place.Env hops slot kind) d = checked_after (access_of kind) (aliased op.CheckAliasedLexical hops slot) d refl
read_behind name place.Callee d = refl

pub read_runs : (exits : Exits) (name : List ℕ) (p : Place) (d : ℕ) → Runs exits (whole (read name p)) d (suc d)
read_runs exits name p d = runs_whole exits (read name p) d (suc d) (read_behind name p d)

pub reading_runs : (exits : Exits) (scene : Scene) (name : List ℕ) (d : ℕ) → Runs exits (reading scene name) d (suc d)
reading_runs exits scene name d = read_runs exits name (resolve scene.chain name) d

write_frame_behind : (name : List ℕ) (slot : ℕ) (how : Access) (d : ℕ) → depth_behind (write_frame name slot how) (suc d) ≡ Some (suc d)
write_frame_behind name slot access.Free d = refl
write_frame_behind name slot access.Fixed d = refl
write_frame_behind name slot access.Checked d = refl
write_frame_behind name slot access.Constant d = refl

write_env_behind : (name : List ℕ) (hops slot : ℕ) (how : Access) (d : ℕ) → depth_behind (write_env name hops slot how) (suc d) ≡ Some (suc d)
write_env_behind name hops slot access.Free d = refl
write_env_behind name hops slot access.Fixed d = refl
write_env_behind name hops slot access.Checked d = refl
write_env_behind name hops slot access.Constant d = refl

-- a value into a name, over what stands below it
write_behind : (name : List ℕ) (p : Place) (d : ℕ) → depth_behind (write name p) (suc (raised (base_size (base name p)) d)) ≡ Some (suc d)
write_behind name place.Global d = refl
write_behind name (place.Arg index) d = refl
write_behind name (place.Frame slot kind) d = write_frame_behind name slot (access_of kind) d
write_behind name (place.Env hops slot kind) d = write_env_behind name hops slot (access_of kind) d
write_behind name place.Callee d = refl

-- how many values stand below
abbrev pub below_name : Scene → List ℕ → ℕ
below_name scene name = base_size (base name (resolve scene.chain name))

pub writing_runs : (exits : Exits) (scene : Scene) (name : List ℕ) (d : ℕ) → Runs exits (writing scene name) (suc (raised (below_name scene name) d)) (suc d)
writing_runs exits scene name d = runs_whole exits (write name (resolve scene.chain name)) (suc (raised (below_name scene name) d)) (suc d) (write_behind name (resolve scene.chain name) d)

base_behind : (name : List ℕ) (p : Place) (d : ℕ) → depth_behind (base name p) d ≡ Some (raised (base_size (base name p)) d)
base_behind name place.Global d = refl
base_behind name (place.Arg index) d = refl
base_behind name (place.Frame slot kind) d = refl
base_behind name (place.Env hops slot kind) d = refl
base_behind name place.Callee d = refl

pub basing_runs : (exits : Exits) (scene : Scene) (name : List ℕ) (d : ℕ) → Runs exits (basing scene name) d (raised (below_name scene name) d)
basing_runs exits scene name d = runs_whole exits (base name (resolve scene.chain name)) d (raised (below_name scene name) d) (base_behind name (resolve scene.chain name) d)

init_behind : (name : List ℕ) (p : Place) (d : ℕ) → depth_behind (init name p) (suc d) ≡ Some (suc d)
init_behind name place.Global d = refl
init_behind name (place.Arg index) d = refl
init_behind name (place.Frame slot kind) d = refl
init_behind name (place.Env hops slot kind) d = refl
init_behind name place.Callee d = refl

pub init_runs : (exits : Exits) (name : List ℕ) (p : Place) (d : ℕ) → Runs exits (whole (init name p)) (suc d) (suc d)
init_runs exits name p d = runs_whole exits (init name p) (suc d) (suc d) (init_behind name p d)

-- ---- single values

number_by_runs : (exits : Exits) (f : NumberForm) (n d : ℕ) → Runs exits (number_by f n) d (suc d)
number_by_runs exits form.Zero n d = runs_after exits (plain op.Zero) d (suc d) refl
number_by_runs exits form.One n d = runs_after exits (plain op.One) d (suc d) refl
number_by_runs exits form.Byte n d = runs_after exits (counted op.Int8 n) d (suc d) refl
number_by_runs exits form.Short n d = runs_after exits (counted op.Uint16 n) d (suc d) refl
number_by_runs exits form.Triple n d = runs_after exits (counted op.Uint24 n) d (suc d) refl
number_by_runs exits form.Long n d = runs_after exits (counted op.Int32 n) d (suc d) refl
number_by_runs exits form.Wide n d = runs_after exits (counted op.Double n) d (suc d) refl

pub number_runs : (exits : Exits) (n d : ℕ) → Runs exits (number_code n) d (suc d)
number_runs exits n d = number_by_runs exits (number_form n) n d

this_behind : (p : Place) (d : ℕ) → depth_behind (this_at p) d ≡ Some (suc d)
this_behind place.Global d = refl
this_behind (place.Arg index) d = read_behind this_text (place.Arg index) d
this_behind (place.Frame slot kind) d = read_behind this_text (place.Frame slot kind) d
this_behind (place.Env hops slot kind) d = read_behind this_text (place.Env hops slot kind) d
this_behind place.Callee d = read_behind this_text place.Callee d

pub this_runs : (exits : Exits) (scene : Scene) (d : ℕ) → Runs exits (this_code scene) d (suc d)
this_runs exits scene d = runs_whole exits (this_at (resolve scene.chain this_text)) d (suc d) (this_behind (resolve scene.chain this_text) d)

pub lambda_runs : (exits : Exits) (scene : Scene) (f : Function) (d : ℕ) → Runs exits (lambda_code scene f) d (suc d)
lambda_runs exits scene (function form start end name ps comma bare body) d = runs_after exits (counted op.Lambda _) d (suc d) refl

pub text_runs : (exits : Exits) (units : List ℕ) (d : ℕ) → Runs exits (text_behind units) (suc d) (suc d)
text_runs exits [] d = runs_none exits (suc d)
text_runs exits (unit ∷ units) d = runs_whole exits (named op.String (unit ∷ units) ∷ plain op.Add ∷ []) (suc d) (suc d) refl

-- ---- uses

-- after what is used so: the depth where its place is reached, and that below it
abbrev pub used_depth : Use → (reached below : ℕ) → ℕ
used_depth Plainly reached below = suc below
used_depth Called reached below = suc (suc below)
used_depth Reached reached below = reached
used_depth Deleted reached below = suc below

pub used_runs : (exits : Exits) (wanted : Use) (d : ℕ) → Runs exits (used_value wanted) (suc d) (used_depth wanted (suc d) d)
used_runs exits Plainly d = runs_none exits (suc d)
used_runs exits Called d = runs_just exits op.Undefined (suc d) (suc (suc d)) refl
used_runs exits Reached d = runs_none exits (suc d)
used_runs exits Deleted d = runs_whole exits (plain op.Pop ∷ plain op.True ∷ []) (suc d) (suc d) refl

pub dot_runs : (exits : Exits) (wanted : Use) (name : List ℕ) (d : ℕ) → Runs exits (used_dot wanted name) (suc d) (used_depth wanted (suc d) d)
dot_runs exits Plainly name d = runs_after exits (named op.GetProp name) (suc d) (suc d) refl
dot_runs exits Called name d = runs_whole exits (plain op.Dup ∷ named op.GetProp name ∷ plain op.Swap ∷ []) (suc d) (suc (suc d)) refl
dot_runs exits Reached name d = runs_none exits (suc d)
dot_runs exits Deleted name d = runs_after exits (named op.StrictDelProp name) (suc d) (suc d) refl

pub name_runs : (exits : Exits) (wanted : Use) (scene : Scene) (name : List ℕ) (d : ℕ) → Runs exits (used_name wanted scene name) d (used_depth wanted (raised (below_name scene name) d) d)
name_runs exits Plainly scene name d = reading_runs exits scene name d
name_runs exits Called scene name d = runs_both (reading_runs exits scene name d) (runs_just exits op.Undefined (suc d) (suc (suc d)) refl)
name_runs exits Reached scene name d = basing_runs exits scene name d
name_runs exits Deleted scene name d = runs_both (reading_runs exits scene name d) (runs_whole exits (plain op.Pop ∷ plain op.True ∷ []) (suc d) (suc d) refl)

-- ---- places

pub loading_runs : (exits : Exits) (scene : Scene) (t : Target) (d : ℕ) → IsPlace t → Runs exits (loading scene t) (raised (reach_size scene t) d) (suc (raised (reach_size scene t) d))
loading_runs exits scene (ToName name) d h = reading_runs exits scene name (raised (below_name scene name) d)
loading_runs exits scene (ToProp name) d h = runs_whole exits (plain op.Dup ∷ named op.GetProp name ∷ []) (suc d) (suc (suc d)) refl
loading_runs exits scene ToElem d h = runs_whole exits (plain op.ToPropertyKey ∷ plain op.Dup2 ∷ plain op.GetElem ∷ []) (suc (suc d)) (suc (suc (suc d))) refl
loading_runs exits scene NoTarget d h = absurd h

pub storing_runs : (exits : Exits) (scene : Scene) (t : Target) (d : ℕ) → IsPlace t → Runs exits (storing scene t) (suc (raised (reach_size scene t) d)) (suc d)
storing_runs exits scene (ToName name) d h = writing_runs exits scene name d
storing_runs exits scene (ToProp name) d h = runs_after exits (named op.StrictSetProp name) (suc (suc d)) (suc d) refl
storing_runs exits scene ToElem d h = runs_just exits op.StrictSetElem (suc (suc (suc d))) (suc d) refl
storing_runs exits scene NoTarget d h = absurd h

update_after_by : (b : Bool) (d : ℕ) → depth_after (if b then op.Inc else op.Dec) (suc d) ≡ Some (suc d)
update_after_by true d = refl
update_after_by false d = refl

update_after : (sign d : ℕ) → depth_after (update_op sign) (suc d) ≡ Some (suc d)
update_after sign d = update_after_by (nat_eq sign mark.INCREMENT) d

keeping_runs : (exits : Exits) (n d : ℕ) → Runs exits (keeping n) (suc (suc (raised n d))) (suc (suc (raised n d)))
keeping_runs exits n d =
    let r = raised_is n d in
    runs_if (nat_eq n 0) (runs_none exits (suc (suc (raised n d)))) (runs_unpick exits (n + 1) (suc (suc (raised n d))) (omega arith))

pub updating_runs : (exits : Exits) (scene : Scene) (prefix : Bool) (sign : ℕ) (t : Target) (d : ℕ) → IsPlace t → Runs exits (updating scene prefix sign t) (raised (reach_size scene t) d) (suc d)
updating_runs exits scene true sign t d h =
    let r : ℕ = raised (reach_size scene t) d in
    runs_both (runs_both (loading_runs exits scene t d h) (runs_whole exits (plain op.ToNumeric ∷ plain (update_op sign) ∷ []) (suc r) (suc r) (update_after sign r))) (storing_runs exits scene t d h)
updating_runs exits scene false sign t d h =
    let n : ℕ = reach_size scene t in
    let r : ℕ = raised n d in
    runs_both (runs_both (runs_both (runs_both (runs_both (loading_runs exits scene t d h) (runs_whole exits (plain op.ToNumeric ∷ plain op.Dup ∷ []) (suc r) (suc (suc r)) refl)) (keeping_runs exits n d)) (runs_just exits (update_op sign) (suc (suc r)) (suc (suc r)) (update_after sign (suc r)))) (runs_from (ap suc (raised-suc n d)) (storing_runs exits scene t (suc d) h))) (runs_just exits op.Pop (suc (suc d)) (suc d) refl)

-- ---- operators

-- each opcode of a table, and the other one, leads from this depth to that one
abbrev AllLead : List Meaning → Op → ℕ → ℕ → Type 0
AllLead [] other d e = depth_after other d ≡ Some e
AllLead (m ∷ ms) other d e = (depth_after m.op d ≡ Some e) × AllLead ms other d e

lead_found : (m : Meaning) (found : Bool) (other : Op) (further : Option Meaning) (d e : ℕ) → depth_after m.op d ≡ Some e → depth_after (op_or other further) d ≡ Some e → depth_after (op_or other (cond found (Some m) further)) d ≡ Some e
lead_found m true other further d e here later = here
lead_found m false other further d e here later = later

op_leads : (table : List Meaning) (other : Op) (sign d e : ℕ) → AllLead table other d e → depth_after (op_of table other sign) d ≡ Some e
op_leads [] other sign d e all = all
op_leads (m ∷ ms) other sign d e all = lead_found m (nat_eq m.sign sign) other (find (λ (x : Meaning). nat_eq x.sign sign) ms) d e all.0 (op_leads ms other sign d e all.1)

pub binary_after : (is_word : Bool) (sign d : ℕ) → depth_after (binary_op is_word sign) (suc (suc d)) ≡ Some (suc d)
binary_after true sign d = op_leads WORD_OPS op.Instanceof sign (suc (suc d)) (suc d) (refl, refl)
binary_after false sign d = op_leads BINARY_OPS op.Pow sign (suc (suc d)) (suc d) (refl, (refl, (refl, (refl, (refl, (refl, (refl, (refl, (refl, (refl, (refl, (refl, (refl, (refl, (refl, (refl, (refl, (refl, (refl, refl)))))))))))))))))))

pub assign_after : (sign d : ℕ) → depth_after (assign_op sign) (suc (suc d)) ≡ Some (suc d)
assign_after sign d = op_leads ASSIGN_OPS op.Pow sign (suc (suc d)) (suc d) (refl, (refl, (refl, (refl, (refl, (refl, (refl, (refl, (refl, (refl, (refl, refl)))))))))))

prefix_after : (sign d : ℕ) → depth_after (prefix_op false sign) (suc d) ≡ Some (suc d)
prefix_after sign d = op_leads PREFIX_OPS op.BitNot sign (suc d) (suc d) (refl, (refl, (refl, refl)))

typeof_after : (of_name : Bool) (d : ℕ) → depth_after (if of_name then op.Typeof else op.TypeofExpr) (suc d) ≡ Some (suc d)
typeof_after true d = refl
typeof_after false d = refl

pub prefix_runs : (exits : Exits) (is_word : Bool) (sign : ℕ) (of_name : Bool) (d : ℕ) → Runs exits (prefix_code is_word sign of_name) (suc d) (suc d)
prefix_runs exits true sign of_name d =
    runs_if (nat_eq sign word.DELETE) (runs_none exits (suc d)) (runs_if (nat_eq sign word.TYPEOF) (runs_just exits (if of_name then op.Typeof else op.TypeofExpr) (suc d) (suc d) (typeof_after of_name d)) (runs_just exits op.Void (suc d) (suc d) refl))
prefix_runs exits false sign of_name d = runs_just exits (prefix_op false sign) (suc d) (suc d) (prefix_after sign d)

operand_depth_by : (b : Bool) (reached d : ℕ) → used_depth (if b then Deleted else Plainly) reached d ≡ suc d
operand_depth_by true reached d = refl
operand_depth_by false reached d = refl

pub operand_depth : (is_word : Bool) (sign reached d : ℕ) → used_depth (operand_use is_word sign) reached d ≡ suc d
operand_depth true sign reached d = operand_depth_by (nat_eq sign word.DELETE) reached d
operand_depth false sign reached d = refl

-- ---- properties

define_named_runs : (exits : Exits) (how : Defines) (name : List ℕ) (d : ℕ) → Runs exits (define_named how name) (suc (suc d)) (suc d)
define_named_runs exits Value name d = runs_after exits (named op.InitProp name) (suc (suc d)) (suc d) refl
define_named_runs exits Getter name d = runs_after exits (named op.InitPropGetter name) (suc (suc d)) (suc d) refl
define_named_runs exits Setter name d = runs_after exits (named op.InitPropSetter name) (suc (suc d)) (suc d) refl

define_computed_runs : (exits : Exits) (how : Defines) (d : ℕ) → Runs exits (define_computed how) (suc (suc (suc d))) (suc d)
define_computed_runs exits Value d = runs_just exits op.InitElem (suc (suc (suc d))) (suc d) refl
define_computed_runs exits Getter d = runs_just exits op.InitElemGetter (suc (suc (suc d))) (suc d) refl
define_computed_runs exits Setter d = runs_just exits op.InitElemSetter (suc (suc (suc d))) (suc d) refl

-- after the code of a key
abbrev pub key_depth : Key → ℕ → ℕ
key_depth (WordKey name) d = d
key_depth (StrKey name) d = d
key_depth (NumberKey at number) d = d
key_depth (ComputedKey e) d = suc d

pub defining_runs : (exits : Exits) (key : Key) {computed : Code} (how : Defines) {value : Code} (d : ℕ) → Runs exits computed (suc d) (key_depth key (suc d)) → ((x : ℕ) → Runs exits value x (suc x)) → Runs exits (defining key computed how value) (suc d) (suc d)
defining_runs exits (WordKey name) how d k v = runs_both (v (suc d)) (define_named_runs exits how name.text d)
defining_runs exits (StrKey name) how d k v = runs_both (v (suc d)) (define_named_runs exits how name.text d)
defining_runs exits (NumberKey at number) how d k v = runs_both (runs_both (number_runs exits number (suc d)) (v (suc (suc d)))) (define_computed_runs exits how d)
defining_runs exits (ComputedKey e) how d k v = runs_both (runs_both (runs_both k (runs_just exits op.ToPropertyKey (suc (suc d)) (suc (suc d)) refl)) (v (suc (suc d)))) (define_computed_runs exits how d)

pub pairing_runs : (exits : Exits) (key : Key) {computed value : Code} (d : ℕ) → Runs exits computed (suc d) (key_depth key (suc d)) → ((x : ℕ) → Runs exits value x (suc x)) → Runs exits (pairing key computed value) (suc d) (suc d)
pairing_runs exits key d k v = runs_if (is_proto key) (runs_both (v (suc d)) (runs_just exits op.MutateProto (suc (suc d)) (suc d) refl)) (defining_runs exits key Value d k v)
