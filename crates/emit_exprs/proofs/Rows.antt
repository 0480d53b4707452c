-- Rows of the code of expressions, put together from what was appended.
use Rattle.std.proofs.Common.{◌≡◌, ℕ, ◌+◌, ◌<◌, ◌^◌, List, [], ◌∷◌, ◌++◌, Bool, Option, Some, None, map, option_map, length, refl, sym, ◌∙◌, ap, subst, append_assoc, if◌then◌else◌, true, false, bytes_eq, lit<}
use Rattle.std.specs.declared.boxed.Box.{Box}
use Rattle.std.specs.declared.alloc.Global.{Global}
use Rattle.script_grammar.specs.Tree.{Stmts}
use Rattle.script_grammar.specs.Tree as model
use Rattle.script_grammar.specs.TreeLists as part
use Rattle.script_grammar.specs.TreeLists.{exprs_of, items_of, maybe_expr_of, maybe_args_of, parts_of, tails_of, props_of}
use Rattle.script_grammar.specs.TreeOf.{expr_of, part_of, tail_of, args_of, key_of, prop_of, func_of}
use Rattle.script_grammar.specs.Interpretation.{Interpretation}
use Rattle.script_grammar.specs.declared.tree.Expr.{Expr}
use Rattle.script_grammar.specs.declared.tree.Tail.{Tail}
use Rattle.script_grammar.specs.declared.tree.Tail.TheVariants as in_tail
use Rattle.script_grammar.specs.declared.tree.Args.{Args, out-Args}
use Rattle.script_grammar.specs.declared.tree.Key.{Key}
use Rattle.script_grammar.specs.declared.tree.Key.TheVariants as in_key
use Rattle.script_grammar.specs.declared.tree.Prop.{Prop}
use Rattle.script_grammar.specs.declared.tree.Prop.TheVariants as in_prop
use Rattle.script_grammar.specs.declared.tree.Func.{Func, out-Func}
use Rattle.script_grammar.specs.declared.tree.Ident.{Ident}
use Rattle.script_grammar.specs.declared.tree.TemplatePart.{TemplatePart}
use Rattle.script_grammar.proofs.PartEquations.{args_of-fields, func_of-fields}
use Rattle.script_grammar.proofs.ExprEquations as equation
use Rattle.bytecode_buf.specs.declared.opcode.Op.TheVariants as op
use Rattle.bytecode_buf.specs.Command as command
use Rattle.bytecode_buf.specs.Pieces.{Code, one}
use Rattle.emit_exprs.specs.declared.site.Site.{Site}
use Rattle.emit_exprs.specs.declared.uses.Use.{Use}
use Rattle.emit_exprs.specs.declared.uses.Use.TheVariants.{Plainly, Reached}
use Rattle.emit_exprs.specs.declared.targets.Target.{Target}
use Rattle.emit_exprs.specs.declared.targets.Target.TheVariants as target
use Rattle.emit_exprs.specs.declared.properties.Defines.{Defines}
use Rattle.emit_exprs.specs.declared.properties.Defines.TheVariants.{Value, Getter, Setter}
use Rattle.emit_exprs.specs.Sites.{EmitsAt, scene_of, text_in}
use Rattle.emit_exprs.specs.Whole.{whole, just}
use Rattle.emit_exprs.specs.Targets.{IsTarget, target_in, names_target}
use Rattle.emit_exprs.specs.Properties.{opening, closing, closing_pair}
use Rattle.emit_exprs.specs.Exprs as code
use Rattle.emit_exprs.specs.Exprs.{code_of, used_value}
use Rattle.emit_exprs.specs.Fitting.{ExprFits, ExprsFit, PartsFit, ItemsFit, TailFits, KeyFits, PropFits, PropsFit, MaybeArgsFit}
use Rattle.emit_exprs.specs.TreeCode.{at_site, Written, RowEmits, ExprEmits, ExprsEmit, Calls, new_code, ArgsEmit, ItemEmits, TailEmits, TailsEmit, PropEmits, MethodEmits, KeyEmits, Closes, ClosesPair}
use Rattle.emit_exprs.proofs.Writing.{written_of, written_both, written_as, row_of}
use Rattle.emit_exprs.proofs.Lists.{args_size-length, items_size-length}

-- ---- lists and what uses them

pub template_row : {s : Site} {start mid last new : List ℕ} {wanted : Use} (first : ℕ) (parts : List TemplatePart) (at : ℕ)
    → EmitsAt s start mid (one (command.named op.String (text_in s first)))
    → Written s mid last (λ b. PartsFit (parts_of (map (part_of (at_site s b)) parts))) (λ b. code.parts_code (scene_of s) (parts_of (map (part_of (at_site s b)) parts)))
    → EmitsAt s last new (used_value wanted)
    → RowEmits s start new wanted (λ b. model.Template at (text_in s first) (parts_of (map (part_of (at_site s b)) parts)))
template_row {s} first parts at x y used = row_of (λ b. model.Template at (text_in s first) (parts_of (map (part_of (at_site s b)) parts))) (λ b f. ((tt, f), tt)) (written_both (written_both (written_of x) y) (written_of used))

pub array_row : {s : Site} {start mid last new : List ℕ} {wanted : Use} (items : List (Option Expr)) (count at : ℕ) (comma : Bool) → count ≡ length items
    → Written s start mid (λ b. count < 2 ^ 32) (λ b. one (command.counted op.NewArray count))
    → Written s mid last (λ b. (code.items_size (items_of (map (option_map (expr_of (at_site s b))) items)) < 2 ^ 32) × ItemsFit (items_of (map (option_map (expr_of (at_site s b))) items))) (λ b. code.items_code (scene_of s) 0 (items_of (map (option_map (expr_of (at_site s b))) items)))
    → EmitsAt s last new (used_value wanted)
    → RowEmits s start new wanted (λ b. model.Array at (items_of (map (option_map (expr_of (at_site s b))) items)) comma)
array_row {s} {start} {mid} items count at comma count_is x y used = row_of (λ b. model.Array at (items_of (map (option_map (expr_of (at_site s b))) items)) comma) (λ b f. ((f.0, f), tt)) (written_both (written_both sized y) (written_of used))
  where
    same : (b : ℕ → Stmts) → code.items_size (items_of (map (option_map (expr_of (at_site s b))) items)) ≡ count
    same b = items_size-length (at_site s b) items ∙ sym count_is

    sized : Written s start mid (λ b. code.items_size (items_of (map (option_map (expr_of (at_site s b))) items)) < 2 ^ 32) (λ b. one (command.counted op.NewArray (code.items_size (items_of (map (option_map (expr_of (at_site s b))) items)))))
    sized = written_as (λ b f. subst (λ (n : ℕ). n < 2 ^ 32) (same b) f) (λ b f. ap (λ (n : ℕ). one (command.counted op.NewArray n)) (sym (same b))) x

pub object_row : {s : Site} {start mid last new : List ℕ} {wanted : Use} (props : List Prop) (at : ℕ) (comma : Bool)
    → EmitsAt s start mid (just op.NewInit)
    → Written s mid last (λ b. PropsFit (props_of (map (prop_of (at_site s b)) props))) (λ b. code.props_code (scene_of s) (props_of (map (prop_of (at_site s b)) props)))
    → EmitsAt s last new (used_value wanted)
    → RowEmits s start new wanted (λ b. model.Object at (props_of (map (prop_of (at_site s b)) props)) comma)
object_row {s} props at comma x y used = row_of (λ b. model.Object at (props_of (map (prop_of (at_site s b)) props)) comma) (λ b f. ((tt, f), tt)) (written_both (written_both (written_of x) y) (written_of used))

pub comma_row : {s : Site} {start last new : List ℕ} {wanted : Use} (items : List Expr)
    → Written s start last (λ b. ExprsFit (exprs_of (map (expr_of (at_site s b)) items))) (λ b. code.comma_code (scene_of s) (exprs_of (map (expr_of (at_site s b)) items)))
    → EmitsAt s last new (used_value wanted)
    → RowEmits s start new wanted (λ b. model.Comma (exprs_of (map (expr_of (at_site s b)) items)))
comma_row {s} items x used = row_of (λ b. model.Comma (exprs_of (map (expr_of (at_site s b)) items))) (λ b f. (f, tt)) (written_both x (written_of used))

-- ---- targets that are names

abbrev names : code.Target → Bool
names (code.ToName text) = true
names (code.ToProp text) = false
names code.ToElem = false
names code.NoTarget = false

names_in : (texts : List (List ℕ)) (t : Target) → names_target t ≡ names (target_in texts t)
names_in texts (target.Name atom) = refl
names_in texts (target.Prop atom) = refl
names_in texts target.Elem = refl
names_in texts target.Nothing = refl

names_last : (tails : model.Tails) → names (code.last_target tails) ≡ false
names_last model.no_tails = refl
names_last (model.more_tails (model.Dot text) model.no_tails) = refl
names_last (model.more_tails (model.Index key) model.no_tails) = refl
names_last (model.more_tails (model.Call items comma) model.no_tails) = refl
names_last (model.more_tails (model.Dot text) (model.more_tails t rest)) = names_last (model.more_tails t rest)
names_last (model.more_tails (model.Index key) (model.more_tails t rest)) = names_last (model.more_tails t rest)
names_last (model.more_tails (model.Call items comma) (model.more_tails t rest)) = names_last (model.more_tails t rest)

names_target_of : (e : model.Expr) → names (code.target_of e) ≡ code.is_name e
names_target_of (model.Name name) = refl
names_target_of (model.Paren at inner) = names_target_of inner
names_target_of (model.Chain head tails) = names_last tails
names_target_of _ = refl

-- ---- expressions of parts

pub chain_row : {s : Site} {start mid new : List ℕ} {wanted : Use} (head : Expr) (tails : List Tail) (used : Use) → ((i : Interpretation) → used ≡ code.use_before wanted (tails_of (map (tail_of i) tails)))
    → ExprEmits s start mid used head → TailsEmit s mid new wanted tails
    → RowEmits s start new wanted (λ b. model.Chain (expr_of (at_site s b) head) (tails_of (map (tail_of (at_site s b)) tails)))
chain_row {s} {wanted = wanted} head tails used use_is x y = row_of (λ b. model.Chain (expr_of (at_site s b) head) (tails_of (map (tail_of (at_site s b)) tails))) (λ b f. f)
    (written_both (written_as (λ b f. f) (λ b f. ap (λ (u : Use). code_of (scene_of s) u (expr_of (at_site s b) head)) (use_is (at_site s b))) x.row.code) y.code)

pub new_row : {s : Site} {start mid last new : List ℕ} {wanted : Use} (at : ℕ) (callee : Expr) (args : Option Args)
    → ExprEmits s start mid Plainly callee → EmitsAt s mid last (whole (command.plain op.Dup ∷ command.plain op.IsConstructing ∷ [])) → ArgsEmit s last new wanted args
    → RowEmits s start new wanted (λ b. model.New at (expr_of (at_site s b) callee) (maybe_args_of (option_map (args_of (at_site s b)) args)))
new_row {s} {wanted = wanted} at callee args x y z = row_of (λ b. model.New at (expr_of (at_site s b) callee) (maybe_args_of (option_map (args_of (at_site s b)) args))) (λ b f. f)
    (written_as (λ (b : ℕ → Stmts) (f : ExprFits (expr_of (at_site s b) callee) × MaybeArgsFit (maybe_args_of (option_map (args_of (at_site s b)) args))). ((f.0, tt), f.1))
    (λ b f. nested (code_of (scene_of s) Plainly (expr_of (at_site s b) callee) ++ whole (command.plain op.Dup ∷ command.plain op.IsConstructing ∷ [])) (code.maybe_args_code (scene_of s) (maybe_args_of (option_map (args_of (at_site s b)) args)))
    (whole (command.counted op.Pick (code.maybe_args_size (maybe_args_of (option_map (args_of (at_site s b)) args)) + 1) ∷ command.counted op.New (code.maybe_args_size (maybe_args_of (option_map (args_of (at_site s b)) args))) ∷ [])) (used_value wanted))
    (written_both (written_both x.row.code (written_of y)) z.code))
  where
    nested : (a b c d : Code) → a ++ (b ++ c ++ d) ≡ a ++ b ++ c ++ d
    nested a b c d = sym (append_assoc a (b ++ c) d) ∙ ap (λ (l : Code). l ++ d) (sym (append_assoc a b c))

pub unary_row : {s : Site} {start mid last new : List ℕ} {wanted : Use} (at sign : ℕ) (is_word : Bool) (operand : Expr) (t : Target) (used : Use) (of_name : Bool) → used ≡ code.operand_use is_word sign → IsTarget operand t → of_name ≡ names_target t
    → ExprEmits s start mid used operand → EmitsAt s mid last (code.prefix_code is_word sign of_name) → EmitsAt s last new (used_value wanted)
    → RowEmits s start new wanted (λ b. model.Unary at sign (expr_of (at_site s b) operand) is_word)
unary_row {s} {wanted = wanted} at sign is_word operand t used of_name used_is place name_is x y z = row_of (λ b. model.Unary at sign (expr_of (at_site s b) operand) is_word) (λ b f. ((f, tt), tt))
    (written_both
    (written_both (written_as (λ b f. f) (λ b f. ap (λ (u : Use). code_of (scene_of s) u (expr_of (at_site s b) operand)) used_is) x.row.code) (written_as (λ b f. f) (λ b f. ap (λ (n : Bool). code.prefix_code is_word sign n) (name_is ∙ names_of b)) (written_of y)))
    (written_of z))
  where
    names_of : (b : ℕ → Stmts) → names_target t ≡ code.is_name (expr_of (at_site s b) operand)
    names_of b = names_in s.texts.now t ∙ (ap names (place.under (at_site s b)) ∙ names_target_of (expr_of (at_site s b) operand))

pub update_row : {s : Site} {start mid last new : List ℕ} {wanted : Use} (at sign : ℕ) (prefix : Bool) (operand : Expr) (t : Target) → IsTarget operand t
    → ExprEmits s start mid Reached operand → EmitsAt s mid last (code.updating (scene_of s) prefix sign (target_in s.texts.now t)) → EmitsAt s last new (used_value wanted)
    → RowEmits s start new wanted (λ b. model.Update at sign prefix (expr_of (at_site s b) operand))
update_row {s} at sign prefix operand t place x y z = row_of (λ b. model.Update at sign prefix (expr_of (at_site s b) operand)) (λ b f. ((f, tt), tt))
    (written_both (written_both x.row.code (written_as (λ b f. f) (λ b f. ap (code.updating (scene_of s) prefix sign) (place.under (at_site s b))) (written_of y))) (written_of z))

pub assign_row : {s : Site} {start a b c d new : List ℕ} {wanted : Use} (sign : ℕ) (left value : Expr) (t : Target) → IsTarget left t
    → ExprEmits s start a Reached left → EmitsAt s a b (code.before_value (scene_of s) sign (target_in s.texts.now t)) → ExprEmits s b c Plainly value → EmitsAt s c d (code.behind_value (scene_of s) sign (target_in s.texts.now t)) → EmitsAt s d new (used_value wanted)
    → RowEmits s start new wanted (λ bs. model.Assign sign (expr_of (at_site s bs) left) (expr_of (at_site s bs) value))
assign_row {s} sign left value t place x y z w used = row_of (λ bs. model.Assign sign (expr_of (at_site s bs) left) (expr_of (at_site s bs) value)) (λ bs f. ((((f.0, tt), f.1), tt), tt))
    (written_both
    (written_both
    (written_both (written_both x.row.code (written_as (λ bs f. f) (λ bs f. ap (code.before_value (scene_of s) sign) (place.under (at_site s bs))) (written_of y))) z.row.code)
    (written_as (λ bs f. f) (λ bs f. ap (code.behind_value (scene_of s) sign) (place.under (at_site s bs))) (written_of w)))
    (written_of used))

-- ---- items of arrays

pub item_some : {s : Site} {start new : List ℕ} (value : Expr) → ExprEmits s start new Plainly value → ItemEmits s start new (Some value)
item_some value x = record { code = x.row.code }

pub item_none : {s : Site} {start new : List ℕ} → EmitsAt s start new (just op.Hole) → ItemEmits s start new None
item_none x = record { code = written_of x }

-- ---- properties

pub key_word : {s : Site} {now : List ℕ} (name : Ident) → EmitsAt s now now [] → KeyEmits s now now (in_key.Word name)
key_word {s} name x = record { code = written_as (λ b f. tt) (λ b f. ap (opening (scene_of s)) (sym (equation.key_of-Word (at_site s b) name))) (written_of x) }

pub key_str : {s : Site} {now : List ℕ} (name : Ident) → EmitsAt s now now [] → KeyEmits s now now (in_key.Str name)
key_str {s} name x = record { code = written_as (λ b f. tt) (λ b f. ap (opening (scene_of s)) (sym (equation.key_of-Str (at_site s b) name))) (written_of x) }

pub key_number : {s : Site} {start new : List ℕ} (at value : ℕ) → EmitsAt s start new (code.number_code value) → KeyEmits s start new (in_key.Number at value)
key_number {s} at value x = record { code = written_as (λ b f. tt) (λ b f. ap (opening (scene_of s)) (sym (equation.key_of-Number (at_site s b) at value))) (written_of x) }

pub key_computed : {s : Site} {start mid new : List ℕ} (value : Expr) → ExprEmits s start mid Plainly value → EmitsAt s mid new (just op.ToPropertyKey) → KeyEmits s start new (in_key.Computed value)
key_computed {s} value x y = record { code = written_as (λ b f. (subst KeyFits (equation.key_of-Computed (at_site s b) value) f, tt)) (λ b f. ap (opening (scene_of s)) (sym (equation.key_of-Computed (at_site s b) value))) (written_both x.row.code (written_of y)) }

abbrev key_value : (scene : code.Scene) (key : model.Key) (how : Defines) (value : Code) → Code
key_value scene key how value = opening scene key ++ value ++ closing how key

defining_parts : (scene : code.Scene) (key : model.Key) (how : Defines) (value : Code) → key_value scene key how value ≡ code.defining key (code.key_code scene key) how value
defining_parts scene (model.WordKey name) how value = refl
defining_parts scene (model.StrKey name) how value = refl
defining_parts scene (model.NumberKey at number) how value = refl
defining_parts scene (model.ComputedKey e) how value = refl

pair_if : (proto : Bool) (value first second : Code) → value ++ (if proto then first else second) ≡ (if proto then value ++ first else value ++ second)
pair_if true value first second = refl
pair_if false value first second = refl

pairing_parts : (scene : code.Scene) (key : model.Key) (value : Code) → opening scene key ++ value ++ closing_pair key ≡ code.pairing key (code.key_code scene key) value
pairing_parts scene (model.WordKey name) value = pair_if (bytes_eq name.text code.proto_text) value (just op.MutateProto) (code.define_named Value name.text)
pairing_parts scene (model.StrKey name) value = pair_if (bytes_eq name.text code.proto_text) value (just op.MutateProto) (code.define_named Value name.text)
pairing_parts scene (model.NumberKey at number) value = refl
pairing_parts scene (model.ComputedKey e) value = refl

pub method_row : {s : Site} {old a b new : List ℕ} (how : Defines) (start : ℕ) (key : Key) → KeyEmits s old a key → EmitsAt s a b (code.lambda_at (scene_of s) start) → Closes s b new how key → MethodEmits s old new how start key
method_row how start key x y z = record { code = written_as (λ bs f. ((f, tt), tt)) (λ bs f. refl) (written_both (written_both x.code (written_of y)) z.code) }

lambda_same : (scene : code.Scene) (i : Interpretation) (func : Func) (start : ℕ) → start ≡ (out-Func func).start → code.lambda_at scene start ≡ code.lambda_code scene (func_of i func)
lambda_same scene i func start is = ap (code.lambda_at scene) is ∙ sym (ap (code.lambda_code scene) (func_of-fields i func))

pub prop_method : {s : Site} {old new : List ℕ} (key : Key) (func : Box Func Global) (start : ℕ) → start ≡ (out-Func func.value).start → MethodEmits s old new Value start key → PropEmits s old new (in_prop.Method key func)
prop_method {s} key func start is x = record {
  code = written_as (λ b f. subst PropFits (equation.prop_of-Method (at_site s b) key func) f)
      (λ b f. defining_parts (scene_of s) (key_of (at_site s b) key) Value (code.lambda_at (scene_of s) start)
      ∙ (ap (code.defining (key_of (at_site s b) key) (code.key_code (scene_of s) (key_of (at_site s b) key)) Value) (lambda_same (scene_of s) (at_site s b) func.value start is)
      ∙ sym (ap (code.prop_code (scene_of s)) (equation.prop_of-Method (at_site s b) key func))))
      x.code;
}

pub prop_get : {s : Site} {old new : List ℕ} (key : Key) (func : Box Func Global) (start : ℕ) → start ≡ (out-Func func.value).start → MethodEmits s old new Getter start key → PropEmits s old new (in_prop.Get key func)
prop_get {s} key func start is x = record {
  code = written_as (λ b f. subst PropFits (equation.prop_of-Get (at_site s b) key func) f)
      (λ b f. defining_parts (scene_of s) (key_of (at_site s b) key) Getter (code.lambda_at (scene_of s) start)
      ∙ (ap (code.defining (key_of (at_site s b) key) (code.key_code (scene_of s) (key_of (at_site s b) key)) Getter) (lambda_same (scene_of s) (at_site s b) func.value start is)
      ∙ sym (ap (code.prop_code (scene_of s)) (equation.prop_of-Get (at_site s b) key func))))
      x.code;
}

pub prop_set : {s : Site} {old new : List ℕ} (key : Key) (func : Box Func Global) (start : ℕ) → start ≡ (out-Func func.value).start → MethodEmits s old new Setter start key → PropEmits s old new (in_prop.Set key func)
prop_set {s} key func start is x = record {
  code = written_as (λ b f. subst PropFits (equation.prop_of-Set (at_site s b) key func) f)
      (λ b f. defining_parts (scene_of s) (key_of (at_site s b) key) Setter (code.lambda_at (scene_of s) start)
      ∙ (ap (code.defining (key_of (at_site s b) key) (code.key_code (scene_of s) (key_of (at_site s b) key)) Setter) (lambda_same (scene_of s) (at_site s b) func.value start is)
      ∙ sym (ap (code.prop_code (scene_of s)) (equation.prop_of-Set (at_site s b) key func))))
      x.code;
}

pub prop_pair : {s : Site} {old a b new : List ℕ} (key : Key) (value : Expr) → KeyEmits s old a key → ExprEmits s a b Plainly value → ClosesPair s b new key → PropEmits s old new (in_prop.Pair key value)
prop_pair {s} key value x y z = record {
  code = written_as (λ bs f. let g = subst PropFits (equation.prop_of-Pair (at_site s bs) key value) f in ((g.0, g.1), tt))
      (λ bs f. pairing_parts (scene_of s) (key_of (at_site s bs) key) (code_of (scene_of s) Plainly (expr_of (at_site s bs) value)) ∙ sym (ap (code.prop_code (scene_of s)) (equation.prop_of-Pair (at_site s bs) key value)))
      (written_both (written_both x.code y.row.code) z.code);
}

-- ---- parts of chains

pub tail_dot : {s : Site} {old new : List ℕ} {wanted : Use} (atom : ℕ) → EmitsAt s old new (code.used_dot wanted (text_in s atom)) → TailEmits s old new wanted (in_tail.Dot atom)
tail_dot {s} {wanted = wanted} atom x = record { code = written_as (λ b f. tt) (λ b f. ap (code.tail_code (scene_of s) wanted) (sym (equation.tail_of-Dot (at_site s b) atom))) (written_of x) }

pub tail_index : {s : Site} {old a b new : List ℕ} {wanted : Use} (key : Expr) → EmitsAt s old a (code.before_index wanted) → ExprEmits s a b Plainly key → EmitsAt s b new (code.behind_index wanted) → TailEmits s old new wanted (in_tail.Index key)
tail_index {s} {wanted = wanted} key x y z = record {
  code = written_as (λ bs f. ((tt, subst TailFits (equation.tail_of-Index (at_site s bs) key) f), tt)) (λ bs f. ap (code.tail_code (scene_of s) wanted) (sym (equation.tail_of-Index (at_site s bs) key)))
      (written_both (written_both (written_of x) y.row.code) (written_of z));
}

-- the arguments of a call
call_of : (i : Interpretation) (args : Args) (es : List Expr) → es ≡ (out-Args args).items.items → tail_of i (in_tail.Call args) ≡ model.Call (exprs_of (map (expr_of i) es)) (out-Args args).comma
call_of i args es is = equation.tail_of-Call i args ∙ (ap (λ (a : part.Args). model.Call (exprs_of a.items) a.comma) (args_of-fields i args) ∙ ap (λ (l : List Expr). model.Call (exprs_of (map (expr_of i) l)) (out-Args args).comma) (sym is))

pub tail_call : {s : Site} {old mid new : List ℕ} {wanted : Use} (args : Args) (es : List Expr) (count : ℕ) → es ≡ (out-Args args).items.items → count ≡ length es → ExprsEmit s old mid es → Calls s mid new count (one (command.counted op.Call count) ++ used_value wanted) → TailEmits s old new wanted (in_tail.Call args)
tail_call {s} {wanted = wanted} args es count is count_is x y = record {
  code = written_as
      (λ b f. let g = subst TailFits (call_of (at_site s b) args es is) f in (g.1, subst (λ (n : ℕ). n < 2 ^ 16) (args_size-length (at_site s b) es ∙ sym count_is) g.0))
      (λ b f. sym (append_assoc (code.exprs_code (scene_of s) (exprs_of (map (expr_of (at_site s b)) es))) (one (command.counted op.Call count)) (used_value wanted))
      ∙ ap (λ (n : ℕ). code.exprs_code (scene_of s) (exprs_of (map (expr_of (at_site s b)) es)) ++ one (command.counted op.Call n) ++ used_value wanted) (count_is ∙ sym (args_size-length (at_site s b) es))
      ∙ ap (code.tail_code (scene_of s) wanted) (sym (call_of (at_site s b) args es is)))
      (written_both x.code y.made);
}

-- ---- the arguments of a `new`

some_args_of : (i : Interpretation) (args : Args) (es : List Expr) → es ≡ (out-Args args).items.items → maybe_args_of (Some (args_of i args)) ≡ model.some_args (exprs_of (map (expr_of i) es)) (out-Args args).comma
some_args_of i args es is = ap (λ (a : part.Args). model.some_args (exprs_of a.items) a.comma) (args_of-fields i args) ∙ ap (λ (l : List Expr). model.some_args (exprs_of (map (expr_of i) l)) (out-Args args).comma) (sym is)

abbrev construct_code : Use → ℕ → Code
construct_code wanted count = whole (command.counted op.Pick (count + 1) ∷ command.counted op.New count ∷ []) ++ used_value wanted

pub args_some : {s : Site} {old mid new : List ℕ} {wanted : Use} (args : Args) (es : List Expr) (count : ℕ) → es ≡ (out-Args args).items.items → count ≡ length es → ExprsEmit s old mid es → Calls s mid new count (construct_code wanted count) → ArgsEmit s old new wanted (Some args)
args_some {s} {wanted = wanted} args es count is count_is x y = record {
  code = written_as
      (λ b f. let g = subst MaybeArgsFit (some_args_of (at_site s b) args es is) f in (g.1, subst (λ (n : ℕ). n < 2 ^ 16) (args_size-length (at_site s b) es ∙ sym count_is) g.0))
      (λ b f. sym (append_assoc (code.exprs_code (scene_of s) (exprs_of (map (expr_of (at_site s b)) es))) (whole (command.counted op.Pick (count + 1) ∷ command.counted op.New count ∷ [])) (used_value wanted))
      ∙ ap (λ (n : ℕ). code.exprs_code (scene_of s) (exprs_of (map (expr_of (at_site s b)) es)) ++ whole (command.counted op.Pick (n + 1) ∷ command.counted op.New n ∷ []) ++ used_value wanted) (count_is ∙ sym (args_size-length (at_site s b) es))
      ∙ ap (new_code s wanted) (sym (some_args_of (at_site s b) args es is)))
      (written_both x.code y.made);
}

pub args_none : {s : Site} {old new : List ℕ} {wanted : Use} → Calls s old new 0 (construct_code wanted 0) → ArgsEmit s old new wanted None
args_none y = record { code = written_as (λ b f. lit< tt) (λ b f. refl) y.made }
