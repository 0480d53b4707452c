-- An expression declares no name and has no scope of its own outside functions.
use Rattle.std.proofs.Common.{◌≡◌, ℕ, Bool, true, false, cond, Option, None, Some, ◌++◌, codes, refl, ap, ◌∙◌, zero-add, add-zero}
use Rattle.script_grammar.specs.Kinds.{is_arrow_form}
use Rattle.script_grammar.specs.Tree.{Named, Expr, Exprs, no_exprs, more_exprs, MaybeExpr, no_expr, some_expr, MaybeArgs, no_args, some_args, Parts, no_parts, more_parts, Items, no_items, more_items, Operands, no_operands, more_operands, Tail, Tails, no_tails, more_tails, Key, Prop, Props, no_props, more_props, Function, function, Params, no_params, more_params, Body, BracedBody, ShortBody, Binds, no_binds, more_binds, Init, Each, Clauses, no_clauses, more_clauses, Stmt, Stmts, no_stmts, more_stmts, MaybeStmt, no_stmt, some_stmt}
use Rattle.script_grammar.specs.Tree as tree
use Rattle.parse_track.specs.declared.region.Declare.{Declare}
use Rattle.parse_track.specs.Told as told
use Rattle.parse_track.specs.Told.{Region, Told, nothing, leaf, inner}
use Rattle.parse_track.specs.RegionNames.{directly, vars}
use Rattle.parse_track.specs.ClosedNames.{has_body}
use Rattle.parse_track.specs.Tells.{Text, in_named, function_name, tells_expr, tells_exprs, tells_maybe, tells_args, tells_parts, tells_array, tells_operands, tells_tails, tells_tail, tells_key, tells_prop, tells_props, tells_function}
use Rattle.scope_closed_laws.proofs.Own.{count_in, own, Clean}

-- in front of something, this tells uses and functions alone
pub record Quiet (t u : Told Text) : Type 0 where
  pub direct : (how : Declare → Bool) → directly how u ≡ directly how t
  pub hoisted : vars u ≡ vars t
  pub body : has_body u ≡ has_body t
  pub count : count_in false u ≡ count_in false t
  pub alone : (scope : ℕ) → own false scope u ≡ own false scope t
  pub clean : Clean u → Clean t

pub quiet_same : (t : Told Text) → Quiet t t
quiet_same t = record { direct = λ how. refl; hoisted = refl; body = refl; count = refl; alone = λ scope. refl; clean = λ c. c }

pub quiet_both : (s t u : Told Text) → Quiet t u → Quiet s t → Quiet s u
quiet_both s t u p q = record {
  direct = λ how. p.direct how ∙ q.direct how;
  hoisted = p.hoisted ∙ q.hoisted;
  body = p.body ∙ q.body;
  count = p.count ∙ q.count;
  alone = λ scope. p.alone scope ∙ q.alone scope;
  clean = λ c. q.clean (p.clean c);
}

quiet_use : (x : Text) (t : Told Text) → Quiet t (leaf (told.Used x) t)
quiet_use x t = record { direct = λ how. refl; hoisted = refl; body = refl; count = refl; alone = λ scope. refl; clean = λ c. c }

quiet_region : (arrow : Bool) (at : ℕ) (i t : Told Text) → Quiet t (inner (cond arrow told.Arrow told.Function) at i t)
quiet_region true at i t = record { direct = λ how. refl; hoisted = refl; body = refl; count = zero-add _; alone = λ scope. ap (λ (n : ℕ). own false n t) (add-zero scope); clean = λ c. c.2 }
quiet_region false at i t = record { direct = λ how. refl; hoisted = refl; body = refl; count = zero-add _; alone = λ scope. ap (λ (n : ℕ). own false n t) (add-zero scope); clean = λ c. c.2 }

pub quiet_function : (f : Function) (t : Told Text) → Quiet t (tells_function f t)
quiet_function (function form start end name params comma bare body) t = quiet_region (is_arrow_form form) start _ t

quiet_named : (name : Option Named) (f : Function) (t : Told Text) → Quiet t (in_named name (tells_function f) t)
quiet_named None f t = quiet_function f t
quiet_named (Some name) f t = record { direct = λ how. refl; hoisted = ap (λ vs. vs ++ vars t) (quiet_function f nothing).hoisted; body = refl; count = zero-add _; alone = λ scope. ap (λ (n : ℕ). own false n t) (add-zero scope); clean = λ c. c.2 }

mutual
  pub quiet : (x : Expr) (t : Told Text) → Quiet t (tells_expr x t)
  quiet (tree.This at) t = quiet_use (codes ".this") t
  quiet (tree.Name name) t = quiet_use name.text t
  quiet (tree.Null at) t = quiet_same t
  quiet (tree.True at) t = quiet_same t
  quiet (tree.False at) t = quiet_same t
  quiet (tree.Number at value) t = quiet_same t
  quiet (tree.Str at end text) t = quiet_same t
  quiet (tree.Template at first parts) t = quiet_parts parts t
  quiet (tree.Array at items comma) t = quiet_items items t
  quiet (tree.Object at props comma) t = quiet_props props t
  quiet (tree.Func at f) t = quiet_named (function_name f) f t
  quiet (tree.Paren at value) t = quiet value t
  quiet (tree.Chain head tails) t = quiet_both _ _ _ (quiet head (tells_tails tails t)) (quiet_tails tails t)
  quiet (tree.New at callee args) t = quiet_both _ _ _ (quiet callee (tells_args args t)) (quiet_args args t)
  quiet (tree.Unary at op operand is_word) t = quiet operand t
  quiet (tree.Update at op prefix operand) t = quiet operand t
  quiet (tree.Binary first rest) t = quiet_both _ _ _ (quiet first (tells_operands rest t)) (quiet_operands rest t)
  quiet (tree.Cond test then_value else_value) t = quiet_both _ _ _ (quiet test (tells_expr then_value (tells_expr else_value t))) (quiet_both _ _ _ (quiet then_value (tells_expr else_value t)) (quiet else_value t))
  quiet (tree.Assign op target value) t = quiet_both _ _ _ (quiet target (tells_expr value t)) (quiet value t)
  quiet (tree.Comma items) t = quiet_exprs items t

  pub quiet_exprs : (x : Exprs) (t : Told Text) → Quiet t (tells_exprs x t)
  quiet_exprs no_exprs t = quiet_same t
  quiet_exprs (more_exprs e rest) t = quiet_both _ _ _ (quiet e (tells_exprs rest t)) (quiet_exprs rest t)

  pub quiet_maybe : (x : MaybeExpr) (t : Told Text) → Quiet t (tells_maybe x t)
  quiet_maybe no_expr t = quiet_same t
  quiet_maybe (some_expr e) t = quiet e t

  pub quiet_args : (x : MaybeArgs) (t : Told Text) → Quiet t (tells_args x t)
  quiet_args no_args t = quiet_same t
  quiet_args (some_args items comma) t = quiet_exprs items t

  pub quiet_parts : (x : Parts) (t : Told Text) → Quiet t (tells_parts x t)
  quiet_parts no_parts t = quiet_same t
  quiet_parts (more_parts value behind rest) t = quiet_both _ _ _ (quiet value (tells_parts rest t)) (quiet_parts rest t)

  pub quiet_items : (x : Items) (t : Told Text) → Quiet t (tells_array x t)
  quiet_items no_items t = quiet_same t
  quiet_items (more_items item rest) t = quiet_both _ _ _ (quiet_maybe item (tells_array rest t)) (quiet_items rest t)

  pub quiet_operands : (x : Operands) (t : Told Text) → Quiet t (tells_operands x t)
  quiet_operands no_operands t = quiet_same t
  quiet_operands (more_operands op is_word value rest) t = quiet_both _ _ _ (quiet value (tells_operands rest t)) (quiet_operands rest t)

  pub quiet_tails : (x : Tails) (t : Told Text) → Quiet t (tells_tails x t)
  quiet_tails no_tails t = quiet_same t
  quiet_tails (more_tails tail rest) t = quiet_both _ _ _ (quiet_tail tail (tells_tails rest t)) (quiet_tails rest t)

  pub quiet_tail : (x : Tail) (t : Told Text) → Quiet t (tells_tail x t)
  quiet_tail (tree.Dot text) t = quiet_same t
  quiet_tail (tree.Index e) t = quiet e t
  quiet_tail (tree.Call items comma) t = quiet_exprs items t

  pub quiet_key : (x : Key) (t : Told Text) → Quiet t (tells_key x t)
  quiet_key (tree.WordKey name) t = quiet_same t
  quiet_key (tree.StrKey name) t = quiet_same t
  quiet_key (tree.NumberKey at value) t = quiet_same t
  quiet_key (tree.ComputedKey e) t = quiet e t

  pub quiet_prop : (x : Prop) (t : Told Text) → Quiet t (tells_prop x t)
  quiet_prop (tree.Short name) t = quiet_use name.text t
  quiet_prop (tree.Pair key value) t = quiet_both _ _ _ (quiet_key key (tells_expr value t)) (quiet value t)
  quiet_prop (tree.Method key f) t = quiet_both _ _ _ (quiet_key key (tells_function f t)) (quiet_function f t)
  quiet_prop (tree.Get key f) t = quiet_both _ _ _ (quiet_key key (tells_function f t)) (quiet_function f t)
  quiet_prop (tree.Set key f) t = quiet_both _ _ _ (quiet_key key (tells_function f t)) (quiet_function f t)

  pub quiet_props : (x : Props) (t : Told Text) → Quiet t (tells_props x t)
  quiet_props no_props t = quiet_same t
  quiet_props (more_props prop rest) t = quiet_both _ _ _ (quiet_prop prop (tells_props rest t)) (quiet_props rest t)
