-- A function that stands for a tree with whatever is given for the bodies inside it has its own body in its place.
use Rattle.std.proofs.Common.{◌≡◌, ◌≢◌, ◌∙◌, ℕ, List, refl, sym, ap, None, Some, Option, unwrap_or}
use Rattle.script_grammar.specs.declared.tree.Func.{Func, out-Func}
use Rattle.script_grammar.specs.declared.tree.FuncBody.{FuncBody, out-FuncBody}
use Rattle.script_grammar.specs.declared.tree.Each.TheOpen as layer
use Rattle.script_grammar.specs.Interpretation.{Interpretation}
use Rattle.script_grammar.specs.Tree.{Function, function, Body, BracedBody, ShortBody, Stmts, no_stmts, more_stmts, Empty}
use Rattle.script_grammar.specs.Tree as model
use Rattle.script_grammar.specs.TreeLists as part
use Rattle.script_grammar.specs.declared.tree.Each.TheFolds.{fold_out-FuncBody}
use Rattle.script_grammar.specs.TreeOf.{each_step, expr_step, body_of, body_step, init_step, key_step, prop_step, stmt_step, tail_step, args_step, bind_step, clause_step, func_of, func_step, operand_step, param_step, part_step, for_in_step, for_step, if_step, new_step, switch_step, try_step}
use Rattle.script_grammar.proofs.PartEquations.{func_of-fields}
use Rattle.scope_analysis.specs.FunctionTree.{HasBody}
use Rattle.scope_analysis.specs.Kept.{under}
use Rattle.parse_exprs.specs.Env.{body_at}
use Rattle.parse_parts.specs.Parts.{fill_inside}
use Rattle.parse_function.specs.Extents.{body_in}

-- no statements, or an empty one
abbrev none : ℕ → Stmts
none n = no_stmts

abbrev one : ℕ → Stmts
one n = more_stmts Empty no_stmts

-- where no body was read, the tree has the one that is given
passed_over : (i : Interpretation) (f : Func) → body_of i (out-Func f).body ≡ None → body_in (func_of i f) ≡ BracedBody (i.bodies (out-Func f).start)
passed_over i f e = ap body_in (func_of-fields i f) ∙ ap (λ (b : Option Body). unwrap_or b (BracedBody (i.bodies (out-Func f).start))) e

-- and where one was read, that one
read_there : (i : Interpretation) (f : Func) (b : Body) → body_of i (out-Func f).body ≡ Some b → body_in (func_of i f) ≡ b
read_there i f b e = ap body_in (func_of-fields i f) ∙ ap (λ (o : Option Body). unwrap_or o (BracedBody (i.bodies (out-Func f).start))) e

-- whether it was read does not depend on what is given
data Read (b : FuncBody) : Type 0 where
  read : ((i : Interpretation) → body_of i b ≢ None) → Read b
  passed : ((i : Interpretation) → body_of i b ≡ None) → Read b

is_read : (b : FuncBody) → Read b
is_read b = by (out-FuncBody b) refl where
  by : (l : _) → out-FuncBody b ≡ l → Read b
  by (layer.Braced items) e = read (λ i n. let f = rw e at (fold_out-FuncBody model.Each model.Expr (Option model.Body) model.Init model.Key model.Prop model.Stmt model.Tail part.Args part.Bind part.Clause model.Stmt model.Stmt model.Function model.Stmt model.Expr part.Operand part.Param model.Stmt part.Part model.Stmt (each_step i) (expr_step i) (body_step i) (init_step i) (key_step i) (prop_step i) (stmt_step i) (tail_step i) (args_step i) (bind_step i) (clause_step i) (for_in_step i) (for_step i) (func_step i) (if_step i) (new_step i) (operand_step i) (param_step i) (switch_step i) (part_step i) (try_step i) b) in cc)
  by (layer.FuncBody::Short value) e = read (λ i n. let f = rw e at (fold_out-FuncBody model.Each model.Expr (Option model.Body) model.Init model.Key model.Prop model.Stmt model.Tail part.Args part.Bind part.Clause model.Stmt model.Stmt model.Function model.Stmt model.Expr part.Operand part.Param model.Stmt part.Part model.Stmt (each_step i) (expr_step i) (body_step i) (init_step i) (key_step i) (prop_step i) (stmt_step i) (tail_step i) (args_step i) (bind_step i) (clause_step i) (for_in_step i) (for_step i) (func_step i) (if_step i) (new_step i) (operand_step i) (param_step i) (switch_step i) (part_step i) (try_step i) b) in cc)
  by layer.Passed e = passed (λ i. rw e at (fold_out-FuncBody model.Each model.Expr (Option model.Body) model.Init model.Key model.Prop model.Stmt model.Tail part.Args part.Bind part.Clause model.Stmt model.Stmt model.Function model.Stmt model.Expr part.Operand part.Param model.Stmt part.Part model.Stmt (each_step i) (expr_step i) (body_step i) (init_step i) (key_step i) (prop_step i) (stmt_step i) (tail_step i) (args_step i) (bind_step i) (clause_step i) (for_in_step i) (for_step i) (func_step i) (if_step i) (new_step i) (operand_step i) (param_step i) (switch_step i) (part_step i) (try_step i) b))

-- a tree cannot have both of these bodies
not_given : (texts : List (List ℕ)) (x : Function) → body_in (fill_inside (body_at (under texts none)) x) ≡ BracedBody no_stmts → body_in (fill_inside (body_at (under texts one)) x) ≡ BracedBody (more_stmts Empty no_stmts) → ⊥
not_given texts (function form start end name ps comma bare (BracedBody no_stmts)) e f = absurd (cc)
not_given texts (function form start end name ps comma bare (BracedBody (more_stmts s ss))) e f = absurd (cc)
not_given texts (function form start end name ps comma bare (ShortBody value)) e f = absurd (cc)

pub has_body : (texts : List (List ℕ)) (f : Func) (x : Function) → ((bodies : ℕ → Stmts) → func_of (under texts bodies) f ≡ fill_inside (body_at (under texts bodies)) x) → (bodies : ℕ → Stmts) → HasBody (under texts bodies) f (body_in (func_of (under texts bodies) f))
has_body texts f x same bodies = by (is_read (out-Func f).body) (body_of (under texts bodies) (out-Func f).body) refl where
  by : Read (out-Func f).body → (b : Option Body) → body_of (under texts bodies) (out-Func f).body ≡ b → HasBody (under texts bodies) f (body_in (func_of (under texts bodies) f))
  by r (Some body) e = e ∙ ap Some (sym (read_there (under texts bodies) f body e))
  by (read h) None e = absurd (h (under texts bodies) e)
  by (passed h) None e =
      absurd (not_given texts x
      (ap body_in (sym (same none)) ∙ passed_over (under texts none) f (h (under texts none)))
      (ap body_in (sym (same one)) ∙ passed_over (under texts one) f (h (under texts one))))
