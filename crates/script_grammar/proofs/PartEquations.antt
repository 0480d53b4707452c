-- What each part of a tree that is a struct stands for, by its fields.
use Rattle.std.proofs.Common.{◌≡◌, ℕ, Bool, Option, Some, None, map, option_map, refl, unwrap_or}
use Rattle.std.specs.declared.boxed.Box.{Box}
use Rattle.std.specs.declared.vec.Vec.{Vec}
use Rattle.std.specs.declared.alloc.Global.{Global}
use Rattle.script_grammar.specs.declared.tree.Ident.{Ident}
use Rattle.script_grammar.specs.declared.tree.Expr.{Expr}
use Rattle.script_grammar.specs.declared.tree.Stmt.{Stmt}
use Rattle.script_grammar.specs.declared.tree.Each.{Each}
use Rattle.script_grammar.specs.declared.tree.Init.{Init}
use Rattle.script_grammar.specs.declared.tree.Args.{Args, out-Args}
use Rattle.script_grammar.specs.declared.tree.Bind.{Bind}
use Rattle.script_grammar.specs.declared.tree.Clause.{Clause}
use Rattle.script_grammar.specs.declared.tree.ForInStatement.{ForInStatement, out-ForInStatement}
use Rattle.script_grammar.specs.declared.tree.ForStatement.{ForStatement}
use Rattle.script_grammar.specs.declared.tree.Func.{Func, out-Func}
use Rattle.script_grammar.specs.declared.tree.IfStatement.{IfStatement}
use Rattle.script_grammar.specs.declared.tree.NewExpression.{NewExpression, out-NewExpression}
use Rattle.script_grammar.specs.declared.tree.Operand.{Operand, out-Operand}
use Rattle.script_grammar.specs.declared.tree.Param.{Param}
use Rattle.script_grammar.specs.declared.tree.SwitchStatement.{SwitchStatement, out-SwitchStatement}
use Rattle.script_grammar.specs.declared.tree.TemplatePart.{TemplatePart, out-TemplatePart}
use Rattle.script_grammar.specs.declared.tree.TryStatement.{TryStatement, out-TryStatement}
use Rattle.script_grammar.specs.declared.tree.Each.TheFolds.{fold_out-Args, fold_out-Bind, fold_out-Clause, fold_out-ForInStatement, fold_out-ForStatement, fold_out-Func, fold_out-IfStatement, fold_out-NewExpression, fold_out-Operand, fold_out-Param, fold_out-SwitchStatement, fold_out-TemplatePart, fold_out-TryStatement}
use Rattle.script_grammar.specs.Interpretation.{Interpretation, text_of, named, maybe_named}
use Rattle.script_grammar.specs.Tree as model
use Rattle.script_grammar.specs.TreeLists as part
use Rattle.script_grammar.specs.TreeLists.{exprs_of, maybe_expr_of, items_of, maybe_args_of, operands_of, parts_of, tails_of, props_of, params_of, binds_of, clauses_of, stmts_of, maybe_stmt_of}
use Rattle.script_grammar.specs.TreeOf.{each_step, expr_of, expr_step, body_of, body_step, init_step, key_step, prop_step, stmt_of, stmt_step, tail_step, args_of, args_step, bind_of, bind_step, clause_of, clause_step, func_of, func_step, operand_of, operand_step, param_of, param_step, part_of, part_step, for_in_step, for_step, if_step, new_step, switch_step, try_step, if_of, for_of, for_in_of, switch_of, try_of, new_of, init_of, each_of}

pub args_of-fields : (i : Interpretation) (x : Args) → args_of i x ≡ record { items = map (expr_of i) (out-Args x).items.items; comma = (out-Args x).comma }
args_of-fields i x = fold_out-Args model.Each model.Expr (Option model.Body) model.Init model.Key model.Prop model.Stmt model.Tail part.Args part.Bind part.Clause model.Stmt model.Stmt model.Function model.Stmt model.Expr part.Operand part.Param model.Stmt part.Part model.Stmt (each_step i) (expr_step i) (body_step i) (init_step i) (key_step i) (prop_step i) (stmt_step i) (tail_step i) (args_step i) (bind_step i) (clause_step i) (for_in_step i) (for_step i) (func_step i) (if_step i) (new_step i) (operand_step i) (param_step i) (switch_step i) (part_step i) (try_step i) x

bind_of-record : (i : Interpretation) (name : Ident) (value : Option Expr) → bind_of i (record { name = name; value = value }) ≡ record { name = named i name; value = option_map (expr_of i) value }
bind_of-record i name None = fold_out-Bind model.Each model.Expr (Option model.Body) model.Init model.Key model.Prop model.Stmt model.Tail part.Args part.Bind part.Clause model.Stmt model.Stmt model.Function model.Stmt model.Expr part.Operand part.Param model.Stmt part.Part model.Stmt (each_step i) (expr_step i) (body_step i) (init_step i) (key_step i) (prop_step i) (stmt_step i) (tail_step i) (args_step i) (bind_step i) (clause_step i) (for_in_step i) (for_step i) (func_step i) (if_step i) (new_step i) (operand_step i) (param_step i) (switch_step i) (part_step i) (try_step i) (record { name = name; value = None })
bind_of-record i name (Some v) = fold_out-Bind model.Each model.Expr (Option model.Body) model.Init model.Key model.Prop model.Stmt model.Tail part.Args part.Bind part.Clause model.Stmt model.Stmt model.Function model.Stmt model.Expr part.Operand part.Param model.Stmt part.Part model.Stmt (each_step i) (expr_step i) (body_step i) (init_step i) (key_step i) (prop_step i) (stmt_step i) (tail_step i) (args_step i) (bind_step i) (clause_step i) (for_in_step i) (for_step i) (func_step i) (if_step i) (new_step i) (operand_step i) (param_step i) (switch_step i) (part_step i) (try_step i) (record { name = name; value = (Some v) })

pub bind_of-fields : (i : Interpretation) (x : Bind) → bind_of i x ≡ record { name = named i x.name; value = option_map (expr_of i) x.value }
bind_of-fields i x = bind_of-record i x.name x.value

clause_of-record : (i : Interpretation) (test : Option Expr) (items : Vec Stmt Global) → clause_of i (record { test = test; items = items }) ≡ record { test = option_map (expr_of i) test; items = map (stmt_of i) items.items }
clause_of-record i None items = fold_out-Clause model.Each model.Expr (Option model.Body) model.Init model.Key model.Prop model.Stmt model.Tail part.Args part.Bind part.Clause model.Stmt model.Stmt model.Function model.Stmt model.Expr part.Operand part.Param model.Stmt part.Part model.Stmt (each_step i) (expr_step i) (body_step i) (init_step i) (key_step i) (prop_step i) (stmt_step i) (tail_step i) (args_step i) (bind_step i) (clause_step i) (for_in_step i) (for_step i) (func_step i) (if_step i) (new_step i) (operand_step i) (param_step i) (switch_step i) (part_step i) (try_step i) (record { test = None; items = items })
clause_of-record i (Some t) items = fold_out-Clause model.Each model.Expr (Option model.Body) model.Init model.Key model.Prop model.Stmt model.Tail part.Args part.Bind part.Clause model.Stmt model.Stmt model.Function model.Stmt model.Expr part.Operand part.Param model.Stmt part.Part model.Stmt (each_step i) (expr_step i) (body_step i) (init_step i) (key_step i) (prop_step i) (stmt_step i) (tail_step i) (args_step i) (bind_step i) (clause_step i) (for_in_step i) (for_step i) (func_step i) (if_step i) (new_step i) (operand_step i) (param_step i) (switch_step i) (part_step i) (try_step i) (record { test = (Some t); items = items })

pub clause_of-fields : (i : Interpretation) (x : Clause) → clause_of i x ≡ record { test = option_map (expr_of i) x.test; items = map (stmt_of i) x.items.items }
clause_of-fields i x = clause_of-record i x.test x.items

pub func_of-fields : (i : Interpretation) (x : Func) → func_of i x ≡ model.function (out-Func x).form (out-Func x).start (out-Func x).end (maybe_named i (out-Func x).name) (params_of (map (param_of i) (out-Func x).params.items)) (out-Func x).comma (out-Func x).bare (unwrap_or (body_of i (out-Func x).body) (model.BracedBody (i.bodies (out-Func x).start)))
func_of-fields i x = fold_out-Func model.Each model.Expr (Option model.Body) model.Init model.Key model.Prop model.Stmt model.Tail part.Args part.Bind part.Clause model.Stmt model.Stmt model.Function model.Stmt model.Expr part.Operand part.Param model.Stmt part.Part model.Stmt (each_step i) (expr_step i) (body_step i) (init_step i) (key_step i) (prop_step i) (stmt_step i) (tail_step i) (args_step i) (bind_step i) (clause_step i) (for_in_step i) (for_step i) (func_step i) (if_step i) (new_step i) (operand_step i) (param_step i) (switch_step i) (part_step i) (try_step i) x

pub operand_of-fields : (i : Interpretation) (x : Operand) → operand_of i x ≡ record { op = (out-Operand x).op; is_word = (out-Operand x).is_word; value = expr_of i (out-Operand x).value }
operand_of-fields i x = fold_out-Operand model.Each model.Expr (Option model.Body) model.Init model.Key model.Prop model.Stmt model.Tail part.Args part.Bind part.Clause model.Stmt model.Stmt model.Function model.Stmt model.Expr part.Operand part.Param model.Stmt part.Part model.Stmt (each_step i) (expr_step i) (body_step i) (init_step i) (key_step i) (prop_step i) (stmt_step i) (tail_step i) (args_step i) (bind_step i) (clause_step i) (for_in_step i) (for_step i) (func_step i) (if_step i) (new_step i) (operand_step i) (param_step i) (switch_step i) (part_step i) (try_step i) x

param_of-record : (i : Interpretation) (name : Ident) (value : Option Expr) (rest : Bool) → param_of i (record { name = name; value = value; rest = rest }) ≡ record { name = named i name; value = option_map (expr_of i) value; rest = rest }
param_of-record i name None rest = fold_out-Param model.Each model.Expr (Option model.Body) model.Init model.Key model.Prop model.Stmt model.Tail part.Args part.Bind part.Clause model.Stmt model.Stmt model.Function model.Stmt model.Expr part.Operand part.Param model.Stmt part.Part model.Stmt (each_step i) (expr_step i) (body_step i) (init_step i) (key_step i) (prop_step i) (stmt_step i) (tail_step i) (args_step i) (bind_step i) (clause_step i) (for_in_step i) (for_step i) (func_step i) (if_step i) (new_step i) (operand_step i) (param_step i) (switch_step i) (part_step i) (try_step i) (record { name = name; value = None; rest = rest })
param_of-record i name (Some v) rest = fold_out-Param model.Each model.Expr (Option model.Body) model.Init model.Key model.Prop model.Stmt model.Tail part.Args part.Bind part.Clause model.Stmt model.Stmt model.Function model.Stmt model.Expr part.Operand part.Param model.Stmt part.Part model.Stmt (each_step i) (expr_step i) (body_step i) (init_step i) (key_step i) (prop_step i) (stmt_step i) (tail_step i) (args_step i) (bind_step i) (clause_step i) (for_in_step i) (for_step i) (func_step i) (if_step i) (new_step i) (operand_step i) (param_step i) (switch_step i) (part_step i) (try_step i) (record { name = name; value = (Some v); rest = rest })

pub param_of-fields : (i : Interpretation) (x : Param) → param_of i x ≡ record { name = named i x.name; value = option_map (expr_of i) x.value; rest = x.rest }
param_of-fields i x = param_of-record i x.name x.value x.rest

pub part_of-fields : (i : Interpretation) (x : TemplatePart) → part_of i x ≡ record { value = expr_of i (out-TemplatePart x).value; behind = text_of i (out-TemplatePart x).after }
part_of-fields i x = fold_out-TemplatePart model.Each model.Expr (Option model.Body) model.Init model.Key model.Prop model.Stmt model.Tail part.Args part.Bind part.Clause model.Stmt model.Stmt model.Function model.Stmt model.Expr part.Operand part.Param model.Stmt part.Part model.Stmt (each_step i) (expr_step i) (body_step i) (init_step i) (key_step i) (prop_step i) (stmt_step i) (tail_step i) (args_step i) (bind_step i) (clause_step i) (for_in_step i) (for_step i) (func_step i) (if_step i) (new_step i) (operand_step i) (param_step i) (switch_step i) (part_step i) (try_step i) x

pub for_in_of-fields : (i : Interpretation) (x : ForInStatement) → for_in_of i x ≡ model.ForIn (each_of i (out-ForInStatement x).each) (expr_of i (out-ForInStatement x).over) (stmt_of i (out-ForInStatement x).body)
for_in_of-fields i x = fold_out-ForInStatement model.Each model.Expr (Option model.Body) model.Init model.Key model.Prop model.Stmt model.Tail part.Args part.Bind part.Clause model.Stmt model.Stmt model.Function model.Stmt model.Expr part.Operand part.Param model.Stmt part.Part model.Stmt (each_step i) (expr_step i) (body_step i) (init_step i) (key_step i) (prop_step i) (stmt_step i) (tail_step i) (args_step i) (bind_step i) (clause_step i) (for_in_step i) (for_step i) (func_step i) (if_step i) (new_step i) (operand_step i) (param_step i) (switch_step i) (part_step i) (try_step i) x

for_of-record : (i : Interpretation) (init : Init) (test : Option Expr) (update : Option Expr) (body : Stmt) → for_of i (record { init = init; test = test; update = update; body = body }) ≡ model.For (init_of i init) (maybe_expr_of (option_map (expr_of i) test)) (maybe_expr_of (option_map (expr_of i) update)) (stmt_of i body)
for_of-record i init None None body = fold_out-ForStatement model.Each model.Expr (Option model.Body) model.Init model.Key model.Prop model.Stmt model.Tail part.Args part.Bind part.Clause model.Stmt model.Stmt model.Function model.Stmt model.Expr part.Operand part.Param model.Stmt part.Part model.Stmt (each_step i) (expr_step i) (body_step i) (init_step i) (key_step i) (prop_step i) (stmt_step i) (tail_step i) (args_step i) (bind_step i) (clause_step i) (for_in_step i) (for_step i) (func_step i) (if_step i) (new_step i) (operand_step i) (param_step i) (switch_step i) (part_step i) (try_step i) (record { init = init; test = None; update = None; body = body })
for_of-record i init None (Some u) body = fold_out-ForStatement model.Each model.Expr (Option model.Body) model.Init model.Key model.Prop model.Stmt model.Tail part.Args part.Bind part.Clause model.Stmt model.Stmt model.Function model.Stmt model.Expr part.Operand part.Param model.Stmt part.Part model.Stmt (each_step i) (expr_step i) (body_step i) (init_step i) (key_step i) (prop_step i) (stmt_step i) (tail_step i) (args_step i) (bind_step i) (clause_step i) (for_in_step i) (for_step i) (func_step i) (if_step i) (new_step i) (operand_step i) (param_step i) (switch_step i) (part_step i) (try_step i) (record { init = init; test = None; update = (Some u); body = body })
for_of-record i init (Some t) None body = fold_out-ForStatement model.Each model.Expr (Option model.Body) model.Init model.Key model.Prop model.Stmt model.Tail part.Args part.Bind part.Clause model.Stmt model.Stmt model.Function model.Stmt model.Expr part.Operand part.Param model.Stmt part.Part model.Stmt (each_step i) (expr_step i) (body_step i) (init_step i) (key_step i) (prop_step i) (stmt_step i) (tail_step i) (args_step i) (bind_step i) (clause_step i) (for_in_step i) (for_step i) (func_step i) (if_step i) (new_step i) (operand_step i) (param_step i) (switch_step i) (part_step i) (try_step i) (record { init = init; test = (Some t); update = None; body = body })
for_of-record i init (Some t) (Some u) body = fold_out-ForStatement model.Each model.Expr (Option model.Body) model.Init model.Key model.Prop model.Stmt model.Tail part.Args part.Bind part.Clause model.Stmt model.Stmt model.Function model.Stmt model.Expr part.Operand part.Param model.Stmt part.Part model.Stmt (each_step i) (expr_step i) (body_step i) (init_step i) (key_step i) (prop_step i) (stmt_step i) (tail_step i) (args_step i) (bind_step i) (clause_step i) (for_in_step i) (for_step i) (func_step i) (if_step i) (new_step i) (operand_step i) (param_step i) (switch_step i) (part_step i) (try_step i) (record { init = init; test = (Some t); update = (Some u); body = body })

pub for_of-fields : (i : Interpretation) (x : ForStatement) → for_of i x ≡ model.For (init_of i x.init) (maybe_expr_of (option_map (expr_of i) x.test)) (maybe_expr_of (option_map (expr_of i) x.update)) (stmt_of i x.body)
for_of-fields i x = for_of-record i x.init x.test x.update x.body

if_of-record : (i : Interpretation) (test : Expr) (first : Stmt) (no : Option (Box Stmt Global)) → if_of i (record { test = test; yes = first; no = no }) ≡ model.If (expr_of i test) (stmt_of i first) (maybe_stmt_of (option_map (λ boxed. stmt_of i boxed.value) no))
if_of-record i test first None = fold_out-IfStatement model.Each model.Expr (Option model.Body) model.Init model.Key model.Prop model.Stmt model.Tail part.Args part.Bind part.Clause model.Stmt model.Stmt model.Function model.Stmt model.Expr part.Operand part.Param model.Stmt part.Part model.Stmt (each_step i) (expr_step i) (body_step i) (init_step i) (key_step i) (prop_step i) (stmt_step i) (tail_step i) (args_step i) (bind_step i) (clause_step i) (for_in_step i) (for_step i) (func_step i) (if_step i) (new_step i) (operand_step i) (param_step i) (switch_step i) (part_step i) (try_step i) (record { test = test; yes = first; no = None })
if_of-record i test first (Some n) = fold_out-IfStatement model.Each model.Expr (Option model.Body) model.Init model.Key model.Prop model.Stmt model.Tail part.Args part.Bind part.Clause model.Stmt model.Stmt model.Function model.Stmt model.Expr part.Operand part.Param model.Stmt part.Part model.Stmt (each_step i) (expr_step i) (body_step i) (init_step i) (key_step i) (prop_step i) (stmt_step i) (tail_step i) (args_step i) (bind_step i) (clause_step i) (for_in_step i) (for_step i) (func_step i) (if_step i) (new_step i) (operand_step i) (param_step i) (switch_step i) (part_step i) (try_step i) (record { test = test; yes = first; no = (Some n) })

pub if_of-fields : (i : Interpretation) (x : IfStatement) → if_of i x ≡ model.If (expr_of i x.test) (stmt_of i x.yes) (maybe_stmt_of (option_map (λ boxed. stmt_of i boxed.value) x.no))
if_of-fields i x = if_of-record i x.test x.yes x.no

new_cases : (i : Interpretation) (x : NewExpression) (args : Option Args) → (out-NewExpression x).args ≡ args → new_of i x ≡ model.New (out-NewExpression x).at (expr_of i (out-NewExpression x).callee) (maybe_args_of (option_map (args_of i) args))
new_cases i x None is = rw is at (fold_out-NewExpression model.Each model.Expr (Option model.Body) model.Init model.Key model.Prop model.Stmt model.Tail part.Args part.Bind part.Clause model.Stmt model.Stmt model.Function model.Stmt model.Expr part.Operand part.Param model.Stmt part.Part model.Stmt (each_step i) (expr_step i) (body_step i) (init_step i) (key_step i) (prop_step i) (stmt_step i) (tail_step i) (args_step i) (bind_step i) (clause_step i) (for_in_step i) (for_step i) (func_step i) (if_step i) (new_step i) (operand_step i) (param_step i) (switch_step i) (part_step i) (try_step i) x)
new_cases i x (Some a) is = rw is at (fold_out-NewExpression model.Each model.Expr (Option model.Body) model.Init model.Key model.Prop model.Stmt model.Tail part.Args part.Bind part.Clause model.Stmt model.Stmt model.Function model.Stmt model.Expr part.Operand part.Param model.Stmt part.Part model.Stmt (each_step i) (expr_step i) (body_step i) (init_step i) (key_step i) (prop_step i) (stmt_step i) (tail_step i) (args_step i) (bind_step i) (clause_step i) (for_in_step i) (for_step i) (func_step i) (if_step i) (new_step i) (operand_step i) (param_step i) (switch_step i) (part_step i) (try_step i) x)

pub new_of-fields : (i : Interpretation) (x : NewExpression) → new_of i x ≡ model.New (out-NewExpression x).at (expr_of i (out-NewExpression x).callee) (maybe_args_of (option_map (args_of i) (out-NewExpression x).args))
new_of-fields i x = new_cases i x (out-NewExpression x).args refl

pub switch_of-fields : (i : Interpretation) (x : SwitchStatement) → switch_of i x ≡ model.Switch (expr_of i (out-SwitchStatement x).of) (clauses_of (map (clause_of i) (out-SwitchStatement x).clauses.items))
switch_of-fields i x = fold_out-SwitchStatement model.Each model.Expr (Option model.Body) model.Init model.Key model.Prop model.Stmt model.Tail part.Args part.Bind part.Clause model.Stmt model.Stmt model.Function model.Stmt model.Expr part.Operand part.Param model.Stmt part.Part model.Stmt (each_step i) (expr_step i) (body_step i) (init_step i) (key_step i) (prop_step i) (stmt_step i) (tail_step i) (args_step i) (bind_step i) (clause_step i) (for_in_step i) (for_step i) (func_step i) (if_step i) (new_step i) (operand_step i) (param_step i) (switch_step i) (part_step i) (try_step i) x

pub try_of-fields : (i : Interpretation) (x : TryStatement) → try_of i x ≡ model.Try (stmts_of (map (stmt_of i) (out-TryStatement x).body.items)) (maybe_named i (out-TryStatement x).param) (stmts_of (map (stmt_of i) (out-TryStatement x).handler.items))
try_of-fields i x = fold_out-TryStatement model.Each model.Expr (Option model.Body) model.Init model.Key model.Prop model.Stmt model.Tail part.Args part.Bind part.Clause model.Stmt model.Stmt model.Function model.Stmt model.Expr part.Operand part.Param model.Stmt part.Part model.Stmt (each_step i) (expr_step i) (body_step i) (init_step i) (key_step i) (prop_step i) (stmt_step i) (tail_step i) (args_step i) (bind_step i) (clause_step i) (for_in_step i) (for_step i) (func_step i) (if_step i) (new_step i) (operand_step i) (param_step i) (switch_step i) (part_step i) (try_step i) x
