-- What each variant of a statement and of its parts stands for.
use Rattle.std.proofs.Common.{◌≡◌, ◌∙◌, ℕ, Bool, Option, Some, None, map, option_map, ap, sym}
use Rattle.std.specs.declared.boxed.Box.{Box}
use Rattle.std.specs.declared.vec.Vec.{Vec}
use Rattle.std.specs.declared.alloc.Global.{Global}
use Rattle.script_grammar.specs.declared.token.Decl.{Decl}
use Rattle.script_grammar.specs.declared.tree.Ident.{Ident}
use Rattle.script_grammar.specs.declared.tree.Each.{Each}
use Rattle.script_grammar.specs.declared.tree.Expr.{Expr}
use Rattle.script_grammar.specs.declared.tree.Init.{Init}
use Rattle.script_grammar.specs.declared.tree.Stmt.{Stmt}
use Rattle.script_grammar.specs.declared.tree.Bind.{Bind}
use Rattle.script_grammar.specs.declared.tree.Clause.{Clause}
use Rattle.script_grammar.specs.declared.tree.ForInStatement.{ForInStatement, out-ForInStatement}
use Rattle.script_grammar.specs.declared.tree.ForStatement.{ForStatement}
use Rattle.script_grammar.specs.declared.tree.Func.{Func}
use Rattle.script_grammar.specs.declared.tree.IfStatement.{IfStatement}
use Rattle.script_grammar.specs.declared.tree.SwitchStatement.{SwitchStatement, out-SwitchStatement}
use Rattle.script_grammar.specs.declared.tree.TryStatement.{TryStatement, out-TryStatement}
use Rattle.script_grammar.specs.declared.tree.Stmt.TheVariants as in_stmt
use Rattle.script_grammar.specs.declared.tree.FuncBody.TheVariants as in_funcbody
use Rattle.script_grammar.specs.declared.tree.Init.TheVariants as in_init
use Rattle.script_grammar.specs.declared.tree.Each.TheVariants as in_each
use Rattle.script_grammar.specs.declared.tree.Each.TheFolds.{fold-roll-Stmt, fold-roll-FuncBody, fold-roll-Init, fold-roll-Each}
use Rattle.script_grammar.specs.declared.tree.Each.TheOpen as layer
use Rattle.script_grammar.specs.Interpretation.{Interpretation, named, maybe_named}
use Rattle.script_grammar.specs.Tree as model
use Rattle.script_grammar.specs.TreeLists as part
use Rattle.script_grammar.specs.TreeLists.{exprs_of, maybe_expr_of, items_of, maybe_args_of, operands_of, parts_of, tails_of, props_of, params_of, binds_of, clauses_of, stmts_of, maybe_stmt_of}
use Rattle.script_grammar.proofs.PartEquations.{if_of-fields, for_of-fields, for_in_of-fields, switch_of-fields, try_of-fields}
use Rattle.script_grammar.specs.TreeOf.{each_of, each_step, expr_of, expr_step, body_of, body_step, init_of, init_step, key_step, prop_step, stmt_of, stmt_step, tail_step, args_step, bind_of, bind_step, clause_of, clause_step, func_of, func_step, operand_step, param_step, part_step, for_in_step, for_step, if_step, new_step, switch_step, try_step, if_of, for_of, for_in_of, switch_of, try_of}

pub stmt_of-Block : (i : Interpretation) (items : Vec Stmt Global) → stmt_of i (in_stmt.Block items) ≡ model.Block (stmts_of (map (stmt_of i) items.items))
stmt_of-Block i items = ap (stmt_of i) (sym (in_stmt.rolls-Block items)) ∙ fold-roll-Stmt model.Each model.Expr (Option model.Body) model.Init model.Key model.Prop model.Stmt model.Tail part.Args part.Bind part.Clause model.Stmt model.Stmt model.Function model.Stmt model.Expr part.Operand part.Param model.Stmt part.Part model.Stmt (each_step i) (expr_step i) (body_step i) (init_step i) (key_step i) (prop_step i) (stmt_step i) (tail_step i) (args_step i) (bind_step i) (clause_step i) (for_in_step i) (for_step i) (func_step i) (if_step i) (new_step i) (operand_step i) (param_step i) (switch_step i) (part_step i) (try_step i) (layer.Block items)

pub stmt_of-Empty : (i : Interpretation) → stmt_of i in_stmt.Empty ≡ model.Empty
stmt_of-Empty i = ap (stmt_of i) (sym in_stmt.rolls-Empty) ∙ fold-roll-Stmt model.Each model.Expr (Option model.Body) model.Init model.Key model.Prop model.Stmt model.Tail part.Args part.Bind part.Clause model.Stmt model.Stmt model.Function model.Stmt model.Expr part.Operand part.Param model.Stmt part.Part model.Stmt (each_step i) (expr_step i) (body_step i) (init_step i) (key_step i) (prop_step i) (stmt_step i) (tail_step i) (args_step i) (bind_step i) (clause_step i) (for_in_step i) (for_step i) (func_step i) (if_step i) (new_step i) (operand_step i) (param_step i) (switch_step i) (part_step i) (try_step i) layer.Empty

pub stmt_of-Debugger : (i : Interpretation) (semi : Bool) → stmt_of i (in_stmt.Debugger semi) ≡ model.Debugger semi
stmt_of-Debugger i semi = ap (stmt_of i) (sym (in_stmt.rolls-Debugger semi)) ∙ fold-roll-Stmt model.Each model.Expr (Option model.Body) model.Init model.Key model.Prop model.Stmt model.Tail part.Args part.Bind part.Clause model.Stmt model.Stmt model.Function model.Stmt model.Expr part.Operand part.Param model.Stmt part.Part model.Stmt (each_step i) (expr_step i) (body_step i) (init_step i) (key_step i) (prop_step i) (stmt_step i) (tail_step i) (args_step i) (bind_step i) (clause_step i) (for_in_step i) (for_step i) (func_step i) (if_step i) (new_step i) (operand_step i) (param_step i) (switch_step i) (part_step i) (try_step i) (layer.Debugger semi)

pub stmt_of-Binds : (i : Interpretation) (decl : Decl) (binds : Vec Bind Global) (semi : Bool) → stmt_of i (in_stmt.Binds decl binds semi) ≡ model.Binding decl (binds_of (map (bind_of i) binds.items)) semi
stmt_of-Binds i decl binds semi = ap (stmt_of i) (sym (in_stmt.rolls-Binds decl binds semi)) ∙ fold-roll-Stmt model.Each model.Expr (Option model.Body) model.Init model.Key model.Prop model.Stmt model.Tail part.Args part.Bind part.Clause model.Stmt model.Stmt model.Function model.Stmt model.Expr part.Operand part.Param model.Stmt part.Part model.Stmt (each_step i) (expr_step i) (body_step i) (init_step i) (key_step i) (prop_step i) (stmt_step i) (tail_step i) (args_step i) (bind_step i) (clause_step i) (for_in_step i) (for_step i) (func_step i) (if_step i) (new_step i) (operand_step i) (param_step i) (switch_step i) (part_step i) (try_step i) (layer.Stmt::Binds decl binds semi)

pub stmt_of-Value : (i : Interpretation) (value : Expr) (semi : Bool) → stmt_of i (in_stmt.Value value semi) ≡ model.Value (expr_of i value) semi
stmt_of-Value i value semi = ap (stmt_of i) (sym (in_stmt.rolls-Value value semi)) ∙ fold-roll-Stmt model.Each model.Expr (Option model.Body) model.Init model.Key model.Prop model.Stmt model.Tail part.Args part.Bind part.Clause model.Stmt model.Stmt model.Function model.Stmt model.Expr part.Operand part.Param model.Stmt part.Part model.Stmt (each_step i) (expr_step i) (body_step i) (init_step i) (key_step i) (prop_step i) (stmt_step i) (tail_step i) (args_step i) (bind_step i) (clause_step i) (for_in_step i) (for_step i) (func_step i) (if_step i) (new_step i) (operand_step i) (param_step i) (switch_step i) (part_step i) (try_step i) (layer.Stmt::Value value semi)

pub stmt_of-If : (i : Interpretation) (boxed : Box IfStatement Global) → stmt_of i (in_stmt.If boxed) ≡ model.If (expr_of i boxed.value.test) (stmt_of i boxed.value.yes) (maybe_stmt_of (option_map (λ boxed. stmt_of i boxed.value) boxed.value.no))
stmt_of-If i boxed = ap (stmt_of i) (sym (in_stmt.rolls-If boxed)) ∙ (fold-roll-Stmt model.Each model.Expr (Option model.Body) model.Init model.Key model.Prop model.Stmt model.Tail part.Args part.Bind part.Clause model.Stmt model.Stmt model.Function model.Stmt model.Expr part.Operand part.Param model.Stmt part.Part model.Stmt (each_step i) (expr_step i) (body_step i) (init_step i) (key_step i) (prop_step i) (stmt_step i) (tail_step i) (args_step i) (bind_step i) (clause_step i) (for_in_step i) (for_step i) (func_step i) (if_step i) (new_step i) (operand_step i) (param_step i) (switch_step i) (part_step i) (try_step i) (layer.If boxed) ∙ if_of-fields i boxed.value)

pub stmt_of-Do : (i : Interpretation) (semi : Bool) (body : Box Stmt Global) (test : Expr) → stmt_of i (in_stmt.Do semi body test) ≡ model.Do (stmt_of i body.value) (expr_of i test) semi
stmt_of-Do i semi body test = ap (stmt_of i) (sym (in_stmt.rolls-Do semi body test)) ∙ fold-roll-Stmt model.Each model.Expr (Option model.Body) model.Init model.Key model.Prop model.Stmt model.Tail part.Args part.Bind part.Clause model.Stmt model.Stmt model.Function model.Stmt model.Expr part.Operand part.Param model.Stmt part.Part model.Stmt (each_step i) (expr_step i) (body_step i) (init_step i) (key_step i) (prop_step i) (stmt_step i) (tail_step i) (args_step i) (bind_step i) (clause_step i) (for_in_step i) (for_step i) (func_step i) (if_step i) (new_step i) (operand_step i) (param_step i) (switch_step i) (part_step i) (try_step i) (layer.Do semi body test)

pub stmt_of-While : (i : Interpretation) (test : Expr) (body : Box Stmt Global) → stmt_of i (in_stmt.While test body) ≡ model.While (expr_of i test) (stmt_of i body.value)
stmt_of-While i test body = ap (stmt_of i) (sym (in_stmt.rolls-While test body)) ∙ fold-roll-Stmt model.Each model.Expr (Option model.Body) model.Init model.Key model.Prop model.Stmt model.Tail part.Args part.Bind part.Clause model.Stmt model.Stmt model.Function model.Stmt model.Expr part.Operand part.Param model.Stmt part.Part model.Stmt (each_step i) (expr_step i) (body_step i) (init_step i) (key_step i) (prop_step i) (stmt_step i) (tail_step i) (args_step i) (bind_step i) (clause_step i) (for_in_step i) (for_step i) (func_step i) (if_step i) (new_step i) (operand_step i) (param_step i) (switch_step i) (part_step i) (try_step i) (layer.While test body)

pub stmt_of-For : (i : Interpretation) (boxed : Box ForStatement Global) → stmt_of i (in_stmt.For boxed) ≡ model.For (init_of i boxed.value.init) (maybe_expr_of (option_map (expr_of i) boxed.value.test)) (maybe_expr_of (option_map (expr_of i) boxed.value.update)) (stmt_of i boxed.value.body)
stmt_of-For i boxed = ap (stmt_of i) (sym (in_stmt.rolls-For boxed)) ∙ (fold-roll-Stmt model.Each model.Expr (Option model.Body) model.Init model.Key model.Prop model.Stmt model.Tail part.Args part.Bind part.Clause model.Stmt model.Stmt model.Function model.Stmt model.Expr part.Operand part.Param model.Stmt part.Part model.Stmt (each_step i) (expr_step i) (body_step i) (init_step i) (key_step i) (prop_step i) (stmt_step i) (tail_step i) (args_step i) (bind_step i) (clause_step i) (for_in_step i) (for_step i) (func_step i) (if_step i) (new_step i) (operand_step i) (param_step i) (switch_step i) (part_step i) (try_step i) (layer.For boxed) ∙ for_of-fields i boxed.value)

pub stmt_of-ForIn : (i : Interpretation) (boxed : Box ForInStatement Global) → stmt_of i (in_stmt.ForIn boxed) ≡ model.ForIn (each_of i (out-ForInStatement boxed.value).each) (expr_of i (out-ForInStatement boxed.value).over) (stmt_of i (out-ForInStatement boxed.value).body)
stmt_of-ForIn i boxed = ap (stmt_of i) (sym (in_stmt.rolls-ForIn boxed)) ∙ (fold-roll-Stmt model.Each model.Expr (Option model.Body) model.Init model.Key model.Prop model.Stmt model.Tail part.Args part.Bind part.Clause model.Stmt model.Stmt model.Function model.Stmt model.Expr part.Operand part.Param model.Stmt part.Part model.Stmt (each_step i) (expr_step i) (body_step i) (init_step i) (key_step i) (prop_step i) (stmt_step i) (tail_step i) (args_step i) (bind_step i) (clause_step i) (for_in_step i) (for_step i) (func_step i) (if_step i) (new_step i) (operand_step i) (param_step i) (switch_step i) (part_step i) (try_step i) (layer.ForIn boxed) ∙ for_in_of-fields i boxed.value)

pub stmt_of-Continue : (i : Interpretation) (at : ℕ) (label : Option Ident) (semi : Bool) → stmt_of i (in_stmt.Continue at label semi) ≡ model.Continue at (maybe_named i label) semi
stmt_of-Continue i at label semi = ap (stmt_of i) (sym (in_stmt.rolls-Continue at label semi)) ∙ fold-roll-Stmt model.Each model.Expr (Option model.Body) model.Init model.Key model.Prop model.Stmt model.Tail part.Args part.Bind part.Clause model.Stmt model.Stmt model.Function model.Stmt model.Expr part.Operand part.Param model.Stmt part.Part model.Stmt (each_step i) (expr_step i) (body_step i) (init_step i) (key_step i) (prop_step i) (stmt_step i) (tail_step i) (args_step i) (bind_step i) (clause_step i) (for_in_step i) (for_step i) (func_step i) (if_step i) (new_step i) (operand_step i) (param_step i) (switch_step i) (part_step i) (try_step i) (layer.Continue at label semi)

pub stmt_of-Break : (i : Interpretation) (at : ℕ) (label : Option Ident) (semi : Bool) → stmt_of i (in_stmt.Break at label semi) ≡ model.Break at (maybe_named i label) semi
stmt_of-Break i at label semi = ap (stmt_of i) (sym (in_stmt.rolls-Break at label semi)) ∙ fold-roll-Stmt model.Each model.Expr (Option model.Body) model.Init model.Key model.Prop model.Stmt model.Tail part.Args part.Bind part.Clause model.Stmt model.Stmt model.Function model.Stmt model.Expr part.Operand part.Param model.Stmt part.Part model.Stmt (each_step i) (expr_step i) (body_step i) (init_step i) (key_step i) (prop_step i) (stmt_step i) (tail_step i) (args_step i) (bind_step i) (clause_step i) (for_in_step i) (for_step i) (func_step i) (if_step i) (new_step i) (operand_step i) (param_step i) (switch_step i) (part_step i) (try_step i) (layer.Break at label semi)

pub stmt_of-Return : (i : Interpretation) (semi : Bool) (value : Option Expr) → stmt_of i (in_stmt.Return semi value) ≡ model.Return (maybe_expr_of (option_map (expr_of i) value)) semi
stmt_of-Return i semi None = ap (stmt_of i) (sym (in_stmt.rolls-Return semi None)) ∙ fold-roll-Stmt model.Each model.Expr (Option model.Body) model.Init model.Key model.Prop model.Stmt model.Tail part.Args part.Bind part.Clause model.Stmt model.Stmt model.Function model.Stmt model.Expr part.Operand part.Param model.Stmt part.Part model.Stmt (each_step i) (expr_step i) (body_step i) (init_step i) (key_step i) (prop_step i) (stmt_step i) (tail_step i) (args_step i) (bind_step i) (clause_step i) (for_in_step i) (for_step i) (func_step i) (if_step i) (new_step i) (operand_step i) (param_step i) (switch_step i) (part_step i) (try_step i) (layer.Return semi None)
stmt_of-Return i semi (Some v) = ap (stmt_of i) (sym (in_stmt.rolls-Return semi (Some v))) ∙ fold-roll-Stmt model.Each model.Expr (Option model.Body) model.Init model.Key model.Prop model.Stmt model.Tail part.Args part.Bind part.Clause model.Stmt model.Stmt model.Function model.Stmt model.Expr part.Operand part.Param model.Stmt part.Part model.Stmt (each_step i) (expr_step i) (body_step i) (init_step i) (key_step i) (prop_step i) (stmt_step i) (tail_step i) (args_step i) (bind_step i) (clause_step i) (for_in_step i) (for_step i) (func_step i) (if_step i) (new_step i) (operand_step i) (param_step i) (switch_step i) (part_step i) (try_step i) (layer.Return semi (Some v))

pub stmt_of-Throw : (i : Interpretation) (value : Expr) (semi : Bool) → stmt_of i (in_stmt.Throw value semi) ≡ model.Throw (expr_of i value) semi
stmt_of-Throw i value semi = ap (stmt_of i) (sym (in_stmt.rolls-Throw value semi)) ∙ fold-roll-Stmt model.Each model.Expr (Option model.Body) model.Init model.Key model.Prop model.Stmt model.Tail part.Args part.Bind part.Clause model.Stmt model.Stmt model.Function model.Stmt model.Expr part.Operand part.Param model.Stmt part.Part model.Stmt (each_step i) (expr_step i) (body_step i) (init_step i) (key_step i) (prop_step i) (stmt_step i) (tail_step i) (args_step i) (bind_step i) (clause_step i) (for_in_step i) (for_step i) (func_step i) (if_step i) (new_step i) (operand_step i) (param_step i) (switch_step i) (part_step i) (try_step i) (layer.Throw value semi)

pub stmt_of-Switch : (i : Interpretation) (boxed : Box SwitchStatement Global) → stmt_of i (in_stmt.Switch boxed) ≡ model.Switch (expr_of i (out-SwitchStatement boxed.value).of) (clauses_of (map (clause_of i) (out-SwitchStatement boxed.value).clauses.items))
stmt_of-Switch i boxed = ap (stmt_of i) (sym (in_stmt.rolls-Switch boxed)) ∙ (fold-roll-Stmt model.Each model.Expr (Option model.Body) model.Init model.Key model.Prop model.Stmt model.Tail part.Args part.Bind part.Clause model.Stmt model.Stmt model.Function model.Stmt model.Expr part.Operand part.Param model.Stmt part.Part model.Stmt (each_step i) (expr_step i) (body_step i) (init_step i) (key_step i) (prop_step i) (stmt_step i) (tail_step i) (args_step i) (bind_step i) (clause_step i) (for_in_step i) (for_step i) (func_step i) (if_step i) (new_step i) (operand_step i) (param_step i) (switch_step i) (part_step i) (try_step i) (layer.Switch boxed) ∙ switch_of-fields i boxed.value)

pub stmt_of-Label : (i : Interpretation) (name : Ident) (body : Box Stmt Global) → stmt_of i (in_stmt.Label name body) ≡ model.Label (named i name) (stmt_of i body.value)
stmt_of-Label i name body = ap (stmt_of i) (sym (in_stmt.rolls-Label name body)) ∙ fold-roll-Stmt model.Each model.Expr (Option model.Body) model.Init model.Key model.Prop model.Stmt model.Tail part.Args part.Bind part.Clause model.Stmt model.Stmt model.Function model.Stmt model.Expr part.Operand part.Param model.Stmt part.Part model.Stmt (each_step i) (expr_step i) (body_step i) (init_step i) (key_step i) (prop_step i) (stmt_step i) (tail_step i) (args_step i) (bind_step i) (clause_step i) (for_in_step i) (for_step i) (func_step i) (if_step i) (new_step i) (operand_step i) (param_step i) (switch_step i) (part_step i) (try_step i) (layer.Label name body)

pub stmt_of-Try : (i : Interpretation) (boxed : Box TryStatement Global) → stmt_of i (in_stmt.Try boxed) ≡ model.Try (stmts_of (map (stmt_of i) (out-TryStatement boxed.value).body.items)) (maybe_named i (out-TryStatement boxed.value).param) (stmts_of (map (stmt_of i) (out-TryStatement boxed.value).handler.items))
stmt_of-Try i boxed = ap (stmt_of i) (sym (in_stmt.rolls-Try boxed)) ∙ (fold-roll-Stmt model.Each model.Expr (Option model.Body) model.Init model.Key model.Prop model.Stmt model.Tail part.Args part.Bind part.Clause model.Stmt model.Stmt model.Function model.Stmt model.Expr part.Operand part.Param model.Stmt part.Part model.Stmt (each_step i) (expr_step i) (body_step i) (init_step i) (key_step i) (prop_step i) (stmt_step i) (tail_step i) (args_step i) (bind_step i) (clause_step i) (for_in_step i) (for_step i) (func_step i) (if_step i) (new_step i) (operand_step i) (param_step i) (switch_step i) (part_step i) (try_step i) (layer.Try boxed) ∙ try_of-fields i boxed.value)

pub stmt_of-Func : (i : Interpretation) (func : Box Func Global) → stmt_of i (in_stmt.Func func) ≡ model.Declared (func_of i func.value)
stmt_of-Func i func = ap (stmt_of i) (sym (in_stmt.rolls-Func func)) ∙ fold-roll-Stmt model.Each model.Expr (Option model.Body) model.Init model.Key model.Prop model.Stmt model.Tail part.Args part.Bind part.Clause model.Stmt model.Stmt model.Function model.Stmt model.Expr part.Operand part.Param model.Stmt part.Part model.Stmt (each_step i) (expr_step i) (body_step i) (init_step i) (key_step i) (prop_step i) (stmt_step i) (tail_step i) (args_step i) (bind_step i) (clause_step i) (for_in_step i) (for_step i) (func_step i) (if_step i) (new_step i) (operand_step i) (param_step i) (switch_step i) (part_step i) (try_step i) (layer.Stmt::Func func)

pub body_of-Braced : (i : Interpretation) (items : Vec Stmt Global) → body_of i (in_funcbody.Braced items) ≡ Some (model.BracedBody (stmts_of (map (stmt_of i) items.items)))
body_of-Braced i items = ap (body_of i) (sym (in_funcbody.rolls-Braced items)) ∙ fold-roll-FuncBody model.Each model.Expr (Option model.Body) model.Init model.Key model.Prop model.Stmt model.Tail part.Args part.Bind part.Clause model.Stmt model.Stmt model.Function model.Stmt model.Expr part.Operand part.Param model.Stmt part.Part model.Stmt (each_step i) (expr_step i) (body_step i) (init_step i) (key_step i) (prop_step i) (stmt_step i) (tail_step i) (args_step i) (bind_step i) (clause_step i) (for_in_step i) (for_step i) (func_step i) (if_step i) (new_step i) (operand_step i) (param_step i) (switch_step i) (part_step i) (try_step i) (layer.Braced items)

pub body_of-Short : (i : Interpretation) (value : Box Expr Global) → body_of i (in_funcbody.Short value) ≡ Some (model.ShortBody (expr_of i value.value))
body_of-Short i value = ap (body_of i) (sym (in_funcbody.rolls-Short value)) ∙ fold-roll-FuncBody model.Each model.Expr (Option model.Body) model.Init model.Key model.Prop model.Stmt model.Tail part.Args part.Bind part.Clause model.Stmt model.Stmt model.Function model.Stmt model.Expr part.Operand part.Param model.Stmt part.Part model.Stmt (each_step i) (expr_step i) (body_step i) (init_step i) (key_step i) (prop_step i) (stmt_step i) (tail_step i) (args_step i) (bind_step i) (clause_step i) (for_in_step i) (for_step i) (func_step i) (if_step i) (new_step i) (operand_step i) (param_step i) (switch_step i) (part_step i) (try_step i) (layer.FuncBody::Short value)

pub body_of-Passed : (i : Interpretation) → body_of i in_funcbody.Passed ≡ None
body_of-Passed i = ap (body_of i) (sym in_funcbody.rolls-Passed) ∙ fold-roll-FuncBody model.Each model.Expr (Option model.Body) model.Init model.Key model.Prop model.Stmt model.Tail part.Args part.Bind part.Clause model.Stmt model.Stmt model.Function model.Stmt model.Expr part.Operand part.Param model.Stmt part.Part model.Stmt (each_step i) (expr_step i) (body_step i) (init_step i) (key_step i) (prop_step i) (stmt_step i) (tail_step i) (args_step i) (bind_step i) (clause_step i) (for_in_step i) (for_step i) (func_step i) (if_step i) (new_step i) (operand_step i) (param_step i) (switch_step i) (part_step i) (try_step i) layer.Passed

pub init_of-Nothing : (i : Interpretation) → init_of i in_init.Nothing ≡ model.NoInit
init_of-Nothing i = ap (init_of i) (sym in_init.rolls-Nothing) ∙ fold-roll-Init model.Each model.Expr (Option model.Body) model.Init model.Key model.Prop model.Stmt model.Tail part.Args part.Bind part.Clause model.Stmt model.Stmt model.Function model.Stmt model.Expr part.Operand part.Param model.Stmt part.Part model.Stmt (each_step i) (expr_step i) (body_step i) (init_step i) (key_step i) (prop_step i) (stmt_step i) (tail_step i) (args_step i) (bind_step i) (clause_step i) (for_in_step i) (for_step i) (func_step i) (if_step i) (new_step i) (operand_step i) (param_step i) (switch_step i) (part_step i) (try_step i) layer.Nothing

pub init_of-Value : (i : Interpretation) (value : Expr) → init_of i (in_init.Value value) ≡ model.ValueInit (expr_of i value)
init_of-Value i value = ap (init_of i) (sym (in_init.rolls-Value value)) ∙ fold-roll-Init model.Each model.Expr (Option model.Body) model.Init model.Key model.Prop model.Stmt model.Tail part.Args part.Bind part.Clause model.Stmt model.Stmt model.Function model.Stmt model.Expr part.Operand part.Param model.Stmt part.Part model.Stmt (each_step i) (expr_step i) (body_step i) (init_step i) (key_step i) (prop_step i) (stmt_step i) (tail_step i) (args_step i) (bind_step i) (clause_step i) (for_in_step i) (for_step i) (func_step i) (if_step i) (new_step i) (operand_step i) (param_step i) (switch_step i) (part_step i) (try_step i) (layer.Init::Value value)

pub init_of-Binds : (i : Interpretation) (decl : Decl) (binds : Vec Bind Global) → init_of i (in_init.Binds decl binds) ≡ model.BindsInit decl (binds_of (map (bind_of i) binds.items))
init_of-Binds i decl binds = ap (init_of i) (sym (in_init.rolls-Binds decl binds)) ∙ fold-roll-Init model.Each model.Expr (Option model.Body) model.Init model.Key model.Prop model.Stmt model.Tail part.Args part.Bind part.Clause model.Stmt model.Stmt model.Function model.Stmt model.Expr part.Operand part.Param model.Stmt part.Part model.Stmt (each_step i) (expr_step i) (body_step i) (init_step i) (key_step i) (prop_step i) (stmt_step i) (tail_step i) (args_step i) (bind_step i) (clause_step i) (for_in_step i) (for_step i) (func_step i) (if_step i) (new_step i) (operand_step i) (param_step i) (switch_step i) (part_step i) (try_step i) (layer.Init::Binds decl binds)

pub each_of-Target : (i : Interpretation) (value : Expr) → each_of i (in_each.Target value) ≡ model.TargetEach (expr_of i value)
each_of-Target i value = ap (each_of i) (sym (in_each.rolls-Target value)) ∙ fold-roll-Each model.Each model.Expr (Option model.Body) model.Init model.Key model.Prop model.Stmt model.Tail part.Args part.Bind part.Clause model.Stmt model.Stmt model.Function model.Stmt model.Expr part.Operand part.Param model.Stmt part.Part model.Stmt (each_step i) (expr_step i) (body_step i) (init_step i) (key_step i) (prop_step i) (stmt_step i) (tail_step i) (args_step i) (bind_step i) (clause_step i) (for_in_step i) (for_step i) (func_step i) (if_step i) (new_step i) (operand_step i) (param_step i) (switch_step i) (part_step i) (try_step i) (layer.Target value)

pub each_of-Bind : (i : Interpretation) (decl : Decl) (name : Ident) → each_of i (in_each.Bind decl name) ≡ model.BindEach decl (named i name)
each_of-Bind i decl name = ap (each_of i) (sym (in_each.rolls-Bind decl name)) ∙ fold-roll-Each model.Each model.Expr (Option model.Body) model.Init model.Key model.Prop model.Stmt model.Tail part.Args part.Bind part.Clause model.Stmt model.Stmt model.Function model.Stmt model.Expr part.Operand part.Param model.Stmt part.Part model.Stmt (each_step i) (expr_step i) (body_step i) (init_step i) (key_step i) (prop_step i) (stmt_step i) (tail_step i) (args_step i) (bind_step i) (clause_step i) (for_in_step i) (for_step i) (func_step i) (if_step i) (new_step i) (operand_step i) (param_step i) (switch_step i) (part_step i) (try_step i) (layer.Bind decl name)
