-- What each variant of an expression, a property, a key and a part of a chain stands for.
use Rattle.std.proofs.Common.{◌≡◌, ◌∙◌, ℕ, List, [], ◌∷◌, Bool, Option, Some, None, map, option_map, refl, ap, sym}
use Rattle.std.specs.declared.boxed.Box.{Box}
use Rattle.std.specs.declared.vec.Vec.{Vec}
use Rattle.std.specs.declared.alloc.Global.{Global}
use Rattle.script_grammar.specs.declared.tree.Ident.{Ident}
use Rattle.script_grammar.specs.declared.tree.Expr.{Expr}
use Rattle.script_grammar.specs.declared.tree.Key.{Key}
use Rattle.script_grammar.specs.declared.tree.Prop.{Prop}
use Rattle.script_grammar.specs.declared.tree.Tail.{Tail}
use Rattle.script_grammar.specs.declared.tree.Args.{Args}
use Rattle.script_grammar.specs.declared.tree.Func.{Func}
use Rattle.script_grammar.specs.declared.tree.NewExpression.{NewExpression, out-NewExpression}
use Rattle.script_grammar.specs.declared.tree.Operand.{Operand}
use Rattle.script_grammar.specs.declared.tree.TemplatePart.{TemplatePart}
use Rattle.script_grammar.specs.declared.tree.Expr.TheVariants as in_expr
use Rattle.script_grammar.specs.declared.tree.Prop.TheVariants as in_prop
use Rattle.script_grammar.specs.declared.tree.Key.TheVariants as in_key
use Rattle.script_grammar.specs.declared.tree.Tail.TheVariants as in_tail
use Rattle.script_grammar.specs.declared.tree.Each.TheFolds.{fold-roll-Expr, fold-roll-Prop, fold-roll-Key, fold-roll-Tail}
use Rattle.script_grammar.specs.declared.tree.Each.TheOpen as layer
use Rattle.script_grammar.specs.Interpretation.{Interpretation, text_of, named}
use Rattle.script_grammar.specs.Tree as model
use Rattle.script_grammar.specs.TreeLists as part
use Rattle.script_grammar.specs.TreeLists.{exprs_of, maybe_expr_of, items_of, maybe_args_of, operands_of, parts_of, tails_of, props_of, params_of, binds_of, clauses_of, stmts_of, maybe_stmt_of}
use Rattle.script_grammar.proofs.PartEquations.{new_of-fields}
use Rattle.script_grammar.specs.TreeOf.{each_step, expr_of, expr_step, body_step, init_step, key_of, key_step, prop_of, prop_step, stmt_step, tail_of, tail_step, args_of, args_step, bind_step, clause_step, func_of, func_step, operand_of, operand_step, param_step, part_of, part_step, for_in_step, for_step, if_step, new_step, switch_step, try_step, new_of}
use Rattle.script_grammar.specs.declared.tree.Each.TheShapes.{former-Expr-Array-1-at-1}

-- the items of an array, of which some are holes
array_items : (i : Interpretation) (xs : List (Option Expr)) → map (former-Expr-Array-1-at-1.map Expr model.Expr (expr_of i)) xs ≡ map (option_map (expr_of i)) xs
array_items i [] = refl
array_items i (None ∷ xs) = ap (λ ys. None ∷ ys) (array_items i xs)
array_items i (Some x ∷ xs) = ap (λ ys. Some (expr_of i x) ∷ ys) (array_items i xs)

pub expr_of-This : (i : Interpretation) (at : ℕ) → expr_of i (in_expr.This at) ≡ model.This at
expr_of-This i at = ap (expr_of i) (sym (in_expr.rolls-This at)) ∙ fold-roll-Expr model.Each model.Expr (Option model.Body) model.Init model.Key model.Prop model.Stmt model.Tail part.Args part.Bind part.Clause model.Stmt model.Stmt model.Function model.Stmt model.Expr part.Operand part.Param model.Stmt part.Part model.Stmt (each_step i) (expr_step i) (body_step i) (init_step i) (key_step i) (prop_step i) (stmt_step i) (tail_step i) (args_step i) (bind_step i) (clause_step i) (for_in_step i) (for_step i) (func_step i) (if_step i) (new_step i) (operand_step i) (param_step i) (switch_step i) (part_step i) (try_step i) (layer.This at)

pub expr_of-Name : (i : Interpretation) (name : Ident) → expr_of i (in_expr.Name name) ≡ model.Name (named i name)
expr_of-Name i name = ap (expr_of i) (sym (in_expr.rolls-Name name)) ∙ fold-roll-Expr model.Each model.Expr (Option model.Body) model.Init model.Key model.Prop model.Stmt model.Tail part.Args part.Bind part.Clause model.Stmt model.Stmt model.Function model.Stmt model.Expr part.Operand part.Param model.Stmt part.Part model.Stmt (each_step i) (expr_step i) (body_step i) (init_step i) (key_step i) (prop_step i) (stmt_step i) (tail_step i) (args_step i) (bind_step i) (clause_step i) (for_in_step i) (for_step i) (func_step i) (if_step i) (new_step i) (operand_step i) (param_step i) (switch_step i) (part_step i) (try_step i) (layer.Name name)

pub expr_of-Null : (i : Interpretation) (at : ℕ) → expr_of i (in_expr.Null at) ≡ model.Null at
expr_of-Null i at = ap (expr_of i) (sym (in_expr.rolls-Null at)) ∙ fold-roll-Expr model.Each model.Expr (Option model.Body) model.Init model.Key model.Prop model.Stmt model.Tail part.Args part.Bind part.Clause model.Stmt model.Stmt model.Function model.Stmt model.Expr part.Operand part.Param model.Stmt part.Part model.Stmt (each_step i) (expr_step i) (body_step i) (init_step i) (key_step i) (prop_step i) (stmt_step i) (tail_step i) (args_step i) (bind_step i) (clause_step i) (for_in_step i) (for_step i) (func_step i) (if_step i) (new_step i) (operand_step i) (param_step i) (switch_step i) (part_step i) (try_step i) (layer.Null at)

pub expr_of-True : (i : Interpretation) (at : ℕ) → expr_of i (in_expr.True at) ≡ model.True at
expr_of-True i at = ap (expr_of i) (sym (in_expr.rolls-True at)) ∙ fold-roll-Expr model.Each model.Expr (Option model.Body) model.Init model.Key model.Prop model.Stmt model.Tail part.Args part.Bind part.Clause model.Stmt model.Stmt model.Function model.Stmt model.Expr part.Operand part.Param model.Stmt part.Part model.Stmt (each_step i) (expr_step i) (body_step i) (init_step i) (key_step i) (prop_step i) (stmt_step i) (tail_step i) (args_step i) (bind_step i) (clause_step i) (for_in_step i) (for_step i) (func_step i) (if_step i) (new_step i) (operand_step i) (param_step i) (switch_step i) (part_step i) (try_step i) (layer.True at)

pub expr_of-False : (i : Interpretation) (at : ℕ) → expr_of i (in_expr.False at) ≡ model.False at
expr_of-False i at = ap (expr_of i) (sym (in_expr.rolls-False at)) ∙ fold-roll-Expr model.Each model.Expr (Option model.Body) model.Init model.Key model.Prop model.Stmt model.Tail part.Args part.Bind part.Clause model.Stmt model.Stmt model.Function model.Stmt model.Expr part.Operand part.Param model.Stmt part.Part model.Stmt (each_step i) (expr_step i) (body_step i) (init_step i) (key_step i) (prop_step i) (stmt_step i) (tail_step i) (args_step i) (bind_step i) (clause_step i) (for_in_step i) (for_step i) (func_step i) (if_step i) (new_step i) (operand_step i) (param_step i) (switch_step i) (part_step i) (try_step i) (layer.False at)

pub expr_of-Number : (i : Interpretation) (at : ℕ) (value : ℕ) → expr_of i (in_expr.Number at value) ≡ model.Number at value
expr_of-Number i at value = ap (expr_of i) (sym (in_expr.rolls-Number at value)) ∙ fold-roll-Expr model.Each model.Expr (Option model.Body) model.Init model.Key model.Prop model.Stmt model.Tail part.Args part.Bind part.Clause model.Stmt model.Stmt model.Function model.Stmt model.Expr part.Operand part.Param model.Stmt part.Part model.Stmt (each_step i) (expr_step i) (body_step i) (init_step i) (key_step i) (prop_step i) (stmt_step i) (tail_step i) (args_step i) (bind_step i) (clause_step i) (for_in_step i) (for_step i) (func_step i) (if_step i) (new_step i) (operand_step i) (param_step i) (switch_step i) (part_step i) (try_step i) (layer.Expr::Number at value)

pub expr_of-Str : (i : Interpretation) (at : ℕ) (end : ℕ) (atom : ℕ) → expr_of i (in_expr.Str at end atom) ≡ model.Str at end (text_of i atom)
expr_of-Str i at end atom = ap (expr_of i) (sym (in_expr.rolls-Str at end atom)) ∙ fold-roll-Expr model.Each model.Expr (Option model.Body) model.Init model.Key model.Prop model.Stmt model.Tail part.Args part.Bind part.Clause model.Stmt model.Stmt model.Function model.Stmt model.Expr part.Operand part.Param model.Stmt part.Part model.Stmt (each_step i) (expr_step i) (body_step i) (init_step i) (key_step i) (prop_step i) (stmt_step i) (tail_step i) (args_step i) (bind_step i) (clause_step i) (for_in_step i) (for_step i) (func_step i) (if_step i) (new_step i) (operand_step i) (param_step i) (switch_step i) (part_step i) (try_step i) (layer.Expr::Str at end atom)

pub expr_of-Template : (i : Interpretation) (at : ℕ) (first : ℕ) (parts : Vec TemplatePart Global) → expr_of i (in_expr.Template at first parts) ≡ model.Template at (text_of i first) (parts_of (map (part_of i) parts.items))
expr_of-Template i at first parts = ap (expr_of i) (sym (in_expr.rolls-Template at first parts)) ∙ fold-roll-Expr model.Each model.Expr (Option model.Body) model.Init model.Key model.Prop model.Stmt model.Tail part.Args part.Bind part.Clause model.Stmt model.Stmt model.Function model.Stmt model.Expr part.Operand part.Param model.Stmt part.Part model.Stmt (each_step i) (expr_step i) (body_step i) (init_step i) (key_step i) (prop_step i) (stmt_step i) (tail_step i) (args_step i) (bind_step i) (clause_step i) (for_in_step i) (for_step i) (func_step i) (if_step i) (new_step i) (operand_step i) (param_step i) (switch_step i) (part_step i) (try_step i) (layer.Template at first parts)

pub expr_of-Array : (i : Interpretation) (at : ℕ) (items : Vec (Option Expr) Global) (comma : Bool) → expr_of i (in_expr.Array at items comma) ≡ model.Array at (items_of (map (option_map (expr_of i)) items.items)) comma
expr_of-Array i at items comma = ap (expr_of i) (sym (in_expr.rolls-Array at items comma)) ∙ fold-roll-Expr model.Each model.Expr (Option model.Body) model.Init model.Key model.Prop model.Stmt model.Tail part.Args part.Bind part.Clause model.Stmt model.Stmt model.Function model.Stmt model.Expr part.Operand part.Param model.Stmt part.Part model.Stmt (each_step i) (expr_step i) (body_step i) (init_step i) (key_step i) (prop_step i) (stmt_step i) (tail_step i) (args_step i) (bind_step i) (clause_step i) (for_in_step i) (for_step i) (func_step i) (if_step i) (new_step i) (operand_step i) (param_step i) (switch_step i) (part_step i) (try_step i) (layer.Array at items comma) ∙ ap (λ rows. model.Array at (items_of rows) comma) (array_items i items.items)

pub expr_of-Object : (i : Interpretation) (at : ℕ) (props : Vec Prop Global) (comma : Bool) → expr_of i (in_expr.Object at props comma) ≡ model.Object at (props_of (map (prop_of i) props.items)) comma
expr_of-Object i at props comma = ap (expr_of i) (sym (in_expr.rolls-Object at props comma)) ∙ fold-roll-Expr model.Each model.Expr (Option model.Body) model.Init model.Key model.Prop model.Stmt model.Tail part.Args part.Bind part.Clause model.Stmt model.Stmt model.Function model.Stmt model.Expr part.Operand part.Param model.Stmt part.Part model.Stmt (each_step i) (expr_step i) (body_step i) (init_step i) (key_step i) (prop_step i) (stmt_step i) (tail_step i) (args_step i) (bind_step i) (clause_step i) (for_in_step i) (for_step i) (func_step i) (if_step i) (new_step i) (operand_step i) (param_step i) (switch_step i) (part_step i) (try_step i) (layer.Object at props comma)

pub expr_of-Func : (i : Interpretation) (at : ℕ) (func : Box Func Global) → expr_of i (in_expr.Func at func) ≡ model.Func at (func_of i func.value)
expr_of-Func i at func = ap (expr_of i) (sym (in_expr.rolls-Func at func)) ∙ fold-roll-Expr model.Each model.Expr (Option model.Body) model.Init model.Key model.Prop model.Stmt model.Tail part.Args part.Bind part.Clause model.Stmt model.Stmt model.Function model.Stmt model.Expr part.Operand part.Param model.Stmt part.Part model.Stmt (each_step i) (expr_step i) (body_step i) (init_step i) (key_step i) (prop_step i) (stmt_step i) (tail_step i) (args_step i) (bind_step i) (clause_step i) (for_in_step i) (for_step i) (func_step i) (if_step i) (new_step i) (operand_step i) (param_step i) (switch_step i) (part_step i) (try_step i) (layer.Expr::Func at func)

pub expr_of-Paren : (i : Interpretation) (at : ℕ) (inner : Box Expr Global) → expr_of i (in_expr.Paren at inner) ≡ model.Paren at (expr_of i inner.value)
expr_of-Paren i at inner = ap (expr_of i) (sym (in_expr.rolls-Paren at inner)) ∙ fold-roll-Expr model.Each model.Expr (Option model.Body) model.Init model.Key model.Prop model.Stmt model.Tail part.Args part.Bind part.Clause model.Stmt model.Stmt model.Function model.Stmt model.Expr part.Operand part.Param model.Stmt part.Part model.Stmt (each_step i) (expr_step i) (body_step i) (init_step i) (key_step i) (prop_step i) (stmt_step i) (tail_step i) (args_step i) (bind_step i) (clause_step i) (for_in_step i) (for_step i) (func_step i) (if_step i) (new_step i) (operand_step i) (param_step i) (switch_step i) (part_step i) (try_step i) (layer.Paren at inner)

pub expr_of-Chain : (i : Interpretation) (head : Box Expr Global) (tails : Vec Tail Global) → expr_of i (in_expr.Chain head tails) ≡ model.Chain (expr_of i head.value) (tails_of (map (tail_of i) tails.items))
expr_of-Chain i head tails = ap (expr_of i) (sym (in_expr.rolls-Chain head tails)) ∙ fold-roll-Expr model.Each model.Expr (Option model.Body) model.Init model.Key model.Prop model.Stmt model.Tail part.Args part.Bind part.Clause model.Stmt model.Stmt model.Function model.Stmt model.Expr part.Operand part.Param model.Stmt part.Part model.Stmt (each_step i) (expr_step i) (body_step i) (init_step i) (key_step i) (prop_step i) (stmt_step i) (tail_step i) (args_step i) (bind_step i) (clause_step i) (for_in_step i) (for_step i) (func_step i) (if_step i) (new_step i) (operand_step i) (param_step i) (switch_step i) (part_step i) (try_step i) (layer.Chain head tails)

pub expr_of-New : (i : Interpretation) (boxed : Box NewExpression Global) → expr_of i (in_expr.New boxed) ≡ model.New (out-NewExpression boxed.value).at (expr_of i (out-NewExpression boxed.value).callee) (maybe_args_of (option_map (args_of i) (out-NewExpression boxed.value).args))
expr_of-New i boxed = ap (expr_of i) (sym (in_expr.rolls-New boxed)) ∙ (fold-roll-Expr model.Each model.Expr (Option model.Body) model.Init model.Key model.Prop model.Stmt model.Tail part.Args part.Bind part.Clause model.Stmt model.Stmt model.Function model.Stmt model.Expr part.Operand part.Param model.Stmt part.Part model.Stmt (each_step i) (expr_step i) (body_step i) (init_step i) (key_step i) (prop_step i) (stmt_step i) (tail_step i) (args_step i) (bind_step i) (clause_step i) (for_in_step i) (for_step i) (func_step i) (if_step i) (new_step i) (operand_step i) (param_step i) (switch_step i) (part_step i) (try_step i) (layer.New boxed) ∙ new_of-fields i boxed.value)

pub expr_of-Unary : (i : Interpretation) (at : ℕ) (op : ℕ) (of : Box Expr Global) (is_word : Bool) → expr_of i (in_expr.Unary at op of is_word) ≡ model.Unary at op (expr_of i of.value) is_word
expr_of-Unary i at op of is_word = ap (expr_of i) (sym (in_expr.rolls-Unary at op of is_word)) ∙ fold-roll-Expr model.Each model.Expr (Option model.Body) model.Init model.Key model.Prop model.Stmt model.Tail part.Args part.Bind part.Clause model.Stmt model.Stmt model.Function model.Stmt model.Expr part.Operand part.Param model.Stmt part.Part model.Stmt (each_step i) (expr_step i) (body_step i) (init_step i) (key_step i) (prop_step i) (stmt_step i) (tail_step i) (args_step i) (bind_step i) (clause_step i) (for_in_step i) (for_step i) (func_step i) (if_step i) (new_step i) (operand_step i) (param_step i) (switch_step i) (part_step i) (try_step i) (layer.Unary at op of is_word)

pub expr_of-Update : (i : Interpretation) (at : ℕ) (op : ℕ) (prefix : Bool) (of : Box Expr Global) → expr_of i (in_expr.Update at op prefix of) ≡ model.Update at op prefix (expr_of i of.value)
expr_of-Update i at op prefix of = ap (expr_of i) (sym (in_expr.rolls-Update at op prefix of)) ∙ fold-roll-Expr model.Each model.Expr (Option model.Body) model.Init model.Key model.Prop model.Stmt model.Tail part.Args part.Bind part.Clause model.Stmt model.Stmt model.Function model.Stmt model.Expr part.Operand part.Param model.Stmt part.Part model.Stmt (each_step i) (expr_step i) (body_step i) (init_step i) (key_step i) (prop_step i) (stmt_step i) (tail_step i) (args_step i) (bind_step i) (clause_step i) (for_in_step i) (for_step i) (func_step i) (if_step i) (new_step i) (operand_step i) (param_step i) (switch_step i) (part_step i) (try_step i) (layer.Update at op prefix of)

pub expr_of-Binary : (i : Interpretation) (first : Box Expr Global) (rest : Vec Operand Global) → expr_of i (in_expr.Binary first rest) ≡ model.Binary (expr_of i first.value) (operands_of (map (operand_of i) rest.items))
expr_of-Binary i first rest = ap (expr_of i) (sym (in_expr.rolls-Binary first rest)) ∙ fold-roll-Expr model.Each model.Expr (Option model.Body) model.Init model.Key model.Prop model.Stmt model.Tail part.Args part.Bind part.Clause model.Stmt model.Stmt model.Function model.Stmt model.Expr part.Operand part.Param model.Stmt part.Part model.Stmt (each_step i) (expr_step i) (body_step i) (init_step i) (key_step i) (prop_step i) (stmt_step i) (tail_step i) (args_step i) (bind_step i) (clause_step i) (for_in_step i) (for_step i) (func_step i) (if_step i) (new_step i) (operand_step i) (param_step i) (switch_step i) (part_step i) (try_step i) (layer.Binary first rest)

pub expr_of-Cond : (i : Interpretation) (test : Box Expr Global) (then_part : Box Expr Global) (else_part : Box Expr Global) → expr_of i (in_expr.Cond test then_part else_part) ≡ model.Cond (expr_of i test.value) (expr_of i then_part.value) (expr_of i else_part.value)
expr_of-Cond i test then_part else_part = ap (expr_of i) (sym (in_expr.rolls-Cond test then_part else_part)) ∙ fold-roll-Expr model.Each model.Expr (Option model.Body) model.Init model.Key model.Prop model.Stmt model.Tail part.Args part.Bind part.Clause model.Stmt model.Stmt model.Function model.Stmt model.Expr part.Operand part.Param model.Stmt part.Part model.Stmt (each_step i) (expr_step i) (body_step i) (init_step i) (key_step i) (prop_step i) (stmt_step i) (tail_step i) (args_step i) (bind_step i) (clause_step i) (for_in_step i) (for_step i) (func_step i) (if_step i) (new_step i) (operand_step i) (param_step i) (switch_step i) (part_step i) (try_step i) (layer.Cond test then_part else_part)

pub expr_of-Assign : (i : Interpretation) (op : ℕ) (target : Box Expr Global) (value : Box Expr Global) → expr_of i (in_expr.Assign op target value) ≡ model.Assign op (expr_of i target.value) (expr_of i value.value)
expr_of-Assign i op target value = ap (expr_of i) (sym (in_expr.rolls-Assign op target value)) ∙ fold-roll-Expr model.Each model.Expr (Option model.Body) model.Init model.Key model.Prop model.Stmt model.Tail part.Args part.Bind part.Clause model.Stmt model.Stmt model.Function model.Stmt model.Expr part.Operand part.Param model.Stmt part.Part model.Stmt (each_step i) (expr_step i) (body_step i) (init_step i) (key_step i) (prop_step i) (stmt_step i) (tail_step i) (args_step i) (bind_step i) (clause_step i) (for_in_step i) (for_step i) (func_step i) (if_step i) (new_step i) (operand_step i) (param_step i) (switch_step i) (part_step i) (try_step i) (layer.Assign op target value)

pub expr_of-Comma : (i : Interpretation) (items : Vec Expr Global) → expr_of i (in_expr.Comma items) ≡ model.Comma (exprs_of (map (expr_of i) items.items))
expr_of-Comma i items = ap (expr_of i) (sym (in_expr.rolls-Comma items)) ∙ fold-roll-Expr model.Each model.Expr (Option model.Body) model.Init model.Key model.Prop model.Stmt model.Tail part.Args part.Bind part.Clause model.Stmt model.Stmt model.Function model.Stmt model.Expr part.Operand part.Param model.Stmt part.Part model.Stmt (each_step i) (expr_step i) (body_step i) (init_step i) (key_step i) (prop_step i) (stmt_step i) (tail_step i) (args_step i) (bind_step i) (clause_step i) (for_in_step i) (for_step i) (func_step i) (if_step i) (new_step i) (operand_step i) (param_step i) (switch_step i) (part_step i) (try_step i) (layer.Comma items)

pub prop_of-Short : (i : Interpretation) (name : Ident) → prop_of i (in_prop.Short name) ≡ model.Short (named i name)
prop_of-Short i name = ap (prop_of i) (sym (in_prop.rolls-Short name)) ∙ fold-roll-Prop model.Each model.Expr (Option model.Body) model.Init model.Key model.Prop model.Stmt model.Tail part.Args part.Bind part.Clause model.Stmt model.Stmt model.Function model.Stmt model.Expr part.Operand part.Param model.Stmt part.Part model.Stmt (each_step i) (expr_step i) (body_step i) (init_step i) (key_step i) (prop_step i) (stmt_step i) (tail_step i) (args_step i) (bind_step i) (clause_step i) (for_in_step i) (for_step i) (func_step i) (if_step i) (new_step i) (operand_step i) (param_step i) (switch_step i) (part_step i) (try_step i) (layer.Prop::Short name)

pub prop_of-Pair : (i : Interpretation) (key : Key) (value : Expr) → prop_of i (in_prop.Pair key value) ≡ model.Pair (key_of i key) (expr_of i value)
prop_of-Pair i key value = ap (prop_of i) (sym (in_prop.rolls-Pair key value)) ∙ fold-roll-Prop model.Each model.Expr (Option model.Body) model.Init model.Key model.Prop model.Stmt model.Tail part.Args part.Bind part.Clause model.Stmt model.Stmt model.Function model.Stmt model.Expr part.Operand part.Param model.Stmt part.Part model.Stmt (each_step i) (expr_step i) (body_step i) (init_step i) (key_step i) (prop_step i) (stmt_step i) (tail_step i) (args_step i) (bind_step i) (clause_step i) (for_in_step i) (for_step i) (func_step i) (if_step i) (new_step i) (operand_step i) (param_step i) (switch_step i) (part_step i) (try_step i) (layer.Pair key value)

pub prop_of-Method : (i : Interpretation) (key : Key) (func : Box Func Global) → prop_of i (in_prop.Method key func) ≡ model.Method (key_of i key) (func_of i func.value)
prop_of-Method i key func = ap (prop_of i) (sym (in_prop.rolls-Method key func)) ∙ fold-roll-Prop model.Each model.Expr (Option model.Body) model.Init model.Key model.Prop model.Stmt model.Tail part.Args part.Bind part.Clause model.Stmt model.Stmt model.Function model.Stmt model.Expr part.Operand part.Param model.Stmt part.Part model.Stmt (each_step i) (expr_step i) (body_step i) (init_step i) (key_step i) (prop_step i) (stmt_step i) (tail_step i) (args_step i) (bind_step i) (clause_step i) (for_in_step i) (for_step i) (func_step i) (if_step i) (new_step i) (operand_step i) (param_step i) (switch_step i) (part_step i) (try_step i) (layer.Method key func)

pub prop_of-Get : (i : Interpretation) (key : Key) (func : Box Func Global) → prop_of i (in_prop.Get key func) ≡ model.Get (key_of i key) (func_of i func.value)
prop_of-Get i key func = ap (prop_of i) (sym (in_prop.rolls-Get key func)) ∙ fold-roll-Prop model.Each model.Expr (Option model.Body) model.Init model.Key model.Prop model.Stmt model.Tail part.Args part.Bind part.Clause model.Stmt model.Stmt model.Function model.Stmt model.Expr part.Operand part.Param model.Stmt part.Part model.Stmt (each_step i) (expr_step i) (body_step i) (init_step i) (key_step i) (prop_step i) (stmt_step i) (tail_step i) (args_step i) (bind_step i) (clause_step i) (for_in_step i) (for_step i) (func_step i) (if_step i) (new_step i) (operand_step i) (param_step i) (switch_step i) (part_step i) (try_step i) (layer.Get key func)

pub prop_of-Set : (i : Interpretation) (key : Key) (func : Box Func Global) → prop_of i (in_prop.Set key func) ≡ model.Set (key_of i key) (func_of i func.value)
prop_of-Set i key func = ap (prop_of i) (sym (in_prop.rolls-Set key func)) ∙ fold-roll-Prop model.Each model.Expr (Option model.Body) model.Init model.Key model.Prop model.Stmt model.Tail part.Args part.Bind part.Clause model.Stmt model.Stmt model.Function model.Stmt model.Expr part.Operand part.Param model.Stmt part.Part model.Stmt (each_step i) (expr_step i) (body_step i) (init_step i) (key_step i) (prop_step i) (stmt_step i) (tail_step i) (args_step i) (bind_step i) (clause_step i) (for_in_step i) (for_step i) (func_step i) (if_step i) (new_step i) (operand_step i) (param_step i) (switch_step i) (part_step i) (try_step i) (layer.Set key func)

pub key_of-Word : (i : Interpretation) (name : Ident) → key_of i (in_key.Word name) ≡ model.WordKey (named i name)
key_of-Word i name = ap (key_of i) (sym (in_key.rolls-Word name)) ∙ fold-roll-Key model.Each model.Expr (Option model.Body) model.Init model.Key model.Prop model.Stmt model.Tail part.Args part.Bind part.Clause model.Stmt model.Stmt model.Function model.Stmt model.Expr part.Operand part.Param model.Stmt part.Part model.Stmt (each_step i) (expr_step i) (body_step i) (init_step i) (key_step i) (prop_step i) (stmt_step i) (tail_step i) (args_step i) (bind_step i) (clause_step i) (for_in_step i) (for_step i) (func_step i) (if_step i) (new_step i) (operand_step i) (param_step i) (switch_step i) (part_step i) (try_step i) (layer.Word name)

pub key_of-Str : (i : Interpretation) (name : Ident) → key_of i (in_key.Str name) ≡ model.StrKey (named i name)
key_of-Str i name = ap (key_of i) (sym (in_key.rolls-Str name)) ∙ fold-roll-Key model.Each model.Expr (Option model.Body) model.Init model.Key model.Prop model.Stmt model.Tail part.Args part.Bind part.Clause model.Stmt model.Stmt model.Function model.Stmt model.Expr part.Operand part.Param model.Stmt part.Part model.Stmt (each_step i) (expr_step i) (body_step i) (init_step i) (key_step i) (prop_step i) (stmt_step i) (tail_step i) (args_step i) (bind_step i) (clause_step i) (for_in_step i) (for_step i) (func_step i) (if_step i) (new_step i) (operand_step i) (param_step i) (switch_step i) (part_step i) (try_step i) (layer.Key::Str name)

pub key_of-Number : (i : Interpretation) (at : ℕ) (value : ℕ) → key_of i (in_key.Number at value) ≡ model.NumberKey at value
key_of-Number i at value = ap (key_of i) (sym (in_key.rolls-Number at value)) ∙ fold-roll-Key model.Each model.Expr (Option model.Body) model.Init model.Key model.Prop model.Stmt model.Tail part.Args part.Bind part.Clause model.Stmt model.Stmt model.Function model.Stmt model.Expr part.Operand part.Param model.Stmt part.Part model.Stmt (each_step i) (expr_step i) (body_step i) (init_step i) (key_step i) (prop_step i) (stmt_step i) (tail_step i) (args_step i) (bind_step i) (clause_step i) (for_in_step i) (for_step i) (func_step i) (if_step i) (new_step i) (operand_step i) (param_step i) (switch_step i) (part_step i) (try_step i) (layer.Key::Number at value)

pub key_of-Computed : (i : Interpretation) (value : Expr) → key_of i (in_key.Computed value) ≡ model.ComputedKey (expr_of i value)
key_of-Computed i value = ap (key_of i) (sym (in_key.rolls-Computed value)) ∙ fold-roll-Key model.Each model.Expr (Option model.Body) model.Init model.Key model.Prop model.Stmt model.Tail part.Args part.Bind part.Clause model.Stmt model.Stmt model.Function model.Stmt model.Expr part.Operand part.Param model.Stmt part.Part model.Stmt (each_step i) (expr_step i) (body_step i) (init_step i) (key_step i) (prop_step i) (stmt_step i) (tail_step i) (args_step i) (bind_step i) (clause_step i) (for_in_step i) (for_step i) (func_step i) (if_step i) (new_step i) (operand_step i) (param_step i) (switch_step i) (part_step i) (try_step i) (layer.Computed value)

pub tail_of-Dot : (i : Interpretation) (atom : ℕ) → tail_of i (in_tail.Dot atom) ≡ model.Dot (text_of i atom)
tail_of-Dot i atom = ap (tail_of i) (sym (in_tail.rolls-Dot atom)) ∙ fold-roll-Tail model.Each model.Expr (Option model.Body) model.Init model.Key model.Prop model.Stmt model.Tail part.Args part.Bind part.Clause model.Stmt model.Stmt model.Function model.Stmt model.Expr part.Operand part.Param model.Stmt part.Part model.Stmt (each_step i) (expr_step i) (body_step i) (init_step i) (key_step i) (prop_step i) (stmt_step i) (tail_step i) (args_step i) (bind_step i) (clause_step i) (for_in_step i) (for_step i) (func_step i) (if_step i) (new_step i) (operand_step i) (param_step i) (switch_step i) (part_step i) (try_step i) (layer.Dot atom)

pub tail_of-Index : (i : Interpretation) (value : Expr) → tail_of i (in_tail.Index value) ≡ model.Index (expr_of i value)
tail_of-Index i value = ap (tail_of i) (sym (in_tail.rolls-Index value)) ∙ fold-roll-Tail model.Each model.Expr (Option model.Body) model.Init model.Key model.Prop model.Stmt model.Tail part.Args part.Bind part.Clause model.Stmt model.Stmt model.Function model.Stmt model.Expr part.Operand part.Param model.Stmt part.Part model.Stmt (each_step i) (expr_step i) (body_step i) (init_step i) (key_step i) (prop_step i) (stmt_step i) (tail_step i) (args_step i) (bind_step i) (clause_step i) (for_in_step i) (for_step i) (func_step i) (if_step i) (new_step i) (operand_step i) (param_step i) (switch_step i) (part_step i) (try_step i) (layer.Index value)

pub tail_of-Call : (i : Interpretation) (args : Args) → tail_of i (in_tail.Call args) ≡ model.Call (exprs_of (args_of i args).items) (args_of i args).comma
tail_of-Call i args = ap (tail_of i) (sym (in_tail.rolls-Call args)) ∙ fold-roll-Tail model.Each model.Expr (Option model.Body) model.Init model.Key model.Prop model.Stmt model.Tail part.Args part.Bind part.Clause model.Stmt model.Stmt model.Function model.Stmt model.Expr part.Operand part.Param model.Stmt part.Part model.Stmt (each_step i) (expr_step i) (body_step i) (init_step i) (key_step i) (prop_step i) (stmt_step i) (tail_step i) (args_step i) (bind_step i) (clause_step i) (for_in_step i) (for_step i) (func_step i) (if_step i) (new_step i) (operand_step i) (param_step i) (switch_step i) (part_step i) (try_step i) (layer.Call args)
