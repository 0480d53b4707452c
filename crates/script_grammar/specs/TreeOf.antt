-- What a tree of the code stands for under an interpretation: the tree of the model with a text for each atom and a body
-- for each function that was passed over. This is this project's own choice. Each function is the generated fold of the
-- code's types, made of one step for each type; a step has one equation for each variant.
use Rattle.std.specs.Prelude.{Option, Some, None, option_map, unwrap_or}
use Rattle.std.specs.declared.boxed.Box.{Box}
use Rattle.std.specs.declared.alloc.Global.{Global}
use Rattle.script_grammar.specs.declared.tree.Each.{Each}
use Rattle.script_grammar.specs.declared.tree.Expr.{Expr}
use Rattle.script_grammar.specs.declared.tree.FuncBody.{FuncBody}
use Rattle.script_grammar.specs.declared.tree.Init.{Init}
use Rattle.script_grammar.specs.declared.tree.Key.{Key}
use Rattle.script_grammar.specs.declared.tree.Prop.{Prop}
use Rattle.script_grammar.specs.declared.tree.Stmt.{Stmt}
use Rattle.script_grammar.specs.declared.tree.Tail.{Tail}
use Rattle.script_grammar.specs.declared.tree.Args.{Args}
use Rattle.script_grammar.specs.declared.tree.Bind.{Bind}
use Rattle.script_grammar.specs.declared.tree.Clause.{Clause}
use Rattle.script_grammar.specs.declared.tree.ForInStatement.{ForInStatement}
use Rattle.script_grammar.specs.declared.tree.ForStatement.{ForStatement}
use Rattle.script_grammar.specs.declared.tree.Func.{Func}
use Rattle.script_grammar.specs.declared.tree.IfStatement.{IfStatement}
use Rattle.script_grammar.specs.declared.tree.NewExpression.{NewExpression}
use Rattle.script_grammar.specs.declared.tree.Operand.{Operand}
use Rattle.script_grammar.specs.declared.tree.Param.{Param}
use Rattle.script_grammar.specs.declared.tree.SwitchStatement.{SwitchStatement}
use Rattle.script_grammar.specs.declared.tree.TemplatePart.{TemplatePart}
use Rattle.script_grammar.specs.declared.tree.TryStatement.{TryStatement}
use Rattle.script_grammar.specs.declared.tree.Each.TheOpen.{Each-F, Expr-F, FuncBody-F, Init-F, Key-F, Prop-F, Stmt-F, Tail-F, Args-F}
use Rattle.script_grammar.specs.declared.tree.Each.TheOpen.{Bind-F, Clause-F, ForInStatement-F, ForStatement-F, Func-F, IfStatement-F}
use Rattle.script_grammar.specs.declared.tree.Each.TheOpen.{NewExpression-F, Operand-F, Param-F, SwitchStatement-F, TemplatePart-F}
use Rattle.script_grammar.specs.declared.tree.Each.TheOpen.{TryStatement-F}
use Rattle.script_grammar.specs.declared.tree.Each.TheOpen as layer
use Rattle.script_grammar.specs.declared.tree.Each.TheFolds.{fold-Each, fold-Expr, fold-FuncBody, fold-Init, fold-Key, fold-Prop}
use Rattle.script_grammar.specs.declared.tree.Each.TheFolds.{fold-Stmt, fold-Tail, fold-Args, fold-Bind, fold-Clause, fold-ForInStatement}
use Rattle.script_grammar.specs.declared.tree.Each.TheFolds.{fold-ForStatement, fold-Func, fold-IfStatement, fold-NewExpression}
use Rattle.script_grammar.specs.declared.tree.Each.TheFolds.{fold-Operand, fold-Param, fold-SwitchStatement, fold-TemplatePart}
use Rattle.script_grammar.specs.declared.tree.Each.TheFolds.{fold-TryStatement}
use Rattle.script_grammar.specs.Interpretation.{Interpretation, text_of, named, maybe_named}
use Rattle.script_grammar.specs.Tree as model
use Rattle.script_grammar.specs.TreeLists as part
use Rattle.script_grammar.specs.TreeLists.{exprs_of, maybe_expr_of, items_of, maybe_args_of, operands_of, parts_of, tails_of, props_of}
use Rattle.script_grammar.specs.TreeLists.{params_of, binds_of, clauses_of, stmts_of, maybe_stmt_of}

-- A layer of each type: the type's fields, with what it stands for in place of each child. A function's body stands for
-- none where it was passed over.
abbrev pub EachLayer : Type 0
EachLayer = Each-F model.Each model.Expr
    (Option model.Body) model.Init model.Key model.Prop model.Stmt model.Tail part.Args part.Bind part.Clause model.Stmt model.Stmt
    model.Function model.Stmt model.Expr part.Operand part.Param model.Stmt part.Part model.Stmt

abbrev pub ExprLayer : Type 0
ExprLayer = Expr-F model.Each model.Expr
    (Option model.Body) model.Init model.Key model.Prop model.Stmt model.Tail part.Args part.Bind part.Clause model.Stmt model.Stmt
    model.Function model.Stmt model.Expr part.Operand part.Param model.Stmt part.Part model.Stmt

abbrev pub FuncBodyLayer : Type 0
FuncBodyLayer = FuncBody-F model.Each model.Expr
    (Option model.Body) model.Init model.Key model.Prop model.Stmt model.Tail part.Args part.Bind part.Clause model.Stmt model.Stmt
    model.Function model.Stmt model.Expr part.Operand part.Param model.Stmt part.Part model.Stmt

abbrev pub InitLayer : Type 0
InitLayer = Init-F model.Each model.Expr
    (Option model.Body) model.Init model.Key model.Prop model.Stmt model.Tail part.Args part.Bind part.Clause model.Stmt model.Stmt
    model.Function model.Stmt model.Expr part.Operand part.Param model.Stmt part.Part model.Stmt

abbrev pub KeyLayer : Type 0
KeyLayer = Key-F model.Each model.Expr
    (Option model.Body) model.Init model.Key model.Prop model.Stmt model.Tail part.Args part.Bind part.Clause model.Stmt model.Stmt
    model.Function model.Stmt model.Expr part.Operand part.Param model.Stmt part.Part model.Stmt

abbrev pub PropLayer : Type 0
PropLayer = Prop-F model.Each model.Expr
    (Option model.Body) model.Init model.Key model.Prop model.Stmt model.Tail part.Args part.Bind part.Clause model.Stmt model.Stmt
    model.Function model.Stmt model.Expr part.Operand part.Param model.Stmt part.Part model.Stmt

abbrev pub StmtLayer : Type 0
StmtLayer = Stmt-F model.Each model.Expr
    (Option model.Body) model.Init model.Key model.Prop model.Stmt model.Tail part.Args part.Bind part.Clause model.Stmt model.Stmt
    model.Function model.Stmt model.Expr part.Operand part.Param model.Stmt part.Part model.Stmt

abbrev pub TailLayer : Type 0
TailLayer = Tail-F model.Each model.Expr
    (Option model.Body) model.Init model.Key model.Prop model.Stmt model.Tail part.Args part.Bind part.Clause model.Stmt model.Stmt
    model.Function model.Stmt model.Expr part.Operand part.Param model.Stmt part.Part model.Stmt

abbrev pub ArgsLayer : Type 0
ArgsLayer = Args-F model.Each model.Expr
    (Option model.Body) model.Init model.Key model.Prop model.Stmt model.Tail part.Args part.Bind part.Clause model.Stmt model.Stmt
    model.Function model.Stmt model.Expr part.Operand part.Param model.Stmt part.Part model.Stmt

abbrev pub BindLayer : Type 0
BindLayer = Bind-F model.Each model.Expr
    (Option model.Body) model.Init model.Key model.Prop model.Stmt model.Tail part.Args part.Bind part.Clause model.Stmt model.Stmt
    model.Function model.Stmt model.Expr part.Operand part.Param model.Stmt part.Part model.Stmt

abbrev pub ClauseLayer : Type 0
ClauseLayer = Clause-F model.Each model.Expr
    (Option model.Body) model.Init model.Key model.Prop model.Stmt model.Tail part.Args part.Bind part.Clause model.Stmt model.Stmt
    model.Function model.Stmt model.Expr part.Operand part.Param model.Stmt part.Part model.Stmt

abbrev pub FuncLayer : Type 0
FuncLayer = Func-F model.Each model.Expr
    (Option model.Body) model.Init model.Key model.Prop model.Stmt model.Tail part.Args part.Bind part.Clause model.Stmt model.Stmt
    model.Function model.Stmt model.Expr part.Operand part.Param model.Stmt part.Part model.Stmt

abbrev pub OperandLayer : Type 0
OperandLayer = Operand-F model.Each model.Expr
    (Option model.Body) model.Init model.Key model.Prop model.Stmt model.Tail part.Args part.Bind part.Clause model.Stmt model.Stmt
    model.Function model.Stmt model.Expr part.Operand part.Param model.Stmt part.Part model.Stmt

abbrev pub ParamLayer : Type 0
ParamLayer = Param-F model.Each model.Expr
    (Option model.Body) model.Init model.Key model.Prop model.Stmt model.Tail part.Args part.Bind part.Clause model.Stmt model.Stmt
    model.Function model.Stmt model.Expr part.Operand part.Param model.Stmt part.Part model.Stmt

abbrev pub TemplatePartLayer : Type 0
TemplatePartLayer = TemplatePart-F model.Each model.Expr
    (Option model.Body) model.Init model.Key model.Prop model.Stmt model.Tail part.Args part.Bind part.Clause model.Stmt model.Stmt
    model.Function model.Stmt model.Expr part.Operand part.Param model.Stmt part.Part model.Stmt

abbrev pub ForInStatementLayer : Type 0
ForInStatementLayer = ForInStatement-F model.Each model.Expr
    (Option model.Body) model.Init model.Key model.Prop model.Stmt model.Tail part.Args part.Bind part.Clause model.Stmt model.Stmt
    model.Function model.Stmt model.Expr part.Operand part.Param model.Stmt part.Part model.Stmt

abbrev pub ForStatementLayer : Type 0
ForStatementLayer = ForStatement-F model.Each model.Expr
    (Option model.Body) model.Init model.Key model.Prop model.Stmt model.Tail part.Args part.Bind part.Clause model.Stmt model.Stmt
    model.Function model.Stmt model.Expr part.Operand part.Param model.Stmt part.Part model.Stmt

abbrev pub IfStatementLayer : Type 0
IfStatementLayer = IfStatement-F model.Each model.Expr
    (Option model.Body) model.Init model.Key model.Prop model.Stmt model.Tail part.Args part.Bind part.Clause model.Stmt model.Stmt
    model.Function model.Stmt model.Expr part.Operand part.Param model.Stmt part.Part model.Stmt

abbrev pub NewExpressionLayer : Type 0
NewExpressionLayer = NewExpression-F model.Each model.Expr
    (Option model.Body) model.Init model.Key model.Prop model.Stmt model.Tail part.Args part.Bind part.Clause model.Stmt model.Stmt
    model.Function model.Stmt model.Expr part.Operand part.Param model.Stmt part.Part model.Stmt

abbrev pub SwitchStatementLayer : Type 0
SwitchStatementLayer = SwitchStatement-F model.Each model.Expr
    (Option model.Body) model.Init model.Key model.Prop model.Stmt model.Tail part.Args part.Bind part.Clause model.Stmt model.Stmt
    model.Function model.Stmt model.Expr part.Operand part.Param model.Stmt part.Part model.Stmt

abbrev pub TryStatementLayer : Type 0
TryStatementLayer = TryStatement-F model.Each model.Expr
    (Option model.Body) model.Init model.Key model.Prop model.Stmt model.Tail part.Args part.Bind part.Clause model.Stmt model.Stmt
    model.Function model.Stmt model.Expr part.Operand part.Param model.Stmt part.Part model.Stmt

abbrev pub unboxed : {A : Type 0} → Box A Global → A
unboxed boxed = boxed.value

abbrev pub each_step : Interpretation → EachLayer → model.Each
each_step i (layer.Target value) = model.TargetEach value
each_step i (layer.Bind decl name) = model.BindEach decl (named i name)

abbrev pub expr_step : Interpretation → ExprLayer → model.Expr
expr_step i (layer.This at) = model.This at
expr_step i (layer.Name name) = model.Name (named i name)
expr_step i (layer.Null at) = model.Null at
expr_step i (layer.True at) = model.True at
expr_step i (layer.False at) = model.False at
expr_step i (layer.Expr::Number at value) = model.Number at value
expr_step i (layer.Expr::Str at end atom) = model.Str at end (text_of i atom)
expr_step i (layer.Template at first parts) = model.Template at (text_of i first) (parts_of parts.items)
expr_step i (layer.Array at items comma) = model.Array at (items_of items.items) comma
expr_step i (layer.Object at props comma) = model.Object at (props_of props.items) comma
expr_step i (layer.Expr::Func at body) = model.Func at body.value
expr_step i (layer.Paren at inner) = model.Paren at inner.value
expr_step i (layer.Chain head tails) = model.Chain head.value (tails_of tails.items)
expr_step i (layer.New new) = new.value
expr_step i (layer.Unary at op of is_word) = model.Unary at op of.value is_word
expr_step i (layer.Update at op prefix of) = model.Update at op prefix of.value
expr_step i (layer.Binary first rest) = model.Binary first.value (operands_of rest.items)
expr_step i (layer.Cond test then_part else_part) = model.Cond test.value then_part.value else_part.value
expr_step i (layer.Assign op target value) = model.Assign op target.value value.value
expr_step i (layer.Comma items) = model.Comma (exprs_of items.items)

abbrev pub body_step : Interpretation → FuncBodyLayer → Option model.Body
body_step i (layer.Braced items) = Some (model.BracedBody (stmts_of items.items))
body_step i (layer.FuncBody::Short value) = Some (model.ShortBody value.value)
body_step i (layer.Passed) = None

abbrev pub init_step : Interpretation → InitLayer → model.Init
init_step i (layer.Nothing) = model.NoInit
init_step i (layer.Init::Value value) = model.ValueInit value
init_step i (layer.Init::Binds decl binds) = model.BindsInit decl (binds_of binds.items)

abbrev pub key_step : Interpretation → KeyLayer → model.Key
key_step i (layer.Word name) = model.WordKey (named i name)
key_step i (layer.Key::Str name) = model.StrKey (named i name)
key_step i (layer.Key::Number at value) = model.NumberKey at value
key_step i (layer.Computed value) = model.ComputedKey value

abbrev pub prop_step : Interpretation → PropLayer → model.Prop
prop_step i (layer.Prop::Short name) = model.Short (named i name)
prop_step i (layer.Pair key value) = model.Pair key value
prop_step i (layer.Method key body) = model.Method key body.value
prop_step i (layer.Get key body) = model.Get key body.value
prop_step i (layer.Set key body) = model.Set key body.value

abbrev pub stmt_step : Interpretation → StmtLayer → model.Stmt
stmt_step i (layer.Block items) = model.Block (stmts_of items.items)
stmt_step i (layer.Empty) = model.Empty
stmt_step i (layer.Debugger semi) = model.Debugger semi
stmt_step i (layer.Stmt::Binds decl binds semi) = model.Binding decl (binds_of binds.items) semi
stmt_step i (layer.Stmt::Value value semi) = model.Value value semi
stmt_step i (layer.If statement) = statement.value
stmt_step i (layer.Do semi body test) = model.Do body.value test semi
stmt_step i (layer.While test body) = model.While test body.value
stmt_step i (layer.For statement) = statement.value
stmt_step i (layer.ForIn statement) = statement.value
stmt_step i (layer.Continue at label semi) = model.Continue at (maybe_named i label) semi
stmt_step i (layer.Break at label semi) = model.Break at (maybe_named i label) semi
stmt_step i (layer.Return semi value) = model.Return (maybe_expr_of value) semi
stmt_step i (layer.Throw value semi) = model.Throw value semi
stmt_step i (layer.Switch statement) = statement.value
stmt_step i (layer.Label name body) = model.Label (named i name) body.value
stmt_step i (layer.Try statement) = statement.value
stmt_step i (layer.Stmt::Func body) = model.Declared body.value

abbrev pub tail_step : Interpretation → TailLayer → model.Tail
tail_step i (layer.Dot atom) = model.Dot (text_of i atom)
tail_step i (layer.Index value) = model.Index value
tail_step i (layer.Call row) = model.Call (exprs_of row.items) row.comma

abbrev pub args_step : Interpretation → ArgsLayer → part.Args
args_step i row = record { items = row.items.items; comma = row.comma }

abbrev pub bind_step : Interpretation → BindLayer → part.Bind
bind_step i row = record { name = named i row.name; value = row.value }

abbrev pub clause_step : Interpretation → ClauseLayer → part.Clause
clause_step i row = record { test = row.test; items = row.items.items }

abbrev pub func_step : Interpretation → FuncLayer → model.Function
func_step i row = model.function row.form row.start row.end (maybe_named i row.name) (params_of row.params.items) row.comma row.bare
    (unwrap_or row.body (model.BracedBody (i.bodies row.start)))

abbrev pub operand_step : Interpretation → OperandLayer → part.Operand
operand_step i row = record { op = row.op; is_word = row.is_word; value = row.value }

abbrev pub param_step : Interpretation → ParamLayer → part.Param
param_step i row = record { name = named i row.name; value = row.value; rest = row.rest }

abbrev pub part_step : Interpretation → TemplatePartLayer → part.Part
part_step i row = record { value = row.value; behind = text_of i row.after }

abbrev pub for_in_step : Interpretation → ForInStatementLayer → model.Stmt
for_in_step i row = model.ForIn row.each row.over row.body

abbrev pub for_step : Interpretation → ForStatementLayer → model.Stmt
for_step i row = model.For row.init (maybe_expr_of row.test) (maybe_expr_of row.update) row.body

abbrev pub if_step : Interpretation → IfStatementLayer → model.Stmt
if_step i row = model.If row.test row.yes (maybe_stmt_of (option_map unboxed row.no))

abbrev pub new_step : Interpretation → NewExpressionLayer → model.Expr
new_step i row = model.New row.at row.callee (maybe_args_of row.args)

abbrev pub switch_step : Interpretation → SwitchStatementLayer → model.Stmt
switch_step i row = model.Switch row.of (clauses_of row.clauses.items)

abbrev pub try_step : Interpretation → TryStatementLayer → model.Stmt
try_step i row = model.Try (stmts_of row.body.items) (maybe_named i row.param) (stmts_of row.handler.items)

abbrev pub each_of : Interpretation → Each → model.Each
each_of i = fold-Each model.Each model.Expr
    (Option model.Body) model.Init model.Key model.Prop model.Stmt model.Tail part.Args part.Bind part.Clause model.Stmt model.Stmt
    model.Function model.Stmt model.Expr part.Operand part.Param model.Stmt part.Part model.Stmt (each_step i) (expr_step i) (body_step i)
    (init_step i) (key_step i) (prop_step i) (stmt_step i) (tail_step i) (args_step i) (bind_step i) (clause_step i) (for_in_step i)
    (for_step i) (func_step i) (if_step i) (new_step i) (operand_step i) (param_step i) (switch_step i) (part_step i) (try_step i)

abbrev pub expr_of : Interpretation → Expr → model.Expr
expr_of i = fold-Expr model.Each model.Expr
    (Option model.Body) model.Init model.Key model.Prop model.Stmt model.Tail part.Args part.Bind part.Clause model.Stmt model.Stmt
    model.Function model.Stmt model.Expr part.Operand part.Param model.Stmt part.Part model.Stmt (each_step i) (expr_step i) (body_step i)
    (init_step i) (key_step i) (prop_step i) (stmt_step i) (tail_step i) (args_step i) (bind_step i) (clause_step i) (for_in_step i)
    (for_step i) (func_step i) (if_step i) (new_step i) (operand_step i) (param_step i) (switch_step i) (part_step i) (try_step i)

abbrev pub body_of : Interpretation → FuncBody → Option model.Body
body_of i = fold-FuncBody model.Each model.Expr
    (Option model.Body) model.Init model.Key model.Prop model.Stmt model.Tail part.Args part.Bind part.Clause model.Stmt model.Stmt
    model.Function model.Stmt model.Expr part.Operand part.Param model.Stmt part.Part model.Stmt (each_step i) (expr_step i) (body_step i)
    (init_step i) (key_step i) (prop_step i) (stmt_step i) (tail_step i) (args_step i) (bind_step i) (clause_step i) (for_in_step i)
    (for_step i) (func_step i) (if_step i) (new_step i) (operand_step i) (param_step i) (switch_step i) (part_step i) (try_step i)

abbrev pub init_of : Interpretation → Init → model.Init
init_of i = fold-Init model.Each model.Expr
    (Option model.Body) model.Init model.Key model.Prop model.Stmt model.Tail part.Args part.Bind part.Clause model.Stmt model.Stmt
    model.Function model.Stmt model.Expr part.Operand part.Param model.Stmt part.Part model.Stmt (each_step i) (expr_step i) (body_step i)
    (init_step i) (key_step i) (prop_step i) (stmt_step i) (tail_step i) (args_step i) (bind_step i) (clause_step i) (for_in_step i)
    (for_step i) (func_step i) (if_step i) (new_step i) (operand_step i) (param_step i) (switch_step i) (part_step i) (try_step i)

abbrev pub key_of : Interpretation → Key → model.Key
key_of i = fold-Key model.Each model.Expr
    (Option model.Body) model.Init model.Key model.Prop model.Stmt model.Tail part.Args part.Bind part.Clause model.Stmt model.Stmt
    model.Function model.Stmt model.Expr part.Operand part.Param model.Stmt part.Part model.Stmt (each_step i) (expr_step i) (body_step i)
    (init_step i) (key_step i) (prop_step i) (stmt_step i) (tail_step i) (args_step i) (bind_step i) (clause_step i) (for_in_step i)
    (for_step i) (func_step i) (if_step i) (new_step i) (operand_step i) (param_step i) (switch_step i) (part_step i) (try_step i)

abbrev pub prop_of : Interpretation → Prop → model.Prop
prop_of i = fold-Prop model.Each model.Expr
    (Option model.Body) model.Init model.Key model.Prop model.Stmt model.Tail part.Args part.Bind part.Clause model.Stmt model.Stmt
    model.Function model.Stmt model.Expr part.Operand part.Param model.Stmt part.Part model.Stmt (each_step i) (expr_step i) (body_step i)
    (init_step i) (key_step i) (prop_step i) (stmt_step i) (tail_step i) (args_step i) (bind_step i) (clause_step i) (for_in_step i)
    (for_step i) (func_step i) (if_step i) (new_step i) (operand_step i) (param_step i) (switch_step i) (part_step i) (try_step i)

abbrev pub stmt_of : Interpretation → Stmt → model.Stmt
stmt_of i = fold-Stmt model.Each model.Expr
    (Option model.Body) model.Init model.Key model.Prop model.Stmt model.Tail part.Args part.Bind part.Clause model.Stmt model.Stmt
    model.Function model.Stmt model.Expr part.Operand part.Param model.Stmt part.Part model.Stmt (each_step i) (expr_step i) (body_step i)
    (init_step i) (key_step i) (prop_step i) (stmt_step i) (tail_step i) (args_step i) (bind_step i) (clause_step i) (for_in_step i)
    (for_step i) (func_step i) (if_step i) (new_step i) (operand_step i) (param_step i) (switch_step i) (part_step i) (try_step i)

abbrev pub tail_of : Interpretation → Tail → model.Tail
tail_of i = fold-Tail model.Each model.Expr
    (Option model.Body) model.Init model.Key model.Prop model.Stmt model.Tail part.Args part.Bind part.Clause model.Stmt model.Stmt
    model.Function model.Stmt model.Expr part.Operand part.Param model.Stmt part.Part model.Stmt (each_step i) (expr_step i) (body_step i)
    (init_step i) (key_step i) (prop_step i) (stmt_step i) (tail_step i) (args_step i) (bind_step i) (clause_step i) (for_in_step i)
    (for_step i) (func_step i) (if_step i) (new_step i) (operand_step i) (param_step i) (switch_step i) (part_step i) (try_step i)

abbrev pub args_of : Interpretation → Args → part.Args
args_of i = fold-Args model.Each model.Expr
    (Option model.Body) model.Init model.Key model.Prop model.Stmt model.Tail part.Args part.Bind part.Clause model.Stmt model.Stmt
    model.Function model.Stmt model.Expr part.Operand part.Param model.Stmt part.Part model.Stmt (each_step i) (expr_step i) (body_step i)
    (init_step i) (key_step i) (prop_step i) (stmt_step i) (tail_step i) (args_step i) (bind_step i) (clause_step i) (for_in_step i)
    (for_step i) (func_step i) (if_step i) (new_step i) (operand_step i) (param_step i) (switch_step i) (part_step i) (try_step i)

abbrev pub bind_of : Interpretation → Bind → part.Bind
bind_of i = fold-Bind model.Each model.Expr
    (Option model.Body) model.Init model.Key model.Prop model.Stmt model.Tail part.Args part.Bind part.Clause model.Stmt model.Stmt
    model.Function model.Stmt model.Expr part.Operand part.Param model.Stmt part.Part model.Stmt (each_step i) (expr_step i) (body_step i)
    (init_step i) (key_step i) (prop_step i) (stmt_step i) (tail_step i) (args_step i) (bind_step i) (clause_step i) (for_in_step i)
    (for_step i) (func_step i) (if_step i) (new_step i) (operand_step i) (param_step i) (switch_step i) (part_step i) (try_step i)

abbrev pub clause_of : Interpretation → Clause → part.Clause
clause_of i = fold-Clause model.Each model.Expr
    (Option model.Body) model.Init model.Key model.Prop model.Stmt model.Tail part.Args part.Bind part.Clause model.Stmt model.Stmt
    model.Function model.Stmt model.Expr part.Operand part.Param model.Stmt part.Part model.Stmt (each_step i) (expr_step i) (body_step i)
    (init_step i) (key_step i) (prop_step i) (stmt_step i) (tail_step i) (args_step i) (bind_step i) (clause_step i) (for_in_step i)
    (for_step i) (func_step i) (if_step i) (new_step i) (operand_step i) (param_step i) (switch_step i) (part_step i) (try_step i)

abbrev pub func_of : Interpretation → Func → model.Function
func_of i = fold-Func model.Each model.Expr
    (Option model.Body) model.Init model.Key model.Prop model.Stmt model.Tail part.Args part.Bind part.Clause model.Stmt model.Stmt
    model.Function model.Stmt model.Expr part.Operand part.Param model.Stmt part.Part model.Stmt (each_step i) (expr_step i) (body_step i)
    (init_step i) (key_step i) (prop_step i) (stmt_step i) (tail_step i) (args_step i) (bind_step i) (clause_step i) (for_in_step i)
    (for_step i) (func_step i) (if_step i) (new_step i) (operand_step i) (param_step i) (switch_step i) (part_step i) (try_step i)

abbrev pub operand_of : Interpretation → Operand → part.Operand
operand_of i = fold-Operand model.Each model.Expr
    (Option model.Body) model.Init model.Key model.Prop model.Stmt model.Tail part.Args part.Bind part.Clause model.Stmt model.Stmt
    model.Function model.Stmt model.Expr part.Operand part.Param model.Stmt part.Part model.Stmt (each_step i) (expr_step i) (body_step i)
    (init_step i) (key_step i) (prop_step i) (stmt_step i) (tail_step i) (args_step i) (bind_step i) (clause_step i) (for_in_step i)
    (for_step i) (func_step i) (if_step i) (new_step i) (operand_step i) (param_step i) (switch_step i) (part_step i) (try_step i)

abbrev pub param_of : Interpretation → Param → part.Param
param_of i = fold-Param model.Each model.Expr
    (Option model.Body) model.Init model.Key model.Prop model.Stmt model.Tail part.Args part.Bind part.Clause model.Stmt model.Stmt
    model.Function model.Stmt model.Expr part.Operand part.Param model.Stmt part.Part model.Stmt (each_step i) (expr_step i) (body_step i)
    (init_step i) (key_step i) (prop_step i) (stmt_step i) (tail_step i) (args_step i) (bind_step i) (clause_step i) (for_in_step i)
    (for_step i) (func_step i) (if_step i) (new_step i) (operand_step i) (param_step i) (switch_step i) (part_step i) (try_step i)

abbrev pub part_of : Interpretation → TemplatePart → part.Part
part_of i = fold-TemplatePart model.Each model.Expr
    (Option model.Body) model.Init model.Key model.Prop model.Stmt model.Tail part.Args part.Bind part.Clause model.Stmt model.Stmt
    model.Function model.Stmt model.Expr part.Operand part.Param model.Stmt part.Part model.Stmt (each_step i) (expr_step i) (body_step i)
    (init_step i) (key_step i) (prop_step i) (stmt_step i) (tail_step i) (args_step i) (bind_step i) (clause_step i) (for_in_step i)
    (for_step i) (func_step i) (if_step i) (new_step i) (operand_step i) (param_step i) (switch_step i) (part_step i) (try_step i)

abbrev pub for_in_of : Interpretation → ForInStatement → model.Stmt
for_in_of i = fold-ForInStatement model.Each model.Expr
    (Option model.Body) model.Init model.Key model.Prop model.Stmt model.Tail part.Args part.Bind part.Clause model.Stmt model.Stmt
    model.Function model.Stmt model.Expr part.Operand part.Param model.Stmt part.Part model.Stmt (each_step i) (expr_step i) (body_step i)
    (init_step i) (key_step i) (prop_step i) (stmt_step i) (tail_step i) (args_step i) (bind_step i) (clause_step i) (for_in_step i)
    (for_step i) (func_step i) (if_step i) (new_step i) (operand_step i) (param_step i) (switch_step i) (part_step i) (try_step i)

abbrev pub for_of : Interpretation → ForStatement → model.Stmt
for_of i = fold-ForStatement model.Each model.Expr
    (Option model.Body) model.Init model.Key model.Prop model.Stmt model.Tail part.Args part.Bind part.Clause model.Stmt model.Stmt
    model.Function model.Stmt model.Expr part.Operand part.Param model.Stmt part.Part model.Stmt (each_step i) (expr_step i) (body_step i)
    (init_step i) (key_step i) (prop_step i) (stmt_step i) (tail_step i) (args_step i) (bind_step i) (clause_step i) (for_in_step i)
    (for_step i) (func_step i) (if_step i) (new_step i) (operand_step i) (param_step i) (switch_step i) (part_step i) (try_step i)

abbrev pub if_of : Interpretation → IfStatement → model.Stmt
if_of i = fold-IfStatement model.Each model.Expr
    (Option model.Body) model.Init model.Key model.Prop model.Stmt model.Tail part.Args part.Bind part.Clause model.Stmt model.Stmt
    model.Function model.Stmt model.Expr part.Operand part.Param model.Stmt part.Part model.Stmt (each_step i) (expr_step i) (body_step i)
    (init_step i) (key_step i) (prop_step i) (stmt_step i) (tail_step i) (args_step i) (bind_step i) (clause_step i) (for_in_step i)
    (for_step i) (func_step i) (if_step i) (new_step i) (operand_step i) (param_step i) (switch_step i) (part_step i) (try_step i)

abbrev pub new_of : Interpretation → NewExpression → model.Expr
new_of i = fold-NewExpression model.Each model.Expr
    (Option model.Body) model.Init model.Key model.Prop model.Stmt model.Tail part.Args part.Bind part.Clause model.Stmt model.Stmt
    model.Function model.Stmt model.Expr part.Operand part.Param model.Stmt part.Part model.Stmt (each_step i) (expr_step i) (body_step i)
    (init_step i) (key_step i) (prop_step i) (stmt_step i) (tail_step i) (args_step i) (bind_step i) (clause_step i) (for_in_step i)
    (for_step i) (func_step i) (if_step i) (new_step i) (operand_step i) (param_step i) (switch_step i) (part_step i) (try_step i)

abbrev pub switch_of : Interpretation → SwitchStatement → model.Stmt
switch_of i = fold-SwitchStatement model.Each model.Expr
    (Option model.Body) model.Init model.Key model.Prop model.Stmt model.Tail part.Args part.Bind part.Clause model.Stmt model.Stmt
    model.Function model.Stmt model.Expr part.Operand part.Param model.Stmt part.Part model.Stmt (each_step i) (expr_step i) (body_step i)
    (init_step i) (key_step i) (prop_step i) (stmt_step i) (tail_step i) (args_step i) (bind_step i) (clause_step i) (for_in_step i)
    (for_step i) (func_step i) (if_step i) (new_step i) (operand_step i) (param_step i) (switch_step i) (part_step i) (try_step i)

abbrev pub try_of : Interpretation → TryStatement → model.Stmt
try_of i = fold-TryStatement model.Each model.Expr
    (Option model.Body) model.Init model.Key model.Prop model.Stmt model.Tail part.Args part.Bind part.Clause model.Stmt model.Stmt
    model.Function model.Stmt model.Expr part.Operand part.Param model.Stmt part.Part model.Stmt (each_step i) (expr_step i) (body_step i)
    (init_step i) (key_step i) (prop_step i) (stmt_step i) (tail_step i) (args_step i) (bind_step i) (clause_step i) (for_in_step i)
    (for_step i) (func_step i) (if_step i) (new_step i) (operand_step i) (param_step i) (switch_step i) (part_step i) (try_step i)
