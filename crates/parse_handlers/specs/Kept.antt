-- What parts over kept trees stand for: since their nodes are trees, each stands for one part of the model.
use Rattle.std.specs.Prelude.{Option, Some, None, ◌≡◌, option_map, map, unwrap_or}
use Rattle.script_grammar.specs.declared.tree.Expr.{Expr}
use Rattle.script_grammar.specs.declared.tree.Stmt.{Stmt}
use Rattle.script_grammar.specs.declared.tree.Prop.{Prop}
use Rattle.script_grammar.specs.declared.node.NodeArgs.{NodeArgs}
use Rattle.script_grammar.specs.declared.node.NodeOperand.{NodeOperand}
use Rattle.script_grammar.specs.declared.node.NodeTemplatePart.{NodeTemplatePart}
use Rattle.script_grammar.specs.declared.node.NodeTail.{NodeTail}
use Rattle.script_grammar.specs.declared.node.NodeTail.TheVariants as tails
use Rattle.script_grammar.specs.declared.node.NodeKey.{NodeKey}
use Rattle.script_grammar.specs.declared.node.NodeKey.TheVariants as keys
use Rattle.script_grammar.specs.declared.node.NodeFuncBody.{NodeFuncBody}
use Rattle.script_grammar.specs.declared.node.NodeFuncBody.TheVariants as bodies
use Rattle.script_grammar.specs.declared.node.NodeParam.{NodeParam}
use Rattle.script_grammar.specs.declared.node.NodeFunc.{NodeFunc}
use Rattle.script_grammar.specs.declared.node.NodeBind.{NodeBind}
use Rattle.script_grammar.specs.declared.node.NodeInit.{NodeInit}
use Rattle.script_grammar.specs.declared.node.NodeInit.TheVariants as inits
use Rattle.script_grammar.specs.declared.node.NodeEach.{NodeEach}
use Rattle.script_grammar.specs.declared.node.NodeEach.TheVariants as eaches
use Rattle.script_grammar.specs.declared.node.NodeClause.{NodeClause}
use Rattle.std.specs.declared.vec.Vec.{Vec}
use Rattle.std.specs.declared.alloc.Global.{Global}
use Rattle.script_grammar.specs.Interpretation.{Interpretation, text_of, named, maybe_named}
use Rattle.script_grammar.specs.TreeOf.{expr_of, stmt_of, prop_of}
use Rattle.script_grammar.specs.Tree as model
use Rattle.script_grammar.specs.TreeLists as part
use Rattle.script_grammar.specs.TreeLists.{exprs_of, params_of, binds_of, stmts_of}

-- an expression, a statement and a body stand for a tree of the model
abbrev pub IsExpr : Interpretation → Expr → model.Expr → Type 0
IsExpr i e t = expr_of i e ≡ t

abbrev pub IsStmt : Interpretation → Stmt → model.Stmt → Type 0
IsStmt i s t = stmt_of i s ≡ t

abbrev pub IsProp : Interpretation → Prop → model.Prop → Type 0
IsProp i p t = prop_of i p ≡ t

abbrev pub IsBody : Interpretation → Vec Stmt Global → model.Stmts → Type 0
IsBody i ss t = stmts_of (map (stmt_of i) ss.items) ≡ t

abbrev pub kept_args : Interpretation → NodeArgs Expr → part.Args
kept_args i n = record { items = map (expr_of i) n.items.items; comma = n.comma }

abbrev pub kept_operand : Interpretation → NodeOperand Expr → part.Operand
kept_operand i n = record { op = n.op; is_word = n.is_word; value = expr_of i n.value }

abbrev pub kept_part : Interpretation → NodeTemplatePart Expr → part.Part
kept_part i n = record { value = expr_of i n.value; behind = text_of i n.after }

abbrev pub kept_tail : Interpretation → NodeTail Expr → model.Tail
kept_tail i (tails.Dot atom) = model.Dot (text_of i atom)
kept_tail i (tails.Index e) = model.Index (expr_of i e)
kept_tail i (tails.Call n) = model.Call (exprs_of (map (expr_of i) n.items.items)) n.comma

abbrev pub kept_key : Interpretation → NodeKey Expr → model.Key
kept_key i (keys.Word name) = model.WordKey (named i name)
kept_key i (keys.Str name) = model.StrKey (named i name)
kept_key i (keys.Number at value) = model.NumberKey at value
kept_key i (keys.Computed e) = model.ComputedKey (expr_of i e)

-- none for a body that was passed over
abbrev pub kept_body : Interpretation → NodeFuncBody Expr (Vec Stmt Global) → Option model.Body
kept_body i (bodies.Braced ss) = Some (model.BracedBody (stmts_of (map (stmt_of i) ss.items)))
kept_body i (bodies.Short e) = Some (model.ShortBody (expr_of i e))
kept_body i (bodies.Passed) = None

abbrev pub kept_param : Interpretation → NodeParam Expr → part.Param
kept_param i n = record { name = named i n.name; value = option_map (expr_of i) n.value; rest = n.rest }

abbrev pub kept_func : Interpretation → NodeFunc Expr (Vec Stmt Global) → model.Function
kept_func i n = model.function n.form n.start n.end (maybe_named i n.name) (params_of (map (kept_param i) n.params.items)) n.comma n.bare
    (unwrap_or (kept_body i n.body) (model.BracedBody (i.bodies n.start)))

abbrev pub kept_bind : Interpretation → NodeBind Expr → part.Bind
kept_bind i n = record { name = named i n.name; value = option_map (expr_of i) n.value }

abbrev pub kept_init : Interpretation → NodeInit Expr → model.Init
kept_init i (inits.Nothing) = model.NoInit
kept_init i (inits.Value e) = model.ValueInit (expr_of i e)
kept_init i (inits.Binds decl ns) = model.BindsInit decl (binds_of (map (kept_bind i) ns.items))

abbrev pub kept_each : Interpretation → NodeEach Expr → model.Each
kept_each i (eaches.Target e) = model.TargetEach (expr_of i e)
kept_each i (eaches.Bind decl name) = model.BindEach decl (named i name)

abbrev pub kept_clause : Interpretation → NodeClause Expr Stmt → part.Clause
kept_clause i n = record { test = option_map (expr_of i) n.test; items = map (stmt_of i) n.items.items }
