-- The functions directly in a part of a script, by rising start. ECMA-262 has no such list; it is this project's own
-- choice. A function is directly in a part where no other function of the part stands around it. What stands in a
-- parameter's initializer, or in the body of an arrow that is an expression, is directly in the function that these
-- belong to; what stands in a braced body is left out.
use Rattle.std.specs.Prelude.{ℕ, List, Bool, true, false, not, ◌&&◌, Option, option_map}
use Rattle.script_grammar.specs.declared.token.FuncForm.{FuncForm}
use Rattle.script_grammar.specs.declared.token.FuncForm.TheVariants as form
use Rattle.stencil_data.specs.declared.functions.FuncKind.{FuncKind}
use Rattle.stencil_data.specs.declared.functions.FuncKind.TheVariants as kind
use Rattle.script_grammar.specs.Tree as tree
use Rattle.script_grammar.specs.Tree.{Named, Expr, Exprs, no_exprs, more_exprs, MaybeExpr, no_expr, some_expr, MaybeArgs, no_args}
use Rattle.script_grammar.specs.Tree.{some_args, Parts, no_parts, more_parts, Items, no_items, more_items, Operands, no_operands}
use Rattle.script_grammar.specs.Tree.{more_operands, Tail, Tails, no_tails, more_tails, Key, Prop, Props, no_props, more_props, Function}
use Rattle.script_grammar.specs.Tree.{function, Params, no_params, more_params, Body, Binds, no_binds, more_binds, Init, Each, Clauses}
use Rattle.script_grammar.specs.Tree.{no_clauses, more_clauses, Stmt, Stmts, no_stmts, more_stmts, MaybeStmt, no_stmt, some_stmt}

-- functions, each with its extent, its kind, its name, whether its body stands in braces, whether its parameters are
-- simple, and the functions directly in it
pub data Inner : Type 0 where
  no_inner : Inner
  more_inner : (start end : ℕ) → FuncKind → (name : Option (List ℕ)) → (braced simple : Bool) → (inner : Inner) → Inner → Inner

-- the kind of a function of this form; with the word `function` it is declared or stands in an expression
abbrev pub kind_of : (declared : Bool) → FuncForm → FuncKind
kind_of declared form.Script = kind.Declared
kind_of true form.Function = kind.Declared
kind_of false form.Function = kind.Expression
kind_of declared form.Arrow = kind.Arrow
kind_of declared form.Method = kind.Method
kind_of declared form.Getter = kind.Getter
kind_of declared form.Setter = kind.Setter

abbrev pub text_of_name : Named → List ℕ
text_of_name name = name.text

abbrev pub is_braced : Body → Bool
is_braced (tree.BracedBody ss) = true
is_braced (tree.ShortBody e) = false

abbrev pub has_no_value : MaybeExpr → Bool
has_no_value no_expr = true
has_no_value (some_expr e) = false

-- No parameter has an initializer, and none is a rest parameter. ECMA-262, 15.1.3: IsSimpleParameterList.
abbrev pub is_simple : Params → Bool
is_simple no_params = true
is_simple (more_params name value rest ps) = (has_no_value value && not rest) && is_simple ps

-- the functions directly in a part, and then these
abbrev mutual
  pub in_expr : Expr → Inner → Inner
  in_expr (tree.This at) r = r
  in_expr (tree.Name name) r = r
  in_expr (tree.Null at) r = r
  in_expr (tree.True at) r = r
  in_expr (tree.False at) r = r
  in_expr (tree.Number at value) r = r
  in_expr (tree.Str at end text) r = r
  in_expr (tree.Template at first ps) r = in_parts ps r
  in_expr (tree.Array at its comma) r = in_items its r
  in_expr (tree.Object at ps comma) r = in_props ps r
  in_expr (tree.Func at f) r = in_function false f r
  in_expr (tree.Paren at inner) r = in_expr inner r
  in_expr (tree.Chain head ts) r = in_expr head (in_tails ts r)
  in_expr (tree.New at callee a) r = in_expr callee (in_maybe_args a r)
  in_expr (tree.Unary at op of is_word) r = in_expr of r
  in_expr (tree.Update at op prefix of) r = in_expr of r
  in_expr (tree.Binary first rest) r = in_expr first (in_operands rest r)
  in_expr (tree.Cond test then_part else_part) r = in_expr test (in_expr then_part (in_expr else_part r))
  in_expr (tree.Assign op target value) r = in_expr target (in_expr value r)
  in_expr (tree.Comma es) r = in_exprs es r

  pub in_exprs : Exprs → Inner → Inner
  in_exprs no_exprs r = r
  in_exprs (more_exprs e es) r = in_expr e (in_exprs es r)

  pub in_maybe_expr : MaybeExpr → Inner → Inner
  in_maybe_expr no_expr r = r
  in_maybe_expr (some_expr e) r = in_expr e r

  pub in_maybe_args : MaybeArgs → Inner → Inner
  in_maybe_args no_args r = r
  in_maybe_args (some_args es comma) r = in_exprs es r

  pub in_parts : Parts → Inner → Inner
  in_parts no_parts r = r
  in_parts (more_parts value behind ps) r = in_expr value (in_parts ps r)

  pub in_items : Items → Inner → Inner
  in_items no_items r = r
  in_items (more_items e es) r = in_maybe_expr e (in_items es r)

  pub in_operands : Operands → Inner → Inner
  in_operands no_operands r = r
  in_operands (more_operands op is_word value os) r = in_expr value (in_operands os r)

  pub in_tail : Tail → Inner → Inner
  in_tail (tree.Dot text) r = r
  in_tail (tree.Index e) r = in_expr e r
  in_tail (tree.Call es comma) r = in_exprs es r

  pub in_tails : Tails → Inner → Inner
  in_tails no_tails r = r
  in_tails (more_tails t ts) r = in_tail t (in_tails ts r)

  pub in_key : Key → Inner → Inner
  in_key (tree.WordKey name) r = r
  in_key (tree.StrKey name) r = r
  in_key (tree.NumberKey at value) r = r
  in_key (tree.ComputedKey e) r = in_expr e r

  pub in_prop : Prop → Inner → Inner
  in_prop (tree.Short name) r = r
  in_prop (tree.Pair key value) r = in_key key (in_expr value r)
  in_prop (tree.Method key f) r = in_key key (in_function false f r)
  in_prop (tree.Get key f) r = in_key key (in_function false f r)
  in_prop (tree.Set key f) r = in_key key (in_function false f r)

  pub in_props : Props → Inner → Inner
  in_props no_props r = r
  in_props (more_props p ps) r = in_prop p (in_props ps r)

  pub in_function : (declared : Bool) → Function → Inner → Inner
  in_function declared (function form start end name ps comma bare body) r =
      more_inner start end (kind_of declared form) (option_map text_of_name name) (is_braced body) (is_simple ps)
      (in_params ps (in_body body no_inner)) r

  pub in_params : Params → Inner → Inner
  in_params no_params r = r
  in_params (more_params name value rest ps) r = in_maybe_expr value (in_params ps r)

  pub in_body : Body → Inner → Inner
  in_body (tree.BracedBody ss) r = r
  in_body (tree.ShortBody e) r = in_expr e r

  pub in_binds : Binds → Inner → Inner
  in_binds no_binds r = r
  in_binds (more_binds name value bs) r = in_maybe_expr value (in_binds bs r)

  pub in_init : Init → Inner → Inner
  in_init tree.NoInit r = r
  in_init (tree.ValueInit e) r = in_expr e r
  in_init (tree.BindsInit decl bs) r = in_binds bs r

  pub in_each : Each → Inner → Inner
  in_each (tree.TargetEach e) r = in_expr e r
  in_each (tree.BindEach decl name) r = r

  pub in_clauses : Clauses → Inner → Inner
  in_clauses no_clauses r = r
  in_clauses (more_clauses test items cs) r = in_maybe_expr test (in_stmts items (in_clauses cs r))

  pub in_stmt : Stmt → Inner → Inner
  in_stmt (tree.Block ss) r = in_stmts ss r
  in_stmt tree.Empty r = r
  in_stmt (tree.Debugger semi) r = r
  in_stmt (tree.Binding decl bs semi) r = in_binds bs r
  in_stmt (tree.Value e semi) r = in_expr e r
  in_stmt (tree.If test then_part else_part) r = in_expr test (in_stmt then_part (in_maybe_stmt else_part r))
  in_stmt (tree.Do body test semi) r = in_stmt body (in_expr test r)
  in_stmt (tree.While test body) r = in_expr test (in_stmt body r)
  in_stmt (tree.For init test update body) r = in_init init (in_maybe_expr test (in_maybe_expr update (in_stmt body r)))
  in_stmt (tree.ForIn each over body) r = in_each each (in_expr over (in_stmt body r))
  in_stmt (tree.Continue at label semi) r = r
  in_stmt (tree.Break at label semi) r = r
  in_stmt (tree.Return value semi) r = in_maybe_expr value r
  in_stmt (tree.Throw e semi) r = in_expr e r
  in_stmt (tree.Switch of cs) r = in_expr of (in_clauses cs r)
  in_stmt (tree.Label name body) r = in_stmt body r
  in_stmt (tree.Try body param handler) r = in_stmts body (in_stmts handler r)
  in_stmt (tree.Declared f) r = in_function true f r

  pub in_stmts : Stmts → Inner → Inner
  in_stmts no_stmts r = r
  in_stmts (more_stmts s ss) r = in_stmt s (in_stmts ss r)

  pub in_maybe_stmt : MaybeStmt → Inner → Inner
  in_maybe_stmt no_stmt r = r
  in_maybe_stmt (some_stmt s) r = in_stmt s r
