-- Which trees the grammar has (ECMA-262, 12th edition, clauses 13 to 16, strict code, for the language of this project),
-- beside how they are written: the levels of operands, lists that are not empty, and each further rule.
use Rattle.std.specs.Prelude.{ℕ, zero, suc, ◌+◌, ◌≤◌, ◌<◌, Bool, true, false, not, ◌&&◌, ◌||◌, ◌≡◌, Option, Some, None, if◌then◌else◌, nat_eq}
use Rattle.script_grammar.specs.declared.token.mark.TheConstants as mark
use Rattle.script_grammar.specs.declared.token.word.TheConstants as word
use Rattle.script_grammar.specs.declared.token.FuncForm.{FuncForm}
use Rattle.script_grammar.specs.declared.token.FuncForm.TheVariants as form
use Rattle.script_grammar.specs.Kinds.{op_level, no_level, is_assign_op, is_prefix_op, is_update_op, is_arrow_form, is_mark, is_word, is_var}
use Rattle.script_grammar.specs.Tree.{Named, Expr, Exprs, no_exprs, more_exprs, MaybeExpr, no_expr, some_expr, MaybeArgs, no_args}
use Rattle.script_grammar.specs.Tree.{some_args, Parts, no_parts, more_parts, Items, no_items, more_items, Operands, no_operands}
use Rattle.script_grammar.specs.Tree.{more_operands, Tail, Tails, no_tails, more_tails, Key, Prop, Props, no_props, more_props, Function}
use Rattle.script_grammar.specs.Tree.{function, Params, no_params, more_params, Body, Binds, no_binds, more_binds, Init, Each, Clauses}
use Rattle.script_grammar.specs.Tree.{no_clauses, more_clauses, Stmt, Stmts, no_stmts, more_stmts, MaybeStmt, no_stmt, some_stmt}
use Rattle.script_grammar.specs.Tree as tree
use Rattle.script_grammar.specs.Pieces.{Bodies, whole, passed, begins_with}
use Rattle.script_grammar.specs.Print.{print}

-- How loosely an expression binds. A PrimaryExpression is at most 0, a MemberExpression at most 2, a NewExpression at
-- most 3, a LeftHandSideExpression at most 4, an UpdateExpression at most 5, a UnaryExpression at most 6, the binary
-- level n at most 7 + n, a ShortCircuitExpression at most 18, a ConditionalExpression at most 19, an
-- AssignmentExpression at most 20, and an Expression at most 21 (clauses 13.2 to 13.16).

abbrev pub member_rank : ℕ
member_rank = 2

abbrev pub left_rank : ℕ
left_rank = 4

abbrev pub update_rank : ℕ
update_rank = 5

abbrev pub unary_rank : ℕ
unary_rank = 6

abbrev pub level_rank : ℕ → ℕ
level_rank n = 7 + n

abbrev pub short_rank : ℕ
short_rank = 18

abbrev pub assign_rank : ℕ
assign_rank = 20

-- the most that an operand of the binary level n may have: one level less; of `??` it is an operand of `|`
-- (clause 13.13)
abbrev pub operand_rank : ℕ → ℕ
operand_rank n = if nat_eq n 11 then level_rank 8 else 6 + n

-- the level of a list of operands, which is that of its first
abbrev pub operands_level : Operands → ℕ
operands_level no_operands = no_level
operands_level (more_operands op is_word value rest) = op_level op is_word

abbrev pub is_member_tail : Tail → Bool
is_member_tail (tree.Dot w) = true
is_member_tail (tree.Index e) = true
is_member_tail (tree.Call es comma) = false

-- a chain without calls
abbrev pub are_member_tails : Tails → Bool
are_member_tails no_tails = true
are_member_tails (more_tails t ts) = is_member_tail t && are_member_tails ts

abbrev pub function_rank : Function → ℕ
function_rank (function form start end name ps comma bare body) = if is_arrow_form form then 20 else 0

abbrev pub new_rank : MaybeArgs → ℕ
new_rank no_args = 3
new_rank (some_args es comma) = 1

abbrev pub rank : Expr → ℕ
rank (tree.This at) = 0
rank (tree.Name name) = 0
rank (tree.Null at) = 0
rank (tree.True at) = 0
rank (tree.False at) = 0
rank (tree.Number at value) = 0
rank (tree.Str at end w) = 0
rank (tree.Template at first parts) = 0
rank (tree.Array at is comma) = 0
rank (tree.Object at ps comma) = 0
rank (tree.Func at f) = function_rank f
rank (tree.Paren at inner) = 0
rank (tree.Chain head tails) = if are_member_tails tails then 2 else 4
rank (tree.New at callee args) = new_rank args
rank (tree.Unary at op of is_word) = 6
rank (tree.Update at op prefix of) = 5
rank (tree.Binary first rest) = level_rank (operands_level rest)
rank (tree.Cond test then_value else_value) = 19
rank (tree.Assign op target value) = 20
rank (tree.Comma es) = 21

-- the most that the target of `new` may have: with arguments a MemberExpression, without a NewExpression (clause 13.3)
abbrev pub callee_rank : MaybeArgs → ℕ
callee_rank no_args = 3
callee_rank (some_args es comma) = member_rank

-- the most that the operand of `++` or `--` may have, by whether the operator stands before it (clause 13.4)
abbrev pub updated_rank : Bool → ℕ
updated_rank true = unary_rank
updated_rank false = left_rank

-- The most that the first operand of a level may have, and a further one in front of these. In a chain of `**` all but the
-- last are UpdateExpressions (clause 13.6).
abbrev pub first_rank : ℕ → ℕ
first_rank zero = update_rank
first_rank (suc n) = operand_rank (suc n)

abbrev pub rest_rank : ℕ → Operands → ℕ
rest_rank zero (more_operands op is_word value rest) = update_rank
rest_rank zero no_operands = unary_rank
rest_rank (suc n) rest = operand_rank (suc n)

-- Whether an expression has no operator `in` outside brackets, a conditional's middle and braced bodies: the grammar's
-- parameter In left out (clause 13.10).
abbrev mutual
  pub free_of_in : Expr → Bool
  free_of_in (tree.Func at f) = function_free f
  free_of_in (tree.Unary at op of is_word) = free_of_in of
  free_of_in (tree.Update at op prefix of) = free_of_in of
  free_of_in (tree.Binary first rest) = free_of_in first && operands_free rest
  free_of_in (tree.Cond test then_value else_value) = free_of_in test && free_of_in else_value
  free_of_in (tree.Assign op target value) = free_of_in target && free_of_in value
  free_of_in (tree.Comma es) = all_free es
  free_of_in _ = true

  pub all_free : Exprs → Bool
  all_free no_exprs = true
  all_free (more_exprs e es) = free_of_in e && all_free es

  pub operands_free : Operands → Bool
  operands_free no_operands = true
  operands_free (more_operands op is_word value rest) = not (is_word && nat_eq op word.IN) && (free_of_in value && operands_free rest)

  pub function_free : Function → Bool
  function_free (function form start end name ps comma bare body) = body_free body

  pub body_free : Body → Bool
  body_free (tree.BracedBody items) = true
  body_free (tree.ShortBody value) = free_of_in value

abbrev pub maybe_free : MaybeExpr → Bool
maybe_free no_expr = true
maybe_free (some_expr e) = free_of_in e

abbrev pub binds_free : Binds → Bool
binds_free no_binds = true
binds_free (more_binds name value bs) = maybe_free value && binds_free bs

-- where `in` is allowed, or the expression has none
abbrev pub InIf : Bool → Bool → Type 0
InIf with_in free = (with_in || free) ≡ true

-- Lists that are not empty.

abbrev pub HasTwo : Exprs → Type 0
HasTwo no_exprs = ⊥
HasTwo (more_exprs e no_exprs) = ⊥
HasTwo (more_exprs e (more_exprs f es)) = Unit {0}

abbrev pub HasExprs : Exprs → Type 0
HasExprs no_exprs = ⊥
HasExprs (more_exprs e es) = Unit {0}

abbrev pub HasTails : Tails → Type 0
HasTails no_tails = ⊥
HasTails (more_tails t ts) = Unit {0}

abbrev pub HasOperands : Operands → Type 0
HasOperands no_operands = ⊥
HasOperands (more_operands op is_word value rest) = Unit {0}

abbrev pub HasProps : Props → Type 0
HasProps no_props = ⊥
HasProps (more_props p ps) = Unit {0}

abbrev pub HasParams : Params → Type 0
HasParams no_params = ⊥
HasParams (more_params name value rest ps) = Unit {0}

abbrev pub HasBinds : Binds → Type 0
HasBinds no_binds = ⊥
HasBinds (more_binds name value bs) = Unit {0}

abbrev pub is_hole : MaybeExpr → Bool
is_hole no_expr = true
is_hole (some_expr e) = false

-- The items of an array and its last comma: there is one only after an item, and after a last hole there is one, so that
-- each hole is followed by a comma of its own (clause 13.2.5).
abbrev pub AreItems : Items → Bool → Type 0
AreItems no_items comma = comma ≡ false
AreItems (more_items i no_items) comma = is_hole i ≡ true → comma ≡ true
AreItems (more_items i (more_items j is)) comma = AreItems (more_items j is) comma

-- Parameters: a rest parameter is the last, has no initializer and no comma after it; a comma stands only after a
-- parameter (clause 15.1).
abbrev pub AreParams : Params → Bool → Type 0
AreParams no_params comma = comma ≡ false
AreParams (more_params name no_expr true no_params) comma = comma ≡ false
AreParams (more_params name (some_expr e) true no_params) comma = ⊥
AreParams (more_params name value false no_params) comma = Unit {0}
AreParams (more_params name value true (more_params n v r ps)) comma = ⊥
AreParams (more_params name value false (more_params n v r ps)) comma = AreParams (more_params n v r ps) comma

-- An arrow's single name without parentheses: it is where the function starts (clause 15.3).
abbrev pub IsBare : FuncForm → ℕ → Params → Bool → Type 0
IsBare form.Arrow start (more_params name no_expr false no_params) comma = (comma ≡ false) × (start ≡ name.at)
IsBare _ start ps comma = ⊥

abbrev pub BareIf : Bool → FuncForm → ℕ → Params → Bool → Type 0
BareIf true form start ps comma = IsBare form start ps comma
BareIf false form start ps comma = Unit {0}

abbrev pub IsOneParam : Params → Bool → Type 0
IsOneParam (more_params name value false no_params) comma = comma ≡ false
IsOneParam _ comma = ⊥

-- A getter has no parameter, a setter one and no comma (clause 15.4).
abbrev pub SuitsForm : FuncForm → Params → Bool → Type 0
SuitsForm form.Script ps comma = ⊥
SuitsForm form.Function ps comma = Unit {0}
SuitsForm form.Arrow ps comma = Unit {0}
SuitsForm form.Method ps comma = Unit {0}
SuitsForm form.Getter ps comma = (ps ≡ no_params) × (comma ≡ false)
SuitsForm form.Setter ps comma = IsOneParam ps comma

-- The forms of functions where they stand. A function expression may have a name and a declaration has one (clause 15.2);
-- an arrow, which starts where its parameters do, and a method have none.

abbrev pub IsExpressionForm : FuncForm → ℕ → ℕ → Option Named → Type 0
IsExpressionForm form.Function at start name = Unit {0}
IsExpressionForm form.Arrow at start name = (at ≡ start) × (name ≡ None)
IsExpressionForm _ at start name = ⊥

abbrev pub IsFuncExpression : ℕ → Function → Type 0
IsFuncExpression at (function form start end name ps comma bare body) = IsExpressionForm form at start name

abbrev pub IsDeclaredForm : FuncForm → Option Named → Type 0
IsDeclaredForm form.Function (Some n) = Unit {0}
IsDeclaredForm _ name = ⊥

abbrev pub IsDeclaration : Function → Type 0
IsDeclaration (function form start end name ps comma bare body) = IsDeclaredForm form name

abbrev pub IsNamelessOf : FuncForm → Function → Type 0
IsNamelessOf wanted (function form start end name ps comma bare body) = (form ≡ wanted) × (name ≡ None)

-- Not the beginning of an arrow's expression body (clause 15.3, ConciseBody), and none of an expression statement
-- (clause 14.5; `class` and `let [` are none of this language).

abbrev pub begins_brace : Expr → Bool
begins_brace e = begins_with (is_mark mark.OPEN_BRACE) (print whole 1 e)

abbrev pub begins_function : Expr → Bool
begins_function e = begins_with (is_word word.FUNCTION) (print whole 1 e)

-- a statement that is no declaration with `let`, `const` or `function` (clause 14)
abbrev pub is_statement : Stmt → Bool
is_statement (tree.Binding decl bs semi) = is_var decl
is_statement (tree.Declared f) = false
is_statement _ = true

-- Whether an `else` after this statement would be that of an `if` in it: an `else` belongs to the nearest `if`
-- (clause 14.6).
abbrev mutual
  pub takes_else : Stmt → Bool
  takes_else (tree.If test then_stmt else_stmt) = else_takes else_stmt
  takes_else (tree.While test body) = takes_else body
  takes_else (tree.For init test update body) = takes_else body
  takes_else (tree.ForIn each over body) = takes_else body
  takes_else (tree.Label name body) = takes_else body
  takes_else _ = false

  pub else_takes : MaybeStmt → Bool
  else_takes no_stmt = true
  else_takes (some_stmt s) = takes_else s

abbrev pub ElseIsNearest : Stmt → MaybeStmt → Type 0
ElseIsNearest s no_stmt = Unit {0}
ElseIsNearest s (some_stmt t) = takes_else s ≡ false

-- the number of clauses without a test
abbrev pub defaults : Clauses → ℕ
defaults no_clauses = 0
defaults (more_clauses no_expr items cs) = suc (defaults cs)
defaults (more_clauses (some_expr e) items cs) = defaults cs

-- what is asked of a body's statements, where they are not passed over
abbrev pub Inside : Bodies → Type 0 → Type 0
Inside whole P = P
Inside passed P = Unit {0}

-- Every part of a tree. The flag says whether a `return` may stand there, which is so in functions only (clause 14.10). Nothing is said of
-- bodies that are passed over.
abbrev mutual
  pub Proper : Bodies → Expr → Type 0
  Proper m (tree.This at) = Unit {0}
  Proper m (tree.Name name) = Unit {0}
  Proper m (tree.Null at) = Unit {0}
  Proper m (tree.True at) = Unit {0}
  Proper m (tree.False at) = Unit {0}
  Proper m (tree.Number at value) = Unit {0}
  Proper m (tree.Str at end w) = Unit {0}
  Proper m (tree.Template at first parts) = ProperParts m parts
  Proper m (tree.Array at is comma) = AreItems is comma × ProperItems m is
  Proper m (tree.Object at ps comma) = (comma ≡ true → HasProps ps) × ProperProps m ps
  Proper m (tree.Func at f) = IsFuncExpression at f × ProperFunction m f
  Proper m (tree.Paren at inner) = Proper m inner
  Proper m (tree.Chain head tails) = (rank head ≤ 1) × Proper m head × HasTails tails × ProperTails m tails
  Proper m (tree.New at callee args) = (rank callee ≤ callee_rank args) × Proper m callee × ProperArgs m args
  Proper m (tree.Unary at op of is_word) = (is_prefix_op op is_word ≡ true) × (rank of ≤ unary_rank) × Proper m of
  Proper m (tree.Update at op prefix of) = (is_update_op op ≡ true) × (rank of ≤ updated_rank prefix) × Proper m of
  Proper m (tree.Binary first rest) = HasOperands rest × (operands_level rest < no_level) × (rank first ≤ first_rank (operands_level rest))
      × Proper m first × ProperOperands m (operands_level rest) rest
  Proper m (tree.Cond test then_value else_value) = (rank test ≤ short_rank) × Proper m test × (rank then_value ≤ assign_rank)
      × Proper m then_value × (rank else_value ≤ assign_rank) × Proper m else_value
  Proper m (tree.Assign op target value) = (is_assign_op op ≡ true) × (rank target ≤ left_rank) × Proper m target
      × (rank value ≤ assign_rank) × Proper m value
  Proper m (tree.Comma es) = HasTwo es × ProperExprs m es

  -- each an AssignmentExpression
  pub ProperExprs : Bodies → Exprs → Type 0
  ProperExprs m no_exprs = Unit {0}
  ProperExprs m (more_exprs e es) = (rank e ≤ assign_rank) × Proper m e × ProperExprs m es

  -- an AssignmentExpression or none
  pub ProperMaybe : Bodies → MaybeExpr → Type 0
  ProperMaybe m no_expr = Unit {0}
  ProperMaybe m (some_expr e) = (rank e ≤ assign_rank) × Proper m e

  -- an Expression or none
  pub ProperOption : Bodies → MaybeExpr → Type 0
  ProperOption m no_expr = Unit {0}
  ProperOption m (some_expr e) = Proper m e

  pub ProperArgs : Bodies → MaybeArgs → Type 0
  ProperArgs m no_args = Unit {0}
  ProperArgs m (some_args es comma) = (comma ≡ true → HasExprs es) × ProperExprs m es

  pub ProperParts : Bodies → Parts → Type 0
  ProperParts m no_parts = Unit {0}
  ProperParts m (more_parts value behind rest) = Proper m value × ProperParts m rest

  pub ProperItems : Bodies → Items → Type 0
  ProperItems m no_items = Unit {0}
  ProperItems m (more_items i is) = ProperMaybe m i × ProperItems m is

  -- operands of one level
  pub ProperOperands : Bodies → ℕ → Operands → Type 0
  ProperOperands m n no_operands = Unit {0}
  ProperOperands m n (more_operands op is_word value rest) = (op_level op is_word ≡ n) × (rank value ≤ rest_rank n rest) × Proper m value
      × ProperOperands m n rest

  pub ProperTails : Bodies → Tails → Type 0
  ProperTails m no_tails = Unit {0}
  ProperTails m (more_tails t ts) = ProperTail m t × ProperTails m ts

  pub ProperTail : Bodies → Tail → Type 0
  ProperTail m (tree.Dot w) = Unit {0}
  ProperTail m (tree.Index e) = Proper m e
  ProperTail m (tree.Call es comma) = (comma ≡ true → HasExprs es) × ProperExprs m es

  pub ProperKey : Bodies → Key → Type 0
  ProperKey m (tree.WordKey n) = Unit {0}
  ProperKey m (tree.StrKey n) = Unit {0}
  ProperKey m (tree.NumberKey at value) = Unit {0}
  ProperKey m (tree.ComputedKey e) = (rank e ≤ assign_rank) × Proper m e

  pub ProperProp : Bodies → Prop → Type 0
  ProperProp m (tree.Short n) = Unit {0}
  ProperProp m (tree.Pair key value) = ProperKey m key × (rank value ≤ assign_rank) × Proper m value
  ProperProp m (tree.Method key f) = ProperKey m key × IsNamelessOf form.Method f × ProperFunction m f
  ProperProp m (tree.Get key f) = ProperKey m key × IsNamelessOf form.Getter f × ProperFunction m f
  ProperProp m (tree.Set key f) = ProperKey m key × IsNamelessOf form.Setter f × ProperFunction m f

  pub ProperProps : Bodies → Props → Type 0
  ProperProps m no_props = Unit {0}
  ProperProps m (more_props p ps) = ProperProp m p × ProperProps m ps

  pub ProperFunction : Bodies → Function → Type 0
  ProperFunction m (function form start end name ps comma bare body) = AreParams ps comma × SuitsForm form ps comma
      × BareIf bare form start ps comma × ProperParams m ps × ProperBody m form body

  pub ProperParams : Bodies → Params → Type 0
  ProperParams m no_params = Unit {0}
  ProperParams m (more_params name value rest ps) = ProperMaybe m value × ProperParams m ps

  -- only an arrow has an expression as its body
  pub ProperBody : Bodies → FuncForm → Body → Type 0
  ProperBody m form (tree.BracedBody items) = Inside m (ProperStmts m true items)
  ProperBody m form (tree.ShortBody value) = (is_arrow_form form ≡ true) × (rank value ≤ assign_rank) × (begins_brace value ≡ false) × Proper m value

  pub ProperBinds : Bodies → Binds → Type 0
  ProperBinds m no_binds = Unit {0}
  ProperBinds m (more_binds name value bs) = ProperMaybe m value × ProperBinds m bs

  pub ProperInit : Bodies → Init → Type 0
  ProperInit m tree.NoInit = Unit {0}
  ProperInit m (tree.ValueInit e) = (free_of_in e ≡ true) × Proper m e
  ProperInit m (tree.BindsInit decl bs) = HasBinds bs × (binds_free bs ≡ true) × ProperBinds m bs

  pub ProperEach : Bodies → Each → Type 0
  ProperEach m (tree.TargetEach e) = (rank e ≤ left_rank) × Proper m e
  ProperEach m (tree.BindEach decl name) = Unit {0}

  pub ProperClauses : Bodies → Bool → Clauses → Type 0
  ProperClauses m inside no_clauses = Unit {0}
  ProperClauses m inside (more_clauses test items cs) = ProperOption m test × ProperStmts m inside items × ProperClauses m inside cs

  pub ProperStmts : Bodies → Bool → Stmts → Type 0
  ProperStmts m inside no_stmts = Unit {0}
  ProperStmts m inside (more_stmts s ss) = ProperStmt m inside s × ProperStmts m inside ss

  pub ProperElse : Bodies → Bool → MaybeStmt → Type 0
  ProperElse m inside no_stmt = Unit {0}
  ProperElse m inside (some_stmt s) = (is_statement s ≡ true) × ProperStmt m inside s

  pub ProperStmt : Bodies → Bool → Stmt → Type 0
  ProperStmt m inside (tree.Block items) = ProperStmts m inside items
  ProperStmt m inside tree.Empty = Unit {0}
  ProperStmt m inside (tree.Debugger semi) = Unit {0}
  ProperStmt m inside (tree.Binding decl bs semi) = HasBinds bs × ProperBinds m bs
  ProperStmt m inside (tree.Value e semi) = (begins_brace e ≡ false) × (begins_function e ≡ false) × Proper m e
  ProperStmt m inside (tree.If test then_stmt else_stmt) = Proper m test × (is_statement then_stmt ≡ true) × ProperStmt m inside then_stmt
      × ElseIsNearest then_stmt else_stmt × ProperElse m inside else_stmt
  ProperStmt m inside (tree.Do body test semi) = (is_statement body ≡ true) × ProperStmt m inside body × Proper m test
  ProperStmt m inside (tree.While test body) = Proper m test × (is_statement body ≡ true) × ProperStmt m inside body
  ProperStmt m inside (tree.For init test update body) = ProperInit m init × ProperOption m test × ProperOption m update
      × (is_statement body ≡ true) × ProperStmt m inside body
  ProperStmt m inside (tree.ForIn each over body) = ProperEach m each × Proper m over × (is_statement body ≡ true) × ProperStmt m inside body
  ProperStmt m inside (tree.Continue at label semi) = Unit {0}
  ProperStmt m inside (tree.Break at label semi) = Unit {0}
  ProperStmt m inside (tree.Return value semi) = (inside ≡ true) × ProperOption m value
  ProperStmt m inside (tree.Throw value semi) = Proper m value
  ProperStmt m inside (tree.Switch of cs) = Proper m of × (defaults cs ≤ 1) × ProperClauses m inside cs
  ProperStmt m inside (tree.Label name body) = (is_statement body ≡ true) × ProperStmt m inside body
  ProperStmt m inside (tree.Try body param handler) = ProperStmts m inside body × ProperStmts m inside handler
  ProperStmt m inside (tree.Declared f) = IsDeclaration f × ProperFunction m f
