-- Which trees the grammar has, where something is asked of each braced body beside: the same as `Proper`, part for part.
use Rattle.std.proofs.Common.{◌≡◌, ℕ, ◌≤◌, ◌<◌, Bool, true, false}
use Rattle.script_grammar.specs.declared.token.FuncForm.{FuncForm}
use Rattle.script_grammar.specs.declared.token.FuncForm.TheVariants as form
use Rattle.script_grammar.specs.Kinds.{no_level, op_level, is_assign_op, is_prefix_op, is_update_op, is_arrow_form}
use Rattle.script_grammar.specs.Tree.{Named, Expr, Exprs, no_exprs, more_exprs, MaybeExpr, no_expr, some_expr, MaybeArgs, no_args, some_args, Parts, no_parts, more_parts, Items, no_items, more_items, Operands, no_operands, more_operands, Tail, Tails, no_tails, more_tails, Key, Prop, Props, no_props, more_props, Function, function, Params, no_params, more_params, Body, Binds, no_binds, more_binds, Init, Each, Clauses, no_clauses, more_clauses, Stmt, Stmts, no_stmts, more_stmts, MaybeStmt, no_stmt, some_stmt}
use Rattle.script_grammar.specs.Tree as tree
use Rattle.script_grammar.specs.Pieces.{Bodies, whole, passed}
use Rattle.script_grammar.specs.Proper.{HasTwo, HasExprs, HasTails, HasOperands, HasProps, HasBinds, AreItems, AreParams, BareIf, SuitsForm, IsFuncExpression, IsDeclaration, IsNamelessOf, Inside, ElseIsNearest, rank, callee_rank, unary_rank, updated_rank, short_rank, assign_rank, left_rank, first_rank, rest_rank, operands_level, begins_brace, begins_function, is_statement, free_of_in, binds_free, defaults}
use Rattle.script_grammar.specs.Proper as plain

-- how braced bodies are looked at, and what else is asked of one whose function starts there
pub record Mode : Type 1 where
  pub look : Bodies
  pub keeps : ℕ → Stmts → Type 0

abbrev mutual
  pub Proper : Mode → Expr → Type 0
  Proper m (tree.This at) = Unit {0}
  Proper m (tree.Name name) = Unit {0}
  Proper m (tree.Null at) = Unit {0}
  Proper m (tree.True at) = Unit {0}
  Proper m (tree.False at) = Unit {0}
  Proper m (tree.Number at value) = Unit {0}
  Proper m (tree.Str at end w) = Unit {0}
  Proper m (tree.Template at first parts) = ProperParts m parts
  Proper m (tree.Array at is comma) = AreItems is comma × ProperItems m is
  Proper m (tree.Object at ps comma) = (comma ≡ true → HasProps ps) × ProperProps m ps
  Proper m (tree.Func at f) = IsFuncExpression at f × ProperFunction m f
  Proper m (tree.Paren at inner) = Proper m inner
  Proper m (tree.Chain head tails) = (rank head ≤ 1) × Proper m head × HasTails tails × ProperTails m tails
  Proper m (tree.New at callee args) = (rank callee ≤ callee_rank args) × Proper m callee × ProperArgs m args
  Proper m (tree.Unary at op of is_word) = (is_prefix_op op is_word ≡ true) × (rank of ≤ unary_rank) × Proper m of
  Proper m (tree.Update at op prefix of) = (is_update_op op ≡ true) × (rank of ≤ updated_rank prefix) × Proper m of
  Proper m (tree.Binary first rest) = HasOperands rest × (operands_level rest < no_level) × (rank first ≤ first_rank (operands_level rest)) × Proper m first × ProperOperands m (operands_level rest) rest
  Proper m (tree.Cond test then_value else_value) = (rank test ≤ short_rank) × Proper m test × (rank then_value ≤ assign_rank) × Proper m then_value × (rank else_value ≤ assign_rank) × Proper m else_value
  Proper m (tree.Assign op target value) = (is_assign_op op ≡ true) × (rank target ≤ left_rank) × Proper m target × (rank value ≤ assign_rank) × Proper m value
  Proper m (tree.Comma es) = HasTwo es × ProperExprs m es

  -- each an AssignmentExpression
  pub ProperExprs : Mode → Exprs → Type 0
  ProperExprs m no_exprs = Unit {0}
  ProperExprs m (more_exprs e es) = (rank e ≤ assign_rank) × Proper m e × ProperExprs m es

  -- an AssignmentExpression or none
  pub ProperMaybe : Mode → MaybeExpr → Type 0
  ProperMaybe m no_expr = Unit {0}
  ProperMaybe m (some_expr e) = (rank e ≤ assign_rank) × Proper m e

  -- an Expression or none
  pub ProperOption : Mode → MaybeExpr → Type 0
  ProperOption m no_expr = Unit {0}
  ProperOption m (some_expr e) = Proper m e

  pub ProperArgs : Mode → MaybeArgs → Type 0
  ProperArgs m no_args = Unit {0}
  ProperArgs m (some_args es comma) = (comma ≡ true → HasExprs es) × ProperExprs m es

  pub ProperParts : Mode → Parts → Type 0
  ProperParts m no_parts = Unit {0}
  ProperParts m (more_parts value behind rest) = Proper m value × ProperParts m rest

  pub ProperItems : Mode → Items → Type 0
  ProperItems m no_items = Unit {0}
  ProperItems m (more_items i is) = ProperMaybe m i × ProperItems m is

  -- operands of one level
  pub ProperOperands : Mode → ℕ → Operands → Type 0
  ProperOperands m n no_operands = Unit {0}
  ProperOperands m n (more_operands op is_word value rest) = (op_level op is_word ≡ n) × (rank value ≤ rest_rank n rest) × Proper m value × ProperOperands m n rest

  pub ProperTails : Mode → Tails → Type 0
  ProperTails m no_tails = Unit {0}
  ProperTails m (more_tails t ts) = ProperTail m t × ProperTails m ts

  pub ProperTail : Mode → Tail → Type 0
  ProperTail m (tree.Dot w) = Unit {0}
  ProperTail m (tree.Index e) = Proper m e
  ProperTail m (tree.Call es comma) = (comma ≡ true → HasExprs es) × ProperExprs m es

  pub ProperKey : Mode → Key → Type 0
  ProperKey m (tree.WordKey n) = Unit {0}
  ProperKey m (tree.StrKey n) = Unit {0}
  ProperKey m (tree.NumberKey at value) = Unit {0}
  ProperKey m (tree.ComputedKey e) = (rank e ≤ assign_rank) × Proper m e

  pub ProperProp : Mode → Prop → Type 0
  ProperProp m (tree.Short n) = Unit {0}
  ProperProp m (tree.Pair key value) = ProperKey m key × (rank value ≤ assign_rank) × Proper m value
  ProperProp m (tree.Method key f) = ProperKey m key × IsNamelessOf form.Method f × ProperFunction m f
  ProperProp m (tree.Get key f) = ProperKey m key × IsNamelessOf form.Getter f × ProperFunction m f
  ProperProp m (tree.Set key f) = ProperKey m key × IsNamelessOf form.Setter f × ProperFunction m f

  pub ProperProps : Mode → Props → Type 0
  ProperProps m no_props = Unit {0}
  ProperProps m (more_props p ps) = ProperProp m p × ProperProps m ps

  pub ProperFunction : Mode → Function → Type 0
  ProperFunction m (function form start end name ps comma bare body) = AreParams ps comma × SuitsForm form ps comma × BareIf bare form start ps comma × ProperParams m ps × ProperBody m form start body

  pub ProperParams : Mode → Params → Type 0
  ProperParams m no_params = Unit {0}
  ProperParams m (more_params name value rest ps) = ProperMaybe m value × ProperParams m ps

  -- only an arrow has an expression as its body
  pub ProperBody : Mode → FuncForm → ℕ → Body → Type 0
  ProperBody m form start (tree.BracedBody items) = Inside m.look (ProperStmts m true items) × m.keeps start items
  ProperBody m form start (tree.ShortBody value) = (is_arrow_form form ≡ true) × (rank value ≤ assign_rank) × (begins_brace value ≡ false) × Proper m value

  pub ProperBinds : Mode → Binds → Type 0
  ProperBinds m no_binds = Unit {0}
  ProperBinds m (more_binds name value bs) = ProperMaybe m value × ProperBinds m bs

  pub ProperInit : Mode → Init → Type 0
  ProperInit m tree.NoInit = Unit {0}
  ProperInit m (tree.ValueInit e) = (free_of_in e ≡ true) × Proper m e
  ProperInit m (tree.BindsInit decl bs) = HasBinds bs × (binds_free bs ≡ true) × ProperBinds m bs

  pub ProperEach : Mode → Each → Type 0
  ProperEach m (tree.TargetEach e) = (rank e ≤ left_rank) × Proper m e
  ProperEach m (tree.BindEach decl name) = Unit {0}

  pub ProperClauses : Mode → Bool → Clauses → Type 0
  ProperClauses m inside no_clauses = Unit {0}
  ProperClauses m inside (more_clauses test items cs) = ProperOption m test × ProperStmts m inside items × ProperClauses m inside cs

  pub ProperStmts : Mode → Bool → Stmts → Type 0
  ProperStmts m inside no_stmts = Unit {0}
  ProperStmts m inside (more_stmts s ss) = ProperStmt m inside s × ProperStmts m inside ss

  pub ProperElse : Mode → Bool → MaybeStmt → Type 0
  ProperElse m inside no_stmt = Unit {0}
  ProperElse m inside (some_stmt s) = (is_statement s ≡ true) × ProperStmt m inside s

  pub ProperStmt : Mode → Bool → Stmt → Type 0
  ProperStmt m inside (tree.Block items) = ProperStmts m inside items
  ProperStmt m inside tree.Empty = Unit {0}
  ProperStmt m inside (tree.Debugger semi) = Unit {0}
  ProperStmt m inside (tree.Binding decl bs semi) = HasBinds bs × ProperBinds m bs
  ProperStmt m inside (tree.Value e semi) = (begins_brace e ≡ false) × (begins_function e ≡ false) × Proper m e
  ProperStmt m inside (tree.If test then_stmt else_stmt) = Proper m test × (is_statement then_stmt ≡ true) × ProperStmt m inside then_stmt × ElseIsNearest then_stmt else_stmt × ProperElse m inside else_stmt
  ProperStmt m inside (tree.Do body test semi) = (is_statement body ≡ true) × ProperStmt m inside body × Proper m test
  ProperStmt m inside (tree.While test body) = Proper m test × (is_statement body ≡ true) × ProperStmt m inside body
  ProperStmt m inside (tree.For init test update body) = ProperInit m init × ProperOption m test × ProperOption m update × (is_statement body ≡ true) × ProperStmt m inside body
  ProperStmt m inside (tree.ForIn each over body) = ProperEach m each × Proper m over × (is_statement body ≡ true) × ProperStmt m inside body
  ProperStmt m inside (tree.Continue at label semi) = Unit {0}
  ProperStmt m inside (tree.Break at label semi) = Unit {0}
  ProperStmt m inside (tree.Return value semi) = (inside ≡ true) × ProperOption m value
  ProperStmt m inside (tree.Throw value semi) = Proper m value
  ProperStmt m inside (tree.Switch of cs) = Proper m of × (defaults cs ≤ 1) × ProperClauses m inside cs
  ProperStmt m inside (tree.Label name body) = (is_statement body ≡ true) × ProperStmt m inside body
  ProperStmt m inside (tree.Try body param handler) = ProperStmts m inside body × ProperStmts m inside handler
  ProperStmt m inside (tree.Declared f) = IsDeclaration f × ProperFunction m f

-- what is asked beside can be left out

inside_map : {P Q : Type 0} (b : Bodies) → (P → Q) → Inside b P → Inside b Q
inside_map whole f h = f h
inside_map passed f h = tt

mutual
  pub of_expr : (m : Mode) (a0 : Expr) → Proper m a0 → plain.Proper m.look a0
  of_expr m (tree.This at) h = h
  of_expr m (tree.Name name) h = h
  of_expr m (tree.Null at) h = h
  of_expr m (tree.True at) h = h
  of_expr m (tree.False at) h = h
  of_expr m (tree.Number at value) h = h
  of_expr m (tree.Str at end w) h = h
  of_expr m (tree.Template at first parts) h = of_parts m parts h
  of_expr m (tree.Array at is comma) h = (h.0, of_items m is h.1)
  of_expr m (tree.Object at ps comma) h = (h.0, of_props m ps h.1)
  of_expr m (tree.Func at f) h = (h.0, of_function m f h.1)
  of_expr m (tree.Paren at inner) h = of_expr m inner h
  of_expr m (tree.Chain head tails) h = (h.0, of_expr m head h.1, h.2, of_tails m tails h.3)
  of_expr m (tree.New at callee args) h = (h.0, of_expr m callee h.1, of_args m args h.2)
  of_expr m (tree.Unary at op of is_word) h = (h.0, h.1, of_expr m of h.2)
  of_expr m (tree.Update at op prefix of) h = (h.0, h.1, of_expr m of h.2)
  of_expr m (tree.Binary first rest) h = (h.0, h.1, h.2, of_expr m first h.3, of_operands m (operands_level rest) rest h.4)
  of_expr m (tree.Cond test then_value else_value) h = (h.0, of_expr m test h.1, h.2, of_expr m then_value h.3, h.4, of_expr m else_value h.5)
  of_expr m (tree.Assign op target value) h = (h.0, h.1, of_expr m target h.2, h.3, of_expr m value h.4)
  of_expr m (tree.Comma es) h = (h.0, of_exprs m es h.1)

  pub of_exprs : (m : Mode) (a0 : Exprs) → ProperExprs m a0 → plain.ProperExprs m.look a0
  of_exprs m no_exprs h = h
  of_exprs m (more_exprs e es) h = (h.0, of_expr m e h.1, of_exprs m es h.2)

  pub of_maybe : (m : Mode) (a0 : MaybeExpr) → ProperMaybe m a0 → plain.ProperMaybe m.look a0
  of_maybe m no_expr h = h
  of_maybe m (some_expr e) h = (h.0, of_expr m e h.1)

  pub of_option : (m : Mode) (a0 : MaybeExpr) → ProperOption m a0 → plain.ProperOption m.look a0
  of_option m no_expr h = h
  of_option m (some_expr e) h = of_expr m e h

  pub of_args : (m : Mode) (a0 : MaybeArgs) → ProperArgs m a0 → plain.ProperArgs m.look a0
  of_args m no_args h = h
  of_args m (some_args es comma) h = (h.0, of_exprs m es h.1)

  pub of_parts : (m : Mode) (a0 : Parts) → ProperParts m a0 → plain.ProperParts m.look a0
  of_parts m no_parts h = h
  of_parts m (more_parts value behind rest) h = (of_expr m value h.0, of_parts m rest h.1)

  pub of_items : (m : Mode) (a0 : Items) → ProperItems m a0 → plain.ProperItems m.look a0
  of_items m no_items h = h
  of_items m (more_items i is) h = (of_maybe m i h.0, of_items m is h.1)

  pub of_operands : (m : Mode) (a0 : ℕ) (a1 : Operands) → ProperOperands m a0 a1 → plain.ProperOperands m.look a0 a1
  of_operands m n no_operands h = h
  of_operands m n (more_operands op is_word value rest) h = (h.0, h.1, of_expr m value h.2, of_operands m n rest h.3)

  pub of_tails : (m : Mode) (a0 : Tails) → ProperTails m a0 → plain.ProperTails m.look a0
  of_tails m no_tails h = h
  of_tails m (more_tails t ts) h = (of_tail m t h.0, of_tails m ts h.1)

  pub of_tail : (m : Mode) (a0 : Tail) → ProperTail m a0 → plain.ProperTail m.look a0
  of_tail m (tree.Dot w) h = h
  of_tail m (tree.Index e) h = of_expr m e h
  of_tail m (tree.Call es comma) h = (h.0, of_exprs m es h.1)

  pub of_key : (m : Mode) (a0 : Key) → ProperKey m a0 → plain.ProperKey m.look a0
  of_key m (tree.WordKey n) h = h
  of_key m (tree.StrKey n) h = h
  of_key m (tree.NumberKey at value) h = h
  of_key m (tree.ComputedKey e) h = (h.0, of_expr m e h.1)

  pub of_prop : (m : Mode) (a0 : Prop) → ProperProp m a0 → plain.ProperProp m.look a0
  of_prop m (tree.Short n) h = h
  of_prop m (tree.Pair key value) h = (of_key m key h.0, h.1, of_expr m value h.2)
  of_prop m (tree.Method key f) h = (of_key m key h.0, h.1, of_function m f h.2)
  of_prop m (tree.Get key f) h = (of_key m key h.0, h.1, of_function m f h.2)
  of_prop m (tree.Set key f) h = (of_key m key h.0, h.1, of_function m f h.2)

  pub of_props : (m : Mode) (a0 : Props) → ProperProps m a0 → plain.ProperProps m.look a0
  of_props m no_props h = h
  of_props m (more_props p ps) h = (of_prop m p h.0, of_props m ps h.1)

  pub of_function : (m : Mode) (a0 : Function) → ProperFunction m a0 → plain.ProperFunction m.look a0
  of_function m (function form start end name ps comma bare body) h = (h.0, h.1, h.2, of_params m ps h.3, of_body m form start body h.4)

  pub of_params : (m : Mode) (a0 : Params) → ProperParams m a0 → plain.ProperParams m.look a0
  of_params m no_params h = h
  of_params m (more_params name value rest ps) h = (of_maybe m value h.0, of_params m ps h.1)

  pub of_body : (m : Mode) (a0 : FuncForm) (a1 : ℕ) (a2 : Body) → ProperBody m a0 a1 a2 → plain.ProperBody m.look a0 a2
  of_body m form start (tree.BracedBody items) h = inside_map m.look (of_stmts m true items) h.0
  of_body m form start (tree.ShortBody value) h = (h.0, h.1, h.2, of_expr m value h.3)

  pub of_binds : (m : Mode) (a0 : Binds) → ProperBinds m a0 → plain.ProperBinds m.look a0
  of_binds m no_binds h = h
  of_binds m (more_binds name value bs) h = (of_maybe m value h.0, of_binds m bs h.1)

  pub of_init : (m : Mode) (a0 : Init) → ProperInit m a0 → plain.ProperInit m.look a0
  of_init m tree.NoInit h = h
  of_init m (tree.ValueInit e) h = (h.0, of_expr m e h.1)
  of_init m (tree.BindsInit decl bs) h = (h.0, h.1, of_binds m bs h.2)

  pub of_each : (m : Mode) (a0 : Each) → ProperEach m a0 → plain.ProperEach m.look a0
  of_each m (tree.TargetEach e) h = (h.0, of_expr m e h.1)
  of_each m (tree.BindEach decl name) h = h

  pub of_clauses : (m : Mode) (a0 : Bool) (a1 : Clauses) → ProperClauses m a0 a1 → plain.ProperClauses m.look a0 a1
  of_clauses m inside no_clauses h = h
  of_clauses m inside (more_clauses test items cs) h = (of_option m test h.0, of_stmts m inside items h.1, of_clauses m inside cs h.2)

  pub of_stmts : (m : Mode) (a0 : Bool) (a1 : Stmts) → ProperStmts m a0 a1 → plain.ProperStmts m.look a0 a1
  of_stmts m inside no_stmts h = h
  of_stmts m inside (more_stmts s ss) h = (of_stmt m inside s h.0, of_stmts m inside ss h.1)

  pub of_else : (m : Mode) (a0 : Bool) (a1 : MaybeStmt) → ProperElse m a0 a1 → plain.ProperElse m.look a0 a1
  of_else m inside no_stmt h = h
  of_else m inside (some_stmt s) h = (h.0, of_stmt m inside s h.1)

  pub of_stmt : (m : Mode) (a0 : Bool) (a1 : Stmt) → ProperStmt m a0 a1 → plain.ProperStmt m.look a0 a1
  of_stmt m inside (tree.Block items) h = of_stmts m inside items h
  of_stmt m inside tree.Empty h = h
  of_stmt m inside (tree.Debugger semi) h = h
  of_stmt m inside (tree.Binding decl bs semi) h = (h.0, of_binds m bs h.1)
  of_stmt m inside (tree.Value e semi) h = (h.0, h.1, of_expr m e h.2)
  of_stmt m inside (tree.If test then_stmt else_stmt) h = (of_expr m test h.0, h.1, of_stmt m inside then_stmt h.2, h.3, of_else m inside else_stmt h.4)
  of_stmt m inside (tree.Do body test semi) h = (h.0, of_stmt m inside body h.1, of_expr m test h.2)
  of_stmt m inside (tree.While test body) h = (of_expr m test h.0, h.1, of_stmt m inside body h.2)
  of_stmt m inside (tree.For init test update body) h = (of_init m init h.0, of_option m test h.1, of_option m update h.2, h.3, of_stmt m inside body h.4)
  of_stmt m inside (tree.ForIn each over body) h = (of_each m each h.0, of_expr m over h.1, h.2, of_stmt m inside body h.3)
  of_stmt m inside (tree.Continue at label semi) h = h
  of_stmt m inside (tree.Break at label semi) h = h
  of_stmt m inside (tree.Return value semi) h = (h.0, of_option m value h.1)
  of_stmt m inside (tree.Throw value semi) h = of_expr m value h
  of_stmt m inside (tree.Switch of cs) h = (of_expr m of h.0, h.1, of_clauses m inside cs h.2)
  of_stmt m inside (tree.Label name body) h = (h.0, of_stmt m inside body h.1)
  of_stmt m inside (tree.Try body param handler) h = (of_stmts m inside body h.0, of_stmts m inside handler h.1)
  of_stmt m inside (tree.Declared f) h = (h.0, of_function m f h.1)

-- Where bodies are read in place, nothing is asked beside.

abbrev pub whole_mode : Mode
whole_mode = record { look = whole; keeps = λ start items. Unit {0} }

mutual
  pub in_expr : (a0 : Expr) → plain.Proper whole a0 → Proper whole_mode a0
  in_expr (tree.This at) h = h
  in_expr (tree.Name name) h = h
  in_expr (tree.Null at) h = h
  in_expr (tree.True at) h = h
  in_expr (tree.False at) h = h
  in_expr (tree.Number at value) h = h
  in_expr (tree.Str at end w) h = h
  in_expr (tree.Template at first parts) h = in_parts parts h
  in_expr (tree.Array at is comma) h = (h.0, in_items is h.1)
  in_expr (tree.Object at ps comma) h = (h.0, in_props ps h.1)
  in_expr (tree.Func at f) h = (h.0, in_function f h.1)
  in_expr (tree.Paren at inner) h = in_expr inner h
  in_expr (tree.Chain head tails) h = (h.0, in_expr head h.1, h.2, in_tails tails h.3)
  in_expr (tree.New at callee args) h = (h.0, in_expr callee h.1, in_args args h.2)
  in_expr (tree.Unary at op of is_word) h = (h.0, h.1, in_expr of h.2)
  in_expr (tree.Update at op prefix of) h = (h.0, h.1, in_expr of h.2)
  in_expr (tree.Binary first rest) h = (h.0, h.1, h.2, in_expr first h.3, in_operands (operands_level rest) rest h.4)
  in_expr (tree.Cond test then_value else_value) h = (h.0, in_expr test h.1, h.2, in_expr then_value h.3, h.4, in_expr else_value h.5)
  in_expr (tree.Assign op target value) h = (h.0, h.1, in_expr target h.2, h.3, in_expr value h.4)
  in_expr (tree.Comma es) h = (h.0, in_exprs es h.1)

  pub in_exprs : (a0 : Exprs) → plain.ProperExprs whole a0 → ProperExprs whole_mode a0
  in_exprs no_exprs h = h
  in_exprs (more_exprs e es) h = (h.0, in_expr e h.1, in_exprs es h.2)

  pub in_maybe : (a0 : MaybeExpr) → plain.ProperMaybe whole a0 → ProperMaybe whole_mode a0
  in_maybe no_expr h = h
  in_maybe (some_expr e) h = (h.0, in_expr e h.1)

  pub in_option : (a0 : MaybeExpr) → plain.ProperOption whole a0 → ProperOption whole_mode a0
  in_option no_expr h = h
  in_option (some_expr e) h = in_expr e h

  pub in_args : (a0 : MaybeArgs) → plain.ProperArgs whole a0 → ProperArgs whole_mode a0
  in_args no_args h = h
  in_args (some_args es comma) h = (h.0, in_exprs es h.1)

  pub in_parts : (a0 : Parts) → plain.ProperParts whole a0 → ProperParts whole_mode a0
  in_parts no_parts h = h
  in_parts (more_parts value behind rest) h = (in_expr value h.0, in_parts rest h.1)

  pub in_items : (a0 : Items) → plain.ProperItems whole a0 → ProperItems whole_mode a0
  in_items no_items h = h
  in_items (more_items i is) h = (in_maybe i h.0, in_items is h.1)

  pub in_operands : (a0 : ℕ) (a1 : Operands) → plain.ProperOperands whole a0 a1 → ProperOperands whole_mode a0 a1
  in_operands n no_operands h = h
  in_operands n (more_operands op is_word value rest) h = (h.0, h.1, in_expr value h.2, in_operands n rest h.3)

  pub in_tails : (a0 : Tails) → plain.ProperTails whole a0 → ProperTails whole_mode a0
  in_tails no_tails h = h
  in_tails (more_tails t ts) h = (in_tail t h.0, in_tails ts h.1)

  pub in_tail : (a0 : Tail) → plain.ProperTail whole a0 → ProperTail whole_mode a0
  in_tail (tree.Dot w) h = h
  in_tail (tree.Index e) h = in_expr e h
  in_tail (tree.Call es comma) h = (h.0, in_exprs es h.1)

  pub in_key : (a0 : Key) → plain.ProperKey whole a0 → ProperKey whole_mode a0
  in_key (tree.WordKey n) h = h
  in_key (tree.StrKey n) h = h
  in_key (tree.NumberKey at value) h = h
  in_key (tree.ComputedKey e) h = (h.0, in_expr e h.1)

  pub in_prop : (a0 : Prop) → plain.ProperProp whole a0 → ProperProp whole_mode a0
  in_prop (tree.Short n) h = h
  in_prop (tree.Pair key value) h = (in_key key h.0, h.1, in_expr value h.2)
  in_prop (tree.Method key f) h = (in_key key h.0, h.1, in_function f h.2)
  in_prop (tree.Get key f) h = (in_key key h.0, h.1, in_function f h.2)
  in_prop (tree.Set key f) h = (in_key key h.0, h.1, in_function f h.2)

  pub in_props : (a0 : Props) → plain.ProperProps whole a0 → ProperProps whole_mode a0
  in_props no_props h = h
  in_props (more_props p ps) h = (in_prop p h.0, in_props ps h.1)

  pub in_function : (a0 : Function) → plain.ProperFunction whole a0 → ProperFunction whole_mode a0
  in_function (function form start end name ps comma bare body) h = (h.0, h.1, h.2, in_params ps h.3, in_body form start body h.4)

  pub in_params : (a0 : Params) → plain.ProperParams whole a0 → ProperParams whole_mode a0
  in_params no_params h = h
  in_params (more_params name value rest ps) h = (in_maybe value h.0, in_params ps h.1)

  pub in_body : (a0 : FuncForm) (a1 : ℕ) (a2 : Body) → plain.ProperBody whole a0 a2 → ProperBody whole_mode a0 a1 a2
  in_body form start (tree.BracedBody items) h = (in_stmts true items h, tt)
  in_body form start (tree.ShortBody value) h = (h.0, h.1, h.2, in_expr value h.3)

  pub in_binds : (a0 : Binds) → plain.ProperBinds whole a0 → ProperBinds whole_mode a0
  in_binds no_binds h = h
  in_binds (more_binds name value bs) h = (in_maybe value h.0, in_binds bs h.1)

  pub in_init : (a0 : Init) → plain.ProperInit whole a0 → ProperInit whole_mode a0
  in_init tree.NoInit h = h
  in_init (tree.ValueInit e) h = (h.0, in_expr e h.1)
  in_init (tree.BindsInit decl bs) h = (h.0, h.1, in_binds bs h.2)

  pub in_each : (a0 : Each) → plain.ProperEach whole a0 → ProperEach whole_mode a0
  in_each (tree.TargetEach e) h = (h.0, in_expr e h.1)
  in_each (tree.BindEach decl name) h = h

  pub in_clauses : (a0 : Bool) (a1 : Clauses) → plain.ProperClauses whole a0 a1 → ProperClauses whole_mode a0 a1
  in_clauses inside no_clauses h = h
  in_clauses inside (more_clauses test items cs) h = (in_option test h.0, in_stmts inside items h.1, in_clauses inside cs h.2)

  pub in_stmts : (a0 : Bool) (a1 : Stmts) → plain.ProperStmts whole a0 a1 → ProperStmts whole_mode a0 a1
  in_stmts inside no_stmts h = h
  in_stmts inside (more_stmts s ss) h = (in_stmt inside s h.0, in_stmts inside ss h.1)

  pub in_else : (a0 : Bool) (a1 : MaybeStmt) → plain.ProperElse whole a0 a1 → ProperElse whole_mode a0 a1
  in_else inside no_stmt h = h
  in_else inside (some_stmt s) h = (h.0, in_stmt inside s h.1)

  pub in_stmt : (a0 : Bool) (a1 : Stmt) → plain.ProperStmt whole a0 a1 → ProperStmt whole_mode a0 a1
  in_stmt inside (tree.Block items) h = in_stmts inside items h
  in_stmt inside tree.Empty h = h
  in_stmt inside (tree.Debugger semi) h = h
  in_stmt inside (tree.Binding decl bs semi) h = (h.0, in_binds bs h.1)
  in_stmt inside (tree.Value e semi) h = (h.0, h.1, in_expr e h.2)
  in_stmt inside (tree.If test then_stmt else_stmt) h = (in_expr test h.0, h.1, in_stmt inside then_stmt h.2, h.3, in_else inside else_stmt h.4)
  in_stmt inside (tree.Do body test semi) h = (h.0, in_stmt inside body h.1, in_expr test h.2)
  in_stmt inside (tree.While test body) h = (in_expr test h.0, h.1, in_stmt inside body h.2)
  in_stmt inside (tree.For init test update body) h = (in_init init h.0, in_option test h.1, in_option update h.2, h.3, in_stmt inside body h.4)
  in_stmt inside (tree.ForIn each over body) h = (in_each each h.0, in_expr over h.1, h.2, in_stmt inside body h.3)
  in_stmt inside (tree.Continue at label semi) h = h
  in_stmt inside (tree.Break at label semi) h = h
  in_stmt inside (tree.Return value semi) h = (h.0, in_option value h.1)
  in_stmt inside (tree.Throw value semi) h = in_expr value h
  in_stmt inside (tree.Switch of cs) h = (in_expr of h.0, h.1, in_clauses inside cs h.2)
  in_stmt inside (tree.Label name body) h = (h.0, in_stmt inside body h.1)
  in_stmt inside (tree.Try body param handler) h = (in_stmts inside body h.0, in_stmts inside handler h.1)
  in_stmt inside (tree.Declared f) h = (h.0, in_function f h.1)
