-- Which scope of a function is that of its body's var names.
use Rattle.std.proofs.Common.{◌≡◌, ◌+◌, Bool, false, List, [], ◌∷◌, ◌++◌, Option, refl}
use Rattle.script_grammar.specs.Tree.{Function, function, Body, BracedBody, ShortBody, Clauses, no_clauses, more_clauses, Stmt, Stmts, no_stmts, more_stmts, MaybeStmt, no_stmt, some_stmt, Block, Empty, Debugger, Binding, Value, If, Do, While, For, ForIn, Continue, Break, Return, Throw, Switch, Label, Try, Declared}
use Rattle.stencil_data.specs.declared.functions.FuncKind.{FuncKind}
use Rattle.stencil_data.specs.declared.scopes.ScopeKind.{ScopeKind}
use Rattle.stencil_data.specs.declared.scopes.ScopeKind.TheVariants as scope
use Rattle.stencil_data.specs.Named.{NamedScope}
use Rattle.scope_analysis.specs.DeclaredNames.{Text, Declaration, lexical_names, clauses_lexical_names, top_lexical_names, init_lexical_names, each_lexical_names, has_initializer}
use Rattle.scope_analysis.specs.Scopes.{Within, inside, behind, scope_and, scope_around, scope_count, catch_names, count_stmt, count_stmts, for_inner, for_in_inner, block_inner, catch_inner, scopes_stmt, scopes_stmts, scopes_else, scopes_clauses, scopes_body, callee_names, body_var_names, body_var_inner, function_names, function_uses, function_scopes, outermost}
use Rattle.scope_analysis.specs.Uses.{uses_clauses}
use Rattle.emit_stmts.specs.Declares.{declares}
use Rattle.emit_stmts.specs.Frames.{scope_at}
use Rattle.emit_functions.specs.BodyCode.{is_body_var, has_vars}

-- ---- no scope in statements is one of a body's var names

abbrev NoVars : List NamedScope → Type 0
NoVars [] = Unit {0}
NoVars (s ∷ ss) = (is_body_var s.kind ≡ false) × NoVars ss

both : (xs ys : List NamedScope) → NoVars xs → NoVars ys → NoVars (xs ++ ys)
both [] ys x y = y
both (s ∷ xs) ys x y = (x.0, both xs ys x.1 y)

around : (kind : ScopeKind) (ds : List Declaration) (names : List Text) (content : Within → List NamedScope) (w : Within) → is_body_var kind ≡ false → ((v : Within) → NoVars (content v)) → NoVars (scope_around kind ds names content w)
around kind [] names content w is all = all w
around kind (d ∷ ds) names content w is all = (is, all (inside kind (d ∷ ds) names w))

mutual
  in_stmt : (s : Stmt) (w : Within) → NoVars (scopes_stmt s w)
  in_stmt (Block items) w = around scope.Lexical (lexical_names items) (block_inner items) (scopes_stmts items) w refl (in_stmts items)
  in_stmt Empty w = tt
  in_stmt (Debugger semi) w = tt
  in_stmt (Binding kind binds semi) w = tt
  in_stmt (Value value semi) w = tt
  in_stmt (If test then_stmt else_stmt) w = both (scopes_stmt then_stmt w) (scopes_else else_stmt (behind (count_stmt then_stmt) w)) (in_stmt then_stmt w) (in_else else_stmt (behind (count_stmt then_stmt) w))
  in_stmt (Do body test semi) w = in_stmt body w
  in_stmt (While test body) w = in_stmt body w
  in_stmt (For init test update body) w = around scope.Lexical (init_lexical_names init) (for_inner init test update body) (scopes_stmt body) w refl (in_stmt body)
  in_stmt (ForIn each over body) w = around scope.Lexical (each_lexical_names each) (for_in_inner each over body) (scopes_stmt body) w refl (in_stmt body)
  in_stmt (Continue at label semi) w = tt
  in_stmt (Break at label semi) w = tt
  in_stmt (Return value semi) w = tt
  in_stmt (Throw value semi) w = tt
  in_stmt (Switch of clauses) w = around scope.Lexical (clauses_lexical_names clauses) (uses_clauses clauses).inner (scopes_clauses clauses) w refl (in_clauses clauses)
  in_stmt (Label name body) w = in_stmt body w
  in_stmt (Try body param handler) w =
      both (scope_around scope.Lexical (lexical_names body) (block_inner body) (scopes_stmts body) w) _
      (around scope.Lexical (lexical_names body) (block_inner body) (scopes_stmts body) w refl (in_stmts body))
      (around scope.SimpleCatch (catch_names param) (catch_inner handler) (scope_around scope.Lexical (lexical_names handler) (block_inner handler) (scopes_stmts handler))
      (behind (scope_count (lexical_names body) + count_stmts body) w) refl
      (λ v. around scope.Lexical (lexical_names handler) (block_inner handler) (scopes_stmts handler) v refl (in_stmts handler)))
  in_stmt (Declared f) w = tt

  in_stmts : (ss : Stmts) (w : Within) → NoVars (scopes_stmts ss w)
  in_stmts no_stmts w = tt
  in_stmts (more_stmts s rest) w = both (scopes_stmt s w) (scopes_stmts rest (behind (count_stmt s) w)) (in_stmt s w) (in_stmts rest (behind (count_stmt s) w))

  in_else : (s : MaybeStmt) (w : Within) → NoVars (scopes_else s w)
  in_else no_stmt w = tt
  in_else (some_stmt s) w = in_stmt s w

  in_clauses : (cs : Clauses) (w : Within) → NoVars (scopes_clauses cs w)
  in_clauses no_clauses w = tt
  in_clauses (more_clauses test items rest) w = both (scopes_stmts items w) (scopes_clauses rest (behind (count_stmts items) w)) (in_stmts items w) (in_clauses rest (behind (count_stmts items) w))

-- ---- the first scope of a body

first_none : (ss : List NamedScope) → NoVars ss → is_body_var (scope_at ss 0).kind ≡ false
first_none [] none = refl
first_none (s ∷ ss) none = none.0

first_some : (ds : List Declaration) (names : List Text) (content : Within → List NamedScope) (w : Within) → ((v : Within) → NoVars (content v)) → is_body_var (scope_at (scope_around scope.FunctionBodyVar ds names content w) 0).kind ≡ declares ds
first_some [] names content w none = first_none (content w) (none w)
first_some (d ∷ ds) names content w none = refl

body_first : (initialized : Bool) (body : Body) (w : Within) → is_body_var (scope_at (scopes_body initialized body w) 0).kind ≡ has_vars initialized body
body_first initialized (ShortBody value) w = refl
body_first initialized (BracedBody items) w =
    first_some (body_var_names initialized items) (body_var_inner items) (scope_around scope.FunctionLexical (top_lexical_names items) (block_inner items) (scopes_stmts items)) w
    (λ v. around scope.FunctionLexical (top_lexical_names items) (block_inner items) (scopes_stmts items) v refl (in_stmts items))

-- after the function's own
behind_own : (callee ds : List Declaration) (one two : List Text) (content : Within → List NamedScope) (flag : Bool) (w : Within) → ((v : Within) → is_body_var (scope_at (content v) 0).kind ≡ flag)
    → is_body_var (scope_at (scope_around scope.StrictNamedLambda callee one (scope_and scope.Function ds two content) w) (scope_count callee + 1)).kind ≡ flag
behind_own [] ds one two content flag w is = is (inside scope.Function ds two w)
behind_own (c ∷ cs) ds one two content flag w is = is (inside scope.Function ds two (inside scope.StrictNamedLambda (c ∷ cs) one w))

abbrev init_of : Function → Bool
init_of (function _ _ _ _ params _ _ _) = has_initializer params

abbrev body_of : Function → Body
body_of (function _ _ _ _ _ _ _ body) = body

-- the scope after a function's own is that of its body's var names exactly where it has some
pub vars_scope : (kind : FuncKind) (name : Option Text) (f : Function) → is_body_var (scope_at (function_scopes kind name f) (scope_count (callee_names kind name) + 1)).kind ≡ has_vars (init_of f) (body_of f)
vars_scope kind name (function form start end own params comma bare body) =
    behind_own (callee_names kind name) (function_names form params body) _ (function_uses params body).inner (scopes_body (has_initializer params) body) (has_vars (has_initializer params) body) outermost (body_first (has_initializer params) body)
