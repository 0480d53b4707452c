-- Which scopes of a function are its own, by their numbers.
use Rattle.std.proofs.Common.{◌≡◌, ℕ, ◌+◌, Bool, false, List, [], ◌∷◌, ◌++◌, Option, refl, subst, add-zero}
use Rattle.script_grammar.specs.Tree.{Function, function, Body, BracedBody, ShortBody, Clauses, no_clauses, more_clauses, Stmt, Stmts, no_stmts, more_stmts, MaybeStmt, no_stmt, some_stmt, Block, Empty, Debugger, Binding, Value, If, Do, While, For, ForIn, Continue, Break, Return, Throw, Switch, Label, Try, Declared}
use Rattle.stencil_data.specs.declared.functions.FuncKind.{FuncKind}
use Rattle.stencil_data.specs.declared.scopes.ScopeKind.{ScopeKind}
use Rattle.stencil_data.specs.declared.scopes.ScopeKind.TheVariants as scope
use Rattle.stencil_data.specs.Named.{NamedScope}
use Rattle.scope_analysis.specs.DeclaredNames.{Text, Declaration, lexical_names, clauses_lexical_names, top_lexical_names, init_lexical_names, each_lexical_names, has_initializer}
use Rattle.scope_analysis.specs.Scopes.{Within, inside, behind, scope_and, scope_around, scope_count, catch_names, count_stmt, count_stmts, for_inner, for_in_inner, block_inner, catch_inner, scopes_stmt, scopes_stmts, scopes_else, scopes_clauses, scopes_body, callee_names, body_var_names, body_var_inner, function_names, function_uses, function_scopes, outermost}
use Rattle.scope_analysis.specs.Uses.{uses_clauses}
use Rattle.emit_stmts.specs.Declares.{declares}
use Rattle.emit_stmts.specs.Frames.{scope_at}
use Rattle.scope_inner.specs.OwnKinds.{is_of_name, is_of_vars, is_of_top}
use Rattle.scope_inner.specs.StmtFinds.{vars_in, tops_in}

-- ---- no scope in statements is a function's own

-- neither that of var names nor that of the names at the top
abbrev IsInner : ScopeKind → Type 0
IsInner kind = (is_of_vars kind ≡ false) × (is_of_top kind ≡ false)

abbrev AllInner : List NamedScope → Type 0
AllInner [] = Unit {0}
AllInner (s ∷ ss) = IsInner s.kind × AllInner ss

both : (xs ys : List NamedScope) → AllInner xs → AllInner ys → AllInner (xs ++ ys)
both [] ys x y = y
both (s ∷ xs) ys x y = (x.0, both xs ys x.1 y)

around : (kind : ScopeKind) (ds : List Declaration) (names : List Text) (content : Within → List NamedScope) (w : Within) → IsInner kind → ((v : Within) → AllInner (content v)) → AllInner (scope_around kind ds names content w)
around kind [] names content w is all = all w
around kind (d ∷ ds) names content w is all = (is, all (inside kind (d ∷ ds) names w))

mutual
  in_stmt : (s : Stmt) (w : Within) → AllInner (scopes_stmt s w)
  in_stmt (Block items) w = around scope.Lexical (lexical_names items) (block_inner items) (scopes_stmts items) w (refl, refl) (in_stmts items)
  in_stmt Empty w = tt
  in_stmt (Debugger semi) w = tt
  in_stmt (Binding kind binds semi) w = tt
  in_stmt (Value value semi) w = tt
  in_stmt (If test then_stmt else_stmt) w = both (scopes_stmt then_stmt w) (scopes_else else_stmt (behind (count_stmt then_stmt) w)) (in_stmt then_stmt w) (in_else else_stmt (behind (count_stmt then_stmt) w))
  in_stmt (Do body test semi) w = in_stmt body w
  in_stmt (While test body) w = in_stmt body w
  in_stmt (For init test update body) w = around scope.Lexical (init_lexical_names init) (for_inner init test update body) (scopes_stmt body) w (refl, refl) (in_stmt body)
  in_stmt (ForIn each over body) w = around scope.Lexical (each_lexical_names each) (for_in_inner each over body) (scopes_stmt body) w (refl, refl) (in_stmt body)
  in_stmt (Continue at label semi) w = tt
  in_stmt (Break at label semi) w = tt
  in_stmt (Return value semi) w = tt
  in_stmt (Throw value semi) w = tt
  in_stmt (Switch of clauses) w = around scope.Lexical (clauses_lexical_names clauses) (uses_clauses clauses).inner (scopes_clauses clauses) w (refl, refl) (in_clauses clauses)
  in_stmt (Label name body) w = in_stmt body w
  in_stmt (Try body param handler) w =
      both (scope_around scope.Lexical (lexical_names body) (block_inner body) (scopes_stmts body) w) _
      (around scope.Lexical (lexical_names body) (block_inner body) (scopes_stmts body) w (refl, refl) (in_stmts body))
      (around scope.SimpleCatch (catch_names param) (catch_inner handler) (scope_around scope.Lexical (lexical_names handler) (block_inner handler) (scopes_stmts handler))
      (behind (scope_count (lexical_names body) + count_stmts body) w) (refl, refl)
      (λ v. around scope.Lexical (lexical_names handler) (block_inner handler) (scopes_stmts handler) v (refl, refl) (in_stmts handler)))
  in_stmt (Declared f) w = tt

  in_stmts : (ss : Stmts) (w : Within) → AllInner (scopes_stmts ss w)
  in_stmts no_stmts w = tt
  in_stmts (more_stmts s rest) w = both (scopes_stmt s w) (scopes_stmts rest (behind (count_stmt s) w)) (in_stmt s w) (in_stmts rest (behind (count_stmt s) w))

  in_else : (s : MaybeStmt) (w : Within) → AllInner (scopes_else s w)
  in_else no_stmt w = tt
  in_else (some_stmt s) w = in_stmt s w

  in_clauses : (cs : Clauses) (w : Within) → AllInner (scopes_clauses cs w)
  in_clauses no_clauses w = tt
  in_clauses (more_clauses test items rest) w = both (scopes_stmts items w) (scopes_clauses rest (behind (count_stmts items) w)) (in_stmts items w) (in_clauses rest (behind (count_stmts items) w))

first_inner : (ss : List NamedScope) → AllInner ss → IsInner (scope_at ss 0).kind
first_inner [] all = (refl, refl)
first_inner (s ∷ ss) all = all.0

-- ---- the first scopes of a body

-- of the names at its top
top_first : (ds : List Declaration) (names : List Text) (content : Within → List NamedScope) (w : Within) → ((v : Within) → AllInner (content v)) → is_of_top (scope_at (scope_around scope.FunctionLexical ds names content w) 0).kind ≡ declares ds
top_first [] names content w all = (first_inner (content w) (all w)).1
top_first (d ∷ ds) names content w all = refl

top_no_vars : (ds : List Declaration) (names : List Text) (content : Within → List NamedScope) (w : Within) → ((v : Within) → AllInner (content v)) → is_of_vars (scope_at (scope_around scope.FunctionLexical ds names content w) 0).kind ≡ false
top_no_vars [] names content w all = (first_inner (content w) (all w)).0
top_no_vars (d ∷ ds) names content w all = refl

-- of its var names, before those
vars_first : (ds : List Declaration) (names : List Text) (content : Within → List NamedScope) (w : Within) → ((v : Within) → is_of_vars (scope_at (content v) 0).kind ≡ false) → is_of_vars (scope_at (scope_around scope.FunctionBodyVar ds names content w) 0).kind ≡ declares ds
vars_first [] names content w none = none w
vars_first (d ∷ ds) names content w none = refl

top_behind : (ds : List Declaration) (names : List Text) (content : Within → List NamedScope) (flag : Bool) (w : Within) → ((v : Within) → is_of_top (scope_at (content v) 0).kind ≡ flag) → is_of_top (scope_at (scope_around scope.FunctionBodyVar ds names content w) (scope_count ds)).kind ≡ flag
top_behind [] names content flag w is = is w
top_behind (d ∷ ds) names content flag w is = is (inside scope.FunctionBodyVar (d ∷ ds) names w)

body_vars : (initialized : Bool) (body : Body) (w : Within) → is_of_vars (scope_at (scopes_body initialized body w) 0).kind ≡ declares (vars_in initialized body)
body_vars initialized (ShortBody value) w = refl
body_vars initialized (BracedBody items) w =
    vars_first (body_var_names initialized items) (body_var_inner items) (scope_around scope.FunctionLexical (top_lexical_names items) (block_inner items) (scopes_stmts items)) w
    (λ v. top_no_vars (top_lexical_names items) (block_inner items) (scopes_stmts items) v (in_stmts items))

body_top : (initialized : Bool) (body : Body) (w : Within) → is_of_top (scope_at (scopes_body initialized body w) (scope_count (vars_in initialized body))).kind ≡ declares (tops_in body)
body_top initialized (ShortBody value) w = refl
body_top initialized (BracedBody items) w =
    top_behind (body_var_names initialized items) (body_var_inner items) (scope_around scope.FunctionLexical (top_lexical_names items) (block_inner items) (scopes_stmts items)) (declares (top_lexical_names items)) w
    (λ v. top_first (top_lexical_names items) (block_inner items) (scopes_stmts items) v (in_stmts items))

-- ---- after the function's own scope and that of its name

-- n more scopes
behind_own : (test : ScopeKind → Bool) (callee ds more : List Declaration) (one two : List Text) (content : Within → List NamedScope) (flag : Bool) (w : Within) → ((v : Within) → test (scope_at (content v) (scope_count more)).kind ≡ flag)
    → test (scope_at (scope_around scope.StrictNamedLambda callee one (scope_and scope.Function ds two content) w) (scope_count callee + 1 + scope_count more)).kind ≡ flag
behind_own test [] ds [] one two content flag w is = is (inside scope.Function ds two w)
behind_own test [] ds (m ∷ ms) one two content flag w is = is (inside scope.Function ds two w)
behind_own test (c ∷ cs) ds [] one two content flag w is = is (inside scope.Function ds two (inside scope.StrictNamedLambda (c ∷ cs) one w))
behind_own test (c ∷ cs) ds (m ∷ ms) one two content flag w is = is (inside scope.Function ds two (inside scope.StrictNamedLambda (c ∷ cs) one w))

name_first : (callee ds : List Declaration) (one two : List Text) (content : Within → List NamedScope) (w : Within) → is_of_name (scope_at (scope_around scope.StrictNamedLambda callee one (scope_and scope.Function ds two content) w) 0).kind ≡ declares callee
name_first [] ds one two content w = refl
name_first (c ∷ cs) ds one two content w = refl

abbrev pub initialized_in : Function → Bool
initialized_in (function _ _ _ _ params _ _ body) = has_initializer params

abbrev pub body_in : Function → Body
body_in (function _ _ _ _ _ _ _ body) = body

-- the first scope is that of the function's name exactly where it has one
pub name_scope : (kind : FuncKind) (name : Option Text) (f : Function) → is_of_name (scope_at (function_scopes kind name f) 0).kind ≡ declares (callee_names kind name)
name_scope kind name (function form start end own params comma bare body) =
    name_first (callee_names kind name) (function_names form params body) _ (function_uses params body).inner (scopes_body (has_initializer params) body) outermost

-- after the function's own is that of its body's var names, where it has some
pub vars_scope : (kind : FuncKind) (name : Option Text) (f : Function) → is_of_vars (scope_at (function_scopes kind name f) (scope_count (callee_names kind name) + 1)).kind ≡ declares (vars_in (initialized_in f) (body_in f))
vars_scope kind name (function form start end own params comma bare body) =
    subst (λ (n : ℕ). is_of_vars (scope_at (function_scopes kind name (function form start end own params comma bare body)) n).kind ≡ declares (vars_in (has_initializer params) body)) (add-zero (scope_count (callee_names kind name) + 1))
    (behind_own is_of_vars (callee_names kind name) (function_names form params body) [] _ (function_uses params body).inner (scopes_body (has_initializer params) body) (declares (vars_in (has_initializer params) body)) outermost (body_vars (has_initializer params) body))

-- and then that of the lexical names at its top
pub top_scope : (kind : FuncKind) (name : Option Text) (f : Function) → is_of_top (scope_at (function_scopes kind name f) (scope_count (callee_names kind name) + 1 + scope_count (vars_in (initialized_in f) (body_in f)))).kind ≡ declares (tops_in (body_in f))
top_scope kind name (function form start end own params comma bare body) =
    behind_own is_of_top (callee_names kind name) (function_names form params body) (vars_in (has_initializer params) body) _ (function_uses params body).inner (scopes_body (has_initializer params) body) (declares (tops_in body)) outermost (body_top (has_initializer params) body)
