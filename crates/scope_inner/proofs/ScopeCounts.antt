-- How many scopes a script and a function have.
use Rattle.std.proofs.Common.{◌≡◌, ℕ, suc, ◌+◌, List, [], ◌∷◌, ◌++◌, Bool, Option, length, length-append, refl, sym, ◌∙◌, ap, ap₂, arith, zero-add}
use Rattle.script_grammar.specs.Tree.{Function, function, Body, BracedBody, ShortBody, Clauses, no_clauses, more_clauses, Stmt, Stmts, no_stmts, more_stmts, MaybeStmt, no_stmt, some_stmt, Block, Empty, Debugger, Binding, Value, If, Do, While, For, ForIn, Continue, Break, Return, Throw, Switch, Label, Try, Declared}
use Rattle.stencil_data.specs.declared.functions.FuncKind.{FuncKind}
use Rattle.stencil_data.specs.declared.scopes.ScopeKind.{ScopeKind}
use Rattle.stencil_data.specs.declared.scopes.ScopeKind.TheVariants as scope
use Rattle.stencil_data.specs.Named.{NamedScope}
use Rattle.scope_analysis.specs.DeclaredNames.{Text, Declaration, lexical_names, clauses_lexical_names, top_lexical_names, init_lexical_names, each_lexical_names, has_initializer}
use Rattle.scope_analysis.specs.Scopes.{Within, inside, behind, scope_and, scope_around, scope_count, catch_names, count_stmt, count_stmts, count_else, count_clauses, for_inner, for_in_inner, block_inner, catch_inner, scopes_stmt, scopes_stmts, scopes_else, scopes_clauses, scopes_body, callee_names, body_var_names, body_var_inner, function_names, function_uses, function_scopes, global_names, script_scopes, outermost}
use Rattle.scope_analysis.specs.Uses.{uses_clauses}
use Rattle.scope_inner.specs.StmtFinds.{body_count}

one_more : (n : ℕ) → suc n ≡ 1 + n
one_more n = omega arith

both : (xs ys : List NamedScope) (m n : ℕ) → length xs ≡ m → length ys ≡ n → length (xs ++ ys) ≡ m + n
both xs ys m n one two = length-append xs ys ∙ ap₂ (λ (a b : ℕ). a + b) one two

around : (kind : ScopeKind) (ds : List Declaration) (names : List Text) (content : Within → List NamedScope) (n : ℕ) (w : Within) → ((v : Within) → length (content v) ≡ n) → length (scope_around kind ds names content w) ≡ scope_count ds + n
around kind [] names content n w all = all w ∙ sym (zero-add n)
around kind (d ∷ ds) names content n w all = ap suc (all (inside kind (d ∷ ds) names w)) ∙ one_more n

mutual
  of_stmt : (s : Stmt) (w : Within) → length (scopes_stmt s w) ≡ count_stmt s
  of_stmt (Block items) w = around scope.Lexical (lexical_names items) (block_inner items) (scopes_stmts items) (count_stmts items) w (of_stmts items)
  of_stmt Empty w = refl
  of_stmt (Debugger semi) w = refl
  of_stmt (Binding kind binds semi) w = refl
  of_stmt (Value value semi) w = refl
  of_stmt (If test then_stmt else_stmt) w = both (scopes_stmt then_stmt w) (scopes_else else_stmt (behind (count_stmt then_stmt) w)) (count_stmt then_stmt) (count_else else_stmt) (of_stmt then_stmt w) (of_else else_stmt (behind (count_stmt then_stmt) w))
  of_stmt (Do body test semi) w = of_stmt body w
  of_stmt (While test body) w = of_stmt body w
  of_stmt (For init test update body) w = around scope.Lexical (init_lexical_names init) (for_inner init test update body) (scopes_stmt body) (count_stmt body) w (of_stmt body)
  of_stmt (ForIn each over body) w = around scope.Lexical (each_lexical_names each) (for_in_inner each over body) (scopes_stmt body) (count_stmt body) w (of_stmt body)
  of_stmt (Continue at label semi) w = refl
  of_stmt (Break at label semi) w = refl
  of_stmt (Return value semi) w = refl
  of_stmt (Throw value semi) w = refl
  of_stmt (Switch of clauses) w = around scope.Lexical (clauses_lexical_names clauses) (uses_clauses clauses).inner (scopes_clauses clauses) (count_clauses clauses) w (of_clauses clauses)
  of_stmt (Label name body) w = of_stmt body w
  of_stmt (Try body param handler) w =
      both (scope_around scope.Lexical (lexical_names body) (block_inner body) (scopes_stmts body) w) _ (scope_count (lexical_names body) + count_stmts body) (scope_count (catch_names param) + (scope_count (lexical_names handler) + count_stmts handler))
      (around scope.Lexical (lexical_names body) (block_inner body) (scopes_stmts body) (count_stmts body) w (of_stmts body))
      (around scope.SimpleCatch (catch_names param) (catch_inner handler) (scope_around scope.Lexical (lexical_names handler) (block_inner handler) (scopes_stmts handler)) (scope_count (lexical_names handler) + count_stmts handler)
      (behind (scope_count (lexical_names body) + count_stmts body) w)
      (λ v. around scope.Lexical (lexical_names handler) (block_inner handler) (scopes_stmts handler) (count_stmts handler) v (of_stmts handler)))
  of_stmt (Declared f) w = refl

  of_stmts : (ss : Stmts) (w : Within) → length (scopes_stmts ss w) ≡ count_stmts ss
  of_stmts no_stmts w = refl
  of_stmts (more_stmts s rest) w = both (scopes_stmt s w) (scopes_stmts rest (behind (count_stmt s) w)) (count_stmt s) (count_stmts rest) (of_stmt s w) (of_stmts rest (behind (count_stmt s) w))

  of_else : (s : MaybeStmt) (w : Within) → length (scopes_else s w) ≡ count_else s
  of_else no_stmt w = refl
  of_else (some_stmt s) w = of_stmt s w

  of_clauses : (cs : Clauses) (w : Within) → length (scopes_clauses cs w) ≡ count_clauses cs
  of_clauses no_clauses w = refl
  of_clauses (more_clauses test items rest) w = both (scopes_stmts items w) (scopes_clauses rest (behind (count_stmts items) w)) (count_stmts items) (count_clauses rest) (of_stmts items w) (of_clauses rest (behind (count_stmts items) w))

pub of_script : (items : Stmts) → length (script_scopes items) ≡ 1 + count_stmts items
of_script items = ap suc (of_stmts items (inside scope.Global (global_names items) (block_inner items) outermost)) ∙ one_more (count_stmts items)

of_body : (initialized : Bool) (body : Body) (w : Within) → length (scopes_body initialized body w) ≡ body_count initialized body
of_body initialized (ShortBody value) w = refl
of_body initialized (BracedBody items) w =
    around scope.FunctionBodyVar (body_var_names initialized items) (body_var_inner items) (scope_around scope.FunctionLexical (top_lexical_names items) (block_inner items) (scopes_stmts items)) (scope_count (top_lexical_names items) + count_stmts items) w
    (λ v. around scope.FunctionLexical (top_lexical_names items) (block_inner items) (scopes_stmts items) (count_stmts items) v (of_stmts items))

abbrev pub all_count : FuncKind → Option Text → Function → ℕ
all_count kind name (function form start end own params comma bare body) = scope_count (callee_names kind name) + (1 + body_count (has_initializer params) body)

pub of_function : (kind : FuncKind) (name : Option Text) (f : Function) → length (function_scopes kind name f) ≡ all_count kind name f
of_function kind name (function form start end own params comma bare body) =
    around scope.StrictNamedLambda (callee_names kind name) _ (scope_and scope.Function (function_names form params body) (function_uses params body).inner (scopes_body (has_initializer params) body)) (1 + body_count (has_initializer params) body) outermost
    (λ v. ap suc (of_body (has_initializer params) body (inside scope.Function (function_names form params body) (function_uses params body).inner v)) ∙ one_more (body_count (has_initializer params) body))
