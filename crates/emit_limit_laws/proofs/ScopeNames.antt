-- The scopes of statements: no more of them than they have names, and their slots fit where their names are few.
use Rattle.std.proofs.Common.{◌≡◌, ℕ, ◌+◌, ◌^◌, ◌≤◌, List, ◌++◌, length, refl, arith}
use Rattle.std.proofs.lemmas.List.{length-append}
use Rattle.script_grammar.specs.declared.token.Decl.{Decl}
use Rattle.script_grammar.specs.declared.token.Decl.TheVariants as decl
use Rattle.script_grammar.specs.Tree.{Binds, Init, NoInit, ValueInit, BindsInit, Each, TargetEach, BindEach, Clauses, no_clauses, more_clauses, Stmt, Stmts, no_stmts, more_stmts, MaybeStmt, no_stmt, some_stmt, Block, Empty, Debugger, Binding, Value, If, Do, While, For, ForIn, Continue, Break, Return, Throw, Switch, Label, Try, Declared}
use Rattle.stencil_data.specs.declared.scopes.BindKind.TheVariants as bind
use Rattle.stencil_data.specs.declared.scopes.ScopeKind.TheVariants as scope
use Rattle.stencil_data.specs.Named.{NamedScope}
use Rattle.scope_analysis.specs.DeclaredNames.{bound_names, name_list, function_name, lexical_binds, lexical_name, lexical_names, clauses_lexical_names, init_lexical_names, each_lexical_names, top_lexical_name, top_lexical_names}
use Rattle.scope_analysis.specs.Scopes.{Within, behind, scope_around, scope_count, catch_names, count_stmt, count_stmts, count_else, count_clauses, for_inner, for_in_inner, block_inner, catch_inner, scopes_stmt, scopes_stmts, scopes_else, scopes_clauses}
use Rattle.scope_analysis.specs.Uses.{uses_clauses}
use Rattle.scope_analysis.specs.Walked.{ScopesFit}
use Rattle.emit_limit_laws.specs.Names.{names_stmt, names_stmts, names_else, names_clauses}
use Rattle.emit_limit_laws.proofs.Slots.{param_count, param_both, no_params_in, fit_both, around_fits, around_few, scope_count_few}

-- ---- lexical names are no parameters

binds_plain : (kind : Decl) (binds : Binds) → param_count (lexical_binds kind binds) ≡ 0
binds_plain decl.Var binds = refl
binds_plain decl.Let binds = no_params_in bind.Let (bound_names binds) refl
binds_plain decl.Const binds = no_params_in bind.Const (bound_names binds) refl

lexical_plain : (s : Stmt) → param_count (lexical_name s) ≡ 0
lexical_plain (Binding kind binds semi) = binds_plain kind binds
lexical_plain (Declared f) = no_params_in bind.Function (name_list (function_name f)) refl
lexical_plain _ = refl

pub names_plain : (items : Stmts) → param_count (lexical_names items) ≡ 0
names_plain no_stmts = refl
names_plain (more_stmts s rest) =
    let e = param_both (lexical_name s) (lexical_names rest) in
    let h = lexical_plain s in
    let k = names_plain rest in
    omega (arith, e, h, k)

clauses_plain : (clauses : Clauses) → param_count (clauses_lexical_names clauses) ≡ 0
clauses_plain no_clauses = refl
clauses_plain (more_clauses test items rest) =
    let e = param_both (lexical_names items) (clauses_lexical_names rest) in
    let h = names_plain items in
    let k = clauses_plain rest in
    omega (arith, e, h, k)

top_plain : (s : Stmt) → param_count (top_lexical_name s) ≡ 0
top_plain (Binding kind binds semi) = binds_plain kind binds
top_plain _ = refl

pub top_names_plain : (items : Stmts) → param_count (top_lexical_names items) ≡ 0
top_names_plain no_stmts = refl
top_names_plain (more_stmts s rest) =
    let e = param_both (top_lexical_name s) (top_lexical_names rest) in
    let h = top_plain s in
    let k = top_names_plain rest in
    omega (arith, e, h, k)

init_plain : (init : Init) → param_count (init_lexical_names init) ≡ 0
init_plain NoInit = refl
init_plain (ValueInit e) = refl
init_plain (BindsInit kind binds) = binds_plain kind binds

each_plain : (each : Each) → param_count (each_lexical_names each) ≡ 0
each_plain (BindEach decl.Var name) = refl
each_plain (BindEach decl.Let name) = refl
each_plain (BindEach decl.Const name) = refl
each_plain (TargetEach target) = refl

none_many : {n : ℕ} → n ≡ 0 → n ≤ 2 ^ 16
none_many e = omega (arith, e)

-- ---- slots

mutual
  pub stmt_scopes_fit : (x : Stmt) (w : Within) → w.frame + names_stmt x ≤ 2 ^ 24 → ScopesFit (scopes_stmt x w)
  stmt_scopes_fit (Block items) w h = around_fits scope.Lexical (lexical_names items) (block_inner items) (scopes_stmts items) w (names_stmts items) (none_many (names_plain items)) h (stmts_scopes_fit items)
  stmt_scopes_fit Empty w h = tt
  stmt_scopes_fit (Debugger semi) w h = tt
  stmt_scopes_fit (Binding kind binds semi) w h = tt
  stmt_scopes_fit (Value value semi) w h = tt
  stmt_scopes_fit (If test then_stmt else_stmt) w h = fit_both (scopes_stmt then_stmt w) (scopes_else else_stmt (behind (count_stmt then_stmt) w)) (stmt_scopes_fit then_stmt w (omega (arith, h))) (else_scopes_fit else_stmt (behind (count_stmt then_stmt) w) (omega (arith, h)))
  stmt_scopes_fit (Do body test semi) w h = stmt_scopes_fit body w h
  stmt_scopes_fit (While test body) w h = stmt_scopes_fit body w h
  stmt_scopes_fit (For init test update body) w h = around_fits scope.Lexical (init_lexical_names init) (for_inner init test update body) (scopes_stmt body) w (names_stmt body) (none_many (init_plain init)) h (stmt_scopes_fit body)
  stmt_scopes_fit (ForIn each over body) w h = around_fits scope.Lexical (each_lexical_names each) (for_in_inner each over body) (scopes_stmt body) w (names_stmt body) (none_many (each_plain each)) h (stmt_scopes_fit body)
  stmt_scopes_fit (Continue at label semi) w h = tt
  stmt_scopes_fit (Break at label semi) w h = tt
  stmt_scopes_fit (Return value semi) w h = tt
  stmt_scopes_fit (Throw value semi) w h = tt
  stmt_scopes_fit (Switch of clauses) w h = around_fits scope.Lexical (clauses_lexical_names clauses) (uses_clauses clauses).inner (scopes_clauses clauses) w (names_clauses clauses) (none_many (clauses_plain clauses)) h (clauses_scopes_fit clauses)
  stmt_scopes_fit (Label name body) w h = stmt_scopes_fit body w h
  stmt_scopes_fit (Try body param handler) w h =
      fit_both (scope_around scope.Lexical (lexical_names body) (block_inner body) (scopes_stmts body) w)
      (scope_around scope.SimpleCatch (catch_names param) (catch_inner handler) (scope_around scope.Lexical (lexical_names handler) (block_inner handler) (scopes_stmts handler)) (behind (scope_count (lexical_names body) + count_stmts body) w))
      (around_fits scope.Lexical (lexical_names body) (block_inner body) (scopes_stmts body) w (names_stmts body) (none_many (names_plain body)) (omega (arith, h)) (stmts_scopes_fit body))
      (around_fits scope.SimpleCatch (catch_names param) (catch_inner handler) (scope_around scope.Lexical (lexical_names handler) (block_inner handler) (scopes_stmts handler)) (behind (scope_count (lexical_names body) + count_stmts body) w)
      (length (lexical_names handler) + names_stmts handler) (none_many (no_params_in bind.Catch (name_list param) refl)) (omega (arith, h))
      (λ v k. around_fits scope.Lexical (lexical_names handler) (block_inner handler) (scopes_stmts handler) v (names_stmts handler) (none_many (names_plain handler)) k (stmts_scopes_fit handler)))
  stmt_scopes_fit (Declared f) w h = tt

  pub stmts_scopes_fit : (x : Stmts) (w : Within) → w.frame + names_stmts x ≤ 2 ^ 24 → ScopesFit (scopes_stmts x w)
  stmts_scopes_fit no_stmts w h = tt
  stmts_scopes_fit (more_stmts s rest) w h = fit_both (scopes_stmt s w) (scopes_stmts rest (behind (count_stmt s) w)) (stmt_scopes_fit s w (omega (arith, h))) (stmts_scopes_fit rest (behind (count_stmt s) w) (omega (arith, h)))

  else_scopes_fit : (x : MaybeStmt) (w : Within) → w.frame + names_else x ≤ 2 ^ 24 → ScopesFit (scopes_else x w)
  else_scopes_fit no_stmt w h = tt
  else_scopes_fit (some_stmt s) w h = stmt_scopes_fit s w h

  clauses_scopes_fit : (x : Clauses) (w : Within) → w.frame + names_clauses x ≤ 2 ^ 24 → ScopesFit (scopes_clauses x w)
  clauses_scopes_fit no_clauses w h = tt
  clauses_scopes_fit (more_clauses test items rest) w h = fit_both (scopes_stmts items w) (scopes_clauses rest (behind (count_stmts items) w)) (stmts_scopes_fit items w (omega (arith, h))) (clauses_scopes_fit rest (behind (count_stmts items) w) (omega (arith, h)))

-- ---- how many scopes

both_few : {m n : ℕ} (ss ts : List NamedScope) → length ss ≤ m → length ts ≤ n → length (ss ++ ts) ≤ m + n
both_few ss ts h k = let e = length-append ss ts in omega (arith, e, h, k)

mutual
  pub stmt_scopes_few : (x : Stmt) (w : Within) → length (scopes_stmt x w) ≤ count_stmt x
  stmt_scopes_few (Block items) w = around_few scope.Lexical (lexical_names items) (block_inner items) (scopes_stmts items) w (count_stmts items) (stmts_scopes_few items)
  stmt_scopes_few Empty w = omega arith
  stmt_scopes_few (Debugger semi) w = omega arith
  stmt_scopes_few (Binding kind binds semi) w = omega arith
  stmt_scopes_few (Value value semi) w = omega arith
  stmt_scopes_few (If test then_stmt else_stmt) w = both_few (scopes_stmt then_stmt w) (scopes_else else_stmt (behind (count_stmt then_stmt) w)) (stmt_scopes_few then_stmt w) (else_scopes_few else_stmt (behind (count_stmt then_stmt) w))
  stmt_scopes_few (Do body test semi) w = stmt_scopes_few body w
  stmt_scopes_few (While test body) w = stmt_scopes_few body w
  stmt_scopes_few (For init test update body) w = around_few scope.Lexical (init_lexical_names init) (for_inner init test update body) (scopes_stmt body) w (count_stmt body) (stmt_scopes_few body)
  stmt_scopes_few (ForIn each over body) w = around_few scope.Lexical (each_lexical_names each) (for_in_inner each over body) (scopes_stmt body) w (count_stmt body) (stmt_scopes_few body)
  stmt_scopes_few (Continue at label semi) w = omega arith
  stmt_scopes_few (Break at label semi) w = omega arith
  stmt_scopes_few (Return value semi) w = omega arith
  stmt_scopes_few (Throw value semi) w = omega arith
  stmt_scopes_few (Switch of clauses) w = around_few scope.Lexical (clauses_lexical_names clauses) (uses_clauses clauses).inner (scopes_clauses clauses) w (count_clauses clauses) (clauses_scopes_few clauses)
  stmt_scopes_few (Label name body) w = stmt_scopes_few body w
  stmt_scopes_few (Try body param handler) w =
      both_few (scope_around scope.Lexical (lexical_names body) (block_inner body) (scopes_stmts body) w)
      (scope_around scope.SimpleCatch (catch_names param) (catch_inner handler) (scope_around scope.Lexical (lexical_names handler) (block_inner handler) (scopes_stmts handler)) (behind (scope_count (lexical_names body) + count_stmts body) w))
      (around_few scope.Lexical (lexical_names body) (block_inner body) (scopes_stmts body) w (count_stmts body) (stmts_scopes_few body))
      (around_few scope.SimpleCatch (catch_names param) (catch_inner handler) (scope_around scope.Lexical (lexical_names handler) (block_inner handler) (scopes_stmts handler)) (behind (scope_count (lexical_names body) + count_stmts body) w)
      (scope_count (lexical_names handler) + count_stmts handler)
      (λ v. around_few scope.Lexical (lexical_names handler) (block_inner handler) (scopes_stmts handler) v (count_stmts handler) (stmts_scopes_few handler)))
  stmt_scopes_few (Declared f) w = omega arith

  pub stmts_scopes_few : (x : Stmts) (w : Within) → length (scopes_stmts x w) ≤ count_stmts x
  stmts_scopes_few no_stmts w = omega arith
  stmts_scopes_few (more_stmts s rest) w = both_few (scopes_stmt s w) (scopes_stmts rest (behind (count_stmt s) w)) (stmt_scopes_few s w) (stmts_scopes_few rest (behind (count_stmt s) w))

  else_scopes_few : (x : MaybeStmt) (w : Within) → length (scopes_else x w) ≤ count_else x
  else_scopes_few no_stmt w = omega arith
  else_scopes_few (some_stmt s) w = stmt_scopes_few s w

  clauses_scopes_few : (x : Clauses) (w : Within) → length (scopes_clauses x w) ≤ count_clauses x
  clauses_scopes_few no_clauses w = omega arith
  clauses_scopes_few (more_clauses test items rest) w = both_few (scopes_stmts items w) (scopes_clauses rest (behind (count_stmts items) w)) (stmts_scopes_few items w) (clauses_scopes_few rest (behind (count_stmts items) w))

mutual
  count_few : (x : Stmt) → count_stmt x ≤ names_stmt x
  count_few (Block items) = let a = scope_count_few (lexical_names items) in let h = counts_few items in omega (arith, a, h)
  count_few Empty = omega arith
  count_few (Debugger semi) = omega arith
  count_few (Binding kind binds semi) = omega arith
  count_few (Value value semi) = omega arith
  count_few (If test then_stmt else_stmt) = let h = count_few then_stmt in let k = else_few else_stmt in omega (arith, h, k)
  count_few (Do body test semi) = count_few body
  count_few (While test body) = count_few body
  count_few (For init test update body) = let a = scope_count_few (init_lexical_names init) in let h = count_few body in omega (arith, a, h)
  count_few (ForIn each over body) = let a = scope_count_few (each_lexical_names each) in let h = count_few body in omega (arith, a, h)
  count_few (Continue at label semi) = omega arith
  count_few (Break at label semi) = omega arith
  count_few (Return value semi) = omega arith
  count_few (Throw value semi) = omega arith
  count_few (Switch of clauses) = let a = scope_count_few (clauses_lexical_names clauses) in let h = clauses_few clauses in omega (arith, a, h)
  count_few (Label name body) = count_few body
  count_few (Try body param handler) =
      let a = scope_count_few (lexical_names body) in
      let b = scope_count_few (catch_names param) in
      let c = scope_count_few (lexical_names handler) in
      let h = counts_few body in
      let k = counts_few handler in
      omega (arith, a, b, c, h, k)
  count_few (Declared f) = omega arith

  pub counts_few : (x : Stmts) → count_stmts x ≤ names_stmts x
  counts_few no_stmts = omega arith
  counts_few (more_stmts s rest) = let h = count_few s in let k = counts_few rest in omega (arith, h, k)

  else_few : (x : MaybeStmt) → count_else x ≤ names_else x
  else_few no_stmt = omega arith
  else_few (some_stmt s) = count_few s

  clauses_few : (x : Clauses) → count_clauses x ≤ names_clauses x
  clauses_few no_clauses = omega arith
  clauses_few (more_clauses test items rest) = let h = counts_few items in let k = clauses_few rest in omega (arith, h, k)
