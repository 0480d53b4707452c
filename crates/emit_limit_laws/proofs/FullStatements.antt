-- Where no name at a place of the print of statements is empty, neither is one that they declare, nor one of their scopes.
use Rattle.std.proofs.Common.{ℕ, suc, ◌+◌, Option}
use Rattle.script_grammar.specs.declared.token.Decl.{Decl}
use Rattle.script_grammar.specs.declared.token.Decl.TheVariants as decl
use Rattle.script_grammar.specs.Tree.{Named, Function, function, Params, no_params, more_params, Binds, no_binds, more_binds, Init, NoInit, ValueInit, BindsInit, Each, TargetEach, BindEach, Clauses, no_clauses, more_clauses, Stmt, Stmts, no_stmts, more_stmts, MaybeStmt, no_stmt, some_stmt}
use Rattle.script_grammar.specs.Tree as tree
use Rattle.script_grammar.specs.Pieces.{whole}
use Rattle.script_grammar.specs.Print.{print, print_maybe, print_initializer, print_params, print_more_params, print_binds, print_more_binds, print_stmts, print_else, print_init, print_each, print_clauses, print_test, print_stmt, print_name, print_catch_param, print_declared, ellipsis}
use Rattle.stencil_data.specs.declared.scopes.BindKind.TheVariants as bind
use Rattle.stencil_data.specs.declared.scopes.ScopeKind.TheVariants as scope
use Rattle.scope_analysis.specs.DeclaredNames.{bound_names, name_list, function_name, lexical_binds, var_binds, lexical_name, lexical_names, clauses_lexical_names, init_lexical_names, each_lexical_names, top_lexical_name, top_lexical_names, init_var_names, each_var_names, var_names_in, var_names, else_var_names, clauses_var_names, top_var_names_in, all_top_var_names, param_names}
use Rattle.scope_analysis.specs.Scopes.{Within, behind, scope_around, scope_count, catch_names, count_stmt, count_stmts, for_inner, for_in_inner, block_inner, catch_inner, scopes_stmt, scopes_stmts, scopes_else, scopes_clauses}
use Rattle.scope_analysis.specs.Uses.{uses_clauses}
use Rattle.scope_closed_laws.proofs.Places.{name_holds, catch_holds}
use Rattle.emit_limit_laws.specs.FullNames.{ScopesFull}
use Rattle.emit_limit_laws.proofs.FullLists.{TextsFull, DeclaredFull, all_both, declared_both, declared_full, texts_full, list_full, scopes_both, around_full}
use Rattle.emit_limit_laws.proofs.FullPlaces.{Full, Given, given, so, both, before, past, after, named}

-- ---- names that are bound

more_binds_full : (d : ℕ) (bs : Binds) → Given (TextsFull (bound_names bs)) (print_more_binds whole d bs)
more_binds_full d no_binds = given tt
more_binds_full d (more_binds name value bs) = past (named (before (print_initializer whole d value) (more_binds_full d bs)))

binds_full : (d : ℕ) (bs : Binds) → Given (TextsFull (bound_names bs)) (print_binds whole d bs)
binds_full d no_binds = given tt
binds_full d (more_binds name value bs) = named (before (print_initializer whole d value) (more_binds_full d bs))

lexical_binds_full : (kind : Decl) (bs : Binds) → TextsFull (bound_names bs) → DeclaredFull (lexical_binds kind bs)
lexical_binds_full decl.Var bs h = tt
lexical_binds_full decl.Let bs h = declared_full bind.Let (bound_names bs) h
lexical_binds_full decl.Const bs h = declared_full bind.Const (bound_names bs) h

var_binds_full : (kind : Decl) (bs : Binds) → TextsFull (bound_names bs) → TextsFull (var_binds kind bs)
var_binds_full decl.Var bs h = h
var_binds_full decl.Let bs h = tt
var_binds_full decl.Const bs h = tt

init_full : (d : ℕ) (x : Init) → Given (DeclaredFull (init_lexical_names x) × TextsFull (init_var_names x)) (print_init whole d x)
init_full d NoInit = given (tt, tt)
init_full d (ValueInit e) = given (tt, tt)
init_full d (BindsInit kind bs) = so (past (binds_full d bs)) (λ h. (lexical_binds_full kind bs h, var_binds_full kind bs h))

each_full : (d : ℕ) (x : Each) → Given (DeclaredFull (each_lexical_names x) × TextsFull (each_var_names x)) (print_each whole d x)
each_full d (TargetEach e) = given (tt, tt)
each_full d (BindEach decl.Var name) = record { holds = λ h. (tt, (h.1.0, tt)) }
each_full d (BindEach decl.Let name) = record { holds = λ h. ((h.1.0, tt), tt) }
each_full d (BindEach decl.Const name) = record { holds = λ h. ((h.1.0, tt), tt) }

param_full : (d : ℕ) (param : Option Named) → Given (DeclaredFull (catch_names param)) (print_catch_param param d)
param_full d param = record { holds = λ h. declared_full bind.Catch (name_list param) (list_full param (catch_holds Full param d h)) }

name_full : (d : ℕ) (name : Option Named) → Given (TextsFull (name_list name)) (print_name name d)
name_full d name = record { holds = λ h. list_full name (name_holds Full name d h) }

declaration_full : (d : ℕ) (f : Function) → Given (TextsFull (name_list (function_name f))) (print_declared whole d f)
declaration_full d (function form start end name ps comma bare body) = past (after _ (name_full d name))

more_params_full : (q d : ℕ) (ps : Params) → Given (TextsFull (param_names ps)) (print_more_params whole q d ps)
more_params_full q d no_params = given tt
more_params_full q d (more_params name value rest ps) = past (before (ellipsis rest q) (named (before (print_initializer whole q value) (more_params_full q d ps))))

pub params_full : (q d : ℕ) (ps : Params) → Given (TextsFull (param_names ps)) (print_params whole q d ps)
params_full q d no_params = given tt
params_full q d (more_params name value rest ps) = before (ellipsis rest q) (named (before (print_initializer whole q value) (more_params_full q d ps)))

-- ---- statements

record FullStmt (s : Stmt) : Type 0 where
  lexical : DeclaredFull (lexical_name s)
  vars : TextsFull (var_names_in s)
  scopes : (w : Within) → ScopesFull (scopes_stmt s w)

-- the same of some, and what they declare at the top of a script or of a body
pub record FullStmts (ss : Stmts) : Type 0 where
  pub lexical : DeclaredFull (lexical_names ss)
  pub vars : TextsFull (var_names ss)
  pub top_lexical : DeclaredFull (top_lexical_names ss)
  pub top_vars : TextsFull (all_top_var_names ss)
  pub scopes : (w : Within) → ScopesFull (scopes_stmts ss w)

record FullElse (s : MaybeStmt) : Type 0 where
  vars : TextsFull (else_var_names s)
  scopes : (w : Within) → ScopesFull (scopes_else s w)

record FullClauses (cs : Clauses) : Type 0 where
  lexical : DeclaredFull (clauses_lexical_names cs)
  vars : TextsFull (clauses_var_names cs)
  scopes : (w : Within) → ScopesFull (scopes_clauses cs w)

top_lexical_full : (s : Stmt) → DeclaredFull (lexical_name s) → DeclaredFull (top_lexical_name s)
top_lexical_full (tree.Binding kind bs semi) h = h
top_lexical_full _ h = tt

top_vars_full : (s : Stmt) → DeclaredFull (lexical_name s) → TextsFull (var_names_in s) → TextsFull (top_var_names_in s)
top_vars_full (tree.Declared f) h k = texts_full bind.Function (name_list (function_name f)) h
top_vars_full _ h k = k

mutual
  stmt_full : (d : ℕ) (x : Stmt) → Given (FullStmt x) (print_stmt whole d x)
  stmt_full d (tree.Block items) =
      so (past (after _ (stmts_full d items))) (λ h. record { lexical = tt; vars = h.vars; scopes = λ w. around_full scope.Lexical (lexical_names items) (block_inner items) (scopes_stmts items) w h.lexical h.scopes })
  stmt_full d tree.Empty = given (record { lexical = tt; vars = tt; scopes = λ w. tt })
  stmt_full d (tree.Debugger semi) = given (record { lexical = tt; vars = tt; scopes = λ w. tt })
  stmt_full d (tree.Binding kind bs semi) = so (past (after _ (binds_full d bs))) (λ h. record { lexical = lexical_binds_full kind bs h; vars = var_binds_full kind bs h; scopes = λ w. tt })
  stmt_full d (tree.Value e semi) = given (record { lexical = tt; vars = tt; scopes = λ w. tt })
  stmt_full d (tree.If test then_stmt else_stmt) =
      so (past (past (before (print whole (suc d) test) (past (both (stmt_full (suc d) then_stmt) (else_full d else_stmt))))))
      (λ h. record {
        lexical = tt;
        vars = all_both Full (var_names_in then_stmt) (else_var_names else_stmt) h.0.vars h.1.vars;
        scopes = λ w. scopes_both (scopes_stmt then_stmt w) (scopes_else else_stmt (behind (count_stmt then_stmt) w)) (h.0.scopes w) (h.1.scopes (behind (count_stmt then_stmt) w));
      })
  stmt_full d (tree.Do body test semi) = so (past (after _ (stmt_full (suc d) body))) (λ h. record { lexical = tt; vars = h.vars; scopes = h.scopes })
  stmt_full d (tree.While test body) = so (past (past (before (print whole (suc d) test) (past (stmt_full (suc d) body))))) (λ h. record { lexical = tt; vars = h.vars; scopes = h.scopes })
  stmt_full d (tree.For init test update body) =
      so (past (past (both (init_full d init) (past (before (print_maybe whole (suc d) test) (past (before (print_maybe whole (suc d) update) (past (stmt_full (suc d) body)))))))))
      (λ h. record {
        lexical = tt;
        vars = all_both Full (init_var_names init) (var_names_in body) h.0.1 h.1.vars;
        scopes = λ w. around_full scope.Lexical (init_lexical_names init) (for_inner init test update body) (scopes_stmt body) w h.0.0 h.1.scopes;
      })
  stmt_full d (tree.ForIn each over body) =
      so (past (past (both (each_full d each) (past (before (print whole (suc d) over) (past (stmt_full (suc d) body)))))))
      (λ h. record {
        lexical = tt;
        vars = all_both Full (each_var_names each) (var_names_in body) h.0.1 h.1.vars;
        scopes = λ w. around_full scope.Lexical (each_lexical_names each) (for_in_inner each over body) (scopes_stmt body) w h.0.0 h.1.scopes;
      })
  stmt_full d (tree.Continue at label semi) = given (record { lexical = tt; vars = tt; scopes = λ w. tt })
  stmt_full d (tree.Break at label semi) = given (record { lexical = tt; vars = tt; scopes = λ w. tt })
  stmt_full d (tree.Return value semi) = given (record { lexical = tt; vars = tt; scopes = λ w. tt })
  stmt_full d (tree.Throw e semi) = given (record { lexical = tt; vars = tt; scopes = λ w. tt })
  stmt_full d (tree.Switch of cs) =
      so (past (past (before (print whole (suc d) of) (past (past (after _ (clauses_full d cs)))))))
      (λ h. record { lexical = tt; vars = h.vars; scopes = λ w. around_full scope.Lexical (clauses_lexical_names cs) (uses_clauses cs).inner (scopes_clauses cs) w h.lexical h.scopes })
  stmt_full d (tree.Label name body) = so (past (past (stmt_full (suc d) body))) (λ h. record { lexical = tt; vars = h.vars; scopes = h.scopes })
  stmt_full d (tree.Try body param handler) =
      so (past (past (both (stmts_full d body) (past (past (both (param_full d param) (past (after _ (stmts_full d handler)))))))))
      (λ h. record {
        lexical = tt;
        vars = all_both Full (var_names body) (var_names handler) h.0.vars h.1.1.vars;
        scopes = λ w. scopes_both (scope_around scope.Lexical (lexical_names body) (block_inner body) (scopes_stmts body) w)
            (scope_around scope.SimpleCatch (catch_names param) (catch_inner handler) (scope_around scope.Lexical (lexical_names handler) (block_inner handler) (scopes_stmts handler)) (behind (scope_count (lexical_names body) + count_stmts body) w))
            (around_full scope.Lexical (lexical_names body) (block_inner body) (scopes_stmts body) w h.0.lexical h.0.scopes)
            (around_full scope.SimpleCatch (catch_names param) (catch_inner handler) (scope_around scope.Lexical (lexical_names handler) (block_inner handler) (scopes_stmts handler)) (behind (scope_count (lexical_names body) + count_stmts body) w)
            h.1.0 (λ v. around_full scope.Lexical (lexical_names handler) (block_inner handler) (scopes_stmts handler) v h.1.1.lexical h.1.1.scopes));
      })
  stmt_full d (tree.Declared f) = so (declaration_full d f) (λ h. record { lexical = declared_full bind.Function (name_list (function_name f)) h; vars = tt; scopes = λ w. tt })

  pub stmts_full : (d : ℕ) (x : Stmts) → Given (FullStmts x) (print_stmts whole d x)
  stmts_full d no_stmts = given (record { lexical = tt; vars = tt; top_lexical = tt; top_vars = tt; scopes = λ w. tt })
  stmts_full d (more_stmts s ss) =
      so (both (stmt_full (suc d) s) (stmts_full d ss))
      (λ h. record {
        lexical = declared_both (lexical_name s) (lexical_names ss) h.0.lexical h.1.lexical;
        vars = all_both Full (var_names_in s) (var_names ss) h.0.vars h.1.vars;
        top_lexical = declared_both (top_lexical_name s) (top_lexical_names ss) (top_lexical_full s h.0.lexical) h.1.top_lexical;
        top_vars = all_both Full (top_var_names_in s) (all_top_var_names ss) (top_vars_full s h.0.lexical h.0.vars) h.1.top_vars;
        scopes = λ w. scopes_both (scopes_stmt s w) (scopes_stmts ss (behind (count_stmt s) w)) (h.0.scopes w) (h.1.scopes (behind (count_stmt s) w));
      })

  else_full : (d : ℕ) (x : MaybeStmt) → Given (FullElse x) (print_else whole d x)
  else_full d no_stmt = given (record { vars = tt; scopes = λ w. tt })
  else_full d (some_stmt s) = so (past (stmt_full (suc d) s)) (λ h. record { vars = h.vars; scopes = h.scopes })

  clauses_full : (d : ℕ) (x : Clauses) → Given (FullClauses x) (print_clauses whole d x)
  clauses_full d no_clauses = given (record { lexical = tt; vars = tt; scopes = λ w. tt })
  clauses_full d (more_clauses test items cs) =
      so (before (print_test whole d test) (past (both (stmts_full d items) (clauses_full d cs))))
      (λ h. record {
        lexical = declared_both (lexical_names items) (clauses_lexical_names cs) h.0.lexical h.1.lexical;
        vars = all_both Full (var_names items) (clauses_var_names cs) h.0.vars h.1.vars;
        scopes = λ w. scopes_both (scopes_stmts items w) (scopes_clauses cs (behind (count_stmts items) w)) (h.0.scopes w) (h.1.scopes (behind (count_stmts items) w));
      })
