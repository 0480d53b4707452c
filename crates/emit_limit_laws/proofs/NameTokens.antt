-- Each name that is declared in statements has a token in their print: those of their scopes, those that they declare in the
-- scope around them, and their var names.
use Rattle.std.proofs.Common.{◌≡◌, ℕ, suc, ◌+◌, ◌≤◌, List, [], ◌∷◌, ◌++◌, length, Option, Some, None, arith}
use Rattle.std.proofs.lemmas.List.{length-append, length-map}
use Rattle.script_grammar.specs.declared.token.Decl.{Decl}
use Rattle.script_grammar.specs.declared.token.Decl.TheVariants as decl
use Rattle.script_grammar.specs.Tree.{Named, MaybeExpr, Function, function, Params, no_params, more_params, Binds, no_binds, more_binds, Init, NoInit, ValueInit, BindsInit, Each, TargetEach, BindEach, Clauses, no_clauses, more_clauses, Stmt, Stmts, no_stmts, more_stmts, MaybeStmt, no_stmt, some_stmt}
use Rattle.script_grammar.specs.Tree as tree
use Rattle.script_grammar.specs.Pieces.{whole, Slot, Piece, At}
use Rattle.script_grammar.specs.Print.{print, print_maybe, print_initializer, print_params, print_more_params, print_binds, print_more_binds, print_stmts, print_else, print_init, print_each, print_clauses, print_test, print_stmt, print_name, print_catch_param, print_declared, ellipsis}
use Rattle.stencil_data.specs.declared.scopes.BindKind.{BindKind}
use Rattle.stencil_data.specs.declared.scopes.BindKind.TheVariants as bind
use Rattle.scope_analysis.specs.DeclaredNames.{Text, Declaration, declaration, declarations, bound_names, name_list, function_name, lexical_binds, var_binds, lexical_name, lexical_names, clauses_lexical_names, init_lexical_names, each_lexical_names, top_lexical_name, top_lexical_names, init_var_names, each_var_names, var_names_in, var_names, else_var_names, clauses_var_names, top_var_names_in, all_top_var_names, param_names}
use Rattle.scope_analysis.specs.Scopes.{catch_names}
use Rattle.emit_limit_laws.specs.Names.{names_stmt, names_stmts, names_else, names_clauses}
use Rattle.emit_limit_laws.specs.Places.{Has}
use Rattle.emit_limit_laws.proofs.Measures.{length_both}

-- ---- parts that are put together

any : {ps : List Piece} → Has 0 ps
any = record { tokens = omega arith }

both : {m n : ℕ} {ps qs : List Piece} → Has m ps → Has n qs → Has (m + n) (ps ++ qs)
both {ps = ps} {qs = qs} h k =
    let e = length_both ps qs in
    let a = h.tokens in
    let b = k.tokens in
    record { tokens = omega (arith, e, a, b) }

past : {n : ℕ} {ps : List Piece} {p : Piece} → Has n ps → Has n (p ∷ ps)
past {n} {ps} {p} h =
    let e = length_both (p ∷ []) ps in
    let a = h.tokens in
    record { tokens = omega (arith, e, a) }

named : {n : ℕ} {ps : List Piece} {s : Slot} → Has n ps → Has (1 + n) (At s ∷ ps)
named h = let a = h.tokens in record { tokens = omega (arith, a) }

before : {n : ℕ} {ps : List Piece} (qs : List Piece) → Has n ps → Has n (qs ++ ps)
before {ps = ps} qs h =
    let e = length_both qs ps in
    let a = h.tokens in
    record { tokens = omega (arith, e, a) }

after : {n : ℕ} {ps : List Piece} (qs : List Piece) → Has n ps → Has n (ps ++ qs)
after {ps = ps} qs h =
    let e = length_both ps qs in
    let a = h.tokens in
    record { tokens = omega (arith, e, a) }

fewer : {m n : ℕ} {ps : List Piece} → m ≤ n → Has n ps → Has m ps
fewer le h = let a = h.tokens in record { tokens = omega (arith, le, a) }

-- ---- names that are bound

more_binds_named : (d : ℕ) (bs : Binds) → Has (length (bound_names bs)) (print_more_binds whole d bs)
more_binds_named d no_binds = any
more_binds_named d (more_binds name value bs) = fewer (omega arith) (past (named (before (print_initializer whole d value) (more_binds_named d bs))))

binds_named : (d : ℕ) (bs : Binds) → Has (length (bound_names bs)) (print_binds whole d bs)
binds_named d no_binds = any
binds_named d (more_binds name value bs) = fewer (omega arith) (named (before (print_initializer whole d value) (more_binds_named d bs)))

pub declared_length : (kind : BindKind) (texts : List Text) → length (declarations kind texts) ≡ length texts
declared_length kind texts = length-map {B = Declaration} texts (declaration kind)

-- lexical or var names
binds_split : (kind : Decl) (bs : Binds) → length (lexical_binds kind bs) + length (var_binds kind bs) ≤ length (bound_names bs)
binds_split decl.Var bs = omega arith
binds_split decl.Let bs = let e = declared_length bind.Let (bound_names bs) in omega (arith, e)
binds_split decl.Const bs = let e = declared_length bind.Const (bound_names bs) in omega (arith, e)

init_named : (d : ℕ) (x : Init) → Has (length (init_lexical_names x) + length (init_var_names x)) (print_init whole d x)
init_named d NoInit = fewer (omega arith) any
init_named d (ValueInit e) = fewer (omega arith) any
init_named d (BindsInit kind bs) = fewer (binds_split kind bs) (past (binds_named d bs))

each_named : (d : ℕ) (x : Each) → Has (length (each_lexical_names x) + length (each_var_names x)) (print_each whole d x)
each_named d (TargetEach e) = fewer (omega arith) any
each_named d (BindEach decl.Var name) = fewer (omega arith) (past (named any))
each_named d (BindEach decl.Let name) = fewer (omega arith) (past (named any))
each_named d (BindEach decl.Const name) = fewer (omega arith) (past (named any))

param_named : (d : ℕ) (param : Option Named) → Has (length (catch_names param)) (print_catch_param param d)
param_named d None = any
param_named d (Some name) = past (named any)

name_named : (d : ℕ) (name : Option Named) → Has (length (name_list name)) (print_name name d)
name_named d None = any
name_named d (Some name) = named any

declared_named : (d : ℕ) (f : Function) → Has (length (name_list (function_name f))) (print_declared whole d f)
declared_named d (function form start end name ps comma bare body) = past (after _ (name_named d name))

more_params_named : (q d : ℕ) (ps : Params) → Has (length (param_names ps)) (print_more_params whole q d ps)
more_params_named q d no_params = any
more_params_named q d (more_params name value rest ps) = fewer (omega arith) (past (before (ellipsis rest q) (named (before (print_initializer whole q value) (more_params_named q d ps)))))

pub params_named : (q d : ℕ) (ps : Params) → Has (length (param_names ps)) (print_params whole q d ps)
params_named q d no_params = any
params_named q d (more_params name value rest ps) = fewer (omega arith) (before (ellipsis rest q) (named (before (print_initializer whole q value) (more_params_named q d ps))))

-- ---- statements

abbrev stmt_names : Stmt → ℕ
stmt_names s = length (lexical_name s) + (length (var_names_in s) + names_stmt s)

abbrev stmts_names : Stmts → ℕ
stmts_names ss = length (lexical_names ss) + (length (var_names ss) + names_stmts ss)

mutual
  stmt_named : (d : ℕ) (x : Stmt) → Has (stmt_names x) (print_stmt whole d x)
  stmt_named d (tree.Block items) = fewer (omega arith) (past (after _ (stmts_named d items)))
  stmt_named d tree.Empty = fewer (omega arith) any
  stmt_named d (tree.Debugger semi) = fewer (omega arith) any
  stmt_named d (tree.Binding kind bs semi) = let e = binds_split kind bs in fewer (omega (arith, e)) (past (after _ (binds_named d bs)))
  stmt_named d (tree.Value e semi) = fewer (omega arith) any
  stmt_named d (tree.If test then_stmt else_stmt) =
      let e = length-append (var_names_in then_stmt) (else_var_names else_stmt) in
      fewer (omega (arith, e)) (past (past (before (print whole (suc d) test) (past (both (stmt_named (suc d) then_stmt) (else_named d else_stmt))))))
  stmt_named d (tree.Do body test semi) = fewer (omega arith) (past (after _ (stmt_named (suc d) body)))
  stmt_named d (tree.While test body) = fewer (omega arith) (past (past (before (print whole (suc d) test) (past (stmt_named (suc d) body)))))
  stmt_named d (tree.For init test update body) =
      let e = length-append (init_var_names init) (var_names_in body) in
      fewer (omega (arith, e)) (past (past (both (init_named d init) (past (before (print_maybe whole (suc d) test) (past (before (print_maybe whole (suc d) update) (past (stmt_named (suc d) body)))))))))
  stmt_named d (tree.ForIn each over body) =
      let e = length-append (each_var_names each) (var_names_in body) in
      fewer (omega (arith, e)) (past (past (both (each_named d each) (past (before (print whole (suc d) over) (past (stmt_named (suc d) body)))))))
  stmt_named d (tree.Continue at label semi) = fewer (omega arith) any
  stmt_named d (tree.Break at label semi) = fewer (omega arith) any
  stmt_named d (tree.Return value semi) = fewer (omega arith) any
  stmt_named d (tree.Throw e semi) = fewer (omega arith) any
  stmt_named d (tree.Switch of cs) = fewer (omega arith) (past (past (before (print whole (suc d) of) (past (past (after _ (clauses_named d cs)))))))
  stmt_named d (tree.Label name body) = fewer (omega arith) (past (past (stmt_named (suc d) body)))
  stmt_named d (tree.Try body param handler) =
      let e = length-append (var_names body) (var_names handler) in
      fewer (omega (arith, e)) (past (past (both (stmts_named d body) (past (past (both (param_named d param) (past (after _ (stmts_named d handler)))))))))
  stmt_named d (tree.Declared f) =
      let e = declared_length bind.Function (name_list (function_name f)) in
      fewer (omega (arith, e)) (declared_named d f)

  stmts_named : (d : ℕ) (x : Stmts) → Has (stmts_names x) (print_stmts whole d x)
  stmts_named d no_stmts = fewer (omega arith) any
  stmts_named d (more_stmts s ss) =
      let e = length-append (lexical_name s) (lexical_names ss) in
      let f = length-append (var_names_in s) (var_names ss) in
      fewer (omega (arith, e, f)) (both (stmt_named (suc d) s) (stmts_named d ss))

  else_named : (d : ℕ) (x : MaybeStmt) → Has (length (else_var_names x) + names_else x) (print_else whole d x)
  else_named d no_stmt = fewer (omega arith) any
  else_named d (some_stmt s) = fewer (omega arith) (past (stmt_named (suc d) s))

  clauses_named : (d : ℕ) (x : Clauses) → Has (length (clauses_lexical_names x) + (length (clauses_var_names x) + names_clauses x)) (print_clauses whole d x)
  clauses_named d no_clauses = fewer (omega arith) any
  clauses_named d (more_clauses test items cs) =
      let e = length-append (lexical_names items) (clauses_lexical_names cs) in
      let f = length-append (var_names items) (clauses_var_names cs) in
      fewer (omega (arith, e, f)) (before (print_test whole d test) (past (both (stmts_named d items) (clauses_named d cs))))

-- ---- the top of a script or of a body, where declared functions are var names

top_alike : (s : Stmt) → length (top_lexical_name s) + length (top_var_names_in s) ≤ length (lexical_name s) + length (var_names_in s)
top_alike (tree.Declared f) = let e = declared_length bind.Function (name_list (function_name f)) in omega (arith, e)
top_alike (tree.Block items) = omega arith
top_alike tree.Empty = omega arith
top_alike (tree.Debugger semi) = omega arith
top_alike (tree.Binding kind bs semi) = omega arith
top_alike (tree.Value e semi) = omega arith
top_alike (tree.If test then_stmt else_stmt) = omega arith
top_alike (tree.Do body test semi) = omega arith
top_alike (tree.While test body) = omega arith
top_alike (tree.For init test update body) = omega arith
top_alike (tree.ForIn each over body) = omega arith
top_alike (tree.Continue at label semi) = omega arith
top_alike (tree.Break at label semi) = omega arith
top_alike (tree.Return value semi) = omega arith
top_alike (tree.Throw e semi) = omega arith
top_alike (tree.Switch of cs) = omega arith
top_alike (tree.Label name body) = omega arith
top_alike (tree.Try body param handler) = omega arith

-- the lexical names of the top, its var names and the names of the scopes inside
pub top_named : (d : ℕ) (x : Stmts) → Has (length (top_lexical_names x) + (length (all_top_var_names x) + names_stmts x)) (print_stmts whole d x)
top_named d no_stmts = fewer (omega arith) any
top_named d (more_stmts s ss) =
    let e = length-append (top_lexical_name s) (top_lexical_names ss) in
    let f = length-append (top_var_names_in s) (all_top_var_names ss) in
    let g = top_alike s in
    fewer (omega (arith, e, f, g)) (both (stmt_named (suc d) s) (top_named d ss))
