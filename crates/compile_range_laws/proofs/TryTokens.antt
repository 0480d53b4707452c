-- Each try statement has a token in its print.
use Rattle.std.proofs.Common.{ℕ, suc, ◌+◌, ◌≤◌, List, [], ◌∷◌, ◌++◌, arith}
use Rattle.script_grammar.specs.Tree.{Function, function, Body, Clauses, no_clauses, more_clauses, Stmt, Stmts, no_stmts, more_stmts, MaybeStmt, no_stmt, some_stmt}
use Rattle.script_grammar.specs.Tree as tree
use Rattle.script_grammar.specs.Pieces.{whole, Slot, Piece, At}
use Rattle.script_grammar.specs.Print.{print, print_maybe, print_stmts, print_else, print_init, print_each, print_clauses, print_test, print_stmt, print_catch_param, print_function, print_body, print_params, parenthesized, arrow_pieces, param_depth}
use Rattle.emit_limit_laws.specs.Places.{Has}
use Rattle.emit_limit_laws.proofs.Measures.{length_both}
use Rattle.compile_range_laws.specs.Tries.{tries_stmt, tries_stmts, tries_else, tries_clauses, tries_body, tries_function}

-- ---- parts that are put together

any : {ps : List Piece} → Has 0 ps
any = record { tokens = omega arith }

both : {m n : ℕ} {ps qs : List Piece} → Has m ps → Has n qs → Has (m + n) (ps ++ qs)
both {ps = ps} {qs = qs} h k =
    let e = length_both ps qs in
    let a = h.tokens in
    let b = k.tokens in
    record { tokens = omega (arith, e, a, b) }

past : {n : ℕ} {ps : List Piece} {p : Piece} → Has n ps → Has n (p ∷ ps)
past {n} {ps} {p} h =
    let e = length_both (p ∷ []) ps in
    let a = h.tokens in
    record { tokens = omega (arith, e, a) }

token : {n : ℕ} {ps : List Piece} {s : Slot} → Has n ps → Has (suc n) (At s ∷ ps)
token h = let a = h.tokens in record { tokens = omega (arith, a) }

before : {n : ℕ} {ps : List Piece} (qs : List Piece) → Has n ps → Has n (qs ++ ps)
before {ps = ps} qs h =
    let e = length_both qs ps in
    let a = h.tokens in
    record { tokens = omega (arith, e, a) }

after : {n : ℕ} {ps : List Piece} (qs : List Piece) → Has n ps → Has n (ps ++ qs)
after {ps = ps} qs h =
    let e = length_both ps qs in
    let a = h.tokens in
    record { tokens = omega (arith, e, a) }

fewer : {m n : ℕ} {ps : List Piece} → m ≤ n → Has n ps → Has m ps
fewer le h = let a = h.tokens in record { tokens = omega (arith, le, a) }

-- ---- statements

mutual
  stmt_tries : (d : ℕ) (x : Stmt) → Has (tries_stmt x) (print_stmt whole d x)
  stmt_tries d (tree.Block items) = past (after _ (stmts_tries d items))
  stmt_tries d tree.Empty = any
  stmt_tries d (tree.Debugger semi) = any
  stmt_tries d (tree.Binding kind bs semi) = any
  stmt_tries d (tree.Value e semi) = any
  stmt_tries d (tree.If test then_stmt else_stmt) = past (past (before (print whole (suc d) test) (past (both (stmt_tries (suc d) then_stmt) (else_tries d else_stmt)))))
  stmt_tries d (tree.Do body test semi) = past (after _ (stmt_tries (suc d) body))
  stmt_tries d (tree.While test body) = past (past (before (print whole (suc d) test) (past (stmt_tries (suc d) body))))
  stmt_tries d (tree.For init test update body) = past (past (before (print_init whole d init) (past (before (print_maybe whole (suc d) test) (past (before (print_maybe whole (suc d) update) (past (stmt_tries (suc d) body))))))))
  stmt_tries d (tree.ForIn each over body) = past (past (before (print_each whole d each) (past (before (print whole (suc d) over) (past (stmt_tries (suc d) body))))))
  stmt_tries d (tree.Continue at label semi) = any
  stmt_tries d (tree.Break at label semi) = any
  stmt_tries d (tree.Return value semi) = any
  stmt_tries d (tree.Throw e semi) = any
  stmt_tries d (tree.Switch of cs) = past (past (before (print whole (suc d) of) (past (past (after _ (clauses_tries d cs))))))
  stmt_tries d (tree.Label name body) = past (past (stmt_tries (suc d) body))
  stmt_tries d (tree.Try body param handler) = fewer (omega arith) (token (past (both (stmts_tries d body) (past (past (before (print_catch_param param d) (past (after _ (stmts_tries d handler)))))))))
  stmt_tries d (tree.Declared f) = any

  pub stmts_tries : (d : ℕ) (x : Stmts) → Has (tries_stmts x) (print_stmts whole d x)
  stmts_tries d no_stmts = any
  stmts_tries d (more_stmts s ss) = both (stmt_tries (suc d) s) (stmts_tries d ss)

  else_tries : (d : ℕ) (x : MaybeStmt) → Has (tries_else x) (print_else whole d x)
  else_tries d no_stmt = any
  else_tries d (some_stmt s) = past (stmt_tries (suc d) s)

  clauses_tries : (d : ℕ) (x : Clauses) → Has (tries_clauses x) (print_clauses whole d x)
  clauses_tries d no_clauses = any
  clauses_tries d (more_clauses test items cs) = before (print_test whole d test) (past (both (stmts_tries d items) (clauses_tries d cs)))

-- ---- functions

body_tries : (d end : ℕ) (body : Body) → Has (tries_body body) (print_body whole d end body)
body_tries d end (tree.BracedBody items) = past (after _ (stmts_tries d items))
body_tries d end (tree.ShortBody value) = any

pub function_tries : (d : ℕ) (f : Function) → Has (tries_function f) (print_function whole d f)
function_tries d (function form start end who ps comma bare body) =
    before (parenthesized bare start d (print_params whole (param_depth form bare d) d ps) comma) (before (arrow_pieces form d) (body_tries d end body))
