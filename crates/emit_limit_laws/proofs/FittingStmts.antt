-- The counts of statements fit: at most two scopes are entered at each level, and at most two values are kept, so room for
-- 804 of them suffices, and no more than 800 values stay on the stack.
use Rattle.std.proofs.Common.{ℕ, suc, ◌+◌, ◌*◌, ◌^◌, ◌≤◌, ◌<◌, List, [], ◌∷◌, arith}
use Rattle.script_grammar.specs.Tree.{Named, Expr, MaybeExpr, no_expr, some_expr, Function, function, Clauses, no_clauses, more_clauses, Stmt, Stmts, no_stmts, more_stmts, MaybeStmt, no_stmt, some_stmt}
use Rattle.script_grammar.specs.Tree as tree
use Rattle.script_grammar.specs.Pieces.{whole}
use Rattle.script_grammar.specs.Print.{print_stmts, print_else, print_clauses, print_stmt, print_declared, print_catch_param}
use Rattle.parse_track.specs.Notes.{notes_clauses, notes_stmt, notes_stmts, notes_maybe_stmt, notes_function}
use Rattle.scope_analysis.specs.DeclaredNames.{Declaration, lexical_names, clauses_lexical_names, init_lexical_names, each_lexical_names}
use Rattle.scope_analysis.specs.Scopes.{catch_names}
use Rattle.emit_stmts.specs.StmtFits.{HasRoom, room_in, StmtFits, StmtsFit, ElseFits, ClausesFit}
use Rattle.emit_limit_laws.specs.Asked.{Asked}
use Rattle.emit_limit_laws.proofs.Asking.{given, both, before, past, after, noted, fits_glue, said, owning, three, four, five}
use Rattle.emit_limit_laws.proofs.FittingExprs.{fits, fits_maybe, fits_binds, fits_init, fits_each, fits_test}

-- ---- room

pub has_room : (ds : List Declaration) (room : ℕ) → 0 < room → HasRoom ds room
has_room [] room h = tt
has_room (d ∷ ds) room h = h

pub room_left : (ds : List Declaration) (room : ℕ) → room ≤ 1 + room_in ds room
room_left [] room = omega arith
room_left (d ∷ ds) room = omega arith

deeper : {n : ℕ} (room d : ℕ) → n ≤ room + 2 * d → n ≤ room + 2 * suc d
deeper room d h = omega (arith, h)

left_in : {n : ℕ} (room d : ℕ) (ds : List Declaration) → n ≤ room + 2 * d → n ≤ room_in ds room + 2 * suc d
left_in room d ds h = let e = room_left ds room in omega (arith, e, h)

left_in_two : {n : ℕ} (room d : ℕ) (ds es : List Declaration) → n ≤ room + 2 * d → n ≤ room_in es (room_in ds room) + 2 * suc d
left_in_two room d ds es h =
    let e = room_left ds room in
    let f = room_left es (room_in ds room) in
    omega (arith, e, f, h)

kept_deeper : {kept : ℕ} (d : ℕ) → kept ≤ 2 * d → kept ≤ 2 * suc d
kept_deeper d h = omega (arith, h)

kept_more : {kept : ℕ} (d : ℕ) → kept ≤ 2 * d → 2 + kept ≤ 2 * suc d
kept_more d h = omega (arith, h)

enters : (room d : ℕ) (ds : List Declaration) → 804 ≤ room + 2 * d → d ≤ 400 → HasRoom ds room
enters room d ds h le = has_room ds room (omega (arith, h, le))

-- what a `try` asks for itself
enters_try : (room kept d : ℕ) (ds es fs : List Declaration) → 804 ≤ room + 2 * d → kept ≤ 2 * d → d ≤ 400 → (kept < 2 ^ 32) × HasRoom ds room × HasRoom es room × HasRoom fs (room_in es room)
enters_try room kept d ds es fs h k le =
    let e = room_left es room in
    (omega (arith, k, le), has_room ds room (omega (arith, h, le)), has_room es room (omega (arith, h, le)), has_room fs (room_in es room) (omega (arith, e, h, le)))

said_try : {A B C D E F : Type 0} → (A × B × C × D) × (E × F) → A × B × E × C × D × F
said_try h = (h.0.0, h.0.1, h.1.0, h.0.2, h.0.3, h.1.1)

said_switch : {A B C : Type 0} → A × (B × C) → B × A × C
said_switch h = (h.1.0, h.0, h.1.1)

-- ---- statements

of_declared : (d : ℕ) (f : Function) → Asked (Unit {0}) (print_declared whole d f) (notes_function f)
of_declared d f = given tt

mutual
  pub fits_stmts : (d room kept : ℕ) (x : Stmts) → 804 ≤ room + 2 * suc d → kept ≤ 2 * suc d → Asked (StmtsFit room kept x) (print_stmts whole d x) (notes_stmts x)
  fits_stmts d room kept no_stmts h k = given tt
  fits_stmts d room kept (more_stmts s ss) h k = both (fits_stmt (suc d) room kept s h k) (fits_stmts d room kept ss h k)

  fits_else : (d room kept : ℕ) (x : MaybeStmt) → 804 ≤ room + 2 * suc d → kept ≤ 2 * suc d → Asked (ElseFits room kept x) (print_else whole d x) (notes_maybe_stmt x)
  fits_else d room kept no_stmt h k = given tt
  fits_else d room kept (some_stmt s) h k = past (fits_stmt (suc d) room kept s h k)

  fits_clauses : (d room kept : ℕ) (x : Clauses) → 804 ≤ room + 2 * suc d → kept ≤ 2 * suc d → Asked (ClausesFit room kept x) (print_clauses whole d x) (notes_clauses x)
  fits_clauses d room kept no_clauses h k = given tt
  fits_clauses d room kept (more_clauses test items cs) h k = said three (both (fits_test d test) (past (both (fits_stmts d room kept items h k) (fits_clauses d room kept cs h k))))

  fits_stmt : (d room kept : ℕ) (x : Stmt) → 804 ≤ room + 2 * d → kept ≤ 2 * d → Asked (StmtFits room kept x) (print_stmt whole d x) (notes_stmt x)
  fits_stmt d room kept (tree.Block items) h k = owning (enters room d (lexical_names items) h) (past (after _ (fits_stmts d (room_in (lexical_names items) room) kept items (left_in room d (lexical_names items) h) (kept_deeper d k))))
  fits_stmt d room kept tree.Empty h k = given tt
  fits_stmt d room kept (tree.Debugger semi) h k = given tt
  fits_stmt d room kept (tree.Binding decl bs semi) h k = noted _ (past (after _ (fits_binds d bs)))
  fits_stmt d room kept (tree.Value e semi) h k = after _ (fits (suc d) e)
  fits_stmt d room kept (tree.If test then_stmt else_stmt) h k = past (past (said three (both (fits (suc d) test) (past (both (fits_stmt (suc d) room kept then_stmt (deeper room d h) (kept_deeper d k)) (fits_else d room kept else_stmt (deeper room d h) (kept_deeper d k)))))))
  fits_stmt d room kept (tree.Do body test semi) h k = past (both (fits_stmt (suc d) room kept body (deeper room d h) (kept_deeper d k)) (past (past (after _ (fits (suc d) test)))))
  fits_stmt d room kept (tree.While test body) h k = past (past (both (fits (suc d) test) (past (fits_stmt (suc d) room kept body (deeper room d h) (kept_deeper d k)))))
  fits_stmt d room kept (tree.For init test update body) h k =
      said five (owning (enters room d (init_lexical_names init) h)
      (past (past (both (fits_init d init) (past (both (fits_maybe (suc d) test) (past (both (fits_maybe (suc d) update) (past (fits_stmt (suc d) (room_in (init_lexical_names init) room) kept body (left_in room d (init_lexical_names init) h) (kept_deeper d k)))))))))))
  fits_stmt d room kept (tree.ForIn each over body) h k =
      said four (owning (enters room d (each_lexical_names each) h)
      (past (past (both (fits_each d each) (past (both (fits (suc d) over) (past (fits_stmt (suc d) (room_in (each_lexical_names each) room) (2 + kept) body (left_in room d (each_lexical_names each) h) (kept_more d k)))))))))
  fits_stmt d room kept (tree.Continue at label semi) h k = given tt
  fits_stmt d room kept (tree.Break at label semi) h k = given tt
  fits_stmt d room kept (tree.Return value semi) h k = past (after _ (fits_glue (fits_maybe (suc d) value)))
  fits_stmt d room kept (tree.Throw e semi) h k = past (after _ (fits_glue (fits (suc d) e)))
  fits_stmt d room kept (tree.Switch of cs) h k =
      said said_switch (owning (enters room d (clauses_lexical_names cs) h)
      (past (past (both (fits (suc d) of) (past (past (after _ (fits_clauses d (room_in (clauses_lexical_names cs) room) kept cs (left_in room d (clauses_lexical_names cs) h) (kept_deeper d k)))))))))
  fits_stmt d room kept (tree.Label name body) h k = past (past (fits_stmt (suc d) room kept body (deeper room d h) (kept_deeper d k)))
  fits_stmt d room kept (tree.Try body param handler) h k =
      said said_try (owning (enters_try room kept d (lexical_names body) (catch_names param) (lexical_names handler) h k)
      (past (past (both (fits_stmts d (room_in (lexical_names body) room) kept body (left_in room d (lexical_names body) h) (kept_deeper d k))
      (past (past (before (print_catch_param param d) (past (after _ (fits_stmts d (room_in (lexical_names handler) (room_in (catch_names param) room)) kept handler (left_in_two room d (catch_names param) (lexical_names handler) h) (kept_deeper d k)))))))))))
  fits_stmt d room kept (tree.Declared f) h k = of_declared d f
