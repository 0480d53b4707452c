-- A tree that is printed at a lesser depth asks the same of each token, and each is no deeper.
use Rattle.std.proofs.Common.{ℕ, zero, suc, ◌≤◌, List, [], ◌∷◌, Bool, true, false, cond, Option, Some, None, arith}
use Rattle.script_grammar.specs.declared.token.FuncForm.{FuncForm}
use Rattle.script_grammar.specs.declared.token.Kind.TheVariants as kind
use Rattle.script_grammar.specs.declared.token.word.TheConstants as word
use Rattle.script_grammar.specs.declared.token.mark.TheConstants as mark
use Rattle.script_grammar.specs.Kinds.{is_arrow_form}
use Rattle.script_grammar.specs.Tree.{Named, Expr, Exprs, no_exprs, more_exprs, MaybeExpr, no_expr, some_expr, MaybeArgs, no_args, some_args, Parts, no_parts, more_parts, Items, no_items, more_items, Operands, no_operands, more_operands, Tail, Tails, no_tails, more_tails, Key, Prop, Props, no_props, more_props, Function, function, Params, no_params, more_params, Body, Binds, no_binds, more_binds, Init, Each, Clauses, no_clauses, more_clauses, Stmt, Stmts, no_stmts, more_stmts, MaybeStmt, no_stmt, some_stmt}
use Rattle.script_grammar.specs.Tree as tree
use Rattle.script_grammar.specs.Pieces.{whole, Piece, Ending, placed, glued_mark, comma_piece, semi_piece}
use Rattle.script_grammar.specs.Print.{print, print_list, print_more, print_maybe, print_args, print_parts, print_items, print_more_items, print_operands, print_tails, print_tail, print_key, print_props, print_more_props, print_prop, print_func, print_function, print_declared, print_params, print_more_params, print_initializer, print_body, print_binds, print_more_binds, print_stmts, print_else, print_init, print_each, print_clauses, print_test, print_stmt, parenthesized, param_depth, above, func_word, print_name, print_label, print_catch_param, ellipsis, arrow_pieces}
use Rattle.grammar_alone_laws.specs.Carried.{Looser}
use Rattle.grammar_alone_laws.proofs.Loosening.{nothing, place, gap, both, both_from, both_glue, both_until}

-- ---- levels

deeper : {e d : ℕ} → e ≤ d → suc e ≤ suc d
deeper h = omega (arith, h)

higher : (e d : ℕ) → e ≤ d → above e ≤ above d
higher zero zero h = h
higher zero (suc d) h = omega arith
higher (suc e) zero h = absurd (omega (arith, h))
higher (suc e) (suc d) h = omega (arith, h)

level_of_params : (form : FuncForm) (bare : Bool) (e d : ℕ) → e ≤ d → param_depth form bare e ≤ param_depth form bare d
level_of_params form true e d h = h
level_of_params form false e d h = either (is_arrow_form form)
  where
    either : (b : Bool) → cond b (suc e) e ≤ cond b (suc d) d
    either true = deeper h
    either false = h

-- ---- what stands between

comma_less : (comma : Bool) {e d : ℕ} → e ≤ d → Looser (comma_piece comma d) (comma_piece comma e)
comma_less true h = place h nothing
comma_less false h = nothing

semi_less : (x : Ending) (semi : Bool) {e d : ℕ} → e ≤ d → Looser (semi_piece x semi d) (semi_piece x semi e)
semi_less x true h = place h nothing
semi_less x false h = gap nothing

name_less : (o : Option Named) {e d : ℕ} → e ≤ d → Looser (print_name o d) (print_name o e)
name_less None h = nothing
name_less (Some n) h = place h nothing

label_less : (o : Option Named) {e d : ℕ} → e ≤ d → Looser (print_label o d) (print_label o e)
label_less None h = nothing
label_less (Some n) h = place h nothing

catch_less : (o : Option Named) {e d : ℕ} → e ≤ d → Looser (print_catch_param o d) (print_catch_param o e)
catch_less None h = nothing
catch_less (Some n) h = place h (place h (place h nothing))

ellipsis_less : (rest : Bool) {e d : ℕ} → e ≤ d → Looser (ellipsis rest d) (ellipsis rest e)
ellipsis_less true h = place h nothing
ellipsis_less false h = nothing

word_less : (form : FuncForm) (at : ℕ) (o : Option Named) {e d : ℕ} → e ≤ d → Looser (func_word form at o d) (func_word form at o e)
word_less form at o {e} {d} h = either (is_arrow_form form)
  where
    either : (b : Bool) → Looser (cond b [] (placed (kind.Word word.FUNCTION) at d ∷ print_name o d)) (cond b [] (placed (kind.Word word.FUNCTION) at e ∷ print_name o e))
    either true = nothing
    either false = place h (name_less o h)

arrow_less : (form : FuncForm) {e d : ℕ} → e ≤ d → Looser (arrow_pieces form d) (arrow_pieces form e)
arrow_less form {e} {d} h = either (is_arrow_form form)
  where
    either : (b : Bool) → Looser (cond b (glued_mark mark.ARROW d ∷ []) []) (cond b (glued_mark mark.ARROW e ∷ []) [])
    either true = place h nothing
    either false = nothing

listed_less : (bare : Bool) (start : ℕ) (comma : Bool) {e d : ℕ} {ps qs : List Piece} → e ≤ d → Looser ps qs → Looser (parenthesized bare start d ps comma) (parenthesized bare start e qs comma)
listed_less true start comma h k = k
listed_less false start comma h k = place h (both k (both (comma_less comma h) (place h nothing)))

-- ---- expressions and statements

mutual
  less_expr : (x : Expr) {e d : ℕ} → e ≤ d → Looser (print whole d x) (print whole e x)
  less_expr (tree.This at) h = place h nothing
  less_expr (tree.Name n) h = place h nothing
  less_expr (tree.Null at) h = place h nothing
  less_expr (tree.True at) h = place h nothing
  less_expr (tree.False at) h = place h nothing
  less_expr (tree.Number at value) h = place h nothing
  less_expr (tree.Str at end w) h = place h nothing
  less_expr (tree.Template at first parts) h = place h (less_parts parts h)
  less_expr (tree.Array at items comma) h = place h (both (less_items items h) (both (comma_less comma h) (place h nothing)))
  less_expr (tree.Object at props comma) h = place h (both (less_props props h) (both (comma_less comma h) (place h nothing)))
  less_expr (tree.Func at f) h = less_func at f h
  less_expr (tree.Paren at inner) h = place h (both (less_expr inner (deeper h)) (place h nothing))
  less_expr (tree.Chain head tails) h = both (less_expr head h) (less_tails tails h)
  less_expr (tree.New at callee args) h = place (deeper h) (both (less_expr callee (deeper h)) (less_args args (deeper h)))
  less_expr (tree.Unary at op of is_word) h = place (deeper h) (less_expr of (deeper h))
  less_expr (tree.Update at op true of) h = place (deeper h) (less_expr of (deeper h))
  less_expr (tree.Update at op false of) h = both (both_from at (less_expr of h)) (place h nothing)
  less_expr (tree.Binary first rest) h = both (less_expr first h) (less_operands rest h)
  less_expr (tree.Cond test then_value else_value) h = both (less_expr test h) (place h (both (less_expr then_value (deeper h)) (place h (less_expr else_value (deeper h)))))
  less_expr (tree.Assign op target value) h = both (less_expr target h) (place h (less_expr value (deeper h)))
  less_expr (tree.Comma items) {e} {d} h = less_list items (higher e d h)

  less_list : (x : Exprs) {e d : ℕ} → e ≤ d → Looser (print_list whole d x) (print_list whole e x)
  less_list no_exprs h = nothing
  less_list (more_exprs e es) h = both (less_expr e (deeper h)) (less_more es h)

  less_more : (x : Exprs) {e d : ℕ} → e ≤ d → Looser (print_more whole d x) (print_more whole e x)
  less_more no_exprs h = nothing
  less_more (more_exprs e es) h = place h (both (less_expr e (deeper h)) (less_more es h))

  less_maybe : (x : MaybeExpr) {e d : ℕ} → e ≤ d → Looser (print_maybe whole d x) (print_maybe whole e x)
  less_maybe no_expr h = nothing
  less_maybe (some_expr e) h = less_expr e h

  less_args : (x : MaybeArgs) {e d : ℕ} → e ≤ d → Looser (print_args whole d x) (print_args whole e x)
  less_args no_args h = nothing
  less_args (some_args es comma) h = place h (both (less_list es h) (both (comma_less comma h) (place h nothing)))

  less_parts : (x : Parts) {e d : ℕ} → e ≤ d → Looser (print_parts whole d x) (print_parts whole e x)
  less_parts no_parts h = nothing
  less_parts (more_parts value behind rest) h = both (less_expr value (deeper h)) (place h (less_parts rest h))

  less_items : (x : Items) {e d : ℕ} → e ≤ d → Looser (print_items whole d x) (print_items whole e x)
  less_items no_items h = nothing
  less_items (more_items i is) h = both (less_maybe i (deeper h)) (less_more_items is h)

  less_more_items : (x : Items) {e d : ℕ} → e ≤ d → Looser (print_more_items whole d x) (print_more_items whole e x)
  less_more_items no_items h = nothing
  less_more_items (more_items i is) h = place h (both (less_maybe i (deeper h)) (less_more_items is h))

  less_operands : (x : Operands) {e d : ℕ} → e ≤ d → Looser (print_operands whole d x) (print_operands whole e x)
  less_operands no_operands h = nothing
  less_operands (more_operands op is_word value rest) h = place h (both (less_expr value h) (less_operands rest h))

  less_tails : (x : Tails) {e d : ℕ} → e ≤ d → Looser (print_tails whole d x) (print_tails whole e x)
  less_tails no_tails h = nothing
  less_tails (more_tails t ts) h = both (less_tail t h) (less_tails ts h)

  less_tail : (x : Tail) {e d : ℕ} → e ≤ d → Looser (print_tail whole d x) (print_tail whole e x)
  less_tail (tree.Dot w) h = place h (place h nothing)
  less_tail (tree.Index e) h = place h (both (less_expr e (deeper h)) (place h nothing))
  less_tail (tree.Call es comma) h = place h (both (less_list es h) (both (comma_less comma h) (place h nothing)))

  less_key : (x : Key) {e d : ℕ} → e ≤ d → Looser (print_key whole d x) (print_key whole e x)
  less_key (tree.WordKey n) h = place h nothing
  less_key (tree.StrKey n) h = place h nothing
  less_key (tree.NumberKey at value) h = place h nothing
  less_key (tree.ComputedKey e) h = place h (both (less_expr e (deeper h)) (place h nothing))

  less_prop : (x : Prop) {e d : ℕ} → e ≤ d → Looser (print_prop whole d x) (print_prop whole e x)
  less_prop (tree.Short n) h = place h nothing
  less_prop (tree.Pair key value) h = both (less_key key h) (place h (less_expr value (deeper h)))
  less_prop (tree.Method key f) h = both (less_key key h) (less_function f h)
  less_prop (tree.Get key f) h = place h (both (less_key key h) (less_function f h))
  less_prop (tree.Set key f) h = place h (both (less_key key h) (less_function f h))

  less_props : (x : Props) {e d : ℕ} → e ≤ d → Looser (print_props whole d x) (print_props whole e x)
  less_props no_props h = nothing
  less_props (more_props q qs) h = both (less_prop q h) (less_more_props qs h)

  less_more_props : (x : Props) {e d : ℕ} → e ≤ d → Looser (print_more_props whole d x) (print_more_props whole e x)
  less_more_props no_props h = nothing
  less_more_props (more_props q qs) h = place h (both (less_prop q h) (less_more_props qs h))

  less_func : (at : ℕ) (x : Function) {e d : ℕ} → e ≤ d → Looser (print_func whole d at x) (print_func whole e at x)
  less_func at (function form start end name ps comma bare body) {e} {d} h =
      both (word_less form at name h) (both (listed_less bare start comma h (less_params ps (level_of_params form bare e d h) h)) (both (arrow_less form h) (less_body end body h)))

  pub less_function : (x : Function) {e d : ℕ} → e ≤ d → Looser (print_function whole d x) (print_function whole e x)
  less_function (function form start end name ps comma bare body) {e} {d} h =
      both (listed_less bare start comma h (less_params ps (level_of_params form bare e d h) h)) (both (arrow_less form h) (less_body end body h))

  less_declared : (x : Function) {e d : ℕ} → e ≤ d → Looser (print_declared whole d x) (print_declared whole e x)
  less_declared (function form start end name ps comma bare body) {e} {d} h =
      place h (both (name_less name h) (both (listed_less bare start comma h (less_params ps (level_of_params form bare e d h) h)) (both (arrow_less form h) (less_body end body h))))

  less_params : (x : Params) {p q e d : ℕ} → p ≤ q → e ≤ d → Looser (print_params whole q d x) (print_params whole p e x)
  less_params no_params k h = nothing
  less_params (more_params name value rest ps) k h = both (ellipsis_less rest k) (place k (both (less_initializer value k) (less_more_params ps k h)))

  less_more_params : (x : Params) {p q e d : ℕ} → p ≤ q → e ≤ d → Looser (print_more_params whole q d x) (print_more_params whole p e x)
  less_more_params no_params k h = nothing
  less_more_params (more_params name value rest ps) k h = place h (both (ellipsis_less rest k) (place k (both (less_initializer value k) (less_more_params ps k h))))

  less_initializer : (x : MaybeExpr) {e d : ℕ} → e ≤ d → Looser (print_initializer whole d x) (print_initializer whole e x)
  less_initializer no_expr h = nothing
  less_initializer (some_expr e) h = place h (less_expr e (deeper h))

  less_body : (end : ℕ) (x : Body) {e d : ℕ} → e ≤ d → Looser (print_body whole d end x) (print_body whole e end x)
  less_body end (tree.BracedBody items) h = place h (both (less_stmts items h) (place h nothing))
  less_body end (tree.ShortBody value) h = both_until end (less_expr value (deeper h))

  less_binds : (x : Binds) {e d : ℕ} → e ≤ d → Looser (print_binds whole d x) (print_binds whole e x)
  less_binds no_binds h = nothing
  less_binds (more_binds name value bs) h = place h (both (less_initializer value h) (less_more_binds bs h))

  less_more_binds : (x : Binds) {e d : ℕ} → e ≤ d → Looser (print_more_binds whole d x) (print_more_binds whole e x)
  less_more_binds no_binds h = nothing
  less_more_binds (more_binds name value bs) h = place h (place h (both (less_initializer value h) (less_more_binds bs h)))

  less_stmts : (x : Stmts) {e d : ℕ} → e ≤ d → Looser (print_stmts whole d x) (print_stmts whole e x)
  less_stmts no_stmts h = nothing
  less_stmts (more_stmts s ss) h = both (less_stmt s (deeper h)) (less_stmts ss h)

  less_else : (x : MaybeStmt) {e d : ℕ} → e ≤ d → Looser (print_else whole d x) (print_else whole e x)
  less_else no_stmt h = nothing
  less_else (some_stmt s) h = place h (less_stmt s (deeper h))

  less_init : (x : Init) {e d : ℕ} → e ≤ d → Looser (print_init whole d x) (print_init whole e x)
  less_init tree.NoInit h = nothing
  less_init (tree.ValueInit e) h = less_expr e (deeper h)
  less_init (tree.BindsInit decl bs) h = place h (less_binds bs h)

  less_each : (x : Each) {e d : ℕ} → e ≤ d → Looser (print_each whole d x) (print_each whole e x)
  less_each (tree.TargetEach e) h = less_expr e (deeper h)
  less_each (tree.BindEach decl name) h = place h (place h nothing)

  less_clauses : (x : Clauses) {e d : ℕ} → e ≤ d → Looser (print_clauses whole d x) (print_clauses whole e x)
  less_clauses no_clauses h = nothing
  less_clauses (more_clauses test items cs) h = both (less_test test h) (place h (both (less_stmts items h) (less_clauses cs h)))

  less_test : (x : MaybeExpr) {e d : ℕ} → e ≤ d → Looser (print_test whole d x) (print_test whole e x)
  less_test no_expr h = place h nothing
  less_test (some_expr e) h = place h (less_expr e (deeper h))

  less_stmt : (x : Stmt) {e d : ℕ} → e ≤ d → Looser (print_stmt whole d x) (print_stmt whole e x)
  less_stmt (tree.Block items) h = place h (both (less_stmts items h) (place h nothing))
  less_stmt tree.Empty h = place h nothing
  less_stmt (tree.Debugger semi) h = place h (semi_less _ semi h)
  less_stmt (tree.Binding decl bs semi) h = place h (both (less_binds bs h) (semi_less _ semi h))
  less_stmt (tree.Value e semi) h = both (less_expr e (deeper h)) (semi_less _ semi h)
  less_stmt (tree.If test then_stmt else_stmt) h = place h (place h (both (less_expr test (deeper h)) (place h (both (less_stmt then_stmt (deeper h)) (less_else else_stmt h)))))
  less_stmt (tree.Do body test semi) h = place h (both (less_stmt body (deeper h)) (place h (place h (both (less_expr test (deeper h)) (place h (semi_less _ semi h))))))
  less_stmt (tree.While test body) h = place h (place h (both (less_expr test (deeper h)) (place h (less_stmt body (deeper h)))))
  less_stmt (tree.For init test update body) h = place h (place h (both (less_init init h) (place h (both (less_maybe test (deeper h)) (place h (both (less_maybe update (deeper h)) (place h (less_stmt body (deeper h)))))))))
  less_stmt (tree.ForIn each over body) h = place h (place h (both (less_each each h) (place h (both (less_expr over (deeper h)) (place h (less_stmt body (deeper h)))))))
  less_stmt (tree.Continue at label semi) h = place h (both (label_less label h) (semi_less _ semi h))
  less_stmt (tree.Break at label semi) h = place h (both (label_less label h) (semi_less _ semi h))
  less_stmt (tree.Return value semi) h = place h (both (both_glue (less_maybe value (deeper h))) (semi_less _ semi h))
  less_stmt (tree.Throw value semi) h = place h (both (both_glue (less_expr value (deeper h))) (semi_less _ semi h))
  less_stmt (tree.Switch of cs) h = place h (place h (both (less_expr of (deeper h)) (place h (place h (both (less_clauses cs h) (place h nothing))))))
  less_stmt (tree.Label name body) h = place (deeper h) (place h (less_stmt body (deeper h)))
  less_stmt (tree.Try body param handler) h = place h (place h (both (less_stmts body h) (place h (place h (both (catch_less param h) (place h (both (less_stmts handler h) (place h nothing))))))))
  less_stmt (tree.Declared f) h = less_declared f h
