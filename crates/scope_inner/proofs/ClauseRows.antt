-- Clauses of a switch, one after the other, and the parameter of a handler.
use Rattle.std.proofs.Common.{◌≡◌, ℕ, ◌+◌, List, ◌∷◌, ◌++◌, Option, None, Some, option_map, is_some, refl, sym, ◌∙◌, ap}
use Rattle.script_grammar.specs.declared.tree.Clause.{Clause}
use Rattle.script_grammar.specs.declared.tree.Ident.{Ident}
use Rattle.script_grammar.specs.declared.tree.Stmt.{Stmt}
use Rattle.script_grammar.specs.Interpretation.{Interpretation, maybe_named}
use Rattle.script_grammar.specs.TreeLists as part
use Rattle.script_grammar.specs.TreeLists.{maybe_expr_of, stmts_of}
use Rattle.script_grammar.specs.TreeOf.{expr_of}
use Rattle.script_grammar.proofs.PartEquations.{clause_of-fields}
use Rattle.scope_analysis.specs.Functions.{inner_maybe, inner_stmts, inner_clauses}
use Rattle.scope_analysis.specs.Scopes.{catch_names, count_stmts, count_clauses}
use Rattle.emit_stmts.specs.Declares.{declares}
use Rattle.scope_inner.specs.StmtFinds.{stmts_in, clauses_in}

pub clauses_count : (i : Interpretation) (left further : List Clause) (x : Clause) (items : List Stmt) → left ≡ x ∷ further → items ≡ x.items.items → count_clauses (clauses_in i left) ≡ count_stmts (stmts_in i items) + count_clauses (clauses_in i further)
clauses_count i left further x items is same =
    ap (λ (l : List Clause). count_clauses (clauses_in i l)) is
    ∙ (ap (λ (q : part.Clause). count_stmts (stmts_of q.items) + count_clauses (clauses_in i further)) (clause_of-fields i x)
    ∙ ap (λ (l : List Stmt). count_stmts (stmts_in i l) + count_clauses (clauses_in i further)) (sym same))

pub clauses_found : (i : Interpretation) (n : ℕ) (r : List ℕ) (left further : List Clause) (x : Clause) (items : List Stmt) → left ≡ x ∷ further → items ≡ x.items.items
    → inner_clauses (clauses_in i left) n r ≡ (inner_maybe (maybe_expr_of (option_map (expr_of i) x.test)) r ++ inner_stmts (stmts_in i items) n r) ++ inner_clauses (clauses_in i further) (n + count_stmts (stmts_in i items)) r
clauses_found i n r left further x items is same =
    ap (λ (l : List Clause). inner_clauses (clauses_in i l) n r) is
    ∙ (ap (λ (q : part.Clause). inner_maybe (maybe_expr_of q.test) r ++ inner_stmts (stmts_of q.items) n r ++ inner_clauses (clauses_in i further) (n + count_stmts (stmts_of q.items)) r) (clause_of-fields i x)
    ∙ ap (λ (l : List Stmt). inner_maybe (maybe_expr_of (option_map (expr_of i) x.test)) r ++ inner_stmts (stmts_in i l) n r ++ inner_clauses (clauses_in i further) (n + count_stmts (stmts_in i l)) r) (sym same))

-- the scope of a handler's parameter is there where it has one
pub catch_declared : (i : Interpretation) (param : Option Ident) → is_some param ≡ declares (catch_names (maybe_named i param))
catch_declared i None = refl
catch_declared i (Some name) = refl
