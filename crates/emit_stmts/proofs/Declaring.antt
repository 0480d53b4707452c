-- Whether lists of statements declare names, by their parts.
use Rattle.std.proofs.Common.{◌≡◌, Bool, true, false, not, ◌==◌, List, [], ◌∷◌, ◌++◌, map, length, refl, sym, ◌∙◌, ap, true≢false}
use Rattle.std.proofs.Math.Dec.{eqb-suc-zero}
use Rattle.script_grammar.specs.declared.tree.Bind.{Bind}
use Rattle.script_grammar.specs.declared.tree.Clause.{Clause}
use Rattle.script_grammar.specs.declared.tree.Stmt.{Stmt}
use Rattle.script_grammar.specs.Interpretation.{Interpretation}
use Rattle.script_grammar.specs.TreeLists as part
use Rattle.script_grammar.specs.TreeLists.{binds_of, stmts_of, clauses_of}
use Rattle.script_grammar.specs.TreeOf.{bind_of, stmt_of, clause_of}
use Rattle.script_grammar.proofs.PartEquations.{clause_of-fields}
use Rattle.stencil_data.specs.declared.scopes.BindKind.{BindKind}
use Rattle.scope_analysis.specs.DeclaredNames.{Declaration, declarations, bound_names, lexical_name, lexical_names, clauses_lexical_names}
use Rattle.emit_stmts.specs.Declares.{declares}

pub some_bound : (i : Interpretation) (kind : BindKind) (binds : List Bind) → not (length binds == 0) ≡ declares (declarations kind (bound_names (binds_of (map (bind_of i) binds))))
some_bound i kind [] = refl
some_bound i kind (b ∷ bs) = ap not (eqb-suc-zero (length bs))

declares_first : (xs ys : List Declaration) → declares xs ≡ true → declares (xs ++ ys) ≡ true
declares_first [] ys some = absurd (true≢false (sym some))
declares_first (x ∷ xs) ys some = refl

declares_later : (xs ys : List Declaration) → declares xs ≡ false → declares (xs ++ ys) ≡ declares ys
declares_later [] ys none = refl
declares_later (x ∷ xs) ys none = absurd (true≢false none)

-- what is declared in those that are left is so in all
pub record BlockLooked (all left : List Stmt) : Type 0 where
  pub same : (i : Interpretation) → declares (lexical_names (stmts_of (map (stmt_of i) left))) ≡ declares (lexical_names (stmts_of (map (stmt_of i) all)))

pub block_begin : (all : List Stmt) → BlockLooked all all
block_begin all = record { same = λ i. refl }

pub block_next : {all : List Stmt} (left further : List Stmt) (s : Stmt) (some : Bool) → left ≡ s ∷ further → ((i : Interpretation) → some ≡ declares (lexical_name (stmt_of i s))) → some ≡ false → BlockLooked all left → BlockLooked all further
block_next left further s some is some_is none l = record {
  same = λ i. sym (declares_later (lexical_name (stmt_of i s)) (lexical_names (stmts_of (map (stmt_of i) further))) (sym (some_is i) ∙ none))
      ∙ (sym (ap (λ (xs : List Stmt). declares (lexical_names (stmts_of (map (stmt_of i) xs)))) is) ∙ l.same i);
}

pub block_found : {all : List Stmt} (left further : List Stmt) (s : Stmt) (some : Bool) → left ≡ s ∷ further → ((i : Interpretation) → some ≡ declares (lexical_name (stmt_of i s))) → some ≡ true → BlockLooked all left → (i : Interpretation) → true ≡ declares (lexical_names (stmts_of (map (stmt_of i) all)))
block_found left further s some is some_is found l i =
    sym (declares_first (lexical_name (stmt_of i s)) (lexical_names (stmts_of (map (stmt_of i) further))) (sym (some_is i) ∙ found))
    ∙ (sym (ap (λ (xs : List Stmt). declares (lexical_names (stmts_of (map (stmt_of i) xs)))) is) ∙ l.same i)

pub block_none : {all : List Stmt} (left : List Stmt) → left ≡ [] → BlockLooked all left → (i : Interpretation) → false ≡ declares (lexical_names (stmts_of (map (stmt_of i) all)))
block_none left none l i = sym (ap (λ (xs : List Stmt). declares (lexical_names (stmts_of (map (stmt_of i) xs)))) none) ∙ l.same i

-- the same of clauses
pub record ClausesLooked (all left : List Clause) : Type 0 where
  pub same : (i : Interpretation) → declares (clauses_lexical_names (clauses_of (map (clause_of i) left))) ≡ declares (clauses_lexical_names (clauses_of (map (clause_of i) all)))

pub clauses_begin : (all : List Clause) → ClausesLooked all all
clauses_begin all = record { same = λ i. refl }

parted : (i : Interpretation) (left further : List Clause) (c : Clause) (items : List Stmt) → left ≡ c ∷ further → items ≡ c.items.items → clauses_lexical_names (clauses_of (map (clause_of i) left)) ≡ lexical_names (stmts_of (map (stmt_of i) items)) ++ clauses_lexical_names (clauses_of (map (clause_of i) further))
parted i left further c items is items_is =
    ap (λ (xs : List Clause). clauses_lexical_names (clauses_of (map (clause_of i) xs))) is
    ∙ (ap (λ (q : part.Clause). lexical_names (stmts_of q.items) ++ clauses_lexical_names (clauses_of (map (clause_of i) further))) (clause_of-fields i c)
    ∙ ap (λ (xs : List Stmt). lexical_names (stmts_of (map (stmt_of i) xs)) ++ clauses_lexical_names (clauses_of (map (clause_of i) further))) (sym items_is))

pub clauses_next : {all : List Clause} (left further : List Clause) (c : Clause) (items : List Stmt) (some : Bool) → left ≡ c ∷ further → items ≡ c.items.items → ((i : Interpretation) → some ≡ declares (lexical_names (stmts_of (map (stmt_of i) items)))) → some ≡ false → ClausesLooked all left → ClausesLooked all further
clauses_next left further c items some is items_is some_is none l = record {
  same = λ i. sym (declares_later (lexical_names (stmts_of (map (stmt_of i) items))) (clauses_lexical_names (clauses_of (map (clause_of i) further))) (sym (some_is i) ∙ none))
      ∙ (sym (ap declares (parted i left further c items is items_is)) ∙ l.same i);
}

pub clauses_found : {all : List Clause} (left further : List Clause) (c : Clause) (items : List Stmt) (some : Bool) → left ≡ c ∷ further → items ≡ c.items.items → ((i : Interpretation) → some ≡ declares (lexical_names (stmts_of (map (stmt_of i) items)))) → some ≡ true → ClausesLooked all left → (i : Interpretation) → true ≡ declares (clauses_lexical_names (clauses_of (map (clause_of i) all)))
clauses_found left further c items some is items_is some_is found l i =
    sym (declares_first (lexical_names (stmts_of (map (stmt_of i) items))) (clauses_lexical_names (clauses_of (map (clause_of i) further))) (sym (some_is i) ∙ found))
    ∙ (sym (ap declares (parted i left further c items is items_is)) ∙ l.same i)

pub clauses_none : {all : List Clause} (left : List Clause) → left ≡ [] → ClausesLooked all left → (i : Interpretation) → false ≡ declares (clauses_lexical_names (clauses_of (map (clause_of i) all)))
clauses_none left none l i = sym (ap (λ (xs : List Clause). declares (clauses_lexical_names (clauses_of (map (clause_of i) xs)))) none) ∙ l.same i
