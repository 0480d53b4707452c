-- That the functions directly in statements and their parts were found.
use Rattle.std.specs.Prelude.{◌≡◌, ℕ, ◌+◌, ◌≤◌, Bool, List, [], ◌++◌, Option, Some, map, option_map, length}
use Rattle.script_grammar.specs.declared.tree.Clause.{Clause}
use Rattle.script_grammar.specs.declared.tree.FuncBody.{FuncBody}
use Rattle.script_grammar.specs.declared.tree.Ident.{Ident}
use Rattle.script_grammar.specs.declared.tree.Stmt.{Stmt}
use Rattle.script_grammar.specs.Interpretation.{Interpretation, maybe_named}
use Rattle.script_grammar.specs.Tree as model
use Rattle.script_grammar.specs.TreeLists.{stmts_of, clauses_of}
use Rattle.script_grammar.specs.TreeOf.{body_of, stmt_of, clause_of}
use Rattle.stencil_data.specs.LinkView.{LinkView}
use Rattle.scope_analysis.specs.DeclaredNames.{Declaration, lexical_names, clauses_lexical_names, top_lexical_names}
use Rattle.scope_analysis.specs.Functions.{Inner, enclosed, inner_stmt, inner_stmts, inner_clauses, inner_body}
use Rattle.scope_analysis.specs.Scopes.{scope_count, catch_names, count_stmt, count_stmts, count_clauses, body_var_names}
use Rattle.emit_stmts.specs.Declares.{declares}
use Rattle.scope_inner.specs.declared.places.Walk.{Walk}
use Rattle.scope_inner.specs.declared.sites.FunctionSite.{FunctionSite}
use Rattle.scope_inner.specs.Finding.{chain_around, FindsIn}
use Rattle.scope_inner.specs.OwnKinds.{is_of_vars, is_of_top}
use Rattle.scope_inner.specs.Sites.{sited, sited_in}
use Rattle.scope_inner.specs.Spots.{Spot}
use Rattle.std.specs.declared.alloc.Global.{Global}
use Rattle.std.specs.declared.boxed.Box.{Box}
use Rattle.script_grammar.specs.TreeLists.{maybe_stmt_of}
use Rattle.stencil_data.specs.Named.{NamedScope}
use Rattle.scope_analysis.specs.Functions.{inner_else}
use Rattle.scope_analysis.specs.Scopes.{count_else}
use Rattle.emit_stmts.specs.Frames.{scope_at}

abbrev pub stmts_in : Interpretation → List Stmt → model.Stmts
stmts_in i ss = stmts_of (map (stmt_of i) ss)

abbrev pub clauses_in : Interpretation → List Clause → model.Clauses
clauses_in i cs = clauses_of (map (clause_of i) cs)

abbrev pub else_in : Interpretation → Option (Box Stmt Global) → model.MaybeStmt
else_in i s = maybe_stmt_of (option_map (λ boxed. stmt_of i boxed.value) s)

-- ---- statements

pub record RowFinds (p : Spot) (old new : Walk) (m : Interpretation → model.Stmt) : Type 0 where
  pub all : FindsIn p old.sites.items new.sites.items old.next new.next (λ i. count_stmt (m i)) (λ i. inner_stmt (m i))

pub record StmtFinds (p : Spot) (old new : Walk) (s : Stmt) : Type 0 where
  pub row : RowFinds p old new (λ i. stmt_of i s)

pub record StmtsFind (p : Spot) (old new : Walk) (ss : List Stmt) : Type 0 where
  pub all : FindsIn p old.sites.items new.sites.items old.next new.next (λ i. count_stmts (stmts_in i ss)) (λ i. inner_stmts (stmts_in i ss))

pub record ElseFinds (p : Spot) (old new : Walk) (s : Option (Box Stmt Global)) : Type 0 where
  pub all : FindsIn p old.sites.items new.sites.items old.next new.next (λ i. count_else (else_in i s)) (λ i. inner_else (else_in i s))

pub record ClausesFind (p : Spot) (old new : Walk) (cs : List Clause) : Type 0 where
  pub all : FindsIn p old.sites.items new.sites.items old.next new.next (λ i. count_clauses (clauses_in i cs)) (λ i. inner_clauses (clauses_in i cs))

-- ---- in scopes of their own

abbrev pub block_count : model.Stmts → ℕ
block_count items = scope_count (lexical_names items) + count_stmts items

abbrev pub inner_block : model.Stmts → ℕ → List ℕ → List Inner
inner_block items number around = inner_stmts items (number + scope_count (lexical_names items)) (enclosed (lexical_names items) number around)

pub record BlockFinds (p : Spot) (old new : Walk) (ss : List Stmt) : Type 0 where
  pub all : FindsIn p old.sites.items new.sites.items old.next new.next (λ i. block_count (stmts_in i ss)) (λ i. inner_block (stmts_in i ss))

-- the clauses of a switch, with the scope of their names
pub record SwitchFinds (p : Spot) (old new : Walk) (cs : List Clause) : Type 0 where
  pub all : FindsIn p old.sites.items new.sites.items old.next new.next
      (λ i. scope_count (clauses_lexical_names (clauses_in i cs)) + count_clauses (clauses_in i cs))
      (λ i number around. inner_clauses (clauses_in i cs) (number + scope_count (clauses_lexical_names (clauses_in i cs)))
      (enclosed (clauses_lexical_names (clauses_in i cs)) number around))

-- a handler with the scope of its parameter
abbrev pub inner_handler : List Declaration → model.Stmts → ℕ → List ℕ → List Inner
inner_handler names items number around = inner_block items (number + scope_count names) (enclosed names number around)

pub record HandlerFinds (p : Spot) (old new : Walk) (param : Option Ident) (ss : List Stmt) : Type 0 where
  pub all : FindsIn p old.sites.items new.sites.items old.next new.next
      (λ i. scope_count (catch_names (maybe_named i param)) + block_count (stmts_in i ss))
      (λ i. inner_handler (catch_names (maybe_named i param)) (stmts_in i ss))

-- ---- bodies

abbrev pub vars_in : Bool → model.Body → List Declaration
vars_in initialized (model.ShortBody value) = []
vars_in initialized (model.BracedBody items) = body_var_names initialized items

abbrev pub tops_in : model.Body → List Declaration
tops_in (model.ShortBody value) = []
tops_in (model.BracedBody items) = top_lexical_names items

abbrev pub count_in : model.Body → ℕ
count_in (model.ShortBody value) = 0
count_in (model.BracedBody items) = count_stmts items

abbrev pub body_count : Bool → model.Body → ℕ
body_count initialized body = scope_count (vars_in initialized body) + (scope_count (tops_in body) + count_in body)

-- among these scopes stand those of a body's own names from this number on, where it has some
pub record BodyStands (scopes : List NamedScope) (number : ℕ) (initialized : Bool) (body : model.Body) : Type 0 where
  pub vars : is_of_vars (scope_at scopes number).kind ≡ declares (vars_in initialized body)
  pub top : is_of_top (scope_at scopes (number + scope_count (vars_in initialized body))).kind ≡ declares (tops_in body)
  pub numbered : number + body_count initialized body ≤ length scopes

-- the functions directly in such a body were found
abbrev pub InBody : Interpretation → Spot → List FunctionSite → List FunctionSite → ℕ → Bool → model.Body → Type 0
InBody i p old new number initialized body =
    (outer : List LinkView) (around : List ℕ) → p.chain ≡ chain_around p.scopes outer around
    → map (sited i) new ≡ map (sited i) old ++ map (sited_in p.scopes outer) (inner_body initialized body number around)

pub record BracedFinds (p : Spot) (old new : Walk) (ss : List Stmt) : Type 0 where
  pub found : (i : Interpretation) (initialized : Bool) → BodyStands p.scopes old.next initialized (model.BracedBody (stmts_in i ss))
      → InBody i p old.sites.items new.sites.items old.next initialized (model.BracedBody (stmts_in i ss))

pub record BodyFinds (p : Spot) (old new : Walk) (b : FuncBody) : Type 0 where
  pub found : (i : Interpretation) (initialized : Bool) (body : model.Body) → body_of i b ≡ Some body
      → BodyStands p.scopes old.next initialized body → InBody i p old.sites.items new.sites.items old.next initialized body
