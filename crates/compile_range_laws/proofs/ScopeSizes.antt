-- The scopes of statements: the parent of each is below its own number, and they have no more bindings than there are names.
use Rattle.std.proofs.Common.{◌≡◌, ℕ, ◌+◌, ◌*◌, ◌^◌, ◌≤◌, ◌<◌, Bool, true, false, cond, List, [], ◌∷◌, ◌++◌, length, count_by, Option, Some, None, refl, subst, arith}
use Rattle.std.specs.Prelude.{IfSome}
use Rattle.std.proofs.lemmas.List.{length-append, length-map}
use Rattle.std.proofs.lemmas.List.Sums.{count_by-le-length}
use Rattle.script_grammar.specs.Tree.{Body, BracedBody, ShortBody, Clauses, no_clauses, more_clauses, Stmt, Stmts, no_stmts, more_stmts, MaybeStmt, no_stmt, some_stmt, Block, Empty, Debugger, Binding, Value, If, Do, While, For, ForIn, Continue, Break, Return, Throw, Switch, Label, Try, Declared}
use Rattle.stencil_data.specs.declared.scopes.ScopeKind.{ScopeKind}
use Rattle.stencil_data.specs.declared.scopes.ScopeKind.TheVariants as scope
use Rattle.stencil_data.specs.declared.scopes.Slot.{Slot}
use Rattle.stencil_data.specs.Named.{NamedScope, NamedClosed}
use Rattle.stencil_data.specs.Resolve.{is_global}
use Rattle.stencil_data.specs.Slots.{Unplaced, slots, env_slots}
use Rattle.scope_analysis.specs.Closed.{is_env, closed_bindings, closed_from, closed_over}
use Rattle.scope_analysis.specs.DeclaredNames.{Text, has_text, Declaration, lexical_names, clauses_lexical_names, init_lexical_names, each_lexical_names, top_lexical_names}
use Rattle.scope_analysis.specs.Scopes.{unplaced, placed, Within, inside, behind, scope_and, scope_around, scope_count, catch_names, count_stmt, count_stmts, count_else, count_clauses, for_inner, for_in_inner, block_inner, catch_inner, scopes_stmt, scopes_stmts, scopes_else, scopes_clauses, body_var_names, body_var_inner, scopes_body}
use Rattle.scope_analysis.specs.Uses.{uses_clauses}
use Rattle.stencil_data.specs.declared.chains.LinkName.{LinkName}
use Rattle.emit_limit_laws.specs.Names.{names_stmt, names_stmts, names_else, names_clauses, body_names}
use Rattle.bytecode_buf.specs.InRange.{Small}
use Rattle.stencil_xdr_laws.specs.Sizes.{ScopesSmall}

-- ---- what is said of scopes

abbrev pub ParentsBelow : ℕ → List NamedScope → Type 0
ParentsBelow number [] = Unit {0}
ParentsBelow number (s ∷ ss) = IfSome s.parent (λ parent. parent < number) × ParentsBelow (number + 1) ss

-- their bindings and environment slots together
abbrev pub weight : List NamedScope → ℕ
weight [] = 0
weight (s ∷ ss) = length s.bindings + s.env_slots + weight ss

-- n scopes from a number on, with at most m names
pub record ScopesStand (number count names : ℕ) (ss : List NamedScope) : Type 0 where
  pub many : length ss ≡ count
  pub parents : ParentsBelow number ss
  pub few : weight ss ≤ 2 * names

-- the parent of what stands here is below the next number
abbrev pub Below : Within → Type 0
Below w = IfSome w.parent (λ parent. parent < w.next)

-- ---- parts

pub none : {number : ℕ} → ScopesStand number 0 0 []
none = record { many = refl; parents = tt; few = omega arith }

parents_both : (number next : ℕ) (ss ts : List NamedScope) → next ≡ number + length ss → ParentsBelow number ss → ParentsBelow next ts → ParentsBelow number (ss ++ ts)
parents_both number next [] ts e h k = let same : next ≡ number = omega arith in subst (λ (n : ℕ). ParentsBelow n ts) same k
parents_both number next (s ∷ ss) ts e h k = (h.0, parents_both (number + 1) next ss ts (omega arith) h.1 k)

weight_both : (ss ts : List NamedScope) → weight (ss ++ ts) ≡ weight ss + weight ts
weight_both [] ts = omega arith
weight_both (s ∷ ss) ts = let h = weight_both ss ts in omega (arith, h)

pub stand_both : {number c d m n : ℕ} {ss ts : List NamedScope} → ScopesStand number c m ss → ScopesStand (number + c) d n ts → ScopesStand number (c + d) (m + n) (ss ++ ts)
stand_both {number} {c} {d} {m} {n} {ss} {ts} h k =
    let e = length-append ss ts in
    let f = weight_both ss ts in
    let a = h.many in
    let b = k.many in
    let p = h.few in
    let q = k.few in record {
      many = omega (arith, e, a, b);
      parents = parents_both number (number + c) ss ts (omega (arith, a)) h.parents k.parents;
      few = omega (arith, f, p, q);
    }

pub stand_as : {number c d m n : ℕ} {ss : List NamedScope} → c ≡ d → m ≤ n → ScopesStand number c m ss → ScopesStand number d n ss
stand_as {number} {c} {d} {m} {n} {ss} e le h =
    let a = h.many in
    let p = h.few in record { many = omega (arith, a, e); parents = h.parents; few = omega (arith, le, p) }

pub below_behind : (count : ℕ) (w : Within) → Below w → Below (behind count w)
below_behind count w h = later w.parent w.next h
  where
    later : (o : Option ℕ) (n : ℕ) → IfSome o (λ p. p < n) → IfSome o (λ p. p < n + count)
    later None n h = tt
    later (Some p) n h = omega arith

-- ---- one scope

placed_few : (ds : List Declaration) (ss : List Slot) → length (placed ds ss) ≤ length ds
placed_few [] ss = omega arith
placed_few (d ∷ ds) [] = omega arith
placed_few (d ∷ ds) (s ∷ ss) = let h = placed_few ds ss in omega (arith, h)

either_few : (b : Bool) (m n : ℕ) → m ≤ n → cond b 0 m ≤ n
either_few true m n h = omega arith
either_few false m n h = h

env_few : (kind : ScopeKind) (inner : List Text) (ds : List Declaration) → env_slots kind (unplaced inner ds) ≤ length ds
env_few kind inner ds =
    let h = count_by-le-length (λ (b : Unplaced). b.closed) (unplaced inner ds) in
    let e = length-map {B = Unplaced} ds (λ (d : Declaration). record { kind = d.kind; closed = has_text inner d.text }) in
    either_few (is_global kind) (count_by (λ (b : Unplaced). b.closed) (unplaced inner ds)) (length ds) (omega (arith, h, e))

pub stand_and : {c m : ℕ} (kind : ScopeKind) (ds : List Declaration) (names : List Text) (content : Within → List NamedScope) (w : Within) → Below w → ((v : Within) → Below v → ScopesStand v.next c m (content v))
    → ScopesStand w.next (1 + c) (length ds + m) (scope_and kind ds names content w)
stand_and {c} {m} kind ds names content w h f =
    let v : Within = inside kind ds names w in
    let below : w.next < w.next + 1 = omega arith in
    let k = f v below in
    let a = k.many in
    let p = k.few in
    let bindings = placed_few ds (slots kind w.frame (unplaced names ds)) in
    let envs = env_few kind names ds in record {
      many = omega (arith, a);
      parents = (h, k.parents);
      few = omega (arith, p, bindings, envs);
    }

pub stand_around : {c m : ℕ} (kind : ScopeKind) (ds : List Declaration) (names : List Text) (content : Within → List NamedScope) (w : Within) → Below w → ((v : Within) → Below v → ScopesStand v.next c m (content v))
    → ScopesStand w.next (scope_count ds + c) (length ds + m) (scope_around kind ds names content w)
stand_around kind [] names content w h f = stand_as (omega arith) (omega arith) (f w h)
stand_around kind (d ∷ ds) names content w h f = stand_and kind (d ∷ ds) names content w h f

-- ---- statements

mutual
  stmt_stands : (x : Stmt) (w : Within) → Below w → ScopesStand w.next (count_stmt x) (names_stmt x) (scopes_stmt x w)
  stmt_stands (Block items) w h = stand_around scope.Lexical (lexical_names items) (block_inner items) (scopes_stmts items) w h (stmts_stand items)
  stmt_stands Empty w h = none
  stmt_stands (Debugger semi) w h = none
  stmt_stands (Binding kind binds semi) w h = none
  stmt_stands (Value value semi) w h = none
  stmt_stands (If test then_stmt else_stmt) w h = stand_both (stmt_stands then_stmt w h) (else_stands else_stmt (behind (count_stmt then_stmt) w) (below_behind (count_stmt then_stmt) w h))
  stmt_stands (Do body test semi) w h = stmt_stands body w h
  stmt_stands (While test body) w h = stmt_stands body w h
  stmt_stands (For init test update body) w h = stand_around scope.Lexical (init_lexical_names init) (for_inner init test update body) (scopes_stmt body) w h (stmt_stands body)
  stmt_stands (ForIn each over body) w h = stand_around scope.Lexical (each_lexical_names each) (for_in_inner each over body) (scopes_stmt body) w h (stmt_stands body)
  stmt_stands (Continue at label semi) w h = none
  stmt_stands (Break at label semi) w h = none
  stmt_stands (Return value semi) w h = none
  stmt_stands (Throw value semi) w h = none
  stmt_stands (Switch of clauses) w h = stand_around scope.Lexical (clauses_lexical_names clauses) (uses_clauses clauses).inner (scopes_clauses clauses) w h (clauses_stand clauses)
  stmt_stands (Label name body) w h = stmt_stands body w h
  stmt_stands (Try body param handler) w h =
      let count = scope_count (lexical_names body) + count_stmts body in
      stand_both (stand_around scope.Lexical (lexical_names body) (block_inner body) (scopes_stmts body) w h (stmts_stand body))
      (stand_around scope.SimpleCatch (catch_names param) (catch_inner handler) (scope_around scope.Lexical (lexical_names handler) (block_inner handler) (scopes_stmts handler)) (behind count w) (below_behind count w h)
      (λ v k. stand_around scope.Lexical (lexical_names handler) (block_inner handler) (scopes_stmts handler) v k (stmts_stand handler)))
  stmt_stands (Declared f) w h = none

  pub stmts_stand : (x : Stmts) (w : Within) → Below w → ScopesStand w.next (count_stmts x) (names_stmts x) (scopes_stmts x w)
  stmts_stand no_stmts w h = none
  stmts_stand (more_stmts s rest) w h = stand_both (stmt_stands s w h) (stmts_stand rest (behind (count_stmt s) w) (below_behind (count_stmt s) w h))

  else_stands : (x : MaybeStmt) (w : Within) → Below w → ScopesStand w.next (count_else x) (names_else x) (scopes_else x w)
  else_stands no_stmt w h = none
  else_stands (some_stmt s) w h = stmt_stands s w h

  clauses_stand : (x : Clauses) (w : Within) → Below w → ScopesStand w.next (count_clauses x) (names_clauses x) (scopes_clauses x w)
  clauses_stand no_clauses w h = none
  clauses_stand (more_clauses test items rest) w h = stand_both (stmts_stand items w h) (clauses_stand rest (behind (count_stmts items) w) (below_behind (count_stmts items) w h))

-- how many scopes a body has
abbrev pub body_scopes : Bool → Body → ℕ
body_scopes initialized (ShortBody value) = 0
body_scopes initialized (BracedBody items) = scope_count (body_var_names initialized items) + (scope_count (top_lexical_names items) + count_stmts items)

pub body_stands : (initialized : Bool) (body : Body) (w : Within) → Below w → ScopesStand w.next (body_scopes initialized body) (body_names initialized body) (scopes_body initialized body w)
body_stands initialized (ShortBody value) w h = none
body_stands initialized (BracedBody items) w h =
    stand_around scope.FunctionBodyVar (body_var_names initialized items) (body_var_inner items) (scope_around scope.FunctionLexical (top_lexical_names items) (block_inner items) (scopes_stmts items)) w h
    (λ v k. stand_around scope.FunctionLexical (top_lexical_names items) (block_inner items) (scopes_stmts items) v k (stmts_stand items))

-- ---- so they are small

small_by : (number : ℕ) (ss : List NamedScope) → ParentsBelow number ss → weight ss < 2 ^ 32 → ScopesSmall number ss
small_by number [] h k = tt
small_by number (s ∷ ss) h k = (h.0, omega (arith, k), omega (arith, k), small_by (number + 1) ss h.1 (omega (arith, k)))

pub scopes_small : {count names : ℕ} {ss : List NamedScope} → ScopesStand 0 count names ss → names < 2 ^ 31 → ScopesSmall 0 ss
scopes_small {count} {names} {ss} h k = let p = h.few in small_by 0 ss h.parents (omega (arith, p, k))

either_one : {A : Type 0} (b : Bool) (x : A) → length (cond b (x ∷ []) []) ≤ 1
either_one true x = omega arith
either_one false x = omega arith

closed_few : (number : ℕ) (bs : List LinkName) → length (closed_bindings number bs) ≤ length bs
closed_few number [] = omega arith
closed_few number (b ∷ bs) =
    let first : List NamedClosed = cond (is_env b.slot) (record { scope = number; text = b.text } ∷ []) [] in
    let h = closed_few number bs in
    let e = length-append first (closed_bindings number bs) in
    let k = either_one {A = NamedClosed} (is_env b.slot) (record { scope = number; text = b.text }) in
    omega (arith, h, e, k)

all_closed_few : (number : ℕ) (ss : List NamedScope) → length (closed_from number ss) ≤ weight ss
all_closed_few number [] = omega arith
all_closed_few number (s ∷ ss) =
    let h = all_closed_few (number + 1) ss in
    let k = closed_few number s.bindings in
    let e = length-append (closed_bindings number s.bindings) (closed_from (number + 1) ss) in
    omega (arith, h, k, e)

-- of their names no more are closed over
pub closed_small : {count names : ℕ} {ss : List NamedScope} → ScopesStand 0 count names ss → names < 2 ^ 31 → Small (length (closed_over ss))
closed_small {count} {names} {ss} h k =
    let p = h.few in
    let q = all_closed_few 0 ss in
    omega (arith, p, q, k)
