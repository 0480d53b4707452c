-- What a part stands for, and the fact that holds of it.
use Rattle.std.proofs.Common.{◌≡◌, ℕ, List, refl, sym, ap, subst, ◌∙◌, Option, Some, None}
use Rattle.std.specs.Prelude.{option_map}
use Rattle.script_grammar.specs.Lexeme.{Lexeme}
use Rattle.grammar_parser_specs.specs.Parser.{Recorded, Reply, Turn, Again}
use Rattle.parse_exprs.specs.Answers.{ReadAs}
use Rattle.script_grammar.specs.Endings.{bind_ending, return_ending}
use Rattle.script_grammar.specs.Interpretation.{Interpretation, named, maybe_named}
use Rattle.script_grammar.specs.Shows.{ShowMaybe, MaybeOf, FuncBodyOf, FuncOf, ShowFunc, ShowBind}
use Rattle.script_grammar.specs.Tree.{Expr, Stmt, Stmts, Body, BracedBody, ShortBody, Function, function}
use Rattle.script_grammar.specs.TreeLists.{Bind, maybe_expr_of, params_of}
use Rattle.script_grammar.specs.declared.node.NodeFuncBody.{NodeFuncBody}
use Rattle.script_grammar.specs.declared.node.NodeFuncBody.TheVariants as bodies
use Rattle.script_grammar.specs.declared.node.NodeFunc.{NodeFunc}
use Rattle.parse_exprs.specs.declared.part.Ranked.{Ranked}
use Rattle.parse_bodies.specs.declared.part.EndedBind.{EndedBind}
use Rattle.parse_bodies.specs.declared.part.StmtNode.{StmtNode}
use Rattle.parse_exprs.proofs.Onward.{Maps}
use Rattle.parse_bodies.specs.Means.{StmtOf, stmt_ending, ReturnedOf, returned_ending, EndedBindOf, ShowEnded, MaybeStmtOf, ShowMaybeStmt}

-- a value that may be left out
pub maybe_gives : {E A B : Type 0} (shows : E → A → Type 0) (o : Option E) (f : Option A → B) (k : B → Type 0) → MaybeOf shows o (λ t. k (f t)) → (t : Option A) × ShowMaybe shows o t × MaybeOf shows o (λ u. f t ≡ f u) × k (f t)
maybe_gives shows None f k h = (None, tt, refl, h)
maybe_gives shows (Some e) f k h = (Some h.0, h.1, (h.0, h.1, refl), h.2)

pub returned_gives : {E : Type 0} (shows : E → Expr → Type 0) (o : Option (Ranked E)) (k : Option Expr → Type 0) → ReturnedOf shows o k → (t : Option Expr) × ShowMaybe shows (option_map (λ v. v.node) o) t × (stmt_ending (returned_ending o) ≡ return_ending (maybe_expr_of t)) × k t
returned_gives shows None k h = (None, tt, refl, h)
returned_gives shows (Some v) k h = (Some h.0, h.1, h.3, h.4)

-- a function

body_gives : {E B : Type 0} (i : Interpretation) (shows : E → Expr → Type 0) (shows_body : B → Stmts → Type 0) (start : ℕ) (n : NodeFuncBody E B) (f : Body → Function) (k : Function → Type 0) → FuncBodyOf i shows shows_body start n (λ b. k (f b)) → (b : Body) × FuncBodyOf i shows shows_body start n (λ x. f b ≡ f x) × k (f b)
body_gives i shows shows_body start (bodies.Braced b) f k h = (BracedBody h.0, (h.0, h.1, refl), h.2)
body_gives i shows shows_body start (bodies.Short e) f k h = (ShortBody h.0, (h.0, h.1, refl), h.2)
body_gives i shows shows_body start (bodies.Passed) f k h = (BracedBody (i.bodies start), refl, h)

pub func_gives : {E B : Type 0} (i : Interpretation) (shows : E → Expr → Type 0) (shows_body : B → Stmts → Type 0) (n : NodeFunc E B) (k : Function → Type 0) → FuncOf i shows shows_body n k → (f : Function) × ShowFunc i shows shows_body n f × k f
func_gives i shows shows_body n k h =
    let f : Body → Function = λ b. function n.form n.start n.end (maybe_named i n.name) (params_of h.0) n.comma n.bare b in
    let x = body_gives i shows shows_body n.start n.body f k h.2 in
    (f x.0, (h.0, h.1, x.1), x.2)

-- a name with its initializer

pub bind_gives : {E : Type 0} (i : Interpretation) (shows : E → Expr → Type 0) (v : EndedBind E) (k : Bind → Type 0) → EndedBindOf i shows v k → (b : Bind) × ShowEnded i shows v b × k b
bind_gives {E = E} i shows v k h = gives v.bind.value h
  where
    of : Option Expr → Bind
    of o = record { name = named i v.bind.name; value = o }

    gives : (o : Option E) → MaybeOf shows o (λ t. (stmt_ending v.ending ≡ bind_ending (maybe_expr_of t)) × k (of t)) → (b : Bind) × MaybeOf shows o (λ t. (stmt_ending v.ending ≡ bind_ending (maybe_expr_of t)) × (b ≡ of t)) × k b
    gives None m = (of None, (m.0, refl), m.1)
    gives (Some e) m = (of (Some m.0), (m.0, m.1, (m.2.0, refl)), m.2.1)

-- and back
pub bind_made_of : {E : Type 0} (i : Interpretation) (shows : E → Expr → Type 0) (v : EndedBind E) (b : Bind) (k : Bind → Type 0) → ShowEnded i shows v b → k b → EndedBindOf i shows v k
bind_made_of {E = E} i shows v b k h p = back v.bind.value h
  where
    of : Option Expr → Bind
    of o = record { name = named i v.bind.name; value = o }

    back : (o : Option E) → MaybeOf shows o (λ t. (stmt_ending v.ending ≡ bind_ending (maybe_expr_of t)) × (b ≡ of t)) → MaybeOf shows o (λ t. (stmt_ending v.ending ≡ bind_ending (maybe_expr_of t)) × k (of t))
    back None m = (m.0, subst k m.1 p)
    back (Some e) m = (m.0, m.1, (m.2.0, subst k m.2.1 p))

-- the node alone, and how it ends
pub ended_bind_shows : {E : Type 0} (i : Interpretation) (shows : E → Expr → Type 0) (v : EndedBind E) (b : Bind) → ShowEnded i shows v b → ShowBind i shows v.bind b × (stmt_ending v.ending ≡ bind_ending (maybe_expr_of b.value))
ended_bind_shows {E = E} i shows v b h = both v.bind.value h
  where
    of : Option Expr → Bind
    of o = record { name = named i v.bind.name; value = o }

    both : (o : Option E) → MaybeOf shows o (λ t. (stmt_ending v.ending ≡ bind_ending (maybe_expr_of t)) × (b ≡ of t)) → MaybeOf shows o (λ t. b ≡ of t) × (stmt_ending v.ending ≡ bind_ending (maybe_expr_of b.value))
    both None m = (m.1, m.0 ∙ ap (λ x. bind_ending (maybe_expr_of x.value)) (sym m.1))
    both (Some e) m = ((m.0, m.1, m.2.1), m.2.0 ∙ ap (λ x. bind_ending (maybe_expr_of x.value)) (sym m.2.1))

maybe_stmt_gives : {S : Type 0} (shows : S → Stmt → Type 0) (o : Option (StmtNode S)) (k : Option Stmt → Type 0) → MaybeStmtOf shows o k → (t : Option Stmt) × ShowMaybeStmt shows o t × k t
maybe_stmt_gives shows None k h = (None, refl, h)
maybe_stmt_gives shows (Some v) k h = (Some h.0, (h.0, h.1, h.2, refl), h.3)

-- the same of what was read

module _ {rs qs : List Recorded} {us : List Lexeme} where
  pub func_read : {E B : Type 0} (i : Interpretation) (shows : E → Expr → Type 0) (shows_body : B → Stmts → Type 0) (n : NodeFunc E B) {r : Reply Function} → FuncOf i shows shows_body n (λ f. ReadAs rs r f qs us) → (f : Function) × ShowFunc i shows shows_body n f × ReadAs rs r f qs us
  func_read i shows shows_body n {r} h = func_gives i shows shows_body n (λ f. ReadAs rs r f qs us) h

  pub returned_read : {E : Type 0} (shows : E → Expr → Type 0) (o : Option (Ranked E)) {r : Reply (Option Expr)} → ReturnedOf shows o (λ t. ReadAs rs r t qs us) → (t : Option Expr) × ShowMaybe shows (option_map (λ v. v.node) o) t × (stmt_ending (returned_ending o) ≡ return_ending (maybe_expr_of t)) × ReadAs rs r t qs us
  returned_read shows o {r} h = returned_gives shows o (λ t. ReadAs rs r t qs us) h

  pub bind_turn_read : {E : Type 0} (i : Interpretation) (shows : E → Expr → Type 0) (v : EndedBind E) {r : Reply (Turn Bind (Unit {0}))} → EndedBindOf i shows v (λ b. ReadAs rs r (Again b) qs us) → (b : Bind) × ShowEnded i shows v b × ReadAs rs r (Again b) qs us
  bind_turn_read i shows v {r} h = bind_gives i shows v (λ b. ReadAs rs r (Again b) qs us) h

  pub bind_read : {E : Type 0} (i : Interpretation) (shows : E → Expr → Type 0) (v : EndedBind E) {r : Reply Bind} → EndedBindOf i shows v (λ b. ReadAs rs r b qs us) → (b : Bind) × ShowEnded i shows v b × ReadAs rs r b qs us
  bind_read i shows v {r} h = bind_gives i shows v (λ b. ReadAs rs r b qs us) h

  pub bind_made : {E : Type 0} (i : Interpretation) (shows : E → Expr → Type 0) (v : EndedBind E) {b : Bind} {r : Reply Bind} → ShowEnded i shows v b → ReadAs rs r b qs us → EndedBindOf i shows v (λ x. ReadAs rs r x qs us)
  bind_made i shows v {b} {r} h p = bind_made_of i shows v b (λ x. ReadAs rs r x qs us) h p

  pub bind_turn_made : {E : Type 0} (i : Interpretation) (shows : E → Expr → Type 0) (v : EndedBind E) {b : Bind} {r : Reply (Turn Bind (Unit {0}))} → ShowEnded i shows v b → ReadAs rs r (Again b) qs us → EndedBindOf i shows v (λ x. ReadAs rs r (Again x) qs us)
  bind_turn_made i shows v {b} {r} h p = bind_made_of i shows v b (λ x. ReadAs rs r (Again x) qs us) h p

  pub maybe_stmt_read : {S : Type 0} (shows : S → Stmt → Type 0) (o : Option (StmtNode S)) {r : Reply (Option Stmt)} → MaybeStmtOf shows o (λ t. ReadAs rs r t qs us) → (t : Option Stmt) × ShowMaybeStmt shows o t × ReadAs rs r t qs us
  maybe_stmt_read shows o {r} h = maybe_stmt_gives shows o (λ t. ReadAs rs r t qs us) h

  pub maybe_read : {E A : Type 0} (shows : E → A → Type 0) (o : Option E) {r : Reply (Option A)} → MaybeOf shows o (λ t. ReadAs rs r t qs us) → (t : Option A) × ShowMaybe shows o t × ReadAs rs r t qs us
  maybe_read shows None h = (None, tt, h)
  maybe_read shows (Some e) h = (Some h.0, h.1, h.2)

-- a statement of which a fact holds is one of which a weaker fact holds
pub stmt_maps : {S : Type 0} (shows : S → Stmt → Type 0) → Maps (StmtOf shows)
stmt_maps shows e k n f h = (h.0, h.1, h.2, f h.0 h.3)
