-- Statements.
use Rattle.std.proofs.Common.{◌≡◌, ◌∙◌, ℕ, Bool, true, false, not, cond, Option, Some, None, List, [], ◌∷◌, ◌++◌, map, append_assoc, refl, sym, ap}
use Rattle.script_grammar.specs.declared.node.NodeBind.{NodeBind}
use Rattle.script_grammar.specs.declared.node.NodeInit.{NodeInit}
use Rattle.script_grammar.specs.declared.node.NodeInit.TheVariants as inits
use Rattle.script_grammar.specs.declared.node.NodeEach.{NodeEach}
use Rattle.script_grammar.specs.declared.node.NodeEach.TheVariants as eaches
use Rattle.script_grammar.specs.declared.node.NodeClause.{NodeClause}
use Rattle.script_grammar.specs.declared.token.Decl.{Decl}
use Rattle.script_grammar.specs.declared.token.Decl.TheVariants as decl
use Rattle.script_grammar.specs.Interpretation.{Interpretation, named}
use Rattle.script_grammar.specs.Tree as model
use Rattle.script_grammar.specs.TreeLists as part
use Rattle.script_grammar.specs.TreeLists.{maybe_expr_of, binds_of, clauses_of, stmts_of, maybe_stmt_of}
use Rattle.script_grammar.specs.Shows.{ShowAll, ShowMaybe, MaybeOf, ShowBind, ShowInit, ShowEach, ShowClause}
use Rattle.parse_track.specs.declared.region.Early.{Early}
use Rattle.parse_track.specs.EarlyErrors.{error_of, smaller, sooner}
use Rattle.parse_track.specs.Notes.{const_errors, ends_in_property, error_if, first_note, notes_binds, notes_clauses, notes_each, notes_init, notes_maybe, notes_maybe_stmt, notes_stmt, notes_stmts, strict_errors}
use Rattle.parse_early_handler.specs.declared.shape.Shape.TheVariants as shape
use Rattle.parse_early_handler.specs.declared.directive.Directive.{Directive}
use Rattle.parse_early_handler.specs.declared.nodes.ExprErrors.{ExprErrors}
use Rattle.parse_early_handler.specs.declared.nodes.StmtErrors.{StmtErrors}
use Rattle.parse_early_handler.specs.Directives.{directive_of, ends, strict_at, string_directive}
use Rattle.parse_early_handler.specs.Firsts.{bare_error, bind_first, binds_first, clause_first, const_first, each_first, expr_first, first_of, init_first, is_some_or, maybe_first, stmt_first, strict_first}
use Rattle.parse_early_handler.specs.HasErrors.{HasEmptyBodies, HasErrorsExpr, HasErrorsStmt}
use Rattle.parse_early_handler.specs.Known.{KnowsWords, known_atoms}
use Rattle.parse_early_handler.specs.Shapes.{shape_of}
use Rattle.parse_early_handler.proofs.Expressions.{expr-first, inside, maybe_expr-first}
use Rattle.parse_early_handler.proofs.Parting.{IsFirst, none-first, then-first, same-first, first-as, all-first, maybe-first}
use Rattle.parse_early_handler.proofs.Sooner.{error_of-smaller}
use Rattle.parse_early_handler.proofs.Targets.{directive_chain, directive_in_parentheses, target-first}

-- `use strict` of a statement and of those after it
abbrev strict_next : Directive → Option ℕ → Option ℕ
strict_next d rest = cond (ends d) None (smaller (strict_at d) rest)

no_directive : (d : Directive) (rest : Option ℕ) → ends d ≡ true → IsFirst (error_of 14 (strict_next d rest)) []
no_directive d rest h = record { is = ap (λ (b : Bool). error_of 14 (cond b None (smaller (strict_at d) rest))) h }

str-next : (strict : Bool) (at : ℕ) (rest : Option ℕ) (errors : List Early) → IsFirst (error_of 14 rest) errors
    → IsFirst (error_of 14 (strict_next (string_directive (shape.Str strict) at) rest)) (error_if strict 14 at ++ errors)
str-next true at rest errors h = record { is = error_of-smaller 14 (Some at) rest ∙ ap (sooner (error_of 14 (Some at))) h.is }
str-next false at rest errors h = h

directive-next : (s : model.Stmt) (rest : Option ℕ) (more : model.Stmts) → IsFirst (error_of 14 rest) (strict_errors more)
    → IsFirst (error_of 14 (strict_next (directive_of s) rest)) (strict_errors (model.more_stmts s more))
directive-next (model.Value (model.Str at end text) semi) rest more h = str-next _ at rest (strict_errors more) h
directive-next (model.Value (model.Paren at value) semi) rest more h = no_directive (string_directive _ at) rest (ap ends (directive_in_parentheses (shape_of value) at))
directive-next (model.Value (model.Chain head tails) semi) rest more h = no_directive (string_directive _ _) rest (ap ends (directive_chain (ends_in_property tails) _))
directive-next (model.Value _ semi) rest more h = none-first
directive-next _ rest more h = none-first

module _ {E : Type 0} (i : Interpretation) (R : E → model.Expr → Type 0) where
  -- names of a declaration
  bind_as : (n : NodeBind E) (b : part.Bind) → ShowBind i R n b
      → (v : Option model.Expr) × ((b ≡ record { name = named i n.name; value = v }) × ShowMaybe R n.value v)
  bind_as n b h = inside R (λ v. record { name = named i n.name; value = v }) n.value b h

  abbrev bare_next : model.Binds → part.Bind → List Early
  bare_next rest b = const_errors decl.Const (model.more_binds b.name (maybe_expr_of b.value) rest)

  bare-next : (at : ℕ) (name : model.Named) (o : Option E) (v : Option model.Expr) (rest : Option Early) (more : model.Binds) → at ≡ name.at → ShowMaybe R o v
      → IsFirst rest (const_errors decl.Const more) → IsFirst (sooner (first_note (error_if (not (is_some_or o false)) 7 at)) rest) (const_errors decl.Const (model.more_binds name (maybe_expr_of v) more))
  bare-next at name None None rest more a s h = then-first {xs = error_if true 7 name.at} {ys = const_errors decl.Const more} (record { is = ap (λ (n : ℕ). first_note (error_if true 7 n)) a }) h
  bare-next at name None (Some t) rest more a s h = absurd s
  bare-next at name (Some o) None rest more a s h = absurd s
  bare-next at name (Some o) (Some t) rest more a s h = h

  bare-first : (ns : List (NodeBind E)) (bs : List part.Bind) → ShowAll (ShowBind i R) ns bs → IsFirst (first_of (map bare_error ns)) (const_errors decl.Const (binds_of bs))
  bare-first [] [] h = none-first
  bare-first [] (b ∷ bs) h = absurd h
  bare-first (n ∷ ns) [] h = absurd h
  bare-first (n ∷ ns) (b ∷ bs) h =
      let v = bind_as n b h.0 in
      first-as (bare_next (binds_of bs)) v.1.0 (bare-next n.name.at (named i n.name) n.value v.0 (first_of (map bare_error ns)) (binds_of bs) refl v.1.1 (bare-first ns bs h.1))

  pub const-first : (d : Decl) (ns : List (NodeBind E)) (bs : List part.Bind) → ShowAll (ShowBind i R) ns bs → IsFirst (const_first d ns) (const_errors d (binds_of bs))
  const-first decl.Var ns bs h = none-first
  const-first decl.Let ns bs h = none-first
  const-first decl.Const ns bs h = bare-first ns bs h

module _ (i : Interpretation) (e : HasEmptyBodies i) (k : KnowsWords i known_atoms) where
  pub stmt-first : (n : StmtErrors) (s : model.Stmt) → HasErrorsStmt i n s → IsFirst n.first (notes_stmt s)
  stmt-first n s h = record { is = (h.holds e k).first }

  pub stmts-first : (ns : List StmtErrors) (ss : List model.Stmt) → ShowAll (HasErrorsStmt i) ns ss → IsFirst (first_of (map stmt_first ns)) (notes_stmts (stmts_of ss))
  stmts-first = all-first (HasErrorsStmt i) stmt_first notes_stmt (λ ss. notes_stmts (stmts_of ss)) none-first (λ x xs g h. h) stmt-first

  pub maybe_stmt-first : (n : Option StmtErrors) (s : Option model.Stmt) → ShowMaybe (HasErrorsStmt i) n s → IsFirst (maybe_first stmt_first n) (notes_maybe_stmt (maybe_stmt_of s))
  maybe_stmt-first = maybe-first (HasErrorsStmt i) stmt_first notes_stmt (λ s. notes_maybe_stmt (maybe_stmt_of s)) none-first (λ x g h. h) stmt-first

  -- the directives at the head of a body
  pub strict-first : (ns : List StmtErrors) (ss : List model.Stmt) → ShowAll (HasErrorsStmt i) ns ss → IsFirst (error_of 14 (strict_first ns)) (strict_errors (stmts_of ss))
  strict-first [] [] h = none-first
  strict-first [] (s ∷ ss) h = absurd h
  strict-first (n ∷ ns) [] h = absurd h
  strict-first (n ∷ ns) (s ∷ ss) h =
      same-first (ap (λ (d : Directive). error_of 14 (strict_next d (strict_first ns))) (h.0.holds e k).directive)
      (directive-next s (strict_first ns) (stmts_of ss) (strict-first ns ss h.1))

  bind-first : (n : NodeBind ExprErrors) (b : part.Bind) → ShowBind i (HasErrorsExpr i) n b → IsFirst (bind_first n) (notes_maybe (maybe_expr_of b.value))
  bind-first n b h =
      let v = bind_as i (HasErrorsExpr i) n b h in
      first-as (λ (x : part.Bind). notes_maybe (maybe_expr_of x.value)) v.1.0 (maybe_expr-first i e k n.value v.0 v.1.1)

  values-first : (ns : List (NodeBind ExprErrors)) (bs : List part.Bind) → ShowAll (ShowBind i (HasErrorsExpr i)) ns bs → IsFirst (first_of (map bind_first ns)) (notes_binds (binds_of bs))
  values-first = all-first (ShowBind i (HasErrorsExpr i)) bind_first (λ b. notes_maybe (maybe_expr_of b.value)) (λ bs. notes_binds (binds_of bs)) none-first (λ x xs g h. h) bind-first

  pub binds-first : (d : Decl) (ns : List (NodeBind ExprErrors)) (bs : List part.Bind) → ShowAll (ShowBind i (HasErrorsExpr i)) ns bs
      → IsFirst (binds_first d ns) (const_errors d (binds_of bs) ++ notes_binds (binds_of bs))
  binds-first d ns bs h = then-first (const-first i (HasErrorsExpr i) d ns bs h) (values-first ns bs h)

  pub init-first : (n : NodeInit ExprErrors) (t : model.Init) → ShowInit i (HasErrorsExpr i) n t → IsFirst (init_first n) (notes_init t)
  init-first (inits.Nothing) t h = first-as notes_init h none-first
  init-first (inits.Value x) t h = first-as notes_init h.2 (expr-first i e k x h.0 h.1)
  init-first (inits.Binds d ns) t h = first-as notes_init h.2 (binds-first d ns.items h.0 h.1)

  pub each-first : (n : NodeEach ExprErrors) (t : model.Each) → ShowEach i (HasErrorsExpr i) n t → IsFirst (each_first n) (notes_each t)
  each-first (eaches.Target x) t h = first-as notes_each h.2 (target-first x h.0 (h.1.holds e k))
  each-first (eaches.Bind d name) t h = first-as notes_each h none-first

  abbrev clause_notes : part.Clause → List Early
  clause_notes c = notes_maybe (maybe_expr_of c.test) ++ notes_stmts (stmts_of c.items)

  clause-inside : (c : part.Clause) (ns : List StmtErrors) (o : Option ExprErrors)
      → MaybeOf (HasErrorsExpr i) o (λ t. (ss : List model.Stmt) × ShowAll (HasErrorsStmt i) ns ss × (c ≡ record { test = t; items = ss }))
      → IsFirst (sooner (maybe_first expr_first o) (first_of (map stmt_first ns))) (clause_notes c)
  clause-inside c ns None h = first-as clause_notes h.2 (stmts-first ns h.0 h.1)
  clause-inside c ns (Some x) h = first-as clause_notes h.2.2 (then-first (expr-first i e k x h.0 h.1) (stmts-first ns h.2.0 h.2.1))

  clause-first : (n : NodeClause ExprErrors StmtErrors) (c : part.Clause) → ShowClause (HasErrorsExpr i) (HasErrorsStmt i) n c → IsFirst (clause_first n) (clause_notes c)
  clause-first n c h = clause-inside c n.items.items n.test h

  clause-more : (c : part.Clause) (cs : List part.Clause) (g : Option Early) → IsFirst g (clause_notes c ++ notes_clauses (clauses_of cs)) → IsFirst g (notes_clauses (clauses_of (c ∷ cs)))
  clause-more c cs g h = first-as (λ (xs : List Early). xs) (sym (append_assoc (notes_maybe (maybe_expr_of c.test)) (notes_stmts (stmts_of c.items)) (notes_clauses (clauses_of cs)))) h

  pub clauses-first : (ns : List (NodeClause ExprErrors StmtErrors)) (cs : List part.Clause) → ShowAll (ShowClause (HasErrorsExpr i) (HasErrorsStmt i)) ns cs
      → IsFirst (first_of (map clause_first ns)) (notes_clauses (clauses_of cs))
  clauses-first = all-first (ShowClause (HasErrorsExpr i) (HasErrorsStmt i)) clause_first clause_notes (λ cs. notes_clauses (clauses_of cs)) none-first clause-more clause-first
