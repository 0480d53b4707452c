-- What parts over nodes mean stands for the parts of the model that they stand for.
use Rattle.std.proofs.Common.{Bool, List, None, Option, Some, [], ap, false, map, refl, sym, true, ◌++◌, ◌∷◌, ◌≡◌}
use Rattle.std.proofs.lemmas.List.{append_assoc}
use Rattle.script_grammar.specs.Braced as braced
use Rattle.script_grammar.specs.Interpretation.{Interpretation, maybe_named, named}
use Rattle.script_grammar.specs.Shows.{MaybeOf, ShowAll, ShowArgs, ShowBind, ShowClause, ShowEach, ShowInit, ShowKey, ShowMaybe, ShowOperand, ShowPart, ShowTail}
use Rattle.script_grammar.specs.Tree as model
use Rattle.script_grammar.specs.TreeLists as part
use Rattle.script_grammar.specs.TreeLists.{binds_of, clauses_of, exprs_of, items_of, maybe_args_of, maybe_expr_of, maybe_stmt_of, operands_of, parts_of, props_of, stmts_of, tails_of}
use Rattle.script_grammar.specs.declared.node.NodeArgs.{NodeArgs}
use Rattle.script_grammar.specs.declared.node.NodeBind.{NodeBind}
use Rattle.script_grammar.specs.declared.node.NodeClause.{NodeClause}
use Rattle.script_grammar.specs.declared.node.NodeEach.TheVariants as eaches
use Rattle.script_grammar.specs.declared.node.NodeEach.{NodeEach}
use Rattle.script_grammar.specs.declared.node.NodeInit.TheVariants as inits
use Rattle.script_grammar.specs.declared.node.NodeInit.{NodeInit}
use Rattle.script_grammar.specs.declared.node.NodeKey.TheVariants as keys
use Rattle.script_grammar.specs.declared.node.NodeKey.{NodeKey}
use Rattle.script_grammar.specs.declared.node.NodeOperand.{NodeOperand}
use Rattle.script_grammar.specs.declared.node.NodeTail.TheVariants as tails
use Rattle.script_grammar.specs.declared.node.NodeTail.{NodeTail}
use Rattle.script_grammar.specs.declared.node.NodeTemplatePart.{NodeTemplatePart}
use Rattle.script_grammar.specs.declared.token.Decl.{Decl}
use Rattle.script_grammar.specs.declared.tree.Ident.{Ident}
use Rattle.parse_track.specs.Notes as note
use Rattle.parse_track.specs.Tells as tell
use Rattle.parse_track.specs.Told as told
use Rattle.parse_track.specs.declared.region.Declare.TheVariants as how
use Rattle.parse_track.specs.declared.region.Early.{Early}
use Rattle.parse_handlers.specs.Inner as inner
use Rattle.parse_early_handler.specs.HasErrors.{HasErrorsExpr, HasErrorsProp, HasErrorsStmt}
use Rattle.parse_early_handler.proofs.Expressions.{inside, items_args}
use Rattle.parse_early_handler.proofs.Statements.{const-first}
use Rattle.parse_early_handler.proofs.Targets.{target-first}
use Rattle.parse_skim_handler.specs.Kept.{args_mean, bind_means, binds_mean, block_means, clause_means, each_means, expr_means, handling_means, init_means, key_means, labelled_as, operand_means, part_means, prop_means, stmt_means, tail_means, target_means}
use Rattle.parse_skim_handler.specs.Packed.{expr_errors, prop_errors, stmt_errors, whole_stmt}
use Rattle.parse_skim_handler.specs.Meaning.{all_meant, maybe_meant, region_meant, then_meant}
use Rattle.parse_skim_handler.specs.Means.{Owed, Stands, error_owed, expr_owed, name_owed, prop_owed, region_owed, stmt_owed, stmts_owed, then_owed}
use Rattle.parse_skim_handler.specs.Skims.{SkimsExpr, SkimsProp, SkimsStmt}
use Rattle.parse_skim_handler.specs.declared.nodes.SkimExpr.{SkimExpr}
use Rattle.parse_skim_handler.specs.declared.nodes.SkimProp.{SkimProp}
use Rattle.parse_skim_handler.specs.declared.nodes.SkimStmt.{SkimStmt}
use Rattle.parse_skim_handler.proofs.Standing.{all-stand, error-stands, maybe-stands, name-stands, nothing-stands, region-stands, stands-as, then-stands}

-- Nodes stand for what their images stand for.
pub all-mapped : {N M X : Type 0} (f : N → M) (R : N → X → Type 0) (Q : M → X → Type 0) → ((n : N) (x : X) → R n x → Q (f n) x) → (ns : List N) (xs : List X) → ShowAll R ns xs → ShowAll Q (map f ns) xs
all-mapped f R Q each [] [] h = tt
all-mapped f R Q each [] (x ∷ xs) h = absurd h
all-mapped f R Q each (n ∷ ns) [] h = absurd h
all-mapped f R Q each (n ∷ ns) (x ∷ xs) h = (each n x h.0, all-mapped f R Q each ns xs h.1)

abbrev pub exprs_owed : model.Exprs → Owed
exprs_owed ts = record { tells = tell.tells_exprs ts; braced = braced.in_exprs true ts; inner = inner.in_exprs ts; errors = note.notes_exprs ts }

abbrev pub maybe_owed : model.MaybeExpr → Owed
maybe_owed t = record { tells = tell.tells_maybe t; braced = braced.in_maybe_expr true t; inner = inner.in_maybe_expr t; errors = note.notes_maybe t }

abbrev pub maybe_stmt_owed : model.MaybeStmt → Owed
maybe_stmt_owed s = record { tells = tell.tells_maybe_stmt s; braced = braced.in_maybe_stmt true s; inner = inner.in_maybe_stmt s; errors = note.notes_maybe_stmt s }

abbrev pub items_owed : model.Items → Owed
items_owed ts = record { tells = tell.tells_array ts; braced = braced.in_items true ts; inner = inner.in_items ts; errors = note.notes_items ts }

abbrev pub props_owed : model.Props → Owed
props_owed ts = record { tells = tell.tells_props ts; braced = braced.in_props true ts; inner = inner.in_props ts; errors = note.notes_props ts }

abbrev pub operands_owed : model.Operands → Owed
operands_owed ts = record { tells = tell.tells_operands ts; braced = braced.in_operands true ts; inner = inner.in_operands ts; errors = note.notes_operands ts }

abbrev pub parts_owed : model.Parts → Owed
parts_owed ts = record { tells = tell.tells_parts ts; braced = braced.in_parts true ts; inner = inner.in_parts ts; errors = note.notes_parts ts }

abbrev pub args_owed : model.Exprs → Owed
args_owed ts = then_owed (error_owed (note.args_error note.limit ts)) (exprs_owed ts)

abbrev pub maybe_args_owed : model.MaybeArgs → Owed
maybe_args_owed a = record { tells = tell.tells_args a; braced = braced.in_maybe_args true a; inner = inner.in_maybe_args a; errors = note.notes_args a }

abbrev pub tail_owed : model.Tail → Owed
tail_owed t = record { tells = tell.tells_tail t; braced = braced.in_tail true t; inner = inner.in_tail t; errors = note.notes_tail t }

abbrev pub tails_owed : model.Tails → Owed
tails_owed ts = record { tells = tell.tells_tails ts; braced = braced.in_tails true ts; inner = inner.in_tails ts; errors = note.notes_tails ts }

abbrev pub key_owed : model.Key → Owed
key_owed t = record { tells = tell.tells_key t; braced = braced.in_key true t; inner = inner.in_key t; errors = note.notes_key t }

abbrev pub binds_owed : Decl → model.Binds → Owed
binds_owed d bs = record { tells = tell.tells_binds d bs; braced = braced.in_binds true bs; inner = inner.in_binds bs; errors = note.notes_binds bs }

abbrev pub init_owed : model.Init → Owed
init_owed t = record { tells = tell.tells_init t; braced = braced.in_init true t; inner = inner.in_init t; errors = note.notes_init t }

abbrev pub each_owed : model.Each → Owed
each_owed t = record { tells = tell.tells_each t; braced = braced.in_each true t; inner = inner.in_each t; errors = note.notes_each t }

abbrev pub clauses_owed : model.Clauses → Owed
clauses_owed cs = record { tells = tell.tells_clauses cs; braced = braced.in_clauses true cs; inner = inner.in_clauses cs; errors = note.notes_clauses cs }

-- an expression that is assigned to
abbrev pub target_owed : model.Expr → Owed
target_owed t = record { tells = tell.tells_expr t; braced = braced.in_expr true t; inner = inner.in_expr t; errors = note.target_error t ++ note.notes_expr t }

module _ (i : Interpretation) where
  pub exprs-stand : (ns : List SkimExpr) (ts : List model.Expr) → ShowAll (SkimsExpr i) ns ts → Stands i (all_meant (expr_means i) ns) (exprs_owed (exprs_of ts))
  exprs-stand = all-stand i (SkimsExpr i) (expr_means i) expr_owed (λ ts. exprs_owed (exprs_of ts)) refl (λ x xs. refl) (λ n t h. h.stands)

  pub maybe_expr-stands : (n : Option SkimExpr) (t : Option model.Expr) → ShowMaybe (SkimsExpr i) n t → Stands i (maybe_meant (expr_means i) n) (maybe_owed (maybe_expr_of t))
  maybe_expr-stands = maybe-stands i (SkimsExpr i) (expr_means i) expr_owed (λ t. maybe_owed (maybe_expr_of t)) refl (λ x. refl) (λ n t h. h.stands)

  pub maybe_stmt-stands : (n : Option SkimStmt) (t : Option model.Stmt) → ShowMaybe (SkimsStmt i) n t → Stands i (maybe_meant (stmt_means i false) n) (maybe_stmt_owed (maybe_stmt_of t))
  maybe_stmt-stands = maybe-stands i (SkimsStmt i) (stmt_means i false) (stmt_owed false) (λ t. maybe_stmt_owed (maybe_stmt_of t)) refl (λ x. refl) (λ n t h. h.stands false)

  pub items-stand : (ns : List (Option SkimExpr)) (ts : List (Option model.Expr)) → ShowAll (ShowMaybe (SkimsExpr i)) ns ts → Stands i (all_meant (maybe_meant (expr_means i)) ns) (items_owed (items_of ts))
  items-stand = all-stand i (ShowMaybe (SkimsExpr i)) (maybe_meant (expr_means i)) (λ t. maybe_owed (maybe_expr_of t)) (λ ts. items_owed (items_of ts)) refl (λ x xs. refl) maybe_expr-stands

  pub props-stand : (ns : List SkimProp) (ts : List model.Prop) → ShowAll (SkimsProp i) ns ts → Stands i (all_meant (prop_means i) ns) (props_owed (props_of ts))
  props-stand = all-stand i (SkimsProp i) (prop_means i) prop_owed (λ ts. props_owed (props_of ts)) refl (λ x xs. refl) (λ n t h. h.stands)

  pub stmts-stand : (top : Bool) (ns : List SkimStmt) (ts : List model.Stmt) → ShowAll (SkimsStmt i) ns ts → Stands i (all_meant (stmt_means i top) ns) (stmts_owed top (stmts_of ts))
  stmts-stand top = all-stand i (SkimsStmt i) (stmt_means i top) (stmt_owed top) (λ ts. stmts_owed top (stmts_of ts)) refl (λ x xs. refl) (λ n t h. h.stands top)

  pub operands-stand : (ns : List (NodeOperand SkimExpr)) (os : List part.Operand) → ShowAll (ShowOperand (SkimsExpr i)) ns os → Stands i (all_meant (operand_means i) ns) (operands_owed (operands_of os))
  operands-stand = all-stand i (ShowOperand (SkimsExpr i)) (operand_means i) (λ o. expr_owed o.value) (λ os. operands_owed (operands_of os)) refl (λ x xs. refl)
      (λ n o h. stands-as i (λ (x : part.Operand). expr_owed x.value) h.2 h.1.stands)

  pub parts-stand : (ns : List (NodeTemplatePart SkimExpr)) (ps : List part.Part) → ShowAll (ShowPart i (SkimsExpr i)) ns ps → Stands i (all_meant (part_means i) ns) (parts_owed (parts_of ps))
  parts-stand = all-stand i (ShowPart i (SkimsExpr i)) (part_means i) (λ p. expr_owed p.value) (λ ps. parts_owed (parts_of ps)) refl (λ x xs. refl)
      (λ n p h. stands-as i (λ (x : part.Part). expr_owed x.value) h.2 h.1.stands)

  -- the early errors that nodes have
  pub errors-shown : (ns : List SkimExpr) (ts : List model.Expr) → ShowAll (SkimsExpr i) ns ts → ShowAll (HasErrorsExpr i) (map expr_errors ns) ts
  errors-shown = all-mapped expr_errors (SkimsExpr i) (HasErrorsExpr i) (λ n t h. h.errors)

  pub prop_errors-shown : (ns : List SkimProp) (ts : List model.Prop) → ShowAll (SkimsProp i) ns ts → ShowAll (HasErrorsProp i) (map prop_errors ns) ts
  prop_errors-shown = all-mapped prop_errors (SkimsProp i) (HasErrorsProp i) (λ n t h. h.errors)

  pub stmt_errors-shown : (ns : List SkimStmt) (ts : List model.Stmt) → ShowAll (SkimsStmt i) ns ts → ShowAll (HasErrorsStmt i) (map stmt_errors ns) ts
  stmt_errors-shown = all-mapped stmt_errors (SkimsStmt i) (HasErrorsStmt i) (λ n t h. h.errors)

  items_args-stand : (n : NodeArgs SkimExpr) (ts : List model.Expr) → ShowAll (SkimsExpr i) n.items.items ts → Stands i (args_mean i n) (args_owed (exprs_of ts))
  items_args-stand n ts h =
      then-stands i (error-stands i _ (note.args_error note.limit (exprs_of ts)) (λ e k. items_args i e k (map expr_errors n.items.items) ts (errors-shown n.items.items ts h))) (exprs-stand n.items.items ts h)

  args-stand : (n : NodeArgs SkimExpr) (a : part.Args) → ShowArgs (SkimsExpr i) n a → Stands i (args_mean i n) (args_owed (exprs_of a.items))
  args-stand n a h = stands-as i (λ (x : part.Args). args_owed (exprs_of x.items)) h.2 (items_args-stand n h.0 h.1)

  pub maybe_args-stand : (n : Option (NodeArgs SkimExpr)) (a : Option part.Args) → ShowMaybe (ShowArgs (SkimsExpr i)) n a → Stands i (maybe_meant (args_mean i) n) (maybe_args_owed (maybe_args_of a))
  maybe_args-stand = maybe-stands i (ShowArgs (SkimsExpr i)) (args_mean i) (λ a. args_owed (exprs_of a.items)) (λ a. maybe_args_owed (maybe_args_of a)) refl (λ x. refl) args-stand

  tail-stands : (n : NodeTail SkimExpr) (t : model.Tail) → ShowTail i (SkimsExpr i) n t → Stands i (tail_means i n) (tail_owed t)
  tail-stands (tails.Dot atom) t h = stands-as i tail_owed h (nothing-stands i)
  tail-stands (tails.Index e) t h = stands-as i tail_owed h.2 h.1.stands
  tail-stands (tails.Call n) t h = stands-as i tail_owed h.2 (items_args-stand n h.0 h.1)

  pub tails-stand : (ns : List (NodeTail SkimExpr)) (ts : List model.Tail) → ShowAll (ShowTail i (SkimsExpr i)) ns ts → Stands i (all_meant (tail_means i) ns) (tails_owed (tails_of ts))
  tails-stand = all-stand i (ShowTail i (SkimsExpr i)) (tail_means i) tail_owed (λ ts. tails_owed (tails_of ts)) refl (λ x xs. refl) tail-stands

  pub key-stands : (n : NodeKey SkimExpr) (k : model.Key) → ShowKey i (SkimsExpr i) n k → Stands i (key_means i n) (key_owed k)
  key-stands (keys.Word name) k h = stands-as i key_owed h (nothing-stands i)
  key-stands (keys.Str name) k h = stands-as i key_owed h (nothing-stands i)
  key-stands (keys.Number at value) k h = stands-as i key_owed h (nothing-stands i)
  key-stands (keys.Computed e) k h = stands-as i key_owed h.2 h.1.stands

  module _ (d : Decl) where
    abbrev bind_owed : part.Bind → Owed
    bind_owed b = then_owed (name_owed (tell.declared_as d) b.name) (maybe_owed (maybe_expr_of b.value))

    bind-stands : (n : NodeBind SkimExpr) (b : part.Bind) → ShowBind i (SkimsExpr i) n b → Stands i (bind_means i (tell.declared_as d) n) (bind_owed b)
    bind-stands n b h =
        let v = inside (SkimsExpr i) (λ v. record { name = named i n.name; value = v }) n.value b h in
        stands-as i bind_owed v.1.0 (then-stands i (name-stands i (tell.declared_as d) n.name) (maybe_expr-stands n.value v.0 v.1.1))

    pub binds-stand : (ns : List (NodeBind SkimExpr)) (bs : List part.Bind) → ShowAll (ShowBind i (SkimsExpr i)) ns bs → Stands i (binds_mean i d ns) (then_owed (error_owed (note.const_errors d (binds_of bs))) (binds_owed d (binds_of bs)))
    binds-stand ns bs h =
        then-stands i (error-stands i _ (note.const_errors d (binds_of bs)) (λ e k. const-first i (SkimsExpr i) d ns bs h))
        (all-stand i (ShowBind i (SkimsExpr i)) (bind_means i (tell.declared_as d)) bind_owed (λ bs. binds_owed d (binds_of bs)) refl (λ x xs. refl) bind-stands ns bs h)

  pub init-stands : (n : NodeInit SkimExpr) (t : model.Init) → ShowInit i (SkimsExpr i) n t → Stands i (init_means i n) (init_owed t)
  init-stands (inits.Nothing) t h = stands-as i init_owed h (nothing-stands i)
  init-stands (inits.Value e) t h = stands-as i init_owed h.2 h.1.stands
  init-stands (inits.Binds decl ns) t h = stands-as i init_owed h.2 (binds-stand decl ns.items h.0 h.1)

  pub target-stands : (n : SkimExpr) (t : model.Expr) → SkimsExpr i n t → Stands i (target_means i n) (target_owed t)
  target-stands n t h = record { says = h.stands.says; puts = h.stands.puts; first = λ e k. (target-first (expr_errors n) t (h.errors.holds e k)).is }

  pub each-stands : (n : NodeEach SkimExpr) (t : model.Each) → ShowEach i (SkimsExpr i) n t → Stands i (each_means i n) (each_owed t)
  each-stands (eaches.Target e) t h = stands-as i each_owed h.2 (target-stands e h.0 h.1)
  each-stands (eaches.Bind decl name) t h = stands-as i each_owed h (name-stands i (tell.declared_as decl) name)

  abbrev clause_owed : part.Clause → Owed
  clause_owed c = then_owed (maybe_owed (maybe_expr_of c.test)) (stmts_owed false (stmts_of c.items))

  clause-inside : (c : part.Clause) (ns : List SkimStmt) (o : Option SkimExpr)
      → MaybeOf (SkimsExpr i) o (λ t. (ss : List model.Stmt) × ShowAll (SkimsStmt i) ns ss × (c ≡ record { test = t; items = ss }))
      → Stands i (then_meant (maybe_meant (expr_means i) o) (all_meant (stmt_means i false) ns)) (clause_owed c)
  clause-inside c ns None h = stands-as i clause_owed h.2 (then-stands i (nothing-stands i) (stmts-stand false ns h.0 h.1))
  clause-inside c ns (Some e) h = stands-as i clause_owed h.2.2 (then-stands i h.1.stands (stmts-stand false ns h.2.0 h.2.1))

  clause-more : (c : part.Clause) (cs : List part.Clause) → clauses_owed (clauses_of (c ∷ cs)) ≡ then_owed (clause_owed c) (clauses_owed (clauses_of cs))
  clause-more c cs =
      let made : List Early → Owed = λ errors. record {
        tells = λ t. tell.tells_maybe (maybe_expr_of c.test) (tell.tells_stmts false (stmts_of c.items) (tell.tells_clauses (clauses_of cs) t));
        braced = λ r. braced.in_maybe_expr true (maybe_expr_of c.test) (braced.in_stmts true (stmts_of c.items) (braced.in_clauses true (clauses_of cs) r));
        inner = λ r. inner.in_maybe_expr (maybe_expr_of c.test) (inner.in_stmts (stmts_of c.items) (inner.in_clauses (clauses_of cs) r));
        errors = errors;
      } in
      ap made (sym (append_assoc (note.notes_maybe (maybe_expr_of c.test)) (note.notes_stmts (stmts_of c.items)) (note.notes_clauses (clauses_of cs))))

  pub clauses-stand : (ns : List (NodeClause SkimExpr SkimStmt)) (cs : List part.Clause) → ShowAll (ShowClause (SkimsExpr i) (SkimsStmt i)) ns cs → Stands i (all_meant (clause_means i) ns) (clauses_owed (clauses_of cs))
  clauses-stand = all-stand i (ShowClause (SkimsExpr i) (SkimsStmt i)) (clause_means i) clause_owed (λ cs. clauses_owed (clauses_of cs)) refl clause-more (λ n c h. clause-inside c n.items.items n.test h)

  -- a statement after a label, in the region of the label
  abbrev label_owed : Ident → model.Stmt → Bool → Owed
  label_owed name s on = record {
    tells = λ t. tell.tells_region (told.Label (tell.spelled (named i name))) (tell.labelled_region on (tell.tells_stmt false s told.nothing)) t;
    braced = braced.in_stmt true s;
    inner = inner.in_stmt s;
    errors = note.notes_stmt s;
  }

  label-whole : (name : Ident) (n : SkimStmt) (s : model.Stmt) (on : Bool) → Stands i (stmt_means i false n) (stmt_owed false s)
      → Stands i (region_meant (told.Label (tell.spelled (named i name))) 0 (labelled_as i on n)) (label_owed name s on)
  label-whole name n s true h = region-stands i (told.Label (tell.spelled (named i name))) 0 h
  label-whole name n s false h = region-stands i (told.Label (tell.spelled (named i name))) 0 (region-stands i told.Block 0 h)

  pub label-stands : (name : Ident) (n : SkimStmt) (s : model.Stmt) → SkimsStmt i n s
      → Stands i (region_meant (told.Label (tell.spelled (named i name))) 0 (labelled_as i (whole_stmt n).labels_on n)) (label_owed name s (tell.labels_on s))
  label-stands name n s h = stands-as i (label_owed name s) (sym h.labels) (label-whole name n s (whole_stmt n).labels_on (h.stands false))

  pub block-stands : (ns : List SkimStmt) (ss : List model.Stmt) → ShowAll (SkimsStmt i) ns ss → Stands i (block_means i ns) (region_owed told.Block 0 (stmts_owed false (stmts_of ss)))
  block-stands ns ss h = region-stands i told.Block 0 (stmts-stand false ns ss h)

  -- both forms of a try statement
  pub try-stands : (top : Bool) (param : Option Ident) (ns ms : List SkimStmt) (bs hs : List model.Stmt) → ShowAll (SkimsStmt i) ns bs → ShowAll (SkimsStmt i) ms hs
      → Stands i (then_meant (block_means i ns) (handling_means i param ms)) (stmt_owed top (model.Try (stmts_of bs) (maybe_named i param) (stmts_of hs)))
  try-stands top None ns ms bs hs h q = then-stands i (block-stands ns bs h) (block-stands ms hs q)
  try-stands top (Some name) ns ms bs hs h q =
      then-stands i (block-stands ns bs h) (region-stands i told.Catch 0 (then-stands i (name-stands i how.Catch name) (block-stands ms hs q)))
