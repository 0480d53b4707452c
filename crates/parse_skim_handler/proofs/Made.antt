-- The nodes that methods make stand for what the law says.
use Rattle.std.proofs.Common.{Bool, List, None, Option, Some, false, refl, subst, sym, true, ℕ, ◌≡◌}
use Rattle.std.proofs.lemmas.List.{append_assoc}
use Rattle.script_grammar.specs.Braced.{in_expr, in_prop, in_stmt}
use Rattle.script_grammar.specs.Interpretation.{Interpretation, maybe_named}
use Rattle.script_grammar.specs.Tree as model
use Rattle.script_grammar.specs.Tree.{Expr, Prop, Stmt}
use Rattle.script_grammar.specs.declared.tree.Ident.{Ident}
use Rattle.parse_track.specs.Notes.{notes_expr, notes_function, proto_of, start_of, target_error}
use Rattle.parse_track.specs.Tells as tell
use Rattle.parse_track.specs.Tells.{labels_on, tells_expr}
use Rattle.parse_track.specs.declared.region.Early.{Early}
use Rattle.parse_handlers.specs.Inner as inner
use Rattle.parse_early_handler.specs.Directives.{directive_of}
use Rattle.parse_early_handler.specs.HasErrors.{HasEmptyBodies, HasErrorsExpr, HasErrorsProp, HasErrorsStmt}
use Rattle.parse_early_handler.specs.Known.{KnowsWords, known_atoms}
use Rattle.parse_early_handler.specs.Shapes.{shape_of}
use Rattle.parse_early_handler.specs.declared.directive.Directive.TheVariants as kind
use Rattle.parse_early_handler.specs.declared.nodes.ExprErrors.{ExprErrors}
use Rattle.parse_early_handler.specs.declared.shape.Shape.{Shape}
use Rattle.parse_track_pieces.specs.Says.{Says}
use Rattle.parse_track_pieces.proofs.Saying.{name-says, then-says}
use Rattle.parse_skim_handler.specs.Kept.{Means, kept_means, whole_as, whole_expr_means, whole_prop_means}
use Rattle.parse_skim_handler.specs.Meaning.{Meaning}
use Rattle.parse_skim_handler.specs.Means.{Owed, Stands, expr_owed, prop_owed, stmt_owed, then_owed}
use Rattle.parse_skim_handler.specs.Packed.{whole_expr, whole_prop, whole_stmt}
use Rattle.parse_skim_handler.specs.Skims.{SkimsExpr, SkimsProp, SkimsStmt}
use Rattle.parse_skim_handler.specs.Telling.{told_puts, told_says}
use Rattle.parse_skim_handler.specs.declared.kept.Kept.{Kept}
use Rattle.parse_skim_handler.specs.declared.nodes.SkimExpr.{SkimExpr}
use Rattle.parse_skim_handler.specs.declared.nodes.SkimProp.{SkimProp}
use Rattle.parse_skim_handler.specs.declared.nodes.SkimStmt.{SkimStmt}
use Rattle.parse_skim_handler.specs.declared.nodes.WholeExpr.{WholeExpr}
use Rattle.parse_skim_handler.specs.declared.nodes.WholeProp.{WholeProp}
use Rattle.parse_skim_handler.specs.declared.packed.Whole.{Whole}
use Rattle.parse_skim_handler.specs.declared.told.Told.TheVariants as told
use Rattle.parse_skim_handler.proofs.Standing.{kept-stands, stands-as}
use Rattle.parse_skim_handler.proofs.StandingFunctions.{function_owed}
use Rattle.parse_skim_handler.proofs.StandingParts.{target_owed}

module _ (i : Interpretation) where
  -- what is kept of an expression stands for a tree
  abbrev IsOfExpr : WholeExpr → Expr → Type 0
  IsOfExpr w t = Stands i (whole_expr_means i w) (expr_owed t) × HasErrorsExpr i w.errors t

  expr-packed : (n : SkimExpr) (w : WholeExpr) (t : Expr) → whole_expr n ≡ w → IsOfExpr w t → SkimsExpr i n t
  expr-packed n w t is h =
      let own : IsOfExpr (whole_expr n) t = subst (λ (x : WholeExpr). IsOfExpr x t) (sym is) h in
      record { stands = own.0; errors = own.1 }

  pub unpacked-expr : (w : WholeExpr) (n : SkimExpr) (t : Expr) → w ≡ whole_expr n → SkimsExpr i n t → IsOfExpr w t
  unpacked-expr w n t is h = subst (λ (x : WholeExpr). IsOfExpr x t) (sym is) (h.stands, h.errors)

  -- an expression of which this is kept
  pub expr-made : {k : Kept} {m : Meaning} (n : SkimExpr) (t : Expr) (start : ℕ) (form : Shape)
      → whole_expr n ≡ record { told = k.told; errors = record { first = k.first; start = start; shape = form } } → Means i k m → Stands i m (expr_owed t)
      → (HasEmptyBodies i → KnowsWords i known_atoms → (start ≡ start_of t) × (form ≡ shape_of t)) → SkimsExpr i n t
  expr-made {k = k} n t start form is h s a =
      let stands = kept-stands i h s in
      expr-packed n _ t is (stands, record { holds = λ e w. record { first = stands.first e w; start = (a e w).0; shape = (a e w).1 } })

  -- an expression whose early errors are known
  pub expr-noted : (n : SkimExpr) (w : WholeExpr) → whole_expr n ≡ w → (t : Expr) → Says (told_says i w.told) (tells_expr t) (in_expr true t) → ((r : inner.Inner) → told_puts i w.told r ≡ inner.in_expr t r)
      → HasErrorsExpr i w.errors t → SkimsExpr i n t
  expr-noted n w is t s p h = expr-packed n w t is (record { says = s; puts = p; first = λ e k. (h.holds e k).first }, h)

  -- an expression in which nothing is told
  pub quiet-made : (n : SkimExpr) (t : Expr) (errors : ExprErrors) → whole_expr n ≡ record { told = told.Nothing; errors = errors } → Says (λ r. r) (tells_expr t) (in_expr true t)
      → ((r : inner.Inner) → r ≡ inner.in_expr t r) → HasErrorsExpr i errors t → SkimsExpr i n t
  quiet-made n t errors is s p h = expr-noted n (record { told = told.Nothing; errors = errors }) is t s p h

  -- what is kept of a property stands for a tree
  abbrev IsOfProp : WholeProp → Prop → Type 0
  IsOfProp w p = Stands i (whole_prop_means i w) (prop_owed p) × HasErrorsProp i w.errors p

  prop-packed : (n : SkimProp) (w : WholeProp) (p : Prop) → whole_prop n ≡ w → IsOfProp w p → SkimsProp i n p
  prop-packed n w p is h =
      let own : IsOfProp (whole_prop n) p = subst (λ (x : WholeProp). IsOfProp x p) (sym is) h in
      record { stands = own.0; errors = own.1 }

  -- a property of which this is kept
  pub prop-made : {k : Kept} {m : Meaning} (n : SkimProp) (p : Prop) (proto : Option ℕ)
      → whole_prop n ≡ record { told = k.told; errors = record { first = k.first; proto = proto } } → Means i k m → Stands i m (prop_owed p)
      → (HasEmptyBodies i → KnowsWords i known_atoms → proto ≡ proto_of p) → SkimsProp i n p
  prop-made {k = k} n p proto is h s a =
      let stands = kept-stands i h s in
      prop-packed n _ p is (stands, record { holds = λ e w. record { first = stands.first e w; proto = a e w } })

  -- what is kept of a statement stands for a tree
  abbrev IsOfStmt : Whole → Stmt → Type 0
  IsOfStmt w s = ((top : Bool) → Stands i (whole_as i (tell.function_declares top) w) (stmt_owed top s)) × (w.labels_on ≡ labels_on s) × HasErrorsStmt i w.errors s

  stmt-packed : (n : SkimStmt) (w : Whole) (s : Stmt) → whole_stmt n ≡ w → IsOfStmt w s → SkimsStmt i n s
  stmt-packed n w s is h =
      let own : IsOfStmt (whole_stmt n) s = subst (λ (x : Whole). IsOfStmt x s) (sym is) h in
      record { stands = own.0; labels = own.1; errors = own.2 }

  -- a statement that is no directive and declares no function
  pub stmt-made : {k : Kept} {m : Meaning} (n : SkimStmt) (s : Stmt) (on : Bool)
      → whole_stmt n ≡ record { declares = None; labels_on = on; told = k.told; errors = record { first = k.first; directive = kind.No } } → on ≡ labels_on s → kind.No ≡ directive_of s
      → Means i k m → ((top : Bool) → Stands i m (stmt_owed top s)) → SkimsStmt i n s
  stmt-made {k = k} n s on is l d h a =
      stmt-packed n _ s is (λ top. kept-stands i h (a top), l, record { holds = λ e w. record { first = (kept-stands i h (a true)).first e w; directive = d } })

  -- a function declaration
  abbrev declared_owed : (top : Bool) → model.Function → Option model.Named → Owed
  declared_owed top f name = record { tells = λ t. tell.declares_function top name (tell.tells_function f t); braced = (function_owed true f).braced; inner = (function_owed true f).inner; errors = notes_function f }

  declared_of : (k : Kept) (top : Bool) (name : Option Ident) (on : Bool) (f : model.Function) → Stands i (kept_means i k) (function_owed true f)
      → Stands i (whole_as i (tell.function_declares top) (record { declares = name; labels_on = on; told = k.told; errors = record { first = k.first; directive = kind.No } })) (declared_owed top f (maybe_named i name))
  declared_of k top None on f s = s
  declared_of k top (Some name) on f s = record { says = then-says (name-says i (tell.function_declares top) name) s.says; puts = s.puts; first = s.first }

  pub declared-made : {k : Kept} {m : Meaning} (n : SkimStmt) (name : Option Ident) (f : model.Function)
      → whole_stmt n ≡ record { declares = name; labels_on = false; told = k.told; errors = record { first = k.first; directive = kind.No } } → tell.function_name f ≡ maybe_named i name
      → Means i k m → Stands i m (function_owed true f) → SkimsStmt i n (model.Declared f)
  declared-made {k = k} n name f is e h s =
      let stands = kept-stands i h s in
      stmt-packed n _ (model.Declared f) is
      (λ top. stands-as i (declared_owed top f) e (declared_of k top name false f stands), refl, record { holds = λ e w. record { first = stands.first e w; directive = refl } })

  -- a property whose early errors are known
  pub prop-noted : (n : SkimProp) (w : WholeProp) → whole_prop n ≡ w → (p : Prop) → Says (told_says i w.told) (tell.tells_prop p) (in_prop true p) → ((r : inner.Inner) → told_puts i w.told r ≡ inner.in_prop p r)
      → HasErrorsProp i w.errors p → SkimsProp i n p
  prop-noted n w is p s q h = prop-packed n w p is (record { says = s; puts = q; first = λ e k. (h.holds e k).first }, h)

  -- a statement whose early errors are known, and that declares no function
  pub stmt-noted : (n : SkimStmt) (w : Whole) → whole_stmt n ≡ w → (s : Stmt) → ((top : Bool) → Says (whole_as i (tell.function_declares top) w).says (tell.tells_stmt top s) (in_stmt true s))
      → ((r : inner.Inner) → told_puts i w.told r ≡ inner.in_stmt s r) → w.labels_on ≡ labels_on s → HasErrorsStmt i w.errors s → SkimsStmt i n s
  stmt-noted n w is s q p l h = stmt-packed n w s is (λ top. record { says = q top; puts = p; first = λ e k. (h.holds e k).first }, l, h)

  -- an assignment
  pub assign-stands : {m : Meaning} (op : ℕ) (t v : Expr) → Stands i m (then_owed (target_owed t) (expr_owed v)) → Stands i m (expr_owed (model.Assign op t v))
  assign-stands op t v s =
      let made : List Early → Owed = λ errors. record {
        tells = λ x. tells_expr t (tells_expr v x);
        braced = λ r. in_expr true t (in_expr true v r);
        inner = λ r. inner.in_expr t (inner.in_expr v r);
        errors = errors;
      } in
      stands-as i made (sym (append_assoc (target_error t) (notes_expr t) (notes_expr v))) s
