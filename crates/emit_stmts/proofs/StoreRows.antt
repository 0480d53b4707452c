-- Rows of what a for-in gives its keys to.
use Rattle.std.proofs.Common.{◌≡◌, ℕ, List, sym, ◌∙◌, ap, subst}
use Rattle.script_grammar.specs.declared.tree.Each.{Each}
use Rattle.script_grammar.specs.declared.tree.Each.TheVariants as in_each
use Rattle.script_grammar.specs.declared.tree.Expr.{Expr}
use Rattle.script_grammar.specs.declared.tree.Ident.{Ident}
use Rattle.script_grammar.specs.declared.token.Decl.{Decl}
use Rattle.script_grammar.specs.Tree.{Stmts}
use Rattle.script_grammar.specs.Tree as model
use Rattle.script_grammar.specs.TreeOf.{expr_of, each_of}
use Rattle.script_grammar.proofs.StmtEquations.{each_of-Target, each_of-Bind}
use Rattle.stencil_data.specs.declared.scopes.Place.{Place}
use Rattle.stencil_data.specs.Resolve.{resolve}
use Rattle.bytecode_buf.specs.declared.opcode.Op.TheVariants as op
use Rattle.bytecode_buf.specs.Command.{counted, named}
use Rattle.bytecode_buf.specs.Pieces.{one}
use Rattle.bytecode_buf.specs.Emits.{Emits}
use Rattle.bytecode_buf.proofs.AppendLemmas.{emits_none, emits_both}
use Rattle.emit_exprs.specs.declared.site.Site.{Site}
use Rattle.emit_exprs.specs.declared.targets.Target.{Target}
use Rattle.emit_exprs.specs.declared.targets.Target.TheVariants as target
use Rattle.emit_exprs.specs.declared.uses.Use.TheVariants.{Reached}
use Rattle.emit_exprs.specs.Exprs.{Scene, writing, target_of}
use Rattle.emit_exprs.specs.Names.{base}
use Rattle.emit_exprs.specs.Sites.{EmitsAt, scene_of, text_in}
use Rattle.emit_exprs.specs.Targets.{IsTarget, target_in}
use Rattle.emit_exprs.specs.TreeCode.{at_site, Written, ExprEmits}
use Rattle.emit_exprs.specs.Whole.{whole, just}
use Rattle.emit_exprs.proofs.Writing.{written_of, written_both, written_as}
use Rattle.emit_stmts.specs.StmtFits.{EachFits}
use Rattle.emit_stmts.specs.Stmts.{swapped, store_name, store_target, store_bound, store_each}
use Rattle.emit_stmts.specs.ValueCode.{TargetEmits, EachEmits}

pub name_stored : {texts : List (List ℕ)} {a b c : List ℕ} (scene : Scene) (text : List ℕ) (place : Place) → place ≡ resolve scene.chain text → Emits texts a b (whole (swapped (base text place))) → Emits texts b c (writing scene text) → Emits texts a c (store_name scene text)
name_stored {texts} {a} {b} scene text place is x y = emits_both (subst (λ (p : Place). Emits texts a b (whole (swapped (base text p)))) is x) y

-- the code for one target is that for the expression's
meant : (s : Site) (e : Expr) (t : Target) → IsTarget e t → (b : ℕ → Stmts) → store_target (scene_of s) (expr_of (at_site s b) e) (target_in s.texts.now t) ≡ store_target (scene_of s) (expr_of (at_site s b) e) (target_of (expr_of (at_site s b) e))
meant s e t is b = ap (store_target (scene_of s) (expr_of (at_site s b) e)) (is.under (at_site s b))

pub target_name : {s : Site} {a b : List ℕ} (e : Expr) (atom : ℕ) → IsTarget e (target.Name atom) → EmitsAt s a b (store_name (scene_of s) (text_in s atom)) → TargetEmits s a b e
target_name {s} e atom is x = record { made = written_as (λ b f. tt) (λ b f. meant s e (target.Name atom) is b) (written_of x) }

pub target_prop : {s : Site} {a b c d : List ℕ} (e : Expr) (atom : ℕ) → IsTarget e (target.Prop atom) → ExprEmits s a b Reached e → EmitsAt s b c (just op.Swap) → EmitsAt s c d (one (named op.StrictSetProp (text_in s atom))) → TargetEmits s a d e
target_prop {s} e atom is x y z = record { made = written_as (λ b f. (f, (tt, tt))) (λ b f. meant s e (target.Prop atom) is b) (written_both x.row.code (written_both (written_of y) (written_of z))) }

pub target_elem : {s : Site} {a b c d : List ℕ} (e : Expr) → IsTarget e target.Elem → ExprEmits s a b Reached e → EmitsAt s b c (one (counted op.Pick 2)) → EmitsAt s c d (just op.StrictSetElem) → TargetEmits s a d e
target_elem {s} e is x y z = record { made = written_as (λ b f. (f, (tt, tt))) (λ b f. meant s e target.Elem is b) (written_both x.row.code (written_both (written_of y) (written_of z))) }

pub target_none : (s : Site) (now : List ℕ) (e : Expr) → IsTarget e target.Nothing → TargetEmits s now now e
target_none s now e is = record { made = written_as (λ b f. tt) (λ b f. meant s e target.Nothing is b) (written_of (emits_none s.texts.now now)) }

each_at : {s : Site} {old new : List ℕ} {f : (ℕ → Stmts) → Type 0} (each : Each) (m : (ℕ → Stmts) → model.Each) → ((b : ℕ → Stmts) → each_of (at_site s b) each ≡ m b) → ((b : ℕ → Stmts) → EachFits (m b) → f b) → Written s old new f (λ b. store_each (scene_of s) (m b)) → EachEmits s old new each
each_at {s} each m same fit x = record { made = written_as (λ b g. fit b (subst EachFits (same b) g)) (λ b g. ap (store_each (scene_of s)) (sym (same b))) x }

pub each_target : {s : Site} {old new : List ℕ} (each : Each) (e : Expr) → each ≡ in_each.Target e → TargetEmits s old new e → EachEmits s old new each
each_target {s} each e is x = each_at each (λ b. model.TargetEach (expr_of (at_site s b) e)) (λ b. ap (each_of (at_site s b)) is ∙ each_of-Target (at_site s b) e) (λ b f. f) x.made

pub each_bound : {s : Site} {old new : List ℕ} (each : Each) (kind : Decl) (name : Ident) → each ≡ in_each.Bind kind name → EmitsAt s old new (store_bound (scene_of s) kind (text_in s name.atom)) → EachEmits s old new each
each_bound {s} each kind name is x = each_at each (λ b. model.BindEach kind (record { text = text_in s name.atom; at = name.at })) (λ b. ap (each_of (at_site s b)) is ∙ each_of-Bind (at_site s b) kind name) (λ b f. tt) (written_of x)
