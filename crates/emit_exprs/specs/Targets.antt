-- What a target of the code stands for.
use Rattle.std.specs.Prelude.{◌≡◌, ℕ, Bool, true, false, List, [], slice_index_or}
use Rattle.script_grammar.specs.declared.tree.Expr.{Expr}
use Rattle.script_grammar.specs.Interpretation.{Interpretation}
use Rattle.script_grammar.specs.TreeOf.{expr_of}
use Rattle.emit_exprs.specs.declared.targets.Target.{Target}
use Rattle.emit_exprs.specs.declared.targets.Target.TheVariants as target
use Rattle.emit_exprs.specs.Exprs as model

abbrev pub target_in : List (List ℕ) → Target → model.Target
target_in texts (target.Name atom) = model.ToName (slice_index_or texts atom [])
target_in texts (target.Prop atom) = model.ToProp (slice_index_or texts atom [])
target_in texts target.Elem = model.ToElem
target_in texts target.Nothing = model.NoTarget

-- the target of an expression
pub record IsTarget (e : Expr) (t : Target) : Type 0 where
  pub under : (i : Interpretation) → target_in i.texts t ≡ model.target_of (expr_of i e)

abbrev pub names_target : Target → Bool
names_target (target.Name atom) = true
names_target (target.Prop atom) = false
names_target target.Elem = false
names_target target.Nothing = false
