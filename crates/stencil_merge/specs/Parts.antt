-- A compiled function whose atoms are changed for others, and in whose code a function is named by its number.
use Rattle.std.specs.Prelude.{◌≡◌, ℕ, List, map, option_map}
use Rattle.stencil_data.specs.Views.{FunctionView}
use Rattle.stencil_merge.specs.Atoms.{atom_by, scope_by}
use Rattle.stencil_merge.specs.Instructions.{IsCodeBy}

pub record IsFunctionBy (atoms numbers : List ℕ) (old new : FunctionView) : Type 0 where
  pub extent : new.extent ≡ old.extent
  pub kind : new.kind ≡ old.kind
  pub name : new.name ≡ option_map (atom_by atoms) old.name
  pub params : new.params ≡ old.params
  pub scopes : new.scopes ≡ map (scope_by atoms) old.scopes
  pub code : IsCodeBy atoms numbers old.code new.code
  pub notes : new.notes ≡ old.notes
  pub inner : new.inner ≡ old.inner
