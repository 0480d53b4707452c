-- That something is what a function is compiled to has one proof at most.
use Rattle.std.specs.Prelude.{ℕ, List, [], ◌∷◌, Option, Some, None}
use Rattle.std.specs.Coded.{Coded, Coded-set, codes, ×_prop, Unit-prop, le_prop}
use Rattle.stencil_data.specs.declared.scopes.Binding.{Binding}
use Rattle.stencil_data.specs.contracts.functions.Extent as extent
use Rattle.stencil_data.specs.contracts.functions.FuncKind as kind
use Rattle.stencil_data.specs.contracts.chains.LinkName as name
use Rattle.stencil_data.specs.contracts.scopes.ScopeKind as scope
use Rattle.stencil_data.specs.contracts.stencils.TryNote as note
use Rattle.stencil_data.specs.LinkView.{LinkView}
use Rattle.stencil_data.specs.Named.{NamedScope}
use Rattle.stencil_data.specs.StandsFor.{BindingsWithin, ScopesWithin, NameWithin}
use Rattle.stencil_data.specs.Views.{ScopeView}
use Rattle.bytecode_buf.specs.contracts.opcode.Op as op
use Rattle.bytecode_buf.specs.Command.{Listed}
use Rattle.compile_specs.specs.Eager.{Site}
use Rattle.lazy_compile.specs.declared.Delazified.{Delazified}
use Rattle.lazy_compile.specs.Delazified.{IsCompiledAlone}
use Rattle.lazy_function.specs.Numbered.{IsCompiledFunction}

-- ---- bounds of atoms

BindingsWithin-prop : (count : ℕ) (bindings : List Binding) → IsProp (BindingsWithin count bindings)
BindingsWithin-prop count [] = Unit-prop
BindingsWithin-prop count (b ∷ bindings) = ×_prop le_prop (BindingsWithin-prop count bindings)

ScopesWithin-prop : (count : ℕ) (scopes : List ScopeView) → IsProp (ScopesWithin count scopes)
ScopesWithin-prop count [] = Unit-prop
ScopesWithin-prop count (s ∷ scopes) = ×_prop (BindingsWithin-prop count s.bindings) (ScopesWithin-prop count scopes)

NameWithin-prop : (count : ℕ) (name : Option ℕ) → IsProp (NameWithin count name)
NameWithin-prop count None = Unit-prop
NameWithin-prop count (Some atom) = le_prop

-- ---- values between which equations have one proof

scope_coded : Coded NamedScope
scope_coded = hlevel (scope.the_row.coded, name.the_row.coded, codes)

listed_coded : Coded Listed
listed_coded = hlevel (op.the_row.coded, codes)

link_coded : Coded LinkView
link_coded = hlevel (scope.the_row.coded, name.the_row.coded, codes)

-- ---- the facts

pub IsCompiledAlone-prop : (made : Delazified) (m : Site) → IsProp (IsCompiledAlone made m)
IsCompiledAlone-prop made m =
    hlevel (
      extent.the_row.coded,
      kind.the_row.coded,
      note.the_row.coded,
      scope_coded,
      listed_coded,
      link_coded,
      Coded-set,
      NameWithin-prop,
      ScopesWithin-prop,
      codes,
    )

pub IsCompiledFunction-prop : (bytes : List ℕ) (number : ℕ) (made : Delazified) → IsProp (IsCompiledFunction bytes number made)
IsCompiledFunction-prop bytes number made = hlevel (IsCompiledAlone-prop)
