-- Where the bindings of one scope live. This project's own choice:
-- * a binding of the global scope has the global slot;
-- * a binding that an inner function finds has a slot of the scope's environment, counted from 0;
-- * a parameter else has its argument's index, and a callee name the callee slot;
-- * all others have slots of the function's frame, from the first one that the scopes around leave free.
use Rattle.std.specs.Prelude.{ℕ, ◌+◌, Bool, true, false, if◌then◌else◌, List, [], ◌∷◌, count_by}
use Rattle.stencil_data.specs.declared.scopes.ScopeKind.{ScopeKind}
use Rattle.stencil_data.specs.declared.scopes.BindKind.{BindKind}
use Rattle.stencil_data.specs.declared.scopes.BindKind.TheVariants as bind
use Rattle.stencil_data.specs.declared.scopes.Slot.{Slot}
use Rattle.stencil_data.specs.declared.scopes.Slot.TheVariants as slot
use Rattle.stencil_data.specs.Resolve.{is_global}

-- a binding before it has a slot: how it was declared, and whether an inner function finds it
pub record Unplaced : Type 0 where
  pub kind : BindKind
  pub closed : Bool

abbrev pub is_param : BindKind → Bool
is_param bind.Param = true
is_param bind.Var = false
is_param bind.Let = false
is_param bind.Const = false
is_param bind.Function = false
is_param bind.Catch = false
is_param bind.Callee = false
is_param bind.Arguments = false
is_param bind.This = false

-- the slot of a binding that no inner function finds, by the next argument and the next frame slot
abbrev pub own_slot : BindKind → ℕ → ℕ → Slot
own_slot bind.Param arg frame = slot.Arg arg
own_slot bind.Var arg frame = slot.Frame frame
own_slot bind.Let arg frame = slot.Frame frame
own_slot bind.Const arg frame = slot.Frame frame
own_slot bind.Function arg frame = slot.Frame frame
own_slot bind.Catch arg frame = slot.Frame frame
own_slot bind.Callee arg frame = slot.Callee
own_slot bind.Arguments arg frame = slot.Frame frame
own_slot bind.This arg frame = slot.Frame frame

abbrev pub takes_frame : Slot → Bool
takes_frame slot.Global = false
takes_frame (slot.Arg index) = false
takes_frame (slot.Frame index) = true
takes_frame (slot.Env index) = false
takes_frame slot.Callee = false

-- the slot of one binding, by the scope's kind and the next environment, argument and frame slots
abbrev pub slot_of : ScopeKind → ℕ → ℕ → ℕ → Unplaced → Slot
slot_of kind env arg frame binding =
    if is_global kind then slot.Global else (if binding.closed then slot.Env env else own_slot binding.kind arg frame)

-- the slots of the bindings, in their order, by the same next slots
abbrev pub slots_from : ScopeKind → ℕ → ℕ → ℕ → List Unplaced → List Slot
slots_from kind env arg frame [] = []
slots_from kind env arg frame (binding ∷ bindings) =
    slot_of kind env arg frame binding ∷
    slots_from kind (env + (if binding.closed then 1 else 0)) (arg + (if is_param binding.kind then 1 else 0))
    (frame + (if takes_frame (slot_of kind env arg frame binding) then 1 else 0)) bindings

-- the slots of a scope's bindings, where the scopes around it in its function leave the frame free from here
abbrev pub slots : ScopeKind → ℕ → List Unplaced → List Slot
slots kind frame bindings = slots_from kind 0 0 frame bindings

-- the first frame slot that this scope and those around it leave free
abbrev pub frame_after : ScopeKind → ℕ → List Unplaced → ℕ
frame_after kind frame bindings = frame + count_by takes_frame (slots kind frame bindings)

-- the number of a scope's environment slots; it has an environment where this is not 0
abbrev pub env_slots : ScopeKind → List Unplaced → ℕ
env_slots kind bindings = if is_global kind then 0 else count_by (λ (binding : Unplaced). binding.closed) bindings
