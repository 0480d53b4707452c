-- What stands around a statement in its function, and the code that leaves it. Where a break or continue goes is
-- ECMA-262's, 12th edition, clauses 14.8 and 14.9 with 8.2 (ContainsUndefinedBreakTarget, ContainsUndefinedContinueTarget);
-- the instructions are this project's own choice.
use Rattle.std.specs.Prelude.{ℕ, ◌+◌, Bool, true, false, bytes_eq, nat_lt, if◌then◌else◌, List, [], ◌∷◌, ◌++◌, length, slice_index_or}
use Rattle.std.specs.Prelude.{Option, Some, None}
use Rattle.stencil_data.specs.declared.scopes.ScopeKind.TheVariants as scope
use Rattle.stencil_data.specs.LinkView.{LinkView}
use Rattle.stencil_data.specs.Named.{NamedScope}
use Rattle.stencil_data.specs.Resolve.{is_global}
use Rattle.stencil_data.specs.StandsFor.{link_of}
use Rattle.bytecode_buf.specs.declared.opcode.Op.TheVariants as op
use Rattle.bytecode_buf.specs.declared.waits.Aim.{Aim}
use Rattle.bytecode_buf.specs.declared.waits.Aim.TheVariants as aim
use Rattle.bytecode_buf.specs.Pieces.{Waiting, Code}
use Rattle.emit_exprs.specs.Whole.{just}

-- a statement around, or a scope that was entered, by its number
pub data Frame : Type 0 where
  Loop : Frame
  -- a for-in, which has its keys and the present one on the stack
  KeysLoop : Frame
  Switching : Frame
  Labelled : List ℕ → Frame
  Entered : ℕ → Frame

-- a scope without a binding
abbrev pub no_scope : NamedScope
no_scope = record { kind = scope.Lexical; parent = None; bindings = []; env_slots = 0 }

abbrev pub scope_at : List NamedScope → ℕ → NamedScope
scope_at scopes number = slice_index_or scopes number no_scope

abbrev pub has_env : NamedScope → Bool
has_env s = nat_lt 0 s.env_slots

-- the link of a scope; the global one has no names
abbrev pub global_link : LinkView
global_link = record { kind = scope.Global; env = false; names = [] }

abbrev pub chain_link : NamedScope → LinkView
chain_link s = if is_global s.kind then global_link else link_of s

-- the scopes around, innermost first: those that were entered, and those around the function's body. Frames are listed
-- from the innermost one.
abbrev pub chain_of : List NamedScope → List LinkView → List Frame → List LinkView
chain_of scopes base [] = base
chain_of scopes base (Loop ∷ frames) = chain_of scopes base frames
chain_of scopes base (KeysLoop ∷ frames) = chain_of scopes base frames
chain_of scopes base (Switching ∷ frames) = chain_of scopes base frames
chain_of scopes base (Labelled name ∷ frames) = chain_of scopes base frames
chain_of scopes base (Entered number ∷ frames) = chain_link (scope_at scopes number) ∷ chain_of scopes base frames

-- the values that the for-ins around keep on the stack
abbrev pub kept_values : List Frame → ℕ
kept_values [] = 0
kept_values (Loop ∷ frames) = kept_values frames
kept_values (KeysLoop ∷ frames) = 2 + kept_values frames
kept_values (Switching ∷ frames) = kept_values frames
kept_values (Labelled name ∷ frames) = kept_values frames
kept_values (Entered number ∷ frames) = kept_values frames

-- ---- leaving

abbrev pub leave_scope : List NamedScope → ℕ → Code
leave_scope scopes number = if has_env (scope_at scopes number) then just op.PopLexicalEnv else []

-- what leaves one frame
abbrev pub exit : List NamedScope → Frame → Code
exit scopes Loop = []
exit scopes KeysLoop = just op.EndIter
exit scopes Switching = []
exit scopes (Labelled name) = []
exit scopes (Entered number) = leave_scope scopes number

-- what leaves all of them
abbrev pub exits : List NamedScope → List Frame → Code
exits scopes [] = []
exits scopes (frame ∷ frames) = exit scopes frame ++ exits scopes frames

-- a break or a continue, and its label
pub data Goal : Type 0 where
  Out : Option (List ℕ) → Goal
  Again : Option (List ℕ) → Goal

-- one of the labels of the loop inside these frames; between a label and its loop stands at most the scope of its head
abbrev pub is_labelled : List ℕ → List Frame → Bool
is_labelled name [] = false
is_labelled name (Loop ∷ frames) = false
is_labelled name (KeysLoop ∷ frames) = false
is_labelled name (Switching ∷ frames) = false
is_labelled name (Labelled label ∷ frames) = if bytes_eq label name then true else is_labelled name frames
is_labelled name (Entered number ∷ frames) = is_labelled name frames

-- the goal is this frame, which stands inside these
abbrev pub is_meant : Goal → Frame → List Frame → Bool
is_meant (Out None) Loop frames = true
is_meant (Out None) KeysLoop frames = true
is_meant (Out None) Switching frames = true
is_meant (Out None) (Labelled label) frames = false
is_meant (Out None) (Entered number) frames = false
is_meant (Out (Some name)) Loop frames = false
is_meant (Out (Some name)) KeysLoop frames = false
is_meant (Out (Some name)) Switching frames = false
is_meant (Out (Some name)) (Labelled label) frames = bytes_eq label name
is_meant (Out (Some name)) (Entered number) frames = false
is_meant (Again None) Loop frames = true
is_meant (Again None) KeysLoop frames = true
is_meant (Again None) Switching frames = false
is_meant (Again None) (Labelled label) frames = false
is_meant (Again None) (Entered number) frames = false
is_meant (Again (Some name)) Loop frames = is_labelled name frames
is_meant (Again (Some name)) KeysLoop frames = is_labelled name frames
is_meant (Again (Some name)) Switching frames = false
is_meant (Again (Some name)) (Labelled label) frames = false
is_meant (Again (Some name)) (Entered number) frames = false

-- a frame's level is the number of frames around it
abbrev pub goal_aim : Goal → ℕ → Aim
goal_aim (Out label) level = aim.Break level
goal_aim (Again label) level = aim.Continue level

-- exits up to the goal, and a jump there
abbrev pub leaving : List NamedScope → Goal → List Frame → Code
leaving scopes goal [] = []
leaving scopes goal (frame ∷ frames) =
    if is_meant goal frame frames then Waiting op.Goto (goal_aim goal (length frames)) ∷ [] else (exit scopes frame ++ leaving scopes goal frames)
