-- What the record of a function says of the functions directly in it. This project's own choice.
use Rattle.std.specs.Prelude.{◌≡◌, ℕ, ◌-◌, ◌<◌, ◌≤◌, List, length, map, Option, Some, slice_get}
use Rattle.std.specs.List.{All}
use Rattle.stencil_data.specs.declared.functions.Extent.{Extent}
use Rattle.stencil_data.specs.Views.{RecordView}
use Rattle.scope_analysis.specs.Functions.{inner_function}
use Rattle.emit_stmts.specs.Functions.{extents_of}
use Rattle.compile_specs.specs.Eager.{Site}

-- a number of one of the functions that have these records: they are numbered from 1
abbrev pub IsNumberOf : List RecordView → ℕ → Type 0
IsNumberOf records number = (0 < number) × (number ≤ length records)

-- the extents that the functions of these numbers have by their records
abbrev pub extents_at : List RecordView → List ℕ → List (Option Extent)
extents_at records numbers = map (λ n. slice_get (map (λ (lazy : RecordView). lazy.extent) records) (n - 1)) numbers

-- The record names functions by their numbers, and the records of these have the extents of the functions directly in the one at
-- this site, in order.
pub record NamesInside (records : List RecordView) (lazy : RecordView) (m : Site) : Type 0 where
  pub within : All (IsNumberOf records) lazy.inner
  pub extents : extents_at records lazy.inner ≡ map (λ (e : Extent). Some e) (extents_of (inner_function m.inner.kind m.inner.name m.inner.func))
