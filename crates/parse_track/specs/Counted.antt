-- How many regions a script tells, and how many functions it has: one for each region of a function.
use Rattle.std.specs.Prelude.{ℕ, ◌+◌, cond, List, count_by}
use Rattle.parse_track.specs.Told.{Told, nothing, leaf, inner}
use Rattle.parse_track.specs.RegionNames.{is_function}
use Rattle.parse_track.specs.Log.{Part, region_of}

abbrev pub region_count : {A : Type 0} → Told A → ℕ
region_count nothing = 0
region_count (leaf l t) = region_count t
region_count (inner k at i t) = 1 + (region_count i + region_count t)

abbrev pub function_count : {A : Type 0} → Told A → ℕ
function_count nothing = 0
function_count (leaf l t) = function_count t
function_count (inner k at i t) = cond (is_function k) 1 0 + (function_count i + function_count t)

-- the same of the regions that a track keeps by number
abbrev pub counted : List Part → ℕ
counted parts = count_by (λ part. is_function (region_of part.kind)) parts
