-- Files whose functions can be asked for, and what is answered of them. This project's own choice.
use Rattle.std.specs.Prelude.{◌≡◌, ℕ, ◌+◌, List, [], ◌∷◌, Option, Some, None, slice_index_or}
use Rattle.stencil_data.specs.MergedView.{MergedView}
use Rattle.compile_specs.specs.Shown.{Wanted}
use Rattle.compile_shown.specs.Counting.{trues}
use Rattle.compile_shown.specs.Shown.{AreFlags, ShowsWanted}
use Rattle.stencil_board.specs.Files.{File}
use Rattle.stencil_board.specs.Passes.{IsBoard}
use Rattle.session_requests.specs.Views.{WorkView}

-- The board is one of a script of these files, and the flags are those of its functions where some are wanted.
pub record IsWork (files : List File) (work : WorkView) : Type 0 where
  pub board : IsBoard files work.board
  pub want : Wanted
  pub flags : AreFlags want work.board.initial.parts.records work.shown
  pub count : work.count ≡ trues work.shown

-- the same of a file, where it is a script
abbrev pub IsWorkOf : List File → Option WorkView → Type 0
IsWorkOf files None = Unit {0}
IsWorkOf files (Some work) = IsWork files work

-- of all files
abbrev pub AreWorks : List File → List (Option WorkView) → Type 0
AreWorks files [] = Unit {0}
AreWorks files (work ∷ works) = IsWorkOf files work × AreWorks files works

-- the file at this place
abbrev pub work_at : List (Option WorkView) → ℕ → Option WorkView
work_at works file = slice_index_or works file None

-- whatever functions are wanted, the stencil stands for what is shown of the script then, if the flags are those
abbrev pub IsMerged : WorkView → MergedView → Type 0
IsMerged work merged =
    (want : Wanted) → AreFlags want work.board.initial.parts.records work.shown → ShowsWanted want work.board.bytes work.board.initial merged

abbrev pub IsMergedOf : Option WorkView → MergedView → Type 0
IsMergedOf None merged = Unit {0}
IsMergedOf (Some work) merged = IsMerged work merged

-- ---- how many functions are shown

abbrev pub shown_of : Option WorkView → ℕ
shown_of None = 0
shown_of (Some work) = work.count

abbrev pub shown_total : List (Option WorkView) → ℕ
shown_total [] = 0
shown_total (work ∷ works) = shown_of work + shown_total works
