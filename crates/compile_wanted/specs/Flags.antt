-- Which functions of a script are shown, of each in order of number. This project's own choice.
use Rattle.std.specs.Prelude.{ℕ, Bool, false, ◌&&◌, ◌||◌, nat_le, List, [], ◌∷◌, map, Option, Some, None}
use Rattle.std.specs.List.{range_with_len}
use Rattle.compile_specs.specs.Shown.{Wanted, wants}

-- of n functions, numbered from 1, whether each is wanted
abbrev pub wanted_flags : Wanted → ℕ → List Bool
wanted_flags want count = map (wants want) (range_with_len 1 count)

-- of functions that end at these offsets, whether one is wanted that ends here or before
abbrev pub any_within : ℕ → List Bool → List ℕ → Bool
any_within end [] ends = false
any_within end (f ∷ fs) [] = false
any_within end (f ∷ fs) (e ∷ es) = (nat_le e end && f) || any_within end fs es

-- of functions that end at these offsets, whether each is shown: it or one after it is wanted that does not end after it
abbrev pub shown_flags : List Bool → List ℕ → List Bool
shown_flags [] ends = []
shown_flags (f ∷ fs) [] = []
shown_flags (f ∷ fs) (e ∷ es) = any_within e (f ∷ fs) (e ∷ es) ∷ shown_flags fs es

-- whether there is an end, and it is here or before
abbrev pub reaches : Option ℕ → ℕ → Bool
reaches None end = false
reaches (Some e) end = nat_le e end
