-- Lines and columns in a small text, computed.
use Rattle.std.proofs.Common.{◌≡◌, refl, List, ℕ, [], ◌∷◌}
use Rattle.holzikra_places.specs.Places.{byte_units, ends_line, line_starts, lines_ended, units_from}

-- a CR LF b CR c U+2028 é U+1F600 d LF
abbrev sample : List ℕ
sample = 97 ∷ 13 ∷ 10 ∷ 98 ∷ 13 ∷ 99 ∷ 226 ∷ 128 ∷ 168 ∷ 195 ∷ 169 ∷ 240 ∷ 159 ∷ 152 ∷ 128 ∷ 100 ∷ 10 ∷ []

-- CR LF ends one line, CR, U+2028 and LF each one
starts : line_starts sample 17 ≡ 0 ∷ 3 ∷ 5 ∷ 9 ∷ 17 ∷ []
unfolding ends_line
starts = refl

none_between_cr_and_lf : lines_ended sample 2 ≡ 0
unfolding ends_line
none_between_cr_and_lf = refl

behind_cr_lf : lines_ended sample 3 ≡ 1
unfolding ends_line
behind_cr_lf = refl

-- é is one unit, and U+1F600 two
behind_two_characters : units_from sample 9 6 ≡ 3
unfolding byte_units
behind_two_characters = refl
