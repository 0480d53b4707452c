-- Texts as they stand in HTML: five characters stand there by references (HTML Living Standard, 13.5, "Named character references", and
-- 13.2.5.80, "Numeric character reference end state").
use Rattle.std.specs.Prelude.{◌≡◌, ℕ, ◌-◌, Bool, true, false, not, nat_eq, ◌&&◌, ◌||◌, IsTrue, if◌then◌else◌, List, [], ◌∷◌, ◌++◌, flat_map, codes}
use Rattle.std.specs.List.{list_all}

-- a byte, or the reference that stands for it
abbrev pub escape_of : ℕ → List ℕ
escape_of byte =
    if nat_eq byte 38 then codes "&amp;"
    else (if nat_eq byte 60 then codes "&lt;"
    else (if nat_eq byte 62 then codes "&gt;"
    else (if nat_eq byte 34 then codes "&quot;"
    else (if nat_eq byte 39 then codes "&#39;"
    else byte ∷ []))))

abbrev pub escaped : List ℕ → List ℕ
escaped text = flat_map escape_of text

-- whether a text begins with another one
abbrev pub begins : List ℕ → List ℕ → Bool
begins text [] = true
begins [] (first ∷ front) = false
begins (byte ∷ text) (first ∷ front) = nat_eq byte first && begins text front

-- what a browser reads at the start of a text: a character, and how many bytes behind the first one belong to it
pub record Read : Type 0 where
  pub character : ℕ
  pub behind : ℕ

abbrev pub read_at : ℕ → List ℕ → Read
read_at byte text =
    if begins (byte ∷ text) (codes "&amp;") then record { character = 38; behind = 4 }
    else (if begins (byte ∷ text) (codes "&lt;") then record { character = 60; behind = 3 }
    else (if begins (byte ∷ text) (codes "&gt;") then record { character = 62; behind = 3 }
    else (if begins (byte ∷ text) (codes "&quot;") then record { character = 34; behind = 5 }
    else (if begins (byte ∷ text) (codes "&#39;") then record { character = 39; behind = 4 }
    else record { character = byte; behind = 0 }))))

-- what is read of a text, without so many bytes at its start
abbrev pub read_behind : ℕ → List ℕ → List ℕ
read_behind count [] = []
read_behind count (byte ∷ text) =
    if nat_eq count 0
    then (let read = read_at byte text in read.character ∷ read_behind read.behind text)
    else read_behind (count - 1) text

-- the text that a browser reads, its references being these five
abbrev pub unescaped : List ℕ → List ℕ
unescaped text = read_behind 0 text

-- whether a byte begins and ends no tag and no value of an attribute
abbrev pub is_harmless : ℕ → Bool
is_harmless byte = not (nat_eq byte 60 || nat_eq byte 62 || nat_eq byte 34 || nat_eq byte 39)

-- a text as it stands in HTML: it is read as the text, and has no byte that means anything else
pub record IsEscaped (made text : List ℕ) : Type 0 where
  pub read : unescaped made ≡ text
  pub harmless : IsTrue (list_all is_harmless made)

-- a text was appended as it stands in HTML
pub record AppendsEscaped (before after text : List ℕ) : Type 0 where
  pub made : List ℕ
  pub adds : after ≡ before ++ made
  pub is : IsEscaped made text
