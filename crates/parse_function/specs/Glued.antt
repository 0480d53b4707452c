-- The bytes of a part of a file without those in some spans, and where each of them stands in the file.
use Rattle.std.specs.Prelude.{◌≡◌, ℕ, ◌+◌, ◌-◌, ◌≤◌, ◌<◌, ◌^◌, nat_lt, nat_le, List, [], ◌∷◌, ◌++◌, length, take, drop, slice_index_or, if◌then◌else◌}
use Rattle.script_grammar.specs.declared.token.Token.{Token}
use Rattle.scan_skip_laws.specs.Spans.{Span}

-- a space, in place of the bytes between two offsets; none where there are none
abbrev pub blank_byte : ℕ → ℕ → List ℕ
blank_byte from to = if nat_lt from to then 0x20 ∷ [] else []

-- the bytes between two offsets, with a space in place of those of each span
abbrev pub bytes_without : List ℕ → ℕ → ℕ → List Span → List ℕ
bytes_without file from to [] = take (to - from) (drop from file)
bytes_without file from to (s ∷ spans) = take (s.from - from) (drop from file) ++ (blank_byte s.from s.to ++ bytes_without file s.to to spans)

-- spans lie behind an offset, one after the other, where a file has its bytes
abbrev pub AreApart : ℕ → List Span → Type 0
AreApart from [] = from ≤ 16777215
AreApart from (s ∷ spans) = (from ≤ s.from) × (s.from ≤ s.to) × (s.to ≤ 16777215) × AreApart s.to spans

-- Where the bytes behind a span begin among those without spans, if the bytes in front of it begin there at one offset and in the file
-- at another.
abbrev pub behind_span : ℕ → ℕ → Span → ℕ
behind_span glued file s = glued + (s.from - file) + length (blank_byte s.from s.to)

-- The offset in the file of the byte that has an offset among those without spans, if the first of these has one offset among them and
-- another in the file. A space has that of its span's start.
abbrev pub stands_at : ℕ → ℕ → List Span → ℕ → ℕ
stands_at glued file [] at = file + (at - glued)
stands_at glued file (s ∷ spans) at =
    if nat_le (behind_span glued file s) at then stands_at (behind_span glued file s) s.to spans at else file + (at - glued)

-- where the bytes behind the first of some spans begin; no offset is as great where there is no span
abbrev pub limit_of : ℕ → ℕ → List Span → ℕ
limit_of glued file [] = 4294967295
limit_of glued file (s ∷ spans) = behind_span glued file s

-- The holes of a stretch, which begins at an offset and stands so much further after in the file, lie behind it, and it ends where the
-- first of them does.
pub record IsStretch (glued limit by : ℕ) (spans : List Span) : Type 0 where
  pub apart : AreApart (glued + by) spans
  pub limited : limit ≡ limit_of glued (glued + by) spans

-- From an offset on, the bytes that stand in the file so much further after, without these spans, stand where `place` says.
abbrev pub Follows : (ℕ → ℕ) → ℕ → ℕ → List Span → Type 0
Follows place glued by spans = (at : ℕ) → glued ≤ at → place at ≡ stands_at glued (glued + by) spans at

-- a token with other offsets
abbrev pub moved : (ℕ → ℕ) → Token → Token
moved place t = record { kind = t.kind; after_line = t.after_line; value = t.value; start = place t.start; end = place t.end }

-- tokens begin and end not before an offset, and where they then begin and end are offsets of a text
pub record FitMoved (place : ℕ → ℕ) (from : ℕ) (ts : List Token) : Type 0 where
  pub starts : (k : ℕ) (d : Token) → k < length ts → (from ≤ (slice_index_or ts k d).start) × (place (slice_index_or ts k d).start < 2 ^ 24)
  pub ends : (k : ℕ) (d : Token) → k < length ts → (from ≤ (slice_index_or ts k d).end) × (place (slice_index_or ts k d).end < 2 ^ 24)
