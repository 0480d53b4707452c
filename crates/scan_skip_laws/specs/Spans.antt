-- A text of which some parts between braces are left out: a blank stands for each of them, from its start to its end.
use Rattle.std.specs.Prelude.{◌≡◌, ℕ, ◌<◌, nat_lt, Bool, true, false, List, [], ◌∷◌, ◌++◌, map, filter, if◌then◌else◌}
use Rattle.script_grammar.specs.declared.token.Kind.{Kind}
use Rattle.script_grammar.specs.declared.token.Kind.TheVariants as kind
use Rattle.script_grammar.specs.declared.token.mark.TheConstants as mark
use Rattle.script_grammar.specs.Matching.{part_of, IsBalanced}
use Rattle.unit_text.specs.declared.Point.{Point}
use Rattle.script_scanner.specs.Tokens.{Lexed, place}
use Rattle.scan_laws.specs.Inside.{opens_or_closes_brace}

-- what is left out: from the offset after an opening brace to that of the closing one
pub record Span : Type 0 where
  pub from : ℕ
  pub to : ℕ

-- a space that takes all bytes between two offsets; none where there are none
abbrev pub blank : ℕ → ℕ → List Point
blank from to = if nat_lt from to then record { code = 0x20; start = from; end = to } ∷ [] else []

-- The second points are the first ones with a blank in place of the points of each span, which are those of a text up to this
-- offset.
pub data Blanked (to : ℕ) : List Span → List Point → List Point → Type 0 where
  whole : (ps : List Point) → Blanked to [] ps ps
  part : (s : Span) (spans : List Span) (front inside rest others all left : List Point) → place to (inside ++ rest) ≡ s.from
      → place to rest ≡ s.to → all ≡ front ++ (inside ++ rest) → left ≡ front ++ (blank s.from s.to ++ others)
      → Blanked to spans rest others → Blanked to (s ∷ spans) all left

-- the same token with no line end before it
abbrev pub at_front : Lexed → Lexed
at_front t = record t { after_line = false }

abbrev pub kinds_of : List Lexed → List Kind
kinds_of = map (λ t. t.kind)

-- tokens of these kinds close the braces that they open, and no other
abbrev pub CloseInside : List Kind → Type 0
CloseInside ks = IsBalanced (filter (λ k. opens_or_closes_brace (part_of k)) ks)

-- The second tokens are the first ones without those in the spans: each begins after a `{` and ends at the `}` that closes it, and
-- the tokens between close the braces that they open, and no other.
pub data LeavesSpans : List Span → List Lexed → List Lexed → Type 0 where
  nothing : LeavesSpans [] [] []
  keeps : (t : Lexed) (spans : List Span) (ts us : List Lexed) → LeavesSpans spans ts us → LeavesSpans spans (t ∷ ts) (t ∷ us)
  skips : (opener closer : Lexed) (inside : List Lexed) (spans : List Span) (ts us all left : List Lexed)
      → opener.kind ≡ kind.Mark mark.OPEN_BRACE → CloseInside (kinds_of inside)
      → all ≡ opener ∷ (inside ++ closer ∷ ts) → left ≡ opener ∷ at_front closer ∷ us → LeavesSpans spans ts us
      → LeavesSpans (record { from = opener.end; to = closer.start } ∷ spans) all left
