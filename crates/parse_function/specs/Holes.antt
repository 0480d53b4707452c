-- What stands in the bodies of functions directly in a function, and what tells where a body begins.
use Rattle.std.specs.Prelude.{◌≡◌, ℕ, ◌+◌, ◌-◌, ◌<◌, ◌≤◌, List, [], ◌∷◌, ◌++◌, length, map, take, drop, slice_get, Some, Bool}
use Rattle.std.specs.Str.{IsUtf8}
use Rattle.script_grammar.specs.declared.token.FuncForm.{FuncForm}
use Rattle.script_grammar.specs.declared.token.Kind.{Kind}
use Rattle.script_grammar.specs.declared.token.Kind.TheVariants as kind
use Rattle.script_grammar.specs.declared.token.mark.TheConstants as mark
use Rattle.script_grammar.specs.declared.token.Token.{Token}
use Rattle.script_grammar.specs.Matching.{IsBalanced, kinds_of}
use Rattle.script_grammar.specs.Tree.{Stmts}
use Rattle.stencil_data.specs.declared.functions.Extent.{Extent}
use Rattle.unit_text.specs.Points.{points}
use Rattle.script_scanner.specs.Lexemes.{lexeme_of}
use Rattle.script_scanner.specs.Stands.{StandFor, HasOneLast}
use Rattle.script_scanner.specs.Tokens.{Lexed, tokens}
use Rattle.scan_skip_laws.specs.Spans.{Span}
use Rattle.scope_analysis.specs.Functions.{Inner, function_form}
use Rattle.grammar_skip_laws.specs.Holes.{IsHead}
use Rattle.parse_skip_laws.specs.Read.{ReadSkipped, text_of}
use Rattle.parse_skip_laws.specs.SkippedText.{span_of}
use Rattle.parse_function.specs.declared.holes.Beginning.{Beginning}
use Rattle.parse_function.specs.declared.holes.Beginning.TheVariants.{Braced, Other, Cut}
use Rattle.parse_function.specs.declared.holes.Hole.{Hole}
use Rattle.parse_function.specs.Extents.{IsExtentOf, extents_in}

-- ---- the holes of a function

-- a hole as a part of the text that is left out
abbrev pub span_at : Hole → Span
span_at hole = record { from = hole.from; to = hole.to }

-- These are the holes of some of the functions directly in this one.
pub record AreHolesOf (file : List ℕ) (extent : Extent) (i : Inner) (holes : List Hole) : Type 0 where
  pub chosen : ℕ → Bool
  pub are : (r : ReadSkipped chosen i extent.end (text_of file extent.start extent.end)) → map span_of r.holes ≡ map span_at holes

-- they are so of whichever function has this extent and, directly in it, functions of these extents
abbrev pub AreHolesAt : List ℕ → Extent → List Extent → List Hole → Type 0
AreHolesAt file extent within holes =
    (form : FuncForm) (items : Stmts) (i : Inner) → IsExtentOf file extent form items i → within ≡ extents_in i → AreHolesOf file extent i holes

-- ---- what is known of each

-- a function of the script that the file is has this extent
pub record IsFunctionAt (file : List ℕ) (extent : Extent) : Type 0 where
  pub items : Stmts
  pub inner : Inner
  pub is : IsExtentOf file extent (function_form inner.func) items inner

-- The text from the function's start up to the hole is scanned to a function's head and a `{`, and a last token. The hole ends in
-- front of the function's last byte.
pub record IsHole (file : List ℕ) (inner : Extent) (hole : Hole) : Type 0 where
  pub above : 0 < inner.start
  pub behind : inner.start ≤ hole.from
  pub within : hole.from ≤ inner.end
  pub utf8 : IsUtf8 (take (hole.from - inner.start) (drop inner.start file))
  pub front : List Lexed
  pub opener : Lexed
  pub last : Lexed
  pub are : tokens (points file) inner.start hole.from ≡ front ++ opener ∷ last ∷ []
  pub head : IsHead (map lexeme_of front)
  pub opens : opener.kind ≡ kind.Mark mark.OPEN_BRACE
  pub ends : opener.end ≡ hole.from
  pub closes : hole.to + 1 ≡ inner.end

-- These holes are those of some of the functions with these extents, in order.
pub data AreFound (file : List ℕ) : List Extent → List Hole → Type 0 where
  nothing : AreFound file [] []
  found : (e : Extent) (h : Hole) (es : List Extent) (hs : List Hole) → IsHole file e h → AreFound file es hs → AreFound file (e ∷ es) (h ∷ hs)
  passed : (e : Extent) (es : List Extent) (hs : List Hole) → AreFound file es hs → AreFound file (e ∷ es) hs

-- ---- tokens of a text, and how they begin

-- The text between two offsets is UTF-8 and scanned to these tokens.
pub record AreTokensOf (file : List ℕ) (from to : ℕ) (ts : List Token) : Type 0 where
  pub utf8 : IsUtf8 (take (to - from) (drop from file))
  pub texts : List (List ℕ)
  pub stand : StandFor texts ts (tokens (points file) from to)
  pub one : HasOneLast ts

abbrev pub IsKindAt : List Kind → ℕ → Kind → Type 0
IsKindAt ks n k = slice_get ks n ≡ Some k

abbrev pub OpensWithParen : List Kind → Type 0
OpensWithParen ks = IsKindAt ks 0 (kind.Mark mark.OPEN_PAREN)

-- an arrow's mark, or nothing
pub data IsJointOf : List Kind → Type 0 where
  no_arrow : IsJointOf []
  arrow : IsJointOf (kind.Mark mark.ARROW ∷ [])

-- kinds of the tokens of a function's head
pub data IsHeadOf : List Kind → Type 0 where
  single : IsHeadOf (kind.Name ∷ kind.Mark mark.ARROW ∷ [])
  listed : (params joint all : List Kind) → IsBalanced params → IsJointOf joint
      → all ≡ kind.Mark mark.OPEN_PAREN ∷ (params ++ kind.Mark mark.CLOSE_PAREN ∷ joint) → IsHeadOf all

-- the first n kinds are those of a head
pub record IsHeadLength (ks : List Kind) (n : ℕ) : Type 0 where
  pub within : n ≤ length ks
  pub is : IsHeadOf (take n ks)

-- where a head and a `{` are told of, they are there
abbrev pub BeginsWithHead : List Kind → Beginning → Type 0
BeginsWithHead ks (Braced n) = IsHeadLength ks n × IsKindAt ks n (kind.Mark mark.OPEN_BRACE)
BeginsWithHead ks Other = Unit {0}
BeginsWithHead ks Cut = Unit {0}

-- Tokens are a head, a `{` that ends at this offset, and a last one.
pub record EndsWithHead (ts : List Token) (end : ℕ) : Type 0 where
  pub front : List Token
  pub opener : Token
  pub last : Token
  pub are : ts ≡ front ++ opener ∷ last ∷ []
  pub head : IsHeadOf (kinds_of front)
  pub opens : opener.kind ≡ kind.Mark mark.OPEN_BRACE
  pub ends : opener.end ≡ end
