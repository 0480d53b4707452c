-- Tokens without those that stand between the braces of some functions' bodies.
use Rattle.std.specs.Prelude.{◌≡◌, ℕ, ◌&&◌, List, [], ◌∷◌, ◌++◌, Bool, true, false, if◌then◌else◌}
use Rattle.script_grammar.specs.declared.token.Kind.TheVariants as kind
use Rattle.script_grammar.specs.declared.token.mark.TheConstants as mark
use Rattle.script_grammar.specs.Lexeme.{Lexeme}
use Rattle.script_grammar.specs.Pieces.{IsBalanced}
use Rattle.script_grammar.specs.Tree.{Function, function, Body, BracedBody, ShortBody}
use Rattle.scope_analysis.specs.Functions.{Inner}
use Rattle.grammar_alone_laws.specs.Alone.{start_of, end_of, at_front}

-- The body of a function that starts and ends at these offsets: the offset after its opening brace, and that of its closing one.
pub record Hole : Type 0 where
  pub start : ℕ
  pub end : ℕ
  pub from : ℕ
  pub to : ℕ

-- where a function starts and ends
pub record Place : Type 0 where
  pub start : ℕ
  pub end : ℕ

abbrev pub place_of : Hole → Place
place_of hole = record { start = hole.start; end = hole.end }

abbrev pub IsMark : ℕ → Lexeme → Type 0
IsMark i t = t.kind ≡ kind.Mark i

-- an arrow's mark, or nothing
pub data IsJoint : List Lexeme → Type 0 where
  no_arrow : IsJoint []
  arrow : (t : Lexeme) → IsMark mark.ARROW t → IsJoint (t ∷ [])

-- The tokens of a function in front of its body: an arrow's single name, or parameters in parentheses, and an arrow's mark.
pub data IsHead : List Lexeme → Type 0 where
  single : (name : Lexeme) (joint : Lexeme) → name.kind ≡ kind.Name → IsMark mark.ARROW joint → IsHead (name ∷ joint ∷ [])
  listed : (opener : Lexeme) (params : List Lexeme) (closer : Lexeme) (joint : List Lexeme) → IsMark mark.OPEN_PAREN opener
      → IsBalanced params → IsMark mark.CLOSE_PAREN closer → IsJoint joint
      → (all : List Lexeme) → all ≡ opener ∷ (params ++ closer ∷ joint) → IsHead all

-- A function with a braced body: what stands in front of the body, the braces, and what stands between them.
pub record Braced : Type 0 where
  pub first : Lexeme
  pub more : List Lexeme
  pub opener : Lexeme
  pub inside : List Lexeme
  pub closer : Lexeme
  pub head : IsHead (first ∷ more)
  pub opens : IsMark mark.OPEN_BRACE opener
  pub balanced : IsBalanced inside
  pub closes : IsMark mark.CLOSE_BRACE closer

abbrev pub hole_of : Braced → Hole
hole_of b = record { start = b.first.start; end = b.closer.end; from = b.opener.end; to = b.closer.start }

-- its tokens, and those that are left: no line end stands before the closing brace then
abbrev pub all_of : Braced → List Lexeme
all_of b = (b.first ∷ b.more) ++ (b.opener ∷ (b.inside ++ b.closer ∷ []))

abbrev pub left_of : Braced → List Lexeme
left_of b = (b.first ∷ b.more) ++ (b.opener ∷ at_front b.closer ∷ [])

-- The second tokens are the first ones without those in these bodies.
pub data LeavesOut : List Hole → List Lexeme → List Lexeme → Type 0 where
  nothing : LeavesOut [] [] []
  keeps : (t : Lexeme) (hs : List Hole) (ts us : List Lexeme) → LeavesOut hs ts us → LeavesOut hs (t ∷ ts) (t ∷ us)
  skips : (b : Braced) (hs : List Hole) (ts us all left : List Lexeme) → all ≡ all_of b ++ ts → left ≡ left_of b ++ us → LeavesOut hs ts us
      → LeavesOut (hole_of b ∷ hs) all left

-- The functions of a list that are chosen and have braced bodies.

abbrev pub has_braces : Body → Bool
has_braces (BracedBody items) = true
has_braces (ShortBody value) = false

abbrev pub is_hollow : (ℕ → Bool) → Function → Bool
is_hollow chosen (function _ start _ _ _ _ _ body) = chosen start && has_braces body

abbrev pub place_in : Function → Place
place_in f = record { start = start_of f; end = end_of f }

abbrev pub hollow_places : (ℕ → Bool) → List Inner → List Place
hollow_places chosen [] = []
hollow_places chosen (i ∷ is) = if is_hollow chosen i.func then place_in i.func ∷ hollow_places chosen is else hollow_places chosen is
