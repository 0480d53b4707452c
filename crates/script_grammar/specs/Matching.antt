-- Which brackets of a list of tokens match. ECMA-262 has this in its productions alone; as a relation of its own it is
-- this project's own choice.
use Rattle.std.specs.Prelude.{ℕ, suc, map, List, [], ◌∷◌, Bool, true, false, nat_eq, if◌then◌else◌, Option, Some, None, ◌≡◌, ◌<◌, ◌⊎◌}
use Rattle.std.specs.Prelude.{length, take, drop, slice_index_or, option_and_then}
use Rattle.script_grammar.specs.declared.token.Token.{Token}
use Rattle.script_grammar.specs.declared.token.Kind.{Kind}
use Rattle.script_grammar.specs.declared.token.Kind.TheVariants as kind
use Rattle.script_grammar.specs.declared.token.mark.TheConstants as mark
use Rattle.script_grammar.specs.declared.brackets.Bracket.{Bracket}
use Rattle.script_grammar.specs.declared.brackets.Bracket.TheVariants.{Paren, Square, Brace, Template}
use Rattle.script_grammar.specs.declared.brackets.BracketPart.{BracketPart}
use Rattle.script_grammar.specs.declared.brackets.BracketPart.TheVariants.{Opening, Closing, Middle, Other}

abbrev pub kinds_of : List Token → List Kind
kinds_of = map (λ t. t.kind)

-- what a token does to brackets; a TemplateMiddle closes what a TemplateHead or another TemplateMiddle opened, and opens again
abbrev pub part_of_mark : ℕ → BracketPart
part_of_mark m =
    if nat_eq m mark.OPEN_PAREN then Opening Paren else (
    if nat_eq m mark.CLOSE_PAREN then Closing Paren else (
    if nat_eq m mark.OPEN_BRACKET then Opening Square else (
    if nat_eq m mark.CLOSE_BRACKET then Closing Square else (
    if nat_eq m mark.OPEN_BRACE then Opening Brace else (
    if nat_eq m mark.CLOSE_BRACE then Closing Brace else Other)))))

abbrev pub part_of : Kind → BracketPart
part_of (kind.Mark m) = part_of_mark m
part_of kind.TemplateHead = Opening Template
part_of kind.TemplateMiddle = Middle
part_of kind.TemplateTail = Closing Template
part_of _ = Other

abbrev pub is_same : Bracket → Bracket → Bool
is_same Paren Paren = true
is_same Square Square = true
is_same Brace Brace = true
is_same Template Template = true
is_same _ _ = false

-- The brackets that are open after a token, innermost first, from those that are open before it. None: the token closes
-- a bracket that is not the innermost open one.
abbrev pub next_open : List Bracket → BracketPart → Option (List Bracket)
next_open stack (Opening b) = Some (b ∷ stack)
next_open [] (Closing c) = None
next_open (b ∷ stack) (Closing c) = if is_same b c then Some stack else None
next_open [] Middle = None
next_open (b ∷ stack) Middle = if is_same b Template then Some (b ∷ stack) else None
next_open stack Other = Some stack

-- the same after a list of tokens
abbrev pub all_open : List Bracket → List Kind → Option (List Bracket)
all_open stack [] = Some stack
all_open stack (k ∷ ks) = option_and_then (λ s. all_open s ks) (next_open stack (part_of k))

-- Tokens are balanced where each that closes a bracket closes the innermost open one, and none is open at their end.
abbrev pub IsBalanced : List Kind → Type 0
IsBalanced ks = all_open [] ks ≡ Some []

-- the bracket that a token opens, and the one that it closes
abbrev pub opened_by : BracketPart → Option Bracket
opened_by (Opening b) = Some b
opened_by Middle = Some Template
opened_by (Closing b) = None
opened_by Other = None

abbrev pub closed_by : BracketPart → Option Bracket
closed_by (Opening b) = None
closed_by Middle = Some Template
closed_by (Closing b) = Some b
closed_by Other = None

abbrev pub part_at : List Kind → ℕ → BracketPart
part_at ks t = part_of (slice_index_or ks t kind.End)

-- the tokens after token t and before token p
abbrev pub between : List Kind → ℕ → ℕ → List Kind
between ks t p = drop (suc t) (take p ks)

-- Token p closes what token t opened: it closes a bracket of that kind, and the tokens between are balanced.
pub record Pairs (ks : List Kind) (t p : ℕ) : Type 0 where
  pub before : t < p
  pub bracket : Bracket
  pub opened : opened_by (part_at ks t) ≡ Some bracket
  pub closed : closed_by (part_at ks p) ≡ Some bracket
  pub balanced : IsBalanced (between ks t p)

-- The partner of a token that opens a bracket is the one that closes it, and the partner of a token that only closes one
-- is the one that opened it. Both stand before the stop.
pub record IsPartner (ks : List Kind) (stop t p : ℕ) : Type 0 where
  pub token : t < stop
  pub partner : p < stop
  pub pairs : Pairs ks t p ⊎ ((opened_by (part_at ks t) ≡ None) × Pairs ks p t)

-- The stop is the first token that closes a bracket which is not the innermost open one, or else the last token.
pub record IsStop (ks : List Kind) (stop : ℕ) : Type 0 where
  pub within : stop < length ks
  pub stack : List Bracket
  pub fit : all_open [] (take stop ks) ≡ Some stack
  pub stops : (suc stop ≡ length ks) ⊎ (next_open stack (part_at ks stop) ≡ None)

-- what contracts see of the brackets of a list of tokens: each token's partner, and the stop
pub record Matching : Type 0 where
  pub partners : List (Option ℕ)
  pub stop : ℕ

-- a token after the end of the list has no partner
abbrev pub partner_of : Matching → ℕ → Option ℕ
partner_of m t = slice_index_or m.partners t None

pub record IsMatching (ks : List Kind) (m : Matching) : Type 0 where
  pub stop : IsStop ks m.stop
  pub partner : (t p : ℕ) → partner_of m t ≡ Some p → IsPartner ks m.stop t p
  pub only : (t p : ℕ) → IsPartner ks m.stop t p → partner_of m t ≡ Some p
