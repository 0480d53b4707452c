-- Tokens that stand after each other in a file, and what is asked of them if they are to be scanned alone.
use Rattle.std.specs.Prelude.{ℕ, List, [], ◌∷◌, Bool, true, false, map, filter}
use Rattle.script_grammar.specs.declared.token.Kind.{Kind}
use Rattle.script_grammar.specs.declared.token.Kind.TheVariants as kind
use Rattle.script_grammar.specs.declared.brackets.Bracket.{Bracket}
use Rattle.script_grammar.specs.declared.brackets.Bracket.TheVariants.{Paren, Square, Brace, Template}
use Rattle.script_grammar.specs.declared.brackets.BracketPart.{BracketPart}
use Rattle.script_grammar.specs.declared.brackets.BracketPart.TheVariants.{Opening, Closing, Middle, Other}
use Rattle.script_grammar.specs.Lexeme.{Lexeme, no_role}
use Rattle.script_grammar.specs.Matching.{part_of, IsBalanced}

-- The brackets that tell what a `}` is: `{`, and the `${` of a template.
abbrev pub is_brace : Bracket → Bool
is_brace Paren = false
is_brace Square = false
is_brace Brace = true
is_brace Template = true

-- The token opens or closes one of them.
abbrev pub opens_or_closes_brace : BracketPart → Bool
opens_or_closes_brace (Opening b) = is_brace b
opens_or_closes_brace (Closing b) = is_brace b
opens_or_closes_brace Middle = true
opens_or_closes_brace Other = false

abbrev pub kinds : List Lexeme → List Kind
kinds = map (λ t. t.kind)

-- The tokens close the braces that they open, and no other: those of them that open or close a brace are balanced.
abbrev pub ClosesInside : List Lexeme → Type 0
ClosesInside ts = IsBalanced (filter (λ k. opens_or_closes_brace (part_of k)) (kinds ts))

-- A token that begins a text, so that no line end stands before it.
abbrev pub unbroken : Lexeme → Lexeme
unbroken t = record t { after_line = false }

-- The end of the last of these tokens, which stand after an offset; that offset where there are none.
abbrev pub end_from : ℕ → List Lexeme → ℕ
end_from at [] = at
end_from at (t ∷ ts) = end_from t.end ts

-- The end of the last token of a part, by its first token and those after it.
abbrev pub end_of : Lexeme → List Lexeme → ℕ
end_of first more = end_from first.end more

-- The token at the end of a text, right after another.
abbrev pub end_token : ℕ → Lexeme
end_token at = record { kind = kind.End; text = []; number = 0; role = no_role; start = at; end = at; after_line = false }
