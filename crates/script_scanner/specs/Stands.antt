-- What tokens of the code stand for: those of the model, by the texts that their atoms name.
use Rattle.std.specs.Prelude.{◌≡◌, ℕ, Bool, true, false, List, [], ◌∷◌, ◌++◌, slice_get, Some}
use Rattle.std.specs.List.{AllByRecursion}
use Rattle.script_grammar.specs.declared.token.Kind.{Kind}
use Rattle.script_grammar.specs.declared.token.Kind.TheVariants as kind
use Rattle.script_grammar.specs.declared.token.Token.{Token}
use Rattle.script_scanner.specs.Tokens.{Lexed, Value, Text, Number, Nothing}

-- The number that a token has stands for this value.
abbrev pub HasValue : List (List ℕ) → Value → ℕ → Type 0
HasValue texts (Text units) n = slice_get texts n ≡ Some units
HasValue texts (Number value) n = n ≡ value
HasValue texts Nothing n = n ≡ 0

-- A token stands for one of the model.
pub record StandsFor (texts : List (List ℕ)) (token : Token) (lexed : Lexed) : Type 0 where
  pub kind : token.kind ≡ lexed.kind
  pub value : HasValue texts lexed.value token.value
  pub start : token.start ≡ lexed.start
  pub end : token.end ≡ lexed.end
  pub after_line : token.after_line ≡ lexed.after_line

-- Tokens stand for those of the model, one by one.
abbrev pub StandFor : List (List ℕ) → List Token → List Lexed → Type 0
StandFor texts [] [] = Unit {0}
StandFor texts [] (l ∷ ls) = ⊥
StandFor texts (t ∷ ts) [] = ⊥
StandFor texts (t ∷ ts) (l ∷ ls) = StandsFor texts t l × StandFor texts ts ls

-- The text is the value of a token.
abbrev pub IsValueAmong : List Lexed → List ℕ → Type 0
IsValueAmong lexed text = (before : List Lexed) × (token : Lexed) × (after : List Lexed) × (lexed ≡ before ++ token ∷ after)
    × (token.value ≡ Text text)

-- The texts are those from before and more after them, each of which is the value of a token.
pub record GainsOnly (before after : List (List ℕ)) (lexed : List Lexed) : Type 0 where
  pub gained : List (List ℕ)
  pub grown : after ≡ before ++ gained
  pub are_values : AllByRecursion (IsValueAmong lexed) gained

-- All texts from before stand where they stood.
abbrev pub Keeps : List (List ℕ) → List (List ℕ) → Type 0
Keeps before after = (more : List (List ℕ)) × (after ≡ before ++ more)

-- Nothing follows a token of this kind: it is End or Bad.
abbrev pub is_last : Kind → Bool
is_last kind.Bad = true
is_last kind.End = true
is_last _ = false

abbrev pub AreNoLast : List Token → Type 0
AreNoLast [] = Unit {0}
AreNoLast (t ∷ ts) = (is_last t.kind ≡ false) × AreNoLast ts

-- The last token, and no other, is End or Bad.
pub record HasOneLast (tokens : List Token) : Type 0 where
  pub front : List Token
  pub last : Token
  pub split : tokens ≡ front ++ last ∷ []
  pub ends : is_last last.kind ≡ true
  pub others : AreNoLast front
