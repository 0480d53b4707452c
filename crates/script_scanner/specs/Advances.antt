-- One step of a scan: a blank is skipped, a token is taken, or the last token comes.
use Rattle.std.specs.Prelude.{◌≡◌, ℕ, zero, suc, ◌+◌, ◌≤◌, Bool, false, List, [], ◌∷◌, ◌++◌, drop, length}
use Rattle.parser_atoms.specs.Places.{Interns}
use Rattle.script_grammar.specs.declared.token.Token.{Token}
use Rattle.unit_text.specs.declared.Point.{Point}
use Rattle.script_scanner.specs.declared.braces.Brace.{Brace}
use Rattle.script_scanner.specs.declared.pieces.FoundToken.{FoundToken}
use Rattle.script_scanner.specs.declared.pieces.Content.{Content}
use Rattle.script_scanner.specs.declared.pieces.Content.TheVariants as content
use Rattle.script_scanner.specs.declared.scanning.Scanner.{Scanner}
use Rattle.script_scanner.specs.Stands.{StandFor, StandsFor, GainsOnly, AreNoLast, HasOneLast}
use Rattle.script_scanner.specs.Tokens.{Lexed, then_tokens, front_at, place, braces_after}

-- The number of a token: the atom of the units in the buffer, the number that stands beside the kind, or 0.
abbrev pub TakesValue : Content → List ℕ → List (List ℕ) → List (List ℕ) → ℕ → Type 0
TakesValue content.Units units before after value = Interns before after units value
TakesValue (content.Number n) units before after value = (value ≡ n) × (after ≡ before)
TakesValue content.Nothing units before after value = (value ≡ 0) × (after ≡ before)

-- The token that was found, with its number and its places, is the last one now, and the braces are those after it.
pub record TakesToken (to : ℕ) (rest : List Point) (found : FoundToken) (before now : Scanner) (texts texts_now : List (List ℕ)) : Type 0 where
  pub token : Token
  pub appended : now.tokens.items ≡ before.tokens.items ++ token ∷ []
  pub kind : token.kind ≡ found.kind
  pub value : TakesValue found.content before.units.items texts texts_now token.value
  pub start : token.start ≡ place to rest
  pub end : token.end ≡ place to (drop found.length rest)
  pub after_line : token.after_line ≡ before.after_line
  pub braces : now.braces.items ≡ braces_after before.braces.items found.kind
  pub line_before : now.after_line ≡ false

-- One token more, which stands for this one of the model.
pub record EndsWith (lexed : Lexed) (tokens now : List Token) : Type 0 where
  pub token : Token
  pub appended : now ≡ tokens ++ token ∷ []
  pub stands : (texts : List (List ℕ)) → StandsFor texts token lexed

-- Nothing follows where no code point was taken.
abbrev pub rest_after : ℕ → List Lexed → List Lexed
rest_after zero rest = []
rest_after (suc taken) rest = rest

-- The last of these tokens, and no other, is End or Bad where no code point was taken, and none of them is otherwise.
abbrev pub LastAfter : ℕ → List Token → Type 0
LastAfter zero tokens = HasOneLast tokens
LastAfter (suc taken) tokens = AreNoLast tokens

-- A step takes n code points of the rest and makes tokens of the model, which the tokens that came stand for: they are
-- the first of the rest's tokens, and the others follow.
pub record Moves (to : ℕ) (rest : List Point) (tokens tokens_now : List Token) (braces braces_now : List Brace) (after_line after_line_now : Bool)
    (texts texts_now : List (List ℕ)) (taken : ℕ) : Type 0 where
  pub made : List Lexed
  pub fresh : List Token
  pub appended : tokens_now ≡ tokens ++ fresh
  pub stand : StandFor texts_now fresh made
  pub gains : GainsOnly texts texts_now made
  pub last : LastAfter taken fresh
  pub few : length texts_now ≤ length texts + taken
  pub steps : (others : List Brace → Bool → List Point → List Lexed) → then_tokens to braces after_line rest (front_at braces rest) others
      ≡ made ++ rest_after taken (others braces_now after_line_now (drop taken rest))

abbrev pub Advances : ℕ → List Point → Scanner → Scanner → List (List ℕ) → List (List ℕ) → ℕ → Type 0
Advances to rest before now texts texts_now taken =
    Moves to rest before.tokens.items now.tokens.items before.braces.items now.braces.items before.after_line now.after_line texts texts_now taken
