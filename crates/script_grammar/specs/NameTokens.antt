-- Of tokens that are names: none is empty, none is spelled as another word.
use Rattle.std.specs.Prelude.{◌≡◌, ◌≢◌, codes, ℕ, List, [], ◌∷◌}
use Rattle.script_grammar.specs.declared.token.Kind.TheVariants as kind
use Rattle.script_grammar.specs.Lexeme.{Lexeme}

-- What holds of the text of each token that is a name.
abbrev pub OfEachNameToken : (List ℕ → Type 0) → List Lexeme → Type 0
OfEachNameToken Holds [] = Unit {0}
OfEachNameToken Holds (t ∷ ts) = (t.kind ≡ kind.Name → Holds t.text) × OfEachNameToken Holds ts

-- No token that is a name is empty.
abbrev pub NamesAreFull : List Lexeme → Type 0
NamesAreFull [] = Unit {0}
NamesAreFull (t ∷ ts) = (t.kind ≡ kind.Name → t.text ≢ []) × NamesAreFull ts

-- Not the name by which a use of `this` goes: no name of a script is spelled with a dot.
abbrev pub IsNotThis : List ℕ → Type 0
IsNotThis text = text ≢ codes ".this"
