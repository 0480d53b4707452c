-- A function that is read from its extent alone: from its parameters to the end of its body (ECMA-262, 12th edition, clause
-- 15; that it is read alone is this project's own choice). Its kind and its name are given beside it.
use Rattle.std.specs.Prelude.{◌≡◌, ℕ, List, [], ◌∷◌, ◌++◌, map, None}
use Rattle.script_grammar.specs.declared.token.FuncForm.{FuncForm}
use Rattle.script_grammar.specs.declared.token.Kind.TheVariants as kind
use Rattle.script_grammar.specs.Lexeme.{Lexeme}
use Rattle.script_grammar.specs.Pieces.{whole}
use Rattle.script_grammar.specs.Script.{IsFunction}
use Rattle.script_grammar.specs.Tree.{Function}
use Rattle.script_scanner.specs.Lexemes.{lexeme_of}
use Rattle.script_scanner.specs.Tokens.{tokens}
use Rattle.unit_text.specs.Points.{points}

-- the tokens of the file between these offsets are a function of this form, and this is its tree
pub record IsReadAlone (file : List ℕ) (start end : ℕ) (form : FuncForm) (f : Function) : Type 0 where
  pub words : List Lexeme
  pub last : Lexeme
  pub split : map lexeme_of (tokens (points file) start end) ≡ words ++ last ∷ []
  pub ends : last.kind ≡ kind.End
  pub is : IsFunction whole form None 0 words last f
