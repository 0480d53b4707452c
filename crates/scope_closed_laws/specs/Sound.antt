-- Scripts of which the closed names are spoken of.
use Rattle.std.specs.Prelude.{◌≡◌, List, None}
use Rattle.script_grammar.specs.Lexeme.{Lexeme}
use Rattle.script_grammar.specs.Script.{IsScript}
use Rattle.script_grammar.specs.Tree.{Stmts}
use Rattle.grammar_start_laws.specs.Own.{TokensRise}
use Rattle.parse_track.specs.Notes.{early_error}
use Rattle.script_grammar.specs.NameTokens.{OfEachNameToken, IsNotThis}

-- This is the tree of a script without early errors, whose tokens start at rising offsets, and none of whose names is spelled
-- as the name by which a use of `this` goes.
pub record IsSound (items : Stmts) : Type 0 where
  pub tokens : List Lexeme
  pub end : Lexeme
  pub script : IsScript tokens end items
  pub rise : TokensRise 0 tokens
  pub names : OfEachNameToken IsNotThis tokens
  pub faultless : early_error items ≡ None
