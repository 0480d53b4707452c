-- Tokens that are no script.
use Rattle.std.specs.Prelude.{◌≡◌, ℕ, List}
use Rattle.script_grammar.specs.Fault.{Refusal, FirstFault, ScriptPart}
use Rattle.script_grammar.specs.Lexeme.{Lexeme}
use Rattle.script_grammar.specs.Pieces.{whole}
use Rattle.session_specs.specs.Sources.{start_of}

-- the tokens are no script: their first fault is of this kind, at the token that starts at this offset
pub record IsFaulty (tokens : List Lexeme) (why : Refusal) (offset : ℕ) : Type 0 where
  pub token : ℕ
  pub first : FirstFault (ScriptPart whole 0) tokens token why
  pub place : offset ≡ start_of tokens token
