-- A function of a script whose tokens are read alone, from its extent: from its parameters to the end of its body (ECMA-262,
-- 12th edition, clause 15; that it is read alone is this project's own choice).
use Rattle.std.specs.Prelude.{◌≡◌, ℕ, ◌+◌, ◌≤◌, List, [], ◌∷◌, ◌++◌, length, get_or, false, None}
use Rattle.script_grammar.specs.declared.token.Kind.TheVariants as kind
use Rattle.script_grammar.specs.Lexeme.{Lexeme}
use Rattle.script_grammar.specs.Pieces.{whole, depths, IsBalanced}
use Rattle.script_grammar.specs.Print.{print_stmts}
use Rattle.script_grammar.specs.Script.{IsScript, IsFunction, print_alone}
use Rattle.script_grammar.specs.Tree.{Function, function, Stmts}
use Rattle.grammar_parser_specs.specs.Exprs.{last_end}
use Rattle.scope_analysis.specs.Functions.{function_form}

abbrev pub start_of : Function → ℕ
start_of (function _ start _ _ _ _ _ _) = start

abbrev pub end_of : Function → ℕ
end_of (function _ _ end _ _ _ _ _) = end

-- the same function without its name, which its tokens from the parameters on do not show
abbrev pub nameless : Function → Function
nameless (function form start end _ ps comma bare body) = function form start end None ps comma bare body

-- the same token with no line end before it: so a token is that a text begins with
abbrev pub at_front : Lexeme → Lexeme
at_front t = record t { after_line = false }

-- These tokens in front of this one are a function with this tree but for its name; and the token of number j is no deeper
-- than `limits j`.
pub record ReadAlone (f : Function) (words : List Lexeme) (last : Lexeme) (limits : ℕ → ℕ) : Type 0 where
  pub is : IsFunction whole (function_form f) None 0 words last (nameless f)
  pub shallow : (j : ℕ) → get_or (depths (print_alone whole 0 (nameless f)) words last is.fits) j 0 ≤ limits j

-- The tokens of a function are a contiguous part of those of its script, of which none is too deep alone that is not too
-- deep there.
pub record StandsAlone (tokens : List Lexeme) (end : Lexeme) (items : Stmts) (script : IsScript tokens end items) (f : Function) : Type 0 where
  pub before : List Lexeme
  pub first : Lexeme
  pub rest : List Lexeme
  pub next : Lexeme
  pub behind : List Lexeme
  pub split : tokens ++ end ∷ [] ≡ before ++ ((first ∷ rest) ++ next ∷ behind)
  -- its extent is from the start of the first to the end of the last
  pub starts : first.start ≡ start_of f
  pub ends : last_end first.end rest ≡ end_of f
  -- in front of any End token they are this function, and so they are with no line end before the first
  pub alone : (last : Lexeme) → last.kind ≡ kind.End
      → ReadAlone f (first ∷ rest) last (λ j. get_or (depths (print_stmts whole 0 items) tokens end script.fits) (length before + j) 0)
  pub in_front : (last : Lexeme) → last.kind ≡ kind.End
      → ReadAlone f (at_front first ∷ rest) last (λ j. get_or (depths (print_stmts whole 0 items) tokens end script.fits) (length before + j) 0)
  -- each bracket that is opened or closed among them is closed or opened among them
  pub balanced : IsBalanced (first ∷ rest)
