-- A function of a script, read from its text without what stands in the bodies of some functions directly in it.
use Rattle.std.specs.Prelude.{◌≡◌, ℕ, ◌≤◌, suc, List, [], ◌∷◌, ◌++◌, map, length, get_or, Bool, false, None}
use Rattle.script_grammar.specs.Fault.{depth_limit}
use Rattle.script_grammar.specs.Lexeme.{Lexeme}
use Rattle.script_grammar.specs.Pieces.{whole, depths}
use Rattle.script_grammar.specs.Script.{IsFunction, print_alone}
use Rattle.script_grammar.specs.Tree.{Function}
use Rattle.unit_text.specs.declared.Point.{Point}
use Rattle.unit_text.specs.Points.{points}
use Rattle.script_scanner.specs.Tokens.{part, without_first_line, tokens_within}
use Rattle.script_scanner.specs.Lexemes.{lexeme_of}
use Rattle.scan_skip_laws.specs.Spans.{Blanked}
use Rattle.scope_analysis.specs.Functions.{Inner, function_form, inner_function}
use Rattle.grammar_alone_laws.specs.Alone.{nameless}
use Rattle.grammar_skip_laws.specs.Hollow.{hollow_inside}
use Rattle.grammar_skip_laws.specs.Holes.{Hole, place_of, LeavesOut, hollow_places}
use Rattle.parse_skip_laws.specs.SkippedText.{span_of}

-- the points of a part of a file
abbrev pub text_of : List ℕ → ℕ → ℕ → List Point
text_of file from to = without_first_line from (part from to (points file))

-- These points are those of a function's text up to its end. With blanks in place of what stands in the bodies of the chosen functions
-- directly in it they are scanned to tokens, and a last one, that are the function with these bodies empty, but for its name; and
-- none of them is too deep.
pub record ReadSkipped (chosen : ℕ → Bool) (i : Inner) (end : ℕ) (text : List Point) : Type 0 where
  pub holes : List Hole
  pub places : map place_of holes ≡ hollow_places chosen (inner_function i.kind i.name i.func)
  pub all : List Lexeme
  pub left : List Lexeme
  pub last : Lexeme
  pub alone : map lexeme_of (tokens_within (suc (length text)) end [] false text) ≡ all ++ last ∷ []
  pub leaves : LeavesOut holes all left
  pub scanned : (others : List Point) → Blanked end (map span_of holes) text others
      → map lexeme_of (tokens_within (suc (length others)) end [] false others) ≡ left ++ last ∷ []
  pub is : IsFunction whole (function_form i.func) None 0 left last (hollow_inside chosen (nameless i.func))
  pub shallow : (j : ℕ) → get_or (depths (print_alone whole 0 (hollow_inside chosen (nameless i.func))) left last is.fits) j 0 ≤ depth_limit
