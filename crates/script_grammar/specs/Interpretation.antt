-- What numbers and gaps of the code's trees stand for. This is this project's own choice: the standard has neither.
use Rattle.std.specs.Prelude.{ℕ, List, [], Option, option_map, slice_index_or}
use Rattle.script_grammar.specs.declared.tree.Ident.{Ident}
use Rattle.script_grammar.specs.Tree.{Named, Stmts}

-- An interpretation gives each atom a text, by its place in a list, and each function whose body was passed over the
-- statements of that body, by the offset where its parameters start. Clauses range over all interpretations; who has
-- the texts and the bodies that were read applies them to its own.
pub record Interpretation : Type 0 where
  pub texts : List (List ℕ)
  pub bodies : ℕ → Stmts

-- the text of an atom; one that is no place in the list has the empty text
abbrev pub text_of : Interpretation → ℕ → List ℕ
text_of i atom = slice_index_or i.texts atom []

abbrev pub named : Interpretation → Ident → Named
named i ident = record { text = text_of i ident.atom; at = ident.at }

abbrev pub maybe_named : Interpretation → Option Ident → Option Named
maybe_named i = option_map (named i)
