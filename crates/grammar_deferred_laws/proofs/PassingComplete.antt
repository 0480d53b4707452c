-- Completeness of the parser that passes bodies over: at the lexemes of a tree it reads this tree with the bodies that it is
-- given.
use Rattle.std.proofs.Common.{◌≡◌, ℕ, ◌+◌, ◌≤◌, List, [], ◌∷◌, ◌++◌, sym, ap, ◌∙◌, arith, Bool, true}
use Rattle.script_grammar.specs.declared.token.Kind.TheVariants as kind
use Rattle.script_grammar.specs.declared.token.FuncForm.{FuncForm}
use Rattle.script_grammar.specs.declared.token.mark.TheConstants as mark
use Rattle.script_grammar.specs.Lexeme.{Lexeme}
use Rattle.script_grammar.specs.Kinds.{is_mark}
use Rattle.script_grammar.specs.Tree.{Body, Stmts}
use Rattle.script_grammar.specs.Tree as tree
use Rattle.script_grammar.specs.Pieces.{Pass, mark_piece, closing_mark}
use Rattle.grammar_parser_specs.specs.Parser.{Reply, Read, Deep, head_of, put_before, after, ret}
use Rattle.grammar_parser_specs.specs.Exprs.{passed_body, passing}
use Rattle.grammar_parser_specs.specs.Stmts.{everything}
use Rattle.grammar_parser_laws.proofs.Nested.{nested_pass}
use Rattle.grammar_parser_laws.proofs.Stands.{Marked, lexemes, Stands, stands_fit}
use Rattle.grammar_parser_laws.proofs.Complete.{Parses, bare, cut, cut_append, cut_shallow, shallow}
use Rattle.grammar_complete_laws.proofs.CompleteParts.{CompleteBody}
use Rattle.grammar_complete_laws.proofs.CompleteEverything.{CompleteAll, everything_complete}
use Rattle.grammar_local_laws.proofs.Passing.{record_at, passing_here, braced_pass}
use Rattle.grammar_local_laws.proofs.PassedIn.{passed_mode}
use Rattle.grammar_local_laws.proofs.AgreesScripts.{passed_over}

open_kind : (t : Lexeme) → t.kind ≡ kind.Mark mark.OPEN_BRACE → is_mark mark.OPEN_BRACE t.kind ≡ true
open_kind t e = ap (is_mark mark.OPEN_BRACE) e

module _ (limit d : ℕ) (low : d ≤ limit) (end : ℕ) where
  -- what is passed over and the brace after it are not too deep
  close_cut : {A : Type 0} (v : List Marked) (rest : List Lexeme) (r : Reply A) → Stands (closing_mark mark.CLOSE_BRACE end d ∷ []) v (head_of rest) → cut limit v rest r ≡ r
  close_cut [] rest r h = absurd h
  close_cut (x ∷ []) rest r h = shallow limit x.depth (Deep [] (x.lexeme ∷ rest)) r (omega (arith, h.1, low))
  close_cut (x ∷ y ∷ v) rest r h = absurd h.2

  pass_cut : {A : Type 0} (w : List Marked) (rest : List Lexeme) (r : Reply A) → Stands (Pass ∷ closing_mark mark.CLOSE_BRACE end d ∷ []) w (head_of rest) → cut limit w rest r ≡ r
  pass_cut w rest r h =
      ap (λ x. cut limit x rest r) h.2
      ∙ cut_append limit h.0 h.1 rest r
      ∙ cut_shallow limit h.0 (lexemes h.1 ++ rest) (cut limit h.1 rest r) h.4
      ∙ close_cut h.1 rest r h.5

  module _ (bodies : ℕ → Body) (room : ℕ) (f : FuncForm) (start : ℕ) (simple : Bool) (items : Stmts) (same : bodies start ≡ tree.BracedBody items) where
    reads : (x : Marked) (w : List Marked) (rest : List Lexeme) → Stands (mark_piece mark.OPEN_BRACE d ∷ Pass ∷ closing_mark mark.CLOSE_BRACE end d ∷ []) (x ∷ w) (head_of rest) → bare (passing bodies room f start simple (x.lexeme ∷ (lexemes w ++ rest))) ≡ Read (passed_body (tree.BracedBody items) end) [] rest
    reads x w rest h =
        ap bare (passing_here bodies room f start simple x.lexeme (lexemes w ++ rest) (open_kind x.lexeme h.0.kind))
        ∙ ap (λ y. bare (put_before (record_at bodies room f start simple (x.lexeme ∷ (lexemes w ++ rest)) ∷ []) (after y (λ z. ret (passed_body (bodies start) z))))) (braced_pass d end (Pass ∷ []) nested_pass x.lexeme (lexemes w) (head_of rest) rest (stands_fit (mark_piece mark.OPEN_BRACE d ∷ Pass ∷ closing_mark mark.CLOSE_BRACE end d ∷ []) (x ∷ w) (head_of rest) h))
        ∙ ap (λ y. Read (passed_body y end) [] rest) same

    at : (w : List Marked) (rest : List Lexeme) → Stands (mark_piece mark.OPEN_BRACE d ∷ Pass ∷ closing_mark mark.CLOSE_BRACE end d ∷ []) w (head_of rest) → Parses limit (passing bodies room f start simple) w rest (passed_body (tree.BracedBody items) end)
    at [] rest h = absurd h
    at (x ∷ w) rest h = record {
      by =
          reads x w rest h
          ∙ sym (pass_cut w rest (Read (passed_body (tree.BracedBody items) end) [] rest) h.2)
          ∙ sym (shallow limit x.depth (Deep [] (x.lexeme ∷ (lexemes w ++ rest))) (cut limit w rest (Read (passed_body (tree.BracedBody items) end) [] rest)) (omega (arith, h.1, low)));
    }

pub passing_complete : (limit d : ℕ) → d ≤ limit → (bodies : ℕ → Body) (room : ℕ) → CompleteBody limit (passed_mode bodies) d (passing bodies room)
passing_complete limit d low bodies room = record { braced = λ f start end simple items h. record { at = λ w rest s g. at limit d low end bodies room f start simple items h.1 w rest s } }

-- all calls
pub passed_over_complete : (limit : ℕ) (bodies : ℕ → Body) (room d : ℕ) → room + d ≡ limit → CompleteAll limit (passed_mode bodies) d (everything (passed_over bodies) room)
passed_over_complete limit bodies room d e = everything_complete limit (passed_mode bodies) (passed_over bodies) (λ r x low stmt c. passing_complete limit x low bodies r) room d e
