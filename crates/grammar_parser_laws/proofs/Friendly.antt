-- Lexemes before which any semicolon may be left unwritten.
use Rattle.std.proofs.Common.{◌≡◌, List, [], ◌∷◌, ◌||◌, ◌&&◌, not, Bool, true, false, refl, sym, ap, ◌∙◌}
use Rattle.script_grammar.specs.declared.token.Kind.{Kind}
use Rattle.script_grammar.specs.declared.token.Kind.TheVariants as kind
use Rattle.script_grammar.specs.declared.token.mark.TheConstants as mark
use Rattle.script_grammar.specs.Lexeme.{Lexeme}
use Rattle.script_grammar.specs.Kinds.{is_mark, is_end, is_binary, is_whole, is_head, is_assign_mark}
use Rattle.script_grammar.specs.Pieces.{Ending, BracedArrow, Postfix, Operand, BareBinding, Keyword, DoWhile, may_omit, continues, continues_postfix}
use Rattle.grammar_parser_specs.specs.Parser.{end_lexeme}
use Rattle.grammar_parser_laws.proofs.Tests.{false_true, or_left, or_right, or_cases, mark_known}

-- the first of these lexemes, or the one after them
abbrev pub first_of : List Lexeme → Lexeme → Lexeme
first_of [] n = n
first_of (t ∷ ts) n = t

-- whatever continues some statement continues one that ends with an operand
pub record Friendly (t : Lexeme) : Type 0 where
  pub omits : may_omit Operand t ≡ true

-- a number on a line of its own, which begins the ends that mend expressions
pub record Starter (t : Lexeme) : Type 0 where
  pub friendly : Friendly t
  pub number : t.kind ≡ kind.Number

pub end_friendly : Friendly end_lexeme
end_friendly = record { omits = refl }

-- Where a part stands: after lexemes of the part that it belongs to, or at the front, where an unwritten semicolon may
-- stand before it.
pub data Spot : Type 0 where
  AtFront : Spot
  Inside : Spot

-- the tests of `may_omit`, over plain values
omits_less : (semi brace ends do_while line less more : Bool) → (less ≡ true → more ≡ true) → (not semi && (brace || ends || false || (line && not more))) ≡ true → (not semi && (brace || ends || do_while || (line && not less))) ≡ true
omits_less true brace ends do_while line less more h e = e
omits_less false true ends do_while line less more h e = refl
omits_less false false true do_while line less more h e = refl
omits_less false false false true line less more h e = refl
omits_less false false false false false less more h e = e
omits_less false false false false true false more h e = refl
omits_less false false false false true true more h e = ap not (sym (h refl)) ∙ e

postfix_less : (k : Kind) → continues_postfix k ≡ true → continues Operand k ≡ true
postfix_less k e = or_left _ (is_assign_mark k) (or_left _ (is_head k) (or_left _ (is_whole k) (or_right _ (continues_postfix k) e)))

comma_less : (k : Kind) → is_mark mark.COMMA k ≡ true → continues Operand k ≡ true
comma_less k e = postfix_less k (or_left _ (is_binary k) (or_left (is_mark mark.COMMA k) (is_mark mark.QUESTION k) e))

assign_less : (k : Kind) → is_mark mark.ASSIGN k ≡ true → continues Operand k ≡ true
assign_less k e = rw (mark_known mark.ASSIGN k e) refl

continues_less : (e : Ending) (k : Kind) → continues e k ≡ true → continues Operand k ≡ true
continues_less BracedArrow k h = comma_less k h
continues_less Postfix k h = postfix_less k h
continues_less Operand k h = h
continues_less BareBinding k h = or_cases (is_mark mark.ASSIGN k) (is_mark mark.COMMA k) h (assign_less k) (comma_less k)
continues_less Keyword k h = absurd (false_true h)
continues_less DoWhile k h = absurd (false_true h)

-- any semicolon may be left out before a friendly lexeme
pub friendly_omits : (e : Ending) (t : Lexeme) → Friendly t → may_omit e t ≡ true
friendly_omits e t f = omits_less (is_mark mark.SEMICOLON t.kind) (is_mark mark.CLOSE_BRACE t.kind) (is_end t.kind) _ t.after_line (continues e t.kind) (continues Operand t.kind) (continues_less e t.kind) f.omits
