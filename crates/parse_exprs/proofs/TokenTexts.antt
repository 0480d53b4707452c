-- The texts of tokens that have atoms.
use Rattle.std.proofs.Common.{◌≡◌, ℕ, true, refl}
use Rattle.script_grammar.specs.declared.token.Kind.{Kind}
use Rattle.script_grammar.specs.declared.token.Kind.TheVariants as kind
use Rattle.script_grammar.specs.declared.token.Token.{Token}
use Rattle.script_grammar.specs.Interpretation.{Interpretation, text_of}
use Rattle.script_grammar.specs.Kinds.{is_middle, is_tail}
use Rattle.script_grammar.specs.Lexeme as lexeme
use Rattle.script_grammar.specs.Lexeme.{lexeme_of}
use Rattle.parse_exprs.specs.Source.{has_atom}

kind_text : (i : Interpretation) (k : Kind) (v : ℕ) → has_atom k ≡ true → lexeme.text_of i.texts k v ≡ text_of i v
kind_text i kind.Name v h = refl
kind_text i kind.Number v h = absurd (cc)
kind_text i kind.Str v h = refl
kind_text i kind.TemplateWhole v h = refl
kind_text i kind.TemplateHead v h = refl
kind_text i kind.TemplateMiddle v h = refl
kind_text i kind.TemplateTail v h = refl
kind_text i (kind.Word w) v h = refl
kind_text i (kind.Mark m) v h = absurd (cc)
kind_text i kind.Bad v h = absurd (cc)
kind_text i kind.End v h = absurd (cc)

-- the text of a token that has an atom
pub atom_text : (get set : ℕ) (i : Interpretation) (t : Token) → has_atom t.kind ≡ true → (lexeme_of get set i.texts t).text ≡ text_of i t.value
atom_text get set i t h = kind_text i t.kind t.value h

pub middle_atom : (k : Kind) → is_middle k ≡ true → has_atom k ≡ true
middle_atom kind.TemplateMiddle h = refl
middle_atom kind.Name h = absurd (cc)
middle_atom kind.Number h = absurd (cc)
middle_atom kind.Str h = absurd (cc)
middle_atom kind.TemplateWhole h = absurd (cc)
middle_atom kind.TemplateHead h = absurd (cc)
middle_atom kind.TemplateTail h = absurd (cc)
middle_atom (kind.Word w) h = absurd (cc)
middle_atom (kind.Mark m) h = absurd (cc)
middle_atom kind.Bad h = absurd (cc)
middle_atom kind.End h = absurd (cc)

pub tail_atom : (k : Kind) → is_tail k ≡ true → has_atom k ≡ true
tail_atom kind.TemplateTail h = refl
tail_atom kind.Name h = absurd (cc)
tail_atom kind.Number h = absurd (cc)
tail_atom kind.Str h = absurd (cc)
tail_atom kind.TemplateWhole h = absurd (cc)
tail_atom kind.TemplateHead h = absurd (cc)
tail_atom kind.TemplateMiddle h = absurd (cc)
tail_atom (kind.Word w) h = absurd (cc)
tail_atom (kind.Mark m) h = absurd (cc)
tail_atom kind.Bad h = absurd (cc)
tail_atom kind.End h = absurd (cc)
