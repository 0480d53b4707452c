-- What keys and names of tokens stand for, as values and facts of them.
use Rattle.std.proofs.Common.{◌≡◌, ◌∙◌, ℕ, List, Bool, true, false, refl, sym, ap, ◌||◌}
use Rattle.script_grammar.specs.declared.node.NodeKey.{NodeKey}
use Rattle.script_grammar.specs.declared.node.NodeKey.TheVariants as keys
use Rattle.script_grammar.specs.declared.token.Kind.{Kind}
use Rattle.script_grammar.specs.declared.token.Kind.TheVariants as kind
use Rattle.script_grammar.specs.declared.token.Token.{Token}
use Rattle.script_grammar.specs.declared.tree.Ident.{Ident}
use Rattle.script_grammar.specs.Interpretation.{Interpretation, named, text_of}
use Rattle.script_grammar.specs.Kinds.{is_name}
use Rattle.script_grammar.specs.Lexeme.{Lexeme, lexeme_of}
use Rattle.script_grammar.specs.Shows.{KeyOf, ShowKey}
use Rattle.script_grammar.specs.Tree.{Expr, Key}
use Rattle.grammar_parser_specs.specs.Exprs as pure
use Rattle.grammar_parser_specs.specs.Parser.{Recorded, Reply}
use Rattle.parse_exprs.specs.Answers.{ReadAs}
use Rattle.parse_exprs.specs.Source.{has_atom}
use Rattle.parse_exprs.proofs.TokenTexts.{atom_text}

pub key_read : {E : Type 0} {rs qs : List Recorded} {us : List Lexeme} {r : Reply Key} (i : Interpretation) (shows : E → Expr → Type 0) (n : NodeKey E) → KeyOf i shows n (λ a. ReadAs rs r a qs us) → (x : Key) × ShowKey i shows n x × ReadAs rs r x qs us
key_read i shows (keys.Word m) h = (_, refl, h)
key_read i shows (keys.Str m) h = (_, refl, h)
key_read i shows (keys.Number at value) h = (_, refl, h)
key_read i shows (keys.Computed e) h = (_, (h.0, h.1, refl), h.2)

pub name_atom : (k : Kind) → is_name k ≡ true → has_atom k ≡ true
name_atom kind.Name h = refl
name_atom kind.Number h = absurd (cc)
name_atom kind.Str h = absurd (cc)
name_atom kind.TemplateWhole h = absurd (cc)
name_atom kind.TemplateHead h = absurd (cc)
name_atom kind.TemplateMiddle h = absurd (cc)
name_atom kind.TemplateTail h = absurd (cc)
name_atom (kind.Word w) h = absurd (cc)
name_atom (kind.Mark m) h = absurd (cc)
name_atom kind.Bad h = absurd (cc)
name_atom kind.End h = absurd (cc)

-- the name that a token is
pub named_same : (get set : ℕ) (i : Interpretation) (t : Token) (n : Ident) → has_atom t.kind ≡ true → n.atom ≡ t.value → n.at ≡ t.start → named i n ≡ pure.named (lexeme_of get set i.texts t)
named_same get set i t n h a b =
    let text : text_of i n.atom ≡ (lexeme_of get set i.texts t).text = ap (text_of i) a ∙ sym (atom_text get set i t h) in
    let first : named i n ≡ record { text = (lexeme_of get set i.texts t).text; at = n.at } = ap (λ x. record { text = x; at = n.at }) text in
    let second : record { text = (lexeme_of get set i.texts t).text; at = n.at } ≡ pure.named (lexeme_of get set i.texts t) = ap (λ x. record { text = (lexeme_of get set i.texts t).text; at = x }) b in
    first ∙ second

-- one of two tests

pub or_first : (a b : Bool) → a ≡ true → (a || b) ≡ true
or_first a b h = ap (λ x. x || b) h

pub or_second : (a b : Bool) → b ≡ true → (a || b) ≡ true
or_second true b h = refl
or_second false b h = h

pub or_none : (a b : Bool) → a ≡ false → b ≡ false → (a || b) ≡ false
or_none true b h k = h
or_none false b h k = k
