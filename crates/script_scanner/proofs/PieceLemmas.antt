-- How a token is made of what was read.
use Rattle.std.proofs.Common.{◌≡◌, ℕ, ◌+◌, ◌<◌, List, [], ◌∷◌, ◌++◌, map, length, drop, get_or, Bool, true, false, cond, refl, sym, ◌∙◌, ap, subst, append_assoc, add-one}
use Rattle.std.specs.Prelude.{Option, Some, None, ◌==◌, ◌||◌, ◌&&◌}
use Rattle.std.specs.Char.{is_digit}
use Rattle.std.proofs.Math.Seq.{drop-cons}
use Rattle.script_grammar.specs.declared.token.Kind.TheVariants as kind
use Rattle.unit_text.specs.declared.Point.{Point}
use Rattle.unit_text.specs.Points.{code_of}
use Rattle.unit_text.specs.Units.{code_units, text_units}
use Rattle.script_scanner.specs.declared.parts.Ending.TheVariants.{Quote, Template}
use Rattle.script_scanner.specs.declared.numbers.Numeral.{Numeral}
use Rattle.script_scanner.specs.declared.pieces.FoundToken.{FoundToken}
use Rattle.script_scanner.specs.declared.pieces.Content.TheVariants as content
use Rattle.script_scanner.specs.Marks.{mark_at}
use Rattle.script_scanner.specs.Names.{is_name_start}
use Rattle.script_scanner.specs.Numbers.{numeral_at, is_spoiled_by}
use Rattle.script_scanner.specs.Parts.{body_of}
use Rattle.script_scanner.specs.Tokens.{Piece, name_piece, number_piece, valued_piece, string_piece, template_piece, mark_piece, token_at}
use Rattle.script_scanner.specs.Reads.{FindsPiece}

-- the units of one point more
pub units_more : (points : List Point) (i : ℕ) (d : Point) (made now whole : List ℕ) → i < length points → made ++ text_units (map code_of (drop i points)) ≡ whole
    → now ≡ made ++ code_units (get_or points i d).code → now ++ text_units (map code_of (drop (i + 1) points)) ≡ whole
units_more points i d made now whole lt before pushed =
    ap (λ (us : List ℕ). us ++ text_units (map code_of (drop (i + 1) points))) pushed
    ∙ append_assoc made (code_units (get_or points i d).code) (text_units (map code_of (drop (i + 1) points)))
    ∙ ap (λ (k : ℕ). made ++ (code_units (get_or points i d).code ++ text_units (map code_of (drop k points)))) (add-one i)
    ∙ ap (λ (ps : List Point). made ++ text_units (map code_of ps)) (sym (drop-cons points i d lt))
    ∙ before

-- a number that something spoils
pub number_spoiled : (n : Numeral) (codes units : List ℕ) → n ≡ numeral_at codes → is_spoiled_by n.is_decimal (drop n.length codes) ≡ true → FindsPiece (number_piece (numeral_at codes) codes) None units
number_spoiled n codes units is spoiled = subst (λ (m : Numeral). FindsPiece (number_piece m codes) None units) is
    (subst (λ (b : Bool). FindsPiece (cond b None (valued_piece n.value n.length)) None units) (sym spoiled) tt)

-- and one that nothing does
pub number_found : (n : Numeral) (codes : List ℕ) (value : ℕ) (units : List ℕ) → n ≡ numeral_at codes → is_spoiled_by n.is_decimal (drop n.length codes) ≡ false → n.value ≡ Some value
    → FindsPiece (number_piece (numeral_at codes) codes) (Some (record { kind = kind.Number; content = content.Number value; length = n.length })) units
number_found n codes value units is sound valued = subst (λ (m : Numeral). FindsPiece (number_piece m codes) (Some (record { kind = kind.Number; content = content.Number value; length = n.length })) units) is
    (subst (λ (b : Bool). FindsPiece (cond b None (valued_piece n.value n.length)) (Some (record { kind = kind.Number; content = content.Number value; length = n.length })) units) (sym sound)
    (subst (λ (o : Option ℕ). FindsPiece (valued_piece o n.length) (Some (record { kind = kind.Number; content = content.Number value; length = n.length })) units) (sym valued) (refl, refl, refl)))

module _ {X : Type 0} where
  choice_1 : (a : Bool) (v w : X) → a ≡ true → cond a v w ≡ v
  choice_1 a v w e = ap (λ (b : Bool). cond b v w) e

  choice_2 : (a : Bool) (v w : X) → a ≡ false → cond a v w ≡ w
  choice_2 a v w e = ap (λ (b : Bool). cond b v w) e

-- which token it is, by the first code point
pub token_is_name : (in_template : Bool) (c : ℕ) (codes : List ℕ) → is_name_start c ≡ true → token_at in_template (c ∷ codes) ≡ Some (name_piece (c ∷ codes))
unfolding token_at
token_is_name in_template c codes e = choice_1 (is_name_start c) _ _ e

pub token_is_number : (in_template : Bool) (c : ℕ) (codes : List ℕ) → is_name_start c ≡ false → is_digit c 10 ≡ true → token_at in_template (c ∷ codes) ≡ number_piece (numeral_at (c ∷ codes)) (c ∷ codes)
unfolding token_at
token_is_number in_template c codes e f = choice_2 (is_name_start c) _ _ e ∙ choice_1 (is_digit c 10) _ _ f

pub token_is_string : (in_template : Bool) (c : ℕ) (codes : List ℕ) → is_name_start c ≡ false → is_digit c 10 ≡ false → (c == 0x22) || (c == 0x27) ≡ true
    → token_at in_template (c ∷ codes) ≡ string_piece (body_of (Quote c) codes)
unfolding token_at
token_is_string in_template c codes e f g = choice_2 (is_name_start c) _ _ e ∙ choice_2 (is_digit c 10) _ _ f ∙ choice_1 ((c == 0x22) || (c == 0x27)) _ _ g

pub token_is_template : (in_template : Bool) (c : ℕ) (codes : List ℕ) → is_name_start c ≡ false → is_digit c 10 ≡ false → (c == 0x22) || (c == 0x27) ≡ false → (c == 0x60) ≡ true
    → token_at in_template (c ∷ codes) ≡ template_piece kind.TemplateWhole kind.TemplateHead (body_of Template codes)
unfolding token_at
token_is_template in_template c codes e f g h = choice_2 (is_name_start c) _ _ e ∙ choice_2 (is_digit c 10) _ _ f ∙ choice_2 ((c == 0x22) || (c == 0x27)) _ _ g ∙ choice_1 (c == 0x60) _ _ h

pub token_goes_on : (in_template : Bool) (c : ℕ) (codes : List ℕ) → is_name_start c ≡ false → is_digit c 10 ≡ false → (c == 0x22) || (c == 0x27) ≡ false → (c == 0x60) ≡ false → (c == 0x7D) && in_template ≡ true
    → token_at in_template (c ∷ codes) ≡ template_piece kind.TemplateTail kind.TemplateMiddle (body_of Template codes)
unfolding token_at
token_goes_on in_template c codes e f g h i = choice_2 (is_name_start c) _ _ e ∙ choice_2 (is_digit c 10) _ _ f ∙ choice_2 ((c == 0x22) || (c == 0x27)) _ _ g ∙ choice_2 (c == 0x60) _ _ h ∙ choice_1 ((c == 0x7D) && in_template) _ _ i

pub token_is_mark : (in_template : Bool) (c : ℕ) (codes : List ℕ) → is_name_start c ≡ false → is_digit c 10 ≡ false → (c == 0x22) || (c == 0x27) ≡ false → (c == 0x60) ≡ false → (c == 0x7D) && in_template ≡ false
    → token_at in_template (c ∷ codes) ≡ mark_piece (mark_at (c ∷ codes))
unfolding token_at
token_is_mark in_template c codes e f g h i = choice_2 (is_name_start c) _ _ e ∙ choice_2 (is_digit c 10) _ _ f ∙ choice_2 ((c == 0x22) || (c == 0x27)) _ _ g ∙ choice_2 (c == 0x60) _ _ h ∙ choice_2 ((c == 0x7D) && in_template) _ _ i

-- the token of points, by their first
pub finds_at : (in_template : Bool) (points others : List Point) (first : Point) (o : List ℕ → Option Piece) (found : Option FoundToken) (units : List ℕ) → points ≡ first ∷ others
    → token_at in_template (first.code ∷ map code_of others) ≡ o (first.code ∷ map code_of others) → FindsPiece (o (map code_of points)) found units → FindsPiece (token_at in_template (map code_of points)) found units
finds_at in_template points others first o found units split is finds =
    let all : token_at in_template (map code_of points) ≡ o (map code_of points) =
    ap (λ (ps : List Point). token_at in_template (map code_of ps)) split ∙ is ∙ ap (λ (ps : List Point). o (map code_of ps)) (sym split) in
    subst (λ (p : Option Piece). FindsPiece p found units) (sym all) finds

-- no token at the end
pub finds_none : (in_template : Bool) (points : List Point) (units : List ℕ) → points ≡ [] → FindsPiece (token_at in_template (map code_of points)) None units
unfolding token_at
finds_none in_template points units empty = subst (λ (ps : List Point). FindsPiece (token_at in_template (map code_of ps)) None units) (sym empty) tt
