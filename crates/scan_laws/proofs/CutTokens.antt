-- A text that is cut: a token that lies in front of the cut is the same as in the whole text.
use Rattle.std.proofs.Common.{◌≡◌, ℕ, suc, ◌≤◌, List, [], ◌∷◌, ◌++◌, length, Bool, true, false, cond, refl, sym, ◌∙◌, ap, Option, Some, None}
use Rattle.std.specs.Prelude.{◌&&◌, ◌||◌, ◌==◌}
use Rattle.std.specs.Char.{is_digit}
use Rattle.std.proofs.lemmas.Bool.{eqb-true}
use Rattle.unicode_ident.proofs.Computing.{unicode_ident}
use Rattle.script_grammar.specs.declared.token.Kind.TheVariants as kind
use Rattle.script_scanner.specs.declared.parts.Ending.TheVariants.{Quote, Template}
use Rattle.script_scanner.specs.Blanks.{begins}
use Rattle.script_scanner.specs.Escapes.{begins_with_digit}
use Rattle.script_scanner.specs.Marks.{mark_at}
use Rattle.script_scanner.specs.Names.{is_name_start}
use Rattle.script_scanner.specs.Numbers.{numeral_at}
use Rattle.script_scanner.specs.Parts.{body_of}
use Rattle.script_scanner.specs.Tokens.{Piece, name_piece, number_piece, string_piece, template_piece, mark_piece, token_at}
use Rattle.scan_laws.proofs.CutNumbers.{PieceWithin, PieceCut, name_within, name_cut, number_within, number_cut}
use Rattle.scan_laws.proofs.CutParts.{string_piece_within, string_cut, template_piece_within, template_cut}
use Rattle.scan_laws.proofs.CutMarks.{MayCut, point_digit, mark_within, mark_cut, point_no_mark}

either_within : (high : ℕ) (b : Bool) (o p : Option Piece) → PieceWithin high o → PieceWithin high p → PieceWithin high (cond b o p)
either_within high true o p h k = h
either_within high false o p h k = k

-- a token takes a code point at least, and no more than there are
pub token_within : (in_template : Bool) (codes : List ℕ) → PieceWithin (length codes) (token_at in_template codes)
unfolding token_at
token_within in_template [] = tt
token_within in_template (c ∷ codes) =
    either_within (suc (length codes)) (is_name_start c) (Some (name_piece (c ∷ codes))) _ (name_within c codes)
    (either_within (suc (length codes)) (is_digit c 10) (number_piece (numeral_at (c ∷ codes)) (c ∷ codes)) _ (number_within c codes)
    (either_within (suc (length codes)) ((c == 0x22) || (c == 0x27)) (string_piece (body_of (Quote c) codes)) _ (string_piece_within (Quote c) codes)
    (either_within (suc (length codes)) (c == 0x60) (template_piece kind.TemplateWhole kind.TemplateHead (body_of Template codes)) _ (template_piece_within kind.TemplateWhole kind.TemplateHead Template codes)
    (either_within (suc (length codes)) ((c == 0x7D) && in_template) (template_piece kind.TemplateTail kind.TemplateMiddle (body_of Template codes)) (mark_piece (mark_at (c ∷ codes)))
    (template_piece_within kind.TemplateTail kind.TemplateMiddle Template codes) (mark_within (c ∷ codes))))))

cut_either : (May : ℕ → Type 0) (b : Bool) (o p o_cut p_cut : Option Piece) → PieceCut May o o_cut → PieceCut May p p_cut → PieceCut May (cond b o p) (cond b o_cut p_cut)
cut_either May true o p o_cut p_cut h k = h
cut_either May false o p o_cut p_cut h k = k

-- what may be cut after it is the same in the text that is cut
pub token_cut : (in_template : Bool) (c : ℕ) (cs ds : List ℕ) → PieceCut (MayCut (c ∷ cs) ds) (token_at in_template (c ∷ (cs ++ ds))) (token_at in_template (c ∷ cs))
unfolding token_at
token_cut in_template c cs ds =
    let May : ℕ → Type 0 = MayCut (c ∷ cs) ds in
    let within : (n : ℕ) → May n → n ≤ suc (length cs) = λ n may. may.within in
    cut_either May (is_name_start c) (Some (name_piece (c ∷ (cs ++ ds)))) _ (Some (name_piece (c ∷ cs))) _ (name_cut May c cs ds within)
    (cut_either May (is_digit c 10) (number_piece (numeral_at (c ∷ (cs ++ ds))) (c ∷ (cs ++ ds))) _ (number_piece (numeral_at (c ∷ cs)) (c ∷ cs)) _ (number_cut May c cs ds within)
    (cut_either May ((c == 0x22) || (c == 0x27)) (string_piece (body_of (Quote c) (cs ++ ds))) _ (string_piece (body_of (Quote c) cs)) _ (string_cut May (Quote c) cs ds within)
    (cut_either May (c == 0x60) (template_piece kind.TemplateWhole kind.TemplateHead (body_of Template (cs ++ ds))) _ (template_piece kind.TemplateWhole kind.TemplateHead (body_of Template cs)) _ (template_cut May kind.TemplateWhole kind.TemplateHead Template cs ds within)
    (cut_either May ((c == 0x7D) && in_template) (template_piece kind.TemplateTail kind.TemplateMiddle (body_of Template (cs ++ ds))) (mark_piece (mark_at (c ∷ (cs ++ ds)))) (template_piece kind.TemplateTail kind.TemplateMiddle (body_of Template cs)) (mark_piece (mark_at (c ∷ cs)))
    (template_cut May kind.TemplateTail kind.TemplateMiddle Template cs ds within) (mark_cut (c ∷ cs) ds)))))

-- Where no token stands.

point_starts_no_name : is_name_start 0x2E ≡ false
unfolding unicode_ident
point_starts_no_name = refl

hash_starts_no_name : is_name_start 0x23 ≡ false
unfolding unicode_ident
hash_starts_no_name = refl

point_no_token : (in_template : Bool) (ds : List ℕ) → begins_with_digit ds ≡ true → token_at in_template (0x2E ∷ ds) ≡ None
unfolding token_at
point_no_token in_template ds e = ap (λ b. cond b (Some (name_piece (0x2E ∷ ds))) (mark_piece (mark_at (0x2E ∷ ds)))) point_starts_no_name ∙ ap mark_piece (point_no_mark ds e)

hash_no_token : (in_template : Bool) (ds : List ℕ) → token_at in_template (0x23 ∷ ds) ≡ None
unfolding token_at mark_at
hash_no_token in_template ds = ap (λ b. cond b (Some (name_piece (0x23 ∷ ds))) None) hash_starts_no_name

-- a token is no `.` before a digit
pub token_no_point : (in_template : Bool) (codes : List ℕ) (p : Piece) → token_at in_template codes ≡ Some p → point_digit codes ≡ false
token_no_point in_template [] p e = refl
token_no_point in_template (c ∷ codes) p e = by (c == 0x2E) (begins_with_digit codes) refl refl
  where
    by : (x y : Bool) → (c == 0x2E) ≡ x → begins_with_digit codes ≡ y → (x && y) ≡ false
    by false y f g = refl
    by true false f g = refl
    by true true f g =
        let none : token_at in_template (c ∷ codes) ≡ None = ap (λ x. token_at in_template (x ∷ codes)) (eqb-true c 0x2E f) ∙ point_no_token in_template codes g in
        let both : ◌≡◌ {A = Option Piece} None (Some p) = sym none ∙ e in
        absurd (cc)

-- and no `#!`
pub token_no_hash : (in_template : Bool) (codes : List ℕ) (p : Piece) → token_at in_template codes ≡ Some p → begins (0x23 ∷ 0x21 ∷ []) codes ≡ false
token_no_hash in_template [] p e = refl
token_no_hash in_template (c ∷ codes) p e = by (c == 0x23) refl
  where
    by : (x : Bool) → (c == 0x23) ≡ x → (x && begins (0x21 ∷ []) codes) ≡ false
    by false f = refl
    by true f =
        let none : token_at in_template (c ∷ codes) ≡ None = ap (λ x. token_at in_template (x ∷ codes)) (eqb-true c 0x23 f) ∙ hash_no_token in_template codes in
        let both : ◌≡◌ {A = Option Piece} None (Some p) = sym none ∙ e in
        absurd (cc)
