-- A text in front of a `{`: a token that lies in it is the same whatever stands after the brace.
use Rattle.std.proofs.Common.{◌≡◌, ℕ, suc, ◌+◌, ◌≤◌, List, [], ◌∷◌, ◌++◌, length, take, drop, Bool, true, false, cond, refl, sym, ◌∙◌, ap, ap₂, subst, arith, Option, Some, None}
use Rattle.std.specs.Prelude.{◌&&◌, ◌||◌, ◌==◌, not, find, option_map}
use Rattle.std.specs.Char.{is_digit}
use Rattle.std.specs.List.{prefix_len}
use Rattle.std.proofs.lemmas.Bool.{eqb-true}
use Rattle.std.proofs.lemmas.List.{take-append-le, drop-append-le}
use Rattle.unicode_ident.proofs.Computing.{unicode_ident}
use Rattle.unit_text.specs.Units.{text_units}
use Rattle.script_grammar.specs.declared.token.Kind.TheVariants as kind
use Rattle.script_scanner.specs.declared.numbers.Numeral.{Numeral}
use Rattle.script_scanner.specs.declared.parts.Ending.TheVariants.{Quote, Template}
use Rattle.script_scanner.specs.Blanks.{begins}
use Rattle.script_scanner.specs.Escapes.{begins_with_digit}
use Rattle.script_scanner.specs.Marks.{Mark, marks, fits, begins_no_token, mark_at}
use Rattle.script_scanner.specs.Names.{is_name_start, is_name_part}
use Rattle.script_scanner.specs.Numbers.{more_digits, digits_value, radix_of, zero_literal, with_radix, after_zero, numeral_at, is_spoiled_by}
use Rattle.script_scanner.specs.Parts.{body_of}
use Rattle.script_scanner.specs.Words.{word_at, word_index}
use Rattle.script_scanner.specs.Tokens.{Piece, Text, name_kind, name_piece, valued_piece, number_piece, string_piece, template_piece, mark_piece, token_at}
use Rattle.scan_skip_laws.proofs.BehindBlanks.{prefix_front, two}
use Rattle.scan_skip_laws.proofs.BehindParts.{PieceSame, string_front, template_front}

-- ---- names

brace_in_no_name : is_name_part 0x7B ≡ false
unfolding unicode_ident
brace_in_no_name = refl

abbrev name_of : ℕ → List ℕ → Piece
name_of n front = record { kind = name_kind (option_map word_index (word_at (text_units front))); value = Text (text_units front); length = n }

name_front : (c : ℕ) (xs ds es : List ℕ) → name_piece (c ∷ (xs ++ 0x7B ∷ es)) ≡ name_piece (c ∷ (xs ++ 0x7B ∷ ds))
name_front c xs ds es =
    let front = prefix_front is_name_part brace_in_no_name xs ds es in
    let n = prefix_len is_name_part (xs ++ 0x7B ∷ ds) in
    let le : 1 + n ≤ suc (length xs) = let h = front.1 in omega (arith, h) in
    ap (λ m. name_of (1 + m) (take (1 + m) (c ∷ (xs ++ 0x7B ∷ es)))) (sym front.0)
    ∙ ap (name_of (1 + n)) (take-append-le (1 + n) (c ∷ xs) (0x7B ∷ es) le ∙ sym (take-append-le (1 + n) (c ∷ xs) (0x7B ∷ ds) le))

-- ---- digits

abbrev DigitsFront : ℕ → List ℕ → List ℕ → List ℕ → Type 0
DigitsFront radix xs ds es = (more_digits radix (xs ++ 0x7B ∷ es) ≡ more_digits radix (xs ++ 0x7B ∷ ds)) × (more_digits radix (xs ++ 0x7B ∷ ds) ≤ length xs)

no_digit : (radix : ℕ) → is_digit 0x7B radix ≡ false → (ds : List ℕ) → more_digits radix (0x7B ∷ ds) ≡ 0
no_digit radix out [] = ap (λ b. cond b 1 0) out
no_digit radix out (d ∷ ds) = ap (λ b. cond b (1 + more_digits radix (d ∷ ds)) 0) out

digits_front : (radix : ℕ) → is_digit 0x7B radix ≡ false → (xs ds es : List ℕ) → DigitsFront radix xs ds es
digits_front radix out [] ds es = (no_digit radix out es ∙ sym (no_digit radix out ds), let e : more_digits radix (0x7B ∷ ds) ≡ 0 = no_digit radix out ds in omega (arith, e))
digits_front radix out (x ∷ []) ds es = (one es ∙ sym (one ds), let e : more_digits radix (x ∷ 0x7B ∷ ds) ≡ cond (is_digit x radix) 1 0 = one ds in short (is_digit x radix) e)
  where
    one : (rest : List ℕ) → more_digits radix (x ∷ 0x7B ∷ rest) ≡ cond (is_digit x radix) 1 0
    one rest = ap (λ n. cond (is_digit x radix) (1 + n) (cond ((x == 0x5F) && is_digit 0x7B radix) (2 + more_digits radix rest) 0)) (no_digit radix out rest)
        ∙ ap (λ b. cond (is_digit x radix) 1 (cond ((x == 0x5F) && b) (2 + more_digits radix rest) 0)) out
        ∙ none (is_digit x radix) (x == 0x5F)
      where
        none : (a b : Bool) → cond a 1 (cond (b && false) (2 + more_digits radix rest) 0) ≡ cond a 1 0
        none true b = refl
        none false true = refl
        none false false = refl

    short : (b : Bool) → more_digits radix (x ∷ 0x7B ∷ ds) ≡ cond b 1 0 → more_digits radix (x ∷ 0x7B ∷ ds) ≤ 1
    short true e = omega (arith, e)
    short false e = omega (arith, e)
digits_front radix out (x ∷ y ∷ xs) ds es = by (is_digit x radix) ((x == 0x5F) && is_digit y radix) (digits_front radix out (y ∷ xs) ds es) (digits_front radix out xs ds es)
  where
    by : (a b : Bool) → DigitsFront radix (y ∷ xs) ds es → DigitsFront radix xs ds es
        → (cond a (1 + more_digits radix (y ∷ (xs ++ 0x7B ∷ es))) (cond b (2 + more_digits radix (xs ++ 0x7B ∷ es)) 0) ≡ cond a (1 + more_digits radix (y ∷ (xs ++ 0x7B ∷ ds))) (cond b (2 + more_digits radix (xs ++ 0x7B ∷ ds)) 0))
        × (cond a (1 + more_digits radix (y ∷ (xs ++ 0x7B ∷ ds))) (cond b (2 + more_digits radix (xs ++ 0x7B ∷ ds)) 0) ≤ suc (suc (length xs)))
    by true b h k = (ap (λ n. 1 + n) h.0, let le = h.1 in omega (arith, le))
    by false true h k = (ap (λ n. 2 + n) k.0, let le = k.1 in omega (arith, le))
    by false false h k = (refl, omega arith)

-- ---- numbers

abbrev literal : ℕ → ℕ → Bool → ℕ → List ℕ → Numeral
literal radix before is_decimal n front = record { length = before + n; value = digits_value radix front; is_decimal = is_decimal }

-- the same literal, which ends in front of the brace
abbrev NumeralFront : ℕ → Numeral → Numeral → Type 0
NumeralFront room here there = (there ≡ here) × (here.length ≤ room)

digits_numeral : (radix before room : ℕ) (is_decimal : Bool) → is_digit 0x7B radix ≡ false → (c : ℕ) (xs ds es : List ℕ) → before + length xs ≤ room
    → NumeralFront room (literal radix before is_decimal (more_digits radix (xs ++ 0x7B ∷ ds)) (take (1 + more_digits radix (xs ++ 0x7B ∷ ds)) (c ∷ (xs ++ 0x7B ∷ ds))))
    (literal radix before is_decimal (more_digits radix (xs ++ 0x7B ∷ es)) (take (1 + more_digits radix (xs ++ 0x7B ∷ es)) (c ∷ (xs ++ 0x7B ∷ es))))
digits_numeral radix before room is_decimal out c xs ds es fits_in =
    let front = digits_front radix out xs ds es in
    let n = more_digits radix (xs ++ 0x7B ∷ ds) in
    let le : 1 + n ≤ suc (length xs) = let h = front.1 in omega (arith, h) in (
      ap (λ m. literal radix before is_decimal m (take (1 + m) (c ∷ (xs ++ 0x7B ∷ es)))) front.0
          ∙ ap (literal radix before is_decimal n) (take-append-le (1 + n) (c ∷ xs) (0x7B ∷ es) le ∙ sym (take-append-le (1 + n) (c ∷ xs) (0x7B ∷ ds) le)),
      let h = front.1 in omega (arith, h, fits_in),
    )

either_numeral : (room : ℕ) (b : Bool) (m n m_there n_there : Numeral) → NumeralFront room m m_there → NumeralFront room n n_there → NumeralFront room (cond b m n) (cond b m_there n_there)
either_numeral room true m n m_there n_there h k = h
either_numeral room false m n m_there n_there h k = k

no_radix_digit : (x radix : ℕ) → radix_of x ≡ Some radix → is_digit 0x7B radix ≡ false
no_radix_digit x radix e = by ((x == 0x78) || (x == 0x58)) ((x == 0x6F) || (x == 0x4F)) ((x == 0x62) || (x == 0x42)) e
  where
    is : (n : ℕ) → is_digit 0x7B n ≡ false → ◌≡◌ {A = Option ℕ} (Some n) (Some radix) → is_digit 0x7B radix ≡ false
    is n out g = let same : n ≡ radix = cc in subst (λ m. is_digit 0x7B m ≡ false) same out

    by : (a b c : Bool) → cond a (Some 16) (cond b (Some 8) (cond c (Some 2) None)) ≡ Some radix → is_digit 0x7B radix ≡ false
    by true b c g = is 16 refl g
    by false true c g = is 8 refl g
    by false false true g = is 2 refl g
    by false false false g = absurd (cc)

zero_numeral : (room : ℕ) → 1 ≤ room → NumeralFront room zero_literal zero_literal
zero_numeral room le = (refl, le)

radix_front : (o : Option ℕ) → ((radix : ℕ) → o ≡ Some radix → is_digit 0x7B radix ≡ false) → (xs ds es : List ℕ) → NumeralFront (suc (suc (length xs))) (with_radix o (xs ++ 0x7B ∷ ds)) (with_radix o (xs ++ 0x7B ∷ es))
radix_front None out xs ds es = zero_numeral (suc (suc (length xs))) (omega arith)
radix_front (Some radix) out [] ds es =
    let here : (rest : List ℕ) → with_radix (Some radix) (0x7B ∷ rest) ≡ zero_literal = λ rest. ap (λ b. cond b (record { length = 3 + more_digits radix rest; value = digits_value radix (take (1 + more_digits radix rest) (0x7B ∷ rest)); is_decimal = false }) zero_literal) (out radix refl) in
    (here es ∙ sym (here ds), subst (λ (n : Numeral). n.length ≤ 2) (sym (here ds)) (omega arith))
radix_front (Some radix) out (x ∷ xs) ds es =
    either_numeral (suc (suc (suc (length xs)))) (is_digit x radix) _ zero_literal _ zero_literal (digits_numeral radix 3 (suc (suc (suc (length xs)))) false (out radix refl) x xs ds es (omega arith)) (zero_numeral (suc (suc (suc (length xs)))) (omega arith))

zero_front : (xs ds es : List ℕ) → NumeralFront (suc (length xs)) (after_zero (xs ++ 0x7B ∷ ds)) (after_zero (xs ++ 0x7B ∷ es))
zero_front [] ds es = zero_numeral 1 (omega arith)
zero_front (x ∷ xs) ds es = radix_front (radix_of x) (no_radix_digit x) xs ds es

numeral_front : (c : ℕ) (xs ds es : List ℕ) → NumeralFront (suc (length xs)) (numeral_at (c ∷ (xs ++ 0x7B ∷ ds))) (numeral_at (c ∷ (xs ++ 0x7B ∷ es)))
numeral_front c xs ds es = either_numeral (suc (length xs)) (c == 0x30) (after_zero (xs ++ 0x7B ∷ ds)) _ (after_zero (xs ++ 0x7B ∷ es)) _ (zero_front xs ds es) (digits_numeral 10 1 (suc (length xs)) true refl c xs ds es (omega arith))

spoiled_first : (is_decimal : Bool) (ys ds es : List ℕ) → is_spoiled_by is_decimal (ys ++ 0x7B ∷ es) ≡ is_spoiled_by is_decimal (ys ++ 0x7B ∷ ds)
spoiled_first is_decimal [] ds es = refl
spoiled_first is_decimal (y ∷ ys) ds es = refl

number_front : (c : ℕ) (xs ds es : List ℕ) → number_piece (numeral_at (c ∷ (xs ++ 0x7B ∷ es))) (c ∷ (xs ++ 0x7B ∷ es)) ≡ number_piece (numeral_at (c ∷ (xs ++ 0x7B ∷ ds))) (c ∷ (xs ++ 0x7B ∷ ds))
number_front c xs ds es =
    let front = numeral_front c xs ds es in
    let n = numeral_at (c ∷ (xs ++ 0x7B ∷ ds)) in
    let le : n.length ≤ length (c ∷ xs) = front.1 in
    ap (λ m. number_piece m (c ∷ (xs ++ 0x7B ∷ es))) front.0
    ∙ ap (λ b. cond b None (valued_piece n.value n.length))
    (ap (is_spoiled_by n.is_decimal) (drop-append-le n.length (c ∷ xs) (0x7B ∷ es) le) ∙ spoiled_first n.is_decimal (drop n.length (c ∷ xs)) ds es ∙ sym (ap (is_spoiled_by n.is_decimal) (drop-append-le n.length (c ∷ xs) (0x7B ∷ ds) le)))

-- ---- marks, of which none has a brace after its first code point

-- each of these is looked for with the same answer
abbrev SameMarks : (Mark → Bool) → (Mark → Bool) → List Mark → Type 0
SameMarks p q [] = Unit {0}
SameMarks p q (m ∷ ms) = (p m ≡ q m) × SameMarks p q ms

same_find : (p q : Mark → Bool) (ms : List Mark) → SameMarks p q ms → find p ms ≡ find q ms
same_find p q [] h = refl
same_find p q (m ∷ ms) h = ap (λ b. cond b (Some m) (find p ms)) h.0 ∙ ap (λ o. cond (q m) (Some m) o) (same_find p q ms h.1)

single_marks : (c : ℕ) (ds es : List ℕ) → SameMarks (fits (c ∷ 0x7B ∷ es)) (fits (c ∷ 0x7B ∷ ds)) marks
single_marks c ds es = (
  refl,
  (
    refl,
    (
      refl,
      (
        refl,
        (
          refl,
          (
            refl,
            (
              refl,
              (
                refl,
                (
                  refl,
                  (
                    refl,
                    (
                      refl,
                      (
                        refl,
                        (
                          refl,
                          (
                            refl,
                            (
                              refl,
                              (
                                refl,
                                (
                                  refl,
                                  (
                                    refl,
                                    (
                                      refl,
                                      (
                                        refl,
                                        (
                                          refl,
                                          (
                                            refl,
                                            (
                                              refl,
                                              (
                                                refl,
                                                (
                                                  refl,
                                                  (
                                                    refl,
                                                    (
                                                      refl,
                                                      (
                                                        refl,
                                                        (
                                                          refl,
                                                          (
                                                            refl,
                                                            (
                                                              refl,
                                                              (
                                                                refl,
                                                                (
                                                                  question (c == 0x3F),
                                                                  (
                                                                    refl,
                                                                    (
                                                                      refl,
                                                                      (
                                                                        refl,
                                                                        (
                                                                          refl,
                                                                          (
                                                                            refl,
                                                                            (
                                                                              refl,
                                                                              (
                                                                                refl,
                                                                                (
                                                                                  refl,
                                                                                  (
                                                                                    refl,
                                                                                    (
                                                                                      refl,
                                                                                      (
                                                                                        refl,
                                                                                        (
                                                                                          refl,
                                                                                          (
                                                                                            refl,
                                                                                            (
                                                                                              refl,
                                                                                              (
                                                                                                refl,
                                                                                                (
                                                                                                  refl,
                                                                                                  (
                                                                                                    refl,
                                                                                                    (
                                                                                                      refl,
                                                                                                      (
                                                                                                        refl,
                                                                                                        (
                                                                                                          refl,
                                                                                                          (
                                                                                                            refl,
                                                                                                            (
                                                                                                              refl,
                                                                                                              (
                                                                                                                refl,
                                                                                                                (refl, tt),
                                                                                                              ),
                                                                                                            ),
                                                                                                          ),
                                                                                                        ),
                                                                                                      ),
                                                                                                    ),
                                                                                                  ),
                                                                                                ),
                                                                                              ),
                                                                                            ),
                                                                                          ),
                                                                                        ),
                                                                                      ),
                                                                                    ),
                                                                                  ),
                                                                                ),
                                                                              ),
                                                                            ),
                                                                          ),
                                                                        ),
                                                                      ),
                                                                    ),
                                                                  ),
                                                                ),
                                                              ),
                                                            ),
                                                          ),
                                                        ),
                                                      ),
                                                    ),
                                                  ),
                                                ),
                                              ),
                                            ),
                                          ),
                                        ),
                                      ),
                                    ),
                                  ),
                                ),
                              ),
                            ),
                          ),
                        ),
                      ),
                    ),
                  ),
                ),
              ),
            ),
          ),
        ),
      ),
    ),
  ),
)
  where
    question : (b : Bool) → ((b && false) && not (begins_with_digit es)) ≡ ((b && false) && not (begins_with_digit ds))
    question true = refl
    question false = refl

mark_front : (c : ℕ) (xs ds es : List ℕ) → mark_at (c ∷ (xs ++ 0x7B ∷ es)) ≡ mark_at (c ∷ (xs ++ 0x7B ∷ ds))
unfolding mark_at
mark_front c [] ds es = ap (λ o. cond (begins_no_token (c ∷ 0x7B ∷ ds)) None o) (same_find (fits (c ∷ 0x7B ∷ es)) (fits (c ∷ 0x7B ∷ ds)) marks (single_marks c ds es))
mark_front c (x ∷ []) ds es = refl
mark_front c (x ∷ y ∷ []) ds es = refl
mark_front c (x ∷ y ∷ z ∷ xs) ds es = refl

-- ---- tokens

piece_either : (room : ℕ) (b : Bool) (o p o_there p_there : Option Piece) → PieceSame room o o_there → PieceSame room p p_there → PieceSame room (cond b o p) (cond b o_there p_there)
piece_either room true o p o_there p_there h k = h
piece_either room false o p o_there p_there h k = k

piece_self : (room : ℕ) (o there : Option Piece) → there ≡ o → PieceSame room o there
piece_self room None there e = tt
piece_self room (Some p) there e = λ le. e

token_same : (in_template : Bool) (c : ℕ) (xs ds es : List ℕ) → PieceSame (suc (length xs)) (token_at in_template (c ∷ (xs ++ 0x7B ∷ ds))) (token_at in_template (c ∷ (xs ++ 0x7B ∷ es)))
unfolding token_at
token_same in_template c xs ds es =
    let room = suc (length xs) in
    piece_either room (is_name_start c) (Some (name_piece (c ∷ (xs ++ 0x7B ∷ ds)))) _ (Some (name_piece (c ∷ (xs ++ 0x7B ∷ es)))) _ (λ le. ap Some (name_front c xs ds es))
    (piece_either room (is_digit c 10) (number_piece (numeral_at (c ∷ (xs ++ 0x7B ∷ ds))) (c ∷ (xs ++ 0x7B ∷ ds))) _ (number_piece (numeral_at (c ∷ (xs ++ 0x7B ∷ es))) (c ∷ (xs ++ 0x7B ∷ es))) _ (piece_self room _ _ (number_front c xs ds es))
    (piece_either room ((c == 0x22) || (c == 0x27)) (string_piece (body_of (Quote c) (xs ++ 0x7B ∷ ds))) _ (string_piece (body_of (Quote c) (xs ++ 0x7B ∷ es))) _ (string_front (Quote c) xs ds es)
    (piece_either room (c == 0x60) (template_piece kind.TemplateWhole kind.TemplateHead (body_of Template (xs ++ 0x7B ∷ ds))) _ (template_piece kind.TemplateWhole kind.TemplateHead (body_of Template (xs ++ 0x7B ∷ es))) _ (template_front kind.TemplateWhole kind.TemplateHead Template xs ds es)
    (piece_either room ((c == 0x7D) && in_template) (template_piece kind.TemplateTail kind.TemplateMiddle (body_of Template (xs ++ 0x7B ∷ ds))) (mark_piece (mark_at (c ∷ (xs ++ 0x7B ∷ ds)))) (template_piece kind.TemplateTail kind.TemplateMiddle (body_of Template (xs ++ 0x7B ∷ es))) (mark_piece (mark_at (c ∷ (xs ++ 0x7B ∷ es))))
    (template_front kind.TemplateTail kind.TemplateMiddle Template xs ds es) (piece_self room _ _ (ap mark_piece (mark_front c xs ds es)))))))

-- a token in front of the brace
pub token_front : (in_template : Bool) (xs ds es : List ℕ) (p : Piece) → 1 ≤ p.length → token_at in_template (xs ++ 0x7B ∷ ds) ≡ Some p → p.length ≤ length xs → token_at in_template (xs ++ 0x7B ∷ es) ≡ Some p
token_front in_template [] ds es p some e le = absurd (omega (arith, some, le))
token_front in_template (c ∷ xs) ds es p some e le = subst (λ o. PieceSame (suc (length xs)) o (token_at in_template (c ∷ (xs ++ 0x7B ∷ es)))) e (token_same in_template c xs ds es) le

-- ---- no token begins where a comment is open

slash_starts_no_name : is_name_start 0x2F ≡ false
unfolding unicode_ident
slash_starts_no_name = refl

star_no_token : (in_template : Bool) (codes : List ℕ) → token_at in_template (0x2F ∷ 0x2A ∷ codes) ≡ None
unfolding token_at mark_at
star_no_token in_template codes = ap (λ b. cond b (Some (name_piece (0x2F ∷ 0x2A ∷ codes))) None) slash_starts_no_name

pub token_no_star : (in_template : Bool) (codes : List ℕ) (p : Piece) → token_at in_template codes ≡ Some p → two 0x2F 0x2A codes ≡ false
token_no_star in_template [] p e = refl
token_no_star in_template (c ∷ []) p e = by (c == 0x2F)
  where
    by : (b : Bool) → (b && false) ≡ false
    by true = refl
    by false = refl
token_no_star in_template (c ∷ d ∷ codes) p e = by (c == 0x2F) (d == 0x2A) refl refl
  where
    by : (a b : Bool) → (c == 0x2F) ≡ a → (d == 0x2A) ≡ b → (a && (b && true)) ≡ false
    by false b f g = refl
    by true false f g = refl
    by true true f g =
        let none : token_at in_template (c ∷ d ∷ codes) ≡ None = ap (λ x. token_at in_template (x ∷ d ∷ codes)) (eqb-true c 0x2F f) ∙ ap (λ x. token_at in_template (0x2F ∷ x ∷ codes)) (eqb-true d 0x2A g) ∙ star_no_token in_template codes in
        let both : ◌≡◌ {A = Option Piece} None (Some p) = sym none ∙ e in
        absurd (cc)
