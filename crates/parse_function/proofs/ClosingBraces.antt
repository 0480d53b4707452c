-- A token `}` takes one byte.
use Rattle.std.proofs.Common.{◌≡◌, ◌∙◌, ℕ, zero, suc, ◌+◌, List, [], ◌∷◌, map, length, drop, Bool, true, false, cond, refl, sym, ap, subst, arith, Option, Some, None}
use Rattle.std.specs.Prelude.{◌&&◌, ◌||◌, ◌==◌, not, find, IfSome}
use Rattle.std.specs.Char.{is_digit, len_utf8}
use Rattle.std.proofs.lemmas.Bool.{eqb-true}
use Rattle.unit_text.specs.declared.Point.{Point}
use Rattle.unit_text.specs.Points.{points_from, code_of}
use Rattle.script_grammar.specs.declared.token.Kind.{Kind}
use Rattle.script_grammar.specs.declared.token.Kind.TheVariants as kind
use Rattle.script_grammar.specs.declared.token.mark.TheConstants as mark
use Rattle.script_scanner.specs.declared.blanks.Blank.{Blank}
use Rattle.script_scanner.specs.declared.braces.Brace.{Brace}
use Rattle.script_scanner.specs.declared.parts.Ending.TheVariants.{Quote, Template}
use Rattle.script_scanner.specs.Blanks.{begins, first_is}
use Rattle.script_scanner.specs.Braces.{in_substitution}
use Rattle.script_scanner.specs.Escapes.{begins_with_digit}
use Rattle.script_scanner.specs.Marks.{Mark, marks, fits, begins_no_token, mark_at}
use Rattle.script_scanner.specs.Names.{is_name_start}
use Rattle.script_scanner.specs.Numbers.{numeral_at}
use Rattle.script_scanner.specs.Parts.{Body, body_of}
use Rattle.script_scanner.specs.Tokens.{Piece, Lexed, front_of, place, then_tokens, tokens_within, name_kind, name_piece, valued_piece, number_piece, string_piece, template_piece, mark_piece, token_at, braces_after}
use Rattle.script_scanner.specs.Blanks as blanks
use Rattle.script_scanner.proofs.Lists.{and_left, find_satisfies}
use Rattle.grammar_start_laws.specs.Own.{AllOf}
use Rattle.parse_function.proofs.Slices.{size, size_more}

-- ---- the piece at a `}`

-- a piece of this kind is the first code point, and that is the brace
abbrev IsOne : List ℕ → Option Piece → Type 0
IsOne cs None = Unit {0}
IsOne cs (Some p) = p.kind ≡ kind.Mark mark.CLOSE_BRACE → (p.length ≡ 1) × (first_is 0x7D cs ≡ true)

either_one : (cs : List ℕ) (b : Bool) (o p : Option Piece) → IsOne cs o → IsOne cs p → IsOne cs (cond b o p)
either_one cs true o p h k = h
either_one cs false o p h k = k

name_no : (o : Option ℕ) → name_kind o ≡ kind.Mark mark.CLOSE_BRACE → ⊥
name_no None e = cc
name_no (Some i) e = cc

valued_one : (cs : List ℕ) (o : Option ℕ) (n : ℕ) → IsOne cs (valued_piece o n)
valued_one cs None n = tt
valued_one cs (Some v) n = λ e. absurd (cc)

string_one : (cs : List ℕ) (o : Option Body) → IsOne cs (string_piece o)
string_one cs None = tt
string_one cs (Some b) = λ e. absurd (cc)

template_one : (cs : List ℕ) (one other : Kind) → (one ≡ kind.Mark mark.CLOSE_BRACE → ⊥) → (other ≡ kind.Mark mark.CLOSE_BRACE → ⊥) → (o : Option Body) → IsOne cs (template_piece one other o)
template_one cs one other h k None = tt
template_one cs one other h k (Some b) = λ e. absurd (by (b.closing == 1) e)
  where
    by : (x : Bool) → cond x one other ≡ kind.Mark mark.CLOSE_BRACE → ⊥
    by true = h
    by false = k

-- a mark of this index is the brace alone
abbrev is_brace_mark : Mark → Bool
is_brace_mark m = not (m.index == 1) || ((length m.text == 1) && first_is 0x7D m.text)

fit_begins : (cs : List ℕ) (m : Mark) → fits cs m ≡ true → begins m.text cs ≡ true
fit_begins cs m e = by m.before_digit e
  where
    by : (b : Bool) → cond b (begins m.text cs) (begins m.text cs && not (begins_with_digit (drop (length m.text) cs))) ≡ true → begins m.text cs ≡ true
    by true f = f
    by false f = and_left (begins m.text cs) (not (begins_with_digit (drop (length m.text) cs))) f

first_there : (text : List ℕ) (cs : List ℕ) → first_is 0x7D text ≡ true → begins text cs ≡ true → first_is 0x7D cs ≡ true
first_there [] cs e f = absurd (cc)
first_there (t ∷ text) [] e f = absurd (cc)
first_there (t ∷ text) (c ∷ cs) e f = ap (λ n. 0x7D == n) (eqb-true c t (and_left (c == t) (begins text cs) f)) ∙ e

found_one : (cs : List ℕ) (o : Option Mark) → IfSome o (λ m. (fits cs m ≡ true) × (is_brace_mark m ≡ true)) → IsOne cs (mark_piece o)
found_one cs None h = tt
found_one cs (Some m) h = λ e. (eqb-true (length m.text) 1 (and_left (length m.text == 1) (first_is 0x7D m.text) (known e)), first_there m.text cs (and_right (length m.text == 1) (first_is 0x7D m.text) (known e)) (fit_begins cs m h.0))
  where
    and_right : (a b : Bool) → (a && b) ≡ true → b ≡ true
    and_right true b g = g
    and_right false b g = absurd (cc)

    by : (b : Bool) → b ≡ true → (not b || ((length m.text == 1) && first_is 0x7D m.text)) ≡ true → ((length m.text == 1) && first_is 0x7D m.text) ≡ true
    by true e f = f
    by false e f = absurd (cc)

    index_is : kind.Mark m.index ≡ kind.Mark mark.CLOSE_BRACE → (m.index == 1) ≡ true
    index_is e = let same : m.index ≡ 1 = cc in subst (λ n. (n == 1) ≡ true) (sym same) refl

    known : kind.Mark m.index ≡ kind.Mark mark.CLOSE_BRACE → ((length m.text == 1) && first_is 0x7D m.text) ≡ true
    known e = by (m.index == 1) (index_is e) h.1

mark_one : (cs : List ℕ) → IsOne cs (mark_piece (mark_at cs))
unfolding mark_at
mark_one cs = by (begins_no_token cs)
  where
    by : (b : Bool) → IsOne cs (mark_piece (cond b None (find (fits cs) marks)))
    by true = tt
    by false = found_one cs (find (fits cs) marks) (find_satisfies (fits cs) is_brace_mark marks refl)

token_one : (in_template : Bool) (cs : List ℕ) → IsOne cs (token_at in_template cs)
unfolding token_at
token_one in_template [] = tt
token_one in_template (c ∷ cs) =
    either_one (c ∷ cs) (is_name_start c) (Some (name_piece (c ∷ cs))) _ (λ e. absurd (name_no _ e))
    (either_one (c ∷ cs) (is_digit c 10) (number_piece (numeral_at (c ∷ cs)) (c ∷ cs)) _ (either_one (c ∷ cs) _ None _ tt (valued_one (c ∷ cs) (numeral_at (c ∷ cs)).value (numeral_at (c ∷ cs)).length))
    (either_one (c ∷ cs) ((c == 0x22) || (c == 0x27)) (string_piece (body_of (Quote c) cs)) _ (string_one (c ∷ cs) (body_of (Quote c) cs))
    (either_one (c ∷ cs) (c == 0x60) (template_piece kind.TemplateWhole kind.TemplateHead (body_of Template cs)) _ (template_one (c ∷ cs) kind.TemplateWhole kind.TemplateHead (λ e. cc) (λ e. cc) (body_of Template cs))
    (either_one (c ∷ cs) ((c == 0x7D) && in_template) (template_piece kind.TemplateTail kind.TemplateMiddle (body_of Template cs)) (mark_piece (mark_at (c ∷ cs)))
    (template_one (c ∷ cs) kind.TemplateTail kind.TemplateMiddle (λ e. cc) (λ e. cc) (body_of Template cs)) (mark_one (c ∷ cs))))))

-- ---- the tokens of code points that reach an offset

-- a token that closes a brace takes one byte
abbrev pub IsByte : Lexed → Type 0
IsByte t = t.kind ≡ kind.Mark mark.CLOSE_BRACE → t.end ≡ t.start + 1

module _ (to : ℕ) where
  -- these are the points of code points up to the end
  pub record Reach (ps : List Point) : Type 0 where
    pub at : ℕ
    pub codes : List ℕ
    pub are : ps ≡ points_from at codes
    pub ends : at + size codes ≡ to

  drop_from : (n at : ℕ) (cs : List ℕ) → at + size cs ≡ to → Reach (drop n (points_from at cs))
  drop_from zero at cs e = record { at = at; codes = cs; are = refl; ends = e }
  drop_from (suc n) at [] e = record { at = at; codes = []; are = refl; ends = e }
  drop_from (suc n) at (c ∷ cs) e = let more = size_more c cs in drop_from n (at + len_utf8 c) cs (omega (arith, more, e))

  pub drop_reach : (n : ℕ) (ps : List Point) → Reach ps → Reach (drop n ps)
  drop_reach n ps r = subst (λ (qs : List Point). Reach (drop n qs)) (sym r.are) (drop_from n r.at r.codes r.ends)

  next_place : (at : ℕ) (c : ℕ) (cs : List ℕ) → at + size (c ∷ cs) ≡ to → place to (points_from (at + len_utf8 c) cs) ≡ at + len_utf8 c
  next_place at c [] e = let more = size_more c [] in omega (arith, more, e)
  next_place at c (d ∷ cs) e = refl

  codes_are : (at : ℕ) (cs : List ℕ) → map code_of (points_from at cs) ≡ cs
  codes_are at [] = refl
  codes_are at (c ∷ cs) = ap (λ (ds : List ℕ). c ∷ ds) (codes_are (at + len_utf8 c) cs)

  byte_from : (at : ℕ) (cs : List ℕ) (n : ℕ) → at + size cs ≡ to → n ≡ 1 → first_is 0x7D cs ≡ true → place to (drop n (points_from at cs)) ≡ place to (points_from at cs) + 1
  byte_from at [] n e k f = absurd (cc)
  byte_from at (c ∷ cs) n e k f =
      ap (λ m. place to (drop m (points_from at (c ∷ cs)))) k ∙ next_place at c cs e ∙ ap (λ x. at + len_utf8 x) (sym (eqb-true 0x7D c f))

  -- a piece at such points
  token_byte : (in_template : Bool) (ps : List Point) (p : Piece) → Reach ps → token_at in_template (map code_of ps) ≡ Some p → p.kind ≡ kind.Mark mark.CLOSE_BRACE → place to (drop p.length ps) ≡ place to ps + 1
  token_byte in_template ps p r e k =
      let one : (p.length ≡ 1) × (first_is 0x7D r.codes ≡ true) = subst (IsOne r.codes) (ap (token_at in_template) (sym (ap (map code_of) r.are ∙ codes_are r.at r.codes)) ∙ e) (token_one in_template r.codes) k in
      subst (λ (qs : List Point). place to (drop p.length qs) ≡ place to qs + 1) (sym r.are) (byte_from r.at r.codes p.length r.ends one.0 one.1)

  step_byte : (braces : List Brace) (after : Bool) (ps : List Point) (b : Option Blank) (p : Option Piece) (rest : List Brace → Bool → List Point → List Lexed) → Reach ps → token_at (in_substitution braces) (map code_of ps) ≡ p
      → ((o : List Brace) (a : Bool) (qs : List Point) → Reach qs → AllOf IsByte (rest o a qs)) → AllOf IsByte (then_tokens to braces after ps (front_of b p) rest)
  step_byte braces after ps (Some b) p rest r e k = k braces (after || b.breaks) (drop b.length ps) (drop_reach b.length ps r)
  step_byte braces after ps None (Some p) rest r e k = (token_byte (in_substitution braces) ps p r e, k (braces_after braces p.kind) false (drop p.length ps) (drop_reach p.length ps r))
  step_byte braces after [] None None rest r e k = (λ g. absurd (cc), tt)
  step_byte braces after (p ∷ ps) None None rest r e k = (λ g. absurd (cc), tt)

  pub within_bytes : (fuel : ℕ) (braces : List Brace) (after : Bool) (ps : List Point) → Reach ps → AllOf IsByte (tokens_within fuel to braces after ps)
  within_bytes zero braces after ps r = tt
  within_bytes (suc fuel) braces after ps r = step_byte braces after ps (blanks.blank_at (map code_of ps)) (token_at (in_substitution braces) (map code_of ps)) (λ o a qs. tokens_within fuel to o a qs) r refl (λ o a qs u. within_bytes fuel o a qs u)
