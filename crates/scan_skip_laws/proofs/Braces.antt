-- What is a `{`, and which braces are open after tokens that close those that they open.
use Rattle.std.proofs.Common.{◌≡◌, ℕ, suc, ◌≤◌, List, [], ◌∷◌, ◌++◌, length, drop, codes, Bool, true, false, cond, refl, sym, ◌∙◌, ap, subst, Option, Some, None, append-nil}
use Rattle.std.specs.Prelude.{◌&&◌, ◌||◌, ◌==◌, not, find, IfSome, option_map, nat_eq}
use Rattle.std.specs.Char.{is_digit}
use Rattle.std.specs.List.{list_all}
use Rattle.std.proofs.lemmas.Bool.{eqb-true}
use Rattle.unicode_ident.proofs.Computing.{unicode_ident}
use Rattle.script_grammar.specs.declared.brackets.Bracket.{Bracket}
use Rattle.script_grammar.specs.declared.token.Kind.{Kind}
use Rattle.script_grammar.specs.declared.token.Kind.TheVariants as kind
use Rattle.script_grammar.specs.declared.token.mark.TheConstants as mark
use Rattle.script_scanner.specs.declared.braces.Brace as scanned
use Rattle.script_scanner.specs.declared.parts.Ending.TheVariants.{Quote, Template}
use Rattle.script_scanner.specs.Blanks.{begins, first_is}
use Rattle.script_scanner.specs.Escapes.{begins_with_digit}
use Rattle.script_scanner.specs.Marks.{Mark, marks, fits, begins_no_token, mark_at}
use Rattle.script_scanner.specs.Names.{is_name_start}
use Rattle.script_scanner.specs.Numbers.{numeral_at, is_spoiled_by}
use Rattle.script_scanner.specs.Parts.{Body, body_of}
use Rattle.script_scanner.specs.Words.{word_at, word_index}
use Rattle.script_scanner.specs.Tokens.{Piece, Nothing, name_kind, name_piece, valued_piece, number_piece, string_piece, template_piece, mark_piece, token_at, braces_after}
use Rattle.script_scanner.proofs.Lists.{and_left, find_satisfies}
use Rattle.scan_laws.proofs.OpenBraces.{CloseAll, braces_of, brace_step}
use Rattle.scan_skip_laws.proofs.Readings.{open_after}

-- ---- the token at a brace

abbrev pub brace_piece : Piece
brace_piece = record { kind = kind.Mark mark.OPEN_BRACE; value = Nothing; length = 1 }

brace_starts_no_name : is_name_start 0x7B ≡ false
unfolding unicode_ident
brace_starts_no_name = refl

pub brace_token : (in_template : Bool) (cs : List ℕ) → token_at in_template (0x7B ∷ cs) ≡ Some brace_piece
unfolding token_at mark_at
brace_token in_template cs = ap (λ b. cond b (Some (name_piece (0x7B ∷ cs))) (Some brace_piece)) brace_starts_no_name

-- ---- no other token is one

abbrev NoBrace : Option Piece → Type 0
NoBrace None = Unit {0}
NoBrace (Some p) = p.kind ≡ kind.Mark mark.OPEN_BRACE → ⊥

either_no : (b : Bool) (o p : Option Piece) → NoBrace o → NoBrace p → NoBrace (cond b o p)
either_no true o p h k = h
either_no false o p h k = k

name_no : (o : Option ℕ) → name_kind o ≡ kind.Mark mark.OPEN_BRACE → ⊥
name_no None e = cc
name_no (Some i) e = cc

valued_no : (o : Option ℕ) (n : ℕ) → NoBrace (valued_piece o n)
valued_no None n = tt
valued_no (Some v) n = λ e. cc

string_no : (o : Option Body) → NoBrace (string_piece o)
string_no None = tt
string_no (Some b) = λ e. cc

template_no : (one other : Kind) → (one ≡ kind.Mark mark.OPEN_BRACE → ⊥) → (other ≡ kind.Mark mark.OPEN_BRACE → ⊥) → (o : Option Body) → NoBrace (template_piece one other o)
template_no one other h k None = tt
template_no one other h k (Some b) = by (b.closing == 1)
  where
    by : (x : Bool) → cond x one other ≡ kind.Mark mark.OPEN_BRACE → ⊥
    by true = h
    by false = k

-- a mark of this index begins with the brace
abbrev is_brace_mark : Mark → Bool
is_brace_mark m = not (m.index == 0) || first_is 0x7B m.text

fit_begins : (cs : List ℕ) (m : Mark) → fits cs m ≡ true → begins m.text cs ≡ true
fit_begins cs m e = by m.before_digit e
  where
    by : (b : Bool) → cond b (begins m.text cs) (begins m.text cs && not (begins_with_digit (drop (length m.text) cs))) ≡ true → begins m.text cs ≡ true
    by true f = f
    by false f = and_left (begins m.text cs) (not (begins_with_digit (drop (length m.text) cs))) f

first_there : (text : List ℕ) (c : ℕ) (cs : List ℕ) → first_is 0x7B text ≡ true → begins text (c ∷ cs) ≡ true → c ≡ 0x7B
first_there [] c cs e f = absurd (cc)
first_there (t ∷ text) c cs e f = eqb-true c t (and_left (c == t) (begins text cs) f) ∙ sym (eqb-true 0x7B t e)

found_no : (c : ℕ) (cs : List ℕ) → (c ≡ 0x7B → ⊥) → (o : Option Mark) → IfSome o (λ m. (fits (c ∷ cs) m ≡ true) × (is_brace_mark m ≡ true)) → NoBrace (mark_piece o)
found_no c cs other None h = tt
found_no c cs other (Some m) h = λ e. other (first_there m.text c cs (by (m.index == 0) (index_is e) h.1) (fit_begins (c ∷ cs) m h.0))
  where
    index_is : kind.Mark m.index ≡ kind.Mark mark.OPEN_BRACE → (m.index == 0) ≡ true
    index_is e = let same : m.index ≡ 0 = cc in subst (λ n. (n == 0) ≡ true) (sym same) refl

    by : (b : Bool) → b ≡ true → (not b || first_is 0x7B m.text) ≡ true → first_is 0x7B m.text ≡ true
    by true e f = f
    by false e f = absurd (cc)

mark_no : (c : ℕ) (cs : List ℕ) → (c ≡ 0x7B → ⊥) → NoBrace (mark_piece (mark_at (c ∷ cs)))
unfolding mark_at
mark_no c cs other = by (begins_no_token (c ∷ cs))
  where
    by : (b : Bool) → NoBrace (mark_piece (cond b None (find (fits (c ∷ cs)) marks)))
    by true = tt
    by false = found_no c cs other (find (fits (c ∷ cs)) marks) (find_satisfies (fits (c ∷ cs)) is_brace_mark marks refl)

token_no : (in_template : Bool) (c : ℕ) (cs : List ℕ) → (c ≡ 0x7B → ⊥) → NoBrace (token_at in_template (c ∷ cs))
unfolding token_at
token_no in_template c cs other =
    either_no (is_name_start c) (Some (name_piece (c ∷ cs))) _ (λ e. name_no _ e)
    (either_no (is_digit c 10) (number_piece (numeral_at (c ∷ cs)) (c ∷ cs)) _ (either_no _ None _ tt (valued_no (numeral_at (c ∷ cs)).value (numeral_at (c ∷ cs)).length))
    (either_no ((c == 0x22) || (c == 0x27)) (string_piece (body_of (Quote c) cs)) _ (string_no (body_of (Quote c) cs))
    (either_no (c == 0x60) (template_piece kind.TemplateWhole kind.TemplateHead (body_of Template cs)) _ (template_no kind.TemplateWhole kind.TemplateHead (λ e. cc) (λ e. cc) (body_of Template cs))
    (either_no ((c == 0x7D) && in_template) (template_piece kind.TemplateTail kind.TemplateMiddle (body_of Template cs)) (mark_piece (mark_at (c ∷ cs)))
    (template_no kind.TemplateTail kind.TemplateMiddle (λ e. cc) (λ e. cc) (body_of Template cs)) (mark_no c cs other)))))

none_at_end : (in_template : Bool) (p : Piece) → token_at in_template [] ≡ Some p → ⊥
unfolding token_at
none_at_end in_template p e = cc

pub record AtBrace (cs : List ℕ) (p : Piece) : Type 0 where
  pub rest : List ℕ
  pub begins : cs ≡ 0x7B ∷ rest
  pub is : p ≡ brace_piece

pub at_brace : (in_template : Bool) (cs : List ℕ) (p : Piece) → token_at in_template cs ≡ Some p → p.kind ≡ kind.Mark mark.OPEN_BRACE → AtBrace cs p
at_brace in_template [] p e k = absurd (none_at_end in_template p e)
at_brace in_template (c ∷ cs) p e k = by (c == 0x7B) refl
  where
    by : (b : Bool) → (c == 0x7B) ≡ b → AtBrace (c ∷ cs) p
    by true f =
        let same : c ≡ 0x7B = eqb-true c 0x7B f in
        let both : ◌≡◌ {A = Option Piece} (Some brace_piece) (Some p) = sym (brace_token in_template cs) ∙ ap (λ x. token_at in_template (x ∷ cs)) (sym same) ∙ e in
        record { rest = cs; begins = ap (λ x. x ∷ cs) same; is = cc }
    by false f = absurd (subst NoBrace e (token_no in_template c cs (λ g. let t : ◌≡◌ {A = Bool} true false = ap (λ x. x == 0x7B) (sym g) ∙ f in cc)) k)

-- ---- what is open

closed_end : (s : List Bracket) → ◌≡◌ {A = Option (List Bracket)} (Some s) (Some []) → s ≡ []
closed_end s e = cc

open_around : (around : List scanned.Brace) (s : List Bracket) (ks : List Kind) → CloseAll s ks → open_after (around ++ braces_of s) ks ≡ around
open_around around s [] h = ap (λ x. around ++ braces_of x) (closed_end s h) ∙ append-nil around
open_around around s (k ∷ ks) h =
    let step = brace_step s k ks h in
    ap (λ bs. open_after bs ks) (step.after around) ∙ open_around around step.stack ks step.closes

pub open_again : (around : List scanned.Brace) (ks : List Kind) → CloseAll [] ks → open_after around ks ≡ around
open_again around ks h = ap (λ bs. open_after bs ks) (sym (append-nil around)) ∙ open_around around [] ks h
