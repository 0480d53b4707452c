-- The braces that are open in a part of a text, and those that are open in the whole text there: the same, inside those that
-- are open around the part.
use Rattle.std.proofs.Common.{◌≡◌, ℕ, ◌+◌, ◌-◌, List, [], ◌∷◌, ◌++◌, length, take, Bool, true, false, cond, refl, sym, ◌∙◌, ap, subst, arith, Option, Some, None, length-append, append_assoc, ◌⊎◌, inl, inr, option_and_then}
use Rattle.std.specs.Prelude.{◌&&◌, ◌||◌, ◌==◌, filter, slice_get}
use Rattle.std.specs.Char.{is_digit}
use Rattle.std.proofs.Math.Seq.{take-append_seam}
use Rattle.std.proofs.lemmas.Bool.{eqb-true}
use Rattle.script_grammar.specs.declared.token.Kind.{Kind}
use Rattle.script_grammar.specs.declared.token.Kind.TheVariants as kind
use Rattle.script_grammar.specs.declared.brackets.Bracket.{Bracket}
use Rattle.script_grammar.specs.declared.brackets.Bracket.TheVariants.{Paren, Square, Brace, Template}
use Rattle.script_grammar.specs.declared.brackets.BracketPart.TheVariants.{Opening, Closing, Middle, Other}
use Rattle.script_grammar.specs.Matching.{part_of, part_of_mark, is_same, next_open, all_open}
use Rattle.script_grammar.proofs.Balance.{is_same-eq}
use Rattle.script_scanner.specs.declared.braces.Brace as scanned
use Rattle.script_scanner.specs.declared.braces.Brace.TheVariants.{Block, Substitution}
use Rattle.script_scanner.specs.declared.parts.Ending.TheVariants as ending
use Rattle.script_scanner.specs.Braces.{close_brace, open_brace, is_substitution, in_substitution}
use Rattle.script_scanner.specs.Marks.{mark_at}
use Rattle.script_scanner.specs.Names.{is_name_start}
use Rattle.script_scanner.specs.Numbers.{numeral_at}
use Rattle.script_scanner.specs.Parts.{Body, body_of}
use Rattle.script_scanner.specs.Tokens.{Piece, Text, braces_after, name_piece, number_piece, string_piece, template_piece, mark_piece, token_at}
use Rattle.scan_laws.specs.Inside.{opens_or_closes_brace}

-- the token opens or closes a brace
abbrev pub moving : Kind → Bool
moving k = opens_or_closes_brace (part_of k)

-- these brackets are closed by these tokens, of which those count that open or close a brace
abbrev pub CloseAll : List Bracket → List Kind → Type 0
CloseAll s ks = all_open s (filter moving ks) ≡ Some []

-- the braces among brackets, as the scanner has them, the innermost last
abbrev pub braces_of : List Bracket → List scanned.Brace
braces_of [] = []
braces_of (Paren ∷ s) = braces_of s
braces_of (Square ∷ s) = braces_of s
braces_of (Brace ∷ s) = braces_of s ++ Block ∷ []
braces_of (Template ∷ s) = braces_of s ++ Substitution ∷ []

-- a TemplateMiddle or a TemplateTail
abbrev pub ends_substitution : Kind → Bool
ends_substitution kind.TemplateMiddle = true
ends_substitution kind.TemplateTail = true
ends_substitution _ = false

-- What is open after a token: in the whole text it is the same, inside what is open around.
pub record BraceStep (s : List Bracket) (k : Kind) (ks : List Kind) : Type 0 where
  pub stack : List Bracket
  pub closes : CloseAll stack ks
  pub after : (around : List scanned.Brace) → braces_after (around ++ braces_of s) k ≡ around ++ braces_of stack
  pub substitution : ends_substitution k ≡ true → (outer : List Bracket) × (s ≡ Template ∷ outer)

close_open : (xs : List scanned.Brace) (b : scanned.Brace) → close_brace (xs ++ b ∷ []) ≡ xs
close_open xs b = ap (λ n. take n (xs ++ b ∷ [])) (let e : length (xs ++ b ∷ []) ≡ length xs + 1 = length-append xs (b ∷ []) in let f : length (xs ++ b ∷ []) - 1 ≡ length xs = omega (arith, e) in f) ∙ take-append_seam xs (b ∷ [])

opens : (around : List scanned.Brace) (s : List Bracket) (b : scanned.Brace) → open_brace (around ++ braces_of s) b ≡ around ++ (braces_of s ++ b ∷ [])
opens around s b = append_assoc around (braces_of s) (b ∷ [])

closes_one : (around : List scanned.Brace) (s : List Bracket) (b : scanned.Brace) → close_brace (around ++ (braces_of s ++ b ∷ [])) ≡ around ++ braces_of s
closes_one around s b = ap close_brace (sym (append_assoc around (braces_of s) (b ∷ []))) ∙ close_open (around ++ braces_of s) b

-- a token that moves no brace
still : (s : List Bracket) (k : Kind) (ks : List Kind) → CloseAll s ks → ((around : List scanned.Brace) → braces_after (around ++ braces_of s) k ≡ around ++ braces_of s) → ends_substitution k ≡ false → BraceStep s k ks
still s k ks h e f = record { stack = s; closes = h; after = e; substitution = λ g. absurd (cc) }

-- what closes a bracket of one kind closes one
closed_is : (s : List Bracket) (c : Bracket) (ks : List Kind) → option_and_then (λ t. all_open t ks) (next_open s (Closing c)) ≡ Some [] → (outer : List Bracket) × (s ≡ c ∷ outer) × (all_open outer ks ≡ Some [])
closed_is [] c ks h = absurd (cc)
closed_is (b ∷ s) c ks h = by (is_same b c) refl h
  where
    by : (x : Bool) → is_same b c ≡ x → option_and_then (λ t. all_open t ks) (cond x (Some s) None) ≡ Some [] → (outer : List Bracket) × (b ∷ s ≡ c ∷ outer) × (all_open outer ks ≡ Some [])
    by true e g = (s, ap (λ x. x ∷ s) (is_same-eq b c e), g)
    by false e g = absurd (cc)

middle_is : (s : List Bracket) (ks : List Kind) → option_and_then (λ t. all_open t ks) (next_open s Middle) ≡ Some [] → (outer : List Bracket) × (s ≡ Template ∷ outer) × (all_open (Template ∷ outer) ks ≡ Some [])
middle_is [] ks h = absurd (cc)
middle_is (b ∷ s) ks h = by (is_same b Template) refl h
  where
    by : (x : Bool) → is_same b Template ≡ x → option_and_then (λ t. all_open t ks) (cond x (Some (b ∷ s)) None) ≡ Some [] → (outer : List Bracket) × (b ∷ s ≡ Template ∷ outer) × (all_open (Template ∷ outer) ks ≡ Some [])
    by true e g = let same : b ≡ Template = is_same-eq b Template e in (s, ap (λ x. x ∷ s) same, subst (λ x. all_open (x ∷ s) ks ≡ Some []) same g)
    by false e g = absurd (cc)

mark_still : (i : ℕ) → (i == 0) ≡ false → (i == 1) ≡ false → opens_or_closes_brace (part_of_mark i) ≡ false
mark_still i e f = by (i == 2) (i == 3) (i == 4) (i == 5) (i == 0) (i == 1) e f
  where
    by : (a b c d x y : Bool) → x ≡ false → y ≡ false
        → opens_or_closes_brace (cond a (Opening Paren) (cond b (Closing Paren) (cond c (Opening Square) (cond d (Closing Square) (cond x (Opening Brace) (cond y (Closing Brace) Other)))))) ≡ false
    by true b c d x y g h = refl
    by false true c d x y g h = refl
    by false false true d x y g h = refl
    by false false false true x y g h = refl
    by false false false false true y g h = absurd (cc)
    by false false false false false true g h = absurd (cc)
    by false false false false false false g h = refl

mark_step : (s : List Bracket) (i : ℕ) (ks : List Kind) → CloseAll s (kind.Mark i ∷ ks) → BraceStep s (kind.Mark i) ks
mark_step s i ks h = by (i == 0) (i == 1) refl refl
  where
    opening : i ≡ 0 → CloseAll s (kind.Mark 0 ∷ ks) → BraceStep s (kind.Mark i) ks
    opening e g = subst (λ j. BraceStep s (kind.Mark j) ks) (sym e) (record { stack = Brace ∷ s; closes = g; after = λ around. opens around s Block; substitution = λ f. absurd (cc) })

    closing : i ≡ 1 → CloseAll s (kind.Mark 1 ∷ ks) → BraceStep s (kind.Mark i) ks
    closing e g = let c : (outer : List Bracket) × (s ≡ Brace ∷ outer) × (all_open outer (filter moving ks) ≡ Some []) = closed_is s Brace (filter moving ks) g in
        subst (λ j. BraceStep s (kind.Mark j) ks) (sym e) (record {
          stack = c.0;
          closes = c.2;
          after = λ around. ap (λ (t : List Bracket). close_brace (around ++ braces_of t)) c.1 ∙ closes_one around c.0 Block;
          substitution = λ f. absurd (cc);
        })

    by : (x y : Bool) → (i == 0) ≡ x → (i == 1) ≡ y → BraceStep s (kind.Mark i) ks
    by true y e f = let is : i ≡ 0 = eqb-true i 0 e in opening is (subst (λ j. CloseAll s (kind.Mark j ∷ ks)) is h)
    by false true e f = let is : i ≡ 1 = eqb-true i 1 f in closing is (subst (λ j. CloseAll s (kind.Mark j ∷ ks)) is h)
    by false false e f = still s (kind.Mark i) ks
        (ap (λ b. all_open s (cond b (kind.Mark i ∷ filter moving ks) (filter moving ks))) (sym (mark_still i e f)) ∙ h)
        (λ around. ap (λ b. cond b (open_brace (around ++ braces_of s) Block) (cond (i == 1) (close_brace (around ++ braces_of s)) (around ++ braces_of s))) e
        ∙ ap (λ b. cond b (close_brace (around ++ braces_of s)) (around ++ braces_of s)) f)
        refl

pub brace_step : (s : List Bracket) (k : Kind) (ks : List Kind) → CloseAll s (k ∷ ks) → BraceStep s k ks
brace_step s (kind.Mark i) ks h = mark_step s i ks h
brace_step s kind.TemplateHead ks h = record { stack = Template ∷ s; closes = h; after = λ around. opens around s Substitution; substitution = λ f. absurd (cc) }
brace_step s kind.TemplateMiddle ks h = let c : (outer : List Bracket) × (s ≡ Template ∷ outer) × (all_open (Template ∷ outer) (filter moving ks) ≡ Some []) = middle_is s (filter moving ks) h in record {
  stack = Template ∷ c.0;
  closes = c.2;
  after = λ around. ap (λ (t : List Bracket). open_brace (close_brace (around ++ braces_of t)) Substitution) c.1 ∙ ap (λ (bs : List scanned.Brace). open_brace bs Substitution) (closes_one around c.0 Substitution) ∙ opens around c.0 Substitution;
  substitution = λ f. (c.0, c.1);
}
brace_step s kind.TemplateTail ks h = let c : (outer : List Bracket) × (s ≡ Template ∷ outer) × (all_open outer (filter moving ks) ≡ Some []) = closed_is s Template (filter moving ks) h in record {
  stack = c.0;
  closes = c.2;
  after = λ around. ap (λ (t : List Bracket). close_brace (around ++ braces_of t)) c.1 ∙ closes_one around c.0 Substitution;
  substitution = λ f. (c.0, c.1);
}
brace_step s kind.Name ks h = still s kind.Name ks h (λ around. refl) refl
brace_step s kind.Number ks h = still s kind.Number ks h (λ around. refl) refl
brace_step s kind.Str ks h = still s kind.Str ks h (λ around. refl) refl
brace_step s kind.TemplateWhole ks h = still s kind.TemplateWhole ks h (λ around. refl) refl
brace_step s (kind.Word i) ks h = still s (kind.Word i) ks h (λ around. refl) refl
brace_step s kind.Bad ks h = still s kind.Bad ks h (λ around. refl) refl
brace_step s kind.End ks h = still s kind.End ks h (λ around. refl) refl

-- The token at a place: only the innermost open brace is looked at.

get_last : (xs : List scanned.Brace) (b : scanned.Brace) → slice_get (xs ++ b ∷ []) (length xs) ≡ Some b
get_last [] b = refl
get_last (x ∷ xs) b = get_last xs b

innermost : (xs : List scanned.Brace) (b : scanned.Brace) → in_substitution (xs ++ b ∷ []) ≡ is_substitution (Some b)
innermost xs b = ap is_substitution (ap (slice_get (xs ++ b ∷ [])) (let e : length (xs ++ b ∷ []) ≡ length xs + 1 = length-append xs (b ∷ []) in let f : length (xs ++ b ∷ []) - 1 ≡ length xs = omega (arith, e) in f) ∙ get_last xs b)

inner_last : (around xs : List scanned.Brace) (b : scanned.Brace) → in_substitution (around ++ (xs ++ b ∷ [])) ≡ in_substitution (xs ++ b ∷ [])
inner_last around xs b = ap in_substitution (sym (append_assoc around xs (b ∷ []))) ∙ innermost (around ++ xs) b ∙ sym (innermost xs b)

inner : (around : List scanned.Brace) (s : List Bracket) → (in_substitution (around ++ braces_of s) ≡ in_substitution (braces_of s)) ⊎ (braces_of s ≡ [])
inner around [] = inr refl
inner around (Paren ∷ s) = inner around s
inner around (Square ∷ s) = inner around s
inner around (Brace ∷ s) = inl (inner_last around (braces_of s) Block)
inner around (Template ∷ s) = inl (inner_last around (braces_of s) Substitution)

-- a token that ends no substitution is there too where none is open
abbrev Outside : Option Piece → Option Piece → Type 0
Outside None out = Unit {0}
Outside (Some p) out = ends_substitution p.kind ≡ false → out ≡ Some p

outside_same : (o : Option Piece) → Outside o o
outside_same None = tt
outside_same (Some p) = λ e. refl

outside_either : (b : Bool) (o p o_out p_out : Option Piece) → Outside o o_out → Outside p p_out → Outside (cond b o p) (cond b o_out p_out)
outside_either true o p o_out p_out h k = h
outside_either false o p o_out p_out h k = k

outside_ends : (o : Option Body) (out : Option Piece) → Outside (template_piece kind.TemplateTail kind.TemplateMiddle o) out
outside_ends None out = tt
outside_ends (Some b) out = by (b.closing == 1)
  where
    by : (x : Bool) → ends_substitution (cond x kind.TemplateTail kind.TemplateMiddle) ≡ false → out ≡ Some (record { kind = cond x kind.TemplateTail kind.TemplateMiddle; value = Text b.units; length = 1 + b.inner + b.closing })
    by true e = absurd (cc)
    by false e = absurd (cc)

outside_brace : (x : Bool) (o : Option Body) (m : Option Piece) → Outside (cond (x && true) (template_piece kind.TemplateTail kind.TemplateMiddle o) m) (cond (x && false) (template_piece kind.TemplateTail kind.TemplateMiddle o) m)
outside_brace true o m = outside_ends o m
outside_brace false o m = outside_same m

outside_token : (codes : List ℕ) → Outside (token_at true codes) (token_at false codes)
unfolding token_at
outside_token [] = tt
outside_token (c ∷ codes) =
    outside_either (is_name_start c) _ _ _ _ (outside_same (Some (name_piece (c ∷ codes))))
    (outside_either (is_digit c 10) _ _ _ _ (outside_same (number_piece (numeral_at (c ∷ codes)) (c ∷ codes)))
    (outside_either ((c == 0x22) || (c == 0x27)) _ _ _ _ (outside_same (string_piece (body_of (ending.Quote c) codes)))
    (outside_either (c == 0x60) _ _ _ _ (outside_same (template_piece kind.TemplateWhole kind.TemplateHead (body_of ending.Template codes)))
    (outside_brace (c == 0x7D) (body_of ending.Template codes) (mark_piece (mark_at (c ∷ codes)))))))

plain_token : (b : Bool) (codes : List ℕ) (p : Piece) → token_at b codes ≡ Some p → ends_substitution p.kind ≡ false → token_at false codes ≡ Some p
plain_token true codes p e f = subst (λ o. Outside o (token_at false codes)) e (outside_token codes) f
plain_token false codes p e f = e

none_open : (s outer : List Bracket) → s ≡ Template ∷ outer → braces_of s ≡ [] → ⊥
none_open s outer e f =
    let g : braces_of outer ++ Substitution ∷ [] ≡ [] = ap braces_of (sym e) ∙ f in
    let size : length (braces_of outer ++ Substitution ∷ []) ≡ length (braces_of outer) + 1 = length-append (braces_of outer) (Substitution ∷ []) in
    let none : length (braces_of outer ++ Substitution ∷ []) ≡ 0 = ap length g in
    omega (arith, size, none)

pub token_inside : (around : List scanned.Brace) (s : List Bracket) (codes : List ℕ) (p : Piece) → token_at (in_substitution (around ++ braces_of s)) codes ≡ Some p
    → (ends_substitution p.kind ≡ true → (outer : List Bracket) × (s ≡ Template ∷ outer)) → token_at (in_substitution (braces_of s)) codes ≡ Some p
token_inside around s codes p e h = by (inner around s)
  where
    plain : (b : Bool) → ends_substitution p.kind ≡ b → braces_of s ≡ [] → token_at (in_substitution (braces_of s)) codes ≡ Some p
    plain true f g = let t : (outer : List Bracket) × (s ≡ Template ∷ outer) = h f in absurd (none_open s t.0 t.1 g)
    plain false f g = ap (λ (bs : List scanned.Brace). token_at (in_substitution bs) codes) g ∙ plain_token (in_substitution (around ++ braces_of s)) codes p e f

    by : (in_substitution (around ++ braces_of s) ≡ in_substitution (braces_of s)) ⊎ (braces_of s ≡ []) → token_at (in_substitution (braces_of s)) codes ≡ Some p
    by (inl same) = ap (λ b. token_at b codes) (sym same) ∙ e
    by (inr none) = plain (ends_substitution p.kind) refl none
