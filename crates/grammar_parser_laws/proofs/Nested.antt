-- The lexemes of a tree have their brackets matched: after them the same brackets are open as before.
use Rattle.std.proofs.Common.{◌≡◌, ℕ, zero, suc, ◌≤◌, ◌<◌, List, [], ◌∷◌, ◌++◌, refl, sym, ap, ◌∙◌, subst, arith, append_assoc, Bool, true, false, ◌||◌, nat_eq, nat_le, Option, Some, None, if◌then◌else◌}
use Rattle.std.proofs.lemmas.Bool.{eqb-true, ne_eqb, leb-true, leb-false}
use Rattle.script_grammar.specs.declared.token.Kind.{Kind}
use Rattle.script_grammar.specs.declared.token.Kind.TheVariants as kind
use Rattle.script_grammar.specs.declared.token.FuncForm.{FuncForm}
use Rattle.script_grammar.specs.declared.token.mark.TheConstants as mark
use Rattle.script_grammar.specs.declared.token.word.TheConstants as word
use Rattle.script_grammar.specs.Lexeme.{Lexeme}
use Rattle.script_grammar.specs.Kinds.{is_any_word, is_prefix_op, op_kind, op_level, mark_level, is_arrow_form, between}
use Rattle.script_grammar.specs.Tree.{Named}
use Rattle.script_grammar.specs.Pieces.{Piece, At, Gap, Pass, Slot, Is, IsWanted, Ending, Exactly, AnyWord, Fits, Opener, paren, bracket, brace, template, open_behind, open_at_end, closed, closes, reopened, IsBalanced, glue, from, until, comma_piece, semi_piece, mark_piece, placed, glued_mark}
use Rattle.script_grammar.specs.Print
use Rattle.grammar_parser_laws.proofs.Fitting.{fits_part}
use Rattle.grammar_parser_laws.proofs.Tests.{false_true, or_cases, and_left}

-- brackets that are open after lexemes

pub open_step : (os qs : List Opener) (t : Lexeme) (ts : List Lexeme) → open_behind t.kind os ≡ Some qs → open_at_end os (t ∷ ts) ≡ open_at_end qs ts
open_step os qs t ts e = ap (λ o. elim o [ None ↦ None | Some x ↦ open_at_end x ts ]) e

pub open_append : (u : List Lexeme) (os qs : List Opener) (v : List Lexeme) → open_at_end os u ≡ Some qs → open_at_end os (u ++ v) ≡ open_at_end qs v
open_append [] os qs v e = ap (λ o. elim o [ None ↦ None | Some x ↦ open_at_end x v ]) e
open_append (t ∷ u) os qs v e = past (open_behind t.kind os) (λ x. open_append u x qs v) e
  where
    past : (o : Option (List Opener)) → ((x : List Opener) → open_at_end x u ≡ Some qs → open_at_end x (u ++ v) ≡ open_at_end qs v) → (elim o [ None ↦ None | Some x ↦ open_at_end x u ]) ≡ Some qs → (elim o [ None ↦ None | Some x ↦ open_at_end x (u ++ v) ]) ≡ open_at_end qs v
    past None h e = absurd (cc)
    past (Some x) h e = h x e

-- what matches on its own matches where more is open

deeper_closed : (o : Opener) (ps qs os : List Opener) → closed o ps ≡ Some qs → closed o (ps ++ os) ≡ Some (qs ++ os)
deeper_closed o [] qs os e = absurd (cc)
deeper_closed o (p ∷ ps) qs os e = either (closes o p) e
  where
    either : (b : Bool) → (if b then Some ps else None) ≡ Some qs → (if b then Some (ps ++ os) else None) ≡ Some (qs ++ os)
    either true e = ap (λ x. elim x [ None ↦ None | Some y ↦ Some (y ++ os) ]) e
    either false e = absurd (cc)

deeper_same : (ps qs os : List Opener) → ◌≡◌ {A = Option (List Opener)} (Some ps) (Some qs) → ◌≡◌ {A = Option (List Opener)} (Some (ps ++ os)) (Some (qs ++ os))
deeper_same ps qs os e = ap (λ x. elim x [ None ↦ None | Some y ↦ Some (y ++ os) ]) e

deeper_mark : (i : ℕ) (ps qs os : List Opener) (a b c d e f : Bool) → (if a then Some (paren ∷ ps) else if b then closed paren ps else if c then Some (bracket ∷ ps) else if d then closed bracket ps else if e then Some (brace ∷ ps) else if f then closed brace ps else Some ps) ≡ Some qs → (if a then Some (paren ∷ (ps ++ os)) else if b then closed paren (ps ++ os) else if c then Some (bracket ∷ (ps ++ os)) else if d then closed bracket (ps ++ os) else if e then Some (brace ∷ (ps ++ os)) else if f then closed brace (ps ++ os) else Some (ps ++ os)) ≡ Some (qs ++ os)
deeper_mark i ps qs os true b c d e f h = deeper_same (paren ∷ ps) qs os h
deeper_mark i ps qs os false true c d e f h = deeper_closed paren ps qs os h
deeper_mark i ps qs os false false true d e f h = deeper_same (bracket ∷ ps) qs os h
deeper_mark i ps qs os false false false true e f h = deeper_closed bracket ps qs os h
deeper_mark i ps qs os false false false false true f h = deeper_same (brace ∷ ps) qs os h
deeper_mark i ps qs os false false false false false true h = deeper_closed brace ps qs os h
deeper_mark i ps qs os false false false false false false h = deeper_same ps qs os h

deeper_reopened : (ps qs os : List Opener) (x y : Option (List Opener)) → ((zs : List Opener) → x ≡ Some zs → y ≡ Some (zs ++ os)) → reopened ps x ≡ Some qs → reopened (ps ++ os) y ≡ Some (qs ++ os)
deeper_reopened ps qs os None y h e = absurd (cc)
deeper_reopened ps qs os (Some zs) y h e = ap (λ z. reopened (ps ++ os) z) (h zs refl) ∙ deeper_same ps qs os e

pub deeper_behind : (k : Kind) (ps qs os : List Opener) → open_behind k ps ≡ Some qs → open_behind k (ps ++ os) ≡ Some (qs ++ os)
deeper_behind (kind.Mark i) ps qs os e = deeper_mark i ps qs os (nat_eq i mark.OPEN_PAREN) (nat_eq i mark.CLOSE_PAREN) (nat_eq i mark.OPEN_BRACKET) (nat_eq i mark.CLOSE_BRACKET) (nat_eq i mark.OPEN_BRACE) (nat_eq i mark.CLOSE_BRACE) e
deeper_behind kind.TemplateHead ps qs os e = deeper_same (template ∷ ps) qs os e
deeper_behind kind.TemplateMiddle ps qs os e = deeper_reopened ps qs os (closed template ps) (closed template (ps ++ os)) (λ zs h. deeper_closed template ps zs os h) e
deeper_behind kind.TemplateTail ps qs os e = deeper_closed template ps qs os e
deeper_behind kind.Bad ps qs os e = absurd (cc)
deeper_behind kind.End ps qs os e = absurd (cc)
deeper_behind kind.Name ps qs os e = deeper_same ps qs os e
deeper_behind kind.Number ps qs os e = deeper_same ps qs os e
deeper_behind kind.Str ps qs os e = deeper_same ps qs os e
deeper_behind kind.TemplateWhole ps qs os e = deeper_same ps qs os e
deeper_behind (kind.Word i) ps qs os e = deeper_same ps qs os e

deeper : (u : List Lexeme) (ps qs os : List Opener) → open_at_end ps u ≡ Some qs → open_at_end (ps ++ os) u ≡ Some (qs ++ os)
deeper [] ps qs os e = deeper_same ps qs os e
deeper (t ∷ u) ps qs os e = past (open_behind t.kind ps) refl (λ x. deeper u x qs os) e
  where
    past : (o : Option (List Opener)) → open_behind t.kind ps ≡ o → ((x : List Opener) → open_at_end x u ≡ Some qs → open_at_end (x ++ os) u ≡ Some (qs ++ os)) → (elim o [ None ↦ None | Some x ↦ open_at_end x u ]) ≡ Some qs → open_at_end (ps ++ os) (t ∷ u) ≡ Some (qs ++ os)
    past None k h e = absurd (cc)
    past (Some x) k h e = open_step (ps ++ os) (x ++ os) t u (deeper_behind t.kind ps x os k) ∙ h x e

pub balanced_open : (u : List Lexeme) (os : List Opener) → IsBalanced u → open_at_end os u ≡ Some os
balanced_open u os h = deeper u [] [] os h

-- places whose lexemes match

pub record Nested (ps : List Piece) : Type 0 where
  pub at : (w : List Lexeme) (n : Lexeme) → Fits ps w n → (os : List Opener) → open_at_end os w ≡ Some os

pub nested_none : Nested []
nested_none = record { at = none }
  where
    none : (w : List Lexeme) (n : Lexeme) → Fits [] w n → (os : List Opener) → open_at_end os w ≡ Some os
    none [] n h os = refl
    none (t ∷ w) n h os = absurd h

pub nested_append : {a b : List Piece} → Nested a → Nested b → Nested (a ++ b)
nested_append {a = a} {b = b} x y = record { at = λ w n h os. let p = fits_part a b w n h in ap (λ z. open_at_end os z) p.split ∙ open_append p.front os os p.back (x.at p.front _ p.first os) ∙ y.at p.back n p.second os }

pub nested_same : {a b : List Piece} → a ≡ b → Nested a → Nested b
nested_same e x = subst Nested e x

-- a lexeme that is no bracket
abbrev pub Neutral : Kind → Type 0
Neutral k = (os : List Opener) → open_behind k os ≡ Some os

pub nested_slot : (s : Slot) (rest : List Piece) → ((t : Lexeme) → Is s t → Neutral t.kind) → Nested rest → Nested (At s ∷ rest)
nested_slot s rest k x = record { at = slot_at }
  where
    slot_at : (w : List Lexeme) (n : Lexeme) → Fits (At s ∷ rest) w n → (os : List Opener) → open_at_end os w ≡ Some os
    slot_at [] n h os = absurd h
    slot_at (t ∷ w) n h os = open_step os os t w (k t h.0 os) ∙ x.at w n h.1 os

pub nested_cons : (s : Slot) (rest : List Piece) (k : Kind) → s.kind ≡ Exactly k → Neutral k → Nested rest → Nested (At s ∷ rest)
nested_cons s rest k e h x = nested_slot s rest (λ t i. subst Neutral (sym (subst (λ y. IsWanted y t.kind) e i.kind)) h) x

any_neutral : (k : Kind) → is_any_word k ≡ true → Neutral k
any_neutral kind.Name e = λ os. refl
any_neutral (kind.Word i) e = λ os. refl
any_neutral kind.Number e = absurd (false_true e)
any_neutral kind.Str e = absurd (false_true e)
any_neutral kind.TemplateWhole e = absurd (false_true e)
any_neutral kind.TemplateHead e = absurd (false_true e)
any_neutral kind.TemplateMiddle e = absurd (false_true e)
any_neutral kind.TemplateTail e = absurd (false_true e)
any_neutral (kind.Mark i) e = absurd (false_true e)
any_neutral kind.Bad e = absurd (false_true e)
any_neutral kind.End e = absurd (false_true e)

pub nested_any : (s : Slot) (rest : List Piece) → s.kind ≡ AnyWord → Nested rest → Nested (At s ∷ rest)
nested_any s rest e x = nested_slot s rest (λ t i. any_neutral t.kind (subst (λ y. IsWanted y t.kind) e i.kind)) x

pub nested_gap : (e : Ending) (rest : List Piece) → Nested rest → Nested (Gap e ∷ rest)
nested_gap e rest x = record { at = gap_at }
  where
    gap_at : (w : List Lexeme) (n : Lexeme) → Fits (Gap e ∷ rest) w n → (os : List Opener) → open_at_end os w ≡ Some os
    gap_at [] n h os = x.at [] n h.1 os
    gap_at (t ∷ w) n h os = x.at (t ∷ w) n h.1 os

pub nested_pass : Nested (Pass ∷ [])
nested_pass = record { at = λ w n h os. ap (λ z. open_at_end os z) h.2 ∙ open_append h.0 os os h.1 (balanced_open h.0 os h.3) ∙ nested_none.at h.1 n h.4 os }

-- what stands between two brackets, and after them
pub nested_group : (s c : Slot) (inner rest : List Piece) (j k : Kind) (o : Opener) → s.kind ≡ Exactly j → c.kind ≡ Exactly k → ((os : List Opener) → open_behind j os ≡ Some (o ∷ os)) → ((os : List Opener) → open_behind k (o ∷ os) ≡ Some os) → Nested inner → Nested rest → Nested (At s ∷ (inner ++ (At c ∷ rest)))
nested_group s c inner rest j k o e f h g x y = record { at = group_at }
  where
    close_at : (w : List Lexeme) (n : Lexeme) → Fits (At c ∷ rest) w n → (os : List Opener) → open_at_end (o ∷ os) w ≡ Some os
    close_at [] n h os = absurd h
    close_at (t ∷ w) n h os = open_step (o ∷ os) os t w (ap (λ z. open_behind z (o ∷ os)) (subst (λ z. IsWanted z t.kind) f h.0.kind) ∙ g os) ∙ y.at w n h.1 os

    group_at : (w : List Lexeme) (n : Lexeme) → Fits (At s ∷ (inner ++ (At c ∷ rest))) w n → (os : List Opener) → open_at_end os w ≡ Some os
    group_at [] n i os = absurd i
    group_at (t ∷ w) n i os =
        let p = fits_part inner (At c ∷ rest) w n i.1 in
        open_step os (o ∷ os) t w (ap (λ z. open_behind z os) (subst (λ z. IsWanted z t.kind) e i.0.kind) ∙ h os)
        ∙ ap (λ z. open_at_end (o ∷ os) z) p.split
        ∙ open_append p.front (o ∷ os) (o ∷ os) p.back (x.at p.front _ p.first (o ∷ os))
        ∙ close_at p.back n p.second os

-- marks that are no brackets: all but the first six

pub neutral_mark : (i : ℕ) → 6 ≤ i → Neutral (kind.Mark i)
neutral_mark i h os = rw (ne_eqb i mark.OPEN_PAREN (λ e. absurd (omega (arith, h, e))), ne_eqb i mark.CLOSE_PAREN (λ e. absurd (omega (arith, h, e))), ne_eqb i mark.OPEN_BRACKET (λ e. absurd (omega (arith, h, e))), ne_eqb i mark.CLOSE_BRACKET (λ e. absurd (omega (arith, h, e))), ne_eqb i mark.OPEN_BRACE (λ e. absurd (omega (arith, h, e))), ne_eqb i mark.CLOSE_BRACE (λ e. absurd (omega (arith, h, e)))) refl

pub neutral_op : (op : ℕ) (is_word : Bool) → (is_word ≡ false → 6 ≤ op) → Neutral (op_kind op is_word)
neutral_op op true h = λ os. refl
neutral_op op false h = neutral_mark op (h refl)

six_of : (i j : ℕ) → nat_eq i j ≡ true → 6 ≤ j → 6 ≤ i
six_of i j e h = omega (arith, eqb-true i j e, h)

pub prefix_six : (op : ℕ) (is_word : Bool) → is_prefix_op op is_word ≡ true → is_word ≡ false → 6 ≤ op
prefix_six op true e w = absurd (cc)
prefix_six op false e w =
    or_cases (nat_eq op mark.PLUS || nat_eq op mark.MINUS || nat_eq op mark.BIT_NOT) (nat_eq op mark.NOT) e
    (λ e. or_cases (nat_eq op mark.PLUS || nat_eq op mark.MINUS) (nat_eq op mark.BIT_NOT) e
    (λ e. or_cases (nat_eq op mark.PLUS) (nat_eq op mark.MINUS) e (λ e. six_of op mark.PLUS e (omega arith)) (λ e. six_of op mark.MINUS e (omega arith)))
    (λ e. six_of op mark.BIT_NOT e (omega arith)))
    (λ e. six_of op mark.NOT e (omega arith))

pub between_six : (low high i : ℕ) → 6 ≤ low → between low high i ≡ true → 6 ≤ i
between_six low high i h e = omega (arith, leb-true low i (and_left _ _ e), h)

low_level : (i : ℕ) → i < 6 → mark_level i ≡ 12
low_level zero h = refl
low_level (suc zero) h = refl
low_level (suc (suc zero)) h = refl
low_level (suc (suc (suc zero))) h = refl
low_level (suc (suc (suc (suc zero)))) h = refl
low_level (suc (suc (suc (suc (suc zero))))) h = refl
low_level (suc (suc (suc (suc (suc (suc i)))))) h = absurd (omega arith)

pub level_six : (op : ℕ) (is_word : Bool) (n : ℕ) → op_level op is_word ≡ n → n < 12 → is_word ≡ false → 6 ≤ op
level_six op true n e h w = absurd (cc)
level_six op false n e h w = either (nat_le 6 op) refl
  where
    either : (b : Bool) → nat_le 6 op ≡ b → 6 ≤ op
    either true k = leb-true 6 op k
    either false k = absurd (omega (arith, h, e, low_level op (leb-false 6 op k)))

-- the marks of the grammar, as they stand in print

pub mark_cons : (i d : ℕ) (rest : List Piece) → 6 ≤ i → Nested rest → Nested (mark_piece i d ∷ rest)
mark_cons i d rest h x = nested_cons _ rest (kind.Mark i) refl (neutral_mark i h) x

pub comma_nested : (b : Bool) (d : ℕ) → Nested (comma_piece b d)
comma_nested true d = mark_cons mark.COMMA d [] (omega arith) nested_none
comma_nested false d = nested_none

pub semi_nested : (e : Ending) (b : Bool) (d : ℕ) → Nested (semi_piece e b d)
semi_nested e true d = mark_cons mark.SEMICOLON d [] (omega arith) nested_none
semi_nested e false d = nested_gap e [] nested_none

pub parens : (s c : Slot) (inner rest : List Piece) → s.kind ≡ Exactly (kind.Mark mark.OPEN_PAREN) → c.kind ≡ Exactly (kind.Mark mark.CLOSE_PAREN) → Nested inner → Nested rest → Nested (At s ∷ (inner ++ (At c ∷ rest)))
parens s c inner rest e f x y = nested_group s c inner rest (kind.Mark mark.OPEN_PAREN) (kind.Mark mark.CLOSE_PAREN) paren e f (λ os. refl) (λ os. refl) x y

pub brackets : (s c : Slot) (inner rest : List Piece) → s.kind ≡ Exactly (kind.Mark mark.OPEN_BRACKET) → c.kind ≡ Exactly (kind.Mark mark.CLOSE_BRACKET) → Nested inner → Nested rest → Nested (At s ∷ (inner ++ (At c ∷ rest)))
brackets s c inner rest e f x y = nested_group s c inner rest (kind.Mark mark.OPEN_BRACKET) (kind.Mark mark.CLOSE_BRACKET) bracket e f (λ os. refl) (λ os. refl) x y

pub braces : (s c : Slot) (inner rest : List Piece) → s.kind ≡ Exactly (kind.Mark mark.OPEN_BRACE) → c.kind ≡ Exactly (kind.Mark mark.CLOSE_BRACE) → Nested inner → Nested rest → Nested (At s ∷ (inner ++ (At c ∷ rest)))
braces s c inner rest e f x y = nested_group s c inner rest (kind.Mark mark.OPEN_BRACE) (kind.Mark mark.CLOSE_BRACE) brace e f (λ os. refl) (λ os. refl) x y

-- places that differ in what else they ask of a lexeme

pub from_nested : (ps : List Piece) (a : ℕ) → Nested ps → Nested (from a ps)
from_nested ps a x = record { at = λ w n h os. x.at w n (unfrom ps w n h) os }
  where
    unfrom : (ps : List Piece) (w : List Lexeme) (n : Lexeme) → Fits (from a ps) w n → Fits ps w n
    unfrom [] w n h = h
    unfrom (At s ∷ ps) [] n h = absurd h
    unfrom (At s ∷ ps) (t ∷ w) n h = (record { kind = h.0.kind; content = h.0.content; starts = h.0.starts.1; ends = h.0.ends; line = h.0.line }, h.1)
    unfrom (Gap e ∷ ps) w n h = h
    unfrom (Pass ∷ ps) w n h = h

kind_nested : (ps qs : List Piece) → ((w : List Lexeme) (n : Lexeme) → Fits qs w n → Fits ps w n) → Nested ps → Nested qs
kind_nested ps qs f x = record { at = λ w n h os. x.at w n (f w n h) os }

unglue : (ps : List Piece) (w : List Lexeme) (n : Lexeme) → Fits (glue ps) w n → Fits ps w n
unglue [] w n h = h
unglue (At s ∷ ps) [] n h = absurd h
unglue (At s ∷ ps) (t ∷ w) n h = (record { kind = h.0.kind; content = h.0.content; starts = h.0.starts; ends = h.0.ends; line = λ _. h.0.line refl }, h.1)
unglue (Gap e ∷ ps) w n h = h
unglue (Pass ∷ ps) w n h = h

pub ununtil : (a : ℕ) (ps : List Piece) (w : List Lexeme) (n : Lexeme) → Fits (until a ps) w n → Fits ps w n
ununtil a [] w n h = h
ununtil a (At s ∷ []) [] n h = absurd h
ununtil a (At s ∷ []) (t ∷ w) n h = (record { kind = h.0.kind; content = h.0.content; starts = h.0.starts; ends = h.0.ends.1; line = h.0.line }, h.1)
ununtil a (Gap e ∷ []) w n h = h
ununtil a (Pass ∷ []) w n h = h
ununtil a (At s ∷ p ∷ ps) [] n h = absurd h
ununtil a (At s ∷ p ∷ ps) (t ∷ w) n h = (h.0, ununtil a (p ∷ ps) w n h.1)
ununtil a (Gap e ∷ p ∷ ps) [] n h = (h.0, ununtil a (p ∷ ps) [] n h.1)
ununtil a (Gap e ∷ p ∷ ps) (t ∷ w) n h = (h.0, ununtil a (p ∷ ps) (t ∷ w) n h.1)
ununtil a (Pass ∷ p ∷ ps) w n h = (h.0, h.1, h.2, h.3, ununtil a (p ∷ ps) h.1 n h.4)

pub glue_nested : (ps : List Piece) → Nested ps → Nested (glue ps)
glue_nested ps x = kind_nested ps (glue ps) (unglue ps) x

pub until_nested : (a : ℕ) (ps : List Piece) → Nested ps → Nested (until a ps)
until_nested a ps x = kind_nested ps (until a ps) (ununtil a ps) x

pub word_cons : (s : Slot) (i : ℕ) (rest : List Piece) → s.kind ≡ Exactly (kind.Word i) → Nested rest → Nested (At s ∷ rest)
word_cons s i rest e x = nested_cons s rest (kind.Word i) e (λ os. refl) x

pub name_cons : (s : Slot) (rest : List Piece) → s.kind ≡ Exactly kind.Name → Nested rest → Nested (At s ∷ rest)
name_cons s rest e x = nested_cons s rest kind.Name e (λ os. refl) x

pub label_nested : (o : Option Named) (d : ℕ) → Nested (Print.print_label o d)
label_nested None d = nested_none
label_nested (Some n) d = name_cons _ [] refl nested_none

pub catch_nested : (o : Option Named) (d : ℕ) → Nested (Print.print_catch_param o d)
catch_nested None d = nested_none
catch_nested (Some n) d = parens _ _ (Print.print_name (Some n) d) [] refl refl (name_cons _ [] refl nested_none) nested_none

pub maybe_name_nested : (o : Option Named) (d : ℕ) → Nested (Print.print_name o d)
maybe_name_nested None d = nested_none
maybe_name_nested (Some n) d = name_cons _ [] refl nested_none

pub ellipsis_nested : (b : Bool) (d : ℕ) → Nested (Print.ellipsis b d)
ellipsis_nested true d = mark_cons mark.ELLIPSIS d [] (omega arith) nested_none
ellipsis_nested false d = nested_none

pub func_word_nested : (f : FuncForm) (at : ℕ) (o : Option Named) (d : ℕ) → Nested (Print.func_word f at o d)
func_word_nested f at o d = either (is_arrow_form f)
  where
    either : (b : Bool) → Nested (if b then [] else placed (kind.Word word.FUNCTION) at d ∷ Print.print_name o d)
    either true = nested_none
    either false = word_cons _ word.FUNCTION (Print.print_name o d) refl (maybe_name_nested o d)

pub arrow_nested : (f : FuncForm) (d : ℕ) → Nested (Print.arrow_pieces f d)
arrow_nested f d = either (is_arrow_form f)
  where
    either : (b : Bool) → Nested (if b then glued_mark mark.ARROW d ∷ [] else [])
    either true = nested_cons _ [] (kind.Mark mark.ARROW) refl (neutral_mark mark.ARROW (omega arith)) nested_none
    either false = nested_none

pub parenthesized_nested : (bare : Bool) (start d : ℕ) (ps : List Piece) (comma : Bool) → Nested ps → Nested (Print.parenthesized bare start d ps comma)
parenthesized_nested true start d ps comma x = x
parenthesized_nested false start d ps comma x = nested_same (ap (λ y. placed (kind.Mark mark.OPEN_PAREN) start d ∷ y) (append_assoc ps (comma_piece comma d) (mark_piece mark.CLOSE_PAREN d ∷ []))) (parens _ _ (ps ++ comma_piece comma d) [] refl refl (nested_append x (comma_nested comma d)) nested_none)
