-- What tests of lexemes say.
use Rattle.std.proofs.Common.{◌≡◌, ℕ, ◌||◌, ◌&&◌, not, Bool, true, false, refl, ap, ◌⊎◌, inl, inr}
use Rattle.std.proofs.lemmas.Bool.{eqb-true, eq-eqb}
use Rattle.script_grammar.specs.declared.token.Kind.{Kind}
use Rattle.script_grammar.specs.declared.token.Kind.TheVariants as kind
use Rattle.script_grammar.specs.Kinds.{is_mark, is_word, is_name, is_number, is_str, is_whole, is_head, is_middle, is_tail, is_end}

pub false_true : false ≡ true → ⊥
false_true e = cc

pub true_false : true ≡ false → ⊥
true_false e = cc

pub bool_cases : (b : Bool) → (b ≡ true) ⊎ (b ≡ false)
bool_cases true = inl refl
bool_cases false = inr refl

pub and_left : (a b : Bool) → (a && b) ≡ true → a ≡ true
and_left true b e = refl
and_left false b e = absurd (false_true e)

pub and_right : (a b : Bool) → (a && b) ≡ true → b ≡ true
and_right true b e = e
and_right false b e = absurd (false_true e)

pub and_both : (a b : Bool) → a ≡ true → b ≡ true → (a && b) ≡ true
and_both true b e h = h
and_both false b e h = absurd (false_true e)

pub or_left : (a b : Bool) → a ≡ true → (a || b) ≡ true
or_left true b e = refl
or_left false b e = absurd (false_true e)

pub or_right : (a b : Bool) → b ≡ true → (a || b) ≡ true
or_right true b e = refl
or_right false b e = e

pub or_cases : {C : Type 0} (a b : Bool) → (a || b) ≡ true → (a ≡ true → C) → (b ≡ true → C) → C
or_cases true b e h k = h refl
or_cases false b e h k = k e

pub neither_left : (a b : Bool) → (a || b) ≡ false → a ≡ false
neither_left true b e = e
neither_left false b e = refl

pub neither_right : (a b : Bool) → (a || b) ≡ false → b ≡ false
neither_right true b e = absurd (true_false e)
neither_right false b e = e

pub not_true : (b : Bool) → not b ≡ true → b ≡ false
not_true true h = absurd (false_true h)
not_true false h = refl

pub not_false : (b : Bool) → not b ≡ false → b ≡ true
not_false true h = refl
not_false false h = absurd (true_false h)

-- which kind a test has found

pub mark_known : (m : ℕ) (k : Kind) → is_mark m k ≡ true → k ≡ kind.Mark m
mark_known m (kind.Mark j) e = ap kind.Mark (eqb-true j m e)
mark_known m _ e = absurd (false_true e)

pub word_known : (m : ℕ) (k : Kind) → is_word m k ≡ true → k ≡ kind.Word m
word_known m (kind.Word j) e = ap kind.Word (eqb-true j m e)
word_known m _ e = absurd (false_true e)

pub name_known : (k : Kind) → is_name k ≡ true → k ≡ kind.Name
name_known kind.Name e = refl
name_known _ e = absurd (false_true e)

pub number_known : (k : Kind) → is_number k ≡ true → k ≡ kind.Number
number_known kind.Number e = refl
number_known _ e = absurd (false_true e)

pub str_known : (k : Kind) → is_str k ≡ true → k ≡ kind.Str
str_known kind.Str e = refl
str_known _ e = absurd (false_true e)

pub whole_known : (k : Kind) → is_whole k ≡ true → k ≡ kind.TemplateWhole
whole_known kind.TemplateWhole e = refl
whole_known _ e = absurd (false_true e)

pub head_known : (k : Kind) → is_head k ≡ true → k ≡ kind.TemplateHead
head_known kind.TemplateHead e = refl
head_known _ e = absurd (false_true e)

pub middle_known : (k : Kind) → is_middle k ≡ true → k ≡ kind.TemplateMiddle
middle_known kind.TemplateMiddle e = refl
middle_known _ e = absurd (false_true e)

pub tail_known : (k : Kind) → is_tail k ≡ true → k ≡ kind.TemplateTail
tail_known kind.TemplateTail e = refl
tail_known _ e = absurd (false_true e)

pub end_known : (k : Kind) → is_end k ≡ true → k ≡ kind.End
end_known kind.End e = refl
end_known _ e = absurd (false_true e)

pub same_mark : (m : ℕ) → is_mark m (kind.Mark m) ≡ true
same_mark m = eq-eqb m m refl

pub same_word : (m : ℕ) → is_word m (kind.Word m) ≡ true
same_word m = eq-eqb m m refl
