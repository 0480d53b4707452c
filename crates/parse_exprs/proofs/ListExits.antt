-- Lists of which the last item stands alone, and lists of one item.
use Rattle.std.proofs.Common.{◌≡◌, ◌∙◌, ℕ, suc, List, [], ◌∷◌, ◌++◌, length, Option, Some, None, nat_eq, not, false, arith, ◌+◌, refl, ap, Result, Err}
use Rattle.std.specs.Prelude.{IsErrAnd, MatchOption}
use Rattle.std.proofs.lemmas.Bool.Decides.{nat_tests}
use Rattle.script_grammar.specs.Interpretation.{Interpretation}
use Rattle.script_grammar.specs.Shows.{ShowAll, ShowMaybe}
use Rattle.script_grammar.specs.Tree.{Expr}
use Rattle.script_grammar.specs.Tree as model
use Rattle.script_grammar.specs.TreeLists.{exprs_of}
use Rattle.grammar_parser_specs.specs.Exprs.{has_items, list_case}
use Rattle.grammar_parser_specs.specs.Parser.{Recorded, Reply}
use Rattle.parse_exprs.specs.declared.source.Source.{Source}
use Rattle.parse_exprs.specs.declared.place.Cursor.{Cursor}
use Rattle.parse_exprs.specs.declared.place.ParseFault.{ParseFault}
use Rattle.parse_exprs.specs.declared.place.ParseFault.TheVariants as faults
use Rattle.parse_exprs.specs.Answers.{Answers, Makes}
use Rattle.parse_exprs.proofs.Steps.{handed}

pub some_shown : {E A : Type 0} (shows : E → A → Type 0) (n : Option E) (e : E) (o : Option A) → n ≡ Some e → ShowMaybe shows n o → (t : A) × (o ≡ Some t) × shows e t
some_shown shows n e None is h = absurd (rw is at h)
some_shown shows n e (Some t) is h = (t, refl, rw is at h)

pub none_shown : {E A : Type 0} (shows : E → A → Type 0) (n : Option E) (o : Option A) → n ≡ None → ShowMaybe shows n o → o ≡ None
none_shown shows n None is h = refl
none_shown shows n (Some t) is h = absurd (rw is at h)

no_zero : (n : ℕ) → nat_eq (suc n) 0 ≡ false
no_zero n = grind (arith, nat_tests)

pub has_shown : {E A : Type 0} (for : E → A → Type 0) (es : List E) (xs : List A) → ShowAll for es xs → (n : ℕ) → n ≡ length es → not (nat_eq n 0) ≡ has_items xs
has_shown for [] [] h n e = ap (λ m. not (nat_eq m 0)) e
has_shown for [] (x ∷ xs) h n e = absurd h
has_shown for (d ∷ es) [] h n e = absurd h
has_shown for (d ∷ es) (x ∷ xs) h n e = ap (λ m. not (nat_eq m 0)) e ∙ ap not (no_zero (length es))

-- a list that has not one item stands for a comma's list
pub list_comma : {E : Type 0} (shows : E → Expr → Type 0) (es : List E) (ts : List Expr) → ShowAll shows es ts → (length es ≡ 1 → ⊥) → model.Comma (exprs_of ts) ≡ list_case ts
list_comma shows [] [] h e = refl
list_comma shows [] (t ∷ ts) h e = absurd h
list_comma shows (d ∷ es) [] h e = absurd h
list_comma shows (d ∷ []) (t ∷ []) h e = absurd (e refl)
list_comma shows (d ∷ []) (t ∷ u ∷ ts) h e = absurd h.1
list_comma shows (d ∷ f ∷ es) (t ∷ []) h e = absurd h.1
list_comma shows (d ∷ f ∷ es) (t ∷ u ∷ ts) h e = refl

-- nothing is popped off a list of one item
pub none_popped : {E : Type 0} (o : Option E) (l m : ℕ) → o ≡ None → MatchOption o ((l ≡ 0) × (m ≡ 0)) (λ _. m + 1 ≡ l) → l ≡ 1 → ⊥
none_popped o l m e k h = let z = rw e at k in omega (arith, z.0)

pub all_both : {E A : Type 0} (for : E → A → Type 0) (es : List E) (xs : List A) (ds : List E) (ys : List A) → ShowAll for es xs → ShowAll for ds ys → ShowAll for (es ++ ds) (xs ++ ys)
all_both for [] [] ds ys h k = k
all_both for [] (x ∷ xs) ds ys h k = absurd h
all_both for (e ∷ es) [] ds ys h k = absurd h
all_both for (e ∷ es) (x ∷ xs) ds ys h k = (h.0, all_both for es xs ds ys h.1 k)

-- a fault of a part that only makes nodes, which `?` hands on
pub made_failed : {E D A : Type 0} (gives : D → (A → Type 0) → Type 0) (P : E → Type 0) (s : Source) (i : Interpretation) (p : Cursor) (o : Result D ParseFault) (e : ParseFault) (rs : List Recorded) (reply : Reply A)
    → IsErrAnd o (λ y. y ≡ e) → Makes {E = E} (Err e) P → Answers gives s i p o rs reply
made_failed gives P s i p o (faults.Unexpected k) rs reply h m = absurd m
made_failed gives P s i p o (faults.TooDeep k) rs reply h m = absurd m
made_failed gives P s i p o faults.NoMemory rs reply h m = handed s i p faults.NoMemory o gives rs reply h tt
