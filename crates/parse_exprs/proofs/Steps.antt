-- What the parser on lists of lexemes answers, part by part, after bodies that were recorded before.
use Rattle.std.proofs.Common.{◌≡◌, ◌∙◌, ℕ, List, [], ◌∷◌, Bool, true, false, refl, sym, ap, subst, append-nil, Result, Err}
use Rattle.std.specs.Prelude.{IsErrAnd}
use Rattle.std.proofs.lemmas.Result.{err_from_is_err_and}
use Rattle.script_grammar.specs.Lexeme.{Lexeme}
use Rattle.script_grammar.specs.Interpretation.{Interpretation}
use Rattle.script_grammar.specs.Kinds.{is_mark}
use Rattle.grammar_parser_specs.specs.Parser.{Recorded, Reply, Read, Bad, Deep, Parser, head_of, rest_of, noted, after, ret, bad, step, when}
use Rattle.grammar_parser_specs.specs.Exprs.{expect, arrow_mark, is_arrow}
use Rattle.grammar_local_laws.proofs.LocalExprs.{after_noted, after_twice}
use Rattle.grammar_local_laws.proofs.LocalHeads.{read_noted}
use Rattle.parse_exprs.specs.declared.source.Source.{Source}
use Rattle.parse_exprs.specs.declared.place.Cursor.{Cursor}
use Rattle.parse_exprs.specs.declared.place.ParseFault.{ParseFault}
use Rattle.parse_exprs.specs.declared.place.ParseFault.TheVariants as faults
use Rattle.parse_exprs.specs.Answers.{Answers, Refuses, ReadAs}

-- a value and nothing more
pub just : {A : Type 0} (rs : List Recorded) (a : A) (us : List Lexeme) → ReadAs rs (Read a [] us) a rs us
just rs a us = record { is = read_noted rs [] a us ∙ ap (λ x. Read a x us) (append-nil rs) }

pub bad_here : {A : Type 0} (rs : List Recorded) (us : List Lexeme) → noted {A = A} rs (Bad [] us) ≡ Bad rs us
bad_here [] us = refl
bad_here (r ∷ rs) us = ap (λ x. Bad x us) (append-nil (r ∷ rs))

pub deep_here : {A : Type 0} (rs : List Recorded) (us : List Lexeme) → noted {A = A} rs (Deep [] us) ≡ Deep rs us
deep_here [] us = refl
deep_here (r ∷ rs) us = ap (λ x. Deep x us) (append-nil (r ∷ rs))

-- the same elsewhere
pub read_at : {A : Type 0} {a : A} {r : Reply A} {ps rs qs : List Recorded} {us vs : List Lexeme} → ReadAs ps r a rs us → qs ≡ rs → vs ≡ us → ReadAs ps r a qs vs
read_at {a = a} {qs = qs} {us = us} h e f = record { is = h.is ∙ (ap (λ x. Read a x us) (sym e) ∙ ap (λ x. Read a qs x) (sym f)) }

-- one part after another
pub then : {A B : Type 0} {rs qs ps : List Recorded} {us vs : List Lexeme} {r : Reply A} {a : A} {b : B} (f : A → Parser B) → ReadAs rs r a qs us → ReadAs qs (f a us) b ps vs → ReadAs rs (after r f) b ps vs
then {rs = rs} {r = r} f h k = record { is = sym (after_noted rs r f) ∙ ap (λ x. after x f) h.is ∙ k.is }

-- the last part and what is made of it
pub made : {A B : Type 0} {rs qs : List Recorded} {us : List Lexeme} {r : Reply A} {a : A} (g : A → B) → ReadAs rs r a qs us → ReadAs rs (after r (λ x. ret (g x))) (g a) qs us
made {qs = qs} {us = us} {a = a} g h = then (λ x. ret (g x)) h (just qs (g a) us)

-- what is made of what was made
pub made_twice : {A B C : Type 0} {rs qs : List Recorded} {us : List Lexeme} {b : B} (r : Reply A) (f : A → B) (g : B → C) → ReadAs rs (after r (λ x. ret (f x))) b qs us → ReadAs rs (after r (λ x. ret (g (f x)))) (g b) qs us
made_twice {rs = rs} r f g h = record { is = ap (noted rs) (sym (after_twice r (λ x. ret (f x)) (λ x. ret (g x)))) ∙ (made g h).is }

-- the same value by another name
pub read_is : {A : Type 0} {rs qs : List Recorded} {us : List Lexeme} {r : Reply A} {a b : A} → ReadAs rs r a qs us → a ≡ b → ReadAs rs r b qs us
read_is {rs = rs} {qs = qs} {us = us} {r = r} h e = subst (λ x. ReadAs rs r x qs us) e h

-- a fault of the first part
pub refused : {A B : Type 0} (s : Source) (i : Interpretation) (p : Cursor) (e : ParseFault) (rs : List Recorded) (r : Reply A) (f : A → Parser B) → Refuses s i p e rs r → Refuses s i p e rs (after r f)
refused s i p (faults.Unexpected k) rs r f h = record { is = sym (after_noted rs r f) ∙ ap (λ x. after x f) h.is }
refused s i p (faults.TooDeep k) rs r f h = record { is = sym (after_noted rs r f) ∙ ap (λ x. after x f) h.is }
refused s i p faults.NoMemory rs r f h = tt

-- a fault that `?` hands on
pub handed : {D A : Type 0} (s : Source) (i : Interpretation) (p : Cursor) (e : ParseFault) (o : Result D ParseFault) (gives : D → (A → Type 0) → Type 0) (rs : List Recorded) (r : Reply A) → IsErrAnd o (λ y. y ≡ e) → Refuses s i p e rs r → Answers gives s i p o rs r
handed s i p e o gives rs r h k =
    let x = err_from_is_err_and o h in
    subst (λ y. Answers gives s i p y rs r) (ap Err (sym x.2) ∙ sym x.1) k

-- tests

pub when_true : {A : Type 0} {b : Bool} {rs qs : List Recorded} {us vs : List Lexeme} {a : A} (f g : Parser A) → b ≡ true → ReadAs rs (f us) a qs vs → ReadAs rs (when b f g us) a qs vs
when_true {rs = rs} {us = us} f g e h = record { is = ap (λ x. noted rs (when x f g us)) e ∙ h.is }

pub when_false : {A : Type 0} {b : Bool} {rs qs : List Recorded} {us vs : List Lexeme} {a : A} (f g : Parser A) → b ≡ false → ReadAs rs (g us) a qs vs → ReadAs rs (when b f g us) a qs vs
when_false {rs = rs} {us = us} f g e h = record { is = ap (λ x. noted rs (when x f g us)) e ∙ h.is }

-- tokens that must stand here

pub expect_read : (m : ℕ) (rs : List Recorded) (ts : List Lexeme) → is_mark m (head_of ts).kind ≡ true → ReadAs rs (expect m ts) tt rs (rest_of ts)
unfolding expect
expect_read m rs ts e = when_true (step (ret tt)) bad e (just rs tt (rest_of ts))

pub arrow_read : (rs : List Recorded) (ts : List Lexeme) → is_arrow (head_of ts) ≡ true → ReadAs rs (arrow_mark ts) tt rs (rest_of ts)
unfolding arrow_mark
arrow_read rs ts e = when_true (step (ret tt)) bad e (just rs tt (rest_of ts))
