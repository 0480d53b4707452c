-- What is made of lists of nodes, of which some are single items.
use Rattle.std.proofs.Common.{◌≡◌, ℕ, zero, suc, List, [], ◌∷◌, length, nat_eq, false, refl, Result, Ok, Err}
use Rattle.script_grammar.specs.Interpretation.{Interpretation}
use Rattle.script_grammar.specs.Shows.{ShowAll}
use Rattle.grammar_parser_specs.specs.Parser.{Recorded, Reply}
use Rattle.parse_exprs.specs.declared.source.Source.{Source}
use Rattle.parse_exprs.specs.declared.place.Cursor.{Cursor}
use Rattle.parse_exprs.specs.declared.place.ParseFault.{ParseFault}
use Rattle.parse_exprs.specs.declared.place.ParseFault.TheVariants as faults
use Rattle.parse_exprs.specs.Answers.{Answers, Makes, ReadAs, records}
use Rattle.parse_exprs.specs.Source.{front}

-- a list of nodes that is not empty stands for one that is not
pub nonempty : {E A : Type 0} (for : E → A → Type 0) (es : List E) (xs : List A) → ShowAll for es xs → (n : ℕ) → n ≡ length es → nat_eq n 0 ≡ false → (x : A) × (ys : List A) × (xs ≡ x ∷ ys)
nonempty for [] [] h n e f = absurd (no_zero n e f)
  where
    no_zero : (n : ℕ) → n ≡ 0 → nat_eq n 0 ≡ false → ⊥
    no_zero zero e f = cc
    no_zero (suc n) e f = cc
nonempty for [] (x ∷ xs) h n e f = absurd h
nonempty for (d ∷ es) [] h n e f = absurd h
nonempty for (d ∷ es) (x ∷ xs) h n e f = (x, xs, refl)

-- what a part that only makes nodes answers
pub made_answers : {E A : Type 0} (gives : E → (A → Type 0) → Type 0) (P : E → Type 0) (s : Source) (i : Interpretation) (p : Cursor) (o : Result E ParseFault) (rs : List Recorded) (reply : Reply A)
    → Makes o P → ((e : E) → P e → gives e (λ a. ReadAs rs reply a (records s i p) (front s i p.at))) → Answers gives s i p o rs reply
made_answers gives P s i p (Ok e) rs reply m f = f e m
made_answers gives P s i p (Err faults.NoMemory) rs reply m f = tt
made_answers gives P s i p (Err (faults.Unexpected k)) rs reply m f = absurd m
made_answers gives P s i p (Err (faults.TooDeep k)) rs reply m f = absurd m
