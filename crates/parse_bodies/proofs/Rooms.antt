-- What is read where there is no room for depth.
use Rattle.std.proofs.Common.{◌≡◌, List, [], ◌∷◌, Bool, true, false, refl, sym, ap, subst, append-nil}
use Rattle.std.specs.Prelude.{if◌then◌else◌}
use Rattle.script_grammar.specs.declared.token.Kind.{Kind}
use Rattle.script_grammar.specs.Interpretation.{Interpretation}
use Rattle.script_grammar.specs.Lexeme.{Lexeme}
use Rattle.grammar_parser_specs.specs.Parser.{Recorded, Bad, Deep, head_of, noted, when, deep, bad, no_room}
use Rattle.parse_exprs.specs.declared.source.Source.{Source}
use Rattle.parse_exprs.specs.declared.place.Cursor.{Cursor}
use Rattle.parse_exprs.specs.declared.place.ParseFault.{ParseFault}
use Rattle.parse_exprs.specs.declared.place.ParseFault.TheVariants as faults
use Rattle.parse_exprs.specs.Answers.{Refuses, records}
use Rattle.parse_exprs.specs.Source.{front}

noted_bad : {A : Type 0} (rs : List Recorded) (ts : List Lexeme) → noted {A = A} rs (Bad [] ts) ≡ Bad rs ts
noted_bad [] ts = refl
noted_bad (b ∷ rs) ts = ap (λ x. Bad x ts) (append-nil (b ∷ rs))

noted_deep : {A : Type 0} (rs : List Recorded) (ts : List Lexeme) → noted {A = A} rs (Deep [] ts) ≡ Deep rs ts
noted_deep [] ts = refl
noted_deep (b ∷ rs) ts = ap (λ x. Deep x ts) (append-nil (b ∷ rs))

fault_at : (A : Type 0) (s : Source) (i : Interpretation) (p : Cursor) (b : Bool) → Refuses {A = A} s i p (if b then faults.TooDeep p.at else faults.Unexpected p.at) (records s i p) (when b deep bad (front s i p.at))
fault_at A s i p true = record { is = noted_deep (records s i p) (front s i p.at) }
fault_at A s i p false = record { is = noted_bad (records s i p) (front s i p.at) }

-- what begins as these kinds do is too deep
pub no_room_refuses : (A : Type 0) (s : Source) (i : Interpretation) (p : Cursor) (e : ParseFault) (begins : Kind → Bool) (b : Bool) → b ≡ begins (head_of (front s i p.at)).kind → e ≡ (if b then faults.TooDeep p.at else faults.Unexpected p.at) → Refuses {A = A} s i p e (records s i p) (no_room begins (front s i p.at))
no_room_refuses A s i p e begins b h k = subst (λ x. Refuses {A = A} s i p x (records s i p) (no_room begins (front s i p.at))) (sym k) (subst (λ x. Refuses {A = A} s i p (if b then faults.TooDeep p.at else faults.Unexpected p.at) (records s i p) (when x deep bad (front s i p.at))) h (fault_at A s i p b))
