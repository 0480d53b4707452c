-- A fault after what was read.
use Rattle.std.proofs.Common.{◌≡◌, ◌∙◌, List, Bool, false, sym, ap, subst}
use Rattle.script_grammar.specs.Interpretation.{Interpretation}
use Rattle.script_grammar.specs.Lexeme.{Lexeme}
use Rattle.grammar_parser_specs.specs.Parser.{Recorded, Reply, Parser, after, when}
use Rattle.grammar_local_laws.proofs.LocalExprs.{after_noted}
use Rattle.parse_exprs.specs.declared.source.Source.{Source}
use Rattle.parse_exprs.specs.declared.place.Cursor.{Cursor}
use Rattle.parse_exprs.specs.declared.place.ParseFault.{ParseFault}
use Rattle.parse_exprs.specs.declared.place.ParseFault.TheVariants as faults
use Rattle.parse_exprs.specs.Answers.{Refuses, ReadAs}

-- a fault of the second part
pub refused_behind : {A B : Type 0} {rs qs : List Recorded} {us : List Lexeme} {r : Reply A} {a : A} (s : Source) (i : Interpretation) (p : Cursor) (e : ParseFault) (f : A → Parser B) → ReadAs rs r a qs us → Refuses s i p e qs (f a us) → Refuses s i p e rs (after r f)
refused_behind {rs = rs} {r = r} s i p (faults.Unexpected k) f h m = record { is = sym (after_noted rs r f) ∙ ap (λ x. after x f) h.is ∙ m.is }
refused_behind {rs = rs} {r = r} s i p (faults.TooDeep k) f h m = record { is = sym (after_noted rs r f) ∙ ap (λ x. after x f) h.is ∙ m.is }
refused_behind s i p faults.NoMemory f h m = tt

-- a fault after a test
pub refused_when_false : {A : Type 0} {b : Bool} (s : Source) (i : Interpretation) (p : Cursor) (e : ParseFault) (rs : List Recorded) (us : List Lexeme) (f g : Parser A) → b ≡ false → Refuses s i p e rs (g us) → Refuses s i p e rs (when b f g us)
refused_when_false s i p e rs us f g h k = subst (λ x. Refuses s i p e rs (when x f g us)) (sym h) k
