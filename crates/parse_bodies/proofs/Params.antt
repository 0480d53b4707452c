-- What was read, as another value that is the same, and the end of a loop over parameters.
use Rattle.std.proofs.Common.{◌≡◌, List, subst}
use Rattle.script_grammar.specs.Interpretation.{Interpretation, named}
use Rattle.script_grammar.specs.Lexeme.{Lexeme}
use Rattle.script_grammar.specs.Shows.{ShowAll}
use Rattle.script_grammar.specs.TreeLists.{Param}
use Rattle.grammar_parser_specs.specs.Exprs as pure
use Rattle.grammar_parser_specs.specs.Parser.{Recorded, Reply, Parser, Turn, Stop, Many}
use Rattle.parse_exprs.specs.Answers.{ReadAs}
use Rattle.parse_exprs.specs.Means.{ParamsEndOf}
use Rattle.parse_exprs.specs.declared.part.ParamsEnd.{ParamsEnd}
use Rattle.parse_exprs.specs.declared.part.ParamsEnd.TheVariants as ends
use Rattle.parse_exprs.proofs.Loops.{Looping, looping_stop}

-- the same value
pub read_is : {A : Type 0} {rs qs : List Recorded} {us : List Lexeme} {r : Reply A} {a b : A} → a ≡ b → ReadAs rs r a qs us → ReadAs rs r b qs us
read_is {rs = rs} {qs = qs} {us = us} {r = r} e h = subst (λ x. ReadAs rs r x qs us) e h

-- how a loop over parameters ends
pub params_stop : {E : Type 0} (i : Interpretation) (for : E → Param → Type 0) {turn : Parser (Turn Param pure.ParamsEnd)} {ns : List Recorded} {start : Reply (Many Param pure.ParamsEnd)} {rs : List Recorded} {us : List Lexeme} {es : List E} (qs : List Recorded) (vs : List Lexeme) (e : ParamsEnd)
    → Looping for turn ns start rs us es → ParamsEndOf i e (λ b. ReadAs rs (turn us) (Stop b) qs vs) → (xs : List Param) × ShowAll for es xs × ParamsEndOf i e (λ b. ReadAs ns start (record { items = xs; last = b }) qs vs)
params_stop i for qs vs ends.Plain l t = looping_stop pure.Plain l t
params_stop i for qs vs ends.Trailing l t = looping_stop pure.Trailing l t
params_stop i for qs vs (ends.Rest n) l t = looping_stop (pure.Rest (named i n)) l t
