-- Loops that carry how what they read ends.
use Rattle.std.proofs.Common.{◌≡◌, ◌∙◌, List, [], ◌∷◌, ◌++◌, refl, sym, ap}
use Rattle.script_grammar.specs.Endings.{ending, last_ending, operands_ending}
use Rattle.script_grammar.specs.Lexeme.{Lexeme}
use Rattle.script_grammar.specs.Pieces.{Ending}
use Rattle.script_grammar.specs.Shows.{ShowAll}
use Rattle.script_grammar.specs.Tree.{Expr}
use Rattle.script_grammar.specs.TreeLists.{Operand, exprs_of, operands_of}
use Rattle.grammar_parser_specs.specs.Parser.{Recorded, Parser, Reply, Turn, Again, Stop, Many, loop}
use Rattle.grammar_parser_laws.proofs.Local.{Gains}
use Rattle.parse_exprs.specs.Answers.{ReadAs}
use Rattle.parse_exprs.proofs.Loops.{Looping, looping_init, looping_again, looping_stop, init_done, again_done, stop_done}

-- A loop that has read items which end so.
pub record LoopingTo {E A B : Type 0} (for : E → A → Type 0) (ends : List A → Ending) (turn : Parser (Turn A B)) (ns : List Recorded) (start : Reply (Many A B)) (rs : List Recorded) (us : List Lexeme) (es : List E) (last : Ending) : Type 0 where
  pub loops : Looping for turn ns start rs us es
  pub so : last ≡ ends loops.done

pub ends_init : {E A B : Type 0} (for : E → A → Type 0) (ends : List A → Ending) (turn : Parser (Turn A B)) (rs : List Recorded) (us : List Lexeme) (last : Ending) → last ≡ ends [] → LoopingTo for ends turn rs (loop turn us) rs us [] last
ends_init for ends turn rs us last h = record { loops = looping_init for turn rs us; so = h ∙ ap ends (sym (init_done for turn rs us)) }

pub ends_again : {E A B : Type 0} {for : E → A → Type 0} {ends : List A → Ending} {turn : Parser (Turn A B)} {ns : List Recorded} {start : Reply (Many A B)} {rs qs : List Recorded} {us vs : List Lexeme} {es : List E} {last new : Ending} (e : E) (a : A)
    → Gains turn → LoopingTo for ends turn ns start rs us es last → ReadAs rs (turn us) (Again a) qs vs → for e a → ((xs : List A) → new ≡ ends (xs ++ a ∷ [])) → LoopingTo for ends turn ns start qs vs (es ++ e ∷ []) new
ends_again {ends = ends} e a g l t f h = record { loops = looping_again e a g l.loops t f; so = h l.loops.done ∙ ap ends (sym (again_done e a g l.loops t f)) }

-- how it ends: the items, how they end, and how the last turn stopped
pub ends_stop : {E A B : Type 0} {for : E → A → Type 0} {ends : List A → Ending} {turn : Parser (Turn A B)} {ns : List Recorded} {start : Reply (Many A B)} {rs qs : List Recorded} {us vs : List Lexeme} {es : List E} {last : Ending} (b : B)
    → LoopingTo for ends turn ns start rs us es last → ReadAs rs (turn us) (Stop b) qs vs → (xs : List A) × ShowAll for es xs × (last ≡ ends xs) × ReadAs ns start (record { items = xs; last = b }) qs vs
ends_stop {ends = ends} b l t = let x = looping_stop b l.loops t in (x.0, x.1, l.so ∙ ap ends (sym (stop_done b l.loops t)), x.2)

-- a list ends as its last item does

pub last_more : (e : Ending) (xs : List Expr) (t : Expr) → last_ending e (exprs_of (xs ++ t ∷ [])) ≡ ending t
last_more e [] t = refl
last_more e (x ∷ xs) t = last_more (ending x) xs t

pub operands_more : (e : Ending) (xs : List Operand) (o : Operand) → operands_ending e (operands_of (xs ++ o ∷ [])) ≡ ending o.value
operands_more e [] o = refl
operands_more e (x ∷ xs) o = operands_more (ending x.value) xs o
