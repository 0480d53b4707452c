-- What the parts that the code of the parser makes stand for. This is this project's own choice.
--
-- As in `Shows` of script_grammar, `XOf .. n k` says that n stands for some x of which the fact k holds.
use Rattle.std.specs.Prelude.{ℕ, List, ◌≡◌, Option, Some, None}
use Rattle.script_grammar.specs.Interpretation.{Interpretation, named, maybe_named}
use Rattle.script_grammar.specs.Pieces as pieces
use Rattle.script_grammar.specs.declared.tree.Ident.{Ident}
use Rattle.script_grammar.specs.Shows.{ShowAll, ShowParam, ShowOperand, ArgsOf, OperandOf, FuncBodyOf}
use Rattle.script_grammar.specs.declared.node.NodeArgs.{NodeArgs}
use Rattle.script_grammar.specs.declared.node.NodeOperand.{NodeOperand}
use Rattle.script_grammar.specs.Tree.{Named, Expr, Stmts}
use Rattle.script_grammar.specs.TreeLists.{Args, Operand, Param, operands_of}
use Rattle.script_grammar.specs.Endings.{ending, operands_ending, body_ending}
use Rattle.grammar_parser_specs.specs.Parser.{Turn, Again, Stop, Many}
use Rattle.grammar_parser_specs.specs.Exprs as pure
use Rattle.parse_exprs.specs.declared.part.Turned.{Turned}
use Rattle.parse_exprs.specs.declared.part.Turned.TheVariants as turned
use Rattle.parse_exprs.specs.declared.part.Items.{Items}
use Rattle.parse_exprs.specs.declared.part.Rank.TheVariants as ranks
use Rattle.parse_exprs.specs.declared.part.Ending.{Ending}
use Rattle.parse_exprs.specs.declared.part.Ending.TheVariants as endings
use Rattle.parse_exprs.specs.declared.part.Ranked.{Ranked}
use Rattle.parse_exprs.specs.declared.part.Ended.{Ended}
use Rattle.parse_exprs.specs.declared.part.ParamsEnd.{ParamsEnd}
use Rattle.parse_exprs.specs.declared.part.ParamsEnd.TheVariants as ends
use Rattle.parse_exprs.specs.declared.part.Params.{Params}
use Rattle.parse_exprs.specs.declared.part.Spanned.{Spanned}
use Rattle.parse_exprs.specs.declared.part.ArrowBody.{ArrowBody}
use Rattle.parse_exprs.specs.Env.{body_at}
use Rattle.parse_exprs.specs.Ranks.{rank_of}
use Rattle.std.specs.Prelude.{Vec}
use Rattle.std.specs.declared.alloc.Global.{Global}

-- a value that stands for itself
abbrev pub Itself : {A : Type 0} → A → (A → Type 0) → Type 0
Itself a k = k a

abbrev pub NameOf : Interpretation → Ident → (Named → Type 0) → Type 0
NameOf i n k = k (named i n)

abbrev pub MaybeNameOf : Interpretation → Option Ident → (Option Named → Type 0) → Type 0
MaybeNameOf i n k = k (maybe_named i n)

-- a turn of a loop: what its item stands for, and how it stops
abbrev pub TurnOf : {E A C B : Type 0} → (E → (A → Type 0) → Type 0) → (C → (B → Type 0) → Type 0) → Turned E C → (Turn A B → Type 0) → Type 0
TurnOf item last (turned.Next e) k = item e (λ a. k (Again a))
TurnOf item last (turned.Last c) k = last c (λ b. k (Stop b))

-- what a loop read
abbrev pub ItemsOf : {E A C B : Type 0} → (E → A → Type 0) → (C → (B → Type 0) → Type 0) → Items E C → (Many A B → Type 0) → Type 0
ItemsOf {A = A} shows last v k = (xs : List A) × ShowAll shows v.items.items xs × last v.last (λ b. k (record { items = xs; last = b }))

-- how an expression ends, as far as the parser asks
abbrev pub ending_as : Ending → pieces.Ending
ending_as endings.BracedArrow = pieces.BracedArrow
ending_as endings.Postfix = pieces.Postfix
ending_as endings.Operand = pieces.Operand

abbrev pub RankedOf : {E : Type 0} → (E → Expr → Type 0) → Ranked E → (Expr → Type 0) → Type 0
RankedOf shows v k = (t : Expr) × shows v.node t × (v.rank ≡ rank_of t) × (ending_as v.ending ≡ ending t) × k t

-- the same of an expression that is given
abbrev pub ShowRanked : {E : Type 0} → (E → Expr → Type 0) → Ranked E → Expr → Type 0
ShowRanked shows v t = shows v.node t × (v.rank ≡ rank_of t) × (ending_as v.ending ≡ ending t)

-- an operand, and how what ends with it ends
abbrev pub EndedOf : {E : Type 0} → (E → Expr → Type 0) → Ended (NodeOperand E) → (Operand → Type 0) → Type 0
EndedOf shows v k = OperandOf shows v.part (λ o. (ending_as v.ending ≡ ending o.value) × k o)

abbrev pub MaybeEndedOf : {E : Type 0} → (E → Expr → Type 0) → Option (Ended (NodeOperand E)) → (Option Operand → Type 0) → Type 0
MaybeEndedOf shows None k = k None
MaybeEndedOf shows (Some n) k = EndedOf shows n (λ o. k (Some o))

-- what a loop read, and how what ends with it ends
abbrev pub EndsOf : {E A : Type 0} → (E → A → Type 0) → (List A → pieces.Ending) → Items E Ending → (Many A (Unit {0}) → Type 0) → Type 0
EndsOf {A = A} shows ends v k = (xs : List A) × ShowAll shows v.items.items xs × (ending_as v.last ≡ ends xs) × k (record { items = xs; last = tt })

-- the operands after an expression that ends so, and how what ends with them ends
abbrev pub OperandsOf : {E : Type 0} → (E → Expr → Type 0) → pieces.Ending → Items (NodeOperand E) Ending → (List Operand → Type 0) → Type 0
OperandsOf shows e v k = (os : List Operand) × ShowAll (ShowOperand shows) v.items.items os
    × (ending_as v.last ≡ operands_ending e (operands_of os)) × k os

-- an expression that may begin a chain, and ends with no arrow and no operator
abbrev pub AtomOf : {E : Type 0} → (E → Expr → Type 0) → E → (Expr → Type 0) → Type 0
AtomOf shows e k = (t : Expr) × shows e t × (ranks.Head ≡ rank_of t) × (pieces.Operand ≡ ending t) × k t

abbrev pub ListOf : {E : Type 0} → (E → Expr → Type 0) → Vec E Global → (List Expr → Type 0) → Type 0
ListOf shows v k = (ts : List Expr) × ShowAll shows v.items ts × k ts

abbrev pub MaybeArgsOf : {E : Type 0} → (E → Expr → Type 0) → Option (NodeArgs E) → (Option Args → Type 0) → Type 0
MaybeArgsOf shows None k = k None
MaybeArgsOf shows (Some n) k = ArgsOf shows n (λ a. k (Some a))

abbrev pub ParamsEndOf : Interpretation → ParamsEnd → (pure.ParamsEnd → Type 0) → Type 0
ParamsEndOf i ends.Plain k = k pure.Plain
ParamsEndOf i ends.Trailing k = k pure.Trailing
ParamsEndOf i (ends.Rest n) k = k (pure.Rest (named i n))

abbrev pub ParamsOf : {E : Type 0} → Interpretation → (E → Expr → Type 0) → Params E → (pure.Head → Type 0) → Type 0
ParamsOf i shows v k = (ps : List Param) × ShowAll (ShowParam i shows) v.params.items ps
    × k (record { start = v.start; params = ps; comma = v.comma; bare = v.bare })

abbrev pub SpannedOf : {E : Type 0} → (E → Expr → Type 0) → Spanned E → (pure.Spanned Expr → Type 0) → Type 0
SpannedOf shows v k = (t : Expr) × shows v.value t × (ending_as v.ending ≡ ending t) × k (record { value = t; end = v.end })

abbrev pub ArrowBodyOf : {E B : Type 0} → Interpretation → (E → Expr → Type 0) → (B → Stmts → Type 0) → (start : ℕ) → ArrowBody E B
    → (pure.BodyRead → Type 0) → Type 0
ArrowBodyOf i shows shows_body start v k = FuncBodyOf i shows shows_body start v.body
    (λ b. (ending_as v.ending ≡ body_ending b) × k (record { body = b; end = v.end }))

-- the offset where a body ends that was passed over
abbrev pub PassedOf : Interpretation → (start : ℕ) → ℕ → (pure.BodyRead → Type 0) → Type 0
PassedOf i start end k = k (record { body = body_at i start; end = end })
