-- What the parts that the code of the parser of statements makes stand for. This is this project's own choice.
--
-- As in `Shows` of script_grammar, `XOf .. n k` says that n stands for some x of which the fact k holds.
use Rattle.std.specs.Prelude.{◌≡◌, ℕ, List, Option, Some, None, Vec}
use Rattle.std.specs.declared.alloc.Global.{Global}
use Rattle.script_grammar.specs.Endings.{bind_ending, binds_ending}
use Rattle.script_grammar.specs.Interpretation.{Interpretation, named}
use Rattle.script_grammar.specs.Pieces as pieces
use Rattle.script_grammar.specs.Proper.{takes_else}
use Rattle.script_grammar.specs.Shows.{ShowAll, ShowBind, MaybeOf, ClauseOf}
use Rattle.script_grammar.specs.Tree.{Expr, Stmt, Stmts, BracedBody}
use Rattle.script_grammar.specs.TreeLists.{Bind, Clause, maybe_expr_of, binds_of, stmts_of}
use Rattle.script_grammar.specs.declared.node.NodeClause.{NodeClause}
use Rattle.script_grammar.specs.declared.tree.Ident.{Ident}
use Rattle.grammar_parser_specs.specs.Parser.{Many}
use Rattle.grammar_parser_specs.specs.Exprs.{BodyRead}
use Rattle.grammar_parser_specs.specs.Stmts as pure
use Rattle.parse_exprs.specs.Means.{ending_as, RankedOf}
use Rattle.parse_exprs.specs.declared.part.Ranked.{Ranked}
use Rattle.parse_bodies.specs.declared.ending.StmtEnding.{StmtEnding}
use Rattle.parse_bodies.specs.declared.ending.StmtEnding.TheVariants as ends
use Rattle.parse_bodies.specs.declared.part.Binds.{Binds}
use Rattle.parse_bodies.specs.declared.part.BodyNode.{BodyNode}
use Rattle.parse_bodies.specs.declared.part.EndedBind.{EndedBind}
use Rattle.parse_bodies.specs.declared.part.StmtNode.{StmtNode}
use Rattle.parse_bodies.specs.declared.position.Position.{Position}
use Rattle.parse_bodies.specs.declared.position.Position.TheVariants as positions

-- how a statement ends
abbrev pub stmt_ending : StmtEnding → pieces.Ending
stmt_ending (ends.Value e) = ending_as e
stmt_ending ends.BareBinding = pieces.BareBinding
stmt_ending ends.Keyword = pieces.Keyword
stmt_ending ends.DoWhile = pieces.DoWhile

-- where a statement stands
abbrev pub place_of : Position → pure.Place
place_of (positions.Item returns) = pure.AnItem returns
place_of (positions.Alone returns) = pure.AStmt returns

-- an expression that may be left out
abbrev pub ReturnedOf : {E : Type 0} → (E → Expr → Type 0) → Option (Ranked E) → (Option Expr → Type 0) → Type 0
ReturnedOf shows None k = k None
ReturnedOf shows (Some v) k = RankedOf shows v (λ t. k (Some t))

-- how a `return` with this value ends
abbrev pub returned_ending : {E : Type 0} → Option (Ranked E) → StmtEnding
returned_ending None = ends.Keyword
returned_ending (Some v) = ends.Value v.ending

-- a name with its initializer, and how what ends with it ends
abbrev pub EndedBindOf : {E : Type 0} → Interpretation → (E → Expr → Type 0) → EndedBind E → (Bind → Type 0) → Type 0
EndedBindOf i shows v k = MaybeOf shows v.bind.value
    (λ t. (stmt_ending v.ending ≡ bind_ending (maybe_expr_of t)) × k (record { name = named i v.bind.name; value = t }))

-- the same of one that is given
abbrev pub ShowEnded : {E : Type 0} → Interpretation → (E → Expr → Type 0) → EndedBind E → Bind → Type 0
ShowEnded i shows v b = EndedBindOf i shows v (λ x. b ≡ x)

-- a name with this initializer
abbrev pub ended_bind : {E : Type 0} → Ident → Option (Ranked E) → EndedBind E
ended_bind n None = record { bind = record { name = n; value = None }; ending = ends.BareBinding }
ended_bind n (Some v) = record { bind = record { name = n; value = Some v.node }; ending = ends.Value v.ending }

-- names with their initializers, and how what ends with them ends
abbrev pub BindsOf : {E : Type 0} → Interpretation → (E → Expr → Type 0) → Binds E → (Many Bind (Unit {0}) → Type 0) → Type 0
BindsOf i shows v k = (bs : List Bind) × ShowAll (ShowBind i shows) v.items.items bs
    × (stmt_ending v.ending ≡ binds_ending pieces.BareBinding (binds_of bs)) × k (record { items = bs; last = tt })

-- a statement
abbrev pub StmtOf : {S : Type 0} → (S → Stmt → Type 0) → StmtNode S → (Stmt → Type 0) → Type 0
StmtOf shows v k = (s : Stmt) × shows v.node s × (v.takes_else ≡ takes_else s) × k s

-- a statement that may be left out
abbrev pub MaybeStmtOf : {S : Type 0} → (S → Stmt → Type 0) → Option (StmtNode S) → (Option Stmt → Type 0) → Type 0
MaybeStmtOf shows None k = k None
MaybeStmtOf shows (Some v) k = StmtOf shows v (λ s. k (Some s))

-- the same of one that is given
abbrev pub ShowMaybeStmt : {S : Type 0} → (S → Stmt → Type 0) → Option (StmtNode S) → Option Stmt → Type 0
ShowMaybeStmt shows o t = MaybeStmtOf shows o (λ x. t ≡ x)

-- a list of nodes
abbrev pub ListOf : {E A : Type 0} → (E → A → Type 0) → Vec E Global → (List A → Type 0) → Type 0
ListOf {A = A} shows v k = (ts : List A) × ShowAll shows v.items ts × k ts

-- a list of statements, as a tree has it
abbrev pub StmtsOf : {S : Type 0} → (S → Stmt → Type 0) → Vec S Global → (Stmts → Type 0) → Type 0
StmtsOf shows v k = ListOf shows v (λ ss. k (stmts_of ss))

-- a clause of a `switch` that may be left out
abbrev pub MaybeClauseOf : {E S : Type 0} → (E → Expr → Type 0) → (S → Stmt → Type 0) → Option (NodeClause E S) → (Option Clause → Type 0) → Type 0
MaybeClauseOf shows shows_stmt None k = k None
MaybeClauseOf shows shows_stmt (Some n) k = ClauseOf shows shows_stmt n (λ c. k (Some c))

-- the offset where a body of these statements ends
abbrev pub ClosedOf : List Stmt → ℕ → (BodyRead → Type 0) → Type 0
ClosedOf ss end k = k (record { body = BracedBody (stmts_of ss); end = end })

-- a body in braces
abbrev pub BodyOf : {B : Type 0} → (B → Stmts → Type 0) → BodyNode B → (BodyRead → Type 0) → Type 0
BodyOf shows v k = (ss : Stmts) × shows v.node ss × k (record { body = BracedBody ss; end = v.end })
