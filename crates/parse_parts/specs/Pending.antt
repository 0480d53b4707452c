-- Which bodies a call puts on the pending list that reads a part: the braced bodies of functions that it passes over.
--
-- Everywhere here `old` is the list where a call began, and `new` the list where it stands afterwards. The bodies after as many
-- as there were before are gained.
use Rattle.std.specs.Prelude.{ℕ, suc, ◌<◌, ◌≤◌, ◌≡◌, List, [], ◌∷◌, ◌++◌, length, map, drop, min, Bool, false, Option, None, Result, Ok, Err}
use Rattle.script_grammar.specs.declared.token.Kind.TheVariants as kind
use Rattle.script_grammar.specs.declared.token.FuncForm.{FuncForm}
use Rattle.script_grammar.specs.declared.node.NodeFunc.{NodeFunc}
use Rattle.script_grammar.specs.Braced.{in_expr, in_params, in_function, in_stmts}
use Rattle.script_grammar.specs.Fault.{depth_limit, AssignPart, ExpressionPart, BodyPart, FunctionPart}
use Rattle.script_grammar.specs.Interpretation.{Interpretation}
use Rattle.script_grammar.specs.Lexeme.{Lexeme}
use Rattle.script_grammar.specs.Pieces.{whole}
use Rattle.script_grammar.specs.Shows.{ShowAll, ShowFunc}
use Rattle.script_grammar.specs.Tree.{Named, Expr, Stmts, Body, Function, function}
use Rattle.script_grammar.specs.Tree as tree
use Rattle.grammar_parser_specs.specs.Parser.{head_of}
use Rattle.grammar_parser_specs.specs.Filling.{fill, fill_stmts, fill_function}
use Rattle.parse_exprs.specs.declared.place.ParseFault.{ParseFault}
use Rattle.parse_exprs.specs.declared.place.ParseFault.TheVariants as faults
use Rattle.parse_exprs.specs.declared.place.Pending.{Pending}
use Rattle.parse_exprs.specs.declared.place.Cursor.{Cursor}
use Rattle.parse_exprs.specs.declared.source.Source.{Source}
use Rattle.parse_exprs.specs.Env.{body_at}
use Rattle.parse_exprs.specs.Source.{front}
use Rattle.parse_bodies.specs.declared.part.BodyNode.{BodyNode}
use Rattle.parse_parts.specs.Parts.{HeadPart, Taken, fill_inside}

abbrev pub gained : (old new : List Pending) → List Pending
gained old new = drop (length old) new

-- A body with its depth as it counts: nothing is read that is deeper than the limit, so a depth above it is as good as the limit.
abbrev pub counted : Pending → Pending
counted b = record b { depth = min b.depth depth_limit }

-- each stands at a token of the text
abbrev pub AreInText : Source → List Pending → Type 0
AreInText s [] = Unit {0}
AreInText s (b ∷ bodies) = (b.token < length s.tokens.now) × AreInText s bodies

-- One after another: each begins at a token from the first of these numbers on and in front of the second, and after the one
-- before it.
abbrev pub Rise : (from to : ℕ) → List Pending → Type 0
Rise from to [] = Unit {0}
Rise from to (b ∷ bodies) = (from ≤ b.token) × (b.token < to) × Rise (suc b.token) to bodies

-- What was on the list is there as it was, and after it are bodies between the two tokens, each once, in the order of the source.
pub record Gains (s : Source) (start stop : ℕ) (old new : List Pending) : Type 0 where
  pub kept : AreInText s old → map counted new ≡ map counted (old ++ gained old new)
  pub rise : Rise start stop (gained old new)

-- The bodies stand in front of the place that is reached, or of the fault's token. Nothing is said where memory ran out.
abbrev pub IsGained : {A : Type 0} → Source → Cursor → Cursor → Result A ParseFault → Type 0
IsGained s old new (Ok _) = Gains s old.at new.at old.pending.items new.pending.items
IsGained s old new (Err (faults.Unexpected token)) = Gains s old.at token old.pending.items new.pending.items
IsGained s old new (Err (faults.TooDeep token)) = Gains s old.at token old.pending.items new.pending.items
IsGained s old new (Err faults.NoMemory) = Unit {0}

-- Where each gained body is a braced body, with the bodies of functions inside it read, the part is one with all bodies in it
-- read, and its own are the gained ones.

-- from its brace on stands a braced body with these statements, and no token of it is too deep
pub record HasStatements (i : Interpretation) (s : Source) (b : Pending) (items : Stmts) : Type 0 where
  pub behind : List Lexeme
  pub taken : Taken (BodyPart whole (counted b).depth) (front s i b.token) behind
  pub next : taken.part.next ≡ head_of behind
  pub are : taken.part.items ≡ items

abbrev pub HaveStatements : Interpretation → Source → List Pending → List Stmts → Type 0
HaveStatements i s = ShowAll (HasStatements i s)

-- The statements of the braced bodies in a function that is read alone, but for its own, in the order of the source.

abbrev pub inside_own : Body → List Stmts → List Stmts
inside_own (tree.BracedBody items) r = in_stmts false items r
inside_own (tree.ShortBody value) r = in_expr false value r

abbrev pub inside : Function → List Stmts
inside (function form start end name ps comma bare body) = in_params false ps (inside_own body [])

-- In each of these the tokens that were taken are such a part, in which the braced bodies of the outermost functions have these
-- statements, in the order of the source. The node stands for its tree, where each body has the statements that the
-- interpretation gives to its function.

pub record WholeAssign {E : Type 0} (i : Interpretation) (shows : E → Expr → Type 0) (with_in : Bool) (depth : ℕ)
    (from behind : List Lexeme) (node : E) (bodies : List Stmts) : Type 0 where
  pub taken : Taken (AssignPart whole with_in depth) from behind
  pub next : taken.part.next ≡ head_of behind
  pub shown : shows node (fill (body_at i) taken.part.tree)
  pub are : in_expr false taken.part.tree [] ≡ bodies

pub record WholeExpression {E : Type 0} (i : Interpretation) (shows : E → Expr → Type 0) (with_in : Bool) (depth : ℕ)
    (from behind : List Lexeme) (node : E) (bodies : List Stmts) : Type 0 where
  pub taken : Taken (ExpressionPart whole with_in depth) from behind
  pub next : taken.part.next ≡ head_of behind
  pub shown : shows node (fill (body_at i) taken.part.tree)
  pub are : in_expr false taken.part.tree [] ≡ bodies

-- the function's own body is the last of them
pub record WholeHead {E B : Type 0} (i : Interpretation) (shows : E → Expr → Type 0) (shows_body : B → Stmts → Type 0) (form : FuncForm)
    (name : Option Named) (depth : ℕ) (from behind : List Lexeme) (node : NodeFunc E B) (bodies : List Stmts) : Type 0 where
  pub taken : Taken (HeadPart whole form name depth) from behind
  pub next : taken.part.next ≡ head_of behind
  pub shown : ShowFunc i shows shows_body node (fill_function (body_at i) taken.part.tree)
  pub are : in_function false taken.part.tree [] ≡ bodies

-- those inside the body
pub record WholeBody {B : Type 0} (i : Interpretation) (shows : B → Stmts → Type 0) (depth end : ℕ) (from behind : List Lexeme) (node : B)
    (bodies : List Stmts) : Type 0 where
  pub taken : Taken (BodyPart whole depth) from behind
  pub next : taken.part.next ≡ head_of behind
  pub ends : taken.part.end ≡ end
  pub shown : shows node (fill_stmts (body_at i) taken.part.items)
  pub are : in_stmts false taken.part.items [] ≡ bodies

-- those inside the function
pub record WholeAlone {E B : Type 0} (i : Interpretation) (shows : E → Expr → Type 0) (shows_body : B → Stmts → Type 0) (form : FuncForm)
    (depth : ℕ) (from behind : List Lexeme) (node : NodeFunc E B) (bodies : List Stmts) : Type 0 where
  pub taken : Taken (FunctionPart whole form None depth) from behind
  pub next : taken.part.next ≡ head_of behind
  pub ends : (head_of behind).kind ≡ kind.End
  pub shown : ShowFunc i shows shows_body node (fill_inside (body_at i) taken.part.tree)
  pub are : inside taken.part.tree ≡ bodies

-- so after Ok of each call

abbrev pub CompletesAssignment : {E : Type 0} → Interpretation → (E → Expr → Type 0) → Source → (with_in : Bool) → (depth : ℕ) → Cursor
    → Cursor → Result E ParseFault → Type 0
CompletesAssignment i shows s with_in depth old new (Ok node) = (bodies : List Stmts)
    → HaveStatements i s (gained old.pending.items new.pending.items) bodies
    → WholeAssign i shows with_in depth (front s i old.at) (front s i new.at) node bodies
CompletesAssignment i shows s with_in depth old new (Err _) = Unit {0}

abbrev pub CompletesExpression : {E : Type 0} → Interpretation → (E → Expr → Type 0) → Source → (with_in : Bool) → (depth : ℕ) → Cursor
    → Cursor → Result E ParseFault → Type 0
CompletesExpression i shows s with_in depth old new (Ok node) = (bodies : List Stmts)
    → HaveStatements i s (gained old.pending.items new.pending.items) bodies
    → WholeExpression i shows with_in depth (front s i old.at) (front s i new.at) node bodies
CompletesExpression i shows s with_in depth old new (Err _) = Unit {0}

abbrev pub CompletesHead : {E B : Type 0} → Interpretation → (E → Expr → Type 0) → (B → Stmts → Type 0) → Source → FuncForm → Option Named
    → (depth : ℕ) → Cursor → Cursor → Result (NodeFunc E B) ParseFault → Type 0
CompletesHead i shows shows_body s form name depth old new (Ok node) = (bodies : List Stmts)
    → HaveStatements i s (gained old.pending.items new.pending.items) bodies
    → WholeHead i shows shows_body form name depth (front s i old.at) (front s i new.at) node bodies
CompletesHead i shows shows_body s form name depth old new (Err _) = Unit {0}

abbrev pub CompletesBody : {B : Type 0} → Interpretation → (B → Stmts → Type 0) → Source → (depth : ℕ) → Cursor → Cursor
    → Result (BodyNode B) ParseFault → Type 0
CompletesBody i shows s depth old new (Ok read) = (bodies : List Stmts)
    → HaveStatements i s (gained old.pending.items new.pending.items) bodies
    → WholeBody i shows depth read.end (front s i old.at) (front s i new.at) read.node bodies
CompletesBody i shows s depth old new (Err _) = Unit {0}

abbrev pub CompletesAlone : {E B : Type 0} → Interpretation → (E → Expr → Type 0) → (B → Stmts → Type 0) → Source → FuncForm → Cursor
    → Cursor → Result (NodeFunc E B) ParseFault → Type 0
CompletesAlone i shows shows_body s form old new (Ok node) = (bodies : List Stmts)
    → HaveStatements i s (gained old.pending.items new.pending.items) bodies
    → WholeAlone i shows shows_body form 0 (front s i old.at) (front s i new.at) node bodies
CompletesAlone i shows shows_body s form old new (Err _) = Unit {0}
