-- What each call answers that reads a part of a script alone.
--
-- Everywhere here `start` is the number of the token where a call began, and `stop` that of the token where it stands afterwards.
use Rattle.std.specs.Prelude.{ℕ, ◌-◌, ◌<◌, ◌≡◌, List, [], ◌∷◌, ◌++◌, length, Bool, Option, Some, None, Result, Ok, Err}
use Rattle.script_grammar.specs.declared.node.NodeFunc.{NodeFunc}
use Rattle.script_grammar.specs.declared.token.FuncForm.{FuncForm}
use Rattle.script_grammar.specs.Fault.{Part, AssignPart, ExpressionPart, BodyPart, FunctionPart, Unexpected, TooDeep}
use Rattle.script_grammar.specs.Interpretation.{Interpretation}
use Rattle.script_grammar.specs.Pieces.{passed}
use Rattle.script_grammar.specs.Tree.{Named, Expr, Stmts}
use Rattle.parse_exprs.specs.declared.place.ParseFault.{ParseFault}
use Rattle.parse_exprs.specs.declared.place.ParseFault.TheVariants as faults
use Rattle.parse_exprs.specs.declared.place.Pending.{Pending}
use Rattle.parse_exprs.specs.declared.source.Source.{Source}
use Rattle.parse_exprs.specs.Source.{front}
use Rattle.parse_bodies.specs.declared.part.BodyNode.{BodyNode}
use Rattle.parse_parts.specs.Parts.{Refused, NoneWhole, NoHead, NoBody, NoFunction, HeadPart, TakesAssign, TakesExpression, TakesHead}
use Rattle.parse_parts.specs.Parts.{TakesBody, TakesAlone}

-- There is no such part, and its first fault in the tokens from there on is the one that is named. Nothing is said where memory
-- ran out.
abbrev pub IsRefused : Part → (none : Type 0) → Interpretation → Source → (start : ℕ) → ParseFault → Type 0
IsRefused P none i s start (faults.Unexpected token) = Refused P (front s i start) start token Unexpected × none
IsRefused P none i s start (faults.TooDeep token) = Refused P (front s i start) start token TooDeep × none
IsRefused P none i s start faults.NoMemory = Unit {0}

-- The same of a part that other tokens may go on with: the tokens before the fault, which are the most that begin one, are none.
abbrev pub IsUnread : Part → Interpretation → Source → (start : ℕ) → ParseFault → Type 0
IsUnread P i s start (faults.Unexpected token) = Refused P (front s i start) start token Unexpected × NoneWhole P (front s i start) (token - start)
IsUnread P i s start (faults.TooDeep token) = Refused P (front s i start) start token TooDeep × NoneWhole P (front s i start) (token - start)
IsUnread P i s start faults.NoMemory = Unit {0}

-- What each call answers: the part was read, up to a token of the text, or there is none.

abbrev pub IsAssignment : {E : Type 0} → Interpretation → (E → Expr → Type 0) → Source → (with_in : Bool) → (depth start stop : ℕ)
    → Result E ParseFault → Type 0
IsAssignment i shows s with_in depth start stop (Ok node) = (stop < length s.tokens.now)
    × TakesAssign i shows with_in depth (front s i start) (front s i stop) node
IsAssignment i shows s with_in depth start stop (Err fault) = IsUnread (AssignPart passed with_in depth) i s start fault

abbrev pub IsExpression : {E : Type 0} → Interpretation → (E → Expr → Type 0) → Source → (with_in : Bool) → (depth start stop : ℕ)
    → Result E ParseFault → Type 0
IsExpression i shows s with_in depth start stop (Ok node) = (stop < length s.tokens.now)
    × TakesExpression i shows with_in depth (front s i start) (front s i stop) node
IsExpression i shows s with_in depth start stop (Err fault) = IsUnread (ExpressionPart passed with_in depth) i s start fault

-- a function that is no arrow, from its parameters on
abbrev pub IsHeaded : {E B : Type 0} → Interpretation → (E → Expr → Type 0) → (B → Stmts → Type 0) → Source → FuncForm → Option Named
    → (depth start stop : ℕ) → Result (NodeFunc E B) ParseFault → Type 0
IsHeaded i shows shows_body s form name depth start stop (Ok node) = (stop < length s.tokens.now)
    × TakesHead i shows shows_body form name depth (front s i start) (front s i stop) node
IsHeaded i shows shows_body s form name depth start stop (Err fault) = IsRefused (HeadPart passed form name depth)
    (NoHead form name depth (front s i start)) i s start fault

-- a braced body, and the offset where it ends
abbrev pub IsBraced : {B : Type 0} → Interpretation → (B → Stmts → Type 0) → Source → (depth start stop : ℕ) → Result (BodyNode B) ParseFault → Type 0
IsBraced i shows s depth start stop (Ok read) = (stop < length s.tokens.now)
    × TakesBody i shows depth read.end (front s i start) (front s i stop) read.node
IsBraced i shows s depth start stop (Err fault) = IsRefused (BodyPart passed depth) (NoBody depth (front s i start)) i s start fault

-- a function that is all of the text, from its parameters on
abbrev pub IsAlone : {E B : Type 0} → Interpretation → (E → Expr → Type 0) → (B → Stmts → Type 0) → Source → FuncForm → (start stop : ℕ)
    → Result (NodeFunc E B) ParseFault → Type 0
IsAlone i shows shows_body s form start stop (Ok node) = (stop < length s.tokens.now)
    × TakesAlone i shows shows_body form 0 (front s i start) (front s i stop) node
IsAlone i shows shows_body s form start stop (Err fault) = IsRefused (FunctionPart passed form None 0)
    (NoFunction form 0 (front s i start)) i s start fault

-- the last of these bodies, where it stands in nothing
abbrev pub IsOutermost : List Pending → Option Pending → Type 0
IsOutermost bodies (Some body) = (before : List Pending) × (bodies ≡ before ++ body ∷ []) × (body.depth ≡ 0)
IsOutermost bodies None = (before : List Pending) (body : Pending) → bodies ≡ before ++ body ∷ [] → body.depth ≡ 0 → ⊥
