-- What is read of a part alone: which tokens, which tree the node stands for, and where the first fault is.
--
-- Everywhere here `from` are the tokens of the text from the place on where a call began, and `after` those from the place on
-- where it stands afterwards. Braced bodies of functions are passed over: they are looked at as tokens whose brackets match.
use Rattle.std.specs.Prelude.{ℕ, ◌≤◌, ◌-◌, ◌≡◌, List, [], ◌∷◌, ◌++◌, get_or, take, Bool, Option, None}
use Rattle.script_grammar.specs.declared.token.Kind.TheVariants as kind
use Rattle.script_grammar.specs.declared.token.FuncForm.{FuncForm}
use Rattle.script_grammar.specs.declared.node.NodeFunc.{NodeFunc}
use Rattle.script_grammar.specs.Interpretation.{Interpretation}
use Rattle.script_grammar.specs.Lexeme.{Lexeme}
use Rattle.script_grammar.specs.Shows.{ShowFunc}
use Rattle.script_grammar.specs.Tree.{Named, Expr, Stmts, Body, Function, function}
use Rattle.script_grammar.specs.Tree as tree
use Rattle.script_grammar.specs.Pieces.{Bodies, passed, Fits, depths}
use Rattle.script_grammar.specs.Print.{print_function}
use Rattle.script_grammar.specs.Proper.{ProperFunction}
use Rattle.script_grammar.specs.Script.{IsOf}
use Rattle.script_grammar.specs.Fault.{depth_limit, Part, Begins, Refusal, FirstFault, AssignPart, ExpressionPart, BodyPart, FunctionPart}
use Rattle.grammar_parser_specs.specs.Parser.{head_of}
use Rattle.grammar_parser_specs.specs.Filling.{fill, fill_params, fill_stmts, fill_function}
use Rattle.parse_exprs.specs.Env.{body_at}

-- A function that is no arrow (ECMA-262, 12th edition, clause 15), from its parameters on up to the end of its braced body,
-- which is looked at as the first argument says.
pub record IsHead (m : Bodies) (form : FuncForm) (name : Option Named) (depth : ℕ) (w : List Lexeme) (next : Lexeme) (f : Function) : Type 0 where
  pub of : IsOf form name f
  pub proper : ProperFunction m f
  pub fits : Fits (print_function m depth f) w next

pub record HeadPart (m : Bodies) (form : FuncForm) (name : Option Named) (depth : ℕ) (w : List Lexeme) (deep : List ℕ) : Type 0 where
  pub next : Lexeme
  pub tree : Function
  pub is : IsHead m form name depth w next tree
  pub deep_is : deep ≡ depths (print_function m depth tree) w next is.fits

-- the tokens between the two places are such a part, and none of them is too deep
pub record Taken (P : Part) (from behind : List Lexeme) : Type 0 where
  pub tokens : List Lexeme
  pub split : from ≡ tokens ++ behind
  pub deep : List ℕ
  pub part : P tokens deep
  pub shallow : (j : ℕ) → get_or deep j 0 ≤ depth_limit

-- the tokens that were taken and the next one together begin no such part
abbrev pub IsLongest : Part → (tokens behind : List Lexeme) → Type 0
IsLongest P tokens behind = Begins P (tokens ++ head_of behind ∷ []) → ⊥

-- The first fault of such a part of these tokens, the first of which has the number `start`, is the token of this number.
pub record Refused (P : Part) (from : List Lexeme) (start token : ℕ) (why : Refusal) : Type 0 where
  pub not_before : start ≤ token
  pub first : FirstFault P from (token - start) why

-- a function whose own statements stay, with the bodies of functions inside it that are given for their starts

abbrev pub fill_own : (ℕ → Body) → Body → Body
fill_own bodies (tree.BracedBody items) = tree.BracedBody (fill_stmts bodies items)
fill_own bodies (tree.ShortBody value) = tree.ShortBody (fill bodies value)

abbrev pub fill_inside : (ℕ → Body) → Function → Function
fill_inside bodies (function form start end name ps comma bare body) = function form start end name (fill_params bodies ps) comma bare
    (fill_own bodies body)

-- In each of these the node stands for the tree of the tokens that were taken, where each body that was passed over has the
-- statements that the interpretation gives to its function.

pub record TakesAssign {E : Type 0} (i : Interpretation) (shows : E → Expr → Type 0) (with_in : Bool) (depth : ℕ)
    (from behind : List Lexeme) (node : E) : Type 0 where
  pub taken : Taken (AssignPart passed with_in depth) from behind
  pub next : taken.part.next ≡ head_of behind
  pub shown : shows node (fill (body_at i) taken.part.tree)
  pub longest : IsLongest (AssignPart passed with_in depth) taken.tokens behind

pub record TakesExpression {E : Type 0} (i : Interpretation) (shows : E → Expr → Type 0) (with_in : Bool) (depth : ℕ)
    (from behind : List Lexeme) (node : E) : Type 0 where
  pub taken : Taken (ExpressionPart passed with_in depth) from behind
  pub next : taken.part.next ≡ head_of behind
  pub shown : shows node (fill (body_at i) taken.part.tree)
  pub longest : IsLongest (ExpressionPart passed with_in depth) taken.tokens behind

pub record TakesHead {E B : Type 0} (i : Interpretation) (shows : E → Expr → Type 0) (shows_body : B → Stmts → Type 0) (form : FuncForm)
    (name : Option Named) (depth : ℕ) (from behind : List Lexeme) (node : NodeFunc E B) : Type 0 where
  pub taken : Taken (HeadPart passed form name depth) from behind
  pub next : taken.part.next ≡ head_of behind
  pub shown : ShowFunc i shows shows_body node (fill_function (body_at i) taken.part.tree)

pub record TakesBody {B : Type 0} (i : Interpretation) (shows : B → Stmts → Type 0) (depth end : ℕ) (from behind : List Lexeme)
    (node : B) : Type 0 where
  pub taken : Taken (BodyPart passed depth) from behind
  pub next : taken.part.next ≡ head_of behind
  pub ends : taken.part.end ≡ end
  pub shown : shows node (fill_stmts (body_at i) taken.part.items)

-- after the function only the End token stands
pub record TakesAlone {E B : Type 0} (i : Interpretation) (shows : E → Expr → Type 0) (shows_body : B → Stmts → Type 0) (form : FuncForm)
    (depth : ℕ) (from behind : List Lexeme) (node : NodeFunc E B) : Type 0 where
  pub taken : Taken (FunctionPart passed form None depth) from behind
  pub next : taken.part.next ≡ head_of behind
  pub ends : (head_of behind).kind ≡ kind.End
  pub shown : ShowFunc i shows shows_body node (fill_inside (body_at i) taken.part.tree)

-- The first tokens of these, n, are no such part whole, or one of them is too deep. Where they are the most that begin
-- such a part, it is read nowhere: the longest list of tokens that begins one is none.
pub record NoneWhole (P : Part) (from : List Lexeme) (count : ℕ) : Type 0 where
  pub none : (deep : List ℕ) → P (take count from) deep → ((j : ℕ) → get_or deep j 0 ≤ depth_limit) → ⊥

-- Where no token after a part matters there is none at all: what ends with a brace stands nowhere, and a function not in front
-- of the End token.

pub record NoHead (form : FuncForm) (name : Option Named) (depth : ℕ) (from : List Lexeme) : Type 0 where
  pub none : (behind : List Lexeme) (there : Taken (HeadPart passed form name depth) from behind) → there.part.next ≡ head_of behind → ⊥

pub record NoBody (depth : ℕ) (from : List Lexeme) : Type 0 where
  pub none : (behind : List Lexeme) (there : Taken (BodyPart passed depth) from behind) → there.part.next ≡ head_of behind → ⊥

pub record NoFunction (form : FuncForm) (depth : ℕ) (from : List Lexeme) : Type 0 where
  pub none : (behind : List Lexeme) (there : Taken (FunctionPart passed form None depth) from behind) → there.part.next ≡ head_of behind
      → (head_of behind).kind ≡ kind.End → ⊥
