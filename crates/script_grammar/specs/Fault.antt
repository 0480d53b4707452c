-- The first fault of a list of tokens: the least one up to which no script begins, or that is too deep (this project's own
-- choice of what is answered where ECMA-262, 12th edition, clause 17 asks for a SyntaxError).
use Rattle.std.specs.Prelude.{ℕ, suc, ◌<◌, List, [], ◌∷◌, ◌++◌, Bool, ◌≡◌, Option, take, get_or}
use Rattle.script_grammar.specs.declared.token.Kind.TheVariants as kind
use Rattle.script_grammar.specs.declared.token.FuncForm.{FuncForm}
use Rattle.script_grammar.specs.Lexeme.{Lexeme}
use Rattle.script_grammar.specs.Tree.{Named, Expr, Function, Stmts}
use Rattle.script_grammar.specs.Pieces.{Bodies, depths}
use Rattle.script_grammar.specs.Print.{print, print_stmts}
use Rattle.script_grammar.specs.Script.{IsStatements, IsAssign, IsExpression, IsFunction, IsBody, print_alone, print_braced}

-- the deepest that a token may be
abbrev pub depth_limit : ℕ
depth_limit = 400

-- A part of a text: tokens that are one, and how deep each of them is.
abbrev pub Part : Type 1
Part = List Lexeme → List ℕ → Type 0

-- a script with the End token after it, which is in nothing
pub record ScriptPart (m : Bodies) (depth : ℕ) (w : List Lexeme) (deep : List ℕ) : Type 0 where
  pub inner : List Lexeme
  pub end : Lexeme
  pub split : w ≡ inner ++ end ∷ []
  pub ends : end.kind ≡ kind.End
  pub items : Stmts
  pub is : IsStatements m depth inner end items
  pub deep_is : deep ≡ depths (print_stmts m depth items) inner end is.fits ++ 0 ∷ []

pub record AssignPart (m : Bodies) (with_in : Bool) (depth : ℕ) (w : List Lexeme) (deep : List ℕ) : Type 0 where
  pub next : Lexeme
  pub tree : Expr
  pub is : IsAssign m with_in depth w next tree
  pub deep_is : deep ≡ depths (print m (suc depth) tree) w next is.fits

pub record ExpressionPart (m : Bodies) (with_in : Bool) (depth : ℕ) (w : List Lexeme) (deep : List ℕ) : Type 0 where
  pub next : Lexeme
  pub tree : Expr
  pub is : IsExpression m with_in depth w next tree
  pub deep_is : deep ≡ depths (print m (suc depth) tree) w next is.fits

pub record FunctionPart (m : Bodies) (form : FuncForm) (name : Option Named) (depth : ℕ) (w : List Lexeme) (deep : List ℕ) : Type 0 where
  pub next : Lexeme
  pub tree : Function
  pub is : IsFunction m form name depth w next tree
  pub deep_is : deep ≡ depths (print_alone m depth tree) w next is.fits

pub record BodyPart (m : Bodies) (depth : ℕ) (w : List Lexeme) (deep : List ℕ) : Type 0 where
  pub next : Lexeme
  pub end : ℕ
  pub items : Stmts
  pub is : IsBody m depth end w next items
  pub deep_is : deep ≡ depths (print_braced m depth end items) w next is.fits

-- some such part begins with these tokens
pub record Begins (P : Part) (front : List Lexeme) : Type 0 where
  pub end : List Lexeme
  pub deep : List ℕ
  pub is : P (front ++ end) deep

-- and in it the token of this number is deeper than the limit
pub record BeginsDeep (P : Part) (front : List Lexeme) (k : ℕ) : Type 0 where
  pub end : List Lexeme
  pub deep : List ℕ
  pub is : P (front ++ end) deep
  pub above : depth_limit < get_or deep k 0

-- token k of a text is viable where some part begins with the tokens up to and including it
abbrev pub Viable : Part → List Lexeme → ℕ → Type 0
Viable P ts k = Begins P (take (suc k) ts)

-- token k is deep where such a part gives it a depth above the limit
abbrev pub IsDeep : Part → List Lexeme → ℕ → Type 0
IsDeep P ts k = BeginsDeep P (take (suc k) ts) k

pub data Refusal : Type 0 where
  Unexpected : Refusal
  TooDeep : Refusal

abbrev pub RefusedAs : Refusal → Part → List Lexeme → ℕ → Type 0
RefusedAs Unexpected P ts k = Viable P ts k → ⊥
RefusedAs TooDeep P ts k = IsDeep P ts k

-- The fault is the least token that is not viable, or that is deep.
pub record FirstFault (P : Part) (ts : List Lexeme) (k : ℕ) (why : Refusal) : Type 0 where
  pub before : (j : ℕ) → j < k → Viable P ts j × (IsDeep P ts j → ⊥)
  pub refused : RefusedAs why P ts k
