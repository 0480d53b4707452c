-- The trees of the language, with texts where the code has atoms. A list or an option inside a tree is a type of its
-- own, with a function from `List` or `Option` in `TreeLists`.
use Rattle.std.specs.Prelude.{ℕ, List, Bool, Option}
use Rattle.script_grammar.specs.declared.token.FuncForm.{FuncForm}
use Rattle.script_grammar.specs.declared.token.Decl.{Decl}

-- an identifier, and the offset where it stands
pub record Named : Type 0 where
  pub text : List ℕ
  pub at : ℕ

-- `at` is the offset of the first token; `op` is the index of a word or a mark, and `is_word` tells which
-- (ECMA-262, 12th edition, clauses 13 to 16).
mutual
  -- expressions (clause 13)
  pub data Expr : Type 0 where
    This : (at : ℕ) → Expr
    Name : (name : Named) → Expr
    Null : (at : ℕ) → Expr
    True : (at : ℕ) → Expr
    False : (at : ℕ) → Expr
    Number : (at value : ℕ) → Expr
    -- from its start to after its end
    Str : (at end : ℕ) (text : List ℕ) → Expr
    -- the text up to the first `${`, and the parts
    Template : (at : ℕ) (first : List ℕ) (parts : Parts) → Expr
    -- the items, and whether a comma stands after the last
    Array : (at : ℕ) (items : Items) (comma : Bool) → Expr
    Object : (at : ℕ) (props : Props) (comma : Bool) → Expr
    -- a function expression or an arrow
    Func : (at : ℕ) (func : Function) → Expr
    Paren : (at : ℕ) (inner : Expr) → Expr
    -- members and calls
    Chain : (head : Expr) (tails : Tails) → Expr
    New : (at : ℕ) (callee : Expr) (args : MaybeArgs) → Expr
    Unary : (at op : ℕ) (of : Expr) (is_word : Bool) → Expr
    Update : (at op : ℕ) (prefix : Bool) (of : Expr) → Expr
    -- one level of binary operators
    Binary : (first : Expr) (rest : Operands) → Expr
    Cond : (test then_value else_value : Expr) → Expr
    Assign : (op : ℕ) (target value : Expr) → Expr
    Comma : (items : Exprs) → Expr

  pub data Exprs : Type 0 where
    no_exprs : Exprs
    more_exprs : Expr → Exprs → Exprs

  pub data MaybeExpr : Type 0 where
    no_expr : MaybeExpr
    some_expr : Expr → MaybeExpr

  pub data MaybeArgs : Type 0 where
    no_args : MaybeArgs
    some_args : (items : Exprs) (comma : Bool) → MaybeArgs

  -- the parts of a template: a value, and the text after it
  pub data Parts : Type 0 where
    no_parts : Parts
    more_parts : (value : Expr) (behind : List ℕ) → Parts → Parts

  -- the items of an array literal, of which some are holes
  pub data Items : Type 0 where
    no_items : Items
    more_items : MaybeExpr → Items → Items

  pub data Operands : Type 0 where
    no_operands : Operands
    more_operands : (op : ℕ) (is_word : Bool) (value : Expr) → Operands → Operands

  pub data Tails : Type 0 where
    no_tails : Tails
    more_tails : Tail → Tails → Tails

  pub data Tail : Type 0 where
    Dot : (text : List ℕ) → Tail
    Index : Expr → Tail
    Call : (items : Exprs) (comma : Bool) → Tail

  -- a property's key
  pub data Key : Type 0 where
    WordKey : Named → Key
    StrKey : Named → Key
    NumberKey : (at value : ℕ) → Key
    ComputedKey : Expr → Key

  pub data Prop : Type 0 where
    Short : Named → Prop
    Pair : Key → (value : Expr) → Prop
    Method : Key → Function → Prop
    Get : Key → Function → Prop
    Set : Key → Function → Prop

  pub data Props : Type 0 where
    no_props : Props
    more_props : Prop → Props → Props

  -- A function (clause 15): its extent is from the start of its parameters to the end of its body. `comma` says that one
  -- stands after the last parameter, `bare` that an arrow's single name has no parentheses.
  pub data Function : Type 0 where
    function : (form : FuncForm) (start end : ℕ) (name : Option Named) (params : Params) (comma bare : Bool) (body : Body) → Function

  pub data Params : Type 0 where
    no_params : Params
    more_params : Named → (value : MaybeExpr) (rest : Bool) → Params → Params

  pub data Body : Type 0 where
    BracedBody : Stmts → Body
    ShortBody : Expr → Body

  -- names with their initializers
  pub data Binds : Type 0 where
    no_binds : Binds
    more_binds : Named → (value : MaybeExpr) → Binds → Binds

  pub data Init : Type 0 where
    NoInit : Init
    ValueInit : Expr → Init
    BindsInit : Decl → Binds → Init

  -- what a for-in loop gives its keys to
  pub data Each : Type 0 where
    TargetEach : Expr → Each
    BindEach : Decl → Named → Each

  -- a switch's clauses; one without a test is the default
  pub data Clauses : Type 0 where
    no_clauses : Clauses
    more_clauses : (test : MaybeExpr) (items : Stmts) → Clauses → Clauses

  -- statements (clause 14); `semi` says that the semicolon is written
  pub data Stmt : Type 0 where
    Block : Stmts → Stmt
    Empty : Stmt
    Debugger : (semi : Bool) → Stmt
    Binding : Decl → Binds → (semi : Bool) → Stmt
    Value : Expr → (semi : Bool) → Stmt
    If : (test : Expr) (then_stmt : Stmt) (else_stmt : MaybeStmt) → Stmt
    Do : (body : Stmt) (test : Expr) (semi : Bool) → Stmt
    While : (test : Expr) (body : Stmt) → Stmt
    For : Init → (test update : MaybeExpr) (body : Stmt) → Stmt
    ForIn : Each → (over : Expr) (body : Stmt) → Stmt
    Continue : (at : ℕ) (label : Option Named) (semi : Bool) → Stmt
    Break : (at : ℕ) (label : Option Named) (semi : Bool) → Stmt
    Return : (value : MaybeExpr) (semi : Bool) → Stmt
    Throw : Expr → (semi : Bool) → Stmt
    Switch : (of : Expr) → Clauses → Stmt
    Label : Named → (body : Stmt) → Stmt
    Try : (body : Stmts) (param : Option Named) (handler : Stmts) → Stmt
    Declared : Function → Stmt

  pub data Stmts : Type 0 where
    no_stmts : Stmts
    more_stmts : Stmt → Stmts → Stmts

  pub data MaybeStmt : Type 0 where
    no_stmt : MaybeStmt
    some_stmt : Stmt → MaybeStmt
