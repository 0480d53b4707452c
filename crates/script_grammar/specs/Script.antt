-- Which tokens are a script, and which are a part that is read alone.
use Rattle.std.specs.Prelude.{ℕ, suc, ◌≤◌, List, [], ◌∷◌, ◌++◌, Bool, true, false, ◌≡◌, Option}
use Rattle.script_grammar.specs.declared.token.mark.TheConstants as mark
use Rattle.script_grammar.specs.declared.token.FuncForm.{FuncForm}
use Rattle.script_grammar.specs.Kinds.{is_arrow_form}
use Rattle.script_grammar.specs.Lexeme.{Lexeme}
use Rattle.script_grammar.specs.Tree.{Named, Expr, Function, function, Body, Stmts, Params}
use Rattle.script_grammar.specs.Tree as tree
use Rattle.script_grammar.specs.Pieces.{Bodies, whole, Piece, Fits, mark_piece, closing_mark, until}
use Rattle.script_grammar.specs.Print.{print, print_stmts, print_params, parenthesized, param_depth, arrow_pieces}
use Rattle.script_grammar.specs.Proper.{Proper, ProperStmts, ProperParams, AreParams, SuitsForm, BareIf, rank, assign_rank, begins_brace}
use Rattle.script_grammar.specs.Proper.{free_of_in, InIf}

-- Everywhere here `w` are the tokens of the part, `next` is the token after it, and `depth` is that of what is around it.
-- The braced bodies of functions inside it are read as statements, or passed over.

-- The statements of a script (ECMA-262, 12th edition, clause 16.1): the tree obeys the grammar; its words are the kinds and
-- texts of the tokens; each offset that it keeps is that of its token; no line end stands where none may; and each
-- semicolon that is not written may be left out there.
pub record IsStatements (m : Bodies) (depth : ℕ) (w : List Lexeme) (next : Lexeme) (items : Stmts) : Type 0 where
  pub proper : ProperStmts m false items
  pub fits : Fits (print_stmts m depth items) w next

abbrev pub IsScript : List Lexeme → Lexeme → Stmts → Type 0
IsScript w next items = IsStatements whole 0 w next items

-- an AssignmentExpression (clause 13.15), with or without the operator `in`
pub record IsAssign (m : Bodies) (with_in : Bool) (depth : ℕ) (w : List Lexeme) (next : Lexeme) (e : Expr) : Type 0 where
  pub level : rank e ≤ assign_rank
  pub proper : Proper m e
  pub in_if : InIf with_in (free_of_in e)
  pub fits : Fits (print m (suc depth) e) w next

-- an Expression (clause 13.16)
pub record IsExpression (m : Bodies) (with_in : Bool) (depth : ℕ) (w : List Lexeme) (next : Lexeme) (e : Expr) : Type 0 where
  pub proper : Proper m e
  pub in_if : InIf with_in (free_of_in e)
  pub fits : Fits (print m (suc depth) e) w next

-- The parameters and the body of one function, an arrow's mark between them included (clause 15). Its own statements are
-- read; the braced bodies of functions inside it are looked at as the first argument says.

-- the form and the name of a function, which its tokens from the parameters on do not show
abbrev pub IsOf : FuncForm → Option Named → Function → Type 0
IsOf wanted who (function form start end name ps comma bare body) = (form ≡ wanted) × (name ≡ who)

abbrev pub OwnProper : Bodies → FuncForm → Body → Type 0
OwnProper m form (tree.BracedBody items) = ProperStmts m true items
OwnProper m form (tree.ShortBody value) = (is_arrow_form form ≡ true) × (rank value ≤ assign_rank) × (begins_brace value ≡ false) × Proper m value

abbrev pub ProperAlone : Bodies → Function → Type 0
ProperAlone m (function form start end name ps comma bare body) = AreParams ps comma × SuitsForm form ps comma
    × BareIf bare form start ps comma × ProperParams m ps × OwnProper m form body

-- a braced body, and the offset of its end
abbrev pub print_braced : Bodies → ℕ → ℕ → Stmts → List Piece
print_braced m d end items = mark_piece mark.OPEN_BRACE d ∷ (print_stmts m d items ++ closing_mark mark.CLOSE_BRACE end d ∷ [])

abbrev pub print_own : Bodies → ℕ → ℕ → Body → List Piece
print_own m d end (tree.BracedBody items) = print_braced m d end items
print_own m d end (tree.ShortBody value) = until end (print m (suc d) value)

abbrev pub print_alone : Bodies → ℕ → Function → List Piece
print_alone m d (function form start end name ps comma bare body) = parenthesized bare start d
    (print_params m (param_depth form bare d) d ps) comma ++ (arrow_pieces form d ++ print_own m d end body)

pub record IsFunction (m : Bodies) (form : FuncForm) (name : Option Named) (depth : ℕ) (w : List Lexeme) (next : Lexeme) (f : Function) : Type 0 where
  pub of : IsOf form name f
  pub proper : ProperAlone m f
  pub fits : Fits (print_alone m depth f) w next

-- a braced body alone, whose statements are read
pub record IsBody (m : Bodies) (depth end : ℕ) (w : List Lexeme) (next : Lexeme) (items : Stmts) : Type 0 where
  pub proper : ProperStmts m true items
  pub fits : Fits (print_braced m depth end items) w next
