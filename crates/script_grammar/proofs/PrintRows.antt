-- Small trees, and how they are written, computed: the kind and the depth of each token, and each unwritten semicolon.
use Rattle.std.proofs.Common.{◌≡◌, ℕ, List, [], ◌∷◌, true, false, refl, None}
use Rattle.script_grammar.specs.declared.token.Kind.{Kind}
use Rattle.script_grammar.specs.declared.token.Kind.TheVariants.{Name, Number, Mark, Word}
use Rattle.script_grammar.specs.declared.token.mark.TheConstants as mark
use Rattle.script_grammar.specs.declared.token.word.TheConstants as word
use Rattle.script_grammar.specs.declared.token.FuncForm.TheVariants as form
use Rattle.script_grammar.specs.Tree.{Named, Expr, Stmt, Stmts, Params, no_stmts, more_stmts, no_stmt, no_exprs, more_exprs, no_expr, some_expr, no_params, more_params, no_operands, more_operands, no_tails, more_tails, function, ShortBody, BracedBody, ForIn, TargetEach, Empty}
use Rattle.script_grammar.specs.Tree as tree
use Rattle.script_grammar.specs.Pieces.{Piece, At, Gap, Pass, Wanted, Exactly, AnyWord, Ending, Operand, BracedArrow, whole}
use Rattle.script_grammar.specs.Print.{print_stmts}

data Shown : Type 0 where
  token : Kind → ℕ → Shown
  any_word : ℕ → Shown
  gap : Ending → Shown
  passed : Shown

abbrev shown_kind : Wanted → ℕ → Shown
shown_kind (Exactly k) d = token k d
shown_kind AnyWord d = any_word d

abbrev shown : List Piece → List Shown
shown [] = []
shown (At s ∷ ps) = shown_kind s.kind s.depth ∷ shown ps
shown (Gap e ∷ ps) = gap e ∷ shown ps
shown (Pass ∷ ps) = passed ∷ shown ps

abbrev written : Stmts → List Shown
written ss = shown (print_stmts whole 0 ss)

abbrev one : Stmt → Stmts
one s = more_stmts s no_stmts

abbrev name : ℕ → ℕ → Named
name c at = record { text = c ∷ []; at = at }

-- nothing
empty_row : written no_stmts ≡ []
empty_row = refl

-- `1 + 2;`
sum_row : written (one (tree.Value (tree.Binary (tree.Number 0 1) (more_operands mark.PLUS false (tree.Number 4 2) no_operands)) true)) ≡ token Number 2 ∷ token (Mark mark.PLUS) 2 ∷ token Number 2 ∷ token (Mark mark.SEMICOLON) 1 ∷ []
sum_row = refl

-- `a` and after a line end `(b)`: one statement
call_row : written (one (tree.Value (tree.Chain (tree.Name (name 97 0)) (more_tails (tree.Call (more_exprs (tree.Name (name 98 3)) no_exprs) false) no_tails)) false)) ≡ token Name 2 ∷ token (Mark mark.OPEN_PAREN) 2 ∷ token Name 3 ∷ token (Mark mark.CLOSE_PAREN) 2 ∷ gap Operand ∷ []
call_row = refl

-- `a` and after a line end `++b`: two statements
update_row : written (more_stmts (tree.Value (tree.Name (name 97 0)) false) (one (tree.Value (tree.Update 2 mark.INCREMENT true (tree.Name (name 98 4))) false))) ≡ token Name 2 ∷ gap Operand ∷ token (Mark mark.INCREMENT) 3 ∷ token Name 3 ∷ gap Operand ∷ []
update_row = refl

-- `x => {}` and after a line end `(y)`: two statements
arrow_row : written (more_stmts (tree.Value (tree.Func 0 (function form.Arrow 0 7 None (more_params (name 120 0) no_expr false no_params) false true (BracedBody no_stmts))) false) (one (tree.Value (tree.Paren 8 (tree.Name (name 121 9))) false))) ≡ token Name 2 ∷ token (Mark mark.ARROW) 2 ∷ token (Mark mark.OPEN_BRACE) 2 ∷ token (Mark mark.CLOSE_BRACE) 2 ∷ gap BracedArrow ∷ token (Mark mark.OPEN_PAREN) 2 ∷ token Name 3 ∷ token (Mark mark.CLOSE_PAREN) 2 ∷ gap Operand ∷ []
arrow_row = refl

-- `(a, 1)`
comma_row : written (one (tree.Value (tree.Paren 0 (tree.Comma (more_exprs (tree.Name (name 97 1)) (more_exprs (tree.Number 4 1) no_exprs)))) false)) ≡ token (Mark mark.OPEN_PAREN) 2 ∷ token Name 3 ∷ token (Mark mark.COMMA) 2 ∷ token Number 3 ∷ token (Mark mark.CLOSE_PAREN) 2 ∷ gap Operand ∷ []
comma_row = refl

-- `for (a.b in c);`
for_in_row : written (one (ForIn (TargetEach (tree.Chain (tree.Name (name 97 5)) (more_tails (tree.Dot (98 ∷ [])) no_tails))) (tree.Name (name 99 12)) Empty)) ≡ token (Word word.FOR) 1 ∷ token (Mark mark.OPEN_PAREN) 1 ∷ token Name 2 ∷ token (Mark mark.DOT) 2 ∷ any_word 2 ∷ token (Word word.IN) 1 ∷ token Name 2 ∷ token (Mark mark.CLOSE_PAREN) 1 ∷ token (Mark mark.SEMICOLON) 2 ∷ []
for_in_row = refl

-- `(a = 1, ...b) => a`
params_row : written (one (tree.Value (tree.Func 0 (function form.Arrow 0 18 None (more_params (name 97 1) (some_expr (tree.Number 5 1)) false (more_params (name 98 11) no_expr true no_params)) false false (ShortBody (tree.Name (name 97 17))))) false)) ≡ token (Mark mark.OPEN_PAREN) 2 ∷ token Name 3 ∷ token (Mark mark.ASSIGN) 3 ∷ token Number 4 ∷ token (Mark mark.COMMA) 2 ∷ token (Mark mark.ELLIPSIS) 3 ∷ token Name 3 ∷ token (Mark mark.CLOSE_PAREN) 2 ∷ token (Mark mark.ARROW) 2 ∷ token Name 3 ∷ gap Operand ∷ []
params_row = refl

-- `a: b`
label_row : written (one (tree.Label (name 97 0) (tree.Value (tree.Name (name 98 3)) false))) ≡ token Name 2 ∷ token (Mark mark.COLON) 1 ∷ token Name 3 ∷ gap Operand ∷ []
label_row = refl
