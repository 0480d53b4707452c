-- The statement that each line is, by the offsets of its name, its middle, its number and its tail.
use Rattle.std.proofs.Common.{◌≡◌, ℕ, ◌+◌, List, ◌∷◌, ◌++◌, Bool, true, false, codes, refl, arith, Some, None}
use Rattle.script_grammar.specs.declared.token.Decl.TheVariants as decl
use Rattle.script_grammar.specs.declared.token.FuncForm.TheVariants as form
use Rattle.script_grammar.specs.declared.token.Kind.{Kind}
use Rattle.script_grammar.specs.declared.token.mark.TheConstants as mark
use Rattle.script_grammar.specs.Lexeme.{Lexeme}
use Rattle.script_grammar.specs.Pieces.{whole, Piece, Slot, slot, Is, IsWanted, Has, AllAre, Fits}
use Rattle.script_grammar.specs.Print.{print_stmt}
use Rattle.script_grammar.specs.Proper.{ProperStmt}
use Rattle.script_grammar.specs.Tree as tree
use Rattle.script_grammar.specs.Tree.{Named, no_expr, some_expr, no_operands, more_operands, no_tails, more_tails, no_props, more_props, function, no_params, more_params, no_binds, more_binds, Stmt, no_stmts, more_stmts, no_stmt}
use Rattle.session_trial_laws.proofs.Lines.{tokens}
use Rattle.session_trial_laws.proofs.Shallow.{is_shallow}
use Rattle.session_trial_laws.proofs.Shapes.{function_shape, counter_shape, loop_shape, object_shape}

-- a token that stands at a place, with no line end before it
stands : {s : Slot} {t : Lexeme} → IsWanted s.kind t.kind → Has s.content t → AllAre s.starts t.start → AllAre s.ends t.end → t.after_line ≡ false → Is s t
stands k c b e l = record { kind = k; content = c; starts = b; ends = e; line = λ _. l }

-- the first token of a line
stands_first : {k : Kind} {d : ℕ} {t : Lexeme} → t.kind ≡ k → Is (slot k d) t
stands_first e = record { kind = e; content = tt; starts = tt; ends = tt; line = λ no. absurd (cc) }

-- a token, and those after it
infixr 5 ◌▸◌
◌▸◌ : {A B : Type 0} → A → B → A × B
x ▸ y = (x, y)

abbrev named : List ℕ → ℕ → Named
named text at = record { text = text; at = at }

-- a function declaration
abbrev pub function_tree : (b m k t : ℕ) → List ℕ → ℕ → Stmt
function_tree b m k t n i =
    tree.Declared (function form.Function (m + 0) (t + 3) (Some (named (0x66 ∷ n) b)) (more_params (named (codes "a") (m + 1)) no_expr false (more_params (named (codes "b") (m + 4)) no_expr false no_params)) false false
    (tree.BracedBody (more_stmts (tree.Return (some_expr
    (tree.Binary (tree.Name (named (codes "a") (m + 16))) (more_operands mark.PLUS false
    (tree.Binary (tree.Name (named (codes "b") (m + 20))) (more_operands mark.TIMES false (tree.Number k i) no_operands)) no_operands))) true) no_stmts)))

pub function_proper : (b m k t : ℕ) (n : List ℕ) (i : ℕ) → ProperStmt whole false (function_tree b m k t n i)
function_proper b m k t n i = (tt, (tt, tt, tt, (tt, (tt, tt)), ((refl, (tt, omega arith, omega arith, tt, (refl, omega arith, (tt, omega arith, omega arith, tt, (refl, omega arith, tt, tt)), tt))), tt)))

pub function_fits : (after : Bool) (o b m k t : ℕ) (n : List ℕ) (i : ℕ) (ps : List Piece) (ts : List Lexeme) (next : Lexeme) → Fits ps ts next
    → Fits (print_stmt whole 1 (function_tree b m k t n i) ++ ps) (tokens function_shape after o b m k t n i ++ ts) next
function_fits after o b m k t n i ps ts next f =
    stands_first refl ▸ stands refl refl (refl, tt) tt refl ▸ stands refl tt (refl, tt) tt refl ▸ stands refl refl (refl, tt) tt refl ▸
    stands refl tt tt tt refl ▸ stands refl refl (refl, tt) tt refl ▸ stands refl tt tt tt refl ▸ stands refl tt tt tt refl ▸ stands refl tt tt tt refl ▸
    stands refl refl (refl, tt) tt refl ▸ stands refl tt tt tt refl ▸ stands refl refl (refl, tt) tt refl ▸ stands refl tt tt tt refl ▸
    stands refl refl (refl, tt) tt refl ▸ stands refl tt tt tt refl ▸ stands refl tt tt (refl, tt) refl ▸ f

pub function_shallow : (b m k t : ℕ) (n : List ℕ) (i : ℕ) (ps : List Piece) → is_shallow (print_stmt whole 1 (function_tree b m k t n i) ++ ps) ≡ is_shallow ps
function_shallow b m k t n i ps = refl

-- a function expression with an arrow in it
abbrev pub counter_tree : (b m k t : ℕ) → List ℕ → ℕ → Stmt
counter_tree b m k t n i =
    tree.Binding decl.Var (more_binds (named (0x76 ∷ n) b) (some_expr (tree.Func (m + 3) (function form.Function (m + 12) (t + 21) None no_params false false
    (tree.BracedBody (more_stmts (tree.Binding decl.Var (more_binds (named (codes "c") (m + 21)) (some_expr (tree.Number k i)) no_binds) true)
    (more_stmts (tree.Return (some_expr (tree.Func (t + 9) (function form.Arrow (t + 9) (t + 18) None no_params false false
    (tree.ShortBody (tree.Update (t + 15) mark.INCREMENT false (tree.Name (named (codes "c") (t + 15)))))))) true) no_stmts)))))) no_binds) true

pub counter_proper : (b m k t : ℕ) (n : List ℕ) (i : ℕ) → ProperStmt whole false (counter_tree b m k t n i)
counter_proper b m k t n i = (tt, ((omega arith, (tt, (refl, tt, tt, tt, ((tt, ((omega arith, tt), tt)), ((refl, ((refl, refl), (refl, tt, tt, tt, (refl, omega arith, refl, (refl, omega arith, tt))))), tt))))), tt))

pub counter_fits : (after : Bool) (o b m k t : ℕ) (n : List ℕ) (i : ℕ) (ps : List Piece) (ts : List Lexeme) (next : Lexeme) → Fits ps ts next
    → Fits (print_stmt whole 1 (counter_tree b m k t n i) ++ ps) (tokens counter_shape after o b m k t n i ++ ts) next
counter_fits after o b m k t n i ps ts next f =
    stands_first refl ▸ stands refl refl (refl, tt) tt refl ▸ stands refl tt tt tt refl ▸ stands refl tt (refl, tt) tt refl ▸
    stands refl tt (refl, tt) tt refl ▸ stands refl tt tt tt refl ▸ stands refl tt tt tt refl ▸ stands refl tt tt tt refl ▸
    stands refl refl (refl, tt) tt refl ▸ stands refl tt tt tt refl ▸ stands refl refl (refl, tt) tt refl ▸ stands refl tt tt tt refl ▸
    stands refl tt tt tt refl ▸ stands refl tt (refl, tt) tt refl ▸ stands refl tt tt tt refl ▸ stands refl tt tt tt refl ▸
    stands refl refl (refl, (refl, tt)) tt refl ▸ stands refl tt tt (refl, tt) refl ▸ stands refl tt tt tt refl ▸ stands refl tt tt (refl, tt) refl ▸
    stands refl tt tt tt refl ▸ f

pub counter_shallow : (b m k t : ℕ) (n : List ℕ) (i : ℕ) (ps : List Piece) → is_shallow (print_stmt whole 1 (counter_tree b m k t n i) ++ ps) ≡ is_shallow ps
counter_shallow b m k t n i ps = refl

-- a loop in a function
abbrev pub loop_tree : (b m k t : ℕ) → List ℕ → ℕ → Stmt
loop_tree b m k t n i =
    tree.Declared (function form.Function (m + 0) (t + 12) (Some (named (0x67 ∷ n) b)) (more_params (named (codes "n") (m + 1)) no_expr false no_params) false false
    (tree.BracedBody (more_stmts (tree.For (tree.BindsInit decl.Let (more_binds (named (codes "j") (m + 15)) (some_expr (tree.Number (m + 19) 0)) no_binds))
    (some_expr (tree.Binary (tree.Name (named (codes "j") (m + 22))) (more_operands mark.LESS false (tree.Name (named (codes "n") (m + 26))) no_operands)))
    (some_expr (tree.Update (m + 29) mark.INCREMENT false (tree.Name (named (codes "j") (m + 29)))))
    (tree.Block (more_stmts (tree.If (tree.Binary (tree.Name (named (codes "j") (m + 40))) (more_operands mark.GREATER false (tree.Number k i) no_operands)) (tree.Break (t + 2) None true) no_stmt) no_stmts))) no_stmts)))

pub loop_proper : (b m k t : ℕ) (n : List ℕ) (i : ℕ) → ProperStmt whole false (loop_tree b m k t n i)
loop_proper b m k t n i = (tt, (tt, tt, tt, (tt, tt), (((tt, refl, ((omega arith, tt), tt)), (tt, omega arith, omega arith, tt, (refl, omega arith, tt, tt)), (refl, omega arith, tt), refl, (((tt, omega arith, omega arith, tt, (refl, omega arith, tt, tt)), refl, tt, tt, tt), tt)), tt)))

pub loop_fits : (after : Bool) (o b m k t : ℕ) (n : List ℕ) (i : ℕ) (ps : List Piece) (ts : List Lexeme) (next : Lexeme) → Fits ps ts next
    → Fits (print_stmt whole 1 (loop_tree b m k t n i) ++ ps) (tokens loop_shape after o b m k t n i ++ ts) next
loop_fits after o b m k t n i ps ts next f =
    stands_first refl ▸ stands refl refl (refl, tt) tt refl ▸ stands refl tt (refl, tt) tt refl ▸ stands refl refl (refl, tt) tt refl ▸
    stands refl tt tt tt refl ▸ stands refl tt tt tt refl ▸ stands refl tt tt tt refl ▸ stands refl tt tt tt refl ▸ stands refl tt tt tt refl ▸
    stands refl refl (refl, tt) tt refl ▸ stands refl tt tt tt refl ▸ stands refl refl (refl, tt) tt refl ▸ stands refl tt tt tt refl ▸
    stands refl refl (refl, tt) tt refl ▸ stands refl tt tt tt refl ▸ stands refl refl (refl, tt) tt refl ▸ stands refl tt tt tt refl ▸
    stands refl refl (refl, (refl, tt)) tt refl ▸ stands refl tt tt tt refl ▸ stands refl tt tt tt refl ▸ stands refl tt tt tt refl ▸
    stands refl tt tt tt refl ▸ stands refl tt tt tt refl ▸ stands refl refl (refl, tt) tt refl ▸ stands refl tt tt tt refl ▸
    stands refl refl (refl, tt) tt refl ▸ stands refl tt tt tt refl ▸ stands refl tt (refl, tt) tt refl ▸ stands refl tt tt tt refl ▸
    stands refl tt tt tt refl ▸ stands refl tt tt (refl, tt) refl ▸ f

pub loop_shallow : (b m k t : ℕ) (n : List ℕ) (i : ℕ) (ps : List Piece) → is_shallow (print_stmt whole 1 (loop_tree b m k t n i) ++ ps) ≡ is_shallow ps
loop_shallow b m k t n i ps = refl

-- an object with a getter
abbrev pub object_tree : (b m k t : ℕ) → List ℕ → ℕ → Stmt
object_tree b m k t n i =
    tree.Binding decl.Var (more_binds (named (0x6F ∷ n) b) (some_expr (tree.Object (m + 3)
    (more_props (tree.Get (tree.WordKey (named (codes "x") (m + 9))) (function form.Getter (m + 10) (m + 31) None no_params false false
    (tree.BracedBody (more_stmts (tree.Return (some_expr (tree.Chain (tree.This (m + 22)) (more_tails (tree.Dot (codes "y")) no_tails))) true) no_stmts))))
    (more_props (tree.Pair (tree.WordKey (named (codes "y") (m + 33))) (tree.Number k i)) no_props)) false)) no_binds) true

pub object_proper : (b m k t : ℕ) (n : List ℕ) (i : ℕ) → ProperStmt whole false (object_tree b m k t n i)
object_proper b m k t n i = (tt, ((omega arith, (λ _. tt, ((tt, (refl, refl), (refl, (refl, refl), tt, tt, ((refl, (omega arith, tt, tt, (tt, tt))), tt))), ((tt, omega arith, tt), tt)))), tt))

pub object_fits : (after : Bool) (o b m k t : ℕ) (n : List ℕ) (i : ℕ) (ps : List Piece) (ts : List Lexeme) (next : Lexeme) → Fits ps ts next
    → Fits (print_stmt whole 1 (object_tree b m k t n i) ++ ps) (tokens object_shape after o b m k t n i ++ ts) next
object_fits after o b m k t n i ps ts next f =
    stands_first refl ▸ stands refl refl (refl, tt) tt refl ▸ stands refl tt tt tt refl ▸ stands refl tt (refl, tt) tt refl ▸ stands refl refl tt tt refl ▸
    stands refl refl (refl, tt) tt refl ▸ stands refl tt (refl, tt) tt refl ▸ stands refl tt tt tt refl ▸ stands refl tt tt tt refl ▸
    stands refl tt tt tt refl ▸ stands refl tt (refl, tt) tt refl ▸ stands refl tt tt tt refl ▸ stands refl refl tt tt refl ▸ stands refl tt tt tt refl ▸
    stands refl tt tt (refl, tt) refl ▸ stands refl tt tt tt refl ▸ stands refl refl (refl, tt) tt refl ▸ stands refl tt tt tt refl ▸
    stands refl refl (refl, tt) tt refl ▸ stands refl tt tt tt refl ▸ stands refl tt tt tt refl ▸ f

pub object_shallow : (b m k t : ℕ) (n : List ℕ) (i : ℕ) (ps : List Piece) → is_shallow (print_stmt whole 1 (object_tree b m k t n i) ++ ps) ≡ is_shallow ps
object_shallow b m k t n i ps = refl
