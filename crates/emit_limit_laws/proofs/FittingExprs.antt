-- The counts of expressions fit: those of arguments, since too many are an early error; those of an array's items, since its
-- print has a token for each of them.
use Rattle.std.proofs.Common.{◌≡◌, ℕ, zero, suc, ◌^◌, ◌≤◌, ◌<◌, List, [], ◌∷◌, ◌++◌, length, true, false, arith}
use Rattle.script_grammar.specs.declared.token.mark.TheConstants as mark
use Rattle.script_grammar.specs.Tree.{Named, Expr, Exprs, no_exprs, more_exprs, MaybeExpr, no_expr, some_expr, MaybeArgs, no_args, some_args, Parts, no_parts, more_parts, Items, no_items, more_items, Operands, no_operands, more_operands, Tail, Tails, no_tails, more_tails, Key, Prop, Props, no_props, more_props, Function, function, Binds, no_binds, more_binds, Init, Each}
use Rattle.script_grammar.specs.Tree as tree
use Rattle.script_grammar.specs.Pieces.{whole, Piece, comma_piece, mark_piece}
use Rattle.script_grammar.specs.Print.{print, print_list, print_more, print_maybe, print_args, print_parts, print_items, print_more_items, print_operands, print_tails, print_tail, print_key, print_props, print_more_props, print_prop, print_function, print_initializer, print_binds, print_more_binds, print_init, print_each, print_test, above}
use Rattle.parse_track.specs.Notes.{limit, args_error, notes_expr, notes_exprs, notes_maybe, notes_args, notes_parts, notes_items, notes_operands, notes_tails, notes_tail, notes_key, notes_prop, notes_props, notes_function, notes_binds, notes_init, notes_each}
use Rattle.emit_exprs.specs.Exprs.{args_size, items_size}
use Rattle.emit_exprs.specs.Fitting.{ExprFits, ExprsFit, MaybeExprFits, MaybeArgsFit, PartsFit, ItemsFit, OperandsFit, TailsFit, TailFits, KeyFits, PropFits, PropsFit}
use Rattle.emit_stmts.specs.StmtFits.{BindsFit, InitFits, EachFits}
use Rattle.emit_limit_laws.specs.Asked.{Asked}
use Rattle.emit_limit_laws.specs.Places.{depths_of}
use Rattle.emit_limit_laws.proofs.Asking.{given, both, past, after, noted, fits_from, said, counted, noting, three}
use Rattle.emit_limit_laws.proofs.Measures.{length_both, cons_none}

args_up_to : (left : ℕ) (es : Exprs) → args_error left es ≡ [] → args_size es ≤ left
args_up_to left no_exprs n = omega arith
args_up_to zero (more_exprs e es) n = absurd (cons_none _ _ n)
args_up_to (suc left) (more_exprs e es) n = let h = args_up_to left es n in omega (arith, h)

few_args : (es : Exprs) → args_error limit es ≡ [] → args_size es < 2 ^ 16
few_args es n = let h = args_up_to limit es n in omega (arith, h)

more_items_size : (d : ℕ) (is : Items) → items_size is ≤ length (depths_of (print_more_items whole d is))
more_items_size d no_items = omega arith
more_items_size d (more_items i is) =
    let h = more_items_size d is in
    let e = length_both (print_maybe whole (suc d) i) (print_more_items whole d is) in
    omega (arith, h, e)

few_items : (d : ℕ) (is : Items) (qs : List Piece) → suc (length (depths_of (print_items whole d is ++ qs))) < 2 ^ 32 → items_size is < 2 ^ 32
few_items d no_items qs h = omega arith
few_items d (more_items i is) qs h =
    let k = more_items_size d is in
    let e = length_both (print_maybe whole (suc d) i) (print_more_items whole d is) in
    let f = length_both (print_items whole d (more_items i is)) qs in
    omega (arith, h, k, e, f)

key_alone : {A : Type 0} → A × Unit {0} → A
key_alone h = h.0

of_function : (d : ℕ) (f : Function) → Asked (Unit {0}) (print_function whole d f) (notes_function f)
of_function d f = given tt

mutual
  pub fits : (d : ℕ) (x : Expr) → Asked (ExprFits x) (print whole d x) (notes_expr x)
  fits d (tree.This at) = given tt
  fits d (tree.Name name) = given tt
  fits d (tree.Null at) = given tt
  fits d (tree.True at) = given tt
  fits d (tree.False at) = given tt
  fits d (tree.Number at value) = given tt
  fits d (tree.Str at end text) = given tt
  fits d (tree.Template at first parts) = past (fits_parts d parts)
  fits d (tree.Array at items comma) = counted (λ few. few_items d items (comma_piece comma d ++ mark_piece mark.CLOSE_BRACKET d ∷ []) few) (past (after _ (fits_items d items)))
  fits d (tree.Object at props comma) = noted _ (past (after _ (fits_props d props)))
  fits d (tree.Func at f) = given tt
  fits d (tree.Paren at inner) = past (after _ (fits (suc d) inner))
  fits d (tree.Chain head tails) = both (fits d head) (fits_tails d tails)
  fits d (tree.New at callee args) = past (both (fits (suc d) callee) (fits_args (suc d) args))
  fits d (tree.Unary at op of is_word) = noted _ (past (fits (suc d) of))
  fits d (tree.Update at op true of) = noted _ (past (fits (suc d) of))
  fits d (tree.Update at op false of) = noted _ (after _ (fits_from at (fits d of)))
  fits d (tree.Binary first rest) = both (fits d first) (fits_operands d rest)
  fits d (tree.Cond test then_value else_value) = said three (both (fits d test) (past (both (fits (suc d) then_value) (past (fits (suc d) else_value)))))
  fits d (tree.Assign op target value) = noted _ (both (fits d target) (past (fits (suc d) value)))
  fits d (tree.Comma items) = fits_list (above d) items

  fits_list : (d : ℕ) (x : Exprs) → Asked (ExprsFit x) (print_list whole d x) (notes_exprs x)
  fits_list d no_exprs = given tt
  fits_list d (more_exprs e es) = both (fits (suc d) e) (fits_more d es)

  fits_more : (d : ℕ) (x : Exprs) → Asked (ExprsFit x) (print_more whole d x) (notes_exprs x)
  fits_more d no_exprs = given tt
  fits_more d (more_exprs e es) = past (both (fits (suc d) e) (fits_more d es))

  pub fits_maybe : (d : ℕ) (x : MaybeExpr) → Asked (MaybeExprFits x) (print_maybe whole d x) (notes_maybe x)
  fits_maybe d no_expr = given tt
  fits_maybe d (some_expr e) = fits d e

  fits_args : (d : ℕ) (x : MaybeArgs) → Asked (MaybeArgsFit x) (print_args whole d x) (notes_args x)
  fits_args d no_args = given tt
  fits_args d (some_args es comma) = noting (few_args es) (past (after _ (fits_list d es)))

  fits_parts : (d : ℕ) (x : Parts) → Asked (PartsFit x) (print_parts whole d x) (notes_parts x)
  fits_parts d no_parts = given tt
  fits_parts d (more_parts value behind rest) = both (fits (suc d) value) (past (fits_parts d rest))

  fits_items : (d : ℕ) (x : Items) → Asked (ItemsFit x) (print_items whole d x) (notes_items x)
  fits_items d no_items = given tt
  fits_items d (more_items i is) = both (fits_maybe (suc d) i) (fits_more_items d is)

  fits_more_items : (d : ℕ) (x : Items) → Asked (ItemsFit x) (print_more_items whole d x) (notes_items x)
  fits_more_items d no_items = given tt
  fits_more_items d (more_items i is) = past (both (fits_maybe (suc d) i) (fits_more_items d is))

  fits_operands : (d : ℕ) (x : Operands) → Asked (OperandsFit x) (print_operands whole d x) (notes_operands x)
  fits_operands d no_operands = given tt
  fits_operands d (more_operands op is_word value rest) = past (both (fits d value) (fits_operands d rest))

  fits_tails : (d : ℕ) (x : Tails) → Asked (TailsFit x) (print_tails whole d x) (notes_tails x)
  fits_tails d no_tails = given tt
  fits_tails d (more_tails t ts) = both (fits_tail d t) (fits_tails d ts)

  fits_tail : (d : ℕ) (x : Tail) → Asked (TailFits x) (print_tail whole d x) (notes_tail x)
  fits_tail d (tree.Dot text) = given tt
  fits_tail d (tree.Index e) = past (after _ (fits (suc d) e))
  fits_tail d (tree.Call es comma) = noting (few_args es) (past (after _ (fits_list d es)))

  fits_key : (d : ℕ) (x : Key) → Asked (KeyFits x) (print_key whole d x) (notes_key x)
  fits_key d (tree.WordKey n) = given tt
  fits_key d (tree.StrKey n) = given tt
  fits_key d (tree.NumberKey at value) = given tt
  fits_key d (tree.ComputedKey e) = past (after _ (fits (suc d) e))

  fits_prop : (d : ℕ) (x : Prop) → Asked (PropFits x) (print_prop whole d x) (notes_prop x)
  fits_prop d (tree.Short n) = given tt
  fits_prop d (tree.Pair key value) = both (fits_key d key) (past (fits (suc d) value))
  fits_prop d (tree.Method key f) = said key_alone (both (fits_key d key) (of_function d f))
  fits_prop d (tree.Get key f) = past (said key_alone (both (fits_key d key) (of_function d f)))
  fits_prop d (tree.Set key f) = past (said key_alone (both (fits_key d key) (of_function d f)))

  fits_props : (d : ℕ) (x : Props) → Asked (PropsFit x) (print_props whole d x) (notes_props x)
  fits_props d no_props = given tt
  fits_props d (more_props q qs) = both (fits_prop d q) (fits_more_props d qs)

  fits_more_props : (d : ℕ) (x : Props) → Asked (PropsFit x) (print_more_props whole d x) (notes_props x)
  fits_more_props d no_props = given tt
  fits_more_props d (more_props q qs) = past (both (fits_prop d q) (fits_more_props d qs))

-- ---- names with initializers, and heads of loops

pub fits_initializer : (d : ℕ) (x : MaybeExpr) → Asked (MaybeExprFits x) (print_initializer whole d x) (notes_maybe x)
fits_initializer d no_expr = given tt
fits_initializer d (some_expr e) = past (fits (suc d) e)

fits_more_binds : (d : ℕ) (x : Binds) → Asked (BindsFit x) (print_more_binds whole d x) (notes_binds x)
fits_more_binds d no_binds = given tt
fits_more_binds d (more_binds name value bs) = past (past (both (fits_initializer d value) (fits_more_binds d bs)))

pub fits_binds : (d : ℕ) (x : Binds) → Asked (BindsFit x) (print_binds whole d x) (notes_binds x)
fits_binds d no_binds = given tt
fits_binds d (more_binds name value bs) = past (both (fits_initializer d value) (fits_more_binds d bs))

pub fits_init : (d : ℕ) (x : Init) → Asked (InitFits x) (print_init whole d x) (notes_init x)
fits_init d tree.NoInit = given tt
fits_init d (tree.ValueInit e) = fits (suc d) e
fits_init d (tree.BindsInit decl bs) = noted _ (past (fits_binds d bs))

pub fits_each : (d : ℕ) (x : Each) → Asked (EachFits x) (print_each whole d x) (notes_each x)
fits_each d (tree.TargetEach e) = noted _ (fits (suc d) e)
fits_each d (tree.BindEach decl name) = given tt

pub fits_test : (d : ℕ) (x : MaybeExpr) → Asked (MaybeExprFits x) (print_test whole d x) (notes_maybe x)
fits_test d no_expr = given tt
fits_test d (some_expr e) = past (fits (suc d) e)
