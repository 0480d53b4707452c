-- That the code of a part of a tree was appended: whatever the tree was, some code; and the code of what the part stands
-- for, under the texts of the site and whatever bodies of the functions that were passed over, where its counts fit.
use Rattle.std.specs.Prelude.{◌≡◌, ℕ, ◌+◌, ◌<◌, ◌^◌, List, [], ◌∷◌, ◌++◌, Option, map, option_map}
use Rattle.script_grammar.specs.declared.tree.Expr.{Expr}
use Rattle.script_grammar.specs.declared.tree.Tail.{Tail}
use Rattle.script_grammar.specs.declared.tree.Args.{Args}
use Rattle.script_grammar.specs.declared.tree.Key.{Key}
use Rattle.script_grammar.specs.declared.tree.Prop.{Prop}
use Rattle.script_grammar.specs.Interpretation.{Interpretation}
use Rattle.script_grammar.specs.Tree.{Stmts, MaybeArgs}
use Rattle.script_grammar.specs.Tree as model
use Rattle.script_grammar.specs.TreeLists.{exprs_of, maybe_expr_of, maybe_args_of, tails_of}
use Rattle.script_grammar.specs.TreeOf.{expr_of, tail_of, args_of, key_of, prop_of}
use Rattle.bytecode_buf.specs.declared.opcode.Op.TheVariants as op
use Rattle.bytecode_buf.specs.Command.{counted}
use Rattle.stencil_data.specs.declared.functions.Extent.{Extent}
use Rattle.stencil_data.specs.LinkView.{LinkView}
use Rattle.bytecode_buf.specs.Pieces.{Code}
use Rattle.bytecode_buf.specs.Emits.{Emits}
use Rattle.emit_exprs.specs.declared.site.Site.{Site}
use Rattle.emit_exprs.specs.declared.uses.Use.{Use}
use Rattle.emit_exprs.specs.declared.properties.Defines.{Defines}
use Rattle.emit_exprs.specs.Sites.{EmitsAt, scene_of}
use Rattle.emit_exprs.specs.Exprs.{code_of, exprs_code, maybe_args_code, maybe_args_size, item_code, tails_code, tail_code, prop_code}
use Rattle.emit_exprs.specs.Exprs.{lambda_at, used_value, expr_code}
use Rattle.emit_exprs.specs.Properties.{opening, closing, closing_pair}
use Rattle.emit_exprs.specs.Fitting.{ExprFits, ExprsFit, MaybeExprFits, MaybeArgsFit, TailsFit, TailFits, KeyFits, PropFits}
use Rattle.emit_exprs.specs.Whole.{whole}

-- the texts of a site, and bodies of the functions that were passed over
abbrev pub at_site : Site → (ℕ → Stmts) → Interpretation
at_site s bodies = record { texts = s.texts.now; bodies = bodies }

-- some code was appended, which is this one where these counts fit
pub record Written (s : Site) (old new : List ℕ) (fits : (ℕ → Stmts) → Type 0) (code : (ℕ → Stmts) → Code) : Type 0 where
  pub written : Code
  pub emits : EmitsAt s old new written
  pub is : (bodies : ℕ → Stmts) → fits bodies → written ≡ code bodies

-- this expression of the model, used so
pub record RowEmits (s : Site) (old new : List ℕ) (wanted : Use) (m : (ℕ → Stmts) → model.Expr) : Type 0 where
  pub code : Written s old new (λ bodies. ExprFits (m bodies)) (λ bodies. code_of (scene_of s) wanted (m bodies))

-- an expression, used so
pub record ExprEmits (s : Site) (old new : List ℕ) (wanted : Use) (e : Expr) : Type 0 where
  pub row : RowEmits s old new wanted (λ bodies. expr_of (at_site s bodies) e)

-- arguments
pub record ExprsEmit (s : Site) (old new : List ℕ) (es : List Expr) : Type 0 where
  pub code : Written s old new (λ bodies. ExprsFit (exprs_of (map (expr_of (at_site s bodies)) es)))
      (λ bodies. exprs_code (scene_of s) (exprs_of (map (expr_of (at_site s bodies)) es)))

-- an instruction with this count, where it fits two bytes, and what uses the value
pub record Calls (s : Site) (old new : List ℕ) (count : ℕ) (code : Code) : Type 0 where
  pub made : Written s old new (λ bodies. count < 2 ^ 16) (λ bodies. code)

-- the arguments of a `new`, where it has some, and the `new`
abbrev pub new_code : Site → Use → MaybeArgs → Code
new_code s wanted args = maybe_args_code (scene_of s) args
    ++ whole (counted op.Pick (maybe_args_size args + 1) ∷ counted op.New (maybe_args_size args) ∷ []) ++ used_value wanted

pub record ArgsEmit (s : Site) (old new : List ℕ) (wanted : Use) (args : Option Args) : Type 0 where
  pub code : Written s old new (λ bodies. MaybeArgsFit (maybe_args_of (option_map (args_of (at_site s bodies)) args)))
      (λ bodies. new_code s wanted (maybe_args_of (option_map (args_of (at_site s bodies)) args)))

-- an item of an array
pub record ItemEmits (s : Site) (old new : List ℕ) (item : Option Expr) : Type 0 where
  pub code : Written s old new (λ bodies. MaybeExprFits (maybe_expr_of (option_map (expr_of (at_site s bodies)) item)))
      (λ bodies. item_code (scene_of s) (maybe_expr_of (option_map (expr_of (at_site s bodies)) item)))

pub record TailsEmit (s : Site) (old new : List ℕ) (wanted : Use) (tails : List Tail) : Type 0 where
  pub code : Written s old new (λ bodies. TailsFit (tails_of (map (tail_of (at_site s bodies)) tails)))
      (λ bodies. tails_code (scene_of s) wanted (tails_of (map (tail_of (at_site s bodies)) tails)))

-- a part of a chain
pub record TailEmits (s : Site) (old new : List ℕ) (wanted : Use) (t : Tail) : Type 0 where
  pub code : Written s old new (λ bodies. TailFits (tail_of (at_site s bodies) t))
      (λ bodies. tail_code (scene_of s) wanted (tail_of (at_site s bodies) t))

pub record PropEmits (s : Site) (old new : List ℕ) (p : Prop) : Type 0 where
  pub code : Written s old new (λ bodies. PropFits (prop_of (at_site s bodies) p)) (λ bodies. prop_code (scene_of s) (prop_of (at_site s bodies) p))

-- what stands before the value of a property with this key
pub record KeyEmits (s : Site) (old new : List ℕ) (key : Key) : Type 0 where
  pub code : Written s old new (λ bodies. KeyFits (key_of (at_site s bodies) key)) (λ bodies. opening (scene_of s) (key_of (at_site s bodies) key))

-- what stands after the value of such a property, and after that of a pair
pub record Closes (s : Site) (old new : List ℕ) (how : Defines) (key : Key) : Type 0 where
  pub code : Written s old new (λ bodies. Unit {0}) (λ bodies. closing how (key_of (at_site s bodies) key))

pub record ClosesPair (s : Site) (old new : List ℕ) (key : Key) : Type 0 where
  pub code : Written s old new (λ bodies. Unit {0}) (λ bodies. closing_pair (key_of (at_site s bodies) key))

-- a property whose value is a function
pub record MethodEmits (s : Site) (old new : List ℕ) (how : Defines) (start : ℕ) (key : Key) : Type 0 where
  pub code : Written s old new (λ bodies. KeyFits (key_of (at_site s bodies) key))
      (λ bodies. opening (scene_of s) (key_of (at_site s bodies) key) ++ lambda_at (scene_of s) start ++ closing how (key_of (at_site s bodies) key))

-- The code of an expression was appended under a chain, beside functions of these extents, whatever the bodies of the
-- functions that were passed over, where its counts fit.
abbrev pub ExprCode : List LinkView → List Extent → List (List ℕ) → List ℕ → List ℕ → Expr → Type 0
ExprCode chain inner texts old new e =
    (bodies : ℕ → Stmts) → ExprFits (expr_of (record { texts = texts; bodies = bodies }) e)
    → Emits texts old new (expr_code (record { chain = chain; starts = map (λ (x : Extent). x.start) inner })
    (expr_of (record { texts = texts; bodies = bodies }) e))
