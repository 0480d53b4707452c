-- No name that a script tells is empty, where no token that is a name is.
use Rattle.std.proofs.Common.{◌≢◌, ℕ, suc, Bool, true, false, cond, Option, None, Some, List, [], ◌∷◌, ◌++◌}
use Rattle.script_grammar.specs.declared.token.mark.TheConstants as mark
use Rattle.script_grammar.specs.declared.token.word.TheConstants as word
use Rattle.script_grammar.specs.declared.token.Decl.{Decl}
use Rattle.script_grammar.specs.declared.token.FuncForm.{FuncForm}
use Rattle.script_grammar.specs.Kinds.{is_arrow_form}
use Rattle.script_grammar.specs.Lexeme.{Lexeme}
use Rattle.script_grammar.specs.Tree as tree
use Rattle.script_grammar.specs.Tree.{Named, Expr, MaybeExpr, no_expr, some_expr, Exprs, no_exprs, more_exprs, MaybeArgs, no_args, some_args, Parts, no_parts, more_parts, Items, no_items, more_items, Operands, no_operands, more_operands, Tail, Tails, no_tails, more_tails, Key, Prop, Props, no_props, more_props, function, Params, no_params, more_params, Body, BracedBody, ShortBody, Binds, no_binds, more_binds, Init, NoInit, ValueInit, BindsInit, Each, TargetEach, BindEach, Clauses, no_clauses, more_clauses, Stmt, Stmts, no_stmts, more_stmts, MaybeStmt, no_stmt, some_stmt}
use Rattle.script_grammar.specs.Pieces.{Piece, whole, Keyword, DoWhile, BareBinding, mark_piece, word_piece, glued_mark, closing_mark, comma_piece, semi_piece, name_piece, template_piece, from, glue}
use Rattle.script_grammar.specs.Endings.{ending, return_ending, binds_ending}
use Rattle.script_grammar.specs.Print as Print
use Rattle.script_grammar.specs.Proper.{Proper, ProperExprs, ProperMaybe, ProperOption, ProperArgs, ProperParts, ProperItems, ProperOperands, ProperTails, ProperTail, ProperKey, ProperProp, ProperProps, ProperFunction, ProperParams, ProperBody, ProperBinds, ProperStmts, ProperElse, ProperInit, ProperEach, ProperClauses, ProperStmt, IsFuncExpression, operands_level}
use Rattle.script_grammar.specs.Script.{IsScript}
use Rattle.parse_track.specs.Told as told
use Rattle.parse_track.specs.Told.{Told, nothing}
use Rattle.parse_track.specs.Tells.{Text, spelled_label, has_initializer, body_region, function_name, in_named, declares_function, labels_on, labelled_region, tells_expr, tells_exprs, tells_maybe, tells_args, tells_parts, tells_array, tells_operands, tells_tails, tells_tail, tells_key, tells_prop, tells_props, tells_function, tells_params, tells_body, tells_binds, tells_init, tells_each, tells_clauses, tells_stmt, tells_stmts, tells_maybe_stmt, tells_script}
use Rattle.track_renaming_laws.specs.Occurring.{OfLabel, OfRegion, OfEachName}
use Rattle.script_grammar.specs.NameTokens.{NamesAreFull}
use Rattle.track_renaming_laws.proofs.FullNames.{Full, MaybeFull, fits_full, left, right, from_full, glue_full, until_full, paren_full, name_full, label_full, func_name}

abbrev IsFull : Text → Type 0
IsFull text = text ≢ []

abbrev Written : Told Text → Type 0
Written t = OfEachName IsFull t

function_region-full : (arrow : Bool) → OfRegion IsFull (cond arrow told.Arrow told.Function)
function_region-full true = tt
function_region-full false = tt

in_named-written : (name : Option Named) (f : tree.Function) (t : Told Text) → MaybeFull name → Written (tells_function f nothing) → Written (tells_function f t) → Written t
    → Written (in_named name (tells_function f) t)
in_named-written None f t n alone h k = h
in_named-written (Some name) f t n alone h k = (n, (alone, k))

declares-written : (top : Bool) (name : Option Named) (t : Told Text) → MaybeFull name → Written t → Written (declares_function top name t)
declares-written top None t n h = h
declares-written top (Some name) t n h = (n, h)

body_region-written : (own : Bool) (t : Told Text) → Written t → Written (body_region own t)
body_region-written true t h = (tt, (h, tt))
body_region-written false t h = h

labelled-written : (on : Bool) (t : Told Text) → Written t → Written (labelled_region on t)
labelled-written true t h = h
labelled-written false t h = (tt, (h, tt))

spelled-full : (label : Option Named) → MaybeFull label → OfLabel IsFull (spelled_label label)
spelled-full None h = tt
spelled-full (Some n) h = h

-- the places of a function expression and of a declaration: those of its name, and those after it
expression_name : (d at : ℕ) (f : tree.Function) → IsFuncExpression at f → Full (Print.print_func whole d at f) → MaybeFull (function_name f)
expression_name d at (function form start end name params comma bare body) p h =
    func_name form at start name d p (left (Print.func_word form at name d) (Print.print_function whole d (function form start end name params comma bare body)) h)

expression_rest : (d at : ℕ) (f : tree.Function) → Full (Print.print_func whole d at f) → Full (Print.print_function whole d f)
expression_rest d at (function form start end name params comma bare body) h =
    right (Print.func_word form at name d) (Print.print_function whole d (function form start end name params comma bare body)) h

declared_name : (d : ℕ) (f : tree.Function) → Full (Print.print_declared whole d f) → MaybeFull (function_name f)
declared_name d (function form start end name params comma bare body) h =
    name_full name d (left (Print.print_name name d) (Print.print_function whole d (function form start end name params comma bare body)) h.1)

declared_rest : (d : ℕ) (f : tree.Function) → Full (Print.print_declared whole d f) → Full (Print.print_function whole d f)
declared_rest d (function form start end name params comma bare body) h =
    right (Print.print_name name d) (Print.print_function whole d (function form start end name params comma bare body)) h.1

mutual
  expr-written : (d : ℕ) (e : Expr) → Proper whole e → Full (Print.print whole d e) → (t : Told Text) → Written t → Written (tells_expr e t)
  expr-written d (tree.This at) p h t k = (λ e. cc, k)
  expr-written d (tree.Name name) p h t k = (h.0, k)
  expr-written d (tree.Null at) p h t k = k
  expr-written d (tree.True at) p h t k = k
  expr-written d (tree.False at) p h t k = k
  expr-written d (tree.Number at value) p h t k = k
  expr-written d (tree.Str at end text) p h t k = k
  expr-written d (tree.Template at first parts) p h t k = parts-written d parts p h.1 t k
  expr-written d (tree.Array at items comma) p h t k =
      array-written d items p.1 (left (Print.print_items whole d items) (comma_piece comma d ++ mark_piece mark.CLOSE_BRACKET d ∷ []) h.1) t k
  expr-written d (tree.Object at props comma) p h t k =
      props-written d props p.1 (left (Print.print_props whole d props) (comma_piece comma d ++ mark_piece mark.CLOSE_BRACE d ∷ []) h.1) t k
  expr-written d (tree.Func at f) p h t k =
      in_named-written (function_name f) f t (expression_name d at f p.0 h)
      (function-written d f p.1 (expression_rest d at f h) nothing tt) (function-written d f p.1 (expression_rest d at f h) t k) k
  expr-written d (tree.Paren at value) p h t k = expr-written (suc d) value p (left (Print.print whole (suc d) value) (mark_piece mark.CLOSE_PAREN d ∷ []) h.1) t k
  expr-written d (tree.Chain head tails) p h t k =
      expr-written d head p.1 (left (Print.print whole d head) (Print.print_tails whole d tails) h) (tells_tails tails t)
      (tails-written d tails p.3 (right (Print.print whole d head) (Print.print_tails whole d tails) h) t k)
  expr-written d (tree.New at callee args) p h t k =
      expr-written (suc d) callee p.1 (left (Print.print whole (suc d) callee) (Print.print_args whole (suc d) args) h.1) (tells_args args t)
      (args-written (suc d) args p.2 (right (Print.print whole (suc d) callee) (Print.print_args whole (suc d) args) h.1) t k)
  expr-written d (tree.Unary at op operand is_word) p h t k = expr-written (suc d) operand p.2 h.1 t k
  expr-written d (tree.Update at op true operand) p h t k = expr-written (suc d) operand p.2 h.1 t k
  expr-written d (tree.Update at op false operand) p h t k =
      expr-written d operand p.2 (from_full at (Print.print whole d operand) (left (from at (Print.print whole d operand)) (glued_mark op d ∷ []) h)) t k
  expr-written d (tree.Binary first rest) p h t k =
      expr-written d first p.3 (left (Print.print whole d first) (Print.print_operands whole d rest) h) (tells_operands rest t)
      (operands-written d (operands_level rest) rest p.4 (right (Print.print whole d first) (Print.print_operands whole d rest) h) t k)
  expr-written d (tree.Cond test then_value else_value) p h t k =
      expr-written d test p.1 (left (Print.print whole d test) behind h) (tells_expr then_value (tells_expr else_value t))
      (expr-written (suc d) then_value p.3 (left (Print.print whole (suc d) then_value) (mark_piece mark.COLON d ∷ Print.print whole (suc d) else_value) (right (Print.print whole d test) behind h).1) (tells_expr else_value t)
      (expr-written (suc d) else_value p.5 (right (Print.print whole (suc d) then_value) (mark_piece mark.COLON d ∷ Print.print whole (suc d) else_value) (right (Print.print whole d test) behind h).1).1 t k))
    where
      behind : List Piece
      behind = mark_piece mark.QUESTION d ∷ (Print.print whole (suc d) then_value ++ (mark_piece mark.COLON d ∷ Print.print whole (suc d) else_value))
  expr-written d (tree.Assign op target value) p h t k =
      expr-written d target p.2 (left (Print.print whole d target) (mark_piece op d ∷ Print.print whole (suc d) value) h) (tells_expr value t)
      (expr-written (suc d) value p.4 (right (Print.print whole d target) (mark_piece op d ∷ Print.print whole (suc d) value) h).1 t k)
  expr-written d (tree.Comma items) p h t k = exprs-written (Print.above d) items p.1 h t k

  exprs-written : (d : ℕ) (es : Exprs) → ProperExprs whole es → Full (Print.print_list whole d es) → (t : Told Text) → Written t → Written (tells_exprs es t)
  exprs-written d no_exprs p h t k = k
  exprs-written d (more_exprs e es) p h t k =
      expr-written (suc d) e p.1 (left (Print.print whole (suc d) e) (Print.print_more whole d es) h) (tells_exprs es t)
      (more-written d es p.2 (right (Print.print whole (suc d) e) (Print.print_more whole d es) h) t k)

  more-written : (d : ℕ) (es : Exprs) → ProperExprs whole es → Full (Print.print_more whole d es) → (t : Told Text) → Written t → Written (tells_exprs es t)
  more-written d no_exprs p h t k = k
  more-written d (more_exprs e es) p h t k =
      expr-written (suc d) e p.1 (left (Print.print whole (suc d) e) (Print.print_more whole d es) h.1) (tells_exprs es t)
      (more-written d es p.2 (right (Print.print whole (suc d) e) (Print.print_more whole d es) h.1) t k)

  maybe-written : (d : ℕ) (o : MaybeExpr) → ProperMaybe whole o → Full (Print.print_maybe whole d o) → (t : Told Text) → Written t → Written (tells_maybe o t)
  maybe-written d no_expr p h t k = k
  maybe-written d (some_expr e) p h t k = expr-written d e p.1 h t k

  option-written : (d : ℕ) (o : MaybeExpr) → ProperOption whole o → Full (Print.print_maybe whole d o) → (t : Told Text) → Written t → Written (tells_maybe o t)
  option-written d no_expr p h t k = k
  option-written d (some_expr e) p h t k = expr-written d e p h t k

  test-written : (d : ℕ) (o : MaybeExpr) → ProperOption whole o → Full (Print.print_test whole d o) → (t : Told Text) → Written t → Written (tells_maybe o t)
  test-written d no_expr p h t k = k
  test-written d (some_expr e) p h t k = expr-written (suc d) e p h.1 t k

  initializer-written : (d : ℕ) (o : MaybeExpr) → ProperMaybe whole o → Full (Print.print_initializer whole d o) → (t : Told Text) → Written t → Written (tells_maybe o t)
  initializer-written d no_expr p h t k = k
  initializer-written d (some_expr e) p h t k = expr-written (suc d) e p.1 h.1 t k

  args-written : (d : ℕ) (a : MaybeArgs) → ProperArgs whole a → Full (Print.print_args whole d a) → (t : Told Text) → Written t → Written (tells_args a t)
  args-written d no_args p h t k = k
  args-written d (some_args es comma) p h t k =
      exprs-written d es p.1 (left (Print.print_list whole d es) (comma_piece comma d ++ mark_piece mark.CLOSE_PAREN d ∷ []) h.1) t k

  parts-written : (d : ℕ) (ps : Parts) → ProperParts whole ps → Full (Print.print_parts whole d ps) → (t : Told Text) → Written t → Written (tells_parts ps t)
  parts-written d no_parts p h t k = k
  parts-written d (more_parts value behind rest) p h t k =
      expr-written (suc d) value p.0 (left (Print.print whole (suc d) value) (template_piece (Print.part_kind rest) behind d ∷ Print.print_parts whole d rest) h) (tells_parts rest t)
      (parts-written d rest p.1 (right (Print.print whole (suc d) value) (template_piece (Print.part_kind rest) behind d ∷ Print.print_parts whole d rest) h).1 t k)

  array-written : (d : ℕ) (is : Items) → ProperItems whole is → Full (Print.print_items whole d is) → (t : Told Text) → Written t → Written (tells_array is t)
  array-written d no_items p h t k = k
  array-written d (more_items i is) p h t k =
      maybe-written (suc d) i p.0 (left (Print.print_maybe whole (suc d) i) (Print.print_more_items whole d is) h) (tells_array is t)
      (more_array-written d is p.1 (right (Print.print_maybe whole (suc d) i) (Print.print_more_items whole d is) h) t k)

  more_array-written : (d : ℕ) (is : Items) → ProperItems whole is → Full (Print.print_more_items whole d is) → (t : Told Text) → Written t → Written (tells_array is t)
  more_array-written d no_items p h t k = k
  more_array-written d (more_items i is) p h t k =
      maybe-written (suc d) i p.0 (left (Print.print_maybe whole (suc d) i) (Print.print_more_items whole d is) h.1) (tells_array is t)
      (more_array-written d is p.1 (right (Print.print_maybe whole (suc d) i) (Print.print_more_items whole d is) h.1) t k)

  operands-written : (d n : ℕ) (os : Operands) → ProperOperands whole n os → Full (Print.print_operands whole d os) → (t : Told Text) → Written t → Written (tells_operands os t)
  operands-written d n no_operands p h t k = k
  operands-written d n (more_operands op is_word value rest) p h t k =
      expr-written d value p.2 (left (Print.print whole d value) (Print.print_operands whole d rest) h.1) (tells_operands rest t)
      (operands-written d n rest p.3 (right (Print.print whole d value) (Print.print_operands whole d rest) h.1) t k)

  tails-written : (d : ℕ) (ts : Tails) → ProperTails whole ts → Full (Print.print_tails whole d ts) → (t : Told Text) → Written t → Written (tells_tails ts t)
  tails-written d no_tails p h t k = k
  tails-written d (more_tails l ts) p h t k =
      tail-written d l p.0 (left (Print.print_tail whole d l) (Print.print_tails whole d ts) h) (tells_tails ts t)
      (tails-written d ts p.1 (right (Print.print_tail whole d l) (Print.print_tails whole d ts) h) t k)

  tail-written : (d : ℕ) (l : Tail) → ProperTail whole l → Full (Print.print_tail whole d l) → (t : Told Text) → Written t → Written (tells_tail l t)
  tail-written d (tree.Dot text) p h t k = k
  tail-written d (tree.Index e) p h t k = expr-written (suc d) e p (left (Print.print whole (suc d) e) (mark_piece mark.CLOSE_BRACKET d ∷ []) h.1) t k
  tail-written d (tree.Call es comma) p h t k =
      exprs-written d es p.1 (left (Print.print_list whole d es) (comma_piece comma d ++ mark_piece mark.CLOSE_PAREN d ∷ []) h.1) t k

  key-written : (d : ℕ) (x : Key) → ProperKey whole x → Full (Print.print_key whole d x) → (t : Told Text) → Written t → Written (tells_key x t)
  key-written d (tree.WordKey name) p h t k = k
  key-written d (tree.StrKey name) p h t k = k
  key-written d (tree.NumberKey at value) p h t k = k
  key-written d (tree.ComputedKey e) p h t k = expr-written (suc d) e p.1 (left (Print.print whole (suc d) e) (mark_piece mark.CLOSE_BRACKET d ∷ []) h.1) t k

  prop-written : (d : ℕ) (x : Prop) → ProperProp whole x → Full (Print.print_prop whole d x) → (t : Told Text) → Written t → Written (tells_prop x t)
  prop-written d (tree.Short name) p h t k = (h.0, k)
  prop-written d (tree.Pair key value) p h t k =
      key-written d key p.0 (left (Print.print_key whole d key) (mark_piece mark.COLON d ∷ Print.print whole (suc d) value) h) (tells_expr value t)
      (expr-written (suc d) value p.2 (right (Print.print_key whole d key) (mark_piece mark.COLON d ∷ Print.print whole (suc d) value) h).1 t k)
  prop-written d (tree.Method key f) p h t k =
      key-written d key p.0 (left (Print.print_key whole d key) (Print.print_function whole d f) h) (tells_function f t)
      (function-written d f p.2 (right (Print.print_key whole d key) (Print.print_function whole d f) h) t k)
  prop-written d (tree.Get key f) p h t k =
      key-written d key p.0 (left (Print.print_key whole d key) (Print.print_function whole d f) h.1) (tells_function f t)
      (function-written d f p.2 (right (Print.print_key whole d key) (Print.print_function whole d f) h.1) t k)
  prop-written d (tree.Set key f) p h t k =
      key-written d key p.0 (left (Print.print_key whole d key) (Print.print_function whole d f) h.1) (tells_function f t)
      (function-written d f p.2 (right (Print.print_key whole d key) (Print.print_function whole d f) h.1) t k)

  props-written : (d : ℕ) (xs : Props) → ProperProps whole xs → Full (Print.print_props whole d xs) → (t : Told Text) → Written t → Written (tells_props xs t)
  props-written d no_props p h t k = k
  props-written d (more_props x xs) p h t k =
      prop-written d x p.0 (left (Print.print_prop whole d x) (Print.print_more_props whole d xs) h) (tells_props xs t)
      (more_props-written d xs p.1 (right (Print.print_prop whole d x) (Print.print_more_props whole d xs) h) t k)

  more_props-written : (d : ℕ) (xs : Props) → ProperProps whole xs → Full (Print.print_more_props whole d xs) → (t : Told Text) → Written t → Written (tells_props xs t)
  more_props-written d no_props p h t k = k
  more_props-written d (more_props x xs) p h t k =
      prop-written d x p.0 (left (Print.print_prop whole d x) (Print.print_more_props whole d xs) h.1) (tells_props xs t)
      (more_props-written d xs p.1 (right (Print.print_prop whole d x) (Print.print_more_props whole d xs) h.1) t k)

  function-written : (d : ℕ) (f : tree.Function) → ProperFunction whole f → Full (Print.print_function whole d f) → (t : Told Text) → Written t → Written (tells_function f t)
  function-written d (function form start end name params comma bare body) p h t k = (
    function_region-full (is_arrow_form form),
    (
      params-written (Print.param_depth form bare d) d params p.3 (paren_full bare start d own comma (left (Print.parenthesized bare start d own comma) behind h))
          (body_region (has_initializer params) (tells_body body))
          (body_region-written (has_initializer params) (tells_body body)
          (body-written d end form body p.4 (right (Print.arrow_pieces form d) (Print.print_body whole d end body) (right (Print.parenthesized bare start d own comma) behind h)))),
      k,
    ),
  )
    where
      own : List Piece
      own = Print.print_params whole (Print.param_depth form bare d) d params

      behind : List Piece
      behind = Print.arrow_pieces form d ++ Print.print_body whole d end body

  params-written : (q d : ℕ) (ps : Params) → ProperParams whole ps → Full (Print.print_params whole q d ps) → (t : Told Text) → Written t → Written (tells_params ps t)
  params-written q d no_params p h t k = k
  params-written q d (more_params name value rest ps) p h t k = (
    behind.0,
    initializer-written q value p.0 (left (Print.print_initializer whole q value) (Print.print_more_params whole q d ps) behind.1) (tells_params ps t)
        (more_params-written q d ps p.1 (right (Print.print_initializer whole q value) (Print.print_more_params whole q d ps) behind.1) t k),
  )
    where
      behind : Full (name_piece name q ∷ (Print.print_initializer whole q value ++ Print.print_more_params whole q d ps))
      behind = right (Print.ellipsis rest q) (name_piece name q ∷ (Print.print_initializer whole q value ++ Print.print_more_params whole q d ps)) h

  more_params-written : (q d : ℕ) (ps : Params) → ProperParams whole ps → Full (Print.print_more_params whole q d ps) → (t : Told Text) → Written t → Written (tells_params ps t)
  more_params-written q d no_params p h t k = k
  more_params-written q d (more_params name value rest ps) p h t k = (
    behind.0,
    initializer-written q value p.0 (left (Print.print_initializer whole q value) (Print.print_more_params whole q d ps) behind.1) (tells_params ps t)
        (more_params-written q d ps p.1 (right (Print.print_initializer whole q value) (Print.print_more_params whole q d ps) behind.1) t k),
  )
    where
      behind : Full (name_piece name q ∷ (Print.print_initializer whole q value ++ Print.print_more_params whole q d ps))
      behind = right (Print.ellipsis rest q) (name_piece name q ∷ (Print.print_initializer whole q value ++ Print.print_more_params whole q d ps)) h.1

  body-written : (d end : ℕ) (form : FuncForm) (b : Body) → ProperBody whole form b → Full (Print.print_body whole d end b) → Written (tells_body b)
  body-written d end form (BracedBody items) p h =
      stmts-written d true true items p (left (Print.print_stmts whole d items) (closing_mark mark.CLOSE_BRACE end d ∷ []) h.1) nothing tt
  body-written d end form (ShortBody value) p h = expr-written (suc d) value p.3 (until_full end (Print.print whole (suc d) value) h) nothing tt

  binds-written : (d : ℕ) (x : Decl) (bs : Binds) → ProperBinds whole bs → Full (Print.print_binds whole d bs) → (t : Told Text) → Written t → Written (tells_binds x bs t)
  binds-written d x no_binds p h t k = k
  binds-written d x (more_binds name value bs) p h t k = (
    h.0,
    initializer-written d value p.0 (left (Print.print_initializer whole d value) (Print.print_more_binds whole d bs) h.1) (tells_binds x bs t)
        (more_binds-written d x bs p.1 (right (Print.print_initializer whole d value) (Print.print_more_binds whole d bs) h.1) t k),
  )

  more_binds-written : (d : ℕ) (x : Decl) (bs : Binds) → ProperBinds whole bs → Full (Print.print_more_binds whole d bs) → (t : Told Text) → Written t → Written (tells_binds x bs t)
  more_binds-written d x no_binds p h t k = k
  more_binds-written d x (more_binds name value bs) p h t k = (
    h.1.0,
    initializer-written d value p.0 (left (Print.print_initializer whole d value) (Print.print_more_binds whole d bs) h.1.1) (tells_binds x bs t)
        (more_binds-written d x bs p.1 (right (Print.print_initializer whole d value) (Print.print_more_binds whole d bs) h.1.1) t k),
  )

  init-written : (d : ℕ) (x : Init) → ProperInit whole x → Full (Print.print_init whole d x) → (t : Told Text) → Written t → Written (tells_init x t)
  init-written d NoInit p h t k = k
  init-written d (ValueInit e) p h t k = expr-written (suc d) e p.1 h t k
  init-written d (BindsInit x binds) p h t k = binds-written d x binds p.2 h.1 t k

  each-written : (d : ℕ) (x : Each) → ProperEach whole x → Full (Print.print_each whole d x) → (t : Told Text) → Written t → Written (tells_each x t)
  each-written d (TargetEach e) p h t k = expr-written (suc d) e p.1 h t k
  each-written d (BindEach x name) p h t k = (h.1.0, k)

  clauses-written : (d : ℕ) (i : Bool) (cs : Clauses) → ProperClauses whole i cs → Full (Print.print_clauses whole d cs) → (t : Told Text) → Written t → Written (tells_clauses cs t)
  clauses-written d i no_clauses p h t k = k
  clauses-written d i (more_clauses test items cs) p h t k =
      test-written d test p.0 (left (Print.print_test whole d test) behind h) (tells_stmts false items (tells_clauses cs t))
      (stmts-written d i false items p.1 (left (Print.print_stmts whole d items) (Print.print_clauses whole d cs) (right (Print.print_test whole d test) behind h).1) (tells_clauses cs t)
      (clauses-written d i cs p.2 (right (Print.print_stmts whole d items) (Print.print_clauses whole d cs) (right (Print.print_test whole d test) behind h).1) t k))
    where
      behind : List Piece
      behind = mark_piece mark.COLON d ∷ (Print.print_stmts whole d items ++ Print.print_clauses whole d cs)

  stmts-written : (d : ℕ) (i top : Bool) (ss : Stmts) → ProperStmts whole i ss → Full (Print.print_stmts whole d ss) → (t : Told Text) → Written t → Written (tells_stmts top ss t)
  stmts-written d i top no_stmts p h t k = k
  stmts-written d i top (more_stmts s ss) p h t k =
      stmt-written (suc d) i top s p.0 (left (Print.print_stmt whole (suc d) s) (Print.print_stmts whole d ss) h) (tells_stmts top ss t)
      (stmts-written d i top ss p.1 (right (Print.print_stmt whole (suc d) s) (Print.print_stmts whole d ss) h) t k)

  else-written : (d : ℕ) (i : Bool) (o : MaybeStmt) → ProperElse whole i o → Full (Print.print_else whole d o) → (t : Told Text) → Written t → Written (tells_maybe_stmt o t)
  else-written d i no_stmt p h t k = k
  else-written d i (some_stmt s) p h t k = stmt-written (suc d) i false s p.1 h.1 t k

  stmt-written : (d : ℕ) (i top : Bool) (s : Stmt) → ProperStmt whole i s → Full (Print.print_stmt whole d s) → (t : Told Text) → Written t → Written (tells_stmt top s t)
  stmt-written d i top (tree.Block items) p h t k =
      (tt, (stmts-written d i false items p (left (Print.print_stmts whole d items) (mark_piece mark.CLOSE_BRACE d ∷ []) h.1) nothing tt, k))
  stmt-written d i top tree.Empty p h t k = k
  stmt-written d i top (tree.Debugger semi) p h t k = k
  stmt-written d i top (tree.Binding x binds semi) p h t k =
      binds-written d x binds p.1 (left (Print.print_binds whole d binds) (semi_piece (binds_ending BareBinding binds) semi d) h.1) t k
  stmt-written d i top (tree.Value e semi) p h t k = expr-written (suc d) e p.2 (left (Print.print whole (suc d) e) (semi_piece (ending e) semi d) h) t k
  stmt-written d i top (tree.If test then_stmt else_stmt) p h t k =
      expr-written (suc d) test p.0 (left (Print.print whole (suc d) test) behind h.1.1) (tells_stmt false then_stmt (tells_maybe_stmt else_stmt t))
      (stmt-written (suc d) i false then_stmt p.2 (left (Print.print_stmt whole (suc d) then_stmt) (Print.print_else whole d else_stmt) rest) (tells_maybe_stmt else_stmt t)
      (else-written d i else_stmt p.4 (right (Print.print_stmt whole (suc d) then_stmt) (Print.print_else whole d else_stmt) rest) t k))
    where
      behind : List Piece
      behind = mark_piece mark.CLOSE_PAREN d ∷ (Print.print_stmt whole (suc d) then_stmt ++ Print.print_else whole d else_stmt)

      rest : Full (Print.print_stmt whole (suc d) then_stmt ++ Print.print_else whole d else_stmt)
      rest = (right (Print.print whole (suc d) test) behind h.1.1).1
  stmt-written d i top (tree.Do body test semi) p h t k = (
    tt,
    (
      stmt-written (suc d) i false body p.1 (left (Print.print_stmt whole (suc d) body) behind h.1) (tells_expr test nothing)
          (expr-written (suc d) test p.2 (left (Print.print whole (suc d) test) (mark_piece mark.CLOSE_PAREN d ∷ semi_piece DoWhile semi d) (right (Print.print_stmt whole (suc d) body) behind h.1).1.1) nothing tt),
      k,
    ),
  )
    where
      behind : List Piece
      behind = word_piece word.WHILE d ∷ mark_piece mark.OPEN_PAREN d ∷ (Print.print whole (suc d) test ++ (mark_piece mark.CLOSE_PAREN d ∷ semi_piece DoWhile semi d))
  stmt-written d i top (tree.While test body) p h t k = (
    tt,
    (
      expr-written (suc d) test p.0 (left (Print.print whole (suc d) test) (mark_piece mark.CLOSE_PAREN d ∷ Print.print_stmt whole (suc d) body) h.1.1) (tells_stmt false body nothing)
          (stmt-written (suc d) i false body p.2 (right (Print.print whole (suc d) test) (mark_piece mark.CLOSE_PAREN d ∷ Print.print_stmt whole (suc d) body) h.1.1).1 nothing tt),
      k,
    ),
  )
  stmt-written d i top (tree.For init test update body) p h t k = (
    tt,
    (
      (
        tt,
        (
          init-written d init p.0 (left (Print.print_init whole d init) from_test h.1.1) (tells_maybe test (tells_maybe update (tells_stmt false body nothing)))
              (option-written (suc d) test p.1 (left (Print.print_maybe whole (suc d) test) from_update rest) (tells_maybe update (tells_stmt false body nothing))
              (option-written (suc d) update p.2 (left (Print.print_maybe whole (suc d) update) from_body more) (tells_stmt false body nothing)
              (stmt-written (suc d) i false body p.4 (right (Print.print_maybe whole (suc d) update) from_body more).1 nothing tt))),
          tt,
        ),
      ),
      k,
    ),
  )
    where
      from_body : List Piece
      from_body = mark_piece mark.CLOSE_PAREN d ∷ Print.print_stmt whole (suc d) body

      from_update : List Piece
      from_update = mark_piece mark.SEMICOLON d ∷ (Print.print_maybe whole (suc d) update ++ from_body)

      from_test : List Piece
      from_test = mark_piece mark.SEMICOLON d ∷ (Print.print_maybe whole (suc d) test ++ from_update)

      rest : Full (Print.print_maybe whole (suc d) test ++ from_update)
      rest = (right (Print.print_init whole d init) from_test h.1.1).1

      more : Full (Print.print_maybe whole (suc d) update ++ from_body)
      more = (right (Print.print_maybe whole (suc d) test) from_update rest).1
  stmt-written d i top (tree.ForIn each over body) p h t k = (
    tt,
    (
      (
        tt,
        (
          each-written d each p.0 (left (Print.print_each whole d each) from_over h.1.1) (tells_expr over (tells_stmt false body nothing))
              (expr-written (suc d) over p.1 (left (Print.print whole (suc d) over) from_body rest) (tells_stmt false body nothing)
              (stmt-written (suc d) i false body p.3 (right (Print.print whole (suc d) over) from_body rest).1 nothing tt)),
          tt,
        ),
      ),
      k,
    ),
  )
    where
      from_body : List Piece
      from_body = mark_piece mark.CLOSE_PAREN d ∷ Print.print_stmt whole (suc d) body

      from_over : List Piece
      from_over = word_piece word.IN d ∷ (Print.print whole (suc d) over ++ from_body)

      rest : Full (Print.print whole (suc d) over ++ from_body)
      rest = (right (Print.print_each whole d each) from_over h.1.1).1
  stmt-written d i top (tree.Continue at label semi) p h t k =
      (spelled-full label (label_full label d (left (Print.print_label label d) (semi_piece Keyword semi d) h.1)), k)
  stmt-written d i top (tree.Break at label semi) p h t k =
      (spelled-full label (label_full label d (left (Print.print_label label d) (semi_piece Keyword semi d) h.1)), k)
  stmt-written d i top (tree.Return value semi) p h t k =
      option-written (suc d) value p.1 (glue_full (Print.print_maybe whole (suc d) value) (left (glue (Print.print_maybe whole (suc d) value)) (semi_piece (return_ending value) semi d) h.1)) t k
  stmt-written d i top (tree.Throw e semi) p h t k =
      expr-written (suc d) e p (glue_full (Print.print whole (suc d) e) (left (glue (Print.print whole (suc d) e)) (semi_piece (ending e) semi d) h.1)) t k
  stmt-written d i top (tree.Switch e clauses) p h t k =
      expr-written (suc d) e p.0 (left (Print.print whole (suc d) e) behind h.1.1) (told.inner told.Switch 0 (tells_clauses clauses nothing) t)
      (tt, (clauses-written d i clauses p.2 (left (Print.print_clauses whole d clauses) (mark_piece mark.CLOSE_BRACE d ∷ []) (right (Print.print whole (suc d) e) behind h.1.1).1.1) nothing tt, k))
    where
      behind : List Piece
      behind = mark_piece mark.CLOSE_PAREN d ∷ mark_piece mark.OPEN_BRACE d ∷ (Print.print_clauses whole d clauses ++ mark_piece mark.CLOSE_BRACE d ∷ [])
  stmt-written d i top (tree.Label name body) p h t k =
      (h.0, (labelled-written (labels_on body) (tells_stmt false body nothing) (stmt-written (suc d) i false body p.1 h.1.1 nothing tt), k))
  stmt-written d i top (tree.Try body None handler) p h t k = (
    tt,
    (
      stmts-written d i false body p.0 (left (Print.print_stmts whole d body) behind h.1.1) nothing tt,
      (tt, (stmts-written d i false handler p.1 (left (Print.print_stmts whole d handler) (mark_piece mark.CLOSE_BRACE d ∷ []) rest) nothing tt, k)),
    ),
  )
    where
      behind : List Piece
      behind = mark_piece mark.CLOSE_BRACE d ∷ word_piece word.CATCH d ∷ mark_piece mark.OPEN_BRACE d ∷ (Print.print_stmts whole d handler ++ mark_piece mark.CLOSE_BRACE d ∷ [])

      rest : Full (Print.print_stmts whole d handler ++ mark_piece mark.CLOSE_BRACE d ∷ [])
      rest = (right (Print.print_stmts whole d body) behind h.1.1).1.1.1
  stmt-written d i top (tree.Try body (Some name) handler) p h t k = (
    tt,
    (
      stmts-written d i false body p.0 (left (Print.print_stmts whole d body) behind h.1.1) nothing tt,
      (tt, ((rest.0, (tt, (stmts-written d i false handler p.1 (left (Print.print_stmts whole d handler) (mark_piece mark.CLOSE_BRACE d ∷ []) rest.1.1.1) nothing tt, tt))), k)),
    ),
  )
    where
      behind : List Piece
      behind =
          mark_piece mark.CLOSE_BRACE d ∷ word_piece word.CATCH d ∷ mark_piece mark.OPEN_PAREN d ∷ name_piece name d ∷ mark_piece mark.CLOSE_PAREN d ∷ mark_piece mark.OPEN_BRACE d
          ∷ (Print.print_stmts whole d handler ++ mark_piece mark.CLOSE_BRACE d ∷ [])

      rest : Full (name_piece name d ∷ mark_piece mark.CLOSE_PAREN d ∷ mark_piece mark.OPEN_BRACE d ∷ (Print.print_stmts whole d handler ++ mark_piece mark.CLOSE_BRACE d ∷ []))
      rest = (right (Print.print_stmts whole d body) behind h.1.1).1.1.1
  stmt-written d i top (tree.Declared f) p h t k =
      declares-written top (function_name f) (tells_function f t) (declared_name d f h) (function-written d f p.1 (declared_rest d f h) t k)

-- No name that a script tells is empty.
pub script-written : (w : List Lexeme) (next : Lexeme) (items : Stmts) → IsScript w next items → NamesAreFull w → OfEachName (λ text. text ≢ []) (tells_script items)
script-written w next items h n = (tt, (stmts-written 0 false true items h.proper (fits_full (Print.print_stmts whole 0 items) w next h.fits n) nothing tt, tt))
