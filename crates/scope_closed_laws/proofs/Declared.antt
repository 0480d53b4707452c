-- What holds of each token of a script that is a name holds of each name that the script declares.
use Rattle.std.proofs.Common.{ℕ, suc, Bool, true, false, Option, None, Some, List, [], ◌∷◌, ◌++◌}
use Rattle.script_grammar.specs.declared.token.mark.TheConstants as mark
use Rattle.script_grammar.specs.declared.token.word.TheConstants as word
use Rattle.script_grammar.specs.declared.token.Decl.{Decl}
use Rattle.script_grammar.specs.declared.token.FuncForm.{FuncForm}
use Rattle.script_grammar.specs.Lexeme.{Lexeme}
use Rattle.script_grammar.specs.Tree as tree
use Rattle.script_grammar.specs.Tree.{Named, Expr, MaybeExpr, no_expr, some_expr, Exprs, no_exprs, more_exprs, MaybeArgs, no_args, some_args, Parts, no_parts, more_parts, Items, no_items, more_items, Operands, no_operands, more_operands, Tail, Tails, no_tails, more_tails, Key, Prop, Props, no_props, more_props, function, Params, no_params, more_params, Body, BracedBody, ShortBody, Binds, no_binds, more_binds, Init, NoInit, ValueInit, BindsInit, Each, TargetEach, BindEach, Clauses, no_clauses, more_clauses, Stmt, Stmts, no_stmts, more_stmts, MaybeStmt, no_stmt, some_stmt}
use Rattle.script_grammar.specs.Pieces.{Piece, whole, DoWhile, BareBinding, mark_piece, word_piece, glued_mark, closing_mark, comma_piece, semi_piece, name_piece, template_piece, from, glue}
use Rattle.script_grammar.specs.Endings.{ending, return_ending, binds_ending}
use Rattle.script_grammar.specs.Print as Print
use Rattle.script_grammar.specs.Proper.{Proper, ProperExprs, ProperMaybe, ProperOption, ProperArgs, ProperParts, ProperItems, ProperOperands, ProperTails, ProperTail, ProperKey, ProperProp, ProperProps, ProperFunction, ProperParams, ProperBody, ProperBinds, ProperStmts, ProperElse, ProperInit, ProperEach, ProperClauses, ProperStmt, operands_level}
use Rattle.script_grammar.specs.Script.{IsScript}
use Rattle.parse_track.specs.Told as told
use Rattle.parse_track.specs.Told.{Told, nothing}
use Rattle.parse_track.specs.Tells.{Text, has_initializer, body_region, function_name, in_named, declares_function, labels_on, labelled_region, tells_expr, tells_exprs, tells_maybe, tells_args, tells_parts, tells_array, tells_operands, tells_tails, tells_tail, tells_key, tells_prop, tells_props, tells_function, tells_params, tells_body, tells_binds, tells_init, tells_each, tells_clauses, tells_stmt, tells_stmts, tells_maybe_stmt, tells_script}
use Rattle.scope_closed_laws.specs.Names.{OfEachDeclared}
use Rattle.script_grammar.specs.NameTokens.{OfEachNameToken}
use Rattle.scope_closed_laws.proofs.Places.{Hold, MaybeHolds, fits_hold, left, right, from_hold, glue_hold, until_hold, paren_hold, name_holds}

module _ (Holds : Text → Type 0) where
  abbrev Declares : Told Text → Type 0
  Declares t = OfEachDeclared Holds t

  in_named-declared : (name : Option Named) (f : tree.Function) (t : Told Text) → Declares (tells_function f nothing) → Declares (tells_function f t) → Declares t
      → Declares (in_named name (tells_function f) t)
  in_named-declared None f t alone h k = h
  in_named-declared (Some name) f t alone h k = (alone, k)

  declares-declared : (top : Bool) (name : Option Named) (t : Told Text) → MaybeHolds Holds name → Declares t → Declares (declares_function top name t)
  declares-declared top None t n h = h
  declares-declared top (Some name) t n h = (n, h)

  body_region-declared : (own : Bool) (t : Told Text) → Declares t → Declares (body_region own t)
  body_region-declared true t h = (h, tt)
  body_region-declared false t h = h

  labelled-declared : (on : Bool) (t : Told Text) → Declares t → Declares (labelled_region on t)
  labelled-declared true t h = h
  labelled-declared false t h = (h, tt)

  -- the places of a function expression and of a declaration: those of its name, and those after it
  expression_rest : (d at : ℕ) (f : tree.Function) → Hold Holds (Print.print_func whole d at f) → Hold Holds (Print.print_function whole d f)
  expression_rest d at (function form start end name params comma bare body) h =
      right Holds (Print.func_word form at name d) (Print.print_function whole d (function form start end name params comma bare body)) h

  declared_name : (d : ℕ) (f : tree.Function) → Hold Holds (Print.print_declared whole d f) → MaybeHolds Holds (function_name f)
  declared_name d (function form start end name params comma bare body) h =
      name_holds Holds name d (left Holds (Print.print_name name d) (Print.print_function whole d (function form start end name params comma bare body)) h.1)

  declared_rest : (d : ℕ) (f : tree.Function) → Hold Holds (Print.print_declared whole d f) → Hold Holds (Print.print_function whole d f)
  declared_rest d (function form start end name params comma bare body) h =
      right Holds (Print.print_name name d) (Print.print_function whole d (function form start end name params comma bare body)) h.1

  mutual
    expr-declared : (d : ℕ) (e : Expr) → Proper whole e → Hold Holds (Print.print whole d e) → (t : Told Text) → Declares t → Declares (tells_expr e t)
    expr-declared d (tree.This at) p h t k = k
    expr-declared d (tree.Name name) p h t k = k
    expr-declared d (tree.Null at) p h t k = k
    expr-declared d (tree.True at) p h t k = k
    expr-declared d (tree.False at) p h t k = k
    expr-declared d (tree.Number at value) p h t k = k
    expr-declared d (tree.Str at end text) p h t k = k
    expr-declared d (tree.Template at first parts) p h t k = parts-declared d parts p h.1 t k
    expr-declared d (tree.Array at items comma) p h t k =
        array-declared d items p.1 (left Holds (Print.print_items whole d items) (comma_piece comma d ++ mark_piece mark.CLOSE_BRACKET d ∷ []) h.1) t k
    expr-declared d (tree.Object at props comma) p h t k =
        props-declared d props p.1 (left Holds (Print.print_props whole d props) (comma_piece comma d ++ mark_piece mark.CLOSE_BRACE d ∷ []) h.1) t k
    expr-declared d (tree.Func at f) p h t k =
        in_named-declared (function_name f) f t
        (function-declared d f p.1 (expression_rest d at f h) nothing tt) (function-declared d f p.1 (expression_rest d at f h) t k) k
    expr-declared d (tree.Paren at value) p h t k = expr-declared (suc d) value p (left Holds (Print.print whole (suc d) value) (mark_piece mark.CLOSE_PAREN d ∷ []) h.1) t k
    expr-declared d (tree.Chain head tails) p h t k =
        expr-declared d head p.1 (left Holds (Print.print whole d head) (Print.print_tails whole d tails) h) (tells_tails tails t)
        (tails-declared d tails p.3 (right Holds (Print.print whole d head) (Print.print_tails whole d tails) h) t k)
    expr-declared d (tree.New at callee args) p h t k =
        expr-declared (suc d) callee p.1 (left Holds (Print.print whole (suc d) callee) (Print.print_args whole (suc d) args) h.1) (tells_args args t)
        (args-declared (suc d) args p.2 (right Holds (Print.print whole (suc d) callee) (Print.print_args whole (suc d) args) h.1) t k)
    expr-declared d (tree.Unary at op operand is_word) p h t k = expr-declared (suc d) operand p.2 h.1 t k
    expr-declared d (tree.Update at op true operand) p h t k = expr-declared (suc d) operand p.2 h.1 t k
    expr-declared d (tree.Update at op false operand) p h t k =
        expr-declared d operand p.2 (from_hold Holds at (Print.print whole d operand) (left Holds (from at (Print.print whole d operand)) (glued_mark op d ∷ []) h)) t k
    expr-declared d (tree.Binary first rest) p h t k =
        expr-declared d first p.3 (left Holds (Print.print whole d first) (Print.print_operands whole d rest) h) (tells_operands rest t)
        (operands-declared d (operands_level rest) rest p.4 (right Holds (Print.print whole d first) (Print.print_operands whole d rest) h) t k)
    expr-declared d (tree.Cond test then_value else_value) p h t k =
        expr-declared d test p.1 (left Holds (Print.print whole d test) behind h) (tells_expr then_value (tells_expr else_value t))
        (expr-declared (suc d) then_value p.3 (left Holds (Print.print whole (suc d) then_value) (mark_piece mark.COLON d ∷ Print.print whole (suc d) else_value) (right Holds (Print.print whole d test) behind h).1) (tells_expr else_value t)
        (expr-declared (suc d) else_value p.5 (right Holds (Print.print whole (suc d) then_value) (mark_piece mark.COLON d ∷ Print.print whole (suc d) else_value) (right Holds (Print.print whole d test) behind h).1).1 t k))
      where
        behind : List Piece
        behind = mark_piece mark.QUESTION d ∷ (Print.print whole (suc d) then_value ++ (mark_piece mark.COLON d ∷ Print.print whole (suc d) else_value))
    expr-declared d (tree.Assign op target value) p h t k =
        expr-declared d target p.2 (left Holds (Print.print whole d target) (mark_piece op d ∷ Print.print whole (suc d) value) h) (tells_expr value t)
        (expr-declared (suc d) value p.4 (right Holds (Print.print whole d target) (mark_piece op d ∷ Print.print whole (suc d) value) h).1 t k)
    expr-declared d (tree.Comma items) p h t k = exprs-declared (Print.above d) items p.1 h t k

    exprs-declared : (d : ℕ) (es : Exprs) → ProperExprs whole es → Hold Holds (Print.print_list whole d es) → (t : Told Text) → Declares t → Declares (tells_exprs es t)
    exprs-declared d no_exprs p h t k = k
    exprs-declared d (more_exprs e es) p h t k =
        expr-declared (suc d) e p.1 (left Holds (Print.print whole (suc d) e) (Print.print_more whole d es) h) (tells_exprs es t)
        (more-declared d es p.2 (right Holds (Print.print whole (suc d) e) (Print.print_more whole d es) h) t k)

    more-declared : (d : ℕ) (es : Exprs) → ProperExprs whole es → Hold Holds (Print.print_more whole d es) → (t : Told Text) → Declares t → Declares (tells_exprs es t)
    more-declared d no_exprs p h t k = k
    more-declared d (more_exprs e es) p h t k =
        expr-declared (suc d) e p.1 (left Holds (Print.print whole (suc d) e) (Print.print_more whole d es) h.1) (tells_exprs es t)
        (more-declared d es p.2 (right Holds (Print.print whole (suc d) e) (Print.print_more whole d es) h.1) t k)

    maybe-declared : (d : ℕ) (o : MaybeExpr) → ProperMaybe whole o → Hold Holds (Print.print_maybe whole d o) → (t : Told Text) → Declares t → Declares (tells_maybe o t)
    maybe-declared d no_expr p h t k = k
    maybe-declared d (some_expr e) p h t k = expr-declared d e p.1 h t k

    option-declared : (d : ℕ) (o : MaybeExpr) → ProperOption whole o → Hold Holds (Print.print_maybe whole d o) → (t : Told Text) → Declares t → Declares (tells_maybe o t)
    option-declared d no_expr p h t k = k
    option-declared d (some_expr e) p h t k = expr-declared d e p h t k

    test-declared : (d : ℕ) (o : MaybeExpr) → ProperOption whole o → Hold Holds (Print.print_test whole d o) → (t : Told Text) → Declares t → Declares (tells_maybe o t)
    test-declared d no_expr p h t k = k
    test-declared d (some_expr e) p h t k = expr-declared (suc d) e p h.1 t k

    initializer-declared : (d : ℕ) (o : MaybeExpr) → ProperMaybe whole o → Hold Holds (Print.print_initializer whole d o) → (t : Told Text) → Declares t → Declares (tells_maybe o t)
    initializer-declared d no_expr p h t k = k
    initializer-declared d (some_expr e) p h t k = expr-declared (suc d) e p.1 h.1 t k

    args-declared : (d : ℕ) (a : MaybeArgs) → ProperArgs whole a → Hold Holds (Print.print_args whole d a) → (t : Told Text) → Declares t → Declares (tells_args a t)
    args-declared d no_args p h t k = k
    args-declared d (some_args es comma) p h t k =
        exprs-declared d es p.1 (left Holds (Print.print_list whole d es) (comma_piece comma d ++ mark_piece mark.CLOSE_PAREN d ∷ []) h.1) t k

    parts-declared : (d : ℕ) (ps : Parts) → ProperParts whole ps → Hold Holds (Print.print_parts whole d ps) → (t : Told Text) → Declares t → Declares (tells_parts ps t)
    parts-declared d no_parts p h t k = k
    parts-declared d (more_parts value behind rest) p h t k =
        expr-declared (suc d) value p.0 (left Holds (Print.print whole (suc d) value) (template_piece (Print.part_kind rest) behind d ∷ Print.print_parts whole d rest) h) (tells_parts rest t)
        (parts-declared d rest p.1 (right Holds (Print.print whole (suc d) value) (template_piece (Print.part_kind rest) behind d ∷ Print.print_parts whole d rest) h).1 t k)

    array-declared : (d : ℕ) (is : Items) → ProperItems whole is → Hold Holds (Print.print_items whole d is) → (t : Told Text) → Declares t → Declares (tells_array is t)
    array-declared d no_items p h t k = k
    array-declared d (more_items i is) p h t k =
        maybe-declared (suc d) i p.0 (left Holds (Print.print_maybe whole (suc d) i) (Print.print_more_items whole d is) h) (tells_array is t)
        (more_array-declared d is p.1 (right Holds (Print.print_maybe whole (suc d) i) (Print.print_more_items whole d is) h) t k)

    more_array-declared : (d : ℕ) (is : Items) → ProperItems whole is → Hold Holds (Print.print_more_items whole d is) → (t : Told Text) → Declares t → Declares (tells_array is t)
    more_array-declared d no_items p h t k = k
    more_array-declared d (more_items i is) p h t k =
        maybe-declared (suc d) i p.0 (left Holds (Print.print_maybe whole (suc d) i) (Print.print_more_items whole d is) h.1) (tells_array is t)
        (more_array-declared d is p.1 (right Holds (Print.print_maybe whole (suc d) i) (Print.print_more_items whole d is) h.1) t k)

    operands-declared : (d n : ℕ) (os : Operands) → ProperOperands whole n os → Hold Holds (Print.print_operands whole d os) → (t : Told Text) → Declares t → Declares (tells_operands os t)
    operands-declared d n no_operands p h t k = k
    operands-declared d n (more_operands op is_word value rest) p h t k =
        expr-declared d value p.2 (left Holds (Print.print whole d value) (Print.print_operands whole d rest) h.1) (tells_operands rest t)
        (operands-declared d n rest p.3 (right Holds (Print.print whole d value) (Print.print_operands whole d rest) h.1) t k)

    tails-declared : (d : ℕ) (ts : Tails) → ProperTails whole ts → Hold Holds (Print.print_tails whole d ts) → (t : Told Text) → Declares t → Declares (tells_tails ts t)
    tails-declared d no_tails p h t k = k
    tails-declared d (more_tails l ts) p h t k =
        tail-declared d l p.0 (left Holds (Print.print_tail whole d l) (Print.print_tails whole d ts) h) (tells_tails ts t)
        (tails-declared d ts p.1 (right Holds (Print.print_tail whole d l) (Print.print_tails whole d ts) h) t k)

    tail-declared : (d : ℕ) (l : Tail) → ProperTail whole l → Hold Holds (Print.print_tail whole d l) → (t : Told Text) → Declares t → Declares (tells_tail l t)
    tail-declared d (tree.Dot text) p h t k = k
    tail-declared d (tree.Index e) p h t k = expr-declared (suc d) e p (left Holds (Print.print whole (suc d) e) (mark_piece mark.CLOSE_BRACKET d ∷ []) h.1) t k
    tail-declared d (tree.Call es comma) p h t k =
        exprs-declared d es p.1 (left Holds (Print.print_list whole d es) (comma_piece comma d ++ mark_piece mark.CLOSE_PAREN d ∷ []) h.1) t k

    key-declared : (d : ℕ) (x : Key) → ProperKey whole x → Hold Holds (Print.print_key whole d x) → (t : Told Text) → Declares t → Declares (tells_key x t)
    key-declared d (tree.WordKey name) p h t k = k
    key-declared d (tree.StrKey name) p h t k = k
    key-declared d (tree.NumberKey at value) p h t k = k
    key-declared d (tree.ComputedKey e) p h t k = expr-declared (suc d) e p.1 (left Holds (Print.print whole (suc d) e) (mark_piece mark.CLOSE_BRACKET d ∷ []) h.1) t k

    prop-declared : (d : ℕ) (x : Prop) → ProperProp whole x → Hold Holds (Print.print_prop whole d x) → (t : Told Text) → Declares t → Declares (tells_prop x t)
    prop-declared d (tree.Short name) p h t k = k
    prop-declared d (tree.Pair key value) p h t k =
        key-declared d key p.0 (left Holds (Print.print_key whole d key) (mark_piece mark.COLON d ∷ Print.print whole (suc d) value) h) (tells_expr value t)
        (expr-declared (suc d) value p.2 (right Holds (Print.print_key whole d key) (mark_piece mark.COLON d ∷ Print.print whole (suc d) value) h).1 t k)
    prop-declared d (tree.Method key f) p h t k =
        key-declared d key p.0 (left Holds (Print.print_key whole d key) (Print.print_function whole d f) h) (tells_function f t)
        (function-declared d f p.2 (right Holds (Print.print_key whole d key) (Print.print_function whole d f) h) t k)
    prop-declared d (tree.Get key f) p h t k =
        key-declared d key p.0 (left Holds (Print.print_key whole d key) (Print.print_function whole d f) h.1) (tells_function f t)
        (function-declared d f p.2 (right Holds (Print.print_key whole d key) (Print.print_function whole d f) h.1) t k)
    prop-declared d (tree.Set key f) p h t k =
        key-declared d key p.0 (left Holds (Print.print_key whole d key) (Print.print_function whole d f) h.1) (tells_function f t)
        (function-declared d f p.2 (right Holds (Print.print_key whole d key) (Print.print_function whole d f) h.1) t k)

    props-declared : (d : ℕ) (xs : Props) → ProperProps whole xs → Hold Holds (Print.print_props whole d xs) → (t : Told Text) → Declares t → Declares (tells_props xs t)
    props-declared d no_props p h t k = k
    props-declared d (more_props x xs) p h t k =
        prop-declared d x p.0 (left Holds (Print.print_prop whole d x) (Print.print_more_props whole d xs) h) (tells_props xs t)
        (more_props-declared d xs p.1 (right Holds (Print.print_prop whole d x) (Print.print_more_props whole d xs) h) t k)

    more_props-declared : (d : ℕ) (xs : Props) → ProperProps whole xs → Hold Holds (Print.print_more_props whole d xs) → (t : Told Text) → Declares t → Declares (tells_props xs t)
    more_props-declared d no_props p h t k = k
    more_props-declared d (more_props x xs) p h t k =
        prop-declared d x p.0 (left Holds (Print.print_prop whole d x) (Print.print_more_props whole d xs) h.1) (tells_props xs t)
        (more_props-declared d xs p.1 (right Holds (Print.print_prop whole d x) (Print.print_more_props whole d xs) h.1) t k)

    function-declared : (d : ℕ) (f : tree.Function) → ProperFunction whole f → Hold Holds (Print.print_function whole d f) → (t : Told Text) → Declares t → Declares (tells_function f t)
    function-declared d (function form start end name params comma bare body) p h t k = (
      params-declared (Print.param_depth form bare d) d params p.3 (paren_hold Holds bare start d own comma (left Holds (Print.parenthesized bare start d own comma) behind h))
          (body_region (has_initializer params) (tells_body body))
          (body_region-declared (has_initializer params) (tells_body body)
          (body-declared d end form body p.4 (right Holds (Print.arrow_pieces form d) (Print.print_body whole d end body) (right Holds (Print.parenthesized bare start d own comma) behind h)))),
      k,
    )
      where
        own : List Piece
        own = Print.print_params whole (Print.param_depth form bare d) d params

        behind : List Piece
        behind = Print.arrow_pieces form d ++ Print.print_body whole d end body

    params-declared : (q d : ℕ) (ps : Params) → ProperParams whole ps → Hold Holds (Print.print_params whole q d ps) → (t : Told Text) → Declares t → Declares (tells_params ps t)
    params-declared q d no_params p h t k = k
    params-declared q d (more_params name value rest ps) p h t k = (
      behind.0,
      initializer-declared q value p.0 (left Holds (Print.print_initializer whole q value) (Print.print_more_params whole q d ps) behind.1) (tells_params ps t)
          (more_params-declared q d ps p.1 (right Holds (Print.print_initializer whole q value) (Print.print_more_params whole q d ps) behind.1) t k),
    )
      where
        behind : Hold Holds (name_piece name q ∷ (Print.print_initializer whole q value ++ Print.print_more_params whole q d ps))
        behind = right Holds (Print.ellipsis rest q) (name_piece name q ∷ (Print.print_initializer whole q value ++ Print.print_more_params whole q d ps)) h

    more_params-declared : (q d : ℕ) (ps : Params) → ProperParams whole ps → Hold Holds (Print.print_more_params whole q d ps) → (t : Told Text) → Declares t → Declares (tells_params ps t)
    more_params-declared q d no_params p h t k = k
    more_params-declared q d (more_params name value rest ps) p h t k = (
      behind.0,
      initializer-declared q value p.0 (left Holds (Print.print_initializer whole q value) (Print.print_more_params whole q d ps) behind.1) (tells_params ps t)
          (more_params-declared q d ps p.1 (right Holds (Print.print_initializer whole q value) (Print.print_more_params whole q d ps) behind.1) t k),
    )
      where
        behind : Hold Holds (name_piece name q ∷ (Print.print_initializer whole q value ++ Print.print_more_params whole q d ps))
        behind = right Holds (Print.ellipsis rest q) (name_piece name q ∷ (Print.print_initializer whole q value ++ Print.print_more_params whole q d ps)) h.1

    body-declared : (d end : ℕ) (form : FuncForm) (b : Body) → ProperBody whole form b → Hold Holds (Print.print_body whole d end b) → Declares (tells_body b)
    body-declared d end form (BracedBody items) p h =
        stmts-declared d true true items p (left Holds (Print.print_stmts whole d items) (closing_mark mark.CLOSE_BRACE end d ∷ []) h.1) nothing tt
    body-declared d end form (ShortBody value) p h = expr-declared (suc d) value p.3 (until_hold Holds end (Print.print whole (suc d) value) h) nothing tt

    binds-declared : (d : ℕ) (x : Decl) (bs : Binds) → ProperBinds whole bs → Hold Holds (Print.print_binds whole d bs) → (t : Told Text) → Declares t → Declares (tells_binds x bs t)
    binds-declared d x no_binds p h t k = k
    binds-declared d x (more_binds name value bs) p h t k = (
      h.0,
      initializer-declared d value p.0 (left Holds (Print.print_initializer whole d value) (Print.print_more_binds whole d bs) h.1) (tells_binds x bs t)
          (more_binds-declared d x bs p.1 (right Holds (Print.print_initializer whole d value) (Print.print_more_binds whole d bs) h.1) t k),
    )

    more_binds-declared : (d : ℕ) (x : Decl) (bs : Binds) → ProperBinds whole bs → Hold Holds (Print.print_more_binds whole d bs) → (t : Told Text) → Declares t → Declares (tells_binds x bs t)
    more_binds-declared d x no_binds p h t k = k
    more_binds-declared d x (more_binds name value bs) p h t k = (
      h.1.0,
      initializer-declared d value p.0 (left Holds (Print.print_initializer whole d value) (Print.print_more_binds whole d bs) h.1.1) (tells_binds x bs t)
          (more_binds-declared d x bs p.1 (right Holds (Print.print_initializer whole d value) (Print.print_more_binds whole d bs) h.1.1) t k),
    )

    init-declared : (d : ℕ) (x : Init) → ProperInit whole x → Hold Holds (Print.print_init whole d x) → (t : Told Text) → Declares t → Declares (tells_init x t)
    init-declared d NoInit p h t k = k
    init-declared d (ValueInit e) p h t k = expr-declared (suc d) e p.1 h t k
    init-declared d (BindsInit x binds) p h t k = binds-declared d x binds p.2 h.1 t k

    each-declared : (d : ℕ) (x : Each) → ProperEach whole x → Hold Holds (Print.print_each whole d x) → (t : Told Text) → Declares t → Declares (tells_each x t)
    each-declared d (TargetEach e) p h t k = expr-declared (suc d) e p.1 h t k
    each-declared d (BindEach x name) p h t k = (h.1.0, k)

    clauses-declared : (d : ℕ) (i : Bool) (cs : Clauses) → ProperClauses whole i cs → Hold Holds (Print.print_clauses whole d cs) → (t : Told Text) → Declares t → Declares (tells_clauses cs t)
    clauses-declared d i no_clauses p h t k = k
    clauses-declared d i (more_clauses test items cs) p h t k =
        test-declared d test p.0 (left Holds (Print.print_test whole d test) behind h) (tells_stmts false items (tells_clauses cs t))
        (stmts-declared d i false items p.1 (left Holds (Print.print_stmts whole d items) (Print.print_clauses whole d cs) (right Holds (Print.print_test whole d test) behind h).1) (tells_clauses cs t)
        (clauses-declared d i cs p.2 (right Holds (Print.print_stmts whole d items) (Print.print_clauses whole d cs) (right Holds (Print.print_test whole d test) behind h).1) t k))
      where
        behind : List Piece
        behind = mark_piece mark.COLON d ∷ (Print.print_stmts whole d items ++ Print.print_clauses whole d cs)

    stmts-declared : (d : ℕ) (i top : Bool) (ss : Stmts) → ProperStmts whole i ss → Hold Holds (Print.print_stmts whole d ss) → (t : Told Text) → Declares t → Declares (tells_stmts top ss t)
    stmts-declared d i top no_stmts p h t k = k
    stmts-declared d i top (more_stmts s ss) p h t k =
        stmt-declared (suc d) i top s p.0 (left Holds (Print.print_stmt whole (suc d) s) (Print.print_stmts whole d ss) h) (tells_stmts top ss t)
        (stmts-declared d i top ss p.1 (right Holds (Print.print_stmt whole (suc d) s) (Print.print_stmts whole d ss) h) t k)

    else-declared : (d : ℕ) (i : Bool) (o : MaybeStmt) → ProperElse whole i o → Hold Holds (Print.print_else whole d o) → (t : Told Text) → Declares t → Declares (tells_maybe_stmt o t)
    else-declared d i no_stmt p h t k = k
    else-declared d i (some_stmt s) p h t k = stmt-declared (suc d) i false s p.1 h.1 t k

    stmt-declared : (d : ℕ) (i top : Bool) (s : Stmt) → ProperStmt whole i s → Hold Holds (Print.print_stmt whole d s) → (t : Told Text) → Declares t → Declares (tells_stmt top s t)
    stmt-declared d i top (tree.Block items) p h t k =
        (stmts-declared d i false items p (left Holds (Print.print_stmts whole d items) (mark_piece mark.CLOSE_BRACE d ∷ []) h.1) nothing tt, k)
    stmt-declared d i top tree.Empty p h t k = k
    stmt-declared d i top (tree.Debugger semi) p h t k = k
    stmt-declared d i top (tree.Binding x binds semi) p h t k =
        binds-declared d x binds p.1 (left Holds (Print.print_binds whole d binds) (semi_piece (binds_ending BareBinding binds) semi d) h.1) t k
    stmt-declared d i top (tree.Value e semi) p h t k = expr-declared (suc d) e p.2 (left Holds (Print.print whole (suc d) e) (semi_piece (ending e) semi d) h) t k
    stmt-declared d i top (tree.If test then_stmt else_stmt) p h t k =
        expr-declared (suc d) test p.0 (left Holds (Print.print whole (suc d) test) behind h.1.1) (tells_stmt false then_stmt (tells_maybe_stmt else_stmt t))
        (stmt-declared (suc d) i false then_stmt p.2 (left Holds (Print.print_stmt whole (suc d) then_stmt) (Print.print_else whole d else_stmt) rest) (tells_maybe_stmt else_stmt t)
        (else-declared d i else_stmt p.4 (right Holds (Print.print_stmt whole (suc d) then_stmt) (Print.print_else whole d else_stmt) rest) t k))
      where
        behind : List Piece
        behind = mark_piece mark.CLOSE_PAREN d ∷ (Print.print_stmt whole (suc d) then_stmt ++ Print.print_else whole d else_stmt)

        rest : Hold Holds (Print.print_stmt whole (suc d) then_stmt ++ Print.print_else whole d else_stmt)
        rest = (right Holds (Print.print whole (suc d) test) behind h.1.1).1
    stmt-declared d i top (tree.Do body test semi) p h t k = (
      stmt-declared (suc d) i false body p.1 (left Holds (Print.print_stmt whole (suc d) body) behind h.1) (tells_expr test nothing)
          (expr-declared (suc d) test p.2 (left Holds (Print.print whole (suc d) test) (mark_piece mark.CLOSE_PAREN d ∷ semi_piece DoWhile semi d) (right Holds (Print.print_stmt whole (suc d) body) behind h.1).1.1) nothing tt),
      k,
    )
      where
        behind : List Piece
        behind = word_piece word.WHILE d ∷ mark_piece mark.OPEN_PAREN d ∷ (Print.print whole (suc d) test ++ (mark_piece mark.CLOSE_PAREN d ∷ semi_piece DoWhile semi d))
    stmt-declared d i top (tree.While test body) p h t k = (
      expr-declared (suc d) test p.0 (left Holds (Print.print whole (suc d) test) (mark_piece mark.CLOSE_PAREN d ∷ Print.print_stmt whole (suc d) body) h.1.1) (tells_stmt false body nothing)
          (stmt-declared (suc d) i false body p.2 (right Holds (Print.print whole (suc d) test) (mark_piece mark.CLOSE_PAREN d ∷ Print.print_stmt whole (suc d) body) h.1.1).1 nothing tt),
      k,
    )
    stmt-declared d i top (tree.For init test update body) p h t k = (
      (
        init-declared d init p.0 (left Holds (Print.print_init whole d init) from_test h.1.1) (tells_maybe test (tells_maybe update (tells_stmt false body nothing)))
            (option-declared (suc d) test p.1 (left Holds (Print.print_maybe whole (suc d) test) from_update rest) (tells_maybe update (tells_stmt false body nothing))
            (option-declared (suc d) update p.2 (left Holds (Print.print_maybe whole (suc d) update) from_body more) (tells_stmt false body nothing)
            (stmt-declared (suc d) i false body p.4 (right Holds (Print.print_maybe whole (suc d) update) from_body more).1 nothing tt))),
        tt,
      ),
      k,
    )
      where
        from_body : List Piece
        from_body = mark_piece mark.CLOSE_PAREN d ∷ Print.print_stmt whole (suc d) body

        from_update : List Piece
        from_update = mark_piece mark.SEMICOLON d ∷ (Print.print_maybe whole (suc d) update ++ from_body)

        from_test : List Piece
        from_test = mark_piece mark.SEMICOLON d ∷ (Print.print_maybe whole (suc d) test ++ from_update)

        rest : Hold Holds (Print.print_maybe whole (suc d) test ++ from_update)
        rest = (right Holds (Print.print_init whole d init) from_test h.1.1).1

        more : Hold Holds (Print.print_maybe whole (suc d) update ++ from_body)
        more = (right Holds (Print.print_maybe whole (suc d) test) from_update rest).1
    stmt-declared d i top (tree.ForIn each over body) p h t k = (
      (
        each-declared d each p.0 (left Holds (Print.print_each whole d each) from_over h.1.1) (tells_expr over (tells_stmt false body nothing))
            (expr-declared (suc d) over p.1 (left Holds (Print.print whole (suc d) over) from_body rest) (tells_stmt false body nothing)
            (stmt-declared (suc d) i false body p.3 (right Holds (Print.print whole (suc d) over) from_body rest).1 nothing tt)),
        tt,
      ),
      k,
    )
      where
        from_body : List Piece
        from_body = mark_piece mark.CLOSE_PAREN d ∷ Print.print_stmt whole (suc d) body

        from_over : List Piece
        from_over = word_piece word.IN d ∷ (Print.print whole (suc d) over ++ from_body)

        rest : Hold Holds (Print.print whole (suc d) over ++ from_body)
        rest = (right Holds (Print.print_each whole d each) from_over h.1.1).1
    stmt-declared d i top (tree.Continue at label semi) p h t k =
        k
    stmt-declared d i top (tree.Break at label semi) p h t k =
        k
    stmt-declared d i top (tree.Return value semi) p h t k =
        option-declared (suc d) value p.1 (glue_hold Holds (Print.print_maybe whole (suc d) value) (left Holds (glue (Print.print_maybe whole (suc d) value)) (semi_piece (return_ending value) semi d) h.1)) t k
    stmt-declared d i top (tree.Throw e semi) p h t k =
        expr-declared (suc d) e p (glue_hold Holds (Print.print whole (suc d) e) (left Holds (glue (Print.print whole (suc d) e)) (semi_piece (ending e) semi d) h.1)) t k
    stmt-declared d i top (tree.Switch e clauses) p h t k =
        expr-declared (suc d) e p.0 (left Holds (Print.print whole (suc d) e) behind h.1.1) (told.inner told.Switch 0 (tells_clauses clauses nothing) t)
        (clauses-declared d i clauses p.2 (left Holds (Print.print_clauses whole d clauses) (mark_piece mark.CLOSE_BRACE d ∷ []) (right Holds (Print.print whole (suc d) e) behind h.1.1).1.1) nothing tt, k)
      where
        behind : List Piece
        behind = mark_piece mark.CLOSE_PAREN d ∷ mark_piece mark.OPEN_BRACE d ∷ (Print.print_clauses whole d clauses ++ mark_piece mark.CLOSE_BRACE d ∷ [])
    stmt-declared d i top (tree.Label name body) p h t k =
        (labelled-declared (labels_on body) (tells_stmt false body nothing) (stmt-declared (suc d) i false body p.1 h.1.1 nothing tt), k)
    stmt-declared d i top (tree.Try body None handler) p h t k = (
      stmts-declared d i false body p.0 (left Holds (Print.print_stmts whole d body) behind h.1.1) nothing tt,
      (stmts-declared d i false handler p.1 (left Holds (Print.print_stmts whole d handler) (mark_piece mark.CLOSE_BRACE d ∷ []) rest) nothing tt, k),
    )
      where
        behind : List Piece
        behind = mark_piece mark.CLOSE_BRACE d ∷ word_piece word.CATCH d ∷ mark_piece mark.OPEN_BRACE d ∷ (Print.print_stmts whole d handler ++ mark_piece mark.CLOSE_BRACE d ∷ [])

        rest : Hold Holds (Print.print_stmts whole d handler ++ mark_piece mark.CLOSE_BRACE d ∷ [])
        rest = (right Holds (Print.print_stmts whole d body) behind h.1.1).1.1.1
    stmt-declared d i top (tree.Try body (Some name) handler) p h t k = (
      stmts-declared d i false body p.0 (left Holds (Print.print_stmts whole d body) behind h.1.1) nothing tt,
      ((rest.0, (stmts-declared d i false handler p.1 (left Holds (Print.print_stmts whole d handler) (mark_piece mark.CLOSE_BRACE d ∷ []) rest.1.1.1) nothing tt, tt)), k),
    )
      where
        behind : List Piece
        behind =
            mark_piece mark.CLOSE_BRACE d ∷ word_piece word.CATCH d ∷ mark_piece mark.OPEN_PAREN d ∷ name_piece name d ∷ mark_piece mark.CLOSE_PAREN d ∷ mark_piece mark.OPEN_BRACE d
            ∷ (Print.print_stmts whole d handler ++ mark_piece mark.CLOSE_BRACE d ∷ [])

        rest : Hold Holds (name_piece name d ∷ mark_piece mark.CLOSE_PAREN d ∷ mark_piece mark.OPEN_BRACE d ∷ (Print.print_stmts whole d handler ++ mark_piece mark.CLOSE_BRACE d ∷ []))
        rest = (right Holds (Print.print_stmts whole d body) behind h.1.1).1.1.1
    stmt-declared d i top (tree.Declared f) p h t k =
        declares-declared top (function_name f) (tells_function f t) (declared_name d f h) (function-declared d f p.1 (declared_rest d f h) t k)

  -- What holds of each token that is a name holds of each name that a script declares.
  pub script-declared : (w : List Lexeme) (next : Lexeme) (items : Stmts) → IsScript w next items → OfEachNameToken Holds w → OfEachDeclared Holds (tells_script items)
  script-declared w next items h n = (stmts-declared 0 false true items h.proper (fits_hold Holds (Print.print_stmts whole 0 items) w next h.fits n) nothing tt, tt)
