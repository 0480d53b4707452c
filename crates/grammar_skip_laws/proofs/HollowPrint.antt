-- The places of a tree with hollow functions are those of the tree without what stands in the bodies that are chosen.
use Rattle.std.proofs.Common.{◌≡◌, ◌∙◌, ℕ, suc, List, [], ◌∷◌, ◌++◌, Bool, true, false, not, ◌&&◌, Option, None, refl, sym, ap, subst, append_assoc}
use Rattle.script_grammar.specs.declared.token.FuncForm.{FuncForm}
use Rattle.script_grammar.specs.Tree.{Named, Expr, Exprs, no_exprs, more_exprs, MaybeExpr, no_expr, some_expr, MaybeArgs, no_args, some_args, Parts, no_parts, more_parts, Items, no_items, more_items, Operands, no_operands, more_operands, Tail, Tails, no_tails, more_tails, Key, Prop, Props, no_props, more_props, Function, function, Params, no_params, more_params, Body, Binds, no_binds, more_binds, Init, Each, Clauses, no_clauses, more_clauses, Stmt, Stmts, no_stmts, more_stmts, MaybeStmt, no_stmt, some_stmt}
use Rattle.script_grammar.specs.Tree as tree
use Rattle.script_grammar.specs.Pieces.{whole, Piece, Ending, Fits, At, placed, glued_mark, mark_piece, comma_piece, semi_piece, text_piece, template_piece, name_piece, until}
use Rattle.script_grammar.specs.Pieces as pieces
use Rattle.script_grammar.specs.Print.{part_kind, first_kind, print, print_list, print_more, print_maybe, print_args, print_parts, print_items, print_more_items, print_operands, print_tails, print_tail, print_key, print_props, print_more_props, print_prop, print_func, print_function, print_declared, print_params, print_more_params, print_initializer, print_body, print_binds, print_more_binds, print_stmts, print_else, print_init, print_each, print_clauses, print_test, print_stmt, parenthesized, param_depth, above, func_word, print_name, print_catch_param, ellipsis, arrow_pieces}
use Rattle.script_grammar.specs.Proper.{Proper, ProperExprs, ProperMaybe, ProperOption, ProperArgs, ProperParts, ProperItems, ProperOperands, ProperTails, ProperTail, ProperKey, ProperProp, ProperProps, ProperFunction, ProperParams, ProperBody, ProperBinds, ProperInit, ProperEach, ProperClauses, ProperStmts, ProperElse, ProperStmt}
use Rattle.stencil_data.specs.declared.functions.FuncKind.{FuncKind}
use Rattle.scope_analysis.specs.DeclaredNames.{Text, has_initializer}
use Rattle.scope_analysis.specs.Functions.{Inner, inner_expr, inner_exprs, inner_maybe, inner_args, inner_parts, inner_items, inner_operands, inner_tails, inner_tail, inner_key, inner_prop, inner_props, inner_binds, inner_init, inner_each, inner_stmt, inner_stmts, inner_else, inner_clauses, inner_params, inner_body, params_around, inner_function, inner_script}
use Rattle.script_grammar.specs.declared.token.FuncForm.TheVariants as form
use Rattle.script_grammar.specs.declared.token.Kind.TheVariants as kinds
use Rattle.script_grammar.specs.declared.token.mark.TheConstants as mark
use Rattle.script_grammar.specs.Kinds.{is_arrow_form}
use Rattle.script_grammar.specs.Lexeme.{Lexeme}
use Rattle.script_grammar.specs.Endings.{ending, binds_ending, bind_ending, return_ending}
use Rattle.script_grammar.specs.Script.{ProperAlone, OwnProper, print_alone, print_own}
use Rattle.grammar_parser_laws.proofs.Fitting.{Parted, fits_part}
use Rattle.grammar_parser_laws.proofs.Friendly.{first_of}
use Rattle.grammar_parser_laws.proofs.Nested.{Nested, nested_append, comma_nested}
use Rattle.grammar_parser_laws.proofs.NestedTrees.{nested_params, nested_stmts}
use Rattle.grammar_skip_laws.specs.Hollow.{hollow, hollow_exprs, hollow_maybe, hollow_args, hollow_parts, hollow_items, hollow_operands, hollow_tails, hollow_tail, hollow_key, hollow_prop, hollow_props, hollow_function, hollow_params, hollow_body, hollow_binds, hollow_init, hollow_each, hollow_stmt, hollow_stmts, hollow_else, hollow_clauses, hollow_own, hollow_inside}
use Rattle.grammar_skip_laws.specs.Holes.{IsMark, IsJoint, no_arrow, arrow, IsHead, single, listed, is_hollow}
use Rattle.grammar_skip_laws.proofs.HollowProper.{ending_same}
use Rattle.grammar_skip_laws.proofs.Hollowing.{HeadAt, HeadPlaces, BracedPlaces, Hollows, none, other, hole, append_none, same, past, past_same, both, before, after, after_same, three, four, both_from, both_glue, both_until}

-- ---- what stands in front of a function's body

-- an arrow's mark, or nothing
joint_at : (f : FuncForm) (d : ℕ) (w : List Lexeme) (n : Lexeme) → Fits (arrow_pieces f d) w n → IsJoint w
joint_at form.Arrow d [] n h = absurd h
joint_at form.Arrow d (t ∷ []) n h = arrow t h.0.kind
joint_at form.Arrow d (t ∷ u ∷ w) n h = absurd h.1
joint_at form.Script d [] n h = no_arrow
joint_at form.Script d (t ∷ w) n h = absurd h
joint_at form.Function d [] n h = no_arrow
joint_at form.Function d (t ∷ w) n h = absurd h
joint_at form.Method d [] n h = no_arrow
joint_at form.Method d (t ∷ w) n h = absurd h
joint_at form.Getter d [] n h = no_arrow
joint_at form.Getter d (t ∷ w) n h = absurd h
joint_at form.Setter d [] n h = no_arrow
joint_at form.Setter d (t ∷ w) n h = absurd h

-- parameters in parentheses
listed_at : (f : FuncForm) (start d : ℕ) (ps : List Piece) (comma : Bool) → Nested ps → HeadPlaces start (parenthesized false start d ps comma ++ arrow_pieces f d)
listed_at f start d ps comma nested = record { at = at }
  where
    closer : List Piece
    closer = mark_piece mark.CLOSE_PAREN d ∷ []

    params : List Piece
    params = ps ++ comma_piece comma d

    closed : (t : Lexeme) (params_are joint : List Lexeme) (c : List Lexeme) (n : Lexeme) → IsMark mark.OPEN_PAREN t → t.start ≡ start → pieces.IsBalanced params_are → Fits (mark_piece mark.CLOSE_PAREN d ∷ []) c n → IsJoint joint → HeadAt start (t ∷ ((params_are ++ c) ++ joint))
    closed t u joint [] n k s b h j = absurd h
    closed t u joint (c ∷ e ∷ more) n k s b h j = absurd h.1
    closed t u joint (c ∷ []) n k s b h j =
        record { first = t; more = (u ++ c ∷ []) ++ joint; are = refl; starts = s; is = listed t u c joint k b h.0.kind j (t ∷ ((u ++ c ∷ []) ++ joint)) (ap (λ x. t ∷ x) (append_assoc u (c ∷ []) joint)) }

    at : (w : List Lexeme) (n : Lexeme) → Fits (parenthesized false start d ps comma ++ arrow_pieces f d) w n → HeadAt start w
    at [] n h = absurd h
    at (t ∷ w) n h =
        let p = fits_part (ps ++ (comma_piece comma d ++ mark_piece mark.CLOSE_PAREN d ∷ [])) (arrow_pieces f d) w n h.1 in
        let q = fits_part (ps ++ comma_piece comma d) (mark_piece mark.CLOSE_PAREN d ∷ []) p.front (first_of p.back n) (subst (λ x. Fits x p.front (first_of p.back n)) (sym (append_assoc ps (comma_piece comma d) (mark_piece mark.CLOSE_PAREN d ∷ []))) p.first) in
        subst (λ x. HeadAt start (t ∷ x)) (ap (λ x. x ++ p.back) (sym q.split) ∙ sym p.split)
        (closed t q.front p.back q.back (first_of p.back n) h.0.kind h.0.starts.0 ((nested_append nested (comma_nested comma d)).at q.front (first_of q.back (first_of p.back n)) q.first []) q.second (joint_at f d p.back n p.second))

-- an arrow's single name
single_at : (name : Named) (d : ℕ) → HeadPlaces name.at (name_piece name d ∷ glued_mark mark.ARROW d ∷ [])
single_at name d = record { at = at }
  where
    at : (w : List Lexeme) (n : Lexeme) → Fits (name_piece name d ∷ glued_mark mark.ARROW d ∷ []) w n → HeadAt name.at w
    at [] n h = absurd h
    at (t ∷ []) n h = absurd h.1
    at (t ∷ u ∷ []) n h = record { first = t; more = u ∷ []; are = refl; starts = h.0.starts.0; is = single t u h.0.kind h.1.0.kind }
    at (t ∷ u ∷ v ∷ w) n h = absurd h.1.1

module _ (chosen : ℕ → Bool) where
  -- ---- a function as an expression or as a declaration, and one from its parameters on

  hollow_not : (kind : FuncKind) (name : Option Text) (around : List ℕ) (f : Function) (d : ℕ) (g : Function) → is_hollow chosen f ≡ false → g ≡ f → Hollows chosen (record { func = f; kind = kind; name = name; around = around } ∷ []) (print_function whole d f) (print_function whole d g)
  hollow_not kind name around f d g e k = subst (λ x. Hollows chosen (record { func = f; kind = kind; name = name; around = around } ∷ []) (print_function whole d f) (print_function whole d x)) (sym k) (other _ [] _ _ e (same (print_function whole d f)))

  abbrev Alone : FuncKind → Option Text → List ℕ → ℕ → Function → Function → Type 0
  Alone kind name around d f g = Hollows chosen (record { func = f; kind = kind; name = name; around = around } ∷ []) (print_function whole d f) (print_function whole d g)

  -- its braced body is empty
  braced_hollow : (kind : FuncKind) (name : Option Text) (around : List ℕ) (d : ℕ) (form : FuncForm) (start end : ℕ) (who : Option Named) (ps : Params) (comma bare : Bool) (items : Stmts) → chosen start ≡ true → ProperFunction whole (function form start end who ps comma bare (tree.BracedBody items))
      → Alone kind name around d (function form start end who ps comma bare (tree.BracedBody items)) (function form start end who ps comma bare (tree.BracedBody no_stmts))
  braced_hollow kind name around d form start end who ps comma false items c p =
      let f = function form start end who ps comma false (tree.BracedBody items) in
      let params = print_params whole (param_depth form false d) d ps in
      let b : BracedPlaces f = record {
        first = placed (kinds.Mark mark.OPEN_PAREN) start d;
        more = (params ++ (comma_piece comma d ++ mark_piece mark.CLOSE_PAREN d ∷ [])) ++ arrow_pieces form d;
        inner = print_stmts whole d items;
        ends = end ∷ [];
        depth = d;
        head = listed_at form start d params comma (nested_params whole (param_depth form false d) d ps p.3);
        nested = nested_stmts whole d true items p.4;
        end = λ n a. a.0;
      } in
      hole _ b [] [] [] _ _ (ap (λ x. x && true) c)
      (sym (append_none _ ∙ append_assoc (parenthesized false start d params comma) (arrow_pieces form d) (mark_piece mark.OPEN_BRACE d ∷ (print_stmts whole d items ++ pieces.closing_mark mark.CLOSE_BRACE end d ∷ []))))
      (sym (append_none _ ∙ append_assoc (parenthesized false start d params comma) (arrow_pieces form d) (mark_piece mark.OPEN_BRACE d ∷ pieces.closing_mark mark.CLOSE_BRACE end d ∷ [])))
      none
  braced_hollow kind name around d form.Arrow start end who (more_params n no_expr false no_params) comma true items c p =
      let f = function form.Arrow start end who (more_params n no_expr false no_params) comma true (tree.BracedBody items) in
      let b : BracedPlaces f = record {
        first = name_piece n d;
        more = glued_mark mark.ARROW d ∷ [];
        inner = print_stmts whole d items;
        ends = end ∷ [];
        depth = d;
        head = subst (λ x. HeadPlaces x (name_piece n d ∷ glued_mark mark.ARROW d ∷ [])) (sym p.2.1) (single_at n d);
        nested = nested_stmts whole d true items p.4;
        end = λ n a. a.0;
      } in
      hole _ b [] [] [] _ _ (ap (λ x. x && true) c) (sym (append_none _)) (sym (append_none _)) none
  braced_hollow kind name around d form.Arrow start end who (more_params n no_expr false (more_params m v r ps)) comma true items c p = absurd p.2
  braced_hollow kind name around d form.Arrow start end who (more_params n no_expr true ps) comma true items c p = absurd p.2
  braced_hollow kind name around d form.Arrow start end who (more_params n (some_expr e) rest ps) comma true items c p = absurd p.2
  braced_hollow kind name around d form.Arrow start end who no_params comma true items c p = absurd p.2
  braced_hollow kind name around d form.Script start end who ps comma true items c p = absurd p.2
  braced_hollow kind name around d form.Function start end who ps comma true items c p = absurd p.2
  braced_hollow kind name around d form.Method start end who ps comma true items c p = absurd p.2
  braced_hollow kind name around d form.Getter start end who ps comma true items c p = absurd p.2
  braced_hollow kind name around d form.Setter start end who ps comma true items c p = absurd p.2

  alone_by : (kind : FuncKind) (name : Option Text) (around : List ℕ) (d : ℕ) (form : FuncForm) (start end : ℕ) (who : Option Named) (ps : Params) (comma bare : Bool) (body : Body) (c : Bool) → chosen start ≡ c → ProperFunction whole (function form start end who ps comma bare body)
      → Alone kind name around d (function form start end who ps comma bare body) (function form start end who ps comma bare (hollow_body chosen c body))
  alone_by kind name around d form start end who ps comma bare (tree.BracedBody items) true e p = braced_hollow kind name around d form start end who ps comma bare items e p
  alone_by kind name around d form start end who ps comma bare (tree.ShortBody value) true e p = hollow_not kind name around _ d _ (ap (λ x. x && false) e) refl
  alone_by kind name around d form start end who ps comma bare (tree.BracedBody items) false e p = hollow_not kind name around _ d _ (ap (λ x. x && true) e) refl
  alone_by kind name around d form start end who ps comma bare (tree.ShortBody value) false e p = hollow_not kind name around _ d _ (ap (λ x. x && false) e) refl

  alone : (kind : FuncKind) (name : Option Text) (around : List ℕ) (d : ℕ) (f : Function) → ProperFunction whole f → Alone kind name around d f (hollow_function chosen f)
  alone kind name around d (function form start end who ps comma bare body) p = alone_by kind name around d form start end who ps comma bare body (chosen start) refl p

  inside_func : (d : ℕ) (at : ℕ) (kind : FuncKind) (name : Option Text) (f : Function) (around : List ℕ) → ProperFunction whole f → Hollows chosen (record { func = f; kind = kind; name = name; around = around } ∷ []) (print_func whole d at f) (print_func whole d at (hollow_function chosen f))
  inside_func d at kind name (function form start end who ps comma bare body) around p = before (func_word form at who d) (alone kind name around d (function form start end who ps comma bare body) p)

  inside_declared : (d : ℕ) (kind : FuncKind) (name : Option Text) (f : Function) (around : List ℕ) → ProperFunction whole f → Hollows chosen (record { func = f; kind = kind; name = name; around = around } ∷ []) (print_declared whole d f) (print_declared whole d (hollow_function chosen f))
  inside_declared d kind name (function form start end who ps comma bare body) around p = past _ (before (print_name who d) (alone kind name around d (function form start end who ps comma bare body) p))

  inside_method : (d : ℕ) (kind : FuncKind) (f : Function) (around : List ℕ) → ProperFunction whole f → Hollows chosen (record { func = f; kind = kind; name = None; around = around } ∷ []) (print_function whole d f) (print_function whole d (hollow_function chosen f))
  inside_method d kind f around p = alone kind None around d f p

  -- ---- how parts begin and end

  part_same : (x : Parts) → part_kind (hollow_parts chosen x) ≡ part_kind x
  part_same no_parts = refl
  part_same (more_parts value behind rest) = refl

  first_same : (x : Parts) → first_kind (hollow_parts chosen x) ≡ first_kind x
  first_same no_parts = refl
  first_same (more_parts value behind rest) = refl

  bind_same : (o : MaybeExpr) → bind_ending (hollow_maybe chosen o) ≡ bind_ending o
  bind_same no_expr = refl
  bind_same (some_expr e) = ending_same chosen e

  binds_same : (x y : Ending) (bs : Binds) → x ≡ y → binds_ending x (hollow_binds chosen bs) ≡ binds_ending y bs
  binds_same x y no_binds e = e
  binds_same x y (more_binds name value bs) e = binds_same (bind_ending (hollow_maybe chosen value)) (bind_ending value) bs (bind_same value)

  return_same : (o : MaybeExpr) → return_ending (hollow_maybe chosen o) ≡ return_ending o
  return_same no_expr = refl
  return_same (some_expr e) = ending_same chosen e

  -- ---- expressions

  mutual
    in_expr : (d : ℕ) (x : Expr) (around : List ℕ) → Proper whole x → Hollows chosen (inner_expr x around) (print whole d x) (print whole d (hollow chosen x))
    in_expr d (tree.This at) around p = same _
    in_expr d (tree.Name name) around p = same _
    in_expr d (tree.Null at) around p = same _
    in_expr d (tree.True at) around p = same _
    in_expr d (tree.False at) around p = same _
    in_expr d (tree.Number at value) around p = same _
    in_expr d (tree.Str at end text) around p = same _
    in_expr d (tree.Template at first parts) around p = past_same _ _ (ap (λ k. text_piece k first at d) (sym (first_same parts))) (in_parts d parts around p)
    in_expr d (tree.Array at items comma) around p = past _ (after _ (in_items d items around p.1))
    in_expr d (tree.Object at props comma) around p = past _ (after _ (in_props d props around p.1))
    in_expr d (tree.Func at f) around p = inside_func d at _ _ f around p.1
    in_expr d (tree.Paren at inner) around p = past _ (after _ (in_expr (suc d) inner around p))
    in_expr d (tree.Chain head tails) around p = both (in_expr d head around p.1) (in_tails d tails around p.3)
    in_expr d (tree.New at callee args) around p = past _ (both (in_expr (suc d) callee around p.1) (in_args (suc d) args around p.2))
    in_expr d (tree.Unary at op of is_word) around p = past _ (in_expr (suc d) of around p.2)
    in_expr d (tree.Update at op true of) around p = past _ (in_expr (suc d) of around p.2)
    in_expr d (tree.Update at op false of) around p = (after _ (both_from at (in_expr d of around p.2)))
    in_expr d (tree.Binary first rest) around p = both (in_expr d first around p.3) (in_operands d rest _ around p.4)
    in_expr d (tree.Cond test then_value else_value) around p = three _ (in_expr d test around p.1) (in_expr (suc d) then_value around p.3) (past _ (in_expr (suc d) else_value around p.5))
    in_expr d (tree.Assign op target value) around p = both (in_expr d target around p.2) (past _ (in_expr (suc d) value around p.4))
    in_expr d (tree.Comma items) around p = in_list (above d) items around p.1

    in_list : (d : ℕ) (x : Exprs) (around : List ℕ) → ProperExprs whole x → Hollows chosen (inner_exprs x around) (print_list whole d x) (print_list whole d (hollow_exprs chosen x))
    in_list d no_exprs around p = same _
    in_list d (more_exprs e es) around p = both (in_expr (suc d) e around p.1) (in_more d es around p.2)

    in_more : (d : ℕ) (x : Exprs) (around : List ℕ) → ProperExprs whole x → Hollows chosen (inner_exprs x around) (print_more whole d x) (print_more whole d (hollow_exprs chosen x))
    in_more d no_exprs around p = same _
    in_more d (more_exprs e es) around p = past _ (both (in_expr (suc d) e around p.1) (in_more d es around p.2))

    in_maybe : (d : ℕ) (x : MaybeExpr) (around : List ℕ) → ProperMaybe whole x → Hollows chosen (inner_maybe x around) (print_maybe whole d x) (print_maybe whole d (hollow_maybe chosen x))
    in_maybe d no_expr around p = same _
    in_maybe d (some_expr e) around p = in_expr d e around p.1

    in_option : (d : ℕ) (x : MaybeExpr) (around : List ℕ) → ProperOption whole x → Hollows chosen (inner_maybe x around) (print_maybe whole d x) (print_maybe whole d (hollow_maybe chosen x))
    in_option d no_expr around p = same _
    in_option d (some_expr e) around p = in_expr d e around p

    in_args : (d : ℕ) (x : MaybeArgs) (around : List ℕ) → ProperArgs whole x → Hollows chosen (inner_args x around) (print_args whole d x) (print_args whole d (hollow_args chosen x))
    in_args d no_args around p = same _
    in_args d (some_args es comma) around p = past _ (after _ (in_list d es around p.1))

    in_parts : (d : ℕ) (x : Parts) (around : List ℕ) → ProperParts whole x → Hollows chosen (inner_parts x around) (print_parts whole d x) (print_parts whole d (hollow_parts chosen x))
    in_parts d no_parts around p = same _
    in_parts d (more_parts value behind_it rest) around p = both (in_expr (suc d) value around p.0) (past_same _ _ (ap (λ k. template_piece k behind_it d) (sym (part_same rest))) (in_parts d rest around p.1))

    in_items : (d : ℕ) (x : Items) (around : List ℕ) → ProperItems whole x → Hollows chosen (inner_items x around) (print_items whole d x) (print_items whole d (hollow_items chosen x))
    in_items d no_items around p = same _
    in_items d (more_items i is) around p = both (in_maybe (suc d) i around p.0) (in_more_items d is around p.1)

    in_more_items : (d : ℕ) (x : Items) (around : List ℕ) → ProperItems whole x → Hollows chosen (inner_items x around) (print_more_items whole d x) (print_more_items whole d (hollow_items chosen x))
    in_more_items d no_items around p = same _
    in_more_items d (more_items i is) around p = past _ (both (in_maybe (suc d) i around p.0) (in_more_items d is around p.1))

    in_operands : (d : ℕ) (x : Operands) (n : ℕ) (around : List ℕ) → ProperOperands whole n x → Hollows chosen (inner_operands x around) (print_operands whole d x) (print_operands whole d (hollow_operands chosen x))
    in_operands d no_operands n around p = same _
    in_operands d (more_operands op is_word value rest) n around p = past _ (both (in_expr d value around p.2) (in_operands d rest n around p.3))

    in_tails : (d : ℕ) (x : Tails) (around : List ℕ) → ProperTails whole x → Hollows chosen (inner_tails x around) (print_tails whole d x) (print_tails whole d (hollow_tails chosen x))
    in_tails d no_tails around p = same _
    in_tails d (more_tails t ts) around p = both (in_tail d t around p.0) (in_tails d ts around p.1)

    in_tail : (d : ℕ) (x : Tail) (around : List ℕ) → ProperTail whole x → Hollows chosen (inner_tail x around) (print_tail whole d x) (print_tail whole d (hollow_tail chosen x))
    in_tail d (tree.Dot text) around p = same _
    in_tail d (tree.Index e) around p = past _ (after _ (in_expr (suc d) e around p))
    in_tail d (tree.Call es comma) around p = past _ (after _ (in_list d es around p.1))

    in_key : (d : ℕ) (x : Key) (around : List ℕ) → ProperKey whole x → Hollows chosen (inner_key x around) (print_key whole d x) (print_key whole d (hollow_key chosen x))
    in_key d (tree.WordKey n) around p = same _
    in_key d (tree.StrKey n) around p = same _
    in_key d (tree.NumberKey at value) around p = same _
    in_key d (tree.ComputedKey e) around p = past _ (after _ (in_expr (suc d) e around p.1))

    in_prop : (d : ℕ) (x : Prop) (around : List ℕ) → ProperProp whole x → Hollows chosen (inner_prop x around) (print_prop whole d x) (print_prop whole d (hollow_prop chosen x))
    in_prop d (tree.Short n) around p = same _
    in_prop d (tree.Pair key value) around p = both (in_key d key around p.0) (past _ (in_expr (suc d) value around p.2))
    in_prop d (tree.Method key f) around p = both (in_key d key around p.0) (inside_method d _ f around p.2)
    in_prop d (tree.Get key f) around p = past _ (both (in_key d key around p.0) (inside_method d _ f around p.2))
    in_prop d (tree.Set key f) around p = past _ (both (in_key d key around p.0) (inside_method d _ f around p.2))

    in_props : (d : ℕ) (x : Props) (around : List ℕ) → ProperProps whole x → Hollows chosen (inner_props x around) (print_props whole d x) (print_props whole d (hollow_props chosen x))
    in_props d no_props around p = same _
    in_props d (more_props q qs) around p = both (in_prop d q around p.0) (in_more_props d qs around p.1)

    in_more_props : (d : ℕ) (x : Props) (around : List ℕ) → ProperProps whole x → Hollows chosen (inner_props x around) (print_more_props whole d x) (print_more_props whole d (hollow_props chosen x))
    in_more_props d no_props around p = same _
    in_more_props d (more_props q qs) around p = past _ (both (in_prop d q around p.0) (in_more_props d qs around p.1))

  -- ---- names with initializers, and heads of loops

  in_initializer : (d : ℕ) (x : MaybeExpr) (around : List ℕ) → ProperMaybe whole x → Hollows chosen (inner_maybe x around) (print_initializer whole d x) (print_initializer whole d (hollow_maybe chosen x))
  in_initializer d no_expr around p = same _
  in_initializer d (some_expr e) around p = past _ (in_expr (suc d) e around p.1)

  in_more_binds : (d : ℕ) (x : Binds) (around : List ℕ) → ProperBinds whole x → Hollows chosen (inner_binds x around) (print_more_binds whole d x) (print_more_binds whole d (hollow_binds chosen x))
  in_more_binds d no_binds around p = same _
  in_more_binds d (more_binds name value bs) around p = past _ (past _ (both (in_initializer d value around p.0) (in_more_binds d bs around p.1)))

  in_binds : (d : ℕ) (x : Binds) (around : List ℕ) → ProperBinds whole x → Hollows chosen (inner_binds x around) (print_binds whole d x) (print_binds whole d (hollow_binds chosen x))
  in_binds d no_binds around p = same _
  in_binds d (more_binds name value bs) around p = past _ (both (in_initializer d value around p.0) (in_more_binds d bs around p.1))

  in_init : (d : ℕ) (x : Init) (around : List ℕ) → ProperInit whole x → Hollows chosen (inner_init x around) (print_init whole d x) (print_init whole d (hollow_init chosen x))
  in_init d tree.NoInit around p = same _
  in_init d (tree.ValueInit e) around p = in_expr (suc d) e around p.1
  in_init d (tree.BindsInit decl bs) around p = past _ (in_binds d bs around p.2)

  in_each : (d : ℕ) (x : Each) (around : List ℕ) → ProperEach whole x → Hollows chosen (inner_each x around) (print_each whole d x) (print_each whole d (hollow_each chosen x))
  in_each d (tree.TargetEach e) around p = in_expr (suc d) e around p.1
  in_each d (tree.BindEach decl name) around p = same _

  in_test : (d : ℕ) (x : MaybeExpr) (around : List ℕ) → ProperOption whole x → Hollows chosen (inner_maybe x around) (print_test whole d x) (print_test whole d (hollow_maybe chosen x))
  in_test d no_expr around p = same _
  in_test d (some_expr e) around p = past _ (in_expr (suc d) e around p)

  -- ---- statements

  mutual
    in_stmts : (d : ℕ) (x : Stmts) (next : ℕ) (around : List ℕ) (inside : Bool) → ProperStmts whole inside x → Hollows chosen (inner_stmts x next around) (print_stmts whole d x) (print_stmts whole d (hollow_stmts chosen x))
    in_stmts d no_stmts next around inside p = same _
    in_stmts d (more_stmts s ss) next around inside p = both (in_stmt (suc d) s next around inside p.0) (in_stmts d ss _ around inside p.1)

    in_else : (d : ℕ) (x : MaybeStmt) (next : ℕ) (around : List ℕ) (inside : Bool) → ProperElse whole inside x → Hollows chosen (inner_else x next around) (print_else whole d x) (print_else whole d (hollow_else chosen x))
    in_else d no_stmt next around inside p = same _
    in_else d (some_stmt s) next around inside p = past _ (in_stmt (suc d) s next around inside p.1)

    in_clauses : (d : ℕ) (x : Clauses) (next : ℕ) (around : List ℕ) (inside : Bool) → ProperClauses whole inside x → Hollows chosen (inner_clauses x next around) (print_clauses whole d x) (print_clauses whole d (hollow_clauses chosen x))
    in_clauses d no_clauses next around inside p = same _
    in_clauses d (more_clauses test items cs) next around inside p = three _ (in_test d test around p.0) (in_stmts d items next around inside p.1) (in_clauses d cs _ around inside p.2)

    in_stmt : (d : ℕ) (x : Stmt) (next : ℕ) (around : List ℕ) (inside : Bool) → ProperStmt whole inside x → Hollows chosen (inner_stmt x next around) (print_stmt whole d x) (print_stmt whole d (hollow_stmt chosen x))
    in_stmt d (tree.Block items) next around inside p = past _ (after _ (in_stmts d items _ _ inside p))
    in_stmt d tree.Empty next around inside p = same _
    in_stmt d (tree.Debugger semi) next around inside p = same _
    in_stmt d (tree.Binding decl bs semi) next around inside p = past _ (after_same _ _ (ap (λ e. semi_piece e semi d) (sym (binds_same pieces.BareBinding pieces.BareBinding bs refl))) (in_binds d bs around p.1))
    in_stmt d (tree.Value e semi) next around inside p = after_same _ _ (ap (λ x. semi_piece x semi d) (sym (ending_same chosen e))) (in_expr (suc d) e around p.2)
    in_stmt d (tree.If test then_stmt else_stmt) next around inside p = past _ (past _ (three _ (in_expr (suc d) test around p.0) (in_stmt (suc d) then_stmt next around inside p.2) (in_else d else_stmt _ around inside p.4)))
    in_stmt d (tree.Do body test semi) next around inside p = past _ (both (in_stmt (suc d) body next around inside p.1) (past _ (past _ (after _ (in_expr (suc d) test around p.2)))))
    in_stmt d (tree.While test body) next around inside p = past _ (past _ (both (in_expr (suc d) test around p.0) (past _ (in_stmt (suc d) body next around inside p.2))))
    in_stmt d (tree.For init test update body) next around inside p =
        past _ (past _ (four _ _ (in_init d init _ p.0) (in_option (suc d) test _ p.1) (in_option (suc d) update _ p.2) (past _ (in_stmt (suc d) body _ _ inside p.4))))
    in_stmt d (tree.ForIn each over body) next around inside p =
        past _ (past _ (three _ (in_each d each _ p.0) (in_expr (suc d) over _ p.1) (past _ (in_stmt (suc d) body _ _ inside p.3))))
    in_stmt d (tree.Continue at label semi) next around inside p = same _
    in_stmt d (tree.Break at label semi) next around inside p = same _
    in_stmt d (tree.Return value semi) next around inside p = past _ (after_same _ _ (ap (λ x. semi_piece x semi d) (sym (return_same value))) (both_glue (in_option (suc d) value around p.1)))
    in_stmt d (tree.Throw e semi) next around inside p = past _ (after_same _ _ (ap (λ x. semi_piece x semi d) (sym (ending_same chosen e))) (both_glue (in_expr (suc d) e around p)))
    in_stmt d (tree.Switch of cs) next around inside p = past _ (past _ (both (in_expr (suc d) of around p.0) (past _ (past _ (after _ (in_clauses d cs _ _ inside p.2))))))
    in_stmt d (tree.Label name body) next around inside p = past _ (past _ (in_stmt (suc d) body next around inside p.1))
    in_stmt d (tree.Try body param handler) next around inside p =
        past _ (past _ (both (in_stmts d body _ _ inside p.0)
        (past _ (past _ (before (print_catch_param param d) (past _ (after _ (in_stmts d handler _ _ inside p.1))))))))
    in_stmt d (tree.Declared f) next around inside p = inside_declared d _ _ f around p.1

  -- ---- functions

  mutual
    in_params : (q d : ℕ) (x : Params) (around : List ℕ) → ProperParams whole x → Hollows chosen (inner_params x around) (print_params whole q d x) (print_params whole q d (hollow_params chosen x))
    in_params q d no_params around p = same _
    in_params q d (more_params name value rest ps) around p = before (ellipsis rest q) (past _ (both (in_initializer q value around p.0) (in_more_params q d ps around p.1)))

    in_more_params : (q d : ℕ) (x : Params) (around : List ℕ) → ProperParams whole x → Hollows chosen (inner_params x around) (print_more_params whole q d x) (print_more_params whole q d (hollow_params chosen x))
    in_more_params q d no_params around p = same _
    in_more_params q d (more_params name value rest ps) around p = past _ (before (ellipsis rest q) (past _ (both (in_initializer q value around p.0) (in_more_params q d ps around p.1))))

  -- ---- a function whose own body stays

  listed_hollow : {is : List Inner} {ps qs : List Piece} (bare : Bool) (start d : ℕ) (comma : Bool) → Hollows chosen is ps qs → Hollows chosen is (parenthesized bare start d ps comma) (parenthesized bare start d qs comma)
  listed_hollow true start d comma h = h
  listed_hollow false start d comma h = past _ (after _ h)

  own_hollow : (d end : ℕ) (form : FuncForm) (initialized : Bool) (x : Body) (next : ℕ) (around : List ℕ) → OwnProper whole form x → Hollows chosen (inner_body initialized x next around) (print_own whole d end x) (print_own whole d end (hollow_own chosen x))
  own_hollow d end form initialized (tree.ShortBody value) next around p = both_until end (in_expr (suc d) value around p.3)
  own_hollow d end form initialized (tree.BracedBody items) next around p = past _ (after _ (in_stmts d items _ _ true p))

  -- The functions directly in a function.
  pub inside_hollow : (d : ℕ) (kind : FuncKind) (name : Option Text) (f : Function) → ProperAlone whole f → Hollows chosen (inner_function kind name f) (print_alone whole d f) (print_alone whole d (hollow_inside chosen f))
  inside_hollow d kind name (function form start end who ps comma bare body) p =
      both (listed_hollow bare start d comma (in_params (param_depth form bare d) d ps (params_around kind name) p.3))
      (before (arrow_pieces form d) (own_hollow d end form (has_initializer ps) body _ (params_around kind name) p.4))
