-- What lists of functions that were gathered stand for.
use Rattle.std.proofs.Common.{◌≡◌, ◌∙◌, ℕ, List, [], ◌∷◌, ◌++◌, Bool, not, ◌&&◌, Option, Some, None, is_none, Result, Ok, Err, IfOk, option_map, refl, ap, sym}
use Rattle.std.specs.List.{flat_map, list_all}
use Rattle.script_grammar.specs.declared.node.NodeArgs.{NodeArgs}
use Rattle.script_grammar.specs.declared.node.NodeOperand.{NodeOperand}
use Rattle.script_grammar.specs.declared.node.NodeTemplatePart.{NodeTemplatePart}
use Rattle.script_grammar.specs.declared.node.NodeTail.{NodeTail}
use Rattle.script_grammar.specs.declared.node.NodeTail.TheVariants as tails
use Rattle.script_grammar.specs.declared.node.NodeKey.{NodeKey}
use Rattle.script_grammar.specs.declared.node.NodeKey.TheVariants as keys
use Rattle.script_grammar.specs.declared.node.NodeFuncBody.{NodeFuncBody}
use Rattle.script_grammar.specs.declared.node.NodeFuncBody.TheVariants as bodies
use Rattle.script_grammar.specs.declared.node.NodeParam.{NodeParam}
use Rattle.script_grammar.specs.declared.node.NodeFunc.{NodeFunc}
use Rattle.script_grammar.specs.declared.node.NodeBind.{NodeBind}
use Rattle.script_grammar.specs.declared.node.NodeInit.{NodeInit}
use Rattle.script_grammar.specs.declared.node.NodeInit.TheVariants as inits
use Rattle.script_grammar.specs.declared.node.NodeEach.{NodeEach}
use Rattle.script_grammar.specs.declared.node.NodeEach.TheVariants as eaches
use Rattle.script_grammar.specs.declared.node.NodeClause.{NodeClause}
use Rattle.script_grammar.specs.Interpretation.{Interpretation, named, maybe_named}
use Rattle.stencil_data.specs.declared.functions.FuncKind.{FuncKind}
use Rattle.script_grammar.specs.Tree as model
use Rattle.script_grammar.specs.TreeLists as part
use Rattle.script_grammar.specs.TreeLists.{exprs_of, maybe_expr_of, items_of, maybe_args_of, operands_of, parts_of, tails_of, props_of, params_of, binds_of, clauses_of, stmts_of, maybe_stmt_of}
use Rattle.script_grammar.specs.Shows.{ShowAll, ShowMaybe, MaybeOf, ShowArgs, ShowOperand, ShowPart, ShowTail, ShowKey, FuncBodyOf, ShowParam, ShowFunc, ShowBind, ShowInit, ShowEach, ShowClause}
use Rattle.parse_handlers.specs.declared.found.FoundFunction.{FoundFunction}
use Rattle.parse_handlers.specs.declared.found.SyntaxNode.{SyntaxNode}
use Rattle.parse_handlers.specs.declared.found.SyntaxBody.{SyntaxBody}
use Rattle.parse_handlers.specs.Inner.{Inner, no_inner, more_inner, kind_of, text_of_name, is_braced, has_no_value, is_simple, in_function, in_expr, in_exprs, in_maybe_expr, in_maybe_args, in_parts, in_items, in_operands, in_tail, in_tails, in_key, in_prop, in_props, in_params, in_body, in_binds, in_init, in_each, in_clauses, in_stmt, in_stmts, in_maybe_stmt}
use Rattle.parse_handlers.specs.FoundOf.{FoundAs, before, found_of, founds_before, HoldsExpr, HoldsStmt, HoldsProp, HoldsBody}
use Rattle.parse_handlers.specs.Held.{held, held_maybe, held_args, held_operand, held_part, held_tail, held_key, held_body, has_braces, is_plain, held_param, held_bind, held_init, held_each, held_clause}

-- Functions that put the functions of a part before these.
abbrev pub Puts : Interpretation → List FoundFunction → (Inner → Inner) → Type 0
Puts i fs put = (r : Inner) → founds_before i fs r ≡ put r

-- one after the other
abbrev pub then_put : (Inner → Inner) → (Inner → Inner) → Inner → Inner
then_put f g r = f (g r)

abbrev pub put_nothing : Inner → Inner
put_nothing r = r

pub puts-append : (i : Interpretation) (xs ys : List FoundFunction) (f g : Inner → Inner) → Puts i xs f → Puts i ys g → Puts i (xs ++ ys) (λ r. f (g r))
puts-append i [] ys f g px py = λ r. py r ∙ px (g r)
puts-append i (x ∷ xs) ys f g px py = λ r. ap (λ rest. before (found_of i x ∷ []) rest) (puts-append i xs ys (founds_before i xs) g (λ q. refl) py r) ∙ px (g r)

-- a list that is equal
pub puts-same : (i : Interpretation) (xs ys : List FoundFunction) (f : Inner → Inner) → xs ≡ ys → Puts i ys f → Puts i xs f
puts-same i xs ys f e p = λ r. ap (λ l. founds_before i l r) e ∙ p r

-- a list of parts
pub puts-all : {N X : Type 0} (i : Interpretation) (R : N → X → Type 0) (hold : N → List FoundFunction) (one : X → Inner → Inner) (all : List X → Inner → Inner)
    → ((r : Inner) → all [] r ≡ r) → ((x : X) (xs : List X) (r : Inner) → all (x ∷ xs) r ≡ one x (all xs r))
    → ((n : N) (x : X) → R n x → Puts i (hold n) (one x)) → (ns : List N) (xs : List X) → ShowAll R ns xs → Puts i (flat_map hold ns) (all xs)
puts-all i R hold one all none more each [] [] h = λ r. sym (none r)
puts-all i R hold one all none more each [] (x ∷ xs) h = absurd h
puts-all i R hold one all none more each (n ∷ ns) [] h = absurd h
puts-all i R hold one all none more each (n ∷ ns) (x ∷ xs) h =
    λ r. puts-append i (hold n) (flat_map hold ns) (one x) (all xs) (each n x h.0) (puts-all i R hold one all none more each ns xs h.1) r ∙ sym (more x xs r)

-- an option of a part
pub puts-maybe : {N X : Type 0} (i : Interpretation) (R : N → X → Type 0) (hold : N → List FoundFunction) (one : X → Inner → Inner) (opt : Option X → Inner → Inner)
    → ((r : Inner) → opt None r ≡ r) → ((x : X) (r : Inner) → opt (Some x) r ≡ one x r)
    → ((n : N) (x : X) → R n x → Puts i (hold n) (one x)) → (n : Option N) (x : Option X) → ShowMaybe R n x → Puts i (held_maybe hold n) (opt x)
puts-maybe i R hold one opt none some each None None h = λ r. sym (none r)
puts-maybe i R hold one opt none some each None (Some x) h = absurd h
puts-maybe i R hold one opt none some each (Some n) None h = absurd h
puts-maybe i R hold one opt none some each (Some n) (Some x) h = λ r. each n x h r ∙ sym (some x r)

pub puts-exprs : (i : Interpretation) (ns : List SyntaxNode) (ts : List model.Expr) → ShowAll (HoldsExpr i) ns ts → Puts i (flat_map held ns) (in_exprs (exprs_of ts))
puts-exprs i = puts-all i (HoldsExpr i) held in_expr (λ ts. in_exprs (exprs_of ts)) (λ r. refl) (λ x xs r. refl) (λ n t h. h)

pub puts-maybe_expr : (i : Interpretation) (n : Option SyntaxNode) (t : Option model.Expr) → ShowMaybe (HoldsExpr i) n t → Puts i (held_maybe held n) (in_maybe_expr (maybe_expr_of t))
puts-maybe_expr i = puts-maybe i (HoldsExpr i) held in_expr (λ t. in_maybe_expr (maybe_expr_of t)) (λ r. refl) (λ x r. refl) (λ n t h. h)

pub puts-maybe_stmt : (i : Interpretation) (n : Option SyntaxNode) (t : Option model.Stmt) → ShowMaybe (HoldsStmt i) n t → Puts i (held_maybe held n) (in_maybe_stmt (maybe_stmt_of t))
puts-maybe_stmt i = puts-maybe i (HoldsStmt i) held in_stmt (λ t. in_maybe_stmt (maybe_stmt_of t)) (λ r. refl) (λ x r. refl) (λ n t h. h)

pub puts-items : (i : Interpretation) (ns : List (Option SyntaxNode)) (ts : List (Option model.Expr)) → ShowAll (ShowMaybe (HoldsExpr i)) ns ts → Puts i (flat_map (held_maybe held) ns) (in_items (items_of ts))
puts-items i = puts-all i (ShowMaybe (HoldsExpr i)) (held_maybe held) (λ t. in_maybe_expr (maybe_expr_of t)) (λ ts. in_items (items_of ts)) (λ r. refl) (λ x xs r. refl) (puts-maybe_expr i)

pub puts-props : (i : Interpretation) (ns : List SyntaxNode) (ts : List model.Prop) → ShowAll (HoldsProp i) ns ts → Puts i (flat_map held ns) (in_props (props_of ts))
puts-props i = puts-all i (HoldsProp i) held in_prop (λ ts. in_props (props_of ts)) (λ r. refl) (λ x xs r. refl) (λ n t h. h)

pub puts-stmts : (i : Interpretation) (ns : List SyntaxNode) (ts : List model.Stmt) → ShowAll (HoldsStmt i) ns ts → Puts i (flat_map held ns) (in_stmts (stmts_of ts))
puts-stmts i = puts-all i (HoldsStmt i) held in_stmt (λ ts. in_stmts (stmts_of ts)) (λ r. refl) (λ x xs r. refl) (λ n t h. h)

puts-args : (i : Interpretation) (n : NodeArgs SyntaxNode) (a : part.Args) → ShowArgs (HoldsExpr i) n a → Puts i (held_args n) (in_exprs (exprs_of a.items))
puts-args i n a h = λ r. puts-exprs i n.items.items h.0 h.1 r ∙ ap (λ x. in_exprs (exprs_of x.items) r) (sym h.2)

pub puts-maybe_args : (i : Interpretation) (n : Option (NodeArgs SyntaxNode)) (a : Option part.Args) → ShowMaybe (ShowArgs (HoldsExpr i)) n a → Puts i (held_maybe held_args n) (in_maybe_args (maybe_args_of a))
puts-maybe_args i = puts-maybe i (ShowArgs (HoldsExpr i)) held_args (λ a. in_exprs (exprs_of a.items)) (λ a. in_maybe_args (maybe_args_of a)) (λ r. refl) (λ x r. refl) (puts-args i)

pub puts-operands : (i : Interpretation) (ns : List (NodeOperand SyntaxNode)) (os : List part.Operand) → ShowAll (ShowOperand (HoldsExpr i)) ns os → Puts i (flat_map held_operand ns) (in_operands (operands_of os))
puts-operands i = puts-all i (ShowOperand (HoldsExpr i)) held_operand (λ o. in_expr o.value) (λ os. in_operands (operands_of os)) (λ r. refl) (λ x xs r. refl) (λ n o h r. h.1 r ∙ ap (λ x. in_expr x.value r) (sym h.2))

pub puts-parts : (i : Interpretation) (ns : List (NodeTemplatePart SyntaxNode)) (ps : List part.Part) → ShowAll (ShowPart i (HoldsExpr i)) ns ps → Puts i (flat_map held_part ns) (in_parts (parts_of ps))
puts-parts i = puts-all i (ShowPart i (HoldsExpr i)) held_part (λ p. in_expr p.value) (λ ps. in_parts (parts_of ps)) (λ r. refl) (λ x xs r. refl) (λ n p h r. h.1 r ∙ ap (λ x. in_expr x.value r) (sym h.2))

puts-tail : (i : Interpretation) (n : NodeTail SyntaxNode) (t : model.Tail) → ShowTail i (HoldsExpr i) n t → Puts i (held_tail n) (in_tail t)
puts-tail i (tails.Dot atom) t h = λ r. ap (λ x. in_tail x r) (sym h)
puts-tail i (tails.Index e) t h = λ r. h.1 r ∙ ap (λ x. in_tail x r) (sym h.2)
puts-tail i (tails.Call n) t h = λ r. puts-exprs i n.items.items h.0 h.1 r ∙ ap (λ x. in_tail x r) (sym h.2)

pub puts-tails : (i : Interpretation) (ns : List (NodeTail SyntaxNode)) (ts : List model.Tail) → ShowAll (ShowTail i (HoldsExpr i)) ns ts → Puts i (flat_map held_tail ns) (in_tails (tails_of ts))
puts-tails i = puts-all i (ShowTail i (HoldsExpr i)) held_tail in_tail (λ ts. in_tails (tails_of ts)) (λ r. refl) (λ x xs r. refl) (puts-tail i)

pub puts-key : (i : Interpretation) (n : NodeKey SyntaxNode) (k : model.Key) → ShowKey i (HoldsExpr i) n k → Puts i (held_key n) (in_key k)
puts-key i (keys.Word name) k h = λ r. ap (λ x. in_key x r) (sym h)
puts-key i (keys.Str name) k h = λ r. ap (λ x. in_key x r) (sym h)
puts-key i (keys.Number at value) k h = λ r. ap (λ x. in_key x r) (sym h)
puts-key i (keys.Computed e) k h = λ r. h.1 r ∙ ap (λ x. in_key x r) (sym h.2)

-- an option of an expression inside a part that F makes of it, whose functions are those of that expression
puts-inside : {X : Type 0} (i : Interpretation) (F : Option model.Expr → X) (value : X → Option model.Expr) (x : X) (n : Option SyntaxNode)
    → ((v : Option model.Expr) → value (F v) ≡ v) → MaybeOf (HoldsExpr i) n (λ v. x ≡ F v) → Puts i (held_maybe held n) (in_maybe_expr (maybe_expr_of (value x)))
puts-inside i F value x None back h = λ r. ap (λ v. in_maybe_expr (maybe_expr_of v) r) (sym (ap value h ∙ back None))
puts-inside i F value x (Some n) back h = λ r. h.1 r ∙ ap (λ v. in_maybe_expr (maybe_expr_of v) r) (sym (ap value h.2 ∙ back (Some h.0)))

puts-param : (i : Interpretation) (n : NodeParam SyntaxNode) (p : part.Param) → ShowParam i (HoldsExpr i) n p → Puts i (held_param n) (in_maybe_expr (maybe_expr_of p.value))
puts-param i n p h =
    let made : Option model.Expr → part.Param = λ v. record { name = named i n.name; value = v; rest = n.rest } in
    puts-inside i made (λ x. x.value) p n.value (λ v. refl) h

pub puts-params : (i : Interpretation) (ns : List (NodeParam SyntaxNode)) (ps : List part.Param) → ShowAll (ShowParam i (HoldsExpr i)) ns ps → Puts i (flat_map held_param ns) (in_params (params_of ps))
puts-params i = puts-all i (ShowParam i (HoldsExpr i)) held_param (λ p. in_maybe_expr (maybe_expr_of p.value)) (λ ps. in_params (params_of ps)) (λ r. refl) (λ x xs r. refl) (puts-param i)

puts-bind : (i : Interpretation) (n : NodeBind SyntaxNode) (b : part.Bind) → ShowBind i (HoldsExpr i) n b → Puts i (held_bind n) (in_maybe_expr (maybe_expr_of b.value))
puts-bind i n b h =
    let made : Option model.Expr → part.Bind = λ v. record { name = named i n.name; value = v } in
    puts-inside i made (λ x. x.value) b n.value (λ v. refl) h

pub puts-binds : (i : Interpretation) (ns : List (NodeBind SyntaxNode)) (bs : List part.Bind) → ShowAll (ShowBind i (HoldsExpr i)) ns bs → Puts i (flat_map held_bind ns) (in_binds (binds_of bs))
puts-binds i = puts-all i (ShowBind i (HoldsExpr i)) held_bind (λ b. in_maybe_expr (maybe_expr_of b.value)) (λ bs. in_binds (binds_of bs)) (λ r. refl) (λ x xs r. refl) (puts-bind i)

pub puts-init : (i : Interpretation) (n : NodeInit SyntaxNode) (t : model.Init) → ShowInit i (HoldsExpr i) n t → Puts i (held_init n) (in_init t)
puts-init i (inits.Nothing) t h = λ r. ap (λ x. in_init x r) (sym h)
puts-init i (inits.Value e) t h = λ r. h.1 r ∙ ap (λ x. in_init x r) (sym h.2)
puts-init i (inits.Binds decl ns) t h = λ r. puts-binds i ns.items h.0 h.1 r ∙ ap (λ x. in_init x r) (sym h.2)

pub puts-each : (i : Interpretation) (n : NodeEach SyntaxNode) (t : model.Each) → ShowEach i (HoldsExpr i) n t → Puts i (held_each n) (in_each t)
puts-each i (eaches.Target e) t h = λ r. h.1 r ∙ ap (λ x. in_each x r) (sym h.2)
puts-each i (eaches.Bind decl name) t h = λ r. ap (λ x. in_each x r) (sym h)

abbrev in_clause : part.Clause → Inner → Inner
in_clause c r = in_maybe_expr (maybe_expr_of c.test) (in_stmts (stmts_of c.items) r)

clause-inside : (i : Interpretation) (c : part.Clause) (ns : List SyntaxNode) (o : Option SyntaxNode)
    → MaybeOf (HoldsExpr i) o (λ t. (ss : List model.Stmt) × ShowAll (HoldsStmt i) ns ss × (c ≡ record { test = t; items = ss })) → Puts i (held_maybe held o ++ flat_map held ns) (in_clause c)
clause-inside i c ns None h = λ r. puts-stmts i ns h.0 h.1 r ∙ ap (λ x. in_clause x r) (sym h.2)
clause-inside i c ns (Some e) h = λ r. puts-append i e.found.items (flat_map held ns) (in_expr h.0) (in_stmts (stmts_of h.2.0)) h.1 (puts-stmts i ns h.2.0 h.2.1) r ∙ ap (λ x. in_clause x r) (sym h.2.2)

puts-clause : (i : Interpretation) (n : NodeClause SyntaxNode SyntaxNode) (c : part.Clause) → ShowClause (HoldsExpr i) (HoldsStmt i) n c → Puts i (held_clause n) (in_clause c)
puts-clause i n c h = clause-inside i c n.items.items n.test h

pub puts-clauses : (i : Interpretation) (ns : List (NodeClause SyntaxNode SyntaxNode)) (cs : List part.Clause) → ShowAll (ShowClause (HoldsExpr i) (HoldsStmt i)) ns cs → Puts i (flat_map held_clause ns) (in_clauses (clauses_of cs))
puts-clauses i = puts-all i (ShowClause (HoldsExpr i) (HoldsStmt i)) held_clause in_clause (λ cs. in_clauses (clauses_of cs)) (λ r. refl) (λ x xs r. refl) (puts-clause i)

pub puts-nothing : (i : Interpretation) (xs : List FoundFunction) → xs ≡ [] → Puts i xs (λ r. r)
puts-nothing i xs e = λ r. ap (λ l. founds_before i l r) e

-- what a call that gathers gives
pub if_puts : {E : Type 0} (i : Interpretation) (result : Result SyntaxNode E) (xs : List FoundFunction) (f : Inner → Inner) → IfOk result (λ n. n.found.items ≡ xs) → Puts i xs f → IfOk result (λ n. Puts i n.found.items f)
if_puts i (Ok n) xs f e p = puts-same i n.found.items xs f e p
if_puts i (Err e) xs f h p = tt

-- a parameter with this name and this rest mark, by what stands for its initializer
plain-inside : (i : Interpretation) (name : model.Named) (rest : Bool) (p : part.Param) (n : Option SyntaxNode)
    → MaybeOf (HoldsExpr i) n (λ v. p ≡ record { name = name; value = v; rest = rest }) → is_none n && not rest ≡ has_no_value (maybe_expr_of p.value) && not p.rest
plain-inside i name rest p None h = ap (λ x. has_no_value (maybe_expr_of x.value) && not x.rest) (sym h)
plain-inside i name rest p (Some n) h = ap (λ x. has_no_value (maybe_expr_of x.value) && not x.rest) (sym h.2)

simple-params : (i : Interpretation) (ns : List (NodeParam SyntaxNode)) (ps : List part.Param) → ShowAll (ShowParam i (HoldsExpr i)) ns ps → list_all is_plain ns ≡ is_simple (params_of ps)
simple-params i [] [] h = refl
simple-params i [] (p ∷ ps) h = absurd h
simple-params i (n ∷ ns) [] h = absurd h
simple-params i (n ∷ ns) (p ∷ ps) h =
    ap (λ b. b && list_all is_plain ns) (plain-inside i (named i n.name) n.rest p n.value h.0)
    ∙ ap (λ b. (has_no_value (maybe_expr_of p.value) && not p.rest) && b) (simple-params i ns ps h.1)

body-inside : (i : Interpretation) (start : ℕ) (F : model.Body → model.Function) (f : model.Function) (n : NodeFuncBody SyntaxNode SyntaxBody)
    → FuncBodyOf i (HoldsExpr i) (HoldsBody i) start n (λ b. f ≡ F b) → (b : model.Body) × ((f ≡ F b) × (has_braces n ≡ is_braced b) × Puts i (held_body n) (in_body b))
body-inside i start F f (bodies.Braced b) h = (model.BracedBody h.0, (h.2, refl, λ r. refl))
body-inside i start F f (bodies.Short e) h = (model.ShortBody h.0, (h.2, refl, h.1))
body-inside i start F f (bodies.Passed) h = (model.BracedBody (i.bodies start), (h, refl, λ r. refl))

-- a function, by its fields
pub puts-function : (i : Interpretation) (declared : Bool) (n : NodeFunc SyntaxNode SyntaxBody) (f : model.Function) (x : FoundAs) (inner : List FoundFunction)
    → ShowFunc i (HoldsExpr i) (HoldsBody i) n f
    → inner ≡ flat_map held_param n.params.items ++ held_body n.body
    → x ≡ record { start = n.start; end = n.end; kind = kind_of declared n.form; name = option_map text_of_name (maybe_named i n.name); braced = has_braces n.body; simple = list_all is_plain n.params.items; inner = founds_before i inner no_inner }
    → (r : Inner) → before (x ∷ []) r ≡ in_function declared f r
puts-function i declared n f x inner h e found r =
    let F : model.Body → model.Function = λ b. model.function n.form n.start n.end (maybe_named i n.name) (params_of h.0) n.comma n.bare b in
    let body = body-inside i n.start F f n.body h.2 in
    let inside = puts-same i inner (flat_map held_param n.params.items ++ held_body n.body) (then_put (in_params (params_of h.0)) (in_body body.0)) e
    (puts-append i (flat_map held_param n.params.items) (held_body n.body) (in_params (params_of h.0)) (in_body body.0) (puts-params i n.params.items h.0 h.1) body.1.2) no_inner in
    ap (λ y. before (y ∷ []) r) found
    ∙ ap (λ b. more_inner n.start n.end (kind_of declared n.form) (option_map text_of_name (maybe_named i n.name)) b (list_all is_plain n.params.items) (founds_before i inner no_inner) r) body.1.1
    ∙ ap (λ b. more_inner n.start n.end (kind_of declared n.form) (option_map text_of_name (maybe_named i n.name)) (is_braced body.0) b (founds_before i inner no_inner) r) (simple-params i n.params.items h.0 h.1)
    ∙ ap (λ q. more_inner n.start n.end (kind_of declared n.form) (option_map text_of_name (maybe_named i n.name)) (is_braced body.0) (is_simple (params_of h.0)) q r) inside
    ∙ ap (λ g. in_function declared g r) (sym body.1.0)

-- a function that was found, by what its kind, its name and its two answers are
pub function-found : (i : Interpretation) (x : FoundAs) (start end : ℕ) (kind kind' : FuncKind) (name name' : Option (List ℕ)) (braced braced' simple simple' : Bool) (inner : Inner)
    → x ≡ record { start = start; end = end; kind = kind; name = name; braced = braced; simple = simple; inner = inner } → kind ≡ kind' → name ≡ name' → braced ≡ braced' → simple ≡ simple'
    → x ≡ record { start = start; end = end; kind = kind'; name = name'; braced = braced'; simple = simple'; inner = inner }
function-found i x start end kind kind' name name' braced braced' simple simple' inner e k n b s =
    let made : FuncKind → Option (List ℕ) → Bool → Bool → FoundAs = λ a m c d. record { start = start; end = end; kind = a; name = m; braced = c; simple = d; inner = inner } in
    e ∙ ap (λ a. made a name braced simple) k ∙ ap (λ m. made kind' m braced simple) n ∙ ap (λ c. made kind' name' c simple) b ∙ ap (made kind' name' braced') s
