-- What statements declare where they are told, and how many scopes of their own they have there.
use Rattle.std.proofs.Common.{◌≡◌, ℕ, ◌+◌, Bool, ◌||◌, true, false, cond, bytes_eq, None, Some, List, [], ◌∷◌, ◌++◌, length, refl, sym, ap, subst, ◌∙◌, zero-add, add-zero, append_assoc, append-nil, arith, true≢false}
use Rattle.std.proofs.lemmas.List.{map-append}
use Rattle.script_grammar.specs.declared.token.Decl.{Decl}
use Rattle.script_grammar.specs.declared.token.Decl.TheVariants as decl
use Rattle.script_grammar.specs.Pieces.{whole}
use Rattle.script_grammar.specs.Proper.{ProperStmt, ProperStmts, ProperElse, ProperClauses, is_statement}
use Rattle.script_grammar.specs.Tree.{Named, Expr, Exprs, no_exprs, more_exprs, MaybeExpr, no_expr, some_expr, MaybeArgs, no_args, some_args, Parts, no_parts, more_parts, Items, no_items, more_items, Operands, no_operands, more_operands, Tail, Tails, no_tails, more_tails, Key, Prop, Props, no_props, more_props, Function, function, Params, no_params, more_params, Body, BracedBody, ShortBody, Binds, no_binds, more_binds, Init, Each, Clauses, no_clauses, more_clauses, Stmt, Stmts, no_stmts, more_stmts, MaybeStmt, no_stmt, some_stmt}
use Rattle.script_grammar.specs.Tree as tree
use Rattle.parse_track.specs.declared.region.Declare.TheVariants as how
use Rattle.parse_track.specs.Told as told
use Rattle.parse_track.specs.Told.{Name, Region, Told, nothing, leaf, inner}
use Rattle.parse_track.specs.RegionNames.{is_lexical, is_param, is_catch_param, is_lambda, is_body, stops_vars, directly, vars}
use Rattle.parse_track.specs.ClosedNames.{names_of, distinct, scope_if_any, has_body, begins}
use Rattle.parse_track.specs.Tells.{Text, spelled, tells_params, tells_binds, tells_init, tells_each, tells_clauses, tells_stmt, tells_stmts, tells_maybe_stmt, labelled_region, labels_on}
use Rattle.scope_analysis.specs.DeclaredNames.{Declaration, declarations, texts_of, bound_names, name_list, function_name, lexical_binds, var_binds, lexical_name, lexical_names, clauses_lexical_names, top_lexical_name, top_var_names_in, top_lexical_names, init_lexical_names, each_lexical_names, init_var_names, each_var_names, var_names_in, var_names, else_var_names, clauses_var_names, all_top_var_names, param_names}
use Rattle.scope_analysis.specs.Scopes.{scope_count, count_stmt, count_stmts, count_else, count_clauses}
use Rattle.scope_closed_laws.proofs.Own.{scopes_in, count_in, own, Clean}
use Rattle.scope_closed_laws.proofs.Quiet.{Quiet, quiet, quiet_maybe, quiet_function}

-- ---- the names of a statement, by whether it stands at the top of a script or of a function's body

abbrev pub stmt_lexical : Bool → Stmt → List Text
stmt_lexical top (tree.Binding d binds semi) = texts_of (lexical_binds d binds)
stmt_lexical true (tree.Declared f) = []
stmt_lexical false (tree.Declared f) = name_list (function_name f)
stmt_lexical top _ = []

abbrev pub stmts_lexical : Bool → Stmts → List Text
stmts_lexical top no_stmts = []
stmts_lexical top (more_stmts s rest) = stmt_lexical top s ++ stmts_lexical top rest

abbrev pub stmt_vars : Bool → Stmt → List Text
stmt_vars top (tree.Declared f) = cond top (name_list (function_name f)) []
stmt_vars top s = var_names_in s

abbrev pub stmts_vars : Bool → Stmts → List Text
stmts_vars top no_stmts = []
stmts_vars top (more_stmts s rest) = stmt_vars top s ++ stmts_vars top rest

pub texts_of-declarations : (kind : _) (ts : List Text) → texts_of (declarations kind ts) ≡ ts
texts_of-declarations kind [] = refl
texts_of-declarations kind (t ∷ ts) = ap (λ (us : List Text). t ∷ us) (texts_of-declarations kind ts)

pub texts_of-append : (ds es : List Declaration) → texts_of (ds ++ es) ≡ texts_of ds ++ texts_of es
texts_of-append ds es = map-append (λ (d : Declaration). d.text) ds es

-- ---- the same names as in a block, and as at the top

in_block : (s : Stmt) → stmt_lexical false s ≡ texts_of (lexical_name s)
in_block (tree.Binding d binds semi) = refl
in_block (tree.Declared f) = sym (texts_of-declarations _ (name_list (function_name f)))
in_block _ = refl

-- a statement that is no declaration has no lexical name
pub no_lexical : (s : Stmt) → is_statement s ≡ true → stmt_lexical false s ≡ []
no_lexical (tree.Binding decl.Var binds semi) h = refl
no_lexical (tree.Binding decl.Let binds semi) h = absurd (true≢false (sym h))
no_lexical (tree.Binding decl.Const binds semi) h = absurd (true≢false (sym h))
no_lexical (tree.Declared f) h = absurd (true≢false (sym h))
no_lexical _ h = refl

pub lexical_in_block : (items : Stmts) → stmts_lexical false items ≡ texts_of (lexical_names items)
lexical_in_block no_stmts = refl
lexical_in_block (more_stmts s rest) =
    ap (λ (us : List Text). us ++ stmts_lexical false rest) (in_block s)
    ∙ (ap (λ (us : List Text). texts_of (lexical_name s) ++ us) (lexical_in_block rest) ∙ sym (texts_of-append (lexical_name s) (lexical_names rest)))

at_top : (s : Stmt) → stmt_lexical true s ≡ texts_of (top_lexical_name s)
at_top (tree.Binding d binds semi) = refl
at_top (tree.Declared f) = refl
at_top _ = refl

pub lexical_at_top : (items : Stmts) → stmts_lexical true items ≡ texts_of (top_lexical_names items)
lexical_at_top no_stmts = refl
lexical_at_top (more_stmts s rest) =
    ap (λ (us : List Text). us ++ stmts_lexical true rest) (at_top s)
    ∙ (ap (λ (us : List Text). texts_of (top_lexical_name s) ++ us) (lexical_at_top rest) ∙ sym (texts_of-append (top_lexical_name s) (top_lexical_names rest)))

var_in_block : (s : Stmt) → stmt_vars false s ≡ var_names_in s
var_in_block (tree.Declared f) = refl
var_in_block _ = refl

pub vars_in_block : (items : Stmts) → stmts_vars false items ≡ var_names items
vars_in_block no_stmts = refl
vars_in_block (more_stmts s rest) = ap (λ (us : List Text). us ++ stmts_vars false rest) (var_in_block s) ∙ ap (λ (us : List Text). var_names_in s ++ us) (vars_in_block rest)

var_at_top : (s : Stmt) → stmt_vars true s ≡ top_var_names_in s
var_at_top (tree.Declared f) = refl
var_at_top _ = refl

pub vars_at_top : (items : Stmts) → stmts_vars true items ≡ all_top_var_names items
vars_at_top no_stmts = refl
vars_at_top (more_stmts s rest) = ap (λ (us : List Text). us ++ stmts_vars true rest) (var_at_top s) ∙ ap (λ (us : List Text). top_var_names_in s ++ us) (vars_at_top rest)

-- ---- what is declared in front of something

pub record Declares (lexical hoisting : List Text) (count : ℕ) (t u : Told Text) : Type 0 where
  pub direct : names_of (directly is_lexical u) ≡ lexical ++ names_of (directly is_lexical t)
  pub hoisted : names_of (vars u) ≡ hoisting ++ names_of (vars t)
  pub params : directly is_param u ≡ directly is_param t
  pub catches : directly is_catch_param u ≡ directly is_catch_param t
  pub body : has_body u ≡ has_body t
  pub counted : count_in false u ≡ count + count_in false t
  pub clean : Clean u → Clean t

names_of-append : (xs ys : List (Name Text)) → names_of (xs ++ ys) ≡ names_of xs ++ names_of ys
names_of-append xs ys = map-append (λ (x : Name Text). x.name) xs ys

pub declares_none : (t : Told Text) → Declares [] [] 0 t t
declares_none t = record { direct = refl; hoisted = refl; params = refl; catches = refl; body = refl; counted = sym (zero-add _); clean = λ c. c }

chained : (k l m n : List Text) (a b : List Text) → k ≡ a ++ l → l ≡ b ++ m → k ≡ (a ++ b) ++ m
chained k l m n a b e f = e ∙ (ap (λ (us : List Text). a ++ us) f ∙ sym (append_assoc a b m))

pub declares_both : (l1 v1 l2 v2 : List Text) (c1 c2 : ℕ) (s t u : Told Text) → Declares l1 v1 c1 t u → Declares l2 v2 c2 s t → Declares (l1 ++ l2) (v1 ++ v2) (c1 + c2) s u
declares_both l1 v1 l2 v2 c1 c2 s t u p q = record {
  direct = chained _ _ _ [] l1 l2 p.direct q.direct;
  hoisted = chained _ _ _ [] v1 v2 p.hoisted q.hoisted;
  params = p.params ∙ q.params;
  catches = p.catches ∙ q.catches;
  body = p.body ∙ q.body;
  counted = p.counted ∙ (ap (λ (n : ℕ). c1 + n) q.counted ∙ omega arith);
  clean = λ c. q.clean (p.clean c);
}

pub quiet_front : (l v : List Text) (c : ℕ) (s t u : Told Text) → Quiet t u → Declares l v c s t → Declares l v c s u
quiet_front l v c s t u p q = record {
  direct = ap names_of (p.direct is_lexical) ∙ q.direct;
  hoisted = ap names_of p.hoisted ∙ q.hoisted;
  params = p.direct is_param ∙ q.params;
  catches = p.direct is_catch_param ∙ q.catches;
  body = p.body ∙ q.body;
  counted = p.count ∙ q.counted;
  clean = λ c. q.clean (p.clean c);
}

pub quiet_alone : (t u : Told Text) → Quiet t u → Declares [] [] 0 t u
quiet_alone t u p = quiet_front [] [] 0 t t u p (declares_none t)

pub declares_as : (l v l' v' : List Text) (c c' : ℕ) (t u : Told Text) → l ≡ l' → v ≡ v' → c ≡ c' → Declares l v c t u → Declares l' v' c' t u
declares_as l v l' v' c c' t u e f g p =
    subst (λ (m : List Text). Declares m v' c' t u) e (subst (λ (w : List Text). Declares l w c' t u) f (subst (λ (n : ℕ). Declares l v n t u) g p))

-- ---- names

declares_lexical : (name : Named) (l v : List Text) (c : ℕ) (s t : Told Text) → Declares l v c s t → Declares (name.text ∷ l) v c s (leaf (told.Declared how.Lexical (spelled name)) t)
declares_lexical name l v c s t p = record {
  direct = ap (λ (us : List Text). name.text ∷ us) p.direct;
  hoisted = p.hoisted;
  params = p.params;
  catches = p.catches;
  body = p.body;
  counted = p.counted;
  clean = p.clean;
}

declares_var : (name : Named) (l v : List Text) (c : ℕ) (s t : Told Text) → Declares l v c s t → Declares l (name.text ∷ v) c s (leaf (told.Declared how.Var (spelled name)) t)
declares_var name l v c s t p = record {
  direct = p.direct;
  hoisted = ap (λ (us : List Text). name.text ∷ us) p.hoisted;
  params = p.params;
  catches = p.catches;
  body = p.body;
  counted = p.counted;
  clean = p.clean;
}

declares_jump : (j : _) (at : ℕ) (label : _) (t : Told Text) → Declares [] [] 0 t (leaf (told.Jumped j at label) t)
declares_jump j at label t = record { direct = refl; hoisted = refl; params = refl; catches = refl; body = refl; counted = sym (zero-add _); clean = λ c. c }

-- ---- regions that are no functions

pub record IsPlain (k : Region Text) : Type 0 where
  pub begins : begins false k ≡ false
  pub stops : stops_vars k ≡ false
  pub lambda : is_lambda k ≡ false
  pub body : is_body k ≡ false

pub plain_block : IsPlain told.Block
plain_block = record { begins = refl; stops = refl; lambda = refl; body = refl }

pub plain_switch : IsPlain told.Switch
plain_switch = record { begins = refl; stops = refl; lambda = refl; body = refl }

pub plain_head : IsPlain told.ForHead
plain_head = record { begins = refl; stops = refl; lambda = refl; body = refl }

pub plain_catch : IsPlain told.Catch
plain_catch = record { begins = refl; stops = refl; lambda = refl; body = refl }

pub plain_loop : IsPlain told.Loop
plain_loop = record { begins = refl; stops = refl; lambda = refl; body = refl }

pub plain_label : (name : Name Text) → IsPlain (told.Label name)
plain_label name = record { begins = refl; stops = refl; lambda = refl; body = refl }

declares_region : (k : Region Text) (at : ℕ) (i t : Told Text) (v : List Text) (c : ℕ) → IsPlain k → names_of (vars i) ≡ v → length (scopes_in k i) + count_in false i ≡ c → Declares [] v c t (inner k at i t)
declares_region k at i t v c p e f = record {
  direct = refl;
  hoisted = names_of-append (cond (stops_vars k) [] (vars i)) (vars t) ∙ ap (λ (us : List Text). us ++ names_of (vars t)) (ap (λ (b : Bool). names_of (cond b [] (vars i))) p.stops ∙ e);
  params = refl;
  catches = refl;
  body = ap (λ (b : Bool). b || has_body t) p.body;
  counted = ap (λ (n : ℕ). n + count_in false t)
      (ap (λ (b : Bool). cond b 0 (length (scopes_in k i) + count_in (is_lambda k) i)) p.begins
      ∙ (ap (λ (b : Bool). length (scopes_in k i) + count_in b i) p.lambda ∙ f));
  clean = λ c. c.2;
}

-- how many scopes a region has that binds its lexical names
any_long : (us : List Text) → (x : Text) → length (scope_if_any (distinct bytes_eq (x ∷ us))) ≡ 1
any_long us x = refl

pub block_long : (i : Told Text) (ds : List Declaration) → names_of (directly is_lexical i) ≡ texts_of ds → length (scope_if_any (distinct bytes_eq (names_of (directly is_lexical i)))) ≡ scope_count ds
block_long i [] e = ap (λ (us : List Text). length (scope_if_any (distinct bytes_eq us))) e
block_long i (d ∷ ds) e = ap (λ (us : List Text). length (scope_if_any (distinct bytes_eq us))) e ∙ any_long (texts_of ds) d.text

-- the names in a region with nothing after them
pub inside_lexical : (l v m : List Text) (c : ℕ) (i : Told Text) → Declares l v c nothing i → l ≡ m → names_of (directly is_lexical i) ≡ m
inside_lexical l v m c i p e = p.direct ∙ (append-nil l ∙ e)

pub inside_vars : (l v m : List Text) (c : ℕ) (i : Told Text) → Declares l v c nothing i → v ≡ m → names_of (vars i) ≡ m
inside_vars l v m c i p e = p.hoisted ∙ (append-nil v ∙ e)

pub inside_count : (l v : List Text) (c : ℕ) (i : Told Text) → Declares l v c nothing i → count_in false i ≡ c
inside_count l v c i p = p.counted ∙ add-zero c

sum_as : (a b c d : ℕ) → a ≡ b → c ≡ d → a + c ≡ b + d
sum_as a b c d e f = ap (λ (n : ℕ). n + c) e ∙ ap (λ (n : ℕ). b + n) f

declares_block : (l v : List Text) (c : ℕ) (at : ℕ) (ds : List Declaration) (i t : Told Text) → l ≡ texts_of ds → Declares l v c nothing i → Declares [] v (scope_count ds + c) t (inner told.Block at i t)
declares_block l v c at ds i t e p =
    declares_region told.Block at i t v (scope_count ds + c) plain_block (inside_vars l v v c i p refl)
    (sum_as _ _ _ _ (block_long i ds (inside_lexical l v (texts_of ds) c i p e)) (inside_count l v c i p))

declares_bare : (k : Region Text) (at : ℕ) (v : List Text) (c : ℕ) (i t : Told Text) → IsPlain k → scopes_in k i ≡ [] → names_of (vars i) ≡ v → count_in false i ≡ c → Declares [] v c t (inner k at i t)
declares_bare k at v c i t p none e f = declares_region k at i t v c p e (sum_as _ _ _ _ (ap length none) f ∙ zero-add c)

labelled : (b : Bool) (v : List Text) (c : ℕ) (i : Told Text) → Declares [] v c nothing i → Declares [] v c nothing (labelled_region b i)
labelled true v c i p = p
labelled false v c i p =
    declares_bare told.Block 0 v c i nothing plain_block (ap (λ (us : List Text). scope_if_any (distinct bytes_eq us)) (inside_lexical [] v [] c i p refl)) (inside_vars [] v v c i p refl) (inside_count [] v c i p)

-- ---- parameters

pub record Takes (names : List Text) (t u : Told Text) : Type 0 where
  pub direct : directly is_lexical u ≡ directly is_lexical t
  pub hoisted : vars u ≡ vars t
  pub params : names_of (directly is_param u) ≡ names ++ names_of (directly is_param t)
  pub body : has_body u ≡ has_body t
  pub alone : (scope : ℕ) → own false scope u ≡ own false scope t
  pub clean : Clean u → Clean t

takes_more : (name : Named) (names : List Text) (s t u : Told Text) → Quiet t u → Takes names s t → Takes (name.text ∷ names) s (leaf (told.Declared how.Param (spelled name)) u)
takes_more name names s t u p q = record {
  direct = p.direct is_lexical ∙ q.direct;
  hoisted = p.hoisted ∙ q.hoisted;
  params = ap (λ (us : List Text). name.text ∷ us) (ap names_of (p.direct is_param) ∙ q.params);
  body = p.body ∙ q.body;
  alone = λ scope. p.alone scope ∙ q.alone scope;
  clean = λ c. q.clean (p.clean c);
}

pub takes_params : (params : Params) (t : Told Text) → Takes (param_names params) t (tells_params params t)
takes_params no_params t = record { direct = refl; hoisted = refl; params = refl; body = refl; alone = λ scope. refl; clean = λ c. c }
takes_params (more_params name value rest more) t = takes_more name (param_names more) t _ _ (quiet_maybe value (tells_params more t)) (takes_params more t)

-- ---- binding lists and heads

abbrev bind_lexical : Decl → Binds → List Text
bind_lexical decl.Var binds = []
bind_lexical decl.Let binds = bound_names binds
bind_lexical decl.Const binds = bound_names binds

bind_texts : (d : Decl) (binds : Binds) → bind_lexical d binds ≡ texts_of (lexical_binds d binds)
bind_texts decl.Var binds = refl
bind_texts decl.Let binds = sym (texts_of-declarations _ (bound_names binds))
bind_texts decl.Const binds = sym (texts_of-declarations _ (bound_names binds))

declares_bound : (d : Decl) (binds : Binds) (t : Told Text) → Declares (bind_lexical d binds) (var_binds d binds) 0 t (tells_binds d binds t)
declares_bound decl.Var no_binds t = declares_none t
declares_bound decl.Let no_binds t = declares_none t
declares_bound decl.Const no_binds t = declares_none t
declares_bound decl.Var (more_binds name value rest) t = declares_var name _ _ _ _ _ (quiet_front _ _ _ _ _ _ (quiet_maybe value _) (declares_bound decl.Var rest t))
declares_bound decl.Let (more_binds name value rest) t = declares_lexical name _ _ _ _ _ (quiet_front _ _ _ _ _ _ (quiet_maybe value _) (declares_bound decl.Let rest t))
declares_bound decl.Const (more_binds name value rest) t = declares_lexical name _ _ _ _ _ (quiet_front _ _ _ _ _ _ (quiet_maybe value _) (declares_bound decl.Const rest t))

pub declares_binds : (d : Decl) (binds : Binds) (t : Told Text) → Declares (texts_of (lexical_binds d binds)) (var_binds d binds) 0 t (tells_binds d binds t)
declares_binds d binds t = declares_as _ _ _ _ _ _ _ _ (bind_texts d binds) refl refl (declares_bound d binds t)

pub declares_init : (init : Init) (t : Told Text) → Declares (texts_of (init_lexical_names init)) (init_var_names init) 0 t (tells_init init t)
declares_init tree.NoInit t = declares_none t
declares_init (tree.ValueInit e) t = quiet_alone _ _ (quiet e t)
declares_init (tree.BindsInit d binds) t = declares_binds d binds t

pub declares_each : (each : Each) (t : Told Text) → Declares (texts_of (each_lexical_names each)) (each_var_names each) 0 t (tells_each each t)
declares_each (tree.TargetEach e) t = quiet_alone _ _ (quiet e t)
declares_each (tree.BindEach decl.Var name) t = declares_var name _ _ _ _ _ (declares_none t)
declares_each (tree.BindEach decl.Let name) t = declares_lexical name _ _ _ _ _ (declares_none t)
declares_each (tree.BindEach decl.Const name) t = declares_lexical name _ _ _ _ _ (declares_none t)

declares_declared : (top : Bool) (f : Function) (t : Told Text) → Declares (stmt_lexical top (tree.Declared f)) (stmt_vars top (tree.Declared f)) 0 t (tells_stmt top (tree.Declared f) t)
declares_declared true (function form start end None params comma bare body) t = quiet_alone _ _ (quiet_function (function form start end None params comma bare body) t)
declares_declared true (function form start end (Some name) params comma bare body) t = declares_var name _ _ _ _ _ (quiet_alone _ _ (quiet_function (function form start end (Some name) params comma bare body) t))
declares_declared false (function form start end None params comma bare body) t = quiet_alone _ _ (quiet_function (function form start end None params comma bare body) t)
declares_declared false (function form start end (Some name) params comma bare body) t = declares_lexical name _ _ _ _ _ (quiet_alone _ _ (quiet_function (function form start end (Some name) params comma bare body) t))

-- a head of a loop, and the loop
declares_loop : (v : List Text) (c : ℕ) (i t : Told Text) → names_of (vars i) ≡ v → count_in false i ≡ c → Declares [] v c t (inner told.Loop 0 i t)
declares_loop v c i t e f = declares_bare told.Loop 0 v c i t plain_loop refl e f

declares_head : (l v : List Text) (c : ℕ) (ds : List Declaration) (i t : Told Text) → l ≡ texts_of ds → Declares l v c nothing i → Declares [] v (scope_count ds + c) t (inner told.ForHead 0 i t)
declares_head l v c ds i t e p =
    declares_region told.ForHead 0 i t v (scope_count ds + c) plain_head (inside_vars l v v c i p refl)
    (sum_as _ _ _ _ (block_long i ds (inside_lexical l v (texts_of ds) c i p e)) (inside_count l v c i p))

declares_switch : (l v : List Text) (c : ℕ) (ds : List Declaration) (i t : Told Text) → l ≡ texts_of ds → Declares l v c nothing i → Declares [] v (scope_count ds + c) t (inner told.Switch 0 i t)
declares_switch l v c ds i t e p =
    declares_region told.Switch 0 i t v (scope_count ds + c) plain_switch (inside_vars l v v c i p refl)
    (sum_as _ _ _ _ (block_long i ds (inside_lexical l v (texts_of ds) c i p e)) (inside_count l v c i p))

-- a block, and a catch clause with a parameter
block_of : (items : Stmts) → Declares (stmts_lexical false items) (stmts_vars false items) (count_stmts items) nothing (tells_stmts false items nothing) → (t : Told Text)
    → Declares [] (var_names items) (scope_count (lexical_names items) + count_stmts items) t (inner told.Block 0 (tells_stmts false items nothing) t)
block_of items p t = declares_as _ _ _ _ _ _ _ _ refl (vars_in_block items) refl (declares_block _ _ _ 0 (lexical_names items) _ t (lexical_in_block items) p)

catch_of : (name : Named) (items : Stmts) → Declares (stmts_lexical false items) (stmts_vars false items) (count_stmts items) nothing (tells_stmts false items nothing) → (t : Told Text)
    → Declares [] (var_names items) (1 + (scope_count (lexical_names items) + count_stmts items)) t
    (inner told.Catch 0 (leaf (told.Declared how.Catch (spelled name)) (inner told.Block 0 (tells_stmts false items nothing) nothing)) t)
catch_of name items p t =
    let block = block_of items p nothing in
    declares_region told.Catch 0 _ t _ _ plain_catch (inside_vars _ _ _ _ _ block refl) (ap (λ (n : ℕ). 1 + n) (inside_count _ _ _ _ block))

abbrev pub clauses_lexical : Clauses → List Text
clauses_lexical no_clauses = []
clauses_lexical (more_clauses test items rest) = stmts_lexical false items ++ clauses_lexical rest

pub clauses_texts : (cs : Clauses) → clauses_lexical cs ≡ texts_of (clauses_lexical_names cs)
clauses_texts no_clauses = refl
clauses_texts (more_clauses test items rest) =
    ap (λ (us : List Text). us ++ clauses_lexical rest) (lexical_in_block items)
    ∙ (ap (λ (us : List Text). texts_of (lexical_names items) ++ us) (clauses_texts rest) ∙ sym (texts_of-append (lexical_names items) (clauses_lexical_names rest)))

-- ---- statements

pub plain_as : (s : Stmt) (c : ℕ) (t u : Told Text) → is_statement s ≡ true → Declares (stmt_lexical false s) (stmt_vars false s) c t u → Declares [] (var_names_in s) c t u
plain_as s c t u h d = declares_as _ _ _ _ _ _ _ _ (no_lexical s h) (var_in_block s) refl d

-- the parts of a loop with a head, and the loop
in_head : (v : List Text) (c : ℕ) (ds : List Declaration) (w : List Text) (i t u : Told Text) → Declares (texts_of ds) v 0 u i → Declares [] w c nothing u → Declares [] (v ++ w) (scope_count ds + c) t (inner told.Loop 0 (inner told.ForHead 0 i nothing) t)
in_head v c ds w i t u p q =
    let both = declares_as _ _ _ _ _ _ _ _ (append-nil (texts_of ds)) refl (zero-add c) (declares_both _ _ _ _ _ _ _ _ _ p q) in
    let head = declares_head _ _ _ ds i nothing refl both in
    declares_loop _ _ _ t (inside_vars _ _ _ _ _ head refl) (inside_count _ _ _ _ head)

mutual
  pub declares_stmt : (top : Bool) (s : Stmt) (inside : Bool) (t : Told Text) → ProperStmt whole inside s → Declares (stmt_lexical top s) (stmt_vars top s) (count_stmt s) t (tells_stmt top s t)
  declares_stmt top (tree.Block items) inside t p = block_of items (declares_stmts false items inside nothing p) t
  declares_stmt top tree.Empty inside t p = declares_none t
  declares_stmt top (tree.Debugger semi) inside t p = declares_none t
  declares_stmt top (tree.Binding d binds semi) inside t p = declares_binds d binds t
  declares_stmt top (tree.Value e semi) inside t p = quiet_alone _ _ (quiet e t)
  declares_stmt top (tree.If test then_stmt else_stmt) inside t p =
      quiet_front _ _ _ _ _ _ (quiet test _) (declares_both _ _ _ _ _ _ _ _ _ (plain_as then_stmt _ _ _ p.1 (declares_stmt false then_stmt inside _ p.2)) (declares_else else_stmt inside t p.4))
  declares_stmt top (tree.Do body test semi) inside t p =
      let q = declares_as _ _ _ _ _ _ _ _ refl (append-nil (var_names_in body)) (add-zero (count_stmt body)) (declares_both _ _ _ _ _ _ _ _ _ (plain_as body _ _ _ p.0 (declares_stmt false body inside _ p.1)) (quiet_alone _ _ (quiet test nothing))) in
      declares_loop _ _ _ t (inside_vars _ _ _ _ _ q refl) (inside_count _ _ _ _ q)
  declares_stmt top (tree.While test body) inside t p =
      let q = quiet_front _ _ _ _ _ _ (quiet test _) (plain_as body _ _ _ p.1 (declares_stmt false body inside nothing p.2)) in
      declares_loop _ _ _ t (inside_vars _ _ _ _ _ q refl) (inside_count _ _ _ _ q)
  declares_stmt top (tree.For init test update body) inside t p =
      in_head _ _ (init_lexical_names init) _ _ t _ (declares_init init _)
      (quiet_front _ _ _ _ _ _ (quiet_maybe test _) (quiet_front _ _ _ _ _ _ (quiet_maybe update _) (plain_as body _ _ _ p.3 (declares_stmt false body inside nothing p.4))))
  declares_stmt top (tree.ForIn each over body) inside t p =
      in_head _ _ (each_lexical_names each) _ _ t _ (declares_each each _) (quiet_front _ _ _ _ _ _ (quiet over _) (plain_as body _ _ _ p.2 (declares_stmt false body inside nothing p.3)))
  declares_stmt top (tree.Continue at label semi) inside t p = declares_jump _ _ _ t
  declares_stmt top (tree.Break at label semi) inside t p = declares_jump _ _ _ t
  declares_stmt top (tree.Return value semi) inside t p = quiet_alone _ _ (quiet_maybe value t)
  declares_stmt top (tree.Throw e semi) inside t p = quiet_alone _ _ (quiet e t)
  declares_stmt top (tree.Switch e clauses) inside t p =
      quiet_front _ _ _ _ _ _ (quiet e _) (declares_switch _ _ _ (clauses_lexical_names clauses) _ t (clauses_texts clauses) (declares_clauses clauses inside nothing p.2))
  declares_stmt top (tree.Label name body) inside t p =
      let q = labelled (labels_on body) _ _ _ (plain_as body _ _ _ p.0 (declares_stmt false body inside nothing p.1)) in
      declares_bare (told.Label (spelled name)) 0 _ _ _ t (plain_label (spelled name)) refl (inside_vars _ _ _ _ _ q refl) (inside_count _ _ _ _ q)
  declares_stmt top (tree.Try body None handler) inside t p =
      declares_as _ _ _ _ _ _ _ _ refl refl (ap (λ (n : ℕ). scope_count (lexical_names body) + count_stmts body + n) (sym (zero-add _)))
      (declares_both _ _ _ _ _ _ _ _ _ (block_of body (declares_stmts false body inside nothing p.0) _) (block_of handler (declares_stmts false handler inside nothing p.1) t))
  declares_stmt top (tree.Try body (Some name) handler) inside t p =
      declares_both _ _ _ _ _ _ _ _ _ (block_of body (declares_stmts false body inside nothing p.0) _) (catch_of name handler (declares_stmts false handler inside nothing p.1) t)
  declares_stmt top (tree.Declared f) inside t p = declares_declared top f t

  pub declares_stmts : (top : Bool) (items : Stmts) (inside : Bool) (t : Told Text) → ProperStmts whole inside items → Declares (stmts_lexical top items) (stmts_vars top items) (count_stmts items) t (tells_stmts top items t)
  declares_stmts top no_stmts inside t p = declares_none t
  declares_stmts top (more_stmts s rest) inside t p = declares_both _ _ _ _ _ _ _ _ _ (declares_stmt top s inside _ p.0) (declares_stmts top rest inside t p.1)

  declares_else : (s : MaybeStmt) (inside : Bool) (t : Told Text) → ProperElse whole inside s → Declares [] (else_var_names s) (count_else s) t (tells_maybe_stmt s t)
  declares_else no_stmt inside t p = declares_none t
  declares_else (some_stmt s) inside t p = plain_as s _ _ _ p.0 (declares_stmt false s inside t p.1)

  pub declares_clauses : (cs : Clauses) (inside : Bool) (t : Told Text) → ProperClauses whole inside cs → Declares (clauses_lexical cs) (clauses_var_names cs) (count_clauses cs) t (tells_clauses cs t)
  declares_clauses no_clauses inside t p = declares_none t
  declares_clauses (more_clauses test items rest) inside t p =
      quiet_front _ _ _ _ _ _ (quiet_maybe test _) (declares_both _ _ _ _ _ _ _ _ _ (declares_as _ _ _ _ _ _ _ _ refl (vars_in_block items) refl (declares_stmts false items inside _ p.1)) (declares_clauses rest inside t p.2))
