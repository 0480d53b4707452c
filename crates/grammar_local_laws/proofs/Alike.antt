-- What two parsers read that differ in how they read braced bodies: the second reads the first's tree with other bodies. What
-- a parser looks at of a tree is the same in both: of an expression how loosely it binds and how it ends, and of a statement
-- whether it would take an `else`.
use Rattle.std.proofs.Common.{◌≡◌, ℕ, List, [], ◌∷◌, ◌++◌, refl, sym, ap, ◌∙◌, ◌&&◌, Option, Some, None, is_none, if◌then◌else◌}
use Rattle.script_grammar.specs.declared.token.FuncForm.{FuncForm}
use Rattle.script_grammar.specs.Kinds.{is_arrow_form, op_level}
use Rattle.script_grammar.specs.Tree.{Named, Expr, Exprs, more_exprs, more_operands, more_tails, more_items, more_parts, more_props, more_params, more_binds, more_stmts, more_clauses, some_expr, some_args, some_stmt, MaybeExpr, Tail, Key, Prop, Function, function, Body, Stmt}
use Rattle.script_grammar.specs.Tree as tree
use Rattle.script_grammar.specs.TreeLists.{Args, Operand, Part, Param, Bind, Clause, exprs_of, maybe_args_of, operands_of, tails_of, items_of, parts_of, props_of, params_of, binds_of, stmts_of, clauses_of, maybe_expr_of, maybe_stmt_of}
use Rattle.script_grammar.specs.Pieces.{Ending}
use Rattle.script_grammar.specs.Pieces as pieces
use Rattle.script_grammar.specs.Endings.{ending, last_ending, operands_ending, function_ending, body_ending, bind_ending, binds_ending, return_ending}
use Rattle.script_grammar.specs.Proper.{rank, function_rank, new_rank, level_rank, is_member_tail, are_member_tails, takes_else, else_takes}
use Rattle.grammar_parser_specs.specs.Exprs.{BodyRead, Head, ParamsEnd, Plain, Trailing, Rest, function_case, head_case, comma_case, list_case, chain_case, binary_case, with_last, rest_param, some_last, has_items, array_case}
use Rattle.grammar_local_laws.proofs.Agrees.{ListK}
use Rattle.grammar_parser_specs.specs.Filling.{fill, fill_exprs, fill_maybe, fill_args, fill_parts, fill_items, fill_operands, fill_tails, fill_tail, fill_key, fill_prop, fill_props, fill_function, fill_params, fill_body, fill_binds, fill_stmt, fill_stmts, fill_else, fill_clauses}

abbrev pub AnyK : {A B : Type 0} → A → B → Type 0
AnyK a b = Unit {0}

abbrev pub SameK : {A : Type 0} → A → A → Type 0
SameK a b = b ≡ a

abbrev pub OptionK : {A B : Type 0} → (A → B → Type 0) → Option A → Option B → Type 0
OptionK K None None = Unit {0}
OptionK K None (Some b) = ⊥
OptionK K (Some a) None = ⊥
OptionK K (Some a) (Some b) = K a b

-- how parameters end
abbrev pub EndK : ParamsEnd → ParamsEnd → Type 0
EndK Plain Plain = Unit {0}
EndK Trailing Trailing = Unit {0}
EndK (Rest n) (Rest m) = m ≡ n
EndK _ _ = ⊥

-- lists

pub list_append : {A B : Type 0} (K : A → B → Type 0) (as1 as2 : List A) (bs1 bs2 : List B) → ListK K as1 bs1 → ListK K as2 bs2 → ListK K (as1 ++ as2) (bs1 ++ bs2)
list_append K [] as2 [] bs2 h k = k
list_append K [] as2 (b ∷ bs1) bs2 h k = absurd h
list_append K (a ∷ as1) as2 [] bs2 h k = absurd h
list_append K (a ∷ as1) as2 (b ∷ bs1) bs2 h k = (h.0, list_append K as1 as2 bs1 bs2 h.1 k)

pub list_last : {A B : Type 0} (K : A → B → Type 0) (xs : List A) (ys : List B) (o : Option A) (p : Option B) → ListK K xs ys → OptionK K o p → ListK K (with_last xs o) (with_last ys p)
list_last K xs ys None None h k = h
list_last K xs ys None (Some b) h k = absurd k
list_last K xs ys (Some a) None h k = absurd k
list_last K xs ys (Some a) (Some b) h k = list_append K xs (a ∷ []) ys (b ∷ []) h (k, tt)

list_items : {A B : Type 0} (K : A → B → Type 0) (xs : List A) (ys : List B) → ListK K xs ys → has_items ys ≡ has_items xs
list_items K [] [] h = refl
list_items K [] (y ∷ ys) h = absurd h
list_items K (x ∷ xs) [] h = absurd h
list_items K (x ∷ xs) (y ∷ ys) h = refl

option_none : {A B : Type 0} (K : A → B → Type 0) (o : Option A) (p : Option B) → OptionK K o p → is_none p ≡ is_none o
option_none K None None k = refl
option_none K None (Some b) k = absurd k
option_none K (Some a) None k = absurd k
option_none K (Some a) (Some b) k = refl

module _ (bodies : ℕ → Body) where
  pub record ExprK (a b : Expr) : Type 0 where
    pub ranks : rank a ≡ rank b
    pub endings : ending a ≡ ending b
    pub same : b ≡ fill bodies a

  pub record FunctionK (a b : Function) : Type 0 where
    pub ranks : function_rank a ≡ function_rank b
    pub endings : function_ending a ≡ function_ending b
    pub same : b ≡ fill_function bodies a

  pub record BodyK (start : ℕ) (a b : BodyRead) : Type 0 where
    pub endings : body_ending a.body ≡ body_ending b.body
    pub ends : b.end ≡ a.end
    pub same : b.body ≡ fill_body bodies start a.body

  pub record TailK (a b : Tail) : Type 0 where
    pub members : is_member_tail a ≡ is_member_tail b
    pub same : b ≡ fill_tail bodies a

  pub record ArgsK (a b : Args) : Type 0 where
    pub items : ListK ExprK a.items b.items
    pub commas : b.comma ≡ a.comma

  pub record OperandK (a b : Operand) : Type 0 where
    pub ops : b.op ≡ a.op
    pub words : b.is_word ≡ a.is_word
    pub values : ExprK a.value b.value

  pub record PartK (a b : Part) : Type 0 where
    pub values : ExprK a.value b.value
    pub texts : b.behind ≡ a.behind

  pub record ParamK (a b : Param) : Type 0 where
    pub names : b.name ≡ a.name
    pub values : OptionK ExprK a.value b.value
    pub rests : b.rest ≡ a.rest

  pub record HeadK (a b : Head) : Type 0 where
    pub starts : b.start ≡ a.start
    pub params : ListK ParamK a.params b.params
    pub commas : b.comma ≡ a.comma
    pub bares : b.bare ≡ a.bare

  pub record KeyK (a b : Key) : Type 0 where
    pub same : b ≡ fill_key bodies a

  pub record PropK (a b : Prop) : Type 0 where
    pub same : b ≡ fill_prop bodies a

  pub record BindK (a b : Bind) : Type 0 where
    pub names : b.name ≡ a.name
    pub values : OptionK ExprK a.value b.value

  pub record StmtK (a b : Stmt) : Type 0 where
    pub takes : takes_else a ≡ takes_else b
    pub same : b ≡ fill_stmt bodies a

  pub record ClauseK (a b : Clause) : Type 0 where
    pub tests : OptionK ExprK a.test b.test
    pub items : ListK StmtK a.items b.items

  -- lists of parts that are alike

  pub exprs_same : (es fs : List Expr) → ListK ExprK es fs → exprs_of fs ≡ fill_exprs bodies (exprs_of es)
  exprs_same [] [] h = refl
  exprs_same [] (f ∷ fs) h = absurd h
  exprs_same (e ∷ es) [] h = absurd h
  exprs_same (e ∷ es) (f ∷ fs) h = ap (λ x. more_exprs x (exprs_of fs)) h.0.same ∙ ap (more_exprs (fill bodies e)) (exprs_same es fs h.1)

  pub maybe_same : (o p : Option Expr) → OptionK ExprK o p → maybe_expr_of p ≡ fill_maybe bodies (maybe_expr_of o)
  maybe_same None None k = refl
  maybe_same None (Some b) k = absurd k
  maybe_same (Some a) None k = absurd k
  maybe_same (Some a) (Some b) k = ap some_expr k.same

  args_same : (o p : Option Args) → OptionK ArgsK o p → maybe_args_of p ≡ fill_args bodies (maybe_args_of o)
  args_same None None k = refl
  args_same None (Some b) k = absurd k
  args_same (Some a) None k = absurd k
  args_same (Some a) (Some b) k = ap (λ x. some_args x b.comma) (exprs_same a.items b.items k.items) ∙ ap (some_args (fill_exprs bodies (exprs_of a.items))) k.commas

  args_rank : (o p : Option Args) → OptionK ArgsK o p → new_rank (maybe_args_of o) ≡ new_rank (maybe_args_of p)
  args_rank None None k = refl
  args_rank None (Some b) k = absurd k
  args_rank (Some a) None k = absurd k
  args_rank (Some a) (Some b) k = refl

  pub parts_same : (ps qs : List Part) → ListK PartK ps qs → parts_of qs ≡ fill_parts bodies (parts_of ps)
  parts_same [] [] h = refl
  parts_same [] (q ∷ qs) h = absurd h
  parts_same (p ∷ ps) [] h = absurd h
  parts_same (p ∷ ps) (q ∷ qs) h = ap (λ x. more_parts x q.behind (parts_of qs)) h.0.values.same ∙ ap (λ x. more_parts (fill bodies p.value) x (parts_of qs)) h.0.texts ∙ ap (more_parts (fill bodies p.value) p.behind) (parts_same ps qs h.1)

  items_same : (xs ys : List (Option Expr)) → ListK (OptionK ExprK) xs ys → items_of ys ≡ fill_items bodies (items_of xs)
  items_same [] [] h = refl
  items_same [] (y ∷ ys) h = absurd h
  items_same (x ∷ xs) [] h = absurd h
  items_same (x ∷ xs) (y ∷ ys) h = ap (λ z. more_items z (items_of ys)) (maybe_same x y h.0) ∙ ap (more_items (fill_maybe bodies (maybe_expr_of x))) (items_same xs ys h.1)

  operands_same : (os ps : List Operand) → ListK OperandK os ps → operands_of ps ≡ fill_operands bodies (operands_of os)
  operands_same [] [] h = refl
  operands_same [] (p ∷ ps) h = absurd h
  operands_same (o ∷ os) [] h = absurd h
  operands_same (o ∷ os) (p ∷ ps) h =
      ap (λ x. more_operands x p.is_word p.value (operands_of ps)) h.0.ops
      ∙ ap (λ x. more_operands o.op x p.value (operands_of ps)) h.0.words
      ∙ ap (λ x. more_operands o.op o.is_word x (operands_of ps)) h.0.values.same
      ∙ ap (more_operands o.op o.is_word (fill bodies o.value)) (operands_same os ps h.1)

  tails_same : (ts us : List Tail) → ListK TailK ts us → tails_of us ≡ fill_tails bodies (tails_of ts)
  tails_same [] [] h = refl
  tails_same [] (u ∷ us) h = absurd h
  tails_same (t ∷ ts) [] h = absurd h
  tails_same (t ∷ ts) (u ∷ us) h = ap (λ x. more_tails x (tails_of us)) h.0.same ∙ ap (more_tails (fill_tail bodies t)) (tails_same ts us h.1)

  pub props_same : (ps qs : List Prop) → ListK PropK ps qs → props_of qs ≡ fill_props bodies (props_of ps)
  props_same [] [] h = refl
  props_same [] (q ∷ qs) h = absurd h
  props_same (p ∷ ps) [] h = absurd h
  props_same (p ∷ ps) (q ∷ qs) h = ap (λ x. more_props x (props_of qs)) h.0.same ∙ ap (more_props (fill_prop bodies p)) (props_same ps qs h.1)

  pub params_same : (ps qs : List Param) → ListK ParamK ps qs → params_of qs ≡ fill_params bodies (params_of ps)
  params_same [] [] h = refl
  params_same [] (q ∷ qs) h = absurd h
  params_same (p ∷ ps) [] h = absurd h
  params_same (p ∷ ps) (q ∷ qs) h =
      ap (λ x. more_params x (maybe_expr_of q.value) q.rest (params_of qs)) h.0.names
      ∙ ap (λ x. more_params p.name x q.rest (params_of qs)) (maybe_same p.value q.value h.0.values)
      ∙ ap (λ x. more_params p.name (fill_maybe bodies (maybe_expr_of p.value)) x (params_of qs)) h.0.rests
      ∙ ap (more_params p.name (fill_maybe bodies (maybe_expr_of p.value)) p.rest) (params_same ps qs h.1)

  pub binds_same : (bs cs : List Bind) → ListK BindK bs cs → binds_of cs ≡ fill_binds bodies (binds_of bs)
  binds_same [] [] h = refl
  binds_same [] (c ∷ cs) h = absurd h
  binds_same (b ∷ bs) [] h = absurd h
  binds_same (b ∷ bs) (c ∷ cs) h =
      ap (λ x. more_binds x (maybe_expr_of c.value) (binds_of cs)) h.0.names
      ∙ ap (λ x. more_binds b.name x (binds_of cs)) (maybe_same b.value c.value h.0.values)
      ∙ ap (more_binds b.name (fill_maybe bodies (maybe_expr_of b.value))) (binds_same bs cs h.1)

  pub stmts_same : (ss rs : List Stmt) → ListK StmtK ss rs → stmts_of rs ≡ fill_stmts bodies (stmts_of ss)
  stmts_same [] [] h = refl
  stmts_same [] (r ∷ rs) h = absurd h
  stmts_same (s ∷ ss) [] h = absurd h
  stmts_same (s ∷ ss) (r ∷ rs) h = ap (λ x. more_stmts x (stmts_of rs)) h.0.same ∙ ap (more_stmts (fill_stmt bodies s)) (stmts_same ss rs h.1)

  pub clauses_same : (cs ds : List Clause) → ListK ClauseK cs ds → clauses_of ds ≡ fill_clauses bodies (clauses_of cs)
  clauses_same [] [] h = refl
  clauses_same [] (d ∷ ds) h = absurd h
  clauses_same (c ∷ cs) [] h = absurd h
  clauses_same (c ∷ cs) (d ∷ ds) h =
      ap (λ x. more_clauses x (stmts_of d.items) (clauses_of ds)) (maybe_same c.test d.test h.0.tests)
      ∙ ap (λ x. more_clauses (fill_maybe bodies (maybe_expr_of c.test)) x (clauses_of ds)) (stmts_same c.items d.items h.0.items)
      ∙ ap (more_clauses (fill_maybe bodies (maybe_expr_of c.test)) (fill_stmts bodies (stmts_of c.items))) (clauses_same cs ds h.1)

  pub else_same : (o p : Option Stmt) → OptionK StmtK o p → maybe_stmt_of p ≡ fill_else bodies (maybe_stmt_of o)
  else_same None None k = refl
  else_same None (Some b) k = absurd k
  else_same (Some a) None k = absurd k
  else_same (Some a) (Some b) k = ap some_stmt k.same

  -- expressions of parts that are alike

  last_alike : (x y : Ending) (es fs : List Expr) → x ≡ y → ListK ExprK es fs → last_ending x (exprs_of es) ≡ last_ending y (exprs_of fs)
  last_alike x y [] [] e h = e
  last_alike x y [] (f ∷ fs) e h = absurd h
  last_alike x y (a ∷ es) [] e h = absurd h
  last_alike x y (a ∷ es) (f ∷ fs) e h = last_alike (ending a) (ending f) es fs h.0.endings h.1

  pub comma_alike : (a b : Expr) (es fs : List Expr) → ExprK a b → ListK ExprK es fs → ExprK (comma_case a es) (comma_case b fs)
  comma_alike a b [] [] k h = k
  comma_alike a b [] (f ∷ fs) k h = absurd h
  comma_alike a b (e ∷ es) [] k h = absurd h
  comma_alike a b (e ∷ es) (f ∷ fs) k h = record { ranks = refl; endings = last_alike (ending e) (ending f) es fs h.0.endings h.1; same = ap tree.Comma (exprs_same (a ∷ e ∷ es) (b ∷ f ∷ fs) (k, h)) }

  pub paren_alike : (at : ℕ) (es fs : List Expr) → ListK ExprK es fs → ExprK (tree.Paren at (list_case es)) (tree.Paren at (list_case fs))
  paren_alike at [] [] h = record { ranks = refl; endings = refl; same = refl }
  paren_alike at [] (f ∷ fs) h = absurd h
  paren_alike at (e ∷ es) [] h = absurd h
  paren_alike at (e ∷ es) (f ∷ fs) h = record { ranks = refl; endings = refl; same = ap (tree.Paren at) (comma_alike e f es fs h.0 h.1).same }

  array_items : (m : List (Option Expr)) (o : Option Expr) (n : List (Option Expr)) (p : Option Expr) → ListK (OptionK ExprK) m n → OptionK ExprK o p → ListK (OptionK ExprK) (m ++ some_last o) (n ++ some_last p)
  array_items m None n None h k = list_append (OptionK ExprK) m [] n [] h tt
  array_items m None n (Some b) h k = absurd k
  array_items m (Some a) n None h k = absurd k
  array_items m (Some a) n (Some b) h k = list_append (OptionK ExprK) m (Some a ∷ []) n (Some b ∷ []) h (k, tt)

  pub array_alike : (at : ℕ) (m n : List (Option Expr)) (o p : Option Expr) → ListK (OptionK ExprK) m n → OptionK ExprK o p → ExprK (array_case at m o) (array_case at n p)
  array_alike at m n o p h k = record {
    ranks = refl;
    endings = refl;
    same =
        ap (λ x. tree.Array at x (is_none p && has_items n)) (items_same (m ++ some_last o) (n ++ some_last p) (array_items m o n p h k))
        ∙ ap (λ x. tree.Array at (fill_items bodies (items_of (m ++ some_last o))) (x && has_items n)) (option_none ExprK o p k)
        ∙ ap (λ x. tree.Array at (fill_items bodies (items_of (m ++ some_last o))) (is_none o && x)) (list_items (OptionK ExprK) m n h);
  }

  -- functions

  pub head_alike : (start : ℕ) (ps qs : List Param) (x y : ParamsEnd) → ListK ParamK ps qs → EndK x y → HeadK (head_case start (record { items = ps; last = x })) (head_case start (record { items = qs; last = y }))
  head_alike start ps qs Plain Plain h k = record { starts = refl; params = h; commas = refl; bares = refl }
  head_alike start ps qs Trailing Trailing h k = record { starts = refl; params = h; commas = refl; bares = refl }
  head_alike start ps qs (Rest n) (Rest m) h k = record { starts = refl; params = list_append ParamK ps (rest_param n ∷ []) qs (rest_param m ∷ []) h (record { names = k; values = tt; rests = refl }, tt); commas = refl; bares = refl }
  head_alike start ps qs Plain Trailing h k = absurd k
  head_alike start ps qs Plain (Rest m) h k = absurd k
  head_alike start ps qs Trailing Plain h k = absurd k
  head_alike start ps qs Trailing (Rest m) h k = absurd k
  head_alike start ps qs (Rest n) Plain h k = absurd k
  head_alike start ps qs (Rest n) Trailing h k = absurd k

  pub function_alike : (f : FuncForm) (n m : Option Named) (h g : Head) (a b : BodyRead) → m ≡ n → HeadK h g → BodyK h.start a b → FunctionK (function_case f n h a) (function_case f m g b)
  function_alike f n m h g a b e q k = record {
    ranks = refl;
    endings = ap (λ x. if is_arrow_form f then x else pieces.Operand) k.endings;
    same =
        ap (λ x. function f x b.end m (params_of g.params) g.comma g.bare b.body) q.starts
        ∙ ap (λ x. function f h.start x m (params_of g.params) g.comma g.bare b.body) k.ends
        ∙ ap (λ x. function f h.start a.end x (params_of g.params) g.comma g.bare b.body) e
        ∙ ap (λ x. function f h.start a.end n x g.comma g.bare b.body) (params_same h.params g.params q.params)
        ∙ ap (λ x. function f h.start a.end n (fill_params bodies (params_of h.params)) x g.bare b.body) q.commas
        ∙ ap (λ x. function f h.start a.end n (fill_params bodies (params_of h.params)) h.comma x b.body) q.bares
        ∙ ap (function f h.start a.end n (fill_params bodies (params_of h.params)) h.comma h.bare) k.same;
  }

  -- members, calls and operators

  tails_alike : (ts us : List Tail) → ListK TailK ts us → are_member_tails (tails_of ts) ≡ are_member_tails (tails_of us)
  tails_alike [] [] h = refl
  tails_alike [] (u ∷ us) h = absurd h
  tails_alike (t ∷ ts) [] h = absurd h
  tails_alike (t ∷ ts) (u ∷ us) h = ap (λ x. x && are_member_tails (tails_of ts)) h.0.members ∙ ap (λ x. is_member_tail u && x) (tails_alike ts us h.1)

  pub chain_alike : (a b : Expr) (ts us : List Tail) → ExprK a b → ListK TailK ts us → ExprK (chain_case a ts) (chain_case b us)
  chain_alike a b [] [] k h = k
  chain_alike a b [] (u ∷ us) k h = absurd h
  chain_alike a b (t ∷ ts) [] k h = absurd h
  chain_alike a b (t ∷ ts) (u ∷ us) k h = record {
    ranks = ap (λ x. if x then 2 else 4) (tails_alike (t ∷ ts) (u ∷ us) h);
    endings = refl;
    same = ap (λ x. tree.Chain x (tails_of (u ∷ us))) k.same ∙ ap (tree.Chain (fill bodies a)) (tails_same (t ∷ ts) (u ∷ us) h);
  }

  operands_alike : (x y : Ending) (os ps : List Operand) → x ≡ y → ListK OperandK os ps → operands_ending x (operands_of os) ≡ operands_ending y (operands_of ps)
  operands_alike x y [] [] e h = e
  operands_alike x y [] (p ∷ ps) e h = absurd h
  operands_alike x y (o ∷ os) [] e h = absurd h
  operands_alike x y (o ∷ os) (p ∷ ps) e h = operands_alike (ending o.value) (ending p.value) os ps h.0.values.endings h.1

  pub binary_alike : (a b : Expr) (os ps : List Operand) → ExprK a b → ListK OperandK os ps → ExprK (binary_case a os) (binary_case b ps)
  binary_alike a b [] [] k h = k
  binary_alike a b [] (p ∷ ps) k h = absurd h
  binary_alike a b (o ∷ os) [] k h = absurd h
  binary_alike a b (o ∷ os) (p ∷ ps) k h = record {
    ranks = sym (ap (λ x. level_rank (op_level x p.is_word)) h.0.ops ∙ ap (λ x. level_rank (op_level o.op x)) h.0.words);
    endings = operands_alike pieces.Operand pieces.Operand (o ∷ os) (p ∷ ps) refl h;
    same = ap (λ x. tree.Binary x (operands_of (p ∷ ps))) k.same ∙ ap (tree.Binary (fill bodies a)) (operands_same (o ∷ os) (p ∷ ps) h);
  }

  pub new_alike : (at : ℕ) (a b : Expr) (o p : Option Args) → ExprK a b → OptionK ArgsK o p → ExprK (tree.New at a (maybe_args_of o)) (tree.New at b (maybe_args_of p))
  new_alike at a b o p k j = record { ranks = args_rank o p j; endings = refl; same = ap (λ x. tree.New at x (maybe_args_of p)) k.same ∙ ap (tree.New at (fill bodies a)) (args_same o p j) }

  -- the endings of statements

  pub option_ending : (o p : Option Expr) → OptionK ExprK o p → bind_ending (maybe_expr_of o) ≡ bind_ending (maybe_expr_of p)
  option_ending None None k = refl
  option_ending None (Some b) k = absurd k
  option_ending (Some a) None k = absurd k
  option_ending (Some a) (Some b) k = k.endings

  binds_alike : (x y : Ending) (bs cs : List Bind) → x ≡ y → ListK BindK bs cs → binds_ending x (binds_of bs) ≡ binds_ending y (binds_of cs)
  binds_alike x y [] [] e h = e
  binds_alike x y [] (c ∷ cs) e h = absurd h
  binds_alike x y (b ∷ bs) [] e h = absurd h
  binds_alike x y (b ∷ bs) (c ∷ cs) e h = binds_alike (bind_ending (maybe_expr_of b.value)) (bind_ending (maybe_expr_of c.value)) bs cs (option_ending b.value c.value h.0.values) h.1

  pub all_binds : (bs cs : List Bind) → ListK BindK bs cs → binds_ending pieces.BareBinding (binds_of bs) ≡ binds_ending pieces.BareBinding (binds_of cs)
  all_binds bs cs h = binds_alike pieces.BareBinding pieces.BareBinding bs cs refl h

  pub return_alike : (o p : Option Expr) → OptionK ExprK o p → return_ending (maybe_expr_of o) ≡ return_ending (maybe_expr_of p)
  return_alike None None k = refl
  return_alike None (Some b) k = absurd k
  return_alike (Some a) None k = absurd k
  return_alike (Some a) (Some b) k = k.endings

  pub else_alike : (o p : Option Stmt) → OptionK StmtK o p → else_takes (maybe_stmt_of o) ≡ else_takes (maybe_stmt_of p)
  else_alike None None k = refl
  else_alike None (Some b) k = absurd k
  else_alike (Some a) None k = absurd k
  else_alike (Some a) (Some b) k = k.takes
