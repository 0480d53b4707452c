-- The bodies in the parts that parsers read, before they are put into trees: those in a list of parts are those in the part of
-- the tree that the list becomes.
use Rattle.std.proofs.Common.{◌≡◌, ℕ, List, [], ◌∷◌, ◌++◌, refl, ap, ◌∙◌, Option, Some, None, Bool}
use Rattle.script_grammar.specs.Tree.{Expr, Stmts, Stmt, Prop, Tail}
use Rattle.script_grammar.specs.TreeLists.{Args, Operand, Part, Param, Bind, Clause, exprs_of, maybe_args_of, operands_of, tails_of, items_of, parts_of, props_of, params_of, binds_of, stmts_of, clauses_of, maybe_expr_of, maybe_stmt_of}
use Rattle.grammar_parser_specs.specs.Exprs.{BodyRead, Head, ParamsEnd, Plain, Trailing, Rest, comma_case, list_case, chain_case, binary_case, with_last, rest_param, some_last, array_case, ended_params}
use Rattle.script_grammar.specs.Braced.{in_expr, in_exprs, in_maybe_expr, in_maybe_args, in_parts, in_items, in_operands, in_tail, in_tails, in_prop, in_props, in_params, in_body, in_binds, in_clauses, in_stmt, in_stmts, in_maybe_stmt}
use Rattle.parse_pending_laws.proofs.Lists.{Bodies, in_list, in_option}

pub list_both : {A : Type 0} (f : Bodies A) (xs ys : List A) (r : List Stmts) → in_list f xs (in_list f ys r) ≡ in_list f (xs ++ ys) r
list_both f [] ys r = refl
list_both f (x ∷ xs) ys r = ap (f x) (list_both f xs ys r)

pub with_last_listed : {A : Type 0} (f : Bodies A) (xs : List A) (o : Option A) (r : List Stmts) → in_list f xs (in_option f o r) ≡ in_list f (with_last xs o) r
with_last_listed f xs None r = refl
with_last_listed f xs (Some x) r = list_both f xs (x ∷ []) r

-- over whether the bodies inside a body are wanted too
module _ (nested : Bool) where
  abbrev pub in_args : Bodies Args
  in_args a r = in_list (in_expr nested) a.items r

  abbrev pub in_operand : Bodies Operand
  in_operand o r = in_expr nested o.value r

  abbrev pub in_part : Bodies Part
  in_part p r = in_expr nested p.value r

  abbrev pub in_param : Bodies Param
  in_param p r = in_option (in_expr nested) p.value r

  abbrev pub in_head : Bodies Head
  in_head h r = in_list in_param h.params r

  abbrev pub in_own : Bodies BodyRead
  in_own b r = in_body nested b.body r

  abbrev pub in_bind : Bodies Bind
  in_bind b r = in_option (in_expr nested) b.value r

  abbrev pub in_clause : Bodies Clause
  in_clause c r = in_option (in_expr nested) c.test (in_list (in_stmt nested) c.items r)

  -- lists

  pub exprs_listed : (es : List Expr) (r : List Stmts) → in_list (in_expr nested) es r ≡ in_exprs nested (exprs_of es) r
  exprs_listed [] r = refl
  exprs_listed (e ∷ es) r = ap (in_expr nested e) (exprs_listed es r)

  pub maybe_listed : (o : Option Expr) (r : List Stmts) → in_option (in_expr nested) o r ≡ in_maybe_expr nested (maybe_expr_of o) r
  maybe_listed None r = refl
  maybe_listed (Some e) r = refl

  pub args_listed : (o : Option Args) (r : List Stmts) → in_option in_args o r ≡ in_maybe_args nested (maybe_args_of o) r
  args_listed None r = refl
  args_listed (Some a) r = exprs_listed a.items r

  pub parts_listed : (ps : List Part) (r : List Stmts) → in_list in_part ps r ≡ in_parts nested (parts_of ps) r
  parts_listed [] r = refl
  parts_listed (p ∷ ps) r = ap (in_expr nested p.value) (parts_listed ps r)

  items_listed : (xs : List (Option Expr)) (r : List Stmts) → in_list (in_option (in_expr nested)) xs r ≡ in_items nested (items_of xs) r
  items_listed [] r = refl
  items_listed (x ∷ xs) r = ap (in_option (in_expr nested) x) (items_listed xs r) ∙ maybe_listed x (in_items nested (items_of xs) r)

  operands_listed : (os : List Operand) (r : List Stmts) → in_list in_operand os r ≡ in_operands nested (operands_of os) r
  operands_listed [] r = refl
  operands_listed (o ∷ os) r = ap (in_expr nested o.value) (operands_listed os r)

  tails_listed : (ts : List Tail) (r : List Stmts) → in_list (in_tail nested) ts r ≡ in_tails nested (tails_of ts) r
  tails_listed [] r = refl
  tails_listed (t ∷ ts) r = ap (in_tail nested t) (tails_listed ts r)

  pub props_listed : (ps : List Prop) (r : List Stmts) → in_list (in_prop nested) ps r ≡ in_props nested (props_of ps) r
  props_listed [] r = refl
  props_listed (p ∷ ps) r = ap (in_prop nested p) (props_listed ps r)

  pub params_listed : (ps : List Param) (r : List Stmts) → in_list in_param ps r ≡ in_params nested (params_of ps) r
  params_listed [] r = refl
  params_listed (p ∷ ps) r = ap (in_option (in_expr nested) p.value) (params_listed ps r) ∙ maybe_listed p.value (in_params nested (params_of ps) r)

  pub binds_listed : (bs : List Bind) (r : List Stmts) → in_list in_bind bs r ≡ in_binds nested (binds_of bs) r
  binds_listed [] r = refl
  binds_listed (b ∷ bs) r = ap (in_option (in_expr nested) b.value) (binds_listed bs r) ∙ maybe_listed b.value (in_binds nested (binds_of bs) r)

  pub stmts_listed : (ss : List Stmt) (r : List Stmts) → in_list (in_stmt nested) ss r ≡ in_stmts nested (stmts_of ss) r
  stmts_listed [] r = refl
  stmts_listed (s ∷ ss) r = ap (in_stmt nested s) (stmts_listed ss r)

  pub clauses_listed : (cs : List Clause) (r : List Stmts) → in_list in_clause cs r ≡ in_clauses nested (clauses_of cs) r
  clauses_listed [] r = refl
  clauses_listed (c ∷ cs) r =
      ap (in_clause c) (clauses_listed cs r)
      ∙ ap (in_option (in_expr nested) c.test) (stmts_listed c.items (in_clauses nested (clauses_of cs) r))
      ∙ maybe_listed c.test (in_stmts nested (stmts_of c.items) (in_clauses nested (clauses_of cs) r))

  pub else_listed : (o : Option Stmt) (r : List Stmts) → in_option (in_stmt nested) o r ≡ in_maybe_stmt nested (maybe_stmt_of o) r
  else_listed None r = refl
  else_listed (Some s) r = refl

  -- expressions of parts

  pub comma_listed : (e : Expr) (es : List Expr) (r : List Stmts) → in_expr nested e (in_list (in_expr nested) es r) ≡ in_expr nested (comma_case e es) r
  comma_listed e [] r = refl
  comma_listed e (f ∷ fs) r = exprs_listed (e ∷ f ∷ fs) r

  pub list_listed : (es : List Expr) (r : List Stmts) → in_list (in_expr nested) es r ≡ in_expr nested (list_case es) r
  list_listed [] r = refl
  list_listed (e ∷ es) r = comma_listed e es r

  pub array_listed : (at : ℕ) (items : List (Option Expr)) (last : Option Expr) (r : List Stmts) → in_list (in_option (in_expr nested)) items (in_option (in_expr nested) last r) ≡ in_expr nested (array_case at items last) r
  array_listed at items last r = by last ∙ items_listed (items ++ some_last last) r
    where
      by : (last : Option Expr) → in_list (in_option (in_expr nested)) items (in_option (in_expr nested) last r) ≡ in_list (in_option (in_expr nested)) (items ++ some_last last) r
      by None = list_both (in_option (in_expr nested)) items [] r
      by (Some e) = list_both (in_option (in_expr nested)) items (Some e ∷ []) r

  pub template_listed : (items : List Part) (last : Part) (r : List Stmts) → in_list in_part items (in_part last r) ≡ in_parts nested (parts_of (items ++ last ∷ [])) r
  template_listed items last r = list_both in_part items (last ∷ []) r ∙ parts_listed (items ++ last ∷ []) r

  pub chain_listed : (e : Expr) (ts : List Tail) (r : List Stmts) → in_expr nested e (in_list (in_tail nested) ts r) ≡ in_expr nested (chain_case e ts) r
  chain_listed e [] r = refl
  chain_listed e (t ∷ ts) r = ap (in_expr nested e) (tails_listed (t ∷ ts) r)

  pub binary_listed : (e : Expr) (os : List Operand) (r : List Stmts) → in_expr nested e (in_list in_operand os r) ≡ in_expr nested (binary_case e os) r
  binary_listed e [] r = refl
  binary_listed e (o ∷ os) r = ap (in_expr nested e) (operands_listed (o ∷ os) r)

  -- parameters with how they end
  pub head_listed : (ps : List Param) (e : ParamsEnd) (r : List Stmts) → in_list in_param ps r ≡ in_list in_param (ended_params ps e) r
  head_listed ps Plain r = refl
  head_listed ps Trailing r = refl
  head_listed ps (Rest n) r = list_both in_param ps (rest_param n ∷ []) r
