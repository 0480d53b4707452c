-- A tree with hollow functions is one of the grammar where the tree is.
use Rattle.std.proofs.Common.{◌≡◌, ℕ, zero, suc, ◌≤◌, ◌<◌, refl, sym, ap, ◌∙◌, subst, Bool, true, false, Option}
use Rattle.script_grammar.specs.declared.token.FuncForm.{FuncForm}
use Rattle.script_grammar.specs.declared.token.FuncForm.TheVariants as form
use Rattle.script_grammar.specs.declared.token.word.TheConstants as word
use Rattle.script_grammar.specs.Endings.{ending}
use Rattle.script_grammar.specs.Kinds.{no_level, is_word}
use Rattle.script_grammar.specs.Tree.{Named, Expr, Exprs, no_exprs, more_exprs, MaybeExpr, no_expr, some_expr, MaybeArgs, no_args, some_args, Parts, no_parts, more_parts, Items, no_items, more_items, Operands, no_operands, more_operands, Tail, Tails, no_tails, more_tails, Key, Prop, Props, no_props, more_props, Function, function, Params, no_params, more_params, Body, Binds, no_binds, more_binds, Init, Each, Clauses, no_clauses, more_clauses, Stmt, Stmts, no_stmts, more_stmts, MaybeStmt, no_stmt, some_stmt}
use Rattle.script_grammar.specs.Tree as tree
use Rattle.script_grammar.specs.Pieces.{whole, passed, begins_with}
use Rattle.script_grammar.specs.Script.{IsOf, OwnProper, ProperAlone}
use Rattle.script_grammar.specs.Proper.{HasTwo, HasExprs, HasTails, HasOperands, HasProps, HasBinds, AreItems, AreParams, IsBare, BareIf, SuitsForm, IsOneParam, IsFuncExpression, IsDeclaration, IsNamelessOf, ElseIsNearest, rank, callee_rank, first_rank, rest_rank, operands_level, begins_brace, begins_function, defaults, is_statement, takes_else, free_of_in, binds_free, Proper, ProperExprs, ProperMaybe, ProperOption, ProperArgs, ProperParts, ProperItems, ProperOperands, ProperTails, ProperTail, ProperKey, ProperProp, ProperProps, ProperFunction, ProperParams, ProperBody, ProperBinds, ProperInit, ProperEach, ProperClauses, ProperStmts, ProperElse, ProperStmt}
use Rattle.grammar_parser_laws.proofs.Begins.{begins_same}
use Rattle.grammar_parser_specs.specs.Filling.{fill}
use Rattle.grammar_local_laws.proofs.FillLaws.{rank_fill, level_fill, callee_fill, free_fill, binds_free_fill, statement_fill, takes_fill, defaults_fill, ending_fill, print_fill}
use Rattle.grammar_local_laws.proofs.PassedIn.{brace_fill}
use Rattle.grammar_local_laws.proofs.PassingLaws.{AreBraced}
use Rattle.grammar_skip_laws.specs.Hollow.{hollow, hollow_exprs, hollow_maybe, hollow_args, hollow_parts, hollow_items, hollow_operands, hollow_tails, hollow_tail, hollow_key, hollow_prop, hollow_props, hollow_function, hollow_params, hollow_body, hollow_binds, hollow_init, hollow_each, hollow_stmt, hollow_stmts, hollow_else, hollow_clauses, hollow_own, hollow_inside}
use Rattle.grammar_skip_laws.proofs.Filled.{filled, filled_operands, filled_args, filled_binds, filled_stmt, filled_clauses}

-- What a tree keeps: how loosely its parts bind, how they begin and how they end.

abbrev empty : ℕ → Body
empty n = tree.BracedBody no_stmts

are_empty : AreBraced empty
are_empty = record { items = λ n. no_stmts; are = λ n. refl }

module _ (chosen : ℕ → Bool) where
  pub rank_same : (x : Expr) → rank (hollow chosen x) ≡ rank x
  rank_same x = sym (rank_fill empty are_empty (hollow chosen x)) ∙ ap rank (filled chosen empty x) ∙ rank_fill empty are_empty x

  level_same : (x : Operands) → operands_level (hollow_operands chosen x) ≡ operands_level x
  level_same x = sym (level_fill empty are_empty (hollow_operands chosen x)) ∙ ap operands_level (filled_operands chosen empty x) ∙ level_fill empty are_empty x

  callee_same : (x : MaybeArgs) → callee_rank (hollow_args chosen x) ≡ callee_rank x
  callee_same x = sym (callee_fill empty are_empty (hollow_args chosen x)) ∙ ap callee_rank (filled_args chosen empty x) ∙ callee_fill empty are_empty x

  free_same : (x : Expr) → free_of_in (hollow chosen x) ≡ free_of_in x
  free_same x = sym (free_fill empty are_empty (hollow chosen x)) ∙ ap free_of_in (filled chosen empty x) ∙ free_fill empty are_empty x

  binds_free_same : (x : Binds) → binds_free (hollow_binds chosen x) ≡ binds_free x
  binds_free_same x = sym (binds_free_fill empty are_empty (hollow_binds chosen x)) ∙ ap binds_free (filled_binds chosen empty x) ∙ binds_free_fill empty are_empty x

  statement_same : (x : Stmt) → is_statement (hollow_stmt chosen x) ≡ is_statement x
  statement_same x = sym (statement_fill empty are_empty (hollow_stmt chosen x)) ∙ ap is_statement (filled_stmt chosen empty x) ∙ statement_fill empty are_empty x

  takes_same : (x : Stmt) → takes_else (hollow_stmt chosen x) ≡ takes_else x
  takes_same x = sym (takes_fill empty are_empty (hollow_stmt chosen x)) ∙ ap takes_else (filled_stmt chosen empty x) ∙ takes_fill empty are_empty x

  defaults_same : (x : Clauses) → defaults (hollow_clauses chosen x) ≡ defaults x
  defaults_same x = sym (defaults_fill empty are_empty (hollow_clauses chosen x)) ∙ ap defaults (filled_clauses chosen empty x) ∙ defaults_fill empty are_empty x

  brace_same : (x : Expr) → begins_brace (hollow chosen x) ≡ begins_brace x
  brace_same x = sym (brace_fill empty are_empty (hollow chosen x)) ∙ ap begins_brace (filled chosen empty x) ∙ brace_fill empty are_empty x

  pub ending_same : (x : Expr) → ending (hollow chosen x) ≡ ending x
  ending_same x = sym (ending_fill empty are_empty (hollow chosen x)) ∙ ap ending (filled chosen empty x) ∙ ending_fill empty are_empty x

  function_begin : (x : Expr) → begins_function (fill empty x) ≡ begins_function x
  function_begin x = begins_same (is_word word.FUNCTION) whole passed 1 1 (fill empty x) ∙ ap (begins_with (is_word word.FUNCTION)) (print_fill empty are_empty 1 x) ∙ begins_same (is_word word.FUNCTION) passed whole 1 1 x

  function_same : (x : Expr) → begins_function (hollow chosen x) ≡ begins_function x
  function_same x = sym (function_begin (hollow chosen x)) ∙ ap begins_function (filled chosen empty x) ∙ function_begin x

  rank_le : (x : Expr) {n : ℕ} → rank x ≤ n → rank (hollow chosen x) ≤ n
  rank_le x {n} h = subst (λ y. y ≤ n) (sym (rank_same x)) h

  rest_same : (n : ℕ) (os : Operands) → rest_rank n (hollow_operands chosen os) ≡ rest_rank n os
  rest_same zero no_operands = refl
  rest_same zero (more_operands op is_word value rest) = refl
  rest_same (suc n) os = refl

  keeps_two : (es : Exprs) → HasTwo es → HasTwo (hollow_exprs chosen es)
  keeps_two no_exprs h = h
  keeps_two (more_exprs e no_exprs) h = h
  keeps_two (more_exprs e (more_exprs f es)) h = h

  keeps_exprs : (es : Exprs) → HasExprs es → HasExprs (hollow_exprs chosen es)
  keeps_exprs no_exprs h = h
  keeps_exprs (more_exprs e es) h = h

  keeps_tails : (ts : Tails) → HasTails ts → HasTails (hollow_tails chosen ts)
  keeps_tails no_tails h = h
  keeps_tails (more_tails t ts) h = h

  keeps_operands : (os : Operands) → HasOperands os → HasOperands (hollow_operands chosen os)
  keeps_operands no_operands h = h
  keeps_operands (more_operands op is_word value rest) h = h

  keeps_props : (ps : Props) → HasProps ps → HasProps (hollow_props chosen ps)
  keeps_props no_props h = h
  keeps_props (more_props p ps) h = h

  keeps_binds : (bs : Binds) → HasBinds bs → HasBinds (hollow_binds chosen bs)
  keeps_binds no_binds h = h
  keeps_binds (more_binds name value bs) h = h

  keeps_items : (is : Items) (comma : Bool) → AreItems is comma → AreItems (hollow_items chosen is) comma
  keeps_items no_items comma h = h
  keeps_items (more_items no_expr no_items) comma h = h
  keeps_items (more_items (some_expr e) no_items) comma h = h
  keeps_items (more_items i (more_items j is)) comma h = keeps_items (more_items j is) comma h

  pub keeps_params : (ps : Params) (comma : Bool) → AreParams ps comma → AreParams (hollow_params chosen ps) comma
  keeps_params no_params comma h = h
  keeps_params (more_params name no_expr true no_params) comma h = h
  keeps_params (more_params name (some_expr e) true no_params) comma h = h
  keeps_params (more_params name value false no_params) comma h = h
  keeps_params (more_params name value true (more_params n v r ps)) comma h = absurd h
  keeps_params (more_params name value false (more_params n v r ps)) comma h = keeps_params (more_params n v r ps) comma h

  keeps_one : (ps : Params) (comma : Bool) → IsOneParam ps comma → IsOneParam (hollow_params chosen ps) comma
  keeps_one no_params comma h = absurd h
  keeps_one (more_params name value false no_params) comma h = h
  keeps_one (more_params name value true ps) comma h = absurd h
  keeps_one (more_params name value false (more_params n v r ps)) comma h = absurd h

  pub keeps_form : (f : FuncForm) (ps : Params) (comma : Bool) → SuitsForm f ps comma → SuitsForm f (hollow_params chosen ps) comma
  keeps_form form.Script ps comma h = absurd h
  keeps_form form.Function ps comma h = h
  keeps_form form.Arrow ps comma h = h
  keeps_form form.Method ps comma h = h
  keeps_form form.Getter ps comma h = (ap (hollow_params chosen) h.0, h.1)
  keeps_form form.Setter ps comma h = keeps_one ps comma h

  keeps_lone : (start : ℕ) (ps : Params) (comma : Bool) → IsBare form.Arrow start ps comma → IsBare form.Arrow start (hollow_params chosen ps) comma
  keeps_lone start no_params comma h = absurd h
  keeps_lone start (more_params name no_expr false no_params) comma h = h
  keeps_lone start (more_params name (some_expr e) r ps) comma h = absurd h
  keeps_lone start (more_params name no_expr true ps) comma h = absurd h
  keeps_lone start (more_params name no_expr false (more_params n v r ps)) comma h = absurd h

  pub keeps_bare : (b : Bool) (f : FuncForm) (start : ℕ) (ps : Params) (comma : Bool) → BareIf b f start ps comma → BareIf b f start (hollow_params chosen ps) comma
  keeps_bare false f start ps comma h = h
  keeps_bare true form.Arrow start ps comma h = keeps_lone start ps comma h
  keeps_bare true form.Script start ps comma h = absurd h
  keeps_bare true form.Function start ps comma h = absurd h
  keeps_bare true form.Method start ps comma h = absurd h
  keeps_bare true form.Getter start ps comma h = absurd h
  keeps_bare true form.Setter start ps comma h = absurd h

  keeps_nameless : (w : FuncForm) (f : Function) → IsNamelessOf w f → IsNamelessOf w (hollow_function chosen f)
  keeps_nameless w (function form start end name ps comma bare body) h = h

  keeps_expression : (at : ℕ) (f : Function) → IsFuncExpression at f → IsFuncExpression at (hollow_function chosen f)
  keeps_expression at (function form start end name ps comma bare body) h = h

  keeps_declaration : (f : Function) → IsDeclaration f → IsDeclaration (hollow_function chosen f)
  keeps_declaration (function form start end name ps comma bare body) h = h

  keeps_nearest : (s : Stmt) (o : MaybeStmt) → ElseIsNearest s o → ElseIsNearest (hollow_stmt chosen s) (hollow_else chosen o)
  keeps_nearest s no_stmt h = h
  keeps_nearest s (some_stmt t) h = takes_same s ∙ h

  has_body : (c : Bool) (form : FuncForm) (x : Body) → ProperBody whole form x → ProperBody whole form (hollow_body chosen c x)
  has_body true form (tree.BracedBody items) h = tt
  has_body true form (tree.ShortBody value) h = h
  has_body false form x h = h

  has_function : (x : Function) → ProperFunction whole x → ProperFunction whole (hollow_function chosen x)
  has_function (function form start end name ps comma bare body) h = (h.0, h.1, h.2, h.3, has_body (chosen start) form body h.4)

  mutual
    pub has_expr : (a0 : Expr) → Proper whole a0 → Proper whole (hollow chosen a0)
    has_expr (tree.This at) h = tt
    has_expr (tree.Name name) h = tt
    has_expr (tree.Null at) h = tt
    has_expr (tree.True at) h = tt
    has_expr (tree.False at) h = tt
    has_expr (tree.Number at value) h = tt
    has_expr (tree.Str at end w) h = tt
    has_expr (tree.Template at first parts) h = has_parts parts h
    has_expr (tree.Array at is comma) h = (keeps_items is comma h.0, has_items is h.1)
    has_expr (tree.Object at ps comma) h = (λ x. keeps_props ps (h.0 x), has_props ps h.1)
    has_expr (tree.Func at f) h = (keeps_expression at f h.0, has_function f h.1)
    has_expr (tree.Paren at inner) h = has_expr inner h
    has_expr (tree.Chain head tails) h = (rank_le head h.0, has_expr head h.1, keeps_tails tails h.2, has_tails tails h.3)
    has_expr (tree.New at callee args) h = (subst (λ x. rank (hollow chosen callee) ≤ x) (sym (callee_same args)) (rank_le callee h.0), has_expr callee h.1, has_args args h.2)
    has_expr (tree.Unary at op of is_word) h = (h.0, rank_le of h.1, has_expr of h.2)
    has_expr (tree.Update at op prefix of) h = (h.0, rank_le of h.1, has_expr of h.2)
    has_expr (tree.Binary first rest) h = (keeps_operands rest h.0, subst (λ x. x < no_level) (sym (level_same rest)) h.1, subst (λ x. rank (hollow chosen first) ≤ first_rank x) (sym (level_same rest)) (rank_le first h.2), has_expr first h.3, subst (λ x. ProperOperands whole x (hollow_operands chosen rest)) (sym (level_same rest)) (has_operands (operands_level rest) rest h.4))
    has_expr (tree.Cond test then_value else_value) h = (rank_le test h.0, has_expr test h.1, rank_le then_value h.2, has_expr then_value h.3, rank_le else_value h.4, has_expr else_value h.5)
    has_expr (tree.Assign op target value) h = (h.0, rank_le target h.1, has_expr target h.2, rank_le value h.3, has_expr value h.4)
    has_expr (tree.Comma es) h = (keeps_two es h.0, has_exprs es h.1)

    pub has_exprs : (a0 : Exprs) → ProperExprs whole a0 → ProperExprs whole (hollow_exprs chosen a0)
    has_exprs no_exprs h = tt
    has_exprs (more_exprs e es) h = (rank_le e h.0, has_expr e h.1, has_exprs es h.2)

    pub has_maybe : (a0 : MaybeExpr) → ProperMaybe whole a0 → ProperMaybe whole (hollow_maybe chosen a0)
    has_maybe no_expr h = tt
    has_maybe (some_expr e) h = (rank_le e h.0, has_expr e h.1)

    pub has_option : (a0 : MaybeExpr) → ProperOption whole a0 → ProperOption whole (hollow_maybe chosen a0)
    has_option no_expr h = tt
    has_option (some_expr e) h = has_expr e h

    pub has_args : (a0 : MaybeArgs) → ProperArgs whole a0 → ProperArgs whole (hollow_args chosen a0)
    has_args no_args h = tt
    has_args (some_args es comma) h = (λ x. keeps_exprs es (h.0 x), has_exprs es h.1)

    pub has_parts : (a0 : Parts) → ProperParts whole a0 → ProperParts whole (hollow_parts chosen a0)
    has_parts no_parts h = tt
    has_parts (more_parts value behind rest) h = (has_expr value h.0, has_parts rest h.1)

    pub has_items : (a0 : Items) → ProperItems whole a0 → ProperItems whole (hollow_items chosen a0)
    has_items no_items h = tt
    has_items (more_items i is) h = (has_maybe i h.0, has_items is h.1)

    pub has_operands : (a0 : ℕ) (a1 : Operands) → ProperOperands whole a0 a1 → ProperOperands whole a0 (hollow_operands chosen a1)
    has_operands n no_operands h = tt
    has_operands n (more_operands op is_word value rest) h = (h.0, subst (λ x. rank (hollow chosen value) ≤ x) (sym (rest_same n rest)) (rank_le value h.1), has_expr value h.2, has_operands n rest h.3)

    pub has_tails : (a0 : Tails) → ProperTails whole a0 → ProperTails whole (hollow_tails chosen a0)
    has_tails no_tails h = tt
    has_tails (more_tails t ts) h = (has_tail t h.0, has_tails ts h.1)

    pub has_tail : (a0 : Tail) → ProperTail whole a0 → ProperTail whole (hollow_tail chosen a0)
    has_tail (tree.Dot w) h = tt
    has_tail (tree.Index e) h = has_expr e h
    has_tail (tree.Call es comma) h = (λ x. keeps_exprs es (h.0 x), has_exprs es h.1)

    pub has_key : (a0 : Key) → ProperKey whole a0 → ProperKey whole (hollow_key chosen a0)
    has_key (tree.WordKey n) h = tt
    has_key (tree.StrKey n) h = tt
    has_key (tree.NumberKey at value) h = tt
    has_key (tree.ComputedKey e) h = (rank_le e h.0, has_expr e h.1)

    pub has_prop : (a0 : Prop) → ProperProp whole a0 → ProperProp whole (hollow_prop chosen a0)
    has_prop (tree.Short n) h = tt
    has_prop (tree.Pair key value) h = (has_key key h.0, rank_le value h.1, has_expr value h.2)
    has_prop (tree.Method key f) h = (has_key key h.0, keeps_nameless form.Method f h.1, has_function f h.2)
    has_prop (tree.Get key f) h = (has_key key h.0, keeps_nameless form.Getter f h.1, has_function f h.2)
    has_prop (tree.Set key f) h = (has_key key h.0, keeps_nameless form.Setter f h.1, has_function f h.2)

    pub has_props : (a0 : Props) → ProperProps whole a0 → ProperProps whole (hollow_props chosen a0)
    has_props no_props h = tt
    has_props (more_props p ps) h = (has_prop p h.0, has_props ps h.1)

    pub has_binds : (a0 : Binds) → ProperBinds whole a0 → ProperBinds whole (hollow_binds chosen a0)
    has_binds no_binds h = tt
    has_binds (more_binds name value bs) h = (has_maybe value h.0, has_binds bs h.1)

    pub has_init : (a0 : Init) → ProperInit whole a0 → ProperInit whole (hollow_init chosen a0)
    has_init tree.NoInit h = tt
    has_init (tree.ValueInit e) h = (free_same e ∙ h.0, has_expr e h.1)
    has_init (tree.BindsInit decl bs) h = (keeps_binds bs h.0, binds_free_same bs ∙ h.1, has_binds bs h.2)

    pub has_each : (a0 : Each) → ProperEach whole a0 → ProperEach whole (hollow_each chosen a0)
    has_each (tree.TargetEach e) h = (rank_le e h.0, has_expr e h.1)
    has_each (tree.BindEach decl name) h = tt

    pub has_clauses : (a0 : Bool) (a1 : Clauses) → ProperClauses whole a0 a1 → ProperClauses whole a0 (hollow_clauses chosen a1)
    has_clauses inside no_clauses h = tt
    has_clauses inside (more_clauses test items cs) h = (has_option test h.0, has_stmts inside items h.1, has_clauses inside cs h.2)

    pub has_stmts : (a0 : Bool) (a1 : Stmts) → ProperStmts whole a0 a1 → ProperStmts whole a0 (hollow_stmts chosen a1)
    has_stmts inside no_stmts h = tt
    has_stmts inside (more_stmts s ss) h = (has_stmt inside s h.0, has_stmts inside ss h.1)

    pub has_else : (a0 : Bool) (a1 : MaybeStmt) → ProperElse whole a0 a1 → ProperElse whole a0 (hollow_else chosen a1)
    has_else inside no_stmt h = tt
    has_else inside (some_stmt s) h = (statement_same s ∙ h.0, has_stmt inside s h.1)

    pub has_stmt : (a0 : Bool) (a1 : Stmt) → ProperStmt whole a0 a1 → ProperStmt whole a0 (hollow_stmt chosen a1)
    has_stmt inside (tree.Block items) h = has_stmts inside items h
    has_stmt inside tree.Empty h = tt
    has_stmt inside (tree.Debugger semi) h = tt
    has_stmt inside (tree.Binding decl bs semi) h = (keeps_binds bs h.0, has_binds bs h.1)
    has_stmt inside (tree.Value e semi) h = (brace_same e ∙ h.0, function_same e ∙ h.1, has_expr e h.2)
    has_stmt inside (tree.If test then_stmt else_stmt) h = (has_expr test h.0, statement_same then_stmt ∙ h.1, has_stmt inside then_stmt h.2, keeps_nearest then_stmt else_stmt h.3, has_else inside else_stmt h.4)
    has_stmt inside (tree.Do body test semi) h = (statement_same body ∙ h.0, has_stmt inside body h.1, has_expr test h.2)
    has_stmt inside (tree.While test body) h = (has_expr test h.0, statement_same body ∙ h.1, has_stmt inside body h.2)
    has_stmt inside (tree.For init test update body) h = (has_init init h.0, has_option test h.1, has_option update h.2, statement_same body ∙ h.3, has_stmt inside body h.4)
    has_stmt inside (tree.ForIn each over body) h = (has_each each h.0, has_expr over h.1, statement_same body ∙ h.2, has_stmt inside body h.3)
    has_stmt inside (tree.Continue at label semi) h = tt
    has_stmt inside (tree.Break at label semi) h = tt
    has_stmt inside (tree.Return value semi) h = (h.0, has_option value h.1)
    has_stmt inside (tree.Throw value semi) h = has_expr value h
    has_stmt inside (tree.Switch of cs) h = (has_expr of h.0, subst (λ x. x ≤ 1) (sym (defaults_same cs)) h.1, has_clauses inside cs h.2)
    has_stmt inside (tree.Label name body) h = (statement_same body ∙ h.0, has_stmt inside body h.1)
    has_stmt inside (tree.Try body param handler) h = (has_stmts inside body h.0, has_stmts inside handler h.1)
    has_stmt inside (tree.Declared f) h = (keeps_declaration f h.0, has_function f h.1)

  pub has_params : (a0 : Params) → ProperParams whole a0 → ProperParams whole (hollow_params chosen a0)
  has_params no_params h = tt
  has_params (more_params name value rest ps) h = (has_maybe value h.0, has_params ps h.1)

  has_own : (form : FuncForm) (x : Body) → OwnProper whole form x → OwnProper whole form (hollow_own chosen x)
  has_own form (tree.BracedBody items) h = has_stmts true items h
  has_own form (tree.ShortBody value) h = (h.0, rank_le value h.1, brace_same value ∙ h.2, has_expr value h.3)

  -- a function whose own body stays
  pub has_alone : (x : Function) → ProperAlone whole x → ProperAlone whole (hollow_inside chosen x)
  has_alone (function form start end name ps comma bare body) h = (keeps_params ps comma h.0, keeps_form form ps comma h.1, keeps_bare bare form start ps comma h.2, has_params ps h.3, has_own form body h.4)

  pub is_of : (form : FuncForm) (name : Option Named) (x : Function) → IsOf form name x → IsOf form name (hollow_inside chosen x)
  is_of form name (function f start end who ps comma bare body) h = h
