-- A tree that is proper where bodies are passed over is so with other bodies, which it then keeps.
use Rattle.std.proofs.Common.{◌≡◌, ℕ, zero, suc, ◌≤◌, ◌<◌, refl, sym, ap, ◌∙◌, subst, Bool, true, false}
use Rattle.script_grammar.specs.declared.token.FuncForm.{FuncForm}
use Rattle.script_grammar.specs.declared.token.FuncForm.TheVariants as form
use Rattle.script_grammar.specs.declared.token.mark.TheConstants as mark
use Rattle.script_grammar.specs.declared.token.word.TheConstants as word
use Rattle.script_grammar.specs.Kinds.{no_level, is_mark, is_word}
use Rattle.script_grammar.specs.Tree.{Expr, Exprs, no_exprs, more_exprs, MaybeExpr, no_expr, some_expr, MaybeArgs, no_args, some_args, Parts, no_parts, more_parts, Items, no_items, more_items, Operands, no_operands, more_operands, Tail, Tails, no_tails, more_tails, Key, Prop, Props, no_props, more_props, Function, function, Params, no_params, more_params, Body, Binds, no_binds, more_binds, Init, Each, Clauses, no_clauses, more_clauses, Stmt, Stmts, no_stmts, more_stmts, MaybeStmt, no_stmt, some_stmt}
use Rattle.script_grammar.specs.Tree as tree
use Rattle.script_grammar.specs.Pieces.{whole, passed, begins_with}
use Rattle.script_grammar.specs.Proper.{HasTwo, HasExprs, HasTails, HasOperands, HasProps, HasBinds, AreItems, AreParams, IsBare, BareIf, SuitsForm, IsOneParam, IsFuncExpression, IsDeclaration, IsNamelessOf, ElseIsNearest, is_hole, rank, first_rank, rest_rank, operands_level, begins_brace, begins_function, defaults}
use Rattle.script_grammar.specs.Proper as plain
use Rattle.grammar_parser_laws.proofs.Begins.{begins_same}
use Rattle.grammar_parser_specs.specs.Filling.{fill, fill_exprs, fill_maybe, fill_args, fill_parts, fill_items, fill_operands, fill_tails, fill_tail, fill_key, fill_prop, fill_props, fill_function, fill_params, fill_body, fill_binds, fill_init, fill_each, fill_stmt, fill_stmts, fill_else, fill_clauses}
use Rattle.grammar_local_laws.proofs.FillLaws.{rank_fill, level_fill, callee_fill, free_fill, binds_free_fill, statement_fill, takes_fill, defaults_fill, print_fill}
use Rattle.grammar_local_laws.proofs.PassingLaws.{AreBraced}
use Rattle.grammar_parser_laws.proofs.ProperIn.{Mode, Proper, ProperExprs, ProperMaybe, ProperOption, ProperArgs, ProperParts, ProperItems, ProperOperands, ProperTails, ProperTail, ProperKey, ProperProp, ProperProps, ProperFunction, ProperParams, ProperBody, ProperBinds, ProperInit, ProperEach, ProperClauses, ProperStmts, ProperElse, ProperStmt}

-- bodies are passed over, and each is the one given for where its function starts
abbrev pub passed_mode : (ℕ → Body) → Mode
passed_mode bodies = record { look = passed; keeps = λ start items. bodies start ≡ tree.BracedBody items }

module _ (bodies : ℕ → Body) (braced : AreBraced bodies) where
  pub rank_le : (e : Expr) {n : ℕ} → rank e ≤ n → rank (fill bodies e) ≤ n
  rank_le e {n} h = subst (λ x. x ≤ n) (sym (rank_fill bodies braced e)) h

  rest_fill : (n : ℕ) (os : Operands) → rest_rank n (fill_operands bodies os) ≡ rest_rank n os
  rest_fill zero no_operands = refl
  rest_fill zero (more_operands op is_word value rest) = refl
  rest_fill (suc n) os = refl

  pub brace_fill : (e : Expr) → begins_brace (fill bodies e) ≡ begins_brace e
  brace_fill e = begins_same (is_mark mark.OPEN_BRACE) whole passed 1 1 (fill bodies e) ∙ ap (begins_with (is_mark mark.OPEN_BRACE)) (print_fill bodies braced 1 e) ∙ begins_same (is_mark mark.OPEN_BRACE) passed whole 1 1 e

  function_begin : (e : Expr) → begins_function (fill bodies e) ≡ begins_function e
  function_begin e = begins_same (is_word word.FUNCTION) whole passed 1 1 (fill bodies e) ∙ ap (begins_with (is_word word.FUNCTION)) (print_fill bodies braced 1 e) ∙ begins_same (is_word word.FUNCTION) passed whole 1 1 e

  keeps_two : (es : Exprs) → HasTwo es → HasTwo (fill_exprs bodies es)
  keeps_two no_exprs h = h
  keeps_two (more_exprs e no_exprs) h = h
  keeps_two (more_exprs e (more_exprs f es)) h = h

  keeps_exprs : (es : Exprs) → HasExprs es → HasExprs (fill_exprs bodies es)
  keeps_exprs no_exprs h = h
  keeps_exprs (more_exprs e es) h = h

  keeps_tails : (ts : Tails) → HasTails ts → HasTails (fill_tails bodies ts)
  keeps_tails no_tails h = h
  keeps_tails (more_tails t ts) h = h

  keeps_operands : (os : Operands) → HasOperands os → HasOperands (fill_operands bodies os)
  keeps_operands no_operands h = h
  keeps_operands (more_operands op is_word value rest) h = h

  keeps_props : (ps : Props) → HasProps ps → HasProps (fill_props bodies ps)
  keeps_props no_props h = h
  keeps_props (more_props p ps) h = h

  keeps_binds : (bs : Binds) → HasBinds bs → HasBinds (fill_binds bodies bs)
  keeps_binds no_binds h = h
  keeps_binds (more_binds name value bs) h = h

  keeps_items : (is : Items) (comma : Bool) → AreItems is comma → AreItems (fill_items bodies is) comma
  keeps_items no_items comma h = h
  keeps_items (more_items no_expr no_items) comma h = h
  keeps_items (more_items (some_expr e) no_items) comma h = h
  keeps_items (more_items i (more_items j is)) comma h = keeps_items (more_items j is) comma h

  pub keeps_params : (ps : Params) (comma : Bool) → AreParams ps comma → AreParams (fill_params bodies ps) comma
  keeps_params no_params comma h = h
  keeps_params (more_params name no_expr true no_params) comma h = h
  keeps_params (more_params name (some_expr e) true no_params) comma h = h
  keeps_params (more_params name value false no_params) comma h = h
  keeps_params (more_params name value true (more_params n v r ps)) comma h = absurd h
  keeps_params (more_params name value false (more_params n v r ps)) comma h = keeps_params (more_params n v r ps) comma h

  keeps_one : (ps : Params) (comma : Bool) → IsOneParam ps comma → IsOneParam (fill_params bodies ps) comma
  keeps_one no_params comma h = absurd h
  keeps_one (more_params name value false no_params) comma h = h
  keeps_one (more_params name value true ps) comma h = absurd h
  keeps_one (more_params name value false (more_params n v r ps)) comma h = absurd h

  pub keeps_form : (f : FuncForm) (ps : Params) (comma : Bool) → SuitsForm f ps comma → SuitsForm f (fill_params bodies ps) comma
  keeps_form form.Script ps comma h = absurd h
  keeps_form form.Function ps comma h = h
  keeps_form form.Arrow ps comma h = h
  keeps_form form.Method ps comma h = h
  keeps_form form.Getter ps comma h = (ap (fill_params bodies) h.0, h.1)
  keeps_form form.Setter ps comma h = keeps_one ps comma h

  keeps_lone : (start : ℕ) (ps : Params) (comma : Bool) → IsBare form.Arrow start ps comma → IsBare form.Arrow start (fill_params bodies ps) comma
  keeps_lone start no_params comma h = absurd h
  keeps_lone start (more_params name no_expr false no_params) comma h = h
  keeps_lone start (more_params name (some_expr e) r ps) comma h = absurd h
  keeps_lone start (more_params name no_expr true ps) comma h = absurd h
  keeps_lone start (more_params name no_expr false (more_params n v r ps)) comma h = absurd h

  pub keeps_bare : (b : Bool) (f : FuncForm) (start : ℕ) (ps : Params) (comma : Bool) → BareIf b f start ps comma → BareIf b f start (fill_params bodies ps) comma
  keeps_bare false f start ps comma h = h
  keeps_bare true form.Arrow start ps comma h = keeps_lone start ps comma h
  keeps_bare true form.Script start ps comma h = absurd h
  keeps_bare true form.Function start ps comma h = absurd h
  keeps_bare true form.Method start ps comma h = absurd h
  keeps_bare true form.Getter start ps comma h = absurd h
  keeps_bare true form.Setter start ps comma h = absurd h

  keeps_nameless : (w : FuncForm) (f : Function) → IsNamelessOf w f → IsNamelessOf w (fill_function bodies f)
  keeps_nameless w (function form start end name ps comma bare body) h = h

  keeps_expression : (at : ℕ) (f : Function) → IsFuncExpression at f → IsFuncExpression at (fill_function bodies f)
  keeps_expression at (function form start end name ps comma bare body) h = h

  keeps_declaration : (f : Function) → IsDeclaration f → IsDeclaration (fill_function bodies f)
  keeps_declaration (function form start end name ps comma bare body) h = h

  keeps_nearest : (s : Stmt) (o : MaybeStmt) → ElseIsNearest s o → ElseIsNearest (fill_stmt bodies s) (fill_else bodies o)
  keeps_nearest s no_stmt h = h
  keeps_nearest s (some_stmt t) h = takes_fill bodies braced s ∙ h

  mutual
    pub has_expr : (a0 : Expr) → plain.Proper passed a0 → Proper (passed_mode bodies) (fill bodies a0)
    has_expr (tree.This at) h = tt
    has_expr (tree.Name name) h = tt
    has_expr (tree.Null at) h = tt
    has_expr (tree.True at) h = tt
    has_expr (tree.False at) h = tt
    has_expr (tree.Number at value) h = tt
    has_expr (tree.Str at end w) h = tt
    has_expr (tree.Template at first parts) h = has_parts parts h
    has_expr (tree.Array at is comma) h = (keeps_items is comma h.0, has_items is h.1)
    has_expr (tree.Object at ps comma) h = (λ x. keeps_props ps (h.0 x), has_props ps h.1)
    has_expr (tree.Func at f) h = (keeps_expression at f h.0, has_function f h.1)
    has_expr (tree.Paren at inner) h = has_expr inner h
    has_expr (tree.Chain head tails) h = (rank_le head h.0, has_expr head h.1, keeps_tails tails h.2, has_tails tails h.3)
    has_expr (tree.New at callee args) h = (subst (λ x. rank (fill bodies callee) ≤ x) (sym (callee_fill bodies braced args)) (rank_le callee h.0), has_expr callee h.1, has_args args h.2)
    has_expr (tree.Unary at op of is_word) h = (h.0, rank_le of h.1, has_expr of h.2)
    has_expr (tree.Update at op prefix of) h = (h.0, rank_le of h.1, has_expr of h.2)
    has_expr (tree.Binary first rest) h = (keeps_operands rest h.0, subst (λ x. x < no_level) (sym (level_fill bodies braced rest)) h.1, subst (λ x. rank (fill bodies first) ≤ first_rank x) (sym (level_fill bodies braced rest)) (rank_le first h.2), has_expr first h.3, subst (λ x. ProperOperands (passed_mode bodies) x (fill_operands bodies rest)) (sym (level_fill bodies braced rest)) (has_operands (operands_level rest) rest h.4))
    has_expr (tree.Cond test then_value else_value) h = (rank_le test h.0, has_expr test h.1, rank_le then_value h.2, has_expr then_value h.3, rank_le else_value h.4, has_expr else_value h.5)
    has_expr (tree.Assign op target value) h = (h.0, rank_le target h.1, has_expr target h.2, rank_le value h.3, has_expr value h.4)
    has_expr (tree.Comma es) h = (keeps_two es h.0, has_exprs es h.1)

    pub has_exprs : (a0 : Exprs) → plain.ProperExprs passed a0 → ProperExprs (passed_mode bodies) (fill_exprs bodies a0)
    has_exprs no_exprs h = tt
    has_exprs (more_exprs e es) h = (rank_le e h.0, has_expr e h.1, has_exprs es h.2)

    pub has_maybe : (a0 : MaybeExpr) → plain.ProperMaybe passed a0 → ProperMaybe (passed_mode bodies) (fill_maybe bodies a0)
    has_maybe no_expr h = tt
    has_maybe (some_expr e) h = (rank_le e h.0, has_expr e h.1)

    pub has_option : (a0 : MaybeExpr) → plain.ProperOption passed a0 → ProperOption (passed_mode bodies) (fill_maybe bodies a0)
    has_option no_expr h = tt
    has_option (some_expr e) h = has_expr e h

    pub has_args : (a0 : MaybeArgs) → plain.ProperArgs passed a0 → ProperArgs (passed_mode bodies) (fill_args bodies a0)
    has_args no_args h = tt
    has_args (some_args es comma) h = (λ x. keeps_exprs es (h.0 x), has_exprs es h.1)

    pub has_parts : (a0 : Parts) → plain.ProperParts passed a0 → ProperParts (passed_mode bodies) (fill_parts bodies a0)
    has_parts no_parts h = tt
    has_parts (more_parts value behind rest) h = (has_expr value h.0, has_parts rest h.1)

    pub has_items : (a0 : Items) → plain.ProperItems passed a0 → ProperItems (passed_mode bodies) (fill_items bodies a0)
    has_items no_items h = tt
    has_items (more_items i is) h = (has_maybe i h.0, has_items is h.1)

    pub has_operands : (a0 : ℕ) (a1 : Operands) → plain.ProperOperands passed a0 a1 → ProperOperands (passed_mode bodies) a0 (fill_operands bodies a1)
    has_operands n no_operands h = tt
    has_operands n (more_operands op is_word value rest) h = (h.0, subst (λ x. rank (fill bodies value) ≤ x) (sym (rest_fill n rest)) (rank_le value h.1), has_expr value h.2, has_operands n rest h.3)

    pub has_tails : (a0 : Tails) → plain.ProperTails passed a0 → ProperTails (passed_mode bodies) (fill_tails bodies a0)
    has_tails no_tails h = tt
    has_tails (more_tails t ts) h = (has_tail t h.0, has_tails ts h.1)

    pub has_tail : (a0 : Tail) → plain.ProperTail passed a0 → ProperTail (passed_mode bodies) (fill_tail bodies a0)
    has_tail (tree.Dot w) h = tt
    has_tail (tree.Index e) h = has_expr e h
    has_tail (tree.Call es comma) h = (λ x. keeps_exprs es (h.0 x), has_exprs es h.1)

    pub has_key : (a0 : Key) → plain.ProperKey passed a0 → ProperKey (passed_mode bodies) (fill_key bodies a0)
    has_key (tree.WordKey n) h = tt
    has_key (tree.StrKey n) h = tt
    has_key (tree.NumberKey at value) h = tt
    has_key (tree.ComputedKey e) h = (rank_le e h.0, has_expr e h.1)

    pub has_prop : (a0 : Prop) → plain.ProperProp passed a0 → ProperProp (passed_mode bodies) (fill_prop bodies a0)
    has_prop (tree.Short n) h = tt
    has_prop (tree.Pair key value) h = (has_key key h.0, rank_le value h.1, has_expr value h.2)
    has_prop (tree.Method key f) h = (has_key key h.0, keeps_nameless form.Method f h.1, has_function f h.2)
    has_prop (tree.Get key f) h = (has_key key h.0, keeps_nameless form.Getter f h.1, has_function f h.2)
    has_prop (tree.Set key f) h = (has_key key h.0, keeps_nameless form.Setter f h.1, has_function f h.2)

    pub has_props : (a0 : Props) → plain.ProperProps passed a0 → ProperProps (passed_mode bodies) (fill_props bodies a0)
    has_props no_props h = tt
    has_props (more_props p ps) h = (has_prop p h.0, has_props ps h.1)

    pub has_function : (a0 : Function) → plain.ProperFunction passed a0 → ProperFunction (passed_mode bodies) (fill_function bodies a0)
    has_function (function form start end name ps comma bare body) h = (keeps_params ps comma h.0, keeps_form form ps comma h.1, keeps_bare bare form start ps comma h.2, has_params ps h.3, has_body form start body h.4)

    pub has_params : (a0 : Params) → plain.ProperParams passed a0 → ProperParams (passed_mode bodies) (fill_params bodies a0)
    has_params no_params h = tt
    has_params (more_params name value rest ps) h = (has_maybe value h.0, has_params ps h.1)

    pub has_body : (a0 : FuncForm) (a1 : ℕ) (a2 : Body) → plain.ProperBody passed a0 a2 → ProperBody (passed_mode bodies) a0 a1 (fill_body bodies a1 a2)
    has_body form start (tree.BracedBody items) h = subst (ProperBody (passed_mode bodies) form start) (sym (braced.are start)) (tt, braced.are start)
    has_body form start (tree.ShortBody value) h = (h.0, rank_le value h.1, brace_fill value ∙ h.2, has_expr value h.3)

    pub has_binds : (a0 : Binds) → plain.ProperBinds passed a0 → ProperBinds (passed_mode bodies) (fill_binds bodies a0)
    has_binds no_binds h = tt
    has_binds (more_binds name value bs) h = (has_maybe value h.0, has_binds bs h.1)

    pub has_init : (a0 : Init) → plain.ProperInit passed a0 → ProperInit (passed_mode bodies) (fill_init bodies a0)
    has_init tree.NoInit h = tt
    has_init (tree.ValueInit e) h = (free_fill bodies braced e ∙ h.0, has_expr e h.1)
    has_init (tree.BindsInit decl bs) h = (keeps_binds bs h.0, binds_free_fill bodies braced bs ∙ h.1, has_binds bs h.2)

    pub has_each : (a0 : Each) → plain.ProperEach passed a0 → ProperEach (passed_mode bodies) (fill_each bodies a0)
    has_each (tree.TargetEach e) h = (rank_le e h.0, has_expr e h.1)
    has_each (tree.BindEach decl name) h = tt

    pub has_clauses : (a0 : Bool) (a1 : Clauses) → plain.ProperClauses passed a0 a1 → ProperClauses (passed_mode bodies) a0 (fill_clauses bodies a1)
    has_clauses inside no_clauses h = tt
    has_clauses inside (more_clauses test items cs) h = (has_option test h.0, has_stmts inside items h.1, has_clauses inside cs h.2)

    pub has_stmts : (a0 : Bool) (a1 : Stmts) → plain.ProperStmts passed a0 a1 → ProperStmts (passed_mode bodies) a0 (fill_stmts bodies a1)
    has_stmts inside no_stmts h = tt
    has_stmts inside (more_stmts s ss) h = (has_stmt inside s h.0, has_stmts inside ss h.1)

    pub has_else : (a0 : Bool) (a1 : MaybeStmt) → plain.ProperElse passed a0 a1 → ProperElse (passed_mode bodies) a0 (fill_else bodies a1)
    has_else inside no_stmt h = tt
    has_else inside (some_stmt s) h = (statement_fill bodies braced s ∙ h.0, has_stmt inside s h.1)

    pub has_stmt : (a0 : Bool) (a1 : Stmt) → plain.ProperStmt passed a0 a1 → ProperStmt (passed_mode bodies) a0 (fill_stmt bodies a1)
    has_stmt inside (tree.Block items) h = has_stmts inside items h
    has_stmt inside tree.Empty h = tt
    has_stmt inside (tree.Debugger semi) h = tt
    has_stmt inside (tree.Binding decl bs semi) h = (keeps_binds bs h.0, has_binds bs h.1)
    has_stmt inside (tree.Value e semi) h = (brace_fill e ∙ h.0, function_begin e ∙ h.1, has_expr e h.2)
    has_stmt inside (tree.If test then_stmt else_stmt) h = (has_expr test h.0, statement_fill bodies braced then_stmt ∙ h.1, has_stmt inside then_stmt h.2, keeps_nearest then_stmt else_stmt h.3, has_else inside else_stmt h.4)
    has_stmt inside (tree.Do body test semi) h = (statement_fill bodies braced body ∙ h.0, has_stmt inside body h.1, has_expr test h.2)
    has_stmt inside (tree.While test body) h = (has_expr test h.0, statement_fill bodies braced body ∙ h.1, has_stmt inside body h.2)
    has_stmt inside (tree.For init test update body) h = (has_init init h.0, has_option test h.1, has_option update h.2, statement_fill bodies braced body ∙ h.3, has_stmt inside body h.4)
    has_stmt inside (tree.ForIn each over body) h = (has_each each h.0, has_expr over h.1, statement_fill bodies braced body ∙ h.2, has_stmt inside body h.3)
    has_stmt inside (tree.Continue at label semi) h = tt
    has_stmt inside (tree.Break at label semi) h = tt
    has_stmt inside (tree.Return value semi) h = (h.0, has_option value h.1)
    has_stmt inside (tree.Throw value semi) h = has_expr value h
    has_stmt inside (tree.Switch of cs) h = (has_expr of h.0, subst (λ x. x ≤ 1) (sym (defaults_fill bodies braced cs)) h.1, has_clauses inside cs h.2)
    has_stmt inside (tree.Label name body) h = (statement_fill bodies braced body ∙ h.0, has_stmt inside body h.1)
    has_stmt inside (tree.Try body param handler) h = (has_stmts inside body h.0, has_stmts inside handler h.1)
    has_stmt inside (tree.Declared f) h = (keeps_declaration f h.0, has_function f h.1)
