-- Bodies, put together from what was appended.
use Rattle.std.proofs.Common.{◌≡◌, ℕ, ◌+◌, ◌<◌, ◌^◌, Bool, true, false, if◌then◌else◌, List, [], ◌∷◌, ◌++◌, Some, None, refl, sym, ◌∙◌, ap, ap₂, subst, add-zero, zero-add, arith, true≢false}
use Rattle.std.specs.declared.alloc.Global.{Global}
use Rattle.std.specs.declared.boxed.Box.{Box}
use Rattle.std.specs.declared.vec.Vec.{Vec}
use Rattle.script_grammar.specs.declared.tree.Expr.{Expr}
use Rattle.script_grammar.specs.declared.tree.FuncBody.{FuncBody}
use Rattle.script_grammar.specs.declared.tree.FuncBody.TheVariants as in_body
use Rattle.script_grammar.specs.declared.tree.Param.{Param}
use Rattle.script_grammar.specs.declared.tree.Stmt.{Stmt}
use Rattle.script_grammar.specs.Tree.{Body, BracedBody, ShortBody, Stmts}
use Rattle.script_grammar.specs.TreeOf.{body_of, expr_of}
use Rattle.script_grammar.proofs.StmtEquations.{body_of-Braced, body_of-Short, body_of-Passed}
use Rattle.stencil_data.specs.declared.scopes.Binding.{Binding}
use Rattle.stencil_data.specs.declared.scopes.ScopeKind.{ScopeKind}
use Rattle.stencil_data.specs.declared.scopes.ScopeKind.TheVariants as scope
use Rattle.stencil_data.specs.declared.chains.LinkName.{LinkName}
use Rattle.stencil_data.specs.declared.stencils.TryNote.{TryNote}
use Rattle.stencil_data.specs.LinkView.{LinkView}
use Rattle.stencil_data.specs.Named.{NamedScope}
use Rattle.stencil_data.specs.Resolve.{resolve, resolve_beyond, environments_of, is_global}
use Rattle.stencil_data.specs.StandsFor.{named_bindings, link_of}
use Rattle.scope_analysis.specs.DeclaredNames.{Declaration, Text, has_initializer, param_names}
use Rattle.scope_analysis.specs.Kept.{under}
use Rattle.scope_analysis.specs.Scopes.{body_var_names, scope_count}
use Rattle.scope_analysis.proofs.FunctionScopes.{same_some}
use Rattle.bytecode_buf.specs.declared.opcode.Op.TheVariants as op
use Rattle.bytecode_buf.specs.declared.waits.Wait.{Wait}
use Rattle.bytecode_buf.specs.Appends.{Appends, Emitted}
use Rattle.bytecode_buf.specs.Emits.{emitted}
use Rattle.bytecode_buf.specs.Pieces.{Code}
use Rattle.bytecode_buf.proofs.AppendLemmas.{appends_none, appends_both}
use Rattle.emit_exprs.specs.declared.uses.Use.TheVariants.{Plainly}
use Rattle.emit_exprs.specs.Sites.{EmitsAt}
use Rattle.emit_exprs.specs.TreeCode.{ExprEmits}
use Rattle.emit_exprs.specs.Whole.{just}
use Rattle.emit_stmts.specs.declared.stmt_context.StmtContext.{StmtContext}
use Rattle.emit_stmts.specs.Declares.{declares}
use Rattle.emit_stmts.specs.Frames.{scope_at, chain_link, global_link, has_env}
use Rattle.emit_stmts.specs.Functions.{copies_code, body_code, body_setting, body_vars_code, body_base}
use Rattle.emit_stmts.specs.Positions.{Position, position_of}
use Rattle.emit_stmts.specs.Scoping.{scope_in}
use Rattle.emit_stmts.specs.Stmts.{push_env}
use Rattle.emit_stmts.proofs.Scoped.{count_some, count_none}
use Rattle.emit_functions.specs.BodyCode.{at_body, stmts_under, is_body_var, entered_code, VarsEntered, BodyStands, BracedWritten, BodyWritten}
use Rattle.emit_functions.specs.CopyCode.{Passes, CopiesEmit}
use Rattle.emit_functions.specs.ParamCode.{params_under}
use Rattle.emit_functions.specs.TopCode.{TopFits, TopWritten, top_count, top_code}

-- ---- the scope of the var names

not_global : (kind : ScopeKind) → is_body_var kind ≡ true → is_global kind ≡ false
not_global scope.Global is = absurd (true≢false (sym is))
not_global scope.Function is = refl
not_global scope.FunctionLexical is = refl
not_global scope.Lexical is = refl
not_global scope.SimpleCatch is = refl
not_global scope.StrictNamedLambda is = refl
not_global scope.FunctionBodyVar is = refl

-- the chain without the names of this scope is passed as the scope itself
pub passes : (s : NamedScope) (outer chain : List LinkView) → is_body_var s.kind ≡ true → chain ≡ record { kind = scope.FunctionBodyVar; env = has_env s; names = [] } ∷ outer → Passes chain (environments_of (chain_link s)) outer
passes s outer chain is chain_is = record {
  same = λ name.
      ap (λ (c : List LinkView). resolve c name) chain_is
      ∙ (ap (λ (k : ℕ). resolve_beyond k outer name) (zero-add (if has_env s then 1 else 0))
      ∙ ap (λ (b : Bool). resolve_beyond (environments_of (if b then global_link else link_of s)) outer name) (sym (not_global s.kind is)));
}

pub vars_entered : {a b c : List ℕ} (s inside : StmtContext) (number : ℕ) (ps : List Param) (chain passing : List LinkView) (bindings : List Binding)
    → is_body_var (scope_in s number).kind ≡ true
    → EmitsAt s.exprs a b (push_env op.PushVarEnv (scope_in s number) number)
    → chain ≡ chain_link (scope_in s number) ∷ s.exprs.chain.now
    → passing ≡ record { kind = scope.FunctionBodyVar; env = has_env (scope_in s number); names = [] } ∷ s.exprs.chain.now
    → position_of inside ≡ at_body chain (position_of s)
    → named_bindings s.exprs.texts.now bindings ≡ (scope_in s number).bindings
    → ((hops : ℕ) (outer : List LinkView) → Passes passing hops outer → CopiesEmit inside.exprs hops outer b c ps bindings)
    → VarsEntered s a c number ps
vars_entered {a} {b} {c} s inside number ps chain passing bindings is push chain_is passing_is at names copied = record {
  made = record {
    written = push_env op.PushVarEnv (scope_in s number) number ++ copies.made.written;
    emits = record {
      anywhere = λ ws ns.
          appends_both (push.anywhere ws ns)
          (subst (λ (p : Position). Appends p.texts (emitted b ws ns) (emitted c ws ns) copies.made.written) at (copies.made.emits.anywhere ws ns));
    };
    is = λ bodies f. ap (λ (x : Code). push_env op.PushVarEnv (scope_in s number) number ++ x)
        (copies.made.is bodies tt
        ∙ (ap (λ (p : Position). code bodies p bindings) at
        ∙ ap₂ (λ (ch : List LinkView) (bs : List LinkName). copies_code (record { chain = ch; starts = (position_of s).starts }) s.exprs.chain.now hops (param_names (params_under s.exprs.texts.now bodies ps)) bs) chain_is names));
  };
}
  where
    hops : ℕ
    hops = environments_of (chain_link (scope_in s number))

    copies : CopiesEmit inside.exprs hops s.exprs.chain.now b c ps bindings
    copies = copied hops s.exprs.chain.now (passes (scope_in s number) s.exprs.chain.now passing is passing_is)

    code : (ℕ → Stmts) → Position → List Binding → Code
    code bodies p bs = copies_code (record { chain = p.chain; starts = p.starts }) s.exprs.chain.now hops (param_names (params_under p.texts bodies ps)) (named_bindings p.texts bs)

-- ---- bodies in braces

-- where the var names have a scope
with_vars : (scopes : List NamedScope) (starts : List ℕ) (params : List Text) (number : ℕ) (base : List LinkView) (vars : List Declaration) (rest : List LinkView → ℕ → Code) → declares vars ≡ true
    → body_vars_code scopes starts vars params number base ++ rest (body_base scopes vars number base) (number + scope_count vars) ++ just op.RetRval
    ≡ entered_code scopes starts params number base ++ rest (chain_link (scope_at scopes number) ∷ base) (number + 1) ++ just op.RetRval
with_vars scopes starts params number base [] rest some = absurd (true≢false (sym some))
with_vars scopes starts params number base (d ∷ ds) rest some = refl

without_vars : (scopes : List NamedScope) (starts : List ℕ) (params : List Text) (number : ℕ) (base : List LinkView) (vars : List Declaration) (rest : List LinkView → ℕ → Code) → declares vars ≡ false
    → body_vars_code scopes starts vars params number base ++ rest (body_base scopes vars number base) (number + scope_count vars) ++ just op.RetRval
    ≡ rest base number ++ just op.RetRval
without_vars scopes starts params number base [] rest none = ap (λ (n : ℕ). rest base n ++ just op.RetRval) (add-zero number)
without_vars scopes starts params number base (d ∷ ds) rest none = absurd (true≢false none)

-- at the top of a body
record TopMade (p : Position) (old new : Emitted) (number : ℕ) (chain : List LinkView) (items : List Stmt) : Type 0 where
  pub written : Code
  pub appends : Appends p.texts old new written
  pub is : (bodies : ℕ → Stmts) → TopFits 4997 0 (stmts_under p.texts bodies items) → number + top_count (stmts_under p.texts bodies items) < 2 ^ 64
      → written ≡ top_code (body_setting p.scopes p.starts chain) (stmts_under p.texts bodies items) number []

top_made : {p q : Position} {old new : Emitted} {number next : ℕ} (chain : List LinkView) (items : List Stmt) → q ≡ at_body chain p → TopWritten q old new number next items → TopMade p old new number chain items
top_made {p} {q} {old} {new} {number} {next} chain items at x =
    let y = subst (λ (r : Position). TopWritten r old new number next items) at x in
    record {
      written = y.code.written;
      appends = y.code.appends;
      is = λ bodies fits small. y.code.is (record { bodies = bodies; base = chain }) (record { chain = refl }) fits small;
    }

pub braced_vars : {a b c d : List ℕ} {ws ws_new : List Wait} {ns ns_in ns_new : List TryNote} {number j l : ℕ} (s inside : StmtContext) (ps : List Param) (items : List Stmt)
    → is_body_var (scope_in s number).kind ≡ true → VarsEntered s a b number ps → ns_in ≡ ns → (number + 1 < 2 ^ 64 → j ≡ number + 1)
    → position_of inside ≡ at_body (chain_link (scope_in s number) ∷ s.exprs.chain.now) (position_of s)
    → TopWritten (position_of inside) (emitted b ws ns_in) (emitted c ws_new ns_new) j l items → EmitsAt s.exprs c d (just op.RetRval)
    → BracedWritten (position_of s) (emitted a ws ns) (emitted d ws_new ns_new) number ps items
braced_vars {a} {b} {c} {d} {ws} {ws_new} {ns} {ns_in} {ns_new} {number} {j} {l} s inside ps items is_one entered same next at x end = record {
  written = entered.made.written ++ top.written ++ just op.RetRval;
  appends = appends_both
      (appends_both (entered.made.emits.anywhere ws ns) (subst (λ (n : List TryNote). Appends s.exprs.texts.now (emitted b ws n) (emitted c ws_new ns_new) top.written) same top.appends))
      (end.anywhere ws_new ns_new);
  is = λ bodies stands.
      let m : Stmts = stmts_under s.exprs.texts.now bodies items in
      let initialized : Bool = has_initializer (params_under s.exprs.texts.now bodies ps) in
      let some : declares (body_var_names initialized m) ≡ true = sym stands.vars ∙ is_one in
      let one : scope_count (body_var_names initialized m) ≡ 1 = count_some (body_var_names initialized m) some in
      let small : number + 1 + top_count m < 2 ^ 64 = omega (arith, stands.numbered, one) in
      let next_is : j ≡ number + 1 = next (omega (arith, small)) in
      ap₂ (λ (u : Code) (v : Code). u ++ v ++ just op.RetRval) (entered.made.is bodies tt)
      (top.is bodies stands.fit (subst (λ (n : ℕ). n + top_count m < 2 ^ 64) (sym next_is) small) ∙ ap (λ (n : ℕ). top_code (body_setting (position_of s).scopes (position_of s).starts base) m n []) next_is)
      ∙ sym (with_vars (position_of s).scopes (position_of s).starts (param_names (params_under s.exprs.texts.now bodies ps)) number s.exprs.chain.now (body_var_names initialized m) (λ chain n. top_code (body_setting (position_of s).scopes (position_of s).starts chain) m n []) some);
}
  where
    base : List LinkView
    base = chain_link (scope_in s number) ∷ s.exprs.chain.now

    top : TopMade (position_of s) (emitted b ws ns_in) (emitted c ws_new ns_new) j base items
    top = top_made base items at x

pub braced_plain : {a b c : List ℕ} {ws ws_new : List Wait} {ns ns_new : List TryNote} {number l : ℕ} (s inside : StmtContext) (ps : List Param) (items : List Stmt)
    → is_body_var (scope_in s number).kind ≡ false
    → position_of inside ≡ at_body s.exprs.chain.now (position_of s)
    → TopWritten (position_of inside) (emitted a ws ns) (emitted b ws_new ns_new) number l items → EmitsAt s.exprs b c (just op.RetRval)
    → BracedWritten (position_of s) (emitted a ws ns) (emitted c ws_new ns_new) number ps items
braced_plain {a} {b} {ws = ws} {ws_new} {ns} {ns_new} {number} s inside ps items is_none at x end = record {
  written = top.written ++ just op.RetRval;
  appends = appends_both top.appends (end.anywhere ws_new ns_new);
  is = λ bodies stands.
      let m : Stmts = stmts_under s.exprs.texts.now bodies items in
      let initialized : Bool = has_initializer (params_under s.exprs.texts.now bodies ps) in
      let none : declares (body_var_names initialized m) ≡ false = sym stands.vars ∙ is_none in
      ap (λ (v : Code). v ++ just op.RetRval) (top.is bodies stands.fit (omega (arith, stands.numbered, count_none (body_var_names initialized m) none)))
      ∙ sym (without_vars (position_of s).scopes (position_of s).starts (param_names (params_under s.exprs.texts.now bodies ps)) number s.exprs.chain.now (body_var_names initialized m) (λ chain n. top_code (body_setting (position_of s).scopes (position_of s).starts chain) m n []) none);
}
  where
    top : TopMade (position_of s) (emitted a ws ns) (emitted b ws_new ns_new) number s.exprs.chain.now items
    top = top_made s.exprs.chain.now items at x

-- ---- any body

abbrev code_at : Position → ℕ → List Param → (ℕ → Stmts) → Body → Code
code_at p number ps bodies body = body_code p.scopes p.starts (has_initializer (params_under p.texts bodies ps)) (param_names (params_under p.texts bodies ps)) body number p.chain

-- the body that was read is this one of the model
body_at : {p : Position} {old new : Emitted} {number : ℕ} {ps : List Param} (b : FuncBody) (m : (ℕ → Stmts) → Body) (written : Code) → ((bodies : ℕ → Stmts) → body_of (under p.texts bodies) b ≡ Some (m bodies)) → Appends p.texts old new written
    → ((bodies : ℕ → Stmts) → BodyStands p.scopes number (has_initializer (params_under p.texts bodies ps)) (m bodies) → written ≡ code_at p number ps bodies (m bodies)) → BodyWritten p old new number ps b
body_at {p} {number = number} {ps} b m written is appends same = record {
  written = written;
  appends = appends;
  is = λ bodies body has stands.
      let both : m bodies ≡ body = same_some (m bodies) body (sym (is bodies) ∙ has) in
      same bodies (subst (λ (x : Body). BodyStands p.scopes number (has_initializer (params_under p.texts bodies ps)) x) (sym both) stands) ∙ ap (code_at p number ps bodies) both;
}

pub body_braced : {p : Position} {old new : Emitted} {number : ℕ} {ps : List Param} (b : FuncBody) (items : Vec Stmt Global) (ss : List Stmt) → b ≡ in_body.Braced items → ss ≡ items.items → BracedWritten p old new number ps ss → BodyWritten p old new number ps b
body_braced {p} b items ss is ss_is x =
    body_at b (λ bodies. BracedBody (stmts_under p.texts bodies ss)) x.written
    (λ bodies. ap (body_of (under p.texts bodies)) is ∙ (body_of-Braced (under p.texts bodies) items ∙ ap (λ (l : List Stmt). Some (BracedBody (stmts_under p.texts bodies l))) (sym ss_is)))
    x.appends x.is

pub body_short : {a b c : List ℕ} {number : ℕ} (s : StmtContext) (ps : List Param) (body : FuncBody) (value : Box Expr Global) (e : Expr) (ws : List Wait) (ns : List TryNote) → body ≡ in_body.Short value → e ≡ value.value → ExprEmits s.exprs a b Plainly e → EmitsAt s.exprs b c (just op.Return)
    → BodyWritten (position_of s) (emitted a ws ns) (emitted c ws ns) number ps body
body_short s ps body value e ws ns is e_is x end =
    body_at body (λ bodies. ShortBody (expr_of (under s.exprs.texts.now bodies) e)) (x.row.code.written ++ just op.Return)
    (λ bodies. ap (body_of (under s.exprs.texts.now bodies)) is ∙ (body_of-Short (under s.exprs.texts.now bodies) value ∙ ap (λ (v : Expr). Some (ShortBody (expr_of (under s.exprs.texts.now bodies) v))) (sym e_is)))
    (appends_both (x.row.code.emits.anywhere ws ns) (end.anywhere ws ns))
    (λ bodies stands. ap (λ (v : Code). v ++ just op.Return) (x.row.code.is bodies stands.fit))

-- nothing is said of a body that was passed over
pub body_passed : (p : Position) (now : Emitted) (number : ℕ) (ps : List Param) (b : FuncBody) → b ≡ in_body.Passed → BodyWritten p now now number ps b
body_passed p now number ps b is = record {
  written = [];
  appends = appends_none p.texts now;
  is = λ bodies body has stands. let none : None ≡ Some body = sym (body_of-Passed (under p.texts bodies)) ∙ (sym (ap (body_of (under p.texts bodies)) is) ∙ has) in absurd cc;
}
