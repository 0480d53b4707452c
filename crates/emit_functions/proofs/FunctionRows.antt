-- The code of a function, and the stencil that holds it.
use Rattle.std.proofs.Common.{◌≡◌, ℕ, suc, ◌+◌, ◌<◌, ◌^◌, Bool, true, false, List, [], ◌∷◌, ◌++◌, map, length, Option, option_map, unwrap_or, refl, sym, ◌∙◌, ap, ap₂, subst, arith, true≢false}
use Rattle.std.proofs.lemmas.List.{length-map}
use Rattle.script_grammar.specs.declared.tree.Func.{Func, out-Func}
use Rattle.script_grammar.specs.declared.tree.Param.{Param}
use Rattle.script_grammar.specs.Interpretation.{Interpretation, maybe_named}
use Rattle.script_grammar.specs.Tree.{Function, function, Body, BracedBody, Params, Stmts}
use Rattle.script_grammar.specs.TreeLists as part
use Rattle.script_grammar.specs.TreeLists.{params_of}
use Rattle.script_grammar.specs.TreeOf.{func_of, param_of}
use Rattle.script_grammar.proofs.PartEquations.{func_of-fields}
use Rattle.stencil_data.specs.declared.functions.Extent.{Extent}
use Rattle.stencil_data.specs.declared.functions.FuncKind.{FuncKind}
use Rattle.stencil_data.specs.declared.scopes.Binding.{Binding}
use Rattle.stencil_data.specs.declared.chains.LinkName.{LinkName}
use Rattle.stencil_data.specs.declared.stencils.TryNote.{TryNote}
use Rattle.stencil_data.specs.LinkView.{LinkView}
use Rattle.stencil_data.specs.Named.{NamedScope}
use Rattle.stencil_data.specs.StandsFor.{named_scope, named_bindings, text_at}
use Rattle.stencil_data.specs.Views.{ScopeView}
use Rattle.scope_analysis.specs.DeclaredNames.{Declaration, Text, has_initializer, param_names}
use Rattle.scope_analysis.specs.FunctionTree.{HasBody}
use Rattle.scope_analysis.specs.Functions.{Inner, inner_function}
use Rattle.scope_analysis.specs.Kept.{under}
use Rattle.scope_analysis.specs.Scopes.{callee_names, function_scopes, scope_count}
use Rattle.bytecode_buf.specs.declared.waits.Wait.{Wait}
use Rattle.bytecode_buf.specs.Appends.{Emitted}
use Rattle.bytecode_buf.specs.Command.{ShowsCommands}
use Rattle.bytecode_buf.specs.Emits.{emitted}
use Rattle.bytecode_buf.specs.Pieces.{Code, settled, notes}
use Rattle.bytecode_buf.proofs.AppendLemmas.{appends_both}
use Rattle.emit_exprs.specs.Sites.{EmitsAt, scene_of}
use Rattle.emit_stmts.specs.declared.stmt_context.StmtContext.{StmtContext}
use Rattle.emit_stmts.specs.Declares.{declares}
use Rattle.emit_stmts.specs.Frames.{scope_at, chain_link}
use Rattle.emit_stmts.specs.Functions.{specials_code, params_code, body_code, params_base, code_in, start_of, extent_of, starts_of, extents_of, count_of, function_code, function_script}
use Rattle.emit_stmts.specs.Functions as defined
use Rattle.emit_stmts.specs.Positions.{Position, position_of}
use Rattle.emit_stmts.specs.Scoping.{scope_in}
use Rattle.emit_stmts.proofs.Finished.{finished_code, finished_notes}
use Rattle.emit_stmts.proofs.Scoped.{count_some, count_none}
use Rattle.emit_functions.specs.BodyCode.{BodyStands, BodyWritten, at_body, is_body_var, has_vars}
use Rattle.emit_functions.specs.FunctionCode.{whole_code, FunctionWritten, FunctionMade, FunctionFits, scopes_in, Drafted, IsFunctionStencil}
use Rattle.emit_functions.specs.ParamCode.{ParamsEmit, ParamsFit, params_under}
use Rattle.emit_functions.proofs.VarScopes.{vars_scope}

-- ---- the code

pub function_row : {a b c : List ℕ} {ws : List Wait} {ns : List TryNote} {new : Emitted} {number next : ℕ} (s : StmtContext) (f : Func) (bindings : List Binding) (ps qs : List Param)
    → named_bindings s.exprs.texts.now bindings ≡ (scope_in s number).bindings → ps ≡ (out-Func f).params.items → qs ≡ (out-Func f).params.items → next ≡ number + 1
    → EmitsAt s.exprs a b (specials_code (scene_of s.exprs) (named_bindings s.exprs.texts.now bindings))
    → ParamsEmit s.exprs b c ps
    → BodyWritten (position_of s) (emitted c ws ns) new next qs (out-Func f).body
    → FunctionWritten (position_of s) (emitted a ws ns) new number f
function_row {ws = ws} {ns} {number = number} {next} s f bindings ps qs names ps_are qs_are next_is x y z = record {
  written = specials_code (scene_of s.exprs) (named_bindings s.exprs.texts.now bindings) ++ y.made.written ++ z.written;
  appends = appends_both (appends_both (x.anywhere ws ns) (y.made.emits.anywhere ws ns)) z.appends;
  is = λ bodies body has fits stands.
      ap₂ (λ (u : List LinkName) (v : Code). specials_code (scene_of s.exprs) u ++ v ++ z.written) names
      (y.made.is bodies (subst (λ (l : List Param). ParamsFit (under_site bodies l)) (sym ps_are) fits) ∙ ap (λ (l : List Param). params_code (scene_of s.exprs) (under_site bodies l)) ps_are)
      ∙ ap (λ (v : Code). specials_code (scene_of s.exprs) (scope_in s number).bindings ++ params_code (scene_of s.exprs) (under_site bodies (out-Func f).params.items) ++ v)
      (z.is bodies body has (subst (λ (l : List Param). BodyStands (position_of s).scopes next (has_initializer (under_site bodies l)) body) (sym qs_are) (subst (λ (n : ℕ). BodyStands (position_of s).scopes n (has_initializer (under_site bodies (out-Func f).params.items)) body) (sym next_is) stands))
      ∙ ap₂ (λ (l : List Param) (n : ℕ). body_code (position_of s).scopes (position_of s).starts (has_initializer (under_site bodies l)) (param_names (under_site bodies l)) body n s.exprs.chain.now) qs_are next_is);
}
  where
    under_site : (ℕ → Stmts) → List Param → Params
    under_site bodies l = params_under s.exprs.texts.now bodies l

-- code that was made from nothing
pub function_made : {bytes first : List ℕ} {ws first_waits : List Wait} {ns first_notes : List TryNote} {number : ℕ} (s inside : StmtContext) (f : Func) (chain : List LinkView)
    → first ≡ [] → first_waits ≡ [] → first_notes ≡ []
    → position_of inside ≡ at_body chain (position_of s) → chain ≡ chain_link (scope_in s number) ∷ s.exprs.chain.now
    → FunctionWritten (position_of inside) (emitted first first_waits first_notes) (emitted bytes ws ns) number f → FunctionMade (position_of s) bytes ns number f
function_made {bytes} {first} {ws} {first_waits} {ns} {first_notes} {number} s inside f chain no_bytes no_waits no_notes at chain_is x = record {
  waits = ws;
  made =
      subst (λ (p : Position). FunctionWritten p (emitted [] [] []) (emitted bytes ws ns) number f) (at ∙ ap (λ (c : List LinkView). at_body c (position_of s)) chain_is)
      (subst (λ (o : Emitted). FunctionWritten (position_of inside) o (emitted bytes ws ns) number f)
      (ap₂ (λ (b : List ℕ) (v : List Wait). emitted b v first_notes) no_bytes no_waits ∙ ap (emitted [] []) no_notes) x);
}

-- ---- a function by the fields of the code's own

tree_is : (i : Interpretation) (f : Func) (body : Body) → HasBody i f body
    → func_of i f ≡ function (out-Func f).form (out-Func f).start (out-Func f).end (maybe_named i (out-Func f).name) (params_of (map (param_of i) (out-Func f).params.items)) (out-Func f).comma (out-Func f).bare body
tree_is i f body has =
    func_of-fields i f
    ∙ ap (λ (o : Option Body). function (out-Func f).form (out-Func f).start (out-Func f).end (maybe_named i (out-Func f).name) (params_of (map (param_of i) (out-Func f).params.items)) (out-Func f).comma (out-Func f).bare (unwrap_or o (BracedBody (i.bodies (out-Func f).start)))) has

start_is : (f : Function) → (extent_of f).start ≡ start_of f
start_is (function _ start end _ _ _ _ _) = refl

starts_are : (is : List Inner) → map (λ (e : Extent). e.start) (extents_of is) ≡ starts_of is
starts_are [] = refl
starts_are (i ∷ is) = ap₂ (λ (n : ℕ) (l : List ℕ). n ∷ l) (start_is i.func) (starts_are is)

-- ---- the scopes around the parameters

base_some : (scopes : List NamedScope) (callee : List Declaration) (outer : List LinkView) → declares callee ≡ true → chain_link (scope_at scopes 1) ∷ chain_link (scope_at scopes 0) ∷ outer ≡ params_base scopes callee outer
base_some scopes [] outer some = absurd (true≢false (sym some))
base_some scopes (d ∷ ds) outer some = refl

base_none : (scopes : List NamedScope) (callee : List Declaration) (outer : List LinkView) → declares callee ≡ false → chain_link (scope_at scopes 0) ∷ outer ≡ params_base scopes callee outer
base_none scopes [] outer none = refl
base_none scopes (d ∷ ds) outer none = absurd (true≢false none)

-- outside a function with these scopes
abbrev pub outside : List (List ℕ) → List ScopeView → List Extent → List LinkView → Position
outside texts scopes inner chain = record {
  texts = texts;
  chain = chain;
  starts = map (λ (e : Extent). e.start) inner;
  scopes = map (named_scope texts) scopes;
  is_script = false;
  frames = [];
  room = 4997;
}

-- ---- the code is the function's

drafted : {bytes : List ℕ} {ws : List Wait} {ns : List TryNote} {number : ℕ} (texts : List (List ℕ)) (kind : FuncKind) (name : Option ℕ) (scopes : List ScopeView) (inner : List Extent) (chain : List LinkView) (f : Func)
    → number ≡ scope_count (callee_names kind (option_map (text_at texts) name))
    → FunctionWritten (at_body (params_base (map (named_scope texts) scopes) (callee_names kind (option_map (text_at texts) name)) chain) (outside texts scopes inner chain)) (emitted [] [] []) (emitted bytes ws ns) number f
    → Drafted texts kind name scopes inner chain f bytes ns
drafted {bytes} {ws} {ns} {number} texts kind name scopes inner chain f number_is x bodies body has belongs = record {
  code = subst (λ (c : Code). ShowsCommands texts bytes (settled c)) same (finished_code x.appends);
  notes_are = finished_notes x.appends ∙ ap notes same;
}
  where
    i : Interpretation
    i = under texts bodies

    ps : Params
    ps = params_under texts bodies (out-Func f).params.items

    named : Option Text
    named = option_map (text_at texts) name

    callee : List Declaration
    callee = callee_names kind named

    tree : Function
    tree = function (out-Func f).form (out-Func f).start (out-Func f).end (maybe_named i (out-Func f).name) ps (out-Func f).comma (out-Func f).bare body

    tree_same : func_of i f ≡ tree
    tree_same = tree_is i f body has

    all : List NamedScope
    all = map (named_scope texts) scopes

    starts : List ℕ
    starts = map (λ (e : Extent). e.start) inner

    fits : FunctionFits tree
    fits = subst FunctionFits tree_same belongs.fit

    numbered : scopes_in kind named tree < 2 ^ 64
    numbered = subst (λ (t : Function). scopes_in kind named t < 2 ^ 64) tree_same belongs.numbered

    vars : is_body_var (scope_at all (number + 1)).kind ≡ has_vars (has_initializer ps) body
    vars = ap₂ (λ (ss : List NamedScope) (n : ℕ). is_body_var (scope_at ss (n + 1)).kind) (belongs.scopes_are.are ∙ ap (function_scopes kind named) tree_same) number_is ∙ vars_scope kind named tree

    stands : BodyStands all (number + 1) (has_initializer ps) body
    stands = record { vars = vars; fit = fits.2; numbered = omega (arith, numbered, number_is) }

    -- with the function's own number
    code : ℕ → Code
    code n = whole_code (at_body (params_base all callee chain) (outside texts scopes inner chain)) n ps body

    same : x.written ≡ function_code kind named (func_of i f) chain
    same =
        x.is bodies body has fits.1 stands
        ∙ (ap code number_is
        ∙ (sym (ap (code_in all starts callee chain) tree_same)
        ∙ ap₂ (λ (ss : List NamedScope) (ks : List ℕ). code_in ss ks callee chain (func_of i f)) belongs.scopes_are.are (ap (map (λ (e : Extent). e.start)) belongs.inner_are ∙ starts_are (inner_function kind named (func_of i f)))))

-- with a scope of the function's name, and without
pub drafted_named : {bytes : List ℕ} {ns : List TryNote} {flag : Bool} (texts : List (List ℕ)) (kind : FuncKind) (name : Option ℕ) (scopes : List ScopeView) (inner : List Extent) (chain : List LinkView) (f : Func) (p : Position) (around : List LinkView)
    → flag ≡ declares (callee_names kind (option_map (text_at texts) name)) → flag ≡ true
    → p ≡ at_body around (outside texts scopes inner chain) → around ≡ chain_link (scope_at (map (named_scope texts) scopes) 0) ∷ chain
    → FunctionMade p bytes ns 1 f → Drafted texts kind name scopes inner chain f bytes ns
drafted_named {bytes} {ns} texts kind name scopes inner chain f p around flag_is named at around_is x =
    drafted texts kind name scopes inner chain f (sym (count_some (callee_names kind (option_map (text_at texts) name)) some))
    (subst (λ (c : List LinkView). FunctionWritten (at_body c (outside texts scopes inner chain)) (emitted [] [] []) (emitted bytes made.waits ns) 1 f) (base_some (map (named_scope texts) scopes) (callee_names kind (option_map (text_at texts) name)) chain some) made.made)
  where
    some : declares (callee_names kind (option_map (text_at texts) name)) ≡ true
    some = sym flag_is ∙ named

    made : FunctionMade (at_body (chain_link (scope_at (map (named_scope texts) scopes) 0) ∷ chain) (outside texts scopes inner chain)) bytes ns 1 f
    made = subst (λ (q : Position). FunctionMade q bytes ns 1 f) (at ∙ ap (λ (c : List LinkView). at_body c (outside texts scopes inner chain)) around_is) x

pub drafted_nameless : {bytes : List ℕ} {ns : List TryNote} {flag : Bool} (texts : List (List ℕ)) (kind : FuncKind) (name : Option ℕ) (scopes : List ScopeView) (inner : List Extent) (chain : List LinkView) (f : Func)
    → flag ≡ declares (callee_names kind (option_map (text_at texts) name)) → flag ≡ false
    → FunctionMade (outside texts scopes inner chain) bytes ns 0 f → Drafted texts kind name scopes inner chain f bytes ns
drafted_nameless {bytes} {ns} texts kind name scopes inner chain f flag_is nameless x =
    drafted texts kind name scopes inner chain f (sym (count_none (callee_names kind (option_map (text_at texts) name)) none))
    (subst (λ (c : List LinkView). FunctionWritten (at_body c (outside texts scopes inner chain)) (emitted [] [] []) (emitted bytes x.waits ns) 0 f) (base_none (map (named_scope texts) scopes) (callee_names kind (option_map (text_at texts) name)) chain none) x.made)
  where
    none : declares (callee_names kind (option_map (text_at texts) name)) ≡ false
    none = sym flag_is ∙ nameless

-- ---- the stencil

names_count : (qs : List part.Param) → count_of (param_names (params_of qs)) ≡ length qs
names_count [] = refl
names_count (q ∷ qs) = ap (λ (n : ℕ). 1 + n) (names_count qs) ∙ one_more (length qs)
  where
    one_more : (n : ℕ) → 1 + n ≡ suc n
    one_more n = omega arith

pub function_stands : {bytes code : List ℕ} {ns : List TryNote} {count : ℕ} (texts : List (List ℕ)) (kind : FuncKind) (name : Option ℕ) (scopes : List ScopeView) (inner : List Extent) (chain : List LinkView) (f : Func) (ps : List Param)
    → code ≡ bytes → ps ≡ (out-Func f).params.items → (length ps < 2 ^ 32 → count ≡ length ps) → Drafted texts kind name scopes inner chain f bytes ns
    → IsFunctionStencil texts kind name scopes inner chain f (record { extent = record { start = (out-Func f).start; end = (out-Func f).end }; kind = kind; name = name; params = count; scopes = scopes; code = code; notes = ns; inner = inner })
function_stands {bytes} {code} {ns} {count} texts kind name scopes inner chain f ps code_is ps_are counted x bodies body has belongs = record {
  extent = sym (ap extent_of tree_same);
  kind = refl;
  name_within = belongs.name_within;
  name = refl;
  params = counted small ∙ (sym length_is ∙ sym (ap (λ (t : Function). count_of (defined.params_of t)) tree_same));
  scopes = belongs.scopes_are;
  code = subst (λ (b : List ℕ). ShowsCommands texts b (settled (function_code kind (option_map (text_at texts) name) (func_of (under texts bodies) f) chain))) (sym code_is) (x bodies body has belongs).code;
  notes = (x bodies body has belongs).notes_are;
  inner = belongs.inner_are;
}
  where
    i : Interpretation
    i = under texts bodies

    tree : Function
    tree = function (out-Func f).form (out-Func f).start (out-Func f).end (maybe_named i (out-Func f).name) (params_under texts bodies (out-Func f).params.items) (out-Func f).comma (out-Func f).bare body

    tree_same : func_of i f ≡ tree
    tree_same = tree_is i f body has

    length_is : count_of (param_names (params_under texts bodies (out-Func f).params.items)) ≡ length ps
    length_is = names_count (map (param_of i) (out-Func f).params.items) ∙ (length-map (out-Func f).params.items (param_of i) ∙ sym (ap length ps_are))

    small : length ps < 2 ^ 32
    small = subst (λ (n : ℕ). n < 2 ^ 32) length_is (subst FunctionFits tree_same belongs.fit).0
