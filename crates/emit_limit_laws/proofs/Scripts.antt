-- A script that was read without an error has all bounds that its scopes and its own code ask for, and each function directly
-- in it stands well under the chain that it gets.
use Rattle.std.proofs.Common.{◌≡◌, ℕ, suc, ◌+◌, ◌^◌, ◌≤◌, ◌<◌, Bool, true, false, cond, List, [], ◌∷◌, length, get_or, Option, Some, None, is_some, refl, ap, true≢false, arith}
use Rattle.std.proofs.lemmas.List.{length-append}
use Rattle.script_grammar.specs.Fault.{depth_limit}
use Rattle.script_grammar.specs.Lexeme.{Lexeme}
use Rattle.script_grammar.specs.Pieces.{whole, Piece, At, Gap, Pass, Fits, depths}
use Rattle.script_grammar.specs.Print.{print_stmts, print_stmt}
use Rattle.script_grammar.specs.Tree.{Stmt, Stmts, no_stmts, more_stmts, Function, function, Declared}
use Rattle.stencil_data.specs.declared.scopes.BindKind.TheVariants as bind
use Rattle.stencil_data.specs.declared.scopes.ScopeKind.TheVariants as scope
use Rattle.parse_track.specs.declared.region.Early.{Early}
use Rattle.parse_track.specs.EarlyErrors.{is_sooner, sooner}
use Rattle.parse_track.specs.Notes.{first_note, early_error, notes_stmts}
use Rattle.grammar_start_laws.specs.Started.{started_stmts}
use Rattle.grammar_start_laws.proofs.WholeTrees.{script_starts_rise}
use Rattle.scope_analysis.specs.DeclaredNames.{declarations, top_lexical_names, top_var_names}
use Rattle.scope_analysis.specs.Functions.{inner_script}
use Rattle.scope_analysis.specs.Scopes.{count_stmts, inside, block_inner, scopes_stmts, outermost, global_names, script_scopes}
use Rattle.scope_analysis.specs.Walked.{ScopesFit}
use Rattle.emit_stmts.specs.Functions.{function_count}
use Rattle.emit_limit_laws.specs.Limits.{ScriptStands, ScriptWithin}
use Rattle.emit_limit_laws.specs.Names.{names_stmts}
use Rattle.emit_limit_laws.specs.Places.{depths_of, AllUpTo}
use Rattle.emit_limit_laws.proofs.FittingStmts.{fits_stmts}
use Rattle.emit_limit_laws.proofs.FunctionNames.{top_vars_few}
use Rattle.emit_limit_laws.proofs.InnerFunctions.{in_script}
use Rattle.emit_limit_laws.proofs.InnerStand.{inner_rise, inner_few, inner_stand}
use Rattle.emit_limit_laws.proofs.Measures.{up_to_back, length_both}
use Rattle.emit_limit_laws.proofs.NameTokens.{top_named, declared_length}
use Rattle.emit_limit_laws.proofs.ScopeNames.{top_names_plain, stmts_scopes_fit, stmts_scopes_few, counts_few}
use Rattle.emit_limit_laws.proofs.Slots.{param_both, no_params_in, and_fits}

-- ---- the tokens, and the places for them

all_up_to : (limit : ℕ) (ds : List ℕ) → ((j : ℕ) → get_or ds j 0 ≤ limit) → AllUpTo limit ds
all_up_to limit [] h = tt
all_up_to limit (d ∷ ds) h = (h 0, all_up_to limit ds (λ j. h (suc j)))

shallow_places : (limit : ℕ) (ps : List Piece) (ts : List Lexeme) (n : Lexeme) (f : Fits ps ts n) → AllUpTo limit (depths ps ts n f) → AllUpTo limit (depths_of ps)
shallow_places limit [] ts n f h = tt
shallow_places limit (At s ∷ ps) [] n f h = absurd f
shallow_places limit (At s ∷ ps) (t ∷ ts) n f h = (h.0, shallow_places limit ps ts n f.1 h.1)
shallow_places limit (Gap e ∷ ps) [] n f h = shallow_places limit ps [] n f.1 h
shallow_places limit (Gap e ∷ ps) (t ∷ ts) n f h = shallow_places limit ps (t ∷ ts) n f.1 h
shallow_places limit (Pass ∷ ps) ts n f h = shallow_places limit ps f.1 n f.4 (up_to_back limit _ (depths ps f.1 n f.4) h)

few_places : (ps : List Piece) (ts : List Lexeme) (n : Lexeme) → Fits ps ts n → length (depths_of ps) ≤ length ts
few_places [] ts n f = omega arith
few_places (At s ∷ ps) [] n f = absurd f
few_places (At s ∷ ps) (t ∷ ts) n f = let h = few_places ps ts n f.1 in omega (arith, h)
few_places (Gap e ∷ ps) [] n f = few_places ps [] n f.1
few_places (Gap e ∷ ps) (t ∷ ts) n f = few_places ps (t ∷ ts) n f.1
few_places (Pass ∷ ps) ts n f =
    let h = few_places ps f.1 n f.4 in
    let e = ap (λ (us : List Lexeme). length us) f.2 in
    let g = length-append f.0 f.1 in
    omega (arith, h, e, g)

-- ---- no early error, so nothing was noted

some_none : {A : Type 0} (x : A) → Some x ≡ None → ⊥
some_none x e = true≢false (ap is_some e)

not_sooner : (b : Bool) (x y : Early) → cond b (Some y) (Some x) ≡ None → ⊥
not_sooner true x y e = some_none y e
not_sooner false x y e = some_none x e

none_sooner : (x y : Option Early) → sooner x y ≡ None → x ≡ None
none_sooner None y e = refl
none_sooner (Some x) None e = absurd (some_none x e)
none_sooner (Some x) (Some y) e = absurd (not_sooner (is_sooner y x) x y e)

nothing_noted : (es : List Early) → first_note es ≡ None → es ≡ []
nothing_noted [] e = refl
nothing_noted (x ∷ es) e = absurd (some_none x (none_sooner (Some x) (first_note es) e))

clean_script : (items : Stmts) → early_error items ≡ None → notes_stmts items ≡ []
clean_script items e = nothing_noted (notes_stmts items) (none_sooner (first_note (notes_stmts items)) _ e)

-- ---- functions declared at the top

declared_token : (d : ℕ) (f : Function) → 1 ≤ length (depths_of (print_stmt whole d (Declared f)))
declared_token d (function form start end who ps comma bare body) = omega arith

one_declared : (d : ℕ) (s : Stmt) (ss : Stmts) → function_count (more_stmts s ss) ≤ length (depths_of (print_stmt whole d s)) + function_count ss
one_declared d (Declared f) ss = let h = declared_token d f in omega (arith, h)
one_declared d _ ss = omega arith

few_declared : (d : ℕ) (x : Stmts) → function_count x ≤ length (depths_of (print_stmts whole d x))
few_declared d no_stmts = omega arith
few_declared d (more_stmts s ss) =
    let h = one_declared (suc d) s ss in
    let k = few_declared d ss in
    let e = length_both (print_stmt whole (suc d) s) (print_stmts whole d ss) in
    omega (arith, h, k, e)

-- ---- scopes

names_few : (items : Stmts) → length (global_names items) + names_stmts items ≤ length (depths_of (print_stmts whole 0 items))
names_few items =
    let h = (top_named 0 items).tokens in
    let e = length-append (declarations bind.Var (top_var_names items)) (top_lexical_names items) in
    let f = declared_length bind.Var (top_var_names items) in
    let k = top_vars_few items in
    omega (arith, h, e, f, k)

slots_fit : (items : Stmts) → length (depths_of (print_stmts whole 0 items)) < 2 ^ 24 → ScopesFit (script_scopes items)
slots_fit items few =
    let names = names_few items in
    let e = param_both (declarations bind.Var (top_var_names items)) (top_lexical_names items) in
    let a = no_params_in bind.Var (top_var_names items) refl in
    let b = top_names_plain items in
    and_fits scope.Global (global_names items) (block_inner items) (scopes_stmts items) outermost (names_stmts items) (omega (arith, e, a, b)) (omega (arith, names, few)) (stmts_scopes_fit items)

scopes_few : (items : Stmts) → length (script_scopes items) ≤ 1 + count_stmts items
scopes_few items = let h = stmts_scopes_few items (inside scope.Global (global_names items) (block_inner items) outermost) in omega (arith, h)

-- ---- the whole

pub script_within : (tokens : List Lexeme) (end : Lexeme) (items : Stmts) → ScriptStands tokens end items → ScriptWithin items
script_within tokens end items s =
    let ps = print_stmts whole 0 items in
    let places = few_places ps tokens end s.script.fits in
    let all = s.few in
    let few : length (depths_of (print_stmts whole 0 items)) < 2 ^ 24 = omega (arith, places, all) in
    let shallow = shallow_places depth_limit ps tokens end s.script.fits (all_up_to depth_limit (depths ps tokens end s.script.fits) s.shallow) in
    let clean = clean_script items s.faultless in
    let rise = script_starts_rise tokens end items 0 s.script s.rise in
    let found = (in_script items s.script.proper).found in
    let slots = slots_fit items few in
    let declared = few_declared 0 items in
    let names = names_few items in
    let counts = counts_few items in
    let scopes = scopes_few items in
    let inner = inner_few 0 (inner_script items) (depths_of ps) (started_stmts items) (notes_stmts items) found in
    record {
      fit = (omega (arith, declared, few), (fits_stmts 0 64999 0 items (omega arith) (omega arith)).holds (record { few = omega (arith, few); shallow = shallow }) clean);
      numbered = omega (arith, names, counts, few);
      few_scopes = omega (arith, scopes, names, counts, few);
      slots = slots;
      few_inner = omega (arith, inner, few);
      ordered = inner_rise 0 (inner_script items) (depths_of ps) (started_stmts items) (notes_stmts items) 0 found rise;
      inner = inner_stand 0 (inner_script items) (depths_of ps) (started_stmts items) (notes_stmts items) 0 (script_scopes items) [] found few shallow rise clean slots (omega arith) tt;
    }
