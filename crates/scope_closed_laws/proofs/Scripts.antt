-- The closed names of a script, and of each function in it, are those of its scopes.
use Rattle.std.proofs.Common.{◌≡◌, ℕ, ◌+◌, ◌<◌, Bool, true, false, cond, if◌then◌else◌, not, ◌&&◌, nat_eq, bytes_eq, Option, None, Some, List, [], ◌∷◌, ◌++◌, map, filter, All, refl, sym, ap, ap₂, subst, ◌∙◌, suc, append-nil, arith, inl, inr}
use Rattle.std.proofs.lemmas.Bool.{ne_eqb}
use Rattle.std.proofs.lemmas.List.Elements.{All-contains, filter-append}
use Rattle.script_grammar.specs.declared.token.FuncForm.{FuncForm}
use Rattle.script_grammar.specs.Kinds.{is_arrow_form}
use Rattle.script_grammar.specs.Pieces.{whole}
use Rattle.script_grammar.specs.Proper.{ProperFunction, ProperStmts}
use Rattle.script_grammar.specs.Tree.{Named, Function, function, Params, Body, Stmts}
use Rattle.stencil_data.specs.declared.functions.FuncKind.{FuncKind}
use Rattle.stencil_data.specs.declared.functions.FuncKind.TheVariants as func
use Rattle.stencil_data.specs.declared.records.ClosedName.{ClosedName}
use Rattle.stencil_data.specs.declared.scopes.ScopeKind.TheVariants as scope
use Rattle.stencil_data.specs.Named.{NamedScope, NamedClosed}
use Rattle.stencil_data.specs.Slots.{slots_from}
use Rattle.stencil_data.specs.StandsFor.{named_closed}
use Rattle.stencil_data.specs.declared.chains.LinkName.{LinkName}
use Rattle.grammar_start_laws.specs.Started.{Started, started_stmts}
use Rattle.grammar_start_laws.specs.Own.{StartsRise}
use Rattle.parse_track.specs.Told as told
use Rattle.parse_track.specs.Told.{Region, Told, nothing, leaf, inner}
use Rattle.parse_track.specs.RegionNames.{is_lexical, directly, vars}
use Rattle.parse_track.specs.EarlyErrors.{has}
use Rattle.parse_track.specs.ClosedNames.{distinct, names_of}
use Rattle.parse_track.specs.Notes.{early_error, closed_names}
use Rattle.parse_track.specs.Tells as tells
use Rattle.parse_track.specs.Tells.{Text, body_region, tells_body, tells_function, tells_params, tells_stmts, tells_script}
use Rattle.scope_analysis.specs.DeclaredNames.{Declaration, has_initializer}
use Rattle.scope_analysis.specs.Functions.{Inner, inner_script, inner_function, inner_params, inner_body, params_around}
use Rattle.scope_analysis.specs.Scopes.{function_scopes, script_scopes, callee_names, scope_count, unplaced, placed, scopes_stmts, outermost, inside as entered, global_names, block_inner}
use Rattle.scope_analysis.specs.Closed.{is_env, closed_bindings, closed_from, closed_over, inside_global}
use Rattle.scope_closed_laws.specs.Handed.{is_top, closed_at_top, closed_of, behind_global, function_start}
use Rattle.scope_closed_laws.specs.Names.{DeclaresNoThis}
use Rattle.scope_closed_laws.specs.Sites as site
use Rattle.scope_closed_laws.specs.Sites.{IsFunctionOf}
use Rattle.scope_closed_laws.proofs.Own.{picked_in, own, starts, told_of, Occurs, Clean}
use Rattle.scope_closed_laws.proofs.Reading.{Found, found_more, reads_both}
use Rattle.scope_closed_laws.proofs.Bodies.{inside_told, region_of, same_initializer}
use Rattle.scope_closed_laws.proofs.Parts.{reads_params, reads_body, reads_stmts}
use Rattle.scope_closed_laws.proofs.Closing.{Avoids, own_picked}
use Rattle.scope_closed_laws.proofs.Finding.{IsIn, Distinct, start_of, found_picked, occurs_inside, occurs_clean}
use Rattle.scope_closed_laws.proofs.Scoping.{picks, region_picks, reached_by, distinct_once}
use Rattle.scope_closed_laws.proofs.Statements.{scoped_stmts}
use Rattle.scope_closed_laws.proofs.Named.{function_closed}
use Rattle.scope_closed_laws.proofs.Clean.{clean_script}

-- ---- the functions of a script are told

script_found : (items : Stmts) → ProperStmts whole false items → All (Found (tells_script items)) (inner_script items)
script_found items p k d lt =
    found_more (tells_stmts true items nothing) (tells_script items) _ (λ f o. inr (inl o)) ((reads_stmts items true false 1 (0 ∷ []) nothing p).sited k d lt)

-- those directly in a function, in its region and in that of its name
in_region : (arrow : Bool) (start : ℕ) (i f : Told Text) → Occurs f false i → Occurs f false (inner (region_of arrow) start i nothing)
in_region true start i f o = inr (inl o)
in_region false start i f o = inr (inl o)

in_lambda : (arrow : Bool) (n : _) (start : ℕ) (i f : Told Text) → Occurs f false i → Occurs f false (inner (told.Lambda n) 0 (inner (region_of arrow) start i nothing) nothing)
in_lambda true n start i f o = inr (inl (inr (inl o)))
in_lambda false n start i f o = inr (inl (inr (inl o)))

found_inside : (form : FuncForm) (start end : ℕ) (name : Option Named) (params : Params) (comma bare : Bool) (body : Body) → ProperFunction whole (function form start end name params comma bare body) → (next : ℕ) (around : List ℕ)
    → All (Found (inside_told (tells.has_initializer params) params body)) (inner_params params around ++ inner_body (has_initializer params) body next around)
found_inside form start end name params comma bare body p next around =
    subst (λ (b : Bool). All (Found (inside_told b params body)) (inner_params params around ++ inner_body (has_initializer params) body next around)) (sym (same_initializer params))
    (reads_both _ _ _ _ _ _ _ _ _ (reads_params params around _ p.3) (reads_body (has_initializer params) body form next around p.4)).sited

plainly : (kind : FuncKind) (name : Option Text) (form : FuncForm) (start end : ℕ) (called : Option Named) (params : Params) (comma bare : Bool) (body : Body)
    → ProperFunction whole (function form start end called params comma bare body)
    → All (Found (tells_function (function form start end called params comma bare body) nothing)) (inner_function kind name (function form start end called params comma bare body))
plainly kind name form start end called params comma bare body p k d lt =
    found_more (inside_told (tells.has_initializer params) params body) (tells_function (function form start end called params comma bare body) nothing) _ (λ f o. in_region (is_arrow_form form) start _ f o)
    (found_inside form start end called params comma bare body p (scope_count (callee_names kind name) + 1) (params_around kind name) k d lt)

function_found : (kind : FuncKind) (name : Option Text) (f : Function) → ProperFunction whole f → All (Found (told_of kind f)) (inner_function kind name f)
function_found func.Expression name (function form start end None params comma bare body) p = plainly func.Expression name form start end None params comma bare body p
function_found func.Expression name (function form start end (Some called) params comma bare body) p =
    λ k d lt. found_more (inside_told (tells.has_initializer params) params body) (told_of func.Expression (function form start end (Some called) params comma bare body)) _ (λ f o. in_lambda (is_arrow_form form) _ start _ f o)
    (found_inside form start end (Some called) params comma bare body p (scope_count (callee_names func.Expression name) + 1) (params_around func.Expression name) k d lt)
function_found func.Declared name (function form start end called params comma bare body) p = plainly func.Declared name form start end called params comma bare body p
function_found func.Arrow name (function form start end called params comma bare body) p = plainly func.Arrow name form start end called params comma bare body p
function_found func.Method name (function form start end called params comma bare body) p = plainly func.Method name form start end called params comma bare body p
function_found func.Getter name (function form start end called params comma bare body) p = plainly func.Getter name form start end called params comma bare body p
function_found func.Setter name (function form start end called params comma bare body) p = plainly func.Setter name form start end called params comma bare body p

each_found : (items : Stmts) → ProperStmts whole false items → (f : Inner) → IsFunctionOf items f → Found (tells_script items) f
each_found items p f (site.directly g h) = All-contains (Found (tells_script items)) (inner_script items) g (script_found items p) h
each_found items p f (site.inside around g of h) =
    let outer = each_found items p around of in
    let found = All-contains (Found (told_of around.kind around.func)) (inner_function around.kind around.name around.func) g (function_found around.kind around.name around.func outer.proper) h in
    record { there = occurs_inside _ _ false (tells_script items) outer.there found.there; proper = found.proper; named = found.named }

-- ---- where they start

begins_at : (kind : FuncKind) (f : Function) → start_of (told_of kind f) ≡ function_start f
begins_at kind (function form start end name params comma bare body) = by kind name where
  plain : (arrow : Bool) (i : Told Text) → start_of (inner (region_of arrow) start i nothing) ≡ start
  plain true i = refl
  plain false i = refl

  by : (kind : FuncKind) (name : Option Named) → start_of (told_of kind (function form start end name params comma bare body)) ≡ start
  by func.Expression None = plain (is_arrow_form form) _
  by func.Expression (Some called) = refl
  by func.Declared name = plain (is_arrow_form form) _
  by func.Arrow name = plain (is_arrow_form form) _
  by func.Method name = plain (is_arrow_form form) _
  by func.Getter name = plain (is_arrow_form form) _
  by func.Setter name = plain (is_arrow_form form) _

above : (from m : ℕ) (fs : List Started) → StartsRise from fs → m < from → IsIn m (map (λ (f : Started). f.start) fs) → ⊥
above from m [] r lt h = h
above from m (f ∷ fs) r lt (inl e) = omega (arith, r.0, lt, e)
above from m (f ∷ fs) r lt (inr h) = above (suc f.start) m fs r.1 (omega (arith, r.0, lt)) h

distinct_starts : (from : ℕ) (fs : List Started) → StartsRise from fs → Distinct (map (λ (f : Started). f.start) fs)
distinct_starts from [] r = tt
distinct_starts from (f ∷ fs) r = (above (suc f.start) f.start fs r.1 (omega arith), distinct_starts (suc f.start) fs r.1)

script_starts : (items : Stmts) → ProperStmts whole false items → starts false (tells_script items) ≡ map (λ (f : Started). f.start) (started_stmts items)
script_starts items p = append-nil _ ∙ ((reads_stmts items true false 1 (0 ∷ []) nothing p).start ∙ append-nil _)

-- ---- each function

-- In a script without early errors whose functions start one after the other, the closed names of each function, at any
-- depth, are those of its scopes.
pub closed_of_function : (items : Stmts) (from : ℕ) (f : Inner) → ProperStmts whole false items → early_error items ≡ None → DeclaresNoThis (tells_script items) → StartsRise from (started_stmts items) → IsFunctionOf items f
    → closed_of (closed_names items) (function_start f.func) ≡ closed_over (function_scopes f.kind f.name f.func)
closed_of_function items from f p e h r of =
    let found = each_found items p f of in
    found_picked (told_of f.kind f.func) (function_start f.func) false None 0 (tells_script items) (begins_at f.kind f.func) found.there
    (subst Distinct (sym (script_starts items p)) (distinct_starts from (started_stmts items) r)) refl
    ∙ function_closed f.kind f.name f.func found.proper found.named (occurs_clean (told_of f.kind f.func) false (tells_script items) found.there (clean_script items e h))

-- ---- the script

avoids_top : (ns : List ℕ) → Avoids is_top ns
avoids_top [] = tt
avoids_top (n ∷ ns) = (refl, avoids_top ns)

-- the global scope has no closed names
global_none : (n env arg frame : ℕ) (ds : List Declaration) (uses : List Text) → closed_bindings n (placed ds (slots_from scope.Global env arg frame (unplaced uses ds))) ≡ []
global_none n env arg frame ds uses = by ds env arg frame where
  by : (ds : List Declaration) (env arg frame : ℕ) → closed_bindings n (placed ds (slots_from scope.Global env arg frame (unplaced uses ds))) ≡ []
  by [] env arg frame = refl
  by (d ∷ ds) env arg frame = by ds _ _ _

behind-append : (cs ds : List NamedClosed) → behind_global (cs ++ ds) ≡ behind_global cs ++ behind_global ds
behind-append cs ds = filter-append (λ (c : NamedClosed). not (nat_eq c.scope 0)) cs ds

none_behind : (xs : List Text) → behind_global (map (λ (x : Text). record { scope = 0; text = x }) xs) ≡ []
none_behind [] = refl
none_behind (x ∷ xs) = none_behind xs

global_behind : (i : Told Text) → behind_global (picked_in 0 told.Script i) ≡ []
global_behind i =
    ap behind_global
    (region_picks told.Script i 0 (words ∷ []) refl (distinct_once (names_of (vars i) ++ names_of (directly is_lexical i)), tt)
    ∙ append-nil (picks 0 (λ (x : Text). not (has bytes_eq x []) && reached_by told.Script i x) words))
    ∙ none_behind (filter (λ (x : Text). not (has bytes_eq x []) && reached_by told.Script i x) words)
  where
    words : List Text
    words = distinct bytes_eq (names_of (vars i) ++ names_of (directly is_lexical i))

binding_behind : (n : ℕ) (b : LinkName) (c : Bool) (rest : List NamedClosed) → nat_eq n 0 ≡ false → behind_global rest ≡ rest
    → behind_global ((if c then record { scope = n; text = b.text } ∷ [] else []) ++ rest) ≡ ((if c then record { scope = n; text = b.text } ∷ [] else []) ++ rest)
binding_behind n b true rest e h = ap (λ (z : Bool). cond (not z) (record { scope = n; text = b.text } ∷ behind_global rest) (behind_global rest)) e ∙ ap (λ cs. record { scope = n; text = b.text } ∷ cs) h
binding_behind n b false rest e h = h

bindings_behind : (n : ℕ) (bs : List LinkName) → nat_eq n 0 ≡ false → behind_global (closed_bindings n bs) ≡ closed_bindings n bs
bindings_behind n [] e = refl
bindings_behind n (b ∷ bs) e = binding_behind n b (is_env b.slot) (closed_bindings n bs) e (bindings_behind n bs e)

all_behind : (n : ℕ) (ss : List NamedScope) → nat_eq n 0 ≡ false → behind_global (closed_from n ss) ≡ closed_from n ss
all_behind n [] e = refl
all_behind n (s ∷ ss) e =
    behind-append (closed_bindings n s.bindings) (closed_from (n + 1) ss)
    ∙ ap₂ (λ cs ds. cs ++ ds) (bindings_behind n s.bindings e) (all_behind (n + 1) ss (ne_eqb (n + 1) 0 (λ h. omega (arith, h))))

-- In a script without early errors the closed names that it binds itself, the global ones left out, are those of its scopes.
pub closed_of_script : (items : Stmts) → ProperStmts whole false items → early_error items ≡ None → DeclaresNoThis (tells_script items)
    → behind_global (closed_at_top (closed_names items)) ≡ closed_over (script_scopes items)
closed_of_script items p e h =
    ap behind_global (own_picked is_top false None 0 (tells_script items) refl (avoids_top _) ∙ append-nil (picked_in 0 told.Script i ++ own false 1 i))
    ∙ (behind-append (picked_in 0 told.Script i) (own false 1 i)
    ∙ (ap₂ (λ cs ds. cs ++ ds)
    (global_behind i)
    (ap behind_global ((scoped_stmts items true false nothing p clean.1).alone 1 (entered scope.Global (global_names items) (block_inner items) outermost) ∙ append-nil _) ∙ all_behind 1 (scopes_stmts items (entered scope.Global (global_names items) (block_inner items) outermost)) refl)
    ∙ sym (ap (λ cs. cs ++ closed_from 1 (scopes_stmts items (entered scope.Global (global_names items) (block_inner items) outermost))) (global_none 0 0 0 0 (global_names items) (block_inner items)))))
  where
    i : Told Text
    i = tells_stmts true items nothing

    clean : Clean (tells_script items)
    clean = clean_script items e h

-- the same of names as numbers of texts, as `top_scopes` takes them
pub closed_inside_global : (texts : List Text) (closed : List ClosedName) (items : Stmts) → map (named_closed texts) closed ≡ closed_at_top (closed_names items)
    → ProperStmts whole false items → early_error items ≡ None → DeclaresNoThis (tells_script items) → map (named_closed texts) (inside_global closed) ≡ closed_over (script_scopes items)
closed_inside_global texts closed items same p e h = filtered closed ∙ (ap behind_global same ∙ closed_of_script items p e h) where
  step : (c : ClosedName) (cs : List ClosedName) (b : Bool) → map (named_closed texts) (inside_global cs) ≡ behind_global (map (named_closed texts) cs)
      → map (named_closed texts) (cond b (c ∷ inside_global cs) (inside_global cs)) ≡ cond b (named_closed texts c ∷ behind_global (map (named_closed texts) cs)) (behind_global (map (named_closed texts) cs))
  step c cs true g = ap (λ ds. named_closed texts c ∷ ds) g
  step c cs false g = g

  filtered : (cs : List ClosedName) → map (named_closed texts) (inside_global cs) ≡ behind_global (map (named_closed texts) cs)
  filtered [] = refl
  filtered (c ∷ cs) = step c cs (not (nat_eq c.scope 0)) (filtered cs)
