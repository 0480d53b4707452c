-- What follows for functions in a part of a tree from bounds on the part.
use Rattle.std.proofs.Common.{◌≡◌, ◌∙◌, ℕ, zero, suc, ◌+◌, ◌^◌, ◌≤◌, ◌<◌, Bool, true, false, cond, List, [], ◌∷◌, ◌++◌, length, map, refl, sym, ap, subst, arith}
use Rattle.std.proofs.lemmas.List.{length-append, length-map}
use Rattle.script_grammar.specs.declared.token.FuncForm.TheVariants as form
use Rattle.script_grammar.specs.Fault.{depth_limit}
use Rattle.script_grammar.specs.Pieces.{whole}
use Rattle.script_grammar.specs.Print.{print_function}
use Rattle.script_grammar.specs.Proper.{ProperFunction}
use Rattle.script_grammar.specs.Tree.{no_expr, some_expr, Function, function, no_params, more_params}
use Rattle.stencil_data.specs.Fits.{NamesFit, LinksFit}
use Rattle.stencil_data.specs.LinkView.{LinkView}
use Rattle.stencil_data.specs.Named.{NamedScope}
use Rattle.stencil_data.specs.Resolve.{is_global}
use Rattle.stencil_data.specs.StandsFor.{link_of}
use Rattle.parse_track.specs.declared.region.Early.{Early}
use Rattle.grammar_start_laws.specs.Started.{Started, started_function}
use Rattle.grammar_start_laws.specs.Own.{StartsRise}
use Rattle.scope_analysis.specs.Functions.{Inner}
use Rattle.scope_analysis.specs.Walked.{ScopesFit}
use Rattle.emit_exprs.specs.Rising.{Rises}
use Rattle.emit_stmts.specs.Frames.{scope_at, global_link, chain_link}
use Rattle.emit_stmts.specs.Functions.{extent_of, extents_of, chain_at}
use Rattle.emit_limit_laws.specs.Inside.{Cut, InnerIn, started_inside}
use Rattle.emit_limit_laws.specs.Limits.{AllStand}
use Rattle.emit_limit_laws.specs.Places.{depths_of, AllUpTo}
use Rattle.emit_limit_laws.proofs.Measures.{up_to_front, up_to_back, front_none, back_none}

-- ---- the first token of a function is as deep as the function

pub first_token : (d : ℕ) (f : Function) → ProperFunction whole f → (rest : List ℕ) × (depths_of (print_function whole d f) ≡ d ∷ rest)
first_token d (function form start end who ps comma false body) p = (_, refl)
first_token d (function form.Arrow start end who (more_params name no_expr false no_params) comma true body) p = (_, refl)
first_token d (function form.Arrow start end who (more_params name no_expr false (more_params n v r ps)) comma true body) p = absurd p.2
first_token d (function form.Arrow start end who (more_params name no_expr true ps) comma true body) p = absurd p.2
first_token d (function form.Arrow start end who (more_params name (some_expr e) rest ps) comma true body) p = absurd p.2
first_token d (function form.Arrow start end who no_params comma true body) p = absurd p.2
first_token d (function form.Script start end who ps comma true body) p = absurd p.2
first_token d (function form.Function start end who ps comma true body) p = absurd p.2
first_token d (function form.Method start end who ps comma true body) p = absurd p.2
first_token d (function form.Getter start end who ps comma true body) p = absurd p.2
first_token d (function form.Setter start end who ps comma true body) p = absurd p.2

pub not_deeper : (limit d : ℕ) (f : Function) → ProperFunction whole f → AllUpTo limit (depths_of (print_function whole d f)) → d ≤ limit
not_deeper limit d f p h = let first = first_token d f p in (subst (AllUpTo limit) first.1 h).0

some_tokens : (d : ℕ) (f : Function) → ProperFunction whole f → 1 ≤ length (depths_of (print_function whole d f))
some_tokens d f p = let first = first_token d f p in subst (λ (ds : List ℕ). 1 ≤ length ds) (sym first.1) (omega arith)

-- ---- cuts

cut_length : {A : Type 0} {all part back : List A} → Cut all part back → length part + length back ≤ length all
cut_length {part = part} {back = back} c =
    let e = ap (λ xs. length xs) c.is in
    let f = length-append c.front (part ++ back) in
    let g = length-append part back in
    omega (arith, e, f, g)

cut_up_to : (limit : ℕ) {all part back : List ℕ} → Cut all part back → AllUpTo limit all → AllUpTo limit part × AllUpTo limit back
cut_up_to limit {part = part} {back = back} c h =
    let k = up_to_back limit c.front (part ++ back) (subst (AllUpTo limit) c.is h) in
    (up_to_front limit part back k, up_to_back limit part back k)

cut_none : {A : Type 0} {all part back : List A} → Cut all part back → all ≡ [] → (part ≡ []) × (back ≡ [])
cut_none {part = part} {back = back} c e =
    let k = back_none c.front (part ++ back) (sym c.is ∙ e) in
    (front_none part back k, back_none part back k)

-- ---- starts that rise

pub lower : (low high : ℕ) (fs : List Started) → low ≤ high → StartsRise high fs → StartsRise low fs
lower low high [] le h = tt
lower low high (f ∷ fs) le h = (omega (arith, le, h.0), h.1)

rise_front : (low : ℕ) (fs gs : List Started) → StartsRise low (fs ++ gs) → StartsRise low fs
rise_front low [] gs h = tt
rise_front low (f ∷ fs) gs h = (h.0, rise_front (suc f.start) fs gs h.1)

rise_back : (low : ℕ) (fs gs : List Started) → StartsRise low (fs ++ gs) → StartsRise low gs
rise_back low [] gs h = h
rise_back low (f ∷ fs) gs h = lower low (suc f.start) gs (omega (arith, h.0)) (rise_back (suc f.start) fs gs h.1)

cut_rise : (low : ℕ) {all part back : List Started} → Cut all part back → StartsRise low all → StartsRise low (part ++ back)
cut_rise low {part = part} {back = back} c h = rise_back low c.front (part ++ back) (subst (StartsRise low) c.is h)

first_rise : (low : ℕ) (f : Function) (gs : List Started) → StartsRise low (started_function f ++ gs) → (low ≤ (extent_of f).start) × StartsRise (extent_of f).start gs
first_rise low (function form start end who ps comma bare body) gs h = (h.0, lower start (suc start) gs (omega arith) (rise_back (suc start) (started_inside (function form start end who ps comma bare body)) gs h.1))

-- functions in a part start at rising offsets
pub inner_rise : (c : ℕ) (is : List Inner) (p : List ℕ) (fs : List Started) (ns : List Early) (low : ℕ) → InnerIn c is p fs ns → StartsRise low fs → Rises low (extents_of is)
inner_rise c [] p fs ns low h r = tt
inner_rise c (i ∷ is) p fs ns low h r =
    let k = first_rise low i.func h.1 (cut_rise low h.3.started r) in
    (k.0, inner_rise c is h.0 h.1 h.2 (extent_of i.func).start h.4 k.1)

-- they are no more than the tokens
pub inner_few : (c : ℕ) (is : List Inner) (p : List ℕ) (fs : List Started) (ns : List Early) → InnerIn c is p fs ns → length (extents_of is) ≤ length p
inner_few c [] p fs ns h = omega arith
inner_few c (i ∷ is) p fs ns h =
    let k = inner_few c is h.0 h.1 h.2 h.4 in
    let e = cut_length h.3.printed in
    let one = some_tokens h.3.depth i.func h.3.proper in
    omega (arith, k, e, one)

-- ---- chains

no_names : (scopes : List NamedScope) (number : ℕ) → ScopesFit scopes → NamesFit (scope_at scopes number).bindings
no_names [] number f = tt
no_names (s ∷ ss) zero f = f.0
no_names (s ∷ ss) (suc number) f = no_names ss number f.1

either_names : (b : Bool) (s : NamedScope) → NamesFit s.bindings → NamesFit (cond b global_link (link_of s)).names
either_names true s f = tt
either_names false s f = f

links_fit : (scopes : List NamedScope) (outer : List LinkView) (around : List ℕ) → ScopesFit scopes → LinksFit outer → LinksFit (map (λ (number : ℕ). chain_link (scope_at scopes number)) around ++ outer)
links_fit scopes outer [] f k = k
links_fit scopes outer (number ∷ around) f k = (either_names (is_global (scope_at scopes number).kind) (scope_at scopes number) (no_names scopes number f), links_fit scopes outer around f k)

links_length : (scopes : List NamedScope) (outer : List LinkView) (i : Inner) → length (chain_at scopes outer i) ≡ length i.around + length outer
links_length scopes outer i =
    let e = length-append (map (λ (number : ℕ). chain_link (scope_at scopes number)) i.around) outer in
    let f = length-map {B = LinkView} i.around (λ (number : ℕ). chain_link (scope_at scopes number)) in
    omega (arith, e, f)

-- ---- each of them stands well

pub inner_stand : (c : ℕ) (is : List Inner) (p : List ℕ) (fs : List Started) (ns : List Early) (low : ℕ) (scopes : List NamedScope) (outer : List LinkView) → InnerIn c is p fs ns
    → length p < 2 ^ 24 → AllUpTo depth_limit p → StartsRise low fs → ns ≡ [] → ScopesFit scopes → length outer ≤ c → LinksFit outer → AllStand scopes outer is
inner_stand c [] p fs ns low scopes outer h few shallow rise clean fit links slots = tt
inner_stand c (i ∷ is) p fs ns low scopes outer h few shallow rise clean fit links slots =
    let here = h.3 in
    let e = cut_length here.printed in
    let s = cut_up_to depth_limit here.printed shallow in
    let n = cut_none here.noted clean in
    let r = cut_rise low here.started rise in
    let a = here.around in
    let l = links_length scopes outer i in (
      record {
        depth = here.depth;
        proper = here.proper;
        few = omega (arith, e, few);
        shallow = s.0;
        low = low;
        rise = rise_front low (started_function i.func) h.1 r;
        clean = n.0;
        links = omega (arith, a, l, links);
        slots = links_fit scopes outer i.around fit slots;
      },
      inner_stand c is h.0 h.1 h.2 low scopes outer h.4 (omega (arith, e, few)) s.1 (rise_back low (started_function i.func) h.1 r) n.1 fit links slots,
    )
