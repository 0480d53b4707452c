-- The bindings of a scope, placed one by one.
use Rattle.std.proofs.Common.{◌≡◌, ℕ, ◌+◌, ◌^◌, ◌<◌, Bool, true, false, ◌&&◌, ◌≤◌, nat_eq, bytes_eq, if◌then◌else◌, cond, List, [], ◌∷◌, ◌++◌, map, drop, length, get_or, refl, sym, ◌∙◌, ap, subst, arith, inl, inr, suc, zero, append_assoc, drop-cons}
use Rattle.std.proofs.lemmas.Bool.{eq-eqb, ne_eqb, cases_Bool}
use Rattle.std.proofs.lemmas.List.{map-append}
use Rattle.std.proofs.lemmas.List.Sums.{sum_by-cons}
use Rattle.std.specs.Cmp.Lexicographic.{bytes_decides}
use Rattle.stencil_data.specs.declared.chains.LinkName.{LinkName}
use Rattle.stencil_data.specs.declared.records.ClosedName.{ClosedName}
use Rattle.stencil_data.specs.declared.scopes.Binding.{Binding}
use Rattle.stencil_data.specs.declared.scopes.BindKind.{BindKind}
use Rattle.stencil_data.specs.declared.scopes.BindKind.TheVariants as bind
use Rattle.stencil_data.specs.declared.scopes.ScopeKind.TheVariants as scope
use Rattle.stencil_data.specs.declared.scopes.Slot.{Slot}
use Rattle.stencil_data.specs.Fits.{SlotFits}
use Rattle.stencil_data.specs.Named.{NamedScope, NamedClosed}
use Rattle.stencil_data.specs.Slots.{Unplaced, own_slot, slot_of, slots_from, takes_frame, is_param}
use Rattle.stencil_data.specs.StandsFor.{named_closed, named_binding, named_bindings, text_at}
use Rattle.scope_analysis.specs.declared.names.DeclaredName.{DeclaredName}
use Rattle.scope_analysis.specs.DeclaredNames.{Text, Declaration, has_text}
use Rattle.scope_analysis.specs.Scopes.{unplaced}
use Rattle.scope_analysis.specs.Closed.{is_env, closed_bindings, closed_from, named_left, first_is}
use Rattle.scope_analysis.specs.Kept.{declaration_of, declarations_of}
use Rattle.scope_analysis.specs.Placing.{placed_at, Ready, Going}

is_env_own : (kind : BindKind) (arg frame : ℕ) → is_env (own_slot kind arg frame) ≡ false
is_env_own bind.Param arg frame = refl
is_env_own bind.Var arg frame = refl
is_env_own bind.Let arg frame = refl
is_env_own bind.Const arg frame = refl
is_env_own bind.Function arg frame = refl
is_env_own bind.Catch arg frame = refl
is_env_own bind.Callee arg frame = refl
is_env_own bind.Arguments arg frame = refl
is_env_own bind.This arg frame = refl

-- ---- a name of a later scope is none of this one

first_is_entry : (number n : ℕ) (t : Text) → number < n → (b : LinkName) (others rest : List NamedClosed) (env : Bool) → first_is number t (others ++ rest) ≡ false → first_is number t (((if env then record { scope = n; text = b.text } ∷ [] else []) ++ others) ++ rest) ≡ false
first_is_entry number n t lt b others rest true h = let apart : nat_eq n number ≡ false = ne_eqb n number (λ e. omega (arith, e, lt)) in ap (λ (x : Bool). x && bytes_eq b.text t) apart
first_is_entry number n t lt b others rest false h = h

first_is_bindings : (number n : ℕ) (t : Text) → number < n → (bs : List LinkName) (rest : List NamedClosed) → first_is number t rest ≡ false → first_is number t (closed_bindings n bs ++ rest) ≡ false
first_is_bindings number n t lt [] rest h = h
first_is_bindings number n t lt (b ∷ bs) rest h = first_is_entry number n t lt b (closed_bindings n bs) rest (is_env b.slot) (first_is_bindings number n t lt bs rest h)

first_is_later : (number n : ℕ) (t : Text) → number < n → (later : List NamedScope) → first_is number t (closed_from n later) ≡ false
first_is_later number n t lt [] = refl
first_is_later number n t lt (s ∷ ss) = first_is_bindings number n t lt s.bindings (closed_from (n + 1) ss) (first_is_later number (n + 1) t (omega (arith, lt)) ss)

-- ---- one binding, by whether it is closed over

abbrev pub entry : Bool → ℕ → ℕ → ℕ → Declaration → LinkName
entry closed env arg frame d = record { text = d.text; kind = d.kind; slot = slot_of scope.Lexical env arg frame (record { kind = d.kind; closed = closed }) }

abbrev pub placed_behind : Bool → ℕ → ℕ → ℕ → List Text → Declaration → List Declaration → List LinkName
placed_behind closed env arg frame inner d ds =
    placed_at (env + (if closed then 1 else 0)) (arg + (if is_param d.kind then 1 else 0))
    (frame + (if takes_frame (slot_of scope.Lexical env arg frame (record { kind = d.kind; closed = closed })) then 1 else 0)) inner ds

abbrev pub placed_entry : Bool → ℕ → ℕ → ℕ → List Text → Declaration → List Declaration → List LinkName
placed_entry closed env arg frame inner d ds = entry closed env arg frame d ∷ placed_behind closed env arg frame inner d ds

-- an own binding is none of the closed names
pub closed_own : (number : ℕ) (env arg frame : ℕ) (inner : List Text) (d : Declaration) (ds : List Declaration) → closed_bindings number (placed_entry false env arg frame inner d ds) ≡ closed_bindings number (placed_behind false env arg frame inner d ds)
closed_own number env arg frame inner d ds =
    ap (λ (b : Bool). (if b then record { scope = number; text = d.text } ∷ [] else []) ++ closed_bindings number (placed_behind false env arg frame inner d ds)) (is_env_own d.kind arg frame)

not_equal : (inner : List Text) (a b : Text) → has_text inner a ≡ true → has_text inner b ≡ false → bytes_eq a b ≡ false
not_equal inner a b is_in is_out = elim (cases_Bool (bytes_eq a b)) [
  | inl e ↦ let same : a ≡ b = (bytes_decides a b).0 e in let both : true ≡ false = sym is_in ∙ (ap (has_text inner) same ∙ is_out) in cc
  | inr n ↦ n
]

same_entry : (number : ℕ) (inner : List Text) (t : Text) (d : Declaration) (ds : List Declaration) (env arg frame : ℕ) (rest : List NamedClosed) (closed : Bool) → has_text inner t ≡ false → has_text inner d.text ≡ closed
    → ((e a f : ℕ) → first_is number t (closed_bindings number (placed_at e a f inner ds) ++ rest) ≡ false)
    → first_is number t (closed_bindings number (placed_entry closed env arg frame inner d ds) ++ rest) ≡ false
same_entry number inner t d ds env arg frame rest true is_out is_in h =
    ap (λ (x : Bool). x && bytes_eq d.text t) (eq-eqb number number refl) ∙ not_equal inner d.text t is_in is_out
same_entry number inner t d ds env arg frame rest false is_out other h =
    ap (λ (cs : List NamedClosed). first_is number t (cs ++ rest)) (closed_own number env arg frame inner d ds) ∙ h _ _ _

first_is_same : (number : ℕ) (inner : List Text) (t : Text) (ds : List Declaration) (env arg frame : ℕ) (rest : List NamedClosed) → has_text inner t ≡ false → first_is number t rest ≡ false → first_is number t (closed_bindings number (placed_at env arg frame inner ds) ++ rest) ≡ false
first_is_same number inner t [] env arg frame rest is_out h = h
first_is_same number inner t (d ∷ ds) env arg frame rest is_out h = same_entry number inner t d ds env arg frame rest (has_text inner d.text) is_out refl (λ e a f. first_is_same number inner t ds e a f rest is_out h)

known_entry : (number : ℕ) (inner : List Text) (later : List NamedScope) (d : Declaration) (ds : List Declaration) (env arg frame : ℕ) (closed : Bool) → has_text inner d.text ≡ closed
    → first_is number d.text (closed_bindings number (placed_entry closed env arg frame inner d ds) ++ closed_from (number + 1) later) ≡ closed
known_entry number inner later d ds env arg frame true is_in =
    ap (λ (x : Bool). x && bytes_eq d.text d.text) (eq-eqb number number refl) ∙ (bytes_decides d.text d.text).1 refl
known_entry number inner later d ds env arg frame false is_out =
    ap (λ (cs : List NamedClosed). first_is number d.text (cs ++ closed_from (number + 1) later)) (closed_own number env arg frame inner d ds)
    ∙ first_is_same number inner d.text ds _ _ _ (closed_from (number + 1) later) is_out (first_is_later number (number + 1) d.text (omega arith) later)

-- the next binding is closed over where its name is the next closed one
pub closed_known : (texts : List (List ℕ)) (closed : List ClosedName) (number : ℕ) (inner : List Text) (later : List NamedScope) (env arg frame place : ℕ) (d : Declaration) (ds : List Declaration)
    → Ready texts closed number inner later env arg frame place (d ∷ ds) → first_is number d.text (named_left texts closed place) ≡ has_text inner d.text
closed_known texts closed number inner later env arg frame place d ds r = ap (first_is number d.text) r.left ∙ known_entry number inner later d ds env arg frame (has_text inner d.text) refl

named_tail : (f : ClosedName → NamedClosed) (xs : List ClosedName) (p : ℕ) (y : NamedClosed) (ys : List NamedClosed) → map f (drop p xs) ≡ y ∷ ys → map f (drop (suc p) xs) ≡ ys
named_tail f [] zero y ys h = cc
named_tail f [] (suc p) y ys h = cc
named_tail f (x ∷ xs) zero y ys h = cc
named_tail f (x ∷ xs) (suc p) y ys h = named_tail f xs p y ys h

left_entry : (texts : List (List ℕ)) (closed : List ClosedName) (number : ℕ) (inner : List Text) (rest : List NamedClosed) (env arg frame place : ℕ) (d : Declaration) (ds : List Declaration) (found : Bool)
    → named_left texts closed place ≡ closed_bindings number (placed_entry found env arg frame inner d ds) ++ rest
    → named_left texts closed (place + (if found then 1 else 0)) ≡ closed_bindings number (placed_behind found env arg frame inner d ds) ++ rest
left_entry texts closed number inner rest env arg frame place d ds true h =
    let one : place + 1 ≡ suc place = omega arith in
    ap (named_left texts closed) one ∙ named_tail (named_closed texts) closed place (record { scope = number; text = d.text }) (closed_bindings number (placed_behind true env arg frame inner d ds) ++ rest) h
left_entry texts closed number inner rest env arg frame place d ds false h =
    let none : place + 0 ≡ place = omega arith in
    ap (named_left texts closed) none ∙ (h ∙ ap (λ (cs : List NamedClosed). cs ++ rest) (closed_own number env arg frame inner d ds))

frame_entry : (closed : Bool) (kind : BindKind) (env arg frame : ℕ) → SlotFits (slot_of scope.Lexical env arg frame (record { kind = kind; closed = closed })) → frame < 2 ^ 32
    → frame + (if takes_frame (slot_of scope.Lexical env arg frame (record { kind = kind; closed = closed })) then 1 else 0) < 2 ^ 32
frame_entry true kind env arg frame fits few = omega (arith, few)
frame_entry false bind.Param env arg frame fits few = omega (arith, few)
frame_entry false bind.Var env arg frame fits few = omega (arith, fits)
frame_entry false bind.Let env arg frame fits few = omega (arith, fits)
frame_entry false bind.Const env arg frame fits few = omega (arith, fits)
frame_entry false bind.Function env arg frame fits few = omega (arith, fits)
frame_entry false bind.Catch env arg frame fits few = omega (arith, fits)
frame_entry false bind.Callee env arg frame fits few = omega (arith, few)
frame_entry false bind.Arguments env arg frame fits few = omega (arith, fits)
frame_entry false bind.This env arg frame fits few = omega (arith, fits)

env_entry : (closed : Bool) (kind : BindKind) (env arg frame : ℕ) → SlotFits (slot_of scope.Lexical env arg frame (record { kind = kind; closed = closed })) → env < 2 ^ 32 → env + (if closed then 1 else 0) < 2 ^ 32
env_entry true kind env arg frame fits few = omega (arith, fits)
env_entry false kind env arg frame fits few = omega (arith, few)

going_next : (texts : List (List ℕ)) (closed : List ClosedName) (number : ℕ) (inner : List Text) (later : List NamedScope) (first : ℕ) (all : List Declaration) (bs : List LinkName) (env arg frame place : ℕ) (d : Declaration) (ds : List Declaration)
    → Going texts closed number inner later first all bs env arg frame place (d ∷ ds)
    → Going texts closed number inner later first all (bs ++ entry (has_text inner d.text) env arg frame d ∷ [])
    (env + (if has_text inner d.text then 1 else 0)) (arg + (if is_param d.kind then 1 else 0))
    (frame + (if takes_frame (slot_of scope.Lexical env arg frame (record { kind = d.kind; closed = has_text inner d.text })) then 1 else 0))
    (place + (if has_text inner d.text then 1 else 0)) ds
going_next texts closed number inner later first all bs env arg frame place d ds g = record {
  ready = record {
    fits = g.ready.fits.1;
    left = left_entry texts closed number inner (closed_from (number + 1) later) env arg frame place d ds (has_text inner d.text) g.ready.left;
    env_fits = env_entry (has_text inner d.text) d.kind env arg frame g.ready.fits.0 g.ready.env_fits;
    frame_fits = frame_entry (has_text inner d.text) d.kind env arg frame g.ready.fits.0 g.ready.frame_fits;
  };
  bindings = append_assoc bs (entry (has_text inner d.text) env arg frame d ∷ []) (placed_behind (has_text inner d.text) env arg frame inner d ds) ∙ g.bindings;
  envs = omega (arith, g.envs, sum_by-cons (λ (b : Unplaced). cond b.closed 1 0) (record { kind = d.kind; closed = has_text inner d.text }) (unplaced inner ds));
  frames = omega (
    arith,
    g.frames,
    sum_by-cons (λ (s : Slot). cond (takes_frame s) 1 0)
        (slot_of scope.Lexical env arg frame (record { kind = d.kind; closed = has_text inner d.text }))
        (slots_from scope.Lexical (env + (if has_text inner d.text then 1 else 0)) (arg + (if is_param d.kind then 1 else 0))
        (frame + (if takes_frame (slot_of scope.Lexical env arg frame (record { kind = d.kind; closed = has_text inner d.text })) then 1 else 0)) (unplaced inner ds)),
  );
}

going_alike : (texts : List (List ℕ)) (closed : List ClosedName) (number : ℕ) (inner : List Text) (later : List NamedScope) (first : ℕ) (all ds : List Declaration) (bs bs_after : List LinkName) (e e_after a a_after f f_after p p_after : ℕ)
    → bs_after ≡ bs → e_after ≡ e → a_after ≡ a → f_after ≡ f → p_after ≡ p
    → Going texts closed number inner later first all bs e a f p ds → Going texts closed number inner later first all bs_after e_after a_after f_after p_after ds
going_alike texts closed number inner later first all ds bs bs_after e e_after a a_after f f_after p p_after is_bs is_e is_a is_f is_p g =
    subst (λ (x : List LinkName). Going texts closed number inner later first all x e_after a_after f_after p_after ds) (sym is_bs)
    (subst (λ (x : ℕ). Going texts closed number inner later first all bs x a_after f_after p_after ds) (sym is_e)
    (subst (λ (x : ℕ). Going texts closed number inner later first all bs e x f_after p_after ds) (sym is_a)
    (subst (λ (x : ℕ). Going texts closed number inner later first all bs e a x p_after ds) (sym is_f)
    (subst (λ (x : ℕ). Going texts closed number inner later first all bs e a f x ds) (sym is_p) g))))

-- one turn of the loop that places them
pub place_turn : (texts : List (List ℕ)) (closed : List ClosedName) (number : ℕ) (inner : List Text) (later : List NamedScope) (first : ℕ) (all : List Declaration) (names : List DeclaredName) (i : ℕ) (old new : List Binding)
    (env arg frame place env_after arg_after frame_after place_after : ℕ) (found : Bool) (slot : Slot) (name : DeclaredName)
    → i < length names → name ≡ get_or names i (record { atom = 0; kind = bind.Param })
    → found ≡ first_is number (text_at texts name.atom) (named_left texts closed place)
    → (SlotFits (slot_of scope.Lexical env arg frame (record { kind = name.kind; closed = found })) → slot ≡ slot_of scope.Lexical env arg frame (record { kind = name.kind; closed = found }))
    → new ≡ old ++ record { atom = name.atom; kind = name.kind; slot = slot } ∷ []
    → env_after ≡ env + (if found then 1 else 0) → arg_after ≡ arg + (if is_param name.kind then 1 else 0) → frame_after ≡ frame + (if takes_frame slot then 1 else 0) → place_after ≡ place + (if found then 1 else 0)
    → Going texts closed number inner later first all (named_bindings texts old) env arg frame place (declarations_of texts (drop i names))
    → Going texts closed number inner later first all (named_bindings texts new) env_after arg_after frame_after place_after (declarations_of texts (drop (i + 1) names))
place_turn texts closed number inner later first all names i old new env arg frame place env_after arg_after frame_after place_after found slot name lt is_name is_found is_slot pushed is_env_after is_arg is_frame is_place g =
    let d : Declaration = declaration_of texts name in
    let one : i + 1 ≡ suc i = omega arith in
    let split : declarations_of texts (drop i names) ≡ d ∷ declarations_of texts (drop (i + 1) names) =
    ap (declarations_of texts) (drop-cons names i (record { atom = 0; kind = bind.Param }) lt)
    ∙ (ap (λ (n : DeclaredName). declaration_of texts n ∷ declarations_of texts (drop (suc i) names)) (sym is_name)
    ∙ ap (λ (k : ℕ). d ∷ declarations_of texts (drop k names)) (sym one)) in
    let here : Going texts closed number inner later first all (named_bindings texts old) env arg frame place (d ∷ declarations_of texts (drop (i + 1) names)) =
    subst (λ (ds : List Declaration). Going texts closed number inner later first all (named_bindings texts old) env arg frame place ds) split g in
    let known : found ≡ has_text inner d.text = is_found ∙ closed_known texts closed number inner later env arg frame place d (declarations_of texts (drop (i + 1) names)) here.ready in
    let slot_known : slot ≡ slot_of scope.Lexical env arg frame (record { kind = d.kind; closed = has_text inner d.text }) =
    subst (λ (b : Bool). SlotFits (slot_of scope.Lexical env arg frame (record { kind = d.kind; closed = b })) → slot ≡ slot_of scope.Lexical env arg frame (record { kind = d.kind; closed = b })) known is_slot here.ready.fits.0 in
    let bound : named_bindings texts new ≡ named_bindings texts old ++ entry (has_text inner d.text) env arg frame d ∷ [] =
    ap (named_bindings texts) pushed
    ∙ (map-append (named_binding texts) old (record { atom = name.atom; kind = name.kind; slot = slot } ∷ [])
    ∙ ap (λ (s : Slot). named_bindings texts old ++ record { text = d.text; kind = d.kind; slot = s } ∷ []) slot_known) in
    let env_known : env_after ≡ env + (if has_text inner d.text then 1 else 0) = is_env_after ∙ ap (λ (b : Bool). env + (if b then 1 else 0)) known in
    let place_known : place_after ≡ place + (if has_text inner d.text then 1 else 0) = is_place ∙ ap (λ (b : Bool). place + (if b then 1 else 0)) known in
    let frame_known : frame_after ≡ frame + (if takes_frame (slot_of scope.Lexical env arg frame (record { kind = d.kind; closed = has_text inner d.text })) then 1 else 0) = is_frame ∙ ap (λ (s : Slot). frame + (if takes_frame s then 1 else 0)) slot_known in
    let next : Going texts closed number inner later first all (named_bindings texts old ++ entry (has_text inner d.text) env arg frame d ∷ [])
    (env + (if has_text inner d.text then 1 else 0)) (arg + (if is_param d.kind then 1 else 0))
    (frame + (if takes_frame (slot_of scope.Lexical env arg frame (record { kind = d.kind; closed = has_text inner d.text })) then 1 else 0))
    (place + (if has_text inner d.text then 1 else 0)) (declarations_of texts (drop (i + 1) names)) =
    going_next texts closed number inner later first all (named_bindings texts old) env arg frame place d (declarations_of texts (drop (i + 1) names)) here in
    going_alike texts closed number inner later first all (declarations_of texts (drop (i + 1) names))
    (named_bindings texts old ++ entry (has_text inner d.text) env arg frame d ∷ []) (named_bindings texts new)
    (env + (if has_text inner d.text then 1 else 0)) env_after (arg + (if is_param d.kind then 1 else 0)) arg_after
    (frame + (if takes_frame (slot_of scope.Lexical env arg frame (record { kind = d.kind; closed = has_text inner d.text })) then 1 else 0)) frame_after
    (place + (if has_text inner d.text then 1 else 0)) place_after
    bound env_known is_arg frame_known place_known next

pub one_at_most : (b : Bool) → (if b then 1 else 0) ≤ 1
one_at_most true = omega arith
one_at_most false = omega arith
