-- What a part of a tree tells: which uses in it reach a name that is bound around it, and which functions are in it.
use Rattle.std.proofs.Common.{◌≡◌, ℕ, Bool, true, false, cond, ◌||◌, ◌&&◌, not, bytes_eq, Option, option_map, List, [], ◌∷◌, ◌++◌, map, All, refl, sym, ap, ap₂, subst, ◌∙◌, append_assoc, append-nil, inl, inr}
use Rattle.std.proofs.lemmas.List.{map-append}
use Rattle.std.proofs.lemmas.List.Elements.{All-nil, All-append}
use Rattle.script_grammar.specs.Pieces.{whole}
use Rattle.script_grammar.specs.Proper.{ProperFunction}
use Rattle.script_grammar.specs.Tree.{Named, Function}
use Rattle.stencil_data.specs.declared.functions.FuncKind.{FuncKind}
use Rattle.stencil_data.specs.declared.functions.FuncKind.TheVariants as func
use Rattle.grammar_start_laws.specs.Started.{Started}
use Rattle.parse_track.specs.declared.region.Declare.{Declare}
use Rattle.parse_track.specs.Told as told
use Rattle.parse_track.specs.Told.{Name, Region, Told, nothing, leaf, inner}
use Rattle.parse_track.specs.RegionNames.{is_lexical, is_lambda, directly}
use Rattle.parse_track.specs.EarlyErrors.{has}
use Rattle.parse_track.specs.ClosedNames.{names_of, distinct, scope_if_any, joined, begins, at_of}
use Rattle.parse_track.specs.Tells.{Text}
use Rattle.scope_analysis.specs.DeclaredNames.{has_text, function_name}
use Rattle.scope_analysis.specs.Uses.{Uses, no_uses, use_of, uses_both, uses_without}
use Rattle.scope_analysis.specs.Functions.{Inner}
use Rattle.scope_closed_laws.proofs.Texts.{or_false, equal_sym, has-has_text, has_text-append, has_text-without, has-distinct}
use Rattle.scope_closed_laws.proofs.Own.{names_in, reaches_in, starts, told_of, Occurs}

-- whether these uses reach a name, where what uses it stands inside a function or not
abbrev pub is_used : Bool → Uses → Text → Bool
is_used within u x = (within && has_text u.own x) || has_text u.inner x

-- the name that a function has where it stands, if it binds it
abbrev pub NameFits : FuncKind → Option Text → Function → Type 0
NameFits func.Expression name f = name ≡ option_map (λ (n : Named). n.text) (function_name f)
NameFits _ name f = Unit {0}

-- a function that is told here, as the tree has it
pub record Found (u : Told Text) (f : Inner) : Type 0 where
  pub there : Occurs (told_of f.kind f.func) false u
  pub proper : ProperFunction whole f.func
  pub named : NameFits f.kind f.name f.func

pub record Reads (uses : Uses) (begun : List Started) (sites : List Inner) (t u : Told Text) : Type 0 where
  pub reach : (within : Bool) (x : Text) → reaches_in false within x u ≡ (is_used within uses x || reaches_in false within x t)
  pub start : starts false u ≡ map (λ (s : Started). s.start) begun ++ starts false t
  pub sited : All (Found u) sites
  pub kept : (f : Told Text) → Occurs f false t → Occurs f false u

-- ---- steps

none_used : (w r : Bool) → r ≡ (((w && false) || false) || r)
none_used true r = refl
none_used false r = refl

pub reads_none : (t : Told Text) → Reads no_uses [] [] t t
reads_none t = record { reach = λ within x. none_used within (reaches_in false within x t); start = refl; sited = All-nil (Found t); kept = λ f o. o }

use_step : (w b r : Bool) → ((w && b) || r) ≡ (((w && (b || false)) || false) || r)
use_step true true r = refl
use_step true false r = refl
use_step false b r = refl

pub reads_use : (y : Text) (t : Told Text) → Reads (use_of y) [] [] t (leaf (told.Used y) t)
reads_use y t = record {
  reach = λ within x. ap (λ (b : Bool). (within && b) || reaches_in false within x t) (equal_sym x y) ∙ use_step within (bytes_eq y x) (reaches_in false within x t);
  start = refl;
  sited = All-nil (Found (leaf (told.Used y) t));
  kept = λ f o. o;
}

both_step : (w p r q s z : Bool) → (((w && p) || r) || (((w && q) || s) || z)) ≡ (((w && (p || q)) || (r || s)) || z)
both_step false p true q s z = refl
both_step false p false q s z = refl
both_step true true r q s z = refl
both_step true false true true s z = refl
both_step true false true false s z = refl
both_step true false false true s z = refl
both_step true false false false s z = refl

used_both : (w : Bool) (a b : Uses) (x : Text) → is_used w (uses_both a b) x ≡ ((w && (has_text a.own x || has_text b.own x)) || (has_text a.inner x || has_text b.inner x))
used_both w a b x = ap₂ (λ (p q : Bool). (w && p) || q) (has_text-append x a.own b.own) (has_text-append x a.inner b.inner)

pub found_more : (t u : Told Text) (f : Inner) → ((g : Told Text) → Occurs g false t → Occurs g false u) → Found t f → Found u f
found_more t u f kept found = record { there = kept _ found.there; proper = found.proper; named = found.named }

pub reads_both : (a b : Uses) (bs cs : List Started) (fs gs : List Inner) (s t u : Told Text) → Reads a bs fs t u → Reads b cs gs s t → Reads (uses_both a b) (bs ++ cs) (fs ++ gs) s u
reads_both a b bs cs fs gs s t u p q = record {
  reach = λ within x.
      p.reach within x
      ∙ (ap (λ (r : Bool). is_used within a x || r) (q.reach within x)
      ∙ (both_step within (has_text a.own x) (has_text a.inner x) (has_text b.own x) (has_text b.inner x) (reaches_in false within x s)
      ∙ ap (λ (r : Bool). r || reaches_in false within x s) (sym (used_both within a b x))));
  start =
      p.start
      ∙ (ap (λ (ns : List ℕ). map (λ (c : Started). c.start) bs ++ ns) q.start
      ∙ (sym (append_assoc (map (λ (c : Started). c.start) bs) (map (λ (c : Started). c.start) cs) (starts false s))
      ∙ ap (λ (ns : List ℕ). ns ++ starts false s) (sym (map-append (λ (c : Started). c.start) bs cs))));
  sited = All-append (Found u) fs gs p.sited (λ k d lt. found_more t u _ p.kept (q.sited k d lt));
  kept = λ f o. p.kept f (q.kept f o);
}

pub reads_as : (a b : Uses) (bs : List Started) (fs : List Inner) (t u : Told Text) → ((within : Bool) (x : Text) → is_used within a x ≡ is_used within b x) → Reads a bs fs t u → Reads b bs fs t u
reads_as a b bs fs t u e p = record {
  reach = λ within x. p.reach within x ∙ ap (λ (r : Bool). r || reaches_in false within x t) (e within x);
  start = p.start;
  sited = p.sited;
  kept = p.kept;
}

-- ---- regions that are no functions

pub record IsInner (k : Region Text) : Type 0 where
  pub begins : begins false k ≡ false
  pub lambda : is_lambda k ≡ false

abbrev pub of_block : IsInner told.Block
of_block = record { begins = refl; lambda = refl }

abbrev pub of_switch : IsInner told.Switch
of_switch = record { begins = refl; lambda = refl }

abbrev pub of_head : IsInner told.ForHead
of_head = record { begins = refl; lambda = refl }

abbrev pub of_catch : IsInner told.Catch
of_catch = record { begins = refl; lambda = refl }

abbrev pub of_loop : IsInner told.Loop
of_loop = record { begins = refl; lambda = refl }

abbrev pub of_label : (name : Name Text) → IsInner (told.Label name)
of_label name = record { begins = refl; lambda = refl }

abbrev pub of_body : IsInner told.VarBody
of_body = record { begins = refl; lambda = refl }

without_step : (w b p q : Bool) → (not b && ((w && p) || q)) ≡ ((w && (not b && p)) || (not b && q))
without_step true true p q = refl
without_step true false p q = refl
without_step false true p q = refl
without_step false false p q = refl

used_without : (w : Bool) (gone : List Text) (u : Uses) (x : Text) → (not (has_text gone x) && is_used w u x) ≡ is_used w (uses_without gone u) x
used_without w gone u x =
    without_step w (has_text gone x) (has_text u.own x) (has_text u.inner x)
    ∙ ap₂ (λ (p q : Bool). (w && p) || q) (sym (has_text-without x gone u.own)) (sym (has_text-without x gone u.inner))

-- what is in a region, read from the region
reach_in : (k : Region Text) (i : Told Text) (u : Uses) (w : Bool) (x : Text) → IsInner k
    → ((within : Bool) (x : Text) → reaches_in false within x i ≡ (is_used within u x || false)) → reaches_in (is_lambda k) (w || begins false k) x i ≡ is_used w u x
reach_in k i u w x plain h =
    ap (λ (l : Bool). reaches_in l (w || begins false k) x i) plain.lambda
    ∙ (ap (λ (b : Bool). reaches_in false (w || b) x i) plain.begins
    ∙ (ap (λ (b : Bool). reaches_in false b x i) (or_false w) ∙ (h w x ∙ or_false (is_used w u x))))

starts_in : (k : Region Text) (at : ℕ) (i t : Told Text) (bs : List Started) → IsInner k → starts false i ≡ map (λ (s : Started). s.start) bs ++ []
    → starts false (inner k at i t) ≡ map (λ (s : Started). s.start) bs ++ starts false t
starts_in k at i t bs plain e =
    ap (λ (b : Bool). cond b (at_of k at i ∷ []) [] ++ (starts (is_lambda k) i ++ starts false t)) plain.begins
    ∙ (ap (λ (l : Bool). starts l i ++ starts false t) plain.lambda
    ∙ ap (λ (ns : List ℕ). ns ++ starts false t) (e ∙ append-nil _))

occurs_in : (k : Region Text) (at : ℕ) (i t f : Told Text) → IsInner k → Occurs f false i → Occurs f false (inner k at i t)
occurs_in k at i t f plain o = inr (inl (subst (λ (l : Bool). Occurs f l i) (sym plain.lambda) o))

pub reads_region : (bound : List Text) (u : Uses) (bs : List Started) (fs : List Inner) (k : Region Text) (at : ℕ) (i t : Told Text) → IsInner k
    → ((x : Text) → has bytes_eq x (names_in k i) ≡ has_text bound x) → Reads u bs fs nothing i → Reads (uses_without bound u) bs fs t (inner k at i t)
reads_region bound u bs fs k at i t plain names p = record {
  reach = λ within x.
      ap (λ (r : Bool). r || reaches_in false within x t)
      (ap₂ (λ (b c : Bool). not b && c) (names x) (reach_in k i u within x plain p.reach) ∙ used_without within bound u x);
  start = starts_in k at i t bs plain p.start;
  sited = λ j d lt. found_more i (inner k at i t) _ (λ f o. occurs_in k at i t f plain o) (p.sited j d lt);
  kept = λ f o. inr (inr o);
}

pub reads_bare : (u : Uses) (bs : List Started) (fs : List Inner) (k : Region Text) (at : ℕ) (i t : Told Text) → IsInner k
    → names_in k i ≡ [] → Reads u bs fs nothing i → Reads u bs fs t (inner k at i t)
reads_bare u bs fs k at i t plain names p = record {
  reach = λ within x.
      ap (λ (r : Bool). r || reaches_in false within x t)
      (ap₂ (λ (b c : Bool). not b && c) (ap (has bytes_eq x) names) (reach_in k i u within x plain p.reach));
  start = starts_in k at i t bs plain p.start;
  sited = λ j d lt. found_more i (inner k at i t) _ (λ f o. occurs_in k at i t f plain o) (p.sited j d lt);
  kept = λ f o. inr (inr o);
}

-- ---- the names of regions

pub joined-any : (xs : List Text) → joined (scope_if_any xs) ≡ xs
joined-any [] = refl
joined-any (x ∷ xs) = append-nil (x ∷ xs)

-- a region that binds its lexical names
pub lexical_has : (x : Text) (i : Told Text) (ts : List Text) → names_of (directly is_lexical i) ≡ ts → has bytes_eq x (joined (scope_if_any (distinct bytes_eq (names_of (directly is_lexical i))))) ≡ has_text ts x
lexical_has x i ts e = ap (has bytes_eq x) (joined-any _) ∙ (has-distinct x _ ∙ (ap (has bytes_eq x) e ∙ has-has_text x ts))

pub no_names : (i : Told Text) → names_of (directly is_lexical i) ≡ [] → joined (scope_if_any (distinct bytes_eq (names_of (directly is_lexical i)))) ≡ []
no_names i e = ap (λ (us : List Text). joined (scope_if_any (distinct bytes_eq us))) e

-- ---- leaves

pub reads_declared : (u : Uses) (bs : List Started) (fs : List Inner) (h : Declare) (name : Name Text) (s t : Told Text) → Reads u bs fs s t → Reads u bs fs s (leaf (told.Declared h name) t)
reads_declared u bs fs h name s t p = record { reach = p.reach; start = p.start; sited = λ k d lt. found_more t _ _ (λ f o. o) (p.sited k d lt); kept = p.kept }

pub reads_jump : (j : _) (at : ℕ) (label : _) (t : Told Text) → Reads no_uses [] [] t (leaf (told.Jumped j at label) t)
reads_jump j at label t = record { reach = λ within x. none_used within (reaches_in false within x t); start = refl; sited = All-nil (Found _); kept = λ f o. o }

pub reads_sites : (u : Uses) (bs : List Started) (fs gs : List Inner) (t v : Told Text) → fs ≡ gs → Reads u bs fs t v → Reads u bs gs t v
reads_sites u bs fs gs t v e p = subst (λ (hs : List Inner). Reads u bs hs t v) e p

-- where nothing is bound around
used_all : (w : Bool) (u : Uses) (x : Text) → is_used w u x ≡ is_used w (uses_without [] u) x
used_all w u x = used_without w [] u x

pub reads_unbound : (u : Uses) (bs : List Started) (fs : List Inner) (s t : Told Text) → Reads u bs fs s t → Reads (uses_without [] u) bs fs s t
reads_unbound u bs fs s t p = reads_as u (uses_without [] u) bs fs s t (λ w x. used_all w u x) p
