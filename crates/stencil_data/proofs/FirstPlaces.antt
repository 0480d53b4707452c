-- An index of names that is made from the last name on.
use Rattle.std.proofs.Common.{◌≡◌, ℕ, ◌+◌, ◌<◌, ◌≤◌, cond, List, [], ◌∷◌, length, drop, get_or, inl, inr, sym, ◌∙◌, ap, arith, bytes_eq}
use Rattle.std.specs.Prelude.{Option, Some, None, slice_get}
use Rattle.std.specs.BTreeMap.{get}
use Rattle.std.specs.Cmp.Lexicographic.{slice_cmp}
use Rattle.std.specs.Ordering.{nat_cmp, is_eq}
use Rattle.std.proofs.lemmas.Bool.{cases_Bool, cond-true, cond-false}
use Rattle.std.proofs.lemmas.List.{drop_more, drop_all}
use Rattle.std.specs.Map.{lookup}
use Rattle.std.proofs.lemmas.Option.{slice_get-get_or}
use Rattle.stencil_data.specs.declared.chains.LinkName.{LinkName}
use Rattle.stencil_data.specs.Resolve.{first_named}
use Rattle.stencil_data.specs.FirstPlaces.{Places, binding_at, LeadsToFirst}

-- each name leads to its first binding among those from this place on
pub record LeadsFrom (names : List LinkName) (places : Places) (place : ℕ) : Type 0 where
  pub within : place ≤ length names
  pub leads : (name : List ℕ) → binding_at names (get (slice_cmp nat_cmp) places name) ≡ first_named name (drop place names)

-- one binding more, whose name takes the place of an equal one
pub one_before : (names : List LinkName) (before after : Places) (place next : ℕ) (binding : LinkName) → LeadsFrom names before next → next ≡ place + 1
    → binding ≡ get_or names place binding
    → ((name : List ℕ) → get (slice_cmp nat_cmp) after name ≡ cond (bytes_eq binding.text name) (Some place) (get (slice_cmp nat_cmp) before name)) → LeadsFrom names after place
one_before names before after place next binding from next_is is put = record { within = omega (arith, from.within, next_is); leads = leads }
  where
    inside : place < length names
    inside = omega (arith, from.within, next_is)

    here : drop place names ≡ binding ∷ drop (place + 1) names
    here = drop_more names place binding inside ∙ ap (λ (b : LinkName). b ∷ drop (place + 1) names) (sym is)

    there : slice_get names place ≡ Some binding
    there = slice_get-get_or names place binding inside ∙ ap (λ (b : LinkName). Some b) (sym is)

    old : (name : List ℕ) → binding_at names (get (slice_cmp nat_cmp) before name) ≡ first_named name (drop (place + 1) names)
    old name = from.leads name ∙ ap (λ (n : ℕ). first_named name (drop n names)) next_is

    leads : (name : List ℕ) → binding_at names (get (slice_cmp nat_cmp) after name) ≡ first_named name (drop place names)
    leads name = ap (λ (o : Option ℕ). binding_at names o) (put name) ∙ (elim (cases_Bool (bytes_eq binding.text name)) as (λ _. binding_at names (cond (bytes_eq binding.text name) (Some place) (get (slice_cmp nat_cmp) before name)) ≡ first_named name (binding ∷ drop (place + 1) names)) [
      | inl y ↦ ap (λ (o : Option ℕ). binding_at names o) (cond-true (bytes_eq binding.text name) (Some place) (get (slice_cmp nat_cmp) before name) y) ∙ there ∙ sym (cond-true (bytes_eq binding.text name) (Some binding) (first_named name (drop (place + 1) names)) y)
      | inr n ↦ ap (λ (o : Option ℕ). binding_at names o) (cond-false (bytes_eq binding.text name) (Some place) (get (slice_cmp nat_cmp) before name) n) ∙ old name ∙ sym (cond-false (bytes_eq binding.text name) (Some binding) (first_named name (drop (place + 1) names)) n)
    ]) ∙ ap (λ (l : List LinkName). first_named name l) (sym here)

-- no names yet
pub none_from_end : (names : List LinkName) (places : Places) (place : ℕ) → place ≡ length names → places.entries ≡ [] → LeadsFrom names places place
none_from_end names places place is empty = record {
  within = omega (arith, is);
  leads = λ name. ap (λ (o : Option ℕ). binding_at names o) (nothing name) ∙ ap (λ (l : List LinkName). first_named name l) (sym behind);
}
  where
    nothing : (name : List ℕ) → get (slice_cmp nat_cmp) places name ≡ None
    nothing name = ap (λ (es : List (List ℕ × ℕ)). lookup (λ (key : List ℕ). is_eq (slice_cmp nat_cmp name key)) es) empty

    behind : drop place names ≡ []
    behind = drop_all place names (omega (arith, is))

-- all names
pub leads_from_start : (names : List LinkName) (places : Places) (place : ℕ) → place ≡ 0 → LeadsFrom names places place → LeadsToFirst names places
leads_from_start names places place start from = λ name. from.leads name ∙ ap (λ (n : ℕ). first_named name (drop n names)) start
