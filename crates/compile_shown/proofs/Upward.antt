-- What stands around a function that is shown is shown.
use Rattle.std.proofs.Common.{◌≡◌, ◌≢◌, ◌∙◌, ℕ, zero, suc, ◌-◌, Bool, true, false, List, Some, length, refl, sym, subst, arith}
use Rattle.std.specs.Prelude.{Contains, slice_get}
use Rattle.std.proofs.lemmas.Option.{get_or_from_slice_get, slice_get_within}
use Rattle.scope_analysis.specs.Functions.{Inner, inner_function}
use Rattle.emit_stmts.specs.Functions.{extent_of}
use Rattle.compile_specs.specs.Eager.{Site}
use Rattle.compile_specs.specs.Shown.{Wanted}
use Rattle.lazy_compile.proofs.Records.{is_in}
use Rattle.compile_initial.specs.declared.InitialStencil.{InitialStencil}
use Rattle.compile_initial.specs.Initial.{IsInitialOf, StandsInside}
use Rattle.compile_lazy_laws.proofs.Asking.{can_delazify_part}
use Rattle.lazy_function.specs.Numbered.{around_in}
use Rattle.lazy_function.proofs.Numbered.{found_at}
use Rattle.stencil_board.specs.Passes.{IsUpward}
use Rattle.compile_shown.specs.Counting.{extents_in}
use Rattle.compile_shown.specs.Shown.{AreFlags, flagged}
use Rattle.compile_shown.proofs.Flags.{flag_of, one_at, same_count, shown_at, top}
use Rattle.compile_shown.proofs.Nested.{extent_ends, extent_starts, nested}
use Rattle.compile_shown.proofs.Unshown.{not_shown_inside}

found_in : {A : Type 0} (xs : List A) (k : ℕ) (x : A) → slice_get xs k ≡ Some x → Contains xs x
found_in xs k x at = (k, slice_get_within xs k x at, get_or_from_slice_get xs k x x at)

not_false : (b : Bool) → (b ≡ false → ⊥) → b ≡ true
not_false true h = refl
not_false false h = absurd (h refl)

module _ (want : Wanted) (bytes : List ℕ) (made : InitialStencil) (is : IsInitialOf bytes made) where
  -- a function directly in another one: where that one is not shown, it is not
  unshown : (place : ℕ) (outer : Site) (f : Inner) → slice_get is.all place ≡ Some outer → Contains (inner_function outer.inner.kind outer.inner.name outer.inner.func) f
      → shown_at want bytes made is (extent_of outer.inner.func) ≡ false → shown_at want bytes made is (extent_of f.func) ≡ false
  unshown place outer f at there lacks =
      let within = slice_get_within is.all place outer at in
      let count = same_count want bytes made is in
      let recorded = one_at made.parts.records place (omega (arith, within, count)) in
      let c = can_delazify_part bytes is.items (length made.parts.records) is.all made.parts is.named (top want bytes made is) place outer recorded.0 outer.chain is.valid is.short is.functions is.is is.stands is.few at recorded.1 refl in
      let n = nested bytes c.utf8 is.items c.text outer.inner f (is_in is.items outer.inner c.function.of) there in
      let starts = n.starts in
      let ends = n.ends in
      let a = extent_starts outer.inner.func in
      let b = extent_starts f.func in
      let d = extent_ends outer.inner.func in
      let e = extent_ends f.func in
      not_shown_inside want (extents_in made.parts.records) (extent_of outer.inner.func) (extent_of f.func) (omega (arith, starts, a, b)) (omega (arith, ends, d, e)) lacks

  around_shown : (flags : List Bool) (number place : ℕ) (f : Inner) → AreFlags want made.parts.records flags → number ≢ 0 → StandsInside is.all number place f → shown_at want bytes made is (extent_of f.func) ≡ true
      → flagged flags number ≡ true
  around_shown flags zero place f are some inside shows = absurd (some refl)
  around_shown flags (suc k) place f are some inside shows =
      let outer : Site = inside.0 in
      let one : suc k - 1 ≡ k = omega arith in
      let there : slice_get is.all (suc k - 1) ≡ Some outer = subst (λ (n : ℕ). slice_get is.all n ≡ Some outer) (sym one) inside.1 in
      flag_of want bytes made is flags (suc k) outer are (omega arith) there
      ∙ not_false (shown_at want bytes made is (extent_of outer.inner.func))
      (λ lacks.
      let none = unshown k outer f inside.1 (found_in (inner_function outer.inner.kind outer.inner.name outer.inner.func) place f inside.2) lacks in
      let e : true ≡ false = sym shows ∙ none in
      absurd (cc))

  pub upward : (flags : List Bool) → AreFlags want made.parts.records flags → IsUpward made (flagged flags)
  upward flags are number n shows some =
      let f = found_at bytes made is number n in
      around_shown flags (around_in made number).number (around_in made number).place f.s.inner are some f.around.inside
      (sym (flag_of want bytes made is flags number f.s are n.0 f.at) ∙ shows)
