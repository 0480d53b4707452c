use Rattle.std.proofs.Common.{◌∙◌, List, [], ◌∷◌, ◌++◌, take, slice_index_or, sym, ap, subst}
use Rattle.std.proofs.lemmas.List.{take_more}
use Rattle.stencil_data.specs.declared.functions.Extent.{Extent}
use Rattle.parse_function.specs.declared.holes.Hole.{Hole}
use Rattle.parse_function.specs.Holes.{AreFound, nothing, IsHole}
use Rattle.parse_function.proofs.HolesFound.{are_holes, function_at, add_found, add_passed, all_taken}
use Rattle.parse_function.proofs.holes.holes_in.Goals.{in-Some+in_ok-push, in_default}
use Rattle.parse_function.proofs.holes.holes_in.Goals as goal

pub loop-inner-init : goal.loop-inner-init
loop-inner-init c = subst (λ (hs : List Hole). AreFound c.args.file.now [] hs) (sym c.new-holes.ensures.items) nothing

pub hole_of-requires-clause-function : goal.hole_of-requires-clause-function
hole_of-requires-clause-function c =
    let d = c.requires.function.1 in
    function_at c.args.file.now c.args.extent c.requires.function.0 d.items d.inner d.is c.args.inside.now d.inside_are c.loop-inner.inner-index (record { start = 0; end = 0 }) c.loop-inner-test.true

pub loop-inner-preserved : goal.loop-inner-preserved
loop-inner-preserved c =
    let file = c.args.file.now in
    let inside = c.args.inside.now in
    let k = c.loop-inner.inner-index in
    let e = slice_index_or inside k (record { start = 0; end = 0 }) in
    let more = take_more inside k (record { start = 0; end = 0 }) c.loop-inner-test.true in
    elim c.match-found.branch [
      | in-Some+in_ok-push w ↦
          let hole : IsHole file e w.in-Some.hole = rw w.in-Some.is at c.in_ok-found.ensures in
          subst (λ (es : List Extent). AreFound file es c.match-found.holes.items) (sym more)
          (subst (λ (hs : List Hole). AreFound file (take k inside ++ e ∷ []) hs) (sym (ap (λ v. v.items) w.holes-is ∙ w.in_ok-push.ensures.items))
          (add_found file (take k inside) c.loop-inner.holes.items e w.in-Some.hole c.loop-inner.invariant hole))
      | in_default w ↦
          subst (λ (es : List Extent). AreFound file es c.match-found.holes.items) (sym more)
          (subst (λ (hs : List Hole). AreFound file (take k inside ++ e ∷ []) hs) (sym (ap (λ v. v.items) w.holes-is))
          (add_passed file (take k inside) c.loop-inner.holes.items e c.loop-inner.invariant))
    ]

pub returns : goal.returns
returns c = λ form items i x e.
    are_holes c.args.file.now c.args.extent form items i x c.args.inside.now c.loop-inner.holes.items e
    (all_taken c.args.file.now c.args.inside.now c.loop-inner.inner-index c.loop-inner.holes.items c.loop-inner-test.false c.loop-inner.invariant)
