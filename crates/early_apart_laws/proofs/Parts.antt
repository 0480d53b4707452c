-- The early errors of a part, in pieces that are put together.
use Rattle.std.proofs.Common.{◌≡◌, Option, None, Some, List, [], ◌∷◌, ◌++◌, refl, sym, ap, ◌∙◌}
use Rattle.parse_track.specs.declared.region.Early.{Early}
use Rattle.parse_track.specs.EarlyErrors.{sooner}
use Rattle.parse_track.specs.Notes.{first_note}
use Rattle.early_apart_laws.proofs.Sooner.{sooner_none, sooner_assoc, sooner_comm, first_note-append}

-- The first of the early errors of a part is the first of `kept`, those that it has with its bodies emptied, of those of its bodies, and of
-- `late`. Those of the bodies are what leads from `behind` to `ahead`, the first of bodies without and with these.
pub record Apart (notes kept late : List Early) (ahead behind : Option Early) : Type 0 where
  pub first : sooner (first_note notes) behind ≡ sooner (first_note kept) (sooner ahead (first_note late))

pub nothing : {x : Option Early} → Apart [] [] [] x x
nothing {x} = record { first = sym (sooner_none x) }

-- errors of a node's own, which it keeps
pub own : {x : Option Early} (notes kept : List Early) → kept ≡ notes → Apart notes kept [] x x
own {x} notes kept same = record { first = ap (λ (es : List Early). sooner (first_note es) x) (sym same) ∙ ap (sooner (first_note kept)) (sym (sooner_none x)) }

-- errors that come late
pub moved : {x : Option Early} (notes : List Early) → Apart notes [] notes x x
moved {x} notes = record { first = sooner_comm (first_note notes) x }

-- one part after another
pub both : {notes kept late notes2 kept2 late2 : List Early} {ahead mid behind : Option Early} → Apart notes kept late ahead mid → Apart notes2 kept2 late2 mid behind
    → Apart (notes ++ notes2) (kept ++ kept2) (late ++ late2) ahead behind
both {notes} {kept} {late} {notes2} {kept2} {late2} {ahead} {mid} {behind} h k = record {
  first = ap (λ (o : Option Early). sooner o behind) (first_note-append notes notes2)
      ∙ (sym (sooner_assoc (first_note notes) (first_note notes2) behind)
      ∙ (ap (sooner (first_note notes)) k.first
      ∙ (sooner_assoc (first_note notes) (first_note kept2) (sooner mid (first_note late2))
      ∙ (ap (λ (o : Option Early). sooner o (sooner mid (first_note late2))) (sooner_comm (first_note notes) (first_note kept2))
      ∙ (sym (sooner_assoc (first_note kept2) (first_note notes) (sooner mid (first_note late2)))
      ∙ (ap (sooner (first_note kept2)) (sooner_assoc (first_note notes) mid (first_note late2) ∙ ap (λ (o : Option Early). sooner o (first_note late2)) h.first)
      ∙ (ap (sooner (first_note kept2)) (sym (sooner_assoc (first_note kept) (sooner ahead (first_note late)) (first_note late2)))
      ∙ (sooner_assoc (first_note kept2) (first_note kept) (sooner (sooner ahead (first_note late)) (first_note late2))
      ∙ (ap (λ (o : Option Early). sooner o (sooner (sooner ahead (first_note late)) (first_note late2))) (sooner_comm (first_note kept2) (first_note kept) ∙ sym (first_note-append kept kept2))
      ∙ ap (sooner (first_note (kept ++ kept2))) (sym (sooner_assoc ahead (first_note late) (first_note late2)) ∙ ap (sooner ahead) (sym (first_note-append late late2))))))))))));
}

-- the statements of a body in braces, whose errors with its own bodies emptied are `kept`
pub braced : {notes late : List Early} {ahead behind : Option Early} (kept : List Early) → Apart notes kept late ahead behind → Apart notes [] late (sooner (first_note kept) ahead) behind
braced {notes} {late} {ahead} {behind} kept h = record { first = h.first ∙ sooner_assoc (first_note kept) ahead (first_note late) }

-- the same late errors in another order
pub late_swapped : {notes kept : List Early} {ahead behind : Option Early} (xs ys zs : List Early) → Apart notes kept (xs ++ (ys ++ zs)) ahead behind → Apart notes kept (ys ++ (xs ++ zs)) ahead behind
late_swapped {notes} {kept} {ahead} {behind} xs ys zs h = record { first = h.first ∙ ap (λ (o : Option Early). sooner (first_note kept) (sooner ahead o)) (swapped xs ys zs) }
  where
    one : (ps qs rs : List Early) → first_note (ps ++ (qs ++ rs)) ≡ sooner (sooner (first_note ps) (first_note qs)) (first_note rs)
    one ps qs rs = first_note-append ps (qs ++ rs) ∙ (ap (sooner (first_note ps)) (first_note-append qs rs) ∙ sooner_assoc (first_note ps) (first_note qs) (first_note rs))

    swapped : (ps qs rs : List Early) → first_note (ps ++ (qs ++ rs)) ≡ first_note (qs ++ (ps ++ rs))
    swapped ps qs rs = one ps qs rs ∙ (ap (λ (o : Option Early). sooner o (first_note rs)) (sooner_comm (first_note ps) (first_note qs)) ∙ sym (one qs ps rs))

-- what a whole part says
pub of_whole : {notes kept late : List Early} (bodies : List Early) → Apart notes kept late (first_note bodies) None → first_note notes ≡ first_note (kept ++ (bodies ++ late))
of_whole {notes} {kept} {late} bodies h =
    sym (sooner_none (first_note notes)) ∙ (h.first
    ∙ (ap (sooner (first_note kept)) (sym (first_note-append bodies late)) ∙ sym (first_note-append kept (bodies ++ late))))
