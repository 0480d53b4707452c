-- How the first early errors of parts make that of the whole.
use Rattle.std.proofs.Common.{◌≡◌, ◌∙◌, Option, Some, None, List, [], ◌∷◌, ◌++◌, map, refl, sym, ap, subst}
use Rattle.script_grammar.specs.Shows.{ShowAll, ShowMaybe}
use Rattle.parse_track.specs.declared.region.Early.{Early}
use Rattle.parse_track.specs.EarlyErrors.{sooner}
use Rattle.parse_track.specs.Notes.{first_note}
use Rattle.parse_early_handler.specs.Firsts.{first_of, maybe_first}
use Rattle.parse_early_handler.proofs.Sooner.{first_note-append}

-- the first of these early errors
pub record IsFirst (first : Option Early) (errors : List Early) : Type 0 where
  pub is : first ≡ first_note errors

pub none-first : IsFirst None []
none-first = record { is = refl }

pub then-first : {f g : Option Early} {xs ys : List Early} → IsFirst f xs → IsFirst g ys → IsFirst (sooner f g) (xs ++ ys)
then-first {f = f} {g = g} {xs = xs} {ys = ys} h k =
    record { is = ap (λ (o : Option Early). sooner o g) h.is ∙ (ap (sooner (first_note xs)) k.is ∙ sym (first_note-append xs ys)) }

pub same-first : {f g : Option Early} {xs : List Early} → f ≡ g → IsFirst g xs → IsFirst f xs
same-first e h = record { is = e ∙ h.is }

-- the same of an equal part
pub first-as : {M : Type 0} {f : Option Early} (p : M → List Early) {u v : M} → u ≡ v → IsFirst f (p v) → IsFirst f (p u)
first-as {f = f} p e h = subst (λ m. IsFirst f (p m)) (sym e) h

-- a list of parts
pub all-first : {N X : Type 0} (R : N → X → Type 0) (f : N → Option Early) (p : X → List Early) (ps : List X → List Early)
    → IsFirst None (ps []) → ((x : X) (xs : List X) (g : Option Early) → IsFirst g (p x ++ ps xs) → IsFirst g (ps (x ∷ xs)))
    → ((n : N) (x : X) → R n x → IsFirst (f n) (p x))
    → (ns : List N) (xs : List X) → ShowAll R ns xs → IsFirst (first_of (map f ns)) (ps xs)
all-first R f p ps none more each [] [] h = none
all-first R f p ps none more each [] (x ∷ xs) h = absurd h
all-first R f p ps none more each (n ∷ ns) [] h = absurd h
all-first R f p ps none more each (n ∷ ns) (x ∷ xs) h =
    more x xs (first_of (map f (n ∷ ns))) (then-first {xs = p x} {ys = ps xs} (each n x h.0) (all-first R f p ps none more each ns xs h.1))

-- an option of a part
pub maybe-first : {N X : Type 0} (R : N → X → Type 0) (f : N → Option Early) (p : X → List Early) (ps : Option X → List Early)
    → IsFirst None (ps None) → ((x : X) (g : Option Early) → IsFirst g (p x) → IsFirst g (ps (Some x)))
    → ((n : N) (x : X) → R n x → IsFirst (f n) (p x))
    → (n : Option N) (x : Option X) → ShowMaybe R n x → IsFirst (maybe_first f n) (ps x)
maybe-first R f p ps none some each None None h = none
maybe-first R f p ps none some each None (Some x) h = absurd h
maybe-first R f p ps none some each (Some n) None h = absurd h
maybe-first R f p ps none some each (Some n) (Some x) h = some x (f n) (each n x h)
