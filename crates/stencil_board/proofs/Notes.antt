-- Notes of the cells of a board, and a pass that is made of them.
use Rattle.std.proofs.Common.{◌≡◌, ◌∙◌, ℕ, zero, suc, ◌-◌, ◌<◌, ◌≤◌, List, [], ◌∷◌, length, map, get_or, set, replicate, Option, Some, None, option_map, MatchOption, refl, sym, ap, arith}
use Rattle.std.specs.Prelude.{slice_index_or}
use Rattle.std.proofs.Math.Seq.{map-set_same}
use Rattle.std.proofs.lemmas.List.{get_or-map, map-set, length-map}
use Rattle.stencil_board.specs.Views.{ResultView, PassView}
use Rattle.stencil_board.specs.Passes.{AgreeAt, AgreesWith, KeepsOwnBesideOthers, with_known}

-- two lists whose elements are named alike, one for one
pub named_alike : {A B : Type 0} (f : A → ℕ) (g : B → ℕ) (xs : List A) (ys : List B) (i : ℕ) (x : A) (y : B) → map f xs ≡ map g ys → i < length ys → x ≡ get_or xs i x → y ≡ get_or ys i y → f x ≡ g y
named_alike f g xs ys i x y same lt x_is y_is =
    let long : length xs ≡ length ys = sym (length-map xs f) ∙ ap length same ∙ length-map ys g in
    ap f x_is ∙ sym (get_or-map f xs i x 0 (omega (arith, long, lt))) ∙ ap (λ (ns : List ℕ). get_or ns i 0) same ∙ get_or-map g ys i y 0 lt ∙ sym (ap g y_is)

fields : (file : ℕ) (a b : List ℕ) (c d : List (Option ResultView)) (own : List (Option ResultView)) → a ≡ b → c ≡ d
    → ◌≡◌ {A = PassView} (record { file = file; cells = a; known = c; own = own }) (record { file = file; cells = b; known = d; own = own })
fields file a b c d own e f = cc

-- one note is changed for another of the same cell
pub note_changed : {A : Type 0} (cell : A → ℕ) (known : A → Option ResultView) (file : ℕ) (notes : List A) (own : List (Option ResultView)) (pass : PassView) (number : ℕ) (x d : A) (o : Option ResultView)
    → ◌≡◌ {A = PassView} (record { file = file; cells = map cell notes; known = map known notes; own = own }) pass → cell x ≡ cell (get_or notes (number - 1) d) → known x ≡ o
    → ◌≡◌ {A = PassView} (record { file = file; cells = map cell (set notes (number - 1) x); known = map known (set notes (number - 1) x); own = own }) (with_known pass number o)
note_changed cell known file notes own pass number x d o is same now =
    fields file (map cell (set notes (number - 1) x)) (map cell notes) (map known (set notes (number - 1) x)) (set (map known notes) (number - 1) o) own
    (map-set_same cell notes (number - 1) x d same) (map-set known notes (number - 1) x ∙ ap (set (map known notes) (number - 1)) now)
    ∙ ap (λ (p : PassView). with_known p number o) is

pub seen_is : {X V : Type 0} (P : Type 0) (Q : X → Type 0) (f : X → V) (r : Option X) (v : Option V) → MatchOption r (P × (v ≡ None)) (λ x. (v ≡ Some (f x)) × Q x) → v ≡ option_map f r
seen_is P Q f None v h = h.1
seen_is P Q f (Some x) v h = h.0

-- ---- nothing known

pub none_there : (n k : ℕ) → ◌≡◌ {A = Option ResultView} (slice_index_or (replicate n None) k None) None
none_there zero k = refl
none_there (suc n) zero = refl
none_there (suc n) (suc k) = none_there n k

-- a pass that keeps nothing keeps nothing for itself alone
pub keeps_none : (pass : PassView) (n : ℕ) → pass.own ≡ replicate n None → KeepsOwnBesideOthers pass
keeps_none pass n none = record {
  another = λ number r low e.
      let clash : ◌≡◌ {A = Option ResultView} None (Some r) = sym (none_there n (number - 1)) ∙ sym (ap (λ (xs : List (Option ResultView)). slice_index_or xs (number - 1) None) none) ∙ e in
      absurd (cc);
}

-- ---- two passes

some_within : (xs : List (Option ResultView)) (k : ℕ) (r : ResultView) → slice_index_or xs k None ≡ Some r → k < length xs
some_within [] k r e = absurd (cc)
some_within (x ∷ xs) zero r e = omega arith
some_within (x ∷ xs) (suc k) r e = let lt = some_within xs k r e in omega (arith, lt)

pub agree_all : (one two : PassView) (n : ℕ) → length one.known ≤ n → ((k : ℕ) → k < n → AgreeAt one two k) → AgreesWith one two
agree_all one two n long agree number r s e f = let lt = some_within one.known (number - 1) r e in agree (number - 1) (omega (arith, lt, long)) r s e f
