-- Whether a name is among texts: those of two parts, those that are not bound around, and each once.
use Rattle.std.proofs.Common.{◌≡◌, Bool, true, false, ◌||◌, ◌&&◌, not, if◌then◌else◌, bytes_eq, List, [], ◌∷◌, ◌++◌, refl, sym, ◌∙◌, ap}
use Rattle.std.proofs.lemmas.List.{map-append, append-nil, append_assoc}
use Rattle.std.proofs.lemmas.List.Folds.{list_any-append}
use Rattle.std.proofs.lemmas.Map.Views.{any-filter_same}
use Rattle.std.specs.Cmp.Lexicographic.{bytes_decides}
use Rattle.stencil_data.specs.declared.scopes.BindKind.{BindKind}
use Rattle.scope_analysis.specs.DeclaredNames.{Text, Declaration, declarations, texts_of, has_text, texts_without, first_ones, first_ones_after}

-- used in one of two parts
pub has_either : (xs ys : List Text) (t : Text) → has_text (xs ++ ys) t ≡ (has_text xs t || has_text ys t)
has_either xs ys t = list_any-append (λ (x : Text). bytes_eq x t) xs ys

-- declared by one of two parts
pub has_either_named : (a b : List Declaration) (t : Text) → has_text (texts_of (a ++ b)) t ≡ (has_text (texts_of a) t || has_text (texts_of b) t)
has_either_named a b t = ap (λ (xs : List Text). has_text xs t) (map-append (λ (d : Declaration). d.text) a b) ∙ has_either (texts_of a) (texts_of b) t

-- how a name is declared does not matter
pub has_declared : (kind : BindKind) (xs : List Text) (t : Text) → has_text (texts_of (declarations kind xs)) t ≡ has_text xs t
has_declared kind [] t = refl
has_declared kind (x ∷ xs) t = ap (λ (b : Bool). bytes_eq x t || b) (has_declared kind xs t)

-- what is bound around a part is not used after it, all else is
pub has_without : (gone xs : List Text) (t : Text) → has_text (texts_without gone xs) t ≡ (not (has_text gone t) && has_text xs t)
has_without gone xs t =
    any-filter_same (λ (x : Text). bytes_eq x t) (λ (x : Text). not (has_text gone x)) (not (has_text gone t)) (λ k e. ap (λ (x : Text). not (has_text gone x)) ((bytes_decides k t).0 e)) xs

-- ---- each text once

and_false : (b : Bool) → false ≡ (b && false)
and_false true = refl
and_false false = refl

first_step : (found same there later : Bool) (a b : List Text) (x t : Text) → bytes_eq x t ≡ same → (same ≡ true → found ≡ there) → has_text a t ≡ (not there && later) → has_text b t ≡ (not (same || there) && later)
    → has_text (if found then a else x ∷ b) t ≡ (not there && (same || later))
first_step true true true later a b x t is p h k = h
first_step true true false later a b x t is p h k = let e : true ≡ false = p refl in cc
first_step true false there later a b x t is p h k = h
first_step false true true later a b x t is p h k = let e : false ≡ true = p refl in cc
first_step false true false later a b x t is p h k = ap (λ (y : Bool). y || has_text b t) is
first_step false false there later a b x t is p h k = ap (λ (y : Bool). y || has_text b t) is ∙ k

first_has : (xs seen : List Text) (t : Text) → has_text (first_ones_after seen xs) t ≡ (not (has_text seen t) && has_text xs t)
first_has [] seen t = and_false (not (has_text seen t))
first_has (x ∷ xs) seen t =
    first_step (has_text seen x) (bytes_eq x t) (has_text seen t) (has_text xs t) (first_ones_after seen xs) (first_ones_after (x ∷ seen) xs) x t refl (λ e. ap (has_text seen) ((bytes_decides x t).0 e))
    (first_has xs seen t) (first_has xs (x ∷ seen) t)

pub has_first : (xs : List Text) (t : Text) → has_text (first_ones xs) t ≡ has_text xs t
has_first xs t = first_has xs [] t

-- ---- a part after another

pub used_first : (xs ys : List Text) (t : Text) (b : Bool) → b ≡ has_text xs t → b ≡ true → b ≡ has_text (xs ++ ys) t
used_first xs ys t b h found = found ∙ sym (has_either xs ys t ∙ ap (λ (x : Bool). x || has_text ys t) (sym h ∙ found))

pub used_behind : (xs ys : List Text) (t : Text) (b r : Bool) → b ≡ has_text xs t → b ≡ false → r ≡ has_text ys t → r ≡ has_text (xs ++ ys) t
used_behind xs ys t b r h missed k = k ∙ sym (has_either xs ys t ∙ ap (λ (x : Bool). x || has_text ys t) (sym h ∙ missed))

-- a function beside a part has no uses of its own
pub no_functions : (xs : List Text) (t : Text) → has_text (xs ++ []) t ≡ has_text xs t
no_functions xs t = ap (λ (ys : List Text). has_text ys t) (append-nil xs)

-- ---- three and four parts, the first ones together

pub has_third : (a b d : List Text) (t : Text) → has_text (a ++ (b ++ d)) t ≡ (has_text (a ++ b) t || has_text d t)
has_third a b d t = ap (λ (xs : List Text). has_text xs t) (sym (append_assoc a b d)) ∙ has_either (a ++ b) d t

pub two_first : (a b d : List Text) (t : Text) → has_text ((a ++ b) ++ d) t ≡ has_text (a ++ (b ++ d)) t
two_first a b d t = ap (λ (xs : List Text). has_text xs t) (append_assoc a b d)

pub three_first : (a b d e : List Text) (t : Text) → has_text ((a ++ (b ++ d)) ++ e) t ≡ has_text (a ++ (b ++ (d ++ e))) t
three_first a b d e t = ap (λ (xs : List Text). has_text xs t) (append_assoc a (b ++ d) e ∙ ap (λ (xs : List Text). a ++ xs) (append_assoc b d e))

-- ---- a part that names are bound around

pub used_unbound : (gone xs : List Text) (t : Text) (b r : Bool) → b ≡ has_text gone t → b ≡ false → r ≡ has_text xs t → r ≡ has_text (texts_without gone xs) t
used_unbound gone xs t b r h free k = k ∙ sym (has_without gone xs t ∙ ap (λ (x : Bool). not x && has_text xs t) (sym h ∙ free))

pub used_bound : (gone xs : List Text) (t : Text) (b : Bool) → b ≡ has_text gone t → b ≡ true → not b ≡ has_text (texts_without gone xs) t
used_bound gone xs t b h bound = ap not bound ∙ sym (has_without gone xs t ∙ ap (λ (x : Bool). not x && has_text xs t) (sym h ∙ bound))
