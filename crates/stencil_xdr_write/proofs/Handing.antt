-- Items handed one after another.
use Rattle.std.proofs.Common.{◌≡◌, ℕ, ◌+◌, ◌<◌, ◌≤◌, List, [], ◌∷◌, ◌++◌, length, take, get_or, flat_map, sym, ◌∙◌, ap, subst, append-nil}
use Rattle.std.specs.Prelude.{OnOk, Result, Ok, Err, All}
use Rattle.std.proofs.lemmas.Grind.{flat_map-append}
use Rattle.std.proofs.lemmas.List.{take_more, take_all}
use Rattle.std.proofs.lemmas.List.Elements.{All-nil, All-push}
use Rattle.stencil_xdr_specs.specs.Image.{Item}

-- what is taken after another is taken with it
abbrev pub TakesBoth : {S : Type 0} → (S → List Item → S → Type 0) → Type 0
TakesBoth {S} takes = (a b c : S) (xs ys : List Item) → takes a xs b → takes b ys c → takes a (xs ++ ys) c

-- from what a last call does to what is done in all
pub at_last : {T E P Q : Type 0} (r : Result T E) → OnOk r P → (P → Q) → OnOk r Q
at_last (Ok x) h f = f h
at_last (Err e) h f = tt

-- what holds of all answers
pub at_any : {T E P : Type 0} (r : Result T E) → P → OnOk r P
at_any (Ok x) p = p
at_any (Err e) p = tt

-- how far a loop that hands parts has come
pub record HandsEach {S A : Type 0} (takes : S → List Item → S → Type 0) (item : A → List Item) (Fit : A → Type 0) (old now : S) (parts : List A) (at : ℕ) : Type 0 where
  pub taken : takes old (flat_map item (take at parts)) now
  pub fit : All Fit (take at parts)

pub hands_none : {S A : Type 0} (takes : S → List Item → S → Type 0) (item : A → List Item) (Fit : A → Type 0) (old : S) (parts : List A) → takes old [] old → HandsEach takes item Fit old old parts 0
hands_none takes item Fit old parts none = record { taken = none; fit = All-nil Fit }

pub hands_more : {S A : Type 0} (takes : S → List Item → S → Type 0) (item : A → List Item) (Fit : A → Type 0) → TakesBoth takes → (old now new : S) (parts : List A) (at : ℕ) (part : A)
    → at < length parts → part ≡ get_or parts at part → takes now (item part) new → Fit part → HandsEach takes item Fit old now parts at → HandsEach takes item Fit old new parts (at + 1)
hands_more takes item Fit both old now new parts at part more is taken fit h = record {
  taken = subst (λ (l : List Item). takes old l new) joined (both old now new (flat_map item (take at parts)) (item part) h.taken taken);
  fit = subst (All Fit) (sym front) (All-push Fit (take at parts) part h.fit fit);
}
  where
    front : take (at + 1) parts ≡ take at parts ++ part ∷ []
    front = take_more parts at part more ∙ ap (λ x. take at parts ++ x ∷ []) (sym is)

    joined : flat_map item (take at parts) ++ item part ≡ flat_map item (take (at + 1) parts)
    joined = sym (ap (flat_map item) front ∙ (flat_map-append item (take at parts) (part ∷ []) ∙ ap (λ (l : List Item). flat_map item (take at parts) ++ l) (append-nil (item part))))

pub hands_taken : {S A : Type 0} (takes : S → List Item → S → Type 0) (item : A → List Item) (Fit : A → Type 0) (old now : S) (parts : List A) (at : ℕ) → length parts ≤ at → HandsEach takes item Fit old now parts at → takes old (flat_map item parts) now
hands_taken takes item Fit old now parts at end h = subst (λ l. takes old (flat_map item l) now) (take_all at parts end) h.taken

pub hands_fit : {S A : Type 0} (takes : S → List Item → S → Type 0) (item : A → List Item) (Fit : A → Type 0) (old now : S) (parts : List A) (at : ℕ) → length parts ≤ at → HandsEach takes item Fit old now parts at → All Fit parts
hands_fit takes item Fit old now parts at end h = subst (All Fit) (take_all at parts end) h.fit
