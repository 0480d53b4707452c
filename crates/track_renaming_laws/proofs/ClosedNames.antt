-- The closed names are those of the names renamed, renamed.
use Rattle.std.proofs.Common.{◌≡◌, ℕ, Bool, true, false, cond, None, List, [], ◌∷◌, map, refl, ap, ◌∙◌}
use Rattle.std.proofs.Math.Path.{fun_ext}
use Rattle.parse_track.specs.Told.{Region, Function, Arrow, Lambda, Told, nothing, leaf, inner, KnownNames}
use Rattle.parse_track.specs.ClosedNames.{begins, first_at, at_of, flags, bindings, kept, closed}
use Rattle.track_renaming_laws.specs.Renaming.{renamed_region, rewritten, renamed, renamed_known, renamed_bound, same_by}
use Rattle.track_renaming_laws.specs.Starts.{KeepsStarts, if_function, starts_with_function, IsAroundFunction, AreAroundFunctions}
use Rattle.track_renaming_laws.proofs.Lists.{map_cond, append_both}
use Rattle.track_renaming_laws.proofs.Reached.{flags-renamed}
use Rattle.track_renaming_laws.proofs.Bindings.{bindings-renamed}

kept-renamed : {A B : Type 0} (g : A → B) (fs : List Bool) (bs : List A) → kept fs (map g bs) ≡ map g (kept fs bs)
kept-renamed g [] bs = refl
kept-renamed g (b ∷ fs) [] = refl
kept-renamed g (b ∷ fs) (x ∷ bs) =
    append_both g (cond b (x ∷ []) []) (kept fs bs) (cond b (g x ∷ []) []) (kept fs (map g bs)) (map_cond g b (x ∷ []) []) (kept-renamed g fs bs)

pub closed-rewritten : {A B : Type 0} (f : A → B) (place : Region A → ℕ → ℕ) (same : B → B → Bool) (known : KnownNames A) (t : Told A) → KeepsStarts f place t
    → closed same (renamed_known f known) (rewritten f place t) ≡ map (renamed_bound f) (closed (same_by f same) known t)
closed-rewritten f place same known t h =
    ap (λ fs. kept fs (bindings same (renamed_known f known) false None 0 (rewritten f place t))) (flags-renamed f place same known t)
    ∙ (ap (kept (flags (same_by f same) known t)) (bindings-renamed f place same known false None 0 t h)
    ∙ kept-renamed (renamed_bound f) (flags (same_by f same) known t) (bindings (same_by f same) known false None 0 t))

-- where all offsets are as they are
first_at-renamed : {A B : Type 0} (f : A → B) (at : ℕ) (t : Told A) → first_at at (renamed f t) ≡ first_at at t
first_at-renamed f at nothing = refl
first_at-renamed f at (leaf l t) = first_at-renamed f at t
first_at-renamed f at (inner k there i t) = refl

at_of-renamed : {A B : Type 0} (f : A → B) (k : Region A) (at : ℕ) (i : Told A) → at_of (renamed_region f k) at (renamed f i) ≡ at_of k at i
at_of-renamed f (Lambda x) at i = first_at-renamed f at i
at_of-renamed f _ at i = refl

keeps_all : {A B : Type 0} (f : A → B) (t : Told A) → KeepsStarts f (λ k at. at) t
keeps_all f nothing = tt
keeps_all f (leaf l t) = keeps_all f t
keeps_all f (inner k at i t) = (λ e. at_of-renamed f k at i, (keeps_all f i, keeps_all f t))

-- The closed names of renamed names, where names are the same exactly where they are renamed to the same.
pub closed-renamed : {A B : Type 0} (f : A → B) (same : A → A → Bool) (same' : B → B → Bool) → ((x y : A) → same' (f x) (f y) ≡ same x y)
    → (known : KnownNames A) (t : Told A) → closed same' (renamed_known f known) (renamed f t) ≡ map (renamed_bound f) (closed same known t)
closed-renamed f same same' e known t =
    closed-rewritten f (λ k at. at) same' known t (keeps_all f t) ∙ ap (λ s. map (renamed_bound f) (closed s known t)) (fun_ext (λ x. fun_ext (e x)))

-- where the offsets of functions are as they are
first_at_kept : {A B : Type 0} (f : A → B) (at at' : ℕ) (t : Told A) → starts_with_function t ≡ true → first_at at' (rewritten f if_function t) ≡ first_at at t
first_at_kept f at at' nothing e = absurd (let b : false ≡ true = e in cc)
first_at_kept f at at' (leaf l t) e = first_at_kept f at at' t e
first_at_kept f at at' (inner k there i t) e = ap (λ b. cond b there 0) e

at_of_kept : {A B : Type 0} (f : A → B) (k : Region A) (at : ℕ) (i : Told A) → IsAroundFunction k i → begins false k ≡ true
    → at_of (renamed_region f k) (if_function k at) (rewritten f if_function i) ≡ at_of k at i
at_of_kept f (Lambda x) at i h e = first_at_kept f at 0 i h
at_of_kept f Function at i h e = refl
at_of_kept f Arrow at i h e = refl
at_of_kept f _ at i h e = absurd (let b : false ≡ true = e in cc)

pub keeps_functions : {A B : Type 0} (f : A → B) (t : Told A) → AreAroundFunctions t → KeepsStarts f if_function t
keeps_functions f nothing h = tt
keeps_functions f (leaf l t) h = keeps_functions f t h
keeps_functions f (inner k at i t) h = (at_of_kept f k at i h.0, (keeps_functions f i h.1.0, keeps_functions f t h.1.1))
