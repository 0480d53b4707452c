-- The first early error is that of the names renamed.
use Rattle.std.proofs.Common.{◌≡◌, ℕ, Bool, Option, List, ap, ◌∙◌}
use Rattle.std.proofs.Math.Path.{fun_ext}
use Rattle.parse_track.specs.declared.region.Early.{Early}
use Rattle.parse_track.specs.Told.{Region, Told, KnownNames}
use Rattle.parse_track.specs.EarlyErrors.{sooner, error_of, smallest, at_regions, twice_lexical, lexical_and_var, head_and_var, catch_and_lexical, param_and_lexical, twice_param, binds_reserved, nothing_around, first_error}
use Rattle.track_renaming_laws.specs.Renaming.{renamed_region, rewritten, renamed, renamed_known, same_by}
use Rattle.track_renaming_laws.proofs.RegionRules.{twice_lexical-renamed, lexical_and_var-renamed, head_and_var-renamed, catch_and_lexical-renamed, param_and_lexical-renamed, twice_param-renamed, binds_reserved-renamed, at_regions-renamed}
use Rattle.track_renaming_laws.proofs.JumpRules.{wrong_jumps-renamed}

-- one rule, and those after it
rule_and : {rest rest' : Option Early} (n : ℕ) (xs us : List ℕ) → us ≡ xs → rest' ≡ rest → sooner (error_of n (smallest us)) rest' ≡ sooner (error_of n (smallest xs)) rest
rule_and {rest} {rest'} n xs us e h = ap (λ ws. sooner (error_of n (smallest ws)) rest') e ∙ ap (sooner (error_of n (smallest xs))) h

pub first_error-rewritten : {A B : Type 0} (f : A → B) (place : Region A → ℕ → ℕ) (same : B → B → Bool) (known : KnownNames A) (noted : Option Early) (t : Told A)
    → first_error same (renamed_known f known) noted (rewritten f place t) ≡ first_error (same_by f same) known noted t
first_error-rewritten {A} {B} f place same known noted t =
    ap (sooner noted) (
    both 1 (twice_lexical (same_by f same)) (twice_lexical same) (twice_lexical-renamed f place same) (
    both 2 (lexical_and_var (same_by f same)) (lexical_and_var same) (lexical_and_var-renamed f place same) (
    both 3 (head_and_var (same_by f same)) (head_and_var same) (head_and_var-renamed f place same) (
    both 4 (catch_and_lexical (same_by f same)) (catch_and_lexical same) (catch_and_lexical-renamed f place same) (
    both 5 (param_and_lexical (same_by f same)) (param_and_lexical same) (param_and_lexical-renamed f place same) (
    both 6 (twice_param (same_by f same)) (twice_param same) (twice_param-renamed f place same) (
    both 9 (binds_reserved (same_by f same) known) (binds_reserved same (renamed_known f known)) (binds_reserved-renamed f place same known)
    (ap (λ xs. error_of 11 (smallest xs)) (wrong_jumps-renamed f place same nothing_around t)))))))))
  where
    both : {rest rest' : Option Early} (n : ℕ) (rule : Region A → Told A → List ℕ) (rule' : Region B → Told B → List ℕ)
        → ((k : Region A) (i : Told A) → rule' (renamed_region f k) (rewritten f place i) ≡ rule k i) → rest' ≡ rest
        → sooner (error_of n (smallest (at_regions rule' (rewritten f place t)))) rest' ≡ sooner (error_of n (smallest (at_regions rule t))) rest
    both n rule rule' e h = rule_and n (at_regions rule t) (at_regions rule' (rewritten f place t)) (at_regions-renamed f place rule rule' e t) h

-- The first early error of renamed names, where names are the same exactly where they are renamed to the same.
pub first_error-renamed : {A B : Type 0} (f : A → B) (same : A → A → Bool) (same' : B → B → Bool) → ((x y : A) → same' (f x) (f y) ≡ same x y)
    → (known : KnownNames A) (noted : Option Early) (t : Told A) → first_error same' (renamed_known f known) noted (renamed f t) ≡ first_error same known noted t
first_error-renamed f same same' e known noted t =
    first_error-rewritten f (λ k at. at) same' known noted t ∙ ap (λ s. first_error s known noted t) (fun_ext (λ x. fun_ext (e x)))
