-- The names that a region declares, renamed.
use Rattle.std.proofs.Common.{◌≡◌, ℕ, Bool, cond, [], ◌∷◌, map, refl, ap, ◌∙◌}
use Rattle.parse_track.specs.declared.region.Declare.{Declare}
use Rattle.parse_track.specs.Told.{Region, Script, Function, Lambda, Block, ForHead, VarBody, Leaf, Declared, Used, Jumped, Told, nothing, leaf, inner}
use Rattle.parse_track.specs.RegionNames.{is_lexical, is_var, is_lambda, is_function, is_head, is_block, is_body, stops_vars, declared_by, directly, vars, lexical_below}
use Rattle.track_renaming_laws.specs.Renaming.{renamed_name, renamed_region, renamed_leaf, rewritten}
use Rattle.track_renaming_laws.proofs.Lists.{map_cond, append_both}

-- which regions are which
pub is_lambda-renamed : {A B : Type 0} (f : A → B) (k : Region A) → is_lambda (renamed_region f k) ≡ is_lambda k
is_lambda-renamed f (Lambda _) = refl
is_lambda-renamed f _ = refl

pub is_function-renamed : {A B : Type 0} (f : A → B) (k : Region A) → is_function (renamed_region f k) ≡ is_function k
is_function-renamed f Function = refl
is_function-renamed f _ = refl

pub is_head-renamed : {A B : Type 0} (f : A → B) (k : Region A) → is_head (renamed_region f k) ≡ is_head k
is_head-renamed f ForHead = refl
is_head-renamed f _ = refl

pub is_block-renamed : {A B : Type 0} (f : A → B) (k : Region A) → is_block (renamed_region f k) ≡ is_block k
is_block-renamed f Block = refl
is_block-renamed f _ = refl

pub is_body-renamed : {A B : Type 0} (f : A → B) (k : Region A) → is_body (renamed_region f k) ≡ is_body k
is_body-renamed f VarBody = refl
is_body-renamed f _ = refl

stops_vars-renamed : {A B : Type 0} (f : A → B) (k : Region A) → stops_vars (renamed_region f k) ≡ stops_vars k
stops_vars-renamed f Script = refl
stops_vars-renamed f _ = refl

-- the names
declared_by-renamed : {A B : Type 0} (f : A → B) (how : Declare → Bool) (l : Leaf A) → declared_by how (renamed_leaf f l) ≡ map (renamed_name f) (declared_by how l)
declared_by-renamed f how (Declared d x) = map_cond (renamed_name f) (how d) (x ∷ []) []
declared_by-renamed f how (Used x) = refl
declared_by-renamed f how (Jumped word at label) = refl

pub directly-renamed : {A B : Type 0} (f : A → B) (place : Region A → ℕ → ℕ) (how : Declare → Bool) (t : Told A)
    → directly how (rewritten f place t) ≡ map (renamed_name f) (directly how t)
directly-renamed f place how nothing = refl
directly-renamed f place how (leaf l t) =
    append_both (renamed_name f) (declared_by how l) (directly how t) (declared_by how (renamed_leaf f l)) (directly how (rewritten f place t))
    (declared_by-renamed f how l) (directly-renamed f place how t)
directly-renamed f place how (inner k at i t) = directly-renamed f place how t

pub vars-renamed : {A B : Type 0} (f : A → B) (place : Region A → ℕ → ℕ) (t : Told A) → vars (rewritten f place t) ≡ map (renamed_name f) (vars t)
vars-renamed f place nothing = refl
vars-renamed f place (leaf l t) =
    append_both (renamed_name f) (declared_by is_var l) (vars t) (declared_by is_var (renamed_leaf f l)) (vars (rewritten f place t))
    (declared_by-renamed f is_var l) (vars-renamed f place t)
vars-renamed f place (inner k at i t) =
    append_both (renamed_name f) (cond (stops_vars k) [] (vars i)) (vars t)
    (cond (stops_vars (renamed_region f k)) [] (vars (rewritten f place i))) (vars (rewritten f place t))
    (ap (λ b. cond b [] (vars (rewritten f place i))) (stops_vars-renamed f k)
    ∙ (ap (cond (stops_vars k) []) (vars-renamed f place i) ∙ map_cond (renamed_name f) (stops_vars k) [] (vars i)))
    (vars-renamed f place t)

pub lexical_below-renamed : {A B : Type 0} (f : A → B) (place : Region A → ℕ → ℕ) (kind : Region A → Bool) (kind' : Region B → Bool)
    → ((k : Region A) → kind' (renamed_region f k) ≡ kind k) → (t : Told A)
    → lexical_below kind' (rewritten f place t) ≡ map (renamed_name f) (lexical_below kind t)
lexical_below-renamed f place kind kind' e nothing = refl
lexical_below-renamed f place kind kind' e (leaf l t) = lexical_below-renamed f place kind kind' e t
lexical_below-renamed f place kind kind' e (inner k at i t) =
    append_both (renamed_name f) (cond (kind k) (directly is_lexical i) []) (lexical_below kind t)
    (cond (kind' (renamed_region f k)) (directly is_lexical (rewritten f place i)) []) (lexical_below kind' (rewritten f place t))
    (ap (λ b. cond b (directly is_lexical (rewritten f place i)) []) (e k)
    ∙ (ap (λ xs. cond (kind k) xs []) (directly-renamed f place is_lexical i) ∙ map_cond (renamed_name f) (kind k) (directly is_lexical i) []))
    (lexical_below-renamed f place kind kind' e t)
