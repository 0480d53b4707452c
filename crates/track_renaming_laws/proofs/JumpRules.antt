-- The rule on jumps and labels, where names are renamed.
use Rattle.std.proofs.Common.{◌≡◌, ℕ, Bool, cond, Some, None, List, [], ◌∷◌, ◌++◌, map, refl, ap, ◌∙◌}
use Rattle.parse_track.specs.declared.region.Jump.TheVariants.{Break, Continue}
use Rattle.parse_track.specs.Told.{Region, Loop, Label, Leaf, Declared, Used, Jumped, Told, nothing, leaf, inner}
use Rattle.parse_track.specs.EarlyErrors.{JumpContext, is_loop, within, wrong_jump, wrong_label, wrong_jumps}
use Rattle.track_renaming_laws.specs.Renaming.{renamed_region, renamed_leaf, rewritten, same_by}
use Rattle.track_renaming_laws.proofs.Lists.{map_cond, append_both, appended}
use Rattle.track_renaming_laws.proofs.NameLists.{has-renamed}

abbrev renamed_around : {A B : Type 0} → (A → B) → JumpContext A → JumpContext B
renamed_around f around = record { loop = around.loop; leaves = around.leaves; labels = map f around.labels; loops = map f around.loops }

is_loop-renamed : {A B : Type 0} (f : A → B) (place : Region A → ℕ → ℕ) (t : Told A) → is_loop (rewritten f place t) ≡ is_loop t
is_loop-renamed f place nothing = refl
is_loop-renamed f place (leaf l t) = refl
is_loop-renamed f place (inner (Label _) _ i _) = is_loop-renamed f place i
is_loop-renamed f place (inner Loop _ _ _) = refl
is_loop-renamed f place (inner _ _ _ _) = refl

with_label : {A B : Type 0} (f : A → B) (x : A) (around : JumpContext A) (b : Bool) (labels loops : List B) → labels ≡ map f (around.labels ++ x ∷ []) → loops ≡ map f (around.loops ++ cond b (x ∷ []) [])
    → record { loop = around.loop; leaves = around.leaves; labels = labels; loops = loops }
    ≡ renamed_around f (record around { labels = around.labels ++ x ∷ []; loops = around.loops ++ cond b (x ∷ []) [] })
with_label f x around b labels loops e h = cc

within-renamed : {A B : Type 0} (f : A → B) (place : Region A → ℕ → ℕ) (k : Region A) (i : Told A) (around : JumpContext A)
    → within (renamed_region f k) (rewritten f place i) (renamed_around f around) ≡ renamed_around f (within k i around)
within-renamed f place (Label x) i around =
    with_label f x.name around (is_loop i) (map f around.labels ++ f x.name ∷ []) (map f around.loops ++ cond (is_loop (rewritten f place i)) (f x.name ∷ []) [])
    (append_both f around.labels (x.name ∷ []) (map f around.labels) (f x.name ∷ []) refl refl)
    (append_both f around.loops (cond (is_loop i) (x.name ∷ []) []) (map f around.loops) (cond (is_loop (rewritten f place i)) (f x.name ∷ []) [])
    refl (ap (λ b. cond b (f x.name ∷ []) []) (is_loop-renamed f place i) ∙ map_cond f (is_loop i) (x.name ∷ []) []))
within-renamed f place _ i around = refl

wrong_jump-renamed : {A B : Type 0} (f : A → B) (same : B → B → Bool) (around : JumpContext A) (l : Leaf A)
    → wrong_jump same (renamed_around f around) (renamed_leaf f l) ≡ wrong_jump (same_by f same) around l
wrong_jump-renamed f same around (Declared how x) = refl
wrong_jump-renamed f same around (Used x) = refl
wrong_jump-renamed f same around (Jumped Break at None) = refl
wrong_jump-renamed f same around (Jumped Continue at None) = refl
wrong_jump-renamed f same around (Jumped Break at (Some x)) = ap (λ b. cond b [] (x.at ∷ [])) (has-renamed f same x.name around.labels)
wrong_jump-renamed f same around (Jumped Continue at (Some x)) =
    ap (λ b. cond around.loop [] (at ∷ []) ++ cond b [] (x.at ∷ [])) (has-renamed f same x.name around.loops)

wrong_label-renamed : {A B : Type 0} (f : A → B) (same : B → B → Bool) (around : JumpContext A) (k : Region A)
    → wrong_label same (renamed_around f around) (renamed_region f k) ≡ wrong_label (same_by f same) around k
wrong_label-renamed f same around (Label x) = ap (λ b. cond b (x.at ∷ []) []) (has-renamed f same x.name around.labels)
wrong_label-renamed f same around _ = refl

pub wrong_jumps-renamed : {A B : Type 0} (f : A → B) (place : Region A → ℕ → ℕ) (same : B → B → Bool) (around : JumpContext A) (t : Told A)
    → wrong_jumps same (renamed_around f around) (rewritten f place t) ≡ wrong_jumps (same_by f same) around t
wrong_jumps-renamed f place same around nothing = refl
wrong_jumps-renamed f place same around (leaf l t) =
    appended (wrong_jump (same_by f same) around l) (wrong_jumps (same_by f same) around t)
    (wrong_jump same (renamed_around f around) (renamed_leaf f l)) (wrong_jumps same (renamed_around f around) (rewritten f place t))
    (wrong_jump-renamed f same around l) (wrong_jumps-renamed f place same around t)
wrong_jumps-renamed f place same around (inner k at i t) =
    appended (wrong_label (same_by f same) around k) (wrong_jumps (same_by f same) (within k i around) i ++ wrong_jumps (same_by f same) around t)
    (wrong_label same (renamed_around f around) (renamed_region f k))
    (wrong_jumps same (within (renamed_region f k) (rewritten f place i) (renamed_around f around)) (rewritten f place i) ++ wrong_jumps same (renamed_around f around) (rewritten f place t))
    (wrong_label-renamed f same around k)
    (appended (wrong_jumps (same_by f same) (within k i around) i) (wrong_jumps (same_by f same) around t)
    (wrong_jumps same (within (renamed_region f k) (rewritten f place i) (renamed_around f around)) (rewritten f place i)) (wrong_jumps same (renamed_around f around) (rewritten f place t))
    (ap (λ a. wrong_jumps same a (rewritten f place i)) (within-renamed f place k i around) ∙ wrong_jumps-renamed f place same (within k i around) i)
    (wrong_jumps-renamed f place same around t))
