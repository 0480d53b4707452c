-- Put together again, a log has just what was told.
use Rattle.std.proofs.Common.{◌≡◌, ℕ, ◌+◌, ◌≤◌, zero, suc, Option, None, Some, List, [], ◌∷◌, ◌++◌, length, slice_get, refl, sym, ap, ◌∙◌, arith, append_assoc, append-nil, length-append}
use Rattle.parse_track.specs.Told as told
use Rattle.parse_track.specs.Told.{Told, nothing, leaf, inner}
use Rattle.parse_track.specs.Tells.{Text}
use Rattle.track_log_laws.specs.Spelled.{TextInner, TextPart, logged}
use Rattle.track_log_laws.specs.Reading.{kind_of, at_of, items_of, read_items, read_region, outermost_if, outermost, read_back, IsOfRegions}
use Rattle.track_log_laws.proofs.Laid.{size, items_laid, parts_laid, length_laid, logged-laid}

pub inner_same : (kind : told.Region Text) (at : ℕ) (inside rest : Told Text) (kind' : told.Region Text) (at' : ℕ) (inside' rest' : Told Text)
    → kind ≡ kind' → at ≡ at' → inside ≡ inside' → rest ≡ rest' → inner kind at inside rest ≡ inner kind' at' inside' rest'
inner_same kind at inside rest kind' at' inside' rest' k a i r =
    ap (λ x. inner x at inside rest) k ∙ (ap (λ x. inner kind' x inside rest) a ∙ (ap (λ x. inner kind' at' x rest) i ∙ ap (inner kind' at' inside') r))

get_behind : (ps : List TextPart) (n : ℕ) (p : TextPart) (qs : List TextPart) → length ps ≡ n → slice_get (ps ++ p ∷ qs) n ≡ Some p
get_behind [] zero p qs e = refl
get_behind [] (suc n) p qs e = absurd (omega arith)
get_behind (q ∷ ps) zero p qs e = absurd (omega arith)
get_behind (q ∷ ps) (suc n) p qs e = get_behind ps n p qs (let l : length ps ≡ n = omega arith in l)

-- The regions of what was told stand from number n on, and regions may stand deep enough one in another.
reads : (t : Told Text) (front back : List TextPart) (around : Option ℕ) (n room : ℕ) (ps : List TextPart)
    → length front ≡ n → ps ≡ front ++ (parts_laid around n t ++ back) → size t ≤ room
    → read_items ps (read_region room ps) (items_laid n t) ≡ t
unfolding read_region
reads nothing front back around n room ps l e h = refl
reads (leaf x t) front back around n room ps l e h = ap (leaf x) (reads t front back around n room ps l e h)
reads (inner kind at inside t) front back around n zero ps l e h = absurd (omega (arith, h))
reads (inner kind at inside t) front back around n (suc room) ps l e h =
    let own : TextPart = record { kind = kind; at = at; around = around; items = items_laid (n + 1) inside } in
    let within : List TextPart = parts_laid (Some n) (n + 1) inside in
    let behind : List TextPart = parts_laid around (n + 1 + size inside) t in
    let all : ps ≡ front ++ own ∷ (within ++ (behind ++ back)) = e ∙ ap (λ qs. front ++ own ∷ qs) (append_assoc within behind back) in
    let here : slice_get ps n ≡ Some own = ap (λ qs. slice_get qs n) all ∙ get_behind front n own (within ++ (behind ++ back)) l in
    let past : length (front ++ own ∷ []) ≡ n + 1 = length-append front (own ∷ []) ∙ ap (λ k. k + 1) l in
    let a = length-append front (own ∷ within) in
    let w = length_laid (Some n) (n + 1) inside in
    let beyond : length (front ++ own ∷ within) ≡ n + 1 + size inside = omega (arith, a, w, l) in
    inner_same (kind_of (slice_get ps n)) (at_of (slice_get ps n)) (read_region (suc room) ps n) (read_items ps (read_region (suc room) ps) (items_laid (n + 1 + size inside) t)) kind at inside t
    (ap kind_of here)
    (ap at_of here)
    (ap (λ o. read_items ps (read_region room ps) (items_of o)) here
    ∙ reads inside (front ++ own ∷ []) (behind ++ back) (Some n) (n + 1) room ps past (all ∙ sym (append_assoc front (own ∷ []) (within ++ (behind ++ back)))) (omega (arith, h)))
    (reads t (front ++ own ∷ within) back around (n + 1 + size inside) (suc room) ps beyond (all ∙ sym (append_assoc front (own ∷ within) (behind ++ back))) (omega (arith, h)))

outermost_append : (ps qs : List TextPart) (n m : ℕ) → n + length ps ≡ m → outermost n (ps ++ qs) ≡ outermost n ps ++ outermost m qs
outermost_append [] qs n m e = ap (λ k. outermost k qs) (let l : n ≡ m = omega arith in l)
outermost_append (p ∷ ps) qs n m e =
    ap (λ items. outermost_if n p.around ++ items) (outermost_append ps qs (n + 1) m (let l : n + 1 + length ps ≡ m = omega arith in l))
    ∙ sym (append_assoc (outermost_if n p.around) (outermost (n + 1) ps) (outermost m qs))

-- no region inside another is outermost
none_outermost : (t : Told Text) (around n m : ℕ) → outermost m (parts_laid (Some around) n t) ≡ []
none_outermost nothing around n m = refl
none_outermost (leaf l t) around n m = none_outermost t around n m
none_outermost (inner kind at inside t) around n m =
    let within : List TextPart = parts_laid (Some n) (n + 1) inside in
    let behind : List TextPart = parts_laid (Some around) (n + 1 + size inside) t in
    outermost_append within behind (m + 1) (m + 1 + length within) refl
    ∙ (ap (λ items. items ++ outermost (m + 1 + length within) behind) (none_outermost inside n (n + 1) (m + 1))
    ∙ none_outermost t around (n + 1 + size inside) (m + 1 + length within))

outermost_laid : (t : Told Text) → IsOfRegions t → (n : ℕ) → outermost n (parts_laid None n t) ≡ items_laid n t
outermost_laid nothing o n = refl
outermost_laid (leaf l t) o n = absurd o
outermost_laid (inner kind at inside t) o n =
    let within : List TextPart = parts_laid (Some n) (n + 1) inside in
    let behind : List TextPart = parts_laid None (n + 1 + size inside) t in
    let w = length_laid (Some n) (n + 1) inside in
    ap (λ items. TextInner n ∷ items)
    (outermost_append within behind (n + 1) (n + 1 + size inside) (omega (arith, w))
    ∙ (ap (λ items. items ++ outermost (n + 1 + size inside) behind) (none_outermost inside n (n + 1) (n + 1))
    ∙ outermost_laid t o (n + 1 + size inside)))

read-laid : (t : Told Text) → IsOfRegions t → (ps : List TextPart) → ps ≡ parts_laid None 0 t → read_back ps ≡ t
read-laid t o ps e =
    ap (read_items ps (read_region (length ps) ps)) (ap (outermost 0) e ∙ outermost_laid t o 0)
    ∙ reads t [] [] None 0 (length ps) ps refl (e ∙ sym (append-nil (parts_laid None 0 t))) (let l = ap length e ∙ length_laid None 0 t in omega (arith, l))

-- Put together again, a log that was told this from nothing on has this and no more.
pub read_back-logged : (t : Told Text) → IsOfRegions t → read_back (logged t (record { parts = []; present = None })).parts ≡ t
read_back-logged t o = read-laid t o (logged t (record { parts = []; present = None })).parts (logged-laid t None [] tt)
