-- What a log is after more is told, said at once: the items that the present region gets, and the regions that come after those
-- that are there.
use Rattle.std.proofs.Common.{◌≡◌, ℕ, ◌+◌, ◌<◌, ◌≤◌, suc, Option, None, Some, IfSome, List, [], ◌∷◌, ◌++◌, length, refl, sym, ap, ◌∙◌, arith, append_assoc, append-nil, length-append}
use Rattle.parse_track.specs.Told as told
use Rattle.parse_track.specs.Told.{Told, nothing, leaf, inner}
use Rattle.parse_track.specs.Tells.{Text}
use Rattle.track_log_laws.specs.Spelled.{TextItem, TextLeaf, TextInner, TextPart, put_in, logged}
use Rattle.track_log_laws.proofs.Putting.{put_all_in, length_put_in, put_none_in, put_more_in, put_front_in, put_last}

-- how many regions are told
abbrev pub size : Told Text → ℕ
size nothing = 0
size (leaf l t) = size t
size (inner kind at inside t) = suc (size inside + size t)

-- the items of the present region, where the regions inside have the numbers from n on
abbrev pub items_laid : ℕ → Told Text → List TextItem
items_laid n nothing = []
items_laid n (leaf l t) = TextLeaf l ∷ items_laid n t
items_laid n (inner kind at inside t) = TextInner n ∷ items_laid (n + 1 + size inside) t

-- the regions from number n on, inside this one
abbrev pub parts_laid : Option ℕ → ℕ → Told Text → List TextPart
parts_laid around n nothing = []
parts_laid around n (leaf l t) = parts_laid around n t
parts_laid around n (inner kind at inside t) =
    record { kind = kind; at = at; around = around; items = items_laid (n + 1) inside }
    ∷ (parts_laid (Some n) (n + 1) inside ++ parts_laid around (n + 1 + size inside) t)

pub length_laid : (around : Option ℕ) (n : ℕ) (t : Told Text) → length (parts_laid around n t) ≡ size t
length_laid around n nothing = refl
length_laid around n (leaf l t) = length_laid around n t
length_laid around n (inner kind at inside t) =
    ap suc
    (length-append (parts_laid (Some n) (n + 1) inside) (parts_laid around (n + 1 + size inside) t)
    ∙ (ap (λ k. k + length (parts_laid around (n + 1 + size inside) t)) (length_laid (Some n) (n + 1) inside)
    ∙ ap (λ k. size inside + k) (length_laid around (n + 1 + size inside) t)))

-- the regions with all of this, where the next one has number n
abbrev pub laid : Option ℕ → List TextPart → Told Text → ℕ → List TextPart
laid around ps t n = put_all_in around (items_laid n t) ps ++ parts_laid around n t

abbrev logged_parts : Told Text → Option ℕ → List TextPart → List TextPart
logged_parts t around ps = (logged t (record { parts = ps; present = around })).parts

-- The step for a region inside: what is inside it is there already, and it is no longer told of it.
module _ (around : Option ℕ) (ps : List TextPart) (kind : told.Region Text) (at : ℕ) (inside t : Told Text) where
  abbrev before : List TextPart
  before = put_in around (TextInner (length ps)) ps

  abbrev empty : TextPart
  empty = record { kind = kind; at = at; around = around; items = [] }

  abbrev full : TextPart
  full = record { kind = kind; at = at; around = around; items = items_laid (length ps + 1) inside }

  abbrev within : List TextPart
  within = parts_laid (Some (length ps)) (length ps + 1) inside

  inside_length : length (before ++ empty ∷ []) ≡ length ps + 1
  inside_length = length-append before (empty ∷ []) ∙ ap (λ k. k + 1) (length_put_in around (TextInner (length ps)) ps)

  inside_laid : laid (Some (length ps)) (before ++ empty ∷ []) inside (length ps + 1) ≡ before ++ full ∷ within
  inside_laid =
      ap (λ qs. qs ++ within) (put_last (items_laid (length ps + 1) inside) (length ps) before empty (length_put_in around (TextInner (length ps)) ps))
      ∙ append_assoc before (full ∷ []) within

  behind_length : length (before ++ full ∷ within) ≡ length ps + 1 + size inside
  behind_length =
      let e = length-append before (full ∷ within) in
      let b = length_put_in around (TextInner (length ps)) ps in
      let w = length_laid (Some (length ps)) (length ps + 1) inside in
      omega (arith, e, b, w)

  behind_laid : IfSome around (λ n. n < length before)
      → laid around (before ++ full ∷ within) t (length ps + 1 + size inside) ≡ laid around ps (inner kind at inside t) (length ps)
  behind_laid h =
      let ys : List TextItem = items_laid (length ps + 1 + size inside) t in
      let rest : List TextPart = parts_laid around (length ps + 1 + size inside) t in
      ap (λ qs. qs ++ rest)
      (put_front_in around ys before (full ∷ within) h
      ∙ ap (λ qs. qs ++ full ∷ within) (put_more_in around (TextInner (length ps)) ys ps))
      ∙ append_assoc (put_all_in around (TextInner (length ps) ∷ ys) ps) (full ∷ within) rest

still_below : (around : Option ℕ) (m n : ℕ) → m ≤ n → IfSome around (λ k. k < m) → IfSome around (λ k. k < n)
still_below None m n l h = tt
still_below (Some k) m n l h = omega arith

pub logged-laid : (t : Told Text) (around : Option ℕ) (ps : List TextPart) → IfSome around (λ n. n < length ps)
    → logged_parts t around ps ≡ laid around ps t (length ps)
logged-laid nothing around ps h = sym (append-nil (put_all_in around [] ps) ∙ put_none_in around ps)
logged-laid (leaf l t) around ps h =
    let same : length (put_in around (TextLeaf l) ps) ≡ length ps = length_put_in around (TextLeaf l) ps in
    logged-laid t around (put_in around (TextLeaf l) ps) (still_below around (length ps) (length (put_in around (TextLeaf l) ps)) (omega (arith, same)) h)
    ∙ (ap (laid around (put_in around (TextLeaf l) ps) t) same
    ∙ ap (λ qs. qs ++ parts_laid around (length ps) t) (put_more_in around (TextLeaf l) (items_laid (length ps) t) ps))
logged-laid (inner kind at inside t) around ps h =
    let front : List TextPart = before around ps kind at inside t ++ empty around ps kind at inside t ∷ [] in
    let all : List TextPart = before around ps kind at inside t ++ full around ps kind at inside t ∷ within around ps kind at inside t in
    let more : length front ≡ length ps + 1 = inside_length around ps kind at inside t in
    let most : length all ≡ length ps + 1 + size inside = behind_length around ps kind at inside t in
    let kept : length (before around ps kind at inside t) ≡ length ps = length_put_in around (TextInner (length ps)) ps in
    ap (logged_parts t around)
    (logged-laid inside (Some (length ps)) front (let l : length ps < length front = omega arith in l)
    ∙ (ap (laid (Some (length ps)) front inside) more ∙ inside_laid around ps kind at inside t))
    ∙ (logged-laid t around all (still_below around (length ps) (length all) (omega (arith, most)) h)
    ∙ (ap (laid around all t) most
    ∙ behind_laid around ps kind at inside t (still_below around (length ps) (length (before around ps kind at inside t)) (omega (arith, kept)) h)))
