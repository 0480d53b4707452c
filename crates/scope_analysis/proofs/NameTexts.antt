-- Sets of texts, and names kept by them.
use Rattle.std.proofs.Common.{◌≡◌, ℕ, ◌+◌, ◌<◌, Bool, true, false, ◌||◌, not, cond, bytes_eq, if◌then◌else◌, List, [], ◌∷◌, ◌++◌, map, take, get_or, length, Option, Some, None, Bor, refl, sym, ◌∙◌, ap, ap₂, subst, inl, inr, append_assoc}
use Rattle.std.proofs.lemmas.Bool.{cases_Bool}
use Rattle.std.proofs.lemmas.List.{map-append, take_more, append-nil, get_or_default}
use Rattle.std.proofs.lemmas.List.Folds.{list_any-append}
use Rattle.std.proofs.lemmas.Map.Text.{is_eq-slice_cmp}
use Rattle.std.specs.Cmp.Lexicographic.{slice_cmp, bytes_decides, nat_list_eq_equiv}
use Rattle.std.specs.declared.cmp.Ordering.{Ordering}
use Rattle.std.specs.declared.cmp.Ordering.TheVariants.{Less, Equal, Greater}
use Rattle.std.specs.List.{list_any}
use Rattle.std.specs.Ordering.{is_eq, nat_cmp, match_ordering}
use Rattle.std.specs.BTreeSet.{insert_key}
use Rattle.scope_analysis.specs.DeclaredNames.{Text, has_text, texts_without, first_ones_after}
use Rattle.scope_analysis.specs.TextSets.{first_cell_of, first_of}

abbrev read : List (Bor Text) → List Text
read ks = map (λ (k : Bor Text). k.now) ks

abbrev text_cmp : Bor Text → Bor Text → Ordering
text_cmp x y = slice_cmp nat_cmp x.now y.now

or_swap : (a b c : Bool) → (a || (b || c)) ≡ (b || (a || c))
or_swap true true c = refl
or_swap true false c = refl
or_swap false true c = refl
or_swap false false c = refl

or_same : (a b : Bool) → (a || b) ≡ (a || (a || b))
or_same true b = refl
or_same false b = refl

pub has_contains : (ks : List (Bor Text)) (q : Bor Text) → list_any (λ (k : Bor Text). is_eq (text_cmp q k)) ks ≡ has_text (read ks) q.now
has_contains [] q = refl
has_contains (k ∷ ks) q =
    ap (λ (b : Bool). b || list_any (λ (x : Bor Text). is_eq (text_cmp q x)) ks) (is_eq-slice_cmp q.now k.now ∙ nat_list_eq_equiv.symm q.now k.now)
    ∙ ap (λ (b : Bool). bytes_eq k.now q.now || b) (has_contains ks q)

insert_at : (k x : Bor Text) (xs inserted : List (Bor Text)) (q : Text) (o : Ordering) → text_cmp k x ≡ o → has_text (read inserted) q ≡ (bytes_eq k.now q || has_text (read xs) q)
    → has_text (read (match_ordering o (k ∷ x ∷ xs) (x ∷ xs) (x ∷ inserted))) q ≡ (bytes_eq k.now q || (bytes_eq x.now q || has_text (read xs) q))
insert_at k x xs inserted q Less e h = refl
insert_at k x xs inserted q Equal e h =
    let same : k.now ≡ x.now = (bytes_decides k.now x.now).0 (sym (is_eq-slice_cmp k.now x.now) ∙ ap is_eq e) in
    or_same (bytes_eq x.now q) (has_text (read xs) q) ∙ ap (λ (t : Text). bytes_eq t q || (bytes_eq x.now q || has_text (read xs) q)) (sym same)
insert_at k x xs inserted q Greater e h = ap (λ (b : Bool). bytes_eq x.now q || b) h ∙ or_swap (bytes_eq x.now q) (bytes_eq k.now q) (has_text (read xs) q)

pub insert_has : (ks : List (Bor Text)) (k : Bor Text) (q : Text) → has_text (read (insert_key text_cmp ks k)) q ≡ (bytes_eq k.now q || has_text (read ks) q)
insert_has [] k q = refl
insert_has (x ∷ xs) k q = insert_at k x xs (insert_key text_cmp xs k) q (text_cmp k x) refl (insert_has xs k q)

-- ---- each text once

first_at : (a b : List Text) (t : Text) (ts : List Text) (found other : Bool) → found ≡ other → first_ones_after a ts ≡ first_ones_after b ts → first_ones_after (t ∷ a) ts ≡ first_ones_after (t ∷ b) ts
    → (if found then first_ones_after a ts else t ∷ first_ones_after (t ∷ a) ts) ≡ (if other then first_ones_after b ts else t ∷ first_ones_after (t ∷ b) ts)
first_at a b t ts true true e f g = f
first_at a b t ts true false e f g = cc
first_at a b t ts false true e f g = cc
first_at a b t ts false false e f g = ap (λ (xs : List Text). t ∷ xs) g

first_alike : (ts a b : List Text) → ((q : Text) → has_text a q ≡ has_text b q) → first_ones_after a ts ≡ first_ones_after b ts
first_alike [] a b same = refl
first_alike (t ∷ ts) a b same = first_at a b t ts (has_text a t) (has_text b t) (same t) (first_alike ts a b same) (first_alike ts (t ∷ a) (t ∷ b) (λ q. ap (λ (x : Bool). bytes_eq t q || x) (same q)))

-- a text that is there already adds nothing
there_already : (seen : List Text) (t q : Text) → has_text seen t ≡ true → (bytes_eq t q || has_text seen q) ≡ has_text seen q
there_already seen t q h = elim (cases_Bool (bytes_eq t q)) [
  | inl e ↦ let same : t ≡ q = (bytes_decides t q).0 e in ap (λ (b : Bool). b || has_text seen q) e ∙ (sym h ∙ ap (has_text seen) same)
  | inr n ↦ ap (λ (b : Bool). b || has_text seen q) n
]

pub first_turn : (old new : List Text) (kept later : List Text) (t : Text) (ts : List Text) (fresh : Bool)
    → fresh ≡ not (has_text old t) → ((q : Text) → has_text new q ≡ (bytes_eq t q || has_text old q)) → later ≡ kept ++ cond fresh (t ∷ []) []
    → later ++ first_ones_after new ts ≡ kept ++ first_ones_after old (t ∷ ts)
first_turn old new kept later t ts fresh is_fresh grown is_later = elim (cases_Bool (has_text old t)) [
  | inl e ↦ let stale : fresh ≡ false = is_fresh ∙ ap not e in
      ap (λ (xs : List Text). xs ++ first_ones_after new ts) (is_later ∙ (ap (λ (b : Bool). kept ++ cond b (t ∷ []) []) stale ∙ append-nil kept))
      ∙ (ap (λ (xs : List Text). kept ++ xs) (first_alike ts new old (λ q. grown q ∙ there_already old t q e))
      ∙ ap (λ (b : Bool). kept ++ (if b then first_ones_after old ts else t ∷ first_ones_after (t ∷ old) ts)) (sym e))
  | inr n ↦ let new_one : fresh ≡ true = is_fresh ∙ ap not n in
      ap (λ (xs : List Text). xs ++ first_ones_after new ts) (is_later ∙ ap (λ (b : Bool). kept ++ cond b (t ∷ []) []) new_one)
      ∙ (append_assoc kept (t ∷ []) (first_ones_after new ts)
      ∙ (ap (λ (xs : List Text). kept ++ (t ∷ xs)) (first_alike ts new (t ∷ old) grown)
      ∙ ap (λ (b : Bool). kept ++ (if b then first_ones_after old ts else t ∷ first_ones_after (t ∷ old) ts)) (sym n)))
]

-- ---- without some texts

pub without_turn : (gone : List Text) (kept later : List Text) (t : Text) (ts : List Text) (found : Bool) → found ≡ has_text gone t → later ≡ kept ++ cond found [] (t ∷ [])
    → later ++ texts_without gone ts ≡ kept ++ texts_without gone (t ∷ ts)
without_turn gone kept later t ts found is_found is_later = elim (cases_Bool (has_text gone t)) [
  | inl e ↦ let out : found ≡ true = is_found ∙ e in
      ap (λ (xs : List Text). xs ++ texts_without gone ts) (is_later ∙ (ap (λ (b : Bool). kept ++ cond b [] (t ∷ [])) out ∙ append-nil kept))
      ∙ ap (λ (b : Bool). kept ++ (if not b then t ∷ texts_without gone ts else texts_without gone ts)) (sym e)
  | inr n ↦ let stays : found ≡ false = is_found ∙ n in
      ap (λ (xs : List Text). xs ++ texts_without gone ts) (is_later ∙ ap (λ (b : Bool). kept ++ cond b [] (t ∷ [])) stays)
      ∙ (append_assoc kept (t ∷ []) (texts_without gone ts)
      ∙ ap (λ (b : Bool). kept ++ (if not b then t ∷ texts_without gone ts else texts_without gone ts)) (sym n))
]

-- ---- one text more

or_comm : (a b : Bool) → (a || b) ≡ (b || a)
or_comm true true = refl
or_comm true false = refl
or_comm false true = refl
or_comm false false = refl

or_false : (b : Bool) → (b || false) ≡ b
or_false true = refl
or_false false = refl

pub has_more : (f : ℕ → Text) (atoms : List ℕ) (k : ℕ) (q : Text) → k < length atoms → has_text (map f (take (k + 1) atoms)) q ≡ (bytes_eq (f (get_or atoms k 0)) q || has_text (map f (take k atoms)) q)
has_more f atoms k q lt =
    ap (λ (xs : List ℕ). has_text (map f xs) q) (take_more atoms k 0 lt)
    ∙ (ap (λ (xs : List Text). has_text xs q) (map-append f (take k atoms) (get_or atoms k 0 ∷ []))
    ∙ (list_any-append (λ (t : Text). bytes_eq t q) (map f (take k atoms)) (f (get_or atoms k 0) ∷ [])
    ∙ (or_comm (has_text (map f (take k atoms)) q) (has_text (f (get_or atoms k 0) ∷ []) q) ∙ ap (λ (b : Bool). b || has_text (map f (take k atoms)) q) (or_false (bytes_eq (f (get_or atoms k 0)) q)))))

pub kept_more : (f : ℕ → Text) (old new : List ℕ) (x : ℕ) (fresh : Bool) → fresh ≡ true → new ≡ old ++ x ∷ [] → map f new ≡ map f old ++ cond fresh (f x ∷ []) []
kept_more f old new x fresh is_fresh grown = ap (map f) grown ∙ (map-append f old (x ∷ []) ∙ ap (λ (b : Bool). map f old ++ cond b (f x ∷ []) []) (sym is_fresh))

pub kept_same : (f : ℕ → Text) (old new : List ℕ) (x : ℕ) (fresh : Bool) → fresh ≡ false → new ≡ old → map f new ≡ map f old ++ cond fresh (f x ∷ []) []
kept_same f old new x fresh is_stale same = ap (map f) same ∙ (sym (append-nil (map f old)) ∙ ap (λ (b : Bool). map f old ++ cond b (f x ∷ []) []) (sym is_stale))

-- ---- first cells

-- the atom in the first cell of a text
pub stands_first : (cells : List (Option ℕ)) (t units : Text) (count cell first : ℕ) (e : Option ℕ) → units ≡ t → count ≡ length cells → cell ≡ first_cell_of units count → cell < count
    → e ≡ get_or cells cell e → e ≡ Some first → first_of cells t ≡ Some first
stands_first cells t units count cell first e u n is lt at some =
    ap (λ (k : ℕ). get_or cells k None) (sym (is ∙ ap₂ first_cell_of u n))
    ∙ (sym (at ∙ get_or_default cells cell e None (subst (λ (k : ℕ). cell < k) n lt)) ∙ some)

-- where its first cell is taken, it can be put among the later ones
pub still_free : (cells : List (Option ℕ)) (old new : Text → Bool) (t : Text) (first : ℕ) → first_of cells t ≡ Some first → ((q : Text) → new q ≡ (bytes_eq t q || old q))
    → ((q : Text) → first_of cells q ≡ None → old q ≡ false) → (q : Text) → first_of cells q ≡ None → new q ≡ false
still_free cells old new t first here grown taken q free = grown q ∙ (ap (λ (b : Bool). bytes_eq t q || b) (taken q free) ∙ (or_false (bytes_eq t q) ∙ other))
  where
    other : bytes_eq t q ≡ false
    other = elim (cases_Bool (bytes_eq t q)) [
      | inl e ↦ let same : t ≡ q = (bytes_decides t q).0 e in let clash : ◌≡◌ {A = Option ℕ} (Some first) None = sym here ∙ (ap (first_of cells) same ∙ free) in absurd (cc)
      | inr n ↦ n
    ]
