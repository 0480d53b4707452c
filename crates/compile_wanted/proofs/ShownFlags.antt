-- Functions that start at rising offsets: their numbers, and which of them are shown.
use Rattle.std.proofs.Common.{◌≡◌, replicate, ℕ, zero, suc, ◌+◌, ◌<◌, ◌≤◌, Bool, true, false, ◌&&◌, ◌||◌, cond, nat_eq, nat_le, nat_lt, get_or, List, [], ◌∷◌, ◌++◌, length, map, filter, refl, sym, ◌∙◌, ap, ap₂, subst, arith, append_assoc, length-append, le-leb}
use Rattle.std.specs.List.{list_any, range_with_len}
use Rattle.std.proofs.lemmas.List.{ext_get_or}
use Rattle.std.proofs.lemmas.List.FromFn.{length-map-range_with_len, get_or-map-range_with_len}
use Rattle.std.proofs.lemmas.Bool.{lt-leb, le-ltb, lt-ltb}
use Rattle.std.proofs.lemmas.List.Folds.{list_any-append}
use Rattle.stencil_data.specs.declared.functions.Extent.{Extent}
use Rattle.compile_specs.specs.Shown.{Wanted, All, Numbers, wants, number_of, is_within, is_shown}
use Rattle.compile_wanted.specs.Flags.{wanted_flags, any_within, shown_flags}
use Rattle.emit_limit_laws.specs.Offsets.{OffsetsRise}

-- ---- numbers

-- offsets below this one
AllBelow : ℕ → List ℕ → Type 0
AllBelow low [] = Unit {0}
AllBelow low (n ∷ ns) = (n < low) × AllBelow low ns

below_more : (low n : ℕ) (ns : List ℕ) → low ≤ n → AllBelow low ns → AllBelow (suc n) (ns ++ n ∷ [])
unfolding AllBelow
below_more low n [] le below = (omega arith, tt)
below_more low n (m ∷ ns) le below = (omega (arith, below.0), below_more low n ns le below.1)

filter_front : (n low : ℕ) (front back : List ℕ) → low ≤ n → AllBelow low front → length (filter (λ s. nat_lt s n) (front ++ back)) ≡ length front + length (filter (λ s. nat_lt s n) back)
unfolding AllBelow
filter_front n low [] back le below = omega arith
filter_front n low (m ∷ front) back le below =
    ap (λ (b : Bool). length (cond b (m ∷ filter (λ s. nat_lt s n) (front ++ back)) (filter (λ s. nat_lt s n) (front ++ back)))) (lt-ltb m n (omega (arith, below.0)))
    ∙ (ap suc (filter_front n low front back le below.1) ∙ omega arith)

filter_back : (n from : ℕ) (back : List ℕ) → n ≤ from → OffsetsRise from back → filter (λ s. nat_lt s n) back ≡ []
filter_back n from [] le rise = refl
filter_back n from (m ∷ back) le rise =
    ap (λ (b : Bool). cond b (m ∷ filter (λ s. nat_lt s n) back) (filter (λ s. nat_lt s n) back)) (le-ltb m n (omega (arith, rise.0)))
    ∙ filter_back n (suc m) back (omega (arith, rise.0)) rise.1

one_number : (n low : ℕ) (front back : List ℕ) → low ≤ n → AllBelow low front → OffsetsRise n back → number_of (front ++ back) n ≡ 1 + length front
one_number n low front back le below rise =
    ap (λ (k : ℕ). 1 + k) (filter_front n low front back le below ∙ (ap (λ (l : List ℕ). length front + length l) (filter_back n n back (omega arith) rise) ∙ omega arith))

numbers_behind : (low : ℕ) (front back : List ℕ) → AllBelow low front → OffsetsRise low back → map (number_of (front ++ back)) back ≡ range_with_len (1 + length front) (length back)
numbers_behind low front [] below rise = refl
numbers_behind low front (n ∷ back) below rise =
    ap₂ (λ (k : ℕ) (ks : List ℕ). k ∷ ks) (one_number n low front (n ∷ back) rise.0 below (omega arith, rise.1))
    (ap (λ (l : List ℕ). map (number_of l) back) (sym (append_assoc front (n ∷ []) back)) ∙ (numbers_behind (suc n) (front ++ n ∷ []) back (below_more low n front rise.0 below) rise.1 ∙ ap (λ (k : ℕ). range_with_len k (length back)) more))
  where
    more : 1 + length (front ++ n ∷ []) ≡ (1 + length front) + 1
    more = omega (arith, length-append front (n ∷ []))

-- the functions are numbered from 1 in their order
pub numbers_rise : (starts : List ℕ) → OffsetsRise 0 starts → map (number_of starts) starts ≡ range_with_len 1 (length starts)
unfolding AllBelow
numbers_rise starts rise = numbers_behind 0 [] starts tt rise

-- ---- which are shown

abbrev start_of : Extent → ℕ
start_of e = e.start

abbrev end_of : Extent → ℕ
end_of e = e.end

-- whether a function is in one of this extent, and passes
abbrev is_in : (Extent → Bool) → Extent → Extent → Bool
is_in p x e = is_within x e && p e

front_apart : (p : Extent → Bool) (x : Extent) (low : ℕ) (front : List Extent) → low ≤ x.start → AllBelow low (map start_of front) → list_any (is_in p x) front ≡ false
unfolding AllBelow
front_apart p x low [] le below = refl
front_apart p x low (e ∷ front) le below =
    ap₂ (λ (a : Bool) (b : Bool). ((a && nat_le e.end x.end) && p e) || b) (lt-leb x.start e.start (omega (arith, below.0))) (front_apart p x low front le below.1)

back_within : (p : Extent → Bool) (x : Extent) (from : ℕ) (back : List Extent) → x.start ≤ from → OffsetsRise from (map start_of back) → list_any (is_in p x) back ≡ any_within x.end (map p back) (map end_of back)
back_within p x from [] le rise = refl
back_within p x from (e ∷ back) le rise =
    ap₂ (λ (a : Bool) (b : Bool). ((a && nat_le e.end x.end) && p e) || b) (le-leb x.start e.start (omega (arith, rise.0))) (back_within p x (suc e.start) back (omega (arith, rise.0)) rise.1)

one_shown : (p : Extent → Bool) (x : Extent) (low : ℕ) (front back : List Extent) → low ≤ x.start → AllBelow low (map start_of front) → OffsetsRise x.start (map start_of back) → list_any (is_in p x) (front ++ back) ≡ any_within x.end (map p back) (map end_of back)
one_shown p x low front back le below rise =
    list_any-append (is_in p x) front back ∙ ap₂ (λ (a : Bool) (b : Bool). a || b) (front_apart p x low front le below) (back_within p x x.start back (omega arith) rise)

starts_more : (front : List Extent) (x : Extent) → map start_of (front ++ x ∷ []) ≡ map start_of front ++ x.start ∷ []
starts_more [] x = refl
starts_more (e ∷ front) x = ap (λ (l : List ℕ). e.start ∷ l) (starts_more front x)

shown_behind : (p : Extent → Bool) (low : ℕ) (front back : List Extent) → AllBelow low (map start_of front) → OffsetsRise low (map start_of back) → map (λ (x : Extent). list_any (is_in p x) (front ++ back)) back ≡ shown_flags (map p back) (map end_of back)
shown_behind p low front [] below rise = refl
shown_behind p low front (x ∷ back) below rise =
    ap₂ (λ (b : Bool) (bs : List Bool). b ∷ bs) (one_shown p x low front (x ∷ back) rise.0 below (omega arith, rise.1))
    (ap (λ (l : List Extent). map (λ (y : Extent). list_any (is_in p y) l) back) (sym (append_assoc front (x ∷ []) back))
    ∙ shown_behind p (suc x.start) (front ++ x ∷ []) back (subst (AllBelow (suc x.start)) (sym (starts_more front x)) (below_more low x.start (map start_of front) rise.0 below)) rise.1)

mapped_numbers : (want : Wanted) (starts : List ℕ) (es : List Extent) → map (λ (e : Extent). wants want (number_of starts e.start)) es ≡ map (wants want) (map (number_of starts) (map start_of es))
mapped_numbers want starts [] = refl
mapped_numbers want starts (e ∷ es) = ap (λ (l : List Bool). wants want (number_of starts e.start) ∷ l) (mapped_numbers want starts es)

length_starts : (es : List Extent) → length (map start_of es) ≡ length es
length_starts [] = refl
length_starts (e ∷ es) = ap suc (length_starts es)

-- which of all functions are shown, by which are wanted and where they end
pub shown_by_flags : (want : Wanted) (es : List Extent) → OffsetsRise 0 (map start_of es) → map (is_shown want es) es ≡ shown_flags (wanted_flags want (length es)) (map end_of es)
unfolding AllBelow
shown_by_flags want es rise =
    shown_behind (λ (e : Extent). wants want (number_of (map start_of es) e.start)) 0 [] es tt rise
    ∙ ap (λ (l : List Bool). shown_flags l (map end_of es))
    (mapped_numbers want (map start_of es) es ∙ (ap (map (wants want)) (numbers_rise (map start_of es) rise) ∙ ap (λ (n : ℕ). map (wants want) (range_with_len 1 n)) (length_starts es)))

-- ---- which are wanted

pub all_wanted : (a n : ℕ) → replicate n true ≡ map (wants All) (range_with_len a n)
all_wanted a zero = refl
all_wanted a (suc n) = ap (λ (l : List Bool). true ∷ l) (all_wanted (a + 1) n)

-- each function was marked whose number is among these
pub marked_all : (numbers taken : List ℕ) (count : ℕ) (flags : List Bool) → taken ≡ numbers → length flags ≡ count → ((k : ℕ) → k < count → get_or flags k false ≡ list_any (λ n. nat_eq n (k + 1)) taken) → flags ≡ wanted_flags (Numbers numbers) count
marked_all numbers taken count flags taken_is same each =
    ext_get_or false flags (wanted_flags (Numbers numbers) count) (same ∙ sym (length-map-range_with_len (wants (Numbers numbers)) 1 count))
    (λ k lt. each k (omega arith) ∙ (ap (λ (l : List ℕ). list_any (λ n. nat_eq n (k + 1)) l) taken_is ∙ sym (get_or-map-range_with_len (wants (Numbers numbers)) 1 count k (k + 1) false (omega arith) (omega arith))))

pub flags_length : (want : Wanted) (count : ℕ) → length (wanted_flags want count) ≡ count
flags_length want count = length-map-range_with_len (wants want) 1 count
