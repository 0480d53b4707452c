-- Parts are told apart by their bytes, whatever follows.
use Rattle.std.proofs.Common.{◌≡◌, ℕ, zero, suc, List, [], ◌∷◌, ◌++◌, length, flat_map, take, drop, Some, None, refl, sym, ◌∙◌, ap, ap₂}
use Rattle.std.proofs.Common.{append_assoc, arith}
use Rattle.bytecode_buf.specs.Bytes.{le_value}
use Rattle.bytecode_buf.proofs.Bytes.{le_value-le_bytes, take-le_bytes, drop-le_bytes}
use Rattle.stencil_xdr_read.specs.Reading.{AreUnique, byte, IsByte, number, Fits, pair_bytes, FitPair, maybe_bytes, FitMaybe, AreItems}
use Rattle.stencil_xdr_read.specs.Reading.{list_bytes, FitList}

pub unique_bytes : AreUnique byte IsByte
unique_bytes x y r s fx fy e = (cc, cc)

pub unique_numbers : (width : ℕ) → AreUnique (number width) (Fits width)
unique_numbers width x y r s fx fy e = (value, rest)
  where
    value : x ≡ y
    value = sym (le_value-le_bytes width x fx) ∙ (ap le_value
        (sym (take-le_bytes width x r) ∙ (ap (take width) e ∙ take-le_bytes width y s)) ∙ le_value-le_bytes width y fy)

    rest : r ≡ s
    rest = sym (drop-le_bytes width x r) ∙ (ap (drop width) e ∙ drop-le_bytes width y s)

pub unique_pairs : {A B : Type 0} (p : A → List ℕ) (P : A → Type 0) (q : B → List ℕ) (Q : B → Type 0) → AreUnique p P → AreUnique q Q
    → AreUnique (pair_bytes p q) (FitPair P Q)
unique_pairs {A} {B} p P q Q u v (a, b) (c, d) r s fx fy e =
    let first = u a c (q b ++ r) (q d ++ s) fx.0 fy.0 (sym (append_assoc (p a) (q b) r) ∙ (e ∙ append_assoc (p c) (q d) s)) in
    let second = v b d r s fx.1 fy.1 first.1 in
    (cc (first.0, second.0), second.1)

pub unique_maybes : {A : Type 0} (p : A → List ℕ) (P : A → Type 0) → AreUnique p P → AreUnique (maybe_bytes p) (FitMaybe P)
unique_maybes p P u None None r s fx fy e = (refl, cc)
unique_maybes p P u None (Some y) r s fx fy e = absurd (cc)
unique_maybes p P u (Some x) None r s fx fy e = absurd (cc)
unique_maybes p P u (Some x) (Some y) r s fx fy e = let h = u x y r s fx fy (cc) in (ap (λ a. Some a) h.0, h.1)

pub unique_items : {A : Type 0} (p : A → List ℕ) (P : A → Type 0) → AreUnique p P → (count : ℕ) → AreUnique (flat_map p) (AreItems count P)
unique_items p P u count [] [] r s fx fy e = (refl, e)
unique_items p P u count [] (y ∷ ys) r s fx fy e = absurd (omega arith)
unique_items p P u count (x ∷ xs) [] r s fx fy e = absurd (omega arith)
unique_items p P u zero (x ∷ xs) (y ∷ ys) r s fx fy e = absurd (omega arith)
unique_items p P u (suc count) (x ∷ xs) (y ∷ ys) r s fx fy e =
    let one = u x y (flat_map p xs ++ r) (flat_map p ys ++ s) fx.1.0 fy.1.0
    (sym (append_assoc (p x) (flat_map p xs) r) ∙ (e ∙ append_assoc (p y) (flat_map p ys) s)) in
    let further = unique_items p P u count xs ys r s (omega arith, fx.1.1) (omega arith, fy.1.1) one.1 in
    (ap₂ (λ a bs. a ∷ bs) one.0 further.0, further.1)

pub unique_lists : {A : Type 0} (p : A → List ℕ) (P : A → Type 0) → AreUnique p P → AreUnique (list_bytes p) (FitList P)
unique_lists p P u xs ys r s fx fy e =
    let count = unique_numbers 4 (length xs) (length ys) (flat_map p xs ++ r) (flat_map p ys ++ s) fx.0 fy.0
    (sym (append_assoc (number 4 (length xs)) (flat_map p xs) r) ∙ (e ∙ append_assoc (number 4 (length ys)) (flat_map p ys) s)) in
    unique_items p P u (length xs) xs ys r s (refl, fx.1) (sym count.0, fy.1) count.1
