-- Lemmas on bytes of numbers and on writes.
use Rattle.std.proofs.Common.{◌≡◌, ℕ, zero, suc, ◌+◌, ◌-◌, ◌*◌, ◌/◌, ◌%◌, ◌^◌, ◌<◌, ◌≤◌, List, [], ◌∷◌, ◌++◌, length, get_or, take, drop, set, refl, sym, ◌∙◌, ap, subst, arith, length-set, drop-cons, pow-suc, add-one, ap₂, lit<, take_at, drop_at, append_assoc, length-append, length-drop, length-take-le}
use Rattle.std.proofs.Math.Nat.{pow-le-pow_right}
use Rattle.std.proofs.Math.Seq.{sets, sets-eq, drop-length, take-append-add, drop-append-add}
use Rattle.bytecode_buf.specs.Bytes.{le_bytes, le_value, written}

-- a number of this width has as many bytes
pub length-le_bytes : (width n : ℕ) → length (le_bytes width n) ≡ width
length-le_bytes zero n = refl
length-le_bytes (suc width) n = ap suc (length-le_bytes width (n / 256))

-- what is written byte by byte is what is written at once
pub sets-written : (old : List ℕ) (at width value : ℕ) → at + width ≤ length old → sets old at (le_bytes width value) ≡ written at (le_bytes width value) old
sets-written old at width value room = sets-eq (le_bytes width value) old at (omega (arith, length-le_bytes width value))

-- how far a loop that writes a number byte by byte has come
pub record Writing (at width value : ℕ) (old : List ℕ) (i rest : ℕ) (now : List ℕ) : Type 0 where
  pub room : length now ≡ length old
  pub same : sets now (at + i) (le_bytes (width - i) rest) ≡ sets old at (le_bytes width value)

pub writing_none : (at width value : ℕ) (old : List ℕ) → Writing at width value old 0 value old
writing_none at width value old = record {
  room = refl;
  same = let e : at + 0 ≡ at = omega arith in let f : width - 0 ≡ width = omega arith in ap (λ (k : ℕ). sets old k (le_bytes (width - 0) value)) e ∙ ap (λ (k : ℕ). sets old at (le_bytes k value)) f;
}

pub writing_more : (at width value : ℕ) (old : List ℕ) (i rest : ℕ) (now : List ℕ) → i < width → Writing at width value old i rest now → Writing at width value old (i + 1) (rest / 256) (set now (at + i) (rest % 256))
writing_more at width value old i rest now more w = record {
  room = length-set now (at + i) (rest % 256) ∙ w.room;
  same = step;
}
  where
    left : width - i ≡ suc (width - (i + 1))
    left = omega arith

    further : at + (i + 1) ≡ suc (at + i)
    further = omega arith

    step : sets (set now (at + i) (rest % 256)) (at + (i + 1)) (le_bytes (width - (i + 1)) (rest / 256)) ≡ sets old at (le_bytes width value)
    step = ap (λ (k : ℕ). sets (set now (at + i) (rest % 256)) k (le_bytes (width - (i + 1)) (rest / 256))) further ∙ (sym (ap (λ (k : ℕ). sets now (at + i) (le_bytes k rest)) left) ∙ w.same)

pub writing_all : (at width value : ℕ) (old : List ℕ) (i rest : ℕ) (now : List ℕ) → at + width ≤ length old → i ≤ width → width ≤ i → Writing at width value old i rest now → now ≡ written at (le_bytes width value) old
writing_all at width value old i rest now room low high w =
    let e : width - i ≡ 0 = omega arith in
    sym (ap (λ (k : ℕ). sets now (at + i) (le_bytes k rest)) e) ∙ (w.same ∙ sets-written old at width value room)

-- a number read from the back of the bytes: how far the loop has come
pub record Reading (bytes : List ℕ) (i value : ℕ) : Type 0 where
  pub same : value ≡ le_value (drop (length bytes - i) bytes)
  pub small : value < 256 ^ i

pub reading_none : (bytes : List ℕ) → Reading bytes 0 0
reading_none bytes = record {
  same = let e : length bytes - 0 ≡ length bytes = omega arith in sym (ap (λ (k : ℕ). le_value (drop k bytes)) e ∙ ap le_value (drop-length bytes));
  small = lit< tt;
}

pub reading_more : (bytes : List ℕ) (i value byte : ℕ) → i < length bytes → byte < 256 → byte ≡ get_or bytes (length bytes - 1 - i) 0 → Reading bytes i value → Reading bytes (i + 1) (value * 256 + byte)
reading_more bytes i value byte more small is r = record {
  same = step;
  small = subst (λ (k : ℕ). value * 256 + byte < k) (sym power) (omega (arith, r.small));
}
  where
    power : 256 ^ (i + 1) ≡ 256 ^ i * 256
    power = ap (λ (k : ℕ). 256 ^ k) (add-one i) ∙ pow-suc 256 i

    place : length bytes - 1 - i < length bytes
    place = omega arith

    here : length bytes - (i + 1) ≡ length bytes - 1 - i
    here = omega arith

    behind : suc (length bytes - 1 - i) ≡ length bytes - i
    behind = omega arith

    cut : drop (length bytes - (i + 1)) bytes ≡ byte ∷ drop (length bytes - i) bytes
    cut = ap (λ (k : ℕ). drop k bytes) here ∙ (drop-cons bytes (length bytes - 1 - i) 0 place ∙ ap₂ (λ (b : ℕ) (k : ℕ). b ∷ drop k bytes) (sym is) behind)

    step : value * 256 + byte ≡ le_value (drop (length bytes - (i + 1)) bytes)
    step = rw (cut, ← r.same) (omega arith)

pub reading_all : (bytes : List ℕ) (i value : ℕ) → i ≤ length bytes → length bytes ≤ i → Reading bytes i value → value ≡ le_value bytes
reading_all bytes i value low high r = let e : length bytes - i ≡ 0 = omega arith in r.same ∙ ap (λ (k : ℕ). le_value (drop k bytes)) e

-- one byte more of at most eight fits 64 bits
pub reading_fits : (i value byte : ℕ) → i < 8 → value < 256 ^ i → byte < 256 → value * 256 + byte < 2 ^ 64
reading_fits i value byte few small fits =
    let last : i ≤ 7 = omega arith in let top : 256 ^ i ≤ 256 ^ 7 = pow-le-pow_right {n = 256} (lit< tt) last in
    omega (arith, top)

-- a number that fits is read back from its bytes
pub le_value-le_bytes : (width n : ℕ) → n < 256 ^ width → le_value (le_bytes width n) ≡ n
le_value-le_bytes zero n fits = let one : n < 1 = fits in omega arith
le_value-le_bytes (suc width) n fits =
    let power : n < 256 ^ width * 256 = subst (λ (k : ℕ). n < k) (pow-suc 256 width) fits in
    let higher : n / 256 < 256 ^ width = omega arith in
    ap (λ (k : ℕ). n % 256 + 256 * k) (le_value-le_bytes width (n / 256) higher) ∙ omega arith

-- bytes of a number before others
pub take-le_bytes : (width n : ℕ) (rest : List ℕ) → take width (le_bytes width n ++ rest) ≡ le_bytes width n
take-le_bytes width n rest = take_at (le_bytes width n) rest width (length-le_bytes width n)

pub drop-le_bytes : (width n : ℕ) (rest : List ℕ) → drop width (le_bytes width n ++ rest) ≡ rest
drop-le_bytes width n rest = drop_at (le_bytes width n) rest width (length-le_bytes width n)

-- bytes that are overwritten after a byte
pub written-seam : (before bytes behind : List ℕ) (byte at : ℕ) → length before ≡ at → written (at + 1) bytes (before ++ byte ∷ behind) ≡ before ++ byte ∷ (bytes ++ drop (length bytes) behind)
written-seam before bytes behind byte at is = ap₂ (λ (x : List ℕ) (y : List ℕ). x ++ bytes ++ y) front back ∙ (append_assoc (before ++ byte ∷ []) bytes (drop (length bytes) behind) ∙ append_assoc before (byte ∷ []) (bytes ++ drop (length bytes) behind))
  where
    front : take (at + 1) (before ++ byte ∷ behind) ≡ before ++ byte ∷ []
    front = subst (λ (k : ℕ). take (k + 1) (before ++ byte ∷ behind) ≡ before ++ byte ∷ []) is (take-append-add before (byte ∷ behind) 1)

    place : (at + 1) + length bytes ≡ length before + suc (length bytes)
    place = omega arith

    back : drop ((at + 1) + length bytes) (before ++ byte ∷ behind) ≡ drop (length bytes) behind
    back = ap (λ (k : ℕ). drop k (before ++ byte ∷ behind)) place ∙ drop-append-add before (byte ∷ behind) (suc (length bytes))

-- what stands from a byte on, when bytes after it are overwritten
pub drop-written : (before bytes behind : List ℕ) (byte at : ℕ) → length before ≡ at → drop at (written (at + 1) bytes (before ++ byte ∷ behind)) ≡ byte ∷ (bytes ++ drop (length bytes) behind)
drop-written before bytes behind byte at is = ap (drop at) (written-seam before bytes behind byte at is) ∙ drop_at before (byte ∷ (bytes ++ drop (length bytes) behind)) at is

-- a write leaves the length
pub length-written : (at : ℕ) (bytes old : List ℕ) → at + length bytes ≤ length old → length (written at bytes old) ≡ length old
length-written at bytes old room =
    let front : length (take at old) ≡ at = length-take-le at old (omega arith) in
    omega (arith, length-append (take at old ++ bytes) (drop (at + length bytes) old), length-append (take at old) bytes, front, length-drop (at + length bytes) old)

pub length-patched : (at d : ℕ) (old : List ℕ) → at + 9 ≤ length old → length (written (at + 1) (le_bytes 8 d) old) ≡ length old
length-patched at d old room = length-written (at + 1) (le_bytes 8 d) old (omega arith)
