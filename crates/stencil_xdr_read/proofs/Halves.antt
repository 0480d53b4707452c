-- Numbers by their halves.
use Rattle.std.proofs.Common.{◌≡◌, ℕ, ◌/◌, ◌%◌, [], ◌∷◌, ap, arith}
use Rattle.stencil_xdr_read.specs.Reading.{byte, IsByte, number, Fits, pair_bytes, FitPair}

abbrev pub bytes_of : ℕ → ℕ × ℕ
bytes_of n = (n % 256, n / 256)

pub bytes_fit : (n : ℕ) → Fits 2 n → FitPair IsByte IsByte (bytes_of n)
bytes_fit n h = (omega arith, omega arith)

pub bytes_same : (n : ℕ) → Fits 2 n → number 2 n ≡ pair_bytes byte byte (bytes_of n)
bytes_same n h = let e : n / 256 % 256 ≡ n / 256 = omega arith in ap (λ (k : ℕ). n % 256 ∷ k ∷ []) e

abbrev pub halves_of : ℕ → ℕ × ℕ
halves_of n = (n % 65536, n / 65536)

pub halves_fit : (n : ℕ) → Fits 4 n → FitPair (Fits 2) (Fits 2) (halves_of n)
halves_fit n h = (omega arith, omega arith)

pub halves_same : (n : ℕ) → Fits 4 n → number 4 n ≡ pair_bytes (number 2) (number 2) (halves_of n)
halves_same n h =
    let a : n % 256 ≡ n % 65536 % 256 = omega arith in
    let b : n / 256 % 256 ≡ n % 65536 / 256 % 256 = omega arith in
    let c : n / 256 / 256 % 256 ≡ n / 65536 % 256 = omega arith in
    let d : n / 256 / 256 / 256 % 256 ≡ n / 65536 / 256 % 256 = omega arith in
    cc

abbrev pub words_of : ℕ → ℕ × ℕ
words_of n = (n % 4294967296, n / 4294967296)

pub words_fit : (n : ℕ) → Fits 8 n → FitPair (Fits 4) (Fits 4) (words_of n)
words_fit n h = (omega arith, omega arith)

pub words_same : (n : ℕ) → Fits 8 n → number 8 n ≡ pair_bytes (number 4) (number 4) (words_of n)
words_same n h =
    let a : n % 256 ≡ n % 4294967296 % 256 = omega arith in
    let b : n / 256 % 256 ≡ n % 4294967296 / 256 % 256 = omega arith in
    let c : n / 256 / 256 % 256 ≡ n % 4294967296 / 256 / 256 % 256 = omega arith in
    let d : n / 256 / 256 / 256 % 256 ≡ n % 4294967296 / 256 / 256 / 256 % 256 = omega arith in
    let e : n / 256 / 256 / 256 / 256 % 256 ≡ n / 4294967296 % 256 = omega arith in
    let f : n / 256 / 256 / 256 / 256 / 256 % 256 ≡ n / 4294967296 / 256 % 256 = omega arith in
    let g : n / 256 / 256 / 256 / 256 / 256 / 256 % 256 ≡ n / 4294967296 / 256 / 256 % 256 = omega arith in
    let h : n / 256 / 256 / 256 / 256 / 256 / 256 / 256 % 256 ≡ n / 4294967296 / 256 / 256 / 256 % 256 = omega arith in
    cc
