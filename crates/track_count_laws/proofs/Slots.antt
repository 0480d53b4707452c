-- How many tokens pieces have places for, and what may be told where those stand.
use Rattle.std.proofs.Common.{◌≡◌, ℕ, ◌+◌, ◌*◌, ◌≤◌, suc, List, [], ◌∷◌, ◌++◌, length, length-append, refl, ap, arith}
use Rattle.script_grammar.specs.Lexeme.{Lexeme}
use Rattle.script_grammar.specs.Pieces.{Slot, Piece, At, Gap, Pass, Fits, from, glue, until, ending_at}

abbrev pub slots : List Piece → ℕ
slots [] = 0
slots (At s ∷ ps) = suc (slots ps)
slots (Gap e ∷ ps) = slots ps
slots (Pass ∷ ps) = slots ps

pub slots_both : (ps qs : List Piece) → slots (ps ++ qs) ≡ slots ps + slots qs
slots_both [] qs = omega arith
slots_both (At s ∷ ps) qs = let e = slots_both ps qs in omega (arith, e)
slots_both (Gap e ∷ ps) qs = slots_both ps qs
slots_both (Pass ∷ ps) qs = slots_both ps qs

-- what else is asked of the first or the last piece leaves the places
pub slots_from : (n : ℕ) (ps : List Piece) → slots (from n ps) ≡ slots ps
slots_from n [] = refl
slots_from n (At s ∷ ps) = refl
slots_from n (Gap e ∷ ps) = refl
slots_from n (Pass ∷ ps) = refl

pub slots_glue : (ps : List Piece) → slots (glue ps) ≡ slots ps
slots_glue [] = refl
slots_glue (At s ∷ ps) = refl
slots_glue (Gap e ∷ ps) = refl
slots_glue (Pass ∷ ps) = refl

slots_ending : (n : ℕ) (p : Piece) → slots (ending_at n p ∷ []) ≡ slots (p ∷ [])
slots_ending n (At s) = refl
slots_ending n (Gap e) = refl
slots_ending n Pass = refl

pub slots_until : (n : ℕ) (ps : List Piece) → slots (until n ps) ≡ slots ps
slots_until n [] = refl
slots_until n (p ∷ []) = slots_ending n p
slots_until n (At s ∷ q ∷ ps) = ap suc (slots_until n (q ∷ ps))
slots_until n (Gap e ∷ q ∷ ps) = slots_until n (q ∷ ps)
slots_until n (Pass ∷ q ∷ ps) = slots_until n (q ∷ ps)

-- each place has a token of its own
pub slots_fit : (ps : List Piece) (w : List Lexeme) (n : Lexeme) → Fits ps w n → slots ps ≤ length w
slots_fit [] w n h = omega arith
slots_fit (At s ∷ ps) [] n h = absurd h
slots_fit (At s ∷ ps) (t ∷ w) n h = let e = slots_fit ps w n h.1 in omega (arith, e)
slots_fit (Gap e ∷ ps) [] n h = slots_fit ps [] n h.1
slots_fit (Gap e ∷ ps) (t ∷ w) n h = slots_fit ps (t ∷ w) n h.1
slots_fit (Pass ∷ ps) w n h =
    let e = slots_fit ps h.1 n h.4 in
    let l = ap length h.2 in
    let k = length-append h.0 h.1 in
    omega (arith, e, l, k)

-- These pieces have places for so many tokens that, at three to a token, a number rises from `behind` to `all` at most.
pub record Rises (all behind : ℕ) (ps : List Piece) : Type 0 where
  pub most : all ≤ 3 * slots ps + behind

pub none : {n : ℕ} {ps : List Piece} → Rises n n ps
none = record { most = omega arith }

pub both : {a b c : ℕ} {ps qs : List Piece} → Rises a b ps → Rises b c qs → Rises a c (ps ++ qs)
both {ps = ps} {qs = qs} h k =
    let e = slots_both ps qs in
    let x = h.most in
    let y = k.most in
    record { most = omega (arith, e, x, y) }

pub past : {a b : ℕ} {ps : List Piece} {p : Piece} → Rises a b ps → Rises a b (p ∷ ps)
past {ps = ps} {p = p} h =
    let e = slots_both (p ∷ []) ps in
    let x = h.most in
    record { most = omega (arith, e, x) }

pub before : {a b : ℕ} {ps : List Piece} (qs : List Piece) → Rises a b ps → Rises a b (qs ++ ps)
before {ps = ps} qs h =
    let e = slots_both qs ps in
    let x = h.most in
    record { most = omega (arith, e, x) }

pub after : {a b : ℕ} {ps : List Piece} (qs : List Piece) → Rises a b ps → Rises a b (ps ++ qs)
after {ps = ps} qs h =
    let e = slots_both ps qs in
    let x = h.most in
    record { most = omega (arith, e, x) }

-- a token pays for three regions
pub token : {a b c d : ℕ} {ps : List Piece} {s : Slot} → Rises a b ps → c + b ≤ 3 + (a + d) → Rises c d (At s ∷ ps)
token h le = let x = h.most in record { most = omega (arith, le, x) }

pub fewer : {a b c d : ℕ} {ps : List Piece} → Rises a b ps → c + b ≤ a + d → Rises c d ps
fewer h le = let x = h.most in record { most = omega (arith, le, x) }

pub alike : {a b : ℕ} {ps qs : List Piece} → slots qs ≡ slots ps → Rises a b ps → Rises a b qs
alike e h = let x = h.most in record { most = omega (arith, e, x) }
