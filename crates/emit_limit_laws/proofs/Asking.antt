-- What follows for parts that are put together.
use Rattle.std.proofs.Common.{◌≡◌, ℕ, ◌^◌, ◌≤◌, ◌<◌, List, [], ◌∷◌, ◌++◌, length, subst, arith}
use Rattle.script_grammar.specs.Fault.{depth_limit}
use Rattle.script_grammar.specs.Pieces.{Slot, Piece, At, from, glue, until}
use Rattle.parse_track.specs.declared.region.Early.{Early}
use Rattle.emit_limit_laws.specs.Asked.{Within, Asked}
use Rattle.emit_limit_laws.specs.Places.{depths_of, AllUpTo}
use Rattle.emit_limit_laws.proofs.Measures.{depths_from, depths_glue, depths_until, depths_both, length_both, up_to_front, up_to_back, front_none, back_none}

within_front : (ps qs : List Piece) → Within (ps ++ qs) → Within ps
within_front ps qs w =
    let few = w.few in
    let both = length_both ps qs in
    record { few = omega (arith, few, both); shallow = up_to_front depth_limit (depths_of ps) (depths_of qs) (subst (AllUpTo depth_limit) (depths_both ps qs) w.shallow) }

within_back : (ps qs : List Piece) → Within (ps ++ qs) → Within qs
within_back ps qs w =
    let few = w.few in
    let both = length_both ps qs in
    record { few = omega (arith, few, both); shallow = up_to_back depth_limit (depths_of ps) (depths_of qs) (subst (AllUpTo depth_limit) (depths_both ps qs) w.shallow) }

within_alike : (ps qs : List Piece) → depths_of qs ≡ depths_of ps → Within qs → Within ps
within_alike ps qs e w = record { few = subst (λ ds. length ds < 2 ^ 32) e w.few; shallow = subst (AllUpTo depth_limit) e w.shallow }

pub given : {P : Type 0} {ps : List Piece} {ns : List Early} → P → Asked P ps ns
given p = record { holds = λ w n. p }

pub both : {P Q : Type 0} {ps qs : List Piece} {ns ms : List Early} → Asked P ps ns → Asked Q qs ms → Asked (P × Q) (ps ++ qs) (ns ++ ms)
both {ps = ps} {qs = qs} {ns = ns} {ms = ms} a b = record { holds = λ w n. (a.holds (within_front ps qs w) (front_none ns ms n), b.holds (within_back ps qs w) (back_none ns ms n)) }

pub before : {P : Type 0} {ps : List Piece} {ns : List Early} (qs : List Piece) → Asked P ps ns → Asked P (qs ++ ps) ns
before {ps = ps} qs a = record { holds = λ w n. a.holds (within_back qs ps w) n }

pub past : {P : Type 0} {ps : List Piece} {ns : List Early} {p : Piece} → Asked P ps ns → Asked P (p ∷ ps) ns
past {p = p} a = before (p ∷ []) a

pub after : {P : Type 0} {ps : List Piece} {ns : List Early} (qs : List Piece) → Asked P ps ns → Asked P (ps ++ qs) ns
after {ps = ps} qs a = record { holds = λ w n. a.holds (within_front ps qs w) n }

pub noted : {P : Type 0} {ps : List Piece} {ns : List Early} (ms : List Early) → Asked P ps ns → Asked P ps (ms ++ ns)
noted {ns = ns} ms a = record { holds = λ w n. a.holds w (back_none ms ns n) }

alike : {P : Type 0} {ps qs : List Piece} {ns : List Early} → depths_of qs ≡ depths_of ps → Asked P ps ns → Asked P qs ns
alike {ps = ps} {qs = qs} e a = record { holds = λ w n. a.holds (within_alike ps qs e w) n }

pub fits_from : {P : Type 0} {ps : List Piece} {ns : List Early} (n : ℕ) → Asked P ps ns → Asked P (from n ps) ns
fits_from {ps = ps} n a = alike (depths_from n ps) a

pub fits_glue : {P : Type 0} {ps : List Piece} {ns : List Early} → Asked P ps ns → Asked P (glue ps) ns
fits_glue {ps = ps} a = alike (depths_glue ps) a

pub fits_until : {P : Type 0} {ps : List Piece} {ns : List Early} (n : ℕ) → Asked P ps ns → Asked P (until n ps) ns
fits_until {ps = ps} n a = alike (depths_until n ps) a

-- the same fact said otherwise
pub said : {P Q : Type 0} {ps : List Piece} {ns : List Early} → (P → Q) → Asked P ps ns → Asked Q ps ns
said f a = record { holds = λ w n. f (a.holds w n) }

-- with what follows from the number of tokens, from what was noted in front, and from a token of this depth
pub counted : {P Q : Type 0} {ps : List Piece} {ns : List Early} → (length (depths_of ps) < 2 ^ 32 → P) → Asked Q ps ns → Asked (P × Q) ps ns
counted f a = record { holds = λ w n. (f w.few, a.holds w n) }

pub noting : {P Q : Type 0} {ps : List Piece} {ns ms : List Early} → (ms ≡ [] → P) → Asked Q ps ns → Asked (P × Q) ps (ms ++ ns)
noting {ns = ns} {ms = ms} f a = record { holds = λ w n. (f (front_none ms ns n), a.holds w (back_none ms ns n)) }

pub owning : {P Q : Type 0} {s : Slot} {ps : List Piece} {ns : List Early} → (s.depth ≤ 400 → P) → Asked Q (At s ∷ ps) ns → Asked (P × Q) (At s ∷ ps) ns
owning f a = record { holds = λ w n. (f w.shallow.0, a.holds w n) }

pub three : {A B C : Type 0} → A × (B × C) → A × B × C
three h = (h.0, h.1.0, h.1.1)

pub four : {A B C D : Type 0} → A × (B × (C × D)) → A × B × C × D
four h = (h.0, h.1.0, h.1.1.0, h.1.1.1)

pub five : {A B C D E : Type 0} → A × (B × (C × (D × E))) → A × B × C × D × E
five h = (h.0, h.1.0, h.1.1.0, h.1.1.1.0, h.1.1.1.1)
