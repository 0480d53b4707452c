-- Functions in places that are put together.
use Rattle.std.specs.Prelude.{Contains}
use Rattle.std.proofs.Common.{◌≡◌, ◌<◌, zero, suc, length, get_or, arith, ℕ, List, [], ◌∷◌, ◌++◌, subst}
use Rattle.script_grammar.specs.Pieces.{whole, Piece, from, glue, until}
use Rattle.script_grammar.specs.Print.{print_function}
use Rattle.script_grammar.specs.Proper.{ProperFunction}
use Rattle.scope_analysis.specs.Functions.{Inner}
use Rattle.grammar_alone_laws.specs.Carried.{Looser}
use Rattle.grammar_alone_laws.specs.Held.{Holds, AllHeld, Inside}
use Rattle.grammar_alone_laws.proofs.Carrying.{carries_all, carries_before, carries_after, carries_tighter}
use Rattle.grammar_alone_laws.proofs.Loosening.{less_from, less_glue, less_until}

held_before : (is : List Inner) (rs ps : List Piece) → AllHeld ps is → AllHeld (rs ++ ps) is
held_before [] rs ps h = tt
held_before (i ∷ is) rs ps h = (record { depth = h.0.depth; proper = h.0.proper; carries = carries_before rs h.0.carries }, held_before is rs ps h.1)

held_after : (is : List Inner) (rs ps : List Piece) → AllHeld ps is → AllHeld (ps ++ rs) is
held_after [] rs ps h = tt
held_after (i ∷ is) rs ps h = (record { depth = h.0.depth; proper = h.0.proper; carries = carries_after rs h.0.carries }, held_after is rs ps h.1)

held_tighter : (is : List Inner) (ps rs : List Piece) → Looser rs ps → AllHeld ps is → AllHeld rs is
held_tighter [] ps rs l h = tt
held_tighter (i ∷ is) ps rs l h = (record { depth = h.0.depth; proper = h.0.proper; carries = carries_tighter l h.0.carries }, held_tighter is ps rs l h.1)

held_both : (is js : List Inner) (ps : List Piece) → AllHeld ps is → AllHeld ps js → AllHeld ps (is ++ js)
held_both [] js ps h k = k
held_both (i ∷ is) js ps h k = (h.0, held_both is js ps h.1 k)

-- ---- put together

pub none : {ps : List Piece} → Inside [] ps
none = record { held = tt }

pub before : {is : List Inner} {ps : List Piece} (rs : List Piece) → Inside is ps → Inside is (rs ++ ps)
before {is} {ps} rs h = record { held = held_before is rs ps h.held }

pub past : {is : List Inner} {ps : List Piece} {p : Piece} → Inside is ps → Inside is (p ∷ ps)
past {p = p} h = before (p ∷ []) h

pub after : {is : List Inner} {ps : List Piece} (rs : List Piece) → Inside is ps → Inside is (ps ++ rs)
after {is} {ps} rs h = record { held = held_after is rs ps h.held }

pub both : {is js : List Inner} {ps qs : List Piece} → Inside is ps → Inside js qs → Inside (is ++ js) (ps ++ qs)
both {is} {js} {ps} {qs} h k = record { held = held_both is js (ps ++ qs) (held_after is qs ps h.held) (held_before js ps qs k.held) }

-- what else is asked of the first or the last place takes no function away

pub inside_from : {is : List Inner} {ps : List Piece} (n : ℕ) → Inside is ps → Inside is (from n ps)
inside_from {is} {ps} n h = record { held = held_tighter is ps (from n ps) (less_from n ps) h.held }

pub inside_glue : {is : List Inner} {ps : List Piece} → Inside is ps → Inside is (glue ps)
inside_glue {is} {ps} h = record { held = held_tighter is ps (glue ps) (less_glue ps) h.held }

pub inside_until : {is : List Inner} {ps : List Piece} (n : ℕ) → Inside is ps → Inside is (until n ps)
inside_until {is} {ps} n h = record { held = held_tighter is ps (until n ps) (less_until n ps) h.held }

-- one function
pub alone : (d : ℕ) (i : Inner) → ProperFunction whole i.func → Inside (i ∷ []) (print_function whole d i.func)
alone d i p = record { held = (record { depth = d; proper = p; carries = carries_all (print_function whole d i.func) }, tt) }

-- each of them
pub held_at : (i : Inner) (is : List Inner) (ps : List Piece) → AllHeld ps is → Contains is i → Holds ps i.func
held_at i is ps h c = at is c.0 h c.1 c.2
  where
    at : (is : List Inner) (k : ℕ) → AllHeld ps is → k < length is → get_or is k i ≡ i → Holds ps i.func
    at [] k h lt e = absurd (omega (arith, lt))
    at (j ∷ is) zero h lt e = subst (λ (x : Inner). Holds ps x.func) e h.0
    at (j ∷ is) (suc k) h lt e = at is k h.1 (omega (arith, lt)) e
