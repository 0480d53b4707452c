-- Starts of some functions among all that start in a part.
use Rattle.std.proofs.Common.{ℕ, suc, ◌≤◌, inl, inr, List, [], ◌∷◌, ◌++◌, length, refl, sym, subst, arith}
use Rattle.script_grammar.specs.Pieces.{Piece, At, Gap, Pass}
use Rattle.parse_track.specs.declared.region.Early.{Early}
use Rattle.grammar_start_laws.specs.Keeping.{Keeps}
use Rattle.grammar_start_laws.specs.Own.{StartsRise}
use Rattle.grammar_start_laws.specs.Started.{Started, started_function}
use Rattle.script_grammar.specs.Tree.{Function, function}
use Rattle.scope_analysis.specs.Functions.{Inner}
use Rattle.emit_stmts.specs.Functions.{start_of, starts_of}
use Rattle.emit_limit_laws.specs.Inside.{Cut, InnerIn, started_inside}
use Rattle.emit_limit_laws.specs.Places.{depths_of}
use Rattle.emit_limit_laws.specs.Offsets.{OffsetsRise, AreStarts}

-- ---- lists that are put together

starts_past : (ns : List ℕ) (f : Started) (fs : List Started) → AreStarts ns fs → AreStarts ns (f ∷ fs)
starts_past [] f fs h = tt
starts_past (n ∷ ns) f fs h = inr h

pub starts_behind : (ns : List ℕ) (gs fs : List Started) → AreStarts ns fs → AreStarts ns (gs ++ fs)
starts_behind ns [] fs h = h
starts_behind ns (g ∷ gs) fs h = starts_past ns g (gs ++ fs) (starts_behind ns gs fs h)

pub starts_both : (ns ms : List ℕ) (fs gs : List Started) → AreStarts ns fs → AreStarts ms gs → AreStarts (ns ++ ms) (fs ++ gs)
starts_both [] ms fs gs h k = starts_behind ms fs gs k
starts_both (n ∷ ns) ms [] gs h k = absurd h
starts_both (n ∷ ns) ms (f ∷ fs) gs (inl h) k = inl (h.0, starts_both ns ms fs gs h.1 k)
starts_both (n ∷ ns) ms (f ∷ fs) gs (inr h) k = inr (starts_both (n ∷ ns) ms fs gs h k)

-- ---- one function, and those in it

pub one_start : (ns : List ℕ) (f : Function) → AreStarts ns (started_inside f) → AreStarts (start_of f ∷ ns) (started_function f)
one_start ns (function form start end who ps comma bare body) h = inl (refl, h)

pub cut_starts : (ns : List ℕ) (all part back : List Started) → Cut all part back → AreStarts ns (part ++ back) → AreStarts ns all
cut_starts ns all part back c h = subst (AreStarts ns) (sym c.is) (starts_behind ns c.front (part ++ back) h)

-- the functions directly in a part
pub inner_starts : (c : ℕ) (is : List Inner) (p : List ℕ) (fs : List Started) (ns : List Early) → InnerIn c is p fs ns → AreStarts (starts_of is) fs
inner_starts c [] p fs ns h = tt
inner_starts c (i ∷ is) p fs ns h =
    cut_starts (start_of i.func ∷ starts_of is) fs (started_function i.func) h.1 h.3.started
    (starts_both (start_of i.func ∷ []) (starts_of is) (started_function i.func) h.1 (one_start [] i.func tt) (inner_starts c is h.0 h.1 h.2 h.4))

-- ---- what follows

lower : (low high : ℕ) (ns : List ℕ) → low ≤ high → OffsetsRise high ns → OffsetsRise low ns
lower low high [] le h = tt
lower low high (n ∷ ns) le h = (omega (arith, le, h.0), h.1)

-- they rise where all do
pub starts_rise : (low : ℕ) (ns : List ℕ) (fs : List Started) → AreStarts ns fs → StartsRise low fs → OffsetsRise low ns
starts_rise low [] fs h r = tt
starts_rise low (n ∷ ns) [] h r = absurd h
starts_rise low (n ∷ ns) (f ∷ fs) (inl h) r =
    (subst (λ (m : ℕ). low ≤ m) (sym h.0) r.0, subst (λ (m : ℕ). OffsetsRise (suc m) ns) (sym h.0) (starts_rise (suc f.start) ns fs h.1 r.1))
starts_rise low (n ∷ ns) (f ∷ fs) (inr h) r = lower low (suc f.start) (n ∷ ns) (omega (arith, r.0)) (starts_rise (suc f.start) (n ∷ ns) fs h r.1)

-- they are no more than all
pub starts_few : (ns : List ℕ) (fs : List Started) → AreStarts ns fs → length ns ≤ length fs
starts_few [] fs h = omega arith
starts_few (n ∷ ns) [] h = absurd h
starts_few (n ∷ ns) (f ∷ fs) (inl h) = let k = starts_few ns fs h.1 in omega (arith, k)
starts_few (n ∷ ns) (f ∷ fs) (inr h) = let k = starts_few (n ∷ ns) fs h in omega (arith, k)

-- and those that start at places of their own are no more than the places
pub kept_few : (fs : List Started) (ps : List Piece) → Keeps fs ps → length fs ≤ length (depths_of ps)
unfolding Keeps
kept_few [] ps k = omega arith
kept_few (f ∷ fs) [] k = absurd k
kept_few (f ∷ fs) (At s ∷ ps) (inl k) = let h = kept_few fs ps k.1 in omega (arith, h)
kept_few (f ∷ fs) (At s ∷ ps) (inr k) = let h = kept_few (f ∷ fs) ps k in omega (arith, h)
kept_few (f ∷ fs) (Gap e ∷ ps) k = kept_few (f ∷ fs) ps k
kept_few (f ∷ fs) (Pass ∷ ps) k = kept_few (f ∷ fs) ps k
