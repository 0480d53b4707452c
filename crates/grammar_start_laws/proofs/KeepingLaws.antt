-- Functions that start at places of their own, in pieces that are put together.
use Rattle.std.proofs.Common.{ℕ, inl, inr, List, [], ◌∷◌, ◌++◌}
use Rattle.script_grammar.specs.Pieces.{Slot, Piece, At, Gap, Pass, from, glue, until, ending_at}
use Rattle.grammar_start_laws.specs.Started.{Started}
use Rattle.grammar_start_laws.specs.Keeping.{IsIn, Keeps}

pub none : (ps : List Piece) → Keeps [] ps
unfolding Keeps
none ps = tt

-- the function starts at the first of these
pub here : (f : Started) (fs : List Started) (s : Slot) (ps : List Piece) → IsIn f.start s.starts → Keeps fs ps → Keeps (f ∷ fs) (At s ∷ ps)
unfolding Keeps
here f fs s ps i k = inl (i, k)

pub past : (fs : List Started) (p : Piece) (ps : List Piece) → Keeps fs ps → Keeps fs (p ∷ ps)
unfolding Keeps
past [] p ps k = tt
past (f ∷ fs) (At s) ps k = inr k
past (f ∷ fs) (Gap e) ps k = k
past (f ∷ fs) Pass ps k = k

pub behind : (fs : List Started) (qs ps : List Piece) → Keeps fs ps → Keeps fs (qs ++ ps)
unfolding Keeps
behind fs [] ps k = k
behind fs (q ∷ qs) ps k = past fs q (qs ++ ps) (behind fs qs ps k)

pub both : (fs gs : List Started) (ps qs : List Piece) → Keeps fs ps → Keeps gs qs → Keeps (fs ++ gs) (ps ++ qs)
unfolding Keeps
both [] gs ps qs k h = behind gs ps qs h
both (f ∷ fs) gs [] qs k h = absurd k
both (f ∷ fs) gs (At s ∷ ps) qs (inl k) h = inl (k.0, both fs gs ps qs k.1 h)
both (f ∷ fs) gs (At s ∷ ps) qs (inr k) h = inr (both (f ∷ fs) gs ps qs k h)
both (f ∷ fs) gs (Gap e ∷ ps) qs k h = both (f ∷ fs) gs ps qs k h
both (f ∷ fs) gs (Pass ∷ ps) qs k h = both (f ∷ fs) gs ps qs k h

pub ahead : (fs : List Started) (ps qs : List Piece) → Keeps fs ps → Keeps fs (ps ++ qs)
unfolding Keeps
ahead [] ps qs k = tt
ahead (f ∷ fs) [] qs k = absurd k
ahead (f ∷ fs) (At s ∷ ps) qs (inl k) = inl (k.0, ahead fs ps qs k.1)
ahead (f ∷ fs) (At s ∷ ps) qs (inr k) = inr (ahead (f ∷ fs) ps qs k)
ahead (f ∷ fs) (Gap e ∷ ps) qs k = ahead (f ∷ fs) ps qs k
ahead (f ∷ fs) (Pass ∷ ps) qs k = ahead (f ∷ fs) ps qs k

-- what else is asked of the first or the last piece takes no start away

pub keeps_from : (fs : List Started) (n : ℕ) (ps : List Piece) → Keeps fs ps → Keeps fs (from n ps)
unfolding Keeps
keeps_from [] n ps k = tt
keeps_from (f ∷ fs) n [] k = k
keeps_from (f ∷ fs) n (At s ∷ ps) (inl k) = inl (inr k.0, k.1)
keeps_from (f ∷ fs) n (At s ∷ ps) (inr k) = inr k
keeps_from (f ∷ fs) n (Gap e ∷ ps) k = k
keeps_from (f ∷ fs) n (Pass ∷ ps) k = k

pub keeps_glue : (fs : List Started) (ps : List Piece) → Keeps fs ps → Keeps fs (glue ps)
unfolding Keeps
keeps_glue [] ps k = tt
keeps_glue (f ∷ fs) [] k = k
keeps_glue (f ∷ fs) (At s ∷ ps) k = k
keeps_glue (f ∷ fs) (Gap e ∷ ps) k = k
keeps_glue (f ∷ fs) (Pass ∷ ps) k = k

keeps_ending : (fs : List Started) (n : ℕ) (p : Piece) → Keeps fs (p ∷ []) → Keeps fs (ending_at n p ∷ [])
unfolding Keeps
keeps_ending [] n p k = tt
keeps_ending (f ∷ fs) n (At s) k = k
keeps_ending (f ∷ fs) n (Gap e) k = k
keeps_ending (f ∷ fs) n Pass k = k

pub keeps_until : (fs : List Started) (n : ℕ) (ps : List Piece) → Keeps fs ps → Keeps fs (until n ps)
unfolding Keeps
keeps_until [] n ps k = tt
keeps_until (f ∷ fs) n [] k = k
keeps_until (f ∷ fs) n (p ∷ []) k = keeps_ending (f ∷ fs) n p k
keeps_until (f ∷ fs) n (At s ∷ q ∷ ps) (inl k) = inl (k.0, keeps_until fs n (q ∷ ps) k.1)
keeps_until (f ∷ fs) n (At s ∷ q ∷ ps) (inr k) = inr (keeps_until (f ∷ fs) n (q ∷ ps) k)
keeps_until (f ∷ fs) n (Gap e ∷ q ∷ ps) k = keeps_until (f ∷ fs) n (q ∷ ps) k
keeps_until (f ∷ fs) n (Pass ∷ q ∷ ps) k = keeps_until (f ∷ fs) n (q ∷ ps) k
