-- Places that ask less of each token.
use Rattle.std.proofs.Common.{◌≡◌, ℕ, zero, suc, ◌≤◌, List, [], ◌∷◌, ◌++◌, length, replicate, refl, subst, arith, Bool, true}
use Rattle.script_grammar.specs.Lexeme.{Lexeme}
use Rattle.script_grammar.specs.Pieces.{Piece, At, Gap, Pass, Wanted, Content, Ending, Fits, may_omit, depths, from, glue, until, ending_at}
use Rattle.grammar_alone_laws.specs.Carried.{NoDeeper, Loosens, Looser}

-- ---- one place

pub nothing : Looser [] []
nothing = record { places = tt }

-- the same place, no deeper
pub place : {k : Wanted} {c : Content} {ss es : List ℕ} {g : Bool} {d e : ℕ} {ps qs : List Piece} → e ≤ d → Looser ps qs
    → Looser (At (record { kind = k; content = c; starts = ss; ends = es; glued = g; depth = d }) ∷ ps) (At (record { kind = k; content = c; starts = ss; ends = es; glued = g; depth = e }) ∷ qs)
place le h = record { places = (λ t i. record { kind = i.kind; content = i.content; starts = i.starts; ends = i.ends; line = i.line }, le, h.places) }

pub gap : {e : Ending} {ps qs : List Piece} → Looser ps qs → Looser (Gap e ∷ ps) (Gap e ∷ qs)
gap h = record { places = (refl, h.places) }

-- ---- places that are put together

joined : (ps qs rs ss : List Piece) → Loosens ps rs → Loosens qs ss → Loosens (ps ++ qs) (rs ++ ss)
joined [] qs [] ss h k = k
joined [] qs (r ∷ rs) ss h k = absurd h
joined (At s ∷ ps) qs [] ss h k = absurd h
joined (At s ∷ ps) qs (At r ∷ rs) ss h k = (h.0, h.1, joined ps qs rs ss h.2 k)
joined (At s ∷ ps) qs (Gap e ∷ rs) ss h k = absurd h
joined (At s ∷ ps) qs (Pass ∷ rs) ss h k = absurd h
joined (Gap e ∷ ps) qs [] ss h k = absurd h
joined (Gap e ∷ ps) qs (At r ∷ rs) ss h k = absurd h
joined (Gap e ∷ ps) qs (Gap f ∷ rs) ss h k = (h.0, joined ps qs rs ss h.1 k)
joined (Gap e ∷ ps) qs (Pass ∷ rs) ss h k = absurd h
joined (Pass ∷ ps) qs [] ss h k = absurd h
joined (Pass ∷ ps) qs (At r ∷ rs) ss h k = absurd h
joined (Pass ∷ ps) qs (Gap f ∷ rs) ss h k = absurd h
joined (Pass ∷ ps) qs (Pass ∷ rs) ss h k = joined ps qs rs ss h k

pub both : {ps qs rs ss : List Piece} → Looser ps rs → Looser qs ss → Looser (ps ++ qs) (rs ++ ss)
both {ps} {qs} {rs} {ss} h k = record { places = joined ps qs rs ss h.places k.places }

same_places : (ps : List Piece) → Loosens ps ps
same_places [] = tt
same_places (At s ∷ ps) = (λ t i. i, omega arith, same_places ps)
same_places (Gap e ∷ ps) = (refl, same_places ps)
same_places (Pass ∷ ps) = same_places ps

pub same : (ps : List Piece) → Looser ps ps
same ps = record { places = same_places ps }

-- ---- what else is asked of the first or the last place

-- asked of both

from_both : (n : ℕ) (ps qs : List Piece) → Loosens ps qs → Loosens (from n ps) (from n qs)
from_both n [] [] h = tt
from_both n [] (q ∷ qs) h = absurd h
from_both n (At s ∷ ps) [] h = absurd h
from_both n (At s ∷ ps) (At r ∷ qs) h =
    (λ t i. let k = h.0 t (record { kind = i.kind; content = i.content; starts = i.starts.1; ends = i.ends; line = i.line }) in record { kind = k.kind; content = k.content; starts = (i.starts.0, k.starts); ends = k.ends; line = k.line }, h.1, h.2)
from_both n (At s ∷ ps) (Gap e ∷ qs) h = absurd h
from_both n (At s ∷ ps) (Pass ∷ qs) h = absurd h
from_both n (Gap e ∷ ps) [] h = absurd h
from_both n (Gap e ∷ ps) (At r ∷ qs) h = absurd h
from_both n (Gap e ∷ ps) (Gap f ∷ qs) h = h
from_both n (Gap e ∷ ps) (Pass ∷ qs) h = absurd h
from_both n (Pass ∷ ps) [] h = absurd h
from_both n (Pass ∷ ps) (At r ∷ qs) h = absurd h
from_both n (Pass ∷ ps) (Gap f ∷ qs) h = absurd h
from_both n (Pass ∷ ps) (Pass ∷ qs) h = h

pub both_from : {ps qs : List Piece} (n : ℕ) → Looser ps qs → Looser (from n ps) (from n qs)
both_from {ps} {qs} n h = record { places = from_both n ps qs h.places }

glue_both : (ps qs : List Piece) → Loosens ps qs → Loosens (glue ps) (glue qs)
glue_both [] [] h = tt
glue_both [] (q ∷ qs) h = absurd h
glue_both (At s ∷ ps) [] h = absurd h
glue_both (At s ∷ ps) (At r ∷ qs) h =
    (λ t i. let k = h.0 t (record { kind = i.kind; content = i.content; starts = i.starts; ends = i.ends; line = λ _. i.line refl }) in record { kind = k.kind; content = k.content; starts = k.starts; ends = k.ends; line = i.line }, h.1, h.2)
glue_both (At s ∷ ps) (Gap e ∷ qs) h = absurd h
glue_both (At s ∷ ps) (Pass ∷ qs) h = absurd h
glue_both (Gap e ∷ ps) [] h = absurd h
glue_both (Gap e ∷ ps) (At r ∷ qs) h = absurd h
glue_both (Gap e ∷ ps) (Gap f ∷ qs) h = h
glue_both (Gap e ∷ ps) (Pass ∷ qs) h = absurd h
glue_both (Pass ∷ ps) [] h = absurd h
glue_both (Pass ∷ ps) (At r ∷ qs) h = absurd h
glue_both (Pass ∷ ps) (Gap f ∷ qs) h = absurd h
glue_both (Pass ∷ ps) (Pass ∷ qs) h = h

pub both_glue : {ps qs : List Piece} → Looser ps qs → Looser (glue ps) (glue qs)
both_glue {ps} {qs} h = record { places = glue_both ps qs h.places }

ending_both : (n : ℕ) (p q : Piece) → Loosens (p ∷ []) (q ∷ []) → Loosens (ending_at n p ∷ []) (ending_at n q ∷ [])
ending_both n (At s) (At r) h =
    (λ t i. let k = h.0 t (record { kind = i.kind; content = i.content; starts = i.starts; ends = i.ends.1; line = i.line }) in record { kind = k.kind; content = k.content; starts = k.starts; ends = (i.ends.0, k.ends); line = k.line }, h.1, h.2)
ending_both n (At s) (Gap e) h = absurd h
ending_both n (At s) Pass h = absurd h
ending_both n (Gap e) (At r) h = absurd h
ending_both n (Gap e) (Gap f) h = h
ending_both n (Gap e) Pass h = absurd h
ending_both n Pass (At r) h = absurd h
ending_both n Pass (Gap f) h = absurd h
ending_both n Pass Pass h = h

some_none : (p : Piece) (ps : List Piece) → Loosens (p ∷ ps) [] → ⊥
some_none (At s) ps h = h
some_none (Gap e) ps h = h
some_none Pass ps h = h

until_both : (n : ℕ) (ps qs : List Piece) → Loosens ps qs → Loosens (until n ps) (until n qs)
until_both n [] [] h = tt
until_both n [] (q ∷ qs) h = absurd h
until_both n (p ∷ ps) [] h = absurd (some_none p ps h)
until_both n (p ∷ []) (q ∷ []) h = ending_both n p q h
until_both n (At s ∷ []) (At r ∷ q ∷ qs) h = absurd h.2
until_both n (At s ∷ []) (Gap e ∷ q ∷ qs) h = absurd h
until_both n (At s ∷ []) (Pass ∷ q ∷ qs) h = absurd h
until_both n (Gap e ∷ []) (At r ∷ q ∷ qs) h = absurd h
until_both n (Gap e ∷ []) (Gap f ∷ q ∷ qs) h = absurd h.1
until_both n (Gap e ∷ []) (Pass ∷ q ∷ qs) h = absurd h
until_both n (Pass ∷ []) (At r ∷ q ∷ qs) h = absurd h
until_both n (Pass ∷ []) (Gap f ∷ q ∷ qs) h = absurd h
until_both n (Pass ∷ []) (Pass ∷ q ∷ qs) h = absurd h
until_both n (At s ∷ p ∷ ps) (At r ∷ []) h = absurd (some_none p ps h.2)
until_both n (At s ∷ p ∷ ps) (Gap e ∷ []) h = absurd h
until_both n (At s ∷ p ∷ ps) (Pass ∷ []) h = absurd h
until_both n (Gap e ∷ p ∷ ps) (At r ∷ []) h = absurd h
until_both n (Gap e ∷ p ∷ ps) (Gap f ∷ []) h = absurd (some_none p ps h.1)
until_both n (Gap e ∷ p ∷ ps) (Pass ∷ []) h = absurd h
until_both n (Pass ∷ p ∷ ps) (At r ∷ []) h = absurd h
until_both n (Pass ∷ p ∷ ps) (Gap f ∷ []) h = absurd h
until_both n (Pass ∷ p ∷ ps) (Pass ∷ []) h = absurd (some_none p ps h)
until_both n (At s ∷ p ∷ ps) (At r ∷ q ∷ qs) h = (h.0, h.1, until_both n (p ∷ ps) (q ∷ qs) h.2)
until_both n (At s ∷ p ∷ ps) (Gap f ∷ q ∷ qs) h = absurd h
until_both n (At s ∷ p ∷ ps) (Pass ∷ q ∷ qs) h = absurd h
until_both n (Gap e ∷ p ∷ ps) (At r ∷ q ∷ qs) h = absurd h
until_both n (Gap e ∷ p ∷ ps) (Gap f ∷ q ∷ qs) h = (h.0, until_both n (p ∷ ps) (q ∷ qs) h.1)
until_both n (Gap e ∷ p ∷ ps) (Pass ∷ q ∷ qs) h = absurd h
until_both n (Pass ∷ p ∷ ps) (At r ∷ q ∷ qs) h = absurd h
until_both n (Pass ∷ p ∷ ps) (Gap f ∷ q ∷ qs) h = absurd h
until_both n (Pass ∷ p ∷ ps) (Pass ∷ q ∷ qs) h = until_both n (p ∷ ps) (q ∷ qs) h

pub both_until : {ps qs : List Piece} (n : ℕ) → Looser ps qs → Looser (until n ps) (until n qs)
both_until {ps} {qs} n h = record { places = until_both n ps qs h.places }

-- asked of the first list alone

from_less : (n : ℕ) (ps : List Piece) → Loosens (from n ps) ps
from_less n [] = tt
from_less n (At s ∷ ps) = (λ t i. record { kind = i.kind; content = i.content; starts = i.starts.1; ends = i.ends; line = i.line }, omega arith, same_places ps)
from_less n (Gap e ∷ ps) = (refl, same_places ps)
from_less n (Pass ∷ ps) = same_places ps

pub less_from : (n : ℕ) (ps : List Piece) → Looser (from n ps) ps
less_from n ps = record { places = from_less n ps }

glue_less : (ps : List Piece) → Loosens (glue ps) ps
glue_less [] = tt
glue_less (At s ∷ ps) = (λ t i. record { kind = i.kind; content = i.content; starts = i.starts; ends = i.ends; line = λ _. i.line refl }, omega arith, same_places ps)
glue_less (Gap e ∷ ps) = (refl, same_places ps)
glue_less (Pass ∷ ps) = same_places ps

pub less_glue : (ps : List Piece) → Looser (glue ps) ps
less_glue ps = record { places = glue_less ps }

until_less : (n : ℕ) (ps : List Piece) → Loosens (until n ps) ps
until_less n [] = tt
until_less n (At s ∷ []) = (λ t i. record { kind = i.kind; content = i.content; starts = i.starts; ends = i.ends.1; line = i.line }, omega arith, tt)
until_less n (Gap e ∷ []) = (refl, tt)
until_less n (Pass ∷ []) = tt
until_less n (At s ∷ q ∷ ps) = (λ t i. i, omega arith, until_less n (q ∷ ps))
until_less n (Gap e ∷ q ∷ ps) = (refl, until_less n (q ∷ ps))
until_less n (Pass ∷ q ∷ ps) = until_less n (q ∷ ps)

pub less_until : (n : ℕ) (ps : List Piece) → Looser (until n ps) ps
less_until n ps = record { places = until_less n ps }

-- ---- tokens that fit

-- these tokens fit, and are no deeper than that
pub record Fitted (ps : List Piece) (w : List Lexeme) (n : Lexeme) (ds : List ℕ) : Type 0 where
  pub is : Fits ps w n
  pub shallow : NoDeeper (depths ps w n is) ds

one_more : (d e : ℕ) (ds es : List ℕ) → d ≤ e → NoDeeper ds es → NoDeeper (d ∷ ds) (e ∷ es)
one_more d e ds es le h zero = le
one_more d e ds es le h (suc j) = h j

same_front : (xs ds es : List ℕ) → NoDeeper ds es → NoDeeper (xs ++ ds) (xs ++ es)
same_front [] ds es h = h
same_front (x ∷ xs) ds es h = one_more x x (xs ++ ds) (xs ++ es) (omega arith) (same_front xs ds es h)

fits_loosely : (ps qs : List Piece) (w : List Lexeme) (n : Lexeme) → Loosens ps qs → (h : Fits ps w n) → Fitted qs w n (depths ps w n h)
fits_loosely [] [] w n l h = record { is = h; shallow = λ j. omega arith }
fits_loosely [] (q ∷ qs) w n l h = absurd l
fits_loosely (At s ∷ ps) [] w n l h = absurd l
fits_loosely (At s ∷ ps) (At r ∷ qs) [] n l h = absurd h
fits_loosely (At s ∷ ps) (At r ∷ qs) (t ∷ w) n l h =
    let k = fits_loosely ps qs w n l.2 h.1 in
    record { is = (l.0 t h.0, k.is); shallow = one_more r.depth s.depth (depths qs w n k.is) (depths ps w n h.1) l.1 k.shallow }
fits_loosely (At s ∷ ps) (Gap e ∷ qs) w n l h = absurd l
fits_loosely (At s ∷ ps) (Pass ∷ qs) w n l h = absurd l
fits_loosely (Gap e ∷ ps) [] w n l h = absurd l
fits_loosely (Gap e ∷ ps) (At r ∷ qs) w n l h = absurd l
fits_loosely (Gap e ∷ ps) (Gap f ∷ qs) [] n l h =
    let k = fits_loosely ps qs [] n l.1 h.1 in
    record { is = (subst (λ x. may_omit x n ≡ true) l.0 h.0, k.is); shallow = k.shallow }
fits_loosely (Gap e ∷ ps) (Gap f ∷ qs) (t ∷ w) n l h =
    let k = fits_loosely ps qs (t ∷ w) n l.1 h.1 in
    record { is = (subst (λ x. may_omit x t ≡ true) l.0 h.0, k.is); shallow = k.shallow }
fits_loosely (Gap e ∷ ps) (Pass ∷ qs) w n l h = absurd l
fits_loosely (Pass ∷ ps) [] w n l h = absurd l
fits_loosely (Pass ∷ ps) (At r ∷ qs) w n l h = absurd l
fits_loosely (Pass ∷ ps) (Gap f ∷ qs) w n l h = absurd l
fits_loosely (Pass ∷ ps) (Pass ∷ qs) w n l h =
    let k = fits_loosely ps qs h.1 n l h.4 in
    record { is = (h.0, h.1, h.2, h.3, k.is); shallow = same_front (replicate (length h.0) 0) (depths qs h.1 n k.is) (depths ps h.1 n h.4) k.shallow }

pub fits_looser : {ps qs : List Piece} → Looser ps qs → (w : List Lexeme) (n : Lexeme) (h : Fits ps w n) → Fitted qs w n (depths ps w n h)
fits_looser {ps} {qs} l w n h = fits_loosely ps qs w n l.places h
