-- Places of a tree, and those of the same tree with some bodies empty.
use Rattle.std.proofs.Common.{if◌then◌else◌, ◌≡◌, ◌∙◌, ℕ, suc, ◌≤◌, List, [], ◌∷◌, ◌++◌, map, refl, sym, ap, subst, append_assoc, Bool, true, false}
use Rattle.script_grammar.specs.declared.token.Kind.TheVariants as kind
use Rattle.script_grammar.specs.declared.token.mark.TheConstants as mark
use Rattle.script_grammar.specs.Lexeme.{Lexeme}
use Rattle.script_grammar.specs.Pieces.{Piece, At, Gap, Pass, Slot, Exactly, nothing, Is, AllAre, IsBalanced, Fits, may_omit, mark_piece, from, glue, until, ending_at}
use Rattle.script_grammar.specs.Tree.{Function}
use Rattle.scope_analysis.specs.Functions.{Inner}
use Rattle.grammar_parser_laws.proofs.Friendly.{first_of}
use Rattle.grammar_parser_laws.proofs.Nested.{Nested}
use Rattle.grammar_alone_laws.specs.Alone.{start_of, end_of, at_front}
use Rattle.grammar_skip_laws.specs.Holes.{Hole, Place, place_of, IsHead, Braced, hole_of, all_of, left_of, LeavesOut, nothing as leaves_nothing, keeps, skips, is_hollow, place_in, hollow_places}
use Rattle.grammar_skip_laws.proofs.Standing.{Stand, StandHalves, stood, stand_halves, stand_both, first_append}

-- tokens in front of a function's body, the first of them at this offset
pub record HeadAt (start : ℕ) (w : List Lexeme) : Type 0 where
  pub first : Lexeme
  pub more : List Lexeme
  pub are : w ≡ first ∷ more
  pub starts : first.start ≡ start
  pub is : IsHead (first ∷ more)

pub record HeadPlaces (start : ℕ) (ps : List Piece) : Type 0 where
  pub at : (w : List Lexeme) (n : Lexeme) → Fits ps w n → HeadAt start w

-- the closing brace of a body, with the offsets of its end
abbrev pub closing : List ℕ → ℕ → Piece
closing ends d = At (record { kind = Exactly (kind.Mark mark.CLOSE_BRACE); content = nothing; starts = []; ends = ends; glued = false; depth = d })

-- The places of a function with a braced body.
pub record BracedPlaces (f : Function) : Type 0 where
  pub first : Piece
  pub more : List Piece
  pub inner : List Piece
  pub ends : List ℕ
  pub depth : ℕ
  pub head : HeadPlaces (start_of f) (first ∷ more)
  pub nested : Nested inner
  pub end : (n : ℕ) → AllAre ends n → n ≡ end_of f

abbrev pub all_places : {f : Function} → BracedPlaces f → List Piece
all_places b = (b.first ∷ b.more) ++ (mark_piece mark.OPEN_BRACE b.depth ∷ (b.inner ++ closing b.ends b.depth ∷ []))

abbrev pub left_places : {f : Function} → BracedPlaces f → List Piece
left_places b = (b.first ∷ b.more) ++ (mark_piece mark.OPEN_BRACE b.depth ∷ closing b.ends b.depth ∷ [])

-- The second places are the first ones without what stands in the bodies of the chosen functions among these.
pub data Hollows (chosen : ℕ → Bool) : List Inner → List Piece → List Piece → Type 0 where
  none : Hollows chosen [] [] []
  one : (p : Piece) (is : List Inner) (ps qs : List Piece) → Hollows chosen is ps qs → Hollows chosen is (p ∷ ps) (p ∷ qs)
  other : (i : Inner) (is : List Inner) (ps qs : List Piece) → is_hollow chosen i.func ≡ false → Hollows chosen is ps qs → Hollows chosen (i ∷ is) ps qs
  hole : (i : Inner) (b : BracedPlaces i.func) (is : List Inner) (ps qs all left : List Piece) → is_hollow chosen i.func ≡ true → all ≡ all_places b ++ ps → left ≡ left_places b ++ qs → Hollows chosen is ps qs → Hollows chosen (i ∷ is) all left

-- ---- what else is asked of the first or the last place

from_place : (n : ℕ) (start : ℕ) (p : Piece) (ps : List Piece) → HeadPlaces start (p ∷ ps) → HeadPlaces start (from n (p ∷ ps))
from_place n start (At s) ps h = record { at = λ w m f. back w m f }
  where
    back : (w : List Lexeme) (m : Lexeme) → Fits (from n (At s ∷ ps)) w m → HeadAt start w
    back [] m f = absurd f
    back (t ∷ w) m f = h.at (t ∷ w) m (record { kind = f.0.kind; content = f.0.content; starts = f.0.starts.1; ends = f.0.ends; line = f.0.line }, f.1)
from_place n start (Gap e) ps h = h
from_place n start Pass ps h = h

glue_place : (start : ℕ) (p : Piece) (ps : List Piece) → HeadPlaces start (p ∷ ps) → HeadPlaces start (glue (p ∷ ps))
glue_place start (At s) ps h = record { at = λ w m f. back w m f }
  where
    back : (w : List Lexeme) (m : Lexeme) → Fits (glue (At s ∷ ps)) w m → HeadAt start w
    back [] m f = absurd f
    back (t ∷ w) m f = h.at (t ∷ w) m (record { kind = f.0.kind; content = f.0.content; starts = f.0.starts; ends = f.0.ends; line = λ _. f.0.line refl }, f.1)
glue_place start (Gap e) ps h = h
glue_place start Pass ps h = h

abbrev from_first : ℕ → Piece → Piece
from_first n (At s) = At (record s { starts = n ∷ s.starts })
from_first n (Gap e) = Gap e
from_first n Pass = Pass

from_is : (n : ℕ) (p : Piece) (ps : List Piece) → from n (p ∷ ps) ≡ from_first n p ∷ ps
from_is n (At s) ps = refl
from_is n (Gap e) ps = refl
from_is n Pass ps = refl

abbrev glue_first : Piece → Piece
glue_first (At s) = At (record s { glued = true })
glue_first (Gap e) = Gap e
glue_first Pass = Pass

glue_is : (p : Piece) (ps : List Piece) → glue (p ∷ ps) ≡ glue_first p ∷ ps
glue_is (At s) ps = refl
glue_is (Gap e) ps = refl
glue_is Pass ps = refl

abbrev with_first : {f : Function} (b : BracedPlaces f) (p : Piece) → HeadPlaces (start_of f) (p ∷ b.more) → BracedPlaces f
with_first b p h = record { first = p; more = b.more; inner = b.inner; ends = b.ends; depth = b.depth; head = h; nested = b.nested; end = b.end }

until_append : (n : ℕ) (a : List Piece) (p : Piece) (ps : List Piece) → until n (a ++ p ∷ ps) ≡ a ++ until n (p ∷ ps)
until_append n [] p ps = refl
until_append n (a ∷ []) p ps = refl
until_append n (a ∷ b ∷ c) p ps = ap (λ x. a ∷ x) (until_append n (b ∷ c) p ps)

abbrev with_end : {f : Function} (b : BracedPlaces f) (n : ℕ) → BracedPlaces f
with_end b n = record { first = b.first; more = b.more; inner = b.inner; ends = n ∷ b.ends; depth = b.depth; head = b.head; nested = b.nested; end = λ m a. b.end m a.1 }

all_until : {f : Function} (b : BracedPlaces f) (n : ℕ) → until n (all_places b) ≡ all_places (with_end b n)
all_until b n =
    let a = (b.first ∷ b.more) ++ (mark_piece mark.OPEN_BRACE b.depth ∷ b.inner) in
    let split : (c : Piece) → (b.first ∷ b.more) ++ (mark_piece mark.OPEN_BRACE b.depth ∷ (b.inner ++ c ∷ [])) ≡ a ++ c ∷ [] = λ c. sym (append_assoc (b.first ∷ b.more) (mark_piece mark.OPEN_BRACE b.depth ∷ b.inner) (c ∷ [])) in
    ap (until n) (split (closing b.ends b.depth)) ∙ until_append n a (closing b.ends b.depth) [] ∙ sym (split (closing (n ∷ b.ends) b.depth))

left_until : {f : Function} (b : BracedPlaces f) (n : ℕ) → until n (left_places b) ≡ left_places (with_end b n)
left_until b n =
    let a = (b.first ∷ b.more) ++ (mark_piece mark.OPEN_BRACE b.depth ∷ []) in
    let split : (c : Piece) → (b.first ∷ b.more) ++ (mark_piece mark.OPEN_BRACE b.depth ∷ c ∷ []) ≡ a ++ c ∷ [] = λ c. sym (append_assoc (b.first ∷ b.more) (mark_piece mark.OPEN_BRACE b.depth ∷ []) (c ∷ [])) in
    ap (until n) (split (closing b.ends b.depth)) ∙ until_append n a (closing b.ends b.depth) [] ∙ sym (split (closing (n ∷ b.ends) b.depth))

pub append_none : (xs : List Piece) → xs ++ [] ≡ xs
append_none [] = refl
append_none (x ∷ xs) = ap (λ y. x ∷ y) (append_none xs)

-- ---- put together

module _ {chosen : ℕ → Bool} where
  pub same : (ps : List Piece) → Hollows chosen [] ps ps
  same [] = none
  same (p ∷ ps) = one p [] ps ps (same ps)

  pub past : {is : List Inner} {ps qs : List Piece} (p : Piece) → Hollows chosen is ps qs → Hollows chosen is (p ∷ ps) (p ∷ qs)
  past {is} {ps} {qs} p h = one p is ps qs h

  pub past_same : {is : List Inner} {ps qs : List Piece} (p q : Piece) → p ≡ q → Hollows chosen is ps qs → Hollows chosen is (p ∷ ps) (q ∷ qs)
  past_same {is} {ps} {qs} p q e h = subst (λ x. Hollows chosen is (p ∷ ps) (x ∷ qs)) e (one p is ps qs h)

  pub both : {is js : List Inner} {ps qs rs ss : List Piece} → Hollows chosen is ps qs → Hollows chosen js rs ss → Hollows chosen (is ++ js) (ps ++ rs) (qs ++ ss)
  both none k = k
  both {js = js} {rs = rs} {ss = ss} (one p is ps qs h) k = one p (is ++ js) (ps ++ rs) (qs ++ ss) (both h k)
  both {js = js} {rs = rs} {ss = ss} (other i is ps qs e h) k = other i (is ++ js) (ps ++ rs) (qs ++ ss) e (both h k)
  both {js = js} {rs = rs} {ss = ss} (hole i b is ps qs all left e f g h) k =
      hole i b (is ++ js) (ps ++ rs) (qs ++ ss) (all ++ rs) (left ++ ss) e
      (ap (λ x. x ++ rs) f ∙ append_assoc (all_places b) ps rs)
      (ap (λ x. x ++ ss) g ∙ append_assoc (left_places b) qs ss)
      (both h k)

  -- the same places in front or after

  pub before : {is : List Inner} {ps qs : List Piece} (rs : List Piece) → Hollows chosen is ps qs → Hollows chosen is (rs ++ ps) (rs ++ qs)
  before [] h = h
  before (r ∷ rs) h = past r (before rs h)

  pub after : {is : List Inner} {ps qs : List Piece} (rs : List Piece) → Hollows chosen is ps qs → Hollows chosen is (ps ++ rs) (qs ++ rs)
  after rs none = same rs
  after rs (one p is ps qs h) = one p is (ps ++ rs) (qs ++ rs) (after rs h)
  after rs (other i is ps qs e h) = other i is (ps ++ rs) (qs ++ rs) e (after rs h)
  after rs (hole i b is ps qs all left e f g h) =
      hole i b is (ps ++ rs) (qs ++ rs) (all ++ rs) (left ++ rs) e
      (ap (λ x. x ++ rs) f ∙ append_assoc (all_places b) ps rs)
      (ap (λ x. x ++ rs) g ∙ append_assoc (left_places b) qs rs)
      (after rs h)

  pub after_same : {is : List Inner} {ps qs : List Piece} (rs ss : List Piece) → rs ≡ ss → Hollows chosen is ps qs → Hollows chosen is (ps ++ rs) (qs ++ ss)
  after_same {is} {ps} {qs} rs ss e h = subst (λ x. Hollows chosen is (ps ++ rs) (qs ++ x)) e (after rs h)

  -- three and four parts, listed from the left

  pub three : {is js ks : List Inner} {ps qs rs : List Piece} {xs ys zs : List Piece} (p : Piece) → Hollows chosen is ps xs → Hollows chosen js qs ys → Hollows chosen ks rs zs → Hollows chosen ((is ++ js) ++ ks) (ps ++ (p ∷ (qs ++ rs))) (xs ++ (p ∷ (ys ++ zs)))
  three {is} {js} {ks} {ps} {qs} {rs} {xs} {ys} {zs} p h k l = subst (λ u. Hollows chosen u (ps ++ (p ∷ (qs ++ rs))) (xs ++ (p ∷ (ys ++ zs)))) (sym (append_assoc is js ks)) (both h (past p (both k l)))

  pub four : {is js ks ls : List Inner} {ps qs rs ss : List Piece} {xs ys zs us : List Piece} (p q : Piece) → Hollows chosen is ps xs → Hollows chosen js qs ys → Hollows chosen ks rs zs → Hollows chosen ls ss us
      → Hollows chosen (((is ++ js) ++ ks) ++ ls) (ps ++ (p ∷ (qs ++ (q ∷ (rs ++ ss))))) (xs ++ (p ∷ (ys ++ (q ∷ (zs ++ us)))))
  four {is} {js} {ks} {ls} {ps} {qs} {rs} {ss} {xs} {ys} {zs} {us} p q h k l m =
      subst (λ u. Hollows chosen u (ps ++ (p ∷ (qs ++ (q ∷ (rs ++ ss))))) (xs ++ (p ∷ (ys ++ (q ∷ (zs ++ us)))))) (sym (append_assoc (is ++ js) ks ls)) (three p h k (past q (both l m)))

  -- ---- what else is asked of the first or the last place

  pub both_from : {is : List Inner} {ps qs : List Piece} (n : ℕ) → Hollows chosen is ps qs → Hollows chosen is (from n ps) (from n qs)
  both_from n none = none
  both_from n (one p is ps qs h) = subst (λ x. Hollows chosen is x (from n (p ∷ qs))) (sym (from_is n p ps)) (subst (λ x. Hollows chosen is (from_first n p ∷ ps) x) (sym (from_is n p qs)) (one (from_first n p) is ps qs h))
  both_from n (other i is ps qs e h) = other i is (from n ps) (from n qs) e (both_from n h)
  both_from n (hole i b is ps qs all left e f g h) =
      hole i (with_first b (from_first n b.first) (subst (HeadPlaces (start_of i.func)) (from_is n b.first b.more) (from_place n (start_of i.func) b.first b.more b.head))) is ps qs (from n all) (from n left) e
      (ap (from n) f ∙ from_is n b.first _) (ap (from n) g ∙ from_is n b.first _) h

  pub both_glue : {is : List Inner} {ps qs : List Piece} → Hollows chosen is ps qs → Hollows chosen is (glue ps) (glue qs)
  both_glue none = none
  both_glue (one p is ps qs h) = subst (λ x. Hollows chosen is x (glue (p ∷ qs))) (sym (glue_is p ps)) (subst (λ x. Hollows chosen is (glue_first p ∷ ps) x) (sym (glue_is p qs)) (one (glue_first p) is ps qs h))
  both_glue (other i is ps qs e h) = other i is (glue ps) (glue qs) e (both_glue h)
  both_glue (hole i b is ps qs all left e f g h) =
      hole i (with_first b (glue_first b.first) (subst (HeadPlaces (start_of i.func)) (glue_is b.first b.more) (glue_place (start_of i.func) b.first b.more b.head))) is ps qs (glue all) (glue left) e
      (ap glue f ∙ glue_is b.first _) (ap glue g ∙ glue_is b.first _) h

  some_left : {is : List Inner} {p : Piece} {ps qs : List Piece} → Hollows chosen is (p ∷ ps) qs → qs ≡ [] → ⊥
  some_left (one p is ps qs h) e = absurd (cc)
  some_left (other i is ps qs f h) e = some_left h e
  some_left (hole i b is ps qs all left f g k h) e = absurd (let x = sym k ∙ e in cc)

  some_all : {is : List Inner} {q : Piece} {ps qs : List Piece} → Hollows chosen is ps (q ∷ qs) → ps ≡ [] → ⊥
  some_all (one p is ps qs h) e = absurd (cc)
  some_all (other i is ps qs f h) e = some_all h e
  some_all (hole i b is ps qs all left f g k h) e = absurd (let x = sym g ∙ e in cc)

  pub both_until : {is : List Inner} {ps qs : List Piece} (n : ℕ) → Hollows chosen is ps qs → Hollows chosen is (until n ps) (until n qs)
  both_until n none = none
  both_until n (one p is [] [] h) = one (ending_at n p) is [] [] h
  both_until n (one p is [] (y ∷ qs) h) = absurd (some_all h refl)
  both_until n (one p is (x ∷ ps) [] h) = absurd (some_left h refl)
  both_until n (one p is (x ∷ ps) (y ∷ qs) h) = one p is (until n (x ∷ ps)) (until n (y ∷ qs)) (both_until n h)
  both_until n (other i is ps qs e h) = other i is (until n ps) (until n qs) e (both_until n h)
  both_until n (hole i b is [] [] all left e f g h) =
      hole i (with_end b n) is [] [] (until n all) (until n left) e
      (ap (until n) (f ∙ append_none (all_places b)) ∙ all_until b n ∙ sym (append_none (all_places (with_end b n))))
      (ap (until n) (g ∙ append_none (left_places b)) ∙ left_until b n ∙ sym (append_none (left_places (with_end b n)))) h
  both_until n (hole i b is [] (y ∷ qs) all left e f g h) = absurd (some_all h refl)
  both_until n (hole i b is (x ∷ ps) [] all left e f g h) = absurd (some_left h refl)
  both_until n (hole i b is (x ∷ ps) (y ∷ qs) all left e f g h) =
      hole i b is (until n (x ∷ ps)) (until n (y ∷ qs)) (until n all) (until n left) e
      (ap (until n) f ∙ until_append n (all_places b) x ps) (ap (until n) g ∙ until_append n (left_places b) y qs) (both_until n h)

-- ---- tokens that stand there

keeps_all : (u : List Lexeme) (hs : List Hole) (ts us : List Lexeme) → LeavesOut hs ts us → LeavesOut hs (u ++ ts) (u ++ us)
keeps_all [] hs ts us h = h
keeps_all (t ∷ u) hs ts us h = keeps t hs (u ++ ts) (u ++ us) (keeps_all u hs ts us h)

-- the tokens that are left
pub record Emptied (chosen : ℕ → Bool) (limit : ℕ) (is : List Inner) (w : List Lexeme) (n : Lexeme) (qs : List Piece) : Type 0 where
  pub holes : List Hole
  pub left : List Lexeme
  pub leaves : LeavesOut holes w left
  pub places : map place_of holes ≡ hollow_places chosen is
  pub first : first_of left n ≡ first_of w n
  pub stand : Stand limit qs left n

-- a function with a braced body, and what is after it
record Cut (limit : ℕ) (f : Function) (b : BracedPlaces f) (ps : List Piece) (w : List Lexeme) (n : Lexeme) : Type 0 where
  braced : Braced
  rest : List Lexeme
  split : w ≡ all_of braced ++ rest
  place : place_of (hole_of braced) ≡ place_in f
  others : Stand limit ps rest n
  left : (next : Lexeme) → Stand limit (left_places b) (left_of braced) next

closed_at : (ends : List ℕ) (d limit : ℕ) (t : Lexeme) (next there : Lexeme) → Stand limit (closing ends d ∷ []) (t ∷ []) next → Stand limit (closing ends d ∷ []) (at_front t ∷ []) there
closed_at ends d limit t next there h = (record { kind = h.0.kind; content = tt; starts = tt; ends = h.0.ends; line = λ _. refl }, h.1, tt)

cut_close : (limit : ℕ) (f : Function) (b : BracedPlaces f) (ps : List Piece) (w : List Lexeme) (n : Lexeme) (first : Lexeme) (more : List Lexeme) (t : Lexeme) (inside : List Lexeme) (c rest : List Lexeme)
    → IsHead (first ∷ more) → first.start ≡ start_of f → w ≡ ((first ∷ more) ++ (t ∷ (inside ++ c))) ++ rest → Stand limit (b.first ∷ b.more) (first ∷ more) t → Is (record { kind = Exactly (kind.Mark mark.OPEN_BRACE); content = nothing; starts = []; ends = []; glued = false; depth = b.depth }) t
    → b.depth ≤ limit → IsBalanced inside → Stand limit (closing b.ends b.depth ∷ []) c (first_of rest n) → Stand limit ps rest n → Cut limit f b ps w n
cut_close limit f b ps w n first more t inside [] rest head starts e stands opens le balanced closes others = absurd closes
cut_close limit f b ps w n first more t inside (c ∷ d ∷ cs) rest head starts e stands opens le balanced closes others = absurd closes.2
cut_close limit f b ps w n first more t inside (c ∷ []) rest head starts e stands opens le balanced closes others = record {
  braced = record { first = first; more = more; opener = t; inside = inside; closer = c; head = head; opens = opens.kind; balanced = balanced; closes = closes.0.kind };
  rest = rest;
  split = e;
  place = ap (λ x. record { start = x; end = c.end }) starts ∙ ap (λ x. record { start = start_of f; end = x }) (b.end c.end closes.0.ends);
  others = others;
  left = λ next. stand_both limit (b.first ∷ b.more) (mark_piece mark.OPEN_BRACE b.depth ∷ closing b.ends b.depth ∷ []) (first ∷ more) (t ∷ at_front c ∷ []) next stands (opens, le, closed_at b.ends b.depth limit c (first_of rest n) next closes);
}

cut : (limit : ℕ) (f : Function) (b : BracedPlaces f) (ps : List Piece) (w : List Lexeme) (n : Lexeme) → Stand limit (all_places b ++ ps) w n → Cut limit f b ps w n
cut limit f b ps w n h = at_head (stand_halves limit (b.first ∷ b.more) (mark_piece mark.OPEN_BRACE b.depth ∷ (b.inner ++ closing b.ends b.depth ∷ [])) p.front (first_of p.back n) p.first)
  where
    p : StandHalves limit (all_places b) ps w n
    p = stand_halves limit (all_places b) ps w n h

    at_head : StandHalves limit (b.first ∷ b.more) (mark_piece mark.OPEN_BRACE b.depth ∷ (b.inner ++ closing b.ends b.depth ∷ [])) p.front (first_of p.back n) → Cut limit f b ps w n
    at_head r = open_at r.back r.split r.first r.second
      where
        open_at : (back : List Lexeme) → p.front ≡ r.front ++ back → Stand limit (b.first ∷ b.more) r.front (first_of back (first_of p.back n)) → Stand limit (mark_piece mark.OPEN_BRACE b.depth ∷ (b.inner ++ closing b.ends b.depth ∷ [])) back (first_of p.back n) → Cut limit f b ps w n
        open_at [] e k g = absurd g
        open_at (t ∷ back) e k g =
            let q = stand_halves limit b.inner (closing b.ends b.depth ∷ []) back (first_of p.back n) g.2 in
            let a = b.head.at r.front t (stood limit (b.first ∷ b.more) r.front t k).fits in
            cut_close limit f b ps w n a.first a.more t q.front q.back p.back a.is a.starts
            (p.split ∙ ap (λ x. x ++ p.back) (e ∙ ap (λ x. x ++ (t ∷ back)) a.are ∙ ap (λ x. (a.first ∷ a.more) ++ (t ∷ x)) q.split))
            (subst (λ x. Stand limit (b.first ∷ b.more) x t) a.are k) g.0 g.1
            (b.nested.at q.front (first_of q.back (first_of p.back n)) (stood limit b.inner q.front (first_of q.back (first_of p.back n)) q.first).fits [])
            q.second p.second

pub emptied : (chosen : ℕ → Bool) (limit : ℕ) {is : List Inner} {ps qs : List Piece} → Hollows chosen is ps qs → (w : List Lexeme) (n : Lexeme) → Stand limit ps w n → Emptied chosen limit is w n qs
emptied chosen limit none [] n s = record { holes = []; left = []; leaves = leaves_nothing; places = refl; first = refl; stand = tt }
emptied chosen limit none (t ∷ w) n s = absurd s
emptied chosen limit (one (At p) is ps qs h) [] n s = absurd s
emptied chosen limit (one (At p) is ps qs h) (t ∷ w) n s =
    let r = emptied chosen limit h w n s.2 in
    record { holes = r.holes; left = t ∷ r.left; leaves = keeps t r.holes w r.left r.leaves; places = r.places; first = refl; stand = (s.0, s.1, r.stand) }
emptied chosen limit (one (Gap e) is ps qs h) w n s =
    let r = emptied chosen limit h w n s.1 in
    record { holes = r.holes; left = r.left; leaves = r.leaves; places = r.places; first = r.first; stand = (subst (λ x. may_omit e x ≡ true) (sym r.first) s.0, r.stand) }
emptied chosen limit (one Pass is ps qs h) w n s =
    let r = emptied chosen limit h s.1 n s.4 in
    record {
      holes = r.holes;
      left = s.0 ++ r.left;
      leaves = subst (λ x. LeavesOut r.holes x (s.0 ++ r.left)) (sym s.2) (keeps_all s.0 r.holes s.1 r.left r.leaves);
      places = r.places;
      first = first_append s.0 r.left n ∙ ap (first_of s.0) r.first ∙ sym (first_append s.0 s.1 n) ∙ ap (λ x. first_of x n) (sym s.2);
      stand = (s.0, r.left, refl, s.3, r.stand);
    }
emptied chosen limit (other i is ps qs e h) w n s =
    let r = emptied chosen limit h w n s in
    record { holes = r.holes; left = r.left; leaves = r.leaves; places = r.places ∙ sym (ap (λ c. if c then place_in i.func ∷ hollow_places chosen is else hollow_places chosen is) e); first = r.first; stand = r.stand }
emptied chosen limit (hole i b is ps qs all left e f g h) w n s =
    let c = cut limit i.func b ps w n (subst (λ x. Stand limit x w n) f s) in
    let r = emptied chosen limit h c.rest n c.others in
    record {
      holes = hole_of c.braced ∷ r.holes;
      left = left_of c.braced ++ r.left;
      leaves = skips c.braced r.holes c.rest r.left w (left_of c.braced ++ r.left) c.split refl r.leaves;
      places = ap (λ x. x ∷ map place_of r.holes) c.place ∙ ap (λ x. place_in i.func ∷ x) r.places ∙ sym (ap (λ c. if c then place_in i.func ∷ hollow_places chosen is else hollow_places chosen is) e);
      first = sym (ap (λ x. first_of x n) c.split);
      stand = subst (λ x. Stand limit x (left_of c.braced ++ r.left) n) (sym g) (stand_both limit (left_places b) qs (left_of c.braced) r.left n (c.left (first_of r.left n)) r.stand);
    }
