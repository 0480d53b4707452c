-- From the three laws of a parser to the first fault of the parts that it reads: what its soundness says of faults, and its
-- completeness of parts before no lexeme.
use Rattle.std.proofs.Common.{◌≡◌, ℕ, zero, suc, ◌+◌, ◌≤◌, List, [], ◌∷◌, ◌++◌, get_or, refl, sym, ap, ◌∙◌, subst, arith, append_assoc, append-nil, cond, nat_lt, Bool, true, false}
use Rattle.std.proofs.lemmas.Bool.{le-ltb, ltb-false}
use Rattle.script_grammar.specs.Lexeme.{Lexeme}
use Rattle.script_grammar.specs.Kinds.{is_end}
use Rattle.script_grammar.specs.Pieces.{Piece, At, Gap, Pass, Fits, depths}
use Rattle.script_grammar.specs.Fault.{depth_limit, Part, Begins}
use Rattle.grammar_parser_specs.specs.Parser.{Reply, Read, Bad, Deep, Parser, head_of, after, ret, bad, when, end_lexeme}
use Rattle.grammar_parser_specs.specs.Stmts.{end_of}
use Rattle.grammar_parser_laws.proofs.Friendly.{Spot, Friendly, friendly_omits, end_friendly}
use Rattle.grammar_parser_laws.proofs.Stands.{Marked, lexemes, marks, Stands, fits_standing}
use Rattle.grammar_parser_laws.proofs.Complete.{Parses, bare, bare_noted, cut}
use Rattle.grammar_sound_laws.proofs.SoundNext.{SoundNext, Outcome, Ended, Sunk, Took}
use Rattle.grammar_script_laws.proofs.Bracketed.{AllInner}
use Rattle.grammar_parser_laws.proofs.Nested.{Nested}
use Rattle.grammar_script_laws.proofs.FirstFaults.{BegunBad, BegunDeep, Cuts, inner_open, inner_front}

-- outcomes of bare replies

pub of_bad : {A : Type 0} (p : Spot) (R : List Lexeme → A → Lexeme → Type 0) (ts us : List Lexeme) (r : Reply A) → bare r ≡ Bad [] us → Outcome p R ts r → Ended p R ts us
of_bad {A = A} p R ts us (Read a rs vs) e o = absurd (cc)
of_bad {A = A} p R ts us (Bad rs vs) e o = subst (Ended p R ts) (same e) o
  where
    same : ◌≡◌ {A = Reply A} (Bad [] vs) (Bad [] us) → vs ≡ us
    same e = cc
of_bad {A = A} p R ts us (Deep rs vs) e o = absurd (cc)

pub of_deep : {A : Type 0} (p : Spot) (R : List Lexeme → A → Lexeme → Type 0) (ts us : List Lexeme) (r : Reply A) → bare r ≡ Deep [] us → Outcome p R ts r → Sunk R ts us
of_deep {A = A} p R ts us (Read a rs vs) e o = absurd (cc)
of_deep {A = A} p R ts us (Bad rs vs) e o = absurd (cc)
of_deep {A = A} p R ts us (Deep rs vs) e o = subst (Sunk R ts) (same e) o
  where
    same : ◌≡◌ {A = Reply A} (Deep [] vs) (Deep [] us) → vs ≡ us
    same e = cc

pub of_read : {A : Type 0} (p : Spot) (R : List Lexeme → A → Lexeme → Type 0) (ts us : List Lexeme) (a : A) (r : Reply A) → bare r ≡ Read a [] us → Outcome p R ts r → Took R ts a us
of_read {A = A} p R ts us a (Read b rs vs) e o = subst (λ x. Took R ts x us) (same_value e) (subst (Took R ts b) (same_left e) o)
  where
    same_left : ◌≡◌ {A = Reply A} (Read b [] vs) (Read a [] us) → vs ≡ us
    same_left e = cc

    same_value : ◌≡◌ {A = Reply A} (Read b [] vs) (Read a [] us) → b ≡ a
    same_value e = cc
of_read {A = A} p R ts us a (Bad rs vs) e o = absurd (cc)
of_read {A = A} p R ts us a (Deep rs vs) e o = absurd (cc)

-- A parser of which what is read, with some lexemes after it, is such a part.
module _ {A : Type 0} (P : Part) (f : Parser A) (p : Spot) (R : List Lexeme → A → Lexeme → Type 0) (s : SoundNext p R f)
    (inner : (w : List Lexeme) (a : A) → R w a end_lexeme → AllInner w)
    (part : (u v : List Lexeme) (a : A) → R (u ++ v) a end_lexeme → Begins P u) where
  pub bad_part : (ts us : List Lexeme) → bare (f ts) ≡ Bad [] us → BegunBad P f ts us
  bad_part ts us e =
      let o = of_bad p R ts us (f ts) e (s.at ts) in
      let is = o.is end_lexeme end_friendly in
      let b = part o.front o.end o.of is in
      record { front = o.front; split = o.split; inner = inner_front o.front o.end (inner (o.front ++ o.end) o.of is); end = b.end; deep = b.deep; is = b.is }

  pub deep_part : (ts us : List Lexeme) → bare (f ts) ≡ Deep [] us → BegunDeep P f ts us
  deep_part ts us e =
      let o = of_deep p R ts us (f ts) e (s.at ts) in
      let b = part (o.front ++ o.token ∷ []) o.end o.of (subst (λ w. R w o.of end_lexeme) (sym (append_assoc o.front (o.token ∷ []) o.end)) (o.is end_lexeme end_friendly)) in
      record { front = o.front; split = o.split; token = o.token; behind = o.behind; first = o.first; end = b.end; deep = b.deep; is = subst (λ w. P w b.deep) (append_assoc o.front (o.token ∷ []) b.end) b.is }

-- a friendly lexeme may stand after in place of another
pub stands_friendly : (ps : List Piece) (w : List Marked) (x y : Lexeme) → Friendly y → Stands ps w x → Stands ps w y
stands_friendly [] [] x y f h = tt
stands_friendly [] (t ∷ w) x y f h = absurd h
stands_friendly (At s ∷ ps) [] x y f h = absurd h
stands_friendly (At s ∷ ps) (t ∷ w) x y f h = (h.0, h.1, stands_friendly ps w x y f h.2)
stands_friendly (Gap e ∷ ps) [] x y f h = (friendly_omits e y f, stands_friendly ps [] x y f h.1)
stands_friendly (Gap e ∷ ps) (t ∷ w) x y f h = (h.0, stands_friendly ps (t ∷ w) x y f h.1)
stands_friendly (Pass ∷ ps) w x y f h = (h.0, h.1, h.2, h.3, h.4, stands_friendly ps h.1 x y f h.5)

-- what stands at places whose brackets match is inside a text
pub nested_inner : (ps : List Piece) → Nested ps → (w : List Lexeme) (n : Lexeme) → Fits ps w n → AllInner w
nested_inner ps x w n h = inner_open w [] [] (x.at w n h [])

-- a part that ends where its lexemes do
pub cuts_end : {A : Type 0} (P : Part) (f : Parser A) (ps : List Piece) (w : List Lexeme) (n : Lexeme) (h : Fits ps w n) (deep : List ℕ) (a : A) → deep ≡ depths ps w n h → ((m : List Marked) → Stands ps m end_lexeme → Parses depth_limit f m [] a) → Cuts P f w deep
cuts_end P f ps w n h deep a e c =
    let s = fits_standing ps w n h in
    record {
      marked = s.marked;
      lexemes_are = s.lexemes_are;
      depths_are = s.depths_are ∙ sym e;
      of = a;
      left = [];
      cuts = ap (λ x. bare (f x)) (sym s.lexemes_are ∙ sym (append-nil (lexemes s.marked))) ∙ (c s.marked (stands_friendly ps s.marked n end_lexeme end_friendly s.stands)).by;
    }

-- Depths within the limit.

abbrev pub NoneDeep : List ℕ → Type 0
NoneDeep ds = (j : ℕ) → get_or ds j 0 ≤ depth_limit

pub cut_read : {A : Type 0} (m : List Marked) (rest : List Lexeme) (r : Reply A) (a : A) (v : List Lexeme) → cut depth_limit m rest r ≡ Read a [] v → NoneDeep (marks m) × (r ≡ Read a [] v)
cut_read [] rest r a v e = (λ j. omega arith, e)
cut_read {A = A} (x ∷ m) rest r a v e = by (nat_lt depth_limit x.depth) refl (λ k. cut_read m rest r a v k) e
  where
    here : nat_lt depth_limit x.depth ≡ false → NoneDeep (marks m) → (j : ℕ) → get_or (x.depth ∷ marks m) j 0 ≤ depth_limit
    here k h zero = ltb-false depth_limit x.depth k
    here k h (suc j) = h j

    by : (b : Bool) → nat_lt depth_limit x.depth ≡ b → (cut depth_limit m rest r ≡ Read a [] v → NoneDeep (marks m) × (r ≡ Read a [] v)) → cond b (Deep [] (x.lexeme ∷ (lexemes m ++ rest))) (cut depth_limit m rest r) ≡ Read a [] v → NoneDeep (marks (x ∷ m)) × (r ≡ Read a [] v)
    by true k i h = absurd (cc)
    by false k i h = let q = i h in (here k q.0, q.1)

pub cut_none : {A : Type 0} (m : List Marked) (rest : List Lexeme) (r : Reply A) → NoneDeep (marks m) → cut depth_limit m rest r ≡ r
cut_none [] rest r h = refl
cut_none (x ∷ m) rest r h = ap (λ b. cond b (Deep [] (x.lexeme ∷ (lexemes m ++ rest))) (cut depth_limit m rest r)) (le-ltb depth_limit x.depth (h 0)) ∙ cut_none m rest r (λ j. h (suc j))

-- a part is read where it stands and no lexeme of it is deep
pub part_is_read : {A : Type 0} (f : Parser A) (ps : List Piece) (u rest : List Lexeme) (h : Fits ps u (head_of rest)) (a : A) → NoneDeep (depths ps u (head_of rest) h) → ((m : List Marked) → Stands ps m (head_of rest) → Parses depth_limit f m rest a) → bare (f (u ++ rest)) ≡ Read a [] rest
part_is_read f ps u rest h a k c =
    let s = fits_standing ps u (head_of rest) h in
    ap (λ x. bare (f (x ++ rest))) (sym s.lexemes_are) ∙ (c s.marked s.stands).by ∙ cut_none s.marked rest (Read a [] rest) (subst NoneDeep (sym s.depths_are) k)

-- With room enough nothing is too deep, so a parser reads one value at most.

abbrev pub total : List ℕ → ℕ
total [] = 0
total (d ∷ ds) = d + total ds

pub cut_total : {A : Type 0} (limit : ℕ) (m : List Marked) (rest : List Lexeme) (r : Reply A) → total (marks m) ≤ limit → cut limit m rest r ≡ r
cut_total limit [] rest r h = refl
cut_total limit (x ∷ m) rest r h = ap (λ b. cond b (Deep [] (x.lexeme ∷ (lexemes m ++ rest))) (cut limit m rest r)) (le-ltb limit x.depth (omega (arith, h))) ∙ cut_total limit m rest r (omega (arith, h))

pub one_value : {A : Type 0} (limit : ℕ) (f : Parser A) (m n : List Marked) (a b : A) → total (marks m) ≤ limit → total (marks n) ≤ limit → lexemes m ≡ lexemes n → Parses limit f m [] a → Parses limit f n [] b → a ≡ b
one_value {A = A} limit f m n a b h k e x y = same (sym (cut_total limit m [] (Read a [] []) h) ∙ sym x.by ∙ ap (λ z. bare (f (z ++ []))) e ∙ y.by ∙ cut_total limit n [] (Read b [] []) k)
  where
    same : ◌≡◌ {A = Reply A} (Read a [] []) (Read b [] []) → a ≡ b
    same e = cc

-- two lists of places at which the same lexemes stand
pub record BothStand (ps qs : List Piece) (w : List Lexeme) : Type 0 where
  pub left : List Marked
  pub right : List Marked
  pub left_are : lexemes left ≡ w
  pub right_are : lexemes right ≡ w
  pub left_stand : Stands ps left end_lexeme
  pub right_stand : Stands qs right end_lexeme

pub both_stand : (ps qs : List Piece) (w : List Lexeme) (x y : Lexeme) → Fits ps w x → Fits qs w y → BothStand ps qs w
both_stand ps qs w x y h k =
    let s = fits_standing ps w x h in
    let t = fits_standing qs w y k in
    record {
      left = s.marked;
      right = t.marked;
      left_are = s.lexemes_are;
      right_are = t.lexemes_are;
      left_stand = stands_friendly ps s.marked x end_lexeme end_friendly s.stands;
      right_stand = stands_friendly qs t.marked y end_lexeme end_friendly t.stands;
    }

-- the room that both need
abbrev pub room_of : {ps qs : List Piece} {w : List Lexeme} → BothStand ps qs w → ℕ
room_of s = total (marks s.left) + total (marks s.right)

-- a parser that is complete with this room reads one value
pub one_read : {A : Type 0} (extra : ℕ) (f : Parser A) (ps qs : List Piece) (w : List Lexeme) (a b : A) (s : BothStand ps qs w) → Parses (room_of s + extra) f s.left [] a → Parses (room_of s + extra) f s.right [] b → a ≡ b
one_read extra f ps qs w a b s x y = one_value (room_of s + extra) f s.left s.right a b (omega arith) (omega arith) (s.left_are ∙ sym s.right_are) x y

-- A parser that goes up to the End token stops before one.

read_left : {A : Type 0} (a b : A) (us vs : List Lexeme) → ◌≡◌ {A = Reply A} (Read a [] us) (Read b [] vs) → us ≡ vs
read_left a b us vs e = cc

end_by : {B : Type 0} (a : B) (us vs : List Lexeme) (x : B) (b : Bool) → is_end (head_of vs).kind ≡ b → bare (when b (ret x) bad vs) ≡ Read a [] us → is_end (head_of us).kind ≡ true
end_by a us vs x true k h = ap (λ y. is_end (head_of y).kind) (sym (read_left x a vs us h)) ∙ k
end_by a us vs x false k h = absurd (cc)

pub ends_there : {A B : Type 0} (g : A → B) (r : Reply A) (a : B) (us : List Lexeme) → bare (after r (λ x. end_of (g x))) ≡ Read a [] us → is_end (head_of us).kind ≡ true
unfolding end_of
ends_there g (Read x rs vs) a us e = end_by a us vs (g x) (is_end (head_of vs).kind) refl (sym (bare_noted rs (end_of (g x) vs)) ∙ e)
ends_there g (Bad rs vs) a us e = absurd (cc)
ends_there g (Deep rs vs) a us e = absurd (cc)
