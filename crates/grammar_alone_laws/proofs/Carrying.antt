-- Contiguous parts of tokens in places that are put together.
use Rattle.std.proofs.Common.{◌≡◌, ◌∙◌, ℕ, zero, suc, ◌+◌, ◌≤◌, List, [], ◌∷◌, ◌++◌, length, get_or, refl, sym, ap, subst, append_assoc, arith}
use Rattle.std.proofs.lemmas.List.{length-append, get_or-append-add}
use Rattle.script_grammar.specs.Lexeme.{Lexeme}
use Rattle.script_grammar.specs.Pieces.{Piece, Fits, depths}
use Rattle.grammar_alone_laws.specs.Carried.{Looser, Part, Carries}
use Rattle.grammar_parser_laws.proofs.Friendly.{first_of}
use Rattle.grammar_alone_laws.proofs.Halves.{halves, length_depths}
use Rattle.grammar_alone_laws.proofs.Loosening.{fits_looser}

-- all of them
pub carries_all : (ps : List Piece) → Carries ps ps
carries_all ps = record { at = λ w n h. record { before = []; words = w; next = n; behind = []; split = refl; is = h; shallow = λ j. let here : 0 + j ≡ j = omega arith in subst (λ i. get_or (depths ps w n h) j 0 ≤ get_or (depths ps w n h) i 0) (sym here) (omega arith) } }

-- ---- more tokens in front

deep_before : (xs all ys : List ℕ) (j : ℕ) → all ≡ xs ++ ys → get_or ys j 0 ≡ get_or all (length xs + j) 0
deep_before xs all ys j e = sym (get_or-append-add xs ys j 0) ∙ ap (λ zs. get_or zs (length xs + j) 0) (sym e)

pub carries_before : {ps qs : List Piece} (rs : List Piece) → Carries ps qs → Carries (rs ++ ps) qs
carries_before {ps} {qs} rs c = record { at = found }
  where
    found : (w : List Lexeme) (n : Lexeme) (h : Fits (rs ++ ps) w n) → Part (rs ++ ps) w n h qs
    found w n h =
        let p = halves rs ps w n h in
        let k = c.at p.back n p.second in
        record {
          before = p.front ++ k.before;
          words = k.words;
          next = k.next;
          behind = k.behind;
          split = ap (λ x. x ++ n ∷ []) p.split ∙ append_assoc p.front p.back (n ∷ []) ∙ ap (λ x. p.front ++ x) k.split ∙ sym (append_assoc p.front k.before (k.words ++ k.next ∷ k.behind));
          is = k.is;
          shallow = λ j.
              let front = depths rs p.front (first_of p.back n) p.first in
              let e = deep_before front (depths (rs ++ ps) w n h) (depths ps p.back n p.second) (length k.before + j) p.deep in
              let l = length_depths rs p.front (first_of p.back n) p.first in
              let m = length-append p.front k.before in
              let same : length front + (length k.before + j) ≡ length (p.front ++ k.before) + j = omega (arith, l, m) in
              subst (λ x. get_or (depths qs k.words k.next k.is) j 0 ≤ x) (e ∙ ap (λ i. get_or (depths (rs ++ ps) w n h) i 0) same) (k.shallow j);
        }

-- ---- more tokens after

front_deep : (xs ys : List ℕ) (j : ℕ) → get_or xs j 0 ≤ get_or (xs ++ ys) j 0
front_deep [] ys j = omega arith
front_deep (x ∷ xs) ys zero = omega arith
front_deep (x ∷ xs) ys (suc j) = front_deep xs ys j

record Rest (v : List Lexeme) (n : Lexeme) : Type 0 where
  more : List Lexeme
  is : v ++ n ∷ [] ≡ first_of v n ∷ more

rest_of : (v : List Lexeme) (n : Lexeme) → Rest v n
rest_of [] n = record { more = []; is = refl }
rest_of (t ∷ v) n = record { more = v ++ n ∷ []; is = refl }

more_behind : (w u v before words behind : List Lexeme) (n next : Lexeme) → w ≡ u ++ v → u ++ first_of v n ∷ [] ≡ before ++ (words ++ next ∷ behind) → (r : Rest v n) → w ++ n ∷ [] ≡ before ++ (words ++ next ∷ (behind ++ r.more))
more_behind w u v before words behind n next s k r =
    ap (λ x. x ++ n ∷ []) s ∙ append_assoc u v (n ∷ []) ∙ ap (λ x. u ++ x) r.is
    ∙ sym (append_assoc u (first_of v n ∷ []) r.more)
    ∙ ap (λ x. x ++ r.more) k
    ∙ append_assoc before (words ++ next ∷ behind) r.more
    ∙ ap (λ x. before ++ x) (append_assoc words (next ∷ behind) r.more)

pub carries_after : {ps qs : List Piece} (rs : List Piece) → Carries ps qs → Carries (ps ++ rs) qs
carries_after {ps} {qs} rs c = record { at = found }
  where
    found : (w : List Lexeme) (n : Lexeme) (h : Fits (ps ++ rs) w n) → Part (ps ++ rs) w n h qs
    found w n h =
        let p = halves ps rs w n h in
        let k = c.at p.front (first_of p.back n) p.first in
        let r = rest_of p.back n in
        record {
          before = k.before;
          words = k.words;
          next = k.next;
          behind = k.behind ++ r.more;
          split = more_behind w p.front p.back k.before k.words k.behind n k.next p.split k.split r;
          is = k.is;
          shallow = λ j.
              let front = depths ps p.front (first_of p.back n) p.first in
              let le = front_deep front (depths rs p.back n p.second) (length k.before + j) in
              let here = k.shallow j in
              subst (λ xs. get_or (depths qs k.words k.next k.is) j 0 ≤ get_or xs (length k.before + j) 0) (sym p.deep) (omega (arith, le, here));
        }

-- ---- places that ask more

pub carries_tighter : {ps qs rs : List Piece} → Looser rs ps → Carries ps qs → Carries rs qs
carries_tighter {ps} {qs} {rs} l c = record { at = found }
  where
    found : (w : List Lexeme) (n : Lexeme) (h : Fits rs w n) → Part rs w n h qs
    found w n h =
        let f = fits_looser l w n h in
        let k = c.at w n f.is in
        record {
          before = k.before;
          words = k.words;
          next = k.next;
          behind = k.behind;
          split = k.split;
          is = k.is;
          shallow = λ j. let here = k.shallow j in let le = f.shallow (length k.before + j) in omega (arith, here, le);
        }

-- ---- a part of a part

inner_split : (all before words behind more : List Lexeme) (next : Lexeme) (front part back : List Lexeme) (last : Lexeme) → all ≡ before ++ (words ++ next ∷ behind) → words ++ next ∷ [] ≡ front ++ (part ++ last ∷ back) → all ≡ (before ++ front) ++ (part ++ last ∷ (back ++ behind))
inner_split all before words behind more next front part back last e k =
    e ∙ ap (λ x. before ++ x) (sym (append_assoc words (next ∷ []) behind) ∙ ap (λ x. x ++ behind) k ∙ append_assoc front (part ++ last ∷ back) behind ∙ ap (λ x. front ++ x) (append_assoc part (last ∷ back) behind))
    ∙ sym (append_assoc before front (part ++ last ∷ (back ++ behind)))

pub carries_through : {ps qs rs : List Piece} → Carries ps qs → Carries qs rs → Carries ps rs
carries_through {ps} {qs} {rs} c d = record { at = found }
  where
    found : (w : List Lexeme) (n : Lexeme) (h : Fits ps w n) → Part ps w n h rs
    found w n h =
        let k = c.at w n h in
        let m = d.at k.words k.next k.is in
        record {
          before = k.before ++ m.before;
          words = m.words;
          next = m.next;
          behind = m.behind ++ k.behind;
          split = inner_split (w ++ n ∷ []) k.before k.words k.behind [] k.next m.before m.words m.behind m.next k.split m.split;
          is = m.is;
          shallow = λ j.
              let here = m.shallow j in
              let there = k.shallow (length m.before + j) in
              let e = length-append k.before m.before in
              let same : length k.before + (length m.before + j) ≡ length (k.before ++ m.before) + j = omega (arith, e) in
              subst (λ i. get_or (depths rs m.words m.next m.is) j 0 ≤ get_or (depths ps w n h) i 0) same (omega (arith, here, there));
        }
