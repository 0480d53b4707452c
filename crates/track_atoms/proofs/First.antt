-- The known words, interned in order from no texts on, take the places 0 to 6.
use Rattle.std.proofs.Common.{◌≡◌, ℕ, true, false, List, [], ◌∷◌, ◌++◌, length, refl, sym, ◌∙◌, ap, codes, inl, inr, arith}
use Rattle.parser_atoms.specs.Places.{Interns}
use Rattle.scope_analysis.specs.DeclaredNames.{has_text}
use Rattle.parse_track.specs.declared.region.WellKnownAtoms.{WellKnownAtoms}
use Rattle.track_atoms.specs.Known.{known_atoms}
use Rattle.track_atoms.proofs.Found.{has_at}

-- a text that is not among these is put after them
pub record PutLast (texts : List (List ℕ)) (text : List ℕ) (after : List (List ℕ)) (atom : ℕ) : Type 0 where
  pub place : atom ≡ length texts
  pub list : after ≡ texts ++ text ∷ []

put_last : (before after texts : List (List ℕ)) (text : List ℕ) (atom : ℕ) → before ≡ texts → has_text texts text ≡ false → Interns before after text atom → PutLast texts text after atom
put_last before after texts text atom is absent (inl h) =
    let has : has_text texts text ≡ true = ap (λ (ts : List (List ℕ)). has_text ts text) (sym is) ∙ has_at before atom text h.0 in
    absurd (cc)
put_last before after texts text atom is absent (inr h) = record {
  place = h.1 ∙ ap length is;
  list = h.2 ∙ ap (λ (ts : List (List ℕ)). ts ++ text ∷ []) is;
}

none : (texts : List (List ℕ)) → length texts ≡ 0 → texts ≡ []
none [] h = refl
none (t ∷ ts) h = absurd (omega (arith, h))

-- the lists of texts after the first call, the second, and so on
abbrev one : List (List ℕ)
one = codes "eval" ∷ []

abbrev two : List (List ℕ)
two = codes "eval" ∷ codes "arguments" ∷ []

abbrev three : List (List ℕ)
three = codes "eval" ∷ codes "arguments" ∷ codes ".this" ∷ []

abbrev four : List (List ℕ)
four = codes "eval" ∷ codes "arguments" ∷ codes ".this" ∷ codes "__proto__" ∷ []

abbrev five : List (List ℕ)
five = codes "eval" ∷ codes "arguments" ∷ codes ".this" ∷ codes "__proto__" ∷ codes "get" ∷ []

abbrev six : List (List ℕ)
six = codes "eval" ∷ codes "arguments" ∷ codes ".this" ∷ codes "__proto__" ∷ codes "get" ∷ codes "set" ∷ []

abbrev made : (a b c d e f g : ℕ) → WellKnownAtoms
made a b c d e f g = record { eval = a; arguments = b; this = c; proto = d; get = e; set = f; strict = g }

-- what has these seven numbers
same : (known : WellKnownAtoms) → known.eval ≡ 0 → known.arguments ≡ 1 → known.this ≡ 2 → known.proto ≡ 3 → known.get ≡ 4 → known.set ≡ 5 → known.strict ≡ 6 → known ≡ known_atoms
same known a b c d e f g =
    ap (λ (n : ℕ). made n known.arguments known.this known.proto known.get known.set known.strict) a
    ∙ ap (λ (n : ℕ). made 0 n known.this known.proto known.get known.set known.strict) b
    ∙ ap (λ (n : ℕ). made 0 1 n known.proto known.get known.set known.strict) c
    ∙ ap (λ (n : ℕ). made 0 1 2 n known.get known.set known.strict) d
    ∙ ap (λ (n : ℕ). made 0 1 2 3 n known.set known.strict) e
    ∙ ap (λ (n : ℕ). made 0 1 2 3 4 n known.strict) f
    ∙ ap (λ (n : ℕ). made 0 1 2 3 4 5 n) g

pub first_known : (t0 t1 t2 t3 t4 t5 t6 t7 : List (List ℕ)) (known : WellKnownAtoms) → length t0 ≡ 0
    → Interns t0 t1 (codes "eval") known.eval → Interns t1 t2 (codes "arguments") known.arguments → Interns t2 t3 (codes ".this") known.this
    → Interns t3 t4 (codes "__proto__") known.proto → Interns t4 t5 (codes "get") known.get → Interns t5 t6 (codes "set") known.set
    → Interns t6 t7 (codes "use strict") known.strict → known ≡ known_atoms
first_known t0 t1 t2 t3 t4 t5 t6 t7 known empty eval arguments this proto get set strict =
    let a : PutLast [] (codes "eval") t1 known.eval = put_last t0 t1 [] (codes "eval") known.eval (none t0 empty) refl eval in
    let b : PutLast one (codes "arguments") t2 known.arguments = put_last t1 t2 one (codes "arguments") known.arguments a.list refl arguments in
    let c : PutLast two (codes ".this") t3 known.this = put_last t2 t3 two (codes ".this") known.this b.list refl this in
    let d : PutLast three (codes "__proto__") t4 known.proto = put_last t3 t4 three (codes "__proto__") known.proto c.list refl proto in
    let e : PutLast four (codes "get") t5 known.get = put_last t4 t5 four (codes "get") known.get d.list refl get in
    let f : PutLast five (codes "set") t6 known.set = put_last t5 t6 five (codes "set") known.set e.list refl set in
    let g : PutLast six (codes "use strict") t7 known.strict = put_last t6 t7 six (codes "use strict") known.strict f.list refl strict in
    same known a.place b.place c.place d.place e.place f.place g.place
