-- Steps of a numbering: a text more that is named.
use Rattle.std.proofs.Common.{◌≡◌, ℕ, zero, suc, Bool, true, false, ◌+◌, ◌-◌, ◌^◌, ◌<◌, ◌≤◌, cond, List, [], ◌∷◌, ◌++◌, length, take, get_or, set, replicate, Option, Some, None, refl, sym, ◌∙◌, ap, ap₂, subst, slice_get, arith, inl, inr, append-nil, length-append, length-set}
use Rattle.std.specs.Prelude.{is_some, count_by, ◌==◌, nat_lt, if◌then◌else◌, slice_index_or, All}
use Rattle.std.proofs.lemmas.Bool.{false≢true}
use Rattle.std.proofs.lemmas.Bool.Decides.{Decides-eqb, Decides-ltb}
use Rattle.std.proofs.lemmas.List.{length-replicate, replicate_more, take_all}
use Rattle.std.proofs.lemmas.List.Elements.{All-nil, All-more}
use Rattle.std.proofs.lemmas.List.Sums.{count_by-le-length, sum_by-cons}
use Rattle.std.proofs.lemmas.Option.{slice_get-get_or, slice_get_within}
use Rattle.stencil_data.specs.StandsFor.{text_at}
use Rattle.parser_atoms.specs.Places.{Interns}
use Rattle.stencil_xdr_specs.specs.Image.{Item, Bytes, Atom, named, firsts}
use Rattle.stencil_xdr_specs.specs.Widths.{TextFits}
use Rattle.stencil_xdr_read.specs.Reading.{Each}
use Rattle.stencil_xdr_read.proofs.Firsts.{either}
use Rattle.stencil_xdr_read.proofs.Anew.{each_both}
use Rattle.stencil_xdr_write.specs.Named.{NumberingView, HasRoom, HasNumber, Names, IsNumbered, NumbersMore}
use Rattle.stencil_xdr_write.specs.Numbers.{place_of}
use Rattle.stencil_xdr_write.proofs.MoreFirsts.{firsts_again, interned_firsts, interned_there, interned_keeps}

abbrev Table : Type 0
Table = List (Option ℕ)

-- ---- lists

named-append : (texts : List (List ℕ)) (xs ys : List Item) → named texts (xs ++ ys) ≡ named texts xs ++ named texts ys
named-append texts [] ys = refl
named-append texts (Bytes bs ∷ xs) ys = named-append texts xs ys
named-append texts (Atom a ∷ xs) ys = ap (λ (l : List (List ℕ)). text_at texts a ∷ l) (named-append texts xs ys)

set_same : (xs : Table) (i : ℕ) (y : Option ℕ) → i < length xs → slice_get (set xs i y) i ≡ Some y
set_same [] i y h = absurd (omega arith)
set_same (x ∷ xs) zero y h = refl
set_same (x ∷ xs) (suc i) y h = set_same xs i y (omega arith)

set_other : (xs : Table) (i j : ℕ) (y : Option ℕ) → (j ≡ i → ⊥) → slice_get (set xs i y) j ≡ slice_get xs j
set_other [] i j y h = refl
set_other (x ∷ xs) zero zero y h = absurd (h refl)
set_other (x ∷ xs) zero (suc j) y h = refl
set_other (x ∷ xs) (suc i) zero y h = refl
set_other (x ∷ xs) (suc i) (suc j) y h = set_other xs i j y (λ e. h (ap suc e))

none_at : (n a k : ℕ) → slice_get (replicate n None) a ≡ Some (Some k) → ⊥
none_at zero a k h = cc
none_at (suc n) zero k h = cc
none_at (suc n) (suc a) k h = none_at n a k h

-- ---- places

behind : (texts : List (List ℕ)) (a : ℕ) → length texts ≤ a → text_at texts a ≡ []
behind [] a h = refl
behind (t ∷ ts) zero h = absurd (omega arith)
behind (t ∷ ts) (suc a) h = behind ts a (omega arith)

placed_by : (texts : List (List ℕ)) (a : ℕ) (b : Bool) → nat_lt a (length texts) ≡ b → text_at texts (if b then a else length texts) ≡ text_at texts a
placed_by texts a true h = refl
placed_by texts a false h =
    let none_below : ¬ (a < length texts) = λ more. false≢true (sym h ∙ (Decides-ltb a (length texts)).1 more) in
    behind texts (length texts) (omega arith) ∙ sym (behind texts a (omega (arith, none_below)))

-- the text of an atom is that of its place
pub placed_text : (texts : List (List ℕ)) (a : ℕ) → text_at texts (place_of (length texts) a) ≡ text_at texts a
placed_text texts a = placed_by texts a (nat_lt a (length texts)) refl

below_by : (count a : ℕ) (b : Bool) → nat_lt a count ≡ b → (if b then a else count) < count + 1
below_by count a true h = omega (arith, (Decides-ltb a count).0 h)
below_by count a false h = omega arith

place_below : (count a : ℕ) → place_of count a < count + 1
place_below count a = below_by count a (nat_lt a count) refl

-- ---- room

count_none : (xs : Table) → count_by is_some (None ∷ xs) ≡ count_by is_some xs
count_none xs = omega (arith, sum_by-cons (λ (x : Option ℕ). cond (is_some x) 1 0) None xs)

count_some : (x : ℕ) (xs : Table) → count_by is_some (Some x ∷ xs) ≡ 1 + count_by is_some xs
count_some x xs = omega (arith, sum_by-cons (λ (y : Option ℕ). cond (is_some y) 1 0) (Some x) xs)

count_less : (xs : Table) (a : ℕ) → slice_get xs a ≡ Some None → count_by is_some xs < length xs
count_less [] a h = absurd (cc)
count_less (None ∷ xs) zero h = let low : count_by is_some xs ≤ length xs = count_by-le-length is_some xs in omega (arith, count_none xs)
count_less (Some x ∷ xs) zero h = absurd (cc)
count_less (None ∷ xs) (suc a) h = let low : count_by is_some xs < length xs = count_less xs a h in omega (arith, count_none xs)
count_less (Some x ∷ xs) (suc a) h = let low : count_by is_some xs < length xs = count_less xs a h in omega (arith, count_some x xs)

count_more : (xs : Table) (a k : ℕ) → slice_get xs a ≡ Some None → count_by is_some (set xs a (Some k)) ≡ count_by is_some xs + 1
count_more [] a k h = absurd (cc)
count_more (None ∷ xs) zero k h = omega (arith, count_none xs, count_some k xs)
count_more (Some x ∷ xs) zero k h = absurd (cc)
count_more (None ∷ xs) (suc a) k h = let e : count_by is_some (set xs a (Some k)) ≡ count_by is_some xs + 1 = count_more xs a k h in omega (arith, count_none xs, count_none (set xs a (Some k)))
count_more (Some x ∷ xs) (suc a) k h = let e : count_by is_some (set xs a (Some k)) ≡ count_by is_some xs + 1 = count_more xs a k h in omega (arith, count_some x xs, count_some x (set xs a (Some k)))

pub room_none : (texts atoms : List (List ℕ)) (table : Table) → length texts < 2 ^ 32 - 1 → table ≡ replicate (length texts + 1) None → atoms ≡ [] → HasRoom texts table atoms
room_none texts atoms table few is none = record { many = ap length is ∙ length-replicate (length texts + 1) None; few = few; fewer = omega (arith, ap length none) }

-- ---- no numbers yet

-- how far a loop that reads the texts has come
pub record Emptied (texts : List (List ℕ)) (table : Table) (at : ℕ) : Type 0 where
  pub none : table ≡ replicate at None
  pub fit : All TextFits (take at texts)

pub emptied_none : (texts : List (List ℕ)) (table : Table) → table ≡ [] → Emptied texts table 0
emptied_none texts table is = record { none = is; fit = All-nil TextFits }

pub emptied_more : (texts : List (List ℕ)) (table new : Table) (at : ℕ) (text : List ℕ) (number : Option ℕ) → at < length texts → text ≡ get_or texts at text → number ≡ None → TextFits text → new ≡ table ++ number ∷ [] → Emptied texts table at → Emptied texts new (at + 1)
emptied_more texts table new at text number more is none fit pushed h = record {
  none = pushed ∙ (ap₂ (λ (l : Table) (x : Option ℕ). l ++ x ∷ []) h.none none ∙ replicate_more at None);
  fit = All-more TextFits texts at text more h.fit (subst TextFits is fit);
}

pub emptied_table : (texts : List (List ℕ)) (table new : Table) (at : ℕ) → at ≤ length texts → length texts ≤ at → new ≡ table ++ None ∷ [] → Emptied texts table at → new ≡ replicate (length texts + 1) None
emptied_table texts table new at low high pushed h =
    let e : at ≡ length texts = omega arith in
    pushed ∙ (ap (λ (l : Table). l ++ None ∷ []) (h.none ∙ ap (λ (n : ℕ). replicate n None) e) ∙ replicate_more (length texts) None)

pub emptied_fit : (texts : List (List ℕ)) (table : Table) (at : ℕ) → length texts ≤ at → Emptied texts table at → All TextFits texts
emptied_fit texts table at high h = subst (All TextFits) (take_all at texts high) h.fit

-- one text more may be interned
pub room_left : (texts atoms : List (List ℕ)) (table : Table) (a : ℕ) → HasRoom texts table atoms → slice_get table a ≡ Some None → length atoms < 2 ^ 32 - 1
room_left texts atoms table a room h = let less : count_by is_some table < length table = count_less table a h in omega (arith, room.many, room.few, room.fewer)

grown : (before after : List (List ℕ)) (text : List ℕ) (k : ℕ) → Interns before after text k → length after ≤ length before + 1
grown before after text k (inl h) = omega (arith, ap length h.1)
grown before after text k (inr h) = omega (arith, ap length h.2, length-append before (text ∷ []))

pub room_more : (texts before after : List (List ℕ)) (table new : Table) (a k : ℕ) (text : List ℕ) → HasRoom texts table before → slice_get table a ≡ Some None → Interns before after text k → new ≡ set table a (Some k) → HasRoom texts new after
room_more texts before after table new a k text room h interned is = record {
  many = ap length is ∙ (length-set table a (Some k) ∙ room.many);
  few = room.few;
  fewer = omega (arith, grown before after text k interned, room.fewer, ap (count_by is_some) is, count_more table a k h);
}

-- ---- steps

-- a text that was interned for a place
pub names_by : (texts atoms new : List (List ℕ)) (table : Table) (p k : ℕ) (units : List ℕ) → units ≡ text_at texts p → Interns atoms new units k
    → Names (record { texts = texts; table = table; atoms = atoms }) p (record { texts = texts; table = set table p (Some k); atoms = new })
names_by texts atoms new table p k units is interned = record { same = refl; number = k; table = refl; interned = subst (λ (t : List ℕ). Interns atoms new t k) is interned }

pub numbered_none : (texts : List (List ℕ)) (n : NumberingView) → n.texts ≡ texts → n.table ≡ replicate (length texts + 1) None → n.atoms ≡ [] → IsNumbered texts [] n
numbered_none texts n same table none = record {
  same = same;
  many = ap length table ∙ length-replicate (length texts + 1) None;
  firsts = none;
  right = λ a k at. absurd (none_at (length texts + 1) a k (ap (λ (t : Table). slice_get t a) (sym table) ∙ at));
  all = tt;
}

pub bytes_named : (n : NumberingView) (bs : List ℕ) → NumbersMore n (Bytes bs ∷ []) n
bytes_named n bs = λ texts seen h. record {
  same = h.same;
  many = h.many;
  firsts = h.firsts ∙ ap firsts (sym (named-append texts seen (Bytes bs ∷ []) ∙ append-nil (named texts seen)));
  right = h.right;
  all = each_both (HasNumber (length texts) n.table) seen (Bytes bs ∷ []) h.all (tt, tt);
}

place_here : (texts : List (List ℕ)) (n : NumberingView) (p a : ℕ) → p ≡ place_of (length n.texts) a → n.texts ≡ texts → p ≡ place_of (length texts) a
place_here texts n p a place same = place ∙ ap (λ (ts : List (List ℕ)). place_of (length ts) a) same

text_here : (texts : List (List ℕ)) (p a : ℕ) → p ≡ place_of (length texts) a → text_at texts p ≡ text_at texts a
text_here texts p a place = ap (text_at texts) place ∙ placed_text texts a

known_by : (n : NumberingView) (p a : ℕ) (o : Option (Option ℕ)) → p ≡ place_of (length n.texts) a → slice_get n.table p ≡ o → (o ≡ Some None → ⊥) → NumbersMore n (Atom a ∷ []) n
known_by n p a None place is old = λ texts seen h.
    let inside : p < length n.table = omega (arith, place_here texts n p a place h.same, place_below (length texts) a, h.many) in
    let there : slice_get n.table p ≡ Some (get_or n.table p None) = slice_get-get_or n.table p None inside in
    absurd (cc)
known_by n p a (Some None) place is old = absurd (old refl)
known_by n p a (Some (Some k)) place is old = λ texts seen h.
    let here : p ≡ place_of (length texts) a = place_here texts n p a place h.same in record {
      same = h.same;
      many = h.many;
      firsts = h.firsts ∙ sym (ap firsts (named-append texts seen (Atom a ∷ [])) ∙ firsts_again (named texts seen) (text_at texts a) k
          (ap (λ (l : List (List ℕ)). slice_get l k) (sym h.firsts) ∙ (h.right p k is ∙ ap (λ (t : List ℕ). Some t) (text_here texts p a here))));
      right = h.right;
      all = each_both (HasNumber (length texts) n.table) seen (Atom a ∷ []) h.all ((k, ap (slice_get n.table) (sym here) ∙ is), tt);
    }

-- an atom whose place has a number is named again
pub atom_known : (n : NumberingView) (p a : ℕ) → p ≡ place_of (length n.texts) a → (slice_get n.table p ≡ Some None → ⊥) → NumbersMore n (Atom a ∷ []) n
atom_known n p a place old = known_by n p a (slice_get n.table p) place refl old

still_there : (old new : Table) (p k q : ℕ) → p < length old → new ≡ set old p (Some k) → ((j : ℕ) × (slice_get old q ≡ Some (Some j))) → (j : ℕ) × (slice_get new q ≡ Some (Some j))
still_there old new p k q inside is h = elim (either (q == p)) [
  | inl e ↦ (k, ap₂ slice_get is ((Decides-eqb q p).0 e) ∙ set_same old p (Some k) inside)
  | inr e ↦ (h.0, ap (λ (t : Table). slice_get t q) is ∙ (set_other old p q (Some k) (λ f. false≢true (sym e ∙ (Decides-eqb q p).1 f)) ∙ h.1))
]

each_still : (count : ℕ) (old new : Table) (p k : ℕ) → p < length old → new ≡ set old p (Some k) → (is : List Item) → Each (HasNumber count old) is → Each (HasNumber count new) is
each_still count old new p k inside is [] h = tt
each_still count old new p k inside is (Bytes bs ∷ xs) h = (tt, each_still count old new p k inside is xs h.1)
each_still count old new p k inside is (Atom a ∷ xs) h = (still_there old new p k (place_of count a) inside is h.0, each_still count old new p k inside is xs h.1)

-- an atom whose place had no number is named first
pub atom_named : (old new : NumberingView) (p a : ℕ) → p ≡ place_of (length old.texts) a → slice_get old.table p ≡ Some None → Names old p new → NumbersMore old (Atom a ∷ []) new
atom_named old new p a place none names = λ texts seen h.
    let here : p ≡ place_of (length texts) a = place_here texts old p a place h.same in
    let inside : p < length old.table = slice_get_within old.table p None none in
    let interned : Interns old.atoms new.atoms (text_at texts a) names.number =
    subst (λ (t : List ℕ). Interns old.atoms new.atoms t names.number) (ap (λ (ts : List (List ℕ)). text_at ts p) h.same ∙ text_here texts p a here) names.interned in
    let there : slice_get new.table p ≡ Some (Some names.number) = ap (λ (t : Table). slice_get t p) names.table ∙ set_same old.table p (Some names.number) inside in record {
      same = names.same ∙ h.same;
      many = ap length names.table ∙ (length-set old.table p (Some names.number) ∙ h.many);
      firsts = interned_firsts (named texts seen) old.atoms new.atoms (text_at texts a) names.number h.firsts interned ∙ ap firsts (sym (named-append texts seen (Atom a ∷ [])));
      right = λ b k at. elim (either (b == p)) [
        | inl e ↦
            let same : b ≡ p = (Decides-eqb b p).0 e in
            let two : Some (Some k) ≡ Some (Some names.number) = sym at ∙ (ap (slice_get new.table) same ∙ there) in
            let number : names.number ≡ k = cc in
            subst (λ (j : ℕ). slice_get new.atoms j ≡ Some (text_at texts b)) number
            (interned_there old.atoms new.atoms (text_at texts a) names.number interned ∙ ap (λ (t : List ℕ). Some t) (sym (text_here texts p a here) ∙ ap (text_at texts) (sym same)))
        | inr e ↦ interned_keeps old.atoms new.atoms (text_at texts a) names.number interned k (text_at texts b)
            (h.right b k (sym (ap (λ (t : Table). slice_get t b) names.table ∙ set_other old.table p b (Some names.number) (λ f. false≢true (sym e ∙ (Decides-eqb b p).1 f))) ∙ at))
      ];
      all = each_both (HasNumber (length texts) new.table) seen (Atom a ∷ []) (each_still (length texts) old.table new.table p names.number inside names.table seen h.all) ((names.number, ap (slice_get new.table) (sym here) ∙ there), tt);
    }
