-- Names by atoms of a function's own texts, while these grow.
use Rattle.std.proofs.Common.{◌≡◌, ◌∙◌, ℕ, zero, suc, ◌+◌, ◌<◌, ◌≤◌, List, [], ◌∷◌, ◌++◌, length, map, take, Option, Some, None, option_map, refl, sym, ap, subst, inl, inr, length-append, arith}
use Rattle.std.specs.Prelude.{◌⊎◌, slice_get, slice_index_or}
use Rattle.std.proofs.Math.Seq.{take-suc}
use Rattle.std.proofs.lemmas.List.{append-nil, append_assoc, get_or_append_left, map-append}
use Rattle.std.proofs.lemmas.Option.{get_or_from_slice_get, slice_get_within, slice_get-get_or}
use Rattle.stencil_data.specs.declared.records.ClosedName.{ClosedName}
use Rattle.stencil_data.specs.Named.{NamedClosed}
use Rattle.stencil_data.specs.StandsFor.{text_at, named_closed, ClosedWithin, NameWithin}
use Rattle.parser_atoms.specs.Places.{AreWithoutEquals, Interns, StandsIn}
use Rattle.script_scanner.specs.Stands.{Keeps}
use Rattle.track_atoms.proofs.Interning.{interned, interned_keeps, still_kept}
use Rattle.lazy_compile.specs.OwnTexts.{IsOwnName, AreOwnNames, TakesFrom}
use Rattle.lazy_compile.proofs.Crowded.{no_longer}

-- ---- what stood stands still

keeps_length : (before after : List (List ℕ)) → Keeps before after → length before ≤ length after
keeps_length before after k = let e = ap length k.1 ∙ length-append before k.0 in omega (arith, e)

keeps_more : (a b c : List (List ℕ)) → Keeps a b → Keeps b c → Keeps a c
keeps_more a b c h k = (h.0 ++ k.0, k.1 ∙ (ap (λ (ts : List (List ℕ)). ts ++ k.0) h.1 ∙ append_assoc a h.0 k.0))

kept_text : (before after : List (List ℕ)) (n : ℕ) → Keeps before after → n < length before → text_at after n ≡ text_at before n
kept_text before after n k lt = ap (λ (ts : List (List ℕ)). text_at ts n) k.1 ∙ get_or_append_left before k.0 [] n lt

within_more : (a b : ℕ) (cs : List ClosedName) → a ≤ b → ClosedWithin a cs → ClosedWithin b cs
within_more a b [] le h = tt
within_more a b (c ∷ cs) le h = (let lt = h.0 in omega (arith, lt, le), within_more a b cs le h.1)

closed_kept : (before after : List (List ℕ)) → Keeps before after → (cs : List ClosedName) → ClosedWithin (length before) cs → map (named_closed after) cs ≡ map (named_closed before) cs
closed_kept before after k [] h = refl
closed_kept before after k (c ∷ cs) h =
    ap (λ (t : List ℕ). record { scope = c.scope; text = t } ∷ map (named_closed after) cs) (kept_text before after c.atom k h.0)
    ∙ ap (λ (ns : List NamedClosed). named_closed before c ∷ ns) (closed_kept before after k cs h.1)

name_within_more : (a b : ℕ) (name : Option ℕ) → a ≤ b → NameWithin a name → NameWithin b name
name_within_more a b None le h = tt
name_within_more a b (Some n) le h = omega (arith, le, h)

name_kept : (before after : List (List ℕ)) → Keeps before after → (name : Option ℕ) → NameWithin (length before) name → option_map (text_at after) name ≡ option_map (text_at before) name
name_kept before after k None h = refl
name_kept before after k (Some n) h = ap Some (kept_text before after n k h)

pub own_name_kept : (texts before after : List (List ℕ)) (name made : Option ℕ) → Keeps before after → IsOwnName texts before name made → IsOwnName texts after name made
own_name_kept texts before after name made k h = record { within = name_within_more (length before) (length after) made (keeps_length before after k) h.within; is = name_kept before after k made h.within ∙ h.is }

pub own_names_kept : (texts before after : List (List ℕ)) (names made : List ClosedName) → Keeps before after → AreOwnNames texts before names made → AreOwnNames texts after names made
own_names_kept texts before after names made k h = record { within = within_more (length before) (length after) made (keeps_length before after k) h.within; are = closed_kept before after k made h.within ∙ h.are }

-- ---- where texts stand

stands_left : (xs ys : List (List ℕ)) (t : List ℕ) → StandsIn xs t → StandsIn (xs ++ ys) t
stands_left xs ys t h = (h.0, still_kept xs (xs ++ ys) t h.0 (ys, refl) h.1)

stands_right : (xs ys : List (List ℕ)) (t : List ℕ) → StandsIn ys t → StandsIn (xs ++ ys) t
stands_right [] ys t h = h
stands_right (x ∷ xs) ys t h = let r = stands_right xs ys t h in (suc r.0, r.1)

pub either_at : (xs ys : List (List ℕ)) (t : List ℕ) (k : ℕ) → slice_get (xs ++ ys) k ≡ Some t → StandsIn xs t ⊎ StandsIn ys t
either_at [] ys t k h = inr (k, h)
either_at (x ∷ xs) ys t zero h = inl (0, h)
either_at (x ∷ xs) ys t (suc k) h = elim (either_at xs ys t k h) [ inl a ↦ inl (suc a.0, a.1) | inr b ↦ inr b ]

-- ---- own texts that grow

pub takes_none : (texts before : List (List ℕ)) → AreWithoutEquals before → TakesFrom texts before before
takes_none texts before apart = record { keeps = ([], sym (append-nil before)); apart = apart; among = λ t h. stands_left before texts t h }

pub takes_more : (texts a b c : List (List ℕ)) → TakesFrom texts a b → TakesFrom texts b c → TakesFrom texts a c
takes_more texts a b c h k = record {
  keeps = keeps_more a b c h.keeps k.keeps;
  apart = k.apart;
  among = λ t s. let there = k.among t s in elim (either_at b texts t there.0 there.1) [ inl x ↦ h.among t x | inr y ↦ stands_right a texts t y ];
}

among_one : (texts before after : List (List ℕ)) (n atom : ℕ) → n < length texts → Interns before after (text_at texts n) atom → (t : List ℕ) → StandsIn after t → StandsIn (before ++ texts) t
among_one texts before after n atom lt (inl h) t s = stands_left before texts t (s.0, sym (ap (λ (ts : List (List ℕ)). slice_get ts s.0) h.1) ∙ s.1)
among_one texts before after n atom lt (inr h) t s =
    elim (either_at before (text_at texts n ∷ []) t s.0 (sym (ap (λ (ts : List (List ℕ)). slice_get ts s.0) h.2) ∙ s.1)) [
      | inl x ↦ stands_left before texts t x
      | inr y ↦ stands_right before texts t (n, slice_get-get_or texts n [] lt ∙ last y.0 y.1)
    ]
  where
    last : (k : ℕ) → slice_get (text_at texts n ∷ []) k ≡ Some t → Some (text_at texts n) ≡ Some t
    last zero e = e
    last (suc k) e = absurd (cc)

pub takes_one : (texts before after : List (List ℕ)) (n atom : ℕ) → n < length texts → Interns before after (text_at texts n) atom → AreWithoutEquals after → TakesFrom texts before after
takes_one texts before after n atom lt i apart = record { keeps = interned_keeps before after (text_at texts n) atom i; apart = apart; among = among_one texts before after n atom lt i }

pub takes_few : (texts before own : List (List ℕ)) → TakesFrom texts before own → length own ≤ length before + length texts
takes_few texts before own h = let n = no_longer own (before ++ texts) h.apart h.among in let e = length-append before texts in omega (arith, n, e)

-- ---- one more name

pub one_name : (texts before after : List (List ℕ)) (n atom : ℕ) → Interns before after (text_at texts n) atom → IsOwnName texts after (Some n) (Some atom)
one_name texts before after n atom i =
    let is = interned before after (text_at texts n) atom i in
    record { within = slice_get_within after atom (text_at texts n) is; is = ap Some (get_or_from_slice_get after atom (text_at texts n) [] is) }

within_both : (count : ℕ) (bs cs : List ClosedName) → ClosedWithin count bs → ClosedWithin count cs → ClosedWithin count (bs ++ cs)
within_both count [] cs h k = k
within_both count (b ∷ bs) cs h k = (h.0, within_both count bs cs h.1 k)

pub one_more : (texts before after : List (List ℕ)) (names made : List ClosedName) (name own : ClosedName) → AreOwnNames texts before names made → Interns before after (text_at texts name.atom) own.atom → own.scope ≡ name.scope
    → AreOwnNames texts after (names ++ name ∷ []) (made ++ own ∷ [])
one_more texts before after names made name own h i scope =
    let k = own_names_kept texts before after names made (interned_keeps before after (text_at texts name.atom) own.atom i) h in
    let is = interned before after (text_at texts name.atom) own.atom i in
    let same : named_closed after own ≡ named_closed texts name =
    ap (λ (s : ℕ). record { scope = s; text = text_at after own.atom }) scope
    ∙ ap (λ (t : List ℕ). record { scope = name.scope; text = t }) (get_or_from_slice_get after own.atom (text_at texts name.atom) [] is) in
    record {
      within = within_both (length after) made (own ∷ []) k.within (slice_get_within after own.atom (text_at texts name.atom) is, tt);
      are =
          map-append (named_closed after) made (own ∷ [])
          ∙ (ap (λ (ns : List NamedClosed). ns ++ named_closed after own ∷ []) k.are ∙ (ap (λ (n : NamedClosed). map (named_closed texts) names ++ n ∷ []) same ∙ sym (map-append (named_closed texts) names (name ∷ []))));
    }

-- ---- in a loop over closed names

abbrev no_name : ClosedName
no_name = record { scope = 0; atom = 0 }

pub atom_within : (count : ℕ) (cs : List ClosedName) (k : ℕ) → ClosedWithin count cs → k < length cs → (slice_index_or cs k no_name).atom < count
atom_within count [] k h lt = absurd (omega (arith, lt))
atom_within count (c ∷ cs) zero h lt = h.0
atom_within count (c ∷ cs) (suc k) h lt = atom_within count cs k h.1 (omega (arith, lt))

pub first_names : (texts before : List (List ℕ)) (own : List ClosedName) → own ≡ [] → AreWithoutEquals before → TakesFrom texts before before × AreOwnNames texts before [] own
first_names texts before own e apart = (takes_none texts before apart, subst (AreOwnNames texts before []) (sym e) (record { within = tt; are = refl }))

pub next_name : (texts initial before after : List (List ℕ)) (closed own more : List ClosedName) (k atom : ℕ) → ClosedWithin (length texts) closed → k < length closed
    → TakesFrom texts initial before × AreOwnNames texts before (take k closed) own → Interns before after (text_at texts (slice_index_or closed k no_name).atom) atom → AreWithoutEquals after
    → more ≡ own ++ record { scope = (slice_index_or closed k no_name).scope; atom = atom } ∷ [] → TakesFrom texts initial after × AreOwnNames texts after (take (k + 1) closed) more
next_name texts initial before after closed own more k atom within lt h i apart pushed =
    let name = slice_index_or closed k no_name in
    let one : suc k ≡ k + 1 = omega arith in
    let cut : take (k + 1) closed ≡ take k closed ++ name ∷ [] = sym (ap (λ (n : ℕ). take n closed) one) ∙ take-suc closed k no_name lt in
    let made = one_more texts before after (take k closed) own name (record { scope = name.scope; atom = atom }) h.1 i refl in (
      takes_more texts initial before after h.0 (takes_one texts before after name.atom atom (atom_within (length texts) closed k within lt) i apart),
      subst (λ (ns : List ClosedName). AreOwnNames texts after ns more) (sym cut) (subst (AreOwnNames texts after (take k closed ++ name ∷ [])) (sym pushed) made),
    )
