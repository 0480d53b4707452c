-- The places of texts, and one text more.
use Rattle.std.proofs.Common.{◌≡◌, ◌==◌, ℕ, ◌+◌, ◌-◌, ◌/◌, ◌<◌, ◌≤◌, ◌^◌, ◌⊎◌, inl, inr, zero, suc, List, [], ◌∷◌, ◌++◌, length, set, get_or, replicate, Bool, true, false, cond, refl, sym, ◌∙◌, ap, subst, arith, length-append}
use Rattle.std.specs.Prelude.{Option, Some, None, IsSome, is_some, not, IfSome, IfNone, slice_get, nat_lt}
use Rattle.std.specs.Int.Bits.{bit_and}
use Rattle.std.specs.Str.{bytes_eq}
use Rattle.std.specs.Ordering.{is_eq, nat_cmp, eq_by_cmp}
use Rattle.std.specs.Cmp.Lexicographic.{slice_cmp, bytes_decides, nat_list_eq_equiv, nat_list_cmp_total}
use Rattle.std.specs.Map.{lookup, IsKeyTest, AreApart, KeepsOthers}
use Rattle.std.specs.BTreeMap.{UpdatesBy, is_at}
use Rattle.std.specs.declared.cmp.Ordering.{Ordering}
use Rattle.std.specs.declared.alloc.Global.{Global}
use Rattle.std.specs.declared.vec.Vec.{Vec}
use Rattle.std.proofs.lemmas.Bool.{cases_Bool, cond-true, cond-false, eqb-true, eq-eqb, ltb-true, ltb-false, false≢true}
use Rattle.std.proofs.lemmas.List.{get_or-set_same, get_or-set_other, length-set, get_or-replicate, length-replicate}
use Rattle.std.proofs.Math.ListN.{get_or-eq_default}
use Rattle.std.proofs.lemmas.Nat.{and_le_r}
use Rattle.std.proofs.lemmas.Option.{slice_get_read, slice_get_within}
use Rattle.std.proofs.lemmas.Cmp.{eq_by_cmp_equiv}
use Rattle.std.proofs.lemmas.Map.Text.{is_eq-slice_cmp}
use Rattle.parser_atoms.specs.declared.cells.Entry.{Entry}
use Rattle.parser_atoms.specs.Digest.{digest_of}
use Rattle.parser_atoms.specs.Indexed.{Cells, Others, first_cell_of, second_cell_of, first_of, second_of, other_of, IsEntryIn, IsHeldLater, IsHeld, IsIndexed, IsWhole, Indexes}
use Rattle.parser_atoms.specs.Places.{StandsIn, AreWithoutEquals}

module _ {X : Type 0} where
  -- what stands in a list stands there still when more is put after it
  pub slice_get-append_old : (xs ys : List X) (i : ℕ) (x : X) → slice_get xs i ≡ Some x → slice_get (xs ++ ys) i ≡ Some x
  slice_get-append_old [] ys i x h = cc
  slice_get-append_old (a ∷ xs) ys zero x h = h
  slice_get-append_old (a ∷ xs) ys (suc i) x h = slice_get-append_old xs ys i x h

  -- the last item
  pub slice_get-append_last : (xs : List X) (x : X) → slice_get (xs ++ x ∷ []) (length xs) ≡ Some x
  slice_get-append_last [] x = refl
  slice_get-append_last (a ∷ xs) x = slice_get-append_last xs x

  -- an item stood there, or it is the last
  pub slice_get-append_cases : (xs : List X) (y : X) (i : ℕ) (x : X) → slice_get (xs ++ y ∷ []) i ≡ Some x → (slice_get xs i ≡ Some x) ⊎ ((i ≡ length xs) × (y ≡ x))
  slice_get-append_cases [] y zero x h = inr (refl, cc)
  slice_get-append_cases [] y (suc i) x h = inl (cc)
  slice_get-append_cases (a ∷ xs) y zero x h = inl h
  slice_get-append_cases (a ∷ xs) y (suc i) x h = elim (slice_get-append_cases xs y i x h) [ inl old ↦ inl old | inr last ↦ inr (ap suc last.0, last.1) ]

  -- an option is not both
  nothing : {W : Type 0} (o : Option X) (x : X) → o ≡ None → o ≡ Some x → W
  nothing o x a b = absurd (let e : None ≡ Some x = sym a ∙ b in cc)

other_entries : (eq : Vec ℕ Global → Vec ℕ Global → Bool) (test : Vec ℕ Global → Bool) (old new : List (Vec ℕ Global × ℕ)) → KeepsOthers eq test old new
    → (other : Vec ℕ Global → Bool) → IsKeyTest eq other → AreApart test other → lookup other new ≡ lookup other old
unfolding KeepsOthers
other_entries eq test old new h = h

apart : (bs cs ks : List ℕ) → bytes_eq bs cs ≡ false → bytes_eq bs ks ≡ true → bytes_eq cs ks ≡ false
apart bs cs ks n y = nat_list_eq_equiv.symm cs ks ∙ sym (nat_list_eq_equiv.congr bs ks cs y) ∙ n

apart_in_order : (bs cs ks : List ℕ) → bytes_eq bs cs ≡ false → is_eq (slice_cmp nat_cmp bs ks) ≡ true → is_eq (slice_cmp nat_cmp cs ks) ≡ false
apart_in_order bs cs ks n y = is_eq-slice_cmp cs ks ∙ apart bs cs ks n (sym (is_eq-slice_cmp bs ks) ∙ y)

-- how two keys compare
abbrev pub key_cmp : Vec ℕ Global → Vec ℕ Global → Ordering
key_cmp x y = slice_cmp nat_cmp x.items y.items

-- what the tree has for a text after a key was put in
pub other_of-put : (before after : Others) (key : Vec ℕ Global) (place : ℕ) → UpdatesBy key_cmp (key_cmp key) before after (Some place)
    → (text : List ℕ) → other_of after text ≡ cond (bytes_eq key.items text) (Some place) (other_of before text)
other_of-put before after key place h text =
    elim (cases_Bool (bytes_eq key.items text)) as (λ _. other_of after text ≡ cond (bytes_eq key.items text) (Some place) (other_of before text)) [
      | inl y ↦ subst (λ (t : List ℕ). other_of after t ≡ Some place) ((bytes_decides key.items text).0 y) h.1 ∙ sym (cond-true (bytes_eq key.items text) (Some place) (other_of before text) y)
      | inr n ↦ other_entries (eq_by_cmp key_cmp) (is_at (key_cmp key)) before.entries after.entries h.3 (λ (k : Vec ℕ Global). is_eq (slice_cmp nat_cmp text k.items))
          (λ x y. (eq_by_cmp_equiv nat_list_cmp_total).congr text x.items y.items) (λ k. apart_in_order key.items text k.items n)
          ∙ sym (cond-false (bytes_eq key.items text) (Some place) (other_of before text) n)
    ]

-- texts without equals stay so
pub apart_known : (before after : List (List ℕ)) → AreWithoutEquals before → after ≡ before → AreWithoutEquals after
apart_known before after h same = subst (λ (ts : List (List ℕ)). AreWithoutEquals ts) (sym same) h

pub apart_more : (before after : List (List ℕ)) (text : List ℕ) → AreWithoutEquals before → ¬ (StandsIn before text) → after ≡ before ++ text ∷ [] → AreWithoutEquals after
apart_more before after text h absent more = subst (λ (ts : List (List ℕ)). AreWithoutEquals ts) (sym more) both
  where
    both : (t : List ℕ) (i j : ℕ) → slice_get (before ++ text ∷ []) i ≡ Some t → slice_get (before ++ text ∷ []) j ≡ Some t → i ≡ j
    both t i j at_i at_j = elim (slice_get-append_cases before text i t at_i) as (λ _. i ≡ j) [
      | inl old_i ↦ elim (slice_get-append_cases before text j t at_j) as (λ _. i ≡ j) [
        | inl old_j ↦ h t i j old_i old_j
        | inr last_j ↦ absurd (absent (i, old_i ∙ ap Some (sym last_j.1)))
      ]
      | inr last_i ↦ elim (slice_get-append_cases before text j t at_j) as (λ _. i ≡ j) [
        | inl old_j ↦ absurd (absent (j, old_j ∙ ap Some (sym last_i.1)))
        | inr last_j ↦ last_i.0 ∙ sym last_j.0
      ]
    ]

few_more : (texts : List (List ℕ)) (text : List ℕ) → length texts < 2 ^ 32 - 1 → length (texts ++ text ∷ []) < 2 ^ 32
few_more texts text few = omega (arith, length-append texts (text ∷ []), few)

one_number : (i j : ℕ) → Some i ≡ Some j → i ≡ j
one_number i j e = cc

pub one_text : (s t : List ℕ) → Some s ≡ Some t → s ≡ t
one_text s t e = cc

one_entry : (e f : Entry) → Some e ≡ Some f → e ≡ f
one_entry e f h = cc

-- a cell is within so many
pub cell_within : (digest count : ℕ) → 0 < count → bit_and digest (count - 1) < count
cell_within digest count some = omega (arith, and_le_r digest (count - 1), some)

-- a number below the next one is below this one, or is this one
older : (i n : ℕ) → i < n + 1 → (i < n) ⊎ (i ≡ n)
older i n h = elim (cases_Bool (nat_lt i n)) as (λ _. (i < n) ⊎ (i ≡ n)) [
  | inl y ↦ inl (ltb-true i n y)
  | inr m ↦ inr (let past : n ≤ i = ltb-false i n m in omega (arith, past, h))
]

-- a free cell that a text is given
module _ (cells : Cells) (k : ℕ) (new : Entry) (within : k < length cells) (free : get_or cells k None ≡ None) where
  -- what stands in a cell stands there still
  still : (j : ℕ) (e : Entry) → get_or cells j None ≡ Some e → get_or (set cells k (Some new)) j None ≡ Some e
  still j e h = elim (cases_Bool (j == k)) as (λ _. get_or (set cells k (Some new)) j None ≡ Some e) [
    | inl y ↦ nothing (get_or cells k None) e free (ap (λ (n : ℕ). get_or cells n None) (sym (eqb-true j k y)) ∙ h)
    | inr n ↦ get_or-set_other cells k j (Some new) None (λ same. false≢true (sym n ∙ eq-eqb j k same)) ∙ h
  ]

  -- a cell has what it had, or the new text
  had : (j : ℕ) (e : Entry) → get_or (set cells k (Some new)) j None ≡ Some e → (get_or cells j None ≡ Some e) ⊎ (new ≡ e)
  had j e h = elim (cases_Bool (j == k)) as (λ _. (get_or cells j None ≡ Some e) ⊎ (new ≡ e)) [
    | inl y ↦ inr (one_entry new e (sym (get_or-set_same cells k (Some new) None within) ∙ (ap (λ (n : ℕ). get_or (set cells k (Some new)) n None) (sym (eqb-true j k y)) ∙ h)))
    | inr n ↦ inl (sym (get_or-set_other cells k j (Some new) None (λ same. false≢true (sym n ∙ eq-eqb j k same))) ∙ h)
  ]

  first_still : (d : ℕ) (e : Entry) → first_of cells d ≡ Some e → first_of (set cells k (Some new)) d ≡ Some e
  first_still d e h = ap (λ (n : ℕ). get_or (set cells k (Some new)) (first_cell_of d n) None) (length-set cells k (Some new)) ∙ still (first_cell_of d (length cells)) e h

  second_still : (d : ℕ) (e : Entry) → second_of cells d ≡ Some e → second_of (set cells k (Some new)) d ≡ Some e
  second_still d e h = ap (λ (n : ℕ). get_or (set cells k (Some new)) (second_cell_of d n) None) (length-set cells k (Some new)) ∙ still (second_cell_of d (length cells)) e h

  later_still : (others : Others) (t : List ℕ) (i : ℕ) → IsHeldLater cells others t i → IsHeldLater (set cells k (Some new)) others t i
  later_still others t i h = (h.0, second_still (digest_of t) h.0 h.1, h.2)

  held_still : (others : Others) (t : List ℕ) (i : ℕ) → IsHeld cells others t i → IsHeld (set cells k (Some new)) others t i
  held_still others t i h = (
    h.0,
    first_still (digest_of t) h.0 h.1,
    elim h.2 as (λ _. (i ≡ h.0.place) ⊎ IsHeldLater (set cells k (Some new)) others t i) [ inl e ↦ inl e | inr l ↦ inr (later_still others t i l) ],
  )

  -- where the new text is held then, the places are those of one text more
  indexed_more : (others : Others) (text : List ℕ) (texts : List (List ℕ)) → new.half ≡ digest_of text / 2 ^ 32 → slice_get texts new.place ≡ Some text
      → IsHeld (set cells k (Some new)) others text new.place → IsIndexed texts new.place cells others → IsIndexed texts (new.place + 1) (set cells k (Some new)) others
  indexed_more others text texts half at held indexed = record {
    entry = λ j e h. elim (had j e h) as (λ _. IsEntryIn texts e) [
      | inl old ↦ indexed.entry j e old
      | inr same ↦ subst (λ (x : Entry). IsEntryIn texts x) same (text, at, half)
    ];
    other = indexed.other;
    held = λ t i lt h. elim (older i new.place lt) as (λ _. IsHeld (set cells k (Some new)) others t i) [
      | inl old ↦ held_still others t i (indexed.held t i old h)
      | inr last ↦ subst (λ (n : ℕ). IsHeld (set cells k (Some new)) others t n) (sym last)
          (subst (λ (s : List ℕ). IsHeld (set cells k (Some new)) others s new.place) (one_text text t (sym at ∙ (ap (λ (n : ℕ). slice_get texts n) (sym last) ∙ h))) held)
    ];
  }

-- a text whose first cell is free
pub first_more : (cells now : Cells) (others : Others) (text : List ℕ) (digest : ℕ) (new : Entry) → digest ≡ digest_of text → new.half ≡ digest / 2 ^ 32 → 0 < length cells
    → first_of cells digest ≡ None → now ≡ set cells (first_cell_of digest (length cells)) (Some new) → Indexes cells others text new.place now others
first_more cells now others text digest new is half some free put = λ texts apart at indexed.
    subst (λ (cs : Cells). IsIndexed texts (new.place + 1) cs others) (sym put)
    (indexed_more cells k new (cell_within digest (length cells) some) free others text texts (half ∙ ap (λ (d : ℕ). d / 2 ^ 32) is) at held indexed)
  where
    k : ℕ
    k = first_cell_of digest (length cells)

    stands : first_of (set cells k (Some new)) digest ≡ Some new
    stands = ap (λ (n : ℕ). get_or (set cells k (Some new)) (first_cell_of digest n) None) (length-set cells k (Some new)) ∙ get_or-set_same cells k (Some new) None (cell_within digest (length cells) some)

    held : IsHeld (set cells k (Some new)) others text new.place
    held = (new, ap (λ (d : ℕ). first_of (set cells k (Some new)) d) (sym is) ∙ stands, inl refl)

-- a text whose first cell is another's, and its second one is free
pub second_more : (cells now : Cells) (others : Others) (text : List ℕ) (digest : ℕ) (new : Entry) → digest ≡ digest_of text → new.half ≡ digest / 2 ^ 32 → 0 < length cells
    → IsSome (first_of cells digest) → second_of cells digest ≡ None → now ≡ set cells (second_cell_of digest (length cells)) (Some new) → Indexes cells others text new.place now others
second_more cells now others text digest new is half some taken free put = λ texts apart at indexed.
    subst (λ (cs : Cells). IsIndexed texts (new.place + 1) cs others) (sym put)
    (indexed_more cells k new (cell_within (digest / 2 ^ 32) (length cells) some) free others text texts (half ∙ ap (λ (d : ℕ). d / 2 ^ 32) is) at (held (first_of cells digest) refl taken) indexed)
  where
    k : ℕ
    k = second_cell_of digest (length cells)

    stands : second_of (set cells k (Some new)) digest ≡ Some new
    stands = ap (λ (n : ℕ). get_or (set cells k (Some new)) (second_cell_of digest n) None) (length-set cells k (Some new)) ∙ get_or-set_same cells k (Some new) None (cell_within (digest / 2 ^ 32) (length cells) some)

    held : (o : Option Entry) → first_of cells digest ≡ o → IsSome o → IsHeld (set cells k (Some new)) others text new.place
    held (Some e) first _ = (
      e,
      ap (λ (d : ℕ). first_of (set cells k (Some new)) d) (sym is) ∙ first_still cells k new (cell_within (digest / 2 ^ 32) (length cells) some) free digest e first,
      inr (new, ap (λ (d : ℕ). second_of (set cells k (Some new)) d) (sym is) ∙ stands, inl refl),
    )
    held None first h = absurd (false≢true h)

-- a text both of whose cells are others'
module _ (cells : Cells) (others now : Others) (text : List ℕ) (key : Vec ℕ Global) (place : ℕ) (one two : Entry) (first : first_of cells (digest_of text) ≡ Some one) (second : second_of cells (digest_of text) ≡ Some two)
    (is : key.items ≡ text) (put : UpdatesBy key_cmp (key_cmp key) others now (Some place)) (texts : List (List ℕ)) (apart : AreWithoutEquals texts) (at : slice_get texts place ≡ Some text)
    (indexed : IsIndexed texts place cells others) where
  has_text : (t : List ℕ) → other_of now t ≡ cond (bytes_eq text t) (Some place) (other_of others t)
  has_text t = other_of-put others now key place put t ∙ ap (λ (k : List ℕ). cond (bytes_eq k t) (Some place) (other_of others t)) is

  other_more : (t : List ℕ) (i : ℕ) → other_of now t ≡ Some i → slice_get texts i ≡ Some t
  other_more t i h = elim (cases_Bool (bytes_eq text t)) as (λ _. slice_get texts i ≡ Some t) [
    | inl y ↦ (let here : place ≡ i = one_number place i (sym (cond-true (bytes_eq text t) (Some place) (other_of others t) y) ∙ sym (has_text t) ∙ h) in
        ap (λ (n : ℕ). slice_get texts n) (sym here) ∙ (at ∙ ap Some ((bytes_decides text t).0 y)))
    | inr n ↦ indexed.other t i (sym (cond-false (bytes_eq text t) (Some place) (other_of others t) n) ∙ sym (has_text t) ∙ h)
  ]

  kept : (t : List ℕ) (i : ℕ) → slice_get texts i ≡ Some t → other_of others t ≡ Some i → other_of now t ≡ Some i
  kept t i old h = elim (cases_Bool (bytes_eq text t)) as (λ _. other_of now t ≡ Some i) [
    | inl y ↦ has_text t ∙ cond-true (bytes_eq text t) (Some place) (other_of others t) y
        ∙ ap Some (apart text place i at (old ∙ ap Some (sym ((bytes_decides text t).0 y))))
    | inr n ↦ has_text t ∙ cond-false (bytes_eq text t) (Some place) (other_of others t) n ∙ h
  ]

  later_kept : (t : List ℕ) (i : ℕ) → slice_get texts i ≡ Some t → IsHeldLater cells others t i → IsHeldLater cells now t i
  later_kept t i old h = (h.0, h.1, elim h.2 as (λ _. (i ≡ h.0.place) ⊎ (other_of now t ≡ Some i)) [ inl e ↦ inl e | inr e ↦ inr (kept t i old e) ])

  held_kept : (t : List ℕ) (i : ℕ) → slice_get texts i ≡ Some t → IsHeld cells others t i → IsHeld cells now t i
  held_kept t i old h = (h.0, h.1, elim h.2 as (λ _. (i ≡ h.0.place) ⊎ IsHeldLater cells now t i) [ inl e ↦ inl e | inr e ↦ inr (later_kept t i old e) ])

  held_last : (t : List ℕ) (i : ℕ) → i ≡ place → text ≡ t → IsHeld cells now t i
  held_last t i last same = (
    one,
    ap (λ (s : List ℕ). first_of cells (digest_of s)) (sym same) ∙ first,
    inr (
      two,
      ap (λ (s : List ℕ). second_of cells (digest_of s)) (sym same) ∙ second,
      inr (has_text t ∙ cond-true (bytes_eq text t) (Some place) (other_of others t) ((bytes_decides text t).1 same) ∙ ap Some (sym last)),
    ),
  )

  others_indexed : IsIndexed texts (place + 1) cells now
  others_indexed = record {
    entry = indexed.entry;
    other = other_more;
    held = λ t i lt h. elim (older i place lt) as (λ _. IsHeld cells now t i) [
      | inl old ↦ held_kept t i h (indexed.held t i old h)
      | inr last ↦ held_last t i last (one_text text t (sym at ∙ (ap (λ (n : ℕ). slice_get texts n) (sym last) ∙ h)))
    ];
  }

pub others_more : (cells : Cells) (others now : Others) (text : List ℕ) (digest : ℕ) (key : Vec ℕ Global) (place : ℕ) → digest ≡ digest_of text → IsSome (first_of cells digest) → IsSome (second_of cells digest)
    → key.items ≡ text → UpdatesBy key_cmp (key_cmp key) others now (Some place) → Indexes cells others text place cells now
others_more cells others now text digest key place same one two is put = by (first_of cells digest) (second_of cells digest) refl refl one two
  where
    by : (o p : Option Entry) → first_of cells digest ≡ o → second_of cells digest ≡ p → IsSome o → IsSome p → Indexes cells others text place cells now
    by (Some e) (Some f) first second _ _ = λ texts apart at indexed. others_indexed cells others now text key place e f
        (ap (λ (d : ℕ). first_of cells d) (sym same) ∙ first) (ap (λ (d : ℕ). second_of cells d) (sym same) ∙ second) is put texts apart at indexed
    by None p first second h _ = absurd (false≢true h)
    by (Some e) None first second _ h = absurd (false≢true h)

-- the same entries fit the same texts
pub indexed_same : (texts now : List (List ℕ)) (cells cells2 : Cells) (others others2 : Others) → IsWhole texts cells others → cells2 ≡ cells → others2.entries ≡ others.entries
    → now ≡ texts → IsWhole now cells2 others2
indexed_same texts now cells cells2 others others2 whole one two same = subst (λ (ts : List (List ℕ)). IsWhole ts cells2 others2) (sym same) (subst (λ (cs : Cells). IsWhole texts cs others2) (sym one) (record {
  indexed = record {
    entry = whole.indexed.entry;
    other = λ t i h. whole.indexed.other t i (sym (other t) ∙ h);
    held = λ t i lt h. held t i (whole.indexed.held t i lt h);
  };
  apart = whole.apart;
  few = whole.few;
}))
  where
    other : (t : List ℕ) → other_of others2 t ≡ other_of others t
    other t = ap (λ (es : List (Vec ℕ Global × ℕ)). lookup (is_at (λ (k : Vec ℕ Global). slice_cmp nat_cmp t k.items)) es) two

    later : (t : List ℕ) (i : ℕ) → IsHeldLater cells others t i → IsHeldLater cells others2 t i
    later t i h = (h.0, h.1, elim h.2 as (λ _. (i ≡ h.0.place) ⊎ (other_of others2 t ≡ Some i)) [ inl e ↦ inl e | inr e ↦ inr (other t ∙ e) ])

    held : (t : List ℕ) (i : ℕ) → IsHeld cells others t i → IsHeld cells others2 t i
    held t i h = (h.0, h.1, elim h.2 as (λ _. (i ≡ h.0.place) ⊎ IsHeldLater cells others2 t i) [ inl e ↦ inl e | inr e ↦ inr (later t i e) ])

-- the places of texts are places of the texts when one more stands behind them
indexed_longer : (texts : List (List ℕ)) (text : List ℕ) (cells : Cells) (others : Others) → IsIndexed texts (length texts) cells others → IsIndexed (texts ++ text ∷ []) (length texts) cells others
indexed_longer texts text cells others indexed = record {
  entry = λ k e h. let old = indexed.entry k e h in (old.0, slice_get-append_old texts (text ∷ []) e.place old.0 old.1, old.2);
  other = λ t i h. slice_get-append_old texts (text ∷ []) i t (indexed.other t i h);
  held = λ t i lt h. elim (slice_get-append_cases texts text i t h) as (λ _. IsHeld cells others t i) [
    | inl old ↦ indexed.held t i lt old
    | inr last ↦ absurd (omega (arith, lt, last.0))
  ];
}

-- a text that stood nowhere, put at the end
pub whole_more : (texts : List (List ℕ)) (text : List ℕ) (place : ℕ) (cells now : Cells) (others now_others : Others) → IsWhole texts cells others → ¬ (StandsIn texts text) → place ≡ length texts
    → length texts < 2 ^ 32 - 1 → Indexes cells others text place now now_others → IsWhole (texts ++ text ∷ []) now now_others
whole_more texts text place cells now others now_others whole nowhere at few indexes = record {
  indexed = subst (λ (n : ℕ). IsIndexed (texts ++ text ∷ []) n now now_others) (omega (arith, length-append texts (text ∷ []), at))
      (indexes (texts ++ text ∷ []) apart (ap (λ (n : ℕ). slice_get (texts ++ text ∷ []) n) at ∙ slice_get-append_last texts text)
      (subst (λ (n : ℕ). IsIndexed (texts ++ text ∷ []) n cells others) (sym at) (indexed_longer texts text cells others whole.indexed)));
  apart = apart;
  few = few_more texts text few;
}
  where
    apart : AreWithoutEquals (texts ++ text ∷ [])
    apart = apart_more texts (texts ++ text ∷ []) text whole.apart nowhere refl

-- no texts have their places in free cells
pub nothing_indexed : (texts : List (List ℕ)) (cells : Cells) (others : Others) → ((k : ℕ) → get_or cells k None ≡ None) → others.entries ≡ [] → IsIndexed texts 0 cells others
nothing_indexed texts cells others free empty = record {
  entry = λ k e h. nothing (get_or cells k None) e (free k) h;
  other = λ t i h. nothing (other_of others t) i (ap (λ (es : List (Vec ℕ Global × ℕ)). lookup (is_at (λ (k : Vec ℕ Global). slice_cmp nat_cmp t k.items)) es) empty) h;
  held = λ t i lt h. absurd (omega (arith, lt));
}

-- each cell is free
pub free_cells : (count k : ℕ) → get_or {A = Option Entry} (replicate count None) k None ≡ None
free_cells count k = elim (cases_Bool (nat_lt k count)) as (λ _. get_or {A = Option Entry} (replicate count None) k None ≡ None) [
  | inl y ↦ get_or-replicate count k None None (ltb-true k count y)
  | inr n ↦ let past : count ≤ k = ltb-false k count n in get_or-eq_default (replicate count None) None (omega (arith, length-replicate count none, past))
]
  where
    none : Option Entry
    none = None

pub free_more : (texts : List (List ℕ)) (cells : Cells) (others : Others) (count : ℕ) → cells ≡ replicate count None → others.entries ≡ [] → IsIndexed texts 0 cells others
free_more texts cells others count is empty = nothing_indexed texts cells others (λ k. ap (λ (cs : Cells). get_or cs k None) is ∙ free_cells count k) empty

-- one text that was put in at its place
pub put_more : (texts : List (List ℕ)) (text : List ℕ) (place : ℕ) (cells now : Cells) (others now_others : Others) → Indexes cells others text place now now_others → AreWithoutEquals texts
    → place < length texts → text ≡ get_or texts place text → IsIndexed texts place cells others → IsIndexed texts (place + 1) now now_others
put_more texts text place cells now others now_others indexes apart lt read indexed = indexes texts apart (slice_get_read texts (length texts) place text refl lt read) indexed

-- the text in a cell to which a digest leads
pub first_entry : (texts : List (List ℕ)) (cells : Cells) (others : Others) (digest : ℕ) (e : Entry) (o : Option Entry) → IsWhole texts cells others → o ≡ first_of cells digest → o ≡ Some e → IsEntryIn texts e
first_entry texts cells others digest e o whole is some = whole.indexed.entry (first_cell_of digest (length cells)) e (sym is ∙ some)

pub second_entry : (texts : List (List ℕ)) (cells : Cells) (others : Others) (digest : ℕ) (e : Entry) (o : Option Entry) → IsWhole texts cells others → o ≡ second_of cells digest → o ≡ Some e → IsEntryIn texts e
second_entry texts cells others digest e o whole is some = whole.indexed.entry (second_cell_of digest (length cells)) e (sym is ∙ some)

-- a text whose first cell is free stands nowhere
pub absent_first : (texts : List (List ℕ)) (cells : Cells) (others : Others) (text : List ℕ) (digest : ℕ) → IsWhole texts cells others → digest ≡ digest_of text → first_of cells digest ≡ None → ¬ (StandsIn texts text)
absent_first texts cells others text digest whole is absent there =
    let held = whole.indexed.held text there.0 (slice_get_within texts there.0 text there.1) there.1 in
    nothing (first_of cells (digest_of text)) held.0 (ap (λ (d : ℕ). first_of cells d) (sym is) ∙ absent) held.1

-- a text that does not have its first cell is held later
later_held : (texts : List (List ℕ)) (cells : Cells) (others : Others) (text : List ℕ) (digest : ℕ) (one : Entry) → IsWhole texts cells others → digest ≡ digest_of text → first_of cells digest ≡ Some one
    → ¬ (slice_get texts one.place ≡ Some text) → (there : StandsIn texts text) → IsHeldLater cells others text there.0
later_held texts cells others text digest one whole is first differs there =
    by (held.2)
  where
    held : IsHeld cells others text there.0
    held = whole.indexed.held text there.0 (slice_get_within texts there.0 text there.1) there.1

    same : held.0 ≡ one
    same = one_entry held.0 one (sym held.1 ∙ (ap (λ (d : ℕ). first_of cells d) (sym is) ∙ first))

    by : (there.0 ≡ held.0.place) ⊎ IsHeldLater cells others text there.0 → IsHeldLater cells others text there.0
    by (inl e) = absurd (differs (ap (λ (n : ℕ). slice_get texts n) (sym (e ∙ ap (λ (x : Entry). x.place) same)) ∙ there.1))
    by (inr l) = l

pub absent_second : (texts : List (List ℕ)) (cells : Cells) (others : Others) (text : List ℕ) (digest : ℕ) (one : Entry) → IsWhole texts cells others → digest ≡ digest_of text → first_of cells digest ≡ Some one
    → ¬ (slice_get texts one.place ≡ Some text) → second_of cells digest ≡ None → ¬ (StandsIn texts text)
absent_second texts cells others text digest one whole is first differs absent there =
    let held = later_held texts cells others text digest one whole is first differs there in
    nothing (second_of cells (digest_of text)) held.0 (ap (λ (d : ℕ). second_of cells d) (sym is) ∙ absent) held.1

-- a text that has neither of its cells and no place in the tree stands nowhere
absent_other : (texts : List (List ℕ)) (cells : Cells) (others : Others) (text : List ℕ) (digest : ℕ) (one two : Entry) → IsWhole texts cells others → digest ≡ digest_of text → first_of cells digest ≡ Some one
    → ¬ (slice_get texts one.place ≡ Some text) → second_of cells digest ≡ Some two → ¬ (slice_get texts two.place ≡ Some text) → other_of others text ≡ None → ¬ (StandsIn texts text)
absent_other texts cells others text digest one two whole is first differs second differs2 absent there = by held.2
  where
    held : IsHeldLater cells others text there.0
    held = later_held texts cells others text digest one whole is first differs there

    same : held.0 ≡ two
    same = one_entry held.0 two (sym held.1 ∙ (ap (λ (d : ℕ). second_of cells d) (sym is) ∙ second))

    by : (there.0 ≡ held.0.place) ⊎ (other_of others text ≡ Some there.0) → ⊥
    by (inl e) = differs2 (ap (λ (n : ℕ). slice_get texts n) (sym (e ∙ ap (λ (x : Entry). x.place) same)) ∙ there.1)
    by (inr e) = nothing (other_of others text) there.0 absent e

-- the place that the tree has for a text
pub found_other : (texts : List (List ℕ)) (cells : Cells) (others : Others) (text : List ℕ) (o : Option ℕ) → IsWhole texts cells others → o ≡ other_of others text → IfSome o (λ place. slice_get texts place ≡ Some text)
found_other texts cells others text None whole e = tt
found_other texts cells others text (Some i) whole e = whole.indexed.other text i (sym e)

pub not_found_other : (texts : List (List ℕ)) (cells : Cells) (others : Others) (text : List ℕ) (digest : ℕ) (one two : Entry) (o : Option ℕ) → IsWhole texts cells others → digest ≡ digest_of text
    → first_of cells digest ≡ Some one → ¬ (slice_get texts one.place ≡ Some text) → second_of cells digest ≡ Some two → ¬ (slice_get texts two.place ≡ Some text)
    → o ≡ other_of others text → IfNone o (¬ (StandsIn texts text))
not_found_other texts cells others text digest one two None whole is first differs second differs2 e = absent_other texts cells others text digest one two whole is first differs second differs2 (sym e)
not_found_other texts cells others text digest one two (Some _) whole is first differs second differs2 e = tt

-- an entry whose half is another one's is that of another text
pub other_half : (texts : List (List ℕ)) (e : Entry) (text : List ℕ) (half : ℕ) → IsEntryIn texts e → half ≡ digest_of text / 2 ^ 32 → ¬ (e.half ≡ half) → ¬ (slice_get texts e.place ≡ Some text)
other_half texts e text half entry is differs at = differs (entry.2 ∙ (ap (λ (t : List ℕ). digest_of t / 2 ^ 32) (one_text entry.0 text (sym entry.1 ∙ at)) ∙ sym is))

-- the text that is read at an entry's place
pub entry_text : (texts : List (List ℕ)) (e : Entry) (text : List ℕ) → IsEntryIn texts e → text ≡ get_or texts e.place text → slice_get texts e.place ≡ Some text
entry_text texts e text entry read = slice_get_read texts (length texts) e.place text refl (slice_get_within texts e.place entry.0 entry.1) read

-- what the test of two lists of units says
pub same_text : (stored units text : List ℕ) {b : Bool} → units ≡ stored → b ≡ bytes_eq units text → b ≡ true → stored ≡ text
same_text stored units text is tested y = sym is ∙ (bytes_decides units text).0 (sym tested ∙ y)

pub other_text : (stored units text : List ℕ) {b : Bool} → units ≡ stored → b ≡ bytes_eq units text → b ≡ false → ¬ (stored ≡ text)
other_text stored units text is tested n same = false≢true (sym n ∙ tested ∙ (bytes_decides units text).1 (is ∙ same))

-- a cell is free, or taken
pub was_free : (o : Option Entry) (b : Bool) → is_some o ≡ not b → b ≡ true → o ≡ None
was_free None b e h = refl
was_free (Some x) b e h = absurd (false≢true (sym (e ∙ ap not h)))

pub was_taken : (o : Option Entry) (b : Bool) → is_some o ≡ not b → b ≡ false → IsSome o
was_taken o b e h = e ∙ ap not h
