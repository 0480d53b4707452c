-- What the steps of a track do to its log, in texts, and what stays.
use Rattle.std.proofs.Common.{◌≡◌, ℕ, ◌+◌, ◌<◌, zero, suc, List, [], ◌∷◌, ◌++◌, length, map, slice_get, refl, sym, ap, ◌∙◌, arith, Option, Some, None}
use Rattle.std.proofs.Common.{length-append}
use Rattle.std.proofs.lemmas.List.{map-append, length-map}
use Rattle.script_grammar.specs.Interpretation.{Interpretation}
use Rattle.parse_track.specs.declared.region.Region.{Region}
use Rattle.parse_track.specs.Told as told
use Rattle.parse_track.specs.Told.{Told, nothing, leaf, inner}
use Rattle.parse_track.specs.Log.{Item, Leaf, Inner, Part, Log, add, tell, with_leaf, entered, left, around_at, around_of, region_of}
use Rattle.parse_track.proofs.Order.{length-tell}
use Rattle.track_log_laws.specs.Spelled.{TextItem, TextLeaf, TextInner, TextPart, TextLog, item_text, part_text, leaf_text, region_text, log_text, put, put_in, with_text, opened}
use Rattle.parse_track_pieces.specs.Walks.{Stays}

module _ (i : Interpretation) where
  add_text : (item : Item) (n : ℕ) (ps : List Part) → map (part_text i) (add item n ps) ≡ put (item_text i item) n (map (part_text i) ps)
  add_text item n [] = refl
  add_text item zero (p ∷ ps) =
      ap (λ (xs : List TextItem). record { kind = region_text i (region_of p.kind); at = p.at; around = p.around; items = xs } ∷ map (part_text i) ps) (map-append (item_text i) p.items (item ∷ []))
  add_text item (suc n) (p ∷ ps) = ap (λ xs. part_text i p ∷ xs) (add_text item n ps)

  tell_text : (at : Option ℕ) (item : Item) (ps : List Part) → map (part_text i) (tell at item ps) ≡ put_in at (item_text i item) (map (part_text i) ps)
  tell_text None item ps = refl
  tell_text (Some n) item ps = add_text item n ps

  log_as : (present : Option ℕ) (ps qs : List TextPart) → ps ≡ qs → ◌≡◌ {A = TextLog} (record { parts = ps; present = present }) (record { parts = qs; present = present })
  log_as present ps qs e = ap (λ (xs : List TextPart). record { parts = xs; present = present }) e

  pub leaf_logged : (log : Log) (l : told.Leaf ℕ) → log_text i (with_leaf log l) ≡ with_text (log_text i log) (leaf_text i l)
  leaf_logged log l = log_as log.present (map (part_text i) (tell log.present (Leaf l) log.parts)) (put_in log.present (TextLeaf (leaf_text i l)) (map (part_text i) log.parts)) (tell_text log.present (Leaf l) log.parts)

  opened_parts : (log : Log) (kind : Region) (at n : ℕ) → n ≡ length log.parts
      → map (part_text i) (tell log.present (Inner (length log.parts)) log.parts ++ record { kind = kind; at = at; around = log.present; items = [] } ∷ [])
      ≡ put_in log.present (TextInner n) (map (part_text i) log.parts) ++ record { kind = region_text i (region_of kind); at = at; around = log.present; items = [] } ∷ []
  opened_parts log kind at n e =
      map-append (part_text i) (tell log.present (Inner (length log.parts)) log.parts) (record { kind = kind; at = at; around = log.present; items = [] } ∷ [])
      ∙ ap (λ (xs : List TextPart). xs ++ record { kind = region_text i (region_of kind); at = at; around = log.present; items = [] } ∷ [])
      (tell_text log.present (Inner (length log.parts)) log.parts ∙ ap (λ (k : ℕ). put_in log.present (TextInner k) (map (part_text i) log.parts)) (sym e))

  pub region_logged : (log : Log) (kind : Region) (at : ℕ) → log_text i (entered log kind at) ≡ opened (log_text i log) (region_text i (region_of kind)) at
  region_logged log kind at =
      let e : length (map (part_text i) log.parts) ≡ length log.parts = length-map log.parts (part_text i) in
      ap (λ (ps : List TextPart). record { parts = ps; present = Some (length log.parts) }) (opened_parts log kind at (length (map (part_text i) log.parts)) e)
      ∙ ap (λ (n : ℕ). record { parts = put_in log.present (TextInner (length (map (part_text i) log.parts))) (map (part_text i) log.parts) ++ record { kind = region_text i (region_of kind); at = at; around = log.present; items = [] } ∷ []; present = Some n }) (sym e)

-- what stays

pub stays : (a : Log) → Stays a a
stays a = record { known = refl; noted = refl; present = refl; count = omega arith; around = λ n h. refl }

pub stays_then : (a b c : Log) → Stays a b → Stays b c → Stays a c
stays_then a b c s r = record {
  known = r.known ∙ s.known;
  noted = r.noted ∙ s.noted;
  present = r.present ∙ s.present;
  count = let x = s.count in let y = r.count in omega arith;
  around = λ n h. r.around n (let x = s.count in omega arith) ∙ s.around n h;
}

around_add : (item : Item) (m n : ℕ) (ps : List Part) → around_of (slice_get (add item m ps) n) ≡ around_of (slice_get ps n)
around_add item m n [] = refl
around_add item zero zero (p ∷ ps) = refl
around_add item zero (suc n) (p ∷ ps) = refl
around_add item (suc m) zero (p ∷ ps) = refl
around_add item (suc m) (suc n) (p ∷ ps) = around_add item m n ps

around_tell : (at : Option ℕ) (item : Item) (n : ℕ) (ps : List Part) → around_of (slice_get (tell at item ps) n) ≡ around_of (slice_get ps n)
around_tell None item n ps = refl
around_tell (Some m) item n ps = around_add item m n ps

around_front : (ps qs : List Part) (n : ℕ) → n < length ps → around_of (slice_get (ps ++ qs) n) ≡ around_of (slice_get ps n)
around_front [] qs n h = absurd (omega arith)
around_front (p ∷ ps) qs zero h = refl
around_front (p ∷ ps) qs (suc n) h = let h' : n < length ps = omega arith in around_front ps qs n h'

around_last : (ps : List Part) (q : Part) → around_of (slice_get (ps ++ q ∷ []) (length ps)) ≡ q.around
around_last [] q = refl
around_last (p ∷ ps) q = around_last ps q

pub leaf_stays : (a : Log) (l : told.Leaf ℕ) → Stays a (with_leaf a l)
leaf_stays a l = record {
  known = refl;
  noted = refl;
  present = refl;
  count = let e = length-tell a.present (Leaf l) a.parts in omega arith;
  around = λ n h. around_tell a.present (Leaf l) n a.parts;
}

module _ (a : Log) (kind : Region) (at : ℕ) where
  new_part : Part
  new_part = record { kind = kind; at = at; around = a.present; items = [] }

  pub count_entered : length (entered a kind at).parts ≡ length a.parts + 1
  count_entered =
      let e = length-tell a.present (Inner (length a.parts)) a.parts in
      length-append (tell a.present (Inner (length a.parts)) a.parts) (record { kind = kind; at = at; around = a.present; items = [] } ∷ []) ∙ ap (λ (n : ℕ). n + 1) e

  around_entered : around_at (Some (length a.parts)) (entered a kind at).parts ≡ a.present
  around_entered =
      let ps = tell a.present (Inner (length a.parts)) a.parts in
      ap (λ (n : ℕ). around_of (slice_get (entered a kind at).parts n)) (sym (length-tell a.present (Inner (length a.parts)) a.parts))
      ∙ around_last ps (record { kind = kind; at = at; around = a.present; items = [] })

  around_before : (n : ℕ) → n < length a.parts → around_at (Some n) (entered a kind at).parts ≡ around_at (Some n) a.parts
  around_before n h =
      let ps = tell a.present (Inner (length a.parts)) a.parts in
      around_front ps (record { kind = kind; at = at; around = a.present; items = [] } ∷ []) n (let e = length-tell a.present (Inner (length a.parts)) a.parts in omega arith)
      ∙ around_tell a.present (Inner (length a.parts)) n a.parts

  -- the present region after a region inside is the one before it
  pub present_left : (n : Log) → Stays (entered a kind at) n → (left n).present ≡ a.present
  present_left n s =
      ap (λ (p : Option ℕ). around_at p n.parts) s.present
      ∙ (s.around (length a.parts) (let e = count_entered in omega arith) ∙ around_entered)

  pub region_stays : (n : Log) → Stays (entered a kind at) n → Stays a (left n)
  region_stays n s = record {
    known = s.known;
    noted = s.noted;
    present = present_left n s;
    count = let e = count_entered in let c = s.count in omega arith;
    around = λ k h. s.around k (let e = count_entered in omega arith) ∙ around_before k h;
  }

  pub is_present : (n : Log) → Stays (entered a kind at) n → n.present ≡ Some (length a.parts)
  is_present n s = s.present
