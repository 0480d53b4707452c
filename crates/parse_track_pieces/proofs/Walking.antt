-- How walks over pieces make a walk over the whole.
use Rattle.std.proofs.Common.{true, ◌≡◌, ◌∙◌, ℕ, ◌+◌, ◌-◌, ◌*◌, ◌≤◌, take, Option, Some, None, IsSome, option_map, List, [], ◌∷◌, ◌++◌, codes, refl, sym, ap, subst, arith, reverse}
use Rattle.std.specs.Prelude.{MatchOption, option_to_list}
use Rattle.std.proofs.lemmas.List.{reverse-append, append-nil}
use Rattle.script_grammar.specs.Interpretation.{Interpretation, text_of, maybe_named}
use Rattle.script_grammar.specs.declared.tree.Ident.{Ident}
use Rattle.script_grammar.specs.Shows.{ShowAll}
use Rattle.script_grammar.specs.Braced.{in_stmts}
use Rattle.script_grammar.specs.Tree.{Stmts}
use Rattle.parse_track.specs.declared.region.Region.{Region}
use Rattle.parse_track.specs.declared.region.WellKnownAtoms.{WellKnownAtoms}
use Rattle.parse_track.specs.Told as told
use Rattle.parse_track.specs.Told.{Told, nothing, leaf, inner}
use Rattle.parse_track.specs.Log.{Log, with_leaf, entered, left, region_of, label_of}
use Rattle.parse_track.specs.Tells.{Text, spelled_label}
use Rattle.track_log_laws.specs.Spelled.{TextLog, name_text, leaf_text, region_text, log_text, logged}
use Rattle.parse_track_pieces.specs.declared.piece.Piece.{Piece, size-Piece}
use Rattle.parse_track_pieces.specs.Pieces.{Rest, telling, says_region, says_passed, says_read, piece_says, pieces_say}
use Rattle.parse_track_pieces.specs.Says.{AreWanted, SaysBody}
use Rattle.parse_track_pieces.specs.Walks.{KnowsThis, Stays, AtHand, Walks}
use Rattle.parse_track_pieces.specs.Weight.{weight}
use Rattle.parse_track_pieces.proofs.Appending.{appended}
use Rattle.parse_track_pieces.proofs.Logs.{leaf_logged, region_logged, present_left, region_stays, leaf_stays, stays, stays_then}

-- what stays

pub leaf_stays_as : {a b : Log} (l : told.Leaf ℕ) → b ≡ with_leaf a l → Stays a b
leaf_stays_as {a = a} l e = subst (λ (o : Log). Stays a o) (sym e) (leaf_stays a l)

pub region_stays_as : {a m n b : Log} (kind : Region) (at : ℕ) → m ≡ entered a kind at → Stays m n → b ≡ left n → Stays a b
region_stays_as {a = a} {n = n} kind at e s d =
    subst (λ (o : Log). Stays a o) (sym d) (region_stays a kind at n (subst (λ (o : Log). Stays o n) e s))

present_some : {p : Option ℕ} {n : ℕ} → p ≡ Some n → IsSome p
present_some e = subst (λ (o : Option ℕ). IsSome o) (sym e) refl

pub present_behind : {m x b : Log} {n : ℕ} → m ≡ x → x.present ≡ Some n → Stays m b → IsSome b.present
present_behind e p s = present_some (s.present ∙ (ap (λ (o : Log). o.present) e ∙ p))

-- the bodies at hand

pub weight_push : (xs : List Piece) (v : Piece) → weight (xs ++ v ∷ []) ≡ weight xs + (6 * size-Piece v + 6)
weight_push [] v = omega arith
weight_push (x ∷ xs) v = omega (arith, weight_push xs v)

pub at_hand_push : (i : Interpretation) (before xs : List Piece) (v : Piece) (all : List Stmts) → before ≡ xs ++ v ∷ [] → AtHand i before all → ShowAll (SaysBody i) (v ∷ reverse xs) all
at_hand_push i before xs v all e h = subst (λ (ps : List Piece). ShowAll (SaysBody i) ps all) (ap (λ (ps : List Piece). reverse ps) e ∙ reverse-append xs (v ∷ [])) h

-- no body is left
pub none_left : (old new : List Piece) (n : ℕ) → old ≡ new ++ [] → new ≡ take (n - 1) old → n ≡ 0 → old ≡ []
none_left old new n e r z = e ∙ ap (λ (l : List Piece). l ++ []) (r ∙ ap (λ (k : ℕ). take (k - 1) old) z)

-- what is left is no heavier
pub popped_lighter : (o : Option Piece) (before xs : List Piece) → before ≡ xs ++ option_to_list o → weight xs ≤ weight before
popped_lighter None before xs e = let w : weight before ≡ weight xs = ap weight (e ∙ append-nil xs) in omega (arith, w)
popped_lighter (Some v) before xs e = let w : weight before ≡ weight xs + (6 * size-Piece v + 6) = ap weight e ∙ weight_push xs v in omega (arith, w)

module _ (i : Interpretation) where
  pub knows_still : (a b : Log) → Stays a b → KnowsThis i a → KnowsThis i b
  knows_still a b s k = ap (λ (known : WellKnownAtoms). text_of i known.this) s.known ∙ k

  -- the same of what says the same
  pub walk_as : {a b : Log} {x y : List Piece} {f g : Rest → Rest} → ((rest : Rest) → f rest ≡ g rest) → Walks i a b x y g → Walks i a b x y f
  walk_as {a = a} e h = record {
    told = λ k rest all w hand.
        let u = h.told k rest all (subst (λ (r : Rest). AreWanted r.bodies all) (e rest) w) hand in
        (u.0, u.1, u.2, ap (λ (r : Rest). logged r.told (log_text i a)) (e rest) ∙ u.3);
  }

  pub walk_leaf : {a b : Log} (x : List Piece) (l : told.Leaf ℕ) → b ≡ with_leaf a l → Walks i a b x x (λ rest. telling rest (leaf (leaf_text i l) rest.told))
  walk_leaf {a = a} x l e = record {
    told = λ k rest all w hand. (all, w, hand, ap (logged rest.told) (sym (leaf_logged i a l)) ∙ ap (λ (y : Log). logged rest.told (log_text i y)) (sym e));
  }

  pub walk_this : {a b : Log} (x : List Piece) → b ≡ with_leaf a (told.Used a.known.this) → Walks i a b x x (λ rest. telling rest (leaf (told.Used (codes ".this")) rest.told))
  walk_this {a = a} x e = record {
    told = λ k rest all w hand.
        let u = (walk_leaf x (told.Used a.known.this) e).told k rest all w hand in
        (u.0, u.1, u.2, ap (λ (text : Text). logged (leaf (told.Used text) rest.told) (log_text i a)) (sym k) ∙ u.3);
  }

  -- a region is entered, filled and left
  pub walk_region : {a m n b : Log} {x y : List Piece} {f : Rest → Rest} (kind : Region) (at : ℕ)
      → m ≡ entered a kind at → Stays m n → Walks i m n x y f → b ≡ left n → Walks i a b x y (says_region (region_text i (region_of kind)) at f)
  walk_region {a = a} {n = n} {b = b} {x = x} {y = y} {f = f} kind at e s h d =
      let s' = subst (λ (o : Log). Stays o n) e s in
      let h' = subst (λ (o : Log). Walks i o n x y f) e h in
      record {
        told = λ k rest all w hand.
            let u = h'.told k (telling rest nothing) all w hand in (
              u.0,
              u.1,
              u.2,
              ap (λ (o : TextLog). logged rest.told (record { parts = (logged (f (telling rest nothing)).told o).parts; present = a.present })) (sym (region_logged i a kind at))
                  ∙ (ap (λ (o : TextLog). logged rest.told (record { parts = o.parts; present = a.present })) u.3
                  ∙ (ap (λ (p : Option ℕ). logged rest.told (record { parts = (log_text i n).parts; present = p })) (sym (present_left a kind at n s'))
                  ∙ ap (λ (o : Log). logged rest.told (log_text i o)) (sym d))),
            );
      }

  -- nothing is told
  pub walk_nothing : (a : Log) (x : List Piece) → Walks i a a x x (λ rest. rest)
  walk_nothing a x = record { told = λ k rest all w hand. (all, w, hand, refl) }

  -- one is told after another
  pub walk_then : {a b c : Log} {x y z : List Piece} {f g : Rest → Rest} → Stays a b → Walks i a b x y f → Walks i b c y z g → Walks i a c x z (λ rest. f (g rest))
  walk_then {a = a} {b = b} {g = g} s v w = record {
    told = λ k rest all wanted hand.
        let u = v.told k (g rest) all wanted hand in
        let t = w.told (knows_still a b s k) rest u.0 u.1 u.2 in
        (t.0, t.1, t.2, u.3 ∙ t.3);
  }

  -- the next body is taken
  pub walk_passed : {a b : Log} {before xs after : List Piece} (v : Piece) (start : ℕ) → before ≡ xs ++ v ∷ [] → Walks i a b xs after (piece_says i v) → Walks i a b before after (says_passed i start)
  walk_passed {a = a} {before = before} {xs = xs} v start e h = record {
    told = λ k rest all w hand.
        let shown = subst (λ (ss : List Stmts). ShowAll (SaysBody i) (v ∷ reverse xs) ss) w.1 (at_hand_push i before xs v all e hand) in
        let says = shown.0.holds rest w.0 w.2 in
        let u = h.told k rest (in_stmts true (i.bodies start) w.0) says.1 shown.1 in
        (u.0, u.1, u.2, ap (λ (t : Told Text). logged t (log_text i a)) (sym says.0) ∙ u.3);
  }

  -- there is none, where one is wanted
  pub walk_none : {a b : Log} {before after : List Piece} (start : ℕ) → before ≡ [] → Walks i a b before after (says_passed i start)
  walk_none {before = before} start e = record {
    told = λ k rest all w hand.
        absurd (subst (λ (ss : List Stmts). ShowAll (SaysBody i) [] ss) w.1 (subst (λ (ps : List Piece). AtHand i ps all) e hand));
  }

  -- the next body is passed over, and this is told
  pub walk_read : {a b : Log} {before xs after : List Piece} {f : Rest → Rest} (v : Piece) → before ≡ xs ++ v ∷ [] → Walks i a b xs after f → Walks i a b before after (says_read f)
  walk_read {before = before} {xs = xs} v e h = record {
    told = λ k rest all w hand.
        let shown = subst (λ (ss : List Stmts). ShowAll (SaysBody i) (v ∷ reverse xs) ss) w.2 (at_hand_push i before xs v all e hand) in
        h.told k rest w.1 w.3 shown.1;
  }

  pub walk_unread : {a b : Log} {before after : List Piece} {f : Rest → Rest} → before ≡ [] → Walks i a b before after (says_read f)
  walk_unread {before = before} e = record {
    told = λ k rest all w hand.
        absurd (subst (λ (ss : List Stmts). ShowAll (SaysBody i) [] ss) w.2 (subst (λ (ps : List Piece). AtHand i ps all) e hand));
  }

  -- a body is passed over where one is left
  pub walk_popped : {a b : Log} {after : List Piece} {f : Rest → Rest} (A : Type 0) (P : Piece → Type 0) (o : Option Piece) (before xs : List Piece) (n : ℕ) → before ≡ xs ++ option_to_list o → xs ≡ take (n - 1) before
      → MatchOption o ((n ≡ 0) × A) P → Walks i a b xs after f → Walks i a b before after (says_read f)
  walk_popped A P None before xs n e r c h = walk_unread (none_left before xs n e r c.0)
  walk_popped A P (Some v) before xs n e r c h = walk_read v e h

  -- the label of a jump
  pub label_text : (label : Option Ident) → option_map (name_text i) (label_of label) ≡ spelled_label (maybe_named i label)
  label_text None = refl
  label_text (Some label) = refl

-- These pieces have been told.
pub record Turn (a b : Log) (x y : List Piece) (done : List Piece) : Type 0 where
  pub stays : Stays a b
  pub lighter : weight y ≤ weight x
  pub walks : (i : Interpretation) → Walks i a b x y (pieces_say i done)

pub turn_begin : (a : Log) (x : List Piece) → Turn a a x x []
turn_begin a x = record { stays = stays a; lighter = omega arith; walks = λ i. walk_as i (λ rest. refl) (walk_nothing i a x) }

pub turn_next : {a b c : Log} {x y z : List Piece} (done : List Piece) (item : Piece) → Stays b c → weight z ≤ weight y
    → ((i : Interpretation) → Walks i b c y z (piece_says i item)) → Turn a b x y done → Turn a c x z (done ++ item ∷ [])
turn_next {a = a} {b = b} {c = c} done item s l w turn = record {
  stays = stays_then a b c turn.stays s;
  lighter = let l' = turn.lighter in omega arith;
  walks = λ i. walk_as i (appended i done item (done ++ item ∷ []) refl) (walk_then i turn.stays (turn.walks i) (w i));
}

pub turn_end : {a b : Log} {x y : List Piece} {all done : List Piece} → done ≡ all → Turn a b x y done → (i : Interpretation) → Walks i a b x y (pieces_say i all)
turn_end e turn i = walk_as i (λ rest. ap (λ (ps : List Piece). pieces_say i ps rest) (sym e)) (turn.walks i)
