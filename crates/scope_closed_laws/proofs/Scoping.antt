-- The closed names of scopes, and of the regions that are those scopes.
use Rattle.std.proofs.Common.{◌≡◌, ℕ, ◌+◌, Bool, true, false, cond, if◌then◌else◌, ◌||◌, ◌&&◌, not, bytes_eq, Option, None, List, [], ◌∷◌, ◌++◌, map, filter, length, refl, sym, ap, ap₂, ◌∙◌, suc, append_assoc, append-nil, zero-add, add-zero, one-add, add_assoc, arith}
use Rattle.std.proofs.lemmas.List.{length-append, map-append}
use Rattle.std.proofs.lemmas.List.Elements.{filter-append, filter_agree}
use Rattle.std.specs.Cmp.Lexicographic.{bytes_decides}
use Rattle.stencil_data.specs.declared.scopes.BindKind.{BindKind}
use Rattle.stencil_data.specs.declared.scopes.BindKind.TheVariants as bind
use Rattle.stencil_data.specs.declared.scopes.ScopeKind.{ScopeKind}
use Rattle.stencil_data.specs.declared.scopes.Slot.{Slot}
use Rattle.stencil_data.specs.declared.scopes.Slot.TheVariants as slot
use Rattle.stencil_data.specs.Named.{NamedScope, NamedClosed}
use Rattle.stencil_data.specs.Resolve.{is_global}
use Rattle.stencil_data.specs.Slots.{Unplaced, is_param, takes_frame, own_slot, slot_of, slots_from}
use Rattle.parse_track.specs.Told.{Name, Region, Told, nothing, inner}
use Rattle.parse_track.specs.RegionNames.{is_lambda}
use Rattle.parse_track.specs.EarlyErrors.{has, has_name, repeated}
use Rattle.parse_track.specs.ClosedNames.{Bound, names_of, without, distinct, scope_if_any, joined, reached, bound_in, bound_by, kept}
use Rattle.parse_track.specs.Tells.{Text, known_texts}
use Rattle.scope_analysis.specs.DeclaredNames.{Declaration, has_text, texts_of}
use Rattle.scope_analysis.specs.Scopes.{Within, unplaced, placed, scope_of, inside, behind, scope_and, scope_around, scope_count}
use Rattle.scope_analysis.specs.Closed.{is_env, closed_bindings, closed_from}
use Rattle.scope_closed_laws.specs.Handed.{placed_name}
use Rattle.scope_closed_laws.proofs.Texts.{has-append, has-without}
use Rattle.scope_closed_laws.proofs.Own.{scopes_in, reaches_in, count_in, picked_in, own}
use Rattle.scope_closed_laws.proofs.Quiet.{Quiet}
use Rattle.scope_closed_laws.proofs.Declaring.{IsPlain}

-- of these names in a scope of this number those that pass
abbrev pub picks : ℕ → (Text → Bool) → List Text → List NamedClosed
picks n passes xs = map (λ (x : Text). record { scope = n; text = x }) (filter passes xs)

pub picks-append : (n : ℕ) (passes : Text → Bool) (xs ys : List Text) → picks n passes (xs ++ ys) ≡ picks n passes xs ++ picks n passes ys
picks-append n passes xs ys =
    ap (map (λ (x : Text). record { scope = n; text = x })) (filter-append passes xs ys) ∙ map-append (λ (x : Text). record { scope = n; text = x }) (filter passes xs) (filter passes ys)

pub picks_agree : (n : ℕ) (p q : Text → Bool) (xs : List Text) → ((x : Text) → p x ≡ q x) → picks n p xs ≡ picks n q xs
picks_agree n p q xs e = ap (map (λ (x : Text). record { scope = n; text = x })) (filter_agree p q e xs)

-- ---- the scopes of a function

own_slot_env : (kind : BindKind) (arg frame : ℕ) → is_env (own_slot kind arg frame) ≡ false
own_slot_env bind.Param arg frame = refl
own_slot_env bind.Callee arg frame = refl
own_slot_env _ arg frame = refl

slot_env : (kind : ScopeKind) (env arg frame : ℕ) (b : Unplaced) → is_global kind ≡ false → is_env (slot_of kind env arg frame b) ≡ b.closed
slot_env kind env arg frame b e = ap (λ (g : Bool). is_env (if g then slot.Global else (if b.closed then slot.Env env else own_slot b.kind arg frame))) e ∙ by b.closed where
  by : (c : Bool) → is_env (if c then slot.Env env else own_slot b.kind arg frame) ≡ c
  by true = refl
  by false = own_slot_env b.kind arg frame

closed_step : (n : ℕ) (t : Text) (passes : Text → Bool) (c : Bool) (rest : List NamedClosed) (ts : List Text) → passes t ≡ c → rest ≡ picks n passes ts
    → ((if c then record { scope = n; text = t } ∷ [] else []) ++ rest) ≡ picks n passes (t ∷ ts)
closed_step n t passes true rest ts e h =
    ap (λ us. record { scope = n; text = t } ∷ us) h ∙ sym (ap (λ (b : Bool). map (λ (x : Text). record { scope = n; text = x }) (cond b (t ∷ filter passes ts) (filter passes ts))) e)
closed_step n t passes false rest ts e h = h ∙ sym (ap (λ (b : Bool). map (λ (x : Text). record { scope = n; text = x }) (cond b (t ∷ filter passes ts) (filter passes ts))) e)

bindings_closed : (n : ℕ) (kind : ScopeKind) (uses : List Text) → is_global kind ≡ false → (ds : List Declaration) (env arg frame : ℕ)
    → closed_bindings n (placed ds (slots_from kind env arg frame (unplaced uses ds))) ≡ picks n (has_text uses) (texts_of ds)
bindings_closed n kind uses e [] env arg frame = refl
bindings_closed n kind uses e (d ∷ ds) env arg frame =
    ap (λ (c : Bool). (if c then record { scope = n; text = d.text } ∷ [] else []) ++ closed_bindings n (placed ds (rest_slots)))
    (slot_env kind env arg frame (record { kind = d.kind; closed = has_text uses d.text }) e)
    ∙ closed_step n d.text (has_text uses) (has_text uses d.text) _ (texts_of ds) refl (bindings_closed n kind uses e ds _ _ _)
  where
    rest_slots : List Slot
    rest_slots = slots_from kind (env + (if has_text uses d.text then 1 else 0)) (arg + (if is_param d.kind then 1 else 0))
        (frame + (if takes_frame (slot_of kind env arg frame (record { kind = d.kind; closed = has_text uses d.text })) then 1 else 0)) (unplaced uses ds)

pub scope_closed : (n : ℕ) (kind : ScopeKind) (parent : Option ℕ) (frame : ℕ) (ds : List Declaration) (uses : List Text) (ss : List NamedScope) → is_global kind ≡ false
    → closed_from n (scope_of kind parent frame ds uses ∷ ss) ≡ picks n (has_text uses) (texts_of ds) ++ closed_from (n + 1) ss
scope_closed n kind parent frame ds uses ss e = ap (λ us. us ++ closed_from (n + 1) ss) (bindings_closed n kind uses e ds 0 0 frame)

pub and_closed : (n : ℕ) (w : Within) (kind : ScopeKind) (ds : List Declaration) (uses : List Text) (content : Within → List NamedScope) (of : ℕ → List NamedClosed) → is_global kind ≡ false
    → ((m : ℕ) (v : Within) → closed_from m (content v) ≡ of m) → closed_from n (scope_and kind ds uses content w) ≡ picks n (has_text uses) (texts_of ds) ++ of (n + 1)
and_closed n w kind ds uses content of e h =
    scope_closed n kind w.parent w.frame ds uses (content (inside kind ds uses w)) e ∙ ap (λ us. picks n (has_text uses) (texts_of ds) ++ us) (h (n + 1) (inside kind ds uses w))

pub around_closed : (n : ℕ) (w : Within) (kind : ScopeKind) (ds : List Declaration) (uses : List Text) (content : Within → List NamedScope) (of : ℕ → List NamedClosed) → is_global kind ≡ false
    → ((m : ℕ) (v : Within) → closed_from m (content v) ≡ of m) → closed_from n (scope_around kind ds uses content w) ≡ picks n (has_text uses) (texts_of ds) ++ of (n + scope_count ds)
around_closed n w kind [] uses content of e h = h n w ∙ ap of (sym (add-zero n))
around_closed n w kind (d ∷ ds) uses content of e h = and_closed n w kind (d ∷ ds) uses content of e h

pub around_long : (w : Within) (kind : ScopeKind) (ds : List Declaration) (uses : List Text) (content : Within → List NamedScope) (c : ℕ) → ((v : Within) → length (content v) ≡ c) → length (scope_around kind ds uses content w) ≡ scope_count ds + c
around_long w kind [] uses content c h = h w ∙ sym (zero-add c)
around_long w kind (d ∷ ds) uses content c h = ap suc (h (inside kind (d ∷ ds) uses w)) ∙ sym (one-add c)

pub closed_from-append : (n : ℕ) (ss rs : List NamedScope) → closed_from n (ss ++ rs) ≡ closed_from n ss ++ closed_from (n + length ss) rs
closed_from-append n [] rs = ap (λ (m : ℕ). closed_from m rs) (sym (add-zero n))
closed_from-append n (s ∷ ss) rs =
    ap (λ us. closed_bindings n s.bindings ++ us) (closed_from-append (n + 1) ss rs ∙ ap (λ (m : ℕ). closed_from (n + 1) ss ++ closed_from m rs) (omega arith))
    ∙ sym (append_assoc (closed_bindings n s.bindings) (closed_from (n + 1) ss) (closed_from (n + suc (length ss)) rs))

-- ---- what is told

-- no name stands twice
abbrev pub Once : List Text → Type 0
Once [] = Unit {0}
Once (x ∷ xs) = (has bytes_eq x xs ≡ false) × Once xs

abbrev pub AllOnce : List (List Text) → Type 0
AllOnce [] = Unit {0}
AllOnce (xs ∷ xss) = Once xs × AllOnce xss

-- of scopes one in another, each name that no scope further in has too
abbrev pub picks_by : ℕ → (Text → Bool) → List (List Text) → List NamedClosed
picks_by n passes [] = []
picks_by n passes (xs ∷ xss) = picks n (λ (x : Text). not (has bytes_eq x (joined xss)) && passes x) xs ++ picks_by (n + 1) passes xss

kept_step : (n : ℕ) (x : Text) (passes : Text → Bool) (c : Bool) (fs : List Bool) (bs : List (Bound Text)) (xs : List Text) (later : List NamedClosed) → passes x ≡ c
    → map placed_name (kept fs bs) ≡ picks n passes xs ++ later
    → map placed_name (kept (c ∷ fs) (record { func = None; scope = n; name = x } ∷ bs)) ≡ picks n passes (x ∷ xs) ++ later
kept_step n x passes true fs bs xs later e h =
    ap (λ us. record { scope = n; text = x } ∷ us) h
    ∙ sym (ap (λ (b : Bool). map (λ (y : Text). record { scope = n; text = y }) (cond b (x ∷ filter passes xs) (filter passes xs)) ++ later) e)
kept_step n x passes false fs bs xs later e h = h ∙ sym (ap (λ (b : Bool). map (λ (y : Text). record { scope = n; text = y }) (cond b (x ∷ filter passes xs) (filter passes xs)) ++ later) e)

module _ (k : Region Text) (i : Told Text) where
  abbrev pub reached_by : Text → Bool
  reached_by x = reaches_in (is_lambda k) false x i

  first_scope : (n : ℕ) (xs ys : List Text) (bs : List (Bound Text)) → Once xs
      → map placed_name (kept (reached bytes_eq known_texts k i (xs ++ ys)) (bound_in None n xs ++ bs))
      ≡ picks n (λ (x : Text). not (has bytes_eq x ys) && reached_by x) xs ++ map placed_name (kept (reached bytes_eq known_texts k i ys) bs)
  first_scope n [] ys bs o = refl
  first_scope n (x ∷ xs) ys bs o =
      ap (λ (c : Bool). map placed_name (kept ((not c && reached_by x) ∷ reached bytes_eq known_texts k i (xs ++ ys)) (record { func = None; scope = n; name = x } ∷ (bound_in None n xs ++ bs))))
      (has-append x xs ys ∙ ap (λ (c : Bool). c || has bytes_eq x ys) o.0)
      ∙ kept_step n x (λ (y : Text). not (has bytes_eq y ys) && reached_by y) (not (has bytes_eq x ys) && reached_by x) (reached bytes_eq known_texts k i (xs ++ ys)) (bound_in None n xs ++ bs) xs
      (map placed_name (kept (reached bytes_eq known_texts k i ys) bs)) refl (first_scope n xs ys bs o.1)

  scopes_picked : (n : ℕ) (xss : List (List Text)) → AllOnce xss → map placed_name (kept (reached bytes_eq known_texts k i (joined xss)) (bound_by None n xss)) ≡ picks_by n reached_by xss
  scopes_picked n [] o = refl
  scopes_picked n (xs ∷ xss) o =
      first_scope n xs (joined xss) (bound_by None (n + 1) xss) o.0
      ∙ ap (λ us. picks n (λ (x : Text). not (has bytes_eq x (joined xss)) && reached_by x) xs ++ us) (scopes_picked (n + 1) xss o.1)

  pub region_picks : (n : ℕ) (xss : List (List Text)) → scopes_in k i ≡ xss → AllOnce xss → picked_in n k i ≡ picks_by n reached_by xss
  region_picks n xss e o = ap (λ yss. map placed_name (kept (reached bytes_eq known_texts k i (joined yss)) (bound_by None n yss))) e ∙ scopes_picked n xss o

pub picks_any : (n : ℕ) (passes : Text → Bool) (xs : List Text) (xss : List (List Text))
    → picks_by n passes (scope_if_any xs ++ xss) ≡ picks n (λ (x : Text). not (has bytes_eq x (joined xss)) && passes x) xs ++ picks_by (n + length (scope_if_any xs)) passes xss
picks_any n passes [] xss = ap (λ (m : ℕ). picks_by m passes xss) (sym (add-zero n))
picks_any n passes (x ∷ xs) xss = refl

pub picks_alone : (n : ℕ) (passes : Text → Bool) (xs : List Text) → picks_by n passes (scope_if_any xs) ≡ picks n passes xs
picks_alone n passes [] = refl
picks_alone n passes (x ∷ xs) = append-nil _

pub any_once : (xs : List Text) (xss : List (List Text)) → Once xs → AllOnce xss → AllOnce (scope_if_any xs ++ xss)
any_once [] xss o a = a
any_once (x ∷ xs) xss o a = (o, a)

pub any_alone : (xs : List Text) → Once xs → AllOnce (scope_if_any xs)
any_alone [] o = tt
any_alone (x ∷ xs) o = (o, tt)

-- names that are made distinct
equal_self : (x : Text) → bytes_eq x x ≡ true
equal_self x = (bytes_decides x x).1 refl

without_once_step : (y : Text) (ys seen : List Text) (h : Bool) → Once (without bytes_eq (seen ++ y ∷ []) ys) → Once (cond h [] (y ∷ []) ++ without bytes_eq (seen ++ y ∷ []) ys)
without_once_step y ys seen true o = o
without_once_step y ys seen false o = (
  has-without y (seen ++ y ∷ []) ys
      ∙ ap (λ (b : Bool). not b && has bytes_eq y ys) (has-append y seen (y ∷ []) ∙ (ap (λ (b : Bool). has bytes_eq y seen || (b || false)) (equal_self y) ∙ or_true (has bytes_eq y seen))),
  o,
)
  where
    or_true : (b : Bool) → (b || true) ≡ true
    or_true true = refl
    or_true false = refl

pub without_once : (seen xs : List Text) → Once (without bytes_eq seen xs)
without_once seen [] = tt
without_once seen (y ∷ ys) = without_once_step y ys seen (has bytes_eq y seen) (without_once (seen ++ y ∷ []) ys)

pub distinct_once : (xs : List Text) → Once (distinct bytes_eq xs)
distinct_once xs = without_once [] xs

-- names that are distinct already
has_name-has : (x : Text) (ys : List (Name Text)) → has_name bytes_eq x ys ≡ has bytes_eq x (names_of ys)
has_name-has x [] = refl
has_name-has x (y ∷ ys) = ap (λ (b : Bool). bytes_eq x y.name || b) (has_name-has x ys)

none_repeated : (b : Bool) (n : ℕ) (ns : List ℕ) → (cond b (n ∷ []) [] ++ ns) ≡ [] → (b ≡ false) × (ns ≡ [])
none_repeated true n ns e = absurd (cons≢nil e) where
  cons≢nil : (n ∷ ns) ≡ [] → ⊥
  cons≢nil e = cc
none_repeated false n ns e = (refl, e)

pub without_same : (before xs : List (Name Text)) → repeated bytes_eq before xs ≡ [] → without bytes_eq (names_of before) (names_of xs) ≡ names_of xs
without_same before [] e = refl
without_same before (x ∷ xs) e =
    let parts = none_repeated (has_name bytes_eq x.name before) x.at (repeated bytes_eq (before ++ x ∷ []) xs) e in
    ap (λ (b : Bool). cond b [] (x.name ∷ []) ++ without bytes_eq (names_of before ++ x.name ∷ []) (names_of xs)) (sym (has_name-has x.name before) ∙ parts.0)
    ∙ ap (λ us. x.name ∷ us) (ap (λ us. without bytes_eq us (names_of xs)) (sym (map-append (λ (y : Name Text). y.name) before (x ∷ []))) ∙ without_same (before ++ x ∷ []) xs parts.1)

pub distinct_same : (xs : List (Name Text)) → repeated bytes_eq [] xs ≡ [] → distinct bytes_eq (names_of xs) ≡ names_of xs
distinct_same xs e = without_same [] xs e

-- ---- a part whose scopes are these

pub record Scoped (count : ℕ) (part : Within → List NamedScope) (t u : Told Text) : Type 0 where
  pub long : (w : Within) → length (part w) ≡ count
  pub alone : (n : ℕ) (w : Within) → own false n u ≡ closed_from n (part w) ++ own false (n + count) t

pub scoped_none : (t : Told Text) → Scoped 0 (λ w. []) t t
scoped_none t = record { long = λ w. refl; alone = λ n w. ap (λ (m : ℕ). own false m t) (sym (add-zero n)) }

pub scoped_quiet : (t u : Told Text) → Quiet t u → Scoped 0 (λ w. []) t u
scoped_quiet t u q = record { long = λ w. refl; alone = λ n w. q.alone n ∙ ap (λ (m : ℕ). own false m t) (sym (add-zero n)) }

pub scoped_front : (c : ℕ) (p : Within → List NamedScope) (s t u : Told Text) → Quiet t u → Scoped c p s t → Scoped c p s u
scoped_front c p s t u q h = record { long = h.long; alone = λ n w. q.alone n ∙ h.alone n w }

pub scoped_back : (c : ℕ) (p : Within → List NamedScope) (s t u : Told Text) → Scoped c p t u → Quiet s t → Scoped c p s u
scoped_back c p s t u h q = record { long = h.long; alone = λ n w. h.alone n w ∙ ap (λ us. closed_from n (p w) ++ us) (q.alone (n + c)) }

pub scoped_both : (c d : ℕ) (p q : Within → List NamedScope) (s t u : Told Text) → Scoped c p t u → Scoped d q s t → Scoped (c + d) (λ w. p w ++ q (behind c w)) s u
scoped_both c d p q s t u g h = record {
  long = λ w. length-append (p w) (q (behind c w)) ∙ ap₂ (λ (m n : ℕ). m + n) (g.long w) (h.long (behind c w));
  alone = λ n w.
      g.alone n w
      ∙ (ap (λ us. closed_from n (p w) ++ us) (h.alone (n + c) (behind c w))
      ∙ (sym (append_assoc (closed_from n (p w)) (closed_from (n + c) (q (behind c w))) (own false (n + c + d) s))
      ∙ ap₂ (λ us (m : ℕ). us ++ own false m s)
      (ap (λ (m : ℕ). closed_from n (p w) ++ closed_from (n + m) (q (behind c w))) (sym (g.long w)) ∙ sym (closed_from-append n (p w) (q (behind c w))))
      (add_assoc n c d)));
}

-- a region that is no function
pub own_plain : (k : Region Text) (at n : ℕ) (i t : Told Text) (xss : List (List Text)) → IsPlain k → scopes_in k i ≡ xss → AllOnce xss
    → own false n (inner k at i t) ≡ (picks_by n (λ (x : Text). reaches_in false false x i) xss ++ own false (n + length xss) i) ++ own false (n + (length xss + count_in false i)) t
own_plain k at n i t xss plain e o =
    ap (λ (b : Bool). cond b [] (picked_in n k i ++ own (is_lambda k) (n + length (scopes_in k i)) i) ++ own false (n + cond b 0 (length (scopes_in k i) + count_in (is_lambda k) i)) t) plain.begins
    ∙ (ap (λ yss. (picked_in n k i ++ own (is_lambda k) (n + length yss) i) ++ own false (n + (length yss + count_in (is_lambda k) i)) t) e
    ∙ (ap (λ us. (us ++ own (is_lambda k) (n + length xss) i) ++ own false (n + (length xss + count_in (is_lambda k) i)) t) (region_picks k i n xss e o)
    ∙ ap (λ (l : Bool). (picks_by n (λ (x : Text). reaches_in l false x i) xss ++ own l (n + length xss) i) ++ own false (n + (length xss + count_in l i)) t) plain.lambda))

pub scoped_bare : (k : Region Text) (at : ℕ) (c : ℕ) (p : Within → List NamedScope) (i t : Told Text) → IsPlain k → scopes_in k i ≡ [] → count_in false i ≡ c → Scoped c p nothing i → Scoped c p t (inner k at i t)
scoped_bare k at c p i t plain e count h = record {
  long = h.long;
  alone = λ n w.
      own_plain k at n i t [] plain e tt
      ∙ ap₂ (λ us (m : ℕ). us ++ own false (n + m) t) (ap (λ (m : ℕ). own false m i) (add-zero n) ∙ (h.alone n w ∙ append-nil (closed_from n (p w)))) (zero-add (count_in false i) ∙ count);
}

-- a region with a scope for these declarations, which is left out where there is none
pub scoped_around : (kind : ScopeKind) (k : Region Text) (at : ℕ) (c : ℕ) (ds : List Declaration) (uses : List Text) (p : Within → List NamedScope) (us : List Text) (i t : Told Text)
    → is_global kind ≡ false → IsPlain k → scopes_in k i ≡ scope_if_any us → Once us → us ≡ texts_of ds → ((x : Text) → reaches_in false false x i ≡ has_text uses x)
    → length (scope_if_any us) ≡ scope_count ds → count_in false i ≡ c → Scoped c p nothing i
    → Scoped (scope_count ds + c) (scope_around kind ds uses p) t (inner k at i t)
scoped_around kind k at c ds uses p us i t global plain e once is reach long count h = record {
  long = λ w. around_long w kind ds uses p c h.long;
  alone = λ n w.
      own_plain k at n i t (scope_if_any us) plain e (any_alone us once)
      ∙ ap₂ (λ vs (m : ℕ). vs ++ own false (n + m) t)
      (ap₂ (λ vs (m : ℕ). vs ++ own false (n + m) i)
      (picks_alone n (λ (x : Text). reaches_in false false x i) us
      ∙ (picks_agree n (λ (x : Text). reaches_in false false x i) (has_text uses) us reach ∙ ap (picks n (has_text uses)) is)) long
      ∙ sym (around_closed n w kind ds uses p (λ (m : ℕ). own false m i) global (λ m v. sym (h.alone m v ∙ append-nil (closed_from m (p v))))))
      (ap₂ (λ (a b : ℕ). a + b) long count);
}
