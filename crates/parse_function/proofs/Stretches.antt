-- The stretches in which bytes without spans stand in the file, one after the other.
use Rattle.std.proofs.Common.{◌≡◌, ◌∙◌, ℕ, zero, suc, ◌+◌, ◌-◌, ◌<◌, ◌≤◌, List, [], ◌∷◌, ◌++◌, length, map, take, drop, slice_index_or, slice_set, cond, refl, sym, ap, ap₂, subst, arith}
use Rattle.std.proofs.lemmas.Bool.{le-leb, lt-leb}
use Rattle.script_grammar.specs.declared.token.Token.{Token}
use Rattle.scan_skip_laws.specs.Spans.{Span}
use Rattle.parse_function.specs.declared.holes.Hole.{Hole}
use Rattle.parse_function.specs.Holes.{span_at}
use Rattle.parse_function.specs.Glued.{FitMoved, Follows, behind_span, limit_of, moved, stands_at}

-- what lies in a stretch
pub lies : (place : ℕ → ℕ) (glued limit by at : ℕ) (spans : List Span) → Follows place glued by spans → limit ≡ limit_of glued (glued + by) spans → glued ≤ at → at < limit → place at ≡ at + by
lies place glued limit by at [] h e le lt = h at le ∙ (let n : glued + by + (at - glued) ≡ at + by = omega (arith, le) in n)
lies place glued limit by at (s ∷ spans) h e le lt =
    h at le
    ∙ ap (λ b. cond b (stands_at (behind_span glued (glued + by) s) s.to spans at) (glued + by + (at - glued))) (lt-leb (behind_span glued (glued + by) s) at (omega (arith, e, lt)))
    ∙ (let n : glued + by + (at - glued) ≡ at + by = omega (arith, le) in n)

-- what lies behind the last one's start
pub lies_last : (place : ℕ → ℕ) (glued by at : ℕ) (spans : List Span) → Follows place glued by spans → length spans ≡ 0 → glued ≤ at → place at ≡ at + by
lies_last place glued by at [] h e le = h at le ∙ (let n : glued + by + (at - glued) ≡ at + by = omega (arith, le) in n)
lies_last place glued by at (s ∷ spans) h e le = absurd (cc)

-- where a stretch with a span behind it ends
pub limit_is : (glued limit by : ℕ) (s : Span) (spans all : List Span) → all ≡ s ∷ spans → limit ≡ limit_of glued (glued + by) all → limit ≡ behind_span glued (glued + by) s
limit_is glued limit by s spans all whole e = e ∙ ap (limit_of glued (glued + by)) whole

-- the next stretch
pub next_follows : (place : ℕ → ℕ) (glued by glued' by' : ℕ) (s : Span) (spans all : List Span) → all ≡ s ∷ spans → Follows place glued by all → glued' ≡ behind_span glued (glued + by) s → glued' + by' ≡ s.to → Follows place glued' by' spans
next_follows place glued by glued' by' s spans all whole h e f = λ at le.
    let here : behind_span glued (glued + by) s ≤ at = omega (arith, e, le) in
    subst (λ (ss : List Span). Follows place glued by ss) whole h at (omega (arith, here))
    ∙ ap (λ b. cond b (stands_at (behind_span glued (glued + by) s) s.to spans at) (glued + by + (at - glued))) (le-leb (behind_span glued (glued + by) s) at here)
    ∙ ap₂ (λ (m : ℕ) (n : ℕ). stands_at m n spans at) (sym e) (sym f)

-- ---- tokens, one by one

module _ (f : Token → Token) (d : Token) where
  next_set : (k : ℕ) (ts : List Token) → k < length ts → slice_set (map f (take k ts) ++ drop k ts) k (f (slice_index_or (map f (take k ts) ++ drop k ts) k d)) ≡ map f (take (suc k) ts) ++ drop (suc k) ts
  next_set zero [] lt = absurd (omega (arith, lt))
  next_set zero (t ∷ ts) lt = refl
  next_set (suc k) [] lt = absurd (omega (arith, lt))
  next_set (suc k) (t ∷ ts) lt = ap (λ (us : List Token). f t ∷ us) (next_set k ts (omega (arith, lt)))

  same_item : (k : ℕ) (ts : List Token) → k < length ts → slice_index_or (map f (take k ts) ++ drop k ts) k d ≡ slice_index_or ts k d
  same_item zero [] lt = absurd (omega (arith, lt))
  same_item zero (t ∷ ts) lt = refl
  same_item (suc k) [] lt = absurd (omega (arith, lt))
  same_item (suc k) (t ∷ ts) lt = same_item k ts (omega (arith, lt))

  pub item_is : (k : ℕ) (ts us : List Token) → k < length ts → us ≡ map f (take k ts) ++ drop k ts → slice_index_or us k d ≡ slice_index_or ts k d
  item_is k ts us lt e = ap (λ (vs : List Token). slice_index_or vs k d) e ∙ same_item k ts lt

  pub one_more : (k : ℕ) (ts us : List Token) (t : Token) → k < length ts → us ≡ map f (take k ts) ++ drop k ts → t ≡ f (slice_index_or us k d) → slice_set us k t ≡ map f (take (k + 1) ts) ++ drop (k + 1) ts
  one_more k ts us t lt e new =
      ap (slice_set us k) new
      ∙ ap (λ (vs : List Token). slice_set vs k (f (slice_index_or vs k d))) e
      ∙ next_set k ts lt
      ∙ ap (λ n. map f (take n ts) ++ drop n ts) next
    where
      next : suc k ≡ k + 1
      next = omega arith

-- the stretch of all bytes, at their start
pub first_follows : (from glued by : ℕ) (hs gs : List Hole) → glued ≡ from → glued + by ≡ from → gs ≡ hs → Follows (stands_at from from (map span_at hs)) glued by (map span_at gs)
first_follows from glued by hs gs a b e = λ at le.
    ap₂ (λ (m : ℕ) (n : ℕ). stands_at m n (map span_at hs) at) (sym a) (sym b) ∙ ap (λ (xs : List Hole). stands_at glued (glued + by) (map span_at xs) at) (sym e)

-- an offset in the file is small enough
pub small_end : (place : ℕ → ℕ) (from : ℕ) (ts us : List Token) (k : ℕ) (d : Token) (end by : ℕ) → FitMoved place from ts → k < length ts → us ≡ map (moved place) (take k ts) ++ drop k ts → end ≡ (slice_index_or us k d).end → place end ≡ end + by → end + by < 16777216
small_end place from ts us k d end by fits lt so is h =
    let b = (fits.ends k d lt).1 in
    let same : place end ≡ place (slice_index_or ts k d).end = ap place (is ∙ ap (λ (t : Token). t.end) (item_is (moved place) d k ts us lt so)) in
    omega (arith, b, same, h)

-- a token with the offsets of the file
pub is_moved : (place : ℕ → ℕ) (u t : Token) (start end by by' start' end' : ℕ) → t ≡ record { kind = u.kind; after_line = u.after_line; value = u.value; start = start'; end = end' } → start ≡ u.start → end ≡ u.end
    → start' ≡ start + by → end' ≡ end + by' → place start ≡ start + by → place end ≡ end + by' → t ≡ moved place u
is_moved place u t start end by by' start' end' is s e s' e' p q =
    is ∙ ap₂ (λ (m : ℕ) (n : ℕ). record { kind = u.kind; after_line = u.after_line; value = u.value; start = m; end = n }) (s' ∙ sym p ∙ ap place s) (e' ∙ sym q ∙ ap place e)
