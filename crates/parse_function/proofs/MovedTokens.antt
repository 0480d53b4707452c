-- Tokens of points of which each has the code of another, and those of these others.
use Rattle.std.proofs.Common.{◌≡◌, ◌∙◌, ℕ, zero, suc, ◌^◌, ◌<◌, ◌≤◌, List, [], ◌∷◌, ◌++◌, length, map, drop, slice_index_or, Bool, true, false, cond, refl, sym, ap, ap₂, subst, arith}
use Rattle.std.proofs.lemmas.List.{map-append}
use Rattle.std.specs.Prelude.{◌||◌, ◌==◌}
use Rattle.std.specs.List.{AllByRecursion}
use Rattle.script_grammar.specs.declared.token.Token.{Token}
use Rattle.unit_text.specs.declared.Point.{Point}
use Rattle.unit_text.specs.Points.{code_of}
use Rattle.script_scanner.specs.declared.braces.Brace.{Brace}
use Rattle.script_scanner.specs.Blanks.{blank_at, first_line_length}
use Rattle.script_scanner.specs.Braces.{in_substitution}
use Rattle.script_scanner.specs.Stands.{StandFor, HasValue, HasOneLast, AreNoLast, GainsOnly, IsValueAmong}
use Rattle.script_scanner.specs.Tokens.{Lexed, Text, Front, IsBlank, IsToken, IsNeither, front_of, front_at, place, last_token, token_at, then_tokens, tokens_within, braces_after, part, without_first_line, tokens}
use Rattle.parse_function.specs.Glued.{moved, FitMoved}

-- ---- tokens of other offsets

module _ (f : ℕ → ℕ) (from to : ℕ) where
  -- the first token is the second one but for its offsets, which are those that f gives
  pub record IsMoved (l m : Lexed) : Type 0 where
    pub kind : m.kind ≡ l.kind
    pub value : m.value ≡ l.value
    pub after_line : m.after_line ≡ l.after_line
    pub start : f m.start ≡ l.start
    pub end : f m.end ≡ l.end
    pub start_from : from ≤ m.start
    pub end_from : from ≤ m.end
    pub start_within : l.start ≤ to
    pub end_within : l.end ≤ to

  abbrev pub AreMoved : List Lexed → List Lexed → Type 0
  AreMoved [] [] = Unit {0}
  AreMoved [] (m ∷ ms) = ⊥
  AreMoved (l ∷ ls) [] = ⊥
  AreMoved (l ∷ ls) (m ∷ ms) = IsMoved l m × AreMoved ls ms

  pub stand_moved : (texts : List (List ℕ)) (ts : List Token) (ls ms : List Lexed) → AreMoved ls ms → StandFor texts ts ms → StandFor texts (map (moved f) ts) ls
  stand_moved texts [] [] [] a h = tt
  stand_moved texts (t ∷ ts) [] [] a h = absurd h
  stand_moved texts [] (l ∷ ls) (m ∷ ms) a h = absurd h
  stand_moved texts ts [] (m ∷ ms) a h = absurd a
  stand_moved texts ts (l ∷ ls) [] a h = absurd a
  stand_moved texts (t ∷ ts) (l ∷ ls) (m ∷ ms) a h = (
    record {
      kind = h.0.kind ∙ a.0.kind;
      value = subst (λ v. HasValue texts v t.value) a.0.value h.0.value;
      start = ap f h.0.start ∙ a.0.start;
      end = ap f h.0.end ∙ a.0.end;
      after_line = h.0.after_line ∙ a.0.after_line;
    },
    stand_moved texts ts ls ms a.1 h.1,
  )

  starts_fit : (texts : List (List ℕ)) (ts : List Token) (ls ms : List Lexed) → AreMoved ls ms → StandFor texts ts ms → to < 2 ^ 24
      → (k : ℕ) (d : Token) → k < length ts → (from ≤ (slice_index_or ts k d).start) × (f (slice_index_or ts k d).start < 2 ^ 24)
  starts_fit texts [] ls ms a h small k d lt = absurd (omega (arith, lt))
  starts_fit texts (t ∷ ts) ls [] a h small k d lt = absurd h
  starts_fit texts (t ∷ ts) [] (m ∷ ms) a h small k d lt = absurd a
  starts_fit texts (t ∷ ts) (l ∷ ls) (m ∷ ms) a h small zero d lt =
      let is = h.0.start in let low = a.0.start_from in let high = a.0.start_within in let same : f t.start ≡ l.start = ap f h.0.start ∙ a.0.start in
      (omega (arith, is, low), omega (arith, same, high, small))
  starts_fit texts (t ∷ ts) (l ∷ ls) (m ∷ ms) a h small (suc k) d lt = starts_fit texts ts ls ms a.1 h.1 small k d (omega (arith, lt))

  ends_fit : (texts : List (List ℕ)) (ts : List Token) (ls ms : List Lexed) → AreMoved ls ms → StandFor texts ts ms → to < 2 ^ 24
      → (k : ℕ) (d : Token) → k < length ts → (from ≤ (slice_index_or ts k d).end) × (f (slice_index_or ts k d).end < 2 ^ 24)
  ends_fit texts [] ls ms a h small k d lt = absurd (omega (arith, lt))
  ends_fit texts (t ∷ ts) ls [] a h small k d lt = absurd h
  ends_fit texts (t ∷ ts) [] (m ∷ ms) a h small k d lt = absurd a
  ends_fit texts (t ∷ ts) (l ∷ ls) (m ∷ ms) a h small zero d lt =
      let is = h.0.end in let low = a.0.end_from in let high = a.0.end_within in let same : f t.end ≡ l.end = ap f h.0.end ∙ a.0.end in
      (omega (arith, is, low), omega (arith, same, high, small))
  ends_fit texts (t ∷ ts) (l ∷ ls) (m ∷ ms) a h small (suc k) d lt = ends_fit texts ts ls ms a.1 h.1 small k d (omega (arith, lt))

  pub fit_moved : (texts : List (List ℕ)) (ts : List Token) (ls ms : List Lexed) → AreMoved ls ms → StandFor texts ts ms → to < 2 ^ 24 → FitMoved f from ts
  fit_moved texts ts ls ms a h small = record { starts = starts_fit texts ts ls ms a h small; ends = ends_fit texts ts ls ms a h small }

  -- ---- their values

  value_behind : (l : Lexed) (ls : List Lexed) (text : List ℕ) → IsValueAmong ls text → IsValueAmong (l ∷ ls) text
  value_behind l ls text r = (l ∷ r.0, r.1, r.2, ap (λ (xs : List Lexed). l ∷ xs) r.3, r.4)

  value_moved : (ls ms before after : List Lexed) (m : Lexed) (text : List ℕ) → AreMoved ls ms → ms ≡ before ++ m ∷ after → m.value ≡ Text text → IsValueAmong ls text
  value_moved [] [] [] after m text a e v = absurd (cc)
  value_moved [] [] (b ∷ before) after m text a e v = absurd (cc)
  value_moved [] (n ∷ ms) before after m text a e v = absurd a
  value_moved (l ∷ ls) [] before after m text a e v = absurd a
  value_moved (l ∷ ls) (n ∷ ms) [] after m text a e v = let here : n ≡ m = cc in ([], l, ls, refl, sym a.0.value ∙ ap (λ (x : Lexed). x.value) here ∙ v)
  value_moved (l ∷ ls) (n ∷ ms) (b ∷ before) after m text a e v = let rest : ms ≡ before ++ m ∷ after = cc in value_behind l ls text (value_moved ls ms before after m text a.1 rest v)

  values_moved : (ls ms : List Lexed) → AreMoved ls ms → (texts : List (List ℕ)) → AllByRecursion (IsValueAmong ms) texts → AllByRecursion (IsValueAmong ls) texts
  values_moved ls ms a [] h = tt
  values_moved ls ms a (t ∷ texts) h = (value_moved ls ms h.0.0 h.0.2 h.0.1 t a h.0.3 h.0.4, values_moved ls ms a texts h.1)

  pub gains_moved : (ls ms : List Lexed) (before after : List (List ℕ)) → AreMoved ls ms → GainsOnly before after ms → GainsOnly before after ls
  gains_moved ls ms before after a g = record { gained = g.gained; grown = g.grown; are_values = values_moved ls ms a g.gained g.are_values }

-- ---- the last of them

no_last_moved : (f : ℕ → ℕ) (ts : List Token) → AreNoLast ts → AreNoLast (map (moved f) ts)
no_last_moved f [] h = tt
no_last_moved f (t ∷ ts) h = (h.0, no_last_moved f ts h.1)

pub last_moved : (f : ℕ → ℕ) (ts : List Token) → HasOneLast ts → HasOneLast (map (moved f) ts)
last_moved f ts h = record {
  front = map (moved f) h.front;
  last = moved f h.last;
  split = ap (map (moved f)) h.split ∙ map-append (moved f) h.front (h.last ∷ []);
  ends = h.ends;
  others = no_last_moved f h.front h.others;
}

-- ---- points with the same codes

module _ (f : ℕ → ℕ) (from to end : ℕ) (low : from ≤ end) where
  -- Each of the first points has the code of one of the second ones, and stands where f says.
  abbrev pub Alike : List Point → List Point → Type 0
  Alike [] [] = f end ≡ to
  Alike [] (q ∷ qs) = ⊥
  Alike (p ∷ ps) [] = ⊥
  Alike (p ∷ ps) (q ∷ qs) = (p.code ≡ q.code) × (f q.start ≡ p.start) × (from ≤ q.start) × (p.start ≤ to) × Alike ps qs

  codes_alike : (ps qs : List Point) → Alike ps qs → map code_of ps ≡ map code_of qs
  codes_alike [] [] h = refl
  codes_alike [] (q ∷ qs) h = absurd h
  codes_alike (p ∷ ps) [] h = absurd h
  codes_alike (p ∷ ps) (q ∷ qs) h = ap₂ (λ (c : ℕ) (cs : List ℕ). c ∷ cs) h.0 (codes_alike ps qs h.4)

  count_alike : (ps qs : List Point) → Alike ps qs → length ps ≡ length qs
  count_alike [] [] h = refl
  count_alike [] (q ∷ qs) h = absurd h
  count_alike (p ∷ ps) [] h = absurd h
  count_alike (p ∷ ps) (q ∷ qs) h = ap suc (count_alike ps qs h.4)

  drop_alike : (n : ℕ) (ps qs : List Point) → Alike ps qs → Alike (drop n ps) (drop n qs)
  drop_alike zero ps qs h = h
  drop_alike (suc n) [] [] h = h
  drop_alike (suc n) [] (q ∷ qs) h = absurd h
  drop_alike (suc n) (p ∷ ps) [] h = absurd h
  drop_alike (suc n) (p ∷ ps) (q ∷ qs) h = drop_alike n ps qs h.4

  -- where they begin
  record BeginAlike (ps qs : List Point) : Type 0 where
    is : f (place end qs) ≡ place to ps
    above : from ≤ place end qs
    within : place to ps ≤ to

  begin_alike : (ps qs : List Point) → Alike ps qs → BeginAlike ps qs
  begin_alike [] [] h = record { is = h; above = low; within = omega arith }
  begin_alike [] (q ∷ qs) h = absurd h
  begin_alike (p ∷ ps) [] h = absurd h
  begin_alike (p ∷ ps) (q ∷ qs) h = record { is = h.1; above = h.2; within = h.3 }

  last_alike : (after : Bool) (ps qs : List Point) → Alike ps qs → AreMoved f from to (last_token to after ps ∷ []) (last_token end after qs ∷ [])
  last_alike after [] [] h = let b = begin_alike [] [] h in (record { kind = refl; value = refl; after_line = refl; start = b.is; end = b.is; start_from = b.above; end_from = b.above; start_within = b.within; end_within = b.within }, tt)
  last_alike after [] (q ∷ qs) h = absurd h
  last_alike after (p ∷ ps) [] h = absurd h
  last_alike after (p ∷ ps) (q ∷ qs) h =
      let b = begin_alike (p ∷ ps) (q ∷ qs) h in
      (record { kind = refl; value = refl; after_line = refl; start = b.is; end = b.is; start_from = b.above; end_from = b.above; start_within = b.within; end_within = b.within }, tt)

  then_alike : (braces : List Brace) (after : Bool) (ps qs : List Point) (front : Front) (rest rest' : List Brace → Bool → List Point → List Lexed) → Alike ps qs
      → ((o : List Brace) (a : Bool) (xs ys : List Point) → Alike xs ys → AreMoved f from to (rest o a xs) (rest' o a ys))
      → AreMoved f from to (then_tokens to braces after ps front rest) (then_tokens end braces after qs front rest')
  then_alike braces after ps qs (IsBlank b) rest rest' h k = k braces (after || b.breaks) (drop b.length ps) (drop b.length qs) (drop_alike b.length ps qs h)
  then_alike braces after ps qs (IsToken p) rest rest' h k =
      let others = drop_alike p.length ps qs h in
      let here = begin_alike ps qs h in
      let behind = begin_alike (drop p.length ps) (drop p.length qs) others in (
        record { kind = refl; value = refl; after_line = refl; start = here.is; end = behind.is; start_from = here.above; end_from = behind.above; start_within = here.within; end_within = behind.within },
        k (braces_after braces p.kind) false (drop p.length ps) (drop p.length qs) others,
      )
  then_alike braces after ps qs IsNeither rest rest' h k = last_alike after ps qs h

  within_alike : (fuel : ℕ) (braces : List Brace) (after : Bool) (ps qs : List Point) → Alike ps qs → AreMoved f from to (tokens_within fuel to braces after ps) (tokens_within fuel end braces after qs)
  within_alike zero braces after ps qs h = tt
  within_alike (suc fuel) braces after ps qs h =
      subst (λ (front : Front). AreMoved f from to (tokens_within (suc fuel) to braces after ps) (then_tokens end braces after qs front (λ o a xs. tokens_within fuel end o a xs)))
      (ap (λ (cs : List ℕ). front_of (blank_at cs) (token_at (in_substitution braces) cs)) (codes_alike ps qs h))
      (then_alike braces after ps qs (front_at braces ps) (λ o a xs. tokens_within fuel to o a xs) (λ o a xs. tokens_within fuel end o a xs) h (λ o a xs ys e. within_alike fuel o a xs ys e))

  first_alike : (ps qs : List Point) → Alike ps qs → Alike (without_first_line from ps) (without_first_line from qs)
  first_alike ps qs h = by (from == 0)
    where
      by : (b : Bool) → Alike (cond b (drop (first_line_length (map code_of ps)) ps) ps) (cond b (drop (first_line_length (map code_of qs)) qs) qs)
      by true = subst (λ (cs : List ℕ). Alike (drop (first_line_length (map code_of ps)) ps) (drop (first_line_length cs) qs)) (codes_alike ps qs h) (drop_alike (first_line_length (map code_of ps)) ps qs h)
      by false = h

  text_alike : (ps qs : List Point) → Alike ps qs → AreMoved f from to (tokens_within (suc (length ps)) to [] false ps) (tokens_within (suc (length qs)) end [] false qs)
  text_alike ps qs h =
      subst (λ n. AreMoved f from to (tokens_within (suc (length ps)) to [] false ps) (tokens_within (suc n) end [] false qs)) (count_alike ps qs h)
      (within_alike (suc (length ps)) [] false ps qs h)

  pub tokens_alike : (ps qs : List Point) → Alike ps qs → part from to ps ≡ ps → part from end qs ≡ qs → AreMoved f from to (tokens ps from to) (tokens qs from end)
  tokens_alike ps qs h all all' =
      subst (λ (xs : List Point). AreMoved f from to (tokens_within (suc (length (without_first_line from xs))) to [] false (without_first_line from xs)) (tokens qs from end)) (sym all)
      (subst (λ (ys : List Point). AreMoved f from to (tokens_within (suc (length (without_first_line from ps))) to [] false (without_first_line from ps)) (tokens_within (suc (length (without_first_line from ys))) end [] false (without_first_line from ys))) (sym all')
      (text_alike (without_first_line from ps) (without_first_line from qs) (first_alike ps qs h)))
