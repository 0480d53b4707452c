-- At the lexemes of a tree a parser reads this tree, unless some lexeme is too deep. Which bodies were passed over is
-- another matter, and left out here.
use Rattle.std.proofs.Common.{◌≡◌, ℕ, zero, suc, ◌≤◌, ◌<◌, List, [], ◌∷◌, ◌++◌, length, refl, sym, ap, ◌∙◌, subst, arith, append_assoc, append-nil, Bool, true, false, cond, nat_lt, length-append}
use Rattle.std.proofs.lemmas.Bool.{le-ltb, lt-ltb}
use Rattle.script_grammar.specs.declared.token.Kind.{Kind}
use Rattle.script_grammar.specs.declared.token.FuncForm.{FuncForm}
use Rattle.script_grammar.specs.Lexeme.{Lexeme}
use Rattle.script_grammar.specs.Pieces.{Piece, At, Slot}
use Rattle.grammar_parser_specs.specs.Parser.{Recorded, Reply, Read, Bad, Deep, Parser, head_of, put_before, noted, after, ret, bad, deep, bind, peek, step, when, note, no_room, Turn, Again, Stop, turned, turns, loop, begun}
use Rattle.grammar_parser_laws.proofs.Friendly.{first_of}
use Rattle.grammar_parser_laws.proofs.Fitting.{head_first}
use Rattle.grammar_parser_laws.proofs.Stands.{Marked, lexemes, Stands, stands_split, lexemes_append, AreShallow}

-- a reply without the bodies that were passed over
abbrev pub bare : {A : Type 0} → Reply A → Reply A
bare (Read a rs ts) = Read a [] ts
bare (Bad rs ts) = Bad [] ts
bare (Deep rs ts) = Deep [] ts

abbrev pub barely : {A : Type 0} → Parser A → Parser A
barely f ts = bare (f ts)

bare_put : {A : Type 0} (rs : List Recorded) (r : Reply A) → bare (put_before rs r) ≡ bare r
bare_put rs (Read a qs ts) = refl
bare_put rs (Bad qs ts) = refl
bare_put rs (Deep qs ts) = refl

pub bare_noted : {A : Type 0} (rs : List Recorded) (r : Reply A) → bare (noted rs r) ≡ bare r
bare_noted [] r = refl
bare_noted (b ∷ rs) r = bare_put (b ∷ rs) r

pub bare_after : {A B : Type 0} (r : Reply A) (f : A → Parser B) → bare (after r f) ≡ after (bare r) (λ a. barely (f a))
bare_after (Read a rs ts) f = bare_noted rs (f a ts)
bare_after (Bad rs ts) f = refl
bare_after (Deep rs ts) f = refl

-- the reply, or that the first of these lexemes is too deep that is deeper than the limit
abbrev pub cut : {A : Type 0} → ℕ → List Marked → List Lexeme → Reply A → Reply A
cut limit [] rest r = r
cut limit (x ∷ w) rest r = cond (nat_lt limit x.depth) (Deep [] (x.lexeme ∷ (lexemes w ++ rest))) (cut limit w rest r)

pub joined : (u v : List Marked) (rest : List Lexeme) → lexemes (u ++ v) ++ rest ≡ lexemes u ++ (lexemes v ++ rest)
joined u v rest = ap (λ x. x ++ rest) (lexemes_append u v) ∙ append_assoc (lexemes u) (lexemes v) rest

pub cut_append : {A : Type 0} (limit : ℕ) (u v : List Marked) (rest : List Lexeme) (r : Reply A) → cut limit (u ++ v) rest r ≡ cut limit u (lexemes v ++ rest) (cut limit v rest r)
cut_append limit [] v rest r = refl
cut_append limit (x ∷ u) v rest r =
    ap (λ y. cond (nat_lt limit x.depth) (Deep [] (x.lexeme ∷ y)) (cut limit (u ++ v) rest r)) (joined u v rest)
    ∙ ap (λ y. cond (nat_lt limit x.depth) (Deep [] (x.lexeme ∷ (lexemes u ++ (lexemes v ++ rest)))) y) (cut_append limit u v rest r)

after_cond : {A B : Type 0} (b : Bool) (r s : Reply A) (f : A → Parser B) → after (cond b r s) f ≡ cond b (after r f) (after s f)
after_cond true r s f = refl
after_cond false r s f = refl

pub after_cut : {A B : Type 0} (limit : ℕ) (w : List Marked) (rest : List Lexeme) (r : Reply A) (f : A → Parser B) → after (cut limit w rest r) f ≡ cut limit w rest (after r f)
after_cut limit [] rest r f = refl
after_cut limit (x ∷ w) rest r f =
    after_cond (nat_lt limit x.depth) _ _ f
    ∙ ap (λ y. cond (nat_lt limit x.depth) (Deep [] (x.lexeme ∷ (lexemes w ++ rest))) y) (after_cut limit w rest r f)

-- f reads a at these lexemes, up to the rest
pub record Parses {A : Type 0} (limit : ℕ) (f : Parser A) (w : List Marked) (rest : List Lexeme) (a : A) : Type 0 where
  pub by : bare (f (lexemes w ++ rest)) ≡ cut limit w rest (Read a [] rest)

abbrev pub AllK : {A : Type 0} → (A → Type 0) → List A → Type 0
AllK K [] = Unit {0}
AllK K (x ∷ xs) = K x × AllK K xs

abbrev pub flat : {A : Type 0} → (A → List Piece) → List A → List Piece
flat pr [] = []
flat pr (x ∷ xs) = pr x ++ flat pr xs

-- the first place is too deep
pub record DeepFront (limit : ℕ) (ps : List Piece) : Type 0 where
  pub first : Slot
  pub others : List Piece
  pub split : ps ≡ At first ∷ others
  pub below : limit < first.depth

pub deep_front : (limit : ℕ) (a b : List Piece) → DeepFront limit a → DeepFront limit (a ++ b)
deep_front limit a b f = record { first = f.first; others = f.others ++ b; split = ap (λ x. x ++ b) f.split; below = f.below }

pub deep_at : (limit : ℕ) (s : Slot) (ps : List Piece) → limit < s.depth → DeepFront limit (At s ∷ ps)
deep_at limit s ps h = record { first = s; others = ps; split = refl; below = h }

cut_first : {A : Type 0} (limit : ℕ) (s : Slot) (ps : List Piece) (w : List Marked) (q : List Lexeme) (n : Lexeme) (r : Reply A) → limit < s.depth → Stands (At s ∷ ps) w n → cut limit w q r ≡ Deep [] (lexemes w ++ q)
cut_first limit s ps [] q n r l k = absurd k
cut_first limit s ps (x ∷ w) q n r l k = ap (λ b. cond b (Deep [] (x.lexeme ∷ (lexemes w ++ q))) (cut limit w q r)) (lt-ltb limit x.depth (omega (arith, l, k.1)))

pub cut_deep : {A : Type 0} (limit : ℕ) (ps : List Piece) (w : List Marked) (q : List Lexeme) (n : Lexeme) (r : Reply A) → DeepFront limit ps → Stands ps w n → cut limit w q r ≡ Deep [] (lexemes w ++ q)
cut_deep limit ps w q n r f h = cut_first limit f.first f.others w q n r f.below (subst (λ x. Stands x w n) f.split h)

-- lexemes that were passed over are not deep
pub cut_shallow : {A : Type 0} (limit : ℕ) (w : List Marked) (rest : List Lexeme) (r : Reply A) → AreShallow w → cut limit w rest r ≡ r
cut_shallow limit [] rest r h = refl
cut_shallow limit (x ∷ w) rest r h = ap (λ b. cond b (Deep [] (x.lexeme ∷ (lexemes w ++ rest))) (cut limit w rest r)) (le-ltb limit x.depth (omega (arith, h.0))) ∙ cut_shallow limit w rest r h.1

module _ (limit : ℕ) where
  pub parses_ret : {A : Type 0} (a : A) (rest : List Lexeme) → Parses limit (ret a) [] rest a
  parses_ret a rest = record { by = refl }

  pub parses_note : (form : FuncForm) (room : ℕ) (simple : Bool) (rest : List Lexeme) → Parses limit (note form room simple) [] rest tt
  parses_note form room simple rest = record { by = refl }

  pub parses_bind : {A B : Type 0} {m : Parser A} (f : A → Parser B) {u v : List Marked} {rest : List Lexeme} {a : A} {b : B} → Parses limit m u (lexemes v ++ rest) a → Parses limit (f a) v rest b → Parses limit (bind m f) (u ++ v) rest b
  parses_bind {m = m} f {u = u} {v = v} {rest = rest} {a = a} {b = b} p q = record {
    by =
        bare_after (m (lexemes (u ++ v) ++ rest)) f
        ∙ ap (λ x. after (bare (m x)) (λ a. barely (f a))) (joined u v rest)
        ∙ ap (λ x. after x (λ a. barely (f a))) p.by
        ∙ after_cut limit u (lexemes v ++ rest) (Read a [] (lexemes v ++ rest)) (λ a. barely (f a))
        ∙ ap (λ x. cut limit u (lexemes v ++ rest) x) q.by
        ∙ sym (cut_append limit u v rest (Read b [] rest));
  }

  -- the same, where the lexemes are given whole
  pub parses_parts : {A B : Type 0} {m : Parser A} (f : A → Parser B) (w u v : List Marked) {rest : List Lexeme} {a : A} {b : B} → w ≡ u ++ v → Parses limit m u (lexemes v ++ rest) a → Parses limit (f a) v rest b → Parses limit (bind m f) w rest b
  parses_parts {m = m} f w u v {rest = rest} {b = b} e p q = subst (λ x. Parses limit (bind m f) x rest b) (sym e) (parses_bind f p q)

  pub shallow : {A : Type 0} (d : ℕ) (r q : Reply A) → d ≤ limit → cond (nat_lt limit d) r q ≡ q
  shallow d r q h = ap (λ b. cond b r q) (le-ltb limit d h)

  pub parses_step : {A : Type 0} {f : Parser A} (x : Marked) {w : List Marked} {rest : List Lexeme} {a : A} → x.depth ≤ limit → Parses limit f w rest a → Parses limit (step f) (x ∷ w) rest a
  parses_step x {w = w} {rest = rest} h p = record { by = p.by ∙ sym (shallow x.depth (Deep [] (x.lexeme ∷ (lexemes w ++ rest))) _ h) }

  pub parses_peek : {A : Type 0} (f : Lexeme → Parser A) (x : Marked) {w : List Marked} {rest : List Lexeme} {a : A} → Parses limit (f x.lexeme) (x ∷ w) rest a → Parses limit (peek f) (x ∷ w) rest a
  parses_peek f x p = record { by = p.by }

  -- where nothing is read, the next lexeme is looked at
  pub parses_look : {A : Type 0} (f : Lexeme → Parser A) {rest : List Lexeme} {a : A} → Parses limit (f (head_of rest)) [] rest a → Parses limit (peek f) [] rest a
  parses_look f p = record { by = p.by }

  -- a bind whose second part reads nothing
  pub parses_map : {A B : Type 0} {m : Parser A} (f : A → Parser B) {u : List Marked} {rest : List Lexeme} {a : A} {b : B} → Parses limit m u rest a → bare (f a rest) ≡ Read b [] rest → Parses limit (bind m f) u rest b
  parses_map {m = m} f {u = u} {rest = rest} {a = a} {b = b} p e = record {
    by =
        bare_after (m (lexemes u ++ rest)) f
        ∙ ap (λ x. after x (λ a. barely (f a))) p.by
        ∙ after_cut limit u rest (Read a [] rest) (λ a. barely (f a))
        ∙ ap (λ x. cut limit u rest x) e;
  }

  -- a bind whose first part reads nothing
  pub parses_then : {A B : Type 0} (m : Parser A) (f : A → Parser B) {u : List Marked} {rest : List Lexeme} {a : A} {b : B} → bare (m (lexemes u ++ rest)) ≡ Read a [] (lexemes u ++ rest) → Parses limit (f a) u rest b → Parses limit (bind m f) u rest b
  parses_then m f {u = u} {rest = rest} e p = record {
    by =
        bare_after (m (lexemes u ++ rest)) f
        ∙ ap (λ x. after x (λ a. barely (f a))) e
        ∙ p.by;
  }

  -- a loop over the items of a list, and how it stops
  module _ {A B : Type 0} (K : A → Type 0) (pr : A → List Piece) (Follow : Lexeme → Type 0) (turn : Parser (Turn A B))
      (each : (x : A) (u : List Marked) (q : List Lexeme) → K x → Stands (pr x) u (head_of q) → Follow (head_of q) → Parses limit turn u q (Again x))
      (some : (x : A) (u : List Marked) (n : Lexeme) → K x → Stands (pr x) u n → 0 < length (lexemes u))
      (next : (x : A) (u : List Marked) (n : Lexeme) → K x → Stands (pr x) u n → Follow (first_of (lexemes u) n)) where
    follow_flat : (xs : List A) (w : List Marked) (n : Lexeme) → AllK K xs → Stands (flat pr xs) w n → Follow n → Follow (first_of (lexemes w) n)
    follow_flat [] [] n k h f = f
    follow_flat [] (t ∷ w) n k h f = absurd h
    follow_flat (x ∷ xs) w n k h f =
        let p = stands_split (pr x) (flat pr xs) w n h in
        subst Follow (sym (ap (λ y. first_of (lexemes y) n) p.split ∙ ap (λ y. first_of y n) (lexemes_append p.front p.back) ∙ first_append2 (lexemes p.front) (lexemes p.back) n)) (next x p.front (first_of (lexemes p.back) n) k.0 p.first)
      where
        first_append2 : (v e : List Lexeme) (n : Lexeme) → first_of (v ++ e) n ≡ first_of v (first_of e n)
        first_append2 [] e n = refl
        first_append2 (t ∷ v) e n = refl

    turns_parse : (xs : List A) (w v : List Marked) (rest : List Lexeme) (b : B) → AllK K xs → Stands (flat pr xs) w (head_of (lexemes v ++ rest)) → Follow (head_of (lexemes v ++ rest)) → Parses limit turn v rest (Stop b) → (n : ℕ) → length (lexemes w ++ (lexemes v ++ rest)) < n → Parses limit (turns turn n) (w ++ v) rest (record { items = xs; last = b })
    unfolding turns
    turns_parse xs w v rest b k h f p zero lt = absurd (omega arith)
    turns_parse [] (t ∷ w) v rest b k h f p (suc n) lt = absurd h
    turns_parse [] [] v rest b k h f p (suc n) lt = parses_map (turned (turns turn n)) p refl
    turns_parse (x ∷ xs) w v rest b k h f p (suc n) lt =
        let q = stands_split (pr x) (flat pr xs) w (head_of (lexemes v ++ rest)) h in
        let here : Stands (pr x) q.front (head_of (lexemes q.back ++ (lexemes v ++ rest))) = subst (λ y. Stands (pr x) q.front y) (sym (head_first (lexemes q.back) (lexemes v ++ rest))) q.first in
        let long : 0 < length (lexemes q.front) = some x q.front (head_of (lexemes q.back ++ (lexemes v ++ rest))) k.0 here in
        let e : lexemes w ++ (lexemes v ++ rest) ≡ lexemes q.front ++ (lexemes q.back ++ (lexemes v ++ rest)) = ap (λ y. lexemes y ++ (lexemes v ++ rest)) q.split ∙ joined q.front q.back (lexemes v ++ rest) in
        let short : length (lexemes q.back ++ (lexemes v ++ rest)) < n = omega (arith, ap length e, length-append (lexemes q.front) (lexemes q.back ++ (lexemes v ++ rest))) in
        let again = turns_parse xs q.back v rest b k.1 q.second f p n short in
        let follows = subst Follow (sym (head_first (lexemes q.back) (lexemes v ++ rest))) (follow_flat xs q.back (head_of (lexemes v ++ rest)) k.1 q.second f) in
        let first = each x q.front (lexemes q.back ++ (lexemes v ++ rest)) k.0 here follows in
        let first2 : Parses limit turn q.front (lexemes (q.back ++ v) ++ rest) (Again x) = subst (λ y. Parses limit turn q.front y (Again x)) (sym (joined q.back v rest)) first in
        let all = parses_bind (turned (turns turn n)) {v = q.back ++ v} {b = record { items = x ∷ xs; last = b }} first2 (parses_map (λ m. ret (begun x m)) again refl) in
        subst (λ y. Parses limit (turns turn (suc n)) y rest (record { items = x ∷ xs; last = b })) (sym (append_assoc q.front q.back v) ∙ ap (λ y. y ++ v) (sym q.split)) all

    pub parses_loop : (xs : List A) (w v : List Marked) (rest : List Lexeme) (b : B) → AllK K xs → Stands (flat pr xs) w (head_of (lexemes v ++ rest)) → Follow (head_of (lexemes v ++ rest)) → Parses limit turn v rest (Stop b) → Parses limit (loop turn) (w ++ v) rest (record { items = xs; last = b })
    unfolding loop
    parses_loop xs w v rest b k h f p = record { by = (turns_parse xs w v rest b k h f p (suc (length (lexemes (w ++ v) ++ rest))) (omega (arith, ap length (joined w v rest)))).by }

    -- a loop that stops where nothing more is read
    pub parses_items : (xs : List A) (w : List Marked) (rest : List Lexeme) (b : B) → AllK K xs → Stands (flat pr xs) w (head_of rest) → Follow (head_of rest) → Parses limit turn [] rest (Stop b) → Parses limit (loop turn) w rest (record { items = xs; last = b })
    parses_items xs w rest b k h f p = subst (λ y. Parses limit (loop turn) y rest (record { items = xs; last = b })) (append-nil w) (parses_loop xs w [] rest b k h f p)

  pub parses_when : {A : Type 0} (f g : Parser A) (b : Bool) {w : List Marked} {rest : List Lexeme} {a : A} → b ≡ true → Parses limit f w rest a → Parses limit (when b f g) w rest a
  parses_when f g b {w} {rest} {a} e p = subst (λ x. Parses limit (when x f g) w rest a) (sym e) p

  pub parses_else : {A : Type 0} (f g : Parser A) (b : Bool) {w : List Marked} {rest : List Lexeme} {a : A} → b ≡ false → Parses limit g w rest a → Parses limit (when b f g) w rest a
  parses_else f g b {w} {rest} {a} e p = subst (λ x. Parses limit (when x f g) w rest a) (sym e) p

  -- without room for depth the first lexeme is too deep
  pub parses_no_room : {A : Type 0} (begins : Kind → Bool) (ps : List Piece) (x : Marked) (w : List Marked) (rest : List Lexeme) (a : A) (n : Lexeme) → DeepFront limit ps → Stands ps (x ∷ w) n → begins x.lexeme.kind ≡ true → Parses limit (no_room {A = A} begins) (x ∷ w) rest a
  parses_no_room begins ps x w rest a n d h e = record { by = ap (λ b. bare (when b deep bad (lexemes (x ∷ w) ++ rest))) e ∙ sym (cut_deep limit ps (x ∷ w) rest n (Read a [] rest) d h) }
