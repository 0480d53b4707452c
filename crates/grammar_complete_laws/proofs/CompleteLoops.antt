-- A loop over the places of a list, where what may follow an item hangs on the item.
use Rattle.std.proofs.Common.{◌≡◌, ℕ, zero, suc, ◌<◌, List, [], ◌∷◌, ◌++◌, length, refl, sym, ap, ◌∙◌, subst, arith, append_assoc, length-append}
use Rattle.script_grammar.specs.Lexeme.{Lexeme}
use Rattle.script_grammar.specs.Pieces.{Piece}
use Rattle.grammar_parser_specs.specs.Parser.{Parser, head_of, ret, Turn, Again, Stop, turned, turns, loop, begun}
use Rattle.grammar_parser_laws.proofs.Friendly.{first_of}
use Rattle.grammar_parser_laws.proofs.Fitting.{head_first}
use Rattle.grammar_parser_laws.proofs.Stands.{Marked, lexemes, Stands, stands_split, lexemes_append}
use Rattle.grammar_parser_laws.proofs.Complete.{Parses, AllK, flat, parses_bind, parses_map, joined}
use Rattle.grammar_complete_laws.proofs.Completes.{Completes, Leads}

module _ (limit : ℕ) {A B : Type 0} (K : A → Type 0) (pr : A → List Piece) (F : A → Lexeme → Type 0) (qs : List Piece) (G : Lexeme → Type 0) (b : B) (turn : Parser (Turn A B))
    (each : (x : A) → K x → Completes limit (pr x) (F x) turn (Again x))
    (some : (x : A) → K x → (w : List Marked) (n : Lexeme) → Stands (pr x) w n → 0 < length (lexemes w))
    (link : (x y : A) → K x → K y → (w : List Marked) (n : Lexeme) → Stands (pr y) w n → F x (first_of (lexemes w) n))
    (stop : Completes limit qs G turn (Stop b)) where
  -- what follows all may follow the last item
  abbrev pub LastLeads : List A → Type 0
  LastLeads [] = Unit {0}
  LastLeads (x ∷ []) = Leads qs G (F x)
  LastLeads (x ∷ y ∷ xs) = LastLeads (y ∷ xs)

  first_in : (w u v : List Marked) (n : Lexeme) → w ≡ u ++ v → first_of (lexemes w) n ≡ first_of (lexemes u) (first_of (lexemes v) n)
  first_in w u v n e = ap (λ y. first_of (lexemes y) n) e ∙ ap (λ y. first_of y n) (lexemes_append u v) ∙ first_two (lexemes u) (lexemes v)
    where
      first_two : (a c : List Lexeme) → first_of (a ++ c) n ≡ first_of a (first_of c n)
      first_two [] c = refl
      first_two (t ∷ a) c = refl

  follows : (x : A) (xs : List A) (w : List Marked) (n : Lexeme) → K x → AllK K xs → LastLeads (x ∷ xs) → Stands (flat pr xs ++ qs) w n → G n → F x (first_of (lexemes w) n)
  follows x [] w n k ks l h g = l.by w n h g
  follows x (y ∷ ys) w n k ks l h g =
      let p = stands_split (pr y ++ flat pr ys) qs w n h in
      let q = stands_split (pr y) (flat pr ys) p.front (first_of (lexemes p.back) n) p.first in
      subst (F x) (sym (first_in w p.front p.back n p.split ∙ first_in p.front q.front q.back (first_of (lexemes p.back) n) q.split)) (link x y k ks.0 q.front (first_of (lexemes q.back) (first_of (lexemes p.back) n)) q.first)

  last_more : (x : A) (xs : List A) → LastLeads (x ∷ xs) → LastLeads xs
  last_more x [] l = tt
  last_more x (y ∷ xs) l = l

  turns_parse : (xs : List A) (w : List Marked) (rest : List Lexeme) → AllK K xs → LastLeads xs → Stands (flat pr xs ++ qs) w (head_of rest) → G (head_of rest) → (n : ℕ) → length (lexemes w ++ rest) < n → Parses limit (turns turn n) w rest (record { items = xs; last = b })
  unfolding turns
  turns_parse xs w rest k l h g zero lt = absurd (omega arith)
  turns_parse [] w rest k l h g (suc n) lt = parses_map limit (turned (turns turn n)) (stop.at w rest h g) refl
  turns_parse (x ∷ xs) w rest k l h g (suc n) lt =
      let h2 : Stands (pr x ++ (flat pr xs ++ qs)) w (head_of rest) = subst (λ y. Stands y w (head_of rest)) (append_assoc (pr x) (flat pr xs) qs) h in
      let q = stands_split (pr x) (flat pr xs ++ qs) w (head_of rest) h2 in
      let here : Stands (pr x) q.front (head_of (lexemes q.back ++ rest)) = subst (λ y. Stands (pr x) q.front y) (sym (head_first (lexemes q.back) rest)) q.first in
      let long : 0 < length (lexemes q.front) = some x k.0 q.front (head_of (lexemes q.back ++ rest)) here in
      let e : lexemes w ++ rest ≡ lexemes q.front ++ (lexemes q.back ++ rest) = ap (λ y. lexemes y ++ rest) q.split ∙ joined q.front q.back rest in
      let short : length (lexemes q.back ++ rest) < n = omega (arith, lt, long, ap length e, length-append (lexemes q.front) (lexemes q.back ++ rest)) in
      let again = turns_parse xs q.back rest k.1 (last_more x xs l) q.second g n short in
      let fits : F x (head_of (lexemes q.back ++ rest)) = subst (F x) (sym (head_first (lexemes q.back) rest)) (follows x xs q.back (head_of rest) k.0 k.1 l q.second g) in
      let first = (each x k.0).at q.front (lexemes q.back ++ rest) here fits in
      let all = parses_bind limit (turned (turns turn n)) {v = q.back} {b = record { items = x ∷ xs; last = b }} first (parses_map limit (λ m. ret (begun x m)) again refl) in
      subst (λ y. Parses limit (turns turn (suc n)) y rest (record { items = x ∷ xs; last = b })) (sym q.split) all

  pub c_loop : (xs : List A) → AllK K xs → LastLeads xs → Completes limit (flat pr xs ++ qs) G (loop turn) (record { items = xs; last = b })
  unfolding loop
  c_loop xs k l = record { at = λ w rest h g. record { by = (turns_parse xs w rest k l h g (suc (length (lexemes w ++ rest))) (omega arith)).by } }
