-- What the parser on lists of lexemes finds after an opening bracket of the tokens, by the bracket's partner.
use Rattle.std.proofs.Common.{◌≡◌, ◌∙◌, ℕ, zero, suc, ◌<◌, ◌≤◌, List, [], ◌∷◌, ◌++◌, map, drop, take, length, refl, sym, ap, subst, arith, get_or, Bool, true, false, not, ◌||◌, nat_eq, nat_lt, if◌then◌else◌, Option, Some, None, ◌⊎◌, inl, inr, ◌+◌, add-one}
use Rattle.std.proofs.lemmas.Bool.{eqb-true, ltb-true, lt-ltb}
use Rattle.std.proofs.Math.Seq.{drop-cons}
use Rattle.std.proofs.Math.ListN.{get_or-append}
use Rattle.std.proofs.lemmas.List.{length-map, get_or-map, map-append, take-append-le, drop-append-le, append_cancel_right, nil_from_length, length-append}
use Rattle.script_grammar.specs.declared.token.Token.{Token}
use Rattle.script_grammar.specs.declared.token.Kind.{Kind}
use Rattle.script_grammar.specs.declared.token.Kind.TheVariants as kind
use Rattle.script_grammar.specs.declared.token.mark.TheConstants as mark
use Rattle.script_grammar.specs.declared.brackets.Bracket.{Bracket}
use Rattle.script_grammar.specs.declared.brackets.Bracket.TheVariants.{Paren, Square, Brace}
use Rattle.script_grammar.specs.declared.brackets.BracketPart.TheVariants.{Opening, Closing, Other}
use Rattle.script_grammar.specs.Interpretation.{Interpretation}
use Rattle.script_grammar.specs.Kinds.{is_mark}
use Rattle.script_grammar.specs.Lexeme.{Lexeme, lexeme_of}
use Rattle.script_grammar.specs.Matching.{kinds_of, part_of, part_at, next_open, opened_by, closed_by, IsBalanced, Pairs, IsMatching, partner_of}
use Rattle.script_grammar.specs.Pieces.{paren, brace}
use Rattle.script_grammar.specs.Tree.{no_stmts}
use Rattle.grammar_parser_specs.specs.Parser.{Recorded, Reply, Read, Bad, Deep, head_of, rest_of, end_lexeme}
use Rattle.grammar_parser_specs.specs.Exprs.{pass_over, arrow_behind, is_arrow, only_params, begins_param}
use Rattle.grammar_script_laws.proofs.Bracketed.{kinds, IsInner, AllInner}
use Rattle.grammar_parser_laws.proofs.Local.{Same, out, kept, grown, grown_records}
use Rattle.grammar_local_laws.proofs.LocalRace.{behind_local, runs_false}
use Rattle.grammar_script_laws.proofs.Strides.{Striding, strides_init, strides_stop, strides_end, strides_step, strides_jump}
use Rattle.grammar_script_laws.proofs.Partnered.{inner-take, part-read, walk-paired, pass_over-walks, arrow_behind-walks, pass_over-alone, arrow_behind-alone}
use Rattle.grammar_parser_laws.proofs.Tests.{mark_known}
use Rattle.parse_exprs.specs.declared.source.Source.{Source}
use Rattle.parse_exprs.specs.Source.{IsSource, lexemes, front, ends_all}
use Rattle.parse_exprs.specs.Ends.{no_token}
use Rattle.parse_exprs.specs.Strides.{stride}
use Rattle.grammar_local_laws.proofs.PassingLaws.{pass_local}

pub true_false : true ≡ false → ⊥
true_false e = cc

-- tokens that are neither Bad nor End

pub inner_kind : (k : Kind) → ends_all k ≡ false → IsInner k
inner_kind kind.Name h = tt
inner_kind kind.Number h = tt
inner_kind kind.Str h = tt
inner_kind kind.TemplateWhole h = tt
inner_kind kind.TemplateHead h = tt
inner_kind kind.TemplateMiddle h = tt
inner_kind kind.TemplateTail h = tt
inner_kind (kind.Word i) h = tt
inner_kind (kind.Mark i) h = tt
inner_kind kind.Bad h = absurd (cc)
inner_kind kind.End h = absurd (cc)

last_kind : (k : Kind) → ends_all k ≡ true → IsInner k → ⊥
last_kind kind.Name h = absurd (cc)
last_kind kind.Number h = absurd (cc)
last_kind kind.Str h = absurd (cc)
last_kind kind.TemplateWhole h = absurd (cc)
last_kind kind.TemplateHead h = absurd (cc)
last_kind kind.TemplateMiddle h = absurd (cc)
last_kind kind.TemplateTail h = absurd (cc)
last_kind (kind.Word i) h = absurd (cc)
last_kind (kind.Mark i) h = absurd (cc)
last_kind kind.Bad h = λ k. k
last_kind kind.End h = λ k. k

all_inner : (f : Token → Lexeme) → ((t : Token) → (f t).kind ≡ t.kind) → (ts : List Token) (n : ℕ) → n ≤ length ts → ((k : ℕ) (d : Token) → k < n → ends_all (get_or ts k d).kind ≡ false) → AllInner (take n (map f ts))
all_inner f g ts zero l h = tt
all_inner f g [] (suc n) l h = absurd (omega arith)
all_inner f g (t ∷ ts) (suc n) l h = (subst IsInner (sym (g t)) (inner_kind t.kind (h 0 t (omega arith))), all_inner f g ts n (omega arith) (λ k d m. h (suc k) d (omega arith)))

kinds_mapped : (f : Token → Lexeme) → ((t : Token) → (f t).kind ≡ t.kind) → (ts : List Token) → kinds (map f ts) ≡ kinds_of ts
kinds_mapped f g [] = refl
kinds_mapped f g (t ∷ ts) = ap (λ x. x ∷ kinds (map f ts)) (g t) ∙ ap (λ x. t.kind ∷ x) (kinds_mapped f g ts)

-- what a walk finds where no more lexemes follow

same_bad : (q us : List Lexeme) (r s : Reply ℕ) → Same q r s → s ≡ Bad [] (us ++ q) → 0 < length us → r ≡ Bad [] us
same_bad q us r s (out e l) h n = absurd (let m = subst (λ x. length (left_of x) ≤ length q) h l in omega (arith, m, length-append us q))
  where
    left_of : Reply ℕ → List Lexeme
    left_of (Read a rs ts) = ts
    left_of (Bad rs ts) = ts
    left_of (Deep rs ts) = ts
same_bad q us r s (kept e) h n = shrunk r (sym e ∙ h)
  where
    no_records : (rs : List Recorded) → grown_records q rs ≡ [] → rs ≡ []
    no_records [] e = refl
    no_records (r ∷ rs) e = absurd (cc)

    shrunk : (r : Reply ℕ) → grown q r ≡ Bad [] (us ++ q) → r ≡ Bad [] us
    shrunk (Read a rs ts) e = absurd (cc)
    shrunk (Bad rs ts) e = let f : grown_records q rs ≡ [] = cc in let g : ts ++ q ≡ us ++ q = cc in ap (λ x. Bad x ts) (no_records rs f) ∙ ap (Bad []) (append_cancel_right ts us q g)
    shrunk (Deep rs ts) e = absurd (cc)

-- a token that closes a parenthesis, and one that opens a bracket

paren_kind : (k : Kind) → closed_by (part_of k) ≡ Some Paren → k ≡ kind.Mark mark.CLOSE_PAREN
paren_kind kind.Name e = absurd (cc)
paren_kind kind.Number e = absurd (cc)
paren_kind kind.Str e = absurd (cc)
paren_kind kind.TemplateWhole e = absurd (cc)
paren_kind kind.TemplateHead e = absurd (cc)
paren_kind kind.TemplateMiddle e = absurd (cc)
paren_kind kind.TemplateTail e = absurd (cc)
paren_kind (kind.Word i) e = absurd (cc)
paren_kind (kind.Mark i) e = ap kind.Mark (eqb-true i mark.CLOSE_PAREN (by (nat_eq i mark.OPEN_PAREN) (nat_eq i mark.CLOSE_PAREN) (nat_eq i mark.OPEN_BRACKET) (nat_eq i mark.CLOSE_BRACKET) (nat_eq i mark.OPEN_BRACE) (nat_eq i mark.CLOSE_BRACE) e))
  where
    by : (a b c d f g : Bool) → closed_by (if a then Opening Paren else (if b then Closing Paren else (if c then Opening Square else (if d then Closing Square else (if f then Opening Brace else (if g then Closing Brace else Other)))))) ≡ Some Paren → b ≡ true
    by true b c d f g h = absurd (cc)
    by false true c d f g h = refl
    by false false true d f g h = absurd (cc)
    by false false false true f g h = absurd (cc)
    by false false false false true g h = absurd (cc)
    by false false false false false true h = absurd (cc)
    by false false false false false false h = absurd (cc)
paren_kind kind.Bad e = absurd (cc)
paren_kind kind.End e = absurd (cc)

opens_no_comma : (k : Kind) (b : Bracket) → opened_by (part_of k) ≡ Some b → is_mark mark.COMMA k ≡ false
opens_no_comma k b e = by (is_mark mark.COMMA k) refl
  where
    by : (c : Bool) → is_mark mark.COMMA k ≡ c → is_mark mark.COMMA k ≡ false
    by true h = absurd (no_some (sym (ap (λ j. opened_by (part_of j)) (mark_known mark.COMMA k h)) ∙ e))
      where
        no_some : {A : Type 0} {x : A} → None ≡ Some x → ⊥
        no_some k = cc
    by false h = h

ltb-not : (n q : ℕ) → q ≤ n → nat_lt n q ≡ false
ltb-not n q l = by (nat_lt n q) refl
  where
    by : (b : Bool) → nat_lt n q ≡ b → nat_lt n q ≡ false
    by true e = absurd (omega (arith, ltb-true n q e, l))
    by false e = e

module _ (s : Source) (h : IsSource s) (i : Interpretation) where
  f : Token → Lexeme
  f = lexeme_of s.get s.set i.texts

  unfoldable pub ls : List Lexeme
  ls = lexemes s i

  pub more : List Lexeme
  more = map (lexeme_of s.get s.set i.texts) h.behind

  size : length ls ≡ length s.tokens.now
  unfolding ls
  size = length-map s.tokens.now (lexeme_of s.get s.set i.texts)

  whole : map (lexeme_of s.get s.set i.texts) (s.tokens.now ++ h.behind) ≡ ls ++ more
  unfolding ls more
  whole = map-append (lexeme_of s.get s.set i.texts) s.tokens.now h.behind

  whole_kinds : kinds (ls ++ more) ≡ kinds_of (s.tokens.now ++ h.behind)
  whole_kinds = ap kinds (sym whole) ∙ kinds_mapped (lexeme_of s.get s.set i.texts) (λ t. refl) (s.tokens.now ++ h.behind)

  pub matches : IsMatching (kinds (ls ++ more)) s.brackets.now
  matches = subst (λ ks. IsMatching ks s.brackets.now) (sym whole_kinds) h.matching

  pub within : suc s.brackets.now.stop ≡ length ls
  within = h.stop ∙ sym size

  pub inner : AllInner (take s.brackets.now.stop ls)
  unfolding ls
  inner = all_inner (lexeme_of s.get s.set i.texts) (λ t. refl) s.tokens.now s.brackets.now.stop (let e = h.stop in omega arith) h.inner

  inner_whole : AllInner (take s.brackets.now.stop (ls ++ more))
  inner_whole = subst AllInner (sym (take-append-le s.brackets.now.stop ls more (let e = within in omega arith))) inner

  pub kind_at : (a : ℕ) (d : Lexeme) → a < length ls → get_or (kinds (ls ++ more)) a kind.End ≡ (get_or ls a d).kind
  kind_at a d l = get_or-map (λ t. t.kind) (ls ++ more) a d kind.End (let e = length-append ls more in omega arith) ∙ ap (λ t. t.kind) (get_or-append ls more d a l)

  -- where a mark stands, a token stands
  stands : (m a : ℕ) → is_mark m (head_of (front s i a)).kind ≡ true → (a < length ls) × ((get_or ls a end_lexeme).kind ≡ kind.Mark m)
  unfolding front ls
  stands m a e = elim (below (length (lexemes s i)) a) [
    | inl l ↦ (l, ap (λ ts. (head_of ts).kind) (sym (drop-cons (lexemes s i) a end_lexeme l)) ∙ mark_known m (head_of (drop a (lexemes s i))).kind e)
    | inr l ↦ absurd (true_false (sym e ∙ ap (λ ts. is_mark m (head_of ts).kind) (drop-all a (lexemes s i) l)))
  ]
    where
      below : (n k : ℕ) → (k < n) ⊎ (n ≤ k)
      below zero k = inr (omega arith)
      below (suc n) zero = inl (omega arith)
      below (suc n) (suc k) = elim (below n k) [ inl l ↦ inl (omega arith) | inr l ↦ inr (omega arith) ]

      drop-all : (n : ℕ) (xs : List Lexeme) → length xs ≤ n → drop n xs ≡ []
      drop-all zero [] l = refl
      drop-all zero (x ∷ xs) l = absurd (omega arith)
      drop-all (suc n) [] l = refl
      drop-all (suc n) (x ∷ xs) l = drop-all n xs (omega arith)

  opens : (m a : ℕ) (b : Bracket) → part_of (kind.Mark m) ≡ Opening b → is_mark m (head_of (front s i a)).kind ≡ true → part_at (kinds (ls ++ more)) a ≡ Opening b
  opens m a b p e = let x = stands m a e in ap part_of (kind_at a end_lexeme x.0 ∙ x.1) ∙ p

  behind_size : length more ≡ length h.behind
  unfolding more
  behind_size = length-map h.behind (lexeme_of s.get s.set i.texts)

  -- the last token of a text that ends with the stop
  stop_kind : (get_or s.tokens.now s.brackets.now.stop no_token).kind ≡ (get_or ls s.brackets.now.stop end_lexeme).kind
  unfolding ls
  stop_kind = ap (λ (t : Lexeme). t.kind) (sym (get_or-map (lexeme_of s.get s.set i.texts) s.tokens.now s.brackets.now.stop no_token end_lexeme (let w = h.stop in omega arith)))

  pub stop_ends : length (ls ++ more) ≡ length ls → IsInner (get_or ls s.brackets.now.stop end_lexeme).kind → ⊥
  stop_ends last k = last_kind (get_or s.tokens.now s.brackets.now.stop no_token).kind (h.last no_token (nil_from_length h.behind (omega (arith, last, behind_size, length-append ls more)))) (subst IsInner (sym stop_kind) k)

  -- an opening bracket stands before the stop
  before : (m a : ℕ) (b : Bracket) → part_of (kind.Mark m) ≡ Opening b → is_mark m (head_of (front s i a)).kind ≡ true → a < s.brackets.now.stop
  before m a b p e = elim (under a s.brackets.now.stop (let x = stands m a e in let w = within in omega (arith, x.0))) [ inl l ↦ l | inr l ↦ absurd (stop_opens l) ]
    where
      under : (x y : ℕ) → x < suc y → (x < y) ⊎ (x ≡ y)
      under zero zero l = inr refl
      under zero (suc y) l = inl (omega arith)
      under (suc x) zero l = absurd (omega arith)
      under (suc x) (suc y) l = elim (under x y (omega arith)) [ inl k ↦ inl (omega arith) | inr k ↦ inr (ap suc k) ]

      no_some : {A : Type 0} {x : A} → Some x ≡ None → ⊥
      no_some e = cc

      stop_opens : a ≡ s.brackets.now.stop → ⊥
      stop_opens l = elim matches.stop.stops [
        | inl last ↦ stop_ends (let z = length-map (ls ++ more) (λ (t : Lexeme). t.kind) in let w = within in omega (arith, last)) (subst IsInner (sym (stands m a e).1 ∙ ap (λ n. (get_or ls n end_lexeme).kind) l) tt)
        | inr none ↦ no_some (sym (ap (next_open matches.stop.stack) (ap (part_at (kinds (ls ++ more))) (sym l) ∙ opens m a b p e)) ∙ none)
      ]

  ends : suc s.brackets.now.stop ≡ length (ls ++ more) → IsInner (get_or (ls ++ more) s.brackets.now.stop end_lexeme).kind → ⊥
  ends last k = stop_ends (let w = within in omega (arith, last)) (subst (λ (t : Lexeme). IsInner t.kind) (get_or-append ls more end_lexeme s.brackets.now.stop (let w = within in omega arith)) k)

  -- tokens that match among these
  pairs : (a p : ℕ) → p < length ls → Pairs (kinds (ls ++ more)) a p → Pairs (kinds ls) a p
  pairs a p l x = record {
    before = x.before;
    bracket = x.bracket;
    opened = ap (λ k. opened_by (part_of k)) (sym (part a (let b = x.before in omega arith))) ∙ x.opened;
    closed = ap (λ k. closed_by (part_of k)) (sym (part p l)) ∙ x.closed;
    balanced = subst (λ ks. IsBalanced (drop (suc a) ks)) (ap (take p) (map-append (λ (t : Lexeme). t.kind) ls more) ∙ take-append-le p (kinds ls) (kinds more) (let z = length-map ls (λ (t : Lexeme). t.kind) in omega arith)) x.balanced;
  }
    where
      part : (n : ℕ) → n < length ls → get_or (kinds (ls ++ more)) n kind.End ≡ get_or (kinds ls) n kind.End
      part n k = ap (λ ks. get_or ks n kind.End) (map-append (λ (t : Lexeme). t.kind) ls more) ∙ get_or-append (kinds ls) (kinds more) kind.End n (let z = length-map ls (λ (t : Lexeme). t.kind) in omega arith)

  same_kind : (n : ℕ) → n < length ls → get_or (kinds (ls ++ more)) n kind.End ≡ get_or (kinds ls) n kind.End
  same_kind n k = ap (λ ks. get_or ks n kind.End) (map-append (λ (t : Lexeme). t.kind) ls more) ∙ get_or-append (kinds ls) (kinds more) kind.End n (let z = length-map ls (λ (t : Lexeme). t.kind) in omega arith)

  -- and among all
  pairs_back : (a p : ℕ) → p < length ls → Pairs (kinds ls) a p → Pairs (kinds (ls ++ more)) a p
  pairs_back a p l x = record {
    before = x.before;
    bracket = x.bracket;
    opened = ap (λ k. opened_by (part_of k)) (same_kind a (let b = x.before in omega arith)) ∙ x.opened;
    closed = ap (λ k. closed_by (part_of k)) (same_kind p l) ∙ x.closed;
    balanced = subst (λ ks. IsBalanced (drop (suc a) ks)) (sym (ap (take p) (map-append (λ (t : Lexeme). t.kind) ls more) ∙ take-append-le p (kinds ls) (kinds more) (let z = length-map ls (λ (t : Lexeme). t.kind) in omega arith))) x.balanced;
  }

  opens_here : (m a : ℕ) (b : Bracket) → part_of (kind.Mark m) ≡ Opening b → is_mark m (head_of (front s i a)).kind ≡ true → part_at (kinds ls) a ≡ Opening b
  opens_here m a b p e = let x = stands m a e in ap part_of (get_or-map (λ (t : Lexeme). t.kind) ls a end_lexeme kind.End x.0 ∙ x.1) ∙ p

  partner_pairs : (m a p : ℕ) (b : Bracket) → part_of (kind.Mark m) ≡ Opening b → is_mark m (head_of (front s i a)).kind ≡ true → partner_of s.brackets.now a ≡ Some p → (p < s.brackets.now.stop) × Pairs (kinds ls) a p
  partner_pairs m a p b q e g =
      let x = matches.partner a p g in (
        x.partner,
        elim x.pairs [
          | inl pair ↦ pairs a p (let w = within in let l = x.partner in omega arith) pair
          | inr back ↦ absurd (no_some (sym (ap opened_by (opens m a b q e)) ∙ back.0))
        ],
      )
    where
      no_some : {A : Type 0} {x : A} → Some x ≡ None → ⊥
      no_some e = cc

  front_at : (a : ℕ) → drop a ls ≡ front s i a
  unfolding front ls
  front_at a = refl

  front_rest : (a : ℕ) → rest_of (front s i a) ≡ drop (suc a) ls
  unfolding front ls
  front_rest a = drop-rest a (lexemes s i)
    where
      drop-rest : (n : ℕ) (xs : List Lexeme) → rest_of (drop n xs) ≡ drop (suc n) xs
      drop-rest zero [] = refl
      drop-rest zero (x ∷ xs) = refl
      drop-rest (suc n) [] = refl
      drop-rest (suc n) (x ∷ xs) = drop-rest n xs

  front_head : (p : ℕ) → p < length ls → get_or ls p end_lexeme ≡ head_of (front s i p)
  unfolding front ls
  front_head p l = sym (ap head_of (drop-cons (lexemes s i) p end_lexeme l))

  pub pass_some : (a p : ℕ) → is_mark mark.OPEN_BRACE (head_of (front s i a)).kind ≡ true → partner_of s.brackets.now a ≡ Some p → pass_over (brace ∷ []) (rest_of (front s i a)) ≡ Read (head_of (front s i p)).end [] (rest_of (front s i p))
  pass_some a p e g =
      let x = partner_pairs mark.OPEN_BRACE a p Brace refl e g in
      ap (pass_over (brace ∷ [])) (front_rest a)
      ∙ walk-paired pass_over (λ t ts. Bad [] (t ∷ ts)) (λ t ts. Read t.end [] ts) pass_over-walks ls a p s.brackets.now.stop Brace end_lexeme refl (opens_here mark.OPEN_BRACE a Brace refl e) x.0 (let w = within in omega arith) inner x.1
      ∙ ap (λ t. Read t.end [] (drop (suc p) ls)) (front_head p (let w = within in let l = x.0 in omega arith)) ∙ ap (λ ts. Read (head_of (front s i p)).end [] ts) (sym (front_rest p))

  pub arrow_some : (a p : ℕ) → is_mark mark.OPEN_PAREN (head_of (front s i a)).kind ≡ true → partner_of s.brackets.now a ≡ Some p → arrow_behind (paren ∷ []) (rest_of (front s i a)) ≡ is_arrow (head_of (rest_of (front s i p)))
  arrow_some a p e g =
      let x = partner_pairs mark.OPEN_PAREN a p Paren refl e g in
      ap (arrow_behind (paren ∷ [])) (front_rest a)
      ∙ walk-paired arrow_behind (λ t ts. false) (λ t ts. is_arrow (head_of ts)) arrow_behind-walks ls a p s.brackets.now.stop Paren end_lexeme refl (opens_here mark.OPEN_PAREN a Paren refl e) x.0 (let w = within in omega arith) inner x.1
      ∙ ap (λ ts. is_arrow (head_of ts)) (sym (front_rest p))

  cut : (n : ℕ) → n < length ls → drop n (ls ++ more) ≡ drop n ls ++ more
  cut n l = drop-append-le n ls more (omega arith)

  pub pass_none : (a : ℕ) → is_mark mark.OPEN_BRACE (head_of (front s i a)).kind ≡ true → partner_of s.brackets.now a ≡ None → pass_over (brace ∷ []) (rest_of (front s i a)) ≡ Bad [] (front s i s.brackets.now.stop)
  pass_none a e g =
      let l = before mark.OPEN_BRACE a Brace refl e in
      ap (pass_over (brace ∷ [])) (front_rest a)
      ∙ same_bad more (drop s.brackets.now.stop ls) (pass_over (brace ∷ []) (drop (suc a) ls)) (pass_over (brace ∷ []) (drop (suc a) ls ++ more)) ((pass_local (brace ∷ [])).same (drop (suc a) ls) more)
      (ap (pass_over (brace ∷ [])) (sym (cut (suc a) (let w = within in omega (arith, l))))
      ∙ pass_over-alone (ls ++ more) s.brackets.now a end_lexeme matches inner_whole ends (opens mark.OPEN_BRACE a Brace refl e) l g
      ∙ ap (Bad []) (cut s.brackets.now.stop (let w = within in omega arith)))
      (subst (λ xs. 0 < length xs) (sym (drop-cons ls s.brackets.now.stop end_lexeme (let w = within in omega arith))) (omega arith))
      ∙ ap (Bad []) (front_at s.brackets.now.stop)

  pub arrow_none : (a : ℕ) → is_mark mark.OPEN_PAREN (head_of (front s i a)).kind ≡ true → partner_of s.brackets.now a ≡ None → arrow_behind (paren ∷ []) (rest_of (front s i a)) ≡ false
  arrow_none a e g =
      let l = before mark.OPEN_PAREN a Paren refl e in
      ap (arrow_behind (paren ∷ [])) (front_rest a)
      ∙ elim (behind_local paren [] (drop (suc a) ls) more) [
        | inl same ↦ sym same ∙ ap (arrow_behind (paren ∷ [])) (sym (cut (suc a) (let w = within in omega (arith, l)))) ∙ arrow_behind-alone (ls ++ more) s.brackets.now a matches inner_whole ends (opens mark.OPEN_PAREN a Paren refl e) l g
        | inr runs ↦ runs_false paren [] (drop (suc a) ls) runs
      ]

  -- The walk over a parenthesis from each bracket to its partner.
  module _ (a p : ℕ) (e : is_mark mark.OPEN_PAREN (head_of (front s i a)).kind ≡ true) (g : partner_of s.brackets.now a ≡ Some p) where
    pairing : (p < s.brackets.now.stop) × Pairs (kinds ls) a p
    pairing = partner_pairs mark.OPEN_PAREN a p Paren refl e g

    pub closes_behind : a < p
    closes_behind = pairing.1.before

    closes_within : p < length ls
    closes_within = let w = within in let l = pairing.0 in omega arith

    closes_inner : AllInner (take (suc p) ls)
    closes_inner = inner-take ls (suc p) s.brackets.now.stop (let l = pairing.0 in omega arith) inner

    abbrev Strides : ℕ → Bool → Type 0
    Strides n starts = Striding (lexemes s i) a p n starts

    pub striding_init : Strides (a + 1) true
    unfolding ls
    striding_init = subst (λ n. Striding ls a p n true) (sym (add-one a)) (strides_init ls a p end_lexeme closes_within closes_inner pairing.1)

    lexeme_at : (n : ℕ) → n < p → get_or ls n end_lexeme ≡ head_of (front s i n)
    lexeme_at n l = front_head n (let w = closes_within in omega arith)

    begins_at : (n : ℕ) → n < p → begins_param (get_or ls n end_lexeme) (head_of (drop (suc n) ls)) ≡ begins_param (head_of (front s i n)) (head_of (rest_of (front s i n)))
    begins_at n l = ap (λ t. begins_param t (head_of (drop (suc n) ls))) (lexeme_at n l) ∙ ap (λ ts. begins_param (head_of (front s i n)) (head_of ts)) (sym (front_rest n))

    same_walk : only_params true (paren ∷ []) (drop (suc a) ls) ≡ only_params true (paren ∷ []) (rest_of (front s i a))
    same_walk = ap (only_params true (paren ∷ [])) (sym (front_rest a))

    pub striding_stop : (n : ℕ) → n < p → Strides n true → begins_param (head_of (front s i n)) (head_of (rest_of (front s i n))) ≡ false → false ≡ only_params true (paren ∷ []) (rest_of (front s i a))
    unfolding ls
    striding_stop n l h b = sym (strides_stop ls a p end_lexeme closes_within closes_inner pairing.1 n l h (begins_at n l ∙ b)) ∙ same_walk

    pub striding_end : (n : ℕ) (starts : Bool) → p ≤ n → Strides n starts → true ≡ only_params true (paren ∷ []) (rest_of (front s i a))
    unfolding ls
    striding_end n starts l h = strides_end ls a p end_lexeme closes_within closes_inner pairing.1 n starts l h closing ∙ same_walk
      where
        same : pairing.1.bracket ≡ Paren
        same = some_eq (sym (sym (ap opened_by (opens_here mark.OPEN_PAREN a Paren refl e)) ∙ pairing.1.opened))
          where
            some_eq : {A : Type 0} {x y : A} → Some x ≡ Some y → x ≡ y
            some_eq k = cc

        closing : (get_or ls p end_lexeme).kind ≡ kind.Mark mark.CLOSE_PAREN
        closing = paren_kind (get_or ls p end_lexeme).kind (ap closed_by (sym (part-read ls p end_lexeme closes_within)) ∙ pairing.1.closed ∙ ap Some same)

    no_some : {A : Type 0} {x : A} → None ≡ Some x → ⊥
    no_some k = cc

    -- a token that opens nothing has no partner after it
    stride_one : (n : ℕ) (o : Option ℕ) → n < p → partner_of s.brackets.now n ≡ o → opened_by (part_at (kinds ls) n) ≡ None → stride o n ≡ suc n
    stride_one n None l k z = refl
    stride_one n (Some q) l k z = elim (matches.partner n q k).pairs [
      | inl x ↦ absurd (no_some (sym z ∙ ap (λ j. opened_by (part_of j)) (sym (same_kind n (let w = closes_within in omega arith))) ∙ x.opened))
      | inr x ↦ ap (λ b. if b then q else suc n) (ltb-not n q (let b = x.1.before in omega arith))
    ]

    -- and one that opens a bracket has the one that closes it
    stride_jump : (n q : ℕ) → q < p → Pairs (kinds ls) n q → stride (partner_of s.brackets.now n) n ≡ q
    stride_jump n q l x =
        let y : partner_of s.brackets.now n ≡ Some q = matches.only n q (record { token = (let b = x.before in let w = pairing.0 in omega arith); partner = (let w = pairing.0 in omega arith); pairs = inl (pairs_back n q (let w = closes_within in omega arith) x) }) in
        ap (λ o. stride o n) y ∙ ap (λ b. if b then q else suc n) (lt-ltb n q x.before)

    pub striding_next : (n : ℕ) (starts : Bool) → n < p → Strides n starts → (not starts || begins_param (head_of (front s i n)) (head_of (rest_of (front s i n)))) ≡ true → Strides (stride (partner_of s.brackets.now n) n) (is_mark mark.COMMA (head_of (front s i n)).kind)
    unfolding ls
    striding_next n starts l h b = by (opened_by (part_at (kinds ls) n)) refl
      where
        fits : (not starts || begins_param (get_or ls n end_lexeme) (head_of (drop (suc n) ls))) ≡ true
        fits = ap (λ x. not starts || x) (begins_at n l) ∙ b

        by : (o : Option Bracket) → opened_by (part_at (kinds ls) n) ≡ o → Striding ls a p (stride (partner_of s.brackets.now n) n) (is_mark mark.COMMA (head_of (front s i n)).kind)
        by None o =
            subst (λ x. Striding ls a p x (is_mark mark.COMMA (head_of (front s i n)).kind)) (sym (stride_one n (partner_of s.brackets.now n) l refl o))
            (subst (λ (t : Lexeme). Striding ls a p (suc n) (is_mark mark.COMMA t.kind)) (lexeme_at n l) (strides_step ls a p end_lexeme closes_within closes_inner pairing.1 n starts l h fits o))
        by (Some c) o =
            let j = strides_jump ls a p end_lexeme closes_within closes_inner pairing.1 n starts c l h fits o in
            subst (λ x. Striding ls a p x (is_mark mark.COMMA (head_of (front s i n)).kind)) (sym (stride_jump n j.to j.below j.pairs))
            (subst (Striding ls a p j.to) (sym (opens_no_comma (head_of (front s i n)).kind c (ap (λ (t : Lexeme). opened_by (part_of t.kind)) (sym (lexeme_at n l)) ∙ ap opened_by (sym (part-read ls n end_lexeme (let w = closes_within in omega arith))) ∙ o))) j.behind)

-- some interpretation, for what is so under each
any_texts : Interpretation
any_texts = record { texts = []; bodies = λ start. no_stmts }

-- the partner of a parenthesis that opens stands after it
pub opens_before : (s : Source) → IsSource s → (a p : ℕ) → ((i : Interpretation) → is_mark mark.OPEN_PAREN (head_of (front s i a)).kind ≡ true) → partner_of s.brackets.now a ≡ Some p → a < p
opens_before s h a p e g = closes_behind s h any_texts a p (e any_texts) g
