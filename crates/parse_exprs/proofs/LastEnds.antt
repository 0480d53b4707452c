-- Where the last token of a part ends that was read.
use Rattle.std.proofs.Common.{◌≡◌, ◌∙◌, ℕ, zero, suc, ◌+◌, ◌-◌, ◌<◌, ◌≤◌, List, [], ◌∷◌, take, length, get_or, Bool, true, false, nat_le, if◌then◌else◌, refl, ap, subst, arith}
use Rattle.std.proofs.lemmas.Bool.Decides.{nat_tests}
use Rattle.std.proofs.lemmas.List.{length-drop, length-map, get_or-drop, get_or-map}
use Rattle.script_grammar.specs.Interpretation.{Interpretation}
use Rattle.script_grammar.specs.Lexeme.{Lexeme, lexeme_of}
use Rattle.grammar_parser_specs.specs.Parser.{Recorded, Reply, Read, Bad, Deep, Parser, noted, end_lexeme}
use Rattle.grammar_parser_specs.specs.Exprs.{last_end, spanned, spanned_reply}
use Rattle.grammar_parser_laws.proofs.Local.{Eats, Ate}
use Rattle.parse_exprs.specs.declared.source.Source.{Source}
use Rattle.parse_exprs.specs.declared.place.Cursor.{Cursor}
use Rattle.parse_exprs.specs.declared.place.ParseFault.{ParseFault}
use Rattle.parse_exprs.specs.declared.place.ParseFault.TheVariants as faults
use Rattle.parse_exprs.specs.Answers.{ReadAs, Refuses}
use Rattle.parse_exprs.specs.Ends.{no_token, end_of, end_before}
use Rattle.parse_exprs.specs.Source.{front, lexemes}

ate_noted : {A : Type 0} (n : ℕ) (rs : List Recorded) (r : Reply A) → Ate n r → Ate n (noted rs r)
ate_noted n [] r h = h
ate_noted n (b ∷ bs) (Read a rs us) h = h
ate_noted n (b ∷ bs) (Bad rs us) h = tt
ate_noted n (b ∷ bs) (Deep rs us) h = tt

-- what was read has a lexeme
ate_read : {A : Type 0} (f : Parser A) → Eats f → (rs qs : List Recorded) (ts us : List Lexeme) (a : A) → ReadAs rs (f ts) a qs us → length us < length ts
ate_read f e rs qs ts us a h = subst (λ r. Ate (length ts) r) h.is (ate_noted (length ts) rs (f ts) (e.each ts))

spanned_noted : {A : Type 0} (ts : List Lexeme) (rs : List Recorded) (r : Reply A) → noted rs (spanned_reply ts r) ≡ spanned_reply ts (noted rs r)
spanned_noted ts [] r = refl
spanned_noted ts (b ∷ bs) (Read a rs us) = refl
spanned_noted ts (b ∷ bs) (Bad rs us) = refl
spanned_noted ts (b ∷ bs) (Deep rs us) = refl

pub refused_spanned : {A : Type 0} (s : Source) (i : Interpretation) (p : Cursor) (e : ParseFault) (rs : List Recorded) (f : Parser A) (ts : List Lexeme) → Refuses s i p e rs (f ts) → Refuses s i p e rs (spanned f ts)
refused_spanned s i p (faults.Unexpected k) rs f ts h = record { is = spanned_noted ts rs (f ts) ∙ ap (spanned_reply ts) h.is }
refused_spanned s i p (faults.TooDeep k) rs f ts h = record { is = spanned_noted ts rs (f ts) ∙ ap (spanned_reply ts) h.is }
refused_spanned s i p faults.NoMemory rs f ts h = tt

last_taken : (n m : ℕ) (d : Lexeme) (ls : List Lexeme) → n < length ls → last_end m (take (suc n) ls) ≡ (get_or ls n d).end
last_taken n m d [] h = absurd (omega arith)
last_taken zero m d (l ∷ ls) h = refl
last_taken (suc n) m d (l ∷ ls) h = last_taken n l.end d ls (omega arith)

module _ (s : Source) (i : Interpretation) where
  front_size : (at : ℕ) → length (front s i at) ≡ length s.tokens.now - at
  unfolding front
  front_size at = length-drop at (lexemes s i) ∙ ap (λ n. n - at) (length-map s.tokens.now (lexeme_of s.get s.set i.texts))

  front_end_at : (at n : ℕ) → at + n < length s.tokens.now → (get_or (front s i at) n end_lexeme).end ≡ (get_or s.tokens.now (at + n) no_token).end
  unfolding front
  front_end_at at n h =
      ap (λ (t : Lexeme). t.end) (get_or-drop at (lexemes s i) n end_lexeme)
      ∙ ap (λ (t : Lexeme). t.end) (get_or-map (lexeme_of s.get s.set i.texts) s.tokens.now (at + n) no_token end_lexeme h)

  ends_at : (at k : ℕ) → at ≤ k → k < length s.tokens.now → last_end 0 (take (suc (k - at)) (front s i at)) ≡ end_of s.tokens.now (suc k)
  ends_at at k h l =
      last_taken (k - at) 0 end_lexeme (front s i at) (let z = front_size at in omega arith)
      ∙ front_end_at at (k - at) (omega arith)
      ∙ ap (λ n. (get_or s.tokens.now n no_token).end) (let e : at + (k - at) ≡ k = omega arith in e)

  ends_by : (at n m : ℕ) → at < m → m ≤ length s.tokens.now → n ≡ m - at → last_end 0 (take n (front s i at)) ≡ end_of s.tokens.now m
  ends_by at n zero h l e = absurd (omega arith)
  ends_by at n (suc k) h l e = ap (λ x. last_end 0 (take x (front s i at))) (let z : n ≡ suc (k - at) = omega arith in z) ∙ ends_at at k (omega arith) (omega arith)

  ends_before : (at new : ℕ) → length (front s i new) < length (front s i at) → last_end 0 (take (length (front s i at) - length (front s i new)) (front s i at)) ≡ end_before s.tokens.now new
  ends_before at new h = split (nat_le new (length s.tokens.now)) refl
    where
      split : (b : Bool) → nat_le new (length s.tokens.now) ≡ b → last_end 0 (take (length (front s i at) - length (front s i new)) (front s i at)) ≡ end_of s.tokens.now (if b then new else length s.tokens.now)
      split true e =
          let l : new ≤ length s.tokens.now = grind (arith, nat_tests) in
          let y = front_size at in let z = front_size new in
          ends_by at (length (front s i at) - length (front s i new)) new (omega arith) l (omega arith)
      split false e =
          let l : length s.tokens.now < new = grind (arith, nat_tests) in
          let y = front_size at in let z = front_size new in
          ends_by at (length (front s i at) - length (front s i new)) (length s.tokens.now) (omega arith) (omega arith) (omega arith)

  -- a part that was read, with the end of its last token
  pub spanned_read : {A : Type 0} (f : Parser A) → Eats f → (rs qs : List Recorded) (at new : ℕ) (a : A) → ReadAs rs (f (front s i at)) a qs (front s i new) → ReadAs rs (spanned f (front s i at)) (record { value = a; end = end_before s.tokens.now new }) qs (front s i new)
  spanned_read f e rs qs at new a h = record {
    is = spanned_noted (front s i at) rs (f (front s i at))
        ∙ ap (spanned_reply (front s i at)) h.is
        ∙ ap (λ n. Read (record { value = a; end = n }) qs (front s i new)) (ends_before at new (ate_read f e rs qs (front s i at) (front s i new) a h));
  }
