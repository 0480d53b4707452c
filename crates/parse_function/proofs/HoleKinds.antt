-- Kinds of tokens that are those of a head.
use Rattle.std.proofs.Common.{◌≡◌, ◌∙◌, ℕ, zero, suc, ◌+◌, ◌<◌, ◌⊎◌, inl, inr, List, [], ◌∷◌, ◌++◌, length, take, drop, slice_index_or, Bool, true, false, cond, nat_eq, Option, Some, None, refl, sym, ap, subst, arith}
use Rattle.std.specs.Prelude.{slice_get}
use Rattle.std.proofs.lemmas.Bool.{eqb-true}
use Rattle.std.proofs.Math.Seq.{take-suc}
use Rattle.script_grammar.specs.declared.brackets.Bracket.{Bracket}
use Rattle.script_grammar.specs.declared.brackets.Bracket.TheVariants.{Paren, Square, Brace}
use Rattle.script_grammar.specs.declared.brackets.BracketPart.TheVariants.{Opening, Closing, Other}
use Rattle.script_grammar.specs.declared.token.Kind.{Kind}
use Rattle.script_grammar.specs.declared.token.Kind.TheVariants as kind
use Rattle.script_grammar.specs.declared.token.mark.TheConstants as mark
use Rattle.script_grammar.specs.declared.token.Token.{Token}
use Rattle.script_grammar.specs.Matching.{Pairs, Matching, IsMatching, partner_of, IsBalanced, part_of, part_at, opened_by, closed_by, kinds_of}
use Rattle.parse_function.specs.declared.holes.Beginning.TheVariants.{Braced}
use Rattle.parse_function.specs.Holes.{IsKindAt, no_arrow, arrow, IsHeadOf, single, listed, IsHeadLength, BeginsWithHead, EndsWithHead}

-- ---- an arrow's single name

same_kind : (a b : Kind) → ◌≡◌ {A = Option Kind} (Some a) (Some b) → a ≡ b
same_kind a b e = cc

no_kind : (a : Kind) → ◌≡◌ {A = Option Kind} None (Some a) → ⊥
no_kind a e = cc

pub name_head : (ks : List Kind) → IsKindAt ks 0 kind.Name → IsKindAt ks 1 (kind.Mark mark.ARROW) → IsHeadLength ks 2
name_head [] h k = absurd (no_kind kind.Name h)
name_head (a ∷ []) h k = absurd (no_kind (kind.Mark mark.ARROW) k)
name_head (a ∷ b ∷ ks) h k =
    let first : a ≡ kind.Name = same_kind a kind.Name h in
    let second : b ≡ kind.Mark mark.ARROW = same_kind b (kind.Mark mark.ARROW) k in
    record { within = omega arith; is = subst IsHeadOf (ap (λ x. x ∷ kind.Mark mark.ARROW ∷ []) (sym first) ∙ ap (λ x. a ∷ x ∷ []) (sym second)) single }

-- ---- parameters in parentheses

no_bracket : ◌≡◌ {A = Option Bracket} None (Some Paren) → ⊥
no_bracket e = cc

closer_is : (k : Kind) → closed_by (part_of k) ≡ Some Paren → k ≡ kind.Mark mark.CLOSE_PAREN
closer_is kind.Name e = absurd (no_bracket e)
closer_is kind.Number e = absurd (no_bracket e)
closer_is kind.Str e = absurd (no_bracket e)
closer_is kind.TemplateWhole e = absurd (no_bracket e)
closer_is kind.TemplateHead e = absurd (no_bracket e)
closer_is kind.TemplateMiddle e = absurd (cc)
closer_is kind.TemplateTail e = absurd (cc)
closer_is (kind.Word i) e = absurd (no_bracket e)
closer_is kind.Bad e = absurd (no_bracket e)
closer_is kind.End e = absurd (no_bracket e)
closer_is (kind.Mark i) e = by (nat_eq i mark.OPEN_PAREN) (nat_eq i mark.CLOSE_PAREN) (nat_eq i mark.OPEN_BRACKET) (nat_eq i mark.CLOSE_BRACKET) (nat_eq i mark.OPEN_BRACE) (nat_eq i mark.CLOSE_BRACE) refl e
  where
    by : (a b c d f g : Bool) → nat_eq i mark.CLOSE_PAREN ≡ b
        → closed_by (cond a (Opening Paren) (cond b (Closing Paren) (cond c (Opening Square) (cond d (Closing Square) (cond f (Opening Brace) (cond g (Closing Brace) Other)))))) ≡ Some Paren → kind.Mark i ≡ kind.Mark mark.CLOSE_PAREN
    by true b c d f g same h = absurd (no_bracket h)
    by false true c d f g same h = ap (λ n. kind.Mark n) (eqb-true i mark.CLOSE_PAREN same)
    by false false true d f g same h = absurd (no_bracket h)
    by false false false true f g same h = absurd (cc)
    by false false false false true g same h = absurd (no_bracket h)
    by false false false false false true same h = absurd (cc)
    by false false false false false false same h = absurd (no_bracket h)

-- the partner of the first token closes it
pub pairs_of : (ks : List Kind) (m : Matching) → IsMatching ks m → (p : ℕ) → partner_of m 0 ≡ Some p → Pairs ks 0 p
pairs_of ks m h p e = by (h.partner 0 p e).pairs
  where
    by : Pairs ks 0 p ⊎ ((opened_by (part_at ks 0) ≡ None) × Pairs ks p 0) → Pairs ks 0 p
    by (inl q) = q
    by (inr q) = absurd (let lt = q.1.before in omega (arith, lt))

-- the token of a number is there where it closes something
there : (ks : List Kind) (n : ℕ) → closed_by (part_of (slice_index_or ks n kind.End)) ≡ Some Paren → n < length ks
there [] n e = absurd (no_bracket e)
there (k ∷ ks) zero e = omega arith
there (k ∷ ks) (suc n) e = let lt = there ks n e in omega (arith, lt)

one_less : (ks : List Kind) (n : ℕ) (k : Kind) → slice_get ks n ≡ Some k → n < length ks
one_less [] n k e = absurd (no_kind k e)
one_less (x ∷ ks) zero k e = omega arith
one_less (x ∷ ks) (suc n) k e = let lt = one_less ks n k e in omega (arith, lt)

kind_there : (ks : List Kind) (n : ℕ) (k : Kind) → slice_get ks n ≡ Some k → slice_index_or ks n kind.End ≡ k
kind_there [] n k e = absurd (no_kind k e)
kind_there (x ∷ ks) zero k e = same_kind x k e
kind_there (x ∷ ks) (suc n) k e = kind_there ks n k e

module _ (ks : List Kind) (opens : IsKindAt ks 0 (kind.Mark mark.OPEN_PAREN)) (closer : ℕ) (pairs : Pairs ks 0 closer) where
  opener_is : slice_index_or ks 0 kind.End ≡ kind.Mark mark.OPEN_PAREN
  opener_is = kind_there ks 0 (kind.Mark mark.OPEN_PAREN) opens

  is_paren : pairs.bracket ≡ Paren
  is_paren = let e : ◌≡◌ {A = Option Bracket} (Some Paren) (Some pairs.bracket) = ap (λ k. opened_by (part_of k)) (sym opener_is) ∙ pairs.opened in cc

  closes : closed_by (part_of (slice_index_or ks closer kind.End)) ≡ Some Paren
  closes = pairs.closed ∙ ap (λ b. Some b) is_paren

  closer_there : slice_index_or ks closer kind.End ≡ kind.Mark mark.CLOSE_PAREN
  closer_there = closer_is (slice_index_or ks closer kind.End) closes

  last_within : closer < length ks
  last_within = there ks closer closes

  -- the first tokens
  front_is : (rest : List Kind) (n : ℕ) → ks ≡ kind.Mark mark.OPEN_PAREN ∷ rest → closer ≡ suc n → (n < length rest) × (slice_index_or rest n kind.End ≡ kind.Mark mark.CLOSE_PAREN) × IsBalanced (take n rest)
  front_is rest n e f =
      let long = ap (λ (xs : List Kind). length xs) e in
      let lt = last_within in (
        omega (arith, long, lt, f),
        ap (λ (xs : List Kind). slice_index_or xs (suc n) kind.End) (sym e) ∙ ap (λ m. slice_index_or ks m kind.End) (sym f) ∙ closer_there,
        subst (λ (xs : List Kind). IsBalanced (drop 1 (take (suc n) xs))) e (subst (λ m. IsBalanced (drop 1 (take m ks))) f pairs.balanced),
      )

  split : (xs : List Kind) → ks ≡ xs → (rest : List Kind) × (xs ≡ kind.Mark mark.OPEN_PAREN ∷ rest)
  split [] e = absurd (no_kind (kind.Mark mark.OPEN_PAREN) (ap (λ (ys : List Kind). slice_get ys 0) (sym e) ∙ opens))
  split (x ∷ rest) e = (rest, ap (λ y. y ∷ rest) (same_kind x (kind.Mark mark.OPEN_PAREN) (ap (λ (ys : List Kind). slice_get ys 0) (sym e) ∙ opens)))

  before : (n : ℕ) → closer ≡ n → (m : ℕ) × (closer ≡ suc m)
  before zero e = absurd (let lt = pairs.before in omega (arith, e, lt))
  before (suc n) e = (n, e)

  params_at : (rest : List Kind) (n : ℕ) → ks ≡ kind.Mark mark.OPEN_PAREN ∷ rest → closer ≡ suc n → IsHeadLength ks (closer + 1)
  params_at rest n e f =
      let q = front_is rest n e f in
      let many : closer + 1 ≡ suc (suc n) = omega (arith, f) in
      record {
        within = let lt = last_within in omega (arith, lt);
        is = subst IsHeadOf (ap (λ (xs : List Kind). kind.Mark mark.OPEN_PAREN ∷ xs) (sym (take-suc rest n kind.End q.0 ∙ ap (λ k. take n rest ++ k ∷ []) q.1)) ∙ ap (take (suc (suc n))) (sym e) ∙ ap (λ m. take m ks) (sym many))
            (listed (take n rest) [] (kind.Mark mark.OPEN_PAREN ∷ (take n rest ++ kind.Mark mark.CLOSE_PAREN ∷ [])) q.2 no_arrow refl);
      }

  pub params_head : IsHeadLength ks (closer + 1)
  params_head = let r = split ks refl in let m = before closer refl in params_at r.0 m.0 r.1 m.1

  arrow_at : (rest : List Kind) (n : ℕ) → ks ≡ kind.Mark mark.OPEN_PAREN ∷ rest → closer ≡ suc n → IsKindAt ks (closer + 1) (kind.Mark mark.ARROW) → IsHeadLength ks (closer + 1 + 1)
  arrow_at rest n e f a =
      let q = front_is rest n e f in
      let next : closer + 1 ≡ suc (suc n) = omega (arith, f) in
      let many : closer + 1 + 1 ≡ suc (suc (suc n)) = omega (arith, f) in
      let lt = one_less ks (closer + 1) (kind.Mark mark.ARROW) a in
      let long = ap (λ (xs : List Kind). length xs) e in
      let sign : slice_index_or rest (suc n) kind.End ≡ kind.Mark mark.ARROW =
      ap (λ (xs : List Kind). slice_index_or xs (suc (suc n)) kind.End) (sym e) ∙ ap (λ m. slice_index_or ks m kind.End) (sym next) ∙ kind_there ks (closer + 1) (kind.Mark mark.ARROW) a in
      record {
        within = omega (arith, lt);
        is = subst IsHeadOf (ap (λ (xs : List Kind). kind.Mark mark.OPEN_PAREN ∷ xs) (sym (two rest n q.0 q.1 (omega (arith, lt, next, long)) sign)) ∙ ap (take (suc (suc (suc n)))) (sym e) ∙ ap (λ m. take m ks) (sym many))
            (listed (take n rest) (kind.Mark mark.ARROW ∷ []) (kind.Mark mark.OPEN_PAREN ∷ (take n rest ++ kind.Mark mark.CLOSE_PAREN ∷ kind.Mark mark.ARROW ∷ [])) q.2 arrow refl);
      }
    where
      two : (xs : List Kind) (m : ℕ) → m < length xs → slice_index_or xs m kind.End ≡ kind.Mark mark.CLOSE_PAREN → suc m < length xs → slice_index_or xs (suc m) kind.End ≡ kind.Mark mark.ARROW
          → take (suc (suc m)) xs ≡ take m xs ++ kind.Mark mark.CLOSE_PAREN ∷ kind.Mark mark.ARROW ∷ []
      two [] m lt g more h = absurd (omega (arith, lt))
      two (x ∷ []) zero lt g more h = absurd (omega (arith, more))
      two (x ∷ y ∷ xs) zero lt g more h = ap (λ z. z ∷ y ∷ []) g ∙ ap (λ z. kind.Mark mark.CLOSE_PAREN ∷ z ∷ []) h
      two (x ∷ xs) (suc m) lt g more h = ap (λ (zs : List Kind). x ∷ zs) (two xs m (omega (arith, lt)) g (omega (arith, more)) h)

  pub arrow_head : IsKindAt ks (closer + 1) (kind.Mark mark.ARROW) → IsHeadLength ks (closer + 1 + 1)
  arrow_head a = let r = split ks refl in let m = before closer refl in arrow_at r.0 m.0 r.1 m.1 a

-- ---- tokens that are a head, a brace and a last one

record Split (ts : List Token) (n : ℕ) (d : Token) : Type 0 where
  front : List Token
  opener : Token
  last : Token
  are : ts ≡ front ++ opener ∷ last ∷ []
  first : take n (kinds_of ts) ≡ kinds_of front
  at : slice_index_or ts n d ≡ opener
  kind_at : (k : Kind) → slice_get (kinds_of ts) n ≡ Some k → opener.kind ≡ k

split_at : (ts : List Token) (n : ℕ) (d : Token) → n + 2 ≡ length ts → Split ts n d
split_at [] n d e = absurd (omega (arith, e))
split_at (t ∷ []) n d e = absurd (omega (arith, e))
split_at (t ∷ u ∷ []) zero d e = record { front = []; opener = t; last = u; are = refl; first = refl; at = refl; kind_at = λ k h. same_kind t.kind k h }
split_at (t ∷ u ∷ v ∷ ts) zero d e = absurd (omega (arith, e))
split_at (t ∷ u ∷ ts) (suc n) d e =
    let r = split_at (u ∷ ts) n d (omega (arith, e)) in
    record { front = t ∷ r.front; opener = r.opener; last = r.last; are = ap (λ (xs : List Token). t ∷ xs) r.are; first = ap (λ (ks : List Kind). t.kind ∷ ks) r.first; at = r.at; kind_at = r.kind_at }

pub ends_head : (ts : List Token) (n end : ℕ) (d : Token) → BeginsWithHead (kinds_of ts) (Braced n) → n + 2 ≡ length ts → (slice_index_or ts n d).end ≡ end → EndsWithHead ts end
ends_head ts n end d h long ends =
    let r = split_at ts n d long in
    record {
      front = r.front;
      opener = r.opener;
      last = r.last;
      are = r.are;
      head = subst IsHeadOf r.first h.0.is;
      opens = r.kind_at (kind.Mark mark.OPEN_BRACE) h.1;
      ends = ap (λ (t : Token). t.end) (sym r.at) ∙ ends;
    }
