-- What a walk over the tokens knows of their partners.
use Rattle.std.proofs.Common.{◌≡◌, ◌≢◌, ◌∙◌, ◌<◌, ◌≤◌, ◌+◌, ◌-◌, ◌⊎◌, inl, inr, ℕ, zero, suc, List, [], ◌∷◌, ◌++◌, Option, Some, None, length, get_or, refl, ap, sym, subst, arith, option_and_then}
use Rattle.std.proofs.lemmas.Bool.{cases_eq}
use Rattle.script_grammar.specs.declared.token.Kind.{Kind}
use Rattle.script_grammar.specs.declared.token.Kind.TheVariants as kind
use Rattle.script_grammar.specs.declared.brackets.Bracket.{Bracket}
use Rattle.script_grammar.specs.Matching.{part_at, all_open, opened_by, closed_by, between, IsBalanced, IsPartner}
use Rattle.script_grammar.proofs.Balance.{closes-none, opens-not_balanced, between-split, all_open-append}

abbrev some_is : {A : Type 0} (a : A) → Option A → A
some_is a None = a
some_is a (Some b) = b

some-eq : {A : Type 0} {a b : A} → Some a ≡ Some b → a ≡ b
some-eq {a = a} h = ap (some_is a) h

-- Two tokens that open brackets, with balanced tokens after each up to one place, are one.
first-before : (ks : List Kind) (t x n : ℕ) (b : Bracket) → t < x → x < n → n ≤ length ks → opened_by (part_at ks x) ≡ Some b → IsBalanced (between ks x n) → IsBalanced (between ks t n) → ⊥
first-before ks t x n b t_x x_n within opened x_balanced t_balanced =
    let d = n - suc x in
    let sum : suc x + d ≡ n = omega arith in
    let split = subst (λ m. between ks t m ≡ between ks t x ++ (get_or ks x kind.End ∷ between ks x m)) sum (between-split ks t x d t_x (omega arith)) in
    opens-not_balanced (between ks t x) (between ks x n) (get_or ks x kind.End) b opened x_balanced (ap (all_open []) (sym split) ∙ t_balanced)

pub opener-unique : (ks : List Kind) (t x n : ℕ) (b c : Bracket) → t < n → x < n → n ≤ length ks → opened_by (part_at ks t) ≡ Some b → opened_by (part_at ks x) ≡ Some c → IsBalanced (between ks t n) → IsBalanced (between ks x n) → t ≡ x
opener-unique ks t x n b c t_n x_n within t_opens x_opens t_balanced x_balanced =
    elim (cases_eq t x) [
      | inl same ↦ same
      | inr other ↦ elim (apart t x other) [
        | inl t_x ↦ absurd (first-before ks t x n c t_x x_n within x_opens x_balanced t_balanced)
        | inr x_t ↦ absurd (first-before ks x t n b x_t t_n within t_opens t_balanced x_balanced)
      ]
    ]
  where
    apart : (t x : ℕ) → t ≢ x → (t < x) ⊎ (x < t)
    apart zero zero ne = absurd (ne refl)
    apart zero (suc x) ne = inl (omega arith)
    apart (suc t) zero ne = inr (omega arith)
    apart (suc t) (suc x) ne = elim (apart t x (λ e. ne (ap suc e))) [ inl l ↦ inl (omega arith) | inr l ↦ inr (omega arith) ]

-- A token whose bracket is still open has no partner yet.
pub closer-not_before : (ks : List Kind) (x p n : ℕ) (b : Bracket) → x < p → p < n → n ≤ length ks → closed_by (part_at ks p) ≡ Some b → IsBalanced (between ks x p) → IsBalanced (between ks x n) → ⊥
closer-not_before ks x p n b x_p p_n within closed before_balanced balanced =
    let d = n - suc p in
    let sum : suc p + d ≡ n = omega arith in
    let split = subst (λ m. between ks x m ≡ between ks x p ++ (get_or ks p kind.End ∷ between ks p m)) sum (between-split ks x p d x_p (omega arith)) in
    let none = all_open-append [] (between ks x p) (get_or ks p kind.End ∷ between ks p n) ∙ ap (option_and_then (λ o. all_open o (get_or ks p kind.End ∷ between ks p n))) before_balanced ∙ ap (option_and_then (λ o. all_open o (between ks p n))) (closes-none (part_at ks p) b closed) in
    no_some (sym none ∙ ap (all_open []) (sym split) ∙ balanced)
  where
    no_some : {A : Type 0} {a : A} → None ≡ Some a → ⊥
    no_some h = cc

-- partners among more tokens
pub partner-later : (ks : List Kind) (n t p : ℕ) → IsPartner ks n t p → IsPartner ks (suc n) t p
partner-later ks n t p h = record { token = let l = h.token in omega arith; partner = let l = h.partner in omega arith; pairs = h.pairs }

pub partner-earlier : (ks : List Kind) (n t p : ℕ) → t < n → p < n → IsPartner ks (suc n) t p → IsPartner ks n t p
partner-earlier ks n t p t_n p_n h = record { token = t_n; partner = p_n; pairs = h.pairs }

-- A token that closes nothing brings no partner.
pub partner-same : (ks : List Kind) (n t p : ℕ) → closed_by (part_at ks n) ≡ None → IsPartner ks (suc n) t p → IsPartner ks n t p
partner-same ks n t p none h = elim h.pairs [
  | inl pair ↦ (let l = below p h.partner (λ e. clash pair.bracket (sym (ap (λ m. closed_by (part_at ks m)) e ∙ none) ∙ pair.closed)) in let before = pair.before in partner-earlier ks n t p (omega arith) l h)
  | inr back ↦ (let pair = back.1 in let l = below t h.token (λ e. clash pair.bracket (sym (ap (λ m. closed_by (part_at ks m)) e ∙ none) ∙ pair.closed)) in let before = pair.before in partner-earlier ks n t p l (omega arith) h)
]
  where
    clash : (b : Bracket) → None ≡ Some b → ⊥
    clash b e = cc

    below : (m : ℕ) → m < suc n → (m ≡ n → ⊥) → m < n
    below m l ne = elim (cases_eq m n) [ inl e ↦ absurd (ne e) | inr e ↦ omega arith ]
