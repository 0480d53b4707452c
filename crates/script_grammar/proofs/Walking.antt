-- The steps of a walk over the tokens that matches brackets.
use Rattle.std.proofs.Common.{◌≡◌, ◌≢◌, ◌∙◌, ◌<◌, ◌⊎◌, inl, inr, ℕ, suc, List, [], ◌∷◌, ◌++◌, true, Option, Some, None, length, take, get_or, refl, ap, sym, subst, arith, if◌then◌else◌}
use Rattle.std.proofs.Math.Seq.{take-suc}
use Rattle.std.proofs.lemmas.Bool.{cases_eq}
use Rattle.script_grammar.specs.declared.token.Kind.{Kind}
use Rattle.script_grammar.specs.declared.token.Kind.TheVariants as kind
use Rattle.script_grammar.specs.declared.brackets.Bracket.{Bracket}
use Rattle.script_grammar.specs.declared.brackets.Bracket.TheVariants.{Template}
use Rattle.script_grammar.specs.declared.brackets.BracketPart.TheVariants.{Opening, Closing, Middle, Other}
use Rattle.script_grammar.specs.declared.brackets.Open.{Open}
use Rattle.script_grammar.specs.Matching.{part_at, is_same, next_open, all_open, opened_by, closed_by, between, IsBalanced, Pairs, IsPartner, IsMatching}
use Rattle.script_grammar.specs.BracketWalk.{brackets_of, partner_in, told_partners, AllOpen, Walked}
use Rattle.script_grammar.proofs.Balance.{all_open-more, is_same-eq, between-more, between-none}
use Rattle.script_grammar.proofs.Partners.{opener-unique, closer-not_before, partner-later, partner-earlier, partner-same}
use Rattle.script_grammar.proofs.PartnerLists.{told_at}

-- One token more changes what is open above each in the same way.
opened-step : (ks : List Kind) (n : ℕ) → n < length ks
    → (f g : List Bracket → List Bracket)
    → ((above : List Bracket) (b : Bracket) → f above ++ (b ∷ []) ≡ f (above ++ (b ∷ [])))
    → ((above : List Bracket) (b : Bracket) → g (above ++ (b ∷ [])) ≡ g above ++ (b ∷ []))
    → ((above : List Bracket) → next_open (f above) (part_at ks n) ≡ Some (g above))
    → (above : List Bracket) (stack : List Open) → AllOpen ks n (f above) stack → AllOpen ks (suc n) (g above) stack
opened-step ks n within f g fs gs next above [] h = tt
opened-step ks n within f g fs gs next above (o ∷ os) h = (
  let before = h.0 in omega arith,
  h.1,
  ap (all_open []) (between-more ks o.token n h.0 within) ∙ all_open-more [] (f above) (between ks o.token n) (get_or ks n kind.End) h.2 ∙ next above,
  subst (λ a. AllOpen ks (suc n) a os) (gs above o.bracket)
      (opened-step ks n within f g fs gs next (above ++ (o.bracket ∷ [])) os (subst (λ a. AllOpen ks n a os) (fs above o.bracket) h.3)),
)

-- what fits with one token more
fit-step : (ks : List Kind) (n : ℕ) (s t : List Bracket) → n < length ks → all_open [] (take n ks) ≡ Some s → next_open s (part_at ks n) ≡ Some t → all_open [] (take (suc n) ks) ≡ Some t
fit-step ks n s t within fit next = ap (all_open []) (take-suc ks n kind.End within) ∙ all_open-more [] s (take n ks) (get_or ks n kind.End) fit ∙ next

pub walked-start : (ks : List Kind) (f : ℕ → Option ℕ) → ((t : ℕ) → f t ≡ None) → Walked ks 0 f []
walked-start ks f none = record {
  fit = refl;
  opened = tt;
  sound = λ t p h. absurd (no_some (sym (none t) ∙ h));
  only = λ t p h. let l = h.token in absurd (omega arith);
}
  where
    no_some : {A : Type 0} {a : A} → None ≡ Some a → ⊥
    no_some h = cc

pub walked-other : (ks : List Kind) (n : ℕ) (f : ℕ → Option ℕ) (stack : List Open) → n < length ks → part_at ks n ≡ Other → Walked ks n f stack → Walked ks (suc n) f stack
walked-other ks n f stack within part h = record {
  fit = fit-step ks n (brackets_of stack) (brackets_of stack) within h.fit (ap (next_open (brackets_of stack)) part);
  opened = opened-step ks n within (λ a. a) (λ a. a) (λ a b. refl) (λ a b. refl) (λ a. ap (next_open a) part) [] stack h.opened;
  sound = λ t p e. partner-later ks n t p (h.sound t p e);
  only = λ t p e. h.only t p (partner-same ks n t p (ap closed_by part) e);
}

pub walked-opening : (ks : List Kind) (n : ℕ) (b : Bracket) (f : ℕ → Option ℕ) (stack : List Open) → n < length ks → part_at ks n ≡ Opening b → Walked ks n f stack
    → Walked ks (suc n) f (record { token = n; bracket = b } ∷ stack)
walked-opening ks n b f stack within part h = record {
  fit = fit-step ks n (brackets_of stack) (b ∷ brackets_of stack) within h.fit (ap (next_open (brackets_of stack)) part);
  opened = (omega arith, ap opened_by part, ap (all_open []) (between-none ks n), opened-step ks n within (λ a. a) (λ a. b ∷ a) (λ a c. refl) (λ a c. refl) (λ a. ap (next_open a) part) [] stack h.opened);
  sound = λ t p e. partner-later ks n t p (h.sound t p e);
  only = λ t p e. h.only t p (partner-same ks n t p (ap closed_by part) e);
}

-- the innermost open token and one that closes its bracket
pair-of : (ks : List Kind) (n : ℕ) (b : Bracket) (o : Open) (stack : List Open) → closed_by (part_at ks n) ≡ Some b → is_same o.bracket b ≡ true → AllOpen ks n [] (o ∷ stack) → Pairs ks o.token n
pair-of ks n b o stack closes same h = record { before = h.0; bracket = b; opened = h.1 ∙ ap Some (is_same-eq o.bracket b same); closed = closes; balanced = h.2 }

-- Of a pair among the tokens up to token n, which closes what token x opened: it is this one, or an earlier one.
pair-cases : (ks : List Kind) (n x t p : ℕ) → n < length ks → Pairs ks x n → p < suc n → Pairs ks t p → ((p ≡ n) × (t ≡ x)) ⊎ ((t < n) × (p < n) × (t ≢ x))
pair-cases ks n x t p within pair p_n tp = elim (cases_eq p n) [
  | inl e ↦ inl (e, opener-unique ks t x n tp.bracket pair.bracket (subst (λ m. t < m) e tp.before) pair.before (omega arith) tp.opened pair.opened (subst (λ m. IsBalanced (between ks t m)) e tp.balanced) pair.balanced)
  | inr ne ↦ (let here : p < n = omega arith in let before = tp.before in
      inr (omega arith, here, λ same. closer-not_before ks x p n tp.bracket (subst (λ m. m < p) same tp.before) here (omega arith) tp.closed (subst (λ m. IsBalanced (between ks m p)) same tp.balanced) pair.balanced))
]

no_some : {A : Type 0} {a : A} → None ≡ Some a → ⊥
no_some h = cc

some-eq : {A : Type 0} {a b : A} → Some a ≡ Some b → a ≡ b
some-eq {A = A} {a = a} h = ap value h
  where
    value : Option A → A
    value None = a
    value (Some v) = v

-- the token n that only closes what the innermost open token opened
pub walked-closing : (ks : List Kind) (n : ℕ) (b : Bracket) (f g : ℕ → Option ℕ) (o : Open) (stack : List Open) → n < length ks → part_at ks n ≡ Closing b → is_same o.bracket b ≡ true
    → g n ≡ Some o.token → g o.token ≡ Some n → ((t : ℕ) → t ≢ o.token → t ≢ n → g t ≡ f t) → Walked ks n f (o ∷ stack) → Walked ks (suc n) g stack
walked-closing ks n b f g o stack within part same at_n at_x at_other h = record {
  fit = fit-step ks n (o.bracket ∷ brackets_of stack) (brackets_of stack) within h.fit (next (brackets_of stack));
  opened = opened-step ks n within (λ a. o.bracket ∷ a) (λ a. a) (λ a c. refl) (λ a c. refl) next [] stack h.opened.3;
  sound = sound;
  only = complete;
}
  where
    x_n : o.token < n
    x_n = h.opened.0

    pair : Pairs ks o.token n
    pair = pair-of ks n b o stack (ap closed_by part) same h.opened

    next : (a : List Bracket) → next_open (o.bracket ∷ a) (part_at ks n) ≡ Some a
    next a = ap (next_open (o.bracket ∷ a)) part ∙ ap (λ t. if t then Some a else None) same

    sound : (t p : ℕ) → g t ≡ Some p → IsPartner ks (suc n) t p
    sound t p e = elim (cases_eq t n) [
      | inl is_n ↦ (let p_x : o.token ≡ p = some-eq (sym at_n ∙ ap g (sym is_n) ∙ e) in
          let before = x_n in
          record {
            token = omega arith;
            partner = omega arith;
            pairs = inr (ap (λ m. opened_by (part_at ks m)) is_n ∙ ap opened_by part, subst (λ m. Pairs ks m t) p_x (subst (λ m. Pairs ks o.token m) (sym is_n) pair));
          })
      | inr not_n ↦ elim (cases_eq t o.token) [
        | inl is_x ↦ (let p_n : n ≡ p = some-eq (sym at_x ∙ ap g (sym is_x) ∙ e) in
            let before = x_n in
            record { token = omega arith; partner = omega arith; pairs = inl (subst (λ m. Pairs ks m p) (sym is_x) (subst (λ m. Pairs ks o.token m) p_n pair)) })
        | inr not_x ↦ partner-later ks n t p (h.sound t p (sym (at_other t not_x not_n) ∙ e))
      ]
    ]

    complete : (t p : ℕ) → IsPartner ks (suc n) t p → g t ≡ Some p
    complete t p e = elim e.pairs [
      | inl tp ↦ elim (pair-cases ks n o.token t p within pair e.partner tp) [
        | inl new ↦ ap g new.1 ∙ at_x ∙ ap Some (sym new.0)
        | inr old ↦ at_other t old.2 (λ is_n. let l = old.0 in omega arith) ∙ h.only t p (partner-earlier ks n t p old.0 old.1 e)
      ]
      | inr back ↦ elim (pair-cases ks n o.token p t within pair e.token back.1) [
        | inl new ↦ ap g new.0 ∙ at_n ∙ ap Some (sym new.1)
        | inr old ↦ at_other t (λ is_x. no_some (sym back.0 ∙ ap (λ m. opened_by (part_at ks m)) is_x ∙ h.opened.1)) (λ is_n. let l = old.1 in omega arith)
            ∙ h.only t p (partner-earlier ks n t p old.1 old.0 e)
      ]
    ]

-- the token n that closes what the innermost open token opened, and opens again
pub walked-middle : (ks : List Kind) (n : ℕ) (f g : ℕ → Option ℕ) (o : Open) (stack : List Open) → n < length ks → part_at ks n ≡ Middle → is_same o.bracket Template ≡ true
    → g o.token ≡ Some n → ((t : ℕ) → t ≢ o.token → g t ≡ f t) → Walked ks n f (o ∷ stack) → Walked ks (suc n) g (record { token = n; bracket = Template } ∷ stack)
walked-middle ks n f g o stack within part same at_x at_other h = record {
  fit = fit-step ks n (o.bracket ∷ brackets_of stack) (Template ∷ brackets_of stack) within h.fit (next (brackets_of stack) ∙ ap (λ c. Some (c ∷ brackets_of stack)) is_template);
  opened = (
    omega arith,
    ap opened_by part,
    ap (all_open []) (between-none ks n),
    subst (λ c. AllOpen ks (suc n) (c ∷ []) stack) is_template (opened-step ks n within (λ a. o.bracket ∷ a) (λ a. o.bracket ∷ a) (λ a c. refl) (λ a c. refl) next [] stack h.opened.3),
  );
  sound = sound;
  only = complete;
}
  where
    is_template : o.bracket ≡ Template
    is_template = is_same-eq o.bracket Template same

    pair : Pairs ks o.token n
    pair = pair-of ks n Template o stack (ap closed_by part) same h.opened

    next : (a : List Bracket) → next_open (o.bracket ∷ a) (part_at ks n) ≡ Some (o.bracket ∷ a)
    next a = ap (next_open (o.bracket ∷ a)) part ∙ ap (λ t. if t then Some (o.bracket ∷ a) else None) same

    sound : (t p : ℕ) → g t ≡ Some p → IsPartner ks (suc n) t p
    sound t p e = elim (cases_eq t o.token) [
      | inl is_x ↦ (let p_n : n ≡ p = some-eq (sym at_x ∙ ap g (sym is_x) ∙ e) in
          let before = h.opened.0 in
          record { token = omega arith; partner = omega arith; pairs = inl (subst (λ m. Pairs ks m p) (sym is_x) (subst (λ m. Pairs ks o.token m) p_n pair)) })
      | inr not_x ↦ partner-later ks n t p (h.sound t p (sym (at_other t not_x) ∙ e))
    ]

    complete : (t p : ℕ) → IsPartner ks (suc n) t p → g t ≡ Some p
    complete t p e = elim e.pairs [
      | inl tp ↦ elim (pair-cases ks n o.token t p within pair e.partner tp) [
        | inl new ↦ ap g new.1 ∙ at_x ∙ ap Some (sym new.0)
        | inr old ↦ at_other t old.2 ∙ h.only t p (partner-earlier ks n t p old.0 old.1 e)
      ]
      | inr back ↦ elim (pair-cases ks n o.token p t within pair e.token back.1) [
        | inl new ↦ absurd (no_some (sym back.0 ∙ ap (λ m. opened_by (part_at ks m)) new.0 ∙ ap opened_by part))
        | inr old ↦ at_other t (λ is_x. no_some (sym back.0 ∙ ap (λ m. opened_by (part_at ks m)) is_x ∙ h.opened.1)) ∙ h.only t p (partner-earlier ks n t p old.1 old.0 e)
      ]
    ]

-- where a walk ends, at the last token or at one that does not fit
pub walked-last : (ks : List Kind) (n : ℕ) (ps : List ℕ) (stack : List Open) → suc n ≡ length ks → Walked ks n (partner_in ps) stack
    → IsMatching ks (record { partners = told_partners ps; stop = n })
walked-last ks n ps stack last h = record {
  stop = record { within = omega arith; stack = brackets_of stack; fit = h.fit; stops = inl last };
  partner = λ t p e. h.sound t p (sym (told_at ps t) ∙ e);
  only = λ t p e. told_at ps t ∙ h.only t p e;
}

pub walked-misfit : (ks : List Kind) (n : ℕ) (ps : List ℕ) (stack : List Open) → n < length ks → next_open (brackets_of stack) (part_at ks n) ≡ None
    → Walked ks n (partner_in ps) stack → IsMatching ks (record { partners = told_partners ps; stop = n })
walked-misfit ks n ps stack within misfit h = record {
  stop = record { within = within; stack = brackets_of stack; fit = h.fit; stops = inr misfit };
  partner = λ t p e. h.sound t p (sym (told_at ps t) ∙ e);
  only = λ t p e. told_at ps t ∙ h.only t p e;
}

-- the innermost open token stands before the next token
pub opener-before : (ks : List Kind) (n : ℕ) (f : ℕ → Option ℕ) (o : Open) (stack : List Open) → Walked ks n f (o ∷ stack) → o.token < n
opener-before ks n f o stack h = h.opened.0
