-- Laws of balanced lists of tokens.
use Rattle.std.proofs.Common.{◌≡◌, ◌∙◌, ◌<◌, ◌≤◌, ◌+◌, ℕ, zero, suc, List, [], ◌∷◌, ◌++◌, Bool, true, false, Option, Some, None, length, take, drop, get_or, refl, ap, sym, subst, arith, option_and_then, if◌then◌else◌}
use Rattle.std.proofs.Math.Seq.{take-suc}
use Rattle.std.proofs.lemmas.List.{drop-append-le, length-take-le, append_assoc}
use Rattle.script_grammar.specs.declared.token.Kind.{Kind}
use Rattle.script_grammar.specs.declared.token.Kind.TheVariants as kind
use Rattle.script_grammar.specs.declared.brackets.Bracket.{Bracket}
use Rattle.script_grammar.specs.declared.brackets.Bracket.TheVariants.{Paren, Square, Brace, Template}
use Rattle.script_grammar.specs.declared.brackets.BracketPart.{BracketPart}
use Rattle.script_grammar.specs.declared.brackets.BracketPart.TheVariants.{Opening, Closing, Middle, Other}
use Rattle.script_grammar.specs.Matching.{part_of, is_same, next_open, all_open, opened_by, closed_by, between, IsBalanced}

-- a chain of steps is one step after another
and_then_twice : (g h : List Bracket → Option (List Bracket)) (o : Option (List Bracket)) → option_and_then h (option_and_then g o) ≡ option_and_then (λ s. option_and_then h (g s)) o
and_then_twice g h None = refl
and_then_twice g h (Some s) = refl

-- the tokens of a list, and then those of another
pub all_open-append : (s : List Bracket) (xs ys : List Kind) → all_open s (xs ++ ys) ≡ option_and_then (λ o. all_open o ys) (all_open s xs)
all_open-append s [] ys = refl
all_open-append s (x ∷ xs) ys = behind (λ t. all_open-append t xs ys) (next_open s (part_of x))
  where
    behind : ((t : List Bracket) → all_open t (xs ++ ys) ≡ option_and_then (λ o. all_open o ys) (all_open t xs)) → (o : Option (List Bracket)) → option_and_then (λ t. all_open t (xs ++ ys)) o ≡ option_and_then (λ t. all_open t ys) (option_and_then (λ t. all_open t xs) o)
    behind each None = refl
    behind each (Some t) = each t

-- one token more
pub all_open-more : (s t : List Bracket) (xs : List Kind) (x : Kind) → all_open s xs ≡ Some t → all_open s (xs ++ (x ∷ [])) ≡ next_open t (part_of x)
all_open-more s t xs x h = all_open-append s xs (x ∷ []) ∙ ap (option_and_then (λ o. all_open o (x ∷ []))) h ∙ one (next_open t (part_of x))
  where
    one : (o : Option (List Bracket)) → option_and_then (λ t. all_open t []) o ≡ o
    one None = refl
    one (Some t) = refl

-- What is open below changes nothing above.
next_open-below : (p : BracketPart) (s o base : List Bracket) → next_open s p ≡ Some o → next_open (s ++ base) p ≡ Some (o ++ base)
next_open-below (Opening b) s o base h = ap (option_and_then (λ x. Some (x ++ base))) h
next_open-below (Closing c) [] o base h = absurd (cc)
next_open-below (Closing c) (b ∷ s) o base h = same (is_same b c) h
  where
    same : (t : Bool) → (if t then Some s else None) ≡ Some o → (if t then Some (s ++ base) else None) ≡ Some (o ++ base)
    same true e = ap (option_and_then (λ x. Some (x ++ base))) e
    same false e = absurd (cc)
next_open-below Middle [] o base h = absurd (cc)
next_open-below Middle (b ∷ s) o base h = same (is_same b Template) h
  where
    same : (t : Bool) → (if t then Some (b ∷ s) else None) ≡ Some o → (if t then Some (b ∷ (s ++ base)) else None) ≡ Some (o ++ base)
    same true e = ap (option_and_then (λ x. Some (x ++ base))) e
    same false e = absurd (cc)
next_open-below Other s o base h = ap (option_and_then (λ x. Some (x ++ base))) h

pub all_open-below : (ks : List Kind) (s o base : List Bracket) → all_open s ks ≡ Some o → all_open (s ++ base) ks ≡ Some (o ++ base)
all_open-below [] s o base h = ap (option_and_then (λ x. Some (x ++ base))) h
all_open-below (k ∷ ks) s o base h = behind (λ t g. all_open-below ks t o base g) (next_open s (part_of k)) refl h
  where
    behind : ((t : List Bracket) → all_open t ks ≡ Some o → all_open (t ++ base) ks ≡ Some (o ++ base)) → (n : Option (List Bracket)) → next_open s (part_of k) ≡ n → option_and_then (λ t. all_open t ks) n ≡ Some o → all_open (s ++ base) (k ∷ ks) ≡ Some (o ++ base)
    behind each None e g = absurd (cc)
    behind each (Some t) e g = ap (option_and_then (λ u. all_open u ks)) (next_open-below (part_of k) s t base e) ∙ each t g

-- two brackets that are the same are one
pub is_same-eq : (a b : Bracket) → is_same a b ≡ true → a ≡ b
is_same-eq Paren Paren h = refl
is_same-eq Paren Square h = absurd (cc)
is_same-eq Paren Brace h = absurd (cc)
is_same-eq Paren Template h = absurd (cc)
is_same-eq Square Paren h = absurd (cc)
is_same-eq Square Square h = refl
is_same-eq Square Brace h = absurd (cc)
is_same-eq Square Template h = absurd (cc)
is_same-eq Brace Paren h = absurd (cc)
is_same-eq Brace Square h = absurd (cc)
is_same-eq Brace Brace h = refl
is_same-eq Brace Template h = absurd (cc)
is_same-eq Template Paren h = absurd (cc)
is_same-eq Template Square h = absurd (cc)
is_same-eq Template Brace h = absurd (cc)
is_same-eq Template Template h = refl

-- After a token that opens a bracket something is open.
pub opens-some : (p : BracketPart) (b : Bracket) (s o : List Bracket) → opened_by p ≡ Some b → next_open s p ≡ Some o → (first : Bracket) × ((rest : List Bracket) × (o ≡ first ∷ rest))
opens-some (Opening b) c s o h e = (b, (s, ap (λ x. option_or x) (sym e)))
  where
    option_or : Option (List Bracket) → List Bracket
    option_or None = []
    option_or (Some x) = x
opens-some (Closing b) c s o h e = absurd (cc)
opens-some Other c s o h e = absurd (cc)
opens-some Middle c [] o h e = absurd (cc)
opens-some Middle c (b ∷ s) o h e = same (is_same b Template) e
  where
    option_or : Option (List Bracket) → List Bracket
    option_or None = []
    option_or (Some x) = x

    same : (t : Bool) → (if t then Some (b ∷ s) else None) ≡ Some o → (first : Bracket) × ((rest : List Bracket) × (o ≡ first ∷ rest))
    same true g = (b, (s, ap option_or (sym g)))
    same false g = absurd (cc)

-- Where nothing is open no token closes a bracket.
pub closes-none : (p : BracketPart) (b : Bracket) → closed_by p ≡ Some b → next_open [] p ≡ None
closes-none (Opening b) c h = absurd (cc)
closes-none (Closing b) c h = refl
closes-none Middle c h = refl
closes-none Other c h = absurd (cc)

-- Tokens with one among them that opens a bracket, and balanced ones after it, are not balanced.
pub opens-not_balanced : (xs ys : List Kind) (k : Kind) (b : Bracket) → opened_by (part_of k) ≡ Some b → IsBalanced ys → IsBalanced (xs ++ (k ∷ ys)) → ⊥
opens-not_balanced xs ys k b opened ys_balanced all_balanced = before (all_open [] xs) refl (sym (all_open-append [] xs (k ∷ ys)) ∙ all_balanced)
  where
    after : (s : List Bracket) (o : Option (List Bracket)) → next_open s (part_of k) ≡ o → option_and_then (λ t. all_open t ys) o ≡ Some [] → ⊥
    after s None e g = cc
    after s (Some o) e g = let found = opens-some (part_of k) b s o opened e in
        let here = ap (λ t. all_open t ys) found.1.1 in
        let stays = all_open-below ys [] [] (found.0 ∷ found.1.0) ys_balanced in
        some_ne (sym stays ∙ sym here ∙ g)
      where
        some_ne : {c : Bracket} {r : List Bracket} → Some (c ∷ r) ≡ Some [] → ⊥
        some_ne h = cc

    before : (o : Option (List Bracket)) → all_open [] xs ≡ o → option_and_then (λ t. all_open t (k ∷ ys)) o ≡ Some [] → ⊥
    before None e g = cc
    before (Some s) e g = after s (next_open s (part_of k)) refl g

-- the tokens between, with one more at the end
pub between-more : (ks : List Kind) (t n : ℕ) → t < n → n < length ks → between ks t (suc n) ≡ between ks t n ++ (get_or ks n kind.End ∷ [])
between-more ks t n before within =
    ap (drop (suc t)) (take-suc ks n kind.End within)
    ∙ drop-append-le (suc t) (take n ks) (get_or ks n kind.End ∷ []) (subst (λ m. suc t ≤ m) (sym (length-take-le n ks (omega arith))) (omega arith))

pub between-none : (ks : List Kind) (n : ℕ) → between ks n (suc n) ≡ []
between-none [] n = refl
between-none (k ∷ ks) zero = refl
between-none (k ∷ ks) (suc n) = between-none ks n

-- the tokens between two, with one of them in the middle
pub between-split : (ks : List Kind) (t x d : ℕ) → t < x → suc x + d ≤ length ks → between ks t (suc x + d) ≡ between ks t x ++ (get_or ks x kind.End ∷ between ks x (suc x + d))
between-split ks t x zero before within =
    let here : suc x + zero ≡ suc x = omega arith in
    ap (between ks t) here ∙ between-more ks t x before (omega arith)
    ∙ ap (λ r. between ks t x ++ (get_or ks x kind.End ∷ r)) (sym (ap (between ks x) here ∙ between-none ks x))
between-split ks t x (suc d) before within =
    let more : suc x + suc d ≡ suc (suc x + d) = omega arith in
    ap (between ks t) more ∙ between-more ks t (suc x + d) (omega arith) (omega arith)
    ∙ ap (λ r. r ++ (get_or ks (suc x + d) kind.End ∷ [])) (between-split ks t x d before (omega arith))
    ∙ append_assoc (between ks t x) (get_or ks x kind.End ∷ between ks x (suc x + d)) (get_or ks (suc x + d) kind.End ∷ [])
    ∙ ap (λ r. between ks t x ++ (get_or ks x kind.End ∷ r)) (sym (ap (between ks x) more ∙ between-more ks x (suc x + d) (omega arith) (omega arith)))
