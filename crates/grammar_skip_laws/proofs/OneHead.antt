-- Where a function's head ends and a brace follows is told by the tokens alone.
use Rattle.std.proofs.Common.{◌≡◌, ◌∙◌, ℕ, List, [], ◌∷◌, ◌++◌, Option, Some, None, refl, sym, ap, subst, append_assoc}
use Rattle.script_grammar.specs.declared.token.Kind.{Kind}
use Rattle.script_grammar.specs.declared.token.Kind.TheVariants as kind
use Rattle.script_grammar.specs.declared.token.mark.TheConstants as mark
use Rattle.script_grammar.specs.Lexeme.{Lexeme}
use Rattle.script_grammar.specs.Pieces.{Opener, open_behind, open_at_end, IsBalanced}
use Rattle.grammar_skip_laws.specs.Holes.{IsMark, IsJoint, no_arrow, arrow, IsHead, single, listed}

-- what stands up to the parenthesis that closes what was open
pub record SameInside (u v : List Lexeme) (c d : Lexeme) (x y : List Lexeme) : Type 0 where
  pub inside : u ≡ v
  pub closer : c ≡ d
  pub behind : x ≡ y

closes_none : (t : Lexeme) (ts : List Lexeme) (os : List Opener) → ◌≡◌ {A = Option (List Opener)} (Some os) (Some []) → IsMark mark.CLOSE_PAREN t → open_at_end os (t ∷ ts) ≡ Some [] → ⊥
closes_none t ts (o ∷ os) e k h = cc
closes_none t ts [] e k h = none (subst (λ j. ◌≡◌ {A = Option (List Opener)} (elim (open_behind j []) [ None ↦ None | Some qs ↦ open_at_end qs ts ]) (Some [])) k h)
  where
    none : ◌≡◌ {A = Option (List Opener)} None (Some []) → ⊥
    none g = cc

same_inside : (os : List Opener) (u v : List Lexeme) (c d : Lexeme) (x y : List Lexeme) → open_at_end os u ≡ Some [] → open_at_end os v ≡ Some [] → IsMark mark.CLOSE_PAREN c → IsMark mark.CLOSE_PAREN d → u ++ c ∷ x ≡ v ++ d ∷ y → SameInside u v c d x y
same_inside os [] [] c d x y g h k l e = record { inside = refl; closer = cc; behind = cc }
same_inside os [] (t ∷ v) c d x y g h k l e = absurd (closes_none t v os g (let same : c ≡ t = cc in subst (IsMark mark.CLOSE_PAREN) same k) h)
same_inside os (t ∷ u) [] c d x y g h k l e = absurd (closes_none t u os h (let same : t ≡ d = cc in subst (IsMark mark.CLOSE_PAREN) (sym same) l) g)
same_inside os (t ∷ u) (s ∷ v) c d x y g h k l e = by (λ qs m n. same_inside qs u v c d x y m n k l others) (open_behind t.kind os) refl g (subst (λ (z : Lexeme). open_at_end os (z ∷ v) ≡ Some []) (sym first) h)
  where
    first : t ≡ s
    first = cc

    others : u ++ c ∷ x ≡ v ++ d ∷ y
    others = cc

    by : ((qs : List Opener) → open_at_end qs u ≡ Some [] → open_at_end qs v ≡ Some [] → SameInside u v c d x y) → (o : Option (List Opener)) → open_behind t.kind os ≡ o
        → ◌≡◌ {A = Option (List Opener)} (elim o [ None ↦ None | Some qs ↦ open_at_end qs u ]) (Some []) → open_at_end os (t ∷ v) ≡ Some [] → SameInside (t ∷ u) (s ∷ v) c d x y
    by each None i m n = absurd (cc)
    by each (Some qs) i m n =
        let r = each qs m (subst (λ o. ◌≡◌ {A = Option (List Opener)} (elim o [ None ↦ None | Some zs ↦ open_at_end zs v ]) (Some [])) i n) in
        record { inside = ap (λ z. z ∷ u) first ∙ ap (λ zs. s ∷ zs) r.inside; closer = r.closer; behind = r.behind }

-- two heads in front of braces, in one list of tokens
pub record SameHead (u v : List Lexeme) (o p : Lexeme) : Type 0 where
  pub head : u ≡ v
  pub opener : o ≡ p

not_both : (t : Lexeme) (j k : Kind) → t.kind ≡ j → t.kind ≡ k → (j ≡ k → ⊥) → ⊥
not_both t j k e f no_same = no_same (sym e ∙ f)

same_joint : (u v : List Lexeme) (o p : Lexeme) (x y : List Lexeme) → IsJoint u → IsJoint v → IsMark mark.OPEN_BRACE o → IsMark mark.OPEN_BRACE p → u ++ o ∷ x ≡ v ++ p ∷ y → SameHead u v o p
same_joint u v o p x y no_arrow no_arrow k l e = record { head = refl; opener = cc }
same_joint u v o p x y no_arrow (arrow t m) k l e = let same : o ≡ t = cc in absurd (not_both t (kind.Mark mark.ARROW) (kind.Mark mark.OPEN_BRACE) m (subst (IsMark mark.OPEN_BRACE) same k) (λ q. cc))
same_joint u v o p x y (arrow t m) no_arrow k l e = let same : t ≡ p = cc in absurd (not_both t (kind.Mark mark.ARROW) (kind.Mark mark.OPEN_BRACE) m (subst (IsMark mark.OPEN_BRACE) (sym same) l) (λ q. cc))
same_joint u v o p x y (arrow t m) (arrow s n) k l e = let first : t ≡ s = cc in record { head = ap (λ z. z ∷ []) first; opener = cc }

listed_same : (a b : Lexeme) (u v : List Lexeme) (c d : Lexeme) (i j : List Lexeme) (o p : Lexeme) (x y : List Lexeme) → IsBalanced u → IsBalanced v → IsMark mark.CLOSE_PAREN c → IsMark mark.CLOSE_PAREN d → IsJoint i → IsJoint j → IsMark mark.OPEN_BRACE o → IsMark mark.OPEN_BRACE p
    → (a ∷ (u ++ c ∷ i)) ++ o ∷ x ≡ (b ∷ (v ++ d ∷ j)) ++ p ∷ y → SameHead (a ∷ (u ++ c ∷ i)) (b ∷ (v ++ d ∷ j)) o p
listed_same a b u v c d i j o p x y g h k l m n q r e =
    let first : a ≡ b = cc in
    let others : (u ++ c ∷ i) ++ o ∷ x ≡ (v ++ d ∷ j) ++ p ∷ y = cc in
    let inner = same_inside [] u v c d (i ++ o ∷ x) (j ++ p ∷ y) g h k l (sym (append_assoc u (c ∷ i) (o ∷ x)) ∙ others ∙ append_assoc v (d ∷ j) (p ∷ y)) in
    let last = same_joint i j o p x y m n q r inner.behind in
    record {
      head = ap (λ z. z ∷ (u ++ c ∷ i)) first ∙ ap (λ zs. b ∷ (zs ++ c ∷ i)) inner.inside ∙ ap (λ z. b ∷ (v ++ z ∷ i)) inner.closer ∙ ap (λ zs. b ∷ (v ++ d ∷ zs)) last.head;
      opener = last.opener;
    }

pub one_head : (u v : List Lexeme) (o p : Lexeme) (x y : List Lexeme) → IsHead u → IsHead v → IsMark mark.OPEN_BRACE o → IsMark mark.OPEN_BRACE p → u ++ o ∷ x ≡ v ++ p ∷ y → SameHead u v o p
one_head u v o p x y (single a b k l) (single c d m n) q r e =
    let first : a ≡ c = cc in
    let second : b ≡ d = cc in
    record { head = ap (λ z. z ∷ b ∷ []) first ∙ ap (λ z. c ∷ z ∷ []) second; opener = cc }
one_head u v o p x y (single a b k l) (listed c params d j m balanced n joint all are) q r e =
    let same : a ∷ ((b ∷ []) ++ o ∷ x) ≡ c ∷ ((params ++ d ∷ j) ++ p ∷ y) = e ∙ ap (λ zs. zs ++ p ∷ y) are in
    let first : a ≡ c = cc in
    absurd (not_both a kind.Name (kind.Mark mark.OPEN_PAREN) k (subst (IsMark mark.OPEN_PAREN) (sym first) m) (λ z. cc))
one_head u v o p x y (listed c params d j m balanced n joint all are) (single a b k l) q r e =
    let same : c ∷ ((params ++ d ∷ j) ++ o ∷ x) ≡ a ∷ ((b ∷ []) ++ p ∷ y) = sym (ap (λ zs. zs ++ o ∷ x) are) ∙ e in
    let first : c ≡ a = cc in
    absurd (not_both a kind.Name (kind.Mark mark.OPEN_PAREN) k (subst (IsMark mark.OPEN_PAREN) first m) (λ z. cc))
one_head u v o p x y (listed a us c i k g l joint all are) (listed b vs d j m h n other every form) q r e =
    let s = listed_same a b us vs c d i j o p x y g h l n joint other q r (sym (ap (λ zs. zs ++ o ∷ x) are) ∙ e ∙ ap (λ zs. zs ++ p ∷ y) form) in
    record { head = are ∙ s.head ∙ sym form; opener = s.opener }
