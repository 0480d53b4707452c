-- Tokens of the code that are told to be a head and a brace are so as the scanner has them.
use Rattle.std.proofs.Common.{◌≡◌, ◌∙◌, ℕ, List, [], ◌∷◌, ◌++◌, map, false, Option, Some, None, option_map, option_and_then, refl, sym, ap, subst, append_assoc}
use Rattle.script_grammar.specs.declared.brackets.Bracket.{Bracket}
use Rattle.script_grammar.specs.declared.token.Kind.{Kind}
use Rattle.script_grammar.specs.declared.token.Kind.TheVariants as kind
use Rattle.script_grammar.specs.declared.token.mark.TheConstants as mark
use Rattle.script_grammar.specs.declared.token.Token.{Token}
use Rattle.script_grammar.specs.Lexeme.{Lexeme}
use Rattle.script_grammar.specs.Matching.{part_of, next_open, all_open, kinds_of}
use Rattle.script_grammar.specs.Pieces.{Opener, open_at_end, IsBalanced}
use Rattle.grammar_script_laws.proofs.Bracketed.{IsInner, AllInner, kinds, openers, open_behind-next}
use Rattle.script_scanner.specs.Lexemes.{lexeme_of}
use Rattle.script_scanner.specs.Stands.{StandFor, HasOneLast, AreNoLast, is_last}
use Rattle.script_scanner.specs.Tokens.{Lexed}
use Rattle.grammar_skip_laws.specs.Holes.{IsMark, IsJoint, IsHead}
use Rattle.grammar_skip_laws.specs.Holes as holes
use Rattle.parse_function.specs.Holes.{IsJointOf, no_arrow, arrow, IsHeadOf, single, listed, EndsWithHead}

-- ---- the two ways to say that brackets match

none_open : (s : List Bracket) → ◌≡◌ {A = Option (List Bracket)} (Some s) (Some []) → ◌≡◌ {A = Option (List Opener)} (Some (openers s)) (Some [])
none_open [] e = refl
none_open (b ∷ s) e = absurd (cc)

all_closed : (s : List Bracket) (ts : List Lexeme) → AllInner ts → all_open s (kinds ts) ≡ Some [] → open_at_end (openers s) ts ≡ Some []
all_closed s [] inner h = none_open s h
all_closed s (t ∷ ts) inner h = by (λ r g. all_closed r ts inner.1 g) (next_open s (part_of t.kind)) refl h
  where
    by : ((r : List Bracket) → all_open r (kinds ts) ≡ Some [] → open_at_end (openers r) ts ≡ Some []) → (o : Option (List Bracket)) → next_open s (part_of t.kind) ≡ o → option_and_then (λ r. all_open r (kinds ts)) o ≡ Some []
        → open_at_end (openers s) (t ∷ ts) ≡ Some []
    by each None e g = absurd (cc)
    by each (Some r) e g = ap (λ (o : Option (List Opener)). elim o [ None ↦ None | Some qs ↦ open_at_end qs ts ]) (open_behind-next t.kind s inner.0 ∙ ap (option_map openers) e) ∙ each r g

-- ---- kinds of a head

record Parts (ts : List Lexeme) (xs ys : List Kind) : Type 0 where
  front : List Lexeme
  back : List Lexeme
  split : ts ≡ front ++ back
  first : kinds front ≡ xs
  second : kinds back ≡ ys

parts : (ts : List Lexeme) (xs ys : List Kind) → kinds ts ≡ xs ++ ys → Parts ts xs ys
parts ts [] ys e = record { front = []; back = ts; split = refl; first = refl; second = e }
parts [] (x ∷ xs) ys e = absurd (cc)
parts (t ∷ ts) (x ∷ xs) ys e =
    let p = parts ts xs ys cc in
    let one : t.kind ≡ x = cc in
    record { front = t ∷ p.front; back = p.back; split = ap (λ zs. t ∷ zs) p.split; first = ap (λ (zs : List Kind). t.kind ∷ zs) p.first ∙ ap (λ z. z ∷ xs) one; second = p.second }

front_inner : (us vs : List Lexeme) → AllInner (us ++ vs) → AllInner us
front_inner [] vs h = tt
front_inner (u ∷ us) vs h = (h.0, front_inner us vs h.1)

joint_of : (ts : List Lexeme) (ks : List Kind) → IsJointOf ks → kinds ts ≡ ks → IsJoint ts
joint_of [] ks no_arrow e = holes.no_arrow
joint_of (t ∷ ts) ks no_arrow e = absurd (cc)
joint_of [] ks arrow e = absurd (cc)
joint_of (t ∷ []) ks arrow e = let same : t.kind ≡ kind.Mark mark.ARROW = cc in holes.arrow t same
joint_of (t ∷ u ∷ ts) ks arrow e = absurd (cc)

pub head_of : (ts : List Lexeme) (ks : List Kind) → AllInner ts → IsHeadOf ks → kinds ts ≡ ks → IsHead ts
head_of [] ks inner single e = absurd (cc)
head_of (t ∷ []) ks inner single e = absurd (cc)
head_of (t ∷ u ∷ []) ks inner single e = let first : t.kind ≡ kind.Name = cc in let last : u.kind ≡ kind.Mark mark.ARROW = cc in holes.single t u first last
head_of (t ∷ u ∷ v ∷ ts) ks inner single e = absurd (cc)
head_of [] ks inner (listed params joint all b j are) e = absurd (none (e ∙ are))
  where
    none : ◌≡◌ {A = List Kind} [] (kind.Mark mark.OPEN_PAREN ∷ (params ++ kind.Mark mark.CLOSE_PAREN ∷ joint)) → ⊥
    none g = cc
head_of (t ∷ ts) ks inner (listed params joint all b j are) e = behind (parts ts params (kind.Mark mark.CLOSE_PAREN ∷ joint) others)
  where
    both : t.kind ∷ kinds ts ≡ kind.Mark mark.OPEN_PAREN ∷ (params ++ kind.Mark mark.CLOSE_PAREN ∷ joint)
    both = e ∙ are

    first : t.kind ≡ kind.Mark mark.OPEN_PAREN
    first = let g : t.kind ∷ kinds ts ≡ kind.Mark mark.OPEN_PAREN ∷ (params ++ kind.Mark mark.CLOSE_PAREN ∷ joint) = both in cc

    others : kinds ts ≡ params ++ kind.Mark mark.CLOSE_PAREN ∷ joint
    others = let g : t.kind ∷ kinds ts ≡ kind.Mark mark.OPEN_PAREN ∷ (params ++ kind.Mark mark.CLOSE_PAREN ∷ joint) = both in cc

    closed : (p : Parts ts params (kind.Mark mark.CLOSE_PAREN ∷ joint)) (back : List Lexeme) → ts ≡ p.front ++ back → kinds back ≡ kind.Mark mark.CLOSE_PAREN ∷ joint → IsHead (t ∷ ts)
    closed p [] s g = absurd (cc)
    closed p (c ∷ back) s g =
        let balanced : IsBalanced p.front = all_closed [] p.front (front_inner p.front (c ∷ back) (subst AllInner s inner.1)) (ap (all_open []) p.first ∙ b) in
        let closes : c.kind ≡ kind.Mark mark.CLOSE_PAREN = cc in
        let more : kinds back ≡ joint = cc in
        holes.listed t p.front c back first balanced closes (joint_of back joint j more) (t ∷ ts) (ap (λ z. t ∷ z) s)

    behind : Parts ts params (kind.Mark mark.CLOSE_PAREN ∷ joint) → IsHead (t ∷ ts)
    behind p = closed p p.back p.split p.second

-- ---- tokens of the code for those of the scanner

no_last : (ts : List Token) (ls : List Lexed) (texts : List (List ℕ)) → AreNoLast ts → StandFor texts ts ls → AllInner (map lexeme_of ls)
no_last [] [] texts n s = tt
no_last [] (l ∷ ls) texts n s = absurd s
no_last (t ∷ ts) [] texts n s = absurd s
no_last (t ∷ ts) (l ∷ ls) texts n s = (subst IsInner s.0.kind (inner t.kind n.0), no_last ts ls texts n.1 s.1)
  where
    inner : (k : Kind) → is_last k ≡ false → IsInner k
    inner kind.Bad e = absurd (cc)
    inner kind.End e = absurd (cc)
    inner kind.Name e = tt
    inner kind.Number e = tt
    inner kind.Str e = tt
    inner kind.TemplateWhole e = tt
    inner kind.TemplateHead e = tt
    inner kind.TemplateMiddle e = tt
    inner kind.TemplateTail e = tt
    inner (kind.Word i) e = tt
    inner (kind.Mark i) e = tt

same_kinds : (ts : List Token) (ls : List Lexed) (texts : List (List ℕ)) → StandFor texts ts ls → kinds (map lexeme_of ls) ≡ kinds_of ts
same_kinds [] [] texts s = refl
same_kinds [] (l ∷ ls) texts s = absurd s
same_kinds (t ∷ ts) [] texts s = absurd s
same_kinds (t ∷ ts) (l ∷ ls) texts s = ap (λ k. k ∷ kinds (map lexeme_of ls)) (sym s.0.kind) ∙ ap (λ (ks : List Kind). t.kind ∷ ks) (same_kinds ts ls texts s.1)

record Standing (texts : List (List ℕ)) (xs ys : List Token) (ls : List Lexed) : Type 0 where
  front : List Lexed
  back : List Lexed
  split : ls ≡ front ++ back
  first : StandFor texts xs front
  second : StandFor texts ys back

standing : (texts : List (List ℕ)) (xs ys : List Token) (ls : List Lexed) → StandFor texts (xs ++ ys) ls → Standing texts xs ys ls
standing texts [] ys ls s = record { front = []; back = ls; split = refl; first = tt; second = s }
standing texts (x ∷ xs) ys [] s = absurd s
standing texts (x ∷ xs) ys (l ∷ ls) s =
    let r = standing texts xs ys ls s.1 in
    record { front = l ∷ r.front; back = r.back; split = ap (λ (z : List Lexed). l ∷ z) r.split; first = (s.0, r.first); second = r.second }

-- the tokens in front of the last one
front_same : (xs ys : List Token) (a b : Token) → xs ++ a ∷ [] ≡ ys ++ b ∷ [] → xs ≡ ys
front_same [] [] a b e = refl
front_same [] (y ∷ ys) a b e = let none : [] ≡ ys ++ b ∷ [] = cc in absurd (not_none ys b none)
  where
    not_none : (zs : List Token) (z : Token) → ◌≡◌ {A = List Token} [] (zs ++ z ∷ []) → ⊥
    not_none [] z g = cc
    not_none (x ∷ zs) z g = cc
front_same (x ∷ xs) [] a b e = let none : xs ++ a ∷ [] ≡ [] = cc in absurd (not_none xs a none)
  where
    not_none : (zs : List Token) (z : Token) → ◌≡◌ {A = List Token} (zs ++ z ∷ []) [] → ⊥
    not_none [] z g = cc
    not_none (y ∷ zs) z g = cc
front_same (x ∷ xs) (y ∷ ys) a b e =
    let same : x ≡ y = cc in
    let others : xs ++ a ∷ [] ≡ ys ++ b ∷ [] = cc in
    ap (λ z. z ∷ xs) same ∙ ap (λ (zs : List Token). y ∷ zs) (front_same xs ys a b others)

front_no_last : (xs ys : List Token) → AreNoLast (xs ++ ys) → AreNoLast xs
front_no_last [] ys h = tt
front_no_last (x ∷ xs) ys h = (h.0, front_no_last xs ys h.1)

-- the scanner's tokens are a head, a brace that ends there, and a last one
pub record LexedHead (ls : List Lexed) (end : ℕ) : Type 0 where
  pub front : List Lexed
  pub opener : Lexed
  pub last : Lexed
  pub are : ls ≡ front ++ opener ∷ last ∷ []
  pub head : IsHead (map lexeme_of front)
  pub opens : opener.kind ≡ kind.Mark mark.OPEN_BRACE
  pub ends : opener.end ≡ end

pub lexed_head : (texts : List (List ℕ)) (ts : List Token) (ls : List Lexed) (end : ℕ) → StandFor texts ts ls → HasOneLast ts → EndsWithHead ts end → LexedHead ls end
lexed_head texts ts ls end s one h = with_last (standing texts h.front (h.opener ∷ h.last ∷ []) ls (subst (λ (xs : List Token). StandFor texts xs ls) h.are s))
  where
    inner : AreNoLast h.front
    inner =
        let same : h.front ++ h.opener ∷ [] ≡ one.front = front_same (h.front ++ h.opener ∷ []) one.front h.last one.last (append_assoc h.front (h.opener ∷ []) (h.last ∷ []) ∙ sym h.are ∙ one.split) in
        front_no_last h.front (h.opener ∷ []) (subst AreNoLast (sym same) one.others)

    with_both : (fr : List Lexed) (back : List Lexed) → ls ≡ fr ++ back → StandFor texts h.front fr → StandFor texts (h.opener ∷ h.last ∷ []) back → LexedHead ls end
    with_both fr [] e f g = absurd g
    with_both fr (o ∷ []) e f g = absurd g.1
    with_both fr (o ∷ l ∷ x ∷ more) e f g = absurd g.1.1
    with_both fr (o ∷ l ∷ []) e f g = record {
      front = fr;
      opener = o;
      last = l;
      are = e;
      head = head_of (map lexeme_of fr) (kinds_of h.front) (no_last h.front fr texts inner f) h.head (same_kinds h.front fr texts f);
      opens = sym g.0.kind ∙ h.opens;
      ends = sym g.0.end ∙ h.ends;
    }

    with_last : Standing texts h.front (h.opener ∷ h.last ∷ []) ls → LexedHead ls end
    with_last r = with_both r.front r.back r.split r.first r.second
