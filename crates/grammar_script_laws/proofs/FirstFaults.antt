-- The first fault of a part: from what a parser reads of all lexemes of such parts, what completes its faults, and that it
-- looks at nothing after them. Where it faults, there is the least lexeme that is not viable or is deep.
use Rattle.std.proofs.Common.{◌≡◌, ℕ, zero, suc, ◌+◌, ◌-◌, ◌≤◌, ◌<◌, List, [], ◌∷◌, ◌++◌, length, take, drop, get_or, refl, sym, ap, ◌∙◌, subst, arith, append_assoc, append-nil, length-append, cond, nat_lt, Bool, true, false, Option, Some, None, ◌⊎◌, inl, inr}
use Rattle.std.proofs.lemmas.Bool.{lt-ltb, ltb-true, ltb-false}
use Rattle.std.proofs.lemmas.List.{take-append-drop, take-append-le}
use Rattle.script_grammar.specs.declared.token.Kind.{Kind}
use Rattle.script_grammar.specs.declared.token.Kind.TheVariants as kind
use Rattle.script_grammar.specs.Lexeme.{Lexeme}
use Rattle.script_grammar.specs.Pieces.{Opener, open_behind, open_at_end}
use Rattle.script_grammar.specs.Fault.{depth_limit, Part, Viable, IsDeep, Refusal, Unexpected, TooDeep, RefusedAs, FirstFault}
use Rattle.grammar_parser_specs.specs.Parser.{Reply, Read, Bad, Deep, Parser}
use Rattle.grammar_parser_laws.proofs.Tests.{true_false, bool_cases}
use Rattle.grammar_parser_laws.proofs.Local.{Local}
use Rattle.grammar_parser_laws.proofs.Stands.{Marked, lexemes, marks, lexemes_append}
use Rattle.grammar_parser_laws.proofs.Complete.{bare, cut}
use Rattle.grammar_script_laws.proofs.Refuse.{bad_again, deep_again, cut_no_bad}
use Rattle.grammar_script_laws.proofs.Bracketed.{IsInner, AllInner}

-- lexemes whose brackets match are inside a text

inner_kind : (k : Kind) (os x : List Opener) → open_behind k os ≡ Some x → IsInner k
inner_kind kind.Name os x e = tt
inner_kind kind.Number os x e = tt
inner_kind kind.Str os x e = tt
inner_kind kind.TemplateWhole os x e = tt
inner_kind kind.TemplateHead os x e = tt
inner_kind kind.TemplateMiddle os x e = tt
inner_kind kind.TemplateTail os x e = tt
inner_kind (kind.Word i) os x e = tt
inner_kind (kind.Mark i) os x e = tt
inner_kind kind.Bad os x e = absurd (cc)
inner_kind kind.End os x e = absurd (cc)

pub inner_open : (w : List Lexeme) (os qs : List Opener) → open_at_end os w ≡ Some qs → AllInner w
inner_open [] os qs e = tt
inner_open (t ∷ w) os qs e = past (open_behind t.kind os) refl (λ x. inner_open w x qs) e
  where
    past : (o : Option (List Opener)) → open_behind t.kind os ≡ o → ((x : List Opener) → open_at_end x w ≡ Some qs → AllInner w) → (elim o [ None ↦ None | Some x ↦ open_at_end x w ]) ≡ Some qs → AllInner (t ∷ w)
    past None k h e = absurd (cc)
    past (Some x) k h e = (inner_kind t.kind os x k, h x e)

pub inner_front : (u v : List Lexeme) → AllInner (u ++ v) → AllInner u
inner_front [] v h = tt
inner_front (t ∷ u) v h = (h.0, inner_front u v h.1)

-- a text with what ends it, which stands inside no text
pub record Whole (ts : List Lexeme) : Type 0 where
  pub inner : List Lexeme
  pub last : Lexeme
  pub split : ts ≡ inner ++ last ∷ []
  pub ends : IsInner last.kind → ⊥

pub not_inner : (u : List Lexeme) (t : Lexeme) → (IsInner t.kind → ⊥) → AllInner (u ++ t ∷ []) → ⊥
not_inner [] t e h = e h.0
not_inner (x ∷ u) t e h = not_inner u t e h.1

-- lists

same_head : (x y : Lexeme) (u v : List Lexeme) → (x ∷ u) ≡ y ∷ v → x ≡ y
same_head x y u v e = cc

same_tail : (x y : Lexeme) (u v : List Lexeme) → (x ∷ u) ≡ y ∷ v → u ≡ v
same_tail x y u v e = cc

pub record Behind (ts p : List Lexeme) (x : Lexeme) : Type 0 where
  pub rest : List Lexeme
  pub split : ts ≡ p ++ x ∷ rest

-- what stands among the first lexemes stands in all
within : (p : List Lexeme) (x : Lexeme) (post e ts : List Lexeme) (n : ℕ) → take n ts ++ e ≡ p ++ x ∷ post → length p < n → n ≤ length ts → Behind ts p x
within p x post e ts zero h l k = absurd (omega (arith, l))
within p x post e [] (suc n) h l k = absurd (omega (arith, k))
within [] x post e (t ∷ ts) (suc n) h l k = record { rest = ts; split = ap (λ y. y ∷ ts) (same_head t x (take n ts ++ e) post h) }
within (y ∷ p) x post e (t ∷ ts) (suc n) h l k =
    let r = within p x post e ts n (same_tail t y (take n ts ++ e) (p ++ x ∷ post) h) (omega (arith, l)) (omega (arith, k)) in
    record { rest = r.rest; split = ap (λ z. z ∷ ts) (same_head t y (take n ts ++ e) (p ++ x ∷ post) h) ∙ ap (λ z. y ∷ z) r.split }

-- where the first deep lexeme stands

record Found (limit : ℕ) (m : List Marked) (us : List Lexeme) : Type 0 where
  before : List Marked
  at : Marked
  behind : List Marked
  split : m ≡ before ++ at ∷ behind
  left : us ≡ at.lexeme ∷ lexemes behind
  deep : limit < at.depth

deep_same : {A : Type 0} (us vs : List Lexeme) → ◌≡◌ {A = Reply A} (Deep [] us) (Deep [] vs) → us ≡ vs
deep_same us vs e = cc

cut_found : {A : Type 0} (limit : ℕ) (m : List Marked) (a : A) (v us : List Lexeme) → cut limit m [] (Read a [] v) ≡ Deep [] us → Found limit m us
cut_found limit [] a v us e = absurd (cc)
cut_found {A = A} limit (x ∷ m) a v us e = by (nat_lt limit x.depth) refl (cut_found limit m a v us) e
  where
    by : (b : Bool) → nat_lt limit x.depth ≡ b → (cut limit m [] (Read a [] v) ≡ Deep [] us → Found limit m us) → cond b (Deep [] (x.lexeme ∷ (lexemes m ++ []))) (cut limit m [] (Read a [] v)) ≡ Deep [] us → Found limit (x ∷ m) us
    by true k i h = record { before = []; at = x; behind = m; split = refl; left = sym (deep_same {A = A} (x.lexeme ∷ (lexemes m ++ [])) us h) ∙ ap (λ y. x.lexeme ∷ y) (append-nil (lexemes m)); deep = ltb-true limit x.depth k }
    by false k i h =
        let r = i h in
        record { before = x ∷ r.before; at = r.at; behind = r.behind; split = ap (λ y. x ∷ y) r.split; left = r.left; deep = r.deep }

record Early {A : Type 0} (limit : ℕ) (m : List Marked) (r : Reply A) (j : ℕ) : Type 0 where
  before : List Marked
  at : Marked
  behind : List Marked
  split : m ≡ before ++ at ∷ behind
  soon : length (lexemes before) ≤ j
  cuts : cut limit m [] r ≡ Deep [] (at.lexeme ∷ lexemes behind)

cut_early : {A : Type 0} (limit : ℕ) (m : List Marked) (r : Reply A) (j : ℕ) → limit < get_or (marks m) j 0 → Early limit m r j
cut_early limit [] r j h = absurd (omega (arith, h))
cut_early {A = A} limit (x ∷ m) r j h = by (nat_lt limit x.depth) refl j h (λ i k. cut_early limit m r i k)
  where
    by : (b : Bool) → nat_lt limit x.depth ≡ b → (j : ℕ) → limit < get_or (x.depth ∷ marks m) j 0 → ((i : ℕ) → limit < get_or (marks m) i 0 → Early limit m r i) → Early limit (x ∷ m) r j
    by true k j h i = record { before = []; at = x; behind = m; split = refl; soon = omega arith; cuts = ap (λ b. cond b (Deep [] (x.lexeme ∷ (lexemes m ++ []))) (cut limit m [] r)) k ∙ ap (λ y. Deep [] (x.lexeme ∷ y)) (append-nil (lexemes m)) }
    by false k zero h i = absurd (true_false (sym (lt-ltb limit x.depth h) ∙ k))
    by false k (suc j) h i =
        let q = i j h in
        record { before = x ∷ q.before; at = q.at; behind = q.behind; split = ap (λ y. x ∷ y) q.split; soon = omega (arith, q.soon); cuts = ap (λ b. cond b (Deep [] (x.lexeme ∷ (lexemes m ++ []))) (cut limit m [] r)) k ∙ q.cuts }

depth_at : (p : List Marked) (x : Marked) (q : List Marked) → get_or (marks (p ++ x ∷ q)) (length (lexemes p)) 0 ≡ x.depth
depth_at [] x q = refl
depth_at (y ∷ p) x q = depth_at p x q

-- What is asked of a parser.

module _ {A : Type 0} (P : Part) (f : Parser A) where
  -- the lexemes before a fault begin a part
  pub record BegunBad (ts us : List Lexeme) : Type 0 where
    pub front : List Lexeme
    pub split : ts ≡ front ++ us
    pub inner : AllInner front
    pub end : List Lexeme
    pub deep : List ℕ
    pub is : P (front ++ end) deep

  -- and those up to one that is too deep
  pub record BegunDeep (ts us : List Lexeme) : Type 0 where
    pub front : List Lexeme
    pub split : ts ≡ front ++ us
    pub token : Lexeme
    pub behind : List Lexeme
    pub first : us ≡ token ∷ behind
    pub end : List Lexeme
    pub deep : List ℕ
    pub is : P (front ++ token ∷ end) deep

  -- the lexemes of a part are read, or the first of them is found that is too deep
  pub record Cuts (w : List Lexeme) (deep : List ℕ) : Type 0 where
    pub marked : List Marked
    pub lexemes_are : lexemes marked ≡ w
    pub depths_are : marks marked ≡ deep
    pub of : A
    pub left : List Lexeme
    pub cuts : bare (f w) ≡ cut depth_limit marked [] (Read of [] left)

  pub record Decides : Type 0 where
    pub local : Local f
    pub bad_begins : (ts us : List Lexeme) → bare (f ts) ≡ Bad [] us → BegunBad ts us
    pub deep_begins : (ts us : List Lexeme) → bare (f ts) ≡ Deep [] us → BegunDeep ts us
    pub reads : (w : List Lexeme) (deep : List ℕ) → P w deep → Cuts w deep

-- what stands before a fault is viable
viable : (P : Part) (ts front us end : List Lexeme) (deep : List ℕ) → ts ≡ front ++ us → P (front ++ end) deep → (j : ℕ) → j < length front → Viable P ts j
viable P ts front us end deep e is j l = record {
  end = drop (suc j) front ++ end;
  deep = deep;
  is = subst (λ x. P x deep) (sym (ap (λ x. x ++ (drop (suc j) front ++ end)) (ap (take (suc j)) e ∙ take-append-le (suc j) front us (omega (arith, l))) ∙ sym (append_assoc (take (suc j) front) (drop (suc j) front) end) ∙ ap (λ x. x ++ end) (take-append-drop (suc j) front))) is;
}

-- the lexemes up to and including one
up_to : (front : List Lexeme) (x : Lexeme) (r : List Lexeme) → take (suc (length front)) (front ++ x ∷ r) ≡ front ++ x ∷ []
up_to [] x r = refl
up_to (t ∷ front) x r = ap (λ y. t ∷ y) (up_to front x r)

module _ {A : Type 0} (P : Part) (f : Parser A) (d : Decides P f) where
  -- a deep lexeme is found at the latest there
  pub record DeepBefore (ts : List Lexeme) (j : ℕ) : Type 0 where
    pub before : List Lexeme
    pub at : Lexeme
    pub rest : List Lexeme
    pub split : ts ≡ before ++ at ∷ rest
    pub soon : length before ≤ j
    pub found : bare (f ts) ≡ Deep [] (at ∷ rest)

  pub deep_before : (ts : List Lexeme) (j : ℕ) → j < length ts → IsDeep P ts j → DeepBefore ts j
  deep_before ts j l b =
      let c = d.reads (take (suc j) ts ++ b.end) b.deep b.is in
      let q = cut_early depth_limit c.marked (Read c.of [] c.left) j (subst (λ x. depth_limit < get_or x j 0) (sym c.depths_are) b.above) in
      let p : List Lexeme = lexemes q.before in
      let x : Lexeme = q.at.lexeme in
      let split : take (suc j) ts ++ b.end ≡ p ++ x ∷ lexemes q.behind = sym c.lexemes_are ∙ ap lexemes q.split ∙ lexemes_append q.before (q.at ∷ q.behind) in
      let w = within p x (lexemes q.behind) b.end ts (suc j) split (omega (arith, q.soon)) (omega (arith, l)) in
      record {
        before = p;
        at = x;
        rest = w.rest;
        split = w.split;
        soon = q.soon;
        found = ap (λ y. bare (f y)) w.split ∙ deep_again f d.local p x (lexemes q.behind) w.rest (ap (λ y. bare (f y)) (sym split) ∙ c.cuts ∙ q.cuts);
      }

  bad_deep : (us vs : List Lexeme) → ◌≡◌ {A = Reply A} (Bad [] us) (Deep [] vs) → ⊥
  bad_deep us vs e = cc

  bad_at : (ts : List Lexeme) (x : Lexeme) (r : List Lexeme) → bare (f ts) ≡ Bad [] (x ∷ r) → (b : BegunBad P f ts (x ∷ r)) → FirstFault P ts (length b.front) Unexpected
  bad_at ts x r e b = record { before = λ j l. (viable P ts b.front (x ∷ r) b.end b.deep b.split b.is j l, not_deep j l); refused = none }
    where
      here : length ts ≡ length b.front + suc (length r)
      here = ap length b.split ∙ length-append b.front (x ∷ r)

      not_deep : (j : ℕ) → j < length b.front → IsDeep P ts j → ⊥
      not_deep j l q = let g = deep_before ts j (omega (arith, l, here)) q in bad_deep (x ∷ r) (g.at ∷ g.rest) (sym e ∙ g.found)

      none : Viable P ts (length b.front) → ⊥
      none v =
          let same : take (suc (length b.front)) ts ++ v.end ≡ b.front ++ x ∷ v.end = ap (λ y. y ++ v.end) (ap (take (suc (length b.front))) b.split ∙ up_to b.front x r) ∙ append_assoc b.front (x ∷ []) v.end in
          let c = d.reads (take (suc (length b.front)) ts ++ v.end) v.deep v.is in
          cut_no_bad depth_limit c.marked [] c.of c.left (x ∷ v.end) (sym c.cuts ∙ ap (λ y. bare (f y)) same ∙ bad_again f d.local b.front x r v.end (ap (λ y. bare (f y)) (sym b.split) ∙ e))

  deep_at : (ts us : List Lexeme) → bare (f ts) ≡ Deep [] us → (b : BegunDeep P f ts us) → FirstFault P ts (length b.front) TooDeep
  deep_at ts us e b = record { before = λ j l. (viable P ts b.front us (b.token ∷ b.end) b.deep b.split b.is j l, not_deep j l); refused = too_deep }
    where
      here : length ts ≡ length b.front + length us
      here = ap length b.split ∙ length-append b.front us

      split : ts ≡ b.front ++ b.token ∷ b.behind
      split = b.split ∙ ap (λ y. b.front ++ y) b.first

      not_deep : (j : ℕ) → j < length b.front → IsDeep P ts j → ⊥
      not_deep j l q =
          let g = deep_before ts j (omega (arith, l, here)) q in
          let same : us ≡ g.at ∷ g.rest = deep_same {A = A} us (g.at ∷ g.rest) (sym e ∙ g.found) in
          absurd (omega (arith, l, g.soon, here, ap length same, ap length g.split, length-append g.before (g.at ∷ g.rest)))

      same : take (suc (length b.front)) ts ++ b.end ≡ b.front ++ b.token ∷ b.end
      same = ap (λ y. y ++ b.end) (ap (take (suc (length b.front))) split ∙ up_to b.front b.token b.behind) ∙ append_assoc b.front (b.token ∷ []) b.end

      c : Cuts P f (b.front ++ b.token ∷ b.end) b.deep
      c = d.reads (b.front ++ b.token ∷ b.end) b.deep b.is

      found : Found depth_limit c.marked (b.token ∷ b.end)
      found = cut_found depth_limit c.marked c.of c.left (b.token ∷ b.end) (sym c.cuts ∙ deep_again f d.local b.front b.token b.behind b.end (ap (λ y. bare (f y)) (sym split) ∙ e ∙ ap (λ y. Deep [] y) b.first))

      place : length (lexemes found.before) ≡ length b.front
      place = omega (arith, ap length c.lexemes_are, ap (λ y. length (lexemes y)) found.split, ap length (lexemes_append found.before (found.at ∷ found.behind)), length-append (lexemes found.before) (found.at.lexeme ∷ lexemes found.behind), length-append b.front (b.token ∷ b.end), ap length found.left)

      is_above : depth_limit < get_or b.deep (length b.front) 0
      is_above = subst (λ y. depth_limit < y) (sym (sym (ap (λ y. get_or y (length b.front) 0) c.depths_are) ∙ ap (λ y. get_or (marks c.marked) y 0) (sym place) ∙ ap (λ y. get_or (marks y) (length (lexemes found.before)) 0) found.split ∙ depth_at found.before found.at found.behind)) found.deep

      too_deep : IsDeep P ts (length b.front)
      too_deep = record { end = b.end; deep = b.deep; is = subst (λ y. P y b.deep) (sym same) b.is; above = is_above }

  front_length : (ts front us : List Lexeme) → ts ≡ front ++ us → length front ≡ length ts - length us
  front_length ts front us e = omega (arith, ap length e, length-append front us)

  -- no fault stands after what ends a text
  pub bad_some : (ts : List Lexeme) → Whole ts → bare (f ts) ≡ Bad [] [] → ⊥
  bad_some ts h e =
      let b = d.bad_begins ts [] e in
      not_inner h.inner h.last h.ends (subst AllInner (sym (append-nil b.front) ∙ sym b.split ∙ h.split) b.inner)

  -- the place of a fault is that of the first fault of the part
  pub first_bad_by : (ts us : List Lexeme) → (bare (f ts) ≡ Bad [] [] → ⊥) → bare (f ts) ≡ Bad [] us → FirstFault P ts (length ts - length us) Unexpected
  first_bad_by ts [] h e = absurd (h e)
  first_bad_by ts (x ∷ r) h e =
      let b = d.bad_begins ts (x ∷ r) e in
      subst (λ k. FirstFault P ts k Unexpected) (front_length ts b.front (x ∷ r) b.split) (bad_at ts x r e b)

  pub first_bad : (ts us : List Lexeme) → Whole ts → bare (f ts) ≡ Bad [] us → FirstFault P ts (length ts - length us) Unexpected
  first_bad ts us h e = first_bad_by ts us (bad_some ts h) e

  pub first_deep : (ts us : List Lexeme) → bare (f ts) ≡ Deep [] us → FirstFault P ts (length ts - length us) TooDeep
  first_deep ts us e =
      let b = d.deep_begins ts us e in
      subst (λ k. FirstFault P ts k TooDeep) (front_length ts b.front us b.split) (deep_at ts us e b)

-- Of a part that is read, no lexeme is deep.
module _ {A : Type 0} (P : Part) (f : Parser A) (d : Decides P f) where
  pub read_shallow : (front us : List Lexeme) (a : A) (deep : List ℕ) → bare (f (front ++ us)) ≡ Read a [] us → P front deep → (j : ℕ) → get_or deep j 0 ≤ depth_limit
  read_shallow front us a deep e p j = by (bool_cases (nat_lt depth_limit (get_or deep j 0)))
    where
      found : depth_limit < get_or deep j 0 → ⊥
      found h =
          let c = d.reads front deep p in
          let q = cut_early depth_limit c.marked (Read c.of [] c.left) j (subst (λ x. depth_limit < get_or x j 0) (sym c.depths_are) h) in
          let before : List Lexeme = lexemes q.before in
          let behind : List Lexeme = lexemes q.behind in
          let split : front ≡ before ++ q.at.lexeme ∷ behind = sym c.lexemes_are ∙ ap lexemes q.split ∙ lexemes_append q.before (q.at ∷ q.behind) in
          let here = deep_again f d.local before q.at.lexeme behind (behind ++ us) (ap (λ y. bare (f y)) (sym split) ∙ c.cuts ∙ q.cuts) in
          not_both a us (q.at.lexeme ∷ (behind ++ us)) (sym e ∙ ap (λ y. bare (f (y ++ us))) split ∙ ap (λ y. bare (f y)) (append_assoc before (q.at.lexeme ∷ behind) us) ∙ here)
        where
          not_both : (a : A) (us vs : List Lexeme) → ◌≡◌ {A = Reply A} (Read a [] us) (Deep [] vs) → ⊥
          not_both a us vs e = cc

      by : (nat_lt depth_limit (get_or deep j 0) ≡ true) ⊎ (nat_lt depth_limit (get_or deep j 0) ≡ false) → get_or deep j 0 ≤ depth_limit
      by (inl h) = absurd (found (ltb-true depth_limit (get_or deep j 0) h))
      by (inr h) = ltb-false depth_limit (get_or deep j 0) h

-- A text has one first fault at most.

deep_viable : (P : Part) (ts : List Lexeme) (k : ℕ) → IsDeep P ts k → Viable P ts k
deep_viable P ts k b = record { end = b.end; deep = b.deep; is = b.is }

refused_early : (P : Part) (ts : List Lexeme) (k : ℕ) (why : Refusal) → RefusedAs why P ts k → Viable P ts k × (IsDeep P ts k → ⊥) → ⊥
refused_early P ts k Unexpected r v = r v.0
refused_early P ts k TooDeep r v = v.1 r

same_refusal : (P : Part) (ts : List Lexeme) (k : ℕ) (a b : Refusal) → RefusedAs a P ts k → RefusedAs b P ts k → a ≡ b
same_refusal P ts k Unexpected Unexpected r s = refl
same_refusal P ts k TooDeep TooDeep r s = refl
same_refusal P ts k Unexpected TooDeep r s = absurd (r (deep_viable P ts k s))
same_refusal P ts k TooDeep Unexpected r s = absurd (s (deep_viable P ts k r))

one_place : (P : Part) (ts : List Lexeme) (j k : ℕ) (a b : Refusal) → FirstFault P ts j a → FirstFault P ts k b → j < k → ⊥
one_place P ts j k a b x y l = refused_early P ts j a x.refused (y.before j l)

pub fault_place : (P : Part) (ts : List Lexeme) (j k : ℕ) (a b : Refusal) → FirstFault P ts j a → FirstFault P ts k b → j ≡ k
fault_place P ts j k a b x y = by (bool_cases (nat_lt j k)) (bool_cases (nat_lt k j))
  where
    by : (nat_lt j k ≡ true) ⊎ (nat_lt j k ≡ false) → (nat_lt k j ≡ true) ⊎ (nat_lt k j ≡ false) → j ≡ k
    by (inl e) q = absurd (one_place P ts j k a b x y (ltb-true j k e))
    by (inr e) (inl h) = absurd (one_place P ts k j b a y x (ltb-true k j h))
    by (inr e) (inr h) = omega (arith, ltb-false j k e, ltb-false k j h)

pub fault_kind : (P : Part) (ts : List Lexeme) (j k : ℕ) (a b : Refusal) → FirstFault P ts j a → FirstFault P ts k b → a ≡ b
fault_kind P ts j k a b x y = same_refusal P ts k a b (subst (λ i. RefusedAs a P ts i) (fault_place P ts j k a b x y) x.refused) y.refused
