-- A walk over a parenthesis that goes from each bracket to its partner sees where its items start.
use Rattle.std.proofs.Common.{◌≡◌, ◌∙◌, ◌<◌, ◌≤◌, ◌+◌, ◌⊎◌, inl, inr, ℕ, zero, suc, List, [], ◌∷◌, ◌++◌, Bool, true, false, not, ◌&&◌, ◌||◌, Option, Some, None, length, take, drop, get_or, option_map, refl, ap, sym, subst, arith, if◌then◌else◌, option_and_then}
use Rattle.std.proofs.Math.Seq.{drop-cons}
use Rattle.std.proofs.lemmas.List.{length-take-le, length-map}
use Rattle.script_grammar.specs.declared.token.Kind.{Kind}
use Rattle.script_grammar.specs.declared.token.Kind.TheVariants as kind
use Rattle.script_grammar.specs.declared.token.mark.TheConstants as mark
use Rattle.script_grammar.specs.declared.brackets.Bracket.{Bracket}
use Rattle.script_grammar.specs.declared.brackets.Bracket.TheVariants.{Paren, Template}
use Rattle.script_grammar.specs.declared.brackets.BracketPart.{BracketPart}
use Rattle.script_grammar.specs.declared.brackets.BracketPart.TheVariants.{Opening, Closing, Middle, Other}
use Rattle.script_grammar.specs.Kinds.{is_mark}
use Rattle.script_grammar.specs.Lexeme.{Lexeme}
use Rattle.script_grammar.specs.Pieces.{paren, open_behind, open_at_end}
use Rattle.script_grammar.specs.Matching.{part_of, part_at, is_same, next_open, all_open, opened_by, closed_by, between, Pairs, IsBalanced}
use Rattle.grammar_parser_specs.specs.Parser.{head_of}
use Rattle.grammar_parser_specs.specs.Exprs.{only_params, params_case, is_between, begins_param}
use Rattle.grammar_script_laws.proofs.Bracketed.{opener_of, openers, kinds, IsInner, AllInner, open_behind-next, next_open-under}
use Rattle.grammar_parser_laws.proofs.Flat.{deeper_params}
use Rattle.grammar_script_laws.proofs.Partnered.{next-above, take-shorter, split-behind, kinds-between, inner-take, inner-drop, inner-at, some-eq, part-read}

-- The first token that closes a bracket which is open above others.
record Closer (u : List Bracket) (b : Bracket) (ks : List Kind) : Type 0 where
  at : ℕ
  within : at < length ks
  balanced : all_open u (take at ks) ≡ Some []
  closing : closed_by (part_at ks at) ≡ Some b
  rest : all_open (b ∷ []) (drop at ks) ≡ Some []

closer_case : (k : Kind) (ks : List Kind) (u : List Bracket) (b : Bracket) → ((v : List Bracket) → all_open (v ++ b ∷ []) ks ≡ Some [] → Closer v b ks) → all_open (u ++ b ∷ []) (k ∷ ks) ≡ Some [] → Closer u b (k ∷ ks)
closer_case k ks u b again h = behind (next_open (u ++ b ∷ []) (part_of k)) refl h
  where
    later : (v : List Bracket) → next_open u (part_of k) ≡ Some v → Closer v b ks → Closer u b (k ∷ ks)
    later v e c = record { at = suc c.at; within = (let w = c.within in omega arith); balanced = ap (option_and_then (λ s. all_open s (take c.at ks))) e ∙ c.balanced; closing = c.closing; rest = c.rest }

    here : u ≡ [] → closed_by (part_of k) ≡ Some b → Closer u b (k ∷ ks)
    here e c = record { at = 0; within = omega arith; balanced = ap Some e; closing = c; rest = subst (λ x. all_open (x ++ b ∷ []) (k ∷ ks) ≡ Some []) e h }

    behind : (n : Option (List Bracket)) → next_open (u ++ b ∷ []) (part_of k) ≡ n → option_and_then (λ s. all_open s ks) n ≡ Some [] → Closer u b (k ∷ ks)
    behind None e g = absurd (cc)
    behind (Some s) e g = elim (next-above (part_of k) u b [] s e) [
      | inl v ↦ later v.0 v.1.0 (again v.0 (subst (λ x. all_open x ks ≡ Some []) v.1.1 g))
      | inr c ↦ here c.0 c.1
    ]

closer : (ks : List Kind) (u : List Bracket) (b : Bracket) → all_open (u ++ b ∷ []) ks ≡ Some [] → Closer u b ks
closer [] [] b h = absurd (cc)
closer [] (x ∷ u) b h = absurd (cc)
closer (k ∷ ks) u b h = closer_case k ks u b (λ v g. closer ks v b g) h

-- the two ways to say what is open after tokens agree
open_kinds : (u : List Lexeme) (s : List Bracket) → AllInner u → open_at_end (openers s) u ≡ option_map openers (all_open s (kinds u))
open_kinds [] s h = refl
open_kinds (t ∷ u) s h = ap (λ o. elim o [ None ↦ None | Some x ↦ open_at_end x u ]) (open_behind-next t.kind s h.0) ∙ behind (λ x. open_kinds u x h.1) (next_open s (part_of t.kind))
  where
    behind : ((x : List Bracket) → open_at_end (openers x) u ≡ option_map openers (all_open x (kinds u))) → (n : Option (List Bracket)) → (elim (option_map openers n) [ None ↦ None | Some x ↦ open_at_end x u ]) ≡ option_map openers (option_and_then (λ x. all_open x (kinds u)) n)
    behind again None = refl
    behind again (Some x) = again x

-- one token of the parenthesis
step_open : (starts : Bool) (t : Lexeme) (ts : List Lexeme) (s v : List Bracket) → IsInner t.kind → next_open s (part_of t.kind) ≡ Some v → only_params starts (openers (s ++ Paren ∷ [])) (t ∷ ts) ≡ ((not starts || begins_param t (head_of ts)) && only_params (is_between t.kind (openers (v ++ Paren ∷ []))) (openers (v ++ Paren ∷ [])) ts)
step_open starts t ts s v i e =
    ap (λ o. params_case o (not starts || begins_param t (head_of ts)) (λ qs. only_params (is_between t.kind qs) qs ts)) (open_behind-next t.kind (s ++ Paren ∷ []) i ∙ ap (option_map openers) (next_open-under t.kind s v (Paren ∷ []) e))
    ∙ goes v
  where
    goes : (v : List Bracket) → params_case (Some (openers (v ++ Paren ∷ []))) (not starts || begins_param t (head_of ts)) (λ qs. only_params (is_between t.kind qs) qs ts) ≡ ((not starts || begins_param t (head_of ts)) && only_params (is_between t.kind (openers (v ++ Paren ∷ []))) (openers (v ++ Paren ∷ [])) ts)
    goes [] = refl
    goes (x ∷ v) = refl

-- Where the walk stands: in no bracket inside the parenthesis, or at the token that closes the one that it is in.
abbrev pub Stands : BracketPart → List Bracket → Type 0
Stands part s = (s ≡ []) ⊎ ((b : Bracket) × (s ≡ b ∷ []) × (closed_by part ≡ Some b))

pub record Striding (ls : List Lexeme) (a p n : ℕ) (starts : Bool) : Type 0 where
  pub open_now : List Bracket
  pub above : a < n
  pub below : n ≤ p
  pub rest : all_open open_now (drop n (take p (kinds ls))) ≡ Some []
  pub stands : Stands (part_at (kinds ls) n) open_now
  pub same : only_params starts (openers (open_now ++ Paren ∷ [])) (drop n ls) ≡ only_params true (paren ∷ []) (drop (suc a) ls)

drop-nil : {A : Type 0} (n : ℕ) → drop {A = A} n [] ≡ []
drop-nil zero = refl
drop-nil (suc n) = refl

drop-drop : {A : Type 0} (n k : ℕ) (xs : List A) → drop k (drop n xs) ≡ drop (n + k) xs
drop-drop zero k xs = let e : k ≡ 0 + k = omega arith in ap (λ m. drop m xs) e
drop-drop (suc n) k [] = drop-nil k ∙ sym (drop-nil (suc n + k))
drop-drop (suc n) k (x ∷ xs) = let e : suc (n + k) ≡ suc n + k = omega arith in drop-drop n k xs ∙ ap (λ m. drop m (x ∷ xs)) e

get-take : {A : Type 0} (xs : List A) (n m : ℕ) (d : A) → n < m → get_or (take m xs) n d ≡ get_or xs n d
get-take [] n zero d l = refl
get-take [] n (suc m) d l = refl
get-take (x ∷ xs) n zero d l = absurd (omega arith)
get-take (x ∷ xs) zero (suc m) d l = refl
get-take (x ∷ xs) (suc n) (suc m) d l = get-take xs n m d (omega arith)

get-drop : {A : Type 0} (n k : ℕ) (xs : List A) (d : A) → get_or (drop n xs) k d ≡ get_or xs (n + k) d
get-drop zero k xs d = let e : k ≡ 0 + k = omega arith in ap (λ m. get_or xs m d) e
get-drop (suc n) k [] d = refl
get-drop (suc n) k (x ∷ xs) d = let e : suc (n + k) ≡ suc n + k = omega arith in get-drop n k xs d ∙ ap (λ m. get_or (x ∷ xs) m d) e

take-nil : {A : Type 0} (n : ℕ) → take {A = A} n [] ≡ []
take-nil zero = refl
take-nil (suc n) = refl

drop-take : {A : Type 0} (n k : ℕ) (xs : List A) → drop n (take (n + k) xs) ≡ take k (drop n xs)
drop-take zero k xs = let e : 0 + k ≡ k = omega arith in ap (λ m. take m xs) e
drop-take (suc n) k [] = ap (drop (suc n)) (take-nil (suc n + k)) ∙ sym (take-nil k)
drop-take (suc n) k (x ∷ xs) = let e : suc n + k ≡ suc (n + k) = omega arith in ap (λ m. drop (suc n) (take m (x ∷ xs))) e ∙ drop-take n k xs

left_below : (n k : ℕ) (xs : List Kind) → k < length (drop n xs) → n + k < length xs
left_below zero k xs l = omega (arith, l)
left_below (suc n) k [] l = absurd (omega (arith, l))
left_below (suc n) k (x ∷ xs) l = omega (arith, left_below n k xs l)

module _ (ls : List Lexeme) (a p : ℕ) (d : Lexeme) (within : p < length ls) (inner : AllInner (take (suc p) ls)) (pair : Pairs (kinds ls) a p) where
  inner_at : (n : ℕ) → n ≤ p → IsInner (get_or ls n d).kind
  inner_at n l = inner-at ls n (suc p) d (omega arith) (omega arith) inner

  pub strides_init : Striding ls a p (suc a) true
  strides_init = record { open_now = []; above = omega arith; below = (let b = pair.before in omega arith); rest = pair.balanced; stands = inl refl; same = refl }

  -- the tokens from here on
  rest_cons : (n : ℕ) → n < p → drop n (take p (kinds ls)) ≡ get_or (kinds ls) n kind.End ∷ drop (suc n) (take p (kinds ls))
  rest_cons n l = drop-cons (take p (kinds ls)) n kind.End (let e = length-take-le p (kinds ls) (let z = length-map ls (λ (t : Lexeme). t.kind) in omega arith) in omega arith) ∙ ap (λ k. k ∷ drop (suc n) (take p (kinds ls))) (get-take (kinds ls) n p kind.End l)

  record Next (n : ℕ) (s : List Bracket) : Type 0 where
    stack : List Bracket
    opens : next_open s (part_at (kinds ls) n) ≡ Some stack
    rest : all_open stack (drop (suc n) (take p (kinds ls))) ≡ Some []

  next : (n : ℕ) (s : List Bracket) → n < p → all_open s (drop n (take p (kinds ls))) ≡ Some [] → Next n s
  next n s l h = by (next_open s (part_at (kinds ls) n)) refl (ap (all_open s) (sym (rest_cons n l)) ∙ h)
    where
      by : (o : Option (List Bracket)) → next_open s (part_at (kinds ls) n) ≡ o → option_and_then (λ x. all_open x (drop (suc n) (take p (kinds ls)))) o ≡ Some [] → Next n s
      by None e g = absurd (cc)
      by (Some v) e g = record { stack = v; opens = e; rest = g }

  part_is : (n : ℕ) → n ≤ p → part_at (kinds ls) n ≡ part_of (get_or ls n d).kind
  part_is n l = part-read ls n d (omega arith)

  -- the walk goes on from here
  step_here : (n : ℕ) (starts : Bool) (s v : List Bracket) → n < p → next_open s (part_at (kinds ls) n) ≡ Some v → only_params starts (openers (s ++ Paren ∷ [])) (drop n ls) ≡ ((not starts || begins_param (get_or ls n d) (head_of (drop (suc n) ls))) && only_params (is_between (get_or ls n d).kind (openers (v ++ Paren ∷ []))) (openers (v ++ Paren ∷ [])) (drop (suc n) ls))
  step_here n starts s v l e = ap (only_params starts (openers (s ++ Paren ∷ []))) (drop-cons ls n d (omega arith)) ∙ step_open starts (get_or ls n d) (drop (suc n) ls) s v (inner_at n (omega arith)) (ap (next_open s) (sym (part_is n (omega arith))) ∙ e)

  -- at the start of an item that is no parameter
  pub strides_stop : (n : ℕ) → n < p → Striding ls a p n true → begins_param (get_or ls n d) (head_of (drop (suc n) ls)) ≡ false → only_params true (paren ∷ []) (drop (suc a) ls) ≡ false
  strides_stop n l h b =
      let x = next n h.open_now l h.rest in
      sym h.same ∙ step_here n true h.open_now x.stack l x.opens ∙ ap (λ y. y && only_params (is_between (get_or ls n d).kind (openers (x.stack ++ Paren ∷ []))) (openers (x.stack ++ Paren ∷ [])) (drop (suc n) ls)) b

  -- at the closing parenthesis
  pub strides_end : (n : ℕ) (starts : Bool) → p ≤ n → Striding ls a p n starts → (get_or ls p d).kind ≡ kind.Mark mark.CLOSE_PAREN → true ≡ only_params true (paren ∷ []) (drop (suc a) ls)
  strides_end n starts l h e =
      let same : n ≡ p = (let b = h.below in omega arith) in
      let none : h.open_now ≡ [] = empty h.open_now (subst (λ x. all_open h.open_now (drop x (take p (kinds ls))) ≡ Some []) same h.rest) in
      sym (closes starts (get_or ls p d) (drop (suc p) ls) e) ∙ ap (only_params starts (paren ∷ [])) (sym (drop-cons ls p d within) ∙ ap (λ x. drop x ls) (sym same)) ∙ ap (λ s. only_params starts (openers (s ++ Paren ∷ [])) (drop n ls)) (sym none) ∙ h.same
    where
      drop-none : (m : ℕ) (xs : List Kind) → drop m (take m xs) ≡ []
      drop-none zero xs = refl
      drop-none (suc m) [] = refl
      drop-none (suc m) (x ∷ xs) = drop-none m xs

      empty : (s : List Bracket) → all_open s (drop p (take p (kinds ls))) ≡ Some [] → s ≡ []
      empty s g = some-eq (sym (ap (all_open s) (drop-none p (kinds ls))) ∙ g)

      closes : (b : Bool) (t : Lexeme) (ts : List Lexeme) → t.kind ≡ kind.Mark mark.CLOSE_PAREN → only_params b (paren ∷ []) (t ∷ ts) ≡ true
      closes b t ts k = ap (λ j. params_case (open_behind j (paren ∷ [])) (not b || begins_param t (head_of ts)) (λ qs. only_params (is_between t.kind qs) qs ts)) k

  -- One token further, from one that opens nothing.
  pub strides_step : (n : ℕ) (starts : Bool) → n < p → Striding ls a p n starts → (not starts || begins_param (get_or ls n d) (head_of (drop (suc n) ls))) ≡ true → opened_by (part_at (kinds ls) n) ≡ None → Striding ls a p (suc n) (is_mark mark.COMMA (get_or ls n d).kind)
  strides_step n starts l h b o =
      let x = next n h.open_now l h.rest in
      let none : x.stack ≡ [] = left (part_at (kinds ls) n) h.open_now x.stack h.stands o x.opens in
      record {
        open_now = [];
        above = (let z = h.above in omega arith);
        below = omega arith;
        rest = subst (λ s. all_open s (drop (suc n) (take p (kinds ls))) ≡ Some []) none x.rest;
        stands = inl refl;
        same =
            sym (ap (λ y. y && only_params (is_mark mark.COMMA (get_or ls n d).kind) (paren ∷ []) (drop (suc n) ls)) b)
            ∙ ap (λ s. (not starts || begins_param (get_or ls n d) (head_of (drop (suc n) ls))) && only_params (is_between (get_or ls n d).kind (openers (s ++ Paren ∷ []))) (openers (s ++ Paren ∷ [])) (drop (suc n) ls)) (sym none)
            ∙ sym (step_here n starts h.open_now x.stack l x.opens) ∙ h.same;
      }
    where
      closes_one : (b c : Bracket) (v : List Bracket) (t : Bool) → (if t then Some [] else None) ≡ Some v → v ≡ []
      closes_one b c v true e = sym (some-eq e)
      closes_one b c v false e = absurd (cc)

      left : (q : BracketPart) (s v : List Bracket) → Stands q s → opened_by q ≡ None → next_open s q ≡ Some v → v ≡ []
      left (Opening c) s v t o e = absurd (cc)
      left Middle s v t o e = absurd (cc)
      left Other s v (inl t) o e = sym (some-eq e) ∙ t
      left Other s v (inr t) o e = absurd (cc t.2)
      left (Closing c) s v (inl t) o e = absurd (no_some (sym (ap (λ x. next_open x (Closing c)) t) ∙ e))
        where
          no_some : {A : Type 0} {x : A} → None ≡ Some x → ⊥
          no_some e = cc
      left (Closing c) s v (inr t) o e = closes_one t.0 c v (is_same t.0 c) (sym (ap (λ x. next_open x (Closing c)) t.1) ∙ e)

  -- From a token that opens a bracket, to the one that closes it.

  pub record Jump (n : ℕ) (starts : Bool) : Type 0 where
    pub to : ℕ
    pub below : to < p
    pub pairs : Pairs (kinds ls) n to
    pub behind : Striding ls a p to false

  pub strides_jump : (n : ℕ) (starts : Bool) (b : Bracket) → n < p → Striding ls a p n starts → (not starts || begins_param (get_or ls n d) (head_of (drop (suc n) ls))) ≡ true → opened_by (part_at (kinds ls) n) ≡ Some b → Jump n starts
  strides_jump n starts b l h g o =
      let x = next n h.open_now l h.rest in
      let one : x.stack ≡ b ∷ [] = opened (part_at (kinds ls) n) h.open_now x.stack h.stands o x.opens in
      jump x one (closer (drop (suc n) (take p (kinds ls))) [] b (subst (λ s. all_open s (drop (suc n) (take p (kinds ls))) ≡ Some []) one x.rest))
    where
      opened : (q : BracketPart) (s v : List Bracket) → Stands q s → opened_by q ≡ Some b → next_open s q ≡ Some v → v ≡ b ∷ []
      opened (Opening c) s v (inl t) o e = sym (some-eq e) ∙ ap (λ y. c ∷ y) t ∙ ap (λ y. y ∷ []) (some-eq o)
      opened (Opening c) s v (inr t) o e = absurd (cc t.2)
      opened Middle s v (inl t) o e = absurd (no_some (sym (ap (λ y. next_open y Middle) t) ∙ e))
        where
          no_some : {A : Type 0} {x : A} → None ≡ Some x → ⊥
          no_some e = cc
      opened Middle s v (inr t) o e = stays (is_same t.0 Template) (sym (ap (λ y. next_open y Middle) t.1) ∙ e) ∙ ap (λ y. y ∷ []) (sym (some-eq t.2) ∙ some-eq o)
        where
          stays : (z : Bool) → (if z then Some (t.0 ∷ []) else None) ≡ Some v → v ≡ t.0 ∷ []
          stays true k = sym (some-eq k)
          stays false k = absurd (cc)
      opened (Closing c) s v t o e = absurd (cc)
      opened Other s v t o e = absurd (cc)

      jump : (x : Next n h.open_now) → x.stack ≡ b ∷ [] → Closer [] b (drop (suc n) (take p (kinds ls))) → Jump n starts
      jump x one c =
          let q : ℕ = suc n + c.at in
          let under : suc n + c.at < p = omega (arith, left_below (suc n) c.at (take p (kinds ls)) c.within, taken) in
          let closing : closed_by (part_at (kinds ls) (suc n + c.at)) ≡ Some b = ap (λ k. closed_by (part_of k)) (sym (get-drop (suc n) c.at (take p (kinds ls)) kind.End ∙ get-take (kinds ls) (suc n + c.at) p kind.End under)) ∙ c.closing in
          let balanced : IsBalanced (between (kinds ls) n (suc n + c.at)) = ap (all_open []) (ap (drop (suc n)) (sym (take-shorter (kinds ls) (suc n + c.at) p (omega (arith, under)))) ∙ drop-take (suc n) c.at (take p (kinds ls))) ∙ c.balanced in
          record {
            to = suc n + c.at;
            below = under;
            pairs = record { before = omega arith; bracket = b; opened = o; closed = closing; balanced = balanced };
            behind = record {
              open_now = b ∷ [];
              above = (let z = h.above in omega arith);
              below = omega (arith, under);
              rest = ap (all_open (b ∷ [])) (sym (drop-drop (suc n) c.at (take p (kinds ls)))) ∙ c.rest;
              stands = inr (b, refl, closing);
              same =
                  sym (over (suc n + c.at) (omega arith) under balanced)
                  ∙ sym (ap (λ y. y && only_params false (opener_of b ∷ paren ∷ []) (drop (suc n) ls)) g)
                  ∙ ap (λ s. (not starts || begins_param (get_or ls n d) (head_of (drop (suc n) ls))) && only_params (is_between (get_or ls n d).kind (openers (s ++ Paren ∷ []))) (openers (s ++ Paren ∷ [])) (drop (suc n) ls)) (sym one)
                  ∙ sym (step_here n starts h.open_now x.stack l x.opens) ∙ h.same;
            };
          }
        where
          taken : length (take p (kinds ls)) ≤ p
          taken = (let e = length-take-le p (kinds ls) (let z = length-map ls (λ (t : Lexeme). t.kind) in omega arith) in omega arith)

          over : (q : ℕ) → n < q → q < p → IsBalanced (between (kinds ls) n q) → only_params false (opener_of b ∷ paren ∷ []) (drop (suc n) ls) ≡ only_params false (opener_of b ∷ paren ∷ []) (drop q ls)
          over q n_q q_p e =
              ap (only_params false (opener_of b ∷ paren ∷ [])) (split-behind ls n q d n_q (omega arith))
              ∙ deeper_params (drop (suc n) (take q ls)) [] [] (opener_of b) (get_or ls q d ∷ drop (suc q) ls) (open_kinds (drop (suc n) (take q ls)) [] (inner-drop (suc n) (take q ls) (inner-take ls q (suc p) (omega arith) inner)) ∙ ap (option_map openers) (ap (all_open []) (kinds-between ls n q) ∙ e))
              ∙ ap (only_params false (opener_of b ∷ paren ∷ [])) (sym (drop-cons ls q d (omega arith)))
