-- The same as in `Sound`, where what is read depends on the lexeme after it too, as an unwritten semicolon does.
-- The lexeme after may be the one that stands there, or any friendly one: so the end that mends a fault after it need
-- only begin with a friendly lexeme.
use Rattle.std.proofs.Common.{◌≡◌, ℕ, zero, suc, List, [], ◌∷◌, ◌++◌, length, refl, sym, ap, ◌∙◌, subst, append_assoc, append-nil, Bool, true, false}
use Rattle.script_grammar.specs.declared.token.Kind.{Kind}
use Rattle.script_grammar.specs.declared.token.Kind.TheVariants as kind
use Rattle.script_grammar.specs.Lexeme.{Lexeme}
use Rattle.grammar_parser_specs.specs.Parser.{Recorded, Reply, Read, Bad, Deep, Parser, head_of, put_before, noted, after, ret, bad, deep, bind, peek, step, when, no_room, Turn, Again, Stop, turned, turns, loop, Many, stopped, begun, end_lexeme}
use Rattle.grammar_parser_specs.specs.Exprs.{peek_two}
use Rattle.grammar_parser_laws.proofs.Friendly.{Friendly, Spot, AtFront, Inside, first_of, end_friendly}
use Rattle.grammar_parser_laws.proofs.Sound.{Sound, Behind}
use Rattle.grammar_parser_laws.proofs.Sound as plain

-- a lexeme that may stand after what was read: the one that does, or a friendly one
pub data Follows (us : List Lexeme) (n : Lexeme) : Type 0 where
  stands : n ≡ head_of us → Follows us n
  friendly : Friendly n → Follows us n

-- how the end begins that mends a part at this spot, before any friendly lexeme
abbrev pub Starts : Spot → List Lexeme → List Lexeme → Type 0
Starts Inside front end = Unit {0}
Starts AtFront (u ∷ front) end = Unit {0}
Starts AtFront [] end = (n : Lexeme) → Friendly n → Friendly (first_of end n)

pub record Took {A : Type 0} (R : List Lexeme → A → Lexeme → Type 0) (ts : List Lexeme) (a : A) (us : List Lexeme) : Type 0 where
  pub front : List Lexeme
  pub split : ts ≡ front ++ us
  pub is : (n : Lexeme) → Follows us n → R front a n

pub record Ended {A : Type 0} (p : Spot) (R : List Lexeme → A → Lexeme → Type 0) (ts us : List Lexeme) : Type 0 where
  pub front : List Lexeme
  pub split : ts ≡ front ++ us
  pub end : List Lexeme
  pub of : A
  pub starts : Starts p front end
  pub is : (n : Lexeme) → Friendly n → R (front ++ end) of n

pub record Sunk {A : Type 0} (R : List Lexeme → A → Lexeme → Type 0) (ts us : List Lexeme) : Type 0 where
  pub front : List Lexeme
  pub split : ts ≡ front ++ us
  pub token : Lexeme
  pub behind : List Lexeme
  pub first : us ≡ token ∷ behind
  pub end : List Lexeme
  pub of : A
  pub is : (n : Lexeme) → Friendly n → R (front ++ token ∷ end) of n

abbrev pub Outcome : {A : Type 0} → Spot → (List Lexeme → A → Lexeme → Type 0) → List Lexeme → Reply A → Type 0
Outcome p R ts (Read a rs us) = Took R ts a us
Outcome p R ts (Bad rs us) = Ended p R ts us
Outcome p R ts (Deep rs us) = Sunk R ts us

pub record SoundNext {A : Type 0} (p : Spot) (R : List Lexeme → A → Lexeme → Type 0) (f : Parser A) : Type 0 where
  pub at : (ts : List Lexeme) → Outcome p R ts (f ts)

-- some lexemes that are read before any friendly one
pub record Mended {A : Type 0} (p : Spot) (R : List Lexeme → A → Lexeme → Type 0) : Type 0 where
  pub end : List Lexeme
  pub of : A
  pub starts : Starts p [] end
  pub is : (n : Lexeme) → Friendly n → R end of n

-- what does not depend on the lexeme after it
abbrev pub Plain : {A : Type 0} → (List Lexeme → A → Type 0) → List Lexeme → A → Lexeme → Type 0
Plain E w a n = E w a

-- what stands after lexemes that were read before
abbrev pub Past : {A : Type 0} → List Lexeme → (List Lexeme → A → Lexeme → Type 0) → List Lexeme → A → Lexeme → Type 0
Past w R v a n = R (w ++ v) a n

-- what stands after lexemes that were read before, if these fit before it
abbrev pub Joined : {A B : Type 0} → (List Lexeme → A → Lexeme → Type 0) → List Lexeme → A → (List Lexeme → B → Lexeme → Type 0) → List Lexeme → B → Lexeme → Type 0
Joined Q w a R v b n = Q w a (first_of v n) → R (w ++ v) b n

-- lists

pub head_first : (v us : List Lexeme) → head_of (v ++ us) ≡ first_of v (head_of us)
head_first [] us = refl
head_first (t ∷ v) us = refl

pub first_append : (v e : List Lexeme) (n : Lexeme) → first_of (v ++ e) n ≡ first_of v (first_of e n)
first_append [] e n = refl
first_append (t ∷ v) e n = refl

pub empty_left : (w v : List Lexeme) → w ++ v ≡ [] → w ≡ []
empty_left [] v e = refl
empty_left (t ∷ w) v e = absurd (cc)

pub empty_right : (w v : List Lexeme) → w ++ v ≡ [] → v ≡ []
empty_right [] v e = e
empty_right (t ∷ w) v e = absurd (cc)

-- what follows a part that is followed by v, the rest of what stands there
follows_part : (us v vs : List Lexeme) (n : Lexeme) → us ≡ v ++ vs → Follows vs n → Follows us (first_of v n)
follows_part us [] vs n e (stands h) = stands (h ∙ ap head_of (sym e))
follows_part us [] vs n e (friendly f) = friendly f
follows_part us (t ∷ v) vs n e h = stands (ap head_of (sym e))

-- what follows a part that is followed by v, mended by an end
follows_end : (us v vs e : List Lexeme) (n : Lexeme) → us ≡ v ++ vs → Starts AtFront v e → Friendly n → Follows us (first_of (v ++ e) n)
follows_end us [] vs e n s h f = friendly (h n f)
follows_end us (t ∷ v) vs e n s h f = stands (ap head_of (sym s))

-- what follows a part that is followed by v and a lexeme that stands there
follows_sunk : (us v vs : List Lexeme) (t : Lexeme) (bs e : List Lexeme) (n : Lexeme) → us ≡ v ++ vs → vs ≡ t ∷ bs → Follows us (first_of (v ++ t ∷ e) n)
follows_sunk us [] vs t bs e n s k = stands (ap head_of (sym (s ∙ k)))
follows_sunk us (u ∷ v) vs t bs e n s k = stands (ap head_of (sym s))

starts_behind : (p : Spot) (w v e : List Lexeme) → Starts AtFront v e → Starts p (w ++ v) e
starts_behind Inside w v e h = tt
starts_behind AtFront [] v e h = h
starts_behind AtFront (t ∷ w) v e h = tt

pub starts_end : (p : Spot) (w e v : List Lexeme) → Starts p w e → ((n : Lexeme) → Friendly n → Friendly (first_of v n)) → Starts p w (e ++ v)
starts_end Inside w e v h k = tt
starts_end AtFront (t ∷ w) e v h k = tt
starts_end AtFront [] e v h k = λ n f. subst Friendly (sym (first_append e v n)) (h (first_of v n) (k n f))

-- conversions

outcome_next : {A : Type 0} (p : Spot) (E : List Lexeme → A → Type 0) (ts : List Lexeme) (r : Reply A) → plain.Outcome p E E ts r → Outcome p (Plain E) ts r
outcome_next p E ts (Read a rs us) o = record { front = o.front; split = o.split; is = λ n f. o.is }
outcome_next p E ts (Bad rs us) o = record { front = o.front; split = o.split; end = o.end; of = o.of; starts = starts_next p o.front o.end o.starts; is = λ n f. o.is }
  where
    starts_next : (p : Spot) (w e : List Lexeme) → plain.Starts p w e → Starts p w e
    starts_next Inside w e h = tt
    starts_next AtFront (t ∷ w) e h = tt
    starts_next AtFront [] [] h = absurd h
    starts_next AtFront [] (t ∷ e) h = λ n f. h.friendly
outcome_next p E ts (Deep rs us) o = record { front = o.front; split = o.split; token = o.token; behind = o.behind; first = o.first; end = o.end; of = o.of; is = λ n f. o.is }

-- what does not depend on the lexeme after it, among what does
pub next_of : {A : Type 0} {p : Spot} {E : List Lexeme → A → Type 0} {f : Parser A} → Sound p E f → SoundNext p (Plain E) f
next_of {p = p} {E = E} {f = f} s = record { at = λ ts. outcome_next p E ts (f ts) (s.at ts) }

outcome_plain : {A : Type 0} (E : List Lexeme → A → Type 0) (ts : List Lexeme) (r : Reply A) → Outcome Inside (Plain E) ts r → plain.Outcome Inside E E ts r
outcome_plain E ts (Read a rs us) o = record { front = o.front; split = o.split; some = tt; is = o.is (head_of us) (stands refl) }
outcome_plain E ts (Bad rs us) o = record { front = o.front; split = o.split; end = o.end; of = o.of; starts = tt; is = o.is end_lexeme end_friendly }
outcome_plain E ts (Deep rs us) o = record { front = o.front; split = o.split; token = o.token; behind = o.behind; first = o.first; end = o.end; of = o.of; is = o.is end_lexeme end_friendly }

pub plain_of : {A : Type 0} {E : List Lexeme → A → Type 0} {f : Parser A} → SoundNext Inside (Plain E) f → Sound Inside E f
plain_of {E = E} {f = f} s = record { at = λ ts. outcome_plain E ts (f ts) (s.at ts) }

outcome_inside : {A : Type 0} (R : List Lexeme → A → Lexeme → Type 0) (ts : List Lexeme) (r : Reply A) → Outcome AtFront R ts r → Outcome Inside R ts r
outcome_inside R ts (Read a rs us) o = o
outcome_inside R ts (Bad rs us) o = record { front = o.front; split = o.split; end = o.end; of = o.of; starts = tt; is = o.is }
outcome_inside R ts (Deep rs us) o = o

-- what may stand at the front may stand inside
pub next_inside : {A : Type 0} {R : List Lexeme → A → Lexeme → Type 0} {f : Parser A} → SoundNext AtFront R f → SoundNext Inside R f
next_inside {R = R} {f = f} s = record { at = λ ts. outcome_inside R ts (f ts) (s.at ts) }

outcome_map : {A : Type 0} (p : Spot) (R S : List Lexeme → A → Lexeme → Type 0) → ((w : List Lexeme) (a : A) (n : Lexeme) → R w a n → S w a n) → (ts : List Lexeme) (r : Reply A) → Outcome p R ts r → Outcome p S ts r
outcome_map p R S f ts (Read a rs us) o = record { front = o.front; split = o.split; is = λ n h. f _ _ n (o.is n h) }
outcome_map p R S f ts (Bad rs us) o = record { front = o.front; split = o.split; end = o.end; of = o.of; starts = o.starts; is = λ n h. f _ _ n (o.is n h) }
outcome_map p R S f ts (Deep rs us) o = record { front = o.front; split = o.split; token = o.token; behind = o.behind; first = o.first; end = o.end; of = o.of; is = λ n h. f _ _ n (o.is n h) }

pub next_map : {A : Type 0} {p : Spot} {R S : List Lexeme → A → Lexeme → Type 0} {f : Parser A} → ((w : List Lexeme) (a : A) (n : Lexeme) → R w a n → S w a n) → SoundNext p R f → SoundNext p S f
next_map {p = p} {R = R} {S = S} {f = f} m s = record { at = λ ts. outcome_map p R S m ts (f ts) (s.at ts) }

-- records before a reply change nothing of its outcome

outcome_put : {A : Type 0} (p : Spot) (R : List Lexeme → A → Lexeme → Type 0) (ts : List Lexeme) (rs : List Recorded) (r : Reply A) → Outcome p R ts r → Outcome p R ts (put_before rs r)
outcome_put p R ts rs (Read a qs us) o = o
outcome_put p R ts rs (Bad qs us) o = o
outcome_put p R ts rs (Deep qs us) o = o

outcome_noted : {A : Type 0} (p : Spot) (R : List Lexeme → A → Lexeme → Type 0) (ts : List Lexeme) (rs : List Recorded) (r : Reply A) → Outcome p R ts r → Outcome p R ts (noted rs r)
outcome_noted p R ts [] r o = o
outcome_noted p R ts (b ∷ rs) r o = outcome_put p R ts (b ∷ rs) r o

-- The first part may end with an unwritten semicolon: the second is one at the front.

module _ {A B : Type 0} (p : Spot) (Q : List Lexeme → A → Lexeme → Type 0) (R : List Lexeme → B → Lexeme → Type 0) where
  joined : (w : List Lexeme) (a : A) (ts us : List Lexeme) → ts ≡ w ++ us → ((n : Lexeme) → Follows us n → Q w a n) → (r : Reply B) → Outcome AtFront (Joined Q w a R) us r → Outcome p R ts r
  joined w a ts us e q (Read b rs vs) o = record {
    front = w ++ o.front;
    split = e ∙ ap (λ x. w ++ x) o.split ∙ sym (append_assoc w o.front vs);
    is = λ n h. o.is n h (q (first_of o.front n) (follows_part us o.front vs n o.split h));
  }
  joined w a ts us e q (Bad rs vs) o = record {
    front = w ++ o.front;
    split = e ∙ ap (λ x. w ++ x) o.split ∙ sym (append_assoc w o.front vs);
    end = o.end;
    of = o.of;
    starts = starts_behind p w o.front o.end o.starts;
    is = λ n f. subst (λ x. R x o.of n) (sym (append_assoc w o.front o.end)) (o.is n f (q (first_of (o.front ++ o.end) n) (follows_end us o.front vs o.end n o.split o.starts f)));
  }
  joined w a ts us e q (Deep rs vs) o = record {
    front = w ++ o.front;
    split = e ∙ ap (λ x. w ++ x) o.split ∙ sym (append_assoc w o.front vs);
    token = o.token;
    behind = o.behind;
    first = o.first;
    end = o.end;
    of = o.of;
    is = λ n f. subst (λ x. R x o.of n) (sym (append_assoc w o.front (o.token ∷ o.end))) (o.is n f (q (first_of (o.front ++ o.token ∷ o.end) n) (follows_sunk us o.front vs o.token o.behind o.end n o.split o.first)));
  }

  -- what stands after nothing that is left
  pub record Rest (w : List Lexeme) : Type 0 where
    pub end : List Lexeme
    pub of : B
    pub starts : (n : Lexeme) → Friendly n → Friendly (first_of end n)
    pub is : (n : Lexeme) → Friendly n → R (w ++ end) of n

  rest_read : (w : List Lexeme) (a : A) → ((n : Lexeme) → Friendly n → Q w a n) → (v us : List Lexeme) (b : B) → v ≡ [] → ((n : Lexeme) → Follows us n → Joined Q w a R v b n) → Rest w
  rest_read w a q v us b e h = record { end = []; of = b; starts = λ n f. f; is = λ n f. subst (λ x. Joined Q w a R x b n) e (h n (friendly f)) (q n f) }

  rest_bad : (w : List Lexeme) (a : A) → ((n : Lexeme) → Friendly n → Q w a n) → (v e : List Lexeme) (b : B) → v ≡ [] → Starts AtFront v e → ((n : Lexeme) → Friendly n → Joined Q w a R (v ++ e) b n) → Rest w
  rest_bad w a q [] e b z s h = record { end = e; of = b; starts = s; is = λ n f. h n f (q (first_of e n) (s n f)) }
  rest_bad w a q (t ∷ v) e b z s h = absurd (cc)

  at_end : (w : List Lexeme) (a : A) → ((n : Lexeme) → Friendly n → Q w a n) → (r : Reply B) → Outcome AtFront (Joined Q w a R) [] r → Rest w
  at_end w a q (Read b rs us) o = rest_read w a q o.front us b (empty_left o.front us (sym o.split)) o.is
  at_end w a q (Bad rs us) o = rest_bad w a q o.front o.end o.of (empty_left o.front us (sym o.split)) o.starts o.is
  at_end w a q (Deep rs us) o = absurd (no_token (o.front) us o.token o.behind o.split o.first)
    where
      no_token : (v us : List Lexeme) (t : Lexeme) (bs : List Lexeme) → [] ≡ v ++ us → us ≡ t ∷ bs → ⊥
      no_token [] us t bs e k = absurd (cc)
      no_token (u ∷ v) us t bs e k = absurd (cc)

  module _ (f : A → Parser B) (g : (w : List Lexeme) (a : A) → SoundNext AtFront (Joined Q w a R) (f a)) where
    outcome_after : (ts : List Lexeme) (r : Reply A) → Outcome p Q ts r → Outcome p R ts (after r f)
    outcome_after ts (Read a rs us) o = outcome_noted p R ts rs (f a us) (joined o.front a ts us o.split o.is (f a us) ((g o.front a).at us))
    outcome_after ts (Bad rs us) o =
        let s = at_end (o.front ++ o.end) o.of o.is (f o.of []) ((g (o.front ++ o.end) o.of).at []) in
        record { front = o.front; split = o.split; end = o.end ++ s.end; of = s.of; starts = starts_end p o.front o.end s.end o.starts s.starts; is = λ n f. subst (λ x. R x s.of n) (append_assoc o.front o.end s.end) (s.is n f) }
    outcome_after ts (Deep rs us) o =
        let s = at_end (o.front ++ o.token ∷ o.end) o.of o.is (f o.of []) ((g (o.front ++ o.token ∷ o.end) o.of).at []) in
        record { front = o.front; split = o.split; token = o.token; behind = o.behind; first = o.first; end = o.end ++ s.end; of = s.of; is = λ n f. subst (λ x. R x s.of n) (append_assoc o.front (o.token ∷ o.end) s.end) (s.is n f) }

-- a part that may end with an unwritten semicolon, and one at the front
pub next_bind : {A B : Type 0} {p : Spot} {Q : List Lexeme → A → Lexeme → Type 0} {R : List Lexeme → B → Lexeme → Type 0} {m : Parser A} {f : A → Parser B} → SoundNext p Q m → ((w : List Lexeme) (a : A) → SoundNext AtFront (Joined Q w a R) (f a)) → SoundNext p R (bind m f)
next_bind {p = p} {Q = Q} {R = R} {m = m} {f = f} s g = record { at = λ ts. outcome_after p Q R f g ts (m ts) (s.at ts) }

-- The first part does not depend on what follows it: the second stands inside.

module _ {A B : Type 0} (p : Spot) (E : List Lexeme → A → Type 0) (R : List Lexeme → B → Lexeme → Type 0) where
  next_starts : (p : Spot) (w v e : List Lexeme) → plain.Reads p w → Starts p (w ++ v) e
  next_starts Inside w v e h = tt
  next_starts AtFront [] v e h = absurd h
  next_starts AtFront (t ∷ w) v e h = tt

  past : (w ts us : List Lexeme) → plain.Reads p w → ts ≡ w ++ us → (r : Reply B) → Outcome Inside (Past w R) us r → Outcome p R ts r
  past w ts us h e (Read b rs vs) o = record {
    front = w ++ o.front;
    split = e ∙ ap (λ x. w ++ x) o.split ∙ sym (append_assoc w o.front vs);
    is = o.is;
  }
  past w ts us h e (Bad rs vs) o = record {
    front = w ++ o.front;
    split = e ∙ ap (λ x. w ++ x) o.split ∙ sym (append_assoc w o.front vs);
    end = o.end;
    of = o.of;
    starts = next_starts p w o.front o.end h;
    is = λ n f. subst (λ x. R x o.of n) (sym (append_assoc w o.front o.end)) (o.is n f);
  }
  past w ts us h e (Deep rs vs) o = record {
    front = w ++ o.front;
    split = e ∙ ap (λ x. w ++ x) o.split ∙ sym (append_assoc w o.front vs);
    token = o.token;
    behind = o.behind;
    first = o.first;
    end = o.end;
    of = o.of;
    is = λ n f. subst (λ x. R x o.of n) (sym (append_assoc w o.front (o.token ∷ o.end))) (o.is n f);
  }

  pub record Tail (w : List Lexeme) : Type 0 where
    pub end : List Lexeme
    pub of : B
    pub is : (n : Lexeme) → Friendly n → R (w ++ end) of n

  tail_of : (w : List Lexeme) (r : Reply B) → Outcome Inside (Past w R) [] r → Tail w
  tail_of w (Read b rs us) o = record { end = o.front; of = b; is = λ n f. o.is n (friendly f) }
  tail_of w (Bad rs us) o = record { end = o.front ++ o.end; of = o.of; is = o.is }
  tail_of w (Deep rs us) o = record { end = o.front ++ o.token ∷ o.end; of = o.of; is = o.is }

  starts_past : (p : Spot) (w e v : List Lexeme) → plain.Starts p w e → Starts p w (e ++ v)
  starts_past Inside w e v h = tt
  starts_past AtFront (t ∷ w) e v h = tt
  starts_past AtFront [] [] v h = absurd h
  starts_past AtFront [] (t ∷ e) v h = λ n f. h.friendly

  module _ (f : A → Parser B) (g : (w : List Lexeme) (a : A) → E w a → SoundNext Inside (Past w R) (f a)) where
    past_after : (ts : List Lexeme) (r : Reply A) → plain.Outcome p E E ts r → Outcome p R ts (after r f)
    past_after ts (Read a rs us) o = outcome_noted p R ts rs (f a us) (past o.front ts us o.some o.split (f a us) ((g o.front a o.is).at us))
    past_after ts (Bad rs us) o =
        let s = tail_of (o.front ++ o.end) (f o.of []) ((g (o.front ++ o.end) o.of o.is).at []) in
        record { front = o.front; split = o.split; end = o.end ++ s.end; of = s.of; starts = starts_past p o.front o.end s.end o.starts; is = λ n f. subst (λ x. R x s.of n) (append_assoc o.front o.end s.end) (s.is n f) }
    past_after ts (Deep rs us) o =
        let s = tail_of (o.front ++ o.token ∷ o.end) (f o.of []) ((g (o.front ++ o.token ∷ o.end) o.of o.is).at []) in
        record { front = o.front; split = o.split; token = o.token; behind = o.behind; first = o.first; end = o.end ++ s.end; of = s.of; is = λ n f. subst (λ x. R x s.of n) (append_assoc o.front (o.token ∷ o.end) s.end) (s.is n f) }

pub past_bind : {A B : Type 0} {p : Spot} {E : List Lexeme → A → Type 0} {R : List Lexeme → B → Lexeme → Type 0} {m : Parser A} {f : A → Parser B} → Sound p E m → ((w : List Lexeme) (a : A) → E w a → SoundNext Inside (Past w R) (f a)) → SoundNext p R (bind m f)
past_bind {p = p} {E = E} {R = R} {m = m} {f = f} s g = record { at = λ ts. past_after p E R f g ts (m ts) (s.at ts) }

-- a parser at lexemes that begin with this one
pub record NextAt {A : Type 0} (p : Spot) (R : List Lexeme → A → Lexeme → Type 0) (t : Lexeme) (f : Parser A) : Type 0 where
  pub first : (ts : List Lexeme) → Outcome p R (t ∷ ts) (f (t ∷ ts))

-- the first part at lexemes that begin with this one
pub past_at : {A B : Type 0} {p : Spot} {E : List Lexeme → A → Type 0} {R : List Lexeme → B → Lexeme → Type 0} {t : Lexeme} {m : Parser A} {f : A → Parser B} → plain.SoundAt p E t m → ((w : List Lexeme) (a : A) → E w a → SoundNext Inside (Past w R) (f a)) → NextAt p R t (bind m f)
past_at {p = p} {E = E} {R = R} {t = t} {m = m} {f = f} s g = record { first = λ ts. past_after p E R f g (t ∷ ts) (m (t ∷ ts)) (s.first ts) }

-- leaves

pub next_ret : {A : Type 0} {p : Spot} {R : List Lexeme → A → Lexeme → Type 0} {a : A} → ((n : Lexeme) → R [] a n) → SoundNext p R (ret a)
next_ret h = record { at = λ ts. record { front = []; split = refl; is = λ n f. h n } }

pub next_bad : {A : Type 0} {p : Spot} {R : List Lexeme → A → Lexeme → Type 0} → Mended p R → SoundNext p R (bad {A = A})
next_bad s = record { at = λ ts. record { front = []; split = refl; end = s.end; of = s.of; starts = s.starts; is = s.is } }

-- what is read is made into another value
pub next_made : {A B : Type 0} {p : Spot} {Q : List Lexeme → A → Lexeme → Type 0} {R : List Lexeme → B → Lexeme → Type 0} {m : Parser A} (g : A → B) → SoundNext p Q m → ((w : List Lexeme) (a : A) (n : Lexeme) → Q w a n → R w (g a) n) → SoundNext p R (bind m (λ a. ret (g a)))
next_made {R = R} g s h = next_bind s (λ w a. next_ret (λ n q. subst (λ x. R x (g a) n) (sym (append-nil w)) (h w a n q)))

pub next_at : {A : Type 0} {p : Spot} {R : List Lexeme → A → Lexeme → Type 0} {f : Parser A} (t : Lexeme) → SoundNext p R f → NextAt p R t f
next_at t s = record { first = λ ts. s.at (t ∷ ts) }

-- nothing is read before this lexeme, or before a friendly one
pub at_ret : {A : Type 0} {p : Spot} {R : List Lexeme → A → Lexeme → Type 0} {a : A} (t : Lexeme) → R [] a t → ((n : Lexeme) → Friendly n → R [] a n) → NextAt p R t (ret a)
at_ret {R = R} {a = a} t h k = record { first = λ ts. record { front = []; split = refl; is = λ n f. either ts n f } }
  where
    either : (ts : List Lexeme) (n : Lexeme) → Follows (t ∷ ts) n → R [] a n
    either ts n (stands e) = subst (λ x. R [] a x) (sym e) h
    either ts n (friendly f) = k n f

starts_one : (p : Spot) (t : Lexeme) → plain.Reads p (t ∷ [])
starts_one AtFront t = tt
starts_one Inside t = tt

pub at_step : {A : Type 0} {p : Spot} {R : List Lexeme → A → Lexeme → Type 0} {f : Parser A} (t : Lexeme) → SoundNext Inside (Past (t ∷ []) R) f → NextAt p R t (step f)
at_step {A = A} {p = p} {R = R} {f = f} t s = record { first = λ ts. past {A = A} p (λ w a. Unit {0}) R (t ∷ []) (t ∷ ts) ts (starts_one p t) refl (f ts) (s.at ts) }

pub at_deep : {A : Type 0} {p : Spot} {R : List Lexeme → A → Lexeme → Type 0} (t : Lexeme) (end : List Lexeme) (a : A) → ((n : Lexeme) → Friendly n → R (t ∷ end) a n) → NextAt p R t (deep {A = A})
at_deep t end a h = record { first = λ ts. record { front = []; split = refl; token = t; behind = ts; first = refl; end = end; of = a; is = h } }

next_peek_at : {A : Type 0} (p : Spot) (R : List Lexeme → A → Lexeme → Type 0) (f : Lexeme → Parser A) → ((t : Lexeme) → NextAt p R t (f t)) → SoundNext p R (f (head_of [])) → (ts : List Lexeme) → Outcome p R ts (peek f ts)
next_peek_at p R f s e [] = e.at []
next_peek_at p R f s e (t ∷ ts) = (s t).first ts

-- looks at the first lexeme; the end of all lexemes stands for one of kind End
pub next_peek : {A : Type 0} {p : Spot} {R : List Lexeme → A → Lexeme → Type 0} {f : Lexeme → Parser A} → ((t : Lexeme) → NextAt p R t (f t)) → SoundNext p R (f (head_of [])) → SoundNext p R (peek f)
next_peek {p = p} {R = R} {f = f} s e = record { at = next_peek_at p R f s e }

next_look_at : {A : Type 0} (p : Spot) (R : List Lexeme → A → Lexeme → Type 0) (f : Lexeme → Parser A) → ((t : Lexeme) → NextAt p R t (f t)) → Outcome p R [] (f (head_of []) []) → (ts : List Lexeme) → Outcome p R ts (peek f ts)
next_look_at p R f s e [] = e
next_look_at p R f s e (t ∷ ts) = (s t).first ts

-- the same, where what is done depends on the lexeme
pub next_look : {A : Type 0} {p : Spot} {R : List Lexeme → A → Lexeme → Type 0} {f : Lexeme → Parser A} → ((t : Lexeme) → NextAt p R t (f t)) → Outcome p R [] (f (head_of []) []) → SoundNext p R (peek f)
next_look {p = p} {R = R} {f = f} s e = record { at = next_look_at p R f s e }

next_look_two_at : {A : Type 0} (p : Spot) (R : List Lexeme → A → Lexeme → Type 0) (f : Lexeme → Lexeme → Parser A) → ((t u : Lexeme) → NextAt p R t (f t u)) → Outcome p R [] (f (head_of []) (head_of []) []) → (ts : List Lexeme) → Outcome p R ts (peek_two f ts)
next_look_two_at p R f s e [] = e
next_look_two_at p R f s e (t ∷ ts) = (s t (head_of ts)).first ts

pub next_look_two : {A : Type 0} {p : Spot} {R : List Lexeme → A → Lexeme → Type 0} {f : Lexeme → Lexeme → Parser A} → ((t u : Lexeme) → NextAt p R t (f t u)) → Outcome p R [] (f (head_of []) (head_of []) []) → SoundNext p R (peek_two f)
next_look_two {p = p} {R = R} {f = f} s e = record { at = next_look_two_at p R f s e }

next_two_at : {A : Type 0} (p : Spot) (R : List Lexeme → A → Lexeme → Type 0) (f : Lexeme → Lexeme → Parser A) → ((t u : Lexeme) → NextAt p R t (f t u)) → SoundNext p R (f (head_of []) (head_of [])) → (ts : List Lexeme) → Outcome p R ts (peek_two f ts)
next_two_at p R f s e [] = e.at []
next_two_at p R f s e (t ∷ ts) = (s t (head_of ts)).first ts

-- looks at the first two lexemes
pub next_peek_two : {A : Type 0} {p : Spot} {R : List Lexeme → A → Lexeme → Type 0} {f : Lexeme → Lexeme → Parser A} → ((t u : Lexeme) → NextAt p R t (f t u)) → SoundNext p R (f (head_of []) (head_of [])) → SoundNext p R (peek_two f)
next_peek_two {p = p} {R = R} {f = f} s e = record { at = next_two_at p R f s e }

at_bool : {A : Type 0} (p : Spot) (R : List Lexeme → A → Lexeme → Type 0) (t : Lexeme) (f g : Parser A) (b c : Bool) → c ≡ b → (b ≡ true → NextAt p R t f) → (b ≡ false → NextAt p R t g) → NextAt p R t (when c f g)
at_bool p R t f g true c e h k = subst (λ x. NextAt p R t (when x f g)) (sym e) (h refl)
at_bool p R t f g false c e h k = subst (λ x. NextAt p R t (when x f g)) (sym e) (k refl)

pub at_when : {A : Type 0} {p : Spot} {R : List Lexeme → A → Lexeme → Type 0} {t : Lexeme} {f g : Parser A} (b : Bool) → (b ≡ true → NextAt p R t f) → (b ≡ false → NextAt p R t g) → NextAt p R t (when b f g)
at_when {p = p} {R = R} {t = t} {f = f} {g = g} b h k = at_bool p R t f g b b refl h k

next_bool : {A : Type 0} (p : Spot) (R : List Lexeme → A → Lexeme → Type 0) (f g : Parser A) (b c : Bool) → c ≡ b → (b ≡ true → SoundNext p R f) → (b ≡ false → SoundNext p R g) → SoundNext p R (when c f g)
next_bool p R f g true c e h k = subst (λ x. SoundNext p R (when x f g)) (sym e) (h refl)
next_bool p R f g false c e h k = subst (λ x. SoundNext p R (when x f g)) (sym e) (k refl)

pub next_when : {A : Type 0} {p : Spot} {R : List Lexeme → A → Lexeme → Type 0} {f g : Parser A} (b : Bool) → (b ≡ true → SoundNext p R f) → (b ≡ false → SoundNext p R g) → SoundNext p R (when b f g)
next_when {p = p} {R = R} {f = f} {g = g} b h k = next_bool p R f g b b refl h k

-- without room: what begins so is completed by some end
no_room_first : {A : Type 0} (p : Spot) (R : List Lexeme → A → Lexeme → Type 0) (begins : Kind → Bool) → begins kind.End ≡ false → Mended p R → ((t : Lexeme) → begins t.kind ≡ true → Mended Inside (Past (t ∷ []) R)) → (ts : List Lexeme) (b : Bool) → begins (head_of ts).kind ≡ b → Outcome p R ts (when {A = A} b deep bad ts)
no_room_first p R begins z s h ts false e = (next_bad s).at ts
no_room_first p R begins z s h [] true e = absurd (cc)
no_room_first p R begins z s h (t ∷ ts) true e = let k = h t e in (at_deep {p = p} {R = R} t k.end k.of k.is).first ts

pub next_no_room : {A : Type 0} {p : Spot} {R : List Lexeme → A → Lexeme → Type 0} (begins : Kind → Bool) → begins kind.End ≡ false → Mended p R → ((t : Lexeme) → begins t.kind ≡ true → Mended Inside (Past (t ∷ []) R)) → SoundNext p R (no_room {A = A} begins)
next_no_room {p = p} {R = R} begins z s h = record { at = λ ts. no_room_first p R begins z s h ts (begins (head_of ts).kind) refl }

-- a loop at the front: what one turn reads, and what all read
module _ {A B : Type 0} (Q : List Lexeme → Turn A B → Lexeme → Type 0) (R : List Lexeme → Many A B → Lexeme → Type 0) (turn : Parser (Turn A B))
    (s : SoundNext AtFront Q turn)
    (stop : (w : List Lexeme) (b : B) (n : Lexeme) → Q w (Stop b) n → R w (stopped b) n)
    (go : (w v : List Lexeme) (a : A) (m : Many A B) (n : Lexeme) → Q w (Again a) (first_of v n) → R v m n → R (w ++ v) (begun a m) n)
    (some : Mended AtFront R) where
  turned_next : (f : Parser (Many A B)) → SoundNext AtFront R f → (w : List Lexeme) (t : Turn A B) → SoundNext AtFront (Joined Q w t R) (turned f t)
  turned_next f l w (Again a) = next_made (begun a) l (λ v m n r q. go w v a m n q r)
  turned_next f l w (Stop b) = next_ret (λ n q. subst (λ x. R x (stopped b) n) (sym (append-nil w)) (stop w b n q))

  turns_next : (n : ℕ) → SoundNext AtFront R (turns turn n)
  unfolding turns
  turns_next zero = next_bad some
  turns_next (suc n) = next_bind s (turned_next (turns turn n) (turns_next n))

  pub next_loop : SoundNext AtFront R (loop turn)
  unfolding loop
  next_loop = record { at = λ ts. (turns_next (suc (length ts))).at ts }
