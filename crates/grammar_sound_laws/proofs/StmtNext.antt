-- More laws on what is read in front of a lexeme: a part that is a whole lexeme at the front, and lexemes in two parts.
use Rattle.std.proofs.Common.{◌≡◌, List, [], ◌∷◌, ◌++◌, refl, sym, ap, ◌∙◌, subst, append_assoc}
use Rattle.script_grammar.specs.Lexeme.{Lexeme}
use Rattle.grammar_parser_specs.specs.Parser.{Recorded, Reply, Read, Bad, Deep, Parser, head_of, after, bind, noted}
use Rattle.grammar_parser_laws.proofs.Friendly.{Spot, AtFront, Inside, Friendly, end_friendly}
use Rattle.grammar_parser_specs.specs.Parser.{end_lexeme}
use Rattle.grammar_parser_laws.proofs.Sound as plain
use Rattle.grammar_sound_laws.proofs.SoundNext.{SoundNext, Outcome, Starts, Past, Plain, stands, friendly, next_map}

-- what was read in two parts
pub past_assoc : {A : Type 0} {p : Spot} {f : Parser A} (R : List Lexeme → A → Lexeme → Type 0) (u v : List Lexeme) → SoundNext p (Past (u ++ v) R) f → SoundNext p (Past v (Past u R)) f
past_assoc R u v s = next_map (λ w a n h. subst (λ x. R x a n) (append_assoc u v w) h) s

-- A first part that reads something and looks at nothing after it, where what stands before it may end with an unwritten
-- semicolon: the second stands inside.
module _ {A B : Type 0} (E : List Lexeme → A → Type 0) (R : List Lexeme → B → Lexeme → Type 0) (some : (a : A) → E [] a → ⊥) where
  reads : (w : List Lexeme) (a : A) → E w a → plain.Reads AtFront w
  reads [] a h = absurd (some a h)
  reads (t ∷ w) a h = tt

  behind : (w ts us : List Lexeme) → plain.Reads AtFront w → ts ≡ w ++ us → (r : Reply B) → Outcome Inside (Past w R) us r → Outcome AtFront R ts r
  behind [] ts us h e r o = absurd h
  behind (t ∷ w) ts us h e (Read b rs vs) o = record { front = (t ∷ w) ++ o.front; split = e ∙ ap (λ x. (t ∷ w) ++ x) o.split ∙ sym (append_assoc (t ∷ w) o.front vs); is = o.is }
  behind (t ∷ w) ts us h e (Bad rs vs) o = record {
    front = (t ∷ w) ++ o.front;
    split = e ∙ ap (λ x. (t ∷ w) ++ x) o.split ∙ sym (append_assoc (t ∷ w) o.front vs);
    end = o.end;
    of = o.of;
    starts = tt;
    is = λ n f. subst (λ x. R x o.of n) (sym (append_assoc (t ∷ w) o.front o.end)) (o.is n f);
  }
  behind (t ∷ w) ts us h e (Deep rs vs) o = record {
    front = (t ∷ w) ++ o.front;
    split = e ∙ ap (λ x. (t ∷ w) ++ x) o.split ∙ sym (append_assoc (t ∷ w) o.front vs);
    token = o.token;
    behind = o.behind;
    first = o.first;
    end = o.end;
    of = o.of;
    is = λ n f. subst (λ x. R x o.of n) (sym (append_assoc (t ∷ w) o.front (o.token ∷ o.end))) (o.is n f);
  }

  record Rest (w : List Lexeme) : Type 0 where
    end : List Lexeme
    of : B
    is : (n : Lexeme) → Friendly n → R (w ++ end) of n

  rest_of : (w : List Lexeme) (r : Reply B) → Outcome Inside (Past w R) [] r → Rest w
  rest_of w (Read b rs us) o = record { end = o.front; of = b; is = λ n f. o.is n (friendly f) }
  rest_of w (Bad rs us) o = record { end = o.front ++ o.end; of = o.of; is = o.is }
  rest_of w (Deep rs us) o = record { end = o.front ++ o.token ∷ o.end; of = o.of; is = o.is }

  starts_same : (w e v : List Lexeme) (a : A) → E (w ++ e) a → Starts AtFront w e → Starts AtFront w (e ++ v)
  starts_same (t ∷ w) e v a h s = tt
  starts_same [] [] v a h s = absurd (some a h)
  starts_same [] (t ∷ e) v a h s = s

  noted_outcome : (ts : List Lexeme) (rs : List Recorded) (r : Reply B) → Outcome AtFront R ts r → Outcome AtFront R ts (noted rs r)
  noted_outcome ts [] r o = o
  noted_outcome ts (b ∷ rs) (Read a qs us) o = o
  noted_outcome ts (b ∷ rs) (Bad qs us) o = o
  noted_outcome ts (b ∷ rs) (Deep qs us) o = o

  module _ (f : A → Parser B) (g : (w : List Lexeme) (a : A) → E w a → SoundNext Inside (Past w R) (f a)) where
    outcome_front : (ts : List Lexeme) (r : Reply A) → Outcome AtFront (Plain E) ts r → Outcome AtFront R ts (after r f)
    outcome_front ts (Read a rs us) o =
        let q : E o.front a = o.is (head_of us) (stands refl) in
        noted_outcome ts rs (f a us) (behind o.front ts us (reads o.front a q) o.split (f a us) ((g o.front a q).at us))
    outcome_front ts (Bad rs us) o =
        let q : E (o.front ++ o.end) o.of = o.is end_lexeme end_friendly in
        let s : Rest (o.front ++ o.end) = rest_of (o.front ++ o.end) (f o.of []) ((g (o.front ++ o.end) o.of q).at []) in
        record { front = o.front; split = o.split; end = o.end ++ s.end; of = s.of; starts = starts_same o.front o.end s.end o.of q o.starts; is = λ n k. subst (λ x. R x s.of n) (append_assoc o.front o.end s.end) (s.is n k) }
    outcome_front ts (Deep rs us) o =
        let q : E (o.front ++ o.token ∷ o.end) o.of = o.is end_lexeme end_friendly in
        let s : Rest (o.front ++ o.token ∷ o.end) = rest_of (o.front ++ o.token ∷ o.end) (f o.of []) ((g (o.front ++ o.token ∷ o.end) o.of q).at []) in
        record { front = o.front; split = o.split; token = o.token; behind = o.behind; first = o.first; end = o.end ++ s.end; of = s.of; is = λ n k. subst (λ x. R x s.of n) (append_assoc o.front (o.token ∷ o.end) s.end) (s.is n k) }

    pub front_bind : (m : Parser A) → SoundNext AtFront (Plain E) m → SoundNext AtFront R (bind m f)
    front_bind m s = record { at = λ ts. outcome_front ts (m ts) (s.at ts) }
