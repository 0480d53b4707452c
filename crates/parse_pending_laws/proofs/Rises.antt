-- What a parser records stands one after another: each body begins where the parser began or after that, and in front of where
-- it stopped, and after where the body that was recorded before it begins.
use Rattle.std.proofs.Common.{◌≡◌, ℕ, zero, suc, ◌≤◌, ◌<◌, List, [], ◌∷◌, ◌++◌, length, refl, sym, subst, arith, Bool, true, false, Option, None, Some}
use Rattle.script_grammar.specs.declared.token.Kind.{Kind}
use Rattle.script_grammar.specs.Lexeme.{Lexeme}
use Rattle.script_grammar.specs.Pieces.{Opener, open_behind}
use Rattle.grammar_parser_specs.specs.Parser.{Recorded, Reply, Read, Bad, Deep, Parser, head_of, rest_of, noted, after, ret, bad, deep, bind, peek, step, when, no_room, Turn, Again, Stop, turned, turns, loop, Many, stopped, begun, led}
use Rattle.grammar_parser_specs.specs.Exprs.{peek_two, pass_case, pass_over, spanned, spanned_reply}
use Rattle.grammar_local_laws.proofs.Agrees.{records}
use Rattle.grammar_parser_laws.proofs.Local.{left, left_noted, rest_shorter}

-- Bodies with less and less after their first token: less than so much, and more than so much.
abbrev pub Falls : ℕ → List Recorded → ℕ → Type 0
Falls n [] m = m < n
Falls n (b ∷ rs) m = (length b.from < n) × Falls (length b.from) rs m

pub record Rises {A : Type 0} (f : Parser A) : Type 0 where
  pub at : (ts : List Lexeme) → Falls (suc (length ts)) (records (f ts)) (length (left (f ts)))

pub falls_wider : (n m : ℕ) (rs : List Recorded) (k : ℕ) → n ≤ m → Falls n rs k → Falls m rs k
falls_wider n m [] k l h = omega (arith, l, h)
falls_wider n m (b ∷ rs) k l h = let f : length b.from < n = h.0 in (omega (arith, l, f), h.1)

pub falls_append : (n : ℕ) (rs qs : List Recorded) (m k : ℕ) → Falls n rs m → Falls (suc m) qs k → Falls n (rs ++ qs) k
falls_append n [] qs m k h g = falls_wider (suc m) n qs k (omega (arith, h)) g
falls_append n (b ∷ rs) qs m k h g = (h.0, falls_append (length b.from) rs qs m k h.1 g)

pub records_noted : {A : Type 0} (rs : List Recorded) (r : Reply A) → records (noted rs r) ≡ rs ++ records r
records_noted [] r = refl
records_noted (b ∷ rs) (Read a qs us) = refl
records_noted (b ∷ rs) (Bad qs us) = refl
records_noted (b ∷ rs) (Deep qs us) = refl

-- what is after no record is after nothing
pub rises_ret : {A : Type 0} (a : A) → Rises (ret a)
rises_ret a = record { at = λ ts. omega arith }

pub rises_bad : {A : Type 0} → Rises (bad {A = A})
rises_bad = record { at = λ ts. omega arith }

pub rises_deep : {A : Type 0} → Rises (deep {A = A})
rises_deep = record { at = λ ts. omega arith }

after_falls : {A B : Type 0} (f : A → Parser B) → ((a : A) → Rises (f a)) → (n : ℕ) (r : Reply A) → Falls n (records r) (length (left r)) → Falls n (records (after r f)) (length (left (after r f)))
after_falls f l n (Read a rs us) h =
    subst (λ x. Falls n x (length (left (noted rs (f a us))))) (sym (records_noted rs (f a us)))
    (subst (λ x. Falls n (rs ++ records (f a us)) (length x)) (sym (left_noted rs (f a us))) (falls_append n rs (records (f a us)) (length us) (length (left (f a us))) h ((l a).at us)))
after_falls f l n (Bad rs us) h = h
after_falls f l n (Deep rs us) h = h

pub rises_bind : {A B : Type 0} {m : Parser A} {f : A → Parser B} → Rises m → ((a : A) → Rises (f a)) → Rises (bind m f)
rises_bind {m = m} {f = f} l h = record { at = λ ts. after_falls f h (suc (length ts)) (m ts) (l.at ts) }

pub rises_peek : {A : Type 0} {f : Lexeme → Parser A} → ((t : Lexeme) → Rises (f t)) → Rises (peek f)
rises_peek h = record { at = λ ts. (h (head_of ts)).at ts }

pub rises_two : {A : Type 0} {f : Lexeme → Lexeme → Parser A} → ((t u : Lexeme) → Rises (f t u)) → Rises (peek_two f)
rises_two h = record { at = λ ts. (h (head_of ts) (head_of (rest_of ts))).at ts }

rises_bool : {A : Type 0} {f g : Parser A} → Rises f → Rises g → (b : Bool) → Rises (when b f g)
rises_bool l m true = l
rises_bool l m false = m

pub rises_when : {A : Type 0} {f g : Parser A} (b : Bool) → Rises f → Rises g → Rises (when b f g)
rises_when b l m = rises_bool l m b

pub rises_no_room : {A : Type 0} (begins : Kind → Bool) → Rises (no_room {A = A} begins)
rises_no_room begins = rises_peek (λ t. rises_when (begins t.kind) rises_deep rises_bad)

pub rises_step : {A : Type 0} {f : Parser A} → Rises f → Rises (step f)
rises_step {f = f} l = record { at = λ ts. falls_wider (suc (length (rest_of ts))) (suc (length ts)) (records (f (rest_of ts))) (length (left (f (rest_of ts)))) (omega (arith, rest_shorter ts)) (l.at (rest_of ts)) }

-- loops

rises_turned : {A B : Type 0} (f : Parser (Many A B)) → Rises f → (t : Turn A B) → Rises (turned f t)
rises_turned f l (Again a) = rises_bind l (λ m. rises_ret (begun a m))
rises_turned f l (Stop b) = rises_ret (stopped b)

rises_turns : {A B : Type 0} (turn : Parser (Turn A B)) → Rises turn → (n : ℕ) → Rises (turns turn n)
unfolding turns
rises_turns turn l zero = rises_bad
rises_turns turn l (suc n) = rises_bind l (rises_turned (turns turn n) (rises_turns turn l n))

pub rises_loop : {A B : Type 0} {turn : Parser (Turn A B)} → Rises turn → Rises (loop turn)
unfolding loop
rises_loop {turn = turn} l = record { at = λ ts. (rises_turns turn l (suc (length ts))).at ts }

pub rises_led : {A B : Type 0} {turn : Parser (Turn A B)} → Rises turn → (a : A) → Rises (led turn a)
rises_led l a = rises_bind (rises_loop l) (λ m. rises_ret (begun a m))

-- what was read, with the end of its last lexeme
pub rises_spanned : {A : Type 0} {f : Parser A} → Rises f → Rises (spanned f)
rises_spanned {A = A} {f = f} l = record { at = λ ts. by ts (f ts) (l.at ts) }
  where
    by : (ts : List Lexeme) (r : Reply A) → Falls (suc (length ts)) (records r) (length (left r)) → Falls (suc (length ts)) (records (spanned_reply ts r)) (length (left (spanned_reply ts r)))
    by ts (Read a rs us) h = h
    by ts (Bad rs us) h = h
    by ts (Deep rs us) h = h

-- what is passed over
pub rises_over : (ps : List Opener) → Rises (pass_over ps)
rises_over ps = record { at = λ ts. over ps ts }
  where
    over : (ps : List Opener) (ts : List Lexeme) → Falls (suc (length ts)) (records (pass_over ps ts)) (length (left (pass_over ps ts)))
    over ps [] = omega arith
    over ps (t ∷ ts) = by (open_behind t.kind ps) (λ qs. over qs ts)
      where
        by : (o : Option (List Opener)) → ((qs : List Opener) → Falls (suc (length ts)) (records (pass_over qs ts)) (length (left (pass_over qs ts)))) → Falls (suc (length (t ∷ ts))) (records (pass_case o t ts (λ qs. pass_over qs ts))) (length (left (pass_case o t ts (λ qs. pass_over qs ts))))
        by None h = omega arith
        by (Some []) h = omega arith
        by (Some (q ∷ qs)) h = falls_wider (suc (length ts)) (suc (length (t ∷ ts))) (records (pass_over (q ∷ qs) ts)) (length (left (pass_over (q ∷ qs) ts))) (omega arith) (h (q ∷ qs))
