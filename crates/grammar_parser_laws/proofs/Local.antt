-- A parser looks at no lexeme after the place where it stops.
use Rattle.std.proofs.Common.{◌≡◌, ℕ, zero, suc, ◌≤◌, ◌<◌, List, [], ◌∷◌, ◌++◌, length, refl, sym, ap, ◌∙◌, subst, arith, length-append, Bool, true, false}
use Rattle.script_grammar.specs.declared.token.Kind.{Kind}
use Rattle.script_grammar.specs.declared.token.FuncForm.{FuncForm}
use Rattle.script_grammar.specs.Lexeme.{Lexeme}
use Rattle.grammar_parser_specs.specs.Parser.{Recorded, Reply, Read, Bad, Deep, Parser, head_of, rest_of, put_before, noted, after, ret, bad, deep, bind, peek, step, when, note, no_room, Turn, Again, Stop, turned, turns, loop, Many, stopped, begun, led}

-- the lexemes that a reply leaves
abbrev pub left : {A : Type 0} → Reply A → List Lexeme
left (Read a rs ts) = ts
left (Bad rs ts) = ts
left (Deep rs ts) = ts

-- a recorded body where more lexemes follow
abbrev pub grown_record : List Lexeme → Recorded → Recorded
grown_record q b = record { form = b.form; room = b.room; simple = b.simple; from = b.from ++ q }

abbrev pub grown_records : List Lexeme → List Recorded → List Recorded
grown_records q [] = []
grown_records q (b ∷ bs) = grown_record q b ∷ grown_records q bs

-- the reply where more lexemes follow
abbrev pub grown : {A : Type 0} → List Lexeme → Reply A → Reply A
grown q (Read a rs ts) = Read a (grown_records q rs) (ts ++ q)
grown q (Bad rs ts) = Bad (grown_records q rs) (ts ++ q)
grown q (Deep rs ts) = Deep (grown_records q rs) (ts ++ q)

-- the replies without and with more lexemes: all was read, or they are the same
pub data Same {A : Type 0} (q : List Lexeme) (r s : Reply A) : Type 0 where
  out : length (left r) ≡ 0 → length (left s) ≤ length q → Same q r s
  kept : s ≡ grown q r → Same q r s

pub record Local {A : Type 0} (f : Parser A) : Type 0 where
  pub shorter : (ts : List Lexeme) → length (left (f ts)) ≤ length ts
  pub same : (ts q : List Lexeme) → Same q (f ts) (f (ts ++ q))

-- records before a reply change nothing of what is left

pub left_put : {A : Type 0} (rs : List Recorded) (r : Reply A) → left (put_before rs r) ≡ left r
left_put rs (Read a qs ts) = refl
left_put rs (Bad qs ts) = refl
left_put rs (Deep qs ts) = refl

pub left_noted : {A : Type 0} (rs : List Recorded) (r : Reply A) → left (noted rs r) ≡ left r
left_noted [] r = refl
left_noted (b ∷ bs) r = left_put (b ∷ bs) r

pub grown_append : (q : List Lexeme) (rs qs : List Recorded) → grown_records q (rs ++ qs) ≡ grown_records q rs ++ grown_records q qs
grown_append q [] qs = refl
grown_append q (b ∷ rs) qs = ap (λ x. grown_record q b ∷ x) (grown_append q rs qs)

grown_put : {A : Type 0} (q : List Lexeme) (rs : List Recorded) (r : Reply A) → put_before (grown_records q rs) (grown q r) ≡ grown q (put_before rs r)
grown_put q rs (Read a qs ts) = ap (λ x. Read a x (ts ++ q)) (sym (grown_append q rs qs))
grown_put q rs (Bad qs ts) = ap (λ x. Bad x (ts ++ q)) (sym (grown_append q rs qs))
grown_put q rs (Deep qs ts) = ap (λ x. Deep x (ts ++ q)) (sym (grown_append q rs qs))

pub grown_noted : {A : Type 0} (q : List Lexeme) (rs : List Recorded) (r : Reply A) → noted (grown_records q rs) (grown q r) ≡ grown q (noted rs r)
grown_noted q [] r = refl
grown_noted q (b ∷ rs) r = grown_put q (b ∷ rs) r

same_noted : {A : Type 0} (q : List Lexeme) (rs : List Recorded) (r s : Reply A) → Same q r s → Same q (noted rs r) (noted (grown_records q rs) s)
same_noted q rs r s (out e h) = out (ap length (left_noted rs r) ∙ e) (omega (arith, h, ap length (left_noted (grown_records q rs) s)))
same_noted q rs r s (kept e) = kept (ap (λ x. noted (grown_records q rs) x) e ∙ grown_noted q rs r)

pub local_ret : {A : Type 0} (a : A) → Local (ret a)
local_ret a = record { shorter = λ ts. omega arith; same = λ ts q. kept refl }

pub local_bad : {A : Type 0} → Local (bad {A = A})
local_bad = record { shorter = λ ts. omega arith; same = λ ts q. kept refl }

pub local_deep : {A : Type 0} → Local (deep {A = A})
local_deep = record { shorter = λ ts. omega arith; same = λ ts q. kept refl }

pub local_note : (form : FuncForm) (room : ℕ) (simple : Bool) → Local (note form room simple)
local_note form room simple = record { shorter = λ ts. omega arith; same = λ ts q. kept refl }

pub after_shorter : {A B : Type 0} (f : A → Parser B) → ((a : A) → Local (f a)) → (r : Reply A) → length (left (after r f)) ≤ length (left r)
after_shorter f l (Read a rs ts) = omega (arith, (l a).shorter ts, ap length (left_noted rs (f a ts)))
after_shorter f l (Bad rs ts) = omega arith
after_shorter f l (Deep rs ts) = omega arith

after_kept : {A B : Type 0} (f : A → Parser B) → ((a : A) → Local (f a)) → (q : List Lexeme) (r : Reply A) → Same q (after r f) (after (grown q r) f)
after_kept f l q (Read a rs ts) = same_noted q rs (f a ts) (f a (ts ++ q)) ((l a).same ts q)
after_kept f l q (Bad rs ts) = kept refl
after_kept f l q (Deep rs ts) = kept refl

after_same : {A B : Type 0} (f : A → Parser B) → ((a : A) → Local (f a)) → (q : List Lexeme) (r s : Reply A) → Same q r s → Same q (after r f) (after s f)
after_same f l q r s (out e h) = out (omega (arith, after_shorter f l r)) (omega (arith, after_shorter f l s))
after_same f l q r s (kept e) = subst (λ x. Same q (after r f) (after x f)) (sym e) (after_kept f l q r)

pub local_bind : {A B : Type 0} {m : Parser A} {f : A → Parser B} → Local m → ((a : A) → Local (f a)) → Local (bind m f)
local_bind {m = m} {f = f} lm lf = record {
  shorter = λ ts. omega (arith, after_shorter f lf (m ts), lm.shorter ts);
  same = λ ts q. after_same f lf q (m ts) (m (ts ++ q)) (lm.same ts q);
}

peek_same : {A : Type 0} (f : Lexeme → Parser A) → ((t : Lexeme) → Local (f t)) → (ts q : List Lexeme) → Same q (peek f ts) (peek f (ts ++ q))
peek_same f l [] q = out (omega (arith, (l (head_of [])).shorter [])) ((l (head_of q)).shorter q)
peek_same f l (t ∷ ts) q = (l t).same (t ∷ ts) q

pub local_peek : {A : Type 0} {f : Lexeme → Parser A} → ((t : Lexeme) → Local (f t)) → Local (peek f)
local_peek {f = f} l = record { shorter = λ ts. (l (head_of ts)).shorter ts; same = peek_same f l }

local_bool : {A : Type 0} {f g : Parser A} → Local f → Local g → (b : Bool) → Local (when b f g)
local_bool l m true = l
local_bool l m false = m

pub local_when : {A : Type 0} {f g : Parser A} (b : Bool) → Local f → Local g → Local (when b f g)
local_when b l m = local_bool l m b

pub local_no_room : {A : Type 0} (begins : Kind → Bool) → Local (no_room {A = A} begins)
local_no_room begins = local_peek (λ t. local_when (begins t.kind) local_deep local_bad)

pub rest_shorter : (ts : List Lexeme) → length (rest_of ts) ≤ length ts
rest_shorter [] = omega arith
rest_shorter (t ∷ ts) = omega arith

step_same : {A : Type 0} (f : Parser A) → Local f → (ts q : List Lexeme) → Same q (step f ts) (step f (ts ++ q))
step_same f l [] q = out (omega (arith, l.shorter [])) (omega (arith, l.shorter (rest_of q), rest_shorter q))
step_same f l (t ∷ ts) q = l.same ts q

pub local_step : {A : Type 0} {f : Parser A} → Local f → Local (step f)
local_step {f = f} l = record { shorter = λ ts. omega (arith, l.shorter (rest_of ts), rest_shorter ts); same = step_same f l }

-- loops

pub local_turned : {A B : Type 0} (f : Parser (Many A B)) → Local f → (t : Turn A B) → Local (turned f t)
local_turned f l (Again a) = local_bind l (λ m. local_ret (begun a m))
local_turned f l (Stop b) = local_ret (stopped b)

pub local_turns : {A B : Type 0} (turn : Parser (Turn A B)) → Local turn → (n : ℕ) → Local (turns turn n)
unfolding turns
local_turns turn l zero = local_bad
local_turns turn l (suc n) = local_bind l (local_turned (turns turn n) (local_turns turn l n))

-- a turn that goes on has read a lexeme
abbrev pub Moves : {A B : Type 0} → ℕ → Reply (Turn A B) → Type 0
Moves n (Read (Again a) rs ts) = length ts < n
Moves n (Read (Stop b) rs ts) = Unit {0}
Moves n (Bad rs ts) = Unit {0}
Moves n (Deep rs ts) = Unit {0}

pub record Gains {A B : Type 0} (turn : Parser (Turn A B)) : Type 0 where
  pub each : (ts : List Lexeme) → Moves (length ts) (turn ts)

turned_enough : {A B : Type 0} (f g : Parser (Many A B)) (k : ℕ) → ((ts : List Lexeme) → length ts < k → f ts ≡ g ts) → (r : Reply (Turn A B)) → Moves k r → after r (turned f) ≡ after r (turned g)
turned_enough f g k e (Read (Again a) rs ts) h = ap (λ r. noted rs (after r (λ m. ret (begun a m)))) (e ts h)
turned_enough f g k e (Read (Stop b) rs ts) h = refl
turned_enough f g k e (Bad rs ts) h = refl
turned_enough f g k e (Deep rs ts) h = refl

pub enough : {A B : Type 0} (turn : Parser (Turn A B)) → Gains turn → (n m : ℕ) (ts : List Lexeme) → length ts < n → length ts < m → turns turn n ts ≡ turns turn m ts
unfolding turns
enough turn gains zero m ts h k = absurd (omega arith)
enough turn gains (suc n) zero ts h k = absurd (omega arith)
enough turn gains (suc n) (suc m) ts h k = turned_enough (turns turn n) (turns turn m) (length ts) (λ us s. enough turn gains n m us (omega arith) (omega arith)) (turn ts) (gains.each ts)

pub local_loop : {A B : Type 0} {turn : Parser (Turn A B)} → Local turn → Gains turn → Local (loop turn)
unfolding loop
local_loop {turn = turn} l gains = record {
  shorter = λ ts. (local_turns turn l (suc (length ts))).shorter ts;
  same = λ ts q. subst (λ r. Same q r (turns turn (suc (length (ts ++ q))) (ts ++ q))) (enough turn gains (suc (length (ts ++ q))) (suc (length ts)) ts (omega (arith, length-append ts q)) (omega arith)) ((local_turns turn l (suc (length (ts ++ q)))).same ts q);
}

pub local_led : {A B : Type 0} {turn : Parser (Turn A B)} → Local turn → Gains turn → (a : A) → Local (led turn a)
local_led l gains a = local_bind (local_loop l gains) (λ m. local_ret (begun a m))

-- which turns gain

pub moved : {A B : Type 0} (n : ℕ) (r : Reply (Turn A B)) → length (left r) < n → Moves n r
moved n (Read (Again a) rs us) h = h
moved n (Read (Stop a) rs us) h = tt
moved n (Bad rs us) h = tt
moved n (Deep rs us) h = tt

pub gains_step : {A B : Type 0} (f : Parser (Turn A B)) → Local f → (t : Lexeme) (ts : List Lexeme) → Moves (suc (length ts)) (step f (t ∷ ts))
gains_step f l t ts = moved (suc (length ts)) (f ts) (omega (arith, l.shorter ts))

gains_at : {A B : Type 0} (f : Lexeme → Parser (Turn A B)) → Moves 0 (f (head_of []) []) → ((t : Lexeme) (ts : List Lexeme) → Moves (suc (length ts)) (f t (t ∷ ts))) → (ts : List Lexeme) → Moves (length ts) (peek f ts)
gains_at f h g [] = h
gains_at f h g (t ∷ ts) = g t ts

pub gains_peek : {A B : Type 0} (f : Lexeme → Parser (Turn A B)) → Moves 0 (f (head_of []) []) → ((t : Lexeme) (ts : List Lexeme) → Moves (suc (length ts)) (f t (t ∷ ts))) → Gains (peek f)
gains_peek f h g = record { each = gains_at f h g }

moves_bool : {A B : Type 0} (f g : Parser (Turn A B)) (ts : List Lexeme) → Moves (length ts) (f ts) → Moves (length ts) (g ts) → (b : Bool) → Moves (length ts) (when b f g ts)
moves_bool f g ts h k true = h
moves_bool f g ts h k false = k

pub moves_when : {A B : Type 0} (f g : Parser (Turn A B)) (b : Bool) (t : Lexeme) (ts : List Lexeme) → Moves (suc (length ts)) (f (t ∷ ts)) → Moves (suc (length ts)) (g (t ∷ ts)) → Moves (suc (length ts)) (when b f g (t ∷ ts))
moves_when f g b t ts h k = moves_bool f g (t ∷ ts) h k b

-- a reply that moved stays one with records before it
pub moves_noted : {A B : Type 0} (n : ℕ) (rs : List Recorded) (r : Reply (Turn A B)) → Moves n r → Moves n (noted rs r)
moves_noted n [] r h = h
moves_noted n (b ∷ bs) (Read (Again a) rs us) h = h
moves_noted n (b ∷ bs) (Read (Stop a) rs us) h = tt
moves_noted n (b ∷ bs) (Bad rs us) h = tt
moves_noted n (b ∷ bs) (Deep rs us) h = tt

-- parsers that read a lexeme wherever they read anything

abbrev pub Ate : {A : Type 0} → ℕ → Reply A → Type 0
Ate n (Read a rs ts) = length ts < n
Ate n (Bad rs ts) = Unit {0}
Ate n (Deep rs ts) = Unit {0}

pub record Eats {A : Type 0} (f : Parser A) : Type 0 where
  pub each : (ts : List Lexeme) → Ate (length ts) (f ts)

pub ate_less : {A : Type 0} (n : ℕ) (r : Reply A) → length (left r) < n → Ate n r
ate_less n (Read a rs us) h = h
ate_less n (Bad rs us) h = tt
ate_less n (Deep rs us) h = tt

pub ate_step : {A : Type 0} (f : Parser A) → Local f → (t : Lexeme) (ts : List Lexeme) → Ate (suc (length ts)) (step f (t ∷ ts))
ate_step f l t ts = ate_less (suc (length ts)) (f ts) (omega (arith, l.shorter ts))

pub ate_each : {A : Type 0} (f : Parser A) → Eats f → (t : Lexeme) (ts : List Lexeme) → Ate (suc (length ts)) (f (t ∷ ts))
ate_each f e t ts = e.each (t ∷ ts)

eats_at : {A : Type 0} (f : Lexeme → Parser A) → Ate 0 (f (head_of []) []) → ((t : Lexeme) (ts : List Lexeme) → Ate (suc (length ts)) (f t (t ∷ ts))) → (ts : List Lexeme) → Ate (length ts) (peek f ts)
eats_at f h g [] = h
eats_at f h g (t ∷ ts) = g t ts

pub eats_peek : {A : Type 0} (f : Lexeme → Parser A) → Ate 0 (f (head_of []) []) → ((t : Lexeme) (ts : List Lexeme) → Ate (suc (length ts)) (f t (t ∷ ts))) → Eats (peek f)
eats_peek f h g = record { each = eats_at f h g }

ate_bool : {A : Type 0} (f g : Parser A) (n : ℕ) (ts : List Lexeme) → Ate n (f ts) → Ate n (g ts) → (b : Bool) → Ate n (when b f g ts)
ate_bool f g n ts h k true = h
ate_bool f g n ts h k false = k

pub ate_when : {A : Type 0} (f g : Parser A) (b : Bool) (t : Lexeme) (ts : List Lexeme) → Ate (suc (length ts)) (f (t ∷ ts)) → Ate (suc (length ts)) (g (t ∷ ts)) → Ate (suc (length ts)) (when b f g (t ∷ ts))
ate_when f g b t ts h k = ate_bool f g (suc (length ts)) (t ∷ ts) h k b

ate_after : {A B : Type 0} (f : A → Parser B) → ((a : A) → Local (f a)) → (n : ℕ) (r : Reply A) → Ate n r → Ate n (after r f)
ate_after f l n (Read a rs us) h = ate_less n (noted rs (f a us)) (omega (arith, (l a).shorter us, ap length (left_noted rs (f a us))))
ate_after f l n (Bad rs us) h = tt
ate_after f l n (Deep rs us) h = tt

pub eats_bind : {A B : Type 0} {m : Parser A} {f : A → Parser B} → Eats m → ((a : A) → Local (f a)) → Eats (bind m f)
eats_bind {m = m} {f = f} e l = record { each = λ ts. ate_after f l (length ts) (m ts) (e.each ts) }

eats_no_room_at : (A : Type 0) (ts : List Lexeme) (b : Bool) → Ate {A = A} (length ts) (when b deep bad ts)
eats_no_room_at A ts true = tt
eats_no_room_at A ts false = tt

pub eats_no_room : {A : Type 0} (begins : Kind → Bool) → Eats (no_room {A = A} begins)
eats_no_room {A} begins = record { each = λ ts. eats_no_room_at A ts (begins (head_of ts).kind) }

moves_ate : {A B : Type 0} (n : ℕ) (r : Reply (Turn A B)) → Ate n r → Moves n r
moves_ate n (Read (Again a) rs us) h = h
moves_ate n (Read (Stop a) rs us) h = tt
moves_ate n (Bad rs us) h = tt
moves_ate n (Deep rs us) h = tt

pub moves_eats : {A B : Type 0} (f : Parser (Turn A B)) → Eats f → (ts : List Lexeme) → Moves (length ts) (f ts)
moves_eats f e ts = moves_ate (length ts) (f ts) (e.each ts)

pub gains_eats : {A B : Type 0} {turn : Parser (Turn A B)} → Eats turn → Gains turn
gains_eats {turn = turn} e = record { each = moves_eats turn e }
