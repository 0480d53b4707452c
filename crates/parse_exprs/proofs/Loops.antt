-- A loop of the code and the loop that it computes.
use Rattle.std.proofs.Common.{◌≡◌, ◌∙◌, ℕ, zero, suc, ◌<◌, List, [], ◌∷◌, ◌++◌, drop, length, refl, sym, ap, subst, arith, append_assoc, append-nil, Result}
use Rattle.std.specs.Prelude.{IsErrAnd}
use Rattle.std.proofs.lemmas.List.{drop-map, length-map}
use Rattle.script_grammar.specs.Interpretation.{Interpretation}
use Rattle.script_grammar.specs.Lexeme.{Lexeme, lexeme_of}
use Rattle.script_grammar.specs.Shows.{ShowAll}
use Rattle.script_grammar.specs.Tree.{no_stmts}
use Rattle.grammar_parser_specs.specs.Parser.{Recorded, Parser, Reply, Read, Bad, Deep, noted, after, ret, Turn, Again, Stop, Many, stopped, begun, turned, turns, loop, led}
use Rattle.grammar_parser_laws.proofs.Local.{Gains, Moves, moves_noted}
use Rattle.grammar_local_laws.proofs.LocalExprs.{after_noted}
use Rattle.parse_exprs.specs.declared.source.Source.{Source}
use Rattle.parse_exprs.specs.declared.place.Cursor.{Cursor}
use Rattle.parse_exprs.specs.declared.place.ParseFault.{ParseFault}
use Rattle.parse_exprs.specs.declared.place.ParseFault.TheVariants as faults
use Rattle.parse_exprs.specs.Answers.{Answers, Refuses, ReadAs}
use Rattle.parse_exprs.specs.Source.{front}
use Rattle.parse_exprs.proofs.Steps.{then, just, handed, refused}

-- the reply with items that were read before
abbrev pub with_front : {A B : Type 0} → List A → Reply (Many A B) → Reply (Many A B)
with_front xs (Read m rs ts) = Read (record { items = xs ++ m.items; last = m.last }) rs ts
with_front xs (Bad rs ts) = Bad rs ts
with_front xs (Deep rs ts) = Deep rs ts

-- What a loop that began with this reply, with bodies recorded before, has read, where these bodies are recorded and these lexemes stand after it.
pub record Looping {E A B : Type 0} (for : E → A → Type 0) (turn : Parser (Turn A B)) (ns : List Recorded) (start : Reply (Many A B)) (rs : List Recorded) (us : List Lexeme) (es : List E) : Type 0 where
  pub done : List A
  pub means : ShowAll for es done
  pub fuel : ℕ
  pub enough : length us < fuel
  pub read : noted ns start ≡ with_front done (noted rs (turns turn fuel us))

front_nil : {A B : Type 0} (r : Reply (Many A B)) → with_front [] r ≡ r
front_nil (Read m rs ts) = refl
front_nil (Bad rs ts) = refl
front_nil (Deep rs ts) = refl

front_begun : {A B : Type 0} (xs : List A) (a : A) (r : Reply (Many A B)) → with_front xs (after r (λ m. ret (begun a m))) ≡ with_front (xs ++ a ∷ []) r
front_begun xs a (Read m rs ts) = ap (with_front xs) (just rs (begun a m) ts).is ∙ ap (λ ys. Read (record { items = ys; last = m.last }) rs ts) (sym (append_assoc xs (a ∷ []) m.items))
front_begun xs a (Bad rs ts) = refl
front_begun xs a (Deep rs ts) = refl

front_more : {A B : Type 0} (xs : List A) (a : A) (rs : List Recorded) (r : Reply (Many A B)) → with_front xs (noted rs (after r (λ m. ret (begun a m)))) ≡ with_front (xs ++ a ∷ []) (noted rs r)
front_more xs a rs r = ap (with_front xs) (sym (after_noted rs r (λ m. ret (begun a m)))) ∙ front_begun xs a (noted rs r)

pub all_more : {E A : Type 0} (for : E → A → Type 0) (es : List E) (xs : List A) (e : E) (a : A) → ShowAll for es xs → for e a → ShowAll for (es ++ e ∷ []) (xs ++ a ∷ [])
all_more for [] [] e a h k = (k, tt)
all_more for [] (x ∷ xs) e a h k = absurd h
all_more for (d ∷ es) [] e a h k = absurd h
all_more for (d ∷ es) (x ∷ xs) e a h k = (h.0, all_more for es xs e a h.1 k)

pub looping_init : {E A B : Type 0} (for : E → A → Type 0) (turn : Parser (Turn A B)) (rs : List Recorded) (us : List Lexeme) → Looping for turn rs (loop turn us) rs us []
unfolding loop
looping_init for turn rs us = record { done = []; means = tt; fuel = suc (length us); enough = omega arith; read = sym (front_nil _) }

-- a loop after a first item
pub looping_led : {E A B : Type 0} (for : E → A → Type 0) (turn : Parser (Turn A B)) (rs : List Recorded) (us : List Lexeme) (e : E) (a : A) → for e a → Looping for turn rs (led turn a us) rs us (e ∷ [])
unfolding loop
looping_led for turn rs us e a h = record { done = a ∷ []; means = (h, tt); fuel = suc (length us); enough = omega arith; read = sym (front_nil _) ∙ front_more [] a rs (turns turn (suc (length us)) us) }

turns_again : {A B : Type 0} (turn : Parser (Turn A B)) (n : ℕ) (rs qs : List Recorded) (us vs : List Lexeme) (a : A) → ReadAs rs (turn us) (Again a) qs vs → noted rs (turns turn (suc n) us) ≡ noted qs (after (turns turn n vs) (λ m. ret (begun a m)))
unfolding turns
turns_again turn n rs qs us vs a e = sym (after_noted rs (turn us) (turned (turns turn n))) ∙ ap (λ x. after x (turned (turns turn n))) e.is

turns_stop : {A B : Type 0} (turn : Parser (Turn A B)) (n : ℕ) (rs qs : List Recorded) (us vs : List Lexeme) (b : B) → ReadAs rs (turn us) (Stop b) qs vs → length us < n → noted rs (turns turn n us) ≡ Read (stopped b) qs vs
unfolding turns
turns_stop turn zero rs qs us vs b e h = absurd (omega arith)
turns_stop turn (suc n) rs qs us vs b e h = (then (turned (turns turn n)) e (just qs (stopped b) vs)).is

turns_refused : {A B : Type 0} (s : Source) (i : Interpretation) (p : Cursor) (e : ParseFault) (turn : Parser (Turn A B)) (n : ℕ) (rs : List Recorded) (us : List Lexeme) → Refuses s i p e rs (turn us) → length us < n → Refuses s i p e rs (turns turn n us)
unfolding turns
turns_refused s i p e turn zero rs us k h = absurd (omega arith)
turns_refused s i p e turn (suc n) rs us k h = refused s i p e rs (turn us) (turned (turns turn n)) k

again_at : {E A B : Type 0} (for : E → A → Type 0) (turn : Parser (Turn A B)) (ns : List Recorded) (start : Reply (Many A B)) (rs qs : List Recorded) (us vs : List Lexeme) (es : List E) (e : E) (a : A) (done : List A) (fuel : ℕ)
    → length us < fuel → noted ns start ≡ with_front done (noted rs (turns turn fuel us)) → ShowAll for es done → ReadAs rs (turn us) (Again a) qs vs → length vs < length us → for e a → Looping for turn ns start qs vs (es ++ e ∷ [])
again_at for turn ns start rs qs us vs es e a done zero h r m t s f = absurd (omega arith)
again_at for turn ns start rs qs us vs es e a done (suc n) h r m t s f = record {
  done = done ++ a ∷ [];
  means = all_more for es done e a m f;
  fuel = n;
  enough = omega arith;
  read = r ∙ ap (with_front done) (turns_again turn n rs qs us vs a t) ∙ front_more done a qs (turns turn n vs);
}

-- a turn that goes on has read a lexeme
pub again_shorter : {A B : Type 0} (turn : Parser (Turn A B)) → Gains turn → (rs qs : List Recorded) (us vs : List Lexeme) (a : A) → ReadAs rs (turn us) (Again a) qs vs → length vs < length us
again_shorter turn g rs qs us vs a e = subst (λ r. Moves (length us) r) e.is (moves_noted (length us) rs (turn us) (g.each us))

pub looping_again : {E A B : Type 0} {for : E → A → Type 0} {turn : Parser (Turn A B)} {ns : List Recorded} {start : Reply (Many A B)} {rs qs : List Recorded} {us vs : List Lexeme} {es : List E} (e : E) (a : A)
    → Gains turn → Looping for turn ns start rs us es → ReadAs rs (turn us) (Again a) qs vs → for e a → Looping for turn ns start qs vs (es ++ e ∷ [])
looping_again {for = for} {turn = turn} {ns = ns} {start = start} {rs = rs} {qs = qs} {us = us} {vs = vs} {es = es} e a g l t f =
    again_at for turn ns start rs qs us vs es e a l.done l.fuel l.enough l.read l.means t (again_shorter turn g rs qs us vs a t) f

again_at_done : {E A B : Type 0} (for : E → A → Type 0) (turn : Parser (Turn A B)) (ns : List Recorded) (start : Reply (Many A B)) (rs qs : List Recorded) (us vs : List Lexeme) (es : List E) (e : E) (a : A) (done : List A) (fuel : ℕ)
    (h : length us < fuel) (r : noted ns start ≡ with_front done (noted rs (turns turn fuel us))) (m : ShowAll for es done) (t : ReadAs rs (turn us) (Again a) qs vs) (s : length vs < length us) (f : for e a) → (again_at for turn ns start rs qs us vs es e a done fuel h r m t s f).done ≡ done ++ a ∷ []
unfolding again_at
again_at_done for turn ns start rs qs us vs es e a done zero h r m t s f = absurd (omega arith)
again_at_done for turn ns start rs qs us vs es e a done (suc n) h r m t s f = refl

-- which items a loop has read: at its start, after a turn, and at its end

pub init_done : {E A B : Type 0} (for : E → A → Type 0) (turn : Parser (Turn A B)) (rs : List Recorded) (us : List Lexeme) → (looping_init for turn rs us).done ≡ []
unfolding looping_init
init_done for turn rs us = refl

pub again_done : {E A B : Type 0} {for : E → A → Type 0} {turn : Parser (Turn A B)} {ns : List Recorded} {start : Reply (Many A B)} {rs qs : List Recorded} {us vs : List Lexeme} {es : List E} (e : E) (a : A)
    (g : Gains turn) (l : Looping for turn ns start rs us es) (t : ReadAs rs (turn us) (Again a) qs vs) (f : for e a) → (looping_again e a g l t f).done ≡ l.done ++ a ∷ []
unfolding looping_again
again_done {for = for} {turn = turn} {ns = ns} {start = start} {rs = rs} {qs = qs} {us = us} {vs = vs} {es = es} e a g l t f =
    again_at_done for turn ns start rs qs us vs es e a l.done l.fuel l.enough l.read l.means t (again_shorter turn g rs qs us vs a t) f

-- how it ends: the items, and how the last turn stopped
pub looping_stop : {E A B : Type 0} {for : E → A → Type 0} {turn : Parser (Turn A B)} {ns : List Recorded} {start : Reply (Many A B)} {rs qs : List Recorded} {us vs : List Lexeme} {es : List E} (b : B)
    → Looping for turn ns start rs us es → ReadAs rs (turn us) (Stop b) qs vs → (xs : List A) × ShowAll for es xs × ReadAs ns start (record { items = xs; last = b }) qs vs
looping_stop {turn = turn} {rs = rs} {qs = qs} {us = us} {vs = vs} b l t =
    (l.done, l.means, record { is = l.read ∙ ap (with_front l.done) (turns_stop turn l.fuel rs qs us vs b t l.enough) ∙ ap (λ x. Read (record { items = x; last = b }) qs vs) (append-nil l.done) })

pub stop_done : {E A B : Type 0} {for : E → A → Type 0} {turn : Parser (Turn A B)} {ns : List Recorded} {start : Reply (Many A B)} {rs qs : List Recorded} {us vs : List Lexeme} {es : List E} (b : B)
    (l : Looping for turn ns start rs us es) (t : ReadAs rs (turn us) (Stop b) qs vs) → (looping_stop b l t).0 ≡ l.done
unfolding looping_stop
stop_done b l t = refl

front_refused : {A B : Type 0} (s : Source) (i : Interpretation) (p : Cursor) (e : ParseFault) (xs : List A) (ns : List Recorded) (start : Reply (Many A B)) (rs : List Recorded) (r : Reply (Many A B)) → noted ns start ≡ with_front xs (noted rs r) → Refuses s i p e rs r → Refuses s i p e ns start
front_refused s i p (faults.Unexpected k) xs ns start rs r l h = record { is = l ∙ ap (with_front xs) h.is }
front_refused s i p (faults.TooDeep k) xs ns start rs r l h = record { is = l ∙ ap (with_front xs) h.is }
front_refused s i p faults.NoMemory xs ns start rs r l h = tt

-- how it fails by a `?`
pub looping_failed : {E A B D : Type 0} {for : E → A → Type 0} {turn : Parser (Turn A B)} {ns : List Recorded} {start : Reply (Many A B)} {rs : List Recorded} {us : List Lexeme} {es : List E} (s : Source) (i : Interpretation) (p : Cursor) (e : ParseFault) (o : Result D ParseFault) (gives : D → (Many A B → Type 0) → Type 0)
    → IsErrAnd o (λ y. y ≡ e) → Looping for turn ns start rs us es → Refuses s i p e rs (turn us) → Answers gives s i p o ns start
looping_failed {turn = turn} {ns = ns} {start = start} {rs = rs} {us = us} s i p e o gives h l t =
    handed s i p e o gives ns start h (front_refused s i p e l.done ns start rs (turns turn l.fuel us) l.read (turns_refused s i p e turn l.fuel rs us t l.enough))

-- the same where something is made of what it read
pub looping_failed_in : {E A B C D : Type 0} {for : E → A → Type 0} {turn : Parser (Turn A B)} {ns : List Recorded} {start : Reply (Many A B)} {rs : List Recorded} {us : List Lexeme} {es : List E} (s : Source) (i : Interpretation) (p : Cursor) (e : ParseFault) (o : Result D ParseFault) (gives : D → (C → Type 0) → Type 0) (f : Many A B → Parser C)
    → IsErrAnd o (λ y. y ≡ e) → Looping for turn ns start rs us es → Refuses s i p e rs (turn us) → Answers gives s i p o ns (after start f)
looping_failed_in {turn = turn} {ns = ns} {start = start} {rs = rs} {us = us} s i p e o gives f h l t =
    handed s i p e o gives ns (after start f) h (refused s i p e ns start f (front_refused s i p e l.done ns start rs (turns turn l.fuel us) l.read (turns_refused s i p e turn l.fuel rs us t l.enough)))

-- The measure of a loop counts tokens, of which there are as many as lexemes.

some_interpretation : Interpretation
some_interpretation = record { texts = []; bodies = λ _. no_stmts }

front_length : (s : Source) (i : Interpretation) (at : ℕ) → length (front s i at) ≡ length (drop at s.tokens.now)
unfolding front
front_length s i at = ap length (drop-map (lexeme_of s.get s.set i.texts) at s.tokens.now) ∙ length-map (drop at s.tokens.now) (lexeme_of s.get s.set i.texts)

pub fewer_left : (s : Source) (at new : ℕ) → ((i : Interpretation) → length (front s i new) < length (front s i at)) → length (drop new s.tokens.now) < length (drop at s.tokens.now)
fewer_left s at new h = let k = h some_interpretation in omega (arith, k, front_length s some_interpretation at, front_length s some_interpretation new)
