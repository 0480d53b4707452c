-- Two parsers that differ in how they read braced bodies: the one reads them in place, the other passes them over and
-- records them. The first fault of the first is that of the first recorded body that has one, and else that of the second.
use Rattle.std.proofs.Common.{◌≡◌, ℕ, zero, suc, List, [], ◌∷◌, ◌++◌, length, refl, sym, ap, ◌∙◌, subst, Bool, true, false}
use Rattle.script_grammar.specs.declared.token.Kind.{Kind}
use Rattle.script_grammar.specs.Lexeme.{Lexeme}
use Rattle.grammar_parser_specs.specs.Parser.{Recorded, Reply, Read, Bad, Deep, Parser, head_of, rest_of, noted, after, ret, bad, deep, bind, peek, step, when, no_room, Turn, Again, Stop, turned, turns, loop, Many, led}

-- what the recorded bodies say: all are read, or the first of them that is not has its fault there
pub data Verdict : Type 0 where
  fine : Verdict
  bad_at : List Lexeme → Verdict
  deep_at : List Lexeme → Verdict

-- where the fault of a body stands, or else what those after it say
abbrev pub or_else : {A : Type 0} → Reply A → Verdict → Verdict
or_else (Read a rs us) v = v
or_else (Bad rs us) v = bad_at us
or_else (Deep rs us) v = deep_at us

abbrev pub records : {A : Type 0} → Reply A → List Recorded
records (Read a rs us) = rs
records (Bad rs us) = rs
records (Deep rs us) = rs

-- relations of what loops read

abbrev pub TurnK : {A B X Y : Type 0} → (A → B → Type 0) → (X → Y → Type 0) → Turn A X → Turn B Y → Type 0
TurnK K J (Again a) (Again b) = K a b
TurnK K J (Again a) (Stop y) = ⊥
TurnK K J (Stop x) (Again b) = ⊥
TurnK K J (Stop x) (Stop y) = J x y

abbrev pub ListK : {A B : Type 0} → (A → B → Type 0) → List A → List B → Type 0
ListK K [] [] = Unit {0}
ListK K [] (b ∷ bs) = ⊥
ListK K (a ∷ as_) [] = ⊥
ListK K (a ∷ as_) (b ∷ bs) = K a b × ListK K as_ bs

abbrev pub ManyK : {A B X Y : Type 0} → (A → B → Type 0) → (X → Y → Type 0) → Many A X → Many B Y → Type 0
ManyK K J m n = ListK K m.items n.items × J m.last n.last

-- over how a recorded body is read in place
module _ {C : Type 0} (judge : Recorded → Reply C) where
  abbrev pub judged : List Recorded → Verdict
  judged [] = fine
  judged (b ∷ bs) = or_else (judge b) (judged bs)

  -- the reply of the parser that reads in place, by the verdict on what the other recorded, and by its reply
  abbrev pub MeetsAt : {A B : Type 0} → (A → B → Type 0) → Verdict → Reply A → Reply B → Type 0
  MeetsAt K (bad_at vs) r s = r ≡ Bad [] vs
  MeetsAt K (deep_at vs) r s = r ≡ Deep [] vs
  MeetsAt {A} K fine r (Read b rs us) = (a : A) × (r ≡ Read a [] us) × K a b
  MeetsAt K fine r (Bad rs us) = r ≡ Bad [] us
  MeetsAt K fine r (Deep rs us) = r ≡ Deep [] us

  abbrev pub Meets : {A B : Type 0} → (A → B → Type 0) → Reply A → Reply B → Type 0
  Meets K r s = MeetsAt K (judged (records s)) r s

  pub record Agrees {A B : Type 0} (K : A → B → Type 0) (e : Parser A) (l : Parser B) : Type 0 where
    pub at : (ts : List Lexeme) → Meets K (e ts) (l ts)

  -- a verdict that is no fault leaves the matter to those after
  pub judged_append : (rs qs : List Recorded) → judged rs ≡ fine → judged (rs ++ qs) ≡ judged qs
  judged_append [] qs h = refl
  judged_append (b ∷ rs) qs h = past (judge b) (λ k. judged_append rs qs k) h
    where
      past : (r : Reply C) → (judged rs ≡ fine → judged (rs ++ qs) ≡ judged qs) → or_else r (judged rs) ≡ fine → or_else r (judged (rs ++ qs)) ≡ judged qs
      past (Read c ps us) i k = i k
      past (Bad ps us) i k = absurd (cc)
      past (Deep ps us) i k = absurd (cc)

  pub judged_bad : (rs qs : List Recorded) (vs : List Lexeme) → judged rs ≡ bad_at vs → judged (rs ++ qs) ≡ bad_at vs
  judged_bad [] qs vs h = absurd (cc)
  judged_bad (b ∷ rs) qs vs h = past (judge b) (λ k. judged_bad rs qs vs k) h
    where
      past : (r : Reply C) → (judged rs ≡ bad_at vs → judged (rs ++ qs) ≡ bad_at vs) → or_else r (judged rs) ≡ bad_at vs → or_else r (judged (rs ++ qs)) ≡ bad_at vs
      past (Read c ps us) i k = i k
      past (Bad ps us) i k = k
      past (Deep ps us) i k = absurd (cc)

  pub judged_deep : (rs qs : List Recorded) (vs : List Lexeme) → judged rs ≡ deep_at vs → judged (rs ++ qs) ≡ deep_at vs
  judged_deep [] qs vs h = absurd (cc)
  judged_deep (b ∷ rs) qs vs h = past (judge b) (λ k. judged_deep rs qs vs k) h
    where
      past : (r : Reply C) → (judged rs ≡ deep_at vs → judged (rs ++ qs) ≡ deep_at vs) → or_else r (judged rs) ≡ deep_at vs → or_else r (judged (rs ++ qs)) ≡ deep_at vs
      past (Read c ps us) i k = i k
      past (Bad ps us) i k = absurd (cc)
      past (Deep ps us) i k = k

  records_noted : {B : Type 0} (rs : List Recorded) (s : Reply B) → records (noted rs s) ≡ rs ++ records s
  records_noted [] s = refl
  records_noted (b ∷ rs) (Read a qs us) = refl
  records_noted (b ∷ rs) (Bad qs us) = refl
  records_noted (b ∷ rs) (Deep qs us) = refl

  -- records that are fine, before a reply
  at_noted : {A B : Type 0} (K : A → B → Type 0) (v : Verdict) (r : Reply A) (rs : List Recorded) (s : Reply B) → MeetsAt K v r s → MeetsAt K v r (noted rs s)
  at_noted K v r [] s m = m
  at_noted K (bad_at vs) r (b ∷ rs) s m = m
  at_noted K (deep_at vs) r (b ∷ rs) s m = m
  at_noted K fine r (b ∷ rs) (Read a qs us) m = m
  at_noted K fine r (b ∷ rs) (Bad qs us) m = m
  at_noted K fine r (b ∷ rs) (Deep qs us) m = m

  meets_noted : {A B : Type 0} (K : A → B → Type 0) (r : Reply A) (rs : List Recorded) (s : Reply B) → judged rs ≡ fine → Meets K r s → Meets K r (noted rs s)
  meets_noted K r rs s h m = subst (λ v. MeetsAt K v r (noted rs s)) (sym (ap judged (records_noted rs s) ∙ judged_append rs (records s) h)) (at_noted K (judged (records s)) r rs s m)

  module _ {A B A2 B2 : Type 0} (K : A → B → Type 0) (J : A2 → B2 → Type 0) (f : A → Parser A2) (g : B → Parser B2) (h : (a : A) (b : B) → K a b → Agrees J (f a) (g b)) where
    read_after : (r : Reply A) (b : B) (rs : List Recorded) (us : List Lexeme) (v : Verdict) → judged rs ≡ v → MeetsAt K v r (Read b rs us) → Meets J (after r f) (noted rs (g b us))
    read_after r b rs us fine e m = subst (λ x. Meets J (after x f) (noted rs (g b us))) (sym m.1) (meets_noted J (f m.0 us) rs (g b us) e ((h m.0 b m.2).at us))
    read_after r b rs us (bad_at vs) e m = subst (λ v. MeetsAt J v (after r f) (noted rs (g b us))) (sym (ap judged (records_noted rs (g b us)) ∙ judged_bad rs (records (g b us)) vs e)) (ap (λ x. after x f) m)
    read_after r b rs us (deep_at vs) e m = subst (λ v. MeetsAt J v (after r f) (noted rs (g b us))) (sym (ap judged (records_noted rs (g b us)) ∙ judged_deep rs (records (g b us)) vs e)) (ap (λ x. after x f) m)

    bad_after : (r : Reply A) (rs : List Recorded) (us : List Lexeme) (v : Verdict) → MeetsAt K v r (Bad rs us) → MeetsAt J v (after r f) (Bad rs us)
    bad_after r rs us fine m = ap (λ x. after x f) m
    bad_after r rs us (bad_at vs) m = ap (λ x. after x f) m
    bad_after r rs us (deep_at vs) m = ap (λ x. after x f) m

    deep_after : (r : Reply A) (rs : List Recorded) (us : List Lexeme) (v : Verdict) → MeetsAt K v r (Deep rs us) → MeetsAt J v (after r f) (Deep rs us)
    deep_after r rs us fine m = ap (λ x. after x f) m
    deep_after r rs us (bad_at vs) m = ap (λ x. after x f) m
    deep_after r rs us (deep_at vs) m = ap (λ x. after x f) m

    after_meets : (r : Reply A) (s : Reply B) → Meets K r s → Meets J (after r f) (after s g)
    after_meets r (Read b rs us) m = read_after r b rs us (judged rs) refl m
    after_meets r (Bad rs us) m = bad_after r rs us (judged rs) m
    after_meets r (Deep rs us) m = deep_after r rs us (judged rs) m

  pub agrees_bind : {A B A2 B2 : Type 0} {K : A → B → Type 0} {J : A2 → B2 → Type 0} {e : Parser A} {l : Parser B} {f : A → Parser A2} {g : B → Parser B2} → Agrees K e l → ((a : A) (b : B) → K a b → Agrees J (f a) (g b)) → Agrees J (bind e f) (bind l g)
  agrees_bind {K = K} {J = J} {e = e} {l = l} {f = f} {g = g} m h = record { at = λ ts. after_meets K J f g h (e ts) (l ts) (m.at ts) }

  pub agrees_ret : {A B : Type 0} {K : A → B → Type 0} {a : A} {b : B} → K a b → Agrees K (ret a) (ret b)
  agrees_ret {a = a} k = record { at = λ ts. (a, refl, k) }

  pub agrees_bad : {A B : Type 0} {K : A → B → Type 0} → Agrees K bad bad
  agrees_bad = record { at = λ ts. refl }

  pub agrees_deep : {A B : Type 0} {K : A → B → Type 0} → Agrees K deep deep
  agrees_deep = record { at = λ ts. refl }

  pub agrees_peek : {A B : Type 0} {K : A → B → Type 0} {f : Lexeme → Parser A} {g : Lexeme → Parser B} → ((t : Lexeme) → Agrees K (f t) (g t)) → Agrees K (peek f) (peek g)
  agrees_peek h = record { at = λ ts. (h (head_of ts)).at ts }

  pub agrees_step : {A B : Type 0} {K : A → B → Type 0} {f : Parser A} {g : Parser B} → Agrees K f g → Agrees K (step f) (step g)
  agrees_step h = record { at = λ ts. h.at (rest_of ts) }

  agrees_bool : {A B : Type 0} (K : A → B → Type 0) (f f2 : Parser A) (g g2 : Parser B) (b c : Bool) → c ≡ b → (b ≡ true → Agrees K f g) → (b ≡ false → Agrees K f2 g2) → Agrees K (when b f f2) (when c g g2)
  agrees_bool K f f2 g g2 true c e h k = subst (λ x. Agrees K f (when x g g2)) (sym e) (h refl)
  agrees_bool K f f2 g g2 false c e h k = subst (λ x. Agrees K f2 (when x g g2)) (sym e) (k refl)

  -- the same test in both
  pub agrees_when : {A B : Type 0} {K : A → B → Type 0} {f f2 : Parser A} {g g2 : Parser B} (b : Bool) → Agrees K f g → Agrees K f2 g2 → Agrees K (when b f f2) (when b g g2)
  agrees_when {K = K} {f = f} {f2 = f2} {g = g} {g2 = g2} b h k = agrees_bool K f f2 g g2 b b refl (λ _. h) (λ _. k)

  -- tests that have one answer
  pub agrees_if : {A B : Type 0} {K : A → B → Type 0} {f f2 : Parser A} {g g2 : Parser B} (b c : Bool) → c ≡ b → Agrees K f g → Agrees K f2 g2 → Agrees K (when b f f2) (when c g g2)
  agrees_if {K = K} {f = f} {f2 = f2} {g = g} {g2 = g2} b c e h k = agrees_bool K f f2 g g2 b c e (λ _. h) (λ _. k)

  pub agrees_no_room : {A B : Type 0} {K : A → B → Type 0} (begins : Kind → Bool) → Agrees K (no_room begins) (no_room begins)
  agrees_no_room begins = agrees_peek (λ t. agrees_when (begins t.kind) agrees_deep agrees_bad)

  at_looser : {A B : Type 0} (K J : A → B → Type 0) → ((a : A) (b : B) → K a b → J a b) → (v : Verdict) (r : Reply A) (s : Reply B) → MeetsAt K v r s → MeetsAt J v r s
  at_looser K J h fine r (Read b rs us) m = (m.0, m.1, h m.0 b m.2)
  at_looser K J h fine r (Bad rs us) m = m
  at_looser K J h fine r (Deep rs us) m = m
  at_looser K J h (bad_at vs) r s m = m
  at_looser K J h (deep_at vs) r s m = m

  pub agrees_map : {A B : Type 0} {K J : A → B → Type 0} {e : Parser A} {l : Parser B} → ((a : A) (b : B) → K a b → J a b) → Agrees K e l → Agrees J e l
  agrees_map {K = K} {J = J} {e = e} {l = l} h m = record { at = λ ts. at_looser K J h (judged (records (l ts))) (e ts) (l ts) (m.at ts) }

  -- what is read is made into other values
  pub agrees_made : {A B A2 B2 : Type 0} {K : A → B → Type 0} {J : A2 → B2 → Type 0} {e : Parser A} {l : Parser B} (f : A → A2) (g : B → B2) → Agrees K e l → ((a : A) (b : B) → K a b → J (f a) (g b)) → Agrees J (bind e (λ a. ret (f a))) (bind l (λ b. ret (g b)))
  agrees_made f g m h = agrees_bind m (λ a b k. agrees_ret (h a b k))

  -- loops

  agrees_turned : {A B X Y : Type 0} (K : A → B → Type 0) (J : X → Y → Type 0) (f : Parser (Many A X)) (g : Parser (Many B Y)) → Agrees (ManyK K J) f g → (t : Turn A X) (u : Turn B Y) → TurnK K J t u → Agrees (ManyK K J) (turned f t) (turned g u)
  agrees_turned K J f g h (Again a) (Again b) k = agrees_bind h (λ m n q. agrees_ret ((k, q.0), q.1))
  agrees_turned K J f g h (Again a) (Stop y) k = absurd k
  agrees_turned K J f g h (Stop x) (Again b) k = absurd k
  agrees_turned K J f g h (Stop x) (Stop y) k = agrees_ret (tt, k)

  agrees_turns : {A B X Y : Type 0} (K : A → B → Type 0) (J : X → Y → Type 0) (f : Parser (Turn A X)) (g : Parser (Turn B Y)) → Agrees (TurnK K J) f g → (n : ℕ) → Agrees (ManyK K J) (turns f n) (turns g n)
  unfolding turns
  agrees_turns K J f g h zero = agrees_bad
  agrees_turns K J f g h (suc n) = agrees_bind h (agrees_turned K J (turns f n) (turns g n) (agrees_turns K J f g h n))

  pub agrees_loop : {A B X Y : Type 0} {K : A → B → Type 0} {J : X → Y → Type 0} {f : Parser (Turn A X)} {g : Parser (Turn B Y)} → Agrees (TurnK K J) f g → Agrees (ManyK K J) (loop f) (loop g)
  unfolding loop
  agrees_loop {K = K} {J = J} {f = f} {g = g} h = record { at = λ ts. (agrees_turns K J f g h (suc (length ts))).at ts }

  pub agrees_led : {A B X Y : Type 0} {K : A → B → Type 0} {J : X → Y → Type 0} {f : Parser (Turn A X)} {g : Parser (Turn B Y)} → Agrees (TurnK K J) f g → (a : A) (b : B) → K a b → Agrees (ManyK K J) (led f a) (led g b)
  agrees_led h a b k = agrees_bind (agrees_loop h) (λ m n q. agrees_ret ((k, q.0), q.1))
