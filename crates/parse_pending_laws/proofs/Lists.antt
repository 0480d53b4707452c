-- What was read lists the bodies that were recorded: of two parsers that differ in how they read braced bodies the one reads
-- them in place, and the other passes them over and records them. Where no recorded body has a fault, both read, and the
-- recorded bodies, read in place, are those of what the first read, in the order of the source.
use Rattle.std.proofs.Common.{◌≡◌, ℕ, zero, suc, List, [], ◌∷◌, ◌++◌, length, refl, sym, ap, ◌∙◌, subst, Bool, true, false, Option, None, Some}
use Rattle.script_grammar.specs.declared.token.Kind.{Kind}
use Rattle.script_grammar.specs.Lexeme.{Lexeme}
use Rattle.script_grammar.specs.Tree.{Stmts}
use Rattle.grammar_parser_specs.specs.Parser.{Recorded, Reply, Read, Bad, Deep, Parser, head_of, rest_of, noted, after, ret, bad, deep, bind, peek, step, when, no_room, Turn, Again, Stop, turned, turns, loop, Many, led, begun, stopped}
use Rattle.grammar_parser_specs.specs.Exprs.{BodyRead}
use Rattle.grammar_local_laws.proofs.Agrees.{Verdict, fine, bad_at, deep_at, records, judged, judged_append, judged_bad, judged_deep, TurnK, ManyK}
use Rattle.script_grammar.specs.Braced.{in_body}

-- the bodies in something that was read, before others
abbrev pub Bodies : Type 0 → Type 0
Bodies A = A → List Stmts → List Stmts

-- no bodies before these
abbrev pub as_is : List Stmts → List Stmts
as_is r = r

abbrev pub in_none : {A : Type 0} → Bodies A
in_none a r = r

abbrev pub in_turn : {A X : Type 0} → Bodies A → Bodies X → Bodies (Turn A X)
in_turn f g (Again a) r = f a r
in_turn f g (Stop x) r = g x r

abbrev pub in_list : {A : Type 0} → Bodies A → Bodies (List A)
in_list f [] r = r
in_list f (a ∷ as_) r = f a (in_list f as_ r)

abbrev pub in_option : {A : Type 0} → Bodies A → Bodies (Option A)
in_option f None r = r
in_option f (Some a) r = f a r

abbrev pub in_many : {A X : Type 0} → Bodies A → Bodies X → Bodies (Many A X)
in_many f g m r = in_list f m.items (g m.last r)

-- a body that was read, before these
abbrev pub in_read : Bool → Reply BodyRead → List Stmts → List Stmts
in_read nested (Read b rs us) r = in_body nested b.body r
in_read nested (Bad rs us) r = r
in_read nested (Deep rs us) r = r

-- Over whether the bodies inside a body are wanted too, and how a recorded body is read in place.
module _ (nested : Bool) (judge : Recorded → Reply BodyRead) where
  -- the recorded bodies, before these
  abbrev pub in_records : List Recorded → List Stmts → List Stmts
  in_records [] r = r
  in_records (b ∷ rs) r = in_read nested (judge b) (in_records rs r)

  -- The reply of the parser that reads in place, by the verdict on what the other recorded, and by its reply. Where both
  -- read, the bodies in what was read are those that were known before, and those that were recorded.
  abbrev pub ListsAt : {A B : Type 0} → (A → B → Type 0) → (List Stmts → List Stmts) → Bodies A → Verdict → Reply A → Reply B → Type 0
  ListsAt K pre w (bad_at vs) r s = r ≡ Bad [] vs
  ListsAt K pre w (deep_at vs) r s = r ≡ Deep [] vs
  ListsAt {A} K pre w fine r (Read b rs us) = (a : A) × (r ≡ Read a [] us) × K a b × ((r : List Stmts) → pre (in_records rs r) ≡ w a r)
  ListsAt K pre w fine r (Bad rs us) = r ≡ Bad [] us
  ListsAt K pre w fine r (Deep rs us) = r ≡ Deep [] us

  pub record Lists {A B : Type 0} (K : A → B → Type 0) (pre : List Stmts → List Stmts) (w : Bodies A) (e : Parser A) (l : Parser B) : Type 0 where
    pub at : (ts : List Lexeme) → ListsAt K pre w (judged judge (records (l ts))) (e ts) (l ts)

  pub in_append : (rs qs : List Recorded) (r : List Stmts) → in_records (rs ++ qs) r ≡ in_records rs (in_records qs r)
  in_append [] qs r = refl
  in_append (b ∷ rs) qs r = ap (in_read nested (judge b)) (in_append rs qs r)

  records_noted : {B : Type 0} (rs : List Recorded) (s : Reply B) → records (noted rs s) ≡ rs ++ records s
  records_noted [] s = refl
  records_noted (b ∷ rs) (Read a qs us) = refl
  records_noted (b ∷ rs) (Bad qs us) = refl
  records_noted (b ∷ rs) (Deep qs us) = refl

  -- records that are fine, before a reply: their bodies were known before
  at_noted : {A B : Type 0} (K : A → B → Type 0) (pre : List Stmts → List Stmts) (w : Bodies A) (v : Verdict) (r : Reply A) (rs : List Recorded) (s : Reply B) → ListsAt K (λ x. pre (in_records rs x)) w v r s → ListsAt K pre w v r (noted rs s)
  at_noted K pre w v r [] s m = m
  at_noted K pre w (bad_at vs) r (b ∷ rs) s m = m
  at_noted K pre w (deep_at vs) r (b ∷ rs) s m = m
  at_noted K pre w fine r (b ∷ rs) (Read a qs us) m = (m.0, m.1, m.2, λ x. ap pre (in_append (b ∷ rs) qs x) ∙ m.3 x)
  at_noted K pre w fine r (b ∷ rs) (Bad qs us) m = m
  at_noted K pre w fine r (b ∷ rs) (Deep qs us) m = m

  lists_noted : {A B : Type 0} (K : A → B → Type 0) (pre : List Stmts → List Stmts) (w : Bodies A) (r : Reply A) (rs : List Recorded) (s : Reply B) → judged judge rs ≡ fine → ListsAt K (λ x. pre (in_records rs x)) w (judged judge (records s)) r s → ListsAt K pre w (judged judge (records (noted rs s))) r (noted rs s)
  lists_noted K pre w r rs s h m = subst (λ v. ListsAt K pre w v r (noted rs s)) (sym (ap (judged judge) (records_noted rs s) ∙ judged_append judge rs (records s) h)) (at_noted K pre w (judged judge (records s)) r rs s m)

  -- what is known before can be told otherwise
  at_same : {A B : Type 0} (K : A → B → Type 0) (pre pre2 : List Stmts → List Stmts) (w : Bodies A) → ((x : List Stmts) → pre x ≡ pre2 x) → (v : Verdict) (r : Reply A) (s : Reply B) → ListsAt K pre2 w v r s → ListsAt K pre w v r s
  at_same K pre pre2 w h fine r (Read b rs us) m = (m.0, m.1, m.2, λ x. h (in_records rs x) ∙ m.3 x)
  at_same K pre pre2 w h fine r (Bad rs us) m = m
  at_same K pre pre2 w h fine r (Deep rs us) m = m
  at_same K pre pre2 w h (bad_at vs) r s m = m
  at_same K pre pre2 w h (deep_at vs) r s m = m

  module _ {A B A2 B2 : Type 0} (K : A → B → Type 0) (J : A2 → B2 → Type 0) (pre : List Stmts → List Stmts) (w : Bodies A) (w2 : Bodies A2) (f : A → Parser A2) (g : B → Parser B2) (h : (a : A) (b : B) → K a b → Lists J (w a) w2 (f a) (g b)) where
    read_after : (r : Reply A) (b : B) (rs : List Recorded) (us : List Lexeme) (v : Verdict) → judged judge rs ≡ v → ListsAt K pre w v r (Read b rs us) → ListsAt J pre w2 (judged judge (records (noted rs (g b us)))) (after r f) (noted rs (g b us))
    read_after r b rs us fine e m = subst (λ x. ListsAt J pre w2 (judged judge (records (noted rs (g b us)))) (after x f) (noted rs (g b us))) (sym m.1) (lists_noted J pre w2 (f m.0 us) rs (g b us) e (at_same J (λ x. pre (in_records rs x)) (w m.0) w2 m.3 (judged judge (records (g b us))) (f m.0 us) (g b us) ((h m.0 b m.2).at us)))
    read_after r b rs us (bad_at vs) e m = subst (λ v. ListsAt J pre w2 v (after r f) (noted rs (g b us))) (sym (ap (judged judge) (records_noted rs (g b us)) ∙ judged_bad judge rs (records (g b us)) vs e)) (ap (λ x. after x f) m)
    read_after r b rs us (deep_at vs) e m = subst (λ v. ListsAt J pre w2 v (after r f) (noted rs (g b us))) (sym (ap (judged judge) (records_noted rs (g b us)) ∙ judged_deep judge rs (records (g b us)) vs e)) (ap (λ x. after x f) m)

    bad_after : (r : Reply A) (rs : List Recorded) (us : List Lexeme) (v : Verdict) → ListsAt K pre w v r (Bad rs us) → ListsAt J pre w2 v (after r f) (Bad rs us)
    bad_after r rs us fine m = ap (λ x. after x f) m
    bad_after r rs us (bad_at vs) m = ap (λ x. after x f) m
    bad_after r rs us (deep_at vs) m = ap (λ x. after x f) m

    deep_after : (r : Reply A) (rs : List Recorded) (us : List Lexeme) (v : Verdict) → ListsAt K pre w v r (Deep rs us) → ListsAt J pre w2 v (after r f) (Deep rs us)
    deep_after r rs us fine m = ap (λ x. after x f) m
    deep_after r rs us (bad_at vs) m = ap (λ x. after x f) m
    deep_after r rs us (deep_at vs) m = ap (λ x. after x f) m

    after_lists : (r : Reply A) (s : Reply B) → ListsAt K pre w (judged judge (records s)) r s → ListsAt J pre w2 (judged judge (records (after s g))) (after r f) (after s g)
    after_lists r (Read b rs us) m = read_after r b rs us (judged judge rs) refl m
    after_lists r (Bad rs us) m = bad_after r rs us (judged judge rs) m
    after_lists r (Deep rs us) m = deep_after r rs us (judged judge rs) m

  pub lists_bind : {A B A2 B2 : Type 0} {K : A → B → Type 0} {J : A2 → B2 → Type 0} {pre : List Stmts → List Stmts} {w : Bodies A} {w2 : Bodies A2} {e : Parser A} {l : Parser B} {f : A → Parser A2} {g : B → Parser B2} → Lists K pre w e l → ((a : A) (b : B) → K a b → Lists J (w a) w2 (f a) (g b)) → Lists J pre w2 (bind e f) (bind l g)
  lists_bind {K = K} {J = J} {pre = pre} {w = w} {w2 = w2} {e = e} {l = l} {f = f} {g = g} m h = record { at = λ ts. after_lists K J pre w w2 f g h (e ts) (l ts) (m.at ts) }

  pub lists_ret : {A B : Type 0} {K : A → B → Type 0} {pre : List Stmts → List Stmts} {w : Bodies A} (a : A) (b : B) → K a b → ((r : List Stmts) → pre r ≡ w a r) → Lists K pre w (ret a) (ret b)
  lists_ret a b k q = record { at = λ ts. (a, refl, k, q) }

  pub lists_bad : {A B : Type 0} {K : A → B → Type 0} {pre : List Stmts → List Stmts} {w : Bodies A} → Lists K pre w bad bad
  lists_bad = record { at = λ ts. refl }

  pub lists_deep : {A B : Type 0} {K : A → B → Type 0} {pre : List Stmts → List Stmts} {w : Bodies A} → Lists K pre w deep deep
  lists_deep = record { at = λ ts. refl }

  pub lists_peek : {A B : Type 0} {K : A → B → Type 0} {pre : List Stmts → List Stmts} {w : Bodies A} {f : Lexeme → Parser A} {g : Lexeme → Parser B} → ((t : Lexeme) → Lists K pre w (f t) (g t)) → Lists K pre w (peek f) (peek g)
  lists_peek h = record { at = λ ts. (h (head_of ts)).at ts }

  pub lists_step : {A B : Type 0} {K : A → B → Type 0} {pre : List Stmts → List Stmts} {w : Bodies A} {f : Parser A} {g : Parser B} → Lists K pre w f g → Lists K pre w (step f) (step g)
  lists_step h = record { at = λ ts. h.at (rest_of ts) }

  lists_bool : {A B : Type 0} (K : A → B → Type 0) (pre : List Stmts → List Stmts) (w : Bodies A) (f f2 : Parser A) (g g2 : Parser B) (b c : Bool) → c ≡ b → (b ≡ true → Lists K pre w f g) → (b ≡ false → Lists K pre w f2 g2) → Lists K pre w (when b f f2) (when c g g2)
  lists_bool K pre w f f2 g g2 true c e h k = subst (λ x. Lists K pre w f (when x g g2)) (sym e) (h refl)
  lists_bool K pre w f f2 g g2 false c e h k = subst (λ x. Lists K pre w f2 (when x g g2)) (sym e) (k refl)

  -- the same test in both
  pub lists_when : {A B : Type 0} {K : A → B → Type 0} {pre : List Stmts → List Stmts} {w : Bodies A} {f f2 : Parser A} {g g2 : Parser B} (b : Bool) → Lists K pre w f g → Lists K pre w f2 g2 → Lists K pre w (when b f f2) (when b g g2)
  lists_when {K = K} {pre = pre} {w = w} {f = f} {f2 = f2} {g = g} {g2 = g2} b h k = lists_bool K pre w f f2 g g2 b b refl (λ _. h) (λ _. k)

  -- tests that have one answer
  pub lists_if : {A B : Type 0} {K : A → B → Type 0} {pre : List Stmts → List Stmts} {w : Bodies A} {f f2 : Parser A} {g g2 : Parser B} (b c : Bool) → c ≡ b → Lists K pre w f g → Lists K pre w f2 g2 → Lists K pre w (when b f f2) (when c g g2)
  lists_if {K = K} {pre = pre} {w = w} {f = f} {f2 = f2} {g = g} {g2 = g2} b c e h k = lists_bool K pre w f f2 g g2 b c e (λ _. h) (λ _. k)

  pub lists_no_room : {A B : Type 0} {K : A → B → Type 0} {pre : List Stmts → List Stmts} {w : Bodies A} (begins : Kind → Bool) → Lists K pre w (no_room begins) (no_room begins)
  lists_no_room begins = lists_peek (λ t. lists_when (begins t.kind) lists_deep lists_bad)

  -- what is read is made into other values
  pub lists_made : {A B A2 B2 : Type 0} {K : A → B → Type 0} {J : A2 → B2 → Type 0} {pre : List Stmts → List Stmts} {w : Bodies A} {w2 : Bodies A2} {e : Parser A} {l : Parser B} (f : A → A2) (g : B → B2) → Lists K pre w e l → ((a : A) (b : B) → K a b → J (f a) (g b)) → ((a : A) (r : List Stmts) → w a r ≡ w2 (f a) r) → Lists J pre w2 (bind e (λ a. ret (f a))) (bind l (λ b. ret (g b)))
  lists_made f g m h q = lists_bind m (λ a b k. lists_ret (f a) (g b) (h a b k) (q a))

  at_behind : {A B : Type 0} (K : A → B → Type 0) (before pre : List Stmts → List Stmts) (w : Bodies A) (v : Verdict) (r : Reply A) (s : Reply B) → ListsAt K pre w v r s → ListsAt K (λ x. before (pre x)) (λ a x. before (w a x)) v r s
  at_behind K before pre w fine r (Read b rs us) m = (m.0, m.1, m.2, λ x. ap before (m.3 x))
  at_behind K before pre w fine r (Bad rs us) m = m
  at_behind K before pre w fine r (Deep rs us) m = m
  at_behind K before pre w (bad_at vs) r s m = m
  at_behind K before pre w (deep_at vs) r s m = m

  -- what is read after what these bodies are in
  pub lists_behind : {A B : Type 0} {K : A → B → Type 0} {pre : List Stmts → List Stmts} {w : Bodies A} {e : Parser A} {l : Parser B} (before : List Stmts → List Stmts) → Lists K pre w e l → Lists K (λ x. before (pre x)) (λ a x. before (w a x)) e l
  lists_behind {K = K} {pre = pre} {w = w} {e = e} {l = l} before m = record { at = λ ts. at_behind K before pre w (judged judge (records (l ts))) (e ts) (l ts) (m.at ts) }

  pub lists_known : {A B : Type 0} {K : A → B → Type 0} {pre pre2 : List Stmts → List Stmts} {w : Bodies A} {e : Parser A} {l : Parser B} → ((x : List Stmts) → pre x ≡ pre2 x) → Lists K pre2 w e l → Lists K pre w e l
  lists_known {K = K} {pre = pre} {pre2 = pre2} {w = w} {e = e} {l = l} h m = record { at = λ ts. at_same K pre pre2 w h (judged judge (records (l ts))) (e ts) (l ts) (m.at ts) }

  at_looser : {A B : Type 0} (K J : A → B → Type 0) (pre : List Stmts → List Stmts) (w : Bodies A) → ((a : A) (b : B) → K a b → J a b) → (v : Verdict) (r : Reply A) (s : Reply B) → ListsAt K pre w v r s → ListsAt J pre w v r s
  at_looser K J pre w h fine r (Read b rs us) m = (m.0, m.1, h m.0 b m.2, m.3)
  at_looser K J pre w h fine r (Bad rs us) m = m
  at_looser K J pre w h fine r (Deep rs us) m = m
  at_looser K J pre w h (bad_at vs) r s m = m
  at_looser K J pre w h (deep_at vs) r s m = m

  pub lists_map : {A B : Type 0} {K J : A → B → Type 0} {pre : List Stmts → List Stmts} {w : Bodies A} {e : Parser A} {l : Parser B} → ((a : A) (b : B) → K a b → J a b) → Lists K pre w e l → Lists J pre w e l
  lists_map {K = K} {J = J} {pre = pre} {w = w} {e = e} {l = l} h m = record { at = λ ts. at_looser K J pre w h (judged judge (records (l ts))) (e ts) (l ts) (m.at ts) }

  -- the same, where what is read first is known by itself

  pub lists_then : {A B A2 B2 : Type 0} {K : A → B → Type 0} {J : A2 → B2 → Type 0} {pre : List Stmts → List Stmts} {w : Bodies A} {w2 : Bodies A2} {e : Parser A} {l : Parser B} {f : A → Parser A2} {g : B → Parser B2} → Lists K as_is w e l → ((a : A) (b : B) → K a b → Lists J (λ r. pre (w a r)) w2 (f a) (g b)) → Lists J pre w2 (bind e f) (bind l g)
  lists_then {pre = pre} m h = lists_bind (lists_behind pre m) h

  pub lists_more : {A B A2 B2 : Type 0} {K : A → B → Type 0} {J : A2 → B2 → Type 0} {pre : List Stmts → List Stmts} {w : Bodies A} {w2 : Bodies A2} {e : Parser A} {l : Parser B} (f : A → A2) (g : B → B2) → Lists K as_is w e l → ((a : A) (b : B) → K a b → J (f a) (g b)) → ((a : A) (r : List Stmts) → pre (w a r) ≡ w2 (f a) r) → Lists J pre w2 (bind e (λ a. ret (f a))) (bind l (λ b. ret (g b)))
  lists_more {pre = pre} f g m h q = lists_made f g (lists_behind pre m) h q

  -- loops

  lists_turned : {A B X Y : Type 0} (K : A → B → Type 0) (J : X → Y → Type 0) (w : Bodies A) (x : Bodies X) (f : Parser (Many A X)) (g : Parser (Many B Y)) → Lists (ManyK K J) as_is (in_many w x) f g → (t : Turn A X) (u : Turn B Y) → TurnK K J t u → Lists (ManyK K J) (in_turn w x t) (in_many w x) (turned f t) (turned g u)
  lists_turned K J w x f g h (Again a) (Again b) k = lists_bind (lists_behind (w a) h) (λ m n q. lists_ret (begun a m) (begun b n) ((k, q.0), q.1) (λ r. refl))
  lists_turned K J w x f g h (Again a) (Stop y) k = absurd k
  lists_turned K J w x f g h (Stop z) (Again b) k = absurd k
  lists_turned K J w x f g h (Stop z) (Stop y) k = lists_ret (stopped z) (stopped y) (tt, k) (λ r. refl)

  lists_turns : {A B X Y : Type 0} (K : A → B → Type 0) (J : X → Y → Type 0) (w : Bodies A) (x : Bodies X) (f : Parser (Turn A X)) (g : Parser (Turn B Y)) → Lists (TurnK K J) as_is (in_turn w x) f g → (n : ℕ) → Lists (ManyK K J) as_is (in_many w x) (turns f n) (turns g n)
  unfolding turns
  lists_turns K J w x f g h zero = lists_bad
  lists_turns K J w x f g h (suc n) = lists_bind h (lists_turned K J w x (turns f n) (turns g n) (lists_turns K J w x f g h n))

  pub lists_loop : {A B X Y : Type 0} {K : A → B → Type 0} {J : X → Y → Type 0} {w : Bodies A} {x : Bodies X} {f : Parser (Turn A X)} {g : Parser (Turn B Y)} → Lists (TurnK K J) as_is (in_turn w x) f g → Lists (ManyK K J) as_is (in_many w x) (loop f) (loop g)
  unfolding loop
  lists_loop {K = K} {J = J} {w = w} {x = x} {f = f} {g = g} h = record { at = λ ts. (lists_turns K J w x f g h (suc (length ts))).at ts }

  pub lists_led : {A B X Y : Type 0} {K : A → B → Type 0} {J : X → Y → Type 0} {w : Bodies A} {x : Bodies X} {f : Parser (Turn A X)} {g : Parser (Turn B Y)} → Lists (TurnK K J) as_is (in_turn w x) f g → (a : A) (b : B) → K a b → Lists (ManyK K J) (w a) (in_many w x) (led f a) (led g b)
  lists_led h a b k = lists_bind (lists_behind _ (lists_loop h)) (λ m n q. lists_ret _ _ ((k, q.0), q.1) (λ r. refl))
