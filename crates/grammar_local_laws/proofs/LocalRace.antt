-- Where the lexemes end before it is decided whether an arrow begins: what is read as a parenthesized expression and what
-- is read as an arrow's head have the same fault, or both run out.
use Rattle.std.proofs.Common.{◌≡◌, ◌≤◌, List, [], ◌∷◌, ◌++◌, length, refl, sym, ap, ◌∙◌, subst, arith, append_assoc, Bool, true, false, not, ◌&&◌, ◌||◌, Option, Some, None, inl, inr, ◌⊎◌}
use Rattle.script_grammar.specs.declared.token.mark.TheConstants as mark
use Rattle.script_grammar.specs.Lexeme.{Lexeme}
use Rattle.script_grammar.specs.Kinds.{is_mark}
use Rattle.script_grammar.specs.Pieces.{Opener, paren, open_behind, open_at_end}
use Rattle.grammar_parser_specs.specs.Parser.{Recorded, Reply, Read, Bad, Deep, Parser, head_of, noted, after, ret, bad, bind, step, when}
use Rattle.grammar_parser_specs.specs.Exprs.{expect, is_arrow, arrow_behind, arrow_opens, closed_case, only_params, params_case, is_between, begins_param}
use Rattle.grammar_parser_laws.proofs.Friendly.{Inside}
use Rattle.grammar_parser_laws.proofs.Tests.{mark_known}
use Rattle.grammar_parser_laws.proofs.Local.{Local, Same, out, kept, left, grown, grown_records, left_noted, after_shorter}
use Rattle.grammar_parser_laws.proofs.Sound.{Leads, Outcome}

-- The lexemes end while these brackets are open, or with the one that closes the last of them.

abbrev pub Next : Option (List Opener) → (List Opener → Type 0) → Type 0
Next None f = ⊥
Next (Some os) f = f os

abbrev pub RunsOut : List Opener → List Lexeme → Type 0
RunsOut os [] = Unit {0}
RunsOut [] (t ∷ ts) = ⊥
RunsOut (o ∷ os) (t ∷ ts) = Next (open_behind t.kind (o ∷ os)) (λ qs. RunsOut qs ts)

-- after lexemes that leave these open
pub runs_past : (w : List Lexeme) (os qs : List Opener) (zs : List Lexeme) → open_at_end os w ≡ Some qs → RunsOut os (w ++ zs) → RunsOut qs zs
runs_past [] os qs zs e h = subst (λ x. RunsOut x zs) (same os qs e) h
  where
    same : (os qs : List Opener) → ◌≡◌ {A = Option (List Opener)} (Some os) (Some qs) → os ≡ qs
    same os qs e = cc
runs_past (t ∷ w) [] qs zs e h = absurd h
runs_past (t ∷ w) (o ∷ os) qs zs e h = past (open_behind t.kind (o ∷ os)) (λ x k. runs_past w x qs zs k) e h
  where
    past : (b : Option (List Opener)) → ((x : List Opener) → open_at_end x w ≡ Some qs → RunsOut x (w ++ zs) → RunsOut qs zs) → (elim b [ None ↦ None | Some x ↦ open_at_end x w ]) ≡ Some qs → Next b (λ x. RunsOut x (w ++ zs)) → RunsOut qs zs
    past None i e h = absurd h
    past (Some x) i e h = i x e h

-- a closing parenthesis is the last lexeme
pub close_last : (c : Lexeme) (zs : List Lexeme) → is_mark mark.CLOSE_PAREN c.kind ≡ true → RunsOut (paren ∷ []) (c ∷ zs) → zs ≡ []
close_last c zs e h = none zs (subst (λ b. Next b (λ qs. RunsOut qs zs)) (ap (λ k. open_behind k (paren ∷ [])) (mark_known mark.CLOSE_PAREN c.kind e)) h)
  where
    none : (zs : List Lexeme) → RunsOut [] zs → zs ≡ []
    none [] h = refl
    none (z ∷ zs) h = absurd h

-- after a comma
pub comma_runs : (c : Lexeme) (zs : List Lexeme) → is_mark mark.COMMA c.kind ≡ true → RunsOut (paren ∷ []) (c ∷ zs) → RunsOut (paren ∷ []) zs
comma_runs c zs e h = subst (λ b. Next b (λ qs. RunsOut qs zs)) (ap (λ k. open_behind k (paren ∷ [])) (mark_known mark.COMMA c.kind e)) h

-- what is read leaves open what was
pub read_runs : {A : Type 0} {R S : List Lexeme → A → Type 0} {f : Parser A} (os : List Opener) → Leads Inside R S f → ((w : List Lexeme) (a : A) → R w a → open_at_end os w ≡ Some os) → (zs : List Lexeme) (a : A) (rs : List Recorded) (us : List Lexeme) → f zs ≡ Read a rs us → RunsOut os zs → RunsOut os us
read_runs {R = R} {S = S} os s k zs a rs us e h =
    let o : Outcome Inside R S zs (Read a rs us) = subst (λ r. Outcome Inside R S zs r) e (s.at zs) in
    runs_past o.front os os us (k o.front a o.is) (subst (λ x. RunsOut os x) o.split h)

-- whether an arrow begins is decided, or the lexemes end before

closes_at : (us q : List Lexeme) → (is_arrow (head_of (us ++ q)) ≡ is_arrow (head_of us)) ⊎ RunsOut [] us
closes_at [] q = inr tt
closes_at (u ∷ us) q = inl refl

behind_case : (b : Option (List Opener)) (us q : List Lexeme) → ((o : Opener) (os : List Opener) → (arrow_behind (o ∷ os) (us ++ q) ≡ arrow_behind (o ∷ os) us) ⊎ RunsOut (o ∷ os) us) → (closed_case b (is_arrow (head_of (us ++ q))) (λ qs. arrow_behind qs (us ++ q)) ≡ closed_case b (is_arrow (head_of us)) (λ qs. arrow_behind qs us)) ⊎ Next b (λ qs. RunsOut qs us)
behind_case None us q h = inl refl
behind_case (Some []) us q h = closes_at us q
behind_case (Some (x ∷ xs)) us q h = h x xs

pub behind_local : (o : Opener) (os : List Opener) (us q : List Lexeme) → (arrow_behind (o ∷ os) (us ++ q) ≡ arrow_behind (o ∷ os) us) ⊎ RunsOut (o ∷ os) us
behind_local o os [] q = inr tt
behind_local o os (t ∷ us) q = behind_case (open_behind t.kind (o ∷ os)) us q (λ x xs. behind_local x xs us q)

only_case : (b : Option (List Opener)) (t : Lexeme) (c : Bool) (us q : List Lexeme) → ((d : Bool) (o : Opener) (os : List Opener) → (only_params d (o ∷ os) (us ++ q) ≡ only_params d (o ∷ os) us) ⊎ RunsOut (o ∷ os) us) → (params_case b (not c || begins_param t (head_of (us ++ q))) (λ qs. only_params (is_between t.kind qs) qs (us ++ q)) ≡ params_case b (not c || begins_param t (head_of us)) (λ qs. only_params (is_between t.kind qs) qs us)) ⊎ Next b (λ qs. RunsOut qs us)
only_case None t c us q h = inl refl
only_case (Some []) t c us q h = inl refl
only_case (Some (x ∷ xs)) t c [] q h = inr tt
only_case (Some (x ∷ xs)) t c (u ∷ us) q h = elim (h (is_between t.kind (x ∷ xs)) x xs) [
  | inl e ↦ inl (ap (λ y. (not c || begins_param t u) && y) e)
  | inr r ↦ inr r
]

only_local : (b : Bool) (o : Opener) (os : List Opener) (us q : List Lexeme) → (only_params b (o ∷ os) (us ++ q) ≡ only_params b (o ∷ os) us) ⊎ RunsOut (o ∷ os) us
only_local b o os [] q = inr tt
only_local b o os (t ∷ us) q = only_case (open_behind t.kind (o ∷ os)) t b us q (λ d x xs. only_local d x xs us q)

pub opens_local : (us q : List Lexeme) → (arrow_opens (us ++ q) ≡ arrow_opens us) ⊎ RunsOut (paren ∷ []) us
opens_local us q = elim (behind_local paren [] us q) [
  | inr r ↦ inr r
  | inl e ↦ elim (only_local true paren [] us q) [
    | inr r ↦ inr r
    | inl f ↦ inl (ap (λ y. y && only_params true (paren ∷ []) (us ++ q)) e ∙ ap (λ y. arrow_behind (paren ∷ []) us && y) f)
  ]
]

runs_case : (b : Option (List Opener)) (us : List Lexeme) → ((o : Opener) (os : List Opener) → RunsOut (o ∷ os) us → arrow_behind (o ∷ os) us ≡ false) → Next b (λ qs. RunsOut qs us) → closed_case b (is_arrow (head_of us)) (λ qs. arrow_behind qs us) ≡ false
runs_case None us h r = refl
runs_case (Some []) [] h r = refl
runs_case (Some []) (u ∷ us) h r = absurd r
runs_case (Some (x ∷ xs)) us h r = h x xs r

pub runs_false : (o : Opener) (os : List Opener) (us : List Lexeme) → RunsOut (o ∷ os) us → arrow_behind (o ∷ os) us ≡ false
runs_false o os [] r = refl
runs_false o os (t ∷ us) r = runs_case (open_behind t.kind (o ∷ os)) us (λ x xs k. runs_false x xs us k) r

pub opens_false : (us : List Lexeme) → RunsOut (paren ∷ []) us → arrow_opens us ≡ false
opens_false us r = ap (λ y. y && only_params true (paren ∷ []) us) (runs_false paren [] us r)

-- what is read has no comma outside brackets
pub read_flat : {A : Type 0} {R S : List Lexeme → A → Type 0} {f : Parser A} → Leads Inside R S f → ((w : List Lexeme) (a : A) → R w a → (r : List Lexeme) → only_params false (paren ∷ []) (w ++ r) ≡ only_params false (paren ∷ []) r) → (zs q : List Lexeme) (a : A) (rs : List Recorded) (us : List Lexeme) → f zs ≡ Read a rs us → only_params false (paren ∷ []) (zs ++ q) ≡ only_params false (paren ∷ []) (us ++ q)
read_flat {R = R} {S = S} s k zs q a rs us e =
    let o : Outcome Inside R S zs (Read a rs us) = subst (λ r. Outcome Inside R S zs r) e (s.at zs) in
    ap (λ x. only_params false (paren ∷ []) (x ++ q)) o.split ∙ ap (only_params false (paren ∷ [])) (append_assoc o.front us q) ∙ k o.front a o.is (us ++ q)

-- Both have the same fault, or both run out.

pub data Race {A B : Type 0} (q : List Lexeme) (r : Reply A) (s : Reply B) : Type 0 where
  race_out : length (left r) ≡ 0 → length (left s) ≤ length q → Race q r s
  race_bad : (rs : List Recorded) (us : List Lexeme) → r ≡ Bad rs us → s ≡ Bad (grown_records q rs) (us ++ q) → Race q r s
  race_deep : (rs : List Recorded) (us : List Lexeme) → r ≡ Deep rs us → s ≡ Deep (grown_records q rs) (us ++ q) → Race q r s

pub race_same : {A : Type 0} (q : List Lexeme) (r s : Reply A) → Race q r s → Same q r s
race_same q r s (race_out z h) = out z h
race_same q r s (race_bad rs us e f) = kept (f ∙ sym (ap (λ x. grown q x) e))
race_same q r s (race_deep rs us e f) = kept (f ∙ sym (ap (λ x. grown q x) e))

pub race_left : {A A2 B : Type 0} (q : List Lexeme) (r : Reply A) (s : Reply B) (f : A → Parser A2) → ((a : A) → Local (f a)) → Race q r s → Race q (after r f) s
race_left q r s f l (race_out z h) = race_out (omega (arith, z, after_shorter f l r)) h
race_left q r s f l (race_bad rs us e k) = race_bad rs us (ap (λ x. after x f) e) k
race_left q r s f l (race_deep rs us e k) = race_deep rs us (ap (λ x. after x f) e) k

pub race_right : {A B B2 : Type 0} (q : List Lexeme) (r : Reply A) (s : Reply B) (f : B → Parser B2) → ((b : B) → Local (f b)) → Race q r s → Race q r (after s f)
race_right q r s f l (race_out z h) = race_out z (omega (arith, h, after_shorter f l s))
race_right q r s f l (race_bad rs us e k) = race_bad rs us e (ap (λ x. after x f) k)
race_right q r s f l (race_deep rs us e k) = race_deep rs us e (ap (λ x. after x f) k)

-- a reply that has read all that stands before these lexemes
abbrev pub IsRead : {A : Type 0} → List Lexeme → Reply A → Type 0
IsRead {A} q s = (a : A) × (rs : List Recorded) × (s ≡ Read a rs q)

-- where a reply has read anything
abbrev pub WhereRead : {A : Type 0} → Reply A → Type 0 → Type 0
WhereRead (Read a rs us) P = P
WhereRead (Bad rs us) P = Unit {0}
WhereRead (Deep rs us) P = Unit {0}

pub where_any : {A : Type 0} (r : Reply A) (P : Type 0) → P → WhereRead r P
where_any (Read a rs us) P p = p
where_any (Bad rs us) P p = tt
where_any (Deep rs us) P p = tt

where_bad : (A : Type 0) (rs qs : List Recorded) (us : List Lexeme) (P : Type 0) → WhereRead {A = A} (noted rs (Bad qs us)) P
where_bad A [] qs us P = tt
where_bad A (b ∷ rs) qs us P = tt

read_left : {A : Type 0} (q : List Lexeme) (s : Reply A) → IsRead q s → length (left s) ≤ length q
read_left q s h = omega (arith, ap (λ x. length (left x)) h.2)

-- The same before the closing parenthesis is read on the first side, and after it on the second.

pub data Close {A B : Type 0} (q : List Lexeme) (r : Reply A) (s : Reply B) : Type 0 where
  close_out : length (left r) ≡ 0 → length (left s) ≤ length q → Close q r s
  close_here : (a : A) (rs : List Recorded) (c : Lexeme) → r ≡ Read a rs (c ∷ []) → is_mark mark.CLOSE_PAREN c.kind ≡ true → IsRead q s → Close q r s
  close_stuck : (a : A) (rs : List Recorded) (y : Lexeme) (us : List Lexeme) → r ≡ Read a rs (y ∷ us) → is_mark mark.CLOSE_PAREN y.kind ≡ false → s ≡ grown q (noted rs (Bad [] (y ∷ us))) → Close q r s
  close_bad : (rs : List Recorded) (us : List Lexeme) → r ≡ Bad rs us → s ≡ Bad (grown_records q rs) (us ++ q) → Close q r s
  close_deep : (rs : List Recorded) (us : List Lexeme) → r ≡ Deep rs us → s ≡ Deep (grown_records q rs) (us ++ q) → Close q r s

pub expect_close : (c : Lexeme) (us : List Lexeme) → is_mark mark.CLOSE_PAREN c.kind ≡ true → expect mark.CLOSE_PAREN (c ∷ us) ≡ Read tt [] us
unfolding expect
expect_close c us e = ap (λ b. when b (step (ret tt)) bad (c ∷ us)) e

pub expect_stuck : (y : Lexeme) (us : List Lexeme) → is_mark mark.CLOSE_PAREN y.kind ≡ false → expect mark.CLOSE_PAREN (y ∷ us) ≡ Bad [] (y ∷ us)
unfolding expect
expect_stuck y us e = ap (λ b. when b (step (ret tt)) bad (y ∷ us)) e

-- then the closing parenthesis is read on the first side
pub close_race : {A A2 B : Type 0} (q : List Lexeme) (r : Reply A) (s : Reply B) (g : A → A2) → ((a : A) → Local (bind (expect mark.CLOSE_PAREN) (λ _. ret (g a)))) → Close q r s → Race q (after r (λ a. bind (expect mark.CLOSE_PAREN) (λ _. ret (g a)))) s
close_race q r s g l (close_out z h) = race_out (omega (arith, z, after_shorter (λ a. bind (expect mark.CLOSE_PAREN) (λ _. ret (g a))) l r)) h
close_race q r s g l (close_here a rs c e k h) = race_out (ap (λ x. length (left (after x (λ a. bind (expect mark.CLOSE_PAREN) (λ _. ret (g a)))))) e ∙ ap length (left_noted rs _) ∙ ap (λ x. length (left (after x (λ _. ret (g a))))) (expect_close c [] k)) (read_left q s h)
close_race {A2 = A2} q r s g l (close_stuck a rs y us e k f) = stuck_race q rs (y ∷ us) (ap (λ x. after x (λ a. bind (expect mark.CLOSE_PAREN) (λ _. ret (g a)))) e ∙ ap (λ x. noted rs (after x (λ _. ret (g a)))) (expect_stuck y us k)) f
  where
    stuck_race : (q : List Lexeme) (rs : List Recorded) (us : List Lexeme) → after r (λ a. bind (expect mark.CLOSE_PAREN) (λ _. ret (g a))) ≡ noted rs (Bad [] us) → s ≡ grown q (noted rs (Bad [] us)) → Race q (after r (λ a. bind (expect mark.CLOSE_PAREN) (λ _. ret (g a)))) s
    stuck_race q [] us e f = race_bad [] us e f
    stuck_race q (b ∷ rs) us e f = race_bad ((b ∷ rs) ++ []) us e f
close_race q r s g l (close_bad rs us e f) = race_bad rs us (ap (λ x. after x (λ a. bind (expect mark.CLOSE_PAREN) (λ _. ret (g a)))) e) f
close_race q r s g l (close_deep rs us e f) = race_deep rs us (ap (λ x. after x (λ a. bind (expect mark.CLOSE_PAREN) (λ _. ret (g a)))) e) f

-- and where the first side reads all that, so does the second
pub close_reads : {A A2 B : Type 0} (q : List Lexeme) (r : Reply A) (s : Reply B) (g : A → A2) → Close q r s → WhereRead (after r (λ a. bind (expect mark.CLOSE_PAREN) (λ _. ret (g a)))) (IsRead q s)
unfolding expect
close_reads {A} {A2} {B} q r s g c = by c
  where
    at_end : (x : Reply A) → length (left x) ≡ 0 → WhereRead (after x (λ a. bind (expect mark.CLOSE_PAREN) (λ _. ret (g a)))) (IsRead q s)
    at_end (Read a rs []) z = where_bad A2 rs [] [] (IsRead q s)
    at_end (Read a rs (u ∷ us)) z = absurd (omega (arith, z))
    at_end (Bad rs us) z = tt
    at_end (Deep rs us) z = tt

    by : Close q r s → WhereRead (after r (λ a. bind (expect mark.CLOSE_PAREN) (λ _. ret (g a)))) (IsRead q s)
    by (close_out z h) = at_end r z
    by (close_here a rs c e k h) = where_any (after r (λ a. bind (expect mark.CLOSE_PAREN) (λ _. ret (g a)))) (IsRead q s) h
    by (close_stuck a rs y us e k f) = subst (λ x. WhereRead x (IsRead q s)) (sym (ap (λ x. after x (λ a. bind (expect mark.CLOSE_PAREN) (λ _. ret (g a)))) e ∙ ap (λ x. noted rs (after x (λ _. ret (g a)))) (expect_stuck y us k))) (where_bad A2 rs [] (y ∷ us) (IsRead q s))
    by (close_bad rs us e f) = subst (λ x. WhereRead x (IsRead q s)) (sym (ap (λ x. after x (λ a. bind (expect mark.CLOSE_PAREN) (λ _. ret (g a)))) e)) tt
    by (close_deep rs us e f) = subst (λ x. WhereRead x (IsRead q s)) (sym (ap (λ x. after x (λ a. bind (expect mark.CLOSE_PAREN) (λ _. ret (g a)))) e)) tt
