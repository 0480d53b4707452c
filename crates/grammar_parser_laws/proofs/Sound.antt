-- What is read stands in a relation to the lexemes that were read; and where a fault comes, some more lexemes would
-- complete what was read. This is the form for what does not depend on the lexeme after it.
-- A part at the front reads at least one lexeme, and where it has read none before a fault, the end that mends it begins
-- with a number before which any semicolon may be left unwritten.
use Rattle.std.proofs.Common.{◌≡◌, ℕ, zero, suc, List, [], ◌∷◌, ◌++◌, length, refl, sym, ap, ◌∙◌, subst, append_assoc, append-nil, Bool, true, false}
use Rattle.script_grammar.specs.declared.token.Kind.{Kind}
use Rattle.script_grammar.specs.declared.token.Kind.TheVariants as kind
use Rattle.script_grammar.specs.declared.token.FuncForm.{FuncForm}
use Rattle.script_grammar.specs.Lexeme.{Lexeme}
use Rattle.grammar_parser_specs.specs.Parser.{Recorded, Reply, Read, Bad, Deep, Parser, head_of, put_before, noted, after, ret, bad, deep, bind, peek, step, when, note, no_room, Turn, Again, Stop, turned, turns, loop, Many, stopped, begun}
use Rattle.grammar_parser_laws.proofs.Friendly.{Starter, Spot, AtFront, Inside}

-- what a part at this spot has read is not nothing, where it stands at the front
abbrev pub Reads : Spot → List Lexeme → Type 0
Reads Inside w = Unit {0}
Reads AtFront [] = ⊥
Reads AtFront (t ∷ w) = Unit {0}

-- how the end begins that mends a part at this spot
abbrev pub Starts : Spot → List Lexeme → List Lexeme → Type 0
Starts Inside front end = Unit {0}
Starts AtFront (u ∷ front) end = Unit {0}
Starts AtFront [] [] = ⊥
Starts AtFront [] (t ∷ end) = Starter t

pub record Took {A : Type 0} (p : Spot) (R : List Lexeme → A → Type 0) (ts : List Lexeme) (a : A) (us : List Lexeme) : Type 0 where
  pub front : List Lexeme
  pub split : ts ≡ front ++ us
  pub some : Reads p front
  pub is : R front a

-- some lexemes complete what was read
pub record Ended {A : Type 0} (p : Spot) (R : List Lexeme → A → Type 0) (ts us : List Lexeme) : Type 0 where
  pub front : List Lexeme
  pub split : ts ≡ front ++ us
  pub end : List Lexeme
  pub of : A
  pub starts : Starts p front end
  pub is : R (front ++ end) of

-- some lexemes complete what was read and the next lexeme
pub record Sunk {A : Type 0} (R : List Lexeme → A → Type 0) (ts us : List Lexeme) : Type 0 where
  pub front : List Lexeme
  pub split : ts ≡ front ++ us
  pub token : Lexeme
  pub behind : List Lexeme
  pub first : us ≡ token ∷ behind
  pub end : List Lexeme
  pub of : A
  pub is : R (front ++ token ∷ end) of

-- R is what is read; S is what the end makes of a fault
abbrev pub Outcome : {A : Type 0} → Spot → (R S : List Lexeme → A → Type 0) → List Lexeme → Reply A → Type 0
Outcome p R S ts (Read a rs us) = Took p R ts a us
Outcome p R S ts (Bad rs us) = Ended p S ts us
Outcome p R S ts (Deep rs us) = Sunk S ts us

pub record Leads {A : Type 0} (p : Spot) (R S : List Lexeme → A → Type 0) (f : Parser A) : Type 0 where
  pub at : (ts : List Lexeme) → Outcome p R S ts (f ts)

-- the usual case
abbrev pub Sound : {A : Type 0} → Spot → (List Lexeme → A → Type 0) → Parser A → Type 0
Sound p R f = Leads p R R f

-- some lexemes that are read
pub record Mended {A : Type 0} (p : Spot) (R : List Lexeme → A → Type 0) : Type 0 where
  pub end : List Lexeme
  pub of : A
  pub starts : Starts p [] end
  pub is : R end of

outcome_some : {A : Type 0} (R S : List Lexeme → A → Type 0) → ((w : List Lexeme) (a : A) → R w a → S w a) → (ts : List Lexeme) (r : Reply A) → Outcome Inside R S ts r → Mended Inside S
outcome_some R S f ts (Read a rs us) o = record { end = o.front; of = a; starts = tt; is = f o.front a o.is }
outcome_some R S f ts (Bad rs us) o = record { end = o.front ++ o.end; of = o.of; starts = tt; is = o.is }
outcome_some R S f ts (Deep rs us) o = record { end = o.front ++ o.token ∷ o.end; of = o.of; starts = tt; is = o.is }

pub leads_some : {A : Type 0} {R S : List Lexeme → A → Type 0} {f : Parser A} → ((w : List Lexeme) (a : A) → R w a → S w a) → Leads Inside R S f → Mended Inside S
leads_some {R = R} {S = S} {f = f} h s = outcome_some R S h [] (f []) (s.at [])

pub sound_some : {A : Type 0} {R : List Lexeme → A → Type 0} {f : Parser A} → Sound Inside R f → Mended Inside R
sound_some s = leads_some (λ w a h. h) s

outcome_map : {A : Type 0} (p : Spot) (R S Rnew Snew : List Lexeme → A → Type 0) → ((w : List Lexeme) (a : A) → R w a → Rnew w a) → ((w : List Lexeme) (a : A) → S w a → Snew w a) → (ts : List Lexeme) (r : Reply A) → Outcome p R S ts r → Outcome p Rnew Snew ts r
outcome_map p R S Rnew Snew f g ts (Read a rs us) o = record { front = o.front; split = o.split; some = o.some; is = f _ _ o.is }
outcome_map p R S Rnew Snew f g ts (Bad rs us) o = record { front = o.front; split = o.split; end = o.end; of = o.of; starts = o.starts; is = g _ _ o.is }
outcome_map p R S Rnew Snew f g ts (Deep rs us) o = record { front = o.front; split = o.split; token = o.token; behind = o.behind; first = o.first; end = o.end; of = o.of; is = g _ _ o.is }

pub leads_map : {A : Type 0} {p : Spot} {R S Rnew Snew : List Lexeme → A → Type 0} {f : Parser A} → ((w : List Lexeme) (a : A) → R w a → Rnew w a) → ((w : List Lexeme) (a : A) → S w a → Snew w a) → Leads p R S f → Leads p Rnew Snew f
leads_map {p = p} {R = R} {S = S} {Rnew = Rnew} {Snew = Snew} {f = f} m k s = record { at = λ ts. outcome_map p R S Rnew Snew m k ts (f ts) (s.at ts) }

pub sound_map : {A : Type 0} {p : Spot} {R S : List Lexeme → A → Type 0} {f : Parser A} → ((w : List Lexeme) (a : A) → R w a → S w a) → Sound p R f → Sound p S f
sound_map m s = leads_map m m s

pub inside_outcome : {A : Type 0} (R S : List Lexeme → A → Type 0) (ts : List Lexeme) (r : Reply A) → Outcome AtFront R S ts r → Outcome Inside R S ts r
inside_outcome R S ts (Read a rs us) o = record { front = o.front; split = o.split; some = tt; is = o.is }
inside_outcome R S ts (Bad rs us) o = record { front = o.front; split = o.split; end = o.end; of = o.of; starts = tt; is = o.is }
inside_outcome R S ts (Deep rs us) o = o

-- what may stand at the front may stand inside
pub sound_inside : {A : Type 0} {R S : List Lexeme → A → Type 0} {f : Parser A} → Leads AtFront R S f → Leads Inside R S f
sound_inside {R = R} {S = S} {f = f} s = record { at = λ ts. inside_outcome R S ts (f ts) (s.at ts) }

-- what stands after lexemes that were read before
abbrev pub Behind : {A : Type 0} → List Lexeme → (List Lexeme → A → Type 0) → List Lexeme → A → Type 0
Behind w R v a = R (w ++ v) a

pub reads_append : (p : Spot) (w v : List Lexeme) → Reads p w → Reads p (w ++ v)
reads_append Inside w v h = tt
reads_append AtFront [] v h = absurd h
reads_append AtFront (t ∷ w) v h = tt

pub reads_start : (p : Spot) (w v e : List Lexeme) → Reads p w → Starts p (w ++ v) e
reads_start Inside w v e h = tt
reads_start AtFront [] v e h = absurd h
reads_start AtFront (t ∷ w) v e h = tt

pub starts_append : (p : Spot) (w e v : List Lexeme) → Starts p w e → Starts p w (e ++ v)
starts_append Inside w e v h = tt
starts_append AtFront (t ∷ w) e v h = tt
starts_append AtFront [] [] v h = absurd h
starts_append AtFront [] (t ∷ e) v h = h

-- records before a reply change nothing of its outcome
outcome_put : {A : Type 0} (p : Spot) (R S : List Lexeme → A → Type 0) (ts : List Lexeme) (rs : List Recorded) (r : Reply A) → Outcome p R S ts r → Outcome p R S ts (put_before rs r)
outcome_put p R S ts rs (Read a qs us) o = o
outcome_put p R S ts rs (Bad qs us) o = o
outcome_put p R S ts rs (Deep qs us) o = o

pub outcome_noted : {A : Type 0} (p : Spot) (R S : List Lexeme → A → Type 0) (ts : List Lexeme) (rs : List Recorded) (r : Reply A) → Outcome p R S ts r → Outcome p R S ts (noted rs r)
outcome_noted p R S ts [] r o = o
outcome_noted p R S ts (b ∷ rs) r o = outcome_put p R S ts (b ∷ rs) r o

-- an outcome after lexemes that were read before
pub outcome_behind : {A : Type 0} (p : Spot) (R S : List Lexeme → A → Type 0) (w ts us : List Lexeme) → Reads p w → ts ≡ w ++ us → (r : Reply A) → Outcome Inside (Behind w R) (Behind w S) us r → Outcome p R S ts r
outcome_behind p R S w ts us h e (Read a rs vs) o = record { front = w ++ o.front; split = e ∙ ap (λ x. w ++ x) o.split ∙ sym (append_assoc w o.front vs); some = reads_append p w o.front h; is = o.is }
outcome_behind p R S w ts us h e (Bad rs vs) o = record { front = w ++ o.front; split = e ∙ ap (λ x. w ++ x) o.split ∙ sym (append_assoc w o.front vs); end = o.end; of = o.of; starts = reads_start p w o.front o.end h; is = subst (λ x. S x o.of) (sym (append_assoc w o.front o.end)) o.is }
outcome_behind p R S w ts us h e (Deep rs vs) o = record { front = w ++ o.front; split = e ∙ ap (λ x. w ++ x) o.split ∙ sym (append_assoc w o.front vs); token = o.token; behind = o.behind; first = o.first; end = o.end; of = o.of; is = subst (λ x. S x o.of) (sym (append_assoc w o.front (o.token ∷ o.end))) o.is }

pub outcome_after : {A B : Type 0} (p : Spot) (Q E : List Lexeme → A → Type 0) (R S : List Lexeme → B → Type 0) (f : A → Parser B) → ((w : List Lexeme) (a : A) → Q w a → Leads Inside (Behind w R) (Behind w S) (f a)) → ((w : List Lexeme) (a : A) → E w a → Mended Inside (Behind w S)) → (ts : List Lexeme) (r : Reply A) → Outcome p Q E ts r → Outcome p R S ts (after r f)
outcome_after p Q E R S f g k ts (Read a rs us) o = outcome_noted p R S ts rs (f a us) (outcome_behind p R S o.front ts us o.some o.split (f a us) ((g o.front a o.is).at us))
outcome_after p Q E R S f g k ts (Bad rs us) o =
    let s = k (o.front ++ o.end) o.of o.is in
    record { front = o.front; split = o.split; end = o.end ++ s.end; of = s.of; starts = starts_append p o.front o.end s.end o.starts; is = subst (λ x. S x s.of) (append_assoc o.front o.end s.end) s.is }
outcome_after p Q E R S f g k ts (Deep rs us) o =
    let s = k (o.front ++ o.token ∷ o.end) o.of o.is in
    record { front = o.front; split = o.split; token = o.token; behind = o.behind; first = o.first; end = o.end ++ s.end; of = s.of; is = subst (λ x. S x s.of) (append_assoc o.front (o.token ∷ o.end) s.end) s.is }

-- a fault of the first part is completed, and what that is by the second
pub leads_bind : {A B : Type 0} {p : Spot} {Q E : List Lexeme → A → Type 0} {R S : List Lexeme → B → Type 0} {m : Parser A} {f : A → Parser B} → Leads p Q E m → ((w : List Lexeme) (a : A) → Q w a → Leads Inside (Behind w R) (Behind w S) (f a)) → ((w : List Lexeme) (a : A) → E w a → Mended Inside (Behind w S)) → Leads p R S (bind m f)
leads_bind {p = p} {Q = Q} {E = E} {R = R} {S = S} {m = m} {f = f} s g k = record { at = λ ts. outcome_after p Q E R S f g k ts (m ts) (s.at ts) }

pub sound_bind : {A B : Type 0} {p : Spot} {Q : List Lexeme → A → Type 0} {R : List Lexeme → B → Type 0} {m : Parser A} {f : A → Parser B} → Sound p Q m → ((w : List Lexeme) (a : A) → Q w a → Sound Inside (Behind w R) (f a)) → Sound p R (bind m f)
sound_bind s g = leads_bind s g (λ w a q. sound_some (g w a q))

pub sound_ret : {A : Type 0} {R S : List Lexeme → A → Type 0} {a : A} → R [] a → Leads Inside R S (ret a)
sound_ret h = record { at = λ ts. record { front = []; split = refl; some = tt; is = h } }

pub sound_done : {A : Type 0} (R : List Lexeme → A → Type 0) (w : List Lexeme) (a : A) → R w a → Sound Inside (Behind w R) (ret a)
sound_done R w a h = sound_ret (subst (λ x. R x a) (sym (append-nil w)) h)

pub leads_done : {A : Type 0} (R S : List Lexeme → A → Type 0) (w : List Lexeme) (a : A) → R w a → Leads Inside (Behind w R) (Behind w S) (ret a)
leads_done R S w a h = sound_ret (subst (λ x. R x a) (sym (append-nil w)) h)

pub some_done : {A : Type 0} (S : List Lexeme → A → Type 0) (w : List Lexeme) (a : A) → S w a → Mended Inside (Behind w S)
some_done S w a h = record { end = []; of = a; starts = tt; is = subst (λ x. S x a) (sym (append-nil w)) h }

-- what is read is made into another value
pub sound_made : {A B : Type 0} {p : Spot} {Q : List Lexeme → A → Type 0} {R : List Lexeme → B → Type 0} {m : Parser A} (g : A → B) → Sound p Q m → ((w : List Lexeme) (a : A) → Q w a → R w (g a)) → Sound p R (bind m (λ a. ret (g a)))
sound_made {R = R} g s h = sound_bind s (λ w a q. sound_done R w (g a) (h w a q))

pub leads_made : {A B : Type 0} {p : Spot} {Q E : List Lexeme → A → Type 0} {R S : List Lexeme → B → Type 0} {m : Parser A} (g : A → B) → Leads p Q E m → ((w : List Lexeme) (a : A) → Q w a → R w (g a)) → ((w : List Lexeme) (a : A) → E w a → S w (g a)) → Leads p R S (bind m (λ a. ret (g a)))
leads_made {R = R} {S = S} g s h k = leads_bind s (λ w a q. leads_done R S w (g a) (h w a q)) (λ w a e. some_done S w (g a) (k w a e))

pub sound_bad : {A : Type 0} {p : Spot} {R S : List Lexeme → A → Type 0} → Mended p S → Leads p R S (bad {A = A})
sound_bad s = record { at = λ ts. record { front = []; split = refl; end = s.end; of = s.of; starts = s.starts; is = s.is } }

pub sound_note : (form : FuncForm) (room : ℕ) (simple : Bool) → Sound Inside (λ w u. w ≡ []) (note form room simple)
sound_note form room simple = record { at = λ ts. record { front = []; split = refl; some = tt; is = refl } }

-- a parser at lexemes that begin with this one
pub record LeadsAt {A : Type 0} (p : Spot) (R S : List Lexeme → A → Type 0) (t : Lexeme) (f : Parser A) : Type 0 where
  pub first : (ts : List Lexeme) → Outcome p R S (t ∷ ts) (f (t ∷ ts))

abbrev pub SoundAt : {A : Type 0} → Spot → (List Lexeme → A → Type 0) → Lexeme → Parser A → Type 0
SoundAt p R t f = LeadsAt p R R t f

pub sound_at : {A : Type 0} {p : Spot} {R S : List Lexeme → A → Type 0} {f : Parser A} (t : Lexeme) → Leads p R S f → LeadsAt p R S t f
sound_at t s = record { first = λ ts. s.at (t ∷ ts) }

pub at_map : {A : Type 0} {p : Spot} {R S Rnew Snew : List Lexeme → A → Type 0} {t : Lexeme} {f : Parser A} → ((w : List Lexeme) (a : A) → R w a → Rnew w a) → ((w : List Lexeme) (a : A) → S w a → Snew w a) → LeadsAt p R S t f → LeadsAt p Rnew Snew t f
at_map {p = p} {R = R} {S = S} {Rnew = Rnew} {Snew = Snew} {t = t} {f = f} m k s = record { first = λ ts. outcome_map p R S Rnew Snew m k (t ∷ ts) (f (t ∷ ts)) (s.first ts) }

reads_one : (p : Spot) (t : Lexeme) → Reads p (t ∷ [])
reads_one AtFront t = tt
reads_one Inside t = tt

pub at_step : {A : Type 0} {p : Spot} {R S : List Lexeme → A → Type 0} {f : Parser A} (t : Lexeme) → Leads Inside (Behind (t ∷ []) R) (Behind (t ∷ []) S) f → LeadsAt p R S t (step f)
at_step {p = p} {R = R} {S = S} {f = f} t s = record { first = λ ts. outcome_behind p R S (t ∷ []) (t ∷ ts) ts (reads_one p t) refl (f ts) (s.at ts) }

pub at_deep : {A : Type 0} {p : Spot} {R S : List Lexeme → A → Type 0} (t : Lexeme) (end : List Lexeme) (a : A) → S (t ∷ end) a → LeadsAt p R S t (deep {A = A})
at_deep t end a h = record { first = λ ts. record { front = []; split = refl; token = t; behind = ts; first = refl; end = end; of = a; is = h } }

sound_peek_at : {A : Type 0} (p : Spot) (R S : List Lexeme → A → Type 0) (f : Lexeme → Parser A) → ((t : Lexeme) → LeadsAt p R S t (f t)) → Leads p R S (f (head_of [])) → (ts : List Lexeme) → Outcome p R S ts (peek f ts)
sound_peek_at p R S f s e [] = e.at []
sound_peek_at p R S f s e (t ∷ ts) = (s t).first ts

-- looks at the first lexeme; the end of all lexemes stands for one of kind End
pub sound_peek : {A : Type 0} {p : Spot} {R S : List Lexeme → A → Type 0} {f : Lexeme → Parser A} → ((t : Lexeme) → LeadsAt p R S t (f t)) → Leads p R S (f (head_of [])) → Leads p R S (peek f)
sound_peek {p = p} {R = R} {S = S} {f = f} s e = record { at = sound_peek_at p R S f s e }

-- the same, where what is done depends on the lexeme
pub sound_look : {A : Type 0} {p : Spot} {R S : List Lexeme → A → Type 0} {f : Lexeme → Parser A} → ((t : Lexeme) → LeadsAt p R S t (f t)) → Outcome p R S [] (f (head_of []) []) → Leads p R S (peek f)
sound_look {p = p} {R = R} {S = S} {f = f} s e = record { at = look_at }
  where
    look_at : (ts : List Lexeme) → Outcome p R S ts (peek f ts)
    look_at [] = e
    look_at (t ∷ ts) = (s t).first ts

-- the first part at lexemes that begin with this one
pub at_bind : {A B : Type 0} {p : Spot} {Q E : List Lexeme → A → Type 0} {R S : List Lexeme → B → Type 0} {t : Lexeme} {m : Parser A} {f : A → Parser B} → LeadsAt p Q E t m → ((w : List Lexeme) (a : A) → Q w a → Leads Inside (Behind w R) (Behind w S) (f a)) → ((w : List Lexeme) (a : A) → E w a → Mended Inside (Behind w S)) → LeadsAt p R S t (bind m f)
at_bind {p = p} {Q = Q} {E = E} {R = R} {S = S} {t = t} {m = m} {f = f} s g k = record { first = λ ts. outcome_after p Q E R S f g k (t ∷ ts) (m (t ∷ ts)) (s.first ts) }

-- which lexeme is the first of what was read
abbrev pub BeginsAt : Lexeme → List Lexeme → Type 0
BeginsAt t [] = ⊥
BeginsAt t (u ∷ w) = u ≡ t

-- or of what an end completes: a number, where none was read
pub data Begun (t : Lexeme) (w : List Lexeme) : Type 0 where
  here : BeginsAt t w → Begun t w
  started : (u : Lexeme) (v : List Lexeme) → w ≡ u ∷ v → Starter u → Begun t w

first_outcome : {A : Type 0} (R S : List Lexeme → A → Type 0) (t : Lexeme) (ts : List Lexeme) (r : Reply A) → Outcome AtFront R S (t ∷ ts) r → Outcome AtFront (λ w a. R w a × BeginsAt t w) (λ w a. S w a × Begun t w) (t ∷ ts) r
first_outcome R S t ts (Read a rs us) o = record { front = o.front; split = o.split; some = o.some; is = (o.is, first_read o.front us o.some o.split) }
  where
    first_read : (w us : List Lexeme) → Reads AtFront w → t ∷ ts ≡ w ++ us → BeginsAt t w
    first_read [] us h e = absurd h
    first_read (u ∷ w) us h e = cc
first_outcome R S t ts (Bad rs us) o = record { front = o.front; split = o.split; end = o.end; of = o.of; starts = o.starts; is = (o.is, first_bad o.front o.end us o.starts o.split) }
  where
    first_bad : (w e us : List Lexeme) → Starts AtFront w e → t ∷ ts ≡ w ++ us → Begun t (w ++ e)
    first_bad [] [] us h k = absurd h
    first_bad [] (u ∷ e) us h k = started u e refl h
    first_bad (u ∷ w) e us h k = here (cc)
first_outcome R S t ts (Deep rs us) o = record { front = o.front; split = o.split; token = o.token; behind = o.behind; first = o.first; end = o.end; of = o.of; is = (o.is, first_deep o.front us o.token o.behind o.end o.first o.split) }
  where
    first_deep : (w us : List Lexeme) (x : Lexeme) (bs e : List Lexeme) → us ≡ x ∷ bs → t ∷ ts ≡ w ++ us → Begun t (w ++ x ∷ e)
    first_deep [] us x bs e h k = here (cc)
    first_deep (u ∷ w) us x bs e h k = here (cc)

pub sound_first : {A : Type 0} {R S : List Lexeme → A → Type 0} {f : Parser A} (t : Lexeme) → Leads AtFront R S f → LeadsAt AtFront (λ w a. R w a × BeginsAt t w) (λ w a. S w a × Begun t w) t f
sound_first {R = R} {S = S} {f = f} t s = record { first = λ ts. first_outcome R S t ts (f (t ∷ ts)) (s.at (t ∷ ts)) }

pub at_inside : {A : Type 0} {R S : List Lexeme → A → Type 0} {t : Lexeme} {f : Parser A} → LeadsAt AtFront R S t f → LeadsAt Inside R S t f
at_inside {R = R} {S = S} {t = t} {f = f} s = record { first = λ ts. inside_outcome R S (t ∷ ts) (f (t ∷ ts)) (s.first ts) }

-- where nothing is left, the end begins with a number
first_end : {A : Type 0} (R S : List Lexeme → A → Type 0) (t : Lexeme) (r : Reply A) → Outcome AtFront R S [] r → Outcome AtFront (λ w a. R w a × BeginsAt t w) (λ w a. S w a × Begun t w) [] r
first_end R S t (Read a rs us) o = absurd (none o.front us o.some o.split)
  where
    none : (w us : List Lexeme) → Reads AtFront w → [] ≡ w ++ us → ⊥
    none [] us h e = absurd h
    none (u ∷ w) us h e = cc
first_end R S t (Bad rs us) o = record { front = o.front; split = o.split; end = o.end; of = o.of; starts = o.starts; is = (o.is, begun o.front o.end us o.starts o.split) }
  where
    begun : (w e us : List Lexeme) → Starts AtFront w e → [] ≡ w ++ us → Begun t (w ++ e)
    begun [] [] us h k = absurd h
    begun [] (u ∷ e) us h k = started u e refl h
    begun (u ∷ w) e us h k = absurd (cc)
first_end R S t (Deep rs us) o = absurd (none o.front us o.token o.behind o.split o.first)
  where
    none : (v us : List Lexeme) (t : Lexeme) (bs : List Lexeme) → [] ≡ v ++ us → us ≡ t ∷ bs → ⊥
    none [] us t bs e k = absurd (cc)
    none (u ∷ v) us t bs e k = absurd (cc)

pub sound_first_end : {A : Type 0} {R S : List Lexeme → A → Type 0} {f : Parser A} (t : Lexeme) → Leads AtFront R S f → Outcome AtFront (λ w a. R w a × BeginsAt t w) (λ w a. S w a × Begun t w) [] (f [])
sound_first_end {R = R} {S = S} {f = f} t s = first_end R S t (f []) (s.at [])

-- what stands at the front reads nothing where nothing is left
pub end_outcome : {A B : Type 0} (Q E : List Lexeme → A → Type 0) (R S : List Lexeme → B → Type 0) (f : A → Parser B) → ((w : List Lexeme) (a : A) → E w a → Mended Inside (Behind w S)) → (r : Reply A) → Outcome AtFront Q E [] r → Outcome AtFront R S [] (after r f)
end_outcome Q E R S f k (Read a rs us) o = absurd (none o.front us o.some o.split)
  where
    none : (w us : List Lexeme) → Reads AtFront w → [] ≡ w ++ us → ⊥
    none [] us h e = absurd h
    none (u ∷ w) us h e = cc
end_outcome Q E R S f k (Bad rs us) o =
    let s = k (o.front ++ o.end) o.of o.is in
    record { front = o.front; split = o.split; end = o.end ++ s.end; of = s.of; starts = starts_append AtFront o.front o.end s.end o.starts; is = subst (λ x. S x s.of) (append_assoc o.front o.end s.end) s.is }
end_outcome Q E R S f k (Deep rs us) o =
    let s = k (o.front ++ o.token ∷ o.end) o.of o.is in
    record { front = o.front; split = o.split; token = o.token; behind = o.behind; first = o.first; end = o.end ++ s.end; of = s.of; is = subst (λ x. S x s.of) (append_assoc o.front (o.token ∷ o.end) s.end) s.is }

pub end_bind : {A B : Type 0} {Q E : List Lexeme → A → Type 0} (R S : List Lexeme → B → Type 0) {m : Parser A} (f : A → Parser B) → Leads AtFront Q E m → ((w : List Lexeme) (a : A) → E w a → Mended Inside (Behind w S)) → Outcome AtFront R S [] (bind m f [])
end_bind {Q = Q} {E = E} R S {m = m} f s k = end_outcome Q E R S f k (m []) (s.at [])

at_bool : {A : Type 0} (p : Spot) (R S : List Lexeme → A → Type 0) (t : Lexeme) (f g : Parser A) (b c : Bool) → c ≡ b → (b ≡ true → LeadsAt p R S t f) → (b ≡ false → LeadsAt p R S t g) → LeadsAt p R S t (when c f g)
at_bool p R S t f g true c e h k = subst (λ x. LeadsAt p R S t (when x f g)) (sym e) (h refl)
at_bool p R S t f g false c e h k = subst (λ x. LeadsAt p R S t (when x f g)) (sym e) (k refl)

pub at_when : {A : Type 0} {p : Spot} {R S : List Lexeme → A → Type 0} {t : Lexeme} {f g : Parser A} (b : Bool) → (b ≡ true → LeadsAt p R S t f) → (b ≡ false → LeadsAt p R S t g) → LeadsAt p R S t (when b f g)
at_when {p = p} {R = R} {S = S} {t = t} {f = f} {g = g} b h k = at_bool p R S t f g b b refl h k

sound_bool : {A : Type 0} (p : Spot) (R S : List Lexeme → A → Type 0) (f g : Parser A) (b c : Bool) → c ≡ b → (b ≡ true → Leads p R S f) → (b ≡ false → Leads p R S g) → Leads p R S (when c f g)
sound_bool p R S f g true c e h k = subst (λ x. Leads p R S (when x f g)) (sym e) (h refl)
sound_bool p R S f g false c e h k = subst (λ x. Leads p R S (when x f g)) (sym e) (k refl)

pub sound_when : {A : Type 0} {p : Spot} {R S : List Lexeme → A → Type 0} {f g : Parser A} (b : Bool) → (b ≡ true → Leads p R S f) → (b ≡ false → Leads p R S g) → Leads p R S (when b f g)
sound_when {p = p} {R = R} {S = S} {f = f} {g = g} b h k = sound_bool p R S f g b b refl h k

-- without room: what begins so is completed by some end
no_room_first : {A : Type 0} (p : Spot) (R S : List Lexeme → A → Type 0) (begins : Kind → Bool) → begins kind.End ≡ false → Mended p S → ((t : Lexeme) → begins t.kind ≡ true → Mended Inside (Behind (t ∷ []) S)) → (ts : List Lexeme) (b : Bool) → begins (head_of ts).kind ≡ b → Outcome p R S ts (when {A = A} b deep bad ts)
no_room_first p R S begins z s h ts false e = (sound_bad {R = R} s).at ts
no_room_first p R S begins z s h [] true e = absurd (cc)
no_room_first p R S begins z s h (t ∷ ts) true e = let k = h t e in (at_deep {p = p} {R = R} {S = S} t k.end k.of k.is).first ts

pub sound_no_room : {A : Type 0} {p : Spot} {R S : List Lexeme → A → Type 0} (begins : Kind → Bool) → begins kind.End ≡ false → Mended p S → ((t : Lexeme) → begins t.kind ≡ true → Mended Inside (Behind (t ∷ []) S)) → Leads p R S (no_room {A = A} begins)
sound_no_room {p = p} {R = R} {S = S} begins z s h = record { at = λ ts. no_room_first p R S begins z s h ts (begins (head_of ts).kind) refl }

-- a loop: what one turn reads, and what all read; and what the ends make of the faults of a turn and of all
module _ {A B : Type 0} (Q E : List Lexeme → Turn A B → Type 0) (R S : List Lexeme → Many A B → Type 0) (turn : Parser (Turn A B))
    (s : Leads Inside Q E turn)
    (stop : (w : List Lexeme) (b : B) → Q w (Stop b) → R w (stopped b))
    (go : (w v : List Lexeme) (a : A) (m : Many A B) → Q w (Again a) → R v m → R (w ++ v) (begun a m))
    (go_end : (w v : List Lexeme) (a : A) (m : Many A B) → Q w (Again a) → S v m → S (w ++ v) (begun a m))
    (fault : (w : List Lexeme) (t : Turn A B) → E w t → Mended Inside (Behind w S))
    (some : Mended Inside S) where
  turned_leads : (f : Parser (Many A B)) → Leads Inside R S f → (w : List Lexeme) (t : Turn A B) → Q w t → Leads Inside (Behind w R) (Behind w S) (turned f t)
  turned_leads f l w (Again a) q = leads_made (begun a) l (λ v m r. go w v a m q r) (λ v m r. go_end w v a m q r)
  turned_leads f l w (Stop b) q = leads_done R S w (stopped b) (stop w b q)

  turns_leads : (n : ℕ) → Leads Inside R S (turns turn n)
  unfolding turns
  turns_leads zero = sound_bad some
  turns_leads (suc n) = leads_bind s (turned_leads (turns turn n) (turns_leads n)) fault

  pub leads_loop : Leads Inside R S (loop turn)
  unfolding loop
  leads_loop = record { at = λ ts. (turns_leads (suc (length ts))).at ts }

module _ {A B : Type 0} (Q : List Lexeme → Turn A B → Type 0) (R : List Lexeme → Many A B → Type 0) (turn : Parser (Turn A B))
    (s : Sound Inside Q turn)
    (stop : (w : List Lexeme) (b : B) → Q w (Stop b) → R w (stopped b))
    (go : (w v : List Lexeme) (a : A) (m : Many A B) → Q w (Again a) → R v m → R (w ++ v) (begun a m))
    (some : Mended Inside R) where
  fault_some : (w : List Lexeme) (t : Turn A B) → Q w t → Mended Inside (Behind w R)
  fault_some w (Again a) q = record { end = some.end; of = begun a some.of; starts = tt; is = go w some.end a some.of q some.is }
  fault_some w (Stop b) q = some_done R w (stopped b) (stop w b q)

  pub sound_loop : Sound Inside R (loop turn)
  sound_loop = leads_loop Q Q R R turn s stop go go fault_some some
