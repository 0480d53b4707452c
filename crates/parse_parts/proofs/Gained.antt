-- From what the code recorded to what the pending list gained.
use Rattle.std.proofs.Common.{◌≡◌, ◌∙◌, ℕ, suc, ◌-◌, ◌<◌, List, [], ◌∷◌, ◌++◌, map, drop, length, min, refl, sym, ap, subst, arith, Bool, Err}
use Rattle.std.proofs.lemmas.List.{length-map, length-drop}
use Rattle.script_grammar.specs.declared.token.FuncForm.{FuncForm}
use Rattle.script_grammar.specs.Fault.{depth_limit}
use Rattle.script_grammar.specs.Interpretation.{Interpretation}
use Rattle.script_grammar.specs.Lexeme.{Lexeme, lexeme_of}
use Rattle.grammar_parser_specs.specs.Parser.{Recorded, Reply, Read, Bad, Deep, Parser, noted}
use Rattle.grammar_local_laws.proofs.Agrees as agrees
use Rattle.grammar_parser_laws.proofs.Complete.{bare, bare_noted}
use Rattle.grammar_parser_laws.proofs.Local.{left, left_noted}
use Rattle.parse_exprs.specs.declared.place.ParseFault.{ParseFault}
use Rattle.parse_exprs.specs.declared.place.ParseFault.TheVariants as faults
use Rattle.parse_exprs.specs.declared.place.Pending.{Pending}
use Rattle.parse_exprs.specs.declared.place.Cursor.{Cursor}
use Rattle.parse_exprs.specs.declared.source.Source.{Source}
use Rattle.parse_exprs.specs.Answers.{Refuses, ReadAs, recorded, records}
use Rattle.parse_exprs.specs.Source.{lexemes, front}
use Rattle.parse_pending_laws.proofs.Rises.{Falls, Rises, falls_wider, records_noted}
use Rattle.parse_parts.specs.Pending.{gained, counted, AreInText, Rise, Gains, IsGained}

falls_below : (n : ℕ) (rs : List Recorded) (m : ℕ) → Falls n rs m → m < n
falls_below n [] m h = h
falls_below n (b ∷ rs) m h =
    let f : length b.from < n = h.0 in
    let g : m < length b.from = falls_below (length b.from) rs m h.1 in
    omega (arith, f, g)

same_min : (a b n : ℕ) → n - a ≡ n - b → min a n ≡ min b n
same_min a b n e = omega (arith, e)

body_same : (t u : ℕ) (f g : FuncForm) (d e : ℕ) (x y : Bool) → t ≡ u → f ≡ g → d ≡ e → x ≡ y → ◌≡◌ {A = Pending} (record { token = t; form = f; depth = d; simple = x }) (record { token = u; form = g; depth = e; simple = y })
body_same t u f g d e x y p q r s j = record { token = p j; form = q j; depth = r j; simple = s j }

module _ (s : Source) (i : Interpretation) where
  front_length : (k : ℕ) → length (front s i k) ≡ length s.tokens.now - k
  unfolding front
  front_length k = length-drop k (lexemes s i) ∙ ap (λ n. n - k) (length-map s.tokens.now (lexeme_of s.get s.set i.texts))

  -- bodies whose recorded ones stand one after another
  rise_of : (start stop : ℕ) (bodies : List Pending) → Falls (suc (length (front s i start))) (map (recorded s i) bodies) (length (front s i stop)) → Rise start stop bodies
  rise_of start stop [] h = tt
  rise_of start stop (b ∷ bodies) h =
      let f : length (front s i b.token) < suc (length (front s i start)) = h.0 in
      let g : length (front s i stop) < length (front s i b.token) = falls_below (length (front s i b.token)) (map (recorded s i) bodies) (length (front s i stop)) h.1 in
      let x = front_length start in
      let y = front_length b.token in
      let z = front_length stop in
      let w = front_length (suc b.token) in
      (omega (arith, f, g, x, y, z), omega (arith, g, y, z), rise_of (suc b.token) stop bodies (falls_wider (length (front s i b.token)) (suc (length (front s i (suc b.token)))) (map (recorded s i) bodies) (length (front s i stop)) (omega (arith, g, y, w)) h.1))

  -- bodies that are recorded alike are the same, as far as depths count
  alike : (a b : Pending) → b.token < length s.tokens.now → recorded s i a ≡ recorded s i b → counted a ≡ counted b
  alike a b l e =
      let x = front_length a.token in
      let y = front_length b.token in
      let z : length (front s i a.token) ≡ length (front s i b.token) = ap (λ (r : Recorded). length r.from) e in
      body_same a.token b.token a.form b.form (min a.depth depth_limit) (min b.depth depth_limit) a.simple b.simple (omega (arith, l, x, y, z)) (ap (λ (r : Recorded). r.form) e) (same_min a.depth b.depth depth_limit (ap (λ (r : Recorded). r.room) e)) (ap (λ (r : Recorded). r.simple) e)

  kept_in_front : (old new : List Pending) (rest : List Recorded) → AreInText s old → map (recorded s i) new ≡ map (recorded s i) old ++ rest → map counted new ≡ map counted (old ++ drop (length old) new)
  kept_in_front [] new rest l e = refl
  kept_in_front (b ∷ old) [] rest l e = absurd (cc)
  kept_in_front (b ∷ old) (p ∷ new) rest l e = ap (λ x. x ∷ map counted new) (alike p b l.0 (first e)) ∙ ap (λ x. counted b ∷ x) (kept_in_front old new rest l.1 (others e))
    where
      first : recorded s i p ∷ map (recorded s i) new ≡ recorded s i b ∷ (map (recorded s i) old ++ rest) → recorded s i p ≡ recorded s i b
      first e = cc

      others : recorded s i p ∷ map (recorded s i) new ≡ recorded s i b ∷ (map (recorded s i) old ++ rest) → map (recorded s i) new ≡ map (recorded s i) old ++ rest
      others e = cc

  pub gained_are : (old new : List Pending) (rest : List Recorded) → map (recorded s i) new ≡ map (recorded s i) old ++ rest → map (recorded s i) (gained old new) ≡ rest
  gained_are [] new rest e = e
  gained_are (b ∷ old) [] rest e = absurd (cc)
  gained_are (b ∷ old) (p ∷ new) rest e = gained_are old new rest (others e)
    where
      others : recorded s i p ∷ map (recorded s i) new ≡ recorded s i b ∷ (map (recorded s i) old ++ rest) → map (recorded s i) new ≡ map (recorded s i) old ++ rest
      others e = cc

  pub gains : (old new : Cursor) (stop : ℕ) (gs : List Recorded) → records s i new ≡ records s i old ++ gs → Falls (suc (length (front s i old.at))) gs (length (front s i stop)) → Gains s old.at stop old.pending.items new.pending.items
  unfolding records
  gains old new stop gs e h = record {
    kept = λ l. kept_in_front old.pending.items new.pending.items gs l e;
    rise = rise_of old.at stop (gained old.pending.items new.pending.items) (subst (λ rs. Falls (suc (length (front s i old.at))) rs (length (front s i stop))) (sym (gained_are old.pending.items new.pending.items gs e)) h);
  }

  -- what a reply tells that stands after records
  pub told : {A : Type 0} (rs : List Recorded) (r t : Reply A) → noted rs r ≡ t → (agrees.records t ≡ rs ++ agrees.records r) × (left r ≡ left t)
  told rs r t e = (sym (ap agrees.records e) ∙ records_noted rs r, sym (left_noted rs r) ∙ ap left e)

  -- what was read, with what was gained
  pub gained_read : {A : Type 0} (f : Parser A) (old new : Cursor) (a : A) → ReadAs (records s i old) (f (front s i old.at)) a (records s i new) (front s i new.at) → f (front s i old.at) ≡ Read a (map (recorded s i) (gained old.pending.items new.pending.items)) (front s i new.at)
  unfolding records
  gained_read {A = A} f old new a h =
      let x = told (records s i old) (f (front s i old.at)) (Read a (records s i new) (front s i new.at)) h.is in
      by (f (front s i old.at)) (sym (bare_noted (records s i old) (f (front s i old.at))) ∙ ap bare h.is) ∙ ap (λ rs. Read a rs (front s i new.at)) (sym (gained_are old.pending.items new.pending.items (agrees.records (f (front s i old.at))) x.0))
    where
      same_value : (b : A) (us vs : List Lexeme) → ◌≡◌ {A = Reply A} (Read b [] us) (Read a [] vs) → b ≡ a
      same_value b us vs e = cc

      same_left : (b : A) (us vs : List Lexeme) → ◌≡◌ {A = Reply A} (Read b [] us) (Read a [] vs) → us ≡ vs
      same_left b us vs e = cc

      by : (r : Reply A) → bare r ≡ Read a [] (front s i new.at) → r ≡ Read a (agrees.records r) (front s i new.at)
      by (Read b rs us) e = ap (λ x. Read x rs us) (same_value b us (front s i new.at) e) ∙ ap (Read a rs) (same_left b us (front s i new.at) e)
      by (Bad rs us) e = absurd (cc)
      by (Deep rs us) e = absurd (cc)

  module _ {A : Type 0} (f : Parser A) (r : Rises f) (old new : Cursor) where
    falls_to : (stop : ℕ) → left (f (front s i old.at)) ≡ front s i stop → Falls (suc (length (front s i old.at))) (agrees.records (f (front s i old.at))) (length (front s i stop))
    falls_to stop e = subst (λ us. Falls (suc (length (front s i old.at))) (agrees.records (f (front s i old.at))) (length us)) e (r.at (front s i old.at))

    gains_by : (stop : ℕ) (t : Reply A) → noted (records s i old) (f (front s i old.at)) ≡ t → agrees.records t ≡ records s i new → left t ≡ front s i stop → Gains s old.at stop old.pending.items new.pending.items
    gains_by stop t e p q =
        let x = told (records s i old) (f (front s i old.at)) t e in
        gains old new stop (agrees.records (f (front s i old.at))) (sym p ∙ x.0) (falls_to stop (x.1 ∙ q))

    pub gains_read : (a : A) → ReadAs (records s i old) (f (front s i old.at)) a (records s i new) (front s i new.at) → Gains s old.at new.at old.pending.items new.pending.items
    gains_read a h = gains_by new.at (Read a (records s i new) (front s i new.at)) h.is refl refl

    pub gains_refused : (E : Type 0) (e : ParseFault) → Refuses s i new e (records s i old) (f (front s i old.at)) → IsGained {A = E} s old new (Err e)
    gains_refused E (faults.Unexpected k) h = gains_by k (Bad (records s i new) (front s i k)) h.is refl refl
    gains_refused E (faults.TooDeep k) h = gains_by k (Deep (records s i new) (front s i k)) h.is refl refl
    gains_refused E faults.NoMemory h = tt
