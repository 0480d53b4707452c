-- What the words of a command can ask for: how many files, and how many workers for them or for a generated text.
use Rattle.std.proofs.Common.{Bool, List, None, Option, Some, [], arith, false, length, refl, subst, true, ℕ, ◌∷◌, ◌≡◌, ◌≤◌}
use Rattle.std.proofs.lemmas.Bool.{leb-true}
use Rattle.std.specs.Prelude.{bytes_eq, codes, if◌then◌else◌, nat_le, option_and_then, option_map, ◌&&◌}
use Rattle.session_words.specs.Asked.{Asked, Churn, Files, Job, Trial}
use Rattle.session_words.specs.Numbers.{is_number, number_in, value}
use Rattle.session_words.specs.Words.{Generated, Given, Taken, all_file_names, are_names, asked_of, files_form, form_of, generated_by, generated_of, is_option, job_of, nothing_given, number_from, once, or_else, order_of, size_from, take_options, text_form, want_of, with_names, with_option, with_order, with_want, with_workers, workers_behind, workers_of}
use Rattle.session_words.specs.declared.options.Command.{Command}
use Rattle.session_words.specs.declared.options.Command.TheVariants as command

-- at most 64 files, and from one to 16 workers
pub record Bounded (j : Job) : Type 0 where
  pub files : length j.files ≤ 64
  pub one : 1 ≤ j.workers
  pub workers : j.workers ≤ 16

record FewWorkers (given : Option ℕ) : Type 0 where
  low : 1 ≤ or_else 4 given
  high : or_else 4 given ≤ 16

some_same : {A : Type 0} (a b : A) → ◌≡◌ {A = Option A} (Some a) (Some b) → a ≡ b
some_same a b e = cc

and_first : (a b : Bool) → (a && b) ≡ true → a ≡ true
and_first true b e = refl
and_first false b e = absurd (cc)

and_second : (a b : Bool) → (a && b) ≡ true → b ≡ true
and_second true b e = e
and_second false b e = absurd (cc)

-- a number in a word is within its bounds
in_bounds : (low high : ℕ) (word : List ℕ) (n : ℕ) → number_in low high word ≡ Some n → (low ≤ n) × (n ≤ high)
in_bounds low high word n e = by (is_number word) (nat_le low (value word)) (nat_le (value word) high) refl refl e
  where
    by : (a b c : Bool) → nat_le low (value word) ≡ b → nat_le (value word) high ≡ c → (if a && b && c then Some (value word) else None) ≡ Some n → (low ≤ n) × (n ≤ high)
    by true true true p q h =
        let s = some_same (value word) n h in
        (subst (λ m. low ≤ m) s (leb-true low (value word) p), subst (λ m. m ≤ high) s (leb-true (value word) high q))
    by true true false p q h = absurd (cc)
    by true false c p q h = absurd (cc)
    by false b c p q h = absurd (cc)

-- what is made of a value of an option
of_map : {A B : Type 0} (f : A → B) (P : B → Type 0) (o : Option A) (b : B) → ((a : A) → o ≡ Some a → P (f a)) → option_map f o ≡ Some b → P b
of_map f P None b k e = absurd (cc)
of_map f P (Some a) b k e = subst P (some_same (f a) b e) (k a refl)

of_then : {A B : Type 0} (f : A → Option B) (P : Type 0) (o : Option A) (b : B) → ((a : A) → o ≡ Some a → f a ≡ Some b → P) → option_and_then f o ≡ Some b → P
of_then f P None b k e = absurd (cc)
of_then f P (Some a) b k e = k a refl e

of_if : {A : Type 0} (P : Type 0) (c : Bool) (x y : Option A) (a : A) → (x ≡ Some a → P) → (y ≡ Some a → P) → (if c then x else y) ≡ Some a → P
of_if P true x y a k l e = k e
of_if P false x y a k l e = l e

once_is : {A : Type 0} (earlier value : Option A) (a : A) → once earlier value ≡ Some a → value ≡ Some a
once_is None value a e = e
once_is (Some b) value a e = absurd (cc)

few_of : (word : List ℕ) (n : ℕ) → workers_of word ≡ Some n → FewWorkers (Some n)
few_of word n e = let b = in_bounds 1 16 word n e in record { low = b.0; high = b.1 }

few_with : (g h : Given) (word value_of : List ℕ) → FewWorkers g.workers → with_option g word value_of ≡ Some h → FewWorkers h.workers
few_with g h word value_of few e =
    of_if (FewWorkers h.workers) (bytes_eq word (codes "--want")) (with_want g value_of) _ h
    (of_map (λ w. record g { want = Some w }) (λ (x : Given). FewWorkers x.workers) (once g.want (want_of value_of)) h (λ w k. few))
    (of_if (FewWorkers h.workers) (bytes_eq word (codes "--workers")) (with_workers g value_of) (with_order g value_of) h
    (of_map (λ n. record g { workers = Some n }) (λ (x : Given). FewWorkers x.workers) (once g.workers (workers_of value_of)) h (λ n k. few_of value_of n (once_is g.workers (workers_of value_of) n k)))
    (of_map (λ o. record g { order = Some o }) (λ (x : Given). FewWorkers x.workers) (once g.order (order_of value_of)) h (λ o k. few)))
    e

few_taken : (g : Given) (words : List (List ℕ)) (t : Taken) → FewWorkers g.workers → take_options g words ≡ Some t → FewWorkers t.given.workers
few_taken g [] t few e = subst (λ (x : Taken). FewWorkers x.given.workers) (some_same (record { given = g; names = [] }) t e) few
few_taken g (word ∷ []) t few e =
    of_if (FewWorkers t.given.workers) (is_option word) None (Some (record { given = g; names = word ∷ [] })) t (λ h. absurd (cc))
    (λ h. subst (λ (x : Taken). FewWorkers x.given.workers) (some_same (record { given = g; names = word ∷ [] }) t h) few) e
few_taken g (word ∷ v ∷ rest) t few e =
    of_if (FewWorkers t.given.workers) (is_option word) (option_and_then (λ h. take_options h rest) (with_option g word v)) (Some (record { given = g; names = word ∷ v ∷ rest })) t
    (of_then (λ h. take_options h rest) (FewWorkers t.given.workers) (with_option g word v) t (λ h is. few_taken h rest t (few_with g h word v few is)))
    (λ h. subst (λ (x : Taken). FewWorkers x.given.workers) (some_same (record { given = g; names = word ∷ v ∷ rest }) t h) few) e

files_same : (a b : Job) → ◌≡◌ {A = Option Asked} (Some (Files a)) (Some (Files b)) → a ≡ b
files_same a b e = cc

-- a job of names that are no more than n
bounded_names : (c : Command) (most : ℕ) (t : Taken) (j : Job) → most ≤ 64 → FewWorkers t.given.workers → with_names c most t ≡ Some (Files j) → Bounded j
bounded_names c most t j small few e =
    by (nat_le 1 (length t.names)) (nat_le (length t.names) most) (all_file_names t.names) refl e
  where
    by : (a b d : Bool) → nat_le (length t.names) most ≡ b → (if a && b && d then Some (job_of c t.given t.names) else None) ≡ Some (Files j) → Bounded j
    by true true true p h =
        let n = leb-true (length t.names) most p in
        subst Bounded (files_same _ j h) (record { files = omega (arith, n, small); one = few.low; workers = few.high })
    by true true false p h = absurd (cc)
    by true false d p h = absurd (cc)
    by false b d p h = absurd (cc)

bounded_files : (c : Command) (most : ℕ) (words : List (List ℕ)) (j : Job) → most ≤ 64 → files_form c most words ≡ Some (Files j) → Bounded j
bounded_files c most words j small e =
    of_then (with_names c most) (Bounded j) (take_options nothing_given words) (Files j)
    (λ t is. bounded_names c most t j small (few_taken nothing_given words t four is)) e
  where
    four : FewWorkers None
    four = record { low = omega arith; high = omega arith }

no_text : (form : ℕ → ℕ → ℕ → Asked) (words : List (List ℕ)) (j : Job) → ((n s w : ℕ) → form n s w ≡ Files j → ⊥) → text_form form words ≡ Some (Files j) → Bounded j
no_text form words j other e = absurd (by (generated_of words) e)
  where
    by : (o : Option Generated) → option_map (λ (g : Generated). form g.number g.size g.workers) o ≡ Some (Files j) → ⊥
    by None h = absurd (cc)
    by (Some g) h = other g.number g.size g.workers (some_same (form g.number g.size g.workers) (Files j) h)

bounded_form : (word : List ℕ) (rest : List (List ℕ)) (j : Job) → form_of word rest ≡ Some (Files j) → Bounded j
bounded_form word rest j e =
    let If = of_if {A = Asked} (Bounded j) in
    If (bytes_eq word (codes "code")) _ _ (Files j) (bounded_files command.Code 64 rest j (omega arith))
    (If (bytes_eq word (codes "scopes")) _ _ (Files j) (bounded_files command.Scopes 64 rest j (omega arith))
    (If (bytes_eq word (codes "check")) _ _ (Files j) (bounded_files command.Check 64 rest j (omega arith))
    (If (bytes_eq word (codes "save")) _ _ (Files j) (bounded_files command.Save 1 rest j (omega arith))
    (If (bytes_eq word (codes "load")) _ _ (Files j) (bounded_names command.Load 1 (record { given = nothing_given; names = rest }) j (omega arith) four)
    (If (bytes_eq word (codes "verify")) _ _ (Files j) (bounded_names command.Verify 1 (record { given = nothing_given; names = rest }) j (omega arith) four)
    (If (bytes_eq word (codes "trial")) _ _ (Files j) (no_text Trial rest j (λ n s w h. cc))
    (If (bytes_eq word (codes "churn")) _ _ (Files j) (no_text Churn rest j (λ n s w h. cc)) (λ h. absurd (cc)))))))))
    e
  where
    four : FewWorkers None
    four = record { low = omega arith; high = omega arith }

-- what words ask for of files is so bounded
pub asked_bounded : (words : List (List ℕ)) (j : Job) → asked_of words ≡ Some (Files j) → Bounded j
asked_bounded [] j e = absurd (cc)
asked_bounded (word ∷ rest) j e = bounded_form word rest j e

-- ---- generated texts

-- the workers for a generated text are few
abbrev FewFor : Asked → Type 0
FewFor (Files j) = Unit {0}
FewFor (Trial number size workers) = FewWorkers (Some workers)
FewFor (Churn number size workers) = FewWorkers (Some workers)

few_behind : (rest : List (List ℕ)) (n : ℕ) → workers_behind rest ≡ Some n → FewWorkers (Some n)
few_behind [] n e = subst (λ (m : ℕ). FewWorkers (Some m)) (some_same 4 n e) (record { low = omega arith; high = omega arith })
few_behind (option ∷ []) n e = absurd (cc)
few_behind (option ∷ word ∷ []) n e = of_if (FewWorkers (Some n)) (bytes_eq option (codes "--workers")) (workers_of word) None n (few_of word n) (λ h. absurd (cc)) e
few_behind (option ∷ word ∷ further ∷ rest) n e = absurd (cc)

few_generated : (words : List (List ℕ)) (g : Generated) → generated_of words ≡ Some g → FewWorkers (Some g.workers)
few_generated [] g e = absurd (cc)
few_generated (number ∷ []) g e = absurd (cc)
few_generated (number ∷ size ∷ rest) g e = by (number_from number) (size_from size) (workers_behind rest) refl e
  where
    by : (n s w : Option ℕ) → workers_behind rest ≡ w → generated_by n s w ≡ Some g → FewWorkers (Some g.workers)
    by None s w k h = absurd (cc)
    by (Some n) None w k h = absurd (cc)
    by (Some n) (Some s) None k h = absurd (cc)
    by (Some n) (Some s) (Some w) k h = subst (λ (x : Generated). FewWorkers (Some x.workers)) (some_same (record { number = n; size = s; workers = w }) g h) (few_behind rest w k)

few_text : (form : ℕ → ℕ → ℕ → Asked) (words : List (List ℕ)) (a : Asked) → ((g : Generated) → FewWorkers (Some g.workers) → FewFor (form g.number g.size g.workers)) → text_form form words ≡ Some a → FewFor a
few_text form words a few e = of_map (λ (g : Generated). form g.number g.size g.workers) FewFor (generated_of words) a (λ g is. few g (few_generated words g is)) e

few_names : (c : Command) (most : ℕ) (t : Taken) (a : Asked) → with_names c most t ≡ Some a → FewFor a
few_names c most t a e =
    of_if (FewFor a) (are_names most t.names) (Some (job_of c t.given t.names)) None a (λ h. subst FewFor (some_same (job_of c t.given t.names) a h) tt) (λ h. absurd (cc)) e

few_files : (c : Command) (most : ℕ) (words : List (List ℕ)) (a : Asked) → files_form c most words ≡ Some a → FewFor a
few_files c most words a e = of_then (with_names c most) (FewFor a) (take_options nothing_given words) a (λ t is. few_names c most t a) e

few_form : (word : List ℕ) (rest : List (List ℕ)) (a : Asked) → form_of word rest ≡ Some a → FewFor a
few_form word rest a e =
    let If = of_if {A = Asked} (FewFor a) in
    If (bytes_eq word (codes "code")) _ _ a (few_files command.Code 64 rest a)
    (If (bytes_eq word (codes "scopes")) _ _ a (few_files command.Scopes 64 rest a)
    (If (bytes_eq word (codes "check")) _ _ a (few_files command.Check 64 rest a)
    (If (bytes_eq word (codes "save")) _ _ a (few_files command.Save 1 rest a)
    (If (bytes_eq word (codes "load")) _ _ a (few_names command.Load 1 (record { given = nothing_given; names = rest }) a)
    (If (bytes_eq word (codes "verify")) _ _ a (few_names command.Verify 1 (record { given = nothing_given; names = rest }) a)
    (If (bytes_eq word (codes "trial")) _ _ a (few_text Trial rest a (λ g few. few))
    (If (bytes_eq word (codes "churn")) _ _ a (few_text Churn rest a (λ g few. few)) (λ h. absurd (cc)))))))))
    e

-- the workers for a text whose functions are compiled again and again
pub churn_asked : (words : List (List ℕ)) (number size workers : ℕ) → asked_of words ≡ Some (Churn number size workers) → (1 ≤ workers) × (workers ≤ 16)
churn_asked [] number size workers e = absurd (cc)
churn_asked (word ∷ rest) number size workers e =
    let few : FewWorkers (Some workers) = few_form word rest (Churn number size workers) e in
    (few.low, few.high)

-- the workers for a trial
pub trial_asked : (words : List (List ℕ)) (number size workers : ℕ) → asked_of words ≡ Some (Trial number size workers) → (1 ≤ workers) × (workers ≤ 16)
trial_asked [] number size workers e = absurd (cc)
trial_asked (word ∷ rest) number size workers e =
    let few : FewWorkers (Some workers) = few_form word rest (Trial number size workers) e in
    (few.low, few.high)
