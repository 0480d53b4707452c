-- The command: what the sink has taken is a front of the answer.
use Rattle.std.proofs.Common.{Bool, List, None, Option, Some, Vec, [], ap, append-nil, arith, false, refl, subst, sym, true, ℕ, ◌++◌, ◌+◌, ◌∙◌, ◌∷◌, ◌≡◌, ◌≤◌}
use Rattle.std.specs.Prelude.{◌*◌}
use Rattle.std.specs.declared.alloc.Global.{Global}
use Rattle.compile_session.proofs.CompiledLemmas.{one_number}
use Rattle.compile_session.specs.Alike.{AskAlike, IsAlike}
use Rattle.compile_session.specs.Compiled.{IsCompiledBy, MayCompile, workers_of}
use Rattle.compile_session.specs.Files.{AnswersWork, CountsWork, SettlesWork, compiles_once, status_of}
use Rattle.compile_session.specs.Work.{files_of, names_of}
use Rattle.compile_session.specs.Printed.{texts_in}
use Rattle.compile_session.specs.declared.answer.WholeAnswer.{WholeAnswer}
use Rattle.compile_session.specs.declared.status.Status.{Status}
use Rattle.compile_tally.specs.Tally.{Rises}
use Rattle.session_outside.specs.Loops.{ReadsAllWithin, opened_within}
use Rattle.session_outside.specs.Shelf.{TurnsToFront, opened}
use Rattle.session_outside.specs.Sink.{Gains, GainsFront}
use Rattle.session_specs.specs.Answer.{IsAnswer, IsAnswerTo, IsChurn, IsOfFiles, IsTrial, most_bytes}
use Rattle.session_specs.specs.Compiled.{CompilesAsked, ShowsCompiled, words_compile_none}
use Rattle.session_words.specs.Asked.{Asked, Churn, Files, Trial, job}
use Rattle.session_words.specs.Words.{asked_of}

-- what is answered, where the shelf tells what it holds, by what the calls saw of the names and of what was read
pub settled_seen : (a : Asked) (shelf : Option (List ℕ → List ℕ)) (held : List ℕ → List ℕ) (names : List (List ℕ)) (reads seen : List (Option (Vec ℕ Global))) (answer : WholeAnswer) → names ≡ files_of a → seen ≡ reads → shelf ≡ Some held
    → ReadsAllWithin shelf names most_bytes reads → AnswersWork a seen answer → SettlesWork a held (texts_in answer.files.items) answer.refused
settled_seen a shelf held names reads seen answer named is tells read answers =
    (subst (λ (l : List (Option (Vec ℕ Global))). AnswersWork a l answer) is answers) held
    (subst (λ (s : Option (List ℕ → List ℕ)). ReadsAllWithin s (files_of a) most_bytes reads) tells (subst (λ (l : List (List ℕ)). ReadsAllWithin shelf l most_bytes reads) named read))

-- the text is the answer
pub answers : (words : List (List ℕ)) (a : Asked) (held : List ℕ → List ℕ) (text : List ℕ) (refused : Bool) → asked_of words ≡ Some a → SettlesWork a held text refused → IsAnswer words held text refused
answers words a held text refused asked s = record { asked = a; form = asked; answer = s.is }

some_same : (a b : Asked) → ◌≡◌ {A = Option Asked} (Some a) (Some b) → a ≡ b
some_same a b h = cc

-- there is no other answer
pub only_answer : (words : List (List ℕ)) (a : Asked) (held : List ℕ → List ℕ) (text out : List ℕ) (refused r : Bool) → asked_of words ≡ Some a → SettlesWork a held text refused → IsAnswer words held out r → text ≡ out
only_answer words a held text out refused r asked s other =
    let e : other.asked ≡ a = some_same other.asked a (sym other.form ∙ asked) in
    sym (s.only out r (subst (λ (x : Asked). IsAnswerTo x held out r) e other.answer)).0

-- whatever the answer is, all of it was written, and the status is its own
pub only_written : (words : List (List ℕ)) (a : Asked) (held : List ℕ → List ℕ) (text seen : List ℕ) (refused : Bool) (before now : Option (List ℕ)) (status : Status) → asked_of words ≡ Some a → SettlesWork a held text refused → seen ≡ text → Gains before now seen → status ≡ status_of refused
    → (out : List ℕ) (r : Bool) → IsAnswer words held out r → (status ≡ status_of r) × Gains before now out
only_written words a held text seen refused before now status asked s same gained is out r other =
    let e : other.asked ≡ a = some_same other.asked a (sym other.form ∙ asked) in
    let one : (out ≡ text) × (r ≡ refused) = s.only out r (subst (λ (x : Asked). IsAnswerTo x held out r) e other.answer) in
    (is ∙ ap status_of (sym one.1), subst (λ (l : List ℕ). Gains before now l) (same ∙ sym one.0) gained)

-- what is asked alike has the same answers
answer_alike : (a b : Asked) (held : List ℕ → List ℕ) (out : List ℕ) (r : Bool) → IsAlike a b → IsAnswerTo b held out r → IsAnswerTo a held out r
answer_alike (Files a) (Files b) held out r same answer =
    subst (λ c. IsOfFiles c a.want held 0 a.files out r) (sym same.0) (subst (λ w. IsOfFiles b.command w held 0 a.files out r) (sym same.1) (subst (λ (fs : List (List ℕ)). IsOfFiles b.command b.want held 0 fs out r) (sym same.2) answer))
answer_alike (Files a) (Trial n s w) held out r same answer = absurd same
answer_alike (Files a) (Churn n s w) held out r same answer = absurd same
answer_alike (Trial n s w) (Files b) held out r same answer = absurd same
answer_alike (Trial n s w) (Trial m t v) held out r same answer =
    subst (λ (k : ℕ). IsTrial k s out × (r ≡ false)) (sym same.0) (subst (λ (k : ℕ). IsTrial m k out × (r ≡ false)) (sym same.1) answer)
answer_alike (Trial n s w) (Churn m t v) held out r same answer = absurd same
answer_alike (Churn n s w) (Files b) held out r same answer = absurd same
answer_alike (Churn n s w) (Trial m t v) held out r same answer = absurd same
answer_alike (Churn n s w) (Churn m t v) held out r same answer =
    subst (λ (k : ℕ). IsChurn k s out × (r ≡ false)) (sym same.0) (subst (λ (k : ℕ). IsChurn m k out × (r ≡ false)) (sym same.1) answer)

-- an answer to words that ask for the same is an answer to these
pub of_alike : (words others : List (List ℕ)) (held : List ℕ → List ℕ) (out : List ℕ) (r : Bool) → AskAlike words others → IsAnswer others held out r → IsAnswer words held out r
of_alike words others held out r alike other = record {
  asked = alike.asked;
  form = alike.form;
  answer = answer_alike alike.asked alike.asked_by_others held out r alike.alike
      (subst (λ (x : Asked). IsAnswerTo x held out r) (some_same other.asked alike.asked_by_others (sym other.form ∙ alike.form_of_others)) other.answer);
}

-- what was written in part is a front of every answer
pub front_of_answer : (words : List (List ℕ)) (a : Asked) (held : List ℕ → List ℕ) (text seen : List ℕ) (refused : Bool) (before now : Option (List ℕ)) → asked_of words ≡ Some a → SettlesWork a held text refused → seen ≡ text → GainsFront before now seen
    → (out : List ℕ) (r : Bool) → IsAnswer words held out r → GainsFront before now out
front_of_answer words a held text seen refused before now asked s same gained out r other =
    subst (λ (l : List ℕ). GainsFront before now l) (same ∙ only_answer words a held text out refused r asked s other) gained

-- all is a front
pub GainsFront-all : (before now : Option (List ℕ)) (bytes : List ℕ) → Gains before now bytes → GainsFront before now bytes
GainsFront-all None now bytes gained = gained
GainsFront-all (Some taken) now bytes gained = (bytes, [], sym (append-nil bytes), gained)

-- nothing is a front
pub GainsFront-none : (taken : Option (List ℕ)) (bytes : List ℕ) → GainsFront taken taken bytes
GainsFront-none None bytes = refl
GainsFront-none (Some taken) bytes = ([], bytes, refl, ap Some (sym (append-nil taken)))

-- ---- the names that the shelf was turned to

opened_front : (names : List (List ℕ)) (reads : List (Option (Vec ℕ Global))) → (rest : List (List ℕ)) × (names ≡ opened names reads ++ rest)
opened_front [] reads = ([], refl)
opened_front (n ∷ ns) [] = (n ∷ ns, refl)
opened_front (n ∷ ns) (None ∷ rs) = (ns, refl)
opened_front (n ∷ ns) (Some b ∷ rs) =
    let h = opened_front ns rs in
    (h.0, ap (λ (l : List (List ℕ)). n ∷ l) h.1)

-- the names of the files that are read
names_are : (words : List (List ℕ)) (a : Asked) (names : List (List ℕ)) → asked_of words ≡ Some a → names ≡ files_of a → names ≡ names_of (asked_of words)
names_are words a names is same = same ∙ sym (ap names_of is)

-- the shelf was turned to a front of them
pub turned_front : (words : List (List ℕ)) (a : Asked) (names : List (List ℕ)) (reads : List (Option (Vec ℕ Global))) (before now : List (List ℕ)) → asked_of words ≡ Some a → names ≡ files_of a
    → now ≡ before ++ opened names reads → TurnsToFront before now (names_of (asked_of words))
turned_front words a names reads before now is same turned =
    let h = opened_front names reads in
    subst (λ (ns : List (List ℕ)). TurnsToFront before now ns) (names_are words a names is same) (opened names reads, h.0, h.1, turned)

-- where the shelf tells what it holds, it was turned to those that are to be opened
pub opened_all : (words : List (List ℕ)) (a : Asked) (held : List ℕ → List ℕ) (names : List (List ℕ)) (before now : List (List ℕ)) → asked_of words ≡ Some a → names ≡ files_of a
    → now ≡ before ++ opened_within most_bytes held 0 names → now ≡ before ++ opened_within most_bytes held 0 (names_of (asked_of words))
opened_all words a held names before now is same turned =
    subst (λ (ns : List (List ℕ)). now ≡ before ++ opened_within most_bytes held 0 ns) (names_are words a names is same) turned

-- all of these are some from the first on
pub opened_whole : (words : List (List ℕ)) (a : Asked) (held : List ℕ → List ℕ) (names : List (List ℕ)) (before now : List (List ℕ)) → asked_of words ≡ Some a → names ≡ files_of a
    → now ≡ before ++ opened_within most_bytes held 0 names → TurnsToFront before now (opened_within most_bytes held 0 (names_of (asked_of words)))
opened_whole words a held names before now is same turned =
    let all = opened_within most_bytes held 0 (names_of (asked_of words)) in
    (all, [], sym (append-nil all), opened_all words a held names before now is same turned)

-- some of these were turned to, where the shelf refused one
pub opened_some : (words : List (List ℕ)) (a : Asked) (held : List ℕ → List ℕ) (names : List (List ℕ)) (before now : List (List ℕ)) → asked_of words ≡ Some a → names ≡ files_of a
    → TurnsToFront before now (opened_within most_bytes held 0 names) → TurnsToFront before now (opened_within most_bytes held 0 (names_of (asked_of words)))
opened_some words a held names before now is same turned =
    subst (λ (ns : List (List ℕ)). TurnsToFront before now (opened_within most_bytes held 0 ns)) (names_are words a names is same) turned

-- ---- what is counted

-- n functions are compiled, where the shelf tells what it holds, by what the calls saw of the names and of what was read
pub counted_seen : (a : Asked) (shelf : Option (List ℕ → List ℕ)) (held : List ℕ → List ℕ) (names : List (List ℕ)) (reads seen : List (Option (Vec ℕ Global))) (count : ℕ) → names ≡ files_of a → seen ≡ reads → shelf ≡ Some held
    → ReadsAllWithin shelf names most_bytes reads → CountsWork a seen count → compiles_once a ≡ true → CompilesAsked a held count
counted_seen a shelf held names reads seen count named is tells read counts once =
    counts.is once held
    (subst (λ (l : List (Option (Vec ℕ Global))). ReadsAllWithin (Some held) (files_of a) most_bytes l) (sym is)
    (subst (λ (s : Option (List ℕ → List ℕ)). ReadsAllWithin s (files_of a) most_bytes reads) tells (subst (λ (l : List (List ℕ)). ReadsAllWithin shelf l most_bytes reads) named read)))

once_by : (a : Asked) (held : List ℕ → List ℕ) (count : ℕ) → CompilesAsked a held count → compiles_once a ≡ true
once_by (Files job) held count h = refl
once_by (Trial number size workers) held count h = refl
once_by (Churn number size workers) held count h = absurd h

-- words that show a number of functions compiled compile each once
pub once_shown : (words : List (List ℕ)) (a : Asked) (held : List ℕ → List ℕ) (count : ℕ) → asked_of words ≡ Some a → ShowsCompiled words held count → compiles_once a ≡ true
once_shown words a held count asked shows = once_by a held count (subst (λ (x : Asked). CompilesAsked x held count) (some_same shows.asked a (sym shows.form ∙ asked)) shows.compiled)

-- as many as the answer to the words shows
pub shows_compiled : (words : List (List ℕ)) (a : Asked) (held : List ℕ → List ℕ) (count : ℕ) → asked_of words ≡ Some a → CompilesAsked a held count → ShowsCompiled words held count
shows_compiled words a held count asked c = record { asked = a; form = asked; compiled = c }

-- the same of words that also ask for so many workers
pub may_show : (words : List (List ℕ)) (held : List ℕ → List ℕ) (workers compiled : ℕ) → MayCompile words held workers compiled → ShowsCompiled words held compiled
may_show words held workers compiled may = record { asked = may.asked; form = may.form; compiled = may.compiled }

-- it is one number of workers
same_workers : (words : List (List ℕ)) (a : Asked) (held : List ℕ → List ℕ) (workers compiled : ℕ) → asked_of words ≡ Some a → MayCompile words held workers compiled → workers ≡ workers_of a
same_workers words a held workers compiled asked may = may.by ∙ ap workers_of (some_same may.asked a (sym may.form ∙ asked))

module _ (before room now left count : ℕ) (rises : Rises before room now left count) where
  pub risen_sum : now + left ≡ before + room
  risen_sum = let c = rises.count in let r = rises.room in omega (arith, c, r)

  pub risen : before ≤ now
  risen = let c = rises.count in omega (arith, c)

  module _ (words : List (List ℕ)) (a : Asked) (shown : ℕ) (asked : asked_of words ≡ Some a) (by_workers : IsCompiledBy (workers_of a) shown count) where
    module _ (held : List ℕ → List ℕ) (shows : ShowsCompiled words held shown) where
      pub risen_most : (workers compiled : ℕ) → MayCompile words held workers compiled → now ≤ before + workers * compiled
      risen_most workers compiled may =
          let c = rises.count in
          let one = one_number words held shown compiled shows (may_show words held workers compiled may) in
          let by = same_workers words a held workers compiled asked may in
          let most : count ≤ workers * compiled = subst (λ (n : ℕ). count ≤ workers * n) one (subst (λ (n : ℕ). count ≤ n * shown) (sym by) by_workers.most) in
          omega (arith, c, most)

    -- where none is compiled for these words
    pub risen_none : (reads : List (Option (Vec ℕ Global))) → CountsWork a reads shown → words_compile_none (asked_of words) ≡ true → now ≡ before
    risen_none reads counts none =
        let c = rises.count in
        let zero = counts.none (subst (λ (o : Option Asked). words_compile_none o ≡ true) asked none) in
        let most : count ≤ workers_of a * 0 = subst (λ (n : ℕ). count ≤ workers_of a * n) zero by_workers.most in
        omega (arith, c, most)
