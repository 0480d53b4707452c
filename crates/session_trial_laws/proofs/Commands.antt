-- The commands `trial` and `churn` ask for no more lines than a text may have, so what they ask for is a script.
use Rattle.std.proofs.Common.{◌≡◌, ℕ, ◌≤◌, List, [], ◌∷◌, Bool, true, false, cond, codes, subst, refl, Option, Some, None}
use Rattle.std.specs.Prelude.{◌&&◌, nat_le, bytes_eq, IfSome, option_map, option_and_then}
use Rattle.std.proofs.lemmas.Bool.{leb-true}
use Rattle.script_grammar.specs.Tree.{Stmts}
use Rattle.session_words.specs.declared.options.Command.{Command}
use Rattle.session_words.specs.declared.options.Command.TheVariants as command
use Rattle.session_words.specs.Asked.{Asked, Files, Trial, Churn}
use Rattle.session_words.specs.Asked as asked
use Rattle.session_words.specs.Numbers.{is_number, value}
use Rattle.session_words.specs.Words.{Generated, Taken, take_options, nothing_given, are_names, job_of, with_names, files_form, image_form, number_from, size_from, workers_behind, generated_by, text_form, form_of, asked_of}
use Rattle.session_trial.specs.Generated.{generated}
use Rattle.session_specs.specs.Sources.{HasAll}
use Rattle.session_trial_laws.proofs.Valid.{generated_has_all}

-- a text of at most 100000 lines, where a text is asked for
abbrev AsksFew : Asked → Type 0
AsksFew (Files job) = Unit {0}
AsksFew (Trial number size workers) = size ≤ 100000
AsksFew (Churn number size workers) = size ≤ 100000

abbrev AskFew : Option Asked → Type 0
AskFew o = IfSome o AsksFew

either : (b : Bool) (x y : Option Asked) → AskFew x → AskFew y → AskFew (cond b x y)
either true x y h k = h
either false x y h k = k

last_of : (a b c : Bool) → a && b && c ≡ true → c ≡ true
last_of true true c e = e
last_of true false c e = absurd (cc)
last_of false b c e = absurd (cc)

size_few : (word : List ℕ) → IfSome (size_from word) (λ n. n ≤ 100000)
size_few word = by (is_number word && nat_le 1 (value word) && nat_le (value word) 100000) (λ e. leb-true (value word) 100000 (last_of (is_number word) (nat_le 1 (value word)) (nat_le (value word) 100000) e))
  where
    by : (b : Bool) → (b ≡ true → value word ≤ 100000) → IfSome (cond b (Some (value word)) None) (λ n. n ≤ 100000)
    by true h = h refl
    by false h = tt

text_few : (form : ℕ → ℕ → ℕ → Asked) → ((n s w : ℕ) → s ≤ 100000 → AsksFew (form n s w)) → (words : List (List ℕ)) → AskFew (text_form form words)
text_few form few [] = tt
text_few form few (number ∷ []) = tt
text_few form few (number ∷ size ∷ rest) = by (number_from number) (size_from size) (workers_behind rest) (size_few size)
  where
    by : (n s w : Option ℕ) → IfSome s (λ x. x ≤ 100000) → AskFew (option_map (λ (g : Generated). form g.number g.size g.workers) (generated_by n s w))
    by None s w h = tt
    by (Some n) None w h = tt
    by (Some n) (Some s) None h = tt
    by (Some n) (Some s) (Some w) h = few n s w h

names_few : (c : Command) (most : ℕ) (taken : Taken) → AskFew (with_names c most taken)
names_few c most taken = either (are_names most taken.names) (Some (job_of c taken.given taken.names)) None tt tt

files_few : (c : Command) (most : ℕ) (words : List (List ℕ)) → AskFew (files_form c most words)
files_few c most words = by (take_options nothing_given words)
  where
    by : (o : Option Taken) → AskFew (option_and_then (with_names c most) o)
    by None = tt
    by (Some taken) = names_few c most taken

image_few : (c : Command) (words : List (List ℕ)) → AskFew (image_form c words)
image_few c words = names_few c 1 (record { given = nothing_given; names = words })

form_few : (word : List ℕ) (rest : List (List ℕ)) → AskFew (form_of word rest)
form_few word rest =
    either (bytes_eq word (codes "code")) (files_form command.Code 64 rest) _ (files_few command.Code 64 rest)
    (either (bytes_eq word (codes "scopes")) (files_form command.Scopes 64 rest) _ (files_few command.Scopes 64 rest)
    (either (bytes_eq word (codes "check")) (files_form command.Check 64 rest) _ (files_few command.Check 64 rest)
    (either (bytes_eq word (codes "save")) (files_form command.Save 1 rest) _ (files_few command.Save 1 rest)
    (either (bytes_eq word (codes "load")) (image_form command.Load rest) _ (image_few command.Load rest)
    (either (bytes_eq word (codes "verify")) (image_form command.Verify rest) _ (image_few command.Verify rest)
    (either (bytes_eq word (codes "trial")) (text_form Trial rest) _ (text_few Trial (λ n s w h. h) rest)
    (either (bytes_eq word (codes "churn")) (text_form Churn rest) None (text_few Churn (λ n s w h. h) rest) tt)))))))

asked_few : (words : List (List ℕ)) → AskFew (asked_of words)
asked_few [] = tt
asked_few (word ∷ rest) = form_few word rest

-- what words ask for has at most 100000 lines
pub trial_is_few : (words : List (List ℕ)) (number size workers : ℕ) → asked_of words ≡ Some (Trial number size workers) → size ≤ 100000
trial_is_few words number size workers e = subst AskFew e (asked_few words)

pub churn_is_few : (words : List (List ℕ)) (number size workers : ℕ) → asked_of words ≡ Some (Churn number size workers) → size ≤ 100000
churn_is_few words number size workers e = subst AskFew e (asked_few words)

-- and so it is a script that has all its functions
pub trial_has_script : (words : List (List ℕ)) (number size workers : ℕ) → asked_of words ≡ Some (Trial number size workers)
    → (items : Stmts) × (count : ℕ) × HasAll (generated number size) asked.All items count
trial_has_script words number size workers e = generated_has_all number size (trial_is_few words number size workers e)

pub churn_has_script : (words : List (List ℕ)) (number size workers : ℕ) → asked_of words ≡ Some (Churn number size workers)
    → (items : Stmts) × (count : ℕ) × HasAll (generated number size) asked.All items count
churn_has_script words number size workers e = generated_has_all number size (churn_is_few words number size workers e)
