-- What is known of one file of a command, and of what a worker answers for it.
use Rattle.std.proofs.Common.{List, Option, Some, String, Vec, [], ap, arith, length, map, slice_index_or, subst, suc, zero, ℕ, ◌<◌, ◌^◌, ◌∙◌, ◌∷◌, ◌≡◌}
use Rattle.std.proofs.lemmas.Option.{slice_get_within}
use Rattle.std.specs.Prelude.{slice_get}
use Rattle.std.specs.String.{string_bytes}
use Rattle.std.specs.declared.alloc.Global.{Global}
use Rattle.compile_session.specs.Answers.{CountsRead, SettlesRead}
use Rattle.compile_session.specs.Workers.{SettleFiles, SettlesFile}
use Rattle.compile_session.specs.declared.answer.FileAnswer.{FileAnswer}
use Rattle.helper_tasks.specs.Jobs.{GivesEach}
use Rattle.session_outside.specs.Loops.{HasAtMost, HaveAtMost}
use Rattle.session_words.specs.Asked.{job}
use Rattle.session_words.specs.declared.options.FileJob.{FileJob}

-- what was read of a file has no more bytes than there may be
pub read_within : (most : ℕ) (reads : List (Option (Vec ℕ Global))) (number : ℕ) (d : Option (Vec ℕ Global)) → HaveAtMost most reads → number < length reads → HasAtMost most (slice_index_or reads number d)
read_within most [] number d all h = absurd (omega (arith, h))
read_within most (r ∷ rs) zero d all h = all.0
read_within most (r ∷ rs) (suc n) d all h = read_within most rs n d all.1 (omega (arith, h))

same_of : {A : Type 0} (a b : A) → ◌≡◌ {A = Option A} (Some a) (Some b) → a ≡ b
same_of a b e = cc

got : {A : Type 0} (xs : List A) (number : ℕ) (d x : A) → slice_get xs number ≡ Some x → slice_index_or xs number d ≡ x
got [] number d x e = absurd (cc)
got (y ∷ ys) zero d x e = same_of y x e
got (y ∷ ys) (suc n) d x e = got ys n d x e

named_at : (names : List (String Global)) (number : ℕ) (e : String Global) (name : List ℕ) → slice_get (map string_bytes names) number ≡ Some name → string_bytes (slice_index_or names number e) ≡ name
named_at [] number e name h = absurd (cc)
named_at (x ∷ xs) zero e name h = same_of (string_bytes x) name h
named_at (x ∷ xs) (suc n) e name h = named_at xs n e name h

-- an answer for a file by its name and what was read of it is that for the file of this number
pub settles_named : (j : FileJob) (reads : List (Option (Vec ℕ Global))) (number : ℕ) (e : String Global) (d : Option (Vec ℕ Global)) (answer : FileAnswer)
    → SettlesRead (job j) (string_bytes (slice_index_or j.files.items number e)) (slice_index_or reads number d) answer → CountsRead (job j) (slice_index_or reads number d) answer.compiled → answer.compiled < 2 ^ 24
    → SettlesFile (job j) reads number answer
settles_named j reads number e d answer settles counts few = record {
  settles = λ name read named is.
      subst (λ (r : Option (Vec ℕ Global)). SettlesRead (job j) name r answer) (got reads number d read is)
      (subst (λ (n : List ℕ). SettlesRead (job j) n (slice_index_or reads number d) answer) (named_at j.files.items number e name named) settles);
  counts = λ read is. subst (λ (r : Option (Vec ℕ Global)). CountsRead (job j) r answer.compiled) (got reads number d read is) counts;
  few = few;
}

-- the same of a name as it was taken out of the list
pub settles_taken : (j : FileJob) (reads : List (Option (Vec ℕ Global))) (number : ℕ) (item : String Global) (text : List ℕ) (d : Option (Vec ℕ Global)) (answer : FileAnswer)
    → item ≡ slice_index_or j.files.items number item → text ≡ string_bytes item → SettlesRead (job j) text (slice_index_or reads number d) answer → CountsRead (job j) (slice_index_or reads number d) answer.compiled → answer.compiled < 2 ^ 24
    → SettlesFile (job j) reads number answer
settles_taken j reads number item text d answer is_item is_text settles counts few =
    settles_named j reads number item d answer (subst (λ (n : List ℕ). SettlesRead (job j) n (slice_index_or reads number d) answer) (is_text ∙ ap string_bytes is_item) settles) counts few

-- what all tasks give are the answers for all files
pub settle_files : (j : FileJob) (reads : List (Option (Vec ℕ Global))) (count : ℕ) (answers : List FileAnswer) → length answers ≡ count → GivesEach (λ (number : ℕ) (answer : FileAnswer). SettlesFile (job j) reads number answer) answers → SettleFiles (job j) reads count answers
settle_files j reads count answers long each = record {
  long = long;
  each = λ number answer is. subst (λ (a : FileAnswer). SettlesFile (job j) reads number a) (got answers number answer answer is) (each number answer (slice_get_within answers number answer is));
}
