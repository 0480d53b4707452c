-- Many files: how many functions are compiled for them is put together from how many are for each.
use Rattle.std.proofs.Common.{List, None, Option, Some, Vec, [], arith, drop, get_or, length, map, min, refl, subst, suc, sym, take, true, ℕ, ◌*◌, ◌+◌, ◌<◌, ◌^◌, ◌∷◌, ◌≡◌, ◌≤◌}
use Rattle.std.proofs.lemmas.List.{length-map}
use Rattle.std.proofs.lemmas.Option.{slice_get-get_or, slice_get_within}
use Rattle.std.specs.Prelude.{slice_get}
use Rattle.std.specs.String.{string_bytes}
use Rattle.std.specs.declared.alloc.Global.{Global}
use native.Mathlib.Nat.{mul-le-mul}
use Rattle.compile_session.proofs.FilesLemmas.{drop_all, drop_more, read_at, same_length, total, total_more}
use Rattle.compile_session.specs.Answers.{CountsRead}
use Rattle.compile_session.specs.Files.{CountsWork}
use Rattle.compile_session.specs.Workers.{SettleFiles, SettlesFile}
use Rattle.compile_session.specs.declared.answer.FileAnswer.{FileAnswer}
use Rattle.session_outside.specs.Loops.{AreWholeBehind}
use Rattle.session_specs.specs.Answer.{most_bytes}
use Rattle.session_specs.specs.Compiled.{CompilesFile, CompilesFiles, compiles_none}
use Rattle.session_words.specs.Asked.{Files, Job, job}
use Rattle.session_words.specs.declared.options.FileJob.{FileJob}

-- In the middle of the files: with whatever is compiled for those that are left, n are compiled for all. `reads` are what was
-- read of all.
pub record IsCounting (j : Job) (names : List (List ℕ)) (reads : List (Option (Vec ℕ Global))) (index : ℕ) (count : ℕ) : Type 0 where
  pub later : (held : List ℕ → List ℕ) → AreWholeBehind most_bytes held 0 names reads → (more : ℕ)
      → CompilesFiles j.command j.want held (total held 0 (take index names)) (drop index names) more → CompilesFiles j.command j.want held 0 names (count + more)
  pub within : index ≤ length names
  pub few : count ≤ index * 2 ^ 24
  pub none : compiles_none (Files j) ≡ true → count ≡ 0

-- the same number
same_files : (j : Job) (held : List ℕ → List ℕ) (before : ℕ) (names : List (List ℕ)) (m n : ℕ) → m ≡ n → CompilesFiles j.command j.want held before names m → CompilesFiles j.command j.want held before names n
same_files j held before names m n e h = subst (λ (k : ℕ). CompilesFiles j.command j.want held before names k) e h

-- nothing is counted yet
pub counting_start : (j : Job) (names : List (List ℕ)) (reads : List (Option (Vec ℕ Global))) → IsCounting j names reads 0 0
unfolding total
counting_start j names reads = record {
  later = λ held whole more h. same_files j held 0 names more (0 + more) (omega arith) h;
  within = omega arith;
  few = omega arith;
  none = λ e. refl;
}

-- one more file is counted
counting_more : (j : Job) (names : List (List ℕ)) (reads : List (Option (Vec ℕ Global))) (index count new one : ℕ) (d : List ℕ) (e : Option (Vec ℕ Global))
    → index < length names → index < length reads → CountsRead j (get_or reads index e) one → one < 2 ^ 24 → new ≡ count + one → IsCounting j names reads index count → IsCounting j names reads (suc index) new
counting_more j names reads index count new one d e h k c low grown at = record {
  later = λ held whole more rest.
      let b : ℕ = total held 0 (take index names) in
      let name : List ℕ = get_or names index d in
      let first : CompilesFile j.command j.want b (held name) one = c.is b (held name) (read_at held 0 names reads index d e h k whole) in
      let others : CompilesFiles j.command j.want held (b + length (held name)) (drop (suc index) names) more =
      subst (λ (n : ℕ). CompilesFiles j.command j.want held n (drop (suc index) names) more) (total_more held 0 names index d h) rest in
      let both : CompilesFiles j.command j.want held b (name ∷ drop (suc index) names) (one + more) = (one, more, first, others, refl) in
      let placed : CompilesFiles j.command j.want held b (drop index names) (one + more) =
      subst (λ (ns : List (List ℕ)). CompilesFiles j.command j.want held b ns (one + more)) (sym (drop_more names index d h)) both in
      same_files j held 0 names (count + (one + more)) (new + more) (omega (arith, grown)) (at.later held whole (one + more) placed);
  within = omega (arith, h);
  few = let a = at.few in omega (arith, a, low, grown);
  none = λ n. let a = at.none n in let o = c.none n in omega (arith, a, o, grown);
}

-- all files are counted
counting_end : (j : Job) (names : List (List ℕ)) (reads : List (Option (Vec ℕ Global))) (index count : ℕ) → ((n : ℕ) → n ≡ length names → n ≡ length reads → n ≤ index) → IsCounting j names reads index count
    → (held : List ℕ → List ℕ) → AreWholeBehind most_bytes held 0 names reads → CompilesFiles j.command j.want held 0 names count
counting_end j names reads index count beyond at held whole =
    let none : drop index names ≡ [] = drop_all names index (beyond (length names) refl (same_length held 0 names reads whole)) in
    let left : CompilesFiles j.command j.want held (total held 0 (take index names)) (drop index names) 0 =
    subst (λ (ns : List (List ℕ)). CompilesFiles j.command j.want held (total held 0 (take index names)) ns 0) (sym none) refl in
    same_files j held 0 names (count + 0) count (omega arith) (at.later held whole 0 left)

-- ---- the loop over the files and what was read of them

-- the answer for one of them
counts_at : (j : FileJob) (reads : List (Option (Vec ℕ Global))) (count index : ℕ) (answers : List FileAnswer) (answer : FileAnswer)
    → SettleFiles (job j) reads count answers → count ≤ length j.files.items → count ≤ length reads → slice_get answers index ≡ Some answer
    → (index < length (map string_bytes j.files.items)) × (index < length reads) × CountsRead (job j) (get_or reads index None) answer.compiled × (answer.compiled < 2 ^ 24)
counts_at j reads count index answers answer all named are_read is =
    let names : List (List ℕ) = map string_bytes j.files.items in
    let long : length names ≡ length j.files.items = length-map j.files.items string_bytes in
    let inside : index < length answers = slice_get_within answers index answer is in
    let counted = all.long in
    let h : index < length names = omega (arith, inside, counted, named, long) in
    let k : index < length reads = omega (arith, inside, counted, are_read) in
    let settles : SettlesFile (job j) reads index answer = all.each index answer is in
    (h, k, settles.counts (get_or reads index None) (slice_get-get_or reads index None k), settles.few)

-- the loop goes on
pub counted_more : (j : FileJob) (reads : List (Option (Vec ℕ Global))) (count index next : ℕ) (answers : List FileAnswer) (before now : ℕ) (answer : FileAnswer)
    → SettleFiles (job j) reads count answers → count ≤ length j.files.items → count ≤ length reads → slice_get answers index ≡ Some answer
    → now ≡ before + answer.compiled → next ≡ index + 1
    → IsCounting (job j) (map string_bytes j.files.items) reads index before → IsCounting (job j) (map string_bytes j.files.items) reads next now
counted_more j reads count index next answers before now answer all named are_read is grown one at =
    let names : List (List ℕ) = map string_bytes j.files.items in
    let c = counts_at j reads count index answers answer all named are_read is in
    let same : suc index ≡ next = omega (arith, one) in
    subst (λ (n : ℕ). IsCounting (job j) names reads n now) same (counting_more (job j) names reads index before now answer.compiled [] None c.0 c.1 c.2 c.3 grown at)

-- the loop is at its end
pub counted_end : (j : FileJob) (reads : List (Option (Vec ℕ Global))) (count index compiled : ℕ) → count ≡ min (length j.files.items) (length reads) → count ≤ index → length j.files.items ≤ 64
    → IsCounting (job j) (map string_bytes j.files.items) reads index compiled → CountsWork (Files (job j)) reads compiled
counted_end j reads count index compiled is past most at =
    let names : List (List ℕ) = map string_bytes j.files.items in
    let long : length names ≡ length j.files.items = length-map j.files.items string_bytes in
    record {
      is = λ once. counting_end (job j) names reads index compiled (λ n a b. omega (arith, a, b, is, past, long)) at;
      few = let f = at.few in let w = at.within in omega (arith, f, w, long, most);
      none = at.none;
    }

-- a product of numbers that are not above others
pub times_most : (w n c m : ℕ) → w ≤ n → c ≤ m → w * c ≤ n * m
times_most w n c m h k = mul-le-mul h k
