-- Many files: their answer is put together from those of each, and there is no other.
use Rattle.std.proofs.Common.{Bool, List, None, Option, Some, Vec, [], ap, append-nil, append_assoc, arith, drop, false, get_or, length, map, min, refl, subst, suc, sym, take, true, zero, ℕ, ◌++◌, ◌+◌, ◌<◌, ◌^◌, ◌∙◌, ◌∷◌, ◌≡◌, ◌≤◌}
use Rattle.std.proofs.lemmas.List.{length-map}
use Rattle.std.proofs.lemmas.Option.{slice_get-get_or, slice_get_within}
use Rattle.std.specs.Prelude.{slice_get, ◌||◌}
use Rattle.std.specs.String.{string_bytes}
use Rattle.std.specs.declared.alloc.Global.{Global}
use Rattle.compile_session.specs.Answers.{Settles, SettlesRead}
use Rattle.compile_session.specs.Files.{SettlesAll}
use Rattle.compile_session.specs.Workers.{SettleFiles}
use Rattle.compile_session.specs.declared.answer.FileAnswer.{FileAnswer}
use Rattle.session_outside.specs.Loops.{AreWholeBehind, HasAtMost, HaveAtMost, IsWholeBehind}
use Rattle.session_specs.specs.Answer.{most_bytes}
use Rattle.session_words.specs.Asked.{Job, job}
use Rattle.session_words.specs.declared.options.FileJob.{FileJob}

or_assoc : (a b c : Bool) → ((a || b) || c) ≡ (a || (b || c))
or_assoc true b c = refl
or_assoc false b c = refl

or_false : (a : Bool) → (a || false) ≡ a
or_false true = refl
or_false false = refl

-- no file
settles_none : (job : Job) (held : List ℕ → List ℕ) (before : ℕ) → SettlesAll job held before [] [] false
settles_none job held before = record { is = (refl, refl); only = λ other r h. h }

-- one file, and others after it
settles_more : (job : Job) (held : List ℕ → List ℕ) (before : ℕ) (name : List ℕ) (names : List (List ℕ)) (text later : List ℕ) (refused later_refused : Bool)
    → Settles job before name (held name) text refused → SettlesAll job held (before + length (held name)) names later later_refused
    → SettlesAll job held before (name ∷ names) (text ++ later) (refused || later_refused)
settles_more job held before name names text later refused later_refused one all = record {
  is = (text, refused, later, later_refused, one.is, all.is, refl, refl);
  only = λ other r h.
      let a = one.only h.0 h.1 h.4 in
      let b = all.only h.2 h.3 h.5 in
      (h.6 ∙ ap (λ (t : List ℕ). t ++ h.2) a.0 ∙ ap (λ (t : List ℕ). text ++ t) b.0, h.7 ∙ ap (λ (x : Bool). x || h.3) a.1 ∙ ap (λ (x : Bool). refused || x) b.1);
}

-- the bytes of the files of these names, after n
unfoldable pub total : (List ℕ → List ℕ) → ℕ → List (List ℕ) → ℕ
total held before [] = before
total held before (name ∷ names) = total held (before + length (held name)) names

-- In the middle of the files: whatever is answered for those that are left is answered for all after what is there. `reads` are
-- what was read of all.
pub record IsAnswering (job : Job) (names : List (List ℕ)) (reads : List (Option (Vec ℕ Global))) (index : ℕ) (text : List ℕ) (refused : Bool) : Type 0 where
  pub later : (held : List ℕ → List ℕ) → AreWholeBehind most_bytes held 0 names reads → (more : List ℕ) (more_refused : Bool)
      → SettlesAll job held (total held 0 (take index names)) (drop index names) more more_refused → SettlesAll job held 0 names (text ++ more) (refused || more_refused)

-- nothing is answered yet
pub answering_start : (job : Job) (names : List (List ℕ)) (reads : List (Option (Vec ℕ Global))) (text : List ℕ) → text ≡ [] → IsAnswering job names reads 0 text false
unfolding total
answering_start job names reads text none =
    subst (λ (t : List ℕ). IsAnswering job names reads 0 t false) (sym none) (record { later = λ held whole more r s. s })

-- what was read of a file in this place
pub read_at : (held : List ℕ → List ℕ) (before : ℕ) (names : List (List ℕ)) (reads : List (Option (Vec ℕ Global))) (index : ℕ) (d : List ℕ) (e : Option (Vec ℕ Global)) → index < length names → index < length reads → AreWholeBehind most_bytes held before names reads
    → IsWholeBehind most_bytes (total held before (take index names)) (held (get_or names index d)) (get_or reads index e)
unfolding total
read_at held before [] reads index d e h k whole = absurd (omega (arith, h))
read_at held before (n ∷ ns) [] index d e h k whole = absurd (omega (arith, k))
read_at held before (n ∷ ns) (r ∷ rs) zero d e h k whole = whole.0
read_at held before (n ∷ ns) (r ∷ rs) (suc index) d e h k whole = read_at held (before + length (held n)) ns rs index d e (omega (arith, h)) (omega (arith, k)) whole.1

pub total_more : (held : List ℕ → List ℕ) (before : ℕ) (names : List (List ℕ)) (index : ℕ) (d : List ℕ) → index < length names → total held before (take (suc index) names) ≡ total held before (take index names) + length (held (get_or names index d))
unfolding total
total_more held before [] index d h = absurd (omega (arith, h))
total_more held before (n ∷ ns) zero d h = refl
total_more held before (n ∷ ns) (suc index) d h = total_more held (before + length (held n)) ns index d (omega (arith, h))

pub drop_more : (names : List (List ℕ)) (index : ℕ) (d : List ℕ) → index < length names → drop index names ≡ get_or names index d ∷ drop (suc index) names
drop_more [] index d h = absurd (omega (arith, h))
drop_more (n ∷ ns) zero d h = refl
drop_more (n ∷ ns) (suc index) d h = drop_more ns index d (omega (arith, h))

-- one more file is answered
pub answering_more : (job : Job) (names : List (List ℕ)) (reads : List (Option (Vec ℕ Global))) (index : ℕ) (text new text_of : List ℕ) (refused refused_of : Bool) (name : List ℕ) (read : Option (Vec ℕ Global)) (d : List ℕ) (e : Option (Vec ℕ Global))
    → index < length names → index < length reads → name ≡ get_or names index d → read ≡ get_or reads index e
    → ((before : ℕ) (file : List ℕ) → IsWholeBehind most_bytes before file read → Settles job before name file text_of refused_of)
    → new ≡ text ++ text_of → IsAnswering job names reads index text refused → IsAnswering job names reads (index + 1) new (refused || refused_of)
answering_more job names reads index text new text_of refused refused_of name read d e h k named is settles grown at =
    let one : suc index ≡ index + 1 = omega arith in
    subst (λ (n : ℕ). IsAnswering job names reads n new (refused || refused_of)) one (subst (λ (t : List ℕ). IsAnswering job names reads (suc index) t (refused || refused_of)) (sym grown) (record {
      later = λ held whole more r s.
          let b : ℕ = total held 0 (take index names) in
          let w : IsWholeBehind most_bytes b (held name) read =
          subst (λ (n : List ℕ). IsWholeBehind most_bytes b (held n) read) (sym named)
          (subst (λ (o : Option (Vec ℕ Global)). IsWholeBehind most_bytes b (held (get_or names index d)) o) (sym is) (read_at held 0 names reads index d e h k whole)) in
          let rest : SettlesAll job held (b + length (held name)) (drop (suc index) names) more r =
          subst (λ (n : List ℕ). SettlesAll job held (b + length (held n)) (drop (suc index) names) more r) (sym named)
          (subst (λ (n : ℕ). SettlesAll job held n (drop (suc index) names) more r) (total_more held 0 names index d h) s) in
          let all : SettlesAll job held b (name ∷ drop (suc index) names) (text_of ++ more) (refused_of || r) = settles_more job held b name (drop (suc index) names) text_of more refused_of r (settles b (held name) w) rest in
          let placed : name ∷ drop (suc index) names ≡ drop index names = ap (λ (n : List ℕ). n ∷ drop (suc index) names) named ∙ sym (drop_more names index d h) in
          let got = at.later held whole (text_of ++ more) (refused_of || r) (subst (λ (ns : List (List ℕ)). SettlesAll job held b ns (text_of ++ more) (refused_of || r)) placed all) in
          subst (λ (t : List ℕ). SettlesAll job held 0 names t ((refused || refused_of) || r)) (sym (append_assoc text text_of more))
          (subst (λ (x : Bool). SettlesAll job held 0 names (text ++ (text_of ++ more)) x) (sym (or_assoc refused refused_of r)) got);
    }))

pub same_length : (held : List ℕ → List ℕ) (before : ℕ) (names : List (List ℕ)) (reads : List (Option (Vec ℕ Global))) → AreWholeBehind most_bytes held before names reads → length names ≡ length reads
same_length held before [] [] w = refl
same_length held before [] (r ∷ rs) w = absurd w
same_length held before (n ∷ ns) [] w = absurd w
same_length held before (n ∷ ns) (r ∷ rs) w = ap suc (same_length held (before + length (held n)) ns rs w.1)

pub drop_all : (names : List (List ℕ)) (index : ℕ) → length names ≤ index → drop index names ≡ []
drop_all [] zero h = refl
drop_all [] (suc index) h = refl
drop_all (n ∷ ns) zero h = absurd (omega (arith, h))
drop_all (n ∷ ns) (suc index) h = drop_all ns index (omega (arith, h))

-- all files are answered
pub answering_end : (job : Job) (names : List (List ℕ)) (reads : List (Option (Vec ℕ Global))) (index : ℕ) (text : List ℕ) (refused : Bool) → ((n : ℕ) → n ≡ length names → n ≡ length reads → n ≤ index) → IsAnswering job names reads index text refused
    → (held : List ℕ → List ℕ) → AreWholeBehind most_bytes held 0 names reads → SettlesAll job held 0 names text refused
answering_end job names reads index text refused beyond at held whole =
    let none : drop index names ≡ [] = drop_all names index (beyond (length names) refl (same_length held 0 names reads whole)) in
    let got = at.later held whole [] false (subst (λ (ns : List (List ℕ)). SettlesAll job held (total held 0 (take index names)) ns [] false) (sym none) (settles_none job held (total held 0 (take index names)))) in
    subst (λ (t : List ℕ). SettlesAll job held 0 names t refused) (append-nil text) (subst (λ (x : Bool). SettlesAll job held 0 names (text ++ []) x) (or_false refused) got)

-- ---- the loop over the files and what was read of them

-- what was read of one of them
pub within_at : (most : ℕ) (reads : List (Option (Vec ℕ Global))) (index : ℕ) (read : Option (Vec ℕ Global)) → HaveAtMost most reads → index < length reads → read ≡ get_or reads index read → HasAtMost most read
within_at most reads index read all h is = subst (λ (r : Option (Vec ℕ Global)). HasAtMost most r) (sym is) (by reads index all h)
  where
    by : (rs : List (Option (Vec ℕ Global))) (i : ℕ) → HaveAtMost most rs → i < length rs → HasAtMost most (get_or rs i read)
    by [] i a k = absurd (omega (arith, k))
    by (r ∷ rs) zero a k = a.0
    by (r ∷ rs) (suc i) a k = by rs i a.1 (omega (arith, k))

-- one of the answers: the functions that were compiled for it can be counted in 32 bits
pub few_at : (j : FileJob) (reads : List (Option (Vec ℕ Global))) (count index : ℕ) (answers : List FileAnswer) (answer : FileAnswer) → SettleFiles (job j) reads count answers → slice_get answers index ≡ Some answer → (index < count) × (answer.compiled < 2 ^ 24)
few_at j reads count index answers answer all is =
    let inside = slice_get_within answers index answer is in
    let long = all.long in
    (omega (arith, inside, long), (all.each index answer is).few)

-- the loop goes on
pub answered_more : (j : FileJob) (reads : List (Option (Vec ℕ Global))) (count index next : ℕ) (answers : List FileAnswer) (text new : List ℕ) (refused now : Bool) (answer : FileAnswer)
    → SettleFiles (job j) reads count answers → count ≤ length j.files.items → count ≤ length reads → slice_get answers index ≡ Some answer
    → new ≡ text ++ answer.text → now ≡ (refused || answer.refused) → next ≡ index + 1
    → IsAnswering (job j) (map string_bytes j.files.items) reads index text refused → IsAnswering (job j) (map string_bytes j.files.items) reads next new now
answered_more j reads count index next answers text new refused now answer all named are_read is grown or one at =
    let names : List (List ℕ) = map string_bytes j.files.items in
    let long : length names ≡ length j.files.items = length-map j.files.items string_bytes in
    let inside : index < length answers = slice_get_within answers index answer is in
    let counted = all.long in
    let h : index < length names = omega (arith, inside, counted, named, long) in
    let k : index < length reads = omega (arith, inside, counted, are_read) in
    let settles : SettlesRead (job j) (get_or names index []) (get_or reads index None) answer =
    (all.each index answer is).settles (get_or names index []) (get_or reads index None) (slice_get-get_or names index [] h) (slice_get-get_or reads index None k) in
    let more = answering_more (job j) names reads index text new answer.text refused answer.refused (get_or names index []) (get_or reads index None) [] None h k refl refl settles grown at in
    subst (λ (n : ℕ). IsAnswering (job j) names reads n new now) (sym one) (subst (λ (x : Bool). IsAnswering (job j) names reads (index + 1) new x) (sym or) more)

-- the loop is at its end
pub answered_end : (j : FileJob) (reads : List (Option (Vec ℕ Global))) (count index : ℕ) (text : List ℕ) (refused : Bool) → count ≡ min (length j.files.items) (length reads) → count ≤ index
    → IsAnswering (job j) (map string_bytes j.files.items) reads index text refused
    → (held : List ℕ → List ℕ) → AreWholeBehind most_bytes held 0 (map string_bytes j.files.items) reads → SettlesAll (job j) held 0 (map string_bytes j.files.items) text refused
answered_end j reads count index text refused is past at =
    let long : length (map string_bytes j.files.items) ≡ length j.files.items = length-map j.files.items string_bytes in
    answering_end (job j) (map string_bytes j.files.items) reads index text refused (λ n a b. omega (arith, a, b, is, past, long)) at

-- whether one of them is refused, with one more
pub or_first : (a b now : Bool) → a ≡ true → now ≡ true → now ≡ (a || b)
or_first true b now e is = is
or_first false b now e is = absurd (cc)

pub or_second : (a b now : Bool) → a ≡ false → now ≡ b → now ≡ (a || b)
or_second true b now e is = absurd (cc)
or_second false b now e is = is
