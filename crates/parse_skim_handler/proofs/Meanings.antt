-- What is put after what is kept.
use Rattle.std.proofs.Common.{Err, IfOk, List, Ok, Option, Result, [], ap, refl, subst, sym, ℕ, ◌++◌, ◌∙◌, ◌∷◌, ◌≡◌}
use Rattle.script_grammar.specs.Interpretation.{Interpretation}
use Rattle.parse_track.specs.EarlyErrors.{sooner}
use Rattle.parse_track.specs.Tells.{Text}
use Rattle.parse_track.specs.Told as told
use Rattle.parse_track.specs.declared.region.Early.{Early}
use Rattle.parse_handlers.specs.Inner.{Inner}
use Rattle.parse_early_handler.proofs.Sooner.{sooner_assoc, sooner_none}
use Rattle.parse_track_pieces.specs.Pieces.{Rest}
use Rattle.parse_track_pieces.proofs.Appending.{region-same}
use Rattle.parse_skim_handler.specs.Kept.{Adds, Means, kept_means}
use Rattle.parse_skim_handler.specs.Meaning.{Meaning, all_meant, nothing_meant, region_meant, then_meant}
use Rattle.parse_skim_handler.specs.declared.kept.Kept.{Kept}

-- what a call gives, by what it gives
pub if_ok : {A E : Type 0} {P Q : A → Type 0} (r : Result A E) → IfOk r P → ((a : A) → P a → Q a) → IfOk r Q
if_ok (Ok a) h f = f a h
if_ok (Err e) h f = tt

-- the same of an equal part
pub made-as : {E M : Type 0} (r : Result Kept E) (a : Kept) (means : Interpretation → M → Meaning) (m n : M) → m ≡ n
    → IfOk r (λ made. (i : Interpretation) → Adds i a made (means i n)) → IfOk r (λ made. (i : Interpretation) → Adds i a made (means i m))
made-as r a means m n e h = subst (λ x. IfOk r (λ made. (i : Interpretation) → Adds i a made (means i x))) (sym e) h

module _ (i : Interpretation) where
  pub means-own : (k : Kept) → Means i k (kept_means i k)
  means-own k = record { says = λ rest. refl; puts = λ inner. refl; first = refl }

  pub adds-nothing : (k : Kept) → Adds i k k nothing_meant
  adds-nothing k = record { says = λ rest. refl; puts = λ inner. refl; first = sym (sooner_none k.first) }

  -- what is kept of one part, and then of another
  pub from : {a b : Kept} {m n : Meaning} → Means i a m → Adds i a b n → Means i b (then_meant m n)
  from {n = n} x y = record {
    says = λ rest. y.says rest ∙ x.says (n.says rest);
    puts = λ inner. y.puts inner ∙ x.puts (n.puts inner);
    first = y.first ∙ ap (λ (o : Option Early). sooner o n.first) x.first;
  }

  -- what is kept of a part, after nothing
  pub begun : {a b : Kept} {m : Meaning} → Means i a nothing_meant → Adds i a b m → Means i b m
  begun x y = from x y

  pub adds-then : {a b c : Kept} {m n : Meaning} → Adds i a b m → Adds i b c n → Adds i a c (then_meant m n)
  adds-then {a = a} {m = m} {n = n} x y = record {
    says = λ rest. y.says rest ∙ x.says (n.says rest);
    puts = λ inner. y.puts inner ∙ x.puts (n.puts inner);
    first = y.first ∙ (ap (λ (o : Option Early). sooner o n.first) x.first ∙ sym (sooner_assoc a.first m.first n.first));
  }

  -- the same of an equal part
  pub adds-as : {M : Type 0} {a b : Kept} (means : M → Meaning) {m n : M} → m ≡ n → Adds i a b (means n) → Adds i a b (means m)
  adds-as {a = a} {b = b} means e x = subst (λ y. Adds i a b (means y)) (sym e) x

  -- what is kept of a part that means this
  pub adds-kept : {a b k : Kept} {m : Meaning} → Means i k m → Adds i a b (kept_means i k) → Adds i a b m
  adds-kept {a = a} x y = record {
    says = λ rest. y.says rest ∙ ap (kept_means i a).says (x.says rest);
    puts = λ inner. y.puts inner ∙ ap (kept_means i a).puts (x.puts inner);
    first = y.first ∙ ap (λ (o : Option Early). sooner a.first o) x.first;
  }

  -- the same of what means the same
  pub adds-same : {a b : Kept} {m n : Meaning} → ((rest : Rest) → m.says rest ≡ n.says rest) → ((inner : Inner) → m.puts inner ≡ n.puts inner) → m.first ≡ n.first → Adds i a b m → Adds i a b n
  adds-same {a = a} s p f x = record {
    says = λ rest. x.says rest ∙ ap (kept_means i a).says (s rest);
    puts = λ inner. x.puts inner ∙ ap (kept_means i a).puts (p inner);
    first = x.first ∙ ap (λ (o : Option Early). sooner a.first o) f;
  }

  pub means-as : {M : Type 0} {k : Kept} (means : M → Meaning) {m n : M} → m ≡ n → Means i k (means n) → Means i k (means m)
  means-as {k = k} means e x = subst (λ y. Means i k (means y)) (sym e) x

  -- a region around what is kept
  pub adds-region : {a b k : Kept} {m : Meaning} (kind : told.Region Text) (at : ℕ) → Means i k m → Adds i a b (region_meant kind at (kept_means i k)) → Adds i a b (region_meant kind at m)
  adds-region {k = k} {m = m} kind at x y = adds-same (region-same kind at (kept_means i k).says m.says x.says) x.puts x.first y

  says-end : {A : Type 0} (f : A → Meaning) (xs : List A) (x : A) (rest : Rest) → (all_meant f (xs ++ (x ∷ []))).says rest ≡ (all_meant f xs).says ((f x).says rest)
  says-end f [] x rest = refl
  says-end f (y ∷ ys) x rest = ap (f y).says (says-end f ys x rest)

  puts-end : {A : Type 0} (f : A → Meaning) (xs : List A) (x : A) (inner : Inner) → (all_meant f (xs ++ (x ∷ []))).puts inner ≡ (all_meant f xs).puts ((f x).puts inner)
  puts-end f [] x inner = refl
  puts-end f (y ∷ ys) x inner = ap (f y).puts (puts-end f ys x inner)

  first-end : {A : Type 0} (f : A → Meaning) (xs : List A) (x : A) → (all_meant f (xs ++ (x ∷ []))).first ≡ sooner (all_meant f xs).first (f x).first
  first-end f [] x = sooner_none (f x).first
  first-end f (y ∷ ys) x =
      ap (λ (o : Option Early). sooner (f y).first o) (first-end f ys x) ∙ sooner_assoc (f y).first (all_meant f ys).first (f x).first

  -- one part more
  pub adds-more : {A : Type 0} {a b c : Kept} (f : A → Meaning) (xs : List A) (x : A) → Adds i a b (all_meant f xs) → Adds i b c (f x) → Adds i a c (all_meant f (xs ++ (x ∷ [])))
  adds-more {a = a} f xs x h k =
      let both = adds-then h k in
      record {
        says = λ rest. both.says rest ∙ ap (kept_means i a).says (sym (says-end f xs x rest));
        puts = λ inner. both.puts inner ∙ ap (kept_means i a).puts (sym (puts-end f xs x inner));
        first = both.first ∙ ap (λ (o : Option Early). sooner a.first o) (sym (first-end f xs x));
      }
