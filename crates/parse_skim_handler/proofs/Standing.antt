-- How the meanings of parts stand for the whole.
use Rattle.std.proofs.Common.{List, None, Option, Some, [], ap, refl, subst, sym, ℕ, ◌∙◌, ◌∷◌, ◌≡◌}
use Rattle.script_grammar.specs.Interpretation.{Interpretation, named}
use Rattle.script_grammar.specs.Shows.{ShowAll, ShowMaybe}
use Rattle.script_grammar.specs.declared.tree.Ident.{Ident}
use Rattle.parse_track.specs.Tells.{Text}
use Rattle.parse_track.specs.Told as told
use Rattle.parse_track.specs.declared.region.Declare.{Declare}
use Rattle.parse_track.specs.declared.region.Early.{Early}
use Rattle.parse_early_handler.specs.HasErrors.{HasEmptyBodies}
use Rattle.parse_early_handler.specs.Known.{KnowsWords, known_atoms}
use Rattle.parse_early_handler.proofs.Parting.{IsFirst, then-first}
use Rattle.parse_track_pieces.proofs.Appending.{region-same}
use Rattle.parse_track_pieces.proofs.Saying.{name-says, none-says, region-says, same-says, then-says}
use Rattle.parse_skim_handler.specs.Kept.{Means, kept_means}
use Rattle.parse_skim_handler.specs.Meaning.{Meaning, all_meant, error_meant, maybe_meant, name_meant, nothing_meant, region_meant, then_meant}
use Rattle.parse_skim_handler.specs.Means.{Owed, Stands, error_owed, name_owed, nothing_owed, region_owed, then_owed}
use Rattle.parse_skim_handler.specs.declared.kept.Kept.{Kept}

module _ (i : Interpretation) where
  pub nothing-stands : Stands i nothing_meant nothing_owed
  nothing-stands = record { says = none-says; puts = λ r. refl; first = λ e k. refl }

  pub then-stands : {m n : Meaning} {o p : Owed} → Stands i m o → Stands i n p → Stands i (then_meant m n) (then_owed o p)
  then-stands {m = m} {n = n} {o = o} {p = p} x y = record {
    says = then-says x.says y.says;
    puts = λ r. x.puts (n.puts r) ∙ ap o.inner (y.puts r);
    first = λ e k.
        let one : IsFirst m.first o.errors = record { is = x.first e k } in
        let other : IsFirst n.first p.errors = record { is = y.first e k } in
        (then-first one other).is;
  }

  pub error-stands : (first : Option Early) (errors : List Early) → (HasEmptyBodies i → KnowsWords i known_atoms → IsFirst first errors) → Stands i (error_meant first) (error_owed errors)
  error-stands first errors h = record { says = none-says; puts = λ r. refl; first = λ e k. (h e k).is }

  pub name-stands : (how : Declare) (name : Ident) → Stands i (name_meant i how name) (name_owed how (named i name))
  name-stands how name = record { says = name-says i how name; puts = λ r. refl; first = λ e k. refl }

  pub region-stands : (kind : told.Region Text) (at : ℕ) {m : Meaning} {o : Owed} → Stands i m o → Stands i (region_meant kind at m) (region_owed kind at o)
  region-stands kind at x = record { says = region-says kind at x.says; puts = x.puts; first = x.first }

  -- the same of an equal part
  pub stands-as : {M : Type 0} {m : Meaning} (owed : M → Owed) {u v : M} → u ≡ v → Stands i m (owed v) → Stands i m (owed u)
  stands-as {m = m} owed e h = subst (λ x. Stands i m (owed x)) (sym e) h

  -- what is kept stands for what its meaning stands for
  pub kept-stands : {k : Kept} {m : Meaning} {o : Owed} → Means i k m → Stands i m o → Stands i (kept_means i k) o
  kept-stands x y = record {
    says = same-says x.says y.says;
    puts = λ r. x.puts r ∙ y.puts r;
    first = λ e w. x.first ∙ y.first e w;
  }

  -- a region around what is kept
  pub region-kept : (kind : told.Region Text) (at : ℕ) {k : Kept} {m : Meaning} {o : Owed} → Means i k m → Stands i (region_meant kind at m) o → Stands i (region_meant kind at (kept_means i k)) o
  region-kept kind at {k = k} {m = m} x y = record {
    says = same-says (region-same kind at (kept_means i k).says m.says x.says) y.says;
    puts = λ r. x.puts r ∙ y.puts r;
    first = λ e w. x.first ∙ y.first e w;
  }

  -- a list of parts
  pub all-stand : {N X : Type 0} (R : N → X → Type 0) (f : N → Meaning) (owed : X → Owed) (all : List X → Owed)
      → all [] ≡ nothing_owed → ((x : X) (xs : List X) → all (x ∷ xs) ≡ then_owed (owed x) (all xs))
      → ((n : N) (x : X) → R n x → Stands i (f n) (owed x)) → (ns : List N) (xs : List X) → ShowAll R ns xs → Stands i (all_meant f ns) (all xs)
  all-stand R f owed all none more each [] [] h = stands-as (λ o. o) none nothing-stands
  all-stand R f owed all none more each [] (x ∷ xs) h = absurd h
  all-stand R f owed all none more each (n ∷ ns) [] h = absurd h
  all-stand R f owed all none more each (n ∷ ns) (x ∷ xs) h =
      stands-as (λ o. o) (more x xs) (then-stands (each n x h.0) (all-stand R f owed all none more each ns xs h.1))

  -- an option of a part
  pub maybe-stands : {N X : Type 0} (R : N → X → Type 0) (f : N → Meaning) (owed : X → Owed) (maybe : Option X → Owed)
      → maybe None ≡ nothing_owed → ((x : X) → maybe (Some x) ≡ owed x)
      → ((n : N) (x : X) → R n x → Stands i (f n) (owed x)) → (n : Option N) (x : Option X) → ShowMaybe R n x → Stands i (maybe_meant f n) (maybe x)
  maybe-stands R f owed maybe none some each None None h = stands-as (λ o. o) none nothing-stands
  maybe-stands R f owed maybe none some each None (Some x) h = absurd h
  maybe-stands R f owed maybe none some each (Some n) None h = absurd h
  maybe-stands R f owed maybe none some each (Some n) (Some x) h = stands-as (λ o. o) (some x) (each n x h)
