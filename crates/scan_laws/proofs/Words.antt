-- Where n different texts stand in a list of no more texts, it has no others: what holds of each of them holds of all
-- its texts. So seven known words in a list of at most seven texts are all of its texts, and these are small.
use Rattle.std.proofs.Common.{◌≡◌, ℕ, zero, suc, ◌≤◌, Bool, true, List, [], ◌∷◌, length, codes, Some, refl, sym, ap, ◌∙◌, subst, arith, true≢false}
use Rattle.std.specs.Prelude.{◌&&◌, not, slice_get}
use Rattle.std.specs.List.{AllByRecursion, list_all}
use Rattle.std.specs.Str.{bytes_eq}
use Rattle.std.proofs.lemmas.Slice.Eq.{bytes_eq-Decides}
use Rattle.script_grammar.specs.Lexeme.{get_text, set_text}
use Rattle.script_scanner.proofs.Lists.{and_left, and_right}
use Rattle.parser_atoms.specs.Places.{StandsIn}
use Rattle.bytecode_buf.specs.InRange.{Small, TextsSmall}

-- the list without the text at a place
abbrev without : List (List ℕ) → ℕ → List (List ℕ)
without [] i = []
without (t ∷ texts) zero = texts
without (t ∷ texts) (suc i) = t ∷ without texts i

-- no text stands twice
abbrev differs_from : List ℕ → List ℕ → Bool
differs_from text other = not (bytes_eq text other)

abbrev all_differ : List (List ℕ) → Bool
all_differ [] = true
all_differ (t ∷ texts) = list_all (differs_from t) texts && all_differ texts

one_less : (texts : List (List ℕ)) (i : ℕ) (text : List ℕ) → slice_get texts i ≡ Some text → suc (length (without texts i)) ≡ length texts
one_less [] i text at = absurd (cc)
one_less (t ∷ texts) zero text at = refl
one_less (t ∷ texts) (suc i) text at = ap suc (one_less texts i text at)

-- another text is still there
still_stands : (texts : List (List ℕ)) (i j : ℕ) (text other : List ℕ) → slice_get texts i ≡ Some text → slice_get texts j ≡ Some other → (text ≡ other → ⊥) → StandsIn (without texts i) other
still_stands [] i j text other at there apart = absurd (cc)
still_stands (t ∷ texts) zero zero text other at there apart = absurd (apart (cc))
still_stands (t ∷ texts) zero (suc j) text other at there apart = (j, there)
still_stands (t ∷ texts) (suc i) zero text other at there apart = (0, there)
still_stands (t ∷ texts) (suc i) (suc j) text other at there apart = let s : StandsIn (without texts i) other = still_stands texts i j text other at there apart in (suc s.0, s.1)

not_same : (text other : List ℕ) → differs_from text other ≡ true → text ≡ other → ⊥
not_same text other d e = true≢false (sym d ∙ ap not ((bytes_eq-Decides text other).1 e))

others_stand : (texts : List (List ℕ)) (i : ℕ) (text : List ℕ) (others : List (List ℕ)) → slice_get texts i ≡ Some text → list_all (differs_from text) others ≡ true → AllByRecursion (StandsIn texts) others
    → AllByRecursion (StandsIn (without texts i)) others
others_stand texts i text [] at d all = tt
others_stand texts i text (o ∷ others) at d all = (
  still_stands texts i all.0.0 text o at all.0.1 (not_same text o (and_left (differs_from text o) (list_all (differs_from text) others) d)),
  others_stand texts i text others at (and_right (differs_from text o) (list_all (differs_from text) others) d) all.1,
)

put_back : (texts : List (List ℕ)) (i : ℕ) (text : List ℕ) → slice_get texts i ≡ Some text → Small (length text) → TextsSmall (without texts i) → TextsSmall texts
put_back [] i text at small h = tt
put_back (t ∷ texts) zero text at small h = (subst (λ (us : List ℕ). Small (length us)) (let e : text ≡ t = cc in e) small, h)
put_back (t ∷ texts) (suc i) text at small h = (h.0, put_back texts i text at small h.1)

-- a list of no more texts than the small ones that stand in it
pub only_small : (known texts : List (List ℕ)) → all_differ known ≡ true → AllByRecursion (StandsIn texts) known → TextsSmall known → length texts ≤ length known → TextsSmall texts
only_small [] [] d all small le = tt
only_small [] (t ∷ texts) d all small le = absurd (omega (arith, le))
only_small (k ∷ known) texts d all small le =
    let less : suc (length (without texts all.0.0)) ≡ length texts = one_less texts all.0.0 k all.0.1 in
    put_back texts all.0.0 k all.0.1 small.0 (only_small known (without texts all.0.0) (and_right (list_all (differs_from k) known) (all_differ known) d)
    (others_stand texts all.0.0 k known all.0.1 (and_left (list_all (differs_from k) known) (all_differ known) d) all.1) small.1 (omega (arith, less, le)))

-- the seven words, where they stand in a list of seven texts at most
pub words_small : (texts : List (List ℕ)) → StandsIn texts (codes "eval") → StandsIn texts (codes "arguments") → StandsIn texts (codes ".this") → StandsIn texts (codes "__proto__")
    → StandsIn texts get_text → StandsIn texts set_text → StandsIn texts (codes "use strict") → length texts ≤ 7 → TextsSmall texts
words_small texts eval arguments this proto get set strict few = only_small
    (codes "eval" ∷ codes "arguments" ∷ codes ".this" ∷ codes "__proto__" ∷ get_text ∷ set_text ∷ codes "use strict" ∷ []) texts refl
    (eval, (arguments, (this, (proto, (get, (set, (strict, tt)))))))
    (omega arith, (omega arith, (omega arith, (omega arith, (omega arith, (omega arith, (omega arith, tt)))))))
    few
