-- What was interned stays where it stands.
use Rattle.std.proofs.Common.{◌≡◌, ℕ, ◌+◌, ◌≤◌, ◌<◌, ◌^◌, List, [], ◌∷◌, ◌++◌, length, sym, ◌∙◌, ap, arith, length-append, inl, inr, subst}
use Rattle.std.proofs.lemmas.List.{append-nil}
use Rattle.std.specs.Prelude.{Some, slice_get}
use Rattle.bytecode_buf.specs.InRange.{TextsSmall}
use Rattle.parser_atoms.specs.Places.{Interns}
use Rattle.parser_atoms.proofs.Interning.{slice_get-append_last, slice_get-append_old}
use Rattle.parse_track.specs.declared.region.WellKnownAtoms.{WellKnownAtoms}
use Rattle.script_scanner.specs.Stands.{Keeps}
use Rattle.track_atoms.specs.Known.{HasWords}

small_behind : (texts : List (List ℕ)) (text : List ℕ) → length text < 2 ^ 32 → TextsSmall texts → TextsSmall (texts ++ text ∷ [])
small_behind [] text short small = (short, tt)
small_behind (t ∷ texts) text short small = (small.0, small_behind texts text short small.1)

pub interned : (before after : List (List ℕ)) (text : List ℕ) (atom : ℕ) → Interns before after text atom → slice_get after atom ≡ Some text
interned before after text atom (inl h) = ap (λ (ts : List (List ℕ)). slice_get ts atom) h.1 ∙ h.0
interned before after text atom (inr h) = ap (λ (ts : List (List ℕ)). slice_get ts atom) h.2 ∙ ap (slice_get (before ++ text ∷ [])) h.1 ∙ slice_get-append_last before text

pub still_interned : (before after : List (List ℕ)) (text other : List ℕ) (atom n : ℕ) → Interns before after text atom → slice_get before n ≡ Some other → slice_get after n ≡ Some other
still_interned before after text other atom n (inl h) is = ap (λ (ts : List (List ℕ)). slice_get ts n) h.1 ∙ is
still_interned before after text other atom n (inr h) is = ap (λ (ts : List (List ℕ)). slice_get ts n) h.2 ∙ slice_get-append_old before (text ∷ []) n other is

pub still_kept : (before after : List (List ℕ)) (other : List ℕ) (n : ℕ) → Keeps before after → slice_get before n ≡ Some other → slice_get after n ≡ Some other
still_kept before after other n k is = ap (λ (ts : List (List ℕ)). slice_get ts n) k.1 ∙ slice_get-append_old before k.0 n other is

-- all texts from before stand where they stood
pub interned_keeps : (before after : List (List ℕ)) (text : List ℕ) (atom : ℕ) → Interns before after text atom → Keeps before after
interned_keeps before after text atom (inl h) = ([], h.1 ∙ sym (append-nil before))
interned_keeps before after text atom (inr h) = (text ∷ [], h.2)

-- at most one more text
pub interned_few : (before after : List (List ℕ)) (text : List ℕ) (atom : ℕ) → Interns before after text atom → length after ≤ length before + 1
interned_few before after text atom (inl h) = let e = ap length h.1 in omega (arith, e)
interned_few before after text atom (inr h) = let e = ap length h.2 ∙ length-append before (text ∷ []) in omega (arith, e)

-- all texts are short where they were
pub interned_small : (before after : List (List ℕ)) (text : List ℕ) (atom : ℕ) → Interns before after text atom → length text < 2 ^ 32 → TextsSmall before → TextsSmall after
interned_small before after text atom (inl h) short small = subst TextsSmall (sym h.1) small
interned_small before after text atom (inr h) short small = subst TextsSmall (sym h.2) (small_behind before text short small)

pub none_small : (texts : List (List ℕ)) → length texts ≡ 0 → TextsSmall texts
none_small [] h = tt
none_small (t ∷ ts) h = absurd (omega (arith, h))

-- the known words stay where other texts join
pub words_kept : (before after : List (List ℕ)) (known : WellKnownAtoms) → Keeps before after → HasWords before known → HasWords after known
words_kept before after known k h = record {
  eval = still_kept before after _ known.eval k h.eval;
  arguments = still_kept before after _ known.arguments k h.arguments;
  this = still_kept before after _ known.this k h.this;
  proto = still_kept before after _ known.proto k h.proto;
  get = still_kept before after _ known.get k h.get;
  set = still_kept before after _ known.set k h.set;
  strict = still_kept before after _ known.strict k h.strict;
}
