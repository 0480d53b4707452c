-- The parts of a stencil, verified one after another.
use Rattle.std.proofs.Common.{◌≡◌, ℕ, zero, suc, ◌+◌, ◌<◌, ◌≤◌, ◌⊎◌, inl, inr, max, false, List, [], ◌∷◌, length, Option, Some, None, refl, ap, sym, ◌∙◌, subst, arith, below_more}
use Rattle.std.proofs.lemmas.Bool.{cases_lt}
use Rattle.std.proofs.lemmas.Option.{slice_get_past}
use Rattle.std.specs.Prelude.{slice_get}
use Rattle.stencil_data.specs.declared.stencils.Entry.{Entry}
use Rattle.stencil_data.specs.declared.stencils.Entry.TheVariants as entry
use Rattle.stencil_data.specs.MergedView.{MergedView}
use Rattle.stencil_data.specs.Views.{FunctionView}
use Rattle.bytecode_buf.specs.Machine.{HasDepthTable, State, Reaches, is_stuck}
use Rattle.bytecode_buf.specs.Verdicts.{IsSound}
use Rattle.emit_depth_laws.specs.Accepted.{AllAccepted, EntriesAccepted, EntryAccepted}
use Rattle.code_check.specs.declared.verdict.Verdict.{Verdict}
use Rattle.code_check.specs.declared.verdict.Verdict.TheVariants as verdict
use Rattle.code_check.specs.Parts.{compiled, part_of}
use Rattle.code_check.proofs.Arrivals.{never_stuck}
use Rattle.stencil.specs.Verified.{IsWithin, AreSound, IsFirstUnsound, IsEntryVerdict}

-- The code of each part below a number is sound and gets no deeper than this, and that of one part gets as deep.
pub record AreSoundBelow (m : MergedView) (end : ℕ) (depth : ℕ) : Type 0 where
  pub each : (number : ℕ) → number < end → (part : FunctionView) → part_of m number ≡ Some part → IsWithin depth part
  pub number : ℕ
  pub part : FunctionView
  pub is : part_of m number ≡ Some part
  pub reached : IsSound part.code part.notes depth

some_same : (a b : FunctionView) → ◌≡◌ {A = Option FunctionView} (Some a) (Some b) → a ≡ b
some_same a b h = cc

-- ---- the top

pub top_sound : (m : MergedView) (depth : ℕ) → IsSound m.top.code m.top.notes depth → AreSoundBelow m 1 depth
top_sound m depth sound = record { each = by; number = 0; part = m.top; is = refl; reached = sound }
  where
    by : (number : ℕ) → number < 1 → (part : FunctionView) → part_of m number ≡ Some part → IsWithin depth part
    by zero below part is = (depth, subst (λ (p : FunctionView). IsSound p.code p.notes depth) (some_same m.top part is) sound, omega arith)
    by (suc n) below part is = absurd (omega arith)

pub top_unsound : (m : MergedView) → (HasDepthTable m.top.code m.top.notes → ⊥) → IsFirstUnsound m 0
top_unsound m unsound = record { part = m.top; is = refl; unsound = unsound; before = λ other earlier below is. absurd (omega arith) }

-- ---- one more entry

within_more : (part : FunctionView) (deepest new : ℕ) → deepest ≤ new → IsWithin deepest part → IsWithin new part
within_more part deepest new more w = (w.0, w.1, omega (arith, w.2))

add_lazy : (m : MergedView) (number deepest : ℕ) → part_of m number ≡ None → AreSoundBelow m number deepest → AreSoundBelow m (number + 1) deepest
add_lazy m number deepest none below = record {
  each = below_more (λ k. (part : FunctionView) → part_of m k ≡ Some part → IsWithin deepest part) number below.each (λ part is. absurd (cc));
  number = below.number;
  part = below.part;
  is = below.is;
  reached = below.reached;
}

add_sound : (m : MergedView) (number deepest depth new : ℕ) (part : FunctionView) → part_of m number ≡ Some part → IsSound part.code part.notes depth → new ≡ max deepest depth → AreSoundBelow m number deepest → AreSoundBelow m (number + 1) new
add_sound m number deepest depth new part here sound is below = by (cases_lt deepest depth)
  where
    all : (k : ℕ) → k < number + 1 → (other : FunctionView) → part_of m k ≡ Some other → IsWithin new other
    all = below_more (λ k. (other : FunctionView) → part_of m k ≡ Some other → IsWithin new other) number
        (λ k under other there. within_more other deepest new (omega (arith, is)) (below.each k under other there))
        (λ other there. (depth, subst (λ (p : FunctionView). IsSound p.code p.notes depth) (some_same part other (sym here ∙ there)) sound, omega (arith, is)))

    by : (deepest < depth) ⊎ (depth ≤ deepest) → AreSoundBelow m (number + 1) new
    by (inr less) = record {
      each = all;
      number = below.number;
      part = below.part;
      is = below.is;
      reached = let same : deepest ≡ new = omega (arith, is, less) in subst (IsSound below.part.code below.part.notes) same below.reached;
    }
    by (inl more) = record {
      each = all;
      number = number;
      part = part;
      is = here;
      reached = let same : depth ≡ new = omega (arith, is, more) in subst (IsSound part.code part.notes) same sound;
    }

entry_part : (m : MergedView) (place number : ℕ) (e : Entry) → number ≡ place + 1 → slice_get m.entries place ≡ Some e → part_of m number ≡ compiled (Some e)
entry_part m place number e is here = let next : number ≡ suc place = omega (arith, is) in ap (part_of m) next ∙ ap compiled here

sound_depth : (depth other : ℕ) → ◌≡◌ {A = Verdict} (verdict.Sound depth) (verdict.Sound other) → depth ≡ other
sound_depth depth other h = cc

-- the next entry is sound
pub entry_sound : (m : MergedView) (place number deepest depth new : ℕ) (e : Entry) → number ≡ place + 1 → slice_get m.entries place ≡ Some e → IsEntryVerdict e (verdict.Sound depth) → new ≡ max deepest depth
    → AreSoundBelow m number deepest → AreSoundBelow m (number + 1) new
entry_sound m place number deepest depth new entry.Lazy is here v greater below =
    let none = sound_depth depth 0 v in
    let same : deepest ≡ new = omega (arith, greater, none) in
    subst (AreSoundBelow m (number + 1)) same (add_lazy m number deepest (entry_part m place number entry.Lazy is here) below)
entry_sound m place number deepest depth new (entry.Compiled part) is here v greater below =
    add_sound m number deepest depth new part (entry_part m place number (entry.Compiled part) is here) v greater below

-- the next entry is not
pub entry_unsound : (m : MergedView) (place number deepest : ℕ) (e : Entry) → number ≡ place + 1 → slice_get m.entries place ≡ Some e → IsEntryVerdict e verdict.Unsound → AreSoundBelow m number deepest → IsFirstUnsound m number
entry_unsound m place number deepest entry.Lazy is here v below = absurd (cc)
entry_unsound m place number deepest (entry.Compiled part) is here v below = record {
  part = part;
  is = entry_part m place number (entry.Compiled part) is here;
  unsound = v;
  before = λ other earlier under there. let w = (below.each other under earlier there).1 in (w.table, w.least.is);
}

-- ---- all parts

compiled_none : (o : Option Entry) (part : FunctionView) → o ≡ None → compiled o ≡ Some part → ⊥
compiled_none o part none some = let same : compiled o ≡ None = ap compiled none in absurd (cc)

numbered_below : (m : MergedView) (number : ℕ) (part : FunctionView) → part_of m number ≡ Some part → number < length m.entries + 1
numbered_below m zero part is = omega arith
numbered_below m (suc n) part is = by (cases_lt n (length m.entries))
  where
    by : (n < length m.entries) ⊎ (length m.entries ≤ n) → suc n < length m.entries + 1
    by (inr past) = absurd (compiled_none (slice_get m.entries n) part (slice_get_past m.entries n past) is)
    by (inl within) = omega (arith, within)

pub all_sound : (m : MergedView) (end depth : ℕ) → length m.entries + 1 ≤ end → AreSoundBelow m end depth → AreSound m depth
all_sound m end depth whole below = record {
  each = λ number part is. below.each number (let under = numbered_below m number part is in omega (arith, under, whole)) part is;
  number = below.number;
  part = below.part;
  is = below.is;
  reached = below.reached;
}

-- no state that is reached is stuck
pub sound_free : (m : MergedView) (depth number : ℕ) (part : FunctionView) → AreSound m depth → part_of m number ≡ Some part → (s : State) → Reaches part.code part.notes s → is_stuck part.code s ≡ false
sound_free m depth number part sound is = let w = (sound.each number part is).1 in never_stuck part.code part.notes w.table w.least.is

-- ---- code that is accepted

entry_at : (entries : List Entry) (place : ℕ) (e : Entry) → slice_get entries place ≡ Some e → EntriesAccepted entries → EntryAccepted e
entry_at [] place e here accepted = absurd (cc)
entry_at (first ∷ rest) zero e here accepted = let same : first ≡ e = cc in subst EntryAccepted same accepted.0
entry_at (first ∷ rest) (suc place) e here accepted = entry_at rest place e here accepted.1

pub entry_accepted : (m : MergedView) (place : ℕ) (e : Entry) → slice_get m.entries place ≡ Some e → AllAccepted m → EntryAccepted e
entry_accepted m place e here accepted = entry_at m.entries place e here accepted.entries
