-- Notes that are added one by one.
use Rattle.std.proofs.Common.{◌≡◌, ℕ, ◌+◌, ◌<◌, min, zero, suc, ◌⊎◌, inl, inr, List, [], ◌∷◌, ◌++◌, length, slice_get, get_or, Option, Some, refl, sym, ap, subst, ◌∙◌, arith}
use Rattle.std.proofs.lemmas.Option.{same_Some, slice_get_read}
use Rattle.stencil_data.specs.declared.stencils.Entry.{Entry}
use Rattle.stencil_data.specs.MergedView.{MergedView}
use Rattle.stencil_data.specs.Views.{RecordView}
use Rattle.holzikra_objects.specs.declared.notes.ScriptNotes.{ScriptNotes}
use Rattle.holzikra_scripts.specs.Notes.{AreNotes, IsFunctionNote, IsNoteAt, IsTopNote}

-- what stands at a place of a list with one more behind it stood there before, or is that one
got : {A : Type 0} (xs : List A) (y x : A) (k : ℕ) → slice_get (xs ++ y ∷ []) k ≡ Some x → (slice_get xs k ≡ Some x) ⊎ ((k ≡ length xs) × (y ≡ x))
got [] y x zero is = inr (refl, same_Some y x is)
got [] y x (suc k) is = absurd (cc)
got (z ∷ xs) y x zero is = inl is
got (z ∷ xs) y x (suc k) is =
    elim (got xs y x k is) [
      | inl before ↦ inl before
      | inr last ↦ inr (ap suc last.0, last.1)
    ]

note_added : (source : Option (List ℕ)) (stencil : MergedView) (old new : List ScriptNotes) (added : ScriptNotes)
    → ((k : ℕ) (note : ScriptNotes) → slice_get old k ≡ Some note → IsNoteAt source stencil k note)
    → new ≡ old ++ added ∷ [] → IsNoteAt source stencil (length old) added
    → (k : ℕ) (note : ScriptNotes) → slice_get new k ≡ Some note → IsNoteAt source stencil k note
note_added source stencil old new added each is one k note here =
    elim (got old added note k (subst (λ (l : List ScriptNotes). slice_get l k ≡ Some note) is here)) [
      | inl before ↦ each k note before
      | inr last ↦ subst (λ (n : ScriptNotes). IsNoteAt source stencil k n) last.1 (subst (λ (j : ℕ). IsNoteAt source stencil j added) (sym last.0) one)
    ]

-- the first note is that of the script itself
pub top_added : (source : Option (List ℕ)) (stencil : MergedView) (new : List ScriptNotes) (added : ScriptNotes)
    → new ≡ added ∷ [] → IsTopNote source stencil.top added
    → (k : ℕ) (note : ScriptNotes) → slice_get new k ≡ Some note → IsNoteAt source stencil k note
top_added source stencil new added is one = note_added source stencil [] new added (λ k note here. absurd (cc)) is one

-- the note behind those in front of it is that of the function of its place
pub function_added : (source : Option (List ℕ)) (stencil : MergedView) (old new : List ScriptNotes) (added : ScriptNotes) (index : ℕ) (r : RecordView) (e : Entry)
    → ((k : ℕ) (note : ScriptNotes) → slice_get old k ≡ Some note → IsNoteAt source stencil k note)
    → new ≡ old ++ added ∷ [] → length old ≡ index + 1
    → index < length stencil.records → index < length stencil.entries → r ≡ get_or stencil.records index r → e ≡ get_or stencil.entries index e
    → IsFunctionNote source r e added
    → (k : ℕ) (note : ScriptNotes) → slice_get new k ≡ Some note → IsNoteAt source stencil k note
function_added source stencil old new added index r e each is size in_rs in_es r_is e_is one =
    let count : length old ≡ suc index = omega (arith, size) in
    let here : IsNoteAt source stencil (suc index) added =
    λ s f has_s has_f.
    subst (λ (x : RecordView). IsFunctionNote source x f added) (same_Some r s (sym (slice_get_read stencil.records _ index r refl in_rs r_is) ∙ has_s))
    (subst (λ (y : Entry). IsFunctionNote source r y added) (same_Some e f (sym (slice_get_read stencil.entries _ index e refl in_es e_is) ∙ has_f)) one)
    in
    note_added source stencil old new added each is (subst (λ (j : ℕ). IsNoteAt source stencil j added) (sym count) here)

pub all_noted : (source : Option (List ℕ)) (stencil : MergedView) (notes : List ScriptNotes) (index : ℕ)
    → length notes ≡ index + 1 → index ≡ min (length stencil.records) (length stencil.entries)
    → ((k : ℕ) (note : ScriptNotes) → slice_get notes k ≡ Some note → IsNoteAt source stencil k note)
    → AreNotes source stencil notes
all_noted source stencil notes index size last each =
    record { count = let one : length notes ≡ suc index = omega (arith, size) in one ∙ ap suc last; each = each }
