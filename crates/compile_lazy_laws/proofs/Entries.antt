-- The entries of functions that are taken one after another, and code in which functions have their numbers.
use Rattle.std.proofs.Common.{◌≡◌, ◌∙◌, ℕ, zero, suc, Bool, false, List, [], ◌∷◌, length, map, Option, Some, None, refl, sym, ap, ap₂}
use Rattle.std.specs.Prelude.{slice_get, slice_index_or}
use Rattle.std.proofs.lemmas.Option.{none-some, same_Some}
use Rattle.stencil_data.specs.declared.functions.Extent.{Extent}
use Rattle.stencil_data.specs.Named.{NamedFunction}
use Rattle.bytecode_buf.specs.declared.opcode.Op.{Op}
use Rattle.bytecode_buf.specs.declared.opcode.Op.TheVariants as op
use Rattle.bytecode_buf.specs.Command.{Operand, Number, Command}
use Rattle.parse_track.specs.ClosedNames.{Bound}
use Rattle.compile_specs.specs.Shown.{Wanted, numbers_of, record_of, renumbered, entry, extents_of}
use Rattle.stencil_merge.specs.Functions.{named_inner_of}
use Rattle.stencil_merge.specs.Instructions.{numbered_operand, numbered_commands}
use Rattle.stencil_merge.specs.Merging.{filled_at}
use Rattle.compile_lazy_laws.specs.UpTo.{entries_up_to}

-- ---- code

same_operand : (numbers : List ℕ) (o : Op) (operand : Operand) → numbered_operand numbers o operand ≡ renumbered numbers o operand
same_operand numbers op.Lambda (Number place) = refl
same_operand numbers op.Lambda _ = refl
same_operand numbers _ operand = refl

pub same_code : (numbers : List ℕ) (code : List Command) → numbered_commands numbers code ≡ map (λ (c : Command). record { op = c.op; operand = renumbered numbers c.op c.operand }) code
same_code numbers [] = refl
same_code numbers (c ∷ code) =
    ap₂ (λ (o : Operand) (cs : List Command). let first : Command = record { op = c.op; operand = o } in first ∷ cs) (same_operand numbers c.op c.operand) (same_code numbers code)

-- ---- records

pub inner_there : (starts : List ℕ) (bound : List (Bound (List ℕ))) (fs : List (NamedFunction (List Command))) (place : ℕ) (f : NamedFunction (List Command)) → slice_get fs place ≡ Some f
    → slice_index_or (named_inner_of (map (record_of starts bound) fs)) place [] ≡ numbers_of starts f.inner
inner_there starts bound [] place f e = absurd (none-some f e)
inner_there starts bound (g ∷ fs) zero f e = ap (λ (h : NamedFunction (List Command)). numbers_of starts h.inner) (same_Some g f e)
inner_there starts bound (g ∷ fs) (suc place) f e = inner_there starts bound fs place f e

pub flag_there : (p : Extent → Bool) (fs : List (NamedFunction (List Command))) (place : ℕ) (f : NamedFunction (List Command)) → slice_get fs place ≡ Some f → slice_index_or (map p (extents_of fs)) place false ≡ p f.extent
flag_there p [] place f e = absurd (none-some f e)
flag_there p (g ∷ fs) zero f e = ap (λ (h : NamedFunction (List Command)). p h.extent) (same_Some g f e)
flag_there p (g ∷ fs) (suc place) f e = flag_there p fs place f e

pub none_of : {A B : Type 0} {F : Type 0} (f : A → B) (xs : List A) → ◌≡◌ {A = List (Option F)} (map (λ (y : B). None) (map f xs)) (map (λ (x : A). None) xs)
none_of f [] = refl
none_of {F = F} f (x ∷ xs) = ap (λ (l : List (Option F)). None ∷ l) (none_of f xs)

-- ---- entries

module _ (want : Wanted) (extents : List Extent) (starts : List ℕ) where
  abbrev EntryOf : NamedFunction (List Command) → Option (NamedFunction (List Command))
  EntryOf f = entry want extents starts f

  pub entries_fill : (place : ℕ) (fs : List (NamedFunction (List Command))) (f g : NamedFunction (List Command)) → slice_get fs place ≡ Some f → EntryOf f ≡ Some g
      → filled_at place g (entries_up_to place want extents starts fs) ≡ entries_up_to (suc place) want extents starts fs
  entries_fill place [] f g e is = absurd (none-some f e)
  entries_fill zero (h ∷ fs) f g e is =
      ap (λ (o : Option (NamedFunction (List Command))). o ∷ map (λ (x : NamedFunction (List Command)). None) fs) (sym is ∙ ap EntryOf (sym (same_Some h f e)))
  entries_fill (suc place) (h ∷ fs) f g e is = ap (λ (l : List (Option (NamedFunction (List Command)))). EntryOf h ∷ l) (entries_fill place fs f g e is)

  pub entries_pass : (place : ℕ) (fs : List (NamedFunction (List Command))) (f : NamedFunction (List Command)) → slice_get fs place ≡ Some f → EntryOf f ≡ None
      → entries_up_to place want extents starts fs ≡ entries_up_to (suc place) want extents starts fs
  entries_pass place [] f e is = absurd (none-some f e)
  entries_pass zero (h ∷ fs) f e is = ap (λ (o : Option (NamedFunction (List Command))). o ∷ map (λ (x : NamedFunction (List Command)). None) fs) (sym is ∙ ap EntryOf (sym (same_Some h f e)))
  entries_pass (suc place) (h ∷ fs) f e is = ap (λ (l : List (Option (NamedFunction (List Command)))). EntryOf h ∷ l) (entries_pass place fs f e is)

  pub entries_whole : (fs : List (NamedFunction (List Command))) → entries_up_to (length fs) want extents starts fs ≡ map EntryOf fs
  entries_whole [] = refl
  entries_whole (h ∷ fs) = ap (λ (l : List (Option (NamedFunction (List Command)))). EntryOf h ∷ l) (entries_whole fs)
