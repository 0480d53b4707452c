-- What is left of the lines of one script.
use Rattle.std.proofs.Common.{◌≡◌, ℕ, suc, ◌+◌, List, ◌++◌, Option, Some, ap, sym, ◌∙◌, arith}
use Rattle.std.specs.Prelude.{flat_map}
use Rattle.bytecode_buf.specs.Command.{listed_from}
use Rattle.stencil_data.specs.declared.stencils.TryNote.{TryNote}
use Rattle.stencil_data.specs.MergedView.{MergedView}
use Rattle.script_image.specs.CodeLines.{listing, note_line}
use Rattle.stencil_data.specs.Views.{FunctionView}
use Rattle.script_image.proofs.Scripts.{one_joined}
use Rattle.script_image.specs.declared.pieces.Place.TheVariants as place
use Rattle.script_image.specs.declared.script_lines.Listing.TheVariants as of
use Rattle.script_image.specs.Pieces.{from_place, from_script, left_from, left_in, part_at}

-- the lines that are left, by the lists themselves
pub left_same : (seen texts : List (List ℕ)) (part : FunctionView) (code : List ℕ) (notes : List TryNote) (at turn : ℕ) → seen ≡ texts → code ≡ part.code → notes ≡ part.notes
    → listing (listed_from seen at (left_from code at turn)) ++ flat_map note_line notes ≡ left_in texts (Some part) at turn
left_same seen texts part code notes at turn texts_are code_is notes_are =
    ap (λ (l : List (List ℕ)). listing (listed_from l at (left_from code at turn)) ++ flat_map note_line notes) texts_are
    ∙ ap (λ (l : List ℕ). listing (listed_from texts at (left_from l at turn)) ++ flat_map note_line notes) code_is
    ∙ ap (λ (l : List TryNote). listing (listed_from texts at (left_from part.code at turn)) ++ flat_map note_line l) notes_are

-- all lines of a script that are left
pub left_next : (merged : MergedView) (number : ℕ) (part : FunctionView) (now new : List ℕ) (at turn : ℕ) → part_at merged number ≡ Some part → new ≡ now ++ left_in merged.texts (Some part) at turn
    → new ++ from_script of.Code merged (number + 1) ≡ now ++ from_place of.Code merged (place.Within number at turn)
left_next merged number part now new at turn is new_is =
    let one : number + 1 ≡ suc number = omega arith in
    ap (λ (n : ℕ). new ++ from_script of.Code merged n) one
    ∙ one_joined now new (left_in merged.texts (Some part) at turn) (from_script of.Code merged (suc number)) new_is
    ∙ ap (λ (o : Option FunctionView). now ++ (left_in merged.texts o at turn ++ from_script of.Code merged (suc number))) (sym is)
