-- The code of a script that is compiled whole, at each of its functions: its jumps stay, and it has a depth table.
use Rattle.std.proofs.Common.{◌≡◌, ℕ, zero, suc, ◌-◌, ◌^◌, ◌<◌, false, List, [], ◌∷◌, ◌++◌, length, slice_get, Option, Some, None, sym, subst}
use Rattle.script_grammar.specs.Pieces.{whole}
use Rattle.script_grammar.specs.Proper.{ProperStmts}
use Rattle.script_grammar.specs.Tree.{Stmts}
use Rattle.stencil_data.specs.declared.stencils.TryNote.{TryNote}
use Rattle.stencil_data.specs.LinkView.{LinkView}
use Rattle.stencil_data.specs.Named.{NamedFunction}
use Rattle.stencil_data.specs.StandsFor.{FunctionStandsFor}
use Rattle.stencil_data.specs.Views.{FunctionView}
use Rattle.scope_analysis.specs.Functions.{Inner, inner_function}
use Rattle.parse_track.specs.Notes.{early_error}
use Rattle.bytecode_buf.specs.Command.{Command, ShowsCommands}
use Rattle.bytecode_buf.specs.Machine.{HasDepthTable}
use Rattle.emit_stmts.specs.Functions.{top_script}
use Rattle.compile_specs.specs.Eager.{Site, sites, compiled_at, sites_in, AllSites, no_sites, more_sites, AreFunctions, HasSite}
use Rattle.compile_specs.specs.Shown.{numbers_of, with_numbers}
use Rattle.bytecode_flow_laws.specs.Staying.{JumpsStay}
use Rattle.bytecode_flow_laws.proofs.Tables.{alike_all}
use Rattle.emit_depth_laws.proofs.InnerFunctions.{IsSound, AllSound, function_inner, script_inner}
use Rattle.emit_depth_laws.proofs.Jumping.{function_targets, script_targets}
use Rattle.emit_depth_laws.proofs.Renumbered.{alike_renumbered, stays_renumbered}
use Rattle.emit_depth_laws.proofs.RunningFunctions.{function_table, script_table}
use Rattle.emit_depth_laws.proofs.StayingFunctions.{function_jumps_stay}

-- ---- each function of a script is proper and has no early error

abbrev pub AllSoundSites : List Site → Type 0
AllSoundSites [] = Unit {0}
AllSoundSites (s ∷ ss) = IsSound s.inner.func × AllSoundSites ss

sites_sound : (is : List Inner) (chains : List (List LinkView)) → AllSound is → AllSoundSites (sites is chains)
sites_sound [] chains h = tt
sites_sound (i ∷ is) [] h = tt
sites_sound (i ∷ is) (c ∷ cs) h = (h.0, sites_sound is cs h.1)

both_sites : (xs ys : List Site) → AllSoundSites xs → AllSoundSites ys → AllSoundSites (xs ++ ys)
both_sites [] ys x y = y
both_sites (s ∷ xs) ys x y = (x.0, both_sites xs ys x.1 y)

deep_sound : (ss all : List Site) → AllSites ss all → AllSoundSites ss → AllSoundSites all
deep_sound ss all no_sites h = tt
deep_sound ss all (more_sites s rest inside after deeper later) h =
    (h.0, both_sites inside after (deep_sound (sites_in s) inside deeper (sites_sound (inner_function s.inner.kind s.inner.name s.inner.func) (compiled_at s).chains (function_inner s.inner.kind s.inner.name s.inner.func h.0))) (deep_sound rest after later h.1))

-- the functions of a proper script without an early error
pub functions_sound : (items : Stmts) (end : ℕ) (all : List Site) → ProperStmts whole false items → early_error items ≡ None → AreFunctions items end all → AllSoundSites all
functions_sound items end all proper clean are = deep_sound _ all are (sites_sound _ (top_script items end).chains (script_inner items proper clean))

sound_at : (all : List Site) (place : ℕ) (s : Site) → AllSoundSites all → slice_get all place ≡ Some s → IsSound s.inner.func
sound_at [] place s h is = absurd (cc)
sound_at (x ∷ all) zero s h is = subst (λ (y : Site). IsSound y.inner.func) (same x s is) h.0
  where
    same : (a b : Site) → ◌≡◌ {A = Option Site} (Some a) (Some b) → a ≡ b
    same a b e = cc
sound_at (x ∷ all) (suc place) s h is = sound_at all place s h.1 is

-- the function of a number
pub site_sound : (items : Stmts) (end number : ℕ) (s : Site) → ProperStmts whole false items → early_error items ≡ None → HasSite items end number s → IsSound s.inner.func
site_sound items end number s proper clean h = sound_at h.all (number - 1) s (functions_sound items end h.all proper clean h.functions) h.is

-- ---- jumps

pub site_jumps_stay : (s : Site) → JumpsStay (compiled_at s).part.code
site_jumps_stay s = function_jumps_stay s.inner.kind s.inner.name s.inner.func s.chain

-- as they are shown, with the numbers of functions
pub shown_jumps_stay : (starts : List ℕ) (f : NamedFunction (List Command)) → JumpsStay f.code → JumpsStay (with_numbers starts f).code
shown_jumps_stay starts f h = stays_renumbered (numbers_of starts f.inner) f.code h

-- ---- depth tables

with_notes : (bytes : List ℕ) (notes named : List TryNote) → notes ≡ named → HasDepthTable bytes named → HasDepthTable bytes notes
with_notes bytes notes named same h = subst (HasDepthTable bytes) (sym same) h

-- a stencil that stands for the code of a sound function, by the places of the functions in it
pub sound_has_table : (texts : List (List ℕ)) (part : FunctionView) (s : Site) → IsSound s.inner.func → FunctionStandsFor ShowsCommands texts part (compiled_at s).part → length part.code < 2 ^ 64 → HasDepthTable part.code part.notes
sound_has_table texts part s sound stands short =
    with_notes part.code part.notes (compiled_at s).part.notes stands.notes
    (function_table s.inner.kind s.inner.name s.inner.func s.chain texts part.code (compiled_at s).part.code (function_targets s.inner.func sound.around sound.behind sound.proper sound.notes sound.clean) (alike_all (compiled_at s).part.code) stands.code short)

-- by the numbers of the functions
pub shown_has_table : (starts : List ℕ) (texts : List (List ℕ)) (part : FunctionView) (s : Site) → IsSound s.inner.func → FunctionStandsFor ShowsCommands texts part (with_numbers starts (compiled_at s).part) → length part.code < 2 ^ 64 → HasDepthTable part.code part.notes
shown_has_table starts texts part s sound stands short =
    with_notes part.code part.notes (compiled_at s).part.notes stands.notes
    (function_table s.inner.kind s.inner.name s.inner.func s.chain texts part.code (with_numbers starts (compiled_at s).part).code (function_targets s.inner.func sound.around sound.behind sound.proper sound.notes sound.clean) (alike_renumbered (numbers_of starts (compiled_at s).part.inner) (compiled_at s).part.code) stands.code short)

-- a stencil that stands for the code of a proper script without an early error
pub top_has_table : (items : Stmts) (end : ℕ) (texts : List (List ℕ)) (part : FunctionView) → ProperStmts whole false items → early_error items ≡ None → FunctionStandsFor ShowsCommands texts part (top_script items end).part → length part.code < 2 ^ 64 → HasDepthTable part.code part.notes
top_has_table items end texts part proper clean stands short =
    with_notes part.code part.notes (top_script items end).part.notes stands.notes
    (script_table items end texts part.code (top_script items end).part.code (script_targets items proper clean) (alike_all (top_script items end).part.code) stands.code short)

pub shown_top_has_table : (starts : List ℕ) (items : Stmts) (end : ℕ) (texts : List (List ℕ)) (part : FunctionView) → ProperStmts whole false items → early_error items ≡ None → FunctionStandsFor ShowsCommands texts part (with_numbers starts (top_script items end).part) → length part.code < 2 ^ 64 → HasDepthTable part.code part.notes
shown_top_has_table starts items end texts part proper clean stands short =
    with_notes part.code part.notes (top_script items end).part.notes stands.notes
    (script_table items end texts part.code (with_numbers starts (top_script items end).part).code (script_targets items proper clean) (alike_renumbered (numbers_of starts (top_script items end).part.inner) (top_script items end).part.code) stands.code short)
