-- All code that is shown of a proper script without an early error is accepted.
use Rattle.std.proofs.Common.{◌≡◌, ℕ, Bool, true, false, if◌then◌else◌, List, [], ◌∷◌, map, Some, None, subst}
use Rattle.script_grammar.specs.Lexeme.{Lexeme}
use Rattle.script_grammar.specs.Proper.{ProperStmts}
use Rattle.script_grammar.specs.Pieces.{whole}
use Rattle.script_grammar.specs.Script.{IsScript}
use Rattle.script_grammar.specs.Tree.{Stmts}
use Rattle.stencil_data.specs.declared.functions.Extent.{Extent}
use Rattle.stencil_data.specs.declared.stencils.Entry.{Entry}
use Rattle.stencil_data.specs.declared.stencils.Entry.TheVariants as stencil
use Rattle.stencil_data.specs.MergedView.{MergedView}
use Rattle.stencil_data.specs.Named.{NamedFunction, NamedMerged}
use Rattle.stencil_data.specs.StandsFor.{FunctionStandsFor, EntryStandsFor, EntriesStandFor, MergedStandsFor}
use Rattle.stencil_data.specs.Views.{FunctionView}
use Rattle.parse_track.specs.Notes.{early_error, closed_names}
use Rattle.bytecode_buf.specs.Command.{Command, ShowsCommands}
use Rattle.emit_stmts.specs.Functions.{top_script}
use Rattle.compile_specs.specs.Eager.{Site, compiled_at}
use Rattle.compile_specs.specs.Shown.{Wanted, is_shown, with_numbers, entry, extents_of, starts_of, shown, IsShown}
use Rattle.bytecode_flow_laws.proofs.Within.{jumps_within}
use Rattle.emit_depth_laws.specs.Accepted.{IsAccepted, EntryAccepted, EntriesAccepted, AllAccepted}
use Rattle.emit_depth_laws.proofs.InnerFunctions.{IsSound}
use Rattle.emit_depth_laws.proofs.Sites.{AllSoundSites, functions_sound, site_jumps_stay, shown_jumps_stay, shown_has_table, shown_top_has_table}
use Rattle.emit_depth_laws.proofs.StayingFunctions.{script_jumps_stay}

site_accepted : (starts : List ℕ) (texts : List (List ℕ)) (part : FunctionView) (s : Site) → IsSound s.inner.func → FunctionStandsFor ShowsCommands texts part (with_numbers starts (compiled_at s).part) → IsAccepted part
site_accepted starts texts part s sound stands = record {
  jumps = jumps_within texts part.code (with_numbers starts (compiled_at s).part).code (shown_jumps_stay starts (compiled_at s).part (site_jumps_stay s)) stands.code;
  table = λ short. shown_has_table starts texts part s sound stands short;
}

top_accepted : (starts : List ℕ) (items : Stmts) (end : ℕ) (texts : List (List ℕ)) (part : FunctionView) → ProperStmts whole false items → early_error items ≡ None → FunctionStandsFor ShowsCommands texts part (with_numbers starts (top_script items end).part) → IsAccepted part
top_accepted starts items end texts part proper clean stands = record {
  jumps = jumps_within texts part.code (with_numbers starts (top_script items end).part).code (shown_jumps_stay starts (top_script items end).part (script_jumps_stay items end)) stands.code;
  table = λ short. shown_top_has_table starts items end texts part proper clean stands short;
}

entry_accepted : (b : Bool) (starts : List ℕ) (texts : List (List ℕ)) (e : Entry) (s : Site) → IsSound s.inner.func → EntryStandsFor ShowsCommands texts e (if b then Some (with_numbers starts (compiled_at s).part) else None) → EntryAccepted e
entry_accepted true starts texts stencil.Lazy s sound stands = tt
entry_accepted true starts texts (stencil.Compiled part) s sound stands = site_accepted starts texts part s sound stands
entry_accepted false starts texts stencil.Lazy s sound stands = tt
entry_accepted false starts texts (stencil.Compiled part) s sound stands = absurd stands

entries_accepted : (wanted : Wanted) (extents : List Extent) (starts : List ℕ) (texts : List (List ℕ)) (es : List Entry) (all : List Site) → AllSoundSites all → EntriesStandFor ShowsCommands texts es (map (entry wanted extents starts) (map (λ (s : Site). (compiled_at s).part) all)) → EntriesAccepted es
entries_accepted wanted extents starts texts [] all sound stands = tt
entries_accepted wanted extents starts texts (e ∷ es) [] sound stands = absurd stands
entries_accepted wanted extents starts texts (e ∷ es) (s ∷ all) sound stands =
    (entry_accepted (is_shown wanted extents (compiled_at s).part.extent) starts texts e s sound.0 stands.0, entries_accepted wanted extents starts texts es all sound.1 stands.1)

-- A stencil that stands for what is shown of a script without an early error, whichever functions are wanted: all its code is
-- accepted.
pub shown_accepted : (wanted : Wanted) (tokens : List Lexeme) (last : Lexeme) (items : Stmts) (end : ℕ) (named : NamedMerged (List Command)) (merged : MergedView) → IsScript tokens last items → early_error items ≡ None → IsShown wanted items end named → MergedStandsFor ShowsCommands merged named → AllAccepted merged
shown_accepted wanted tokens last items end named merged script clean (top, functions, eager, is) stands = record {
  top = top_accepted (starts_of functions) items end merged.texts merged.top script.proper clean (subst (λ (f : NamedFunction (List Command)). FunctionStandsFor ShowsCommands merged.texts merged.top (with_numbers (starts_of functions) f)) eager.script here.top);
  entries = entries_accepted wanted (extents_of functions) (starts_of functions) merged.texts merged.entries eager.all (functions_sound items end eager.all script.proper clean eager.are)
      (subst (λ (fs : List (NamedFunction (List Command))). EntriesStandFor ShowsCommands merged.texts merged.entries (map (entry wanted (extents_of functions) (starts_of functions)) fs)) eager.each here.entries);
}
  where
    here : MergedStandsFor ShowsCommands merged (shown wanted (closed_names items) top functions)
    here = subst (MergedStandsFor ShowsCommands merged) is stands
