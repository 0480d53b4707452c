use Rattle.std.proofs.Common.{◌+◌, ◌≤◌, List, drop}
use Rattle.stencil_data.specs.Named.{NamedScope}
use Rattle.stencil_data.specs.StandsFor.{named_bindings}
use Rattle.scope_analysis.specs.DeclaredNames.{Text}
use Rattle.scope_analysis.specs.Kept.{declarations_of}
use Rattle.scope_analysis.specs.Placing.{Ready, Going}
use Rattle.scope_analysis.proofs.place.place.Given as goal

abbrev pub invariant-loop-name : goal.invariant-loop-name
invariant-loop-name l = record {
  envs_few : l.next.env ≤ l.name-index;
  args_few : l.next.arg ≤ l.name-index;
  frames_few : l.next.frame ≤ l.frame + l.name-index;
  going : (inner : List Text) (later : List NamedScope) → Ready l.known.texts.now l.known.closed.now l.number inner later 0 0 l.frame l.from (declarations_of l.known.texts.now l.names)
      → Going l.known.texts.now l.known.closed.now l.number inner later l.frame (declarations_of l.known.texts.now l.names) (named_bindings l.known.texts.now l.bindings.items) l.next.env l.next.arg l.next.frame l.closed (declarations_of l.known.texts.now (drop l.name-index l.names));
}
