-- Where a statement stands, in the words of the definitions of its code.
use Rattle.std.specs.Prelude.{◌≡◌, ℕ, ◌-◌, Bool, List, [], map, slice_index_or}
use Rattle.script_grammar.specs.Interpretation.{Interpretation}
use Rattle.script_grammar.specs.Tree.{Stmts}
use Rattle.stencil_data.specs.declared.functions.Extent.{Extent}
use Rattle.stencil_data.specs.LinkView.{LinkView}
use Rattle.stencil_data.specs.Named.{NamedScope}
use Rattle.stencil_data.specs.StandsFor.{named_scope}
use Rattle.bytecode_buf.specs.declared.waits.Wait.{Wait}
use Rattle.bytecode_buf.specs.Appends.{Emitted}
use Rattle.bytecode_buf.specs.Emits.{emitted}
use Rattle.emit_exprs.specs.Exprs.{Scene}
use Rattle.emit_stmts.specs.declared.draft.Draft.{Draft}
use Rattle.emit_stmts.specs.declared.frames.Frame.{Frame}
use Rattle.emit_stmts.specs.declared.frames.Frame.TheVariants as frame
use Rattle.emit_stmts.specs.declared.stmt_context.StmtContext.{StmtContext}
use Rattle.emit_stmts.specs.Frames.{Loop, KeysLoop, Switching, Labelled, Entered, chain_of}
use Rattle.emit_stmts.specs.Frames as model
use Rattle.emit_stmts.specs.Stmts.{Setting}

abbrev pub frame_in : List (List ℕ) → Frame → model.Frame
frame_in texts frame.Loop = Loop
frame_in texts frame.KeysLoop = KeysLoop
frame_in texts frame.Switching = Switching
frame_in texts (frame.Labelled atom) = Labelled (slice_index_or texts atom [])
frame_in texts (frame.Entered number) = Entered number

abbrev pub frames_in : List (List ℕ) → List Frame → List model.Frame
frames_in texts frames = map (frame_in texts) frames

-- the texts, the scopes around and where the functions start, the function's scopes and the frames around
pub record Position : Type 0 where
  pub texts : List (List ℕ)
  pub chain : List LinkView
  pub starts : List ℕ
  pub scopes : List NamedScope
  pub is_script : Bool
  pub frames : List model.Frame
  pub room : ℕ

abbrev pub position_of : StmtContext → Position
position_of s = record {
  texts = s.exprs.texts.now;
  chain = s.exprs.chain.now;
  starts = map (λ (e : Extent). e.start) s.exprs.inner.now;
  scopes = map (named_scope s.exprs.texts.now) s.scopes.now;
  is_script = s.is_script;
  frames = frames_in s.exprs.texts.now s.frames.now;
  room = s.room;
}

abbrev pub framed : List model.Frame → Position → Position
framed frames p = record {
  texts = p.texts;
  chain = p.chain;
  starts = p.starts;
  scopes = p.scopes;
  is_script = p.is_script;
  frames = frames;
  room = p.room;
}

-- inside a scope that was entered
abbrev pub entered : List LinkView → List model.Frame → Position → Position
entered chain frames p = record {
  texts = p.texts;
  chain = chain;
  starts = p.starts;
  scopes = p.scopes;
  is_script = p.is_script;
  frames = frames;
  room = p.room - 1;
}

abbrev pub scene : Position → Scene
scene p = record { chain = p.chain; starts = p.starts }

-- what a statement's own position does not show: the bodies of functions that were passed over, and the scopes around
-- its function's body
pub record World : Type 0 where
  pub bodies : ℕ → Stmts
  pub base : List LinkView

abbrev pub setting : Position → World → Setting
setting p w = record { base = w.base; scopes = p.scopes; starts = p.starts; is_script = p.is_script }

abbrev pub within : Position → World → Interpretation
within p w = record { texts = p.texts; bodies = w.bodies }

-- the chain is that of the frames
pub record Stands (p : Position) (w : World) : Type 0 where
  pub chain : p.chain ≡ chain_of p.scopes w.base p.frames

-- code in the making, beside the jumps that wait in it
abbrev pub state : Draft → List Wait → Emitted
state d waits = emitted d.code waits d.notes.items
