-- Files after their first passes go to other threads, and a command's files are shared by its workers: so may all that they are made of,
-- one part after another.
use Rattle.std.specs.contracts.impls.GlobalAllocator.TheImpl.{ghosts as heap_ghosts}
use denote.Builtin.{bool}
use denote.Enum.Declared.{shape as cases}
use denote.Param.Send.{IsSend, IsSync, enum_send, enum_sync, plain_send, plain_sync, recorded_send, recorded_sync, sendable, struct_send, struct_sync}
use denote.RattleType.{RattleType}
use denote.Ref.{NamedLft}
use denote.Struct.Declared.{shape}
use Rattle.session_requests.proofs.Crossing.{chain_send, chain_sync, work_sync}
use Rattle.stencil_board.specs.declared.sources.Sources.{Ghosts}
use Rattle.std.proofs.Crossing as std
use Rattle.std.proofs.vec.Vec.TheSendSync as vec
use Rattle.std.specs.contracts.vec.Vec as vec_row
use Rattle.std.specs.contracts.alloc.Global as heap
use Rattle.std.proofs.alloc.Global.TheSendSync as global
use Rattle.std.below.std_heap.proofs.GlobalAllocator.TheSendSync as frees
use Rattle.std.proofs.option.Option.TheSendSync as option
use Rattle.stencil_data.proofs.stencils.InitialParts.TheSendSync as parts
use Rattle.compile_initial.proofs.Nesting.TheSendSync as around
use Rattle.compile_initial.specs.contracts.InitialStencil as initial
use Rattle.session_words.proofs.options.FileJob.TheSendSync as job
use Rattle.compile_session.proofs.refusal.Refusal.TheSendSync as refusal
use Rattle.compile_session.specs.contracts.start.ScriptStart as script
use Rattle.compile_session.specs.contracts.start.FileStart as start
use Rattle.compile_session.specs.contracts.shown.FilesToShow as files

initial_send : IsSend (initial.the_field).row
initial_send = struct_send (shape initial.the_type) (
  parts.the_send,
  (
    search (chain_send, vec.the_send, std.crosses, sendable) depth 60 fits 20000,
    (search (around.the_send, around.the_field_send, vec.the_send, std.crosses, sendable) depth 60 fits 20000, tt),
  ),
)

initial_shared : IsSync (initial.the_field).row
initial_shared = struct_sync (shape initial.the_type) (
  parts.the_sync,
  (
    search (chain_sync, vec.the_sync, std.crosses, sendable) depth 60 fits 20000,
    (search (around.the_sync, around.the_field_sync, vec.the_sync, std.crosses, sendable) depth 60 fits 20000, tt),
  ),
)

flags_send : IsSend (vec_row.the_row bool heap.the_row heap_ghosts)
flags_send = vec.the_send bool heap.the_row heap_ghosts (plain_send _ _ _ _ _) global.the_send frees.the_frees

flags_sync : IsSync (vec_row.the_row bool heap.the_row heap_ghosts)
flags_sync = vec.the_sync bool heap.the_row heap_ghosts (plain_sync _ _ _ _ _) global.the_sync

script_send : IsSend (script.the_field).row
script_send = struct_send (shape script.the_type) (initial_send, (flags_send, tt))

script_sync : IsSync (script.the_field).row
script_sync = struct_sync (shape script.the_type) (initial_shared, (flags_sync, tt))

start_kept : IsSync (start.the_field).row
start_kept = enum_sync (cases start.the_type) ((script_sync, tt), ((refusal.the_field_sync, tt), tt))

pub start_send : IsSend start.the_row
start_send = recorded_send (start.the_field).row _ _ (start.the_type).to_one (enum_send (cases start.the_type) ((script_send, tt), ((refusal.the_field_send, tt), tt)))

start_sync : IsSync start.the_row
start_sync = recorded_sync (start.the_field).row _ _ (start.the_type).to_one start_kept

module _ (T : RattleType) (S : Ghosts T.Denot) (send : IsSend T) (sync : IsSync T) where
  pub files_sync : (κ : NamedLft) → IsSync (files.the_row κ T S)
  files_sync κ = search (start_sync, start_kept, work_sync T S send sync, job.the_sync, option.the_sync, vec.the_sync, std.crosses, sendable) depth 60 fits 20000
