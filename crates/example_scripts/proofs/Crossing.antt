-- What a thread hands back may go to another thread, and the boards are shared by them: so may all that they are made of.
use denote.RattleType.{RattleType}
use denote.Param.Send.{sendable, IsSend, IsSync}
use denote.Ref.{NamedLft}
use Rattle.std.proofs.Crossing as std
use Rattle.std.proofs.MapsCrossing as maps
use Rattle.std.proofs.vec.Vec.TheSendSync as vec
use Rattle.std.proofs.sync.Arc.TheSendSync as arc
use Rattle.std.proofs.option.Option.TheSendSync as option
use Rattle.once_cell.proofs.race.once_box.OnceBox.TheSendSync as once
use Rattle.once_cell.proofs.race.note.Note.TheSendSync as note
use Rattle.stencil_data.specs.contracts.chains.Chain as chain_row
use Rattle.stencil_data.proofs.chains.Chain.TheLaws.TheKnot as knot
use Rattle.stencil_data.proofs.indexed_link.IndexedLink.TheSendSync as indexed
use Rattle.stencil_data.proofs.stencils.FunctionStencil.TheSendSync as stencil
use Rattle.stencil_data.proofs.stencils.InitialParts.TheSendSync as parts
use Rattle.stencil_data.proofs.texts.Text.TheSendSync as text
use Rattle.compile_initial.proofs.Nesting.TheSendSync as around
use Rattle.compile_initial.specs.contracts.InitialStencil as initial
use Rattle.lazy_compile.specs.contracts.Delazified as made
use Rattle.stencil_board.specs.declared.sources.Sources.{Ghosts}
use Rattle.stencil_board.specs.contracts.filled.Filled as filled
use Rattle.stencil_board.specs.contracts.pass.Pass as pass
use Rattle.stencil_board.specs.contracts.board.Board as board
use Rattle.example_scripts.specs.contracts.threads.Asked as asked
use Rattle.example_scripts.specs.contracts.threads.Seat as seat
use Rattle.example_scripts.specs.contracts.threads.Handed as handed

chain_send : IsSend chain_row.the_row
chain_send = search (indexed.the_send, indexed.the_sync, knot.crosses, maps.crosses, std.crosses, sendable) depth 60 fits 20000

chain_sync : IsSync chain_row.the_row
chain_sync = search (indexed.the_send, indexed.the_sync, knot.crosses, maps.crosses, std.crosses, sendable) depth 60 fits 20000

made_send : IsSend made.the_row
made_send = search (stencil.the_send, text.the_send, chain_send, vec.the_send, std.crosses, sendable) depth 60 fits 20000

made_sync : IsSync made.the_row
made_sync = search (stencil.the_sync, text.the_sync, chain_sync, vec.the_sync, std.crosses, sendable) depth 60 fits 20000

initial_sync : IsSync initial.the_row
initial_sync = search (parts.the_sync, around.the_sync, chain_sync, vec.the_sync, std.crosses, sendable) depth 60 fits 20000

asked_send : IsSend asked.the_row
asked_send = search (made_send, made_sync, arc.the_send, std.crosses, sendable) depth 60 fits 20000

module _ (T : RattleType) (S : Ghosts T.Denot) (send : IsSend T) where
  filled_send : IsSend (filled.the_row T S)
  filled_send = search (made_send, made_sync, arc.the_send, std.crosses, sendable) depth 60 fits 20000

  pass_send : IsSend (pass.the_row T S)
  pass_send = search (filled_send, note.the_send, option.the_send, vec.the_send, std.crosses, sendable) depth 60 fits 20000

  seat_send : IsSend (seat.the_row T S)
  seat_send = search (asked_send, pass_send, vec.the_send, std.crosses, sendable) depth 60 fits 20000

  pub handed_send : IsSend (handed.the_row T S)
  handed_send = search (seat_send, std.crosses, sendable) depth 60 fits 20000

  module _ (sync : IsSync T) where
    filled_sync : IsSync (filled.the_row T S)
    filled_sync = search (made_send, made_sync, arc.the_sync, std.crosses, sendable) depth 60 fits 20000

    pub board_sync : (κ : NamedLft) → IsSync (board.the_row κ T S)
    board_sync κ = search (filled_send, filled_sync, initial_sync, once.the_sync, vec.the_sync, std.crosses, sendable) depth 60 fits 20000
