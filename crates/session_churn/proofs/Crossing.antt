-- A round is shared by its workers, since its board is.
use denote.Param.Send.{IsSync, sendable}
use denote.Ref.{NamedLft}
use Rattle.relazy_board.proofs.Crossing.{board_sync}
use Rattle.std.proofs.Crossing as std
use Rattle.session_churn.specs.contracts.round.Round as round

pub round_sync : (κ κ' : NamedLft) → IsSync (round.the_row κ κ')
round_sync κ κ' = search (board_sync, std.crosses, sendable) depth 60 fits 20000
