use Rattle.std.proofs.Common.{ap, arith, rules, ◌∙◌}
use Rattle.std.specs.Prelude.{length, ◌≡◌}
use Rattle.bytecode_buf.specs.Layout.{instructions}
use Rattle.lazy_compile.specs.declared.Delazified.{Delazified}
use Rattle.relazy_board.proofs.Depths.{depth_bound}
use Rattle.session_churn.proofs.Totals.{function_counted}
use Rattle.session_churn.proofs.round.Round.visit.Goals as goal

pub request-requires-clause-room : goal.request-requires-clause-room
request-requires-clause-room c =
    let few = depth_bound c.args.self.now.board.now.initial c.args.number in
    let room = c.new-sheet.ensures.room in
    let same = c.from.ensures in
    omega (arith, few, room, same)

pub returns : goal.returns
returns c =
    let counted : c.count_instructions-instructions.result ≡ length (instructions c.value.result.now.stencil.code) = search rules in
    let none = c.new-sheet.ensures.count in
    let most = c.in_ok-reading.ensures.most in
    let told = c.count.ensures in
    let deep = depth_bound c.args.self.now.board.now.initial c.args.number in
    let within = c.requires.number.1 in
    let few = c.requires.can.few in
    record {
      instructions = function_counted c.args.self.now.board.now.bytes c.args.number c.count_instructions-instructions.result c.in_ok-reading.reading c.in_ok-reading.ensures.compiled
          (counted ∙ ap (λ (made : Delazified). length (instructions made.stencil.code)) c.value.ensures);
      few = omega (arith, none, most, told, deep, within, few);
    }
