use Rattle.std.proofs.Common.{ap, arith, sym, ◌∙◌}
use Rattle.script_grammar.specs.Kinds.{is_mark}
use Rattle.grammar_parser_specs.specs.Exprs.{ARest}
use Rattle.parse_exprs.specs.Answers.{records}
use Rattle.parse_exprs.specs.Means.{NameOf}
use Rattle.parse_exprs.specs.Source.{front}
use Rattle.parse_exprs.proofs.Calls.{answers_inside, refuses_none}
use Rattle.script_grammar.specs.declared.token.mark.TheConstants as mark
use Rattle.parse_exprs.proofs.state.State.rest_call.Goals as goal

pub returns : goal.returns
returns g c = λ i. answers_inside i c.args.depth ARest (NameOf i) c.args.source.now c.arrow_rest.new.self.place c.arrow_rest.result (records c.args.source.now i c.args.self.now.place) (front c.args.source.now i c.args.self.now.place.at) (omega arith) (c.arrow_rest.ensures i)

pub returns-then-depth-ge-DEPTH_LIMIT : goal.returns-then-depth-ge-DEPTH_LIMIT
returns-then-depth-ge-DEPTH_LIMIT g c = λ i. rw c.no_room.ensures (refuses_none i c.args.depth ARest c.args.source.now c.args.self.now.place c.is_mark.result (omega arith) (sym (c.is_mark.ensures ∙ ap (is_mark mark.ELLIPSIS) (c.kind-kind.ensures i))))
