use Rattle.parse_exprs.specs.Answers.{Answers}
use Rattle.parse_bodies.proofs.Later.{none_before}
use Rattle.std.proofs.Common.{subst}
use Rattle.grammar_parser_specs.specs.Stmts as pure
use Rattle.parse_exprs.specs.Source.{front}
use Rattle.parse_bodies.specs.Blocks.{stmts_at}
use Rattle.parse_bodies.specs.Means.{BodyOf}
use Rattle.parse_bodies.proofs.whole.pending_body.Goals as goal

pub body-requires : goal.body-requires
body-requires g c = c.requires.source

pub returns : goal.returns
returns g c = λ i. subst (λ rs. Answers (BodyOf (g.H.Handler.shows_body i)) c.args.source.now i c.body.new.state.place c.body.result rs (pure.reading (stmts_at i c.args.pending.depth) c.args.pending.form 0 c.args.pending.simple (front c.args.source.now i c.args.pending.token))) (none_before c.args.source.now i _ c.requires.none) (c.body.ensures i c.args.pending.form 0 c.args.pending.simple)
