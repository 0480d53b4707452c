use Rattle.parse_exprs.specs.Source.{lexemes}
use Rattle.parse_top.proofs.TopLaws.{top_shown, top_refused, top_on}
use Rattle.parse_top.proofs.top.outermost.Goals as goal

pub returns : goal.returns
returns g c = λ i. top_shown g.H.Handler.shows_body i c.args.source.now c.args.state.now.place c.script.new.state.place c.requires.start c.requires.none c.in_ok-top.top (c.in_ok-top.ensures i)

pub returns-in_err-top : goal.returns-in_err-top
returns-in_err-top g c = λ i.
    top_on g.H.Handler.shows_body i (lexemes c.args.source.now i) c.in_err-top.field-0.0 c.from_residual.result c.from_residual.ensures.1
    (top_refused g.H.Handler.shows_body i c.args.source.now c.args.state.now.place c.script.new.state.place c.requires.start c.requires.none c.in_err-top.field-0.0 (c.in_err-top.ensures i))
