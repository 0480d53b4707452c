use Rattle.std.proofs.Common.{◌∙◌, refl, None}
use Rattle.script_grammar.specs.Shows.{FuncOf}
use Rattle.parse_exprs.proofs.ParamParts.{simple_same}
use Rattle.script_grammar.specs.declared.token.FuncForm.TheVariants as form
use Rattle.grammar_parser_specs.specs.Exprs.{Head, function_case, arrow_body}
use Rattle.parse_bodies.proofs.Alone.{arrow_made}
use Rattle.parse_bodies.proofs.Faults.{refused_behind}
use Rattle.grammar_parser_specs.specs.Stmts.{arrow_alone, strict_body}
use Rattle.parse_exprs.proofs.Steps.{then, made, handed, refused}
use Rattle.parse_bodies.proofs.arrows.arrow_alone.Goals as goal

pub returns : goal.returns
unfolding arrow_alone strict_body arrow_body
returns g c = λ i. let a = c.in_ok-head.ensures i in
    let h : Head = record { start = c.in_ok-head.head.start; params = a.0; comma = c.in_ok-head.head.comma; bare = c.in_ok-head.head.bare } in (
      a.0,
      a.1,
      arrow_made i (g.H.Handler.shows_expr i) (g.H.Handler.shows_body i) c.in_ok-body.body h (c.in_ok-body.ensures i h refl (c.is_simple.ensures ∙ simple_same i (g.H.Handler.shows_expr i) _ a.0 a.1))
          (λ b x. then _ a.2 (then _ (c.in_ok-arrow_mark.ensures i) (made (function_case form.Arrow None h) x))),
    )

pub returns-in_err-body : goal.returns-in_err-body
unfolding arrow_alone strict_body arrow_body
returns-in_err-body g c = λ i. let s = c.args.source.now in let p = c.arrow_body.new.self.place in let e = c.in_err-body.field-0.0 in let a = c.in_ok-head.ensures i in
    let h : Head = record { start = c.in_ok-head.head.start; params = a.0; comma = c.in_ok-head.head.comma; bare = c.in_ok-head.head.bare } in
    handed s i p e c.from_residual-in_err-body.result (FuncOf i (g.H.Handler.shows_expr i) (g.H.Handler.shows_body i)) _ _ c.from_residual-in_err-body.ensures.1
    (refused_behind s i p e _ a.2 (refused_behind s i p e _ (c.in_ok-arrow_mark.ensures i) (refused s i p e _ _ _ (c.in_err-body.ensures i h refl (c.is_simple.ensures ∙ simple_same i (g.H.Handler.shows_expr i) _ a.0 a.1)))))
