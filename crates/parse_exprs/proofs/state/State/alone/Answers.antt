use Rattle.std.proofs.Common.{◌≡◌, ◌∙◌, ap, subst, sym, Result, Err}
use Rattle.std.specs.Prelude.{IsErrAnd}
use Rattle.std.proofs.lemmas.Result.{err_from_is_err_and}
use Rattle.script_grammar.specs.Lexeme.{lexeme_of}
use Rattle.grammar_parser_specs.specs.Exprs.{atom_case}
use Rattle.parse_exprs.specs.declared.place.ParseFault.{ParseFault}
use Rattle.parse_exprs.specs.declared.place.ParseFault.TheVariants as faults
use Rattle.parse_exprs.specs.Answers.{Makes}
use Rattle.parse_exprs.specs.Means.{ShowRanked}
use Rattle.parse_exprs.proofs.ChainExits.{atom_rank}
use Rattle.parse_exprs.proofs.state.State.alone.Goals as goal

-- want of memory that `?` hands on
makes_handed : {E D : Type 0} (P : E → Type 0) (Q : D → Type 0) (e : ParseFault) (o : Result D ParseFault) → IsErrAnd o (λ y. y ≡ e) → Makes {E = E} (Err e) P → Makes o Q
makes_handed {E = E} {D = D} P Q e o h m = let x = err_from_is_err_and o h in subst (λ y. Makes y Q) (ap Err (sym x.2) ∙ sym x.1) (same e m)
  where
    same : (f : ParseFault) → Makes {E = E} (Err f) P → Makes {E = D} (Err f) Q
    same faults.NoMemory m = tt
    same (faults.Unexpected k) m = absurd m
    same (faults.TooDeep k) m = absurd m

pub returns-clause-makes : goal.returns-clause-makes
returns-clause-makes g c = λ i get set.
    let r = atom_rank c.args.token.kind (lexeme_of get set i.texts c.args.token) in
    (c.in_ok-node.ensures.makes i get set, r.0, r.1)

pub returns-in_err-node-clause-makes : goal.returns-in_err-node-clause-makes
returns-in_err-node-clause-makes g c = λ i get set.
    let t = atom_case c.args.token.kind (lexeme_of get set i.texts c.args.token) in
    makes_handed (λ e. g.H.Handler.shows_expr i e t) (λ e. ShowRanked (g.H.Handler.shows_expr i) e t) c.in_err-node.field-0.0 c.from_residual.result c.from_residual.ensures.1 (c.in_err-node.ensures.makes i get set)
