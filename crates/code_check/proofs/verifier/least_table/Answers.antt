use Rattle.std.proofs.Common.{length, sym, subst}
use Rattle.code_check.specs.Catches.{HasLanding}
use Rattle.code_check.specs.Survey.{AreStarts}
use Rattle.code_check.proofs.Catches.{indexed_on}
use Rattle.code_check.proofs.Searches.{first_blocked, searched_first}
use Rattle.code_check.proofs.Stops.{handed}
use Rattle.code_check.proofs.verifier.least_table.Goals as goal

pub returns-in_err-arrive-clause-err : goal.returns-in_err-arrive-clause-err
returns-in_err-arrive-clause-err c =
    handed c.from_residual-in_err-arrive.result c.in_err-arrive.field-0.0 c.from_residual-in_err-arrive.ensures.1
    (first_blocked c.args.code.now c.args.notes.now c.deref.result.now c.in_ok-survey.survey c.in_ok-survey.ensures (subst (AreStarts c.args.code.now) (sym c.deref.ensures.value) c.in_ok-starts.ensures))
    c.in_err-arrive.ensures.err

pub search-requires-clause-searched : goal.search-requires-clause-searched
search-requires-clause-searched c =
    searched_first c.args.code.now c.args.notes.now c.deref.result.now c.in_ok-survey.survey c.arrive.new.self c.in_ok-survey.ensures (subst (AreStarts c.args.code.now) (sym c.deref.ensures.value) c.in_ok-starts.ensures) c.in_ok-arrive.ensures.ok

pub search-requires-clause-indexed : goal.search-requires-clause-indexed
search-requires-clause-indexed c = indexed_on c.args.notes.now (length c.args.code.now) (λ note. ⊥) (HasLanding c.arrive.new.self) c.in_ok-index.index (λ note none. absurd none) c.in_ok-index.ensures
