use Rattle.std.proofs.Common.{ap, map, true, ◌∙◌}
use Rattle.parse_track.specs.EarlyErrors.{error_of}
use Rattle.parse_handlers.specs.FoundOf.{founds_before}
use Rattle.parse_early_handler.specs.Firsts.{strict_first}
use Rattle.parse_early_handler.proofs.Statements.{strict-first}
use Rattle.parse_track_pieces.proofs.Saying.{same-says}
use Rattle.parse_skim_handler.specs.Packed.{stmt_errors}
use Rattle.parse_skim_handler.proofs.Meanings.{begun}
use Rattle.parse_skim_handler.proofs.StandingParts.{stmt_errors-shown, stmts-stand}
use Rattle.parse_skim_handler.proofs.handler.SkimmingHandler.body.Goals as goal

pub returns : goal.returns
returns c = λ i ss h.
    let items = c.args.items.items in
    let kept = begun i (c.nothing.ensures i) (c.in_ok-kept.ensures i) in
    let stands = stmts-stand i true items ss h in
    let parts = c.in_ok-pieces.ensures in
    record {
      told = same-says (λ rest. c.in_ok-told.ensures i rest ∙ (parts.says i rest ∙ kept.says rest)) stands.says;
      found = λ r. ap (λ l. founds_before i l r) parts.found ∙ (kept.puts r ∙ stands.puts r);
      errors = record {
        holds = λ e k. record {
          first = kept.first ∙ stands.first e k;
          strict = ap (λ o. error_of 14 o) (c.first_strict-strict.ensures ∙ ap (λ l. strict_first (map stmt_errors l)) c.deref.ensures.value) ∙ (strict-first i e k (map stmt_errors items) ss (stmt_errors-shown i items ss h)).is;
        };
      };
    }
