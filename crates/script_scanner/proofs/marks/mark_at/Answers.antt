use Rattle.std.proofs.Common.{◌≡◌, ◌∙◌, sym, ap, subst, List, [], ◌<◌, ◌≤◌, length}
use Rattle.std.specs.Prelude.{option_map, map, Option, IfSome}
use Rattle.std.proofs.lemmas.List.{nil_from_length}
use Rattle.unit_text.specs.declared.Point.{Point}
use Rattle.unit_text.specs.Points.{code_of}
use Rattle.script_scanner.specs.declared.marks.Sign.{Sign}
use Rattle.script_scanner.specs.Marks.{mark_at, sign_of}
use Rattle.script_scanner.proofs.MarkLemmas.{mark_by_first, no_mark_at_end, mark_within}
use Rattle.script_scanner.proofs.Lists.{behind_first}
use Rattle.script_scanner.proofs.marks.mark_at.Goals as goal

pub returns-in-None : goal.returns-in-None
returns-in-None g c =
    let empty : [] ≡ (g.T.Source.points c.args.rest) = sym (nil_from_length (g.T.Source.points c.args.rest) c.in-None.ensures.cases) in
    record {
      value = no_mark_at_end ∙ ap (λ (ps : List Point). option_map sign_of (mark_at (map code_of ps))) empty;
      within = tt;
    }

pub returns-in-Some : goal.returns-in-Some
returns-in-Some g c =
    let found : c.mark_with.result ≡ option_map sign_of (mark_at (map code_of (g.T.Source.points c.args.rest))) =
    c.mark_with.ensures ∙ sym (mark_by_first c.in-Some.first.code (map code_of (g.T.Source.points c.behind.result)))
    ∙ ap (λ (ps : List Point). option_map sign_of (mark_at (map code_of ps)))
    (sym (behind_first (g.T.Source.points c.args.rest) _ (g.T.Source.points c.behind.result) c.in-Some.first c.in-Some.ensures.cases.0 c.behind.ensures)) in
    record {
      value = found;
      within = subst (λ (o : Option Sign). IfSome o (λ sign. (0 < sign.length) × (sign.length ≤ length (g.T.Source.points c.args.rest)))) (sym found) (mark_within (g.T.Source.points c.args.rest));
    }
