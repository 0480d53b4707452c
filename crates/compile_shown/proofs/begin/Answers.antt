use Rattle.std.proofs.Common.{ℕ, List, inr, refl, sym, subst, arith}
use Rattle.parser_atoms.specs.Places.{AreWithoutEquals, StandsIn}
use Rattle.track_atoms.specs.Known.{HasWords, known_atoms}
use Rattle.compile_specs.specs.Shown.{All}
use Rattle.compile_shown.proofs.Flags.{few_records}
use Rattle.compile_shown.proofs.Steps.{begun_up_to}
use Rattle.compile_shown.proofs.begin.Goals as goal

pub of_apart-requires-clause-texts : goal.of_apart-requires-clause-texts
of_apart-requires-clause-texts c = let few = c.requires.1.few in omega (arith, few)

pub of_apart-requires-clause-records : goal.of_apart-requires-clause-records
of_apart-requires-clause-records c = let few = few_records All c.requires.0 c.args.initial.now c.requires.1 in omega (arith, few)

pub of_apart-requires-clause-apart : goal.of_apart-requires-clause-apart
of_apart-requires-clause-apart c = c.requires.1.apart

pub returns : goal.returns
returns c = λ want bytes is.
    begun_up_to want bytes c.args.initial.now is c.in_ok-merger.merger c.in_ok-merger.ensures.begins
    (record {
      more = c.in_ok-merger.merger.texts;
      is = refl;
      among = λ text s. inr (subst (λ (ts : List (List ℕ)). StandsIn ts text) c.in_ok-merger.ensures.same s);
      apart = subst AreWithoutEquals (sym c.in_ok-merger.ensures.same) c.requires.1.apart;
    })
    (subst (λ (ts : List (List ℕ)). HasWords ts known_atoms) (sym c.in_ok-merger.ensures.same) is.texts.words) c.in_ok-merger.ensures.records
