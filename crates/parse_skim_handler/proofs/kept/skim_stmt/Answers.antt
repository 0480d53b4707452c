use Rattle.std.proofs.Common.{Option, sym}
use Rattle.script_grammar.specs.Interpretation.{Interpretation}
use Rattle.script_grammar.specs.declared.tree.Ident.{Ident}
use Rattle.parse_track.specs.declared.region.Declare.{Declare}
use Rattle.parse_track_pieces.specs.Parts.{declares_as}
use Rattle.parse_skim_handler.specs.Meaning.{Meaning}
use Rattle.parse_skim_handler.specs.Telling.{told_puts, told_says}
use Rattle.parse_skim_handler.specs.Kept.{whole_as}
use Rattle.parse_skim_handler.specs.declared.packed.Whole.{Whole}
use Rattle.parse_skim_handler.proofs.Meanings.{adds-as, adds-then, if_ok}
use Rattle.parse_skim_handler.proofs.kept.skim_stmt.Goals as goal

-- a statement that declares this name, in this way
abbrev declares_this : Interpretation → Declare → Whole → Option Ident → Meaning
declares_this i how w name = record { says = λ rest. declares_as i how name (told_says i w.told rest); puts = told_puts i w.told; first = w.errors.first }

pub returns-in-None : goal.returns-in-None
returns-in-None c = if_ok c.then_kept.result c.then_kept.ensures (λ made h i. adds-as i (whole_as i c.args.how) (sym c.whole-declares.ensures) (adds-as i (declares_this i c.args.how c.whole-declares.result) c.in-None.is (h i)))

pub returns-in_ok-named-in-Some : goal.returns-in_ok-named-in-Some
returns-in_ok-named-in-Some c =
    if_ok c.then_kept-in-Some.result c.then_kept-in-Some.ensures (λ made h i.
    adds-as i (whole_as i c.args.how) (sym c.whole-declares.ensures) (adds-as i (declares_this i c.args.how c.whole-declares.result) c.in-Some.is (adds-then i (c.in_ok-named-in-Some.ensures i) (h i))))
