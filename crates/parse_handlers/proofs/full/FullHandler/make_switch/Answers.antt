use Rattle.std.proofs.Common.{◌∙◌, ap, map}
use Rattle.script_grammar.specs.Tree as model
use Rattle.script_grammar.specs.TreeLists.{clauses_of}
use Rattle.script_grammar.specs.TreeOf.{clause_of}
use Rattle.script_grammar.specs.Shows.{ShowClause}
use Rattle.parse_handlers.specs.Kept.{IsExpr, IsStmt, kept_clause}
use Rattle.parse_handlers.proofs.KeptLists.{map-shown}
use Rattle.parse_handlers.proofs.KeptShown.{if_ok, clause_shown}
use Rattle.parse_handlers.proofs.full.FullHandler.make_switch.Goals as goal

pub returns : goal.returns
returns c = λ i t cs h g. if_ok c.switch.result (λ made p. p i ∙ ap (λ x. model.Switch x (clauses_of (map (clause_of i) c.in_ok-clauses.clauses.items))) h ∙ ap (λ xs. model.Switch t (clauses_of xs)) (c.in_ok-clauses.ensures i ∙ map-shown (ShowClause (IsExpr i) (IsStmt i)) (kept_clause i) (clause_shown i) c.args.clauses.items cs g)) c.switch.ensures
