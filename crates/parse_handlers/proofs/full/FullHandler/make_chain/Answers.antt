use Rattle.std.proofs.Common.{◌∙◌, ap, map}
use Rattle.script_grammar.specs.Tree as model
use Rattle.script_grammar.specs.TreeLists.{tails_of}
use Rattle.script_grammar.specs.TreeOf.{tail_of}
use Rattle.script_grammar.specs.Shows.{ShowTail}
use Rattle.parse_handlers.specs.Kept.{IsExpr, kept_tail}
use Rattle.parse_handlers.proofs.KeptLists.{map-shown}
use Rattle.parse_handlers.proofs.KeptShown.{if_ok, tail_shown}
use Rattle.parse_handlers.proofs.full.FullHandler.make_chain.Goals as goal

pub returns : goal.returns
returns c = λ i t ts h g. if_ok c.chain.result (λ made p. p i ∙ ap (λ x. model.Chain x (tails_of (map (tail_of i) c.in_ok-tails.tails.items))) h ∙ ap (λ xs. model.Chain t (tails_of xs)) (c.in_ok-tails.ensures i ∙ map-shown (ShowTail i (IsExpr i)) (kept_tail i) (tail_shown i) c.args.tails.items ts g)) c.chain.ensures
