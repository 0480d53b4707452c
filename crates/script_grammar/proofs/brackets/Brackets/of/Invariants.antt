use Rattle.std.proofs.Common.{reverse}
use Rattle.script_grammar.specs.Matching.{kinds_of}
use Rattle.script_grammar.specs.BracketWalk.{Walked, partner_in}
use Rattle.script_grammar.proofs.brackets.Brackets.of.Given as goal

abbrev pub invariant-loop-token : goal.invariant-loop-token
invariant-loop-token l = Walked (kinds_of l.tokens) l.token (partner_in l.walk.partners.items) (reverse l.walk.stack.items)
