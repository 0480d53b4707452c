use Rattle.std.proofs.Common.{◌+◌, ◌*◌, drop}
use Rattle.parse_function_list.specs.Weight.{weight}
use Rattle.parse_function_list.proofs.Turns.{Turn}
use Rattle.parse_function_list.proofs.listing.Listing.+listing.Given as goal

abbrev pub invariant-list_all-loop-function : goal.invariant-list_all-loop-function
invariant-list_all-loop-function l = Turn l.initial.self l.self l.initial.directly.items l.directly.items l.found (drop l.function-index l.found) l.around

abbrev pub decreases-list_all : goal.decreases-list_all
decreases-list_all l = 3 * goal.size-list_all l + 3 + weight l.self.now.bodies.items

abbrev pub decreases-list_one : goal.decreases-list_one
decreases-list_one l = 3 * goal.size-list_one l + 2 + weight l.self.now.bodies.items

abbrev pub decreases-list_inside : goal.decreases-list_inside
decreases-list_inside l = 3 * goal.size-list_inside l + 1 + weight l.self.now.bodies.items

abbrev pub decreases-list_body : goal.decreases-list_body
decreases-list_body l = weight l.self.now.bodies.items
