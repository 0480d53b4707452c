use Rattle.parse_exprs.proofs.Climbing.{Climbing}
use Rattle.parse_exprs.proofs.EndLoops.{LoopingTo}
use Rattle.parse_exprs.proofs.Loops.{Looping}
use Rattle.parse_exprs.specs.Answers.{records}
use Rattle.parse_exprs.specs.Env.{env_at}
use Rattle.parse_exprs.specs.Means.{RankedOf, ending_as}
use Rattle.parse_exprs.specs.Source.{front}
use Rattle.grammar_parser_specs.specs.Exprs.{AParam, ARest, AnAssign, args_turn, item_turn, lead_turn, level_of, member_turn, more_turn, op_turn, part_turn, power_turn, tail_turn}
use Rattle.grammar_parser_specs.specs.Parser.{led, loop}
use Rattle.script_grammar.specs.Endings.{last_ending, operands_ending}
use Rattle.script_grammar.specs.Interpretation.{Interpretation}
use Rattle.script_grammar.specs.Shows.{ShowMaybe, ShowOperand, ShowParam, ShowPart, ShowTail}
use Rattle.script_grammar.specs.Tree.{Expr}
use Rattle.script_grammar.specs.TreeLists.{Param, exprs_of, operands_of}
use Rattle.std.proofs.Common.{drop, false, length, ◌*◌, ◌+◌, ◌-◌}
use Rattle.grammar_parser_specs.specs.Exprs as pure
use Rattle.script_grammar.specs.Tree as model
use Rattle.parse_exprs.proofs.state.State.+exprs.Given as goal

abbrev pub invariant-operands-loop-items : goal.invariant-operands-loop-items
invariant-operands-loop-items g l = (i : Interpretation) → LoopingTo (ShowOperand (g.H.Handler.shows_expr i)) (λ os. operands_ending (ending_as l.fn.ending) (operands_of os)) (op_turn l.fn.with_in l.fn.of (level_of (env_at i l.fn.depth) l.fn.with_in l.fn.lower false)) (records l.fn.source i l.fn.self.place) (loop (op_turn l.fn.with_in l.fn.of (level_of (env_at i l.fn.depth) l.fn.with_in l.fn.lower false)) (front l.fn.source i l.fn.self.place.at)) (records l.fn.source i l.self.place) (front l.fn.source i l.self.place.at) l.items.items (ending_as l.last)

abbrev pub decreases-operands-loop-items : goal.decreases-operands-loop-items
decreases-operands-loop-items g l = length (drop l.self.place.at l.fn.source.tokens.now)

abbrev pub invariant-level-loop-left : goal.invariant-level-loop-left
invariant-level-loop-left g l = (i : Interpretation) → RankedOf (g.H.Handler.shows_expr i) l.left (λ t. Climbing (env_at i l.fn.depth) l.fn.with_in l.fn.heads (records l.fn.source i l.fn.self.place) (front l.fn.source i l.fn.self.place.at) l.fn.of l.read t (records l.fn.source i l.self.place) (front l.fn.source i l.self.place.at))

abbrev pub decreases-level-loop-left : goal.decreases-level-loop-left
decreases-level-loop-left g l = l.fn.of - l.read

abbrev pub decreases-level : goal.decreases-level
decreases-level g l = 128 * (400 - l.depth) + (33 + 4 * l.of)

abbrev pub decreases-op_turn : goal.decreases-op_turn
decreases-op_turn g l = 128 * (400 - l.depth) + (34 + 4 * l.lower)

abbrev pub decreases-operands : goal.decreases-operands
decreases-operands g l = 128 * (400 - l.depth) + (35 + 4 * l.lower)

abbrev pub decreases-operands_from : goal.decreases-operands_from
decreases-operands_from g l = 128 * (400 - l.depth) + (36 + 4 * l.lower)

abbrev pub invariant-args_led-loop-items : goal.invariant-args_led-loop-items
invariant-args_led-loop-items g l = (i : Interpretation) (t : Expr) → g.H.Handler.shows_expr i l.fn.first t → Looping (g.H.Handler.shows_expr i) (args_turn (env_at i l.fn.depth)) (records l.fn.source i l.fn.self.place) (led (args_turn (env_at i l.fn.depth)) t (front l.fn.source i l.fn.self.place.at)) (records l.fn.source i l.self.place) (front l.fn.source i l.self.place.at) l.items.items

abbrev pub decreases-args_led-loop-items : goal.decreases-args_led-loop-items
decreases-args_led-loop-items g l = length (drop l.self.place.at l.fn.source.tokens.now)

abbrev pub invariant-array_items-loop-items : goal.invariant-array_items-loop-items
invariant-array_items-loop-items g l = (i : Interpretation) → Looping (ShowMaybe (g.H.Handler.shows_expr i)) (item_turn (env_at i l.fn.depth)) (records l.fn.source i l.fn.self.place) (loop (item_turn (env_at i l.fn.depth)) (front l.fn.source i l.fn.self.place.at)) (records l.fn.source i l.self.place) (front l.fn.source i l.self.place.at) l.items.items

abbrev pub decreases-array_items-loop-items : goal.decreases-array_items-loop-items
decreases-array_items-loop-items g l = length (drop l.self.place.at l.fn.source.tokens.now)

abbrev pub invariant-arrow_led-loop-items : goal.invariant-arrow_led-loop-items
invariant-arrow_led-loop-items g l = (i : Interpretation) (t : Param) → ShowParam i (g.H.Handler.shows_expr i) l.fn.first t → Looping (ShowParam i (g.H.Handler.shows_expr i)) (pure.arrow_turn (env_at i l.fn.depth)) (records l.fn.source i l.fn.self.place) (led (pure.arrow_turn (env_at i l.fn.depth)) t (front l.fn.source i l.fn.self.place.at)) (records l.fn.source i l.self.place) (front l.fn.source i l.self.place.at) l.items.items

abbrev pub decreases-arrow_led-loop-items : goal.decreases-arrow_led-loop-items
decreases-arrow_led-loop-items g l = length (drop l.self.place.at l.fn.source.tokens.now)

abbrev pub invariant-lead-loop-items : goal.invariant-lead-loop-items
invariant-lead-loop-items g l = (i : Interpretation) → Looping (g.H.Handler.shows_expr i) (lead_turn (env_at i l.fn.depth)) (records l.fn.source i l.fn.self.place) (loop (lead_turn (env_at i l.fn.depth)) (front l.fn.source i l.fn.self.place.at)) (records l.fn.source i l.self.place) (front l.fn.source i l.self.place.at) l.items.items

abbrev pub decreases-lead-loop-items : goal.decreases-lead-loop-items
decreases-lead-loop-items g l = length (drop l.self.place.at l.fn.source.tokens.now)

abbrev pub invariant-members-loop-items : goal.invariant-members-loop-items
invariant-members-loop-items g l = (i : Interpretation) → Looping (ShowTail i (g.H.Handler.shows_expr i)) (member_turn (env_at i l.fn.depth)) (records l.fn.source i l.fn.self.place) (loop (member_turn (env_at i l.fn.depth)) (front l.fn.source i l.fn.self.place.at)) (records l.fn.source i l.self.place) (front l.fn.source i l.self.place.at) l.items.items

abbrev pub decreases-members-loop-items : goal.decreases-members-loop-items
decreases-members-loop-items g l = length (drop l.self.place.at l.fn.source.tokens.now)

abbrev pub invariant-more-loop-items : goal.invariant-more-loop-items
invariant-more-loop-items g l = (i : Interpretation) → LoopingTo (g.H.Handler.shows_expr i) (λ ts. last_ending (ending_as l.fn.ending) (exprs_of ts)) (more_turn (env_at i l.fn.depth) l.fn.with_in) (records l.fn.source i l.fn.self.place) (loop (more_turn (env_at i l.fn.depth) l.fn.with_in) (front l.fn.source i l.fn.self.place.at)) (records l.fn.source i l.self.place) (front l.fn.source i l.self.place.at) l.items.items (ending_as l.last)

abbrev pub decreases-more-loop-items : goal.decreases-more-loop-items
decreases-more-loop-items g l = length (drop l.self.place.at l.fn.source.tokens.now)

abbrev pub invariant-params_led-loop-items : goal.invariant-params_led-loop-items
invariant-params_led-loop-items g l = (i : Interpretation) (t : Param) → ShowParam i (g.H.Handler.shows_expr i) l.fn.first t → Looping (ShowParam i (g.H.Handler.shows_expr i)) (pure.params_turn (env_at i l.fn.depth)) (records l.fn.source i l.fn.self.place) (led (pure.params_turn (env_at i l.fn.depth)) t (front l.fn.source i l.fn.self.place.at)) (records l.fn.source i l.self.place) (front l.fn.source i l.self.place.at) l.items.items

abbrev pub decreases-params_led-loop-items : goal.decreases-params_led-loop-items
decreases-params_led-loop-items g l = length (drop l.self.place.at l.fn.source.tokens.now)

abbrev pub invariant-powers-loop-items : goal.invariant-powers-loop-items
invariant-powers-loop-items g l = (i : Interpretation) → LoopingTo (ShowOperand (g.H.Handler.shows_expr i)) (λ os. operands_ending (ending_as l.fn.ending) (operands_of os)) (power_turn (env_at i l.fn.depth)) (records l.fn.source i l.fn.self.place) (loop (power_turn (env_at i l.fn.depth)) (front l.fn.source i l.fn.self.place.at)) (records l.fn.source i l.self.place) (front l.fn.source i l.self.place.at) l.items.items (ending_as l.last)

abbrev pub decreases-powers-loop-items : goal.decreases-powers-loop-items
decreases-powers-loop-items g l = length (drop l.self.place.at l.fn.source.tokens.now)

abbrev pub invariant-props_led-loop-items : goal.invariant-props_led-loop-items
invariant-props_led-loop-items g l = (i : Interpretation) (t : model.Prop) → g.H.Handler.shows_prop i l.fn.first t → Looping (g.H.Handler.shows_prop i) (pure.props_turn (env_at i l.fn.depth)) (records l.fn.source i l.fn.self.place) (led (pure.props_turn (env_at i l.fn.depth)) t (front l.fn.source i l.fn.self.place.at)) (records l.fn.source i l.self.place) (front l.fn.source i l.self.place.at) l.items.items

abbrev pub decreases-props_led-loop-items : goal.decreases-props_led-loop-items
decreases-props_led-loop-items g l = length (drop l.self.place.at l.fn.source.tokens.now)

abbrev pub invariant-tails-loop-items : goal.invariant-tails-loop-items
invariant-tails-loop-items g l = (i : Interpretation) → Looping (ShowTail i (g.H.Handler.shows_expr i)) (tail_turn (env_at i l.fn.depth)) (records l.fn.source i l.fn.self.place) (loop (tail_turn (env_at i l.fn.depth)) (front l.fn.source i l.fn.self.place.at)) (records l.fn.source i l.self.place) (front l.fn.source i l.self.place.at) l.items.items

abbrev pub decreases-tails-loop-items : goal.decreases-tails-loop-items
decreases-tails-loop-items g l = length (drop l.self.place.at l.fn.source.tokens.now)

abbrev pub invariant-template_parts-loop-items : goal.invariant-template_parts-loop-items
invariant-template_parts-loop-items g l = (i : Interpretation) → Looping (ShowPart i (g.H.Handler.shows_expr i)) (part_turn (env_at i l.fn.depth)) (records l.fn.source i l.fn.self.place) (loop (part_turn (env_at i l.fn.depth)) (front l.fn.source i l.fn.self.place.at)) (records l.fn.source i l.self.place) (front l.fn.source i l.self.place.at) l.items.items

abbrev pub decreases-template_parts-loop-items : goal.decreases-template_parts-loop-items
decreases-template_parts-loop-items g l = length (drop l.self.place.at l.fn.source.tokens.now)

abbrev pub decreases-args : goal.decreases-args
decreases-args g l = 128 * (400 - l.depth) + (5)

abbrev pub decreases-args_led : goal.decreases-args_led
decreases-args_led g l = 128 * (400 - l.depth) + (3)

abbrev pub decreases-args_turn : goal.decreases-args_turn
decreases-args_turn g l = 128 * (400 - l.depth) + (2)

abbrev pub decreases-array : goal.decreases-array
decreases-array g l = 128 * (400 - l.depth) + (3)

abbrev pub decreases-array_items : goal.decreases-array_items
decreases-array_items g l = 128 * (400 - l.depth) + (2)

abbrev pub decreases-arrow : goal.decreases-arrow
decreases-arrow g l = 128 * (400 - l.depth) + (13)

abbrev pub decreases-arrow_body : goal.decreases-arrow_body
decreases-arrow_body g l = 128 * (400 - l.depth) + (2)

abbrev pub decreases-arrow_first : goal.decreases-arrow_first
decreases-arrow_first g l = 128 * (400 - l.depth) + (6)

abbrev pub decreases-arrow_head : goal.decreases-arrow_head
decreases-arrow_head g l = 128 * (400 - l.depth) + (12)

abbrev pub decreases-arrow_led : goal.decreases-arrow_led
decreases-arrow_led g l = 128 * (400 - l.depth) + (9)

abbrev pub decreases-arrow_params : goal.decreases-arrow_params
decreases-arrow_params g l = 128 * (400 - l.depth) + (10)

abbrev pub decreases-arrow_turn : goal.decreases-arrow_turn
decreases-arrow_turn g l = 128 * (400 - l.depth) + (8)

abbrev pub decreases-assign : goal.decreases-assign
decreases-assign g l = 128 * (400 - l.depth) + (0)

abbrev pub decreases-assign_in : goal.decreases-assign_in
decreases-assign_in g l = 128 * (400 - l.depth) + (83)

abbrev pub decreases-cond : goal.decreases-cond
decreases-cond g l = 128 * (400 - l.depth) + (81)

abbrev pub decreases-cond_tail : goal.decreases-cond_tail
decreases-cond_tail g l = 128 * (400 - l.depth) + (2)

abbrev pub decreases-expr : goal.decreases-expr
decreases-expr g l = 128 * (400 - l.depth) + (3)

abbrev pub decreases-func : goal.decreases-func
decreases-func g l = 128 * (400 - l.depth) + (12)

abbrev pub decreases-function : goal.decreases-function
decreases-function g l = 128 * (400 - l.depth) + (11)

abbrev pub decreases-getter : goal.decreases-getter
decreases-getter g l = 128 * (400 - l.depth) + (15)

abbrev pub decreases-initializer : goal.decreases-initializer
decreases-initializer g l = 128 * (400 - l.depth) + (1)

abbrev pub decreases-item_turn : goal.decreases-item_turn
decreases-item_turn g l = 128 * (400 - l.depth) + (1)

abbrev pub decreases-items : goal.decreases-items
decreases-items g l = 128 * (400 - l.depth) + (3)

abbrev pub decreases-key : goal.decreases-key
decreases-key g l = 128 * (400 - l.depth) + (2)

abbrev pub decreases-keyed : goal.decreases-keyed
decreases-keyed g l = 128 * (400 - l.depth) + (13)

abbrev pub decreases-lead : goal.decreases-lead
decreases-lead g l = 128 * (400 - l.depth) + (6)

abbrev pub decreases-lead_items : goal.decreases-lead_items
decreases-lead_items g l = 128 * (400 - l.depth) + (7)

abbrev pub decreases-lead_turn : goal.decreases-lead_turn
decreases-lead_turn g l = 128 * (400 - l.depth) + (5)

abbrev pub decreases-left : goal.decreases-left
decreases-left g l = 128 * (400 - l.depth) + (26)

abbrev pub decreases-listed_params : goal.decreases-listed_params
decreases-listed_params g l = 128 * (400 - l.depth) + (8)

abbrev pub decreases-member : goal.decreases-member
decreases-member g l = 128 * (400 - l.depth) + (5)

abbrev pub decreases-members : goal.decreases-members
decreases-members g l = 128 * (400 - l.depth) + (6)

abbrev pub decreases-more : goal.decreases-more
decreases-more g l = 128 * (400 - l.depth) + (2)

abbrev pub decreases-more_params : goal.decreases-more_params
decreases-more_params g l = 128 * (400 - l.depth) + (7)

abbrev pub decreases-more_props : goal.decreases-more_props
decreases-more_props g l = 128 * (400 - l.depth) + (21)

abbrev pub decreases-more_turn : goal.decreases-more_turn
decreases-more_turn g l = 128 * (400 - l.depth) + (1)

abbrev pub decreases-new : goal.decreases-new
decreases-new g l = 128 * (400 - l.depth) + (0)

abbrev pub decreases-new_args : goal.decreases-new_args
decreases-new_args g l = 128 * (400 - l.depth) + (6)

abbrev pub decreases-new_in : goal.decreases-new_in
decreases-new_in g l = 128 * (400 - l.depth) + (26)

abbrev pub decreases-new_or_prim : goal.decreases-new_or_prim
decreases-new_or_prim g l = 128 * (400 - l.depth) + (25)

abbrev pub decreases-object : goal.decreases-object
decreases-object g l = 128 * (400 - l.depth) + (22)

abbrev pub decreases-one_param : goal.decreases-one_param
decreases-one_param g l = 128 * (400 - l.depth) + (3)

abbrev pub decreases-param : goal.decreases-param
decreases-param g l = 128 * (400 - l.depth) + (2)

abbrev pub decreases-param_call : goal.decreases-param_call
decreases-param_call g l = 128 * (400 - l.depth) + (0)

abbrev pub decreases-param_turn : goal.decreases-param_turn
decreases-param_turn g l = 128 * (400 - l.depth) + (3)

abbrev pub decreases-params_head : goal.decreases-params_head
decreases-params_head g l = 128 * (400 - l.depth) + (10)

abbrev pub decreases-params_led : goal.decreases-params_led
decreases-params_led g l = 128 * (400 - l.depth) + (6)

abbrev pub decreases-params_turn : goal.decreases-params_turn
decreases-params_turn g l = 128 * (400 - l.depth) + (5)

abbrev pub decreases-paren : goal.decreases-paren
decreases-paren g l = 128 * (400 - l.depth) + (9)

abbrev pub decreases-paren_items : goal.decreases-paren_items
decreases-paren_items g l = 128 * (400 - l.depth) + (8)

abbrev pub decreases-part_turn : goal.decreases-part_turn
decreases-part_turn g l = 128 * (400 - l.depth) + (4)

abbrev pub decreases-power : goal.decreases-power
decreases-power g l = 128 * (400 - l.depth) + (32)

abbrev pub decreases-power_turn : goal.decreases-power_turn
decreases-power_turn g l = 128 * (400 - l.depth) + (29)

abbrev pub decreases-powers : goal.decreases-powers
decreases-powers g l = 128 * (400 - l.depth) + (30)

abbrev pub decreases-prefix : goal.decreases-prefix
decreases-prefix g l = 128 * (400 - l.depth) + (0)

abbrev pub decreases-prefix_in : goal.decreases-prefix_in
decreases-prefix_in g l = 128 * (400 - l.depth) + (30)

abbrev pub decreases-prim : goal.decreases-prim
decreases-prim g l = 128 * (400 - l.depth) + (24)

abbrev pub decreases-prop : goal.decreases-prop
decreases-prop g l = 128 * (400 - l.depth) + (17)

abbrev pub decreases-props_led : goal.decreases-props_led
decreases-props_led g l = 128 * (400 - l.depth) + (20)

abbrev pub decreases-props_turn : goal.decreases-props_turn
decreases-props_turn g l = 128 * (400 - l.depth) + (19)

abbrev pub decreases-setter : goal.decreases-setter
decreases-setter g l = 128 * (400 - l.depth) + (15)

abbrev pub decreases-short : goal.decreases-short
decreases-short g l = 128 * (400 - l.depth) + (14)

abbrev pub decreases-tail : goal.decreases-tail
decreases-tail g l = 128 * (400 - l.depth) + (7)

abbrev pub decreases-tails : goal.decreases-tails
decreases-tails g l = 128 * (400 - l.depth) + (8)

abbrev pub decreases-template : goal.decreases-template
decreases-template g l = 128 * (400 - l.depth) + (6)

abbrev pub decreases-template_parts : goal.decreases-template_parts
decreases-template_parts g l = 128 * (400 - l.depth) + (5)

abbrev pub decreases-unary : goal.decreases-unary
decreases-unary g l = 128 * (400 - l.depth) + (28)
