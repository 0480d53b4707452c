-- The first early error in parts over nodes.
use Rattle.std.specs.Prelude.{ℕ, ◌-◌, Bool, true, false, cond, not, ◌||◌, Option, Some, None, option_map, List, [], ◌∷◌, map, length, slice_get}
use Rattle.script_grammar.specs.declared.node.NodeArgs.{NodeArgs}
use Rattle.script_grammar.specs.declared.node.NodeTail.{NodeTail}
use Rattle.script_grammar.specs.declared.node.NodeTail.TheVariants as tails
use Rattle.script_grammar.specs.declared.node.NodeKey.{NodeKey}
use Rattle.script_grammar.specs.declared.node.NodeKey.TheVariants as keys
use Rattle.script_grammar.specs.declared.node.NodeFuncBody.{NodeFuncBody}
use Rattle.script_grammar.specs.declared.node.NodeFuncBody.TheVariants as bodies
use Rattle.script_grammar.specs.declared.node.NodeParam.{NodeParam}
use Rattle.script_grammar.specs.declared.node.NodeFunc.{NodeFunc}
use Rattle.script_grammar.specs.declared.node.NodeBind.{NodeBind}
use Rattle.script_grammar.specs.declared.node.NodeInit.{NodeInit}
use Rattle.script_grammar.specs.declared.node.NodeInit.TheVariants as inits
use Rattle.script_grammar.specs.declared.node.NodeEach.{NodeEach}
use Rattle.script_grammar.specs.declared.node.NodeEach.TheVariants as eaches
use Rattle.script_grammar.specs.declared.node.NodeClause.{NodeClause}
use Rattle.script_grammar.specs.declared.token.Decl.{Decl}
use Rattle.script_grammar.specs.declared.token.Decl.TheVariants as decl
use Rattle.parse_track.specs.declared.region.Early.{Early}
use Rattle.parse_track.specs.EarlyErrors.{error_of, smaller, sooner}
use Rattle.parse_track.specs.Notes.{error_if, first_note, is_proto, limit, proto_error}
use Rattle.parse_early_handler.specs.declared.nodes.ExprErrors.{ExprErrors}
use Rattle.parse_early_handler.specs.declared.nodes.PropErrors.{PropErrors}
use Rattle.parse_early_handler.specs.declared.nodes.StmtErrors.{StmtErrors}
use Rattle.parse_early_handler.specs.declared.nodes.BodyErrors.{BodyErrors}
use Rattle.parse_early_handler.specs.Shapes.{is_target_shape}
use Rattle.parse_early_handler.specs.Directives.{ends, strict_at}

-- of several parts
abbrev pub first_of : List (Option Early) → Option Early
first_of [] = None
first_of (x ∷ xs) = sooner x (first_of xs)

abbrev pub maybe_first : {A : Type 0} → (A → Option Early) → Option A → Option Early
maybe_first first None = None
maybe_first first (Some a) = first a

abbrev pub expr_first : ExprErrors → Option Early
expr_first e = e.first

abbrev pub stmt_first : StmtErrors → Option Early
stmt_first s = s.first

-- Rule 13: an argument or a parameter that is one too many.
abbrev pub many_at : Option ℕ → Option Early
many_at at = error_of 13 at

abbrev pub many_args : List ExprErrors → Option Early
many_args items = many_at (option_map (λ e. e.start) (slice_get items limit))

abbrev pub many_params : {E : Type 0} → List (NodeParam E) → Option Early
many_params params = many_at (option_map (λ p. p.name.at) (slice_get params limit))

abbrev pub args_first : NodeArgs ExprErrors → Option Early
args_first n = sooner (many_args n.items.items) (first_of (map expr_first n.items.items))

abbrev pub tail_first : NodeTail ExprErrors → Option Early
tail_first (tails.Dot atom) = None
tail_first (tails.Index e) = e.first
tail_first (tails.Call n) = args_first n

abbrev pub key_first : NodeKey ExprErrors → Option Early
key_first (keys.Word name) = None
key_first (keys.Str name) = None
key_first (keys.Number at value) = None
key_first (keys.Computed e) = e.first

abbrev pub param_first : NodeParam ExprErrors → Option Early
param_first n = maybe_first expr_first n.value

-- whether a parameter has an initializer or is a rest parameter
abbrev pub is_some_or : {A : Type 0} → Option A → Bool → Bool
is_some_or None more = more
is_some_or (Some _) more = true

abbrev pub is_more : {E : Type 0} → NodeParam E → Bool
is_more n = is_some_or n.value n.rest

abbrev pub are_more : {E : Type 0} → List (NodeParam E) → Bool
are_more [] = false
are_more (n ∷ ns) = is_more n || are_more ns

-- Rule 14: `use strict` in a body of a function whose parameters are more than names, and then what is in the body. A deferred
-- body has a node of its own.
abbrev pub strict_error : (more : Bool) → Option ℕ → Option Early
strict_error true at = error_of 14 at
strict_error false at = None

abbrev pub body_first : (more : Bool) → NodeFuncBody ExprErrors BodyErrors → Option Early
body_first more (bodies.Braced b) = sooner (strict_error more b.strict) b.first
body_first more (bodies.Short e) = e.first
body_first more (bodies.Passed) = None

abbrev pub function_first : NodeFunc ExprErrors BodyErrors → Option Early
function_first n =
    sooner (many_params n.params.items) (sooner (first_of (map param_first n.params.items)) (body_first (are_more n.params.items) n.body))

-- Rule 7: a name that `const` declares without an initializer.
abbrev pub bare_error : {E : Type 0} → NodeBind E → Option Early
bare_error n = first_note (error_if (not (is_some_or n.value false)) 7 n.name.at)

abbrev pub const_first : {E : Type 0} → Decl → List (NodeBind E) → Option Early
const_first decl.Var ns = None
const_first decl.Let ns = None
const_first decl.Const ns = first_of (map bare_error ns)

abbrev pub bind_first : NodeBind ExprErrors → Option Early
bind_first n = maybe_first expr_first n.value

abbrev pub binds_first : Decl → List (NodeBind ExprErrors) → Option Early
binds_first d ns = sooner (const_first d ns) (first_of (map bind_first ns))

abbrev pub init_first : NodeInit ExprErrors → Option Early
init_first (inits.Nothing) = None
init_first (inits.Value e) = e.first
init_first (inits.Binds d ns) = binds_first d ns.items

-- Rule 8: an expression that is assigned to and may not be.
abbrev pub target_first : ExprErrors → Option Early
target_first e = sooner (first_note (error_if (not (is_target_shape e.shape)) 8 e.start)) e.first

abbrev pub each_first : NodeEach ExprErrors → Option Early
each_first (eaches.Target e) = target_first e
each_first (eaches.Bind d name) = None

abbrev pub clause_first : NodeClause ExprErrors StmtErrors → Option Early
clause_first n = sooner (maybe_first expr_first n.test) (first_of (map stmt_first n.items.items))

-- Rule 12: a property that sets the prototype, after one that does.
abbrev pub protos_first : (seen : Bool) → List PropErrors → Option Early
protos_first seen [] = None
protos_first seen (p ∷ ps) = sooner (first_note (proto_error seen p.proto)) (protos_first (seen || is_proto p.proto) ps)

-- whether the last part of a chain is a property
abbrev pub is_property : {E : Type 0} → NodeTail E → Bool
is_property (tails.Dot atom) = true
is_property (tails.Index e) = true
is_property (tails.Call n) = false

abbrev pub maybe_property : {E : Type 0} → Option (NodeTail E) → Bool
maybe_property None = false
maybe_property (Some n) = is_property n

abbrev pub end_in_property : {E : Type 0} → List (NodeTail E) → Bool
end_in_property ns = maybe_property (slice_get ns (length ns - 1))

-- the offset of the first of some expressions
abbrev pub start_of_first : List ExprErrors → ℕ
start_of_first [] = 0
start_of_first (e ∷ es) = e.start

-- the smallest offset of the directives `use strict` at the head of a body
abbrev pub strict_first : List StmtErrors → Option ℕ
strict_first [] = None
strict_first (s ∷ ss) = cond (ends s.directive) None (smaller (strict_at s.directive) (strict_first ss))
