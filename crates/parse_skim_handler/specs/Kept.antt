-- What the parts over the handler's nodes mean.
use Rattle.std.specs.Prelude.{◌≡◌, ℕ, Bool, true, false, not, Option, Some, None, option_map, List, map}
use Rattle.script_grammar.specs.declared.node.NodeArgs.{NodeArgs}
use Rattle.script_grammar.specs.declared.node.NodeOperand.{NodeOperand}
use Rattle.script_grammar.specs.declared.node.NodeTemplatePart.{NodeTemplatePart}
use Rattle.script_grammar.specs.declared.node.NodeTail.{NodeTail}
use Rattle.script_grammar.specs.declared.node.NodeTail.TheVariants as tails
use Rattle.script_grammar.specs.declared.node.NodeKey.{NodeKey}
use Rattle.script_grammar.specs.declared.node.NodeKey.TheVariants as keys
use Rattle.script_grammar.specs.declared.node.NodeFuncBody.{NodeFuncBody}
use Rattle.script_grammar.specs.declared.node.NodeFuncBody.TheVariants as bodies
use Rattle.script_grammar.specs.declared.node.NodeParam.{NodeParam}
use Rattle.script_grammar.specs.declared.node.NodeFunc.{NodeFunc}
use Rattle.script_grammar.specs.declared.node.NodeBind.{NodeBind}
use Rattle.script_grammar.specs.declared.node.NodeInit.{NodeInit}
use Rattle.script_grammar.specs.declared.node.NodeInit.TheVariants as inits
use Rattle.script_grammar.specs.declared.node.NodeEach.{NodeEach}
use Rattle.script_grammar.specs.declared.node.NodeEach.TheVariants as eaches
use Rattle.script_grammar.specs.declared.node.NodeClause.{NodeClause}
use Rattle.script_grammar.specs.declared.token.Decl.{Decl}
use Rattle.script_grammar.specs.declared.tree.Ident.{Ident}
use Rattle.script_grammar.specs.Interpretation.{Interpretation, text_of, maybe_named}
use Rattle.stencil_data.specs.declared.functions.Extent.{Extent}
use Rattle.stencil_data.specs.declared.functions.FuncKind.{FuncKind}
use Rattle.parse_track.specs.declared.region.Declare.{Declare}
use Rattle.parse_track.specs.declared.region.Declare.TheVariants as how
use Rattle.parse_track.specs.EarlyErrors.{sooner}
use Rattle.parse_track.specs.Tells.{function_region, function_declares, declared_as}
use Rattle.parse_track.specs.Told as told
use Rattle.parse_handlers.specs.Inner.{Inner, no_inner, more_inner, kind_of, text_of_name}
use Rattle.parse_handlers.specs.FoundOf.{FoundAs, founds_before}
use Rattle.parse_handlers.specs.declared.found.FoundFunction.{FoundFunction}
use Rattle.parse_early_handler.specs.Firsts.{are_more, const_first, many_args, many_params, strict_error, target_first}
use Rattle.parse_track_pieces.specs.Pieces.{Rest, piece_says, says_passed, says_read, says_region}
use Rattle.parse_track_pieces.specs.Parts.{declares_as, have_initializer}
use Rattle.parse_skim_handler.specs.declared.kept.Kept.{Kept}
use Rattle.parse_skim_handler.specs.declared.nodes.SkimBody.{SkimBody}
use Rattle.parse_skim_handler.specs.declared.nodes.SkimExpr.{SkimExpr}
use Rattle.parse_skim_handler.specs.declared.nodes.SkimProp.{SkimProp}
use Rattle.parse_skim_handler.specs.declared.nodes.SkimStmt.{SkimStmt}
use Rattle.parse_skim_handler.specs.declared.nodes.WholeExpr.{WholeExpr}
use Rattle.parse_skim_handler.specs.declared.nodes.WholeProp.{WholeProp}
use Rattle.parse_skim_handler.specs.declared.packed.Whole.{Whole}
use Rattle.parse_skim_handler.specs.Meaning.{Meaning, nothing_meant, then_meant, all_meant, maybe_meant}
use Rattle.parse_skim_handler.specs.Meaning.{error_meant, said_meant, name_meant, region_meant}
use Rattle.parse_skim_handler.specs.Packed.{expr_errors, whole_expr, whole_prop, whole_stmt}
use Rattle.parse_skim_handler.specs.Telling.{told_says, told_puts}

-- what is kept by now
abbrev pub kept_means : Interpretation → Kept → Meaning
kept_means i kept = record { says = told_says i kept.told; puts = told_puts i kept.told; first = kept.first }

-- What is kept means this.
pub record Means (i : Interpretation) (kept : Kept) (m : Meaning) : Type 0 where
  pub says : (rest : Rest) → told_says i kept.told rest ≡ m.says rest
  pub puts : (inner : Inner) → told_puts i kept.told inner ≡ m.puts inner
  pub first : kept.first ≡ m.first

-- What has this meaning was put after what was kept.
pub record Adds (i : Interpretation) (old new : Kept) (m : Meaning) : Type 0 where
  pub says : (rest : Rest) → told_says i new.told rest ≡ told_says i old.told (m.says rest)
  pub puts : (inner : Inner) → told_puts i new.told inner ≡ told_puts i old.told (m.puts inner)
  pub first : new.first ≡ sooner old.first m.first

-- an expression
abbrev pub whole_expr_means : Interpretation → WholeExpr → Meaning
whole_expr_means i w = record { says = told_says i w.told; puts = told_puts i w.told; first = w.errors.first }

abbrev pub expr_means : Interpretation → SkimExpr → Meaning
expr_means i n = whole_expr_means i (whole_expr n)

-- a property
abbrev pub whole_prop_means : Interpretation → WholeProp → Meaning
whole_prop_means i w = record { says = told_says i w.told; puts = told_puts i w.told; first = w.errors.first }

abbrev pub prop_means : Interpretation → SkimProp → Meaning
prop_means i n = whole_prop_means i (whole_prop n)

-- a statement; a function that it declares is declared in this way
abbrev pub whole_as : Interpretation → Declare → Whole → Meaning
whole_as i how w = record { says = λ rest. declares_as i how w.declares (told_says i w.told rest); puts = told_puts i w.told; first = w.errors.first }

abbrev pub stmt_as : Interpretation → Declare → SkimStmt → Meaning
stmt_as i how n = whole_as i how (whole_stmt n)

-- a statement; the test says whether it stands at the top of a script or of a function's body
abbrev pub stmt_means : Interpretation → (top : Bool) → SkimStmt → Meaning
stmt_means i top n = stmt_as i (function_declares top) n

abbrev pub args_mean : Interpretation → NodeArgs SkimExpr → Meaning
args_mean i n = then_meant (error_meant (many_args (map expr_errors n.items.items))) (all_meant (expr_means i) n.items.items)

abbrev pub operand_means : Interpretation → NodeOperand SkimExpr → Meaning
operand_means i n = expr_means i n.value

abbrev pub part_means : Interpretation → NodeTemplatePart SkimExpr → Meaning
part_means i n = expr_means i n.value

abbrev pub tail_means : Interpretation → NodeTail SkimExpr → Meaning
tail_means i (tails.Dot atom) = nothing_meant
tail_means i (tails.Index e) = expr_means i e
tail_means i (tails.Call n) = args_mean i n

abbrev pub key_means : Interpretation → NodeKey SkimExpr → Meaning
key_means i (keys.Word name) = nothing_meant
key_means i (keys.Str name) = nothing_meant
key_means i (keys.Number at value) = nothing_meant
key_means i (keys.Computed e) = expr_means i e

abbrev pub param_means : Interpretation → NodeParam SkimExpr → Meaning
param_means i n = then_meant (name_meant i how.Param n.name) (maybe_meant (expr_means i) n.value)

abbrev pub bind_means : Interpretation → Declare → NodeBind SkimExpr → Meaning
bind_means i how n = then_meant (name_meant i how n.name) (maybe_meant (expr_means i) n.value)

abbrev pub binds_mean : Interpretation → Decl → List (NodeBind SkimExpr) → Meaning
binds_mean i decl ns = then_meant (error_meant (const_first decl ns)) (all_meant (bind_means i (declared_as decl)) ns)

abbrev pub init_means : Interpretation → NodeInit SkimExpr → Meaning
init_means i (inits.Nothing) = nothing_meant
init_means i (inits.Value e) = expr_means i e
init_means i (inits.Binds decl ns) = binds_mean i decl ns.items

-- an expression that is assigned to
abbrev pub target_means : Interpretation → SkimExpr → Meaning
target_means i n = record { says = told_says i (whole_expr n).told; puts = told_puts i (whole_expr n).told; first = target_first (expr_errors n) }

abbrev pub each_means : Interpretation → NodeEach SkimExpr → Meaning
each_means i (eaches.Target e) = target_means i e
each_means i (eaches.Bind decl name) = name_meant i (declared_as decl) name

abbrev pub clause_means : Interpretation → NodeClause SkimExpr SkimStmt → Meaning
clause_means i n = then_meant (maybe_meant (expr_means i) n.test) (all_meant (stmt_means i false) n.items.items)

-- a statement after a label is in a block region, but for a loop or another label
abbrev pub labelled_as : Interpretation → (labels_on : Bool) → SkimStmt → Meaning
labelled_as i true stmt = stmt_means i false stmt
labelled_as i false stmt = region_meant told.Block 0 (stmt_means i false stmt)

abbrev pub block_means : Interpretation → List SkimStmt → Meaning
block_means i items = region_meant told.Block 0 (all_meant (stmt_means i false) items)

-- the block of a catch clause, with its parameter around it
abbrev pub handling_means : Interpretation → Option Ident → List SkimStmt → Meaning
handling_means i None block = block_means i block
handling_means i (Some name) block = region_meant told.Catch 0 (then_meant (name_meant i how.Catch name) (block_means i block))

-- a body that was read where it stands
abbrev pub read_means : Interpretation → (more : Bool) → SkimBody → Meaning
read_means i more b = record {
  says = says_read (piece_says i b.told);
  puts = λ inner. inner;
  first = sooner (strict_error more b.errors.strict) b.errors.first;
}

-- the body of a function whose parameters start at an offset, and are more than names or are not
abbrev pub body_means : Interpretation → (more : Bool) → (start : ℕ) → NodeFuncBody SkimExpr SkimBody → Meaning
body_means i more start (bodies.Braced b) = read_means i more b
body_means i more start (bodies.Short e) = expr_means i e
body_means i more start (bodies.Passed) = said_meant (says_passed i start)

-- a body that is a region of its own, or is not
abbrev pub own_means : Interpretation → (own more : Bool) → (start : ℕ) → NodeFuncBody SkimExpr SkimBody → Meaning
own_means i true more start body = region_meant told.VarBody 0 (body_means i more start body)
own_means i false more start body = body_means i more start body

-- whether a body stands in braces, read or passed over
abbrev pub has_braces : NodeFuncBody SkimExpr SkimBody → Bool
has_braces (bodies.Braced b) = true
has_braces (bodies.Short e) = false
has_braces (bodies.Passed) = true

-- what stands in a function: its parameters and its body
abbrev pub inside_means : Interpretation → (start : ℕ) → List (NodeParam SkimExpr) → NodeFuncBody SkimExpr SkimBody → Meaning
inside_means i start params body =
    then_meant (error_meant (many_params params))
    (then_meant (all_meant (param_means i) params) (own_means i (have_initializer params) (are_more params) start body))

-- the function with what these nodes have, and these functions directly in it
abbrev pub more_function : Interpretation → (declared : Bool) → NodeFunc SkimExpr SkimBody → (inside : Inner) → Inner → Inner
more_function i declared n inside =
    more_inner n.start n.end (kind_of declared n.form) (option_map text_of_name (maybe_named i n.name))
    (has_braces n.body) (not (are_more n.params.items)) inside

-- a function, and what stands in it
abbrev pub function_around : Interpretation → (declared : Bool) → NodeFunc SkimExpr SkimBody → Meaning → Meaning
function_around i declared n m = record {
  says = says_region (function_region n.form) n.start m.says;
  puts = more_function i declared n (m.puts no_inner);
  first = m.first;
}

-- a function that was found, with these functions directly in it
abbrev pub found_as : Interpretation → Extent → FuncKind → (name : Option ℕ) → (braced simple : Bool) → List FoundFunction → FoundAs
found_as i extent kind name braced simple inner = record {
  start = extent.start;
  end = extent.end;
  kind = kind;
  name = option_map (text_of i) name;
  braced = braced;
  simple = simple;
  inner = founds_before i inner no_inner;
}

abbrev pub function_means : Interpretation → (declared : Bool) → NodeFunc SkimExpr SkimBody → Meaning
function_means i declared n = function_around i declared n (inside_means i n.start n.params.items n.body)

-- a function expression, in the region of its name where it has one
abbrev pub named_means : Interpretation → Option Ident → Meaning → Meaning
named_means i None m = m
named_means i (Some name) m = region_meant (told.Lambda (record { name = text_of i name.atom; at = name.at })) 0 m
