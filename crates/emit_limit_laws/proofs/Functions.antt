-- A function that stands well under a chain has all bounds that its scopes and its code ask for, and each function directly
-- in it stands well under the chain that it gets.
use Rattle.std.proofs.Common.{◌≡◌, ℕ, suc, ◌*◌, ◌^◌, ◌≤◌, ◌<◌, List, [], length, Option, arith}
use Rattle.script_grammar.specs.Fault.{depth_limit}
use Rattle.script_grammar.specs.Pieces.{whole}
use Rattle.script_grammar.specs.Print.{print_function}
use Rattle.script_grammar.specs.Proper.{ProperFunction}
use Rattle.script_grammar.specs.Tree.{Function, function}
use Rattle.stencil_data.specs.declared.functions.FuncKind.{FuncKind}
use Rattle.stencil_data.specs.LinkView.{LinkView}
use Rattle.parse_track.specs.Notes.{limit, params_error, notes_function}
use Rattle.grammar_start_laws.specs.Started.{started_function}
use Rattle.grammar_start_laws.specs.Own.{StartsRise}
use Rattle.scope_analysis.specs.DeclaredNames.{Text}
use Rattle.scope_analysis.specs.Functions.{inner_function}
use Rattle.scope_analysis.specs.Scopes.{function_scopes}
use Rattle.scope_analysis.specs.Walked.{ScopesFit}
use Rattle.emit_functions.specs.FunctionCode.{scopes_in}
use Rattle.emit_limit_laws.specs.Inside.{started_inside}
use Rattle.emit_limit_laws.specs.Limits.{FunctionStands, FunctionWithin}
use Rattle.emit_limit_laws.specs.Places.{depths_of}
use Rattle.emit_limit_laws.proofs.FittingFunctions.{few_params, fits_function}
use Rattle.emit_limit_laws.proofs.FunctionNames.{names_few, function_slots_fit, scopes_in_few, function_scopes_few}
use Rattle.emit_limit_laws.proofs.InnerFunctions.{in_function}
use Rattle.emit_limit_laws.proofs.InnerStand.{not_deeper, lower, inner_rise, inner_few, inner_stand}
use Rattle.emit_limit_laws.proofs.Measures.{front_none}

-- ---- the parts of a function, taken from it

inside_rise : (low : ℕ) (f : Function) → StartsRise low (started_function f) → StartsRise 0 (started_inside f)
inside_rise low (function form start end who ps comma bare body) h = lower 0 (suc start) _ (omega arith) h.1

slots_fit : (kind : FuncKind) (name : Option Text) (d : ℕ) (f : Function) → ProperFunction whole f → length (depths_of (print_function whole d f)) < 2 ^ 24 → notes_function f ≡ [] → ScopesFit (function_scopes kind name f)
slots_fit kind name d (function form start end who ps comma bare body) p few n =
    let names = names_few d form start end who ps comma bare body p in
    function_slots_fit kind name form start end who ps comma bare body (few_params ps (front_none (params_error limit ps) _ n)) (omega (arith, names, few))

few_in : (kind : FuncKind) (name : Option Text) (d : ℕ) (f : Function) → ProperFunction whole f → length (depths_of (print_function whole d f)) < 2 ^ 24 → scopes_in kind name f < 2 ^ 32
few_in kind name d (function form start end who ps comma bare body) p few =
    let names = names_few d form start end who ps comma bare body p in
    let scopes = scopes_in_few kind name form start end who ps comma bare body in
    omega (arith, names, few, scopes)

scopes_few : (kind : FuncKind) (name : Option Text) (f : Function) → length (function_scopes kind name f) ≤ scopes_in kind name f
scopes_few kind name (function form start end who ps comma bare body) = function_scopes_few kind name form start end who ps comma bare body

-- ---- the whole

pub function_within : (kind : FuncKind) (name : Option Text) (f : Function) (chain : List LinkView) → FunctionStands f chain → FunctionWithin kind name f chain
function_within kind name f chain s =
    let few = s.few in
    let links = s.links in
    let level = not_deeper depth_limit s.depth f s.proper s.shallow in
    let found = (in_function s.depth kind name f s.proper).found in
    let rise = inside_rise s.low f s.rise in
    let slots = slots_fit kind name s.depth f s.proper s.few s.clean in
    let numbered = few_in kind name s.depth f s.proper s.few in
    let scopes = scopes_few kind name f in
    let inner = inner_few (4 * s.depth) (inner_function kind name f) (depths_of (print_function whole s.depth f)) (started_inside f) (notes_function f) found in
    record {
      fit = (fits_function s.depth f).holds (record { few = omega (arith, few); shallow = s.shallow }) s.clean;
      numbered = omega (arith, numbered);
      few_scopes = omega (arith, numbered, scopes);
      slots = slots;
      few_inner = omega (arith, inner, few);
      ordered = inner_rise (4 * s.depth) (inner_function kind name f) (depths_of (print_function whole s.depth f)) (started_inside f) (notes_function f) 0 found rise;
      chain_fits = record { links = omega (arith, links, level); slots = s.slots };
      inner = inner_stand (4 * s.depth) (inner_function kind name f) (depths_of (print_function whole s.depth f)) (started_inside f) (notes_function f) 0 (function_scopes kind name f) chain
          found s.few s.shallow rise s.clean slots s.links s.slots;
    }
