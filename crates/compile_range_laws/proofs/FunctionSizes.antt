-- The sizes of a script's own part and of its functions, each where it stands.
use Rattle.std.proofs.Common.{ℕ, ◌+◌, ◌^◌, ◌<◌, ◌≤◌, List, [], ◌∷◌, length, count_by, nat_lt, Option, Some, None, sym, ◌∙◌, ap, subst, arith}
use Rattle.std.proofs.lemmas.List.{length-append, length-map}
use Rattle.script_grammar.specs.Lexeme.{Lexeme}
use Rattle.script_grammar.specs.Pieces.{whole, Piece, At, Gap, Pass, Fits}
use Rattle.script_grammar.specs.Print.{print_stmts, print_function}
use Rattle.script_grammar.specs.Proper.{ProperFunction}
use Rattle.script_grammar.specs.Tree.{Function, function, Stmts}
use Rattle.stencil_data.specs.declared.functions.FuncKind.{FuncKind}
use Rattle.stencil_data.specs.declared.functions.FuncKind.TheVariants as func
use Rattle.stencil_data.specs.declared.scopes.BindKind.TheVariants as bind
use Rattle.stencil_data.specs.declared.scopes.ScopeKind.TheVariants as scope
use Rattle.stencil_data.specs.LinkView.{LinkView}
use Rattle.stencil_data.specs.Named.{NamedScope, NamedFunction}
use Rattle.scope_analysis.specs.Closed.{closed_over}
use Rattle.scope_analysis.specs.DeclaredNames.{Text, texts_of, declarations, top_lexical_names, top_var_names, has_initializer}
use Rattle.scope_analysis.specs.Functions.{Inner, inner_function, inner_script}
use Rattle.scope_analysis.specs.Scopes.{scope_and, block_inner, scopes_stmts, callee_names, function_names, function_uses, scopes_body, outermost, function_scopes, global_names, script_scopes}
use Rattle.scope_analysis.specs.Uses.{uses_without}
use Rattle.bytecode_buf.specs.Command.{Command}
use Rattle.bytecode_buf.specs.InRange.{Small}
use Rattle.emit_functions.specs.FunctionCode.{FunctionFits}
use Rattle.emit_stmts.specs.Functions.{start_of, extent_of, starts_of, extents_of, count_of, params_of, function_script, top_script}
use Rattle.emit_limit_laws.specs.Limits.{ScriptStands, FunctionStands}
use Rattle.emit_limit_laws.specs.Names.{names_stmts, body_names}
use Rattle.emit_limit_laws.specs.Places.{depths_of}
use Rattle.emit_limit_laws.proofs.FunctionNames.{top_vars_few, names_few}
use Rattle.emit_limit_laws.proofs.Functions.{function_within}
use Rattle.emit_limit_laws.proofs.NameTokens.{top_named, declared_length}
use Rattle.emit_limit_laws.proofs.Scripts.{script_within}
use Rattle.stencil_xdr_laws.specs.Sizes.{ScopesSmall, AllMake, AllLand, code_size}
use Rattle.compile_range_laws.proofs.CodeParts.{finished}
use Rattle.compile_range_laws.proofs.FunctionCodes.{function_small, script_small}
use Rattle.compile_range_laws.proofs.Numbers.{among_map, count_below}
use Rattle.compile_range_laws.proofs.Places.{place_of, Placed}
use Rattle.compile_range_laws.proofs.ScopeSizes.{stand_and, stand_around, stmts_stand, body_stands, scopes_small, closed_small}
use Rattle.compile_range_laws.proofs.Sites.{each_of}
use Rattle.compile_range_laws.proofs.TryTokens.{stmts_tries, function_tries}

-- ---- what is shown of a part: its functions are named by their places

pub record PartStands (part : NamedFunction (List Command)) : Type 0 where
  pub params : Small part.params
  pub few_scopes : Small (length part.scopes)
  pub scopes : ScopesSmall 0 part.scopes
  pub closed : Small (length (closed_over part.scopes))
  pub few_notes : Small (length part.notes)
  pub few_inner : Small (length part.inner)
  pub made : AllMake (λ (n : ℕ). n < length part.inner) part.code
  pub jumps : AllLand (code_size part.code) 0 part.code

-- ---- places

placed : (is : List Inner) → Placed (λ (n : ℕ). n < length (extents_of is)) (starts_of is) is
placed is = record { all = each_of (λ (i : Inner). place_of (starts_of is) i.func < length (extents_of is)) is (λ i a. below i (count_below (start_of i.func) (starts_of is) (among_map (λ (x : Inner). start_of x.func) i is a))) }
  where
    below : (i : Inner) → count_by (λ (s : ℕ). nat_lt s (start_of i.func)) (starts_of is) < length (starts_of is) → place_of (starts_of is) i.func < length (extents_of is)
    below i h = subst (λ (n : ℕ). place_of (starts_of is) i.func < n) (length-map is (λ (x : Inner). start_of x.func) ∙ sym (length-map is (λ (x : Inner). extent_of x.func))) h

-- ---- scopes

pub record FewScopes (ss : List NamedScope) : Type 0 where
  pub scopes : ScopesSmall 0 ss
  pub closed : Small (length (closed_over ss))

callee_few : (kind : FuncKind) (name : Option Text) → length (callee_names kind name) ≤ 1
callee_few func.Expression (Some name) = omega arith
callee_few func.Expression None = omega arith
callee_few func.Declared name = omega arith
callee_few func.Arrow name = omega arith
callee_few func.Method name = omega arith
callee_few func.Getter name = omega arith
callee_few func.Setter name = omega arith

function_few : (kind : FuncKind) (name : Option Text) (d : ℕ) (f : Function) → ProperFunction whole f → length (depths_of (print_function whole d f)) < 2 ^ 24 → FewScopes (function_scopes kind name f)
function_few kind name d (function form start end who ps comma bare body) p few =
    let names = names_few d form start end who ps comma bare body p in
    let callee = callee_few kind name in
    let all : length (callee_names kind name) + (length (function_names form ps body) + body_names (has_initializer ps) body) < 2 ^ 31 = omega (arith, names, callee, few) in
    let stand = stand_around scope.StrictNamedLambda (callee_names kind name) (uses_without (texts_of (function_names form ps body)) (function_uses ps body)).inner
    (scope_and scope.Function (function_names form ps body) (function_uses ps body).inner (scopes_body (has_initializer ps) body)) outermost tt
    (λ v h. stand_and scope.Function (function_names form ps body) (function_uses ps body).inner (scopes_body (has_initializer ps) body) v h (body_stands (has_initializer ps) body)) in
    record { scopes = scopes_small stand all; closed = closed_small stand all }

script_few : (items : Stmts) → length (depths_of (print_stmts whole 0 items)) < 2 ^ 24 → FewScopes (script_scopes items)
script_few items few =
    let named = (top_named 0 items).tokens in
    let e = length-append (declarations bind.Var (top_var_names items)) (top_lexical_names items) in
    let f = declared_length bind.Var (top_var_names items) in
    let k = top_vars_few items in
    let all : length (global_names items) + names_stmts items < 2 ^ 31 = omega (arith, named, e, f, k, few) in
    let stand = stand_and scope.Global (global_names items) (block_inner items) (scopes_stmts items) outermost tt (stmts_stand items) in
    record { scopes = scopes_small stand all; closed = closed_small stand all }

-- ---- functions

params_few : (f : Function) → FunctionFits f → Small (count_of (params_of f))
params_few (function form start end who ps comma bare body) h = h.0

pub function_stands : (kind : FuncKind) (name : Option Text) (f : Function) (chain : List LinkView) → FunctionStands f chain → PartStands (function_script kind name f chain).part
function_stands kind name f chain s =
    let within = function_within kind name f chain s in
    let few = function_few kind name s.depth f s.proper s.few in
    let code = finished (function_small (λ (n : ℕ). n < length (extents_of (inner_function kind name f))) kind name f chain (placed (inner_function kind name f))) in
    let notes = code.few in
    let tries = (function_tries s.depth f).tokens in
    let tokens = s.few in record {
      params = params_few f within.fit;
      few_scopes = within.few_scopes;
      scopes = few.scopes;
      closed = few.closed;
      few_notes = omega (arith, notes, tries, tokens);
      few_inner = within.few_inner;
      made = code.made;
      jumps = code.jumps;
    }

-- ---- scripts

few_places : (ps : List Piece) (ts : List Lexeme) (n : Lexeme) → Fits ps ts n → length (depths_of ps) ≤ length ts
few_places [] ts n f = omega arith
few_places (At s ∷ ps) [] n f = absurd f
few_places (At s ∷ ps) (t ∷ ts) n f = let h = few_places ps ts n f.1 in omega (arith, h)
few_places (Gap e ∷ ps) [] n f = few_places ps [] n f.1
few_places (Gap e ∷ ps) (t ∷ ts) n f = few_places ps (t ∷ ts) n f.1
few_places (Pass ∷ ps) ts n f =
    let h = few_places ps f.1 n f.4 in
    let e = ap (λ (us : List Lexeme). length us) f.2 in
    let g = length-append f.0 f.1 in
    omega (arith, h, e, g)

pub script_stands : (tokens : List Lexeme) (last : Lexeme) (items : Stmts) (end : ℕ) → ScriptStands tokens last items → PartStands (top_script items end).part
script_stands tokens last items end s =
    let within = script_within tokens last items s in
    let places = few_places (print_stmts whole 0 items) tokens last s.script.fits in
    let all = s.few in
    let below : length (depths_of (print_stmts whole 0 items)) < 2 ^ 24 = omega (arith, places, all) in
    let few = script_few items below in
    let code = finished (script_small (λ (n : ℕ). n < length (extents_of (inner_script items))) items (placed (inner_script items))) in
    let notes = code.few in
    let tries = (stmts_tries 0 items).tokens in record {
      params = omega arith;
      few_scopes = within.few_scopes;
      scopes = few.scopes;
      closed = few.closed;
      few_notes = omega (arith, notes, tries, below);
      few_inner = within.few_inner;
      made = code.made;
      jumps = code.jumps;
    }
