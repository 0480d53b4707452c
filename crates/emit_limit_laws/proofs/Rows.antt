-- The laws applied to `function f(a){return () => a}`, whose functions start at 10 and 21.
use Rattle.std.proofs.Common.{◌≡◌, List, [], ◌∷◌, false, codes, Some, None, length, slice_index_or, refl}
use Rattle.script_grammar.specs.declared.token.FuncForm.TheVariants as form
use Rattle.script_grammar.specs.Tree.{Func, Name, no_expr, some_expr, Function, function, no_params, more_params, BracedBody, ShortBody, Return, Declared, Stmts, no_stmts, more_stmts}
use Rattle.stencil_data.specs.declared.functions.FuncKind.TheVariants as func
use Rattle.compile_specs.specs.Eager.{Site, sites_in, top_sites, AreFunctions, no_sites, more_sites}
use Rattle.compile_specs.specs.Counted.{HasFunctions}
use Rattle.emit_limit_laws.specs.Offsets.{site_starts}
use Rattle.emit_limit_laws.proofs.SiteCounts.{functions_counted, functions_told}
use Rattle.emit_limit_laws.proofs.TellingFunctions.{told_count}

abbrev arrow : Function
arrow = function form.Arrow 21 28 None no_params false false (ShortBody (Name (record { text = codes "a"; at = 27 })))

abbrev outer : Function
outer = function form.Function 10 29 (Some (record { text = codes "f"; at = 9 })) (more_params (record { text = codes "a"; at = 11 }) no_expr false no_params) false false
    (BracedBody (more_stmts (Return (some_expr (Func 21 arrow)) false) no_stmts))

abbrev items : Stmts
items = more_stmts (Declared outer) no_stmts

pub two_told : HasFunctions items 2
two_told = told_count items

pub two_listed : (all : List Site) → AreFunctions items 29 all → length all ≡ 2
two_listed all a = functions_told items 29 all a

-- the two

abbrev no_site : Site
no_site = record { inner = record { func = outer; kind = func.Declared; name = None; around = [] }; chain = [] }

abbrev first : Site
first = slice_index_or (top_sites items 29) 0 no_site

abbrev second : Site
second = slice_index_or (sites_in first) 0 no_site

two_sites : AreFunctions items 29 (first ∷ second ∷ [])
two_sites = more_sites first [] (second ∷ []) [] (more_sites second [] [] [] no_sites no_sites) no_sites

pub two_counted : HasFunctions items 2
two_counted = functions_counted items 29 (first ∷ second ∷ []) two_sites

pub two_starts : site_starts (first ∷ second ∷ []) ≡ 10 ∷ 21 ∷ []
two_starts = refl
