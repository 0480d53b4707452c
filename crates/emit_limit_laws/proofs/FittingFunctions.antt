-- The counts of a function fit.
use Rattle.std.proofs.Common.{◌≡◌, ℕ, zero, suc, ◌^◌, ◌≤◌, ◌<◌, Bool, true, false, List, [], length, refl, arith}
use Rattle.script_grammar.specs.declared.token.FuncForm.{FuncForm}
use Rattle.script_grammar.specs.Pieces.{whole}
use Rattle.script_grammar.specs.Print.{print_function, print_params, print_more_params, print_body, parenthesized, arrow_pieces, param_depth, ellipsis}
use Rattle.script_grammar.specs.Tree.{Function, function, Params, no_params, more_params, Body, BracedBody, ShortBody}
use Rattle.parse_track.specs.declared.region.Early.{Early}
use Rattle.parse_track.specs.Notes.{limit, params_error, notes_function, notes_params, notes_body}
use Rattle.scope_analysis.specs.DeclaredNames.{top_lexical_names, param_names}
use Rattle.emit_stmts.specs.Functions.{count_of}
use Rattle.emit_stmts.specs.StmtFits.{room_in}
use Rattle.emit_functions.specs.BodyCode.{BodyFits}
use Rattle.emit_functions.specs.FunctionCode.{FunctionFits}
use Rattle.emit_functions.specs.ParamCode.{ParamsFit}
use Rattle.emit_limit_laws.specs.Asked.{Asked}
use Rattle.emit_limit_laws.proofs.Asking.{given, both, before, past, after, noted, fits_until, said, noting, three}
use Rattle.emit_limit_laws.proofs.FittingExprs.{fits, fits_initializer}
use Rattle.emit_limit_laws.proofs.FittingStmts.{has_room, room_left, fits_stmts}
use Rattle.emit_limit_laws.proofs.Measures.{cons_none}

-- ---- parameters

params_up_to : (left : ℕ) (ps : Params) → params_error left ps ≡ [] → length (param_names ps) ≤ left
params_up_to left no_params n = omega arith
params_up_to zero (more_params name value rest ps) n = absurd (cons_none _ _ n)
params_up_to (suc left) (more_params name value rest ps) n = let h = params_up_to left ps n in omega (arith, h)

-- too many are an early error
pub few_params : (ps : Params) → params_error limit ps ≡ [] → length (param_names ps) < 2 ^ 16
few_params ps n = let h = params_up_to limit ps n in omega (arith, h)

counted_params : (ps : Params) → count_of (param_names ps) ≡ length (param_names ps)
counted_params no_params = refl
counted_params (more_params name value rest ps) = let h = counted_params ps in omega (arith, h)

mutual
  fits_params : (q d : ℕ) (x : Params) → Asked (ParamsFit x) (print_params whole q d x) (notes_params x)
  fits_params q d no_params = given tt
  fits_params q d (more_params name value rest ps) = before (ellipsis rest q) (past (both (fits_initializer q value) (fits_more_params q d ps)))

  fits_more_params : (q d : ℕ) (x : Params) → Asked (ParamsFit x) (print_more_params whole q d x) (notes_params x)
  fits_more_params q d no_params = given tt
  fits_more_params q d (more_params name value rest ps) = past (before (ellipsis rest q) (past (both (fits_initializer q value) (fits_more_params q d ps))))

fits_listed : {P : Type 0} {ns : List Early} (bare : Bool) (form : FuncForm) (start d : ℕ) (ps : Params) (comma : Bool) → Asked P (print_params whole (param_depth form bare d) d ps) ns
    → Asked P (parenthesized bare start d (print_params whole (param_depth form bare d) d ps) comma) ns
fits_listed true form start d ps comma a = a
fits_listed false form start d ps comma a = past (after _ a)

-- ---- bodies

fits_body : (d end : ℕ) (x : Body) → Asked (BodyFits x) (print_body whole d end x) (notes_body x)
fits_body d end (ShortBody value) = fits_until end (fits (suc d) value)
fits_body d end (BracedBody items) =
    let left = room_left (top_lexical_names items) 4997 in
    said (λ h. (has_room (top_lexical_names items) 4997 (omega arith), h))
    (past (after _ (fits_stmts d (room_in (top_lexical_names items) 4997) 0 items (omega (arith, left)) (omega arith))))

-- ---- functions

pub fits_function : (d : ℕ) (f : Function) → Asked (FunctionFits f) (print_function whole d f) (notes_function f)
fits_function d (function form start end who ps comma bare body) =
    said three (noting (λ n. few_counted n) (both (fits_listed bare form start d ps comma (fits_params (param_depth form bare d) d ps)) (before (arrow_pieces form d) (noted _ (fits_body d end body)))))
  where
    few_counted : params_error limit ps ≡ [] → count_of (param_names ps) < 2 ^ 32
    few_counted n =
        let h = few_params ps n in
        let e = counted_params ps in
        omega (arith, h, e)
