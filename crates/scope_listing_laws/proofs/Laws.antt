-- The law: what parse_handlers lists of a part of a script is what scope_analysis lists of it, and the braced bodies of the
-- part are those of these functions.
use Rattle.std.proofs.Common.{◌≡◌, ◌∙◌, ℕ, Bool, true, Option, List, ◌∷◌, ◌++◌, append-nil, sym, ap}
use Rattle.stencil_data.specs.declared.functions.FuncKind.{FuncKind}
use Rattle.script_grammar.specs.Braced as braced
use Rattle.script_grammar.specs.Pieces.{whole}
use Rattle.script_grammar.specs.Proper.{ProperFunction, ProperStmts}
use Rattle.script_grammar.specs.Tree.{Function, function, BracedBody, ShortBody, Stmts}
use Rattle.scope_analysis.specs.DeclaredNames.{Text}
use Rattle.scope_analysis.specs.Functions.{Inner, inner_stmts, inner_params, inner_function, params_around}
use Rattle.parse_handlers.specs.Inner.{no_inner, in_stmts}
use Rattle.scope_listing_laws.specs.Listing.{Mirrors, outside_body, inside_body, bodies_before, own_before}
use Rattle.scope_listing_laws.proofs.Joining.{both, closed}
use Rattle.scope_listing_laws.proofs.Parts.{lists, lists_params, lists_stmts}

-- statements, wherever they stand
pub mirrors_stmts : (items : Stmts) (inside : Bool) (next : ℕ) (around : List ℕ) → ProperStmts whole inside items → Mirrors (in_stmts items no_inner) (inner_stmts items next around)
mirrors_stmts items inside next around p = closed (lists_stmts items inside next around p)

pub bodies_stmts : (items : Stmts) (inside : Bool) (next : ℕ) (around : List ℕ) → ProperStmts whole inside items
    → (rest : List Stmts) → braced.in_stmts true items rest ≡ bodies_before (inner_stmts items next around) rest
bodies_stmts items inside next around p = (lists_stmts items inside next around p).braced

-- The functions directly in one are those outside its body in braces, and then those inside it.
pub inner_function-split : (kind : FuncKind) (name : Option Text) (f : Function) → inner_function kind name f ≡ outside_body kind name f ++ inside_body kind name f
inner_function-split kind name (function form start end written ps comma bare (BracedBody items)) =
    ap (λ (all : List Inner). all ++ inside_body kind name (function form start end written ps comma bare (BracedBody items))) (sym (append-nil (inner_params ps (params_around kind name))))
inner_function-split kind name (function form start end written ps comma bare (ShortBody value)) = sym (append-nil _)

-- So are its braced bodies: its own stands between them.
pub bodies_function : (kind : FuncKind) (name : Option Text) (f : Function) → ProperFunction whole f
    → (rest : List Stmts) → braced.in_function true f rest ≡ bodies_before (outside_body kind name f) (own_before kind name f rest)
bodies_function kind name (function form start end written ps comma bare (BracedBody items)) p rest =
    let outside = inner_params ps (params_around kind name) in
    (lists_params ps (params_around kind name) p.3).braced (items ∷ braced.in_stmts true items rest)
    ∙ ap (λ (all : List Stmts). bodies_before outside (items ∷ all)) (bodies_stmts items true _ _ p.4 rest)
    ∙ ap (λ (fs : List Inner). bodies_before fs (own_before kind name (function form start end written ps comma bare (BracedBody items)) rest)) (sym (append-nil outside))
bodies_function kind name (function form start end written ps comma bare (ShortBody value)) p rest =
    (both (lists_params ps (params_around kind name) p.3) (lists value (params_around kind name) p.4.3)).braced rest
