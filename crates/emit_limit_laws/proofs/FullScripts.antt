-- Where no token of a script that is a name is empty, no name is that the script or a function in it binds, nor the name of a
-- function.
use Rattle.std.proofs.Common.{◌<◌, ℕ, zero, suc, List, [], ◌∷◌, length, slice_index_or, subst, arith}
use Rattle.std.specs.List.{Contains}
use Rattle.script_grammar.specs.Lexeme.{Lexeme}
use Rattle.script_grammar.specs.Pieces.{whole}
use Rattle.script_grammar.specs.Print.{print_stmts}
use Rattle.script_grammar.specs.Script.{IsScript}
use Rattle.script_grammar.specs.Tree.{Stmts}
use Rattle.grammar_start_laws.specs.Own.{AllOf}
use Rattle.scope_analysis.specs.Functions.{Inner, inner_function, inner_script}
use Rattle.script_grammar.specs.NameTokens.{NamesAreFull}
use Rattle.scope_closed_laws.specs.Sites.{IsFunctionOf, directly, inside}
use Rattle.scope_closed_laws.proofs.Places.{Hold, fits_hold}
use Rattle.emit_limit_laws.specs.FullNames.{FullNames}
use Rattle.emit_limit_laws.proofs.FullFunctions.{function_scopes_full, script_scopes_full}
use Rattle.emit_limit_laws.proofs.FullInner.{FullInner, in_function, in_script}
use Rattle.emit_limit_laws.proofs.FullPlaces.{Full, names_full}

nth : {X : Type 0} (P : X → Type 0) (xs : List X) (k : ℕ) (d : X) → AllOf P xs → k < length xs → P (slice_index_or xs k d)
nth P [] k d h lt = absurd (omega arith)
nth P (x ∷ xs) zero d h lt = h.0
nth P (x ∷ xs) (suc k) d h lt = nth P xs k d h.1 (omega arith)

contained : {X : Type 0} (P : X → Type 0) (xs : List X) (x : X) → AllOf P xs → Contains xs x → P x
contained P xs x h c = subst P c.2 (nth P xs c.0 x h c.1)

full_inner : (tokens : List Lexeme) (last : Lexeme) (items : Stmts) → IsScript tokens last items → Hold Full (print_stmts whole 0 items) → (f : Inner) → IsFunctionOf items f → FullInner f
full_inner tokens last items s h f (directly f' c) = contained FullInner (inner_script items) f' ((in_script items s.proper).holds h).all c
full_inner tokens last items s h f (inside around f' o c) =
    let a = full_inner tokens last items s h around o in
    contained FullInner (inner_function around.kind around.name around.func) f' ((in_function a.depth around.kind around.name around.func a.proper).holds a.places).all c

pub full_names : (tokens : List Lexeme) (last : Lexeme) (items : Stmts) → IsScript tokens last items → NamesAreFull tokens → FullNames items
full_names tokens last items s n =
    let places = fits_hold Full (print_stmts whole 0 items) tokens last s.fits (names_full tokens n) in
    record {
      top = script_scopes_full items places;
      inside = λ f is. let i = full_inner tokens last items s places f is in record { scopes = function_scopes_full f.kind f.name i.depth f.func i.name i.places; name = i.name };
    }
