-- A short script, what a parser tells of it with atoms for names, and what follows: let a; (function g(){ () => g }); let a
use Rattle.std.proofs.Common.{◌≡◌, ℕ, zero, suc, true, false, cond, bytes_eq, Option, None, Some, List, [], ◌∷◌, codes, refl, sym, ap, ◌∙◌}
use Rattle.script_grammar.specs.declared.token.Decl.TheVariants as decl
use Rattle.script_grammar.specs.declared.token.FuncForm.TheVariants as form
use Rattle.script_grammar.specs.Tree as tree
use Rattle.script_grammar.specs.Tree.{Named, no_expr, function, no_params, BracedBody, ShortBody, no_binds, more_binds, Stmt, Stmts, no_stmts, more_stmts}
use Rattle.parse_track.specs.declared.region.Declare.TheVariants as how
use Rattle.parse_track.specs.Told.{Name, Script, Function, Arrow, Lambda, Declared, Used, Told, nothing, leaf, inner, KnownNames}
use Rattle.parse_track.specs.Tells.{Text}
use Rattle.parse_track.specs.Notes.{early_error, closed_names}
use Rattle.track_renaming_laws.specs.Texts.{StandsAt, AreWithoutEquals, TellsOf}
use Rattle.track_renaming_laws.proofs.Scripts.{early_error-by_atoms, closed_names-by_atoms}

abbrev texts : List Text
texts = codes "eval" ∷ codes "arguments" ∷ codes ".this" ∷ codes "a" ∷ codes "g" ∷ []

abbrev known : KnownNames ℕ
known = record { eval = 0; arguments = 1; this = 2 }

-- the script
abbrev named : Text → ℕ → Named
named text at = record { text = text; at = at }

abbrev let_a : ℕ → Stmt
let_a at = tree.Binding decl.Let (more_binds (named (codes "a") at) no_expr no_binds) true

abbrev arrow : tree.Expr
arrow = tree.Func 22 (function form.Arrow 22 29 None no_params false false (ShortBody (tree.Name (named (codes "g") 28))))

abbrev function_g : tree.Expr
function_g = tree.Func 8 (function form.Function 18 31 (Some (named (codes "g") 17)) no_params false false (BracedBody (more_stmts (tree.Value arrow false) no_stmts)))

abbrev script : Stmts
script = more_stmts (let_a 4) (more_stmts (tree.Value (tree.Paren 7 function_g) true) (more_stmts (let_a 38) no_stmts))

-- what is told of it, where a parser gives the region of the name an offset too
abbrev name : ℕ → ℕ → Name ℕ
name atom at = record { name = atom; at = at }

abbrev told : Told ℕ
told =
    inner Script 0
    (leaf (Declared how.Lexical (name 3 4))
    (inner (Lambda (name 4 17)) 8 (inner Function 18 (inner Arrow 22 (leaf (Used 4) nothing) nothing) nothing) (leaf (Declared how.Lexical (name 3 38)) nothing)))
    nothing

-- no two of the texts are equal
abbrev place_of : Option Text → ℕ
place_of None = 5
place_of (Some text) =
    cond (bytes_eq text (codes "eval")) 0 (cond (bytes_eq text (codes "arguments")) 1 (cond (bytes_eq text (codes ".this")) 2 (cond (bytes_eq text (codes "a")) 3 4)))

placed : (text : Text) (i : ℕ) → StandsAt texts i text → place_of (Some text) ≡ i
placed text zero h = ap place_of (sym h)
placed text (suc zero) h = ap place_of (sym h)
placed text (suc (suc zero)) h = ap place_of (sym h)
placed text (suc (suc (suc zero))) h = ap place_of (sym h)
placed text (suc (suc (suc (suc zero)))) h = ap place_of (sym h)
placed text (suc (suc (suc (suc (suc i))))) h = absurd (let e : None ≡ Some text = h in cc)

once : AreWithoutEquals texts
once text i j h k = sym (placed text i h) ∙ placed text j k

tells : TellsOf texts known told script
tells = record {
  once = once;
  knows = (refl, (refl, refl));
  alike = (tt, (((refl, (refl, refl)), (((refl, refl), ((refl, ((refl, ((refl, tt), tt)), tt)), ((refl, (refl, refl)), tt))))), tt));
}

first : early_error script ≡ Some (record { offset = 38; rule = 1 })
first = early_error-by_atoms texts known told script tells

closes_over_g : closed_names script ≡ record { func = Some 18; scope = 0; name = codes "g" } ∷ []
closes_over_g = closed_names-by_atoms texts known told script tells
