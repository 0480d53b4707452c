-- Early errors and closed names of small scripts, computed from their trees.
use Rattle.std.proofs.Common.{◌≡◌, ℕ, true, false, codes, Option, Some, None, List, [], ◌∷◌, refl}
use Rattle.script_grammar.specs.declared.token.FuncForm.TheVariants as form
use Rattle.script_grammar.specs.declared.token.Decl.TheVariants as decl
use Rattle.script_grammar.specs.Tree.{Named, Name, Func, Paren, Unary, Stmts, no_stmts, more_stmts, Stmt, Block, Binding, Value, Try, Declared, Return, no_expr, some_expr, function, no_params, more_params, BracedBody, ShortBody, no_binds, more_binds}
use Rattle.parse_track.specs.declared.region.Early.{Early}
use Rattle.parse_track.specs.Notes.{early_error, closed_names}

at_rule : ℕ → ℕ → Option Early
at_rule offset rule = Some (record { offset = offset; rule = rule })

named : List ℕ → ℕ → Named
named text at = record { text = text; at = at }

one : Stmt → Stmts
one s = more_stmts s no_stmts

-- function f(){ let x; { var x } }
clash : Stmts
clash = one (Declared (function form.Function 10 32 (Some (named (codes "f") 9)) no_params false false
    (BracedBody (more_stmts (Binding decl.Let (more_binds (named (codes "x") 18) no_expr no_binds) true)
    (one (Block (one (Binding decl.Var (more_binds (named (codes "x") 27) no_expr no_binds) false))))))))

var_clash : early_error clash ≡ at_rule 27 2
unfolding clash one named at_rule
var_clash = refl

-- try{}catch(e){let e}
catch_clash : early_error (one (Try no_stmts (Some (named (codes "e") 11)) (one (Binding decl.Let (more_binds (named (codes "e") 18) no_expr no_binds) false)))) ≡ at_rule 18 4
unfolding one named at_rule
catch_clash = refl

-- try{}catch(e){var e}
catch_var : early_error (one (Try no_stmts (Some (named (codes "e") 11)) (one (Binding decl.Var (more_binds (named (codes "e") 18) no_expr no_binds) false)))) ≡ None
unfolding one named
catch_var = refl

-- delete (x)
deleted : early_error (one (Value (Unary 0 8 (Paren 7 (Name (named (codes "x") 8))) true) false)) ≡ at_rule 0 10
unfolding one named at_rule
deleted = refl

-- const x
bare_const : early_error (one (Binding decl.Const (more_binds (named (codes "x") 6) no_expr no_binds) false)) ≡ at_rule 6 7
unfolding one named at_rule
bare_const = refl

-- function f(x){ return () => () => x }
arrows : Stmts
arrows = one (Declared (function form.Function 10 37 (Some (named (codes "f") 9)) (more_params (named (codes "x") 11) no_expr false no_params) false false
    (BracedBody (one (Return (some_expr (Func 22 (function form.Arrow 22 35 None no_params false false
    (ShortBody (Func 28 (function form.Arrow 28 35 None no_params false false (ShortBody (Name (named (codes "x") 34))))))))) false)))))

arrows_close : closed_names arrows ≡ record { func = Some 10; scope = 0; name = codes "x" } ∷ []
unfolding arrows one named
arrows_close = refl
