-- A node over kept trees stands for the function that it keeps.
use Rattle.std.proofs.Common.{◌≡◌, ◌∙◌, ℕ, List, [], ◌∷◌, map, refl, sym, ap, Option, Some, None, option_map, unwrap_or}
use Rattle.std.specs.declared.vec.Vec.{Vec}
use Rattle.std.specs.declared.alloc.Global.{Global}
use Rattle.script_grammar.specs.declared.tree.Expr.{Expr}
use Rattle.script_grammar.specs.declared.tree.Stmt.{Stmt}
use Rattle.script_grammar.specs.declared.node.NodeFunc.{NodeFunc}
use Rattle.script_grammar.specs.declared.node.NodeFuncBody.{NodeFuncBody}
use Rattle.script_grammar.specs.declared.node.NodeFuncBody.TheVariants as bodies
use Rattle.script_grammar.specs.declared.node.NodeParam.{NodeParam}
use Rattle.script_grammar.specs.Interpretation.{Interpretation, named, maybe_named}
use Rattle.script_grammar.specs.Shows.{ShowAll, MaybeOf, FuncBodyOf, ShowParam, ShowFunc}
use Rattle.script_grammar.specs.Tree as model
use Rattle.script_grammar.specs.TreeLists as part
use Rattle.script_grammar.specs.TreeLists.{params_of}
use Rattle.script_grammar.specs.TreeOf.{expr_of}
use Rattle.parse_handlers.specs.Kept.{IsExpr, IsBody, kept_body, kept_param, kept_func}

maybe_inside : {C : Type 0} (i : Interpretation) (F : Option model.Expr → C) (c : C) (o : Option Expr) → MaybeOf (IsExpr i) o (λ v. c ≡ F v) → F (option_map (expr_of i) o) ≡ c
maybe_inside i F c None h = sym h
maybe_inside i F c (Some e) h = ap (λ x. F (Some x)) h.1 ∙ sym h.2

body_inside : (i : Interpretation) (start : ℕ) (F : model.Body → model.Function) (f : model.Function) (n : NodeFuncBody Expr (Vec Stmt Global)) → FuncBodyOf i (IsExpr i) (IsBody i) start n (λ b. f ≡ F b) → F (unwrap_or (kept_body i n) (model.BracedBody (i.bodies start))) ≡ f
body_inside i start F f (bodies.Braced ss) h = ap (λ x. F (model.BracedBody x)) h.1 ∙ sym h.2
body_inside i start F f (bodies.Short e) h = ap (λ x. F (model.ShortBody x)) h.1 ∙ sym h.2
body_inside i start F f (bodies.Passed) h = sym h

param_shown : (i : Interpretation) (n : NodeParam Expr) (p : part.Param) → ShowParam i (IsExpr i) n p → kept_param i n ≡ p
param_shown i n p h =
    let made : Option model.Expr → part.Param = λ v. record { name = named i n.name; value = v; rest = n.rest } in
    maybe_inside i made p n.value h

params_shown : (i : Interpretation) (ns : List (NodeParam Expr)) (ps : List part.Param) → ShowAll (ShowParam i (IsExpr i)) ns ps → map (kept_param i) ns ≡ ps
params_shown i [] [] h = refl
params_shown i [] (p ∷ ps) h = absurd h
params_shown i (n ∷ ns) [] h = absurd h
params_shown i (n ∷ ns) (p ∷ ps) h = ap (λ (x : part.Param). x ∷ map (kept_param i) ns) (param_shown i n p h.0) ∙ ap (λ (xs : List part.Param). p ∷ xs) (params_shown i ns ps h.1)

pub func_shown : (i : Interpretation) (n : NodeFunc Expr (Vec Stmt Global)) (f : model.Function) → ShowFunc i (IsExpr i) (IsBody i) n f → kept_func i n ≡ f
func_shown i n f h =
    let body = unwrap_or (kept_body i n.body) (model.BracedBody (i.bodies n.start)) in
    ap (λ ps. model.function n.form n.start n.end (maybe_named i n.name) (params_of ps) n.comma n.bare body) (params_shown i n.params.items h.0 h.1)
    ∙ body_inside i n.start (λ b. model.function n.form n.start n.end (maybe_named i n.name) (params_of h.0) n.comma n.bare b) f n.body h.2
