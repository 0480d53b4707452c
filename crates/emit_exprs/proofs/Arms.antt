-- The code of an expression by its variant: what it stands for is the row's.
use Rattle.std.proofs.Common.{◌≡◌, ℕ, List, ◌++◌, Bool, Option, map, option_map, sym, ◌∙◌, ap, ap₂}
use Rattle.std.specs.declared.boxed.Box.{Box}
use Rattle.std.specs.declared.vec.Vec.{Vec}
use Rattle.std.specs.declared.alloc.Global.{Global}
use Rattle.script_grammar.specs.Tree.{Stmts}
use Rattle.script_grammar.specs.Tree as model
use Rattle.script_grammar.specs.TreeLists.{exprs_of, items_of, maybe_args_of, operands_of, parts_of, tails_of, props_of}
use Rattle.script_grammar.specs.TreeOf.{expr_of, operand_of, part_of, tail_of, args_of, prop_of}
use Rattle.script_grammar.specs.declared.tree.Expr.{Expr}
use Rattle.script_grammar.specs.declared.tree.Expr.TheVariants as in_expr
use Rattle.script_grammar.specs.declared.tree.Tail.{Tail}
use Rattle.script_grammar.specs.declared.tree.Args.{Args}
use Rattle.script_grammar.specs.declared.tree.Operand.{Operand}
use Rattle.script_grammar.specs.declared.tree.Prop.{Prop}
use Rattle.script_grammar.specs.declared.tree.Func.{Func, out-Func}
use Rattle.script_grammar.specs.declared.tree.NewExpression.{NewExpression, out-NewExpression}
use Rattle.script_grammar.specs.declared.tree.TemplatePart.{TemplatePart}
use Rattle.script_grammar.proofs.PartEquations.{func_of-fields}
use Rattle.script_grammar.proofs.ExprEquations as equation
use Rattle.emit_exprs.specs.declared.site.Site.{Site}
use Rattle.emit_exprs.specs.declared.uses.Use.{Use}
use Rattle.emit_exprs.specs.Sites.{EmitsAt, scene_of, text_in}
use Rattle.emit_exprs.specs.Exprs.{code_of, lambda_at, lambda_code, used_value}
use Rattle.emit_exprs.specs.TreeCode.{at_site, RowEmits, ExprEmits}
use Rattle.emit_exprs.proofs.Writing.{written_of, written_as, expr_at}

pub at_template : {s : Site} {old new : List ℕ} {wanted : Use} (e : Expr) (at first : ℕ) (parts : Vec TemplatePart Global) (ps : List TemplatePart) → e ≡ in_expr.Template at first parts → ps ≡ parts.items → ((at : ℕ) → RowEmits s old new wanted (λ b. model.Template at (text_in s first) (parts_of (map (part_of (at_site s b)) ps)))) → ExprEmits s old new wanted e
at_template {s} e at first parts ps is ps_is x = expr_at e (λ b. model.Template at (text_in s first) (parts_of (map (part_of (at_site s b)) ps)))
    (λ b. ap (expr_of (at_site s b)) is ∙ (equation.expr_of-Template (at_site s b) at first parts ∙ ap (λ (l : List TemplatePart). model.Template at (text_in s first) (parts_of (map (part_of (at_site s b)) l))) (sym ps_is))) (x at)

pub at_array : {s : Site} {old new : List ℕ} {wanted : Use} (e : Expr) (at : ℕ) (items : Vec (Option Expr) Global) (comma : Bool) (xs : List (Option Expr)) → e ≡ in_expr.Array at items comma → xs ≡ items.items → ((at : ℕ) (comma : Bool) → RowEmits s old new wanted (λ b. model.Array at (items_of (map (option_map (expr_of (at_site s b))) xs)) comma)) → ExprEmits s old new wanted e
at_array {s} e at items comma xs is xs_is x = expr_at e (λ b. model.Array at (items_of (map (option_map (expr_of (at_site s b))) xs)) comma)
    (λ b. ap (expr_of (at_site s b)) is ∙ (equation.expr_of-Array (at_site s b) at items comma ∙ ap (λ (l : List (Option Expr)). model.Array at (items_of (map (option_map (expr_of (at_site s b))) l)) comma) (sym xs_is))) (x at comma)

pub at_object : {s : Site} {old new : List ℕ} {wanted : Use} (e : Expr) (at : ℕ) (props : Vec Prop Global) (comma : Bool) (ps : List Prop) → e ≡ in_expr.Object at props comma → ps ≡ props.items → ((at : ℕ) (comma : Bool) → RowEmits s old new wanted (λ b. model.Object at (props_of (map (prop_of (at_site s b)) ps)) comma)) → ExprEmits s old new wanted e
at_object {s} e at props comma ps is ps_is x = expr_at e (λ b. model.Object at (props_of (map (prop_of (at_site s b)) ps)) comma)
    (λ b. ap (expr_of (at_site s b)) is ∙ (equation.expr_of-Object (at_site s b) at props comma ∙ ap (λ (l : List Prop). model.Object at (props_of (map (prop_of (at_site s b)) l)) comma) (sym ps_is))) (x at comma)

pub at_func : {s : Site} {old new : List ℕ} {wanted : Use} (e : Expr) (at : ℕ) (func : Box Func Global) (start : ℕ) → e ≡ in_expr.Func at func → start ≡ (out-Func func.value).start → EmitsAt s old new (lambda_at (scene_of s) start ++ used_value wanted) → ExprEmits s old new wanted e
at_func {s} {wanted = wanted} e at func start is start_is x = record {
  row = record {
    code = written_as (λ b f. tt)
        (λ b f. ap (λ (n : ℕ). lambda_at (scene_of s) n ++ used_value wanted) start_is
        ∙ (sym (ap (λ (g : model.Function). lambda_code (scene_of s) g ++ used_value wanted) (func_of-fields (at_site s b) func.value))
        ∙ sym (ap (code_of (scene_of s) wanted) (ap (expr_of (at_site s b)) is ∙ equation.expr_of-Func (at_site s b) at func))))
        (written_of x);
  };
}

pub at_paren : {s : Site} {old new : List ℕ} {wanted : Use} (e : Expr) (at : ℕ) (inner : Box Expr Global) (x : Expr) → e ≡ in_expr.Paren at inner → x ≡ inner.value → ExprEmits s old new wanted x → ExprEmits s old new wanted e
at_paren {s} e at inner x is x_is y = expr_at e (λ b. model.Paren at (expr_of (at_site s b) x))
    (λ b. ap (expr_of (at_site s b)) is ∙ (equation.expr_of-Paren (at_site s b) at inner ∙ ap (λ (v : Expr). model.Paren at (expr_of (at_site s b) v)) (sym x_is))) (record { code = y.row.code })

pub at_chain : {s : Site} {old new : List ℕ} {wanted : Use} (e : Expr) (head : Box Expr Global) (tails : Vec Tail Global) (x : Expr) (ts : List Tail) → e ≡ in_expr.Chain head tails → x ≡ head.value → ts ≡ tails.items → RowEmits s old new wanted (λ b. model.Chain (expr_of (at_site s b) x) (tails_of (map (tail_of (at_site s b)) ts))) → ExprEmits s old new wanted e
at_chain {s} e head tails x ts is x_is ts_is y = expr_at e (λ b. model.Chain (expr_of (at_site s b) x) (tails_of (map (tail_of (at_site s b)) ts)))
    (λ b. ap (expr_of (at_site s b)) is ∙ (equation.expr_of-Chain (at_site s b) head tails ∙ ap₂ (λ (v : Expr) (l : List Tail). model.Chain (expr_of (at_site s b) v) (tails_of (map (tail_of (at_site s b)) l))) (sym x_is) (sym ts_is))) y

pub at_new : {s : Site} {old new : List ℕ} {wanted : Use} (e : Expr) (boxed : Box NewExpression Global) (x : NewExpression) → e ≡ in_expr.New boxed → x ≡ boxed.value → RowEmits s old new wanted (λ b. model.New (out-NewExpression x).at (expr_of (at_site s b) (out-NewExpression x).callee) (maybe_args_of (option_map (args_of (at_site s b)) (out-NewExpression x).args))) → ExprEmits s old new wanted e
at_new {s} e boxed x is x_is y = expr_at e (λ b. model.New (out-NewExpression x).at (expr_of (at_site s b) (out-NewExpression x).callee) (maybe_args_of (option_map (args_of (at_site s b)) (out-NewExpression x).args)))
    (λ b. ap (expr_of (at_site s b)) is ∙ (equation.expr_of-New (at_site s b) boxed ∙ ap (λ (z : NewExpression). model.New (out-NewExpression z).at (expr_of (at_site s b) (out-NewExpression z).callee) (maybe_args_of (option_map (args_of (at_site s b)) (out-NewExpression z).args))) (sym x_is))) y

pub at_unary : {s : Site} {old new : List ℕ} {wanted : Use} (e : Expr) (at sign : ℕ) (of : Box Expr Global) (is_word : Bool) (x : Expr) → e ≡ in_expr.Unary at sign of is_word → x ≡ of.value → ((at : ℕ) → RowEmits s old new wanted (λ b. model.Unary at sign (expr_of (at_site s b) x) is_word)) → ExprEmits s old new wanted e
at_unary {s} e at sign of is_word x is x_is y = expr_at e (λ b. model.Unary at sign (expr_of (at_site s b) x) is_word)
    (λ b. ap (expr_of (at_site s b)) is ∙ (equation.expr_of-Unary (at_site s b) at sign of is_word ∙ ap (λ (v : Expr). model.Unary at sign (expr_of (at_site s b) v) is_word) (sym x_is))) (y at)

pub at_update : {s : Site} {old new : List ℕ} {wanted : Use} (e : Expr) (at sign : ℕ) (prefix : Bool) (of : Box Expr Global) (x : Expr) → e ≡ in_expr.Update at sign prefix of → x ≡ of.value → ((at : ℕ) → RowEmits s old new wanted (λ b. model.Update at sign prefix (expr_of (at_site s b) x))) → ExprEmits s old new wanted e
at_update {s} e at sign prefix of x is x_is y = expr_at e (λ b. model.Update at sign prefix (expr_of (at_site s b) x))
    (λ b. ap (expr_of (at_site s b)) is ∙ (equation.expr_of-Update (at_site s b) at sign prefix of ∙ ap (λ (v : Expr). model.Update at sign prefix (expr_of (at_site s b) v)) (sym x_is))) (y at)

pub at_binary : {s : Site} {old new : List ℕ} {wanted : Use} (e : Expr) (first : Box Expr Global) (rest : Vec Operand Global) (x : Expr) (os : List Operand) → e ≡ in_expr.Binary first rest → x ≡ first.value → os ≡ rest.items → RowEmits s old new wanted (λ b. model.Binary (expr_of (at_site s b) x) (operands_of (map (operand_of (at_site s b)) os))) → ExprEmits s old new wanted e
at_binary {s} e first rest x os is x_is os_is y = expr_at e (λ b. model.Binary (expr_of (at_site s b) x) (operands_of (map (operand_of (at_site s b)) os)))
    (λ b. ap (expr_of (at_site s b)) is ∙ (equation.expr_of-Binary (at_site s b) first rest ∙ ap₂ (λ (v : Expr) (l : List Operand). model.Binary (expr_of (at_site s b) v) (operands_of (map (operand_of (at_site s b)) l))) (sym x_is) (sym os_is))) y

pub at_cond : {s : Site} {old new : List ℕ} {wanted : Use} (e : Expr) (test first second : Box Expr Global) (x y z : Expr) → e ≡ in_expr.Cond test first second → x ≡ test.value → y ≡ first.value → z ≡ second.value → RowEmits s old new wanted (λ b. model.Cond (expr_of (at_site s b) x) (expr_of (at_site s b) y) (expr_of (at_site s b) z)) → ExprEmits s old new wanted e
at_cond {s} e test first second x y z is x_is y_is z_is row = expr_at e (λ b. model.Cond (expr_of (at_site s b) x) (expr_of (at_site s b) y) (expr_of (at_site s b) z))
    (λ b. ap (expr_of (at_site s b)) is ∙ (equation.expr_of-Cond (at_site s b) test first second
    ∙ (ap₂ (λ (u : Expr) (v : Expr). model.Cond (expr_of (at_site s b) u) (expr_of (at_site s b) v) (expr_of (at_site s b) second.value)) (sym x_is) (sym y_is)
    ∙ ap (λ (v : Expr). model.Cond (expr_of (at_site s b) x) (expr_of (at_site s b) y) (expr_of (at_site s b) v)) (sym z_is)))) row

pub at_assign : {s : Site} {old new : List ℕ} {wanted : Use} (e : Expr) (sign : ℕ) (left value : Box Expr Global) (x y : Expr) → e ≡ in_expr.Assign sign left value → x ≡ left.value → y ≡ value.value → RowEmits s old new wanted (λ b. model.Assign sign (expr_of (at_site s b) x) (expr_of (at_site s b) y)) → ExprEmits s old new wanted e
at_assign {s} e sign left value x y is x_is y_is row = expr_at e (λ b. model.Assign sign (expr_of (at_site s b) x) (expr_of (at_site s b) y))
    (λ b. ap (expr_of (at_site s b)) is ∙ (equation.expr_of-Assign (at_site s b) sign left value ∙ ap₂ (λ (u : Expr) (v : Expr). model.Assign sign (expr_of (at_site s b) u) (expr_of (at_site s b) v)) (sym x_is) (sym y_is))) row

pub at_comma : {s : Site} {old new : List ℕ} {wanted : Use} (e : Expr) (items : Vec Expr Global) (es : List Expr) → e ≡ in_expr.Comma items → es ≡ items.items → RowEmits s old new wanted (λ b. model.Comma (exprs_of (map (expr_of (at_site s b)) es))) → ExprEmits s old new wanted e
at_comma {s} e items es is es_is y = expr_at e (λ b. model.Comma (exprs_of (map (expr_of (at_site s b)) es)))
    (λ b. ap (expr_of (at_site s b)) is ∙ (equation.expr_of-Comma (at_site s b) items ∙ ap (λ (l : List Expr). model.Comma (exprs_of (map (expr_of (at_site s b)) l))) (sym es_is))) y
