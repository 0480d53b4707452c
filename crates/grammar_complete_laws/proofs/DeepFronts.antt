-- The first place of an expression or a statement is at least as deep as what it is printed at; so where no room is left the
-- first lexeme is too deep.
use Rattle.std.proofs.Common.{◌≡◌, ℕ, zero, suc, ◌≤◌, ◌<◌, List, [], ◌∷◌, refl, sym, ap, ◌∙◌, subst, arith, Bool, true, false, not, ◌&&◌, ◌||◌}
use Rattle.script_grammar.specs.declared.token.Kind.{Kind}
use Rattle.script_grammar.specs.declared.token.Kind.TheVariants as kind
use Rattle.script_grammar.specs.declared.token.FuncForm.TheVariants as form
use Rattle.script_grammar.specs.declared.token.mark.TheConstants as mark
use Rattle.script_grammar.specs.declared.token.word.TheConstants as word
use Rattle.script_grammar.specs.declared.token.Decl.{Decl}
use Rattle.script_grammar.specs.declared.token.Decl.TheVariants as decl
use Rattle.script_grammar.specs.Lexeme.{Lexeme}
use Rattle.script_grammar.specs.Kinds.{is_mark, is_word, decl_word, is_var}
use Rattle.script_grammar.specs.Tree.{Named, Expr, Exprs, no_exprs, more_exprs, MaybeExpr, no_expr, some_expr, Params, no_params, more_params, Function, function, Stmt}
use Rattle.script_grammar.specs.Tree as tree
use Rattle.script_grammar.specs.Pieces.{whole, Piece, At, Gap, Pass, Wanted, Exactly, AnyWord, from, begins_with, is_wanted}
use Rattle.script_grammar.specs.Print.{print, print_stmt, print_more, above}
use Rattle.script_grammar.specs.Proper.{is_statement}
use Rattle.grammar_parser_specs.specs.Parser.{head_of, no_room}
use Rattle.grammar_parser_specs.specs.Exprs.{begins_assign}
use Rattle.grammar_parser_specs.specs.Stmts.{Place, AnItem, AStmt, is_item, is_inside, begins_stmt, begins_plain, begins_declaration}
use Rattle.grammar_parser_laws.proofs.Begins.{begins_same}
use Rattle.grammar_parser_laws.proofs.Tests.{false_true, and_both}
use Rattle.grammar_parser_laws.proofs.Stands.{Marked, Stands}
use Rattle.grammar_parser_laws.proofs.Complete.{Parses, DeepFront, deep_front, deep_at, parses_no_room}
use Rattle.grammar_complete_laws.proofs.Completes.{Completes}
use Rattle.grammar_complete_laws.proofs.ExprFronts.{OfKind, Opens, opens_append, opens_first, opens_some, expr_opens}
use Rattle.grammar_parser_laws.proofs.ProperIn.{Mode, Proper, ProperStmt}

deep_from : (limit n : ℕ) (ps : List Piece) → DeepFront limit ps → DeepFront limit (from n ps)
deep_from limit n ps f = subst (λ x. DeepFront limit (from n x)) (sym f.split) (deep_at limit (record f.first { starts = n ∷ f.first.starts }) f.others f.below)

func_deep : (limit : ℕ) (m : Mode) (d at : ℕ) (f : Function) → limit < d → Proper m (tree.Func at f) → DeepFront limit (print m.look d (tree.Func at f))
func_deep limit m d at (function form.Function start end name ps comma bare body) l h = deep_at limit _ _ l
func_deep limit m d at (function form.Arrow start end name ps comma false body) l h = deep_at limit _ _ l
func_deep limit m d at (function form.Arrow start end name no_params comma true body) l h = absurd h.1.2
func_deep limit m d at (function form.Arrow start end name (more_params n (some_expr e) r ps) comma true body) l h = absurd h.1.2
func_deep limit m d at (function form.Arrow start end name (more_params n no_expr true ps) comma true body) l h = absurd h.1.2
func_deep limit m d at (function form.Arrow start end name (more_params n no_expr false (more_params n2 v2 r2 ps)) comma true body) l h = absurd h.1.2
func_deep limit m d at (function form.Arrow start end name (more_params n no_expr false no_params) comma true body) l h = deep_at limit _ _ l
func_deep limit m d at (function form.Script start end name ps comma bare body) l h = absurd h.0
func_deep limit m d at (function form.Method start end name ps comma bare body) l h = absurd h.0
func_deep limit m d at (function form.Getter start end name ps comma bare body) l h = absurd h.0
func_deep limit m d at (function form.Setter start end name ps comma bare body) l h = absurd h.0

above_deep : (limit d : ℕ) → limit < d → limit < suc (above d)
above_deep limit zero h = absurd (omega (arith, h))
above_deep limit (suc d) h = h

pub expr_deep : (limit : ℕ) (m : Mode) (d : ℕ) (e : Expr) → limit < d → Proper m e → DeepFront limit (print m.look d e)
expr_deep limit m d (tree.This at) l h = deep_at limit _ _ l
expr_deep limit m d (tree.Name name) l h = deep_at limit _ _ l
expr_deep limit m d (tree.Null at) l h = deep_at limit _ _ l
expr_deep limit m d (tree.True at) l h = deep_at limit _ _ l
expr_deep limit m d (tree.False at) l h = deep_at limit _ _ l
expr_deep limit m d (tree.Number at value) l h = deep_at limit _ _ l
expr_deep limit m d (tree.Str at end x) l h = deep_at limit _ _ l
expr_deep limit m d (tree.Template at first parts) l h = deep_at limit _ _ l
expr_deep limit m d (tree.Array at is comma) l h = deep_at limit _ _ l
expr_deep limit m d (tree.Object at ps comma) l h = deep_at limit _ _ l
expr_deep limit m d (tree.Func at f) l h = func_deep limit m d at f l h
expr_deep limit m d (tree.Paren at inner) l h = deep_at limit _ _ l
expr_deep limit m d (tree.Chain head tails) l h = deep_front limit _ _ (expr_deep limit m d head l h.1)
expr_deep limit m d (tree.New at callee args) l h = deep_at limit _ _ (omega (arith, l))
expr_deep limit m d (tree.Unary at op of of_word) l h = deep_at limit _ _ (omega (arith, l))
expr_deep limit m d (tree.Update at op true of) l h = deep_at limit _ _ (omega (arith, l))
expr_deep limit m d (tree.Update at op false of) l h = deep_front limit _ _ (deep_from limit at _ (expr_deep limit m d of l h.2))
expr_deep limit m d (tree.Binary first rest) l h = deep_front limit _ _ (expr_deep limit m d first l h.3)
expr_deep limit m d (tree.Cond test a b) l h = deep_front limit _ _ (expr_deep limit m d test l h.1)
expr_deep limit m d (tree.Assign op target value) l h = deep_front limit _ _ (expr_deep limit m d target l h.2)
expr_deep limit m d (tree.Comma no_exprs) l h = absurd h.0
expr_deep limit m d (tree.Comma (more_exprs x xs)) l h = deep_front limit (print m.look (suc (above d)) x) (print_more m.look (above d) xs) (expr_deep limit m (suc (above d)) x (above_deep limit d l) h.1.1)

-- an expression that begins with a prefix operator or `new` is one deeper at its front
pub unary_deep : (limit : ℕ) (m : Mode) (d at op : ℕ) (of : Expr) (of_word : Bool) → limit ≤ d → DeepFront limit (print m.look d (tree.Unary at op of of_word))
unary_deep limit m d at op of of_word l = deep_at limit _ _ (omega (arith, l))

pub update_deep : (limit : ℕ) (m : Mode) (d at op : ℕ) (of : Expr) → limit ≤ d → DeepFront limit (print m.look d (tree.Update at op true of))
update_deep limit m d at op of l = deep_at limit _ _ (omega (arith, l))

pub new_deep : (limit : ℕ) (m : Mode) (d at : ℕ) (callee : Expr) (args : tree.MaybeArgs) → limit ≤ d → DeepFront limit (print m.look d (tree.New at callee args))
new_deep limit m d at callee args l = deep_at limit _ _ (omega (arith, l))

declared_deep : (limit : ℕ) (m : Mode) (d : ℕ) (f : Function) → limit < d → DeepFront limit (print_stmt m.look d (tree.Declared f))
declared_deep limit m d (function f start end name ps comma bare body) l = deep_at limit _ _ l

pub stmt_deep : (limit : ℕ) (m : Mode) (d : ℕ) (i : Bool) (s : Stmt) → limit < d → ProperStmt m i s → DeepFront limit (print_stmt m.look d s)
stmt_deep limit m d i (tree.Block items) l h = deep_at limit _ _ l
stmt_deep limit m d i tree.Empty l h = deep_at limit _ _ l
stmt_deep limit m d i (tree.Debugger semi) l h = deep_at limit _ _ l
stmt_deep limit m d i (tree.Binding c binds semi) l h = deep_at limit _ _ l
stmt_deep limit m d i (tree.Value e semi) l h = deep_front limit _ _ (expr_deep limit m (suc d) e (omega (arith, l)) h.2)
stmt_deep limit m d i (tree.If test then_stmt else_stmt) l h = deep_at limit _ _ l
stmt_deep limit m d i (tree.Do body test semi) l h = deep_at limit _ _ l
stmt_deep limit m d i (tree.While test body) l h = deep_at limit _ _ l
stmt_deep limit m d i (tree.For init test update body) l h = deep_at limit _ _ l
stmt_deep limit m d i (tree.ForIn each over body) l h = deep_at limit _ _ l
stmt_deep limit m d i (tree.Continue at label semi) l h = deep_at limit _ _ l
stmt_deep limit m d i (tree.Break at label semi) l h = deep_at limit _ _ l
stmt_deep limit m d i (tree.Return value semi) l h = deep_at limit _ _ l
stmt_deep limit m d i (tree.Throw value semi) l h = deep_at limit _ _ l
stmt_deep limit m d i (tree.Switch of _) l h = deep_at limit _ _ l
stmt_deep limit m d i (tree.Label name body) l h = deep_at limit _ _ (omega (arith, l))
stmt_deep limit m d i (tree.Try body param handler) l h = deep_at limit _ _ l
stmt_deep limit m d i (tree.Declared f) l h = declared_deep limit m d f l

-- what a statement begins with, by where it stands

item_of : (x b : Bool) → b ≡ false → (x ≡ false → b ≡ true) → x ≡ true
item_of true b e k = refl
item_of false b e k = absurd (false_true (sym e ∙ k refl))

let_begins : (p : Place) → is_item p ≡ true → begins_stmt p (kind.Word word.LET) ≡ true
let_begins (AnItem true) h = refl
let_begins (AnItem false) h = refl
let_begins (AStmt i) h = absurd (false_true h)

const_begins : (p : Place) → is_item p ≡ true → begins_stmt p (kind.Word word.CONST) ≡ true
const_begins (AnItem true) h = refl
const_begins (AnItem false) h = refl
const_begins (AStmt i) h = absurd (false_true h)

function_begins : (p : Place) → is_item p ≡ true → begins_stmt p (kind.Word word.FUNCTION) ≡ true
function_begins (AnItem true) h = refl
function_begins (AnItem false) h = refl
function_begins (AStmt i) h = absurd (false_true h)

return_begins : (p : Place) → is_inside p ≡ true → begins_stmt p (kind.Word word.RETURN) ≡ true
return_begins (AnItem true) h = refl
return_begins (AStmt true) h = refl
return_begins (AnItem false) h = absurd (false_true h)
return_begins (AStmt false) h = absurd (false_true h)

binding_begins : (p : Place) (c : Decl) → (is_item p ≡ false → is_var c ≡ true) → begins_stmt p (kind.Word (decl_word c)) ≡ true
binding_begins p decl.Var h = refl
binding_begins p decl.Let h = let_begins p (item_of (is_item p) false refl h)
binding_begins p decl.Const h = const_begins p (item_of (is_item p) false refl h)

value_begins : (p : Place) (k : Kind) → begins_assign k ≡ true → is_word word.FUNCTION k ≡ false → begins_stmt p k ≡ true
value_begins p k h f =
    let a = and_both (begins_assign k) (not (is_word word.FUNCTION k)) h (ap not f) in
    ap (λ b. b || is_mark mark.SEMICOLON k || begins_plain k || (is_item p && begins_declaration k) || (is_inside p && is_word word.RETURN k)) a

value_opens : (p : Place) (ps : List Piece) → Opens begins_assign ps → begins_with (is_word word.FUNCTION) ps ≡ false → Opens (begins_stmt p) ps
value_opens p [] o h = absurd o
value_opens p (At s ∷ ps) o h = of_place s.kind o h
  where
    of_place : (w : Wanted) → OfKind begins_assign w → is_wanted (is_word word.FUNCTION) w ≡ false → OfKind (begins_stmt p) w
    of_place (Exactly k) a f = value_begins p k a f
    of_place AnyWord a f = absurd a
value_opens p (Gap e ∷ ps) o h = absurd o
value_opens p (Pass ∷ ps) o h = absurd o

declared_opens : (m : Mode) (d : ℕ) (p : Place) (f : Function) → is_item p ≡ true → Opens (begins_stmt p) (print_stmt m.look d (tree.Declared f))
declared_opens m d p (function f start end name ps comma bare body) h = function_begins p h

pub place_opens : (m : Mode) (d : ℕ) (p : Place) (s : Stmt) → ProperStmt m (is_inside p) s → (is_item p ≡ false → is_statement s ≡ true) → Opens (begins_stmt p) (print_stmt m.look d s)
place_opens m d p (tree.Block items) h i = refl
place_opens m d p tree.Empty h i = refl
place_opens m d p (tree.Debugger semi) h i = refl
place_opens m d p (tree.Binding c binds semi) h i = binding_begins p c i
place_opens m d p (tree.Value e semi) h i = opens_append (begins_stmt p) (print m.look (suc d) e) _ (value_opens p (print m.look (suc d) e) (expr_opens m (suc d) e h.2) (begins_same (is_word word.FUNCTION) m.look whole (suc d) 1 e ∙ h.1))
place_opens m d p (tree.If test then_stmt else_stmt) h i = refl
place_opens m d p (tree.Do body test semi) h i = refl
place_opens m d p (tree.While test body) h i = refl
place_opens m d p (tree.For init test update body) h i = refl
place_opens m d p (tree.ForIn each over body) h i = refl
place_opens m d p (tree.Continue at label semi) h i = refl
place_opens m d p (tree.Break at label semi) h i = refl
place_opens m d p (tree.Return value semi) h i = return_begins p h.0
place_opens m d p (tree.Throw value semi) h i = refl
place_opens m d p (tree.Switch of _) h i = refl
place_opens m d p (tree.Label name body) h i = refl
place_opens m d p (tree.Try body param handler) h i = refl
place_opens m d p (tree.Declared f) h i = declared_opens m d p f (item_of (is_item p) false refl i)

-- without room

pub c_no_room : (limit : ℕ) {A : Type 0} {F : Lexeme → Type 0} (begins : Kind → Bool) (ps : List Piece) (a : A) → Opens begins ps → DeepFront limit ps → Completes limit ps F (no_room begins) a
c_no_room limit {A = A} {F = F} begins ps a o d = record { at = none }
  where
    none : (w : List Marked) (rest : List Lexeme) → Stands ps w (head_of rest) → F (head_of rest) → Parses limit (no_room {A = A} begins) w rest a
    none [] rest h g = absurd (omega (arith, opens_some begins ps [] (head_of rest) o h))
    none (x ∷ w) rest h g = parses_no_room limit begins ps x w rest a (head_of rest) d h (opens_first begins ps x w (head_of rest) o h)
