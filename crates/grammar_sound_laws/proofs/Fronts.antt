-- The first place of an expression: its kind is the same at every depth, and the first lexeme is of it.
use Rattle.std.proofs.Common.{◌≡◌, ℕ, List, ◌∷◌, ◌++◌, refl, sym, ap, ◌∙◌, subst, Bool, true, false}
use Rattle.script_grammar.specs.declared.token.Kind.{Kind}
use Rattle.script_grammar.specs.declared.token.FuncForm.{FuncForm}
use Rattle.script_grammar.specs.declared.token.FuncForm.TheVariants as form
use Rattle.script_grammar.specs.Lexeme.{Lexeme}
use Rattle.script_grammar.specs.Tree.{Named, Expr, Exprs, no_exprs, more_exprs, Function, function, Params, no_params, more_params, no_expr, some_expr, Body}
use Rattle.script_grammar.specs.Tree as tree
use Rattle.script_grammar.specs.Pieces.{Bodies, Piece, At, Slot, Wanted, Exactly, AnyWord, Fits, from, begins_with, is_wanted, IsWanted}
use Rattle.script_grammar.specs.Print.{print, print_func, print_params}
use Rattle.script_grammar.specs.Proper.{Proper, BareIf, IsFuncExpression, ProperFunction}

-- two lists of places whose first ones are of one kind
pub record SameFront (a b : List Piece) : Type 0 where
  pub first : Slot
  pub second : Slot
  pub others : List Piece
  pub others2 : List Piece
  pub split : a ≡ At first ∷ others
  pub split2 : b ≡ At second ∷ others2
  pub same : first.kind ≡ second.kind

pub front_here : (s s2 : Slot) (a b : List Piece) → s.kind ≡ s2.kind → SameFront (At s ∷ a) (At s2 ∷ b)
front_here s s2 a b e = record { first = s; second = s2; others = a; others2 = b; split = refl; split2 = refl; same = e }

pub front_append : {a b : List Piece} (c e : List Piece) → SameFront a b → SameFront (a ++ c) (b ++ e)
front_append c e f = record { first = f.first; second = f.second; others = f.others ++ c; others2 = f.others2 ++ e; split = ap (λ x. x ++ c) f.split; split2 = ap (λ x. x ++ e) f.split2; same = f.same }

front_from : {a b : List Piece} (at at2 : ℕ) → SameFront a b → SameFront (from at a) (from at2 b)
front_from at at2 f = record { first = record { kind = f.first.kind; content = f.first.content; starts = at ∷ f.first.starts; ends = f.first.ends; glued = f.first.glued; depth = f.first.depth }; second = record { kind = f.second.kind; content = f.second.content; starts = at2 ∷ f.second.starts; ends = f.second.ends; glued = f.second.glued; depth = f.second.depth }; others = f.others; others2 = f.others2; split = ap (λ x. from at x) f.split; split2 = ap (λ x. from at2 x) f.split2; same = f.same }

bare_front : (m m2 : Bodies) (f : FuncForm) (start : ℕ) (ps : Params) (comma : Bool) (q d q2 d2 : ℕ) (a b : List Piece) → BareIf true f start ps comma → SameFront (print_params m q d ps ++ a) (print_params m2 q2 d2 ps ++ b)
bare_front m m2 form.Arrow start (more_params name no_expr false no_params) comma q d q2 d2 a b h = front_here _ _ _ _ refl
bare_front m m2 form.Arrow start no_params comma q d q2 d2 a b h = absurd h
bare_front m m2 form.Arrow start (more_params name (some_expr e) rest ps) comma q d q2 d2 a b h = absurd h
bare_front m m2 form.Arrow start (more_params name no_expr true ps) comma q d q2 d2 a b h = absurd h
bare_front m m2 form.Arrow start (more_params name no_expr false (more_params n2 v2 r2 ps)) comma q d q2 d2 a b h = absurd h
bare_front m m2 form.Script start ps comma q d q2 d2 a b h = absurd h
bare_front m m2 form.Function start ps comma q d q2 d2 a b h = absurd h
bare_front m m2 form.Method start ps comma q d q2 d2 a b h = absurd h
bare_front m m2 form.Getter start ps comma q d q2 d2 a b h = absurd h
bare_front m m2 form.Setter start ps comma q d q2 d2 a b h = absurd h

func_front : (m m2 : Bodies) (d d2 at : ℕ) (f : Function) → IsFuncExpression at f → ProperFunction m f → SameFront (print_func m d at f) (print_func m2 d2 at f)
func_front m m2 d d2 at (function form.Function start end name ps comma bare body) h p = front_here _ _ _ _ refl
func_front m m2 d d2 at (function form.Arrow start end name ps comma false body) h p = front_here _ _ _ _ refl
func_front m m2 d d2 at (function form.Arrow start end name ps comma true body) h p = bare_front m m2 form.Arrow start ps comma d d d2 d2 _ _ p.2
func_front m m2 d d2 at (function form.Script start end name ps comma bare body) h p = absurd h
func_front m m2 d d2 at (function form.Method start end name ps comma bare body) h p = absurd h
func_front m m2 d d2 at (function form.Getter start end name ps comma bare body) h p = absurd h
func_front m m2 d d2 at (function form.Setter start end name ps comma bare body) h p = absurd h

pub same_front : (m m2 : Bodies) (d d2 : ℕ) (e : Expr) → Proper m e → SameFront (print m d e) (print m2 d2 e)
same_front m m2 d d2 (tree.This at) p = front_here _ _ _ _ refl
same_front m m2 d d2 (tree.Name n) p = front_here _ _ _ _ refl
same_front m m2 d d2 (tree.Null at) p = front_here _ _ _ _ refl
same_front m m2 d d2 (tree.True at) p = front_here _ _ _ _ refl
same_front m m2 d d2 (tree.False at) p = front_here _ _ _ _ refl
same_front m m2 d d2 (tree.Number at value) p = front_here _ _ _ _ refl
same_front m m2 d d2 (tree.Str at end w) p = front_here _ _ _ _ refl
same_front m m2 d d2 (tree.Template at first parts) p = front_here _ _ _ _ refl
same_front m m2 d d2 (tree.Array at items comma) p = front_here _ _ _ _ refl
same_front m m2 d d2 (tree.Object at props comma) p = front_here _ _ _ _ refl
same_front m m2 d d2 (tree.Func at f) p = func_front m m2 d d2 at f p.0 p.1
same_front m m2 d d2 (tree.Paren at inner) p = front_here _ _ _ _ refl
same_front m m2 d d2 (tree.Chain head tails) p = front_append _ _ (same_front m m2 d d2 head p.1)
same_front m m2 d d2 (tree.New at callee args) p = front_here _ _ _ _ refl
same_front m m2 d d2 (tree.Unary at op of is_word) p = front_here _ _ _ _ refl
same_front m m2 d d2 (tree.Update at op true of) p = front_here _ _ _ _ refl
same_front m m2 d d2 (tree.Update at op false of) p = front_append _ _ (front_from at at (same_front m m2 d d2 of p.2))
same_front m m2 d d2 (tree.Binary first rest) p = front_append _ _ (same_front m m2 d d2 first p.3)
same_front m m2 d d2 (tree.Cond test then_value else_value) p = front_append _ _ (same_front m m2 d d2 test p.1)
same_front m m2 d d2 (tree.Assign op target value) p = front_append _ _ (same_front m m2 d d2 target p.2)
same_front m m2 d d2 (tree.Comma no_exprs) p = absurd p.0
same_front m m2 d d2 (tree.Comma (more_exprs e es)) p = front_append _ _ (same_front m m2 _ _ e p.1.1)

wanted_false : (f : Kind → Bool) (w : Wanted) (k : Kind) → (f k ≡ false) → IsWanted w k → is_wanted f w ≡ false
wanted_false f (Exactly j) k h e = ap f (sym e) ∙ h
wanted_false f AnyWord k h e = refl

-- the first lexeme is of no such kind, so the expression begins with none
pub begins_no : (f : Kind → Bool) (m m2 : Bodies) (d d2 : ℕ) (e : Expr) (t : Lexeme) (u : List Lexeme) (n : Lexeme) → Proper m e → Fits (print m d e) (t ∷ u) n → f t.kind ≡ false → begins_with f (print m2 d2 e) ≡ false
begins_no f m m2 d d2 e t u n p h k =
    let s = same_front m m2 d d2 e p in
    let fit : Fits (At s.first ∷ s.others) (t ∷ u) n = subst (λ x. Fits x (t ∷ u) n) s.split h in
    ap (begins_with f) s.split2 ∙ ap (λ x. is_wanted f x) (sym s.same) ∙ wanted_false f s.first.kind t.kind k fit.0.kind
