-- What an expression begins with: neither the depth at which it is printed, nor how bodies are looked at, changes it.
use Rattle.std.proofs.Common.{◌≡◌, ℕ, suc, List, [], ◌∷◌, ◌++◌, refl, sym, ap, ◌∙◌, Bool, true, false}
use Rattle.script_grammar.specs.declared.token.Kind.{Kind}
use Rattle.script_grammar.specs.Lexeme.{Lexeme}
use Rattle.script_grammar.specs.Tree.{Expr, Exprs, no_exprs, more_exprs, Function, function, Params, no_params, more_params, Tails, no_tails, more_tails, Operands, no_operands, more_operands}
use Rattle.script_grammar.specs.Tree as tree
use Rattle.script_grammar.specs.Pieces.{Bodies, Piece, At, Gap, Pass, Wanted, Exactly, AnyWord, IsWanted, from, begins_with, is_wanted}
use Rattle.script_grammar.specs.Print.{print, print_more, print_params, print_tails, print_operands, above}
use Rattle.script_grammar.specs.declared.token.FuncForm.TheVariants as form
use Rattle.grammar_parser_specs.specs.Parser.{end_lexeme}
use Rattle.grammar_parser_laws.proofs.Fitting.{FitsAll}

-- what a list of pieces begins with
data Lead : Type 0 where
  none : Lead
  place : Wanted → Lead
  other : Lead

abbrev lead : List Piece → Lead
lead [] = none
lead (At s ∷ ps) = place s.kind
lead (Gap e ∷ ps) = other
lead (Pass ∷ ps) = other

abbrev pick : Lead → Lead → Lead
pick none y = y
pick (place w) y = place w
pick other y = other

lead_append : (a b : List Piece) → lead (a ++ b) ≡ pick (lead a) (lead b)
lead_append [] b = refl
lead_append (At s ∷ a) b = refl
lead_append (Gap e ∷ a) b = refl
lead_append (Pass ∷ a) b = refl

lead_from : (n : ℕ) (a : List Piece) → lead (from n a) ≡ lead a
lead_from n [] = refl
lead_from n (At s ∷ a) = refl
lead_from n (Gap e ∷ a) = refl
lead_from n (Pass ∷ a) = refl

both : (a b x y : List Piece) → lead a ≡ lead b → lead x ≡ lead y → lead (a ++ x) ≡ lead (b ++ y)
both a b x y e h = lead_append a x ∙ ap (λ z. pick z (lead x)) e ∙ ap (λ z. pick (lead b) z) h ∙ sym (lead_append b y)

lead_params : (m n : Bodies) (d e q r : ℕ) (ps : Params) (x y : List Piece) → lead x ≡ lead y → lead (print_params m q d ps ++ x) ≡ lead (print_params n r e ps ++ y)
lead_params m n d e q r no_params x y h = h
lead_params m n d e q r (more_params name value true ps) x y h = refl
lead_params m n d e q r (more_params name value false ps) x y h = refl

lead_func : (m n : Bodies) (d e : ℕ) (at : ℕ) (f : Function) → lead (print m d (tree.Func at f)) ≡ lead (print n e (tree.Func at f))
lead_func m n d e at (function form.Arrow start end name ps comma false body) = refl
lead_func m n d e at (function form.Arrow start end name ps comma true body) = lead_params m n d e d e ps _ _ refl
lead_func m n d e at (function form.Script start end name ps comma bare body) = refl
lead_func m n d e at (function form.Function start end name ps comma bare body) = refl
lead_func m n d e at (function form.Method start end name ps comma bare body) = refl
lead_func m n d e at (function form.Getter start end name ps comma bare body) = refl
lead_func m n d e at (function form.Setter start end name ps comma bare body) = refl

lead_tails : (m n : Bodies) (d e : ℕ) (ts : Tails) → lead (print_tails m d ts) ≡ lead (print_tails n e ts)
lead_tails m n d e no_tails = refl
lead_tails m n d e (more_tails (tree.Dot w) ts) = refl
lead_tails m n d e (more_tails (tree.Index x) ts) = refl
lead_tails m n d e (more_tails (tree.Call es comma) ts) = refl

lead_operands : (m n : Bodies) (d e : ℕ) (os : Operands) → lead (print_operands m d os) ≡ lead (print_operands n e os)
lead_operands m n d e no_operands = refl
lead_operands m n d e (more_operands op is_word value rest) = refl

lead_more : (m n : Bodies) (d e : ℕ) (es : Exprs) → lead (print_more m d es) ≡ lead (print_more n e es)
lead_more m n d e no_exprs = refl
lead_more m n d e (more_exprs x es) = refl

lead_same : (m n : Bodies) (d e : ℕ) (x : Expr) → lead (print m d x) ≡ lead (print n e x)
lead_same m n d e (tree.This at) = refl
lead_same m n d e (tree.Name name) = refl
lead_same m n d e (tree.Null at) = refl
lead_same m n d e (tree.True at) = refl
lead_same m n d e (tree.False at) = refl
lead_same m n d e (tree.Number at value) = refl
lead_same m n d e (tree.Str at end w) = refl
lead_same m n d e (tree.Template at first parts) = refl
lead_same m n d e (tree.Array at is comma) = refl
lead_same m n d e (tree.Object at ps comma) = refl
lead_same m n d e (tree.Func at f) = lead_func m n d e at f
lead_same m n d e (tree.Paren at inner) = refl
lead_same m n d e (tree.Chain head tails) = both (print m d head) (print n e head) _ _ (lead_same m n d e head) (lead_tails m n d e tails)
lead_same m n d e (tree.New at callee args) = refl
lead_same m n d e (tree.Unary at op of is_word) = refl
lead_same m n d e (tree.Update at op true of) = refl
lead_same m n d e (tree.Update at op false of) = both (from at (print m d of)) (from at (print n e of)) _ _ (lead_from at (print m d of) ∙ lead_same m n d e of ∙ sym (lead_from at (print n e of))) refl
lead_same m n d e (tree.Binary first rest) = both (print m d first) (print n e first) _ _ (lead_same m n d e first) (lead_operands m n d e rest)
lead_same m n d e (tree.Cond test then_value else_value) = both (print m d test) (print n e test) _ _ (lead_same m n d e test) refl
lead_same m n d e (tree.Assign op target value) = both (print m d target) (print n e target) _ _ (lead_same m n d e target) refl
lead_same m n d e (tree.Comma no_exprs) = refl
lead_same m n d e (tree.Comma (more_exprs x xs)) = both (print m (suc (above d)) x) (print n (suc (above e)) x) _ _ (lead_same m n (suc (above d)) (suc (above e)) x) (lead_more m n (above d) (above e) xs)

abbrev test : (Kind → Bool) → Lead → Bool
test f none = false
test f (place w) = is_wanted f w
test f other = false

begins_lead : (f : Kind → Bool) (ps : List Piece) → begins_with f ps ≡ test f (lead ps)
begins_lead f [] = refl
begins_lead f (At s ∷ ps) = refl
begins_lead f (Gap e ∷ ps) = refl
begins_lead f (Pass ∷ ps) = refl

pub begins_same : (f : Kind → Bool) (m n : Bodies) (d e : ℕ) (x : Expr) → begins_with f (print m d x) ≡ begins_with f (print n e x)
begins_same f m n d e x = begins_lead f (print m d x) ∙ ap (test f) (lead_same m n d e x) ∙ sym (begins_lead f (print n e x))

wanted_not : (f : Kind → Bool) (w : Wanted) (k : Kind) → IsWanted w k → f k ≡ false → is_wanted f w ≡ false
wanted_not f (Exactly j) k h e = ap f (sym h) ∙ e
wanted_not f AnyWord k h e = refl

-- pieces where these lexemes stand begin with no kind that the first of these has not
pub begins_not : (f : Kind → Bool) (ps : List Piece) (t : Lexeme) (w : List Lexeme) → FitsAll ps (t ∷ w) → f t.kind ≡ false → begins_with f ps ≡ false
begins_not f [] t w h e = refl
begins_not f (At s ∷ ps) t w h e = wanted_not f s.kind t.kind (h.before end_lexeme).0.kind e
begins_not f (Gap g ∷ ps) t w h e = refl
begins_not f (Pass ∷ ps) t w h e = refl
