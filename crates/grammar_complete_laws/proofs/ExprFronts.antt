-- The first places of an expression: the first is for a lexeme that begins an AssignmentExpression, and after a name that
-- is first no colon stands.
use Rattle.std.proofs.Common.{◌≡◌, ℕ, suc, ◌≤◌, ◌<◌, List, [], ◌∷◌, ◌++◌, length, refl, sym, ap, ◌∙◌, subst, arith, Bool, true, false, ◌||◌, nat_eq, nat_le, ◌⊎◌, inl, inr}
use Rattle.std.proofs.lemmas.Bool.{eqb-true, leb-true}
use Rattle.script_grammar.specs.declared.token.Kind.{Kind}
use Rattle.script_grammar.specs.declared.token.Kind.TheVariants as kind
use Rattle.script_grammar.specs.declared.token.mark.TheConstants as mark
use Rattle.script_grammar.specs.declared.token.word.TheConstants as word
use Rattle.script_grammar.specs.declared.token.FuncForm.TheVariants as form
use Rattle.script_grammar.specs.Lexeme.{Lexeme}
use Rattle.script_grammar.specs.Kinds.{is_mark, is_word, is_name, is_any_word, is_prefix_op, is_update_op, is_assign_op, op_kind, op_level, mark_level, no_level}
use Rattle.script_grammar.specs.Tree.{Named, Expr, Exprs, no_exprs, more_exprs, Function, function, Params, no_params, more_params, no_expr, some_expr, Tails, no_tails, more_tails, Operands, no_operands, more_operands, Parts, no_parts, more_parts}
use Rattle.script_grammar.specs.Tree as tree
use Rattle.script_grammar.specs.Pieces.{Piece, At, Gap, Pass, Wanted, Exactly, AnyWord, IsWanted, from, begins_with, is_wanted}
use Rattle.script_grammar.specs.Print.{print, print_func, print_tails, print_operands, print_more, above, first_kind}
use Rattle.script_grammar.specs.Proper.{IsFuncExpression, operands_level}
use Rattle.grammar_parser_specs.specs.Exprs.{begins_assign, begins_word, begins_mark}
use Rattle.grammar_parser_laws.proofs.Friendly.{first_of}
use Rattle.grammar_parser_laws.proofs.Stands.{Marked, lexemes, Stands}
use Rattle.grammar_parser_laws.proofs.Tests.{false_true, true_false, or_cases, and_left, and_right, bool_cases}
use Rattle.grammar_parser_laws.proofs.ProperIn.{Mode, Proper, ProperFunction}

-- which words and marks begin an AssignmentExpression

pub word_elim : (P : ℕ → Type 0) → P word.THIS → P word.NULL → P word.TRUE → P word.FALSE → P word.FUNCTION → P word.NEW → P word.DELETE → P word.VOID → P word.TYPEOF → (i : ℕ) → begins_word i ≡ true → P i
word_elim P a b c d e f g j k i h =
    or_cases _ (nat_eq i word.TYPEOF) h
    (λ h. or_cases _ (nat_eq i word.VOID) h
    (λ h. or_cases _ (nat_eq i word.DELETE) h
    (λ h. or_cases _ (nat_eq i word.NEW) h
    (λ h. or_cases _ (nat_eq i word.FUNCTION) h
    (λ h. or_cases _ (nat_eq i word.FALSE) h
    (λ h. or_cases _ (nat_eq i word.TRUE) h
    (λ h. or_cases (nat_eq i word.THIS) (nat_eq i word.NULL) h
    (λ h. subst P (sym (eqb-true i word.THIS h)) a)
    (λ h. subst P (sym (eqb-true i word.NULL h)) b))
    (λ h. subst P (sym (eqb-true i word.TRUE h)) c))
    (λ h. subst P (sym (eqb-true i word.FALSE h)) d))
    (λ h. subst P (sym (eqb-true i word.FUNCTION h)) e))
    (λ h. subst P (sym (eqb-true i word.NEW h)) f))
    (λ h. subst P (sym (eqb-true i word.DELETE h)) g))
    (λ h. subst P (sym (eqb-true i word.VOID h)) j))
    (λ h. subst P (sym (eqb-true i word.TYPEOF h)) k)

pub mark_elim : (P : ℕ → Type 0) → P mark.OPEN_PAREN → P mark.OPEN_BRACKET → P mark.OPEN_BRACE → P mark.PLUS → P mark.MINUS → P mark.NOT → P mark.BIT_NOT → P mark.INCREMENT → P mark.DECREMENT → (i : ℕ) → begins_mark i ≡ true → P i
mark_elim P a b c d e f g j k i h =
    or_cases _ (nat_eq i mark.DECREMENT) h
    (λ h. or_cases _ (nat_eq i mark.INCREMENT) h
    (λ h. or_cases _ (nat_eq i mark.BIT_NOT) h
    (λ h. or_cases _ (nat_eq i mark.NOT) h
    (λ h. or_cases _ (nat_eq i mark.MINUS) h
    (λ h. or_cases _ (nat_eq i mark.PLUS) h
    (λ h. or_cases _ (nat_eq i mark.OPEN_BRACE) h
    (λ h. or_cases (nat_eq i mark.OPEN_PAREN) (nat_eq i mark.OPEN_BRACKET) h
    (λ h. subst P (sym (eqb-true i mark.OPEN_PAREN h)) a)
    (λ h. subst P (sym (eqb-true i mark.OPEN_BRACKET h)) b))
    (λ h. subst P (sym (eqb-true i mark.OPEN_BRACE h)) c))
    (λ h. subst P (sym (eqb-true i mark.PLUS h)) d))
    (λ h. subst P (sym (eqb-true i mark.MINUS h)) e))
    (λ h. subst P (sym (eqb-true i mark.NOT h)) f))
    (λ h. subst P (sym (eqb-true i mark.BIT_NOT h)) g))
    (λ h. subst P (sym (eqb-true i mark.INCREMENT h)) j))
    (λ h. subst P (sym (eqb-true i mark.DECREMENT h)) k)

-- the first place is for a kind of which the test holds

abbrev pub OfKind : (Kind → Bool) → Wanted → Type 0
OfKind f (Exactly k) = f k ≡ true
OfKind f AnyWord = ⊥

abbrev pub Opens : (Kind → Bool) → List Piece → Type 0
Opens f [] = ⊥
Opens f (At s ∷ ps) = OfKind f s.kind
Opens f (Gap e ∷ ps) = ⊥
Opens f (Pass ∷ ps) = ⊥

pub opens_append : (f : Kind → Bool) (a b : List Piece) → Opens f a → Opens f (a ++ b)
opens_append f [] b h = absurd h
opens_append f (At s ∷ a) b h = h
opens_append f (Gap e ∷ a) b h = absurd h
opens_append f (Pass ∷ a) b h = absurd h

pub opens_from : (f : Kind → Bool) (n : ℕ) (a : List Piece) → Opens f a → Opens f (from n a)
opens_from f n [] h = absurd h
opens_from f n (At s ∷ a) h = h
opens_from f n (Gap e ∷ a) h = absurd h
opens_from f n (Pass ∷ a) h = absurd h

of_wanted : (f : Kind → Bool) (w : Wanted) (k : Kind) → OfKind f w → IsWanted w k → f k ≡ true
of_wanted f (Exactly j) k h e = ap f e ∙ h
of_wanted f AnyWord k h e = absurd h

-- what stands there is such
pub opens_first : (f : Kind → Bool) (ps : List Piece) (x : Marked) (w : List Marked) (n : Lexeme) → Opens f ps → Stands ps (x ∷ w) n → f x.lexeme.kind ≡ true
opens_first f [] x w n h k = absurd h
opens_first f (At s ∷ ps) x w n h k = of_wanted f s.kind x.lexeme.kind h k.0.kind
opens_first f (Gap e ∷ ps) x w n h k = absurd h
opens_first f (Pass ∷ ps) x w n h k = absurd h

pub opens_some : (f : Kind → Bool) (ps : List Piece) (w : List Marked) (n : Lexeme) → Opens f ps → Stands ps w n → 0 < length (lexemes w)
opens_some f [] w n h k = absurd h
opens_some f (At s ∷ ps) [] n h k = absurd k
opens_some f (At s ∷ ps) (x ∷ w) n h k = omega arith
opens_some f (Gap e ∷ ps) w n h k = absurd h
opens_some f (Pass ∷ ps) w n h k = absurd h

-- no first place is for a kind of which the test holds
pub not_begun : (f : Kind → Bool) (ps : List Piece) → begins_with f ps ≡ false → (x : Marked) (w : List Marked) (n : Lexeme) → Opens begins_assign ps → Stands ps (x ∷ w) n → f x.lexeme.kind ≡ false
not_begun f [] h x w n o q = absurd o
not_begun f (At s ∷ ps) h x w n o q = of_place s.kind x.lexeme.kind h o q.0.kind
  where
    of_place : (w : Wanted) (k : Kind) → is_wanted f w ≡ false → OfKind begins_assign w → IsWanted w k → f k ≡ false
    of_place (Exactly j) k h o e = ap f e ∙ h
    of_place AnyWord k h o e = absurd o
not_begun f (Gap e ∷ ps) h x w n o q = absurd o
not_begun f (Pass ∷ ps) h x w n o q = absurd o

prefix_begins : (op : ℕ) (is_word : Bool) → is_prefix_op op is_word ≡ true → begins_assign (op_kind op is_word) ≡ true
prefix_begins op true h =
    or_cases (nat_eq op word.DELETE || nat_eq op word.VOID) (nat_eq op word.TYPEOF) h
    (λ h. or_cases (nat_eq op word.DELETE) (nat_eq op word.VOID) h
    (λ h. subst (λ x. begins_word x ≡ true) (sym (eqb-true op word.DELETE h)) refl)
    (λ h. subst (λ x. begins_word x ≡ true) (sym (eqb-true op word.VOID h)) refl))
    (λ h. subst (λ x. begins_word x ≡ true) (sym (eqb-true op word.TYPEOF h)) refl)
prefix_begins op false h =
    or_cases (nat_eq op mark.PLUS || nat_eq op mark.MINUS || nat_eq op mark.BIT_NOT) (nat_eq op mark.NOT) h
    (λ h. or_cases (nat_eq op mark.PLUS || nat_eq op mark.MINUS) (nat_eq op mark.BIT_NOT) h
    (λ h. or_cases (nat_eq op mark.PLUS) (nat_eq op mark.MINUS) h
    (λ h. subst (λ x. begins_mark x ≡ true) (sym (eqb-true op mark.PLUS h)) refl)
    (λ h. subst (λ x. begins_mark x ≡ true) (sym (eqb-true op mark.MINUS h)) refl))
    (λ h. subst (λ x. begins_mark x ≡ true) (sym (eqb-true op mark.BIT_NOT h)) refl))
    (λ h. subst (λ x. begins_mark x ≡ true) (sym (eqb-true op mark.NOT h)) refl)

pub update_is : (P : ℕ → Type 0) → P mark.INCREMENT → P mark.DECREMENT → (op : ℕ) → is_update_op op ≡ true → P op
update_is P a b op h = by (bool_cases (nat_le op mark.INCREMENT))
  where
    low : mark.INCREMENT ≤ op
    low = leb-true mark.INCREMENT op (and_left (nat_le mark.INCREMENT op) (nat_le op mark.DECREMENT) h)

    high : op ≤ mark.DECREMENT
    high = leb-true op mark.DECREMENT (and_right (nat_le mark.INCREMENT op) (nat_le op mark.DECREMENT) h)

    above_it : nat_le op mark.INCREMENT ≡ false → op ≡ mark.DECREMENT
    above_it e = omega (arith, low, high, ne (λ x. absurd (true_false (sym (ap (λ y. nat_le y mark.INCREMENT) x) ∙ e))))
      where
        ne : (op ≡ mark.INCREMENT → ⊥) → mark.INCREMENT < op
        ne n = omega (arith, low, n)

    by : (nat_le op mark.INCREMENT ≡ true) ⊎ (nat_le op mark.INCREMENT ≡ false) → P op
    by (inl e) = subst P (sym (omega (arith, low, leb-true op mark.INCREMENT e))) a
    by (inr e) = subst P (sym (above_it e)) b

func_opens : (m : Mode) (d at : ℕ) (f : Function) → IsFuncExpression at f → ProperFunction m f → Opens begins_assign (print_func m.look d at f)
func_opens m d at (function form.Function start end name ps comma bare body) h k = refl
func_opens m d at (function form.Script start end name ps comma bare body) h k = absurd h
func_opens m d at (function form.Method start end name ps comma bare body) h k = absurd h
func_opens m d at (function form.Getter start end name ps comma bare body) h k = absurd h
func_opens m d at (function form.Setter start end name ps comma bare body) h k = absurd h
func_opens m d at (function form.Arrow start end name ps comma false body) h k = refl
func_opens m d at (function form.Arrow start end name no_params comma true body) h k = absurd k.2
func_opens m d at (function form.Arrow start end name (more_params n no_expr false no_params) comma true body) h k = refl
func_opens m d at (function form.Arrow start end name (more_params n no_expr true ps) comma true body) h k = absurd k.2
func_opens m d at (function form.Arrow start end name (more_params n no_expr false (more_params n2 v2 r2 ps)) comma true body) h k = absurd k.2
func_opens m d at (function form.Arrow start end name (more_params n (some_expr x) rest ps) comma true body) h k = absurd k.2

template_opens : (parts : Parts) → begins_assign (first_kind parts) ≡ true
template_opens no_parts = refl
template_opens (more_parts value behind rest) = refl

pub expr_opens : (m : Mode) (d : ℕ) (e : Expr) → Proper m e → Opens begins_assign (print m.look d e)
expr_opens m d (tree.This at) h = refl
expr_opens m d (tree.Name name) h = refl
expr_opens m d (tree.Null at) h = refl
expr_opens m d (tree.True at) h = refl
expr_opens m d (tree.False at) h = refl
expr_opens m d (tree.Number at value) h = refl
expr_opens m d (tree.Str at end w) h = refl
expr_opens m d (tree.Template at first parts) h = template_opens parts
expr_opens m d (tree.Array at is comma) h = refl
expr_opens m d (tree.Object at ps comma) h = refl
expr_opens m d (tree.Func at f) h = func_opens m d at f h.0 h.1
expr_opens m d (tree.Paren at inner) h = refl
expr_opens m d (tree.Chain head tails) h = opens_append begins_assign (print m.look d head) (print_tails m.look d tails) (expr_opens m d head h.1)
expr_opens m d (tree.New at callee args) h = refl
expr_opens m d (tree.Unary at op of is_word) h = prefix_begins op is_word h.0
expr_opens m d (tree.Update at op true of) h = update_is (λ x. begins_mark x ≡ true) refl refl op h.0
expr_opens m d (tree.Update at op false of) h = opens_append begins_assign (from at (print m.look d of)) _ (opens_from begins_assign at (print m.look d of) (expr_opens m d of h.2))
expr_opens m d (tree.Binary first rest) h = opens_append begins_assign (print m.look d first) (print_operands m.look d rest) (expr_opens m d first h.3)
expr_opens m d (tree.Cond test then_value else_value) h = opens_append begins_assign (print m.look d test) _ (expr_opens m d test h.1)
expr_opens m d (tree.Assign op target value) h = opens_append begins_assign (print m.look d target) _ (expr_opens m d target h.2)
expr_opens m d (tree.Comma no_exprs) h = absurd h.0
expr_opens m d (tree.Comma (more_exprs x xs)) h = opens_append begins_assign (print m.look (suc (above d)) x) (print_more m.look (above d) xs) (expr_opens m (suc (above d)) x h.1.1)

-- after a name that is first no colon stands

abbrev pub NotColon : Wanted → Type 0
NotColon (Exactly k) = is_mark mark.COLON k ≡ false
NotColon AnyWord = Unit {0}

abbrev pub NamePlace : Wanted → Type 0
NamePlace (Exactly k) = is_name k ≡ true
NamePlace AnyWord = ⊥

abbrev NextNot : List Piece → Type 0
NextNot [] = Unit {0}
NextNot (At s ∷ ps) = NotColon s.kind
NextNot (Gap e ∷ ps) = ⊥
NextNot (Pass ∷ ps) = ⊥

abbrev pub Second : List Piece → Type 0
Second [] = Unit {0}
Second (At s ∷ ps) = NamePlace s.kind → NextNot ps
Second (Gap e ∷ ps) = Unit {0}
Second (Pass ∷ ps) = Unit {0}

next_append : (a b : List Piece) → NextNot a → NextNot b → NextNot (a ++ b)
next_append [] b h k = k
next_append (At s ∷ a) b h k = h
next_append (Gap e ∷ a) b h k = absurd h
next_append (Pass ∷ a) b h k = absurd h

second_append : (f : Kind → Bool) (a b : List Piece) → Opens f a → Second a → NextNot b → Second (a ++ b)
second_append f [] b o h k = absurd o
second_append f (At s ∷ a) b o h k = λ n. next_append a b (h n) k
second_append f (Gap e ∷ a) b o h k = absurd o
second_append f (Pass ∷ a) b o h k = absurd o

second_from : (n : ℕ) (a : List Piece) → Second a → Second (from n a)
second_from n [] h = h
second_from n (At s ∷ a) h = h
second_from n (Gap e ∷ a) h = h
second_from n (Pass ∷ a) h = h

tails_next : (m : Mode) (d : ℕ) (ts : Tails) → NextNot (print_tails m.look d ts)
tails_next m d no_tails = tt
tails_next m d (more_tails (tree.Dot w) ts) = refl
tails_next m d (more_tails (tree.Index e) ts) = refl
tails_next m d (more_tails (tree.Call es comma) ts) = refl

not_colon : (op : ℕ) → (op ≡ mark.COLON → ⊥) → is_mark mark.COLON (kind.Mark op) ≡ false
not_colon op n = by (bool_cases (nat_eq op mark.COLON))
  where
    by : (nat_eq op mark.COLON ≡ true) ⊎ (nat_eq op mark.COLON ≡ false) → nat_eq op mark.COLON ≡ false
    by (inl e) = absurd (n (eqb-true op mark.COLON e))
    by (inr e) = e

op_not_colon : (op : ℕ) (is_word : Bool) → op_level op is_word < no_level → NotColon (Exactly (op_kind op is_word))
op_not_colon op true h = refl
op_not_colon op false h = not_colon op (λ e. absurd (omega (arith, h, ap mark_level e)))

operands_next : (m : Mode) (d : ℕ) (os : Operands) → operands_level os < no_level → NextNot (print_operands m.look d os)
operands_next m d no_operands h = tt
operands_next m d (more_operands op is_word value rest) h = op_not_colon op is_word h

more_next : (m : Mode) (d : ℕ) (es : Exprs) → NextNot (print_more m.look d es)
more_next m d no_exprs = tt
more_next m d (more_exprs x es) = refl

assign_not : (op : ℕ) → is_assign_op op ≡ true → op ≡ mark.COLON → ⊥
assign_not op h e = true_false (sym h ∙ ap is_assign_op e)

func_second : (m : Mode) (d at : ℕ) (f : Function) → IsFuncExpression at f → ProperFunction m f → Second (print_func m.look d at f)
func_second m d at (function form.Function start end name ps comma bare body) h k = λ n. absurd (false_true n)
func_second m d at (function form.Script start end name ps comma bare body) h k = absurd h
func_second m d at (function form.Method start end name ps comma bare body) h k = absurd h
func_second m d at (function form.Getter start end name ps comma bare body) h k = absurd h
func_second m d at (function form.Setter start end name ps comma bare body) h k = absurd h
func_second m d at (function form.Arrow start end name ps comma false body) h k = λ n. absurd (false_true n)
func_second m d at (function form.Arrow start end name no_params comma true body) h k = absurd k.2
func_second m d at (function form.Arrow start end name (more_params n no_expr false no_params) comma true body) h k = λ x. refl
func_second m d at (function form.Arrow start end name (more_params n no_expr true ps) comma true body) h k = absurd k.2
func_second m d at (function form.Arrow start end name (more_params n no_expr false (more_params n2 v2 r2 ps)) comma true body) h k = absurd k.2
func_second m d at (function form.Arrow start end name (more_params n (some_expr x) rest ps) comma true body) h k = absurd k.2

template_not : (parts : Parts) → is_name (first_kind parts) ≡ true → ⊥
template_not no_parts h = false_true h
template_not (more_parts value behind rest) h = false_true h

op_not_name : (op : ℕ) (is_word : Bool) → is_name (op_kind op is_word) ≡ true → ⊥
op_not_name op true h = false_true h
op_not_name op false h = false_true h

pub expr_second : (m : Mode) (d : ℕ) (e : Expr) → Proper m e → Second (print m.look d e)
expr_second m d (tree.This at) h = λ n. tt
expr_second m d (tree.Name name) h = λ n. tt
expr_second m d (tree.Null at) h = λ n. tt
expr_second m d (tree.True at) h = λ n. tt
expr_second m d (tree.False at) h = λ n. tt
expr_second m d (tree.Number at value) h = λ n. tt
expr_second m d (tree.Str at end w) h = λ n. tt
expr_second m d (tree.Template at first parts) h = λ n. absurd (template_not parts n)
expr_second m d (tree.Array at is comma) h = λ n. absurd (false_true n)
expr_second m d (tree.Object at ps comma) h = λ n. absurd (false_true n)
expr_second m d (tree.Func at f) h = func_second m d at f h.0 h.1
expr_second m d (tree.Paren at inner) h = λ n. absurd (false_true n)
expr_second m d (tree.Chain head tails) h = second_append begins_assign (print m.look d head) (print_tails m.look d tails) (expr_opens m d head h.1) (expr_second m d head h.1) (tails_next m d tails)
expr_second m d (tree.New at callee args) h = λ n. absurd (false_true n)
expr_second m d (tree.Unary at op of is_word) h = λ n. absurd (op_not_name op is_word n)
expr_second m d (tree.Update at op true of) h = λ n. absurd (false_true n)
expr_second m d (tree.Update at op false of) h = second_append begins_assign (from at (print m.look d of)) _ (opens_from begins_assign at (print m.look d of) (expr_opens m d of h.2)) (second_from at (print m.look d of) (expr_second m d of h.2)) (not_colon op (update_is (λ x. x ≡ mark.COLON → ⊥) (λ e. absurd (omega (arith, e))) (λ e. absurd (omega (arith, e))) op h.0))
expr_second m d (tree.Binary first rest) h = second_append begins_assign (print m.look d first) (print_operands m.look d rest) (expr_opens m d first h.3) (expr_second m d first h.3) (operands_next m d rest h.1)
expr_second m d (tree.Cond test then_value else_value) h = second_append begins_assign (print m.look d test) _ (expr_opens m d test h.1) (expr_second m d test h.1) refl
expr_second m d (tree.Assign op target value) h = second_append begins_assign (print m.look d target) _ (expr_opens m d target h.2) (expr_second m d target h.2) (not_colon op (assign_not op h.0))
expr_second m d (tree.Comma no_exprs) h = absurd h.0
expr_second m d (tree.Comma (more_exprs x xs)) h = second_append begins_assign (print m.look (suc (above d)) x) (print_more m.look (above d) xs) (expr_opens m (suc (above d)) x h.1.1) (expr_second m (suc (above d)) x h.1.1) (more_next m (above d) xs)

any_not_colon : (k : Kind) → is_any_word k ≡ true → is_mark mark.COLON k ≡ false
any_not_colon kind.Name h = refl
any_not_colon (kind.Word i) h = refl
any_not_colon kind.Number h = refl
any_not_colon kind.Str h = refl
any_not_colon kind.TemplateWhole h = refl
any_not_colon kind.TemplateHead h = refl
any_not_colon kind.TemplateMiddle h = refl
any_not_colon kind.TemplateTail h = refl
any_not_colon (kind.Mark i) h = absurd (false_true h)
any_not_colon kind.Bad h = refl
any_not_colon kind.End h = refl

colon_not : (w : Wanted) (k : Kind) → NotColon w → IsWanted w k → is_mark mark.COLON k ≡ false
colon_not (Exactly j) k h e = ap (is_mark mark.COLON) e ∙ h
colon_not AnyWord k h e = any_not_colon k e

next_not : (ps : List Piece) (w : List Marked) (n : Lexeme) → NextNot ps → Stands ps w n → is_mark mark.COLON n.kind ≡ false → is_mark mark.COLON (first_of (lexemes w) n).kind ≡ false
next_not [] [] n h k c = c
next_not [] (x ∷ w) n h k c = absurd k
next_not (At s ∷ ps) [] n h k c = absurd k
next_not (At s ∷ ps) (x ∷ w) n h k c = colon_not s.kind x.lexeme.kind h k.0.kind
next_not (Gap e ∷ ps) w n h k c = absurd h
next_not (Pass ∷ ps) w n h k c = absurd h

name_place : (w : Wanted) (k : Kind) → OfKind begins_assign w → IsWanted w k → is_name k ≡ true → NamePlace w
name_place (Exactly j) k o e h = ap is_name (sym e) ∙ h
name_place AnyWord k o e h = absurd o

-- what stands after a name that is first is no colon, if what follows all is none
pub second_first : (ps : List Piece) (x : Marked) (w : List Marked) (n : Lexeme) → Opens begins_assign ps → Second ps → Stands ps (x ∷ w) n → is_name x.lexeme.kind ≡ true → is_mark mark.COLON n.kind ≡ false → is_mark mark.COLON (first_of (lexemes w) n).kind ≡ false
second_first [] x w n o h k e c = absurd k
second_first (At s ∷ ps) x w n o h k e c = next_not ps w n (h (name_place s.kind x.lexeme.kind o k.0.kind e)) k.2 c
second_first (Gap g ∷ ps) x w n o h k e c = absurd o
second_first (Pass ∷ ps) x w n o h k e c = absurd o
