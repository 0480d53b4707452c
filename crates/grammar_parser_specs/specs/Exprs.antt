-- The parser of expressions and functions, as functions on lists of lexemes: this project's own form of the grammar of
-- ECMA-262, 12th edition, clauses 13 and 15.
--
-- Every function takes an `Env`: the calls that count for the depth, with one room less, and how a function's braced body
-- is read. So the only recursion is `parts`, on the room that is left for depth.
use Rattle.std.specs.Prelude.{ℕ, zero, suc, List, [], ◌∷◌, ◌++◌, Bool, true, false, if◌then◌else◌, nat_le, nat_eq, not, ◌&&◌, ◌||◌, Option}
use Rattle.std.specs.Prelude.{Some, None, is_none, length, take, ◌-◌}
use Rattle.script_grammar.specs.declared.token.Kind.{Kind}
use Rattle.script_grammar.specs.declared.token.Kind.TheVariants as kind
use Rattle.script_grammar.specs.declared.token.mark.TheConstants as mark
use Rattle.script_grammar.specs.declared.token.word.TheConstants as word
use Rattle.script_grammar.specs.declared.token.FuncForm.{FuncForm}
use Rattle.script_grammar.specs.declared.token.FuncForm.TheVariants as form
use Rattle.script_grammar.specs.Lexeme.{Lexeme}
use Rattle.script_grammar.specs.Kinds.{is_mark, is_word, is_name, is_number, is_str, is_head, is_middle, is_tail, is_any_word, is_get}
use Rattle.script_grammar.specs.Kinds.{is_set, is_assign_mark, kind_level, is_prefix, is_update}
use Rattle.script_grammar.specs.Pieces.{Opener, paren, brace, open_behind}
use Rattle.script_grammar.specs.Proper.{rank, left_rank, update_rank}
use Rattle.script_grammar.specs.Tree.{Named, Expr, Tail, Key, Prop, Function, function, Body}
use Rattle.script_grammar.specs.Tree as tree
use Rattle.script_grammar.specs.TreeLists.{Args, Operand, Part, Param, exprs_of, maybe_args_of, parts_of, items_of, operands_of, tails_of}
use Rattle.script_grammar.specs.TreeLists.{props_of, params_of}
use Rattle.grammar_parser_specs.specs.Parser.{Reply, Read, Bad, Deep, Parser, head_of, rest_of, ret, bad, bind, peek, step, when, note}
use Rattle.grammar_parser_specs.specs.Parser.{no_room, Turn, Again, Stop, Many, stopped, loop, led}

-- What a call that counts for the depth reads: an AssignmentExpression, with or without the operator `in`; a prefix operator
-- and its operand; `new` and what belongs to it; a parameter in an arrow's parentheses; a rest parameter there.
pub data Call : Type 0 where
  AnAssign : Bool → Call
  APrefix : Call
  ANew : Call
  AParam : Call
  ARest : Call

abbrev pub Result : Call → Type 0
Result (AnAssign with_in) = Expr
Result APrefix = Expr
Result ANew = Expr
Result AParam = Param
Result ARest = Named

abbrev pub Calls : Type 0
Calls = (c : Call) → Parser (Result c)

-- a function's braced body, and the offset of its end
pub record BodyRead : Type 0 where
  pub body : Body
  pub end : ℕ

-- How a braced body is read: by the function's form, the offset where it starts, and whether no parameter has an
-- initializer or a rest mark.
abbrev pub BodyParser : Type 0
BodyParser = FuncForm → ℕ → Bool → Parser BodyRead

pub record Env : Type 0 where
  pub sub : Calls
  pub body : BodyParser

-- what may begin an AssignmentExpression

abbrev pub begins_word : ℕ → Bool
begins_word i =
    nat_eq i word.THIS || nat_eq i word.NULL || nat_eq i word.TRUE || nat_eq i word.FALSE || nat_eq i word.FUNCTION
    || nat_eq i word.NEW || nat_eq i word.DELETE || nat_eq i word.VOID || nat_eq i word.TYPEOF

abbrev pub begins_mark : ℕ → Bool
begins_mark i =
    nat_eq i mark.OPEN_PAREN || nat_eq i mark.OPEN_BRACKET || nat_eq i mark.OPEN_BRACE || nat_eq i mark.PLUS
    || nat_eq i mark.MINUS || nat_eq i mark.NOT || nat_eq i mark.BIT_NOT || nat_eq i mark.INCREMENT || nat_eq i mark.DECREMENT

abbrev pub begins_assign : Kind → Bool
begins_assign kind.Name = true
begins_assign kind.Number = true
begins_assign kind.Str = true
begins_assign kind.TemplateWhole = true
begins_assign kind.TemplateHead = true
begins_assign (kind.Word i) = begins_word i
begins_assign (kind.Mark i) = begins_mark i
begins_assign _ = false

-- tokens that must stand here

unfoldable pub expect : ℕ → Parser (Unit {0})
expect m = peek (λ t. when (is_mark m t.kind) (step (ret tt)) bad)

abbrev pub named : Lexeme → Named
named t = record { text = t.text; at = t.start }

unfoldable pub name_of : Parser Named
name_of = peek (λ t. when (is_name t.kind) (step (ret (named t))) bad)

-- looks at the first two lexemes
abbrev pub peek_two : {A : Type 0} → (Lexeme → Lexeme → Parser A) → Parser A
peek_two f ts = f (head_of ts) (head_of (rest_of ts)) ts

-- an Expression: an AssignmentExpression, and others after commas

abbrev pub comma_case : Expr → List Expr → Expr
comma_case e [] = e
comma_case e (f ∷ fs) = tree.Comma (exprs_of (e ∷ f ∷ fs))

unfoldable pub more_turn : Env → Bool → Parser (Turn Expr (Unit {0}))
more_turn v w = peek (λ t. when (is_mark mark.COMMA t.kind) (step (bind (v.sub (AnAssign w)) (λ e. ret (Again e)))) (ret (Stop tt)))

unfoldable pub expr_of : Env → Bool → Parser Expr
expr_of v w = bind (v.sub (AnAssign w)) (λ e. bind (loop (more_turn v w)) (λ m. ret (comma_case e m.items)))

-- arguments, after the opening parenthesis; a comma may end them

unfoldable pub args_next : Env → Parser (Turn Expr Bool)
args_next v = peek (λ t. when (is_mark mark.CLOSE_PAREN t.kind) (ret (Stop true)) (bind (v.sub (AnAssign true)) (λ e. ret (Again e))))

unfoldable pub args_turn : Env → Parser (Turn Expr Bool)
args_turn v = peek (λ t. when (is_mark mark.COMMA t.kind) (step (args_next v)) (ret (Stop false)))

unfoldable pub more_args : Env → Parser (Many Expr Bool)
more_args v = peek (λ t.
    when (is_mark mark.CLOSE_PAREN t.kind)
    (ret (stopped false))
    (bind (v.sub (AnAssign true)) (led (args_turn v))))

unfoldable pub args_of : Env → Parser Args
args_of v = bind (more_args v) (λ m. bind (expect mark.CLOSE_PAREN) (λ _. ret (record { items = m.items; comma = m.last })))

-- an array, after the opening bracket: each item with the comma after it, and the last one without

unfoldable pub item_end : Expr → Parser (Turn (Option Expr) (Option Expr))
item_end e = peek (λ t. when (is_mark mark.COMMA t.kind) (step (ret (Again (Some e)))) (ret (Stop (Some e))))

unfoldable pub item_turn : Env → Parser (Turn (Option Expr) (Option Expr))
item_turn v = peek (λ t.
    when (is_mark mark.CLOSE_BRACKET t.kind)
    (ret (Stop None))
    (when (is_mark mark.COMMA t.kind) (step (ret (Again None))) (bind (v.sub (AnAssign true)) item_end)))

abbrev pub with_last : {A : Type 0} → List A → Option A → List A
with_last xs None = xs
with_last xs (Some x) = xs ++ x ∷ []

abbrev pub some_last : Option Expr → List (Option Expr)
some_last None = []
some_last (Some e) = Some e ∷ []

abbrev pub has_items : {A : Type 0} → List A → Bool
has_items [] = false
has_items (x ∷ xs) = true

abbrev pub array_case : ℕ → List (Option Expr) → Option Expr → Expr
array_case at items last = tree.Array at (items_of (items ++ some_last last)) (is_none last && has_items items)

unfoldable pub array_of : Env → ℕ → Parser Expr
array_of v at = bind (loop (item_turn v)) (λ m. bind (expect mark.CLOSE_BRACKET) (λ _. ret (array_case at m.items m.last)))

-- a template, after its head

abbrev pub part : Expr → Lexeme → Part
part e t = record { value = e; behind = t.text }

unfoldable pub part_end : Expr → Parser (Turn Part Part)
part_end e = peek (λ t.
    when (is_middle t.kind) (step (ret (Again (part e t))))
    (when (is_tail t.kind) (step (ret (Stop (part e t)))) bad))

unfoldable pub part_turn : Env → Parser (Turn Part Part)
part_turn v = bind (expr_of v true) part_end

unfoldable pub template_of : Env → ℕ → List ℕ → Parser Expr
template_of v at first = bind (loop (part_turn v)) (λ m. ret (tree.Template at first (parts_of (m.items ++ m.last ∷ []))))

-- The parameters of a function that is no arrow, after the opening parenthesis. They end without a comma, after a comma,
-- or with a rest parameter.

pub data ParamsEnd : Type 0 where
  Plain : ParamsEnd
  Trailing : ParamsEnd
  Rest : Named → ParamsEnd

pub record Head : Type 0 where
  pub start : ℕ
  pub params : List Param
  pub comma : Bool
  pub bare : Bool

unfoldable pub initializer_of : Env → Parser (Option Expr)
initializer_of v = peek (λ t. when (is_mark mark.ASSIGN t.kind) (step (bind (v.sub (AnAssign true)) (λ e. ret (Some e)))) (ret None))

abbrev pub param : Named → Option Expr → Param
param n value = record { name = n; value = value; rest = false }

unfoldable pub param_of : Env → Parser Param
param_of v = bind name_of (λ n. bind (initializer_of v) (λ o. ret (param n o)))

abbrev pub rest_end : Parser (Turn Param ParamsEnd)
rest_end = bind name_of (λ n. ret (Stop (Rest n)))

-- a parameter or a rest parameter
unfoldable pub param_turn : Env → Parser (Turn Param ParamsEnd)
param_turn v = peek (λ t. when (is_mark mark.ELLIPSIS t.kind) (step rest_end) (bind (param_of v) (λ p. ret (Again p))))

-- after a comma
unfoldable pub params_next : Env → Parser (Turn Param ParamsEnd)
params_next v = peek (λ t. when (is_mark mark.CLOSE_PAREN t.kind) (ret (Stop Trailing)) (param_turn v))

unfoldable pub params_turn : Env → Parser (Turn Param ParamsEnd)
params_turn v = peek (λ t. when (is_mark mark.COMMA t.kind) (step (params_next v)) (ret (Stop Plain)))

-- the first parameter, and the others
abbrev pub params_led : Parser (Turn Param ParamsEnd) → Turn Param ParamsEnd → Parser (Many Param ParamsEnd)
params_led turn (Again p) = led turn p
params_led turn (Stop e) = ret (stopped e)

unfoldable pub more_params : Env → Parser (Many Param ParamsEnd)
more_params v = peek (λ t.
    when (is_mark mark.CLOSE_PAREN t.kind)
    (ret (stopped Plain))
    (bind (param_turn v) (params_led (params_turn v))))

abbrev pub rest_param : Named → Param
rest_param n = record { name = n; value = None; rest = true }

abbrev pub ended_params : List Param → ParamsEnd → List Param
ended_params ps Plain = ps
ended_params ps Trailing = ps
ended_params ps (Rest n) = ps ++ rest_param n ∷ []

abbrev pub is_trailing : ParamsEnd → Bool
is_trailing Trailing = true
is_trailing _ = false

abbrev pub head_case : ℕ → Many Param ParamsEnd → Head
head_case start m = record { start = start; params = ended_params m.items m.last; comma = is_trailing m.last; bare = false }

unfoldable pub listed_params : Env → ℕ → Parser Head
listed_params v start = bind (more_params v) (λ m. bind (expect mark.CLOSE_PAREN) (λ _. ret (head_case start m)))

abbrev pub no_params : ℕ → Parser Head
no_params start = bind (expect mark.CLOSE_PAREN) (λ _. ret (record { start = start; params = []; comma = false; bare = false }))

abbrev pub one_param : Env → ℕ → Parser Head
one_param v start = bind (param_of v) (λ p. bind (expect mark.CLOSE_PAREN)
    (λ _. ret (record { start = start; params = p ∷ []; comma = false; bare = false })))

abbrev pub is_getter : FuncForm → Bool
is_getter form.Getter = true
is_getter _ = false

abbrev pub is_setter : FuncForm → Bool
is_setter form.Setter = true
is_setter _ = false

-- after the opening parenthesis, which starts there
abbrev pub form_params : Env → FuncForm → ℕ → Parser Head
form_params v f start = when (is_getter f) (no_params start) (when (is_setter f) (one_param v start) (listed_params v start))

unfoldable pub params_head : Env → FuncForm → Parser Head
params_head v f = peek (λ t. when (is_mark mark.OPEN_PAREN t.kind) (step (form_params v f t.start)) bad)

-- no parameter has an initializer or a rest mark
abbrev pub is_simple : List Param → Bool
is_simple [] = true
is_simple (p ∷ ps) = is_none p.value && not p.rest && is_simple ps

abbrev pub function_case : FuncForm → Option Named → Head → BodyRead → Function
function_case f name h b = function f h.start b.end name (params_of h.params) h.comma h.bare b.body

-- a function that is no arrow, from its parameters on
unfoldable pub function_of : Env → FuncForm → Option Named → Parser Function
function_of v f name = bind (params_head v f) (λ h. bind (v.body f h.start (is_simple h.params)) (λ b. ret (function_case f name h b)))

-- a function expression, after its word

unfoldable pub maybe_name : Parser (Option Named)
maybe_name = peek (λ t. when (is_name t.kind) (step (ret (Some (named t)))) (ret None))

unfoldable pub func_of : Env → ℕ → Parser Expr
func_of v at = bind maybe_name (λ n. bind (function_of v form.Function n) (λ f. ret (tree.Func at f)))

-- the properties of an object

unfoldable pub computed_of : Env → Parser Key
computed_of v = bind (v.sub (AnAssign true)) (λ e. bind (expect mark.CLOSE_BRACKET) (λ _. ret (tree.ComputedKey e)))

unfoldable pub key_of : Env → Parser Key
key_of v = peek (λ t.
    when (is_any_word t.kind) (step (ret (tree.WordKey (named t))))
    (when (is_str t.kind) (step (ret (tree.StrKey (named t))))
    (when (is_number t.kind) (step (ret (tree.NumberKey t.start t.number)))
    (when (is_mark mark.OPEN_BRACKET t.kind) (step (computed_of v)) bad))))

-- after a key: a value or a method
unfoldable pub keyed_of : Env → Key → Parser Prop
keyed_of v k = peek (λ t.
    when (is_mark mark.COLON t.kind) (step (bind (v.sub (AnAssign true)) (λ e. ret (tree.Pair k e))))
    (when (is_mark mark.OPEN_PAREN t.kind) (bind (function_of v form.Method None) (λ f. ret (tree.Method k f))) bad))

abbrev pub begins_value : Kind → Bool
begins_value k = is_mark mark.COLON k || is_mark mark.OPEN_PAREN k

-- after a name that is a key: a value, a method, or nothing
unfoldable pub short_of : Env → Named → Parser Prop
short_of v n = peek (λ t. when (begins_value t.kind) (keyed_of v (tree.WordKey n)) (ret (tree.Short n)))

unfoldable pub getter_of : Env → Parser Prop
getter_of v = bind (key_of v) (λ k. bind (function_of v form.Getter None) (λ f. ret (tree.Get k f)))

unfoldable pub setter_of : Env → Parser Prop
setter_of v = bind (key_of v) (λ k. bind (function_of v form.Setter None) (λ f. ret (tree.Set k f)))

-- what stands after a name that is a key of its own
abbrev pub ends_key : Kind → Bool
ends_key k = is_mark mark.COMMA k || is_mark mark.CLOSE_BRACE k || begins_value k

-- after `get` or `set`, which may be a key of its own
unfoldable pub accessor_of : Env → Named → Parser Prop → Parser Prop
accessor_of v n f = peek (λ t. when (ends_key t.kind) (short_of v n) f)

abbrev pub name_prop : Env → Lexeme → Parser Prop
name_prop v t =
    when (is_get t.role) (accessor_of v (named t) (getter_of v))
    (when (is_set t.role) (accessor_of v (named t) (setter_of v)) (short_of v (named t)))

unfoldable pub prop_of : Env → Parser Prop
prop_of v = peek (λ t. when (is_name t.kind) (step (name_prop v t)) (bind (key_of v) (keyed_of v)))

unfoldable pub props_next : Env → Parser (Turn Prop Bool)
props_next v = peek (λ t. when (is_mark mark.CLOSE_BRACE t.kind) (ret (Stop true)) (bind (prop_of v) (λ p. ret (Again p))))

unfoldable pub props_turn : Env → Parser (Turn Prop Bool)
props_turn v = peek (λ t. when (is_mark mark.COMMA t.kind) (step (props_next v)) (ret (Stop false)))

unfoldable pub more_props : Env → Parser (Many Prop Bool)
more_props v = peek (λ t.
    when (is_mark mark.CLOSE_BRACE t.kind)
    (ret (stopped false))
    (bind (prop_of v) (led (props_turn v))))

unfoldable pub object_of : Env → ℕ → Parser Expr
object_of v at = bind (more_props v) (λ m. bind (expect mark.CLOSE_BRACE) (λ _. ret (tree.Object at (props_of m.items) m.last)))

-- A parenthesized expression, after the parenthesis. Where an arrow's parameters may stand there, but none do, some texts
-- can still only be parameters: nothing, a comma at the end, or `...`, all after items of the form of a parameter. Then the
-- text is refused at the token that is not the rest of the parameters and `=>`.

-- the form of a parameter: a name, and after it `,`, `)` or `=`
abbrev pub is_param_form : Lexeme → Lexeme → Bool
is_param_form t u = is_name t.kind && (is_mark mark.COMMA u.kind || is_mark mark.CLOSE_PAREN u.kind || is_mark mark.ASSIGN u.kind)

abbrev pub paren_case : Expr → List Expr → Expr
paren_case e es = comma_case e es

-- items without more ado
unfoldable pub items_from : Env → Parser (List Expr)
items_from v = bind (v.sub (AnAssign true)) (λ e. bind (loop (more_turn v true)) (λ m. ret (e ∷ m.items)))

-- a closing parenthesis, after which only an arrow's mark can stand
abbrev pub doomed : {A : Type 0} → Parser A
doomed = bind (expect mark.CLOSE_PAREN) (λ _. bad)

unfoldable pub doomed_rest : {A : Type 0} → Env → Parser A
doomed_rest v = bind (v.sub ARest) (λ _. doomed)

unfoldable pub lead_end : Expr → Parser (Turn Expr (List Expr))
lead_end e = peek (λ t. when (is_mark mark.COMMA t.kind) (step (ret (Again e))) (ret (Stop (e ∷ []))))

unfoldable pub lead_item : Env → Parser (Turn Expr (List Expr))
lead_item v = peek_two (λ t u.
    when (is_param_form t u) (bind (v.sub (AnAssign true)) lead_end) (bind (items_from v) (λ es. ret (Stop es))))

unfoldable pub lead_turn : Env → Parser (Turn Expr (List Expr))
lead_turn v = peek (λ t.
    when (is_mark mark.CLOSE_PAREN t.kind) doomed
    (when (is_mark mark.ELLIPSIS t.kind) (doomed_rest v) (lead_item v)))

unfoldable pub lead_items : Env → Parser (List Expr)
lead_items v = bind (loop (lead_turn v)) (λ m. ret (m.items ++ m.last))

abbrev pub list_case : List Expr → Expr
list_case [] = tree.Comma (exprs_of [])
list_case (e ∷ es) = comma_case e es

unfoldable pub paren_of : Env → Bool → ℕ → Parser Expr
paren_of v heads at = bind (when heads (lead_items v) (items_from v)) (λ es. bind (expect mark.CLOSE_PAREN) (λ _. ret (tree.Paren at (list_case es))))

-- a PrimaryExpression; the flag says whether an arrow's parameters may stand here

abbrev pub is_word_atom : ℕ → Bool
is_word_atom i = nat_eq i word.THIS || nat_eq i word.NULL || nat_eq i word.TRUE || nat_eq i word.FALSE

-- a PrimaryExpression of one token
abbrev pub is_atom : Kind → Bool
is_atom kind.Name = true
is_atom kind.Number = true
is_atom kind.Str = true
is_atom kind.TemplateWhole = true
is_atom (kind.Word i) = is_word_atom i
is_atom _ = false

abbrev pub word_atom : ℕ → ℕ → Expr
word_atom i at =
    if nat_eq i word.THIS then tree.This at else
    if nat_eq i word.NULL then tree.Null at else
    if nat_eq i word.TRUE then tree.True at else tree.False at

abbrev pub atom_case : Kind → Lexeme → Expr
atom_case kind.Name t = tree.Name (named t)
atom_case kind.Number t = tree.Number t.start t.number
atom_case kind.Str t = tree.Str t.start t.end t.text
atom_case (kind.Word i) t = word_atom i t.start
atom_case _ t = tree.Template t.start t.text (parts_of [])

unfoldable pub prim_of : Env → Bool → Parser Expr
prim_of v heads = peek (λ t.
    when (is_atom t.kind) (step (ret (atom_case t.kind t)))
    (when (is_mark mark.OPEN_PAREN t.kind) (step (paren_of v heads t.start))
    (when (is_word word.FUNCTION t.kind) (step (func_of v t.start))
    (when (is_mark mark.OPEN_BRACKET t.kind) (step (array_of v t.start))
    (when (is_mark mark.OPEN_BRACE t.kind) (step (object_of v t.start))
    (when (is_head t.kind) (step (template_of v t.start t.text)) bad))))))

-- members and calls

unfoldable pub dot_of : Parser Tail
dot_of = peek (λ t. when (is_any_word t.kind) (step (ret (tree.Dot t.text))) bad)

unfoldable pub index_of : Env → Parser Tail
index_of v = bind (expr_of v true) (λ e. bind (expect mark.CLOSE_BRACKET) (λ _. ret (tree.Index e)))

abbrev pub again : {A B : Type 0} → A → Parser (Turn A B)
again a = ret (Again a)

-- a member, or else
abbrev pub member_or : Env → Lexeme → Parser (Turn Tail (Unit {0})) → Parser (Turn Tail (Unit {0}))
member_or v t f =
    when (is_mark mark.DOT t.kind) (step (bind dot_of again))
    (when (is_mark mark.OPEN_BRACKET t.kind) (step (bind (index_of v) again)) f)

unfoldable pub member_turn : Env → Parser (Turn Tail (Unit {0}))
member_turn v = peek (λ t. member_or v t (ret (Stop tt)))

unfoldable pub call_of : Env → Parser Tail
call_of v = bind (args_of v) (λ a. ret (tree.Call (exprs_of a.items) a.comma))

unfoldable pub tail_turn : Env → Parser (Turn Tail (Unit {0}))
tail_turn v = peek (λ t. member_or v t (when (is_mark mark.OPEN_PAREN t.kind) (step (bind (call_of v) again)) (ret (Stop tt))))

abbrev pub chain_case : Expr → List Tail → Expr
chain_case e [] = e
chain_case e (t ∷ ts) = tree.Chain e (tails_of (t ∷ ts))

-- `new` with its arguments, or a primary
unfoldable pub new_or_prim : Env → Bool → Parser Expr
new_or_prim v heads = peek (λ t. when (is_word word.NEW t.kind) (v.sub ANew) (prim_of v heads))

-- what may begin a chain: a primary, or a `new` with arguments
abbrev pub is_chain_head : Expr → Bool
is_chain_head e = nat_le (rank e) 1

abbrev pub chain_of : Parser (Turn Tail (Unit {0})) → Expr → Parser Expr
chain_of turn e = when (is_chain_head e) (bind (loop turn) (λ m. ret (chain_case e m.items))) (ret e)

-- arguments, or none
unfoldable pub new_args : Env → Parser (Option Args)
new_args v = peek (λ t. when (is_mark mark.OPEN_PAREN t.kind) (step (bind (args_of v) (λ a. ret (Some a)))) (ret None))

-- What `new` makes, where the word starts there: members of what may begin a chain, and arguments; or a `new` without
-- arguments, after which none stand.
unfoldable pub new_from : Env → ℕ → Expr → Parser Expr
new_from v at e =
    when (is_chain_head e)
    (bind (loop (member_turn v)) (λ m. bind (new_args v) (λ a. ret (tree.New at (chain_case e m.items) (maybe_args_of a)))))
    (ret (tree.New at e (maybe_args_of None)))

unfoldable pub new_of : Env → Parser Expr
new_of v = peek (λ t. when (is_word word.NEW t.kind) (step (bind (new_or_prim v false) (new_from v t.start))) bad)

-- a LeftHandSideExpression
unfoldable pub left_of : Env → Bool → Parser Expr
left_of v heads = bind (new_or_prim v heads) (chain_of (tail_turn v))

-- `++` or `--` after an operand that starts there, on its line
abbrev pub mark_of : Kind → ℕ
mark_of (kind.Mark i) = i
mark_of (kind.Word i) = i
mark_of _ = 0

abbrev pub is_word_kind : Kind → Bool
is_word_kind (kind.Word i) = true
is_word_kind _ = false

unfoldable pub postfix_of : ℕ → Expr → Parser Expr
postfix_of at e = peek (λ t. when (is_update t.kind && not t.after_line) (step (ret (tree.Update at (mark_of t.kind) false e))) (ret e))

unfoldable pub update_of : Env → Bool → Parser Expr
update_of v heads = peek (λ t. bind (left_of v heads) (postfix_of t.start))

-- a UnaryExpression
unfoldable pub unary_of : Env → Bool → Parser Expr
unary_of v heads = peek (λ t. when (is_prefix t.kind || is_update t.kind) (v.sub APrefix) (update_of v heads))

-- a prefix operator and its operand
unfoldable pub prefix_of : Env → Parser Expr
prefix_of v = peek (λ t.
    when (is_prefix t.kind) (step (bind (unary_of v false) (λ e. ret (tree.Unary t.start (mark_of t.kind) e (is_word_kind t.kind)))))
    (when (is_update t.kind) (step (bind (unary_of v false) (λ e. ret (tree.Update t.start (mark_of t.kind) true e)))) bad))

-- Binary operators. A level is a list of operands.

abbrev pub operand : Lexeme → Expr → Operand
operand t e = record { op = mark_of t.kind; is_word = is_word_kind t.kind; value = e }

abbrev pub binary_case : Expr → List Operand → Expr
binary_case e [] = e
binary_case e (o ∷ os) = tree.Binary e (operands_of (o ∷ os))

-- The operators of a level; without `in` where it is left out.
abbrev pub is_op : Bool → ℕ → Kind → Bool
is_op w n k = nat_eq (kind_level k) n && (w || not (is_word word.IN k))

-- A chain of `**`: after an operand that is an UpdateExpression another may follow.

abbrev pub is_update_expr : Expr → Bool
is_update_expr e = nat_le (rank e) update_rank

abbrev pub power_operand : Lexeme → Expr → Turn Operand (Option Operand)
power_operand t e = if is_update_expr e then Again (operand t e) else Stop (Some (operand t e))

unfoldable pub power_turn : Env → Parser (Turn Operand (Option Operand))
power_turn v = peek (λ t. when (is_mark mark.POWER t.kind) (step (bind (unary_of v false) (λ e. ret (power_operand t e)))) (ret (Stop None)))

unfoldable pub power_of : Env → Bool → Parser Expr
power_of v heads = bind (unary_of v heads) (λ e.
    when (is_update_expr e) (bind (loop (power_turn v)) (λ m. ret (binary_case e (with_last m.items m.last)))) (ret e))

unfoldable pub op_turn : Bool → ℕ → Parser Expr → Parser (Turn Operand (Unit {0}))
op_turn w n lower = peek (λ t. when (is_op w n t.kind) (step (bind lower (λ e. ret (Again (operand t e))))) (ret (Stop tt)))

-- the further operands of a level, after the first
abbrev pub operands_from : Bool → ℕ → Parser Expr → Expr → Parser Expr
operands_from w n lower e = bind (loop (op_turn w n lower)) (λ m. ret (binary_case e m.items))

-- the levels up to `||`
unfoldable pub level_of : Env → Bool → ℕ → Bool → Parser Expr
level_of v w zero heads = power_of v heads
level_of v w (suc n) heads = bind (level_of v w n heads) (operands_from w (suc n) (level_of v w n false))

abbrev pub bit_or_level : ℕ
bit_or_level = 8

abbrev pub and_level : ℕ
and_level = 9

abbrev pub or_level : ℕ
or_level = 10

abbrev pub coalesce_level : ℕ
coalesce_level = 11

-- a ShortCircuitExpression: a list of `??`, or of `||` over `&&`, and not both

unfoldable pub or_from : Env → Bool → Expr → Parser Expr
or_from v w e = bind (operands_from w and_level (level_of v w bit_or_level false) e) (operands_from w or_level (level_of v w and_level false))

unfoldable pub short_circuit : Env → Bool → Bool → Parser Expr
short_circuit v w heads = bind (level_of v w bit_or_level heads) (λ e. peek (λ t.
    when (is_op w coalesce_level t.kind) (operands_from w coalesce_level (level_of v w bit_or_level false) e) (or_from v w e)))

-- a ConditionalExpression

unfoldable pub branches_of : Env → Bool → Expr → Parser Expr
branches_of v w e = bind (v.sub (AnAssign true)) (λ y. bind (expect mark.COLON) (λ _. bind (v.sub (AnAssign w)) (λ n. ret (tree.Cond e y n))))

unfoldable pub cond_tail : Env → Bool → Expr → Parser Expr
cond_tail v w e = peek (λ t. when (is_mark mark.QUESTION t.kind) (step (branches_of v w e)) (ret e))

unfoldable pub cond_of : Env → Bool → Bool → Parser Expr
cond_of v w heads = bind (short_circuit v w heads) (cond_tail v w)

-- Arrows.

-- an arrow's mark, on the line of what stands before it
abbrev pub is_arrow : Lexeme → Bool
is_arrow t = is_mark mark.ARROW t.kind && not t.after_line

abbrev pub closed_case : Option (List Opener) → Bool → (List Opener → Bool) → Bool
closed_case None arrow go = false
closed_case (Some []) arrow go = arrow
closed_case (Some (q ∷ qs)) arrow go = go (q ∷ qs)

-- whether an arrow's mark stands after the lexeme that closes all these brackets
abbrev pub arrow_behind : List Opener → List Lexeme → Bool
arrow_behind ps [] = false
arrow_behind ps (t ∷ ts) = closed_case (open_behind t.kind ps) (is_arrow (head_of ts)) (λ qs. arrow_behind qs ts)

-- what begins a parameter: a name of its form, or `...`
abbrev pub begins_param : Lexeme → Lexeme → Bool
begins_param t u = is_mark mark.ELLIPSIS t.kind || is_param_form t u

-- a comma that stands in the parenthesis and in no bracket inside it
abbrev pub is_between : Kind → List Opener → Bool
is_between k [] = false
is_between k (q ∷ []) = is_mark mark.COMMA k
is_between k (q ∷ r ∷ qs) = false

abbrev pub params_case : Option (List Opener) → Bool → (List Opener → Bool) → Bool
params_case None begins go = false
params_case (Some []) begins go = true
params_case (Some (q ∷ qs)) begins go = begins && go (q ∷ qs)

-- Whether all that stands up to the lexeme that closes all these brackets, cut at the commas of the parenthesis, begins as
-- parameters do. The flag says that an item starts here; there may be none.
abbrev pub only_params : Bool → List Opener → List Lexeme → Bool
only_params starts ps [] = false
only_params starts ps (t ∷ ts) = params_case (open_behind t.kind ps) (not starts || begins_param t (head_of ts))
    (λ qs. only_params (is_between t.kind qs) qs ts)

-- whether an arrow's parameters stand after a parenthesis: its mark stands after the partner, and each item between begins
-- as a parameter does
abbrev pub arrow_opens : List Lexeme → Bool
arrow_opens ts = arrow_behind (paren ∷ []) ts && only_params true (paren ∷ []) ts

-- whether an arrow begins here: a name and the mark, or a parenthesis with its parameters
unfoldable pub is_arrow_head : List Lexeme → Bool
is_arrow_head ts =
    if is_name (head_of ts).kind then is_arrow (head_of (rest_of ts))
    else (is_mark mark.OPEN_PAREN (head_of ts).kind && arrow_opens (rest_of ts))

-- An arrow's parameters, after the parenthesis.

unfoldable pub arrow_param : Env → Parser Param
arrow_param v = param_of v

unfoldable pub arrow_rest : Parser Named
arrow_rest = peek (λ t. when (is_mark mark.ELLIPSIS t.kind) (step name_of) bad)

abbrev pub rest_stop : Named → Parser (Turn Param ParamsEnd)
rest_stop n = ret (Stop (Rest n))

-- a parameter or a rest parameter
unfoldable pub arrow_first : Env → Parser (Turn Param ParamsEnd)
arrow_first v = peek (λ t. when (is_mark mark.ELLIPSIS t.kind) (bind (v.sub ARest) rest_stop) (bind (v.sub AParam) again))

unfoldable pub arrow_next : Env → Parser (Turn Param ParamsEnd)
arrow_next v = peek (λ t. when (is_mark mark.CLOSE_PAREN t.kind) (ret (Stop Trailing)) (arrow_first v))

unfoldable pub arrow_turn : Env → Parser (Turn Param ParamsEnd)
arrow_turn v = peek (λ t. when (is_mark mark.COMMA t.kind) (step (arrow_next v)) (ret (Stop Plain)))

unfoldable pub arrow_params : Env → Parser (Many Param ParamsEnd)
arrow_params v = peek (λ t.
    when (is_mark mark.CLOSE_PAREN t.kind)
    (ret (stopped Plain))
    (bind (arrow_first v) (params_led (arrow_turn v))))

unfoldable pub arrow_listed : Env → ℕ → Parser Head
arrow_listed v start = bind (arrow_params v) (λ m. bind (expect mark.CLOSE_PAREN) (λ _. ret (head_case start m)))

abbrev pub bare_head : Lexeme → Head
bare_head t = record { start = t.start; params = param (named t) None ∷ []; comma = false; bare = true }

unfoldable pub arrow_head : Env → Parser Head
arrow_head v = peek (λ t.
    when (is_name t.kind) (step (ret (bare_head t)))
    (when (is_mark mark.OPEN_PAREN t.kind) (step (arrow_listed v t.start)) bad))

unfoldable pub arrow_mark : Parser (Unit {0})
arrow_mark = peek (λ t. when (is_arrow t) (step (ret tt)) bad)

-- what was read, and the offset where its last lexeme ends

pub record Spanned (A : Type 0) : Type 0 where
  pub value : A
  pub end : ℕ

-- the end of the last of these, or the number given if there is none
abbrev pub last_end : ℕ → List Lexeme → ℕ
last_end n [] = n
last_end n (t ∷ ts) = last_end t.end ts

abbrev pub spanned_reply : {A : Type 0} → List Lexeme → Reply A → Reply (Spanned A)
spanned_reply ts (Read a rs us) = Read (record { value = a; end = last_end 0 (take (length ts - length us) ts) }) rs us
spanned_reply ts (Bad rs us) = Bad rs us
spanned_reply ts (Deep rs us) = Deep rs us

abbrev pub spanned : {A : Type 0} → Parser A → Parser (Spanned A)
spanned f ts = spanned_reply ts (f ts)

abbrev pub short_body : Spanned Expr → BodyRead
short_body s = record { body = tree.ShortBody s.value; end = s.end }

-- a ConciseBody
unfoldable pub arrow_body : Env → Bool → Head → Parser BodyRead
arrow_body v w h = peek (λ t.
    when (is_mark mark.OPEN_BRACE t.kind)
    (v.body form.Arrow h.start (is_simple h.params))
    (bind (spanned (v.sub (AnAssign w))) (λ s. ret (short_body s))))

abbrev pub arrow_case : Head → BodyRead → Expr
arrow_case h b = tree.Func h.start (function_case form.Arrow None h b)

unfoldable pub arrow_of : Env → Bool → Parser Expr
arrow_of v w = bind (arrow_head v) (λ h. bind arrow_mark (λ _. bind (arrow_body v w h) (λ b. ret (arrow_case h b))))

-- an AssignmentExpression

unfoldable pub assign_tail : Env → Bool → Expr → Parser Expr
assign_tail v w e = peek (λ t.
    when (is_assign_mark t.kind && nat_le (rank e) left_rank)
    (step (bind (v.sub (AnAssign w)) (λ x. ret (tree.Assign (mark_of t.kind) e x))))
    (ret e))

unfoldable pub plain_of : Env → Bool → Parser Expr
plain_of v w = bind (cond_of v w true) (assign_tail v w)

unfoldable pub assign_of : Env → Bool → Parser Expr
assign_of v w ts = when (is_arrow_head ts) (arrow_of v w) (plain_of v w) ts

abbrev pub call_case : Env → Calls
call_case v (AnAssign w) = assign_of v w
call_case v APrefix = prefix_of v
call_case v ANew = new_of v
call_case v AParam = arrow_param v
call_case v ARest = arrow_rest

-- what each call begins with
abbrev pub begins_call : Call → Kind → Bool
begins_call (AnAssign w) k = begins_assign k
begins_call APrefix k = is_prefix k || is_update k
begins_call ANew k = is_word word.NEW k
begins_call AParam k = is_name k
begins_call ARest k = is_mark mark.ELLIPSIS k

abbrev pub no_calls : Calls
no_calls c = no_room (begins_call c)

-- each call, with so much room for depth, where braced bodies are read so with the room that is left in them
unfoldable pub calls : (ℕ → BodyParser) → ℕ → Calls
calls body zero c = no_calls c
calls body (suc room) c = call_case (record { sub = calls body room; body = body room }) c

-- A braced body that is passed over. It stands for the body that is given for the offset where the function starts.

-- the end of the lexeme that closes all these brackets; refused at the first that closes what is not open, or at the end
abbrev pub pass_case : Option (List Opener) → Lexeme → List Lexeme → (List Opener → Reply ℕ) → Reply ℕ
pass_case None t ts go = Bad [] (t ∷ ts)
pass_case (Some []) t ts go = Read t.end [] ts
pass_case (Some (q ∷ qs)) t ts go = go (q ∷ qs)

abbrev pub pass_over : List Opener → Parser ℕ
pass_over ps [] = Bad [] []
pass_over ps (t ∷ ts) = pass_case (open_behind t.kind ps) t ts (λ qs. pass_over qs ts)

abbrev pub passed_body : Body → ℕ → BodyRead
passed_body b end = record { body = b; end = end }

unfoldable pub passing : (ℕ → Body) → ℕ → BodyParser
passing bodies room f start simple = peek (λ t.
    when (is_mark mark.OPEN_BRACE t.kind)
    (bind (note f room simple) (λ _. step (bind (pass_over (brace ∷ [])) (λ end. ret (passed_body (bodies start) end)))))
    bad)
