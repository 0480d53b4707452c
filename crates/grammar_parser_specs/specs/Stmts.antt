-- The parser of statements and scripts, as functions on lists of lexemes: this project's own form of the grammar of
-- ECMA-262, 12th edition, clauses 14 to 16.
--
-- Every function takes a `Block`: what reads expressions, the statements one deeper, and a label's name, which counts for
-- the depth. The only recursion is `everything`, on the room that is left for depth.
use Rattle.std.specs.Prelude.{ℕ, zero, suc, List, [], ◌∷◌, ◌++◌, Bool, true, false, nat_le, not, ◌&&◌, ◌||◌, Option, Some, None}
use Rattle.script_grammar.specs.declared.token.Kind.{Kind}
use Rattle.script_grammar.specs.declared.token.mark.TheConstants as mark
use Rattle.script_grammar.specs.declared.token.word.TheConstants as word
use Rattle.script_grammar.specs.declared.token.FuncForm.{FuncForm}
use Rattle.script_grammar.specs.declared.token.FuncForm.TheVariants as form
use Rattle.script_grammar.specs.declared.token.Decl.{Decl}
use Rattle.script_grammar.specs.declared.token.Decl.TheVariants as decl
use Rattle.script_grammar.specs.Lexeme.{Lexeme}
use Rattle.script_grammar.specs.Kinds.{is_mark, is_word, is_name, is_end}
use Rattle.script_grammar.specs.Pieces.{Ending, BareBinding, Keyword, DoWhile, may_omit}
use Rattle.script_grammar.specs.Endings.{ending, return_ending, binds_ending}
use Rattle.script_grammar.specs.Proper.{rank, left_rank, takes_else}
use Rattle.script_grammar.specs.Tree.{Named, Expr, Init, Each, Stmt, Stmts, Function, Body}
use Rattle.script_grammar.specs.Tree as tree
use Rattle.script_grammar.specs.TreeLists.{Bind, Clause, Param, maybe_expr_of, maybe_stmt_of, binds_of, stmts_of, clauses_of}
use Rattle.grammar_parser_specs.specs.Parser.{Parser, ret, bad, bind, peek, step, when, no_room, Turn, Again, Stop, Many, stopped, loop, led}
use Rattle.grammar_parser_specs.specs.Exprs.{AnAssign, AParam, ARest, Calls, Env, BodyParser, BodyRead, Head, ParamsEnd, Plain, Trailing}
use Rattle.grammar_parser_specs.specs.Exprs.{begins_assign, expect, name_of, named, peek_two, expr_of, function_of, function_case}
use Rattle.grammar_parser_specs.specs.Exprs.{head_case, params_led, rest_stop, again, bare_head, arrow_mark, is_simple, spanned}
use Rattle.grammar_parser_specs.specs.Exprs.{short_body, no_calls, call_case}

-- What a call for a statement reads: an item of a list of statements, or a statement that stands alone, as a loop's body;
-- the flag says whether a `return` may stand there.
pub data Place : Type 0 where
  AnItem : Bool → Place
  AStmt : Bool → Place

abbrev pub is_item : Place → Bool
is_item (AnItem inside) = true
is_item (AStmt inside) = false

abbrev pub is_inside : Place → Bool
is_inside (AnItem inside) = inside
is_inside (AStmt inside) = inside

abbrev pub StmtCalls : Type 0
StmtCalls = Place → Parser Stmt

pub record Block : Type 0 where
  pub exprs : Env
  pub stmt : StmtCalls
  pub label : Parser Named

-- what may begin a statement

-- words that begin a statement everywhere
abbrev pub begins_plain : Kind → Bool
begins_plain k =
    is_word word.VAR k || is_word word.DEBUGGER k || is_word word.IF k || is_word word.WHILE k || is_word word.DO k
    || is_word word.FOR k || is_word word.CONTINUE k || is_word word.BREAK k || is_word word.THROW k
    || is_word word.SWITCH k || is_word word.TRY k

abbrev pub begins_declaration : Kind → Bool
begins_declaration k = is_word word.LET k || is_word word.CONST k || is_word word.FUNCTION k

abbrev pub begins_stmt : Place → Kind → Bool
begins_stmt p k =
    (begins_assign k && not (is_word word.FUNCTION k)) || is_mark mark.SEMICOLON k || begins_plain k
    || (is_item p && begins_declaration k) || (is_inside p && is_word word.RETURN k)

-- tokens that must stand here

unfoldable pub expect_word : ℕ → Parser (Unit {0})
expect_word i = peek (λ t. when (is_word i t.kind) (step (ret tt)) bad)

-- a semicolon: written, or left out after a statement with this ending
unfoldable pub semi_of : Ending → Parser Bool
semi_of e = peek (λ t. when (is_mark mark.SEMICOLON t.kind) (step (ret true)) (when (may_omit e t) (ret false) bad))

-- an Expression in parentheses
unfoldable pub parens_of : Env → Parser Expr
parens_of v = bind (expect mark.OPEN_PAREN) (λ _. bind (expr_of v true) (λ e. bind (expect mark.CLOSE_PAREN) (λ _. ret e)))

-- lists of statements

-- what stands after a list of statements
abbrev pub ends_items : Kind → Bool
ends_items k = is_mark mark.CLOSE_BRACE k || is_end k || is_word word.CASE k || is_word word.DEFAULT k

unfoldable pub stmt_turn : StmtCalls → Bool → Parser (Turn Stmt (Unit {0}))
stmt_turn stmt inside = peek (λ t. when (ends_items t.kind) (ret (Stop tt)) (bind (stmt (AnItem inside)) (λ s. ret (Again s))))

unfoldable pub stmts_from : StmtCalls → Bool → Parser (List Stmt)
stmts_from stmt inside = bind (loop (stmt_turn stmt inside)) (λ m. ret m.items)

-- statements in braces, after the first brace
unfoldable pub braced_from : StmtCalls → Bool → Parser Stmts
braced_from stmt inside = bind (stmts_from stmt inside) (λ ss. bind (expect mark.CLOSE_BRACE) (λ _. ret (stmts_of ss)))

unfoldable pub braced_of : StmtCalls → Bool → Parser Stmts
braced_of stmt inside = bind (expect mark.OPEN_BRACE) (λ _. braced_from stmt inside)

-- names with their initializers, with or without the operator `in`

unfoldable pub value_of : Env → Bool → Parser (Option Expr)
value_of v w = peek (λ t. when (is_mark mark.ASSIGN t.kind) (step (bind (v.sub (AnAssign w)) (λ e. ret (Some e)))) (ret None))

abbrev pub bound : Named → Option Expr → Bind
bound n o = record { name = n; value = o }

-- after a name
unfoldable pub bind_from : Env → Bool → Named → Parser Bind
bind_from v w n = bind (value_of v w) (λ o. ret (bound n o))

unfoldable pub bind_of : Env → Bool → Parser Bind
bind_of v w = bind name_of (bind_from v w)

unfoldable pub bind_turn : Env → Bool → Parser (Turn Bind (Unit {0}))
bind_turn v w = peek (λ t. when (is_mark mark.COMMA t.kind) (step (bind (bind_of v w) again)) (ret (Stop tt)))

-- after the first name
unfoldable pub binds_from : Env → Bool → Named → Parser (Many Bind (Unit {0}))
binds_from v w n = bind (bind_from v w n) (led (bind_turn v w))

abbrev pub binding_case : Decl → List Bind → Parser Stmt
binding_case d bs = bind (semi_of (binds_ending BareBinding (binds_of bs))) (λ b. ret (tree.Binding d (binds_of bs) b))

-- after the word
unfoldable pub binding_of : Env → Decl → Parser Stmt
binding_of v d = bind name_of (λ n. bind (binds_from v true n) (λ m. binding_case d m.items))

-- a function declaration, after its word
unfoldable pub declared_of : Env → Parser Stmt
declared_of v = bind name_of (λ n. bind (function_of v form.Function (Some n)) (λ f. ret (tree.Declared f)))

unfoldable pub debugger_of : Parser Stmt
debugger_of = bind (semi_of Keyword) (λ b. ret (tree.Debugger b))

-- an expression statement
unfoldable pub value_stmt : Env → Parser Stmt
value_stmt v = bind (expr_of v true) (λ e. bind (semi_of (ending e)) (λ b. ret (tree.Value e b)))

-- `if`, after its word: an `else` is that of the nearest one

unfoldable pub else_of : Block → Bool → Parser (Option Stmt)
else_of b inside = peek (λ t. when (is_word word.ELSE t.kind) (step (bind (b.stmt (AStmt inside)) (λ s. ret (Some s)))) (ret None))

abbrev pub else_behind : Block → Bool → Stmt → Parser (Option Stmt)
else_behind b inside s = when (takes_else s) (ret None) (else_of b inside)

unfoldable pub if_of : Block → Bool → Parser Stmt
if_of b inside = bind (parens_of b.exprs) (λ e. bind (b.stmt (AStmt inside))
    (λ s. bind (else_behind b inside s) (λ o. ret (tree.If e s (maybe_stmt_of o)))))

-- loops, after their words

unfoldable pub while_of : Block → Bool → Parser Stmt
while_of b inside = bind (parens_of b.exprs) (λ e. bind (b.stmt (AStmt inside)) (λ s. ret (tree.While e s)))

unfoldable pub do_of : Block → Bool → Parser Stmt
do_of b inside = bind (b.stmt (AStmt inside)) (λ s. bind (expect_word word.WHILE)
    (λ _. bind (parens_of b.exprs) (λ e. bind (semi_of DoWhile) (λ x. ret (tree.Do s e x)))))

-- an Expression, or none where this mark stands
unfoldable pub option_of : Env → ℕ → Parser (Option Expr)
option_of v m = peek (λ t. when (is_mark m t.kind) (ret None) (bind (expr_of v true) (λ e. ret (Some e))))

-- a `for`, after what begins its head
unfoldable pub for_from : Block → Bool → Init → Parser Stmt
for_from b inside i =
    bind (expect mark.SEMICOLON) (λ _. bind (option_of b.exprs mark.SEMICOLON) (λ x.
    bind (expect mark.SEMICOLON) (λ _. bind (option_of b.exprs mark.CLOSE_PAREN) (λ y.
    bind (expect mark.CLOSE_PAREN) (λ _. bind (b.stmt (AStmt inside)) (λ s.
    ret (tree.For i (maybe_expr_of x) (maybe_expr_of y) s)))))))

-- a for-in, after its `in`
unfoldable pub for_in_from : Block → Bool → Each → Parser Stmt
for_in_from b inside i = bind (expr_of b.exprs true)
    (λ e. bind (expect mark.CLOSE_PAREN) (λ _. bind (b.stmt (AStmt inside)) (λ s. ret (tree.ForIn i e s))))

-- a head that begins with a declaration's word, after the word and the first name
unfoldable pub for_named : Block → Bool → Decl → Named → Parser Stmt
for_named b inside d n = peek (λ t.
    when (is_word word.IN t.kind)
    (step (for_in_from b inside (tree.BindEach d n)))
    (bind (binds_from b.exprs false n) (λ m. for_from b inside (tree.BindsInit d (binds_of m.items)))))

unfoldable pub for_decl : Block → Bool → Decl → Parser Stmt
for_decl b inside d = bind name_of (for_named b inside d)

-- a head that begins with an Expression
unfoldable pub for_valued : Block → Bool → Expr → Parser Stmt
for_valued b inside e = peek (λ t.
    when (is_word word.IN t.kind && nat_le (rank e) left_rank)
    (step (for_in_from b inside (tree.TargetEach e)))
    (for_from b inside (tree.ValueInit e)))

unfoldable pub for_head : Block → Bool → Parser Stmt
for_head b inside = peek (λ t.
    when (is_mark mark.SEMICOLON t.kind) (for_from b inside tree.NoInit)
    (when (is_word word.VAR t.kind) (step (for_decl b inside decl.Var))
    (when (is_word word.LET t.kind) (step (for_decl b inside decl.Let))
    (when (is_word word.CONST t.kind) (step (for_decl b inside decl.Const))
    (bind (expr_of b.exprs false) (for_valued b inside))))))

unfoldable pub for_of : Block → Bool → Parser Stmt
for_of b inside = bind (expect mark.OPEN_PAREN) (λ _. for_head b inside)

-- jumps, after their words

-- a label on the line of its word
unfoldable pub label_name : Parser (Option Named)
label_name = peek (λ t. when (is_name t.kind && not t.after_line) (step (ret (Some (named t)))) (ret None))

unfoldable pub continue_of : ℕ → Parser Stmt
continue_of at = bind label_name (λ l. bind (semi_of Keyword) (λ b. ret (tree.Continue at l b)))

unfoldable pub break_of : ℕ → Parser Stmt
break_of at = bind label_name (λ l. bind (semi_of Keyword) (λ b. ret (tree.Break at l b)))

-- before this token a `return` has no value
abbrev pub ends_return : Lexeme → Bool
ends_return t = t.after_line || is_mark mark.SEMICOLON t.kind || is_mark mark.CLOSE_BRACE t.kind || is_end t.kind

unfoldable pub returned_of : Env → Parser (Option Expr)
returned_of v = peek (λ t. when (ends_return t) (ret None) (bind (expr_of v true) (λ e. ret (Some e))))

unfoldable pub return_of : Env → Parser Stmt
return_of v = bind (returned_of v) (λ o. bind (semi_of (return_ending (maybe_expr_of o))) (λ b. ret (tree.Return (maybe_expr_of o) b)))

-- an Expression on the line of the word
unfoldable pub thrown_of : Env → Parser Expr
thrown_of v = peek (λ t. when t.after_line bad (expr_of v true))

unfoldable pub throw_of : Env → Parser Stmt
throw_of v = bind (thrown_of v) (λ e. bind (semi_of (ending e)) (λ b. ret (tree.Throw e b)))

-- `switch`, after its word: its clauses up to a default, and those after it

abbrev pub clause : Option Expr → List Stmt → Clause
clause o ss = record { test = o; items = ss }

-- after the word `case`
unfoldable pub case_of : Block → Bool → Parser Clause
case_of b inside = bind (expr_of b.exprs true) (λ e. bind (expect mark.COLON) (λ _. bind (stmts_from b.stmt inside) (λ ss. ret (clause (Some e) ss))))

-- after the word `default`
unfoldable pub default_of : Block → Bool → Parser Clause
default_of b inside = bind (expect mark.COLON) (λ _. bind (stmts_from b.stmt inside) (λ ss. ret (clause None ss)))

unfoldable pub case_turn : Block → Bool → Parser (Turn Clause (Unit {0}))
case_turn b inside = peek (λ t. when (is_word word.CASE t.kind) (step (bind (case_of b inside) again)) (ret (Stop tt)))

unfoldable pub clause_turn : Block → Bool → Parser (Turn Clause (Option Clause))
clause_turn b inside = peek (λ t.
    when (is_word word.CASE t.kind) (step (bind (case_of b inside) again))
    (when (is_word word.DEFAULT t.kind) (step (bind (default_of b inside) (λ c. ret (Stop (Some c))))) (ret (Stop None))))

-- the clauses after the default, if there is one
unfoldable pub more_clauses : Block → Bool → Option Clause → Parser (List Clause)
more_clauses b inside None = ret []
more_clauses b inside (Some c) = bind (loop (case_turn b inside)) (λ m. ret (c ∷ m.items))

unfoldable pub clauses_from : Block → Bool → Parser (List Clause)
clauses_from b inside = bind (loop (clause_turn b inside)) (λ m. bind (more_clauses b inside m.last) (λ cs. ret (m.items ++ cs)))

unfoldable pub switch_of : Block → Bool → Parser Stmt
switch_of b inside =
    bind (parens_of b.exprs) (λ e. bind (expect mark.OPEN_BRACE) (λ _.
    bind (clauses_from b inside) (λ cs. bind (expect mark.CLOSE_BRACE) (λ _. ret (tree.Switch e (clauses_of cs))))))

-- `try`, after its word

unfoldable pub catch_name : Parser Named
catch_name = bind name_of (λ n. bind (expect mark.CLOSE_PAREN) (λ _. ret n))

unfoldable pub catch_param : Parser (Option Named)
catch_param = peek (λ t. when (is_mark mark.OPEN_PAREN t.kind) (step (bind catch_name (λ n. ret (Some n)))) (ret None))

unfoldable pub try_of : Block → Bool → Parser Stmt
try_of b inside =
    bind (braced_of b.stmt inside) (λ ss. bind (expect_word word.CATCH) (λ _.
    bind catch_param (λ p. bind (braced_of b.stmt inside) (λ hs. ret (tree.Try ss p hs)))))

-- a label and its statement
unfoldable pub labelled_of : Block → Bool → Parser Stmt
labelled_of b inside = bind b.label (λ n. bind (expect mark.COLON) (λ _. bind (b.stmt (AStmt inside)) (λ s. ret (tree.Label n s))))

-- A statement.

abbrev pub is_label : Lexeme → Lexeme → Bool
is_label t u = is_name t.kind && is_mark mark.COLON u.kind

-- one that begins with no word of a statement: neither `function` nor `{` begins an expression statement
unfoldable pub plain_stmt : Block → Bool → Parser Stmt
plain_stmt b inside = peek_two (λ t u.
    when (is_label t u) (labelled_of b inside)
    (when (is_word word.FUNCTION t.kind || is_mark mark.OPEN_BRACE t.kind) bad (value_stmt b.exprs)))

-- a block, after its brace
unfoldable pub block_stmt : Block → Bool → Parser Stmt
block_stmt b inside = bind (braced_from b.stmt inside) (λ ss. ret (tree.Block ss))

unfoldable pub jump_stmt : Block → Place → Parser Stmt
jump_stmt b p = peek (λ t.
    when (is_word word.CONTINUE t.kind) (step (continue_of t.start))
    (when (is_word word.BREAK t.kind) (step (break_of t.start))
    (when (is_word word.RETURN t.kind && is_inside p) (step (return_of b.exprs))
    (when (is_word word.THROW t.kind) (step (throw_of b.exprs))
    (plain_stmt b (is_inside p))))))

unfoldable pub nested_stmt : Block → Place → Parser Stmt
nested_stmt b p = peek (λ t.
    when (is_word word.IF t.kind) (step (if_of b (is_inside p)))
    (when (is_word word.WHILE t.kind) (step (while_of b (is_inside p)))
    (when (is_word word.DO t.kind) (step (do_of b (is_inside p)))
    (when (is_word word.FOR t.kind) (step (for_of b (is_inside p)))
    (when (is_word word.SWITCH t.kind) (step (switch_of b (is_inside p)))
    (when (is_word word.TRY t.kind) (step (try_of b (is_inside p)))
    (jump_stmt b p)))))))

unfoldable pub declaration_stmt : Block → Place → Parser Stmt
declaration_stmt b p = peek (λ t.
    when (is_word word.VAR t.kind) (step (binding_of b.exprs decl.Var))
    (when (is_word word.LET t.kind && is_item p) (step (binding_of b.exprs decl.Let))
    (when (is_word word.CONST t.kind && is_item p) (step (binding_of b.exprs decl.Const))
    (when (is_word word.FUNCTION t.kind && is_item p) (step (declared_of b.exprs))
    (nested_stmt b p)))))

unfoldable pub stmt_of : Block → Place → Parser Stmt
stmt_of b p = peek (λ t.
    when (is_mark mark.OPEN_BRACE t.kind) (step (block_stmt b (is_inside p)))
    (when (is_mark mark.SEMICOLON t.kind) (step (ret tree.Empty))
    (when (is_word word.DEBUGGER t.kind) (step debugger_of)
    (declaration_stmt b p))))

-- All calls, with so much room for depth, where braced bodies are read so with the room that is left in them and the
-- statements there.

pub record All : Type 0 where
  pub exprs : Calls
  pub stmts : StmtCalls
  pub label : Parser Named

abbrev pub env_of : BodyParser → All → Env
env_of body a = record { sub = a.exprs; body = body }

abbrev pub block_of : BodyParser → All → Block
block_of body a = record { exprs = env_of body a; stmt = a.stmts; label = a.label }

abbrev pub all_case : BodyParser → All → All
all_case body a = record { exprs = call_case (env_of body a); stmts = stmt_of (block_of body a); label = name_of }

abbrev pub no_stmts : StmtCalls
no_stmts p = no_room (begins_stmt p)

abbrev pub nothing_left : All
nothing_left = record { exprs = no_calls; stmts = no_stmts; label = no_room is_name }

unfoldable pub everything : (ℕ → StmtCalls → BodyParser) → ℕ → All
everything body zero = nothing_left
everything body (suc room) = all_case (body room (everything body room).stmts) (everything body room)

-- a braced body that is read in place, with its end

unfoldable pub close_body : List Stmt → Parser BodyRead
close_body ss = peek (λ t. when (is_mark mark.CLOSE_BRACE t.kind) (step (ret (record { body = tree.BracedBody (stmts_of ss); end = t.end }))) bad)

unfoldable pub reading : StmtCalls → BodyParser
reading stmt f start simple = bind (expect mark.OPEN_BRACE) (λ _. bind (stmts_from stmt true) close_body)

-- all bodies are read in place
abbrev pub in_place : ℕ → StmtCalls → BodyParser
in_place room stmt = reading stmt

-- A script: its statements up to the End token, which is not gone past.

unfoldable pub end_of : {A : Type 0} → A → Parser A
end_of a = peek (λ t. when (is_end t.kind) (ret a) bad)

unfoldable pub script_of : StmtCalls → Parser Stmts
script_of stmt = bind (stmts_from stmt false) (λ ss. end_of (stmts_of ss))

-- a script read whole, with so much room for depth
abbrev pub read_script : ℕ → Parser Stmts
read_script room = script_of (everything in_place room).stmts

-- One function alone, up to the End token: its parameters and its own body, which is read.

-- an arrow's parameters, where only an arrow is asked for

unfoldable pub strict_param : Env → Parser (Turn Param ParamsEnd)
strict_param v = peek (λ t.
    when (is_mark mark.ELLIPSIS t.kind) (bind (v.sub ARest) rest_stop)
    (when (is_name t.kind) (bind (v.sub AParam) again) bad))

unfoldable pub strict_next : Env → Parser (Turn Param ParamsEnd)
strict_next v = peek (λ t. when (is_mark mark.CLOSE_PAREN t.kind) (ret (Stop Trailing)) (strict_param v))

unfoldable pub strict_turn : Env → Parser (Turn Param ParamsEnd)
strict_turn v = peek (λ t. when (is_mark mark.COMMA t.kind) (step (strict_next v)) (ret (Stop Plain)))

unfoldable pub strict_params : Env → Parser (Many Param ParamsEnd)
strict_params v = peek (λ t.
    when (is_mark mark.CLOSE_PAREN t.kind)
    (ret (stopped Plain))
    (bind (strict_param v) (params_led (strict_turn v))))

unfoldable pub strict_listed : Env → ℕ → Parser Head
strict_listed v start = bind (strict_params v) (λ m. bind (expect mark.CLOSE_PAREN) (λ _. ret (head_case start m)))

unfoldable pub strict_head : Env → Parser Head
strict_head v = peek (λ t.
    when (is_name t.kind) (step (ret (bare_head t)))
    (when (is_mark mark.OPEN_PAREN t.kind) (step (strict_listed v t.start)) bad))

-- an arrow's body, with all of `in`
unfoldable pub strict_body : Env → Head → Parser BodyRead
strict_body v h = peek (λ t.
    when (is_mark mark.OPEN_BRACE t.kind)
    (v.body form.Arrow h.start (is_simple h.params))
    (bind (spanned (v.sub (AnAssign true))) (λ s. ret (short_body s))))

unfoldable pub arrow_alone : Env → Parser Function
arrow_alone v = bind (strict_head v) (λ h. bind arrow_mark (λ _. bind (strict_body v h) (λ b. ret (function_case form.Arrow None h b))))

abbrev pub is_arrow_form : FuncForm → Bool
is_arrow_form form.Arrow = true
is_arrow_form _ = false

unfoldable pub alone_of : Env → FuncForm → Parser Function
alone_of v f = bind (when (is_arrow_form f) (arrow_alone v) (function_of v f None)) end_of

-- Its own body is read by these statements, while the bodies inside are read as the first argument says.
abbrev pub read_alone : (ℕ → StmtCalls → BodyParser) → ℕ → FuncForm → Parser Function
read_alone body room f = alone_of (env_of (reading (everything body room).stmts) (everything body room)) f
