-- How a tree is written: one recursion that gives a place for each token, with its depth (ECMA-262, 12th edition, clauses
-- 13 to 16; what counts for the depth is this project's own choice).
--
-- What counts for the depth is each statement, each AssignmentExpression, each application of a prefix operator, each
-- `new`, each parameter in an arrow's parentheses, a label's name, and the target of a for-in head.
--
-- The number that a function takes is the depth of the tree's own tokens. So an expression where the grammar has an
-- AssignmentExpression or an Expression is printed one deeper than what is around it, and the commas of an Expression,
-- which stand outside its AssignmentExpressions, one less deep.
--
-- A function's braced body is printed whole, or as tokens that are passed over.
use Rattle.std.specs.Prelude.{ℕ, zero, suc, List, [], ◌∷◌, ◌++◌, Bool, true, false, Option, Some, None, if◌then◌else◌}
use Rattle.script_grammar.specs.declared.token.Kind.{Kind}
use Rattle.script_grammar.specs.declared.token.Kind.TheVariants as kind
use Rattle.script_grammar.specs.declared.token.mark.TheConstants as mark
use Rattle.script_grammar.specs.declared.token.word.TheConstants as word
use Rattle.script_grammar.specs.declared.token.FuncForm.{FuncForm}
use Rattle.script_grammar.specs.Lexeme.{get_role, set_role}
use Rattle.script_grammar.specs.Kinds.{op_kind, decl_word, is_arrow_form}
use Rattle.script_grammar.specs.Tree.{Named, Expr, Exprs, no_exprs, more_exprs, MaybeExpr, no_expr, some_expr, MaybeArgs, no_args}
use Rattle.script_grammar.specs.Tree.{some_args, Parts, no_parts, more_parts, Items, no_items, more_items, Operands, no_operands}
use Rattle.script_grammar.specs.Tree.{more_operands, Tail, Tails, no_tails, more_tails, Key, Prop, Props, no_props, more_props, Function}
use Rattle.script_grammar.specs.Tree.{function, Params, no_params, more_params, Body, Binds, no_binds, more_binds, Init, Each, Clauses}
use Rattle.script_grammar.specs.Tree.{no_clauses, more_clauses, Stmt, Stmts, no_stmts, more_stmts, MaybeStmt, no_stmt, some_stmt}
use Rattle.script_grammar.specs.Tree as tree
use Rattle.script_grammar.specs.Pieces.{Bodies, whole, passed, Piece, At, Pass, slot, BareBinding, Keyword, DoWhile, mark_piece}
use Rattle.script_grammar.specs.Pieces.{word_piece, glued_mark, placed, closing_mark, number_piece, str_piece, text_piece, template_piece}
use Rattle.script_grammar.specs.Pieces.{name_piece, glued_name, any_word, role_piece, from, glue, until, comma_piece, semi_piece}
use Rattle.script_grammar.specs.Endings.{ending, return_ending, binds_ending}

-- one less deep
abbrev pub above : ℕ → ℕ
above zero = zero
above (suc d) = d

-- the token that goes on after a template's value
abbrev pub part_kind : Parts → Kind
part_kind no_parts = kind.TemplateTail
part_kind (more_parts value behind rest) = kind.TemplateMiddle

abbrev pub first_kind : Parts → Kind
first_kind no_parts = kind.TemplateWhole
first_kind (more_parts value behind rest) = kind.TemplateHead

-- the depth of a parameter's name: parameters in an arrow's parentheses count
abbrev pub param_depth : FuncForm → Bool → ℕ → ℕ
param_depth form true d = d
param_depth form false d = if is_arrow_form form then suc d else d

abbrev pub operator_piece : ℕ → Bool → ℕ → Piece
operator_piece op is_word d = At (slot (op_kind op is_word) d)

abbrev pub print_name : Option Named → ℕ → List Piece
print_name None d = []
print_name (Some n) d = name_piece n d ∷ []

-- `function` and the name, before the parameters of a function that is no arrow
abbrev pub func_word : FuncForm → ℕ → Option Named → ℕ → List Piece
func_word form at name d = if is_arrow_form form then [] else placed (kind.Word word.FUNCTION) at d ∷ print_name name d

-- the mark of an arrow, on the line of what stands before it
abbrev pub arrow_pieces : FuncForm → ℕ → List Piece
arrow_pieces form d = if is_arrow_form form then glued_mark mark.ARROW d ∷ [] else []

-- parameters in parentheses, or an arrow's single name without
abbrev pub parenthesized : Bool → ℕ → ℕ → List Piece → Bool → List Piece
parenthesized true start d params comma = params
parenthesized false start d params comma = placed (kind.Mark mark.OPEN_PAREN) start d
    ∷ (params ++ (comma_piece comma d ++ mark_piece mark.CLOSE_PAREN d ∷ []))

-- what stands in a body's braces: its statements, or tokens that are passed over
abbrev pub inside : Bodies → List Piece → List Piece
inside whole items = items
inside passed items = Pass ∷ []

abbrev pub ellipsis : Bool → ℕ → List Piece
ellipsis true d = mark_piece mark.ELLIPSIS d ∷ []
ellipsis false d = []

abbrev pub print_label : Option Named → ℕ → List Piece
print_label None d = []
print_label (Some n) d = glued_name n d ∷ []

abbrev pub print_catch_param : Option Named → ℕ → List Piece
print_catch_param None d = []
print_catch_param (Some n) d = mark_piece mark.OPEN_PAREN d ∷ name_piece n d ∷ mark_piece mark.CLOSE_PAREN d ∷ []

abbrev mutual
  pub print : Bodies → ℕ → Expr → List Piece
  print m d (tree.This at) = placed (kind.Word word.THIS) at d ∷ []
  print m d (tree.Name n) = name_piece n d ∷ []
  print m d (tree.Null at) = placed (kind.Word word.NULL) at d ∷ []
  print m d (tree.True at) = placed (kind.Word word.TRUE) at d ∷ []
  print m d (tree.False at) = placed (kind.Word word.FALSE) at d ∷ []
  print m d (tree.Number at value) = number_piece at value d ∷ []
  print m d (tree.Str at end w) = str_piece at end w d ∷ []
  print m d (tree.Template at first parts) = text_piece (first_kind parts) first at d ∷ print_parts m d parts
  print m d (tree.Array at items comma) = placed (kind.Mark mark.OPEN_BRACKET) at d
      ∷ (print_items m d items ++ (comma_piece comma d ++ mark_piece mark.CLOSE_BRACKET d ∷ []))
  print m d (tree.Object at props comma) = placed (kind.Mark mark.OPEN_BRACE) at d
      ∷ (print_props m d props ++ (comma_piece comma d ++ mark_piece mark.CLOSE_BRACE d ∷ []))
  print m d (tree.Func at f) = print_func m d at f
  print m d (tree.Paren at inner) = placed (kind.Mark mark.OPEN_PAREN) at d ∷ (print m (suc d) inner ++ mark_piece mark.CLOSE_PAREN d ∷ [])
  print m d (tree.Chain head tails) = print m d head ++ print_tails m d tails
  print m d (tree.New at callee args) = placed (kind.Word word.NEW) at (suc d) ∷ (print m (suc d) callee ++ print_args m (suc d) args)
  print m d (tree.Unary at op of is_word) = placed (op_kind op is_word) at (suc d) ∷ print m (suc d) of
  print m d (tree.Update at op true of) = placed (kind.Mark op) at (suc d) ∷ print m (suc d) of
  print m d (tree.Update at op false of) = from at (print m d of) ++ glued_mark op d ∷ []
  print m d (tree.Binary first rest) = print m d first ++ print_operands m d rest
  print m d (tree.Cond test then_value else_value) = print m d test
      ++ (mark_piece mark.QUESTION d ∷ (print m (suc d) then_value ++ (mark_piece mark.COLON d ∷ print m (suc d) else_value)))
  print m d (tree.Assign op target value) = print m d target ++ (mark_piece op d ∷ print m (suc d) value)
  print m d (tree.Comma items) = print_list m (above d) items

  -- expressions with commas between, each an AssignmentExpression
  pub print_list : Bodies → ℕ → Exprs → List Piece
  print_list m d no_exprs = []
  print_list m d (more_exprs e es) = print m (suc d) e ++ print_more m d es

  pub print_more : Bodies → ℕ → Exprs → List Piece
  print_more m d no_exprs = []
  print_more m d (more_exprs e es) = mark_piece mark.COMMA d ∷ (print m (suc d) e ++ print_more m d es)

  pub print_maybe : Bodies → ℕ → MaybeExpr → List Piece
  print_maybe m d no_expr = []
  print_maybe m d (some_expr e) = print m d e

  pub print_args : Bodies → ℕ → MaybeArgs → List Piece
  print_args m d no_args = []
  print_args m d (some_args es comma) = mark_piece mark.OPEN_PAREN d
      ∷ (print_list m d es ++ (comma_piece comma d ++ mark_piece mark.CLOSE_PAREN d ∷ []))

  pub print_parts : Bodies → ℕ → Parts → List Piece
  print_parts m d no_parts = []
  print_parts m d (more_parts value behind rest) = print m (suc d) value ++ (template_piece (part_kind rest) behind d ∷ print_parts m d rest)

  -- the items of an array with commas between; a hole is nothing
  pub print_items : Bodies → ℕ → Items → List Piece
  print_items m d no_items = []
  print_items m d (more_items i is) = print_maybe m (suc d) i ++ print_more_items m d is

  pub print_more_items : Bodies → ℕ → Items → List Piece
  print_more_items m d no_items = []
  print_more_items m d (more_items i is) = mark_piece mark.COMMA d ∷ (print_maybe m (suc d) i ++ print_more_items m d is)

  pub print_operands : Bodies → ℕ → Operands → List Piece
  print_operands m d no_operands = []
  print_operands m d (more_operands op is_word value rest) = operator_piece op is_word d ∷ (print m d value ++ print_operands m d rest)

  pub print_tails : Bodies → ℕ → Tails → List Piece
  print_tails m d no_tails = []
  print_tails m d (more_tails t ts) = print_tail m d t ++ print_tails m d ts

  pub print_tail : Bodies → ℕ → Tail → List Piece
  print_tail m d (tree.Dot w) = mark_piece mark.DOT d ∷ any_word [] w d ∷ []
  print_tail m d (tree.Index e) = mark_piece mark.OPEN_BRACKET d ∷ (print m (suc d) e ++ mark_piece mark.CLOSE_BRACKET d ∷ [])
  print_tail m d (tree.Call es comma) = mark_piece mark.OPEN_PAREN d
      ∷ (print_list m d es ++ (comma_piece comma d ++ mark_piece mark.CLOSE_PAREN d ∷ []))

  pub print_key : Bodies → ℕ → Key → List Piece
  print_key m d (tree.WordKey n) = any_word (n.at ∷ []) n.text d ∷ []
  print_key m d (tree.StrKey n) = text_piece kind.Str n.text n.at d ∷ []
  print_key m d (tree.NumberKey at value) = number_piece at value d ∷ []
  print_key m d (tree.ComputedKey e) = mark_piece mark.OPEN_BRACKET d ∷ (print m (suc d) e ++ mark_piece mark.CLOSE_BRACKET d ∷ [])

  pub print_prop : Bodies → ℕ → Prop → List Piece
  print_prop m d (tree.Short n) = name_piece n d ∷ []
  print_prop m d (tree.Pair key value) = print_key m d key ++ (mark_piece mark.COLON d ∷ print m (suc d) value)
  print_prop m d (tree.Method key f) = print_key m d key ++ print_function m d f
  print_prop m d (tree.Get key f) = role_piece get_role d ∷ (print_key m d key ++ print_function m d f)
  print_prop m d (tree.Set key f) = role_piece set_role d ∷ (print_key m d key ++ print_function m d f)

  pub print_props : Bodies → ℕ → Props → List Piece
  print_props m d no_props = []
  print_props m d (more_props p ps) = print_prop m d p ++ print_more_props m d ps

  pub print_more_props : Bodies → ℕ → Props → List Piece
  print_more_props m d no_props = []
  print_more_props m d (more_props p ps) = mark_piece mark.COMMA d ∷ (print_prop m d p ++ print_more_props m d ps)

  -- a function as an expression: an arrow has no word and no name
  pub print_func : Bodies → ℕ → ℕ → Function → List Piece
  print_func m d at (function form start end name params comma bare body) = func_word form at name d
      ++ (parenthesized bare start d (print_params m (param_depth form bare d) d params) comma ++ (arrow_pieces form d ++ print_body m d end body))

  -- a function from its parameters on
  pub print_function : Bodies → ℕ → Function → List Piece
  print_function m d (function form start end name params comma bare body) = parenthesized bare start d
      (print_params m (param_depth form bare d) d params) comma ++ (arrow_pieces form d ++ print_body m d end body)

  -- a function declaration
  pub print_declared : Bodies → ℕ → Function → List Piece
  print_declared m d (function form start end name params comma bare body) = word_piece word.FUNCTION d
      ∷ (print_name name d ++ (parenthesized bare start d (print_params m (param_depth form bare d) d params) comma
      ++ (arrow_pieces form d ++ print_body m d end body)))

  -- parameters with commas between: the first number is the depth of a parameter, the second that of a comma
  pub print_params : Bodies → ℕ → ℕ → Params → List Piece
  print_params m q d no_params = []
  print_params m q d (more_params name value rest ps) = ellipsis rest q
      ++ (name_piece name q ∷ (print_initializer m q value ++ print_more_params m q d ps))

  pub print_more_params : Bodies → ℕ → ℕ → Params → List Piece
  print_more_params m q d no_params = []
  print_more_params m q d (more_params name value rest ps) = mark_piece mark.COMMA d
      ∷ (ellipsis rest q ++ (name_piece name q ∷ (print_initializer m q value ++ print_more_params m q d ps)))

  pub print_initializer : Bodies → ℕ → MaybeExpr → List Piece
  print_initializer m d no_expr = []
  print_initializer m d (some_expr e) = mark_piece mark.ASSIGN d ∷ print m (suc d) e

  pub print_body : Bodies → ℕ → ℕ → Body → List Piece
  print_body m d end (tree.BracedBody items) = mark_piece mark.OPEN_BRACE d
      ∷ (inside m (print_stmts m d items) ++ closing_mark mark.CLOSE_BRACE end d ∷ [])
  print_body m d end (tree.ShortBody value) = until end (print m (suc d) value)

  -- names with commas between, and their initializers
  pub print_binds : Bodies → ℕ → Binds → List Piece
  print_binds m d no_binds = []
  print_binds m d (more_binds name value bs) = name_piece name d ∷ (print_initializer m d value ++ print_more_binds m d bs)

  pub print_more_binds : Bodies → ℕ → Binds → List Piece
  print_more_binds m d no_binds = []
  print_more_binds m d (more_binds name value bs) = mark_piece mark.COMMA d ∷ name_piece name d
      ∷ (print_initializer m d value ++ print_more_binds m d bs)

  -- statements in a script or in braces, each one deeper
  pub print_stmts : Bodies → ℕ → Stmts → List Piece
  print_stmts m d no_stmts = []
  print_stmts m d (more_stmts s ss) = print_stmt m (suc d) s ++ print_stmts m d ss

  pub print_else : Bodies → ℕ → MaybeStmt → List Piece
  print_else m d no_stmt = []
  print_else m d (some_stmt s) = word_piece word.ELSE d ∷ print_stmt m (suc d) s

  pub print_init : Bodies → ℕ → Init → List Piece
  print_init m d tree.NoInit = []
  print_init m d (tree.ValueInit e) = print m (suc d) e
  print_init m d (tree.BindsInit decl binds) = word_piece (decl_word decl) d ∷ print_binds m d binds

  pub print_each : Bodies → ℕ → Each → List Piece
  print_each m d (tree.TargetEach e) = print m (suc d) e
  print_each m d (tree.BindEach decl name) = word_piece (decl_word decl) d ∷ name_piece name d ∷ []

  pub print_clauses : Bodies → ℕ → Clauses → List Piece
  print_clauses m d no_clauses = []
  print_clauses m d (more_clauses test items cs) = print_test m d test ++ (mark_piece mark.COLON d ∷ (print_stmts m d items ++ print_clauses m d cs))

  pub print_test : Bodies → ℕ → MaybeExpr → List Piece
  print_test m d no_expr = word_piece word.DEFAULT d ∷ []
  print_test m d (some_expr e) = word_piece word.CASE d ∷ print m (suc d) e

  pub print_stmt : Bodies → ℕ → Stmt → List Piece
  print_stmt m d (tree.Block items) = mark_piece mark.OPEN_BRACE d ∷ (print_stmts m d items ++ mark_piece mark.CLOSE_BRACE d ∷ [])
  print_stmt m d tree.Empty = mark_piece mark.SEMICOLON d ∷ []
  print_stmt m d (tree.Debugger semi) = word_piece word.DEBUGGER d ∷ semi_piece Keyword semi d
  print_stmt m d (tree.Binding decl binds semi) = word_piece (decl_word decl) d
      ∷ (print_binds m d binds ++ semi_piece (binds_ending BareBinding binds) semi d)
  print_stmt m d (tree.Value e semi) = print m (suc d) e ++ semi_piece (ending e) semi d
  print_stmt m d (tree.If test then_stmt else_stmt) = word_piece word.IF d ∷ mark_piece mark.OPEN_PAREN d
      ∷ (print m (suc d) test ++ (mark_piece mark.CLOSE_PAREN d ∷ (print_stmt m (suc d) then_stmt ++ print_else m d else_stmt)))
  print_stmt m d (tree.Do body test semi) = word_piece word.DO d
      ∷ (print_stmt m (suc d) body ++ (word_piece word.WHILE d ∷ mark_piece mark.OPEN_PAREN d
      ∷ (print m (suc d) test ++ (mark_piece mark.CLOSE_PAREN d ∷ semi_piece DoWhile semi d))))
  print_stmt m d (tree.While test body) = word_piece word.WHILE d ∷ mark_piece mark.OPEN_PAREN d
      ∷ (print m (suc d) test ++ (mark_piece mark.CLOSE_PAREN d ∷ print_stmt m (suc d) body))
  print_stmt m d (tree.For init test update body) = word_piece word.FOR d ∷ mark_piece mark.OPEN_PAREN d
      ∷ (print_init m d init ++ (mark_piece mark.SEMICOLON d
      ∷ (print_maybe m (suc d) test ++ (mark_piece mark.SEMICOLON d
      ∷ (print_maybe m (suc d) update ++ (mark_piece mark.CLOSE_PAREN d ∷ print_stmt m (suc d) body))))))
  print_stmt m d (tree.ForIn each over body) = word_piece word.FOR d ∷ mark_piece mark.OPEN_PAREN d
      ∷ (print_each m d each ++ (word_piece word.IN d ∷ (print m (suc d) over ++ (mark_piece mark.CLOSE_PAREN d ∷ print_stmt m (suc d) body))))
  print_stmt m d (tree.Continue at label semi) = placed (kind.Word word.CONTINUE) at d ∷ (print_label label d ++ semi_piece Keyword semi d)
  print_stmt m d (tree.Break at label semi) = placed (kind.Word word.BREAK) at d ∷ (print_label label d ++ semi_piece Keyword semi d)
  print_stmt m d (tree.Return value semi) = word_piece word.RETURN d ∷ (glue (print_maybe m (suc d) value) ++ semi_piece (return_ending value) semi d)
  print_stmt m d (tree.Throw value semi) = word_piece word.THROW d ∷ (glue (print m (suc d) value) ++ semi_piece (ending value) semi d)
  print_stmt m d (tree.Switch of clauses) = word_piece word.SWITCH d ∷ mark_piece mark.OPEN_PAREN d
      ∷ (print m (suc d) of ++ (mark_piece mark.CLOSE_PAREN d ∷ mark_piece mark.OPEN_BRACE d
      ∷ (print_clauses m d clauses ++ mark_piece mark.CLOSE_BRACE d ∷ [])))
  print_stmt m d (tree.Label name body) = name_piece name (suc d) ∷ mark_piece mark.COLON d ∷ print_stmt m (suc d) body
  print_stmt m d (tree.Try body param handler) = word_piece word.TRY d ∷ mark_piece mark.OPEN_BRACE d
      ∷ (print_stmts m d body ++ (mark_piece mark.CLOSE_BRACE d ∷ word_piece word.CATCH d
      ∷ (print_catch_param param d ++ (mark_piece mark.OPEN_BRACE d ∷ (print_stmts m d handler ++ mark_piece mark.CLOSE_BRACE d ∷ [])))))
  print_stmt m d (tree.Declared f) = print_declared m d f
