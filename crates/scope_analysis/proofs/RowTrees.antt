-- Trees of small scripts, written out, on which definitions are computed.
use Rattle.std.specs.Prelude.{ℕ, List, true, false, codes, Some, None}
use Rattle.script_grammar.specs.declared.token.FuncForm.TheVariants as form
use Rattle.script_grammar.specs.declared.token.Decl.TheVariants as decl
use Rattle.script_grammar.specs.declared.token.mark.TheConstants as mark
use Rattle.script_grammar.specs.Tree.{Named, Expr, This, Name, Number, Str, Template, Array, Object, Func, Paren, Chain, New, Update, Binary, Assign, no_exprs, more_exprs, no_expr, some_expr, some_args, no_parts, more_parts, no_items, more_items, Operands, no_operands, more_operands, Dot, Index, Call, Tails, no_tails, more_tails, WordKey, Pair, Get, no_props, more_props, Function, function, no_params, more_params, BracedBody, ShortBody, no_binds, more_binds, BindsInit, BindEach, no_clauses, more_clauses, Stmt, Stmts, no_stmts, more_stmts, Block, Binding, Value, For, ForIn, Continue, Return, Switch, Label, Try, Declared}

abbrev pub at : List ℕ → ℕ → Named
at text offset = record { text = text; at = offset }

abbrev pub name_at : List ℕ → ℕ → Expr
name_at text offset = Name (at text offset)

abbrev pub only : Stmt → Stmts
only s = more_stmts s no_stmts

abbrev pub plus : Expr → Operands → Operands
plus value rest = more_operands mark.PLUS false value rest

abbrev pub dot : List ℕ → Tails → Tails
dot text rest = more_tails (Dot text) rest

-- `1 + 2;`
abbrev pub sum_script : Stmts
sum_script = only (Value (Binary (Number 0 1) (plus (Number 4 2) no_operands)) true)

-- `a`, line end, `(b)`
abbrev pub call_script : Stmts
call_script = only (Value (Chain (name_at (codes "a") 0) (more_tails (Call (more_exprs (name_at (codes "b") 3) no_exprs) false) no_tails)) false)

-- `a`, line end, `++b`
abbrev pub lines_script : Stmts
lines_script = more_stmts (Value (name_at (codes "a") 0) false) (only (Value (Update 2 mark.INCREMENT true (name_at (codes "b") 4)) false))

-- `x => {}`, line end, `(y)`
abbrev pub empty_arrow : Function
empty_arrow = function form.Arrow 0 7 None (more_params (at (codes "x") 0) no_expr false no_params) false true (BracedBody no_stmts)

abbrev pub arrow_script : Stmts
arrow_script = more_stmts (Value (Func 0 empty_arrow) false) (only (Value (Paren 8 (name_at (codes "y") 9)) false))

-- `function f(x){ return () => () => x }`
abbrev pub innermost_arrow : Function
innermost_arrow = function form.Arrow 28 35 None no_params false false (ShortBody (name_at (codes "x") 34))

abbrev pub middle_arrow : Function
middle_arrow = function form.Arrow 22 35 None no_params false false (ShortBody (Func 28 innermost_arrow))

abbrev pub returns_arrows : Function
returns_arrows = function form.Function 10 37 (Some (at (codes "f") 9)) (more_params (at (codes "x") 11) no_expr false no_params) false false (BracedBody (only (Return (some_expr (Func 22 middle_arrow)) false)))

-- `(function g(){ return () => this + arguments.length + g })`
abbrev pub this_arrow : Function
this_arrow = function form.Arrow 22 55 None no_params false false
    (ShortBody (Binary (This 28) (plus (Chain (name_at (codes "arguments") 35) (dot (codes "length") no_tails)) (plus (name_at (codes "g") 54) no_operands))))

abbrev pub own_name : Function
own_name = function form.Function 11 57 (Some (at (codes "g") 10)) no_params false false (BracedBody (only (Return (some_expr (Func 22 this_arrow)) false)))

-- `try{}catch(e){var e = 1}`
abbrev pub catch_var_script : Stmts
catch_var_script = only (Try no_stmts (Some (at (codes "e") 11)) (only (Binding decl.Var (more_binds (at (codes "e") 18) (some_expr (Number 22 1)) no_binds) false)))

-- `try{}catch(e){()=>e}`
abbrev pub catch_arrow : Function
catch_arrow = function form.Arrow 14 19 None no_params false false (ShortBody (name_at (codes "e") 18))

abbrev pub catch_arrow_script : Stmts
catch_arrow_script = only (Try no_stmts (Some (at (codes "e") 11)) (only (Value (Func 14 catch_arrow) false)))

-- the script of a module pattern: an outer function with a closed-over counter, a labelled for-in and a switch
abbrev pub next_function : Function
next_function = function form.Function 75 97 (Some (at (codes "next") 71)) no_params false false
    (BracedBody (only (Return (some_expr (Update 87 mark.INCREMENT true (name_at (codes "count") 89))) true)))

abbrev pub size_getter : Function
size_getter = function form.Getter 244 264 None no_params false false (BracedBody (only (Return (some_expr (name_at (codes "count") 256)) true)))

abbrev pub outer_switch : Stmt
outer_switch = Switch (Chain (name_at (codes "names") 144) (more_tails (Index (name_at (codes "k") 150)) no_tails))
    (more_clauses (some_expr (Str 167 170 (codes "a"))) (only (Continue 172 (Some (at (codes "outer") 181)) true))
    (more_clauses no_expr (only (Value (Chain (name_at (codes "next") 203) (more_tails (Call no_exprs false) no_tails)) true)) no_clauses))

abbrev pub module_function : Function
module_function = function form.Function 10 281 None no_params false false (BracedBody
    (more_stmts (Binding decl.Var (more_binds (at (codes "count") 21) (some_expr (Number 29 0)) no_binds) true)
    (more_stmts (Binding decl.Const (more_binds (at (codes "names") 40) (some_expr (Array 48 (more_items (some_expr (Str 49 52 (codes "a"))) (more_items (some_expr (Str 54 57 (codes "b"))) no_items)) false)) no_binds) true)
    (more_stmts (Declared next_function)
    (more_stmts (Label (at (codes "outer") 100) (ForIn (BindEach decl.Var (at (codes "k") 116)) (name_at (codes "names") 121) (Block (only outer_switch))))
    (only (Value (Assign mark.ASSIGN (Chain (name_at (codes "window") 222) (dot (codes "app") no_tails))
    (Object 235 (more_props (Get (WordKey (at (codes "size") 241)) size_getter) (more_props (Pair (WordKey (at (codes "next") 266)) (name_at (codes "next") 272)) no_props)) false)) true)))))))

abbrev pub module_script : Stmts
module_script = only (Value (Chain (Paren 0 (Func 1 module_function)) (more_tails (Call no_exprs false) no_tails)) true)

-- `for (let i = 0; i < 2; i++) f(() => i);`
abbrev pub loop_arrow : Function
loop_arrow = function form.Arrow 30 37 None no_params false false (ShortBody (name_at (codes "i") 36))

abbrev pub loop_script : Stmts
loop_script = only (For (BindsInit decl.Let (more_binds (at (codes "i") 9) (some_expr (Number 13 0)) no_binds))
    (some_expr (Binary (name_at (codes "i") 16) (more_operands mark.LESS false (Number 20 2) no_operands)))
    (some_expr (Update 23 mark.INCREMENT false (name_at (codes "i") 23)))
    (Value (Chain (name_at (codes "f") 28) (more_tails (Call (more_exprs (Func 30 loop_arrow) no_exprs) false) no_tails)) true))

-- `x++;`
abbrev pub postfix_script : Stmts
postfix_script = only (Value (Update 0 mark.INCREMENT false (name_at (codes "x") 0)) true)

-- `new f(1).g`
abbrev pub new_script : Stmts
new_script = only (Value (Chain (New 0 (name_at (codes "f") 4) (some_args (more_exprs (Number 6 1) no_exprs) false)) (dot (codes "g") no_tails)) false)

-- `` `a${x}b`; ``
abbrev pub template_script : Stmts
template_script = only (Value (Template 0 (codes "a") (more_parts (name_at (codes "x") 4) (codes "b") no_parts)) true)

-- `function f(a, b = a, ...c) { return c }`
abbrev pub default_and_rest : Function
default_and_rest = function form.Function 10 39 (Some (at (codes "f") 9))
    (more_params (at (codes "a") 11) no_expr false (more_params (at (codes "b") 14) (some_expr (name_at (codes "a") 18)) false (more_params (at (codes "c") 24) no_expr true no_params)))
    false false (BracedBody (only (Return (some_expr (name_at (codes "c") 36)) false)))

-- `function f(a, g = () => a) { var a; return g }`
abbrev pub default_arrow : Function
default_arrow = function form.Arrow 18 25 None no_params false false (ShortBody (name_at (codes "a") 24))

abbrev pub default_and_var : Function
default_and_var = function form.Function 10 46 (Some (at (codes "f") 9))
    (more_params (at (codes "a") 11) no_expr false (more_params (at (codes "g") 14) (some_expr (Func 18 default_arrow)) false no_params))
    false false (BracedBody (more_stmts (Binding decl.Var (more_binds (at (codes "a") 33) no_expr no_binds) true) (only (Return (some_expr (name_at (codes "g") 43)) false))))
