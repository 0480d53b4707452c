-- Code of small scripts and functions, computed.
use Rattle.std.proofs.Common.{◌≡◌, ℕ, List, [], ◌∷◌, refl, codes, Some, None, slice_index_or}
use Rattle.stencil_data.specs.LinkView.{LinkView}
use Rattle.stencil_data.specs.declared.functions.FuncKind.TheVariants as func
use Rattle.bytecode_buf.specs.declared.opcode.Op.{Op}
use Rattle.bytecode_buf.specs.declared.opcode.Op.TheVariants as op
use Rattle.bytecode_buf.specs.Command.{Operand, Nothing, Number, Text, Aliased, Target, Listed, placed}
use Rattle.emit_stmts.specs.Frames.{global_link}
use Rattle.emit_stmts.specs.Functions.{Compiled, top_script, function_script}
use Rattle.scope_analysis.proofs.RowTrees as row

abbrev line : ℕ → Op → Operand → Listed
line at op operand = record { at = at; command = record { op = op; operand = operand } }

abbrev bare : ℕ → Op → Listed
bare at op = line at op Nothing

abbrev num : ℕ → Op → ℕ → Listed
num at op n = line at op (Number n)

abbrev text : ℕ → Op → List ℕ → Listed
text at op t = line at op (Text t)

abbrev env : ℕ → Op → ℕ → ℕ → Listed
env at op hops slot = line at op (Aliased hops slot)

abbrev goes : ℕ → Op → ℕ → Listed
goes at op target = line at op (Target target)

abbrev lines_of : Compiled → List Listed
lines_of c = placed c.part.code

abbrev outside : List LinkView
outside = global_link ∷ []

-- the chain at the n-th function in this one
abbrev chain_in : Compiled → ℕ → List LinkView
chain_in c n = slice_index_or c.chains n []

pub sum_row : lines_of (top_script row.sum_script 6)
    ≡ num 0 op.GlobalOrEvalDeclInstantiation 0 ∷ bare 5 op.One ∷ num 6 op.Int8 2 ∷ bare 8 op.Add ∷ bare 9 op.SetRval ∷ bare 10 op.RetRval ∷ []
sum_row = refl

pub call_row : lines_of (top_script row.call_script 5)
    ≡ num 0 op.GlobalOrEvalDeclInstantiation 0 ∷ text 5 op.GetGName (codes "a") ∷ bare 10 op.Undefined ∷ text 11 op.GetGName (codes "b") ∷ num 16 op.Call 1 ∷ bare 19 op.SetRval ∷ bare 20 op.RetRval ∷ []
call_row = refl

pub lines_row : lines_of (top_script row.lines_script 5)
    ≡ num 0 op.GlobalOrEvalDeclInstantiation 0 ∷ text 5 op.GetGName (codes "a") ∷ bare 10 op.SetRval ∷ text 11 op.BindGName (codes "b") ∷ text 16 op.GetGName (codes "b")
    ∷ bare 21 op.ToNumeric ∷ bare 22 op.Inc ∷ text 23 op.StrictSetGName (codes "b") ∷ bare 28 op.SetRval ∷ bare 29 op.RetRval ∷ []
lines_row = refl

pub arrow_row : lines_of (top_script row.arrow_script 11)
    ≡ num 0 op.GlobalOrEvalDeclInstantiation 0 ∷ num 5 op.Lambda 0 ∷ bare 10 op.SetRval ∷ text 11 op.GetGName (codes "y") ∷ bare 16 op.SetRval ∷ bare 17 op.RetRval ∷ []
arrow_row = refl

pub empty_arrow_row : lines_of (function_script func.Arrow None row.empty_arrow outside) ≡ bare 0 op.RetRval ∷ []
empty_arrow_row = refl

abbrev outer_of_arrows : Compiled
outer_of_arrows = function_script func.Declared (Some (codes "f")) row.returns_arrows outside

abbrev middle_of_arrows : Compiled
middle_of_arrows = function_script func.Arrow None row.middle_arrow (chain_in outer_of_arrows 0)

pub outer_arrow_row : lines_of outer_of_arrows ≡ num 0 op.Lambda 0 ∷ bare 5 op.Return ∷ bare 6 op.RetRval ∷ []
outer_arrow_row = refl

pub middle_arrow_row : lines_of middle_of_arrows ≡ num 0 op.Lambda 0 ∷ bare 5 op.Return ∷ []
middle_arrow_row = refl

pub innermost_arrow_row : lines_of (function_script func.Arrow None row.innermost_arrow (chain_in middle_of_arrows 0)) ≡ env 0 op.GetAliasedVar 0 0 ∷ bare 6 op.Return ∷ []
innermost_arrow_row = refl

abbrev own_name : Compiled
own_name = function_script func.Expression (Some (codes "g")) row.own_name outside

pub own_name_row : lines_of own_name
    ≡ bare 0 op.Arguments ∷ env 1 op.SetAliasedVar 0 0 ∷ bare 7 op.Pop ∷ bare 8 op.FunctionThis ∷ env 9 op.SetAliasedVar 0 1 ∷ bare 15 op.Pop ∷ num 16 op.Lambda 0 ∷ bare 21 op.Return ∷ bare 22 op.RetRval ∷ []
own_name_row = refl

pub this_arrow_row : lines_of (function_script func.Arrow None row.this_arrow (chain_in own_name 0))
    ≡ env 0 op.GetAliasedVar 0 1 ∷ env 6 op.GetAliasedVar 0 0 ∷ text 12 op.GetProp (codes "length") ∷ bare 17 op.Add ∷ env 18 op.GetAliasedVar 1 0 ∷ bare 24 op.Add ∷ bare 25 op.Return ∷ []
this_arrow_row = refl

pub catch_var_row : lines_of (top_script row.catch_var_script 24)
    ≡ num 0 op.GlobalOrEvalDeclInstantiation 0 ∷ bare 5 op.Try ∷ goes 6 op.Goto 28 ∷ bare 15 op.JumpTarget ∷ bare 16 op.Exception ∷ num 17 op.InitLexical 0 ∷ bare 21 op.Pop
    ∷ bare 22 op.One ∷ num 23 op.SetLocal 0 ∷ bare 27 op.Pop ∷ bare 28 op.JumpTarget ∷ bare 29 op.RetRval ∷ []
catch_var_row = refl

pub catch_var_notes : (top_script row.catch_var_script 24).part.notes ≡ record { start = 6; end = 15; depth = 0 } ∷ []
catch_var_notes = refl

abbrev catch_arrow : Compiled
catch_arrow = top_script row.catch_arrow_script 20

pub catch_arrow_row : lines_of catch_arrow
    ≡ num 0 op.GlobalOrEvalDeclInstantiation 0 ∷ bare 5 op.Try ∷ goes 6 op.Goto 36 ∷ bare 15 op.JumpTarget ∷ num 16 op.PushLexicalEnv 1 ∷ bare 21 op.Exception ∷ env 22 op.InitAliasedLexical 0 0 ∷ bare 28 op.Pop
    ∷ num 29 op.Lambda 0 ∷ bare 34 op.SetRval ∷ bare 35 op.PopLexicalEnv ∷ bare 36 op.JumpTarget ∷ bare 37 op.RetRval ∷ []
catch_arrow_row = refl

pub caught_row : lines_of (function_script func.Arrow None row.catch_arrow (chain_in catch_arrow 0)) ≡ env 0 op.GetAliasedVar 0 0 ∷ bare 6 op.Return ∷ []
caught_row = refl

pub module_row : lines_of (top_script row.module_script 286)
    ≡ num 0 op.GlobalOrEvalDeclInstantiation 0 ∷ num 5 op.Lambda 0 ∷ bare 10 op.Undefined ∷ num 11 op.Call 0 ∷ bare 14 op.SetRval ∷ bare 15 op.RetRval ∷ []
module_row = refl

pub module_function_row : lines_of (function_script func.Expression None row.module_function outside)
    ≡ bare 0 op.Uninitialized ∷ num 1 op.InitLexical 2 ∷ bare 5 op.Pop ∷ num 6 op.Lambda 0 ∷ num 11 op.SetLocal 0 ∷ bare 15 op.Pop ∷ bare 16 op.Zero ∷ env 17 op.SetAliasedVar 0 0 ∷ bare 23 op.Pop
    ∷ num 24 op.NewArray 2 ∷ text 29 op.String (codes "a") ∷ num 34 op.InitElemArray 0 ∷ text 39 op.String (codes "b") ∷ num 44 op.InitElemArray 1 ∷ num 49 op.InitLexical 2 ∷ bare 53 op.Pop
    ∷ num 54 op.GetLocal 2 ∷ num 58 op.CheckLexical 2 ∷ bare 62 op.Iter ∷ bare 63 op.LoopHead ∷ bare 64 op.MoreIter ∷ bare 65 op.IsNoIter ∷ goes 66 op.JumpIfTrue 151 ∷ bare 75 op.Dup ∷ num 76 op.SetLocal 1 ∷ bare 80 op.Pop
    ∷ num 81 op.GetLocal 2 ∷ num 85 op.CheckLexical 2 ∷ num 89 op.GetLocal 1 ∷ bare 93 op.GetElem ∷ bare 94 op.Dup ∷ text 95 op.String (codes "a") ∷ bare 100 op.StrictEq ∷ goes 101 op.Case 119 ∷ goes 110 op.Default 129
    ∷ bare 119 op.JumpTarget ∷ goes 120 op.Goto 140 ∷ bare 129 op.JumpTarget ∷ num 130 op.GetLocal 0 ∷ bare 134 op.Undefined ∷ num 135 op.Call 0 ∷ bare 138 op.Pop ∷ bare 139 op.JumpTarget ∷ bare 140 op.JumpTarget
    ∷ bare 141 op.Pop ∷ goes 142 op.Goto 63 ∷ bare 151 op.JumpTarget ∷ bare 152 op.EndIter ∷ bare 153 op.JumpTarget
    ∷ text 154 op.GetGName (codes "window") ∷ bare 159 op.NewInit ∷ num 160 op.Lambda 1 ∷ text 165 op.InitPropGetter (codes "size") ∷ num 170 op.GetLocal 0 ∷ text 174 op.InitProp (codes "next") ∷ text 179 op.StrictSetProp (codes "app") ∷ bare 184 op.Pop ∷ bare 185 op.RetRval ∷ []
module_function_row = refl

abbrev loop : Compiled
loop = top_script row.loop_script 39

pub loop_row : lines_of loop
    ≡ num 0 op.GlobalOrEvalDeclInstantiation 0 ∷ num 5 op.PushLexicalEnv 1 ∷ bare 10 op.Zero ∷ env 11 op.InitAliasedLexical 0 0 ∷ bare 17 op.Pop ∷ bare 18 op.FreshenLexicalEnv ∷ bare 19 op.LoopHead
    ∷ env 20 op.GetAliasedVar 0 0 ∷ env 26 op.CheckAliasedLexical 0 0 ∷ num 32 op.Int8 2 ∷ bare 34 op.Lt ∷ goes 35 op.JumpIfFalse 106 ∷ text 44 op.GetGName (codes "f") ∷ bare 49 op.Undefined ∷ num 50 op.Lambda 0 ∷ num 55 op.Call 1 ∷ bare 58 op.SetRval
    ∷ bare 59 op.JumpTarget ∷ bare 60 op.FreshenLexicalEnv ∷ env 61 op.GetAliasedVar 0 0 ∷ env 67 op.CheckAliasedLexical 0 0 ∷ bare 73 op.ToNumeric ∷ bare 74 op.Dup ∷ bare 75 op.Inc ∷ env 76 op.GetAliasedVar 0 0 ∷ env 82 op.CheckAliasedLexical 0 0
    ∷ bare 88 op.Pop ∷ env 89 op.SetAliasedVar 0 0 ∷ bare 95 op.Pop ∷ bare 96 op.Pop ∷ goes 97 op.Goto 19 ∷ bare 106 op.JumpTarget ∷ bare 107 op.PopLexicalEnv ∷ bare 108 op.RetRval ∷ []
loop_row = refl

pub loop_arrow_row : lines_of (function_script func.Arrow None row.loop_arrow (chain_in loop 0)) ≡ env 0 op.GetAliasedVar 0 0 ∷ env 6 op.CheckAliasedLexical 0 0 ∷ bare 12 op.Return ∷ []
loop_arrow_row = refl

pub postfix_row : lines_of (top_script row.postfix_script 4)
    ≡ num 0 op.GlobalOrEvalDeclInstantiation 0 ∷ text 5 op.BindGName (codes "x") ∷ text 10 op.GetGName (codes "x") ∷ bare 15 op.ToNumeric ∷ bare 16 op.Dup ∷ num 17 op.Unpick 2 ∷ bare 21 op.Inc ∷ text 22 op.StrictSetGName (codes "x") ∷ bare 27 op.Pop ∷ bare 28 op.SetRval ∷ bare 29 op.RetRval ∷ []
postfix_row = refl

pub new_row : lines_of (top_script row.new_script 10)
    ≡ num 0 op.GlobalOrEvalDeclInstantiation 0 ∷ text 5 op.GetGName (codes "f") ∷ bare 10 op.Dup ∷ bare 11 op.IsConstructing ∷ bare 12 op.One ∷ num 13 op.Pick 2 ∷ num 17 op.New 1 ∷ text 20 op.GetProp (codes "g") ∷ bare 25 op.SetRval ∷ bare 26 op.RetRval ∷ []
new_row = refl

pub template_row : lines_of (top_script row.template_script 10)
    ≡ num 0 op.GlobalOrEvalDeclInstantiation 0 ∷ text 5 op.String (codes "a") ∷ text 10 op.GetGName (codes "x") ∷ bare 15 op.ToString ∷ bare 16 op.Add ∷ text 17 op.String (codes "b") ∷ bare 22 op.Add ∷ bare 23 op.SetRval ∷ bare 24 op.RetRval ∷ []
template_row = refl

pub default_and_rest_row : lines_of (function_script func.Declared (Some (codes "f")) row.default_and_rest outside)
    ≡ num 0 op.GetArg 1 ∷ bare 3 op.Undefined ∷ bare 4 op.StrictEq ∷ goes 5 op.JumpIfFalse 21 ∷ num 14 op.GetArg 0 ∷ num 17 op.SetArg 1 ∷ bare 20 op.Pop ∷ bare 21 op.JumpTarget
    ∷ bare 22 op.Rest ∷ num 23 op.SetArg 2 ∷ bare 26 op.Pop ∷ num 27 op.GetArg 2 ∷ bare 30 op.Return ∷ bare 31 op.RetRval ∷ []
default_and_rest_row = refl

pub default_and_var_row : lines_of (function_script func.Declared (Some (codes "f")) row.default_and_var outside)
    ≡ num 0 op.GetArg 1 ∷ bare 3 op.Undefined ∷ bare 4 op.StrictEq ∷ goes 5 op.JumpIfFalse 23 ∷ num 14 op.Lambda 0 ∷ num 19 op.SetArg 1 ∷ bare 22 op.Pop ∷ bare 23 op.JumpTarget
    ∷ env 24 op.GetAliasedVar 0 0 ∷ num 30 op.SetLocal 0 ∷ bare 34 op.Pop ∷ num 35 op.GetArg 1 ∷ bare 38 op.Return ∷ bare 39 op.RetRval ∷ []
default_and_var_row = refl
