-- What is written for small scripts, computed.
use Rattle.std.proofs.Common.{◌≡◌, refl, ℕ, zero, suc, List, [], ◌∷◌, ◌++◌, false, None, codes}
use Rattle.std.specs.Prelude.{flat_map}
use Rattle.std.specs.Fmt.{digits}
use Rattle.script_grammar.specs.Tree.{Stmts, Declared, Value, Paren, Func}
use Rattle.stencil_data.specs.declared.functions.FuncKind.TheVariants as func
use Rattle.stencil_data.specs.Named.{NamedFunction, NamedMerged}
use Rattle.bytecode_buf.specs.Command.{Command, Listed}
use Rattle.parse_track.specs.Notes.{closed_names}
use Rattle.emit_stmts.specs.Functions.{top_script}
use Rattle.scope_analysis.proofs.RowTrees as row
use Rattle.compile_specs.specs.Eager.{Site, compiled_at, sites_in, top_sites}
use Rattle.compile_specs.specs.Shown.{Wanted, All, Numbers, shown}
use Rattle.script_image.specs.ScriptLines.{code_text, scope_text, lazy_line, listed_merged}
use Rattle.session_specs.specs.Answer.{file_line}
use Rattle.session_trial.specs.Generated.{generated}
use Rattle.session_specs.specs.Refusals.{TooLong, BadUtf8, Unexpected, TooDeep, Early, NoFunction, NoImage, refusal_line}

-- the functions at these sites and in them, at n depths
abbrev compiled_within : ℕ → List Site → List (NamedFunction (List Command))
compiled_within zero ss = []
compiled_within (suc n) ss = flat_map (λ (s : Site). (compiled_at s).part ∷ compiled_within n (sites_in s)) ss

-- a script of a text that ends here, with these functions wanted
abbrev shown_script : Wanted → Stmts → ℕ → NamedMerged (List Listed)
shown_script wanted items end = listed_merged (shown wanted (closed_names items) (top_script items end).part (compiled_within 3 (top_sites items end)))

-- `function f(x){ return () => () => x }`
code_row : code_text (shown_script (Numbers (1 ∷ [])) (row.only (Declared row.returns_arrows)) 37)
    ≡ codes "script 0 top 0..37\n  00000 GlobalOrEvalDeclInstantiation 1\n  00005 RetRval\nscript 1 function 10..37 \"f\"\n  00000 Lambda 2\n  00005 Return\n  00006 RetRval\nscript 2 lazy 22..35 - inner 3 closed -\nscript 3 lazy 28..35 - inner - closed -\n"
unfolding digits
code_row = refl

lazy_row : code_text (shown_script (Numbers []) (row.only (Declared row.returns_arrows)) 37)
    ≡ codes "script 0 top 0..37\n  00000 GlobalOrEvalDeclInstantiation 1\n  00005 RetRval\nscript 1 lazy 10..37 \"f\" inner 2 closed 0:\"x\"\nscript 2 lazy 22..35 - inner 3 closed -\nscript 3 lazy 28..35 - inner - closed -\n"
unfolding digits
lazy_row = refl

scopes_row : scope_text (shown_script (Numbers (1 ∷ [])) (row.only (Declared row.returns_arrows)) 37)
    ≡ codes "script 0 top 0..37\n  scope 0 Global parent - env 0\n    \"f\" var global\nscript 1 function 10..37 \"f\"\n  scope 0 Function parent - env 1\n    \"x\" param env 0\nscript 2 lazy 22..35 - inner 3 closed -\nscript 3 lazy 28..35 - inner - closed -\n"
unfolding digits
scopes_row = refl

-- `(function g(){ return () => this + arguments.length + g })`
names_row : scope_text (shown_script All (row.only (Value (Paren 0 (Func 1 row.own_name)) false)) 58)
    ≡ codes "script 0 top 0..58\n  scope 0 Global parent - env 0\nscript 1 function 11..57 \"g\"\n  scope 0 StrictNamedLambda parent - env 1\n    \"g\" callee env 0\n  scope 1 Function parent 0 env 2\n    \"arguments\" arguments env 0\n    \".this\" this env 1\nscript 2 function 22..55 -\n  scope 0 Function parent - env 0\n"
unfolding digits
names_row = refl

-- `try{}catch(e){var e = 1}`
note_row : code_text (shown_script All row.catch_var_script 24)
    ≡ codes "script 0 top 0..24\n  00000 GlobalOrEvalDeclInstantiation 0\n  00005 Try\n  00006 Goto 28\n  00015 JumpTarget\n  00016 Exception\n  00017 InitLexical 0\n  00021 Pop\n  00022 One\n  00023 SetLocal 0\n  00027 Pop\n  00028 JumpTarget\n  00029 RetRval\n  catch 6..15 depth 0\n"
unfolding digits
note_row = refl

-- a function called where it is written, with two functions in it
module_row : file_line (codes "a.js") ++ code_text (shown_script (Numbers (1 ∷ [])) row.module_script 286)
    ≡ codes "file a.js\nscript 0 top 0..286\n  00000 GlobalOrEvalDeclInstantiation 0\n  00005 Lambda 1\n  00010 Undefined\n  00011 Call 0\n  00014 SetRval\n  00015 RetRval\nscript 1 function 10..281 -\n  00000 Uninitialized\n  00001 InitLexical 2\n  00005 Pop\n  00006 Lambda 2\n  00011 SetLocal 0\n  00015 Pop\n  00016 Zero\n  00017 SetAliasedVar 0 0\n  00023 Pop\n  00024 NewArray 2\n  00029 String \"a\"\n  00034 InitElemArray 0\n  00039 String \"b\"\n  00044 InitElemArray 1\n  00049 InitLexical 2\n  00053 Pop\n  00054 GetLocal 2\n  00058 CheckLexical 2\n  00062 Iter\n  00063 LoopHead\n  00064 MoreIter\n  00065 IsNoIter\n  00066 JumpIfTrue 151\n  00075 Dup\n  00076 SetLocal 1\n  00080 Pop\n  00081 GetLocal 2\n  00085 CheckLexical 2\n  00089 GetLocal 1\n  00093 GetElem\n  00094 Dup\n  00095 String \"a\"\n  00100 StrictEq\n  00101 Case 119\n  00110 Default 129\n  00119 JumpTarget\n  00120 Goto 140\n  00129 JumpTarget\n  00130 GetLocal 0\n  00134 Undefined\n  00135 Call 0\n  00138 Pop\n  00139 JumpTarget\n  00140 JumpTarget\n  00141 Pop\n  00142 Goto 63\n  00151 JumpTarget\n  00152 EndIter\n  00153 JumpTarget\n  00154 GetGName \"window\"\n  00159 NewInit\n  00160 Lambda 3\n  00165 InitPropGetter \"size\"\n  00170 GetLocal 0\n  00174 InitProp \"next\"\n  00179 StrictSetProp \"app\"\n  00184 Pop\n  00185 RetRval\nscript 2 lazy 75..97 \"next\" inner - closed -\nscript 3 lazy 244..264 - inner - closed -\n"
unfolding digits
module_row = refl

-- `function f(a, g = () => a) { var a; return g }`
body_vars_row : scope_text (shown_script (Numbers (1 ∷ [])) (row.only (Declared row.default_and_var)) 46)
    ≡ codes "script 0 top 0..46\n  scope 0 Global parent - env 0\n    \"f\" var global\nscript 1 function 10..46 \"f\"\n  scope 0 Function parent - env 1\n    \"a\" param env 0\n    \"g\" param arg 1\n  scope 1 FunctionBodyVar parent 0 env 0\n    \"a\" var frame 0\nscript 2 lazy 18..25 - inner - closed -\n"
unfolding digits
body_vars_row = refl

closed_row : lazy_line 1 (record { extent = record { start = 10; end = 281 }; kind = func.Expression; name = None; inner = 2 ∷ 3 ∷ []; closed = record { scope = 0; text = codes "count" } ∷ record { scope = 2; text = codes "a\"" } ∷ [] })
    ≡ codes "script 1 lazy 10..281 - inner 2,3 closed 0:\"count\",2:\"a\\u0022\"\n"
unfolding digits
closed_row = refl

generated_row : generated 1 2
    ≡ codes "function f0(a, b) { return a + b * 0; }\nfunction f1(a, b) { return a + b * 1; }\n"
unfolding digits
generated_row = refl

generated_long_row : generated 7 12
    ≡ codes "function f0(a, b) { return a + b * 0; }\nfunction g1(n) { for (let j = 0; j < n; j++) { if (j > 1) break; } }\nfunction f2(a, b) { return a + b * 2; }\nfunction g3(n) { for (let j = 0; j < n; j++) { if (j > 3) break; } }\nvar v4 = function () { var c = 4; return () => c++; };\nfunction f5(a, b) { return a + b * 5; }\nvar v6 = function () { var c = 6; return () => c++; };\nfunction f7(a, b) { return a + b * 7; }\nvar o8 = { get x() { return this.y; }, y: 8 };\nvar o9 = { get x() { return this.y; }, y: 9 };\nvar v10 = function () { var c = 10; return () => c++; };\nfunction f11(a, b) { return a + b * 11; }\n"
unfolding digits
generated_long_row = refl

refusals_row : flat_map (refusal_line (codes "a.js")) (TooLong ∷ BadUtf8 1 ∷ Unexpected 14 ∷ TooDeep 399 ∷ Early 131072 13 ∷ NoFunction 99 ∷ NoImage ∷ [])
    ≡ codes "a.js: too long\na.js:1: not UTF-8\na.js:14: unexpected\na.js:399: too deep\na.js:131072: early error 13\na.js: no function 99\na.js: no image\n"
unfolding digits
refusals_row = refl
