-- The form in which a function of each kind is written (ECMA-262, 12th edition, clauses 15.2 to 15.4).
use Rattle.script_grammar.specs.declared.token.FuncForm.{FuncForm}
use Rattle.script_grammar.specs.declared.token.FuncForm.TheVariants as form
use Rattle.stencil_data.specs.declared.functions.FuncKind.{FuncKind}
use Rattle.stencil_data.specs.declared.functions.FuncKind.TheVariants as func

abbrev pub form_of : FuncKind → FuncForm
form_of func.Declared = form.Function
form_of func.Expression = form.Function
form_of func.Arrow = form.Arrow
form_of func.Method = form.Method
form_of func.Getter = form.Getter
form_of func.Setter = form.Setter
