-- What the functions that were found stand for.
use Rattle.std.specs.Prelude.{List, Option, option_map}
use Rattle.script_grammar.specs.declared.tree.Func.{out-Func}
use Rattle.script_grammar.specs.Interpretation.{Interpretation, text_of}
use Rattle.script_grammar.specs.Tree.{Function}
use Rattle.script_grammar.specs.TreeOf.{func_of}
use Rattle.stencil_data.specs.declared.functions.Extent.{Extent}
use Rattle.stencil_data.specs.declared.functions.FuncKind.{FuncKind}
use Rattle.stencil_data.specs.LinkView.{LinkView}
use Rattle.stencil_data.specs.Named.{NamedScope}
use Rattle.scope_analysis.specs.DeclaredNames.{Text}
use Rattle.scope_analysis.specs.Functions.{Inner}
use Rattle.emit_stmts.specs.Functions.{chain_at}
use Rattle.scope_inner.specs.declared.sites.FunctionSite.{FunctionSite}

-- a function, how it is written, its name, and the chain around it
pub record Sited : Type 0 where
  pub func : Function
  pub kind : FuncKind
  pub name : Option Text
  pub chain : List LinkView

abbrev pub sited : Interpretation → FunctionSite → Sited
sited i s = record { func = func_of i s.func.now; kind = s.kind; name = option_map (text_of i) s.name; chain = s.chain }

-- of a function directly in one with these scopes, which stands under this chain
abbrev pub sited_in : List NamedScope → List LinkView → Inner → Sited
sited_in scopes outer f = record { func = f.func; kind = f.kind; name = f.name; chain = chain_at scopes outer f }

abbrev pub extent_at : FunctionSite → Extent
extent_at s = record { start = (out-Func s.func.now).start; end = (out-Func s.func.now).end }
