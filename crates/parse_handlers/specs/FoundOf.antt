-- What a list of functions that were found stands for, and the relations of the handler that keeps such lists.
use Rattle.std.specs.Prelude.{Bool, ℕ, List, [], ◌∷◌, ◌≡◌, Option, option_map, map}
use Rattle.stencil_data.specs.declared.functions.FuncKind.{FuncKind}
use Rattle.parse_handlers.specs.declared.found.FoundFunction.{FoundFunction}
use Rattle.parse_handlers.specs.declared.found.FoundFunction.TheOpen.{FoundFunction-F}
use Rattle.parse_handlers.specs.declared.found.FoundFunction.TheFolds.{fold-FoundFunction}
use Rattle.parse_handlers.specs.declared.found.SyntaxNode.{SyntaxNode}
use Rattle.parse_handlers.specs.declared.found.SyntaxBody.{SyntaxBody}
use Rattle.script_grammar.specs.Interpretation.{Interpretation, text_of}
use Rattle.script_grammar.specs.Tree.{Expr, Stmt, Stmts, Prop, Function}
use Rattle.parse_handlers.specs.Inner.{Inner, no_inner, more_inner, in_expr, in_stmt, in_stmts, in_prop, in_function}

-- one function that was found
pub record FoundAs : Type 0 where
  pub start : ℕ
  pub end : ℕ
  pub kind : FuncKind
  pub name : Option (List ℕ)
  pub braced : Bool
  pub simple : Bool
  pub inner : Inner

-- these functions, and then those
abbrev pub before : List FoundAs → Inner → Inner
before [] r = r
before (f ∷ fs) r = more_inner f.start f.end f.kind f.name f.braced f.simple f.inner (before fs r)

abbrev pub found_step : Interpretation → FoundFunction-F FoundAs → FoundAs
found_step i row = record {
  start = row.extent.start;
  end = row.extent.end;
  kind = row.kind;
  name = option_map (text_of i) row.name;
  braced = row.braced;
  simple = row.simple;
  inner = before row.inner.items no_inner;
}

abbrev pub found_of : Interpretation → FoundFunction → FoundAs
found_of i = fold-FoundFunction FoundAs (found_step i)

abbrev pub founds_before : Interpretation → List FoundFunction → Inner → Inner
founds_before i fs = before (map (found_of i) fs)

-- A node stands for the trees whose functions, directly in them, are the node's.
abbrev pub HoldsExpr : Interpretation → SyntaxNode → Expr → Type 0
HoldsExpr i n t = (r : Inner) → founds_before i n.found.items r ≡ in_expr t r

abbrev pub HoldsStmt : Interpretation → SyntaxNode → Stmt → Type 0
HoldsStmt i n t = (r : Inner) → founds_before i n.found.items r ≡ in_stmt t r

abbrev pub HoldsProp : Interpretation → SyntaxNode → Prop → Type 0
HoldsProp i n t = (r : Inner) → founds_before i n.found.items r ≡ in_prop t r

abbrev pub HoldsBody : Interpretation → SyntaxBody → Stmts → Type 0
HoldsBody i n t = (r : Inner) → founds_before i n.found.items r ≡ in_stmts t r

abbrev pub HoldsFunction : Interpretation → (declared : Bool) → SyntaxNode → Function → Type 0
HoldsFunction i declared n f = (r : Inner) → founds_before i n.found.items r ≡ in_function declared f r
