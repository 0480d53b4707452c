-- The functions directly in a part of a tree are printed in its print.
use Rattle.std.proofs.Common.{ℕ, List, [], ◌∷◌, false, Option, None}
use Rattle.script_grammar.specs.Tree.{Function, Stmts, function}
use Rattle.script_grammar.specs.Pieces.{whole}
use Rattle.script_grammar.specs.Print.{print_function, print_func, print_declared, print_stmts, func_word, print_name}
use Rattle.script_grammar.specs.Proper.{ProperFunction, ProperStmts}
use Rattle.stencil_data.specs.declared.functions.FuncKind.{FuncKind}
use Rattle.scope_analysis.specs.DeclaredNames.{Text}
use Rattle.scope_analysis.specs.Functions.{inner_function, inner_script}
use Rattle.grammar_alone_laws.specs.Held.{Inside}
use Rattle.grammar_alone_laws.proofs.Holding.{none, inside_from, inside_glue, inside_until, both, before, past, after, alone}
use Rattle.grammar_alone_laws.proofs.InnerWalk.{Walk}
use Rattle.grammar_alone_laws.proofs.InnerWalk as walk

inside_func : (d at : ℕ) (kind : FuncKind) (name : Option Text) (f : Function) (around : List ℕ) → ProperFunction whole f → Inside (record { func = f; kind = kind; name = name; around = around } ∷ []) (print_func whole d at f)
inside_func d at kind name (function form start end who ps comma bare body) around p = before (func_word form at who d) (alone _ (record { func = function form start end who ps comma bare body; kind = kind; name = name; around = around }) p)

inside_declared : (d : ℕ) (kind : FuncKind) (name : Option Text) (f : Function) (around : List ℕ) → ProperFunction whole f → Inside (record { func = f; kind = kind; name = name; around = around } ∷ []) (print_declared whole d f)
inside_declared d kind name (function form start end who ps comma bare body) around p = past (before (print_name who d) (alone _ (record { func = function form start end who ps comma bare body; kind = kind; name = name; around = around }) p))

each : Walk Inside
each = record {
  none = λ ps. none;
  before = λ is rs ps h. before rs h;
  after = λ is rs ps h. after rs h;
  both = λ is js ps qs h k. both h k;
  from_place = λ is n ps h. inside_from n h;
  glue_place = λ is ps h. inside_glue h;
  until_place = λ is n ps h. inside_until n h;
  expression = λ d at f around e p. inside_func d at _ _ f around p;
  declaration = λ d f around p. inside_declared d _ _ f around p;
  method = λ d kind f around p. alone d (record { func = f; kind = kind; name = None; around = around }) p;
}

-- The functions directly in a function are printed inside it, and those directly in a script inside the script.
pub in_function : (d : ℕ) (kind : FuncKind) (name : Option Text) (f : Function) → ProperFunction whole f → Inside (inner_function kind name f) (print_function whole d f)
in_function d kind name f p = walk.in_function Inside each d kind name f p

pub in_script : (items : Stmts) → ProperStmts whole false items → Inside (inner_script items) (print_stmts whole 0 items)
in_script items p = walk.in_script Inside each items p
