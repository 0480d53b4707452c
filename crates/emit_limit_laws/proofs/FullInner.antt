-- The functions directly in a part of a tree, where no name at a place of its print is empty: none is empty in their prints, and
-- their own names are not.
use Rattle.std.proofs.Common.{ℕ, List, ◌++◌, false, Option, None, Some, option_map}
use Rattle.script_grammar.specs.Tree.{Named, Function, Stmts, function}
use Rattle.script_grammar.specs.Pieces.{whole, Piece}
use Rattle.script_grammar.specs.Print.{print_function, print_func, print_declared, print_stmts, func_word, print_name}
use Rattle.script_grammar.specs.Proper.{ProperFunction, ProperStmts, IsFuncExpression}
use Rattle.stencil_data.specs.declared.functions.FuncKind.{FuncKind}
use Rattle.stencil_data.specs.declared.functions.FuncKind.TheVariants as func
use Rattle.grammar_start_laws.specs.Own.{AllOf}
use Rattle.scope_analysis.specs.DeclaredNames.{Text}
use Rattle.scope_analysis.specs.Functions.{Inner, expression_kind, function_form, named_inner, nameless_inner, inner_function, inner_script}
use Rattle.scope_closed_laws.proofs.Places.{Hold, MaybeHolds, left, right, name_holds, func_name}
use Rattle.grammar_alone_laws.proofs.InnerWalk.{Walk}
use Rattle.grammar_alone_laws.proofs.InnerWalk as walk
use Rattle.emit_limit_laws.specs.FullNames.{NameFull}
use Rattle.emit_limit_laws.proofs.FullLists.{all_both}
use Rattle.emit_limit_laws.proofs.FullPlaces.{Full, Given, given, before, after, given_from, given_glue, given_until}

-- a function whose name is not empty, nor any at a place of its print
pub record FullInner (i : Inner) : Type 0 where
  pub depth : ℕ
  pub proper : ProperFunction whole i.func
  pub places : Hold Full (print_function whole depth i.func)
  pub name : NameFull i.name

pub record AllInner (is : List Inner) : Type 0 where
  pub all : AllOf FullInner is

abbrev pub Finding : List Inner → List Piece → Type 0
Finding is ps = Given (AllInner is) ps

-- ---- one function

name_of : (name : Option Named) → MaybeHolds Full name → NameFull (option_map (λ (n : Named). n.text) name)
name_of None h = tt
name_of (Some n) h = h

-- as an expression, as a declaration, and as a method
inside_func : (d : ℕ) (at : ℕ) (f : Function) (around : List ℕ) → IsFuncExpression at f → ProperFunction whole f → Finding (named_inner (expression_kind (function_form f)) f around) (print_func whole d at f)
inside_func d at (function form start end who ps comma bare body) around e p =
    record {
      holds = λ h. record {
        all = (
          record {
            depth = d;
            proper = p;
            places = right Full (func_word form at who d) (print_function whole d (function form start end who ps comma bare body)) h;
            name = name_of who (func_name Full form at start who d e (left Full (func_word form at who d) (print_function whole d (function form start end who ps comma bare body)) h));
          },
          tt,
        );
      };
    }

inside_declared : (d : ℕ) (f : Function) (around : List ℕ) → ProperFunction whole f → Finding (named_inner func.Declared f around) (print_declared whole d f)
inside_declared d (function form start end who ps comma bare body) around p =
    record {
      holds = λ h. record {
        all = (
          record {
            depth = d;
            proper = p;
            places = right Full (print_name who d) (print_function whole d (function form start end who ps comma bare body)) h.1;
            name = name_of who (name_holds Full who d (left Full (print_name who d) (print_function whole d (function form start end who ps comma bare body)) h.1));
          },
          tt,
        );
      };
    }

inside_method : (d : ℕ) (kind : FuncKind) (f : Function) (around : List ℕ) → ProperFunction whole f → Finding (nameless_inner kind f around) (print_function whole d f)
inside_method d kind f around p = record { holds = λ h. record { all = (record { depth = d; proper = p; places = h; name = tt }, tt) } }

-- ---- all functions directly in a function, and in a script

join : (is js : List Inner) (ps qs : List Piece) → Finding is ps → Finding js qs → Finding (is ++ js) (ps ++ qs)
join is js ps qs a b = record { holds = λ h. record { all = all_both FullInner is js (a.holds (left Full ps qs h)).all (b.holds (right Full ps qs h)).all } }

each : Walk Finding
each = record {
  none = λ ps. given (record { all = tt });
  before = λ is rs ps h. before rs h;
  after = λ is rs ps h. after rs h;
  both = join;
  from_place = λ is n ps h. given_from n h;
  glue_place = λ is ps h. given_glue h;
  until_place = λ is n ps h. given_until n h;
  expression = inside_func;
  declaration = inside_declared;
  method = inside_method;
}

pub in_function : (d : ℕ) (kind : FuncKind) (name : Option Text) (f : Function) → ProperFunction whole f → Finding (inner_function kind name f) (print_function whole d f)
in_function d kind name f p = walk.in_function Finding each d kind name f p

pub in_script : (items : Stmts) → ProperStmts whole false items → Finding (inner_script items) (print_stmts whole 0 items)
in_script items p = walk.in_script Finding each items p
