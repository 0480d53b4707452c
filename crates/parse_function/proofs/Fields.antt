-- Where a function starts and ends that stands for a tree.
use Rattle.std.proofs.Common.{◌≡◌, sym, ap, refl}
use Rattle.script_grammar.specs.declared.tree.Func.{Func, out-Func}
use Rattle.script_grammar.specs.Interpretation.{Interpretation}
use Rattle.script_grammar.specs.Tree.{Function, function}
use Rattle.script_grammar.specs.TreeOf.{func_of}
use Rattle.script_grammar.proofs.PartEquations.{func_of-fields}
use Rattle.grammar_alone_laws.specs.Alone.{start_of, end_of, nameless}

pub start_there : (i : Interpretation) (func : Func) → (out-Func func).start ≡ start_of (func_of i func)
start_there i func = sym (ap start_of (func_of-fields i func))

pub end_there : (i : Interpretation) (func : Func) → (out-Func func).end ≡ end_of (func_of i func)
end_there i func = sym (ap end_of (func_of-fields i func))

pub nameless_start : (f : Function) → start_of (nameless f) ≡ start_of f
nameless_start (function form start end name ps comma bare body) = refl

pub nameless_end : (f : Function) → end_of (nameless f) ≡ end_of f
nameless_end (function form start end name ps comma bare body) = refl
