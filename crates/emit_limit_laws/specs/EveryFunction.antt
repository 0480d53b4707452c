-- The functions of a script at any depth, each under the chain of the scopes around it that compiling it gets.
use Rattle.std.specs.Prelude.{◌≡◌, ◌⊎◌, List, [], ◌∷◌}
use Rattle.script_grammar.specs.Tree.{Stmts}
use Rattle.stencil_data.specs.LinkView.{LinkView}
use Rattle.scope_analysis.specs.Functions.{Inner, inner_function, inner_script}
use Rattle.scope_analysis.specs.Scopes.{function_scopes, script_scopes}
use Rattle.emit_stmts.specs.Functions.{chain_at}

abbrev pub Among : {X : Type 0} → X → List X → Type 0
Among x [] = ⊥
Among x (y ∷ ys) = (y ≡ x) ⊎ Among x ys

pub data IsFunctionOf (items : Stmts) : Inner → List LinkView → Type 0 where
  at_top : (i : Inner) (chain : List LinkView) → Among i (inner_script items) → chain ≡ chain_at (script_scopes items) [] i
      → IsFunctionOf items i chain
  -- directly in another one
  inside : (outer : Inner) (around : List LinkView) (i : Inner) (chain : List LinkView) → IsFunctionOf items outer around
      → Among i (inner_function outer.kind outer.name outer.func)
      → chain ≡ chain_at (function_scopes outer.kind outer.name outer.func) around i → IsFunctionOf items i chain
