-- Every function of a script that was read without an error is within the limits, at any depth.
use Rattle.std.proofs.Common.{inl, inr, List, [], ◌∷◌, sym, subst}
use Rattle.script_grammar.specs.Lexeme.{Lexeme}
use Rattle.script_grammar.specs.Tree.{Stmts}
use Rattle.stencil_data.specs.LinkView.{LinkView}
use Rattle.grammar_start_laws.specs.Own.{AllOf}
use Rattle.scope_analysis.specs.Functions.{Inner, inner_function, inner_script}
use Rattle.scope_analysis.specs.Scopes.{function_scopes, script_scopes}
use Rattle.emit_stmts.specs.Functions.{chain_at}
use Rattle.emit_limit_laws.specs.EveryFunction.{Among, IsFunctionOf, at_top, inside}
use Rattle.emit_limit_laws.specs.Limits.{ScriptStands, FunctionStands, FunctionWithin}
use Rattle.emit_limit_laws.proofs.Functions.{function_within}
use Rattle.emit_limit_laws.proofs.Scripts.{script_within}

all_at : {X : Type 0} (P : X → Type 0) (x : X) (xs : List X) → AllOf P xs → Among x xs → P x
all_at P x [] h a = absurd a
all_at P x (y ∷ ys) h (inl e) = subst P e h.0
all_at P x (y ∷ ys) h (inr a) = all_at P x ys h.1 a

pub every_stands : (tokens : List Lexeme) (end : Lexeme) (items : Stmts) → ScriptStands tokens end items → (i : Inner) (chain : List LinkView) → IsFunctionOf items i chain → FunctionStands i.func chain
every_stands tokens end items s i chain (at_top i' chain' a e) =
    subst (λ (c : List LinkView). FunctionStands i'.func c) (sym e)
    (all_at (λ (x : Inner). FunctionStands x.func (chain_at (script_scopes items) [] x)) i' (inner_script items) (script_within tokens end items s).inner a)
every_stands tokens end items s i chain (inside outer around i' chain' o a e) =
    subst (λ (c : List LinkView). FunctionStands i'.func c) (sym e)
    (all_at (λ (x : Inner). FunctionStands x.func (chain_at (function_scopes outer.kind outer.name outer.func) around x)) i' (inner_function outer.kind outer.name outer.func)
    (function_within outer.kind outer.name outer.func around (every_stands tokens end items s outer around o)).inner a)

pub every_within : (tokens : List Lexeme) (end : Lexeme) (items : Stmts) → ScriptStands tokens end items → (i : Inner) (chain : List LinkView) → IsFunctionOf items i chain → FunctionWithin i.kind i.name i.func chain
every_within tokens end items s i chain f = function_within i.kind i.name i.func chain (every_stands tokens end items s i chain f)
