-- Every function that compiling a script comes to stands well under the chain that it gets.
use Rattle.std.proofs.Common.{ℕ, suc, List, [], ◌∷◌, ◌++◌, arith, map}
use Rattle.std.specs.Prelude.{Contains}
use Rattle.std.specs.List.{All}
use Rattle.std.proofs.lemmas.List.Elements.{All-contains_itself}
use Rattle.script_grammar.specs.Lexeme.{Lexeme}
use Rattle.script_grammar.specs.Tree.{Stmts}
use Rattle.stencil_data.specs.LinkView.{LinkView}
use Rattle.grammar_start_laws.specs.Own.{AllOf}
use Rattle.scope_analysis.specs.Functions.{Inner, inner_function, inner_script}
use Rattle.scope_analysis.specs.Scopes.{function_scopes, script_scopes}
use Rattle.scope_closed_laws.specs.Sites.{IsFunctionOf, directly, inside}
use Rattle.emit_stmts.specs.Functions.{chain_at}
use Rattle.emit_limit_laws.specs.Limits.{ScriptStands, FunctionStands}
use Rattle.emit_limit_laws.proofs.Functions.{function_within}
use Rattle.emit_limit_laws.proofs.Scripts.{script_within}
use Rattle.compile_specs.specs.Eager.{Site, sites, sites_in, top_sites, AllSites, no_sites, more_sites, AreFunctions}
use Rattle.compile_function.specs.Sites.{IsFunctionAt}

-- ---- lists

all_both : {X : Type 0} (P : X → Type 0) (xs ys : List X) → AllOf P xs → AllOf P ys → AllOf P (xs ++ ys)
all_both P [] ys h k = k
all_both P (x ∷ xs) ys h k = (h.0, all_both P xs ys h.1 k)

-- what holds of each element holds of all
each : {X : Type 0} (P Q : X → Type 0) (xs : List X) → ((x : X) → Q x → P x) → All Q xs → AllOf P xs
each P Q [] f h = tt
each P Q (x ∷ xs) f h = (f x (h 0 x (omega arith)), each P Q xs f (λ k d lt. h (suc k) d (omega (arith, lt))))

each_of : {X : Type 0} (P : X → Type 0) (xs : List X) → ((x : X) → Contains xs x → P x) → AllOf P xs
each_of P xs f = each P (Contains xs) xs f (All-contains_itself xs)

-- ---- sites

module _ (items : Stmts) where
  -- functions of the script, each of which stands well under its chain
  at_sites : (chain : Inner → List LinkView) (is : List Inner) → AllOf (IsFunctionOf items) is → AllOf (λ (i : Inner). FunctionStands i.func (chain i)) is → AllOf (IsFunctionAt items) (sites is (map chain is))
  at_sites chain [] h k = tt
  at_sites chain (i ∷ is) h k = (record { of = h.0; stands = k.0 }, at_sites chain is h.1 k.1)

  at_inside : (s : Site) → IsFunctionAt items s → AllOf (IsFunctionAt items) (sites_in s)
  at_inside s h =
      at_sites (chain_at (function_scopes s.inner.kind s.inner.name s.inner.func) s.chain) (inner_function s.inner.kind s.inner.name s.inner.func)
      (each_of (IsFunctionOf items) (inner_function s.inner.kind s.inner.name s.inner.func) (λ i c. inside s.inner i h.of c))
      (function_within s.inner.kind s.inner.name s.inner.func s.chain h.stands).inner

  at_all : (some all : List Site) → AllSites some all → AllOf (IsFunctionAt items) some → AllOf (IsFunctionAt items) all
  at_all some all no_sites h = tt
  at_all some all (more_sites s rest within after a b) h =
      (h.0, all_both (IsFunctionAt items) within after (at_all (sites_in s) within a (at_inside s h.0)) (at_all rest after b h.1))

pub all_at : (items : Stmts) (end : ℕ) (all : List Site) (tokens : List Lexeme) (last : Lexeme) → AreFunctions items end all → ScriptStands tokens last items → AllOf (IsFunctionAt items) all
all_at items end all tokens last are stands =
    at_all items (top_sites items end) all are
    (at_sites items (chain_at (script_scopes items) []) (inner_script items) (each_of (IsFunctionOf items) (inner_script items) (λ i c. directly i c)) (script_within tokens last items stands).inner)
