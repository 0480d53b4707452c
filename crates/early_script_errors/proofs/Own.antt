-- Where each function of a script is given its own body, the script's tree and its braced bodies are as they were.
use Rattle.std.proofs.Common.{◌≡◌, ℕ, ap, refl, ◌∙◌, List, [], ◌∷◌, map}
use Rattle.script_grammar.specs.Braced.{braced_all}
use Rattle.script_grammar.specs.Tree.{Body, Stmts}
use Rattle.grammar_parser_specs.specs.Filling.{fill_stmts}
use Rattle.grammar_start_laws.specs.Own.{AllOf, IsFilled}
use Rattle.grammar_start_laws.proofs.WholeTrees.{own_bodies, script_is_own, bodies_are_own}
use Rattle.parse_track.specs.declared.region.WellKnownAtoms.{WellKnownAtoms}
use Rattle.early_script_errors.specs.Told.{IsOf}

filled_all : (given : ℕ → Body) (bs : List Stmts) → AllOf (IsFilled given) bs → map (fill_stmts given) bs ≡ bs
filled_all given [] h = refl
filled_all given (b ∷ bs) h = ap (λ (x : Stmts). x ∷ map (fill_stmts given) bs) h.0 ∙ ap (λ (xs : List Stmts). b ∷ xs) (filled_all given bs h.1)

module _ (texts : List (List ℕ)) (known : WellKnownAtoms) (items : Stmts) (s : IsOf texts known items) where
  pub tree_own : fill_stmts (own_bodies items) items ≡ items
  tree_own = script_is_own s.tokens s.end items 0 s.script s.rise

  pub braced_own : map (fill_stmts (own_bodies items)) (braced_all items) ≡ braced_all items
  braced_own = filled_all (own_bodies items) (braced_all items) (bodies_are_own s.tokens s.end items 0 s.script s.rise)
