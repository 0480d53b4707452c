-- What a track answers is what the scopes of a script, and of each function in it, are made with.
use Rattle.std.proofs.Common.{◌≡◌, ℕ, Bool, true, false, cond, Option, List, [], ◌∷◌, map, filter, refl, ap, ◌∙◌}
use Rattle.script_grammar.specs.Tree.{Stmts}
use Rattle.stencil_data.specs.StandsFor.{text_at, named_closed}
use Rattle.grammar_start_laws.proofs.WholeTrees.{script_starts_rise}
use Rattle.parse_track.specs.declared.region.ClosedAt.{ClosedAt}
use Rattle.parse_track.specs.ClosedNames.{Bound}
use Rattle.parse_track.specs.Notes.{closed_names}
use Rattle.parse_track.specs.Scopes.{bound_of, bounds_of}
use Rattle.track_renaming_laws.specs.Renaming.{renamed_bound}
use Rattle.scope_analysis.specs.Closed.{closed_over, inside_global}
use Rattle.scope_analysis.specs.DeclaredNames.{Text}
use Rattle.scope_analysis.specs.Functions.{Inner}
use Rattle.scope_analysis.specs.Scopes.{function_scopes, script_scopes}
use Rattle.scope_closed_laws.specs.Handed.{is_top, is_start, placed_name, closed_at_top, closed_of, behind_global, function_start, closed_name, top_names, names_of_function}
use Rattle.script_grammar.specs.NameTokens.{IsNotThis}
use Rattle.scope_closed_laws.specs.Sites.{IsFunctionOf}
use Rattle.scope_closed_laws.specs.Sound.{IsSound}
use Rattle.scope_closed_laws.proofs.Declared.{script-declared}
use Rattle.scope_closed_laws.proofs.Scripts.{closed_of_function, closed_of_script, closed_inside_global}

-- ---- of a script that is read

pub sound_function : (items : Stmts) (f : Inner) → IsSound items → IsFunctionOf items f → closed_of (closed_names items) (function_start f.func) ≡ closed_over (function_scopes f.kind f.name f.func)
sound_function items f s of =
    closed_of_function items 0 f s.script.proper s.faultless (script-declared IsNotThis s.tokens s.end items s.script s.names) (script_starts_rise s.tokens s.end items 0 s.script s.rise) of

pub sound_script : (items : Stmts) → IsSound items → behind_global (closed_at_top (closed_names items)) ≡ closed_over (script_scopes items)
sound_script items s = closed_of_script items s.script.proper s.faultless (script-declared IsNotThis s.tokens s.end items s.script s.names)

-- ---- by the atoms of names

module _ (texts : List Text) (passes : Option ℕ → Bool) where
  one_read : (at : ClosedAt) (ats : List ClosedAt) (b : Bool)
      → map (named_closed texts) (map closed_name (filter (λ (a : ClosedAt). passes a.func) ats)) ≡ map placed_name (filter (λ (c : Bound Text). passes c.func) (map (renamed_bound (text_at texts)) (bounds_of ats)))
      → map (named_closed texts) (map closed_name (cond b (at ∷ filter (λ (a : ClosedAt). passes a.func) ats) (filter (λ (a : ClosedAt). passes a.func) ats)))
      ≡ map placed_name (cond b (renamed_bound (text_at texts) (bound_of at) ∷ filter (λ (c : Bound Text). passes c.func) (map (renamed_bound (text_at texts)) (bounds_of ats)))
      (filter (λ (c : Bound Text). passes c.func) (map (renamed_bound (text_at texts)) (bounds_of ats))))
  one_read at ats true e = ap (λ cs. record { scope = at.scope; text = text_at texts at.atom } ∷ cs) e
  one_read at ats false e = e

  handed : (ats : List ClosedAt) → map (named_closed texts) (map closed_name (filter (λ (a : ClosedAt). passes a.func) ats)) ≡ map placed_name (filter (λ (c : Bound Text). passes c.func) (map (renamed_bound (text_at texts)) (bounds_of ats)))
  handed [] = refl
  handed (at ∷ ats) = one_read at ats (passes at.func) (handed ats)

module _ (texts : List Text) (ats : List ClosedAt) (items : Stmts) (same : map (renamed_bound (text_at texts)) (bounds_of ats) ≡ closed_names items) (sound : IsSound items) where
  -- what `top_scopes` takes
  pub top_handed : map (named_closed texts) (inside_global (top_names ats)) ≡ closed_over (script_scopes items)
  top_handed =
      closed_inside_global texts (top_names ats) items (handed texts is_top ats ∙ ap closed_at_top same) sound.script.proper sound.faultless
      (script-declared IsNotThis sound.tokens sound.end items sound.script sound.names)

  -- what `scopes` takes of a function
  pub function_handed : (f : Inner) → IsFunctionOf items f → map (named_closed texts) (names_of_function ats (function_start f.func)) ≡ closed_over (function_scopes f.kind f.name f.func)
  function_handed f of =
      handed texts (λ (o : Option ℕ). is_start o (function_start f.func)) ats
      ∙ (ap (λ bs. closed_of bs (function_start f.func)) same ∙ sound_function items f sound of)
