-- What is kept of bodies that were read without trees.
use Rattle.std.specs.Prelude.{◌≡◌, List, map}
use Rattle.script_grammar.specs.Interpretation.{Interpretation}
use Rattle.script_grammar.specs.Shows.{ShowAll}
use Rattle.script_grammar.specs.Tree.{Stmts}
use Rattle.parse_track_pieces.specs.declared.piece.Piece.{Piece}
use Rattle.parse_track_pieces.specs.Says.{SaysBody}
use Rattle.parse_handlers.specs.FoundOf.{HoldsBody}
use Rattle.parse_early_handler.specs.declared.nodes.BodyErrors.{BodyErrors}
use Rattle.parse_early_handler.specs.HasErrors.{HasErrorsBody, HasEmptyBodies}
use Rattle.parse_early_handler.specs.Known.{KnowsWords, known_atoms}
use Rattle.parse_function_list.specs.declared.list.FoundBody.{FoundBody}
use Rattle.parse_function_list.specs.Strict.{HasStrict}
use Rattle.compile_first_pass.specs.declared.skim.Skimmed.{Skimmed}
use Rattle.compile_first_pass.specs.declared.skim.SkimmedScript.{SkimmedScript}

-- It tells what these statements tell, its functions are those directly in them, and its early error is their first of a rule
-- that looks at no region.
pub record IsSkimmed (i : Interpretation) (s : Skimmed) (items : Stmts) : Type 0 where
  pub told : SaysBody i s.told items
  pub found : HoldsBody i s.found items
  pub errors : HasErrorsBody i s.errors items

-- it is what is kept of a node, whatever statements the node stands for
abbrev pub IsApart : {B : Type 0} → (Interpretation → B → Stmts → Type 0) → B → Skimmed → Type 0
IsApart shows body s = (i : Interpretation) (items : Stmts) → shows i body items → IsSkimmed i s items

-- what the functions of a script are listed from, of a body
abbrev pub found_in : Skimmed → FoundBody
found_in s = record { found = s.found; strict = s.errors.strict }

-- The lists are those of what is kept of each of these nodes, in their order.
pub record AreSkimmed {B : Type 0} (shows : Interpretation → B → Stmts → Type 0) (bodies : List B) (told : List Piece) (found : List FoundBody)
    (errors : List BodyErrors) : Type 0 where
  pub each : List Skimmed
  pub apart : ShowAll (IsApart shows) bodies each
  pub are_told : told ≡ map (λ (s : Skimmed). s.told) each
  pub are_found : found ≡ map found_in each
  pub are_errors : errors ≡ map (λ (s : Skimmed). s.errors) each

-- A script's statements and those of bodies, taken apart.
pub record SkimsScript (i : Interpretation) (made : SkimmedScript) (top : Stmts) (bodies : List Stmts) : Type 0 where
  pub script : IsSkimmed i made.top top
  pub told : ShowAll (SaysBody i) made.bodies.told.items bodies
  pub found : ShowAll (λ b. HoldsBody i b.found) made.bodies.found.items bodies
  pub errors : ShowAll (HasErrorsBody i) made.bodies.errors.items bodies
  pub strict : HasEmptyBodies i → KnowsWords i known_atoms → ShowAll HasStrict made.bodies.found.items bodies

-- a script's node and those of bodies are taken apart, whatever statements they stand for
abbrev pub IsScriptApart : {B : Type 0} → (Interpretation → B → Stmts → Type 0) → B → List B → SkimmedScript → Type 0
IsScriptApart shows script bodies made =
    (i : Interpretation) (top : Stmts) (all : List Stmts) → shows i script top → ShowAll (shows i) bodies all → SkimsScript i made top all
