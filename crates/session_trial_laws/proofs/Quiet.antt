-- What is told of the generated statements has no early error.
use Rattle.std.proofs.Common.{◌≡◌, ℕ, List, [], ◌++◌, true, refl, ◌∙◌, ap, Option, None}
use Rattle.std.specs.Prelude.{bytes_eq}
use Rattle.script_grammar.specs.Tree.{Stmts}
use Rattle.parse_track.specs.declared.region.Early.{Early}
use Rattle.parse_track.specs.Told.{Region, Script, Told, nothing, inner}
use Rattle.parse_track.specs.RegionNames.{is_lexical, is_param, is_catch_param, is_block, is_body, directly, vars, lexical_below}
use Rattle.parse_track.specs.EarlyErrors.{repeated, also_in, later, at_regions, twice_lexical, lexical_and_var, head_and_var, catch_and_lexical, param_and_lexical, twice_param, reserved, binds_reserved, nothing_around, wrong_jumps, smallest, error_of, sooner}
use Rattle.parse_track.specs.Tells.{Text, known_texts, tells_stmt, tells_stmts}
use Rattle.parse_track.specs.Notes.{early_error, notes_stmts, first_note}
use Rattle.session_trial_laws.proofs.Trees.{function_tree, counter_tree, loop_tree, object_tree}

-- What is told declares no lexical name, no parameter and no reserved name, has no such names in regions right inside it,
-- and breaks no rule in any region or jump.
pub record IsQuiet (t : Told Text) : Type 0 where
  pub lexical : directly is_lexical t ≡ []
  pub params : directly is_param t ≡ []
  pub blocks : lexical_below is_block t ≡ []
  pub bodies : lexical_below is_body t ≡ []
  pub named : reserved bytes_eq known_texts (directly (λ _. true) t) ≡ []
  pub twice_lexical : at_regions (twice_lexical bytes_eq) t ≡ []
  pub lexical_and_var : at_regions (lexical_and_var bytes_eq) t ≡ []
  pub head_and_var : at_regions (head_and_var bytes_eq) t ≡ []
  pub catch_and_lexical : at_regions (catch_and_lexical bytes_eq) t ≡ []
  pub param_and_lexical : at_regions (param_and_lexical bytes_eq) t ≡ []
  pub twice_param : at_regions (twice_param bytes_eq) t ≡ []
  pub binds_reserved : at_regions (binds_reserved bytes_eq known_texts) t ≡ []
  pub jumps : wrong_jumps bytes_eq nothing_around t ≡ []

pub quiet_nothing : IsQuiet nothing
quiet_nothing = record {
  lexical = refl;
  params = refl;
  blocks = refl;
  bodies = refl;
  named = refl;
  twice_lexical = refl;
  lexical_and_var = refl;
  head_and_var = refl;
  catch_and_lexical = refl;
  param_and_lexical = refl;
  twice_param = refl;
  binds_reserved = refl;
  jumps = refl;
}

pub function_quiet : (b m k t : ℕ) (n : List ℕ) (i : ℕ) (told : Told Text) → IsQuiet told → IsQuiet (tells_stmt true (function_tree b m k t n i) told)
function_quiet b m k t n i told h = record {
  lexical = h.lexical;
  params = h.params;
  blocks = h.blocks;
  bodies = h.bodies;
  named = h.named;
  twice_lexical = h.twice_lexical;
  lexical_and_var = h.lexical_and_var;
  head_and_var = h.head_and_var;
  catch_and_lexical = h.catch_and_lexical;
  param_and_lexical = h.param_and_lexical;
  twice_param = h.twice_param;
  binds_reserved = h.binds_reserved;
  jumps = h.jumps;
}

pub counter_quiet : (b m k t : ℕ) (n : List ℕ) (i : ℕ) (told : Told Text) → IsQuiet told → IsQuiet (tells_stmt true (counter_tree b m k t n i) told)
counter_quiet b m k t n i told h = record {
  lexical = h.lexical;
  params = h.params;
  blocks = h.blocks;
  bodies = h.bodies;
  named = h.named;
  twice_lexical = h.twice_lexical;
  lexical_and_var = h.lexical_and_var;
  head_and_var = h.head_and_var;
  catch_and_lexical = h.catch_and_lexical;
  param_and_lexical = h.param_and_lexical;
  twice_param = h.twice_param;
  binds_reserved = h.binds_reserved;
  jumps = h.jumps;
}

pub loop_quiet : (b m k t : ℕ) (n : List ℕ) (i : ℕ) (told : Told Text) → IsQuiet told → IsQuiet (tells_stmt true (loop_tree b m k t n i) told)
loop_quiet b m k t n i told h = record {
  lexical = h.lexical;
  params = h.params;
  blocks = h.blocks;
  bodies = h.bodies;
  named = h.named;
  twice_lexical = h.twice_lexical;
  lexical_and_var = h.lexical_and_var;
  head_and_var = h.head_and_var;
  catch_and_lexical = h.catch_and_lexical;
  param_and_lexical = h.param_and_lexical;
  twice_param = h.twice_param;
  binds_reserved = h.binds_reserved;
  jumps = h.jumps;
}

pub object_quiet : (b m k t : ℕ) (n : List ℕ) (i : ℕ) (told : Told Text) → IsQuiet told → IsQuiet (tells_stmt true (object_tree b m k t n i) told)
object_quiet b m k t n i told h = record {
  lexical = h.lexical;
  params = h.params;
  blocks = h.blocks;
  bodies = h.bodies;
  named = h.named;
  twice_lexical = h.twice_lexical;
  lexical_and_var = h.lexical_and_var;
  head_and_var = h.head_and_var;
  catch_and_lexical = h.catch_and_lexical;
  param_and_lexical = h.param_and_lexical;
  twice_param = h.twice_param;
  binds_reserved = h.binds_reserved;
  jumps = h.jumps;
}

-- A script that tells what is quiet, and notes nothing.

none_of : (x y : Option Early) → x ≡ None → y ≡ None → sooner x y ≡ None
none_of x y e f = ap (λ (o : Option Early). sooner o y) e ∙ f

silent : (n : ℕ) (rule : Region Text → Told Text → List ℕ) (t : Told Text) → rule Script t ≡ [] → at_regions rule t ≡ [] → error_of n (smallest (at_regions rule (inner Script 0 t nothing))) ≡ None
silent n rule t e f = ap (λ (xs : List ℕ). error_of n (smallest (xs ++ (at_regions rule t ++ [])))) e ∙ ap (λ (xs : List ℕ). error_of n (smallest (xs ++ []))) f

pub no_early_error : (items : Stmts) → notes_stmts items ≡ [] → IsQuiet (tells_stmts true items nothing) → early_error items ≡ None
no_early_error items noted h =
    none_of (first_note (notes_stmts items)) _ (ap first_note noted)
    (none_of _ _ (silent 1 (twice_lexical bytes_eq) told (ap (repeated bytes_eq []) h.lexical) h.twice_lexical)
    (none_of _ _ (silent 2 (lexical_and_var bytes_eq) told (ap (λ xs. later bytes_eq xs (vars told)) h.lexical) h.lexical_and_var)
    (none_of _ _ (silent 3 (head_and_var bytes_eq) told refl h.head_and_var)
    (none_of _ _ (silent 4 (catch_and_lexical bytes_eq) told (ap (also_in bytes_eq (directly is_catch_param told)) h.blocks) h.catch_and_lexical)
    (none_of _ _ (silent 5 (param_and_lexical bytes_eq) told (ap (λ xs. also_in bytes_eq (directly is_param told) (xs ++ lexical_below is_body told)) h.lexical ∙ ap (also_in bytes_eq (directly is_param told)) h.bodies) h.param_and_lexical)
    (none_of _ _ (silent 6 (twice_param bytes_eq) told (ap (repeated bytes_eq []) h.params) h.twice_param)
    (none_of _ _ (silent 9 (binds_reserved bytes_eq known_texts) told h.named h.binds_reserved)
    (ap (λ (xs : List ℕ). error_of 11 (smallest (xs ++ []))) h.jumps))))))))
  where
    told : Told Text
    told = tells_stmts true items nothing
