-- What parts of a tree mean to a first pass, and when what is kept has that meaning.
use Rattle.std.specs.Prelude.{◌≡◌, ◌++◌, ℕ, Bool, true, List, []}
use Rattle.script_grammar.specs.Braced as braced
use Rattle.script_grammar.specs.Interpretation.{Interpretation}
use Rattle.script_grammar.specs.Tree.{Named, Expr, Prop, Stmt, Stmts}
use Rattle.parse_track.specs.declared.region.Declare.{Declare}
use Rattle.parse_track.specs.declared.region.Early.{Early}
use Rattle.parse_track.specs.Notes as note
use Rattle.parse_track.specs.Notes.{first_note}
use Rattle.parse_track.specs.Tells as tell
use Rattle.parse_track.specs.Tells.{Text}
use Rattle.parse_track.specs.Told as told
use Rattle.parse_track.specs.Told.{Told}
use Rattle.parse_handlers.specs.Inner as inner
use Rattle.parse_handlers.specs.Inner.{Inner}
use Rattle.parse_early_handler.specs.HasErrors.{HasEmptyBodies}
use Rattle.parse_early_handler.specs.Known.{KnowsWords, known_atoms}
use Rattle.parse_track_pieces.specs.Says.{Says}
use Rattle.parse_skim_handler.specs.Meaning.{Meaning}

-- what a part of a tree tells, the braced bodies in it, the functions directly in it, and its early errors of rules that look at no
-- region
pub record Owed : Type 0 where
  pub tells : Told Text → Told Text
  pub braced : List Stmts → List Stmts
  pub inner : Inner → Inner
  pub errors : List Early

-- A part of this meaning stands for a part of a tree; of the early errors it has the first, where deferred bodies are empty and
-- the known words have their atoms.
pub record Stands (i : Interpretation) (m : Meaning) (owed : Owed) : Type 0 where
  pub says : Says m.says owed.tells owed.braced
  pub puts : (rest : Inner) → m.puts rest ≡ owed.inner rest
  pub first : HasEmptyBodies i → KnowsWords i known_atoms → m.first ≡ first_note owed.errors

abbrev pub nothing_owed : Owed
nothing_owed = record { tells = λ t. t; braced = λ r. r; inner = λ r. r; errors = [] }

abbrev pub then_owed : Owed → Owed → Owed
then_owed o p = record {
  tells = λ t. o.tells (p.tells t);
  braced = λ r. o.braced (p.braced r);
  inner = λ r. o.inner (p.inner r);
  errors = o.errors ++ p.errors;
}

abbrev pub error_owed : List Early → Owed
error_owed errors = record { tells = λ t. t; braced = λ r. r; inner = λ r. r; errors = errors }

abbrev pub region_owed : told.Region Text → (at : ℕ) → Owed → Owed
region_owed kind at o = record { tells = λ t. told.inner kind at (o.tells told.nothing) t; braced = o.braced; inner = o.inner; errors = o.errors }

-- a name that is declared in this way
abbrev pub name_owed : Declare → Named → Owed
name_owed how name = record { tells = tell.tells_name how name; braced = λ r. r; inner = λ r. r; errors = [] }

abbrev pub expr_owed : Expr → Owed
expr_owed t = record { tells = tell.tells_expr t; braced = braced.in_expr true t; inner = inner.in_expr t; errors = note.notes_expr t }

abbrev pub prop_owed : Prop → Owed
prop_owed t = record { tells = tell.tells_prop t; braced = braced.in_prop true t; inner = inner.in_prop t; errors = note.notes_prop t }

abbrev pub stmt_owed : (top : Bool) → Stmt → Owed
stmt_owed top s = record { tells = tell.tells_stmt top s; braced = braced.in_stmt true s; inner = inner.in_stmt s; errors = note.notes_stmt s }

abbrev pub stmts_owed : (top : Bool) → Stmts → Owed
stmts_owed top ss = record {
  tells = tell.tells_stmts top ss;
  braced = braced.in_stmts true ss;
  inner = inner.in_stmts ss;
  errors = note.notes_stmts ss;
}
