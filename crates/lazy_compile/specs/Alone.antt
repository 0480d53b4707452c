-- What is known of a function that was read on its own.
use Rattle.std.specs.Prelude.{◌≡◌, ℕ, List, map, option_map}
use Rattle.script_grammar.specs.Tree.{Body, Stmts}
use Rattle.script_grammar.specs.TreeOf.{func_of}
use Rattle.stencil_data.specs.LinkView.{LinkView}
use Rattle.stencil_data.specs.StandsFor.{text_at, named_closed}
use Rattle.stencil_data.specs.Views.{RecordView}
use Rattle.parser_atoms.specs.Places.{AreWithoutEquals}
use Rattle.parse_track.specs.Notes.{closed_names}
use Rattle.scope_analysis.specs.FunctionTree.{HasBody, KnowsNames}
use Rattle.scope_analysis.specs.Kept.{under}
use Rattle.emit_stmts.specs.Functions.{start_of}
use Rattle.compile_specs.specs.Eager.{Site}
use Rattle.compile_specs.specs.Shown.{closed_of}
use Rattle.grammar_alone_laws.specs.Alone.{nameless}
use Rattle.parse_function.specs.Extents.{own_statements}
use Rattle.track_atoms.specs.Known.{HasWords, known_atoms}
use Rattle.lazy_compile.specs.declared.alone.FunctionAlone.{FunctionAlone}
use Rattle.lazy_compile.specs.Delazified.{CanBeDelazified}

-- With the bodies of the script's functions in place of those that were passed over, the tree is that of the function at this
-- site but for its name, and its own body was read. The name is the function's, and these are its names that functions in it
-- close over, by texts without equals; the words by which a function finds `this` and its arguments are among these, and they
-- begin with the known words.
pub record IsReadAlone (alone : FunctionAlone) (items : Stmts) (m : Site) : Type 0 where
  pub tree : func_of (under alone.texts.items (own_statements items)) alone.func ≡ nameless m.inner.func
  pub body : Body
  pub read : HasBody (under alone.texts.items (own_statements items)) alone.func body
  pub name_is : option_map (text_at alone.texts.items) alone.name ≡ m.inner.name
  pub closed_are : map (named_closed alone.texts.items) alone.closed.items ≡ closed_of (closed_names items) (start_of m.inner.func)
  pub knows : KnowsNames alone.texts.items
  pub apart : AreWithoutEquals alone.texts.items
  pub words : HasWords alone.texts.items known_atoms

-- whichever script's function has this record, it was read
abbrev pub ReadsAlone : (file : List ℕ) → (lazy : RecordView) → (texts : List (List ℕ)) → FunctionAlone → Type 0
ReadsAlone file lazy texts alone =
    (chain : List LinkView) (items : Stmts) (m : Site) → CanBeDelazified file lazy texts chain items m → IsReadAlone alone items m
