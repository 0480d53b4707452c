-- What is asked of a function of a script that is compiled on its own, and what it is then compiled to: what it is compiled
-- to where the whole script is. This project's own choice.
use Rattle.std.specs.Prelude.{◌≡◌, ℕ, ◌≤◌, ◌<◌, ◌^◌, List, ◌++◌, length, None}
use Rattle.std.specs.Str.{IsUtf8}
use Rattle.script_grammar.specs.Tree.{Stmts}
use Rattle.stencil_data.specs.declared.functions.Extent.{Extent}
use Rattle.stencil_data.specs.LinkView.{LinkView}
use Rattle.stencil_data.specs.StandsFor.{FunctionStandsFor, RecordStandsFor}
use Rattle.stencil_data.specs.Views.{RecordView}
use Rattle.bytecode_buf.specs.Command.{ShowsCommands}
use Rattle.script_scanner.specs.Lexemes.{lexemes}
use Rattle.parser_atoms.specs.Places.{AreWithoutEquals}
use Rattle.parse_bodies.specs.Whole.{IsText}
use Rattle.parse_track.specs.Notes.{closed_names, early_error}
use Rattle.compile_specs.specs.Eager.{Site, compiled_at}
use Rattle.compile_specs.specs.Shown.{record_of}
use Rattle.compile_function.specs.Sites.{IsFunctionAt}
use Rattle.parse_function.specs.Extents.{extents_in}
use Rattle.track_atoms.specs.Known.{word_texts}
use Rattle.lazy_compile.specs.declared.Delazified.{Delazified}

-- The record is what is kept of the function: its extent, its kind, its name, and its names that functions in it close over.
-- Its numbers are those among functions that start at some offsets.
pub record IsRecordOf (texts : List (List ℕ)) (lazy : RecordView) (items : Stmts) (m : Site) : Type 0 where
  pub starts : List ℕ
  pub stands : RecordStandsFor texts lazy (record_of starts (closed_names items) (compiled_at m).part)

-- The file is UTF-8 and a script with these statements, without an early error. The function at this site is one of its
-- functions, under this chain, and the record is that function's, by these texts, whose atoms leave room for more.
pub record CanBeDelazified (file : List ℕ) (lazy : RecordView) (texts : List (List ℕ)) (chain : List LinkView) (items : Stmts)
    (m : Site) : Type 0 where
  pub short : length file ≤ 16777215
  pub utf8 : IsUtf8 file
  pub text : IsText (lexemes file) items
  pub faultless : early_error items ≡ None
  pub function : IsFunctionAt items m
  pub chain_is : chain ≡ m.chain
  pub recorded : IsRecordOf texts lazy items m
  pub few_texts : length texts < 2 ^ 31

-- Some function of a script can be, under some chain, and these are the extents of the functions directly in it.
abbrev pub CanBeRead : (file : List ℕ) → (lazy : RecordView) → (within : List Extent) → (texts : List (List ℕ)) → Type 0
CanBeRead file lazy within texts =
    (chain : List LinkView) × (items : Stmts) × (m : Site) × CanBeDelazified file lazy texts chain items m × (within ≡ extents_in m.inner)

-- All texts of the function, which its atoms are indexes into: the known words, and those that are kept behind them.
abbrev pub all_texts : Delazified → List (List ℕ)
all_texts made = word_texts ++ made.texts.items

-- The stencil stands for what the whole script has of the function, by texts without equals, and these are the chains that the
-- function hands down there, in the order of the functions directly in it.
pub record IsCompiledAlone (made : Delazified) (m : Site) : Type 0 where
  pub stands : FunctionStandsFor ShowsCommands (all_texts made) made.stencil (compiled_at m).part
  pub chains_are : made.chains.items ≡ (compiled_at m).chains
  pub apart : AreWithoutEquals (all_texts made)

-- whichever script's function is asked for by this, it is compiled to this
abbrev pub CompilesAlone : (file : List ℕ) → (lazy : RecordView) → (texts : List (List ℕ)) → (chain : List LinkView) → Delazified → Type 0
CompilesAlone file lazy texts chain made = (items : Stmts) (m : Site) → CanBeDelazified file lazy texts chain items m → IsCompiledAlone made m
