-- What commands write of scripts.
use Rattle.std.specs.Prelude.{ℕ, ◌≤◌, List, length}
use Rattle.script_grammar.specs.Tree.{Stmts}
use Rattle.stencil_data.specs.MergedView.{MergedView}
use Rattle.stencil_data.specs.Named.{NamedMerged}
use Rattle.bytecode_buf.specs.Command.{Listed}
use Rattle.session_words.specs.declared.options.Command.{Command}
use Rattle.session_words.specs.declared.options.Command.TheVariants as command
use Rattle.session_words.specs.Asked.{Wanted}
use Rattle.script_image.specs.ScriptLines.{code_text, scope_text}
use Rattle.script_image.specs.declared.script_lines.Listing.{Listing}
use Rattle.script_image.specs.declared.script_lines.Listing.TheVariants as of
use Rattle.session_specs.specs.Answer.{IsWritten, most_bytes, to_show}
use Rattle.session_specs.specs.Sources.{IsValid}
use Rattle.compile_wanted.specs.Shows.{Shows}

-- the listing: of scopes, or else of code
abbrev pub listed_text : Command → NamedMerged (List Listed) → List ℕ
listed_text command.Scopes named = scope_text named
listed_text _ named = code_text named

-- what it lists of a script: scopes, or else code
abbrev pub listing_for : Command → Listing
listing_for command.Scopes = of.Scopes
listing_for _ = of.Code

-- this is what the command writes of every script without errors that the stencil shows, whatever file it is
abbrev pub IsWrittenFor : Command → List ℕ → MergedView → List ℕ → Type 0
IsWrittenFor command name shown out =
    (want : Wanted) (file : List ℕ) (items : Stmts) (count : ℕ) → length file ≤ most_bytes → IsValid file items count
    → Shows (to_show want) items (length file) shown
    → IsWritten command want name (length file) items count out
