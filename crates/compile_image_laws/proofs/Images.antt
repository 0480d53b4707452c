-- What is shown of a script without errors has an image: the one that is written of its stencil.
use Rattle.std.proofs.Common.{ℕ, ◌≤◌, List, [], ◌∷◌, ◌++◌, length, subst, arith}
use Rattle.script_grammar.specs.Lexeme.{Lexeme}
use Rattle.script_grammar.specs.NameTokens.{OfEachNameToken, IsNotThis}
use Rattle.script_grammar.specs.Tree.{Stmts}
use Rattle.scan_laws.proofs.OtherNames.{names_are_others}
use Rattle.stencil_data.specs.MergedView.{MergedView}
use Rattle.bytecode_buf.specs.InRange.{TextsSmall}
use Rattle.session_specs.specs.Sources.{IsValid}
use Rattle.compile_specs.specs.Shown.{Wanted}
use Rattle.emit_limit_laws.specs.Limits.{ScriptStands}
use Rattle.emit_limit_laws.proofs.Files.{file_stands}
use Rattle.compile_wanted.specs.Shows.{Shows}
use Rattle.stencil_xdr_laws.specs.Written.{IsWrittenOf}
use Rattle.session_image_specs.specs.Images.{IsImage}
use Rattle.compile_range_laws.proofs.Scripts.{is_shown_small}

others_front : (ts us : List Lexeme) → OfEachNameToken IsNotThis (ts ++ us) → OfEachNameToken IsNotThis ts
others_front [] us h = tt
others_front (t ∷ ts) us h = (h.0, others_front ts us h.1)

-- The script without errors that a file is stands well.
pub script_stands : (file : List ℕ) (items : Stmts) (count : ℕ) → length file ≤ 16777215 → (valid : IsValid file items count) → ScriptStands valid.read.inner valid.read.end items
script_stands file items count short valid =
    let read = valid.read in
    file_stands file read.inner read.end items (omega (arith, short)) read.utf8 read.split read.script read.shallow valid.faultless

-- The bytes that are written of a stencil are the image of what is shown of the script.
pub shown_has_image : (file : List ℕ) (items : Stmts) (count : ℕ) (end : ℕ) (want : Wanted) (merged : MergedView) (bytes : List ℕ) → length file ≤ 16777215 → IsValid file items count
    → (shows : Shows want items end merged) → TextsSmall merged.texts → IsWrittenOf merged bytes → IsImage shows.named bytes
shown_has_image file items count end want merged bytes short valid shows small written =
    let read = valid.read in
    let plain = others_front read.inner (read.end ∷ []) (subst (OfEachNameToken IsNotThis) read.split (names_are_others file)) in
    written small shows.named shows.stands (is_shown_small read.inner read.end items end want shows.named (script_stands file items count short valid) plain shows.shown)
