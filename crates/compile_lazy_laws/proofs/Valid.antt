-- The script of a file without errors stands well.
use Rattle.std.proofs.Common.{ℕ, ◌≤◌, List, length, arith}
use Rattle.script_grammar.specs.Tree.{Stmts}
use Rattle.script_scanner.specs.Lexemes.{lexemes}
use Rattle.parse_bodies.specs.Whole.{IsText}
use Rattle.emit_limit_laws.specs.Limits.{ScriptStands}
use Rattle.emit_limit_laws.proofs.Files.{file_stands}
use Rattle.session_specs.specs.Sources.{IsValid}

pub valid_stands : (bytes : List ℕ) (items : Stmts) (count : ℕ) (v : IsValid bytes items count) → length bytes ≤ 16777215 → ScriptStands v.read.inner v.read.end items
valid_stands bytes items count v short = file_stands bytes v.read.inner v.read.end items (omega (arith, short)) v.read.utf8 v.read.split v.read.script v.read.shallow v.faultless

pub valid_text : (bytes : List ℕ) (items : Stmts) (count : ℕ) → IsValid bytes items count → IsText (lexemes bytes) items
valid_text bytes items count v = record { inner = v.read.inner; end = v.read.end; split = v.read.split; ends = v.read.ends; script = v.read.script; shallow = v.read.shallow }
