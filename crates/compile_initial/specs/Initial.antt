-- What a script is before any of its functions is compiled, of a file's bytes, with what compiling one of its functions on its own
-- asks for. This project's own choice.
use Rattle.std.specs.Prelude.{◌≡◌, ℕ, zero, suc, ◌≤◌, ◌<◌, ◌^◌, List, [], ◌∷◌, length, map, slice_get, Some}
use Rattle.script_grammar.specs.Tree.{Stmts}
use Rattle.unit_text.specs.Points.{points}
use Rattle.script_scanner.specs.Stands.{IsValueAmong}
use Rattle.script_scanner.specs.Tokens.{tokens}
use Rattle.parser_atoms.specs.Places.{AreWithoutEquals, StandsIn}
use Rattle.stencil_data.specs.LinkView.{LinkView}
use Rattle.stencil_data.specs.Named.{NamedInitial}
use Rattle.stencil_data.specs.StandsFor.{InitialStandsFor}
use Rattle.bytecode_buf.specs.Command.{Command, ShowsCommands}
use Rattle.bytecode_buf.specs.InRange.{TextsSmall}
use Rattle.parse_track.specs.Notes.{closed_names}
use Rattle.track_atoms.specs.Known.{HasWords, known_atoms}
use Rattle.scope_analysis.specs.Functions.{Inner, inner_function}
use Rattle.emit_stmts.specs.Functions.{top_script}
use Rattle.compile_specs.specs.Eager.{Site, AreFunctions, compiled_at}
use Rattle.compile_specs.specs.Shown as shown
use Rattle.session_specs.specs.Sources.{IsValid}
use Rattle.compile_site_laws.specs.Around.{HandsDown}
use Rattle.compile_initial.specs.declared.Nesting.{Nesting}
use Rattle.compile_initial.specs.declared.InitialStencil.{InitialStencil}

-- The function stands at this place directly in the one of this number. Where the number is 0, nothing is said.
abbrev pub StandsInside : List Site → (number place : ℕ) → Inner → Type 0
StandsInside all zero place f = Unit {0}
StandsInside all (suc n) place f =
    (outer : Site) × (slice_get all n ≡ Some outer) × (slice_get (inner_function outer.inner.kind outer.inner.name outer.inner.func) place ≡ Some f)

-- The function of this number stands directly in the one around it, whose number is smaller, and gets its chain from there.
pub record IsAround (top : List (List LinkView)) (all : List Site) (number : ℕ) (a : Nesting) (s : Site) : Type 0 where
  pub before : a.number < number
  pub inside : StandsInside all a.number a.place s.inner
  pub chain : HandsDown top all a.number a.place s.chain

-- one for one, those of these numbers on
abbrev pub AllAround : List (List LinkView) → List Site → (number : ℕ) → List Nesting → List Site → Type 0
AllAround top all number [] [] = Unit {0}
AllAround top all number [] (s ∷ ss) = ⊥
AllAround top all number (a ∷ around) [] = ⊥
AllAround top all number (a ∷ around) (s ∷ ss) = IsAround top all number a s × AllAround top all (suc number) around ss

-- all functions of a script of n bytes, in order of number, from 1
abbrev pub AreAround : Stmts → (end : ℕ) → List Nesting → List Site → Type 0
AreAround items end around all = AllAround (top_script items end).chains all 1 around all

-- Every text that a token of these bytes has, and every known word, is among the texts.
pub record HasTextsOf (bytes : List ℕ) (texts : List (List ℕ)) : Type 0 where
  pub values : (text : List ℕ) → IsValueAmong (tokens (points bytes) 0 (length bytes)) text → StandsIn texts text
  pub words : HasWords texts known_atoms

-- The bytes are a script without errors, and the parts are what it is before any of its functions is compiled. Each function
-- finds its chain by the one around it, those directly in the script by these chains. The texts have no equals, are fewer than
-- 2^31 and small, and leave out none that a function of the script can have.
pub record IsInitialOf (bytes : List ℕ) (made : InitialStencil) : Type 0 where
  pub items : Stmts
  pub valid : IsValid bytes items (length made.parts.records)
  pub short : length bytes ≤ 16777215
  pub all : List Site
  pub functions : AreFunctions items (length bytes) all
  pub named : NamedInitial (List Command)
  pub is : named ≡ shown.initial (closed_names items) (top_script items (length bytes)).part (map (λ (s : Site). (compiled_at s).part) all)
  pub stands : InitialStandsFor ShowsCommands made.parts named
  pub chains : made.chains.items ≡ (top_script items (length bytes)).chains
  pub around : AreAround items (length bytes) made.around.items all
  pub few : length made.parts.texts < 2 ^ 31
  pub apart : AreWithoutEquals made.parts.texts
  pub texts : HasTextsOf bytes made.parts.texts
  pub small : TextsSmall made.parts.texts
