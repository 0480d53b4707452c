-- What a first pass over a file comes to.
use Rattle.std.specs.Prelude.{◌≡◌, ◌≤◌, ℕ, List, length, map, Result, Ok, Err}
use Rattle.script_grammar.specs.Braced.{braced_all}
use Rattle.script_grammar.specs.Interpretation.{Interpretation}
use Rattle.script_grammar.specs.Tree.{Stmts}
use Rattle.grammar_parser_specs.specs.Filling.{fill_stmts}
use Rattle.parse_exprs.specs.Env.{body_at}
use Rattle.parse_track.specs.declared.region.WellKnownAtoms.{WellKnownAtoms}
use Rattle.parse_track.specs.Notes.{closed_names}
use Rattle.parse_track.specs.Scopes.{bounds_of}
use Rattle.track_renaming_laws.specs.Renaming.{renamed_bound}
use Rattle.track_renaming_laws.specs.Texts.{text_at}
use Rattle.scope_analysis.specs.Functions.{inner_script}
use Rattle.session_specs.specs.Refusals as line
use Rattle.session_specs.specs.Sources.{IsValid, IsSource, IsRefused}
use Rattle.session_words.specs.Asked.{All}
use Rattle.parse_bodies.specs.declared.whole.Script.{Script}
use Rattle.parse_bodies.specs.Whole.{IsText}
use Rattle.parse_script.specs.declared.file_tokens.FileTokens.{FileTokens}
use Rattle.parse_script.specs.Reading.{under, IsShown}
use Rattle.parse_script.specs.Tokens.{tokens_in, AreTokensOf, IsSound}
use Rattle.early_script_errors.specs.Told.{own, IsOf, IsTold}
use Rattle.parse_function_list.specs.Placed.{ArePlaced}
use Rattle.compile_first_pass.specs.declared.pass.FirstPass.{FirstPass}
use Rattle.compile_first_pass.specs.declared.pass.FirstPass.TheVariants as pass
use Rattle.compile_first_pass.specs.declared.pass.CheckedScript.{CheckedScript}
use Rattle.compile_first_pass.specs.declared.pass.ListedScript.{ListedScript}
use Rattle.compile_first_pass.specs.declared.pass.SourceFault.{SourceFault}
use Rattle.compile_first_pass.specs.declared.pass.SourceFault.TheVariants as fault
use Rattle.compile_first_pass.specs.declared.pass.SyntaxScript.{SyntaxScript}
use Rattle.compile_first_pass.specs.declared.skim.SkimmedScript.{SkimmedScript}
use Rattle.compile_first_pass.specs.declared.verdict.FileVerdict.{FileVerdict}
use Rattle.compile_first_pass.specs.declared.verdict.FileVerdict.TheVariants as verdict
use Rattle.compile_first_pass.specs.Skims.{SkimsScript}

-- The bytes are a script without errors, these are its tokens and all functions in it, in order of number, and these are the
-- names that its inner functions close over.
pub record IsSyntaxOf (bytes : List ℕ) (s : SyntaxScript) : Type 0 where
  pub items : Stmts
  pub valid : IsValid bytes items (length s.functions.items)
  pub tokens : AreTokensOf s.file (length bytes) bytes
  pub sound : IsSound s.file
  pub placed : ArePlaced (own s.file.texts.items items) s.functions.items (inner_script items)
  pub closed : map (renamed_bound (text_at s.file.texts.items)) (bounds_of s.closed.items) ≡ closed_names items

-- the refusal that a fault stands for
abbrev pub refusal_of : SourceFault → line.Refusal
refusal_of (fault.BadUtf8 offset) = line.BadUtf8 offset
refusal_of (fault.Unexpected offset) = line.Unexpected offset
refusal_of (fault.TooDeep offset) = line.TooDeep offset
refusal_of (fault.Early offset rule) = line.Early offset rule

abbrev pub IsFirstPass : List ℕ → FirstPass → Type 0
IsFirstPass bytes (pass.Script s) = IsSyntaxOf bytes s
IsFirstPass bytes (pass.Refused why) = IsSource All bytes (IsRefused (refusal_of why))

-- The bytes are a script without errors that has so many functions, or are refused for this.
abbrev pub IsVerdict : List ℕ → FileVerdict → Type 0
IsVerdict bytes (verdict.Script functions) = (items : Stmts) × IsValid bytes items functions
IsVerdict bytes (verdict.Refused why) = IsSource All bytes (IsRefused (refusal_of why))

-- The tokens are a script of these statements, and what was taken apart is of them and of the braced bodies of its functions,
-- whatever bodies are given for those that were passed over.
pub record IsSkimmedFile (file : FileTokens) (script : SkimmedScript) (items : Stmts) : Type 0 where
  pub text : IsText (tokens_in file) items
  pub parts : (bodies : ℕ → Stmts)
      → SkimsScript (under file.texts.items bodies) script
      (fill_stmts (body_at (under file.texts.items bodies)) items) (map (fill_stmts (body_at (under file.texts.items bodies))) (braced_all items))

-- What was taken apart is of some file within the limit of length, whose known words have these atoms: each token begins at a byte
-- of its own, but for the last one.
pub record IsOfSmallFile (known : WellKnownAtoms) (script : SkimmedScript) : Type 0 where
  pub file : FileTokens
  pub items : Stmts
  pub sound : IsSound file
  pub skimmed : IsSkimmedFile file script items
  pub known_is : file.known ≡ known
  pub few : length file.tokens.items ≤ 16777216

-- the file is refused for this
abbrev pub IsRefusedFor : FileTokens → SourceFault → Type 0
IsRefusedFor file fault = (bytes : List ℕ) → AreTokensOf file (length bytes) bytes → IsSource All bytes (IsRefused (refusal_of fault))

-- what reading a file's script by a handler comes to
abbrev pub IsRead : {B : Type 0} → (Interpretation → B → Stmts → Type 0) → FileTokens → Result (Script B) SourceFault → Type 0
IsRead shows file (Ok script) = (bodies : ℕ → Stmts) → IsShown shows (under file.texts.items bodies) (tokens_in file) script
IsRead shows file (Err fault) = IsRefusedFor file fault

-- The file is the script of these statements, of which this is told, these are its functions, and this is its first early error of
-- a rule that looks at no region.
pub record IsListed (file : FileTokens) (items : Stmts) (listed : ListedScript) : Type 0 where
  pub text : IsText (tokens_in file) items
  pub of : IsOf file.texts.items file.known items
  pub told : IsTold file.texts.items listed.top listed.bodies.items listed.first items
  pub placed : ArePlaced (own file.texts.items items) listed.functions.items (inner_script items)

-- The file is the script of these statements, without errors, and these are its functions and the names that they close over.
pub record IsCheckedScript (file : FileTokens) (items : Stmts) (checked : CheckedScript) : Type 0 where
  pub valid : (bytes : List ℕ) → AreTokensOf file (length bytes) bytes → IsValid bytes items (length checked.functions.items)
  pub placed : ArePlaced (own file.texts.items items) checked.functions.items (inner_script items)
  pub closed : map (renamed_bound (text_at file.texts.items)) (bounds_of checked.closed.items) ≡ closed_names items

-- what checking the script of these statements comes to
abbrev pub IsChecked : FileTokens → Stmts → Result CheckedScript SourceFault → Type 0
IsChecked file items (Ok checked) = IsCheckedScript file items checked
IsChecked file items (Err fault) = IsRefusedFor file fault
