-- What is known of a script that was read without an error, and of each function in it; and the bounds that follow, which
-- are those that its scopes and its code ask for.
use Rattle.std.specs.Prelude.{◌≡◌, ℕ, ◌+◌, ◌*◌, ◌^◌, ◌<◌, ◌≤◌, List, [], length, get_or, Option, None}
use Rattle.script_grammar.specs.Fault.{depth_limit}
use Rattle.script_grammar.specs.Lexeme.{Lexeme}
use Rattle.script_grammar.specs.Pieces.{whole, depths}
use Rattle.script_grammar.specs.Print.{print_stmts, print_function}
use Rattle.script_grammar.specs.Proper.{ProperFunction}
use Rattle.script_grammar.specs.Script.{IsScript}
use Rattle.script_grammar.specs.Tree.{Function, Stmts}
use Rattle.stencil_data.specs.declared.functions.FuncKind.{FuncKind}
use Rattle.stencil_data.specs.Fits.{LinksFit, ChainFits}
use Rattle.stencil_data.specs.LinkView.{LinkView}
use Rattle.stencil_data.specs.Named.{NamedScope}
use Rattle.parse_track.specs.Notes.{early_error, notes_function}
use Rattle.grammar_start_laws.specs.Started.{started_function}
use Rattle.grammar_start_laws.specs.Own.{AllOf, TokensRise, StartsRise}
use Rattle.scope_analysis.specs.DeclaredNames.{Text}
use Rattle.scope_analysis.specs.Functions.{Inner, inner_function, inner_script}
use Rattle.scope_analysis.specs.Scopes.{count_stmts, function_scopes, script_scopes}
use Rattle.scope_analysis.specs.Walked.{ScopesFit}
use Rattle.emit_exprs.specs.Rising.{Rises}
use Rattle.emit_stmts.specs.Functions.{extents_of, chain_at}
use Rattle.emit_stmts.specs.ScriptCode.{WholeFits}
use Rattle.emit_functions.specs.FunctionCode.{FunctionFits, scopes_in}
use Rattle.emit_limit_laws.specs.Places.{depths_of, AllUpTo}

-- ---- what is known

-- Fewer than 2^24 tokens are a script with this tree. None of them is too deep, they start at rising offsets, and the script
-- has no early error.
pub record ScriptStands (tokens : List Lexeme) (end : Lexeme) (items : Stmts) : Type 0 where
  pub script : IsScript tokens end items
  pub few : length tokens < 2 ^ 24
  pub shallow : (j : ℕ) → get_or (depths (print_stmts whole 0 items) tokens end script.fits) j 0 ≤ depth_limit
  pub rise : TokensRise 0 tokens
  pub faultless : early_error items ≡ None

-- A function of such a script, under the chain of the scopes around it: at most four of them are entered at each level.
pub record FunctionStands (f : Function) (chain : List LinkView) : Type 0 where
  pub depth : ℕ
  pub proper : ProperFunction whole f
  pub few : length (depths_of (print_function whole depth f)) < 2 ^ 24
  pub shallow : AllUpTo depth_limit (depths_of (print_function whole depth f))
  pub low : ℕ
  pub rise : StartsRise low (started_function f)
  pub clean : notes_function f ≡ []
  pub links : length chain ≤ 4 * depth
  pub slots : LinksFit chain

-- the functions directly in one with these scopes, which stands under this chain
abbrev pub AllStand : List NamedScope → List LinkView → List Inner → Type 0
AllStand scopes outer inner = AllOf (λ (i : Inner). FunctionStands i.func (chain_at scopes outer i)) inner

-- ---- what follows

-- all bounds of a script itself, and what is known of the functions directly in it
pub record ScriptWithin (items : Stmts) : Type 0 where
  pub fit : WholeFits 64999 0 items
  pub numbered : 1 + count_stmts items < 2 ^ 64
  pub few_scopes : length (script_scopes items) < 2 ^ 32
  pub slots : ScopesFit (script_scopes items)
  pub few_inner : length (extents_of (inner_script items)) < 2 ^ 32
  pub ordered : Rises 0 (extents_of (inner_script items))
  pub inner : AllStand (script_scopes items) [] (inner_script items)

-- the same of a function of this kind and name under this chain
pub record FunctionWithin (kind : FuncKind) (name : Option Text) (f : Function) (chain : List LinkView) : Type 0 where
  pub fit : FunctionFits f
  pub numbered : scopes_in kind name f < 2 ^ 64
  pub few_scopes : length (function_scopes kind name f) < 2 ^ 32
  pub slots : ScopesFit (function_scopes kind name f)
  pub few_inner : length (extents_of (inner_function kind name f)) < 2 ^ 32
  pub ordered : Rises 0 (extents_of (inner_function kind name f))
  pub chain_fits : ChainFits 60000 chain
  pub inner : AllStand (function_scopes kind name f) chain (inner_function kind name f)
