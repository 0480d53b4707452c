-- What a file of source text is: a script, or refused at the first of these: its bytes are not UTF-8, its grammar has a
-- fault, it has an early error, it has not a function that is wanted.
use Rattle.std.specs.Prelude.{◌≡◌, ℕ, zero, suc, ◌≤◌, nat_lt, List, [], ◌∷◌, ◌++◌, get_or, All, Contains, filter, Some, None, IsUtf8}
use Rattle.std.specs.Str.Lossy.{utf8_valid_len}
use Rattle.script_grammar.specs.declared.token.Kind.TheVariants as kind
use Rattle.script_grammar.specs.Fault.{Refusal as Fault, Unexpected, TooDeep, FirstFault, ScriptPart, depth_limit}
use Rattle.script_grammar.specs.Lexeme.{Lexeme}
use Rattle.script_grammar.specs.Pieces.{whole, depths}
use Rattle.script_grammar.specs.Print.{print_stmts}
use Rattle.script_grammar.specs.Script as grammar
use Rattle.script_grammar.specs.Tree.{Stmts}
use Rattle.parse_track.specs.declared.region.Early.{Early}
use Rattle.parse_track.specs.Notes.{early_error}
use Rattle.session_words.specs.Asked.{Wanted}
use Rattle.session_words.specs.Asked as asked
use Rattle.compile_specs.specs.Counted.{HasFunctions}
use Rattle.script_scanner.specs.Lexemes.{lexemes}
use Rattle.session_specs.specs.Refusals.{Refusal}
use Rattle.session_specs.specs.Refusals as refusal

-- The tokens of a file, with End after them, are a script by the grammar, none of them is too deep, and this is its tree.
pub record IsRead (file : List ℕ) (items : Stmts) : Type 0 where
  pub utf8 : IsUtf8 file
  pub inner : List Lexeme
  pub end : Lexeme
  pub split : lexemes file ≡ inner ++ end ∷ []
  pub ends : end.kind ≡ kind.End
  pub script : grammar.IsScript inner end items
  pub shallow : (j : ℕ) → get_or (depths (print_stmts whole 0 items) inner end script.fits) j 0 ≤ depth_limit

-- a script without early errors, which has n functions
pub record IsValid (file : List ℕ) (items : Stmts) (count : ℕ) : Type 0 where
  pub read : IsRead file items
  pub faultless : early_error items ≡ None
  pub functions : HasFunctions items count

-- ---- the numbers that are wanted and that no function has

abbrev pub numbers : Wanted → List ℕ
numbers asked.All = []
numbers asked.Nothing = []
numbers (asked.Numbers ns) = ns

abbrev pub missing : ℕ → Wanted → List ℕ
missing count want = filter (λ n. nat_lt count n) (numbers want)

pub record IsLeastOf (ns : List ℕ) (n : ℕ) : Type 0 where
  pub is_one : Contains ns n
  pub least : All (λ m. n ≤ m) ns

-- ---- what a file is

-- the offset where token k starts
abbrev pub start_of : List Lexeme → ℕ → ℕ
start_of [] k = 0
start_of (t ∷ ts) zero = t.start
start_of (t ∷ ts) (suc k) = start_of ts k

-- a script of this tree and with n functions, or refused
pub data Source : Type 0 where
  IsScript : (items : Stmts) → (count : ℕ) → Source
  IsRefused : Refusal → Source

pub record NotUtf8 (file : List ℕ) (offset : ℕ) : Type 0 where
  pub utf8 : IsUtf8 file → ⊥
  pub front : offset ≡ utf8_valid_len file

pub record FaultAt (file : List ℕ) (why : Fault) (offset : ℕ) : Type 0 where
  pub utf8 : IsUtf8 file
  pub token : ℕ
  pub first : FirstFault (ScriptPart whole 0) (lexemes file) token why
  pub place : offset ≡ start_of (lexemes file) token

pub record ErrorAt (file : List ℕ) (error : Early) : Type 0 where
  pub items : Stmts
  pub read : IsRead file items
  pub first : early_error items ≡ Some error

pub record LacksFunction (file : List ℕ) (want : Wanted) (number : ℕ) : Type 0 where
  pub items : Stmts
  pub count : ℕ
  pub valid : IsValid file items count
  pub least : IsLeastOf (missing count want) number

pub record HasAll (file : List ℕ) (want : Wanted) (items : Stmts) (count : ℕ) : Type 0 where
  pub valid : IsValid file items count
  pub present : missing count want ≡ []

-- what a file of source text is, of which these functions are wanted
abbrev pub IsSource : Wanted → List ℕ → Source → Type 0
IsSource want file (IsScript items count) = HasAll file want items count
IsSource want file (IsRefused refusal.TooLong) = ⊥
IsSource want file (IsRefused (refusal.BadUtf8 offset)) = NotUtf8 file offset
IsSource want file (IsRefused (refusal.Unexpected offset)) = FaultAt file Unexpected offset
IsSource want file (IsRefused (refusal.TooDeep offset)) = FaultAt file TooDeep offset
IsSource want file (IsRefused (refusal.Early offset rule)) = ErrorAt file (record { offset = offset; rule = rule })
IsSource want file (IsRefused (refusal.NoFunction number)) = LacksFunction file want number
IsSource want file (IsRefused refusal.NoImage) = ⊥
