-- What a token is in the model: its kind, and its text in place of a number.
use Rattle.std.specs.Prelude.{ℕ, List, [], ◌∷◌, Bool, true, false, nat_eq, ◌≡◌, if◌then◌else◌, slice_index_or}
use Rattle.script_grammar.specs.declared.token.Token.{Token}
use Rattle.script_grammar.specs.declared.token.Kind.{Kind}
use Rattle.script_grammar.specs.declared.token.Kind.TheVariants as kind

-- What a Name is beside being a name. The words `get` and `set` are no reserved words, and begin an accessor in an
-- object literal (ECMA-262, 12th edition, clause 15.4).
pub data Role : Type 0 where
  get_role : Role
  set_role : Role
  no_role : Role

-- A token with its text: offsets are in bytes, and `after_line` says that a line end stands before it
-- (ECMA-262 clause 12).
pub record Lexeme : Type 0 where
  pub kind : Kind
  -- of a name, a word, a string or a part of a template, else nothing
  pub text : List ℕ
  -- of a number, else 0
  pub number : ℕ
  pub role : Role
  pub start : ℕ
  pub end : ℕ
  pub after_line : Bool

-- `get` and `set` as texts
abbrev pub get_text : List ℕ
get_text = 103 ∷ 101 ∷ 116 ∷ []

abbrev pub set_text : List ℕ
set_text = 115 ∷ 101 ∷ 116 ∷ []

abbrev pub same_text : List ℕ → List ℕ → Bool
same_text [] [] = true
same_text [] (b ∷ bs) = false
same_text (a ∷ as_) [] = false
same_text (a ∷ as_) (b ∷ bs) = if nat_eq a b then same_text as_ bs else false

-- the role of a Name of this text
abbrev pub role_of_text : List ℕ → Role
role_of_text text = if same_text text get_text then get_role else (if same_text text set_text then set_role else no_role)

-- the role of a token of this kind and text
abbrev pub role_of : Kind → List ℕ → Role
role_of kind.Name text = role_of_text text
role_of _ text = no_role

-- a token whose role is that of its text
abbrev pub HasItsRole : Lexeme → Type 0
HasItsRole t = t.role ≡ role_of t.kind t.text

abbrev pub HaveTheirRoles : List Lexeme → Type 0
HaveTheirRoles [] = Unit {0}
HaveTheirRoles (t ∷ ts) = HasItsRole t × HaveTheirRoles ts

-- the text that a token of this kind has, by its value as an index
abbrev pub text_of : List (List ℕ) → Kind → ℕ → List ℕ
text_of texts kind.Name value = slice_index_or texts value []
text_of texts kind.Number value = []
text_of texts kind.Str value = slice_index_or texts value []
text_of texts kind.TemplateWhole value = slice_index_or texts value []
text_of texts kind.TemplateHead value = slice_index_or texts value []
text_of texts kind.TemplateMiddle value = slice_index_or texts value []
text_of texts kind.TemplateTail value = slice_index_or texts value []
text_of texts (kind.Word i) value = slice_index_or texts value []
text_of texts (kind.Mark i) value = []
text_of texts kind.Bad value = []
text_of texts kind.End value = []

abbrev pub number_of : Kind → ℕ → ℕ
number_of kind.Number value = value
number_of _ value = 0

-- the role of a token of this kind and value, where these two atoms are `get` and `set`
abbrev pub role_at : ℕ → ℕ → Kind → ℕ → Role
role_at get_atom set_atom kind.Name value = if nat_eq value get_atom then get_role else (if nat_eq value set_atom then set_role else no_role)
role_at get_atom set_atom _ value = no_role

-- The lexeme that a token of the code is, over the texts that its atoms index, where these two are the atoms of `get`
-- and `set`.
abbrev pub lexeme_of : ℕ → ℕ → List (List ℕ) → Token → Lexeme
lexeme_of get_atom set_atom texts t = record {
  kind = t.kind;
  text = text_of texts t.kind t.value;
  number = number_of t.kind t.value;
  role = role_at get_atom set_atom t.kind t.value;
  start = t.start;
  end = t.end;
  after_line = t.after_line;
}
