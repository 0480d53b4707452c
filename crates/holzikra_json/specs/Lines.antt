-- The members that the object of each file has, and the line of an object. The names of members are this project's own choice; values
-- and texts are those of the kit's `serde_json`.
use Rattle.std.specs.Prelude.{◌≡◌, ℕ, ◌≤◌, List, ◌++◌, false, Option, Some, None, codes}
use Rattle.serde_json.specs.Data.{Data, Members, null, number, unsigned, string, no_members, put, depth}
use Rattle.serde_json.specs.Read.{max_depth, read}
use Rattle.serde_json.specs.View.{members_view}
use Rattle.serde_json.specs.Written.{compact_text, has_float}
use Rattle.holzikra_json.specs.declared.Members.{Members as Builder}

-- what was put in
abbrev pub members_of : Builder → Members
members_of builder = members_view builder.map.entries

abbrev pub whole : ℕ → Data
whole n = number (unsigned n)

-- a number, or null
abbrev pub whole_or_null : Option ℕ → Data
whole_or_null None = null
whole_or_null (Some n) = whole n

-- the object of a file of this name, of which this word says what it is
abbrev pub file_members : (name kind : List ℕ) → Members
file_members name kind =
    put (codes "kind") (string kind) (put (codes "format") (string (codes "holzikra-1")) (put (codes "file") (string name) no_members))

-- the line is the text of the value, and what is read of it is the value
pub record IsLine (value : Data) (line : List ℕ) : Type 0 where
  pub text : List ℕ
  pub ends : line ≡ text ++ codes "\n"
  pub compact : has_float value ≡ false → text ≡ compact_text value
  pub reads_back : depth value ≤ max_depth → read text ≡ Some value
