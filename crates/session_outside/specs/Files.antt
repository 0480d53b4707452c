-- Files kept in memory, as a list of names with their bytes.
use Rattle.std.specs.Prelude.{ℕ, List, [], position, String, slice_get, Option, Some, None}
use Rattle.std.specs.declared.alloc.Global.{Global}
use Rattle.std.specs.String.{string_bytes}
use Rattle.std.specs.Prelude.{Vec}
use Rattle.std.specs.Str.{bytes_eq}

-- a file: its name and its bytes
abbrev pub File : Type 0
File = String Global × Vec ℕ Global

-- the bytes of the file in a place, none where there is no file
abbrev pub contents : Option File → List ℕ
contents None = []
contents (Some file) = file.1.items

-- the bytes of the file in a place of the list, none for no place
abbrev pub bytes_at : List File → Option ℕ → List ℕ
bytes_at files None = []
bytes_at files (Some place) = contents (slice_get files place)

-- the place of the first file of this name
abbrev pub place_of : List File → List ℕ → Option ℕ
place_of files name = position (λ file. bytes_eq (string_bytes file.0) name) files

-- the bytes that a name holds: those of the first file of this name, none where there is none
abbrev pub held_by : List File → List ℕ → List ℕ
held_by files name = bytes_at files (place_of files name)
