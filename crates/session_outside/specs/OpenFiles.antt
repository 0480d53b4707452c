-- What open files in memory stand for.
use Rattle.std.specs.Prelude.{ℕ, List, map, drop}
use Rattle.std.specs.String.{string_bytes}
use Rattle.session_outside.specs.Files.{bytes_at}
use Rattle.session_outside.specs.declared.memory_shelf.OpenFiles.{OpenFiles}

-- what is left to be read of the file in the place that is read
abbrev pub left_of : OpenFiles → List ℕ
left_of shelf = drop shelf.done (bytes_at shelf.files.items shelf.place)

-- the names that were turned to
abbrev pub names_of : OpenFiles → List (List ℕ)
names_of shelf = map string_bytes shelf.names.items
