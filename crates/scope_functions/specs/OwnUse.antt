-- Whether a part of a tree uses a name itself: functions inside it left out, and no scope in it binds the name there.
use Rattle.std.specs.Prelude.{Bool}
use Rattle.scope_analysis.specs.DeclaredNames.{Text, has_text}
use Rattle.scope_analysis.specs.Uses.{Uses}

abbrev pub uses_itself : Uses → Text → Bool
uses_itself u name = has_text u.own name
